-- Caches that are linked one after the other.
use Rattle.std.proofs.Common.{◌≡◌, ◌≢◌, ◌||◌, ℕ, suc, Bool, true, false, cond, List, [], ◌∷◌, ◌++◌, length, Option, Some, None, refl, sym, ap, subst, ◌∙◌, inl, inr}
use Rattle.std.specs.Prelude.{filter, not, option_map, option_and_then}
use Rattle.std.specs.List.{AllByRecursion}
use Rattle.std.specs.Option.{option_map_or}
use Rattle.std.proofs.lemmas.Bool.{cases_eq, eq-eqb, ne_eqb}
use Rattle.interface_callers.proofs.Words.{CacheId}
use Rattle.seg_manager.specs.Inner.{is_of}
use Rattle.seg_manager.specs.Keeps.{AreOnce, is_kept}
use Rattle.seg_manager.specs.Linked.{Linked, link_of}
use Rattle.seg_manager.specs.Ring.{AreLinked, after_of, before_of, kept_of, walk}
use Rattle.seg_manager.specs.declared.links.Link.{Link}
use Rattle.seg_manager.specs.declared.tables.Kept.{Kept}

-- Which caches are among these

-- the first is another one, and so are the others
pub not_kept : (k : Kept) (ks : List Kept) (n : ℕ) → is_kept (k ∷ ks) n ≡ false → (k.cache.0 ≢ n) × (is_kept ks n ≡ false)
not_kept k ks n e = elim (cases_eq k.cache.0 n) [
  | inl is ↦ absurd (let wrong : true ≡ false = ap (λ (b : Bool). b || is_kept ks n) (sym (eq-eqb k.cache.0 n is)) ∙ e in cc wrong)
  | inr other ↦ (other, ap (λ (b : Bool). b || is_kept ks n) (sym (ne_eqb k.cache.0 n other)) ∙ e)
]

kept_later : (k : Kept) (ks : List Kept) (n : ℕ) → k.cache.0 ≢ n → is_kept (k ∷ ks) n ≡ true → is_kept ks n ≡ true
kept_later k ks n other e = ap (λ (b : Bool). b || is_kept ks n) (sym (ne_eqb k.cache.0 n other)) ∙ e

pub filter_out : (n : ℕ) (ks : List Kept) → is_kept ks n ≡ false → filter (λ k. not (is_of n k)) ks ≡ ks
filter_out n [] e = refl
filter_out n (k ∷ ks) e =
    let parts = not_kept k ks n e in
    ap (λ (b : Bool). cond (not b) (k ∷ filter (λ k. not (is_of n k)) ks) (filter (λ k. not (is_of n k)) ks)) (ne_eqb k.cache.0 n parts.0)
    ∙ ap (λ (rest : List Kept). k ∷ rest) (filter_out n ks parts.1)

-- a cache that is none of these
abbrev pub IsOut : Option CacheId → List Kept → Type 0
IsOut None ks = Unit {0}
IsOut (Some d) ks = is_kept ks d.0 ≡ false

number : (c d : CacheId) → Some c ≡ Some d → c.0 ≡ d.0
number c d e = let same : c ≡ d = cc e in ap (λ (x : CacheId). x.0) same

out_first : (s : Option CacheId) (k : Kept) (ks : List Kept) → IsOut s (k ∷ ks) → (Some k.cache ≢ s) × IsOut s ks
out_first None k ks out = (λ e. absurd (cc e), tt)
out_first (Some d) k ks out = (λ e. (not_kept k ks d.0 out).0 (number k.cache d e), (not_kept k ks d.0 out).1)

out_of : (s : Option CacheId) (c : CacheId) (ks : List Kept) → IsOut s ks → is_kept ks c.0 ≡ true → s ≢ Some c
out_of None c ks out e is = absurd (cc is)
out_of (Some d) c ks out e is = let wrong : true ≡ false = sym e ∙ ap (is_kept ks) (sym (number d c is)) ∙ out in absurd (cc wrong)

-- Links before a change, and then

module _ (after before after_then before_then : Option CacheId → Option CacheId) (kept kept_then : ℕ → Option Kept) where
  abbrev Was : Option CacheId → List Kept → Type 0
  Was = AreLinked after before kept

  abbrev Is : Option CacheId → List Kept → Type 0
  Is = AreLinked after_then before_then kept_then

  abbrev Stays : Kept → Type 0
  Stays k =
      (after_then (Some k.cache) ≡ after (Some k.cache)) × (before_then (Some k.cache) ≡ before (Some k.cache)) × (kept_then k.cache.0 ≡ kept k.cache.0)

  stays : (s : Option CacheId) (ks : List Kept) → after_then s ≡ after s → before_then None ≡ before None → AllByRecursion Stays ks → Was s ks → Is s ks
  stays s [] a b all w = (a ∙ w.0, b ∙ w.1)
  stays s (k ∷ ks) a b all w = (a ∙ w.0, all.0.1 ∙ w.1, all.0.2 ∙ w.2, stays (Some k.cache) ks all.0.0 b all.1 w.3)

  -- A cache goes

  back : (s : Option CacheId) (ks : List Kept) → Was s ks → before (after s) ≡ s
  back s [] w = ap before w.0 ∙ w.1
  back s (k ∷ ks) w = ap before w.0 ∙ w.1

  -- its neighbours are linked with it
  pub beside : (c : CacheId) (s : Option CacheId) (ks : List Kept) → Was s ks → is_kept ks c.0 ≡ true → (after (before (Some c)) ≡ Some c) × (before (after (Some c)) ≡ Some c)
  beside c s [] w e = absurd (cc e)
  beside c s (k ∷ ks) w e = elim (cases_eq k.cache.0 c.0) [
    | inl is ↦
        let same : k.cache ≡ c = ap (λ (n : ℕ). record { 0 = n }) is in (
          ap (λ (x : CacheId). after (before (Some x))) (sym same) ∙ ap after w.1 ∙ w.0 ∙ ap (λ (x : CacheId). Some x) same,
          subst (λ (x : CacheId). before (after (Some x)) ≡ Some x) same (back (Some k.cache) ks w.3),
        )
    | inr other ↦ beside c (Some k.cache) ks w.3 (kept_later k ks c.0 other e)
  ]

  module _ (c : CacheId)
      (at_after : (s : Option CacheId) → s ≡ before (Some c) → s ≢ Some c → after s ≡ Some c → after_then s ≡ after (Some c))
      (off_after : (s : Option CacheId) → s ≢ before (Some c) → s ≢ Some c → after_then s ≡ after s)
      (at_before : (t : Option CacheId) → t ≡ after (Some c) → t ≢ Some c → before t ≡ Some c → before_then t ≡ before (Some c))
      (off_before : (t : Option CacheId) → t ≢ after (Some c) → t ≢ Some c → before_then t ≡ before t)
      (off_kept : (n : ℕ) → n ≢ c.0 → kept_then n ≡ kept n) where
    each : (s : Option CacheId) (l : CacheId) (ks : List Kept) → before (Some c) ≡ s → after (Some c) ≡ Some l → is_kept ks c.0 ≡ false → IsOut s ks → is_kept ks l.0 ≡ false → AllByRecursion Stays ks
    each s l [] b a free out once = tt
    each s l (k ∷ ks) b a free out once =
        let other = not_kept k ks c.0 free in
        let outer = out_first s k ks out in
        let twice = not_kept k ks l.0 once in (
          (
            off_after (Some k.cache) (λ e. outer.0 (e ∙ b)) (λ e. other.0 (number k.cache c e)),
            off_before (Some k.cache) (λ e. twice.0 (number k.cache l (e ∙ a))) (λ e. other.0 (number k.cache c e)),
            off_kept k.cache.0 other.0,
          ),
          each s l ks b a other.1 outer.1 twice.1,
        )

    skips : (s : Option CacheId) (ks : List Kept) → Was (Some c) ks → before (Some c) ≡ s → after s ≡ Some c → s ≢ Some c → is_kept ks c.0 ≡ false → AreOnce ks → IsOut s ks → Is s ks
    skips s [] w b a apart free once out = (at_after s (sym b) apart a ∙ w.0, at_before None (sym w.0) (λ e. absurd (cc e)) w.1 ∙ b)
    skips s (k ∷ ks) w b a apart free once out =
        let other = not_kept k ks c.0 free in
        let outer = out_first s k ks out in (
          at_after s (sym b) apart a ∙ w.0,
          at_before (Some k.cache) (sym w.0) (λ e. other.0 (number k.cache c e)) w.1 ∙ b,
          off_kept k.cache.0 other.0 ∙ w.2,
          stays (Some k.cache) ks
              (off_after (Some k.cache) (λ e. outer.0 (e ∙ b)) (λ e. other.0 (number k.cache c e)))
              (off_before None (λ e. let wrong : None ≡ Some k.cache = e ∙ w.0 in absurd (cc wrong)) (λ e. absurd (cc e)))
              (each s k.cache ks b w.0 other.1 outer.1 once.0)
              w.3,
        )

    -- it is linked no longer
    pub unlinks : (s : Option CacheId) (ks : List Kept) → Was s ks → AreOnce ks → is_kept ks c.0 ≡ true → IsOut s ks → Is s (filter (λ k. not (is_of c.0 k)) ks)
    unlinks s [] w once e out = absurd (cc e)
    unlinks s (k ∷ ks) w once e out =
        let beside_it = beside c s (k ∷ ks) w e in
        let apart = out_of s c (k ∷ ks) out e in
        elim (cases_eq k.cache.0 c.0) [
          | inl is ↦
              let same : k.cache ≡ c = ap (λ (n : ℕ). record { 0 = n }) is in
              let free : is_kept ks c.0 ≡ false = ap (is_kept ks) (sym is) ∙ once.0 in
              subst (Is s)
              (sym (ap (λ (b : Bool). cond (not b) (k ∷ filter (λ k. not (is_of c.0 k)) ks) (filter (λ k. not (is_of c.0 k)) ks)) (eq-eqb k.cache.0 c.0 is) ∙ filter_out c.0 ks free))
              (skips s ks (subst (λ (x : CacheId). Was (Some x) ks) same w.3) (ap (λ (x : CacheId). before (Some x)) (sym same) ∙ w.1) (w.0 ∙ ap (λ (x : CacheId). Some x) same) apart free once.1 (out_first s k ks out).1)
          | inr other ↦
              subst (Is s)
              (sym (ap (λ (b : Bool). cond (not b) (k ∷ filter (λ k. not (is_of c.0 k)) ks) (filter (λ k. not (is_of c.0 k)) ks)) (ne_eqb k.cache.0 c.0 other))) (
                off_after s (λ is. other (number k.cache c (sym w.0 ∙ ap after is ∙ beside_it.0))) apart ∙ w.0,
                off_before (Some k.cache) (λ is. apart (sym w.1 ∙ ap before is ∙ beside_it.1)) (λ is. other (number k.cache c is)) ∙ w.1,
                off_kept k.cache.0 other ∙ w.2,
                unlinks (Some k.cache) ks w.3 once.1 (kept_later k ks c.0 other e) once.0,
              )
        ]

  -- Another one comes last

  ends : (s : Option CacheId) (ks : List Kept) → Was s ks → after (before None) ≡ None
  ends s [] w = ap after w.1 ∙ w.0
  ends s (k ∷ ks) w = ends (Some k.cache) ks w.3

  module _ (k : Kept) (at_last : after (before None) ≡ None → before None ≢ Some k.cache → after_then (before None) ≡ Some k.cache)
      (off_after : (s : Option CacheId) → s ≢ before None → s ≢ Some k.cache → after_then s ≡ after s)
      (new_after : after_then (Some k.cache) ≡ None) (new_before : before_then (Some k.cache) ≡ before None) (new_last : before_then None ≡ Some k.cache)
      (off_before : (t : Option CacheId) → t ≢ None → t ≢ Some k.cache → before_then t ≡ before t)
      (new_kept : kept_then k.cache.0 ≡ Some k) (off_kept : (n : ℕ) → n ≢ k.cache.0 → kept_then n ≡ kept n) where
    -- it is linked behind the others
    pub links_last : (s : Option CacheId) (ks : List Kept) → Was s ks → s ≢ Some k.cache → is_kept ks k.cache.0 ≡ false → Is s (ks ++ k ∷ [])
    links_last s [] w apart free = (
      ap after_then (sym w.1) ∙ at_last (ends s [] w) (λ e. apart (sym w.1 ∙ e)),
      new_before ∙ w.1,
      new_kept,
      (new_after, new_last),
    )
    links_last s (l ∷ ls) w apart free =
        let other = not_kept l ls k.cache.0 free in (
          off_after s (λ e. let wrong : Some l.cache ≡ None = sym w.0 ∙ ap after e ∙ ends s (l ∷ ls) w in absurd (cc wrong)) apart ∙ w.0,
          off_before (Some l.cache) (λ e. absurd (cc e)) (λ e. other.0 (number l.cache k.cache e)) ∙ w.1,
          off_kept l.cache.0 other.0 ∙ w.2,
          links_last (Some l.cache) ls w.3 (λ e. other.0 (number l.cache k.cache e)) other.1,
        )

-- those that are linked are gone through
pub walked : (l : Linked) (s : Option CacheId) (ks : List Kept) → AreLinked (after_of l) (before_of l) (kept_of l) s ks → walk l (length ks) (after_of l s) ≡ ks
walked l s [] w = refl
walked l s (k ∷ ks) w = ap (walk l (suc (length ks))) w.0 ∙ by (link_of l k.cache.0) w.2 (walked l (Some k.cache) ks w.3)
  where
    by : (o : Option Link) → option_map (λ (x : Link). x.kept) o ≡ Some k → walk l (length ks) (option_and_then (λ (x : Link). x.after) o) ≡ ks → option_map_or (λ (x : Link). x.kept ∷ walk l (length ks) x.after) o [] ≡ k ∷ ks
    by None e f = absurd (cc e)
    by (Some x) e f = let same : x.kept ≡ k = cc e in (λ i. same i ∷ f i)
