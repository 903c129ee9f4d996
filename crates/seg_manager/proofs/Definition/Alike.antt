-- Two machines of which the second is the first but for the numbers of caches: what they have in
-- common, and how they stay so.
use Rattle.std.proofs.Common.{◌≡◌, ◌≢◌, ◌==◌, inl, inr, ℕ, zero, suc, ◌+◌, ◌-◌, ◌<◌, ◌≤◌, Bool, true, false, cond, List, [], ◌∷◌, ◌++◌, length, map, replicate, set, Option, Some, None, refl, sym, ap, subst, ◌∙◌, arith}
use Rattle.std.specs.Prelude.{◌||◌, IsSome, not, nat_le, nat_lt, option_and_then, option_map, slice_get}
use Rattle.std.specs.List.{list_any}
use Rattle.std.specs.Option.{option_map_or}
use Rattle.std.proofs.lemmas.Bool.{cases_eq, eq-eqb, eqb-true, ne_eqb}
use Rattle.std.proofs.lemmas.Bool.Decides.{nat_tests}
use Rattle.vm_model.proofs.Parts.ListParts.{at_some, at_zero, numbered_set, numbered_set_other, zero_or}
use Rattle.vm_model.proofs.Parts.Lists.{get_set_other, get_set_same, numbered-map, numbered_place}
use Rattle.interface_callers.proofs.Words.{Actor, Cache, Machine, actor_of, cache_of, is_locked_page, is_mapped, is_named_by, locks_any, maps_in, numbered, put_cache, segment_of}
use Rattle.seg_manager.specs.Limits.{IsRenamed, Renaming, renamed_actors, renamed_region, with_pair}
use Rattle.seg_manager.specs.ReferenceMachine.{ReferenceMachine, goes, let_go, number_in, number_named, stored_from, used_at, with_cache}
use Rattle.seg_manager.proofs.Lookup.Entries.{fun_same}
use Rattle.seg_manager.proofs.Seeing.WhichGo.{Caches, numbered_used}
use Rattle.seg_manager.proofs.Seeing.Naming.{none_goes}
use Rattle.seg_manager.proofs.Definition.Renaming.{actors_agree, locked_renamed, mapped_renamed, pair_at, pair_back, pair_other, pair_taken}
use Rattle.seg_manager.proofs.Definition.Reopening.{no_number}
use Rattle.seg_manager.proofs.Seeing.StoredPages.{named_self, stored_one}

-- A cache under a new number

abbrev padded : Caches → ℕ → Cache → Caches
padded cs n c = cs ++ (replicate n None ++ Some c ∷ [])

module _ (c : Cache) where
  last_there : (n : ℕ) → slice_get (padded [] n c) n ≡ Some (Some c)
  last_there zero = refl
  last_there (suc n) = last_there n

  last_alone : (n i : ℕ) → i ≢ n → option_and_then (λ (x : Option Cache). x) (slice_get (padded [] n c) i) ≡ None
  last_alone zero zero apart = absurd (apart refl)
  last_alone zero (suc i) apart = refl
  last_alone (suc n) zero apart = refl
  last_alone (suc n) (suc i) apart = last_alone n i (λ e. apart (ap suc e))

  pad_there : (cs : Caches) (n i : ℕ) → i ≡ length cs + n → slice_get (padded cs n c) i ≡ Some (Some c)
  pad_there [] n i e = ap (slice_get (padded [] n c)) (let s : i ≡ n = omega (arith, e) in s) ∙ last_there n
  pad_there (x ∷ cs) n zero e = absurd (omega (arith, e))
  pad_there (x ∷ cs) n (suc i) e = pad_there cs n i (omega (arith, e))

  pad_other : (cs : Caches) (n i : ℕ) → i ≢ length cs + n → option_and_then (λ (x : Option Cache). x) (slice_get (padded cs n c) i) ≡ option_and_then (λ (x : Option Cache). x) (slice_get cs i)
  pad_other [] n i apart = last_alone n i (λ e. apart (omega (arith, e)))
  pad_other (x ∷ cs) n zero apart = refl
  pad_other (x ∷ cs) n (suc i) apart = pad_other cs n i (λ e. apart (omega (arith, e)))

  module _ (cs : Caches) (j : ℕ) (some : 1 ≤ j) where
    pub new_there : numbered (with_cache cs j c) j ≡ Some c
    new_there = at_some (with_cache cs j c) j some ∙ ap (option_and_then (λ (x : Option Cache). x)) (by (nat_le j (length cs)) refl)
      where
        by : (b : Bool) → nat_le j (length cs) ≡ b → slice_get (cond b (set cs (j - 1) (Some c)) (padded cs (j - 1 - length cs) c)) (j - 1) ≡ Some (Some c)
        by true e = get_set_same cs (j - 1) (Some c) (let less : j ≤ length cs = grind (arith, nat_tests) in omega (arith, less, some))
        by false e = pad_there cs (j - 1 - length cs) (j - 1) (let less : length cs < j = grind (arith, nat_tests) in omega (arith, less))

    pub new_other : (a : ℕ) → a ≢ j → numbered (with_cache cs j c) a ≡ numbered cs a
    new_other a apart = elim (zero_or a) [
      | inl e ↦ at_zero (with_cache cs j c) a e ∙ sym (at_zero cs a e)
      | inr big ↦ at_some (with_cache cs j c) a big ∙ by big (nat_le j (length cs)) refl ∙ sym (at_some cs a big)
    ]
      where
        by : 1 ≤ a → (b : Bool) → nat_le j (length cs) ≡ b → option_and_then (λ (x : Option Cache). x) (slice_get (cond b (set cs (j - 1) (Some c)) (padded cs (j - 1 - length cs) c)) (a - 1)) ≡ option_and_then (λ (x : Option Cache). x) (slice_get cs (a - 1))
        by big true e = ap (option_and_then (λ (x : Option Cache). x)) (get_set_other cs (j - 1) (a - 1) (Some c) (λ q. apart (omega (arith, q, some, big))))
        by big false e = pad_other cs (j - 1 - length cs) (a - 1) (λ q. apart (let less : length cs < j = grind (arith, nat_tests) in omega (arith, q, less, some, big)))

-- The number of a segment's cache

-- no two caches are of one segment
abbrev pub AreApart : Machine → Type 0
AreApart m = (j k seg : ℕ) → segment_of m j ≡ Some seg → segment_of m k ≡ Some seg → j ≡ k

-- where a cache of the segment is
pub record IsAt (seg : ℕ) (m : Machine) (a : ℕ) : Type 0 where
  pub cache : Cache
  pub some : 1 ≤ a
  pub there : slice_get m.caches (a - 1) ≡ Some (Some cache)
  pub named : cache.segment ≡ Some seg

named_seg : (seg : ℕ) (o : Option ℕ) → option_map_or (λ s. s == seg) o false ≡ true → o ≡ Some seg
named_seg seg None e = absurd (cc e)
named_seg seg (Some s) e = ap (λ (n : ℕ). Some n) (eqb-true s seg e)

module _ (seg : ℕ) where
  number_found : (k : ℕ) (cs : Caches) (a : ℕ) → number_in k cs seg ≡ Some a → (c : Cache) × (k ≤ a) × (slice_get cs (a - k) ≡ Some (Some c)) × (c.segment ≡ Some seg)
  number_found k [] a e = absurd (cc e)
  number_found k (o ∷ cs) a e = by o (is_named_by seg o) refl e (number_found (k + 1) cs a)
    where
      by : (o : Option Cache) (b : Bool) → is_named_by seg o ≡ b → cond b (Some k) (number_in (k + 1) cs seg) ≡ Some a
          → (number_in (k + 1) cs seg ≡ Some a → (c : Cache) × (k + 1 ≤ a) × (slice_get cs (a - (k + 1)) ≡ Some (Some c)) × (c.segment ≡ Some seg))
          → (c : Cache) × (k ≤ a) × (slice_get (o ∷ cs) (a - k) ≡ Some (Some c)) × (c.segment ≡ Some seg)
      by None true n e rest = absurd (cc n)
      by (Some c) true n e rest =
          let same : k ≡ a = cc e in
          (c, omega (arith, same), ap (slice_get (Some c ∷ cs)) (let z : a - k ≡ 0 = omega (arith, same) in z), named_seg seg c.segment n)
      by o false n e rest =
          let r = rest e in
          (r.0, omega (arith, r.1), ap (slice_get (o ∷ cs)) (let z : a - k ≡ suc (a - (k + 1)) = omega (arith, r.1) in z) ∙ r.2, r.3)

  pub is_at : (m : Machine) (a : ℕ) → number_in 1 m.caches seg ≡ Some a → IsAt seg m a
  is_at m a e = let r = number_found 1 m.caches a e in record { cache = r.0; some = r.1; there = r.2; named = r.3 }

  pub at_cache : (m : Machine) (a : ℕ) (it : IsAt seg m a) → cache_of m a ≡ Some it.cache
  at_cache m a it = at_some m.caches a it.some ∙ ap (option_and_then (λ (x : Option Cache). x)) it.there

  pub at_segment : (m : Machine) (a : ℕ) → IsAt seg m a → segment_of m a ≡ Some seg
  at_segment m a it = ap (option_and_then (λ (c : Cache). c.segment)) (at_cache m a it) ∙ it.named

  pub at_by : (m : Machine) (a : ℕ) → segment_of m a ≡ Some seg → IsAt seg m a
  at_by m a e = by (cache_of m a) refl e
    where
      by : (o : Option Cache) → cache_of m a ≡ o → option_and_then (λ (c : Cache). c.segment) o ≡ Some seg → IsAt seg m a
      by None there e = absurd (cc e)
      by (Some c) there e = let place = numbered_place m.caches a c there in record { cache = c; some = place.0; there = place.1; named = e }

  none_there : (k : ℕ) (cs : Caches) (i : ℕ) (c : Cache) → slice_get cs i ≡ Some (Some c) → is_named_by seg (Some c) ≡ true → number_in k cs seg ≡ None → ⊥
  none_there k [] i c there named e = cc there
  none_there k (o ∷ cs) i c there named e = by (is_named_by seg o) refl i there e (none_there (k + 1) cs)
    where
      by : (b : Bool) → is_named_by seg o ≡ b → (i : ℕ) → slice_get (o ∷ cs) i ≡ Some (Some c) → cond b (Some k) (number_in (k + 1) cs seg) ≡ None
          → ((i : ℕ) (c : Cache) → slice_get cs i ≡ Some (Some c) → is_named_by seg (Some c) ≡ true → number_in (k + 1) cs seg ≡ None → ⊥) → ⊥
      by true n i there e rest = cc e
      by false n zero there e rest = let same : o ≡ Some c = cc there in let wrong : is_named_by seg o ≡ true = ap (is_named_by seg) same ∙ named in cc (n, wrong)
      by false n (suc i) there e rest = rest i c there named e

  pub nowhere : (m : Machine) (a : ℕ) → number_in 1 m.caches seg ≡ None → segment_of m a ≡ Some seg → ⊥
  nowhere m a none e = let it = at_by m a e in none_there 1 m.caches (a - 1) it.cache it.there (named_self seg it.cache it.named) none

  pub number_is : (m : Machine) (a : ℕ) → AreApart m → segment_of m a ≡ Some seg → number_in 1 m.caches seg ≡ Some a
  number_is m a apart e = by (number_in 1 m.caches seg) refl
    where
      by : (o : Option ℕ) → number_in 1 m.caches seg ≡ o → o ≡ Some a
      by None none = absurd (nowhere m a none e)
      by (Some b) is = ap (λ (k : ℕ). Some k) (apart b a seg (at_segment m b (is_at m b is)) e)

-- The machines

-- One is the other but for the numbers of caches, of which no two stand for one. What is mapped
-- lives.
pub record Matches (r : Renaming) (m n : Machine) : Type 0 where
  pub is : IsRenamed r m n
  pub back : Renaming
  pub there : (a : ℕ) → back (r a) ≡ a
  pub here : (b : ℕ) → r (back b) ≡ b
  pub live : (k : ℕ) → is_mapped m k ≡ true → IsSome (cache_of m k)
  pub apart : AreApart m

module _ (r : Renaming) (m n : Machine) (M : Matches r m n) where
  pub one : (a b : ℕ) → r a ≡ r b → a ≡ b
  one a b e = sym (M.there a) ∙ ap M.back e ∙ M.there b

  pub same : (a b : ℕ) → (r a == r b) ≡ (a == b)
  same a b = elim (cases_eq a b) [
    | inl e ↦ eq-eqb (r a) (r b) (ap r e) ∙ sym (eq-eqb a b e)
    | inr apart ↦ ne_eqb (r a) (r b) (λ e. apart (one a b e)) ∙ sym (ne_eqb a b apart)
  ]

  pub mapped : (k : ℕ) → is_mapped n (r k) ≡ is_mapped m k
  mapped k = ap (list_any (maps_in (r k))) M.is.actors ∙ mapped_renamed r same k m.actors

  pub locked : (cache page : ℕ) → is_locked_page n (r cache) page ≡ is_locked_page m cache page
  locked cache page = ap (list_any (locks_any (r cache) page)) M.is.actors ∙ locked_renamed r same cache page m.actors

  pub segment : (k : ℕ) → segment_of n (r k) ≡ segment_of m k
  segment k = ap (option_and_then (λ (c : Cache). c.segment)) (M.is.caches k)

  pub actor : (a : ℕ) → actor_of n a ≡ option_map (map (renamed_region r)) (actor_of m a)
  actor a = ap (λ (xs : List (Option Actor)). numbered xs a) M.is.actors ∙ numbered-map (map (renamed_region r)) m.actors a

  back_segment : (b : ℕ) → segment_of n b ≡ segment_of m (M.back b)
  back_segment b = ap (segment_of n) (sym (M.here b)) ∙ segment (M.back b)

  apart_too : AreApart n
  apart_too j k seg e f =
      sym (M.here j) ∙ ap r (M.apart (M.back j) (M.back k) seg (sym (back_segment j) ∙ e) (sym (back_segment k) ∙ f)) ∙ M.here k

  pub number_same : (seg : ℕ) (o : Option ℕ) → number_in 1 m.caches seg ≡ o → number_in 1 n.caches seg ≡ option_map r o
  number_same seg (Some a) e = number_is seg n (r a) apart_too (segment a ∙ at_segment seg m a (is_at seg m a e))
  number_same seg None e = by (number_in 1 n.caches seg) refl
    where
      by : (o : Option ℕ) → number_in 1 n.caches seg ≡ o → o ≡ None
      by None is = refl
      by (Some b) is = absurd (nowhere seg m (M.back b) e (sym (back_segment b) ∙ at_segment seg n b (is_at seg n b is)))

  -- other actors and regions
  pub with_actors : (xs ys : List (Option Actor)) (made more : ℕ) → ys ≡ renamed_actors r xs → more ≡ made → ((k : ℕ) → list_any (maps_in k) xs ≡ true → IsSome (cache_of m k))
      → Matches r (record m { actors = xs; regions_made = made }) (record n { actors = ys; regions_made = more })
  with_actors xs ys made more actors regions lives = record {
    is = record { page_bytes = M.is.page_bytes; caches = M.is.caches; actors = actors; regions_made = regions };
    back = M.back;
    there = M.there;
    here = M.here;
    live = lives;
    apart = M.apart;
  }

  -- other pages of a cache
  module _ (k : ℕ) (c d : Cache) (there : cache_of m k ≡ Some c) (segments : d.segment ≡ c.segment) where
    put_here : (j : ℕ) → j ≡ k → cache_of (put_cache m k d) j ≡ Some d
    put_here j e = ap (cache_of (put_cache m k d)) e ∙ numbered_set m.caches k c (Some d) there

    put_other : (j : ℕ) → j ≢ k → cache_of (put_cache m k d) j ≡ cache_of m j
    put_other j apart = numbered_set_other m.caches k j (Some d) (numbered_place m.caches k c there).0 apart

    put_segment : (j : ℕ) → segment_of (put_cache m k d) j ≡ segment_of m j
    put_segment j = elim (cases_eq j k) [
      | inl e ↦ ap (option_and_then (λ (x : Cache). x.segment)) (put_here j e) ∙ segments ∙ sym (ap (option_and_then (λ (x : Cache). x.segment)) (ap (cache_of m) e ∙ there))
      | inr apart ↦ ap (option_and_then (λ (x : Cache). x.segment)) (put_other j apart)
    ]

    there_too : cache_of n (r k) ≡ Some c
    there_too = M.is.caches k ∙ there

    pub with_put : Matches r (put_cache m k d) (put_cache n (r k) d)
    with_put = record {
      is = record {
        page_bytes = M.is.page_bytes;
        caches = λ j. elim (cases_eq j k) [
          | inl e ↦ ap (λ (a : ℕ). cache_of (put_cache n (r k) d) (r a)) e ∙ numbered_set n.caches (r k) c (Some d) there_too ∙ sym (put_here j e)
          | inr apart ↦ numbered_set_other n.caches (r k) (r j) (Some d) (numbered_place n.caches (r k) c there_too).0 (λ e. apart (one j k e)) ∙ M.is.caches j ∙ sym (put_other j apart)
        ];
        actors = M.is.actors;
        regions_made = M.is.regions_made;
      };
      back = M.back;
      there = M.there;
      here = M.here;
      live = λ j e. elim (cases_eq j k) [
        | inl q ↦ subst IsSome (sym (put_here j q)) refl
        | inr apart ↦ subst IsSome (sym (put_other j apart)) (M.live j e)
      ];
      apart = λ i j seg e f. M.apart i j seg (sym (put_segment i) ∙ e) (sym (put_segment j) ∙ f);
    }

  -- a new cache
  module _ (j k : ℕ) (c : Cache) (some : 1 ≤ j) (free : cache_of m j ≡ None) (some_too : 1 ≤ k) (free_too : cache_of n k ≡ None) (alone : (seg a : ℕ) → c.segment ≡ Some seg → segment_of m a ≡ Some seg → ⊥) where
    abbrev more : Machine
    more = record m { caches = with_cache m.caches j c }

    abbrev more_too : Machine
    more_too = record n { caches = with_cache n.caches k c }

    caches : (a : ℕ) → cache_of more_too (with_pair j k r a) ≡ cache_of more a
    caches a = elim (cases_eq a j) [
      | inl e ↦ ap (cache_of more_too) (pair_at j k r a e) ∙ new_there c n.caches k some_too ∙ sym (ap (cache_of more) e ∙ new_there c m.caches j some)
      | inr apart ↦ elim (cases_eq (r a) k) [
        | inl e ↦ ap (cache_of more_too) (pair_taken j k r a apart e)
            ∙ new_other c n.caches k some_too (r j) (λ q. apart (one a j (e ∙ sym q)))
            ∙ M.is.caches j ∙ free
            ∙ sym (new_other c m.caches j some a apart ∙ sym (M.is.caches a) ∙ ap (cache_of n) e ∙ free_too)
        | inr other ↦ ap (cache_of more_too) (pair_other j k r a apart other) ∙ new_other c n.caches k some_too (r a) other ∙ M.is.caches a ∙ sym (new_other c m.caches j some a apart)
      ]
    ]

    dead : (a : ℕ) → is_mapped m a ≡ true → cache_of m a ≡ None → ⊥
    dead a e none = let wrong : IsSome (let o : Option Cache = None in o) = subst IsSome none (M.live a e) in cc wrong

    still : (a : ℕ) → is_mapped m a ≡ true → r a ≡ with_pair j k r a
    still a e = sym (pair_other j k r a (λ q. dead a e (ap (cache_of m) q ∙ free)) (λ q. dead a e (sym (M.is.caches a) ∙ ap (cache_of n) q ∙ free_too)))

    new_segment : (a : ℕ) → a ≡ j → segment_of more a ≡ c.segment
    new_segment a e = ap (option_and_then (λ (x : Cache). x.segment)) (ap (cache_of more) e ∙ new_there c m.caches j some)

    old_segment : (a : ℕ) → a ≢ j → segment_of more a ≡ segment_of m a
    old_segment a apart = ap (option_and_then (λ (x : Cache). x.segment)) (new_other c m.caches j some a apart)

    pub with_new : Matches (with_pair j k r) more more_too
    with_new = record {
      is = record {
        page_bytes = M.is.page_bytes;
        caches = caches;
        actors = M.is.actors ∙ actors_agree r (with_pair j k r) m.actors still;
        regions_made = M.is.regions_made;
      };
      back = with_pair k j M.back;
      there = pair_back j k r M.back M.there;
      here = pair_back k j M.back r M.here;
      live = λ a e. elim (cases_eq a j) [
        | inl q ↦ subst IsSome (sym (ap (cache_of more) q ∙ new_there c m.caches j some)) refl
        | inr apart ↦ subst IsSome (sym (new_other c m.caches j some a apart)) (M.live a e)
      ];
      apart = λ a b seg e f. elim (cases_eq a j) [
        | inl p ↦ elim (cases_eq b j) [
          | inl q ↦ p ∙ sym q
          | inr q ↦ absurd (alone seg b (sym (new_segment a p) ∙ e) (sym (old_segment b q) ∙ f))
        ]
        | inr p ↦ elim (cases_eq b j) [
          | inl q ↦ absurd (alone seg a (sym (new_segment b q) ∙ f) (sym (old_segment a p) ∙ e))
          | inr q ↦ M.apart a b seg (sym (old_segment a p) ∙ e) (sym (old_segment b q) ∙ f)
        ]
      ];
    }

-- The machines of references

pub record Match (r : Renaming) (m n : ReferenceMachine) : Type 0 where
  pub memory : Matches r m.memory n.memory
  pub stored : n.stored ≡ m.stored
  pub openings : n.openings ≡ m.openings

-- What nothing refers to goes in both.
module _ (r : Renaming) (m n : ReferenceMachine) (M : Match r m n) where
  goes_too : (k : ℕ) (c : Cache) → goes n (r k) c ≡ goes m k c
  goes_too k c = λ i. option_map_or (λ seg. not (nat_lt 0 (M.openings i seg) || mapped r m.memory n.memory M.memory k i)) c.segment false

  used_too : (k : ℕ) (o : Option Cache) → used_at n (r k) o ≡ used_at m k o
  used_too k None = refl
  used_too k (Some c) = ap (λ (b : Bool). cond b None (Some c)) (goes_too k c)

  left_there : (k : ℕ) → cache_of (let_go m).memory k ≡ used_at m k (cache_of m.memory k)
  left_there k = numbered_used m m.memory.caches k

  caches_left : (k : ℕ) → cache_of (let_go n).memory (r k) ≡ cache_of (let_go m).memory k
  caches_left k =
      numbered_used n n.memory.caches (r k)
      ∙ ap (used_at n (r k)) (M.memory.is.caches k)
      ∙ used_too k (cache_of m.memory k)
      ∙ sym (left_there k)

  -- a cache that is mapped stays
  stays : (k : ℕ) (c : Cache) → is_mapped m.memory k ≡ true → goes m k c ≡ false
  stays k c e = by c.segment
    where
      or_true : (b : Bool) → not (b || true) ≡ false
      or_true true = refl
      or_true false = refl

      by : (s : Option ℕ) → option_map_or (λ seg. not (nat_lt 0 (m.openings seg) || is_mapped m.memory k)) s false ≡ false
      by None = refl
      by (Some seg) = ap (λ (b : Bool). not (nat_lt 0 (m.openings seg) || b)) e ∙ or_true (nat_lt 0 (m.openings seg))

  live_left : (k : ℕ) → is_mapped m.memory k ≡ true → IsSome (cache_of (let_go m).memory k)
  live_left k e = subst IsSome (sym (left_there k)) (by (cache_of m.memory k) (M.memory.live k e))
    where
      by : (o : Option Cache) → IsSome o → IsSome (used_at m k o)
      by None some = some
      by (Some c) some = subst (λ (b : Bool). IsSome (cond b None (Some c))) (sym (stays k c e)) refl

  segment_left : (k seg : ℕ) → segment_of (let_go m).memory k ≡ Some seg → segment_of m.memory k ≡ Some seg
  segment_left k seg e = by (cache_of m.memory k) (sym (ap (option_and_then (λ (c : Cache). c.segment)) (left_there k)) ∙ e)
    where
      at : (c : Cache) (b : Bool) → option_and_then (λ (x : Cache). x.segment) (cond b None (Some c)) ≡ Some seg → c.segment ≡ Some seg
      at c true e = absurd (cc e)
      at c false e = e

      by : (o : Option Cache) → option_and_then (λ (c : Cache). c.segment) (used_at m k o) ≡ Some seg → option_and_then (λ (c : Cache). c.segment) o ≡ Some seg
      by None e = absurd (cc e)
      by (Some c) e = at c (goes m k c) e

  stored_at_one : (w : ReferenceMachine) → AreApart w.memory → (seg a : ℕ) (it : IsAt seg w.memory a) → stored_from w 1 w.memory.caches seg ≡ cond (goes w a it.cache) (Some it.cache.pages) (w.stored seg)
  stored_at_one w apart seg a it =
      stored_one w seg 1 w.memory.caches (a - 1) it.cache it.there (named_self seg it.cache it.named)
      (λ j d e f. let other : IsAt seg w.memory (j + 1) = record { cache = d; some = omega arith; there = ap (slice_get w.memory.caches) (let s : j + 1 - 1 ≡ j = omega arith in s) ∙ e; named = named_seg seg d.segment f } in
      let same : j + 1 ≡ a = apart (j + 1) a seg (at_segment seg w.memory (j + 1) other) (at_segment seg w.memory a it) in omega (arith, same))
      ∙ ap (λ (k : ℕ). cond (goes w k it.cache) (Some it.cache.pages) (w.stored seg)) (let s : 1 + (a - 1) ≡ a = omega (arith, it.some) in s)

  stored_left : (seg : ℕ) → stored_from n 1 n.memory.caches seg ≡ stored_from m 1 m.memory.caches seg
  stored_left seg = by (number_named m seg) refl
    where
      by : (o : Option ℕ) → number_named m seg ≡ o → stored_from n 1 n.memory.caches seg ≡ stored_from m 1 m.memory.caches seg
      by None e =
          (none_goes seg n 1 n.memory.caches (no_number seg 1 n.memory.caches (number_same r m.memory n.memory M.memory seg None e))).1
          ∙ ap (λ (stored : ℕ → Option (List (List ℕ))). stored seg) M.stored
          ∙ sym (none_goes seg m 1 m.memory.caches (no_number seg 1 m.memory.caches e)).1
      by (Some a) e =
          let it = is_at seg m.memory a e in
          let place = numbered_place n.memory.caches (r a) it.cache (M.memory.is.caches a ∙ at_cache seg m.memory a it) in
          stored_at_one n (apart_too r m.memory n.memory M.memory) seg (r a) (record { cache = it.cache; some = place.0; there = place.1; named = it.named })
          ∙ (λ i. cond (goes_too a it.cache i) (Some it.cache.pages) (M.stored i seg))
          ∙ sym (stored_at_one m M.memory.apart seg a it)

  pub both_let_go : Match r (let_go m) (let_go n)
  both_let_go = record {
    memory = record {
      is = record { page_bytes = M.memory.is.page_bytes; caches = caches_left; actors = M.memory.is.actors; regions_made = M.memory.is.regions_made };
      back = M.memory.back;
      there = M.memory.there;
      here = M.memory.here;
      live = live_left;
      apart = λ j k seg e f. M.memory.apart j k seg (segment_left j seg e) (segment_left k seg f);
    };
    stored = fun_same (stored_from n 1 n.memory.caches) (stored_from m 1 m.memory.caches) stored_left;
    openings = M.openings;
  }
