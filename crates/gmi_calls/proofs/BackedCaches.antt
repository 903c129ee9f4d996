-- Segments back the caches of a machine where a cache comes, goes or gets other pages.
use Rattle.std.proofs.Common.{◌≡◌, ◌⊎◌, ℕ, zero, suc, ◌+◌, ◌-◌, ◌<◌, ◌≤◌, Bool, true, false, List, [], ◌∷◌, ◌++◌, length, set, Option, Some, None, refl, sym, ap, subst, ◌∙◌, arith, inl, inr}
use Rattle.std.specs.Prelude.{is_some, option_and_then, slice_get}
use Rattle.std.specs.List.{list_any, range_with_len}
use Rattle.std.specs.Option.{option_map_or}
use Rattle.std.proofs.lemmas.Bool.{cases_eq, cases_lt}
use Rattle.vm_ids.specs.Denying.{denies}
use Rattle.vm_ids.specs.Held.{Segments}
use Rattle.vm_model.specs.Machine.{Machine, Cache, Page, cache_of, cache_named, numbered}
use Rattle.vm_model.specs.Answering.{is_denied_page, overwrite, put_pages}
use Rattle.vm_model.proofs.Parts.Lists.{length-overwrite, numbered_place}
use Rattle.vm_model.proofs.Parts.ListParts.{numbered_push, numbered_pushed, numbered_set, numbered_set_other, overwrite_before, overwrite_behind}
use Rattle.vm_model.proofs.Parts.Naming.{names_none, only_named, segment_cache}
use Rattle.gmi_calls.specs.Backing.{AreBacked, Backs}
use Rattle.vm_model.proofs.Outcomes.Lying.{or_parts}

module _ (cs : List (Option Cache)) (s : Segments) (B : AreBacked cs s) where
  -- What has a number after a cache was put in place of another: the new one, or what had it
  -- before.
  put_or : (n k : ℕ) (c d y : Cache) → numbered cs n ≡ Some c → numbered (set cs (n - 1) (Some d)) k ≡ Some y → ((k ≡ n) × (d ≡ y)) ⊎ (numbered cs k ≡ Some y)
  put_or n k c d y there e = elim (cases_eq k n) [
    | inl same ↦ inl (same, let f : Some d ≡ Some y = sym (numbered_set cs n c (Some d) there) ∙ ap (numbered (set cs (n - 1) (Some d))) (sym same) ∙ e in cc f)
    | inr other ↦ inr (sym (numbered_set_other cs n k (Some d) (numbered_place cs n c there).0 other) ∙ e)
  ]

  -- the cache before it, which has the same segment
  put_from : (n k : ℕ) (c d y : Cache) → numbered cs n ≡ Some c → d.segment ≡ c.segment → numbered (set cs (n - 1) (Some d)) k ≡ Some y → (x : Cache) × (numbered cs k ≡ Some x) × (y.segment ≡ x.segment)
  put_from n k c d y there named e = elim (put_or n k c d y there e) [
    | inl new ↦ (c, ap (numbered cs) new.0 ∙ there, ap (λ (x : Cache). x.segment) (sym new.1) ∙ named)
    | inr old ↦ (y, old, refl)
  ]

  pub put : (n : ℕ) (c d : Cache) → numbered cs n ≡ Some c → d.segment ≡ c.segment → ((seg : ℕ) → c.segment ≡ Some seg → Backs s seg c → Backs s seg d) → AreBacked (set cs (n - 1) (Some d)) s
  put n c d there named still = record {
    apart = λ a b seg x y e f p q.
        let old = put_from n a c d x there named e in
        let other = put_from n b c d y there named f in
        B.apart a b seg old.0 other.0 old.1 other.1 (sym old.2 ∙ p) (sym other.2 ∙ q);
    backed = λ k seg y e p. elim (put_or n k c d y there e) [
      | inl new ↦
          let q : c.segment ≡ Some seg = sym named ∙ ap (λ (x : Cache). x.segment) new.1 ∙ p in
          subst (Backs s seg) new.1 (still seg q (B.backed n seg c there q))
      | inr old ↦ B.backed k seg y old p
    ];
  }

  -- a cache that goes
  gone_from : (n k : ℕ) (c y : Cache) → numbered cs n ≡ Some c → numbered (set cs (n - 1) None) k ≡ Some y → numbered cs k ≡ Some y
  gone_from n k c y there e = elim (cases_eq k n) [
    | inl same ↦ absurd (let f : None ≡ Some y = sym (numbered_set cs n c None there) ∙ ap (numbered (set cs (n - 1) None)) (sym same) ∙ e in cc f)
    | inr other ↦ sym (numbered_set_other cs n k None (numbered_place cs n c there).0 other) ∙ e
  ]

  pub gone : (n : ℕ) (c : Cache) → numbered cs n ≡ Some c → AreBacked (set cs (n - 1) None) s
  gone n c there = record {
    apart = λ a b seg x y e f p q. B.apart a b seg x y (gone_from n a c x there e) (gone_from n b c y there f) p q;
    backed = λ k seg y e p. B.backed k seg y (gone_from n k c y there e) p;
  }

  -- a cache that comes
  more_or : (k : ℕ) (d y : Cache) → numbered (cs ++ Some d ∷ []) k ≡ Some y → ((k ≡ length cs + 1) × (d ≡ y)) ⊎ (numbered cs k ≡ Some y)
  more_or k d y e = elim (cases_eq k (length cs + 1)) [
    | inl last ↦ inl (last, let f : Some d ≡ Some y = sym (numbered_pushed cs (Some d) k last) ∙ e in cc f)
    | inr other ↦ inr (sym (numbered_push cs (Some d) k other) ∙ e)
  ]

  pub more : (d : Cache) → ((k seg : ℕ) (y : Cache) → numbered cs k ≡ Some y → y.segment ≡ Some seg → d.segment ≡ Some seg → ⊥) → ((seg : ℕ) → d.segment ≡ Some seg → Backs s seg d) → AreBacked (cs ++ Some d ∷ []) s
  more d free backs = record {
    apart = λ a b seg x y e f p q. elim (more_or a d x e) [
      | inl new ↦ elim (more_or b d y f) [
        | inl same ↦ new.0 ∙ sym same.0
        | inr old ↦ absurd (free b seg y old q (ap (λ (z : Cache). z.segment) new.1 ∙ p))
      ]
      | inr there ↦ elim (more_or b d y f) [
        | inl last ↦ absurd (free a seg x there p (ap (λ (z : Cache). z.segment) last.1 ∙ q))
        | inr old ↦ B.apart a b seg x y there old p q
      ]
    ];
    backed = λ k seg y e p. elim (more_or k d y e) [
      | inl new ↦ subst (Backs s seg) new.1 (backs seg (ap (λ (z : Cache). z.segment) new.1 ∙ p))
      | inr old ↦ B.backed k seg y old p
    ];
  }

-- Pages that are replaced

-- a segment backs another cache with as many pages, where those that are denied are the same
pub backs_other : (s : Segments) (seg : ℕ) (c d : Cache) → length d.pages ≡ length c.pages → ((page : ℕ) → denies s.denied seg page ≡ true → slice_get d.pages page ≡ slice_get c.pages page) → Backs s seg c → Backs s seg d
backs_other s seg c d many same B = record {
  pages = B.pages;
  there = B.there;
  many = B.many ∙ sym many;
  denied = λ page e. B.denied page e ∙ sym (same page e);
}

-- none of a range
pub none_in : (p : ℕ → Bool) (first pages q : ℕ) → list_any p (range_with_len first pages) ≡ false → first ≤ q → q < first + pages → p q ≡ false
none_in p first zero q none from below = absurd (omega arith)
none_in p first (suc pages) q none from below =
    let parts = or_parts (p first) (list_any p (range_with_len (first + 1) pages)) none in
    elim (cases_eq q first) [
      | inl same ↦ ap p same ∙ parts.0
      | inr other ↦ none_in p (first + 1) pages q parts.1 (omega (arith, other)) (omega arith)
    ]

-- the mapper's answer for a page of a named cache
pub denied_named : (m : Machine) (s : Segments) (n seg page : ℕ) (c : Cache) → cache_of m n ≡ Some c → c.segment ≡ Some seg → is_denied_page m s n page ≡ denies s.denied seg page
denied_named m s n seg page c there named =
    ap (λ (o : Option Cache). option_map_or (λ (x : ℕ). denies s.denied x page) (option_and_then (λ (c : Cache). c.segment) o) false) there
    ∙ ap (λ (o : Option ℕ). option_map_or (λ (x : ℕ). denies s.denied x page) o false) named

-- A part of the pages is replaced, of which none is denied.
pub part_backs : (s : Segments) (seg first : ℕ) (part : List Page) (c : Cache) → first + length part ≤ length c.pages → ((page : ℕ) → first ≤ page → page < first + length part → denies s.denied seg page ≡ false) → Backs s seg c → Backs s seg (put_pages first part c)
part_backs s seg first part c fits allowed B = backs_other s seg c (put_pages first part c) (length-overwrite first part c.pages fits) same B
  where
    same : (page : ℕ) → denies s.denied seg page ≡ true → slice_get (overwrite first part c.pages) page ≡ slice_get c.pages page
    same page e = elim (cases_lt page first) [
      | inl before ↦ overwrite_before first part c.pages page (omega (arith, fits)) before
      | inr from ↦ elim (cases_lt page (first + length part)) [
        | inl below ↦ absurd (let f : true ≡ false = sym e ∙ allowed page from below in cc f)
        | inr past ↦ overwrite_behind first part c.pages page (omega (arith, fits)) past
      ]
    ]

-- No live cache is of a segment that names none.
pub free_segment : (m : Machine) (seg : ℕ) → is_some (cache_named m.caches seg) ≡ false → (k : ℕ) (y : Cache) → cache_of m k ≡ Some y → y.segment ≡ Some seg → ⊥
free_segment m seg free k y there named = names_none m k seg free (ap (option_and_then (λ (c : Cache). c.segment)) there ∙ named)

-- The cache that a segment names is the one that is of it.
pub named_is : (m : Machine) (s : Segments) (n seg : ℕ) (c : Cache) → AreBacked m.caches s → cache_of m n ≡ Some c → c.segment ≡ Some seg → cache_named m.caches seg ≡ Some c
named_is m s n seg c B there named = only_named m n seg c there named (λ k e.
    let d = segment_cache m k seg e in
    B.apart k n seg d.0 c d.1 there d.2 named)
