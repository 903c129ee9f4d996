-- Pages are copied and moved.
use Rattle.std.proofs.Common.{◌≡◌, ℕ, zero, suc, ◌+◌, ◌-◌, ◌==◌, ◌<◌, ◌≤◌, true, false, List, [], ◌∷◌, ◌++◌, length, drop, get_or, map, take, Option, Some, refl, sym, ap, subst, ◌∙◌, arith}
use Rattle.std.specs.Prelude.{IsSome, nat_lt, option_and_then, replicate, slice_get}
use Rattle.std.proofs.lemmas.Bool.Decides.{nat_tests}
use Rattle.std.proofs.lemmas.List.{length-drop, length-map, length-replicate, length-take-le, map-append, take_more}
use Rattle.std.proofs.lemmas.Option.{slice_get-get_or}
use Rattle.vm_ids.specs.declared.command.Span.{Span}
use Rattle.vm_model.specs.Answering.{overlaps_itself}
use Rattle.vm_model.specs.Machine.{numbered}
use Rattle.vm_model.proofs.Parts.Lists.{length-overwrite}
use Rattle.vm_model.proofs.Parts.ListParts.{get_drop}
use Rattle.flat_mm.specs.Spans.{IsSpanned}
use Rattle.flat_mm.specs.Store.{Cache, Page, Store, cleared, copied, page_at, pages_of, source_of, touched, with_page, zeros}
use Rattle.flat_mm.proofs.Putting.{changed, puts, puts_alive, puts_more, puts_none, puts_page}

rep_more : {A : Type 0} (x : A) (n m : ℕ) → m ≡ n + 1 → replicate m x ≡ replicate n x ++ x ∷ []
rep_more x zero zero e = absurd (omega (arith, e))
rep_more x zero (suc m) e = ap (λ k. x ∷ replicate k x) (let z : m ≡ 0 = omega (arith, e) in z)
rep_more x (suc n) zero e = absurd (omega (arith, e))
rep_more x (suc n) (suc m) e = ap (λ xs. x ∷ xs) (rep_more x n m (omega (arith, e)))

is_some_at : {A : Type 0} (o : Option A) (x : A) → o ≡ Some x → IsSome o
is_some_at o x e = subst IsSome (sym e) refl

-- a page that was put, or is still to be put, is there
there_still : (s : Store) (n : ℕ) (c : Cache) (alive : numbered s.caches n ≡ Some c) (first : ℕ) (part : List Page) (k : ℕ) → first + length part ≤ length c.pages → k < length c.pages → IsSome (page_at (puts s n first part).caches n k)
there_still s n c alive first part k within less =
    let ps = (let d : Cache = puts_cache in d.pages) in
    is_some_at (page_at (puts s n first part).caches n k) (get_or ps k (zeros 0))
    (ap (option_and_then (λ (d : Cache). slice_get d.pages k)) (puts_alive s n c alive first part) ∙ slice_get-get_or ps k (zeros 0) (omega (arith, less, length-overwrite first part c.pages within)))
  where
    puts_cache : Cache
    puts_cache = changed s n c alive first part

module _ (s : Store) (span : Span) (S : IsSpanned s span) where
  abbrev part : ℕ → List Page
  part i = map touched (source_of s span i)

  pub from_here : (i : ℕ) → source_of s span i ≡ take i (drop span.from_page.0 S.source.pages)
  from_here i = ap (λ (o : Option Cache). take i (drop span.from_page.0 (pages_of o))) S.from

  pub part_length : (i : ℕ) → i ≤ span.pages → length (part i) ≡ i
  part_length i few = omega (
    arith,
    few,
    S.inside,
    length-map (source_of s span i) touched,
    ap (λ (ps : List Page). length ps) (from_here i),
    length-take-le i (drop span.from_page.0 S.source.pages) (omega (arith, few, S.inside, length-drop span.from_page.0 S.source.pages)),
  )

  -- the page that is copied next
  source_page : (i : ℕ) → i < span.pages → (p : Page) × (slice_get S.source.pages (span.from_page.0 + i) ≡ Some p)
  source_page i less = (get_or S.source.pages (span.from_page.0 + i) (zeros 0), slice_get-get_or S.source.pages (span.from_page.0 + i) (zeros 0) (omega (arith, less, S.inside)))

  part_more : (i : ℕ) (p : Page) → i < span.pages → slice_get S.source.pages (span.from_page.0 + i) ≡ Some p → part (i + 1) ≡ part i ++ touched p ∷ []
  part_more i p less at =
      let rest = drop span.from_page.0 S.source.pages in
      let long : i < length rest = omega (arith, less, S.inside, length-drop span.from_page.0 S.source.pages) in
      let got : Some (get_or rest i p) ≡ Some p = sym (slice_get-get_or rest i p long) ∙ get_drop span.from_page.0 S.source.pages i (span.from_page.0 + i) refl ∙ at in
      let is : get_or rest i p ≡ p = cc got in
      ap (map touched) (from_here (i + 1) ∙ take_more rest i p long ∙ ap (λ (x : Page). take i rest ++ x ∷ []) is ∙ ap (λ (ps : List Page). ps ++ p ∷ []) (sym (from_here i)))
      ∙ map-append touched (source_of s span i) (p ∷ [])

  pub copied_none : copied s span 0 ≡ s
  copied_none = puts_none s span.to.0 S.destination S.to span.to_page.0

  copied_more : (i : ℕ) (p : Page) → i < span.pages → slice_get S.source.pages (span.from_page.0 + i) ≡ Some p → with_page span.to.0 (span.to_page.0 + i) (touched p) (copied s span i) ≡ copied s span (i + 1)
  copied_more i p less at =
      let long = part_length i (omega (arith, less)) in
      ap (λ k. with_page span.to.0 k (touched p) (copied s span i)) (let e : span.to_page.0 + i ≡ span.to_page.0 + length (part i) = omega (arith, long) in e)
      ∙ puts_more s span.to.0 S.destination S.to span.to_page.0 (part i) (touched p) (omega (arith, less, long, S.within))
      ∙ ap (puts s span.to.0 span.to_page.0) (sym (part_more i p less at))

  target_there : (i : ℕ) → i < span.pages → IsSome (page_at (copied s span i).caches span.to.0 (span.to_page.0 + i))
  target_there i less = there_still s span.to.0 S.destination S.to span.to_page.0 (part i) (span.to_page.0 + i) (omega (arith, less, part_length i (omega (arith, less)), S.within)) (omega (arith, less, S.within))

  apart : overlaps_itself span ≡ false → (i j : ℕ) → i < span.pages → j < span.pages → span.from.0 ≡ span.to.0 → span.from_page.0 + i ≡ span.to_page.0 + j → ⊥
  apart off i j less few same meet =
      let a : (span.from.0 == span.to.0) ≡ true = grind (arith, nat_tests) in
      let b : nat_lt span.from_page.0 (span.to_page.0 + span.pages) ≡ true = grind (arith, nat_tests) in
      let c : nat_lt span.to_page.0 (span.from_page.0 + span.pages) ≡ true = grind (arith, nat_tests) in
      let on : overlaps_itself span ≡ true = rw (a, b, c) refl in
      let clash : true ≡ false = sym on ∙ off in
      cc clash

  pub other_page : overlaps_itself span ≡ false → (i : ℕ) → i < span.pages → span.from.0 ≡ span.to.0 → span.from_page.0 + i ≡ span.to_page.0 + i → ⊥
  other_page off i less same meet = apart off i i less less same meet

  -- it is there still
  source_there : overlaps_itself span ≡ false → (i : ℕ) → i < span.pages → (p : Page) → slice_get S.source.pages (span.from_page.0 + i) ≡ Some p → page_at (copied s span i).caches span.from.0 (span.from_page.0 + i) ≡ Some p
  source_there off i less p at =
      let long = part_length i (omega (arith, less)) in
      puts_page s span.to.0 S.destination S.to span.to_page.0 (part i) (omega (arith, less, long, S.within)) span.from.0 (span.from_page.0 + i)
      (λ same inside high. apart off i (span.from_page.0 + i - span.to_page.0) less (omega (arith, less, long, inside, high)) same (omega (arith, high)))
      ∙ ap (option_and_then (λ (d : Cache). slice_get d.pages (span.from_page.0 + i))) S.from ∙ at

  -- the next page of a loop
  module _ (off : overlaps_itself span ≡ false) (t : Store) (i : ℕ) (is : t ≡ copied s span i) (less : i < span.pages) where
    next_page : (p : Page) × (slice_get S.source.pages (span.from_page.0 + i) ≡ Some p) × (page_at t.caches span.from.0 (span.from_page.0 + i) ≡ Some p)
    next_page =
        let P = source_page i less in
        (P.0, P.1, ap (λ (x : Store). page_at x.caches span.from.0 (span.from_page.0 + i)) is ∙ source_there off i less P.0 P.1)

    pub next_source : IsSome (page_at t.caches span.from.0 (span.from_page.0 + i))
    next_source = is_some_at (page_at t.caches span.from.0 (span.from_page.0 + i)) next_page.0 next_page.2

    pub next_target : IsSome (page_at t.caches span.to.0 (span.to_page.0 + i))
    next_target = subst (λ (x : Store). IsSome (page_at x.caches span.to.0 (span.to_page.0 + i))) (sym is) (target_there i less)

    pub next_copied : (u : Store) → ((p : Page) → page_at t.caches span.from.0 (span.from_page.0 + i) ≡ Some p → u ≡ with_page span.to.0 (span.to_page.0 + i) (record { bytes = p.bytes; changed = true }) t) → u ≡ copied s span (i + 1)
    next_copied u done =
        let p = next_page.0 in
        done p next_page.2 ∙ ap (with_page span.to.0 (span.to_page.0 + i) (touched p)) is ∙ copied_more i p less next_page.1

  -- Zeros

  abbrev blanks : ℕ → List Page
  blanks i = replicate i (touched (zeros s.page_bytes))

  pub cleared_none : cleared s span 0 ≡ s
  cleared_none = puts_none s span.from.0 S.source S.from span.from_page.0

  cleared_more : (i : ℕ) → i < span.pages → with_page span.from.0 (span.from_page.0 + i) (touched (zeros s.page_bytes)) (cleared s span i) ≡ cleared s span (i + 1)
  cleared_more i less =
      let blank = touched (zeros s.page_bytes) in
      let long = length-replicate i blank in
      ap (λ k. with_page span.from.0 k blank (cleared s span i)) (let e : span.from_page.0 + i ≡ span.from_page.0 + length (blanks i) = omega (arith, long) in e)
      ∙ puts_more s span.from.0 S.source S.from span.from_page.0 (blanks i) blank (omega (arith, less, long, S.inside))
      ∙ ap (puts s span.from.0 span.from_page.0) (sym (rep_more blank i (i + 1) refl))

  cleared_there : (i : ℕ) → i < span.pages → IsSome (page_at (cleared s span i).caches span.from.0 (span.from_page.0 + i))
  cleared_there i less = there_still s span.from.0 S.source S.from span.from_page.0 (blanks i) (span.from_page.0 + i) (omega (arith, less, length-replicate i (touched (zeros s.page_bytes)), S.inside)) (omega (arith, less, S.inside))

  module _ (t : Store) (i : ℕ) (is : t ≡ cleared s span i) (less : i < span.pages) where
    pub next_blank : IsSome (page_at t.caches span.from.0 (span.from_page.0 + i))
    next_blank = subst (λ (x : Store). IsSome (page_at x.caches span.from.0 (span.from_page.0 + i))) (sym is) (cleared_there i less)

    pub next_cleared : (u : Store) → u ≡ with_page span.from.0 (span.from_page.0 + i) (touched (zeros t.page_bytes)) t → u ≡ cleared s span (i + 1)
    next_cleared u done = done ∙ ap (λ (x : Store). with_page span.from.0 (span.from_page.0 + i) (touched (zeros x.page_bytes)) x) is ∙ cleared_more i less
