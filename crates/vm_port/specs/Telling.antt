-- Why the pages that a mapper in memory tells have one size. The law of the trait `Mapper` cites
-- it.
use Rattle.std.specs.Prelude.{◌≡◌, ℕ, zero, suc, ◌+◌, Bool, true, false, if◌then◌else◌, List, [], ◌∷◌, length, map, slice_get, Option, Some, None, option_and_then, option_map, IfSome, refl}
use Rattle.std.specs.FinMap.{get, get-empty, get-insert}
use Rattle.std.specs.List.{AllByRecursion}
use Rattle.std.specs.Ordering.{eq_by_cmp, nat_cmp}
use Rattle.std.specs.Cmp.{nat_cmp_total}
use Rattle.std.proofs.Common.{ap, subst, sym}
use Rattle.vm_port.specs.Mapping.{MapperInMemory, held_of, sized}
use Rattle.vm_port.specs.Rows.{from_row}
use Rattle.vm_port.specs.Sizes.{HasPagesOf}

abbrev pub HasBytes : ℕ → List ℕ → Type 0
HasBytes n page = length page ≡ n

pub sized_length : (n : ℕ) (page : List ℕ) → HasBytes n (sized n page)
sized_length zero page = refl
sized_length (suc n) [] = ap suc (sized_length n [])
sized_length (suc n) (b ∷ page) = ap suc (sized_length n page)

-- each page of a list of pages that were cut or filled
abbrev pub HavePages : ℕ → List (List ℕ) → Type 0
HavePages n pages = (i : ℕ) → IfSome (slice_get pages i) (HasBytes n)

have_pages : (n : ℕ) (pages : List (List ℕ)) → HavePages n (map (sized n) pages)
have_pages n [] i = tt
have_pages n (page ∷ pages) zero = sized_length n page
have_pages n (page ∷ pages) (suc i) = have_pages n pages i

-- what holds of each element of a row holds of what its map has
one_of : {X : Type 0} (P : X → Type 0) (b : Bool) (x : X) (o : Option X) → P x → IfSome o P
    → IfSome (if b then Some x else o) P
one_of P true x o here there = here
one_of P false x o here there = there

in_row : {X : Type 0} (P : X → Type 0) (n : ℕ) (xs : List (Option X))
    → AllByRecursion (λ o. IfSome o P) xs → (k : ℕ) → IfSome (get (from_row n xs) k) P
in_row P n [] all k = subst (λ o. IfSome o P) (sym (get-empty nat_cmp k)) tt
in_row P n (None ∷ xs) all k = in_row P (n + 1) xs all.1 k
in_row P n (Some x ∷ xs) all k =
    subst (λ o. IfSome o P) (sym (get-insert nat_cmp_total (from_row (n + 1) xs) n x k))
    (one_of P (eq_by_cmp nat_cmp k n) x (get (from_row (n + 1) xs) k) all.0
    (in_row P (n + 1) xs all.1 k))

segments_have : (n : ℕ) (segments : List (List (List ℕ)))
    → AllByRecursion (λ o. IfSome o (HavePages n))
    (map (λ pages. Some pages) (map (map (sized n)) segments))
segments_have n [] = tt
segments_have n (pages ∷ segments) = (have_pages n pages, segments_have n segments)

slots_have : (n : ℕ) (slots : List (Option (List ℕ)))
    → AllByRecursion (λ o. IfSome o (HasBytes n)) (map (option_map (sized n)) slots)
slots_have n [] = tt
slots_have n (None ∷ slots) = (tt, slots_have n slots)
slots_have n (Some page ∷ slots) = (sized_length n page, slots_have n slots)

page_in_segment : (n page : ℕ) (o : Option (List (List ℕ))) → IfSome o (HavePages n)
    → IfSome (option_and_then (λ pages. slice_get pages page) o) (HasBytes n)
page_in_segment n page None all = tt
page_in_segment n page (Some pages) all = all page

-- each page of a segment and of a slot
pub held_sized : (m : MapperInMemory) → HasPagesOf (held_of m) m.page_bytes
held_sized m = record {
  pages = λ seg page bytes e. subst (λ o. IfSome o (HasBytes m.page_bytes)) e
      (page_in_segment m.page_bytes page (get (held_of m).segments seg)
      (in_row (HavePages m.page_bytes) 1
      (map (λ pages. Some pages) (map (map (sized m.page_bytes)) m.segments))
      (segments_have m.page_bytes m.segments) seg));
  slots = λ slot bytes e. subst (λ o. IfSome o (HasBytes m.page_bytes)) e
      (in_row (HasBytes m.page_bytes) 0 (map (option_map (sized m.page_bytes)) m.slots)
      (slots_have m.page_bytes m.slots) slot);
}
