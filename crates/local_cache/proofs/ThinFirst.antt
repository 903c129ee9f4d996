-- The thin node with the least number, and the lists in which thin nodes stand.
use Rattle.std.proofs.Common.{◌≡◌, ℕ, ◌+◌, ◌-◌, ◌<◌, ◌≤◌, List, [], ◌∷◌, length, Option, Some, None, refl, sym, ap, subst, ◌∙◌, inl, inr, arith}
use Rattle.std.specs.Prelude.{IfSome, MatchOption, option_map}
use Rattle.std.proofs.lemmas.Bool.{cases_lt, cond-true, cond-false, lt-ltb, le-ltb}
use Rattle.std.proofs.lemmas.Option.{none-some}
use Rattle.std.specs.Ordering.{nat_cmp}
use Rattle.std.specs.FinMap.{FinMap, get-empty}
use Rattle.std.specs.FinMap as map
use Rattle.least_heap.specs.Heaps.{IsLeast}
use Rattle.least_heap.specs.declared.heap.Numbered.{Numbered}
use Rattle.stretches.specs.Cells.{cells}
use Rattle.stretches.specs.Rising.{rising}
use Rattle.stretches.specs.Stretches.{IsNextFrom, said}
use Rattle.stretches.specs.declared.rising.Rising.{Rising}
use Rattle.stretches.specs.declared.stretch.Stretch.{Stretch}
use Rattle.stretches.proofs.Cells.{get_cells}
use Rattle.stretches.proofs.Reading.Numbers.{within}
use Rattle.local_cache.specs.NodeCells.{run_cell}
use Rattle.local_cache.specs.Runs.{run_after}
use Rattle.local_cache.specs.Thin.{thin_number}
use Rattle.local_cache.specs.ThinNodes.{HasNone, IsFirst, IsFirstOf, Thin, lesser_of}
use Rattle.local_cache.specs.declared.runs.run.Run.{Run}
use Rattle.local_cache.specs.declared.runs.thin_nodes.FirstThin.{FirstThin}
use Rattle.local_cache.proofs.Singles.{same_maps}
use Rattle.local_cache.proofs.Thinness.{run_thin}

none_of_empty : {X : Type 0} (m : FinMap nat_cmp X) (j : ℕ) (x : X) → m ≡ map.empty → map.get m j ≡ Some x → ⊥
none_of_empty m j x empty h = none-some x (sym (ap (λ (n : FinMap nat_cmp _). map.get n j) empty ∙ get-empty nat_cmp j) ∙ h)

abbrev Right : Thin → Option FirstThin → Type 0
Right t o = MatchOption o (HasNone t) (IsFirst t)

-- the first of those in runs and the least of the others, whichever is less
pub first_right : (t : Thin) (run : Option (Stretch Rising)) (least : Option Numbered)
    → MatchOption run (t.among ≡ map.empty) (IsFirstOf t.among) → MatchOption least (t.alone ≡ map.empty) (IsLeast t.alone)
    → Right t (lesser_of run least)
first_right t None None among alone = (alone, among)
first_right t (Some r) None among alone =
    (r.first, among.0, ((λ slot j h. absurd (none_of_empty t.alone slot j alone h)), among.1))
first_right t None (Some e) among alone =
    (e.number, alone.there, (alone.least, (λ j v h. absurd (none_of_empty t.among j v among h))))
first_right t (Some r) (Some e) among alone = elim (cases_lt r.first e.number) [
  | inl less ↦
      let P : Option FirstThin → Type 0 = Right t in
      subst P (sym (cond-true _ _ _ (lt-ltb r.first e.number less)))
      (r.first, among.0, ((λ slot j h. (let most = alone.least slot j h in omega (arith, less, most))), among.1))
  | inr more ↦
      let P : Option FirstThin → Type 0 = Right t in
      subst P (sym (cond-false _ _ _ (le-ltb r.first e.number more)))
      (e.number, alone.there, (alone.least, (λ j v h. (let most = among.1 j v h in omega (arith, more, most)))))
]

-- stretches that say nothing are empty
pub nothing_said : (rs : List (Stretch Rising)) → ((n : ℕ) → said rising rs n ≡ None) → cells rising rs ≡ map.empty
nothing_said rs none = same_maps _ _ (λ n. get_cells rising rs n ∙ none n ∙ sym (get-empty nat_cmp n))

-- the first of them
pub first_said : (rs : List (Stretch Rising)) (r : Stretch Rising) → IsNextFrom rising rs 0 r → IsFirstOf (cells rising rs) r
first_said rs r next =
    let zero_on : r.first - r.first ≡ 0 = omega arith in (
      get_cells rising rs r.first ∙ next.said r.first (within r r.first (omega arith) (omega (arith, next.fit.some)))
          ∙ (λ i. Some (record { 0 = here r.value.0 (r.first - r.first) zero_on i })),
      λ j v h. elim (cases_lt j r.first) [
        | inl less ↦ absurd (none-some v (sym (get_cells rising rs j ∙ next.none j (omega arith) less) ∙ h))
        | inr from ↦ from
      ],
    ) where
      here : (a b : ℕ) → b ≡ 0 → a + b ≡ a
      here a b e = omega (arith, e)

pub first_of_match : (rs : List (Stretch Rising)) (o : Option (Stretch Rising)) → MatchOption o ((m : ℕ) → 0 ≤ m → said rising rs m ≡ None) (IsNextFrom rising rs 0)
    → MatchOption o (cells rising rs ≡ map.empty) (IsFirstOf (cells rising rs))
first_of_match rs None none = nothing_said rs (λ n. none n (omega arith))
first_of_match rs (Some r) next = first_said rs r next

-- the numbers of a run that are vacant one by one
pub vacant_numbers : (value : Run) (count number : ℕ) (m : FinMap nat_cmp Rising) → Some number ≡ thin_number (run_cell value)
    → ((k : ℕ) → k < count → IfSome (thin_number (run_cell (run_after value k))) (λ n. map.get m n ≡ None))
    → (n : ℕ) → number ≤ n → n < number + count → map.get m n ≡ None
vacant_numbers value count number m is vacant n from to =
    let far : number + (n - number) ≡ n = omega (arith, from) in
    let e : thin_number (run_cell (run_after value (n - number))) ≡ Some n = run_thin value (n - number) ∙ ap (option_map (λ k. k + (n - number))) (sym is) ∙ ap Some far in
    let P : Option ℕ → Type 0 = λ o. IfSome o (λ j. map.get m j ≡ None) in
    subst P e (vacant (n - number) (omega (arith, from, to)))

-- no stretch
pub none_first : (rs : List (Stretch Rising)) → rs ≡ [] → cells rising rs ≡ map.empty
none_first rs e = nothing_said rs (λ n. ap (λ (l : List (Stretch Rising)). said rising l n) e)

pub short_first : (rs : List (Stretch Rising)) → length rs ≤ 0 → cells rising rs ≡ map.empty
short_first [] h = none_first [] refl
short_first (r ∷ rs) h = absurd (omega (arith, h))
