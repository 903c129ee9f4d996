-- Nodes of pages in a row, piece by piece.
use Rattle.std.proofs.Common.{◌≡◌, ℕ, ◌+◌, ◌-◌, ◌<◌, ◌≤◌, false, Option, Some, None, refl, sym, ap, subst, ◌∙◌, inl, inr, arith}
use Rattle.std.specs.Prelude.{slice_get}
use Rattle.std.proofs.lemmas.Bool.{cases_lt}
use Rattle.vm_ids.specs.declared.node_name.NodeName.{NodeName}
use Rattle.vm_ids.specs.declared.node_name.NodeName.TheVariants.{Live, Working}
use Rattle.vm_ids.specs.declared.numbers.NodeId.{NodeId}
use Rattle.local_cache.specs.Looking.{AreAllMembers, IsInRow}
use Rattle.local_cache.specs.ManyNodes.{next_if}
use Rattle.local_cache.specs.NodeCells.{Cells, HasCell, cell_at}
use Rattle.local_cache.specs.PageNodes.{name_behind}
use Rattle.local_cache.specs.declared.runs.looking.Member.{Member}
use Rattle.local_cache.proofs.Alike.{name_here, node_here}
use Rattle.local_cache.proofs.Singles.{none_of}

name_twice : (x : NodeName) (a b : ℕ) → name_behind (name_behind x a) b ≡ name_behind x (a + b)
name_twice (Live cache page) a b = (let e : page.0 + a + b ≡ page.0 + (a + b) = omega arith in λ i. Live cache (record { 0 = e i }))
name_twice (Working k) a b = (let e : k + a + b ≡ k + (a + b) = omega arith in ap Working e)

node_twice : (o : Option NodeId) (a b : ℕ) → next_if (next_if o a) b ≡ next_if o (a + b)
node_twice None a b = refl
node_twice (Some n) a b = (let e : n.0 + a + b ≡ n.0 + (a + b) = omega arith in λ i. Some (record { 0 = e i }))

-- what the first member says is what its node has
module _ (m : Cells) (n : ℕ) (start : Member) (all : AreAllMembers m n start) where
  pub first_name_is : (cell_at m n).name ≡ start.name
  first_name_is =
      let here : n ≡ n + 0 = omega arith in
      ap (λ (q : ℕ). (cell_at m q).name) here ∙ (all.1 0 all.0).name ∙ name_here start.name

  pub first_child_is : slice_get (cell_at m n).tree 0 ≡ start.child
  first_child_is =
      let here : n ≡ n + 0 = omega arith in
      ap (λ (q : ℕ). slice_get (cell_at m q).tree 0) here ∙ (all.1 0 all.0).child ∙ node_here start.child

  pub row_start : start.has_two ≡ false → (k : ℕ) → k ≤ start.count → (j : ℕ) → j < k → IsInRow m n j
  row_start one k few j less =
      let member = all.1 j (omega (arith, less, few)) in
      record {
        held = member.held;
        name = member.name ∙ ap (λ (x : NodeName). name_behind x j) (sym first_name_is);
        child = member.child ∙ ap (λ (o : Option NodeId). next_if o j) (sym first_child_is);
        alone = none_of _ (member.two ∙ one);
      }

-- and further ones
pub row_more : (m : Cells) (n count : ℕ) (next : Member) → ((j : ℕ) → j < count → IsInRow m n j) → AreAllMembers m (n + count) next
    → next.name ≡ name_behind (cell_at m n).name count → next.child ≡ next_if (slice_get (cell_at m n).tree 0) count → next.has_two ≡ false
    → (k : ℕ) → k ≤ next.count → (j : ℕ) → j < count + k → IsInRow m n j
row_more m n count next before all name child one k few j less = elim (cases_lt j count) [
  | inl low ↦ before j low
  | inr from ↦
      let i = j - count in
      let at : n + count + (j - count) ≡ n + j = omega (arith, from) in
      let whole : count + (j - count) ≡ j = omega (arith, from) in
      let member = all.1 (j - count) (omega (arith, less, few, from)) in
      let P : ℕ → Type 0 = λ q. HasCell m q in
      record {
        held = subst P at member.held;
        name = ap (λ (q : ℕ). (cell_at m q).name) (sym at) ∙ member.name ∙ ap (λ (x : NodeName). name_behind x (j - count)) name
            ∙ name_twice (cell_at m n).name count (j - count) ∙ ap (name_behind (cell_at m n).name) whole;
        child = ap (λ (q : ℕ). slice_get (cell_at m q).tree 0) (sym at) ∙ member.child ∙ ap (λ (o : Option NodeId). next_if o (j - count)) child
            ∙ node_twice (slice_get (cell_at m n).tree 0) count (j - count) ∙ ap (next_if (slice_get (cell_at m n).tree 0)) whole;
        alone = ap (λ (q : ℕ). slice_get (cell_at m q).tree 1) (sym at) ∙ none_of _ (member.two ∙ one);
      }
]
