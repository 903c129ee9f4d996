-- Pages whose nodes are alike can be moved at once.
use Rattle.std.specs.Prelude.{IfSome}
use Rattle.std.proofs.Common.{◌≡◌, ◌≢◌, ℕ, zero, suc, ◌+◌, ◌-◌, ◌<◌, ◌≤◌, Option, Some, None, refl, sym, ap, ◌∙◌, subst, arith}
use Rattle.vm_ids.specs.declared.command.Span.{Span}
use Rattle.vm_ids.specs.declared.numbers.NodeId.{NodeId}
use Rattle.vm_ids.specs.Forest.Commands.{firsts}
use Rattle.vm_ids.specs.Forest.Laws.Commands.{CanCopy}
use Rattle.vm_ids.specs.Forest.NameLists as names
use Rattle.vm_ids.specs.Forest.Shape.{IsConsistent}
use Rattle.local_cache.specs.declared.own_state.OwnState.TheVariants.{Zero}
use Rattle.local_cache.specs.Arena.{Arena, Cell, HasNode, NodesStay, cell, node_at}
use Rattle.local_cache.specs.Many.{AreAlike, AreNamed, HaveNodes}
use Rattle.local_cache.specs.ManyNodes.{IsApart, next_if, next_node}
use Rattle.local_cache.specs.NodeCells.{renewed, with_child}
use Rattle.local_cache.specs.OnCells.{exchanged_many, on_cells}
use Rattle.local_cache.specs.Reading.{forest_of, name_of}
use Rattle.local_cache.specs.Sound.{IsSound}
use Rattle.tree_merge.specs.Copyable.{AreLeaves}
use Rattle.tree_merge.specs.Copying.{left_many, page_after, pairs_left, renewed_many}
use Rattle.tree_merge.proofs.AlikeNodes.{alike_named}
use Rattle.tree_merge.proofs.CopiedPages.AtOnce.{filled, read}
use Rattle.move_pages.specs.Moving.{AreMoved, CanMoveMany, part_of}
use Rattle.move_pages.proofs.MovedPages.Changes.{name_on}
use Rattle.move_pages.proofs.MovedPages.InTurn.{moved_at_once}

module _ (a : Arena) (sound : IsSound a) (span : Span) (done : ℕ) (can : CanCopy (forest_of a) (pairs_left span done)) where
  abbrev most : ℕ
  most = span.pages - done

  -- no page of the source is one of the destination
  pages_apart : (count : ℕ) → count ≤ span.pages - done → IsApart (part_of span done count)
  pages_apart count few i j low high e =
      (can.sources _ (read a sound span.to span.from (span.to_page.0 + done) (span.from_page.0 + done) most can i (omega arith))).2
      (subst (λ x. names.◌∈◌ x (firsts (pairs_left span done))) (sym e)
      (filled a sound span.to span.from (span.to_page.0 + done) (span.from_page.0 + done) most can j (omega arith)))

  pub can_move : (d s : NodeId) → node_at a span.to.0 (span.to_page.0 + done) ≡ Some d → node_at a span.from.0 (span.from_page.0 + done) ≡ Some s
      → (count : ℕ) → AreLeaves a d count → AreAlike a s count → IsConsistent (forest_of a) → count ≤ span.pages - done → CanMoveMany a d s (part_of span done count)
  can_move d s destination source count leaves alike consistent few = record {
    sound = sound;
    consistent = consistent;
    destinations = alike_named a d count leaves.alike span.to (page_after span.to_page done)
        (sound.kept.listed.nodes span.to.0 (span.to_page.0 + done) d destination).1;
    leaves = leaves;
    sources = alike_named a s count alike span.from (page_after span.from_page done)
        (sound.kept.listed.nodes span.from.0 (span.from_page.0 + done) s source).1;
    apart = pages_apart count few;
  }

-- Names

module _ (n : NodeId) (change : ℕ → Cell → Cell) (keeps : (k : ℕ) (c : Cell) → (change k c).name ≡ c.name) where
  names_on : (a : Arena) (k : ℕ) (m : NodeId) → name_of (on_cells a n change k) m ≡ name_of a m
  names_on a zero m = refl
  names_on a (suc k) m = name_on (next_node n k) (change k) (keeps k) (on_cells a n change k) m ∙ names_on a k m

-- nodes that are as new keep their names, and so do their parents
renewed_names : (a : Arena) (d : NodeId) (count : ℕ) (parent : Option NodeId) (m : NodeId) → name_of (renewed_many a parent d Zero count) m ≡ name_of a m
renewed_names a d count None m = names_on d (λ _. renewed Zero) (λ k c. refl) a count m
renewed_names a d count (Some p) m =
    names_on d (λ _. renewed Zero) (λ k c. refl) (left_many a (Some p) d count) count m
    ∙ names_on p (λ k. with_child (next_node d k) None) (λ k c. refl) a count m

-- what many nodes need to be moved at once
module _ (a : Arena) (d s : NodeId) (span : Span) (count : ℕ) (same : span.pages ≡ count) (can : CanMoveMany a d s span) where
  pub nodes_held : HaveNodes a d count
  nodes_held k less = (can.destinations k (omega (arith, same))).0

  pub first_held : 0 < count → HasNode a d
  first_held some = let zero : d.0 + 0 ≡ d.0 = omega arith in subst (HasNode a) (λ i. record { 0 = zero i }) (nodes_held 0 some)

  pub parents_held : IfSome (cell a d).links.parent (λ p. HaveNodes a p count)
  parents_held = go (cell a d).links.parent refl
    where
      go : (o : Option NodeId) → (cell a d).links.parent ≡ o → IfSome o (λ p. HaveNodes a p count)
      go None is = tt
      go (Some p) is = λ k less.
          can.sound.kept.parents (next_node d k) (next_node p k) (nodes_held k less)
          (ap (λ l. l.parent) (can.leaves.leaves k (omega (arith, same))).links ∙ ap (λ o. next_if o k) is)

  pub nodes_apart : (i j : ℕ) → i < count → j < count → next_node d i ≢ next_node s j
  nodes_apart i j low high e =
      can.apart j i (omega (arith, same)) (omega (arith, same))
      (sym (can.sources j (omega (arith, same))).1 ∙ ap (name_of a) (sym e) ∙ (can.destinations i (omega (arith, same))).1)

  -- the names stay where the nodes are as new
  module _ (b : Arena) (is : b ≡ renewed_many a (cell a d).links.parent d Zero count) (stays : NodesStay a b) where
    names_stay : (m : NodeId) → name_of b m ≡ name_of a m
    names_stay m = ap (λ (x : Arena). name_of x m) is ∙ renewed_names a d count (cell a d).links.parent m

    pub destinations_still : AreNamed b d span.to span.to_page count
    destinations_still k less =
        let named = can.destinations k (omega (arith, same)) in
        (stays (next_node d k) named.0, names_stay (next_node d k) ∙ named.1)

    pub sources_still : AreNamed b s span.from span.from_page count
    sources_still k less =
        let named = can.sources k (omega (arith, same)) in
        (stays (next_node s k) named.0, names_stay (next_node s k) ∙ named.1)

  -- and then they exchange them
  pub all_moved : (b c : Arena) → b ≡ renewed_many a (cell a d).links.parent d Zero count → c ≡ exchanged_many b d s count → AreMoved a c span
  all_moved b c is new =
      subst (λ (x : Arena). AreMoved a x span)
      (sym (new ∙ ap (λ (x : Arena). exchanged_many x d s count) is
      ∙ ap (λ k. exchanged_many (renewed_many a (cell a d).links.parent d Zero k) d s k) (sym same)))
      (moved_at_once a d s span can)
