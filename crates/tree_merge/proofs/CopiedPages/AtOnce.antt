-- Pages whose nodes are alike can be copied at once.
use Rattle.std.specs.Prelude.{IfSome, slice_get}
use Rattle.std.specs.List.{cons_option}
use Rattle.std.proofs.Common.{◌≡◌, ℕ, zero, suc, ◌+◌, ◌<◌, ◌≤◌, List, [], ◌∷◌, cond, Option, Some, None, IsSome, refl, sym, ap, ◌∙◌, subst, arith, inl, inr}
use Rattle.vm_ids.specs.declared.node_name.NodeName.{NodeName}
use Rattle.vm_ids.specs.declared.node_name.NodeName.TheVariants.{Live}
use Rattle.vm_ids.specs.declared.numbers.CacheId.{CacheId}
use Rattle.vm_ids.specs.declared.numbers.NodeId.{NodeId}
use Rattle.vm_ids.specs.declared.numbers.PageNo.{PageNo}
use Rattle.vm_ids.specs.Forest.Commands.{firsts, page_name, page_pairs, seconds}
use Rattle.vm_ids.specs.Forest.Laws.Commands.{CanCopy}
use Rattle.vm_ids.specs.Forest.NameLists as names
use Rattle.vm_ids.specs.Forest.Nodes.{IsNode}
use Rattle.vm_ids.proofs.Forest.Laws.Ranges.{pairs_fill_destinations, pairs_read_sources, ranges_hold_their_pages}
use Rattle.local_cache.specs.declared.own_state.OwnState.{OwnState}
use Rattle.local_cache.specs.Arena.{Arena, Cell, NodesStay, cell, find, node_at, put}
use Rattle.local_cache.specs.Many.{AreNamed, HaveNodes, HaveNone}
use Rattle.local_cache.specs.ManyNodes.{next_if, next_node}
use Rattle.local_cache.specs.NodeCells.{exchanged, renewed, tree_of, with_child}
use Rattle.local_cache.specs.OnCells.{on_cells}
use Rattle.local_cache.specs.Reading.{forest_of, name_of}
use Rattle.local_cache.specs.Sound.{IsSound, ◌∈◌}
use Rattle.local_cache.proofs.Changes.SameNodes.{id_cases}
use Rattle.local_cache.proofs.Whole.LivePages.{page_there}
use Rattle.tree_merge.specs.Copyable.{AreCopyable, history, history_of}
use Rattle.tree_merge.specs.Copying.{copied_many, left_many, renewed_many}
use Rattle.tree_merge.specs.Stepping.{AreCopied}
use Rattle.tree_merge.proofs.AlikeNodes.{alike_named, no_children}
use Rattle.tree_merge.proofs.ChildLists.TreeLists.{equal, exchanged-in, place_other, place_same, unequal}
use Rattle.tree_merge.proofs.CopiedPages.InTurn.{copied_at_once}
use Rattle.tree_merge.proofs.CopiedPages.Rows.{apart_back}

-- The pages of a copy

module _ (a : Arena) (sound : IsSound a) (to from : CacheId) (q p most : ℕ) (can : CanCopy (forest_of a) (page_pairs from p to q most)) where
  pub filled : (k : ℕ) → k < most → names.◌∈◌ (page_name to (q + k)) (firsts (page_pairs from p to q most))
  filled k less = subst (λ (xs : List NodeName). names.◌∈◌ (page_name to (q + k)) xs) (sym (pairs_fill_destinations from to p q most))
      ((ranges_hold_their_pages to q most (page_name to (q + k))).1 (k, less, refl))

  pub read : (k : ℕ) → k < most → names.◌∈◌ (page_name from (p + k)) (seconds (page_pairs from p to q most))
  read k less = subst (λ (xs : List NodeName). names.◌∈◌ (page_name from (p + k)) xs) (sym (pairs_read_sources from to p q most))
      ((ranges_hold_their_pages from p most (page_name from (p + k))).1 (k, less, refl))

  -- the first of them has a node, and so has its source
  pub destination_there : 0 < most → IsSome (node_at a to.0 q)
  destination_there some =
      let first : q + 0 ≡ q = omega arith in
      page_there a sound to (record { 0 = q }) (subst (λ i. IsNode (forest_of a) (page_name to i)) first (can.destinations.live _ (filled 0 some)).0)

  pub source_there : 0 < most → IsSome (node_at a from.0 p)
  source_there some =
      let first : p + 0 ≡ p = omega arith in
      page_there a sound from (record { 0 = p }) (subst (λ i. IsNode (forest_of a) (page_name from i)) first (can.sources _ (read 0 some)).0)

-- Tree children

only_child : (ms : List NodeId) (c : NodeId) → slice_get ms 0 ≡ Some c → slice_get ms 1 ≡ None → ms ≡ c ∷ []
only_child [] c first second = absurd (cc first)
only_child (m ∷ []) c first second = let same : m ≡ c = cc first in ap (λ n. n ∷ []) same
only_child (m ∷ k ∷ ms) c first second = absurd (cc second)

-- what is left of an only child
left_child : (d c : NodeId) (k : ℕ) → exchanged (next_node d k) None (next_node c k ∷ []) ≡ tree_of (next_if (history d (Some c)) k) None
left_child d c k = elim (id_cases c d) [
  | inl e ↦
      ap (λ (o : Option NodeId). cons_option o []) (place_same (next_node d k) (next_node c k) None (ap (λ n. next_node n k) e))
      ∙ ap (λ t. tree_of (next_if (cond t None (Some c)) k) None) (sym (equal c.0 d.0 (ap (λ (n : NodeId). n.0) e)))
  | inr ne ↦
      ap (λ (o : Option NodeId). cons_option o []) (place_other (next_node d k) (next_node c k) None (λ e. let same : c.0 + k ≡ d.0 + k = ap (λ (n : NodeId). n.0) e in ne (λ i. record { 0 = less k c.0 d.0 same i })))
      ∙ ap (λ t. tree_of (next_if (cond t None (Some c)) k) None) (sym (unequal c.0 d.0 (λ e. ne (λ i. record { 0 = e i }))))
]
  where
    less : (k m n : ℕ) → m + k ≡ n + k → m ≡ n
    less k m n e = omega arith

-- the tree child of a source that is left, and of the one so many numbers behind it
left_tree : (d : NodeId) (o : Option NodeId) (ms : List NodeId) (k : ℕ) → slice_get ms 0 ≡ next_if o k → slice_get ms 1 ≡ None
    → exchanged (next_node d k) None ms ≡ tree_of (next_if (history d o) k) None
left_tree d None ms k first second = ap (exchanged (next_node d k) None) (no_children ms first)
left_tree d (Some c) ms k first second = ap (exchanged (next_node d k) None) (only_child ms (next_node c k) first second) ∙ left_child d c k

-- Many pages

module _ (a : Arena) (sound : IsSound a) (d s : NodeId) (count : ℕ) (copyable : AreCopyable a d s count) where
  pub held_d : HaveNodes a d count
  held_d k less = (copyable.leaves.alike k less).held

  -- the nodes that they hang on
  pub held_p : IfSome (cell a d).links.parent (λ p. HaveNodes a p count)
  held_p = go (cell a d).links.parent refl
    where
      go : (o : Option NodeId) → (cell a d).links.parent ≡ o → IfSome o (λ p. HaveNodes a p count)
      go None is = tt
      go (Some p) is = λ k less.
          sound.kept.parents (next_node d k) (next_node p k) (held_d k less) (ap (λ l. l.parent) (copyable.leaves.leaves k less).links ∙ ap (λ o. next_if o k) is)

  trees : (k : ℕ) → k < count → exchanged (next_node d k) None (cell a (next_node s k)).tree ≡ tree_of (next_if (history_of a d s) k) None
  trees k less = left_tree d (slice_get (cell a s).tree 0) (cell a (next_node s k)).tree k (copyable.row.children k less) (copyable.row.alone k less)

  module _ (from : CacheId) (from_page : PageNo) (named_s : name_of a s ≡ Live from from_page) where
    sources : AreNamed a s from from_page count
    sources = copyable.row.named from from_page named_s

    pub held_s : HaveNodes a s count
    held_s k less = (sources k less).0

    pub held_h : IfSome (history_of a d s) (λ h. HaveNodes a h count)
    held_h = go (history_of a d s) refl
      where
        go : (o : Option NodeId) → history_of a d s ≡ o → IfSome o (λ h. HaveNodes a h count)
        go None is = tt
        go (Some h) is = λ k less.
            let only : exchanged (next_node d k) None (cell a (next_node s k)).tree ≡ next_node h k ∷ [] = trees k less ∙ ap (λ o. tree_of (next_if o k) None) is in
            elim (exchanged-in (next_node d k) None (cell a (next_node s k)).tree (next_node h k) (subst (λ ms. next_node h k ∈ ms) (sym only) (inl refl))) [
              | inl none ↦ absurd (cc none)
              | inr has ↦ sound.kept.children (next_node s k) (next_node h k) (held_s k less) has
            ]

    module _ (to : CacheId) (to_page : PageNo) (named_d : name_of a d ≡ Live to to_page) where
      pub many_copied : (w : NodeId) → IfSome (history_of a d s) (λ _. HaveNone a w count × (count ≤ a.room.nodes))
          → AreCopied a (copied_many a (cell a d).links.parent (history_of a d s) d s w count) to to_page from from_page count
      many_copied w working = copied_at_once a (cell a d).links.parent (history_of a d s) d s w to to_page from from_page count (record {
        sound = sound;
        destinations = alike_named a d count copyable.leaves.alike to to_page named_d;
        leaves = copyable.leaves.leaves;
        empty = copyable.leaves.empty;
        sources = sources;
        apart = apart_back s d count copyable.apart;
        trees = trees;
        free = copyable.free;
        working = working;
      })

-- What stays where cells alone are changed

counters_put : (a : Arena) (n : NodeId) (c : Cell) → ((put a n c).room ≡ a.room) × ((put a n c).made ≡ a.made)
unfolding put
counters_put a n c = (refl, refl)

module _ (n : NodeId) (change : ℕ → Cell → Cell) where
  room_on : (a : Arena) (k : ℕ) → (on_cells a n change k).room ≡ a.room
  room_on a zero = refl
  room_on a (suc k) =
      let b : Arena = on_cells a n change k in
      (counters_put b (next_node n k) (change k (cell b (next_node n k)))).0 ∙ room_on a k

  made_on : (a : Arena) (k : ℕ) → (on_cells a n change k).made ≡ a.made
  made_on a zero = refl
  made_on a (suc k) =
      let b : Arena = on_cells a n change k in
      (counters_put b (next_node n k) (change k (cell b (next_node n k)))).1 ∙ made_on a k

module _ (a : Arena) (d : NodeId) (state : OwnState) (count : ℕ) where
  pub room_renewed : (parent : Option NodeId) → (renewed_many a parent d state count).room ≡ a.room
  room_renewed None = room_on d (λ _. renewed state) a count
  room_renewed (Some p) = room_on d (λ _. renewed state) (left_many a (Some p) d count) count ∙ room_on p (λ k. with_child (next_node d k) None) a count

  pub made_renewed : (parent : Option NodeId) → (renewed_many a parent d state count).made ≡ a.made
  made_renewed None = made_on d (λ _. renewed state) a count
  made_renewed (Some p) = made_on d (λ _. renewed state) (left_many a (Some p) d count) count ∙ made_on p (λ k. with_child (next_node d k) None) a count

-- what isn't there once nodes were added wasn't there before
none_before : (a b : Arena) (n : NodeId) (count : ℕ) → NodesStay a b → HaveNone b n count → HaveNone a n count
none_before a b n count stays none k less = go (find a (next_node n k)) (find b (next_node n k)) (stays (next_node n k)) (none k less)
  where
    never : (r : Option Cell) → IsSome r → r ≡ None → ⊥
    never None some e = absurd (cc some)
    never (Some c) some e = absurd (cc e)

    go : (o r : Option Cell) → (IsSome o → IsSome r) → r ≡ None → o ≡ None
    go None r some e = refl
    go (Some c) r some e = absurd (never r (some refl) e)

-- the nodes that there may be are there still
pub if_stay : (a b : Arena) (count : ℕ) → NodesStay a b → (o : Option NodeId) → IfSome o (λ n. HaveNodes a n count) → IfSome o (λ n. HaveNodes b n count)
if_stay a b count stays None held = tt
if_stay a b count stays (Some n) held = λ k less. stays (next_node n k) (held k less)

-- and there is room for the working nodes that come
pub if_new : (a b : Arena) (w : NodeId) (count : ℕ) → NodesStay a b → count ≤ a.room.nodes → (o : Option NodeId) → IfSome o (λ _. HaveNone b w count)
    → IfSome o (λ _. HaveNone a w count × (count ≤ a.room.nodes))
if_new a b w count stays room None none = tt
if_new a b w count stays room (Some h) none = (none_before a b w count stays none, room)
