-- A change of one node that leaves all lists of stubs is a change of one node of the forest.
use Rattle.std.proofs.Common.{◌≡◌, ◌≢◌, ◌⊎◌, List, map, true, false, Option, Some, None, refl, sym, ap, ◌∙◌, subst, inl, inr}
use Rattle.std.proofs.lemmas.Bool.{false≢true}
use Rattle.vm_ids.specs.declared.node_name.NodeName.{NodeName}
use Rattle.vm_ids.specs.Forest.Changes as forest
use Rattle.vm_ids.specs.Forest.Nodes.{Forest, Node, node, Hang}
use Rattle.vm_ids.specs.Forest.Changes.{edit, with_hang}
use Rattle.vm_ids.proofs.Forest.NodesAfter.{node-put, node-put_other, has-put}
use Rattle.vm_ids.specs.declared.numbers.NodeId.{NodeId}
use Rattle.local_cache.specs.declared.own_state.OwnState.{OwnState}
use Rattle.local_cache.specs.declared.links.Links.{Links}
use Rattle.local_cache.specs.Arena.{Arena, Cell, cell, HasNode, put, hung, with_own, with_tree}
use Rattle.local_cache.specs.Reading.{name_of, node_of, page_of, forest_of, hang_by, stubs_of}
use Rattle.local_cache.specs.Threads.{IsThreaded}
use Rattle.local_cache.specs.Sound.{IsKept, ◌∈◌}
use Rattle.local_cache.proofs.Nodes.Cells.{cell-put, cell-put_other}
use Rattle.local_cache.proofs.Forest.StubRows.{threaded_is, threaded-kept, row-each, Keeps, keeps_links}
use Rattle.local_cache.proofs.Forest.Reading.{node-forest_of, IsNode-forest_of}
use Rattle.local_cache.proofs.Changes.SameNodes.{Like, Rehung, rehung-links, rehung-tree, links-with_tree, links-with_links_other, like-put, id_cases, reads_like, listed-like, named-like, hang-like, map-like, same_node, made-put, copies-put, forest_of-made, forest_of-copies}

-- n stands in no list of stubs
abbrev pub IsNoStub : Arena → NodeId → Type 0
IsNoStub a n = (p : NodeId) → (cell a n).links.parent ≡ Some p → (cell a n).links.by_stub ≡ false

-- c may stand in the place of the node n
pub record Fits (a : Arena) (n : NodeId) (c : Cell) : Type 0 where
  pub held : HasNode a n
  pub name : c.name ≡ name_of a n
  pub first : c.links.first ≡ (cell a n).links.first
  pub last : c.links.last ≡ (cell a n).links.last
  pub stubs : c.links.stubs ≡ (cell a n).links.stubs
  pub place : IsNoStub a n ⊎ (c.links ≡ (cell a n).links)
  pub parents : (p : NodeId) → c.links.parent ≡ Some p → HasNode a p
  pub children : (m : NodeId) → m ∈ c.tree → HasNode a m

abbrev pub node_by : Arena → NodeId → Cell → Node OwnState
node_by a n c = record { own = page_of c.own; hang = hang_by a c.links.parent c.links.by_stub; tree = map (name_of a) c.tree; stubs = (node (forest_of a) (name_of a n)).stubs }

module _ (a : Arena) (kept : IsKept a) (n : NodeId) (c : Cell) (fits : Fits a n c) where
  like : Like a (put a n c)
  like = like-put a n c fits.held fits.name

  other : (m : NodeId) → m ≢ n → cell (put a n c) m ≡ cell a m
  other m ne = cell-put_other a n m c ne

  lists : (x : NodeId) → HasNode a x → IsThreaded (put a n c) x (stubs_of a x)
  lists x h =
      let t = kept.threaded x h in
      threaded-kept a (put a n c) x (stubs_of a x) (λ y i. places y (row-each a x None (stubs_of a x) None t.row y i)) first last stubs t
    where
      places : (y : NodeId) → HasNode a y × ((cell a y).links.parent ≡ Some x) × ((cell a y).links.by_stub ≡ true) → Keeps a (put a n c) y
      places y each = elim (id_cases y n) [
        | inr ne ↦ keeps_links a (put a n c) y (λ h. like.held y ∙ h) (ap (λ d. d.links) (other y ne))
        | inl e ↦ elim fits.place [
          | inl none ↦ absurd (false≢true (sym (none x (ap (λ m. (cell a m).links.parent) (sym e) ∙ each.1)) ∙ ap (λ m. (cell a m).links.by_stub) (sym e) ∙ each.2))
          | inr same ↦ keeps_links a (put a n c) y (λ h. like.held y ∙ h) (ap (λ m. (cell (put a n c) m).links) e ∙ ap (λ d. d.links) (cell-put a n c) ∙ same ∙ ap (λ m. (cell a m).links) (sym e))
        ]
      ]

      by_case : {A : Type 0} (col : Links → A) → col c.links ≡ col (cell a n).links → col (cell (put a n c) x).links ≡ col (cell a x).links
      by_case col same = elim (id_cases x n) [
        | inl e ↦ ap (λ m. col (cell (put a n c) m).links) e ∙ ap (λ d. col d.links) (cell-put a n c) ∙ same ∙ ap (λ m. col (cell a m).links) (sym e)
        | inr ne ↦ ap (λ d. col d.links) (other x ne)
      ]

      first : (cell (put a n c) x).links.first ≡ (cell a x).links.first
      first = by_case (λ l. l.first) fits.first

      last : (cell (put a n c) x).links.last ≡ (cell a x).links.last
      last = by_case (λ l. l.last) fits.last

      stubs : (cell (put a n c) x).links.stubs ≡ (cell a x).links.stubs
      stubs = by_case (λ l. l.stubs) fits.stubs

  stubs_are : (x : NodeId) → HasNode a x → stubs_of (put a n c) x ≡ stubs_of a x
  stubs_are x h = threaded_is (put a n c) x (stubs_of a x) (lists x h)

  stub_names : (x : NodeId) → HasNode a x → (node_of (put a n c) x).stubs ≡ (node (forest_of a) (name_of a x)).stubs
  stub_names x h = ap (map (name_of (put a n c))) (stubs_are x h) ∙ map-like a (put a n c) like (stubs_of a x) ∙ sym (ap (λ m. m.stubs) (node-forest_of a kept.named x h))

  node_n : node_of (put a n c) n ≡ node_by a n c
  node_n = same_node (node_of (put a n c) n) (node_by a n c)
      (ap (λ d. page_of d.own) (cell-put a n c))
      (ap (λ d. hang_by (put a n c) d.links.parent d.links.by_stub) (cell-put a n c) ∙ hang-like a (put a n c) like c.links.parent c.links.by_stub)
      (ap (λ d. map (name_of (put a n c)) d.tree) (cell-put a n c) ∙ map-like a (put a n c) like c.tree)
      (stub_names n fits.held)

  node_other : (x : NodeId) → HasNode a x → x ≢ n → node_of (put a n c) x ≡ node_of a x
  node_other x h ne = same_node (node_of (put a n c) x) (node_of a x)
      (ap (λ d. page_of d.own) (other x ne))
      (ap (λ d. hang_by (put a n c) d.links.parent d.links.by_stub) (other x ne) ∙ hang-like a (put a n c) like (cell a x).links.parent (cell a x).links.by_stub)
      (ap (λ d. map (name_of (put a n c)) d.tree) (other x ne) ∙ map-like a (put a n c) like (cell a x).tree)
      (ap (map (name_of (put a n c))) (stubs_are x h) ∙ map-like a (put a n c) like (stubs_of a x))

  put-made : (forest.put (forest_of a) (name_of a n) (node_by a n c)).made ≡ a.made
  unfolding forest.put
  put-made = forest_of-made a

  put-copies : (forest.put (forest_of a) (name_of a n) (node_by a n c)).copies ≡ a.copies
  unfolding forest.put
  put-copies = forest_of-copies a

  pub edit-forest : forest_of (put a n c) ≡ forest.put (forest_of a) (name_of a n) (node_by a n c)
  edit-forest = reads_like a (put a n c) kept.named like (sym (made-put a n c)) (forest.put (forest_of a) (name_of a n) (node_by a n c))
      (made-put a n c ∙ sym put-made) (copies-put a n c ∙ sym put-copies)
      (has-put (forest_of a) (name_of a n) (node_by a n c) (IsNode-forest_of a kept.named n fits.held))
      (λ x h. elim (id_cases x n) [
        | inl e ↦ ap (λ m. node (forest.put (forest_of a) (name_of a n) (node_by a n c)) (name_of a m)) e ∙ node-put (forest_of a) (name_of a n) (node_by a n c) ∙ sym node_n ∙ ap (node_of (put a n c)) (sym e)
        | inr ne ↦ node-put_other (forest_of a) (name_of a n) (name_of a x) (node_by a n c) (λ e. ne (kept.named.apart x n h fits.held e)) ∙ node-forest_of a kept.named x h ∙ sym (node_other x h ne)
      ])

  pub edit-kept : IsKept (put a n c)
  edit-kept = record {
    named = named-like a (put a n c) kept.named like (sym (made-put a n c));
    listed = listed-like a (put a n c) kept.listed like;
    parents = λ x p h up. like.held p ∙ elim (id_cases x n) [
      | inl e ↦ fits.parents p (ap (λ d. d.links.parent) (sym (cell-put a n c)) ∙ ap (λ m. (cell (put a n c) m).links.parent) (sym e) ∙ up)
      | inr ne ↦ kept.parents x p (sym (like.held x) ∙ h) (ap (λ d. d.links.parent) (sym (other x ne)) ∙ up)
    ];
    children = λ x m h i. like.held m ∙ elim (id_cases x n) [
      | inl e ↦ fits.children m (subst (λ ts. m ∈ ts) (ap (λ k. (cell (put a n c) k).tree) e ∙ ap (λ d. d.tree) (cell-put a n c)) i)
      | inr ne ↦ kept.children x m (sym (like.held x) ∙ h) (subst (λ ts. m ∈ ts) (ap (λ d. d.tree) (other x ne)) i)
    ];
    threaded = λ x h. let ha : HasNode a x = sym (like.held x) ∙ h in subst (IsThreaded (put a n c) x) (sym (stubs_are x ha)) (lists x ha);
  }

-- Steps

module _ (a : Arena) (kept : IsKept a) (n : NodeId) (h : HasNode a n) where
  as_node : (own : Option OwnState) (hang : Hang) (tree : List NodeName) → own ≡ (node_of a n).own → hang ≡ (node_of a n).hang → tree ≡ (node_of a n).tree
      → ◌≡◌ {A = Node OwnState} (record { own = own; hang = hang; tree = tree; stubs = (node (forest_of a) (name_of a n)).stubs }) (node (forest_of a) (name_of a n))
  as_node own hang tree o k t =
      let is = node-forest_of a kept.named n h in
      λ i. record { own = (o ∙ sym (ap (λ m. m.own) is)) i; hang = (k ∙ sym (ap (λ m. m.hang) is)) i; tree = (t ∙ sym (ap (λ m. m.tree) is)) i; stubs = (node (forest_of a) (name_of a n)).stubs }

  own_fits : (s : OwnState) → Fits a n (record (cell a n) { own = s })
  own_fits s = record { held = h; name = refl; first = refl; last = refl; stubs = refl; place = inr refl; parents = λ p e. kept.parents n p h e; children = λ m i. kept.children n m h i }

  pub own-forest : (s : OwnState) → forest_of (with_own a n s) ≡ edit (forest_of a) (name_of a n) (forest.with_own (page_of s))
  own-forest s = edit-forest a kept n (record (cell a n) { own = s }) (own_fits s)
      ∙ ap (λ m. forest.put (forest_of a) (name_of a n) (forest.with_own (page_of s) m)) (as_node (page_of (cell a n).own) _ _ refl refl refl)

  pub own-kept : (s : OwnState) → IsKept (with_own a n s)
  own-kept s = edit-kept a kept n (record (cell a n) { own = s }) (own_fits s)

  tree_fits : (ts : List NodeId) → ((m : NodeId) → m ∈ ts → HasNode a m) → Fits a n (record (cell a n) { tree = ts })
  tree_fits ts all = record { held = h; name = refl; first = refl; last = refl; stubs = refl; place = inr refl; parents = λ p e. kept.parents n p h e; children = all }

  pub tree-forest : (ts : List NodeId) → ((m : NodeId) → m ∈ ts → HasNode a m) → forest_of (with_tree a n ts) ≡ edit (forest_of a) (name_of a n) (forest.with_tree (map (name_of a) ts))
  tree-forest ts all = edit-forest a kept n (record (cell a n) { tree = ts }) (tree_fits ts all)
      ∙ ap (λ m. forest.put (forest_of a) (name_of a n) (forest.with_tree (map (name_of a) ts) m)) (as_node _ _ (map (name_of a) (cell a n).tree) refl refl refl)

  pub tree-kept : (ts : List NodeId) → ((m : NodeId) → m ∈ ts → HasNode a m) → IsKept (with_tree a n ts)
  tree-kept ts all = edit-kept a kept n (record (cell a n) { tree = ts }) (tree_fits ts all)

  hang_fits : IsNoStub a n → (up : Option NodeId) → ((p : NodeId) → up ≡ Some p → HasNode a p) → Fits a n (record (cell a n) { links = record (cell a n).links { parent = up; by_stub = false } })
  hang_fits none up all = record { held = h; name = refl; first = refl; last = refl; stubs = refl; place = inl none; parents = all; children = λ m i. kept.children n m h i }

  pub hang-forest : IsNoStub a n → (up : Option NodeId) → ((p : NodeId) → up ≡ Some p → HasNode a p) → forest_of (hung a n up) ≡ edit (forest_of a) (name_of a n) (with_hang (hang_by a up false))
  hang-forest none up all = edit-forest a kept n _ (hang_fits none up all)
      ∙ ap (λ m. forest.put (forest_of a) (name_of a n) (with_hang (hang_by a up false) m)) (as_node _ (hang_by a (cell a n).links.parent (cell a n).links.by_stub) _ refl refl refl)

  pub hang-kept : IsNoStub a n → (up : Option NodeId) → ((p : NodeId) → up ≡ Some p → HasNode a p) → IsKept (hung a n up)
  hang-kept none up all = edit-kept a kept n _ (hang_fits none up all)

-- b is a after a step that changes links and lists alone, and reads as the forest g
pub record Edited (a b : Arena) (g : Forest OwnState) : Type 0 where
  pub rehung : Rehung a b
  pub kept : IsKept b
  pub forest : forest_of b ≡ g

pub tree-edited : (a : Arena) → IsKept a → (p : NodeId) → HasNode a p → (ts : List NodeId) → ((m : NodeId) → m ∈ ts → HasNode a m)
    → Edited a (with_tree a p ts) (edit (forest_of a) (name_of a p) (forest.with_tree (map (name_of a) ts)))
tree-edited a kept p hp ts all = record { rehung = rehung-tree a p ts hp; kept = tree-kept a kept p hp ts all; forest = tree-forest a kept p hp ts all }

pub hang-edited : (a : Arena) → IsKept a → (n : NodeId) → HasNode a n → IsNoStub a n → (up : Option NodeId) → ((p : NodeId) → up ≡ Some p → HasNode a p)
    → Edited a (hung a n up) (edit (forest_of a) (name_of a n) (with_hang (hang_by a up false)))
hang-edited a kept n hn none up all = record { rehung = rehung-links a n _ hn; kept = hang-kept a kept n hn none up all; forest = hang-forest a kept n hn none up all }

-- Nodes that stand in no list of stubs

pub no_stub-tree : (a : Arena) (p : NodeId) (ts : List NodeId) (n : NodeId) → IsNoStub a n → IsNoStub (with_tree a p ts) n
no_stub-tree a p ts n none q e = let l = links-with_tree a p ts n in ap (λ k. k.by_stub) l ∙ none q (sym (ap (λ k. k.parent) l) ∙ e)

pub no_stub-hung : (a : Arena) (x : NodeId) (up : Option NodeId) (n : NodeId) → n ≢ x → IsNoStub a n → IsNoStub (hung a x up) n
no_stub-hung a x up n ne none q e = let l = links-with_links_other a x n _ ne in ap (λ k. k.by_stub) l ∙ none q (sym (ap (λ k. k.parent) l) ∙ e)

pub root_no_stub : (a : Arena) (n : NodeId) → (cell a n).links.parent ≡ None → IsNoStub a n
root_no_stub a n e p up = absurd (let clash : Some p ≡ None = sym up ∙ e in cc clash)
