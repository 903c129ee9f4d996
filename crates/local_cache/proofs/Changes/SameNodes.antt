-- Arenas with the same nodes under the same names.
use Rattle.std.proofs.Common.{◌≡◌, ◌≢◌, ◌≤◌, Bool, true, false, List, [], ◌∷◌, map, Option, Some, None, is_some, refl, sym, ap, ◌∙◌, subst, inl, inr, arith}
use Rattle.vm_ids.specs.declared.node_name.NodeName.{NodeName}
use Rattle.vm_ids.specs.Forest.NameMap.{contains_key}
use Rattle.vm_ids.specs.Forest.Nodes.{Forest, Node, node, parent, parent_of}
use Rattle.vm_ids.specs.Forest.Shape.{IsLinked}
use Rattle.vm_ids.specs.Forest.Nodes.Hang.{Root, TreeOf, StubOf}
use Rattle.vm_ids.specs.declared.numbers.NodeId.{NodeId}
use Rattle.local_cache.specs.declared.own_state.OwnState.{OwnState}
use Rattle.local_cache.specs.declared.links.Links.{Links}
use Rattle.local_cache.specs.Arena.{Arena, Cell, cell, find, HasNode, put, with_links, with_tree}
use Rattle.local_cache.specs.Reading.{name_of, node_of, forest_of, hang_by, AreNamesApart}
pub use Rattle.local_cache.specs.Changes.{Like, Relinked, Rehung}
pub use Rattle.local_cache.proofs.Nodes.OwnStates.{id_cases}
use Rattle.local_cache.specs.Sound.{IsListed}
use Rattle.local_cache.proofs.Tables.Listing.{node_in}
use Rattle.local_cache.proofs.Nodes.Cells.{find-put, find-put_other, cell-put, cell-put_other}
use Rattle.local_cache.proofs.Forest.Reading.{reads_as, forest_of-IsNode, IsNode-forest_of, node-forest_of}

pub like_then : (a b c : Arena) → Like a b → Like b c → Like a c
like_then a b c f g = record { held = λ n. g.held n ∙ f.held n; name = λ n. g.name n ∙ f.name n; caches = g.caches ∙ f.caches }

pub caches-put : (a : Arena) (n : NodeId) (c : Cell) → (put a n c).caches ≡ a.caches
unfolding put
caches-put a n c = refl

pub like-put : (a : Arena) (n : NodeId) (c : Cell) → HasNode a n → c.name ≡ name_of a n → Like a (put a n c)
like-put a n c h e = record {
  held = λ m. elim (id_cases m n) [
    | inl is ↦ ap (λ k. is_some (find (put a n c) k)) is ∙ ap is_some (find-put a n c) ∙ sym h ∙ ap (λ k. is_some (find a k)) (sym is)
    | inr ne ↦ ap is_some (find-put_other a n m c ne)
  ];
  name = λ m. elim (id_cases m n) [
    | inl is ↦ ap (λ k. name_of (put a n c) k) is ∙ ap (λ d. d.name) (cell-put a n c) ∙ e ∙ ap (name_of a) (sym is)
    | inr ne ↦ ap (λ d. d.name) (cell-put_other a n m c ne)
  ];
  caches = caches-put a n c;
}

pub named-like : (a b : Arena) → AreNamesApart a → Like a b → a.made ≡ b.made → AreNamesApart b
named-like a b named like made = record {
  apart = λ n m h k e. named.apart n m (sym (like.held n) ∙ h) (sym (like.held m) ∙ k) (sym (like.name n) ∙ e ∙ like.name m);
  counted = λ n k h e. subst (λ j. k ≤ j) made (named.counted n k (sym (like.held n) ∙ h) (sym (like.name n) ∙ e));
}

pub listed-like : (a b : Arena) → IsListed a → Like a b → IsListed b
listed-like a b listed like = record {
  nodes = λ c p n e.
      let was = listed.nodes c p n (ap (λ ts. node_in ts c p) (sym like.caches) ∙ e) in
      (like.held n ∙ was.0, like.name n ∙ was.1);
  pages = λ c p n h e. ap (λ ts. node_in ts c p) like.caches ∙ listed.pages c p n (sym (like.held n) ∙ h) (sym (like.name n) ∙ e);
}

pub map-like : (a b : Arena) → Like a b → (ns : List NodeId) → map (name_of b) ns ≡ map (name_of a) ns
map-like a b like [] = refl
map-like a b like (n ∷ ns) = λ i. like.name n i ∷ map-like a b like ns i

-- the forest of b is g, where b has the nodes of a, g those of the forest of a, and each is as b
-- has it
pub reads_like : (a b : Arena) → AreNamesApart a → Like a b → a.made ≡ b.made → (g : Forest OwnState) → b.made ≡ g.made → b.copies ≡ g.copies
    → ((x : NodeName) → contains_key g.nodes x ≡ contains_key (forest_of a).nodes x)
    → ((n : NodeId) → HasNode a n → node g (name_of a n) ≡ node_of b n)
    → forest_of b ≡ g
reads_like a b named like same_made g made copies has there =
    reads_as b (named-like a b named like same_made) g made copies
    (λ n h. let k : HasNode a n = sym (like.held n) ∙ h in
    (ap (λ x. contains_key g.nodes x) (like.name n) ∙ has (name_of a n) ∙ IsNode-forest_of a named n k, ap (node g) (like.name n) ∙ there n k))
    (λ x is. let f = forest_of-IsNode a x (sym (has x) ∙ is) in (f.0, like.held f.0 ∙ f.1, like.name f.0 ∙ f.2))

-- what a change of links leaves in each column
pub with_links-keeps : {A : Type 0} (col : Cell → A) → ((c : Cell) (l : Links) → col (record c { links = l }) ≡ col c) → (a : Arena) (n : NodeId) (l : Links) (m : NodeId) → col (cell (with_links a n l) m) ≡ col (cell a m)
with_links-keeps col same a n l m = elim (id_cases m n) [
  | inl e ↦ ap (λ k. col (cell (with_links a n l) k)) e ∙ ap col (cell-put a n _) ∙ same (cell a n) l ∙ ap (λ k. col (cell a k)) (sym e)
  | inr ne ↦ ap col (cell-put_other a n m _ ne)
]

pub links-with_links : (a : Arena) (n : NodeId) (l : Links) → (cell (with_links a n l) n).links ≡ l
links-with_links a n l = ap (λ c. c.links) (cell-put a n _)

pub links-with_links_other : (a : Arena) (n m : NodeId) (l : Links) → m ≢ n → (cell (with_links a n l) m).links ≡ (cell a m).links
links-with_links_other a n m l ne = ap (λ c. c.links) (cell-put_other a n m _ ne)

pub like-with_links : (a : Arena) (n : NodeId) (l : Links) → HasNode a n → Like a (with_links a n l)
like-with_links a n l h = like-put a n _ h refl

pub made-put : (a : Arena) (n : NodeId) (c : Cell) → (put a n c).made ≡ a.made
unfolding put
made-put a n c = refl

pub copies-put : (a : Arena) (n : NodeId) (c : Cell) → (put a n c).copies ≡ a.copies
unfolding put
copies-put a n c = refl

pub room-put : (a : Arena) (n : NodeId) (c : Cell) → (put a n c).room ≡ a.room
unfolding put
room-put a n c = refl

pub relinked : (a : Arena) (n : NodeId) (l : Links) → HasNode a n → Relinked a (with_links a n l)
relinked a n l h = record {
  like = like-with_links a n l h;
  own = with_links-keeps (λ c. c.own) (λ c k. refl) a n l;
  tree = with_links-keeps (λ c. c.tree) (λ c k. refl) a n l;
  made = sym (made-put a n _);
  copies = sym (copies-put a n _);
}

pub relinked_then : (a b c : Arena) → Relinked a b → Relinked b c → Relinked a c
relinked_then a b c f g = record {
  like = like_then a b c f.like g.like;
  own = λ n. g.own n ∙ f.own n;
  tree = λ n. g.tree n ∙ f.tree n;
  made = f.made ∙ g.made;
  copies = f.copies ∙ g.copies;
}

pub relinked_itself : (a : Arena) → Relinked a a
relinked_itself a = record { like = record { held = λ n. refl; name = λ n. refl; caches = refl }; own = λ n. refl; tree = λ n. refl; made = refl; copies = refl }

-- Readings of one link

pub hang_root : (a : Arena) (p : Option NodeId) (b : Bool) → hang_by a p b ≡ Root → p ≡ None
hang_root a None b e = refl
hang_root a (Some p) true e = absurd (cc e)
hang_root a (Some p) false e = absurd (cc e)

pub parent_by : (a : Arena) (p : NodeId) (b : Bool) → parent_of (hang_by a (Some p) b) ≡ Some (name_of a p)
parent_by a p true = refl
parent_by a p false = refl

pub hang-like : (a b : Arena) → Like a b → (p : Option NodeId) (t : Bool) → hang_by b p t ≡ hang_by a p t
hang-like a b like None t = refl
hang-like a b like (Some p) true = ap StubOf (like.name p)
hang-like a b like (Some p) false = ap TreeOf (like.name p)

pub parent-read : (a : Arena) → AreNamesApart a → (n p : NodeId) → HasNode a n → (cell a n).links.parent ≡ Some p → parent (forest_of a) (name_of a n) ≡ Some (name_of a p)
parent-read a named n p h e =
    ap (λ m. parent_of m.hang) (node-forest_of a named n h) ∙ ap (λ o. parent_of (hang_by a o (cell a n).links.by_stub)) e ∙ parent_by a p (cell a n).links.by_stub

-- no node is its own parent
pub irreflexive : (a : Arena) → AreNamesApart a → IsLinked (forest_of a) → (n : NodeId) → HasNode a n → (cell a n).links.parent ≡ Some n → ⊥
irreflexive a named linked n h e = let less = linked.order.1 (name_of a n) (name_of a n) (parent-read a named n n h e) in omega arith

pub same_node : {P : Type 0} (m n : Node P) → m.own ≡ n.own → m.hang ≡ n.hang → m.tree ≡ n.tree → m.stubs ≡ n.stubs → m ≡ n
same_node m n o h t s = λ i. record { own = o i; hang = h i; tree = t i; stubs = s i }

pub with_tree-keeps : {A : Type 0} (col : Cell → A) → ((c : Cell) (l : List NodeId) → col (record c { tree = l }) ≡ col c) → (a : Arena) (n : NodeId) (l : List NodeId) (m : NodeId) → col (cell (with_tree a n l) m) ≡ col (cell a m)
with_tree-keeps col same a n l m = elim (id_cases m n) [
  | inl e ↦ ap (λ k. col (cell (with_tree a n l) k)) e ∙ ap col (cell-put a n _) ∙ same (cell a n) l ∙ ap (λ k. col (cell a k)) (sym e)
  | inr ne ↦ ap col (cell-put_other a n m _ ne)
]

-- the links of all nodes stay
pub links-with_tree : (a : Arena) (n : NodeId) (l : List NodeId) (m : NodeId) → (cell (with_tree a n l) m).links ≡ (cell a m).links
links-with_tree = with_tree-keeps (λ c. c.links) (λ c l. refl)

-- where links and lists alone were changed
pub rehung-links : (a : Arena) (n : NodeId) (l : Links) → HasNode a n → Rehung a (with_links a n l)
rehung-links a n l h = record {
  like = like-with_links a n l h;
  own = with_links-keeps (λ c. c.own) (λ c k. refl) a n l;
  made = made-put a n _;
  copies = copies-put a n _;
  room = room-put a n _;
}

pub rehung-tree : (a : Arena) (n : NodeId) (ts : List NodeId) → HasNode a n → Rehung a (with_tree a n ts)
rehung-tree a n ts h = record {
  like = like-put a n _ h refl;
  own = with_tree-keeps (λ c. c.own) (λ c k. refl) a n ts;
  made = made-put a n _;
  copies = copies-put a n _;
  room = room-put a n _;
}

pub rehung_then : (a b c : Arena) → Rehung a b → Rehung b c → Rehung a c
rehung_then a b c f g = record {
  like = like_then a b c f.like g.like;
  own = λ n. g.own n ∙ f.own n;
  made = g.made ∙ f.made;
  copies = g.copies ∙ f.copies;
  room = g.room ∙ f.room;
}

pub rehung_itself : (a : Arena) → Rehung a a
rehung_itself a = record { like = record { held = λ n. refl; name = λ n. refl; caches = refl }; own = λ n. refl; made = refl; copies = refl; room = refl }

pub forest_of-made : (a : Arena) → (forest_of a).made ≡ a.made
unfolding forest_of
forest_of-made a = refl

pub forest_of-copies : (a : Arena) → (forest_of a).copies ≡ a.copies
unfolding forest_of
forest_of-copies a = refl
