-- A node without parent and children is freed.
use Rattle.std.proofs.Common.{◌≡◌, ◌≢◌, ◌+◌, None, is_some, unwrap_or, refl, sym, ap, ◌∙◌, subst}
use Rattle.std.specs.Cmp.{nat_cmp_total}
use Rattle.std.specs.FinMap.{get-remove}
use Rattle.vm_ids.specs.Forest.Changes.{free, cut}
use Rattle.vm_ids.specs.Forest.Nodes.{Forest, node, child_count}
use Rattle.vm_ids.specs.Forest.Nodes.Hang.{Root}
use Rattle.vm_ids.specs.Forest.Shape.{IsLinked}
use Rattle.vm_ids.proofs.Forest.Cutting.{free-linked, cut-hang}
use Rattle.vm_ids.specs.declared.numbers.NodeId.{NodeId}
use Rattle.local_cache.specs.declared.own_state.OwnState.{OwnState}
use Rattle.local_cache.specs.Arena.{Arena, Room, cell, find, HasNode, without, blank, tables_with}
use Rattle.local_cache.specs.Changes.{Like, Rehung}
use Rattle.local_cache.specs.Own.{own_of}
use Rattle.local_cache.specs.Reading.{name_of, forest_of}
use Rattle.local_cache.specs.Sound.{IsSound}
use Rattle.local_cache.proofs.NewNode.Freeing.{freed-forest, freed-kept}
use Rattle.local_cache.proofs.Nodes.Numbers.{tied, apart}
use Rattle.tree_merge.specs.Staying.{HasNoChild, IsGone}
use Rattle.tree_merge.proofs.ChildLists.Names.{loose, no_tree, no_stubs, counted-no_child, none-cut}

module _ (a : Arena) (n : NodeId) where
  find-gone : find (without a n) n ≡ None
  unfolding without
  find-gone = get-remove nat_cmp_total a.cells n.0 n.0 ∙ rw (tied n.0 n.0 refl)

  find-left : (m : NodeId) → m ≢ n → find (without a n) m ≡ find a m
  unfolding without
  find-left m ne = get-remove nat_cmp_total a.cells n.0 m.0 ∙ rw (apart m.0 n.0 (λ e. ne (λ i. record { 0 = e i })))

  left : (m : NodeId) → m ≢ n → cell (without a n) m ≡ cell a m
  unfolding cell
  left m ne = ap (λ o. unwrap_or o blank) (find-left m ne)

  caches : (without a n).caches ≡ tables_with a.caches (name_of a n) None
  unfolding without
  caches = refl

  counters : ((without a n).made ≡ a.made) × ((without a n).copies ≡ a.copies)
  unfolding without
  counters = (refl, refl)

  room : (without a n).room ≡ record a.room { nodes = a.room.nodes + 1 }
  unfolding without
  room = refl

  pub gone-without : IsGone a (without a n) n
  gone-without = record { gone = find-gone; held = λ m ne. ap is_some (find-left m ne); name = λ m ne. ap (λ c. c.name) (left m ne); caches = caches; made = counters.0; copies = counters.1; room = room }

  pub own-without : (m : NodeId) → m ≢ n → own_of (without a n) m ≡ own_of a m
  own-without m ne = ap (λ c. c.own) (left m ne)

more : (r s : Room) → r ≡ s → ◌≡◌ {A = Room} (record r { nodes = r.nodes + 1 }) (record s { nodes = s.nodes + 1 })
more r s e = λ i. record (e i) { nodes = (e i).nodes + 1 }

-- after a change that leaves nodes, names and tables
pub gone-like : (a b c : Arena) (n : NodeId) → Like a b → b.made ≡ a.made → b.copies ≡ a.copies → b.room ≡ a.room → IsGone b c n → IsGone a c n
gone-like a b c n like made copies room g = record {
  gone = g.gone;
  held = λ m ne. g.held m ne ∙ like.held m;
  name = λ m ne. g.name m ne ∙ like.name m;
  caches = g.caches ∙ ap (λ ts. tables_with ts (name_of b n) None) like.caches ∙ ap (λ x. tables_with a.caches x None) (like.name n);
  made = g.made ∙ made;
  copies = g.copies ∙ copies;
  room = g.room ∙ more b.room a.room room;
}

pub gone-rehung : (a b c : Arena) (n : NodeId) → Rehung a b → IsGone b c n → IsGone a c n
gone-rehung a b c n r g = gone-like a b c n r.like r.made r.copies r.room g

pub record Freed (a c : Arena) (n : NodeId) (g : Forest OwnState) : Type 0 where
  pub forest : forest_of c ≡ g
  pub sound : IsSound c
  pub gone : IsGone a c n
  pub owns : (m : NodeId) → m ≢ n → own_of c m ≡ own_of a m

-- a node without parent and children goes
module _ (a : Arena) (sound : IsSound a) (n : NodeId) (hn : HasNode a n) (root : (node (forest_of a) (name_of a n)).hang ≡ Root) (none : HasNoChild (forest_of a) (name_of a n)) where
  forest_is : forest_of (without a n) ≡ free (forest_of a) (name_of a n)
  forest_is = freed-forest a sound.kept n hn (loose a sound n hn root none)

  freed-linked : IsLinked (free (forest_of a) (name_of a n))
  freed-linked = free-linked (forest_of a) sound.linked (name_of a n) root (no_tree (forest_of a) sound.linked (name_of a n) none) (no_stubs (forest_of a) sound.linked (name_of a n) none)

  freed_here : Freed a (without a n) n (free (forest_of a) (name_of a n))
  freed_here = record {
    forest = forest_is;
    sound = record { kept = freed-kept a sound.kept n hn (loose a sound n hn root none); linked = subst IsLinked (sym forest_is) freed-linked };
    gone = gone-without a n;
    owns = own-without a n;
  }

  pub free-Freed : (c : Arena) → c ≡ without a n → Freed a c n (free (forest_of a) (name_of a n))
  free-Freed c is = subst (λ k. Freed a k n (free (forest_of a) (name_of a n))) (sym is) freed_here

-- a node without children is cut off and goes
pub drop-Freed : (a b c : Arena) → IsSound a → (n : NodeId) → HasNode a n → child_count (forest_of a) (name_of a n) ≡ 0
    → forest_of b ≡ cut (forest_of a) (name_of a n) → IsSound b → Rehung a b → c ≡ without b n → Freed a c n (free (cut (forest_of a) (name_of a n)) (name_of a n))
drop-Freed a b c sound n hn leaf forest_b sound_b r c_is =
    let f : Forest OwnState = forest_of a in
    let name_is = r.like.name n in
    let root : (node (forest_of b) (name_of b n)).hang ≡ Root = ap (λ x. (node (forest_of b) x).hang) name_is ∙ ap (λ g. (node g (name_of a n)).hang) forest_b ∙ cut-hang (forest_of a) (name_of a n) in
    let none : HasNoChild (forest_of b) (name_of b n) =
    subst (λ x. HasNoChild (forest_of b) x) (sym name_is) (subst (λ g. HasNoChild g (name_of a n)) (sym forest_b) (none-cut (forest_of a) sound.linked (name_of a n) (name_of a n) (counted-no_child (forest_of a) sound.linked (name_of a n) leaf))) in
    let went = free-Freed b sound_b n (r.like.held n ∙ hn) root none c c_is in
    record {
      forest = went.forest ∙ ap (free (forest_of b)) name_is ∙ ap (λ g. free g (name_of a n)) forest_b;
      sound = went.sound;
      gone = gone-rehung a b c n r went.gone;
      owns = λ m ne. went.owns m ne ∙ r.own m;
    }
