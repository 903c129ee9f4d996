-- One page is copied by a tree link, whose node is as new: it had no children, and nothing of its
-- own.
use Rattle.std.proofs.Common.{◌≡◌, ◌≢◌, ◌+◌, ◌≤◌, false, List, [], ◌∷◌, Option, Some, None, is_some, refl, sym, ap, ◌∙◌, subst, inl, inr, arith}
use Rattle.std.specs.List.{cons_option}
use Rattle.std.proofs.lemmas.Bool.{false≢true}
use Rattle.vm_ids.specs.declared.node_name.NodeName.{NodeName}
use Rattle.vm_ids.specs.declared.node_name.NodeName.TheVariants.{Live}
use Rattle.vm_ids.specs.declared.numbers.CacheId.{CacheId}
use Rattle.vm_ids.specs.declared.numbers.NodeId.{NodeId}
use Rattle.vm_ids.specs.declared.numbers.PageNo.{PageNo}
use Rattle.vm_ids.specs.Forest.Laws.Linking.{ArePages}
use Rattle.vm_ids.specs.Forest.NameLists as names
use Rattle.vm_ids.specs.Forest.Nodes.{IsNode, childless, is_live, node}
use Rattle.vm_ids.specs.Forest.Nodes.Hang.{Root, TreeOf}
use Rattle.vm_ids.specs.Forest.Rules.{detach, link}
use Rattle.vm_ids.proofs.Forest.NodesAfter.{node-put}
use Rattle.local_cache.specs.declared.own_state.OwnState.TheVariants.{Absent}
use Rattle.local_cache.specs.Arena.{Arena, Cell, HasNode, cell, find, hung, put, with_tree, with_working}
use Rattle.local_cache.specs.Changes.{Rehung}
use Rattle.local_cache.specs.NodeCells.{exchanged, hanging, over, renewed, tree_of}
use Rattle.local_cache.specs.OnCells.{cut_from, on_cell}
use Rattle.local_cache.specs.Own.{own_of}
use Rattle.local_cache.specs.Reading.{forest_of, hang_by, name_of}
use Rattle.local_cache.specs.Sound.{IsSound, ◌∈◌}
use Rattle.local_cache.proofs.Changes.SameNodes.{id_cases}
use Rattle.local_cache.proofs.Forest.Reading.{IsNode-forest_of, node-forest_of}
use Rattle.local_cache.proofs.Nodes.Cells.{cell-put, cell-put_other, find-put, find-put_other}
use Rattle.history_tree.specs.Hanging.{set_one, set_two}
use Rattle.history_tree.proofs.OnCells.{on_swap}
use Rattle.history_tree.proofs.Hang.{CanLink, Linked, links-first, links-more}
use Rattle.tree_merge.specs.declared.released.Released.TheVariants.{Dropped}
use Rattle.tree_merge.specs.Copying.{IsEmpty, IsLeafOf}
use Rattle.tree_merge.specs.Stepping.{IsCopiedBare, IsDetachedAlone}
use Rattle.tree_merge.proofs.ChildLists.Names.{in_names}
use Rattle.tree_merge.proofs.ChildLists.TreeLists.{place_other}
use Rattle.tree_merge.proofs.CopiedPages.Changes.{cell_by, change_both, find-working_other}
use Rattle.tree_merge.proofs.LeafRenewed.{leaf_detached, left_like}

-- What a copy of one page needs: d is its node, and s that of its source, whose tree children are
-- its history, or none, but for d.
pub record CanCopyLeaf (a : Arena) (parent history : Option NodeId) (d s : NodeId) (to : CacheId) (to_page : PageNo) (from : CacheId) (from_page : PageNo) : Type 0 where
  pub sound : IsSound a
  pub held_d : HasNode a d
  pub leaf : IsLeafOf parent (cell a d)
  pub empty : IsEmpty (own_of a d)
  pub named_d : name_of a d ≡ Live to to_page
  pub held_s : HasNode a s
  pub named_s : name_of a s ≡ Live from from_page
  pub apart : s ≢ d
  pub tree : exchanged d None (cell a s).tree ≡ tree_of history None

-- What it does: nothing is changed but at its nodes, and there is at most one node more.
pub record LeafCopied (a b : Arena) (ns : List NodeId) (to : CacheId) (to_page : PageNo) (from : CacheId) (from_page : PageNo) : Type 0 where
  pub bare : IsCopiedBare a b to to_page from from_page
  pub room : a.room.nodes ≤ b.room.nodes + 1
  pub same : (n : NodeId) → (n ∈ ns → ⊥) → find b n ≡ find a n

-- a node that is there is none that isn't
pub not_free : (a : Arena) (n m : NodeId) → HasNode a n → find a m ≡ None → n ≢ m
not_free a n m held none e = false≢true (sym (ap is_some none) ∙ subst (HasNode a) e held)

in_option : (o : Option NodeId) (ms : List NodeId) (n : NodeId) → n ∈ ms → n ∈ cons_option o ms
in_option None ms n is = is
in_option (Some m) ms n is = inr is

first_in : (o : Option NodeId) (ms : List NodeId) (n : NodeId) → o ≡ Some n → n ∈ cons_option o ms
first_in None ms n e = absurd (cc e)
first_in (Some m) ms n e = let same : m ≡ n = cc e in inl (sym same)

room_put : (a : Arena) (n : NodeId) (c : Cell) → (put a n c).room.nodes ≡ a.room.nodes
unfolding put
room_put a n c = refl

-- a list without d is as it is without it
left_out : (d : NodeId) (ms : List NodeId) → (d ∈ ms → ⊥) → exchanged d None ms ≡ ms
left_out d [] out = refl
left_out d (m ∷ ms) out =
    ap (λ (o : Option NodeId). cons_option o (exchanged d None ms)) (place_other d m None (λ e. out (inl (sym e))))
    ∙ ap (λ ks. m ∷ ks) (left_out d ms (λ is. out (inr is)))

-- which node a leaf hangs on
parent_of : (a : Arena) (s : NodeId) (o : Option NodeId) → hang_by a o false ≡ TreeOf (name_of a s) → (p : NodeId) × (o ≡ Some p) × (name_of a p ≡ name_of a s)
parent_of a s None e = let none : Root ≡ TreeOf (name_of a s) = e in absurd (cc none)
parent_of a s (Some p) e =
    let some : TreeOf (name_of a p) ≡ TreeOf (name_of a s) = e in
    let same : name_of a p ≡ name_of a s = cc some in
    (p, refl, same)

module _ (a : Arena) (d s : NodeId) (parent history : Option NodeId) (to : CacheId) (to_page : PageNo) (from : CacheId) (from_page : PageNo) (can : CanCopyLeaf a parent history d s to to_page from from_page) where
  -- d among the tree children of the source hangs on it
  above : d ∈ (cell a s).tree → parent ≡ Some s
  above is =
      let listed : names.◌∈◌ (name_of a d) (node (forest_of a) (name_of a s)).tree =
      subst (λ xs. names.◌∈◌ (name_of a d) xs) (sym (ap (λ n. n.tree) (node-forest_of a can.sound.kept.named s can.held_s))) (in_names a (cell a s).tree d is) in
      let hang : hang_by a parent false ≡ TreeOf (name_of a s) =
      sym (ap (λ n. n.hang) (node-forest_of a can.sound.kept.named d can.held_d) ∙ ap (λ l. hang_by a l.parent l.by_stub) can.leaf.links)
      ∙ (can.sound.linked.tree_links (name_of a d) (name_of a s)).0 listed in
      let p = parent_of a s parent hang in
      let held_p : HasNode a p.0 = can.sound.kept.parents d p.0 can.held_d (ap (λ l. l.parent) can.leaf.links ∙ p.1) in
      p.1 ∙ ap Some (can.sound.kept.named.apart p.0 s held_p can.held_s p.2)

  -- The node leaves its parent

  abbrev left : Arena
  left = cut_from a parent d None

  like : Rehung a (cut_from a parent d None)
  like = left_like a can.sound d can.held_d parent can.leaf

  -- the source's tree children without it
  left_tree : (cell (cut_from a parent d None) s).tree ≡ exchanged d None (cell a s).tree
  left_tree = go parent refl
    where
      go : (o : Option NodeId) → parent ≡ o → (cell (cut_from a o d None) s).tree ≡ exchanged d None (cell a s).tree
      go None is = sym (left_out d (cell a s).tree (λ has. let never : None ≡ Some s = sym is ∙ above has in cc never))
      go (Some p) is = elim (id_cases p s) [
        | inl e ↦ subst (λ q. (cell (cut_from a (Some q) d None) s).tree ≡ exchanged d None (cell a s).tree) (sym e)
            (ap (λ (c : Cell). c.tree) (cell-put a s (over (exchanged d None (cell a s).tree) (cell a s))))
        | inr ne ↦ ap (λ (c : Cell). c.tree) (cell-put_other a p s (over (exchanged d None (cell a p).tree) (cell a p)) (λ e. ne (sym e)))
            ∙ sym (left_out d (cell a s).tree (λ has. let same : Some p ≡ Some s = sym is ∙ above has in ne (cc same)))
      ]

  left_find : (n : NodeId) → (parent ≡ Some n → ⊥) → find (cut_from a parent d None) n ≡ find a n
  left_find n ne = go parent ne
    where
      go : (o : Option NodeId) → (o ≡ Some n → ⊥) → find (cut_from a o d None) n ≡ find a n
      go None other = refl
      go (Some p) other = find-put_other a p n (over (exchanged d None (cell a p).tree) (cell a p)) (λ e. other (ap Some (sym e)))

  -- It is as new

  abbrev b : Arena
  b = on_cell (cut_from a parent d None) d (renewed Absent)

  detached : IsDetachedAlone a (on_cell (cut_from a parent d None) d (renewed Absent)) to to_page Absent (Dropped d (own_of a d))
  detached = leaf_detached a can.sound d can.held_d parent can.leaf to to_page can.named_d Absent

  name_d : name_of b d ≡ Live to to_page
  name_d = ap (λ (c : Cell). c.name) (cell-put left d (renewed Absent (cell left d))) ∙ like.like.name d ∙ can.named_d

  b_find : (n : NodeId) → n ≢ d → find b n ≡ find left n
  b_find n ne = find-put_other left d n (renewed Absent (cell left d)) ne

  find_b : (n : NodeId) → n ≢ d → (parent ≡ Some n → ⊥) → find b n ≡ find a n
  find_b n ne other = b_find n ne ∙ left_find n other

  held_b : (n : NodeId) → n ≢ d → HasNode a n → HasNode b n
  held_b n ne held = ap is_some (b_find n ne) ∙ like.like.held n ∙ held

  held_d : HasNode b d
  held_d = ap is_some (find-put left d (renewed Absent (cell left d)))

  name_s : name_of b s ≡ Live from from_page
  name_s = ap (λ (c : Cell). c.name) (cell_by left b s (b_find s can.apart)) ∙ like.like.name s ∙ can.named_s

  tree_s : (cell b s).tree ≡ tree_of history None
  tree_s = ap (λ (c : Cell). c.tree) (cell_by left b s (b_find s can.apart)) ∙ left_tree ∙ can.tree

  bare : node (forest_of b) (name_of b d) ≡ childless None Root
  unfolding detach
  bare = ap (node (forest_of b)) name_d ∙ ap (λ g. node g (Live to to_page)) detached.forest ∙ node-put _ (Live to to_page) (childless None Root)

  can_link : CanLink b d s
  can_link = record {
    sound = detached.sound;
    held_d = held_d;
    held_s = held_b s can.apart can.held_s;
    bare = bare;
    live = ap is_live name_s;
    apart = λ e. can.apart (sym e);
  }

  room_b : b.room.nodes ≡ a.room.nodes
  room_b = room_put left d (renewed Absent (cell left d)) ∙ ap (λ r. r.nodes) like.room

  -- It is linked to the source

  is_page : (q : NodeId) (x : NodeName) → HasNode a q → name_of a q ≡ x → IsNode (forest_of a) x
  is_page q x held named = subst (IsNode (forest_of a)) named (IsNode-forest_of a can.sound.kept.named q held)

  pages : ArePages (forest_of a) (Live to to_page) (Live from from_page)
  pages = record {
    destination = is_page d (Live to to_page) can.held_d can.named_d;
    source = is_page s (Live from from_page) can.held_s can.named_s;
    apart = λ e. can.apart (can.sound.kept.named.apart s d can.held_s can.held_d (can.named_s ∙ sym e ∙ sym can.named_d));
    live_destination = refl;
    live_source = refl;
  }

  copied : (c : Arena) → Linked (on_cell (cut_from a parent d None) d (renewed Absent)) c d s → IsCopiedBare a c to to_page from from_page
  copied c linked = record {
    pages = pages;
    node = d;
    at = can.sound.kept.listed.pages to.0 to_page.0 d can.held_d can.named_d;
    empty = can.empty;
    copied = record {
      between = b;
      detached = detached;
      hung = (linked.forest ∙ (λ i. link (forest_of b) (name_d i) (name_s i)), linked.grown);
      sound = linked.sound;
    };
  }

  roomy : (c : Arena) → Linked (on_cell (cut_from a parent d None) d (renewed Absent)) c d s → a.room.nodes ≤ c.room.nodes + 1
  roomy c linked = omega (arith, linked.grown.nodes, linked.grown.made.0, linked.grown.made.1, room_b)

  module _ (none : history ≡ None) where
    first_linked : Linked b (set_one b s d) d s
    first_linked = links-first b d s can_link (tree_s ∙ ap (λ o. tree_of o None) none)

    -- as its first child
    pub leaf_first : LeafCopied a (set_one (on_cell (cut_from a parent d None) d (renewed Absent)) s d) (cons_option parent (d ∷ s ∷ [])) to to_page from from_page
    leaf_first = record {
      bare = copied (set_one b s d) first_linked;
      room = roomy (set_one b s d) first_linked;
      same = λ n out.
          let n_d : n ≢ d = λ e. out (in_option parent (d ∷ s ∷ []) n (inl e)) in
          let n_s : n ≢ s = λ e. out (in_option parent (d ∷ s ∷ []) n (inr (inl e))) in
          find-put_other (with_tree b s (d ∷ [])) d n _ n_d ∙ find-put_other b s n _ n_s ∙ find_b n n_d (λ e. out (first_in parent (d ∷ s ∷ []) n e));
    }

  module _ (h w : NodeId) (is : history ≡ Some h) (free : find a w ≡ None) (room : 1 ≤ a.room.nodes) where
    w_d : w ≢ d
    w_d e = not_free a d w can.held_d free (sym e)

    -- no parent is there either
    w_parent : parent ≡ Some w → ⊥
    w_parent e = not_free a w w (can.sound.kept.parents d w can.held_d (ap (λ l. l.parent) can.leaf.links ∙ e)) free refl

    free_b : find b w ≡ None
    free_b = find_b w w_d w_parent ∙ free

    more_linked : Linked b (set_two (set_one (with_working b w) s w) w h d) d s
    more_linked = links-more b d s w h [] can_link (tree_s ∙ ap (λ o. tree_of o None) is) free_b (omega (arith, room_b, room))

    -- beside the child that it has
    pub leaf_more : LeafCopied a (set_two (set_one (with_working (on_cell (cut_from a parent d None) d (renewed Absent)) w) s w) w h d) (cons_option parent (d ∷ s ∷ w ∷ h ∷ [])) to to_page from from_page
    leaf_more =
        let b1 : Arena = with_working b w in
        let b2 : Arena = with_tree b1 s (w ∷ []) in
        let b3 : Arena = hung b2 w (Some s) in
        let b4 : Arena = with_tree b3 w (h ∷ d ∷ []) in
        let b5 : Arena = hung b4 d (Some w) in
        let c : Arena = hung b5 h (Some w) in
        let ms : List NodeId = d ∷ s ∷ w ∷ h ∷ [] in
        record {
          bare = copied c more_linked;
          room = roomy c more_linked;
          same = λ n out.
              let n_d : n ≢ d = λ e. out (in_option parent ms n (inl e)) in
              let n_s : n ≢ s = λ e. out (in_option parent ms n (inr (inl e))) in
              let n_w : n ≢ w = λ e. out (in_option parent ms n (inr (inr (inl e)))) in
              let n_h : n ≢ h = λ e. out (in_option parent ms n (inr (inr (inr (inl e))))) in
              find-put_other b5 h n _ n_h ∙ find-put_other b4 d n _ n_d ∙ find-put_other b3 w n _ n_w
              ∙ find-put_other b2 w n _ n_w ∙ find-put_other b1 s n _ n_s ∙ find-working_other b w n n_w
              ∙ find_b n n_d (λ e. out (first_in parent ms n e));
        }

-- The kinds of a copy, for one page

-- a working node is over its two children before it is the source's
pub in_order : (x : Arena) (s w h d : NodeId) → s ≢ w
    → set_two (set_one (with_working x w) s w) w h d
    ≡ hung (hung (with_tree (hung (with_tree (with_working x w) w (h ∷ d ∷ [])) w (Some s)) s (w ∷ [])) d (Some w)) h (Some w)
in_order x s w h d ne =
    let made : Arena = with_working x w in
    let two : Cell → Cell = over (h ∷ d ∷ []) in
    let up : Cell → Cell = hanging (Some s) in
    let one : Cell → Cell = over (w ∷ []) in
    ap (λ (y : Arena). hung (hung y d (Some w)) h (Some w))
    (change_both (on_cell made s one) w up two (λ c. refl)
    ∙ ap (λ (y : Arena). on_cell y w up) (on_swap made s w one two ne)
    ∙ on_swap (on_cell made w two) s w one up ne)
