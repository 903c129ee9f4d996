-- A node in the place of a stub is the rule of the forest.
use Rattle.std.proofs.Common.{◌≡◌, ◌≢◌, ◌⊎◌, ◌++◌, List, [], ◌∷◌, map, cond, true, Some, None, refl, sym, ap, ◌∙◌, subst, inl, inr}
use Rattle.vm_ids.specs.declared.node_name.NodeName.{NodeName}
use Rattle.vm_ids.specs.declared.numbers.NodeId.{NodeId}
use Rattle.vm_ids.specs.Forest.Names.{same}
use Rattle.vm_ids.specs.Forest.NameLists as names
use Rattle.vm_ids.specs.Forest.NameLists.{renamed}
use Rattle.vm_ids.specs.Forest.Nodes.{Forest, node, IsNode}
use Rattle.vm_ids.specs.Forest.Nodes.Hang.{Root, StubOf}
use Rattle.vm_ids.specs.Forest.Shape.{IsLinked}
use Rattle.vm_ids.specs.Forest.Settling.{take_place}
use Rattle.vm_ids.proofs.Forest.Names.{name_cases, same_itself, same_apart}
use Rattle.vm_ids.proofs.Forest.NodesAfter.{has-put}
use Rattle.vm_ids.proofs.Forest.NamesAfter.{SameNames, relist-names}
use Rattle.vm_ids.proofs.Forest.Fitting.{parent-IsNode}
use Rattle.vm_ids.proofs.Forest.Cutting.{flip}
use Rattle.vm_ids.proofs.Forest.Counters.{take_place-counters}
use Rattle.vm_ids.proofs.Forest.TakingPlace.{subbed, taken-own, taken-tree, taken-stubs, hang_w, hang_y, hang_other, taken-linked}
use Rattle.local_cache.specs.declared.own_state.OwnState.{OwnState}
use Rattle.local_cache.specs.Arena.{Arena, cell, HasNode}
use Rattle.local_cache.specs.Reading.{name_of, forest_of, hang_by, stubs_of, page_of}
use Rattle.local_cache.specs.Threads.{head_or, last_or, IsStub, IsThreaded}
use Rattle.local_cache.specs.Sound.{IsSound, IsKept, ◌∈◌}
use Rattle.local_cache.specs.Changes.{Relinked, Once}
use Rattle.local_cache.proofs.Forest.StubRows.{threaded_is, row-rear, row-each, last_in}
use Rattle.local_cache.proofs.Changes.SameNodes.{id_cases, hang_root, forest_of-made, forest_of-copies}
use Rattle.local_cache.proofs.Forest.Reading.{node-forest_of, IsNode-forest_of}
use Rattle.local_cache.proofs.Forest.Rule.{Follows, follows-forest, follows-sound}
use Rattle.page_stubs.specs.Threading.{IsHeldIf, replaced}
use Rattle.page_stubs.specs.Under.{IsUnder}
use Rattle.page_stubs.specs.Under.IsUnder.{itself}
use Rattle.page_stubs.proofs.Rules.Cut.{map-in, split}
use Rattle.page_stubs.proofs.Lists.Cut.{in_left, in_right}
use Rattle.page_stubs.proofs.Lists.Exchange.{Exchanged, exchanges, threaded_with, threaded_beside}
use Rattle.page_stubs.proofs.Rules.Handing.{once_stubs}
use Rattle.page_stubs.proofs.Lists.Joining.{head_in, if_held}
use Rattle.page_stubs.proofs.Rules.Ranks.{raised, raised-ranked, raised-above}

-- The forest

place-names : {P : Type 0} (f : Forest P) → IsLinked f → (w y : NodeName) → IsNode f w → IsNode f y → SameNames (take_place f w y) f
unfolding take_place
place-names f linked w y is_w is_y z =
    let old = relist-names f (node f w).hang (map (renamed w y)) (λ p e. parent-IsNode f linked w p e) in
    has-put _ w _ (has-put _ y _ (old y ∙ is_y) w ∙ old w ∙ is_w) z ∙ has-put _ y _ (old y ∙ is_y) z ∙ old z

-- y isn't above w, so that it may hang there
place-linked : {P : Type 0} (f : Forest P) → IsLinked f → (w y : NodeName) → (node f y).hang ≡ Root → (node f y).own ≡ None → (IsUnder f w y → ⊥) → IsLinked (take_place f w y)
place-linked f linked w y root bare clear =
    let Mark : NodeName → Type 0 = λ z. z ≡ y in
    let decide : (z : NodeName) → Mark z ⊎ (Mark z → ⊥) = λ z. name_cases z y in
    taken-linked f linked w y (λ e. clear (subst (IsUnder f w) (sym e) itself)) root
    (raised f linked.order.0 linked.order.1 Mark decide w)
    (raised-ranked f linked.order.0 linked.order.1 Mark decide w)
    (raised-above f linked.order.0 linked.order.1 Mark decide w y (λ m. clear (subst (IsUnder f w) m.1 m.2)) refl)
    (λ p e. bare)

-- Names

module _ (a : Arena) (kept : IsKept a) (w y : NodeId) (hw : HasNode a w) where
  renamed-map : (ys : List NodeId) → ((m : NodeId) → m ∈ ys → HasNode a m) → (w ∈ ys → ⊥) → map (renamed (name_of a w) (name_of a y)) (map (name_of a) ys) ≡ map (name_of a) ys
  renamed-map [] all out = refl
  renamed-map (z ∷ ys) all out =
      let apart : name_of a w ≢ name_of a z = λ e. out (inl (kept.named.apart w z hw (all z (inl refl)) e)) in
      ap (λ b. cond b (name_of a y) (name_of a z) ∷ map (renamed (name_of a w) (name_of a y)) (map (name_of a) ys)) (same_apart (name_of a w) (name_of a z) apart)
      ∙ ap (λ zs. name_of a z ∷ zs) (renamed-map ys (λ m j. all m (inr j)) (λ i. out (inr i)))

  renamed-split : (us vs : List NodeId) → ((m : NodeId) → m ∈ (us ++ w ∷ vs) → HasNode a m) → Once (us ++ w ∷ vs) → map (renamed (name_of a w) (name_of a y)) (map (name_of a) (us ++ w ∷ vs)) ≡ map (name_of a) (us ++ y ∷ vs)
  renamed-split [] vs all once =
      ap (λ b. cond b (name_of a y) (name_of a w) ∷ map (renamed (name_of a w) (name_of a y)) (map (name_of a) vs)) (same_itself (name_of a w))
      ∙ ap (λ zs. name_of a y ∷ zs) (renamed-map vs (λ m j. all m (inr j)) once.0)
  renamed-split (u ∷ us) vs all once =
      let apart : name_of a w ≢ name_of a u = λ e. once.0 (subst (λ k. k ∈ (us ++ w ∷ vs)) (kept.named.apart w u hw (all u (inl refl)) e) (in_right us (w ∷ vs) w (inl refl))) in
      ap (λ b. cond b (name_of a y) (name_of a u) ∷ map (renamed (name_of a w) (name_of a y)) (map (name_of a) (us ++ w ∷ vs))) (same_apart (name_of a w) (name_of a u) apart)
      ∙ ap (λ zs. name_of a u ∷ zs) (renamed-split us vs (λ m j. all m (inr j)) once.1)

-- The caches

pub record HasPlace (a c : Arena) (w y : NodeId) : Type 0 where
  pub forest : forest_of c ≡ take_place (forest_of a) (name_of a w) (name_of a y)
  pub sound : IsSound c
  pub links : Relinked a c

module _ (a : Arena) (sound : IsSound a) (w y p : NodeId) (hw : HasNode a w) (hy : HasNode a y) (root : (node (forest_of a) (name_of a y)).hang ≡ Root) (bare : (node (forest_of a) (name_of a y)).own ≡ None)
    (clear : IsUnder (forest_of a) (name_of a w) (name_of a y) → ⊥) (up : (cell a w).links.parent ≡ Some p) (by : (cell a w).links.by_stub ≡ true) where
  abbrev f : Forest OwnState
  f = forest_of a

  kept : IsKept a
  kept = sound.kept

  hp : HasNode a p
  hp = sound.kept.parents w p hw up

  y_w : y ≢ w
  y_w e = clear (subst (λ k. IsUnder f (name_of a w) (name_of a k)) (sym e) itself)

  names_apart : name_of a y ≢ name_of a w
  names_apart e = y_w (sound.kept.named.apart y w hy hw e)

  hang_is : (node f (name_of a w)).hang ≡ StubOf (name_of a p)
  hang_is = ap (λ m. m.hang) (node-forest_of a sound.kept.named w hw) ∙ ap (λ o. hang_by a o (cell a w).links.by_stub) up ∙ ap (hang_by a (Some p)) by

  y_root : (cell a y).links.parent ≡ None
  y_root = hang_root a (cell a y).links.parent (cell a y).links.by_stub (sym (ap (λ m. m.hang) (node-forest_of a sound.kept.named y hy)) ∙ root)

  ids_p : (node f (name_of a p)).stubs ≡ map (name_of a) (stubs_of a p)
  ids_p = ap (λ m. m.stubs) (node-forest_of a sound.kept.named p hp)

  held_in : (m : NodeId) → m ∈ stubs_of a p → HasNode a m
  held_in m i = (row-each a p None (stubs_of a p) None (sound.kept.threaded p hp).row m i).0

  in_list : w ∈ stubs_of a p
  in_list = map-in a kept w hw (stubs_of a p) held_in (subst (λ xs. names.◌∈◌ (name_of a w) xs) ids_p ((sound.linked.stub_links (name_of a w) (name_of a p)).1 hang_is))

  module _ (us vs : List NodeId) (is : stubs_of a p ≡ us ++ w ∷ vs) where
    t : IsThreaded a p (us ++ w ∷ vs)
    t = subst (IsThreaded a p) is (sound.kept.threaded p hp)

    once : Once (us ++ w ∷ vs)
    once = subst Once is (once_stubs a kept sound.linked p hp)

    at_w : IsStub a p (last_or us None) w (head_or vs None)
    at_w = (row-rear a p None us (w ∷ vs) None t.row).0

    all_held : (m : NodeId) → m ∈ (us ++ w ∷ vs) → HasNode a m
    all_held m i = (row-each a p None (us ++ w ∷ vs) None t.row m i).0

    before_held : IsHeldIf a (cell a w).links.before
    before_held = subst (IsHeldIf a) (sym at_w.has_before) (if_held a (last_or us None) (λ m e. all_held m (in_left us (w ∷ vs) m (last_in us m e))))

    behind_held : IsHeldIf a (cell a w).links.behind
    behind_held = subst (IsHeldIf a) (sym at_w.has_behind) (if_held a (head_or vs None) (λ m e. all_held m (in_right us (w ∷ vs) m (inr (head_in vs m e)))))

    module _ (c : Arena) (swap : Exchanged a c w y p (last_or us None) (head_or vs None)) where
      list_p : IsThreaded c p (us ++ y ∷ vs)
      list_p = threaded_with a c w y p us vs hy y_root t once swap

      list_other : (m : NodeId) → HasNode a m → m ≢ p → IsThreaded c m (stubs_of a m)
      list_other m hm np = threaded_beside a c w y p us vs hy y_root t once swap m (stubs_of a m) np (sound.kept.threaded m hm)

      by_list : (m : NodeId) (zs : List NodeId) → IsThreaded c m zs → IsThreaded c m (stubs_of c m)
      by_list m zs s = subst (IsThreaded c m) (sym (threaded_is c m zs s)) s

      lists : (m : NodeId) → HasNode a m → IsThreaded c m (stubs_of c m)
      lists m hm = elim (id_cases m p) [
        | inl e ↦ subst (λ k. IsThreaded c k (stubs_of c k)) (sym e) (by_list p _ list_p)
        | inr np ↦ by_list m _ (list_other m hm np)
      ]

      abbrev g : Forest OwnState
      g = take_place f (name_of a w) (name_of a y)

      abbrev StubsAre : NodeId → Type 0
      StubsAre m = cond (same (name_of a p) (name_of a m)) (map (renamed (name_of a w) (name_of a y)) (map (name_of a) (stubs_of a m))) (map (name_of a) (stubs_of a m)) ≡ map (name_of a) (stubs_of c m)

      stubs_column : (m : NodeId) → HasNode a m → (node g (name_of a m)).stubs ≡ map (name_of a) (stubs_of c m)
      stubs_column m hm =
          taken-stubs f sound.linked (name_of a w) (name_of a y) names_apart root (name_of a m)
          ∙ ap (λ h. subbed (name_of a w) (name_of a y) h (name_of a m) (node f (name_of a m)).stubs) hang_is
          ∙ ap (λ xs. cond (same (name_of a p) (name_of a m)) (map (renamed (name_of a w) (name_of a y)) xs) xs) (ap (λ k. k.stubs) (node-forest_of a sound.kept.named m hm))
          ∙ elim (id_cases m p) [
            | inl e ↦ subst StubsAre (sym e)
                (ap (λ b. cond b (map (renamed (name_of a w) (name_of a y)) (map (name_of a) (stubs_of a p))) (map (name_of a) (stubs_of a p))) (same_itself (name_of a p))
                ∙ ap (λ zs. map (renamed (name_of a w) (name_of a y)) (map (name_of a) zs)) is
                ∙ renamed-split a kept w y hw us vs all_held once
                ∙ ap (map (name_of a)) (sym (threaded_is c p _ list_p)))
            | inr np ↦ ap (λ b. cond b (map (renamed (name_of a w) (name_of a y)) (map (name_of a) (stubs_of a m))) (map (name_of a) (stubs_of a m))) (same_apart (name_of a p) (name_of a m) (λ e. np (sound.kept.named.apart m p hm hp (sym e))))
                ∙ ap (map (name_of a)) (sym (threaded_is c m _ (list_other m hm np)))
          ]

      tree_column : (m : NodeId) → HasNode a m → (node g (name_of a m)).tree ≡ map (name_of a) (cell c m).tree
      tree_column m hm =
          taken-tree f sound.linked (name_of a w) (name_of a y) names_apart root (name_of a m)
          ∙ ap (λ h. subbed (name_of a w) (name_of a y) (flip h) (name_of a m) (node f (name_of a m)).tree) hang_is
          ∙ ap (λ k. k.tree) (node-forest_of a sound.kept.named m hm)
          ∙ ap (map (name_of a)) (sym (swap.links.tree m))

      abbrev HangIs : NodeId → Type 0
      HangIs m = (node g (name_of a m)).hang ≡ hang_by a (cell c m).links.parent (cell c m).links.by_stub

      hang_column : (m : NodeId) → HasNode a m → HangIs m
      hang_column m hm = elim (id_cases m w) [
        | inl e ↦ subst HangIs (sym e) (hang_w f sound.linked (name_of a w) (name_of a y) names_apart root ∙ sym (ap (λ o. hang_by a o (cell c w).links.by_stub) swap.w_parent))
        | inr nw ↦ elim (id_cases m y) [
          | inl e ↦ subst HangIs (sym e) (hang_y f sound.linked (name_of a w) (name_of a y) names_apart root ∙ hang_is
              ∙ sym (ap (λ o. hang_by a o (cell c y).links.by_stub) swap.y_parent ∙ ap (hang_by a (Some p)) swap.y_by_stub))
          | inr ny ↦ hang_other f sound.linked (name_of a w) (name_of a y) names_apart root (name_of a m) (λ e. nw (sound.kept.named.apart m w hm hw e)) (λ e. ny (sound.kept.named.apart m y hm hy e))
              ∙ ap (λ k. k.hang) (node-forest_of a sound.kept.named m hm)
              ∙ sym (ap (λ o. hang_by a o (cell c m).links.by_stub) (swap.parent m nw ny) ∙ ap (hang_by a (cell a m).links.parent) (swap.by_stub m nw ny))
        ]
      ]

      rule : Follows a c g (stubs_of c)
      rule = record {
        like = swap.links.like;
        same_made = swap.links.made;
        made = sym ((take_place-counters f (name_of a w) (name_of a y)).made ∙ forest_of-made a ∙ swap.links.made);
        copies = sym ((take_place-counters f (name_of a w) (name_of a y)).copies ∙ forest_of-copies a ∙ swap.links.copies);
        names = place-names f sound.linked (name_of a w) (name_of a y) (IsNode-forest_of a sound.kept.named w hw) (IsNode-forest_of a sound.kept.named y hy);
        threaded = lists;
        own = λ m hm. taken-own f sound.linked (name_of a w) (name_of a y) names_apart root (name_of a m) ∙ ap (λ k. k.own) (node-forest_of a sound.kept.named m hm) ∙ ap page_of (sym (swap.links.own m));
        hang = hang_column;
        tree = tree_column;
        stubs = stubs_column;
        parents = λ m q hm u. elim (id_cases m w) [
          | inl e ↦ absurd (let none : Some q ≡ None = sym u ∙ ap (λ k. (cell c k).links.parent) e ∙ swap.w_parent in cc none)
          | inr nw ↦ elim (id_cases m y) [
            | inl e ↦ (let two : Some p ≡ Some q = sym swap.y_parent ∙ ap (λ k. (cell c k).links.parent) (sym e) ∙ u in let is : p ≡ q = cc two in subst (HasNode a) is hp)
            | inr ny ↦ sound.kept.parents m q hm (sym (swap.parent m nw ny) ∙ u)
          ]
        ];
        children = λ m k hm i. sound.kept.children m k hm (subst (λ ts. k ∈ ts) (swap.links.tree m) i);
        linked = place-linked f sound.linked (name_of a w) (name_of a y) root bare clear;
      }

      has_place : HasPlace a c w y
      has_place = record {
        forest = follows-forest a c sound.kept.named g (stubs_of c) rule;
        sound = follows-sound a c sound.kept.named g (stubs_of c) rule sound.kept.listed;
        links = swap.links;
      }

    swapped : Exchanged a (replaced a w y p) w y p (last_or us None) (head_or vs None)
    swapped = subst (λ r. Exchanged a (replaced a w y p) w y p (last_or us None) r) at_w.has_behind
        (subst (λ l. Exchanged a (replaced a w y p) w y p l (cell a w).links.behind) at_w.has_before (exchanges a w y p y_w hw hy hp before_held behind_held))

    placed : HasPlace a (replaced a w y p) w y
    placed = has_place (replaced a w y p) swapped

  pub places : HasPlace a (replaced a w y p) w y
  places = let s = split (stubs_of a p) w in_list in placed s.0 s.1 s.2

  -- what the code needs of the neighbours
  pub neighbours_held : IsHeldIf a (cell a w).links.before × IsHeldIf a (cell a w).links.behind
  neighbours_held = let s = split (stubs_of a p) w in_list in (before_held s.0 s.1 s.2, behind_held s.0 s.1 s.2)
