-- Handing stubs over is the rule of the forest.
use Rattle.std.proofs.Common.{◌≡◌, ◌≢◌, ◌<◌, ◌++◌, ℕ, List, [], ◌∷◌, map, true, Some, None, refl, sym, ap, ◌∙◌, subst, inl, inr}
use Rattle.std.proofs.lemmas.List.{map-append}
use Rattle.vm_ids.specs.declared.node_name.NodeName.{NodeName}
use Rattle.vm_ids.specs.declared.numbers.NodeId.{NodeId}
use Rattle.vm_ids.specs.Forest.NameLists as names
use Rattle.vm_ids.specs.Forest.Nodes.{Forest, node, parent_of, IsNode}
use Rattle.vm_ids.specs.Forest.Shape.{IsLinked, IsRanked}
use Rattle.vm_ids.specs.Forest.Rules.{hand_stubs}
use Rattle.vm_ids.proofs.Forest.NameLists.{in_cases}
use Rattle.vm_ids.proofs.Forest.Columns.{hand_stubs-own, hand_stubs-tree, hand_stubs-hang, hand_stubs-hang_other, hand_stubs-stubs_from, hand_stubs-stubs_to, hand_stubs-stubs_other}
use Rattle.vm_ids.proofs.Forest.Counters.{hand_stubs-counters}
use Rattle.vm_ids.proofs.Forest.Handing.{handed_cases, hand_stubs-by_rank}
use Rattle.vm_ids.proofs.Forest.NamesAfter.{hand_stubs-names}
use Rattle.local_cache.specs.declared.own_state.OwnState.{OwnState}
use Rattle.local_cache.specs.Arena.{Arena, cell, HasNode}
use Rattle.local_cache.specs.Reading.{name_of, forest_of, hang_by, stubs_of, page_of}
use Rattle.local_cache.specs.Threads.{IsThreaded}
use Rattle.local_cache.specs.Sound.{IsSound, IsKept, ◌∈◌}
use Rattle.local_cache.specs.Changes.{Relinked, Once}
use Rattle.local_cache.proofs.Forest.StubRows.{threaded_is, row-each}
use Rattle.local_cache.proofs.Changes.SameNodes.{id_cases, forest_of-made, forest_of-copies}
use Rattle.local_cache.proofs.Forest.Reading.{node-forest_of, IsNode-forest_of}
use Rattle.local_cache.proofs.Forest.Rule.{Follows, follows-forest, follows-sound}
use Rattle.page_stubs.specs.Under.{IsUnder}
use Rattle.page_stubs.proofs.Rules.Cut.{once-map, in_map, map-in}
use Rattle.page_stubs.proofs.Lists.Joining.{Joined, in_ids, threaded_to, threaded_from, threaded_other}
use Rattle.page_stubs.proofs.Rules.Ranks.{raised, raised-ranked, raised-above}

-- The shape

module _ {P : Type 0} (f : Forest P) (linked : IsLinked f) (x h : NodeName) (apart : h ≢ x) (clear : (y : NodeName) → names.◌∈◌ y (node f x).stubs → IsUnder f h y → ⊥) where
  rank : NodeName → ℕ
  rank = raised f linked.order.0 linked.order.1 (λ y. names.◌∈◌ y (node f x).stubs) (in_cases (node f x).stubs) h

  ranked : IsRanked (hand_stubs f x h) rank
  unfolding rank
  ranked y p up = elim (handed_cases f linked x h apart y) [
    | inl q ↦
        let p_is : h ≡ p = cc (ap parent_of (sym q.2) ∙ up) in
        subst (λ z. rank z < rank y) p_is (raised-above f linked.order.0 linked.order.1 (λ y. names.◌∈◌ y (node f x).stubs) (in_cases (node f x).stubs) h y (λ m. clear m.0 m.1 m.2) q.0)
    | inr q ↦ raised-ranked f linked.order.0 linked.order.1 (λ y. names.◌∈◌ y (node f x).stubs) (in_cases (node f x).stubs) h y p (ap parent_of (sym q.1) ∙ up)
  ]

  pub cleared-linked : IsLinked (hand_stubs f x h)
  cleared-linked = hand_stubs-by_rank f linked x h apart rank ranked

-- The caches

-- the names of a node's stubs stand once
pub once_stubs : (a : Arena) → IsKept a → IsLinked (forest_of a) → (n : NodeId) → HasNode a n → Once (stubs_of a n)
once_stubs a kept linked n h = once-map a (stubs_of a n) (subst names.Once (ap (λ m. m.stubs) (node-forest_of a kept.named n h)) (linked.once (name_of a n)).1)

pub record HasHanded (a c : Arena) (from to : NodeId) : Type 0 where
  pub forest : forest_of c ≡ hand_stubs (forest_of a) (name_of a from) (name_of a to)
  pub sound : IsSound c
  pub links : Relinked a c

module _ (a c : Arena) (sound : IsSound a) (from to : NodeId) (hf : HasNode a from) (ht : HasNode a to) (apart : to ≢ from)
    (clear : (y : NodeName) → names.◌∈◌ y (node (forest_of a) (name_of a from)).stubs → IsUnder (forest_of a) (name_of a to) y → ⊥)
    (join : Joined a c from to (stubs_of a from) (stubs_of a to)) where
  abbrev f : Forest OwnState
  f = forest_of a

  abbrev x : NodeName
  x = name_of a from

  abbrev h : NodeName
  h = name_of a to

  kept : IsKept a
  kept = sound.kept

  names_apart : h ≢ x
  names_apart e = apart (sound.kept.named.apart to from ht hf e)

  ids_from : (node f x).stubs ≡ map (name_of a) (stubs_of a from)
  ids_from = ap (λ m. m.stubs) (node-forest_of a sound.kept.named from hf)

  ids_to : (node f h).stubs ≡ map (name_of a) (stubs_of a to)
  ids_to = ap (λ m. m.stubs) (node-forest_of a sound.kept.named to ht)

  each : (m : NodeId) → m ∈ stubs_of a from → HasNode a m × ((cell a m).links.parent ≡ Some from) × ((cell a m).links.by_stub ≡ true)
  each m i = row-each a from None (stubs_of a from) None (sound.kept.threaded from hf).row m i

  once_from : Once (stubs_of a from)
  once_from = once_stubs a kept sound.linked from hf

  once_to : Once (stubs_of a to)
  once_to = once_stubs a kept sound.linked to ht

  list_to : IsThreaded c to (stubs_of a to ++ stubs_of a from)
  list_to = threaded_to a c from to apart (stubs_of a from) (stubs_of a to) (sound.kept.threaded from hf) (sound.kept.threaded to ht) once_from once_to join

  list_from : IsThreaded c from []
  list_from = threaded_from a c from to apart (stubs_of a from) (stubs_of a to) (sound.kept.threaded from hf) (sound.kept.threaded to ht) once_from once_to join

  list_other : (m : NodeId) → HasNode a m → m ≢ to → m ≢ from → IsThreaded c m (stubs_of a m)
  list_other m hm nt nf = threaded_other a c from to apart (stubs_of a from) (stubs_of a to) (sound.kept.threaded from hf) (sound.kept.threaded to ht) once_from once_to join m (stubs_of a m) nt nf (sound.kept.threaded m hm)

  by_list : (m : NodeId) (us : List NodeId) → IsThreaded c m us → IsThreaded c m (stubs_of c m)
  by_list m us t = subst (IsThreaded c m) (sym (threaded_is c m us t)) t

  lists : (m : NodeId) → HasNode a m → IsThreaded c m (stubs_of c m)
  lists m hm = elim (id_cases m to) [
    | inl e ↦ subst (λ k. IsThreaded c k (stubs_of c k)) (sym e) (by_list to _ list_to)
    | inr nt ↦ elim (id_cases m from) [
      | inl e ↦ subst (λ k. IsThreaded c k (stubs_of c k)) (sym e) (by_list from _ list_from)
      | inr nf ↦ by_list m _ (list_other m hm nt nf)
    ]
  ]

  abbrev StubsAre : NodeId → Type 0
  StubsAre m = (node (hand_stubs f x h) (name_of a m)).stubs ≡ map (name_of a) (stubs_of c m)

  stubs_column : (m : NodeId) → HasNode a m → StubsAre m
  stubs_column m hm = elim (id_cases m to) [
    | inl e ↦ subst StubsAre (sym e)
        (hand_stubs-stubs_to f x h names_apart ∙ (λ i. ids_to i ++ ids_from i) ∙ sym (map-append (name_of a) (stubs_of a to) (stubs_of a from)) ∙ ap (map (name_of a)) (sym (threaded_is c to _ list_to)))
    | inr nt ↦ elim (id_cases m from) [
      | inl e ↦ subst StubsAre (sym e) (hand_stubs-stubs_from f x h ∙ ap (map (name_of a)) (sym (threaded_is c from _ list_from)))
      | inr nf ↦ hand_stubs-stubs_other f x h (name_of a m) (λ e. nf (sound.kept.named.apart m from hm hf e)) (λ e. nt (sound.kept.named.apart m to hm ht e))
          ∙ ap (λ k. k.stubs) (node-forest_of a sound.kept.named m hm)
          ∙ ap (map (name_of a)) (sym (threaded_is c m _ (list_other m hm nt nf)))
    ]
  ]

  hang_column : (m : NodeId) → HasNode a m → (node (hand_stubs f x h) (name_of a m)).hang ≡ hang_by a (cell c m).links.parent (cell c m).links.by_stub
  hang_column m hm = elim (in_ids (stubs_of a from) m) [
    | inl i ↦ hand_stubs-hang f x h (name_of a m) (subst (λ zs. names.◌∈◌ (name_of a m) zs) (sym ids_from) (in_map a (stubs_of a from) m i))
        ∙ sym (ap (λ o. hang_by a o (cell c m).links.by_stub) (join.parent_in m i) ∙ ap (hang_by a (Some to)) (join.by_stub m ∙ (each m i).2))
    | inr out ↦ hand_stubs-hang_other f x h (name_of a m) (λ i. out (map-in a kept m hm (stubs_of a from) (λ k j. (each k j).0) (subst (λ zs. names.◌∈◌ (name_of a m) zs) ids_from i)))
        ∙ ap (λ k. k.hang) (node-forest_of a sound.kept.named m hm)
        ∙ sym (ap (λ o. hang_by a o (cell c m).links.by_stub) (join.parent_out m out) ∙ ap (hang_by a (cell a m).links.parent) (join.by_stub m))
  ]

  rule : Follows a c (hand_stubs f x h) (stubs_of c)
  rule = record {
    like = join.links.like;
    same_made = join.links.made;
    made = sym ((hand_stubs-counters f x h).made ∙ forest_of-made a ∙ join.links.made);
    copies = sym ((hand_stubs-counters f x h).copies ∙ forest_of-copies a ∙ join.links.copies);
    names = hand_stubs-names f sound.linked x h (IsNode-forest_of a sound.kept.named from hf) (IsNode-forest_of a sound.kept.named to ht) (λ y i. is_node y (subst (λ zs. names.◌∈◌ y zs) ids_from i));
    threaded = lists;
    own = λ m hm. hand_stubs-own f x h (name_of a m) ∙ ap (λ k. k.own) (node-forest_of a sound.kept.named m hm) ∙ ap page_of (sym (join.links.own m));
    hang = hang_column;
    tree = λ m hm. hand_stubs-tree f x h (name_of a m) ∙ ap (λ k. k.tree) (node-forest_of a sound.kept.named m hm) ∙ ap (map (name_of a)) (sym (join.links.tree m));
    stubs = stubs_column;
    parents = λ m q hm up. elim (in_ids (stubs_of a from) m) [
      | inl i ↦ (let two : Some to ≡ Some q = sym (join.parent_in m i) ∙ up in let same : to ≡ q = cc two in subst (HasNode a) same ht)
      | inr out ↦ sound.kept.parents m q hm (sym (join.parent_out m out) ∙ up)
    ];
    children = λ m k hm i. sound.kept.children m k hm (subst (λ ts. k ∈ ts) (join.links.tree m) i);
    linked = cleared-linked f sound.linked x h names_apart clear;
  }
    where
      from_map : (ys : List NodeId) → ((m : NodeId) → m ∈ ys → HasNode a m) → (y : NodeName) → names.◌∈◌ y (map (name_of a) ys) → IsNode f y
      from_map [] all y i = absurd i
      from_map (z ∷ ys) all y (inl e) = subst (IsNode f) (sym e) (IsNode-forest_of a sound.kept.named z (all z (inl refl)))
      from_map (z ∷ ys) all y (inr i) = from_map ys (λ m j. all m (inr j)) y i

      is_node : (y : NodeName) → names.◌∈◌ y (map (name_of a) (stubs_of a from)) → IsNode f y
      is_node y i = from_map (stubs_of a from) (λ m j. (each m j).0) y i

  pub hands : HasHanded a c from to
  hands = record {
    forest = follows-forest a c sound.kept.named (hand_stubs f x h) (stubs_of c) rule;
    sound = follows-sound a c sound.kept.named (hand_stubs f x h) (stubs_of c) rule sound.kept.listed;
    links = join.links;
  }
