-- Links were changed, and maybe a working node without a page was made: the store is as it was.
use Rattle.std.proofs.Common.{◌≡◌, ◌≢◌, ◌+◌, ◌<◌, ◌⊎◌, Bool, true, false, [], length, Option, IsSome, Some, None, is_some, unwrap_or, refl, sym, ap, ◌∙◌, subst, arith, inl, inr}
use Rattle.std.specs.List.{count_by}
use Rattle.std.proofs.lemmas.Bool.{false≢true}
use Rattle.vm_ids.specs.declared.node_name.NodeName.{NodeName}
use Rattle.vm_ids.specs.declared.node_name.NodeName.TheVariants.{Working}
use Rattle.vm_ids.specs.declared.numbers.NodeId.{NodeId}
use Rattle.vm_ids.specs.Forest.NameMap.{contains_key, get}
use Rattle.vm_ids.specs.Forest.Nodes.{IsNode, Node, childless, node}
use Rattle.vm_ids.specs.Forest.Nodes.Hang.{Root}
use Rattle.vm_ids.specs.Forest.Rules.{link, stub}
use Rattle.vm_ids.proofs.Places.{bit_false, true_below}
use Rattle.history_tree.specs.Hanging.{IsGrown}
use Rattle.history_tree.proofs.OtherPages.{link-by}
use Rattle.history_tree.proofs.OwnPages.{link-own}
use Rattle.local_cache.specs.declared.own_state.OwnState.{OwnState}
use Rattle.local_cache.specs.declared.own_state.OwnState.TheVariants.{Absent, Zero, Resident, Slot, OnSegment}
use Rattle.local_cache.specs.Arena.{Arena, Cell, HasNode, find}
use Rattle.local_cache.specs.Changes.{Relinked}
use Rattle.local_cache.specs.Own.{own_of, own_states}
use Rattle.local_cache.specs.Reading.{forest_of, name_of, page_of}
use Rattle.local_cache.specs.ReadingBy.{forest_by}
use Rattle.local_cache.specs.Sound.{IsSound}
use Rattle.local_cache.proofs.Forest.Reading.{IsNode-forest_of, forest_of-IsNode, node-forest_of}
use Rattle.local_cache.specs.Home.{home_named, home_of}
use Rattle.local_cache.proofs.Names.Homes.{home-like, home_kept, home_none}
use Rattle.local_cache.proofs.Changes.Granted.{grants-same}
use Rattle.local_cache.proofs.Changes.Locked.{locks-same}
use Rattle.local_cache.proofs.Tables.Sizes.{sizes_same}
use Rattle.local_cache.proofs.Nodes.Values.{same_own_states}
use Rattle.page_stubs.proofs.Rules.OtherPages.{stub-by}
use Rattle.residency.specs.declared.store.Store.{Store}
use Rattle.residency.specs.StoreForest.{store_forest}
use Rattle.residency.specs.World.{is_clean, own_page, world}
use Rattle.residency.proofs.Worlds.Telling.{tells}
use Rattle.tree_merge.specs.Releasing.{Went}
use Rattle.page_commands.specs.Steps.{ForAnyMapper, IsStoreTied, Releases, PinnedStayNamed}
use Rattle.page_commands.specs.Homes.{KeepsHomes}
use Rattle.page_commands.proofs.TiedStores.Backed.{HomesStay, same_homes}
use Rattle.page_commands.proofs.TiedStores.Homes.{named_kept}
use Rattle.page_commands.proofs.TiedStores.States.{SameStates, states_back, states_stay}
use Rattle.page_commands.proofs.NodesGone.Counting.{went_count}
use Rattle.page_commands.proofs.NodesGone.Passed.{gone_own}
use Rattle.page_commands.proofs.FreedFrames.Freed.{same_freed}
use Rattle.page_commands.proofs.TiedStores.Tied.{home}

-- A page that hangs by a stub link
module _ (a b : Arena) (links : Relinked a b) where
  relinked_states : SameStates a b
  relinked_states = record {
    own = links.own;
    count = λ p out. ap (λ xs. count_by p xs) (same_own_states a b links.like.held links.own);
  }

  relinked_stay : HomesStay a b
  relinked_stay = same_homes a b links.own (home-like a b links.like)

  relinked_homes : KeepsHomes [] a b
  relinked_homes = named_kept [] a b (λ m some. links.like.name m) (λ m some. inl (ap is_clean (links.own m))) (grants-same a b links.like.caches) (locks-same a b links.like.caches)

  relinked_named : (s : Store) → PinnedStayNamed s a b
  relinked_named s f n pin at = links.like.name n

  pub relinked_kept : (s : Store) → IsStoreTied s a → IsSound b → Releases [] s a s b
  relinked_kept s tied sound = record {
    gives_back = states_back s a b relinked_states relinked_stay;
    tables = same_freed s s refl refl;
    sound = sound;
    tied = (states_back s a b relinked_states relinked_stay None None tied).tied;
    pinned = relinked_named s;
    sizes = sizes_same a b links.like.caches;
    homes = relinked_homes;
  }

  pub stubbed_forest : (s : Store) → IsSound a → (d o : NodeName) → forest_of b ≡ stub (forest_of a) d o → ForAnyMapper s a s b (λ old new. store_forest new ≡ stub (store_forest old) d o)
  unfolding store_forest
  stubbed_forest s sound d o forest told size fit =
      let w = world told size a s in
      (λ i. forest_by (λ m. states_stay s a b relinked_states relinked_stay told size m i) b) ∙ stub-by (own_page w) a b sound.kept.named (tells w) links d o forest

-- A page that hangs by a tree link
module _ (a b : Arena) (sound : IsSound a) (after : IsSound b) (grown : IsGrown a b) (d o : NodeName) (forest : forest_of b ≡ link (forest_of a) d o) (few : (y : NodeName) → IsNode (link (forest_of a) d o) y → IsNode (forest_of a) y ⊎ (y ≡ Working (a.made + 1))) where
  both : (s t : Bool) → (s ≡ true → t ≡ true) → (t ≡ true → s ≡ true) → s ≡ t
  both true t f g = sym (f refl)
  both false true f g = g refl
  both false false f g = refl

  -- a node that is there and isn't the new one was there
  was_there : (m : NodeId) → HasNode b m → name_of b m ≢ Working (a.made + 1) → HasNode a m
  was_there m h ne = elim (few (name_of b m) (subst (λ g. IsNode g (name_of b m)) forest (IsNode-forest_of b after.kept.named m h))) [
    | inl old ↦
        let k = forest_of-IsNode a (name_of b m) old in
        let one : k.0 ≡ m = after.kept.named.apart k.0 m (grown.held k.0 k.1) h (grown.names k.0 k.1 ∙ k.2) in
        subst (HasNode a) one k.1
    | inr e ↦ absurd (ne e)
  ]

  none_new : (w : NodeId) → HasNode b w → name_of b w ≡ Working (a.made + 1) → find a w ≡ None
  none_new w h e = go (find a w) refl
    where
      go : (c : Option Cell) → find a w ≡ c → find a w ≡ None
      go None q = q
      go (Some c) q =
          let there : HasNode a w = ap is_some q in
          absurd (let low = sound.kept.named.counted w (a.made + 1) there (sym (grown.names w there) ∙ e) in omega arith)

  absent_of : (x : OwnState) → page_of x ≡ None → x ≡ Absent
  absent_of Absent e = refl
  absent_of Zero e = absurd (cc e)
  absent_of (Resident t) e = absurd (cc e)
  absent_of (Slot k) e = absurd (cc e)
  absent_of OnSegment e = absurd (cc e)

  not_there : (x : NodeName) → (IsNode (forest_of a) x → ⊥) → (node (forest_of a) x).own ≡ None
  unfolding node
  not_there x none = go (get (forest_of a).nodes x) refl
    where
      go : (o : Option (Node OwnState)) → get (forest_of a).nodes x ≡ o → (unwrap_or (get (forest_of a).nodes x) (childless None Root)).own ≡ None
      go None e = ap (λ (o : Option (Node OwnState)). (unwrap_or o (childless None Root)).own) e
      go (Some n) e = absurd (none (ap is_some e))

  unnamed : IsNode (forest_of a) (Working (a.made + 1)) → ⊥
  unnamed is = let k = forest_of-IsNode a (Working (a.made + 1)) is in let low = sound.kept.named.counted k.0 (a.made + 1) k.1 k.2 in absurd (omega (arith, low))

  new_absent : (m : NodeId) → HasNode b m → name_of b m ≡ Working (a.made + 1) → own_of b m ≡ Absent
  new_absent m h e = absent_of (own_of b m) (
      sym (ap (λ k. k.own) (node-forest_of b after.kept.named m h)) ∙ ap (λ f. (node f (name_of b m)).own) forest ∙ link-own (forest_of a) d o (name_of b m)
      ∙ ap (λ y. (node (forest_of a) y).own) e ∙ not_there (Working (a.made + 1)) unnamed)

  none_of : (c : Option Cell) → is_some c ≡ false → c ≡ None
  none_of None e = refl
  none_of (Some c) e = absurd (cc e)

  -- a node that is new has the name of the new one
  new_name : (m : NodeId) → HasNode b m → is_some (find a m) ≡ false → name_of b m ≡ Working (a.made + 1)
  new_name m h out = elim (few (name_of b m) (subst (λ g. IsNode g (name_of b m)) forest (IsNode-forest_of b after.kept.named m h))) [
    | inl old ↦
        let k = forest_of-IsNode a (name_of b m) old in
        let one : k.0 ≡ m = after.kept.named.apart k.0 m (grown.held k.0 k.1) h (grown.names k.0 k.1 ∙ k.2) in
        absurd (false≢true (sym out ∙ subst (HasNode a) one k.1))
    | inr e ↦ e
  ]

  pub grown_own : (m : NodeId) → own_of b m ≡ own_of a m
  grown_own m = go (is_some (find a m)) (is_some (find b m)) refl refl
    where
      go : (s t : Bool) → is_some (find a m) ≡ s → is_some (find b m) ≡ t → own_of b m ≡ own_of a m
      go true t p q = grown.own m p
      go false false p q = gone_own b m (none_of (find b m) q) ∙ sym (gone_own a m (none_of (find a m) p))
      go false true p q = new_absent m q (new_name m q p) ∙ sym (gone_own a m (none_of (find a m) p))

  grown_count : (p : OwnState → Bool) → p Absent ≡ false → count_by p (own_states b) ≡ count_by p (own_states a)
  grown_count p out = go (contains_key (forest_of b).nodes (Working (a.made + 1))) refl
    where
      go : (t : Bool) → contains_key (forest_of b).nodes (Working (a.made + 1)) ≡ t → count_by p (own_states b) ≡ count_by p (own_states a)
      go false none = ap (λ xs. count_by p xs) (same_own_states a b
          (λ m. both (is_some (find b m)) (is_some (find a m)) (λ h. was_there m h (λ e. false≢true (sym none ∙ subst (IsNode (forest_of b)) e (IsNode-forest_of b after.kept.named m h)))) (grown.held m)) grown_own)
      go true is =
          let w = forest_of-IsNode b (Working (a.made + 1)) is in
          let went : Went b a w.0 = record {
            was = w.1;
            gone = none_new w.0 w.1 w.2;
            held = λ m ne. sym (both (is_some (find b m)) (is_some (find a m)) (λ h. was_there m h (λ e. ne (after.kept.named.apart m w.0 h w.1 (e ∙ sym w.2)))) (grown.held m));
          } in
          let out_w : p (own_of b w.0) ≡ false = ap p (new_absent w.0 w.1 w.2) ∙ out in
          omega (arith, went_count p b a w.0 went (λ m ne. sym (grown_own m)), bit_false (p (own_of b w.0)) out_w)

  grown_states : SameStates a b
  grown_states = record { own = grown_own; count = grown_count }

  -- a node that has no home has none that is new
  home_stays : (m : NodeId) → home_of b m ≡ home_of a m
  home_stays m = go (is_some (find a m)) (is_some (find b m)) refl refl
    where
      go : (s t : Bool) → is_some (find a m) ≡ s → is_some (find b m) ≡ t → home_of b m ≡ home_of a m
      go true t p q = home_kept a b (sizes_same a b grown.tables) m (grown.names m p)
      go false false p q = home_none b m (none_of (find b m) q) ∙ sym (home_none a m (none_of (find a m) p))
      go false true p q = ap (home_named b.caches) (new_name m q p) ∙ sym (home_none a m (none_of (find a m) p))

  grown_stay : HomesStay a b
  grown_stay = same_homes a b grown_own home_stays

  name_stays : (m : NodeId) → IsSome (home_of b m) → name_of b m ≡ name_of a m
  name_stays m some = go (is_some (find a m)) refl
    where
      go : (s : Bool) → is_some (find a m) ≡ s → name_of b m ≡ name_of a m
      go true p = grown.names m p
      go false p = absurd (let none : home_of b m ≡ None = home_stays m ∙ home_none a m (none_of (find a m) p) in cc)

  grown_homes : KeepsHomes [] a b
  grown_homes = named_kept [] a b name_stays (λ m some. inl (ap is_clean (grown_own m))) (grants-same a b grown.tables) (locks-same a b grown.tables)

  grown_named : (s : Store) → IsStoreTied s a → PinnedStayNamed s a b
  grown_named s tied f n pin at =
      let within : f < length s.map = omega (arith, true_below s.frames.pinned f pin, tied.fitted.pinned_frames, tied.fitted.map_frames) in
      grown.names n (home (world None None a s) f n tied within at).there

  pub grown_kept : (s : Store) → IsStoreTied s a → Releases [] s a s b
  grown_kept s tied = record {
    gives_back = states_back s a b grown_states grown_stay;
    tables = same_freed s s refl refl;
    sound = after;
    tied = (states_back s a b grown_states grown_stay None None tied).tied;
    pinned = grown_named s tied;
    sizes = sizes_same a b grown.tables;
    homes = grown_homes;
  }

  pub linked_forest : (s : Store) → ForAnyMapper s a s b (λ old new. store_forest new ≡ link (store_forest old) d o)
  unfolding store_forest
  linked_forest s told size fit =
      let w = world told size a s in
      let v = world told size b s in
      link-by a b sound.kept.named after.kept.named grown d o forest (own_page w) (own_page v) (tells w) (tells v) (λ n h. states_stay s a b grown_states grown_stay told size n)
