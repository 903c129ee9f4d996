-- The bytes of a node's frame are written: the forest changes at that node alone.
use Rattle.std.proofs.Common.{◌≡◌, ◌≢◌, ◌⊎◌, ℕ, cond, true, false, List, [], get_or, Option, Some, None, unwrap_or, subst, sym, ap, ◌∙◌, arith, inl, inr}
use Rattle.std.specs.Prelude.{option_map}
use Rattle.std.proofs.lemmas.List.{get_or-set_same}
use Rattle.std.proofs.lemmas.List.Sums.{passes_at_first}
use Rattle.vm_ids.specs.declared.numbers.NodeId.{NodeId}
use Rattle.vm_ids.specs.Forest.Changes.{edit, with_own as with_page}
use Rattle.vm_ids.specs.declared.node_name.NodeName.{NodeName}
use Rattle.vm_ids.specs.Forest.Names.{same}
use Rattle.vm_ids.specs.Forest.NameMap.{get}
use Rattle.vm_ids.specs.Forest.Nodes.{Forest, Node, childless, node}
use Rattle.vm_ids.specs.Forest.Nodes.Hang.{Root}
use Rattle.vm_ids.proofs.Forest.Names.{name_cases, same_apart, same_itself}
use Rattle.vm_ids.specs.Forest.PageMap.{bare, map_node, no_page}
use Rattle.vm_ids.proofs.Forest.NodesAfter.{node-put, node-put_other}
use Rattle.vm_ids.proofs.Forest.PageMap.{equal_by_pages, get-map, get-put, put-map, same_forest}
use Rattle.vm_ids.proofs.Forest.Counters.{put-counters}
use Rattle.frame_pool.specs.Pool.{with_bytes}
use Rattle.global_map.specs.Pairs.{frame_of, is_node}
use Rattle.vm_ids.proofs.Places.{bit_true, other_number, some_place}
use Rattle.local_cache.specs.Arena.{HasNode}
use Rattle.local_cache.specs.Own.{is_resident, own_of}
use Rattle.local_cache.specs.Reading.{name_of}
use Rattle.local_cache.specs.ReadingBy.{forest_by, node_with}
use Rattle.local_cache.specs.Sound.{IsSound}
use Rattle.local_cache.proofs.Forest.Reading.{get-forest_by, get-forest_by_none, held_or_not}
use Rattle.local_cache.proofs.Forest.ReadingBy.{bare-by, forest_by-copies, forest_by-made, page-at}
use Rattle.local_cache.proofs.Nodes.OwnStates.{id_apart, id_cases}
use Rattle.residency.specs.StoreForest.{store_forest}
use Rattle.residency.specs.World.{IsStoreRight, World, own_page}
use Rattle.residency.proofs.Moves.GivenUp.{given_page}
use Rattle.residency.proofs.Worlds.Homes.{IsHome, page_here}
use Rattle.residency.proofs.Worlds.Telling.{tells}

pub store_made : (w : World) → (store_forest w).made ≡ w.caches.made
unfolding store_forest
store_made w = forest_by-made (own_page w) w.caches

pub store_copies : (w : World) → (store_forest w).copies ≡ w.caches.copies
unfolding store_forest
store_copies w = forest_by-copies (own_page w) w.caches

node_at_none : {P : Type 0} (f : Forest P) (x : NodeName) → get f.nodes x ≡ None → node f x ≡ childless None Root
unfolding node
node_at_none f x e = ap (λ o. unwrap_or o (childless None Root)) e

node_at_some : {P : Type 0} (f : Forest P) (x : NodeName) (k : Node P) → get f.nodes x ≡ Some k → node f x ≡ k
unfolding node
node_at_some f x k e = ap (λ o. unwrap_or o (childless None Root)) e

-- another page where there is one changes nothing but pages
same_put : {P : Type 0} (f : Forest P) (x : NodeName) (k : Node P) (v : P) → {u : P} → get f.nodes x ≡ Some k → k.own ≡ Some u → bare (edit f x (with_page (Some v))) ≡ bare f
same_put f x k v {u} there own =
    let k_is : node f x ≡ k = node_at_some f x k there in
    put-map no_page f x _ ∙ same_forest _ _ (λ y. get-put (bare f) x (map_node no_page (with_page (Some v) (node f x))) y ∙ elim (name_cases y x) [
      | inl e ↦ ap (λ z. cond (same z x) (Some (map_node no_page (with_page (Some v) (node f x)))) (get (bare f).nodes z)) e ∙ ap (λ t. cond t (Some (map_node no_page (with_page (Some v) (node f x)))) (get (bare f).nodes x)) (same_itself x)
          ∙ ap (λ (j : Node _). Some (map_node no_page (with_page (Some v) j))) k_is ∙ here
          ∙ ap (λ z. get (bare f).nodes z) (sym e)
      | inr d ↦ ap (λ t. cond t (Some (map_node no_page (with_page (Some v) (node f x)))) (get (bare f).nodes y)) (same_apart y x d)
    ]) (put-counters (bare f) x _).made (put-counters (bare f) x _).copies
  where
    here : Some (map_node no_page (with_page (Some v) k)) ≡ get (bare f).nodes x
    here = ap (λ o. Some (record { own = o; hang = k.hang; tree = k.tree; stubs = k.stubs })) (sym (ap (option_map no_page) own)) ∙ sym (get-map no_page f x ∙ ap (option_map (map_node no_page)) there)

module _ (w : World) (f : ℕ) (n : NodeId) (bytes : List ℕ) (right : IsStoreRight w) (sound : IsSound w.caches) (home : IsHome w f n) where
  abbrev then : World
  then = record w { frames = with_bytes w.frames f bytes }

  -- another resident node is at another frame
  elsewhere : (m : NodeId) → m ≢ n → is_resident (own_of w.caches m) ≡ true → frame_of w.map m.0 ≢ f
  elsewhere m d resident e =
      let some = some_place (is_node m.0) w.map (omega (arith, right.tied.placed.bound m, bit_true (is_resident (own_of w.caches m)) resident)) in
      let here : is_node m.0 (get_or w.map (frame_of w.map m.0) None) ≡ true = passes_at_first (is_node m.0) w.map None some in
      let none : is_node m.0 (get_or w.map (frame_of w.map m.0) None) ≡ false = ap (λ (k : ℕ). is_node m.0 (get_or w.map k None)) e ∙ ap (is_node m.0) home.node ∙ other_number n.0 m.0 (λ q. id_apart m n d (sym q)) in
      absurd (cc)

  pub written_page : (m : NodeId) → m ≢ n → own_page (record w { frames = with_bytes w.frames f bytes }) m ≡ own_page w m
  written_page m d = given_page w f bytes m (own_of w.caches m) (elsewhere m d)

  pub written_here : own_page (record w { frames = with_bytes w.frames f bytes }) n ≡ Some (option_map (λ _. bytes) w.told)
  written_here = page_here then f n (own_of w.caches n) home.resident home.place ∙ ap (λ (x : List ℕ). Some (option_map (λ _. x) w.told)) (get_or-set_same w.frames.bytes f bytes [] (omega (arith, home.frame, right.tied.fitted.map_frames, right.tied.fitted.bytes_frames)))

  pub written_forest : store_forest (record w { frames = with_bytes w.frames f bytes }) ≡ edit (store_forest w) (name_of w.caches n) (with_page (Some (option_map (λ _. bytes) w.told)))
  unfolding store_forest
  written_forest = equal_by_pages (forest_by (own_page then) w.caches) (edit (forest_by (own_page w) w.caches) (name_of w.caches n) (with_page v))
      (bare-by (own_page then) (own_page w) w.caches sound.kept.named (λ m. tells then m ∙ sym (tells w m)) ∙ sym same_edit)
      (λ x. by_name x (held_or_not w.caches x))
    where
      v : Option (Option (List ℕ))
      v = Some (option_map (λ _. bytes) w.told)

      -- the node had a page, so that without pages nothing changes
      same_edit : bare (edit (forest_by (own_page w) w.caches) (name_of w.caches n) (with_page (Some (option_map (λ _. bytes) w.told)))) ≡ bare (forest_by (own_page w) w.caches)
      same_edit = same_put (forest_by (own_page w) w.caches) (name_of w.caches n) (node_with w.caches n (own_page w n)) (option_map (λ _. bytes) w.told) (get-forest_by w.caches (own_page w) sound.kept.named n home.there)
          (page_here w f n (own_of w.caches n) home.resident home.place)

      by_name : (x : NodeName) → ((m : NodeId) × HasNode w.caches m × (name_of w.caches m ≡ x)) ⊎ ((m : NodeId) → HasNode w.caches m → name_of w.caches m ≢ x)
          → (node (forest_by (own_page then) w.caches) x).own ≡ (node (edit (forest_by (own_page w) w.caches) (name_of w.caches n) (with_page (Some (option_map (λ _. bytes) w.told)))) x).own
      by_name x (inl k) = subst (λ y. (node (forest_by (own_page then) w.caches) y).own ≡ (node (edit (forest_by (own_page w) w.caches) (name_of w.caches n) (with_page v)) y).own) k.2 (page-at (own_page then) w.caches sound.kept.named k.0 k.1 ∙ elim (id_cases k.0 n) [
        | inl e ↦ ap (own_page then) e ∙ written_here ∙ sym (ap (λ j. j.own) (node-put (forest_by (own_page w) w.caches) (name_of w.caches n) _)) ∙ ap (λ m. (node (edit (forest_by (own_page w) w.caches) (name_of w.caches n) (with_page v)) (name_of w.caches m)).own) (sym e)
        | inr d ↦ written_page k.0 d ∙ sym (page-at (own_page w) w.caches sound.kept.named k.0 k.1)
            ∙ sym (ap (λ j. j.own) (node-put_other (forest_by (own_page w) w.caches) (name_of w.caches n) (name_of w.caches k.0) _ (λ e. d (sound.kept.named.apart k.0 n k.1 home.there e))))
      ])
      by_name x (inr none) =
          let ne : x ≢ name_of w.caches n = λ e. none n home.there (sym e) in
          let first = get-forest_by_none w.caches (own_page then) x none in
          let second = get-forest_by_none w.caches (own_page w) x none in
          ap (λ j. j.own) (node_at_none (forest_by (own_page then) w.caches) x first) ∙ sym (ap (λ j. j.own) (node-put_other (forest_by (own_page w) w.caches) (name_of w.caches n) x _ ne ∙ node_at_none (forest_by (own_page w) w.caches) x second))
