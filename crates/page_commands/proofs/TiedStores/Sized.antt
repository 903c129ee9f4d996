-- A settled store is right where there are twice as many slots as live pages.
use Rattle.std.proofs.Common.{◌≡◌, ◌*◌, ℕ, ◌≤◌, true, false, filter, List, length, IsSome, sym, ap, ◌∙◌, inl, inr, arith}
use Rattle.std.proofs.lemmas.Bool.{false≢true}
use Rattle.std.proofs.lemmas.List.{length-map}
use Rattle.vm_ids.specs.declared.node_name.NodeName.{NodeName}
use Rattle.vm_ids.specs.declared.node_name.NodeName.TheVariants.{Live, Working}
use Rattle.vm_ids.specs.Forest.NameMap.{keys}
use Rattle.vm_ids.specs.Forest.Nodes.{IsNode, is_live}
use Rattle.vm_ids.specs.Forest.Reading.{live_count}
use Rattle.vm_ids.specs.Forest.Shape.{IsBounded}
use Rattle.vm_ids.proofs.Forest.Agreeing.{subset_le}
use Rattle.vm_ids.proofs.Forest.Bound.{IsNode-key, Once-keys, key-IsNode, split_length}
use Rattle.vm_ids.proofs.Forest.NameLists.{Once-filter, filter_in, in_filter}
use Rattle.local_cache.specs.Arena.{Arena}
use Rattle.vm_ids.specs.declared.numbers.NodeId.{NodeId}
use Rattle.vm_ids.specs.Forest.NameLists.{◌∈◌}
use Rattle.local_cache.specs.Home.{home_of}
use Rattle.local_cache.specs.Own.{own_of, own_states}
use Rattle.local_cache.specs.Reading.{AreNamesApart, forest_of, name_of}
use Rattle.local_cache.specs.declared.own_state.OwnState.{OwnState}
use Rattle.local_cache.proofs.Nodes.Count.{states_most}
use Rattle.local_cache.proofs.Nodes.Values.{same_own_states}
use Rattle.residency.specs.declared.store.Store.{Store}
use Rattle.residency.specs.World.{is_clean, is_name_granted}
use Rattle.tree_merge.specs.declared.released.Released.{Released}
use Rattle.tree_merge.specs.declared.released.Released.TheVariants.{Nothing, Dropped, Moved}
use Rattle.tree_merge.specs.Releasing.{IsReleased}
use Rattle.local_cache.specs.Whole.{IsWhole, SameCaches}
use Rattle.local_cache.proofs.Whole.LivePages.{node_page}
use Rattle.page_commands.specs.Steps.{Releases, StaysRight}
use Rattle.page_commands.proofs.NodesGone.Counting.{went_length}
use Rattle.page_commands.proofs.NodesGone.Passed.{passed_fewer}
use Rattle.page_commands.proofs.TiedStores.Homes.{granted_then}

module _ (a : Arena) (named : AreNamesApart a) where
  pub states_bound : IsBounded (forest_of a) → length (own_states a) ≤ 2 * live_count (forest_of a)
  states_bound bounded =
      let all = split_length is_live (keys (forest_of a).nodes) in
      let list = length-map (forest_of a).nodes.list (λ e. e.0) in
      elim bounded [
        | inl fewer ↦ omega (arith, states_most a named, all, list, fewer)
        | inr none ↦ omega (arith, states_most a named, all, list, none.0, none.1)
      ]

-- The store is right again where there are slots enough, and of the pages of segments that were
-- changed each was granted.
pub right_after : (xs : List NodeName) (s : Store) (a : Arena) (t : Store) (b : Arena) → Releases xs s a t b → ((n : NodeId) → IsSome (home_of b n) → name_of b n ∈ xs → is_clean (own_of b n) ≡ false → is_name_granted a (name_of b n) ≡ true)
    → (length (own_states a) ≤ length s.slots → length (own_states b) ≤ length s.slots) → StaysRight s a t b
right_after xs s a t b kept listed enough told size right =
    let gives = kept.gives_back told size right.tied in
    record {
      tied = gives.tied;
      granted = granted_then told size a s b t xs kept.homes kept.sizes listed right.granted;
      capacity = omega (arith, enough right.capacity, gives.capacity);
    }

-- the working nodes are bound
pub bounded_capacity : (b : Arena) (slots : ℕ) → AreNamesApart b → IsBounded (forest_of b) → 2 * live_count (forest_of b) ≤ slots → length (own_states b) ≤ slots
bounded_capacity b slots named bounded enough = omega (arith, states_bound b named bounded, enough)

-- what was released leaves no more nodes
pub released_fewer : (a b : Arena) (r : Released) → IsReleased a b r → length (own_states b) ≤ length (own_states a)
released_fewer a b Nothing still = let same = ap (λ (xs : List OwnState). length xs) (same_own_states a b still.held still.own) in omega (arith, same)
released_fewer a b (Dropped n state) drop = omega (arith, went_length a b n drop.went drop.others)
released_fewer a b (Moved from to) pass = passed_fewer a b from to pass.went pass.apart pass.there pass.absent pass.passed pass.others

-- Caches of the same sizes have as many live pages
live_there : (a b : Arena) → IsWhole a → IsWhole b → SameCaches a b → (x : NodeName) → is_live x ≡ true → IsNode (forest_of a) x → IsNode (forest_of b) x
live_there a b wa wb same (Live cache page) live is = let n = node_page a wa.sound cache page.0 is in wb.pages cache page.0 n.0 (same.sizes cache.0 ∙ n.1) n.2
live_there a b wa wb same (Working k) live is = absurd (false≢true live)

live_less : (a b : Arena) → IsWhole a → IsWhole b → SameCaches a b → live_count (forest_of a) ≤ live_count (forest_of b)
live_less a b wa wb same =
    let from : List NodeName = keys (forest_of a).nodes in
    let to : List NodeName = keys (forest_of b).nodes in
    subset_le (filter is_live from) (filter is_live to) (Once-filter is_live from (Once-keys (forest_of a).nodes.list (forest_of a).nodes.sorted))
    (λ x i. (let p = in_filter is_live from x i in filter_in is_live to x (IsNode-key (forest_of b) x (live_there a b wa wb same x p.1 (key-IsNode (forest_of a) x p.0))) p.1))

pub same_live : (a b : Arena) → IsWhole a → IsWhole b → SameCaches a b → live_count (forest_of b) ≡ live_count (forest_of a)
same_live a b wa wb same = omega (arith, live_less a b wa wb same, live_less b a wb wa (record { count = sym same.count; sizes = λ cache. sym (same.sizes cache); segments = λ cache. sym (same.segments cache) }))
