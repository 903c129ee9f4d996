use Rattle.std.proofs.Common.{◌≡◌, ℕ, ◌+◌, ◌-◌, ◌<◌, None, length}
use Rattle.vm_ids.specs.Forest.Commands.{extent_names, page_name, page_names}
use Rattle.vm_ids.specs.Forest.Forgetting.{forgotten}
use Rattle.local_cache.specs.declared.own_state.OwnState.TheVariants.{Zero}
use Rattle.local_cache.specs.Own.{own_states}
use Rattle.local_cache.specs.Reading.{forest_of}
use Rattle.residency.specs.Seeing.{frame_forest}
use Rattle.residency.specs.StoreForest.{store_forest}
use Rattle.residency.specs.World.{SameNodes}
use Rattle.page_commands.specs.Homes.{IsUnclean}
use Rattle.page_commands.specs.Steps.{ForAnyMapper, Releases, zeros_told}
use Rattle.page_commands.proofs.forgetting.forget_pages.Given as goal

abbrev pub invariant-loop-page : goal.invariant-loop-page
invariant-loop-page l =
    let all = extent_names l.extent in
    let left = page_names l.extent.cache (l.extent.first.0 + l.page) (l.extent.pages - l.page) in
    record {
      nodes : forgotten left Zero (forest_of l.caches) ≡ forgotten all Zero (forest_of l.fn.caches);
      forest : ForAnyMapper l.fn.store l.fn.caches l.store l.caches (λ old new. forgotten left (zeros_told old) (store_forest new) ≡ forgotten all (zeros_told old) (store_forest old));
      frames : forgotten left None (frame_forest l.caches l.store.map) ≡ forgotten all None (frame_forest l.fn.caches l.fn.store.map);
      kept : Releases all l.fn.store l.fn.caches l.store l.caches;
      same : SameNodes l.fn.caches l.caches;
      unclean : (i : ℕ) → i < l.page → IsUnclean l.caches (page_name l.extent.cache (l.extent.first.0 + i));
      count : length (own_states l.caches) ≡ length (own_states l.fn.caches);
    }
