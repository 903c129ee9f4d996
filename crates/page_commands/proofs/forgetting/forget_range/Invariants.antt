use Rattle.std.proofs.Common.{◌≡◌, ℕ, ◌+◌, ◌-◌, ◌<◌, ◌≤◌, length}
use Rattle.vm_ids.specs.Forest.Commands.{extent_names, page_name}
use Rattle.local_cache.specs.Own.{own_states}
use Rattle.residency.specs.World.{SameNodes}
use Rattle.page_commands.specs.Homes.{MayGo}
use Rattle.page_commands.specs.Steps.{Releases}
use Rattle.page_commands.specs.Untouched.{ForgetsSome}
use Rattle.page_commands.proofs.forgetting.forget_range.Given as goal

abbrev pub invariant-loop-done : goal.invariant-loop-done
invariant-loop-done l =
    let all = extent_names l.extent in
    record {
      most : l.done ≤ l.extent.pages;
      rule : ForgetsSome l.extent.cache all l.fn.store l.fn.caches l.store l.caches;
      kept : Releases all l.fn.store l.fn.caches l.store l.caches;
      same : SameNodes l.fn.caches l.caches;
      may : (i : ℕ) → i < l.done → MayGo l.caches (page_name l.extent.cache (l.extent.first.0 + i));
      count : length (own_states l.caches) ≡ length (own_states l.fn.caches);
    }

abbrev pub decreases-loop-done : goal.decreases-loop-done
decreases-loop-done l = l.extent.pages - l.done
