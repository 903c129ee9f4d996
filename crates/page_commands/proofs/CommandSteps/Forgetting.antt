-- What a command needs is there still when its pages were forgotten.
use Rattle.std.proofs.Common.{ℕ, List, ap, arith}
use Rattle.vm_ids.specs.declared.node_name.NodeName.{NodeName}
use Rattle.local_cache.specs.Arena.{Arena}
use Rattle.local_cache.specs.Sound.{IsSound}
use Rattle.local_cache.specs.Whole.{IsWhole}
use Rattle.local_cache.proofs.Whole.Like.{like_len}
use Rattle.residency.specs.declared.store.Store.{Store}
use Rattle.residency.specs.World.{SameNodes}
use Rattle.residency.proofs.Worlds.Nodes.{still_like}
use Rattle.page_commands.specs.Commands.{CanRetire, HasRoom}
use Rattle.page_commands.specs.Steps.{Releases}
use Rattle.page_commands.proofs.TiedStores.Kept.{unpinned_kept}

module _ (a b : Arena) (same : SameNodes a b) (nodes : ℕ) where
  pub retire_kept : (xs : List NodeName) (s t : Store) → Releases xs s a t b → IsWhole b → (names : List NodeName) → CanRetire nodes names s a → CanRetire nodes names t b
  retire_kept xs s t kept whole names ready = record {
    tied = kept.tied;
    whole = whole;
    unpinned = λ x i. unpinned_kept xs s a t b ready.tied kept x (ready.unpinned x i);
    made = let made = ap (λ (k : Arena). k.made) same.rest in omega (arith, made, ready.made);
  }

  pub room_kept : IsSound a → HasRoom nodes a → HasRoom nodes b
  room_kept sound room = record {
    room = let more = ap (λ (k : Arena). k.room.nodes) same.rest in omega (arith, more, room.room);
    few = omega (arith, like_len a b sound (still_like a b same), room.few);
  }
