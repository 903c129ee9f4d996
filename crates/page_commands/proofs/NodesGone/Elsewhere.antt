-- What is done in the store for a node that went doesn't look at the caches: it is the same before
-- other changes of them.
use Rattle.std.proofs.Common.{◌≡◌, ℕ, zero, suc, Option, refl, sym, ap, ◌∙◌, subst, arith}
use Rattle.vm_ids.specs.Held.{Held}
use Rattle.vm_ids.specs.declared.numbers.NodeId.{NodeId}
use Rattle.vm_ids.specs.Forest.Nodes.{child_count}
use Rattle.local_cache.specs.declared.own_state.OwnState.TheVariants.{Absent, Zero, Resident, Slot, OnSegment}
use Rattle.local_cache.specs.Arena.{Arena}
use Rattle.local_cache.specs.Reading.{forest_of, name_of}
use Rattle.residency.specs.declared.store.Store.{Store}
use Rattle.residency.specs.World.{World, world}
use Rattle.tree_merge.specs.declared.released.Released.{Released}
use Rattle.tree_merge.specs.declared.released.Released.TheVariants.{Nothing, Dropped, Moved}
use Rattle.tree_merge.specs.Releasing.{IsRetired}
use Rattle.page_commands.specs.Following.{CanFollow, followed}

-- no node took over the page of another
abbrev pub StaysPut : Released → Type 0
StaysPut Nothing = Unit {0}
StaysPut (Dropped n state) = Unit {0}
StaysPut (Moved from to) = ⊥

pub retired_put : (a b : Arena) (n : NodeId) (r : Released) → IsRetired a b n r → StaysPut r
retired_put a b n r is = go (child_count (forest_of a) (name_of a n)) refl
  where
    go : (k : ℕ) → child_count (forest_of a) (name_of a n) ≡ k → StaysPut r
    go zero e = subst StaysPut (sym (is.leaf e).0) tt
    go (suc k) e = subst StaysPut (sym (is.parent (omega (arith, e))).0) tt

pub can_with : (s : Store) (b d : Arena) (r : Released) → StaysPut r → CanFollow s b r → CanFollow s d r
can_with s b d Nothing put can = can
can_with s b d (Dropped n state) put can = can
can_with s b d (Moved from to) put can = absurd put

without_with : (w : World) (b : Arena) (r : Released) → StaysPut r → record (followed w r) { caches = b } ≡ followed (record w { caches = b }) r
without_with w b Nothing put = refl
without_with w b (Dropped n Absent) put = refl
without_with w b (Dropped n Zero) put = refl
without_with w b (Dropped n (Resident dirty)) put = refl
without_with w b (Dropped n (Slot k)) put = refl
without_with w b (Dropped n OnSegment) put = refl
without_with w b (Moved from to) put = absurd put

-- What was released was followed in a store, over these caches.
abbrev pub IsFollowed : Store → Store → Arena → Released → Type 0
IsFollowed s t a r = (told : Option Held) (size : Option ℕ) → world told size a t ≡ followed (world told size a s) r

pub followed_with : (s t : Store) (b d : Arena) (r : Released) → StaysPut r → IsFollowed s t d r → IsFollowed s t b r
followed_with s t b d r put after told size = ap (λ (w : World). record w { caches = b }) (after told size) ∙ without_with (world told size d s) b r put
