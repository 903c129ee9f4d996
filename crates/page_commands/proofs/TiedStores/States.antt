-- Every node has its own state: the store is as it was.
use Rattle.std.proofs.Common.{◌≡◌, ℕ, Bool, true, false, Option, refl, sym, ap, ◌∙◌}
use Rattle.std.specs.List.{count_by}
use Rattle.vm_ids.specs.declared.numbers.NodeId.{NodeId}
use Rattle.vm_ids.proofs.Places.{bit}
use Rattle.local_cache.specs.declared.own_state.OwnState.{OwnState}
use Rattle.local_cache.specs.declared.own_state.OwnState.TheVariants.{Absent}
use Rattle.local_cache.specs.Arena.{Arena}
use Rattle.vm_ids.specs.Held.{Held}
use Rattle.local_cache.specs.Home.{home_of}
use Rattle.local_cache.specs.Own.{is_in_slot, is_resident, is_slot, own_of, own_states}
use Rattle.residency.specs.declared.store.Store.{Store}
use Rattle.residency.specs.World.{IsBacked, IsTied, World, is_clean, own_page, world}
use Rattle.page_commands.specs.Steps.{ForAnyMapper, GivesBack}
use Rattle.page_commands.proofs.TiedStores.Backed.{HomesStay, own_page_as, stay_backed}

-- each node has its own state, and as many have one of each kind but none
pub record SameStates (a b : Arena) : Type 0 where
  pub own : (n : NodeId) → own_of b n ≡ own_of a n
  pub count : (p : OwnState → Bool) → p Absent ≡ false → count_by p (own_states b) ≡ count_by p (own_states a)

-- the caches alone are others, and all places of pages are what they were
pub caches_give : (w : World) (b : Arena) → IsTied (record w { caches = b }) → GivesBack w (record w { caches = b })
caches_give w b then = record {
  tied = then;
  held = λ f h. h;
  bytes = refl;
  pinned = λ f pin. record { pinned = pin; bytes = refl; node = refl };
  pins = refl;
  slots = λ s h. h;
  capacity = refl;
  frames = refl;
  page = refl;
}

module _ (w : World) (b : Arena) (same : SameStates w.caches b) where
  pub states_tied : IsBacked (record w { caches = b }) → IsTied w → IsTied (record w { caches = b })
  states_tied backed fit = record {
    placed = record {
      bound = λ n. fit.placed.bound n ∙ ap (λ (x : OwnState). bit (is_resident x)) (sym (same.own n));
      held = fit.placed.held;
      slots = λ s. same.count (is_slot s) refl ∙ fit.placed.slots s;
      in_slots = fit.placed.in_slots ∙ sym (same.count is_in_slot refl);
    };
    backed = backed;
    fitted = fit.fitted;
  }

  pub states_page : ((m : NodeId) → is_clean (own_of w.caches m) ≡ true → home_of b m ≡ home_of w.caches m) → (m : NodeId) → own_page (record w { caches = b }) m ≡ own_page w m
  states_page home m = own_page_as w b w.frames.held w.slots w.map m m (same.own m) (λ r. refl) (home m)

-- and each has its home
module _ (s : Store) (a b : Arena) (same : SameStates a b) (stay : HomesStay a b) where
  pub states_back : ForAnyMapper s a s b GivesBack
  states_back told size fit =
      let w = world told size a s in
      caches_give w b (states_tied w b same (stay_backed w b w.frames.held w.slots w.map stay (λ m k r. refl) (λ s h. h) fit.backed) fit)

  pub states_stay : (told : Option Held) (size : Option ℕ) (m : NodeId) → own_page (world told size b s) m ≡ own_page (world told size a s) m
  states_stay told size = states_page (world told size a s) b same (λ m k. stay.clean m (ap is_clean (same.own m) ∙ k))
