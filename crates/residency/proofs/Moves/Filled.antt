-- A frame that its taker has is filled, or given back.
use Rattle.std.proofs.Common.{◌≡◌, ℕ, ◌+◌, ◌<◌, Bool, true, false, List, [], length, replicate, Option, Some, None, Ok, Err, refl, sym, ap, ◌∙◌, subst, arith, length-set}
use Rattle.std.specs.Option.{IfSome}
use Rattle.std.proofs.lemmas.List.{get_or-set_same}
use Rattle.vm_ids.specs.Counting.{MapperCounts}
use Rattle.vm_ids.specs.declared.numbers.FrameId.{FrameId}
use Rattle.vm_ids.specs.declared.numbers.NodeId.{NodeId}
use Rattle.vm_ids.proofs.Places.{bit}
use Rattle.frame_pool.specs.Pool.{bytes_of}
use Rattle.local_cache.specs.declared.own_state.OwnState.{OwnState}
use Rattle.local_cache.specs.declared.own_state.OwnState.TheVariants.{Zero, Resident}
use Rattle.local_cache.specs.Arena.{HasNode}
use Rattle.local_cache.specs.Own.{is_resident, own_of}
use Rattle.local_cache.proofs.Nodes.OwnStates.{own_same}
use Rattle.residency.specs.declared.miss.Miss.{Miss}
use Rattle.residency.specs.declared.miss.Miss.TheVariants.{Pull}
use Rattle.residency.specs.Causes.{Later, PullFailed, Traffic, dirtied, dirty_count, pulls_for}
use Rattle.residency.specs.Filling.{Fills}
use Rattle.residency.specs.World.{World, IsStoreRight, IsTaken, StillBut, brought_in, is_pulled}
use Rattle.residency.proofs.Worlds.Composed.{others_but}
use Rattle.residency.proofs.Moves.GivenUp.{given_up, given_up_others, given_up_still}
use Rattle.residency.proofs.Moves.Brought.{brought, brought_dirty, brought_others}

module _ (w : World) (f : FrameId) (n : NodeId) (bytes : List ℕ) (last : Option (List ℕ)) (before now : MapperCounts) (own : OwnState)
    (right : IsStoreRight w) (taken : IsTaken w f.0) (is : own_of w.caches n ≡ own) (later : Later before now) where
  -- with these bytes, by the page that the node had
  pub brought_fills : (dirty : Bool) (after : List Bool) → HasNode w.caches n → is_resident own ≡ false → brought_in own ≡ Resident dirty → dirtied {T = FrameId} {E = Miss} (Ok f) own ≡ bit dirty
      → StillBut f.0 w (brought w f.0 n dirty after bytes) → (own ≡ Zero → bytes ≡ replicate w.frames.page 0) → (is_pulled own ≡ true → IfSome last (λ page. bytes ≡ page))
      → Traffic (pulls_for {T = FrameId} (Ok f) own) 0 before now → Fills (Ok f) n f.0 last w (brought w f.0 n dirty after bytes) before now
  brought_fills dirty after there away then more still zeros given traffic =
      let within : f.0 < length w.map = omega (arith, taken.within, right.tied.fitted.map_frames) in
      let here : bytes_of (brought w f.0 n dirty after bytes).frames f.0 ≡ bytes = get_or-set_same w.frames.bytes f.0 bytes [] (omega (arith, taken.within, right.tied.fitted.bytes_frames)) in
      record {
        still = still;
        home = ((let i = within in omega (arith, length-set w.map f.0 (Some n))), get_or-set_same w.map f.0 (Some n) None within);
        state = own_same w.caches n (Resident dirty) ∙ sym (ap brought_in is ∙ then);
        page = record {
          zeros = λ e. here ∙ zeros (sym is ∙ e);
          given = λ pulled. subst (λ (b : List ℕ). IfSome last (λ page. b ≡ page)) (sym here) (given (sym (ap is_pulled is) ∙ pulled));
        };
        others = brought_others w f.0 n dirty after bytes within;
        failed = tt;
        bound = refl;
        unbound = tt;
        pinned = refl;
        held = refl;
        told = refl;
        later = later;
        traffic = subst (λ (x : OwnState). Traffic (pulls_for {T = FrameId} (Ok f) x) 0 before now) (sym is) traffic;
        dirty = brought_dirty w n dirty there (ap is_resident is ∙ away) ∙ ap (λ (k : ℕ). dirty_count w.caches + k) (sym (ap (λ (x : OwnState). dirtied {T = FrameId} {E = Miss} (Ok f) x) is ∙ more));
        filled = refl;
        cause = tt;
      }

  -- the pull failed, whatever the frame holds
  pub given_up_fills : Traffic (pulls_for {T = FrameId} (Err Pull) own) 0 before now → PullFailed before now → Fills (Err Pull) n f.0 last w (given_up w f.0 bytes) before now
  given_up_fills traffic cause =
      let others = given_up_others w f.0 bytes taken.unbound in
      record {
        still = given_up_still w f.0 bytes right taken;
        home = tt;
        state = tt;
        page = tt;
        others = others_but n w _ others;
        failed = others;
        bound = tt;
        unbound = refl;
        pinned = refl;
        held = tt;
        told = refl;
        later = later;
        traffic = subst (λ (x : OwnState). Traffic (pulls_for {T = FrameId} (Err Pull) x) 0 before now) (sym is) traffic;
        dirty = omega arith;
        filled = refl;
        cause = cause;
      }
