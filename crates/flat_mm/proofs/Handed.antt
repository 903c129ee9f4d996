-- Calls that are handed the mapper and leave it.
use Rattle.std.proofs.Common.{◌≡◌, ℕ, ◌==◌, Bool, true, false, cond, List, [], ◌∷◌, Option, Some, None, refl, sym, ap, subst, ◌∙◌, arith}
use Rattle.std.specs.Option.{option_or}
use Rattle.std.specs.Prelude.{is_some}
use Rattle.vm_ids.specs.Counting.{no_counts}
use Rattle.vm_ids.specs.Held.{Segments, segments_of}
use Rattle.vm_ids.specs.declared.command.Command.{Command}
use Rattle.vm_model.specs.Answering.{Answer}
use Rattle.vm_model.specs.Machine as model
use Rattle.vm_model.specs.Machine.{Machine}
use Rattle.vm_model.specs.Outcome.{Outcome}
use Rattle.vm_model.specs.Regions.{region_among, region_with, replace_in, replace_region, with_lock}
use Rattle.vm_model.proofs.Machines.Locks.{lock_taken_back}
use Rattle.vm_port.specs.declared.traits.mapper.Mapper.{Ghosts as GhostsOfMapper}
use Rattle.contexts.specs.Actors.{Actors, machine_with}
use Rattle.contexts.proofs.RegionRows.{with_locked}
use Rattle.gmi_calls.specs.Parking.{AccessCall}
use Rattle.gmi_calls.specs.Reaching.{NoPages}
use Rattle.gmi_calls.proofs.Called.{eager_quiet}
use Rattle.flat_mm.specs.Manager.{IsManagerSound, IsValid, Manager, caches_in, flat, machine_in}
use Rattle.flat_mm.specs.Store.{Store}
use Rattle.flat_mm.proofs.Acting.{IsOfActors, fits_less, whole_machine}
use Rattle.flat_mm.proofs.Calls.{flat_access}

module _ {X : Type 0} (M : GhostsOfMapper X) (x : X) (s : Store) (t : Actors) (n : ℕ) (k : IsManagerSound s t n) (p : Manager) (view : (let q : Manager = record { store = s; actors = t } in q) ≡ p) (command : Command) (of : IsOfActors command) (valid : IsValid p (M.held x)) (a : Answer) where
  -- a call that changes actors
  pub handed : (u : Actors) → u.page_bytes ≡ t.page_bytes → ((h : Segments) → Outcome (machine_with (caches_in s) s.frames t) None command h a (machine_with (caches_in s) s.frames u) no_counts)
      → AccessCall M flat NoPages x p command a x (record { store = s; actors = u })
  handed u page outcome =
      let old : Manager = record { store = s; actors = t } in
      let new : Manager = record { store = s; actors = u } in
      let v : IsValid old (M.held x) = subst (λ (q : Manager). IsValid q (M.held x)) (sym view) valid in
      subst (λ (q : Manager). AccessCall M flat NoPages x q command a x new) view
      (flat_access M x x old new command a (fits_less old new command a of.needs (omega arith)) v.kept
      (eager_quiet M x (machine_in old) (machine_in new) command a of.reaches v.ready (whole_machine s u (page ∙ k.page) k.whole) outcome (of.said (machine_in old) (segments_of (M.held x)) a)))

  -- one that changes nothing
  pub handed_back : ((h : Segments) → Outcome (machine_with (caches_in s) s.frames t) None command h a (machine_with (caches_in s) s.frames t) no_counts) → AccessCall M flat NoPages x p command a x p
  handed_back outcome = subst (λ (q : Manager). AccessCall M flat NoPages x p command a x q) view (handed t refl outcome)

-- A lock that is taken back

or_some : {A : Type 0} (o p : Option A) → is_some o ≡ true → is_some (option_or o p) ≡ true
or_some None p e = absurd (cc e)
or_some (Some x) p e = refl

module _ (n : ℕ) where
  among_found : (rs : List model.Region) → is_some (region_among n (replace_region n (with_lock true) rs)) ≡ is_some (region_among n rs)
  among_found [] = refl
  among_found (r ∷ rs) = go (r.number == n) refl (among_found rs)
    where
      go : (b : Bool) → (r.number == n) ≡ b → is_some (region_among n (replace_region n (with_lock true) rs)) ≡ is_some (region_among n rs)
          → is_some (region_among n (cond b (record r { locked = true } ∷ rs) (r ∷ replace_region n (with_lock true) rs))) ≡ is_some (cond b (Some r) (region_among n rs))
      go true e rest = ap (λ (b : Bool). is_some (cond b (Some (record r { locked = true })) (region_among n rs))) e
      go false e rest = ap (λ (b : Bool). is_some (cond b (Some r) (region_among n (replace_region n (with_lock true) rs)))) e ∙ rest

  -- the region is there still
  pub locked_found : (xs : List (Option model.Actor)) (r : model.Region) → region_with n xs ≡ Some r → is_some (region_with n (replace_in n (with_lock true) xs)) ≡ true
  locked_found [] r e = absurd (cc e)
  locked_found (None ∷ xs) r e = locked_found xs r e
  locked_found (Some rs ∷ xs) r e = go (region_among n rs) refl e (locked_found xs r)
    where
      go : (o : Option model.Region) → region_among n rs ≡ o → option_or o (region_with n xs) ≡ Some r → (region_with n xs ≡ Some r → is_some (region_with n (replace_in n (with_lock true) xs)) ≡ true)
          → is_some (region_with n (cond (is_some o) (Some (replace_region n (with_lock true) rs) ∷ xs) (Some rs ∷ replace_in n (with_lock true) xs))) ≡ true
      go None e found rest = ap (λ (o : Option model.Region). is_some (option_or o (region_with n (replace_in n (with_lock true) xs)))) e ∙ rest found
      go (Some y) e found rest = or_some (region_among n (replace_region n (with_lock true) rs)) (region_with n xs) (among_found rs ∙ ap is_some e)

  pub lock_undone : (t : Actors) (r : model.Region) → region_with n t.actors ≡ Some r → r.locked ≡ false → with_locked n false (with_locked n true t) ≡ t
  lock_undone t r found free = ap (λ (m : Machine). let u : Actors = record t { actors = m.actors } in u) (lock_taken_back n (machine_with [] 0 t) r found free)
