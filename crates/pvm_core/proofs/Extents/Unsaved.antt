-- Pages were not taken from their segment: the answers.
use Rattle.std.proofs.Common.{◌≡◌, ℕ, ◌+◌, ◌≤◌, true, false, length, Option, Some, None, is_some, refl, sym, ap, ◌∙◌, subst, arith}
use Rattle.std.specs.Prelude.{Err, option_map}
use Rattle.std.specs.Bool.{IsTrue}
use Rattle.std.specs.Option.{option_map_or}
use Rattle.vm_ids.specs.Counting.{MapperCounts, Rose}
use Rattle.vm_ids.specs.Held.{Held, Segments, segments_in, segments_of}
use Rattle.vm_ids.specs.declared.command.Command.TheVariants as commands
use Rattle.vm_ids.specs.declared.command.Extent.{Extent}
use Rattle.vm_ids.specs.declared.numbers.SegId.{SegId}
use Rattle.vm_ids.specs.declared.reply.FaultAt.TheVariants as faults
use Rattle.vm_ids.specs.declared.reply.Trouble.{Trouble}
use Rattle.vm_ids.specs.declared.reply.Trouble.TheVariants as troubles
use Rattle.vm_ids.specs.Forest.Commands.{extent_names}
use Rattle.local_cache.specs.Whole.{IsWhole}
use Rattle.vm_model.specs.Answering.{Answer, held_for, is_any_locked, is_named}
use Rattle.vm_model.specs.Machine.{Cache, Machine}
use Rattle.vm_model.specs.Outcome.{NotRefusedButFor, OutcomeAt, blank}
use Rattle.vm_model.specs.PageForest.{PageForest}
use Rattle.vm_model.specs.Run.{CallIs}
use Rattle.gmi_calls.specs.Calling.{AsksFirst, RaisesMade}
use Rattle.pvm_core.specs.Manager.{IsValid, Manager, forest_of, machine_by, machine_of, numbered, state_at}
use Rattle.pvm_core.specs.Saving.{FailedToSave, IsNotSaved, KeepsMachine}
use Rattle.pvm_core.proofs.Answering.Answered.{call_is, no_segments}
use Rattle.pvm_core.proofs.Readiness.Copies.{extent_count, extent_live, forest_copies, saves_most}
use Rattle.pvm_core.proofs.Extents.Rows.{IsExtent, cache_there, invalidate_row}
use Rattle.pvm_core.proofs.Answering.Reaching.{reach_told}
use Rattle.pvm_core.proofs.Answering.Rising.{grown_some, rises_between}
use Rattle.pvm_core.proofs.Meaning.Values.{blank_of, consistent_of, zeroed, zeroed_whole}

module _ (p q : Manager) (h g : Option Held) (c d : MapperCounts) (e : Extent) (x : IsExtent p.caches e) (lock : (f : PageForest) → is_any_locked (machine_by p f) e.cache e.first.0 e.pages ≡ false) (nodes : IsWhole p.caches) (valid : IsValid q g) (keeps : KeepsMachine p q h g c d) where
  named : (f : PageForest) → IsTrue (is_named (machine_by p f) e.cache.0)
  named f = subst IsTrue (sym (ap (λ (o : Option Cache). option_map_or (λ (c : Cache). is_some c.segment) o false) (cache_there p f e x) ∙ ap (λ (o : Option SegId). is_some (option_map (λ (s : SegId). s.0) o)) x.of)) refl

  -- a save failed
  not_saved : (done : ℕ) → FailedToSave e done p q h g → Rose c.faults d.faults → CallIs c d (state_at p h) (commands.Invalidate e) (Err (troubles.Mapper (faults.Save done))) (state_at q g)
  not_saved done failed rose = call_is c d p q h g (commands.Invalidate e) (Err (troubles.Mapper (faults.Save done))) keeps.reach valid tt tt failed.forest (go g refl h refl)
    where
      may : (f : PageForest) (s : Segments) → NotRefusedButFor (faults.Save done) (Rattle.vm_model.specs.Answering.invalidate_of (machine_by p f) e (held_for (machine_by p f) s e.cache.0)).answer
      may f s = subst (λ a. NotRefusedButFor (faults.Save done) a.answer) (sym (invalidate_row p f e x (lock f) (held_for (machine_by p f) s e.cache.0))) tt

      go : (o : Option Held) → g ≡ o → (r : Option Held) → h ≡ r → OutcomeAt (segments_of o) (machine_of p h) (Some (forest_of p h)) (commands.Invalidate e) (Err (troubles.Mapper (faults.Save done))) (machine_of q g) (rises_between (length keeps.reach.pushes) c d)
      go (Some z) is r was = (keeps.machine, grown_some (length keeps.reach.pushes) c.faults d.faults rose, (named (forest_of p h), failed.left), may (forest_of p h) (segments_in z))
      go None is None was =
          let stays : machine_of p h ≡ blank (machine_by p (zeroed p h)) = ap (machine_of p) was ∙ blank_of p (zeroed p h) nodes in
          record {
            whole = machine_by p (zeroed p h);
            whole_next = machine_by p (zeroed p h);
            segments = no_segments;
            whole_answer = Err (troubles.Mapper (faults.Save done));
            is = stays;
            is_next = keeps.machine ∙ stays;
            pages = zeroed_whole p h nodes;
            alike = refl;
            outcome = (refl, grown_some (length keeps.reach.pushes) c.faults d.faults rose, (named (zeroed p h), failed.left), may (zeroed p h) no_segments);
          }
      go None is (Some r) was = absurd (let both : false ≡ true = ap (λ (o : Option Held). is_some (segments_of o)) (sym is) ∙ reach_told (machine_of p h) h g c d keeps.reach ∙ ap (λ (o : Option Held). is_some (segments_of o)) was in cc both)

  pub unsaved_is : (r : Trouble) → IsNotSaved e p h q g r → Rose c.faults d.faults → CallIs c d (state_at p h) (commands.Invalidate e) (Err r) (state_at q g)
  unsaved_is (troubles.Mapper (faults.Save done)) failed rose = not_saved done failed rose
  unsaved_is (troubles.Mapper faults.Opening) failed rose = absurd failed
  unsaved_is (troubles.Mapper (faults.Access page)) failed rose = absurd failed
  unsaved_is (troubles.Mapper (faults.Page page)) failed rose = absurd failed
  unsaved_is (troubles.Mapper faults.Victim) failed rose = absurd failed
  unsaved_is troubles.Memory failed rose = absurd failed
  unsaved_is (troubles.Refused r) failed rose = absurd failed

  numbers : (done : ℕ) → FailedToSave e done p q h g → numbered q ≤ numbered p + e.pages
  numbers done failed =
      let most = saves_most done (extent_names e) (forest_of p h) (consistent_of p h nodes).shaped (extent_live e) in
      omega (arith, most, extent_count e, ap (λ f. f.copies) failed.forest, forest_copies p h, forest_copies q g, keeps.made)

  pub unsaved_made : (r : Trouble) → IsNotSaved e p h q g r → (m next : Machine) → RaisesMade m (commands.Invalidate e) (Err r) next (numbered p) (numbered q)
  unsaved_made (troubles.Mapper (faults.Save done)) failed m next = (let n = numbers done failed in omega (arith, n))
  unsaved_made (troubles.Mapper faults.Opening) failed m next = absurd failed
  unsaved_made (troubles.Mapper (faults.Access page)) failed m next = absurd failed
  unsaved_made (troubles.Mapper (faults.Page page)) failed m next = absurd failed
  unsaved_made (troubles.Mapper faults.Victim) failed m next = absurd failed
  unsaved_made troubles.Memory failed m next = absurd failed
  unsaved_made (troubles.Refused r) failed m next = absurd failed

  pub unsaved_asks : (r : Trouble) → IsNotSaved e p h q g r → AsksFirst (commands.Invalidate e) (Err r) c d
  unsaved_asks (troubles.Mapper (faults.Save done)) failed = tt
  unsaved_asks (troubles.Mapper faults.Opening) failed = absurd failed
  unsaved_asks (troubles.Mapper (faults.Access page)) failed = absurd failed
  unsaved_asks (troubles.Mapper (faults.Page page)) failed = absurd failed
  unsaved_asks (troubles.Mapper faults.Victim) failed = absurd failed
  unsaved_asks troubles.Memory failed = absurd failed
  unsaved_asks (troubles.Refused r) failed = absurd failed
