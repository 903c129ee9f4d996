-- A span whose destination was made ready: the manager that stands for the same may carry out the
-- copy or the move.
use Rattle.std.proofs.Common.{◌≡◌, ℕ, ◌+◌, ◌*◌, ◌≤◌, ◌^◌, List, Option, Some, None, length, false, refl, sym, subst, ◌∙◌, arith}
use Rattle.vm_ids.specs.Counting.{MapperCounts}
use Rattle.std.specs.Prelude.{Ok}
use Rattle.vm_ids.specs.Held.{Held, Segments, segments_of}
use Rattle.vm_ids.specs.declared.command.Command.{Command}
use Rattle.vm_ids.specs.declared.command.Extent.{Extent}
use Rattle.vm_ids.specs.declared.command.Span.{Span}
use Rattle.vm_ids.specs.declared.node_name.NodeName.{NodeName}
use Rattle.vm_ids.specs.declared.reply.Reply.TheVariants as replies
use Rattle.vm_ids.specs.Forest.Commands.{firsts, span_pairs}
use Rattle.vm_ids.specs.Forest.NameLists.{◌∈◌}
use Rattle.local_cache.specs.Arena.{Arena, locks_of}
use Rattle.local_cache.specs.Whole.{IsWhole, size_of}
use Rattle.local_cache.proofs.Nodes.Count.{forest_len}
use Rattle.residency.specs.declared.store.Store.{Store}
use Rattle.page_commands.specs.Commands.{CanReplace, CanTransfer, HasRoom, KeepsPages}
use Rattle.page_commands.specs.Homes.{AreAllSaved}
use Rattle.page_commands.specs.Steps.{IsStoreTied, Kept, StaysRight}
use Rattle.page_commands.proofs.TiedStores.Tied.{tied_right}
use Rattle.page_commands.proofs.CommandSteps.Ranges.{destination_names}
use Rattle.vm_model.specs.Answering.{is_any_denied}
use Rattle.vm_model.specs.Following.{forest_after}
use Rattle.vm_model.specs.Machine.{Machine}
use Rattle.vm_model.specs.Outcome.{OutcomeAt}
use Rattle.contexts.specs.Actors.{Actors}
use Rattle.pvm_core.specs.Locks.{any_locked, locks_over}
use Rattle.pvm_core.specs.Manager.{IsManagerSound, IsValid, Manager, forest_of, machine_of, numbered}
use Rattle.pvm_core.specs.Saving.{CopiesSaved, IsMadeReady, KeepsMachine, is_named}
use Rattle.pvm_core.specs.Spans.{replaced}
use Rattle.pvm_core.proofs.Accesses.Loading.{size_le}
use Rattle.pvm_core.proofs.Answering.Answered.{call_is}
use Rattle.pvm_core.proofs.Answering.Changed.{changed_sound, slots_enough}
use Rattle.pvm_core.proofs.Answering.Ended.{Ended}
use Rattle.pvm_core.proofs.Answering.Kept.{seen, valid_seen}
use Rattle.pvm_core.proofs.Answering.Rising.{rises_between}
use Rattle.pvm_core.proofs.Holding.Counted.{same_locked}
use Rattle.pvm_core.proofs.Holding.Kept.{held_released}
use Rattle.pvm_core.proofs.Holding.Loose.{unpinned_names, working_unpinned}
use Rattle.pvm_core.proofs.Meaning.Live.{nodes_most}
use Rattle.pvm_core.proofs.Readiness.Copies.{range_copied}
use Rattle.pvm_core.proofs.Spanning.Reserved.{can_copy}
use Rattle.pvm_core.proofs.Spanning.SpanRows.{IsOpen}
use Rattle.pvm_core.proofs.Spanning.Transferring.{IsTransfer, names_written, undenied_range}

-- from p to the manager with these caches, this store and these actors, with room for so many nodes
pub record IsReadied (p : Manager) (h g : Option Held) (c d : MapperCounts) (a : Arena) (s : Store) (t : Actors) (span : Span) (nodes : ℕ) : Type 0 where
  pub valid : IsValid (seen a s t) g
  pub tied : IsStoreTied s a
  pub keeps : KeepsMachine p (seen a s t) h g c d
  pub ready : IsMadeReady (replaced span) nodes p (seen a s t) h g
  pub out : IsOpen (size_of a span.from.0) (size_of a span.to.0) (any_locked a (replaced span)) span

module _ (p : Manager) (h g : Option Held) (c d : MapperCounts) (a : Arena) (s : Store) (t : Actors) (live : ℕ) (sound : IsManagerSound a s t live) (span : Span) (nodes : ℕ) where
  -- from p, which the call that readied the range of these pages knows as old, and by q, as it left
  -- the manager
  pub readied : (old q : Manager) → p ≡ old → seen a s t ≡ q → (range : Extent) → range ≡ replaced span → ((cache page : ℕ) → locks_of p.caches cache page ≡ locks_over p.actors cache page)
      → IsOpen (size_of p.caches span.from.0) (size_of p.caches span.to.0) (any_locked p.caches (replaced span)) span → IsValid q g → KeepsMachine old q h g c d → IsMadeReady range nodes old q h g → IsReadied p h g c d a s t span nodes
  readied old q view back range is counted out now kept fit =
      let valid = valid_seen back now in
      let keeps = subst (λ (m : Manager). KeepsMachine p m h g c d) (sym back) (subst (λ (m : Manager). KeepsMachine m q h g c d) (sym view) kept) in
      record {
        valid = valid;
        tied = tied_right g None a s valid.right;
        keeps = keeps;
        ready = subst (λ (e : Extent). IsMadeReady e nodes p (seen a s t) h g) is (subst (λ (m : Manager). IsMadeReady range nodes p m h g) (sym back) (subst (λ (m : Manager). IsMadeReady range nodes m q h g) (sym view) fit));
        out = record {
          from = out.from;
          to = out.to;
          from_is = keeps.same.sizes span.from.0 ∙ out.from_is;
          to_is = keeps.same.sizes span.to.0 ∙ out.to_is;
          from_ends = out.from_ends;
          to_ends = out.to_ends;
          apart = out.apart;
          unlocked = same_locked p (seen a s t) counted sound.locked.counted keeps.by (replaced span) ∙ out.unlocked;
        };
      }

  module _ (many : nodes ≤ 2 * span.pages) (r : IsReadied p h g c d a s t span nodes) where
    within : span.from_page.0 + span.pages ≤ live
    within =
        let out = r.out in
        omega (arith, sound.counted, size_le a span.from.0 out.from out.from_is, out.from_ends)

    pub readied_transfer : CanTransfer span a
    readied_transfer =
        let out = r.out in
        record {
          can = can_copy a sound.nodes span out;
          granted = names_written a span r.ready.writable;
          within = (omega (arith, sound.few, within), omega (arith, sound.few, sound.counted, size_le a span.to.0 out.to out.to_is, out.to_ends));
        }

    pub readied_replace : numbered p ≤ 2 ^ 62 → CanReplace nodes span.to (firsts (span_pairs span)) s a
    readied_replace made = record {
      retire = record {
        tied = r.tied;
        whole = sound.nodes;
        unpinned = λ x is. unpinned_names a s t.actors sound.locked (replaced span) r.out.unlocked x (subst (λ (xs : List NodeName). x ∈ xs) (destination_names span) is);
        made = omega (arith, r.keeps.made, made, sound.few, many, within);
      };
      saved = subst (AreAllSaved a span.to) (sym (destination_names span)) r.ready.saved_now;
      working = working_unpinned a s t.actors sound.locked;
    }

    pub readied_room : HasRoom nodes a
    readied_room = record {
      room = r.ready.room;
      few = omega (arith, forest_len a, nodes_most sound, sound.few, many, within);
    }

    -- the mapper denies the write of none of the pages
    pub undenied_then : (sg : Segments) → segments_of g ≡ Some sg → is_any_denied (machine_of (seen a s t) g) sg span ≡ false
    undenied_then sg e = undenied_range (seen a s t) g sound.nodes r.valid.right span r.out.to r.out.to_is r.out.to_ends r.ready.writable (forest_of (seen a s t) g) g sg refl e

    -- by these caches and this store the copy or the move was carried out
    module _ (b : Arena) (u : Store) (kept : Kept (firsts (span_pairs span)) s a u b) (pages : KeepsPages nodes s a u b) where
      pub transferred_right : StaysRight s a u b
      transferred_right = pages.right (slots_enough a b s u t live sound kept.sizes kept.gives_back r.tied pages.whole)

      pub transferred : (old : Manager) → p ≡ old → IsWhole p.caches → (command : Command) → IsTransfer p span command → IsValid (seen b u t) g
          → OutcomeAt (segments_of g) (machine_of (seen a s t) g) (Some (forest_of p h)) command (Ok replies.Done) (machine_of (seen b u t) g) (rises_between (length r.keeps.reach.pushes) c d)
          → forest_of (seen b u t) g ≡ forest_after (forest_of p h) (machine_of p h) command (Ok replies.Done) (machine_of (seen b u t) g)
          → Ended old b u t live h g c d command (Ok replies.Done) × CopiesSaved (replaced span) old h (seen b u t) (Ok tt)
      transferred old view whole command T now outcome follows =
          let z : Manager = seen b u t in
          let rises = rises_between (length r.keeps.reach.pushes) c d in
          let saves = range_copied p (seen a s t) h g (replaced span) whole (is_named p.caches span.to.0) r.ready.forest in
          let touched = T.touched (machine_of p h) in
          subst (λ (p : Manager). Ended p b u t live h g c d command (Ok replies.Done) × CopiesSaved (replaced span) p h z (Ok tt)) view (
            record {
              sound = changed_sound a b s u t live sound kept.sizes kept.gives_back r.tied pages.whole pages.settles.bounded (held_released _ a b s u kept r.tied t sound.nodes sound.actors sound.locked);
              valid = now;
              answers = call_is c d p z h g command (Ok replies.Done) r.keeps.reach now (T.reaches rises) (T.quiet (machine_of p h) (segments_of g) (Ok replies.Done)) follows
                  (subst (λ (m : Machine). OutcomeAt (segments_of g) m (Some (forest_of p h)) command (Ok replies.Done) (machine_of z g) rises) r.keeps.machine outcome);
              made = omega (arith, pages.settles.made, pages.settles.copies, r.keeps.made, saves.1, touched, many);
            },
            pages.settles.copies ∙ saves.0,
          )
