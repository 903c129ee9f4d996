use Rattle.std.proofs.Common.{◌≡◌, ℕ, List, Option, ◌<◌, true, Some, length, refl, sym, ap, subst, ◌∙◌, arith}
use Rattle.std.specs.Prelude.{Ok, IfSome, IsSomeAnd, slice_set}
use Rattle.vm_ids.specs.declared.command.Command.TheVariants as commands
use Rattle.vm_ids.specs.declared.reply.Reply.TheVariants as replies
use Rattle.frame_pool.specs.Pool.{bytes_of, with_bytes}
use Rattle.vm_ids.specs.declared.numbers.FrameId.{FrameId}
use Rattle.vm_ids.specs.declared.numbers.NodeId.{NodeId}
use Rattle.global_map.specs.Pairs.{node_of}
use Rattle.local_cache.specs.declared.own_state.OwnState.TheVariants.{Resident}
use Rattle.local_cache.specs.Arena.{Arena, HasNode, put, with_own}
use Rattle.vm_model.specs.Answering.{overwrite}
use Rattle.pvm_core.specs.Manager.{IsValid, Manager, state_at}
use Rattle.pvm_core.specs.Translated.{AreTranslationsRight, found_for, frame_to_write}
use Rattle.segment_ops.specs.Access.{GrantsStay}
use Rattle.pvm_core.proofs.Answering.Ended.{Ended}
use Rattle.pvm_core.proofs.Answering.Kept.{seen, valid_seen}
use Rattle.pvm_core.proofs.Accesses.Asked.{same_tables}
use Rattle.pvm_core.proofs.Accesses.There.{IsThere, there_is}
use Rattle.pvm_core.proofs.Accesses.Written.{IsWritten, is_written, written_answer, written_copies, written_made, written_sound, written_translated, written_valid}
use Rattle.vm_ids.specs.Counting.{no_counts}
use Rattle.vm_ids.specs.Held.{Held}
use Rattle.gmi_calls.specs.Calling.{CallDone}
use Rattle.pvm_core.specs.Manager.{meaning}
use Rattle.pvm_core.proofs.Accesses.Parts.{quiet_answer}
use Rattle.pvm_core.proofs.pvm.Pvm.store_seen.Goals.{After-self, After-write_found, In-Some}
use Rattle.pvm_core.specs.Access.{is_page_at_hand, is_ready}
use Rattle.pvm_core.proofs.Accesses.Ready.{there_ready, seen_no_more, seen_admits}
use Rattle.pvm_core.proofs.Accesses.Written.{written_hands, written_tables}
use Rattle.pvm_core.proofs.pvm.Pvm.store_seen.Goals as goal

-- beside some mapper
valid_before : (c : After-self) → IsValid (seen c.self.inside.caches c.self.inside.store c.self.inside.contexts) c.requires.valid.0
valid_before c = valid_seen c.self.view_is c.requires.valid.1

-- a translation for writing leads to the page
led : (c : In-Some) → IsWritten (found_for c.self.inside.contexts.page_bytes c.self.inside.store.tables c.args.actor.0 c.args.address (length c.args.piece.now)) c.in-Some.frame
led c =
    let i = c.self.inside in
    is_written (found_for i.contexts.page_bytes i.store.tables c.args.actor.0 c.args.address (length c.args.piece.now)) c.in-Some.frame
    (sym c.in-Some.is ∙ c.translated_for_writing.ensures ∙ ap (λ (xs : List ℕ). frame_to_write (found_for i.contexts.page_bytes i.store.tables c.args.actor.0 c.args.address (length xs))) c.as_slice-bytes.ensures.bytes)

there : (c : In-Some) → IsThere c.self.inside.caches c.self.inside.store c.self.inside.contexts c.args.actor.0 c.args.address (length c.args.piece.now) (led c).to
there c =
    let i = c.self.inside in
    there_is i.caches i.store i.contexts i.live c.self.invariant.sound (valid_before (goal.at.In-Some c).After-self).right.tied.placed c.args.actor.0 c.args.address (length c.args.piece.now) (led c).to c.self.invariant.translated (led c).is

-- its frame is one of those that are mapped
below : (c : In-Some) → c.in-Some.frame.0 < length c.self.inside.store.map
below c =
    let k = there c in
    let here = ap (λ (x : FrameId). x.0) (led c).frame in
    omega (arith, here, k.below)

-- and has a node
node_is : (c : In-Some) → node_of c.self.inside.store.map c.in-Some.frame.0 ≡ Some (there c).owner
node_is c = ap (λ (x : FrameId). node_of c.self.inside.store.map x.0) (sym (led c).frame) ∙ (there c).bound

pub write_found-requires-clause-map : goal.write_found-requires-clause-map
write_found-requires-clause-map c = below (goal.at.write_found-requires-clause-map c).In-Some

pub write_found-requires-clause-node : goal.write_found-requires-clause-node
write_found-requires-clause-node c =
    let at = (goal.at.write_found-requires-clause-node c).In-Some in
    subst (λ (o : Option NodeId). IsSomeAnd o (HasNode c.self.inside.caches)) (sym (node_is at)) (there at).owns.held

pub write_found-requires-clause-frame : goal.write_found-requires-clause-frame
write_found-requires-clause-frame c =
    let at = goal.at.write_found-requires-clause-frame c in
    let valid = valid_before at.After-self in
    omega (arith, below at.In-Some, valid.right.tied.fitted.map_frames)

pub write_found-requires-clause-mark : goal.write_found-requires-clause-mark
write_found-requires-clause-mark c =
    let at = goal.at.write_found-requires-clause-mark c in
    let valid = valid_before at.After-self in
    omega (arith, below at.In-Some, valid.right.tied.fitted.map_frames, valid.right.tied.fitted.marks_frames)

pub write_found-requires-clause-within : goal.write_found-requires-clause-within
write_found-requires-clause-within c =
    let k = there (goal.at.write_found-requires-clause-within c).In-Some in
    omega (arith, k.fits, k.byte, c.byte_at-byte.ensures, c.self.invariant.sound.page, ap (λ (xs : List ℕ). length xs) c.as_slice-bytes.ensures.bytes)

-- the piece is written there, whatever the mapper holds
written : (c : After-write_found) (h : Option Held) → IsValid (seen c.self.inside.caches c.self.inside.store c.self.inside.contexts) h
    → Ended (seen c.self.inside.caches c.self.inside.store c.self.inside.contexts) c.write_found.new.caches c.write_found.new.store c.self.inside.contexts c.self.inside.live h h no_counts no_counts (commands.Store c.args.actor c.args.address c.args.piece.now) (Ok replies.Done)
    × AreTranslationsRight c.write_found.new.caches c.write_found.new.store c.self.inside.contexts
    × (c.write_found.new.caches.copies ≡ c.self.inside.caches.copies)
written c h valid =
    let places = goal.at.After-write_found c in
    let i = c.self.inside in
    let all = c.self.invariant.translated in
    let sound = c.self.invariant.sound in
    let p : Manager = seen i.caches i.store i.contexts in
    let f = led places.In-Some in
    let k = there places.In-Some in
    let u = c.write_found.new.store in
    let caches : c.write_found.new.caches ≡ with_own i.caches k.owner (Resident true)
    = subst (λ (o : Option NodeId). IfSome o (λ n. c.write_found.new.caches ≡ with_own i.caches n (Resident true))) (node_is places.In-Some) c.write_found.ensures.dirty in
    let put = c.write_found.ensures.written ∙ (λ j. record i.store {
      frames = with_bytes i.store.frames (sym f.frame j).0 (overwrite (c.byte_at-byte.ensures j) (c.as_slice-bytes.ensures.bytes j) (bytes_of i.store.frames (sym f.frame j).0));
      marks = slice_set i.store.marks (sym f.frame j).0 true;
    }) in
    let copies = written_copies i.caches i.store i.contexts i.live sound all h valid c.args.actor c.args.address c.args.piece.now f.to k f.writable in
    let made = written_made i.caches i.store i.contexts i.live sound all h valid c.args.actor c.args.address c.args.piece.now f.to k f.writable in
    subst (λ (b : Arena). Ended p b u i.contexts i.live h h no_counts no_counts (commands.Store c.args.actor c.args.address c.args.piece.now) (Ok replies.Done) × AreTranslationsRight b u i.contexts × (b.copies ≡ p.caches.copies)) (sym caches) (
      record {
        sound = written_sound i.caches i.store i.contexts i.live sound all h valid c.args.actor c.args.address c.args.piece.now f.to k f.writable u put;
        valid = written_valid i.caches i.store i.contexts i.live sound all h valid c.args.actor c.args.address c.args.piece.now f.to k f.writable u put no_counts;
        answers = written_answer i.caches i.store i.contexts i.live sound all h valid c.args.actor c.args.address c.args.piece.now f.to k f.writable u put no_counts;
        made = omega (arith, copies, made);
      },
      written_translated i.caches i.store i.contexts i.live sound all h valid c.args.actor c.args.address c.args.piece.now f.to k f.writable u put,
      copies,
    )

pub invariant_of-self : goal.invariant_of-self
invariant_of-self c =
    let at = goal.at.invariant_of-self c in
    let w = written at.After-write_found c.requires.valid.0 (valid_before at.After-self) in
    record { sound = w.0.sound; translated = w.1 }

pub returns-in-Some-clause-call : goal.returns-in-Some-clause-call
returns-in-Some-clause-call c = λ _.
    let at = (goal.at.returns-in-Some-clause-call c).After-write_found in
    let i = c.self.inside in
    let p : Manager = seen i.caches i.store i.contexts in
    let q : Manager = seen c.write_found.new.caches c.write_found.new.store i.contexts in
    let command = commands.Store c.args.actor c.args.address c.args.piece.now in
    subst (λ (p : Manager). CallDone meaning p command (Ok replies.Done) q) c.self.view_is (record {
      valid = λ h v. (written at h v).0.valid;
      answers = λ h v. quiet_answer (state_at p h) (state_at q h) command (Ok replies.Done) (written at h v).0.answers;
      made = λ h v. (written at h v).0.made;
      room = refl;
    })

pub returns-in-Some-clause-copies : goal.returns-in-Some-clause-copies
returns-in-Some-clause-copies c =
    let at = goal.at.returns-in-Some-clause-copies c in
    subst (λ (p : Manager). c.write_found.new.caches.copies ≡ p.caches.copies) c.self.view_is (written at.After-write_found c.requires.valid.0 (valid_before at.After-self)).2

pub returns-in-Some-clause-grants : goal.returns-in-Some-clause-grants
unfolding put
returns-in-Some-clause-grants c =
    let places = goal.at.returns-in-Some-clause-grants c in
    let caches : c.write_found.new.caches ≡ with_own c.self.inside.caches (there places.In-Some).owner (Resident true)
    = subst (λ (o : Option NodeId). IfSome o (λ n. c.write_found.new.caches ≡ with_own c.self.inside.caches n (Resident true))) (node_is places.In-Some) c.write_found.ensures.dirty in
    subst (λ (p : Manager). GrantsStay p.caches c.write_found.new.caches) c.self.view_is (same_tables c.self.inside.caches c.write_found.new.caches (ap (λ (a : Arena). a.caches) caches))

-- Accesses that are ready, and admitted

pub returns-in-Some-clause-ready : goal.returns-in-Some-clause-ready
returns-in-Some-clause-ready c = λ _.
    let at = goal.at.returns-in-Some-clause-ready c in
    let i = c.self.inside in
    subst (λ (p : Manager). is_ready p c.args.actor.0 c.args.address ≡ true) c.self.view_is
    (there_ready i.caches i.store i.contexts i.live c.self.invariant.sound c.requires.valid.0 (valid_before at.After-self).right c.args.actor.0 c.args.address (length c.args.piece.now) (led at.In-Some).to (there at.In-Some))

caches_then : (c : After-write_found) → c.write_found.new.caches ≡ with_own c.self.inside.caches (there (goal.at.After-write_found c).In-Some).owner (Resident true)
caches_then c = subst (λ (o : Option NodeId). IfSome o (λ n. c.write_found.new.caches ≡ with_own c.self.inside.caches n (Resident true))) (node_is (goal.at.After-write_found c).In-Some) c.write_found.ensures.dirty

pub returns-in-Some-clause-no_more : goal.returns-in-Some-clause-no_more
returns-in-Some-clause-no_more c =
    let at = goal.at.returns-in-Some-clause-no_more c in
    let i = c.self.inside in
    let f = led at.In-Some in
    seen_no_more i.caches c.write_found.new.caches i.store c.write_found.new.store i.contexts c.self.view_is (λ x e.
    written_hands i.caches i.store i.contexts i.live c.self.invariant.sound c.self.invariant.translated c.requires.valid.0 (valid_before at.After-self) c.args.actor c.args.address c.args.piece.now f.to (there at.In-Some) f.writable x
    (subst (λ (a : Arena). is_page_at_hand a x ≡ true) (caches_then at.After-write_found) e))

pub returns-in-Some-clause-admits : goal.returns-in-Some-clause-admits
returns-in-Some-clause-admits c =
    let at = goal.at.returns-in-Some-clause-admits c in
    let i = c.self.inside in
    let f = led at.In-Some in
    let tables : c.write_found.new.caches.caches ≡ i.caches.caches = ap (λ (a : Arena). a.caches) (caches_then at.After-write_found)
    ∙ written_tables i.caches i.store i.contexts i.live c.self.invariant.sound c.self.invariant.translated c.requires.valid.0 (valid_before at.After-self) c.args.actor c.args.address c.args.piece.now f.to (there at.In-Some) f.writable in
    seen_admits i.caches c.write_found.new.caches i.store c.write_found.new.store i.contexts c.self.view_is tables
