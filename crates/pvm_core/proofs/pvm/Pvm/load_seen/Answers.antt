use Rattle.std.proofs.Common.{◌≡◌, Some, length, refl, sym, ap, subst, ◌∙◌, arith, true}
use Rattle.std.specs.Prelude.{◌%◌, Ok, take, drop}
use Rattle.vm_ids.specs.declared.command.Command.TheVariants as commands
use Rattle.vm_ids.specs.declared.reply.Reply.TheVariants as replies
use Rattle.frame_pool.specs.Pool.{bytes_of}
use Rattle.residency.specs.declared.store.Store.{Store}
use Rattle.pvm_core.specs.Access.{IsLoaded}
use Rattle.pvm_core.specs.Keeping.{SameButSeen}
use Rattle.pvm_core.specs.Translated.{found_for}
use Rattle.vm_model.specs.Answering.{Answer}
use Rattle.pvm_core.specs.Manager as managers
use Rattle.pvm_core.specs.Manager.{IsValid, Manager, machine_of, state_at}
use Rattle.pvm_core.proofs.Answering.Answered.{made_stays}
use Rattle.pvm_core.proofs.Answering.Kept.{seen, valid_seen}
use Rattle.pvm_core.proofs.Accesses.Seen.{same_seen, marked, seen_right, seen_sound, seen_valid}
use Rattle.pvm_core.proofs.Accesses.There.{IsThere, load_there, loaded_there, there_is}
use Rattle.vm_ids.specs.Counting.{no_counts}
use Rattle.gmi_calls.specs.Calling.{CallDone}
use Rattle.pvm_core.specs.Manager.{meaning}
use Rattle.pvm_core.proofs.Accesses.Parts.{quiet_answer}
use Rattle.pvm_core.proofs.pvm.Pvm.load_seen.Goals.{After-part_of, After-self, In-Some}
use Rattle.pvm_core.specs.Access.{is_ready}
use Rattle.pvm_core.proofs.Accesses.Ready.{there_ready}
use Rattle.pvm_core.proofs.pvm.Pvm.load_seen.Goals as goal

-- beside some mapper
valid_before : (c : After-self) → IsValid (seen c.self.inside.caches c.self.inside.store c.self.inside.contexts) c.requires.valid.0
valid_before c = valid_seen c.self.view_is c.requires.valid.1

-- the frame that the translation leads to
there : (c : In-Some) → IsThere c.self.inside.caches c.self.inside.store c.self.inside.contexts c.args.actor.0 c.args.address c.args.bytes c.in-Some.seen
there c =
    let i = c.self.inside in
    there_is i.caches i.store i.contexts i.live c.self.invariant.sound (valid_before (goal.at.In-Some c).After-self).right.tied.placed c.args.actor.0 c.args.address c.args.bytes c.in-Some.seen c.self.invariant.translated (sym c.translated.ensures ∙ c.in-Some.is)

pub touch-requires : goal.touch-requires
touch-requires c =
    let at = goal.at.touch-requires c in
    let k = there at.In-Some in
    let valid = valid_before at.After-self in
    omega (arith, k.below, valid.right.tied.fitted.map_frames, valid.right.tied.fitted.marks_frames)

pub part_of-requires-clause-frame : goal.part_of-requires-clause-frame
part_of-requires-clause-frame c =
    let at = goal.at.part_of-requires-clause-frame c in
    let k = there at.In-Some in
    let valid = valid_before at.After-self in
    omega (arith, k.below, valid.right.tied.fitted.map_frames, ap (λ (s : Store). length s.frames.held) c.touch.ensures)

pub part_of-requires-clause-within : goal.part_of-requires-clause-within
part_of-requires-clause-within c =
    let k = there (goal.at.part_of-requires-clause-within c).In-Some in
    omega (arith, k.fits, k.byte, c.byte_at-byte.ensures, c.self.invariant.sound.page, ap (λ (s : Store). s.frames.page) c.touch.ensures)

pub invariant_of-self : goal.invariant_of-self
invariant_of-self c =
    let i = c.self.inside in
    let only = marked i.store c.touch.new.self c.in-Some.seen.frame.0 c.touch.ensures in
    record {
      sound = seen_sound i.store c.touch.new.self only i.caches i.contexts i.live c.self.invariant.sound;
      translated = seen_right i.store c.touch.new.self only i.caches i.contexts (ap (λ (s : Store). s.tables) c.touch.ensures) c.self.invariant.translated;
    }

-- the translation is entered
led : (c : In-Some) → found_for c.self.inside.contexts.page_bytes c.self.inside.store.tables c.args.actor.0 c.args.address c.args.bytes ≡ Some c.in-Some.seen
led c = sym c.translated.ensures ∙ c.in-Some.is

-- the bytes are those in the frame
read : (c : After-part_of) → c.part_of.result ≡ take c.args.bytes (drop (c.args.address % c.self.inside.contexts.page_bytes) (bytes_of c.touch.new.self.frames c.in-Some.seen.frame.0))
read c = c.part_of.ensures.piece ∙ ap (λ byte. take c.args.bytes (drop byte (bytes_of c.touch.new.self.frames c.in-Some.seen.frame.0))) c.byte_at-byte.ensures

pub returns-in-Some-clause-call : goal.returns-in-Some-clause-call
returns-in-Some-clause-call c =
    let at = goal.at.returns-in-Some-clause-call c in
    let i = c.self.inside in
    let u = c.touch.new.self in
    let only = marked i.store u c.in-Some.seen.frame.0 c.touch.ensures in
    let p : Manager = seen i.caches i.store i.contexts in
    let q : Manager = seen i.caches u i.contexts in
    let command = commands.Load c.args.actor c.args.address c.args.bytes in
    let answer : Answer = Ok (replies.Bytes c.part_of.result) in
    subst (λ (p : Manager). CallDone meaning p command answer q) c.self.view_is (record {
      valid = λ h v. seen_valid i.store u only i.caches i.contexts h v;
      answers = λ h v. quiet_answer (state_at p h) (state_at q h) command answer
          (load_there i.caches i.store u i.contexts i.live c.self.invariant.sound c.self.invariant.translated h v c.args.actor c.args.address c.args.bytes c.in-Some.seen (led at.In-Some) only c.part_of.result (read at.After-part_of) no_counts c.part_of.ensures.length);
      made = λ h v. made_stays (machine_of p h) command answer (machine_of q h) (managers.numbered p) (managers.numbered q) refl;
      room = refl;
    })

pub returns-in-Some-clause-same : goal.returns-in-Some-clause-same
returns-in-Some-clause-same c =
    let i = c.self.inside in
    let q : Manager = seen i.caches c.touch.new.self i.contexts in
    subst (λ (p : Manager). SameButSeen p q) c.self.view_is (record { same = refl; only = marked i.store c.touch.new.self c.in-Some.seen.frame.0 c.touch.ensures })

pub returns-in-Some-clause-loaded : goal.returns-in-Some-clause-loaded
returns-in-Some-clause-loaded c = λ counts given.
    let at = goal.at.returns-in-Some-clause-loaded c in
    let i = c.self.inside in
    let only = marked i.store c.touch.new.self c.in-Some.seen.frame.0 c.touch.ensures in
    let q : Manager = seen i.caches c.touch.new.self i.contexts in
    subst (λ (p : Manager). IsLoaded counts counts given p q c.args.actor.0 c.args.address c.args.bytes c.part_of.result) c.self.view_is
    (loaded_there i.caches i.store c.touch.new.self i.contexts i.live c.self.invariant.sound c.self.invariant.translated c.requires.valid.0 (valid_before at.After-self) c.args.actor c.args.address c.args.bytes c.in-Some.seen (led at.In-Some) only c.part_of.result (read at.After-part_of) counts given (ap (λ (s : Store). s.tables) c.touch.ensures))

pub returns-clause-same : goal.returns-clause-same
returns-clause-same c = record { same = refl; only = same_seen _ }

pub returns-in-Some-clause-ready : goal.returns-in-Some-clause-ready
returns-in-Some-clause-ready c =
    let at = goal.at.returns-in-Some-clause-ready c in
    let i = c.self.inside in
    subst (λ (p : Manager). is_ready p c.args.actor.0 c.args.address ≡ true) c.self.view_is
    (there_ready i.caches i.store i.contexts i.live c.self.invariant.sound c.requires.valid.0 (valid_before at.After-self).right c.args.actor.0 c.args.address c.args.bytes c.in-Some.seen (there at.In-Some))
