use Rattle.std.proofs.Common.{◌≡◌, ℕ, ◌<◌, [], Option, Some, length, refl, sym, ap, subst, ◌∙◌, arith}
use Rattle.std.specs.Prelude.{Result, Ok, Err}
use Rattle.vm_ids.specs.Held.{Held}
use Rattle.std.proofs.result.Match.{err_is}
use Rattle.vm_ids.specs.Counting.{no_counts}
use Rattle.vm_ids.specs.declared.command.Command.TheVariants as commands
use Rattle.vm_ids.specs.declared.reply.Reply.TheVariants as replies
use Rattle.vm_ids.specs.declared.reply.Trouble.TheVariants as troubles
use Rattle.vm_model.specs.Answering.{answer_by}
use Rattle.vm_model.specs.Run.{AnswerIs, State}
use Rattle.pvm_core.specs.Manager.{Manager, state_at}
use Rattle.pvm_core.specs.Opening.{HasSegment, IsOpened}
use Rattle.local_cache.specs.declared.own_state.OwnState.TheVariants.{OnSegment}
use Rattle.local_cache.specs.Arena.{Arena}
use Rattle.local_cache.specs.Whole.{segment_of}
use Rattle.vm_ids.specs.declared.numbers.SegId.{SegId}
use Rattle.vm_model.specs.declared.limits.TheConstants.{MOST_MADE}
use Rattle.pvm_core.specs.contracts.pvm.Pvm.{the_view}
use Rattle.pvm_core.proofs.NewCaches.Roomy.{IsRoomy, roomy}
use Rattle.pvm_core.proofs.NewCaches.Ungranted.{ungranted}
use Rattle.pvm_core.proofs.Answering.Kept.{seen, valid_seen, answer_seen, answer_still}
use Rattle.pvm_core.proofs.Opening.Named.{named_answer, named_sound, named_valid}
use Rattle.pvm_core.proofs.Opening.Refused.{lacking, too_many}
use Rattle.pvm_core.proofs.Translating.Made.{made_right, roomy_right}
use Rattle.pvm_core.proofs.pvm.Pvm.add_named.Goals.{After-reserve}
use Rattle.pvm_core.proofs.pvm.Pvm.add_named.Goals as goal

-- what is asked of the caches, of the manager as it is seen
free_of : {p q : Manager} {seg : SegId} → p ≡ q → (IsOpened q.caches seg → ⊥) → IsOpened p.caches seg → ⊥
free_of {seg = seg} e free = subst (λ (p : Manager). IsOpened p.caches seg → ⊥) (sym e) free

few_of : {p q : Manager} → p ≡ q → length q.caches.caches < MOST_MADE → length p.caches.caches < MOST_MADE
few_of e few = subst (λ (p : Manager). length p.caches.caches < MOST_MADE) (sym e) few

has_of : (h : Option Held) (seg : SegId) (n : ℕ) {p q : Manager} → p ≡ q → HasSegment h seg q.page_bytes n → HasSegment h seg p.page_bytes n
has_of h seg n e has = subst (λ (p : Manager). HasSegment h seg p.page_bytes n) (sym e) has

-- and after room was taken
free_in : (a b : Arena) {seg : SegId} → b ≡ record a { room = b.room } → (IsOpened a seg → ⊥) → IsOpened b seg → ⊥
free_in a b {seg} e free opened = free (opened.0, ap (λ (k : Arena). segment_of k opened.0) (sym e) ∙ opened.1)

few_in : (a b : Arena) → b ≡ record a { room = b.room } → length a.caches < MOST_MADE → length b.caches < MOST_MADE
few_in a b e few = omega (arith, few, ap (λ (k : Arena). length k.caches) e)

pub returns-then-self-pages-clause-answers : goal.returns-then-self-pages-clause-answers
returns-then-self-pages-clause-answers c = λ h v has.
    let p : Manager = the_view c.self.inside in
    let i = c.self.invariant.sound in
    answer_still h c.self.view_is (too_many p p h c.args.seg c.args.pages (free_of c.self.view_is c.requires.free) (few_of c.self.view_is c.requires.few)
    (has_of h c.args.seg c.args.pages c.self.view_is has) i.nodes i.nodes (valid_seen c.self.view_is v) refl (λ f. refl) c.self.inside.live i.counted (omega (arith, c.if-self-pages.true)))

-- there is more room
roomier : (c : After-reserve) → IsRoomy c.self.inside.caches c.reserve.new.caches c.self.inside.store c.reserve.new.store c.self.inside.contexts c.self.inside.live
roomier c =
    let i = c.self.inside in
    let r = c.reserve.new in
    let e = c.reserve.ensures in
    roomy i.caches r.caches i.store r.store i.contexts i.live e.caches e.store e.slots e.no_less e.forest e.sound c.self.invariant.sound

pub invariant_of-self : goal.invariant_of-self
invariant_of-self c = record {
  sound = (roomier (goal.at.invariant_of-self c).After-reserve).sound;
  translated = roomy_right c.self.inside.caches c.reserve.new.caches c.self.inside.store c.reserve.new.store c.reserve.ensures.caches c.reserve.ensures.store c.self.inside.contexts c.self.invariant.translated;
}

pub returns-in_err-reserve-clause-valid : goal.returns-in_err-reserve-clause-valid
returns-in_err-reserve-clause-valid c = λ h v has.
    (roomier (goal.at.returns-in_err-reserve-clause-valid c).After-reserve).valid h (valid_seen c.self.view_is v)

pub returns-in_err-reserve-clause-answers : goal.returns-in_err-reserve-clause-answers
returns-in_err-reserve-clause-answers c = λ h v has.
    let i = c.self.inside in
    let r = c.reserve.new in
    let p : Manager = seen i.caches i.store i.contexts in
    let q : Manager = seen r.caches r.store i.contexts in
    let room = roomier (goal.at.returns-in_err-reserve-clause-answers c).After-reserve in
    let k = room.sound in
    let is : c.from_residual.result ≡ Err troubles.Memory = err_is c.from_residual.result _ c.from_residual.ensures.1 in
    answer_seen h c.self.view_is (subst (λ (r : Result _ _). AnswerIs (state_at p h) (commands.OpenSegment c.args.seg) (answer_by replies.Cache r) [] no_counts (state_at q h)) (sym is)
    (lacking p q h c.args.seg c.args.pages (free_of c.self.view_is c.requires.free) (few_of c.self.view_is c.requires.few)
    (has_of h c.args.seg c.args.pages c.self.view_is has) c.self.invariant.sound.nodes k.nodes
    (room.valid h (valid_seen c.self.view_is v))
    (room.forest h)
    (room.by)
    i.live c.self.invariant.sound.counted (omega (arith, c.if-self-pages.false))))

pub invariant_of-self-2 : goal.invariant_of-self-2
invariant_of-self-2 c = record {
  sound = (
      let i = c.self.inside in
      let r = c.reserve.new in
      let e = c.reserve.ensures in
      let m = c.make_named.ensures in
      let room = roomier (goal.at.invariant_of-self-2 c).After-reserve in
      let k = room.sound in
      named_sound r.caches c.make_named.new.self r.store i.contexts i.live c.args.pages c.make_named.result c.args.seg m.made.0 m.made.1 m.made.2 m.pages m.stays (m.forest e.sound) (m.sound e.sound) k
      (free_in i.caches r.caches c.reserve.ensures.caches (free_of c.self.view_is c.requires.free)) (omega (arith, c.if-self-pages.false)) c.in_ok-reserve.ensures.capacity
      );
  translated = (
      let i = c.self.inside in
      let r = c.reserve.new in
      let e = c.reserve.ensures in
      let m = c.make_named.ensures in
      let room = roomier (goal.at.invariant_of-self-2 c).After-reserve in
      let k = room.sound in
      made_right r.caches c.make_named.new.self r.store c.make_named.result c.args.pages OnSegment (λ f. refl) m.made.2.number m.pages m.stays m.tables (m.forest e.sound) k.nodes (m.sound e.sound) i.contexts
      (roomy_right i.caches r.caches i.store r.store e.caches e.store i.contexts c.self.invariant.translated)
      );
}

pub returns-clause-valid : goal.returns-clause-valid
returns-clause-valid c = λ h v has.
    let i = c.self.inside in
    let r = c.reserve.new in
    let e = c.reserve.ensures in
    let m = c.make_named.ensures in
    let room = roomier (goal.at.returns-clause-valid c).After-reserve in
    let k = room.sound in
    let w = room.valid h (valid_seen c.self.view_is v) in
    named_valid r.caches c.make_named.new.self r.store i.contexts i.live c.args.pages c.make_named.result c.args.seg m.made.0 m.made.1 m.made.2 m.pages m.stays (m.forest e.sound) (m.sound e.sound) k
    (free_in i.caches r.caches c.reserve.ensures.caches (free_of c.self.view_is c.requires.free)) (omega (arith, c.if-self-pages.false)) c.in_ok-reserve.ensures.capacity h w (has_of h c.args.seg c.args.pages c.self.view_is has)

pub returns-clause-answers : goal.returns-clause-answers
returns-clause-answers c = λ h v has.
    let i = c.self.inside in
    let r = c.reserve.new in
    let e = c.reserve.ensures in
    let m = c.make_named.ensures in
    let room = roomier (goal.at.returns-clause-answers c).After-reserve in
    let k = room.sound in
    let q : Manager = seen c.make_named.new.self r.store i.contexts in
    let w = room.valid h (valid_seen c.self.view_is v) in
    answer_seen h c.self.view_is (subst (λ (x : State). AnswerIs x (commands.OpenSegment c.args.seg) (Ok (replies.Cache c.make_named.result)) [] no_counts (state_at q h)) (room.state h)
    (named_answer r.caches c.make_named.new.self r.store i.contexts i.live c.args.pages c.make_named.result c.args.seg m.made.0 m.made.1 m.made.2 m.pages m.stays (m.forest e.sound) (m.sound e.sound) k
    (free_in i.caches r.caches c.reserve.ensures.caches (free_of c.self.view_is c.requires.free)) (omega (arith, c.if-self-pages.false)) c.in_ok-reserve.ensures.capacity h w (has_of h c.args.seg c.args.pages c.self.view_is has) (few_in i.caches r.caches c.reserve.ensures.caches (few_of c.self.view_is c.requires.few))))

pub returns-clause-grants : goal.returns-clause-grants
returns-clause-grants c = let made = c.make_named.ensures.made in ungranted c.reserve.new.caches c.make_named.new.self c.make_named.result (Some c.args.seg) OnSegment made.0 made.2
