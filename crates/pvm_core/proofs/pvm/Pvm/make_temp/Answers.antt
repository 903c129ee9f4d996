use Rattle.std.proofs.Common.{◌≡◌, ℕ, ◌+◌, ◌≤◌, [], None, length, replicate, refl, sym, ap, subst, ◌∙◌, arith}
use Rattle.std.specs.Prelude.{Result, Ok, Err, option_map}
use Rattle.std.proofs.result.Match.{err_is}
use Rattle.vm_ids.specs.Counting.{no_counts}
use Rattle.vm_ids.specs.declared.command.Command.TheVariants as commands
use Rattle.vm_ids.specs.declared.refusal.Refusal.TheVariants as refusals
use Rattle.vm_ids.specs.declared.reply.Reply.TheVariants as replies
use Rattle.vm_ids.specs.declared.reply.Trouble.TheVariants as troubles
use Rattle.vm_ids.specs.Forest.Commands.{make, page_names}
use Rattle.vm_model.specs.Answering.{answer_by}
use Rattle.vm_model.specs.Run.{AnswerIs, State}
use Rattle.local_cache.proofs.Names.Homes.{home-made_other}
use Rattle.local_cache.specs.declared.own_state.OwnState.TheVariants.{Zero}
use Rattle.pvm_core.specs.Manager.{Manager, forest_of, machine_of, numbered, state_at}
use Rattle.pvm_core.specs.contracts.pvm.Pvm.{the_view}
use Rattle.pvm_core.proofs.Answering.Answered.{answered, made_stays}
use Rattle.pvm_core.proofs.NewCaches.Roomy.{IsRoomy, roomy}
use Rattle.pvm_core.proofs.NewCaches.Begun.{begun_full, begun_right, begun_sized, begun_sound}
use Rattle.pvm_core.proofs.Answering.Kept.{seen, valid_seen, answer_seen, answer_still}
use Rattle.pvm_core.proofs.NewCaches.Making.{all_with, made_store}
use Rattle.pvm_core.proofs.NewCaches.NewCache.{answer_more, fresh_pages, many_live, many_made, temp_row, whole_more}
use Rattle.pvm_core.proofs.Meaning.Values.{followed_of}
use Rattle.pvm_core.proofs.Translating.Made.{made_right, roomy_right}
use Rattle.pvm_core.proofs.Answering.Recorded.{refused_call}
use Rattle.pvm_core.proofs.pvm.Pvm.make_temp.Goals.{After-reserve}
use Rattle.pvm_core.proofs.pvm.Pvm.make_temp.Goals as goal
use Rattle.pvm_core.proofs.pvm.Pvm.make_temp.Goals.{then-caches_made-ge-MOST_MADE-via-then-caches_made-ge-MOST_MADE, then-caches_made-ge-MOST_MADE-via-else-caches_made-ge-MOST_MADE+then-self-pages}

pub returns-then-caches_made-ge-MOST_MADE-clause-call : goal.returns-then-caches_made-ge-MOST_MADE-clause-call
returns-then-caches_made-ge-MOST_MADE-clause-call c = refused_call (
    λ h v.
    let p : Manager = the_view c.self.inside in
    let i = c.self.invariant.sound in
    answer_still h c.self.view_is (answered p p h (commands.MakeTemp c.args.pages) (Err (troubles.Refused refusals.TooMany)) i.nodes i.nodes (valid_seen c.self.view_is v) refl refl refl tt (λ f s. elim c.then-caches_made-ge-MOST_MADE.branch [
      | then-caches_made-ge-MOST_MADE-via-then-caches_made-ge-MOST_MADE w ↦ many_made p f c.args.pages (omega (arith, w.if-caches_made-ge-MOST_MADE.true, c.caches_made.ensures))
      | then-caches_made-ge-MOST_MADE-via-else-caches_made-ge-MOST_MADE+then-self-pages w ↦ many_live p f c.args.pages c.self.inside.live i.counted (omega (arith, w.if-self-pages.true))
    ])))

-- there is more room
roomier : (c : After-reserve) → IsRoomy c.self.inside.caches c.reserve.new.caches c.self.inside.store c.reserve.new.store c.self.inside.contexts c.self.inside.live
roomier c =
    let i = c.self.inside in
    let r = c.reserve.new in
    let e = c.reserve.ensures in
    roomy i.caches r.caches i.store r.store i.contexts i.live e.caches e.store e.slots e.no_less e.forest e.sound c.self.invariant.sound

pub invariant_of-self : goal.invariant_of-self
invariant_of-self c = record {
  sound = (roomier (goal.at.invariant_of-self c).After-reserve).sound;
  translated = roomy_right c.self.inside.caches c.reserve.new.caches c.self.inside.store c.reserve.new.store c.reserve.ensures.caches c.reserve.ensures.store c.self.inside.contexts c.self.invariant.translated;
}

pub returns-in_err-reserve-clause-call : goal.returns-in_err-reserve-clause-call
returns-in_err-reserve-clause-call c = record {
  valid = (
      λ h v.
      (roomier (goal.at.returns-in_err-reserve-clause-call c).After-reserve).valid h (valid_seen c.self.view_is v)
      );
  answers = (
      λ h v.
      let i = c.self.inside in
      let r = c.reserve.new in
      let p : Manager = seen i.caches i.store i.contexts in
      let q : Manager = seen r.caches r.store i.contexts in
      let room = roomier (goal.at.returns-in_err-reserve-clause-call c).After-reserve in
      let k = room.sound in
      let is : c.from_residual.result ≡ Err troubles.Memory = err_is c.from_residual.result _ c.from_residual.ensures.1 in
      answer_seen h c.self.view_is (subst (λ (r : Result _ _). AnswerIs (state_at p h) (commands.MakeTemp c.args.pages) (answer_by replies.Cache r) [] no_counts (state_at q h)) (sym is)
      (answered p q h (commands.MakeTemp c.args.pages) (Err troubles.Memory) c.self.invariant.sound.nodes k.nodes (room.valid h (valid_seen c.self.view_is v)) (room.forest h) refl refl tt (λ f s. (
        room.by f,
        tt,
        (let row = temp_row p f c.args.pages i.live c.self.invariant.sound.counted (omega (arith, c.if-caches_made-ge-MOST_MADE.false, c.caches_made.ensures)) (omega (arith, c.if-self-pages.false)) in rw row tt),
      ))))
      );
  made = λ h v. made_stays (machine_of c.args.self.now h) (commands.MakeTemp c.args.pages) (answer_by replies.Cache c.from_residual.result) (machine_of (seen c.reserve.new.caches c.reserve.new.store c.self.inside.contexts) h) (numbered c.args.self.now) (numbered (seen c.reserve.new.caches c.reserve.new.store c.self.inside.contexts)) (ap (λ a. a.made + a.copies) c.reserve.ensures.caches ∙ ap numbered c.self.view_is);
  room = refl;
}

pub invariant_of-self-2 : goal.invariant_of-self-2
invariant_of-self-2 c = record {
  sound = (
      let i = c.self.inside in
      let r = c.reserve.new in
      let e = c.reserve.ensures in
      let m = c.make_temp.ensures in
      let room = roomier (goal.at.invariant_of-self-2 c).After-reserve in
      let k = room.sound in
      begun_sound r.caches c.make_temp.new.self r.store i.contexts i.live c.args.pages c.make_temp.result m.made.0 m.made.1 m.made.2 (m.forest e.sound) (m.sound e.sound) m.stays k (omega (arith, c.if-self-pages.false))
      c.in_ok-reserve.ensures.nodes c.in_ok-reserve.ensures.capacity
      );
  translated = (
      let i = c.self.inside in
      let r = c.reserve.new in
      let e = c.reserve.ensures in
      let m = c.make_temp.ensures in
      let room = roomier (goal.at.invariant_of-self-2 c).After-reserve in
      let k = room.sound in
      made_right r.caches c.make_temp.new.self r.store c.make_temp.result c.args.pages Zero (λ f. refl) m.made.2.number m.pages m.stays m.tables (m.forest e.sound) k.nodes (m.sound e.sound) i.contexts
      (roomy_right i.caches r.caches i.store r.store e.caches e.store i.contexts c.self.invariant.translated)
      );
}

pub returns-clause-call : goal.returns-clause-call
returns-clause-call c = record {
  valid = (
      λ h v.
      let i = c.self.inside in
      let r = c.reserve.new in
      let e = c.reserve.ensures in
      let m = c.make_temp.ensures in
      let d = c.make_temp.new.self in
      let room = roomier (goal.at.returns-clause-call c).After-reserve in
      let k = room.sound in
      let p : Manager = seen r.caches r.store i.contexts in
      let q : Manager = seen d r.store i.contexts in
      let w = room.valid h (valid_seen c.self.view_is v) in
      let low : i.live + c.args.pages ≤ Rattle.vm_model.specs.declared.limits.TheConstants.LIVE_PAGES = omega (arith, c.if-self-pages.false) in
      let forest = made_store h r.caches d r.store c.make_temp.result c.args.pages m.pages m.stays (home-made_other r.caches d c.make_temp.result None Zero m.made.0 m.made.2 k.nodes.sound.kept.listed) (m.forest e.sound) e.sound (m.sound e.sound) (fresh_pages r.caches d c.make_temp.result c.args.pages m.made.0 k.nodes m.made.2) in
      record {
        right = begun_right r.caches d r.store i.contexts i.live c.args.pages c.make_temp.result m.made.0 m.made.1 m.made.2 (m.forest e.sound) (m.sound e.sound) m.stays k low c.in_ok-reserve.ensures.nodes c.in_ok-reserve.ensures.capacity h w.right;
        sized = begun_sized r.caches d r.store i.contexts i.live c.args.pages c.make_temp.result m.made.0 m.made.1 m.made.2 (m.forest e.sound) (m.sound e.sound) m.stays k low c.in_ok-reserve.ensures.nodes c.in_ok-reserve.ensures.capacity h w.sized;
        full = begun_full r.caches d r.store i.contexts i.live c.args.pages c.make_temp.result m.made.0 m.made.1 m.made.2 (m.forest e.sound) (m.sound e.sound) m.stays k low c.in_ok-reserve.ensures.nodes c.in_ok-reserve.ensures.capacity h w.full;
        whole = whole_more p q h c.make_temp.result c.args.pages m.made.0 m.made.1 m.made.2 k.actors.some (followed_of p h k.nodes k.actors.some w.whole)
            (subst (λ (b : ℕ). forest_of q h ≡ make (all_with (option_map (λ _. replicate b 0) h) (page_names c.make_temp.result 0 c.args.pages)) (forest_of p h)) (sym k.page) forest) (refl, refl, refl, refl) w.whole;
      }
      );
  answers = (
      λ h v.
      let i = c.self.inside in
      let r = c.reserve.new in
      let e = c.reserve.ensures in
      let m = c.make_temp.ensures in
      let d = c.make_temp.new.self in
      let room = roomier (goal.at.returns-clause-call c).After-reserve in
      let k = room.sound in
      let p : Manager = seen r.caches r.store i.contexts in
      let q : Manager = seen d r.store i.contexts in
      let w = room.valid h (valid_seen c.self.view_is v) in
      let forest = made_store h r.caches d r.store c.make_temp.result c.args.pages m.pages m.stays (home-made_other r.caches d c.make_temp.result None Zero m.made.0 m.made.2 k.nodes.sound.kept.listed) (m.forest e.sound) e.sound (m.sound e.sound) (fresh_pages r.caches d c.make_temp.result c.args.pages m.made.0 k.nodes m.made.2) in
      answer_seen h c.self.view_is (subst (λ (x : State). AnswerIs x (commands.MakeTemp c.args.pages) (Ok (replies.Cache c.make_temp.result)) [] no_counts (state_at q h)) (room.state h)
      (answer_more p q h c.make_temp.result c.args.pages m.made.0 m.made.1 m.made.2 k.actors.some (followed_of p h k.nodes k.actors.some w.whole)
      (subst (λ (b : ℕ). forest_of q h ≡ make (all_with (option_map (λ _. replicate b 0) h) (page_names c.make_temp.result 0 c.args.pages)) (forest_of p h)) (sym k.page) forest) (refl, refl, refl, refl)
      k.nodes i.live k.counted (omega (arith, c.if-caches_made-ge-MOST_MADE.false, c.caches_made.ensures, ap (λ a. length a.caches) e.caches)) (omega (arith, c.if-self-pages.false)) w.whole))
      );
  made = λ h v. (let m = c.make_temp.ensures.made.2 in omega (arith, m.made, m.copies, ap (λ a. a.made + a.copies) c.reserve.ensures.caches, ap numbered c.self.view_is));
  room = refl;
}
