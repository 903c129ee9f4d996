use Rattle.std.proofs.Common.{rules, ◌≡◌, ℕ, ◌<◌, ◌≤◌, [], Option, None, Some, length, refl, sym, ap, subst, ◌∙◌, arith}
use Rattle.std.specs.Prelude.{Err, IfSome, List, option_map}
use Rattle.pvm_core.proofs.Answering.Kept.{valid_seen, answer_still}
use Rattle.pvm_core.proofs.Answering.Reaching.{reach_none}
use Rattle.std.specs.FinMap.{get, get-empty}
use Rattle.std.specs.Ordering.{nat_cmp}
use Rattle.vm_ids.specs.Counting.{no_counts}
use Rattle.vm_ids.specs.Held.{Held}
use Rattle.vm_ids.specs.declared.command.Command.TheVariants as commands
use Rattle.vm_ids.specs.declared.refusal.Refusal.TheVariants as refusals
use Rattle.vm_ids.specs.declared.reply.FaultAt.TheVariants as faults
use Rattle.vm_ids.specs.declared.reply.Reply.TheVariants as replies
use Rattle.vm_ids.specs.declared.reply.Trouble.TheVariants as troubles
use Rattle.vm_model.specs.declared.limits.TheConstants.{MOST_MADE}
use Rattle.vm_model.specs.Answering.{Answer, answer_by}
use Rattle.vm_model.specs.Machine.{Page}
use Rattle.vm_model.specs.Run.{AnswerIs}
use Rattle.vm_model.specs.PageForest.{PageForest}
use Rattle.pvm_core.specs.Manager.{IsValid, Manager, forest_of, machine_by, machine_of, numbered, state_at}
use Rattle.pvm_core.proofs.Meaning.Shown.{shown_made}
use Rattle.pvm_core.specs.contracts.pvm.Pvm.{the_view}
use Rattle.pvm_core.proofs.Answering.Answered.{failed, made_stays, no_segments, stayed}
use Rattle.pvm_core.proofs.Opening.Refused.{may_open, outcome_over}
use Rattle.pvm_core.proofs.Opening.Rows.{in_use, many_made, none_held}
use Rattle.pvm_core.proofs.Opening.Told.{failed_rise, has_segment, no_segment, one_fault, quiet}
use Rattle.pvm_core.proofs.Answering.Recorded.{asks_quiet, refused_seen}
use Rattle.pvm_core.proofs.pvm.Pvm.open_segment.Goals as goal

-- as many caches were made as the machine has
shown_few : (p : Manager) (f : PageForest) → length p.caches.caches < MOST_MADE → length (machine_by p f).caches < MOST_MADE
shown_few p f few = omega (arith, few, shown_made f 1 p.caches.caches)

-- the size that was told
counted : (h : Option Held) (seg : ℕ) {o n : Option ℕ} → o ≡ n → IfSome h (λ k. o ≡ option_map (λ (ps : List Page). length ps) (get k.segments seg)) → IfSome h (λ k. n ≡ option_map (λ (ps : List Page). length ps) (get k.segments seg))
counted None seg e size = tt
counted (Some h) seg e size = sym e ∙ size

pub returns-then-is_opened-clause-call : goal.returns-then-is_opened-clause-call
returns-then-is_opened-clause-call g c = refused_seen c.self.view_is c.requires.valid (λ valid.
    let h : Option Held = g.M.Mapper.held c.args.mapper.now in
    let counts = g.M.Mapper.counts c.args.mapper.now in
    let p : Manager = the_view c.self.inside in
    let i = c.self.invariant.sound in
    let opened = c.is_opened.ensures.opened c.if-is_opened.true in
    failed counts counts p p h h (commands.OpenSegment c.args.seg) (Err (troubles.Refused refusals.SegmentInUse)) (reach_none (machine_of p h) h counts) i.nodes i.nodes valid refl refl tt tt
    (λ f s. in_use p f c.args.seg (get s.pages c.args.seg.0) opened.0 opened.1))

pub returns-then-caches_made-ge-MOST_MADE-clause-call : goal.returns-then-caches_made-ge-MOST_MADE-clause-call
returns-then-caches_made-ge-MOST_MADE-clause-call g c = refused_seen c.self.view_is c.requires.valid (λ valid.
    let h : Option Held = g.M.Mapper.held c.args.mapper.now in
    let counts = g.M.Mapper.counts c.args.mapper.now in
    let p : Manager = the_view c.self.inside in
    let i = c.self.invariant.sound in
    let many : MOST_MADE ≤ length p.caches.caches = omega (arith, c.if-caches_made-ge-MOST_MADE.true, c.caches_made.ensures) in
    failed counts counts p p h h (commands.OpenSegment c.args.seg) (Err (troubles.Refused refusals.TooMany)) (reach_none (machine_of p h) h counts) i.nodes i.nodes valid refl refl tt tt
    (λ f s. many_made p f c.args.seg (λ n e. c.is_opened.ensures.free c.if-is_opened.false (n, e)) (get s.pages c.args.seg.0) many))

pub returns-in-Ok-Some-clause-call : goal.returns-in-Ok-Some-clause-call
returns-in-Ok-Some-clause-call g c = record {
  valid = (
      let h : Option Held = g.M.Mapper.held c.args.mapper.now in
      subst (λ (k : Option Held). IsValid c.add_named.new.self k) (sym c.size.ensures.held)
      (c.add_named.ensures.valid h c.requires.valid
      (has_segment h (g.M.Mapper.page_bytes c.args.mapper.now) c.args.seg c.args.self.now.page_bytes c.in-Ok-Some.pages (counted h c.args.seg.0 c.in-Ok-Some.field-0-is c.in-Ok-Some.ensures.pages) (g.met.M.Mapper.sized c.args.mapper.now) c.requires.fits))
      );
  answers = (
      let h : Option Held = g.M.Mapper.held c.args.mapper.now in
      record {
        pushes = [];
        rises = no_counts;
        rose = quiet (g.M.Mapper.counts c.args.mapper.now) (g.M.Mapper.counts c.size.new.self) c.size.result c.size.ensures.counts;
        is = subst (λ (k : Option Held). AnswerIs (state_at c.args.self.now h) (commands.OpenSegment c.args.seg) (answer_by replies.Cache c.add_named.result) [] no_counts (state_at c.add_named.new.self k)) (sym c.size.ensures.held)
            (c.add_named.ensures.answers h c.requires.valid
            (has_segment h (g.M.Mapper.page_bytes c.args.mapper.now) c.args.seg c.args.self.now.page_bytes c.in-Ok-Some.pages (counted h c.args.seg.0 c.in-Ok-Some.field-0-is c.in-Ok-Some.ensures.pages) (g.met.M.Mapper.sized c.args.mapper.now) c.requires.fits));
      }
      );
  asks_first = asks_quiet (commands.OpenSegment c.args.seg) (answer_by replies.Cache c.add_named.result) (g.M.Mapper.counts c.args.mapper.now) (g.M.Mapper.counts c.size.new.self) (record { pulled = c.size.ensures.counts.pulled; pushed = c.size.ensures.counts.pushed });
  made = made_stays (machine_of c.args.self.now (g.M.Mapper.held c.args.mapper.now)) (commands.OpenSegment c.args.seg) (answer_by replies.Cache c.add_named.result) (machine_of c.add_named.new.self (g.M.Mapper.held c.size.new.self)) (numbered c.args.self.now) (numbered c.add_named.new.self) (c.add_named.ensures.made);
  room = refl;
  page = search rules;
}

pub returns-in-Ok-None-clause-call : goal.returns-in-Ok-None-clause-call
returns-in-Ok-None-clause-call g c = record {
  valid = search rules;
  answers = (
      let h : Option Held = g.M.Mapper.held c.args.mapper.now in
      let p : Manager = the_view c.self.inside in
      let i = c.self.invariant.sound in
      let answer : Answer = Err (troubles.Refused refusals.NoSegment) in
      let few : length p.caches.caches < MOST_MADE = omega (arith, c.if-caches_made-ge-MOST_MADE.false, c.caches_made.ensures) in
      record {
        pushes = [];
        rises = no_counts;
        rose = quiet (g.M.Mapper.counts c.args.mapper.now) (g.M.Mapper.counts c.size.new.self) c.size.result c.size.ensures.counts;
        is = subst (λ (k : Option Held). AnswerIs (state_at c.args.self.now h) (commands.OpenSegment c.args.seg) answer [] no_counts (state_at c.args.self.now k)) (sym c.size.ensures.held)
            (answer_still h c.self.view_is (stayed p p h (commands.OpenSegment c.args.seg) answer no_counts (valid_seen c.self.view_is c.requires.valid) refl refl tt tt
            (outcome_over p p h no_segments (commands.OpenSegment c.args.seg) answer no_counts i.nodes i.nodes
            (λ f. ap (Rattle.vm_model.specs.Answering.open_of (machine_by p f) c.args.seg.0) (get-empty nat_cmp c.args.seg.0) ∙ none_held p f c.args.seg (λ n e. c.is_opened.ensures.free c.if-is_opened.false (n, e)) few)
            (λ k e.
            ap (Rattle.vm_model.specs.Answering.open_of (machine_of p h) c.args.seg.0) (no_segment (get k.segments c.args.seg.0) (subst (λ (o : Option Held). IfSome o (λ h. None ≡ option_map (λ (ps : List Page). length ps) (get h.segments c.args.seg.0))) e (counted h c.args.seg.0 c.in-Ok-None.field-0-is c.in-Ok-None.ensures.pages)))
            ∙ none_held p (forest_of p h) c.args.seg (λ n e. c.is_opened.ensures.free c.if-is_opened.false (n, e)) few))));
      }
      );
  asks_first = record { pulled = c.size.ensures.counts.pulled; pushed = c.size.ensures.counts.pushed };
  made = search rules;
  room = refl;
  page = search rules;
}

pub returns-in-Err-clause-call : goal.returns-in-Err-clause-call
returns-in-Err-clause-call g c = record {
  valid = search rules;
  answers = (
      let h : Option Held = g.M.Mapper.held c.args.mapper.now in
      let p : Manager = the_view c.self.inside in
      let i = c.self.invariant.sound in
      let answer : Answer = Err (troubles.Mapper faults.Opening) in
      let few : length p.caches.caches < MOST_MADE = omega (arith, c.if-caches_made-ge-MOST_MADE.false, c.caches_made.ensures) in
      let counts = c.size.ensures.counts in
      record {
        pushes = [];
        rises = one_fault;
        rose = failed_rise (g.M.Mapper.counts c.args.mapper.now) (g.M.Mapper.counts c.size.new.self) c.size.result counts c.in-Err.ensures.counts.faults.failed;
        is = subst (λ (k : Option Held). AnswerIs (state_at c.args.self.now h) (commands.OpenSegment c.args.seg) answer [] one_fault (state_at c.args.self.now k)) (sym c.size.ensures.held)
            (answer_still h c.self.view_is (stayed p p h (commands.OpenSegment c.args.seg) answer one_fault (valid_seen c.self.view_is c.requires.valid) refl refl tt tt
            (outcome_over p p h no_segments (commands.OpenSegment c.args.seg) answer one_fault i.nodes i.nodes
            (λ f. (refl, omega arith, shown_few p f few, may_open p f c.args.seg (c.is_opened.ensures.free c.if-is_opened.false) few (get no_segments.pages c.args.seg.0)))
            (λ k e. (refl, omega arith, shown_few p (forest_of p h) few, may_open p (forest_of p h) c.args.seg (c.is_opened.ensures.free c.if-is_opened.false) few (get k.segments c.args.seg.0))))));
      }
      );
  asks_first = tt;
  made = search rules;
  room = refl;
  page = search rules;
}
