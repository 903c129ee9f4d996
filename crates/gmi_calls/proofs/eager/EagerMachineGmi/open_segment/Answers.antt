use Rattle.std.proofs.Common.{◌≡◌, ℕ, List, Vec, Global, Some, Ok, Err, length, map, sym, ap, subst, ◌∙◌}
use Rattle.std.proofs.result.Match.{err_is}
use Rattle.std.specs.Prelude.{All, IfSome, Result}
use Rattle.vm_port.specs.declared.traits.failed.Failed.{Failed}
use Rattle.gmi_calls.specs.Reaching.{ArePagesOf}
use Rattle.std.proofs.lemmas.List.{length-map, with_items_is}
use Rattle.std.specs.Vec.{with_items}
use Rattle.vm_ids.specs.Counting.{MapperCounts}
use Rattle.vm_ids.specs.declared.command.Command.TheVariants as commands
use Rattle.vm_ids.specs.declared.reply.FaultAt.TheVariants as faults
use Rattle.vm_ids.specs.declared.reply.Reply.TheVariants.{Cache}
use Rattle.vm_ids.specs.declared.reply.Trouble.TheVariants as troubles
use Rattle.vm_model.specs.Answering.{answer_by}
use Rattle.gmi_calls.specs.Backing.{IsReady}
use Rattle.gmi_calls.proofs.Called.{OutcomeFor, asks_opened, call_reached, eager_call, eager_left, every_segments, ready_after}
use Rattle.gmi_calls.proofs.Opening.{opened_for, sized_for, sized_pages}
use Rattle.gmi_calls.proofs.Rising.{fault_counted, quiet_none, quiet_then, reached_one, reached_then}
use Rattle.gmi_calls.proofs.Still.{asks_quiet}
use Rattle.gmi_calls.proofs.eager.EagerMachineGmi.open_segment.Given.{Over}
use Rattle.gmi_calls.proofs.eager.EagerMachineGmi.open_segment.Goals.{After-open_segment, After-pull_pages}
use Rattle.gmi_calls.proofs.eager.EagerMachineGmi.open_segment.Goals as goal

pub returns-in_err-check_open : goal.returns-in_err-check_open
returns-in_err-check_open g c =
    let m = c.args.self.now in
    rw (err_is c.from_residual.result _ c.from_residual.ensures.1)
    (eager_left g.M.Mapper _ m m (commands.OpenSegment c.args.seg) (Err c.in_err-check_open.field-0.0) tt c.requires.valid c.requires.valid.whole c.in_err-check_open.ensures.refused tt)

pub returns-in_default : goal.returns-in_default
returns-in_default g c =
    let m = c.args.self.now in
    let command = commands.OpenSegment c.args.seg in
    let told = g.M.Mapper.held c.args.mapper.now in
    let answer = Err (troubles.Mapper faults.Opening) in
    let R = reached_one 0 0 _ _ c.size.result c.size.ensures.counts in
    eager_call g.M.Mapper _ _ m m command answer (subst (IsReady m) (sym c.size.ensures.held) c.requires.valid)
    (call_reached told _ _ _ m m command answer c.size.result c.size.ensures.held R c.requires.valid.whole c.requires.valid.whole tt
    (every_segments told m m command answer R.rises (λ s. c.in_ok-check_open.ensures.fault s R.rises (fault_counted 0 0 c.size.result _ c.in_default.is))) tt)
    tt c.size.ensures.page

pub returns-in_err-pages : goal.returns-in_err-pages
returns-in_err-pages g c =
    let m = c.args.self.now in
    let command = commands.OpenSegment c.args.seg in
    let told = g.M.Mapper.held c.args.mapper.now in
    let answer = Err c.in_err-pages.field-0.0 in
    let R = reached_one 0 0 _ _ c.size.result c.size.ensures.counts in
    rw (err_is c.from_residual-in_err-pages.result _ c.from_residual-in_err-pages.ensures.1)
    (eager_call g.M.Mapper _ _ m m command answer (subst (IsReady m) (sym c.size.ensures.held) c.requires.valid)
    (call_reached told _ _ _ m m command answer c.size.result c.size.ensures.held R c.requires.valid.whole c.requires.valid.whole tt
    (sized_for told m command answer c.args.seg.0 c.in-Ok.size R.rises c.in-Ok.ensures.pages c.in_err-pages.ensures.refused) tt)
    (asks_quiet command answer _ _ (quiet_then _ _ _ c.size.result (quiet_none _) c.size.ensures.counts)) c.size.ensures.page)

pub pull_pages-requires-clause-there : goal.pull_pages-requires-clause-there
pull_pages-requires-clause-there g c =
    sized_pages (g.M.Mapper.held c.args.mapper.now) (g.M.Mapper.held c.size.new.self) c.args.seg.0 (length c.deref_mut.result.now) c.in-Ok.size c.size.ensures.held (ap Some (ap length c.deref_mut.ensures.value) ∙ c.in_ok-pages.ensures.size) c.in-Ok.ensures.pages

-- the pages, after they were pulled
pulled : (g : Over) (c : After-pull_pages g) → (with_items c.in_ok-pages.pages c.pull_pages.new.pages).items ≡ c.pull_pages.new.pages
pulled g c = with_items_is c.in_ok-pages.pages c.pull_pages.new.pages (c.pull_pages.ensures.many ∙ ap length c.deref_mut.ensures.value ∙ sym c.in_ok-pages.pages.ok.0)

pub open_segment-requires-clause-whole : goal.open_segment-requires-clause-whole
open_segment-requires-clause-whole g c =
    let bytes = c.args.self.now.page_bytes in
    let whole : All (λ (p : Vec ℕ Global). length p.items ≡ bytes) c.pull_pages.new.pages =
    c.pull_pages.ensures.whole bytes (subst (λ (vs : List (Vec ℕ Global)). All (λ (p : Vec ℕ Global). length p.items ≡ bytes) vs) (sym c.deref_mut.ensures.value) c.in_ok-pages.ensures.whole) in
    subst (λ (vs : List (Vec ℕ Global)). All (λ (p : Vec ℕ Global). length p.items ≡ bytes) vs) (sym (pulled g (goal.at.open_segment-requires-clause-whole g c).After-pull_pages)) whole

-- are those of the cache that is opened
opened : (g : Over) (c : After-open_segment g) (rises : MapperCounts) → OutcomeFor (g.M.Mapper.held c.args.mapper.now) c.args.self.now (commands.OpenSegment c.args.seg) (answer_by (λ x. Cache x) c.open_segment.result) c.open_segment.new.self rises
opened g c rises =
    let told = g.M.Mapper.held c.args.mapper.now in
    let now = g.M.Mapper.held c.size.new.self in
    let room = c.in_ok-pages.pages in
    let new = c.pull_pages.new.pages in
    let is = pulled g (goal.at.After-open_segment g c).After-pull_pages in
    let pages : List (List ℕ) = map (λ p. p.items) (with_items room new).items in
    let sized : Some (length pages) ≡ c.in-Ok.size = ap Some (length-map (with_items room new).items (λ p. p.items) ∙ ap length is ∙ c.pull_pages.ensures.many ∙ ap length c.deref_mut.ensures.value) ∙ c.in_ok-pages.ensures.size in
    let are = subst (λ (vs : List (Vec ℕ Global)). IfSome now (ArePagesOf c.args.seg.0 0 (map (λ p. p.items) vs))) (sym is) c.in-Ok-pull_pages.ensures.pulled in
    opened_for told now c.args.self.now c.open_segment.new.self (commands.OpenSegment c.args.seg) (answer_by (λ x. Cache x) c.open_segment.result) c.args.seg.0 c.in-Ok.size pages rises c.size.ensures.held sized c.in-Ok.ensures.pages are c.open_segment.ensures.outcome

pub returns-in-Ok-pull_pages : goal.returns-in-Ok-pull_pages
returns-in-Ok-pull_pages g c =
    let told = g.M.Mapper.held c.args.mapper.now in
    let m = c.args.self.now in
    let next = c.open_segment.new.self in
    let command = commands.OpenSegment c.args.seg in
    let answer = answer_by (λ x. Cache x) c.open_segment.result in
    let E = c.in-Ok-pull_pages.ensures in
    let P = E.reached in
    let r : Result (Unit {0}) Failed = Ok tt in
    let R = reached_then _ _ _ c.size.result r (reached_one 0 0 _ _ c.size.result c.size.ensures.counts) P.rises P.rose tt in
    let same = E.held ∙ c.size.ensures.held in
    let o = opened g (goal.at.returns-in-Ok-pull_pages g c).After-open_segment R.rises in
    eager_call g.M.Mapper _ _ m next command answer (subst (IsReady next) (sym same) (ready_after told m next command answer R.rises c.requires.valid c.open_segment.ensures.whole o))
    (call_reached told _ _ _ m next command answer r same R c.requires.valid.whole c.open_segment.ensures.whole tt o tt) (asks_opened c.args.seg c.open_segment.result _ _ c.open_segment.ensures.memory) (E.page ∙ c.size.ensures.page)

pub returns-in-Err : goal.returns-in-Err
returns-in-Err g c =
    let m = c.args.self.now in
    let command = commands.OpenSegment c.args.seg in
    let told = g.M.Mapper.held c.args.mapper.now in
    let answer = Err (troubles.Mapper faults.Opening) in
    let E = c.in-Err.ensures in
    let P = E.reached in
    let r : Result (Unit {0}) Failed = Err c.in-Err.field-0 in
    let R = reached_then _ _ _ c.size.result r (reached_one 0 0 _ _ c.size.result c.size.ensures.counts) P.rises P.rose P.failed in
    let same = E.held ∙ c.size.ensures.held in
    eager_call g.M.Mapper _ _ m m command answer (subst (IsReady m) (sym same) c.requires.valid)
    (call_reached told _ _ _ m m command answer r same R c.requires.valid.whole c.requires.valid.whole tt
    (every_segments told m m command answer R.rises (λ s. c.in_ok-check_open.ensures.fault s R.rises R.failed)) tt) tt (E.page ∙ c.size.ensures.page)
