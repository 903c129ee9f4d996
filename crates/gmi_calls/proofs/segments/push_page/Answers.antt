use Rattle.std.proofs.Common.{◌≡◌, ◌+◌, Some, None, Option, sym, subst, ◌∙◌}
use Rattle.vm_ids.specs.Held.{Held, segments_of}
use Rattle.vm_model.specs.PageForest.{page_in}
use Rattle.vm_model.specs.Synchronised.{ArePushed}
use Rattle.gmi_calls.specs.Backing.{IsReady}
use Rattle.gmi_calls.proofs.Pushing.{IsGranted, IsNamedPage, held_page, named_bytes, named_page, named_size, page_is, page_kept, page_pushed, page_ready, page_there, pushed_none, pushed_then, there_denied}
use Rattle.gmi_calls.proofs.Rising.{counted, fault_counted, on_err, one_call, one_failed}
use Rattle.gmi_calls.proofs.segments.push_page.Given.{Over}
use Rattle.gmi_calls.proofs.segments.push_page.Goals.{In-Some}
use Rattle.gmi_calls.proofs.segments.push_page.Goals as goal

pub get_write_access-requires : goal.get_write_access-requires
get_write_access-requires g c = held_page _ _ _ _ _ (named_page _ _ _ _ c.requires.named c.requires.within) c.requires.ready

pub returns-in_err-get_write_access-clause-pushed : goal.returns-in_err-get_write_access-clause-pushed
returns-in_err-get_write_access-clause-pushed g c = pushed_none _ _ _ _ _ (one_call 0 0 c.get_write_access.result) _ c.get_write_access.ensures.held (counted 0 0 _ _ c.get_write_access.result c.get_write_access.ensures.counts)
    (on_err c.from_residual.result _ (fault_counted 0 0 c.get_write_access.result _ c.in_err-get_write_access.was))

pub returns-then-not-branch-clause-pushed : goal.returns-then-not-branch-clause-pushed
returns-then-not-branch-clause-pushed g c = pushed_none _ _ _ _ _ (one_call 0 0 c.get_write_access.result) _ c.get_write_access.ensures.held (counted 0 0 _ _ c.get_write_access.result c.get_write_access.ensures.counts) tt

pub returns-then-not-branch-clause-there : goal.returns-then-not-branch-clause-there
returns-then-not-branch-clause-there g c =
    let N = named_page _ _ _ _ c.requires.named c.requires.within in
    subst (λ (o : Option Held). ArePushed c.args.machine.now (segments_of o) c.args.cache.0 c.args.page.0 (c.args.page.0 + 1)) (sym c.get_write_access.ensures.held)
    (there_denied _ _ _ _ N (g.M.Mapper.held c.args.mapper.now) c.in_ok-get_write_access.field-0 c.if-not-branch.true c.in_ok-get_write_access.ensures.granted c.requires.ready)

pub push_out-requires-clause-room : goal.push_out-requires-clause-room
push_out-requires-clause-room g c =
    let read : page_in c.args.machine.now c.args.cache.0 c.args.page.0 ≡ Some c.in-Some.bytes.now = sym c.in-Some.ensures in
    named_size c.args.machine.now _ _ _ _ _ (named_bytes c.args.machine.now _ _ _ _ c.requires.named read) c.requires.ready.whole c.get_write_access.ensures.page c.requires.fits

pub push_out-requires-clause-there : goal.push_out-requires-clause-there
push_out-requires-clause-there g c =
    held_page _ _ _ _ _ (named_page _ _ _ _ c.requires.named c.requires.within) (subst (IsReady c.args.machine.now) (sym c.get_write_access.ensures.held) c.requires.ready)

pub unreachable-requires : goal.unreachable-requires
unreachable-requires g c =
    let N = named_page c.args.machine.now c.args.cache.0 c.args.seg.0 c.args.page.0 c.requires.named c.requires.within in
    let f : None ≡ Some N.page = c.in-None.ensures ∙ page_is c.args.machine.now c.args.cache.0 c.args.seg.0 c.args.page.0 N in
    cc f

-- the page that is read
abbrev read : (g : Over) (c : In-Some g) → IsNamedPage c.args.machine.now c.args.cache.0 c.args.seg.0 c.args.page.0
read g c = named_bytes c.args.machine.now c.args.cache.0 c.args.seg.0 c.args.page.0 c.in-Some.bytes.now c.requires.named (sym c.in-Some.ensures)

-- may be written
granted : (g : Over) (c : In-Some g) → IsGranted c.args.machine.now c.args.cache.0 c.args.seg.0 c.args.page.0 (read g c) c.in_ok-get_write_access.field-0 (g.M.Mapper.held c.get_write_access.new.self)
granted g c = subst (λ (o : Option Held). IsGranted c.args.machine.now c.args.cache.0 c.args.seg.0 c.args.page.0 (read g c) c.in_ok-get_write_access.field-0 o) (sym c.get_write_access.ensures.held) c.in_ok-get_write_access.ensures.granted

ready : (g : Over) (c : In-Some g) → IsReady c.args.machine.now (g.M.Mapper.held c.get_write_access.new.self)
ready g c = subst (IsReady c.args.machine.now) (sym c.get_write_access.ensures.held) c.requires.ready

pub returns-clause-pushed : goal.returns-clause-pushed
returns-clause-pushed g c =
    let m = c.args.machine.now in
    let mid = g.M.Mapper.held c.get_write_access.new.self in
    let at = (goal.at.returns-clause-pushed g c).In-Some in
    pushed_then m _ mid _ _ _ _ c.get_write_access.result c.push_out.result
    (pushed_none m _ mid _ _ (one_call 0 0 c.get_write_access.result) c.get_write_access.result c.get_write_access.ensures.held (counted 0 0 _ _ c.get_write_access.result c.get_write_access.ensures.counts) (one_failed 0 0 c.get_write_access.result))
    (page_pushed m _ _ _ (read g at) mid _ c.in_ok-get_write_access.field-0 c.if-not-branch.false (granted g at) (ready g at) c.push_out.result _ _ c.push_out.ensures.ok c.push_out.ensures.err (counted 0 1 _ _ c.push_out.result c.push_out.ensures.counts))

pub returns-clause-there : goal.returns-clause-there
returns-clause-there g c =
    let at = (goal.at.returns-clause-there g c).In-Some in
    page_there c.args.machine.now _ _ _ (read g at) (g.M.Mapper.held c.get_write_access.new.self) _ c.in_ok-get_write_access.field-0 c.if-not-branch.false (granted g at) (ready g at) c.push_out.result c.push_out.ensures.ok

pub returns-clause-kept : goal.returns-clause-kept
returns-clause-kept g c = λ first before.
    let at = (goal.at.returns-clause-kept g c).In-Some in
    page_kept c.args.machine.now _ _ _ (read g at) (g.M.Mapper.held c.get_write_access.new.self) _ c.in_ok-get_write_access.field-0 c.if-not-branch.false (granted g at) (ready g at) c.push_out.result c.push_out.ensures.ok c.push_out.ensures.err first
    (subst (λ (o : Option Held). ArePushed c.args.machine.now (segments_of o) c.args.cache.0 first c.args.page.0) (sym c.get_write_access.ensures.held) before)

pub returns-clause-ready : goal.returns-clause-ready
returns-clause-ready g c =
    let at = (goal.at.returns-clause-ready g c).In-Some in
    page_ready c.args.machine.now _ _ _ (read g at) (g.M.Mapper.held c.get_write_access.new.self) _ c.in_ok-get_write_access.field-0 c.if-not-branch.false (granted g at) (ready g at) c.push_out.result c.push_out.ensures.ok c.push_out.ensures.err
