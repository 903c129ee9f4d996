use Rattle.std.proofs.Common.{arith, refl}
use Rattle.std.proofs.result.Match.{err_is}
use Rattle.vm_ids.specs.declared.command.Command.TheVariants as commands
use Rattle.vm_ids.specs.declared.command.Extent.{Extent}
use Rattle.flat_mm.proofs.Extents.{IsPushing, all_pushed, extent_named, extent_within, pushing_failed, refused_call, flush_row}
use Rattle.flat_mm.proofs.manager.FlatMm.flush.Goals as goal

of_extent : (e : Extent) → IsPushing e (commands.Flush e)
of_extent e = record { needs = λ m next. refl; reaches = λ rises. tt; said = λ m h a there. there; may = λ m h page rises at. at }

pub returns-in_err-seg : goal.returns-in_err-seg
returns-in_err-seg g c =
    rw (err_is c.from_residual.result _ c.from_residual.ensures.1)
    (refused_call g.M.Mapper c.args.mapper.now c.args.self.now (commands.Flush c.args.extent) c.in_err-seg.field-0.0 c.requires.valid (λ h. c.in_err-seg.ensures.refused.flush) tt tt)

pub push_pages-requires-clause-named : goal.push_pages-requires-clause-named
push_pages-requires-clause-named g c = extent_named c.args.self.now c.args.extent c.in_ok-seg.seg c.in_ok-seg.ensures.extent

pub push_pages-requires-clause-within : goal.push_pages-requires-clause-within
push_pages-requires-clause-within g c = extent_within c.args.self.now c.args.extent c.in_ok-seg.seg c.in_ok-seg.ensures.extent

pub push_pages-requires-clause-few : goal.push_pages-requires-clause-few
push_pages-requires-clause-few g c = omega (arith, c.in_ok-seg.ensures.extent.within, c.in_ok-seg.ensures.extent.few)

pub returns-in-Ok : goal.returns-in-Ok
returns-in-Ok g c =
    let e = c.args.extent in
    let p = c.args.self.now in
    let P = c.in-Ok.ensures in
    all_pushed g.M.Mapper c.args.mapper.now c.push_pages.new.mapper p c.push_pages.new.self e (commands.Flush e) (of_extent e) c.requires.valid
    (λ h. flush_row p e c.in_ok-seg.seg c.in_ok-seg.ensures.extent c.in_ok-seg.ensures.unlocked) _ P.pushed P.there

pub returns-in-Err : goal.returns-in-Err
returns-in-Err g c =
    let e = c.args.extent in
    let p = c.args.self.now in
    let P = c.in-Err.ensures in
    pushing_failed g.M.Mapper c.args.mapper.now c.push_pages.new.mapper p c.push_pages.new.self e (commands.Flush e) (of_extent e) c.requires.valid
    (λ h. flush_row p e c.in_ok-seg.seg c.in_ok-seg.ensures.extent c.in_ok-seg.ensures.unlocked) c.in-Err.page P.pushed c.in-Err.page P.there P.fault
