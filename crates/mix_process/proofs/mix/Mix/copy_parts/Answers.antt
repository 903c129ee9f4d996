use Rattle.std.proofs.Common.{arith}
use Rattle.std.proofs.lemmas.Result.{err_from_is_err_and}
use Rattle.mix_process.proofs.Ties.Counts.{few_parts}
use Rattle.mix_process.proofs.Starts.PartsInherited.{all_copied, fewer_left, made_yet, may_copy, none_copied, not_copied, one_copied, parent_within, part_is, run}
use Rattle.mix_process.proofs.mix.Mix.copy_parts.Goals as goal

pub loop-part-init : goal.loop-part-init
loop-part-init g c = λ process may. none_copied g.M.Mapper g.G.Gmi c.args.mapper.now c.args.self.now c.requires.can c.args.parent process may _ (omega (arith, c.len-place.ensures, c.args.self.now.processes.ok.0))

pub part_of-requires : goal.part_of-requires
part_of-requires g c = let may = c.requires.may.1 in parent_within g.M.Mapper g.G.Gmi c.args.mapper.now c.args.self.now c.requires.can c.args.parent c.requires.may.0 may _ _ _ _ (c.loop-part.invariant c.requires.may.0 may)

pub copy_part-requires-clause-can : goal.copy_part-requires-clause-can
copy_part-requires-clause-can g c = (c.loop-part.invariant c.requires.may.0 c.requires.may.1).can

pub copy_part-requires-clause-may : goal.copy_part-requires-clause-may
copy_part-requires-clause-may g c =
    let a = c.loop-part.invariant c.requires.may.0 c.requires.may.1 in (
      a.child,
      may_copy g.M.Mapper g.G.Gmi c.args.mapper.now c.args.self.now c.requires.can c.args.parent c.requires.may.0 c.requires.may.1 _ _ _ _ a c.in-Some.part
          (part_is g.M.Mapper g.G.Gmi c.args.mapper.now c.args.self.now c.requires.can c.args.parent c.requires.may.0 c.requires.may.1 _ _ _ _ a _ c.in-Some.ensures),
    )

pub copy_part-requires-clause-made : goal.copy_part-requires-clause-made
copy_part-requires-clause-made g c =
    let a = c.loop-part.invariant c.requires.may.0 c.requires.may.1 in
    let yet = made_yet g.M.Mapper g.G.Gmi c.args.mapper.now c.args.self.now c.requires.can c.args.parent c.requires.may.0 c.requires.may.1 _ _ _ _ a in
    omega (arith, yet, c.requires.made)

pub returns-in_err-copy_part : goal.returns-in_err-copy_part
returns-in_err-copy_part g c = λ process may.
    let a = c.loop-part.invariant process may in
    let here = part_is g.M.Mapper g.G.Gmi c.args.mapper.now c.args.self.now c.requires.can c.args.parent process may _ _ _ _ a _ c.in-Some.ensures in
    let copied = c.copy_part.ensures a.child (may_copy g.M.Mapper g.G.Gmi c.args.mapper.now c.args.self.now c.requires.can c.args.parent process may _ _ _ _ a c.in-Some.part here) in
    let p = err_from_is_err_and c.from_residual.result c.from_residual.ensures.1 in
    rw (p.1, p.2) (not_copied g.M.Mapper g.G.Gmi c.args.mapper.now c.args.self.now c.requires.can c.args.parent process may _ _ _ _ a c.in-Some.part here c.in_err-copy_part.field-0.0 _ _ (rw c.in_err-copy_part.was at copied))

pub overflow_add-next : goal.overflow_add-next
overflow_add-next g c =
    let a = c.loop-part.invariant c.requires.may.0 c.requires.may.1 in
    let few = few_parts _ c.requires.may.0 (run g.M.Mapper g.G.Gmi c.args.mapper.now c.args.self.now c.requires.can c.args.parent c.requires.may.0 c.requires.may.1) c.loop-part.next c.in-Some.part
    (part_is g.M.Mapper g.G.Gmi c.args.mapper.now c.args.self.now c.requires.can c.args.parent c.requires.may.0 c.requires.may.1 _ _ _ _ a _ c.in-Some.ensures) in
    omega (arith, few)

pub loop-part-smaller : goal.loop-part-smaller
loop-part-smaller g c =
    let a = c.loop-part.invariant c.requires.may.0 c.requires.may.1 in
    fewer_left g.M.Mapper g.G.Gmi c.args.mapper.now c.args.self.now c.requires.can c.args.parent c.requires.may.0 c.requires.may.1 c.loop-part.next c.in-Some.part
    (part_is g.M.Mapper g.G.Gmi c.args.mapper.now c.args.self.now c.requires.can c.args.parent c.requires.may.0 c.requires.may.1 _ _ _ _ a _ c.in-Some.ensures)

pub loop-part-preserved : goal.loop-part-preserved
loop-part-preserved g c = λ process may.
    let a = c.loop-part.invariant process may in
    let here = part_is g.M.Mapper g.G.Gmi c.args.mapper.now c.args.self.now c.requires.can c.args.parent process may _ _ _ _ a _ c.in-Some.ensures in
    let copied = c.copy_part.ensures a.child (may_copy g.M.Mapper g.G.Gmi c.args.mapper.now c.args.self.now c.requires.can c.args.parent process may _ _ _ _ a c.in-Some.part here) in
    one_copied g.M.Mapper g.G.Gmi c.args.mapper.now c.args.self.now c.requires.can c.args.parent process may _ _ _ _ a c.in-Some.part here _ _ (rw c.in_ok-copy_part.was at copied)

pub returns : goal.returns
returns g c = λ process may.
    let a = c.loop-part.invariant process may in
    all_copied g.M.Mapper g.G.Gmi c.args.mapper.now c.args.self.now c.requires.can c.args.parent process may _ _ _ _ a
    (part_is g.M.Mapper g.G.Gmi c.args.mapper.now c.args.self.now c.requires.can c.args.parent process may _ _ _ _ a _ c.in_default.ensures)
