use Rattle.std.proofs.Common.{arith}
use Rattle.std.proofs.lemmas.Result.{err_from_is_err_and}
use Rattle.mix_process.proofs.Commands.Fork.{finished, last_alive, may_inherit, nobody, not_forked}
use Rattle.mix_process.proofs.mix.Mix.fork.Goals as goal

pub returns-in_err-parent : goal.returns-in_err-parent
returns-in_err-parent g c =
    let p = err_from_is_err_and c.from_residual.result c.from_residual.ensures.1 in
    rw (p.1, p.2, c.in_err-parent.ensures.refusal) (nobody g.M.Mapper g.G.Gmi c.args.self.now c.args.mapper.now c.requires.can c.args.of c.in_err-parent.ensures.nobody)

pub returns-in_err-make_process : goal.returns-in_err-make_process
returns-in_err-make_process g c =
    let p = err_from_is_err_and c.from_residual-in_err-make_process.result c.from_residual-in_err-make_process.ensures.1 in
    let begun = c.make_process.ensures (g.M.Mapper.held c.args.mapper.now) (g.M.Mapper.page_bytes c.args.mapper.now) c.requires.can in
    rw (p.1, p.2) (not_forked g.M.Mapper g.G.Gmi c.args.self.now c.args.mapper.now c.requires.can c.args.of c.in_ok-parent.parent c.in_ok-parent.ensures.found.1.0 c.in_ok-parent.ensures.found.0 c.in_ok-parent.ensures.found.1.1 _ _ (rw c.in_err-make_process.was at begun))

pub copy_parts-made-requires-clause-may : goal.copy_parts-made-requires-clause-may
copy_parts-made-requires-clause-may g c =
    let begun = c.make_process.ensures (g.M.Mapper.held c.args.mapper.now) (g.M.Mapper.page_bytes c.args.mapper.now) c.requires.can in
    (c.in_ok-parent.ensures.found.1.0, may_inherit g.M.Mapper g.G.Gmi c.args.self.now c.args.mapper.now c.requires.can c.args.of c.in_ok-parent.parent c.in_ok-parent.ensures.found.1.0 c.in_ok-parent.ensures.found.0 c.in_ok-parent.ensures.found.1.1 _ (rw c.in_ok-make_process.was at begun))

pub made_or_taken_back-requires-clause-can : goal.made_or_taken_back-requires-clause-can
made_or_taken_back-requires-clause-can g c =
    let begun = c.make_process.ensures (g.M.Mapper.held c.args.mapper.now) (g.M.Mapper.page_bytes c.args.mapper.now) c.requires.can in
    (c.copy_parts-made.ensures c.in_ok-parent.ensures.found.1.0 (may_inherit g.M.Mapper g.G.Gmi c.args.self.now c.args.mapper.now c.requires.can c.args.of c.in_ok-parent.parent c.in_ok-parent.ensures.found.1.0 c.in_ok-parent.ensures.found.0 c.in_ok-parent.ensures.found.1.1 _ (rw c.in_ok-make_process.was at begun))).can

pub made_or_taken_back-requires-clause-made : goal.made_or_taken_back-requires-clause-made
made_or_taken_back-requires-clause-made g c =
    let begun = c.make_process.ensures (g.M.Mapper.held c.args.mapper.now) (g.M.Mapper.page_bytes c.args.mapper.now) c.requires.can in
    let filled = c.copy_parts-made.ensures c.in_ok-parent.ensures.found.1.0 (may_inherit g.M.Mapper g.G.Gmi c.args.self.now c.args.mapper.now c.requires.can c.args.of c.in_ok-parent.parent c.in_ok-parent.ensures.found.1.0 c.in_ok-parent.ensures.found.0 c.in_ok-parent.ensures.found.1.1 _ (rw c.in_ok-make_process.was at begun)) in
    omega (arith, begun.made, filled.made, c.requires.made)

pub made_or_taken_back-requires-clause-last : goal.made_or_taken_back-requires-clause-last
made_or_taken_back-requires-clause-last g c =
    let begun = c.make_process.ensures (g.M.Mapper.held c.args.mapper.now) (g.M.Mapper.page_bytes c.args.mapper.now) c.requires.can in
    let whole = rw c.in_ok-make_process.was at begun in
    last_alive g.M.Mapper g.G.Gmi c.args.self.now c.args.mapper.now c.requires.can c.args.of c.in_ok-parent.parent c.in_ok-parent.ensures.found.1.0 c.in_ok-parent.ensures.found.0 c.in_ok-parent.ensures.found.1.1 _ whole _ _ _
    (c.copy_parts-made.ensures c.in_ok-parent.ensures.found.1.0 (may_inherit g.M.Mapper g.G.Gmi c.args.self.now c.args.mapper.now c.requires.can c.args.of c.in_ok-parent.parent c.in_ok-parent.ensures.found.1.0 c.in_ok-parent.ensures.found.0 c.in_ok-parent.ensures.found.1.1 _ whole))

pub returns : goal.returns
returns g c =
    let begun = c.make_process.ensures (g.M.Mapper.held c.args.mapper.now) (g.M.Mapper.page_bytes c.args.mapper.now) c.requires.can in
    let whole = rw c.in_ok-make_process.was at begun in
    finished g.M.Mapper g.G.Gmi c.args.self.now c.args.mapper.now c.requires.can c.args.of c.in_ok-parent.parent c.in_ok-parent.ensures.found.1.0 c.in_ok-parent.ensures.found.0 c.in_ok-parent.ensures.found.1.1 _ whole _ _ _
    (c.copy_parts-made.ensures c.in_ok-parent.ensures.found.1.0 (may_inherit g.M.Mapper g.G.Gmi c.args.self.now c.args.mapper.now c.requires.can c.args.of c.in_ok-parent.parent c.in_ok-parent.ensures.found.1.0 c.in_ok-parent.ensures.found.0 c.in_ok-parent.ensures.found.1.1 _ whole))
    _ _ _ c.made_or_taken_back.ensures
