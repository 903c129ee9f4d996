use Rattle.std.proofs.Common.{◌++◌}
use Rattle.std.specs.Prelude.{codes}
use Rattle.std.specs.List.{flat_map}
use Rattle.std.proofs.lemmas.Result.{err_from_is_err_and}
use Rattle.actor_script.specs.Text.{item_text}
use Rattle.actor_script.proofs.Written.{front_more, front_then, wrote_then}
use Rattle.actor_script.proofs.writing.write_chain.Goals as goal

pub returns-in_err-write_all-clause-wrote : goal.returns-in_err-write_all-clause-wrote
returns-in_err-write_all-clause-wrote g c =
    let p = err_from_is_err_and c.from_residual.result c.from_residual.ensures.1 in
    rw p.1 (front_more _ _ c.args.front.now (flat_map item_text c.args.items.now ++ codes "*\n") c.in_err-write_all.ensures.wrote)

pub returns-in_err-write_items-clause-wrote : goal.returns-in_err-write_items-clause-wrote
returns-in_err-write_items-clause-wrote g c =
    let p = err_from_is_err_and c.from_residual-in_err-write_items.result c.from_residual-in_err-write_items.ensures.1 in
    rw p.1 (front_then _ _ _ c.args.front.now (flat_map item_text c.args.items.now ++ codes "*\n") c.in_ok-write_all.ensures.wrote
    (front_more _ _ (flat_map item_text c.args.items.now) (codes "*\n") c.in_err-write_items.ensures.wrote))

pub returns-clause-wrote : goal.returns-clause-wrote
returns-clause-wrote g c =
    wrote_then c.write_all-2.result _ _ _ c.args.front.now (flat_map item_text c.args.items.now ++ codes "*\n") c.in_ok-write_all.ensures.wrote
    (wrote_then c.write_all-2.result _ _ _ (flat_map item_text c.args.items.now) (codes "*\n") c.in_ok-write_items.ensures.wrote c.write_all-2.ensures.wrote)
