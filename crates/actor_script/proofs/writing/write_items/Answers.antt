use Rattle.std.proofs.Common.{arith}
use Rattle.std.proofs.lemmas.Result.{err_from_is_err_and}
use Rattle.actor_script.specs.Text.{item_text}
use Rattle.actor_script.proofs.Written.{items_front}
use Rattle.actor_script.proofs.writing.write_items.Goals as goal

pub returns-in_err-write_item-clause-wrote : goal.returns-in_err-write_item-clause-wrote
returns-in_err-write_item-clause-wrote g c =
    let p = err_from_is_err_and c.from_residual.result c.from_residual.ensures.1 in
    rw p.1 (items_front item_text _ _ _ c.args.items.now c.loop-item.item-index _ (omega arith) c.loop-item.invariant.done c.in_err-write_item.ensures.wrote)
