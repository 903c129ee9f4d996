use Rattle.std.proofs.Common.{sym, ◌∙◌}
use Rattle.actor_script.proofs.Operands.{store_whole, store_read, store_none}
use Rattle.actor_script.proofs.reading.accesses.read_store.Goals as goal

pub returns-in_err-piece : goal.returns-in_err-piece
returns-in_err-piece c =
    rw c.from_residual-in_err-piece.ensures
    (store_whole _ _ _ _ c.in_ok-actor.ensures ∙ store_none _ _ _ (sym c.read_bytes.ensures ∙ c.in_err-piece.was))

pub returns : goal.returns
returns c =
    store_whole _ _ _ _ c.in_ok-actor.ensures
    ∙ store_read _ _ _ _ _ _ (sym c.read_lettered.ensures ∙ c.in_ok-read_lettered.was) (sym c.read_address.ensures ∙ c.in_ok-address.was) (sym c.read_bytes.ensures ∙ c.in_ok-piece.was)
