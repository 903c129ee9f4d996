use Rattle.std.proofs.Common.{sym, ◌∙◌}
use Rattle.actor_script.proofs.Operands.{load_whole, load_read, load_none}
use Rattle.actor_script.proofs.reading.accesses.read_load.Goals as goal

pub returns-in_err-length : goal.returns-in_err-length
returns-in_err-length c =
    rw c.from_residual-in_err-length.ensures
    (load_whole _ _ _ _ c.in_ok-actor.ensures ∙ load_none _ _ _ (sym c.read_length.ensures ∙ c.in_err-length.was))

pub returns : goal.returns
returns c =
    load_whole _ _ _ _ c.in_ok-actor.ensures
    ∙ load_read _ _ _ _ _ _ (sym c.read_lettered.ensures ∙ c.in_ok-read_lettered.was) (sym c.read_address.ensures ∙ c.in_ok-address.was) (sym c.read_length.ensures ∙ c.in_ok-length.was)
