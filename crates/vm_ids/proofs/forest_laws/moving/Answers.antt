-- Each law as it is proved.
use Rattle.vm_ids.proofs.Forest.Laws.Commands.{move_keeps_consistency, move_moves, move_bounds, move_settles, move_counts_saves}
use Rattle.vm_ids.proofs.forest_laws.moving.Goals as goal

pub returns-clause-move_keeps_consistency : goal.returns-clause-move_keeps_consistency
returns-clause-move_keeps_consistency g c = move_keeps_consistency

pub returns-clause-move_moves : goal.returns-clause-move_moves
returns-clause-move_moves g c = move_moves

pub returns-clause-move_bounds : goal.returns-clause-move_bounds
returns-clause-move_bounds g c = move_bounds

pub returns-clause-move_settles : goal.returns-clause-move_settles
returns-clause-move_settles g c = move_settles

pub returns-clause-move_counts_saves : goal.returns-clause-move_counts_saves
returns-clause-move_counts_saves g c = move_counts_saves
