-- Each law as it is proved.
use Rattle.vm_ids.proofs.Forest.Laws.Reading.{ranks_are_orders, orders_are_ranks, values_by_cases, nodes_have_values, owners_own_values, owners_own_themselves, owners_are_inherited, paths_by_cases, chains_are_short}
use Rattle.vm_ids.proofs.forest_laws.reading.Goals as goal

pub returns-clause-ranks_are_orders : goal.returns-clause-ranks_are_orders
returns-clause-ranks_are_orders g c = ranks_are_orders

pub returns-clause-orders_are_ranks : goal.returns-clause-orders_are_ranks
returns-clause-orders_are_ranks g c = orders_are_ranks

pub returns-clause-values_by_cases : goal.returns-clause-values_by_cases
returns-clause-values_by_cases g c = values_by_cases

pub returns-clause-nodes_have_values : goal.returns-clause-nodes_have_values
returns-clause-nodes_have_values g c = nodes_have_values

pub returns-clause-owners_own_values : goal.returns-clause-owners_own_values
returns-clause-owners_own_values g c = owners_own_values

pub returns-clause-owners_own_themselves : goal.returns-clause-owners_own_themselves
returns-clause-owners_own_themselves g c = owners_own_themselves

pub returns-clause-owners_are_inherited : goal.returns-clause-owners_are_inherited
returns-clause-owners_are_inherited g c = owners_are_inherited

pub returns-clause-paths_by_cases : goal.returns-clause-paths_by_cases
returns-clause-paths_by_cases g c = paths_by_cases

pub returns-clause-chains_are_short : goal.returns-clause-chains_are_short
returns-clause-chains_are_short g c = chains_are_short
