-- Each law as it is proved.
use Rattle.vm_ids.proofs.Forest.Laws.Linking.{stub_keeps_consistency, stub_gives_the_value, stub_keeps_other_values, stub_counts_no_copy, stub_comes_last}
use Rattle.vm_ids.proofs.forest_laws.stubbing.Goals as goal

pub returns-clause-stub_keeps_consistency : goal.returns-clause-stub_keeps_consistency
returns-clause-stub_keeps_consistency g c = stub_keeps_consistency

pub returns-clause-stub_gives_the_value : goal.returns-clause-stub_gives_the_value
returns-clause-stub_gives_the_value g c = stub_gives_the_value

pub returns-clause-stub_keeps_other_values : goal.returns-clause-stub_keeps_other_values
returns-clause-stub_keeps_other_values g c = stub_keeps_other_values

pub returns-clause-stub_counts_no_copy : goal.returns-clause-stub_counts_no_copy
returns-clause-stub_counts_no_copy g c = stub_counts_no_copy

pub returns-clause-stub_comes_last : goal.returns-clause-stub_comes_last
returns-clause-stub_comes_last g c = stub_comes_last
