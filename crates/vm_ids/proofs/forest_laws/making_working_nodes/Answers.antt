-- Each law as it is proved.
use Rattle.vm_ids.proofs.Forest.Laws.Made.{own_makes_none, heir_gets_makes_none, write_makes_none, detach_makes_at_most_one, link_makes_at_most_one, stub_makes_none, copy_page_makes_at_most_two, move_page_makes_at_most_one, step_makes_none, settle_makes_none, saves_make_none, make_makes_none, copy_makes_at_most_two_a_page, move_makes_at_most_one_a_page, invalidate_makes_at_most_one_a_page, destroy_makes_at_most_one_a_page, lock_makes_none}
use Rattle.vm_ids.proofs.forest_laws.making_working_nodes.Goals as goal

pub returns-clause-own_makes_none : goal.returns-clause-own_makes_none
returns-clause-own_makes_none g c = own_makes_none

pub returns-clause-heir_gets_makes_none : goal.returns-clause-heir_gets_makes_none
returns-clause-heir_gets_makes_none g c = heir_gets_makes_none

pub returns-clause-write_makes_none : goal.returns-clause-write_makes_none
returns-clause-write_makes_none g c = write_makes_none

pub returns-clause-detach_makes_at_most_one : goal.returns-clause-detach_makes_at_most_one
returns-clause-detach_makes_at_most_one g c = detach_makes_at_most_one

pub returns-clause-link_makes_at_most_one : goal.returns-clause-link_makes_at_most_one
returns-clause-link_makes_at_most_one g c = link_makes_at_most_one

pub returns-clause-stub_makes_none : goal.returns-clause-stub_makes_none
returns-clause-stub_makes_none g c = stub_makes_none

pub returns-clause-copy_page_makes_at_most_two : goal.returns-clause-copy_page_makes_at_most_two
returns-clause-copy_page_makes_at_most_two g c = copy_page_makes_at_most_two

pub returns-clause-move_page_makes_at_most_one : goal.returns-clause-move_page_makes_at_most_one
returns-clause-move_page_makes_at_most_one g c = move_page_makes_at_most_one

pub returns-clause-step_makes_none : goal.returns-clause-step_makes_none
returns-clause-step_makes_none g c = step_makes_none

pub returns-clause-settle_makes_none : goal.returns-clause-settle_makes_none
returns-clause-settle_makes_none g c = settle_makes_none

pub returns-clause-saves_make_none : goal.returns-clause-saves_make_none
returns-clause-saves_make_none g c = saves_make_none

pub returns-clause-make_makes_none : goal.returns-clause-make_makes_none
returns-clause-make_makes_none g c = make_makes_none

pub returns-clause-copy_makes_at_most_two_a_page : goal.returns-clause-copy_makes_at_most_two_a_page
returns-clause-copy_makes_at_most_two_a_page g c = copy_makes_at_most_two_a_page

pub returns-clause-move_makes_at_most_one_a_page : goal.returns-clause-move_makes_at_most_one_a_page
returns-clause-move_makes_at_most_one_a_page g c = move_makes_at_most_one_a_page

pub returns-clause-invalidate_makes_at_most_one_a_page : goal.returns-clause-invalidate_makes_at_most_one_a_page
returns-clause-invalidate_makes_at_most_one_a_page g c = invalidate_makes_at_most_one_a_page

pub returns-clause-destroy_makes_at_most_one_a_page : goal.returns-clause-destroy_makes_at_most_one_a_page
returns-clause-destroy_makes_at_most_one_a_page g c = destroy_makes_at_most_one_a_page

pub returns-clause-lock_makes_none : goal.returns-clause-lock_makes_none
returns-clause-lock_makes_none g c = lock_makes_none
