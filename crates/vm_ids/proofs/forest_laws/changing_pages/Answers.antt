-- Each law as it is proved.
use Rattle.vm_ids.proofs.Forest.Laws.PageMap.{values_go_with_pages, owners_stay, chains_stay, counts_stay, own_goes_with_pages, heir_gets_goes_with_pages, write_goes_with_pages, detach_goes_with_pages, link_goes_with_pages, stub_goes_with_pages, copy_page_goes_with_pages, move_page_goes_with_pages, step_goes_with_pages, settle_goes_with_pages, saves_go_with_pages, make_goes_with_pages, copy_goes_with_pages, move_goes_with_pages, invalidate_goes_with_pages, destroy_goes_with_pages, lock_goes_with_pages}
use Rattle.vm_ids.proofs.forest_laws.changing_pages.Goals as goal

pub returns-clause-values_go_with_pages : goal.returns-clause-values_go_with_pages
returns-clause-values_go_with_pages g c = values_go_with_pages

pub returns-clause-owners_stay : goal.returns-clause-owners_stay
returns-clause-owners_stay g c = owners_stay

pub returns-clause-chains_stay : goal.returns-clause-chains_stay
returns-clause-chains_stay g c = chains_stay

pub returns-clause-counts_stay : goal.returns-clause-counts_stay
returns-clause-counts_stay g c = counts_stay

pub returns-clause-own_goes_with_pages : goal.returns-clause-own_goes_with_pages
returns-clause-own_goes_with_pages g c = own_goes_with_pages

pub returns-clause-heir_gets_goes_with_pages : goal.returns-clause-heir_gets_goes_with_pages
returns-clause-heir_gets_goes_with_pages g c = heir_gets_goes_with_pages

pub returns-clause-write_goes_with_pages : goal.returns-clause-write_goes_with_pages
returns-clause-write_goes_with_pages g c = write_goes_with_pages

pub returns-clause-detach_goes_with_pages : goal.returns-clause-detach_goes_with_pages
returns-clause-detach_goes_with_pages g c = detach_goes_with_pages

pub returns-clause-link_goes_with_pages : goal.returns-clause-link_goes_with_pages
returns-clause-link_goes_with_pages g c = link_goes_with_pages

pub returns-clause-stub_goes_with_pages : goal.returns-clause-stub_goes_with_pages
returns-clause-stub_goes_with_pages g c = stub_goes_with_pages

pub returns-clause-copy_page_goes_with_pages : goal.returns-clause-copy_page_goes_with_pages
returns-clause-copy_page_goes_with_pages g c = copy_page_goes_with_pages

pub returns-clause-move_page_goes_with_pages : goal.returns-clause-move_page_goes_with_pages
returns-clause-move_page_goes_with_pages g c = move_page_goes_with_pages

pub returns-clause-step_goes_with_pages : goal.returns-clause-step_goes_with_pages
returns-clause-step_goes_with_pages g c = step_goes_with_pages

pub returns-clause-settle_goes_with_pages : goal.returns-clause-settle_goes_with_pages
returns-clause-settle_goes_with_pages g c = settle_goes_with_pages

pub returns-clause-saves_go_with_pages : goal.returns-clause-saves_go_with_pages
returns-clause-saves_go_with_pages g c = saves_go_with_pages

pub returns-clause-make_goes_with_pages : goal.returns-clause-make_goes_with_pages
returns-clause-make_goes_with_pages g c = make_goes_with_pages

pub returns-clause-copy_goes_with_pages : goal.returns-clause-copy_goes_with_pages
returns-clause-copy_goes_with_pages g c = copy_goes_with_pages

pub returns-clause-move_goes_with_pages : goal.returns-clause-move_goes_with_pages
returns-clause-move_goes_with_pages g c = move_goes_with_pages

pub returns-clause-invalidate_goes_with_pages : goal.returns-clause-invalidate_goes_with_pages
returns-clause-invalidate_goes_with_pages g c = invalidate_goes_with_pages

pub returns-clause-destroy_goes_with_pages : goal.returns-clause-destroy_goes_with_pages
returns-clause-destroy_goes_with_pages g c = destroy_goes_with_pages

pub returns-clause-lock_goes_with_pages : goal.returns-clause-lock_goes_with_pages
returns-clause-lock_goes_with_pages g c = lock_goes_with_pages
