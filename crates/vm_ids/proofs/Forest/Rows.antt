-- The definitions compute the worked scripts.
use Rattle.std.proofs.Common.{refl}
use Rattle.vm_ids.specs.Forest.Names.{same}
use Rattle.vm_ids.specs.Forest.NameMap.{get, insert, remove, from_entries, empty}
use Rattle.vm_ids.specs.Forest.Nodes.{node}
use Rattle.vm_ids.specs.Forest.Reading.{value_within, value_of, path_within, path_of, chain_of}
use Rattle.vm_ids.specs.Forest.Changes.{put, free, relist, cut, cut_stub, hang_all, set_tree, rename}
use Rattle.vm_ids.specs.Forest.Rules.{gets, own, heir, hand_stubs, heir_gets, write, retire, detach, link, stub}
use Rattle.vm_ids.specs.Forest.Settling.{thin, take_place, pass_page, give_way, settle_step, settle_within, settle}
use Rattle.vm_ids.specs.Forest.Saving.{unsaved, saves, save_range}
use Rattle.vm_ids.specs.Forest.Forgetting.{forget}
use Rattle.vm_ids.specs.Forest.Rows.{TreeCopyOfNinePages, CopiedThreeTimes, SmallCopies, ThereAndBack, CopyOfACopy, DeadSourceThenAMerge, LockedCopies, MoveOfACopiedPage, ForkedThreeTimes, Invalidated, ASaveFails, ForgottenPage, TreeChildBeforeStubs, MoveInsideOneCache, MergeUnderAStub, WorkingNodeKeepsThePlace, SettledChildTakesThePlace}

-- A proof that unfolds this unfolds the whole forest.
computes : Unit {0}
unfolding node value_within value_of path_within path_of chain_of put free relist cut cut_stub hang_all set_tree rename gets own heir hand_stubs heir_gets write retire detach link stub thin take_place pass_page give_way settle_step settle_within settle unsaved saves save_range forget get insert remove from_entries empty same
computes = tt

pub tree_copy_of_nine_pages : TreeCopyOfNinePages
unfolding computes
tree_copy_of_nine_pages = (refl, refl, refl, refl, refl, refl)

pub copied_three_times : CopiedThreeTimes
unfolding computes
copied_three_times = (refl, refl, refl, refl, refl, refl, refl, refl, refl)

pub small_copies : SmallCopies
unfolding computes
small_copies = (refl, refl, refl, refl, refl, refl, refl)

pub there_and_back : ThereAndBack
unfolding computes
there_and_back = (refl, refl, refl, refl)

pub copy_of_a_copy : CopyOfACopy
unfolding computes
copy_of_a_copy = (refl, refl, refl, refl, refl)

pub dead_source_then_a_merge : DeadSourceThenAMerge
unfolding computes
dead_source_then_a_merge = (refl, refl, refl, refl, refl)

pub locked_copies : LockedCopies
unfolding computes
locked_copies = (refl, refl, refl)

pub move_of_a_copied_page : MoveOfACopiedPage
unfolding computes
move_of_a_copied_page = (refl, refl, refl, refl, refl)

pub forked_three_times : ForkedThreeTimes
unfolding computes
forked_three_times = (refl, refl, refl, refl, refl, refl, refl, refl)

pub invalidated : Invalidated
unfolding computes
invalidated = (refl, refl, refl)

pub a_save_fails : ASaveFails
unfolding computes
a_save_fails = (refl, refl)

pub forgotten_page : ForgottenPage
unfolding computes
forgotten_page = (refl, refl, refl, refl, refl)

pub tree_child_before_stubs : TreeChildBeforeStubs
unfolding computes
tree_child_before_stubs = (refl, refl, refl)

pub move_inside_one_cache : MoveInsideOneCache
unfolding computes
move_inside_one_cache = (refl, refl)

pub merge_under_a_stub : MergeUnderAStub
unfolding computes
merge_under_a_stub = (refl, refl, refl, refl, refl, refl, refl)

pub working_node_keeps_the_place : WorkingNodeKeepsThePlace
unfolding computes
working_node_keeps_the_place = (refl, refl, refl, refl, refl, refl)

pub settled_child_takes_the_place : SettledChildTakesThePlace
unfolding computes
settled_child_takes_the_place = (refl, refl, refl, refl, refl)
