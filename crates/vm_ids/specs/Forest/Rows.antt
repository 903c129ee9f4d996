-- Worked scripts: what they leave in the forest, the chains and counts that they tell, and the
-- pages that they load. A page is shown by the number that its first bytes spell. The definitions
-- compute each of them.
use Rattle.std.specs.Prelude.{◌≡◌, ℕ, List, [], ◌∷◌, map, true, false, Some}
use Rattle.vm_ids.specs.declared.node_name.NodeName.{NodeName}
use Rattle.vm_ids.specs.declared.chain.ChainItem.{ChainItem}
use Rattle.vm_ids.specs.declared.reply.Counts.{Counts}
use Rattle.vm_ids.specs.Forest.Names.{Working}
use Rattle.vm_ids.specs.Forest.NameMap.{entries}
use Rattle.vm_ids.specs.Forest.Nodes.{Node, Forest, no_forest, childless}
use Rattle.vm_ids.specs.Forest.Nodes.Hang.{Root}
use Rattle.vm_ids.specs.Forest.Reading.{value_of, chain_of, counts_of}
use Rattle.vm_ids.specs.Forest.Rules.{write}
use Rattle.vm_ids.specs.Forest.Saving.{saves, save_range}
use Rattle.vm_ids.specs.Forest.Forgetting.{forgotten}
use Rattle.vm_ids.specs.Forest.Commands.{page_name, page_names, pages_at, page_pairs, make, copy_pages, copy, move_, invalidate, destroy, lock}

-- Commands, as changes of the forest

-- a command, as what it does to the forest
abbrev pub Step : Type 0
Step = Forest ℕ → Forest ℕ

-- the forest after these commands, the first one first
abbrev pub after : List Step → Forest ℕ → Forest ℕ
after [] f = f
after (s ∷ ss) f = after ss (s f)

-- the forest that these commands leave
abbrev pub script : List Step → Forest ℕ
script ss = after ss no_forest

-- page p of cache c
abbrev pub page : ℕ → ℕ → NodeName
page c p = page_name (record { 0 = c }) p

-- a new cache of n pages of zeros, and one of these pages of a segment
abbrev pub temp : ℕ → ℕ → Step
temp c n = make (map (λ x. (x, 0)) (page_names (record { 0 = c }) 0 n))

abbrev pub open_pages : ℕ → List ℕ → Step
open_pages c vs = make (pages_at (record { 0 = c }) 0 vs)

-- v is stored in page p of cache c
abbrev pub store : ℕ → ℕ → ℕ → Step
store c p v f = write f (page c p) (λ _. v)

-- n pages from page p of cache c to page q of the temporary cache d
abbrev pub copy_from : ℕ → ℕ → ℕ → ℕ → ℕ → Step
copy_from c p d q n = copy false (page_pairs (record { 0 = c }) p (record { 0 = d }) q n)

-- the same for a move
abbrev pub move_from : ℕ → ℕ → ℕ → ℕ → ℕ → Step
move_from c p d q n = move_ false 0 (page_pairs (record { 0 = c }) p (record { 0 = d }) q n)

-- the n pages of a temporary cache, or of a named one
abbrev pub destroy_temp : ℕ → ℕ → Step
destroy_temp c n = destroy false (page_names (record { 0 = c }) 0 n)

abbrev pub destroy_named : ℕ → ℕ → Step
destroy_named c n = destroy true (page_names (record { 0 = c }) 0 n)

-- k saves of a command over the n pages of a cache, and then a fault
abbrev pub fail_at_save : ℕ → ℕ → ℕ → Step
fail_at_save k c n = saves k (page_names (record { 0 = c }) 0 n)

-- n pages of cache c, from page p on
abbrev pub lock_pages : ℕ → ℕ → ℕ → Step
lock_pages c p n = lock (page_names (record { 0 = c }) p n)

-- the pages of the segment, from page p of the cache on
abbrev pub invalidate_pages : ℕ → ℕ → List ℕ → Step
invalidate_pages c p vs = invalidate (pages_at (record { 0 = c }) p vs)

-- What is told

-- an item of a chain, and the line of counts
abbrev pub item : NodeName → ℕ → ChainItem
item x n = record { name = x; children = n }

abbrev pub counts : ℕ → ℕ → ℕ → Counts
counts l w k = record { live = l; working = w; copies = k }

-- the page loads as the number
abbrev pub Loads : Forest ℕ → ℕ → ℕ → ℕ → Type 0
Loads f c p v = value_of f (page c p) ≡ Some v

-- A copy of nine pages by the tree: the source is written, the copy keeps the page.
abbrev pub nine_copied : Forest ℕ
nine_copied = script (temp 1 9 ∷ temp 2 9 ∷ store 1 0 1 ∷ copy_from 1 0 2 0 9 ∷ [])

abbrev pub nine_written : Forest ℕ
nine_written = after (store 1 0 2 ∷ []) nine_copied

abbrev pub TreeCopyOfNinePages : Type 0
TreeCopyOfNinePages =
    (chain_of nine_copied (page 2 0) ≡ item (page 2 0) 0 ∷ item (page 1 0) 1 ∷ [])
    × Loads nine_written 2 0 1
    × Loads nine_written 1 0 2
    × (chain_of nine_written (page 2 0) ≡ item (page 2 0) 0 ∷ [])
    × (chain_of nine_written (page 1 0) ≡ item (page 1 0) 1 ∷ [])
    × (counts_of nine_written ≡ counts 18 0 1)

-- One cache copied three times and written after each copy.
abbrev pub three_copies : Forest ℕ
three_copies =
    script (temp 1 9 ∷ temp 2 9 ∷ temp 3 9 ∷ temp 4 9 ∷ store 1 0 1 ∷ copy_from 1 0 2 0 9
    ∷ store 1 0 2 ∷
    copy_from 1 0 3 0 9 ∷ store 1 0 3 ∷ copy_from 1 0 4 0 9 ∷ store 1 0 4 ∷ [])

abbrev pub CopiedThreeTimes : Type 0
CopiedThreeTimes =
    Loads three_copies 1 0 4
    × Loads three_copies 2 0 1
    × Loads three_copies 3 0 2
    × Loads three_copies 4 0 3
    × (chain_of three_copies (page 2 0) ≡ item (page 2 0) 0 ∷ [])
    × (chain_of three_copies (page 3 0) ≡ item (page 3 0) 0 ∷ item (Working 1) 2 ∷ [])
    × (chain_of three_copies (page 4 0) ≡ item (page 4 0) 0 ∷ item (Working 10) 2 ∷ [])
    × (chain_of three_copies (page 2 1)
    ≡ item (page 2 1) 0 ∷ item (Working 2) 2 ∷ item (Working 11) 2 ∷ item (page 1 1) 1 ∷ [])
    × (counts_of three_copies ≡ counts 36 18 3)

-- Two small copies by stubs.
abbrev pub two_stubs : Forest ℕ
two_stubs =
    script (temp 1 8 ∷ temp 2 8 ∷ temp 3 8 ∷ store 1 0 1 ∷ copy_from 1 0 2 0 8 ∷ copy_from 1 0 3 0 8
    ∷ [])

abbrev pub stubs_handed : Forest ℕ
stubs_handed = after (store 1 0 2 ∷ []) two_stubs

abbrev pub stubs_written : Forest ℕ
stubs_written = after (store 2 0 3 ∷ []) stubs_handed

abbrev pub SmallCopies : Type 0
SmallCopies =
    (chain_of two_stubs (page 1 0) ≡ item (page 1 0) 2 ∷ [])
    × (chain_of stubs_handed (page 3 0) ≡ item (page 3 0) 0 ∷ item (page 2 0) 1 ∷ [])
    × (chain_of stubs_handed (page 1 0) ≡ item (page 1 0) 0 ∷ [])
    × Loads stubs_written 1 0 2
    × Loads stubs_written 2 0 3
    × Loads stubs_written 3 0 1
    × (counts_of stubs_written ≡ counts 24 0 2)

-- A page copied there and back.
abbrev pub back_again : Forest ℕ
back_again =
    script (temp 1 1 ∷ temp 2 1 ∷ store 1 0 1 ∷ copy_from 1 0 2 0 1 ∷ copy_from 2 0 1 0 1 ∷ [])

abbrev pub back_written : Forest ℕ
back_written = after (store 1 0 2 ∷ store 2 0 3 ∷ []) back_again

abbrev pub ThereAndBack : Type 0
ThereAndBack =
    (chain_of back_again (page 1 0) ≡ item (page 1 0) 0 ∷ item (page 2 0) 1 ∷ [])
    × Loads back_written 1 0 2
    × Loads back_written 2 0 3
    × (counts_of back_written ≡ counts 2 0 1)

-- A copy of a copy, the middle one written.
abbrev pub copied_twice : Forest ℕ
copied_twice =
    script (temp 1 9 ∷ temp 2 9 ∷ temp 3 9 ∷ store 1 0 1 ∷ copy_from 1 0 2 0 9 ∷ copy_from 2 0 3 0 9
    ∷ [])

abbrev pub middle_written : Forest ℕ
middle_written = after (store 2 0 2 ∷ []) copied_twice

abbrev pub CopyOfACopy : Type 0
CopyOfACopy =
    (chain_of copied_twice (page 3 0)
    ≡ item (page 3 0) 0 ∷ item (page 2 0) 1 ∷ item (page 1 0) 1 ∷ [])
    × Loads middle_written 1 0 1
    × Loads middle_written 2 0 2
    × Loads middle_written 3 0 1
    × (counts_of middle_written ≡ counts 27 0 2)

-- A source that is destroyed while two copies read it, and a merge when one of them goes.
abbrev pub source_gone : Forest ℕ
source_gone =
    script (temp 1 9 ∷ temp 2 9 ∷ temp 3 9 ∷ store 1 0 1 ∷ copy_from 1 0 2 0 9
    ∷ copy_from 1 0 3 0 9 ∷
    destroy_temp 1 9 ∷ [])

abbrev pub copy_gone : Forest ℕ
copy_gone = after (destroy_temp 3 9 ∷ []) source_gone

abbrev pub DeadSourceThenAMerge : Type 0
DeadSourceThenAMerge =
    (chain_of source_gone (page 2 0) ≡ item (page 2 0) 0 ∷ item (Working 1) 2 ∷ [])
    × (counts_of source_gone ≡ counts 18 9 0)
    × (chain_of copy_gone (page 2 0) ≡ item (page 2 0) 0 ∷ [])
    × (counts_of copy_gone ≡ counts 9 0 0)
    × Loads copy_gone 2 0 1

-- Pages of a copy that are locked, one of them written.
abbrev pub pages_locked : Forest ℕ
pages_locked =
    script (temp 1 6 ∷ temp 2 6 ∷ store 1 0 1 ∷ copy_from 1 0 2 0 6 ∷ lock_pages 2 0 5 ∷ store 2 0 2
    ∷ [])

abbrev pub all_locked : Forest ℕ
all_locked = after (lock_pages 2 5 1 ∷ []) pages_locked

abbrev pub LockedCopies : Type 0
LockedCopies =
    Loads pages_locked 1 0 1 × Loads pages_locked 2 0 2 × (counts_of all_locked ≡ counts 12 0 6)

-- A page that was copied is moved.
abbrev pub copied_moved : Forest ℕ
copied_moved =
    script (temp 1 1 ∷ temp 2 1 ∷ temp 3 1 ∷ store 1 0 9 ∷ copy_from 1 0 3 0 1 ∷ move_from 1 0 2 0 1
    ∷ [])

abbrev pub moved_written : Forest ℕ
moved_written = after (store 2 0 10 ∷ []) copied_moved

abbrev pub MoveOfACopiedPage : Type 0
MoveOfACopiedPage =
    (chain_of copied_moved (page 3 0) ≡ item (page 3 0) 0 ∷ item (page 2 0) 1 ∷ [])
    × Loads copied_moved 1 0 0
    × Loads copied_moved 2 0 9
    × Loads moved_written 3 0 9
    × (counts_of moved_written ≡ counts 3 0 1)

-- A process forked three times: its text is shared, its data are copied.
abbrev pub forked : Forest ℕ
forked =
    script (open_pages 1 (32581 ∷ 0 ∷ []) ∷ temp 2 10 ∷ store 2 0 17 ∷ store 2 9 34 ∷ temp 3 10 ∷
    copy_from 2 0 3 0 10 ∷ store 3 0 51 ∷ temp 4 10 ∷ copy_from 2 0 4 0 10 ∷ store 2 0 68
    ∷ temp 5 10 ∷
    copy_from 2 0 5 0 10 ∷ store 2 9 85 ∷ [])

abbrev pub child_gone : Forest ℕ
child_gone = after (destroy_temp 3 10 ∷ []) forked

abbrev pub ForkedThreeTimes : Type 0
ForkedThreeTimes =
    Loads forked 1 0 32581
    × Loads forked 2 0 68
    × Loads forked 3 0 51
    × Loads forked 3 9 34
    × (chain_of forked (page 3 9)
    ≡ item (page 3 9) 0 ∷ item (Working 10) 2 ∷ item (Working 20) 2 ∷ [])
    × (chain_of forked (page 4 0) ≡ item (page 4 0) 0 ∷ item (Working 1) 2 ∷ [])
    × (chain_of forked (page 5 0)
    ≡ item (page 5 0) 0 ∷ item (Working 11) 2 ∷ item (page 2 0) 1 ∷ [])
    × (counts_of child_gone ≡ counts 32 10 3)

-- A page of a segment is written and invalidated, before and after it was pushed.
abbrev pub invalidated : Forest ℕ
invalidated = script (open_pages 1 (65 ∷ []) ∷ store 1 0 88 ∷ invalidate_pages 1 0 (65 ∷ []) ∷ [])

abbrev pub pushed_invalidated : Forest ℕ
pushed_invalidated = after (store 1 0 88 ∷ invalidate_pages 1 0 (88 ∷ []) ∷ []) invalidated

abbrev pub Invalidated : Type 0
Invalidated =
    Loads invalidated 1 0 65 × Loads pushed_invalidated 1 0 88
    × (counts_of pushed_invalidated ≡ counts 1 0 0)

-- The second save of a destroy fails, and then the cache is destroyed.
abbrev pub save_failed : Forest ℕ
save_failed =
    script (open_pages 1 (0 ∷ 0 ∷ []) ∷ temp 2 2 ∷ copy_from 1 0 2 0 2 ∷ fail_at_save 1 1 2 ∷ [])

abbrev pub ASaveFails : Type 0
ASaveFails =
    (counts_of save_failed ≡ counts 4 0 1)
    × (counts_of (after (destroy_named 1 2 ∷ []) save_failed) ≡ counts 2 0 2)

-- A page of a named cache is saved to its tree child, and then forgotten: the cache is destroyed as
-- if it wasn't.
abbrev pub saved_page : Forest ℕ
saved_page =
    script (open_pages 1 (65 ∷ []) ∷ temp 2 1
    ∷ copy_pages false (page_pairs (record { 0 = 1 }) 0 (record { 0 = 2 }) 0 1) ∷
    save_range (page 1 0 ∷ []) ∷ [])

abbrev pub forgotten_page : Forest ℕ
forgotten_page = after (forgotten (page 1 0 ∷ []) 0 ∷ []) saved_page

abbrev pub the_child : List (NodeName × Node ℕ)
the_child = (page 2 0, childless (Some 65) Root) ∷ []

abbrev pub ForgottenPage : Type 0
ForgottenPage =
    Loads saved_page 1 0 65
    × Loads forgotten_page 1 0 0
    × Loads forgotten_page 2 0 65
    × (entries (after (destroy_named 1 1 ∷ []) saved_page).nodes ≡ the_child)
    × (entries (after (destroy_temp 1 1 ∷ []) forgotten_page).nodes ≡ the_child)

-- A page with a tree child and a stub: the tree child is the heir.
abbrev pub mixed : Forest ℕ
mixed =
    script (temp 1 9 ∷ temp 2 9 ∷ temp 3 9 ∷ store 1 0 1 ∷ copy_from 1 0 2 0 9 ∷ copy_from 1 0 3 0 1
    ∷ [])

abbrev pub mixed_written : Forest ℕ
mixed_written = after (store 1 0 2 ∷ []) mixed

abbrev pub TreeChildBeforeStubs : Type 0
TreeChildBeforeStubs =
    (chain_of mixed (page 1 0) ≡ item (page 1 0) 2 ∷ [])
    × (chain_of mixed_written (page 3 0) ≡ item (page 3 0) 0 ∷ item (page 2 0) 1 ∷ [])
    × (counts_of mixed_written ≡ counts 27 0 1)

-- A page is moved inside one cache.
abbrev pub moved_inside : Forest ℕ
moved_inside = script (temp 1 2 ∷ store 1 0 7 ∷ move_from 1 0 1 1 1 ∷ [])

abbrev pub MoveInsideOneCache : Type 0
MoveInsideOneCache = Loads moved_inside 1 0 0 × Loads moved_inside 1 1 7

-- A working node that hangs by a stub link goes, and its only child has a page of its own: the
-- child hangs nowhere then.
abbrev pub under_a_stub : Forest ℕ
under_a_stub =
    script (temp 1 1 ∷ temp 2 9 ∷ temp 3 9 ∷ store 1 0 1 ∷ copy_from 1 0 2 0 1
    ∷ copy_from 2 0 3 0 9 ∷
    store 3 0 5 ∷ [])

abbrev pub merged_under_a_stub : Forest ℕ
merged_under_a_stub = after (destroy_temp 2 9 ∷ []) under_a_stub

abbrev pub MergeUnderAStub : Type 0
MergeUnderAStub =
    (chain_of under_a_stub (page 2 0) ≡ item (page 2 0) 1 ∷ item (page 1 0) 1 ∷ [])
    × (chain_of merged_under_a_stub (page 1 0) ≡ item (page 1 0) 0 ∷ [])
    × (chain_of merged_under_a_stub (page 3 0) ≡ item (page 3 0) 0 ∷ [])
    × Loads merged_under_a_stub 1 0 1
    × Loads merged_under_a_stub 3 0 5
    × Loads merged_under_a_stub 3 1 0
    × (counts_of merged_under_a_stub ≡ counts 10 0 1)

-- A copy that goes leaves its working node in its place among the stubs of the source, before the
-- other copy: so it is the heir.
abbrev pub middle_gone : Forest ℕ
middle_gone = script (temp 1 1 ∷ temp 2 1 ∷ temp 3 1 ∷ temp 4 1 ∷ temp 5 1 ∷ store 1 0 1 ∷
    copy_from 1 0 2 0 1 ∷ copy_from 1 0 3 0 1 ∷ copy_from 2 0 4 0 1 ∷ copy_from 2 0 5 0 1 ∷
    destroy_temp 2 1 ∷ [])

abbrev pub working_heir : Forest ℕ
working_heir = after (store 1 0 2 ∷ []) middle_gone

abbrev pub WorkingNodeKeepsThePlace : Type 0
WorkingNodeKeepsThePlace =
    (chain_of middle_gone (page 3 0) ≡ item (page 3 0) 0 ∷ item (page 1 0) 2 ∷ [])
    × (chain_of working_heir (page 3 0) ≡ item (page 3 0) 0 ∷ item (Working 1) 3 ∷ [])
    × (chain_of working_heir (page 5 0) ≡ item (page 5 0) 0 ∷ item (Working 1) 3 ∷ [])
    × (chain_of working_heir (page 1 0) ≡ item (page 1 0) 0 ∷ [])
    × Loads working_heir 3 0 1
    × (counts_of working_heir ≡ counts 4 1 1)

-- And the child that is left when the working node goes takes that place.
abbrev pub child_heir : Forest ℕ
child_heir = after (destroy_temp 4 1 ∷ store 1 0 2 ∷ []) middle_gone

abbrev pub SettledChildTakesThePlace : Type 0
SettledChildTakesThePlace =
    (chain_of child_heir (page 3 0) ≡ item (page 3 0) 0 ∷ item (page 5 0) 1 ∷ [])
    × (chain_of child_heir (page 5 0) ≡ item (page 5 0) 1 ∷ [])
    × (chain_of child_heir (page 1 0) ≡ item (page 1 0) 0 ∷ [])
    × Loads child_heir 3 0 1
    × (counts_of child_heir ≡ counts 3 0 1)
