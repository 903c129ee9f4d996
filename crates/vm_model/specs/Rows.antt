-- Worked scripts, as runs of the machine and of the page forest that follows it: what each command
-- answers, and whether the last forest has the last machine's pages. A page has two bytes here. The
-- definitions compute each of them.
use Rattle.std.specs.Prelude.{◌≡◌, ℕ, Bool, true, false, List, [], ◌∷◌, map, Some, Ok, Err}
use Rattle.std.specs.FinMap.{empty, insert}
use Rattle.vm_ids.specs.Held.{Segments}
use Rattle.vm_ids.specs.declared.chain.ChainItem.{ChainItem}
use Rattle.vm_ids.specs.declared.command.Command.{Command}
use Rattle.vm_ids.specs.declared.command.Command.TheVariants as commands
use Rattle.vm_ids.specs.declared.command.Extent.{Extent}
use Rattle.vm_ids.specs.declared.command.Span.{Span}
use Rattle.vm_ids.specs.declared.node_name.NodeName.{NodeName}
use Rattle.vm_ids.specs.declared.refusal.Refusal.{Refusal}
use Rattle.vm_ids.specs.declared.refusal.Refusal.TheVariants as refusals
use Rattle.vm_ids.specs.declared.reply.Reply.TheVariants as replies
use Rattle.vm_ids.specs.declared.reply.Trouble.TheVariants as troubles
use Rattle.vm_ids.specs.declared.node_name.NodeName.TheVariants.{Working}
use Rattle.vm_ids.specs.Forest.Nodes.{no_forest}
use Rattle.vm_ids.specs.Forest.Reading.{value_of}
use Rattle.vm_ids.specs.Forest.Commands.{page_name}
use Rattle.vm_model.specs.Machine.{Machine, Page, start}
use Rattle.vm_model.specs.PageForest.{PageForest, nodes_from}
use Rattle.vm_model.specs.Answering.{Answer, Answered, answer_of}
use Rattle.vm_model.specs.Following.{forest_after}
use Rattle.vm_model.specs.Outcome.{blank}

-- A run: the answers, and what they leave.
pub record Played : Type 0 where
  pub answers : List Answer
  pub machine : Machine
  pub forest : PageForest

-- no segments, and none of their pages denied
abbrev pub no_segments : Segments
no_segments = record { pages = empty; denied = [] }

abbrev pub played_first : Answer → Played → Played
played_first a p = record p { answers = a ∷ p.answers }

-- one segment, number 1, of these pages
abbrev pub one_segment : List Page → Segments
one_segment pages = record { pages = insert empty 1 pages; denied = [] }

-- a command was answered so; the forest follows the machines as they are seen, and the rest goes on
-- from there
abbrev pub played_on : (Machine → Machine) → Machine → PageForest → Command
    → (Machine → PageForest → Played) → Answered → Played
played_on seen m f command rest a =
    played_first a.answer (rest a.next (forest_after f (seen m) command a.answer (seen a.next)))

-- the commands, the first one first, over a machine and its forest
abbrev pub play_from : Segments → (Machine → Machine) → List Command → Machine → PageForest
    → Played
play_from h seen [] m f = record { answers = []; machine = seen m; forest = f }
play_from h seen (c ∷ cs) m f = played_on seen m f c (play_from h seen cs) (answer_of m f c h)

abbrev pub play : Segments → (Machine → Machine) → List Command → Played
play h seen cs = play_from h seen cs (start 8 2) no_forest

-- each page of the machine, as it was seen last, is the value of its node
abbrev pub HoldsItsPages : Played → Type 0
HoldsItsPages p =
    map (λ e. value_of p.forest e.0) (nodes_from 1 p.machine.caches)
    ≡ map (λ e. Some e.1) (nodes_from 1 p.machine.caches)

-- the commands answer this over segments that hold this
abbrev pub AnswersAs : Segments → (Machine → Machine) → List Command → List Answer → Type 0
AnswersAs h seen cs answers =
    ((play h seen cs).answers ≡ answers) × HoldsItsPages (play h seen cs)

-- The same with bytes, where the mapper tells what it holds, and without them, where it doesn't.
pub record AnswersOver (h : Segments) (cs : List Command) (answers : List Answer) : Type 0 where
  pub told : AnswersAs h (λ m. m) cs answers
  pub untold : AnswersAs h blank cs answers

abbrev pub Answers : List Command → List Answer → Type 0
Answers = AnswersOver no_segments

-- Commands and answers in short

abbrev pub temp : ℕ → Command
temp pages = commands.MakeTemp pages

abbrev pub destroy : ℕ → Command
destroy cache = commands.Destroy (record { 0 = cache })

abbrev pub span : ℕ → ℕ → ℕ → ℕ → ℕ → Span
span c o d q n =
    record {
      from = record { 0 = c };
      from_page = record { 0 = o };
      to = record { 0 = d };
      to_page = record { 0 = q };
      pages = n;
    }

abbrev pub copy : ℕ → ℕ → ℕ → ℕ → ℕ → Command
copy c o d q n = commands.Copy (span c o d q n)

abbrev pub move_ : ℕ → ℕ → ℕ → ℕ → ℕ → Command
move_ c o d q n = commands.Move (span c o d q n)

abbrev pub extent : ℕ → ℕ → ℕ → Extent
extent c o n = record { cache = record { 0 = c }; first = record { 0 = o }; pages = n }

-- n pages of cache c, from page o on, mapped for writing by the first actor
abbrev pub map_part : ℕ → ℕ → ℕ → ℕ → Command
map_part c o n address = commands.Map (record { 0 = 1 })
    (record { extent = extent c o n; address = address; prot = record { write = true } })

-- the first n pages of cache c
abbrev pub map_ : ℕ → ℕ → ℕ → Command
map_ c n address = map_part c 0 n address

abbrev pub lock : ℕ → Command
lock region = commands.Lock (record { 0 = region })

abbrev pub unlock : ℕ → Command
unlock region = commands.Unlock (record { 0 = region })

abbrev pub unmap : ℕ → Command
unmap region = commands.Unmap (record { 0 = region })

abbrev pub split : ℕ → ℕ → Command
split region pages = commands.Split (record { 0 = region }) pages

abbrev pub protect : ℕ → Bool → Command
protect region write = commands.Protect (record { 0 = region }) (record { write = write })

abbrev pub status : ℕ → Command
status region = commands.Status (record { 0 = region })

abbrev pub find : ℕ → ℕ → Command
find actor address = commands.Find (record { 0 = actor }) address

abbrev pub exit_ : ℕ → Command
exit_ actor = commands.ExitActor (record { 0 = actor })

-- one byte of the first actor
abbrev pub store : ℕ → ℕ → Command
store address byte = commands.Store (record { 0 = 1 }) address (byte ∷ [])

abbrev pub load : ℕ → Command
load address = commands.Load (record { 0 = 1 }) address 1

abbrev pub chain : ℕ → ℕ → Command
chain c p = commands.Chain (record { 0 = c }) (record { 0 = p })

abbrev pub open_ : ℕ → Command
open_ seg = commands.OpenSegment (record { 0 = seg })

abbrev pub invalidate : ℕ → ℕ → ℕ → Command
invalidate c o n = commands.Invalidate (extent c o n)

abbrev pub sync : ℕ → ℕ → ℕ → Command
sync c o n = commands.Sync (extent c o n)

abbrev pub flush : ℕ → ℕ → ℕ → Command
flush c o n = commands.Flush (extent c o n)

abbrev pub ok : Answer
ok = Ok replies.Done

abbrev pub ok_a : ℕ → Answer
ok_a n = Ok (replies.Actor (record { 0 = n }))

abbrev pub ok_c : ℕ → Answer
ok_c n = Ok (replies.Cache (record { 0 = n }))

abbrev pub ok_r : ℕ → Answer
ok_r n = Ok (replies.Region (record { 0 = n }))

-- a region of the first actor, unlocked
abbrev pub ok_status : Extent → ℕ → Bool → Answer
ok_status pages address write = Ok (replies.Status (record {
  actor = record { 0 = 1 };
  mapping = record { extent = pages; address = address; prot = record { write = write } };
  locked = false;
}))

abbrev pub ok_byte : ℕ → Answer
ok_byte byte = Ok (replies.Bytes (byte ∷ []))

abbrev pub ok_chain : List ChainItem → Answer
ok_chain items = Ok (replies.Chain items)

abbrev pub ok_stat : ℕ → ℕ → ℕ → Answer
ok_stat live working copies =
    Ok (replies.Stat (record { live = live; working = working; copies = copies }))

abbrev pub no : Refusal → Answer
no r = Err (troubles.Refused r)

abbrev pub item : NodeName → ℕ → ChainItem
item x n = record { name = x; children = n }

abbrev pub page : ℕ → ℕ → NodeName
page c p = page_name (record { 0 = c }) p

-- The scripts

abbrev pub TreeCopyOfNinePages : Type 0
TreeCopyOfNinePages = Answers
    (commands.MakeActor ∷ temp 9 ∷ temp 9 ∷ map_ 1 9 65536 ∷ map_ 2 9 131072 ∷ store 65536 1
    ∷ copy 1 0 2 0 9 ∷ chain 2 0
    ∷ store 65536 2 ∷ load 131072 ∷ load 65536 ∷ chain 2 0 ∷ chain 1 0 ∷ commands.Stat ∷ [])
    (ok_a 1 ∷ ok_c 1 ∷ ok_c 2 ∷ ok_r 1 ∷ ok_r 2 ∷ ok ∷ ok
    ∷ ok_chain (item (page 2 0) 0 ∷ item (page 1 0) 1 ∷ [])
    ∷ ok ∷ ok_byte 1 ∷ ok_byte 2 ∷ ok_chain (item (page 2 0) 0 ∷ [])
    ∷ ok_chain (item (page 1 0) 1 ∷ []) ∷ ok_stat 18 0 1 ∷ [])

abbrev pub Stubs : Type 0
Stubs = Answers
    (commands.MakeActor ∷ temp 8 ∷ temp 8 ∷ temp 8 ∷ map_ 1 8 65536 ∷ map_ 2 8 131072
    ∷ map_ 3 8 196608 ∷ store 65536 1
    ∷ copy 1 0 2 0 8 ∷ copy 1 0 3 0 8 ∷ chain 1 0 ∷ store 65536 2 ∷ chain 3 0 ∷ chain 1 0
    ∷ store 131072 3
    ∷ load 65536 ∷ load 131072 ∷ load 196608 ∷ commands.Stat ∷ [])
    (ok_a 1 ∷ ok_c 1 ∷ ok_c 2 ∷ ok_c 3 ∷ ok_r 1 ∷ ok_r 2 ∷ ok_r 3 ∷ ok
    ∷ ok ∷ ok ∷ ok_chain (item (page 1 0) 2 ∷ []) ∷ ok
    ∷ ok_chain (item (page 3 0) 0 ∷ item (page 2 0) 1 ∷ []) ∷ ok_chain (item (page 1 0) 0 ∷ [])
    ∷ ok
    ∷ ok_byte 2 ∷ ok_byte 3 ∷ ok_byte 1 ∷ ok_stat 24 0 2 ∷ [])

abbrev pub DeadSourceThenAMerge : Type 0
DeadSourceThenAMerge = Answers
    (commands.MakeActor ∷ temp 9 ∷ temp 9 ∷ temp 9 ∷ map_ 1 9 65536 ∷ map_ 2 9 131072
    ∷ store 65536 1
    ∷ copy 1 0 2 0 9 ∷ copy 1 0 3 0 9 ∷ destroy 1 ∷ unmap 1 ∷ destroy 1 ∷ chain 2 0 ∷ commands.Stat
    ∷ destroy 3 ∷ chain 2 0 ∷ commands.Stat ∷ load 131072 ∷ [])
    (ok_a 1 ∷ ok_c 1 ∷ ok_c 2 ∷ ok_c 3 ∷ ok_r 1 ∷ ok_r 2 ∷ ok
    ∷ ok ∷ ok ∷ no refusals.InUse ∷ ok ∷ ok ∷ ok_chain (item (page 2 0) 0 ∷ item (Working 1) 2 ∷ [])
    ∷ ok_stat 18 9 0
    ∷ ok ∷ ok_chain (item (page 2 0) 0 ∷ []) ∷ ok_stat 9 0 0 ∷ ok_byte 1 ∷ [])

abbrev pub MoveOfACopiedPage : Type 0
MoveOfACopiedPage = Answers
    (commands.MakeActor ∷ temp 1 ∷ temp 1 ∷ temp 1 ∷ map_ 1 1 65536 ∷ map_ 2 1 131072
    ∷ map_ 3 1 196608 ∷ store 65536 9
    ∷ copy 1 0 3 0 1 ∷ move_ 1 0 2 0 1 ∷ chain 3 0 ∷ load 65536 ∷ load 131072 ∷ store 131072 10
    ∷ load 196608 ∷ commands.Stat ∷ [])
    (ok_a 1 ∷ ok_c 1 ∷ ok_c 2 ∷ ok_c 3 ∷ ok_r 1 ∷ ok_r 2 ∷ ok_r 3 ∷ ok
    ∷ ok ∷ ok ∷ ok_chain (item (page 3 0) 0 ∷ item (page 2 0) 1 ∷ []) ∷ ok_byte 0 ∷ ok_byte 9 ∷ ok
    ∷ ok_byte 9 ∷ ok_stat 3 0 1 ∷ [])

abbrev pub ThereAndBack : Type 0
ThereAndBack = Answers
    (commands.MakeActor ∷ temp 1 ∷ temp 1 ∷ map_ 1 1 65536 ∷ map_ 2 1 131072 ∷ store 65536 1
    ∷ copy 1 0 2 0 1 ∷ copy 2 0 1 0 1
    ∷ chain 1 0 ∷ store 65536 2 ∷ store 131072 3 ∷ load 65536 ∷ load 131072 ∷ commands.Stat ∷ [])
    (ok_a 1 ∷ ok_c 1 ∷ ok_c 2 ∷ ok_r 1 ∷ ok_r 2 ∷ ok ∷ ok ∷ ok
    ∷ ok_chain (item (page 1 0) 0 ∷ item (page 2 0) 1 ∷ []) ∷ ok ∷ ok ∷ ok_byte 2 ∷ ok_byte 3
    ∷ ok_stat 2 0 1 ∷ [])

-- Each command of these is refused by a rule of its own, in the order of its row.
abbrev pub RefusedCommands : Type 0
RefusedCommands = Answers
    (temp 4 ∷ move_ 1 0 2 0 1 ∷ move_ 1 0 1 2 3 ∷ move_ 1 0 1 0 1 ∷ move_ 1 0 1 2 2 ∷ destroy 2
    ∷ unmap 1 ∷ chain 2 0 ∷ chain 1 4
    ∷ commands.PageOut 3 ∷ destroy 1 ∷ chain 1 0 ∷ commands.Stat ∷ [])
    (ok_c 1 ∷ no refusals.NoCache ∷ no refusals.OutOfCache ∷ no refusals.Overlap ∷ ok
    ∷ no refusals.NoCache ∷ no refusals.NoRegion
    ∷ no refusals.NoCache ∷ no refusals.OutOfCache ∷ ok ∷ ok ∷ no refusals.NoCache ∷ ok_stat 0 0 0
    ∷ [])

-- A region is cut in two and the one behind it protected; each is told, found and refused as its
-- row says, until their actor ends.
abbrev pub SplitProtectedAndExited : Type 0
SplitProtectedAndExited = Answers
    (commands.MakeActor ∷ temp 4 ∷ temp 1 ∷ map_ 1 4 65536 ∷ map_ 2 1 131072 ∷ store 131072 9
    ∷ split 3 1 ∷ split 1 4 ∷ status 1
    ∷ split 1 1 ∷ status 1 ∷ status 3
    ∷ protect 4 false ∷ protect 3 false ∷ status 3
    ∷ status 4 ∷ store 65537 7 ∷ store 65538 8 ∷ load 65537 ∷ load 65538
    ∷ find 2 65536 ∷ find 1 65535 ∷ find 1 65544
    ∷ find 1 65537 ∷ find 1 65538 ∷ find 1 131073
    ∷ split 3 1 ∷ status 4 ∷ unmap 3 ∷ find 1 65538 ∷ find 1 65540
    ∷ destroy 1 ∷ exit_ 2 ∷ exit_ 1 ∷ exit_ 1
    ∷ status 1 ∷ protect 1 true ∷ split 1 1 ∷ find 1 65536
    ∷ load 131072 ∷ destroy 1 ∷ [])
    (ok_a 1 ∷ ok_c 1 ∷ ok_c 2 ∷ ok_r 1 ∷ ok_r 2 ∷ ok
    ∷ no refusals.NoRegion ∷ no refusals.BadAddress ∷ ok_status (extent 1 0 4) 65536 true
    ∷ ok_r 3 ∷ ok_status (extent 1 0 1) 65536 true ∷ ok_status (extent 1 1 3) 65538 true
    ∷ no refusals.NoRegion ∷ ok ∷ ok_status (extent 1 1 3) 65538 false
    ∷ no refusals.NoRegion ∷ ok ∷ no refusals.Protection ∷ ok_byte 7 ∷ ok_byte 0
    ∷ no refusals.NoActor ∷ no refusals.BadAddress ∷ no refusals.BadAddress
    ∷ ok_r 1 ∷ ok_r 3 ∷ ok_r 2
    ∷ ok_r 4 ∷ ok_status (extent 1 2 2) 65540 false ∷ ok ∷ no refusals.BadAddress ∷ ok_r 4
    ∷ no refusals.InUse ∷ no refusals.NoActor ∷ ok ∷ no refusals.NoActor
    ∷ no refusals.NoRegion ∷ no refusals.NoRegion ∷ no refusals.NoRegion ∷ no refusals.NoActor
    ∷ no refusals.NoActor ∷ ok ∷ [])

-- Five pages of a copy are locked, and with 8 frames a sixth can't be: until they are unlocked,
-- they are neither unmapped nor copied to. A locked page is a copy of its own, and is stored into.
abbrev pub LockedAndUnlocked : Type 0
LockedAndUnlocked = Answers
    (commands.MakeActor ∷ temp 6 ∷ temp 6 ∷ map_ 1 6 65536 ∷ store 65536 1 ∷ copy 1 0 2 0 6
    ∷ map_part 2 0 5 131072 ∷ map_part 2 5 1 196608 ∷ lock 2 ∷ lock 3 ∷ lock 2 ∷ unlock 3
    ∷ store 131072 2 ∷ load 65536 ∷ unmap 2 ∷ copy 1 0 2 0 1
    ∷ unlock 2 ∷ lock 3 ∷ commands.Stat ∷ [])
    (ok_a 1 ∷ ok_c 1 ∷ ok_c 2 ∷ ok_r 1 ∷ ok ∷ ok
    ∷ ok_r 2 ∷ ok_r 3 ∷ ok ∷ no refusals.LockLimit ∷ no refusals.Locked ∷ no refusals.NotLocked
    ∷ ok ∷ ok_byte 1 ∷ no refusals.Locked ∷ no refusals.Locked
    ∷ ok ∷ ok ∷ ok_stat 12 0 6 ∷ [])

-- The page that a store changed is lost where it is invalidated, and a copy that was made before
-- keeps it.
abbrev pub StoredAndInvalidated : Type 0
StoredAndInvalidated = AnswersOver (one_segment ((65 ∷ 66 ∷ []) ∷ []))
    (commands.MakeActor ∷ open_ 1 ∷ map_ 1 1 65536 ∷ load 65536 ∷ store 65536 88
    ∷ temp 1 ∷ copy 1 0 2 0 1 ∷ map_ 2 1 131072 ∷ sync 1 0 1 ∷ flush 1 0 1
    ∷ invalidate 1 0 1 ∷ load 65536 ∷ load 131072 ∷ chain 1 0 ∷ chain 2 0 ∷ commands.Stat ∷ [])
    (ok_a 1 ∷ ok_c 1 ∷ ok_r 1 ∷ ok_byte 65 ∷ ok
    ∷ ok_c 2 ∷ ok ∷ ok_r 2 ∷ ok ∷ ok
    ∷ ok ∷ ok_byte 65 ∷ ok_byte 88 ∷ ok_chain (item (page 1 0) 0 ∷ [])
    ∷ ok_chain (item (page 2 0) 0 ∷ []) ∷ ok_stat 2 0 1 ∷ [])

-- A copy of a named cache gets its page when that cache goes. The segment can be opened again then,
-- and not before.
abbrev pub SourceOfACopyReopened : Type 0
SourceOfACopyReopened = AnswersOver (one_segment ((65 ∷ 66 ∷ []) ∷ (67 ∷ 68 ∷ []) ∷ []))
    (open_ 1 ∷ temp 2 ∷ copy 1 0 2 0 2 ∷ commands.Stat ∷ open_ 1 ∷ destroy 1 ∷ commands.Stat
    ∷ chain 2 1 ∷ open_ 1 ∷ commands.MakeActor ∷ map_ 2 2 65536 ∷ map_ 3 2 131072 ∷ store 131072 90
    ∷ load 65536 ∷ load 131072 ∷ [])
    (ok_c 1 ∷ ok_c 2 ∷ ok ∷ ok_stat 4 0 0 ∷ no refusals.SegmentInUse ∷ ok ∷ ok_stat 2 0 2
    ∷ ok_chain (item (page 2 1) 0 ∷ []) ∷ ok_c 3 ∷ ok_a 1 ∷ ok_r 1 ∷ ok_r 2 ∷ ok
    ∷ ok_byte 65 ∷ ok_byte 90 ∷ [])

-- Each command with a segment that is refused, in the order of its row.
abbrev pub RefusedSegments : Type 0
RefusedSegments = AnswersOver (one_segment ((65 ∷ 66 ∷ []) ∷ []))
    (open_ 2 ∷ temp 1 ∷ open_ 1 ∷ open_ 1 ∷ sync 3 0 1 ∷ sync 1 0 1 ∷ sync 2 0 2 ∷ flush 3 0 1
    ∷ flush 1 0 1 ∷ flush 2 1 1 ∷ invalidate 3 0 1 ∷ invalidate 1 0 1 ∷ invalidate 2 0 2
    ∷ move_ 2 0 1 0 1 ∷ move_ 1 0 2 0 1 ∷ destroy 2 ∷ open_ 1 ∷ commands.Stat ∷ [])
    (no refusals.NoSegment ∷ ok_c 1 ∷ ok_c 2 ∷ no refusals.SegmentInUse ∷ no refusals.NoCache
    ∷ no refusals.NotNamed ∷ no refusals.OutOfCache ∷ no refusals.NoCache
    ∷ no refusals.NotNamed ∷ no refusals.OutOfCache ∷ no refusals.NoCache ∷ no refusals.NotNamed
    ∷ no refusals.OutOfCache
    ∷ no refusals.NotTemp ∷ ok ∷ ok ∷ ok_c 3 ∷ ok_stat 2 0 0 ∷ [])
