-- The texts of replies.
use Rattle.std.specs.Prelude.{ℕ, List, ◌++◌, Bool, false, codes, decimal, Ok, Err, if◌then◌else◌}
use Rattle.std.specs.Fmt.{digits}
use Rattle.std.specs.List.{flat_map}
use Rattle.hex.specs.Hex.{encode_lower}
use Rattle.vm_ids.specs.declared.chain.ChainItem.{ChainItem}
use Rattle.vm_ids.specs.declared.node_name.NodeName.{NodeName}
use Rattle.vm_ids.specs.declared.node_name.NodeName.TheVariants as names
use Rattle.vm_ids.specs.declared.command.Prot.{Prot}
use Rattle.vm_ids.specs.declared.reply.RegionStatus.{RegionStatus}
use Rattle.vm_ids.specs.declared.reply.Reply.{Reply}
use Rattle.vm_ids.specs.declared.reply.Reply.TheVariants as replies
use Rattle.vm_ids.specs.declared.reply.FaultAt.{FaultAt}
use Rattle.vm_ids.specs.declared.reply.FaultAt.TheVariants as faults
use Rattle.vm_ids.specs.declared.reply.Trouble.{Trouble}
use Rattle.vm_ids.specs.declared.reply.Trouble.TheVariants as troubles
use Rattle.vm_ids.specs.declared.refusal.Refusal.{Refusal}
use Rattle.vm_ids.specs.declared.refusal.Refusal.TheVariants as refusals
use Rattle.vm_model.specs.Answering.{Answer}

abbrev pub refusal_name : Refusal → List ℕ
refusal_name refusals.BadLine = codes "BadLine"
refusal_name refusals.NoActor = codes "NoActor"
refusal_name refusals.NoCache = codes "NoCache"
refusal_name refusals.NoRegion = codes "NoRegion"
refusal_name refusals.NoSegment = codes "NoSegment"
refusal_name refusals.SegmentInUse = codes "SegmentInUse"
refusal_name refusals.OutOfCache = codes "OutOfCache"
refusal_name refusals.BadAddress = codes "BadAddress"
refusal_name refusals.Protection = codes "Protection"
refusal_name refusals.Overlap = codes "Overlap"
refusal_name refusals.Unaligned = codes "Unaligned"
refusal_name refusals.Crosses = codes "Crosses"
refusal_name refusals.WriteDenied = codes "WriteDenied"
refusal_name refusals.Locked = codes "Locked"
refusal_name refusals.LockLimit = codes "LockLimit"
refusal_name refusals.InUse = codes "InUse"
refusal_name refusals.TooMany = codes "TooMany"
refusal_name refusals.NotTemp = codes "NotTemp"
refusal_name refusals.NotNamed = codes "NotNamed"
refusal_name refusals.NotLocked = codes "NotLocked"
refusal_name refusals.Full = codes "Full"
refusal_name refusals.NoProcess = codes "NoProcess"
refusal_name refusals.BadImage = codes "BadImage"
refusal_name refusals.TooLarge = codes "TooLarge"
refusal_name refusals.NoPort = codes "NoPort"
refusal_name refusals.PortFull = codes "PortFull"
refusal_name refusals.PortEmpty = codes "PortEmpty"
refusal_name refusals.NotOpen = codes "NotOpen"

-- The name of a page node: `cC:P` for page P of cache C, `wK` for a working node.
abbrev pub name_text : NodeName → List ℕ
name_text (names.Live cache page) = codes "c" ++ decimal cache.0 ++ codes ":" ++ decimal page.0
name_text (names.Working number) = codes "w" ++ decimal number

-- A node of a chain: a space, its name, `+` and how many children it has. Behind the last one
-- stands `*`.
abbrev pub item_text : ChainItem → List ℕ
item_text item = codes " " ++ name_text item.name ++ codes "+" ++ decimal item.children

-- a number in hexadecimal, in lower case and without leading zeros
abbrev pub hexadecimal : ℕ → List ℕ
hexadecimal n = digits 16 false n

-- what a region allows: `r` for reading, `rw` for writing too
abbrev pub mode_text : Prot → List ℕ
mode_text prot = if prot.write then codes "rw" else codes "r"

abbrev pub lock_text : Bool → List ℕ
lock_text locked = if locked then codes "locked" else codes "unlocked"

-- A region: its actor, address, pages and mode, its cache and first page there, and its lock.
abbrev pub status_text : RegionStatus → List ℕ
status_text status =
    let mapping = status.mapping in
    codes "ok a" ++ decimal status.actor.0 ++ codes " " ++ hexadecimal mapping.address
    ++ codes " " ++ decimal mapping.extent.pages ++ codes " " ++ mode_text mapping.prot
    ++ codes " c" ++ decimal mapping.extent.cache.0
    ++ codes " " ++ decimal mapping.extent.first.0 ++ codes " " ++ lock_text status.locked

abbrev pub ok_text : Reply → List ℕ
ok_text replies.Done = codes "ok"
ok_text (replies.Actor actor) = codes "ok a" ++ decimal actor.0
ok_text (replies.Cache cache) = codes "ok c" ++ decimal cache.0
ok_text (replies.Region region) = codes "ok r" ++ decimal region.0
ok_text (replies.Bytes bytes) = codes "ok " ++ encode_lower bytes
ok_text (replies.Status status) = status_text status
ok_text (replies.Chain items) = codes "chain" ++ flat_map item_text items ++ codes "*"
ok_text (replies.Stat counts) =
    codes "stat live " ++ decimal counts.live ++ codes " working " ++ decimal counts.working
    ++ codes " copies " ++ decimal counts.copies
ok_text (replies.Process process) = codes "ok p" ++ decimal process.0
ok_text (replies.Port port) = codes "ok q" ++ decimal port.0

abbrev pub fault_text : FaultAt → List ℕ
fault_text faults.Opening = codes "fault mapper open"
fault_text (faults.Access page) = codes "fault mapper access " ++ decimal page.0
fault_text (faults.Save done) = codes "fault mapper save " ++ decimal done
fault_text (faults.Page page) = codes "fault mapper page " ++ decimal page.0
fault_text faults.Victim = codes "fault mapper victim"

abbrev pub trouble_text : Trouble → List ℕ
trouble_text (troubles.Refused refusal) = codes "no " ++ refusal_name refusal
trouble_text (troubles.Mapper at) = fault_text at
trouble_text troubles.Memory = codes "fault memory"

abbrev pub answer_text : Answer → List ℕ
answer_text (Ok reply) = ok_text reply
answer_text (Err trouble) = trouble_text trouble

-- The line of a reply: the number of the line that it answers, a space, the answer and a line feed.
abbrev pub text_of : ℕ → Answer → List ℕ
text_of number answer = decimal number ++ codes " " ++ answer_text answer ++ codes "\n"
