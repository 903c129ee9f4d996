-- The numbers of refusals.
use Rattle.std.specs.Prelude.{ℕ}
use Rattle.vm_ids.specs.declared.refusal.Refusal.{Refusal}
use Rattle.vm_ids.specs.declared.refusal.Refusal.TheVariants.{BadLine, NoActor, NoCache, NoRegion, NoSegment, SegmentInUse, OutOfCache, BadAddress, Protection, Overlap, Unaligned, Crosses, WriteDenied, Locked, LockLimit, InUse, TooMany, NotTemp, NotNamed, NotLocked, Full, NoProcess, BadImage, TooLarge, NoPort, PortFull, PortEmpty, NotOpen}

-- Each refusal has a number from 1 to 28.
abbrev pub refusal_number : Refusal → ℕ
refusal_number BadLine = 1
refusal_number NoActor = 2
refusal_number NoCache = 3
refusal_number NoRegion = 4
refusal_number NoSegment = 5
refusal_number SegmentInUse = 6
refusal_number OutOfCache = 7
refusal_number BadAddress = 8
refusal_number Protection = 9
refusal_number Overlap = 10
refusal_number Unaligned = 11
refusal_number Crosses = 12
refusal_number WriteDenied = 13
refusal_number Locked = 14
refusal_number LockLimit = 15
refusal_number InUse = 16
refusal_number TooMany = 17
refusal_number NotTemp = 18
refusal_number NotNamed = 19
refusal_number NotLocked = 20
refusal_number Full = 21
refusal_number NoProcess = 22
refusal_number BadImage = 23
refusal_number TooLarge = 24
refusal_number NoPort = 25
refusal_number PortFull = 26
refusal_number PortEmpty = 27
refusal_number NotOpen = 28
