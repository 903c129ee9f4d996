-- What the calls of the manager of segments have in common.
use Rattle.std.specs.Prelude.{◌≡◌, ◌==◌, ◌≤◌, ◌⊎◌, List, ℕ, ◌+◌, ◌^◌, [], ◌∷◌, ◌++◌, drop, length, take, Option, Some, Result, Ok, Err}
use Rattle.std.specs.List.{list_any}
use Rattle.vm_ids.specs.Counting.{MapperCounts, Rise, no_counts}
use Rattle.vm_ids.specs.Held.{Held, Segments, segments_of}
use Rattle.vm_ids.specs.declared.command.Command.{Command}
use Rattle.vm_ids.specs.declared.command.Command.TheVariants as plain_commands
use Rattle.vm_ids.specs.declared.command.KeepCommand.{KeepCommand}
use Rattle.vm_ids.specs.declared.command.KeepCommand.TheVariants as commands
use Rattle.vm_ids.specs.declared.numbers.CacheId.{CacheId}
use Rattle.vm_ids.specs.declared.numbers.SegId.{SegId}
use Rattle.vm_ids.specs.declared.refusal.Refusal.TheVariants.{TooMany}
use Rattle.vm_ids.specs.declared.reply.FaultAt.{FaultAt}
use Rattle.vm_ids.specs.declared.reply.Reply.TheVariants as replies
use Rattle.vm_ids.specs.declared.reply.Trouble.{Trouble}
use Rattle.vm_ids.specs.declared.reply.Trouble.TheVariants as troubles
use Rattle.vm_ids.specs.declared.reply.Trouble.TheVariants.{Memory, Refused}
use Rattle.vm_model.specs.Answering.{Answer, answer_by}
use Rattle.vm_model.specs.Machine.{Machine}
use Rattle.vm_model.specs.Outcome.{OutcomeAt}
use Rattle.vm_port.specs.declared.traits.mapper.Mapper.{Ghosts as GhostsOfMapper}
use Rattle.gmi_calls.specs.Calling.{MapperCall, done_by}
use Rattle.gmi_calls.specs.Managing.{meanings_of}
use Rattle.gmi_calls.specs.declared.gmi.Gmi.{Ghosts as GhostsOfGmi}
use Rattle.seg_manager.specs.Inner.{span_shown}
use Rattle.seg_manager.specs.Keeping.{AreBehind, AreLast, IsAcquired, cache_for, left_by, mapped_in, mapped_under, referred, without}
use Rattle.seg_manager.specs.ReferenceMachine.{ReferenceMachine, number_in}
use Rattle.seg_manager.specs.Seen.{kept_segments, known, stored_beside, state_of, whole_of}
use Rattle.seg_manager.specs.Stepping.{AnswerIs, State}
use Rattle.seg_manager.specs.Tying.{CanCall}
use Rattle.seg_manager.specs.declared.manager.SegManager.{SegManager}
use Rattle.seg_manager.specs.declared.tables.Kept.{Kept}

-- the commands of the manager below that a script of segments has, but for the opening of a segment
abbrev pub IsServed : Command → Type 0
IsServed plain_commands.MakeActor = Unit {0}
IsServed (plain_commands.ExitActor actor) = Unit {0}
IsServed (plain_commands.MakeTemp pages) = Unit {0}
IsServed (plain_commands.Copy span) = Unit {0}
IsServed (plain_commands.Map actor mapping) = Unit {0}
IsServed (plain_commands.Unmap region) = Unit {0}
IsServed (plain_commands.Load actor address length) = Unit {0}
IsServed (plain_commands.Store actor address piece) = Unit {0}
IsServed (plain_commands.PageOut count) = Unit {0}
IsServed command = ⊥

-- those that are passed on as they are: they name no cache, and take no reference away
abbrev pub IsPassed : Command → Type 0
IsPassed plain_commands.MakeActor = Unit {0}
IsPassed (plain_commands.Load actor address length) = Unit {0}
IsPassed (plain_commands.Store actor address piece) = Unit {0}
IsPassed (plain_commands.PageOut count) = Unit {0}
IsPassed command = ⊥

-- the number that bounds the counters of the manager below
abbrev pub made_by : {Manager Mapper Chooser : Type 0} → GhostsOfGmi Manager Mapper Chooser
    → SegManager Manager → ℕ
made_by G manager = G.made manager.gmi

-- no segment is open, over a manager that stands for this machine
abbrev pub beginning : Machine → Option Segments → State
beginning m segments = record {
  references = known segments
      (record { memory = m; stored = stored_beside m segments; openings = λ seg. 0 });
  segments = segments;
}

-- A call raises the number that bounds the counters of the manager below by no more than this.
abbrev pub call_budget : ℕ
call_budget = 2 ^ 32

-- A call of the manager of segments. `M` and `G` are the ghost members of the mapper and of the
-- manager below, which makes at most one cache more.
pub record SegmentCall {Manager Mapper Chooser : Type 0} (M : GhostsOfMapper Mapper)
    (G : GhostsOfGmi Manager Mapper Chooser) (before : Mapper) (old : SegManager Manager)
    (command : KeepCommand) (answer : Answer) (after : Mapper) (new : SegManager Manager)
    : Type 0 where
  pub can : CanCall G new (M.held after) (M.page_bytes after)
  pub made : G.made new.gmi ≤ G.made old.gmi + call_budget
  pub limit : new.limit ≡ old.limit
  pub one : length (G.machine new.gmi (M.held after)).caches
      ≤ length (G.machine old.gmi (M.held before)).caches + 1
  pub rises : MapperCounts
  pub rose : Rise (M.counts before) (M.counts after) rises
  pub is : AnswerIs (state_of G old (M.held before)) command answer rises
      (state_of G new (M.held after))

-- the manager below has no room, as it is: it would refuse the command as too many
abbrev pub HasNoRoom : {Manager Mapper Chooser : Type 0} → GhostsOfGmi Manager Mapper Chooser
    → Manager → Option Held → Command → Type 0
HasNoRoom G gmi told command = OutcomeAt (segments_of told) (G.machine gmi told)
    (G.forest gmi told) command (Err (Refused TooMany)) (G.machine gmi told) no_counts

-- the same where the caches of these segments are gone
abbrev pub HasNoRoomWithout : {Manager Mapper Chooser : Type 0}
    → GhostsOfGmi Manager Mapper Chooser → Manager → Option Held → Command → List ℕ → Type 0
HasNoRoomWithout G gmi told command gone =
    OutcomeAt (segments_of told) (without gone (G.machine gmi told)) (G.forest gmi told) command
    (Err (Refused TooMany)) (without gone (G.machine gmi told)) no_counts

-- the cache with this number was found, or there was no memory for another reference to it
abbrev pub IsFound : ℕ → Result CacheId Trouble → Type 0
IsFound n (Ok cache) = cache.0 ≡ n
IsFound n (Err trouble) = trouble ≡ Memory

-- The last call of the manager below failed at this fault: it was the command itself; or, where some
-- of the least recently used had gone to make room, a destroy of the next one.
pub record FailsBelow {Manager Mapper Chooser : Type 0} (M : GhostsOfMapper Mapper)
    (G : GhostsOfGmi Manager Mapper Chooser) (before : Mapper) (old : SegManager Manager)
    (command : Command) (at : FaultAt) (after : Mapper) (new : SegManager Manager) : Type 0 where
  pub gone : ℕ
  pub middle : Mapper
  pub by : Manager
  pub machine : G.machine by (M.held middle)
      ≡ without (take gone (kept_segments old.kept.items)) (G.machine old.gmi (M.held before))
  pub failing : Command
  pub is : (failing ≡ command) ⊎ ((next : Kept) × (rest : List Kept)
      × (drop gone old.kept.items ≡ next ∷ rest)
      × (failing ≡ plain_commands.Destroy next.cache))
  pub call : MapperCall M (meanings_of G) middle by failing (Err (troubles.Mapper at)) after
      new.gmi

-- An opening of a segment. A cache that there is keeps its number, and the mapper isn't called.
pub record Acquires {Manager Mapper Chooser : Type 0} (M : GhostsOfMapper Mapper)
    (G : GhostsOfGmi Manager Mapper Chooser) (before : Mapper) (old : SegManager Manager)
    (seg : SegId) (result : Result CacheId Trouble) (after : Mapper) (new : SegManager Manager)
    : Type 0 where
  pub call : SegmentCall M G before old (commands.Plain (plain_commands.OpenSegment seg))
      (answer_by replies.Cache result) after new
  pub kept : IsAcquired
      (HasNoRoomWithout G old.gmi (M.held before) (plain_commands.OpenSegment seg))
      (list_any (λ s. s == seg.0) (kept_segments old.kept.items)) seg.0
      (kept_segments old.kept.items) result (kept_segments new.kept.items)
  pub again : (n : ℕ) → number_in 1 (G.machine old.gmi (M.held before)).caches seg.0 ≡ Some n
      → (after ≡ before) × IsFound n result
  pub too_many : result ≡ Err (Refused TooMany) → (new.kept.items ≡ [])
      × HasNoRoom G new.gmi (M.held after) (plain_commands.OpenSegment seg)
  pub fault : (at : FaultAt) → result ≡ Err (troubles.Mapper at)
      → FailsBelow M G before old (plain_commands.OpenSegment seg) at after new

-- what there is below, with what refers to it
abbrev pub below : {Manager Mapper Chooser : Type 0} → GhostsOfGmi Manager Mapper Chooser
    → SegManager Manager → Option Held → ReferenceMachine
below G manager told =
    whole_of (G.machine manager.gmi told) (segments_of told) manager.caches.items

-- Where references to these caches went, those of them to which nothing refers any more are kept;
-- and of all that are kept then, the last ones.
abbrev pub KeepsLast : {Manager Mapper Chooser : Type 0} → GhostsOfMapper Mapper
    → GhostsOfGmi Manager Mapper Chooser → Mapper → SegManager Manager → List ℕ → Mapper
    → SegManager Manager → Type 0
KeepsLast M G before old caches after new =
    AreLast old.limit (M.counts before).faults (M.counts after).faults
    (kept_segments old.kept.items
    ++ left_by (referred (below G old (M.held before)) (below G new (M.held after))) caches)
    (kept_segments new.kept.items)

-- the same where a call is answered so; else the same are kept as before
abbrev pub KeepsLastBy : {Manager Mapper Chooser : Type 0} → GhostsOfMapper Mapper
    → GhostsOfGmi Manager Mapper Chooser → Mapper → SegManager Manager → List ℕ → Answer → Mapper
    → SegManager Manager → Type 0
KeepsLastBy M G before old caches (Ok reply) after new =
    KeepsLast M G before old caches after new
KeepsLastBy M G before old caches (Err trouble) after new = new.kept.items ≡ old.kept.items

-- An opening is taken back.
pub record Releases {Manager Mapper Chooser : Type 0} (M : GhostsOfMapper Mapper)
    (G : GhostsOfGmi Manager Mapper Chooser) (before : Mapper) (old : SegManager Manager)
    (seg : SegId) (result : Result (Unit {0}) Trouble) (after : Mapper)
    (new : SegManager Manager) : Type 0 where
  pub call : SegmentCall M G before old (commands.Close seg) (done_by result) after new
  pub kept : KeepsLastBy M G before old
      (cache_for (G.machine old.gmi (M.held before)) seg.0) (done_by result) after new

-- Which caches are kept after another command. A copy is one of the manager below, between caches
-- as they are found: so where it fails at a save, that manager tells how many were done.
abbrev pub AnswersKept : {Manager Mapper Chooser : Type 0} → GhostsOfMapper Mapper
    → GhostsOfGmi Manager Mapper Chooser → Mapper → SegManager Manager → Command → Answer → Mapper
    → SegManager Manager → Type 0
AnswersKept M G before old (plain_commands.ExitActor actor) answer after new =
    KeepsLastBy M G before old (mapped_in (G.machine old.gmi (M.held before)) actor.0) answer
    after new
AnswersKept M G before old (plain_commands.Unmap region) answer after new =
    KeepsLastBy M G before old (mapped_under (G.machine old.gmi (M.held before)) region.0) answer
    after new
AnswersKept M G before old (plain_commands.MakeTemp pages) answer after new =
    AreBehind (HasNoRoomWithout G old.gmi (M.held before) (plain_commands.MakeTemp pages))
    (kept_segments old.kept.items) (kept_segments new.kept.items)
    × (answer ≡ Err (Refused TooMany) → (new.kept.items ≡ [])
    × HasNoRoom G new.gmi (M.held after) (plain_commands.MakeTemp pages))
    × ((at : FaultAt) → answer ≡ Err (troubles.Mapper at)
    → FailsBelow M G before old (plain_commands.MakeTemp pages) at after new)
AnswersKept M G before old (plain_commands.Copy span) answer after new =
    (new.kept.items ≡ old.kept.items)
    × MapperCall M (meanings_of G) before old.gmi
    (plain_commands.Copy (span_shown old.kept.items span)) answer after new.gmi
AnswersKept M G before old command answer after new = new.kept.items ≡ old.kept.items

-- A command of the manager's own: what is answered, and which caches are kept then.
pub record Serves {Manager Mapper Chooser : Type 0} (M : GhostsOfMapper Mapper)
    (G : GhostsOfGmi Manager Mapper Chooser) (before : Mapper) (old : SegManager Manager)
    (command : Command) (answer : Answer) (after : Mapper) (new : SegManager Manager)
    : Type 0 where
  pub call : SegmentCall M G before old (commands.Plain command) answer after new
  pub kept : AnswersKept M G before old command answer after new
