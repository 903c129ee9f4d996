-- Two runs over one script, in which caches may get other numbers, as where managers keep more or
-- fewer caches that nothing refers to. The contract of a function in src/laws.rt names the law, and
-- so it is proved.
use Rattle.std.specs.Prelude.{◌≡◌, ◌==◌, ◌⊎◌, ℕ, Bool, false, true, not, List, [], ◌∷◌, filter, map, Option, None, option_map, Ok, Err, if◌then◌else◌}
use Rattle.vm_ids.specs.declared.command.Command.TheVariants as plain_commands
use Rattle.vm_ids.specs.declared.command.KeepCommand.{KeepCommand}
use Rattle.vm_ids.specs.declared.command.KeepCommand.TheVariants as commands
use Rattle.vm_ids.specs.declared.command.Mapping.{Mapping}
use Rattle.vm_ids.specs.declared.command.Span.{Span}
use Rattle.vm_ids.specs.declared.numbers.CacheId.{CacheId}
use Rattle.vm_ids.specs.declared.refusal.Refusal.TheVariants.{TooMany}
use Rattle.vm_ids.specs.declared.reply.Reply.TheVariants.{Cache}
use Rattle.vm_ids.specs.declared.reply.Trouble.TheVariants.{Mapper, Memory, Refused}
use Rattle.vm_model.specs.Answering.{Answer}
use Rattle.vm_model.specs.Machine.{Actor, Machine, Region, cache_of}
use Rattle.seg_manager.specs.Answering.{answer_of}
use Rattle.seg_manager.specs.Laws.{Chain, Step}
use Rattle.seg_manager.specs.ReferenceMachine.{ReferenceMachine, Stored, start}

-- Which number of the second run stands for a number of the first.
abbrev pub Renaming : Type 0
Renaming = ℕ → ℕ

-- at first each number stands for itself
abbrev pub same_numbers : Renaming
same_numbers number = number

-- From now on the second of these numbers stands for the first, and what stood for the first stands
-- for the number for which the second stood: so a number that no live cache has stands for another.
abbrev pub with_pair : ℕ → ℕ → Renaming → Renaming
with_pair first second renaming number =
    if number == first then second
    else if renaming number == second then renaming first
    else renaming number

-- behind two answers: the caches that they tell are one
abbrev pub renaming_behind : Renaming → Answer → Answer → Renaming
renaming_behind renaming (Ok (Cache first)) (Ok (Cache second)) =
    with_pair first.0 second.0 renaming
renaming_behind renaming first second = renaming

-- Of what the first run has, what the second has for it

abbrev pub renamed_cache : Renaming → CacheId → CacheId
renamed_cache renaming cache = record { 0 = renaming cache.0 }

abbrev pub renamed_span : Renaming → Span → Span
renamed_span renaming s =
    record s { from = renamed_cache renaming s.from; to = renamed_cache renaming s.to }

abbrev pub renamed_mapping : Renaming → Mapping → Mapping
renamed_mapping renaming p =
    record p { extent = record p.extent { cache = renamed_cache renaming p.extent.cache } }

-- Of the commands that a script of segments has, two name caches.
abbrev pub renamed : Renaming → KeepCommand → KeepCommand
renamed renaming (commands.Plain (plain_commands.Copy span)) =
    commands.Plain (plain_commands.Copy (renamed_span renaming span))
renamed renaming (commands.Plain (plain_commands.Map actor mapping)) =
    commands.Plain (plain_commands.Map actor (renamed_mapping renaming mapping))
renamed renaming command = command

abbrev pub renamed_answer : Renaming → Answer → Answer
renamed_answer renaming (Ok (Cache cache)) = Ok (Cache (renamed_cache renaming cache))
renamed_answer renaming answer = answer

abbrev pub renamed_region : Renaming → Region → Region
renamed_region renaming r = record r { cache = renaming r.cache }

abbrev pub renamed_actors : Renaming → List (Option Actor) → List (Option Actor)
renamed_actors renaming actors = map (option_map (map (renamed_region renaming))) actors

-- The second of these memories is the first, but for the numbers of caches.
pub record IsRenamed (renaming : Renaming) (m n : Machine) : Type 0 where
  pub page_bytes : n.page_bytes ≡ m.page_bytes
  pub caches : (number : ℕ) → cache_of n (renaming number) ≡ cache_of m number
  pub actors : n.actors ≡ renamed_actors renaming m.actors
  pub regions_made : n.regions_made ≡ m.regions_made

-- The same of machines: the same is stored, and as many openings are left.
pub record AreAlike (renaming : Renaming) (m n : ReferenceMachine) : Type 0 where
  pub memory : IsRenamed renaming m.memory n.memory
  pub stored : n.stored ≡ m.stored
  pub openings : n.openings ≡ m.openings

-- the commands that make a cache, which may lack room for it
abbrev pub makes_cache : KeepCommand → Bool
makes_cache (commands.Plain (plain_commands.OpenSegment seg)) = true
makes_cache (commands.Plain (plain_commands.MakeTemp pages)) = true
makes_cache command = false

-- It depends on the commands alone that this was answered: it is no mapper fault, no want of
-- memory, and not that there are too many caches or pages.
abbrev pub is_decided : KeepCommand → Answer → Bool
is_decided command (Err (Mapper at)) = false
is_decided command (Err Memory) = false
is_decided command (Err (Refused TooMany)) = not (makes_cache command)
is_decided command answer = true

-- the steps that aren't decided leave the machine as it is
abbrev pub decided : List Step → List Step
decided steps = filter (λ (s : Step). is_decided s.command s.answer) steps

-- the machine behind such a step
abbrev pub behind : ReferenceMachine → Step → ReferenceMachine
behind m s = (answer_of m s.command s.segments s.number).next

-- The names lead from each live cache as the renaming does, and from any other number to some
-- number that no live cache has.
abbrev pub NameTheSame : Renaming → ReferenceMachine → ReferenceMachine → Renaming → Type 0
NameTheSame renaming m n names =
    (number : ℕ)
    → (names number ≡ renaming number)
    ⊎ ((cache_of m.memory number ≡ None) × (cache_of n.memory (names number) ≡ None))

-- The same command, which names the same caches, where the mapper denies the same pages.
pub record IsSameStep (renaming : Renaming) (m n : ReferenceMachine) (s t : Step) : Type 0 where
  pub names : Renaming
  pub same : NameTheSame renaming m n names
  pub command : t.command ≡ renamed names s.command
  pub denied : t.segments.denied ≡ s.segments.denied

-- one such step after another
abbrev pub AreSameSteps : Renaming → ReferenceMachine → ReferenceMachine → List Step → List Step
    → Type 0
AreSameSteps renaming m n [] [] = Unit {0}
AreSameSteps renaming m n (s ∷ first) (t ∷ second) =
    IsSameStep renaming m n s t
    × AreSameSteps (renaming_behind renaming s.answer t.answer) (behind m s) (behind n t)
    first second
AreSameSteps renaming m n first second = ⊥

-- Each answer of the second run is that of the first, and the machines behind them are alike.
abbrev pub EndAlike : Renaming → List Step → List Step → ReferenceMachine → ReferenceMachine
    → Type 0
EndAlike renaming [] [] m n = AreAlike renaming m n
EndAlike renaming (s ∷ first) (t ∷ second) m n =
    let behind = renaming_behind renaming s.answer t.answer in
    (t.answer ≡ renamed_answer behind s.answer) × EndAlike behind first second m n
EndAlike renaming first second m n = ⊥

-- From one start two runs go on alike: whatever numbers new caches get in each, where the commands
-- that are decided in the second are those of the first, naming the same caches, the answers are
-- the same and tell the same caches, and the machines in which they end are alike. That holds of
-- each beginning of two runs too, so the machines are alike all the way.
abbrev pub RunsAreAlike : Type 0
RunsAreAlike =
    (frames page_bytes : ℕ) (stored : Stored) (first second : List Step) (m n : ReferenceMachine)
    → let from = start frames page_bytes stored in
    Chain from first m → Chain from second n
    → AreSameSteps same_numbers from from (decided first) (decided second)
    → EndAlike same_numbers (decided first) (decided second) m n

-- two answers that both tell a cache tell the same number
abbrev pub TellTheSame : Answer → Answer → Type 0
TellTheSame (Ok (Cache first)) (Ok (Cache second)) = second ≡ first
TellTheSame first second = Unit {0}

-- The same command, where the mapper denies the same pages and a cache gets the same number.
pub record IsEqualStep (s t : Step) : Type 0 where
  pub command : t.command ≡ s.command
  pub denied : t.segments.denied ≡ s.segments.denied
  pub numbers : TellTheSame s.answer t.answer

abbrev pub AreEqualSteps : List Step → List Step → Type 0
AreEqualSteps [] [] = Unit {0}
AreEqualSteps (s ∷ first) (t ∷ second) = IsEqualStep s t × AreEqualSteps first second
AreEqualSteps first second = ⊥

abbrev pub answers_of : List Step → List Answer
answers_of steps = map (λ (s : Step). s.answer) steps

-- So where caches get the same numbers in both, the answers are the same.
abbrev pub EqualRunsAnswerEqually : Type 0
EqualRunsAnswerEqually =
    (frames page_bytes : ℕ) (stored : Stored) (first second : List Step) (m n : ReferenceMachine)
    → Chain (start frames page_bytes stored) first m
    → Chain (start frames page_bytes stored) second n
    → AreEqualSteps (decided first) (decided second)
    → answers_of (decided second) ≡ answers_of (decided first)
