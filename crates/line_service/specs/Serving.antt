-- What the calls of a service say.
use Rattle.std.specs.Prelude.{◌≡◌, ◌≢◌, ◌^◌, ℕ, Bool, true, List, [], ◌∷◌, Option, Ok, Err}
use Rattle.std.specs.List.{AllByRecursion}
use Rattle.vm_ids.specs.Counting.{MapperCounts, Rise, no_counts}
use Rattle.vm_ids.specs.Held.{Held}
use Rattle.vm_ids.specs.declared.access.Access.{Access}
use Rattle.vm_ids.specs.declared.numbers.ActorId.{ActorId}
use Rattle.vm_ids.specs.declared.reply.Trouble.TheVariants.{Mapper}
use Rattle.vm_model.specs.Answering.{Answer}
use Rattle.vm_model.specs.Steps.{Semantics}

-- An answer raises the number that bounds a service's counters by no more than this.
abbrev pub answer_budget : ℕ
answer_budget = 2 ^ 32

-- it is read in some line
abbrev pub IsReadSomewhere : {Read : Type 0} → (List ℕ → Read) → Read → Type 0
IsReadSomewhere read is = (line : List ℕ) × (read line ≡ is)

-- A line is answered, by one step that leads from one state to the next while the mapper's counts
-- go from c to d, and P holds of how far they rise in it.
pub record AnswersBy (S : Semantics) (P : MapperCounts → Type 0) (c d : MapperCounts)
    (before : S.State) (read : S.Read) (answer : Answer) (after : S.State) : Type 0 where
  pub rises : MapperCounts
  pub rose : Rise c d rises
  pub is : S.StepIs before read answer rises after
  pub so : P rises

-- by whatever they rise
abbrev pub AnyRise : MapperCounts → Type 0
AnyRise rises = Unit {0}

-- An access has to wait for its page: nothing refuses it, and all is as before. A call of the
-- mapper may have failed all the same.
pub record Waits (S : Semantics) (c d : MapperCounts) (before : S.State) (read : S.Read)
    (after : S.State) : Type 0 where
  pub same : after ≡ before
  pub admitted : S.Admits before read
  pub rose : Rise c d no_counts

-- It is carried out, or a call of the mapper failed.
abbrev pub IsDoneOrFault : Answer → Type 0
IsDoneOrFault (Ok reply) = Unit {0}
IsDoneOrFault (Err (Mapper at)) = Unit {0}
IsDoneOrFault (Err trouble) = ⊥

-- no access is ready that wasn't
abbrev pub NoMoreReady : {Service : Type 0} → (Service → ActorId → Access → Bool) → Service
    → Service → Type 0
NoMoreReady ready old new = (actor : ActorId) (access : Access)
    → ready new actor access ≡ true → ready old actor access ≡ true

-- what was let in still is
abbrev pub StillAdmits : {Service Read : Type 0} → (Service → Read → Type 0) → Service → Service
    → Type 0
StillAdmits {Service} {Read} admits old new = (read : Read) → admits old read → admits new read

-- whoever was alive still is
abbrev pub StillLive : {Service : Type 0} → (Service → Option Held → ℕ → Type 0) → Service
    → Option Held → Service → Option Held → Type 0
StillLive lives old held new held_now = (actor : ℕ) → lives old held actor
    → lives new held_now actor

-- no two of these are the same
abbrev pub AreDistinct : List ℕ → Type 0
AreDistinct [] = Unit {0}
AreDistinct (actor ∷ actors) =
    AllByRecursion (λ other. actor ≢ other) actors × AreDistinct actors
