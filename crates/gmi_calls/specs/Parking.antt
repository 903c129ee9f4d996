-- Accesses that may wait for their page: how one is issued, and how it is delivered.
use Rattle.std.specs.Prelude.{◌≡◌, ◌==◌, ◌||◌, ◌<◌, not, ℕ, Bool, false, true, Ok, Err, IsOk}
use Rattle.vm_ids.specs.Counting.{MapperCounts, Rise, no_counts}
use Rattle.vm_ids.specs.declared.access.Access.{Access}
use Rattle.vm_ids.specs.declared.access.Access.TheVariants as accesses
use Rattle.vm_ids.specs.declared.command.Command.{Command}
use Rattle.vm_ids.specs.declared.reply.FaultAt.TheVariants.{Page}
use Rattle.vm_ids.specs.declared.reply.Trouble.TheVariants.{Mapper, Refused}
use Rattle.vm_model.specs.Answering.{Answer}
use Rattle.vm_model.specs.Run.{IsUnrefused, state_of}
use Rattle.vm_port.specs.declared.traits.mapper.Mapper.{Ghosts as GhostsOfMapper}
use Rattle.gmi_calls.specs.Calling.{MapperCall, Meanings}
use Rattle.gmi_calls.specs.Room.{StaysLimited, rises_in}
use Rattle.gmi_calls.specs.declared.delivered.Delivered.{Delivered}

-- the address of an access
abbrev pub address_of : Access → ℕ
address_of (accesses.Load address length) = address
address_of (accesses.Store address piece) = address

-- A call that answers an access, where P holds of how far the mapper's counts rose in it.
pub record AccessCall {Manager Mapper : Type 0} (M : GhostsOfMapper Mapper) (G : Meanings Manager)
    (P : MapperCounts → Type 0) (before : Mapper) (old : Manager) (command : Command)
    (answer : Answer) (after : Mapper) (new : Manager) : Type 0 where
  pub call : MapperCall M G before old command answer after new
  pub so : P (rises_in (G.room old) _ _ _ command answer _ call.answers)

-- no page is pulled
abbrev pub NoPull : MapperCounts → Type 0
NoPull rises = rises.pulls ≡ 0

-- The page of an access didn't come: it couldn't be brought in, or no page was pulled before a
-- trouble.
abbrev pub has_missed : Answer → MapperCounts → Bool
has_missed (Ok reply) rises = false
has_missed (Err (Mapper (Page page))) rises = true
has_missed (Err trouble) rises = rises.pulls == 0

-- What is told of a delivery whose access was ready, or wasn't; a page was pulled where it wasn't
-- and is carried out.
pub record IsDelivered (ready : Bool) (delivered : Delivered) (rises : MapperCounts)
    : Type 0 where
  pub came : delivered.came ≡ (ready || not (has_missed delivered.answer rises))
  pub pulled : ready ≡ false → IsOk delivered.answer → 0 < rises.pulls

-- An access has to wait for its page: nothing refuses it, and all is as before. No page was pulled
-- or pushed.
pub record Waits {Manager Mapper : Type 0} (M : GhostsOfMapper Mapper) (G : Meanings Manager)
    (before : Mapper) (old : Manager) (command : Command) (after : Mapper) (new : Manager)
    : Type 0 where
  pub valid : G.valid new (M.held after)
  pub same : state_of G.machine G.forest new (M.held after)
      ≡ state_of G.machine G.forest old (M.held before)
  pub unrefused : IsUnrefused (state_of G.machine G.forest old (M.held before)) command
  pub rose : Rise (M.counts before) (M.counts after) no_counts
  pub made : G.made new ≡ G.made old
  pub room : StaysLimited (G.room old) (G.room new)
  pub page : M.page_bytes after ≡ M.page_bytes before

-- no access becomes ready that wasn't
abbrev pub NoMoreReady : {Manager : Type 0} → (Manager → ℕ → ℕ → Bool) → Manager → Manager → Type 0
NoMoreReady ready old new =
    (actor address : ℕ) → ready new actor address ≡ true → ready old actor address ≡ true

-- what was admitted still is
abbrev pub StillAdmits : {Manager : Type 0} → (Manager → Command → Type 0) → Manager → Manager
    → Type 0
StillAdmits admits old new = (command : Command) → admits old command → admits new command

-- it is no refusal
abbrev pub IsNoRefusal : Answer → Type 0
IsNoRefusal (Err (Refused r)) = ⊥
IsNoRefusal answer = Unit {0}
