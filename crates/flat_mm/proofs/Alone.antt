-- Calls in which no page comes or goes, and any others.
use Rattle.std.proofs.Common.{◌≡◌, ℕ, List, Option, Some, None, refl, subst, sym}
use Rattle.vm_ids.specs.Counting.{MapperCounts}
use Rattle.vm_ids.specs.Held.{Held}
use Rattle.vm_ids.specs.declared.command.Command.{Command}
use Rattle.vm_ids.specs.declared.command.Command.TheVariants as commands
use Rattle.vm_ids.specs.declared.numbers.ActorId.{ActorId}
use Rattle.vm_ids.specs.declared.numbers.RegionId.{RegionId}
use Rattle.vm_model.specs.Answering.{Answer}
use Rattle.vm_model.specs.Machine.{Machine}
use Rattle.vm_model.specs.Outcome.{seen_at}
use Rattle.vm_port.specs.declared.traits.mapper.Mapper.{Ghosts as GhostsOfMapper}
use Rattle.gmi_calls.specs.Calling.{Fits}
use Rattle.gmi_calls.specs.Parking.{AccessCall, NoPull}
use Rattle.gmi_calls.specs.Reaching.{NoPages}
use Rattle.gmi_calls.proofs.Called.{no_pull}
use Rattle.flat_mm.specs.Alone.{AsksAlone, FlatCall}
use Rattle.flat_mm.specs.Manager.{Manager, flat}

-- where no page comes or goes, none is pulled
pub none_pulled : {X : Type 0} (M : GhostsOfMapper X) (before : X) (p : Manager) (command : Command) (a : Answer) (after : X) (q : Manager) → FlatCall M NoPages before p command a after q → AccessCall M flat NoPull before p command a after q
none_pulled M before p command a after q E = no_pull M flat before p command a after q E

-- a command that is a call in which no page comes or goes
pub asks_alone : {X : Type 0} (M : GhostsOfMapper X) (before : X) (p : Manager) (command named : Command) (a : Answer) (after : X) (q : Manager) → command ≡ named → ((rises : MapperCounts) → NoPages rises → AsksAlone named rises) → FlatCall M NoPages before p named a after q
    → FlatCall M (AsksAlone command) before p command a after q
asks_alone M before p command named a after q is alone E = subst (λ (c : Command). FlatCall M (AsksAlone c) before p c a after q) (sym is) (record { call = E.call; so = alone _ E.so })

-- the mapper's pages are those of a machine with or without bytes
pub fits_seen : (told : Option Held) (bytes : Option ℕ) (m : Machine) → Fits bytes m → Fits bytes (seen_at told m)
fits_seen (Some h) bytes m fits = fits
fits_seen None bytes m fits = fits

-- of any other command nothing is said
pub other_asks : (command : Command) (rises : MapperCounts) → ((actor : ActorId) (address bytes : ℕ) → command ≡ commands.Load actor address bytes → ⊥) → ((actor : ActorId) (address : ℕ) (piece : List ℕ) → command ≡ commands.Store actor address piece → ⊥)
    → ((region : RegionId) → command ≡ commands.Lock region → ⊥) → ((count : ℕ) → command ≡ commands.PageOut count → ⊥) → AsksAlone command rises
other_asks (commands.Load actor address bytes) rises load store lock out = absurd (load actor address bytes refl)
other_asks (commands.Store actor address piece) rises load store lock out = absurd (store actor address piece refl)
other_asks (commands.Lock region) rises load store lock out = absurd (lock region refl)
other_asks (commands.PageOut count) rises load store lock out = absurd (out count refl)
other_asks command rises load store lock out = tt
