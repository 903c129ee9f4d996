-- The processes can go on calling the manager after a call of it that takes no mapper.
use Rattle.std.proofs.Common.{ℕ, ◌≤◌, List, [], length, Option, refl, subst}
use Rattle.vm_model.specs.Run.{AnswerIs}
use Rattle.vm_model.specs.Run as vm_run
use Rattle.vm_model.proofs.Outcomes.Kept.{IsKept, kept}
use Rattle.gmi_calls.specs.Room.{AnswerWithin}
use Rattle.gmi_calls.proofs.Living.{stays_few}
use Rattle.interface_callers.proofs.Words.{Answer, CallDone, Command, GhostsOfGmi, Held, Machine, MOST_MADE, meanings_of, no_counts, segments_of}
use Rattle.interface_callers.proofs.Blanks.{blank_after}
use Rattle.interface_callers.proofs.Calls.{fits_still, unlimited_still}
use Rattle.mix_process.specs.Tying.{AreAble, AreSynchronised, AreTied}
use Rattle.mix_process.specs.declared.mix.Image.{Image}
use Rattle.mix_process.specs.declared.process.Process.{Process}

module _ {Manager X Chooser : Type 0} (G : GhostsOfGmi Manager X Chooser) (old gmi : Manager) (told : Option Held) (page : Option ℕ) (c : Command) (a : Answer) (images : List Image) (made : ℕ)
    (processes : ℕ → Option Process) (spare : ℕ → Type 0) (can : AreAble G old images told page made processes spare) (called : CallDone (meanings_of G) old c a gmi) where
  abbrev m : Machine
  m = G.machine old told

  abbrev n : Machine
  n = G.machine gmi told

  abbrev pub answered : AnswerIs (vm_run.state_of G.machine G.forest old told) c a [] no_counts (vm_run.state_of G.machine G.forest gmi told)
  answered = subst (λ (room : Option ℕ). AnswerWithin room (vm_run.state_of G.machine G.forest old told) c a [] no_counts (vm_run.state_of G.machine G.forest gmi told)) can.unlimited (called.answers told can.valid)

  keeps : IsKept m c a n
  keeps = kept (segments_of told) m n (G.forest old told) c a no_counts answered.outcome

  pub able_called : (images' : List Image) (made' : ℕ) (processes' : ℕ → Option Process) (spare' : ℕ → Type 0) → made' ≤ length n.actors → length n.actors ≤ MOST_MADE
      → AreTied n processes' spare' images' → AreSynchronised n images' told → AreAble G gmi images' told page made' processes' spare'
  able_called images' made' processes' spare' few most tied sync = record {
    valid = called.valid told can.valid;
    unlimited = unlimited_still (G.room old) (G.room gmi) can.unlimited called.room;
    fits = fits_still page page m n refl keeps.page can.fits;
    live = keeps.live can.live;
    living = stays_few (segments_of told) m n (G.forest old told) c a no_counts answered.outcome can.living;
    few = few;
    most = most;
    tied = tied;
    synchronised = sync;
    blank = blank_after told m n (G.forest old told) c a no_counts answered.outcome;
  }
