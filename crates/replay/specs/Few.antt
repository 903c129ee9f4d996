-- Why few actors are alive, and why the front of a line is read as the line. The laws of a service
-- cite them.
use Rattle.std.specs.Prelude.{◌≡◌, ◌≤◌, ℕ, List, [], ◌∷◌, length, Option, IsSome}
use Rattle.std.proofs.Common.{ap, zero-le}
use Rattle.std.specs.List.{AllByRecursion}
use Rattle.vm_ids.specs.Held.{Held}
use Rattle.vm_model.specs.Machine.{actor_of}
use Rattle.vm_model.proofs.Parts.Distinct.{AreDistinct as AreApart}
use Rattle.actor_script.specs.Forms.{command_of}
use Rattle.actor_script.specs.KeepForms.{keep_command_of}
use Rattle.actor_script.specs.MixForms.{mix_command_of}
use Rattle.actor_script.specs.PortForms.{port_command_of}
use Rattle.actor_script.proofs.Fronts.{command_of-front, keep_command_of-front, mix_command_of-front, port_command_of-front}
use Rattle.gmi_calls.specs.declared.gmi.Gmi.{Ghosts as GhostsOfGmi}
use Rattle.gmi_calls.proofs.FewAlive.{few_alive}
use Rattle.replay.specs.Framed.{framed_command_of, without_forest}
use Rattle.replay.specs.Managing.{CanCall}
use Rattle.line_service.specs.Script.{front_of_line}
use Rattle.line_service.specs.Serving.{AreDistinct}

apart : (actors : List ℕ) → AreDistinct actors → AreApart actors
apart [] h = tt
apart (actor ∷ actors) h = (h.0, apart actors h.1)

pub few_living : {Manager Mapper Chooser : Type 0} {G : GhostsOfGmi Manager Mapper Chooser}
    {gmi : Manager} {held : Option Held} {page_bytes : Option ℕ} → (actors : List ℕ)
    → CanCall G gmi held page_bytes → AreDistinct actors
    → AllByRecursion (λ actor. IsSome (actor_of (G.machine gmi held) actor)) actors
    → length actors ≤ 256
few_living {Manager} {Mapper} {Chooser} {G} {gmi} {held} actors can distinct alive =
    few_alive (G.machine gmi held) actors can.living (apart actors distinct) alive

pub fronts : (line : List ℕ) → command_of (front_of_line line) ≡ command_of line
fronts line = command_of-front line

pub mix_fronts : (line : List ℕ) → mix_command_of (front_of_line line) ≡ mix_command_of line
mix_fronts line = mix_command_of-front line

pub port_fronts : (line : List ℕ) → port_command_of (front_of_line line) ≡ port_command_of line
port_fronts line = port_command_of-front line

pub keep_fronts : (line : List ℕ) → keep_command_of (front_of_line line) ≡ keep_command_of line
keep_fronts line = keep_command_of-front line

pub framed_fronts : (line : List ℕ)
    → framed_command_of (front_of_line line) ≡ framed_command_of line
framed_fronts line = ap without_forest (command_of-front line)

-- where nobody is alive, few are
pub nobody : (actors : List ℕ) → AreDistinct actors → AllByRecursion (λ actor. ⊥) actors
    → length actors ≤ 256
nobody [] distinct alive = zero-le
nobody (actor ∷ actors) distinct alive = absurd alive.0
