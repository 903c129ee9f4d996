-- A manager as whoever answers the lines of a script.
use Rattle.std.specs.Prelude.{◌≡◌, ◌≤◌, ℕ, List, Option, None}
use Rattle.vm_ids.specs.Held.{Held}
use Rattle.vm_model.specs.Machine.{live_pages, living_actors}
use Rattle.vm_model.specs.declared.limits.TheConstants.{LIVE_PAGES, LIVING_ACTORS}
use Rattle.vm_model.specs.Run.{state_of}
use Rattle.flat_mm.specs.Manager.{IsValid, Manager as FramedManager, flat}
use Rattle.gmi_calls.specs.Calling.{Fits}
use Rattle.gmi_calls.specs.declared.gmi.Gmi.{Ghosts as GhostsOfGmi}
use Rattle.line_service.specs.Ending.{Told}
use Rattle.vm_port.specs.declared.traits.mapper.Mapper.{Ghosts as GhostsOfMapper}
use Rattle.replay.specs.Ending.{CommandScene}

-- What it takes to call a manager: it is valid beside what its mapper holds, its room isn't
-- limited, the mapper takes pages of the manager's size, and no more pages are live and no more
-- actors alive than may be. `G` is the ghost members of the manager.
pub record CanCall {Manager Mapper Chooser : Type 0} (G : GhostsOfGmi Manager Mapper Chooser)
    (gmi : Manager) (held : Option Held) (page_bytes : Option ℕ) : Type 0 where
  pub valid : G.valid gmi held
  pub unlimited : G.room gmi ≡ None
  pub fits : Fits page_bytes (G.machine gmi held)
  pub live : live_pages (G.machine gmi held) ≤ LIVE_PAGES
  pub living : living_actors (G.machine gmi held) ≤ LIVING_ACTORS

-- what it takes to call the manager in which each live page has a frame
pub record CanCallFramed (gmi : FramedManager) (held : Option Held) (page_bytes : Option ℕ)
    : Type 0 where
  pub valid : IsValid gmi held
  pub fits : Fits page_bytes (flat.machine gmi held)
  pub live : live_pages (flat.machine gmi held) ≤ LIVE_PAGES

-- The scene of a manager and its mapper. `G` and `M` are the ghost members of the two.
abbrev pub scene_of_manager : {Manager Mapper Chooser : Type 0} → GhostsOfGmi Manager Mapper Chooser
    → GhostsOfMapper Mapper → Manager → Mapper → Option (List (Option ℕ)) → Told → CommandScene
scene_of_manager G M gmi mapper turns written = record {
  state = state_of G.machine G.forest gmi (M.held mapper);
  counts = M.counts mapper;
  turns = turns;
  written = written;
}
