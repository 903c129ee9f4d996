-- The machine of processes for which the processes over a manager stand.
use Rattle.std.specs.Prelude.{ℕ, ◌+◌, ◌*◌, Bool, true, false, List, [], ◌∷◌, ◌++◌, map, take, Option, option_map, if◌then◌else◌}
use Rattle.std.specs.Option.{option_map_or}
use Rattle.vm_ids.specs.Held.{Held, segments_of}
use Rattle.vm_ids.specs.declared.command.Mapping.{Mapping}
use Rattle.vm_model.specs.Machine.{Cache, Machine, Page, cache_of}
use Rattle.mix_process.specs.ProcessMachine as model
use Rattle.mix_process.specs.ProcessMachine.{ProcessMachine, area_start, may_write}
use Rattle.mix_process.specs.Outcome.{usage_of}
use Rattle.mix_process.specs.Stepping.{State}
use Rattle.mix_process.specs.declared.area.Area.{Area}
use Rattle.mix_process.specs.declared.area.Area.TheVariants.{Data, Stack, Text}
use Rattle.mix_process.specs.declared.process.Part.{Part}
use Rattle.mix_process.specs.declared.process.Process.{Process}
use Rattle.mix_process.specs.declared.mix.Image.{Image}
use Rattle.mix_process.specs.declared.mix.Mix.{Mix}
use Rattle.gmi_calls.specs.declared.gmi.Gmi.{Ghosts as GhostsOfGmi}

abbrev pub same_area : Area → Area → Bool
same_area Text Text = true
same_area Data Data = true
same_area Stack Stack = true
same_area a b = false

-- how many pages the parts give an area
abbrev pub pages_in : Area → List Part → ℕ
pages_in area [] = 0
pages_in area (p ∷ ps) = (if same_area p.area area then p.pages else 0) + pages_in area ps

-- how many pages each part of an area has
abbrev pub sizes_in : Area → List Part → List ℕ
sizes_in area [] = []
sizes_in area (p ∷ ps) = (if same_area p.area area then p.pages ∷ [] else []) ++ sizes_in area ps

-- a part is mapped behind what its area has before it
abbrev pub mapping_behind : List Part → Part → Mapping
mapping_behind before p = record {
  extent = record { cache = p.cache; first = record { 0 = 0 }; pages = p.pages };
  address = area_start p.area + 4096 * pages_in p.area before;
  prot = record { write = may_write p.area };
}

-- the pages of a cache of a manager
abbrev pub cache_pages : Machine → ℕ → List Page
cache_pages m cache = option_map_or (λ (c : Cache). c.pages) (cache_of m cache) []

abbrev pub part_seen : Machine → Part → List Page
part_seen m p = take p.pages (cache_pages m p.cache.0)

abbrev pub area_seen : Machine → Area → List Part → List Page
area_seen m area [] = []
area_seen m area (p ∷ ps) =
    (if same_area p.area area then part_seen m p else []) ++ area_seen m area ps

abbrev pub process_seen : Machine → Process → model.Process
process_seen m p = record {
  text_pages = area_seen m Text p.parts.items;
  data_pages = area_seen m Data p.parts.items;
  stack_pages = area_seen m Stack p.parts.items;
  pieces = sizes_in Data p.parts.items;
}

abbrev pub image_seen : Machine → Image → ℕ × List Page
image_seen m i = (i.seg.0, cache_pages m i.cache.0)

-- the machine of processes whose pages are those of the manager's machine
abbrev pub processes_seen : Machine → List (Option Process) → List Image → ProcessMachine
processes_seen m processes images = record {
  page_bytes = m.page_bytes;
  processes = map (option_map (process_seen m)) processes;
  images = map (image_seen m) images;
}

-- what the processes over a manager and what its mapper tells stand for
abbrev pub state_of : {Manager Mapper Chooser : Type 0} → GhostsOfGmi Manager Mapper Chooser
    → Mix Manager → Option Held → State
state_of G mix told = record {
  processes = processes_seen (G.machine mix.gmi told) mix.processes.items mix.images.items;
  usage = usage_of (G.machine mix.gmi told);
  segments = segments_of told;
}
