-- The machine of referenced segments for which the manager of segments stands.
use Rattle.std.specs.Prelude.{◌==◌, ℕ, Bool, List, [], ◌∷◌, map, Option, Some, None, is_some, if◌then◌else◌}
use Rattle.std.specs.FinMap.{get}
use Rattle.vm_ids.specs.Held.{Held, Segments, segments_of}
use Rattle.vm_model.specs.Machine.{Machine, cache_named}
use Rattle.gmi_calls.specs.declared.gmi.Gmi.{Ghosts as GhostsOfGmi}
use Rattle.seg_manager.specs.ReferenceMachine.{ReferenceMachine, Stored, let_go}
use Rattle.seg_manager.specs.Stepping.{State}
pub use Rattle.seg_manager.specs.Keeps.{is_kept}
use Rattle.seg_manager.specs.declared.manager.SegManager.{SegManager}
use Rattle.seg_manager.specs.declared.tables.Kept.{Kept}
use Rattle.seg_manager.specs.declared.tables.Mapped.{Mapped}
use Rattle.seg_manager.specs.declared.tables.Named.{Named}

-- the segments whose caches are kept, the least recently used first
abbrev pub kept_segments : List Kept → List ℕ
kept_segments kept = map (λ (k : Kept). k.seg.0) kept

-- the region maps the cache
abbrev pub maps : ℕ → Mapped → Bool
maps cache mapped = mapped.cache.0 == cache

-- how many openings of a segment weren't taken back
abbrev pub openings_in : List Named → ℕ → ℕ
openings_in [] seg = 0
openings_in (c ∷ cs) seg = if c.seg.0 == seg then c.openings else openings_in cs seg

-- what is held for the segments of which there is no cache
abbrev pub stored_beside : Machine → Option Segments → Stored
stored_beside m None seg = None
stored_beside m (Some h) seg =
    if is_some (cache_named m.caches seg) then None else get h.pages seg

-- all that the manager has, with the caches to which nothing refers
abbrev pub whole_of : Machine → Option Segments → List Named → ReferenceMachine
whole_of m told caches =
    record { memory = m; stored = stored_beside m told; openings = openings_in caches }

-- what is stored isn't known where nothing is told
abbrev pub known : Option Segments → ReferenceMachine → ReferenceMachine
known None m = record m { stored = λ seg. None }
known (Some h) m = m

-- the same without the caches to which nothing refers: their pages are stored
abbrev pub references_seen : Machine → Option Segments → List Named → ReferenceMachine
references_seen m told caches = known told (let_go (whole_of m told caches))

-- what the manager of segments and what its mapper tells stand for
abbrev pub state_of : {Manager Mapper Chooser : Type 0} → GhostsOfGmi Manager Mapper Chooser
    → SegManager Manager → Option Held → State
state_of G manager told = record {
  references =
      references_seen (G.machine manager.gmi told) (segments_of told) manager.caches.items;
  segments = segments_of told;
}
