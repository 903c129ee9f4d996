-- Segments that are opened again and again, over plain caches. There is no manager here, and no
-- cache that nothing refers to.
use Rattle.std.specs.Prelude.{◌==◌, ℕ, ◌+◌, ◌-◌, ◌||◌, not, nat_le, nat_lt, Bool, false, List, [], ◌∷◌, ◌++◌, length, replicate, Option, Some, None, slice_set, if◌then◌else◌}
use Rattle.std.specs.Option.{option_map_or}
use Rattle.vm_model.specs.Answering.{is_mapped}
use Rattle.vm_model.specs.Machine as plain
use Rattle.vm_model.specs.Machine.{Cache, Machine, Page, cache_of, is_named_by}

-- The pages of each segment, where there is one with this number.
abbrev pub Stored : Type 0
Stored = ℕ → Option (List Page)

-- The plain machine of actors, caches and regions, in which a named cache lives while an opening or
-- a region refers to it; the pages that are stored for each segment that has no live cache, of
-- which its next one is made; and how many openings of each segment weren't taken back.
pub record ReferenceMachine : Type 0 where
  pub memory : Machine
  pub stored : Stored
  pub openings : ℕ → ℕ

-- how a run begins over segments of these pages
abbrev pub start : ℕ → ℕ → Stored → ReferenceMachine
start frames page_bytes stored =
    record { memory = plain.start frames page_bytes; stored = stored; openings = λ seg. 0 }

-- the number of the live cache of a segment; the first of these caches has this number
abbrev pub number_in : ℕ → List (Option Cache) → ℕ → Option ℕ
number_in number [] seg = None
number_in number (c ∷ cs) seg =
    if is_named_by seg c then Some number else number_in (number + 1) cs seg

abbrev pub number_named : ReferenceMachine → ℕ → Option ℕ
number_named m seg = number_in 1 m.memory.caches seg

-- an opening of the segment wasn't taken back
abbrev pub is_open : ReferenceMachine → ℕ → Bool
is_open m seg = nat_lt 0 (m.openings seg)

-- so many openings of the segment weren't taken back
abbrev pub count_openings : ℕ → ℕ → ReferenceMachine → ReferenceMachine
count_openings seg n m =
    record m { openings = λ other. if other == seg then n else m.openings other }

abbrev pub open_one : ℕ → ReferenceMachine → ReferenceMachine
open_one seg m = count_openings seg (m.openings seg + 1) m

abbrev pub close_one : ℕ → ReferenceMachine → ReferenceMachine
close_one seg m = count_openings seg (m.openings seg - 1) m

-- nothing refers to the cache with this number, of this segment
abbrev pub is_unused : ReferenceMachine → ℕ → ℕ → Bool
is_unused m number seg = not (is_open m seg || is_mapped m.memory number)

-- the same of a cache, and never of a temporary one
abbrev pub goes : ReferenceMachine → ℕ → Cache → Bool
goes m number c = option_map_or (is_unused m number) c.segment false

-- nothing refers to the cache with this number, which a segment names
abbrev pub is_unreferenced : ReferenceMachine → ℕ → Bool
is_unreferenced m n = option_map_or (goes m n) (cache_of m.memory n) false

abbrev pub used_at : ReferenceMachine → ℕ → Option Cache → Option Cache
used_at m number None = None
used_at m number (Some c) = if goes m number c then None else Some c

-- these caches, the first of which has this number, but for those that nothing refers to
abbrev pub used : ReferenceMachine → ℕ → List (Option Cache) → List (Option Cache)
used m number [] = []
used m number (c ∷ cs) = used_at m number c ∷ used m (number + 1) cs

-- these pages are stored for a segment; a temporary cache has none
abbrev pub put_stored : Option ℕ → List Page → Stored → Stored
put_stored None pages stored = stored
put_stored (Some seg) pages stored = λ other. if other == seg then Some pages else stored other

abbrev pub stored_at : ReferenceMachine → ℕ → Option Cache → Stored → Stored
stored_at m number None stored = stored
stored_at m number (Some c) stored =
    if goes m number c then put_stored c.segment c.pages stored else stored

-- what is stored, once those of these caches went that nothing refers to
abbrev pub stored_from : ReferenceMachine → ℕ → List (Option Cache) → Stored
stored_from m number [] = m.stored
stored_from m number (c ∷ cs) = stored_at m number c (stored_from m (number + 1) cs)

-- Each named cache that nothing refers to goes, and its pages are those of its segment from then
-- on.
abbrev pub let_go : ReferenceMachine → ReferenceMachine
let_go m = record m {
  memory = record m.memory { caches = used m 1 m.memory.caches };
  stored = stored_from m 1 m.memory.caches;
}

-- These caches with one more under this number, which no live one has; the numbers that were passed
-- over are those of no cache.
abbrev pub with_cache : List (Option Cache) → ℕ → Cache → List (Option Cache)
with_cache caches number c =
    if nat_le number (length caches) then slice_set caches (number - 1) (Some c)
    else caches ++ (replicate (number - 1 - length caches) None ++ Some c ∷ [])

abbrev pub add_cache : ReferenceMachine → ℕ → Cache → ReferenceMachine
add_cache m number c =
    record m { memory = record m.memory { caches = with_cache m.memory.caches number c } }

-- Nothing is stored for the segment: a cache has its pages.
abbrev pub take_stored : ℕ → ReferenceMachine → ReferenceMachine
take_stored seg m = record m { stored = λ other. if other == seg then None else m.stored other }
