-- What a mapper in memory is.
use Rattle.std.specs.Prelude.{zero, suc, ◌∷◌, ◌++◌, ◌/◌, take, drop, replicate, ◌≡◌, ◌==◌, ℕ, ◌+◌, ◌-◌, ◌≤◌, ◌<◌, Bool, List, map, length, Option, option_map, Some, None, if◌then◌else◌, All, option_and_then, slice_get, slice_set, slice_index_or, [], min, ◌^◌}
use Rattle.vm_ids.specs.Counting.{MapperCounts}
use Rattle.vm_ids.specs.Held.{Held}
use Rattle.vm_ids.specs.declared.numbers.SegId.{SegId}
use Rattle.vm_ids.specs.declared.numbers.PageNo.{PageNo}
use Rattle.vm_port.specs.Calls.{fault_more}
use Rattle.vm_port.specs.Failing.{count_of, counted, is_failing_call}
use Rattle.vm_port.specs.Rows.{from_row}
use Rattle.vm_port.specs.declared.memory.calls.CallKind.{CallKind}
use Rattle.vm_port.specs.declared.memory.calls.CallNo.{CallNo}
use Rattle.vm_port.specs.declared.memory.calls.Calls.{Calls}
use Rattle.vm_port.specs.declared.memory.pages.Segment.{Segment}
use Rattle.vm_port.specs.declared.memory.pages.Slot.{Slot}

abbrev pub pages_seen : Segment → List (List ℕ)
pages_seen s = map (λ p. p.items) s.pages.items

-- a slot has a page once one was pushed to it
abbrev pub slot_seen : Slot → Option (List ℕ)
slot_seen s = if s.is_held then Some s.bytes.items else None

abbrev pub denied_seen : List (SegId × PageNo) → List (ℕ × ℕ)
denied_seen denied = map (λ d. (d.0.0, d.1.0)) denied

-- The pages of its segments, the page in each slot that has one, the pages denied for writing, the
-- length of a page, which calls fail, how many were made, and its counts of faults, pulls and
-- pushes.
pub record MapperInMemory : Type 0 where
  pub segments : List (List (List ℕ))
  pub slots : List (Option (List ℕ))
  pub denied : List (ℕ × ℕ)
  pub page_bytes : ℕ
  pub fails : List CallNo
  pub calls : Calls
  pub counts : MapperCounts

-- a page of just so many bytes: those that it has, and zeros behind them
abbrev pub sized : ℕ → List ℕ → List ℕ
sized zero bytes = []
sized (suc n) [] = 0 ∷ sized n []
sized (suc n) (b ∷ bytes) = b ∷ sized n bytes

-- What it holds: segments count from 1, slots from 0. Each page of a mapper has all its bytes, and
-- `sized` leaves it; so the pages held have one size whatever the record.
abbrev pub held_of : MapperInMemory → Held
held_of m =
    record {
      segments = from_row 1 (map (λ pages. Some pages) (map (map (sized m.page_bytes)) m.segments));
      slots = from_row 0 (map (option_map (sized m.page_bytes)) m.slots);
      denied = m.denied;
    }

-- the counts after a call with so many pulls and pushes, which failed or didn't
abbrev pub counts_after : ℕ → ℕ → Bool → MapperCounts → MapperCounts
counts_after pulls pushes failed c = record {
  faults = if failed then fault_more c.faults else c.faults;
  pulls = min (c.pulls + pulls) (2 ^ 64 - 1);
  pushes = min (c.pushes + pushes) (2 ^ 64 - 1);
}

-- after a call of this kind, with so many pulls and pushes, which failed or didn't
abbrev pub called : CallKind → ℕ → ℕ → Bool → MapperInMemory → MapperInMemory
called kind pulls pushes failed m =
    record m { calls = counted kind m.calls; counts = counts_after pulls pushes failed m.counts }

-- the next call of this kind is to fail
abbrev pub fails_next : CallKind → MapperInMemory → Bool
fails_next kind m = is_failing_call m.fails kind (count_of kind (counted kind m.calls))

-- every page has all its bytes, and a segment has fewer pages than numbers
pub record IsWholeMapper (page_bytes : ℕ) (segments : List Segment)
    (slots : List Slot) : Type 0 where
  pub some : 1 ≤ page_bytes
  pub pages : All (λ s. All (λ p. length p.items ≡ page_bytes) s.pages.items) segments
  pub few : All (λ s. length s.pages.items < 2 ^ 32) segments
  pub rooms : All (λ s. length s.bytes.items ≡ page_bytes) slots

-- bytes of one page, filled up with zeros
abbrev pub filled : ℕ → List ℕ → List ℕ
filled page_bytes bytes = bytes ++ replicate (page_bytes - length bytes) 0

-- so many pages of bytes, one behind the other
abbrev pub cut : ℕ → ℕ → List ℕ → List (List ℕ)
cut zero page_bytes bytes = []
cut (suc pages) page_bytes bytes =
    filled page_bytes (take page_bytes bytes) ∷ cut pages page_bytes (drop page_bytes bytes)

-- bytes cut into pages, the last filled up with zeros
abbrev pub pages_of : ℕ → List ℕ → List (List ℕ)
pages_of page_bytes bytes = cut ((length bytes + page_bytes - 1) / page_bytes) page_bytes bytes

-- the page of a segment, where it is there
abbrev pub page_in : List (List (List ℕ)) → ℕ → ℕ → Option (List ℕ)
page_in segments seg page =
    if seg == 0 then None
    else option_and_then (λ pages. slice_get pages page) (slice_get segments (seg - 1))

-- these bytes are put there
abbrev pub put_page_in : List (List (List ℕ)) → ℕ → ℕ → List ℕ → List (List (List ℕ))
put_page_in segments seg page bytes =
    slice_set segments (seg - 1) (slice_set (slice_index_or segments (seg - 1) []) page bytes)
