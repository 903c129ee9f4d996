-- The thin nodes, by their working numbers.
use Rattle.std.specs.Prelude.{◌≡◌, ℕ, ◌≤◌, cond, ltb, Option, Some, None, refl}
use Rattle.std.specs.Ordering.{nat_cmp}
use Rattle.std.specs.FinMap.{FinMap}
use Rattle.std.specs.FinMap as map
use Rattle.std.specs.Coded.{Coded, code_by, coded×, coded_ℕ}
use Rattle.least_heap.specs.Heaps.{Numbers}
use Rattle.least_heap.specs.declared.heap.Numbered.{Numbered}
use Rattle.mixed_map.specs.Mixed.{without_range}
use Rattle.stretches.specs.Cells.{cells, with_stretch}
use Rattle.stretches.specs.Rising.{rising}
use Rattle.stretches.specs.Stretches.{Stretches}
use Rattle.stretches.specs.declared.rising.Rising.{Rising}
use Rattle.stretches.specs.declared.stretch.Stretch.{Stretch}
use Rattle.local_cache.specs.declared.runs.run.Run.{Run}
use Rattle.local_cache.specs.declared.runs.thin_nodes.FirstThin.{FirstThin}
use Rattle.local_cache.specs.declared.runs.thin_nodes.FirstThin.TheVariants.{Alone, Among}
use Rattle.local_cache.specs.NodeCells.{run_cell}
use Rattle.local_cache.specs.Singles.{IsCounted}
use Rattle.local_cache.specs.Thin.{thin_number}

-- the working number in each slot that has a thin node, the node of each working number whose thin
-- node stands in a run, and for how many nodes there is room
pub record Thin : Type 0 where
  pub alone : FinMap nat_cmp ℕ
  pub among : FinMap nat_cmp Rising
  pub room : ℕ

abbrev pub rising_code : Coded Rising
rising_code = code_by ℕ coded_ℕ (λ n. n.0) (λ k. record { 0 = k }) (λ _. refl)

abbrev pub thin_code : Coded Thin
thin_code =
    code_by (FinMap nat_cmp ℕ × (FinMap nat_cmp Rising × ℕ))
    (coded× (map.code coded_ℕ coded_ℕ) (coded× (map.code coded_ℕ rising_code) coded_ℕ))
    (λ t. (t.alone, (t.among, t.room)))
    (λ p. record { alone = p.0; among = p.1.0; room = p.1.1 }) (λ _. refl)

abbrev pub seen : Numbers → Stretches Rising → Thin
seen heap list =
    record { alone = heap.numbers; among = cells rising list.list; room = heap.room }

-- there are places for as many stretches as there is room for nodes
pub record IsCountedFor (heap : Numbers) (list : Stretches Rising) : Type 0 where
  pub counted : IsCounted rising list
  pub places : heap.room ≤ list.places
  pub few : map.len (cells rising list.list) ≤ heap.room

-- the numbers with another one, or none, in a slot
abbrev pub changed_to : FinMap nat_cmp ℕ → ℕ → Option ℕ → FinMap nat_cmp ℕ
changed_to m slot None = map.remove m slot
changed_to m slot (Some k) = map.insert m slot k

-- with the nodes of a run, from one working number on, or as it is where they aren't thin
abbrev pub with_numbers : FinMap nat_cmp Rising → Option ℕ → ℕ → ℕ → FinMap nat_cmp Rising
with_numbers m None first count = m
with_numbers m (Some k) first count =
    with_stretch rising m
    (record { first = k; count = count; value = record { 0 = first } })

abbrev pub without_numbers : FinMap nat_cmp Rising → Option ℕ → ℕ → FinMap nat_cmp Rising
without_numbers m None count = m
without_numbers m (Some k) count = without_range m k count

abbrev pub with_run : FinMap nat_cmp Rising → Stretch Run → FinMap nat_cmp Rising
with_run m r = with_numbers m (thin_number (run_cell r.value)) r.first r.count

abbrev pub without_run : FinMap nat_cmp Rising → Stretch Run → FinMap nat_cmp Rising
without_run m r = without_numbers m (thin_number (run_cell r.value)) r.count

-- no node is thin
abbrev pub HasNone : Thin → Type 0
HasNone t = (t.alone ≡ map.empty) × (t.among ≡ map.empty)

-- no thin node has a lesser number
abbrev pub IsLeast : Thin → ℕ → Type 0
IsLeast t k = ((slot j : ℕ) → map.get t.alone slot ≡ Some j → k ≤ j)
    × ((j : ℕ) (v : Rising) → map.get t.among j ≡ Some v → k ≤ j)

-- this is the thin node of the least number
abbrev pub IsFirst : Thin → FirstThin → Type 0
IsFirst t (Alone slot) = (k : ℕ) × (map.get t.alone slot ≡ Some k) × IsLeast t k
IsFirst t (Among node) =
    (k : ℕ) × (map.get t.among k ≡ Some (record { 0 = node })) × IsLeast t k

-- the first of the numbers of stretches, with what is said of it
abbrev pub IsFirstOf : FinMap nat_cmp Rising → Stretch Rising → Type 0
IsFirstOf m r =
    (map.get m r.first ≡ Some r.value)
    × ((j : ℕ) (v : Rising) → map.get m j ≡ Some v → r.first ≤ j)

-- which of both has the lesser number
abbrev pub lesser_of : Option (Stretch Rising) → Option Numbered → Option FirstThin
lesser_of None None = None
lesser_of (Some r) None = Some (Among r.value.0)
lesser_of None (Some e) = Some (Alone e.place)
lesser_of (Some r) (Some e) =
    cond (ltb r.first e.number) (Some (Among r.value.0)) (Some (Alone e.place))
