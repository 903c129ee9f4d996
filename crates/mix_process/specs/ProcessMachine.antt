-- Processes as plain pages of bytes. There is no cache here, no region, and no manager.
use Rattle.std.specs.Prelude.{◌==◌, ◌&&◌, ℕ, ◌+◌, ◌-◌, ◌*◌, ◌/◌, ◌%◌, nat_le, nat_lt, Bool, false, true, List, [], ◌∷◌, length, Option, Some, None, Result, Ok, Err, if◌then◌else◌}
use Rattle.vm_ids.specs.declared.refusal.Refusal.{Refusal}
use Rattle.vm_ids.specs.declared.refusal.Refusal.TheVariants.{BadAddress, Crosses, NoProcess}
use Rattle.vm_model.specs.Machine.{Page, numbered}
use Rattle.mix_process.specs.declared.area.Area.{Area}
use Rattle.mix_process.specs.declared.area.Area.TheVariants.{Data, Stack, Text}
use Rattle.mix_process.specs.declared.area.TheConstants.{DATA_START, STACK_START, TEXT_START}

-- What a process has in memory, and how many pages each piece of its data has: one piece is there
-- from the first, and one more for each time they were grown.
pub record Process : Type 0 where
  pub text_pages : List Page
  pub data_pages : List Page
  pub stack_pages : List Page
  pub pieces : List ℕ

-- Processes are numbered from 1 in the order of making, so the number made is the length; one that
-- ended is None. The image of a segment, beside its number, is what the segment held when a process
-- was first to be made of it.
pub record ProcessMachine : Type 0 where
  pub page_bytes : ℕ
  pub processes : List (Option Process)
  pub images : List (ℕ × List Page)

-- how a run begins
abbrev pub start : ℕ → ProcessMachine
start page_bytes = record { page_bytes = page_bytes; processes = []; images = [] }

-- the image of the segment with this number, where there is one
abbrev pub image_in : List (ℕ × List Page) → ℕ → Option (List Page)
image_in [] seg = None
image_in (image ∷ images) seg = if image.0 == seg then Some image.1 else image_in images seg

abbrev pub image_of : ProcessMachine → ℕ → Option (List Page)
image_of m seg = image_in m.images seg

abbrev pub process_of : ProcessMachine → ℕ → Option Process
process_of m n = numbered m.processes n

-- where the pages of an area begin, in each process
abbrev pub area_start : Area → ℕ
area_start Text = TEXT_START
area_start Data = DATA_START
area_start Stack = STACK_START

abbrev pub pages_of : Process → Area → List Page
pages_of p Text = p.text_pages
pages_of p Data = p.data_pages
pages_of p Stack = p.stack_pages

abbrev pub with_pages : Area → List Page → Process → Process
with_pages Text pages p = record p { text_pages = pages }
with_pages Data pages p = record p { data_pages = pages }
with_pages Stack pages p = record p { stack_pages = pages }

-- the text alone is not for writing
abbrev pub may_write : Area → Bool
may_write Text = false
may_write Data = true
may_write Stack = true

-- one of so many pages from `start` on holds the address
abbrev pub is_within : ℕ → ℕ → ℕ → ℕ → Bool
is_within page_bytes start pages address =
    nat_le start address && nat_lt address (start + page_bytes * pages)

abbrev pub holds : ℕ → Process → ℕ → Area → Bool
holds page_bytes p address area =
    is_within page_bytes (area_start area) (length (pages_of p area)) address

-- the area of the process that holds an address. No two areas share one.
abbrev pub area_at : ℕ → Process → ℕ → Option Area
area_at page_bytes p address =
    if holds page_bytes p address Text then Some Text
    else (if holds page_bytes p address Data then Some Data
    else (if holds page_bytes p address Stack then Some Stack else None))

-- A byte of a page of an area of a process.
pub record Place : Type 0 where
  pub process : Process
  pub area : Area
  pub page : ℕ
  pub byte : ℕ

abbrev pub place_in : ℕ → Process → ℕ → Option Area → Result Place Refusal
place_in page_bytes p address None = Err BadAddress
place_in page_bytes p address (Some area) =
    Ok (record {
      process = p;
      area = area;
      page = (address - area_start area) / page_bytes;
      byte = address % page_bytes;
    })

-- an access of so many bytes that crosses the end of a page is refused first
abbrev pub place_of : ℕ → Option Process → ℕ → ℕ → Result Place Refusal
place_of page_bytes None address length = Err NoProcess
place_of page_bytes (Some p) address length =
    if nat_lt page_bytes (address % page_bytes + length) then Err Crosses
    else place_in page_bytes p address (area_at page_bytes p address)

-- the place of an access of a process
abbrev pub place : ProcessMachine → ℕ → ℕ → ℕ → Result Place Refusal
place m process address length = place_of m.page_bytes (process_of m process) address length
