-- Where an address lies in a process, and the byte there.
use Rattle.std.proofs.Common.{◌≡◌, ◌≢◌, ◌⊎◌, inl, inr, ℕ, ◌+◌, ◌-◌, ◌*◌, ◌/◌, ◌%◌, ◌<◌, ◌≤◌, Bool, true, false, cond, List, [], ◌++◌, length, set, replicate, Option, Some, None, refl, sym, ap, subst, ◌∙◌, arith}
use Rattle.std.specs.Prelude.{Ok, Err, nat_lt, slice_get, unwrap_or}
use Rattle.std.proofs.lemmas.Bool.{cases_eq}
use Rattle.std.proofs.lemmas.Bool.Decides.{nat_tests}
use Rattle.std.proofs.lemmas.List.{length-append, length-replicate, length-set}
use Rattle.std.proofs.lemmas.Option.{slice_get_within}
use Rattle.vm_ids.specs.declared.refusal.Refusal.TheVariants as refusals
use Rattle.vm_model.proofs.Parts.Lists.{get_set_other, get_set_same}
use Rattle.interface_callers.proofs.Words.{Page, overwrite}
use Rattle.interface_callers.proofs.Lists.{get_append}
use Rattle.mix_process.specs.Laws.{byte_in}
use Rattle.mix_process.specs.ProcessMachine.{Place, Process, area_at, area_start, is_within, pages_of, place_in, place_of, with_pages}
use Rattle.mix_process.specs.Answering.{grown_by, page_at, written_at}
use Rattle.mix_process.specs.declared.area.Area.{Area}
use Rattle.mix_process.specs.declared.area.Area.TheVariants.{Data, Stack, Text}
use Rattle.mix_process.proofs.Reading.Places.{get_behind, get_front}

-- the areas in the order in which they are asked
abbrev pub area_by : Bool → Bool → Bool → Option Area
area_by t d s = cond t (Some Text) (cond d (Some Data) (cond s (Some Stack) None))

abbrev pub in_area : Area → ℕ → ℕ → Bool
in_area area pages address = is_within 4096 (area_start area) pages address

-- by how many pages each area has
abbrev pub area_of : ℕ → ℕ → ℕ → ℕ → Option Area
area_of t d s address = area_by (in_area Text t address) (in_area Data d address) (in_area Stack s address)

-- the page of an area that holds an address
abbrev pub page_number : Area → ℕ → ℕ
page_number area address = (address - area_start area) / 4096

-- the byte at an address of these pages
abbrev pub byte_at : List Page → ℕ → ℕ → Option ℕ
byte_at pages page byte = slice_get (unwrap_or (slice_get pages page) []) byte

-- A process has this byte at an address.
pub record HasByte (p : Process) (address byte : ℕ) : Type 0 where
  pub area : Area
  pub lies : area_at 4096 p address ≡ Some area
  pub is : byte_at (pages_of p area) (page_number area address) (address % 4096) ≡ Some byte

area_found : (p : Process) (address byte : ℕ) (o : Option Area) → area_at 4096 p address ≡ o → byte_in (place_in 4096 p address o) ≡ Some byte → HasByte p address byte
area_found p address byte None e h = absurd (cc h)
area_found p address byte (Some area) e h = record { area = area; lies = e; is = h }

crosses : (p : Process) (address byte : ℕ) (b : Bool) → byte_in (cond b (Err refusals.Crosses) (place_in 4096 p address (area_at 4096 p address))) ≡ Some byte → HasByte p address byte
crosses p address byte true h = absurd (cc h)
crosses p address byte false h = area_found p address byte (area_at 4096 p address) refl h

pub has_byte : (p : Process) (address byte : ℕ) → byte_in (place_of 4096 (Some p) address 1) ≡ Some byte → HasByte p address byte
has_byte p address byte h = crosses p address byte (nat_lt 4096 (address % 4096 + 1)) h

not_crossing : (p : Process) (address byte : ℕ) (b : Bool) → b ≡ false → byte_in (place_in 4096 p address (area_at 4096 p address)) ≡ Some byte → byte_in (cond b (Err refusals.Crosses) (place_in 4096 p address (area_at 4096 p address))) ≡ Some byte
not_crossing p address byte true e h = absurd (cc e)
not_crossing p address byte false e h = h

pub byte_there : (p : Process) (address byte : ℕ) → HasByte p address byte → byte_in (place_of 4096 (Some p) address 1) ≡ Some byte
byte_there p address byte h =
    not_crossing p address byte (nat_lt 4096 (address % 4096 + 1)) (grind (arith, nat_tests))
    (ap (λ (o : Option Area). byte_in (place_in 4096 p address o)) h.lies ∙ h.is)

-- The page of a byte that is there is there.
page_there : (o : Option Page) (i byte : ℕ) → slice_get (unwrap_or o []) i ≡ Some byte → (page : Page) × (o ≡ Some page) × (slice_get page i ≡ Some byte)
page_there None i byte h = absurd (cc h)
page_there (Some page) i byte h = (page, refl, h)

-- Where data grow

grows : (t d d' s : Bool) (area : Area) → (d ≡ true → d' ≡ true) → (s ≡ true → d' ≡ d) → area_by t d s ≡ Some area → area_by t d' s ≡ Some area
grows true d d' s area more apart h = h
grows false true true s area more apart h = h
grows false true false s area more apart h = absurd (cc (more refl))
grows false false d' true area more apart h = ap (λ (b : Bool). area_by false b true) (apart refl) ∙ h
grows false false d' false area more apart h = absurd (cc h)

appended : (pages more : List Page) (k i byte : ℕ) → byte_at pages k i ≡ Some byte → byte_at (pages ++ more) k i ≡ Some byte
appended pages more k i byte h =
    let there = page_there (slice_get pages k) i byte h in
    ap (λ (o : Option Page). slice_get (unwrap_or o []) i) (get_append pages more k there.0 there.1) ∙ there.2

grown_pages : (p : Process) (page_bytes n : ℕ) (area : Area) (k i byte : ℕ) → byte_at (pages_of p area) k i ≡ Some byte → byte_at (pages_of (grown_by page_bytes n p) area) k i ≡ Some byte
grown_pages p page_bytes n Text k i byte h = h
grown_pages p page_bytes n Data k i byte h = appended p.data_pages (replicate n (replicate page_bytes 0)) k i byte h
grown_pages p page_bytes n Stack k i byte h = h

-- Data of at most 65,536 pages end below the stack.
stays_data : (k n : ℕ) (address : ℕ) → k ≤ n → in_area Data k address ≡ true → in_area Data n address ≡ true
stays_data k n address more h = grind (arith, nat_tests)

above_data : (k n s : ℕ) (address : ℕ) → k ≤ 65536 → n ≤ 65536 → in_area Stack s address ≡ true → in_area Data n address ≡ in_area Data k address
above_data k n s address few_k few_n h = outside n few_n ∙ sym (outside k few_k)
  where
    outside : (n : ℕ) → n ≤ 65536 → in_area Data n address ≡ false
    outside n few = grind (arith, nat_tests)

pub grown_keeps : (p : Process) (page_bytes n address byte : ℕ) → length p.data_pages + n ≤ 65536 → HasByte p address byte → HasByte (grown_by page_bytes n p) address byte
grown_keeps p page_bytes n address byte few h =
    let more : List Page = replicate n (replicate page_bytes 0) in
    let many : length (p.data_pages ++ more) ≡ length p.data_pages + n = omega (arith, length-append p.data_pages more, length-replicate {A = Page} n (replicate page_bytes 0)) in
    record {
      area = h.area;
      lies = grows (in_area Text (length p.text_pages) address) (in_area Data (length p.data_pages) address) (in_area Data (length (p.data_pages ++ more)) address) (in_area Stack (length p.stack_pages) address) h.area
          (stays_data (length p.data_pages) (length (p.data_pages ++ more)) address (omega arith))
          (above_data (length p.data_pages) (length (p.data_pages ++ more)) (length p.stack_pages) address (omega arith) (omega arith))
          h.lies;
      is = grown_pages p page_bytes n h.area (page_number h.area address) (address % 4096) byte h.is;
    }

-- Where bytes are stored

-- the pages of this area alone change
put_lies : (p : Process) (area : Area) (k : ℕ) (page : Page) (address : ℕ) → area_at 4096 (with_pages area (set (pages_of p area) k page) p) address ≡ area_at 4096 p address
put_lies p Text k page address = ap (λ (n : ℕ). area_of n (length p.data_pages) (length p.stack_pages) address) (length-set p.text_pages k page)
put_lies p Data k page address = ap (λ (n : ℕ). area_of (length p.text_pages) n (length p.stack_pages) address) (length-set p.data_pages k page)
put_lies p Stack k page address = ap (λ (n : ℕ). area_of (length p.text_pages) (length p.data_pages) n address) (length-set p.stack_pages k page)

-- the pages of an area after those of an area changed
put_pages : (P : List Page → Type 0) (p : Process) (area other : Area) (pages : List Page) → P (pages_of p other) → (area ≡ other → P pages) → P (pages_of (with_pages area pages p) other)
put_pages P p Text Text pages h g = g refl
put_pages P p Text Data pages h g = h
put_pages P p Text Stack pages h g = h
put_pages P p Data Text pages h g = h
put_pages P p Data Data pages h g = g refl
put_pages P p Data Stack pages h g = h
put_pages P p Stack Text pages h g = h
put_pages P p Stack Data pages h g = h
put_pages P p Stack Stack pages h g = g refl

-- Addresses in areas

within_facts : (start a n : ℕ) → is_within 4096 start n a ≡ true → (start ≤ a) × (a < start + 4096 * n)
within_facts start a n h = (grind (arith, nat_tests), grind (arith, nat_tests))

within_true : (start a n : ℕ) → start ≤ a → a < start + 4096 * n → is_within 4096 start n a ≡ true
within_true start a n h g = grind (arith, nat_tests)

abbrev chosen : Bool → Bool → Bool → Area → Bool
chosen t d s Text = t
chosen t d s Data = d
chosen t d s Stack = s

is_chosen : (t d s : Bool) (area : Area) → area_by t d s ≡ Some area → chosen t d s area ≡ true
is_chosen true d s Text h = refl
is_chosen true d s Data h = absurd (cc h)
is_chosen true d s Stack h = absurd (cc h)
is_chosen false true s Text h = absurd (cc h)
is_chosen false true s Data h = refl
is_chosen false true s Stack h = absurd (cc h)
is_chosen false false true Text h = absurd (cc h)
is_chosen false false true Data h = absurd (cc h)
is_chosen false false true Stack h = refl
is_chosen false false false area h = absurd (cc h)

chosen_in : (p : Process) (address : ℕ) (area : Area) → chosen (in_area Text (length p.text_pages) address) (in_area Data (length p.data_pages) address) (in_area Stack (length p.stack_pages) address) area ≡ in_area area (length (pages_of p area)) address
chosen_in p address Text = refl
chosen_in p address Data = refl
chosen_in p address Stack = refl

-- an address that is found in an area lies behind its start
pub behind_start : (p : Process) (address : ℕ) (area : Area) → area_at 4096 p address ≡ Some area → area_start area ≤ address
behind_start p address area h =
    (within_facts (area_start area) address (length (pages_of p area))
    (sym (chosen_in p address area) ∙ is_chosen (in_area Text (length p.text_pages) address) (in_area Data (length p.data_pages) address) (in_area Stack (length p.stack_pages) address) area h)).0

-- an address that isn't stored to lies in another page, or in front of the bytes or behind them
apart : (area : Area) (first address bytes : ℕ) → area_start area ≤ first → area_start area ≤ address → first % 4096 + bytes ≤ 4096
    → (address < first) ⊎ (first + bytes ≤ address)
    → page_number area first ≡ page_number area address
    → (address % 4096 < first % 4096) ⊎ (first % 4096 + bytes ≤ address % 4096)
apart Text first address bytes a b within (inl h) same = inl (omega arith)
apart Text first address bytes a b within (inr h) same = inr (omega arith)
apart Data first address bytes a b within (inl h) same = inl (omega arith)
apart Data first address bytes a b within (inr h) same = inr (omega arith)
apart Stack first address bytes a b within (inl h) same = inl (omega arith)
apart Stack first address bytes a b within (inr h) same = inr (omega arith)

-- a byte of a page in which others are replaced
beside : (at : ℕ) (part : List ℕ) (page : Page) (i byte : ℕ) → (i < at) ⊎ (at + length part ≤ i) → slice_get page i ≡ Some byte → slice_get (overwrite at part page) i ≡ Some byte
beside at part page i byte (inl h) e = get_front at part page i byte h e
beside at part page i byte (inr h) e = get_behind at part page i byte h e

-- A byte of pages after others are replaced in one page.
in_pages : (pages : List Page) (k : ℕ) (at : ℕ) (part : List ℕ) (j i byte : ℕ) → (k ≡ j) ⊎ (k ≢ j) → (k ≡ j → (i < at) ⊎ (at + length part ≤ i)) → byte_at pages j i ≡ Some byte
    → byte_at (set pages k (overwrite at part (unwrap_or (slice_get pages k) []))) j i ≡ Some byte
in_pages pages k at part j i byte (inr other) out h = ap (λ (o : Option Page). slice_get (unwrap_or o []) i) (get_set_other pages k j (overwrite at part (unwrap_or (slice_get pages k) [])) (λ e. other (sym e))) ∙ h
in_pages pages k at part j i byte (inl same) out h =
    let there = page_there (slice_get pages j) i byte h in
    let here : slice_get pages k ≡ Some there.0 = ap (slice_get pages) same ∙ there.1 in
    let new : Page = overwrite at part (unwrap_or (slice_get pages k) []) in
    ap (λ (o : Option Page). slice_get (unwrap_or o []) i) (ap (slice_get (set pages k new)) (sym same) ∙ get_set_same pages k new (slice_get_within pages k there.0 here))
    ∙ beside at part (unwrap_or (slice_get pages k) []) i byte (out same) (ap (λ (o : Option Page). slice_get (unwrap_or o []) i) here ∙ there.2)

-- The place of an access of so many bytes.
pub record IsPlaced (p : Process) (first bytes : ℕ) (at : Place) : Type 0 where
  pub area : Area
  pub lies : area_at 4096 p first ≡ Some area
  pub within : first % 4096 + bytes ≤ 4096
  pub is : at ≡ record { process = p; area = area; page = page_number area first; byte = first % 4096 }

place_found : (p : Process) (first bytes : ℕ) (at : Place) (o : Option Area) → first % 4096 + bytes ≤ 4096 → area_at 4096 p first ≡ o → place_in 4096 p first o ≡ Ok at → IsPlaced p first bytes at
place_found p first bytes at None within e h = absurd (cc h)
place_found p first bytes at (Some area) within e h = record { area = area; lies = e; within = within; is = cc h }

within_page : (p : Process) (first bytes : ℕ) (at : Place) (b : Bool) → nat_lt 4096 (first % 4096 + bytes) ≡ b → cond b (Err refusals.Crosses) (place_in 4096 p first (area_at 4096 p first)) ≡ Ok at → IsPlaced p first bytes at
within_page p first bytes at true e h = absurd (cc h)
within_page p first bytes at false e h = place_found p first bytes at (area_at 4096 p first) (grind (arith, nat_tests)) refl h

pub placed : (p : Process) (first bytes : ℕ) (at : Place) → place_of 4096 (Some p) first bytes ≡ Ok at → IsPlaced p first bytes at
placed p first bytes at h = within_page p first bytes at (nat_lt 4096 (first % 4096 + bytes)) refl h

-- bytes are stored in a page of an area
stored_in : (p : Process) (stored : Area) (first : ℕ) (part : List ℕ) (address byte : ℕ) → area_at 4096 p first ≡ Some stored → first % 4096 + length part ≤ 4096
    → (address < first) ⊎ (first + length part ≤ address) → HasByte p address byte
    → HasByte (written_at (record { process = p; area = stored; page = page_number stored first; byte = first % 4096 }) part) address byte
stored_in p stored first part address byte lies within out h =
    let k : ℕ = page_number stored first in
    let j : ℕ = page_number h.area address in
    let new : Page = overwrite (first % 4096) part (unwrap_or (slice_get (pages_of p stored) k) []) in
    record {
      area = h.area;
      lies = put_lies p stored k new address ∙ h.lies;
      is = put_pages (λ (pages : List Page). byte_at pages j (address % 4096) ≡ Some byte) p stored h.area (set (pages_of p stored) k new) h.is
          (λ same. in_pages (pages_of p stored) k (first % 4096) part j (address % 4096) byte (cases_eq k j)
          (λ e. apart stored first address (length part) (behind_start p first stored lies)
          (subst (λ (a : Area). area_start a ≤ address) (sym same) (behind_start p address h.area h.lies)) within out
          (e ∙ ap (λ (a : Area). page_number a address) (sym same)))
          (ap (λ (a : Area). byte_at (pages_of p a) j (address % 4096)) same ∙ h.is));
    }

pub stored_keeps : (p : Process) (first : ℕ) (part : List ℕ) (at : Place) (address byte : ℕ) → IsPlaced p first (length part) at
    → (address < first) ⊎ (first + length part ≤ address) → HasByte p address byte → HasByte (written_at at part) address byte
stored_keeps p first part at address byte here out h = subst (λ (at : Place). HasByte (written_at at part) address byte) (sym here.is) (stored_in p here.area first part address byte here.lies here.within out h)

-- Bytes that are loaded

same_bool : (b c : Bool) → (b ≡ true → c ≡ true) → (c ≡ true → b ≡ true) → b ≡ c
same_bool true true f g = refl
same_bool true false f g = sym (f refl)
same_bool false true f g = g refl
same_bool false false f g = refl

-- an area holds all addresses of a page, or none
in_area_on : (area : Area) (n address i : ℕ) → address % 4096 + i < 4096 → in_area area n (address + i) ≡ in_area area n address
in_area_on Text n address i h = same_bool _ _ (λ e. let f = within_facts 0x40_0000 (address + i) n e in within_true 0x40_0000 address n (omega arith) (omega arith)) (λ e. let f = within_facts 0x40_0000 address n e in within_true 0x40_0000 (address + i) n (omega arith) (omega arith))
in_area_on Data n address i h = same_bool _ _ (λ e. let f = within_facts 0x1000_0000 (address + i) n e in within_true 0x1000_0000 address n (omega arith) (omega arith)) (λ e. let f = within_facts 0x1000_0000 address n e in within_true 0x1000_0000 (address + i) n (omega arith) (omega arith))
in_area_on Stack n address i h = same_bool _ _ (λ e. let f = within_facts 0x4000_0000 (address + i) n e in within_true 0x4000_0000 address n (omega arith) (omega arith)) (λ e. let f = within_facts 0x4000_0000 address n e in within_true 0x4000_0000 (address + i) n (omega arith) (omega arith))

area_on : (p : Process) (address i : ℕ) → address % 4096 + i < 4096 → area_at 4096 p (address + i) ≡ area_at 4096 p address
area_on p address i h = λ j. area_by (in_area_on Text (length p.text_pages) address i h j) (in_area_on Data (length p.data_pages) address i h j) (in_area_on Stack (length p.stack_pages) address i h j)

page_on : (area : Area) (address i : ℕ) → area_start area ≤ address → address % 4096 + i < 4096 → page_number area (address + i) ≡ page_number area address
page_on Text address i a h = omega arith
page_on Data address i a h = omega arith
page_on Stack address i a h = omega arith

-- the byte at an address of the page in which an access is placed
pub byte_on : (p : Process) (first bytes : ℕ) (at : Place) (i : ℕ) → IsPlaced p first bytes at → i < bytes → byte_in (place_of 4096 (Some p) (first + i) 1) ≡ slice_get (page_at at) (at.byte + i)
byte_on p first bytes at i here h =
    let within : first % 4096 + i < 4096 = omega (arith, here.within) in
    let byte : (first + i) % 4096 ≡ first % 4096 + i = omega arith in
    let crosses : nat_lt 4096 ((first + i) % 4096 + 1) ≡ false = grind (arith, nat_tests) in
    ap (λ (b : Bool). byte_in (cond b (Err refusals.Crosses) (place_in 4096 p (first + i) (area_at 4096 p (first + i))))) crosses
    ∙ ap (λ (o : Option Area). byte_in (place_in 4096 p (first + i) o)) (area_on p first i within ∙ here.lies)
    ∙ ap (λ (n : ℕ). slice_get (unwrap_or (slice_get (pages_of p here.area) n) []) ((first + i) % 4096)) (page_on here.area first i (behind_start p first here.area here.lies) within)
    ∙ ap (slice_get (unwrap_or (slice_get (pages_of p here.area) (page_number here.area first)) [])) byte
    ∙ ap (λ (at : Place). slice_get (page_at at) (at.byte + i)) (sym here.is)
