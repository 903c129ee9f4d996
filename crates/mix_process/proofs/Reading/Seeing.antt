-- The pages of a process, part by part, and where an address lies in them.
use Rattle.std.proofs.Common.{◌≡◌, ◌⊎◌, inl, inr, ℕ, ◌+◌, ◌-◌, ◌*◌, ◌/◌, ◌<◌, ◌≤◌, Bool, true, false, cond, List, [], ◌∷◌, ◌++◌, length, Option, Some, None, refl, sym, ap, ◌∙◌, arith, append_assoc}
use Rattle.std.specs.Prelude.{slice_get}
use Rattle.std.specs.List.{AllByRecursion}
use Rattle.std.specs.Option.{option_map_or}
use Rattle.std.proofs.lemmas.Bool.{cases_lt}
use Rattle.std.proofs.lemmas.Bool.Decides.{nat_tests}
use Rattle.std.proofs.lemmas.List.{length-append, length-take-le}
use Rattle.interface_callers.proofs.Words.{Actor, Cache, Machine, Mapping, Page, cache_of, region_at}
use Rattle.mix_process.specs.ProcessMachine.{area_at, area_start, is_within}
use Rattle.mix_process.specs.Seen.{area_seen, cache_pages, pages_in, part_seen, process_seen, same_area}
use Rattle.mix_process.specs.Tying.{AreMapped, IsPart, IsSmall}
use Rattle.mix_process.specs.declared.area.Area.{Area}
use Rattle.mix_process.specs.declared.area.Area.TheVariants.{Data, Stack, Text}
use Rattle.mix_process.specs.declared.process.Part.{Part}
use Rattle.mix_process.specs.declared.process.Process.{Process}
use Rattle.mix_process.proofs.Reading.Areas.{area_by, area_of, in_area, page_number}
use Rattle.mix_process.proofs.Reading.Places.{get_left, get_past, get_take}
use Rattle.mix_process.proofs.Reading.Looking.{IsFound, IsNowhere, lookup, pages-append, same_self}

abbrev pub AreParts : Machine → List Part → Type 0
AreParts m parts = AllByRecursion (λ (part : Part). IsPart m part.area part) parts

pub all_parts : {A : Type 0} (P : A → Type 0) (xs ys : List A) → AllByRecursion P (xs ++ ys) → AllByRecursion P xs × AllByRecursion P ys
all_parts P [] ys h = (tt, h)
all_parts P (x ∷ xs) ys h = let rest = all_parts P xs ys h.1 in ((h.0, rest.0), rest.1)

-- The caches of parts

pub pages_there : (m : Machine) (cache : ℕ) (c : Cache) → cache_of m cache ≡ Some c → cache_pages m cache ≡ c.pages
pages_there m cache c e = ap (λ (o : Option Cache). option_map_or (λ (c : Cache). c.pages) o []) e

enough : (m : Machine) (a : Area) (p : Part) → IsPart m a p → p.pages ≤ length (cache_pages m p.cache.0)
enough m Text p h = omega (arith, h.many, ap length (pages_there m p.cache.0 h.cache h.there))
enough m Data p h = omega (arith, h.many, ap length (pages_there m p.cache.0 h.cache h.there))
enough m Stack p h = omega (arith, h.many, ap length (pages_there m p.cache.0 h.cache h.there))

pub part_length : (m : Machine) (p : Part) → IsPart m p.area p → length (part_seen m p) ≡ p.pages
part_length m p h = length-take-le p.pages (cache_pages m p.cache.0) (enough m p.area p h)

-- The pages of an area

pub seen-append : (m : Machine) (area : Area) (xs ys : List Part) → area_seen m area (xs ++ ys) ≡ area_seen m area xs ++ area_seen m area ys
seen-append m area [] ys = refl
seen-append m area (x ∷ xs) ys = ap (λ (zs : List Page). cond (same_area x.area area) (part_seen m x) [] ++ zs) (seen-append m area xs ys) ∙ sym (append_assoc (cond (same_area x.area area) (part_seen m x) []) (area_seen m area xs) (area_seen m area ys))

one_length : (b : Bool) (xs : List Page) (n : ℕ) → length xs ≡ n → length (cond b xs []) ≡ cond b n 0
one_length true xs n e = e
one_length false xs n e = refl

pub seen_length : (m : Machine) (area : Area) (parts : List Part) → AreParts m parts → length (area_seen m area parts) ≡ pages_in area parts
seen_length m area [] all = refl
seen_length m area (p ∷ ps) all =
    omega (arith, length-append (cond (same_area p.area area) (part_seen m p) []) (area_seen m area ps), one_length (same_area p.area area) (part_seen m p) p.pages (part_length m p all.0), seen_length m area ps all.1)

-- a page of a part is that of its cache
pub seen_at : (m : Machine) (before : List Part) (part : Part) (behind : List Part) (q : ℕ) → AreParts m (before ++ part ∷ behind) → q < part.pages
    → slice_get (area_seen m part.area (before ++ part ∷ behind)) (pages_in part.area before + q) ≡ slice_get (cache_pages m part.cache.0) q
seen_at m before part behind q all h =
    let split = all_parts (λ (p : Part). IsPart m p.area p) before (part ∷ behind) all in
    let front : length (area_seen m part.area before) ≡ pages_in part.area before = seen_length m part.area before split.0 in
    let rest : List Page = area_seen m part.area behind in
    ap (λ (xs : List Page). slice_get xs (pages_in part.area before + q)) (seen-append m part.area before (part ∷ behind))
    ∙ get_past (area_seen m part.area before) (area_seen m part.area (part ∷ behind)) (pages_in part.area before + q) (omega arith)
    ∙ ap (slice_get (area_seen m part.area (part ∷ behind))) (let e : pages_in part.area before + q - length (area_seen m part.area before) ≡ q = omega arith in e)
    ∙ ap (λ (b : Bool). slice_get (cond b (part_seen m part) [] ++ rest) q) (same_self part.area)
    ∙ get_left (part_seen m part) rest q (omega (arith, part_length m part split.1.0))
    ∙ get_take (cache_pages m part.cache.0) part.pages q h

-- Areas don't meet

abbrev Small : ℕ → ℕ → ℕ → Type 0
Small t d s = (t ≤ 1024) × (d ≤ 65536) × (s ≤ 1024)

within : (start a n : ℕ) → start ≤ a → a < start + 4096 * n → is_within 4096 start n a ≡ true
within start a n h g = grind (arith, nat_tests)

below : (start a n : ℕ) → a < start → is_within 4096 start n a ≡ false
below start a n h = grind (arith, nat_tests)

above : (start a n : ℕ) → start + 4096 * n ≤ a → is_within 4096 start n a ≡ false
above start a n h = grind (arith, nat_tests)

neither : (start a n : ℕ) → (start ≤ a → a < start + 4096 * n → ⊥) → is_within 4096 start n a ≡ false
neither start a n h = elim (cases_lt a start) [ inl b ↦ below start a n b | inr c ↦ elim (cases_lt a (start + 4096 * n)) [ inl d ↦ absurd (h c d) | inr e ↦ above start a n e ] ]

abbrev sized : ℕ → ℕ → ℕ → Area → ℕ
sized t d s Text = t
sized t d s Data = d
sized t d s Stack = s

area_is : (t d s a : ℕ) (area : Area) → Small t d s → area_start area ≤ a → a < area_start area + 4096 * sized t d s area → area_of t d s a ≡ Some area
area_is t d s a Text small from to = ap (λ (b : Bool). area_by b (in_area Data d a) (in_area Stack s a)) (within 0x40_0000 a t from to)
area_is t d s a Data small from to =
    let t_not : in_area Text t a ≡ false = above 0x40_0000 a t (omega (arith, small.0)) in
    λ i. area_by (t_not i) (within 0x1000_0000 a d from to i) (in_area Stack s a)
area_is t d s a Stack small from to =
    let t_not : in_area Text t a ≡ false = above 0x40_0000 a t (omega (arith, small.0)) in
    let d_not : in_area Data d a ≡ false = above 0x1000_0000 a d (omega (arith, small.1)) in
    λ i. area_by (t_not i) (d_not i) (within 0x4000_0000 a s from to i)

no_area : (t d s a : ℕ) → ((area : Area) → area_start area ≤ a → a < area_start area + 4096 * sized t d s area → ⊥) → area_of t d s a ≡ None
no_area t d s a out = λ i. area_by (neither 0x40_0000 a t (out Text) i) (neither 0x1000_0000 a d (out Data) i) (neither 0x4000_0000 a s (out Stack) i)

-- Where an address lies

abbrev count : List Part → Area → ℕ
count parts area = sized (pages_in Text parts) (pages_in Data parts) (pages_in Stack parts) area

counted : (parts : List Part) (area : Area) → count parts area ≡ pages_in area parts
counted parts Text = refl
counted parts Data = refl
counted parts Stack = refl

area_seen_at : (m : Machine) (p : Process) (a : ℕ) → AreParts m p.parts.items → area_at 4096 (process_seen m p) a ≡ area_of (pages_in Text p.parts.items) (pages_in Data p.parts.items) (pages_in Stack p.parts.items) a
area_seen_at m p a all = λ i. area_of (seen_length m Text p.parts.items all i) (seen_length m Data p.parts.items all i) (seen_length m Stack p.parts.items all i) a

-- An address of a process lies in this page of a part.
pub record IsSpot (m : Machine) (p : Process) (regions : Actor) (address : ℕ) : Type 0 where
  pub found : IsFound p.parts.items regions address
  pub area : area_at 4096 (process_seen m p) address ≡ Some found.part.area
  pub page : ℕ
  pub page_is : found.region.offset + (address - found.region.start) / 4096 ≡ page
  pub number : page_number found.part.area address ≡ pages_in found.part.area found.before + page
  pub within : page < found.part.pages

-- It lies in none.
pub record IsBare (m : Machine) (p : Process) (regions : Actor) (address : ℕ) : Type 0 where
  pub region : region_at 4096 address regions ≡ None
  pub area : area_at 4096 (process_seen m p) address ≡ None

page_split : (start k a n : ℕ) → start + 4096 * k ≤ a → a < start + 4096 * k + 4096 * n → ((a - start) / 4096 ≡ k + (a - (start + 4096 * k)) / 4096) × ((a - (start + 4096 * k)) / 4096 < n)
page_split start k a n h g = (omega arith, omega arith)

spotted : (m : Machine) (p : Process) (regions : Actor) (address : ℕ) → AreParts m p.parts.items → IsSmall p.parts.items → (f : IsFound p.parts.items regions address) → IsSpot m p regions address
spotted m p regions address all small f =
    let area : Area = f.part.area in
    let k : ℕ = pages_in area f.before in
    let start : f.region.start ≡ area_start area + 4096 * k = ap (λ (q : Mapping). q.address) f.mapping in
    let size : f.region.pages ≡ f.part.pages = ap (λ (q : Mapping). q.extent.pages) f.mapping in
    let offset : f.region.offset ≡ 0 = ap (λ (q : Mapping). q.extent.first.0) f.mapping in
    let split = page_split (area_start area) k address f.part.pages (omega (arith, f.holds.0, start)) (omega (arith, f.holds.1, start, size)) in
    let here : ℕ = (address - (area_start area + 4096 * k)) / 4096 in
    let many : pages_in area p.parts.items ≡ pages_in area f.before + pages_in area (f.part ∷ f.behind) = ap (pages_in area) f.is ∙ pages-append area f.before (f.part ∷ f.behind) in
    let own : pages_in area (f.part ∷ f.behind) ≡ f.part.pages + pages_in area f.behind = ap (λ (b : Bool). cond b f.part.pages 0 + pages_in area f.behind) (same_self area) in
    record {
      found = f;
      area = area_seen_at m p address all ∙ area_is (pages_in Text p.parts.items) (pages_in Data p.parts.items) (pages_in Stack p.parts.items) address area (small.text, small.data_pages, small.stack) (omega (arith, f.holds.0, start)) (omega (arith, f.holds.1, start, size, many, own, counted p.parts.items area));
      page = here;
      page_is = ap (λ (n : ℕ). n + (address - f.region.start) / 4096) offset ∙ ap (λ (n : ℕ). 0 + (address - n) / 4096) start ∙ (let e : 0 + here ≡ here = omega arith in e);
      number = split.0;
      within = split.1;
    }

pub located : (m : Machine) (p : Process) (regions : Actor) (address : ℕ) → AreParts m p.parts.items → IsSmall p.parts.items → AreMapped p.parts.items regions → IsSpot m p regions address ⊎ IsBare m p regions address
located m p regions address all small mapped = go (lookup address mapped)
  where
    go : IsFound p.parts.items regions address ⊎ IsNowhere p.parts.items regions address → IsSpot m p regions address ⊎ IsBare m p regions address
    go (inl f) = inl (spotted m p regions address all small f)
    go (inr n) = inr (record {
      region = n.at;
      area = area_seen_at m p address all ∙ no_area (pages_in Text p.parts.items) (pages_in Data p.parts.items) (pages_in Stack p.parts.items) address (λ area from to. n.outside area from (omega (arith, to, counted p.parts.items area)));
    })
