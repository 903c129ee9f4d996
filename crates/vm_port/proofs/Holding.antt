-- What a mapper in memory tells, before and after a push.
use Rattle.std.proofs.Common.{◌≡◌, ◌==◌, ℕ, suc, zero, ◌+◌, ◌-◌, ◌<◌, ◌≤◌, Bool, true, false, cond, List, [], ◌∷◌, ◌++◌, Vec, Global, inl, inr, min, take, drop, length, get_or, set, map, Option, Some, None, refl, sym, ap, subst, ◌∙◌, arith, rules}
use Rattle.std.specs.Prelude.{slice_get, unwrap_or, option_and_then, option_map, is_some, IsSome}
use Rattle.std.specs.FinMap.{get, insert}
use Rattle.std.specs.List.{All}
use Rattle.std.proofs.lemmas.Bool.{cases_lt}
use Rattle.std.proofs.lemmas.Bool.Decides.{nat_tests}
use Rattle.std.proofs.lemmas.Option.{slice_get-map, slice_get_within, unwrap_or-slice_get}
use Rattle.std.proofs.lemmas.List.{append_assoc, drop_all, get_or-map, length-map, map-set, map_push, take_all}
use Rattle.std.proofs.lemmas.List.Elements.{All-head, All-tail, All-map}
use Rattle.vm_ids.specs.Held.{page_of, slot_of, with_page, with_slot}
use Rattle.vm_port.specs.Mapping.{MapperInMemory, held_of, cut, filled, pages_seen, sized, slot_seen, page_in, put_page_in}
use Rattle.vm_port.specs.Rows.{from_row}
use Rattle.vm_port.specs.declared.memory.pages.Segment.{Segment}
use Rattle.vm_port.specs.declared.memory.pages.Slot.{Slot}
use Rattle.vm_port.proofs.Finding.{at_below, at_from, flat, get_row, set_row}

within_at : {A B : Type 0} (f : A → Option B) (xs : List A) (i : ℕ) (o : Option A) → slice_get xs i ≡ o → IsSome (option_and_then f o) → i < length xs
within_at f xs i None e h = absurd (cc)
within_at f xs i (Some x) e h = slice_get_within xs i x e

within : {A B : Type 0} (b : Bool) (f : A → Option B) (xs : List A) (i : ℕ) → IsSome (cond b None (option_and_then f (slice_get xs i))) → i < length xs
within true f xs i h = absurd (cc)
within false f xs i h = within_at f xs i (slice_get xs i) refl h

-- a page that is there is of a segment that is there
pub segment_there : (segments : List Segment) (seg page : ℕ) → IsSome (page_in (map pages_seen segments) seg page) → seg - 1 < length segments
segment_there segments seg page h = omega (arith, within (seg == 0) (λ pages. slice_get pages page) (map pages_seen segments) (seg - 1) h, length-map segments pages_seen)

not_zero : (k : ℕ) → (suc k == 0) ≡ false
not_zero k = grind (arith, nat_tests)

flat-some : {A : Type 0} (o : Option A) → flat (option_map (λ x. Some x) o) ≡ o
flat-some None = refl
flat-some (Some x) = refl

-- the row of segments at a number
segment_at : (ys : List (List (List ℕ))) (seg : ℕ) → 1 ≤ seg → get (from_row 1 (map (λ pages. Some pages) ys)) seg ≡ slice_get ys (seg - 1)
segment_at ys seg h =
    get_row 1 (map (λ pages. Some pages) ys) seg ∙ at_from 1 (map (λ pages. Some pages) ys) seg h ∙ ap flat (slice_get-map (λ pages. Some pages) ys (seg - 1)) ∙ flat-some (slice_get ys (seg - 1))

-- the pages of its segments and slots, each of just so many bytes
abbrev pub sized_segments : MapperInMemory → List (List (List ℕ))
sized_segments m = map (map (sized m.page_bytes)) m.segments

abbrev pub sized_slots : MapperInMemory → List (Option (List ℕ))
sized_slots m = map (option_map (sized m.page_bytes)) m.slots

-- a page of its size is left as it is
pub sized_same : (n : ℕ) (page : List ℕ) → length page ≡ n → sized n page ≡ page
sized_same zero [] e = refl
sized_same zero (b ∷ page) e = absurd (cc e)
sized_same (suc n) [] e = absurd (cc e)
sized_same (suc n) (b ∷ page) e = ap (λ (bytes : List ℕ). b ∷ bytes) (sized_same n page (cc e))

-- what a mapper has of a segment, of a page and of a slot
segment_at_number : (ys : List (List (List ℕ))) (seg : ℕ) → get (from_row 1 (map (λ pages. Some pages) ys)) seg ≡ cond (seg == 0) None (slice_get ys (seg - 1))
segment_at_number ys zero = get_row 1 (map (λ pages. Some pages) ys) zero ∙ at_below 1 (map (λ pages. Some pages) ys) zero (omega arith)
segment_at_number ys (suc k) = segment_at ys (suc k) (omega arith) ∙ ap (λ (b : Bool). cond b None (slice_get ys (suc k - 1))) (sym (not_zero k))

pages_at : (n : ℕ) (b : Bool) (page : ℕ) (o : Option (List (List ℕ)))
    → option_and_then (λ pages. slice_get pages page) (cond b None (option_map (map (sized n)) o)) ≡ option_map (sized n) (cond b None (option_and_then (λ pages. slice_get pages page) o))
pages_at n true page o = refl
pages_at n false page None = refl
pages_at n false page (Some pages) = slice_get-map (sized n) pages page

pub page_sized : (m : MapperInMemory) (seg page : ℕ) → page_of (held_of m) seg page ≡ option_map (sized m.page_bytes) (page_in m.segments seg page)
page_sized m seg page =
    ap (option_and_then (λ pages. slice_get pages page)) (segment_at_number (sized_segments m) seg
    ∙ ap (λ (o : Option (List (List ℕ))). cond (seg == 0) None o) (slice_get-map (map (sized m.page_bytes)) m.segments (seg - 1)))
    ∙ pages_at m.page_bytes (seg == 0) page (slice_get m.segments (seg - 1))

zero_sub : (n : ℕ) → n - 0 ≡ n
zero_sub n = omega arith

pub slot_sized : (m : MapperInMemory) (slot : ℕ) → slot_of (held_of m) slot ≡ option_map (sized m.page_bytes) (flat (slice_get m.slots slot))
slot_sized m slot =
    get_row 0 (sized_slots m) slot ∙ at_from 0 (sized_slots m) slot (omega arith) ∙ ap (λ (k : ℕ). flat (slice_get (sized_slots m) k)) (zero_sub slot)
    ∙ ap flat (slice_get-map (option_map (sized m.page_bytes)) m.slots slot) ∙ flat_map (slice_get m.slots slot)
  where
    flat_map : (o : Option (Option (List ℕ))) → flat (option_map (option_map (sized m.page_bytes)) o) ≡ option_map (sized m.page_bytes) (flat o)
    flat_map None = refl
    flat_map (Some x) = refl

pub is_seen : {A B : Type 0} (f : A → B) (o : Option A) (p : Option B) → option_map f o ≡ p → is_some o ≡ is_some p
is_seen f None p e = ap is_some e
is_seen f (Some x) p e = ap is_some e

-- a page is there where it is held
some_sized : (n : ℕ) (o : Option (List ℕ)) → is_some (option_map (sized n) o) ≡ is_some o
some_sized n None = refl
some_sized n (Some page) = refl

pub page_is_held : (m : MapperInMemory) (seg page : ℕ) → is_some (page_of (held_of m) seg page) ≡ is_some (page_in m.segments seg page)
page_is_held m seg page = ap is_some (page_sized m seg page) ∙ some_sized m.page_bytes (page_in m.segments seg page)

pub slot_is_held : (m : MapperInMemory) (slot : ℕ) → is_some (slot_of (held_of m) slot) ≡ is_some (flat (slice_get m.slots slot))
slot_is_held m slot = ap is_some (slot_sized m slot) ∙ some_sized m.page_bytes (flat (slice_get m.slots slot))

same_sized : (n : ℕ) (o : Option (List ℕ)) (bytes : List ℕ) → o ≡ Some bytes → length bytes ≡ n → option_map (sized n) o ≡ Some bytes
same_sized n o bytes e all = ap (option_map (sized n)) e ∙ ap Some (sized_same n bytes all)

-- and is the one that is held, where it has all its bytes
pub page_held : (m : MapperInMemory) (seg page : ℕ) (bytes : List ℕ) → page_in m.segments seg page ≡ Some bytes → length bytes ≡ m.page_bytes → page_of (held_of m) seg page ≡ Some bytes
page_held m seg page bytes e all = page_sized m seg page ∙ same_sized m.page_bytes (page_in m.segments seg page) bytes e all

pub slot_held : (m : MapperInMemory) (slot : ℕ) (bytes : List ℕ) → flat (slice_get m.slots slot) ≡ Some bytes → length bytes ≡ m.page_bytes → slot_of (held_of m) slot ≡ Some bytes
slot_held m slot bytes e all = slot_sized m slot ∙ same_sized m.page_bytes (flat (slice_get m.slots slot)) bytes e all

positive : (b : Bool) (f : List (List ℕ) → Option (List ℕ)) (o : Option (List (List ℕ))) (seg : ℕ) → (seg == 0) ≡ b → IsSome (cond b None (option_and_then f o)) → 0 < seg
positive true f o seg e h = absurd (cc)
positive false f o seg e h = grind (arith, nat_tests)

-- a page of a segment was put
pub put_page_held : (m : MapperInMemory) (seg page : ℕ) (bytes : List ℕ) → IsSome (page_in m.segments seg page) → length bytes ≡ m.page_bytes
    → held_of (record m { segments = put_page_in m.segments seg page bytes }) ≡ with_page seg page bytes (held_of m)
put_page_held m seg page bytes there all =
    let Pages : Type 0 = List (List ℕ) in
    let f : List ℕ → List ℕ = sized m.page_bytes in
    let ys = sized_segments m in
    let row = from_row 1 (map (λ pages. Some pages) ys) in
    let old : Pages = get_or m.segments (seg - 1) [] in
    let some : 0 < seg = positive (seg == 0) (λ pages. slice_get pages page) (slice_get m.segments (seg - 1)) seg refl there in
    let key : 1 + (seg - 1) ≡ seg = omega arith in
    let low : seg - 1 < length m.segments = within (seg == 0) (λ pages. slice_get pages page) m.segments (seg - 1) there in
    let below : seg - 1 < length (map (λ (pages : Pages). Some pages) ys) = omega (arith, low, length-map ys (λ (pages : Pages). Some pages), length-map m.segments (map f)) in
    let found : unwrap_or (get row seg) [] ≡ map f old
    = ap (λ (o : Option Pages). unwrap_or o []) (segment_at ys seg (omega arith)) ∙ unwrap_or-slice_get ys (seg - 1) [] ∙ get_or-map (map f) m.segments (seg - 1) [] [] low in
    let put : from_row 1 (map (λ pages. Some pages) (map (map f) (set m.segments (seg - 1) (set old page bytes)))) ≡ insert row seg (set (unwrap_or (get row seg) []) page bytes)
    = ap (λ (xs : List Pages). from_row 1 (map (λ pages. Some pages) xs)) (map-set (map f) m.segments (seg - 1) (set old page bytes))
    ∙ ap (λ (o : Pages). from_row 1 (map (λ pages. Some pages) (set ys (seg - 1) o))) (map-set f old page bytes ∙ ap (set (map f old) page) (sized_same m.page_bytes bytes all))
    ∙ ap (from_row 1) (map-set (λ pages. Some pages) ys (seg - 1) (set (map f old) page bytes))
    ∙ sym (set_row 1 (map (λ pages. Some pages) ys) (seg - 1) (set (map f old) page bytes) below)
    ∙ ap (λ (k : ℕ). insert row k (set (map f old) page bytes)) key
    ∙ ap (λ (o : Pages). insert row seg (set o page bytes)) (sym found) in
    ap (λ r. record { segments = r; slots = from_row 0 (sized_slots m); denied = m.denied }) put

-- a slot was put
pub put_slot_held : (m : MapperInMemory) (slot : ℕ) (bytes : List ℕ) → slot < length m.slots → length bytes ≡ m.page_bytes
    → held_of (record m { slots = set m.slots slot (Some bytes) }) ≡ with_slot slot bytes (held_of m)
put_slot_held m slot bytes there all =
    let f : List ℕ → List ℕ = sized m.page_bytes in
    let row = from_row 0 (sized_slots m) in
    let key : 0 + slot ≡ slot = omega arith in
    let below : slot < length (sized_slots m) = omega (arith, there, length-map m.slots (option_map f)) in
    let put : from_row 0 (map (option_map f) (set m.slots slot (Some bytes))) ≡ insert row slot bytes
    = ap (from_row 0) (map-set (option_map f) m.slots slot (Some bytes) ∙ ap (λ (page : List ℕ). set (sized_slots m) slot (Some page)) (sized_same m.page_bytes bytes all))
    ∙ sym (set_row 0 (sized_slots m) slot bytes below) ∙ ap (λ (k : ℕ). insert row k bytes) key in
    ap (λ r. record { segments = from_row 1 (map (λ pages. Some pages) (sized_segments m)); slots = r; denied = m.denied }) put

all_at : {A : Type 0} (P : A → Type 0) (xs : List A) (k : ℕ) (y : A) → slice_get xs k ≡ Some y → All P xs → P y
all_at P [] k y e h = absurd (search rules)
all_at P (x ∷ xs) zero y e h = let same : x ≡ y = cc in subst P same (All-head P x xs h)
all_at P (x ∷ xs) (suc k) y e h = all_at P xs k y e (All-tail P x xs h)

page_length_at : (b : Bool) (o : Option Segment) (page n : ℕ) (bytes : List ℕ) → ((s : Segment) → o ≡ Some s → All (λ p. length p.items ≡ n) s.pages.items) → cond b None (option_and_then (λ pages. slice_get pages page) (option_map pages_seen o)) ≡ Some bytes → length bytes ≡ n
page_length_at true o page n bytes h e = absurd (search rules)
page_length_at false None page n bytes h e = absurd (search rules)
page_length_at false (Some s) page n bytes h e = all_at (λ (y : List ℕ). length y ≡ n) (pages_seen s) page bytes e (All-map (λ (y : List ℕ). length y ≡ n) (λ p. p.items) s.pages.items (h s refl))

-- a page that is there has all its bytes
pub page_length : (segments : List Segment) (seg page n : ℕ) (bytes : List ℕ) → All (λ s. All (λ p. length p.items ≡ n) s.pages.items) segments → page_in (map pages_seen segments) seg page ≡ Some bytes → length bytes ≡ n
page_length segments seg page n bytes h e =
    page_length_at (seg == 0) (slice_get segments (seg - 1)) page n bytes (λ s there. all_at (λ (s : Segment). All (λ p. length p.items ≡ n) s.pages.items) segments (seg - 1) s there h)
    (ap (λ (o : Option (List (List ℕ))). cond (seg == 0) None (option_and_then (λ pages. slice_get pages page) o)) (sym (slice_get-map pages_seen segments (seg - 1))) ∙ e)

held_length : (held : Bool) (bytes found : List ℕ) → cond held (Some bytes) None ≡ Some found → found ≡ bytes
held_length true bytes found e = cc
held_length false bytes found e = absurd (search rules)

slot_length_at : (o : Option Slot) (n : ℕ) (bytes : List ℕ) → ((s : Slot) → o ≡ Some s → length s.bytes.items ≡ n) → flat (option_map slot_seen o) ≡ Some bytes → length bytes ≡ n
slot_length_at None n bytes h e = absurd (search rules)
slot_length_at (Some s) n bytes h e = ap length (held_length s.is_held s.bytes.items bytes e) ∙ h s refl

-- so has the page of a slot
pub slot_length : (slots : List Slot) (slot n : ℕ) (bytes : List ℕ) → All (λ s. length s.bytes.items ≡ n) slots → flat (slice_get (map slot_seen slots) slot) ≡ Some bytes → length bytes ≡ n
slot_length slots slot n bytes h e = slot_length_at (slice_get slots slot) n bytes (λ s there. all_at (λ (s : Slot). length s.bytes.items ≡ n) slots slot s there h) (ap flat (sym (slice_get-map slot_seen slots slot)) ∙ e)

size_at : (n : ℕ) (b : Bool) (o : Option (List (List ℕ))) → cond b None (option_map length o) ≡ option_map length (cond b None (option_map (map (sized n)) o))
size_at n true o = refl
size_at n false None = refl
size_at n false (Some pages) = ap Some (sym (length-map pages (sized n)))

-- the size of a segment
pub size_held : (m : MapperInMemory) (seg : ℕ) → cond (seg == 0) None (option_map length (slice_get m.segments (seg - 1))) ≡ option_map length (get (held_of m).segments seg)
size_held m seg =
    size_at m.page_bytes (seg == 0) (slice_get m.segments (seg - 1))
    ∙ ap (option_map length) (ap (λ (o : Option (List (List ℕ))). cond (seg == 0) None o) (sym (slice_get-map (map (sized m.page_bytes)) m.segments (seg - 1))) ∙ sym (segment_at_number (sized_segments m) seg))

take_min : (page : ℕ) (xs : List ℕ) → take (min (length xs) page) xs ≡ take page xs
take_min page xs = elim (cases_lt (length xs) page) [
  | inl h ↦ let e : min (length xs) page ≡ length xs = omega arith in ap (λ (k : ℕ). take k xs) e ∙ take_all (length xs) xs (omega arith) ∙ sym (take_all page xs (omega arith))
  | inr h ↦ let e : min (length xs) page ≡ page = omega arith in ap (λ (k : ℕ). take k xs) e
]

drop_min : (page : ℕ) (xs : List ℕ) → drop (min (length xs) page) xs ≡ drop page xs
drop_min page xs = elim (cases_lt (length xs) page) [
  | inl h ↦ let e : min (length xs) page ≡ length xs = omega arith in ap (λ (k : ℕ). drop k xs) e ∙ drop_all (length xs) xs (omega arith) ∙ sym (drop_all page xs (omega arith))
  | inr h ↦ let e : min (length xs) page ≡ page = omega arith in ap (λ (k : ℕ). drop k xs) e
]

-- one page is cut off
pub cut_on : (all after : List (Vec ℕ Global)) (one : Vec ℕ Global) (pages i page : ℕ) (rest front back : List ℕ) → i < pages → after ≡ all ++ one ∷ []
    → front ≡ take (min (length rest) page) rest → back ≡ drop (min (length rest) page) rest → one.items ≡ filled page front
    → map (λ p. p.items) after ++ cut (pages - (i + 1)) page back ≡ map (λ p. p.items) all ++ cut (pages - i) page rest
cut_on all after one pages i page rest front back below e f b o =
    let done = map (λ p. p.items) all in
    let more : pages - i ≡ suc (pages - (i + 1)) = omega arith in
    let item : one.items ≡ filled page (take page rest) = o ∙ ap (filled page) (f ∙ take_min page rest) in
    ap (λ (xs : List (Vec ℕ Global)). map (λ p. p.items) xs ++ cut (pages - (i + 1)) page back) e
    ∙ ap (λ xs. xs ++ cut (pages - (i + 1)) page back) (map_push (λ p. p.items) all one)
    ∙ append_assoc done (one.items ∷ []) (cut (pages - (i + 1)) page back)
    ∙ ap (λ (x : List ℕ). done ++ x ∷ cut (pages - (i + 1)) page back) item
    ∙ ap (λ (xs : List ℕ). done ++ filled page (take page rest) ∷ cut (pages - (i + 1)) page xs) (b ∙ drop_min page rest)
    ∙ ap (λ (k : ℕ). done ++ cut k page rest) (sym more)
