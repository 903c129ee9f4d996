-- The frames to which an entry for writing leads, as a place gets off its list or on one.
use Rattle.std.proofs.Common.{◌≡◌, ◌≢◌, ℕ, ◌+◌, ◌*◌, ◌<◌, ◌≤◌, ◌^◌, ◌==◌, Bool, true, false, List, length, get_or, set, map, replicate, Option, Some, None, refl, sym, ap, ◌∙◌, subst, arith, inl, inr, length-set, lt-ltb}
use Rattle.std.specs.Prelude.{count_by, nat_lt, if◌then◌else◌, IfSome}
use Rattle.std.proofs.lemmas.Bool.{cases_eq, cases_Bool}
use Rattle.std.specs.List.{range_with_len}
use Rattle.std.proofs.lemmas.List.FromFn.{get_or-map-range_with_len, length-map-range_with_len}
use Rattle.std.proofs.lemmas.List.{ext_get_or, get_or-set_other, get_or-set_same, length-replicate}
use Rattle.vm_ids.proofs.Places.{bit, bit_false, count-set, count_some, count-replicate_none, other_number, same_all, same_number, true_below}
use Rattle.vm_ids.specs.declared.numbers.FrameId.{FrameId}
use Rattle.page_tables.specs.Entries.{frame_row, leads_to}
use Rattle.page_tables.specs.FrameSets.{count_in, has}
use Rattle.page_tables.specs.Indexes.{listed_at, place_list}
use Rattle.page_tables.specs.Membership.{is_on, list_of, Membership}
use Rattle.page_tables.specs.Translations.{holds, is_written, written_count, IsFrame}
use Rattle.page_tables.specs.Writing.{is_used, written_frame, IsKept, IsWriting}
use Rattle.page_tables.specs.declared.entry.Entry.{Entry}
use Rattle.page_tables.proofs.EntryPlaces.{leads_by, listed_by}
use Rattle.page_tables.proofs.FrameSets.{counted_by}
use Rattle.page_tables.proofs.LinkReads.{in_range}

-- an entry on the list of a frame's entries for writing is one of these
writes : (o : Option Entry) (f : ℕ) → place_list o ≡ frame_row f true → (g : FrameId) × (written_frame o ≡ Some g) × (g.0 ≡ f)
writes None f e = absurd (omega (arith, e))
writes (Some x) f e = at x.to.writable e where
  at : (w : Bool) → frame_row x.to.frame.0 w ≡ frame_row f true → (g : FrameId) × ((if w then Some x.to.frame else None) ≡ Some g) × (g.0 ≡ f)
  at true e1 = (x.to.frame, refl, omega (arith, e1))
  at false e1 = absurd (omega (arith, e1))

written_row : (o : Option Entry) (g : FrameId) → written_frame o ≡ Some g → place_list o ≡ frame_row g.0 true
written_row None g e = absurd (cc)
written_row (Some x) g e = at x.to.writable e where
  at : (w : Bool) → (if w then Some x.to.frame else None) ≡ Some g → frame_row x.to.frame.0 w ≡ frame_row g.0 true
  at true e1 = (let same : x.to.frame ≡ g = cc in ap (λ (h : FrameId). 2 + 2 * h.0) same)
  at false e1 = absurd (cc)

-- no other frame's list is that of an entry for writing to one
unwritten : (o : Option Entry) (f : ℕ) → written_frame o ≡ None → is_on (frame_row f true) (listed_at o) ≡ false
unwritten o f none = other_number (place_list o) (frame_row f true) (λ e. (let w = writes o f e in let z : None ≡ Some w.0 = sym none ∙ w.1 in absurd (cc)))

elsewhere : (o : Option Entry) (g : FrameId) (f : ℕ) → written_frame o ≡ Some g → f ≢ g.0 → is_on (frame_row f true) (listed_at o) ≡ false
elsewhere o g f some other = other_number (place_list o) (frame_row f true) (λ e. other (omega (arith, e, written_row o g some)))

-- a list on which a place neither was nor is has as many as before
same_used : (on : List (Option ℕ)) (place k : ℕ) (a b : Option ℕ) → place < length on → get_or on place None ≡ a → is_on k a ≡ false → is_on k b ≡ false → is_used (set on place b) k ≡ is_used on k
same_used on place k a b below at was now =
    let same : count_by (is_on k) (set on place b) ≡ count_by (is_on k) on = omega (arith, count-set (is_on k) on place b None below, ap (λ (o : Option ℕ). bit (is_on k o)) at, bit_false (is_on k a) was, bit_false (is_on k b) now) in
    ap (λ (n : ℕ). nat_lt 0 n) same

used : (on : List (Option ℕ)) (place k : ℕ) → place < length on → get_or on place None ≡ Some k → is_used on k ≡ true
used on place k below at = lt-ltb 0 (count_by (is_on k) on) (count_some (is_on k) on place None below (ap (is_on k) at ∙ same_number k))

-- a place on a list is one of them
pub listed_below : (on : List (Option ℕ)) (place : ℕ) (o : Option Entry) → get_or on place None ≡ listed_at o → place < length on
listed_below on place o at = in_range on place (λ none. (let z : None ≡ listed_at o = sym none ∙ at in absurd (cc)))

-- the frame of an entry, and its list, are some that there are
pub frame_few : (o : Option Entry) (n : ℕ) → n ≤ 2 ^ 16 → IfSome o (λ e. e.to.frame.0 < n) → IfSome o (λ e. e.to.frame.0 < 2 ^ 16)
frame_few None n few h = tt
frame_few (Some e) n few h = omega (arith, few, h)

pub list_known : (o : Option Entry) (n lists : ℕ) → lists ≡ 2 * n + 1 → IfSome o (λ e. e.to.frame.0 < n) → place_list o < lists
list_known None n lists room h = omega (arith, room)
list_known (Some e) n lists room h = at e.to.writable where
  at : (w : Bool) → frame_row e.to.frame.0 w < lists
  at true = omega (arith, room, h)
  at false = omega (arith, room, h)

pub frame_known : (o : Option Entry) (places : List (Option Entry)) (n m : ℕ) → length places ≡ 4 * n → m ≡ n → IfSome o (λ e. IsFrame places e.to.frame.0) → IfSome o (λ e. e.to.frame.0 < m)
frame_known None places n m size same h = tt
frame_known (Some e) places n m size same h = omega (arith, size, same, h)

pub written_known : (o : Option Entry) (g : FrameId) (n : ℕ) → written_frame o ≡ Some g → IfSome o (λ e. e.to.frame.0 < n) → g.0 < n
written_known None g n e h = absurd (cc)
written_known (Some x) g n e h = at x.to.writable e where
  at : (w : Bool) → (if w then Some x.to.frame else None) ≡ Some g → g.0 < n
  at true e1 = (let same : x.to.frame ≡ g = cc in subst (λ (f : FrameId). f.0 < n) same h)
  at false e1 = absurd (cc)

pub enlisted : (lists : Membership) (writing : List Bool) (place : ℕ) (o : Option Entry) → IsWriting lists writing → place < length lists.on → list_of lists place ≡ None → written_frame o ≡ None
    → IsWriting (record { lists = lists.lists; on = set lists.on place (listed_at o) }) writing
enlisted lists writing place o is below loose none = record {
  few = is.few;
  room = is.room;
  each = λ f. is.each f ∙ sym (same_used lists.on place (frame_row f true) None (listed_at o) below loose refl (unwritten o f none));
}

pub enlisted_with : (lists : Membership) (writing : List Bool) (place : ℕ) (o : Option Entry) (g : FrameId) → IsWriting lists writing → place < length lists.on → list_of lists place ≡ None → written_frame o ≡ Some g → g.0 < length writing
    → IsWriting (record { lists = lists.lists; on = set lists.on place (listed_at o) }) (set writing g.0 true)
enlisted_with lists writing place o g is below loose some h = record {
  few = omega (arith, is.few, length-set writing g.0 true);
  room = omega (arith, is.room, length-set writing g.0 true);
  each = λ f. elim (cases_eq f g.0) [
    | inl same ↦ ap (has (set writing g.0 true)) same ∙ get_or-set_same writing g.0 true false h
        ∙ sym (ap (λ (n : ℕ). is_used (set lists.on place (listed_at o)) (frame_row n true)) same
        ∙ used (set lists.on place (listed_at o)) place (frame_row g.0 true) (omega (arith, below, length-set lists.on place (listed_at o)))
        (get_or-set_same lists.on place (listed_at o) None below ∙ ap (λ (n : ℕ). Some n) (written_row o g some)))
    | inr other ↦ get_or-set_other writing g.0 f true false other ∙ is.each f
        ∙ sym (same_used lists.on place (frame_row f true) None (listed_at o) below loose refl (elsewhere o g f some other))
  ];
}

pub delisted : (lists : Membership) (writing : List Bool) (place : ℕ) (o : Option Entry) → IsWriting lists writing → place < length lists.on → list_of lists place ≡ listed_at o → written_frame o ≡ None
    → IsWriting (record { lists = lists.lists; on = set lists.on place None }) writing
delisted lists writing place o is below at none = record {
  few = is.few;
  room = is.room;
  each = λ f. is.each f ∙ sym (same_used lists.on place (frame_row f true) (listed_at o) None below at (unwritten o f none) refl);
}

-- the set has the frame of an entry for writing
pub had : (lists : Membership) (writing : List Bool) (place : ℕ) (o : Option Entry) (g : FrameId) → IsWriting lists writing → place < length lists.on → list_of lists place ≡ listed_at o → written_frame o ≡ Some g → has writing g.0 ≡ true
had lists writing place o g is below at some = is.each g.0 ∙ used lists.on place (frame_row g.0 true) below (at ∙ ap (λ (n : ℕ). Some n) (written_row o g some))

pub delisted_last : (lists : Membership) (writing : List Bool) (place : ℕ) (o : Option Entry) (g : FrameId) → IsWriting lists writing → place < length lists.on → list_of lists place ≡ listed_at o → written_frame o ≡ Some g → count_by (is_on (frame_row g.0 true)) (set lists.on place None) ≡ 0
    → IsWriting (record { lists = lists.lists; on = set lists.on place None }) (set writing g.0 false)
delisted_last lists writing place o g is below at some none = record {
  few = omega (arith, is.few, length-set writing g.0 false);
  room = omega (arith, is.room, length-set writing g.0 false);
  each = λ f. elim (cases_eq f g.0) [
    | inl same ↦ ap (has (set writing g.0 false)) same ∙ get_or-set_same writing g.0 false false (true_below writing g.0 (had lists writing place o g is below at some))
        ∙ sym (ap (λ (n : ℕ). is_used (set lists.on place None) (frame_row n true)) same ∙ ap (λ (n : ℕ). nat_lt 0 n) none)
    | inr other ↦ get_or-set_other writing g.0 f false false other ∙ is.each f
        ∙ sym (same_used lists.on place (frame_row f true) (listed_at o) None below at (elsewhere o g f some other) refl)
  ];
}

pub delisted_more : (lists : Membership) (writing : List Bool) (place : ℕ) (o : Option Entry) (g : FrameId) → IsWriting lists writing → place < length lists.on → list_of lists place ≡ listed_at o → written_frame o ≡ Some g → count_by (is_on (frame_row g.0 true)) (set lists.on place None) ≢ 0
    → IsWriting (record { lists = lists.lists; on = set lists.on place None }) writing
delisted_more lists writing place o g is below at some more = record {
  few = is.few;
  room = is.room;
  each = λ f. elim (cases_eq f g.0) [
    | inl same ↦ ap (has writing) same ∙ had lists writing place o g is below at some
        ∙ sym (ap (λ (n : ℕ). is_used (set lists.on place None) (frame_row n true)) same ∙ lt-ltb 0 (count_by (is_on (frame_row g.0 true)) (set lists.on place None)) (omega (arith, more)))
    | inr other ↦ is.each f ∙ sym (same_used lists.on place (frame_row f true) (listed_at o) None below at (elsewhere o g f some other) refl)
  ];
}

pub none_kept : (frames : ℕ) → frames ≤ 2 ^ 16 → IsKept (replicate (4 * frames) None) (record { lists = 2 * frames + 1; on = replicate (4 * frames) (Some 0) }) (replicate frames false) (replicate frames false)
none_kept frames few = record {
  sizes = (let none : Option Entry = None in omega (arith, length-replicate frames false, length-replicate (4 * frames) none));
  exact = record {
    few = omega (arith, few, length-replicate frames false);
    room = omega (arith, length-replicate frames false);
    each = λ f. same_all frames false f ∙ sym (ap (λ (n : ℕ). nat_lt 0 n) (count-replicate_none (is_on (frame_row f true)) (4 * frames) (Some 0) (other_number 0 (frame_row f true) (λ e. absurd (omega (arith, e))))));
  };
  none_asked = ap (λ (n : ℕ). replicate n false) (sym (length-replicate frames false));
}

on_row : (f : ℕ) (o : Option Entry) → is_on (frame_row f true) (listed_at o) ≡ holds (leads_to f true) o
on_row f o = elim (cases_Bool (holds (leads_to f true) o)) [
  | inl t ↦ ap (λ (n : ℕ). n == frame_row f true) (listed_by o f true t) ∙ same_number (frame_row f true) ∙ sym t
  | inr n ↦ other_number (place_list o) (frame_row f true) (λ e. (let z : false ≡ true = sym n ∙ leads_by o f true e in absurd (cc))) ∙ sym n
]

-- by the lists and by the entries
pub used_is : (places : List (Option Entry)) (f : ℕ) → is_used (map listed_at places) (frame_row f true) ≡ is_written places f
used_is places f = ap (λ (n : ℕ). nat_lt 0 n) (counted_by (is_on (frame_row f true)) listed_at (holds (leads_to f true)) (on_row f) places)

-- the set has as many as there are
pub written_is : (places : List (Option Entry)) (lists : Membership) (writing : List Bool) → IsWriting lists writing → lists.on ≡ map listed_at places → count_in writing ≡ written_count places (length writing)
written_is places lists writing is on =
    let n : ℕ = length writing in
    let test : ℕ → Bool = is_written places in
    let each : (f : ℕ) → has writing f ≡ test f = λ f. is.each f ∙ ap (λ (xs : List (Option ℕ)). is_used xs (frame_row f true)) on ∙ used_is places f in
    ap count_in (ext_get_or false writing (map test (range_with_len 0 n)) (sym (length-map-range_with_len test 0 n)) (λ f b. each f ∙ sym (get_or-map-range_with_len test 0 n f f false b (omega arith))))
    ∙ counted_by (λ (b : Bool). b) test test (λ f. refl) (range_with_len 0 n)
