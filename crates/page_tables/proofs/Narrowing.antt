-- Entries become read-only where they lead to frames that are picked.
use Rattle.std.proofs.Common.{◌≡◌, ◌≢◌, ℕ, ◌+◌, ◌*◌, ◌<◌, ◌≤◌, ◌^◌, ◌==◌, ◌&&◌, ◌||◌, Bool, true, false, not, cond, List, [], ◌∷◌, suc, length, set, map, replicate, Option, Some, None, refl, sym, ap, ◌∙◌, subst, arith, inl, inr, ◌⊎◌, length-set, lt-ltb}
use Rattle.std.specs.Prelude.{count_by, nat_lt}
use Rattle.std.proofs.lemmas.Bool.{and_from, cases_eq, cases_Bool, cond-false, cond-true}
use Rattle.std.proofs.lemmas.Bool.Decides.{nat_tests}
use Rattle.std.proofs.lemmas.List.{ext_get_or, get_or-set_other, get_or-set_same, length-map, length-replicate, map-set, set-set}
use Rattle.vm_ids.proofs.Places.{count_cons, count_some, other_number, same_all, same_number, true_below}
use Rattle.page_tables.specs.Entries.{frame_row, is_for, is_in_frame, leads_to, read_only}
use Rattle.page_tables.specs.FrameSets.{has}
use Rattle.page_tables.specs.Indexes.{listed_at, place_hash, place_list, place_row, IsIndexed}
use Rattle.page_tables.specs.Membership.{list_of, Membership}
use Rattle.page_tables.specs.Rows.{IsInRows}
use Rattle.page_tables.specs.Translations.{entry_at, holds, is_written, narrowed, narrowed_in, read_only_at, Narrows}
use Rattle.page_tables.specs.Writing.{is_used, IsKept}
use Rattle.page_tables.specs.declared.entry.Entry.{Entry}
use Rattle.page_tables.proofs.Dropping.{no_more, none_writable}
use Rattle.page_tables.proofs.EntryPlaces.{held_below, on_list}
use Rattle.page_tables.proofs.FrameSets.{counted_by}
use Rattle.page_tables.proofs.Writing.{used_is}

mapped_by : {X Y Z : Type 0} (g : Y → Z) (h : X → Y) (k : X → Z) → ((x : X) → g (h x) ≡ k x) → (xs : List X) → map g (map h xs) ≡ map k xs
mapped_by g h k same [] = refl
mapped_by g h k same (x ∷ xs) = ap (λ (y : _). y ∷ map g (map h xs)) (same x) ∙ ap (λ (ys : List _). k x ∷ ys) (mapped_by g h k same xs)

no_and : (a : Bool) → (a && false) ≡ false
no_and true = refl
no_and false = refl

false_true : (b : Bool) → b ≡ false → b ≡ true → ⊥
false_true b p q = (let z : false ≡ true = sym p ∙ q in absurd (cc))

-- no entry for writing leads to a frame that is picked
narrowed_out : (frames : ℕ → Bool) (f : ℕ) → frames f ≡ true → (o : Option Entry) → holds (leads_to f true) (narrowed_in frames o) ≡ false
narrowed_out frames f picked None = refl
narrowed_out frames f picked (Some e) = elim (cases_Bool (frames e.to.frame.0)) [
  | inl is_so ↦ ap (leads_to f true) (cond-true (frames e.to.frame.0) (read_only e) e is_so) ∙ no_and (is_in_frame f e)
  | inr not_so ↦ ap (leads_to f true) (cond-false (frames e.to.frame.0) (read_only e) e not_so)
      ∙ ap (λ (b : Bool). b && e.to.writable) (other_number e.to.frame.0 f (λ s. false_true (frames e.to.frame.0) not_so (ap frames s ∙ picked)))
]

-- those that lead to another are as they were
narrowed_same : (frames : ℕ → Bool) (f : ℕ) → frames f ≡ false → (o : Option Entry) → holds (leads_to f true) (narrowed_in frames o) ≡ holds (leads_to f true) o
narrowed_same frames f left None = refl
narrowed_same frames f left (Some e) = elim (cases_Bool (frames e.to.frame.0)) [
  | inl is_so ↦ ap (leads_to f true) (cond-true (frames e.to.frame.0) (read_only e) e is_so) ∙ no_and (is_in_frame f e)
      ∙ sym (ap (λ (b : Bool). b && e.to.writable) (other_number e.to.frame.0 f (λ s. false_true (frames f) left (ap frames (sym s) ∙ is_so))))
  | inr not_so ↦ ap (leads_to f true) (cond-false (frames e.to.frame.0) (read_only e) e not_so)
]

nothing : {X : Type 0} (xs : List X) → count_by (λ (x : X). false) xs ≡ 0
nothing [] = refl
nothing (x ∷ xs) = omega (arith, count_cons (λ (y : _). false) x xs, nothing xs)

written_out : (frames : ℕ → Bool) (places : List (Option Entry)) (f : ℕ) → frames f ≡ true → is_written (map (narrowed_in frames) places) f ≡ false
written_out frames places f picked = ap (λ (n : ℕ). nat_lt 0 n) (counted_by (holds (leads_to f true)) (narrowed_in frames) (λ _. false) (narrowed_out frames f picked) places ∙ nothing places)

written_same : (frames : ℕ → Bool) (places : List (Option Entry)) (f : ℕ) → frames f ≡ false → is_written (map (narrowed_in frames) places) f ≡ is_written places f
written_same frames places f left = ap (λ (n : ℕ). nat_lt 0 n) (counted_by (holds (leads_to f true)) (narrowed_in frames) (holds (leads_to f true)) (narrowed_same frames f left) places)

-- Narrowing none, some by some, and by two tests that agree where it matters
pub narrowed_as : (p q : ℕ → Bool) (tables : List (Option Entry)) → ((f : ℕ) → p f ≡ q f) → map (narrowed_in p) tables ≡ map (narrowed_in q) tables
narrowed_as p q tables same = λ i. map (narrowed_in (λ f. same f i)) tables

pub narrowed_none : (tables : List (Option Entry)) → map (narrowed_in (λ f. false)) tables ≡ tables
narrowed_none [] = refl
narrowed_none (None ∷ xs) = λ i. None ∷ narrowed_none xs i
narrowed_none (Some e ∷ xs) = λ i. Some e ∷ narrowed_none xs i

narrowed_both : (q : ℕ → Bool) (b : Bool) (e : Entry) → narrowed_in q (Some (cond b (read_only e) e)) ≡ Some (cond (b || q e.to.frame.0) (read_only e) e)
narrowed_both q true e = again (q e.to.frame.0)
  where
    again : (c : Bool) → Some (cond c (read_only (read_only e)) (read_only e)) ≡ Some (read_only e)
    again true = refl
    again false = refl
narrowed_both q false e = refl

narrowed_twice_at : (p q : ℕ → Bool) (x : Option Entry) → narrowed_in q (narrowed_in p x) ≡ narrowed_in (λ f. p f || q f) x
narrowed_twice_at p q None = refl
narrowed_twice_at p q (Some e) = narrowed_both q (p e.to.frame.0) e

pub narrowed_twice : (p q : ℕ → Bool) (tables : List (Option Entry)) → map (narrowed_in q) (map (narrowed_in p) tables) ≡ map (narrowed_in (λ f. p f || q f)) tables
narrowed_twice p q tables = mapped_by (narrowed_in q) (narrowed_in p) (narrowed_in (λ f. p f || q f)) (narrowed_twice_at p q) tables

narrowed_where_at : (p q : ℕ → Bool) (o : Option Entry) → ((e : Entry) → o ≡ Some e → e.to.writable ≡ true → p e.to.frame.0 ≡ q e.to.frame.0) → narrowed_in p o ≡ narrowed_in q o
narrowed_where_at p q None same = refl
narrowed_where_at p q (Some e) same = elim (cases_Bool e.to.writable) [
  | inl w ↦ ap (λ (b : Bool). Some (cond b (read_only e) e)) (same e refl w)
  | inr r ↦ ap (λ (x : Entry). Some x) (kept (p e.to.frame.0) r ∙ sym (kept (q e.to.frame.0) r))
] where
  kept : (b : Bool) → e.to.writable ≡ false → cond b (read_only e) e ≡ e
  kept true r = sym (ap (λ (w : Bool). let x : Entry = record e { to = record e.to { writable = w } } in x) r)
  kept false r = refl

narrowed_where_held : (p q : ℕ → Bool) (tables : List (Option Entry)) → ((place : ℕ) (e : Entry) → entry_at tables place ≡ Some e → e.to.writable ≡ true → p e.to.frame.0 ≡ q e.to.frame.0) → map (narrowed_in p) tables ≡ map (narrowed_in q) tables
narrowed_where_held p q [] same = refl
narrowed_where_held p q (x ∷ xs) same = λ i. narrowed_where_at p q x (same 0) i ∷ narrowed_where_held p q xs (λ place. same (suc place)) i

pub narrowed_where : (p q : ℕ → Bool) (tables : List (Option Entry)) → ((f : ℕ) → is_written tables f ≡ true → p f ≡ q f) → map (narrowed_in p) tables ≡ map (narrowed_in q) tables
narrowed_where p q tables same = narrowed_where_held p q tables (λ place e at w. same e.to.frame.0 (written place e at w)) where
  written : (place : ℕ) (e : Entry) → entry_at tables place ≡ Some e → e.to.writable ≡ true → is_written tables e.to.frame.0 ≡ true
  written place e at w =
      let test : Option Entry → Bool = holds (leads_to e.to.frame.0 true) in
      let passes : test (entry_at tables place) ≡ true = ap test at ∙ and_from (is_in_frame e.to.frame.0 e) e.to.writable (same_number e.to.frame.0) w in
      lt-ltb 0 (count_by test tables) (count_some test tables place None (held_below tables (leads_to e.to.frame.0 true) place passes) passes)

or_true : (b : Bool) → (b || true) ≡ true
or_true true = refl
or_true false = refl

or_false : (b : Bool) → (b || false) ≡ b
or_false true = refl
or_false false = refl

-- While frames are picked: those that were asked, and those that are left. `writing` has those that
-- are left, and `asked` those that were asked and not picked.
pub record IsAsking (old now : List (Option Entry)) (writing asked : List Bool) (answer : ℕ → Bool → Type 0) : Type 0 where
  pub frames : ℕ → Bool
  pub tables : now ≡ map (narrowed_in frames) old
  pub left : (f : ℕ) → has writing f ≡ true → (is_written old f ≡ true) × (frames f ≡ false) × (has asked f ≡ false)
  pub done : (f : ℕ) → is_written old f ≡ true → has writing f ≡ false → answer f (frames f) × (has asked f ≡ not (frames f))
  pub others : (f : ℕ) → is_written old f ≡ false → has asked f ≡ false

pub asking_begins : (old : List (Option Entry)) (lists : Membership) (writing asked : List Bool) (answer : ℕ → Bool → Type 0) → lists.on ≡ map listed_at old → IsKept old lists writing asked → IsAsking old old writing asked answer
asking_begins old lists writing asked answer on is = record {
  frames = λ _. false;
  tables = sym (narrowed_none old);
  left = λ f h. (sym (each f) ∙ h, refl, none f);
  done = λ f w h. absurd (false_true (has writing f) h (each f ∙ w));
  others = λ f w. none f;
} where
  each : (f : ℕ) → has writing f ≡ is_written old f
  each f = is.exact.each f ∙ ap (λ (xs : List (Option ℕ)). is_used xs (frame_row f true)) on ∙ used_is old f

  none : (f : ℕ) → has asked f ≡ false
  none f = ap (λ (xs : List Bool). has xs f) is.none_asked ∙ same_all (length writing) false f

-- a frame is picked
pub asking_picks : (old now new : List (Option Entry)) (writing asked : List Bool) (answer : ℕ → Bool → Type 0) (f : ℕ) → IsAsking old now writing asked answer → has writing f ≡ true → new ≡ map (narrowed f) now → answer f true
    → IsAsking old new (set writing f false) asked answer
asking_picks old now new writing asked answer f is h e is_so = record {
  frames = λ g. is.frames g || (g == f);
  tables = e ∙ ap (map (narrowed f)) is.tables ∙ narrowed_twice is.frames (λ g. g == f) old;
  left = λ g there. (
      let apart : g ≢ f = λ s. false_true (has (set writing f false) g) (ap (has (set writing f false)) s ∙ gone) there in
      let was = is.left g (sym (get_or-set_other writing f g false false apart) ∙ there) in
      (was.0, other g apart ∙ was.1, was.2));
  done = λ g w none. elim (cases_eq g f) [
    | inl same ↦ (
        let it : (is.frames g || (g == f)) ≡ true = ap (λ (b : Bool). is.frames g || b) (ap (λ (n : ℕ). n == f) same ∙ same_number f) ∙ or_true (is.frames g) in (
          subst (λ (b : Bool). answer g b) (sym it) (subst (λ (n : ℕ). answer n true) (sym same) is_so),
          ap (has asked) same ∙ (is.left f h).2 ∙ sym (ap not it),
        ))
    | inr apart ↦ (
        let it : is.frames g ≡ (is.frames g || (g == f)) = sym (other g apart) in
        let was = is.done g w (sym (get_or-set_other writing f g false false apart) ∙ none) in
        (subst (λ (b : Bool). answer g b) it was.0, was.1 ∙ ap not it))
  ];
  others = is.others;
} where
  other : (g : ℕ) → g ≢ f → (is.frames g || (g == f)) ≡ is.frames g
  other g apart = ap (λ (b : Bool). is.frames g || b) (other_number g f apart) ∙ or_false (is.frames g)

  gone : has (set writing f false) f ≡ false
  gone = get_or-set_same writing f false false (true_below writing f h)

-- a frame isn't picked
pub asking_leaves : (old now : List (Option Entry)) (writing asked : List Bool) (answer : ℕ → Bool → Type 0) (f : ℕ) → IsAsking old now writing asked answer → has writing f ≡ true → f < length asked → answer f false
    → IsAsking old now (set writing f false) (set asked f true) answer
asking_leaves old now writing asked answer f is h below not_so = record {
  frames = is.frames;
  tables = is.tables;
  left = λ g there. (
      let apart : g ≢ f = λ s. false_true (has (set writing f false) g) (ap (has (set writing f false)) s ∙ get_or-set_same writing f false false (true_below writing f h)) there in
      let was = is.left g (sym (get_or-set_other writing f g false false apart) ∙ there) in
      (was.0, was.1, get_or-set_other asked f g true false apart ∙ was.2));
  done = λ g w none. elim (cases_eq g f) [
    | inl same ↦ (
        let it : is.frames g ≡ false = ap is.frames same ∙ (is.left f h).1 in (
          subst (λ (b : Bool). answer g b) (sym it) (subst (λ (n : ℕ). answer n false) (sym same) not_so),
          ap (has (set asked f true)) same ∙ get_or-set_same asked f true false below ∙ sym (ap not it),
        ))
    | inr other ↦ (
        let was = is.done g w (sym (get_or-set_other writing f g false false other) ∙ none) in
        (was.0, get_or-set_other asked f g true false other ∙ was.1))
  ];
  others = λ g w. (
      let apart : g ≢ f = λ s. false_true (is_written old g) w (ap (is_written old) s ∙ (is.left f h).0) in
      get_or-set_other asked f g true false apart ∙ is.others g w);
}

-- none is left
pub asking_ends : (old now : List (Option Entry)) (writing asked : List Bool) (answer : ℕ → Bool → Type 0) → IsAsking old now writing asked answer → ((f : ℕ) → has writing f ≡ false) → Narrows old now answer
asking_ends old now writing asked answer is none = record {
  frames = is.frames;
  tables = is.tables;
  answered = λ f w. (is.done f w (none f)).0;
}

pub kept_then : (old now : List (Option Entry)) (lists : Membership) (writing asked : List Bool) (answer : ℕ → Bool → Type 0) → IsAsking old now writing asked answer → ((f : ℕ) → has writing f ≡ false)
    → lists.on ≡ map listed_at now → lists.lists ≡ 2 * length asked + 1 → length asked ≤ 2 ^ 16 → length writing ≡ length asked → length old ≡ 4 * length asked → IsKept now lists asked writing
kept_then old now lists writing asked answer is none on room few size sizes = record {
  sizes = omega (arith, sizes, ap (λ (xs : List (Option Entry)). length xs) is.tables, length-map old (narrowed_in is.frames));
  exact = record {
    few = few;
    room = room;
    each = λ f. each f (cases_Bool (is_written old f)) ∙ sym (ap (λ (xs : List (Option ℕ)). is_used xs (frame_row f true)) on ∙ used_is now f ∙ ap (λ (xs : List (Option Entry)). is_written xs f) is.tables);
  };
  none_asked = ext_get_or false writing (replicate (length asked) false) (size ∙ sym (length-replicate (length asked) false)) (λ f b. none f ∙ sym (same_all (length asked) false f));
} where
  each : (f : ℕ) → (is_written old f ≡ true) ⊎ (is_written old f ≡ false) → has asked f ≡ is_written (map (narrowed_in is.frames) old) f
  each f (inl w) = (is.done f w (none f)).1 ∙ elim (cases_Bool (is.frames f)) [
    | inl is_so ↦ ap not is_so ∙ sym (written_out is.frames old f is_so)
    | inr not_so ↦ ap not not_so ∙ sym (written_same is.frames old f not_so ∙ w)
  ]
  each f (inr w) = is.others f w ∙ elim (cases_Bool (is.frames f)) [
    | inl is_so ↦ sym (written_out is.frames old f is_so)
    | inr not_so ↦ sym (written_same is.frames old f not_so ∙ w)
  ]

-- one frame is picked, of those to which an entry for writing leads
pub narrowed_kept : (old new : List (Option Entry)) (lists after : Membership) (writing asked : List Bool) (f : ℕ) → IsKept old lists writing asked → lists.on ≡ map listed_at old → new ≡ map (narrowed f) old → after.on ≡ map listed_at new → after.lists ≡ lists.lists → has writing f ≡ true
    → IsKept new after (set writing f false) asked
narrowed_kept old new lists after writing asked f is before e on size h = record {
  sizes = omega (arith, is.sizes, ap (λ (xs : List (Option Entry)). length xs) e, length-map old (narrowed f), length-set writing f false);
  exact = record {
    few = omega (arith, is.exact.few, length-set writing f false);
    room = omega (arith, is.exact.room, size, length-set writing f false);
    each = λ g. each g (cases_eq g f) ∙ sym (ap (λ (xs : List (Option ℕ)). is_used xs (frame_row g true)) on ∙ used_is new g ∙ ap (λ (xs : List (Option Entry)). is_written xs g) e);
  };
  none_asked = is.none_asked ∙ ap (λ (n : ℕ). replicate n false) (sym (length-set writing f false));
} where
  each : (g : ℕ) → (g ≡ f) ⊎ (g ≢ f) → has (set writing f false) g ≡ is_written (map (narrowed f) old) g
  each g (inl same) = ap (has (set writing f false)) same ∙ get_or-set_same writing f false false (true_below writing f h) ∙ sym (written_out (λ n. n == f) old g (ap (λ (n : ℕ). n == f) same ∙ same_number f))
  each g (inr other) = get_or-set_other writing f g false false other ∙ is.exact.each g ∙ ap (λ (xs : List (Option ℕ)). is_used xs (frame_row g true)) before ∙ used_is old g ∙ sym (written_same (λ n. n == f) old g (other_number g f other))

pub not_written : (places : List (Option Entry)) (f : ℕ) → is_written places f ≡ false → map (narrowed f) places ≡ places
not_written places f not_so = none_writable f places (no_more places (leads_to f true) (grind (arith, nat_tests, not_so)))

-- the frame of an entry on a list for writing gets on that for reading alone
listed_read_only : (f : ℕ) (o : Option Entry) → place_list o ≡ frame_row f true → listed_at (read_only_at o) ≡ Some (frame_row f false)
listed_read_only f None e = absurd (omega (arith, e))
listed_read_only f (Some x) e = ap (λ (n : ℕ). Some (1 + 2 * n)) (at x.to.writable e) where
  at : (w : Bool) → frame_row x.to.frame.0 w ≡ frame_row f true → x.to.frame.0 ≡ f
  at true e1 = omega (arith, e1)
  at false e1 = absurd (omega (arith, e1))

pub relisted : (places : List (Option Entry)) (lists : Membership) (place f : ℕ) → lists.on ≡ map listed_at places → list_of lists place ≡ Some (frame_row f true)
    → set (set lists.on place None) place (Some (frame_row f false)) ≡ map listed_at (set places place (read_only_at (entry_at places place)))
relisted places lists place f e on =
    set-set lists.on place None (Some (frame_row f false)) ∙ ap (λ (xs : List (Option ℕ)). set xs place (Some (frame_row f false))) e
    ∙ ap (λ (o : Option ℕ). set (map listed_at places) place o) (sym (listed_read_only f (entry_at places place) (on_list places lists e place (frame_row f true) on).1))
    ∙ sym (map-set listed_at places place (read_only_at (entry_at places place)))

-- what is the same of an entry for reading alone stays
stays : {X : Type 0} (g : Option Entry → X) → ((e : Entry) → g (Some (read_only e)) ≡ g (Some e)) → (frames : ℕ → Bool) (o : Option Entry) → g (narrowed_in frames o) ≡ g o
stays g same frames None = refl
stays g same frames (Some e) = elim (cases_Bool (frames e.to.frame.0)) [
  | inl is_so ↦ ap (λ (x : Entry). g (Some x)) (cond-true (frames e.to.frame.0) (read_only e) e is_so) ∙ same e
  | inr not_so ↦ ap (λ (x : Entry). g (Some x)) (cond-false (frames e.to.frame.0) (read_only e) e not_so)
]

pub narrowed_indexed : (old new : List (Option Entry)) (index : List (Option ℕ)) (lists after : Membership) (frames : ℕ → Bool) → IsIndexed old index lists → new ≡ map (narrowed_in frames) old → after.on ≡ map listed_at new → after.lists ≡ lists.lists → IsIndexed new index after
narrowed_indexed old new index lists after frames is e on size = record {
  few = omega (arith, is.few, long);
  once = λ actor page. omega (arith, is.once actor page, ap (count_by (holds (is_for actor page))) e, counted_by (holds (is_for actor page)) (narrowed_in frames) (holds (is_for actor page)) (stays (holds (is_for actor page)) (λ _. refl) frames) old);
  entered = is.entered ∙ sym (ap (map place_hash) e ∙ mapped_by place_hash (narrowed_in frames) place_hash (stays place_hash (λ _. refl) frames) old);
  room = omega (arith, is.room, long, size);
  on_lists = on;
} where
  long : length new ≡ length old
  long = ap (λ (xs : List (Option Entry)). length xs) e ∙ length-map old (narrowed_in frames)

pub narrowed_rows : (old new : List (Option Entry)) (rows : Membership) (frames : ℕ → Bool) → IsInRows old rows → new ≡ map (narrowed_in frames) old → IsInRows new rows
narrowed_rows old new rows frames is e = record {
  room = is.room;
  in_rows = is.in_rows ∙ sym (ap (map place_row) e ∙ mapped_by place_row (narrowed_in frames) place_row (stays place_row (λ _. refl) frames) old);
}
