-- Sets of frames: one is put in or taken out.
use Rattle.std.proofs.Common.{◌≡◌, ◌≢◌, ℕ, ◌+◌, ◌-◌, ◌<◌, ◌≤◌, ◌^◌, Bool, true, false, List, [], ◌∷◌, ◌++◌, length, get_or, set, map, replicate, Option, Some, None, refl, sym, ap, ◌∙◌, arith, inl, inr, length-set}
use Rattle.std.specs.Prelude.{count_by, is_some}
use Rattle.std.proofs.Math.ListN.{get_or-map}
use Rattle.std.proofs.Math.Seq.{get_or-append_seam, map-set_same}
use Rattle.std.proofs.lemmas.Bool.{cases_eq}
use Rattle.std.proofs.lemmas.List.{get_or_append_left, get_or-set_other, get_or-set_same, length-map, length-replicate, length_push, map-set}
use Rattle.vm_ids.proofs.Places.{bit, bit_true, count_cons, count_not_all, count-set, count-replicate_none, same_all, true_below}
use Rattle.page_tables.specs.FrameSets.{count_in, has, place_in, IsFrameSet}
use Rattle.page_tables.proofs.LinkReads.{in_range, read_as}

none_some : {X : Type 0} {o : Option X} {x : X} → o ≡ None → o ≡ Some x → ⊥
none_some {x = x} p q = (let z : None ≡ Some x = sym p ∙ q in absurd (cc))

one_place : {o : Option ℕ} {p q : ℕ} → o ≡ Some p → o ≡ Some q → p ≡ q
one_place {p = p} {q = q} e f = (let z : Some p ≡ Some q = sym e ∙ f in cc)

-- a count over a changed list
pub counted_by : {X Y : Type 0} (p : Y → Bool) (h : X → Y) (q : X → Bool) → ((x : X) → p (h x) ≡ q x) → (xs : List X) → count_by p (map h xs) ≡ count_by q xs
counted_by p h q same [] = refl
counted_by p h q same (x ∷ xs) = omega (arith, count_cons p (h x) (map h xs), count_cons q x xs, ap bit (same x), counted_by p h q same xs)

-- a frame that stands somewhere is one of them
pub known : (places : List (Option ℕ)) (f p : ℕ) → place_in places f ≡ Some p → f < length places
known places f p e = in_range places f (λ none. none_some none e)

pub no_frames : (n : ℕ) → n ≤ 2 ^ 16 → IsFrameSet [] (replicate n None)
no_frames n few = record {
  few = omega (arith, few, length-replicate n none);
  counted = sym (count-replicate_none is_some n none refl);
  stands = λ p b. absurd (omega (arith, b));
  there = λ f p e. absurd (none_some (same_all n none f) e);
} where
  none : Option ℕ
  none = None

pub put_in : (frames : List ℕ) (places : List (Option ℕ)) (f : ℕ) → IsFrameSet frames places → f < length places → place_in places f ≡ None
    → IsFrameSet (frames ++ f ∷ []) (set places f (Some (length frames)))
put_in frames places f is below none =
    let n : ℕ = length frames in
    let one : Option ℕ = Some n in
    let new : List ℕ = frames ++ f ∷ [] in
    let at : List (Option ℕ) = set places f one in
    let out : bit (is_some (get_or places f None)) ≡ 0 = ap (λ (o : Option ℕ). bit (is_some o)) none in
    let end : get_or new n 0 ≡ f = get_or-append_seam frames f [] 0 in
    record {
      few = omega (arith, is.few, length-set places f one);
      counted = omega (arith, is.counted, length_push frames f, count-set is_some places f one None below, out);
      stands = λ p b. elim (cases_eq p n) [
        | inl same ↦ ap (λ (k : ℕ). place_in at (get_or new k 0)) same ∙ ap (place_in at) end ∙ get_or-set_same places f one None below ∙ ap (λ (k : ℕ). Some k) (sym same)
        | inr other ↦ (
            let old : p < n = omega (arith, b, other, length_push frames f) in
            let here : place_in places (get_or frames p 0) ≡ Some p = is.stands p old in
            let apart : get_or frames p 0 ≢ f = λ e. none_some none (ap (place_in places) (sym e) ∙ here) in
            ap (place_in at) (get_or_append_left frames (f ∷ []) 0 p old) ∙ get_or-set_other places f (get_or frames p 0) one None apart ∙ here)
      ];
      there = λ g p e. elim (cases_eq g f) [
        | inl same ↦ (
            let is_end : n ≡ p = one_place (ap (place_in at) same ∙ get_or-set_same places f one None below) e in
            (omega (arith, is_end, length_push frames f), ap (λ (k : ℕ). get_or new k 0) (sym is_end) ∙ end ∙ sym same))
        | inr other ↦ (
            let was = is.there g p (sym (get_or-set_other places f g one None other) ∙ e) in
            (omega (arith, was.0, length_push frames f), get_or_append_left frames (f ∷ []) 0 p was.0 ∙ was.1))
      ];
    }

-- a frame is taken out, and the last one comes to its place
pub taken_out : (frames new : List ℕ) (places : List (Option ℕ)) (f p last : ℕ) → IsFrameSet frames places → place_in places f ≡ Some p → last ≡ get_or frames (length frames - 1) 0
    → length new + 1 ≡ length frames → (p + 1 < length frames → get_or new p 0 ≡ last) → ((k : ℕ) → k ≢ p → k + 1 < length frames → get_or new k 0 ≡ get_or frames k 0)
    → IsFrameSet new (set (set places last (Some p)) f None)
taken_out frames new places f p last is stood is_last fewer moved kept = record {
  few = omega (arith, is.few, length-set one f None, length-set places last (Some p));
  counted = omega (arith, is.counted, fewer, count-set is_some places last (Some p) None last_below, count-set is_some one f None None f_below, last_stood, stands_still);
  stands = λ q b. elim (cases_eq q p) [
    | inl same ↦ (
        let more : p + 1 < length frames = omega (arith, same, b, fewer) in
        let apart : last ≢ f = λ e. absurd (omega (arith, more, one_place (ap (place_in places) e ∙ stood) last_at)) in
        ap (λ (k : ℕ). place_in at (get_or new k 0)) same ∙ ap (place_in at) (moved more)
        ∙ get_or-set_other one f last None None apart ∙ get_or-set_same places last (Some p) None last_below ∙ ap (λ (k : ℕ). Some k) (sym same))
    | inr other ↦ (
        let x : ℕ = get_or frames q 0 in
        let within : q + 1 < length frames = omega (arith, b, fewer) in
        let here : place_in places x ≡ Some q = is.stands q (omega (arith, within)) in
        let not_f : x ≢ f = λ e. other (one_place here (ap (place_in places) e ∙ stood)) in
        let not_last : x ≢ last = λ e. absurd (omega (arith, within, one_place here (ap (place_in places) e ∙ last_at))) in
        ap (place_in at) (kept q other within) ∙ get_or-set_other one f x None None not_f ∙ get_or-set_other places last x (Some p) None not_last ∙ here)
  ];
  there = λ g q e. elim (cases_eq g f) [
    | inl same ↦ absurd (none_some (ap (place_in at) same ∙ get_or-set_same one f None None f_below) e)
    | inr not_f ↦ (
        let was : place_in one g ≡ Some q = sym (get_or-set_other one f g None None not_f) ∙ e in
        elim (cases_eq g last) [
          | inl same ↦ (
              let q_is : p ≡ q = one_place (ap (place_in one) same ∙ get_or-set_same places last (Some p) None last_below) was in
              let not_end : p ≢ length frames - 1 = λ s. not_f (same ∙ is_last ∙ ap (λ (k : ℕ). get_or frames k 0) (sym s) ∙ at_f.1) in
              let more : p + 1 < length frames = omega (arith, at_f.0, not_end) in
              (omega (arith, q_is, more, fewer), ap (λ (k : ℕ). get_or new k 0) (sym q_is) ∙ moved more ∙ sym same))
          | inr other ↦ (
              let old = is.there g q (sym (get_or-set_other places last g (Some p) None other) ∙ was) in
              let not_p : q ≢ p = λ s. not_f (sym old.1 ∙ ap (λ (k : ℕ). get_or frames k 0) s ∙ at_f.1) in
              let not_end : q ≢ length frames - 1 = λ s. other (sym old.1 ∙ ap (λ (k : ℕ). get_or frames k 0) s ∙ sym is_last) in
              let within : q + 1 < length frames = omega (arith, old.0, not_end) in
              (omega (arith, within, fewer), kept q not_p within ∙ old.1))
        ])
  ];
} where
  one : List (Option ℕ)
  one = set places last (Some p)

  at : List (Option ℕ)
  at = set one f None

  at_f : (p < length frames) × (get_or frames p 0 ≡ f)
  at_f = is.there f p stood

  last_at : place_in places last ≡ Some (length frames - 1)
  last_at = ap (place_in places) is_last ∙ is.stands (length frames - 1) (omega (arith, at_f.0))

  last_stood : bit (is_some (get_or places last None)) ≡ 1
  last_stood = ap (λ (o : Option ℕ). bit (is_some o)) last_at

  last_below : last < length places
  last_below = known places last (length frames - 1) last_at

  f_below : f < length one
  f_below = omega (arith, known places f p stood, length-set places last (Some p))

  stands_still : bit (is_some (get_or one f None)) ≡ 1
  stands_still = elim (cases_eq f last) [
    | inl same ↦ ap (λ (o : Option ℕ). bit (is_some o)) (ap (place_in one) same ∙ get_or-set_same places last (Some p) None last_below)
    | inr other ↦ ap (λ (o : Option ℕ). bit (is_some o)) (get_or-set_other places last f (Some p) None other ∙ stood)
  ]

has_is : (places : List (Option ℕ)) (f : ℕ) → has (map is_some places) f ≡ is_some (place_in places f)
has_is places f = get_or-map is_some places f None

-- what a set has
pub none_in : (frames : List ℕ) (places : List (Option ℕ)) → IsFrameSet frames places → length frames ≡ 0 → (f : ℕ) → has (map is_some places) f ≡ false
none_in frames places is empty f = has_is places f ∙ out (place_in places f) refl where
  out : (o : Option ℕ) → place_in places f ≡ o → is_some o ≡ false
  out None e = refl
  out (Some p) e = absurd (omega (arith, empty, (is.there f p e).0))

pub some_in : (frames : List ℕ) (places : List (Option ℕ)) → IsFrameSet frames places → (p : ℕ) → p < length frames → has (map is_some places) (get_or frames p 0) ≡ true
some_in frames places is p b = has_is places (get_or frames p 0) ∙ ap is_some (is.stands p b)

pub stands_in : (places : List (Option ℕ)) (f : ℕ) → has (map is_some places) f ≡ true → (p : ℕ) × (place_in places f ≡ Some p)
stands_in places f h = at (place_in places f) refl where
  at : (o : Option ℕ) → place_in places f ≡ o → (p : ℕ) × (place_in places f ≡ Some p)
  at None e = (let z : true ≡ false = sym h ∙ has_is places f ∙ ap is_some e in absurd (cc))
  at (Some p) e = (p, e)

-- there is room for one that isn't in
pub room_for : (frames : List ℕ) (places : List (Option ℕ)) (f : ℕ) → IsFrameSet frames places → f < length places → place_in places f ≡ None → length frames < length places
room_for frames places f is below none = omega (arith, is.counted, count_not_all is_some places f None below (ap is_some none))

-- how a set is seen once one is in, is in already, or is out
pub seen_in : (places : List (Option ℕ)) (f p : ℕ) → map is_some (set places f (Some p)) ≡ set (map is_some places) f true
seen_in places f p = map-set is_some places f (Some p)

pub seen_already : (places : List (Option ℕ)) (f p : ℕ) → place_in places f ≡ Some p → map is_some places ≡ set (map is_some places) f true
seen_already places f p e = sym (sym (seen_in places f p) ∙ map-set_same is_some places f (Some p) None (sym (ap is_some e)))

pub seen_out : (places : List (Option ℕ)) (f p last n : ℕ) → place_in places last ≡ Some n → map is_some (set (set places last (Some p)) f None) ≡ set (map is_some places) f false
seen_out places f p last n e =
    map-set is_some (set places last (Some p)) f None ∙ ap (λ (xs : List Bool). set xs f false) (map-set_same is_some places last (Some p) None (sym (ap is_some e)))

-- what was read of a set
pub read_place : (places : List (Option ℕ)) (now : List Bool) (f p : ℕ) (r : Option ℕ) → map is_some places ≡ now → has now f ≡ true → r ≡ get_or places f r → r ≡ Some p → place_in places f ≡ Some p
read_place places now f p r view h read is =
    let below : f < length places = omega (arith, true_below now f h, ap (λ (s : List Bool). length s) view, length-map places is_some) in
    read_as places f r None below read ∙ is

pub read_last : (frames : List ℕ) (last n : ℕ) → n ≡ length frames → 0 < n → last ≡ get_or frames (n - 1) last → last ≡ get_or frames (length frames - 1) 0
read_last frames last n size some read =
    let below : n - 1 < length frames = omega (arith, size, some) in
    sym (read_as frames (n - 1) last 0 below read) ∙ ap (λ (k : ℕ). get_or frames (k - 1) 0) size

pub one_fewer : (set_of : List Bool) (f : ℕ) → has set_of f ≡ true → count_in (set set_of f false) < count_in set_of
one_fewer set_of f h =
    let moved : count_in (set set_of f false) + bit (get_or set_of f false) ≡ count_in set_of + 0 = count-set (λ (b : Bool). b) set_of f false false (true_below set_of f h) in
    omega (arith, moved, bit_true (get_or set_of f false) h)
