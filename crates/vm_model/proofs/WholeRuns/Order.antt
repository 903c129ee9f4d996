-- The order of answers in a run.
use Rattle.std.proofs.Common.{◌≡◌, ◌<◌, ◌+◌, ℕ, zero, suc, Bool, true, false, List, [], ◌∷◌, ◌++◌, drop, length, Option, None, Some, refl, sym, ap, subst, ◌∙◌, append_assoc, arith, inl, inr}
use Rattle.std.specs.Prelude.{◌||◌, if◌then◌else◌, nat_lt, remove, slice_get, option_and_then, IsPermutation, IsSome}
use Rattle.std.specs.List.{AllByRecursion, list_any}
use Rattle.std.proofs.lemmas.Bool.{eqb-false, lt-ltb}
use Rattle.std.proofs.lemmas.List.{append-nil, map-append}
use Rattle.std.proofs.lemmas.List.Sorted.{IsPermutation-append_left, IsPermutation-append_right, IsPermutation-cons, IsPermutation-middle, IsPermutation-refl, IsPermutation-trans}
use Rattle.vm_model.specs.Events.{Event, IsDelivery, Leads, RunOf, Stand, coming_line, has_to_wait, is_asked, opening, steps_of, waits_for}
use Rattle.vm_model.specs.Events.Event.{line, park, pause, delivery}
use Rattle.vm_model.specs.InOrder.{AreApart, IsInOrder, MayComeFirst, answer_order}
use Rattle.vm_model.specs.RunLaws.{RunsAreInOrder}
use Rattle.vm_model.specs.Run.{command_semantics}
use Rattle.vm_model.specs.Steps.{Semantics, Step, line_answered, lines_answered, numbered_from}
use Rattle.vm_model.proofs.Parts.Pairs.{Pairs, each_append, each_back, each_both, each_by, each_permuted, pairs_across, pairs_all, pairs_append, pairs_back, pairs_between, pairs_by, pairs_front, pairs_sooner, parted_pairs, parted_permutation, taken_first, taken_permutation}

-- numbered lines

above : {X : Type 0} (first below : ℕ) (reads : List X) → below < first → AllByRecursion (λ (l : ℕ × X). below < l.0) (numbered_from first reads)
above first below [] h = tt
above first below (r ∷ reads) h = (h, above (first + 1) below reads (omega arith))

drop_numbered : {X : Type 0} (first n : ℕ) (reads : List X) (read : X) → slice_get reads n ≡ Some read → drop n (numbered_from first reads) ≡ (first + n, read) ∷ drop (suc n) (numbered_from first reads)
drop_numbered first n [] read e = absurd (cc e)
drop_numbered {X} first zero (r ∷ reads) read e =
    let same : r ≡ read = cc e in
    let number : first ≡ first + zero = omega arith in
    ap (λ (k : ℕ). (k, r) ∷ numbered_from (first + 1) reads) number ∙ ap (λ (x : X). (first + zero, x) ∷ numbered_from (first + 1) reads) same
drop_numbered first (suc n) (r ∷ reads) read e =
    let number : (first + 1) + n ≡ first + suc n = omega arith in
    drop_numbered (first + 1) n reads read e ∙ ap (λ (k : ℕ). (k, read) ∷ drop (suc n) (numbered_from (first + 1) reads)) number

-- what a test says of each element

or_false : (a b : Bool) → (a || b) ≡ false → (a ≡ false) × (b ≡ false)
or_false true b e = absurd (cc e)
or_false false b e = (refl, e)

none_of : {X : Type 0} (test : X → Bool) (xs : List X) → list_any test xs ≡ false → AllByRecursion (λ x. test x ≡ false) xs
none_of test [] e = tt
none_of test (x ∷ xs) e =
    let both = or_false (test x) (list_any test xs) e in
    (both.0, none_of test xs both.1)

no_element : {X : Type 0} (P : X → Type 0) (xs : List X) → nat_lt 0 (length xs) ≡ false → AllByRecursion P xs
no_element P [] e = tt
no_element P (x ∷ xs) e =
    let some : nat_lt 0 (length (x ∷ xs)) ≡ true = lt-ltb 0 (length (x ∷ xs)) (omega arith) in
    absurd (cc)

module _ (S : Semantics) where
  abbrev IsAccess : ℕ × S.Read → Type 0
  IsAccess p = IsSome (S.actor_of p.1)

  -- both are accesses, of different actors
  abbrev Apart : ℕ × S.Read → ℕ × S.Read → Type 0
  Apart p q = AreApart S p.1 q.1

  apart_flip : (p q : ℕ × S.Read) → Apart p q → Apart q p
  apart_flip p q a = record { one = a.other; other = a.one; one_is = a.other_is; other_is = a.one_is; apart = λ e. a.apart (sym e) }

  numbered_pairs : (first : ℕ) (reads : List S.Read) → Pairs (MayComeFirst S) (numbered_from first reads)
  numbered_pairs first [] = tt
  numbered_pairs first (r ∷ reads) =
      (each_by (λ (l : ℕ × S.Read). first < l.0) (MayComeFirst S (first, r)) (λ l h. inl h) (numbered_from (first + 1) reads) (above (first + 1) first reads (omega arith)), numbered_pairs (first + 1) reads)

  -- a line that doesn't wait for a parked access
  not_waiting : (read : S.Read) (p : ℕ × S.Read) → waits_for (S.actor_of read) (S.actor_of p.1) ≡ false → IsAccess p → AreApart S read p.1
  not_waiting read p e some = by (S.actor_of read) (S.actor_of p.1) refl refl e some
    where
      by : (o q : Option ℕ) → S.actor_of read ≡ o → S.actor_of p.1 ≡ q → waits_for o q ≡ false → IsSome q → AreApart S read p.1
      by None q a b e some = absurd (cc e)
      by (Some m) None a b e some = absurd (cc some)
      by (Some m) (Some n) a b e some = record { one = m; other = n; one_is = a; other_is = b; apart = λ same. eqb-false n m e (sym same) }

  -- the coming line is apart from each parked access, where the dispatcher isn't asked
  coming_apart : (reads : List S.Read) (s : Stand S) (read : S.Read) → is_asked S reads s ≡ false → coming_line S reads s ≡ Some read → AllByRecursion IsAccess s.parked → AllByRecursion (λ (p : ℕ × S.Read). AreApart S read p.1) s.parked
  coming_apart reads s read free comes accesses = by s.asking free
    where
      by : (asking : Bool) → (if asking then nat_lt 0 (length s.parked) else has_to_wait S reads s) ≡ false → AllByRecursion (λ (p : ℕ × S.Read). AreApart S read p.1) s.parked
      by true e = no_element _ s.parked e
      by false e =
          let waits = λ (p : ℕ × S.Read). waits_for (S.actor_of read) (S.actor_of p.1) in
          let none : list_any waits s.parked ≡ false =
          subst (λ (o : Option S.Read). list_any (λ (p : ℕ × S.Read). waits_for (option_and_then S.actor_of o) (S.actor_of p.1)) s.parked ≡ false) comes e in
          each_both (λ (p : ℕ × S.Read). waits p ≡ false) IsAccess (λ (p : ℕ × S.Read). AreApart S read p.1) (not_waiting read) s.parked (none_of waits s.parked none) accesses

  module _ (reads : List S.Read) where
    abbrev all : List (ℕ × S.Read)
    all = numbered_from 1 reads

    -- What holds at a stand, where these lines were answered: all lines are there once, none before
    -- one that it may not come before, and the parked ones are accesses of different actors.
    record Ordered (done : List (ℕ × S.Read)) (s : Stand S) : Type 0 where
      once : IsPermutation all (done ++ (s.parked ++ drop s.issued all))
      pairs : Pairs (MayComeFirst S) (done ++ (s.parked ++ drop s.issued all))
      accesses : AllByRecursion IsAccess s.parked
      apart : Pairs Apart s.parked

    -- the coming line stands behind the issued ones
    coming_is : (s : Stand S) (read : S.Read) → coming_line S reads s ≡ Some read → drop s.issued all ≡ (s.issued + 1, read) ∷ drop (s.issued + 1) all
    coming_is s read e =
        let number : 1 + s.issued ≡ s.issued + 1 = omega arith in
        let rest : suc s.issued ≡ s.issued + 1 = omega arith in
        drop_numbered 1 s.issued reads read e ∙ ap (λ (k : ℕ). (k, read) ∷ drop (suc s.issued) all) number ∙ ap (λ (k : ℕ). (s.issued + 1, read) ∷ drop k all) rest

    ordered_first : (state : S.State) → Ordered [] (opening S state)
    ordered_first state = record { once = IsPermutation-refl all; pairs = numbered_pairs 1 reads; accesses = tt; apart = tt }

    module _ (done : List (ℕ × S.Read)) (a : Stand S) (h : Ordered done a) where
      -- the coming line is answered
      ordered_line : (state : S.State) (read : S.Read) → is_asked S reads a ≡ false → coming_line S reads a ≡ Some read
          → Ordered (done ++ (a.issued + 1, read) ∷ []) (record a { state = state; issued = a.issued + 1; asking = true })
      ordered_line state read free comes =
          let l : ℕ × S.Read = (a.issued + 1, read) in
          let back = drop (a.issued + 1) all in
          let once : IsPermutation all (done ++ (a.parked ++ l ∷ back)) = subst (λ (xs : List (ℕ × S.Read)). IsPermutation all (done ++ (a.parked ++ xs))) (coming_is a read comes) h.once in
          let pairs : Pairs (MayComeFirst S) (done ++ (a.parked ++ l ∷ back)) = subst (λ (xs : List (ℕ × S.Read)). Pairs (MayComeFirst S) (done ++ (a.parked ++ xs))) (coming_is a read comes) h.pairs in
          let whole : done ++ (l ∷ (a.parked ++ back)) ≡ (done ++ l ∷ []) ++ (a.parked ++ back) = sym (append_assoc done (l ∷ []) (a.parked ++ back)) in
          let may : AllByRecursion (MayComeFirst S l) a.parked = each_by (λ (p : ℕ × S.Read). AreApart S read p.1) (MayComeFirst S l) (λ p q. inr q) a.parked (coming_apart reads a read free comes h.accesses) in
          let moved : IsPermutation (a.parked ++ l ∷ back) (l ∷ (a.parked ++ back)) = IsPermutation-middle a.parked l back in
          let before = pairs_across (MayComeFirst S) done (a.parked ++ l ∷ back) pairs in
          record {
            once = subst (IsPermutation all) whole (IsPermutation-trans all (done ++ (a.parked ++ l ∷ back)) (done ++ (l ∷ (a.parked ++ back))) once (IsPermutation-append_right done (a.parked ++ l ∷ back) (l ∷ (a.parked ++ back)) moved));
            pairs = subst (Pairs (MayComeFirst S)) whole
                (pairs_append (MayComeFirst S) done (l ∷ (a.parked ++ back)) (pairs_front (MayComeFirst S) done (a.parked ++ l ∷ back) pairs)
                (pairs_sooner (MayComeFirst S) a.parked l back may (pairs_back (MayComeFirst S) done (a.parked ++ l ∷ back) pairs))
                (each_by (λ (x : ℕ × S.Read). AllByRecursion (MayComeFirst S x) (a.parked ++ l ∷ back)) (λ (x : ℕ × S.Read). AllByRecursion (MayComeFirst S x) (l ∷ (a.parked ++ back)))
                (λ x q. each_permuted (MayComeFirst S x) (a.parked ++ l ∷ back) (l ∷ (a.parked ++ back)) moved q) done before));
            accesses = h.accesses;
            apart = h.apart;
          }

      -- or it is parked
      ordered_park : (read : S.Read) → is_asked S reads a ≡ false → coming_line S reads a ≡ Some read → IsSome (S.actor_of read)
          → Ordered done (record a { parked = a.parked ++ (a.issued + 1, read) ∷ []; issued = a.issued + 1; asking = true })
      ordered_park read free comes access =
          let l : ℕ × S.Read = (a.issued + 1, read) in
          let back = drop (a.issued + 1) all in
          let same : a.parked ++ drop a.issued all ≡ (a.parked ++ l ∷ []) ++ back =
          ap (λ (xs : List (ℕ × S.Read)). a.parked ++ xs) (coming_is a read comes) ∙ sym (append_assoc a.parked (l ∷ []) back) in
          let each = coming_apart reads a read free comes h.accesses in
          record {
            once = subst (λ (xs : List (ℕ × S.Read)). IsPermutation all (done ++ xs)) same h.once;
            pairs = subst (λ (xs : List (ℕ × S.Read)). Pairs (MayComeFirst S) (done ++ xs)) same h.pairs;
            accesses = each_append IsAccess a.parked (l ∷ []) h.accesses (access, tt);
            apart = pairs_append Apart a.parked (l ∷ []) h.apart (tt, tt)
                (each_by (λ (p : ℕ × S.Read). AreApart S read p.1) (λ (p : ℕ × S.Read). AllByRecursion (Apart p) (l ∷ [])) (λ p q. (apart_flip l p q, tt)) a.parked each);
          }

      -- parked accesses are answered
      ordered_delivery : (turn : Option ℕ) (place : ℕ) (first : Step S.Read) (others : List (Step S.Read)) (b : Stand S) → IsDelivery S reads a turn place first others b
          → Ordered (done ++ lines_answered (first ∷ others)) (record a { state = b.state; parked = b.parked })
      ordered_delivery turn place first others b d =
          let x : ℕ × S.Read = line_answered first in
          let taken : List (ℕ × S.Read) = lines_answered others in
          let rest = remove a.parked place in
          let back = drop a.issued all in
          let new : List (ℕ × S.Read) = x ∷ (taken ++ b.parked) in
          let moved : IsPermutation a.parked new =
          IsPermutation-trans a.parked (x ∷ rest) new (taken_permutation a.parked place x d.first_is) (IsPermutation-cons x rest (taken ++ b.parked) (parted_permutation d.others_are)) in
          let out : Pairs Apart (x ∷ rest) = taken_first Apart apart_flip a.parked place x d.first_is h.apart in
          let apart : Pairs Apart new = (each_permuted (Apart x) rest (taken ++ b.parked) (parted_permutation d.others_are) out.0, parted_pairs Apart apart_flip d.others_are out.1) in
          let whole : done ++ (new ++ back) ≡ (done ++ x ∷ taken) ++ (b.parked ++ back) =
          ap (λ (xs : List (ℕ × S.Read)). done ++ (x ∷ xs)) (append_assoc taken b.parked back) ∙ sym (append_assoc done (x ∷ taken) (b.parked ++ back)) in
          record {
            once = subst (IsPermutation all) whole
                (IsPermutation-trans all (done ++ (a.parked ++ back)) (done ++ (new ++ back)) h.once
                (IsPermutation-append_right done (a.parked ++ back) (new ++ back) (IsPermutation-append_left back a.parked new moved)));
            pairs = subst (Pairs (MayComeFirst S)) whole (pairs_between (MayComeFirst S) done a.parked new back moved (pairs_by Apart (MayComeFirst S) (λ p q e. inr e) new apart) h.pairs);
            accesses = each_back IsAccess taken b.parked (each_permuted IsAccess a.parked new moved h.accesses).1;
            apart = pairs_back Apart taken b.parked apart.1;
          }

    -- at the end of some events

    leads_ordered : (done : List (ℕ × S.Read)) (a : Stand S) (events : List (Event S.Read)) (b : Stand S) → Ordered done a → Leads S reads a events b → Ordered (done ++ lines_answered (steps_of events)) b
    leads_ordered done a [] b h run = subst (λ (xs : List (ℕ × S.Read)). Ordered xs b) (sym (append-nil done)) (subst (Ordered done) (sym run) h)
    leads_ordered done a (line step ∷ events) b h run =
        let is = run.1 in
        let x : ℕ × S.Read = line_answered step in
        let number : a.issued + 1 ≡ step.number = sym is.number in
        let answered = ordered_line done a h run.0.state step.read is.free is.comes in
        let next : Ordered (done ++ x ∷ []) run.0 =
        subst (λ (k : ℕ). Ordered (done ++ (k, step.read) ∷ []) run.0) number (subst (Ordered (done ++ (a.issued + 1, step.read) ∷ [])) (sym is.leaves) answered) in
        subst (λ (xs : List (ℕ × S.Read)). Ordered xs b) (append_assoc done (x ∷ []) (lines_answered (steps_of events))) (leads_ordered (done ++ x ∷ []) run.0 events b next run.2)
    leads_ordered done a (park number read ∷ events) b h run =
        let is = run.1 in
        let here : a.issued + 1 ≡ number = sym is.number_is in
        let parked : Ordered done (record a { parked = a.parked ++ (number, read) ∷ []; issued = a.issued + 1; asking = true }) =
        subst (λ (k : ℕ). Ordered done (record a { parked = a.parked ++ (k, read) ∷ []; issued = a.issued + 1; asking = true })) here (ordered_park done a h read is.free is.comes is.access) in
        leads_ordered done run.0 events b (subst (Ordered done) (sym is.leaves) parked) run.2
    leads_ordered done a (pause ∷ events) b h run =
        let paused : Ordered done (record a { asking = false }) = record { once = h.once; pairs = h.pairs; accesses = h.accesses; apart = h.apart } in
        leads_ordered done run.0 events b (subst (Ordered done) (sym run.1.leaves) paused) run.2
    leads_ordered done a (delivery turn place first others ∷ events) b h run =
        let is = run.1 in
        let xs : List (ℕ × S.Read) = lines_answered (first ∷ others) in
        let next : Ordered (done ++ xs) run.0 = subst (Ordered (done ++ xs)) (sym is.leaves) (ordered_delivery done a h turn place first others run.0 is) in
        let whole : (done ++ xs) ++ lines_answered (steps_of events) ≡ done ++ lines_answered (first ∷ (others ++ steps_of events)) =
        append_assoc done xs (lines_answered (steps_of events)) ∙ ap (λ (ys : List (ℕ × S.Read)). done ++ (line_answered first ∷ ys)) (sym (map-append line_answered others (steps_of events))) in
        subst (λ (ys : List (ℕ × S.Read)). Ordered ys b) whole (leads_ordered (done ++ xs) run.0 events b next run.2)

    pub run_in_order : (state : S.State) (events : List (Event S.Read)) (b : Stand S) → RunOf S state reads events b → IsInOrder S reads (answer_order S reads events b)
    run_in_order state events b run =
        let h = leads_ordered [] (opening S state) events b (ordered_first state) run in
        record { once = h.once; order = pairs_all (MayComeFirst S) (answer_order S reads events b) h.pairs }

pub runs_are_in_order : RunsAreInOrder
runs_are_in_order before reads events after run = run_in_order command_semantics reads before events after run
