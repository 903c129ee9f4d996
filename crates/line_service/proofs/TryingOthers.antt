-- Parked accesses, each tried once.
use Rattle.std.proofs.Common.{◌≡◌, ◌+◌, ◌<◌, ◌≤◌, ◌⊎◌, ℕ, zero, suc, Bool, false, List, [], ◌∷◌, ◌++◌, length, take, drop, Some, Result, Ok, Err, refl, sym, ap, subst, ◌∙◌, append_assoc, arith}
use Rattle.std.specs.Prelude.{remove, slice_get}
use Rattle.std.proofs.lemmas.List.{append-nil, map-append, take_all}
use Rattle.vm_ids.specs.declared.access.Parked.{Parked}
use Rattle.vm_model.proofs.Parts.Pairs.{each_append}
use Rattle.vm_model.specs.Events.{IsMapperFault}
use Rattle.gmi_calls.specs.Parking.{IsDelivered}
use Rattle.line_service.specs.Going.{Delivers, Scene, Tries}
use Rattle.line_service.specs.Parking.{AreAway, IsAway, lines_parked}
use Rattle.line_service.specs.Putting.{Puts, PutsAll, PutsOr, PutsTillLast}
use Rattle.line_service.specs.Serving.{AnswersBy, IsDoneOrFault, NoMoreReady}
use Rattle.gmi_calls.specs.declared.delivered.Delivered.{Delivered}
use Rattle.line_service.specs.declared.service.Service.{Ghosts as GhostsOfService}
use Rattle.line_service.proofs.OneEvent.{step_of}
use Rattle.line_service.proofs.Parking.{still_away}
use Rattle.line_service.proofs.Places.{drop_at, drop_without, map_at, map_without, take_at, take_without}
use Rattle.line_service.proofs.Trying.{came_or_fault, delivers_cut, delivers_then, tries_none, tries_rest, tries_then}

dropped_all : {X : Type 0} (n : ℕ) (xs : List X) → length xs ≤ n → drop n xs ≡ []
dropped_all zero [] l = refl
dropped_all zero (x ∷ xs) l = absurd (omega (arith, l))
dropped_all (suc n) [] l = refl
dropped_all (suc n) (x ∷ xs) l = dropped_all n xs (omega arith)

-- From these that were parked at the start, the ones before the place were tried.
pub record TriedTo {Service Mapper Chooser W : Type 0} (V : GhostsOfService Service Mapper Chooser)
    (puts : Puts W) (a b : Scene V.semantics W) (start waits : List Parked) (place : ℕ)
    : Type 0 where
  pub front : List Parked
  pub parts : start ≡ front ++ drop place waits
  pub tries : Tries V.semantics (PutsAll puts) a b (lines_parked V front) (lines_parked V (take place waits))

-- how a try went
abbrev pub well : Result ℕ ℕ
well = Ok 0

abbrev pub ill : Result ℕ ℕ
ill = Err 0

module _ {Service Mapper Chooser : Type 0} (V : GhostsOfService Service Mapper Chooser) where
  pub lines_both : (xs ys : List Parked) → lines_parked V (xs ++ ys) ≡ lines_parked V xs ++ lines_parked V ys
  lines_both xs ys = map-append (λ (p : Parked). (p.line, V.access_of p.actor p.access)) xs ys

  pub tried_start : {W : Type 0} (puts : Puts W) (a : Scene V.semantics W) (start : List Parked) → TriedTo V puts a a start start 0
  tried_start puts a start = record { front = []; parts = refl; tries = tries_none V.semantics puts a }

  module _ {W : Type 0} (puts fails : Puts W) (a b c : Scene V.semantics W) (start waits : List Parked) (place : ℕ) (p : Parked) (h : TriedTo V puts a b start waits place) (is : slice_get waits place ≡ Some p) where
    -- what was parked before
    before : start ≡ (h.front ++ p ∷ []) ++ drop (suc place) waits
    before = h.parts ∙ ap (λ (l : List Parked). h.front ++ l) (drop_at waits place p is) ∙ sym (append_assoc h.front (p ∷ []) (drop (suc place) waits))

    both : {T E : Type 0} (r : Result T E) (left : List Parked) → Tries V.semantics (PutsOr r puts fails) b c (lines_parked V (p ∷ [])) (lines_parked V left) → Tries V.semantics (PutsOr r puts fails) a c (lines_parked V (h.front ++ p ∷ [])) (lines_parked V (take place waits ++ left))
    both r left t =
        subst (λ (l : List (ℕ × V.semantics.Read)). Tries V.semantics (PutsOr r puts fails) a c l (lines_parked V (take place waits ++ left))) (sym (lines_both h.front (p ∷ [])))
        (subst (λ (l : List (ℕ × V.semantics.Read)). Tries V.semantics (PutsOr r puts fails) a c (lines_parked V h.front ++ lines_parked V (p ∷ [])) l) (sym (lines_both (take place waits) left))
        (tries_then V.semantics r puts fails a b c (lines_parked V h.front) (lines_parked V (take place waits)) (lines_parked V (p ∷ [])) (lines_parked V left) h.tries t))

    -- it is left
    pub tried_left : (now : List Parked) → now ≡ waits → Tries V.semantics (PutsAll puts) b c (lines_parked V (p ∷ [])) (lines_parked V (p ∷ [])) → TriedTo V puts a c start now (place + 1)
    tried_left now same t =
        let next : suc place ≡ place + 1 = omega arith in
        let taken : take place waits ++ p ∷ [] ≡ take (place + 1) now = sym (take_at waits place p is) ∙ ap (λ (n : ℕ). take n waits) next ∙ ap (take (place + 1)) (sym same) in
        record {
          front = h.front ++ p ∷ [];
          parts = before ∙ ap (λ (n : ℕ). (h.front ++ p ∷ []) ++ drop n waits) next ∙ ap (λ (l : List Parked). (h.front ++ p ∷ []) ++ drop (place + 1) l) (sym same);
          tries = subst (λ (l : List Parked). Tries V.semantics (PutsAll puts) a c (lines_parked V (h.front ++ p ∷ [])) (lines_parked V l)) taken (both well (p ∷ []) t);
        }

    module _ (now : List Parked) (out : now ≡ remove waits place) where
      -- it is answered
      pub tried_taken : Tries V.semantics (PutsAll puts) b c (lines_parked V (p ∷ [])) [] → TriedTo V puts a c start now place
      tried_taken t =
          let taken : take place waits ++ [] ≡ take place now = append-nil (take place waits) ∙ sym (ap (take place) out ∙ take_without waits place) in
          let dropped : drop (suc place) waits ≡ drop place now = sym (ap (drop place) out ∙ drop_without waits place) in
          record {
            front = h.front ++ p ∷ [];
            parts = before ∙ ap (λ (l : List Parked). (h.front ++ p ∷ []) ++ l) dropped;
            tries = subst (λ (l : List Parked). Tries V.semantics (PutsAll puts) a c (lines_parked V (h.front ++ p ∷ [])) (lines_parked V l)) taken (both well [] t);
          }

      -- its answer couldn't be put
      pub tried_cut : Tries V.semantics (PutsTillLast puts fails) b c (lines_parked V (p ∷ [])) [] → Tries V.semantics (PutsTillLast puts fails) a c (lines_parked V start) (lines_parked V now)
      tried_cut t =
          let rest = drop (suc place) waits in
          let Put = PutsTillLast puts fails in
          let all = tries_rest V.semantics Put a c (lines_parked V (h.front ++ p ∷ [])) (lines_parked V (take place waits ++ [])) (lines_parked V rest) (both ill [] t) in
          let left : lines_parked V (take place waits ++ []) ++ lines_parked V rest ≡ lines_parked V now =
          sym (lines_both (take place waits ++ []) rest) ∙ ap (lines_parked V) (ap (λ (l : List Parked). l ++ rest) (append-nil (take place waits)) ∙ sym out) in
          subst (λ (l : List (ℕ × V.semantics.Read)). Tries V.semantics Put a c l (lines_parked V now)) (sym (ap (lines_parked V) before ∙ lines_both (h.front ++ p ∷ []) rest))
          (subst (λ (l : List (ℕ × V.semantics.Read)). Tries V.semantics Put a c (lines_parked V (h.front ++ p ∷ []) ++ lines_parked V rest) l) left all)

  -- each was tried
  pub tried_end : {W : Type 0} (puts : Puts W) (a b : Scene V.semantics W) (start waits : List Parked) (place : ℕ) → TriedTo V puts a b start waits place → length waits ≤ place → Tries V.semantics (PutsAll puts) a b (lines_parked V start) (lines_parked V waits)
  tried_end puts a b start waits place h all =
      let front : h.front ≡ start = sym (h.parts ∙ ap (λ (l : List Parked). h.front ++ l) (dropped_all place waits all) ∙ append-nil h.front) in
      subst (λ (l : List Parked). Tries V.semantics (PutsAll puts) a b (lines_parked V start) (lines_parked V l)) (take_all place waits all)
      (subst (λ (l : List Parked). Tries V.semantics (PutsAll puts) a b (lines_parked V l) (lines_parked V (take place waits))) front h.tries)

  -- none of those that were tried is ready

  pub away_left : (old new : Service) (waits now : List Parked) (place : ℕ) (p : Parked) → slice_get waits place ≡ Some p → now ≡ waits → NoMoreReady V.ready old new → IsAway V new p → AreAway V old (take place waits) → AreAway V new (take (place + 1) now)
  away_left old new waits now place p is same stays here away =
      let next : suc place ≡ place + 1 = omega arith in
      subst (λ (l : List Parked). AreAway V new l) (sym (take_at waits place p is) ∙ ap (λ (n : ℕ). take n waits) next ∙ ap (take (place + 1)) (sym same)) (each_append (IsAway V new) (take place waits) (p ∷ []) (still_away V old new (take place waits) stays away) (here, tt))

  pub away_taken : (old new : Service) (waits now : List Parked) (place : ℕ) → now ≡ remove waits place → NoMoreReady V.ready old new → AreAway V old (take place waits) → AreAway V new (take place now)
  away_taken old new waits now place out stays away =
      subst (λ (l : List Parked). AreAway V new l) (sym (ap (take place) out ∙ take_without waits place)) (still_away V old new (take place waits) stays away)

  pub away_end : (service : Service) (waits : List Parked) (place : ℕ) → length waits ≤ place → AreAway V service (take place waits) → AreAway V service waits
  away_end service waits place all away = subst (λ (l : List Parked). AreAway V service l) (take_all place waits all) away

-- An access at a place is delivered, and the others are tried.
module _ {Service Mapper Chooser W : Type 0} (V : GhostsOfService Service Mapper Chooser) (puts fails : Puts W) (a b : Scene V.semantics W) (waits left : List Parked) (place : ℕ) (p : Parked) (is : slice_get waits place ≡ Some p) (out : left ≡ remove waits place) (d : Delivered) (ready : Bool)
    (m : AnswersBy V.semantics (IsDelivered ready d) a.counts b.counts a.state (V.access_of p.actor p.access) d.answer b.state) (away : ready ≡ false) (done : IsDoneOrFault d.answer) where
  abbrev line_of : Parked → ℕ × V.semantics.Read
  line_of x = (x.line, V.access_of x.actor x.access)

  first : slice_get (lines_parked V waits) place ≡ Some (line_of p)
  first = map_at line_of waits place p is

  others : lines_parked V left ≡ remove (lines_parked V waits) place
  others = ap (lines_parked V) out ∙ map_without line_of waits place

  came : (0 < m.rises.pulls) ⊎ IsMapperFault d.answer
  came = came_or_fault ready d m.rises away m.so done

  pub delivered_failed : fails a.written p.line d.answer b.written → Delivers V.semantics (PutsTillLast puts fails) a b (lines_parked V waits) place (lines_parked V left)
  delivered_failed failed =
      let Put = PutsTillLast puts fails in
      let read = V.access_of p.actor p.access in
      subst (λ (l : List (ℕ × V.semantics.Read)). Delivers V.semantics Put a b (lines_parked V waits) place l) (sym others)
      (delivers_cut V.semantics Put a b (lines_parked V waits) place p.line read d.answer m.rises first m.is came m.rose
      (record { front = []; last = step_of p.line read d.answer m.rises; parts = refl; between = a.written; put = refl; failed = failed }))

  pub delivered_put : puts a.written p.line d.answer b.written → Delivers V.semantics (PutsAll puts) a b (lines_parked V waits) place (lines_parked V left)
  delivered_put put =
      subst (λ (l : List (ℕ × V.semantics.Read)). Delivers V.semantics (PutsAll puts) a b (lines_parked V waits) place l) (sym others)
      (delivers_cut V.semantics (PutsAll puts) a b (lines_parked V waits) place p.line (V.access_of p.actor p.access) d.answer m.rises first m.is came m.rose (b.written, put, refl))

  pub delivered_then : {T E : Type 0} (r : Result T E) (c : Scene V.semantics W) (now : List Parked) → puts a.written p.line d.answer b.written → Tries V.semantics (PutsOr r puts fails) b c (lines_parked V left) (lines_parked V now) → Delivers V.semantics (PutsOr r puts fails) a c (lines_parked V waits) place (lines_parked V now)
  delivered_then r c now put t =
      delivers_then V.semantics r puts fails a b c (lines_parked V waits) (lines_parked V now) place p.line (V.access_of p.actor p.access) d.answer m.rises first m.is came m.rose put
      (subst (λ (l : List (ℕ × V.semantics.Read)). Tries V.semantics (PutsOr r puts fails) b c l (lines_parked V now)) others t)
