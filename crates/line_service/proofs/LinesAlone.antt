-- A run over lines that are no accesses.
use Rattle.std.proofs.Common.{◌≡◌, ◌+◌, ℕ, zero, suc, Bool, true, false, List, [], ◌∷◌, ◌++◌, take, None, Some, refl, sym, ap, subst, ◌∙◌, append_assoc, arith}
use Rattle.std.specs.Prelude.{slice_get}
use Rattle.std.proofs.lemmas.List.{append-nil}
use Rattle.vm_model.specs.Events.{Event, Leads, Stand, is_asked, opening, steps_of}
use Rattle.vm_model.specs.Events.Event.{line, park, pause, delivery}
use Rattle.vm_model.specs.Steps.{Semantics, line_answered, lines_answered, numbered_from}
use Rattle.line_service.specs.Alone.{LinesAlone}
use Rattle.line_service.proofs.OneLine.{no_access}
use Rattle.line_service.proofs.Places.{take_at}

numbered_at : {X : Type 0} (first n : ℕ) (reads : List X) (read : X) → slice_get reads n ≡ Some read → slice_get (numbered_from first reads) n ≡ Some (first + n, read)
numbered_at first n [] read e = absurd (cc e)
numbered_at {X} first zero (r ∷ reads) read e =
    let pair : ℕ → X → ℕ × X = λ n x. (n, x) in
    let same : r ≡ read = cc e in
    let number : first ≡ first + zero = omega arith in
    ap (λ (p : ℕ × X). Some p) (ap (λ (n : ℕ). pair n r) number ∙ ap (pair (first + zero)) same)
numbered_at {X} first (suc n) (r ∷ reads) read e =
    let pair : ℕ → X → ℕ × X = λ n x. (n, x) in
    let number : (first + 1) + n ≡ first + suc n = omega arith in
    numbered_at (first + 1) n reads read e ∙ ap (λ (k : ℕ). Some (pair k read)) number

module _ (S : Semantics) (never : (read : S.Read) → S.actor_of read ≡ None) (reads : List S.Read) where
  abbrev all : List (ℕ × S.Read)
  all = numbered_from 1 reads

  -- where nothing is parked the dispatcher isn't asked
  unasked : (a : Stand S) → a.parked ≡ [] → is_asked S reads a ≡ true → ⊥
  unasked a none asked = by a.asking (subst (λ (p : List (ℕ × S.Read)). is_asked S reads (record { state = a.state; parked = p; issued = a.issued; asking = a.asking }) ≡ true) none asked)
    where
      by : (asking : Bool) → is_asked S reads (record { state = a.state; parked = []; issued = a.issued; asking = asking }) ≡ true → ⊥
      by true e = cc e
      by false e = cc e

  alone : (a : Stand S) (events : List (Event S.Read)) (b : Stand S) → a.parked ≡ [] → Leads S reads a events b → take a.issued all ++ lines_answered (steps_of events) ≡ take b.issued all
  alone a [] b none h = append-nil (take a.issued all) ∙ ap (λ (s : Stand S). take s.issued all) (sym h)
  alone a (line step ∷ events) b none h =
      let is = h.1 in
      let pair : ℕ → S.Read → ℕ × S.Read = λ n x. (n, x) in
      let here : slice_get all a.issued ≡ Some (pair step.number step.read) =
      numbered_at 1 a.issued reads step.read is.comes ∙ ap (λ (n : ℕ). Some (pair n step.read)) (let n : 1 + a.issued ≡ step.number = omega (arith, is.number) in n) in
      let next : suc a.issued ≡ h.0.issued = (let n : suc a.issued ≡ a.issued + 1 = omega arith in n) ∙ ap (λ (s : Stand S). s.issued) (sym is.leaves) in
      let one : take a.issued all ++ line_answered step ∷ [] ≡ take h.0.issued all = sym (take_at all a.issued (line_answered step) here) ∙ ap (λ (n : ℕ). take n all) next in
      sym (append_assoc (take a.issued all) (line_answered step ∷ []) (lines_answered (steps_of events)))
      ∙ ap (λ (l : List (ℕ × S.Read)). l ++ lines_answered (steps_of events)) one
      ∙ alone h.0 events b (ap (λ (s : Stand S). s.parked) is.leaves ∙ none) h.2
  alone a (park number read ∷ events) b none h = absurd (no_access (S.actor_of read) (never read) h.1.access)
  alone a (pause ∷ events) b none h = absurd (unasked a none h.1.asked)
  alone a (delivery turn place first others ∷ events) b none h = absurd (unasked a none h.1.asked)

pub lines_alone : (S : Semantics) → LinesAlone S
lines_alone S never before reads events after run = alone S never reads (opening S before) events after refl run
