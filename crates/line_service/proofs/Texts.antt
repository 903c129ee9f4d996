-- Answers that are gathered as texts.
use Rattle.std.proofs.Common.{◌≡◌, ℕ, List, [], ◌∷◌, ◌++◌, Result, Ok, Err, sym, ap, subst, ◌∙◌, arith}
use Rattle.std.proofs.lemmas.List.{append-nil}
use Rattle.std.proofs.lemmas.List.Concat.{flat_map-append, flat_map-cons}
use Rattle.vm_ids.specs.Counting.{HasCause}
use Rattle.vm_model.specs.Events.{Stand, steps_of}
use Rattle.vm_model.specs.Steps.{Semantics, Step}
use Rattle.vm_port.specs.declared.traits.sink.Sink.{Ghosts as GhostsOfSink}
use Rattle.actor_script.specs.Text.{text_of}
use Rattle.actor_script.specs.Writing.{Writes, WritesFront}
use Rattle.actor_script.proofs.Written.{front_then, writes_none, writes_then}
use Rattle.line_service.specs.Ending.{Texts, TextsFront, Told, texts_of}
use Rattle.line_service.specs.Gathering.{Gathers, GathersFront, Grew, given_by}
use Rattle.line_service.specs.Going.{Goes, GoesOr, IsScript, Known, Scene, Writing}
use Rattle.line_service.specs.Putting.{Puts, PutsAll, PutsTillLast}
use Rattle.line_service.proofs.Gathering.{grew_none, grew_then}
use Rattle.line_service.proofs.Going.{goes_joined}

abbrev text : {R : Type 0} → Step R → List ℕ
text step = text_of step.number step.answer

texts-cons : {R : Type 0} (step : Step R) (steps : List (Step R)) → text step ++ texts_of steps ≡ texts_of (step ∷ steps)
texts-cons step steps = sym (flat_map-cons text step steps)

texts-append : {R : Type 0} (xs ys : List (Step R)) → texts_of xs ++ texts_of ys ≡ texts_of (xs ++ ys)
texts-append xs ys = sym (flat_map-append text xs ys)

texts-last : {R : Type 0} (xs : List (Step R)) (step : Step R) → texts_of xs ++ text step ≡ texts_of (xs ++ step ∷ [])
texts-last xs step = ap (λ (l : List ℕ). texts_of xs ++ l) (sym (append-nil (text step)) ∙ texts-cons step []) ∙ texts-append xs (step ∷ [])

-- texts behind texts

pub texts_join : {R : Type 0} (a : Told) (xs : List (Step R)) (b : Told) (ys : List (Step R)) (c : Told) → Texts a xs b → Texts b ys c → Texts a (xs ++ ys) c
texts_join a xs b ys c p q = subst (Writes a c) (texts-append xs ys) (writes_then a b c (texts_of xs) (texts_of ys) p q)

pub texts_cut : {R : Type 0} (a : Told) (xs : List (Step R)) (b : Told) (ys : List (Step R)) (c : Told) → Texts a xs b → TextsFront b ys c → TextsFront a (xs ++ ys) c
texts_cut a xs b ys c p q = subst (WritesFront a c) (texts-append xs ys) (front_then a b c (texts_of xs) (texts_of ys) p q)

module _ (S : Semantics) (known : Known S.Read) (a b c : Scene S Told) (s t u : Stand S) where
  pub goes_texts_then : Goes S Texts known a b s t → Goes S Texts known b c t u → Goes S Texts known a c s u
  goes_texts_then p q = goes_joined S Texts Texts Texts (λ v xs w ys x. texts_join v xs w ys x) known a b c s t u p q

  pub goes_texts_or : {T E : Type 0} (r : Result T E) → Goes S Texts known a b s t → GoesOr r S Texts TextsFront known b c t u → GoesOr r S Texts TextsFront known a c s u
  goes_texts_or (Ok x) p q = goes_texts_then p q
  goes_texts_or (Err e) p q = (q.0, q.1, goes_joined S Texts TextsFront TextsFront (λ v xs w ys x. texts_cut v xs w ys x) known a b c s t q.0 p q.2)

module _ {Sink : Type 0} (K : GhostsOfSink Sink) where
  -- what is put, and what isn't put as a whole
  abbrev pub Gathered : Puts (List ℕ × Sink)
  Gathered before number answer after = Gathers K Writes before after (text_of number answer)

  abbrev pub CutOff : Puts (List ℕ × Sink)
  CutOff before number answer after = GathersFront K before after (text_of number answer)

  pub texts_put : {R : Type 0} (w : List ℕ × Sink) (steps : List (Step R)) (v : List ℕ × Sink) → PutsAll Gathered w steps v → Gathers K Writes w v (texts_of steps)
  texts_put w [] v p = subst (λ (x : List ℕ × Sink). Gathers K Writes w x []) (sym p) (record { wrote = writes_none (given_by K w); grew = grew_none (K.written w.1); later = omega arith })
  texts_put w (step ∷ steps) v p =
      let first = p.1 in
      let rest = texts_put p.0 steps v p.2 in
      record {
        wrote = subst (Writes (given_by K w) (given_by K v)) (texts-cons step steps) (writes_then (given_by K w) (given_by K p.0) (given_by K v) (text step) (texts_of steps) first.wrote rest.wrote);
        grew = grew_then (K.written w.1) (K.written p.0.1) (K.written v.1) first.grew rest.grew;
        later = omega (arith, first.later, rest.later);
      }

  pub texts_till : {R : Type 0} (w : List ℕ × Sink) (steps : List (Step R)) (v : List ℕ × Sink) → PutsTillLast Gathered CutOff w steps v → GathersFront K w v (texts_of steps)
  texts_till w steps v p =
      let front = texts_put w p.front p.between p.put in
      let last = p.failed in
      let texts : texts_of p.front ++ text p.last ≡ texts_of steps = texts-last p.front p.last ∙ ap texts_of (sym p.parts) in
      record {
        part = record {
          wrote = subst (WritesFront (given_by K w) (given_by K v)) texts (front_then (given_by K w) (given_by K p.between) (given_by K v) (texts_of p.front) (text p.last) front.wrote last.part.wrote);
          grew = grew_then (K.written w.1) (K.written p.between.1) (K.written v.1) front.grew last.part.grew;
          later = omega (arith, front.later, last.part.later);
        };
        rose = λ h. omega (arith, front.later, last.rose h);
      }

  -- the scene with what the sink was given and what is gathered for it
  abbrev pub given : {S : Semantics} → Scene S (List ℕ × Sink) → Scene S Told
  given a = record { state = a.state; counts = a.counts; turns = a.turns; written = given_by K a.written }

  module _ (S : Semantics) (known : Known S.Read) (a b : Scene S (List ℕ × Sink)) (s t : Stand S) where
    goes_given : Goes S (PutsAll Gathered) known a b s t → Goes S Texts known (given a) (given b) s t
    goes_given p = record { events = p.events; leads = p.leads; turned = p.turned; rose = p.rose; put = (texts_put a.written (steps_of p.events) b.written p.put).wrote }

    pub given_or : {T E : Type 0} (r : Result T E) → GoesOr r S (PutsAll Gathered) (PutsTillLast Gathered CutOff) known a b s t → GoesOr r S Texts TextsFront known (given a) (given b) s t
    given_or (Ok x) p = goes_given p
    given_or (Err e) p =
        let h = p.2 in
        (p.0, p.1, record { events = h.events; leads = h.leads; turned = h.turned; rose = h.rose; put = (texts_till a.written (steps_of h.events) b.written h.put).part.wrote })

    pub grew_or : {T E : Type 0} (r : Result T E) → GoesOr r S (PutsAll Gathered) (PutsTillLast Gathered CutOff) known a b s t → Grew (K.written a.written.1) (K.written b.written.1)
    grew_or (Ok x) p = (texts_put a.written (steps_of p.events) b.written p.put).grew
    grew_or (Err e) p = (texts_till a.written (steps_of p.2.events) b.written p.2.put).part.grew

    pub cause_or : {T E : Type 0} (r : Result T E) → GoesOr r S (PutsAll Gathered) (PutsTillLast Gathered CutOff) known a b s t → HasCause (K.faults a.written.1) (K.faults b.written.1) r
    cause_or (Ok x) p = record { later = (texts_put a.written (steps_of p.events) b.written p.put).later; failed = tt }
    cause_or (Err e) p =
        let h = texts_till a.written (steps_of p.2.events) b.written p.2.put in
        record { later = h.part.later; failed = h.rose }

-- of a script of which more is known
pub goes_known : (S : Semantics) {W : Type 0} (Put : Writing W S.Read) (known more : Known S.Read) (a b : Scene S W) (s t : Stand S) → ((script : List S.Read) → IsScript more script → IsScript known script) → Goes S Put known a b s t → Goes S Put more a b s t
goes_known S Put known more a b s t so p = record { events = p.events; leads = λ script h. p.leads script (so script h); turned = p.turned; rose = p.rose; put = p.put }
