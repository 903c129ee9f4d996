-- Parked accesses, tried one after another.
use Rattle.std.proofs.Common.{◌≡◌, ◌<◌, ◌⊎◌, ℕ, Bool, false, List, [], ◌∷◌, ◌++◌, Some, Result, Ok, Err, refl, sym, subst, inl, inr}
use Rattle.std.specs.Prelude.{IsOk, remove, slice_get}
use Rattle.std.proofs.lemmas.List.{map-append}
use Rattle.vm_ids.specs.Counting.{MapperCounts, Rise, no_counts}
use Rattle.vm_ids.specs.declared.reply.Trouble.TheVariants.{Mapper, Refused, Memory}
use Rattle.vm_model.specs.Answering.{Answer}
use Rattle.vm_model.specs.Events.{IsMapperFault, IsParted}
use Rattle.vm_model.specs.Events.IsParted.{ended, taken, left}
use Rattle.vm_model.specs.Steps.{Semantics, Step, line_answered}
use Rattle.vm_model.proofs.Parts.Pairs.{each_append}
use Rattle.vm_model.proofs.WholeRuns.Chains.{chain_then}
use Rattle.vm_model.proofs.WholeRuns.Growing.{parted_rest}
use Rattle.gmi_calls.specs.Parking.{IsDelivered}
use Rattle.line_service.specs.Going.{Delivers, Scene, Tries, Writing}
use Rattle.line_service.specs.Putting.{Puts, PutsAll, PutsOr}
use Rattle.line_service.specs.Serving.{IsDoneOrFault}
use Rattle.gmi_calls.specs.declared.delivered.Delivered.{Delivered}
use Rattle.line_service.proofs.Going.{puts_or, rise_none, rise_one, rise_then}
use Rattle.line_service.proofs.OneEvent.{step_of}

parted_both : {A : Type 0} {xs ts ls ys us ms : List A} → IsParted xs ts ls → IsParted ys us ms → IsParted (xs ++ ys) (ts ++ us) (ls ++ ms)
parted_both ended q = q
parted_both (taken p) q = taken (parted_both p q)
parted_both (left p) q = left (parted_both p q)

module _ (S : Semantics) {W : Type 0} where
  -- nothing is tried
  pub tries_none : (puts : Puts W) (a : Scene S W) → Tries S (PutsAll puts) a a [] []
  tries_none puts a = record { steps = []; parted = ended; no_pull = tt; chain = refl; rose = rise_none a.counts; put = refl }

  -- it has to wait still
  pub tries_left : (puts : Puts W) (a b : Scene S W) (x : ℕ × S.Read) → b.state ≡ a.state → Rise a.counts b.counts no_counts → b.written ≡ a.written → Tries S (PutsAll puts) a b (x ∷ []) (x ∷ [])
  tries_left puts a b x state rose written = record { steps = []; parted = left ended; no_pull = tt; chain = state; rose = rose; put = written }

  -- it is answered
  pub tries_taken : (Put : Writing W S.Read) (a b : Scene S W) (number : ℕ) (read : S.Read) (answer : Answer) (rises : MapperCounts) → S.StepIs a.state read answer rises b.state → rises.pulls ≡ 0 → Rise a.counts b.counts rises → Put a.written (step_of number read answer rises ∷ []) b.written
      → Tries S Put a b ((number, read) ∷ []) []
  tries_taken Put a b number read answer rises is no_pull rose put =
      let step = step_of number read answer rises in
      record {
        steps = step ∷ [];
        parted = taken ended;
        no_pull = (no_pull, tt);
        chain = (b.state, is, refl);
        rose = rise_one a.counts b.counts step rose;
        put = put;
      }

  pub tries_then : {T E : Type 0} (r : Result T E) (puts fails : Puts W) (a b c : Scene S W) (xs ls ys ms : List (ℕ × S.Read)) → Tries S (PutsAll puts) a b xs ls → Tries S (PutsOr r puts fails) b c ys ms → Tries S (PutsOr r puts fails) a c (xs ++ ys) (ls ++ ms)
  tries_then r puts fails a b c xs ls ys ms p q = record {
    steps = p.steps ++ q.steps;
    parted = subst (λ (l : List (ℕ × S.Read)). IsParted (xs ++ ys) l (ls ++ ms)) (sym (map-append line_answered p.steps q.steps)) (parted_both p.parted q.parted);
    no_pull = each_append (λ (step : Step S.Read). step.rises.pulls ≡ 0) p.steps q.steps p.no_pull q.no_pull;
    chain = chain_then S a.state p.steps b.state q.steps c.state p.chain q.chain;
    rose = rise_then a.counts b.counts c.counts p.steps q.steps p.rose q.rose;
    put = puts_or r puts fails a.written p.steps b.written q.steps c.written p.put q.put;
  }

  -- the others are left
  pub tries_rest : (Put : Writing W S.Read) (a b : Scene S W) (xs ls ys : List (ℕ × S.Read)) → Tries S Put a b xs ls → Tries S Put a b (xs ++ ys) (ls ++ ys)
  tries_rest Put a b xs ls ys p = record { steps = p.steps; parted = parted_rest ys p.parted; no_pull = p.no_pull; chain = p.chain; rose = p.rose; put = p.put }

  -- a delivery of one, and the others tried behind it
  pub delivers_then : {T E : Type 0} (r : Result T E) (puts fails : Puts W) (a b c : Scene S W) (parked rest : List (ℕ × S.Read)) (place number : ℕ) (read : S.Read) (answer : Answer) (rises : MapperCounts) → slice_get parked place ≡ Some (number, read) → S.StepIs a.state read answer rises b.state → (0 < rises.pulls) ⊎ IsMapperFault answer
      → Rise a.counts b.counts rises → puts a.written number answer b.written → Tries S (PutsOr r puts fails) b c (remove parked place) rest → Delivers S (PutsOr r puts fails) a c parked place rest
  delivers_then r puts fails a b c parked rest place number read answer rises first is came rose put q =
      let step = step_of number read answer rises in
      record {
        first = step;
        others = q.steps;
        first_is = first;
        came = came;
        parted = q.parted;
        no_pull = q.no_pull;
        chain = (b.state, is, q.chain);
        rose = rise_then a.counts b.counts c.counts (step ∷ []) q.steps (rise_one a.counts b.counts step rose) q.rose;
        put = puts_or r puts fails a.written (step ∷ []) b.written q.steps c.written (b.written, put, refl) q.put;
      }

  -- one that couldn't be put
  pub delivers_cut : (Put : Writing W S.Read) (a b : Scene S W) (parked : List (ℕ × S.Read)) (place number : ℕ) (read : S.Read) (answer : Answer) (rises : MapperCounts) → slice_get parked place ≡ Some (number, read) → S.StepIs a.state read answer rises b.state → (0 < rises.pulls) ⊎ IsMapperFault answer
      → Rise a.counts b.counts rises → Put a.written (step_of number read answer rises ∷ []) b.written → Delivers S Put a b parked place (remove parked place)
  delivers_cut Put a b parked place number read answer rises first is came rose put =
      let step = step_of number read answer rises in
      record {
        first = step;
        others = [];
        first_is = first;
        came = came;
        parted = parted_rest (remove parked place) ended;
        no_pull = tt;
        chain = (b.state, is, refl);
        rose = rise_one a.counts b.counts step rose;
        put = put;
      }

-- what a delivery says of an access that wasn't ready, and that nothing refuses
pub came_or_fault : (ready : Bool) (d : Delivered) (rises : MapperCounts) → ready ≡ false → IsDelivered ready d rises → IsDoneOrFault d.answer → (0 < rises.pulls) ⊎ IsMapperFault d.answer
came_or_fault ready d rises away is done = by d.answer (is.pulled away) done
  where
    by : (answer : Answer) → (IsOk answer → 0 < rises.pulls) → IsDoneOrFault answer → (0 < rises.pulls) ⊎ IsMapperFault answer
    by (Ok reply) pulled done = inl (pulled refl)
    by (Err (Mapper at)) pulled done = inr tt
    by (Err (Refused r)) pulled done = absurd done
    by (Err Memory) pulled done = absurd done
