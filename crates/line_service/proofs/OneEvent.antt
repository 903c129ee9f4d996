-- One event more: a line, a parked access, a pause or a delivery.
use Rattle.std.proofs.Common.{◌≡◌, ◌+◌, ◌<◌, ℕ, Bool, true, false, List, [], ◌∷◌, ◌++◌, length, drop, Option, None, Some, Result, Ok, Err, refl, sym, ap, subst}
use Rattle.std.specs.Prelude.{IfSome, IsSome, OnErr, OnOk, option_map, slice_get}
use Rattle.std.proofs.lemmas.Bool.{lt-ltb}
use Rattle.std.proofs.lemmas.List.{append-nil}
use Rattle.vm_ids.specs.Counting.{MapperCounts, Rise, no_counts}
use Rattle.vm_ids.specs.Dispatching.{next_turn}
use Rattle.vm_model.specs.Answering.{Answer}
use Rattle.vm_model.specs.Events.{IsPlaceOf, Stand, is_asked}
use Rattle.vm_model.specs.Events.Event.{line, park, pause, delivery}
use Rattle.vm_model.specs.Steps.{Semantics, Step, rises_of}
use Rattle.line_service.specs.Going.{Delivers, Goes, GoesOr, IsScript, Known, Scene, Turned, Writing, stand_at}
use Rattle.line_service.specs.Putting.{Puts, PutsAll, PutsOr, PutsTillLast}
use Rattle.line_service.specs.Serving.{Waits}
use Rattle.line_service.proofs.Going.{rise_none, rise_one, turned_none}

-- a step of a line
abbrev pub step_of : {R : Type 0} → ℕ → R → Answer → MapperCounts → Step R
step_of number read answer rises = record { number = number; read = read; answer = answer; rises = rises }

-- one answer is put, or can't be
pub puts_one : {T E W R : Type 0} (r : Result T E) (puts fails : Puts W) (a : W) (step : Step R) (b : W) → OnOk r (puts a step.number step.answer b) → OnErr r (fails a step.number step.answer b) → PutsOr r puts fails a (step ∷ []) b
puts_one (Ok x) puts fails a step b p q = (b, p, refl)
puts_one (Err e) puts fails a step b p q = record { front = []; last = step; parts = refl; between = a; put = refl; failed = q }

-- one turn
pub turned_one : (before after : Option (List (Option ℕ))) (parked : ℕ) (turn : Option ℕ) → IfSome before (λ told. turn ≡ next_turn told parked) → after ≡ option_map (drop 1) before → Turned before ((parked, turn) ∷ []) after
turned_one None after parked turn is left = tt
turned_one (Some told) None parked turn is left = absurd (cc left)
turned_one (Some told) (Some rest) parked turn is left = let same : rest ≡ drop 1 told = cc left in (is, same)

-- the same scene with no turns told
abbrev pub untold : {S : Semantics} {W : Type 0} → Scene S W → Scene S W
untold a = record { state = a.state; counts = a.counts; turns = None; written = a.written }

module _ (S : Semantics) where
  -- by how it ended
  pub goes_as : {T E W : Type 0} (r : Result T E) (puts fails : Puts W) (known : Known S.Read) (a b : Scene S W) (s t : Stand S) → t.state ≡ t.state → Goes S (PutsOr r puts fails) known a b s t → GoesOr r S (PutsAll puts) (PutsTillLast puts fails) known a b s t
  goes_as (Ok x) puts fails known a b s t same h = h
  goes_as (Err e) puts fails known a b s t same h = (t, same, h)

  module _ {W : Type 0} (Put : Writing W S.Read) (known : Known S.Read) (a b : Scene S W) (parked : List (ℕ × S.Read)) (issued : ℕ) (asking : Bool) where
    pub goes_line : (read : S.Read) (answer : Answer) (rises : MapperCounts) → ((script : List S.Read) → IsScript known script → is_asked S script (stand_at a parked issued asking) ≡ false) → ((script : List S.Read) → IsScript known script → slice_get script issued ≡ Some read)
        → S.StepIs a.state read answer rises b.state → (IsSome (S.actor_of read) → rises.pulls ≡ 0) → Rise a.counts b.counts rises → b.turns ≡ a.turns → Put a.written (step_of (issued + 1) read answer rises ∷ []) b.written
        → Goes S Put known a b (stand_at a parked issued asking) (stand_at b parked (issued + 1) true)
    goes_line read answer rises free comes is no_pull rose same put =
        let step = step_of (issued + 1) read answer rises in
        record {
          events = line step ∷ [];
          leads = λ script h. (stand_at b parked (issued + 1) true, record { free = free script h; comes = comes script h; number = refl; is = is; no_pull = no_pull; leaves = refl }, refl);
          turned = subst (Turned a.turns []) (sym same) (turned_none a.turns);
          rose = rise_one a.counts b.counts step rose;
          put = put;
        }

    pub goes_park : (read : S.Read) → ((script : List S.Read) → IsScript known script → is_asked S script (stand_at a parked issued asking) ≡ false) → ((script : List S.Read) → IsScript known script → slice_get script issued ≡ Some read)
        → IsSome (S.actor_of read) → Waits S a.counts b.counts a.state read b.state → b.turns ≡ a.turns → Put a.written [] b.written
        → Goes S Put known a b (stand_at a parked issued asking) (stand_at b (parked ++ (issued + 1, read) ∷ []) (issued + 1) true)
    goes_park read free comes access waits same put =
        let stays : stand_at b (parked ++ (issued + 1, read) ∷ []) (issued + 1) true ≡ stand_at a (parked ++ (issued + 1, read) ∷ []) (issued + 1) true =
        ap (λ (state : S.State). record { state = state; parked = parked ++ (issued + 1, read) ∷ []; issued = issued + 1; asking = true }) waits.same in
        record {
          events = park (issued + 1) read ∷ [];
          leads = λ script h. (stand_at b (parked ++ (issued + 1, read) ∷ []) (issued + 1) true, record { free = free script h; comes = comes script h; number_is = refl; access = access; admitted = waits.admitted; leaves = stays }, refl);
          turned = subst (Turned a.turns []) (sym same) (turned_none a.turns);
          rose = waits.rose;
          put = put;
        }

    pub goes_delivery : (turn : Option ℕ) (place : ℕ) (left : List (ℕ × S.Read)) → ((script : List S.Read) → IsScript known script → is_asked S script (stand_at a parked issued asking) ≡ true) → IsPlaceOf asking turn place
        → Turned a.turns ((length parked, turn) ∷ []) b.turns → Delivers S Put (untold a) (untold b) parked place left → Goes S Put known a b (stand_at a parked issued asking) (stand_at b left issued asking)
    goes_delivery turn place left asked at turned d =
        let all : d.first ∷ d.others ≡ d.first ∷ (d.others ++ []) = ap (λ (l : List (Step S.Read)). d.first ∷ l) (sym (append-nil d.others)) in
        record {
          events = delivery turn place d.first d.others ∷ [];
          leads = λ script h. (stand_at b left issued asking, record { asked = asked script h; place_is = at; first_is = d.first_is; came = d.came; others_are = d.parted; no_pull = d.no_pull; chain = d.chain; leaves = refl }, refl);
          turned = turned;
          rose = subst (λ (l : List (Step S.Read)). Rise a.counts b.counts (rises_of l)) all d.rose;
          put = subst (λ (l : List (Step S.Read)). Put a.written l b.written) all d.put;
        }

  pub goes_pause : {W : Type 0} (puts : Puts W) (known : Known S.Read) (a b : Scene S W) (parked : List (ℕ × S.Read)) (issued : ℕ) → 0 < length parked → b.state ≡ a.state → b.counts ≡ a.counts → b.written ≡ a.written → Turned a.turns ((length parked, None) ∷ []) b.turns
      → Goes S (PutsAll puts) known a b (stand_at a parked issued true) (stand_at b parked issued false)
  goes_pause puts known a b parked issued some state counts written turned =
      let stays : stand_at b parked issued false ≡ stand_at a parked issued false = ap (λ (state : S.State). record { state = state; parked = parked; issued = issued; asking = false }) state in
      record {
        events = pause ∷ [];
        leads = λ script h. (stand_at b parked issued false, record { asked = lt-ltb 0 (length parked) some; first = refl; leaves = stays }, refl);
        turned = turned;
        rose = subst (λ (c : MapperCounts). Rise a.counts c no_counts) (sym counts) (rise_none a.counts);
        put = written;
      }
