-- The dispatcher is asked, and a parked access is delivered or none is.
use Rattle.std.proofs.Common.{◌≡◌, ◌<◌, ◌≤◌, ℕ, Bool, true, false, List, [], ◌∷◌, length, drop, Option, None, Some, Result, refl, sym, ap, subst, arith}
use Rattle.std.specs.Prelude.{IfSome, option_and_then, option_map, slice_get, unwrap_or}
use Rattle.std.proofs.lemmas.Bool.{lt-ltb}
use Rattle.std.proofs.lemmas.List.{length-map}
use Rattle.vm_ids.specs.Dispatching.{next_turn}
use Rattle.vm_ids.specs.declared.access.Parked.{Parked}
use Rattle.vm_model.specs.Events.{IsPlaceOf, Stand, is_asked}
use Rattle.vm_port.specs.declared.traits.mapper.Mapper.{Ghosts as GhostsOfMapper}
use Rattle.line_service.specs.Going.{Delivers, Goes, GoesOr, IsScript, Known, Scene, Turned, stand_at}
use Rattle.line_service.specs.Parking.{CanServe, has_to_wait, is_none_parked, lines_parked}
use Rattle.line_service.specs.Putting.{Puts, PutsAll, PutsOr, PutsTillLast}
use Rattle.line_service.specs.declared.service.Service.{Ghosts as GhostsOfService}
use Rattle.line_service.proofs.Going.{goes_or, goes_then}
use Rattle.line_service.proofs.OneEvent.{goes_as, goes_delivery, goes_pause, turned_one, untold}
use Rattle.line_service.proofs.Parking.{asked_at, nothing_parked}

-- one turn, where so many accesses are parked
pub turn_is : (waits : List Parked) (before after : Option (List (Option ℕ))) (outstanding : ℕ) (turn : Option ℕ) → outstanding ≡ length waits → IfSome before (λ told. turn ≡ next_turn told outstanding) → after ≡ option_map (drop 1) before → Turned before ((length waits, turn) ∷ []) after
turn_is waits before after outstanding turn e told left =
    subst (λ (n : ℕ). Turned before ((n, turn) ∷ []) after) e (turned_one before after outstanding turn told left)

-- behind its pause a turn that names none is the oldest's
place_at : (start waits : List Parked) (actor turn : Option ℕ) (place : ℕ) → length waits ≤ length start → has_to_wait actor waits ≡ true → unwrap_or turn 0 ≡ place → IsPlaceOf (is_none_parked start) turn place
place_at [] waits actor turn place few so at = let none : has_to_wait actor waits ≡ false = ap (has_to_wait actor) (nothing_parked waits few) in absurd (cc)
place_at (p ∷ ps) waits actor turn place few so at = at

module _ {Service Mapper Chooser : Type 0} (V : GhostsOfService Service Mapper Chooser) {W : Type 0} (puts fails : Puts W) (known : Known V.semantics.Read) (start here new : Scene V.semantics W) (s : Stand V.semantics) (waits : List Parked) (issued : ℕ) where
  lines_length : length waits ≡ length (lines_parked V waits)
  lines_length = sym (length-map waits (λ (p : Parked). (p.line, V.access_of p.actor p.access)))

  -- a delivery more
  delivery_more : {T E : Type 0} (r : Result T E) (now : List Parked) (asking : Bool) (turn : Option ℕ) (place : ℕ) → ((script : List V.semantics.Read) → IsScript known script → is_asked V.semantics script (stand_at here (lines_parked V waits) issued asking) ≡ true) → IsPlaceOf asking turn place
      → Turned here.turns ((length waits, turn) ∷ []) new.turns → Delivers V.semantics (PutsOr r puts fails) (untold here) (untold new) (lines_parked V waits) place (lines_parked V now) → Goes V.semantics (PutsAll puts) known start here s (stand_at here (lines_parked V waits) issued asking)
      → GoesOr r V.semantics (PutsAll puts) (PutsTillLast puts fails) known start new s (stand_at new (lines_parked V now) issued asking)
  delivery_more r now asking turn place asked at turned delivered goes =
      let t = stand_at here (lines_parked V waits) issued asking in
      let u = stand_at new (lines_parked V now) issued asking in
      goes_or V.semantics puts fails known r start here new s t u goes
      (goes_as V.semantics r puts fails known here new t u refl
      (goes_delivery V.semantics (PutsOr r puts fails) known here new (lines_parked V waits) issued asking turn place (lines_parked V now) asked at (subst (λ (n : ℕ). Turned here.turns ((n, turn) ∷ []) new.turns) lines_length turned) delivered))

  -- while something is parked the dispatcher is asked
  pub delivery_first : {T E : Type 0} (r : Result T E) (now : List Parked) (place : ℕ) → 0 < length waits → Turned here.turns ((length waits, Some place) ∷ []) new.turns → Delivers V.semantics (PutsOr r puts fails) (untold here) (untold new) (lines_parked V waits) place (lines_parked V now)
      → Goes V.semantics (PutsAll puts) known start here s (stand_at here (lines_parked V waits) issued true) → GoesOr r V.semantics (PutsAll puts) (PutsTillLast puts fails) known start new s (stand_at new (lines_parked V now) issued true)
  delivery_first r now place some turned delivered goes =
      delivery_more r now true (Some place) place (λ script h. lt-ltb 0 (length (lines_parked V waits)) (omega (arith, some, lines_length))) refl turned delivered goes

  -- behind its pause it is asked while the coming line has to wait
  pub delivery_waiting : {T E : Type 0} (r : Result T E) (now begun : List Parked) (turn actor : Option ℕ) (place : ℕ) (M : GhostsOfMapper Mapper) (service : Service) (mapper : Mapper) → length waits ≤ length begun → CanServe V M service mapper waits
      → ((script : List V.semantics.Read) → IsScript known script → option_and_then V.semantics.actor_of (slice_get script issued) ≡ actor) → has_to_wait actor waits ≡ true → unwrap_or turn 0 ≡ place
      → Turned here.turns ((length waits, turn) ∷ []) new.turns → Delivers V.semantics (PutsOr r puts fails) (untold here) (untold new) (lines_parked V waits) place (lines_parked V now)
      → Goes V.semantics (PutsAll puts) known start here s (stand_at here (lines_parked V waits) issued (is_none_parked begun)) → GoesOr r V.semantics (PutsAll puts) (PutsTillLast puts fails) known start new s (stand_at new (lines_parked V now) issued (is_none_parked begun))
  delivery_waiting r now begun turn actor place M service mapper few able comes so at turned delivered goes =
      delivery_more r now (is_none_parked begun) turn place (λ script h. asked_at V M service mapper here begun waits issued actor script few able (comes script h) so) (place_at begun waits actor turn place few so at) turned delivered goes

  -- it names none
  pub pause_more : 0 < length waits → new.state ≡ here.state → new.counts ≡ here.counts → new.written ≡ here.written → Turned here.turns ((length waits, None) ∷ []) new.turns → Goes V.semantics (PutsAll puts) known start here s (stand_at here (lines_parked V waits) issued true)
      → Goes V.semantics (PutsAll puts) known start new s (stand_at new (lines_parked V waits) issued (is_none_parked waits))
  pause_more some state counts written turned goes =
      let t = stand_at here (lines_parked V waits) issued true in
      let u = stand_at new (lines_parked V waits) issued false in
      let none : false ≡ is_none_parked waits = by waits some in
      subst (λ (b : Bool). Goes V.semantics (PutsAll puts) known start new s (stand_at new (lines_parked V waits) issued b)) none
      (goes_then V.semantics puts fails known start here new s t u goes
      (goes_pause V.semantics puts known here new (lines_parked V waits) issued (omega (arith, some, lines_length)) state counts written (subst (λ (n : ℕ). Turned here.turns ((n, None) ∷ []) new.turns) lines_length turned)))
    where
      by : (waits : List Parked) → 0 < length waits → false ≡ is_none_parked waits
      by [] l = absurd (omega (arith, l))
      by (p ∷ ps) l = refl

-- nothing is parked
pub none_more : {Service Mapper Chooser : Type 0} (V : GhostsOfService Service Mapper Chooser) {W : Type 0} (puts : Puts W) (known : Known V.semantics.Read) (start here : Scene V.semantics W) (s : Stand V.semantics) (waits : List Parked) (issued : ℕ) → length waits ≤ 0
    → Goes V.semantics (PutsAll puts) known start here s (stand_at here (lines_parked V waits) issued true) → Goes V.semantics (PutsAll puts) known start here s (stand_at here (lines_parked V waits) issued (is_none_parked waits))
none_more V puts known start here s waits issued none goes =
    let is : true ≡ is_none_parked waits = sym (ap is_none_parked (nothing_parked waits none)) in
    subst (λ (b : Bool). Goes V.semantics (PutsAll puts) known start here s (stand_at here (lines_parked V waits) issued b)) is goes
