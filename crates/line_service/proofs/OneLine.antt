-- One line more, answered or parked.
use Rattle.std.proofs.Common.{◌≡◌, ◌≢◌, ◌+◌, ◌<◌, ◌≤◌, ◌==◌, ℕ, Bool, true, false, List, [], ◌∷◌, ◌++◌, length, Option, None, Some, Result, Ok, Err, refl, sym, ap, subst, ◌∙◌, arith}
use Rattle.std.specs.Prelude.{◌||◌, IsSome, OnErr, OnOk, option_and_then, slice_get}
use Rattle.std.specs.List.{AllByRecursion}
use Rattle.std.proofs.lemmas.Bool.{eqb-false}
use Rattle.std.proofs.lemmas.List.{length-append, length-map, map-append}
use Rattle.vm_ids.specs.Counting.{MapperCounts}
use Rattle.vm_ids.specs.Held.{Held}
use Rattle.vm_ids.specs.declared.access.Parked.{Parked}
use Rattle.vm_model.specs.Answering.{Answer}
use Rattle.vm_model.specs.Events.{Stand, is_asked}
use Rattle.vm_model.proofs.Parts.Pairs.{each_append}
use Rattle.vm_port.specs.declared.traits.mapper.Mapper.{Ghosts as GhostsOfMapper}
use Rattle.line_service.specs.Going.{Goes, GoesOr, IsScript, Known, Scene, stand_at}
use Rattle.line_service.specs.Parking.{AreAway, CanServe, IsAway, IsLetIn, actors_of, has_to_wait, is_none_parked, lines_parked}
use Rattle.line_service.specs.Putting.{Puts, PutsAll, PutsOr, PutsTillLast}
use Rattle.line_service.specs.Serving.{AnswersBy, AreDistinct, NoMoreReady, StillAdmits, StillLive, Waits}
use Rattle.line_service.specs.declared.service.Service.{Ghosts as GhostsOfService}
use Rattle.line_service.proofs.Going.{goes_or, goes_then}
use Rattle.line_service.proofs.OneEvent.{goes_as, goes_line, goes_park, puts_one, step_of}
use Rattle.line_service.proofs.Parking.{free_at, still_away, still_let_in}
use Rattle.line_service.proofs.Places.{distinct_more}

pub ok_so : {T E : Type 0} (r : Result T E) (P : Type 0) → P → OnOk r P
ok_so (Ok x) P p = p
ok_so (Err e) P p = tt

pub is_access : (actor : Option ℕ) (a : ℕ) → actor ≡ Some a → IsSome actor
is_access None a e = absurd (cc e)
is_access (Some b) a e = refl

pub no_access : (actor : Option ℕ) → actor ≡ None → IsSome actor → ⊥
no_access None e some = cc some
no_access (Some a) e some = cc e

pub moved : (P : ℕ → Type 0) (n m : ℕ) → P (n + (m + 1)) → P ((n + m) + 1)
moved P n m h = let same : n + (m + 1) ≡ (n + m) + 1 = omega arith in subst P same h

or_false : (a b : Bool) → (a || b) ≡ false → (a ≡ false) × (b ≡ false)
or_false true b e = absurd (cc e)
or_false false b e = (refl, e)

-- where nothing else may be parked, nothing is
pub none_waits : (waits : List Parked) → has_to_wait None waits ≡ false → waits ≡ []
none_waits [] e = refl
none_waits (p ∷ waits) e = absurd (cc e)

others_apart : (actor : ℕ) (waits : List Parked) → has_to_wait (Some actor) waits ≡ false → AllByRecursion (λ other. other ≢ actor) (actors_of waits)
others_apart actor [] e = tt
others_apart actor (p ∷ waits) e =
    let both = or_false (p.actor.0 == actor) (has_to_wait (Some actor) waits) e in
    (eqb-false p.actor.0 actor both.0, others_apart actor waits both.1)

module _ {Service Mapper Chooser : Type 0} (V : GhostsOfService Service Mapper Chooser) (M : GhostsOfMapper Mapper) where
  -- what it takes to serve, while nothing changes in what is parked
  pub serves_still : (old new : Service) (mapper now : Mapper) (waits : List Parked) → V.able new (M.held now) (M.page_bytes now) → StillAdmits V.admits old new → StillLive V.lives old (M.held mapper) new (M.held now) → CanServe V M old mapper waits → CanServe V M new now waits
  serves_still old new mapper now waits able admits live h = record {
    able = able;
    let_in = still_let_in V old new (M.held mapper) (M.held now) waits admits live h.let_in;
    apart = h.apart;
  }

  -- while nothing is parked
  pub serves_none : (service : Service) (mapper : Mapper) (waits : List Parked) → waits ≡ [] → V.able service (M.held mapper) (M.page_bytes mapper) → CanServe V M service mapper waits
  serves_none service mapper waits none able = subst (λ (ws : List Parked). CanServe V M service mapper ws) (sym none) (record { able = able; let_in = tt; apart = tt })

  pub away_none : (service : Service) (waits : List Parked) → waits ≡ [] → AreAway V service waits
  away_none service waits none = subst (λ (ws : List Parked). AreAway V service ws) (sym none) tt

  module _ (service : Service) (mapper : Mapper) (waits : List Parked) (p : Parked) (free : has_to_wait (Some p.actor.0) waits ≡ false) (h : CanServe V M service mapper waits) (it : IsLetIn V service (M.held mapper) p) where
    more_apart : AreDistinct (actors_of waits ++ p.actor.0 ∷ [])
    more_apart = distinct_more (actors_of waits) p.actor.0 (others_apart p.actor.0 waits free) h.apart

    -- with one parked more
    pub serves_more : (now : List Parked) → now ≡ waits ++ p ∷ [] → CanServe V M service mapper now
    serves_more now e =
        let actor = λ (x : Parked). x.actor.0 in
        subst (λ (ws : List Parked). CanServe V M service mapper ws) (sym e) (record {
          able = h.able;
          let_in = each_append (IsLetIn V service (M.held mapper)) waits (p ∷ []) h.let_in (it, tt);
          apart = subst AreDistinct (sym (map-append actor waits (p ∷ []))) more_apart;
        })

    all_live : AllByRecursion (V.lives service (M.held mapper)) (actors_of waits ++ p.actor.0 ∷ [])
    all_live = each_append (V.lives service (M.held mapper)) (actors_of waits) (p.actor.0 ∷ []) (by waits h.let_in) (it.alive, tt)
      where
        by : (waits : List Parked) → AllByRecursion (IsLetIn V service (M.held mapper)) waits → AllByRecursion (V.lives service (M.held mapper)) (actors_of waits)
        by [] all = tt
        by (x ∷ waits) all = (all.0.alive, by waits all.1)

    -- there is room for it
    pub room_for : ((v : Service) (held : Option Held) (page_bytes : Option ℕ) (actors : List ℕ) → V.able v held page_bytes → AreDistinct actors → AllByRecursion (V.lives v held) actors → length actors ≤ 256) → length waits < 256
    room_for few =
        let most = few service (M.held mapper) (M.page_bytes mapper) (actors_of waits ++ p.actor.0 ∷ []) h.able more_apart all_live in
        let count = length-append (actors_of waits) (p.actor.0 ∷ []) in
        let same = length-map waits (λ (x : Parked). x.actor.0) in
        omega (arith, most, count, same)

  -- none of them is ready
  pub away_more : (old new : Service) (waits now : List Parked) (p : Parked) → now ≡ waits ++ p ∷ [] → NoMoreReady V.ready old new → AreAway V old waits → IsAway V old p → AreAway V new now
  away_more old new waits now p e stays away here =
      subst (λ (ws : List Parked). AreAway V new ws) (sym e) (still_away V old new (waits ++ p ∷ []) stays (each_append (IsAway V old) waits (p ∷ []) away (here, tt)))

  module _ {W : Type 0} (puts fails : Puts W) (known : Known V.semantics.Read) (start here new : Scene V.semantics W) (s : Stand V.semantics) (begun waits : List Parked) (issued : ℕ) (actor : Option ℕ) (service : Service) (mapper : Mapper) (few : length waits ≤ length begun) (able : CanServe V M service mapper waits) (free : has_to_wait actor waits ≡ false)
      (read : V.semantics.Read) (is : V.semantics.actor_of read ≡ actor) (comes : (script : List V.semantics.Read) → IsScript known script → slice_get script issued ≡ Some read) (goes : Goes V.semantics (PutsAll puts) known start here s (stand_at here (lines_parked V waits) issued (is_none_parked begun))) where
    free_is : (script : List V.semantics.Read) → IsScript known script → is_asked V.semantics script (stand_at here (lines_parked V waits) issued (is_none_parked begun)) ≡ false
    free_is script h = free_at V M service mapper here begun waits issued actor script few able (ap (option_and_then V.semantics.actor_of) (comes script h) ∙ is) free

    -- it is answered
    pub line_put : {T E : Type 0} (r : Result T E) (P : MapperCounts → Type 0) (answer : Answer) (m : AnswersBy V.semantics P here.counts new.counts here.state read answer new.state) → (IsSome (V.semantics.actor_of read) → m.rises.pulls ≡ 0) → new.turns ≡ here.turns → (number : ℕ) → number ≡ issued + 1
        → OnOk r (puts here.written number answer new.written) → OnErr r (fails here.written number answer new.written) → GoesOr r V.semantics (PutsAll puts) (PutsTillLast puts fails) known start new s (stand_at new (lines_parked V waits) (issued + 1) true)
    line_put r P answer m no_pull turns number e put failed =
        let t = stand_at here (lines_parked V waits) issued (is_none_parked begun) in
        let u = stand_at new (lines_parked V waits) (issued + 1) true in
        goes_or V.semantics puts fails known r start here new s t u goes
        (goes_as V.semantics r puts fails known here new t u refl
        (goes_line V.semantics (PutsOr r puts fails) known here new (lines_parked V waits) issued (is_none_parked begun) read answer m.rises free_is comes m.is no_pull m.rose turns
        (puts_one r puts fails here.written (step_of (issued + 1) read answer m.rises) new.written
        (subst (λ (n : ℕ). OnOk r (puts here.written n answer new.written)) e put) (subst (λ (n : ℕ). OnErr r (fails here.written n answer new.written)) e failed))))

    -- it is parked
    pub line_parked : (p : Parked) (now : List Parked) → now ≡ waits ++ p ∷ [] → p.line ≡ issued + 1 → V.access_of p.actor p.access ≡ read → IsSome (V.semantics.actor_of read) → Waits V.semantics here.counts new.counts here.state read new.state → new.turns ≡ here.turns → new.written ≡ here.written
        → Goes V.semantics (PutsAll puts) known start new s (stand_at new (lines_parked V now) (issued + 1) true)
    line_parked p now e number same access waiting turns written =
        let line_of : Parked → ℕ × V.semantics.Read = λ x. (x.line, V.access_of x.actor x.access) in
        let t = stand_at here (lines_parked V waits) issued (is_none_parked begun) in
        let pair : ℕ → V.semantics.Read → ℕ × V.semantics.Read = λ n x. (n, x) in
        let line_is : pair (issued + 1) read ≡ line_of p = sym (ap (λ (n : ℕ). pair n (V.access_of p.actor p.access)) number ∙ ap (pair (issued + 1)) same) in
        let lines : lines_parked V waits ++ (issued + 1, read) ∷ [] ≡ lines_parked V now =
        ap (λ (l : ℕ × V.semantics.Read). lines_parked V waits ++ l ∷ []) line_is
        ∙ sym (map-append line_of waits (p ∷ [])) ∙ ap (lines_parked V) (sym e) in
        subst (λ (l : List (ℕ × V.semantics.Read)). Goes V.semantics (PutsAll puts) known start new s (stand_at new l (issued + 1) true)) lines
        (goes_then V.semantics puts fails known start here new s t (stand_at new (lines_parked V waits ++ (issued + 1, read) ∷ []) (issued + 1) true) goes
        (goes_park V.semantics (PutsAll puts) known here new (lines_parked V waits) issued (is_none_parked begun) read free_is comes access waiting turns written))
