-- The accesses that wait, beside the service: what stays so while others are answered.
use Rattle.std.proofs.Common.{◌≡◌, ◌+◌, ◌<◌, ◌≤◌, ℕ, Bool, true, false, List, [], ◌∷◌, length, Option, Some, refl, sym, ap, subst, ◌∙◌, arith}
use Rattle.std.specs.Prelude.{◌||◌, nat_lt, option_and_then, remove, slice_get}
use Rattle.std.specs.List.{AllByRecursion, list_any}
use Rattle.vm_ids.specs.Held.{Held}
use Rattle.vm_ids.specs.declared.access.Parked.{Parked}
use Rattle.vm_model.specs.Answering.{Answer}
use Rattle.vm_model.specs.Events.{is_asked, waits_for, has_to_wait as waits_at}
use Rattle.vm_port.specs.declared.traits.mapper.Mapper.{Ghosts as GhostsOfMapper}
use Rattle.vm_model.proofs.Parts.Pairs.{each_by}
use Rattle.gmi_calls.specs.Parking.{NoPull}
use Rattle.line_service.specs.Going.{Scene, Tries, stand_at}
use Rattle.line_service.specs.Parking.{AreAway, CanServe, IsAway, IsLetIn, actors_of, has_to_wait, is_none_parked, lines_parked}
use Rattle.line_service.specs.Putting.{Puts, PutsAll, PutsTillLast}
use Rattle.line_service.specs.Serving.{AnswersBy, AreDistinct, NoMoreReady, StillAdmits, StillLive}
use Rattle.line_service.specs.declared.service.Service.{Ghosts as GhostsOfService}
use Rattle.line_service.proofs.OneEvent.{step_of}
use Rattle.line_service.proofs.Places.{distinct_without, each_without, map_without, without_length}
use Rattle.line_service.proofs.Trying.{tries_taken}

not_ready : (before now : Bool) → (now ≡ true → before ≡ true) → before ≡ false → now ≡ false
not_ready before false stays away = refl
not_ready before true stays away = let here : before ≡ true = stays refl in absurd (cc)

module _ {Service Mapper Chooser : Type 0} (V : GhostsOfService Service Mapper Chooser) (old new : Service) where
  -- what wasn't ready still isn't
  pub still_away : (waits : List Parked) → NoMoreReady V.ready old new → AreAway V old waits → AreAway V new waits
  still_away waits stays away =
      each_by (IsAway V old) (IsAway V new) (λ p a. not_ready (V.ready old p.actor p.access) (V.ready new p.actor p.access) (stays p.actor p.access) a) waits away

  -- what was let in still is
  pub still_let_in : (held held_now : Option Held) (waits : List Parked) → StillAdmits V.admits old new → StillLive V.lives old held new held_now → AllByRecursion (IsLetIn V old held) waits → AllByRecursion (IsLetIn V new held_now) waits
  still_let_in held held_now waits admits live all =
      each_by (IsLetIn V old held) (IsLetIn V new held_now)
      (λ p h. record { read = h.read; actor = h.actor; admitted = admits (V.access_of p.actor p.access) h.admitted; alive = live p.actor.0 h.alive }) waits all

  -- the same where one of them is taken out
  pub let_in_without : (held held_now : Option Held) (waits left : List Parked) (place : ℕ) → left ≡ remove waits place → StillAdmits V.admits old new → StillLive V.lives old held new held_now → AllByRecursion (IsLetIn V old held) waits → AllByRecursion (IsLetIn V new held_now) left
  let_in_without held held_now waits left place e admits live all =
      subst (λ (ws : List Parked). AllByRecursion (IsLetIn V new held_now) ws) (sym e) (still_let_in held held_now (remove waits place) admits live (each_without (IsLetIn V old held) waits place all))

pub apart_without : (waits left : List Parked) (place : ℕ) → left ≡ remove waits place → AreDistinct (actors_of waits) → AreDistinct (actors_of left)
apart_without waits left place e apart =
    let actor = λ (p : Parked). p.actor.0 in
    subst AreDistinct (sym (ap actors_of e ∙ map_without actor waits place)) (distinct_without (actors_of waits) place apart)

-- one of so many is taken out, and more may come
pub fewer : {X : Type 0} (P : ℕ → Type 0) (waits left : List X) (place more : ℕ) → place < length waits → left ≡ remove waits place → P (length waits + more) → P ((length left + more) + 1)
fewer P waits left place more l e h =
    let count : length left + 1 ≡ length waits = ap (λ (ws : List _). length ws + 1) e ∙ without_length waits place l in
    let same : length waits + more ≡ (length left + more) + 1 = omega (arith, count) in
    subst P same h

module _ {Service Mapper Chooser W : Type 0} (V : GhostsOfService Service Mapper Chooser) (puts fails : Puts W) (a b : Scene V.semantics W) (waits : List Parked) (place : ℕ) (p q r : Parked) (is : slice_get waits place ≡ Some p) (seen : Some q ≡ slice_get waits place) (out : slice_get waits place ≡ Some r) (answer : Answer)
    (m : AnswersBy V.semantics NoPull a.counts b.counts a.state (V.access_of q.actor q.access) answer b.state) where
  same_seen : q ≡ p
  same_seen = let e : Some q ≡ Some p = seen ∙ is in cc

  same_out : r ≡ p
  same_out = let e : Some r ≡ Some p = sym out ∙ is in cc

  step_is : V.semantics.StepIs a.state (V.access_of p.actor p.access) answer m.rises b.state
  step_is = subst (λ (x : Parked). V.semantics.StepIs a.state (V.access_of x.actor x.access) answer m.rises b.state) same_seen m.is

  -- the access at a place is answered
  pub tried_put : puts a.written r.line answer b.written → Tries V.semantics (PutsAll puts) a b (lines_parked V (p ∷ [])) []
  tried_put put =
      tries_taken V.semantics (PutsAll puts) a b p.line (V.access_of p.actor p.access) answer m.rises step_is m.so m.rose
      (b.written, subst (λ (x : Parked). puts a.written x.line answer b.written) same_out put, refl)

  pub tried_failed : fails a.written r.line answer b.written → Tries V.semantics (PutsTillLast puts fails) a b (lines_parked V (p ∷ [])) []
  tried_failed failed =
      tries_taken V.semantics (PutsTillLast puts fails) a b p.line (V.access_of p.actor p.access) answer m.rises step_is m.so m.rose
      (record { front = []; last = step_of p.line (V.access_of p.actor p.access) answer m.rises; parts = refl; between = a.written; put = refl; failed = subst (λ (x : Parked). fails a.written x.line answer b.written) same_out failed })

pub nothing_parked : (waits : List Parked) → length waits ≤ 0 → waits ≡ []
nothing_parked [] e = refl
nothing_parked (p ∷ waits) e = absurd (omega (arith, e))

module _ {Service Mapper Chooser : Type 0} (V : GhostsOfService Service Mapper Chooser) where
  -- what it takes to serve, with one access taken out
  pub serves_without : (M : GhostsOfMapper Mapper) (old new : Service) (mapper now : Mapper) (waits left : List Parked) (place : ℕ) → left ≡ remove waits place → V.able new (M.held now) (M.page_bytes now) → StillAdmits V.admits old new → StillLive V.lives old (M.held mapper) new (M.held now) → CanServe V M old mapper waits → CanServe V M new now left
  serves_without M old new mapper now waits left place e able admits live h = record {
    able = able;
    let_in = let_in_without V old new (M.held mapper) (M.held now) waits left place e admits live h.let_in;
    apart = apart_without waits left place e h.apart;
  }

  pub away_without : (old new : Service) (waits left : List Parked) (place : ℕ) → left ≡ remove waits place → NoMoreReady V.ready old new → AreAway V old waits → AreAway V new left
  away_without old new waits left place e stays away =
      subst (λ (ws : List Parked). AreAway V new ws) (sym e) (each_without (IsAway V new) waits place (still_away V old new waits stays away))

  -- a try, and a delivery: whether one has to wait
  waits_same : (held : Option Held) (service : Service) (actor : Option ℕ) (waits : List Parked) → AllByRecursion (IsLetIn V service held) waits → list_any (λ (q : ℕ × V.semantics.Read). waits_for actor (V.semantics.actor_of q.1)) (lines_parked V waits) ≡ has_to_wait actor waits
  waits_same held service actor [] h = refl
  waits_same held service actor (p ∷ waits) h =
      let rest = list_any (λ (q : ℕ × V.semantics.Read). waits_for actor (V.semantics.actor_of q.1)) (lines_parked V waits) in
      ap (λ (a : Option ℕ). waits_for actor a || rest) h.0.actor ∙ ap (λ (b : Bool). waits_for actor (Some p.actor.0) || b) (waits_same held service actor waits h.1)

  -- whether the dispatcher is asked behind its pause, where so much is known of the coming line
  module _ (M : GhostsOfMapper Mapper) {W : Type 0} (service : Service) (mapper : Mapper) (b : Scene V.semantics W) (start waits : List Parked) (issued : ℕ) (actor : Option ℕ) (script : List V.semantics.Read) (fewer : length waits ≤ length start) (h : CanServe V M service mapper waits)
      (comes : option_and_then V.semantics.actor_of (slice_get script issued) ≡ actor) where
    behind : waits_at V.semantics script (stand_at b (lines_parked V waits) issued false) ≡ has_to_wait actor waits
    behind =
        ap (λ (a : Option ℕ). list_any (λ (q : ℕ × V.semantics.Read). waits_for a (V.semantics.actor_of q.1)) (lines_parked V waits)) comes
        ∙ waits_same (M.held mapper) service actor waits h.let_in

    pub asked_at : has_to_wait actor waits ≡ true → is_asked V.semantics script (stand_at b (lines_parked V waits) issued (is_none_parked start)) ≡ true
    asked_at so = by start fewer
      where
        by : (start : List Parked) → length waits ≤ length start → is_asked V.semantics script (stand_at b (lines_parked V waits) issued (is_none_parked start)) ≡ true
        by [] few = let none : has_to_wait actor waits ≡ false = ap (has_to_wait actor) (nothing_parked waits few) in absurd (cc)
        by (p ∷ ps) few = behind ∙ so

    pub free_at : has_to_wait actor waits ≡ false → is_asked V.semantics script (stand_at b (lines_parked V waits) issued (is_none_parked start)) ≡ false
    free_at so = by start fewer
      where
        by : (start : List Parked) → length waits ≤ length start → is_asked V.semantics script (stand_at b (lines_parked V waits) issued (is_none_parked start)) ≡ false
        by [] few = ap (λ (ws : List Parked). nat_lt 0 (length (lines_parked V ws))) (nothing_parked waits few)
        by (p ∷ ps) few = behind ∙ so
