-- A region is mapped: how the machine below answers that, and what is seen of it then.
use Rattle.std.proofs.Common.{◌≡◌, inl, inr, ◌==◌, ℕ, ◌+◌, ◌-◌, ◌≤◌, Bool, false, List, set, Option, Some, None, refl, sym, ap, subst, ◌∙◌, arith}
use Rattle.std.specs.Prelude.{◌||◌, Ok, Err, nat_lt, not, option_and_then, slice_get}
use Rattle.std.specs.Option.{option_map_or}
use Rattle.std.proofs.lemmas.Bool.{cases_eq, eq-eqb, ne_eqb}
use Rattle.vm_ids.specs.declared.command.Command.TheVariants.{Map}
use Rattle.vm_ids.specs.declared.reply.Reply.TheVariants as replies
use Rattle.vm_ids.specs.declared.reply.Trouble.TheVariants as troubles
use Rattle.vm_model.specs.Answering as plain
use Rattle.vm_model.specs.Outcome as plain_outcome
use Rattle.vm_model.proofs.Parts.ListParts.{at_some}
use Rattle.vm_model.proofs.Parts.Lists.{numbered_place}
use Rattle.interface_callers.proofs.Words.{Actor, ActorId, Answer, Cache, IsAlike, Machine, MapperCounts, Mapping, OutcomeAt, PageForest, Refusal, Reply, Segments, Trouble, add_region, cache_of, insert_region, is_mapped, region_of}
use Rattle.interface_callers.proofs.Answers.{alike_err}
use Rattle.interface_callers.proofs.Hiding.{map_lifts}
use Rattle.interface_callers.proofs.Rows.{map_row}
use Rattle.interface_callers.proofs.Mapped.{maps_then}
use Rattle.seg_manager.specs.Inner.{mapping_shown}
use Rattle.seg_manager.specs.ReferenceMachine.{goes, used}
use Rattle.seg_manager.specs.Seen.{is_kept}
use Rattle.seg_manager.specs.declared.tables.Kept.{Kept}
use Rattle.seg_manager.proofs.Seeing.ReferenceComes.{GoAlike, used_all}
use Rattle.seg_manager.proofs.Seeing.View.{is_hidden, mapped_stays, references, view}
use Rattle.seg_manager.proofs.Calling.PassedOn.{IsAnswered, IsHiding, IsQuiet, quiet_self, resumed, shown_visible, storing}
use Rattle.seg_manager.proofs.Seeing.SameSegments.{stored_alike}

-- The row

module _ (openings : ℕ → ℕ) (x : Machine) where
  module _ (actor : ℕ) (p : Mapping) (stays : is_hidden openings x p.extent.cache.0 ≡ false) where
    abbrev k : ℕ
    k = p.extent.cache.0

    module _ (rs : Actor) (here : slice_get x.actors (actor - 1) ≡ Some (Some rs)) where
      abbrev y : Machine
      y = add_region x actor rs p

      mapped : (q : ℕ) → is_mapped y q ≡ ((k == q) || is_mapped x q)
      mapped q = maps_then x.actors (actor - 1) rs (region_of (x.regions_made + 1) p) here q

      -- the same caches go
      alike : GoAlike (references openings x) (references openings y) 1 x.caches
      alike j d there = elim (cases_eq k (1 + j)) [
        | inl is ↦ mapped_stays openings y (1 + j) d.segment (mapped (1 + j) ∙ ap (λ (b : Bool). b || is_mapped x (1 + j)) (eq-eqb k (1 + j) is)) ∙ sym (stays_there is)
        | inr other ↦ (λ i. option_map_or (λ seg. not (nat_lt 0 (openings seg) || (mapped (1 + j) ∙ ap (λ (b : Bool). b || is_mapped x (1 + j)) (ne_eqb k (1 + j) other)) i)) d.segment false)
      ]
        where
          at : cache_of x (1 + j) ≡ Some d
          at = at_some x.caches (1 + j) (omega arith) ∙ ap (option_and_then (λ (c : Option Cache). c)) (ap (slice_get x.caches) (let s : 1 + j - 1 ≡ j = omega arith in s) ∙ there)

          stays_there : k ≡ 1 + j → goes (references openings x) (1 + j) d ≡ false
          stays_there is = sym (ap (λ (o : Option Cache). option_map_or (goes (references openings x) (1 + j)) o false) at) ∙ ap (is_hidden openings x) (sym is) ∙ stays

      pub adds : used (references openings y) 1 x.caches ≡ used (references openings x) 1 x.caches
      adds = used_all (references openings x) (references openings y) 1 x.caches alike

      pub quiet_then : IsQuiet openings x y
      quiet_then = record { segments = refl; stored = λ st. stored_alike (storing openings x st) (storing openings y st) 1 x.caches refl alike }

    map_quiet : IsQuiet openings x (plain.map_of x actor p).next
    map_quiet = map_row (λ (a : plain.Answered). IsQuiet openings x a.next) x (λ r. quiet_self openings x) actor p (λ rs c here there. quiet_then rs (numbered_place x.actors actor rs here).1)

  pub map_answered : (ks : List Kept) → IsHiding openings x ks → (actor : ActorId) (p : Mapping) → IsAnswered openings x (Map actor (mapping_shown ks p)) (Map actor p)
  map_answered ks hiding actor p = record {
    answers = λ f h st. ap (resumed openings st)
        (map_lifts (view openings) (is_kept ks p.extent.cache.0) x actor.0 p (sym (hiding p.extent.cache.0)) (shown_visible openings x ks hiding p.extent.cache)
        (λ rs here. adds actor.0 (mapping_shown ks p) (shown_visible openings x ks hiding p.extent.cache) rs here));
    quiet = λ f h. map_quiet actor.0 (mapping_shown ks p) (shown_visible openings x ks hiding p.extent.cache);
    faults = λ f h at rises st may. absurd may;
    lacks = λ may. may;
    may_have = λ st. tt;
    goes_on = λ at a g. g;
    wanted = λ a g. tt;
  }

-- Which region there is more

-- This region is, of that actor.
pub record IsAdded (x y : Machine) (actor : ℕ) (p : Mapping) (r : Reply) : Type 0 where
  pub regions : Actor
  pub number : ℕ
  pub some : 1 ≤ actor
  pub here : slice_get x.actors (actor - 1) ≡ Some (Some regions)
  pub actors : y.actors ≡ set x.actors (actor - 1) (Some (insert_region (region_of number p) regions))
  pub reply : r ≡ replies.Region (record { 0 = number })

added_row : (x : Machine) (actor : ℕ) (p : Mapping) (r : Reply) (y : Machine) → plain.map_of x actor p ≡ record { answer = Ok r; next = y } → IsAdded x y actor p r
added_row x actor p r y =
    map_row Adds x refused actor p (λ rs c here there is. record {
      regions = rs;
      number = x.regions_made + 1;
      some = (numbered_place x.actors actor rs here).0;
      here = (numbered_place x.actors actor rs here).1;
      actors = ap (λ (a : plain.Answered). a.next.actors) (sym is);
      reply = (let both : Ok r ≡ Ok (replies.Region (record { 0 = x.regions_made + 1 })) = sym (ap (λ (a : plain.Answered). a.answer) is) in cc both);
    })
  where
    Adds : plain.Answered → Type 0
    Adds a = a ≡ record { answer = Ok r; next = y } → IsAdded x y actor p r

    refused : (t : Refusal) → Adds (plain.refuse x t)
    refused t e = absurd (let wrong : Err (troubles.Refused t) ≡ Ok r = ap (λ (a : plain.Answered). a.answer) e in cc wrong)

added_alike : (x y : Machine) (f : Option PageForest) (h : Segments) (actor : ActorId) (p : Mapping) (a : Answer) (r : Reply) (rises : MapperCounts) → plain_outcome.Outcome x f (Map actor p) h a y rises → IsAlike a (Ok r) → IsAdded x y actor.0 p r
added_alike x y f h actor p (Ok s) r rises o alike =
    let it = added_row x actor.0 p s y o in
    let same : Ok (replies.Region (record { 0 = it.number })) ≡ Ok r = subst (λ (b : Reply). IsAlike (Ok b) (Ok r)) it.reply alike in
    record { regions = it.regions; number = it.number; some = it.some; here = it.here; actors = it.actors; reply = (let e : replies.Region (record { 0 = it.number }) ≡ r = cc same in sym e) }
added_alike x y f h actor p (Err t) r rises o alike = absurd (cc alike)

pub map_added : (told : Option Segments) (x y : Machine) (f : Option PageForest) (actor : ActorId) (p : Mapping) (r : Reply) (rises : MapperCounts) → OutcomeAt told x f (Map actor p) (Ok r) y rises → IsAdded x y actor.0 p r
map_added (Some h) x y f actor p r rises o = added_row x actor.0 p r y o
map_added None x y f actor p r rises o =
    let it = added_alike o.whole o.whole_next f o.segments actor p o.whole_answer r rises o.outcome o.alike in record {
      regions = it.regions;
      number = it.number;
      some = it.some;
      here = ap (λ (z : Machine). slice_get z.actors (actor.0 - 1)) o.is ∙ it.here;
      actors = ap (λ (z : Machine). z.actors) o.is_next ∙ it.actors ∙ ap (λ (z : Machine). set z.actors (actor.0 - 1) (Some (insert_region (region_of it.number p) it.regions))) (sym o.is);
      reply = it.reply;
    }

-- or all are as they were
same_row : (x : Machine) (actor : ℕ) (p : Mapping) (t : Trouble) (y : Machine) → plain.map_of x actor p ≡ record { answer = Err t; next = y } → y.actors ≡ x.actors
same_row x actor p t y =
    map_row Same x refused actor p (λ rs c here there is.
    absurd (let wrong : Ok (replies.Region (record { 0 = x.regions_made + 1 })) ≡ Err t = ap (λ (a : plain.Answered). a.answer) is in cc wrong))
  where
    Same : plain.Answered → Type 0
    Same a = a ≡ record { answer = Err t; next = y } → y.actors ≡ x.actors

    refused : (r : Refusal) → Same (plain.refuse x r)
    refused r e = ap (λ (a : plain.Answered). a.next.actors) (sym e)

same_outcome : (x y : Machine) (f : Option PageForest) (h : Segments) (actor : ActorId) (p : Mapping) (t : Trouble) (rises : MapperCounts) → plain_outcome.Outcome x f (Map actor p) h (Err t) y rises → y.actors ≡ x.actors
same_outcome x y f h actor p (troubles.Refused r) rises o = same_row x actor.0 p (troubles.Refused r) y o
same_outcome x y f h actor p (troubles.Mapper at) rises o = ap (λ (z : Machine). z.actors) o.0
same_outcome x y f h actor p troubles.Memory rises o = ap (λ (z : Machine). z.actors) o.0

pub map_same : (told : Option Segments) (x y : Machine) (f : Option PageForest) (actor : ActorId) (p : Mapping) (t : Trouble) (rises : MapperCounts) → OutcomeAt told x f (Map actor p) (Err t) y rises → y.actors ≡ x.actors
map_same (Some h) x y f actor p t rises o = same_outcome x y f h actor p t rises o
map_same None x y f actor p t rises o =
    ap (λ (z : Machine). z.actors) o.is_next
    ∙ same_outcome o.whole o.whole_next f o.segments actor p t rises (subst (λ (a : Answer). plain_outcome.Outcome o.whole f (Map actor p) o.segments a o.whole_next rises) (alike_err t o.whole_answer o.alike) o.outcome)
    ∙ ap (λ (z : Machine). z.actors) (sym o.is)
