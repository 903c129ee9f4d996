-- An actor sees a page as it did, where the regions of that actor or of another changed.
use Rattle.std.proofs.Common.{◌≡◌, ◌≢◌, ◌==◌, ℕ, ◌-◌, ◌*◌, false, List, [], ◌∷◌, ◌++◌, map, set, Option, Some, None, sym, ap, subst, ◌∙◌, inl, inr, arith}
use Rattle.std.specs.Prelude.{◌⊎◌, option_map}
use Rattle.std.specs.List.{list_any}
use Rattle.std.proofs.lemmas.Bool.{cases_eq}
use Rattle.vm_ids.specs.declared.command.Mapping.{Mapping}
use Rattle.vm_ids.specs.declared.reply.RegionStatus.{RegionStatus}
use Rattle.vm_model.specs.Answering.{insert_region, overlaps, without_region}
use Rattle.vm_model.specs.Machine.{Actor, Region, numbered}
use Rattle.vm_model.specs.Place.{region_at}
use Rattle.vm_model.specs.Regions.{replace_in, replace_region}
use Rattle.vm_model.proofs.Machines.Sound.{numbered-push}
use Rattle.vm_model.proofs.Parts.Lists.{numbered-map, numbered-other, numbered-set, numbered_place}
use Rattle.contexts.specs.Actors.{Actors, next_region, with_region}
use Rattle.contexts.proofs.Told.{IsTold, told_actor}
use Rattle.page_tables.specs.declared.entry.Entry.{Entry}
use Rattle.pvm_core.proofs.Translating.Places.{StaysAt, StaysFor, stays_same}
use Rattle.pvm_core.proofs.Translating.Regions.{Becomes, gone_stays, inserted_stays, replaced_stays}

module _ (t : Actors) (e : Entry) (rs : Actor) (here : numbered t.actors e.actor.0 ≡ Some rs) where
  abbrev first : ℕ
  first = e.page * t.page_bytes

  -- another actor was made
  pub stays_made : (u : Actors) → u.actors ≡ t.actors ++ Some [] ∷ [] → StaysFor t u e rs
  stays_made u more = record {
    regions = rs;
    here = ap (λ (xs : List (Option Actor)). numbered xs e.actor.0) more ∙ numbered-push t.actors (Some []) e.actor.0 rs here;
    stays = stays_same t.page_bytes first e.to.writable rs;
  }

  -- one actor has other regions, which show what its regions showed
  pub stays_put : (u : Actors) (actor : ℕ) (old new : Actor) → numbered t.actors actor ≡ Some old → u.actors ≡ set t.actors (actor - 1) (Some new)
      → (e.actor.0 ≡ actor → StaysAt t.page_bytes first e.to.writable old new) → StaysFor t u e rs
  stays_put u actor old new there put own = elim (cases_eq e.actor.0 actor) [
    | inr other ↦ record {
      regions = rs;
      here = ap (λ (xs : List (Option Actor)). numbered xs e.actor.0) put ∙ numbered-other t.actors actor e.actor.0 (Some new) rs (numbered_place t.actors actor old there).0 other here;
      stays = stays_same t.page_bytes first e.to.writable rs;
    }
    | inl same ↦ go (numbered-set t.actors actor e.actor.0 old new rs there here) same
  ]
    where
      go : (numbered (set t.actors (actor - 1) (Some new)) e.actor.0 ≡ Some rs) ⊎ ((rs ≡ old) × (numbered (set t.actors (actor - 1) (Some new)) e.actor.0 ≡ Some new)) → e.actor.0 ≡ actor → StaysFor t u e rs
      go (inl left) same = record {
        regions = rs;
        here = ap (λ (xs : List (Option Actor)). numbered xs e.actor.0) put ∙ left;
        stays = stays_same t.page_bytes first e.to.writable rs;
      }
      go (inr n) same = record {
        regions = new;
        here = ap (λ (xs : List (Option Actor)). numbered xs e.actor.0) put ∙ n.1;
        stays = subst (λ (ys : Actor). StaysAt t.page_bytes first e.to.writable ys new) (sym n.0) (own same);
      }

  -- a region was mapped, which shares no address with the others of its actor
  pub stays_mapped : (u : Actors) (actor : ℕ) (p : Mapping) (old : Actor) → numbered t.actors actor ≡ Some old → list_any (overlaps t.page_bytes p.address p.extent.pages) old ≡ false
      → u ≡ with_region t actor p → StaysFor t u e rs
  stays_mapped u actor p old there apart is =
      stays_put u actor old (insert_region (next_region t p) old) there
      (ap (λ (w : Actors). w.actors) is ∙ ap (λ (o : Option Actor). set t.actors (actor - 1) (option_map (insert_region (next_region t p)) o)) there)
      (λ _. inserted_stays t.page_bytes first e.to.writable (next_region t p) old apart)

  -- the region of which this is told became others
  pub stays_replaced : (u : Actors) (n : ℕ) (by : Region → List Region) (s : RegionStatus) (told : IsTold n 1 t.actors s) → u.actors ≡ replace_in n by t.actors
      → (e.actor.0 ≡ s.actor.0 → Becomes t.page_bytes first e.to.writable told.region (by told.region)) → StaysFor t u e rs
  stays_replaced u n by s told is new =
      let place : s.actor.0 - 1 ≡ told.place = (let at = ap (λ (w : RegionStatus). w.actor.0) told.told in omega (arith, at)) in
      stays_put u s.actor.0 told.regions (replace_region n by told.regions) (told_actor n t.actors s told)
      (is ∙ told.becomes by ∙ ap (λ (k : ℕ). set t.actors k (Some (replace_region n by told.regions))) (sym place))
      (λ own. replaced_stays t.page_bytes first e.to.writable n by told.region told.regions told.there (new own))

  -- the regions with a number went, none of which showed this page
  pub stays_unmapped : (u : Actors) (n : ℕ) → u.actors ≡ map (option_map (without_region n)) t.actors
      → ((r : Region) → region_at t.page_bytes first rs ≡ Some r → (r.number == n) ≡ false) → StaysFor t u e rs
  stays_unmapped u n is other = record {
    regions = without_region n rs;
    here = ap (λ (xs : List (Option Actor)). numbered xs e.actor.0) is ∙ numbered-map (without_region n) t.actors e.actor.0 ∙ ap (option_map (without_region n)) here;
    stays = gone_stays t.page_bytes first e.to.writable n rs other;
  }

  -- another actor ended
  pub stays_ended : (u : Actors) (actor : ℕ) (old : Actor) → numbered t.actors actor ≡ Some old → e.actor.0 ≢ actor → u.actors ≡ set t.actors (actor - 1) None → StaysFor t u e rs
  stays_ended u actor old there other is = record {
    regions = rs;
    here = ap (λ (xs : List (Option Actor)). numbered xs e.actor.0) is ∙ numbered-other t.actors actor e.actor.0 None rs (numbered_place t.actors actor old there).0 other here;
    stays = stays_same t.page_bytes first e.to.writable rs;
  }
