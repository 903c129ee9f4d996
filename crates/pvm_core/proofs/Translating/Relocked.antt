-- Translations stay right where a region is locked, or isn't any more.
use Rattle.std.proofs.Common.{◌≡◌, ℕ, zero, suc, ◌+◌, ◌-◌, ◌*◌, ◌%◌, ◌==◌, Bool, true, false, cond, List, [], ◌∷◌, Option, Some, None, option_map, slice_get, is_some, refl, sym, ap, subst, ◌∙◌}
use Rattle.std.specs.Prelude.{Result, Ok, Err, nat_lt, option_and_then}
use Rattle.vm_ids.specs.declared.refusal.Refusal.{Refusal}
use Rattle.vm_ids.specs.declared.refusal.Refusal.TheVariants.{Crosses}
use Rattle.local_cache.specs.Arena.{Arena}
use Rattle.residency.specs.declared.store.Store.{Store}
use Rattle.residency.specs.Seeing.{IsAlone, seen_in}
use Rattle.page_commands.specs.Homes.{IsWritable}
use Rattle.vm_model.specs.Machine.{Actor, Region, numbered}
use Rattle.vm_model.specs.Place.{Place, holds, place_in, place_of_actor, placed, region_at}
use Rattle.vm_model.specs.Regions.{region_among, replace_in, replace_region, with_lock}
use Rattle.contexts.specs.Actors.{Actors}
use Rattle.contexts.proofs.RegionRows.{with_locked}
use Rattle.pvm_core.specs.Translated.{AreTranslationsRight, name_at}

-- the region, whether it is locked or not
abbrev free : Region → Region
free r = record r { locked = false }

-- the same page is found, and may be written where it might
record FindsPage (result : Result Place Refusal) (at : Place) : Type 0 where
  pub place : Place
  pub is : result ≡ Ok place
  pub name : name_at place ≡ name_at at
  pub may_write : place.region.may_write ≡ at.region.may_write

module _ (page_bytes address : ℕ) where
  abbrev found : Actor → Option Region
  found rs = option_map free (region_at page_bytes address rs)

  module _ (n : ℕ) (b : Bool) where
    -- an actor finds the region that it found
    found_same : (rs : Actor) → found (replace_region n (with_lock b) rs) ≡ found rs
    found_same [] = refl
    found_same (r ∷ rs) = go (found_same rs) (r.number == n)
      where
        past : (h : Bool) (o p : Option Region) → option_map free o ≡ option_map free p → option_map free (cond h (Some r) o) ≡ option_map free (cond h (Some r) p)
        past true o p e = refl
        past false o p e = e

        here : (h : Bool) (o : Option Region) → option_map free (cond h (Some (record r { locked = b })) o) ≡ option_map free (cond h (Some r) o)
        here true o = refl
        here false o = refl

        go : found (replace_region n (with_lock b) rs) ≡ found rs → (c : Bool) → option_map free (region_at page_bytes address (cond c (record r { locked = b } ∷ rs) (r ∷ replace_region n (with_lock b) rs))) ≡ found (r ∷ rs)
        go rest true = here (holds page_bytes address r) (region_at page_bytes address rs)
        go rest false = past (holds page_bytes address r) (region_at page_bytes address (replace_region n (with_lock b) rs)) (region_at page_bytes address rs) rest

    each_same : (xs : List (Option Actor)) (k : ℕ) → option_map found (option_and_then (λ x. x) (slice_get (replace_in n (with_lock b) xs) k)) ≡ option_map found (option_and_then (λ x. x) (slice_get xs k))
    each_same [] k = refl
    each_same (None ∷ xs) zero = refl
    each_same (None ∷ xs) (suc k) = each_same xs k
    each_same (Some rs ∷ xs) k = go (each_same xs) (is_some (region_among n rs)) k
      where
        go : ((k : ℕ) → option_map found (option_and_then (λ x. x) (slice_get (replace_in n (with_lock b) xs) k)) ≡ option_map found (option_and_then (λ x. x) (slice_get xs k)))
            → (c : Bool) (k : ℕ) → option_map found (option_and_then (λ x. x) (slice_get (cond c (Some (replace_region n (with_lock b) rs) ∷ xs) (Some rs ∷ replace_in n (with_lock b) xs)) k))
            ≡ option_map found (option_and_then (λ x. x) (slice_get (Some rs ∷ xs) k))
        go rest true zero = ap Some (found_same rs)
        go rest true (suc k) = refl
        go rest false zero = refl
        go rest false (suc k) = rest k

    numbered_same : (xs : List (Option Actor)) (k : ℕ) → option_map found (numbered (replace_in n (with_lock b) xs) k) ≡ option_map found (numbered xs k)
    numbered_same xs k = go (k == 0)
      where
        go : (c : Bool) → option_map found (cond c None (option_and_then (λ x. x) (slice_get (replace_in n (with_lock b) xs) (k - 1)))) ≡ option_map found (cond c None (option_and_then (λ x. x) (slice_get xs (k - 1))))
        go true = refl
        go false = each_same xs (k - 1)

  place_same : (o p : Option Region) (at : Place) → option_map free p ≡ option_map free o → placed page_bytes address o ≡ Ok at → FindsPage (placed page_bytes address p) at
  place_same None p at e is = absurd (cc is)
  place_same (Some r) None at e is = absurd (cc e)
  place_same (Some r) (Some q) at e is =
      let same : free q ≡ free r = cc e in
      let here : place_in page_bytes address r ≡ at = cc is in
      record {
        place = place_in page_bytes address q;
        is = refl;
        name = ap (λ k. name_at (place_in page_bytes address k)) same ∙ ap name_at here;
        may_write = ap (λ (k : Region). k.may_write) same ∙ ap (λ (p : Place). p.region.may_write) here;
      }

  actor_same : (o p : Option Actor) (at : Place) → option_map found p ≡ option_map found o → place_of_actor page_bytes o address 1 ≡ Ok at → FindsPage (place_of_actor page_bytes p address 1) at
  actor_same None p at e is = absurd (cc is)
  actor_same (Some rs) None at e is = absurd (cc e)
  actor_same (Some rs) (Some qs) at e is = go (nat_lt page_bytes (address % page_bytes + 1)) is
    where
      go : (c : Bool) → cond c (Err Crosses) (placed page_bytes address (region_at page_bytes address rs)) ≡ Ok at → FindsPage (cond c (Err Crosses) (placed page_bytes address (region_at page_bytes address qs))) at
      go true is = absurd (cc is)
      go false is = place_same (region_at page_bytes address rs) (region_at page_bytes address qs) at (cc e) is

pub relocked_right : (a : Arena) (s : Store) (t : Actors) (n : ℕ) (b : Bool) → AreTranslationsRight a s t → AreTranslationsRight a s (with_locked n b t)
relocked_right a s t n b right place e is =
    let r = right place e is in
    let address : ℕ = e.page * t.page_bytes in
    let k = actor_same t.page_bytes address (numbered t.actors e.actor.0) (numbered (replace_in n (with_lock b) t.actors) e.actor.0) r.at (numbered_same t.page_bytes address n b t.actors e.actor.0) r.place in
    record {
      at = k.place;
      place = k.is;
      seen = ap (seen_in a s.map) k.name ∙ r.seen;
      written = λ w.
          let m = r.written w in
          record { allowed = k.may_write ∙ m.allowed; alone = subst (IsAlone a) (sym k.name) m.alone; granted = subst (IsWritable a) (sym k.name) m.granted };
    }
