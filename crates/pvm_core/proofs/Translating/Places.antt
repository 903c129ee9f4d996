-- Translations stay right where regions change, and each page of theirs keeps its place.
use Rattle.std.proofs.Common.{◌≡◌, ℕ, ◌+◌, ◌*◌, ◌%◌, Bool, true, false, cond, Option, Some, None, refl, sym, ap, subst, ◌∙◌}
use Rattle.std.specs.Prelude.{Ok, Err, nat_lt}
use Rattle.vm_ids.specs.declared.refusal.Refusal.TheVariants as refusals
use Rattle.vm_ids.specs.declared.node_name.NodeName.{NodeName}
use Rattle.vm_ids.specs.Forest.Commands.{page_name}
use Rattle.vm_model.specs.Machine.{Actor, Region, numbered}
use Rattle.vm_model.specs.Place.{Place, place_in, place_of_actor, placed, region_at}
use Rattle.local_cache.specs.Arena.{Arena}
use Rattle.page_tables.specs.Translations.{entry_at}
use Rattle.page_tables.specs.declared.entry.Entry.{Entry}
use Rattle.residency.specs.Seeing.{IsAlone, seen_in}
use Rattle.residency.specs.declared.store.Store.{Store}
use Rattle.page_commands.specs.Homes.{IsWritable}
use Rattle.contexts.specs.Actors.{Actors}
use Rattle.pvm_core.specs.Translated.{AreTranslationsRight, IsTranslationRight, name_at, place_of_page}

-- where a page of an actor lies: in the region of the actor that holds its first byte
pub record LiesIn (t : Actors) (actor page : ℕ) (at : Place) : Type 0 where
  pub regions : Actor
  pub here : numbered t.actors actor ≡ Some regions
  pub whole : nat_lt t.page_bytes ((page * t.page_bytes) % t.page_bytes + 1) ≡ false
  pub found : region_at t.page_bytes (page * t.page_bytes) regions ≡ Some at.region
  pub is : at ≡ place_in t.page_bytes (page * t.page_bytes) at.region

module _ (t : Actors) (actor page : ℕ) (at : Place) where
  abbrev b : ℕ
  b = t.page_bytes

  abbrev first : ℕ
  first = page * b

  pub lies_in : place_of_page t actor page ≡ Ok at → LiesIn t actor page at
  lies_in e = alive (numbered t.actors actor) refl e
    where
      alive : (o : Option Actor) → numbered t.actors actor ≡ o → place_of_actor b o first 1 ≡ Ok at → LiesIn t actor page at
      alive None here f = absurd (cc f)
      alive (Some rs) here f = go (nat_lt b (first % b + 1)) (region_at b first rs) refl refl f
        where
          go : (c : Bool) (o : Option Region) → nat_lt b (first % b + 1) ≡ c → region_at b first rs ≡ o → cond c (Err refusals.Crosses) (placed b first o) ≡ Ok at → LiesIn t actor page at
          go true o whole found g = absurd (cc g)
          go false None whole found g = absurd (cc g)
          go false (Some r) whole found g =
              let is : place_in b first r ≡ at = cc g in
              let same : r ≡ at.region = ap (λ (p : Place). p.region) is in
              record {
                regions = rs;
                here = here;
                whole = whole;
                found = found ∙ ap (λ (q : Region). Some q) same;
                is = sym is ∙ ap (place_in b first) same;
              }

-- what one region shows at an address another shows too, and allows as much where that matters
pub record Shows (b address : ℕ) (writable : Bool) (r q : Region) : Type 0 where
  pub cache : q.cache ≡ r.cache
  pub page : (place_in b address q).page ≡ (place_in b address r).page
  pub allowed : writable ≡ true → r.may_write ≡ true → q.may_write ≡ true

pub shows_same : (b address : ℕ) (writable : Bool) (r : Region) → Shows b address writable r r
shows_same b address writable r = record { cache = refl; page = refl; allowed = λ w may. may }

-- what one of these regions shows at an address one of those shows
abbrev pub StaysAt : ℕ → ℕ → Bool → Actor → Actor → Type 0
StaysAt b address writable rs qs = (r : Region) → region_at b address rs ≡ Some r → (q : Region) × (region_at b address qs ≡ Some q) × Shows b address writable r q

pub stays_same : (b address : ℕ) (writable : Bool) (rs : Actor) → StaysAt b address writable rs rs
stays_same b address writable rs r found = (r, found, shows_same b address writable r)

-- an actor sees a page as it did
pub record StaysFor (t u : Actors) (e : Entry) (rs : Actor) : Type 0 where
  pub regions : Actor
  pub here : numbered u.actors e.actor.0 ≡ Some regions
  pub stays : StaysAt t.page_bytes (e.page * t.page_bytes) e.to.writable rs regions

module _ (a : Arena) (s : Store) (t u : Actors) (page : u.page_bytes ≡ t.page_bytes) where
  moved_right : (e : Entry) (r : IsTranslationRight a s t e) → (l : LiesIn t e.actor.0 e.page r.at) → StaysFor t u e l.regions → IsTranslationRight a s u e
  moved_right e r l k =
      let b = t.page_bytes in
      let address = e.page * b in
      let new = k.stays r.at.region l.found in
      let q : Region = new.0 in
      let shows = new.2 in
      let there : Place = place_in b address q in
      let number : there.page ≡ r.at.page = shows.page ∙ sym (ap (λ (p : Place). p.page) l.is) in
      let name : name_at r.at ≡ name_at there = (λ i. page_name (record { 0 = sym shows.cache i }) (sym number i)) in
      record {
        at = there;
        place = subst (λ (w : ℕ). place_of_actor w (numbered u.actors e.actor.0) (e.page * w) 1 ≡ Ok there) (sym page) (row q k.regions k.here l.whole new.1);
        seen = subst (λ (x : NodeName). seen_in a s.map x ≡ Some e.to.frame.0) name r.seen;
        written = λ w. (let m = r.written w in record {
          allowed = shows.allowed w m.allowed;
          alone = subst (IsAlone a) name m.alone;
          granted = subst (IsWritable a) name m.granted;
        });
      }
    where
      row : (q : Region) (qs : Actor) → numbered u.actors e.actor.0 ≡ Some qs → nat_lt t.page_bytes ((e.page * t.page_bytes) % t.page_bytes + 1) ≡ false → region_at t.page_bytes (e.page * t.page_bytes) qs ≡ Some q
          → place_of_actor t.page_bytes (numbered u.actors e.actor.0) (e.page * t.page_bytes) 1 ≡ Ok (place_in t.page_bytes (e.page * t.page_bytes) q)
      row q qs here whole found = rw (here, whole, found) refl

  -- each page that has a translation keeps its place
  pub places_right : ((place : ℕ) (e : Entry) → entry_at s.tables place ≡ Some e → (rs : Actor) → numbered t.actors e.actor.0 ≡ Some rs → StaysFor t u e rs)
      → AreTranslationsRight a s t → AreTranslationsRight a s u
  places_right stays right place e is =
      let r = right place e is in
      let l = lies_in t e.actor.0 e.page r.at r.place in
      moved_right e r l (stays place e is l.regions l.here)
