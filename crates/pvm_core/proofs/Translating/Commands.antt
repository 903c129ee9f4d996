-- The translations of a manager are right still when actors and regions come, change and go.
use Rattle.std.proofs.Common.{◌≡◌, ◌==◌, ℕ, ◌+◌, ◌-◌, ◌*◌, ◌<◌, ◌≤◌, Bool, true, false, cond, not, List, [], ◌∷◌, ◌++◌, length, map, set, Option, Some, None, refl, sym, ap, subst, ◌∙◌, inl, inr, arith}
use Rattle.std.specs.Prelude.{IfSome, OnErr, OnOk, Result, Ok, Err, ◌&&◌, ◌⊎◌, is_some, option_map}
use Rattle.std.specs.Int.{div_ceil}
use Rattle.std.specs.List.{list_any}
use Rattle.std.proofs.lemmas.Bool.{cases_Bool, false≢true}
use Rattle.std.proofs.lemmas.List.{length-map}
use Rattle.vm_ids.specs.declared.command.Mapping.{Mapping}
use Rattle.vm_ids.specs.declared.command.Prot.{Prot}
use Rattle.vm_ids.specs.declared.numbers.RegionId.{RegionId}
use Rattle.vm_ids.specs.declared.refusal.Refusal.{Refusal}
use Rattle.vm_ids.specs.declared.reply.RegionStatus.{RegionStatus}
use Rattle.vm_ids.specs.declared.reply.Trouble.{Trouble}
use Rattle.vm_ids.specs.declared.reply.Trouble.TheVariants as troubles
use Rattle.std.proofs.lemmas.Bool.Decides.{nat_tests}
use Rattle.vm_ids.proofs.Places.{same_number}
use Rattle.vm_model.specs.Answering.{overlaps, without_region}
use Rattle.vm_model.specs.Machine.{Actor, Region, numbered}
use Rattle.vm_model.specs.Place.{holds, region_at}
use Rattle.vm_model.specs.Regions.{region_with, replace_in, split_at, status_in, status_with, with_prot}
use Rattle.vm_model.proofs.Parts.Lists.{is_there, numbered_place}
use Rattle.contexts.specs.Actors.{Actors, times_made, with_region, with_split, split_refusal}
use Rattle.contexts.proofs.Told.{IsTold, is_told, told_some}
use Rattle.contexts.proofs.RegionRows.{is_cut}
use Rattle.local_cache.specs.Arena.{Arena}
use Rattle.page_tables.specs.Entries.{is_between, is_of_actor}
use Rattle.page_tables.specs.Translations.{entry_at, unless}
use Rattle.page_tables.specs.declared.entry.Entry.{Entry}
use Rattle.residency.specs.declared.store.Store.{Store}
use Rattle.pvm_core.specs.Translated.{AreTranslationsRight, is_in_region}
use Rattle.pvm_core.proofs.Translating.Actors.{stays_ended, stays_made, stays_mapped, stays_replaced, stays_unmapped}
use Rattle.pvm_core.proofs.Translating.Cut.{prot_becomes, split_becomes}
use Rattle.pvm_core.proofs.Translating.Dropped.{fewer_right, left_unless}
use Rattle.pvm_core.proofs.Translating.Held.{held_from, held_parts, page_between}
use Rattle.pvm_core.proofs.Translating.Once.{once_told}
use Rattle.pvm_core.proofs.Translating.Places.{places_right}
use Rattle.pvm_core.proofs.Translating.Regions.{found_holds}
use Rattle.pvm_core.proofs.Translating.Tables.{with_tables}

module _ (a : Arena) (s : Store) (t : Actors) (right : AreTranslationsRight a s t) where
  -- An actor that is made, and a region that is mapped or cut

  pub made_right : AreTranslationsRight a s (record t { actors = t.actors ++ Some [] ∷ [] })
  made_right = places_right a s t _ refl (λ place e is rs here. stays_made t e rs here (record t { actors = t.actors ++ Some [] ∷ [] }) refl) right

  pub mapped_right : (actor : ℕ) (p : Mapping) (old : Actor) → numbered t.actors actor ≡ Some old → list_any (overlaps t.page_bytes p.address p.extent.pages) old ≡ false → AreTranslationsRight a s (with_region t actor p)
  mapped_right actor p old there apart = places_right a s t _ refl (λ place e is rs here. stays_mapped t e rs here (with_region t actor p) actor p old there apart refl) right

  -- the region with this number is told of
  told_of : (n : ℕ) (r : Region) → region_with n t.actors ≡ Some r → (st : RegionStatus) × IsTold n 1 t.actors st
  told_of n r found =
      let is = is_there (status_with n 1 t.actors) (told_some n 1 t.actors ∙ ap is_some found) in
      (is.0, is_told n 1 t.actors is.0 is.1)

  same_region : (n : ℕ) (r : Region) (found : region_with n t.actors ≡ Some r) (st : RegionStatus) (told : IsTold n 1 t.actors st) → r ≡ told.region
  same_region n r found st told = let both = sym found ∙ told.found in cc both

  pub cut_right : (n pages : ℕ) (r : Region) → 1 ≤ t.page_bytes → region_with n t.actors ≡ Some r → pages < r.pages → AreTranslationsRight a s (with_split t n pages)
  cut_right n pages r some found fewer =
      let told = told_of n r found in
      let less : pages < told.1.region.pages = subst (λ (q : Region). pages < q.pages) (same_region n r found told.0 told.1) fewer in
      places_right a s t _ refl
      (λ place e is rs here. stays_replaced t e rs here (with_split t n pages) n (split_at t.page_bytes pages (t.regions_made + 1)) told.0 told.1 refl
      (λ own. split_becomes t.page_bytes (e.page * t.page_bytes) e.to.writable told.1.region pages (t.regions_made + 1) some less)) right

  -- a region allows writing
  pub allowed_right : (n : ℕ) (prot : Prot) (r : Region) → region_with n t.actors ≡ Some r → prot.write ≡ true → AreTranslationsRight a s (record t { actors = replace_in n (with_prot prot) t.actors })
  allowed_right n prot r found may =
      let told = told_of n r found in
      places_right a s t _ refl
      (λ place e is rs here. stays_replaced t e rs here (record t { actors = replace_in n (with_prot prot) t.actors }) n (with_prot prot) told.0 told.1 refl
      (λ own. prot_becomes t.page_bytes (e.page * t.page_bytes) e.to.writable told.1.region prot (λ held w. may))) right

  -- Translations that are dropped

  abbrev left : (Entry → Bool) → Store
  left test = with_tables s (map (unless test) s.tables)

  left_right : (test : Entry → Bool) → AreTranslationsRight a (left test) t
  left_right test = fewer_right a s (left test) t refl (λ place e is. (left_unless test s.tables place e is).0) right

  alike : (address : ℕ) (r q : Region) → q.start ≡ r.start → q.pages ≡ r.pages → holds t.page_bytes address r ≡ true → holds t.page_bytes address q ≡ true
  alike address r q start count held = (let p = held_parts t.page_bytes address r held in held_from t.page_bytes address q (omega (arith, p.0, start)) (omega (arith, p.1, start, ap (λ (k : ℕ). t.page_bytes * k) count)))

  -- an entry that is left when those of a region were dropped is for no page of it
  not_in : (n : ℕ) (st : RegionStatus) (told : IsTold n 1 t.actors st) → 1 ≤ t.page_bytes → (place : ℕ) (e : Entry) → entry_at (left (is_in_region t.page_bytes st)).tables place ≡ Some e
      → e.actor.0 ≡ st.actor.0 → holds t.page_bytes (e.page * t.page_bytes) told.region ≡ true → ⊥
  not_in n st told some place e is own held =
      let away = (left_unless (is_in_region t.page_bytes st) s.tables place e is).1 in
      let start : told.region.start ≡ st.mapping.address = sym (ap (λ (w : RegionStatus). w.mapping.address) told.told) in
      let count : told.region.pages ≡ st.mapping.extent.pages = sym (ap (λ (w : RegionStatus). w.mapping.extent.pages) told.told) in
      let between : is_between (div_ceil st.mapping.address t.page_bytes) st.mapping.extent.pages e.page ≡ true = (λ i. is_between (div_ceil (sym start i) t.page_bytes) (sym count i) e.page) ∙ page_between t.page_bytes e.page told.region some held in
      let of : is_of_actor st.actor.0 e ≡ true = ap (λ (k : ℕ). k == st.actor.0) own ∙ same_number st.actor.0 in
      let inside : is_in_region t.page_bytes st e ≡ true = (λ i. between i && of i) in
      false≢true (sym away ∙ inside)

  -- a region doesn't allow writing any more, and its translations are dropped
  pub forbidden_right : (n : ℕ) (prot : Prot) (st : RegionStatus) → 1 ≤ t.page_bytes → status_with n 1 t.actors ≡ Some st
      → AreTranslationsRight a (left (is_in_region t.page_bytes st)) (record t { actors = replace_in n (with_prot prot) t.actors })
  forbidden_right n prot st some status =
      let told = is_told n 1 t.actors st status in
      places_right a (left (is_in_region t.page_bytes st)) t _ refl
      (λ place e is rs here. stays_replaced t e rs here (record t { actors = replace_in n (with_prot prot) t.actors }) n (with_prot prot) st told refl
      (λ own. prot_becomes t.page_bytes (e.page * t.page_bytes) e.to.writable told.region prot (λ held w. absurd (not_in n st told some place e is own held))))
      (left_right (is_in_region t.page_bytes st))

  -- a region goes, and its translations are dropped
  pub unmapped_right : (n : ℕ) (st : RegionStatus) → 1 ≤ t.page_bytes → times_made n t.actors ≤ 1 → status_with n 1 t.actors ≡ Some st
      → AreTranslationsRight a (left (is_in_region t.page_bytes st)) (record t { actors = map (option_map (without_region n)) t.actors })
  unmapped_right n st some once status =
      let told = is_told n 1 t.actors st status in
      places_right a (left (is_in_region t.page_bytes st)) t _ refl
      (λ place e is rs here. stays_unmapped t e rs here (record t { actors = map (option_map (without_region n)) t.actors }) n refl (λ r found. other told place e is rs here r found (cases_Bool (r.number == n))))
      (left_right (is_in_region t.page_bytes st))
    where
      other : (told : IsTold n 1 t.actors st) (place : ℕ) (e : Entry) → entry_at (left (is_in_region t.page_bytes st)).tables place ≡ Some e → (rs : Actor) → numbered t.actors e.actor.0 ≡ Some rs
          → (r : Region) → region_at t.page_bytes (e.page * t.page_bytes) rs ≡ Some r → ((r.number == n) ≡ true) ⊎ ((r.number == n) ≡ false) → (r.number == n) ≡ false
      other told place e is rs here r found (inr b) = b
      other told place e is rs here r found (inl b) =
          let at = numbered_place t.actors e.actor.0 rs here in
          let one = once_told t.page_bytes (e.page * t.page_bytes) n 1 (e.actor.0 - 1) t.actors rs r once at.1 found b in
          let same : status_in (1 + (e.actor.0 - 1)) r ≡ status_in (1 + told.place) told.region = (let both = sym one ∙ status in let is : status_in (1 + (e.actor.0 - 1)) r ≡ st = cc both in is ∙ told.told) in
          let of : e.actor.0 ≡ st.actor.0 = (let k = ap (λ (w : RegionStatus). w.actor.0) same in let j = ap (λ (w : RegionStatus). w.actor.0) told.told in let low = at.0 in omega (arith, k, j, low)) in
          let start : told.region.start ≡ r.start = sym (ap (λ (w : RegionStatus). w.mapping.address) same) in
          let count : told.region.pages ≡ r.pages = sym (ap (λ (w : RegionStatus). w.mapping.extent.pages) same) in
          absurd (not_in n st told some place e is of (alike (e.page * t.page_bytes) r told.region start count (found_holds t.page_bytes (e.page * t.page_bytes) e.to.writable rs r found)))

  -- an actor ends, and its translations are dropped
  pub ended_right : (actor : ℕ) (rs : Actor) → numbered t.actors actor ≡ Some rs → AreTranslationsRight a (left (is_of_actor actor)) (record t { actors = set t.actors (actor - 1) None })
  ended_right actor old there =
      places_right a (left (is_of_actor actor)) t _ refl
      (λ place e is rs here. stays_ended t e rs here (record t { actors = set t.actors (actor - 1) None }) actor old there
      (λ own. false≢true (sym (left_unless (is_of_actor actor) s.tables place e is).1 ∙ ap (λ (k : ℕ). k == actor) own ∙ same_number actor)) refl)
      (left_right (is_of_actor actor))

-- a region may have been cut
pub split_right : (a : Arena) (s : Store) (t u : Actors) (region : RegionId) (pages : ℕ) (o : Option Refusal) (result : Result RegionId Trouble) → 1 ≤ t.page_bytes → AreTranslationsRight a s t
    → split_refusal t region.0 pages ≡ o → IfSome o (λ r. result ≡ Err (troubles.Refused r)) → OnOk result (u ≡ with_split t region.0 pages) → OnErr result (u ≡ t) → AreTranslationsRight a s u
split_right a s t u region pages None (Ok fresh) some right is refused ok err =
    let c = is_cut t region.0 pages is in
    let fewer = c.fewer in
    subst (AreTranslationsRight a s) (sym ok) (cut_right a s t right region.0 pages c.region some c.found (grind (arith, nat_tests)))
split_right a s t u region pages (Some r) (Ok fresh) some right is refused ok err = absurd (cc refused)
split_right a s t u region pages o (Err e) some right is refused ok err = subst (AreTranslationsRight a s) (sym err) right

-- the translations of a region are dropped where it doesn't allow writing any more
abbrev pub forgotten : ℕ → Prot → RegionStatus → List (Option Entry) → List (Option Entry)
forgotten page_bytes prot st tables = cond (not prot.write) (map (unless (is_in_region page_bytes st)) tables) tables

pub forgotten_count : (page_bytes : ℕ) (prot : Prot) (st : RegionStatus) (tables : List (Option Entry)) → length (forgotten page_bytes prot st tables) ≡ length tables
forgotten_count page_bytes prot st tables = go (not prot.write)
  where
    go : (b : Bool) → length (cond b (map (unless (is_in_region page_bytes st)) tables) tables) ≡ length tables
    go true = length-map tables (unless (is_in_region page_bytes st))
    go false = refl

pub protected_right : (a : Arena) (s : Store) (t : Actors) (n : ℕ) (prot : Prot) (st : RegionStatus) → 1 ≤ t.page_bytes → AreTranslationsRight a s t → status_with n 1 t.actors ≡ Some st
    → AreTranslationsRight a (with_tables s (forgotten t.page_bytes prot st s.tables)) (record t { actors = replace_in n (with_prot prot) t.actors })
protected_right a s t n prot st some right status = go prot.write refl
  where
    go : (b : Bool) → prot.write ≡ b → AreTranslationsRight a (with_tables s (cond (not b) (map (unless (is_in_region t.page_bytes st)) s.tables) s.tables)) (record t { actors = replace_in n (with_prot prot) t.actors })
    go true may = (let told = is_told n 1 t.actors st status in allowed_right a s t right n prot told.region told.found may)
    go false may = forbidden_right a s t right n prot st some status
