-- Translations stay right where the pages of a cache go that no region maps.
use Rattle.std.proofs.Common.{◌≡◌, ◌≢◌, ℕ, zero, suc, ◌+◌, ◌==◌, Bool, true, false, cond, List, [], ◌∷◌, Option, Some, refl, sym, ap, ◌∙◌, subst, inl, inr}
use Rattle.std.specs.Prelude.{Ok}
use Rattle.std.proofs.lemmas.List.Elements.{All-nil, All-cons}
use Rattle.std.specs.List.{All, list_any}
use Rattle.vm_ids.specs.declared.node_name.NodeName.{NodeName}
use Rattle.vm_ids.specs.declared.numbers.CacheId.{CacheId}
use Rattle.vm_ids.specs.Forest.Commands.{page_name, page_names}
use Rattle.vm_ids.specs.Forest.NameLists.{◌∈◌}
use Rattle.vm_model.specs.Answering.{maps_in}
use Rattle.vm_model.specs.Machine.{Actor, Region}
use Rattle.vm_model.specs.Place.{Place, holds, region_at}
use Rattle.vm_model.proofs.Machines.Sound.{numbered-all}
use Rattle.local_cache.specs.Arena.{Arena}
use Rattle.page_tables.specs.Translations.{entry_at}
use Rattle.page_tables.specs.declared.entry.Entry.{Entry}
use Rattle.residency.specs.declared.store.Store.{Store}
use Rattle.page_commands.specs.Homes.{IsWritable}
use Rattle.page_commands.specs.Translating.{Replaces, freed, where_mapped}
use Rattle.contexts.specs.Actors.{Actors}
use Rattle.contexts.proofs.Placing.{neither, other_number}
use Rattle.pvm_core.specs.Translated.{AreTranslationsRight, name_at, place_of_page}
use Rattle.pvm_core.proofs.Translating.Alike.{still_right}
use Rattle.pvm_core.proofs.Translating.Dropped.{left_unless}
use Rattle.pvm_core.proofs.Translating.Places.{lies_in}

-- the region at an address is of another cache
other_cache : (b address c : ℕ) (rs : Actor) (r : Region) → region_at b address rs ≡ Some r
    → list_any (λ (q : Region). q.cache == c) rs ≡ false → r.cache ≢ c
other_cache b address c [] r found none = absurd (cc found)
other_cache b address c (q ∷ rs) r found none = go (holds b address q) (λ f. other_cache b address c rs r f each.1) found
  where
    each : ((q.cache == c) ≡ false) × (list_any (λ (q : Region). q.cache == c) rs ≡ false)
    each = neither (q.cache == c) (list_any (λ (q : Region). q.cache == c) rs) none

    go : (t : Bool) → (region_at b address rs ≡ Some r → r.cache ≢ c) → cond t (Some q) (region_at b address rs) ≡ Some r → r.cache ≢ c
    go true later f = (let own : q ≡ r = cc f in λ same. other_number c q.cache each.0 (ap (λ (x : Region). x.cache) own ∙ same))
    go false later f = later f

none_maps : (c : ℕ) (xs : List (Option Actor)) → list_any (maps_in c) xs ≡ false → All (λ x. maps_in c x ≡ false) xs
none_maps c [] none = All-nil (λ x. maps_in c x ≡ false)
none_maps c (x ∷ xs) none =
    let each = neither (maps_in c x) (list_any (maps_in c) xs) none in
    All-cons (λ x. maps_in c x ≡ false) x xs each.0 (none_maps c xs each.1)

other_pages : (cache other : CacheId) (first n page : ℕ) → other.0 ≢ cache.0 → page_name other page ∈ page_names cache first n → ⊥
other_pages cache other first zero page apart i = absurd i
other_pages cache other first (suc n) page apart (inl same) = (let e : other.0 ≡ cache.0 = cc same in apart e)
other_pages cache other first (suc n) page apart (inr i) = other_pages cache other (first + 1) n page apart i

-- no page that an actor sees is of that cache
unmapped_place : (u : Actors) (cache : CacheId) → list_any (maps_in cache.0) u.actors ≡ false
    → (actor page : ℕ) (at : Place) → place_of_page u actor page ≡ Ok at → at.region.cache ≢ cache.0
unmapped_place u cache none actor page at is =
    let there = lies_in u actor page at is in
    other_cache u.page_bytes _ cache.0 there.regions at.region there.found (numbered-all (λ x. maps_in cache.0 x ≡ false) u.actors actor there.regions there.here (none_maps cache.0 u.actors none))

-- so a page of a range that an actor sees is among those that are sought
pub seen_sought : (u : Actors) (cache : CacheId) (first n : ℕ) (names : List NodeName) → names ≡ page_names cache first n
    → (mapped : Bool) → (mapped ≡ false → list_any (maps_in cache.0) u.actors ≡ false)
    → (actor page : ℕ) (at : Place) → place_of_page u actor page ≡ Ok at → name_at at ∈ names → name_at at ∈ where_mapped mapped names
seen_sought u cache first n names are true none actor page at is i = i
seen_sought u cache first n names are false none actor page at is i =
    absurd (other_pages cache (record { 0 = at.region.cache }) first n at.page (unmapped_place u cache (none refl) actor page at is) (subst (λ xs. name_at at ∈ xs) are i))

-- none that is left is for a page of that cache
pub unmapped_right : (cache : CacheId) (pages : ℕ) (a b : Arena) (s t : Store) (u : Actors)
    → list_any (maps_in cache.0) u.actors ≡ false
    → Replaces (λ x. x ∈ page_names cache 0 pages) (λ x. ⊥) a s b t
    → ((x : NodeName) → IsWritable a x → IsWritable b x)
    → AreTranslationsRight a s u → AreTranslationsRight b t u
unmapped_right cache pages a b s t u none l grants right place e is =
    let was = left_unless (λ (e : Entry). freed s.map t.map e.to.frame.0) s.tables place e (sym (ap (λ ts. entry_at ts place) l.tables) ∙ is) in
    let r = right place e was.0 in
    let kept = other_pages cache (record { 0 = r.at.region.cache }) 0 pages r.at.page (unmapped_place u cache none e.actor.0 e.page r.at r.place) in
    still_right a b s t u e r (λ seen. l.seen (name_at r.at) refl kept ∙ seen) (λ w. l.alone (name_at r.at) refl kept (λ h. h)) (grants (name_at r.at))
