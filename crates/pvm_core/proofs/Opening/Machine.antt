-- The machine with one cache more.
use Rattle.std.proofs.Common.{◌≡◌, ℕ, zero, suc, ◌+◌, List, [], ◌∷◌, ◌++◌, length, get_or, Option, Some, None, refl, sym, ap, ◌∙◌, subst, arith}
use Rattle.std.specs.Prelude.{IfSome, option_map}
use Rattle.std.proofs.lemmas.List.{length-append, map_push}
use Rattle.std.proofs.lemmas.List.Elements.{All-append, All-cons, All-nil}
use Rattle.vm_ids.specs.Held.{Held}
use Rattle.vm_ids.specs.declared.numbers.CacheId.{CacheId}
use Rattle.vm_ids.specs.Forest.Commands.{make}
use Rattle.local_cache.specs.Arena.{Table}
use Rattle.vm_model.specs.Machine.{Cache, Machine, cache_of}
use Rattle.vm_model.specs.Outcome.{HasWholePages, IsWhole, blank, blank_cache}
use Rattle.vm_model.specs.PageForest.{PageForest, nodes_of}
use Rattle.vm_model.specs.Laws.{IsFollowed}
use Rattle.vm_model.proofs.Forests.CachesFollowed.{made_followed}
use Rattle.vm_model.proofs.Parts.ListParts.{numbered_pushed}
use Rattle.pvm_core.specs.Manager.{Manager, caches_shown, forest_of, machine_of}
use Rattle.pvm_core.proofs.Meaning.Determined.{IsShaped, followed_is}
use Rattle.pvm_core.proofs.Meaning.Shown.{length-pages, shown_made}

-- a machine with a cache more
abbrev pub with_cache : Machine → Cache → Machine
with_cache m c = record m { caches = m.caches ++ Some c ∷ [] }

pub shape_at : (f : PageForest) (first : ℕ) (ts : List (Option Table)) (x : Option Cache) (t : Option Table) → IsShaped x t → (k : ℕ) → IsShaped (get_or (caches_shown f first ts ++ x ∷ []) k None) (get_or (ts ++ t ∷ []) k None)
shape_at f first [] x t s zero = s
shape_at f first [] x t s (suc k) = tt
shape_at f first (None ∷ ts) x t s zero = tt
shape_at f first (Some u ∷ ts) x t s zero = (refl, length-pages f first 0 (length u.pages))
shape_at f first (u ∷ ts) x t s (suc k) = shape_at f (first + 1) ts x t s k

-- From manager p to q a cache was made: the one with this table, which has the pages of c.
pub record IsAdded (p q : Manager) (h : Option Held) (cache : CacheId) (table : Table) (c : Cache) : Type 0 where
  pub number : cache.0 ≡ length p.caches.caches + 1
  pub tables : q.caches.caches ≡ p.caches.caches ++ Some table ∷ []
  pub shape : IsShaped (Some c) (Some table)
  pub forest : forest_of q h ≡ make (nodes_of cache.0 (Some c)) (forest_of p h)
  pub page_bytes : q.page_bytes ≡ p.page_bytes
  pub frames : length q.store.frames.held ≡ length p.store.frames.held
  pub actors : q.actors ≡ p.actors
  pub regions : q.regions_made ≡ p.regions_made

module _ (p q : Manager) (h : Option Held) (cache : CacheId) (table : Table) (c : Cache) (added : IsAdded p q h cache table c) (followed : IsFollowed (machine_of p h) (forest_of p h)) where
  abbrev m : Machine
  m = machine_of p h

  number : cache.0 ≡ length (machine_of p h).caches + 1
  number = omega (arith, added.number, shown_made (forest_of p h) 1 p.caches.caches)

  then : IsFollowed (with_cache m c) (forest_of q h)
  then = subst (IsFollowed (with_cache m c)) (sym added.forest) (made_followed m (forest_of p h) cache.0 c number followed)

  caches_are : caches_shown (forest_of q h) 1 (p.caches.caches ++ Some table ∷ []) ≡ m.caches ++ Some c ∷ []
  caches_are = followed_is (with_cache m c) (forest_of q h) then (p.caches.caches ++ Some table ∷ [])
      (omega (arith, length-append m.caches (Some c ∷ []), length-append p.caches.caches (Some table ∷ []), shown_made (forest_of p h) 1 p.caches.caches))
      (λ k low. shape_at (forest_of p h) 1 p.caches.caches (Some c) (Some table) added.shape k)

  -- the machine has that cache more
  pub machine_added : machine_of q h ≡ with_cache (machine_of p h) c
  machine_added = λ i. record {
    page_bytes = added.page_bytes i;
    frames = added.frames i;
    caches = (ap (caches_shown (forest_of q h) 1) added.tables ∙ caches_are) i;
    actors = added.actors i;
    regions_made = added.regions i;
  }

  -- and the forest its pages, as the machine has them
  pub forest_added : forest_of q h ≡ make (nodes_of (length (machine_of q h).caches) (cache_of (machine_of q h) (length (machine_of q h).caches))) (forest_of p h)
  forest_added = added.forest ∙ ap (λ es. make es (forest_of p h)) (sym (
      ap (λ (k : Machine). nodes_of (length k.caches) (cache_of k (length k.caches))) machine_added
      ∙ ap (λ (k : ℕ). nodes_of k (cache_of (with_cache m c) k)) (let e : length (m.caches ++ Some c ∷ []) ≡ cache.0 = omega (arith, number, length-append m.caches (Some c ∷ [])) in e)
      ∙ ap (nodes_of cache.0) (numbered_pushed m.caches (Some c) cache.0 number)))

  -- its pages are whole still
  pub whole_added : IfSome h (λ _. IsWhole p.page_bytes (Some c)) → IfSome h (λ _. HasWholePages (machine_of p h)) → IfSome h (λ _. HasWholePages (machine_of q h))
  whole_added new old = subst (λ (k : Machine). IfSome h (λ _. HasWholePages k)) (sym machine_added) (go h new old)
    where
      go : (g : Option Held) → IfSome g (λ _. IsWhole p.page_bytes (Some c)) → IfSome g (λ _. HasWholePages (machine_of p h)) → IfSome g (λ _. HasWholePages (with_cache (machine_of p h) c))
      go None new old = tt
      go (Some g) new old = All-append (IsWhole p.page_bytes) (machine_of p h).caches (Some c ∷ []) old (All-cons (IsWhole p.page_bytes) (Some c) [] new (All-nil (IsWhole p.page_bytes)))

  -- without bytes it is the blank one of a machine with such a cache more
  pub blank_added : (w : Machine) (d : Cache) → machine_of p h ≡ blank w → blank_cache d ≡ c → machine_of q h ≡ blank (with_cache w d)
  blank_added w d is same = machine_added
      ∙ ap (λ (k : Machine). with_cache k c) is
      ∙ ap (λ (c : Cache). with_cache (blank w) c) (sym same)
      ∙ ap (λ cs. record (blank w) { caches = cs }) (sym (map_push (option_map blank_cache) w.caches (Some d)))
