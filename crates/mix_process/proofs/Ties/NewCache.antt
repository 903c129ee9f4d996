-- A new temporary cache, which is spare until it is mapped.
use Rattle.std.proofs.Common.{◌≡◌, ◌≢◌, ◌⊎◌, inl, inr, ℕ, ◌+◌, ◌-◌, ◌≤◌, ◌<◌, List, [], ◌∷◌, ◌++◌, length, Option, Some, None, refl, sym, ap, ◌∙◌, arith}
use Rattle.std.specs.Prelude.{slice_get}
use Rattle.std.proofs.lemmas.Option.{slice_get_within}
use Rattle.vm_model.proofs.Parts.Lists.{numbered_place}
use Rattle.interface_callers.proofs.Words.{Cache, Machine, Segments, cache_of, numbered}
use Rattle.interface_callers.proofs.Lists.{all_at, get_append, get_last, get_snoc, number_at}
use Rattle.interface_callers.proofs.Making as making
use Rattle.mix_process.specs.Adding.{fresh_page}
use Rattle.mix_process.specs.Tying.{AreTied, IsPart, none_spare}
use Rattle.mix_process.specs.declared.area.Area.{Area}
use Rattle.mix_process.specs.declared.area.Area.TheVariants.{Data, Stack, Text}
use Rattle.mix_process.specs.declared.mix.Image.{Image}
use Rattle.mix_process.specs.declared.process.Part.{Part}
use Rattle.mix_process.specs.declared.process.Process.{Process}
use Rattle.mix_process.proofs.Ties.Clearing.{run_kept}

-- the page of a new cache, in the words of the processes
pub fresh_same : (told : Option Segments) (page_bytes : ℕ) → making.fresh_page told page_bytes ≡ fresh_page told page_bytes
fresh_same (Some h) page_bytes = refl
fresh_same None page_bytes = refl

-- A new cache among the others

fresh_by : {A : Type 0} (xs : List (Option A)) (x : Option A) (n : ℕ) (y : A) → (1 ≤ n) × (slice_get (xs ++ x ∷ []) (n - 1) ≡ Some (Some y)) → (numbered xs n ≡ Some y) ⊎ ((n ≡ length xs + 1) × (x ≡ Some y))
fresh_by xs x n y at = elim (get_snoc xs x (n - 1) (Some y) at.1) [
  | inl e ↦ inl (number_at xs n (Some y) at.0 e)
  | inr e ↦ inr ((let number : n ≡ length xs + 1 = omega (arith, e.0, at.0) in number), sym e.1)
]

-- what is there then was there, or is the new one
pub was_or_fresh : {A : Type 0} (xs : List (Option A)) (x : Option A) (n : ℕ) (y : A) → numbered (xs ++ x ∷ []) n ≡ Some y → (numbered xs n ≡ Some y) ⊎ ((n ≡ length xs + 1) × (x ≡ Some y))
was_or_fresh xs x n y e = fresh_by xs x n y (numbered_place (xs ++ x ∷ []) n y e)

pub still_numbered : {A : Type 0} (xs : List (Option A)) (x : Option A) (n : ℕ) (y : A) → numbered xs n ≡ Some y → numbered (xs ++ x ∷ []) n ≡ Some y
still_numbered xs x n y e = let at = numbered_place xs n y e in number_at (xs ++ x ∷ []) n (Some y) at.0 (get_append xs (x ∷ []) (n - 1) (Some y) at.1)

pub fresh_numbered : {A : Type 0} (xs : List (Option A)) (x : Option A) → numbered (xs ++ x ∷ []) (length xs + 1) ≡ x
fresh_numbered xs x = number_at (xs ++ x ∷ []) (length xs + 1) x (omega arith) (ap (slice_get (xs ++ x ∷ [])) (let e : length xs + 1 - 1 ≡ length xs = omega arith in e) ∙ get_last xs x)

-- a number that is in use is none that is given next
pub used : {A : Type 0} (xs : List (Option A)) (n : ℕ) (y : A) → numbered xs n ≡ Some y → n ≢ length xs + 1
used xs n y e same = let at = numbered_place xs n y e in let within : n - 1 < length xs = slice_get_within xs (n - 1) (Some y) at.1 in omega (arith, within, at.0, same)

abbrev pub segment_in : Option Cache → Option ℕ
segment_in None = None
segment_in (Some c) = c.segment

pub part_cache : (m : Machine) (a : Area) (p : Part) → IsPart m a p → (c : Cache) × (cache_of m p.cache.0 ≡ Some c)
part_cache m Text p h = (h.cache, h.there)
part_cache m Data p h = (h.cache, h.there)
part_cache m Stack p h = (h.cache, h.there)

module _ (m : Machine) (processes : ℕ → Option Process) (images : List Image) (t : AreTied m processes none_spare images) (c : Cache) (temporary_is : c.segment ≡ None) where
  abbrev pub with_cache : Machine
  with_cache = record m { caches = m.caches ++ Some c ∷ [] }

  part_stays : (n : ℕ) (p : Process) → processes n ≡ Some p → (j : ℕ) (part : Part) → slice_get p.parts.items j ≡ Some part → cache_of with_cache part.cache.0 ≡ cache_of m part.cache.0
  part_stays n p e j part f =
      let there = part_cache m part.area part (all_at (λ (part : Part). IsPart m part.area part) p.parts.items j part (t.run n p e).parts f) in
      still_numbered m.caches (Some c) part.cache.0 there.0 there.1 ∙ sym there.1

  -- the new cache is spare
  pub tied_with : AreTied with_cache processes (λ k. k ≡ length m.caches + 1) images
  tied_with = record {
    page = t.page;
    run = λ n p e. run_kept m with_cache p refl (part_stays n p e) (t.run n p e);
    actors_apart = t.actors_apart;
    caches_apart = t.caches_apart;
    spares = λ k s. (c, ap (cache_of with_cache) s ∙ fresh_numbered m.caches (Some c), temporary_is);
    spares_free = λ n i k s o. (let there = part_cache m o.part.area o.part (all_at (λ (part : Part). IsPart m part.area part) o.process.parts.items i o.part (t.run n o.process o.there).parts o.has) in used m.caches o.part.cache.0 there.0 there.1 (o.is ∙ s));
    no_more_actors = t.no_more_actors;
    no_more_caches = λ k d e none. elim (was_or_fresh m.caches (Some c) k d e) [
      | inl old ↦ elim (t.no_more_caches k d old none) [ inl s ↦ absurd s | inr o ↦ inr o ]
      | inr fresh ↦ inl fresh.0
    ];
    images_there = λ i image e. (let d = t.images_there i image e in (d.0, still_numbered m.caches (Some c) image.cache.0 d.0 d.1, d.2));
    images_apart = t.images_apart;
    no_more_images = λ k seg d e named. elim (was_or_fresh m.caches (Some c) k d e) [
      | inl old ↦ t.no_more_images k seg d old named
      | inr fresh ↦ absurd (let wrong : None ≡ Some seg = sym temporary_is ∙ ap segment_in fresh.1 ∙ named in cc wrong)
    ];
  }
