-- A new actor is that of a new process without parts, and a new named cache is that of an image.
use Rattle.std.proofs.Common.{◌≡◌, ◌≢◌, ◌⊎◌, inl, inr, ℕ, ◌+◌, List, [], ◌∷◌, ◌++◌, length, Option, Some, None, refl, sym, ap, subst, ◌∙◌, arith}
use Rattle.std.specs.Prelude.{slice_get}
use Rattle.std.specs.List.{AllByRecursion}
use Rattle.interface_callers.proofs.Words.{Cache, Machine, actor_of, cache_of, numbered}
use Rattle.interface_callers.proofs.Lists.{all_at, get_append, get_last, get_snoc}
use Rattle.mix_process.specs.Tying.{AreMapped, AreTied, IsPart, IsRun, IsSingle, IsSmall, Owns, none_spare}
use Rattle.mix_process.specs.Tying.AreMapped.{none}
use Rattle.mix_process.specs.declared.mix.Image.{Image}
use Rattle.mix_process.specs.declared.process.Part.{Part}
use Rattle.mix_process.specs.declared.process.Process.{Process}
use Rattle.mix_process.proofs.Ties.Clearing.{run_kept}
use Rattle.mix_process.proofs.Ties.NewCache.{fresh_numbered, part_cache, segment_in, still_numbered, used, was_or_fresh}

no_front : (before : List Part) (part : Part) (behind : List Part) → [] ≡ before ++ part ∷ behind → ⊥
no_front [] part behind e = absurd (cc e)
no_front (c ∷ before) part behind e = absurd (cc e)

-- The actor

module _ (m : Machine) (table : List (Option Process)) (images : List Image) (t : AreTied m (numbered table) none_spare images) (p : Process) (number : p.actor.0 ≡ length m.actors + 1) (bare : p.parts.items ≡ []) where
  abbrev pub with_actor : Machine
  with_actor = record m { actors = m.actors ++ Some [] ∷ [] }

  abbrev pub table_longer : List (Option Process)
  table_longer = table ++ Some p ∷ []

  abbrev Either : ℕ → Process → Type 0
  Either n q = (numbered table n ≡ Some q) ⊎ ((n ≡ length table + 1) × (Some p ≡ Some q))

  which : (n : ℕ) (q : Process) → numbered table_longer n ≡ Some q → Either n q
  which n q e = was_or_fresh table (Some p) n q e

  is_p : (q : Process) → Some p ≡ Some q → p ≡ q
  is_p q e = cc e

  p_there : actor_of with_actor p.actor.0 ≡ Some []
  p_there = ap (actor_of with_actor) number ∙ fresh_numbered m.actors (Some [])

  small_none : IsSmall []
  small_none = record { text = omega arith; data_pages = omega arith; stack = omega arith }

  single_none : IsSingle []
  single_none before behind part e other = absurd (no_front before part behind e)

  run_new : IsRun with_actor p
  run_new = record {
    regions = [];
    there = p_there;
    mapped = subst (λ (xs : List Part). AreMapped xs []) (sym bare) none;
    parts = subst (λ (xs : List Part). AllByRecursion (λ (x : Part). IsPart with_actor x.area x) xs) (sym bare) tt;
    small = subst IsSmall (sym bare) small_none;
    single = subst IsSingle (sym bare) single_none;
  }

  run_old : (n : ℕ) (q : Process) → numbered table n ≡ Some q → IsRun with_actor q
  run_old n q e = let run = t.run n q e in run_kept m with_actor q (still_numbered m.actors (Some []) q.actor.0 run.regions run.there ∙ sym run.there) (λ j part f. refl) run

  run_now : (n : ℕ) (q : Process) → numbered table_longer n ≡ Some q → IsRun with_actor q
  run_now n q e = elim (which n q e) [ inl old ↦ run_old n q old | inr new ↦ subst (IsRun with_actor) (is_p q new.1) run_new ]

  -- no process had the new actor
  unused : (n : ℕ) (q : Process) → numbered table n ≡ Some q → q.actor.0 ≡ p.actor.0 → ⊥
  unused n q e same = let run = t.run n q e in used m.actors q.actor.0 run.regions run.there (same ∙ number)

  actors_now : (n k : ℕ) (q r : Process) → Either n q → Either k r → q.actor.0 ≡ r.actor.0 → n ≡ k
  actors_now n k q r (inl e) (inl f) same = t.actors_apart n k q r e f same
  actors_now n k q r (inl e) (inr f) same = absurd (unused n q e (same ∙ ap (λ (x : Process). x.actor.0) (sym (is_p r f.1))))
  actors_now n k q r (inr e) (inl f) same = absurd (unused k r f (sym same ∙ ap (λ (x : Process). x.actor.0) (sym (is_p q e.1))))
  actors_now n k q r (inr e) (inr f) same = e.0 ∙ sym f.0

  was_owned : (n i cache : ℕ) → Owns (numbered table_longer) n i cache → Owns (numbered table) n i cache
  was_owned n i cache o = elim (which n o.process o.there) [
    | inl old ↦ record { process = o.process; part = o.part; there = old; has = o.has; own = o.own; is = o.is }
    | inr new ↦ absurd (let nothing : slice_get [] i ≡ Some o.part = ap (λ (xs : List Part). slice_get xs i) (sym bare) ∙ ap (λ (x : Process). slice_get x.parts.items i) (is_p o.process new.1) ∙ o.has in cc nothing)
  ]

  pub tied_started : AreTied with_actor (numbered table_longer) none_spare images
  tied_started = record {
    page = t.page;
    run = run_now;
    actors_apart = λ n k q r e f same. actors_now n k q r (which n q e) (which k r f) same;
    caches_apart = λ n k i j cache o x. t.caches_apart n k i j cache (was_owned n i cache o) (was_owned k j cache x);
    spares = λ cache s. absurd s;
    spares_free = λ n i cache s o. s;
    no_more_actors = λ actor regions e. elim (was_or_fresh m.actors (Some []) actor regions e) [
      | inl old ↦ (let f = t.no_more_actors actor regions old in (f.0, f.1, still_numbered table (Some p) f.0 f.1 f.2, f.3))
      | inr new ↦ (length table + 1, p, fresh_numbered table (Some p), number ∙ sym new.0)
    ];
    no_more_caches = λ cache c e temporary. elim (t.no_more_caches cache c e temporary) [
      | inl s ↦ inl s
      | inr o ↦ inr (o.0, o.1, record { process = o.2.process; part = o.2.part; there = still_numbered table (Some p) o.0 o.2.process o.2.there; has = o.2.has; own = o.2.own; is = o.2.is })
    ];
    images_there = t.images_there;
    images_apart = t.images_apart;
    no_more_images = t.no_more_images;
  }

-- The image

module _ (m : Machine) (processes : ℕ → Option Process) (images : List Image) (t : AreTied m processes none_spare images) (c : Cache) (image : Image) (named : c.segment ≡ Some image.seg.0) (number : image.cache.0 ≡ length m.caches + 1)
    (first : (i : ℕ) (other : Image) → slice_get images i ≡ Some other → other.seg.0 ≢ image.seg.0) where
  abbrev pub with_image : Machine
  with_image = record m { caches = m.caches ++ Some c ∷ [] }

  part_stays : (n : ℕ) (p : Process) → processes n ≡ Some p → (j : ℕ) (part : Part) → slice_get p.parts.items j ≡ Some part → cache_of with_image part.cache.0 ≡ cache_of m part.cache.0
  part_stays n p e j part f =
      let there = part_cache m part.area part (all_at (λ (part : Part). IsPart m part.area part) p.parts.items j part (t.run n p e).parts f) in
      still_numbered m.caches (Some c) part.cache.0 there.0 there.1 ∙ sym there.1

  there_now : (i : ℕ) (other : Image) → slice_get (images ++ image ∷ []) i ≡ Some other → (d : Cache) × (cache_of with_image other.cache.0 ≡ Some d) × (d.segment ≡ Some other.seg.0)
  there_now i other e = elim (get_snoc images image i other e) [
    | inl f ↦ (let d = t.images_there i other f in (d.0, still_numbered m.caches (Some c) other.cache.0 d.0 d.1, d.2))
    | inr f ↦ (c, ap (λ (x : Image). cache_of with_image x.cache.0) f.1 ∙ ap (cache_of with_image) number ∙ fresh_numbered m.caches (Some c), named ∙ ap (λ (x : Image). Some x.seg.0) (sym f.1))
  ]

  apart_now : (i j : ℕ) (a b : Image) → slice_get (images ++ image ∷ []) i ≡ Some a → slice_get (images ++ image ∷ []) j ≡ Some b → a.seg.0 ≡ b.seg.0 → i ≡ j
  apart_now i j a b e f same = go (get_snoc images image i a e) (get_snoc images image j b f)
    where
      go : (slice_get images i ≡ Some a) ⊎ ((i ≡ length images) × (a ≡ image)) → (slice_get images j ≡ Some b) ⊎ ((j ≡ length images) × (b ≡ image)) → i ≡ j
      go (inl x) (inl y) = t.images_apart i j a b x y same
      go (inl x) (inr y) = absurd (first i a x (same ∙ ap (λ (z : Image). z.seg.0) y.1))
      go (inr x) (inl y) = absurd (first j b y (sym same ∙ ap (λ (z : Image). z.seg.0) x.1))
      go (inr x) (inr y) = x.0 ∙ sym y.0

  pub tied_opened : AreTied with_image processes none_spare (images ++ image ∷ [])
  tied_opened = record {
    page = t.page;
    run = λ n p e. run_kept m with_image p refl (part_stays n p e) (t.run n p e);
    actors_apart = t.actors_apart;
    caches_apart = t.caches_apart;
    spares = λ cache s. absurd s;
    spares_free = λ n i cache s o. s;
    no_more_actors = t.no_more_actors;
    no_more_caches = λ k d e none. elim (was_or_fresh m.caches (Some c) k d e) [
      | inl old ↦ t.no_more_caches k d old none
      | inr fresh ↦ absurd (let wrong : Some image.seg.0 ≡ None = sym named ∙ ap segment_in fresh.1 ∙ none in cc wrong)
    ];
    images_there = there_now;
    images_apart = apart_now;
    no_more_images = λ k seg d e of. elim (was_or_fresh m.caches (Some c) k d e) [
      | inl old ↦ (let f = t.no_more_images k seg d old of in (f.0, f.1, get_append images (image ∷ []) f.0 f.1 f.2, f.3))
      | inr fresh ↦ (length images, image, get_last images image, number ∙ sym fresh.0)
    ];
  }
