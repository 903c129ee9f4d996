-- No processes over a bare manager can be called.
use Rattle.std.proofs.Common.{◌≡◌, ◌==◌, ℕ, ◌≤◌, Bool, true, false, cond, List, [], length, Option, Some, None, refl, sym, ap, subst, ◌∙◌, arith}
use Rattle.std.specs.Prelude.{option_and_then, slice_get}
use Rattle.interface_callers.proofs.Words.{Actor, Cache, GhostsOfGmi, Held, LIVE_PAGES, LIVING_ACTORS, Machine, live_pages, living_actors, numbered}
use Rattle.interface_callers.proofs.Blanks.{blank_bare}
use Rattle.mix_process.specs.Tying.{AreAble, AreSynchronised, AreTied, IsBare, none_spare}
use Rattle.mix_process.specs.declared.mix.Image.{Image}
use Rattle.mix_process.specs.declared.process.Process.{Process}

nothing : {A : Type 0} (b : Bool) → cond b None (option_and_then {T = Option A} (λ x. x) None) ≡ None
nothing true = refl
nothing false = refl

-- nothing has a number in no list
no_number : {A : Type 0} (xs : List (Option A)) (n : ℕ) (x : A) → xs ≡ [] → numbered xs n ≡ Some x → ⊥
no_number {A} xs n x none e = let wrong : Some x ≡ None = sym e ∙ ap (λ (ys : List (Option A)). numbered ys n) none ∙ nothing {A = A} (n == 0) in absurd (cc wrong)

module _ (m : Machine) (page : m.page_bytes ≡ 4096) (caches : m.caches ≡ []) (actors : m.actors ≡ []) where
  abbrev none : ℕ → Option Process
  none n = let xs : List (Option Process) = [] in numbered xs n

  no_process : (n : ℕ) (p : Process) → none n ≡ Some p → ⊥
  no_process n p e = no_number [] n p refl e

  no_image : (i : ℕ) (image : Image) → slice_get [] i ≡ Some image → ⊥
  no_image i image e = absurd (cc e)

  tied_bare : AreTied m none none_spare []
  tied_bare = record {
    page = page;
    run = λ n p e. absurd (no_process n p e);
    actors_apart = λ n k p q e f same. absurd (no_process n p e);
    caches_apart = λ n k i j cache o x. absurd (no_process n o.process o.there);
    spares = λ cache s. absurd s;
    spares_free = λ n i cache s o. s;
    no_more_actors = λ actor regions e. absurd (no_number m.actors actor regions actors e);
    no_more_caches = λ cache c e temporary. absurd (no_number m.caches cache c caches e);
    images_there = λ i image e. absurd (no_image i image e);
    images_apart = λ i j image other e f same. absurd (no_image i image e);
    no_more_images = λ cache seg c e named. absurd (no_number m.caches cache c caches e);
  }

  synchronised_bare : (told : Option Held) → AreSynchronised m [] told
  synchronised_bare None = tt
  synchronised_bare (Some h) = λ i image e. absurd (no_image i image e)

  no_pages : live_pages m ≤ LIVE_PAGES
  no_pages = subst (λ (xs : List (Option Cache)). live_pages (record m { caches = xs }) ≤ LIVE_PAGES) (sym caches) (omega arith)

  no_actors : living_actors m ≤ LIVING_ACTORS
  no_actors = subst (λ (xs : List (Option Actor)). living_actors (record m { actors = xs }) ≤ LIVING_ACTORS) (sym actors) (omega arith)

pub bare_able : {Manager X Chooser : Type 0} (G : GhostsOfGmi Manager X Chooser) (gmi : Manager) (told : Option Held) (page_bytes : Option ℕ) → IsBare G gmi told page_bytes
    → AreAble G gmi [] told page_bytes 0 (λ n. let xs : List (Option Process) = [] in numbered xs n) none_spare
bare_able G gmi told page_bytes b =
    let m : Machine = G.machine gmi told in
    record {
      valid = b.valid;
      unlimited = b.unlimited;
      fits = b.fits;
      live = no_pages m b.page b.caches b.actors;
      living = no_actors m b.page b.caches b.actors;
      few = omega arith;
      most = omega (arith, ap (λ (xs : List (Option Actor)). length xs) b.actors);
      tied = tied_bare m b.page b.caches b.actors;
      synchronised = synchronised_bare m b.page b.caches b.actors told;
      blank = blank_bare told m b.caches;
    }
