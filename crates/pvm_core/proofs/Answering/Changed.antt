-- A command that leaves the caches' sizes: the manager after it, and the machine that its forest
-- shows.
use Rattle.std.proofs.Common.{◌≡◌, ℕ, zero, suc, ◌+◌, ◌*◌, ◌≤◌, Bool, List, [], ◌∷◌, get_or, set, length, map, Option, Some, None, option_map, refl, sym, ap, ◌∙◌, subst, arith}
use Rattle.std.specs.Prelude.{count_by}
use Rattle.vm_ids.specs.Held.{Held}
use Rattle.vm_ids.specs.Forest.Shape.{IsBounded}
use Rattle.vm_ids.specs.Forest.Reading.{live_count}
use Rattle.local_cache.specs.Arena.{Arena, Table}
use Rattle.local_cache.specs.Reading as arena
use Rattle.residency.specs.declared.store.Store.{Store}
use Rattle.residency.specs.World.{world}
use Rattle.local_cache.specs.Whole.{IsWhole, SameCaches, size_of}
use Rattle.page_commands.specs.Steps.{ForAnyMapper, GivesBack, IsStoreTied}
use Rattle.vm_model.specs.Machine.{Cache, Page}
use Rattle.vm_model.specs.Outcome.{blank, blank_cache}
use Rattle.vm_model.specs.PageForest.{PageForest}
use Rattle.vm_model.specs.Laws.{IsFollowed}
use Rattle.contexts.specs.Actors.{Actors}
use Rattle.contexts.proofs.Placing.{right_weaker}
use Rattle.pvm_core.specs.Locks.{AreHeld}
use Rattle.pvm_core.specs.Manager.{IsManagerSound, caches_shown, forest_of, machine_by, machine_of}
use Rattle.pvm_core.proofs.Meaning.Determined.{IsShaped, followed_is}
use Rattle.pvm_core.proofs.Answering.Kept.{seen}
use Rattle.pvm_core.proofs.Meaning.Live.{live_most}
use Rattle.pvm_core.proofs.Meaning.Same.{live_same, shaped_same, shown_shaped}
use Rattle.pvm_core.proofs.Homes.Sized.{apart_same}
use Rattle.pvm_core.proofs.Meaning.Shown.{shown_made}
use Rattle.pvm_core.proofs.Meaning.Values.{blank_of}

nothing : (ps qs : List Page) → length ps ≡ length qs → map {B = Page} (λ (p : Page). []) ps ≡ map {B = Page} (λ (p : Page). []) qs
nothing [] [] e = refl
nothing (p ∷ ps) (q ∷ qs) e = ap (λ (xs : List Page). [] ∷ xs) (nothing ps qs (omega (arith, e)))
nothing [] (q ∷ qs) e = absurd (omega (arith, e))
nothing (p ∷ ps) [] e = absurd (omega (arith, e))

one_blank : (c d : Option Cache) (t : Option Table) → IsShaped c t → IsShaped d t → option_map blank_cache c ≡ option_map blank_cache d
one_blank None None None h k = refl
one_blank (Some c) (Some d) (Some t) h k = λ j. Some (record { segment = (h.0 ∙ sym k.0) j; pages = nothing c.pages d.pages (h.1 ∙ sym k.1) j })
one_blank None (Some d) None h k = absurd k
one_blank (Some c) d None h k = absurd h
one_blank None d (Some t) h k = absurd h
one_blank (Some c) None (Some t) h k = absurd k

-- caches of one shape are the same without their bytes
blanks_same : (cs ds : List (Option Cache)) (ts : List (Option Table)) → length cs ≡ length ts → length ds ≡ length ts → ((k : ℕ) → IsShaped (get_or cs k None) (get_or ts k None)) → ((k : ℕ) → IsShaped (get_or ds k None) (get_or ts k None))
    → map (option_map blank_cache) cs ≡ map (option_map blank_cache) ds
blanks_same [] [] [] m n e f = refl
blanks_same (c ∷ cs) (d ∷ ds) (t ∷ ts) m n e f = λ j. one_blank c d t (e 0) (f 0) j ∷ blanks_same cs ds ts (omega (arith, m)) (omega (arith, n)) (λ k. e (suc k)) (λ k. f (suc k)) j
blanks_same [] ds (t ∷ ts) m n e f = absurd (omega (arith, m))
blanks_same (c ∷ cs) ds [] m n e f = absurd (omega (arith, m))
blanks_same cs [] (t ∷ ts) m n e f = absurd (omega (arith, n))
blanks_same cs (d ∷ ds) [] m n e f = absurd (omega (arith, n))

-- one of the caches is replaced by one of its table's shape
pub put_shaped : (cs : List (Option Cache)) (ts : List (Option Table)) → ((k : ℕ) → IsShaped (get_or cs k None) (get_or ts k None)) → (i : ℕ) (x : Option Cache) → IsShaped x (get_or ts i None) → (k : ℕ) → IsShaped (get_or (set cs i x) k None) (get_or ts k None)
put_shaped [] ts each i x s k = each k
put_shaped (c ∷ cs) [] each i x s k = put_none (c ∷ cs) each i x s k
  where
    put_none : (cs : List (Option Cache)) → ((k : ℕ) → IsShaped (get_or cs k None) None) → (i : ℕ) (x : Option Cache) → IsShaped x None → (k : ℕ) → IsShaped (get_or (set cs i x) k None) None
    put_none [] each i x s k = each k
    put_none (c ∷ cs) each zero x s zero = s
    put_none (c ∷ cs) each zero x s (suc k) = each (suc k)
    put_none (c ∷ cs) each (suc i) x s zero = each 0
    put_none (c ∷ cs) each (suc i) x s (suc k) = put_none cs (λ k. each (suc k)) i x s k
put_shaped (c ∷ cs) (t ∷ ts) each zero x s zero = s
put_shaped (c ∷ cs) (t ∷ ts) each zero x s (suc k) = each (suc k)
put_shaped (c ∷ cs) (t ∷ ts) each (suc i) x s zero = each 0
put_shaped (c ∷ cs) (t ∷ ts) each (suc i) x s (suc k) = put_shaped cs ts (λ k. each (suc k)) i x s k

module _ (b d : Arena) (s u : Store) (t : Actors) (live : ℕ) (i : IsManagerSound b s t live) (same : SameCaches b d) (back : ForAnyMapper s b u d GivesBack) (tied : IsStoreTied s b) (whole : IsWhole d) where
  gives : GivesBack (world None None b s) (world None None d u)
  gives = back None None tied

  pub changed_sound : IsBounded (arena.forest_of d) → AreHeld d u t.actors → IsManagerSound d u t live
  changed_sound bounded held = record {
    nodes = whole;
    apart = apart_same b d same.segments i.apart;
    bounded = bounded;
    slots = omega (arith, i.slots, gives.capacity);
    counted = i.counted ∙ sym (live_same b d same);
    few = i.few;
    loose = subst (λ (ps : List Bool). count_by (λ p. p) ps + 3 ≤ length ps) (sym gives.pins) i.loose;
    locked = held;
    actors = right_weaker (size_of b) (size_of d) t (λ n k e. same.sizes n ∙ e) i.actors;
    page = i.page ∙ sym gives.page;
  }

  pub slots_enough : 2 * live_count (arena.forest_of b) ≤ length s.slots
  slots_enough = omega (arith, live_most b i.nodes, i.counted, i.slots)

  module _ (h : Option Held) (cs : List (Option Cache)) (many : length cs ≡ length b.caches) (shapes : (k : ℕ) → IsShaped (get_or cs k None) (get_or b.caches k None)) where
    shapes_now : (k : ℕ) → IsShaped (get_or cs k None) (get_or d.caches k None)
    shapes_now k = shaped_same b d same (get_or cs k None) k (shapes k)

    pub machine_is : IsFollowed (record (machine_of (seen b s t) h) { caches = cs }) (forest_of (seen d u t) h) → machine_of (seen d u t) h ≡ record (machine_of (seen b s t) h) { caches = cs }
    machine_is F = λ j. record {
      page_bytes = t.page_bytes;
      frames = gives.frames j;
      caches = followed_is (record (machine_of (seen b s t) h) { caches = cs }) (forest_of (seen d u t) h) F d.caches (many ∙ sym same.count) (λ k low. shapes_now k) j;
      actors = t.actors;
      regions_made = t.regions_made;
    }

    pub blank_is : (f : PageForest) → h ≡ None → machine_of (seen d u t) h ≡ blank (record (machine_by (seen b s t) f) { caches = cs })
    blank_is f e = ap (machine_of (seen d u t)) e ∙ blank_of (seen d u t) f whole ∙ (λ j. record {
      page_bytes = t.page_bytes;
      frames = gives.frames j;
      caches = blanks_same (caches_shown f 1 d.caches) cs d.caches (shown_made f 1 d.caches) (many ∙ sym same.count) (shown_shaped f 1 d.caches) shapes_now j;
      actors = t.actors;
      regions_made = t.regions_made;
    })
