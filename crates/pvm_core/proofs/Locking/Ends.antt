-- A manager whose pages read as they did, and whose locks hold the pages of other actors.
use Rattle.std.proofs.Common.{◌≡◌, ℕ, zero, suc, ◌+◌, ◌≤◌, List, [], ◌∷◌, length, Option, Some, None, refl, sym, ap, ◌∙◌, subst, arith}
use Rattle.std.specs.Prelude.{IfSome, option_map}
use Rattle.vm_ids.specs.Counting.{MapperCounts}
use Rattle.vm_ids.specs.Held.{Held}
use Rattle.vm_ids.specs.declared.node_name.NodeName.{NodeName}
use Rattle.vm_ids.specs.Forest.Commands.{page_name}
use Rattle.vm_ids.specs.Forest.Nodes.{IsNode}
use Rattle.vm_ids.specs.Forest.Reading.{value_of}
use Rattle.vm_ids.proofs.Forest.Agreeing.{bounded_from, live_count-le, working_count-le}
use Rattle.local_cache.specs.Arena.{Arena, Table}
use Rattle.local_cache.specs.Reading as arena
use Rattle.local_cache.specs.Reading.{name_of}
use Rattle.local_cache.proofs.Forest.Reading.{IsNode-forest_of, forest_of-IsNode}
use Rattle.residency.specs.declared.store.Store.{Store}
use Rattle.residency.specs.World.{world}
use Rattle.vm_model.specs.Machine as model
use Rattle.vm_model.specs.Machine.{Machine}
use Rattle.vm_model.specs.Outcome.{HasWholePages}
use Rattle.vm_model.specs.PageForest.{PageForest}
use Rattle.contexts.specs.Actors.{Actors, machine_with}
use Rattle.contexts.specs.Placed.{AreRight}
use Rattle.contexts.proofs.Placing.{right_weaker}
use Rattle.pvm_core.specs.Holding.{HoldsLocked, ReadsAlike}
use Rattle.pvm_core.specs.Locks.{AreHeld, locks_over}
use Rattle.pvm_core.specs.Manager.{AreFull, IsManagerSound, IsValid, cache_shown, caches_shown, forest_of, machine_by, machine_of, pages_shown, shown}
use Rattle.pvm_core.specs.Reaching.{Reach}
use Rattle.local_cache.specs.Arena.{locked_count, locks_of}
use Rattle.local_cache.specs.Whole.{size_of}
use Rattle.pvm_core.proofs.Answering.Kept.{seen, sizeless, unsized_right}
use Rattle.pvm_core.proofs.Answering.Reaching.{as_told, reach_told}
use Rattle.pvm_core.proofs.Homes.Full.{full_after}
use Rattle.pvm_core.proofs.Homes.Pushed.{values_reached}
use Rattle.pvm_core.proofs.Homes.Sized.{apart_same, sized_after}
use Rattle.pvm_core.proofs.Meaning.Same.{live_same}
use Rattle.pvm_core.proofs.Meaning.Shown.{id_of}
use Rattle.pvm_core.proofs.Readiness.Granted.{shown_same}

-- Forests that read alike show the same caches

module _ (f g : PageForest) (values : (x : NodeName) → value_of g x ≡ value_of f x) where
  pages_alike : (cache page n : ℕ) → pages_shown g cache page n ≡ pages_shown f cache page n
  pages_alike cache page n = go page n
    where
      go : (page n : ℕ) → pages_shown g cache page n ≡ pages_shown f cache page n
      go page zero = refl
      go page (suc n) = λ i. shown (values (page_name (id_of cache) page) i) ∷ go (page + 1) n i

  cache_alike : (cache : ℕ) (o : Option Table) → option_map (cache_shown g cache) o ≡ option_map (cache_shown f cache) o
  cache_alike cache None = refl
  cache_alike cache (Some t) = λ i. Some (record { segment = option_map (λ s. s.0) t.segment; pages = pages_alike cache 0 (length t.pages) i })

  pub shown_alike : (first : ℕ) (ts : List (Option Table)) → caches_shown g first ts ≡ caches_shown f first ts
  shown_alike first [] = refl
  shown_alike first (t ∷ ts) = λ i. cache_alike first t i ∷ shown_alike (first + 1) ts i

-- locks hold the pages of these actors
pub held_of : (a : Arena) (s : Store) (actors : List (Option model.Actor)) → ((cache page : ℕ) → locks_of a cache page ≡ locks_over actors cache page) → HoldsLocked a s → locked_count a + 3 ≤ length s.frames.held → AreHeld a s actors
held_of a s actors counted holds few = record { counted = counted; resident = holds.resident; pinned = holds.pinned; pins = holds.pins; few = few }

-- The manager at the end

module _ (a b : Arena) (s u : Store) (h g : Option Held) (i j : Option ℕ) (c d : MapperCounts) (alike : ReadsAlike (world h i a s) (world g j b u) c d) (t : Actors) (live : ℕ) (sound : IsManagerSound a s t live) where
  -- the machine with the pages of any forest
  pub ends_by : (x : Actors) (f : PageForest) → machine_by (seen b u x) f ≡ machine_with (caches_shown f 1 a.caches) (length s.frames.held) x
  ends_by x f = λ n. record {
    page_bytes = x.page_bytes;
    frames = alike.frames n;
    caches = shown_same f 1 a.caches b.caches alike.same.count (λ k. alike.same.sizes (suc k)) (λ k. alike.same.segments (suc k)) n;
    actors = x.actors;
    regions_made = x.regions_made;
  }

  values : (x : Actors) (y : NodeName) → value_of (forest_of (seen b u x) g) y ≡ value_of (forest_of (seen a s t) h) y
  values x y = ap (λ f. value_of f y) (sym (sizeless g j b u)) ∙ alike.values y ∙ ap (λ f. value_of f y) (sizeless h i a s)

  pub ends_machine : (x : Actors) → machine_of (seen b u x) g ≡ machine_with (caches_shown (forest_of (seen a s t) h) 1 a.caches) (length s.frames.held) x
  ends_machine x = ends_by x (forest_of (seen b u x) g) ∙ ap (λ cs. machine_with cs (length s.frames.held) x) (shown_alike (forest_of (seen a s t) h) (forest_of (seen b u x) g) (values x) 1 a.caches)

  pub ends_reach : Reach (machine_of (seen a s t) h) h g c d
  ends_reach = values_reached (seen a s t) h sound.nodes sound.apart i j b u g c d alike.later alike.told

  node_kept : (x : NodeName) → IsNode (arena.forest_of b) x → IsNode (arena.forest_of a) x
  node_kept x is =
      let f = forest_of-IsNode b x is in
      subst (IsNode (arena.forest_of a)) (sym (alike.names f.0) ∙ f.2) (IsNode-forest_of a sound.nodes.sound.kept.named f.0 (sym (alike.held f.0) ∙ f.1))

  kept_node : (x : NodeName) → IsNode (arena.forest_of a) x → IsNode (arena.forest_of b) x
  kept_node x is =
      let f = forest_of-IsNode a x is in
      subst (IsNode (arena.forest_of b)) (alike.names f.0 ∙ f.2) (IsNode-forest_of b alike.whole.sound.kept.named f.0 (alike.held f.0 ∙ f.1))

  pub ends_sound : (x : Actors) → x.page_bytes ≡ t.page_bytes → AreRight (size_of a) x → AreHeld b u x.actors → IsManagerSound b u x live
  ends_sound x page right held = record {
    nodes = alike.whole;
    apart = apart_same a b alike.same.segments sound.apart;
    bounded = bounded_from (arena.forest_of a) (arena.forest_of b) (working_count-le (arena.forest_of b) (arena.forest_of a) (λ y is w. node_kept y is)) (live_count-le (arena.forest_of a) (arena.forest_of b) (λ y is l. kept_node y is)) sound.bounded;
    slots = omega (arith, alike.slots, sound.slots);
    counted = sound.counted ∙ sym (live_same a b alike.same);
    few = sound.few;
    loose = omega (arith, held.pins, held.few, alike.right.tied.fitted.pinned_frames);
    locked = held;
    actors = right_weaker (size_of a) (size_of b) x (λ n k e. alike.same.sizes n ∙ e) right;
    page = page ∙ sound.page ∙ sym alike.page;
  }

  pub ends_valid : (x : Actors) → x.page_bytes ≡ t.page_bytes → IsValid (seen a s t) h → IsValid (seen b u x) g
  ends_valid x page v = record {
    right = unsized_right g j b u alike.right;
    sized = sized_after (seen a s t) b h g alike.same.segments alike.same.sizes ends_reach.pushes ends_reach.rule v.sized;
    full = full_by x.page_bytes page (full_after (seen a s t) b h g alike.same.segments ends_reach.pushes ends_reach.rule v.whole v.full);
    whole = subst (λ (m : Machine). IfSome g (λ _. HasWholePages m)) (sym (ends_machine x)) (whole_by x.page_bytes page (as_told (HasWholePages (machine_of (seen a s t) h)) h g (reach_told (machine_of (seen a s t) h) h g c d ends_reach) v.whole));
  }
    where
      full_by : (n : ℕ) → n ≡ t.page_bytes → AreFull b t.page_bytes g → AreFull b n g
      full_by n e full = subst (λ k. AreFull b k g) (sym e) full

      whole_by : (n : ℕ) → n ≡ t.page_bytes → IfSome g (λ _. HasWholePages (machine_of (seen a s t) h)) → IfSome g (λ _. HasWholePages (machine_with (caches_shown (forest_of (seen a s t) h) 1 a.caches) (length s.frames.held) (record x { page_bytes = n })))
      whole_by n e w = subst (λ k. IfSome g (λ _. HasWholePages (machine_with (caches_shown (forest_of (seen a s t) h) 1 a.caches) (length s.frames.held) (record x { page_bytes = k })))) (sym e) (any_actors g w)
        where
          any_actors : (g : Option Held) → IfSome g (λ _. HasWholePages (machine_of (seen a s t) h)) → IfSome g (λ _. HasWholePages (machine_with (caches_shown (forest_of (seen a s t) h) 1 a.caches) (length s.frames.held) (record x { page_bytes = t.page_bytes })))
          any_actors None w = tt
          any_actors (Some k) w = w
