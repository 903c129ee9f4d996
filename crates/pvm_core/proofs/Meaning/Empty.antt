-- A manager without caches.
use Rattle.std.proofs.Common.{◌≡◌, ℕ, zero, suc, ◌≤◌, ◌^◌, ◌+◌, ◌*◌, List, [], length, Option, Some, None, is_some, option_map, unwrap_or, refl, sym, ap, ◌∙◌, subst, arith, replicate, true, false}
use Rattle.std.specs.Prelude.{IfSome, count_by, option_and_then, slice_get, sum_by}
use Rattle.std.specs.List.{All, slice_index_or}
use Rattle.std.proofs.lemmas.Bool.{false≢true}
use Rattle.std.proofs.lemmas.List.{length-replicate}
use Rattle.std.proofs.lemmas.List.Elements.{All-nil, All-same}
use Rattle.vm_ids.specs.Held.{Held}
use Rattle.vm_ids.specs.Forest.Nodes.{no_forest}
use Rattle.vm_ids.specs.Forest.Shape.{IsBounded, IsConsistent}
use Rattle.vm_ids.proofs.Forest.Laws.Copying.{no_forest_is_bounded, no_forest_is_consistent}
use Rattle.vm_ids.proofs.Forest.NameMap.{get-empty}
use Rattle.vm_ids.proofs.Forest.PageMap.{same_forest}
use Rattle.vm_ids.proofs.Places.{count-replicate_none}
use Rattle.local_cache.specs.declared.own_state.OwnState.{OwnState}
use Rattle.frame_pool.specs.Pool.{pinned_count}
use Rattle.local_cache.specs.Arena.{Arena, Table, is_locked, locked_count, locked_pages, locks_of, page_count, table_at}
use Rattle.local_cache.specs.Reading.{forest_of}
use Rattle.local_cache.specs.ReadingBy.{forest_by}
use Rattle.local_cache.specs.Sound.{IsSound}
use Rattle.local_cache.proofs.Forest.Reading.{get-forest_by_none}
use Rattle.local_cache.proofs.Forest.ReadingBy.{forest_by-copies, forest_by-made}
use Rattle.residency.specs.declared.store.Store.{Store}
use Rattle.residency.specs.StoreForest.{store_forest}
use Rattle.residency.specs.World.{HasNoNodes, own_page, world}
use Rattle.local_cache.specs.Whole.{size_of}
use Rattle.local_cache.proofs.Whole.LivePages.{no_caches, no_nodes}
use Rattle.vm_model.specs.Outcome.{IsWhole}
use Rattle.contexts.specs.Actors.{Actors}
use Rattle.contexts.specs.Placed.{ArePlaced, EachRegion, IsAligned}
use Rattle.pvm_core.specs.Locks.{has_locked, locks_over}
use Rattle.vm_ids.specs.declared.numbers.SegId.{SegId}
use Rattle.pvm_core.specs.Manager as manager
use Rattle.pvm_core.specs.Manager.{caches_shown}

none_pinned : (n f : ℕ) → slice_index_or (replicate n false) f false ≡ false
none_pinned zero f = refl
none_pinned (suc n) zero = refl
none_pinned (suc n) (suc f) = none_pinned n f

none_bound : (a : Arena) (n f : ℕ) → has_locked a (replicate n None) f ≡ false
none_bound a zero f = refl
none_bound a (suc n) zero = refl
none_bound a (suc n) (suc f) = none_bound a n f

none_at : (cache : ℕ) → table_at [] cache ≡ None
none_at zero = refl
none_at (suc k) = refl

none_locked : (a : Arena) → a.caches ≡ [] → (cache page : ℕ) → locks_of a cache page ≡ 0
none_locked a tables cache page = ap (λ (ts : List (Option Table)). unwrap_or (option_and_then (λ (t : Table). slice_get t.locks page) (table_at ts cache)) 0) tables
    ∙ ap (λ (o : Option Table). unwrap_or (option_and_then (λ (t : Table). slice_get t.locks page) o) 0) (none_at cache)

none_named : (ts : List (Option Table)) → ts ≡ [] → (cache : ℕ) (segment : SegId) → option_map (λ (t : Table). t.segment) (table_at ts cache) ≡ Some (Some segment) → ⊥
none_named ts e cache segment is = (let q : None ≡ Some (Some segment) = sym (ap (λ (ts : List (Option Table)). option_map (λ (t : Table). t.segment) (table_at ts cache)) e ∙ ap (option_map (λ (t : Table). t.segment)) (none_at cache)) ∙ is in cc q)

-- no segment is as long as a cache that it names, for none is named
pub none_full : (a : Arena) (page_bytes : ℕ) (h : Option Held) → a.caches ≡ [] → manager.AreFull a page_bytes h
none_full a page_bytes h tables cache segment is = absurd (none_named a.caches tables cache segment is)

pub none_sized : (a : Arena) (h : Option Held) → a.caches ≡ [] → manager.AreSized a h
none_sized a h tables cache segment is = absurd (none_named a.caches tables cache segment is)

pub none_sound : (frames page : ℕ) (a : Arena) (s : Store) (t : Actors) → 3 ≤ frames → 1 ≤ page → page ≤ 2 ^ 16 → HasNoNodes a → a.caches ≡ [] → forest_of a ≡ no_forest → IsSound a
    → s ≡ record { frames = record { page = page; held = replicate frames false; pinned = replicate frames false; bytes = replicate frames (replicate page 0) }; slots = []; map = replicate frames None; marks = replicate frames false; tables = replicate (4 * frames) None }
    → t.page_bytes ≡ page → t.actors ≡ [] → manager.IsManagerSound a s t 0
none_sound frames page a s t three some most none tables forest sound is size items = record {
  nodes = record {
    sound = sound;
    consistent = subst IsConsistent (sym forest) (no_forest_is_consistent OwnState);
    pages = λ cache page count size. absurd (no_caches a tables cache.0 count size);
    few = no_nodes (forest_of a) forest;
  };
  apart = λ cache other segment one two. absurd (none_named a.caches tables cache segment one);
  bounded = subst IsBounded (sym forest) (no_forest_is_bounded OwnState);
  slots = omega arith;
  counted = sym (ap (sum_by page_count) tables);
  few = omega arith;
  loose = subst (λ (s : Store). count_by (λ p. p) s.frames.pinned + 3 ≤ length s.frames.pinned) (sym is) (omega (arith, three, length-replicate frames false, count-replicate_none (λ h. h) frames false refl));
  locked = record {
    counted = λ cache page. none_locked a tables cache page ∙ sym (ap (λ xs. locks_over xs cache page) items);
    resident = λ cache page node at locked. absurd (let none : true ≡ false = sym locked ∙ ap is_locked (none_locked a tables cache page) in cc none);
    pinned = λ f. ap (λ (s : Store). slice_index_or s.frames.pinned f false) is ∙ none_pinned frames f ∙ sym (ap (λ (s : Store). has_locked a s.map f) is ∙ none_bound a frames f);
    pins = ap (λ (s : Store). pinned_count s.frames) is ∙ count-replicate_none (λ h. h) frames false refl ∙ sym (ap (sum_by locked_pages) tables);
    few = subst (λ (s : Store). locked_count a + 3 ≤ length s.frames.held) (sym is) (omega (arith, three, length-replicate frames false, ap (sum_by locked_pages) tables));
  };
  actors = record {
    some = subst (λ (n : ℕ). 1 ≤ n) (sym size) some;
    placed = All-same (ArePlaced (size_of a)) t.actors [] items (All-nil (ArePlaced (size_of a)));
    aligned = All-same (EachRegion (IsAligned t.page_bytes)) t.actors [] items (All-nil (EachRegion (IsAligned t.page_bytes)));
  };
  page = size ∙ sym (ap (λ (s : Store). s.frames.page) is);
}

pub none_forest : (h : Option Held) (a : Arena) (s : Store) → HasNoNodes a → (a.made ≡ 0) × (a.copies ≡ 0) → store_forest (world h None a s) ≡ no_forest
unfolding store_forest
none_forest h a s none counters =
    same_forest (forest_by (own_page (world h None a s)) a) no_forest
    (λ x. get-forest_by_none a (own_page (world h None a s)) x (λ n k. absurd (false≢true (sym (ap is_some (none n)) ∙ k))) ∙ sym (get-empty x))
    (forest_by-made (own_page (world h None a s)) a ∙ counters.0)
    (forest_by-copies (own_page (world h None a s)) a ∙ counters.1)

pub none_whole : (h : Option Held) (page : ℕ) (a : Arena) (s : Store) → a.caches ≡ [] → IfSome h (λ _. All (IsWhole page) (caches_shown (store_forest (world h None a s)) 1 a.caches))
none_whole None page a s tables = tt
none_whole (Some h) page a s tables = subst (λ (ts : List (Option Table)). All (IsWhole page) (caches_shown (store_forest (world (Some h) None a s)) 1 ts)) (sym tables) (All-nil (IsWhole page))
