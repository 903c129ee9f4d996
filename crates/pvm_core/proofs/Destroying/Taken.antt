-- A cache is gone: the manager after it.
use Rattle.std.proofs.Common.{◌≡◌, ◌≢◌, ℕ, ◌+◌, ◌-◌, ◌≤◌, Bool, false, List, get_or, set, length, length-set, Option, Some, None, option_map, refl, sym, ap, ◌∙◌, subst, arith, inl, inr}
use Rattle.std.specs.Prelude.{Ok, IfSome, sum_by, count_by}
use Rattle.std.specs.List.{list_any}
use Rattle.std.proofs.lemmas.List.{map-set}
use Rattle.std.proofs.lemmas.List.Elements.{All-set}
use Rattle.vm_ids.specs.Counting.{MapperCounts}
use Rattle.vm_ids.specs.Held.{Held, segments_of}
use Rattle.vm_ids.specs.declared.command.Command.TheVariants as commands
use Rattle.vm_ids.specs.declared.numbers.CacheId.{CacheId}
use Rattle.vm_ids.specs.declared.reply.Reply.TheVariants as replies
use Rattle.vm_ids.specs.Forest.Commands.{destroy, page_names}
use Rattle.vm_ids.specs.Forest.Shape.{IsBounded}
use Rattle.vm_ids.specs.Forest.Saving.{saved}
use Rattle.vm_ids.specs.declared.numbers.SegId.{SegId}
use Rattle.std.specs.FinMap.{get}
use Rattle.local_cache.specs.Arena.{Arena, Table, node_at, page_count, table_at, table_of, tables_without, without_cache}
use Rattle.local_cache.specs.Reading as arena
use Rattle.local_cache.specs.Sound.{IsListed}
use Rattle.residency.specs.declared.store.Store.{Store}
use Rattle.residency.specs.StoreForest.{store_forest}
use Rattle.residency.specs.World.{IsStoreRight, world}
use Rattle.local_cache.specs.Whole.{IsWhole, SameCaches, segment_of, size_of}
use Rattle.page_commands.specs.Steps.{ForAnyMapper, GivesBack, IsStoreTied, StaysRight}
use Rattle.page_commands.proofs.TiedStores.Tied.{tied_of}
use Rattle.vm_model.specs.Answering.{maps_in, reply}
use Rattle.vm_model.specs.Machine.{Machine, Page, cache_of, pages_in}
use Rattle.vm_model.specs.Outcome.{HasWholePages, OutcomeAt, blank, blank_cache}
use Rattle.vm_model.specs.Outcome as outcome
use Rattle.vm_model.specs.PageForest.{PageForest}
use Rattle.vm_model.specs.Laws.{IsFollowed}
use Rattle.vm_model.proofs.Forests.CachesFollowed.{destroyed_followed}
use Rattle.contexts.specs.Actors.{Actors}
use Rattle.contexts.proofs.Placing.{placed_actors}
use Rattle.pvm_core.specs.Locks.{AreHeld}
use Rattle.pvm_core.specs.Manager.{IsManagerSound, IsValid, Manager, cache_shown, caches_shown, forest_of, live_in, machine_by, machine_of}
use Rattle.pvm_core.proofs.Answering.Answered.{no_segments}
use Rattle.pvm_core.proofs.Meaning.Determined.{followed_is}
use Rattle.pvm_core.proofs.Answering.Kept.{seen}
use Rattle.pvm_core.proofs.Accesses.Loading.{size_le}
use Rattle.pvm_core.proofs.Holding.Made.{held_gone}
use Rattle.pvm_core.proofs.Meaning.Same.{live_same, set_shaped, shaped_same, shown_shaped}
use Rattle.pvm_core.proofs.Meaning.Shown.{length-pages, numbered-caches, shown_made}
use Rattle.pvm_core.proofs.Homes.Sized.{same_or_not}
use Rattle.pvm_core.proofs.Destroying.Right.{not_named, without_right, without_store}
use Rattle.pvm_core.proofs.Destroying.Rows.{destroy_row}
use Rattle.pvm_core.proofs.Destroying.Tables.{gone, left, other_table, without_at}
use Rattle.pvm_core.proofs.Meaning.Values.{blank_of, followed_of, zeroed, zeroed_whole}

module _ (a b d : Arena) (s u : Store) (t : Actors) (live : ℕ) (cache : CacheId) (n : ℕ) (i : IsManagerSound a s t live) (size : size_of a cache.0 ≡ Some n) (free : list_any (maps_in cache.0) t.actors ≡ false)
    (same : SameCaches a b) (back : ForAnyMapper s a u b GivesBack) (tied : IsStoreTied s a) (is : d ≡ without_cache b cache) (whole : IsWhole d) (bounded : IsBounded (arena.forest_of d)) where
  gives : GivesBack (world None None a s) (world None None b u)
  gives = back None None tied

  there_b : size_of b cache.0 ≡ Some n
  there_b = same.sizes cache.0 ∙ size

  tables : d.caches ≡ tables_without b.caches cache.0
  tables = ap (λ k. k.caches) is

  counted : live - n ≡ live_in d
  counted = omega (arith, left b.caches cache.0 n there_b, ap (sum_by page_count) tables, live_same a b same, i.counted)

  others : (k : ℕ) → k ≢ cache.0 → size_of d k ≡ size_of a k
  others k apart = ap (λ (ts : List (Option Table)). option_map (λ (t : Table). length t.pages) (table_at ts k)) tables ∙ ap (option_map (λ (t : Table). length t.pages)) (other_table b.caches cache.0 k apart) ∙ same.sizes k

  segment_now : (k : ℕ) → k ≢ cache.0 → segment_of d k ≡ segment_of a k
  segment_now k apart = ap (λ (ts : List (Option Table)). option_map (λ (t : Table). t.segment) (table_at ts k)) tables ∙ ap (option_map (λ (t : Table). t.segment)) (other_table b.caches cache.0 k apart) ∙ same.segments k

  -- a cache that a segment names was there before, and isn't the one that went
  left_segment : (k : ℕ) (seg : SegId) → segment_of d k ≡ Some (Some seg) → (k ≢ cache.0) × (segment_of a k ≡ Some (Some seg))
  left_segment k seg e = elim (same_or_not k cache.0) [
    | inl here ↦ absurd (let none : None ≡ Some (Some seg) = sym (ap (option_map (λ (t : Table). t.segment)) (ap (table_at d.caches) here ∙ ap (λ (ts : List (Option Table)). table_at ts cache.0) tables ∙ gone b.caches cache.0)) ∙ e in cc none)
    | inr other ↦ (other, sym (segment_now k other) ∙ e)
  ]

  pub taken_sound : IsListed b → AreHeld b u t.actors → IsManagerSound d u t (live - n)
  taken_sound listed held = record {
    nodes = whole;
    apart = λ k j seg e f. i.apart k j seg (left_segment k seg e).1 (left_segment j seg f).1;
    bounded = bounded;
    slots = omega (arith, i.slots, gives.capacity);
    counted = counted;
    few = omega (arith, i.few);
    loose = subst (λ (ps : List Bool). count_by (λ p. p) ps + 3 ≤ length ps) (sym gives.pins) i.loose;
    locked = held_gone b d u t.actors cache is free listed whole.sound.kept.listed held;
    actors = record { some = i.actors.some; placed = placed_actors cache.0 (size_of a) (size_of d) others t.actors free i.actors.placed; aligned = i.actors.aligned };
    page = i.page ∙ sym gives.page;
  }

  module _ (h : Option Held) (v : IsValid (seen a s t) h) (right : StaysRight s a u b) (rule : ForAnyMapper s a u b (λ old new. store_forest new ≡ destroy false (page_names cache 0 n) (store_forest old))) (listed : IsListed b) (empty : (page : ℕ) → node_at b cache.0 page ≡ None) where
    abbrev p : Manager
    p = seen a s t

    abbrev m : Machine
    m = machine_of (seen a s t) h

    pub forest_left : forest_of (seen d u t) h ≡ destroy false (page_names cache 0 n) (forest_of (seen a s t) h)
    forest_left = (λ j. store_forest (world h None (is j) u)) ∙ without_store (world h None b u) cache (not_named b cache listed empty) (right h None v.right) ∙ rule h None (tied_of (world h None a s) v.right)

    followed : IsFollowed (machine_of (seen a s t) h) (forest_of (seen a s t) h)
    followed = followed_of (seen a s t) h i.nodes i.actors.some v.whole

    module _ (table : Table) (there : table_of a cache.0 ≡ Some table) (long : length table.pages ≡ n) where
      here : (f : PageForest) → cache_of (machine_by (seen a s t) f) cache.0 ≡ Some (cache_shown f cache.0 table)
      here f = numbered-caches f a.caches cache.0 ∙ ap (option_map (cache_shown f cache.0)) there

      pages : (f : PageForest) → length (cache_shown f cache.0 table).pages ≡ n
      pages f = length-pages f cache.0 0 (length table.pages) ∙ long

      now : IsFollowed (record m { caches = set m.caches (cache.0 - 1) None }) (forest_of (seen d u t) h)
      now = subst (IsFollowed (record m { caches = set m.caches (cache.0 - 1) None })) (ap (λ (k : ℕ). destroy false (page_names cache 0 k) (forest_of (seen a s t) h)) (pages (forest_of (seen a s t) h)) ∙ sym forest_left)
          (destroyed_followed m (forest_of (seen a s t) h) false cache (cache_shown (forest_of (seen a s t) h) cache.0 table) (here (forest_of (seen a s t) h)) followed)

      count : length (caches_shown (forest_of (seen a s t) h) 1 a.caches) ≡ length b.caches
      count = shown_made (forest_of (seen a s t) h) 1 a.caches ∙ sym same.count

      caches_now : caches_shown (forest_of (seen d u t) h) 1 (set b.caches (cache.0 - 1) None) ≡ set m.caches (cache.0 - 1) None
      caches_now = followed_is (record m { caches = set m.caches (cache.0 - 1) None }) (forest_of (seen d u t) h) now (set b.caches (cache.0 - 1) None)
          (length-set m.caches (cache.0 - 1) None ∙ count ∙ sym (length-set b.caches (cache.0 - 1) None))
          (λ k low. set_shaped m.caches b.caches count (λ k. shaped_same a b same (get_or m.caches k None) k (shown_shaped (forest_of (seen a s t) h) 1 a.caches k)) (cache.0 - 1) None None tt k)

      pub machine_left : machine_of (seen d u t) h ≡ record m { caches = set m.caches (cache.0 - 1) None }
      machine_left = λ j. record {
        page_bytes = t.page_bytes;
        frames = gives.frames j;
        caches = (ap (caches_shown (forest_of (seen d u t) h) 1) (tables ∙ without_at b.caches cache.0 n there_b) ∙ caches_now) j;
        actors = t.actors;
        regions_made = t.regions_made;
      }

      -- with the saves that were done before
      pub follows : (named : Bool) (F : PageForest) → forest_of (seen a s t) h ≡ saved named (page_names cache 0 n) F → forest_of (seen d u t) h ≡ destroy named (page_names cache 0 n) F
      follows named F before = forest_left ∙ ap (destroy false (page_names cache 0 n)) before

      pub taken_valid : IsValid (seen d u t) h
      taken_valid = record {
        right = subst (λ (k : Arena). IsStoreRight (world h None k u)) (sym is) (without_right (world h None b u) cache (not_named b cache listed empty) (right h None v.right));
        sized = λ k seg e. (let l = left_segment k seg e in subst (λ (o : Option ℕ). IfSome h (λ h. option_map (λ (ps : List Page). length ps) (get h.segments seg.0) ≡ o)) (sym (others k l.0)) (v.sized k seg l.1));
        full = λ k seg e. v.full k seg (left_segment k seg e).1;
        whole = subst (λ (k : Machine). IfSome h (λ _. HasWholePages k)) (sym machine_left) (go h v.whole);
      }
        where
          go : (g : Option Held) → IfSome g (λ _. HasWholePages (machine_of (seen a s t) h)) → IfSome g (λ _. HasWholePages (record m { caches = set m.caches (cache.0 - 1) None }))
          go None w = tt
          go (Some g) w = All-set (outcome.IsWhole t.page_bytes) m.caches (cache.0 - 1) None tt w

      pub taken : (F : PageForest) (rises : MapperCounts) → OutcomeAt (segments_of h) (machine_of (seen a s t) h) (Some F) (commands.Destroy cache) (Ok replies.Done) (machine_of (seen d u t) h) rises
      taken F rises = go h refl
        where
          go : (g : Option Held) → h ≡ g → OutcomeAt (segments_of g) (machine_of (seen a s t) h) (Some F) (commands.Destroy cache) (Ok replies.Done) (machine_of (seen d u t) h) rises
          go (Some g) e = destroy_row m cache.0 (cache_shown (forest_of (seen a s t) h) cache.0 table) (here (forest_of (seen a s t) h)) free ∙ ap (λ (k : Machine). reply replies.Done k) (sym machine_left)
          go None e =
              let w : Machine = machine_by (seen a s t) (zeroed (seen a s t) h) in
              let blanked : machine_of (seen a s t) h ≡ blank w = ap (machine_of (seen a s t)) e ∙ blank_of (seen a s t) (zeroed (seen a s t) h) i.nodes in
              record {
                whole = w;
                whole_next = record w { caches = set w.caches (cache.0 - 1) None };
                segments = no_segments;
                whole_answer = Ok replies.Done;
                is = blanked;
                is_next = machine_left ∙ ap (λ (k : Machine). record k { caches = set k.caches (cache.0 - 1) None }) blanked
                    ∙ ap (λ cs. record (blank w) { caches = cs }) (sym (map-set (option_map blank_cache) w.caches (cache.0 - 1) None));
                pages = zeroed_whole (seen a s t) h i.nodes;
                alike = refl;
                outcome = destroy_row w cache.0 (cache_shown (zeroed (seen a s t) h) cache.0 table) (here (zeroed (seen a s t) h)) free;
              }
