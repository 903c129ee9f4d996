-- Lock, unlock and the end of an actor: what the manager keeps, and what it answers.
use Rattle.std.proofs.Common.{◌≡◌, ℕ, ◌+◌, ◌-◌, ◌*◌, ◌<◌, ◌≤◌, ◌^◌, true, false, List, [], ◌∷◌, length, Option, Some, None, refl, sym, ap, ◌∙◌, subst, arith}
use Rattle.std.specs.Prelude.{IsSomeAnd, Ok, Err, min, nat_lt, unwrap_or}
use Rattle.std.specs.Option.{option_map_or}
use Rattle.std.proofs.lemmas.Bool.{ltb-false}
use Rattle.std.proofs.lemmas.List.Sums.{count_by-le-length, sum_by-cons}
use Rattle.vm_ids.specs.Counting.{MapperCounts, Rose}
use Rattle.vm_ids.specs.Held.{Held, Segments}
use Rattle.vm_ids.specs.declared.command.Command.TheVariants as commands
use Rattle.vm_ids.specs.declared.command.Extent.{Extent}
use Rattle.vm_ids.specs.declared.numbers.RegionId.{RegionId}
use Rattle.vm_ids.specs.declared.reply.FaultAt.TheVariants as faults
use Rattle.vm_ids.specs.declared.reply.Reply.TheVariants as replies
use Rattle.vm_ids.specs.declared.reply.Trouble.TheVariants as troubles
use Rattle.vm_ids.specs.Forest.Commands.{extent_names, lock, page_names}
use Rattle.vm_ids.proofs.Places.{bit}
use Rattle.local_cache.specs.Arena.{Arena, locked_count, locks_of}
use Rattle.local_cache.specs.Whole.{IsWhole, size_of}
use Rattle.local_cache.proofs.Changes.Locked.{locked_count_stays}
use Rattle.segment_ops.specs.Ranges.{HasRange}
use Rattle.segment_ops.proofs.Unsaved.{range_fits}
use Rattle.residency.specs.declared.store.Store.{Store}
use Rattle.residency.specs.World.{world}
use Rattle.vm_model.specs.Answering.{Answer, Answered, lock_of, reply}
use Rattle.vm_model.specs.Asking.{pages_of_region}
use Rattle.vm_model.specs.Following.{pages_locked, pages_passed, pages_under}
use Rattle.vm_model.specs.Machine as model
use Rattle.vm_model.specs.Machine.{Machine, Region, locks}
use Rattle.vm_model.specs.Outcome.{IsPageUnder, NotRefusedButFor, Outcome}
use Rattle.vm_model.specs.PageForest.{PageForest}
use Rattle.vm_model.specs.Regions.{region_with}
use Rattle.vm_model.specs.Run.{CallIs}
use Rattle.vm_model.specs.declared.limits.TheConstants.{MOST_MADE, UNLOCKED_FRAMES}
use Rattle.contexts.specs.Actors.{Actors, machine_with, region_count, regions_among}
use Rattle.contexts.proofs.Placing.{right_with_locked}
use Rattle.contexts.proofs.RegionRows.{lock_row, with_locked}
use Rattle.pvm_core.specs.Holding.{AreOwned, FailedToHold, HoldsLocked, LocksMore, ReadsAlike, covers, unlocked_in}
use Rattle.pvm_core.specs.Locks.{AreHeld, locks_by, locks_over}
use Rattle.pvm_core.specs.Manager.{IsManagerSound, IsValid, Manager, caches_shown, forest_of, machine_by, machine_of, numbered, state_at}
use Rattle.pvm_core.proofs.Answering.Answered.{call_is, no_segments, outcome_at}
use Rattle.pvm_core.proofs.Answering.Ended.{Ended}
use Rattle.pvm_core.proofs.Answering.Kept.{seen, sizeless}
use Rattle.pvm_core.proofs.Answering.Reaching.{reach_told}
use Rattle.pvm_core.proofs.Answering.Rising.{grown_some, rises_between}
use Rattle.pvm_core.proofs.Locking.Covered.{placed_with}
use Rattle.pvm_core.proofs.Locking.Ends.{ends_by, ends_machine, ends_reach, ends_sound, ends_valid, held_of}
use Rattle.pvm_core.proofs.Locking.Totals.{locked_more}
use Rattle.pvm_core.proofs.Locking.Limit.{limit_is, over_locked, pages_of, sizes_shown}
use Rattle.pvm_core.proofs.Locking.LockedPages.{owned_few}

-- How many locks a page has

by_few : (cache page : ℕ) (o : Option model.Actor) → locks_by cache page o ≤ regions_among o
by_few cache page None = omega arith
by_few cache page (Some rs) = count_by-le-length (locks cache page) rs

-- no more than living actors have regions
pub over_few : (cache page : ℕ) (xs : List (Option model.Actor)) → locks_over xs cache page ≤ region_count xs
over_few cache page [] = omega arith
over_few cache page (x ∷ xs) = omega (arith, sum_by-cons (locks_by cache page) x xs, sum_by-cons regions_among x xs, by_few cache page x, over_few cache page xs)

-- Where a region is locked

module _ (a b : Arena) (s u : Store) (h g : Option Held) (i j : Option ℕ) (c d : MapperCounts) (alike : ReadsAlike (world h i a s) (world g j b u) c d) (t : Actors) (live : ℕ) (sound : IsManagerSound a s t live) (region : RegionId) (r : Region) (found : region_with region.0 t.actors ≡ Some r) (free : r.locked ≡ false)
    (low : nat_lt (length s.frames.held - UNLOCKED_FRAMES) (locked_count a + unlocked_in a (pages_of r)) ≡ false) where
  -- all is well for the row
  row : (f : PageForest) → lock_of (machine_with (caches_shown f 1 a.caches) (length s.frames.held) t) region.0 ≡ reply replies.Done (machine_with (caches_shown f 1 a.caches) (length s.frames.held) (with_locked region.0 true t))
  row f = lock_row (caches_shown f 1 a.caches) (length s.frames.held) t region.0 r found free (limit_is a t sound.locked.counted sound.actors region.0 r found free f (length s.frames.held) ∙ low)

  -- the pages that the region covers
  pub lock_names : pages_locked (machine_of (seen a s t) h) region.0 ≡ extent_names (pages_of r)
  lock_names = ap (λ (o : Option Region). option_map_or (λ (r : Region). pages_under r.pages r) o []) found

  size_is : min r.pages (model.pages_in (model.cache_of (machine_of (seen a s t) h) r.cache)) ≡ r.pages
  size_is =
      let p = placed_with (size_of a) region.0 r t.actors sound.actors.placed found in
      let many = sizes_shown (forest_of (seen a s t) h) (length s.frames.held) a t r.cache in
      omega (arith, p.within, many, ap (λ (o : Option ℕ). unwrap_or o 0) p.there)

  touched : pages_of_region (machine_of (seen a s t) h) region.0 ≡ r.pages
  touched = ap (λ (o : Option Region). option_map_or (λ (r : Region). min r.pages (model.pages_in (model.cache_of (machine_of (seen a s t) h) r.cache))) o 0) found ∙ size_is

  module _ (holds : HoldsLocked b u) (more : LocksMore (pages_of r) a b) (owned : AreOwned (extent_names (pages_of r)) (world h i a s) (world g j b u)) where
    held_then : AreHeld b u (with_locked region.0 true t).actors
    held_then = held_of b u (with_locked region.0 true t).actors
        (λ cache page. more cache page ∙ ap (λ k. k + bit (covers (pages_of r) cache page)) (sound.locked.counted cache page) ∙ sym (over_locked region.0 r t.actors found free cache page))
        holds
        (omega (arith, locked_more a b (pages_of r) more, ltb-false (length s.frames.held - UNLOCKED_FRAMES) (locked_count a + unlocked_in a (pages_of r)) low, sound.locked.few, alike.frames))

    lock_sound : IsManagerSound b u (with_locked region.0 true t) live
    lock_sound = ends_sound a b s u h g i j c d alike t live sound (with_locked region.0 true t) refl (right_with_locked (size_of a) region.0 true r t found sound.actors) held_then

    lock_valid : IsValid (seen a s t) h → IsValid (seen b u (with_locked region.0 true t)) g
    lock_valid v = ends_valid a b s u h g i j c d alike t live sound (with_locked region.0 true t) refl v

    forest_then : forest_of (seen b u (with_locked region.0 true t)) g ≡ lock (pages_locked (machine_of (seen a s t) h) region.0) (forest_of (seen a s t) h)
    forest_then = sym (sizeless g j b u) ∙ owned ∙ ap (lock (extent_names (pages_of r))) (sizeless h i a s) ∙ ap (λ xs. lock xs (forest_of (seen a s t) h)) (sym lock_names)

    lock_call : IsValid (seen a s t) h → CallIs c d (state_at (seen a s t) h) (commands.Lock region) (Ok replies.Done) (state_at (seen b u (with_locked region.0 true t)) g)
    lock_call v =
        let p : Manager = seen a s t in
        let q : Manager = seen b u (with_locked region.0 true t) in
        let reach = ends_reach a b s u h g i j c d alike t live sound in
        call_is c d p q h g (commands.Lock region) (Ok replies.Done) reach (lock_valid v) tt tt forest_then
        (outcome_at p q h g (commands.Lock region) (Ok replies.Done) (rises_between (length reach.pushes) c d) no_segments sound.nodes alike.whole (reach_told (machine_of p h) h g c d reach)
        (λ e f. row f ∙ ap (reply replies.Done) (sym (ends_by a b s u h g i j c d alike t live sound (with_locked region.0 true t) f)))
        (λ k e. row (forest_of p h) ∙ ap (reply replies.Done) (sym (ends_machine a b s u h g i j c d alike t live sound (with_locked region.0 true t)))))

    -- at most a copy was made for each page
    lock_numbered : numbered (seen b u (with_locked region.0 true t)) ≤ numbered (seen a s t) + 8 * pages_of_region (machine_of (seen a s t) h) region.0 + 8
    lock_numbered = omega (arith, alike.made, owned_few (world h i a s) (world g j b u) (pages_of r).cache (pages_of r).first.0 r.pages owned, touched)

    -- a region that is locked
    pub lock_ended : IsValid (seen a s t) h → Ended (seen a s t) b u (with_locked region.0 true t) live h g c d (commands.Lock region) (Ok replies.Done)
    lock_ended v = record { sound = lock_sound; valid = lock_valid v; answers = lock_call v; made = omega (arith, lock_numbered) }

  -- where the mapper failed at a page
  module _ (page : ℕ) (holds : HoldsLocked b u) (failed : FailedToHold (pages_of r) page (world h i a s) (world g j b u)) where
    held_still : AreHeld b u t.actors
    held_still = held_of b u t.actors (λ cache k. failed.locks cache k ∙ sound.locked.counted cache k) holds
        (omega (arith, locked_count_stays a b failed.locks, sound.locked.few, alike.frames))

    fault_sound : IsManagerSound b u t live
    fault_sound = ends_sound a b s u h g i j c d alike t live sound t refl sound.actors held_still

    fault_valid : IsValid (seen a s t) h → IsValid (seen b u t) g
    fault_valid v = ends_valid a b s u h g i j c d alike t live sound t refl v

    passed : pages_passed (machine_of (seen a s t) h) (commands.Lock region) page ≡ page_names (pages_of r).cache r.offset failed.before
    passed =
        ap (λ (o : Option Region). option_map_or (λ (r : Region). pages_under (page - r.offset) r) o []) found
        ∙ ap (page_names (pages_of r).cache r.offset) (let e : page - r.offset ≡ failed.before = omega (arith, failed.passed) in e)

    fault_forest : forest_of (seen b u t) g ≡ lock (pages_passed (machine_of (seen a s t) h) (commands.Lock region) page) (forest_of (seen a s t) h)
    fault_forest = sym (sizeless g j b u) ∙ failed.owned ∙ ap (lock (page_names (pages_of r).cache r.offset failed.before)) (sizeless h i a s) ∙ ap (λ xs. lock xs (forest_of (seen a s t) h)) (sym passed)

    under : (f : PageForest) → IsPageUnder (machine_with (caches_shown f 1 a.caches) (length s.frames.held) t) region.0 page
    under f = subst (λ (o : Option Region). IsSomeAnd o (λ (r : Region). (r.offset ≤ page) × (page < r.offset + r.pages))) (sym found) failed.stop

    fault_outcome : (f : PageForest) (k : Segments) (rises : MapperCounts) → 0 < rises.faults → (next : Machine) → next ≡ machine_with (caches_shown f 1 a.caches) (length s.frames.held) t
        → Outcome (machine_with (caches_shown f 1 a.caches) (length s.frames.held) t) (Some (forest_of (seen a s t) h)) (commands.Lock region) k (Err (troubles.Mapper (faults.Page (record { 0 = page })))) next rises
    fault_outcome f k rises rose next same = (same, rose, under f, subst (λ (x : Answered). NotRefusedButFor (faults.Page (record { 0 = page })) x.answer) (sym (row f)) tt)

    fault_call : Rose c.faults d.faults → IsValid (seen a s t) h → CallIs c d (state_at (seen a s t) h) (commands.Lock region) (Err (troubles.Mapper (faults.Page (record { 0 = page })))) (state_at (seen b u t) g)
    fault_call cause v =
        let p : Manager = seen a s t in
        let q : Manager = seen b u t in
        let answer : Answer = Err (troubles.Mapper (faults.Page (record { 0 = page }))) in
        let reach = ends_reach a b s u h g i j c d alike t live sound in
        let rose = grown_some (length reach.pushes) c.faults d.faults cause in
        call_is c d p q h g (commands.Lock region) answer reach (fault_valid v) tt tt fault_forest
        (outcome_at p q h g (commands.Lock region) answer (rises_between (length reach.pushes) c d) no_segments sound.nodes alike.whole (reach_told (machine_of p h) h g c d reach)
        (λ e f. fault_outcome f no_segments (rises_between (length reach.pushes) c d) rose (machine_by q f) (ends_by a b s u h g i j c d alike t live sound t f))
        (λ k e. fault_outcome (forest_of p h) k (rises_between (length reach.pushes) c d) rose (machine_of q g) (ends_machine a b s u h g i j c d alike t live sound t)))

    fault_numbered : numbered (seen b u t) ≤ numbered (seen a s t) + 8 * pages_of_region (machine_of (seen a s t) h) region.0 + 8
    fault_numbered = omega (arith, alike.made, owned_few (world h i a s) (world g j b u) (pages_of r).cache (pages_of r).first.0 failed.before failed.owned, touched, failed.passed, failed.stop.1)

    pub fault_ended : Rose c.faults d.faults → IsValid (seen a s t) h → Ended (seen a s t) b u t live h g c d (commands.Lock region) (Err (troubles.Mapper (faults.Page (record { 0 = page }))))
    fault_ended cause v = record { sound = fault_sound; valid = fault_valid v; answers = fault_call cause v; made = omega (arith, fault_numbered) }

-- where no more regions were made than may be, one lock more can be counted
pub few_locks : (a : Arena) (t : Actors) → ((cache page : ℕ) → locks_of a cache page ≡ locks_over t.actors cache page) → (made : ℕ) → region_count t.actors ≤ made → made ≤ MOST_MADE → (cache page : ℕ) → locks_of a cache page + 1 < 2 ^ 32
few_locks a t counted made living most cache page = omega (arith, counted cache page, over_few cache page t.actors, living, most)

pub region_few : (a : Arena) → IsWhole a → (e : Extent) → HasRange a e → e.pages < 2 ^ 32
region_few a whole e range = omega (arith, range_fits a whole e range)
