-- Locks go: after a region was unlocked, and after an actor ended.
use Rattle.std.proofs.Common.{◌≡◌, ℕ, ◌+◌, ◌-◌, ◌<◌, ◌≤◌, true, false, [], length, Option, Some, None, refl, sym, ap, ◌∙◌, arith}
use Rattle.std.specs.Prelude.{Ok, count_by, is_some, option_map, slice_set}
use Rattle.std.proofs.lemmas.Option.{get_or_from_slice_get, slice_get_within}
use Rattle.vm_ids.specs.Counting.{no_counts}
use Rattle.vm_ids.specs.Held.{Held, Segments, segments_of}
use Rattle.vm_ids.specs.declared.command.Command.{Command}
use Rattle.vm_ids.specs.declared.command.Command.TheVariants as commands
use Rattle.vm_ids.specs.declared.numbers.RegionId.{RegionId}
use Rattle.pvm_core.proofs.Acting.{IsOfActors}
use Rattle.vm_ids.specs.declared.reply.Reply.TheVariants as replies
use Rattle.vm_ids.proofs.Places.{bit}
use Rattle.local_cache.specs.Arena.{Arena, locks_of}
use Rattle.local_cache.specs.Whole.{size_of}
use Rattle.residency.specs.declared.store.Store.{Store}
use Rattle.residency.specs.World.{world}
use Rattle.vm_model.specs.Answering.{answer_of, reply}
use Rattle.vm_model.specs.Asking.{ReachesMapper}
use Rattle.vm_model.specs.Following.{followed}
use Rattle.vm_model.specs.Machine as model
use Rattle.vm_model.specs.Machine.{Region, locks}
use Rattle.vm_model.specs.PageForest.{PageForest}
use Rattle.vm_model.specs.Regions.{region_with}
use Rattle.vm_model.specs.Run.{AnswerIs}
use Rattle.vm_model.specs.Synchronised.{IsSynchronised}
use Rattle.vm_model.proofs.Parts.Lists.{at_number}
use Rattle.contexts.specs.Actors.{Actors, machine_with}
use Rattle.contexts.specs.Placed.{ArePlaced, AreRight, HasItsPages}
use Rattle.contexts.proofs.RegionRows.{with_locked}
use Rattle.pvm_core.specs.Holding.{HoldsLocked, KeepsPages, LocksMore, ReadsAlike}
use Rattle.pvm_core.specs.Locks.{AreHeld, locks_over}
use Rattle.pvm_core.specs.Manager.{IsManagerSound, IsValid, caches_shown, forest_of, machine_of, numbered, state_at}
use Rattle.pvm_core.proofs.Answering.Answered.{answered}
use Rattle.pvm_core.proofs.Answering.Kept.{seen}
use Rattle.pvm_core.proofs.Locking.Covered.{gone_over}
use Rattle.pvm_core.proofs.Locking.Ends.{ends_by, ends_sound, ends_valid, held_of}
use Rattle.segment_ops.specs.Ranges.{IsPageOf}
use Rattle.std.specs.List.{All}
use Rattle.pvm_core.proofs.Locking.Extents.{covers_yes}
use Rattle.pvm_core.proofs.Locking.Totals.{locked_fewer}
use Rattle.pvm_core.proofs.Locking.Regions.{all_at}
use Rattle.pvm_core.proofs.Locking.Limit.{over_unlocked, pages_of}
use Rattle.pvm_core.proofs.Locking.LockedPages.{store_copies}

-- The locks of a region that is unlocked
pub unlocked_counts : (a b : Arena) (t : Actors) (n : ℕ) (r : Region) → region_with n t.actors ≡ Some r → r.locked ≡ true → ((cache page : ℕ) → locks_of a cache page ≡ locks_over t.actors cache page) → LocksMore (pages_of r) b a
    → (cache page : ℕ) → locks_of b cache page ≡ locks_over (with_locked n false t).actors cache page
unlocked_counts a b t n r found locked counted less cache page =
    let one = over_unlocked n r t.actors found locked cache page in
    omega (arith, one, counted cache page, less cache page)

-- and those of an actor that ends
pub ended_counts : (a b : Arena) (t : Actors) (actor : ℕ) (rs : model.Actor) → model.numbered t.actors actor ≡ Some rs → ((cache page : ℕ) → locks_of a cache page ≡ locks_over t.actors cache page) → ((cache page : ℕ) → locks_of a cache page ≡ locks_of b cache page + count_by (locks cache page) rs)
    → (cache page : ℕ) → locks_of b cache page ≡ locks_over (slice_set t.actors (actor - 1) None) cache page
ended_counts a b t actor rs here counted less cache page =
    let place = at_number t.actors actor rs here in
    let one = gone_over cache page (actor - 1) rs t.actors (slice_get_within t.actors (actor - 1) (Some rs) place) (get_or_from_slice_get t.actors (actor - 1) (Some rs) None place) in
    omega (arith, one, counted cache page, less cache page)

-- each page of a locked region has a lock
pub region_locks : (a : Arena) (t : Actors) (n : ℕ) (r : Region) → region_with n t.actors ≡ Some r → r.locked ≡ true → ((cache page : ℕ) → locks_of a cache page ≡ locks_over t.actors cache page) → (page : ℕ) → IsPageOf (pages_of r) page → 0 < locks_of a r.cache page
region_locks a t n r found locked counted page of =
    let one = over_unlocked n r t.actors found locked r.cache page in
    omega (arith, one, counted r.cache page, ap bit (covers_yes (pages_of r) r.cache page (record { same = refl; from = of.0; past = of.1 })))

-- and so many as its regions have the pages of an actor
pub actor_locks : (a : Arena) (t : Actors) (actor : ℕ) (rs : model.Actor) → model.numbered t.actors actor ≡ Some rs → ((cache page : ℕ) → locks_of a cache page ≡ locks_over t.actors cache page) → (cache page : ℕ) → count_by (locks cache page) rs ≤ locks_of a cache page
actor_locks a t actor rs here counted cache page =
    let place = at_number t.actors actor rs here in
    let one = gone_over cache page (actor - 1) rs t.actors (slice_get_within t.actors (actor - 1) (Some rs) place) (get_or_from_slice_get t.actors (actor - 1) (Some rs) None place) in
    omega (arith, one, counted cache page)

-- the regions of an actor lie in their caches
pub actor_placed : (sizes : ℕ → Option ℕ) (t : Actors) (actor : ℕ) (rs : model.Actor) → model.numbered t.actors actor ≡ Some rs → AreRight sizes t → All (HasItsPages sizes) rs
actor_placed sizes t actor rs here right = all_at (ArePlaced sizes) t.actors (actor - 1) (Some rs) right.placed (at_number t.actors actor rs here)

-- Locks were let go, of a region or of an actor: the pages stay, and these are the locks of the
-- actors x.
pub record IsGone (a b : Arena) (s u : Store) (t x : Actors) (live : ℕ) : Type 0 where
  pub pages : KeepsPages a b s u
  pub holds : HoldsLocked b u
  pub sound : IsManagerSound a s t live
  pub page : x.page_bytes ≡ t.page_bytes
  pub right : AreRight (size_of a) x
  pub counted : (cache page : ℕ) → locks_of b cache page ≡ locks_over x.actors cache page
  pub low : (cache page : ℕ) → locks_of b cache page ≤ locks_of a cache page

module _ {a b : Arena} {s u : Store} {t x : Actors} {live : ℕ} (gone : IsGone a b s u t x live) (h : Option Held) (v : IsValid (seen a s t) h) where
  alike : ReadsAlike (world h None a s) (world h None b u) no_counts no_counts
  alike = gone.pages.alike h None no_counts v.right

  held : AreHeld b u x.actors
  held = held_of b u x.actors gone.counted gone.holds (omega (arith, locked_fewer a b gone.low, gone.sound.locked.few, alike.frames))

  pub gone_sound : IsManagerSound b u x live
  gone_sound = ends_sound a b s u h h None None no_counts no_counts alike t live gone.sound x gone.page gone.right held

  pub gone_valid : IsValid (seen b u x) h
  gone_valid = ends_valid a b s u h h None None no_counts no_counts alike t live gone.sound x gone.page v

  gone_forest : forest_of (seen b u x) h ≡ forest_of (seen a s t) h
  gone_forest = gone.pages.forest h None

  -- no node was made, and no page copied
  pub gone_numbered : numbered (seen b u x) ≡ numbered (seen a s t)
  gone_numbered = omega (arith, alike.made, store_copies (world h None a s), store_copies (world h None b u), ap (λ f. f.copies) (gone.pages.forest h None))

  pub gone_answer : (command : Command) → ReachesMapper command no_counts → ((m next : model.Machine) (f : PageForest) → followed f m command next ≡ f) → ((m : model.Machine) (g : Option Segments) → IsSynchronised m g command (Ok replies.Done))
      → ((f : PageForest) (g : PageForest) (c : Segments) → answer_of (machine_with (caches_shown f 1 a.caches) (length s.frames.held) t) g command c ≡ reply replies.Done (machine_with (caches_shown f 1 a.caches) (length s.frames.held) x))
      → AnswerIs (state_at (seen a s t) h) command (Ok replies.Done) [] no_counts (state_at (seen b u x) h)
  gone_answer command reaches stays synchronised row =
      answered (seen a s t) (seen b u x) h command (Ok replies.Done) gone.sound.nodes alike.whole gone_valid gone_forest
      (stays (machine_of (seen a s t) h) (machine_of (seen b u x) h) (forest_of (seen a s t) h)) reaches (synchronised (machine_of (seen a s t) h) (segments_of h))
      (λ f c. row f (forest_of (seen a s t) h) c ∙ ap (reply replies.Done) (sym (ends_by a b s u h h None None no_counts no_counts alike t live gone.sound x f)))

-- unlock changes no page
pub unlocked_is : (region : RegionId) → IsOfActors (commands.Unlock region)
unlocked_is region = record { none = λ done m f s none. none; reaches = refl; synchronised = λ m s answer. tt; stays = λ m next f. refl; passes = λ m page. refl }

-- what was found of something that was read
pub mapped_is : {A B : Type 0} (f : A → B) (o : Option A) (x : A) (y : Option B) → option_map f o ≡ y → o ≡ Some x → y ≡ Some (f x)
mapped_is f o x y e is = sym e ∙ ap (option_map f) is

pub mapped_none : {A B : Type 0} (f : A → B) (o : Option A) (y : Option B) → option_map f o ≡ y → o ≡ None → is_some y ≡ false
mapped_none f o y e is = ap is_some (sym e ∙ ap (option_map f) is)
