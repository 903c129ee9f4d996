-- What stays where actors alone change, and where pages are moved about.
use Rattle.std.proofs.Common.{◌≡◌, ℕ, ◌+◌, ◌≤◌, Bool, List, length, Option, Some, None, is_some, refl, sym, ap, ◌∙◌, subst, arith}
use Rattle.std.specs.Prelude.{IfSome, OnErr, Result, Ok, Err, option_map, sum_by, count_by}
use Rattle.std.specs.FinMap as ids
use Rattle.std.proofs.lemmas.List.{length-map}
use Rattle.vm_ids.specs.Counting.{MapperCounts}
use Rattle.vm_ids.specs.Held.{Held}
use Rattle.vm_ids.specs.declared.command.Command.{Command}
use Rattle.vm_ids.specs.declared.numbers.SegId.{SegId}
use Rattle.vm_ids.specs.declared.node_name.NodeName.{NodeName}
use Rattle.vm_ids.specs.declared.node_name.NodeName.TheVariants.{Working}
use Rattle.vm_ids.specs.Forest.Commands.{page_name}
use Rattle.vm_ids.specs.Forest.Nodes.{IsNode}
use Rattle.vm_ids.proofs.Forest.Agreeing.{bounded_from, live_count-le, working_count-le}
use Rattle.local_cache.specs.Arena.{Arena, Cell, Table, page_count, table_at}
use Rattle.local_cache.specs.Arena as arena_of
use Rattle.local_cache.specs.Changes.{Like}
use Rattle.local_cache.specs.Own.{own_states}
use Rattle.local_cache.specs.Reading as arena
use Rattle.local_cache.proofs.Forest.Reading.{IsNode-forest_of, forest_of-IsNode}
use Rattle.local_cache.proofs.Nodes.Values.{same_keys}
use Rattle.residency.specs.declared.store.Store.{Store}
use Rattle.residency.specs.StoreForest.{store_forest}
use Rattle.residency.specs.World.{IsStoreRight, world}
use Rattle.fault_path.specs.Faults.{Kept}
use Rattle.local_cache.proofs.Nodes.Count.{forest_len}
use Rattle.local_cache.specs.Whole.{segment_of, size_of}
use Rattle.vm_model.specs.Answering.{Answer}
use Rattle.vm_model.specs.Machine.{Machine}
use Rattle.vm_model.specs.Outcome.{HasWholePages}
use Rattle.vm_model.specs.PageForest.{PageForest}
use Rattle.vm_model.specs.Run.{AnswerIs, CallIs, State}
use Rattle.contexts.specs.Actors.{Actors}
use Rattle.contexts.specs.Placed.{AreRight}
use Rattle.pvm_core.proofs.Holding.Bound.{AreBound}
use Rattle.pvm_core.proofs.Holding.Kept.{held_kept}
use Rattle.pvm_core.proofs.Holding.Made.{held_by_actors}
use Rattle.pvm_core.specs.Locks.{locks_over}
use Rattle.pvm_core.proofs.Meaning.Live.{nodes_most}
use Rattle.pvm_core.specs.Reaching.{Reach}
use Rattle.pvm_core.proofs.Answering.Reaching.{as_told, reach_told}
use Rattle.pvm_core.proofs.Homes.Full.{full_after}
use Rattle.pvm_core.proofs.Homes.Sized.{sized_after}
use Rattle.pvm_core.specs.Manager.{IsManagerSound, IsValid, Manager, caches_shown, forest_of, machine_by, machine_of, state_at}

pub seated_sound : (a : Arena) (s : Store) (t u : Actors) (live : ℕ) → u.page_bytes ≡ t.page_bytes → AreRight (size_of a) u → ((cache page : ℕ) → locks_over u.actors cache page ≡ locks_over t.actors cache page) → IsManagerSound a s t live → IsManagerSound a s u live
seated_sound a s t u live page right over i = record {
  nodes = i.nodes;
  apart = i.apart;
  bounded = i.bounded;
  slots = i.slots;
  counted = i.counted;
  few = i.few;
  loose = i.loose;
  locked = held_by_actors a s t.actors u.actors over i.locked;
  actors = right;
  page = page ∙ i.page;
}

-- other actors leave the store right and the pages whole
pub seated_valid : (p q : Manager) (h : Option Held) → q.caches ≡ p.caches → q.store ≡ p.store → q.page_bytes ≡ p.page_bytes → IsValid p h → IsValid q h
seated_valid p q h caches store page v = valid caches store page
  where
    valid : (q.caches ≡ p.caches) → (q.store ≡ p.store) → (q.page_bytes ≡ p.page_bytes) → IsValid q h
    valid c s b = subst (λ (r : Manager). IsValid r h) (λ i. record { caches = sym c i; store = sym s i; page_bytes = sym b i; actors = q.actors; regions_made = q.regions_made }) (moved v)
      where
        moved : IsValid p h → IsValid (record { caches = p.caches; store = p.store; page_bytes = p.page_bytes; actors = q.actors; regions_made = q.regions_made }) h
        moved v = record { right = v.right; sized = v.sized; full = v.full; whole = v.whole }

-- The number of nodes

keys_states : (a : Arena) → length (own_states a) ≡ length (ids.keys a.cells)
keys_states a = length-map (ids.values a.cells) (λ c. c.own) ∙ length-map (ids.entries a.cells) (λ e. e.1) ∙ sym (length-map (ids.entries a.cells) (λ e. e.0))

-- as many nodes
like_count : (a b : Arena) → Like a b → length (own_states b) ≡ length (own_states a)
like_count a b like = keys_states b ∙ ap (λ (ks : List ℕ). length ks) (same_keys there a b (λ n. both (arena_of.find b n) (arena_of.find a n) (like.held n))) ∙ sym (keys_states a)
  where
    there : Cell → Unit {0}
    there c = tt

    both : (o p : Option Cell) → is_some o ≡ is_some p → option_map there o ≡ option_map there p
    both None None e = refl
    both (Some c) (Some d) e = refl
    both None (Some d) e = absurd (cc e)
    both (Some c) None e = absurd (cc e)

-- Pages that are moved about

-- nothing of the forest depends on the size of the mapper's pages
pub sizeless : (h : Option Held) (i : Option ℕ) (a : Arena) (s : Store) → store_forest (world h i a s) ≡ store_forest (world h None a s)
unfolding store_forest
sizeless h i a s = refl

-- nor that the store is right, where the size fits the frames
resized_right : (h : Option Held) (i j : Option ℕ) (a : Arena) (s : Store) → IfSome j (λ n. n ≡ s.frames.page) → IsStoreRight (world h i a s) → IsStoreRight (world h j a s)
resized_right h i j a s fits r = record {
  tied = record {
    placed = r.tied.placed;
    backed = record {
      there = r.tied.backed.there;
      homes = r.tied.backed.homes;
      apart = r.tied.backed.apart;
      lies = r.tied.backed.lies;
      clean = r.tied.backed.clean;
    };
    fitted = record {
      map_frames = r.tied.fitted.map_frames;
      bytes_frames = r.tied.fitted.bytes_frames;
      pinned_frames = r.tied.fitted.pinned_frames;
      marks_frames = r.tied.fitted.marks_frames;
      places_frames = r.tied.fitted.places_frames;
      few = r.tied.fitted.few;
      page = fits;
    };
  };
  granted = record { granted = r.granted.granted; allowed = r.granted.allowed };
  capacity = r.capacity;
}

pub unsized_right : (h : Option Held) (i : Option ℕ) (a : Arena) (s : Store) → IsStoreRight (world h i a s) → IsStoreRight (world h None a s)
unsized_right h i a s = resized_right h i None a s tt

pub sized_right : (h : Option Held) (i : Option ℕ) (a : Arena) (s : Store) → IfSome i (λ n. n ≡ s.frames.page) → IsStoreRight (world h None a s) → IsStoreRight (world h i a s)
sized_right h i a s = resized_right h None i a s

module _ (a b : Arena) (s t : Store) (h g : Option Held) (i j : Option ℕ) (k : Kept (world h i a s) (world g j b t)) (actors : Actors) (live : ℕ) (sound : IsManagerSound a s actors live) where
  kept_node : (x : NodeName) → IsNode (arena.forest_of a) x → IsNode (arena.forest_of b) x
  kept_node x is =
      let f = forest_of-IsNode a x is in
      subst (IsNode (arena.forest_of b)) (k.nodes.name f.0 ∙ f.2) (IsNode-forest_of b k.sound.kept.named f.0 (k.nodes.held f.0 ∙ f.1))

  node_kept : (x : NodeName) → IsNode (arena.forest_of b) x → IsNode (arena.forest_of a) x
  node_kept x is =
      let f = forest_of-IsNode b x is in
      let there = sym (k.nodes.held f.0) ∙ f.1 in
      subst (IsNode (arena.forest_of a)) (sym (k.nodes.name f.0) ∙ f.2) (IsNode-forest_of a sound.nodes.sound.kept.named f.0 there)

  made_of : (arena.forest_of b).made ≡ b.made
  unfolding arena.forest_of
  made_of = refl

  segment_at : (cache : ℕ) (segment : SegId) → segment_of b cache ≡ Some (Some segment) → segment_of a cache ≡ Some (Some segment)
  segment_at cache segment = subst (λ (ts : List (Option Table)). option_map (λ (t : Table). t.segment) (table_at ts cache) ≡ Some (Some segment)) k.nodes.caches

  -- each call that keeps nodes and tables keeps what holds of a manager's fields
  pub kept_sound : AreBound a s.map → IsManagerSound b t actors live
  kept_sound was = record {
    nodes = record {
      sound = k.sound;
      consistent = record {
        shaped = k.shaped;
        counted = λ n is. (let f = forest_of-IsNode b (Working n) is in let low = k.sound.kept.named.counted f.0 n f.1 f.2 in omega (arith, low, made_of));
      };
      pages = λ cache page count size less. kept_node (page_name cache page) (sound.nodes.pages cache page count (ap (λ (ts : List (Option Table)). option_map (λ (t : Table). length t.pages) (table_at ts cache.0)) (sym k.nodes.caches) ∙ size) less);
      few = omega (arith, forest_len b, like_count a b k.nodes, nodes_most sound, sound.few);
    };
    apart = λ cache other segment one two. sound.apart cache other segment (segment_at cache segment one) (segment_at other segment two);
    bounded = bounded_from (arena.forest_of a) (arena.forest_of b) (working_count-le (arena.forest_of b) (arena.forest_of a) (λ x is w. node_kept x is)) (live_count-le (arena.forest_of a) (arena.forest_of b) (λ x is l. kept_node x is)) sound.bounded;
    slots = omega (arith, k.slots, sound.slots);
    counted = sound.counted ∙ sym (ap (sum_by page_count) k.nodes.caches);
    few = sound.few;
    loose = subst (λ (ps : List Bool). count_by (λ p. p) ps + 3 ≤ length ps) (sym k.pins) sound.loose;
    locked = held_kept a b s t h g i j k actors sound.nodes sound.actors was sound.locked;
    actors = subst (λ (ts : List (Option Table)). AreRight (λ n. option_map (λ (t : Table). length t.pages) (table_at ts n)) actors) (sym k.nodes.caches) sound.actors;
    page = sound.page ∙ sym k.page;
  }

abbrev pub seen : Arena → Store → Actors → Manager
seen a s t = record { caches = a; store = s; page_bytes = t.page_bytes; actors = t.actors; regions_made = t.regions_made }

module _ (a b : Arena) (s t : Store) (h g : Option Held) (i j : Option ℕ) (k : Kept (world h i a s) (world g j b t)) (actors : Actors) where
  -- the machine is the same, with the pages of any forest
  pub kept_by : (f : PageForest) → machine_by (seen b t actors) f ≡ machine_by (seen a s actors) f
  kept_by f = λ n. record {
    page_bytes = actors.page_bytes;
    frames = k.frames n;
    caches = caches_shown f 1 (k.nodes.caches n);
    actors = actors.actors;
    regions_made = actors.regions_made;
  }

  module _ (forest : store_forest (world g j b t) ≡ store_forest (world h i a s)) where
    pub kept_forest : forest_of (seen b t actors) g ≡ forest_of (seen a s actors) h
    kept_forest = sym (sizeless g j b t) ∙ forest ∙ sizeless h i a s

    pub kept_machine : machine_of (seen b t actors) g ≡ machine_of (seen a s actors) h
    kept_machine = ap (machine_by (seen b t actors)) kept_forest ∙ kept_by (forest_of (seen a s actors) h)

    pub kept_valid : (c d : MapperCounts) → Reach (machine_of (seen a s actors) h) h g c d → IsValid (seen a s actors) h → IsValid (seen b t actors) g
    kept_valid c d reach v = record {
      right = unsized_right g j b t k.right;
      sized = sized_after (seen a s actors) b h g same_segment same_size reach.pushes reach.rule v.sized;
      full = full_after (seen a s actors) b h g same_segment reach.pushes reach.rule v.whole v.full;
      whole = subst (λ (m : Machine). IfSome g (λ _. HasWholePages m)) (sym kept_machine) (as_told (HasWholePages (machine_of (seen a s actors) h)) h g (reach_told (machine_of (seen a s actors) h) h g c d reach) v.whole);
    }
      where
        same_segment : (cache : ℕ) → segment_of b cache ≡ segment_of a cache
        same_segment cache = ap (λ (ts : List (Option Table)). option_map (λ (t : Table). t.segment) (table_at ts cache)) k.nodes.caches

        same_size : (cache : ℕ) → size_of b cache ≡ size_of a cache
        same_size cache = ap (λ (ts : List (Option Table)). option_map (λ (t : Table). length t.pages) (table_at ts cache)) k.nodes.caches

-- From a manager that is seen to the one that it is

pub valid_seen : {p q : Manager} {h : Option Held} → p ≡ q → IsValid q h → IsValid p h
valid_seen {h = h} view valid = subst (λ (p : Manager). IsValid p h) (sym view) valid

module _ (h : Option Held) {p q : Manager} {command : Command} {answer : Answer} (view : p ≡ q) where
  pub call_seen : {c d : MapperCounts} {z : State} → CallIs c d (state_at p h) command answer z → CallIs c d (state_at q h) command answer z
  call_seen {c = c} {d = d} {z = z} is = subst (λ (p : Manager). CallIs c d (state_at p h) command answer z) view is

  pub answer_seen : {pushes : List (ℕ × ℕ)} {rises : MapperCounts} {z : State} → AnswerIs (state_at p h) command answer pushes rises z → AnswerIs (state_at q h) command answer pushes rises z
  answer_seen {pushes = pushes} {rises = rises} {z = z} is = subst (λ (p : Manager). AnswerIs (state_at p h) command answer pushes rises z) view is

  pub answer_still : {pushes : List (ℕ × ℕ)} {rises : MapperCounts} → AnswerIs (state_at p h) command answer pushes rises (state_at p h) → AnswerIs (state_at q h) command answer pushes rises (state_at q h)
  answer_still {pushes = pushes} {rises = rises} is = subst (λ (p : Manager). AnswerIs (state_at p h) command answer pushes rises (state_at p h)) view is

-- actors that look the same
pub seated_same : (a : Arena) (s : Store) (t u : Actors) → u ≡ t → seen a s u ≡ seen a s t
seated_same a s t u e = ap (seen a s) e

pub on_err : {T E P Q : Type 0} (r : Result T E) → (P → Q) → OnErr r P → OnErr r Q
on_err (Ok x) f p = tt
on_err (Err e) f p = f p
