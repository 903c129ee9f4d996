-- Pages were saved for their heirs: the machine stays, and each page has the value that it had.
use Rattle.std.proofs.Common.{◌≡◌, ℕ, Bool, true, false, List, length, get_or, Option, None, refl, sym, ap, ◌∙◌, subst}
use Rattle.std.specs.Prelude.{IfErr, IfSome, OnOk, Result, Ok, Err, option_map}
use Rattle.vm_ids.specs.Counting.{MapperCounts}
use Rattle.vm_ids.specs.Held.{Held}
use Rattle.vm_ids.specs.declared.node_name.NodeName.{NodeName}
use Rattle.vm_ids.specs.Forest.NameMap.{len}
use Rattle.vm_ids.specs.Forest.Nodes.{Forest}
use Rattle.vm_ids.specs.Forest.Saving.{save_range, saved, saves}
use Rattle.local_cache.specs.Arena.{Arena, Table, table_at}
use Rattle.local_cache.specs.Whole.{segment_of, size_of}
use Rattle.local_cache.proofs.Tables.Sizes.{sizes_same}
use Rattle.residency.specs.declared.store.Store.{Store}
use Rattle.residency.specs.StoreForest.{store_forest}
use Rattle.residency.specs.World.{World, world}
use Rattle.fault_path.specs.Faults.{Kept}
use Rattle.segment_ops.specs.Saving.{AreSaved, SavesEnd}
use Rattle.vm_model.specs.Laws.{IsFollowed}
use Rattle.vm_model.specs.Machine.{Machine}
use Rattle.vm_model.specs.Outcome.{HasWholePages}
use Rattle.vm_model.proofs.Forests.CachesFollowed.{saves_followed}
use Rattle.contexts.specs.Actors.{Actors}
use Rattle.pvm_core.specs.Manager.{IsManagerSound, IsValid, caches_shown, forest_of, machine_of}
use Rattle.pvm_core.specs.Reaching.{Reach}
use Rattle.pvm_core.specs.Saving.{KeepsMachine}
use Rattle.pvm_core.proofs.Meaning.Determined.{IsShaped, followed_is}
use Rattle.pvm_core.proofs.Homes.Full.{full_after}
use Rattle.pvm_core.proofs.Answering.Kept.{kept_by, seen, sizeless, unsized_right}
use Rattle.pvm_core.proofs.Answering.Reaching.{as_told, reach_told}
use Rattle.pvm_core.proofs.Meaning.Same.{shown_shaped}
use Rattle.pvm_core.proofs.Meaning.Shown.{shown_made}
use Rattle.pvm_core.proofs.Homes.Sized.{sized_after}
use Rattle.pvm_core.proofs.Meaning.Values.{followed_of}

-- all saves of a range are so many saves
pub range_saves : {P : Type 0} (xs : List NodeName) (f : Forest P) → save_range xs f ≡ saves (len f.nodes) xs f
unfolding save_range
range_saves xs f = refl

pub none_saved : {P : Type 0} (named : Bool) (xs : List NodeName) (f : Forest P) → named ≡ false → saved named xs f ≡ f
none_saved named xs f e = ap (λ (b : Bool). saved b xs f) e

pub all_saved : {P : Type 0} (named : Bool) (xs : List NodeName) (f : Forest P) → named ≡ true → save_range xs f ≡ saved named xs f
all_saved named xs f e = ap (λ (b : Bool). saved b xs f) (sym e)

-- so many saves were done, at each answer
pub saves_done : (w v : World) (xs : List NodeName) (r : Result (Unit {0}) ℕ) → OnOk r (AreSaved xs w v) → IfErr r (λ done. SavesEnd xs done w v) → (m : ℕ) × (store_forest v ≡ saves m xs (store_forest w))
saves_done w v xs (Ok x) all some = (len (store_forest w).nodes, all ∙ range_saves xs (store_forest w))
saves_done w v xs (Err done) all some = (done, some.forest)

module _ (a b : Arena) (s u : Store) (h g : Option Held) (i j : Option ℕ) (k : Kept (world h i a s) (world g j b u)) (t : Actors) (live : ℕ) (sound : IsManagerSound a s t live) (v : IsValid (seen a s t) h) (n : ℕ) (xs : List NodeName)
    (forest : store_forest (world g j b u) ≡ saves n xs (store_forest (world h i a s))) where
  pub saved_forest : forest_of (seen b u t) g ≡ saves n xs (forest_of (seen a s t) h)
  saved_forest = sym (sizeless g j b u) ∙ forest ∙ ap (saves n xs) (sizeless h i a s)

  followed : IsFollowed (machine_of (seen a s t) h) (forest_of (seen b u t) g)
  followed = subst (IsFollowed (machine_of (seen a s t) h)) (sym saved_forest) (saves_followed (machine_of (seen a s t) h) (forest_of (seen a s t) h) (followed_of (seen a s t) h sound.nodes sound.actors.some v.whole) n xs)

  shapes : (m : ℕ) → IsShaped (get_or (caches_shown (forest_of (seen a s t) h) 1 a.caches) m None) (get_or b.caches m None)
  shapes m = subst (λ (ts : List (Option Table)). IsShaped (get_or (caches_shown (forest_of (seen a s t) h) 1 a.caches) m None) (get_or ts m None)) (sym k.nodes.caches) (shown_shaped (forest_of (seen a s t) h) 1 a.caches m)

  pub saved_machine : machine_of (seen b u t) g ≡ machine_of (seen a s t) h
  saved_machine = λ m. record {
    page_bytes = t.page_bytes;
    frames = k.frames m;
    caches = followed_is (machine_of (seen a s t) h) (forest_of (seen b u t) g) followed b.caches (shown_made (forest_of (seen a s t) h) 1 a.caches ∙ sym (ap (λ (ts : List (Option Table)). length ts) k.nodes.caches)) (λ m low. shapes m) m;
    actors = t.actors;
    regions_made = t.regions_made;
  }

  module _ (c d : MapperCounts) (reach : Reach (machine_of (seen a s t) h) h g c d) where
    same_segment : (cache : ℕ) → segment_of b cache ≡ segment_of a cache
    same_segment cache = ap (λ (ts : List (Option Table)). option_map (λ (t : Table). t.segment) (table_at ts cache)) k.nodes.caches

    same_size : (cache : ℕ) → size_of b cache ≡ size_of a cache
    same_size cache = ap (λ (ts : List (Option Table)). option_map (λ (t : Table). length t.pages) (table_at ts cache)) k.nodes.caches

    pub saved_valid : IsValid (seen b u t) g
    saved_valid = record {
      right = unsized_right g j b u k.right;
      sized = sized_after (seen a s t) b h g same_segment same_size reach.pushes reach.rule v.sized;
      full = full_after (seen a s t) b h g same_segment reach.pushes reach.rule v.whole v.full;
      whole = subst (λ (m : Machine). IfSome g (λ _. HasWholePages m)) (sym saved_machine) (as_told (HasWholePages (machine_of (seen a s t) h)) h g (reach_told (machine_of (seen a s t) h) h g c d reach) v.whole);
    }

    pub saved_keeps : KeepsMachine (seen a s t) (seen b u t) h g c d
    saved_keeps = record {
      machine = saved_machine;
      by = kept_by a b s u h g i j k t;
      same = sizes_same a b k.nodes.caches;
      made = k.made;
      reach = reach;
    }
