-- What is kept from before translations alone were dropped or narrowed.
use Rattle.std.proofs.Common.{◌≡◌, ℕ, ◌*◌, ◌≤◌, List, length, Option, sym, subst}
use Rattle.vm_ids.specs.declared.node_name.NodeName.{NodeName}
use Rattle.vm_ids.specs.declared.node_name.NodeName.TheVariants.{Working}
use Rattle.vm_ids.specs.declared.numbers.CacheId.{CacheId}
use Rattle.vm_ids.specs.Forest.Nodes.{Forest}
use Rattle.vm_ids.specs.Forest.Reading.{live_count}
use Rattle.local_cache.specs.Arena.{Arena}
use Rattle.local_cache.specs.Reading.{forest_of}
use Rattle.residency.specs.declared.store.Store.{Store}
use Rattle.residency.specs.Seeing.{frame_forest}
use Rattle.residency.specs.StoreForest.{store_forest}
use Rattle.residency.specs.World.{IsStoreRight, IsTied, world}
use Rattle.page_commands.specs.Commands.{CanReplace, KeepsPages}
use Rattle.page_commands.specs.Readings.{GoesBy, NewPages, new_frames, new_pages}
use Rattle.page_commands.specs.Steps.{GivesBack, IsUnpinned, Kept, PinnedStayNamed, Releases, StaysRight}
use Rattle.page_commands.proofs.StaleTranslations.Ranges.{OnlyTables, same_world, tied_still}

module _ (s t : Store) (only : OnlyTables s t) (a : Arena) where
  -- what a command needs
  pub ready_behind : (nodes : ℕ) (cache : CacheId) (names : List NodeName) → CanReplace nodes cache names s a → CanReplace nodes cache names t a
  ready_behind nodes cache names ready = record {
    retire = record {
      tied = tied_still s t only a ready.retire.tied;
      whole = ready.retire.whole;
      unpinned = λ x i. subst (λ r. IsUnpinned r a x) (sym only.is) (ready.retire.unpinned x i);
      made = ready.retire.made;
    };
    saved = ready.saved;
    working = λ k. subst (λ r. IsUnpinned r a (Working k)) (sym only.is) (ready.working k);
  }

  module _ (u : Store) (b : Arena) where
    pub kept_behind : (names : List NodeName) → Releases names t a u b → Kept names s a u b
    kept_behind names kept = record {
      gives_back = λ told size tied.
          let same = same_world s t only told size a in
          subst (λ w. GivesBack w (world told size b u)) same (kept.gives_back told size (subst IsTied (sym same) tied));
      sound = kept.sound;
      tied = kept.tied;
      pinned = subst (λ r. PinnedStayNamed r a b) only.is kept.pinned;
      sizes = kept.sizes;
      homes = kept.homes;
    }

    pub goes_behind : (rule : (P : Type 0) → NewPages P → Forest P → Forest P) → GoesBy rule t a u b → GoesBy rule s a u b
    goes_behind rule goes = record {
      nodes = goes.nodes;
      forest = λ told size tied.
          let same = same_world s t only told size a in
          subst (λ w. store_forest (world told size b u) ≡ rule (Option (List ℕ)) (new_pages w) (store_forest w)) same (goes.forest told size (subst IsTied (sym same) tied));
      frames = subst (λ r. frame_forest b u.map ≡ rule (Option ℕ) new_frames (frame_forest a r.map)) only.is goes.frames;
    }

    right_behind : StaysRight t a u b → StaysRight s a u b
    right_behind stays told size right = stays told size (subst IsStoreRight (sym (same_world s t only told size a)) right)

    pub pages_behind : (nodes : ℕ) → KeepsPages nodes t a u b → KeepsPages nodes s a u b
    pages_behind nodes pages = record {
      settles = pages.settles;
      whole = pages.whole;
      live = pages.live;
      right = λ enough. right_behind (pages.right (subst (λ (r : Store). 2 * live_count (forest_of a) ≤ length r.slots) (sym only.is) enough));
      room = pages.room;
    }
