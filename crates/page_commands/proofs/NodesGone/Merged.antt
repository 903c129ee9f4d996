-- One step of settle was followed in the store: it is the rule for the forest of bytes.
use Rattle.std.proofs.Common.{◌≡◌, ◌≢◌, ℕ, true, false, [], Option, None, sym, refl, ap, ◌∙◌, inl, inr}
use Rattle.vm_ids.specs.Held.{Held}
use Rattle.vm_ids.specs.declared.node_name.NodeName.{NodeName}
use Rattle.vm_ids.specs.declared.node_name.NodeName.TheVariants.{Live, Working}
use Rattle.vm_ids.specs.declared.numbers.NodeId.{NodeId}
use Rattle.vm_ids.specs.Forest.Nodes.{is_live}
use Rattle.vm_ids.specs.Forest.Settling.{settle_step}
use Rattle.vm_ids.proofs.Forest.Laws.Settling.{thin_is_working}
use Rattle.frame_pool.specs.Pool.{is_pinned}
use Rattle.global_map.specs.Pairs.{frame_of}
use Rattle.std.proofs.lemmas.Bool.{false≢true}
use Rattle.local_cache.specs.Arena.{Arena}
use Rattle.local_cache.specs.Home.{home_named, home_of}
use Rattle.local_cache.specs.Own.{own_of}
use Rattle.local_cache.specs.Whole.{SameCaches}
use Rattle.local_cache.specs.Reading.{forest_of, name_of}
use Rattle.local_cache.specs.Sound.{IsSound}
use Rattle.local_cache.proofs.Nodes.OwnStates.{id_cases}
use Rattle.local_cache.proofs.Names.Homes.{home_none}
use Rattle.local_cache.proofs.Changes.Granted.{grants-tables_with}
use Rattle.local_cache.proofs.Changes.Locked.{locks-tables_with}
use Rattle.local_cache.proofs.Tables.Sizes.{sizes_by}
use Rattle.residency.specs.declared.store.Store.{Store}
use Rattle.residency.specs.Seeing.{frame_forest}
use Rattle.residency.specs.StoreForest.{store_forest}
use Rattle.residency.specs.World.{is_clean, own_page, world}
use Rattle.residency.proofs.Worlds.Telling.{tells}
use Rattle.tree_merge.specs.declared.released.Released.{Released}
use Rattle.tree_merge.specs.declared.released.Released.TheVariants.{Nothing, Dropped, Moved}
use Rattle.tree_merge.specs.Releasing.{IsMerged, IsReleased}
use Rattle.tree_merge.proofs.OtherPages.{settle_step-by}
use Rattle.tree_merge.proofs.Releases.{ReleasedAt, merged_at}
use Rattle.page_commands.specs.Following.{CanFollow, followed}
use Rattle.page_commands.specs.Homes.{KeepsHomes}
use Rattle.page_commands.specs.Steps.{ForAnyMapper, GivesBack, IsStoreTied, IsWorkingUnpinned, Releases, PinnedStayNamed}
use Rattle.page_commands.specs.Translating.{DropsFreed}
use Rattle.page_commands.proofs.TiedStores.Backed.{HomesStay, homeless}
use Rattle.page_commands.proofs.TiedStores.Homes.{others_kept, others_stay}
use Rattle.page_commands.proofs.NodesGone.Passed.{gone_own}
use Rattle.page_commands.proofs.NodesGone.Followed.{IsLoose, IsPassedUnclean, can_follow}
use Rattle.page_commands.proofs.NodesGone.Retired.{loose_frame, steps_back, steps_page}
use Rattle.page_commands.proofs.SeenFrames.Leaving.{merged_frames}

-- One step of settle was done, in the nodes and in the store.
pub record IsSettleStep (s : Store) (a : Arena) (t : Store) (b : Arena) : Type 0 where
  pub released : Released
  pub merged : IsMerged a b released
  pub forest : ForAnyMapper s a t b (λ old new. store_forest new ≡ settle_step (store_forest old) (name_of a merged.node))
  pub frames : frame_forest b t.map ≡ settle_step (frame_forest a s.map) (name_of a merged.node)

module _ (a b : Arena) (sound : IsSound a) (r : Released) (is : IsMerged a b r) (rel : IsReleased a b r) where
  merge_loose : (s : Store) → is_pinned s.frames (frame_of s.map is.node.0) ≡ false → (q : Released) → ReleasedAt a is.node q → IsLoose s.frames s.map q
  merge_loose s out Nothing k = tt
  merge_loose s out (Dropped n x) k = ap (λ (m : NodeId). is_pinned s.frames (frame_of s.map m.0)) k.0 ∙ out
  merge_loose s out (Moved from to) k = ap (λ (m : NodeId). is_pinned s.frames (frame_of s.map m.0)) k.0 ∙ out

  -- it is a working node
  not_live : (x : NodeName) → is_live x ≡ false → (k : ℕ) × (x ≡ Working k)
  not_live (Live c p) e = absurd (cc e)
  not_live (Working k) e = (k, refl)

  module _ (s : Store) (tied : IsStoreTied s a) (unpinned : IsWorkingUnpinned s a) where
    working : (k : ℕ) × (name_of a is.node ≡ Working k)
    working = not_live (name_of a is.node) (thin_is_working (forest_of a) (name_of a is.node) is.least).1

    merged_home : home_of a is.node ≡ None
    merged_home = ap (home_named a.caches) working.1

    merged_unclean : is_clean (own_of a is.node) ≡ false
    merged_unclean = homeless (world None None a s) is.node tied.backed merged_home

    passed_unclean : (q : Released) → ReleasedAt a is.node q → IsPassedUnclean a q
    passed_unclean Nothing k = tt
    passed_unclean (Dropped n x) k = tt
    passed_unclean (Moved from to) k = ap (λ (m : NodeId). is_clean (own_of a m)) k.0 ∙ merged_unclean

    -- what its child took over is no page of a segment
    clean_as : (q : Released) → ReleasedAt a is.node q → IsReleased a b q → (m : NodeId) → m ≢ is.node → is_clean (own_of b m) ≡ is_clean (own_of a m)
    clean_as Nothing k still m d = ap is_clean (still.own m)
    clean_as (Dropped n x) k drop m d = ap is_clean (drop.others m (λ e. d (e ∙ k.0)))
    clean_as (Moved from to) k pass m d = elim (id_cases m to) [
      | inl e ↦ ap (λ (i : NodeId). is_clean (own_of b i)) e ∙ ap is_clean pass.passed ∙ ap (λ (i : NodeId). is_clean (own_of a i)) k.0 ∙ merged_unclean ∙ sym (ap (λ (i : NodeId). is_clean (own_of a i)) e ∙ ap is_clean pass.absent)
      | inr other ↦ ap is_clean (pass.others m (λ e. d (e ∙ k.0)) other)
    ]

    own_as : (q : Released) → ReleasedAt a is.node q → IsReleased a b q → (m : NodeId) → m ≢ is.node → is_clean (own_of b m) ≡ true → own_of b m ≡ own_of a m
    own_as Nothing k still m d clean = still.own m
    own_as (Dropped n x) k drop m d clean = drop.others m (λ e. d (e ∙ k.0))
    own_as (Moved from to) k pass m d clean = elim (id_cases m to) [
      | inl e ↦ absurd (false≢true (sym (ap (λ (i : NodeId). is_clean (own_of b i)) e ∙ ap is_clean pass.passed ∙ ap (λ (i : NodeId). is_clean (own_of a i)) k.0 ∙ merged_unclean) ∙ clean))
      | inr other ↦ pass.others m (λ e. d (e ∙ k.0)) other
    ]

    merged_sizes : SameCaches a b
    merged_sizes = sizes_by a b (name_of a is.node) None is.gone.caches

    merged_stay : HomesStay a b
    merged_stay = others_stay a b is.node is.gone.name merged_sizes (home_none b is.node is.gone.gone) (ap is_clean (gone_own b is.node is.gone.gone)) (own_as r (merged_at a b sound r is) rel)

    merged_homes : KeepsHomes [] a b
    merged_homes = others_kept a b is.node is.gone.name merged_sizes (home_none b is.node is.gone.gone) (clean_as r (merged_at a b sound r is) rel) (grants-tables_with a b (name_of a is.node) None is.gone.caches) (locks-tables_with a b (name_of a is.node) None is.gone.caches)

    merged_loose : IsLoose s.frames s.map r
    merged_loose = merge_loose s (loose_frame s a is.node tied (λ f pin on. unpinned working.0 f is.node pin on working.1)) r (merged_at a b sound r is)

    pub merged_can : CanFollow s b r
    merged_can = can_follow s a b tied r rel merged_loose

    merged_named : PinnedStayNamed s a b
    merged_named f m pin on = elim (id_cases m is.node) [
      | inl e ↦ absurd (unpinned working.0 f m pin on (ap (name_of a) e ∙ working.1))
      | inr d ↦ is.gone.name m d
    ]

    module _ (t : Store) (after : (told : Option Held) (size : Option ℕ) → world told size b t ≡ followed (world told size b s) r) (sound_b : IsSound b) where
      merged_back : ForAnyMapper s a t b GivesBack
      merged_back = steps_back s a t b r rel merged_loose (passed_unclean r (merged_at a b sound r is)) merged_stay after

      pub merged_step : IsSettleStep s a t b
      unfolding store_forest
      merged_step = record {
        released = r;
        merged = is;
        forest = λ told size fit. settle_step-by (own_page (world told size a s)) a sound (tells (world told size a s)) b r is (own_page (world told size b t)) sound_b.kept.named (tells (world told size b t))
            (steps_page s a t b r rel merged_loose (passed_unclean r (merged_at a b sound r is)) merged_stay after told size fit);
        frames = merged_frames s a t b r rel merged_loose (passed_unclean r (merged_at a b sound r is)) merged_stay after tied sound sound_b is;
      }

      pub merged_kept : DropsFreed s t → Releases [] s a t b
      merged_kept tables = record {
        gives_back = merged_back;
        tables = tables;
        sound = sound_b;
        tied = (merged_back None None tied).tied;
        pinned = merged_named;
        sizes = merged_sizes;
        homes = merged_homes;
      }
