-- A node goes, or loses its own page, and every other page is in the frame that it was in.
use Rattle.std.proofs.Common.{◌≡◌, ◌≢◌, ℕ, ◌==◌, Bool, true, false, cond, List, set, Option, Some, None, refl, sym, ap, ◌∙◌, subst, inl, inr}
use Rattle.std.proofs.lemmas.Bool.{false≢true}
use Rattle.vm_ids.specs.Held.{Held}
use Rattle.vm_ids.specs.declared.node_name.NodeName.{NodeName}
use Rattle.vm_ids.specs.declared.numbers.NodeId.{NodeId}
use Rattle.vm_ids.specs.Forest.Rules.{retire}
use Rattle.vm_ids.specs.Forest.Settling.{settle_step}
use Rattle.vm_ids.proofs.Places.{other_number, same_number}
use Rattle.frame_pool.specs.Pool.{is_pinned}
use Rattle.global_map.specs.Pairs.{frame_of}
use Rattle.local_cache.specs.declared.own_state.OwnState.{OwnState}
use Rattle.local_cache.specs.declared.own_state.OwnState.TheVariants.{Absent, Zero, Resident, Slot, OnSegment}
use Rattle.local_cache.specs.Arena.{Arena, HasNode}
use Rattle.local_cache.specs.Own.{is_resident, own_of}
use Rattle.local_cache.specs.Reading.{forest_of, name_of}
use Rattle.local_cache.specs.Sound.{IsSound}
use Rattle.local_cache.proofs.Nodes.OwnStates.{id_apart, id_cases}
use Rattle.residency.specs.Seeing.{frame_forest, own_frame}
use Rattle.residency.specs.declared.store.Store.{Store}
use Rattle.residency.specs.World.{IsTied, World, is_clean, world}
use Rattle.tree_merge.specs.declared.released.Released.{Released}
use Rattle.tree_merge.specs.declared.released.Released.TheVariants.{Nothing, Dropped, Moved}
use Rattle.tree_merge.specs.Releasing.{IsMerged, IsPassed, IsReleased, IsRetired}
use Rattle.tree_merge.proofs.OtherPages.{page_after, retire-by, settle_step-by}
use Rattle.page_commands.specs.Following.{followed, with_page_moved, without_page}
use Rattle.page_commands.specs.Homes.{MayGo}
use Rattle.page_commands.specs.Steps.{IsStoreTied, IsUnpinned}
use Rattle.page_commands.proofs.SeenFrames.OwnFrames.{frame_as, frame_tells}
use Rattle.page_commands.proofs.NodesGone.Dropped as dropped
use Rattle.page_commands.proofs.NodesGone.Dropped.{HasLost, went_lost}
use Rattle.page_commands.proofs.NodesGone.Followed.{IsLoose, IsPassedUnclean, not_gone}
use Rattle.page_commands.proofs.NodesGone.Passed.{place_stays, place_to}
use Rattle.page_commands.proofs.NodesGone.Retired.{retire_frame, retire_loose, retire_pages, retire_passed, retire_stay}
use Rattle.page_commands.proofs.TiedStores.Backed.{HomesStay}

module _ (w : World) (b : Arena) (tied : IsTied w) (stay : HomesStay w.caches b) where
  -- A page went
  module _ (n : NodeId) (lost : HasLost w.caches b n) (loose : is_pinned w.frames (frame_of w.map n.0) ≡ false) where
    unmoved : (m : NodeId) → m ≢ n → own_frame b w.map m ≡ own_frame w.caches w.map m
    unmoved m d = frame_as w.caches b w.map w.map m m (lost.others m d) (λ r. refl)

    pub dropped_frame : (x : OwnState) → own_of w.caches n ≡ x → (m : NodeId) → m ≢ n → own_frame b (without_page (record w { caches = b }) n x).map m ≡ own_frame w.caches w.map m
    dropped_frame Absent e m d = unmoved m d
    dropped_frame Zero e m d = unmoved m d
    dropped_frame (Resident t) e m d = frame_as w.caches b w.map (set w.map (frame_of w.map n.0) None) m m (lost.others m d) (λ r. dropped.place_stays w b n tied lost stay (ap is_resident e) loose m d)
    dropped_frame (Slot s) e m d = unmoved m d
    dropped_frame OnSegment e m d = unmoved m d

  -- A page went to another node
  module _ (from to : NodeId) (pass : IsPassed w.caches b from to) (unclean : is_clean (own_of w.caches from) ≡ false) where
    -- the frame of the one is that of the other, and any other page stays
    abbrev PassedFrames : List (Option NodeId) → Type 0
    PassedFrames map = (m : NodeId) → m ≢ from → own_frame b map m ≡ cond (m.0 == to.0) (own_frame w.caches w.map from) (own_frame w.caches w.map m)

    by_frames : (map : List (Option NodeId)) → (is_resident (own_of w.caches from) ≡ true → frame_of map to.0 ≡ frame_of w.map from.0) → ((m : NodeId) → m ≢ from → m ≢ to → frame_of map m.0 ≡ frame_of w.map m.0) → PassedFrames map
    by_frames map here others m d = elim (id_cases m to) [
      | inl e ↦ ap (own_frame b map) e ∙ frame_as w.caches b w.map map to from pass.passed here
          ∙ sym (ap (λ (t : Bool). cond t (own_frame w.caches w.map from) (own_frame w.caches w.map m)) (ap (λ (k : NodeId). k.0 == to.0) e ∙ same_number to.0))
      | inr other ↦ frame_as w.caches b w.map map m m (pass.others m d other) (λ r. others m d other)
          ∙ sym (ap (λ (t : Bool). cond t (own_frame w.caches w.map from) (own_frame w.caches w.map m)) (other_number m.0 to.0 (λ q. id_apart m to other q)))
    ]

    away_frames : is_resident (own_of w.caches from) ≡ false → PassedFrames w.map
    away_frames away = by_frames w.map (λ r. absurd (false≢true (sym away ∙ r))) (λ m d e. refl)

    pub passed_frame : (x : OwnState) → own_of w.caches from ≡ x → (m : NodeId) → m ≢ from
        → own_frame b (with_page_moved (record w { caches = b }) from to x).map m ≡ cond (m.0 == to.0) (own_frame w.caches w.map from) (own_frame w.caches w.map m)
    passed_frame Absent e = away_frames (ap is_resident e)
    passed_frame Zero e = away_frames (ap is_resident e)
    passed_frame (Resident t) e = by_frames (set w.map (frame_of w.map from.0) (Some to))
        (λ r. place_to w b from to tied pass.went pass.apart pass.there pass.absent pass.passed pass.others stay unclean r)
        (λ m d other. place_stays w b from to tied pass.went pass.apart pass.there pass.absent pass.passed pass.others stay unclean (ap is_resident e) m d other)
    passed_frame (Slot s) e = away_frames (ap is_resident e)
    passed_frame OnSegment e = away_frames (ap is_resident e)

  -- All of them
  pub follow_frame : (r : Released) → IsReleased w.caches b r → IsLoose w.frames w.map r → IsPassedUnclean w.caches r → (m : NodeId) → HasNode b m → own_frame b (followed (record w { caches = b }) r).map m ≡ page_after (own_frame w.caches w.map) r m
  follow_frame Nothing still loose unclean m h = frame_as w.caches b w.map w.map m m (still.own m) (λ r. refl)
  follow_frame (Dropped n state) drop loose unclean m h = subst (λ x. own_frame b (without_page (record w { caches = b }) n x).map m ≡ own_frame w.caches w.map m) (sym drop.state_is)
      (dropped_frame n (went_lost w.caches b n drop.went drop.others) loose (own_of w.caches n) refl m (not_gone w b tied stay drop.went m h))
  follow_frame (Moved from to) pass loose unclean m h = subst (λ x. own_frame b (with_page_moved (record w { caches = b }) from to x).map m ≡ cond (m.0 == to.0) (own_frame w.caches w.map from) (own_frame w.caches w.map m)) (sym pass.passed)
      (passed_frame from to pass unclean (own_of w.caches from) refl m (not_gone w b tied stay pass.went m h))

-- Followed in the store
module _ (s : Store) (a : Arena) (t : Store) (b : Arena) (r : Released) (rel : IsReleased a b r) (loose : IsLoose s.frames s.map r) (unclean : IsPassedUnclean a r) (stay : HomesStay a b) (is : (told : Option Held) (size : Option ℕ) → world told size b t ≡ followed (world told size b s) r) (tied : IsStoreTied s a) where
  pub steps_frame : (m : NodeId) → HasNode b m → own_frame b t.map m ≡ page_after (own_frame a s.map) r m
  steps_frame m h = ap (λ v. own_frame b v.map m) (is None None) ∙ follow_frame (world None None a s) b tied stay r rel loose unclean m h

  -- a page was retired
  pub retired_frames : IsSound a → IsSound b → (n : NodeId) → HasNode a n → IsRetired a b n r → (x : NodeName) → name_of a n ≡ x → forest_of b ≡ retire (forest_of a) x → frame_forest b t.map ≡ retire (frame_forest a s.map) x
  unfolding frame_forest
  retired_frames sound sound_b n there retired x named forest =
      retire-by (own_frame a s.map) a sound.kept.named (frame_tells a s.map) b n there r retired (own_frame b t.map) sound_b.kept.named (frame_tells b t.map)
      (λ m h. steps_frame m h ∙ retire_pages a b n r retired (own_frame a s.map) m) (forest ∙ ap (retire (forest_of a)) (sym named))
      ∙ ap (retire (frame_forest a s.map)) named

  -- a working node gave way
  pub merged_frames : IsSound a → IsSound b → (merged : IsMerged a b r) → frame_forest b t.map ≡ settle_step (frame_forest a s.map) (name_of a merged.node)
  unfolding frame_forest
  merged_frames sound sound_b merged = settle_step-by (own_frame a s.map) a sound (frame_tells a s.map) b r merged (own_frame b t.map) sound_b.kept.named (frame_tells b t.map) steps_frame

-- the node of a page was retired
module _ (s : Store) (a b : Arena) (n : NodeId) (x : NodeName) (there : HasNode a n) (named : name_of a n ≡ x) (r : Released) (is : IsRetired a b n r) (rel : IsReleased a b r) (tied : IsStoreTied s a) (unpinned : IsUnpinned s a x) (may : MayGo a x) where
  pub retire_frames : (t : Store) → ((told : Option Held) (size : Option ℕ) → world told size b t ≡ followed (world told size b s) r) → IsSound a → IsSound b → forest_of b ≡ retire (forest_of a) x → frame_forest b t.map ≡ retire (frame_forest a s.map) x
  retire_frames t after sound sound_b forest =
      retired_frames s a t b r rel (retire_loose a b n r is s (retire_frame s a b n x there named r is rel tied unpinned may)) (retire_passed a b n r is) (retire_stay s a b n x there named r is rel tied unpinned may) after tied
      sound sound_b n there is x named forest
