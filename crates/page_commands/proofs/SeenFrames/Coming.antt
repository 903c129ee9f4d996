-- A node takes the name of a page that has none, and every other page is in the frame that it was
-- in.
use Rattle.std.proofs.Common.{◌≡◌, ◌≢◌, ℕ, true, false, List, Option, Some, None, is_some, refl, sym, ap, ◌∙◌, subst}
use Rattle.vm_ids.specs.Held.{Held}
use Rattle.vm_ids.specs.declared.node_name.NodeName.{NodeName}
use Rattle.vm_ids.specs.declared.node_name.NodeName.TheVariants.{Live}
use Rattle.vm_ids.specs.declared.numbers.CacheId.{CacheId}
use Rattle.vm_ids.specs.declared.numbers.NodeId.{NodeId}
use Rattle.vm_ids.specs.declared.numbers.PageNo.{PageNo}
use Rattle.vm_ids.specs.Forest.Changes.{put, rename}
use Rattle.vm_ids.specs.Forest.Nodes.{childless}
use Rattle.vm_ids.specs.Forest.Nodes.Hang.{Root}
use Rattle.vm_ids.specs.Forest.Rules.{detach, move_page, retire}
use Rattle.global_map.specs.Pairs.{frame_of}
use Rattle.local_cache.specs.declared.own_state.OwnState.{OwnState}
use Rattle.local_cache.specs.declared.own_state.OwnState.TheVariants.{Absent, Zero, Resident, Slot, OnSegment}
use Rattle.local_cache.specs.Arena.{Arena, HasNode, IsVacant, find, with_name, with_new}
use Rattle.local_cache.specs.Own.{is_resident}
use Rattle.local_cache.specs.Reading.{AreNamesApart, name_of}
use Rattle.local_cache.specs.ReadingBy.{forest_by}
use Rattle.local_cache.specs.Sound.{IsKept, IsSound}
use Rattle.local_cache.proofs.Names.PageName.{renamed-by, renamed_own}
use Rattle.local_cache.proofs.NewNode.States.{fresh_own, fresh_own_other}
use Rattle.residency.specs.Seeing.{frame_forest, own_frame}
use Rattle.residency.specs.World.{page_by, world}
use Rattle.residency.specs.declared.store.Store.{Store}
use Rattle.tree_merge.specs.declared.released.Released.{Released}
use Rattle.move_pages.specs.Moved.{IsMoved}
use Rattle.move_pages.proofs.Moves.{moved_kept, moved_vacant}
use Rattle.page_commands.specs.Following.{followed}
use Rattle.page_commands.specs.Homes.{IsUnclean}
use Rattle.page_commands.specs.Steps.{IsStoreTied, IsUnpinned, fresh_frame, is_fresh}
use Rattle.page_commands.proofs.NamedNodes.Fresh.{fresh-by}
use Rattle.page_commands.proofs.NamedNodes.Moved.{before, there, there_named, was, was_named}
use Rattle.page_commands.proofs.SeenFrames.Leaving.{retire_frames}
use Rattle.page_commands.proofs.SeenFrames.OwnFrames.{frame_as, frame_tells, no_frame}
use Rattle.page_commands.proofs.TiedStores.Named.{unclean_may}

-- A fresh node
module _ (map : List (Option NodeId)) (a : Arena) (kept : IsKept a) (d : NodeId) (free : find a d ≡ None) (cache : CacheId) (no : PageNo) (vacant : IsVacant a cache no) (state : OwnState) (fresh : is_fresh a (Live cache no) state ≡ true) (c : Arena) (is : c ≡ with_new a d (Live cache no) state) (named : AreNamesApart c) where
  abbrev x : NodeName
  x = Live cache no

  not_resident : (t : OwnState) → is_fresh a (Live cache no) t ≡ true → is_resident t ≡ false
  not_resident Absent e = refl
  not_resident Zero e = refl
  not_resident (Resident dirty) e = absurd (cc e)
  not_resident (Slot k) e = absurd (cc e)
  not_resident OnSegment e = refl

  fresh_is : own_frame (with_new a d (Live cache no) state) map d ≡ fresh_frame state
  fresh_is = ap (page_by None (Some (frame_of map d.0)) (λ slot. None) None) (fresh_own a d free x state) ∙ no_frame (frame_of map d.0) state (not_resident state fresh)

  others : (m : NodeId) → m ≢ d → own_frame (with_new a d (Live cache no) state) map m ≡ own_frame a map m
  others m ne = frame_as a (with_new a d x state) map map m m (fresh_own_other a d free x state m ne) (λ r. refl)

  pub fresh_frames : frame_forest c map ≡ put (frame_forest a map) (Live cache no) (childless (fresh_frame state) Root)
  unfolding frame_forest
  fresh_frames = subst (λ k. AreNamesApart k → forest_by (own_frame k map) k ≡ put (forest_by (own_frame a map) a) x (childless (fresh_frame state) Root)) (sym is)
      (λ after. fresh-by (own_frame a map) (own_frame (with_new a d x state) map) a kept (frame_tells a map) d free cache no vacant state after (frame_tells (with_new a d x state) map) others
      ∙ ap (λ o. put (forest_by (own_frame a map) a) x (childless o Root)) fresh_is)
      named

  -- behind a page that was retired
  pub detach_frames : (old : List (Option NodeId)) (o : Arena) → frame_forest a map ≡ retire (frame_forest o old) (Live cache no) → frame_forest c map ≡ detach (frame_forest o old) (Live cache no) (fresh_frame state)
  unfolding detach
  detach_frames old o retired = fresh_frames ∙ ap (λ f. put f x (childless (fresh_frame state) Root)) retired

-- Another name
module _ (map : List (Option NodeId)) (b : Arena) (kept : IsKept b) (n : NodeId) (h : HasNode b n) (y : NodeName) (named : name_of b n ≡ y) (cache : CacheId) (page : PageNo) (vacant : IsVacant b cache page) (c : Arena) (is : c ≡ with_name b n (Live cache page)) where
  pub renamed_frames : frame_forest c map ≡ rename (frame_forest b map) y (Live cache page)
  unfolding frame_forest
  renamed_frames =
      let same : (m : NodeId) → own_frame c map m ≡ own_frame b map m = λ m. frame_as b c map map m m (renamed_own b kept n h y named cache page vacant c is m) (λ r. refl) in
      (λ i. forest_by (λ m. same m i) c) ∙ renamed-by b kept n h y named cache page vacant c is (own_frame b map) (frame_tells b map) (λ m. ap is_some (sym (same m)) ∙ frame_tells c map m)

-- A page was moved
module _ (s : Store) (a : Arena) (sound : IsSound a) (tied : IsStoreTied s a) (from : CacheId) (from_page : PageNo) (to : CacheId) (to_page : PageNo) (unpinned : IsUnpinned s a (Live to to_page)) (unclean : IsUnclean a (Live to to_page)) (r : Released) (d : Arena) (m : IsMoved a d from from_page to to_page r)
    (t : Store) (after : (told : Option Held) (size : Option ℕ) → world told size d t ≡ followed (world told size d s) r) where
  pub move_frames : IsSound d → frame_forest d t.map ≡ move_page (frame_forest a s.map) (Live to to_page) (Live from from_page) None
  move_frames sound_d =
      let x = Live to to_page in
      let y = Live from from_page in
      let b = m.between in
      let c = with_name m.between m.origin (Live to to_page) in
      let cleared : frame_forest b t.map ≡ retire (frame_forest a s.map) x =
      retire_frames s a b m.cleared.node x (was s a sound tied from from_page to to_page unpinned unclean r d m) (was_named s a sound tied from from_page to to_page unpinned unclean r d m) r m.cleared.retired m.cleared.told tied unpinned (unclean_may a x unclean)
      t (before s a sound tied from from_page to to_page unpinned unclean r d m t after) sound m.cleared.sound m.cleared.forest in
      let renamed : frame_forest c t.map ≡ rename (frame_forest b t.map) y x =
      renamed_frames t.map b m.cleared.sound.kept m.origin (there s a sound tied from from_page to to_page unpinned unclean r d m) y (there_named s a sound tied from from_page to to_page unpinned unclean r d m) to to_page m.cleared.vacant c refl in
      fresh_frames t.map c (moved_kept b m.cleared.sound to to_page m.cleared.vacant from from_page m.origin m.source c refl) m.fresh m.free from from_page (moved_vacant b m.cleared.sound to to_page m.cleared.vacant from from_page m.origin m.source c refl) Zero refl d m.is sound_d.kept.named
      ∙ ap (λ f. put f y (childless (Some None) Root)) (renamed ∙ ap (λ f. rename f y x) cleared)
