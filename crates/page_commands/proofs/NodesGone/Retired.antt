-- What the caches did and released was followed in the store.
use Rattle.std.proofs.Common.{◌≡◌, ◌≢◌, ℕ, zero, suc, ◌<◌, Bool, true, false, [], length, get_or, Option, Some, None, refl, sym, ap, ◌∙◌, subst, arith, inl, inr, ◌⊎◌}
use Rattle.std.proofs.lemmas.List.Sums.{passes_at_first}
use Rattle.vm_ids.specs.Held.{Held}
use Rattle.vm_ids.specs.declared.node_name.NodeName.{NodeName}
use Rattle.vm_ids.specs.declared.numbers.NodeId.{NodeId}
use Rattle.vm_ids.specs.Forest.Nodes.{child_count}
use Rattle.vm_ids.specs.Forest.Rules.{retire}
use Rattle.vm_ids.proofs.Places.{true_below}
use Rattle.frame_pool.specs.Pool.{is_pinned}
use Rattle.global_map.specs.Pairs.{frame_of, is_node, node_of}
use Rattle.local_cache.specs.Arena.{Arena, HasNode, as_working, put, tables_with}
use Rattle.local_cache.specs.Home.{home_of}
use Rattle.local_cache.specs.Own.{own_of}
use Rattle.local_cache.specs.Reading.{forest_of, name_of}
use Rattle.local_cache.specs.Sound.{IsSound}
use Rattle.local_cache.proofs.Nodes.OwnStates.{id_cases}
use Rattle.local_cache.proofs.Names.Homes.{home-as_working, home_none}
use Rattle.local_cache.proofs.Changes.Granted.{grants-tables_with}
use Rattle.local_cache.proofs.Changes.Locked.{locks-tables_with}
use Rattle.residency.specs.declared.store.Store.{Store}
use Rattle.residency.specs.StoreForest.{store_forest}
use Rattle.residency.specs.World.{IsTied, is_clean, own_page, world}
use Rattle.residency.proofs.Worlds.Telling.{tells}
use Rattle.tree_merge.specs.declared.released.Released.{Released}
use Rattle.tree_merge.specs.Releasing.{IsReleased, IsRetired, IsStill, own_after}
use Rattle.tree_merge.proofs.Leaving.Sizes.{sizes_retired}
use Rattle.tree_merge.proofs.OtherPages.{page_after, retire-by}
use Rattle.tree_merge.proofs.Releases.{working_name}
use Rattle.page_commands.specs.Following.{CanFollow, followed}
use Rattle.page_commands.specs.Homes.{KeepsHomes, MayGo}
use Rattle.page_commands.specs.Steps.{ForAnyMapper, GivesBack, IsStoreTied, IsUnpinned, Releases, PinnedStayNamed}
use Rattle.page_commands.specs.Translating.{DropsFreed}
use Rattle.page_commands.proofs.TiedStores.Backed.{HomesStay}
use Rattle.page_commands.proofs.TiedStores.Homes.{others_kept, others_stay}
use Rattle.page_commands.proofs.NodesGone.Followed.{IsLoose, IsPassedUnclean, can_follow, follow_gives, follow_page}
use Rattle.page_commands.proofs.NodesGone.Passed.{gone_own, node_is}

working_tables : (a : Arena) (n : NodeId) → (as_working a n).caches ≡ tables_with a.caches (name_of a n) None
unfolding put
working_tables a n = refl

-- The frame that a node stands in isn't pinned, where no pinned frame is its.
pub loose_frame : (s : Store) (a : Arena) (n : NodeId) → IsStoreTied s a → ((f : ℕ) → is_pinned s.frames f ≡ true → node_of s.map f ≡ Some n → ⊥) → is_pinned s.frames (frame_of s.map n.0) ≡ false
loose_frame s a n tied none = go (is_pinned s.frames (frame_of s.map n.0)) refl
  where
    go : (t : Bool) → is_pinned s.frames (frame_of s.map n.0) ≡ t → is_pinned s.frames (frame_of s.map n.0) ≡ false
    go false e = e
    go true e =
        let within : frame_of s.map n.0 < length s.map = omega (arith, true_below s.frames.pinned (frame_of s.map n.0) e, tied.fitted.pinned_frames, tied.fitted.map_frames) in
        let here : is_node n.0 (get_or s.map (frame_of s.map n.0) None) ≡ true = passes_at_first (is_node n.0) s.map None within in
        absurd (none (frame_of s.map n.0) e (node_is n (get_or s.map (frame_of s.map n.0) None) here))

-- Followed in the store
module _ (s : Store) (a : Arena) (t : Store) (b : Arena) (r : Released) (rel : IsReleased a b r) (loose : IsLoose s.frames s.map r) (unclean : IsPassedUnclean a r) (stay : HomesStay a b) (is : (told : Option Held) (size : Option ℕ) → world told size b t ≡ followed (world told size b s) r) where
  pub steps_back : ForAnyMapper s a t b GivesBack
  steps_back told size tied = subst (λ v. GivesBack (world told size a s) v) (sym (is told size)) (follow_gives (world told size a s) b tied stay r rel loose unclean)

  pub steps_page : (told : Option Held) (size : Option ℕ) → IsTied (world told size a s) → (m : NodeId) → HasNode b m → own_page (world told size b t) m ≡ page_after (own_page (world told size a s)) r m
  steps_page told size tied m h = ap (λ v. own_page v m) (is told size) ∙ follow_page (world told size a s) b tied stay r rel loose unclean m h

-- A page was retired
module _ (a b : Arena) (n : NodeId) (r : Released) (is : IsRetired a b n r) where
  pub retire_loose : (s : Store) → is_pinned s.frames (frame_of s.map n.0) ≡ false → IsLoose s.frames s.map r
  retire_loose s out = go (child_count (forest_of a) (name_of a n)) refl
    where
      go : (k : ℕ) → child_count (forest_of a) (name_of a n) ≡ k → IsLoose s.frames s.map r
      go zero e = subst (IsLoose s.frames s.map) (sym (is.leaf e).0) out
      go (suc k) e = subst (IsLoose s.frames s.map) (sym (is.parent (omega (arith, e))).0) tt

  pub retire_pages : {P : Type 0} → (page : NodeId → P) → (m : NodeId) → page_after page r m ≡ page m
  retire_pages page m = go (child_count (forest_of a) (name_of a n)) refl
    where
      go : (k : ℕ) → child_count (forest_of a) (name_of a n) ≡ k → page_after page r m ≡ page m
      go zero e = ap (λ x. page_after page x m) (is.leaf e).0
      go (suc k) e = ap (λ x. page_after page x m) (is.parent (omega (arith, e))).0

  -- all other nodes that are there have their names
  pub retire_name : (m : NodeId) → m ≢ n → name_of b m ≡ name_of a m
  retire_name m d = go (child_count (forest_of a) (name_of a n)) refl
    where
      go : (k : ℕ) → child_count (forest_of a) (name_of a n) ≡ k → name_of b m ≡ name_of a m
      go zero e = (is.leaf e).1.name m d
      go (suc k) e = ap (λ (x : Arena). name_of x m) (is.parent (omega (arith, e))).1 ∙ working_name a n m d

  -- what was released is no page of another node
  pub retire_passed : IsPassedUnclean a r
  retire_passed = go (child_count (forest_of a) (name_of a n)) refl
    where
      go : (k : ℕ) → child_count (forest_of a) (name_of a n) ≡ k → IsPassedUnclean a r
      go zero e = subst (IsPassedUnclean a) (sym (is.leaf e).0) tt
      go (suc k) e = subst (IsPassedUnclean a) (sym (is.parent (omega (arith, e))).0) tt

  -- the tables are without it
  retired_tables : b.caches ≡ tables_with a.caches (name_of a n) None
  retired_tables = go (child_count (forest_of a) (name_of a n)) refl
    where
      go : (k : ℕ) → child_count (forest_of a) (name_of a n) ≡ k → b.caches ≡ tables_with a.caches (name_of a n) None
      go zero e = (is.leaf e).1.caches
      go (suc k) e = ap (λ (c : Arena). c.caches) (is.parent (omega (arith, e))).1 ∙ working_tables a n

  -- it has no home then
  pub retired_home : home_of b n ≡ None
  retired_home = go (child_count (forest_of a) (name_of a n)) refl
    where
      go : (k : ℕ) → child_count (forest_of a) (name_of a n) ≡ k → home_of b n ≡ None
      go zero e = home_none b n (is.leaf e).1.gone
      go (suc k) e = ap (λ (c : Arena). home_of c n) (is.parent (omega (arith, e))).1 ∙ home-as_working a n

  -- all others have their own states
  retired_own : IsReleased a b r → (m : NodeId) → m ≢ n → own_of b m ≡ own_of a m
  retired_own rel m d = go (child_count (forest_of a) (name_of a n)) refl
    where
      go : (k : ℕ) → child_count (forest_of a) (name_of a n) ≡ k → own_of b m ≡ own_of a m
      go zero e = (is.leaf e).2 m d ∙ ap (λ x. own_after a x m) (is.leaf e).0
      go (suc k) e = let still : IsStill a b = subst (IsReleased a b) (is.parent (omega (arith, e))).0 rel in still.own m

  module _ (rel : IsReleased a b r) (may : (is_clean (own_of a n) ≡ false) ⊎ (child_count (forest_of a) (name_of a n) ≡ 0)) where
    retired_unclean : is_clean (own_of b n) ≡ false
    retired_unclean = go (child_count (forest_of a) (name_of a n)) refl
      where
        go : (k : ℕ) → child_count (forest_of a) (name_of a n) ≡ k → is_clean (own_of b n) ≡ false
        go zero e = ap is_clean (gone_own b n (is.leaf e).1.gone)
        go (suc k) e = let still : IsStill a b = subst (IsReleased a b) (is.parent (omega (arith, e))).0 rel in elim may [ inl unclean ↦ ap is_clean (still.own n) ∙ unclean | inr none ↦ absurd (omega (arith, none, e)) ]

    pub retired_stay : HomesStay a b
    retired_stay = others_stay a b n retire_name (sizes_retired a b n r is) retired_home retired_unclean (λ m d k. retired_own rel m d)

    pub retired_homes : KeepsHomes [] a b
    retired_homes = others_kept a b n retire_name (sizes_retired a b n r is) retired_home (λ m d. ap is_clean (retired_own rel m d)) (grants-tables_with a b (name_of a n) None retired_tables) (locks-tables_with a b (name_of a n) None retired_tables)

-- of the node of a page
module _ (s : Store) (a b : Arena) (n : NodeId) (x : NodeName) (there : HasNode a n) (named : name_of a n ≡ x) (r : Released) (is : IsRetired a b n r) (rel : IsReleased a b r) (tied : IsStoreTied s a) (unpinned : IsUnpinned s a x) (may : MayGo a x) where
  may_here : MayGo a x → (is_clean (own_of a n) ≡ false) ⊎ (child_count (forest_of a) (name_of a n) ≡ 0)
  may_here (inl unclean) = inl (unclean n named)
  may_here (inr none) = inr (ap (child_count (forest_of a)) named ∙ none)

  pub retire_frame : is_pinned s.frames (frame_of s.map n.0) ≡ false
  retire_frame = loose_frame s a n tied (λ f pin at. unpinned f n pin at named)

  pub retire_can : CanFollow s b r
  retire_can = can_follow s a b tied r rel (retire_loose a b n r is s retire_frame)

  pub retire_stay : HomesStay a b
  retire_stay = retired_stay a b n r is rel (may_here may)

  pub retire_homes : KeepsHomes [] a b
  retire_homes = retired_homes a b n r is rel (may_here may)

  pub retire_named : PinnedStayNamed s a b
  retire_named f m pin at = elim (id_cases m n) [
    | inl e ↦ absurd (unpinned f m pin at (ap (name_of a) e ∙ named))
    | inr d ↦ retire_name a b n r is m d
  ]

  module _ (t : Store) (after : (told : Option Held) (size : Option ℕ) → world told size b t ≡ followed (world told size b s) r) where
    pub retire_back : ForAnyMapper s a t b GivesBack
    retire_back = steps_back s a t b r rel (retire_loose a b n r is s retire_frame) (retire_passed a b n r is) retire_stay after

    pub retire_forest : IsSound a → IsSound b → forest_of b ≡ retire (forest_of a) x → ForAnyMapper s a t b (λ old new. store_forest new ≡ retire (store_forest old) x)
    unfolding store_forest
    retire_forest sound sound_b forest told size fit =
        let w = world told size a s in
        let v = world told size b t in
        retire-by (own_page w) a sound.kept.named (tells w) b n there r is (own_page v) sound_b.kept.named (tells v)
        (λ m h. steps_page s a t b r rel (retire_loose a b n r is s retire_frame) (retire_passed a b n r is) retire_stay after told size fit m h ∙ retire_pages a b n r is (own_page w) m)
        (forest ∙ ap (retire (forest_of a)) (sym named))
        ∙ ap (retire (store_forest w)) named

    pub retire_kept : IsSound b → DropsFreed s t → Releases [] s a t b
    retire_kept sound_b tables = record {
      gives_back = retire_back;
      tables = tables;
      sound = sound_b;
      tied = (retire_back None None tied).tied;
      pinned = retire_named;
      sizes = sizes_retired a b n r is;
      homes = retire_homes;
    }
