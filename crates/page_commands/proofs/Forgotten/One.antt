-- The page of one node is forgotten: a page of zeros is in its place, and its frame or its slot
-- falls free.
use Rattle.std.proofs.Common.{◌≡◌, ◌≢◌, ℕ, Bool, true, false, [], ◌∷◌, Option, Some, None, is_some, refl, sym, ap, ◌∙◌, subst, inl, inr}
use Rattle.std.specs.Prelude.{option_and_then, option_map, replicate}
use Rattle.std.proofs.lemmas.Bool.{false≢true}
use Rattle.vm_ids.specs.Held.{Held, slot_of}
use Rattle.vm_ids.specs.declared.node_name.NodeName.{NodeName}
use Rattle.vm_ids.specs.declared.numbers.NodeId.{NodeId}
use Rattle.vm_ids.specs.Forest.Changes.{edit, with_own as with_page}
use Rattle.vm_ids.specs.Forest.Forgetting.{forget}
use Rattle.vm_ids.specs.Forest.Nodes.{Forest, node}
use Rattle.vm_ids.specs.Forest.PageMap.{bare}
use Rattle.vm_ids.proofs.Forest.BareShape.{bare-linked}
use Rattle.vm_ids.proofs.Forest.LostPages.{forget-bare}
use Rattle.frame_pool.specs.Pool.{is_pinned}
use Rattle.global_map.specs.Pairs.{frame_of}
use Rattle.local_cache.specs.declared.own_state.OwnState.{OwnState}
use Rattle.local_cache.specs.declared.own_state.OwnState.TheVariants.{Absent, Zero, Resident, Slot, OnSegment}
use Rattle.local_cache.specs.Arena.{Arena, HasNode, cell, find, with_own}
use Rattle.local_cache.specs.Home.{home_of}
use Rattle.local_cache.specs.Own.{is_absent, own_of}
use Rattle.local_cache.specs.Reading.{forest_of, name_of, page_of}
use Rattle.local_cache.specs.ReadingBy.{forest_by}
use Rattle.local_cache.specs.Sound.{IsKept, IsSound}
use Rattle.local_cache.proofs.Changes.Granted.{grants-same}
use Rattle.local_cache.proofs.Changes.Locked.{locks-same}
use Rattle.local_cache.proofs.Changes.OneNode.{own-forest, own-kept}
use Rattle.local_cache.proofs.Changes.SameNodes.{caches-put, like-put}
use Rattle.local_cache.proofs.Forest.Reading.{node-forest_of}
use Rattle.local_cache.proofs.Forest.ReadingBy.{own-forest_by, page-at}
use Rattle.local_cache.proofs.Names.Homes.{home-with_own}
use Rattle.local_cache.proofs.Nodes.OwnStates.{id_cases, own_held, own_other, own_same}
use Rattle.local_cache.proofs.Tables.Sizes.{sizes_same}
use Rattle.residency.specs.declared.store.Store.{Store}
use Rattle.residency.specs.Seeing.{frame_forest, own_frame}
use Rattle.residency.specs.StoreForest.{store_forest}
use Rattle.residency.specs.World.{IsTied, frame_page, home_page, is_clean, own_page, page_by, world, zero_page}
use Rattle.residency.proofs.Worlds.Telling.{tells}
use Rattle.page_commands.specs.Following.{CanLeave, without_page}
use Rattle.page_commands.specs.Homes.{IsUnclean}
use Rattle.page_commands.specs.Steps.{ForAnyMapper, GivesBack, IsStoreTied, IsUnpinned, Releases, zeros_told}
use Rattle.page_commands.specs.Translating.{DropsFreed}
use Rattle.page_commands.proofs.SeenFrames.Leaving.{dropped_frame}
use Rattle.page_commands.proofs.SeenFrames.OwnFrames.{frame_tells}
use Rattle.page_commands.proofs.NodesGone.Dropped.{HasLost, zero_lost}
use Rattle.page_commands.proofs.NodesGone.Followed.{can_leave, dropped_gives, dropped_page}
use Rattle.page_commands.proofs.NodesGone.Retired.{loose_frame}
use Rattle.page_commands.proofs.TiedStores.Backed.{HomesStay}
use Rattle.page_commands.proofs.TiedStores.Homes.{named_kept}

-- The rule where there is a page, and where there is none
pub forget_there : {P : Type 0} (f : Forest P) (x : NodeName) (p v : P) → (node f x).own ≡ Some v → forget f x p ≡ edit f x (with_page (Some p))
unfolding forget
forget_there f x p v e = ap (λ o. elim o [ None ↦ f | Some v ↦ edit f x (with_page (Some p)) ]) e

pub forget_none : {P : Type 0} (f : Forest P) (x : NodeName) (p : P) → (node f x).own ≡ None → forget f x p ≡ f
unfolding forget
forget_none f x p e = ap (λ o. elim o [ None ↦ f | Some v ↦ edit f x (with_page (Some p)) ]) e

some_page : (x : OwnState) → is_absent x ≡ false → (v : OwnState) × (page_of x ≡ Some v)
some_page Absent e = absurd (cc e)
some_page Zero e = (Zero, refl)
some_page (Resident dirty) e = (Resident dirty, refl)
some_page (Slot s) e = (Slot s, refl)
some_page OnSegment e = (OnSegment, refl)

no_page : (x : OwnState) → is_absent x ≡ true → page_of x ≡ None
no_page Absent e = refl
no_page Zero e = absurd (cc e)
no_page (Resident dirty) e = absurd (cc e)
no_page (Slot s) e = absurd (cc e)
no_page OnSegment e = absurd (cc e)

some_of : {P : Type 0} (o : Option P) → is_some o ≡ true → (v : P) × (o ≡ Some v)
some_of None e = absurd (cc e)
some_of (Some v) e = (v, refl)

none_of : {P : Type 0} (o : Option P) → is_some o ≡ false → o ≡ None
none_of None e = refl
none_of (Some v) e = absurd (cc e)

module _ (s : Store) (a : Arena) (sound : IsSound a) (tied : IsStoreTied s a) (n : NodeId) (there : HasNode a n) (x : NodeName) (named : name_of a n ≡ x) where
  own_at : (node (forest_of a) x).own ≡ page_of (own_of a n)
  own_at = ap (λ y. (node (forest_of a) y).own) (sym named) ∙ ap (λ k. k.own) (node-forest_of a sound.kept.named n there)

  page_there : (told : Option Held) (size : Option ℕ) → (node (store_forest (world told size a s)) x).own ≡ own_page (world told size a s) n
  unfolding store_forest
  page_there told size = let w = world told size a s in ap (λ y. (node (forest_by (own_page w) a) y).own) (sym named) ∙ page-at (own_page w) a sound.kept.named n there

  frame_there : (node (frame_forest a s.map) x).own ≡ own_frame a s.map n
  unfolding frame_forest
  frame_there = ap (λ y. (node (forest_by (own_frame a s.map) a) y).own) (sym named) ∙ page-at (own_frame a s.map) a sound.kept.named n there

  -- No page is there
  module _ (none : is_absent (own_of a n) ≡ true) where
    pub absent_nodes : forest_of a ≡ forget (forest_of a) x Zero
    absent_nodes = sym (forget_none (forest_of a) x Zero (own_at ∙ no_page (own_of a n) none))

    pub absent_forest : (told : Option Held) (size : Option ℕ) → store_forest (world told size a s) ≡ forget (store_forest (world told size a s)) x (zeros_told (world told size a s))
    absent_forest told size =
        let w = world told size a s in
        sym (forget_none (store_forest w) x (zeros_told w) (page_there told size ∙ none_of (own_page w n) (tells w n ∙ ap is_some (no_page (own_of a n) none))))

    pub absent_frames : frame_forest a s.map ≡ forget (frame_forest a s.map) x None
    absent_frames = sym (forget_none (frame_forest a s.map) x None (frame_there ∙ none_of (own_frame a s.map n) (frame_tells a s.map n ∙ ap is_some (no_page (own_of a n) none))))

    absent_state : (t : OwnState) → is_absent t ≡ true → is_clean t ≡ false
    absent_state Absent e = refl
    absent_state Zero e = absurd (cc e)
    absent_state (Resident dirty) e = absurd (cc e)
    absent_state (Slot k) e = absurd (cc e)
    absent_state OnSegment e = absurd (cc e)

    pub absent_unclean : is_clean (own_of a n) ≡ false
    absent_unclean = absent_state (own_of a n) none

  -- only this node has the name
  pub unclean_named : (b : Arena) → IsSound b → HasNode b n → name_of b n ≡ x → is_clean (own_of b n) ≡ false → IsUnclean b x
  unclean_named b after held same out m at = go (is_clean (own_of b m)) refl
    where
      go : (t : Bool) → is_clean (own_of b m) ≡ t → is_clean (own_of b m) ≡ false
      go false e = e
      go true e = absurd (false≢true (sym out ∙ ap (λ i. is_clean (own_of b i)) (after.kept.named.apart n m held (own_held is_clean b m refl e) (same ∙ sym at)) ∙ e))

  -- A page of zeros is in its place
  module _ (unpinned : IsUnpinned s a x) (some : is_absent (own_of a n) ≡ false) where
    loose : is_pinned s.frames (frame_of s.map n.0) ≡ false
    loose = loose_frame s a n tied (λ f pin at. unpinned f n pin at named)

    pub forget_can : CanLeave s n (own_of a n)
    forget_can = can_leave s a a tied n (own_of a n) there refl loose

    module _ (t : Store) (b : Arena) (is : b ≡ with_own a n Zero) (after : (told : Option Held) (size : Option ℕ) → world told size b t ≡ without_page (world told size b s) n (own_of a n)) where
      own_now : own_of b n ≡ Zero
      own_now = ap (λ k. own_of k n) is ∙ own_same a n Zero

      own_others : (m : NodeId) → m ≢ n → own_of b m ≡ own_of a m
      own_others m d = ap (λ k. own_of k m) is ∙ own_other a n m Zero d

      name_same : (m : NodeId) → name_of b m ≡ name_of a m
      name_same m = ap (λ k. name_of k m) is ∙ (like-put a n (record (cell a n) { own = Zero }) there refl).name m

      caches_same : b.caches ≡ a.caches
      caches_same = ap (λ k. k.caches) is ∙ caches-put a n (record (cell a n) { own = Zero })

      home_same : (m : NodeId) → home_of b m ≡ home_of a m
      home_same m = ap (λ k. home_of k m) is ∙ home-with_own a n Zero m

      apart : (m : NodeId) → is_clean (own_of b m) ≡ true → m ≢ n
      apart m k e = false≢true (sym (ap (λ i. is_clean (own_of b i)) e ∙ ap is_clean own_now) ∙ k)

      stay : HomesStay a b
      stay = record { homes = λ m h e. sym (home_same m) ∙ e; own = λ m k. own_others m (apart m k); clean = λ m k. home_same m }

      pub forget_nodes : forest_of b ≡ forget (forest_of a) x Zero
      forget_nodes =
          let v = some_page (own_of a n) some in
          ap forest_of is ∙ own-forest a sound.kept n there Zero ∙ ap (λ y. edit (forest_of a) y (with_page (Some Zero))) named
          ∙ sym (forget_there (forest_of a) x Zero v.0 (own_at ∙ v.1))

      pub forget_sound : IsSound b
      forget_sound = record {
        kept = subst IsKept (sym is) (own-kept a sound.kept n there Zero);
        linked = bare-linked (forest_of a) (forest_of b) (sym (ap bare forget_nodes ∙ forget-bare (forest_of a) x Zero)) sound.linked;
      }

      lost : HasLost a b n
      lost = subst (λ k. HasLost a k n) (sym is) (zero_lost a n there)

      forget_back : ForAnyMapper s a t b GivesBack
      forget_back told size fit = subst (GivesBack (world told size a s)) (sym (after told size)) (dropped_gives (world told size a s) b fit stay n lost loose (own_of a n) refl)

      pub forget_forest : ForAnyMapper s a t b (λ old new. store_forest new ≡ forget (store_forest old) x (zeros_told old))
      unfolding store_forest
      forget_forest told size fit =
          let w = world told size a s in
          let v = world told size b t in
          let z = some_of (own_page w n) (tells w n ∙ ap is_some (some_page (own_of a n) some).1) in
          let zeros : own_page v n ≡ Some (zeros_told w) = zeros_are told size fit in
          subst (λ k. ((m : NodeId) → m ≢ n → own_page (world told size k t) m ≡ own_page w m) → own_page (world told size k t) n ≡ Some (zeros_told w) → forest_by (own_page (world told size k t)) k ≡ edit (forest_by (own_page w) a) x (with_page (Some (zeros_told w)))) (sym is)
          (λ others now. own-forest_by (own_page w) (own_page (world told size (with_own a n Zero) t)) a sound.kept n there Zero (tells w) (ap is_some now) others (tells (world told size (with_own a n Zero) t))
          ∙ (λ i. edit (forest_by (own_page w) a) (named i) (with_page (now i))))
          (λ m d. ap (λ k. own_page k m) (after told size) ∙ dropped_page w b fit stay n lost loose (own_of a n) refl m d) zeros
          ∙ sym (forget_there (forest_by (own_page w) a) x (zeros_told w) z.0 (page_there told size ∙ z.1))
        where
          zeros_are : (told : Option Held) (size : Option ℕ) → IsTied (world told size a s) → own_page (world told size b t) n ≡ Some (zeros_told (world told size a s))
          zeros_are told size fit =
              let v = world told size b t in
              ap (page_by (option_map (λ _. zero_page v) told) (option_map (λ _. frame_page v n) told) (λ k. option_and_then (λ h. slot_of h k) told) (home_page v n)) own_now
              ∙ ap (λ (k : ℕ). Some (option_map (λ _. replicate k 0) told)) (forget_back told size fit).page

      pub forget_frames : frame_forest b t.map ≡ forget (frame_forest a s.map) x None
      unfolding frame_forest
      forget_frames =
          let page = own_frame a s.map in
          let z = some_of (own_frame a s.map n) (frame_tells a s.map n ∙ ap is_some (some_page (own_of a n) some).1) in
          let none : own_frame b t.map n ≡ Some None = ap (page_by None (Some (frame_of t.map n.0)) (λ k. None) None) own_now in
          subst (λ k. ((m : NodeId) → m ≢ n → own_frame k t.map m ≡ page m) → own_frame k t.map n ≡ Some None → forest_by (own_frame k t.map) k ≡ edit (forest_by page a) x (with_page (Some None))) (sym is)
          (λ others now. own-forest_by page (own_frame (with_own a n Zero) t.map) a sound.kept n there Zero (frame_tells a s.map) (ap is_some now) others (frame_tells (with_own a n Zero) t.map)
          ∙ (λ i. edit (forest_by page a) (named i) (with_page (now i))))
          (λ m d. ap (λ v. own_frame b v.map m) (after None None) ∙ dropped_frame (world None None a s) b tied stay n lost loose (own_of a n) refl m d) none
          ∙ sym (forget_there (forest_by page a) x None z.0 (frame_there ∙ z.1))

      pub forget_kept : DropsFreed s t → Releases (x ∷ []) s a t b
      forget_kept tables = record {
        gives_back = forget_back;
        tables = tables;
        sound = forget_sound;
        tied = (forget_back None None tied).tied;
        pinned = λ f m pin at. name_same m;
        sizes = sizes_same a b caches_same;
        homes = named_kept (x ∷ []) a b (λ m some. name_same m) (λ m some. elim (id_cases m n) [
          | inl e ↦ inr (inl (name_same m ∙ ap (name_of a) e ∙ named))
          | inr d ↦ inl (ap is_clean (own_others m d))
        ]) (grants-same a b caches_same) (locks-same a b caches_same);
      }

      pub forget_unclean : IsUnclean b x
      forget_unclean = unclean_named b forget_sound (ap (λ k. is_some (find k n)) is ∙ (like-put a n (record (cell a n) { own = Zero }) there refl).held n ∙ there) (name_same n ∙ named) (ap is_clean own_now)
