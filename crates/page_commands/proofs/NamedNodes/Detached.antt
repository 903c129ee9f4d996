-- A page was retired, and a fresh node made for it.
use Rattle.std.proofs.Common.{◌≡◌, ◌≢◌, ℕ, ◌<◌, [], ◌∷◌, length, Bool, true, false, Option, Some, None, IsSome, is_some, sym, ap, ◌∙◌, subst, arith, refl, inl, inr}
use Rattle.std.specs.Prelude.{◌⊎◌, if◌then◌else◌, option_and_then, option_map, replicate}
use Rattle.vm_ids.specs.Held.{Held}
use Rattle.vm_ids.specs.declared.node_name.NodeName.{NodeName}
use Rattle.vm_ids.specs.declared.node_name.NodeName.TheVariants.{Live}
use Rattle.vm_ids.specs.declared.numbers.CacheId.{CacheId}
use Rattle.vm_ids.specs.declared.numbers.NodeId.{NodeId}
use Rattle.vm_ids.specs.declared.numbers.PageNo.{PageNo}
use Rattle.vm_ids.specs.Forest.Changes.{put}
use Rattle.vm_ids.specs.Forest.NameLists.{◌∈◌}
use Rattle.vm_ids.specs.Forest.Nodes.{childless}
use Rattle.vm_ids.specs.Forest.Nodes.Hang.{Root}
use Rattle.vm_ids.specs.Forest.Rules.{detach, retire}
use Rattle.local_cache.specs.declared.own_state.OwnState.{OwnState}
use Rattle.local_cache.specs.declared.own_state.OwnState.TheVariants.{Absent, Zero, Resident, Slot, OnSegment}
use Rattle.local_cache.specs.Arena.{Arena, HasNode, IsVacant, find, is_granted, locks_of, tables_with, with_new}
use Rattle.local_cache.specs.Home.{home_named, home_of}
use Rattle.local_cache.specs.Own.{own_of}
use Rattle.local_cache.specs.Reading.{AreNamesApart, name_of}
use Rattle.local_cache.specs.ReadingBy.{forest_by}
use Rattle.local_cache.specs.Sound.{IsKept, IsSound}
use Rattle.local_cache.specs.Whole.{SameCaches}
use Rattle.local_cache.proofs.Changes.Granted.{grants-tables_with}
use Rattle.local_cache.proofs.Changes.Locked.{locks-tables_with}
use Rattle.local_cache.proofs.Names.Homes.{home-with_new_other}
use Rattle.local_cache.proofs.NewNode.States.{fresh_name, fresh_name_other, fresh_own, fresh_own_other, other_node}
use Rattle.local_cache.proofs.Nodes.OwnStates.{id_cases}
use Rattle.residency.specs.declared.store.Store.{Store}
use Rattle.residency.specs.StoreForest.{store_forest}
use Rattle.residency.specs.World.{IsTied, is_clean, own_page, page_at, page_by, world}
use Rattle.residency.proofs.Worlds.Telling.{tells}
use Rattle.tree_merge.specs.declared.released.Released.{Released}
use Rattle.tree_merge.specs.Releasing.{IsRetired}
use Rattle.tree_merge.proofs.Leaving.Sizes.{new_tables, sizes_new}
use Rattle.vm_ids.proofs.Places.{true_below}
use Rattle.page_commands.specs.Homes.{IsUnclean, KeepsHomes, WasThere, cleaned}
use Rattle.page_commands.specs.Steps.{ForAnyMapper, GivesBack, IsStoreTied, Releases, PinnedStayNamed, fresh_page, is_fresh}
use Rattle.page_commands.proofs.NamedNodes.Fresh.{fresh-by, fresh_gives, fresh_page_is, fresh_page_other}
use Rattle.page_commands.proofs.NamedNodes.Taken.{IsFreeHome, retired_free}
use Rattle.page_commands.proofs.TiedStores.Homes.{home_name}
use Rattle.page_commands.proofs.TiedStores.Kept.{gives_then, named_then}
use Rattle.page_commands.proofs.TiedStores.Tied.{home}

-- A fresh node
module _ (s : Store) (a : Arena) (d : NodeId) (free : find a d ≡ None) (cache : CacheId) (no : PageNo) (state : OwnState) (fresh : is_fresh a (Live cache no) state ≡ true) (c : Arena) (is : c ≡ with_new a d (Live cache no) state) where
  pub fresh_back : (told : Option Held) (size : Option ℕ) → IsTied (world told size a s) → IsFreeHome (world told size a s) (Live cache no) → GivesBack (world told size a s) (world told size c s)
  fresh_back told size fit room = subst (λ k. GivesBack (world told size a s) (world told size k s)) (sym is) (fresh_gives (world told size a s) d free (Live cache no) state fresh room fit)

  pub fresh_named : IsStoreTied s a → PinnedStayNamed s a c
  fresh_named tied f n pin at =
      let within : f < length s.map = omega (arith, true_below s.frames.pinned f pin, tied.fitted.pinned_frames, tied.fitted.map_frames) in
      let there : HasNode a n = (home (world None None a s) f n tied within at).there in
      ap (λ k. name_of k n) is ∙ fresh_name_other a d free (Live cache no) state n (other_node a d free (Live cache no) state n there)

  pub fresh_forest : IsKept a → AreNamesApart c → IsVacant a cache no → (told : Option Held) (size : Option ℕ)
      → store_forest (world told size c s) ≡ put (store_forest (world told size a s)) (Live cache no) (childless (fresh_page (world told size a s) (Live cache no) state) Root)
  unfolding store_forest
  fresh_forest kept named vacant told size =
      let w = world told size a s in
      let x = Live cache no in
      subst (λ k. AreNamesApart k → forest_by (own_page (world told size k s)) k ≡ put (forest_by (own_page w) a) x (childless (fresh_page w x state) Root)) (sym is)
      (λ after. fresh-by (own_page w) (own_page (world told size (with_new a d x state) s)) a kept (tells w) d free cache no vacant state after (tells (world told size (with_new a d x state) s))
      (fresh_page_other w d free x state fresh)
      ∙ ap (λ o. put (forest_by (own_page w) a) x (childless o Root)) (fresh_page_is w d free x state fresh))
      named

  fresh_tables : c.caches ≡ tables_with a.caches (Live cache no) (Some d)
  fresh_tables = ap (λ (k : Arena). k.caches) is ∙ new_tables a d (Live cache no) state

  pub fresh_grants : (page place : ℕ) → is_granted c page place ≡ is_granted a page place
  fresh_grants = grants-tables_with a c (Live cache no) (Some d) fresh_tables

  pub fresh_locks : (page place : ℕ) → locks_of c page place ≡ locks_of a page place
  fresh_locks = locks-tables_with a c (Live cache no) (Some d) fresh_tables

  pub fresh_is : (name_of c d ≡ Live cache no) × (own_of c d ≡ state)
  fresh_is = (ap (λ k. name_of k d) is ∙ fresh_name a d free (Live cache no) state, ap (λ k. own_of k d) is ∙ fresh_own a d free (Live cache no) state)

  -- all other nodes are as they were
  pub fresh_others : (m : NodeId) → m ≢ d → (name_of c m ≡ name_of a m) × (own_of c m ≡ own_of a m) × (home_of c m ≡ home_of a m)
  fresh_others m d' = (
    ap (λ k. name_of k m) is ∙ fresh_name_other a d free (Live cache no) state m d',
    ap (λ k. own_of k m) is ∙ fresh_own_other a d free (Live cache no) state m d',
    ap (λ k. home_of k m) is ∙ home-with_new_other a d (Live cache no) state m d',
  )

-- Retired, and then fresh

clean_or_listed : (t : Bool) (x : NodeName) → (t ≡ false) ⊎ (x ∈ (if t then x ∷ [] else []))
clean_or_listed true x = inr (inl refl)
clean_or_listed false x = inl refl

pub fresh_in : (a b : Arena) → SameCaches a b → (x : NodeName) (state : OwnState) → is_fresh a x state ≡ true → is_fresh b x state ≡ true
fresh_in a b same x Absent e = e
fresh_in a b same x Zero e = e
fresh_in a b same x (Resident dirty) e = e
fresh_in a b same x (Slot k) e = e
fresh_in a b same x OnSegment e = ap is_some (home_name a b same x) ∙ e

module _ (s : Store) (a : Arena) (tied : IsStoreTied s a) (cache : CacheId) (no : PageNo) (state : OwnState) (unclean : is_clean state ≡ false → IsUnclean a (Live cache no)) (n : NodeId) (named : name_of a n ≡ Live cache no) (t : Store) (b : Arena) (r : Released) (retired : IsRetired a b n r) (kept : Releases [] s a t b)
    (d : NodeId) (free : find b d ≡ None) (fresh : is_fresh a (Live cache no) state ≡ true) (c : Arena) (is : c ≡ with_new b d (Live cache no) state) where
  abbrev x : NodeName
  x = Live cache no

  fresh_now : is_fresh b (Live cache no) state ≡ true
  fresh_now = fresh_in a b kept.sizes (Live cache no) state fresh

  detach_back : ForAnyMapper s a t c GivesBack
  detach_back told size fit =
      let one = kept.gives_back told size fit in
      gives_then (world told size a s) (world told size b t) (world told size c t) one
      (fresh_back t b d free cache no state fresh_now c is told size one.tied (retired_free s a t b told size fit n x named r retired))

  was_unclean : (is_clean state ≡ false) ⊎ (x ∈ cleaned state x) → is_clean (own_of c d) ≡ is_clean state → (is_clean (own_of c d) ≡ is_clean (own_of a n)) ⊎ (name_of c d ∈ cleaned state x)
  was_unclean (inl out) e = inl (e ∙ out ∙ sym (unclean out n named))
  was_unclean (inr i) e = inr (subst (λ k. k ∈ cleaned state x) (sym (fresh_is t b d free cache no state fresh_now c is).0) i)

  detach_was : (m : NodeId) → IsSome (home_of c m) → WasThere (cleaned state (Live cache no)) a c m
  detach_was m some = elim (id_cases m d) [
    | inl e ↦ subst (WasThere (cleaned state x) a c) (sym e) (record {
      node = n;
      named = named ∙ sym (fresh_is t b d free cache no state fresh_now c is).0;
      clean = was_unclean (clean_or_listed (is_clean state) x) (ap is_clean (fresh_is t b d free cache no state fresh_now c is).1);
    })
    | inr other ↦
        let same = fresh_others t b d free cache no state fresh_now c is m other in
        let was = kept.homes.nodes m (subst IsSome same.2 some) in
        record {
          node = was.node;
          named = was.named ∙ sym same.0;
          clean = elim was.clean [ inl k ↦ inl (ap is_clean same.1 ∙ k) | inr i ↦ absurd i ];
        }
  ]

  detach_homes : KeepsHomes (cleaned state (Live cache no)) a c
  detach_homes = record {
    nodes = detach_was;
    grants = λ page place. fresh_grants t b d free cache no state fresh_now c is page place ∙ kept.homes.grants page place;
    locks = λ page place. fresh_locks t b d free cache no state fresh_now c is page place ∙ kept.homes.locks page place;
  }

  pub detach_kept : IsSound c → Releases (cleaned state (Live cache no)) s a t c
  detach_kept sound = record {
    gives_back = detach_back;
    tables = kept.tables;
    sound = sound;
    tied = (detach_back None None tied).tied;
    pinned = named_then s a t b c kept.gives_back tied kept.pinned (fresh_named t b d free cache no state fresh_now c is kept.tied);
    sizes = sizes_new a b c d x state kept.sizes is;
    homes = detach_homes;
  }

  pub detach_forest : IsSound c → IsVacant b cache no → ForAnyMapper s a t b (λ old new. store_forest new ≡ retire (store_forest old) (Live cache no))
      → ForAnyMapper s a t c (λ old new. store_forest new ≡ detach (store_forest old) (Live cache no) (fresh_page old (Live cache no) state))
  unfolding detach
  detach_forest sound_c vacant forest told size fit =
      let zeros : (world told size b t).frames.page ≡ (world told size a s).frames.page = (kept.gives_back told size fit).page in
      let homes : home_named b.caches x ≡ home_named a.caches x = home_name a b kept.sizes x in
      fresh_forest t b d free cache no state fresh_now c is kept.sound.kept sound_c.kept.named vacant told size
      ∙ ap (λ f. put f x (childless (fresh_page (world told size b t) x state) Root)) (forest told size fit)
      ∙ (λ i. put (retire (store_forest (world told size a s)) x) x
      (childless (page_by (option_map (λ _. replicate (zeros i) 0) told) None (λ slot. None) (option_and_then (λ h. option_and_then (page_at h) (homes i)) told) state) Root))
