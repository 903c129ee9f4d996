-- A node became that of a page that had none: the store is as it was, and the forest is the renamed
-- one.
use Rattle.std.proofs.Common.{◌≡◌, ◌≢◌, ℕ, true, false, Option, Some, None, IsSome, ap, sym, ◌∙◌, is_some, inl, inr}
use Rattle.std.proofs.lemmas.Bool.{false≢true}
use Rattle.std.specs.List.{count_by}
use Rattle.vm_ids.specs.Held.{Held}
use Rattle.vm_ids.specs.declared.node_name.NodeName.{NodeName}
use Rattle.vm_ids.specs.declared.node_name.NodeName.TheVariants.{Live}
use Rattle.vm_ids.specs.declared.numbers.CacheId.{CacheId}
use Rattle.vm_ids.specs.declared.numbers.NodeId.{NodeId}
use Rattle.vm_ids.specs.declared.numbers.PageNo.{PageNo}
use Rattle.vm_ids.specs.Forest.Changes.{rename}
use Rattle.local_cache.specs.Arena.{Arena, HasNode, IsVacant, with_name}
use Rattle.local_cache.specs.Home.{home_named, home_of}
use Rattle.local_cache.specs.Own.{own_of}
use Rattle.local_cache.specs.Reading.{name_of}
use Rattle.local_cache.specs.ReadingBy.{forest_by}
use Rattle.local_cache.specs.Sound.{IsKept}
use Rattle.local_cache.proofs.Names.Homes.{home-with_name, home-with_name_other}
use Rattle.local_cache.proofs.Names.PageName.{name_other, renamed-by, renamed_held, renamed_own}
use Rattle.local_cache.proofs.Nodes.OwnStates.{id_cases}
use Rattle.local_cache.proofs.Nodes.Values.{same_own_states}
use Rattle.residency.specs.declared.store.Store.{Store}
use Rattle.residency.specs.StoreForest.{store_forest}
use Rattle.residency.specs.World.{IsTied, home_page, is_clean, own_page, world}
use Rattle.residency.proofs.Worlds.Telling.{tells}
use Rattle.page_commands.specs.Steps.{GivesBack, IsUnpinned, PinnedStayNamed}
use Rattle.page_commands.proofs.TiedStores.Backed.{homeless}
use Rattle.page_commands.proofs.TiedStores.States.{SameStates, caches_give, states_page, states_tied}
use Rattle.page_commands.proofs.NamedNodes.Taken.{IsFreeHome, taken_backed}

module _ (b : Arena) (kept : IsKept b) (n : NodeId) (h : HasNode b n) (y : NodeName) (named : name_of b n ≡ y) (cache : CacheId) (page : PageNo) (vacant : IsVacant b cache page) (c : Arena) (is : c ≡ with_name b n (Live cache page)) where
  renamed_states : SameStates b c
  renamed_states = record {
    own = renamed_own b kept n h y named cache page vacant c is;
    count = λ p out. ap (λ xs. count_by p xs) (same_own_states b c (renamed_held b kept n h y named cache page vacant c is) (renamed_own b kept n h y named cache page vacant c is));
  }

  pub renamed_pinned : (s : Store) → IsUnpinned s b y → PinnedStayNamed s b c
  renamed_pinned s out f m pin at = elim (id_cases m n) [
    | inl e ↦ absurd (out f m pin at (ap (name_of b) e ∙ named))
    | inr d ↦ name_other b kept n h y named cache page vacant c is m d
  ]

  pub renamed_home : home_of c n ≡ home_named b.caches (Live cache page)
  renamed_home = ap (λ (k : Arena). home_of k n) is ∙ home-with_name b n (Live cache page)

  pub renamed_home_other : (m : NodeId) → m ≢ n → home_of c m ≡ home_of b m
  renamed_home_other m d = ap (λ (k : Arena). home_of k m) is ∙ home-with_name_other b n (Live cache page) m d

  -- its page is that of a temporary cache, and so none that its segment holds
  module _ (s : Store) (temporary : home_named b.caches y ≡ None) (told : Option Held) (size : Option ℕ) (tied : IsTied (world told size b s)) where
    pub renamed_unclean : is_clean (own_of c n) ≡ false
    renamed_unclean = ap is_clean (renamed_own b kept n h y named cache page vacant c is n) ∙ homeless (world told size b s) n tied.backed (ap (home_named b.caches) named ∙ temporary)

    renamed_clean : is_clean (own_of c n) ≡ true → IsSome (home_named b.caches (Live cache page)) × (own_page (world told size c s) n ≡ Some (home_page (world told size c s) n))
    renamed_clean k = absurd (false≢true (sym renamed_unclean ∙ k))

    pub renamed_back : IsFreeHome (world told size b s) (Live cache page) → GivesBack (world told size b s) (world told size c s)
    renamed_back free =
        let w = world told size b s in
        caches_give w c (states_tied w c renamed_states
        (taken_backed w c n (Live cache page) free renamed_home renamed_home_other (λ m d. renamed_own b kept n h y named cache page vacant c is m) renamed_clean tied.backed) tied)

    home_stays : (m : NodeId) → is_clean (own_of b m) ≡ true → home_of c m ≡ home_of b m
    home_stays m k = elim (id_cases m n) [
      | inl e ↦ absurd (false≢true (sym (ap (λ i. is_clean (own_of c i)) e ∙ renamed_unclean) ∙ ap is_clean (renamed_own b kept n h y named cache page vacant c is m) ∙ k))
      | inr d ↦ renamed_home_other m d
    ]

    pub renamed_bytes : store_forest (world told size c s) ≡ rename (store_forest (world told size b s)) y (Live cache page)
    unfolding store_forest
    renamed_bytes =
        let w = world told size b s in
        let v = world told size c s in
        let same : (m : NodeId) → own_page v m ≡ own_page w m = states_page w c renamed_states home_stays in
        (λ i. forest_by (λ m. same m i) c) ∙ renamed-by b kept n h y named cache page vacant c is (own_page w) (tells w) (λ m. ap is_some (sym (same m)) ∙ tells v m)
