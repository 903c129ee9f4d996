-- A node takes the name of a page that has none: a fresh node, or one that had another name.
use Rattle.std.proofs.Common.{◌≡◌, ◌≢◌, ℕ, true, Option, Some, None, IsSome, refl, sym, ap, ◌∙◌, subst, inl, inr}
use Rattle.std.specs.Prelude.{IfSome, option_and_then}
use Rattle.vm_ids.specs.Held.{Held}
use Rattle.vm_ids.specs.declared.node_name.NodeName.{NodeName}
use Rattle.vm_ids.specs.declared.numbers.NodeId.{NodeId}
use Rattle.local_cache.specs.declared.home.Home.{Home}
use Rattle.local_cache.specs.Arena.{Arena}
use Rattle.local_cache.specs.Home.{home_named, home_of}
use Rattle.local_cache.specs.Own.{own_of}
use Rattle.local_cache.specs.Reading.{name_of}
use Rattle.local_cache.proofs.Names.Homes.{home_kept}
use Rattle.local_cache.proofs.Nodes.OwnStates.{id_cases}
use Rattle.residency.specs.declared.store.Store.{Store}
use Rattle.residency.specs.World.{IsBacked, IsTied, World, home_page, is_clean, own_page, page_at, world}
use Rattle.tree_merge.specs.declared.released.Released.{Released}
use Rattle.tree_merge.specs.Releasing.{IsRetired}
use Rattle.tree_merge.proofs.Leaving.Sizes.{sizes_retired}
use Rattle.page_commands.proofs.TiedStores.Backed.{own_page_as}
use Rattle.page_commands.proofs.TiedStores.Homes.{home_name}
use Rattle.page_commands.proofs.NodesGone.Retired.{retire_name, retired_home}

-- the page of this name has no node, but the mapper holds one at its home
pub record IsFreeHome (w : World) (x : NodeName) : Type 0 where
  pub none : (h : Home) → home_named w.caches.caches x ≡ Some h → (m : NodeId) → home_of w.caches m ≡ Some h → ⊥
  pub lies : (h : Home) → home_named w.caches.caches x ≡ Some h → IfSome w.told (λ held. IsSome (page_at held h))

-- a page of a temporary cache has no home
pub free_homeless : (w : World) (x : NodeName) → home_named w.caches.caches x ≡ None → IsFreeHome w x
free_homeless w x none = record {
  none = λ h e m k. (let clash : None ≡ Some h = sym none ∙ e in cc clash);
  lies = λ h e. absurd (let clash : None ≡ Some h = sym none ∙ e in cc clash);
}

-- the page whose node was retired
pub retired_free : (s : Store) (a : Arena) (t : Store) (b : Arena) (told : Option Held) (size : Option ℕ) → IsTied (world told size a s) → (n : NodeId) (x : NodeName) → name_of a n ≡ x → (r : Released) → IsRetired a b n r → IsFreeHome (world told size b t) x
retired_free s a t b told size tied n x named r is = record {
  none = λ h e m k. elim (id_cases m n) [
    | inl one ↦ (let clash : None ≡ Some h = sym (ap (home_of b) one ∙ retired_home a b n r is) ∙ k in cc clash)
    | inr d ↦ d (sym (tied.backed.apart n m h (was h e) (sym (home_kept a b (sizes_retired a b n r is) m (retire_name a b n r is m d)) ∙ k)))
  ];
  lies = λ h e. tied.backed.lies n h (was h e);
}
  where
    was : (h : Home) → home_named b.caches x ≡ Some h → home_of a n ≡ Some h
    was h e = ap (home_named a.caches) named ∙ sym (home_name a b (sizes_retired a b n r is) x) ∙ e

module _ (w : World) (b : Arena) (d : NodeId) (x : NodeName) (free : IsFreeHome w x) (home : home_of b d ≡ home_named w.caches.caches x) (home_other : (m : NodeId) → m ≢ d → home_of b m ≡ home_of w.caches m) (own_other : (m : NodeId) → m ≢ d → own_of b m ≡ own_of w.caches m)
    (clean : is_clean (own_of b d) ≡ true → IsSome (home_named w.caches.caches x) × (own_page (record w { caches = b }) d ≡ Some (home_page (record w { caches = b }) d))) where
  abbrev v : World
  v = record w { caches = b }

  at_home : (m : NodeId) (h : Home) → home_of b m ≡ Some h → m ≡ d → home_named w.caches.caches x ≡ Some h
  at_home m h k e = sym home ∙ ap (home_of b) (sym e) ∙ k

  at_other : (m : NodeId) (h : Home) → home_of b m ≡ Some h → m ≢ d → home_of w.caches m ≡ Some h
  at_other m h k e = sym (home_other m e) ∙ k

  pub taken_backed : IsBacked w → IsBacked (record w { caches = b })
  taken_backed backed = record {
    there = backed.there;
    homes = λ m k. elim (id_cases m d) [
      | inl e ↦ subst (λ i. IsSome (home_of b i)) (sym e) (subst IsSome (sym home) (clean (ap (λ i. is_clean (own_of b i)) (sym e) ∙ k)).0)
      | inr other ↦ subst IsSome (sym (home_other m other)) (backed.homes m (ap is_clean (sym (own_other m other)) ∙ k))
    ];
    apart = λ n m h e k. elim (id_cases n d) [
      | inl n_d ↦ elim (id_cases m d) [
        | inl m_d ↦ n_d ∙ sym m_d
        | inr other ↦ absurd (free.none h (at_home n h e n_d) m (at_other m h k other))
      ]
      | inr one ↦ elim (id_cases m d) [
        | inl m_d ↦ absurd (free.none h (at_home m h k m_d) n (at_other n h e one))
        | inr other ↦ backed.apart n m h (at_other n h e one) (at_other m h k other)
      ]
    ];
    lies = λ m h k. elim (id_cases m d) [
      | inl e ↦ free.lies h (at_home m h k e)
      | inr other ↦ backed.lies m h (at_other m h k other)
    ];
    clean = λ m k. elim (id_cases m d) [
      | inl e ↦ subst (λ i. own_page v i ≡ Some (home_page v i)) (sym e) (clean (ap (λ i. is_clean (own_of b i)) (sym e) ∙ k)).1
      | inr other ↦
          own_page_as w b w.frames.held w.slots w.map m m (own_other m other) (λ r. refl) (λ c. home_other m other)
          ∙ backed.clean m (ap is_clean (sym (own_other m other)) ∙ k)
          ∙ ap (λ (o : Option Home). Some (option_and_then (λ h. option_and_then (page_at h) o) w.told)) (sym (home_other m other))
    ];
  }
