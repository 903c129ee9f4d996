-- The pages of segments through a step, and what is granted and locked.
use Rattle.std.proofs.Common.{◌≡◌, ◌≢◌, ℕ, ◌+◌, Bool, true, false, List, [], Option, Some, None, IsSome, is_some, refl, sym, ap, ◌∙◌, subst, inl, inr}
use Rattle.std.proofs.lemmas.Bool.{false≢true}
use Rattle.std.specs.Prelude.{◌⊎◌}
use Rattle.vm_ids.specs.declared.node_name.NodeName.{NodeName}
use Rattle.vm_ids.specs.declared.node_name.NodeName.TheVariants.{Live, Working}
use Rattle.vm_ids.specs.declared.numbers.NodeId.{NodeId}
use Rattle.vm_ids.specs.Forest.NameLists.{◌∈◌}
use Rattle.vm_ids.specs.Held.{Held}
use Rattle.vm_ids.specs.declared.numbers.CacheId.{CacheId}
use Rattle.vm_ids.specs.Forest.Commands.{page_names}
use Rattle.vm_ids.proofs.Forest.Laws.Ranges.{ranges_hold_their_pages}
use Rattle.local_cache.specs.Sound.{IsListed}
use Rattle.local_cache.specs.Arena.{Arena, Cell, HasNode, find, is_granted, locks_of, node_at}
use Rattle.local_cache.specs.Home.{home_named, home_of}
use Rattle.local_cache.specs.Own.{own_of}
use Rattle.local_cache.specs.Reading.{name_of}
use Rattle.local_cache.specs.Whole.{SameCaches}
use Rattle.local_cache.proofs.Names.Homes.{home_kept, home_none, home_where}
use Rattle.local_cache.proofs.Nodes.OwnStates.{id_cases}
use Rattle.residency.specs.World.{AreGranted, IsTied, World, is_clean, is_name_granted, world}
use Rattle.residency.specs.declared.store.Store.{Store}
use Rattle.page_commands.specs.Homes.{IsUnclean, IsWritable, KeepsHomes, WasThere}
use Rattle.page_commands.proofs.TiedStores.Backed.{HomesStay}

-- the home of a name stays with the segments of the caches
pub home_name : (a b : Arena) → SameCaches a b → (x : NodeName) → home_named b.caches x ≡ home_named a.caches x
home_name a b same x = home_where a.caches b.caches x (λ c p e. same.segments c.0)

-- a node that has a home is there
pub homed_held : (a : Arena) (n : NodeId) → IsSome (home_of a n) → HasNode a n
homed_held a n some = go (find a n) refl
  where
    go : (c : Option Cell) → find a n ≡ c → HasNode a n
    go None e = absurd (let none : home_of a n ≡ None = home_none a n e in cc)
    go (Some c) e = ap is_some e

-- and its page has a node
pub homed_gone : (a : Arena) → IsListed a → (cache : CacheId) (first pages : ℕ) → ((page : ℕ) → node_at a cache.0 page ≡ None) → (n : NodeId) → IsSome (home_of a n) → name_of a n ∈ page_names cache first pages → ⊥
homed_gone a listed cache first pages empty n some i =
    let at = (ranges_hold_their_pages cache first pages (name_of a n)).0 i in
    let there : node_at a cache.0 (first + at.0) ≡ Some n = listed.pages cache.0 (first + at.0) n (homed_held a n some) at.2 in
    let clash : None ≡ Some n = sym (empty (first + at.0)) ∙ there in
    cc clash

-- One node lost its home

module _ (a b : Arena) (n : NodeId) (names : (m : NodeId) → m ≢ n → name_of b m ≡ name_of a m) (same : SameCaches a b) (none : home_of b n ≡ None) where
  other_home : (m : NodeId) → m ≢ n → home_of b m ≡ home_of a m
  other_home m d = home_kept a b same m (names m d)

  no_home : (m : NodeId) → m ≡ n → IsSome (home_of b m) → ⊥
  no_home m e some = let at : home_of b m ≡ None = ap (home_of b) e ∙ none in cc

  -- all others have the pages of their segments from before
  pub others_stay : is_clean (own_of b n) ≡ false → ((m : NodeId) → m ≢ n → is_clean (own_of b m) ≡ true → own_of b m ≡ own_of a m) → HomesStay a b
  others_stay unclean owns = record {
    homes = λ m h e. elim (id_cases m n) [
      | inl is ↦ absurd (let at : home_of b m ≡ None = ap (home_of b) is ∙ none in cc)
      | inr d ↦ sym (other_home m d) ∙ e
    ];
    own = λ m k. owns m (apart m k) k;
    clean = λ m k. other_home m (apart m k);
  }
    where
      apart : (m : NodeId) → is_clean (own_of b m) ≡ true → m ≢ n
      apart m k e = false≢true (sym (ap (λ (i : NodeId). is_clean (own_of b i)) e ∙ unclean) ∙ k)

  pub others_kept : ((m : NodeId) → m ≢ n → is_clean (own_of b m) ≡ is_clean (own_of a m)) → ((cache page : ℕ) → is_granted b cache page ≡ is_granted a cache page) → ((cache page : ℕ) → locks_of b cache page ≡ locks_of a cache page) → KeepsHomes [] a b
  others_kept clean grants locks = record {
    nodes = λ m some. elim (id_cases m n) [
      | inl is ↦ absurd (no_home m is some)
      | inr d ↦ record { node = m; named = sym (names m d); clean = inl (clean m d) }
    ];
    grants = grants;
    locks = locks;
  }

-- Every node has its name

-- where no node came to its segment, or left it, but for those of the list
pub named_kept : (xs : List NodeName) (a b : Arena) → ((m : NodeId) → IsSome (home_of b m) → name_of b m ≡ name_of a m) → ((m : NodeId) → IsSome (home_of b m) → (is_clean (own_of b m) ≡ is_clean (own_of a m)) ⊎ (name_of b m ∈ xs))
    → ((cache page : ℕ) → is_granted b cache page ≡ is_granted a cache page) → ((cache page : ℕ) → locks_of b cache page ≡ locks_of a cache page) → KeepsHomes xs a b
named_kept xs a b names clean grants locks = record {
  nodes = λ m some. record { node = m; named = sym (names m some); clean = clean m some };
  grants = grants;
  locks = locks;
}

-- where none of the list is there still
pub unlisted : (xs : List NodeName) (a b : Arena) → KeepsHomes xs a b → ((n : NodeId) → IsSome (home_of b n) → name_of b n ∈ xs → ⊥) → KeepsHomes [] a b
unlisted xs a b homes none = record {
  nodes = λ n some. let k = homes.nodes n some in record { node = k.node; named = k.named; clean = elim k.clean [ inl e ↦ inl e | inr i ↦ absurd (none n some i) ] };
  grants = homes.grants;
  locks = homes.locks;
}

-- One after the other

module _ (xs ys zs : List NodeName) (a b c : Arena) (f : KeepsHomes xs a b) (g : KeepsHomes ys b c) (same : SameCaches b c) (first : (x : NodeName) → x ∈ xs → x ∈ zs) (second : (x : NodeName) → x ∈ ys → x ∈ zs) where
  in_first : (x y : NodeName) → x ≡ y → x ∈ xs → y ∈ zs
  in_first x y e i = subst (λ k. k ∈ zs) e (first x i)

  was_there : (n : NodeId) → IsSome (home_of c n) → WasThere zs a c n
  was_there n some =
      let later = g.nodes n some in
      let homed : IsSome (home_of b later.node) = subst IsSome (sym (ap (home_named b.caches) later.named ∙ sym (home_name b c same (name_of c n)))) some in
      let earlier = f.nodes later.node homed in
      record {
        node = earlier.node;
        named = earlier.named ∙ later.named;
        clean = elim later.clean [
          | inr i ↦ inr (second (name_of c n) i)
          | inl e ↦ elim earlier.clean [
            | inr i ↦ inr (in_first (name_of b later.node) (name_of c n) later.named i)
            | inl k ↦ inl (e ∙ k)
          ]
        ];
      }

  pub homes_then : KeepsHomes zs a c
  homes_then = record {
    nodes = was_there;
    grants = λ cache page. g.grants cache page ∙ f.grants cache page;
    locks = λ cache page. g.locks cache page ∙ f.locks cache page;
  }

-- What the relation says

-- a page of a segment is one that it holds, and was
pub unclean_then : (xs : List NodeName) (w : World) (a : Arena) → IsTied w → KeepsHomes xs a w.caches → (x : NodeName) → (x ∈ xs → ⊥) → IsUnclean a x → IsUnclean w.caches x
unclean_then xs w a tied homes x out was n named = go (is_clean (own_of w.caches n)) refl
  where
    go : (t : Bool) → is_clean (own_of w.caches n) ≡ t → is_clean (own_of w.caches n) ≡ false
    go false e = e
    go true e =
        let k = homes.nodes n (tied.backed.homes n e) in
        elim k.clean [
          | inr i ↦ absurd (out (subst (λ y. y ∈ xs) named i))
          | inl same ↦ absurd (false≢true (sym (was k.node (k.named ∙ named)) ∙ sym same ∙ e))
        ]

granted_name : (a b : Arena) → ((cache page : ℕ) → is_granted b cache page ≡ is_granted a cache page) → (x : NodeName) → is_name_granted b x ≡ is_name_granted a x
granted_name a b grants (Live cache page) = grants cache.0 page.0
granted_name a b grants (Working k) = refl

-- Pages were granted before they were changed, and are so then: of those of the list none is
-- changed that wasn't granted.
pub granted_then : (told : Option Held) (size : Option ℕ) (a : Arena) (s : Store) (b : Arena) (t : Store) (xs : List NodeName) → KeepsHomes xs a b → SameCaches a b
    → ((n : NodeId) → IsSome (home_of b n) → name_of b n ∈ xs → is_clean (own_of b n) ≡ false → is_name_granted a (name_of b n) ≡ true)
    → AreGranted (world told size a s) → AreGranted (world told size b t)
granted_then told size a s b t xs homes same listed was = record {
  granted = λ n some unclean.
      let k = homes.nodes n some in
      granted_name a b homes.grants (name_of b n) ∙ elim k.clean [
        | inr i ↦ listed n some i unclean
        | inl e ↦ ap (is_name_granted a) (sym k.named) ∙ was.granted k.node (subst IsSome (sym (home_from n some)) some) (sym e ∙ unclean)
      ];
  allowed = λ n h at g.
      let some : IsSome (home_of b n) = ap is_some at in
      let k = homes.nodes n some in
      was.allowed k.node h (home_from n some ∙ at) (ap (is_name_granted a) k.named ∙ sym (granted_name a b homes.grants (name_of b n)) ∙ g);
}
  where
    home_from : (n : NodeId) (some : IsSome (home_of b n)) → home_of a (homes.nodes n some).node ≡ home_of b n
    home_from n some = ap (home_named a.caches) (homes.nodes n some).named ∙ sym (home_name a b same (name_of b n))

-- where all of the list were granted
pub writable_after : (xs : List NodeName) (a b : Arena) → SameCaches a b → ((x : NodeName) → x ∈ xs → IsWritable a x) → (n : NodeId) → IsSome (home_of b n) → name_of b n ∈ xs → is_clean (own_of b n) ≡ false → is_name_granted a (name_of b n) ≡ true
writable_after xs a b same granted n some i unclean = granted (name_of b n) i (subst IsSome (home_name a b same (name_of b n)) some)
