-- What a step does to the pages of segments.
use Rattle.std.specs.Prelude.{◌≡◌, ℕ, Bool, true, false, if◌then◌else◌, List, [], ◌∷◌, Option, IsSome, is_some, option_and_then, ◌⊎◌}
use Rattle.vm_ids.specs.declared.node_name.NodeName.{NodeName}
use Rattle.vm_ids.specs.declared.numbers.CacheId.{CacheId}
use Rattle.vm_ids.specs.declared.numbers.NodeId.{NodeId}
use Rattle.vm_ids.specs.Forest.NameLists.{◌∈◌}
use Rattle.vm_ids.specs.Forest.Nodes.{child_count}
use Rattle.vm_ids.specs.Forest.Saving.{is_unsaved}
use Rattle.local_cache.specs.declared.own_state.OwnState.{OwnState}
use Rattle.local_cache.specs.Arena.{Arena, is_granted, locks_of, table_of}
use Rattle.local_cache.specs.Home.{home_named, home_of}
use Rattle.local_cache.specs.Own.{own_of}
use Rattle.local_cache.specs.Reading.{forest_of, name_of}
use Rattle.residency.specs.World.{World, is_clean, is_name_granted, page_at}

-- a cache is named by a segment
abbrev pub is_named : Arena → CacheId → Bool
is_named a cache = is_some (option_and_then (λ table. table.segment) (table_of a cache.0))

-- the page of this name is that of a segment
abbrev pub HasHome : Arena → NodeName → Type 0
HasHome a x = IsSome (home_named a.caches x)

-- the page that the mapper holds at the home of the page of this name, where it has one and that is
-- told
abbrev pub named_page : World → NodeName → Option (List ℕ)
named_page w x =
    option_and_then (λ h. option_and_then (page_at h) (home_named w.caches.caches x)) w.told

-- the own page of the node of this name isn't one that its segment holds
abbrev pub IsUnclean : Arena → NodeName → Type 0
IsUnclean a x = (n : NodeId) → name_of a n ≡ x → is_clean (own_of a n) ≡ false

-- nor is that of any of these
abbrev pub AreUnclean : Arena → List NodeName → Type 0
AreUnclean a names = (x : NodeName) → x ∈ names → IsUnclean a x

-- The node of this name may be retired: its own page isn't one that its segment holds, or nothing
-- hangs on it.
abbrev pub MayGo : Arena → NodeName → Type 0
MayGo a x = IsUnclean a x ⊎ (child_count (forest_of a) x ≡ 0)

-- and so may each of these
abbrev pub AllMayGo : Arena → List NodeName → Type 0
AllMayGo a names = (x : NodeName) → x ∈ names → MayGo a x

-- the own page of the node of this name is the one that its segment holds
abbrev pub IsClean : Arena → NodeName → Type 0
IsClean a x = (n : NodeId) → name_of a n ≡ x → is_clean (own_of a n) ≡ true

-- the page of this name, where a node of this own state has the page that its segment holds; else
-- none
abbrev pub cleaned : OwnState → NodeName → List NodeName
cleaned state x = if is_clean state then x ∷ [] else []

-- it was granted to write the page of this name, where it is that of a segment
abbrev pub IsWritable : Arena → NodeName → Type 0
IsWritable a x = HasHome a x → is_name_granted a x ≡ true

-- Where the cache is named, none of these pages has an own page that an heir still reads.
abbrev pub AreAllSaved : Arena → CacheId → List NodeName → Type 0
AreAllSaved a cache names = is_named a cache ≡ true → (x : NodeName) → x ∈ names
    → is_unsaved (forest_of a) x ≡ false

-- Before, there was a node of the name that n has; its own page was one that its segment holds just
-- where that of n is, or the name stands in the list.
pub record WasThere (names : List NodeName) (a b : Arena) (n : NodeId) : Type 0 where
  pub node : NodeId
  pub named : name_of a node ≡ name_of b n
  pub clean : (is_clean (own_of b n) ≡ is_clean (own_of a node)) ⊎ (name_of b n ∈ names)

-- From a to b no page of a segment is new, and grants and locks stay. But for the pages of the list
-- each is the one that its segment holds just where it was.
pub record KeepsHomes (names : List NodeName) (a b : Arena) : Type 0 where
  pub nodes : (n : NodeId) → IsSome (home_of b n) → WasThere names a b n
  pub grants : (cache page : ℕ) → is_granted b cache page ≡ is_granted a cache page
  pub locks : (cache page : ℕ) → locks_of b cache page ≡ locks_of a cache page
