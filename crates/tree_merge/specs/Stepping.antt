-- What a step of a copy, or of a retirement, did: many pages at once, or one page alone.
use Rattle.std.specs.Prelude.{◌≡◌, ℕ, zero, suc, ◌+◌, ◌*◌, ◌≤◌, ◌⊎◌, Bool, true, false, Some, None, leb}
use Rattle.vm_ids.specs.declared.command.Extent.{Extent}
use Rattle.vm_ids.specs.declared.command.Span.{Span}
use Rattle.vm_ids.specs.declared.node_name.NodeName.{NodeName}
use Rattle.vm_ids.specs.declared.node_name.NodeName.TheVariants.{Live}
use Rattle.vm_ids.specs.declared.numbers.CacheId.{CacheId}
use Rattle.vm_ids.specs.declared.numbers.NodeId.{NodeId}
use Rattle.vm_ids.specs.declared.numbers.PageNo.{PageNo}
use Rattle.vm_ids.specs.Forest.Commands.{copy_pages, page_names, page_pairs, retire_all, small_copy}
use Rattle.vm_ids.specs.Forest.Laws.Linking.{ArePages}
use Rattle.vm_ids.specs.Forest.Rules.{detach, link, retire, stub}
use Rattle.local_cache.specs.declared.own_state.OwnState.{OwnState}
use Rattle.local_cache.specs.declared.own_state.OwnState.TheVariants.{Absent}
use Rattle.local_cache.specs.Arena.{Arena, IsVacant, find, node_at, with_new}
use Rattle.local_cache.specs.Changes.{Relinked}
use Rattle.local_cache.specs.Own.{own_of}
use Rattle.local_cache.specs.Reading.{forest_of, page_of}
use Rattle.local_cache.specs.Sound.{IsSound}
use Rattle.local_cache.specs.Whole.{SameCaches}
use Rattle.history_tree.specs.Hanging.{IsGrown}
use Rattle.tree_merge.specs.declared.released.Released.{Released}
use Rattle.tree_merge.specs.declared.released.Released.TheVariants.{Nothing, Dropped}
use Rattle.tree_merge.specs.declared.step.Step.{Step}
use Rattle.tree_merge.specs.Copying.{IsEmpty, page_after, span_pairs_after}
use Rattle.tree_merge.specs.Releasing.{IsReleased, IsRetired}

-- From a to b the node of one page was retired, and this was released.
pub record IsRetiredAlone (a b : Arena) (cache : CacheId) (page : PageNo) (released : Released)
    : Type 0 where
  pub forest : forest_of b ≡ retire (forest_of a) (Live cache page)
  pub sound : IsSound b
  pub vacant : IsVacant b cache page
  pub node : NodeId
  pub at : node_at a cache.0 page.0 ≡ Some node
  pub retired : IsRetired a b node released
  pub told : IsReleased a b released

-- And its own page was none or zeros.
pub record IsRetiredBare (a b : Arena) (cache : CacheId) (page : PageNo) : Type 0 where
  pub released : Released
  pub alone : IsRetiredAlone a b cache page released
  pub empty : (n : NodeId) → node_at a cache.0 page.0 ≡ Some n → IsEmpty (own_of a n)

-- From a to b so many pages were retired so, from one page on, one after the other.
abbrev pub AreRetiredBare : (a b : Arena) → CacheId → PageNo → (count : ℕ) → Type 0
AreRetiredBare a b cache page zero = b ≡ a
AreRetiredBare a b cache page (suc k) =
    (c : Arena) × AreRetiredBare a c cache page k × IsRetiredBare c b cache (page_after page k)

-- From a to b so many pages are retired, as by the rule, one after the other.
pub record AreRetired (a b : Arena) (cache : CacheId) (page : PageNo) (count : ℕ) : Type 0 where
  pub forest : forest_of b ≡ retire_all (page_names cache page.0 count) (forest_of a)
  pub sound : IsSound b
  pub sizes : SameCaches a b
  pub room : a.room.nodes ≤ b.room.nodes
  pub in_turn : AreRetiredBare a b cache page count

-- And those of an extent are, behind those that are done.
abbrev pub IsRetiredAtOnce : (a b : Arena) → Extent → (done count : ℕ) → Type 0
IsRetiredAtOnce a b extent done count =
    AreRetired a b extent.cache (page_after extent.first done) count

-- From a to b the node of one page was retired, and then a fresh one was made for the page, with
-- this own state.
pub record IsDetachedAlone (a b : Arena) (cache : CacheId) (page : PageNo) (state : OwnState)
    (released : Released) : Type 0 where
  pub forest : forest_of b ≡ detach (forest_of a) (Live cache page) (page_of state)
  pub sound : IsSound b
  pub between : Arena
  pub retired : IsRetiredAlone a between cache page released
  pub fresh : NodeId
  pub free : find between fresh ≡ None
  pub is : b ≡ with_new between fresh (Live cache page) state

-- From a to b the node of one page was hung on that of another: by a stub, or else by a tree link,
-- for which there may be a new working node.
abbrev pub IsHung : (is_small : Bool) → (a b : Arena) → (to from : NodeName) → Type 0
IsHung true a b to from =
    (forest_of b ≡ stub (forest_of a) to from) × Relinked a b × (b.room ≡ a.room)
IsHung false a b to from = (forest_of b ≡ link (forest_of a) to from) × IsGrown a b

-- From a to b one page was copied: its node was detached, and the fresh one hung on its source's.
pub record IsCopiedAlone (is_small : Bool) (a b : Arena) (to : CacheId) (to_page : PageNo)
    (from : CacheId) (from_page : PageNo) (released : Released) : Type 0 where
  pub between : Arena
  pub detached : IsDetachedAlone a between to to_page Absent released
  pub hung : IsHung is_small between b (Live to to_page) (Live from from_page)
  pub sound : IsSound b

-- From a to b one page was copied alone by a tree link: its node dropped an own page that was none
-- or zeros.
pub record IsCopiedBare (a b : Arena) (to : CacheId) (to_page : PageNo) (from : CacheId)
    (from_page : PageNo) : Type 0 where
  pub pages : ArePages (forest_of a) (Live to to_page) (Live from from_page)
  pub node : NodeId
  pub at : node_at a to.0 to_page.0 ≡ Some node
  pub empty : IsEmpty (own_of a node)
  pub copied : IsCopiedAlone false a b to to_page from from_page (Dropped node (own_of a node))

-- From a to b so many pages were, from one page of each cache on, one after the other.
abbrev pub AreCopiedBare : (a b : Arena) → (to : CacheId) → (to_page : PageNo) → (from : CacheId)
    → (from_page : PageNo) → (count : ℕ) → Type 0
AreCopiedBare a b to to_page from from_page zero = b ≡ a
AreCopiedBare a b to to_page from from_page (suc k) =
    (c : Arena) × AreCopiedBare a c to to_page from from_page k
    × IsCopiedBare c b to (page_after to_page k) from (page_after from_page k)

-- From a to b so many pages are copied by tree links, as by the rule, one after the other, and
-- there is at most one node more for each.
pub record AreCopied (a b : Arena) (to : CacheId) (to_page : PageNo) (from : CacheId)
    (from_page : PageNo) (count : ℕ) : Type 0 where
  pub forest : forest_of b
      ≡ copy_pages false (page_pairs from from_page.0 to to_page.0 count) (forest_of a)
  pub sound : IsSound b
  pub sizes : SameCaches a b
  pub room : a.room.nodes ≤ b.room.nodes + count
  pub in_turn : AreCopiedBare a b to to_page from from_page count

-- And those of a span are, behind those that are done.
abbrev pub IsCopiedAtOnce : (a b : Arena) → Span → (done count : ℕ) → Type 0
IsCopiedAtOnce a b span done count =
    AreCopied a b span.to (page_after span.to_page done)
    span.from (page_after span.from_page done) count

-- From a to b a step retired so many pages of an extent, behind those that are done: as by the rule
-- one after the other. They were many at once, and nothing was released, or one alone.
pub record IsRetireStep (a b : Arena) (extent : Extent) (done : ℕ) (step : Step) : Type 0 where
  pub forest : forest_of b
      ≡ retire_all (page_names extent.cache (extent.first.0 + done) step.pages) (forest_of a)
  pub sound : IsSound b
  pub sizes : SameCaches a b
  pub room : a.room.nodes ≤ b.room.nodes
  pub how : ((step.released ≡ Nothing) × IsRetiredAtOnce a b extent done step.pages)
      ⊎ ((step.pages ≡ 1)
      × IsRetiredAlone a b extent.cache (page_after extent.first done) step.released)

-- From a to b a step copied so many pages of a span, behind those that are done: as by the rule one
-- after the other. They were many of a large copy at once, and nothing was released, or one alone.
pub record IsCopyStep (a b : Arena) (span : Span) (done : ℕ) (step : Step) : Type 0 where
  pub forest : forest_of b
      ≡ copy_pages (leb span.pages small_copy) (span_pairs_after span done step.pages)
      (forest_of a)
  pub sound : IsSound b
  pub sizes : SameCaches a b
  pub room : a.room.nodes ≤ b.room.nodes + 2 * step.pages
  pub how : ((step.released ≡ Nothing) × (leb span.pages small_copy ≡ false)
      × IsCopiedAtOnce a b span done step.pages)
      ⊎ ((step.pages ≡ 1) × IsCopiedAlone (leb span.pages small_copy) a b
      span.to (page_after span.to_page done) span.from (page_after span.from_page done)
      step.released)
