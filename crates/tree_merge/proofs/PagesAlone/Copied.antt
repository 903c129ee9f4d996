-- The fresh node was hung on the source's: the page is copied.
use Rattle.std.proofs.Common.{◌≡◌, ◌+◌, ◌≤◌, Bool, true, false, cond, ap, ◌∙◌, arith}
use Rattle.vm_ids.specs.declared.node_name.NodeName.TheVariants.{Live}
use Rattle.vm_ids.specs.declared.numbers.CacheId.{CacheId}
use Rattle.vm_ids.specs.declared.numbers.PageNo.{PageNo}
use Rattle.vm_ids.specs.Forest.Rules.{copy_page, link, stub}
use Rattle.local_cache.specs.declared.own_state.OwnState.{OwnState}
use Rattle.local_cache.specs.declared.own_state.OwnState.TheVariants.{Absent}
use Rattle.local_cache.specs.Arena.{Arena}
use Rattle.local_cache.specs.Reading.{forest_of}
use Rattle.local_cache.specs.Whole.{SameCaches}
use Rattle.local_cache.proofs.Tables.Sizes.{sizes_same, sizes_then}
use Rattle.tree_merge.specs.declared.released.Released.{Released}
use Rattle.tree_merge.specs.Stepping.{IsCopiedAlone, IsDetachedAlone, IsHung}
use Rattle.tree_merge.proofs.Leaving.Detached.{new_room}
use Rattle.tree_merge.proofs.Leaving.Sizes.{sizes_new}
use Rattle.tree_merge.proofs.PagesAlone.Retired.{alone_room, alone_sizes}

-- The page was detached
module _ (a b : Arena) (cache : CacheId) (page : PageNo) (s : OwnState) (r : Released) (is : IsDetachedAlone a b cache page s r) where
  detached_sizes : SameCaches a b
  detached_sizes = sizes_new a is.between b is.fresh (Live cache page) s (alone_sizes a is.between cache page r is.retired) is.is

  pub detached_room : a.room.nodes ≤ b.room.nodes + 1
  detached_room = omega (arith, alone_room a is.between cache page r is.retired, new_room is.between b is.fresh (Live cache page) s is.is)

-- And then it was copied
module _ (a b : Arena) (to : CacheId) (to_page : PageNo) (from : CacheId) (from_page : PageNo) where
  hung_rule : (is_small : Bool) (c : Arena) → IsHung is_small c b (Live to to_page) (Live from from_page)
      → forest_of b ≡ cond is_small (stub (forest_of c) (Live to to_page) (Live from from_page)) (link (forest_of c) (Live to to_page) (Live from from_page))
  hung_rule true c hung = hung.0
  hung_rule false c hung = hung.0

  hung_sizes : (is_small : Bool) (c : Arena) → IsHung is_small c b (Live to to_page) (Live from from_page) → SameCaches c b
  hung_sizes true c hung = sizes_same c b hung.1.like.caches
  hung_sizes false c hung = sizes_same c b hung.1.tables

  hung_room : (is_small : Bool) (c : Arena) → IsHung is_small c b (Live to to_page) (Live from from_page) → c.room.nodes ≤ b.room.nodes + 1
  hung_room true c hung = omega (arith, ap (λ r. r.nodes) hung.2)
  hung_room false c hung = omega (arith, hung.1.nodes, hung.1.made)

  module _ (is_small : Bool) (r : Released) (is : IsCopiedAlone is_small a b to to_page from from_page r) where
    pub copied_rule : forest_of b ≡ copy_page is_small (forest_of a) (Live to to_page) (Live from from_page)
    copied_rule =
        hung_rule is_small is.between is.hung
        ∙ ap (λ f. cond is_small (stub f (Live to to_page) (Live from from_page)) (link f (Live to to_page) (Live from from_page))) is.detached.forest

    pub copied_sizes : SameCaches a b
    copied_sizes = sizes_then a is.between b (detached_sizes a is.between to to_page Absent r is.detached) (hung_sizes is_small is.between is.hung)

    pub copied_room : a.room.nodes ≤ b.room.nodes + 2
    copied_room = omega (arith, detached_room a is.between to to_page Absent r is.detached, hung_room is_small is.between is.hung)
