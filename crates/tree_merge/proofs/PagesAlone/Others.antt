-- The other nodes, where the node of a page was retired or detached.
use Rattle.std.proofs.Common.{◌≡◌, ◌≢◌, ℕ, zero, suc, ◌+◌, true, Some, is_some, refl, sym, ap, ◌∙◌, subst, arith}
use Rattle.std.proofs.lemmas.Bool.{false≢true}
use Rattle.vm_ids.specs.declared.node_name.NodeName.{NodeName}
use Rattle.vm_ids.specs.declared.node_name.NodeName.TheVariants.{Live, Working}
use Rattle.vm_ids.specs.declared.numbers.CacheId.{CacheId}
use Rattle.vm_ids.specs.declared.numbers.NodeId.{NodeId}
use Rattle.vm_ids.specs.declared.numbers.PageNo.{PageNo}
use Rattle.vm_ids.specs.Forest.Nodes.{child_count, is_live}
use Rattle.local_cache.specs.declared.own_state.OwnState.{OwnState}
use Rattle.local_cache.specs.Arena.{Arena, Cell, HasNode, cell, find, node_at}
use Rattle.local_cache.specs.Reading.{forest_of, name_of}
use Rattle.local_cache.specs.Sound.{IsSound}
use Rattle.local_cache.proofs.Nodes.Cells.{find-put_other}
use Rattle.tree_merge.specs.declared.released.Released.{Released}
use Rattle.tree_merge.specs.Releasing.{IsRetired}
use Rattle.tree_merge.specs.Stepping.{IsDetachedAlone}
use Rattle.tree_merge.proofs.CopiedPages.Changes.{cell_by, find-new_other}

-- the name of a page
pub live_name : (x : NodeName) → is_live x ≡ true → (cache : CacheId) × (page : PageNo) × (x ≡ Live cache page)
live_name (Live cache page) live = (cache, page, refl)
live_name (Working k) live = absurd (false≢true live)

-- a node is there still, under its name
pub record IsThere (a b : Arena) (m : NodeId) : Type 0 where
  pub held : is_some (find b m) ≡ is_some (find a m)
  pub name : name_of b m ≡ name_of a m

there_by_find : (a b : Arena) (m : NodeId) → find b m ≡ find a m → IsThere a b m
there_by_find a b m same = record { held = ap is_some same; name = ap (λ (c : Cell). c.name) (cell_by a b m same) }

there_then : (a b c : Arena) (m : NodeId) → IsThere a b m → IsThere b c m → IsThere a c m
there_then a b c m f g = record { held = g.held ∙ f.held; name = g.name ∙ f.name }

-- as all others are, once one was retired
retired_there : (a b : Arena) (n : NodeId) (r : Released) → IsRetired a b n r → (m : NodeId) → m ≢ n → IsThere a b m
retired_there a b n r is m ne = go (child_count (forest_of a) (name_of a n)) refl
  where
    go : (k : ℕ) → child_count (forest_of a) (name_of a n) ≡ k → IsThere a b m
    go zero e = let gone = (is.leaf e).1 in record { held = gone.held m ne; name = gone.name m ne }
    go (suc k) e =
        there_by_find a b m
        (ap (λ (x : Arena). find x m) (is.parent (omega arith)).1 ∙ find-put_other a n m (record (cell a n) { name = Working (a.made + 1) }) ne)

-- one of another page, where one was detached
module _ (a b : Arena) (sound : IsSound a) (cache : CacheId) (page : PageNo) (state : OwnState) (r : Released) (is : IsDetachedAlone a b cache page state r)
    (m : NodeId) (held : HasNode a m) (other : name_of a m ≢ Live cache page) where
  pub between_there : IsThere a is.between m
  between_there = retired_there a is.between is.retired.node r is.retired.retired m
      (λ e. other (ap (name_of a) e ∙ (sound.kept.listed.nodes cache.0 page.0 is.retired.node is.retired.at).1))

  pub apart_fresh : m ≢ is.fresh
  apart_fresh e = false≢true (sym (ap is_some is.free) ∙ subst (HasNode is.between) e (between_there.held ∙ held))

  pub detached_there : IsThere a b m
  detached_there = there_then a is.between b m between_there
      (there_by_find is.between b m (ap (λ (x : Arena). find x m) is.is ∙ find-new_other is.between is.fresh m (Live cache page) state apart_fresh))

  -- and its page has it still
  pub page_has : (c : CacheId) (p : PageNo) → name_of a m ≡ Live c p → node_at b c.0 p.0 ≡ Some m
  page_has c p named = is.sound.kept.listed.pages c.0 p.0 m (detached_there.held ∙ held) (detached_there.name ∙ named)
