-- A frame is filled with a page.
use Rattle.std.specs.Prelude.{◌≡◌, ℕ, ◌+◌, false, List, Option, Some, Result, IfErr, IfOk, OnErr, OnOk, slice_set}
use Rattle.vm_ids.specs.Counting.{MapperCounts}
use Rattle.vm_ids.specs.declared.numbers.FrameId.{FrameId}
use Rattle.vm_ids.specs.declared.numbers.NodeId.{NodeId}
use Rattle.local_cache.specs.Own.{own_of}
use Rattle.residency.specs.declared.miss.Miss.{Miss}
use Rattle.residency.specs.Causes.{HasMissCause, Later, Traffic, dirtied, dirty_count, is_victim, pulls_for}
use Rattle.residency.specs.World.{HoldsPage, IsFrameOf, OthersStay, OthersStayBut, StillBut, World, brought_in}

-- A call put the own page of node n into frame f, which its taker has, by its result and the worlds
-- before it and after it; `last` is the page that the mapper gave last, where it tells that. Or it
-- failed, and gave the frame back.
pub record Fills (result : Result FrameId Miss) (n : NodeId) (f : ℕ) (last : Option (List ℕ))
    (old new : World) (before now : MapperCounts) : Type 0 where
  -- every page is still, and so is each pinned frame but f
  pub still : StillBut f old new
  -- the frame that it answers is the node's
  pub home : IfOk result (λ g. IsFrameOf new.map g.0 n)
  -- the page is in a frame, and clean where it was on its segment
  pub state : OnOk result (own_of new.caches n ≡ brought_in (own_of old.caches n))
  -- the frame has the page
  pub page : IfOk result (λ g. HoldsPage (own_of old.caches n) last new.frames g.0)
  -- no other page comes to a frame
  pub others : OthersStayBut n old new
  -- or none does
  pub failed : OnErr result (OthersStay old new)
  -- f has the node
  pub bound : OnOk result (new.map ≡ slice_set old.map f (Some n))
  -- or each frame has the node that it had, or none
  pub unbound : OnErr result (new.map ≡ old.map)
  -- f is pinned no more
  pub pinned : new.frames.pinned ≡ slice_set old.frames.pinned f false
  -- and is held still, where it was filled
  pub held : OnOk result (new.frames.held ≡ old.frames.held)
  -- the mapper holds what it held
  pub told : new.told ≡ old.told
  -- no count fell
  pub later : Later before now
  -- there was a pull where the page was in a slot or on its segment, and no push
  pub traffic : Traffic (pulls_for result (own_of old.caches n)) 0 before now
  -- one dirty page more is in a frame, but for a page that its segment holds, or where it failed
  pub dirty : dirty_count new.caches ≡ dirty_count old.caches + dirtied result (own_of old.caches n)
  -- it failed only where a pull did
  pub filled : is_victim result ≡ false
  pub cause : IfErr result (HasMissCause before now)
