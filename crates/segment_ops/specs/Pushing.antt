-- What becomes of the segments while pages of ranges are pushed and saved.
use Rattle.vm_ids.specs.Counting.{MapperCounts}
use Rattle.vm_ids.specs.Forest.Reading.{value_of}
use Rattle.vm_ids.specs.declared.numbers.NodeId.{NodeId}
use Rattle.local_cache.specs.Reading.{name_of}
use Rattle.residency.specs.Pushing.{HasOpenHome, Pages, TellsBy}
use Rattle.residency.specs.StoreForest.{store_forest}
use Rattle.residency.specs.World.{World}

-- what a node reads in the page forest of a world: its own page, or that of its owner
abbrev pub value_at : World → Pages
value_at w n = value_of (store_forest w) (name_of w.caches n)

-- what a node reads may be pushed to its segment: it has a home that isn't denied
abbrev pub MayPushValue : World → NodeId → Type 0
MayPushValue = HasOpenHome

-- what is pushed is what nodes read
abbrev pub TellsValues : World → World → MapperCounts → MapperCounts → Type 0
TellsValues old = TellsBy (MayPushValue old) (value_at old) old
