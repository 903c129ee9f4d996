-- What is said of a mapper, by its ghost members `G`, and of the caches and a store beside it.
use Rattle.vm_ids.specs.Counting.{MapperCounts}
use Rattle.vm_port.specs.declared.traits.mapper.Mapper.{Ghosts}
use Rattle.local_cache.specs.Arena.{Arena}
use Rattle.residency.specs.World.{IsStoreRight, World, world}
use Rattle.residency.specs.declared.store.Store.{Store}

module _ {M : Type 0} where
  -- what the mapper tells, the caches and the store, as one
  abbrev pub world_at : Ghosts M → M → Arena → Store → World
  world_at G mapper caches store = world (G.held mapper) (G.page_bytes mapper) caches store

  -- the store is right beside them
  abbrev pub RightStore : Ghosts M → M → Arena → Store → Type 0
  RightStore G mapper caches store = IsStoreRight (world_at G mapper caches store)

  -- a relation of two worlds holds of them at one moment and at a later one
  abbrev pub Between : (World → World → Type 0) → Ghosts M
      → M → Arena → Store → M → Arena → Store → Type 0
  Between relation G mapper caches store mapper' caches' store' =
      relation (world_at G mapper caches store) (world_at G mapper' caches' store')

  -- a relation of two worlds, and of the mapper's counts then, likewise
  abbrev pub Across : (World → World → MapperCounts → MapperCounts → Type 0) → Ghosts M
      → M → Arena → Store → M → Arena → Store → Type 0
  Across relation G mapper caches store mapper' caches' store' =
      relation (world_at G mapper caches store) (world_at G mapper' caches' store')
      (G.counts mapper) (G.counts mapper')
