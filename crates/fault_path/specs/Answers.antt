-- What each call asks, and what it answers, from the worlds and the mapper's counts before it to
-- those after it.
use Rattle.std.specs.Prelude.{◌≡◌, ℕ, true, List, Option, IfErr, IfOk, Result}
use Rattle.vm_ids.specs.Counting.{MapperCounts}
use Rattle.vm_port.specs.declared.traits.mapper.Mapper.{Ghosts}
use Rattle.vm_ids.specs.declared.numbers.NodeId.{NodeId}
use Rattle.vm_ids.specs.declared.node_name.NodeName.{NodeName}
use Rattle.vm_ids.specs.Forest.Nodes.{Forest}
use Rattle.vm_ids.specs.Forest.Shape.{IsWellShaped}
use Rattle.local_cache.specs.declared.own_state.OwnState.TheVariants.{Resident}
use Rattle.local_cache.specs.Arena.{Arena}
use Rattle.local_cache.specs.Own.{own_of}
use Rattle.local_cache.specs.Reading.{forest_of, name_of}
use Rattle.local_cache.specs.Sound.{IsSound}
use Rattle.residency.specs.Between.{world_at}
use Rattle.residency.specs.Causes.{HasMissCause, Later}
use Rattle.residency.specs.declared.miss.Miss.{Miss}
use Rattle.residency.specs.declared.miss.Miss.TheVariants.{Victim}
use Rattle.residency.specs.declared.store.Store.{Store}
use Rattle.residency.specs.Pushing.{TellsOn}
use Rattle.residency.specs.World.{IsFrameOf, IsStoreRight, Still, World}
use Rattle.fault_path.specs.Faults.{Follows, Kept, SameForest}

-- What a call asks: a right store, sound caches, and a page forest of the right shape.
pub record IsForestRight (w : World) : Type 0 where
  pub store : IsStoreRight w
  pub sound : IsSound w.caches
  pub shaped : IsWellShaped (forest_of w.caches)

module _ {M : Type 0} where
  -- the store and the forest of its caches are right beside a mapper
  abbrev pub RightForest : Ghosts M → M → Arena → Store → Type 0
  RightForest G mapper caches store = IsForestRight (world_at G mapper caches store)

-- After any answer a call has kept what each call keeps, no count fell, and pages that left their
-- frames were pushed to their homes or to slots.
pub record IsAnswered (old new : World) (before now : MapperCounts) : Type 0 where
  pub kept : Kept old new
  pub later : Later before now
  pub told : TellsOn old new before now

-- After this miss every page is where it was, or left its frame, the page forest is the same, and
-- the mapper failed at what the miss names.
pub record IsMissed (miss : Miss) (old new : World) (before now : MapperCounts) : Type 0 where
  pub still : Still old new
  pub forest : SameForest old new
  pub cause : HasMissCause before now miss

-- where a call missed, a push failed, and no pull
abbrev pub OnlyVictim : {T : Type 0} → Result T Miss → Type 0
OnlyVictim result = IfErr result (λ miss. miss ≡ Victim)

-- A call did what it was to do, by its result and the worlds before it and after it; or it missed.
pub record IsDoneOrMissed {T : Type 0} (result : Result T Miss) (does : T → World → World → Type 0)
    (old new : World) (before now : MapperCounts) : Type 0 where
  pub answered : IsAnswered old new before now
  pub done : IfOk result (λ x. does x old new)
  pub missed : IfErr result (λ miss. IsMissed miss old new before now)

-- Frame f has the own page of node n, where the page forest was changed by this rule at n.
pub record IsFramed (rule : Forest (Option (List ℕ)) → NodeName → Forest (Option (List ℕ)))
    (n : NodeId) (f : ℕ) (old new : World) : Type 0 where
  pub forest : Follows rule (name_of old.caches n) old new
  pub bound : IsFrameOf new.map f n
  pub resident : own_of new.caches n ≡ Resident true
