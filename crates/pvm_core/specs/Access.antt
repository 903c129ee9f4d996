-- The page that an access is at, and what a load finds there.
use Rattle.std.specs.Prelude.{◌≡◌, ℕ, Bool, length, IsOk, IsOkAnd, true, false, if◌then◌else◌, List, drop, take, Option, Some, None, option_map, Result, Ok, Err, IfSome}
use Rattle.std.specs.Option.{option_map_or}
use Rattle.vm_ids.specs.Counting.{MapperCounts, RoseBy}
use Rattle.vm_ids.specs.declared.command.Command.{Command}
use Rattle.vm_ids.specs.declared.command.Command.TheVariants as commands
use Rattle.vm_ids.specs.declared.numbers.CacheId.{CacheId}
use Rattle.vm_ids.specs.declared.numbers.PageNo.{PageNo}
use Rattle.vm_ids.specs.declared.node_name.NodeName.{NodeName}
use Rattle.vm_ids.specs.declared.numbers.FrameId.{FrameId}
use Rattle.vm_ids.specs.declared.numbers.NodeId.{NodeId}
use Rattle.vm_ids.specs.declared.refusal.Refusal.{Refusal}
use Rattle.vm_ids.specs.declared.refusal.Refusal.TheVariants.{WriteDenied}
use Rattle.vm_ids.specs.declared.reply.FaultAt.TheVariants.{Access, Page}
use Rattle.vm_ids.specs.declared.reply.Trouble.{Trouble}
use Rattle.vm_ids.specs.declared.reply.Trouble.TheVariants.{Mapper, Refused}
use Rattle.vm_ids.specs.Forest.Commands.{page_name}
use Rattle.vm_ids.specs.Forest.Nodes.{no_forest}
use Rattle.vm_ids.specs.Forest.Reading.{owner_of, value_of}
use Rattle.global_map.specs.Pairs.{node_of}
use Rattle.local_cache.specs.declared.own_state.OwnState.TheVariants.{Zero}
use Rattle.local_cache.specs.Arena.{Arena, HasNode, is_granted}
use Rattle.local_cache.specs.Own.{is_resident, own_of}
use Rattle.local_cache.specs.Reading.{forest_of, name_of}
use Rattle.residency.specs.World.{HasOwnPage, is_pulled}
use Rattle.residency.specs.declared.miss.Miss.{Miss}
use Rattle.residency.specs.declared.miss.Miss.TheVariants.{Victim}
use Rattle.fault_path.specs.Faults.{IsOwner, is_at_hand}
use Rattle.vm_model.specs.Place as model
use Rattle.vm_model.specs.Place.{place}
use Rattle.vm_port.specs.declared.traits.mapper.Mapper.{Ghosts}
use Rattle.regions.specs.declared.region.Place.{Place}
use Rattle.residency.specs.Causes.{Later}
use Rattle.page_commands.specs.Homes.{IsWritable}
use Rattle.pvm_core.specs.Manager as manager
use Rattle.pvm_core.specs.Manager.{IsValid, Manager, machine_by, machine_of, nodes_of, numbered, state_at}
use Rattle.pvm_core.specs.Reaching.{Reach}
use Rattle.pvm_core.specs.Writes.{KeepsNodes, OnlyAsked}
use Rattle.pvm_core.specs.Pieces.{bytes_found, fault_at}
use Rattle.pvm_core.specs.Translated.{found_for, name_at}

-- the place of an access of so many bytes at an address of an actor, which the regions alone tell
abbrev pub place_of : Manager → ℕ → ℕ → ℕ → Result model.Place Refusal
place_of p actor address length = place (machine_by p no_forest) actor address length

-- the node o has the page at this place: it is the owner of that page's node
pub record HasPageAt (p : Manager) (at : model.Place) (o : NodeId) : Type 0 where
  pub held : HasNode p.caches o
  pub owner : name_of p.caches o
      ≡ owner_of (nodes_of p) (page_name (record { 0 = at.region.cache }) at.page)

-- n is the node of a page of a cache, and o is its owner
pub record AreNodesOf (a : Arena) (cache : CacheId) (page : PageNo) (n o : NodeId) : Type 0 where
  pub held : HasNode a n
  pub name : name_of a n ≡ page_name cache page.0
  pub owner : IsOwner a n o
  pub own : HasOwnPage a o

-- the owner of a page has it in a frame, or it is zeros
abbrev pub is_page_at_hand : Arena → NodeName → Bool
is_page_at_hand a x = option_map_or is_at_hand (value_of (forest_of a) x) false

-- the page that an access is at is zeros, or its owner has it in a frame
pub record IsAtHand (p : Manager) (actor address length : ℕ) : Type 0 where
  pub at : model.Place
  pub place : place_of p actor address length ≡ Ok at
  pub owner : NodeId
  pub has : HasPageAt p at owner
  pub at_hand : is_at_hand (own_of p.caches owner) ≡ true

-- where the own page of a node is: in no frame where it is zeros, or in the frame that is bound to
-- the node
abbrev pub IsFoundIn : Manager → NodeId → Option FrameId → Type 0
IsFoundIn p o None = own_of p.caches o ≡ Zero
IsFoundIn p o (Some f) =
    (is_resident (own_of p.caches o) ≡ true) × (node_of p.store.map f.0 ≡ Some o)

-- an access has a translation that leads to this frame
abbrev pub IsTranslated : Manager → ℕ → ℕ → ℕ → FrameId → Type 0
IsTranslated p actor address length f =
    option_map (λ seen. seen.frame) (found_for p.page_bytes p.store.tables actor address length)
    ≡ Some f

-- What a load gave, from the manager `old` to `new`, while the mapper's counts went from c to d:
--     place, has     the access is at a place, and the owner had the page there
--     found          the owner has it in a frame now, or it is zeros
--     bytes          the bytes are those of that frame, or zeros
--     pulled         a page was pulled exactly where it was in a slot or on its segment
--     given          and what the mapper gave then, where it tells that, is what the frame holds
--     translated     the next access to the page finds it in the frame
pub record IsLoaded (c d : MapperCounts) (page_given : Option (List ℕ)) (old new : Manager)
    (actor address length : ℕ) (piece : List ℕ) : Type 0 where
  pub at : model.Place
  pub place : place_of old actor address length ≡ Ok at
  pub owner : NodeId
  pub has : HasPageAt old at owner
  pub frame : Option FrameId
  pub found : IsFoundIn new owner frame
  pub bytes : piece ≡ take length (drop at.byte (bytes_found new.store frame))
  pub pulled : RoseBy (if is_pulled (own_of old.caches owner) then 1 else 0) c.pulls d.pulls
  pub given : is_pulled (own_of old.caches owner) ≡ true
      → IfSome page_given (λ page. bytes_found new.store frame ≡ page)
  pub translated : IfSome frame (IsTranslated new actor address length)

-- The mapper was asked in vain whether the page that a store is at may be written: the manager
-- stays, and the page wasn't granted.
pub record AskedInVain (old new : Manager) (actor address length : ℕ) : Type 0 where
  pub same : new ≡ old
  pub at : model.Place
  pub place : place_of old actor address length ≡ Ok at
  pub not_granted : is_granted old.caches at.region.cache at.page ≡ false

-- P holds where it was asked so: after `WriteDenied` and after the fault `Access`
abbrev pub OnNoAccess : Result (Unit {0}) Trouble → Type 0 → Type 0
OnNoAccess (Err (Refused WriteDenied)) P = P
OnNoAccess (Err (Mapper (Access page))) P = P
OnNoAccess result P = Unit {0}

-- The page at a place may be written: its region is for writing, and where it is one of a segment
-- that was granted. The mapper was asked for that alone, and nothing but the grant changed.
pub record IsReadyToWrite {Mapper : Type 0} (M : Ghosts Mapper) (before : Mapper) (old : Manager)
    (place : Place) (after : Mapper) (new : Manager) : Type 0 where
  pub may_write : place.prot.write ≡ true
  pub writable : IsWritable new.caches (page_name place.cache place.page.0)
  pub same : new ≡ record old { caches = new.caches }
  pub nodes : KeepsNodes old.caches new.caches
  pub valid : IsValid new (M.held after)
  pub state : state_at new (M.held after) ≡ state_at old (M.held before)
  pub asked : OnlyAsked M before after
  pub later : Later (M.counts before) (M.counts after)
  pub page : M.page_bytes after ≡ M.page_bytes before

-- an access at a place is ready: the page there is at hand
abbrev pub is_ready_at : Manager → Result model.Place Refusal → Bool
is_ready_at p (Ok at) = is_page_at_hand p.caches (name_at at)
is_ready_at p (Err r) = false

-- no page has to be pulled for an access at this address of an actor
abbrev pub is_ready : Manager → ℕ → ℕ → Bool
is_ready p actor address = is_ready_at p (place_of p actor address 1)

-- The place of a load or a store is there, and a store may write the page: its region is for
-- writing, and where it is a page of a segment that was granted.
abbrev pub Admits : Manager → Command → Type 0
Admits p (commands.Load actor address length) = IsOk (place_of p actor.0 address length)
Admits p (commands.Store actor address piece) =
    IsOkAnd (place_of p actor.0 address (length piece))
    (λ at. (at.region.may_write ≡ true) × IsWritable p.caches (name_at at))
Admits p command = ⊥

-- The mapper failed: at a push, before any pull, or at a pull of this page.
pub record IsMissAt (c d : MapperCounts) (trouble : Trouble) : Type 0 where
  pub miss : Miss
  pub page : PageNo
  pub is : trouble ≡ Mapper (fault_at miss page)
  pub no_pull : miss ≡ Victim → RoseBy 0 c.pulls d.pulls

-- it isn't the fault of a pull
abbrev pub IsNoPage : Trouble → Type 0
IsNoPage (Mapper (Page page)) = ⊥
IsNoPage trouble = Unit {0}

-- A page was looked for: it was brought in where it wasn't at hand, or the mapper failed. The
-- manager stands for what it did, and is valid beside what the mapper holds.
pub record IsLookedFor {Mapper : Type 0} (M : Ghosts Mapper) (before : Mapper) (old : Manager)
    (after : Mapper) (new : Manager) : Type 0 where
  pub same : new ≡ record old { caches = new.caches; store = new.store }
  pub valid : IsValid new (M.held after)
  pub machine : machine_of new (M.held after) ≡ machine_of old (M.held before)
  pub forest : manager.forest_of new (M.held after) ≡ manager.forest_of old (M.held before)
  pub reach : Reach (machine_of old (M.held before)) (M.held before) (M.held after)
      (M.counts before) (M.counts after)
  pub tables : new.caches.caches ≡ old.caches.caches
  pub copies : new.caches.copies ≡ old.caches.copies
  pub numbered : numbered new ≡ numbered old
  pub page : M.page_bytes after ≡ M.page_bytes before
