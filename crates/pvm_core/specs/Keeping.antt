-- What calls keep of a manager.
use Rattle.std.specs.Prelude.{◌≡◌, ℕ, ◌<◌, ◌⊎◌, ◌++◌, true, false, if◌then◌else◌, is_some, count_by, replicate, Option, Some}
use Rattle.vm_ids.specs.Held.{Held}
use Rattle.vm_ids.specs.declared.reply.Counts.{Counts}
use Rattle.vm_ids.specs.declared.command.Extent.{Extent}
use Rattle.vm_ids.specs.declared.node_name.NodeName.{NodeName}
use Rattle.vm_ids.specs.declared.numbers.NodeId.{NodeId}
use Rattle.vm_ids.specs.Forest.Commands.{extent_names}
use Rattle.vm_ids.specs.Forest.NameLists.{◌∈◌}
use Rattle.vm_ids.specs.Forest.Nodes.{is_live}
use Rattle.vm_ids.specs.Forest.Reading.{owner_of}
use Rattle.frame_pool.specs.Pool.{bytes_of, is_held}
use Rattle.residency.specs.Seeing.{seen_in}
use Rattle.slot_pool.specs.Slots as swap
use Rattle.global_map.specs.Pairs.{bound_times, node_of}
use Rattle.local_cache.specs.Own.{is_resident, is_slot, own_of, own_states}
use Rattle.pvm_core.specs.Manager.{Manager, forest_of, machine_of, nodes_of}
use Rattle.pvm_core.specs.Translated.{OnlySeen}

-- no page was copied, and each frame that is held was held before, with the bytes that it has
pub record CopiesNothing (old new : Manager) : Type 0 where
  pub copies : new.caches.copies ≡ old.caches.copies
  pub held : (f : ℕ) → is_held new.store.frames f ≡ true → is_held old.store.frames f ≡ true
  pub bytes : new.store.frames.bytes ≡ old.store.frames.bytes

-- the manager is the same but for memory that was taken: room for nodes, and swap slots that are
-- free
pub record HasMoreRoom (old new : Manager) : Type 0 where
  pub same : new ≡ record old {
    caches = record old.caches { room = new.caches.room };
    store = record old.store { slots = new.store.slots };
  }
  pub slots : (more : ℕ) × (new.store.slots ≡ old.store.slots ++ replicate more false)

-- the manager is the same but for its translations and for the marks of frames that accesses found
pub record SameButSeen (old new : Manager) : Type 0 where
  pub same : new ≡ record old { store = new.store }
  pub only : OnlySeen old.store new.store

-- No frame and no slot is held twice, and none is lost:
--     bound    a node is bound to one frame where its page is in a frame, and else to none
--     held     a frame is held exactly where a node is bound to it
--     slots    a held slot is that of one node, and any other slot of none
pub record HoldsEachOnce (p : Manager) : Type 0 where
  pub bound : (n : NodeId) → bound_times p.store.map n.0
      ≡ (if is_resident (own_of p.caches n) then 1 else 0)
  pub held : (f : ℕ) → is_held p.store.frames f ≡ is_some (node_of p.store.map f)
  pub slots : (s : ℕ) → count_by (is_slot s) (own_states p.caches)
      ≡ (if swap.is_held p.store.slots s then 1 else 0)

-- the working nodes are fewer than the live pages, or there are none of either
abbrev pub HasFewWorking : Counts → Type 0
HasFewWorking c = (c.working < c.live) ⊎ ((c.working ≡ 0) × (c.live ≡ 0))

-- the manager stands for the same machine, and keeps the same page forest
pub record SameMeaning (old new : Manager) (told now : Option Held) : Type 0 where
  pub machine : machine_of new now ≡ machine_of old told
  pub forest : forest_of new now ≡ forest_of old told

-- No page comes to a frame but those of a range, which are saved, and those that were read off
-- them; each other page that is seen in a frame, and wasn't replaced, was seen there before, and
-- the frame has its bytes.
abbrev pub FillsOnly : Extent → (NodeName → Type 0) → Manager → Manager → Type 0
FillsOnly range replaced old new = (x : NodeName) (frame : ℕ) → is_live x ≡ true
    → (replaced x → ⊥) → (owner_of (nodes_of old) x ∈ extent_names range → ⊥)
    → seen_in new.caches new.store.map x ≡ Some frame
    → (seen_in old.caches old.store.map x ≡ Some frame)
    × (bytes_of new.store.frames frame ≡ bytes_of old.store.frames frame)
