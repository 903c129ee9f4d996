-- Clones that are the same as what they are made of.
use Rattle.std.proofs.Common.{◌≡◌, Option, Some, None, ap}
use Rattle.std.proofs.lemmas.List.Elements.{same_from_all_zip}
use Rattle.slab.specs.Slab.{Slab, IsSlotClone, IsSlabClone}

module _ {S : Type 0} (is_clone : S → S → Type 0) (same : (x y : S) → is_clone x y → y ≡ x) where
  same_slot : (a b : Option S) → IsSlotClone is_clone a b → b ≡ a
  same_slot None b h = h
  same_slot (Some x) None h = absurd h
  same_slot (Some x) (Some y) h = ap Some (same x y h)

  -- the slots of a slab and of its clone
  pub same_slots : (s copy : Slab S) → IsSlabClone is_clone s copy → copy.slots ≡ s.slots
  same_slots s copy h = same_from_all_zip (IsSlotClone is_clone) s.slots copy.slots h.slots same_slot
