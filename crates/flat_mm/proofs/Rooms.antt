-- For how many pages there is room, with or without their bytes.
use Rattle.std.proofs.Common.{◌≡◌, ◌-◌, ℕ, Option, Some, None, refl, sym, ap}
use Rattle.vm_ids.specs.Held.{Held}
use Rattle.vm_model.specs.Machine.{Machine, start}
use Rattle.vm_model.specs.Outcome.{seen_at}
use Rattle.flat_mm.specs.TwoManagers.{frames_left}
use Rattle.flat_mm.proofs.Calls.{seen_live}

pub same_left : (told : Option Held) (m : Machine) → frames_left m ≡ frames_left (seen_at told m)
same_left None m = ap (λ n. m.frames - n) (sym (seen_live None m))
same_left (Some h) m = refl

pub seen_start : (told : Option Held) (frames page_bytes : ℕ) → seen_at told (start frames page_bytes) ≡ start frames page_bytes
seen_start None frames page_bytes = refl
seen_start (Some h) frames page_bytes = refl
