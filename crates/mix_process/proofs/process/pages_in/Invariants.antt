use Rattle.std.proofs.Common.{◌≡◌, take}
use Rattle.mix_process.specs.Seen.{pages_in}
use Rattle.mix_process.proofs.process.pages_in.Given as goal

abbrev pub invariant-loop-part : goal.invariant-loop-part
invariant-loop-part l = l.pages ≡ pages_in l.area (take l.part-index l.parts)
