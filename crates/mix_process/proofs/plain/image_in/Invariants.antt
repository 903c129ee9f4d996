use Rattle.std.proofs.Common.{◌≡◌, drop}
use Rattle.mix_process.specs.ProcessMachine.{image_in}
use Rattle.mix_process.proofs.plain.image_in.Given as goal

abbrev pub invariant-loop-image : goal.invariant-loop-image
invariant-loop-image l = image_in (drop l.image-index l.images) l.seg.0 ≡ image_in l.images l.seg.0
