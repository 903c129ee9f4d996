use Rattle.std.proofs.Common.{◌≡◌, drop}
use Rattle.mix_process.specs.Starting.{image_for}
use Rattle.mix_process.proofs.mix.cache_for.Given as goal

abbrev pub invariant-loop-image : goal.invariant-loop-image
invariant-loop-image l = image_for (drop l.image-index l.images) l.seg.0 ≡ image_for l.images l.seg.0
