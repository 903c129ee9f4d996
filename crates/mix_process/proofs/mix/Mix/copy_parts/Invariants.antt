use Rattle.std.proofs.Common.{◌-◌, length}
use Rattle.mix_process.specs.Copying.{MayInherit}
use Rattle.mix_process.specs.declared.process.Process.{Process}
use Rattle.mix_process.proofs.Starts.PartsInherited.{AreCopying, parts_at}
use Rattle.mix_process.proofs.mix.Mix.copy_parts.Given as goal

abbrev pub invariant-loop-part : goal.invariant-loop-part
invariant-loop-part g l = (process : Process) (may : MayInherit l.fn.self.processes.items l.fn.parent process) → AreCopying g.M.Mapper g.G.Gmi l.fn.mapper l.fn.self may.front process l.place l.next l.mapper l.self

abbrev pub decreases-loop-part : goal.decreases-loop-part
decreases-loop-part g l = length (parts_at l.fn.self.processes.items l.fn.parent) - l.next
