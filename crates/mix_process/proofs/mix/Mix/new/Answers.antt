use Rattle.std.proofs.Common.{List, [], Option, length, sym, subst}
use Rattle.interface_callers.proofs.Words.{numbered, segments_of}
use Rattle.mix_process.specs.Outcome.{usage_of}
use Rattle.mix_process.specs.Seen.{processes_seen}
use Rattle.mix_process.specs.Tying.{AreAble, none_spare}
use Rattle.mix_process.specs.declared.mix.Image.{Image}
use Rattle.mix_process.specs.declared.process.Process.{Process}
use Rattle.mix_process.proofs.Ties.EmptyStart.{bare_able}
use Rattle.mix_process.proofs.mix.Mix.new.Goals as goal

pub returns-clause-can : goal.returns-clause-can
returns-clause-can g c = λ told page_bytes bare.
    subst (λ (images : List Image). AreAble g.G.Gmi c.args.gmi images told page_bytes (length c.new.result.items) (numbered c.new.result.items) none_spare) (sym c.new-2.ensures.items)
    (subst (λ (processes : List (Option Process)). AreAble g.G.Gmi c.args.gmi [] told page_bytes (length processes) (numbered processes) none_spare) (sym c.new.ensures.items)
    (bare_able g.G.Gmi c.args.gmi told page_bytes bare))

pub returns-clause-begins : goal.returns-clause-begins
returns-clause-begins g c = λ told.
    (λ i. record {
      processes = processes_seen (g.G.Gmi.machine c.args.gmi told) (c.new.ensures.items i) (c.new-2.ensures.items i);
      usage = usage_of (g.G.Gmi.machine c.args.gmi told);
      segments = segments_of told;
    })
