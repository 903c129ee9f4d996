use Rattle.std.proofs.Common.{Option, sym, subst}
use Rattle.std.specs.Prelude.{Ok}
use Rattle.mix_process.specs.Adding.{IsFilled, IsSourceOf, Source}
use Rattle.mix_process.proofs.Adding.SpareFilled.{fill_none, fill_some}
use Rattle.mix_process.proofs.mix.Mix.fill.Goals as goal

pub returns-in_default : goal.returns-in_default
returns-in_default g c =
    subst (λ (s : Option Source). IsFilled g.M.Mapper g.G.Gmi c.args.mapper.now c.args.self.now c.args.part s (Ok tt) c.args.mapper.now c.args.self.now) (sym c.in_default.is)
    (fill_none g.M.Mapper g.G.Gmi c.args.mapper.now c.args.self.now c.args.part c.requires.has)

pub returns : goal.returns
returns g c =
    subst (λ (s : Option Source). IsFilled g.M.Mapper g.G.Gmi c.args.mapper.now c.args.self.now c.args.part s c.copy_pages.result c.copy_pages.new.mapper (record c.args.self.now { gmi = c.copy_pages.new.self })) (sym c.in-Some.is)
    (fill_some g.M.Mapper g.G.Gmi c.args.mapper.now c.args.self.now c.args.part c.requires.has (c.in-Some.from, c.in-Some.from_page)
    (subst (λ (s : Option Source). IsSourceOf (g.G.Gmi.machine c.args.self.now.gmi (g.M.Mapper.held c.args.mapper.now)) c.args.part s) c.in-Some.is c.requires.source)
    _ _ _ c.copy_pages.ensures)
