use Rattle.interface_callers.proofs.Words.{done_by}
use Rattle.seg_manager.proofs.Calling.Served.{copy_served}
use Rattle.seg_manager.proofs.manager.SegManager.copy_pages.Goals as goal

pub returns : goal.returns
returns g c =
    copy_served g.M.Mapper g.G.Gmi c.args.self.now c.args.mapper.now c.requires.can c.copy_pages.new.self c.copy_pages.new.mapper (done_by c.copy_pages.result) c.args.span
    (record c.args.span { from = c.shown.result; to = c.shown-2.result }) (λ i. record c.args.span { from = c.shown.ensures i; to = c.shown-2.ensures i }) c.copy_pages.ensures
