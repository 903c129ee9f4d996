use Rattle.std.proofs.Common.{drop, ap, sym, refl}
use Rattle.std.proofs.result.Match.{err_is}
use Rattle.std.proofs.lemmas.Option.{get_or_from_slice_get}
use Rattle.interface_callers.proofs.Words.{done_by}
use Rattle.seg_manager.proofs.Room.Thinned.{failed_first, first_rest, gone_first, thins_one}
use Rattle.seg_manager.proofs.manager.SegManager.destroy_first.Goals as goal

pub returns-in_err-destroy : goal.returns-in_err-destroy
returns-in_err-destroy g c =
    let at = first_rest c.args.self.now.kept.items c.in-Some.first c.requires.some (sym (get_or_from_slice_get c.args.self.now.kept.items 0 c.in-Some.first c.in-Some.first (sym c.in-Some.ensures))) in
    rw (err_is c.from_residual.result _ c.from_residual.ensures.1)
    (failed_first g.M.Mapper g.G.Gmi c.args.self.now c.destroy.new.self c.args.mapper.now c.destroy.new.mapper c.in-Some.first (drop 1 c.args.self.now.kept.items) (done_by c.destroy.result) at c.requires.can c.destroy.ensures c.in_err-destroy.field-0.0 (ap done_by c.in_err-destroy.was))

pub returns : goal.returns
returns g c =
    let at = first_rest c.args.self.now.kept.items c.in-Some.first c.requires.some (sym (get_or_from_slice_get c.args.self.now.kept.items 0 c.in-Some.first c.in-Some.first (sym c.in-Some.ensures))) in
    let gone = gone_first g.M.Mapper g.G.Gmi c.args.self.now c.destroy.new.self c.args.mapper.now c.destroy.new.mapper c.in-Some.first (drop 1 c.args.self.now.kept.items) (done_by c.destroy.result) at c.requires.can c.destroy.ensures (ap done_by c.in_ok-destroy.was) in (
      thins_one g.M.Mapper g.G.Gmi c.args.self.now c.destroy.new.self c.args.mapper.now c.destroy.new.mapper c.in-Some.first (drop 1 c.args.self.now.kept.items) (done_by c.destroy.result) at c.requires.can c.destroy.ensures gone
          (record c.args.self.now { caches = c.remove.new.self; kept = c.remove_first.new.self }) refl refl c.remove_first.ensures.items c.remove_first.ensures.room c.remove.ensures.items c.remove.ensures.spare,
      c.remove_first.ensures.items,
    )
