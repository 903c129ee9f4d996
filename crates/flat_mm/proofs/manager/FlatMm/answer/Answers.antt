use Rattle.std.proofs.result.Match.{err_is}
use Rattle.flat_mm.specs.Manager.{machine_in}
use Rattle.flat_mm.proofs.Alone.{asks_alone, fits_seen, other_asks}
use Rattle.flat_mm.proofs.manager.FlatMm.answer.Goals as goal

pub answer-requires-clause-fits : goal.answer-requires-clause-fits
answer-requires-clause-fits g c = fits_seen (g.M.Mapper.held c.args.mapper.now) (g.M.Mapper.page_bytes c.args.mapper.now) (machine_in c.args.self.now) c.requires.fits

pub returns-in_default : goal.returns-in_default
returns-in_default g c = record {
  call = c.answer.ensures.call;
  so = other_asks c.args.command.now c.answer.ensures.call.answers.rises c.in_default.not-Load c.in_default.not-Store c.in_default.not-Lock c.in_default.not-PageOut;
}

pub returns-in_ok-piece-in-Load : goal.returns-in_ok-piece-in-Load
returns-in_ok-piece-in-Load g c = asks_alone g.M.Mapper _ _ _ _ _ _ _ c.in-Load.is (λ rises none. none) c.in_ok-piece-in-Load.ensures.call

pub returns-in_err-piece-in-Load : goal.returns-in_err-piece-in-Load
returns-in_err-piece-in-Load g c = rw (err_is c.from_residual.result _ c.from_residual.ensures.1) (asks_alone g.M.Mapper _ _ _ _ _ _ _ c.in-Load.is (λ rises none. none) c.in_err-piece-in-Load.ensures.call)

pub returns-in_ok-store-in-Store : goal.returns-in_ok-store-in-Store
returns-in_ok-store-in-Store g c = asks_alone g.M.Mapper _ _ _ _ _ _ _ c.in-Store.is (λ rises none. none) c.in_ok-store-in-Store.ensures

pub returns-in_err-store-in-Store : goal.returns-in_err-store-in-Store
returns-in_err-store-in-Store g c = rw (err_is c.from_residual-in_err-store-in-Store.result _ c.from_residual-in_err-store-in-Store.ensures.1) (asks_alone g.M.Mapper _ _ _ _ _ _ _ c.in-Store.is (λ rises none. none) c.in_err-store-in-Store.ensures)

pub returns-in_ok-lock-in-Lock : goal.returns-in_ok-lock-in-Lock
returns-in_ok-lock-in-Lock g c = asks_alone g.M.Mapper _ _ _ _ _ _ _ c.in-Lock.is (λ rises none. none) c.in_ok-lock-in-Lock.ensures

pub returns-in_err-lock-in-Lock : goal.returns-in_err-lock-in-Lock
returns-in_err-lock-in-Lock g c = rw (err_is c.from_residual-in_err-lock-in-Lock.result _ c.from_residual-in_err-lock-in-Lock.ensures.1) (asks_alone g.M.Mapper _ _ _ _ _ _ _ c.in-Lock.is (λ rises none. none) c.in_err-lock-in-Lock.ensures)

pub returns-in_ok-page_out-in-PageOut : goal.returns-in_ok-page_out-in-PageOut
returns-in_ok-page_out-in-PageOut g c = asks_alone g.M.Mapper _ _ _ _ _ _ _ c.in-PageOut.is (λ rises none. none) c.in_ok-page_out-in-PageOut.ensures
