use Rattle.std.proofs.Common.{sym, subst, arith}
use Rattle.std.specs.Prelude.{Err}
use Rattle.vm_ids.specs.declared.command.MixCommand.TheVariants.{Grow}
use Rattle.vm_ids.specs.declared.reply.Trouble.TheVariants.{Refused}
use Rattle.interface_callers.proofs.Words.{Refusal, done_by}
use Rattle.mix_process.specs.Calling.{MixCall}
use Rattle.mix_process.proofs.Adding.FilledAndMapped.{handed_on}
use Rattle.mix_process.proofs.Commands.Grow.{data_few, grew, grow_nobody, grow_too_large, may_grow}
use Rattle.mix_process.proofs.mix.Mix.grow.Goals as goal

pub returns-in_err-place : goal.returns-in_err-place
returns-in_err-place g c =
    handed_on (λ r. MixCall g.M.Mapper g.G.Gmi c.args.mapper.now c.args.self.now (Grow c.args.of c.args.pages) (done_by r) c.args.mapper.now c.args.self.now)
    c.from_residual.result _ c.from_residual.ensures.1
    (subst (λ (x : Refusal). MixCall g.M.Mapper g.G.Gmi c.args.mapper.now c.args.self.now (Grow c.args.of c.args.pages) (Err (Refused x)) c.args.mapper.now c.args.self.now) (sym c.in_err-place.ensures.refusal)
    (grow_nobody g.M.Mapper g.G.Gmi c.args.self.now c.args.mapper.now c.requires.can c.args.of c.args.pages c.in_err-place.ensures.nobody))

pub data_pages-requires : goal.data_pages-requires
data_pages-requires g c = record {
  there = (
    c.in_ok-place.ensures.found.1.0,
    c.in_ok-place.ensures.found.1.1,
    data_few g.M.Mapper g.G.Gmi c.args.self.now c.args.mapper.now c.requires.can c.args.of c.args.pages c.in_ok-place.place c.in_ok-place.ensures.found.0 c.in_ok-place.ensures.found.1.0 c.in_ok-place.ensures.found.1.1,
  );
}

pub overflow_add-data_pages : goal.overflow_add-data_pages
overflow_add-data_pages g c =
    omega (
      arith,
      c.ranges.pages.fits,
      c.data_pages.ensures c.in_ok-place.ensures.found.1.0 c.in_ok-place.ensures.found.1.1,
      data_few g.M.Mapper g.G.Gmi c.args.self.now c.args.mapper.now c.requires.can c.args.of c.args.pages c.in_ok-place.place c.in_ok-place.ensures.found.0 c.in_ok-place.ensures.found.1.0 c.in_ok-place.ensures.found.1.1,
    )

pub returns-then-data_pages-pages : goal.returns-then-data_pages-pages
returns-then-data_pages-pages g c =
    grow_too_large g.M.Mapper g.G.Gmi c.args.self.now c.args.mapper.now c.requires.can c.args.of c.args.pages c.in_ok-place.place c.in_ok-place.ensures.found.0 c.in_ok-place.ensures.found.1.0 c.in_ok-place.ensures.found.1.1
    (omega (arith, c.if-data_pages-pages.true, c.data_pages.ensures c.in_ok-place.ensures.found.1.0 c.in_ok-place.ensures.found.1.1))

pub add_own-requires-clause-may : goal.add_own-requires-clause-may
add_own-requires-clause-may g c = (
  c.in_ok-place.ensures.found.1.0,
  may_grow g.M.Mapper g.G.Gmi c.args.self.now c.args.mapper.now c.requires.can c.args.of c.args.pages c.in_ok-place.place c.in_ok-place.ensures.found.0 c.in_ok-place.ensures.found.1.0 c.in_ok-place.ensures.found.1.1 c.requires.some
      (omega (arith, c.if-data_pages-pages.false, c.data_pages.ensures c.in_ok-place.ensures.found.1.0 c.in_ok-place.ensures.found.1.1)),
)

pub returns : goal.returns
returns g c =
    grew g.M.Mapper g.G.Gmi c.args.self.now c.args.mapper.now c.requires.can c.args.of c.args.pages c.in_ok-place.place c.in_ok-place.ensures.found.0 c.in_ok-place.ensures.found.1.0 c.in_ok-place.ensures.found.1.1 c.requires.some
    (omega (arith, c.if-data_pages-pages.false, c.data_pages.ensures c.in_ok-place.ensures.found.1.0 c.in_ok-place.ensures.found.1.1)) _ _ _
    (c.add_own.ensures c.in_ok-place.ensures.found.1.0
    (may_grow g.M.Mapper g.G.Gmi c.args.self.now c.args.mapper.now c.requires.can c.args.of c.args.pages c.in_ok-place.place c.in_ok-place.ensures.found.0 c.in_ok-place.ensures.found.1.0 c.in_ok-place.ensures.found.1.1 c.requires.some
    (omega (arith, c.if-data_pages-pages.false, c.data_pages.ensures c.in_ok-place.ensures.found.1.0 c.in_ok-place.ensures.found.1.1))))
