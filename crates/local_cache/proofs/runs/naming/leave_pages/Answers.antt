use Rattle.std.proofs.Common.{sym, ap, subst, ◌∙◌, arith}
use Rattle.local_cache.specs.Pages.{HaveNodes, Pages, without_pages}
use Rattle.local_cache.proofs.PagesKept.{names_on, pages_held}
use Rattle.local_cache.proofs.runs.naming.leave_pages.Goals as goal

pub leave_named-live-requires-clause-held : goal.leave_named-live-requires-clause-held
leave_named-live-requires-clause-held c =
    let some = c.first_name-some.result in
    let P : Pages → Type 0 = λ p. HaveNodes p some.name some.count in
    subst P (sym c.loop-done.invariant.pages)
    (pages_held c.args.nodes.now.cells c.args.pages.now.nodes.cells c.args.first c.loop-done.done some.count some.name c.requires.paged
    (λ k less. c.requires.held k (omega (arith, less, c.first_name-some.ensures.within, c.loop-done-test.true))) c.first_name-some.ensures.names)

pub loop-done-preserved : goal.loop-done-preserved
loop-done-preserved c =
    let some = c.first_name-some.result in
    record {
      most = omega (arith, c.first_name-some.ensures.within, c.loop-done-test.true);
      few = omega (arith, c.loop-done.invariant.few, c.leave_named-live.ensures.within);
      pages = c.leave_named-live.ensures.pages ∙ ap (λ (p : Pages). without_pages p some.name some.count) c.loop-done.invariant.pages
          ∙ names_on c.args.pages.now.nodes.cells c.args.nodes.now.cells c.args.first c.loop-done.done some.count some.name c.first_name-some.ensures.names;
      fewer = omega (arith, c.loop-done.invariant.fewer, c.leave_named-live.ensures.fewer);
      count = omega (arith, c.loop-done.invariant.count, c.leave_named-live.ensures.count);
      room = c.leave_named-live.ensures.room ∙ c.loop-done.invariant.room;
    }
