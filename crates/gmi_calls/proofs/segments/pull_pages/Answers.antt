use Rattle.std.proofs.Common.{◌≡◌, ℕ, ◌+◌, List, length, get_or, Some, refl, sym, ap, subst, ◌∙◌, arith, Option}
use Rattle.std.specs.Vec.{with_items}
use Rattle.std.proofs.lemmas.List.{with_items_is}
use Rattle.std.specs.Prelude.{IfSome}
use Rattle.vm_ids.specs.Held.{Held, page_of}
use Rattle.gmi_calls.proofs.Pulling.{filled_none, filled_more, put_whole, all_filled, page_room, page_there}
use Rattle.gmi_calls.proofs.Rising.{counted, fault_counted, on_err, one_call, reached_none, reached_then}
use Rattle.gmi_calls.proofs.segments.pull_pages.Goals as goal

pub loop-i-init : goal.loop-i-init
loop-i-init g c = (filled_none _ _ _ _, refl, reached_none _ tt, refl)

pub pull_in-requires-clause-room : goal.pull_in-requires-clause-room
pull_in-requires-clause-room g c =
    let told = g.M.Mapper.page_bytes c.args.mapper.now in
    let now = g.M.Mapper.page_bytes c.loop-i.mapper in
    subst (λ (bytes : List ℕ). IfSome now (λ n. length bytes ≡ n)) (sym c.deref_mut.ensures.value)
    (page_room told now c.loop-i.pages c.args.pages.now c.loop-i.i c.index-pages-i.result c.loop-i.invariant.3 c.requires.room c.loop-i.invariant.0.whole (omega (arith, c.loop-i-test.true, c.loop-i.auto.pages)))

pub pull_in-requires-clause-there : goal.pull_in-requires-clause-there
pull_in-requires-clause-there g c = page_there _ _ _ _ _ _ c.loop-i.invariant.1 c.requires.there (omega arith) (omega (arith, c.loop-i-test.true))

pub returns-in_err-pull_in-clause-whole : goal.returns-in_err-pull_in-clause-whole
returns-in_err-pull_in-clause-whole g c =
    let old = get_or c.loop-i.pages c.loop-i.i c.index-pages-i.result in
    let many : length c.pull_in.new.into ≡ length old.items = c.pull_in.auto.into ∙ ap length c.deref_mut.ensures.value in
    let is = with_items_is old c.pull_in.new.into (many ∙ sym old.ok.0) in
    put_whole _ _ _ _ c.loop-i.i c.loop-i.pages c.index-pages-i.result (with_items old c.pull_in.new.into) c.loop-i.invariant.0 (omega (arith, c.loop-i-test.true, c.loop-i.auto.pages)) (ap length is ∙ many)

pub returns-in_err-pull_in-clause-held : goal.returns-in_err-pull_in-clause-held
returns-in_err-pull_in-clause-held g c = c.pull_in.ensures.held ∙ c.loop-i.invariant.1

pub returns-in_err-pull_in-clause-reached : goal.returns-in_err-pull_in-clause-reached
returns-in_err-pull_in-clause-reached g c =
    reached_then _ _ _ _ _ c.loop-i.invariant.2 (one_call 1 0 c.pull_in.result) (counted 1 0 _ _ c.pull_in.result c.pull_in.ensures.counts)
    (on_err c.from_residual.result _ (fault_counted 1 0 c.pull_in.result _ c.in_err-pull_in.was))

pub returns-in_err-pull_in-clause-page : goal.returns-in_err-pull_in-clause-page
returns-in_err-pull_in-clause-page g c = c.pull_in.ensures.page ∙ c.loop-i.invariant.3

pub loop-i-preserved : goal.loop-i-preserved
loop-i-preserved g c =
    let old = get_or c.loop-i.pages c.loop-i.i c.index-pages-i.result in
    let many : length c.pull_in.new.into ≡ length old.items = c.pull_in.auto.into ∙ ap length c.deref_mut.ensures.value in
    let is = with_items_is old c.pull_in.new.into (many ∙ sym old.ok.0) in (
      filled_more _ _ _ _ c.loop-i.i c.loop-i.pages c.index-pages-i.result (with_items old c.pull_in.new.into) c.loop-i.invariant.0 (omega (arith, c.loop-i-test.true, c.loop-i.auto.pages)) (ap length is ∙ many)
          (subst (λ (o : Option Held). IfSome o (λ h. page_of h c.args.seg.0 (c.args.first + c.loop-i.i) ≡ Some (with_items old c.pull_in.new.into).items)) c.loop-i.invariant.1
          (subst (λ (bytes : List ℕ). IfSome (g.M.Mapper.held c.loop-i.mapper) (λ h. page_of h c.args.seg.0 (c.args.first + c.loop-i.i) ≡ Some bytes)) (sym is) c.in_ok-pull_in.ensures.bytes)),
      c.pull_in.ensures.held ∙ c.loop-i.invariant.1,
      reached_then _ _ _ _ _ c.loop-i.invariant.2 (one_call 1 0 c.pull_in.result) (counted 1 0 _ _ c.pull_in.result c.pull_in.ensures.counts) tt,
      c.pull_in.ensures.page ∙ c.loop-i.invariant.3,
    )

pub returns-clause-pulled : goal.returns-clause-pulled
returns-clause-pulled g c = all_filled _ _ _ c.loop-i.i _ c.loop-i.pages (omega (arith, c.loop-i-test.false, c.loop-i.auto.pages)) c.loop-i.invariant.0

pub returns-clause-whole : goal.returns-clause-whole
returns-clause-whole g c = c.loop-i.invariant.0.whole

pub returns-clause-held : goal.returns-clause-held
returns-clause-held g c = c.loop-i.invariant.1

pub returns-clause-reached : goal.returns-clause-reached
returns-clause-reached g c = c.loop-i.invariant.2

pub returns-clause-page : goal.returns-clause-page
returns-clause-page g c = c.loop-i.invariant.3
