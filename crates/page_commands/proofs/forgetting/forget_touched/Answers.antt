use Rattle.std.proofs.Common.{◌+◌, is_some, sym, ap, ◌∙◌, subst, inl}
use Rattle.vm_ids.specs.Forest.Commands.{extent_names}
use Rattle.vm_ids.proofs.Forest.Laws.Ranges.{ranges_hold_their_pages}
use Rattle.page_commands.specs.Homes.{MayGo}
use Rattle.page_commands.proofs.Forgotten.Law.{forgotten_whole}
use Rattle.page_commands.proofs.PassedOver.Forgetting.{forgets_none}
use Rattle.page_commands.proofs.TiedStores.Kept.{kept_none}
use Rattle.page_commands.proofs.TiedStores.Named.{temporary_unclean}
use Rattle.page_commands.proofs.forgetting.forget_touched.Goals as goal

pub forget_range-requires-clause-named : goal.forget_range-requires-clause-named
forget_range-requires-clause-named c = sym (ap is_some c.segment.ensures) ∙ sym c.is_some.ensures ∙ c.if-is_some.true

pub returns-then-is_some-clause-whole : goal.returns-then-is_some-clause-whole
returns-then-is_some-clause-whole c =
    let e = c.forget_range.ensures in
    forgotten_whole c.args.caches.now c.forget_range.new.caches e.rule.some c.requires.whole e.same e.kept.sound e.rule.rule.nodes

pub returns-else-is_some-clause-rule : goal.returns-else-is_some-clause-rule
returns-else-is_some-clause-rule c = forgets_none c.args.extent.cache (extent_names c.args.extent) c.args.store.now c.args.caches.now

pub returns-else-is_some-clause-kept : goal.returns-else-is_some-clause-kept
returns-else-is_some-clause-kept c = kept_none (extent_names c.args.extent) c.args.store.now c.args.caches.now c.requires.whole.sound c.requires.tied

pub returns-else-is_some-clause-may : goal.returns-else-is_some-clause-may
returns-else-is_some-clause-may c x i =
    let at = (ranges_hold_their_pages c.args.extent.cache c.args.extent.first.0 c.args.extent.pages x).0 i in
    subst (MayGo c.args.caches.now) (sym at.2) (inl (temporary_unclean c.args.caches.now c.args.extent.cache c.args.store.now c.requires.tied (sym (ap is_some c.segment.ensures) ∙ sym c.is_some.ensures ∙ c.if-is_some.false) (record { 0 = c.args.extent.first.0 + at.0 })))
