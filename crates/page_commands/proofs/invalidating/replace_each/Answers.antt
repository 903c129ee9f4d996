use Rattle.std.proofs.Common.{◌+◌, refl, ap, ◌∙◌, subst, inl, inr, arith}
use Rattle.vm_ids.specs.Forest.Commands.{page_name, page_names}
use Rattle.vm_ids.specs.Forest.NameLists.{◌∈◌}
use Rattle.vm_ids.specs.Forest.Nodes.{child_count}
use Rattle.vm_ids.proofs.Forest.Laws.Ranges.{ranges_hold_their_pages}
use Rattle.local_cache.specs.declared.own_state.OwnState.TheVariants.{OnSegment}
use Rattle.local_cache.specs.Reading.{forest_of}
use Rattle.local_cache.proofs.Whole.LivePages.{page_there}
use Rattle.page_commands.specs.Readings.{held_pages, new_states}
use Rattle.page_commands.proofs.Forgotten.Range.{in_range, same_place}
use Rattle.page_commands.proofs.PassedOver.Childless.{replaced_childless}
use Rattle.page_commands.proofs.PassedOver.Replacing.{ReplacesPages, replaces_none, replaces_then}
use Rattle.page_commands.proofs.TiedStores.Kept.{unclean_kept, unpinned_kept}
use Rattle.page_commands.proofs.TiedStores.Named.{named_same}
use Rattle.page_commands.proofs.CommandSteps.Replacing.{first_names}
use Rattle.page_commands.proofs.invalidating.replace_each.Goals as goal

pub loop-done-init : goal.loop-done-init
loop-done-init c =
    let whole = c.requires.retire.whole in
    record { replaced = replaces_none c.args.extent.cache c.args.extent.first.0 c.args.store.now c.args.caches.now whole.sound whole.consistent c.requires.retire.tied; few = omega arith }

pub replace_next-done-requires-clause-named : goal.replace_next-done-requires-clause-named
replace_next-done-requires-clause-named c = named_same c.args.caches.now c.loop-done.caches c.loop-done.invariant.replaced.kept.sizes c.args.extent.cache ∙ c.requires.named

pub replace_next-done-requires-clause-node : goal.replace_next-done-requires-clause-node
replace_next-done-requires-clause-node c =
    let i = c.loop-done.invariant.replaced in
    let k = c.loop-done.done in
    page_there c.loop-done.caches i.kept.sound c.args.extent.cache (record { 0 = c.args.extent.first.0 + k }) (i.grows.stays (page_name c.args.extent.cache (c.args.extent.first.0 + k)) (c.requires.nodes k c.loop-done-test.true))

pub replace_next-done-requires-clause-room : goal.replace_next-done-requires-clause-room
replace_next-done-requires-clause-room c = omega (arith, c.loop-done.invariant.replaced.grows.room, c.requires.room, c.loop-done-test.true)

pub replace_next-done-requires-clause-made : goal.replace_next-done-requires-clause-made
replace_next-done-requires-clause-made c = omega (arith, c.loop-done.invariant.replaced.grows.made, c.requires.retire.made, c.loop-done-test.true)

pub replace_next-done-requires-clause-unpinned : goal.replace_next-done-requires-clause-unpinned
replace_next-done-requires-clause-unpinned c =
    let k = c.loop-done.done in
    let x = page_name c.args.extent.cache (c.args.extent.first.0 + k) in
    unpinned_kept (page_names c.args.extent.cache c.args.extent.first.0 k) c.args.store.now c.args.caches.now c.loop-done.store c.loop-done.caches c.requires.retire.tied c.loop-done.invariant.replaced.kept x
    (c.requires.retire.unpinned x (in_range c.args.extent.cache c.args.extent.first.0 c.args.extent.pages k c.loop-done-test.true))

pub replace_next-done-requires-clause-may : goal.replace_next-done-requires-clause-may
replace_next-done-requires-clause-may c =
    let i = c.loop-done.invariant.replaced in
    let k = c.loop-done.done in
    let cache = c.args.extent.cache in
    let p = c.args.extent.first.0 in
    let x = page_name cache (p + k) in
    let names = page_names cache p k in
    let out : x ∈ names → ⊥ = λ j.
    let at = (ranges_hold_their_pages cache p k x).0 j in
    let place = same_place cache p k at.0 at.2 in omega (arith, place, at.1) in
    elim (c.requires.may x (in_range cache p c.args.extent.pages k c.loop-done-test.true)) [
      | inl unclean ↦ inl (unclean_kept names c.args.store.now c.args.caches.now c.loop-done.store c.loop-done.caches c.requires.retire.tied i.kept x out unclean)
      | inr none ↦ inr (ap (λ g. child_count g x) i.rule.nodes
          ∙ replaced_childless (held_pages new_states names) (forest_of c.args.caches.now) x refl (λ j. out (subst (λ xs. x ∈ xs) (first_names (λ _. OnSegment) names) j)) none)
    ]

pub loop-done-preserved : goal.loop-done-preserved
loop-done-preserved c =
    let i = c.loop-done.invariant in
    let e = c.replace_next-done.ensures in
    let more : ReplacesPages c.args.extent.cache (c.args.extent.first.0 + c.loop-done.done) c.replace_next-done.result c.loop-done.store c.loop-done.caches c.replace_next-done.new.store c.replace_next-done.new.caches =
    record { rule = e.rule; kept = e.kept; clean = e.clean; grows = e.grows } in
    record {
      replaced = replaces_then c.args.extent.cache c.args.extent.first.0 c.loop-done.done c.replace_next-done.result c.args.store.now c.args.caches.now c.loop-done.store c.loop-done.caches
          c.replace_next-done.new.store c.replace_next-done.new.caches c.requires.retire.tied c.requires.named i.replaced more;
      few = omega (arith, e.few, c.loop-done-test.true);
    }
