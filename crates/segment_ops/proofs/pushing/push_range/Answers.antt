use Rattle.std.proofs.Common.{ap, ◌∙◌}
use Rattle.vm_ids.specs.Held.{segments_of}
use Rattle.residency.proofs.Worlds.Composed.{still_then}
use Rattle.residency.proofs.Forests.StillForest.{still_forest}
use Rattle.fault_path.proofs.Calls.Answered.{later_then}
use Rattle.fault_path.specs.Translating.{Nobody}
use Rattle.segment_ops.specs.Translating.{IsReadBy}
use Rattle.segment_ops.proofs.GivenUp.{still_stays}
use Rattle.residency.proofs.Translations.Kept.{drops_trans}
use Rattle.segment_ops.proofs.PushedPage.{still_reads}
use Rattle.residency.proofs.Pushes.PushedPages.{tells_none}
use Rattle.segment_ops.proofs.Values.{values_then}
use Rattle.segment_ops.proofs.pushing.push_range.Goals as goal

pub returns-in_err-push_pages-clause-stays : goal.returns-in_err-push_pages-clause-stays
returns-in_err-push_pages-clause-stays g c =
    let p = c.push_pages.ensures in
    still_stays _ _ _ _ p.still c.requires.whole p.pinned p.later p.told

pub returns-in_err-push_pages-clause-forest : goal.returns-in_err-push_pages-clause-forest
returns-in_err-push_pages-clause-forest g c = still_forest _ _ c.push_pages.ensures.still

pub returns-else-give_up-clause-stays : goal.returns-else-give_up-clause-stays
returns-else-give_up-clause-stays g c =
    let p = c.push_pages.ensures in
    still_stays _ _ _ _ p.still c.requires.whole p.pinned p.later p.told

pub returns-else-give_up-clause-forest : goal.returns-else-give_up-clause-forest
returns-else-give_up-clause-forest g c = still_forest _ _ c.push_pages.ensures.still

pub give_up_pages-requires-clause-whole : goal.give_up_pages-requires-clause-whole
give_up_pages-requires-clause-whole g c =
    let p = c.push_pages.ensures in
    (still_stays _ _ _ _ p.still c.requires.whole p.pinned p.later p.told).whole

pub returns-then-give_up-clause-stays : goal.returns-then-give_up-clause-stays
returns-then-give_up-clause-stays g c =
    let p = c.push_pages.ensures in
    let e = c.give_up_pages.ensures in
    let told = values_then _ _ (still_reads _ _ p.still) _ _ _ _ e.later p.told (tells_none _ _ _ _ (ap segments_of e.held) e.later.pushes) in
    still_stays _ _ _ _ (still_then _ _ _ p.still e.still) c.requires.whole (e.pinned ∙ p.pinned) (later_then _ _ _ p.later e.later) told

pub returns-then-give_up-clause-forest : goal.returns-then-give_up-clause-forest
returns-then-give_up-clause-forest g c = still_forest _ _ (still_then _ _ _ c.push_pages.ensures.still c.give_up_pages.ensures.still)

pub returns-then-give_up-clause-drops : goal.returns-then-give_up-clause-drops
returns-then-give_up-clause-drops g c =
    let p = c.push_pages.ensures in
    let e = c.give_up_pages.ensures in
    let came = IsReadBy c.args.caches.now c.args.range in
    drops_trans came Nobody came c.args.caches.now c.push_pages.new.caches c.give_up_pages.new.caches c.args.store.now c.push_pages.new.store c.give_up_pages.new.store (λ n came. came) (λ n none. absurd none) p.drops e.drops
