use Rattle.std.proofs.Common.{◌≡◌, ◌≤◌, ◌<◌, ◌+◌, ◌-◌, refl, sym, ap, ◌∙◌, subst, inl, inr, arith}
use Rattle.std.proofs.lemmas.Bool.{cases_lt}
use Rattle.vm_ids.specs.Forest.Commands.{extent_names, page_name, page_names}
use Rattle.vm_ids.proofs.Forest.Laws.Ranges.{ranges_hold_their_pages}
use Rattle.residency.proofs.Worlds.Nodes.{same, same_then}
use Rattle.page_commands.specs.Homes.{MayGo}
use Rattle.page_commands.proofs.Forgotten.Range.{in_range, range_stays, same_place}
use Rattle.page_commands.proofs.PassedOver.Forgetting.{forgets_none, forgets_then, may_kept, part_of}
use Rattle.page_commands.proofs.TiedStores.Kept.{kept_none, kept_then, unpinned_kept}
use Rattle.page_commands.proofs.TiedStores.Named.{named_same}
use Rattle.page_commands.proofs.forgetting.forget_range.Goals as goal

pub loop-done-init : goal.loop-done-init
loop-done-init c =
    let all = extent_names c.args.extent in
    record {
      most = omega arith;
      rule = forgets_none c.args.extent.cache all c.args.store.now c.args.caches.now;
      kept = kept_none all c.args.store.now c.args.caches.now c.requires.sound c.requires.tied;
      same = same c.args.caches.now;
      may = λ i low. absurd (omega (arith, low));
      count = refl;
    }

pub forget_next-done-requires-clause-node : goal.forget_next-done-requires-clause-node
forget_next-done-requires-clause-node c = range_stays c.args.caches.now c.loop-done.caches c.loop-done.invariant.same c.requires.sound c.args.extent.cache c.args.extent.first.0 c.args.extent.pages c.loop-done.done c.requires.nodes c.loop-done-test.true

pub forget_next-done-requires-clause-named : goal.forget_next-done-requires-clause-named
forget_next-done-requires-clause-named c = named_same c.args.caches.now c.loop-done.caches c.loop-done.invariant.kept.sizes c.args.extent.cache ∙ c.requires.named

pub forget_next-done-requires-clause-unpinned : goal.forget_next-done-requires-clause-unpinned
forget_next-done-requires-clause-unpinned c =
    let x = page_name c.args.extent.cache (c.args.extent.first.0 + c.loop-done.done) in
    unpinned_kept (extent_names c.args.extent) c.args.store.now c.args.caches.now c.loop-done.store c.loop-done.caches c.requires.tied c.loop-done.invariant.kept x
    (c.requires.unpinned x (in_range c.args.extent.cache c.args.extent.first.0 c.args.extent.pages c.loop-done.done c.loop-done-test.true))

pub loop-done-preserved : goal.loop-done-preserved
loop-done-preserved c =
    let i = c.loop-done.invariant in
    let k = c.loop-done.done in
    let e = c.forget_next-done.ensures in
    let m = c.forget_next-done.result in
    let cache = c.args.extent.cache in
    let p = c.args.extent.first.0 in
    let n = c.args.extent.pages in
    let s = c.args.store.now in
    let o = c.args.caches.now in
    let t = c.loop-done.store in
    let a = c.loop-done.caches in
    let u = c.forget_next-done.new.store in
    let b = c.forget_next-done.new.caches in
    let all = page_names cache p n in
    let some = page_names cache (p + k) m in
    let few : k + m ≤ n = omega (arith, e.few, c.loop-done-test.true) in
    record {
      most = few;
      rule = forgets_then cache all some s o t a u b all i.kept (part_of cache p n k m few) i.rule e.rule;
      kept = kept_then all some all s o t a u b c.requires.tied (λ y j. j) (part_of cache p n k m few) i.kept e.kept;
      same = same_then o a b i.same e.same;
      may = λ j below. elim (cases_lt j k) [
        | inl low ↦ may_kept cache some some t a u b i.kept.tied e.kept e.rule (page_name cache (p + j))
            (λ in_it. let at = (ranges_hold_their_pages cache (p + k) m (page_name cache (p + j))).0 in_it in
            let place : p + k + at.0 ≡ p + (k + at.0) = omega arith in
            let is = same_place cache p j (k + at.0) (at.2 ∙ ap (page_name cache) place) in omega (arith, is, low)) (i.may j low)
        | inr high ↦ (
            let place : p + k + (j - k) ≡ p + j = omega (arith, high) in
            let less : j - k < m = omega (arith, below, high) in
            subst (λ q. MayGo b (page_name cache q)) place (e.may (page_name cache (p + k + (j - k))) (in_range cache (p + k) m (j - k) less)))
      ];
      count = e.count ∙ i.count;
    }

pub returns-clause-may : goal.returns-clause-may
returns-clause-may c x j =
    let at = (ranges_hold_their_pages c.args.extent.cache c.args.extent.first.0 c.args.extent.pages x).0 j in
    subst (MayGo c.loop-done.caches) (sym at.2) (c.loop-done.invariant.may at.0 (omega (arith, at.1, c.loop-done-test.false)))
