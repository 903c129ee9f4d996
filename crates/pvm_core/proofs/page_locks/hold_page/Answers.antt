use Rattle.std.proofs.Common.{ap, ◌∙◌}
use Rattle.vm_ids.specs.Forest.Reading.{value_of}
use Rattle.residency.specs.Between.{world_at}
use Rattle.local_cache.specs.Arena.{HasNode}
use Rattle.local_cache.proofs.Whole.Like.{like_whole}
use Rattle.residency.specs.World.{World}
use Rattle.pvm_core.proofs.Locking.Alike.{alike_answered, alike_then}
use Rattle.pvm_core.proofs.Locking.Holds.{holds_kept}
use Rattle.pvm_core.proofs.Locking.LockedPages.{owned_values}
use Rattle.pvm_core.proofs.page_locks.hold_page.Goals as goal

pub returns-in_err-bring_own-clause-alike : goal.returns-in_err-bring_own-clause-alike
returns-in_err-bring_own-clause-alike g c =
    let e = c.in_err-bring_own.ensures in
    alike_answered _ _ _ _ c.requires.whole e.answered (λ x. ap (λ f. value_of f x) e.missed.forest)

pub returns-in_err-bring_own-clause-held : goal.returns-in_err-bring_own-clause-held
returns-in_err-bring_own-clause-held g c =
    let M = g.M.Mapper in
    let n = c.bring_own.new in
    holds_kept c.args.caches.now n.caches c.args.store.now n.store (M.held c.args.mapper.now) (M.held n.mapper) (M.page_bytes c.args.mapper.now) (M.page_bytes n.mapper) c.requires.right c.requires.whole.sound c.in_err-bring_own.ensures.answered.kept c.requires.held

pub pin_page-requires-clause-whole : goal.pin_page-requires-clause-whole
pin_page-requires-clause-whole g c =
    let k = c.in_ok-bring_own.ensures.answered.kept in
    like_whole c.args.caches.now c.bring_own.new.caches c.requires.whole k.nodes k.sound k.shaped

pub pin_page-requires-clause-held : goal.pin_page-requires-clause-held
pin_page-requires-clause-held g c =
    let M = g.M.Mapper in
    let n = c.bring_own.new in
    holds_kept c.args.caches.now n.caches c.args.store.now n.store (M.held c.args.mapper.now) (M.held n.mapper) (M.page_bytes c.args.mapper.now) (M.page_bytes n.mapper) c.requires.right c.requires.whole.sound c.in_ok-bring_own.ensures.answered.kept c.requires.held

pub returns-clause-alike : goal.returns-clause-alike
returns-clause-alike g c =
    let M = g.M.Mapper in
    let old : World = world_at M c.args.mapper.now c.args.caches.now c.args.store.now in
    let n = c.bring_own.new in
    let w : World = world_at M n.mapper n.caches n.store in
    let v : World = world_at M n.mapper c.pin_page.new.caches c.pin_page.new.store in
    let e = c.in_ok-bring_own.ensures in
    let there : HasNode c.args.caches.now c.node_of-node.result = c.node_of-node.ensures.held in
    let first = alike_answered old w (M.counts c.args.mapper.now) (M.counts n.mapper) c.requires.whole e.answered
    (λ x. ap (λ f. value_of f x) e.forest ∙ owned_values old c.requires.whole.sound c.node_of-node.result there c.requires.whole.consistent.shaped x) in
    alike_then old w v (M.counts c.args.mapper.now) (M.counts n.mapper) (M.counts n.mapper) first (c.pin_page.ensures.pages.alike (M.held n.mapper) (M.page_bytes n.mapper) (M.counts n.mapper) first.right)

pub returns-clause-translated : goal.returns-clause-translated
returns-clause-translated g c = λ u right. c.pin_page.ensures.pages.translated u (c.in_ok-bring_own.ensures.translated u right)
