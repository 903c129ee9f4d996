use Rattle.std.proofs.Common.{◌≡◌, ℕ, [], ◌∷◌, length, Option, sym, ap, ◌∙◌, subst}
use Rattle.vm_ids.specs.Held.{Held}
use Rattle.vm_ids.specs.declared.node_name.NodeName.TheVariants.{Live}
use Rattle.local_cache.specs.declared.own_state.OwnState.TheVariants.{Zero}
use Rattle.local_cache.specs.Own.{is_absent, own_of, own_states}
use Rattle.local_cache.proofs.Nodes.OwnStates.{own_length}
use Rattle.residency.specs.World.{SameNodes, world}
use Rattle.residency.proofs.Worlds.Nodes.{with_own_same, same}
use Rattle.page_commands.specs.Following.{CanLeave, without_page}
use Rattle.page_commands.proofs.Forgotten.One.{absent_forest, absent_frames, absent_nodes, absent_unclean, forget_can, forget_forest, forget_frames, forget_kept, forget_nodes, forget_unclean, unclean_named}
use Rattle.page_commands.proofs.TiedStores.Kept.{kept_none}
use Rattle.page_commands.proofs.forgetting.forget_page.Goals as goal

pub drop_page-requires : goal.drop_page-requires
drop_page-requires c =
    let at = c.requires.sound.kept.listed.nodes c.args.cache.0 c.args.page.0 c.node_of-node.result c.node_of-node.ensures in
    let some = ap is_absent (sym c.own_state-state.ensures) ∙ sym c.is_absent.ensures.absent ∙ c.if-not-is_absent.true in
    subst (CanLeave c.args.store.now c.node_of-node.result) (sym c.own_state-state.ensures)
    (forget_can c.args.store.now c.args.caches.now c.requires.sound c.requires.tied c.node_of-node.result at.0 (Live c.args.cache c.args.page) at.1 c.requires.unpinned some)

pub returns-then-not-is_absent-clause-rule : goal.returns-then-not-is_absent-clause-rule
returns-then-not-is_absent-clause-rule c =
    let s = c.args.store.now in
    let a = c.args.caches.now in
    let n = c.node_of-node.result in
    let x = Live c.args.cache c.args.page in
    let t = c.drop_page.new.store in
    let b = c.set_state.new.self in
    let at = c.requires.sound.kept.listed.nodes c.args.cache.0 c.args.page.0 n c.node_of-node.ensures in
    let some = ap is_absent (sym c.own_state-state.ensures) ∙ sym c.is_absent.ensures.absent ∙ c.if-not-is_absent.true in
    let dropped : (told : Option Held) (size : Option ℕ) → world told size b t ≡ without_page (world told size b s) n (own_of a n) = λ told size. c.drop_page.ensures.store told size b ∙ ap (without_page (world told size b s) n) c.own_state-state.ensures in
    record {
      nodes = forget_nodes s a c.requires.sound c.requires.tied n at.0 x at.1 c.requires.unpinned some t b c.set_state.ensures.changed dropped;
      forest = forget_forest s a c.requires.sound c.requires.tied n at.0 x at.1 c.requires.unpinned some t b c.set_state.ensures.changed dropped;
      frames = forget_frames s a c.requires.sound c.requires.tied n at.0 x at.1 c.requires.unpinned some t b c.set_state.ensures.changed dropped;
    }

pub returns-then-not-is_absent-clause-kept : goal.returns-then-not-is_absent-clause-kept
returns-then-not-is_absent-clause-kept c =
    let at = c.requires.sound.kept.listed.nodes c.args.cache.0 c.args.page.0 c.node_of-node.result c.node_of-node.ensures in
    let some = ap is_absent (sym c.own_state-state.ensures) ∙ sym c.is_absent.ensures.absent ∙ c.if-not-is_absent.true in
    forget_kept c.args.store.now c.args.caches.now c.requires.sound c.requires.tied c.node_of-node.result at.0 (Live c.args.cache c.args.page) at.1 c.requires.unpinned some
    c.drop_page.new.store c.set_state.new.self c.set_state.ensures.changed
    (λ told size. c.drop_page.ensures.store told size c.set_state.new.self ∙ ap (without_page (world told size c.set_state.new.self c.args.store.now) c.node_of-node.result) c.own_state-state.ensures) c.drop_page.ensures.tables

pub returns-then-not-is_absent-clause-same : goal.returns-then-not-is_absent-clause-same
returns-then-not-is_absent-clause-same c =
    let at = c.requires.sound.kept.listed.nodes c.args.cache.0 c.args.page.0 c.node_of-node.result c.node_of-node.ensures in
    subst (SameNodes c.args.caches.now) (sym c.set_state.ensures.changed) (with_own_same c.args.caches.now c.node_of-node.result Zero at.0)

pub returns-then-not-is_absent-clause-unclean : goal.returns-then-not-is_absent-clause-unclean
returns-then-not-is_absent-clause-unclean c =
    let at = c.requires.sound.kept.listed.nodes c.args.cache.0 c.args.page.0 c.node_of-node.result c.node_of-node.ensures in
    let some = ap is_absent (sym c.own_state-state.ensures) ∙ sym c.is_absent.ensures.absent ∙ c.if-not-is_absent.true in
    forget_unclean c.args.store.now c.args.caches.now c.requires.sound c.requires.tied c.node_of-node.result at.0 (Live c.args.cache c.args.page) at.1 c.requires.unpinned some
    c.drop_page.new.store c.set_state.new.self c.set_state.ensures.changed
    (λ told size. c.drop_page.ensures.store told size c.set_state.new.self ∙ ap (without_page (world told size c.set_state.new.self c.args.store.now) c.node_of-node.result) c.own_state-state.ensures)

pub returns-then-not-is_absent-clause-count : goal.returns-then-not-is_absent-clause-count
returns-then-not-is_absent-clause-count c =
    let at = c.requires.sound.kept.listed.nodes c.args.cache.0 c.args.page.0 c.node_of-node.result c.node_of-node.ensures in
    ap (λ a. length (own_states a)) c.set_state.ensures.changed ∙ own_length c.args.caches.now c.node_of-node.result Zero at.0

pub returns-else-not-is_absent-clause-rule : goal.returns-else-not-is_absent-clause-rule
returns-else-not-is_absent-clause-rule c =
    let s = c.args.store.now in
    let a = c.args.caches.now in
    let n = c.node_of-node.result in
    let x = Live c.args.cache c.args.page in
    let at = c.requires.sound.kept.listed.nodes c.args.cache.0 c.args.page.0 n c.node_of-node.ensures in
    let none = ap is_absent (sym c.own_state-state.ensures) ∙ sym c.is_absent.ensures.absent ∙ c.if-not-is_absent.false in
    record {
      nodes = absent_nodes s a c.requires.sound c.requires.tied n at.0 x at.1 none;
      forest = λ told size fit. absent_forest s a c.requires.sound c.requires.tied n at.0 x at.1 none told size;
      frames = absent_frames s a c.requires.sound c.requires.tied n at.0 x at.1 none;
    }

pub returns-else-not-is_absent-clause-kept : goal.returns-else-not-is_absent-clause-kept
returns-else-not-is_absent-clause-kept c = kept_none (Live c.args.cache c.args.page ∷ []) c.args.store.now c.args.caches.now c.requires.sound c.requires.tied

pub returns-else-not-is_absent-clause-same : goal.returns-else-not-is_absent-clause-same
returns-else-not-is_absent-clause-same c = same c.args.caches.now

pub returns-else-not-is_absent-clause-unclean : goal.returns-else-not-is_absent-clause-unclean
returns-else-not-is_absent-clause-unclean c =
    let at = c.requires.sound.kept.listed.nodes c.args.cache.0 c.args.page.0 c.node_of-node.result c.node_of-node.ensures in
    let none = ap is_absent (sym c.own_state-state.ensures) ∙ sym c.is_absent.ensures.absent ∙ c.if-not-is_absent.false in
    unclean_named c.args.store.now c.args.caches.now c.requires.sound c.requires.tied c.node_of-node.result at.0 (Live c.args.cache c.args.page) at.1 c.args.caches.now c.requires.sound at.0 at.1
    (absent_unclean c.args.store.now c.args.caches.now c.requires.sound c.requires.tied c.node_of-node.result at.0 (Live c.args.cache c.args.page) at.1 none)
