use Rattle.std.proofs.Common.{◌≡◌, ◌*◌, ◌<◌, ◌≤◌, ◌^◌, true, refl, sym, ap, subst, ◌∙◌}
use Rattle.vm_ids.specs.Forest.Nodes.{is_live}
use Rattle.local_cache.specs.declared.own_state.OwnState.{OwnState}
use Rattle.local_cache.specs.Arena.{Arena, HasNode}
use Rattle.local_cache.specs.Reading.{name_of}
use Rattle.local_cache.specs.Sound.{IsSound}
use Rattle.tree_merge.specs.declared.released.Released.TheVariants.{Dropped}
use Rattle.tree_merge.specs.Stepping.{IsDetachedAlone}
use Rattle.tree_merge.proofs.Leaving.Left.{leaf_detached, leaf_page}
use Rattle.tree_merge.proofs.Merge.AtOnce.{parent_held}
use Rattle.tree_merge.proofs.retiring.renew_node.Goals as goal

pub renew_leaf-requires-clause-parent : goal.renew_leaf-requires-clause-parent
renew_leaf-requires-clause-parent c = parent_held c.args.caches.now c.requires.sound c.args.node c.requires.held _ refl

pub returns-in-Some-clause-alone : goal.returns-in-Some-clause-alone
returns-in-Some-clause-alone c = λ cache page named.
    let r = c.requires in
    let e = c.in-Some.ensures in
    subst (λ (s : OwnState). IsDetachedAlone c.args.caches.now c.renew_leaf.new.self cache page c.args.state (Dropped c.args.node s)) (sym e.own)
    (leaf_detached c.args.caches.now r.sound c.args.node r.held (e.leaf.0 refl) cache page named c.args.state c.renew_leaf.new.self e.changed)

pub returns-in-Some-clause-page : goal.returns-in-Some-clause-page
returns-in-Some-clause-page c = λ cache page named.
    let r = c.requires in
    leaf_page c.args.caches.now r.sound c.args.node r.held (c.in-Some.ensures.leaf.0 refl) cache page named c.args.state c.renew_leaf.new.self c.in-Some.ensures.changed

-- It isn't such a leaf: the caches are as they were.

pub renew_other-requires-clause-sound : goal.renew_other-requires-clause-sound
renew_other-requires-clause-sound c = subst IsSound (sym c.in-None.ensures.changed) c.requires.sound

pub renew_other-requires-clause-held : goal.renew_other-requires-clause-held
renew_other-requires-clause-held c = subst (λ (b : Arena). HasNode b c.args.node) (sym c.in-None.ensures.changed) c.requires.held

pub renew_other-requires-clause-live : goal.renew_other-requires-clause-live
renew_other-requires-clause-live c = subst (λ (b : Arena). is_live (name_of b c.args.node) ≡ true) (sym c.in-None.ensures.changed) c.requires.live

pub renew_other-requires-clause-room : goal.renew_other-requires-clause-room
renew_other-requires-clause-room c = subst (λ (b : Arena). 1 ≤ b.room.nodes) (sym c.in-None.ensures.changed) c.requires.room

pub renew_other-requires-clause-made : goal.renew_other-requires-clause-made
renew_other-requires-clause-made c = subst (λ (b : Arena). b.made < 3 * 2 ^ 61) (sym c.in-None.ensures.changed) c.requires.made

pub returns-in-None-clause-alone : goal.returns-in-None-clause-alone
returns-in-None-clause-alone c = λ cache page named.
    let same = c.in-None.ensures.changed in
    subst (λ (b : Arena). IsDetachedAlone b c.renew_other.new.caches cache page c.args.state c.renew_other.result.0) same
    (c.renew_other.ensures.alone cache page (ap (λ (b : Arena). name_of b c.args.node) same ∙ named))

pub returns-in-None-clause-page : goal.returns-in-None-clause-page
returns-in-None-clause-page c = λ cache page named.
    c.renew_other.ensures.page cache page (ap (λ (b : Arena). name_of b c.args.node) c.in-None.ensures.changed ∙ named)
