use Rattle.std.proofs.Common.{rules, ◌+◌, ◌-◌, ◌≤◌, sym, ap, ◌∙◌, subst, refl, inl, inr, arith}
use Rattle.vm_ids.specs.Forest.Commands.{page_name}
use Rattle.vm_ids.specs.Forest.Laws.Linking.{ArePages}
use Rattle.vm_ids.specs.Forest.Rules.{move_page}
use Rattle.vm_ids.specs.Forest.Shape.{IsConsistent}
use Rattle.vm_ids.proofs.Forest.Pairs.{move_now}
use Rattle.local_cache.specs.declared.own_state.OwnState.TheVariants.{Zero}
use Rattle.local_cache.specs.Arena.{Arena}
use Rattle.local_cache.specs.Reading.{forest_of}
use Rattle.local_cache.specs.Sound.{IsSound}
use Rattle.local_cache.specs.Whole.{SameCaches}
use Rattle.tree_merge.specs.Copying.{page_after}
use Rattle.tree_merge.proofs.CopiedPages.AtOnce.{destination_there, source_there}
use Rattle.move_pages.specs.Moved.{IsMoved}
use Rattle.move_pages.specs.Moving.{AreMoved, CanMoveMany, part_of}
use Rattle.move_pages.proofs.MovedPages.AtOnce.{can_move}
use Rattle.move_pages.proofs.step.move_step.Goals as goal

pub node_of-node-requires : goal.node_of-node-requires
node_of-node-requires c =
    let s = c.args.span in
    let r = c.requires in
    destination_there c.args.caches.now r.sound s.to s.from (s.to_page.0 + c.args.done) (s.from_page.0 + c.args.done) (s.pages - c.args.done) r.can (omega (arith, r.done))

pub node_of-source-requires : goal.node_of-source-requires
node_of-source-requires c =
    let s = c.args.span in
    let r = c.requires in
    source_there c.args.caches.now r.sound s.to s.from (s.to_page.0 + c.args.done) (s.from_page.0 + c.args.done) (s.pages - c.args.done) r.can (omega (arith, r.done))

pub moved_at_once-pages-requires-clause-node : goal.moved_at_once-pages-requires-clause-node
moved_at_once-pages-requires-clause-node c =
    (c.requires.sound.kept.listed.nodes c.args.span.to.0 (c.args.span.to_page.0 + c.args.done) c.node_of-node.result c.node_of-node.ensures).0

pub moved_at_once-pages-requires-clause-source : goal.moved_at_once-pages-requires-clause-source
moved_at_once-pages-requires-clause-source c =
    (c.requires.sound.kept.listed.nodes c.args.span.from.0 (c.args.span.from_page.0 + c.args.done) c.node_of-source.result c.node_of-source.ensures).0

-- Many are moved at once.

pub move_alike-requires-clause-can : goal.move_alike-requires-clause-can
move_alike-requires-clause-can c =
    let s = c.args.span in
    let k = c.args.done in
    let many = c.moved_at_once-pages in
    let part = part_of s k many.result in
    let can = can_move c.args.caches.now c.requires.sound s k c.requires.can c.node_of-node.result c.node_of-source.result c.node_of-node.ensures c.node_of-source.ensures many.result
    (many.ensures.leaves (omega (arith, c.if-pages-gt1.true))) (many.ensures.alike (omega (arith, c.if-pages-gt1.true))) c.requires.consistent many.ensures.most in
    (part, refl, subst (λ (x : Arena). CanMoveMany x c.node_of-node.result c.node_of-source.result part) (sym many.ensures.same) can)

pub returns-then-pages-gt1 : goal.returns-then-pages-gt1
returns-then-pages-gt1 c =
    let s = c.args.span in
    let k = c.args.done in
    let many = c.moved_at_once-pages in
    let part = part_of s k many.result in
    let can = can_move c.args.caches.now c.requires.sound s k c.requires.can c.node_of-node.result c.node_of-source.result c.node_of-node.ensures c.node_of-source.ensures many.result
    (many.ensures.leaves (omega (arith, c.if-pages-gt1.true))) (many.ensures.alike (omega (arith, c.if-pages-gt1.true))) c.requires.consistent many.ensures.most in
    let all = subst (λ (x : Arena). AreMoved x c.move_alike.new.caches part) many.ensures.same
    (c.move_alike.ensures part refl (subst (λ (x : Arena). CanMoveMany x c.node_of-node.result c.node_of-source.result part) (sym many.ensures.same) can)) in
    record {
      some = search rules;
      few = search rules;
      forest = all.forest;
      sound = all.sound;
      consistent = all.consistent;
      moved = inl (all, refl);
      sizes = all.sizes;
      room = all.room;
    }

-- One is moved alone.

pub move_one-released-requires-clause-sound : goal.move_one-released-requires-clause-sound
move_one-released-requires-clause-sound c = subst IsSound (sym c.moved_at_once-pages.ensures.same) c.requires.sound

pub move_one-released-requires-clause-consistent : goal.move_one-released-requires-clause-consistent
move_one-released-requires-clause-consistent c = subst (λ (x : Arena). IsConsistent (forest_of x)) (sym c.moved_at_once-pages.ensures.same) c.requires.consistent

pub move_one-released-requires-clause-pages : goal.move_one-released-requires-clause-pages
move_one-released-requires-clause-pages c =
    let s = c.args.span in
    let k = c.args.done in
    subst (λ (x : Arena). ArePages (forest_of x) (page_name s.to (s.to_page.0 + k)) (page_name s.from (s.from_page.0 + k))) (sym c.moved_at_once-pages.ensures.same)
    (move_now Zero (forest_of c.args.caches.now) s.from s.from_page.0 s.to s.to_page.0 s.pages k c.requires.done c.requires.consistent c.requires.can)

pub move_one-released-requires-clause-room : goal.move_one-released-requires-clause-room
move_one-released-requires-clause-room c = omega (arith, ap (λ (x : Arena). x.room.nodes) c.moved_at_once-pages.ensures.same, c.requires.room)

pub move_one-released-requires-clause-made : goal.move_one-released-requires-clause-made
move_one-released-requires-clause-made c = omega (arith, ap (λ (x : Arena). x.made) c.moved_at_once-pages.ensures.same, c.requires.made)

pub returns-else-pages-gt1 : goal.returns-else-pages-gt1
returns-else-pages-gt1 c =
    let s = c.args.span in
    let k = c.args.done in
    let same = c.moved_at_once-pages.ensures.same in
    let r = c.move_one-released in
    let one = r.ensures in
    record {
      some = search rules;
      few = search rules;
      forest = one.forest ∙ ap (λ (x : Arena). move_page (forest_of x) (page_name s.to (s.to_page.0 + k)) (page_name s.from (s.from_page.0 + k)) Zero) same;
      sound = one.sound;
      consistent = one.consistent;
      moved = inr (refl, subst (λ (x : Arena). IsMoved x r.new.caches s.from (page_after s.from_page k) s.to (page_after s.to_page k) r.result) same one.moved);
      sizes = subst (λ (x : Arena). SameCaches x r.new.caches) same one.sizes;
      room = subst (λ (x : Arena). x.room.nodes ≤ r.new.caches.room.nodes + 1) same one.room;
    }
