use Rattle.std.proofs.Common.{sym, subst, arith}
use Rattle.local_cache.specs.Reading.{name_of}
use Rattle.tree_merge.specs.Stepping.{IsHung}
use Rattle.tree_merge.proofs.PagesAlone.Hung.{hung_alone, renewed_apart, renewed_bare, renewed_held, renewed_made, renewed_room, renewed_sound, source_held, source_live}
use Rattle.tree_merge.proofs.stepping.copy_alone.Goals as goal

pub add_stub-requires-clause-sound : goal.add_stub-requires-clause-sound
add_stub-requires-clause-sound c =
    renewed_sound c.args.caches.now c.renew_node-released.new.caches c.requires.sound c.requires.consistent c.args.node c.args.source c.requires.source c.renew_node-released.result.1 c.renew_node-released.result.0 c.requires.pages c.renew_node-released.ensures.alone c.renew_node-released.ensures.page

pub add_stub-requires-clause-d : goal.add_stub-requires-clause-d
add_stub-requires-clause-d c =
    renewed_held c.args.caches.now c.renew_node-released.new.caches c.requires.sound c.requires.consistent c.args.node c.args.source c.requires.source c.renew_node-released.result.1 c.renew_node-released.result.0 c.requires.pages c.renew_node-released.ensures.alone c.renew_node-released.ensures.page

pub add_stub-requires-clause-s : goal.add_stub-requires-clause-s
add_stub-requires-clause-s c =
    source_held c.args.caches.now c.renew_node-released.new.caches c.requires.sound c.requires.consistent c.args.node c.args.source c.requires.source c.renew_node-released.result.1 c.renew_node-released.result.0 c.requires.pages c.renew_node-released.ensures.alone c.renew_node-released.ensures.page

pub add_stub-requires-clause-bare : goal.add_stub-requires-clause-bare
add_stub-requires-clause-bare c =
    renewed_bare c.args.caches.now c.renew_node-released.new.caches c.requires.sound c.requires.consistent c.args.node c.args.source c.requires.source c.renew_node-released.result.1 c.renew_node-released.result.0 c.requires.pages c.renew_node-released.ensures.alone c.renew_node-released.ensures.page

pub add_stub-requires-clause-apart : goal.add_stub-requires-clause-apart
add_stub-requires-clause-apart c =
    renewed_apart c.args.caches.now c.renew_node-released.new.caches c.requires.sound c.requires.consistent c.args.node c.args.source c.requires.source c.renew_node-released.result.1 c.renew_node-released.result.0 c.requires.pages c.renew_node-released.ensures.alone c.renew_node-released.ensures.page

pub link-requires-clause-sound : goal.link-requires-clause-sound
link-requires-clause-sound c =
    renewed_sound c.args.caches.now c.renew_node-released.new.caches c.requires.sound c.requires.consistent c.args.node c.args.source c.requires.source c.renew_node-released.result.1 c.renew_node-released.result.0 c.requires.pages c.renew_node-released.ensures.alone c.renew_node-released.ensures.page

pub link-requires-clause-d : goal.link-requires-clause-d
link-requires-clause-d c =
    renewed_held c.args.caches.now c.renew_node-released.new.caches c.requires.sound c.requires.consistent c.args.node c.args.source c.requires.source c.renew_node-released.result.1 c.renew_node-released.result.0 c.requires.pages c.renew_node-released.ensures.alone c.renew_node-released.ensures.page

pub link-requires-clause-s : goal.link-requires-clause-s
link-requires-clause-s c =
    source_held c.args.caches.now c.renew_node-released.new.caches c.requires.sound c.requires.consistent c.args.node c.args.source c.requires.source c.renew_node-released.result.1 c.renew_node-released.result.0 c.requires.pages c.renew_node-released.ensures.alone c.renew_node-released.ensures.page

pub link-requires-clause-bare : goal.link-requires-clause-bare
link-requires-clause-bare c =
    renewed_bare c.args.caches.now c.renew_node-released.new.caches c.requires.sound c.requires.consistent c.args.node c.args.source c.requires.source c.renew_node-released.result.1 c.renew_node-released.result.0 c.requires.pages c.renew_node-released.ensures.alone c.renew_node-released.ensures.page

pub link-requires-clause-apart : goal.link-requires-clause-apart
link-requires-clause-apart c =
    renewed_apart c.args.caches.now c.renew_node-released.new.caches c.requires.sound c.requires.consistent c.args.node c.args.source c.requires.source c.renew_node-released.result.1 c.renew_node-released.result.0 c.requires.pages c.renew_node-released.ensures.alone c.renew_node-released.ensures.page

pub link-requires-clause-live : goal.link-requires-clause-live
link-requires-clause-live c =
    source_live c.args.caches.now c.renew_node-released.new.caches c.requires.sound c.requires.consistent c.args.node c.args.source c.requires.source c.renew_node-released.result.1 c.renew_node-released.result.0 c.requires.pages c.renew_node-released.ensures.alone c.renew_node-released.ensures.page

pub link-requires-clause-room : goal.link-requires-clause-room
link-requires-clause-room c =
    let room = renewed_room c.args.caches.now c.renew_node-released.new.caches c.requires.sound c.requires.consistent c.args.node c.args.source c.requires.source c.renew_node-released.result.1 c.renew_node-released.result.0 c.requires.pages c.renew_node-released.ensures.alone c.renew_node-released.ensures.page in
    omega (arith, room, c.requires.room)

pub link-requires-clause-made : goal.link-requires-clause-made
link-requires-clause-made c =
    let most = renewed_made c.args.caches.now c.renew_node-released.new.caches c.requires.sound c.requires.consistent c.args.node c.args.source c.requires.source c.renew_node-released.result.1 c.renew_node-released.result.0 c.requires.pages c.renew_node-released.ensures.alone c.renew_node-released.ensures.page in
    omega (arith, most, c.requires.made)

pub returns-then-is_small : goal.returns-then-is_small
returns-then-is_small c =
    let b = c.renew_node-released.new.caches in
    let s = c.add_stub.ensures in
    hung_alone c.args.caches.now c.renew_node-released.new.caches c.requires.sound c.requires.consistent c.args.node c.args.source c.requires.source c.renew_node-released.result.1 c.renew_node-released.result.0 c.requires.pages c.renew_node-released.ensures.alone c.renew_node-released.ensures.page
    c.args.is_small c.add_stub.new.caches
    (subst (λ t. IsHung t b c.add_stub.new.caches (name_of b c.renew_node-released.result.1) (name_of b c.args.source)) (sym c.if-is_small.true) (s.forest, s.links, s.room)) s.sound

pub returns-else-is_small : goal.returns-else-is_small
returns-else-is_small c =
    let b = c.renew_node-released.new.caches in
    let l = c.link.ensures in
    hung_alone c.args.caches.now c.renew_node-released.new.caches c.requires.sound c.requires.consistent c.args.node c.args.source c.requires.source c.renew_node-released.result.1 c.renew_node-released.result.0 c.requires.pages c.renew_node-released.ensures.alone c.renew_node-released.ensures.page
    c.args.is_small c.link.new.caches
    (subst (λ t. IsHung t b c.link.new.caches (name_of b c.renew_node-released.result.1) (name_of b c.args.source)) (sym c.if-is_small.false) (l.forest, l.grown)) l.sound
