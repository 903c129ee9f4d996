use Rattle.std.proofs.Common.{◌≡◌, [], ◌∙◌, subst, arith}
use Rattle.page_commands.specs.Commands.{Grows}
use Rattle.page_commands.proofs.MovedPages.Parts.{MovesPages, left_can, moves_none, moves_then}
use Rattle.page_commands.proofs.TiedStores.Kept.{unclean_kept, unpinned_kept}
use Rattle.page_commands.proofs.TiedStores.Named.{named_same}
use Rattle.page_commands.proofs.moving.move_each.Goals as goal

pub loop-done-init : goal.loop-done-init
loop-done-init c =
    let s = c.args.span in
    let whole = c.requires.retire.whole in
    record {
      moved = moves_none s.from s.from_page.0 s.to s.to_page.0 c.args.store.now c.args.caches.now whole.sound whole.consistent c.requires.retire.tied;
      few = omega arith;
    }

pub move_next-done-requires-clause-can : goal.move_next-done-requires-clause-can
move_next-done-requires-clause-can c =
    let s = c.args.span in
    let i = c.loop-done.invariant in
    left_can s.from s.from_page.0 s.to s.to_page.0 c.loop-done.done s.pages c.args.store.now c.args.caches.now c.loop-done.store c.loop-done.caches i.moved i.few c.requires.can

pub move_next-done-requires-clause-temporary : goal.move_next-done-requires-clause-temporary
move_next-done-requires-clause-temporary c =
    named_same c.args.caches.now c.loop-done.caches c.loop-done.invariant.moved.kept.sizes c.args.span.from ∙ c.requires.temporary

pub move_next-done-requires-clause-sources : goal.move_next-done-requires-clause-sources
move_next-done-requires-clause-sources c = λ x i.
    unpinned_kept [] c.args.store.now c.args.caches.now c.loop-done.store c.loop-done.caches c.requires.retire.tied c.loop-done.invariant.moved.kept x (c.requires.sources x i)

pub move_next-done-requires-clause-unpinned : goal.move_next-done-requires-clause-unpinned
move_next-done-requires-clause-unpinned c = λ x i.
    unpinned_kept [] c.args.store.now c.args.caches.now c.loop-done.store c.loop-done.caches c.requires.retire.tied c.loop-done.invariant.moved.kept x (c.requires.retire.unpinned x i)

pub move_next-done-requires-clause-unclean : goal.move_next-done-requires-clause-unclean
move_next-done-requires-clause-unclean c = λ x i.
    unclean_kept [] c.args.store.now c.args.caches.now c.loop-done.store c.loop-done.caches c.requires.retire.tied c.loop-done.invariant.moved.kept x (λ j. j) (c.requires.unclean x i)

pub move_next-done-requires-clause-room : goal.move_next-done-requires-clause-room
move_next-done-requires-clause-room c =
    let i = c.loop-done.invariant in
    omega (arith, c.loop-done-test.true, i.moved.grows.room, c.requires.room)

pub move_next-done-requires-clause-made : goal.move_next-done-requires-clause-made
move_next-done-requires-clause-made c =
    let i = c.loop-done.invariant in
    omega (arith, c.loop-done-test.true, i.moved.grows.made, c.requires.retire.made)

pub loop-done-preserved : goal.loop-done-preserved
loop-done-preserved c =
    let s = c.args.span in
    let i = c.loop-done.invariant in
    let e = c.move_next-done.ensures in
    record {
      moved =
          moves_then s.from s.from_page.0 s.to s.to_page.0 c.loop-done.done c.move_next-done.result c.args.store.now c.args.caches.now c.loop-done.store c.loop-done.caches c.move_next-done.new.store c.move_next-done.new.caches
          c.requires.retire.tied i.moved (record { rule = e.rule; kept = e.kept; grows = e.grows });
      few = e.few;
    }

pub returns-clause-rule : goal.returns-clause-rule
returns-clause-rule c =
    let s = c.args.span in
    let i = c.loop-done.invariant in
    let all : c.loop-done.done ≡ s.pages = omega (arith, c.loop-done-test.false, i.few) in
    (subst (λ k. MovesPages s.from s.from_page.0 s.to s.to_page.0 k c.args.store.now c.args.caches.now c.loop-done.store c.loop-done.caches) all i.moved).rule

pub returns-clause-grows : goal.returns-clause-grows
returns-clause-grows c =
    let i = c.loop-done.invariant in
    let all : c.loop-done.done ≡ c.args.span.pages = omega (arith, c.loop-done-test.false, i.few) in
    subst (λ k. Grows k c.args.caches.now c.loop-done.caches) all i.moved.grows
