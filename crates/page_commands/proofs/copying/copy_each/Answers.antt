use Rattle.std.proofs.Common.{◌≡◌, ◌*◌, leb, subst, arith}
use Rattle.vm_ids.specs.Forest.Commands.{firsts, small_copy, span_pairs}
use Rattle.page_commands.specs.Commands.{Grows}
use Rattle.page_commands.proofs.CopiedPages.Parts.{CopiesPages, copies_none, copies_then, left_can, left_unclean, left_unpinned}
use Rattle.page_commands.proofs.copying.copy_each.Goals as goal

pub loop-done-init : goal.loop-done-init
loop-done-init c =
    let s = c.args.span in
    let retire = c.requires.retire in
    record {
      copied = copies_none (leb s.pages small_copy) s.from s.from_page.0 s.to s.to_page.0 c.args.store.now c.args.caches.now retire.whole.sound retire.whole.consistent retire.tied;
      few = omega arith;
    }

pub copy_next-done-requires-clause-can : goal.copy_next-done-requires-clause-can
copy_next-done-requires-clause-can c =
    let s = c.args.span in
    let i = c.loop-done.invariant in
    left_can (leb s.pages small_copy) s.from s.from_page.0 s.to s.to_page.0 c.loop-done.done c.args.store.now c.args.caches.now c.loop-done.store c.loop-done.caches i.copied s.pages i.few c.requires.can

pub copy_next-done-requires-clause-unpinned : goal.copy_next-done-requires-clause-unpinned
copy_next-done-requires-clause-unpinned c =
    let s = c.args.span in
    left_unpinned (leb s.pages small_copy) s.from s.from_page.0 s.to s.to_page.0 c.loop-done.done c.args.store.now c.args.caches.now c.loop-done.store c.loop-done.caches c.loop-done.invariant.copied
    (firsts (span_pairs s)) c.requires.retire.tied c.requires.retire.unpinned

pub copy_next-done-requires-clause-unclean : goal.copy_next-done-requires-clause-unclean
copy_next-done-requires-clause-unclean c =
    let s = c.args.span in
    left_unclean (leb s.pages small_copy) s.from s.from_page.0 s.to s.to_page.0 c.loop-done.done c.args.store.now c.args.caches.now c.loop-done.store c.loop-done.caches c.loop-done.invariant.copied
    (firsts (span_pairs s)) c.requires.retire.tied c.requires.unclean

pub copy_next-done-requires-clause-room : goal.copy_next-done-requires-clause-room
copy_next-done-requires-clause-room c =
    let i = c.loop-done.invariant in
    record { room = omega (arith, i.few, i.copied.grows.room, c.requires.room.room); few = omega (arith, i.few, i.copied.grows.few, c.requires.room.few) }

pub loop-done-preserved : goal.loop-done-preserved
loop-done-preserved c =
    let s = c.args.span in
    let i = c.loop-done.invariant in
    let e = c.copy_next-done.ensures in
    record {
      copied =
          copies_then (leb s.pages small_copy) s.from s.from_page.0 s.to s.to_page.0 c.loop-done.done c.copy_next-done.result c.args.store.now c.args.caches.now c.loop-done.store c.loop-done.caches c.copy_next-done.new.store c.copy_next-done.new.caches
          c.requires.retire.tied i.copied (record { rule = e.rule; kept = e.kept; grows = e.grows });
      few = e.few;
    }

pub returns-clause-rule : goal.returns-clause-rule
returns-clause-rule c =
    let s = c.args.span in
    let i = c.loop-done.invariant in
    let all : c.loop-done.done ≡ s.pages = omega (arith, c.loop-done-test.false, i.few) in
    (subst (λ k. CopiesPages (leb s.pages small_copy) s.from s.from_page.0 s.to s.to_page.0 k c.args.store.now c.args.caches.now c.loop-done.store c.loop-done.caches) all i.copied).rule

pub returns-clause-grows : goal.returns-clause-grows
returns-clause-grows c =
    let i = c.loop-done.invariant in
    let all : c.loop-done.done ≡ c.args.span.pages = omega (arith, c.loop-done-test.false, i.few) in
    subst (λ k. Grows (2 * k) c.args.caches.now c.loop-done.caches) all i.copied.grows
