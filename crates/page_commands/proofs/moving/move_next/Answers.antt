use Rattle.std.proofs.Common.{◌≡◌, ℕ, ◌+◌, ◌<◌, Option, sym, subst, arith, inl, inr}
use Rattle.vm_ids.specs.Held.{Held}
use Rattle.vm_ids.specs.Forest.Commands.{move_pages, page_name, page_pairs}
use Rattle.vm_ids.proofs.Forest.Pairs.{move_now}
use Rattle.local_cache.specs.declared.own_state.OwnState.TheVariants.{Zero}
use Rattle.local_cache.specs.Reading.{forest_of}
use Rattle.residency.specs.World.{world}
use Rattle.tree_merge.specs.declared.released.Released.{Released}
use Rattle.page_commands.specs.Following.{CanFollow, followed}
use Rattle.page_commands.specs.Steps.{IsUnpinned}
use Rattle.page_commands.proofs.NamedNodes.Moved.{move_can}
use Rattle.page_commands.proofs.MovedPages.OnePage.{page_moves}
use Rattle.page_commands.proofs.MovedPages.AllAtOnce.{at_once_follows}
use Rattle.page_commands.proofs.MovedPages.Parts.{MovesPages, moves_one, moves_still}
use Rattle.page_commands.proofs.CommandSteps.Ranges.{is_destination, is_source}
use Rattle.page_commands.proofs.moving.move_next.Goals as goal

pub follow-requires : goal.follow-requires
follow-requires c =
    let s = c.args.span in
    let k = c.args.done in
    let step = c.move_step-step in
    let a = c.args.caches.now in
    elim step.ensures.moved [
      | inl all ↦ subst (CanFollow c.args.store.now step.new.caches) (sym all.1) tt
      | inr one ↦
          let to = page_name s.to (s.to_page.0 + k) in
          move_can c.args.store.now a c.requires.sound c.requires.tied s.from (record { 0 = s.from_page.0 + k }) s.to (record { 0 = s.to_page.0 + k })
          (c.requires.unpinned to (is_destination s k c.requires.done)) (c.requires.unclean to (is_destination s k c.requires.done))
          step.result.released step.new.caches one.1
    ]

-- what the step does, and the store behind it
moves : (c : goal.After-follow) → MovesPages c.args.span.from (c.args.span.from_page.0 + c.args.done) c.args.span.to (c.args.span.to_page.0 + c.args.done) c.move_step-step.result.pages
    c.args.store.now c.args.caches.now c.follow.new.store c.move_step-step.new.caches
moves c =
    let s = c.args.span in
    let k = c.args.done in
    let step = c.move_step-step in
    let a = c.args.caches.now in
    let b = step.new.caches in
    let before = c.args.store.now in
    let after = c.follow.new.store in
    elim step.ensures.moved [
      | inl all ↦
          let same : (told : Option Held) (size : Option ℕ) → world told size b after ≡ world told size b before =
          λ told size. subst (λ (r : Released). world told size b after ≡ followed (world told size b before) r) all.1 (c.follow.ensures.store told size) in
          let out : (i : ℕ) → i < step.result.pages → IsUnpinned before a (page_name s.from (s.from_page.0 + k + i)) =
          λ i low.
          let number : s.from_page.0 + (k + i) ≡ s.from_page.0 + k + i = omega arith in
          subst (λ p. IsUnpinned before a (page_name s.from p)) number (c.requires.sources _ (is_source s (k + i) (omega (arith, low, step.ensures.few)))) in
          moves_still s.from (s.from_page.0 + k) s.to (s.to_page.0 + k) step.result.pages before a b after c.requires.tied
          (at_once_follows before a b s k step.result.pages c.requires.sound c.requires.tied c.requires.consistent c.requires.temporary out all.0) same c.follow.ensures.tables
      | inr one ↦
          let to = page_name s.to (s.to_page.0 + k) in
          let from = page_name s.from (s.from_page.0 + k) in
          let pages = move_now Zero (forest_of a) s.from s.from_page.0 s.to s.to_page.0 s.pages k c.requires.done c.requires.consistent c.requires.can in
          let forest = subst (λ n. forest_of b ≡ move_pages Zero (page_pairs s.from (s.from_page.0 + k) s.to (s.to_page.0 + k) n) (forest_of a)) one.0 step.ensures.forest in
          subst (λ n. MovesPages s.from (s.from_page.0 + k) s.to (s.to_page.0 + k) n before a after b) (sym one.0)
          (moves_one s.from (s.from_page.0 + k) s.to (s.to_page.0 + k) before a after b
          (page_moves before a c.requires.sound c.requires.tied s.from (record { 0 = s.from_page.0 + k }) s.to (record { 0 = s.to_page.0 + k })
          (c.requires.unpinned to (is_destination s k c.requires.done)) (c.requires.unclean to (is_destination s k c.requires.done))
          (c.requires.sources from (is_source s k c.requires.done)) c.requires.temporary
          step.result.released b one.1 c.requires.consistent pages forest step.ensures.sound (omega (arith, one.0, step.ensures.room))
          after c.follow.ensures.store c.follow.ensures.tables))
    ]

pub returns-clause-rule : goal.returns-clause-rule
returns-clause-rule c = (moves c).rule

pub returns-clause-kept : goal.returns-clause-kept
returns-clause-kept c = (moves c).kept

pub returns-clause-grows : goal.returns-clause-grows
returns-clause-grows c = (moves c).grows
