-- A step of a copy, and the store followed.
use Rattle.std.proofs.Common.{◌≡◌, ℕ, ◌+◌, Bool, leb, sym, subst, inl, inr}
use Rattle.vm_ids.specs.declared.command.Span.{Span}
use Rattle.vm_ids.specs.Forest.Commands.{page_name, small_copy}
use Rattle.vm_ids.specs.Forest.Laws.Linking.{ArePages}
use Rattle.vm_ids.specs.Forest.Shape.{IsConsistent}
use Rattle.local_cache.specs.Arena.{Arena}
use Rattle.local_cache.specs.Reading.{forest_of}
use Rattle.local_cache.specs.Sound.{IsSound}
use Rattle.residency.specs.declared.store.Store.{Store}
use Rattle.tree_merge.specs.declared.released.Released.TheVariants.{Nothing}
use Rattle.tree_merge.specs.declared.step.Step.{Step}
use Rattle.tree_merge.specs.Copying.{page_after}
use Rattle.tree_merge.specs.Stepping.{IsCopyStep}
use Rattle.page_commands.specs.Following.{CanFollow}
use Rattle.page_commands.specs.Homes.{IsUnclean}
use Rattle.page_commands.specs.Steps.{IsStoreTied, IsUnpinned}
use Rattle.page_commands.specs.Translating.{DropsFreed}
use Rattle.page_commands.proofs.CopiedPages.OneFollowed.{copied_can, one_copies}
use Rattle.page_commands.proofs.CopiedPages.AllAtOnce.{at_once_follows}
use Rattle.page_commands.proofs.CopiedPages.Parts.{CopiesPages, copies_one}
use Rattle.page_commands.proofs.NodesGone.Elsewhere.{IsFollowed}

module _ (s : Store) (a b : Arena) (span : Span) (done : ℕ) (step : Step) (is : IsCopyStep a b span done step) (sound : IsSound a) (tied : IsStoreTied s a)
    (unpinned : IsUnpinned s a (page_name span.to (span.to_page.0 + done))) (unclean : IsUnclean a (page_name span.to (span.to_page.0 + done))) where
  -- so many pages from the next one on are copied
  abbrev Copied : Bool → Store → ℕ → Type 0
  Copied is_small t count = CopiesPages is_small span.from (span.from_page.0 + done) span.to (span.to_page.0 + done) count s a t b

  pub step_can : CanFollow s b step.released
  step_can = elim is.how [
    | inl many ↦ subst (CanFollow s b) (sym many.0) tt
    | inr one ↦ copied_can s a b (leb span.pages small_copy) span.to (page_after span.to_page done) span.from (page_after span.from_page done) step.released one.1 sound tied unpinned unclean
  ]

  pub step_copies : (t : Store) → IsFollowed s t b step.released → DropsFreed s t → (step.released ≡ Nothing → t ≡ s) → IsConsistent (forest_of a)
      → ArePages (forest_of a) (page_name span.to (span.to_page.0 + done)) (page_name span.from (span.from_page.0 + done))
      → CopiesPages (leb span.pages small_copy) span.from (span.from_page.0 + done) span.to (span.to_page.0 + done) step.pages s a t b
  step_copies t after tables same consistent pages = elim is.how [
    | inl many ↦ subst (λ u. Copied (leb span.pages small_copy) u step.pages) (sym (same many.0))
        (subst (λ k. Copied k s step.pages) (sym many.1) (at_once_follows s a b span done step.pages sound tied consistent many.2))
    | inr one ↦ subst (Copied (leb span.pages small_copy) t) (sym one.0)
        (copies_one (leb span.pages small_copy) span.from (span.from_page.0 + done) span.to (span.to_page.0 + done) s a t b
        (one_copies s a b (leb span.pages small_copy) span.to (page_after span.to_page done) span.from (page_after span.from_page done) step.released one.1 sound tied unpinned unclean t after tables consistent pages))
  ]
