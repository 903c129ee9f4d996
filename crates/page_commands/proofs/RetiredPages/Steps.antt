-- A step of a retirement, and the store followed.
use Rattle.std.proofs.Common.{◌≡◌, ℕ, ◌+◌, sym, subst, inl, inr, arith}
use Rattle.vm_ids.specs.declared.command.Extent.{Extent}
use Rattle.vm_ids.specs.declared.numbers.CacheId.{CacheId}
use Rattle.vm_ids.specs.Forest.Commands.{page_name}
use Rattle.local_cache.specs.Arena.{Arena}
use Rattle.local_cache.specs.Sound.{IsSound}
use Rattle.residency.specs.declared.store.Store.{Store}
use Rattle.tree_merge.specs.declared.released.Released.TheVariants.{Nothing}
use Rattle.tree_merge.specs.declared.step.Step.{Step}
use Rattle.tree_merge.specs.Copying.{page_after}
use Rattle.tree_merge.specs.Stepping.{IsRetireStep}
use Rattle.page_commands.specs.Following.{CanFollow}
use Rattle.page_commands.specs.Homes.{MayGo}
use Rattle.page_commands.specs.Steps.{IsStoreTied, IsUnpinned}
use Rattle.page_commands.specs.Translating.{DropsFreed}
use Rattle.page_commands.proofs.NodesGone.Elsewhere.{IsFollowed}
use Rattle.page_commands.proofs.RetiredPages.OneFollowed.{one_can, one_retires}
use Rattle.page_commands.proofs.RetiredPages.AllAtOnce.{at_once_follows}
use Rattle.page_commands.proofs.RetiredPages.Parts.{RetiresPages, retires_one}

module _ (s : Store) (a b : Arena) (extent : Extent) (done : ℕ) (step : Step) (is : IsRetireStep a b extent done step) (sound : IsSound a) (tied : IsStoreTied s a)
    (unpinned : IsUnpinned s a (page_name extent.cache (extent.first.0 + done))) (may : MayGo a (page_name extent.cache (extent.first.0 + done))) where
  step_can : CanFollow s b step.released
  step_can = elim is.how [
    | inl many ↦ subst (CanFollow s b) (sym many.0) tt
    | inr one ↦ one_can s a b extent.cache (page_after extent.first done) step.released one.1 sound tied unpinned may
  ]

  step_retires : (t : Store) → IsFollowed s t b step.released → DropsFreed s t → (step.released ≡ Nothing → t ≡ s) → RetiresPages extent.cache (extent.first.0 + done) step.pages s a t b
  step_retires t after tables same = elim is.how [
    | inl many ↦ subst (λ u. RetiresPages extent.cache (extent.first.0 + done) step.pages s a u b) (sym (same many.0)) (at_once_follows s a b extent done step.pages sound tied many.1)
    | inr one ↦ subst (λ k. RetiresPages extent.cache (extent.first.0 + done) k s a t b) (sym one.0)
        (retires_one extent.cache (extent.first.0 + done) s a t b
        (one_retires s a b extent.cache (page_after extent.first done) step.released one.1 sound tied unpinned may t after tables))
  ]

-- The same where the extent is a whole cache

-- all pages of a cache, so many
abbrev all_pages : CacheId → ℕ → Extent
all_pages cache pages = record { cache = cache; first = record { 0 = 0 }; pages = pages }

module _ (s : Store) (a b : Arena) (cache : CacheId) (pages done : ℕ) (step : Step) (is : IsRetireStep a b (all_pages cache pages) done step) (sound : IsSound a) (tied : IsStoreTied s a)
    (unpinned : IsUnpinned s a (page_name cache done)) (may : MayGo a (page_name cache done)) where
  number : 0 + done ≡ done
  number = omega arith

  unpinned_first : IsUnpinned s a (page_name cache (0 + done))
  unpinned_first = subst (λ p. IsUnpinned s a (page_name cache p)) (sym number) unpinned

  may_first : MayGo a (page_name cache (0 + done))
  may_first = subst (λ p. MayGo a (page_name cache p)) (sym number) may

  pub cache_can : CanFollow s b step.released
  cache_can = step_can s a b (all_pages cache pages) done step is sound tied unpinned_first may_first

  pub cache_retires : (t : Store) → IsFollowed s t b step.released → DropsFreed s t → (step.released ≡ Nothing → t ≡ s) → RetiresPages cache done step.pages s a t b
  cache_retires t after tables same = subst (λ p. RetiresPages cache p step.pages s a t b) number
      (step_retires s a b (all_pages cache pages) done step is sound tied unpinned_first may_first t after tables same)
