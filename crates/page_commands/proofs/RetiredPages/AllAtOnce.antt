-- All pages are retired at once: the store is as it was, as it is where they are retired one after
-- the other.
use Rattle.std.proofs.Common.{◌≡◌, ℕ, zero, suc, ◌+◌, sym, subst, arith}
use Rattle.vm_ids.specs.declared.command.Extent.{Extent}
use Rattle.vm_ids.specs.declared.numbers.CacheId.{CacheId}
use Rattle.vm_ids.specs.declared.numbers.PageNo.{PageNo}
use Rattle.vm_ids.specs.Forest.Commands.{page_name}
use Rattle.local_cache.specs.Arena.{Arena}
use Rattle.local_cache.specs.Sound.{IsSound}
use Rattle.residency.specs.declared.store.Store.{Store}
use Rattle.tree_merge.specs.Copying.{page_after}
use Rattle.tree_merge.specs.Stepping.{AreRetiredBare, IsRetiredAtOnce}
use Rattle.page_commands.specs.Steps.{IsStoreTied}
use Rattle.page_commands.proofs.RetiredPages.OnePage.{bare_retires}
use Rattle.page_commands.proofs.RetiredPages.Parts.{RetiresPage, RetiresPages, retires_more, retires_none}

module _ (t : Store) (a : Arena) (cache : CacheId) (page : PageNo) (sound : IsSound a) (tied : IsStoreTied t a) where
  -- so many pages are retired
  abbrev Retired : Arena → ℕ → Type 0
  Retired b k = RetiresPages cache page.0 k t a t b

  one_more : (b e : Arena) (k : ℕ) → Retired b k → RetiresPage (page_name cache (page.0 + k)) t b t e → Retired e (suc k)
  one_more b e k so_far one =
      let more : k + 1 ≡ suc k = omega arith in
      subst (Retired e) more (retires_more cache page.0 k t a t b t e tied so_far one)

  pub all_follow : (k : ℕ) (b : Arena) → AreRetiredBare a b cache page k → Retired b k
  all_follow zero b is = subst (λ x. Retired x 0) (sym is) (retires_none cache page.0 t a sound tied)
  all_follow (suc k) b is =
      let c : Arena = is.0 in
      let so_far : Retired c k = all_follow k c is.1 in
      one_more c b k so_far (bare_retires t c b cache (page_after page k) is.2 so_far.kept.sound so_far.kept.tied)

-- so many pages of an extent, behind those that are done
pub at_once_follows : (t : Store) (a b : Arena) (extent : Extent) (done count : ℕ) → IsSound a → IsStoreTied t a → IsRetiredAtOnce a b extent done count
    → RetiresPages extent.cache (extent.first.0 + done) count t a t b
at_once_follows t a b extent done count sound tied all =
    all_follow t a extent.cache (page_after extent.first done) sound tied count b all.in_turn
