-- All pages of a move are moved at once: the store is as it was, as it is where they are moved one
-- after the other.
use Rattle.std.proofs.Common.{◌≡◌, ℕ, zero, suc, ◌+◌, ◌<◌, ◌≤◌, [], false, ◌∙◌, sym, subst, arith}
use Rattle.vm_ids.specs.declared.command.Span.{Span}
use Rattle.vm_ids.specs.declared.numbers.CacheId.{CacheId}
use Rattle.vm_ids.specs.declared.numbers.PageNo.{PageNo}
use Rattle.vm_ids.specs.Forest.Commands.{page_name}
use Rattle.vm_ids.specs.Forest.Shape.{IsConsistent}
use Rattle.local_cache.specs.Arena.{Arena}
use Rattle.local_cache.specs.Reading.{forest_of}
use Rattle.local_cache.specs.Sound.{IsSound}
use Rattle.residency.specs.declared.store.Store.{Store}
use Rattle.tree_merge.specs.Copying.{page_after}
use Rattle.move_pages.specs.Moved.{AreMovedBare}
use Rattle.move_pages.specs.Moving.{IsMovedAtOnce}
use Rattle.page_commands.specs.Homes.{is_named}
use Rattle.page_commands.specs.Steps.{IsStoreTied, IsUnpinned}
use Rattle.page_commands.proofs.MovedPages.OnePage.{bare_moves}
use Rattle.page_commands.proofs.MovedPages.Parts.{MovesPages, moves_more, moves_none}
use Rattle.page_commands.proofs.TiedStores.Kept.{unpinned_kept}
use Rattle.page_commands.proofs.TiedStores.Named.{named_same}

module _ (t : Store) (a : Arena) (from : CacheId) (from_page : PageNo) (to : CacheId) (to_page : PageNo) (count : ℕ) (sound : IsSound a) (tied : IsStoreTied t a) (consistent : IsConsistent (forest_of a))
    (temporary : is_named a from ≡ false) (out : (k : ℕ) → k < count → IsUnpinned t a (page_name from (from_page.0 + k))) where
  -- so many pages are moved
  abbrev Moved : Arena → ℕ → Type 0
  Moved b k = MovesPages from from_page.0 to to_page.0 k t a t b

  pub all_follow : (k : ℕ) → k ≤ count → (b : Arena) → AreMovedBare a b from from_page to to_page k → Moved b k
  all_follow zero le b is = subst (λ x. Moved x 0) (sym is) (moves_none from from_page.0 to to_page.0 t a sound consistent tied)
  all_follow (suc k) le b is =
      let c : Arena = is.0 in
      let so_far : Moved c k = all_follow k (omega arith) c is.1 in
      let more : k + 1 ≡ suc k = omega arith in
      subst (Moved b) more
      (moves_more from from_page.0 to to_page.0 k t a t c t b tied so_far
      (bare_moves t c b from (page_after from_page k) to (page_after to_page k) is.2 so_far.kept.sound so_far.kept.tied so_far.grows.consistent
      (unpinned_kept [] t a t c tied so_far.kept (page_name from (from_page.0 + k)) (out k (omega arith)))
      (named_same a c so_far.kept.sizes from ∙ temporary)))

-- so many pages of a span, behind those that are done
pub at_once_follows : (t : Store) (a b : Arena) (span : Span) (done count : ℕ) → IsSound a → IsStoreTied t a → IsConsistent (forest_of a) → is_named a span.from ≡ false
    → ((k : ℕ) → k < count → IsUnpinned t a (page_name span.from (span.from_page.0 + done + k)))
    → IsMovedAtOnce a b span done count → MovesPages span.from (span.from_page.0 + done) span.to (span.to_page.0 + done) count t a t b
at_once_follows t a b span done count sound tied consistent temporary out all =
    all_follow t a span.from (page_after span.from_page done) span.to (page_after span.to_page done) count sound tied consistent temporary out count (omega arith) b all.in_turn
