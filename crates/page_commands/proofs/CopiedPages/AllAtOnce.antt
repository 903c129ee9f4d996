-- All pages of a copy are copied at once: the store is as it was, as it is where they are copied
-- one after the other.
use Rattle.std.proofs.Common.{◌≡◌, ℕ, zero, suc, ◌+◌, false, sym, subst, arith}
use Rattle.vm_ids.specs.declared.command.Span.{Span}
use Rattle.vm_ids.specs.declared.numbers.CacheId.{CacheId}
use Rattle.vm_ids.specs.declared.numbers.PageNo.{PageNo}
use Rattle.vm_ids.specs.Forest.Commands.{page_name}
use Rattle.vm_ids.specs.Forest.Shape.{IsConsistent}
use Rattle.local_cache.specs.Arena.{Arena}
use Rattle.local_cache.specs.Reading.{forest_of}
use Rattle.local_cache.specs.Sound.{IsSound}
use Rattle.residency.specs.declared.store.Store.{Store}
use Rattle.tree_merge.specs.Copying.{page_after}
use Rattle.tree_merge.specs.Stepping.{AreCopiedBare, IsCopiedAtOnce}
use Rattle.page_commands.specs.Steps.{IsStoreTied}
use Rattle.page_commands.proofs.CopiedPages.OnePage.{bare_copies}
use Rattle.page_commands.proofs.CopiedPages.Parts.{CopiesPage, CopiesPages, copies_more, copies_none}

module _ (t : Store) (a : Arena) (to : CacheId) (to_page : PageNo) (from : CacheId) (from_page : PageNo) (sound : IsSound a) (tied : IsStoreTied t a) (consistent : IsConsistent (forest_of a)) where
  -- so many pages are copied
  abbrev Copied : Arena → ℕ → Type 0
  Copied b k = CopiesPages false from from_page.0 to to_page.0 k t a t b

  one_more : (b c : Arena) (k : ℕ) → Copied b k → CopiesPage false (page_name to (to_page.0 + k)) (page_name from (from_page.0 + k)) t b t c → Copied c (suc k)
  one_more b c k so_far one =
      let next : k + 1 ≡ suc k = omega arith in
      subst (Copied c) next
      (copies_more false from from_page.0 to to_page.0 k t a t b t c tied so_far one)

  pub all_follow : (k : ℕ) (b : Arena) → AreCopiedBare a b to to_page from from_page k → Copied b k
  all_follow zero b is = subst (λ x. Copied x 0) (sym is) (copies_none false from from_page.0 to to_page.0 t a sound consistent tied)
  all_follow (suc k) b is =
      let c : Arena = is.0 in
      let so_far : Copied c k = all_follow k c is.1 in
      one_more c b k so_far
      (bare_copies t c b to (page_after to_page k) from (page_after from_page k) is.2 so_far.kept.sound so_far.kept.tied so_far.grows.consistent)

-- so many pages of a span, behind those that are done
pub at_once_follows : (t : Store) (a b : Arena) (span : Span) (done count : ℕ) → IsSound a → IsStoreTied t a → IsConsistent (forest_of a) → IsCopiedAtOnce a b span done count
    → CopiesPages false span.from (span.from_page.0 + done) span.to (span.to_page.0 + done) count t a t b
at_once_follows t a b span done count sound tied consistent copied =
    all_follow t a span.to (page_after span.to_page done) span.from (page_after span.from_page done) sound tied consistent count b copied.in_turn
