-- Untouched pages are retired at once: their nodes go, and the store is as it was.
use Rattle.std.proofs.Common.{◌≡◌, ℕ, zero, suc, ◌+◌, ◌<◌, ◌≤◌, Some, is_some, refl, sym, ap, ◌∙◌, subst, inr, arith}
use Rattle.vm_ids.specs.declared.node_name.NodeName.TheVariants.{Live}
use Rattle.vm_ids.specs.declared.numbers.CacheId.{CacheId}
use Rattle.vm_ids.specs.declared.numbers.NodeId.{NodeId}
use Rattle.vm_ids.specs.declared.numbers.PageNo.{PageNo}
use Rattle.vm_ids.specs.Forest.Nodes.{child_count}
use Rattle.local_cache.specs.declared.own_state.OwnState.TheVariants.{OnSegment}
use Rattle.local_cache.specs.Arena.{Arena, Cell, cell, find, node_at, without}
use Rattle.local_cache.specs.Many.{without_many}
use Rattle.local_cache.specs.ManyNodes.{next_node}
use Rattle.local_cache.specs.Own.{is_resident, own_of}
use Rattle.local_cache.specs.Reading.{forest_of}
use Rattle.local_cache.specs.Sound.{IsSound}
use Rattle.residency.specs.declared.store.Store.{Store}
use Rattle.residency.specs.World.{world}
use Rattle.tree_merge.specs.declared.released.Released.TheVariants.{Dropped}
use Rattle.tree_merge.specs.Copying.{IsBeside, IsLone}
use Rattle.tree_merge.proofs.CopiedPages.Changes.{cell_by, find-without_other}
use Rattle.tree_merge.proofs.RetiredPages.OnePage.{CanRetirePage, page_alone}
use Rattle.page_commands.specs.Following.{without_page}
use Rattle.page_commands.specs.Steps.{IsStoreTied}
use Rattle.page_commands.specs.Untouched.{AreUntouched}
use Rattle.page_commands.proofs.FreedFrames.Freed.{same_freed}
use Rattle.page_commands.proofs.PassedOver.Nodes.{lone_leaf, untouched_name}
use Rattle.page_commands.proofs.RetiredPages.OneFollowed.{one_retires}
use Rattle.page_commands.proofs.RetiredPages.OnePage.{out_unpinned}
use Rattle.page_commands.proofs.RetiredPages.Parts.{RetiresPage, RetiresPages, retires_more, retires_none}

-- one page
untouched_goes : (t : Store) (a : Arena) (d : NodeId) (cache : CacheId) (page : PageNo) → CanRetirePage a d cache page → own_of a d ≡ OnSegment → IsStoreTied t a → RetiresPage (Live cache page) t a t (without a d)
untouched_goes t a d cache page can own tied =
    one_retires t a (without a d) cache page (Dropped d (own_of a d)) (page_alone a d cache page can) can.sound tied
    (out_unpinned t a d cache page can.sound can.held can.named (ap is_resident own) tied) (inr (ap (child_count (forest_of a)) (sym can.named) ∙ lone_leaf a can.sound d can.held can.lone))
    t (λ told size. sym (ap (without_page (world told size (without a d) t) d) own)) (same_freed t t refl refl)

module _ (t : Store) (a : Arena) (sound : IsSound a) (tied : IsStoreTied t a) (cache : CacheId) (page : PageNo) (d : NodeId) (here : node_at a cache.0 page.0 ≡ Some d) (count : ℕ) (are : AreUntouched a d count) where
  -- other nodes are as they were
  left : (k : ℕ) (n : NodeId) → IsBeside n d k → find (without_many a d k) n ≡ find a n
  left zero n beside = refl
  left (suc k) n beside = find-without_other (without_many a d k) (next_node d k) n (beside k (omega arith)) ∙ left k n (λ j less. beside j (omega arith))

  so_far : (k : ℕ) → k ≤ count → RetiresPages cache page.0 k t a t (without_many a d k)
  so_far zero few = retires_none cache page.0 t a sound tied
  so_far (suc k) few =
      let b : Arena = without_many a d k in
      let n : NodeId = next_node d k in
      let less : k < count = omega (arith, few) in
      let before = so_far k (omega (arith, few)) in
      let same : find b n ≡ find a n = left k n (λ j low e. let clash : d.0 + k ≡ d.0 + j = ap (λ (m : NodeId). m.0) e in omega (arith, clash, low)) in
      let c : cell b n ≡ cell a n = cell_by a b n same in
      let can : CanRetirePage b n cache (record { 0 = page.0 + k }) = record {
        sound = before.kept.sound;
        held = ap is_some same ∙ (are.alike k less).held;
        lone = subst IsLone (sym c) (are.untouched k less).lone;
        named = ap (λ (x : Cell). x.name) c ∙ untouched_name a sound cache page d here count are k less;
      } in
      let one = untouched_goes t b n cache (record { 0 = page.0 + k }) can (ap (λ (x : Cell). x.own) c ∙ (are.untouched k less).own) before.kept.tied in
      let more : k + 1 ≡ suc k = omega arith in
      subst (λ m. RetiresPages cache page.0 m t a t (without b n)) more (retires_more cache page.0 k t a t b t (without b n) tied before one)

  pub untouched_go : RetiresPages cache page.0 count t a t (without_many a d count)
  untouched_go = so_far count (omega arith)
