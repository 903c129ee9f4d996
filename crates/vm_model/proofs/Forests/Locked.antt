-- A lock leaves each page what it was.
use Rattle.std.proofs.Common.{◌≡◌, ℕ, ◌+◌, ◌-◌, ◌<◌, ◌≤◌, List, [], Option, Some, None, refl, sym, subst, ◌∙◌, arith}
use Rattle.std.specs.Prelude.{IsSomeAnd}
use Rattle.std.specs.Option.{option_map_or}
use Rattle.vm_ids.specs.declared.node_name.NodeName.{NodeName}
use Rattle.vm_ids.specs.Forest.NameLists.{◌∈◌}
use Rattle.vm_ids.specs.Forest.Nodes.{IsNode}
use Rattle.vm_ids.specs.Forest.Commands.{page_name, lock}
use Rattle.vm_ids.proofs.Forest.Laws.Ranges.{ranges_hold_their_pages}
use Rattle.vm_ids.proofs.Forest.Laws.Commands.{lock_keeps_consistency, lock_keeps_values}
use Rattle.vm_model.specs.Machine.{Machine, Region}
use Rattle.vm_model.specs.PageForest.{PageForest}
use Rattle.vm_model.specs.Regions.{region_with}
use Rattle.vm_model.specs.Following.{pages_locked, pages_under}
use Rattle.vm_model.specs.Outcome.{IsPageUnder}
use Rattle.vm_model.specs.Laws.{IsFollowed, IsLaid, LiesIn}
use Rattle.vm_model.proofs.Forests.CachesFollowed.{by_values, node_there, there_within}
use Rattle.vm_model.proofs.Forests.Plain.{id_of}
use Rattle.vm_model.proofs.Outcomes.Lying.{region_lies}

module _ (m : Machine) (f : PageForest) (F : IsFollowed m f) where
  -- the first pages under a region have nodes
  under_nodes : (r : Region) (n : ℕ) → LiesIn m.caches r → n ≤ r.pages → (x : NodeName) → x ∈ pages_under n r → IsNode f x
  under_nodes r n p few x i =
      let at = (ranges_hold_their_pages (id_of r.cache) r.offset n x).0 i in
      let v = there_within m r.cache p.cache (r.offset + at.0) p.there (omega (arith, at.1, few, p.within)) in
      subst (IsNode f) (sym at.2) (node_there m f F (id_of r.cache) (r.offset + at.0) v.0 v.1)

  under_locked : (r : Region) (n : ℕ) → LiesIn m.caches r → n ≤ r.pages → IsFollowed m (lock (pages_under n r) f)
  under_locked r n p few =
      let xs : List NodeName = pages_under n r in
      let are = under_nodes r n p few in
      by_values m (lock xs f) (lock_keeps_consistency xs f F.consistent are) (λ cache page. lock_keeps_values xs f F.consistent.shaped are (page_name cache page) ∙ F.agrees.values cache page)

  module _ (laid : IsLaid m) (number : ℕ) where
    -- all pages under the region with a number
    pub region_locked : (r : Region) → region_with number m.actors ≡ Some r → IsFollowed m (lock (pages_locked m number) f)
    region_locked r there =
        subst (λ (o : Option Region). IsFollowed m (lock (option_map_or (λ (r : Region). pages_under r.pages r) o []) f)) (sym there)
        (under_locked r r.pages (region_lies m.caches number r m.actors there laid.lie) (omega arith))

    -- those before one of them
    pub passed_locked : (page : ℕ) → IsPageUnder m number page
        → IsFollowed m (lock (option_map_or (λ (r : Region). pages_under (page - r.offset) r) (region_with number m.actors) []) f)
    passed_locked page under = go (region_with number m.actors) refl under
      where
        go : (o : Option Region) → region_with number m.actors ≡ o → IsSomeAnd o (λ (r : Region). (r.offset ≤ page) × (page < r.offset + r.pages))
            → IsFollowed m (lock (option_map_or (λ (r : Region). pages_under (page - r.offset) r) o []) f)
        go None e u = absurd u
        go (Some r) e u = under_locked r (page - r.offset) (region_lies m.caches number r m.actors e laid.lie) (omega (arith, u.0, u.1))
