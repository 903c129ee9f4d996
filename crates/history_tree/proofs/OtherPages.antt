-- The rule link is followed with any pages, as it is with own states.
use Rattle.std.proofs.Common.{◌≡◌, Option, ap, ◌∙◌}
use Rattle.vm_ids.specs.declared.node_name.NodeName.{NodeName}
use Rattle.vm_ids.specs.Forest.PageMap.{bare, no_page}
use Rattle.vm_ids.specs.Forest.Rules.{link}
use Rattle.vm_ids.proofs.Forest.PageMap.{link-map}
use Rattle.vm_ids.specs.declared.numbers.NodeId.{NodeId}
use Rattle.local_cache.specs.Arena.{Arena, HasNode}
use Rattle.local_cache.specs.Reading.{AreNamesApart, forest_of}
use Rattle.local_cache.specs.ReadingBy.{Tells, forest_by}
use Rattle.local_cache.proofs.Forest.ReadingBy.{bare-rule, lifted-kept}
use Rattle.history_tree.specs.Hanging.{IsGrown}
use Rattle.history_tree.proofs.OwnPages.{link-own}

module _ (a b : Arena) (was : AreNamesApart a) (is : AreNamesApart b) (grown : IsGrown a b) (d s : NodeName) (forest : forest_of b ≡ link (forest_of a) d s) where
  pub link-by : {P : Type 0} (page now : NodeId → Option P) → Tells page a → Tells now b → ((n : NodeId) → HasNode a n → now n ≡ page n) → forest_by now b ≡ link (forest_by page a) d s
  link-by page now tells told same = lifted-kept page now a b was is (record { held = grown.held; name = grown.names; same = same }) told (link (forest_by page a) d s)
      (ap bare forest ∙ bare-rule page a was tells (λ f. link f d s) (λ f. link f d s) (λ f. link f d s) (λ f. link-map no_page f d s) (λ f. link-map no_page f d s)) (link-own (forest_by page a) d s)
