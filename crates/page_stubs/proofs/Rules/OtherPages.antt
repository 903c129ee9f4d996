-- The rules of stubs are followed with any pages, as they are with own states.
use Rattle.std.proofs.Common.{◌≡◌, Option, refl, ◌∙◌}
use Rattle.vm_ids.specs.declared.node_name.NodeName.{NodeName}
use Rattle.vm_ids.specs.Forest.Changes as forest
use Rattle.vm_ids.specs.Forest.Nodes.{Forest, node}
use Rattle.vm_ids.specs.Forest.PageMap.{no_page}
use Rattle.vm_ids.specs.Forest.Rules.{hand_stubs, stub}
use Rattle.vm_ids.proofs.Forest.Columns.{cut_stub-keeps, hand_stubs-own}
use Rattle.vm_ids.proofs.Forest.NodesAfter.{keeps}
use Rattle.vm_ids.proofs.Forest.PageMap.{cut_stub-map, hand_stubs-map, stub-map}
use Rattle.vm_ids.specs.declared.numbers.NodeId.{NodeId}
use Rattle.local_cache.specs.Arena.{Arena}
use Rattle.local_cache.specs.Changes.{Relinked}
use Rattle.local_cache.specs.Reading.{AreNamesApart, forest_of}
use Rattle.local_cache.specs.ReadingBy.{Tells, forest_by}
use Rattle.local_cache.proofs.Forest.ReadingBy.{lifted-relinked}

module _ {P : Type 0} (page : NodeId → Option P) (a b : Arena) (named : AreNamesApart a) (tells : Tells page a) (links : Relinked a b) where
  pub cut_stub-by : (x : NodeName) → forest_of b ≡ forest.cut_stub (forest_of a) x → forest_by page b ≡ forest.cut_stub (forest_by page a) x
  cut_stub-by x = lifted-relinked page a b named tells links _ (λ f. forest.cut_stub f x) (λ f. forest.cut_stub f x) (λ f. cut_stub-map no_page f x) (λ f. cut_stub-map no_page f x)
      (λ f y. cut_stub-keeps (λ n. n.own) (λ n h. refl) (λ n xs. refl) (λ n xs. refl) f x y)

  pub hand_stubs-by : (x h : NodeName) → forest_of b ≡ hand_stubs (forest_of a) x h → forest_by page b ≡ hand_stubs (forest_by page a) x h
  hand_stubs-by x h = lifted-relinked page a b named tells links _ (λ f. hand_stubs f x h) (λ f. hand_stubs f x h) (λ f. hand_stubs-map no_page f x h) (λ f. hand_stubs-map no_page f x h) (λ f. hand_stubs-own f x h)

  stub-own : (f : Forest P) (d s y : NodeName) → (node (stub f d s) y).own ≡ (node f y).own
  unfolding stub
  stub-own f d s y = keeps (λ n. n.own) _ d _ refl y ∙ keeps (λ n. n.own) f s _ refl y

  pub stub-by : (d s : NodeName) → forest_of b ≡ stub (forest_of a) d s → forest_by page b ≡ stub (forest_by page a) d s
  stub-by d s = lifted-relinked page a b named tells links _ (λ f. stub f d s) (λ f. stub f d s) (λ f. stub-map no_page f d s) (λ f. stub-map no_page f d s) (λ f. stub-own f d s)
