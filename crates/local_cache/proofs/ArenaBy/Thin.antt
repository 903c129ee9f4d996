-- The thin page nodes are those of the arena.
use Rattle.std.proofs.Common.{◌≡◌, ℕ, Bool, true, false, Option, Some, None, is_some, unwrap_or, refl, ap, sym, ◌∙◌}
use Rattle.std.specs.Prelude.{option_and_then}
use Rattle.std.proofs.lemmas.Bool.{false≢true}
use Rattle.std.proofs.lemmas.Option.{none-some, same_Some}
use Rattle.std.specs.FinMap as ids
use Rattle.vm_ids.specs.declared.node_name.NodeName.{NodeName}
use Rattle.vm_ids.specs.declared.node_name.NodeName.TheVariants.{Live, Working}
use Rattle.vm_ids.specs.declared.numbers.NodeId.{NodeId}
use Rattle.local_cache.specs.Arena.{Cell, blank, cell}
use Rattle.local_cache.specs.ArenaBy.{CacheRows, arena_by}
use Rattle.local_cache.specs.PageNodes.{PageNodes}
use Rattle.local_cache.specs.LinkTable as table
use Rattle.local_cache.specs.Thin.{number_if, thin_number}
use Rattle.local_cache.specs.Thin.{IsLeastThin, IsThin, has_few}

by_number : (x : NodeName) (b : Bool) (k : ℕ) → number_if x b ≡ Some k → (x ≡ Working k) × (b ≡ true)
by_number (Live c p) b k e = absurd (none-some k e)
by_number (Working j) false k e = absurd (none-some k e)
by_number (Working j) true k e = (ap Working (same_Some j k e), refl)

module _ (m : PageNodes) (c : CacheRows) (n : NodeId) (k : ℕ) where
  pub thin_by : table.IsThin m.cells n.0 k → IsThin (arena_by m c) n k
  unfolding cell
  thin_by is = go (ids.get m.cells n.0) refl is
    where
      go : (o : Option Cell) → ids.get m.cells n.0 ≡ o → option_and_then thin_number o ≡ Some k → IsThin (arena_by m c) n k
      go None found e = absurd (none-some k e)
      go (Some d) found e =
          let parts = by_number d.name (has_few d) k e in
          record {
            held = ap is_some found;
            name = ap (λ (o : Option Cell). (unwrap_or o blank).name) found ∙ parts.0;
            few = ap (λ (o : Option Cell). has_few (unwrap_or o blank)) found ∙ parts.1;
          }

  pub thin_of : IsThin (arena_by m c) n k → table.IsThin m.cells n.0 k
  unfolding cell
  thin_of t = go (ids.get m.cells n.0) refl
    where
      go : (o : Option Cell) → ids.get m.cells n.0 ≡ o → option_and_then thin_number (ids.get m.cells n.0) ≡ Some k
      go None found = absurd (false≢true (sym (ap is_some found) ∙ t.held))
      go (Some d) found =
          ap (option_and_then thin_number) found
          ∙ ap thin_number (sym (ap (λ (o : Option Cell). unwrap_or o blank) found))
          ∙ (λ i. number_if (t.name i) (t.few i))

pub least_thin_by : (m : PageNodes) (c : CacheRows) (r : Option NodeId) → table.IsLeastThin m.cells r
    → IsLeastThin (arena_by m c) r
least_thin_by m c None none = λ n k t. none n.0 k (thin_of m c n k t)
least_thin_by m c (Some n) least = (
  least.0,
  thin_by m c n least.0 least.1,
  λ other k t. least.2 other.0 k (thin_of m c other k t),
)
