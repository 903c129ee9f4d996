-- It was granted to write a page.
use Rattle.std.proofs.Common.{◌≡◌, ℕ, true, false, Option, refl, ap, ◌∙◌}
use Rattle.vm_ids.specs.declared.node_name.NodeName.{NodeName}
use Rattle.vm_ids.specs.declared.numbers.NodeId.{NodeId}
use Rattle.local_cache.specs.Arena.{Arena, Table, cell, is_granted, locks_of, table_granting, tables_with, with_grant}
use Rattle.local_cache.specs.Reading.{forest_of}
use Rattle.local_cache.specs.Sound.{IsSound}
use Rattle.local_cache.proofs.Changes.Retabled.{changed_cell, changed_forest, changed_sound}
use Rattle.local_cache.proofs.Tables.Parts.{part-changed, part-others, part-same, part-tables_with}

module _ (a b : Arena) (granted place : ℕ) (e : b ≡ with_grant a granted place) where
  pub granted_forest : forest_of b ≡ forest_of a
  granted_forest = changed_forest (table_granting place) (λ t. refl) a b granted e

  pub granted_sound : IsSound a → IsSound b
  granted_sound = changed_sound (table_granting place) (λ t. refl) a b granted e

  -- the nodes are as they were
  pub granted_cell : (n : NodeId) → cell b n ≡ cell a n
  granted_cell = changed_cell (table_granting place) (λ t. refl) a b granted e

  -- the grants of other pages stay
  pub granted_other : (cache page : ℕ) → (cache ≡ granted → page ≡ place → ⊥) → is_granted b cache page ≡ is_granted a cache page
  granted_other cache page apart = ap (λ x. is_granted x cache page) e ∙ part-others (λ (t : Table). t.grants) false (table_granting place) place true (λ t. refl) a.caches granted cache page apart

-- What leaves the grants

-- where the tables stay
pub grants-same : (a b : Arena) → b.caches ≡ a.caches → (cache page : ℕ) → is_granted b cache page ≡ is_granted a cache page
grants-same a b same cache page = part-same (λ (t : Table). t.grants) false a b same cache page

-- where a page has another node, or none
pub grants-tables_with : (a b : Arena) (x : NodeName) (o : Option NodeId) → b.caches ≡ tables_with a.caches x o → (cache page : ℕ) → is_granted b cache page ≡ is_granted a cache page
grants-tables_with a b x o is cache page = part-tables_with (λ (t : Table). t.grants) false (λ p n t. refl) a b x o is cache page
