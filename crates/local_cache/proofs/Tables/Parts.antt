-- What a table has for each of its pages besides a node, as grants and locks.
use Rattle.std.proofs.Common.{◌≡◌, ◌≢◌, inl, inr, ℕ, zero, suc, List, get_or, set, Option, Some, None, unwrap_or, option_map, slice_get, refl, sym, ap, ◌∙◌}
use Rattle.std.specs.Prelude.{option_and_then}
use Rattle.std.proofs.lemmas.Bool.{cases_eq}
use Rattle.vm_ids.specs.declared.node_name.NodeName.{NodeName}
use Rattle.vm_ids.specs.declared.numbers.NodeId.{NodeId}
use Rattle.local_cache.specs.Arena.{Arena, Table, changed_at, table_at, table_of, table_with, tables_with}
use Rattle.local_cache.proofs.Tables.Listing.{get_set_other, read_other, read_set}
use Rattle.local_cache.proofs.Tables.Sizes.{each_changed, each_table}

module _ {X : Type 0} (part : Table → List X) (d : X) where
  -- what it has of a page
  abbrev pub in_table : ℕ → Option Table → X
  in_table page o = unwrap_or (option_and_then (λ (t : Table). slice_get (part t) page) o) d

  abbrev among : ℕ → Option (List X) → X
  among page o = unwrap_or (option_and_then (λ (xs : List X). slice_get xs page) o) d

  by_part : (page : ℕ) (o : Option Table) → in_table page o ≡ among page (option_map part o)
  by_part page None = refl
  by_part page (Some t) = refl

  part_stays : (page : ℕ) (o p : Option Table) → option_map part p ≡ option_map part o → in_table page p ≡ in_table page o
  part_stays page o p same = by_part page p ∙ ap (among page) same ∙ sym (by_part page o)

  -- where the tables stay
  pub part-same : (a b : Arena) → b.caches ≡ a.caches → (cache page : ℕ) → in_table page (table_of b cache) ≡ in_table page (table_of a cache)
  part-same a b same cache page = ap (λ (ts : List (Option Table)). in_table page (table_at ts cache)) same

  -- where a page has another node, or none
  pub part-tables_with : ((page : ℕ) (n : Option NodeId) (t : Table) → part (table_with page n t) ≡ part t) → (a b : Arena) (x : NodeName) (o : Option NodeId) → b.caches ≡ tables_with a.caches x o
      → (cache page : ℕ) → in_table page (table_of b cache) ≡ in_table page (table_of a cache)
  part-tables_with same a b x o is cache page =
      ap (λ (ts : List (Option Table)). in_table page (table_at ts cache)) is
      ∙ part_stays page (table_at a.caches cache) (table_at (tables_with a.caches x o) cache) (each_table part same a.caches x o cache)

  -- where the table of a cache changes in other things
  pub part-changed : (change : Table → Table) → ((t : Table) → part (change t) ≡ part t) → (ts : List (Option Table)) (at cache page : ℕ) → in_table page (table_at (changed_at ts at change) cache) ≡ in_table page (table_at ts cache)
  part-changed change same ts at cache page = part_stays page (table_at ts cache) (table_at (changed_at ts at change) cache) (each_changed part change same ts at cache)

  -- where it has something else of one page, all other pages
  module _ (change : Table → Table) (place : ℕ) (v : X) (sets : (t : Table) → part (change t) ≡ set (part t) place v) where
    other_page : (page : ℕ) (o : Option Table) → page ≢ place → in_table page (option_map change o) ≡ in_table page o
    other_page page None ne = refl
    other_page page (Some t) ne = ap (λ (xs : List X). unwrap_or (slice_get xs page) d) (sets t) ∙ ap (λ (g : Option X). unwrap_or g d) (get_set_other (part t) place page v ne)

    pub part-others : (ts : List (Option Table)) (at cache page : ℕ) → (cache ≡ at → page ≡ place → ⊥) → in_table page (table_at (changed_at ts at change) cache) ≡ in_table page (table_at ts cache)
    part-others ts zero cache page apart = refl
    part-others ts (suc k) zero page apart = refl
    part-others ts (suc k) (suc j) page apart = elim (cases_eq j k) [
      | inl q ↦ ap (λ i. in_table page (get_or (set ts k (option_map change (get_or ts k None))) i None)) q
          ∙ ap (in_table page) (read_set ts k change) ∙ other_page page (get_or ts k None) (λ r. apart (ap suc q) r) ∙ ap (λ i. in_table page (get_or ts i None)) (sym q)
      | inr ne ↦ ap (in_table page) (read_other ts k j _ ne)
    ]
