-- The sizes of caches stay where their tables get or lose nodes.
use Rattle.std.proofs.Common.{◌≡◌, ℕ, zero, suc, List, [], ◌∷◌, get_or, set, length, length-set, Option, Some, None, option_map, refl, ap, ◌∙◌}
use Rattle.vm_ids.specs.declared.node_name.NodeName.{NodeName}
use Rattle.vm_ids.specs.declared.node_name.NodeName.TheVariants.{Live, Working}
use Rattle.vm_ids.specs.declared.numbers.NodeId.{NodeId}
use Rattle.vm_ids.specs.declared.numbers.SegId.{SegId}
use Rattle.local_cache.specs.Arena.{Arena, Table, changed_at, table_at, table_granting, table_locking, table_with, tables_with, with_grant, with_locks}
use Rattle.local_cache.specs.Whole.{SameCaches}

-- what each table keeps that a change of one leaves
module _ {A : Type 0} (of : Table → A) (change : Table → Table) (same : (t : Table) → of (change t) ≡ of t) where
  one_table : (o : Option Table) → option_map of (option_map change o) ≡ option_map of o
  one_table None = refl
  one_table (Some t) = ap Some (same t)

  one_of_all : (ts : List (Option Table)) (k j : ℕ) → option_map of (get_or (set ts k (option_map change (get_or ts k None))) j None) ≡ option_map of (get_or ts j None)
  one_of_all [] k j = refl
  one_of_all (t ∷ ts) zero zero = one_table t
  one_of_all (t ∷ ts) zero (suc j) = refl
  one_of_all (t ∷ ts) (suc k) zero = refl
  one_of_all (t ∷ ts) (suc k) (suc j) = one_of_all ts k j

  pub each_changed : (ts : List (Option Table)) (c cache : ℕ) → option_map of (table_at (changed_at ts c change) cache) ≡ option_map of (table_at ts cache)
  each_changed ts zero cache = refl
  each_changed ts (suc k) zero = refl
  each_changed ts (suc k) (suc j) = one_of_all ts k j

-- when the node of a page is another one
pub each_table : {A : Type 0} (of : Table → A) → ((page : ℕ) (n : Option NodeId) (t : Table) → of (table_with page n t) ≡ of t) → (ts : List (Option Table)) (x : NodeName) (n : Option NodeId) (cache : ℕ)
    → option_map of (table_at (tables_with ts x n) cache) ≡ option_map of (table_at ts cache)
each_table of same ts (Working k) n cache = refl
each_table of same ts (Live c page) n cache = each_changed of (table_with page.0 n) (same page.0 n) ts c.0 cache

abbrev size : Table → ℕ
size t = length t.pages

abbrev segment : Table → Option SegId
segment t = t.segment

-- there are as many tables
changed_count : (ts : List (Option Table)) (c : ℕ) (change : Table → Table) → length (changed_at ts c change) ≡ length ts
changed_count ts zero change = refl
changed_count ts (suc k) change = length-set ts k (option_map change (get_or ts k None))

table_count : (ts : List (Option Table)) (x : NodeName) (n : Option NodeId) → length (tables_with ts x n) ≡ length ts
table_count ts (Working k) n = refl
table_count ts (Live c page) n = changed_count ts c.0 (table_with page.0 n)

pub sizes_by : (a b : Arena) (x : NodeName) (n : Option NodeId) → b.caches ≡ tables_with a.caches x n → SameCaches a b
sizes_by a b x n e = record {
  count = ap length e ∙ table_count a.caches x n;
  sizes = λ cache. ap (λ (ts : List (Option Table)). option_map size (table_at ts cache)) e ∙ each_table size (λ page n t. length-set t.pages page (record { node = n })) a.caches x n cache;
  segments = λ cache. ap (λ (ts : List (Option Table)). option_map segment (table_at ts cache)) e ∙ each_table segment (λ page n t. refl) a.caches x n cache;
}

pub sizes_same : (a b : Arena) → b.caches ≡ a.caches → SameCaches a b
sizes_same a b e = record {
  count = ap length e;
  sizes = λ cache. ap (λ (ts : List (Option Table)). option_map size (table_at ts cache)) e;
  segments = λ cache. ap (λ (ts : List (Option Table)). option_map segment (table_at ts cache)) e;
}

-- where the table of a cache changes in other things
sizes_changed : (change : Table → Table) → ((t : Table) → (change t).pages ≡ t.pages) → ((t : Table) → (change t).segment ≡ t.segment) → (a b : Arena) (at : ℕ) → b ≡ record a { caches = changed_at a.caches at change } → SameCaches a b
sizes_changed change pages named a b at e =
    let changed = ap (λ (x : Arena). x.caches) e in
    record {
      count = ap length changed ∙ changed_count a.caches at change;
      sizes = λ other. ap (λ (ts : List (Option Table)). option_map size (table_at ts other)) changed ∙ each_changed size change (λ t. ap length (pages t)) a.caches at other;
      segments = λ other. ap (λ (ts : List (Option Table)). option_map segment (table_at ts other)) changed ∙ each_changed segment change named a.caches at other;
    }

-- after the grant of a page
pub sizes_granted : (a b : Arena) (cache page : ℕ) → b ≡ with_grant a cache page → SameCaches a b
sizes_granted a b cache page e = sizes_changed (table_granting page) (λ t. refl) (λ t. refl) a b cache e

-- with other locks on a page
pub sizes_locked : (a b : Arena) (cache page count : ℕ) → b ≡ with_locks a cache page count → SameCaches a b
sizes_locked a b cache page count e = sizes_changed (table_locking page count) (λ t. refl) (λ t. refl) a b cache e

pub sizes_then : (a b c : Arena) → SameCaches a b → SameCaches b c → SameCaches a c
sizes_then a b c f g = record {
  count = g.count ∙ f.count;
  sizes = λ cache. g.sizes cache ∙ f.sizes cache;
  segments = λ cache. g.segments cache ∙ f.segments cache;
}
