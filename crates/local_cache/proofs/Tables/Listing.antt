-- The tables after the node of one page was set.
use Rattle.std.proofs.Common.{◌≡◌, ◌≢◌, ◌⊎◌, ℕ, zero, suc, List, [], ◌∷◌, get_or, set, Option, Some, None, IsSome, option_map, slice_get, refl, sym, ap, ◌∙◌, inl, inr}
use Rattle.std.specs.Prelude.{option_and_then}
use Rattle.std.proofs.lemmas.Bool.{cases_eq}
use Rattle.vm_ids.specs.declared.node_name.NodeName.{NodeName}
use Rattle.vm_ids.specs.declared.node_name.NodeName.TheVariants.{Live, Working}
use Rattle.vm_ids.specs.declared.numbers.NodeId.{NodeId}
use Rattle.local_cache.specs.declared.page_entry.PageEntry.{PageEntry}
use Rattle.local_cache.specs.Arena.{Table, cache_with, table_with, entry_at, table_at, tables_with, tables_without}

module _ {X : Type 0} where
  get_set_same : (xs : List X) (k : ℕ) (v : X) → slice_get (set xs k v) k ≡ option_map (λ _. v) (slice_get xs k)
  get_set_same [] k v = refl
  get_set_same (x ∷ xs) zero v = refl
  get_set_same (x ∷ xs) (suc k) v = get_set_same xs k v

  pub get_set_other : (xs : List X) (k j : ℕ) (v : X) → j ≢ k → slice_get (set xs k v) j ≡ slice_get xs j
  get_set_other [] k j v ne = refl
  get_set_other (x ∷ xs) zero zero v ne = absurd (ne refl)
  get_set_other (x ∷ xs) zero (suc j) v ne = refl
  get_set_other (x ∷ xs) (suc k) zero v ne = refl
  get_set_other (x ∷ xs) (suc k) (suc j) v ne = get_set_other xs k j v (λ e. ne (ap suc e))

  pub read_set : (ts : List (Option X)) (k : ℕ) (f : X → X) → get_or (set ts k (option_map f (get_or ts k None))) k None ≡ option_map f (get_or ts k None)
  read_set [] k f = refl
  read_set (t ∷ ts) zero f = refl
  read_set (t ∷ ts) (suc k) f = read_set ts k f

  pub read_other : (ts : List (Option X)) (k j : ℕ) (v : Option X) → j ≢ k → get_or (set ts k v) j None ≡ get_or ts j None
  read_other [] k j v ne = refl
  read_other (t ∷ ts) zero zero v ne = absurd (ne refl)
  read_other (t ∷ ts) zero (suc j) v ne = refl
  read_other (t ∷ ts) (suc k) zero v ne = refl
  read_other (t ∷ ts) (suc k) (suc j) v ne = read_other ts k j v (λ e. ne (ap suc e))

abbrev pub entry_in : Option Table → ℕ → Option PageEntry
entry_in t page = option_and_then (λ t. slice_get t.pages page) t

entry_same : (t : Option Table) (page : ℕ) (o : Option NodeId) → entry_in (option_map (table_with page o) t) page ≡ option_map (λ _. record { node = o }) (entry_in t page)
entry_same None page o = refl
entry_same (Some t) page o = get_set_same t.pages page (record { node = o })

entry_other : (t : Option Table) (page other : ℕ) (o : Option NodeId) → other ≢ page → entry_in (option_map (table_with page o) t) other ≡ entry_in t other
entry_other None page other o ne = refl
entry_other (Some t) page other o ne = get_set_other t.pages page other (record { node = o }) ne

-- the entry that was set, where there is one
pub entry-cache_with : (ts : List (Option Table)) (cache page : ℕ) (o : Option NodeId) → entry_at (cache_with ts cache page o) cache page ≡ option_map (λ _. record { node = o }) (entry_at ts cache page)
entry-cache_with ts zero page o = refl
entry-cache_with ts (suc k) page o = ap (λ t. entry_in t page) (read_set ts k (table_with page o)) ∙ entry_same (get_or ts k None) page o

-- each other entry
pub entry-cache_with_other : (ts : List (Option Table)) (cache page c p : ℕ) (o : Option NodeId) → (c ≡ cache → p ≡ page → ⊥) → entry_at (cache_with ts cache page o) c p ≡ entry_at ts c p
entry-cache_with_other ts zero page c p o ne = refl
entry-cache_with_other ts (suc k) page zero p o ne = refl
entry-cache_with_other ts (suc k) page (suc j) p o ne = elim (cases_eq j k) [
  | inl e ↦ ap (λ i. entry_in (get_or (set ts k (option_map (table_with page o) (get_or ts k None))) i None) p) e ∙ ap (λ t. entry_in t p) (read_set ts k (table_with page o))
      ∙ entry_other (get_or ts k None) page p o (λ q. ne (ap suc e) q) ∙ ap (λ i. entry_in (get_or ts i None) p) (sym e)
  | inr apart ↦ ap (λ t. entry_in t p) (read_other ts k j _ apart)
]

-- the node of a page
abbrev pub node_in : List (Option Table) → ℕ → ℕ → Option NodeId
node_in ts cache page = option_and_then (λ t. option_and_then (λ e. e.node) (slice_get t.pages page)) (table_at ts cache)

pub node_by_entry : (ts : List (Option Table)) (cache page : ℕ) → node_in ts cache page ≡ option_and_then (λ e. e.node) (entry_at ts cache page)
node_by_entry ts cache page = go (table_at ts cache)
  where
    go : (t : Option Table) → option_and_then (λ t. option_and_then (λ e. e.node) (slice_get t.pages page)) t ≡ option_and_then (λ e. e.node) (entry_in t page)
    go None = refl
    go (Some t) = refl

abbrev pub page_name : ℕ → ℕ → NodeName
page_name cache page = Live (record { 0 = cache }) (record { 0 = page })

abbrev pub node_of_entry : Option PageEntry → Option NodeId
node_of_entry o = option_and_then (λ e. e.node) o

set_entry_node : (o : Option PageEntry) (n : NodeId) → IsSome o → node_of_entry (option_map (λ _. record { node = Some n }) o) ≡ Some n
set_entry_node None n h = absurd (cc)
set_entry_node (Some e) n h = refl

cleared_entry_node : (o : Option PageEntry) → node_of_entry (option_map (λ _. record { node = None }) o) ≡ None
cleared_entry_node None = refl
cleared_entry_node (Some e) = refl

module _ (ts : List (Option Table)) (cache page : ℕ) where
  pub cleared-node : node_in (tables_with ts (page_name cache page) None) cache page ≡ None
  cleared-node = node_by_entry (cache_with ts cache page None) cache page ∙ ap node_of_entry (entry-cache_with ts cache page None) ∙ cleared_entry_node (entry_at ts cache page)

  pub set-node : (n : NodeId) → IsSome (entry_at ts cache page) → node_in (tables_with ts (page_name cache page) (Some n)) cache page ≡ Some n
  set-node n h = node_by_entry (cache_with ts cache page (Some n)) cache page ∙ ap node_of_entry (entry-cache_with ts cache page (Some n)) ∙ set_entry_node (entry_at ts cache page) n h

  pub other-entry : (x : NodeName) (o : Option NodeId) → x ≢ page_name cache page → entry_at (tables_with ts x o) cache page ≡ entry_at ts cache page
  other-entry (Working k) o ne = refl
  other-entry (Live c p) o ne = entry-cache_with_other ts c.0 p.0 cache page o (λ e f. ne (λ i. Live (record { 0 = sym e i }) (record { 0 = sym f i })))

  pub other-node : (x : NodeName) (o : Option NodeId) → x ≢ page_name cache page → node_in (tables_with ts x o) cache page ≡ node_in ts cache page
  other-node x o ne = node_by_entry (tables_with ts x o) cache page ∙ ap node_of_entry (other-entry x o ne) ∙ sym (node_by_entry ts cache page)

  -- a node that is left where one was cleared isn't the one cleared
  pub left-node : (x : NodeName) (m : NodeId) → (x ≡ page_name cache page) ⊎ (x ≢ page_name cache page) → node_in (tables_with ts x None) cache page ≡ Some m → (x ≢ page_name cache page) × (node_in ts cache page ≡ Some m)
  left-node x m (inl e) is = absurd (let clash : None ≡ Some m = sym cleared-node ∙ ap (λ y. node_in (tables_with ts y None) cache page) (sym e) ∙ is in cc clash)
  left-node x m (inr ne) is = (ne, sym (other-node x None ne) ∙ is)

-- Where the pages of a cache have no nodes, its table finds none.
pub without-node : (ts : List (Option Table)) (gone : ℕ) → ((page : ℕ) → node_in ts gone page ≡ None) → (cache page : ℕ) → node_in (tables_without ts gone) cache page ≡ node_in ts cache page
without-node ts zero none cache page = refl
without-node ts (suc k) none zero page = refl
without-node ts (suc k) none (suc j) page = elim (cases_eq j k) [
  | inl e ↦ ap (λ i. node_of_table (get_or (set ts k None) i None)) e ∙ ap node_of_table (gone_table ts k) ∙ sym (ap (λ i. node_in ts (suc i) page) e ∙ none page)
  | inr apart ↦ ap node_of_table (read_other ts k j None apart)
]
  where
    node_of_table : Option Table → Option NodeId
    node_of_table t = option_and_then (λ t. node_of_entry (slice_get t.pages page)) t

    gone_table : (ts : List (Option Table)) (k : ℕ) → get_or (set ts k None) k None ≡ None
    gone_table [] k = refl
    gone_table (t ∷ ts) zero = refl
    gone_table (t ∷ ts) (suc k) = gone_table ts k
