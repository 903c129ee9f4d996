-- A cache is made, on the arena.
use Rattle.std.proofs.Common.{◌≡◌, ◌≢◌, ℕ, zero, suc, get_or, ◌+◌, ◌-◌, ◌<◌, ◌≤◌, ◌^◌, false, replicate, List, [], ◌∷◌, ◌++◌, length, map, Option, Some, None, option_map, refl, ap, sym, subst, ◌∙◌, inl, inr, arith}
use Rattle.std.proofs.lemmas.Bool.{cases_eq}
use Rattle.std.proofs.lemmas.Option.{none-some}
use Rattle.std.specs.FinMap as ids
use Rattle.vm_ids.specs.declared.node_name.NodeName.TheVariants.{Live}
use Rattle.vm_ids.specs.declared.numbers.CacheId.{CacheId}
use Rattle.vm_ids.specs.declared.numbers.NodeId.{NodeId}
use Rattle.vm_ids.specs.declared.numbers.SegId.{SegId}
use Rattle.local_cache.specs.declared.own_state.OwnState.{OwnState}
use Rattle.local_cache.specs.Arena.{IsFilled, MakesCache, entry_for, new_cell, new_table}
use Rattle.local_cache.specs.ArenaBy.{CacheRow, CacheRows, arena_by, entries_by, table_by, tables_by}
use Rattle.local_cache.specs.NodeKeys.{page_number}
use Rattle.local_cache.specs.PageNodes.{PageNodes, made_first}
use Rattle.local_cache.specs.Pages.{Pages}
use Rattle.local_cache.specs.Placed.{AreShort}
use Rattle.local_cache.specs.RowChanges.{new_row, with_row}
use Rattle.local_cache.proofs.ArenaBy.Nodes.{page_come}
use Rattle.local_cache.proofs.ArenaBy.Tables.{tables_same}
use Rattle.local_cache.proofs.NodeCells.{inserted_here, inserted_other}

-- The nodes of its pages, which have the numbers of the pages

abbrev pub node_by : CacheId → ℕ → NodeId
node_by cache page = record { 0 = page_number cache.0 page }

abbrev pub nodes_by : CacheId → ℕ → ℕ → List NodeId
nodes_by cache from zero = []
nodes_by cache from (suc k) = node_by cache from ∷ nodes_by cache (from + 1) k

length_nodes : (cache : CacheId) (from k : ℕ) → length (nodes_by cache from k) ≡ k
length_nodes cache from zero = refl
length_nodes cache from (suc k) = ap suc (length_nodes cache (from + 1) k)

module _ (m : PageNodes) (cache : CacheId) (own : OwnState) where
  abbrev after : ℕ → PageNodes
  after k = made_first m cache own k

  page_next : (k : ℕ) → (after (suc k)).pages ≡ ids.insert (after k).pages (page_number cache.0 k) (node_by cache k)
  page_next k = page_come (after k).pages cache (record { 0 = k }) (node_by cache k)

  -- other nodes and other pages are as they were
  pub cells_out : (k q : ℕ) → ((j : ℕ) → j < k → q ≢ page_number cache.0 j) → ids.get (after k).cells q ≡ ids.get m.cells q
  cells_out zero q out = refl
  cells_out (suc k) q out =
      inserted_other (after k).cells (page_number cache.0 k) (new_cell (Live cache (record { 0 = k })) own) q (out k (omega arith))
      ∙ cells_out k q (λ j less. out j (omega (arith, less)))

  pub pages_out : (k q : ℕ) → ((j : ℕ) → j < k → q ≢ page_number cache.0 j) → ids.get (after k).pages q ≡ ids.get m.pages q
  pages_out zero q out = refl
  pages_out (suc k) q out =
      ap (λ (p : Pages). ids.get p q) (page_next k)
      ∙ inserted_other (after k).pages (page_number cache.0 k) (node_by cache k) q (out k (omega arith))
      ∙ pages_out k q (λ j less. out j (omega (arith, less)))

  pages_in : (k j : ℕ) → j < k → ids.get (after k).pages (page_number cache.0 j) ≡ Some (node_by cache j)
  pages_in zero j less = absurd (omega (arith, less))
  pages_in (suc k) j less = ap (λ (p : Pages). ids.get p (page_number cache.0 j)) (page_next k) ∙ elim (cases_eq j k) [
    | inl same ↦
        ap (λ (i : ℕ). ids.get (ids.insert (after k).pages (page_number cache.0 k) (node_by cache k)) (page_number cache.0 i)) same
        ∙ inserted_here (after k).pages (page_number cache.0 k) (node_by cache k) ∙ ap (λ (i : ℕ). Some (node_by cache i)) (sym same)
    | inr other ↦
        inserted_other (after k).pages (page_number cache.0 k) (node_by cache k) (page_number cache.0 j) (λ e. other (let at : j ≡ k = omega (arith, e) in at))
        ∙ pages_in k j (omega (arith, less, other))
  ]

  -- the nodes come one after the other
  filled : (k from : ℕ) → ((page : ℕ) → page < from + k → ids.get m.cells (page_number cache.0 page) ≡ None)
      → IsFilled (after from).cells cache from own (nodes_by cache from k) (after (from + k)).cells
  filled zero from free = (let e : from + 0 ≡ from = omega arith in ap (λ (j : ℕ). (after j).cells) e)
  filled (suc k) from free =
      let one : from + 1 ≡ suc from = omega arith in
      let all : from + 1 + k ≡ from + suc k = omega arith in
      let rest = filled k (from + 1) (λ page less. free page (omega (arith, less))) in
      let P : ℕ → Type 0 = λ j. IsFilled (after j).cells cache (from + 1) own (nodes_by cache (from + 1) k) (after (from + suc k)).cells in
      let Q : ℕ → Type 0 = λ j. IsFilled (after (from + 1)).cells cache (from + 1) own (nodes_by cache (from + 1) k) (after j).cells in
      (cells_out from (page_number cache.0 from) (λ j less e. omega (arith, less, e)) ∙ free from (omega arith), subst P one (subst Q all rest))

  entries : (count k from : ℕ) → from + k ≤ count → entries_by (after count).pages cache.0 from k ≡ map entry_for (nodes_by cache from k)
  entries count zero from few = refl
  entries count (suc k) from few =
      let one = pages_in count from (omega (arith, few)) in
      let rest = entries count k (from + 1) (omega (arith, few)) in
      λ i. record { node = one i } ∷ rest i

  room_after : (k : ℕ) → (after k).room ≡ m.room - k
  room_after zero = omega arith
  room_after (suc k) = (let before = room_after k in omega (arith, before))

  made_after : (k : ℕ) → (after k).made ≡ m.made
  made_after zero = refl
  made_after (suc k) = made_after k

-- The tables

pub length_tables : (m : Pages) (from : ℕ) (rows : List (Option CacheRow))
    → length (tables_by m from rows) ≡ length rows
length_tables m from [] = refl
length_tables m from (r ∷ rows) = let rest = length_tables m (from + 1) rows in omega (arith, rest)

pub tables_append : (m : Pages) (from : ℕ) (rows : List (Option CacheRow)) (r : Option CacheRow)
    → tables_by m from (rows ++ r ∷ [])
    ≡ tables_by m from rows ++ option_map (table_by m (from + length rows)) r ∷ []
tables_append m from [] r =
    let at : from ≡ from + 0 = omega arith in
    λ i. option_map (table_by m (at i)) r ∷ []
tables_append m from (o ∷ rows) r =
    let at : from + 1 + length rows ≡ from + length (o ∷ rows) = omega arith in
    let rest = tables_append m (from + 1) rows r in
    (λ i. option_map (table_by m from) o ∷ rest i)
    ∙ (λ i. option_map (table_by m from) o ∷ tables_by m (from + 1) rows ++ option_map (table_by m (at i)) r ∷ [])

pub row_within : {X : Type 0} (rows : List (Option X)) (k : ℕ) (r : X) → get_or rows k None ≡ Some r
    → k < length rows
row_within [] k r is = absurd (none-some r is)
row_within (o ∷ rows) zero r is = omega arith
row_within (o ∷ rows) (suc k) r is = let rest = row_within rows k r is in omega (arith, rest)

-- The arena

module _ (m : PageNodes) (c : CacheRows) (cache : CacheId) (segment : Option SegId) (own : OwnState) (pages : ℕ) (few : AreShort c.rows) (short : pages < 2 ^ 32)
    (number : cache.0 ≡ length c.rows + 1) (free : (page : ℕ) → page < pages → ids.get m.cells (page_number cache.0 page) ≡ None) where
  abbrev new : PageNodes
  new = made_first m cache own pages

  abbrev ns : List NodeId
  ns = nodes_by cache 0 pages

  -- the other caches have the nodes that they had
  others_kept : (k page : ℕ) → k < cache.0 → page < 2 ^ 32 → ids.get new.pages (page_number k page) ≡ ids.get m.pages (page_number k page)
  others_kept k page below fits = pages_out m cache own pages (page_number k page) (λ j less e. (let bad : ⊥ = omega (arith, below, fits, less, short, e) in bad))

  old_tables_are : tables_by new.pages 1 c.rows ≡ tables_by m.pages 1 c.rows
  old_tables_are = tables_same m.pages new.pages 1 c.rows (λ k r page is below.
      others_kept (1 + k) page
      (omega (arith, number, row_within c.rows k r is))
      (omega (arith, few k r is, below)))

  new_table_is : table_by new.pages (1 + length c.rows) (new_row segment pages) ≡ new_table segment ns
  new_table_is =
      let at : 1 + length c.rows ≡ cache.0 = omega (arith, number) in
      let all = sym (length_nodes cache 0 pages) in
      let entries_are = (λ i. entries_by new.pages (at i) 0 pages) ∙ entries m cache own pages pages 0 (omega arith) in
      λ i. record {
        segment = segment;
        pages = entries_are i;
        grants = replicate (all i) false;
        locks = replicate (all i) 0;
      }

  tables_are : tables_by new.pages 1 (with_row c segment pages).rows ≡ tables_by m.pages 1 c.rows ++ Some (new_table segment ns) ∷ []
  tables_are =
      tables_append new.pages 1 c.rows (Some (new_row segment pages))
      ∙ (λ i. old_tables_are i ++ Some (new_table_is i) ∷ [])

  all_filled : IsFilled m.cells cache 0 own ns new.cells
  all_filled =
      let P : ℕ → Type 0 = λ j. IsFilled m.cells cache 0 own ns (made_first m cache own j).cells in
      let whole : 0 + pages ≡ pages = omega arith in
      subst P whole (filled m cache own pages 0 (λ page less. free page (omega (arith, less))))

  pub made_by : MakesCache (arena_by m c) (arena_by new (with_row c segment pages)) cache segment pages own
  made_by =
      let all = sym (length_nodes cache 0 pages) in (
        ns,
        length_nodes cache 0 pages,
        record {
          number = number ∙ ap (λ (k : ℕ). k + 1) (sym (length_tables m.pages 1 c.rows));
          cells = all_filled;
          caches = tables_are;
          made = made_after m cache own pages;
          copies = refl;
          room = (λ i. record {
            nodes = room_after m cache own pages i;
            caches = c.places - 1;
            entries = c.entries - pages;
          }) ∙ (λ i. record {
            nodes = m.room - all i;
            caches = c.places - 1;
            entries = c.entries - all i;
          });
        },
      )
