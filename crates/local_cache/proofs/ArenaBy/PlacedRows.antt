-- Each call that makes, changes or removes a cache keeps that nodes of pages are placed.
use Rattle.std.proofs.Common.{◌≡◌, ◌≢◌, ℕ, zero, suc, ◌+◌, ◌<◌, ◌≤◌, ◌^◌, List, [], ◌∷◌, ◌++◌, length, get_or, set, Option, Some, None, IsSome, is_some, option_map, refl, ap, sym, ◌∙◌, inl, inr, arith}
use Rattle.std.specs.Prelude.{option_and_then}
use Rattle.std.proofs.lemmas.Bool.{cases_eq, false≢true}
use Rattle.std.proofs.lemmas.Option.{none-some}
use Rattle.std.specs.FinMap as ids
use Rattle.vm_ids.specs.declared.node_name.NodeName.{NodeName}
use Rattle.vm_ids.specs.declared.node_name.NodeName.TheVariants.{Live, Working}
use Rattle.vm_ids.specs.declared.numbers.CacheId.{CacheId}
use Rattle.vm_ids.specs.declared.numbers.NodeId.{NodeId}
use Rattle.vm_ids.specs.declared.numbers.SegId.{SegId}
use Rattle.local_cache.specs.declared.own_state.OwnState.{OwnState}
use Rattle.local_cache.specs.Arena.{Cell}
use Rattle.local_cache.specs.ArenaBy.{CacheRow, CacheRows}
use Rattle.local_cache.specs.Placed.{ArePlaced, HasRow, IsNameOfPage}
use Rattle.local_cache.specs.RowChanges.{new_row, row_at, rows_changed, rows_without, with_row}
use Rattle.local_cache.specs.NodeKeys.{key_at, page_key, page_number, page_of_name}
use Rattle.local_cache.specs.PageNodes.{PageNodes, find, made_first}
use Rattle.local_cache.proofs.ArenaBy.EachRow.{each_changed, each_left, each_more}
use Rattle.local_cache.proofs.ArenaBy.NewCache.{cells_out, node_by, pages_out}
use Rattle.local_cache.proofs.ArenaBy.Placed.{kept_new, next_vacant}
use Rattle.std.proofs.Common.{length-set, length-append}
use Rattle.local_cache.proofs.Tables.Listing.{read_other, read_set}

-- names placed among some rows are placed among others that have the same pages
carry : (rows after : List (Option CacheRow))
    → ((cache page : ℕ) → HasRow rows cache page → HasRow after cache page)
    → (x : NodeName) → IsNameOfPage rows x → IsNameOfPage after x
carry rows after still (Working k) at = tt
carry rows after still (Live cache page) at = still cache.0 page.0 at

-- One row changed

module _ (change : CacheRow → CacheRow) (same : (r : CacheRow) → (change r).pages ≡ r.pages)
    (rows : List (Option CacheRow)) where
  changed : ℕ → List (Option CacheRow)
  changed k = set rows k (option_map change (get_or rows k None))

  still_there : (cache k page : ℕ) → HasRow rows cache page → HasRow (changed k) cache page
  unfolding changed
  still_there zero k page has = absurd (none-some has.row has.is)
  still_there (suc j) k page has = elim (cases_eq j k) [
    | inl e ↦ record {
      row = change has.row;
      is = ap (λ (i : ℕ). get_or (changed k) i None) e ∙ read_set rows k change
          ∙ ap (option_map change) (ap (λ (i : ℕ). get_or rows i None) (sym e) ∙ has.is);
      below = omega (arith, has.below, same has.row);
    }
    | inr apart ↦ record {
      row = has.row;
      is = read_other rows k j (option_map change (get_or rows k None)) apart ∙ has.is;
      below = has.below;
    }
  ]

  pub kept_changed : (m : PageNodes) (cache : ℕ) → ArePlaced m rows
      → ArePlaced m (rows_changed rows cache change)
  unfolding changed
  kept_changed m zero right = right
  kept_changed m (suc k) right =
      record {
        paged = right.paged;
        placed = λ n d is.
            carry rows (changed k) (λ cache page has. still_there cache k page has) d.name (right.placed n d is);
        short = each_changed (λ r. r.pages < 2 ^ 32) change (λ r few. omega (arith, few, same r)) rows (suc k) right.short;
        first = λ n low held. omega (arith, right.first n low held, length-set rows k (option_map change (get_or rows k None)));
      }

-- A row less

module _ (m : PageNodes) (rows : List (Option CacheRow)) (right : ArePlaced m rows) (k : ℕ)
    (gone : (page : ℕ) → HasRow rows (suc k) page → ids.get m.pages (page_number (suc k) page) ≡ None) where
  not_gone : (cache page : ℕ) → IsSome (ids.get m.pages (page_number cache page)) → HasRow rows cache page
      → HasRow (set rows k None) cache page
  not_gone zero page some has = absurd (none-some has.row has.is)
  not_gone (suc j) page some has = elim (cases_eq j k) [
    | inl e ↦
        let here : HasRow rows (suc k) page = record {
          row = has.row;
          is = ap (λ (i : ℕ). get_or rows i None) (sym e) ∙ has.is;
          below = has.below;
        } in
        absurd (false≢true (sym (ap is_some
        (ap (λ (i : ℕ). ids.get m.pages (page_number (suc i) page)) e ∙ gone page here)) ∙ some))
    | inr apart ↦ record {
      row = has.row;
      is = read_other rows k j None apart ∙ has.is;
      below = has.below;
    }
  ]

  still_placed : (n : NodeId) (d : Cell) → find m n ≡ Some d → (x : NodeName) → d.name ≡ x
      → IsNameOfPage rows x → IsNameOfPage (set rows k None) x
  still_placed n d is (Working j) name at = tt
  still_placed n d is (Live cache page) name at =
      let key : key_at page_key m.cells n.0 ≡ Some (page_number cache.0 page.0) =
      ap (option_and_then page_key) is ∙ ap page_of_name name in
      not_gone cache.0 page.0
      (ap is_some ((right.paged (page_number cache.0 page.0) n.0).1 key))
      at

  left : ArePlaced m (set rows k None)
  left =
      record {
        paged = right.paged;
        placed = λ n d is. still_placed n d is d.name refl (right.placed n d is);
        short = each_left (λ r. r.pages < 2 ^ 32) rows (suc k) right.short;
        first = λ n low held. omega (arith, right.first n low held, length-set {A = Option CacheRow} rows k None);
      }

-- a cache whose pages have no nodes is removed
pub kept_removed : (m : PageNodes) (rows : List (Option CacheRow)) (cache : ℕ) → ArePlaced m rows
    → ((page : ℕ) → HasRow rows cache page → ids.get m.pages (page_number cache page) ≡ None)
    → ArePlaced m (rows_without rows cache)
kept_removed m rows zero right gone = right
kept_removed m rows (suc k) right gone = left m rows right k gone

-- A row more

module _ (r : CacheRow) where
  get_more : (rows : List (Option CacheRow)) (k : ℕ) (s : CacheRow) → get_or rows k None ≡ Some s
      → get_or (rows ++ Some r ∷ []) k None ≡ Some s
  get_more [] k s is = absurd (none-some s is)
  get_more (o ∷ rows) zero s is = is
  get_more (o ∷ rows) (suc k) s is = get_more rows k s is

  get_last : (rows : List (Option CacheRow)) → get_or (rows ++ Some r ∷ []) (length rows) None ≡ Some r
  get_last [] = refl
  get_last (o ∷ rows) = get_last rows

  row_more : (rows : List (Option CacheRow)) (cache page : ℕ) → HasRow rows cache page
      → HasRow (rows ++ Some r ∷ []) cache page
  row_more rows zero page has = absurd (none-some has.row has.is)
  row_more rows (suc k) page has =
      record { row = has.row; is = get_more rows k has.row has.is; below = has.below }

  kept_more : (m : PageNodes) (rows : List (Option CacheRow)) → ArePlaced m rows → r.pages < 2 ^ 32
      → ArePlaced m (rows ++ Some r ∷ [])
  kept_more m rows right few =
      record {
        paged = right.paged;
        placed = λ n d is. carry rows (rows ++ Some r ∷ []) (row_more rows) d.name (right.placed n d is);
        short = each_more (λ x. x.pages < 2 ^ 32) r few rows right.short;
        first = λ n low held. omega (arith, right.first n low held, length-append rows (Some r ∷ []));
      }

-- the nodes of the new pages
module _ (m : PageNodes) (c : CacheRows) (cache : CacheId) (segment : Option SegId) (own : OwnState) (pages : ℕ) (right : ArePlaced m c.rows) (few : pages < 2 ^ 32)
    (number : cache.0 ≡ length c.rows + 1) (free : (page : ℕ) → page < pages → ids.get m.cells (page_number cache.0 page) ≡ None) where
  abbrev r : CacheRow
  r = new_row segment pages

  has_new : (page : ℕ) → page < pages → HasRow (with_row c segment pages).rows cache.0 page
  has_new page below =
      let index : cache.0 ≡ suc (length c.rows) = omega (arith, number) in
      record { row = r; is = ap (row_at (with_row c segment pages).rows) index ∙ get_last r c.rows; below = below }

  pub kept_made : (k : ℕ) → k ≤ pages → ArePlaced (made_first m cache own k) (with_row c segment pages).rows
  kept_made zero le = kept_more r m c.rows right few
  kept_made (suc k) le =
      let apart : (j : ℕ) → j < k → page_number cache.0 k ≢ page_number cache.0 j = λ j less e. (let bad : ⊥ = omega (arith, less, e) in bad) in
      kept_new (made_first m cache own k) (with_row c segment pages).rows (kept_made k (omega (arith, le))) (node_by cache k) (Live cache (record { 0 = k })) (page_number cache.0 k) own
      (cells_out m cache own k (page_number cache.0 k) apart ∙ free k (omega (arith, le))) refl
      (pages_out m cache own k (page_number cache.0 k) apart ∙ next_vacant m c.rows right cache.0 k (omega (arith, number)) (omega (arith, le, few)))
      (has_new k (omega (arith, le))) (λ low. omega (arith, number, le, few, length-append c.rows (Some r ∷ [])))
