-- Each call keeps that nodes of pages are found under numbers of pages of live caches.
use Rattle.std.proofs.Common.{◌≡◌, ℕ, zero, suc, ◌+◌, ◌<◌, ◌≤◌, ◌^◌, List, [], length, Option, Some, None, IsSome, is_some, unwrap_or, refl, ap, sym, subst, ◌∙◌, inl, inr, arith}
use Rattle.std.specs.Prelude.{option_and_then}
use Rattle.std.proofs.lemmas.Bool.{cases_eq, false≢true}
use Rattle.std.proofs.lemmas.Option.{none-some, same_Some}
use Rattle.std.specs.FinMap as ids
use Rattle.vm_ids.specs.declared.node_name.NodeName.{NodeName}
use Rattle.vm_ids.specs.declared.node_name.NodeName.TheVariants.{Live, Working}
use Rattle.vm_ids.specs.declared.numbers.NodeId.{NodeId}
use Rattle.local_cache.specs.declared.own_state.OwnState.{OwnState}
use Rattle.local_cache.specs.Arena.{Cell, blank, new_cell}
use Rattle.local_cache.specs.ArenaBy.{CacheRow}
use Rattle.local_cache.specs.NodeCells.{Cells, HasCell, named}
use Rattle.local_cache.specs.NodeKeys.{page_key, page_number, page_of_name}
use Rattle.local_cache.specs.PageNodes.{ArePaged, HasNode, PageNodes, as_working, cell, find, with_new, without}
use Rattle.local_cache.specs.Pages.{Pages}
use Rattle.local_cache.specs.Placed.{ArePlaced, HasRow, IsNameOfPage, IsShort}
use Rattle.local_cache.proofs.ArenaBy.NewCache.{row_within}
use Rattle.local_cache.proofs.ArenaBy.Nodes.{page_come}
use Rattle.local_cache.proofs.NewCache.FoundPages.{some_of}
use Rattle.local_cache.proofs.NodeCells.{inserted_here, inserted_other, still_there}
use Rattle.local_cache.proofs.NodesKept.{SameNames, name_of, paged_same, there_same}
use Rattle.local_cache.proofs.PagesKept.{paged_come, paged_without, paged_working}

-- What follows

-- a row stands at the number of a cache that was made
record IsWithin (rows : List (Option CacheRow)) (cache page : ℕ) : Type 0 where
  made : cache ≤ length rows
  short : page < 2 ^ 32

module _ (m : PageNodes) (rows : List (Option CacheRow)) (right : ArePlaced m rows) where
  within : (cache page : ℕ) → HasRow rows cache page → IsWithin rows cache page
  within zero page has = absurd (none-some has.row has.is)
  within (suc k) page has = record {
    made = (let below : k < length rows = row_within rows k has.row has.is in omega (arith, below));
    short = omega (arith, right.short k has.row has.is, has.below);
  }

  -- a name that is placed is short
  pub short_name : (x : NodeName) → IsNameOfPage rows x → IsShort x
  short_name (Working k) at = tt
  short_name (Live cache page) at = (within cache.0 page.0 at).short

  -- the name of a node is placed
  pub placed_name : (n : NodeId) → HasNode m n → IsNameOfPage rows (cell m n).name
  placed_name n held =
      let d = some_of (find m n) held in
      subst (λ (o : Option Cell). IsNameOfPage rows (unwrap_or o blank).name) (sym d.1) (right.placed n d.0 d.1)

  -- and short
  pub named_short : (n : NodeId) → HasNode m n → IsShort (cell m n).name
  named_short n held = short_name (cell m n).name (placed_name n held)

  -- what is found under a number is the node of a page of a live cache
  pub under_key : (k : ℕ) → IsSome (ids.get m.pages k)
      → (cache : ℕ) × (page : ℕ) × (k ≡ page_number cache page) × HasRow rows cache page
  under_key k some =
      let v = some_of (ids.get m.pages k) some in
      by_cell v.0.0 (ids.get m.cells v.0.0) refl ((right.paged k v.0.0).0 v.1)
    where
      by_name : (x : NodeName) → IsNameOfPage rows x → page_of_name x ≡ Some k
          → (cache : ℕ) × (page : ℕ) × (k ≡ page_number cache page) × HasRow rows cache page
      by_name (Working j) at is = absurd (none-some k is)
      by_name (Live cache page) at is =
          (cache.0, page.0, sym (same_Some (page_number cache.0 page.0) k is), at)

      by_cell : (n : ℕ) (o : Option Cell) → ids.get m.cells n ≡ o → option_and_then page_key o ≡ Some k
          → (cache : ℕ) × (page : ℕ) × (k ≡ page_number cache page) × HasRow rows cache page
      by_cell n None found is = absurd (none-some k is)
      by_cell n (Some d) found is = by_name d.name (right.placed (record { 0 = n }) d found) is

  -- nothing is found under the numbers of a cache that wasn't made yet
  pub next_vacant : (cache page : ℕ) → length rows < cache → page < 2 ^ 32
      → ids.get m.pages (page_number cache page) ≡ None
  next_vacant cache page above short = go (ids.get m.pages (page_number cache page)) refl
    where
      go : (o : Option NodeId) → ids.get m.pages (page_number cache page) ≡ o
          → ids.get m.pages (page_number cache page) ≡ None
      go None is = is
      go (Some v) is =
          let at = under_key (page_number cache page) (ap is_some is) in
          let in_rows = within at.0 at.1 at.3 in
          let bad : ⊥ = omega (arith, at.2, above, short, in_rows.made, in_rows.short) in
          absurd bad

-- No node

pub none_placed : (m : PageNodes) → ((n : NodeId) → find m n ≡ None)
    → ((k : ℕ) → ids.get m.pages k ≡ None) → ArePlaced m []
none_placed m no_cell no_page =
    record {
      paged = λ k n. (
        λ h. absurd (none-some _ (sym (no_page k) ∙ h)),
        λ h. absurd (none-some k (sym (ap (option_and_then page_key) (no_cell (record { 0 = n }))) ∙ h)),
      );
      placed = λ n d is. absurd (none-some d (sym (no_cell n) ∙ is));
      short = λ k r is. absurd (none-some r is);
      first = λ n low held. absurd (false≢true (sym (ap is_some (no_cell (record { 0 = n }))) ∙ held));
    }

-- The same pages and the same names

pub kept_same : (m new : PageNodes) (rows : List (Option CacheRow)) → new.cells ≡ m.cells → new.pages ≡ m.pages → ArePlaced m rows → ArePlaced new rows
kept_same m new rows cells pages right = record {
  paged = subst (λ (p : Pages). ArePaged new.cells p) (sym pages) (subst (λ (d : Cells). ArePaged d m.pages) (sym cells) right.paged);
  placed = λ n d is. right.placed n d (ap (λ (x : Cells). ids.get x n.0) (sym cells) ∙ is);
  short = right.short;
  first = λ n low held. right.first n low (ap (λ (x : Cells). is_some (ids.get x n)) (sym cells) ∙ held);
}

by_name : (o : Option Cell) (x : NodeName) → Some x ≡ name_of o → (d : Cell) × (o ≡ Some d) × (d.name ≡ x)
by_name None x e = absurd (none-some x (sym e))
by_name (Some d) x e = (d, refl, sym (same_Some x d.name e))

pub kept_names : (m : PageNodes) (new : Cells) (rows : List (Option CacheRow)) → SameNames m.cells new → ArePlaced m rows → ArePlaced (record m { cells = new }) rows
kept_names m new rows same right = record {
  paged = paged_same m.cells new same m.pages right.paged;
  placed = λ n d is.
      (let was = by_name (find m n) d.name (sym (ap name_of is) ∙ same n.0) in
      subst (IsNameOfPage rows) was.2 (right.placed n was.0 was.1));
  short = right.short;
  first = λ n low held. right.first n low (sym (there_same m.cells new same n) ∙ held);
}

-- One node

module _ (m : PageNodes) (rows : List (Option CacheRow)) (right : ArePlaced m rows) (n : NodeId) where
  -- another name of a node, or a new node
  placed_with : (d : Cell) → IsNameOfPage rows d.name → (i : NodeId) (e : Cell) → ids.get (ids.insert m.cells n.0 d) i.0 ≡ Some e → IsNameOfPage rows e.name
  placed_with d at i e is = elim (cases_eq i.0 n.0) [
    | inl same ↦
        let is_d : d ≡ e = same_Some d e (sym (ap (ids.get (ids.insert m.cells n.0 d)) same ∙ inserted_here m.cells n.0 d) ∙ is) in
        subst (λ (x : Cell). IsNameOfPage rows x.name) is_d at
    | inr other ↦ right.placed i e (sym (inserted_other m.cells n.0 d i.0 other) ∙ is)
  ]

  first_with : (d : Cell) → (n.0 < 2 ^ 61 → n.0 < page_number (length rows + 1) 0) → (i : ℕ) → i < 2 ^ 61 → HasCell (ids.insert m.cells n.0 d) i → i < page_number (length rows + 1) 0
  first_with d mine i low held = elim (cases_eq i n.0) [
    | inl same ↦ (let here = mine (omega (arith, same, low)) in omega (arith, same, here))
    | inr other ↦ right.first i low (sym (ap is_some (inserted_other m.cells n.0 d i other)) ∙ held)
  ]

  pub kept_as_working : HasNode m n → ArePlaced (as_working m n) rows
  kept_as_working held = record {
    paged = paged_working m.cells m.pages n.0 (m.made + 1) right.paged held;
    placed = placed_with (named (Working (m.made + 1)) (cell m n)) tt;
    short = right.short;
    first = first_with (named (Working (m.made + 1)) (cell m n)) (λ low. right.first n.0 low held);
  }

  -- a new node of a page that has none
  pub kept_new : (x : NodeName) (page : ℕ) (s : OwnState) → find m n ≡ None → page_of_name x ≡ Some page → ids.get m.pages page ≡ None → IsNameOfPage rows x
      → (n.0 < 2 ^ 61 → n.0 < page_number (length rows + 1) 0) → ArePlaced (with_new m n x s) rows
  kept_new (Working k) page s none is free at low = absurd (none-some page is)
  kept_new (Live cache of) page s none is free at low =
      let d : Cell = new_cell (Live cache of) s in
      let key : page_number cache.0 of.0 ≡ page = same_Some _ _ is in
      let come = paged_come m.cells (ids.insert m.cells n.0 d) m.pages n.0 (page_number cache.0 of.0) right.paged (ap (ids.get m.pages) key ∙ free)
      (λ k e. none-some k (sym (ap (option_and_then page_key) none) ∙ e)) (ap (option_and_then page_key) (inserted_here m.cells n.0 d))
      (λ q other. ap (option_and_then page_key) (inserted_other m.cells n.0 d q other)) in
      record {
        paged = subst (λ (p : Pages). ArePaged (ids.insert m.cells n.0 d) p) (sym (page_come m.pages cache of n)) come;
        placed = placed_with d at;
        short = right.short;
        first = first_with d low;
      }

  -- a node less
  pub kept_without : HasNode m n → ArePlaced (without m n) rows
  kept_without held = record {
    paged = paged_without m.cells m.pages n.0 right.paged held;
    placed = λ i d is. right.placed i d (still_there m.cells n.0 i.0 d is).1;
    short = right.short;
    first = λ i low there. right.first i low (ap is_some (still_there m.cells n.0 i _ (some_of (ids.get (ids.remove m.cells n.0) i) there).1).1);
  }
