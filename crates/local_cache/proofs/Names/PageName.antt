-- A node under another name: it becomes that of a page that has none, and the page that it was the
-- node of has none then.
use Rattle.std.proofs.Common.{◌≡◌, ◌≢◌, Option, Some, None, is_some, refl, sym, ap, ◌∙◌, subst, inl, inr}
use Rattle.vm_ids.specs.declared.node_name.NodeName.{NodeName}
use Rattle.vm_ids.specs.declared.node_name.NodeName.TheVariants.{Live}
use Rattle.vm_ids.specs.declared.numbers.CacheId.{CacheId}
use Rattle.vm_ids.specs.declared.numbers.NodeId.{NodeId}
use Rattle.vm_ids.specs.declared.numbers.PageNo.{PageNo}
use Rattle.vm_ids.specs.Forest.NameLists.{swapped}
use Rattle.vm_ids.specs.Forest.Changes.{rename}
use Rattle.vm_ids.specs.Forest.Nodes.{node}
use Rattle.vm_ids.specs.Forest.PageMap.{bare, no_page}
use Rattle.vm_ids.proofs.Forest.Detaching.{swapped_b, swapped_other}
use Rattle.vm_ids.proofs.Forest.PageMap.{rename-map}
use Rattle.vm_ids.proofs.Forest.Renaming.{node-rename}
use Rattle.local_cache.specs.Arena as arena
use Rattle.local_cache.specs.Arena.{Arena, HasNode, IsVacant, cell, entry_at, find, node_at, tables_with, with_name}
use Rattle.local_cache.specs.Own.{own_of}
use Rattle.local_cache.specs.Reading.{forest_of, name_of}
use Rattle.local_cache.specs.ReadingBy.{Tells, forest_by}
use Rattle.local_cache.specs.Sound.{IsKept}
use Rattle.local_cache.specs.Whole.{SameCaches}
use Rattle.local_cache.proofs.Nodes.Cells.{cell-put, cell-put_other, find-put, find-put_other}
use Rattle.local_cache.proofs.NewNode.FreshNode.{vacant-unnamed}
use Rattle.local_cache.proofs.Tables.Listing.{other-entry}
use Rattle.local_cache.proofs.Forest.ReadingBy.{bare-rule, lifted, page-at}
use Rattle.local_cache.proofs.Names.Renaming.{page-renamed-forest, page-renamed-kept}
use Rattle.local_cache.proofs.Tables.Sizes.{sizes_by, sizes_then}
use Rattle.local_cache.proofs.Nodes.OwnStates.{id_cases}
use Rattle.local_cache.proofs.Names.WorkingName.{vacated}

module _ (a : Arena) (n : NodeId) (x : NodeName) where
  cell_as : (m : NodeId) → cell (with_name a n x) m ≡ cell (arena.put a n (record (cell a n) { name = x })) m
  unfolding cell
  cell_as m = refl

  held_as : HasNode a n → (m : NodeId) → is_some (find (with_name a n x) m) ≡ is_some (find a m)
  held_as h m = elim (id_cases m n) [
    | inl e ↦ ap (λ k. is_some (find (arena.put a n (record (cell a n) { name = x })) k)) e ∙ ap is_some (find-put a n (record (cell a n) { name = x })) ∙ sym h ∙ ap (λ k. is_some (find a k)) (sym e)
    | inr ne ↦ ap is_some (find-put_other a n m (record (cell a n) { name = x }) ne)
  ]

  own_as : (m : NodeId) → own_of (with_name a n x) m ≡ own_of a m
  own_as m = ap (λ c. c.own) (cell_as m) ∙ elim (id_cases m n) [
    | inl e ↦ ap (λ k. own_of (arena.put a n (record (cell a n) { name = x })) k) e ∙ ap (λ c. c.own) (cell-put a n (record (cell a n) { name = x })) ∙ ap (own_of a) (sym e)
    | inr d ↦ ap (λ c. c.own) (cell-put_other a n m (record (cell a n) { name = x }) d)
  ]

  name_as : name_of (with_name a n x) n ≡ x
  name_as = ap (λ c. c.name) (cell_as n) ∙ ap (λ c. c.name) (cell-put a n (record (cell a n) { name = x }))

  name_as_other : (m : NodeId) → m ≢ n → name_of (with_name a n x) m ≡ name_of a m
  name_as_other m d = ap (λ c. c.name) (cell_as m) ∙ ap (λ c. c.name) (cell-put_other a n m (record (cell a n) { name = x }) d)

  room_as : (with_name a n x).room ≡ a.room
  unfolding arena.put
  room_as = refl

module _ (b : Arena) (kept : IsKept b) (n : NodeId) (h : HasNode b n) (y : NodeName) (named : name_of b n ≡ y) (cache : CacheId) (page : PageNo) (vacant : IsVacant b cache page) (c : Arena) (is : c ≡ with_name b n (Live cache page)) where
  abbrev x : NodeName
  x = Live cache page

  pub renamed_kept : IsKept c
  renamed_kept = subst IsKept (sym is) (page-renamed-kept b kept n h cache page vacant)

  pub renamed_forest : forest_of c ≡ rename (forest_of b) y (Live cache page)
  renamed_forest = ap forest_of is ∙ page-renamed-forest b kept n h cache page vacant ∙ ap (λ z. rename (forest_of b) z x) named

  pub renamed_held : (m : NodeId) → is_some (find c m) ≡ is_some (find b m)
  renamed_held m = ap (λ (k : Arena). is_some (find k m)) is ∙ held_as b n x h m

  pub renamed_own : (m : NodeId) → own_of c m ≡ own_of b m
  renamed_own m = ap (λ (k : Arena). own_of k m) is ∙ own_as b n x m

  name_here : name_of c n ≡ x
  name_here = ap (λ (k : Arena). name_of k n) is ∙ name_as b n x

  pub name_other : (m : NodeId) → m ≢ n → name_of c m ≡ name_of b m
  name_other m d = ap (λ (k : Arena). name_of k m) is ∙ name_as_other b n x m d

  pub renamed_room : c.room.nodes ≡ b.room.nodes
  renamed_room = ap (λ (k : Arena). k.room.nodes) is ∙ ap (λ r. r.nodes) (room_as b n x)

  pub renamed_sizes : SameCaches b c
  renamed_sizes =
      let cleared : Arena = record b { caches = tables_with b.caches (name_of b n) None } in
      sizes_then b cleared c (sizes_by b cleared (name_of b n) None refl) (sizes_by cleared c x (Some n) (ap (λ (k : Arena). k.caches) is))

  -- the forest of any pages
  module _ {P : Type 0} (own : NodeId → Option P) (told : Tells own b) (told_c : Tells own c) where
    pub renamed-by : forest_by own c ≡ rename (forest_by own b) y (Live cache page)
    renamed-by = lifted own c renamed_kept.named told_c (rename (forest_by own b) y x)
        (ap bare renamed_forest ∙ bare-rule own b kept.named told (λ f. rename f y x) (λ f. rename f y x) (λ f. rename f y x) (λ f. rename-map no_page f y x) (λ f. rename-map no_page f y x))
        (λ m k.
        let was : HasNode b m = sym (renamed_held m) ∙ k in
        let moved : (z : NodeName) → (node (rename (forest_by own b) y x) z).own ≡ (node (forest_by own b) (swapped y x z)).own = λ z. ap (λ q. q.own) (node-rename y x (forest_by own b) z) in
        let apart : x ≢ y = λ e. vacant-unnamed b kept cache page vacant n h (named ∙ sym e) in
        sym (moved (name_of c m) ∙ elim (id_cases m n) [
          | inl e ↦ ap (λ z. (node (forest_by own b) (swapped y x z)).own) (ap (name_of c) e ∙ name_here) ∙ ap (λ z. (node (forest_by own b) z).own) (swapped_b y x apart ∙ sym named) ∙ page-at own b kept.named n h ∙ ap own (sym e)
          | inr d ↦ ap (λ z. (node (forest_by own b) (swapped y x z)).own) (name_other m d)
              ∙ ap (λ z. (node (forest_by own b) z).own) (swapped_other y x (name_of b m) (λ e. d (kept.named.apart m n was h (e ∙ sym named))) (vacant-unnamed b kept cache page vacant m was)) ∙ page-at own b kept.named m was
        ]))

  -- the page that it was the node of has none
  pub renamed_vacant : (from : CacheId) (from_page : PageNo) → y ≡ Live from from_page → node_at b from.0 from_page.0 ≡ Some n → IsVacant c from from_page
  renamed_vacant from from_page y_is at =
      let apart : x ≢ Live from from_page = λ e. vacant-unnamed b kept cache page vacant n h (named ∙ y_is ∙ sym e) in
      ap (λ (k : Arena). entry_at k.caches from.0 from_page.0) is
      ∙ other-entry (tables_with b.caches (name_of b n) None) from.0 from_page.0 x (Some n) apart
      ∙ vacated b n from from_page (named ∙ y_is) at
