-- The homes of nodes, and what leaves them.
use Rattle.std.proofs.Common.{◌≡◌, ◌≢◌, ℕ, zero, suc, ◌+◌, ◌≤◌, List, [], ◌∷◌, length, Option, Some, None, option_map, unwrap_or, refl, sym, ap, ◌∙◌, inl, inr, arith}
use Rattle.std.specs.Prelude.{option_and_then}
use Rattle.std.specs.Cmp.{nat_cmp_total}
use Rattle.std.specs.FinMap.{get-remove}
use Rattle.vm_ids.specs.declared.node_name.NodeName.{NodeName}
use Rattle.vm_ids.specs.declared.node_name.NodeName.TheVariants.{Live, Working}
use Rattle.vm_ids.specs.declared.numbers.CacheId.{CacheId}
use Rattle.vm_ids.specs.declared.numbers.NodeId.{NodeId}
use Rattle.vm_ids.specs.declared.numbers.PageNo.{PageNo}
use Rattle.vm_ids.specs.declared.numbers.SegId.{SegId}
use Rattle.local_cache.specs.declared.home.Home.{Home}
use Rattle.local_cache.specs.declared.own_state.OwnState.{OwnState}
use Rattle.local_cache.specs.Arena.{Arena, Cell, HasPage, HasNode, IsMade, Table, as_working, blank, cell, find, new_cell, put, table_at, tables_with, tables_without, with_grant, with_locks, with_name, with_new, with_own, without, without_cache}
use Rattle.local_cache.specs.Changes.{Like}
use Rattle.local_cache.specs.Home.{home_named, home_of}
use Rattle.local_cache.specs.Reading.{name_of}
use Rattle.local_cache.specs.Sound.{IsListed}
use Rattle.local_cache.specs.Whole.{SameCaches, segment_of}
use Rattle.local_cache.proofs.Changes.SameNodes.{caches-put, id_cases}
use Rattle.local_cache.proofs.Changes.Granted.{granted_cell}
use Rattle.local_cache.proofs.Changes.Locked.{locked_cell}
use Rattle.local_cache.proofs.NewCache.FoundPages.{made_stays, made_tables}
use Rattle.local_cache.proofs.Nodes.Cells.{cell-put, cell-put_other, find-with_new}
use Rattle.local_cache.proofs.Nodes.Numbers.{apart, tied}
use Rattle.local_cache.proofs.Tables.Listing.{node_in, read_other}
use Rattle.local_cache.proofs.Tables.Sizes.{each_table, sizes_granted, sizes_locked}

-- What a home depends on

-- the page of a cache with this segment, or that isn't live
abbrev page_in : PageNo → Option (Option SegId) → Option Home
page_in page o = option_map (λ (s : SegId). record { segment = s; page = page }) (option_and_then (λ (s : Option SegId). s) o)

by_segment : (page : PageNo) (o : Option Table) → option_map (λ (s : SegId). record { segment = s; page = page }) (option_and_then (λ (t : Table). t.segment) o) ≡ page_in page (option_map (λ (t : Table). t.segment) o)
by_segment page None = refl
by_segment page (Some t) = refl

abbrev segment_in : List (Option Table) → ℕ → Option (Option SegId)
segment_in ts cache = option_map (λ (t : Table). t.segment) (table_at ts cache)

-- the name, and the segment of the cache that it names
pub home_where : (ts us : List (Option Table)) (x : NodeName) → ((cache : CacheId) (page : PageNo) → x ≡ Live cache page → segment_in us cache.0 ≡ segment_in ts cache.0) → home_named us x ≡ home_named ts x
home_where ts us (Working k) same = refl
home_where ts us (Live c p) same = by_segment p (table_at us c.0) ∙ ap (page_in p) (same c p refl) ∙ sym (by_segment p (table_at ts c.0))

-- nodes of one name have one home, where the segments of the caches are the same
pub home_by : (a b : Arena) (n m : NodeId) → name_of b m ≡ name_of a n → ((cache : ℕ) → segment_of b cache ≡ segment_of a cache) → home_of b m ≡ home_of a n
home_by a b n m name same = ap (home_named b.caches) name ∙ home_where a.caches b.caches (name_of a n) (λ c p is. same c.0)

pub home_kept : (a b : Arena) → SameCaches a b → (n : NodeId) → name_of b n ≡ name_of a n → home_of b n ≡ home_of a n
home_kept a b caches n name = home_by a b n n name caches.segments

-- a page of a cache has its segment for a home
pub home_page : (a : Arena) (cache : CacheId) (page : ℕ) (own : OwnState) (s : SegId) (p : HasPage a cache page own) → segment_of a cache.0 ≡ Some (Some s) → home_of a p.node ≡ Some (record { segment = s; page = record { 0 = page } })
unfolding cell
home_page a cache page own s p is =
    ap (λ (o : Option Cell). home_named a.caches (unwrap_or o blank).name) p.is
    ∙ by_segment (record { 0 = page }) (table_at a.caches cache.0) ∙ ap (page_in (record { 0 = page })) is

-- What leaves the homes

-- the same nodes under the same names, and the same tables
pub home-like : (a b : Arena) → Like a b → (n : NodeId) → home_of b n ≡ home_of a n
home-like a b like n = λ i. home_named (like.caches i) (like.name n i)

pub home-put : (a : Arena) (n : NodeId) (c : Cell) → c.name ≡ name_of a n → (m : NodeId) → home_of (put a n c) m ≡ home_of a m
home-put a n c same m =
    let name : name_of (put a n c) m ≡ name_of a m = elim (id_cases m n) [
      | inl e ↦ ap (name_of (put a n c)) e ∙ ap (λ (d : Cell). d.name) (cell-put a n c) ∙ same ∙ ap (name_of a) (sym e)
      | inr ne ↦ ap (λ (d : Cell). d.name) (cell-put_other a n m c ne)
    ] in
    λ i. home_named (caches-put a n c i) (name i)

pub home-with_own : (a : Arena) (n : NodeId) (s : OwnState) (m : NodeId) → home_of (with_own a n s) m ≡ home_of a m
home-with_own a n s = home-put a n (record (cell a n) { own = s }) refl

pub home-with_grant : (a : Arena) (cache page : ℕ) (m : NodeId) → home_of (with_grant a cache page) m ≡ home_of a m
home-with_grant a cache page m = home_kept a (with_grant a cache page) (sizes_granted a (with_grant a cache page) cache page refl) m (ap (λ (c : Cell). c.name) (granted_cell a (with_grant a cache page) cache page refl m))

pub home-with_locks : (a : Arena) (cache page count : ℕ) (m : NodeId) → home_of (with_locks a cache page count) m ≡ home_of a m
home-with_locks a cache page count m =
    let b : Arena = with_locks a cache page count in
    home_kept a b (sizes_locked a b cache page count refl) m (ap (λ (c : Cell). c.name) (locked_cell a b cache page count refl m))

-- a page has another node, or none
named-tables_with : (ts : List (Option Table)) (y : NodeName) (o : Option NodeId) (x : NodeName) → home_named (tables_with ts y o) x ≡ home_named ts x
named-tables_with ts y o x = home_where ts (tables_with ts y o) x (λ c p is. each_table (λ (t : Table). t.segment) (λ page n t. refl) ts y o c.0)

-- a node more
caches-with_new : (a : Arena) (n : NodeId) (x : NodeName) (s : OwnState) → (with_new a n x s).caches ≡ tables_with a.caches x (Some n)
unfolding with_new
caches-with_new a n x s = refl

cell_of : (a : Arena) (n : NodeId) → cell a n ≡ unwrap_or (find a n) blank
unfolding cell
cell_of a n = refl

found-with_new : (a : Arena) (n : NodeId) (x : NodeName) (s : OwnState) → find (with_new a n x s) n ≡ Some (new_cell x s)
found-with_new a n x s = find-with_new a n n x s ∙ rw (tied n.0 n.0 refl)

found-with_new_other : (a : Arena) (n : NodeId) (x : NodeName) (s : OwnState) (m : NodeId) → m ≢ n → find (with_new a n x s) m ≡ find a m
found-with_new_other a n x s m ne = find-with_new a n m x s ∙ rw (apart m.0 n.0 (λ e. ne (λ i. record { 0 = e i })))

pub home-with_new : (a : Arena) (n : NodeId) (x : NodeName) (s : OwnState) → home_of (with_new a n x s) n ≡ home_named a.caches x
home-with_new a n x s =
    ap (λ (ts : List (Option Table)). home_named ts (name_of (with_new a n x s) n)) (caches-with_new a n x s)
    ∙ named-tables_with a.caches x (Some n) (name_of (with_new a n x s) n)
    ∙ ap (λ (c : Cell). home_named a.caches c.name) (cell_of (with_new a n x s) n ∙ ap (λ (o : Option Cell). unwrap_or o blank) (found-with_new a n x s))

pub home-with_new_other : (a : Arena) (n : NodeId) (x : NodeName) (s : OwnState) (m : NodeId) → m ≢ n → home_of (with_new a n x s) m ≡ home_of a m
home-with_new_other a n x s m ne =
    ap (λ (ts : List (Option Table)). home_named ts (name_of (with_new a n x s) m)) (caches-with_new a n x s)
    ∙ named-tables_with a.caches x (Some n) (name_of (with_new a n x s) m)
    ∙ ap (λ (c : Cell). home_named a.caches c.name) (cell_of (with_new a n x s) m ∙ ap (λ (o : Option Cell). unwrap_or o blank) (found-with_new_other a n x s m ne) ∙ sym (cell_of a m))

-- a working node more has none
counted_home : (a : Arena) (made : ℕ) (m : NodeId) → home_of (record a { made = made }) m ≡ home_of a m
unfolding cell
counted_home a made m = refl

-- where there is no node there is no home
pub home_none : (a : Arena) (n : NodeId) → find a n ≡ None → home_of a n ≡ None
home_none a n none = ap (λ (c : Cell). home_named a.caches c.name) (cell_of a n ∙ ap (λ (o : Option Cell). unwrap_or o blank) none)

-- another name
module _ (a : Arena) (n : NodeId) (x : NodeName) where
  renamed : Arena
  renamed = put a n (record (cell a n) { name = x })

  abbrev tables : List (Option Table)
  tables = tables_with (tables_with a.caches (cell a n).name None) x (Some n)

  retabled : (m : NodeId) → home_of (with_name a n x) m ≡ home_named tables (name_of renamed m)
  unfolding cell renamed
  retabled m = refl

  named : (y : NodeName) → home_named tables y ≡ home_named a.caches y
  named y = named-tables_with (tables_with a.caches (cell a n).name None) x (Some n) y ∙ named-tables_with a.caches (cell a n).name None y

  pub home-with_name : home_of (with_name a n x) n ≡ home_named a.caches x
  unfolding renamed
  home-with_name = retabled n ∙ named (name_of renamed n) ∙ ap (λ (c : Cell). home_named a.caches c.name) (cell-put a n (record (cell a n) { name = x }))

  pub home-with_name_other : (m : NodeId) → m ≢ n → home_of (with_name a n x) m ≡ home_of a m
  unfolding renamed
  home-with_name_other m ne = retabled m ∙ named (name_of renamed m) ∙ ap (λ (c : Cell). home_named a.caches c.name) (cell-put_other a n m (record (cell a n) { name = x }) ne)

pub home-as_working : (a : Arena) (n : NodeId) → home_of (as_working a n) n ≡ None
home-as_working a n = counted_home (with_name a n (Working (a.made + 1))) (a.made + 1) n ∙ home-with_name a n (Working (a.made + 1))

-- a cache less, whose page the node isn't
other_table : (ts : List (Option Table)) (gone other : ℕ) → other ≢ gone → table_at (tables_without ts gone) other ≡ table_at ts other
other_table ts zero other ne = refl
other_table ts (suc k) zero ne = refl
other_table ts (suc k) (suc j) ne = read_other ts k j None (λ e. ne (ap suc e))

retabled_home : (a : Arena) (gone : CacheId) (m : NodeId) → home_of (without_cache a gone) m ≡ home_named (tables_without a.caches gone.0) (name_of a m)
unfolding cell
retabled_home a gone m = refl

pub home-without_cache : (a : Arena) (gone : CacheId) (m : NodeId) → ((page : PageNo) → name_of a m ≢ Live gone page) → home_of (without_cache a gone) m ≡ home_of a m
home-without_cache a gone m apart =
    retabled_home a gone m
    ∙ home_where a.caches (tables_without a.caches gone.0) (name_of a m) (λ c p is. ap (option_map (λ (t : Table). t.segment)) (other_table a.caches gone.0 c.0 (λ e. apart p (is ∙ (λ i. Live (record { 0 = e i }) p)))))

-- a cache more
table_below : (ts : List (Option Table)) (c page : ℕ) (n : NodeId) → node_in ts c page ≡ Some n → c ≤ length ts
table_below ts zero page n is = omega arith
table_below ts (suc k) page n is = go ts k is
  where
    go : (ts : List (Option Table)) (k : ℕ) → node_in ts (suc k) page ≡ Some n → suc k ≤ length ts
    go [] k is = absurd (cc is)
    go (t ∷ ts) zero is = omega arith
    go (t ∷ ts) (suc k) is = let less = go ts k is in omega (arith, less)

pub home-made_other : (old new : Arena) (cache : CacheId) (segment : Option SegId) (own : OwnState) (ns : List NodeId) → IsMade old new cache segment own ns → IsListed old → (n : NodeId) → HasNode old n → home_of new n ≡ home_of old n
home-made_other old new cache segment own ns m listed n held =
    ap (λ (c : Cell). home_named new.caches c.name) (cell_of new n ∙ ap (λ (o : Option Cell). unwrap_or o blank) (made_stays old new cache segment own ns m n held) ∙ sym (cell_of old n))
    ∙ home_where old.caches new.caches (name_of old n) (λ c p is. ap (option_map (λ (t : Table). t.segment)) (made_tables old new cache segment own ns m c.0 (table_below old.caches c.0 p.0 n (listed.pages c.0 p.0 n held is))))
