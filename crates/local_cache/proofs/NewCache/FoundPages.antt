-- What is found after a cache was made.
use Rattle.std.proofs.Common.{◌≡◌, ◌⊎◌, ℕ, zero, suc, ◌+◌, ◌<◌, ◌≤◌, Bool, false, cond, replicate, option_map, List, [], ◌∷◌, length, get_or, map, Option, Some, None, IsSome, unwrap_or, refl, sym, ap, ◌∙◌, inl, inr, arith, add-one, zero-add}
use Rattle.std.specs.Prelude.{option_and_then, slice_get, is_some}
use Rattle.std.specs.Ordering.{nat_cmp}
use Rattle.std.specs.Cmp.{nat_cmp_total}
use Rattle.std.specs.FinMap.{FinMap, get-insert}
use Rattle.std.specs.FinMap as ids
use Rattle.std.proofs.Math.Seq.{get_or-append_seam}
use Rattle.std.proofs.lemmas.Bool.{cases_eq, false≢true}
use Rattle.std.proofs.lemmas.List.{get_or-map, get_or_append_left, length-map}
use Rattle.std.proofs.lemmas.Option.{slice_get-get_or}
use Rattle.vm_ids.specs.declared.node_name.NodeName.TheVariants.{Live}
use Rattle.vm_ids.specs.declared.numbers.CacheId.{CacheId}
use Rattle.vm_ids.specs.declared.numbers.NodeId.{NodeId}
use Rattle.vm_ids.specs.declared.numbers.SegId.{SegId}
use Rattle.local_cache.specs.declared.own_state.OwnState.{OwnState}
use Rattle.local_cache.specs.declared.page_entry.PageEntry.{PageEntry}
use Rattle.local_cache.specs.Arena.{Arena, Cell, HasPage, IsFilled, HasNode, IsMade, Table, entry_for, find, is_granted, new_cell, new_table, node_at, table_of}
use Rattle.local_cache.specs.Whole.{segment_of}
use Rattle.local_cache.proofs.Nodes.Numbers.{tied, apart}

abbrev named : CacheId → ℕ → OwnState → Cell
named cache page own = new_cell (Live cache (record { 0 = page })) own

-- what was found at a number is found there still
filled_stays : (ns : List NodeId) (cells : FinMap nat_cmp Cell) (page : ℕ) (after : FinMap nat_cmp Cell) (cache : CacheId) (own : OwnState) (k : ℕ) (c : Cell) → IsFilled cells cache page own ns after → ids.get cells k ≡ Some c → ids.get after k ≡ Some c
filled_stays [] cells page after cache own k c f is = ap (λ (m : FinMap nat_cmp Cell). ids.get m k) f ∙ is
filled_stays (n ∷ ns) cells page after cache own k c f is =
    filled_stays ns (ids.insert cells n.0 (named cache page own)) (page + 1) after cache own k c f.1
    (get-insert nat_cmp_total cells n.0 (named cache page own) k ∙ elim (cases_eq k n.0) [
      | inl e ↦ (let clash : Some c ≡ None = sym is ∙ ap (ids.get cells) e ∙ f.0 in absurd (cc))
      | inr d ↦ ap (λ (b : Bool). cond b (Some (named cache page own)) (ids.get cells k)) (apart k n.0 d) ∙ is
    ])

-- each page's node is there
pub filled_page : (ns : List NodeId) (cells : FinMap nat_cmp Cell) (page : ℕ) (after : FinMap nat_cmp Cell) (cache : CacheId) (own : OwnState) (k : ℕ) (d : NodeId) → IsFilled cells cache page own ns after → k < length ns
    → ids.get after (get_or ns k d).0 ≡ Some (named cache (page + k) own)
filled_page [] cells page after cache own k d f h = absurd (omega arith)
filled_page (n ∷ ns) cells page after cache own zero d f h =
    let at : page ≡ page + 0 = omega arith in
    filled_stays ns (ids.insert cells n.0 (named cache page own)) (page + 1) after cache own n.0 (named cache page own) f.1
    (get-insert nat_cmp_total cells n.0 (named cache page own) n.0 ∙ ap (λ (b : Bool). cond b (Some (named cache page own)) (ids.get cells n.0)) (tied n.0 n.0 refl))
    ∙ ap (λ (p : ℕ). Some (named cache p own)) at
filled_page (n ∷ ns) cells page after cache own (suc k) d f h =
    let at : page + 1 + k ≡ page + suc k = omega arith in
    filled_page ns (ids.insert cells n.0 (named cache page own)) (page + 1) after cache own k d f.1 (omega arith) ∙ ap (λ (p : ℕ). Some (named cache p own)) at

-- what is found at a number is what was found there, or the node of a page of the cache
filled_cases : (ns : List NodeId) (cells : FinMap nat_cmp Cell) (page : ℕ) (after : FinMap nat_cmp Cell) (cache : CacheId) (own : OwnState) (k : ℕ) → IsFilled cells cache page own ns after
    → (ids.get after k ≡ ids.get cells k) ⊎ ((j : ℕ) × (j < length ns) × (ids.get after k ≡ Some (named cache (page + j) own)))
filled_cases [] cells page after cache own k f = inl (ap (λ (m : FinMap nat_cmp Cell). ids.get m k) f)
filled_cases (n ∷ ns) cells page after cache own k f = elim (filled_cases ns (ids.insert cells n.0 (named cache page own)) (page + 1) after cache own k f.1) [
  | inr at ↦ inr (suc at.0, omega (arith, at.1), at.2 ∙ ap (λ (p : ℕ). Some (named cache p own)) (let e : page + 1 + at.0 ≡ page + suc at.0 = omega arith in e))
  | inl same ↦ elim (cases_eq k n.0) [
    | inl e ↦ inr (0, omega arith, same ∙ get-insert nat_cmp_total cells n.0 (named cache page own) k ∙ ap (λ (b : Bool). cond b (Some (named cache page own)) (ids.get cells k)) (tied k n.0 e) ∙ ap (λ (p : ℕ). Some (named cache p own)) (let e : page ≡ page + 0 = omega arith in e))
    | inr d ↦ inl (same ∙ get-insert nat_cmp_total cells n.0 (named cache page own) k ∙ ap (λ (b : Bool). cond b (Some (named cache page own)) (ids.get cells k)) (apart k n.0 d))
  ]
]

pub last_table : (old new : Arena) (cache : CacheId) (segment : Option SegId) (own : OwnState) (ns : List NodeId) → IsMade old new cache segment own ns → table_of new cache.0 ≡ Some (new_table segment ns)
last_table old new cache segment own ns m =
    let t : Table = new_table segment ns in
    ap (table_of new) (m.number ∙ add-one (length old.caches))
    ∙ ap (λ (ts : List (Option Table)). get_or ts (length old.caches) None) m.caches
    ∙ get_or-append_seam old.caches (Some t) [] None

-- its segment
pub made_segment : (old new : Arena) (cache : CacheId) (segment : Option SegId) (own : OwnState) (ns : List NodeId) → IsMade old new cache segment own ns → segment_of new cache.0 ≡ Some segment
made_segment old new cache segment own ns m = ap (option_map (λ (t : Table). t.segment)) (last_table old new cache segment own ns m)

pub made_pages : (old new : Arena) (cache : CacheId) (segment : Option SegId) (own : OwnState) (ns : List NodeId) (page : ℕ) → IsMade old new cache segment own ns → page < length ns → HasPage new cache page own
made_pages old new cache segment own ns page m h =
    let d : NodeId = record { 0 = 0 } in
    let listed : length (map entry_for ns) ≡ length ns = length-map ns entry_for in
    record {
      node = get_or ns page d;
      at = ap (option_and_then (λ (t : Table). option_and_then (λ (e : PageEntry). e.node) (slice_get t.pages page))) (last_table old new cache segment own ns m)
          ∙ ap (option_and_then (λ (e : PageEntry). e.node)) (slice_get-get_or (map entry_for ns) page (entry_for d) (omega arith))
          ∙ ap (λ (e : PageEntry). e.node) (get_or-map entry_for ns page d (entry_for d) h);
      is = filled_page ns old.cells 0 new.cells cache own page d m.cells h ∙ ap (λ (p : ℕ). Some (named cache p own)) (zero-add page);
    }

pub some_of : {A : Type 0} (o : Option A) → IsSome o → (x : A) × (o ≡ Some x)
some_of None h = absurd (false≢true h)
some_of (Some x) h = (x, refl)

pub made_stays : (old new : Arena) (cache : CacheId) (segment : Option SegId) (own : OwnState) (ns : List NodeId) → IsMade old new cache segment own ns → (n : NodeId) → HasNode old n → find new n ≡ find old n
made_stays old new cache segment own ns m n held =
    let w : (c : Cell) × (find old n ≡ Some c) = some_of (find old n) held in
    filled_stays ns old.cells 0 new.cells cache own n.0 w.0 m.cells w.1 ∙ sym w.1

pub made_tables : (old new : Arena) (cache : CacheId) (segment : Option SegId) (own : OwnState) (ns : List NodeId) → IsMade old new cache segment own ns → (other : ℕ) → other ≤ length old.caches → table_of new other ≡ table_of old other
made_tables old new cache segment own ns m zero h = refl
made_tables old new cache segment own ns m (suc k) h =
    ap (λ (ts : List (Option Table)). get_or ts k None) m.caches ∙ get_or_append_left old.caches (Some (new_table segment ns) ∷ []) None k (omega arith)

-- each node is one that was there, or that of a page of the cache
pub made_cases : (old new : Arena) (cache : CacheId) (segment : Option SegId) (own : OwnState) (ns : List NodeId) → IsMade old new cache segment own ns → (n : NodeId)
    → (find new n ≡ find old n) ⊎ ((j : ℕ) × (j < length ns) × (find new n ≡ Some (named cache j own)))
made_cases old new cache segment own ns m n = elim (filled_cases ns old.cells 0 new.cells cache own n.0 m.cells) [
  | inl same ↦ inl same
  | inr at ↦ inr (at.0, at.1, at.2 ∙ ap (λ (p : ℕ). Some (named cache p own)) (zero-add at.0))
]

-- the node of a page is that node
pub page_node : (a : Arena) (cache : CacheId) (page : ℕ) (own : OwnState) (n : NodeId) → HasPage a cache page own → node_at a cache.0 page ≡ Some n → find a n ≡ Some (named cache page own)
page_node a cache page own n p e =
    let two : Some p.node ≡ Some n = sym p.at ∙ e in
    let same : p.node ≡ n = cc in
    ap (find a) (sym same) ∙ p.is
