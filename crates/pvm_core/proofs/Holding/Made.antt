-- Locks hold their pages still where the nodes and the locks stay, and where a cache is made or
-- goes.
use Rattle.std.proofs.Common.{◌≡◌, ℕ, zero, suc, Bool, true, false, List, [], ◌∷◌, ◌++◌, get_or, length, replicate, Option, Some, None, is_some, unwrap_or, refl, sym, ap, ◌∙◌, subst, arith, inl, inr}
use Rattle.std.specs.Prelude.{count_by, option_and_then, slice_get}
use Rattle.std.specs.List.{list_any, slice_index_or}
use Rattle.std.proofs.lemmas.Bool.{cases_eq}
use Rattle.std.specs.FinMap as ids
use Rattle.std.specs.Option.{option_map_or}
use Rattle.vm_ids.specs.declared.node_name.NodeName.{NodeName}
use Rattle.vm_ids.specs.declared.node_name.NodeName.TheVariants.{Live, Working}
use Rattle.vm_ids.specs.declared.numbers.CacheId.{CacheId}
use Rattle.vm_ids.specs.declared.numbers.NodeId.{NodeId}
use Rattle.vm_ids.specs.declared.numbers.PageNo.{PageNo}
use Rattle.vm_ids.specs.declared.numbers.SegId.{SegId}
use Rattle.global_map.specs.Pairs.{node_of}
use Rattle.local_cache.specs.declared.own_state.OwnState.{OwnState}
use Rattle.local_cache.specs.Arena.{Arena, Cell, CellsStay, HasNode, IsMade, Table, blank, cell, find, is_locked, locks_of, new_table, node_at, table_at, without_cache}
use Rattle.local_cache.specs.Own.{is_resident, own_of}
use Rattle.local_cache.specs.Reading.{name_of}
use Rattle.local_cache.specs.Sound.{IsListed}
use Rattle.local_cache.proofs.Changes.Locked.{locked_count_stays, locks-gone, locks-without_cache}
use Rattle.residency.specs.declared.store.Store.{Store}
use Rattle.vm_model.specs.Answering.{maps_in}
use Rattle.vm_model.specs.Machine.{Actor}
use Rattle.pvm_core.specs.Locks.{AreHeld, has_locked, is_locked_name, locks_over}
use Rattle.pvm_core.proofs.Holding.Actors.{over_none}

-- a node of a live page is a node
pub named_there : (a : Arena) (n : NodeId) (cache : CacheId) (page : PageNo) → name_of a n ≡ Live cache page → HasNode a n
unfolding cell
named_there a n cache page e = go (find a n) e
  where
    go : (o : Option Cell) → (unwrap_or o blank).name ≡ Live cache page → is_some o ≡ true
    go None e = absurd (cc e)
    go (Some c) e = refl

pub both_ways : (x y : Bool) → (x ≡ true → y ≡ true) → (y ≡ true → x ≡ true) → x ≡ y
both_ways true y there back = sym (there refl)
both_ways false true there back = back refl
both_ways false false there back = refl

-- other actors lock the same pages
pub held_by_actors : (a : Arena) (s : Store) (xs ys : List (Option Actor)) → ((cache page : ℕ) → locks_over ys cache page ≡ locks_over xs cache page) → AreHeld a s xs → AreHeld a s ys
held_by_actors a s xs ys same held = record {
  counted = λ cache page. held.counted cache page ∙ sym (same cache page);
  resident = held.resident;
  pinned = held.pinned;
  pins = held.pins;
  few = held.few;
}

-- another store has the same pins and the same frames bound
pub held_by_store : (a : Arena) (s u : Store) (actors : List (Option Actor)) → u.frames.pinned ≡ s.frames.pinned → u.map ≡ s.map → length u.frames.held ≡ length s.frames.held → AreHeld a s actors → AreHeld a u actors
held_by_store a s u actors pins map frames held = record {
  counted = held.counted;
  resident = held.resident;
  pinned = λ f. ap (λ (ps : List Bool). slice_index_or ps f false) pins ∙ held.pinned f ∙ sym (ap (λ (ns : List (Option NodeId)). has_locked a ns f) map);
  pins = ap (λ (ps : List Bool). count_by (λ p. p) ps) pins ∙ held.pins;
  few = omega (arith, held.few, frames);
}

-- What is said of locks goes from caches a to caches b, whose locks are the same, and in which the
-- same nodes are locked.
module _ (a b : Arena) (s : Store) (actors : List (Option Actor)) (locks : (cache page : ℕ) → locks_of b cache page ≡ locks_of a cache page)
    (back : (cache page : ℕ) (n : NodeId) → node_at b cache page ≡ Some n → is_locked (locks_of b cache page) ≡ true → (node_at a cache page ≡ Some n) × (own_of b n ≡ own_of a n))
    (named : (n : NodeId) → is_locked_name b (name_of b n) ≡ is_locked_name a (name_of a n)) (held : AreHeld a s actors) where
  pub held_by_nodes : AreHeld b s actors
  held_by_nodes = record {
    counted = λ cache page. locks cache page ∙ held.counted cache page;
    resident = λ cache page n at locked. (let was = back cache page n at locked in ap is_resident was.1 ∙ held.resident cache page n was.0 (ap is_locked (sym (locks cache page)) ∙ locked));
    pinned = λ f. held.pinned f ∙ (λ i. option_map_or (λ n. sym (named n) i) (node_of s.map f) false);
    pins = held.pins ∙ sym (locked_count_stays a b locks);
    few = omega (arith, held.few, locked_count_stays a b locks);
  }

same_name : (a b : Arena) → ((cache page : ℕ) → locks_of b cache page ≡ locks_of a cache page) → (x : NodeName) → is_locked_name b x ≡ is_locked_name a x
same_name a b same (Live cache page) = ap is_locked (same cache.0 page.0)
same_name a b same (Working k) = refl

-- The nodes stay

module _ (a b : Arena) (s : Store) (actors : List (Option Actor)) (cells : b.cells ≡ a.cells) (locks : (cache page : ℕ) → locks_of b cache page ≡ locks_of a cache page) (before : IsListed a) (after : IsListed b) (held : AreHeld a s actors) where
  cell_same : (n : NodeId) → cell b n ≡ cell a n
  unfolding cell
  cell_same n = ap (λ cs. unwrap_or (ids.get cs n.0) blank) cells

  there_same : (n : NodeId) → HasNode b n → HasNode a n
  there_same n h = subst (λ cs. is_some (ids.get cs n.0) ≡ true) cells h

  pub held_by_cells : AreHeld b s actors
  held_by_cells = held_by_nodes a b s actors locks
      (λ cache page n at locked. (let l = after.nodes cache page n at in (before.pages cache page n (there_same n l.0) (ap (λ c. c.name) (sym (cell_same n)) ∙ l.1), ap (λ c. c.own) (cell_same n))))
      (λ n. ap (λ c. is_locked_name b c.name) (cell_same n) ∙ same_name a b locks (name_of a n)) held

-- A cache goes

module _ (b d : Arena) (u : Store) (actors : List (Option Actor)) (cache : CacheId) (is : d ≡ without_cache b cache) (free : list_any (maps_in cache.0) actors ≡ false) (before : IsListed b) (after : IsListed d) (held : AreHeld b u actors) where
  locks_left : (c page : ℕ) → locks_of d c page ≡ locks_of b c page
  locks_left c page = elim (cases_eq c cache.0) [
    | inl here ↦
        ap (λ (k : ℕ). locks_of d k page) here ∙ locks-gone b d cache is page
        ∙ sym (ap (λ (k : ℕ). locks_of b k page) here ∙ held.counted cache.0 page ∙ over_none cache.0 page actors free)
    | inr other ↦ locks-without_cache b d cache is c page other
  ]

  -- which no region maps
  pub held_gone : AreHeld d u actors
  held_gone = held_by_cells b d u actors (ap (λ (k : Arena). k.cells) is) locks_left before after held

-- A cache is made

abbrev locks_at : ℕ → List ℕ → ℕ
locks_at page locks = unwrap_or (slice_get locks page) 0

abbrev locks_in : ℕ → Option Table → ℕ
locks_in page o = unwrap_or (option_and_then (λ (t : Table). slice_get t.locks page) o) 0

abbrev node_in : ℕ → Option Table → Option NodeId
node_in page o = option_and_then (λ (t : Table). option_and_then (λ e. e.node) (slice_get t.pages page)) o

none_locked : (n page : ℕ) → locks_at page (replicate n 0) ≡ 0
none_locked zero page = refl
none_locked (suc n) zero = refl
none_locked (suc n) (suc page) = none_locked n page

module _ (t : Table) (page : ℕ) (free : locks_at page t.locks ≡ 0) where
  locks_more : (ts : List (Option Table)) (k : ℕ) → locks_in page (get_or (ts ++ Some t ∷ []) k None) ≡ locks_in page (get_or ts k None)
  locks_more [] zero = free
  locks_more [] (suc k) = refl
  locks_more (x ∷ ts) zero = refl
  locks_more (x ∷ ts) (suc k) = locks_more ts k

  node_less : (n : NodeId) (ts : List (Option Table)) (k : ℕ) → node_in page (get_or (ts ++ Some t ∷ []) k None) ≡ Some n → is_locked (locks_in page (get_or ts k None)) ≡ true → node_in page (get_or ts k None) ≡ Some n
  node_less n [] k at locked = absurd (cc locked)
  node_less n (x ∷ ts) zero at locked = at
  node_less n (x ∷ ts) (suc k) at locked = node_less n ts k at locked

module _ (b d : Arena) (u : Store) (actors : List (Option Actor)) (cache : CacheId) (segment : Option SegId) (own : OwnState) (nodes : List NodeId) (made : IsMade b d cache segment own nodes) (stays : CellsStay b d) (before : IsListed b) (after : IsListed d) (held : AreHeld b u actors) where
  locks_with : (c page : ℕ) → locks_in page (table_at (b.caches ++ Some (new_table segment nodes) ∷ []) c) ≡ locks_in page (table_at b.caches c)
  locks_with zero page = refl
  locks_with (suc k) page = locks_more (new_table segment nodes) page (none_locked (length nodes) page) b.caches k

  locks_are : (c page : ℕ) → locks_of d c page ≡ locks_of b c page
  locks_are c page = ap (λ ts. locks_in page (table_at ts c)) made.caches ∙ locks_with c page

  node_with : (c page : ℕ) (n : NodeId) → node_in page (table_at (b.caches ++ Some (new_table segment nodes) ∷ []) c) ≡ Some n → is_locked (locks_in page (table_at b.caches c)) ≡ true → node_in page (table_at b.caches c) ≡ Some n
  node_with zero page n at locked = absurd (cc at)
  node_with (suc k) page n at locked = node_less (new_table segment nodes) page (none_locked (length nodes) page) n b.caches k at locked

  was_at : (c page : ℕ) (n : NodeId) → node_at d c page ≡ Some n → is_locked (locks_of d c page) ≡ true → node_at b c page ≡ Some n
  was_at c page n at locked = node_with c page n (sym (ap (λ ts. node_in page (table_at ts c)) made.caches) ∙ at) (ap is_locked (sym (locks_are c page)) ∙ locked)

  cell_stays : (n : NodeId) → HasNode b n → cell d n ≡ cell b n
  unfolding cell
  cell_stays n h = ap (λ o. unwrap_or o blank) (stays n h)

  new_is_old : (n : NodeId) (x : NodeName) → name_of d n ≡ x → is_locked_name d x ≡ true → is_locked_name b (name_of b n) ≡ true
  new_is_old n (Live c page) e locked =
      let l = before.nodes c.0 page.0 n (was_at c.0 page.0 n (after.pages c.0 page.0 n (named_there d n c page e) e) locked) in
      ap (is_locked_name b) l.1 ∙ ap is_locked (sym (locks_are c.0 page.0)) ∙ locked
  new_is_old n (Working k) e locked = absurd (cc locked)

  old_is_new : (n : NodeId) (x : NodeName) → name_of b n ≡ x → is_locked_name b x ≡ true → is_locked_name d (name_of d n) ≡ true
  old_is_new n (Live c page) e locked =
      ap (is_locked_name d) (ap (λ z. z.name) (cell_stays n (named_there b n c page e)) ∙ e) ∙ ap is_locked (locks_are c.0 page.0) ∙ locked
  old_is_new n (Working k) e locked = absurd (cc locked)

  pub held_made : AreHeld d u actors
  held_made = held_by_nodes b d u actors locks_are
      (λ c page n at locked. (let was = was_at c page n at locked in (was, ap (λ z. z.own) (cell_stays n (before.nodes c page n was).0))))
      (λ n. both_ways (is_locked_name d (name_of d n)) (is_locked_name b (name_of b n)) (new_is_old n (name_of d n) refl) (old_is_new n (name_of b n) refl)) held
