-- One page is owned, locked and let go; and one after the other.
use Rattle.std.proofs.Common.{◌≡◌, ℕ, zero, suc, ◌+◌, ◌-◌, ◌<◌, ◌≤◌, Bool, true, false, cond, List, [], ◌∷◌, length, length-set, set, Option, Some, None, is_none, is_some, refl, sym, ap, ◌∙◌, subst, arith, inl, inr}
use Rattle.std.specs.Prelude.{IsSome, MatchOption, option_and_then, OnOk, Result, Ok, Err}
use Rattle.std.proofs.lemmas.Bool.{cases_eq}
use Rattle.std.proofs.lemmas.List.{get_or-set_other, get_or-set_same, set-get_or}
use Rattle.vm_ids.specs.declared.numbers.CacheId.{CacheId}
use Rattle.vm_ids.specs.declared.numbers.NodeId.{NodeId}
use Rattle.vm_ids.specs.declared.numbers.PageNo.{PageNo}
use Rattle.vm_ids.specs.declared.node_name.NodeName.{NodeName}
use Rattle.vm_ids.specs.Forest.Commands.{lock, page_name, page_names}
use Rattle.vm_ids.specs.Forest.NameLists.{◌∈◌}
use Rattle.vm_ids.specs.Forest.Nodes.{Forest, IsNode, node}
use Rattle.vm_ids.specs.Forest.Reading.{value_of}
use Rattle.vm_ids.specs.Forest.Rules.{own, owned}
use Rattle.vm_ids.specs.Forest.Shape.{IsWellShaped}
use Rattle.vm_ids.proofs.Forest.Counters.{own-copies}
use Rattle.vm_ids.proofs.Forest.Laws.Commands.{lock_keeps_values}
use Rattle.vm_ids.proofs.Places.{bit, bit_true, count-set}
use Rattle.frame_pool.specs.Pool.{is_pinned}
use Rattle.global_map.specs.Pairs.{node_of, bound_times}
use Rattle.local_cache.specs.declared.own_state.OwnState.TheVariants.{Absent}
use Rattle.local_cache.specs.declared.page_entry.PageEntry.{PageEntry}
use Rattle.local_cache.specs.Arena.{Arena, HasNode, is_locked, locks_of, node_at, table_locking, with_locks}
use Rattle.local_cache.specs.Own.{is_absent, own_of, is_resident}
use Rattle.local_cache.specs.Reading.{forest_of, name_of}
use Rattle.local_cache.specs.Sound.{IsSound}
use Rattle.local_cache.specs.Whole.{IsWhole}
use Rattle.local_cache.proofs.Changes.Locked.{locked_other}
use Rattle.local_cache.proofs.Changes.Retabled.{changed_entry}
use Rattle.local_cache.proofs.Forest.ReadingBy.{forest_by-copies}
use Rattle.local_cache.proofs.Tables.Listing.{node_by_entry}
use Rattle.residency.specs.declared.store.Store.{Store}
use Rattle.residency.specs.Frames.{with_pinned}
use Rattle.residency.specs.StoreForest.{store_forest}
use Rattle.residency.specs.World.{World, own_page, world}
use Rattle.fault_path.proofs.Calls.Kept.{store_node, store_page, store_shaped}
use Rattle.fault_path.proofs.Frames.TwoFrames.{absent_none}
use Rattle.fault_path.proofs.Rules.Heirs.{has_own}
use Rattle.pvm_core.specs.Holding.{HoldsLocked, HasRightStore, KeepsPages, LocksMore, one_page}
use Rattle.pvm_core.specs.Locks.{is_locked_name}
use Rattle.pvm_core.proofs.Holding.Kept.{has_name}
use Rattle.pvm_core.proofs.Locking.Alike.{alike_then}
use Rattle.pvm_core.proofs.Locking.Changed.{Repins, changed_pages, relocked_names, relocked_owns}
use Rattle.pvm_core.proofs.Locking.Extents.{covers_no, covers_yes}
use Rattle.vm_ids.specs.declared.numbers.FrameId.{FrameId}
use Rattle.local_cache.specs.declared.own_state.OwnState.{OwnState}
use Rattle.pvm_core.proofs.Locking.Holds.{holds_changed}

-- A page is owned

pub on_ok : {T E P Q : Type 0} (r : Result T E) → (P → Q) → OnOk r P → OnOk r Q
on_ok (Ok x) f p = f p
on_ok (Err e) f p = tt

some_not_none : {A : Type 0} (o : Option A) → is_some o ≡ true → is_none o ≡ false
some_not_none None e = absurd (cc e)
some_not_none (Some x) e = refl

module _ (w : World) (sound : IsSound w.caches) (n : NodeId) (there : HasNode w.caches n) where
  pub owned_bare : own_of w.caches n ≡ Absent → own (store_forest w) (name_of w.caches n) ≡ owned (store_forest w) (name_of w.caches n)
  owned_bare absent =
      let none : is_none (node (store_forest w) (name_of w.caches n)).own ≡ true = ap is_none (store_page w sound n there ∙ absent_none w n absent) in
      sym (ap (λ b. cond b (own (store_forest w) (name_of w.caches n)) (store_forest w)) none)

  pub owned_has : is_absent (own_of w.caches n) ≡ false → store_forest w ≡ owned (store_forest w) (name_of w.caches n)
  owned_has some =
      let has : is_none (node (store_forest w) (name_of w.caches n)).own ≡ false = ap is_none (store_page w sound n there) ∙ some_not_none _ (has_own w n some) in
      sym (ap (λ b. cond b (own (store_forest w) (name_of w.caches n)) (store_forest w)) has)

  -- no page reads differently
  pub owned_values : IsWellShaped (forest_of w.caches) → (y : NodeName) → value_of (owned (store_forest w) (name_of w.caches n)) y ≡ value_of (store_forest w) y
  owned_values shaped = lock_keeps_values (name_of w.caches n ∷ []) (store_forest w) (store_shaped w sound shaped) only
    where
      only : (x : NodeName) → x ∈ (name_of w.caches n ∷ []) → IsNode (store_forest w) x
      only x (inl e) = subst (IsNode (store_forest w)) (sym e) (store_node w sound n there)
      only x (inr i) = absurd i

-- one page after the other
pub lock_next : {P : Type 0} (cache : CacheId) (first n : ℕ) (f : Forest P) → lock (page_names cache first (n + 1)) f ≡ owned (lock (page_names cache first n) f) (page_name cache (first + n))
lock_next cache first zero f = ap (λ k. owned f (page_name cache k)) (let e : first ≡ first + 0 = omega arith in e)
lock_next cache first (suc n) f =
    let e : suc n + 1 ≡ suc (n + 1) = omega arith in
    ap (λ k. lock (page_names cache first k) f) e ∙ lock_next cache (first + 1) n (owned f (page_name cache first)) ∙ ap (λ k. owned (lock (page_names cache (first + 1) n) (owned f (page_name cache first))) (page_name cache k)) (let h : first + 1 + n ≡ first + suc n = omega arith in h)

-- a page copied for each at most
owned_copies : {P : Type 0} (f : Forest P) (x : NodeName) → (owned f x).copies ≤ f.copies + 1
owned_copies f x = go (is_none (node f x).own)
  where
    go : (b : Bool) → (cond b (own f x) f).copies ≤ f.copies + 1
    go true = omega (arith, own-copies f x)
    go false = omega arith

pub lock_copies : {P : Type 0} (cache : CacheId) (first n : ℕ) (f : Forest P) → (lock (page_names cache first n) f).copies ≤ f.copies + n
lock_copies cache first zero f = omega arith
lock_copies cache first (suc n) f = omega (arith, owned_copies f (page_name cache first), lock_copies cache (first + 1) n (owned f (page_name cache first)))

-- the same, up to a page
pub lock_upto : {P : Type 0} (cache : CacheId) (first page : ℕ) → first ≤ page → (f g h : Forest P) → g ≡ lock (page_names cache first (page - first)) f → h ≡ owned g (page_name cache page) → h ≡ lock (page_names cache first (page + 1 - first)) f
lock_upto cache first page low f g h one two =
    let next : page - first + 1 ≡ page + 1 - first = omega (arith, low) in
    let here : first + (page - first) ≡ page = omega (arith, low) in
    two ∙ ap (λ k. owned k (page_name cache page)) one ∙ ap (λ k. owned (lock (page_names cache first (page - first)) f) (page_name cache k)) (sym here) ∙ sym (lock_next cache first (page - first) f) ∙ ap (λ k. lock (page_names cache first k) f) next

pub store_copies : (w : World) → (store_forest w).copies ≡ w.caches.copies
unfolding store_forest
store_copies w = forest_by-copies (own_page w) w.caches

-- the nodes that were copied are counted
pub owned_few : (old now : World) (cache : CacheId) (first n : ℕ) → store_forest now ≡ lock (page_names cache first n) (store_forest old) → now.caches.copies ≤ old.caches.copies + n
owned_few old now cache first n e = omega (arith, store_copies old, store_copies now, ap (λ f. f.copies) e, lock_copies cache first n (store_forest old))

-- A frame that has a node

pub found_some : {A : Type 0} (o : Option A) (times : ℕ) (Q : A → Type 0) → MatchOption o (times ≡ 0) Q → 1 ≤ times → IsSome o
found_some None times Q m some = absurd (omega (arith, m, some))
found_some (Some x) times Q m some = refl

pub found_at : {A : Type 0} (o : Option A) (P : Type 0) (Q : A → Type 0) (x : A) → MatchOption o P Q → o ≡ Some x → Q x
found_at None P Q x m e = absurd (cc e)
found_at (Some y) P Q x m e = let same : y ≡ x = cc e in subst Q same m

-- a resident node has one
pub frame_some : (o : Option FrameId) (Q : FrameId → Type 0) (told map : List (Option NodeId)) (n : NodeId) (x : OwnState) → told ≡ map → bound_times map n.0 ≡ bit (is_resident x) → is_resident x ≡ true → MatchOption o (bound_times told n.0 ≡ 0) Q → IsSome o
frame_some o Q told map n x same bound resident m = found_some o (bound_times told n.0) Q m (omega (arith, ap (λ (map : List (Option NodeId)). bound_times map n.0) same, bound, bit_true (is_resident x) resident))

pub frame_at : (o : Option FrameId) (P : Type 0) (told map : List (Option NodeId)) (n : NodeId) (f : FrameId) → told ≡ map → MatchOption o P (λ f. (f.0 < length told) × (node_of told f.0 ≡ Some n)) → o ≡ Some f → (f.0 < length map) × (node_of map f.0 ≡ Some n)
frame_at o P told map n f same m e = subst (λ (map : List (Option NodeId)). (f.0 < length map) × (node_of map f.0 ≡ Some n)) same (found_at o P (λ f. (f.0 < length told) × (node_of told f.0 ≡ Some n)) f m e)

-- One page has other locks

module _ (a b : Arena) (cache : CacheId) (page count : ℕ) (is : b ≡ with_locks a cache.0 page count) where
  -- each other page has as many
  of_page : (x y : Arena) → ((c p : ℕ) → (c ≡ cache.0 → p ≡ page → ⊥) → locks_of y c p ≡ locks_of x c p) → locks_of y cache.0 page ≡ locks_of x cache.0 page + 1 → LocksMore (one_page cache page) x y
  of_page x y others now c p = elim (cases_eq c cache.0) [
    | inr d ↦ (let no = covers_no (one_page cache page) c p (λ k. d (sym k.same)) in omega (arith, others c p (λ q r. d q), ap bit no))
    | inl q ↦ elim (cases_eq p page) [
      | inr d ↦ (let no = covers_no (one_page cache page) c p (λ k. d (omega (arith, k.from, k.past))) in omega (arith, others c p (λ q r. d r), ap bit no))
      | inl r ↦ (
          let yes = covers_yes (one_page cache page) c p (record { same = sym q; from = omega (arith, r); past = omega (arith, r) }) in
          let at_y : locks_of y c p ≡ locks_of y cache.0 page = (λ i. locks_of y (q i) (r i)) in
          let at_x : locks_of x c p ≡ locks_of x cache.0 page = (λ i. locks_of x (q i) (r i)) in
          omega (arith, now, ap bit yes))
    ]
  ]

  pub one_more : locks_of b cache.0 page ≡ locks_of a cache.0 page + 1 → LocksMore (one_page cache page) a b
  one_more = of_page a b (locked_other a b cache.0 page count is)

  pub one_less : locks_of b cache.0 page + 1 ≡ locks_of a cache.0 page → LocksMore (one_page cache page) b a
  one_less now = of_page b a (λ c p other. sym (locked_other a b cache.0 page count is c p other)) (sym now)

-- the frame of a page is pinned or not
pub pinned_as : (s t : Store) (f : ℕ) (v : Bool) (n : NodeId) → t ≡ record s { frames = with_pinned s.frames f v } → node_of s.map f ≡ Some n → Repins s t
pinned_as s t f v n is here = record {
  pins = set s.frames.pinned f v;
  is = is;
  long = length-set s.frames.pinned f v;
  others = λ g none. get_or-set_other s.frames.pinned f g v false (λ e. absurd (let both : None ≡ Some n = sym none ∙ ap (node_of s.map) e ∙ here in cc both));
}

-- a pinned frame is as one that is pinned again
pub pinned_again : (s : Store) (f : ℕ) → is_pinned s.frames f ≡ true → s ≡ record s { frames = with_pinned s.frames f true }
pinned_again s f pinned = λ i. record s { frames = record s.frames { pinned = (sym (set-get_or s.frames.pinned f false) ∙ ap (set s.frames.pinned f) pinned) i } }

module _ (a b : Arena) (s t : Store) (right : HasRightStore a s) (whole : IsWhole a) (holds : HoldsLocked a s) (cache : CacheId) (page : PageNo) (count f : ℕ) (n : NodeId) (at : node_at a cache.0 page.0 ≡ Some n) (here : node_of s.map f ≡ Some n) (less : f < length s.map)
    (is : b ≡ with_locks a cache.0 page.0 count) (now : locks_of b cache.0 page.0 ≡ count) (v : Bool) (pins : t ≡ record s { frames = with_pinned s.frames f v }) (v_is : v ≡ is_locked count) where
  re : Repins s t
  re = pinned_as s t f v n pins here

  w : World
  w = world right.0 right.1 a s

  -- a frame is pinned exactly where its page is locked
  pub was_pinned : is_pinned s.frames f ≡ is_locked (locks_of a cache.0 page.0)
  was_pinned = holds.pinned f ∙ has_name a s.map f n here ∙ ap (is_locked_name a) (whole.sound.kept.listed.nodes cache.0 page.0 n at).1

  within : f < length s.frames.pinned
  within = omega (arith, less, right.2.tied.fitted.map_frames, right.2.tied.fitted.pinned_frames)

  pub paged_held : HoldsLocked b t
  unfolding re pinned_as
  paged_held = holds_changed a b s t whole.sound right.2.tied.placed.bound holds cache.0 page.0 count f n at here is now re
      (get_or-set_same s.frames.pinned f v false within ∙ v_is)
      (λ g d. get_or-set_other s.frames.pinned f g v false d)
      (omega (arith, count-set (λ p. p) s.frames.pinned f v false within, ap bit was_pinned, ap bit v_is))
      (relocked_owns (world right.0 right.1 a s) b cache.0 page.0 count is) (relocked_names (world right.0 right.1 a s) b cache.0 page.0 count is)
      (λ c p m there. sym (nodes_same c p) ∙ there)
    where
      nodes_same : (c p : ℕ) → node_at b c p ≡ node_at a c p
      nodes_same c p = node_by_entry b.caches c p ∙ ap (λ (o : Option PageEntry). option_and_then (λ (e : PageEntry). e.node) o) (changed_entry (table_locking page.0 count) (λ t. refl) a b cache.0 is c p) ∙ sym (node_by_entry a.caches c p)

  pub paged_kept : KeepsPages a b s t
  paged_kept = changed_pages a b s t cache.0 page.0 count is re whole

-- One after the other

pub keeps_then : (a b d : Arena) (s t u : Store) → KeepsPages a b s t → KeepsPages b d t u → KeepsPages a d s u
keeps_then a b d s t u one two = record {
  alike = λ told size counts right.
      let first = one.alike told size counts right in
      alike_then (world told size a s) (world told size b t) (world told size d u) counts counts counts first (two.alike told size counts first.right);
  forest = λ told size. two.forest told size ∙ one.forest told size;
  cells = two.cells ∙ one.cells;
  map = two.map ∙ one.map;
  tables = two.tables ∙ one.tables;
  translated = λ u right. two.translated u (one.translated u right);
}
