-- A cache that is made: the caches stay sound, and the forest has its pages more.
use Rattle.std.proofs.Common.{◌≡◌, ◌≢◌, ℕ, zero, suc, ◌+◌, Bool, true, false, cond, List, [], ◌∷◌, ◌++◌, get_or, length, map, set, Option, Some, None, option_map, slice_get, refl, sym, ap, ◌∙◌, subst, inl, inr, arith, append_assoc}
use Rattle.std.specs.Prelude.{option_and_then}
use Rattle.std.specs.FinMap as ids
use Rattle.std.specs.FinMap.{FinMap}
use Rattle.std.specs.Ordering.{nat_cmp}
use Rattle.std.proofs.lemmas.List.{length-append}
use Rattle.vm_ids.specs.declared.node_name.NodeName.{NodeName}
use Rattle.vm_ids.specs.Forest.Changes.{put}
use Rattle.vm_ids.specs.Forest.Commands.{make, page_name, page_names}
use Rattle.vm_ids.specs.Forest.Names.{same}
use Rattle.vm_ids.specs.Forest.NameLists.{◌∈◌}
use Rattle.vm_ids.specs.Forest.NameMap.{get}
use Rattle.vm_ids.specs.Forest.Nodes.{Forest, Node, childless}
use Rattle.vm_ids.specs.Forest.Nodes.Hang.{Root}
use Rattle.vm_ids.proofs.Forest.Laws.Ranges.{ranges_hold_pages_once}
use Rattle.vm_ids.proofs.Forest.NameMap.{get-insert, same_map}
use Rattle.vm_ids.proofs.Forest.Names.{same-true}
use Rattle.vm_ids.specs.declared.numbers.CacheId.{CacheId}
use Rattle.vm_ids.specs.declared.numbers.NodeId.{NodeId}
use Rattle.vm_ids.specs.declared.numbers.SegId.{SegId}
use Rattle.local_cache.specs.declared.own_state.OwnState.{OwnState}
use Rattle.local_cache.specs.declared.page_entry.PageEntry.{PageEntry}
use Rattle.local_cache.specs.Arena.{Arena, Cell, Table, IsFilled, IsMade, cache_with, entry_at, entry_for, new_cell, new_table, table_with, with_new}
use Rattle.local_cache.specs.Reading.{forest_of, page_of}
use Rattle.local_cache.specs.Sound.{IsSound}
use Rattle.local_cache.proofs.Changes.SameCells.{alike_sound, retabled_forest, roomier_forest, roomier_sound}
use Rattle.local_cache.proofs.NewNode.FreshNode.{page-forest, page-sound}
use Rattle.local_cache.proofs.Tables.Listing.{node_in}

-- Puts at two names may change places.

module _ {P : Type 0} where
  puts_apart : (f : Forest P) (x y : NodeName) (m n : Node P) → x ≢ y → put (put f x m) y n ≡ put (put f y n) x m
  unfolding put
  puts_apart f x y m n apart =
      let alike = same_map (put (put f x m) y n).nodes (put (put f y n) x m).nodes (λ z.
      get-insert (put f x m).nodes y n z ∙ ap (cond (same z y) (Some n)) (get-insert f.nodes x m z)
      ∙ turned (same z y) (same z x) (λ one two. apart (sym (same-true z x two) ∙ same-true z y one)) (get f.nodes z)
      ∙ sym (get-insert (put f y n).nodes x m z ∙ ap (cond (same z x) (Some m)) (get-insert f.nodes y n z))) in
      λ i. record f { nodes = alike i }
    where
      turned : (b c : Bool) → (b ≡ true → c ≡ true → ⊥) → (o : Option (Node P)) → cond b (Some n) (cond c (Some m) o) ≡ cond c (Some m) (cond b (Some n) o)
      turned true true clash o = absurd (clash refl refl)
      turned true false clash o = refl
      turned false c clash o = refl

  -- a page that was put before the others were made
  pub make-later : (xs : List NodeName) (v : P) (f : Forest P) (x : NodeName) (n : Node P) → (x ∈ xs → ⊥) → make (map (λ y. (y, v)) xs) (put f x n) ≡ put (make (map (λ y. (y, v)) xs) f) x n
  make-later [] v f x n out = refl
  make-later (y ∷ xs) v f x n out =
      ap (λ g. put g y (childless (Some v) Root)) (make-later xs v f x n (λ i. out (inr i)))
      ∙ puts_apart (make (map (λ z. (z, v)) xs) f) x y n (childless (Some v) Root) (λ e. out (inl e))

-- The new cache's table

-- an entry without a node
abbrev blank_entry : NodeId → PageEntry
blank_entry n = record { node = None }

-- the tables, with one more behind the others, which has these entries
abbrev tables_and : List (Option Table) → Table → List PageEntry → List (Option Table)
tables_and ts table entries = ts ++ Some (record table { pages = entries }) ∷ []

module _ (ts : List (Option Table)) (table : Table) where
  -- the last table
  last_at : (entries : List PageEntry) → get_or (tables_and ts table entries) (length ts) None ≡ Some (record table { pages = entries })
  last_at entries = go ts
    where
      go : (ts : List (Option Table)) → get_or (ts ++ Some (record table { pages = entries }) ∷ []) (length ts) None ≡ Some (record table { pages = entries })
      go [] = refl
      go (t ∷ ts) = go ts

  set_last : (old new : List PageEntry) → set (tables_and ts table old) (length ts) (Some (record table { pages = new })) ≡ tables_and ts table new
  set_last old new = go ts
    where
      go : (ts : List (Option Table)) → ◌≡◌ {A = List (Option Table)} (set (ts ++ Some (record table { pages = old }) ∷ []) (length ts) (Some (record table { pages = new }))) (ts ++ Some (record table { pages = new }) ∷ [])
      go [] = refl
      go (t ∷ ts) = ap (λ us. t ∷ us) (go ts)

  entry_last : (done rest : List PageEntry) (e : PageEntry) → slice_get (done ++ e ∷ rest) (length done) ≡ Some e
  entry_last [] rest e = refl
  entry_last (d ∷ done) rest e = entry_last done rest e

  set_entry : (done rest : List PageEntry) (e f : PageEntry) → set (done ++ e ∷ rest) (length done) f ≡ done ++ f ∷ rest
  set_entry [] rest e f = refl
  set_entry (d ∷ done) rest e f = ap (λ es. d ∷ es) (set_entry done rest e f)

  -- the node of a page of the last table is set
  cache_last : (done rest : List PageEntry) (e : PageEntry) (n : NodeId) → cache_with (tables_and ts table (done ++ e ∷ rest)) (suc (length ts)) (length done) (Some n) ≡ tables_and ts table (done ++ record { node = Some n } ∷ rest)
  cache_last done rest e n =
      ap (λ o. set (tables_and ts table (done ++ e ∷ rest)) (length ts) (option_map (table_with (length done) (Some n)) o)) (last_at (done ++ e ∷ rest))
      ∙ ap (λ es. set (tables_and ts table (done ++ e ∷ rest)) (length ts) (Some (record table { pages = es }))) (set_entry done rest e (record { node = Some n }))
      ∙ set_last (done ++ e ∷ rest) (done ++ record { node = Some n } ∷ rest)

  vacant_last : (done rest : List PageEntry) → entry_at (tables_and ts table (done ++ record { node = None } ∷ rest)) (suc (length ts)) (length done) ≡ Some (record { node = None })
  vacant_last done rest = ap (λ o. option_and_then (λ (t : Table). slice_get t.pages (length done)) o) (last_at (done ++ record { node = None } ∷ rest)) ∙ entry_last done rest (record { node = None })

  -- Without nodes in the last table nothing else is found.
  none_entry : (ns : List NodeId) (page : ℕ) → option_and_then (λ (e : PageEntry). e.node) (slice_get (map blank_entry ns) page) ≡ None
  none_entry [] page = refl
  none_entry (n ∷ ns) zero = refl
  none_entry (n ∷ ns) (suc page) = none_entry ns page

  same_nodes : (ns : List NodeId) (cache page : ℕ) → node_in (tables_and ts table (map blank_entry ns)) cache page ≡ node_in ts cache page
  same_nodes ns zero page = refl
  same_nodes ns (suc k) page = go ts k
    where
      at : Option Table → Option NodeId
      at t = option_and_then (λ (t : Table). option_and_then (λ (e : PageEntry). e.node) (slice_get t.pages page)) t

      go : (ts : List (Option Table)) (k : ℕ) → option_and_then (λ (t : Table). option_and_then (λ (e : PageEntry). e.node) (slice_get t.pages page)) (get_or (ts ++ Some (record table { pages = map blank_entry ns }) ∷ []) k None)
          ≡ option_and_then (λ (t : Table). option_and_then (λ (e : PageEntry). e.node) (slice_get t.pages page)) (get_or ts k None)
      go [] zero = none_entry ns page
      go [] (suc k) = refl
      go (t ∷ ts) zero = refl
      go (t ∷ ts) (suc k) = go ts k

-- The nodes of the new cache come one by one.

module _ (ts : List (Option Table)) (table : Table) (cache : CacheId) (number : cache.0 ≡ suc (length ts)) (s : OwnState) (page : page_of s ≡ Some s) where
  -- with the node of the next page
  abbrev next : Arena → ℕ → NodeId → Arena
  next a k n = with_new a n (page_name cache k) s

  -- what is had then
  record HasNext (a : Arena) (done rest : List PageEntry) (n : NodeId) : Type 0 where
    sound : IsSound (next a (length done) n)
    forest : forest_of (next a (length done) n) ≡ put (forest_of a) (page_name cache (length done)) (childless (Some s) Root)
    cells : (next a (length done) n).cells ≡ ids.insert a.cells n.0 (new_cell (page_name cache (length done)) s)
    caches : (next a (length done) n).caches ≡ tables_and ts table (done ++ entry_for n ∷ rest)
    made : (next a (length done) n).made ≡ a.made
    copies : (next a (length done) n).copies ≡ a.copies

  one_more : (a : Arena) (done rest : List PageEntry) (n : NodeId) → IsSound a → a.caches ≡ tables_and ts table (done ++ record { node = None } ∷ rest) → ids.get a.cells n.0 ≡ None → HasNext a done rest n
  unfolding with_new
  one_more a done rest n sound tables free =
      let k : ℕ = length done in
      let old : List (Option Table) = tables_and ts table (done ++ record { node = None } ∷ rest) in
      let vacant : entry_at a.caches cache.0 k ≡ Some (record { node = None }) = ap (λ us. entry_at us cache.0 k) tables ∙ ap (λ c. entry_at old c k) number ∙ vacant_last ts table done rest in
      record {
        sound = page-sound a sound.kept n free cache (record { 0 = k }) vacant s sound.linked;
        forest = page-forest a sound.kept n free cache (record { 0 = k }) vacant s ∙ ap (λ o. put (forest_of a) (page_name cache k) (childless o Root)) page;
        cells = refl;
        caches = ap (λ us. cache_with us cache.0 k (Some n)) tables ∙ ap (λ c. cache_with old c k (Some n)) number ∙ cache_last ts table done rest (record { node = None }) n;
        made = refl;
        copies = refl;
      }

  -- what is had when all came
  record Filled (a : Arena) (k count : ℕ) (after : FinMap nat_cmp Cell) (entries : List PageEntry) : Type 0 where
    arena : Arena
    sound : IsSound arena
    forest : forest_of arena ≡ make (map (λ x. (x, s)) (page_names cache k count)) (forest_of a)
    cells : arena.cells ≡ after
    caches : arena.caches ≡ tables_and ts table entries
    made : arena.made ≡ a.made
    copies : arena.copies ≡ a.copies

  fill : (ns : List NodeId) (a : Arena) (done : List PageEntry) (after : FinMap nat_cmp Cell) → IsSound a → a.caches ≡ tables_and ts table (done ++ map blank_entry ns) → IsFilled a.cells cache (length done) s ns after → Filled a (length done) (length ns) after (done ++ map entry_for ns)
  fill [] a done after is_sound tables filled = record { arena = a; sound = is_sound; forest = refl; cells = sym filled; caches = tables; made = refl; copies = refl }
  fill (n ∷ ns) a done after is_sound tables filled =
      let k : ℕ = length done in
      let b : Arena = next a k n in
      let step : HasNext a done (map blank_entry ns) n = one_more a done (map blank_entry ns) n is_sound tables filled.0 in
      let more : List PageEntry = done ++ entry_for n ∷ [] in
      let len : length more ≡ k + 1 = length-append done (entry_for n ∷ []) in
      let rest : IsFilled b.cells cache (length more) s ns after = subst (λ j. IsFilled b.cells cache j s ns after) (sym len) (subst (λ c. IsFilled c cache (k + 1) s ns after) (sym step.cells) filled.1) in
      let last : Filled b (length more) (length ns) after (more ++ map entry_for ns) = fill ns b more after step.sound (step.caches ∙ ap (tables_and ts table) (sym (append_assoc done (entry_for n ∷ []) (map blank_entry ns)))) rest in
      record {
        arena = last.arena;
        sound = last.sound;
        forest = last.forest
            ∙ ap (λ j. make (map (λ x. (x, s)) (page_names cache j (length ns))) (forest_of b)) len
            ∙ ap (make (map (λ x. (x, s)) (page_names cache (k + 1) (length ns)))) step.forest
            ∙ make-later (page_names cache (k + 1) (length ns)) s (forest_of a) (page_name cache k) (childless (Some s) Root) (ranges_hold_pages_once cache k (suc (length ns))).0;
        cells = last.cells;
        caches = last.caches ∙ ap (tables_and ts table) (append_assoc done (entry_for n ∷ []) (map entry_for ns));
        made = last.made ∙ step.made;
        copies = last.copies ∙ step.copies;
      }

-- a cache that is made
module _ (a b : Arena) (cache : CacheId) (segment : Option SegId) (s : OwnState) (ns : List NodeId) (m : IsMade a b cache segment s ns) (page : page_of s ≡ Some s) (sound : IsSound a) where
  abbrev start : Arena
  start = record a { caches = tables_and a.caches (new_table segment ns) (map blank_entry ns) }

  filled : Filled a.caches (new_table segment ns) cache (omega (arith, m.number)) s page start 0 (length ns) b.cells (map entry_for ns)
  filled = fill a.caches (new_table segment ns) cache (omega (arith, m.number)) s page ns start [] b.cells (alike_sound a start refl refl (same_nodes a.caches (new_table segment ns) ns) sound) refl m.cells

  only_room : ◌≡◌ {A = Arena} b (record filled.arena { room = b.room })
  only_room =
      let f = filled in
      let cells : b.cells ≡ f.arena.cells = sym f.cells in
      let caches : b.caches ≡ f.arena.caches = m.caches ∙ sym f.caches in
      let made : b.made ≡ f.arena.made = m.made ∙ sym f.made in
      let copies : b.copies ≡ f.arena.copies = m.copies ∙ sym f.copies in
      λ i. record { cells = cells i; caches = caches i; made = made i; copies = copies i; room = b.room }

  pub made-sound : IsSound b
  made-sound = roomier_sound filled.arena b filled.sound only_room

  pub made-forest : forest_of b ≡ make (map (λ x. (x, s)) (page_names cache 0 (length ns))) (forest_of a)
  made-forest = roomier_forest filled.arena b only_room ∙ filled.forest ∙ ap (make (map (λ x. (x, s)) (page_names cache 0 (length ns)))) (retabled_forest a start.caches)
