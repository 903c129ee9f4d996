-- Translations stay right where room is taken, and where a cache is made.
use Rattle.std.proofs.Common.{◌≡◌, ◌≢◌, ℕ, zero, suc, ◌+◌, ◌<◌, Bool, true, false, List, [], ◌∷◌, ◌++◌, cond, filter, length, map, Option, Some, None, is_none, is_some, unwrap_or, option_map, slice_get, refl, sym, ap, ◌∙◌, subst, arith, inl, inr}
use Rattle.std.specs.Prelude.{IsSome, option_and_then}
use Rattle.std.specs.Option.{option_or}
use Rattle.std.proofs.lemmas.Bool.{cases_lt, false≢true}
use Rattle.std.proofs.lemmas.List.{get_or_past}
use Rattle.vm_ids.specs.declared.node_name.NodeName.{NodeName}
use Rattle.vm_ids.specs.declared.node_name.NodeName.TheVariants.{Live}
use Rattle.vm_ids.specs.declared.numbers.CacheId.{CacheId}
use Rattle.vm_ids.specs.declared.numbers.NodeId.{NodeId}
use Rattle.vm_ids.specs.declared.numbers.PageNo.{PageNo}
use Rattle.vm_ids.specs.Forest.Commands.{firsts, make, page_name, page_names}
use Rattle.vm_ids.specs.Forest.Laws.Commands.{AreFresh, given}
use Rattle.vm_ids.specs.Forest.NameLists.{◌∈◌, Once, first}
use Rattle.vm_ids.specs.Forest.Nodes.{Forest, IsNode, is_live, node}
use Rattle.vm_ids.specs.Forest.PageMap.{bare}
use Rattle.vm_ids.specs.Forest.Reading.{value_of}
use Rattle.vm_ids.specs.Forest.Rules.{heir}
use Rattle.vm_ids.specs.Forest.Shape.{IsConsistent}
use Rattle.vm_ids.proofs.Forest.Agreeing.{value_none}
use Rattle.vm_ids.proofs.Forest.BareThin.{bare-consistent}
use Rattle.vm_ids.proofs.Forest.Laws.Copying.{make_gives_pages}
use Rattle.vm_ids.proofs.Forest.Laws.Ranges.{ranges_hold_pages_once, ranges_hold_their_pages}
use Rattle.vm_ids.proofs.Forest.LinkingOver.{node-none}
use Rattle.vm_ids.proofs.Forest.Names.{same_apart}
use Rattle.global_map.specs.Pairs.{frame_of}
use Rattle.local_cache.specs.declared.home.Home.{Home}
use Rattle.local_cache.specs.declared.own_state.OwnState.{OwnState}
use Rattle.local_cache.specs.declared.own_state.OwnState.TheVariants.{Absent, Zero, Resident, Slot, OnSegment}
use Rattle.local_cache.specs.Arena.{Arena, CellsStay, HasNode, HasPages, Table, TablesStay, blank, cell, find, new_cell, table_at, table_of}
use Rattle.local_cache.specs.Own.{own_of}
use Rattle.local_cache.specs.Reading as arena
use Rattle.local_cache.specs.Reading.{name_of, page_of}
use Rattle.local_cache.specs.ReadingBy.{Tells}
use Rattle.local_cache.specs.Sound.{IsSound}
use Rattle.local_cache.specs.Whole.{IsWhole, size_of}
use Rattle.local_cache.proofs.Forest.Reading.{IsNode-forest_of, forest_of-IsNode, get-forest_by_none, held_or_not}
use Rattle.local_cache.proofs.Forest.ReadingBy.{bare-of, lifted, page-at}
use Rattle.local_cache.proofs.Whole.LivePages.{node_page}
use Rattle.residency.specs.Seeing.{IsAlone, frame_forest, own_frame, seen_in}
use Rattle.residency.specs.World.{page_by}
use Rattle.residency.specs.declared.store.Store.{Store}
use Rattle.page_commands.specs.Homes.{IsWritable}
use Rattle.pvm_core.specs.Translated.{KeepsTranslations, name_at}
use Rattle.pvm_core.proofs.Opening.Forest.{make_other, with_pages, made_pages}
use Rattle.pvm_core.proofs.Translating.Alike.{still_right}
use Rattle.pvm_core.proofs.Translating.Cells.{cells_right}
use Rattle.pvm_core.proofs.Translating.Writable.{tables_writable}

-- Room that is taken

pub roomy_right : (a b : Arena) (s t : Store) → b ≡ record a { room = b.room } → t ≡ record s { slots = t.slots } → KeepsTranslations a b s t
roomy_right a b s t room slots =
    cells_right a b (ap (λ (k : Arena). k.cells) room) (ap (λ (k : Arena). k.made) room) (ap (λ (k : Arena). k.copies) room) s t (ap (λ (k : Store). k.tables) slots) (ap (λ (k : Store). k.map) slots)
    (tables_writable a b (ap (λ (k : Arena). k.caches) room))

-- The forest of frames

framed : (f : Option ℕ) (s : OwnState) → is_some (page_by None f (λ slot. None) None s) ≡ is_some (page_of s)
framed f Absent = refl
framed f Zero = refl
framed f (Resident dirty) = refl
framed f (Slot s) = refl
framed f OnSegment = refl

pub frames_tell : (a : Arena) (frames : List (Option NodeId)) → Tells (own_frame a frames) a
frames_tell a frames n = framed (Some (frame_of frames n.0)) (own_of a n)

module _ (a : Arena) (frames : List (Option NodeId)) (sound : IsSound a) where
  pub frames_bare : bare (frame_forest a frames) ≡ bare (arena.forest_of a)
  unfolding frame_forest
  frames_bare = bare-of (own_frame a frames) a sound.kept.named (frames_tell a frames)

  pub frames_own : (n : NodeId) → HasNode a n → (node (frame_forest a frames) (name_of a n)).own ≡ own_frame a frames n
  unfolding frame_forest
  frames_own n held = page-at (own_frame a frames) a sound.kept.named n held

  frames_node : (x : NodeName) → IsNode (frame_forest a frames) x → IsNode (arena.forest_of a) x
  unfolding frame_forest
  frames_node x is = elim (held_or_not a x) [
    | inl f ↦ subst (IsNode (arena.forest_of a)) f.2 (IsNode-forest_of a sound.kept.named f.0 f.1)
    | inr none ↦ absurd (false≢true (sym (ap is_some (get-forest_by_none a (own_frame a frames) x none)) ∙ is))
  ]

-- A cache that is made

given_outside : {P : Type 0} (es : List (NodeName × P)) (y : NodeName) → (y ∈ firsts es → ⊥) → given es y ≡ None
given_outside [] y out = refl
given_outside (e ∷ es) y out = ap (λ (t : Bool). cond t (Some e.1) (given es y)) (same_apart y e.0 (λ q. out (inl q))) ∙ given_outside es y (λ i. out (inr i))

names_of : {P : Type 0} (v : NodeName → P) (xs : List NodeName) → firsts (with_pages v xs) ≡ xs
names_of v [] = refl
names_of v (x ∷ xs) = ap (λ ys. x ∷ ys) (names_of v xs)

no_table : (ts : List (Option Table)) (cache : ℕ) → length ts < cache → table_at ts cache ≡ None
no_table ts zero far = refl
no_table ts (suc k) far = get_or_past ts k None (omega (arith, far))

-- a page of a cache whose table stays may be written still
table_writable : (a b : Arena) (cache : CacheId) (page : PageNo) → table_of b cache.0 ≡ table_of a cache.0 → IsWritable a (Live cache page) → IsWritable b (Live cache page)
table_writable a b cache page same writable home =
    ap (λ (o : Option Table). unwrap_or (option_and_then (λ t. slice_get t.grants page.0) o) false) same
    ∙ writable (subst (λ (o : Option Table). IsSome (option_map (λ segment. let h : Home = record { segment = segment; page = page } in h) (option_and_then (λ (t : Table). t.segment) o))) same home)

none_left : (p q : NodeName → Bool) (ts ss : List NodeName) → ((t : NodeName) → p t ≡ false → q t ≡ false) → first (filter p ts ++ ss) ≡ None → first (filter q ts ++ ss) ≡ None
none_left p q [] ss fewer e = e
none_left p q (t ∷ ts) ss fewer e = go (p t) refl e (none_left p q ts ss fewer)
  where
    go : (c : Bool) → p t ≡ c → first (cond c (t ∷ filter p ts) (filter p ts) ++ ss) ≡ None → (first (filter p ts ++ ss) ≡ None → first (filter q ts ++ ss) ≡ None) → first (cond (q t) (t ∷ filter q ts) (filter q ts) ++ ss) ≡ None
    go true k f rest = absurd (cc f)
    go false k f rest = ap (λ (c : Bool). first (cond c (t ∷ filter q ts) (filter q ts) ++ ss)) (fewer t k) ∙ rest f

module _ (a b : Arena) (s : Store) (cache : CacheId) (n : ℕ) (own : OwnState) (nowhere : (f : Option ℕ) → page_by None f (λ slot. None) None own ≡ Some None) (number : cache.0 ≡ length a.caches + 1)
    (has : HasPages b cache n own) (stays : CellsStay a b) (tables : TablesStay a b) (forest : arena.forest_of b ≡ make (map (λ x. (x, own)) (page_names cache 0 n)) (arena.forest_of a)) (whole : IsWhole a) (then : IsSound b) where
  abbrev names : List NodeName
  names = page_names cache 0 n

  abbrev old : Forest (Option ℕ)
  old = frame_forest a s.map

  abbrev new : Forest (Option ℕ)
  new = make (with_pages (λ _. None) names) old

  -- there was no node for a page of it
  fresh : (x : NodeName) → x ∈ names → IsNode (arena.forest_of a) x → ⊥
  fresh x i is =
      let at = (ranges_hold_their_pages cache 0 n x).0 i in
      let p = node_page a whole.sound cache (0 + at.0) (subst (IsNode (arena.forest_of a)) at.2 is) in
      let unmade : size_of a cache.0 ≡ None = ap (option_map (λ (t : Table). length t.pages)) (no_table a.caches cache.0 (omega (arith, number))) in
      (let e : Some p.0 ≡ None = sym p.1 ∙ unmade in cc e)

  new_frame : (m : NodeId) (page : ℕ) → page < n → find b m ≡ Some (new_cell (page_name cache page) own) → own_frame b s.map m ≡ Some None
  unfolding cell
  new_frame m page low e = ap (λ o. page_by None (Some (frame_of s.map m.0)) (λ slot. None) None (unwrap_or o blank).own) e ∙ nowhere (Some (frame_of s.map m.0))

  frame_stays : (m : NodeId) → HasNode a m → own_frame b s.map m ≡ own_frame a s.map m
  unfolding cell
  frame_stays m k = ap (λ o. page_by None (Some (frame_of s.map m.0)) (λ slot. None) None (unwrap_or o blank).own) (stays m k)

  frames_made : frame_forest b s.map ≡ new
  unfolding frame_forest
  frames_made =
      let pages = made_pages a b cache n own (λ _. None) (own_frame a s.map) (own_frame b s.map) old has stays new_frame frame_stays forest then fresh (frames_bare a s.map whole.sound) (frames_own a s.map whole.sound) in
      lifted (own_frame b s.map) b then.kept.named (frames_tell b s.map) new pages.0 pages.1

  are_fresh : AreFresh old (with_pages (λ _. None) names)
  are_fresh = record {
    once = subst Once (sym (names_of (λ _. None) names)) (ranges_hold_pages_once cache 0 n);
    fresh = λ x i. (
        let j = subst (λ xs. x ∈ xs) (names_of (λ _. None) names) i in
        let at = (ranges_hold_their_pages cache 0 n x).0 j in
        (λ is. fresh x j (frames_node a s.map whole.sound x is), ap is_live at.2));
  }

  -- a page that was seen in a frame is none of the new ones
  outside : (x : NodeName) (f : ℕ) → seen_in a s.map x ≡ Some f → x ∈ names → ⊥
  outside x f seen i =
      let none : value_of old x ≡ None = value_none old x (λ is. fresh x i (frames_node a s.map whole.sound x is)) in
      let clash : None ≡ Some f = sym (ap (option_and_then (λ frame. frame)) none) ∙ seen in
      cc clash

  made_seen : (x : NodeName) (f : ℕ) → seen_in a s.map x ≡ Some f → seen_in b s.map x ≡ Some f
  made_seen x f seen =
      let consistent : IsConsistent old = bare-consistent (arena.forest_of a) old (sym (frames_bare a s.map whole.sound)) whole.consistent in
      let apart = given_outside (with_pages (λ _. None) names) x (λ i. outside x f seen (subst (λ xs. x ∈ xs) (names_of (λ _. None) names) i)) in
      let value : value_of (frame_forest b s.map) x ≡ value_of old x
      = ap (λ g. value_of g x) frames_made ∙ make_gives_pages (with_pages (λ _. None) names) old consistent are_fresh x ∙ ap (λ (o : Option (Option ℕ)). option_or o (value_of old x)) apart in
      ap (option_and_then (λ frame. frame)) value ∙ seen

  node_stays : (x : NodeName) → is_some (node (arena.forest_of a) x).own ≡ true → node (arena.forest_of b) x ≡ node (arena.forest_of a) x
  node_stays x owned = ap (λ f. node f x) forest ∙ make_other (λ _. own) (arena.forest_of a) names x (λ i.
      let none = node-none (arena.forest_of a) x (fresh x i) in
      false≢true (sym (ap (λ k. is_some k.own) none) ∙ owned))

  none_owned : (t : NodeName) → is_none (node (arena.forest_of a) t).own ≡ false → is_none (node (arena.forest_of b) t).own ≡ false
  none_owned t owned = ap (λ k. is_none k.own) (node_stays t (some_of (node (arena.forest_of a) t).own owned)) ∙ owned
    where
      some_of : {P : Type 0} (o : Option P) → is_none o ≡ false → is_some o ≡ true
      some_of None e = absurd (cc e)
      some_of (Some v) e = refl

  made_alone : (x : NodeName) → IsAlone a x → IsAlone b x
  unfolding heir
  made_alone x alone =
      let same = node_stays x alone.owned in
      record {
        owned = ap (λ k. is_some k.own) same ∙ alone.owned;
        last = ap (λ k. first (filter (λ t. is_none (node (arena.forest_of b) t).own) k.tree ++ k.stubs)) same
            ∙ none_left (λ t. is_none (node (arena.forest_of a) t).own) (λ t. is_none (node (arena.forest_of b) t).own) (node (arena.forest_of a) x).tree (node (arena.forest_of a) x).stubs none_owned alone.last;
      }

  seen_node : (x : NodeName) (f : ℕ) → seen_in a s.map x ≡ Some f → IsNode (arena.forest_of a) x
  seen_node x f seen = elim (held_or_not a x) [
    | inl g ↦ subst (IsNode (arena.forest_of a)) g.2 (IsNode-forest_of a whole.sound.kept.named g.0 g.1)
    | inr none ↦ absurd (
        let empty : value_of old x ≡ None = value_none old x (λ is. none_node none (frames_node a s.map whole.sound x is)) in
        let clash : None ≡ Some f = sym (ap (option_and_then (λ frame. frame)) empty) ∙ seen in
        cc clash)
  ]
    where
      none_node : ((m : NodeId) → HasNode a m → name_of a m ≢ x) → IsNode (arena.forest_of a) x → ⊥
      none_node none is = (let f = forest_of-IsNode a x is in none f.0 f.1 f.2)

  made_writable : (c : CacheId) (page : ℕ) (f : ℕ) → seen_in a s.map (page_name c page) ≡ Some f → IsWritable a (page_name c page) → IsWritable b (page_name c page)
  made_writable c page f seen =
      let p = node_page a whole.sound c page (seen_node (page_name c page) f seen) in
      table_writable a b c (record { 0 = page }) (tables c.0 (elim (cases_lt (length a.caches) c.0) [
        | inr low ↦ low
        | inl far ↦ absurd (let none : size_of a c.0 ≡ None = ap (option_map (λ (t : Table). length t.pages)) (no_table a.caches c.0 far) in let e : Some p.0 ≡ None = sym p.1 ∙ none in cc e)
      ]))

  pub made_right : KeepsTranslations a b s s
  made_right u right place e is =
      let r = right place e is in
      still_right a b s s u e r (made_seen (name_at r.at) e.to.frame.0) (λ w. made_alone (name_at r.at)) (made_writable (record { 0 = r.at.region.cache }) r.at.page e.to.frame.0 r.seen)
