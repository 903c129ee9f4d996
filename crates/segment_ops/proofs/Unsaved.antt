-- Pages of a range that have an own page and an heir.
use Rattle.std.proofs.Common.{◌≡◌, ◌≢◌, ℕ, zero, suc, length, ◌+◌, ◌-◌, ◌<◌, ◌≤◌, ◌^◌, ◌*◌, cond, ◌&&◌, List, Bool, true, false, Option, Some, None, is_some, option_map, Result, Ok, Err, refl, sym, ap, ◌∙◌, arith, inl, inr}
use Rattle.std.specs.Option.{IsSome}
use Rattle.std.specs.Prelude.{IfErr}
use Rattle.std.proofs.lemmas.Bool.{cases_eq, cases_lt}
use Rattle.vm_ids.specs.declared.command.Extent.{Extent}
use Rattle.vm_ids.specs.declared.node_name.NodeName.{NodeName}
use Rattle.vm_ids.specs.declared.node_name.NodeName.TheVariants.{Live, Working}
use Rattle.vm_ids.specs.declared.numbers.CacheId.{CacheId}
use Rattle.vm_ids.specs.declared.numbers.NodeId.{NodeId}
use Rattle.vm_ids.specs.Forest.Commands.{extent_names, page_name, page_names}
use Rattle.vm_ids.specs.Forest.NameMap.{len}
use Rattle.vm_ids.specs.Forest.Nodes.{Forest, node}
use Rattle.vm_ids.specs.Forest.PageMap.{no_page}
use Rattle.vm_ids.specs.Forest.Rules.{heir, heir_gets}
use Rattle.vm_ids.specs.Forest.Saving.{is_unsaved, saves, unsaved}
use Rattle.vm_ids.specs.Forest.Shape.{IsWellShaped}
use Rattle.vm_ids.proofs.Forest.Counters.{heir_gets-copies}
use Rattle.vm_ids.proofs.Forest.Fitting.{names_fit}
use Rattle.vm_ids.proofs.Forest.Laws.PageMap.{is_unsaved-map}
use Rattle.vm_ids.proofs.Forest.Laws.Ranges.{ranges_hold_their_pages}
use Rattle.vm_ids.proofs.Forest.PageMap.{len-map}
use Rattle.vm_ids.proofs.Forest.Saving.{next_save}
use Rattle.local_cache.specs.declared.own_state.OwnState.{OwnState}
use Rattle.local_cache.specs.declared.own_state.OwnState.TheVariants.{Absent, Zero, Resident, Slot, OnSegment}
use Rattle.local_cache.specs.Arena.{Arena, HasNode, node_at}
use Rattle.local_cache.specs.Changes.{Like}
use Rattle.local_cache.specs.Own.{is_absent, own_of}
use Rattle.local_cache.specs.Reading.{forest_of, name_of, page_of}
use Rattle.local_cache.specs.Sound.{IsSound}
use Rattle.local_cache.specs.Whole.{IsWhole, SameCaches, size_of}
use Rattle.local_cache.proofs.Forest.Reading.{node-forest_of}
use Rattle.local_cache.proofs.Forest.ReadingBy.{forest_by-copies}
use Rattle.local_cache.proofs.Tables.Sizes.{sizes_same}
use Rattle.local_cache.proofs.Whole.LivePages.{page_there, pages_once}
use Rattle.residency.specs.StoreForest.{store_forest}
use Rattle.residency.specs.World.{HasOwnPage, World, own_page}
use Rattle.fault_path.specs.Coming.{IsOfSave}
use Rattle.fault_path.proofs.Calls.Kept.{store_bare, store_heir}
use Rattle.segment_ops.specs.Ranges.{HasRange}
use Rattle.segment_ops.specs.Saving.{AreSaved, AreSavedNow, IsOfSaves, SavesEnd}
use Rattle.segment_ops.proofs.Saves.{all_saved, first_unsaved, none_unsaved, saved_now, saved_stays, saves_before, saves_left}

-- Ranges and nodes

-- a cache has no more pages than there are nodes
pub size_fits : (a : Arena) → IsWhole a → (cache : CacheId) (n : ℕ) → size_of a cache.0 ≡ Some n → n ≤ len (forest_of a).nodes
size_fits a whole cache n size =
    let once = pages_once a whole cache n size in
    let fits = names_fit (forest_of a) (page_names cache 0 n) once.once (λ x i. (once.live x i).0) in
    omega (arith, fits, names_count cache 0 n)
  where
    names_count : (cache : CacheId) (p n : ℕ) → length (page_names cache p n) ≡ n
    names_count cache p zero = refl
    names_count cache p (suc n) = ap suc (names_count cache (p + 1) n)

pub range_fits : (a : Arena) → IsWhole a → (range : Extent) → HasRange a range → range.first.0 + range.pages < 2 ^ 32
range_fits a whole range r = omega (arith, r.within, size_fits a whole range.cache r.pages r.size, whole.few)

pub sized_range : (a b : Arena) → SameCaches a b → (range : Extent) → HasRange a range → HasRange b range
sized_range a b sizes range r = record { pages = r.pages; size = sizes.sizes range.cache.0 ∙ r.size; within = r.within }

pub still_in_range : (a b : Arena) → Like a b → (range : Extent) → HasRange a range → HasRange b range
still_in_range a b like range r = record { pages = r.pages; size = (sizes_same a b like.caches).sizes range.cache.0 ∙ r.size; within = r.within }

-- each page of the range has a node
pub range_node : (a : Arena) → IsWhole a → (range : Extent) → HasRange a range → (p : ℕ) → p < range.first.0 + range.pages → IsSome (node_at a range.cache.0 p)
range_node a whole range r p low = page_there a whole.sound range.cache (record { 0 = p }) (whole.pages range.cache p r.pages r.size (omega (arith, r.within)))

-- and the node has its name
pub node_named : (a : Arena) → IsSound a → (cache : CacheId) (p : ℕ) (n : NodeId) → node_at a cache.0 p ≡ Some n → HasNode a n × (name_of a n ≡ page_name cache p)
node_named a sound cache p n at = sound.kept.listed.nodes cache.0 p n at

-- What a node has

some_page : (x : OwnState) → is_absent x ≡ false → is_some (page_of x) ≡ true
some_page Absent e = absurd (cc e)
some_page Zero e = refl
some_page (Resident d) e = refl
some_page (Slot s) e = refl
some_page OnSegment e = refl

no_page_of : (x : OwnState) → is_absent x ≡ true → is_some (page_of x) ≡ false
no_page_of Absent e = refl
no_page_of Zero e = absurd (cc e)
no_page_of (Resident d) e = absurd (cc e)
no_page_of (Slot s) e = absurd (cc e)
no_page_of OnSegment e = absurd (cc e)

map_some : {A B : Type 0} (f : A → B) (o : Option A) → is_some (option_map f o) ≡ is_some o
map_some f None = refl
map_some f (Some x) = refl

module _ (a : Arena) (sound : IsSound a) (n : NodeId) (held : HasNode a n) where
  own_is : is_some (node (forest_of a) (name_of a n)).own ≡ is_some (page_of (own_of a n))
  own_is = ap (λ k. is_some k.own) (node-forest_of a sound.kept.named n held)

  pub bare_saved : is_absent (own_of a n) ≡ true → is_unsaved (forest_of a) (name_of a n) ≡ false
  bare_saved e = ap (λ b. b && is_some (heir (forest_of a) (name_of a n))) (own_is ∙ no_page_of (own_of a n) e)

  pub owned_unsaved : is_absent (own_of a n) ≡ false → (o : Option NodeId) → option_map (name_of a) o ≡ heir (forest_of a) (name_of a n) → is_some o ≡ is_unsaved (forest_of a) (name_of a n)
  owned_unsaved e o is = sym (ap (λ b. b && is_some (heir (forest_of a) (name_of a n))) (own_is ∙ some_page (own_of a n) e) ∙ ap is_some (sym is) ∙ map_some (name_of a) o)

  by_own : (b : Bool) → is_absent (own_of a n) ≡ b → true ≡ is_unsaved (forest_of a) (name_of a n) → is_absent (own_of a n) ≡ false
  by_own true e is = absurd (let t = bare_saved e in cc)
  by_own false e is = e

  pub unsaved_owns : true ≡ is_unsaved (forest_of a) (name_of a n) → HasOwnPage a n
  unsaved_owns is = record { node = held; own_page = by_own (is_absent (own_of a n)) refl is }

pub unsaved_by : (w : World) → IsSound w.caches → (x : NodeName) → is_unsaved (store_forest w) x ≡ is_unsaved (forest_of w.caches) x
unsaved_by w sound x = sym (is_unsaved-map no_page (store_forest w) x) ∙ ap (λ f. is_unsaved f x) (store_bare w sound) ∙ is_unsaved-map no_page (forest_of w.caches) x

pub nodes_by : (w : World) → IsSound w.caches → len (store_forest w).nodes ≡ len (forest_of w.caches).nodes
nodes_by w sound = sym (len-map no_page (store_forest w)) ∙ ap (λ f. len f.nodes) (store_bare w sound) ∙ len-map no_page (forest_of w.caches)

abbrev page_number : NodeName → ℕ
page_number (Live cache page) = page.0
page_number (Working k) = 0

some_is : {A : Type 0} (o : Option A) → is_some o ≡ true → (v : A) × (o ≡ Some v)
some_is None e = absurd (cc e)
some_is (Some v) e = (v, refl)

and_left : (a b : Bool) → (a && b) ≡ true → a ≡ true
and_left true b e = refl
and_left false b e = absurd (cc e)

pub no_saves : {P : Type 0} (xs : List NodeName) (f : Forest P) → saves 0 xs f ≡ f
unfolding saves
no_saves xs f = refl

-- One save after another

-- So many saves of the range were done, and the pages before one of it are saved.
module _ (old w : World) (range : Extent) (done at : ℕ) (forest : store_forest w ≡ saves done (extent_names range) (store_forest old)) (first : range.first.0 ≤ at)
    (saved : (p : ℕ) → range.first.0 ≤ p → p < at → is_unsaved (store_forest w) (page_name range.cache p) ≡ false) where
  place : range.first.0 + (at - range.first.0) ≡ at
  place = omega (arith, first)

  -- the page there is next, where it isn't saved
  pub next_is : at < range.first.0 + range.pages → is_unsaved (store_forest w) (page_name range.cache at) ≡ true → unsaved (store_forest w) (extent_names range) ≡ Some (page_name range.cache at)
  next_is past is =
      first_unsaved (store_forest w) range.cache range.first.0 range.pages (at - range.first.0) (omega (arith, first)) (ap (λ k. is_unsaved (store_forest w) (page_name range.cache k)) place ∙ is) (λ i low. saved (range.first.0 + i) (omega arith) (omega (arith, first)))
      ∙ ap (λ k. Some (page_name range.cache k)) place

  -- it couldn't be saved
  pub failed_here : (v : World) → at < range.first.0 + range.pages → is_unsaved (store_forest w) (page_name range.cache at) ≡ true → store_forest v ≡ store_forest w → SavesEnd (extent_names range) done old v
  failed_here v past is same = record { forest = same ∙ forest; left = λ n low. saves_before n done (extent_names range) (store_forest old) low (ap (λ f. is_some (unsaved f (extent_names range))) (sym forest) ∙ ap is_some (next_is past is)) }

  -- there are more saves to do than were done
  pub few_done : IsWellShaped (store_forest old) → at < range.first.0 + range.pages → is_unsaved (store_forest w) (page_name range.cache at) ≡ true → done < len (store_forest old).nodes
  few_done shaped past is = saves_left done (extent_names range) (store_forest old) shaped (ap (λ f. is_some (unsaved f (extent_names range))) (sym forest) ∙ ap is_some (next_is past is))

  -- the node of the page there and its heir are those of the next save
  pub next_save_is : (n m : NodeId) → IsSound w.caches → Like old.caches w.caches → at < range.first.0 + range.pages → is_unsaved (store_forest w) (page_name range.cache at) ≡ true → name_of w.caches n ≡ page_name range.cache at
      → IsOfSave w.caches n m → IsOfSaves {T = ℕ} (Err done) (extent_names range) old m
  next_save_is n m sound like past is named save = record {
    step = done;
    early = omega arith;
    page = page_name range.cache at;
    next = ap (λ f. unsaved f (extent_names range)) (sym forest) ∙ next_is past is;
    one = elim save.one [
      | inl e ↦ inl (sym (like.name m) ∙ ap (name_of w.caches) e ∙ named)
      | inr e ↦ inr (ap (λ f. heir f (page_name range.cache at)) (sym forest) ∙ store_heir w sound (page_name range.cache at) ∙ ap (heir (forest_of w.caches)) (sym named) ∙ save.is_heir ∙ ap Some (sym e ∙ like.name m))
    ];
  }

  -- it was saved
  module _ (v : World) (h : NodeName) (past : at < range.first.0 + range.pages) (is : is_unsaved (store_forest w) (page_name range.cache at) ≡ true) (is_heir : heir (store_forest w) (page_name range.cache at) ≡ Some h)
      (after : store_forest v ≡ heir_gets (store_forest w) (page_name range.cache at)) where
    pub one_more : store_forest v ≡ saves (done + 1) (extent_names range) (store_forest old)
    one_more =
        let number : suc done ≡ done + 1 = omega arith in
        after ∙ ap (λ f. heir_gets f (page_name range.cache at)) forest
        ∙ sym (next_save done (extent_names range) (store_forest old) (page_name range.cache at) (ap (λ f. unsaved f (extent_names range)) (sym forest) ∙ next_is past is))
        ∙ ap (λ k. saves k (extent_names range) (store_forest old)) number

    pub saved_then : IsWellShaped (store_forest w) → (next : ℕ) → next ≤ at + 1 → ((p : ℕ) → range.first.0 ≤ p → p < next → p ≢ at → h ≢ page_name range.cache p)
        → (p : ℕ) → range.first.0 ≤ p → p < next → is_unsaved (store_forest v) (page_name range.cache p) ≡ false
    saved_then shaped next low apart p from below =
        let own = some_is (node (store_forest w) (page_name range.cache at)).own (and_left _ _ is) in
        elim (cases_eq p at) [
          | inl e ↦ ap (λ k. is_unsaved (store_forest v) (page_name range.cache k)) e ∙ ap (λ f. is_unsaved f (page_name range.cache at)) after ∙ saved_now (store_forest w) shaped (page_name range.cache at) h own.0 own.1 is_heir refl
          | inr d ↦ ap (λ f. is_unsaved f (page_name range.cache p)) after
              ∙ saved_stays (store_forest w) shaped (page_name range.cache at) h own.0 own.1 is_heir (page_name range.cache p) (λ e. d (pages_apart range.cache p at e)) (λ e. apart p from below d (sym e)) ∙ saved p from (omega (arith, low))
        ]
      where
        pages_apart : (cache : CacheId) (p q : ℕ) → page_name cache p ≡ page_name cache q → p ≡ q
        pages_apart cache p q e = ap page_number e

  -- the pages from there on, as far as another one, are saved
  pub saved_on : (next : ℕ) → ((p : ℕ) → at ≤ p → p < next → is_unsaved (store_forest w) (page_name range.cache p) ≡ false) → (p : ℕ) → range.first.0 ≤ p → p < next → is_unsaved (store_forest w) (page_name range.cache p) ≡ false
  saved_on next here p from below = elim (cases_lt p at) [
    | inl low ↦ saved p from low
    | inr high ↦ here p high below
  ]

  -- all pages are saved
  pub all_done : IsWellShaped (store_forest old) → range.first.0 + range.pages ≤ at → AreSaved (extent_names range) old w
  all_done shaped end =
      forest ∙ all_saved done (extent_names range) (store_forest old) shaped (ap (λ f. unsaved f (extent_names range)) (sym forest) ∙ none_unsaved (store_forest w) (extent_names range) (λ x i.
      let k = (ranges_hold_their_pages range.cache range.first.0 range.pages x).0 i in
      ap (is_unsaved (store_forest w)) k.2 ∙ saved (range.first.0 + k.0) (omega arith) (omega (arith, k.1))))

store_copies : (w : World) → (store_forest w).copies ≡ w.caches.copies
unfolding store_forest
store_copies w = forest_by-copies (own_page w) w.caches

-- a save is counted
pub copies_then : (old w v : World) (done : ℕ) → w.caches.copies ≡ old.caches.copies + done → (x h : NodeName) → store_forest v ≡ heir_gets (store_forest w) x → heir (store_forest w) x ≡ Some h → v.caches.copies ≡ old.caches.copies + (done + 1)
copies_then old w v done before x h after is_heir =
    let one : (heir_gets (store_forest w) x).copies ≡ (store_forest w).copies + 1 = heir_gets-copies (store_forest w) x ∙ ap (λ o. (store_forest w).copies + cond (is_some o) 1 0) is_heir in
    omega (arith, before, one, ap (λ f. f.copies) after, store_copies w, store_copies v)

-- each save leaves fewer of them, and each other step fewer pages of the range
pub measured : (nodes done end at next : ℕ) → done < nodes → end < 2 ^ 32 → (nodes - (done + 1)) * 2 ^ 33 + (end - next) < (nodes - done) * 2 ^ 33 + (end - at)
measured nodes done end at next few low = omega (arith, few, low)

-- where no page of the range has an own page and an heir, none is found
pub not_idle : (a b : Arena) (range : Extent) (page : ℕ) → range.first.0 ≤ page → page < range.first.0 + range.pages → AreSavedNow a (extent_names range) → b ≡ a → is_unsaved (forest_of b) (page_name range.cache page) ≡ true → ⊥
not_idle a b range page from below none same is =
    let i = (ranges_hold_their_pages range.cache range.first.0 range.pages (page_name range.cache page)).1 (page - range.first.0, omega (arith, from, below), ap (page_name range.cache) (let e : page ≡ range.first.0 + (page - range.first.0) = omega (arith, from) in e)) in
    let k : false ≡ true = sym (none (page_name range.cache page) i) ∙ ap (λ (x : Arena). is_unsaved (forest_of x) (page_name range.cache page)) (sym same) ∙ is in
    cc k

-- saves that were done before more were done, or all
pub in_more_saves : {T : Type 0} (r : Result T ℕ) (done : ℕ) (names : List NodeName) (w : World) (n : NodeId) → IfErr r (λ more. done ≤ more) → IsOfSaves {T = ℕ} (Err done) names w n → IsOfSaves r names w n
in_more_saves (Ok x) done names w n low k = record { step = k.step; early = tt; page = k.page; next = k.next; one = k.one }
in_more_saves (Err more) done names w n low k = record { step = k.step; early = omega (arith, low, k.early); page = k.page; next = k.next; one = k.one }
