-- How many pages the saves of a range copy: at most one for each of its pages.
use Rattle.std.proofs.Common.{◌≡◌, ◌≢◌, ℕ, zero, suc, ◌+◌, ◌<◌, ◌≤◌, ◌||◌, ◌&&◌, Bool, true, false, cond, List, [], ◌∷◌, filter, length, Option, Some, None, is_some, is_none, refl, sym, ap, ◌∙◌, arith, inl, inr}
use Rattle.vm_ids.specs.Held.{Held}
use Rattle.vm_ids.specs.declared.command.Extent.{Extent}
use Rattle.vm_ids.specs.declared.node_name.NodeName.{NodeName}
use Rattle.vm_ids.specs.declared.numbers.CacheId.{CacheId}
use Rattle.vm_ids.specs.Forest.Commands.{extent_names, page_names}
use Rattle.vm_ids.specs.Forest.NameLists.{◌∈◌}
use Rattle.vm_ids.specs.Forest.NameMap.{len}
use Rattle.vm_ids.specs.Forest.Nodes.{Forest, is_live, node}
use Rattle.vm_ids.specs.Forest.Rules.{heir, heir_gets}
use Rattle.vm_ids.specs.Forest.Saving.{is_unsaved, save_range, saved, saves, unsaved}
use Rattle.vm_ids.specs.Forest.Shape.{IsWellShaped}
use Rattle.vm_ids.proofs.Forest.Counters.{heir_gets-copies}
use Rattle.vm_ids.proofs.Forest.Laws.Owning.{with_heir}
use Rattle.vm_ids.proofs.Forest.Laws.Ranges.{ranges_hold_their_pages}
use Rattle.vm_ids.proofs.Forest.Names.{name_cases}
use Rattle.vm_ids.proofs.Forest.Owning.{heir_gets-shaped}
use Rattle.vm_ids.proofs.Forest.Reading.{value-IsValue}
use Rattle.vm_ids.specs.Forest.Values.IsValue.{itself}
use Rattle.vm_ids.proofs.Forest.Saving.{Unsaved, unsaved-Unsaved}
use Rattle.vm_ids.proofs.Forest.Values.{handed, heir_hangs, node-count_copy, own_kept}
use Rattle.local_cache.proofs.Forest.ReadingBy.{forest_by-copies}
use Rattle.residency.specs.StoreForest.{store_forest}
use Rattle.residency.specs.World.{World, own_page}
use Rattle.segment_ops.proofs.Saves.{saved_now, saved_stays}
use Rattle.local_cache.specs.Whole.{IsWhole}
use Rattle.pvm_core.specs.Manager.{Manager, forest_of, world_of}
use Rattle.pvm_core.proofs.Meaning.Values.{consistent_of}

-- Fewer names pass a test than another

some_more : (b c : Bool) (x : NodeName) (xs ys : List NodeName) → (b ≡ true → c ≡ true) → length xs ≤ length ys → length (cond b (x ∷ xs) xs) ≤ length (cond c (x ∷ ys) ys)
some_more true true x xs ys e low = omega (arith, low)
some_more false true x xs ys e low = omega (arith, low)
some_more false false x xs ys e low = low
some_more true false x xs ys e low = absurd (let t = e refl in cc t)

no_more : (p q : NodeName → Bool) → ((y : NodeName) → q y ≡ true → p y ≡ true) → (xs : List NodeName) → length (filter q xs) ≤ length (filter p xs)
no_more p q each [] = omega arith
no_more p q each (x ∷ xs) = some_more (q x) (p x) x (filter q xs) (filter p xs) (each x) (no_more p q each xs)

fewer : (p q : NodeName → Bool) → ((y : NodeName) → q y ≡ true → p y ≡ true) → (xs : List NodeName) (x : NodeName) → x ∈ xs → p x ≡ true → q x ≡ false → length (filter q xs) < length (filter p xs)
fewer p q each [] x i passes fails = absurd i
fewer p q each (y ∷ ys) x (inl e) passes fails =
    let a : p y ≡ true = ap p (sym e) ∙ passes in
    let b : q y ≡ false = ap q (sym e) ∙ fails in
    omega (arith, no_more p q each ys, ap (λ t. length (cond t (y ∷ filter p ys) (filter p ys))) a, ap (λ t. length (cond t (y ∷ filter q ys) (filter q ys))) b)
fewer p q each (y ∷ ys) x (inr i) passes fails = go (q y) (p y) (each y) (fewer p q each ys x i passes fails)
  where
    go : (b c : Bool) → (b ≡ true → c ≡ true) → length (filter q ys) < length (filter p ys) → length (cond b (y ∷ filter q ys) (filter q ys)) < length (cond c (y ∷ filter p ys) (filter p ys))
    go true true e low = omega (arith, low)
    go false true e low = omega (arith, low)
    go false false e low = low
    go true false e low = absurd (let t = e refl in cc t)

few : (p : NodeName → Bool) (xs : List NodeName) → length (filter p xs) ≤ length xs
few p [] = omega arith
few p (x ∷ xs) = go (p x) (few p xs)
  where
    go : (b : Bool) → length (filter p xs) ≤ length xs → length (cond b (x ∷ filter p xs) (filter p xs)) ≤ suc (length xs)
    go true low = omega (arith, low)
    go false low = omega (arith, low)

left_or : (a b : Bool) → a ≡ true → (a || b) ≡ true
left_or true b e = refl
left_or false b e = absurd (cc e)

right_or : (a b : Bool) → b ≡ true → (a || b) ≡ true
right_or true b e = refl
right_or false b e = e

-- The saves of a range

module _ {P : Type 0} where
  -- a page that may be saved now or later: it has an own page and an heir, or no own page
  abbrev pending : Forest P → NodeName → Bool
  pending f y = is_unsaved f y || is_none (node f y).own

  module _ (f : Forest P) (shaped : IsWellShaped f) (xs : List NodeName) (live : (x : NodeName) → x ∈ xs → is_live x ≡ true) (x : NodeName) (u : Unsaved f xs x) where
    own_stays : (y : NodeName) → y ≢ u.next → (node (heir_gets f x) y).own ≡ (node f y).own
    own_stays y apart = ap (λ g. (node g y).own) (with_heir f x u.next u.heir_is) ∙ ap (λ n. n.own) (node-count_copy (handed f x u.next) y)
        ∙ own_kept f shaped.linked x u.next u.page u.heir_is u.own_is (value-IsValue f shaped.linked (itself u.own_is)) y apart

    next_bare : (node f u.next).own ≡ None
    next_bare = (heir_hangs f shaped.linked x u.next u.heir_is).0

    apart_next : x ≢ u.next
    apart_next e = (let clash : None ≡ Some u.page = sym next_bare ∙ ap (λ y. (node f y).own) (sym e) ∙ u.own_is in cc clash)

    -- a page that may be saved after this save might be before it
    pending_before : (y : NodeName) → pending (heir_gets f x) y ≡ true → pending f y ≡ true
    pending_before y is = elim (name_cases y u.next) [
      | inl e ↦ right_or (is_unsaved f y) (is_none (node f y).own) (ap (λ z. is_none (node f z).own) e ∙ ap is_none next_bare)
      | inr apart ↦ elim (name_cases y x) [
        | inl e ↦ left_or (is_unsaved f y) (is_none (node f y).own) (ap (is_unsaved f) e ∙ unsaved_here)
        | inr other ↦ ap (λ a. a || is_none (node f y).own) (sym (saved_stays f shaped x u.next u.page u.own_is u.heir_is y other apart)) ∙ ap (λ o. is_unsaved (heir_gets f x) y || is_none o) (sym (own_stays y apart)) ∙ is
      ]
    ]
      where
        unsaved_here : is_unsaved f x ≡ true
        unsaved_here = ap (λ o. is_some o && is_some (heir f x)) u.own_is ∙ ap is_some u.heir_is

    done_here : pending (heir_gets f x) x ≡ false
    done_here = ap (λ a. a || is_none (node (heir_gets f x) x).own) (saved_now f shaped x u.next u.page u.own_is u.heir_is (live x u.there)) ∙ ap is_none (own_stays x apart_next ∙ u.own_is)

    pending_here : pending f x ≡ true
    pending_here = left_or (is_unsaved f x) (is_none (node f x).own) (ap (λ o. is_some o && is_some (heir f x)) u.own_is ∙ ap is_some u.heir_is)

    pending_fewer : length (filter (pending (heir_gets f x)) xs) < length (filter (pending f) xs)
    pending_fewer = fewer (pending f) (pending (heir_gets f x)) pending_before xs x u.there pending_here done_here

  saves_pending : (n : ℕ) (xs : List NodeName) (f : Forest P) → IsWellShaped f → ((x : NodeName) → x ∈ xs → is_live x ≡ true) → (saves n xs f).copies ≤ f.copies + length (filter (pending f) xs)
  unfolding saves
  saves_pending zero xs f shaped live = omega arith
  saves_pending (suc n) xs f shaped live = go (unsaved f xs) refl (λ g. saves_pending n xs g)
    where
      then : Option NodeName → Forest P
      then o = elim o [ None ↦ f | Some x ↦ saves n xs (heir_gets f x) ]

      copies_of : Forest P → ℕ
      copies_of g = g.copies

      go : (o : Option NodeName) → unsaved f xs ≡ o → ((g : Forest P) → IsWellShaped g → ((x : NodeName) → x ∈ xs → is_live x ≡ true) → (saves n xs g).copies ≤ g.copies + length (filter (pending g) xs)) → copies_of (then o) ≤ f.copies + length (filter (pending f) xs)
      go None e more = omega arith
      go (Some x) e more =
          let u = unsaved-Unsaved f xs x e in
          let one : (heir_gets f x).copies ≡ f.copies + 1 = heir_gets-copies f x ∙ ap (λ o. f.copies + cond (is_some o) 1 0) u.heir_is in
          let rest = more (heir_gets f x) (heir_gets-shaped f shaped x u.page u.own_is) live in
          let less = pending_fewer f shaped xs live x u in
          omega (arith, one, rest, less)

  pub saves_most : (n : ℕ) (xs : List NodeName) (f : Forest P) → IsWellShaped f → ((x : NodeName) → x ∈ xs → is_live x ≡ true) → (saves n xs f).copies ≤ f.copies + length xs
  saves_most n xs f shaped live = (let a = saves_pending n xs f shaped live in let b = few (pending f) xs in omega (arith, a, b))

  pub saved_most : (named : Bool) (xs : List NodeName) (f : Forest P) → IsWellShaped f → ((x : NodeName) → x ∈ xs → is_live x ≡ true) → (saved named xs f).copies ≤ f.copies + length xs
  unfolding save_range
  saved_most true xs f shaped live = saves_most (len f.nodes) xs f shaped live
  saved_most false xs f shaped live = omega arith

-- In a manager

names_count : (cache : CacheId) (p n : ℕ) → length (page_names cache p n) ≡ n
names_count cache p zero = refl
names_count cache p (suc n) = ap suc (names_count cache (p + 1) n)

pub extent_count : (e : Extent) → length (extent_names e) ≡ e.pages
extent_count e = names_count e.cache e.first.0 e.pages

pub extent_live : (e : Extent) (x : NodeName) → x ∈ extent_names e → is_live x ≡ true
extent_live e x i = (let at = (ranges_hold_their_pages e.cache e.first.0 e.pages x).0 i in ap is_live at.2)

copies_in : (w : World) → (store_forest w).copies ≡ w.caches.copies
unfolding store_forest
copies_in w = forest_by-copies (own_page w) w.caches

pub forest_copies : (p : Manager) (h : Option Held) → (forest_of p h).copies ≡ p.caches.copies
forest_copies p h = copies_in (world_of p h)

module _ (p q : Manager) (h g : Option Held) (e : Extent) (nodes : IsWhole p.caches) where
  -- behind the saves of a range the manager copied a page for each, and no more than those of the
  -- range
  pub range_copied : (named : Bool) → forest_of q g ≡ saved named (extent_names e) (forest_of p h) → (q.caches.copies ≡ (saved named (extent_names e) (forest_of p h)).copies) × (q.caches.copies ≤ p.caches.copies + e.pages)
  range_copied named forest =
      let is : q.caches.copies ≡ (saved named (extent_names e) (forest_of p h)).copies = sym (forest_copies q g) ∙ ap (λ f. f.copies) forest in
      let most = saved_most named (extent_names e) (forest_of p h) (consistent_of p h nodes).shaped (extent_live e) in
      (is, omega (arith, is, most, forest_copies p h, extent_count e))

  pub saves_copied : (done : ℕ) → forest_of q g ≡ saves done (extent_names e) (forest_of p h) → q.caches.copies ≤ p.caches.copies + e.pages
  saves_copied done forest =
      let is : q.caches.copies ≡ (saves done (extent_names e) (forest_of p h)).copies = sym (forest_copies q g) ∙ ap (λ f. f.copies) forest in
      let most = saves_most done (extent_names e) (forest_of p h) (consistent_of p h nodes).shaped (extent_live e) in
      omega (arith, is, most, forest_copies p h, extent_count e)
