-- The pages of a new cache in the forest of the store.
use Rattle.std.proofs.Common.{◌≡◌, ◌≢◌, ◌⊎◌, ℕ, suc, ◌+◌, ◌<◌, List, [], ◌∷◌, length, map, Option, Some, None, is_some, unwrap_or, slice_get, refl, sym, ap, ◌∙◌, subst, arith, inl, inr}
use Rattle.vm_ids.specs.Held.{Held}
use Rattle.vm_ids.specs.declared.node_name.NodeName.{NodeName}
use Rattle.vm_ids.specs.declared.numbers.CacheId.{CacheId}
use Rattle.vm_ids.specs.declared.numbers.NodeId.{NodeId}
use Rattle.vm_ids.specs.Forest.Commands.{make, page_name, page_names, pages_at}
use Rattle.vm_ids.specs.Forest.NameLists.{◌∈◌}
use Rattle.vm_ids.specs.Forest.Nodes.{Forest, IsNode, childless, node}
use Rattle.vm_ids.specs.Forest.Nodes.Hang.{Root}
use Rattle.vm_ids.specs.Forest.PageMap.{bare, map_pages, no_page}
use Rattle.vm_ids.proofs.Forest.Laws.Ranges.{ranges_hold_their_pages}
use Rattle.vm_ids.proofs.Forest.Names.{name_cases}
use Rattle.vm_ids.proofs.Forest.NodesAfter.{IsNode-put_cases, node-put, node-put_other}
use Rattle.vm_ids.proofs.Forest.PageMap.{put-map}
use Rattle.local_cache.specs.declared.own_state.OwnState.{OwnState}
use Rattle.local_cache.specs.Arena.{Arena, HasPage, HasNode, blank, cell, find, new_cell}
use Rattle.local_cache.specs.Reading as arena
use Rattle.local_cache.specs.Reading.{name_of}
use Rattle.local_cache.specs.Sound.{IsSound}
use Rattle.local_cache.proofs.Forest.Reading.{IsNode-forest_of, forest_of-IsNode}
use Rattle.local_cache.proofs.Forest.ReadingBy.{lifted}
use Rattle.residency.specs.declared.store.Store.{Store}
use Rattle.residency.specs.StoreForest.{store_forest}
use Rattle.residency.specs.World.{own_page, world}
use Rattle.residency.proofs.Worlds.Telling.{tells}
use Rattle.fault_path.proofs.Calls.Kept.{store_bare, store_page}
use Rattle.vm_model.specs.Machine.{Page}
use Rattle.vm_model.specs.PageForest.{told}

-- The rule goes with every change of pages

make-map : {P Q : Type 0} (h : P → Q) (es : List (NodeName × P)) (f : Forest P) → map_pages h (make es f) ≡ make (map (λ e. (e.0, h e.1)) es) (map_pages h f)
make-map h [] f = refl
make-map h (e ∷ es) f = put-map h (make es f) e.0 (childless (Some e.1) Root) ∙ ap (λ g. Rattle.vm_ids.specs.Forest.Changes.put g e.0 (childless (Some (h e.1)) Root)) (make-map h es f)

-- each name with its page
abbrev pub with_pages : {P : Type 0} → (NodeName → P) → List NodeName → List (NodeName × P)
with_pages v xs = map (λ x. (x, v x)) xs

bare_with : {P : Type 0} (v : NodeName → P) (xs : List NodeName) → map (λ e. (e.0, no_page e.1)) (with_pages v xs) ≡ with_pages (λ _. tt) xs
bare_with v [] = refl
bare_with v (x ∷ xs) = ap (λ es. (x, tt) ∷ es) (bare_with v xs)

bare_make : {P : Type 0} (v : NodeName → P) (xs : List NodeName) (f : Forest P) → bare (make (with_pages v xs) f) ≡ make (with_pages (λ _. tt) xs) (bare f)
bare_make v xs f = make-map no_page (with_pages v xs) f ∙ ap (λ es. make es (bare f)) (bare_with v xs)

module _ {P : Type 0} (v : NodeName → P) (f : Forest P) where
  make_here : (xs : List NodeName) (x : NodeName) → x ∈ xs → (node (make (with_pages v xs) f) x).own ≡ Some (v x)
  make_here [] x i = absurd i
  make_here (y ∷ ys) x i = at (name_cases x y) i (make_here ys x)
    where
      at : (x ≡ y) ⊎ (x ≢ y) → x ∈ (y ∷ ys) → (x ∈ ys → (node (make (with_pages v ys) f) x).own ≡ Some (v x)) → (node (make (with_pages v (y ∷ ys)) f) x).own ≡ Some (v x)
      at (inl e) i rest = ap (λ z. (node (make (with_pages v (y ∷ ys)) f) z).own) e ∙ ap (λ k. k.own) (node-put (make (with_pages v ys) f) y (childless (Some (v y)) Root)) ∙ ap (λ z. Some (v z)) (sym e)
      at (inr d) (inl e) rest = absurd (d e)
      at (inr d) (inr i) rest = ap (λ k. k.own) (node-put_other (make (with_pages v ys) f) y x (childless (Some (v y)) Root) d) ∙ rest i

  pub make_other : (xs : List NodeName) (x : NodeName) → (x ∈ xs → ⊥) → node (make (with_pages v xs) f) x ≡ node f x
  make_other [] x out = refl
  make_other (y ∷ ys) x out = node-put_other (make (with_pages v ys) f) y x (childless (Some (v y)) Root) (λ e. out (inl e)) ∙ make_other ys x (λ i. out (inr i))

  make_cases : (xs : List NodeName) (x : NodeName) → IsNode (make (with_pages v xs) f) x → (x ∈ xs) ⊎ IsNode f x
  make_cases [] x is = inr is
  make_cases (y ∷ ys) x is = elim (IsNode-put_cases (make (with_pages v ys) f) y x (childless (Some (v y)) Root) is) [
    | inl e ↦ inl (inl e)
    | inr is ↦ elim (make_cases ys x is) [ inl i ↦ inl (inr i) | inr is ↦ inr is ]
  ]

-- The nodes of a new cache

-- by what the nodes have as their own pages, before and now
module _ {P : Type 0} (a b : Arena) (cache : CacheId) (n : ℕ) (own : OwnState) (v : NodeName → P) (was now : NodeId → Option P) (old : Forest P) (has : (page : ℕ) → page < n → HasPage b cache page own) (stays : (m : NodeId) → HasNode a m → find b m ≡ find a m)
    (new_page : (m : NodeId) (page : ℕ) → page < n → find b m ≡ Some (new_cell (page_name cache page) own) → now m ≡ Some (v (page_name cache page))) (page_stays : (m : NodeId) → HasNode a m → now m ≡ was m)
    (forest : arena.forest_of b ≡ make (map (λ x. (x, own)) (page_names cache 0 n)) (arena.forest_of a)) (then : IsSound b) (fresh : (x : NodeName) → x ∈ page_names cache 0 n → IsNode (arena.forest_of a) x → ⊥)
    (bare_old : bare old ≡ bare (arena.forest_of a)) (reads : (m : NodeId) → HasNode a m → (node old (name_of a m)).own ≡ was m) where
  name_stays : (m : NodeId) → HasNode a m → name_of b m ≡ name_of a m
  unfolding cell
  name_stays m k = ap (λ o. (unwrap_or o blank).name) (stays m k)

  of_cell : (m : NodeId) (x : NodeName) → find b m ≡ Some (new_cell x own) → name_of b m ≡ x
  unfolding cell
  of_cell m x e = ap (λ o. (unwrap_or o blank).name) e

  new_own : (m : NodeId) → HasNode b m → name_of b m ∈ page_names cache 0 n → now m ≡ Some (v (name_of b m))
  new_own m k i =
      let at = (ranges_hold_their_pages cache 0 n (name_of b m)).0 i in
      let low : 0 + at.0 < n = omega (arith, at.1) in
      let p = has (0 + at.0) low in
      let name : name_of b p.node ≡ page_name cache (0 + at.0) = of_cell p.node (page_name cache (0 + at.0)) p.is in
      subst (λ (m : NodeId). now m ≡ Some (v (name_of b m))) (then.kept.named.apart p.node m (ap is_some p.is) k (name ∙ sym at.2))
      (new_page p.node (0 + at.0) low p.is ∙ ap (λ x. Some (v x)) (sym name))

  own_made : (m : NodeId) → HasNode b m → now m ≡ (node (make (with_pages v (page_names cache 0 n)) old) (name_of b m)).own
  own_made m k = elim (make_cases (λ _. own) (arena.forest_of a) (page_names cache 0 n) (name_of b m) (subst (λ f. IsNode f (name_of b m)) forest (IsNode-forest_of b then.kept.named m k))) [
    | inl i ↦ new_own m k i ∙ sym (make_here v old (page_names cache 0 n) (name_of b m) i)
    | inr is ↦ (
        let f = forest_of-IsNode a (name_of b m) is in
        let same : f.0 ≡ m = then.kept.named.apart f.0 m (ap is_some (stays f.0 f.1) ∙ f.1) k (name_stays f.0 f.1 ∙ f.2) in
        let there : HasNode a m = subst (HasNode a) same f.1 in
        page_stays m there ∙ sym (reads m there) ∙ ap (λ x. (node old x).own) (sym (name_stays m there)) ∙ sym (ap (λ k. k.own) (make_other v old (page_names cache 0 n) (name_of b m) (λ i. fresh (name_of b m) i is))))
  ]

  pub made_pages : (bare (arena.forest_of b) ≡ bare (make (with_pages v (page_names cache 0 n)) old)) × ((m : NodeId) → HasNode b m → now m ≡ (node (make (with_pages v (page_names cache 0 n)) old) (name_of b m)).own)
  made_pages = (
    ap bare forest ∙ bare_make (λ _. own) (page_names cache 0 n) (arena.forest_of a) ∙ ap (make (with_pages (λ _. tt) (page_names cache 0 n))) (sym bare_old) ∙ sym (bare_make v (page_names cache 0 n) old),
    own_made,
  )

module _ (h : Option Held) (a b : Arena) (s : Store) (cache : CacheId) (n : ℕ) (own : OwnState) (v : NodeName → Option (List ℕ)) (has : (page : ℕ) → page < n → HasPage b cache page own) (stays : (m : NodeId) → HasNode a m → find b m ≡ find a m)
    (new_page : (m : NodeId) (page : ℕ) → page < n → find b m ≡ Some (new_cell (page_name cache page) own) → own_page (world h None b s) m ≡ Some (v (page_name cache page)))
    (page_stays : (m : NodeId) → HasNode a m → own_page (world h None b s) m ≡ own_page (world h None a s) m)
    (forest : arena.forest_of b ≡ make (map (λ x. (x, own)) (page_names cache 0 n)) (arena.forest_of a)) (sound : IsSound a) (then : IsSound b) (fresh : (x : NodeName) → x ∈ page_names cache 0 n → IsNode (arena.forest_of a) x → ⊥) where
  -- the forest of the store gets these pages
  pub made_forest : store_forest (world h None b s) ≡ make (with_pages v (page_names cache 0 n)) (store_forest (world h None a s))
  unfolding store_forest
  made_forest =
      let pages = made_pages a b cache n own v (own_page (world h None a s)) (own_page (world h None b s)) (store_forest (world h None a s)) has stays new_page page_stays forest then fresh (store_bare (world h None a s) sound) (store_page (world h None a s) sound) in
      lifted (own_page (world h None b s)) b then.kept.named (tells (world h None b s)) (make (with_pages v (page_names cache 0 n)) (store_forest (world h None a s))) pages.0 pages.1

-- the pages of a cache, each under its name
pub named_pages : (v : NodeName → Option Page) (cache : CacheId) (first : ℕ) (ps : List Page) → ((i : ℕ) (p : Page) → slice_get ps i ≡ Some p → v (page_name cache (first + i)) ≡ told p)
    → with_pages v (page_names cache first (length ps)) ≡ pages_at cache first (map told ps)
named_pages v cache first [] each = refl
named_pages v cache first (p ∷ ps) each = λ i.
    (page_name cache first, (ap (λ (k : ℕ). v (page_name cache k)) (let e : first ≡ first + 0 = omega arith in e) ∙ each 0 p refl) i)
    ∷ named_pages v cache (first + 1) ps (λ k q e. ap (λ (j : ℕ). v (page_name cache j)) (let e : first + 1 + k ≡ first + suc k = omega arith in e) ∙ each (suc k) q e) i
