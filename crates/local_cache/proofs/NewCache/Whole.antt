-- A cache that is made leaves the caches whole.
use Rattle.std.proofs.Common.{◌≡◌, ◌⊎◌, ℕ, zero, suc, ◌+◌, ◌<◌, ◌≤◌, ◌^◌, List, [], ◌∷◌, ◌++◌, get_or, length, map, Option, Some, None, option_map, refl, sym, ap, ◌∙◌, subst, inl, inr, arith}
use Rattle.std.proofs.lemmas.List.{length-map}
use Rattle.vm_ids.specs.declared.node_name.NodeName.{NodeName}
use Rattle.vm_ids.specs.declared.numbers.CacheId.{CacheId}
use Rattle.vm_ids.specs.declared.numbers.NodeId.{NodeId}
use Rattle.vm_ids.specs.Forest.NameLists.{◌∈◌, Once}
use Rattle.vm_ids.specs.Forest.NameMap.{empty, len}
use Rattle.vm_ids.specs.Forest.Nodes.{Forest, IsNode, childless, is_live, no_forest}
use Rattle.vm_ids.specs.Forest.Nodes.Hang.{Root}
use Rattle.vm_ids.specs.Forest.Shape.{IsConsistent}
use Rattle.vm_ids.specs.Forest.Commands.{firsts, make, page_name, page_names}
use Rattle.vm_ids.specs.Forest.Laws.Commands.{AreFresh}
use Rattle.vm_ids.proofs.Forest.Laws.Copying.{make_keeps_consistency, no_forest_is_consistent}
use Rattle.vm_ids.proofs.Forest.Laws.Ranges.{ranges_hold_pages_once, ranges_hold_their_pages}
use Rattle.vm_ids.proofs.Forest.NodesAfter.{IsNode-put, put-IsNode}
use Rattle.local_cache.specs.declared.own_state.OwnState.{OwnState}
use Rattle.vm_ids.specs.declared.numbers.SegId.{SegId}
use Rattle.local_cache.specs.Arena.{Arena, IsMade, Table, entry_for, new_table}
use Rattle.local_cache.specs.Reading.{forest_of}
use Rattle.local_cache.specs.Sound.{IsSound}
use Rattle.local_cache.specs.Whole.{IsWhole, size_of}
use Rattle.vm_ids.proofs.Forest.Lengths.{put_len}
use Rattle.local_cache.proofs.Whole.LivePages.{no_caches, no_nodes, node_page}

-- the pages of a new cache, each of one own state
abbrev pub pages_with : OwnState → CacheId → ℕ → List (NodeName × OwnState)
pages_with own cache pages = map (λ x. (x, own)) (page_names cache 0 pages)

-- The forest

module _ {P : Type 0} (f : Forest P) where
  make_stays : (pages : List (NodeName × P)) (x : NodeName) → IsNode f x → IsNode (make pages f) x
  make_stays [] x is = is
  make_stays (e ∷ es) x is = put-IsNode (make es f) e.0 x (childless (Some e.1) Root) (make_stays es x is)

  make_there : (pages : List (NodeName × P)) (x : NodeName) → x ∈ firsts pages → IsNode (make pages f) x
  make_there [] x i = absurd i
  make_there (e ∷ es) x (inl q) = subst (IsNode (make (e ∷ es) f)) (sym q) (IsNode-put (make es f) e.0 (childless (Some e.1) Root))
  make_there (e ∷ es) x (inr i) = put-IsNode (make es f) e.0 x (childless (Some e.1) Root) (make_there es x i)

  make_len : (pages : List (NodeName × P)) → len (make pages f).nodes ≤ len f.nodes + length pages
  make_len [] = omega arith
  make_len (e ∷ es) = omega (arith, make_len es, put_len (make es f) e.0 (childless (Some e.1) Root))

pub named_alike : {P : Type 0} (v : P) (xs : List NodeName) → firsts (map (λ (x : NodeName). (x, v)) xs) ≡ xs
named_alike v [] = refl
named_alike v (x ∷ xs) = ap (λ ys. x ∷ ys) (named_alike v xs)

names_length : (c : CacheId) (p n : ℕ) → length (page_names c p n) ≡ n
names_length c p zero = refl
names_length c p (suc n) = ap suc (names_length c (p + 1) n)

-- The tables

-- what stands in a list with one more at its end
at_place : (ts : List (Option Table)) (t : Table) (k : ℕ) → (get_or (ts ++ Some t ∷ []) k None ≡ get_or ts k None) ⊎ ((k ≡ length ts) × (get_or (ts ++ Some t ∷ []) k None ≡ Some t))
at_place [] t zero = inr (refl, refl)
at_place [] t (suc k) = inl refl
at_place (u ∷ ts) t zero = inl refl
at_place (u ∷ ts) t (suc k) = elim (at_place ts t k) [ inl e ↦ inl e | inr e ↦ inr (ap suc e.0, e.1) ]

none_behind : (ts : List (Option Table)) → get_or ts (length ts) None ≡ None
none_behind [] = refl
none_behind (t ∷ ts) = none_behind ts

module _ (a b : Arena) (whole : IsWhole a) (cache : CacheId) (n : ℕ) (segment : Option SegId) (own : OwnState) (nodes : List NodeId) (size : length nodes ≡ n) (made : IsMade a b cache segment own nodes) (forest_is : forest_of b ≡ make (pages_with own cache n) (forest_of a)) (sound : IsSound b) (few : len (forest_of a).nodes + n < 2 ^ 32) where
  number : cache.0 ≡ suc (length a.caches)
  number = omega (arith, made.number)

  unmade : size_of a cache.0 ≡ None
  unmade = ap (size_of a) number ∙ ap (λ (o : Option Table). option_map (λ (t : Table). length t.pages) o) (none_behind a.caches)

  named : firsts (pages_with own cache n) ≡ page_names cache 0 n
  named = named_alike own (page_names cache 0 n)

  pub fresh : AreFresh (forest_of a) (pages_with own cache n)
  fresh = record {
    once = subst Once (sym named) (ranges_hold_pages_once cache 0 n);
    fresh = λ x i.
        let at = (ranges_hold_their_pages cache 0 n x).0 (subst (λ xs. x ∈ xs) named i) in (
          λ is. (let p = node_page a whole.sound cache (0 + at.0) (subst (IsNode (forest_of a)) at.2 is) in let e : Some p.0 ≡ None = sym p.1 ∙ unmade in cc e),
          ap is_live at.2,
        );
  }

  size_cases : (other : ℕ) → (size_of b other ≡ size_of a other) ⊎ ((other ≡ cache.0) × (size_of b other ≡ Some n))
  size_cases zero = inl refl
  size_cases (suc k) =
      let table : Table = new_table segment nodes in
      let at : get_or b.caches k None ≡ get_or (a.caches ++ Some table ∷ []) k None = ap (λ (ts : List (Option Table)). get_or ts k None) made.caches in
      elim (at_place a.caches table k) [
        | inl e ↦ inl (ap (λ (o : Option Table). option_map (λ (t : Table). length t.pages) o) (at ∙ e))
        | inr e ↦ inr (sym (number ∙ ap suc (sym e.0)), ap (λ (o : Option Table). option_map (λ (t : Table). length t.pages) o) (at ∙ e.1) ∙ ap Some (length-map nodes entry_for ∙ size))
      ]

  page_begun : (other : CacheId) (page count : ℕ) → size_of b other.0 ≡ Some count → page < count → IsNode (forest_of b) (page_name other page)
  page_begun other page count is low = subst (λ g. IsNode g (page_name other page)) (sym forest_is) (elim (size_cases other.0) [
    | inl e ↦ make_stays (forest_of a) (pages_with own cache n) (page_name other page) (whole.pages other page count (sym e ∙ is) low)
    | inr e ↦
        let two : Some count ≡ Some n = sym is ∙ e.1 in
        let all : count ≡ n = cc two in
        let zeroth : page ≡ 0 + page = omega arith in
        let same : page_name other page ≡ page_name cache (0 + page) = λ i. page_name (record { 0 = e.0 i }) (zeroth i) in
        make_there (forest_of a) (pages_with own cache n) (page_name other page) (subst (λ xs. page_name other page ∈ xs) (sym named) ((ranges_hold_their_pages cache 0 n (page_name other page)).1 (page, omega (arith, all, low), same)))
  ])

  pub whole_begun : IsWhole b
  whole_begun = record {
    sound = sound;
    consistent = subst IsConsistent (sym forest_is) (make_keeps_consistency (pages_with own cache n) (forest_of a) whole.consistent fresh);
    pages = page_begun;
    few = (
        let most = make_len (forest_of a) (pages_with own cache n) in
        let count : length (pages_with own cache n) ≡ n = length-map (page_names cache 0 n) (λ (x : NodeName). (x, own)) ∙ names_length cache 0 n in
        omega (arith, most, count, few, ap (λ (g : Forest OwnState). len g.nodes) forest_is));
  }

-- No cache yet

pub none_whole : (a : Arena) → a.caches ≡ [] → forest_of a ≡ no_forest → IsSound a → IsWhole a
none_whole a none forest sound = record {
  sound = sound;
  consistent = subst IsConsistent (sym forest) (no_forest_is_consistent OwnState);
  pages = λ cache page count size. absurd (no_caches a none cache.0 count size);
  few = no_nodes (forest_of a) forest;
}

pub none_len : (f : Forest OwnState) → f ≡ no_forest → len f.nodes ≤ 0
unfolding empty
none_len f is = subst (λ (g : Forest OwnState). len g.nodes ≤ 0) (sym is) (omega arith)
