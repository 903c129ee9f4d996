-- The caches stay whole after a copy, a move, and after a cache went.
use Rattle.std.proofs.Common.{◌≡◌, ◌≢◌, ◌⊎◌, ℕ, zero, suc, ◌+◌, ◌<◌, ◌≤◌, ◌^◌, Bool, true, false, cond, List, [], ◌∷◌, get_or, set, length, Option, Some, None, is_some, option_map, refl, sym, ap, ◌∙◌, subst, inl, inr, arith}
use Rattle.std.specs.List.{list_any}
use Rattle.std.proofs.lemmas.Bool.{false≢true}
use Rattle.vm_ids.specs.declared.node_name.NodeName.{NodeName}
use Rattle.vm_ids.specs.declared.numbers.CacheId.{CacheId}
use Rattle.vm_ids.specs.declared.numbers.NodeId.{NodeId}
use Rattle.vm_ids.specs.Forest.Names.{same}
use Rattle.vm_ids.specs.Forest.NameLists.{◌∈◌}
use Rattle.vm_ids.specs.Forest.NameMap.{len}
use Rattle.vm_ids.specs.Forest.Nodes.{IsNode, is_live}
use Rattle.vm_ids.specs.Forest.Reading.{value_of}
use Rattle.vm_ids.specs.Forest.Settling.{settle}
use Rattle.vm_ids.specs.Forest.Shape.{IsConsistent}
use Rattle.vm_ids.specs.Forest.Commands.{destroy, page_name, page_names, retire_all}
use Rattle.vm_ids.specs.Forest.Laws.Commands.{is_in}
use Rattle.vm_ids.proofs.Forest.Agreeing.{IsNode-equal}
use Rattle.vm_ids.proofs.Forest.Bound.{any_from_in}
use Rattle.vm_ids.proofs.Forest.Fitting.{in_from_any}
use Rattle.vm_ids.proofs.Forest.Laws.Commands.{destroy_destroys}
use Rattle.vm_ids.proofs.Forest.Laws.Settling.{settle_keeps_consistency}
use Rattle.vm_ids.proofs.Forest.Laws.Ranges.{ranges_hold_their_pages}
use Rattle.vm_ids.proofs.Forest.Paths.{IsNode-value}
use Rattle.local_cache.specs.Arena.{Arena, Table, node_at, tables_without, without_cache}
use Rattle.local_cache.specs.Reading.{forest_of}
use Rattle.local_cache.specs.Sound.{IsSound}
use Rattle.local_cache.proofs.Forest.Reading.{IsNode-forest_of}
use Rattle.local_cache.specs.Whole.{IsWhole, SameCaches, size_of}
use Rattle.vm_ids.proofs.Forest.Lengths.{settle_len, settle_stays}
use Rattle.local_cache.proofs.Tables.Sizes.{sizes_then}
use Rattle.local_cache.proofs.Whole.LivePages.{node_page, pages_once, whole_after}

-- A cache that goes

module _ (a b : Arena) (whole : IsWhole a) (cache : CacheId) (n : ℕ) (size : size_of a cache.0 ≡ Some n) (forest_is : forest_of b ≡ destroy false (page_names cache 0 n) (forest_of a)) (sound : IsSound b) (consistent : IsConsistent (forest_of b)) (sizes : SameCaches a b) where
  value_is : (y : NodeName) → is_live y ≡ true → value_of (forest_of b) y ≡ cond (is_in y (page_names cache 0 n)) None (value_of (forest_of a) y)
  value_is y live = ap (λ g. value_of g y) forest_is ∙ destroy_destroys false (page_names cache 0 n) (forest_of a) whole.consistent (pages_once a whole cache n size) y live

  -- none of its pages has a node
  page_gone : (page : ℕ) → page < n → IsNode (forest_of b) (page_name cache page) → ⊥
  page_gone page low is =
      let number : page ≡ 0 + page = omega arith in
      let i : page_name cache page ∈ page_names cache 0 n = (ranges_hold_their_pages cache 0 n (page_name cache page)).1 (page, low, ap (page_name cache) number) in
      let none : value_of (forest_of b) (page_name cache page) ≡ None = value_is (page_name cache page) refl ∙ ap (λ t. cond t None (value_of (forest_of a) (page_name cache page))) (any_from_in (page_names cache 0 n) (page_name cache page) i) in
      false≢true (sym (ap is_some none) ∙ (IsNode-value (forest_of b) consistent.shaped (page_name cache page)).0 is)

  all_gone : (page : ℕ) → node_at b cache.0 page ≡ None
  all_gone page = go (node_at b cache.0 page) refl
    where
      go : (o : Option NodeId) → node_at b cache.0 page ≡ o → node_at b cache.0 page ≡ None
      go None e = e
      go (Some m) e =
          let at = sound.kept.listed.nodes cache.0 page m e in
          let is : IsNode (forest_of b) (page_name cache page) = subst (IsNode (forest_of b)) at.1 (IsNode-forest_of b sound.kept.named m at.0) in
          let p = node_page b sound cache page is in
          let two : Some p.0 ≡ Some n = sym p.1 ∙ sizes.sizes cache.0 ∙ size in
          let same_size : p.0 ≡ n = cc two in
          absurd (page_gone page (let low = p.2 in omega arith) is)

  -- the pages of other caches have theirs
  others_stay : (other : CacheId) (page : ℕ) → other.0 ≢ cache.0 → IsNode (forest_of a) (page_name other page) → IsNode (forest_of b) (page_name other page)
  others_stay other page apart is = IsNode-equal (forest_of a) (forest_of b) whole.consistent.shaped (page_name other page) (page_name other page)
      (value_is (page_name other page) refl ∙ ap (λ t. cond t None (value_of (forest_of a) (page_name other page))) (out (list_any (same (page_name other page)) (page_names cache 0 n)) refl)) is
    where
      another : (i : ℕ) → page_name other page ≡ page_name cache (0 + i) → other.0 ≡ cache.0
      another i e = cc e

      out : (t : Bool) → is_in (page_name other page) (page_names cache 0 n) ≡ t → is_in (page_name other page) (page_names cache 0 n) ≡ false
      out false e = e
      out true e =
          let at = (ranges_hold_their_pages cache 0 n (page_name other page)).0 (in_from_any (page_names cache 0 n) (page_name other page) e) in
          absurd (apart (another at.0 at.2))

-- The caches after whole commands

-- the pages of a copy were linked, and then the working nodes settled
pub whole_copied : (a b c : Arena) → IsWhole a → (more : ℕ) → len (forest_of a).nodes + more < 2 ^ 32 → IsConsistent (forest_of b) → ((x : NodeName) → IsNode (forest_of a) x → IsNode (forest_of b) x) → len (forest_of b).nodes ≤ len (forest_of a).nodes + more → SameCaches a b
    → forest_of c ≡ settle (forest_of b) → IsSound c → SameCaches b c → IsWhole c
whole_copied a b c whole more few consistent stays most first forest_is sound second =
    whole_after a c whole sound (subst IsConsistent (sym forest_is) (settle_keeps_consistency (forest_of b) consistent)) (sizes_then a b c first second)
    (λ x live there. subst (λ g. IsNode g x) (sym forest_is) (settle_stays (forest_of b) consistent x live (stays x there)))
    (let less = settle_len (forest_of b) consistent in omega (arith, less, most, few, ap (λ g. len g.nodes) forest_is))

-- a cache is gone
module _ (a b c : Arena) (whole : IsWhole a) (cache : CacheId) (n : ℕ) (size : size_of a cache.0 ≡ Some n) (forest_is : forest_of b ≡ destroy false (page_names cache 0 n) (forest_of a)) (sound : IsSound b) (consistent : IsConsistent (forest_of b)) (sizes : SameCaches a b)
    (few : len (forest_of b).nodes ≤ len (forest_of a).nodes) (changed : c ≡ without_cache b cache) (after : IsSound c) (same_forest : forest_of c ≡ forest_of b) where
  gone_size : (other : ℕ) → ((other ≢ cache.0) × (size_of c other ≡ size_of b other)) ⊎ (size_of c other ≡ None)
  gone_size other = go cache.0 other refl
    where
      kept : (ts : List (Option Table)) (k j : ℕ) → (j ≢ k) × (get_or (set ts k None) j None ≡ get_or ts j None) ⊎ (get_or (set ts k None) j None ≡ None)
      kept [] k j = inr refl
      kept (t ∷ ts) zero zero = inr refl
      kept (t ∷ ts) zero (suc j) = inl (λ e. (let z : suc j ≡ 0 = e in absurd (omega arith)), refl)
      kept (t ∷ ts) (suc k) zero = inl (λ e. (let z : 0 ≡ suc k = e in absurd (omega arith)), refl)
      kept (t ∷ ts) (suc k) (suc j) = elim (kept ts k j) [ inl r ↦ inl (λ e. r.0 (omega (arith, e)), r.1) | inr none ↦ inr none ]

      tables : c.caches ≡ tables_without b.caches cache.0
      tables = ap (λ (k : Arena). k.caches) changed

      go : (k j : ℕ) → cache.0 ≡ k → ((j ≢ cache.0) × (size_of c j ≡ size_of b j)) ⊎ (size_of c j ≡ None)
      go k zero e = inr refl
      go zero (suc j) e = inl ((λ q. (let z : suc j ≡ 0 = q ∙ e in absurd (omega arith))), ap (λ (ts : List (Option Table)). option_map (λ (t : Table). length t.pages) (get_or ts j None)) (tables ∙ ap (tables_without b.caches) e))
      go (suc k) (suc j) e =
          let at : c.caches ≡ set b.caches k None = tables ∙ ap (tables_without b.caches) e in
          elim (kept b.caches k j) [
            | inl r ↦ inl ((λ q. r.0 (let z : suc j ≡ suc k = q ∙ e in omega arith)), ap (λ (ts : List (Option Table)). option_map (λ (t : Table). length t.pages) (get_or ts j None)) at ∙ ap (λ (o : Option Table). option_map (λ (t : Table). length t.pages) o) r.1)
            | inr none ↦ inr (ap (λ (ts : List (Option Table)). option_map (λ (t : Table). length t.pages) (get_or ts j None)) at ∙ ap (λ (o : Option Table). option_map (λ (t : Table). length t.pages) o) none)
          ]

  whole_gone : IsWhole c
  whole_gone = record {
    sound = after;
    consistent = subst IsConsistent (sym same_forest) consistent;
    pages = λ other page count is low. elim (gone_size other.0) [
      | inl k ↦ subst (λ g. IsNode g (page_name other page)) (sym same_forest) (others_stay a b whole cache n size forest_is sound consistent sizes other page k.0 (whole.pages other page count (sym (sizes.sizes other.0) ∙ sym k.1 ∙ is) low))
      | inr none ↦ (let e : Some count ≡ None = sym is ∙ none in absurd (cc e))
    ];
    few = omega (arith, few, whole.few, ap (λ g. len g.nodes) same_forest);
  }

-- The pages of a cache were retired, the working nodes settled, and then the cache removed.
module _ (a b c : Arena) (whole : IsWhole a) (cache : CacheId) (n : ℕ) (size : size_of a cache.0 ≡ Some n) (left : forest_of b ≡ retire_all (page_names cache 0 n) (forest_of a)) (consistent : IsConsistent (forest_of b)) (first : SameCaches a b) (few : len (forest_of b).nodes ≤ len (forest_of a).nodes)
    (settled : forest_of c ≡ settle (forest_of b)) (sound : IsSound c) (second : SameCaches b c) where
  is_destroyed : forest_of c ≡ destroy false (page_names cache 0 n) (forest_of a)
  is_destroyed = settled ∙ ap settle left

  still_consistent : IsConsistent (forest_of c)
  still_consistent = subst IsConsistent (sym settled) (settle_keeps_consistency (forest_of b) consistent)

  same_sizes : SameCaches a c
  same_sizes = sizes_then a b c first second

  -- no page of the cache has a node
  pub emptied : (page : ℕ) → node_at c cache.0 page ≡ None
  emptied = all_gone a c whole cache n size is_destroyed sound still_consistent same_sizes

  pub whole_emptied : (d : Arena) → d ≡ without_cache c cache → IsSound d → forest_of d ≡ forest_of c → IsWhole d
  whole_emptied d changed after same_forest = whole_gone a c d whole cache n size is_destroyed sound still_consistent same_sizes
      (let less = settle_len (forest_of b) consistent in omega (arith, less, few, ap (λ g. len g.nodes) settled)) changed after same_forest
