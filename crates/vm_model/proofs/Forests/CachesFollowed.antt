-- The forest that follows agrees with the machine that follows where a cache comes or goes.
use Rattle.std.proofs.Common.{◌≡◌, ◌≢◌, ◌⊎◌, ℕ, ◌+◌, ◌-◌, ◌<◌, ◌≤◌, Bool, true, false, cond, List, [], ◌∷◌, ◌++◌, length, set, map, Option, Some, None, refl, sym, ap, subst, ◌∙◌, inl, inr, arith}
use Rattle.std.specs.Prelude.{◌↔◌, option_map, option_and_then, slice_get, IsSome}
use Rattle.std.specs.Option.{option_or}
use Rattle.std.proofs.lemmas.Bool.{cases_eq, cases_lt}
use Rattle.std.proofs.lemmas.List.{length-map}
use Rattle.std.proofs.lemmas.Option.{slice_get_past, slice_get-map, slice_get-get_or}
use Rattle.vm_ids.specs.declared.node_name.NodeName.{NodeName}
use Rattle.vm_ids.specs.declared.node_name.NodeName.TheVariants.{Live, Working}
use Rattle.vm_ids.specs.declared.numbers.CacheId.{CacheId}
use Rattle.vm_ids.specs.Forest.NameLists.{◌∈◌}
use Rattle.vm_ids.specs.Forest.Nodes.{IsNode, is_live}
use Rattle.vm_ids.specs.Forest.Reading.{value_of}
use Rattle.vm_ids.specs.Forest.Saving.{saves}
use Rattle.vm_ids.specs.Forest.Commands.{page_name, page_names, firsts, make, destroy}
use Rattle.vm_ids.specs.Forest.Shape.{IsConsistent}
use Rattle.vm_ids.specs.Forest.Laws.Commands.{given, is_in, AreFresh, ArePagesOnce}
use Rattle.vm_ids.specs.Forest.Laws.Ranges.{AreNodes}
use Rattle.vm_ids.proofs.Forest.Names.{same_apart}
use Rattle.vm_ids.proofs.Forest.Bound.{any_from_in}
use Rattle.vm_ids.proofs.Forest.Fitting.{in_from_any}
use Rattle.vm_ids.proofs.Forest.Saving.{saves_keep_values, saves_keep_consistency}
use Rattle.vm_ids.proofs.Forest.Laws.Ranges.{ranges_hold_their_pages, pages_are_given, extents_are_pages}
use Rattle.vm_ids.proofs.Forest.Laws.Reading.{nodes_have_values}
use Rattle.vm_ids.proofs.Forest.Laws.Copying.{make_keeps_consistency, make_gives_pages}
use Rattle.vm_ids.proofs.Forest.Laws.Commands.{destroy_keeps_consistency, destroy_destroys}
use Rattle.vm_model.specs.Machine.{Machine, Cache, Page, cache_of, numbered}
use Rattle.vm_model.specs.PageForest.{PageForest, told, nodes_of, page_in}
use Rattle.vm_model.specs.Laws.{IsFollowed}
use Rattle.vm_model.proofs.Parts.Lists.{numbered_place}
use Rattle.vm_model.proofs.Parts.ListParts.{numbered_push, numbered_pushed, numbered_past, numbered_set, numbered_set_other}
use Rattle.vm_model.proofs.Forests.Plain.{id_of, of_cache, one_cache, once_cache, names_of}

-- By values alone

some_told : (o : Option Page) → IsSome o → IsSome (option_map told o)
some_told None h = absurd (cc)
some_told (Some p) h = refl

told_some : (o : Option Page) → IsSome (option_map told o) → IsSome o
told_some None h = absurd (cc)
told_some (Some p) h = refl

abbrev pub HasValues : Machine → PageForest → Type 0
HasValues m f = (cache : CacheId) (page : ℕ) → value_of f (page_name cache page) ≡ option_map told (page_in m cache.0 page)

pub by_values : (m : Machine) (f : PageForest) → IsConsistent f → HasValues m f → IsFollowed m f
by_values m f c values = record {
  consistent = c;
  agrees = record {
    nodes = λ cache page.
        let each = nodes_have_values f c.shaped (page_name cache page) in (
          (λ is. told_some (page_in m cache.0 page) (subst IsSome (values cache page) (each.0 is))),
          (λ some. each.1 (subst IsSome (sym (values cache page)) (some_told (page_in m cache.0 page) some))),
        );
    values = values;
  };
}

module _ (m : Machine) (f : PageForest) (F : IsFollowed m f) where
  pub node_there : (cache : CacheId) (page : ℕ) (v : Page) → page_in m cache.0 page ≡ Some v → IsNode f (page_name cache page)
  node_there cache page v e = (F.agrees.nodes cache page).1 (subst IsSome (sym e) refl)

  -- the caches and their pages stay
  pub stays : (next : Machine) → next.caches ≡ m.caches → IsFollowed next f
  stays next same = record {
    consistent = F.consistent;
    agrees = record {
      nodes = λ cache page. subst (λ (cs : List (Option Cache)). IsNode f (page_name cache page) ↔ IsSome (option_and_then (λ (c : Cache). slice_get c.pages page) (numbered cs cache.0))) (sym same) (F.agrees.nodes cache page);
      values = λ cache page. F.agrees.values cache page ∙ ap (λ (cs : List (Option Cache)). option_map told (option_and_then (λ (c : Cache). slice_get c.pages page) (numbered cs cache.0))) (sym same);
    };
  }

  -- so many saves of any pages
  pub saves_followed : (n : ℕ) (xs : List NodeName) → IsFollowed m (saves n xs f)
  saves_followed n xs = by_values m (saves n xs f) (saves_keep_consistency n xs f F.consistent) (λ cache page. saves_keep_values n xs f F.consistent.shaped (page_name cache page) ∙ F.agrees.values cache page)

-- the page of a cache that is there
pub page_of_cache : (m : Machine) (n : ℕ) (c : Cache) (page : ℕ) → cache_of m n ≡ Some c → page_in m n page ≡ slice_get c.pages page
page_of_cache m n c page there = ap (option_and_then (λ (c : Cache). slice_get c.pages page)) there

pub there_within : (m : Machine) (n : ℕ) (c : Cache) (page : ℕ) → cache_of m n ≡ Some c → page < length c.pages → (v : Page) × (page_in m n page ≡ Some v)
there_within m n c page there less =
    let got = slice_get-get_or c.pages page [] less in
    (_, page_of_cache m n c page there ∙ got)

-- A new cache

pub given_none : {A : Type 0} (es : List (NodeName × A)) (y : NodeName) → (y ∈ firsts es → ⊥) → given es y ≡ None
given_none [] y out = refl
given_none (e ∷ es) y out = ap (λ (b : Bool). cond b (Some e.1) (given es y)) (same_apart y e.0 (λ q. out (inl q))) ∙ given_none es y (λ i. out (inr i))

abbrev page_number : NodeName → ℕ
page_number (Live c p) = p.0
page_number (Working k) = 0

pub same_page : (c d : CacheId) (p q : ℕ) → page_name c p ≡ page_name d q → p ≡ q
same_page c d p q e = ap page_number e

pub given_page : (n : ℕ) (c : Cache) (page : ℕ) → given (nodes_of n (Some c)) (page_name (id_of n) page) ≡ option_map told (slice_get c.pages page)
given_page n c page = elim (cases_lt page (length c.pages)) [
  | inl less ↦
      ap (λ (k : ℕ). given (nodes_of n (Some c)) (page_name (id_of n) k)) (let s : page ≡ 0 + page = omega arith in s)
      ∙ pages_are_given (id_of n) 0 (map told c.pages) page (omega (arith, less, length-map c.pages told))
      ∙ slice_get-map told c.pages page
  | inr past ↦
      given_none (nodes_of n (Some c)) (page_name (id_of n) page) (λ i.
      let at = (ranges_hold_their_pages (id_of n) 0 (length c.pages) (page_name (id_of n) page)).0 (subst (λ xs. page_name (id_of n) page ∈ xs) (names_of n c) i) in
      let q : page ≡ 0 + at.0 = same_page (id_of n) (id_of n) page (0 + at.0) at.2 in absurd (omega (arith, q, at.1, past)))
      ∙ sym (ap (option_map told) (slice_get_past c.pages page past))
]

pub or_none : {A : Type 0} (o : Option A) → option_or o None ≡ o
or_none None = refl
or_none (Some x) = refl

pub made_followed : (m : Machine) (f : PageForest) (n : ℕ) (c : Cache) → n ≡ length m.caches + 1 → IsFollowed m f → IsFollowed (record m { caches = m.caches ++ Some c ∷ [] }) (make (nodes_of n (Some c)) f)
made_followed m f n c new F =
    let es = nodes_of n (Some c) in
    let next : Machine = record m { caches = m.caches ++ Some c ∷ [] } in
    let none : (page : ℕ) → page_in m n page ≡ None = λ page. ap (option_and_then (λ (c : Cache). slice_get c.pages page)) (numbered_past m.caches n new) in
    let fresh : AreFresh f es = record {
      once = once_cache n (Some c);
      fresh = λ x i. let at = of_cache n (Some c) x i in (
        (λ is. let some = (F.agrees.nodes (id_of n) at.page).0 (subst (IsNode f) at.is is) in absurd (cc (none at.page, some))),
        ap is_live at.is,
      );
    } in
    let gives = make_gives_pages es f F.consistent fresh in
    by_values next (make es f) (make_keeps_consistency es f F.consistent fresh) (λ cache page. elim (cases_eq cache.0 n) [
      | inl e ↦
          let y = page_name cache page in
          gives y
          ∙ ap (λ (o : Option (Option Page)). option_or (given es y) o) (F.agrees.values cache page ∙ ap (λ (k : ℕ). option_map told (page_in m k page)) e ∙ ap (option_map told) (none page))
          ∙ or_none (given es y)
          ∙ ap (λ (k : ℕ). given es (page_name (id_of k) page)) e
          ∙ given_page n c page
          ∙ sym (ap (λ (k : ℕ). option_map told (page_in next k page)) e ∙ ap (option_map told) (page_of_cache next n c page (numbered_pushed m.caches (Some c) n new)))
      | inr other ↦
          let y = page_name cache page in
          gives y
          ∙ ap (λ (o : Option (Option Page)). option_or o (value_of f y)) (given_none es y (λ i. let at = of_cache n (Some c) y i in other (one_cache cache.0 n page at.page at.is)))
          ∙ F.agrees.values cache page
          ∙ sym (ap (λ (o : Option Cache). option_map told (option_and_then (λ (c : Cache). slice_get c.pages page) o)) (numbered_push m.caches (Some c) cache.0 (λ e. other (e ∙ sym new))))
    ])

-- A cache that goes

not_in : (xs : List NodeName) (y : NodeName) → (y ∈ xs → ⊥) → is_in y xs ≡ false
not_in xs y out = go (is_in y xs) refl
  where
    go : (b : Bool) → is_in y xs ≡ b → b ≡ false
    go true e = absurd (out (in_from_any xs y e))
    go false e = refl

pub in_range : (cache : CacheId) (first n page : ℕ) → first ≤ page → page < first + n → page_name cache page ∈ page_names cache first n
in_range cache first n page from less = (ranges_hold_their_pages cache first n (page_name cache page)).1 (page - first, omega (arith, from, less), ap (page_name cache) (let s : page ≡ first + (page - first) = omega arith in s))

abbrev pub number_of : NodeName → ℕ
number_of (Live c p) = c.0
number_of (Working k) = 0

pub other_range : (cache other : CacheId) (first n page : ℕ) → other.0 ≢ cache.0 → page_name other page ∈ page_names cache first n → ⊥
other_range cache other first n page apart i =
    let at = (ranges_hold_their_pages cache first n (page_name other page)).0 i in
    apart (ap number_of at.2)

pub out_of_range : (cache : CacheId) (first n page : ℕ) → (page < first) ⊎ (first + n ≤ page) → page_name cache page ∈ page_names cache first n → ⊥
out_of_range cache first n page out i =
    let at = (ranges_hold_their_pages cache first n (page_name cache page)).0 i in
    let q : page ≡ first + at.0 = same_page cache cache page (first + at.0) at.2 in
    elim out [ inl less ↦ absurd (omega (arith, q, less)) | inr past ↦ absurd (omega (arith, q, at.1, past)) ]

pub of_number : (cache : CacheId) (n page : ℕ) → cache.0 ≡ n → page_name cache page ≡ page_name (id_of n) page
of_number cache n page e = ap (λ (k : ℕ). page_name (id_of k) page) e

pub destroyed_followed : (m : Machine) (f : PageForest) (named : Bool) (cache : CacheId) (c : Cache) → cache_of m cache.0 ≡ Some c → IsFollowed m f
    → IsFollowed (record m { caches = set m.caches (cache.0 - 1) None }) (destroy named (page_names cache 0 (length c.pages)) f)
destroyed_followed m f named cache c there F =
    let xs = page_names cache 0 (length c.pages) in
    let next : Machine = record m { caches = set m.caches (cache.0 - 1) None } in
    let nodes : AreNodes f cache 0 (length c.pages) = λ i less. let v = there_within m cache.0 c (0 + i) there (omega (arith, less)) in node_there m f F cache (0 + i) v.0 v.1 in
    let once : ArePagesOnce f xs = extents_are_pages f (record { cache = cache; first = record { 0 = 0 }; pages = length c.pages }) nodes in
    let goes = destroy_destroys named xs f F.consistent once in
    by_values next (destroy named xs f) (destroy_keeps_consistency named xs f F.consistent once) (λ other page. elim (cases_eq other.0 cache.0) [
      | inl e ↦
          goes (page_name other page) refl
          ∙ gone (is_in (page_name other page) xs) (value_of f (page_name other page)) (elim (cases_lt page (length c.pages)) [
            | inl less ↦ inl (any_from_in xs (page_name other page) (subst (λ y. y ∈ xs) (sym (of_number other cache.0 page e)) (in_range cache 0 (length c.pages) page (omega arith) (omega (arith, less)))))
            | inr past ↦ inr (F.agrees.values other page ∙ ap (λ (k : ℕ). option_map told (page_in m k page)) e ∙ ap (option_map told) (page_of_cache m cache.0 c page there ∙ slice_get_past c.pages page past))
          ])
          ∙ sym (ap (λ (k : ℕ). option_map told (page_in next k page)) e ∙ ap (λ (o : Option Cache). option_map told (option_and_then (λ (c : Cache). slice_get c.pages page) o)) (numbered_set m.caches cache.0 c None there))
      | inr d ↦
          goes (page_name other page) refl
          ∙ ap (λ (b : Bool). cond b None (value_of f (page_name other page))) (not_in xs (page_name other page) (other_range cache other 0 (length c.pages) page d))
          ∙ F.agrees.values other page
          ∙ sym (ap (λ (o : Option Cache). option_map told (option_and_then (λ (c : Cache). slice_get c.pages page) o)) (numbered_set_other m.caches cache.0 other.0 None (numbered_place m.caches cache.0 c there).0 d))
    ])
  where
    gone : {A : Type 0} (b : Bool) (o : Option A) → (b ≡ true) ⊎ (o ≡ None) → cond b None o ≡ None
    gone true o h = refl
    gone false o (inl e) = absurd (cc e)
    gone false o (inr e) = e
