-- The forest that follows agrees with the machine that follows.
use Rattle.std.proofs.Common.{◌≡◌, ◌==◌, ◌⊎◌, ℕ, zero, suc, ◌+◌, ◌-◌, ◌<◌, ◌≤◌, Bool, true, false, cond, List, [], ◌∷◌, length, take, drop, map, replicate, Option, Some, None, refl, sym, ap, subst, ◌∙◌, inl, inr, arith}
use Rattle.std.specs.Prelude.{◌&&◌, option_map, option_and_then, slice_get, nat_lt}
use Rattle.std.specs.Option.{option_or}
use Rattle.std.proofs.lemmas.Bool.{cases_eq, cases_lt}
use Rattle.std.proofs.lemmas.Bool.Decides.{nat_tests}
use Rattle.std.proofs.lemmas.List.{length-map, length-take-le, length-drop, length-replicate}
use Rattle.std.proofs.lemmas.Option.{slice_get-map, slice_get_within, slice_get-get_or}
use Rattle.vm_ids.specs.declared.command.Extent.{Extent}
use Rattle.vm_ids.specs.declared.command.Span.{Span}
use Rattle.vm_ids.specs.declared.node_name.NodeName.{NodeName}
use Rattle.vm_ids.specs.declared.numbers.CacheId.{CacheId}
use Rattle.vm_ids.specs.Forest.NameLists.{◌∈◌, Once}
use Rattle.vm_ids.specs.Forest.Nodes.{IsNode}
use Rattle.vm_ids.specs.Forest.Reading.{value_of}
use Rattle.vm_ids.specs.Forest.Rules.{write}
use Rattle.vm_ids.specs.Forest.Commands.{page_name, page_names, extent_names, span_pairs, firsts, seconds, copy, move_, invalidate}
use Rattle.vm_ids.specs.Forest.Laws.Commands.{given, source_of, is_in, ArePagesOnce, CanCopy}
use Rattle.vm_ids.specs.Forest.Laws.Ranges.{IsApart}
use Rattle.vm_ids.proofs.Forest.Names.{same_apart}
use Rattle.vm_ids.proofs.Forest.Bound.{any_from_in}
use Rattle.vm_ids.proofs.Forest.Fitting.{in_from_any}
use Rattle.vm_ids.proofs.Forest.Laws.Ranges.{ranges_hold_their_pages, ranges_hold_pages_once, pages_are_given, pages_have_their_names, pairs_fill_destinations, pairs_read_sources, pairs_keep_places, extents_are_pages, spans_can_be_copied}
use Rattle.vm_ids.proofs.Forest.Laws.Writing.{write_keeps_consistency, write_changes_its_node, write_keeps_other_values}
use Rattle.vm_ids.proofs.Forest.Laws.Copying.{copy_keeps_consistency, copy_copies}
use Rattle.vm_ids.proofs.Forest.Laws.Commands.{move_keeps_consistency, move_moves, invalidate_keeps_consistency, invalidate_gives_pages}
use Rattle.vm_model.specs.Machine.{Machine, Cache, Page, cache_of}
use Rattle.vm_model.specs.Place.{Place}
use Rattle.vm_model.specs.PageForest.{PageForest, told, nodes_in, page_in}
use Rattle.vm_model.specs.Answering.{overwrite, put_cache, put_page, put_pages, shares}
use Rattle.vm_model.specs.Laws.{IsFollowed}
use Rattle.vm_model.proofs.Parts.Lists.{get_set_same, get_set_other, length-overwrite, numbered_place, numbered-set}
use Rattle.vm_model.proofs.Parts.ListParts.{get_take, get_drop, get_replicate, overwrite_before, overwrite_in, overwrite_behind, numbered_set, numbered_set_other}
use Rattle.vm_model.proofs.Forests.Plain.{id_of}
use Rattle.vm_model.proofs.Forests.CachesFollowed.{by_values, given_none, in_range, node_there, number_of, of_number, other_range, out_of_range, page_of_cache, same_page, there_within}

-- Bytes that are written

told_written : (at : ℕ) (bytes : List ℕ) (b : ℕ) (page : Page) → told (overwrite at bytes (b ∷ page)) ≡ Some (overwrite at bytes (b ∷ page))
told_written zero [] b page = refl
told_written zero (x ∷ xs) b page = refl
told_written (suc at) bytes b page = refl

written_told : (at : ℕ) (bytes : List ℕ) (page : Page) → 1 ≤ length page → told (overwrite at bytes page) ≡ option_map (overwrite at bytes) (told page)
written_told at bytes [] some = absurd (omega arith)
written_told at bytes (b ∷ page) some = told_written at bytes b page

pub stored_followed : (m : Machine) (f : PageForest) (at : Place) (bytes : List ℕ) (c : Cache) (page : Page) → cache_of m at.region.cache ≡ Some c → slice_get c.pages at.page ≡ Some page → 1 ≤ length page → IsFollowed m f
    → IsFollowed (put_cache m at.region.cache (put_page at.page (overwrite at.byte bytes page) c)) (write f (page_name (id_of at.region.cache) at.page) (option_map (overwrite at.byte bytes)))
stored_followed m f at bytes c page there has some F =
    let n = at.region.cache in
    let new : Page = overwrite at.byte bytes page in
    let change : Option Page → Option Page = option_map (overwrite at.byte bytes) in
    let next : Machine = put_cache m n (put_page at.page new c) in
    let x = page_name (id_of n) at.page in
    let here : page_in m n at.page ≡ Some page = page_of_cache m n c at.page there ∙ has in
    let is : IsNode f x = node_there m f F (id_of n) at.page page here in
    let put : cache_of next n ≡ Some (put_page at.page new c) = numbered_set m.caches n c (Some (put_page at.page new c)) there in
    by_values next (write f x change) (write_keeps_consistency f F.consistent x change is refl) (λ cache p. elim (cases_eq cache.0 n) [
      | inl e ↦
          ap (value_of (write f x change)) (of_number cache n p e)
          ∙ elim (cases_eq p at.page) [
            | inl q ↦
                ap (λ (k : ℕ). value_of (write f x change) (page_name (id_of n) k)) q
                ∙ write_changes_its_node f F.consistent.shaped x change is refl
                ∙ ap (option_map change) (F.agrees.values (id_of n) at.page ∙ ap (option_map told) here)
                ∙ ap Some (sym (written_told at.byte bytes page some))
                ∙ sym (ap (option_map told) (ap (page_in next n) q ∙ page_of_cache next n (put_page at.page new c) at.page put ∙ get_set_same c.pages at.page new (slice_get_within c.pages at.page page has)))
            | inr d ↦
                write_keeps_other_values f F.consistent.shaped x change is refl (page_name (id_of n) p) (λ q. d (same_page (id_of n) (id_of n) p at.page q))
                ∙ F.agrees.values (id_of n) p
                ∙ ap (option_map told) (page_of_cache m n c p there ∙ sym (page_of_cache next n (put_page at.page new c) p put ∙ get_set_other c.pages at.page p new d))
          ]
          ∙ ap (λ (k : ℕ). option_map told (page_in next k p)) (sym e)
      | inr d ↦
          write_keeps_other_values f F.consistent.shaped x change is refl (page_name cache p) (λ q. d (ap number_of q))
          ∙ F.agrees.values cache p
          ∙ sym (ap (λ (o : Option Cache). option_map told (option_and_then (λ (c : Cache). slice_get c.pages p) o)) (numbered_set_other m.caches n cache.0 (Some (put_page at.page new c)) (numbered_place m.caches n c there).0 d))
    ])

-- Pages that are copied or moved

source_itself : (es : List (NodeName × NodeName)) (y : NodeName) → (y ∈ firsts es → ⊥) → source_of es y ≡ y
source_itself [] y out = refl
source_itself (e ∷ es) y out = ap (λ (b : Bool). cond b e.1 (source_of es y)) (same_apart y e.0 (λ q. out (inl q))) ∙ source_itself es y (λ i. out (inr i))

-- a copy or move that isn't refused
pub record IsAllowed (m : Machine) (s : Span) (source destination : Cache) : Type 0 where
  pub from : cache_of m s.from.0 ≡ Some source
  pub to : cache_of m s.to.0 ≡ Some destination
  pub source_ends : s.from_page.0 + s.pages ≤ length source.pages
  pub destination_ends : s.to_page.0 + s.pages ≤ length destination.pages
  pub apart : (s.from.0 == s.to.0 && shares s.from_page.0 s.pages s.to_page.0 s.pages) ≡ false

module _ (m : Machine) (f : PageForest) (s : Span) (source destination : Cache) (F : IsFollowed m f) (A : IsAllowed m s source destination) where
  abbrev pub copied_part : List Page
  copied_part = take s.pages (drop s.from_page.0 source.pages)

  abbrev pub copied_machine : Machine
  copied_machine = put_cache m s.to.0 (put_pages s.to_page.0 copied_part destination)

  part_length : length copied_part ≡ s.pages
  part_length = length-take-le s.pages (drop s.from_page.0 source.pages) (omega (arith, A.source_ends, length-drop s.from_page.0 source.pages))

  ranges_apart : IsApart s
  ranges_apart e = go (nat_lt s.from_page.0 (s.to_page.0 + s.pages)) (nat_lt s.to_page.0 (s.from_page.0 + s.pages)) refl refl
      (ap (λ (b : Bool). b && (nat_lt s.from_page.0 (s.to_page.0 + s.pages) && nat_lt s.to_page.0 (s.from_page.0 + s.pages))) (sym (let q : s.from.0 ≡ s.to.0 = ap (λ (c : CacheId). c.0) e in let t : (s.from.0 == s.to.0) ≡ true = grind (arith, nat_tests) in t)) ∙ A.apart)
    where
      go : (a b : Bool) → nat_lt s.from_page.0 (s.to_page.0 + s.pages) ≡ a → nat_lt s.to_page.0 (s.from_page.0 + s.pages) ≡ b → (a && b) ≡ false
          → (s.from_page.0 + s.pages ≤ s.to_page.0) ⊎ (s.to_page.0 + s.pages ≤ s.from_page.0)
      go true true p q e = absurd (cc e)
      go true false p q e = inl (grind (arith, nat_tests))
      go false b p q e = inr (grind (arith, nat_tests))

  can : CanCopy f (span_pairs s)
  can = spans_can_be_copied f s
      (λ i less. let v = there_within m s.from.0 source (s.from_page.0 + i) A.from (omega (arith, less, A.source_ends)) in node_there m f F s.from (s.from_page.0 + i) v.0 v.1)
      (λ i less. let v = there_within m s.to.0 destination (s.to_page.0 + i) A.to (omega (arith, less, A.destination_ends)) in node_there m f F s.to (s.to_page.0 + i) v.0 v.1)
      ranges_apart

  out_of_firsts : (y : NodeName) → (y ∈ page_names s.to s.to_page.0 s.pages → ⊥) → source_of (span_pairs s) y ≡ y
  out_of_firsts y out = source_itself (span_pairs s) y (λ i. out (subst (λ xs. y ∈ xs) (pairs_fill_destinations s.from s.to s.from_page.0 s.to_page.0 s.pages) i))

  put_there : cache_of copied_machine s.to.0 ≡ Some (put_pages s.to_page.0 copied_part destination)
  put_there = numbered_set m.caches s.to.0 destination (Some (put_pages s.to_page.0 copied_part destination)) A.to

  -- the pages of the destination's cache
  copied_page : (page : ℕ) → value_of f (source_of (span_pairs s) (page_name s.to page)) ≡ option_map told (slice_get (overwrite s.to_page.0 copied_part destination.pages) page)
  copied_page page = elim (cases_lt page s.to_page.0) [
    | inl before ↦
        ap (value_of f) (out_of_firsts (page_name s.to page) (out_of_range s.to s.to_page.0 s.pages page (inl before)))
        ∙ F.agrees.values s.to page
        ∙ ap (option_map told) (page_of_cache m s.to.0 destination page A.to ∙ sym (overwrite_before s.to_page.0 copied_part destination.pages page (omega (arith, A.destination_ends)) before))
    | inr from ↦ elim (cases_lt page (s.to_page.0 + s.pages)) [
      | inl less ↦
          let i = page - s.to_page.0 in
          let at : page ≡ s.to_page.0 + i = omega (arith, from) in
          let small : i < s.pages = omega (arith, from, less) in
          ap (λ (k : ℕ). value_of f (source_of (span_pairs s) (page_name s.to k))) at
          ∙ ap (value_of f) (pairs_keep_places s i small)
          ∙ F.agrees.values s.from (s.from_page.0 + i)
          ∙ ap (option_map told)
          (page_of_cache m s.from.0 source (s.from_page.0 + i) A.from
          ∙ sym (get_drop s.from_page.0 source.pages i (s.from_page.0 + i) refl)
          ∙ sym (get_take s.pages (drop s.from_page.0 source.pages) i small)
          ∙ sym (overwrite_in s.to_page.0 copied_part destination.pages i page (omega (arith, A.destination_ends)) (omega (arith, small, part_length)) at))
      | inr past ↦
          ap (value_of f) (out_of_firsts (page_name s.to page) (out_of_range s.to s.to_page.0 s.pages page (inr past)))
          ∙ F.agrees.values s.to page
          ∙ ap (option_map told) (page_of_cache m s.to.0 destination page A.to ∙ sym (overwrite_behind s.to_page.0 copied_part destination.pages page (omega (arith, A.destination_ends)) (omega (arith, past, part_length))))
    ]
  ]

  -- where each page's value is read, and what the machine then has
  copied_values : (cache : CacheId) (page : ℕ) → value_of f (source_of (span_pairs s) (page_name cache page)) ≡ option_map told (page_in copied_machine cache.0 page)
  copied_values cache page = elim (cases_eq cache.0 s.to.0) [
    | inl e ↦
        ap (λ (k : ℕ). value_of f (source_of (span_pairs s) (page_name (id_of k) page))) e
        ∙ copied_page page
        ∙ sym (ap (option_map told) (ap (λ (k : ℕ). page_in copied_machine k page) e ∙ page_of_cache copied_machine s.to.0 (put_pages s.to_page.0 copied_part destination) page put_there))
    | inr d ↦
        ap (value_of f) (out_of_firsts (page_name cache page) (other_range s.to cache s.to_page.0 s.pages page d))
        ∙ F.agrees.values cache page
        ∙ sym (ap (λ (o : Option Cache). option_map told (option_and_then (λ (c : Cache). slice_get c.pages page) o)) (numbered_set_other m.caches s.to.0 cache.0 (Some (put_pages s.to_page.0 copied_part destination)) (numbered_place m.caches s.to.0 destination A.to).0 d))
  ]

  pub copied_followed : (named : Bool) → IsFollowed copied_machine (copy named (span_pairs s) f)
  copied_followed named = by_values copied_machine (copy named (span_pairs s) f) (copy_keeps_consistency named (span_pairs s) f F.consistent can)
      (λ cache page. copy_copies named (span_pairs s) f F.consistent can (page_name cache page) refl ∙ copied_values cache page)

  -- the cache whose pages become zeros
  pub source_left : (c : Cache) × (cache_of copied_machine s.from.0 ≡ Some c) × (length c.pages ≡ length source.pages)
  source_left =
      let put : Cache = put_pages s.to_page.0 copied_part destination in
      let same : length put.pages ≡ length destination.pages = length-overwrite s.to_page.0 copied_part destination.pages (omega (arith, A.destination_ends, part_length)) in
      elim (numbered-set m.caches s.to.0 s.from.0 destination put source A.to A.from) [
        | inl e ↦ (source, e, refl)
        | inr e ↦ (put, e.1, same ∙ sym (ap (λ (c : Cache). length c.pages) e.0))
      ]

  module _ (z : Page) where
    abbrev pub zeros : List Page
    zeros = replicate s.pages (z)

    abbrev pub moved_machine : Machine
    moved_machine = put_cache copied_machine s.from.0 (put_pages s.from_page.0 zeros source_left.0)

    zeros_length : length zeros ≡ s.pages
    zeros_length = length-replicate s.pages (z)

    zeros_there : cache_of moved_machine s.from.0 ≡ Some (put_pages s.from_page.0 zeros source_left.0)
    zeros_there = numbered_set copied_machine.caches s.from.0 source_left.0 (Some (put_pages s.from_page.0 zeros source_left.0)) source_left.1

    -- a page that was moved away
    pub zero_left : (page : ℕ) → s.from_page.0 ≤ page → page < s.from_page.0 + s.pages → page_in moved_machine s.from.0 page ≡ Some z
    zero_left page from less =
        let i = page - s.from_page.0 in
        let small : i < s.pages = omega (arith, from, less) in
        page_of_cache moved_machine s.from.0 (put_pages s.from_page.0 zeros source_left.0) page zeros_there
        ∙ overwrite_in s.from_page.0 zeros source_left.0.pages i page (omega (arith, A.source_ends, source_left.2)) (omega (arith, small, zeros_length)) (omega (arith, from))
        ∙ get_replicate s.pages (z) i small

    -- any other page
    still_left : (cache : CacheId) (page : ℕ) → (page_name cache page ∈ page_names s.from s.from_page.0 s.pages → ⊥) → page_in moved_machine cache.0 page ≡ page_in copied_machine cache.0 page
    still_left cache page out = elim (cases_eq cache.0 s.from.0) [
      | inl e ↦
          ap (λ (k : ℕ). page_in moved_machine k page) e
          ∙ page_of_cache moved_machine s.from.0 (put_pages s.from_page.0 zeros source_left.0) page zeros_there
          ∙ elim (cases_lt page s.from_page.0) [
            | inl before ↦ overwrite_before s.from_page.0 zeros source_left.0.pages page (omega (arith, A.source_ends, source_left.2)) before
            | inr from ↦ elim (cases_lt page (s.from_page.0 + s.pages)) [
              | inl less ↦ absurd (out (subst (λ y. y ∈ page_names s.from s.from_page.0 s.pages) (sym (of_number cache s.from.0 page e)) (in_range s.from s.from_page.0 s.pages page from less)))
              | inr past ↦ overwrite_behind s.from_page.0 zeros source_left.0.pages page (omega (arith, A.source_ends, source_left.2)) (omega (arith, past, zeros_length))
            ]
          ]
          ∙ sym (page_of_cache copied_machine s.from.0 source_left.0 page source_left.1)
          ∙ ap (λ (k : ℕ). page_in copied_machine k page) (sym e)
      | inr d ↦ ap (option_and_then (λ (c : Cache). slice_get c.pages page)) (numbered_set_other copied_machine.caches s.from.0 cache.0 (Some (put_pages s.from_page.0 zeros source_left.0)) (numbered_place m.caches s.from.0 source A.from).0 d)
    ]

    moved_value : (blanks : Option Page) → blanks ≡ told z → (cache : CacheId) (page : ℕ)
        → cond (is_in (page_name cache page) (seconds (span_pairs s))) (Some blanks) (value_of f (source_of (span_pairs s) (page_name cache page))) ≡ option_map told (page_in moved_machine cache.0 page)
    moved_value blanks is cache page =
        ap (λ (xs : List NodeName). cond (is_in (page_name cache page) xs) (Some blanks) (value_of f (source_of (span_pairs s) (page_name cache page)))) (pairs_read_sources s.from s.to s.from_page.0 s.to_page.0 s.pages)
        ∙ go (is_in (page_name cache page) (page_names s.from s.from_page.0 s.pages)) refl
      where
        go : (b : Bool) → is_in (page_name cache page) (page_names s.from s.from_page.0 s.pages) ≡ b → cond b (Some blanks) (value_of f (source_of (span_pairs s) (page_name cache page))) ≡ option_map told (page_in moved_machine cache.0 page)
        go true e =
            let at = (ranges_hold_their_pages s.from s.from_page.0 s.pages (page_name cache page)).0 (in_from_any (page_names s.from s.from_page.0 s.pages) (page_name cache page) e) in
            let c : cache.0 ≡ s.from.0 = ap number_of at.2 in
            let p : page ≡ s.from_page.0 + at.0 = same_page cache s.from page (s.from_page.0 + at.0) at.2 in
            ap Some is ∙ sym (ap (option_map told) (ap (λ (k : ℕ). page_in moved_machine k page) c ∙ zero_left page (omega (arith, p)) (omega (arith, p, at.1))))
        go false e =
            copied_values cache page
            ∙ ap (option_map told) (sym (still_left cache page (λ i. let t = any_from_in (page_names s.from s.from_page.0 s.pages) (page_name cache page) i in absurd (cc (t, e)))))

    pub moved_followed : (named : Bool) (blanks : Option Page) → blanks ≡ told z → IsFollowed moved_machine (move_ named blanks (span_pairs s) f)
    moved_followed named blanks is =
        let once : Once (seconds (span_pairs s)) = subst Once (sym (pairs_read_sources s.from s.to s.from_page.0 s.to_page.0 s.pages)) (ranges_hold_pages_once s.from s.from_page.0 s.pages) in
        by_values moved_machine (move_ named blanks (span_pairs s) f) (move_keeps_consistency named blanks (span_pairs s) f F.consistent can once)
        (λ cache page. move_moves named blanks (span_pairs s) f F.consistent can once (page_name cache page) refl ∙ moved_value blanks is cache page)

-- Pages that become those of the segment

module _ (m : Machine) (f : PageForest) (F : IsFollowed m f) (e : Extent) (c : Cache) (part : List Page)
    (there : cache_of m e.cache.0 ≡ Some c) (ends : e.first.0 + e.pages ≤ length c.pages) (many : length part ≡ e.pages) where
  abbrev pub invalidated_cache : Cache
  invalidated_cache = put_pages e.first.0 part c

  abbrev pub invalidated_machine : Machine
  invalidated_machine = put_cache m e.cache.0 invalidated_cache

  abbrev new_part : List Page
  new_part = take e.pages (drop e.first.0 invalidated_cache.pages)

  abbrev new_nodes : List (NodeName × Option Page)
  new_nodes = nodes_in e (Some invalidated_cache)

  length_kept : length invalidated_cache.pages ≡ length c.pages
  length_kept = length-overwrite e.first.0 part c.pages (omega (arith, ends, many))

  new_length : length new_part ≡ e.pages
  new_length = length-take-le e.pages (drop e.first.0 invalidated_cache.pages) (omega (arith, ends, length_kept, length-drop e.first.0 invalidated_cache.pages))

  new_names : firsts new_nodes ≡ extent_names e
  new_names = pages_have_their_names e.cache e.first.0 (map told new_part) ∙ ap (page_names e.cache e.first.0) (length-map new_part told ∙ new_length)

  new_once : ArePagesOnce f (firsts new_nodes)
  new_once = subst (ArePagesOnce f) (sym new_names) (extents_are_pages f e (λ i less. let v = there_within m e.cache.0 c (e.first.0 + i) there (omega (arith, less, ends)) in node_there m f F e.cache (e.first.0 + i) v.0 v.1))

  pub invalidated_there : cache_of invalidated_machine e.cache.0 ≡ Some invalidated_cache
  invalidated_there = numbered_set m.caches e.cache.0 c (Some invalidated_cache) there

  not_new : (y : NodeName) → (y ∈ extent_names e → ⊥) → given new_nodes y ≡ None
  not_new y out = given_none new_nodes y (λ i. out (subst (λ xs. y ∈ xs) new_names i))

  -- a page of the range
  new_page : (page : ℕ) → e.first.0 ≤ page → page < e.first.0 + e.pages → given new_nodes (page_name e.cache page) ≡ option_map told (slice_get invalidated_cache.pages page)
  new_page page from less =
      let i = page - e.first.0 in
      let at : page ≡ e.first.0 + i = omega (arith, from) in
      let small : i < e.pages = omega (arith, from, less) in
      ap (λ (k : ℕ). given new_nodes (page_name e.cache k)) at
      ∙ pages_are_given e.cache e.first.0 (map told new_part) i (omega (arith, small, length-map new_part told, new_length))
      ∙ slice_get-map told new_part i
      ∙ ap (option_map told) (get_take e.pages (drop e.first.0 invalidated_cache.pages) i small ∙ get_drop e.first.0 invalidated_cache.pages i page at)

  -- any page of the cache
  invalidated_page : (page : ℕ) → option_or (given new_nodes (page_name e.cache page)) (value_of f (page_name e.cache page)) ≡ option_map told (slice_get invalidated_cache.pages page)
  invalidated_page page = elim (cases_lt page e.first.0) [
    | inl before ↦
        ap (λ (o : Option (Option Page)). option_or o (value_of f (page_name e.cache page))) (not_new (page_name e.cache page) (out_of_range e.cache e.first.0 e.pages page (inl before)))
        ∙ F.agrees.values e.cache page
        ∙ ap (option_map told) (page_of_cache m e.cache.0 c page there ∙ sym (overwrite_before e.first.0 part c.pages page (omega (arith, ends)) before))
    | inr from ↦ elim (cases_lt page (e.first.0 + e.pages)) [
      | inl less ↦
          let got : slice_get invalidated_cache.pages page ≡ Some _ = slice_get-get_or invalidated_cache.pages page [] (omega (arith, less, ends, length_kept)) in
          ap (λ (o : Option (Option Page)). option_or o (value_of f (page_name e.cache page))) (new_page page from less ∙ ap (option_map told) got)
          ∙ sym (ap (option_map told) got)
      | inr past ↦
          ap (λ (o : Option (Option Page)). option_or o (value_of f (page_name e.cache page))) (not_new (page_name e.cache page) (out_of_range e.cache e.first.0 e.pages page (inr past)))
          ∙ F.agrees.values e.cache page
          ∙ ap (option_map told) (page_of_cache m e.cache.0 c page there ∙ sym (overwrite_behind e.first.0 part c.pages page (omega (arith, ends)) (omega (arith, past, many))))
    ]
  ]

  pub invalidated_followed : IsFollowed invalidated_machine (invalidate new_nodes f)
  invalidated_followed = by_values invalidated_machine (invalidate new_nodes f) (invalidate_keeps_consistency new_nodes f F.consistent new_once) (λ cache page.
      invalidate_gives_pages new_nodes f F.consistent new_once (page_name cache page) refl
      ∙ elim (cases_eq cache.0 e.cache.0) [
        | inl same ↦
            ap (λ (k : ℕ). option_or (given new_nodes (page_name (id_of k) page)) (value_of f (page_name (id_of k) page))) same
            ∙ invalidated_page page
            ∙ sym (ap (option_map told) (ap (λ (k : ℕ). page_in invalidated_machine k page) same ∙ page_of_cache invalidated_machine e.cache.0 invalidated_cache page invalidated_there))
        | inr d ↦
            ap (λ (o : Option (Option Page)). option_or o (value_of f (page_name cache page))) (not_new (page_name cache page) (other_range e.cache cache e.first.0 e.pages page d))
            ∙ F.agrees.values cache page
            ∙ sym (ap (λ (o : Option Cache). option_map told (option_and_then (λ (c : Cache). slice_get c.pages page) o)) (numbered_set_other m.caches e.cache.0 cache.0 (Some invalidated_cache) (numbered_place m.caches e.cache.0 c there).0 d))
      ])
