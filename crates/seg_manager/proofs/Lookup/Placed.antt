-- Links that are found by the numbers of their caches, as one comes, goes or changes.
use Rattle.std.proofs.Common.{◌≡◌, ◌≢◌, ◌==◌, ℕ, zero, suc, ◌+◌, ◌-◌, ◌<◌, Bool, true, false, cond, List, [], ◌∷◌, ◌++◌, length, slice_index_or, Option, Some, None, refl, sym, ap, ◌∙◌, inl, inr, arith}
use Rattle.std.specs.Prelude.{◌⊎◌, option_map, slice_get, slice_set}
use Rattle.std.specs.Ordering.{nat_cmp, eq_by_cmp}
use Rattle.std.specs.Cmp.{nat_cmp_total, unsigned_tied}
use Rattle.std.specs.FinMap.{FinMap, get, get-empty, get-insert, get-remove}
use Rattle.std.specs.FinMap as map
use Rattle.std.proofs.lemmas.Bool.{cases_eq, cond-true, cond-false, eq-eqb, ne_eqb}
use Rattle.std.proofs.lemmas.List.{length-append, length-set}
use Rattle.std.proofs.lemmas.Option.{slice_get-get_or, slice_get_within}
use Rattle.vm_model.proofs.Parts.Lists.{get_set_other, get_set_same}
use Rattle.interface_callers.proofs.Words.{CacheId}
use Rattle.seg_manager.specs.Linked.{ArePlaced, changed_at, link_at}
use Rattle.seg_manager.specs.declared.links.Link.{Link}

-- Finite maps and lists

tied : (a b : ℕ) → a ≡ b → eq_by_cmp nat_cmp a b ≡ true
tied a b e = unsigned_tied a b ∙ eq-eqb a b e

untied : (a b : ℕ) → a ≢ b → eq_by_cmp nat_cmp a b ≡ false
untied a b h = unsigned_tied a b ∙ ne_eqb a b h

module _ {X : Type 0} where
  pub insert_same : (m : FinMap nat_cmp X) (k : ℕ) (v : X) (q : ℕ) → q ≡ k → get (map.insert m k v) q ≡ Some v
  insert_same m k v q e = get-insert nat_cmp_total m k v q ∙ cond-true _ _ _ (tied q k e)

  pub insert_other : (m : FinMap nat_cmp X) (k : ℕ) (v : X) (q : ℕ) → q ≢ k → get (map.insert m k v) q ≡ get m q
  insert_other m k v q h = get-insert nat_cmp_total m k v q ∙ cond-false _ _ _ (untied q k h)

  pub remove_same : (m : FinMap nat_cmp X) (k q : ℕ) → q ≡ k → get (map.remove m k) q ≡ None
  remove_same m k q e = get-remove nat_cmp_total m k q ∙ cond-true _ _ _ (tied q k e)

  pub remove_other : (m : FinMap nat_cmp X) (k q : ℕ) → q ≢ k → get (map.remove m k) q ≡ get m q
  remove_other m k q h = get-remove nat_cmp_total m k q ∙ cond-false _ _ _ (untied q k h)

  push_same : (xs : List X) (i : ℕ) (x : X) → i ≡ length xs → slice_get (xs ++ x ∷ []) i ≡ Some x
  push_same [] zero x h = refl
  push_same [] (suc i) x h = absurd (omega arith)
  push_same (y ∷ xs) zero x h = absurd (omega arith)
  push_same (y ∷ xs) (suc i) x h = push_same xs i x (omega arith)

  push_other : (xs : List X) (j : ℕ) (x : X) → j < length xs → slice_get (xs ++ x ∷ []) j ≡ slice_get xs j
  push_other [] j x h = absurd (omega arith)
  push_other (y ∷ xs) zero x h = refl
  push_other (y ∷ xs) (suc j) x h = push_other xs j x (omega arith)

  push_cases : (xs : List X) (x : X) (i : ℕ) (y : X) → slice_get (xs ++ x ∷ []) i ≡ Some y → (slice_get xs i ≡ Some y) ⊎ ((i ≡ length xs) × (x ≡ y))
  push_cases [] x zero y e = inr (refl, cc e)
  push_cases [] x (suc i) y e = absurd (cc e)
  push_cases (z ∷ xs) x zero y e = inl e
  push_cases (z ∷ xs) x (suc i) y e = elim (push_cases xs x i y e) [
    | inl there ↦ inl there
    | inr last ↦ inr (ap suc last.0, last.1)
  ]

  there_or : (o : Option X) → (o ≡ None) ⊎ ((x : X) × (o ≡ Some x))
  there_or None = inl refl
  there_or (Some x) = inr (x, refl)

abbrev number_of : Link → ℕ
number_of x = x.kept.cache.0

pub placed_none : (links : List Link) (places : FinMap nat_cmp ℕ) (room : ℕ) → links ≡ [] → places ≡ map.empty → ArePlaced links places room
placed_none links places room none nothing = record {
  at = λ i x e. let wrong : None ≡ Some x = sym (ap (λ (xs : List Link). slice_get xs i) none) ∙ e in absurd (cc wrong);
  back = λ n i e. let wrong : None ≡ Some i = sym (ap (λ (m : FinMap nat_cmp ℕ). get m n) nothing ∙ get-empty nat_cmp n) ∙ e in absurd (cc wrong);
  few = omega (arith, ap length none);
}

module _ (links : List Link) (places : FinMap nat_cmp ℕ) (room : ℕ) (p : ArePlaced links places room) where
  -- the link of a cache that has a place
  pub link_there : (n i : ℕ) → get places n ≡ Some i → (x : Link) × (slice_get links i ≡ Some x) × (x.kept.cache.0 ≡ n)
  link_there n i e = by (slice_get links i) refl (p.back n i e)
    where
      by : (o : Option Link) → slice_get links i ≡ o → option_map (λ (x : Link). x.kept.cache.0) o ≡ Some n → (x : Link) × (slice_get links i ≡ Some x) × (x.kept.cache.0 ≡ n)
      by None is f = absurd (cc f)
      by (Some x) is f = (x, is, cc f)

  pub place_within : (n i : ℕ) → get places n ≡ Some i → i < length links
  place_within n i e = let x = link_there n i e in slice_get_within links i x.0 x.1

  pub read_at : (n i : ℕ) (x : Link) → get places n ≡ Some i → x ≡ slice_index_or links i x → slice_get links i ≡ Some x
  read_at n i x e is = slice_get-get_or links i x (place_within n i e) ∙ ap (λ (y : Link). Some y) (sym is)

  -- what is read there
  pub found_at : (n i : ℕ) (x : Link) → get places n ≡ Some i → x ≡ slice_index_or links i x → Some x ≡ link_at links (get places n)
  found_at n i x e is = sym (ap (link_at links) e ∙ read_at n i x e is)

  pub unplaced : (n : ℕ) → link_at links (get places n) ≡ None → get places n ≡ None
  unplaced n e = elim (there_or (get places n)) [
    | inl none ↦ none
    | inr some ↦ (let x = link_there n some.0 some.1 in let wrong : Some x.0 ≡ None = sym x.1 ∙ ap (link_at links) (sym some.1) ∙ e in absurd (cc wrong))
  ]

  -- no two numbers lead to one place
  pub one_number : (n m i : ℕ) → get places n ≡ Some i → get places m ≡ Some i → n ≡ m
  one_number n m i e f =
      let x = link_there n i e in
      let y = link_there m i f in
      let same : Some x.0 ≡ Some y.0 = sym x.1 ∙ y.1 in
      let xy : x.0 ≡ y.0 = cc same in
      sym x.2 ∙ ap number_of xy ∙ y.2

  -- the link of a cache becomes another one of the same cache
  module _ (n i : ℕ) (x y : Link) (placed : get places n ≡ Some i) (is : slice_get links i ≡ Some x) (number : y.kept.cache.0 ≡ x.kept.cache.0) where
    within : i < length links
    within = slice_get_within links i x is

    pub placed_set : ArePlaced (slice_set links i y) places room
    placed_set = record {
      at = λ k z e. elim (cases_eq k i) [
        | inl same ↦
            let two : Some y ≡ Some z = sym (ap (slice_get (slice_set links i y)) same ∙ get_set_same links i y within) ∙ e in
            let yz : y ≡ z = cc two in
            ap (get places) (ap number_of (sym yz) ∙ number) ∙ p.at i x is ∙ ap (λ (k : ℕ). Some k) (sym same)
        | inr other ↦ p.at k z (sym (get_set_other links i k y other) ∙ e)
      ];
      back = λ m k e. elim (cases_eq k i) [
        | inl same ↦
            ap (λ (k : ℕ). option_map number_of (slice_get (slice_set links i y) k)) same
            ∙ ap (option_map number_of) (get_set_same links i y within)
            ∙ ap (λ (k : ℕ). Some k) (number ∙ (let old : Some x.kept.cache.0 ≡ Some m = ap (option_map number_of) (sym is) ∙ p.back m i (e ∙ ap (λ (k : ℕ). Some k) same) in cc old))
        | inr other ↦ ap (option_map number_of) (get_set_other links i k y other) ∙ p.back m k e
      ];
      few = omega (arith, p.few, length-set links i y);
    }

    pub links_set : (change : Link → Link) (c : CacheId) → c.0 ≡ n → y ≡ change x → (m : ℕ) → link_at (slice_set links i y) (get places m) ≡ changed_at change (Some c) m (link_at links (get places m))
    links_set change c cn changed m = elim (cases_eq c.0 m) [
      | inl same ↦
          let here : get places m ≡ Some i = ap (get places) (sym same ∙ cn) ∙ placed in
          ap (link_at (slice_set links i y)) here ∙ get_set_same links i y within
          ∙ ap (λ (z : Link). Some z) changed
          ∙ sym (ap (λ (b : Bool). cond b (option_map change (link_at links (get places m))) (link_at links (get places m))) (eq-eqb c.0 m same) ∙ ap (λ (o : Option ℕ). option_map change (link_at links o)) here ∙ ap (option_map change) is)
      | inr other ↦
          unmoved (get places m) refl other
          ∙ sym (ap (λ (b : Bool). cond b (option_map change (link_at links (get places m))) (link_at links (get places m))) (ne_eqb c.0 m other))
    ]
      where
        unmoved : (o : Option ℕ) → get places m ≡ o → c.0 ≢ m → link_at (slice_set links i y) (get places m) ≡ link_at links (get places m)
        unmoved None e other = ap (link_at (slice_set links i y)) e ∙ sym (ap (link_at links) e)
        unmoved (Some k) e other =
            ap (link_at (slice_set links i y)) e
            ∙ get_set_other links i k y (λ same. other (cn ∙ one_number n m i placed (e ∙ ap (λ (k : ℕ). Some k) same)))
            ∙ sym (ap (link_at links) e)

  -- another link comes
  module _ (x : Link) (none : link_at links (get places x.kept.cache.0) ≡ None) (fits : length links < room) where
    abbrev c : ℕ
    c = x.kept.cache.0

    abbrev more : FinMap nat_cmp ℕ
    more = map.insert places x.kept.cache.0 (length links)

    pub place_free : (m : ℕ) → get places m ≢ Some (length links)
    place_free m e = let less = place_within m (length links) e in omega (arith, less)

    pub placed_more : ArePlaced (links ++ x ∷ []) more room
    placed_more = record {
      at = λ k z e. elim (push_cases links x k z e) [
        | inl there ↦
            insert_other places c (length links) z.kept.cache.0 (λ same. let wrong : None ≡ Some k = sym (unplaced c none) ∙ ap (get places) (sym same) ∙ p.at k z there in absurd (cc wrong))
            ∙ p.at k z there
        | inr last ↦ insert_same places c (length links) z.kept.cache.0 (ap number_of (sym last.1)) ∙ ap (λ (k : ℕ). Some k) (sym last.0)
      ];
      back = λ m k e. elim (cases_eq m c) [
        | inl same ↦
            let two : Some (length links) ≡ Some k = sym (insert_same places c (length links) m same) ∙ e in
            let lk : length links ≡ k = cc two in
            ap (option_map number_of) (push_same links k x (sym lk)) ∙ ap (λ (k : ℕ). Some k) (sym same)
        | inr other ↦
            let was : get places m ≡ Some k = sym (insert_other places c (length links) m other) ∙ e in
            ap (option_map number_of) (push_other links k x (place_within m k was)) ∙ p.back m k was
      ];
      few = omega (arith, fits, length-append links (x ∷ []));
    }

    pub links_more : (m : ℕ) → link_at (links ++ x ∷ []) (get more m) ≡ cond (x.kept.cache.0 == m) (Some x) (link_at links (get places m))
    links_more m = elim (cases_eq c m) [
      | inl same ↦
          ap (link_at (links ++ x ∷ [])) (insert_same places c (length links) m (sym same)) ∙ push_same links (length links) x refl
          ∙ sym (ap (λ (b : Bool). cond b (Some x) (link_at links (get places m))) (eq-eqb c m same))
      | inr other ↦
          ap (link_at (links ++ x ∷ [])) (insert_other places c (length links) m (λ e. other (sym e)))
          ∙ unmoved (get places m) refl
          ∙ sym (ap (λ (b : Bool). cond b (Some x) (link_at links (get places m))) (ne_eqb c m other))
    ]
      where
        unmoved : (o : Option ℕ) → get places m ≡ o → link_at (links ++ x ∷ []) (get places m) ≡ link_at links (get places m)
        unmoved None e = ap (link_at (links ++ x ∷ [])) e ∙ sym (ap (link_at links) e)
        unmoved (Some k) e = ap (link_at (links ++ x ∷ [])) e ∙ push_other links k x (place_within m k e) ∙ sym (ap (link_at links) e)

  -- the number of the link at a place
  pub named_at : (n i : ℕ) (x : Link) → get places n ≡ Some i → slice_get links i ≡ Some x → x.kept.cache.0 ≡ n
  named_at n i x e is = one_number x.kept.cache.0 n i (p.at i x is) e

  -- a link goes, and the last one takes its place
  module _ (c i n : ℕ) (len : n ≡ length links) (y : Link) (now : List Link) (less : FinMap nat_cmp ℕ) (placed : get places c ≡ Some i)
      (last : slice_get links (n - 1) ≡ Some y) (fewer : length now + 1 ≡ n)
      (here : (d : Link) → i + 1 < n → slice_index_or now i d ≡ slice_index_or links (n - 1) d)
      (others : (k : ℕ) (d : Link) → k ≢ i → k + 1 < n → slice_index_or now k d ≡ slice_index_or links k d)
      (gone : get less c ≡ None) (moved : y.kept.cache.0 ≢ c → get less y.kept.cache.0 ≡ Some i)
      (same : (m : ℕ) → m ≢ c → m ≢ y.kept.cache.0 → get less m ≡ get places m) where
    last_at : get places y.kept.cache.0 ≡ Some (n - 1)
    last_at = p.at (n - 1) y last

    at_other : (k : ℕ) → k ≢ i → k + 1 < n → slice_get now k ≡ slice_get links k
    at_other k apart few =
        slice_get-get_or now k y (omega (arith, len, fewer, few)) ∙ ap (λ (z : Link). Some z) (others k y apart few) ∙ sym (slice_get-get_or links k y (omega (arith, len, few)))

    at_here : i + 1 < n → slice_get now i ≡ Some y
    at_here few =
        slice_get-get_or now i y (omega (arith, len, fewer, few)) ∙ ap (λ (z : Link). Some z) (here y few) ∙ sym (slice_get-get_or links (n - 1) y (omega (arith, len, few))) ∙ last

    -- the last one is another link exactly where the place isn't the last
    apart_few : y.kept.cache.0 ≢ c → i + 1 < n
    apart_few apart = elim (cases_eq i (n - 1)) [
      | inl is ↦ absurd (apart (one_number y.kept.cache.0 c i (last_at ∙ ap (λ (k : ℕ). Some k) (sym is)) placed))
      | inr other ↦ (let less_than = place_within c i placed in omega (arith, len, other, less_than))
    ]

    few_apart : i + 1 < n → y.kept.cache.0 ≢ c
    few_apart few e =
        let two : Some (n - 1) ≡ Some i = sym last_at ∙ ap (get places) e ∙ placed in
        let is : n - 1 ≡ i = cc two in
        omega (arith, len, is, few)

    pub placed_less : ArePlaced now less room
    placed_less = record {
      at = λ k z e.
          let inside = slice_get_within now k z e in
          let few : k + 1 < n = omega (arith, len, inside, fewer) in
          elim (cases_eq k i) [
            | inl is ↦
                let few_i : i + 1 < n = omega (arith, len, is, few) in
                let two : Some y ≡ Some z = sym (ap (slice_get now) is ∙ at_here few_i) ∙ e in
                let yz : y ≡ z = cc two in
                ap (get less) (ap number_of (sym yz)) ∙ moved (few_apart few_i) ∙ ap (λ (k : ℕ). Some k) (sym is)
            | inr other ↦
                let was : get places z.kept.cache.0 ≡ Some k = p.at k z (sym (at_other k other few) ∙ e) in
                same z.kept.cache.0
                (λ s. other (let two : Some k ≡ Some i = sym was ∙ ap (get places) s ∙ placed in cc two))
                (λ s. let two : Some k ≡ Some (n - 1) = sym was ∙ ap (get places) s ∙ last_at in let ki : k ≡ n - 1 = cc two in omega (arith, len, ki, few))
                ∙ was
          ];
      back = λ m k e. elim (cases_eq m c) [
        | inl is ↦ (let wrong : None ≡ Some k = sym (ap (get less) is ∙ gone) ∙ e in absurd (cc wrong))
        | inr off ↦ elim (cases_eq m y.kept.cache.0) [
          | inl is ↦
              let apart : y.kept.cache.0 ≢ c = λ s. off (is ∙ s) in
              let two : Some i ≡ Some k = sym (ap (get less) is ∙ moved apart) ∙ e in
              let ik : i ≡ k = cc two in
              ap (λ (k : ℕ). option_map number_of (slice_get now k)) (sym ik) ∙ ap (option_map number_of) (at_here (apart_few apart)) ∙ ap (λ (k : ℕ). Some k) (sym is)
          | inr off_last ↦
              let was : get places m ≡ Some k = sym (same m off off_last) ∙ e in
              ap (option_map number_of) (at_other k (not_i m k off was) (not_last m k off_last was)) ∙ p.back m k was
        ]
      ];
      few = omega (arith, len, p.few, fewer);
    }
      where
        not_i : (m k : ℕ) → m ≢ c → get places m ≡ Some k → k ≢ i
        not_i m k off was is = off (one_number m c i (was ∙ ap (λ (k : ℕ). Some k) is) placed)

        not_last : (m k : ℕ) → m ≢ y.kept.cache.0 → get places m ≡ Some k → k + 1 < n
        not_last m k off was = elim (cases_eq k (n - 1)) [
          | inl is ↦ absurd (off (one_number m y.kept.cache.0 (n - 1) (was ∙ ap (λ (k : ℕ). Some k) is) last_at))
          | inr other ↦ (let within_k = place_within m k was in omega (arith, len, other, within_k))
        ]

    pub links_less : (m : ℕ) → link_at now (get less m) ≡ cond (c == m) None (link_at links (get places m))
    links_less m = elim (cases_eq c m) [
      | inl is ↦ ap (link_at now) (ap (get less) (sym is) ∙ gone) ∙ sym (ap (λ (b : Bool). cond b None (link_at links (get places m))) (eq-eqb c m is))
      | inr off ↦
          (elim (cases_eq m y.kept.cache.0) [
            | inl is ↦
                let apart : y.kept.cache.0 ≢ c = λ s. off (sym (is ∙ s)) in
                ap (link_at now) (ap (get less) is ∙ moved apart) ∙ at_here (apart_few apart) ∙ sym (ap (link_at links) (ap (get places) is ∙ last_at) ∙ last)
            | inr off_last ↦ ap (link_at now) (same m (λ s. off (sym s)) off_last) ∙ unmoved (get places m) refl off off_last
          ])
          ∙ sym (ap (λ (b : Bool). cond b None (link_at links (get places m))) (ne_eqb c m off))
    ]
      where
        unmoved : (o : Option ℕ) → get places m ≡ o → c ≢ m → m ≢ y.kept.cache.0 → link_at now (get places m) ≡ link_at links (get places m)
        unmoved None e off off_last = ap (link_at now) e ∙ sym (ap (link_at links) e)
        unmoved (Some k) e off off_last =
            ap (link_at now) e
            ∙ at_other k (λ is. off (one_number c m i placed (e ∙ ap (λ (k : ℕ). Some k) is)))
            (elim (cases_eq k (n - 1)) [
              | inl is ↦ absurd (off_last (one_number m y.kept.cache.0 (n - 1) (e ∙ ap (λ (k : ℕ). Some k) is) last_at))
              | inr other ↦ (let within_k = place_within m k e in omega (arith, len, other, within_k))
            ])
            ∙ sym (ap (link_at links) e)

-- where the last link's number leads, once it leads to the place of one that goes
module _ (places less : FinMap nat_cmp ℕ) (c m place : ℕ) (apart : m ≢ c) (is : less ≡ map.insert (map.remove (map.remove places c) m) m place) where
  pub moved_gone : get less c ≡ None
  moved_gone =
      ap (λ (x : FinMap nat_cmp ℕ). get x c) is ∙ insert_other (map.remove (map.remove places c) m) m place c (λ e. apart (sym e))
      ∙ remove_other (map.remove places c) m c (λ e. apart (sym e)) ∙ remove_same places c c refl

  pub moved_here : get less m ≡ Some place
  moved_here = ap (λ (x : FinMap nat_cmp ℕ). get x m) is ∙ insert_same (map.remove (map.remove places c) m) m place m refl

  pub moved_same : (q : ℕ) → q ≢ c → q ≢ m → get less q ≡ get places q
  moved_same q off other =
      ap (λ (x : FinMap nat_cmp ℕ). get x q) is ∙ insert_other (map.remove (map.remove places c) m) m place q other
      ∙ remove_other (map.remove places c) m q other ∙ remove_other places c q off
