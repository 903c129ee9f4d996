-- Pages are put into a cache, from one page on.
use Rattle.std.proofs.Common.{◌≡◌, ◌≢◌, ℕ, zero, suc, ◌+◌, ◌-◌, ◌<◌, ◌≤◌, List, [], ◌∷◌, ◌++◌, length, drop, get_or, map, set, take, Option, Some, refl, sym, ap, subst, ◌∙◌, arith, inl, inr, append_assoc}
use Rattle.std.specs.Prelude.{option_and_then, option_map, slice_get}
use Rattle.std.proofs.lemmas.Bool.{cases_eq, cases_lt}
use Rattle.std.proofs.lemmas.List.{append-nil, drop_more, length-append, length-set, length-take-le, map-set, take-append-drop}
use Rattle.vm_ids.specs.Held.{Segments}
use Rattle.vm_ids.specs.declared.numbers.SegId.{SegId}
use Rattle.vm_model.specs.Answering as answering
use Rattle.vm_model.specs.Answering.{overwrite}
use Rattle.vm_model.specs.Machine as model
use Rattle.vm_model.specs.Machine.{numbered}
use Rattle.vm_model.proofs.Parts.Lists.{length-overwrite, numbered_place}
use Rattle.vm_model.proofs.Parts.ListParts.{numbered_set, numbered_set_other, overwrite_before, overwrite_behind, overwrite_in}
use Rattle.contexts.specs.Actors.{Actors}
use Rattle.contexts.proofs.Placing.{right_weaker}
use Rattle.flat_mm.specs.Manager.{AreKept, IsKept, IsManagerSound, caches_in, plain, sizes_in}
use Rattle.flat_mm.specs.Store.{AreWhole, Cache, Page, Store, page_at, put_page, put_pages, with_cache, with_page}
use Rattle.flat_mm.proofs.Loosening.{map-overwrite}

-- the store with these pages in a cache from this page on
abbrev pub puts : Store → ℕ → ℕ → List Page → Store
puts s n first part = record s { caches = with_cache n (put_pages first part) s.caches }

-- Lists

overwrite_none : {A : Type 0} (first : ℕ) (whole : List A) → overwrite first [] whole ≡ whole
overwrite_none first whole = (λ i. append-nil (take first whole) i ++ drop (let e : first + 0 ≡ first = omega arith in e i) whole) ∙ take-append-drop first whole

set_seam : {A : Type 0} (xs ys : List A) (i : ℕ) (x y : A) → i ≡ length xs → set (xs ++ y ∷ ys) i x ≡ xs ++ x ∷ ys
set_seam [] ys zero x y e = refl
set_seam [] ys (suc i) x y e = absurd (omega (arith, e))
set_seam (z ∷ xs) ys zero x y e = absurd (omega (arith, e))
set_seam (z ∷ xs) ys (suc i) x y e = ap (λ zs. z ∷ zs) (set_seam xs ys i x y (omega (arith, e)))

-- one more is replaced
overwrite_more : {A : Type 0} (first : ℕ) (part whole : List A) (x : A) → first + length part < length whole → set (overwrite first part whole) (first + length part) x ≡ overwrite first (part ++ x ∷ []) whole
overwrite_more first part whole x less =
    let k = first + length part in
    let front = take first whole ++ part in
    let long : k ≡ length front = omega (arith, length-append (take first whole) part, length-take-le first whole (omega (arith, less))) in
    ap (λ ys. set (front ++ ys) k x) (drop_more whole k x less)
    ∙ set_seam front (drop (k + 1) whole) k x (get_or whole k x) long
    ∙ sym (ap (λ ys. ys ++ drop (first + length (part ++ x ∷ [])) whole) (sym (append_assoc (take first whole) part (x ∷ []))) ∙ append_assoc front (x ∷ []) (drop (first + length (part ++ x ∷ [])) whole)
    ∙ ap (λ n. front ++ x ∷ drop n whole) (let e : first + length (part ++ x ∷ []) ≡ k + 1 = omega (arith, length-append part (x ∷ [])) in e))

set_set : {A : Type 0} (xs : List A) (i : ℕ) (x y : A) → set (set xs i x) i y ≡ set xs i y
set_set [] i x y = refl
set_set (z ∷ xs) zero x y = refl
set_set (z ∷ xs) (suc i) x y = ap (λ zs. z ∷ zs) (set_set xs i x y)

set_there : {A : Type 0} (xs : List A) (i : ℕ) (x : A) → slice_get xs i ≡ Some x → set xs i x ≡ xs
set_there [] i x e = refl
set_there (z ∷ xs) zero x e = (let same : z ≡ x = cc e in ap (λ y. y ∷ xs) (sym same))
set_there (z ∷ xs) (suc i) x e = ap (λ zs. z ∷ zs) (set_there xs i x e)

module _ (s : Store) (n : ℕ) (c : Cache) (alive : numbered s.caches n ≡ Some c) (first : ℕ) where
  place : (1 ≤ n) × (slice_get s.caches (n - 1) ≡ Some (Some c))
  place = numbered_place s.caches n c alive

  -- nothing was put yet
  pub puts_none : puts s n first [] ≡ s
  puts_none = ap (λ (cs : List (Option Cache)). record s { caches = cs })
      (ap (λ (o : Option Cache). set s.caches (n - 1) (option_map (put_pages first []) o)) alive
      ∙ ap (λ (ps : List Page). set s.caches (n - 1) (Some (record c { pages = ps }))) (overwrite_none first c.pages)
      ∙ set_there s.caches (n - 1) (Some c) place.1)

  module _ (part : List Page) where
    abbrev pub changed : Cache
    changed = record c { pages = overwrite first part c.pages }

    puts_is : puts s n first part ≡ record s { caches = set s.caches (n - 1) (Some changed) }
    puts_is = ap (λ (o : Option Cache). record s { caches = set s.caches (n - 1) (option_map (put_pages first part) o) }) alive

    pub puts_alive : numbered (puts s n first part).caches n ≡ Some changed
    puts_alive = ap (λ (t : Store). numbered t.caches n) puts_is ∙ numbered_set s.caches n c (Some changed) alive

    pub puts_other : (m : ℕ) → m ≢ n → numbered (puts s n first part).caches m ≡ numbered s.caches m
    puts_other m other = numbered_set_other s.caches n m (option_map (put_pages first part) (numbered s.caches n)) place.0 other

    -- one more
    pub puts_more : (q : Page) → first + length part < length c.pages → with_page n (first + length part) q (puts s n first part) ≡ puts s n first (part ++ q ∷ [])
    puts_more q less = ap (λ (cs : List (Option Cache)). record s { caches = cs })
        (ap (λ (o : Option Cache). set (puts s n first part).caches (n - 1) (option_map (put_page (first + length part) q) o)) puts_alive
        ∙ set_set s.caches (n - 1) (option_map (put_pages first part) (numbered s.caches n)) (Some (put_page (first + length part) q changed))
        ∙ ap (λ (ps : List Page). set s.caches (n - 1) (Some (record c { pages = ps }))) (overwrite_more first part c.pages q less)
        ∙ sym (ap (λ (o : Option Cache). set s.caches (n - 1) (option_map (put_pages first (part ++ q ∷ [])) o)) alive))

    module _ (within : first + length part ≤ length c.pages) where
      -- what isn't put stays
      pub puts_page : (m k : ℕ) → (m ≡ n → k < first + length part → first ≤ k → ⊥) → page_at (puts s n first part).caches m k ≡ page_at s.caches m k
      puts_page m k apart = elim (cases_eq m n) [
        | inl same ↦ (
            ap (λ j. page_at (puts s n first part).caches j k) same ∙ ap (option_and_then (λ (d : Cache). slice_get d.pages k)) puts_alive
            ∙ (elim (cases_lt k first) [
              | inl low ↦ overwrite_before first part c.pages k (omega (arith, within)) low
              | inr high ↦ (elim (cases_lt k (first + length part)) [
                | inl inside ↦ absurd (apart same inside high)
                | inr past ↦ overwrite_behind first part c.pages k (omega (arith, within)) past
              ])
            ])
            ∙ sym (ap (option_and_then (λ (d : Cache). slice_get d.pages k)) alive) ∙ ap (λ j. page_at s.caches j k) (sym same))
        | inr other ↦ ap (option_and_then (λ (d : Cache). slice_get d.pages k)) (puts_other m other)
      ]

      many : length changed.pages ≡ length c.pages
      many = length-overwrite first part c.pages within

      sizes_puts : (m count : ℕ) → sizes_in s m ≡ Some count → sizes_in (puts s n first part) m ≡ Some count
      sizes_puts m count e = elim (cases_eq m n) [
        | inl same ↦ (
            ap (sizes_in (puts s n first part)) same ∙ ap (option_map (λ (d : Cache). length d.pages)) puts_alive ∙ ap (λ j. Some j) many
            ∙ sym (ap (option_map (λ (d : Cache). length d.pages)) alive) ∙ ap (sizes_in s) (sym same) ∙ e)
        | inr other ↦ ap (option_map (λ (d : Cache). length d.pages)) (puts_other m other) ∙ e
      ]

      pub sound_puts : (t : Actors) (m : ℕ) (u : Store) → IsManagerSound s t m → AreWhole u → u.loose ≡ [] → u.page_bytes ≡ s.page_bytes → u.caches ≡ (puts s n first part).caches → IsManagerSound u t m
      sound_puts t m u S whole settled page is = record {
        whole = whole;
        settled = settled;
        page = S.page ∙ sym page;
        made = omega (arith, S.made, ap length is, length-set s.caches (n - 1) (option_map (put_pages first part) (numbered s.caches n)));
        counted = S.counted;
        placed = right_weaker (sizes_in s) (sizes_in u) t (λ j count e. ap (λ (cs : List (Option Cache)). option_map (λ (d : Cache). length d.pages) (numbered cs j)) is ∙ sizes_puts j count e) S.placed;
      }

      -- pages are kept where those that were put are
      pub kept_puts : (h : Segments) → AreKept h s.caches → ((seg : SegId) (i : ℕ) (q : Page) → c.segment ≡ Some seg → slice_get part i ≡ Some q → IsKept h seg.0 (first + i) q) → AreKept h (puts s n first part).caches
      kept_puts h kept new = λ m page d seg x there named at. elim (cases_eq m n) [
        | inl same ↦ (
            let e : Some changed ≡ Some d = sym puts_alive ∙ ap (numbered (puts s n first part).caches) (sym same) ∙ there in
            let is : changed ≡ d = cc e in
            let seg_is : c.segment ≡ Some seg = ap (λ (y : Cache). y.segment) is ∙ named in
            let got : slice_get (overwrite first part c.pages) page ≡ Some x = ap (λ (y : Cache). slice_get y.pages page) is ∙ at in
            elim (cases_lt page first) [
              | inl low ↦ kept n page c seg x alive seg_is (sym (overwrite_before first part c.pages page (omega (arith, within)) low) ∙ got)
              | inr high ↦ (elim (cases_lt page (first + length part)) [
                | inl inside ↦ (
                    let at_part : slice_get part (page - first) ≡ Some x = sym (overwrite_in first part c.pages (page - first) page (omega (arith, within)) (omega (arith, high, inside)) (omega (arith, high))) ∙ got in
                    subst (λ k. IsKept h seg.0 k x) (let e : first + (page - first) ≡ page = omega (arith, high) in e) (new seg (page - first) x seg_is at_part))
                | inr past ↦ kept n page c seg x alive seg_is (sym (overwrite_behind first part c.pages page (omega (arith, within)) past) ∙ got)
              ])
            ])
        | inr other ↦ kept m page d seg x (sym (puts_other m other) ∙ there) named at
      ]

    -- the machine's caches
    pub plain_puts : caches_in (puts s n first part) ≡ set (caches_in s) (n - 1) (Some (answering.put_pages first (map (λ (p : Page). p.bytes) part) (plain c)))
    plain_puts =
        ap caches_in puts_is ∙ map-set (option_map plain) s.caches (n - 1) (Some changed)
        ∙ ap (λ (ps : List model.Page). set (caches_in s) (n - 1) (Some (let d : model.Cache = record { segment = option_map (λ (s : SegId). s.0) c.segment; pages = ps } in d))) (map-overwrite (λ (p : Page). p.bytes) first part c.pages)
