-- The map of a heap: the number of each place.
use Rattle.std.proofs.Common.{◌≡◌, ◌≢◌, inl, inr, ℕ, zero, suc, ◌+◌, ◌<◌, ◌≤◌, true, false, eqb, List, [], ◌∷◌, ◌++◌, length, set, map, Option, Some, None, refl, sym, ap, subst, ◌∙◌, arith, length-set}
use Rattle.std.specs.Prelude.{IsSome, MatchOption, slice_get}
use Rattle.std.specs.List.{AllByRecursion, IsDistinct, list_any}
use Rattle.std.proofs.lemmas.Bool.{cases_eq, cases_lt, cond-true, cond-false, eq-eqb, ne_eqb, eqb-true, or_cases}
use Rattle.std.proofs.lemmas.List.{append-nil, append_assoc, get_or_append_left, get_or_push, length_push, length-map}
use Rattle.std.proofs.lemmas.Map.Steps.{length-le_from_distinct_below}
use Rattle.std.specs.Ordering.{nat_cmp}
use Rattle.std.specs.Cmp.{nat_cmp_total, unsigned_tied}
use Rattle.std.specs.FinMap.{FinMap, nat_cmp-IsAntisymmetric, same_map, get-empty, get-insert, get-remove}
use Rattle.std.specs.FinMap as finite
use Rattle.least_heap.specs.declared.heap.Numbered.{Numbered}
use Rattle.least_heap.specs.Heaps.{AreStanding, entry_at, Extends, HasPlace, IsAt, IsHeap, IsLeast, IsOrdered, IsRefilling, IsRising, IsWithout, number_at, Numbers, numbers_of, place_at, SameNumbers, stand_of}
use Rattle.least_heap.proofs.Moving.{entry_other, entry_set, least_first}

insert_same : (m : FinMap nat_cmp ℕ) (k v q : ℕ) → q ≡ k → finite.get (finite.insert m k v) q ≡ Some v
insert_same m k v q e = get-insert nat_cmp_total m k v q ∙ cond-true _ _ _ (unsigned_tied q k ∙ eq-eqb q k e)

pub insert_other : (m : FinMap nat_cmp ℕ) (k v q : ℕ) → q ≢ k → finite.get (finite.insert m k v) q ≡ finite.get m q
insert_other m k v q h = get-insert nat_cmp_total m k v q ∙ cond-false _ _ _ (unsigned_tied q k ∙ ne_eqb q k h)

remove_same : (m : FinMap nat_cmp ℕ) (k q : ℕ) → q ≡ k → finite.get (finite.remove m k) q ≡ None
remove_same m k q e = get-remove nat_cmp_total m k q ∙ cond-true _ _ _ (unsigned_tied q k ∙ eq-eqb q k e)

remove_other : (m : FinMap nat_cmp ℕ) (k q : ℕ) → q ≢ k → finite.get (finite.remove m k) q ≡ finite.get m q
remove_other m k q h = get-remove nat_cmp_total m k q ∙ cond-false _ _ _ (unsigned_tied q k ∙ ne_eqb q k h)

one : (a b : ℕ) → Some a ≡ Some b → a ≡ b
one a b e = cc

-- the map has the numbers of the heap, and no others
pub record IsMapOf (heap : List Numbered) (m : FinMap nat_cmp ℕ) : Type 0 where
  pub found : (p n : ℕ) → finite.get m p ≡ Some n → IsAt heap p n
  pub there : (p n : ℕ) → IsAt heap p n → finite.get m p ≡ Some n

-- two maps of one heap are equal
pub one_map : (heap : List Numbered) (m n : FinMap nat_cmp ℕ) → IsMapOf heap m → IsMapOf heap n → m ≡ n
one_map heap m n a b = same_map nat_cmp_total nat_cmp-IsAntisymmetric m n (λ k. by_places k (finite.get m k) refl (finite.get n k) refl) where
  by_places : (k : ℕ) (x : Option ℕ) → finite.get m k ≡ x → (y : Option ℕ) → finite.get n k ≡ y → finite.get m k ≡ finite.get n k
  by_places k (Some p) e y f = e ∙ sym (b.there k p (a.found k p e))
  by_places k None e (Some p) f = a.there k p (b.found k p f) ∙ sym f
  by_places k None e None f = e ∙ sym f

-- the same numbers, the same map
pub map_kept : (old new : List Numbered) (m : FinMap nat_cmp ℕ) → SameNumbers old new → IsMapOf old m → IsMapOf new m
map_kept old new m s is = record {
  found = λ p n e. s.on p n (is.found p n e);
  there = λ p n at. is.there p n (s.back p n at);
}

-- no place stands at two indexes
abbrev AreApart : List Numbered → Type 0
AreApart heap = (i j : ℕ) → i < length heap → j < length heap → place_at heap i ≡ place_at heap j → i ≡ j

pub apart : (heap : List Numbered) (stands : List ℕ) → AreStanding heap stands → AreApart heap
apart heap stands s i j a b e = sym (s i a).1 ∙ ap (stand_of stands) e ∙ (s j b).1

found_in : (heap : List Numbered) (p n : ℕ) → finite.get (numbers_of heap) p ≡ Some n → IsAt heap p n
unfolding numbers_of
found_in [] p n e = (let none : finite.get (finite.empty {X = ℕ} {R = nat_cmp}) p ≡ None = get-empty nat_cmp p in let never : Some n ≡ None = sym e ∙ none in absurd (cc never))
found_in (x ∷ xs) p n e = elim (cases_eq p x.place) [
  | inl is ↦ record { index = 0; within = omega arith; place_is = sym is; number_is = one x.number n (sym (insert_same (numbers_of xs) x.place x.number p is) ∙ e) }
  | inr other ↦
      let at : IsAt xs p n = found_in xs p n (sym (insert_other (numbers_of xs) x.place x.number p other) ∙ e) in
      record { index = suc at.index; within = omega (arith, at.within); place_is = at.place_is; number_is = at.number_is }
]

there_in : (heap : List Numbered) → AreApart heap → (i : ℕ) → i < length heap → finite.get (numbers_of heap) (place_at heap i) ≡ Some (number_at heap i)
unfolding numbers_of
there_in [] a i within = absurd (omega arith)
there_in (x ∷ xs) a zero within = insert_same (numbers_of xs) x.place x.number x.place refl
there_in (x ∷ xs) a (suc i) within =
    insert_other (numbers_of xs) x.place x.number (place_at xs i) (λ e. absurd (omega (arith, a (suc i) 0 within (omega arith) e)))
    ∙ there_in xs (λ j k b c e. omega (arith, a (suc j) (suc k) (omega arith) (omega arith) e)) i (omega arith)

pub numbers_is : (heap : List Numbered) → AreApart heap → IsMapOf heap (numbers_of heap)
numbers_is heap a = record {
  found = found_in heap;
  there = λ p n at. ap (finite.get (numbers_of heap)) (sym at.place_is) ∙ there_in heap a at.index at.within ∙ ap Some at.number_is;
}

-- ---- the least

pub least_is : (heap : List Numbered) (m : FinMap nat_cmp ℕ) (x : Numbered) → IsMapOf heap m → IsOrdered heap → 0 < length heap → x ≡ entry_at heap 0 → IsLeast m x
least_is heap m x is ordered some e = record {
  there = is.there x.place x.number (record { index = 0; within = some; place_is = ap (λ (y : Numbered). y.place) (sym e); number_is = ap (λ (y : Numbered). y.number) (sym e) });
  least = λ p n at. (let i = is.found p n at in omega (arith, ap (λ (y : Numbered). y.number) e, least_first heap ordered i.index i.index (omega arith) i.within, i.number_is));
}

pub none_is : (heap : List Numbered) (m : FinMap nat_cmp ℕ) → IsMapOf heap m → length heap ≡ 0 → m ≡ finite.empty
none_is heap m is none = same_map nat_cmp_total nat_cmp-IsAntisymmetric m finite.empty (λ k. by_place k (finite.get m k) refl) where
  by_place : (k : ℕ) (x : Option ℕ) → finite.get m k ≡ x → finite.get m k ≡ finite.get (finite.empty {X = ℕ} {R = nat_cmp}) k
  by_place k (Some n) e = (let at = is.found k n e in absurd (omega (arith, at.within)))
  by_place k None e = e ∙ sym (get-empty nat_cmp k)

-- ---- fewer numbers than places

others : (p : ℕ) (heap : List Numbered) → ((i : ℕ) → i < length heap → place_at heap i ≢ p) → AllByRecursion (λ q. eqb p q ≡ false) (map (λ (x : Numbered). x.place) heap)
others p [] out = tt
others p (x ∷ xs) out = (ne_eqb p x.place (λ e. out 0 (omega arith) (sym e)), others p xs (λ i less. out (suc i) (omega arith)))

distinct : (heap : List Numbered) → AreApart heap → IsDistinct eqb (map (λ (x : Numbered). x.place) heap)
unfolding IsDistinct
distinct [] a = tt
distinct (x ∷ xs) a = (others x.place xs (λ i less e. absurd (omega (arith, a (suc i) 0 (omega arith) (omega arith) e))), distinct xs (λ i j b c e. omega (arith, a (suc i) (suc j) (omega arith) (omega arith) e)))

all_below : (heap : List Numbered) (room : ℕ) → ((i : ℕ) → i < length heap → place_at heap i < room) → (q : ℕ) → list_any (eqb q) (map (λ (x : Numbered). x.place) heap) ≡ true → q < room
all_below [] room b q any = absurd (cc any)
all_below (x ∷ xs) room b q any = elim (or_cases (eqb q x.place) (list_any (eqb q) (map (λ (y : Numbered). y.place) xs)) any) [
  | inl here ↦ subst (λ (n : ℕ). n < room) (sym (eqb-true q x.place here)) (b 0 (omega arith))
  | inr later ↦ all_below xs room (λ i less. b (suc i) (omega arith)) q later
]

pub few : (heap : List Numbered) (room : ℕ) → AreApart heap → ((i : ℕ) → i < length heap → place_at heap i < room) → length heap ≤ room
few heap room a b = omega (arith, length-le_from_distinct_below (map (λ (x : Numbered). x.place) heap) room (distinct heap a) (all_below heap room b), length-map heap (λ (x : Numbered). x.place))

-- there is room for one more at a place that has none
pub fewer : (heap : List Numbered) (room number place : ℕ) → AreApart heap → ((i : ℕ) → i < length heap → place_at heap i < room) → ((i : ℕ) → i < length heap → place_at heap i ≢ place) → place < room → length heap < room
fewer heap room number place a b out less =
    let x : Numbered = record { number = number; place = place } in
    omega (arith, few (x ∷ heap) room (apart_more heap x a out) (below_more heap x b less)) where
      apart_more : (heap : List Numbered) (x : Numbered) → AreApart heap → ((i : ℕ) → i < length heap → place_at heap i ≢ x.place) → AreApart (x ∷ heap)
      apart_more heap x a out zero zero b c e = refl
      apart_more heap x a out zero (suc j) b c e = absurd (out j (omega arith) (sym e))
      apart_more heap x a out (suc i) zero b c e = absurd (out i (omega arith) e)
      apart_more heap x a out (suc i) (suc j) b c e = ap suc (a i j (omega arith) (omega arith) e)

      below_more : (heap : List Numbered) (x : Numbered) → ((i : ℕ) → i < length heap → place_at heap i < room) → x.place < room → (i : ℕ) → i < length (x ∷ heap) → place_at (x ∷ heap) i < room
      below_more heap x b less zero inside = less
      below_more heap x b less (suc i) inside = b i (omega arith)

-- ---- a number is entered

module _ (heap : List Numbered) (x : Numbered) where
  abbrev pub longer : List Numbered
  longer = heap ++ x ∷ []

  at_old : (i : ℕ) → i < length heap → entry_at longer i ≡ entry_at heap i
  at_old i less = get_or_append_left heap (x ∷ []) (record { number = 0; place = 0 }) i less

  at_last : entry_at longer (length heap) ≡ x
  at_last = get_or_push heap x (record { number = 0; place = 0 }) (length heap) refl

  -- the number at the end may have to rise
  pub entered : (stands : List ℕ) → IsHeap heap stands → ((i : ℕ) → i < length heap → place_at heap i ≢ x.place) → x.place < length stands → IsRising longer stands (length heap)
  entered stands h out less =
      let long : length longer ≡ length heap + 1 = length_push heap x in
      let places : (i : ℕ) → i < length heap → place_at longer i ≡ place_at heap i = λ i b. ap (λ (y : Numbered). y.place) (at_old i b) in
      let numbers : (i : ℕ) → i < length heap → number_at longer i ≡ number_at heap i = λ i b. ap (λ (y : Numbered). y.number) (at_old i b) in
      let last : place_at longer (length heap) ≡ x.place = ap (λ (y : Numbered). y.place) at_last in
      record {
        open_at = record {
          within = omega arith;
          place = omega arith;
          apart = λ i b other e. (let c : i < length heap = omega arith in out i c (sym (places i c) ∙ e ∙ last));
          standing = λ i b other.
              (let c : i < length heap = omega arith in
              (subst (λ (p : ℕ). p < length stands) (sym (places i c)) (h.standing i c).0, ap (stand_of stands) (places i c) ∙ (h.standing i c).1));
          across = λ a i b c d e f. absurd (omega arith);
        };
        ordered = λ a i b c d other. (let inside : i < length heap = omega arith in omega (arith, numbers a (omega arith), numbers i inside, h.ordered a i b c inside));
      }

  pub map_more : (m : FinMap nat_cmp ℕ) → IsMapOf heap m → ((i : ℕ) → i < length heap → place_at heap i ≢ x.place) → IsMapOf longer (finite.insert m x.place x.number)
  map_more m is out = record {
    found = λ p n e. elim (cases_eq p x.place) [
      | inl same ↦ record { index = length heap; within = omega (arith, length_push heap x); place_is = ap (λ (y : Numbered). y.place) at_last ∙ sym same; number_is = ap (λ (y : Numbered). y.number) at_last ∙ one x.number n (sym (insert_same m x.place x.number p same) ∙ e) }
      | inr other ↦
          let at : IsAt heap p n = is.found p n (sym (insert_other m x.place x.number p other) ∙ e) in
          record { index = at.index; within = omega (arith, at.within, length_push heap x); place_is = ap (λ (y : Numbered). y.place) (at_old at.index at.within) ∙ at.place_is; number_is = ap (λ (y : Numbered). y.number) (at_old at.index at.within) ∙ at.number_is }
    ];
    there = λ p n at. elim (cases_lt at.index (length heap)) [
      | inl less ↦
          let place : place_at heap at.index ≡ p = ap (λ (y : Numbered). y.place) (sym (at_old at.index less)) ∙ at.place_is in
          insert_other m x.place x.number p (λ e. out at.index less (place ∙ e)) ∙ is.there p n (record { index = at.index; within = less; place_is = place; number_is = ap (λ (y : Numbered). y.number) (sym (at_old at.index less)) ∙ at.number_is })
      | inr past ↦
          let same : at.index ≡ length heap = omega (arith, at.within, length_push heap x) in
          let entry : entry_at longer at.index ≡ x = ap (entry_at longer) same ∙ at_last in
          insert_same m x.place x.number p (sym at.place_is ∙ ap (λ (y : Numbered). y.place) entry) ∙ ap Some (ap (λ (y : Numbered). y.number) (sym entry) ∙ at.number_is)
    ];
  }

-- ---- a number goes

-- the heap without its last number
module _ (heap rest : List Numbered) (last : Numbered) (is : heap ≡ rest ++ last ∷ []) where
  long : length heap ≡ length rest + 1
  long = ap length is ∙ length_push rest last

  at_rest : (i : ℕ) → i < length rest → entry_at rest i ≡ entry_at heap i
  at_rest i less = sym (ap (λ (h : List Numbered). entry_at h i) is ∙ get_or_append_left rest (last ∷ []) (record { number = 0; place = 0 }) i less)

  pub at_end : entry_at heap (length rest) ≡ last
  at_end = ap (λ (h : List Numbered). entry_at h (length rest)) is ∙ get_or_push rest last (record { number = 0; place = 0 }) (length rest) refl

  -- it was the last number that went
  pub shorter : (stands : List ℕ) → IsHeap heap stands → IsHeap rest stands
  shorter stands h = record {
    ordered = λ a i b c d. omega (arith, ap (λ (y : Numbered). y.number) (at_rest a (omega arith)), ap (λ (y : Numbered). y.number) (at_rest i d), h.ordered a i b c (omega (arith, long)));
    standing = λ i d. (let p : place_at rest i ≡ place_at heap i = ap (λ (y : Numbered). y.place) (at_rest i d) in let s = h.standing i (omega (arith, long)) in (subst (λ (n : ℕ). n < length stands) (sym p) s.0, ap (stand_of stands) p ∙ s.1));
  }

  pub without_last : AreApart heap → IsWithout heap rest last.place
  without_last a = record {
    on = λ p n other at.
        (let less : at.index < length rest = not_last p other at.index at.within at.place_is in
        record { index = at.index; within = less; place_is = ap (λ (y : Numbered). y.place) (at_rest at.index less) ∙ at.place_is; number_is = ap (λ (y : Numbered). y.number) (at_rest at.index less) ∙ at.number_is });
    back = λ p n at.
        (let place : place_at heap at.index ≡ p = ap (λ (y : Numbered). y.place) (sym (at_rest at.index at.within)) ∙ at.place_is in (
          record { index = at.index; within = omega (arith, at.within, long); place_is = place; number_is = ap (λ (y : Numbered). y.number) (sym (at_rest at.index at.within)) ∙ at.number_is },
          λ e. absurd (omega (arith, a at.index (length rest) (omega (arith, at.within, long)) (omega (arith, long)) (place ∙ e ∙ ap (λ (y : Numbered). y.place) (sym at_end)), at.within)),
        ));
  } where
    not_last : (p : ℕ) → p ≢ last.place → (i : ℕ) → i < length heap → place_at heap i ≡ p → i < length rest
    not_last p other i within at = elim (cases_lt i (length rest)) [
      | inl less ↦ less
      | inr past ↦ (let same : i ≡ length rest = omega (arith, long) in absurd (other (sym at ∙ ap (place_at heap) same ∙ ap (λ (y : Numbered). y.place) at_end)))
    ]

  -- the last number comes where another one went
  module _ (i : ℕ) (less : i < length rest) where
    abbrev pub filled : List Numbered
    filled = set rest i last

    same_long : length filled ≡ length rest
    same_long = length-set rest i last

    at_i : entry_at filled i ≡ last
    at_i = entry_set rest i last less

    at_k : (k : ℕ) → k < length rest → k ≢ i → entry_at filled k ≡ entry_at heap k
    at_k k within other = entry_other rest i last k other ∙ at_rest k within

    pub refilling : (stands : List ℕ) → IsHeap heap stands → IsRefilling filled stands i
    refilling stands h =
        let end : length rest < length heap = omega (arith, long) in
        let last_place : place_at filled i ≡ place_at heap (length rest) = ap (λ (y : Numbered). y.place) (at_i ∙ sym at_end) in
        let places : (k : ℕ) → k < length rest → k ≢ i → place_at filled k ≡ place_at heap k = λ k b c. ap (λ (y : Numbered). y.place) (at_k k b c) in
        let numbers : (k : ℕ) → k < length rest → k ≢ i → number_at filled k ≡ number_at heap k = λ k b c. ap (λ (y : Numbered). y.number) (at_k k b c) in
        record {
          open_at = record {
            within = omega (arith, same_long);
            place = subst (λ (n : ℕ). n < length stands) (sym last_place) (h.standing (length rest) end).0;
            apart = λ k b other e.
                (let inside : k < length rest = omega (arith, same_long) in
                absurd (omega (arith, apart heap stands h.standing k (length rest) (omega (arith, long)) end (sym (places k inside other) ∙ e ∙ last_place))));
            standing = λ k b other.
                (let inside : k < length rest = omega (arith, same_long) in
                let s = h.standing k (omega (arith, long)) in
                (subst (λ (n : ℕ). n < length stands) (sym (places k inside other)) s.0, ap (stand_of stands) (places k inside other) ∙ s.1));
            across = λ a k b c d e f.
                (let inside : k < length rest = omega (arith, same_long) in
                omega (arith, numbers a (omega arith) (λ e. omega arith), numbers k inside (λ e. omega arith), h.ordered a i b c (omega (arith, long)), h.ordered i k d e (omega (arith, long))));
          };
          ordered = λ a k b c d not_a not_k.
              (let inside : k < length rest = omega (arith, same_long) in
              omega (arith, numbers a (omega arith) not_a, numbers k inside not_k, h.ordered a k b c (omega (arith, long))));
        }

    pub without_filled : (place : ℕ) → AreApart heap → place_at heap i ≡ place → IsWithout heap filled place
    without_filled place a gone = record {
      on = λ p n other at.
          (let not_i : at.index ≢ i = λ same. other (sym at.place_is ∙ ap (place_at heap) same ∙ gone) in
          elim (cases_lt at.index (length rest)) [
            | inl inside ↦
                let entry : entry_at filled at.index ≡ entry_at heap at.index = at_k at.index inside not_i in
                record { index = at.index; within = omega (arith, same_long); place_is = ap (λ (y : Numbered). y.place) entry ∙ at.place_is; number_is = ap (λ (y : Numbered). y.number) entry ∙ at.number_is }
            | inr past ↦
                let same : at.index ≡ length rest = omega (arith, long, at.within) in
                let entry : entry_at filled i ≡ entry_at heap at.index = at_i ∙ sym at_end ∙ ap (entry_at heap) (sym same) in
                record { index = i; within = omega (arith, same_long); place_is = ap (λ (y : Numbered). y.place) entry ∙ at.place_is; number_is = ap (λ (y : Numbered). y.number) entry ∙ at.number_is }
          ]);
      back = λ p n at. elim (cases_eq at.index i) [
        | inl same ↦
            let entry : entry_at filled at.index ≡ entry_at heap (length rest) = ap (entry_at filled) same ∙ at_i ∙ sym at_end in
            keep p n at (length rest) (omega (arith, long)) entry (λ e. absurd (omega arith))
        | inr other ↦
            let inside : at.index < length rest = omega (arith, at.within, same_long) in
            keep p n at at.index (omega (arith, long)) (at_k at.index inside other) other
      ];
    } where
      keep : (p n : ℕ) (at : IsAt filled p n) (k : ℕ) → k < length heap → entry_at filled at.index ≡ entry_at heap k → k ≢ i → IsAt heap p n × (p ≢ place)
      keep p n at k within entry other =
          let place_is : place_at heap k ≡ p = ap (λ (y : Numbered). y.place) (sym entry) ∙ at.place_is in
          (record { index = k; within = within; place_is = place_is; number_is = ap (λ (y : Numbered). y.number) (sym entry) ∙ at.number_is }, λ e. other (a k i within (omega (arith, long)) (place_is ∙ e ∙ sym gone)))

-- the same numbers but that of a place, as heaps go on
pub without_through : (a b c : List Numbered) (place : ℕ) → IsWithout a b place → SameNumbers b c → IsWithout a c place
without_through a b c place w s = record {
  on = λ p n other at. s.on p n (w.on p n other at);
  back = λ p n at. w.back p n (s.back p n at);
}

-- a number goes from the map
pub map_less : (old new : List Numbered) (m : FinMap nat_cmp ℕ) (place : ℕ) → IsWithout old new place → IsMapOf old m → IsMapOf new (finite.remove m place)
map_less old new m place w is = record {
  found = λ p n e. elim (cases_eq p place) [
    | inl same ↦ (let never : Some n ≡ None = sym e ∙ remove_same m place p same in absurd (cc never))
    | inr other ↦ w.on p n other (is.found p n (sym (remove_other m place p other) ∙ e))
  ];
  there = λ p n at. (let b = w.back p n at in remove_other m place p b.1 ∙ is.there p n b.0);
}

-- what a contract sees, of equal maps
pub same_numbers : (m n : FinMap nat_cmp ℕ) (room other : ℕ) → m ≡ n → room ≡ other → ◌≡◌ {A = Numbers} (record { numbers = m; room = room }) (record { numbers = n; room = other })
same_numbers m n room other e f = ap (λ (x : FinMap nat_cmp ℕ). the_numbers x room) e ∙ ap (the_numbers n) f where
  the_numbers : FinMap nat_cmp ℕ → ℕ → Numbers
  the_numbers x r = record { numbers = x; room = r }

-- the map that a contract sees has the numbers of the heap
pub known : (heap : List Numbered) (stands : List ℕ) (room : ℕ) (e : Numbers) → IsHeap heap stands → record { numbers = numbers_of heap; room = room } ≡ e → IsMapOf heap e.numbers
known heap stands room e h view = subst (IsMapOf heap) (ap (λ (x : Numbers). x.numbers) view) (numbers_is heap (apart heap stands h.standing))

pub has_place : (heap : List Numbered) (m : FinMap nat_cmp ℕ) (place : ℕ) → IsMapOf heap m → IsSome (finite.get m place) → HasPlace heap place
has_place heap m place is some = by_number (finite.get m place) refl some where
  by_number : (o : Option ℕ) → finite.get m place ≡ o → IsSome o → HasPlace heap place
  by_number None e none = absurd (cc none)
  by_number (Some n) e is_some = (n, is.found place n e)

-- a place that has no number is that of none
pub out_of : (heap : List Numbered) (place : ℕ) → (HasPlace heap place → ⊥) → (i : ℕ) → i < length heap → place_at heap i ≢ place
out_of heap place out i within e = out (number_at heap i, record { index = i; within = within; place_is = e; number_is = refl })

-- where the number of a place stands
pub stands_at : (heap : List Numbered) (stands : List ℕ) (place : ℕ) → IsHeap heap stands → HasPlace heap place → (place < length stands) × (stand_of stands place < length heap) × (place_at heap (stand_of stands place) ≡ place)
stands_at heap stands place h there =
    let at : IsAt heap place there.0 = there.1 in
    let s = h.standing at.index at.within in
    let is : stand_of stands place ≡ at.index = ap (stand_of stands) (sym at.place_is) ∙ s.1 in
    (subst (λ (p : ℕ). p < length stands) at.place_is s.0, subst (λ (i : ℕ). i < length heap) (sym is) at.within, ap (place_at heap) is ∙ at.place_is)

pub least_of : (heap : List Numbered) (m : FinMap nat_cmp ℕ) (o : Option Numbered) → IsMapOf heap m → IsOrdered heap → o ≡ slice_get heap 0 → MatchOption o (m ≡ finite.empty) (IsLeast m)
least_of [] m o is ordered e = subst (λ (p : Option Numbered). MatchOption p (m ≡ finite.empty) (IsLeast m)) (sym e) (none_is [] m is refl)
least_of (x ∷ xs) m o is ordered e = subst (λ (p : Option Numbered). MatchOption p (m ≡ finite.empty) (IsLeast m)) (sym e) (least_is (x ∷ xs) m x is ordered (omega arith) refl)

pub none_numbered : (heap : List Numbered) → heap ≡ [] → numbers_of heap ≡ finite.empty
unfolding numbers_of
none_numbered heap e = ap numbers_of e

-- indexes are added for places that had none
pub record IsCovering (old new : List ℕ) (place : ℕ) : Type 0 where
  pub same : Extends old new
  pub few : (room : ℕ) → length old ≤ room → place < room → length new ≤ room
