-- A number goes up or down in a heap: it changes places with the one above or below.
use Rattle.std.proofs.Common.{◌≡◌, ◌≢◌, inl, inr, ℕ, zero, suc, ◌+◌, ◌-◌, ◌*◌, ◌/◌, ◌<◌, ◌≤◌, List, length, set, sym, ap, subst, ◌∙◌, arith, length-set}
use Rattle.std.proofs.lemmas.Bool.{cases_eq}
use Rattle.std.proofs.lemmas.List.{get_or-set_same, get_or-set_other}
use Rattle.least_heap.specs.declared.heap.Numbered.{Numbered}
use Rattle.least_heap.specs.Heaps.{AreStanding, entry_at, IsHeap, IsOpen, IsOrdered, IsRefilling, IsRising, IsSinking, number_at, place_at, SameNumbers, stand_of}

-- two entries have changed places
pub record IsSwapped (old new : List Numbered) (i j : ℕ) : Type 0 where
  pub long : length new ≡ length old
  pub first : entry_at new i ≡ entry_at old j
  pub second : entry_at new j ≡ entry_at old i
  pub others : (k : ℕ) → k ≢ i → k ≢ j → entry_at new k ≡ entry_at old k

pub entry_set : (heap : List Numbered) (i : ℕ) (x : Numbered) → i < length heap → entry_at (set heap i x) i ≡ x
entry_set heap i x less = get_or-set_same heap i x (record { number = 0; place = 0 }) less

pub entry_other : (heap : List Numbered) (i : ℕ) (x : Numbered) (k : ℕ) → k ≢ i → entry_at (set heap i x) k ≡ entry_at heap k
entry_other heap i x k other = get_or-set_other heap i k x (record { number = 0; place = 0 }) other

-- the entry in hand stands at one index as if it were written there; it goes to another
pub swapped : (heap : List Numbered) (i j : ℕ) (x : Numbered) → i < length heap → j < length heap → i ≢ j → IsSwapped (set heap i x) (set (set heap i (entry_at heap j)) j x) i j
swapped heap i j x a b other =
    let y : Numbered = entry_at heap j in
    let mid : List Numbered = set heap i y in
    let long : length mid ≡ length heap = length-set heap i y in
    record {
      long = length-set mid j x ∙ long ∙ sym (length-set heap i x);
      first = entry_other mid j x i other ∙ entry_set heap i y a ∙ sym (entry_other heap i x j (λ e. other (sym e)));
      second = entry_set mid j x (omega arith) ∙ sym (entry_set heap i x a);
      others = λ k p q. entry_other mid j x k q ∙ entry_other heap i y k p ∙ sym (entry_other heap i x k p);
    }

module _ (old new : List Numbered) (i j : ℕ) (s : IsSwapped old new i j) where
  num_first : number_at new i ≡ number_at old j
  num_first = ap (λ (x : Numbered). x.number) s.first

  num_second : number_at new j ≡ number_at old i
  num_second = ap (λ (x : Numbered). x.number) s.second

  num_other : (k : ℕ) → k ≢ i → k ≢ j → number_at new k ≡ number_at old k
  num_other k a b = ap (λ (x : Numbered). x.number) (s.others k a b)

  place_first : place_at new i ≡ place_at old j
  place_first = ap (λ (x : Numbered). x.place) s.first

  place_second : place_at new j ≡ place_at old i
  place_second = ap (λ (x : Numbered). x.place) s.second

  place_other : (k : ℕ) → k ≢ i → k ≢ j → place_at new k ≡ place_at old k
  place_other k a b = ap (λ (x : Numbered). x.place) (s.others k a b)

  pub swapped_same : i < length old → j < length old → SameNumbers old new
  swapped_same a b = record {
    on = λ p n at. elim (cases_eq at.index i) [
      | inl is ↦ record { index = j; within = omega (arith, s.long); place_is = place_second ∙ ap (place_at old) (sym is) ∙ at.place_is; number_is = num_second ∙ ap (number_at old) (sym is) ∙ at.number_is }
      | inr not_i ↦ elim (cases_eq at.index j) [
        | inl is ↦ record { index = i; within = omega (arith, s.long); place_is = place_first ∙ ap (place_at old) (sym is) ∙ at.place_is; number_is = num_first ∙ ap (number_at old) (sym is) ∙ at.number_is }
        | inr not_j ↦ record { index = at.index; within = omega (arith, s.long, at.within); place_is = place_other at.index not_i not_j ∙ at.place_is; number_is = num_other at.index not_i not_j ∙ at.number_is }
      ]
    ];
    back = λ p n at. elim (cases_eq at.index i) [
      | inl is ↦ record { index = j; within = b; place_is = sym place_first ∙ ap (place_at new) (sym is) ∙ at.place_is; number_is = sym num_first ∙ ap (number_at new) (sym is) ∙ at.number_is }
      | inr not_i ↦ elim (cases_eq at.index j) [
        | inl is ↦ record { index = i; within = a; place_is = sym place_second ∙ ap (place_at new) (sym is) ∙ at.place_is; number_is = sym num_second ∙ ap (number_at new) (sym is) ∙ at.number_is }
        | inr not_j ↦ record { index = at.index; within = omega (arith, s.long, at.within); place_is = sym (place_other at.index not_i not_j) ∙ at.place_is; number_is = sym (num_other at.index not_i not_j) ∙ at.number_is }
      ]
    ];
  }

  module _ (stands : List ℕ) (o : IsOpen old stands i) (less : j < length old) (other : j ≢ i) where
    abbrev after : List ℕ
    after = set stands (place_at old j) i

    stand_first : stand_of after (place_at old j) ≡ i
    stand_first = get_or-set_same stands (place_at old j) i 0 ((o.standing j less other).0)

    stand_other : (k : ℕ) → k < length old → k ≢ i → k ≢ j → stand_of after (place_at old k) ≡ k
    stand_other k within a b = get_or-set_other stands (place_at old j) (place_at old k) i 0 (λ e. b (sym (o.standing k within a).1 ∙ ap (stand_of stands) e ∙ (o.standing j less other).1)) ∙ (o.standing k within a).1

    wide : length after ≡ length stands
    wide = length-set stands (place_at old j) i

    still_open : ((above k : ℕ) → 2 * above < j → j ≤ 2 * above + 2 → 2 * j < k → k ≤ 2 * j + 2 → k < length new → number_at new above ≤ number_at new k) → IsOpen new after j
    still_open across = record {
      within = omega (arith, s.long);
      place = subst (λ (p : ℕ). p < length after) (sym place_second) (omega (arith, wide, o.place));
      apart = λ k within differs. elim (cases_eq k i) [
        | inl is ↦ (λ e. o.apart j less other (sym place_first ∙ ap (place_at new) (sym is) ∙ e ∙ place_second))
        | inr not_i ↦ (λ e. o.apart k (omega (arith, s.long)) not_i (sym (place_other k not_i differs) ∙ e ∙ place_second))
      ];
      standing = λ k within differs. elim (cases_eq k i) [
        | inl is ↦
            let at : place_at new k ≡ place_at old j = ap (place_at new) is ∙ place_first in
            (subst (λ (p : ℕ). p < length after) (sym at) (omega (arith, wide, (o.standing j less other).0)), ap (stand_of after) at ∙ stand_first ∙ sym is)
        | inr not_i ↦
            let at : place_at new k ≡ place_at old k = place_other k not_i differs in
            let inside : k < length old = omega (arith, s.long) in
            (subst (λ (p : ℕ). p < length after) (sym at) (omega (arith, wide, (o.standing k inside not_i).0)), ap (stand_of after) at ∙ stand_other k inside not_i differs)
      ];
      across = across;
    }

-- a number that is less than the one above it goes up
pub risen : (old new : List Numbered) (stands : List ℕ) (i above : ℕ) → IsSwapped old new i above → IsRising old stands i → 2 * above < i → i ≤ 2 * above + 2 → number_at old i < number_at old above → IsRising new (set stands (place_at old above) i) above
risen old new stands i above s r low high less =
    let o : IsOpen old stands i = r.open_at in
    let within : above < length old = omega (arith, o.within) in
    let other : above ≢ i = λ e. omega arith in
    let at_i : number_at new i ≡ number_at old above = num_first old new i above s in
    let at_above : number_at new above ≡ number_at old i = num_second old new i above s in
    record {
      open_at = still_open old new i above s stands o within other (λ a k b c d e inside.
          (let not_a : a ≢ i = λ e. omega arith in
          let a_is : number_at new a ≡ number_at old a = num_other old new i above s a not_a (λ e. omega arith) in
          let over : number_at old a ≤ number_at old above = r.ordered a above b c within other in
          elim (cases_eq k i) [
            | inl is ↦ omega (arith, ap (number_at new) is)
            | inr not_i ↦ omega (arith, num_other old new i above s k not_i (λ e. omega arith), r.ordered above k d e (omega (arith, s.long)) not_i)
          ]));
      ordered = λ a k b c inside not_above. elim (cases_eq k i) [
        | inl is ↦
            let same : a ≡ above = omega arith in
            omega (arith, ap (number_at new) is, ap (number_at new) same)
        | inr not_i ↦
            let k_is : number_at new k ≡ number_at old k = num_other old new i above s k not_i not_above in
            let k_in : k < length old = omega (arith, s.long) in
            elim (cases_eq a i) [
              | inl is ↦ omega (arith, ap (number_at new) is, o.across above k low high (omega arith) (omega arith) k_in)
              | inr a_not_i ↦ elim (cases_eq a above) [
                | inl is ↦ omega (arith, ap (number_at new) is, r.ordered above k (omega arith) (omega arith) k_in not_i)
                | inr a_not_above ↦ omega (arith, num_other old new i above s a a_not_i a_not_above, r.ordered a k b c k_in not_i)
              ]
            ]
      ];
    }

-- a number that is greater than one below it, the lesser one, goes down
pub sunk : (old new : List Numbered) (stands : List ℕ) (i below : ℕ) → IsSwapped old new i below → IsSinking old stands i → 2 * i < below → below ≤ 2 * i + 2 → below < length old → number_at old below < number_at old i → ((k : ℕ) → 2 * i < k → k ≤ 2 * i + 2 → k < length old → number_at old below ≤ number_at old k) → IsSinking new (set stands (place_at old below) i) below
sunk old new stands i below s r low high within less least =
    let o : IsOpen old stands i = r.open_at in
    let other : below ≢ i = λ e. omega arith in
    let at_i : number_at new i ≡ number_at old below = num_first old new i below s in
    let at_below : number_at new below ≡ number_at old i = num_second old new i below s in
    record {
      open_at = still_open old new i below s stands o within other (λ a k b c d e inside.
          (let same : a ≡ i = omega arith in
          omega (arith, ap (number_at new) same, num_other old new i below s k (λ e. omega arith) (λ e. omega arith), r.ordered below k d e (omega (arith, s.long)) other)));
      ordered = λ a k b c inside not_below. elim (cases_eq a i) [
        | inl is ↦ elim (cases_eq k below) [
          | inl k_is ↦ omega (arith, ap (number_at new) is, ap (number_at new) k_is)
          | inr k_not ↦ omega (arith, ap (number_at new) is, num_other old new i below s k (λ e. omega arith) k_not, least k (omega arith) (omega arith) (omega (arith, s.long)))
        ]
        | inr a_not ↦
            let a_is : number_at new a ≡ number_at old a = num_other old new i below s a a_not not_below in
            elim (cases_eq k i) [
              | inl is ↦ omega (arith, ap (number_at new) is, o.across a below (omega arith) (omega arith) low high within)
              | inr k_not ↦ omega (arith, num_other old new i below s k k_not (λ e. omega arith), r.ordered a k b c (omega (arith, s.long)) a_not)
            ]
      ];
    }

-- the first number is the least
pub least_first : (heap : List Numbered) → IsOrdered heap → (n i : ℕ) → i ≤ n → i < length heap → number_at heap 0 ≤ number_at heap i
least_first heap ordered zero i le within = let is : i ≡ 0 = omega arith in omega (arith, ap (number_at heap) is)
least_first heap ordered (suc n) i le within = elim (cases_eq i 0) [
  | inl is ↦ omega (arith, ap (number_at heap) is)
  | inr other ↦ omega (arith, least_first heap ordered n ((i - 1) / 2) (omega arith) (omega arith), ordered ((i - 1) / 2) i (omega arith) (omega arith) within)
]

pub same_through : (a b c : List Numbered) → SameNumbers a b → SameNumbers b c → SameNumbers a c
same_through a b c s t = record { on = λ p n at. t.on p n (s.on p n at); back = λ p n at. s.back p n (t.back p n at) }

-- how far a number has come on its way from an index: it stands in the hole as if it were written
-- there
pub record IsOnWay (Goes : List Numbered → List ℕ → ℕ → Type 0) (start heap : List Numbered) (stands : List ℕ) (hole : ℕ) (x : Numbered) : Type 0 where
  pub goes : Goes (set heap hole x) stands hole
  pub within : hole < length heap
  pub same : SameNumbers start (set heap hole x)

number_in : (heap : List Numbered) (hole : ℕ) (x : Numbered) → hole < length heap → number_at (set heap hole x) hole ≡ x.number
number_in heap hole x less = ap (λ (y : Numbered). y.number) (entry_set heap hole x less)

number_out : (heap : List Numbered) (hole : ℕ) (x : Numbered) (k : ℕ) → k ≢ hole → number_at (set heap hole x) k ≡ number_at heap k
number_out heap hole x k other = ap (λ (y : Numbered). y.number) (entry_other heap hole x k other)

-- one step up
pub rise_on : (start heap : List Numbered) (stands : List ℕ) (hole above : ℕ) (x other : Numbered) → IsOnWay IsRising start heap stands hole x → 2 * above < hole → hole ≤ 2 * above + 2 → x.number < number_at heap above → other ≡ entry_at heap above → IsOnWay IsRising start (set heap hole other) (set stands other.place hole) above x
rise_on start heap stands hole above x other w low high less is =
    let differs : above ≢ hole = λ e. omega arith in
    let in_heap : above < length heap = omega (arith, w.within) in
    let s : IsSwapped (set heap hole x) (set (set heap hole (entry_at heap above)) above x) hole above = swapped heap hole above x w.within in_heap (λ e. differs (sym e)) in
    let place : place_at (set heap hole x) above ≡ other.place = ap (λ (y : Numbered). y.place) (entry_other heap hole x above differs ∙ sym is) in
    let r : IsRising (set (set heap hole (entry_at heap above)) above x) (set stands (place_at (set heap hole x) above) hole) above = risen _ _ stands hole above s w.goes low high (omega (arith, number_in heap hole x w.within, number_out heap hole x above differs)) in
    let inside : hole < length (set heap hole x) = omega (arith, length-set heap hole x, w.within) in
    let inside_above : above < length (set heap hole x) = omega (arith, length-set heap hole x) in
    record {
      goes = subst (λ (y : Numbered). IsRising (set (set heap hole y) above x) (set stands other.place hole) above) (sym is) (subst (λ (p : ℕ). IsRising (set (set heap hole (entry_at heap above)) above x) (set stands p hole) above) place r);
      within = omega (arith, length-set heap hole other);
      same = subst (λ (y : Numbered). SameNumbers start (set (set heap hole y) above x)) (sym is) (same_through start (set heap hole x) _ w.same (swapped_same _ _ hole above s inside inside_above));
    }

-- one step down
pub sink_on : (start heap : List Numbered) (stands : List ℕ) (hole below : ℕ) (x other : Numbered) → IsOnWay IsSinking start heap stands hole x → 2 * hole < below → below ≤ 2 * hole + 2 → below < length heap → number_at heap below < x.number → ((k : ℕ) → 2 * hole < k → k ≤ 2 * hole + 2 → k < length heap → number_at heap below ≤ number_at heap k) → other ≡ entry_at heap below → IsOnWay IsSinking start (set heap hole other) (set stands other.place hole) below x
sink_on start heap stands hole below x other w low high in_heap less least is =
    let differs : below ≢ hole = λ e. omega arith in
    let s : IsSwapped (set heap hole x) (set (set heap hole (entry_at heap below)) below x) hole below = swapped heap hole below x w.within in_heap (λ e. differs (sym e)) in
    let place : place_at (set heap hole x) below ≡ other.place = ap (λ (y : Numbered). y.place) (entry_other heap hole x below differs ∙ sym is) in
    let inside : hole < length (set heap hole x) = omega (arith, length-set heap hole x, w.within) in
    let inside_below : below < length (set heap hole x) = omega (arith, length-set heap hole x) in
    let r : IsSinking (set (set heap hole (entry_at heap below)) below x) (set stands (place_at (set heap hole x) below) hole) below = sunk _ _ stands hole below s w.goes low high inside_below (omega (arith, number_in heap hole x w.within, number_out heap hole x below differs)) (λ k a b c. omega (arith, number_out heap hole x below differs, number_out heap hole x k (λ e. omega arith), least k a b (omega (arith, length-set heap hole x)))) in
    record {
      goes = subst (λ (y : Numbered). IsSinking (set (set heap hole y) below x) (set stands other.place hole) below) (sym is) (subst (λ (p : ℕ). IsSinking (set (set heap hole (entry_at heap below)) below x) (set stands p hole) below) place r);
      within = omega (arith, length-set heap hole other);
      same = subst (λ (y : Numbered). SameNumbers start (set (set heap hole y) below x)) (sym is) (same_through start (set heap hole x) _ w.same (swapped_same _ _ hole below s inside inside_below));
    }
