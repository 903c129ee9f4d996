-- Machines without the caches of some segments.
use Rattle.std.proofs.Common.{◌≡◌, ◌==◌, ℕ, zero, suc, ◌+◌, Bool, true, false, cond, List, [], ◌∷◌, ◌++◌, set, map, drop, take, Option, Some, None, refl, sym, ap, ◌∙◌, arith, inl, inr}
use Rattle.std.specs.Prelude.{◌||◌, slice_get}
use Rattle.std.specs.List.{list_any}
use Rattle.std.specs.Option.{option_map_or}
use Rattle.std.proofs.lemmas.Bool.{cases_eq, eq-eqb, ne_eqb}
use Rattle.std.proofs.lemmas.List.Folds.{list_any-append}
use Rattle.interface_callers.proofs.Words.{Cache, Machine, is_named_by}
use Rattle.seg_manager.specs.Keeping.{but_for, is_of_any, without}
use Rattle.seg_manager.proofs.Seeing.WhichGo.{Caches}

-- without those of no segment

any_none : (c : Cache) → is_of_any [] c ≡ false
any_none c = by c.segment
  where
    by : (o : Option ℕ) → option_map_or (λ seg. list_any (λ (s : ℕ). s == seg) []) o false ≡ false
    by None = refl
    by (Some seg) = refl

but_none : (o : Option Cache) → but_for [] o ≡ o
but_none None = refl
but_none (Some c) = ap (λ (b : Bool). cond b None (Some c)) (any_none c)

all_there : (cs : Caches) → map (but_for []) cs ≡ cs
all_there [] = refl
all_there (c ∷ cs) = λ i. but_none c i ∷ all_there cs i

pub without_none : (m : Machine) → without [] m ≡ m
without_none m = λ i. record m { caches = all_there m.caches i }

-- without those of some, and then of others

module _ (a b : List ℕ) where
  either : (c : Cache) → is_of_any (a ++ b) c ≡ (is_of_any a c || is_of_any b c)
  either c = by c.segment
    where
      by : (o : Option ℕ) → option_map_or (λ seg. list_any (λ (s : ℕ). s == seg) (a ++ b)) o false ≡ (option_map_or (λ seg. list_any (λ (s : ℕ). s == seg) a) o false || option_map_or (λ seg. list_any (λ (s : ℕ). s == seg) b) o false)
      by None = refl
      by (Some seg) = list_any-append (λ (s : ℕ). s == seg) a b

  but_both : (o : Option Cache) → but_for b (but_for a o) ≡ but_for (a ++ b) o
  but_both None = refl
  but_both (Some c) = by (is_of_any a c) ∙ sym (ap (λ (x : Bool). cond x None (Some c)) (either c))
    where
      by : (x : Bool) → but_for b (cond x None (Some c)) ≡ cond (x || is_of_any b c) None (Some c)
      by true = refl
      by false = refl

  all_both : (cs : Caches) → map (but_for b) (map (but_for a) cs) ≡ map (but_for (a ++ b)) cs
  all_both [] = refl
  all_both (c ∷ cs) = λ i. but_both c i ∷ all_both cs i

  pub without_both : (m : Machine) → without b (without a m) ≡ without (a ++ b) m
  without_both m = λ i. record m { caches = all_both m.caches i }

pub take_more : {A : Type 0} (i j : ℕ) (xs : List A) → take (i + j) xs ≡ take i xs ++ take j (drop i xs)
take_more zero j xs = ap (λ (n : ℕ). take n xs) (let s : zero + j ≡ j = omega arith in s)
take_more (suc i) j [] = nil (suc i + j) ∙ sym (nil j)
  where
    nil : {A : Type 0} (n : ℕ) → take n (let xs : List A = [] in xs) ≡ []
    nil zero = refl
    nil (suc n) = refl
take_more (suc i) j (x ∷ xs) = ap (λ (n : ℕ). take n (x ∷ xs)) (let s : suc i + j ≡ suc (i + j) = omega arith in s) ∙ ap (λ (ys : List _). x ∷ ys) (take_more i j xs)

-- without the one cache of a segment

module _ (seg : ℕ) where
  one_named : (c : Cache) → is_of_any (seg ∷ []) c ≡ is_named_by seg (Some c)
  one_named c = by c.segment
    where
      by : (o : Option ℕ) → option_map_or (λ x. list_any (λ (s : ℕ). s == x) (seg ∷ [])) o false ≡ option_map_or (λ s. s == seg) o false
      by None = refl
      by (Some x) = elim (cases_eq x seg) [
        | inl e ↦ ap (λ (b : Bool). b || false) (eq-eqb seg x (sym e)) ∙ sym (eq-eqb x seg e)
        | inr other ↦ ap (λ (b : Bool). b || false) (ne_eqb seg x (λ e. other (sym e))) ∙ sym (ne_eqb x seg other)
      ]

  stays : (o : Option Cache) → ((d : Cache) → o ≡ Some d → is_named_by seg (Some d) ≡ true → ⊥) → but_for (seg ∷ []) o ≡ o
  stays None none = refl
  stays (Some d) none = ap (λ (b : Bool). cond b None (Some d)) (one_named d ∙ by (is_named_by seg (Some d)) refl)
    where
      by : (b : Bool) → is_named_by seg (Some d) ≡ b → b ≡ false
      by true e = absurd (none d refl e)
      by false e = refl

  others : (cs : Caches) → ((j : ℕ) (d : Cache) → slice_get cs j ≡ Some (Some d) → is_named_by seg (Some d) ≡ true → ⊥) → map (but_for (seg ∷ [])) cs ≡ cs
  others [] none = refl
  others (o ∷ cs) none =
      let here = stays o (λ d e f. none 0 d (ap (λ (x : Option Cache). Some x) e) f) in
      let rest = others cs (λ j d e f. none (suc j) d e f) in
      λ i. here i ∷ rest i

  pub gone_one : (cs : Caches) (i : ℕ) (c : Cache) → slice_get cs i ≡ Some (Some c) → is_named_by seg (Some c) ≡ true → ((j : ℕ) (d : Cache) → slice_get cs j ≡ Some (Some d) → is_named_by seg (Some d) ≡ true → j ≡ i) → map (but_for (seg ∷ [])) cs ≡ set cs i None
  gone_one [] i c there named only = absurd (cc there)
  gone_one (o ∷ cs) zero c there named only =
      let is : o ≡ Some c = cc there in
      let here = ap (but_for (seg ∷ [])) is ∙ ap (λ (b : Bool). cond b None (Some c)) (one_named c ∙ named) in
      let rest = others cs (λ j d e f. absurd (let wrong : suc j ≡ 0 = only (suc j) d e f in omega (arith, wrong))) in
      λ k. here k ∷ rest k
  gone_one (o ∷ cs) (suc i) c there named only =
      let here = stays o (λ d e f. absurd (let wrong : 0 ≡ suc i = only 0 d (ap (λ (x : Option Cache). Some x) e) f in omega (arith, wrong))) in
      let rest = gone_one cs i c there named (λ j d e f. (let s : suc j ≡ suc i = only (suc j) d e f in omega (arith, s))) in
      λ k. here k ∷ rest k
