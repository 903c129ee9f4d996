-- The map of the cells: the place of each key.
use Rattle.std.proofs.Common.{◌≡◌, ◌≢◌, ◌⊎◌, inl, inr, ℕ, zero, suc, ◌+◌, true, false, cond, eqb, List, [], ◌∷◌, Option, Some, None, refl, sym, ap, subst, ◌∙◌, arith}
use Rattle.std.proofs.lemmas.Bool.{cases_eq, cond-true, cond-false, eq-eqb, ne_eqb}
use Rattle.std.specs.Ordering.{nat_cmp, eq_by_cmp}
use Rattle.std.specs.Cmp.{nat_cmp_total, unsigned_tied}
use Rattle.std.specs.FinMap.{FinMap, nat_cmp-IsAntisymmetric, same_map, get-empty, get-insert, get-remove}
use Rattle.std.specs.FinMap as map
use Rattle.linear_index.specs.declared.cell.Cell.{Cell}
use Rattle.linear_index.specs.Chains.{key_at, key_in}
use Rattle.linear_index.specs.Entered.{Entered, placed, with_key}

tied : (a b : ℕ) → a ≡ b → eq_by_cmp nat_cmp a b ≡ true
tied a b e = unsigned_tied a b ∙ eq-eqb a b e

untied : (a b : ℕ) → a ≢ b → eq_by_cmp nat_cmp a b ≡ false
untied a b h = unsigned_tied a b ∙ ne_eqb a b h

pub insert_same : (m : FinMap nat_cmp ℕ) (k v q : ℕ) → q ≡ k → map.get (map.insert m k v) q ≡ Some v
insert_same m k v q e = get-insert nat_cmp_total m k v q ∙ cond-true _ _ _ (tied q k e)

pub insert_other : (m : FinMap nat_cmp ℕ) (k v q : ℕ) → q ≢ k → map.get (map.insert m k v) q ≡ map.get m q
insert_other m k v q h = get-insert nat_cmp_total m k v q ∙ cond-false _ _ _ (untied q k h)

pub remove_same : (m : FinMap nat_cmp ℕ) (k q : ℕ) → q ≡ k → map.get (map.remove m k) q ≡ None
remove_same m k q e = get-remove nat_cmp_total m k q ∙ cond-true _ _ _ (tied q k e)

pub remove_other : (m : FinMap nat_cmp ℕ) (k q : ℕ) → q ≢ k → map.get (map.remove m k) q ≡ map.get m q
remove_other m k q h = get-remove nat_cmp_total m k q ∙ cond-false _ _ _ (untied q k h)

-- no key stands at two places
abbrev pub AreOnce : List Cell → Type 0
AreOnce cells = (p q k : ℕ) → key_at cells p ≡ Some k → key_at cells q ≡ Some k → p ≡ q

-- the map has the place of each key, and no others
pub record IsMapOf (cells : List Cell) (m : FinMap nat_cmp ℕ) : Type 0 where
  pub found : (k p : ℕ) → map.get m k ≡ Some p → key_at cells p ≡ Some k
  pub there : (k p : ℕ) → key_at cells p ≡ Some k → map.get m k ≡ Some p

-- two maps of the same cells are equal
pub one_map : (cells : List Cell) (m n : FinMap nat_cmp ℕ) → IsMapOf cells m → IsMapOf cells n → m ≡ n
one_map cells m n a b = same_map nat_cmp_total nat_cmp-IsAntisymmetric m n (λ k. by_places k (map.get m k) refl (map.get n k) refl) where
  by_places : (k : ℕ) (x : Option ℕ) → map.get m k ≡ x → (y : Option ℕ) → map.get n k ≡ y → map.get m k ≡ map.get n k
  by_places k (Some p) e y f = e ∙ sym (b.there k p (a.found k p e))
  by_places k None e (Some p) f = a.there k p (b.found k p f) ∙ sym f
  by_places k None e None f = e ∙ sym f

with_found : (m : FinMap nat_cmp ℕ) (o : Option ℕ) (i k p : ℕ) → map.get (with_key m o i) k ≡ Some p → ((o ≡ Some k) × (p ≡ i)) ⊎ (map.get m k ≡ Some p)
with_found m None i k p e = inr e
with_found m (Some key) i k p e = elim (cases_eq k key) [
  | inl same ↦ (let at : Some i ≡ Some p = sym (insert_same m key i k same) ∙ e in inl (ap Some (sym same), cc))
  | inr other ↦ inr (sym (insert_other m key i k other) ∙ e)
]

with_other : (m : FinMap nat_cmp ℕ) (o : Option ℕ) (i k : ℕ) → o ≢ Some k → map.get (with_key m o i) k ≡ map.get m k
with_other m None i k h = refl
with_other m (Some key) i k h = insert_other m key i k (λ e. h (ap Some (sym e)))

found_from : (i : ℕ) (cells : List Cell) (k p : ℕ) → map.get (placed i cells) k ≡ Some p → (j : ℕ) × (p ≡ i + j) × (key_at cells j ≡ Some k)
unfolding placed
found_from i [] k p e = (let none : map.get (map.empty {X = ℕ} {R = nat_cmp}) k ≡ None = get-empty nat_cmp k in let never : Some p ≡ None = sym e ∙ none in absurd (cc never))
found_from i (c ∷ cs) k p e = elim (with_found (placed (suc i) cs) (key_in c) i k p e) [
  | inl here ↦ (0, omega (arith, here.1), here.0)
  | inr later ↦ (let f = found_from (suc i) cs k p later in (suc f.0, omega (arith, f.1), f.2))
]

there_from : (i : ℕ) (cells : List Cell) → AreOnce cells → (j k : ℕ) → key_at cells j ≡ Some k → map.get (placed i cells) k ≡ Some (i + j)
unfolding placed
there_from i [] once j k e = absurd (cc e)
there_from i (c ∷ cs) once zero k e = subst (λ (o : Option ℕ). map.get (with_key (placed (suc i) cs) o i) k ≡ Some (i + 0)) (sym e) (insert_same (placed (suc i) cs) k i k refl ∙ ap Some (omega arith))
there_from i (c ∷ cs) once (suc j) k e =
    with_other (placed (suc i) cs) (key_in c) i k (λ here. absurd (omega (arith, once 0 (suc j) k here e)))
    ∙ there_from (suc i) cs (λ p q x a b. omega (arith, once (suc p) (suc q) x a b)) j k e
    ∙ ap Some (omega arith)

pub placed_is : (cells : List Cell) → AreOnce cells → IsMapOf cells (placed 0 cells)
placed_is cells once = record {
  found = λ k p e. (let f = found_from 0 cells k p e in let same : f.0 ≡ p = omega (arith, f.1) in subst (λ (n : ℕ). key_at cells n ≡ Some k) same f.2);
  there = λ k p e. there_from 0 cells once p k e ∙ ap Some (omega arith);
}

-- the map that a contract sees has the place of each key
pub known : (cells : List Cell) (room : ℕ) (e : Entered) → AreOnce cells → record { places = placed 0 cells; room = room } ≡ e → IsMapOf cells e.places
known cells room e once view = subst (IsMapOf cells) (ap (λ (x : Entered). x.places) view) (placed_is cells once)

-- the same keys, the same map
pub same_keys : (old new : List Cell) → AreOnce old → ((p : ℕ) → key_at new p ≡ key_at old p) → placed 0 new ≡ placed 0 old
same_keys old new once same =
    let m = placed_is old once in
    one_map new (placed 0 new) (placed 0 old)
    (placed_is new (λ p q k a b. once p q k (sym (same p) ∙ a) (sym (same q) ∙ b)))
    (record { found = λ k p e. same p ∙ m.found k p e; there = λ k p e. m.there k p (sym (same p) ∙ e) })

-- what a contract sees, of equal maps
pub same_entered : (m n : FinMap nat_cmp ℕ) (room other : ℕ) → m ≡ n → room ≡ other → ◌≡◌ {A = Entered} (record { places = m; room = room }) (record { places = n; room = other })
same_entered m n room other e f = ap (λ (x : FinMap nat_cmp ℕ). the_entered x room) e ∙ ap (the_entered n) f where
  the_entered : FinMap nat_cmp ℕ → ℕ → Entered
  the_entered x r = record { places = x; room = r }

-- a place at which no key of the map is has none
pub free_at : (cells : List Cell) (m : FinMap nat_cmp ℕ) (place : ℕ) → IsMapOf cells m → ((k : ℕ) → map.get m k ≢ Some place) → key_at cells place ≡ None
free_at cells m place is free = by_key (key_at cells place) refl where
  by_key : (o : Option ℕ) → key_at cells place ≡ o → key_at cells place ≡ None
  by_key None e = e
  by_key (Some k) e = absurd (free k (is.there k place e))

-- a key that the map hasn't is at no place
pub absent_at : (cells : List Cell) (m : FinMap nat_cmp ℕ) (key : ℕ) → IsMapOf cells m → map.get m key ≡ None → (p : ℕ) → key_at cells p ≢ Some key
absent_at cells m key is none p e = (let there : map.get m key ≡ Some p = is.there key p e in absurd (cc))

pub none_placed : (cells : List Cell) → cells ≡ [] → placed 0 cells ≡ map.empty
unfolding placed
none_placed cells e = ap (placed 0) e

-- a key more at a place that had none
pub once_more : (old new : List Cell) (key place : ℕ) → AreOnce old → ((p : ℕ) → key_at old p ≢ Some key) → ((p : ℕ) → key_at new p ≡ cond (eqb p place) (Some key) (key_at old p)) → AreOnce new
once_more old new key place once new_key is p q k a b = elim (cases_eq p place) [
  | inl at ↦ elim (cases_eq q place) [
    | inl also ↦ at ∙ sym also
    | inr other ↦ (let e : Some key ≡ Some k = sym (is p ∙ cond-true _ _ _ (eq-eqb p place at)) ∙ a in let f : key_at old q ≡ Some k = sym (is q ∙ cond-false _ _ _ (ne_eqb q place other)) ∙ b in absurd (new_key q (f ∙ sym e)))
  ]
  | inr other ↦ elim (cases_eq q place) [
    | inl at ↦ (let e : Some key ≡ Some k = sym (is q ∙ cond-true _ _ _ (eq-eqb q place at)) ∙ b in let f : key_at old p ≡ Some k = sym (is p ∙ cond-false _ _ _ (ne_eqb p place other)) ∙ a in absurd (new_key p (f ∙ sym e)))
    | inr also ↦ once p q k (sym (is p ∙ cond-false _ _ _ (ne_eqb p place other)) ∙ a) (sym (is q ∙ cond-false _ _ _ (ne_eqb q place also)) ∙ b)
  ]
]

pub inserted : (old new : List Cell) (key place : ℕ) (m : FinMap nat_cmp ℕ) → IsMapOf old m → key_at old place ≡ None → ((p : ℕ) → key_at old p ≢ Some key) → ((p : ℕ) → key_at new p ≡ cond (eqb p place) (Some key) (key_at old p)) → IsMapOf new (map.insert m key place)
inserted old new key place m is none new_key keys = record {
  found = λ k p e. elim (cases_eq k key) [
    | inl same ↦
        let at : Some place ≡ Some p = sym (insert_same m key place k same) ∙ e in
        let here : p ≡ place = cc in
        keys p ∙ cond-true _ _ _ (eq-eqb p place here) ∙ ap Some (sym same)
    | inr other ↦
        let before : key_at old p ≡ Some k = is.found k p (sym (insert_other m key place k other) ∙ e) in
        keys p ∙ cond-false _ _ _ (ne_eqb p place (λ same. (let n : key_at old p ≡ None = ap (key_at old) same ∙ none in absurd (cc)))) ∙ before
  ];
  there = λ k p e. elim (cases_eq p place) [
    | inl same ↦
        let at : Some key ≡ Some k = sym (keys p ∙ cond-true _ _ _ (eq-eqb p place same)) ∙ e in
        let here : k ≡ key = cc in
        insert_same m key place k here ∙ ap Some (sym same)
    | inr other ↦
        let before : key_at old p ≡ Some k = sym (keys p ∙ cond-false _ _ _ (ne_eqb p place other)) ∙ e in
        insert_other m key place k (λ same. new_key p (before ∙ ap Some same)) ∙ is.there k p before
  ];
}

pub removed : (old new : List Cell) (key place : ℕ) (m : FinMap nat_cmp ℕ) → IsMapOf old m → key_at old place ≡ Some key → ((p : ℕ) → key_at new p ≡ cond (eqb p place) None (key_at old p)) → IsMapOf new (map.remove m key)
removed old new key place m is at keys = record {
  found = λ k p e. elim (cases_eq k key) [
    | inl same ↦ (let none : map.get (map.remove m key) k ≡ None = remove_same m key k same in absurd (cc))
    | inr other ↦
        let before : key_at old p ≡ Some k = is.found k p (sym (remove_other m key k other) ∙ e) in
        keys p ∙ cond-false _ _ _ (ne_eqb p place (λ same. (let n : Some k ≡ Some key = sym before ∙ ap (key_at old) same ∙ at in other (cc)))) ∙ before
  ];
  there = λ k p e. elim (cases_eq p place) [
    | inl same ↦ (let none : key_at new p ≡ None = keys p ∙ cond-true _ _ _ (eq-eqb p place same) in absurd (cc))
    | inr other ↦
        let before : key_at old p ≡ Some k = sym (keys p ∙ cond-false _ _ _ (ne_eqb p place other)) ∙ e in
        remove_other m key k (λ same. other (let one : Some p ≡ Some place = sym (is.there k p before) ∙ is.there k place (at ∙ ap Some (sym same)) in cc)) ∙ is.there k p before
  ];
}

-- without a key no key stands at two places either
pub once_less : (old new : List Cell) (place : ℕ) → AreOnce old → ((p : ℕ) → key_at new p ≡ cond (eqb p place) None (key_at old p)) → AreOnce new
once_less old new place once keys p q k a b = once p q k (was p a) (was q b) where
  was : (r : ℕ) → key_at new r ≡ Some k → key_at old r ≡ Some k
  was r e = elim (cases_eq r place) [
    | inl same ↦ (let none : key_at new r ≡ None = keys r ∙ cond-true _ _ _ (eq-eqb r place same) in absurd (cc))
    | inr other ↦ sym (keys r ∙ cond-false _ _ _ (ne_eqb r place other)) ∙ e
  ]
