-- A stretch of a list in two.
use Rattle.std.proofs.Common.{◌≡◌, ℕ, zero, suc, ◌+◌, ◌-◌, ◌<◌, ◌≤◌, List, [], ◌∷◌, length, get_or, set, refl, sym, ap, subst, ◌∙◌, arith}
use Rattle.std.specs.List.{insert}
use Rattle.stretches.specs.declared.says.Says.{Ghosts}
use Rattle.stretches.specs.declared.stretch.Stretch.{Stretch}
use Rattle.stretches.specs.GoingOn.{GoesOn}
use Rattle.stretches.specs.Stretch.{behind, front}
use Rattle.stretches.specs.Stretches.{AreInOrder, BeginsAt, number_count, said}
use Rattle.stretches.proofs.Reading.Sayings.{same_rest}
use Rattle.stretches.proofs.Changes.Parts.{fit_behind, fit_front, two_say}

module _ {V : Type 0} (S : Ghosts V) where
  -- the list with the stretch at a place in two, the first part of so many numbers
  abbrev pub parted : List (Stretch V) → ℕ → Stretch V → ℕ → List (Stretch V)
  parted rs at r a = insert (set rs at (front r a)) (suc at) (behind S r a)

  -- the two parts stand at the place and behind it
  pub front_parted : (rs : List (Stretch V)) (at a : ℕ) (r : Stretch V) → at < length rs → (d : Stretch V) → get_or (parted rs at r a) at d ≡ front r a
  front_parted [] at a r less d = absurd (omega arith)
  front_parted (x ∷ rs) zero a r less d = refl
  front_parted (x ∷ rs) (suc at) a r less d = front_parted rs at a r (omega arith) d

  pub behind_parted : (rs : List (Stretch V)) (at a : ℕ) (r : Stretch V) → at < length rs → (d : Stretch V) → get_or (parted rs at r a) (suc at) d ≡ behind S r a
  behind_parted [] at a r less d = absurd (omega arith)
  behind_parted (x ∷ rs) zero a r less d = refl
  behind_parted (x ∷ rs) (suc at) a r less d = behind_parted rs at a r (omega arith) d

  length_parted : (rs : List (Stretch V)) (at a : ℕ) (r : Stretch V) → at < length rs → suc at < length (parted rs at r a)
  length_parted [] at a r less = absurd (omega arith)
  length_parted (x ∷ rs) zero a r less = omega arith
  length_parted (x ∷ rs) (suc at) a r less = omega (arith, length_parted rs at a r (omega arith))

  -- the second part begins where it is to
  pub begins_parted : (rs : List (Stretch V)) (at a : ℕ) (r : Stretch V) → at < length rs → BeginsAt (parted rs at r a) (r.first + a)
  begins_parted rs at a r less = record {
    at = suc at;
    within = length_parted rs at a r less;
    begins = λ d. ap (λ (q : Stretch V). q.first) (behind_parted rs at a r less d);
  }

  pub count_parted : (rs : List (Stretch V)) (at a : ℕ) (r : Stretch V) → at < length rs → get_or rs at r ≡ r → a ≤ r.count → number_count (parted rs at r a) ≡ number_count rs
  count_parted [] at a r less is le = absurd (omega arith)
  count_parted (x ∷ rs) zero a r less is le = let e : x.count ≡ r.count = ap (λ (q : Stretch V). q.count) is in omega arith
  count_parted (x ∷ rs) (suc at) a r less is le = ap (λ (k : ℕ). x.count + k) (count_parted rs at a r (omega arith) is le)

module _ {V : Type 0} (S : Ghosts V) (laws : GoesOn S.after S.lasts) where
  pub said_parted : (rs : List (Stretch V)) (at a : ℕ) (r : Stretch V) → at < length rs → get_or rs at r ≡ r → a ≤ r.count → (n : ℕ) → said S (parted S rs at r a) n ≡ said S rs n
  said_parted [] at a r less is le n = absurd (omega arith)
  said_parted (x ∷ rs) zero a r less is le n = two_say S laws r rs a le n ∙ ap (λ (q : Stretch V). said S (q ∷ rs) n) (sym is)
  said_parted (x ∷ rs) (suc at) a r less is le n = same_rest S x rs (parted S rs at r a) n (said_parted rs at a r (omega arith) is le n)

  pub order_parted : (from : ℕ) (rs : List (Stretch V)) (at a : ℕ) (r : Stretch V) → AreInOrder S from rs → at < length rs → get_or rs at r ≡ r → 0 < a → a < r.count → AreInOrder S from (parted S rs at r a)
  order_parted from [] at a r order less is some part = absurd (omega arith)
  order_parted from (x ∷ rs) zero a r order less is some part =
      let ordered : AreInOrder S from (r ∷ rs) = subst (λ (q : Stretch V). AreInOrder S from (q ∷ rs)) is order in
      let end : r.first + a + (r.count - a) ≡ r.first + r.count = omega arith in
      (ordered.0, fit_front S laws r a some (omega arith) ordered.1, (omega arith, fit_behind S laws r a part ordered.1, subst (λ (k : ℕ). AreInOrder S k rs) (sym end) ordered.2))
  order_parted from (x ∷ rs) (suc at) a r order less is some part = (order.0, order.1, order_parted (x.first + x.count) rs at a r order.2 (omega arith) is some part)
