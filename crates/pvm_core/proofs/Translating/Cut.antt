-- What becomes of a region where it is cut in two, allows something else, or is locked.
use Rattle.std.proofs.Common.{◌≡◌, ℕ, ◌+◌, ◌-◌, ◌*◌, ◌/◌, ◌<◌, ◌≤◌, Bool, true, false, cond, [], ◌∷◌, Option, Some, None, refl, sym, ap, ◌∙◌, inl, inr, arith}
use Rattle.std.proofs.Math.Nat.{mul-add, mul-add-div}
use Rattle.std.proofs.lemmas.Bool.{cases_lt}
use Rattle.vm_ids.specs.declared.command.Prot.{Prot}
use Rattle.vm_model.specs.Machine.{Region}
use Rattle.vm_model.specs.Place.{holds, region_at}
use Rattle.vm_model.specs.Regions.{back_of, split_at, with_prot}
use Rattle.pvm_core.proofs.Translating.Held.{held_from, held_not, held_parts}
use Rattle.pvm_core.proofs.Translating.Places.{Shows}
use Rattle.pvm_core.proofs.Translating.Regions.{Becomes}

module _ (b address : ℕ) (writable : Bool) (r : Region) where
  abbrev one : Region → Option Region
  one q = region_at b address (q ∷ [])

  alone : (q : Region) → holds b address q ≡ true → one q ≡ Some q
  alone q k = ap (λ (c : Bool). cond c (Some q) None) k

  none : (q : Region) → holds b address q ≡ false → one q ≡ None
  none q k = ap (λ (c : Bool). cond c (Some q) None) k

  -- it allows something else, and as much where that matters
  pub prot_becomes : (prot : Prot) → (holds b address r ≡ true → writable ≡ true → prot.write ≡ true) → Becomes b address writable r (with_prot prot r)
  prot_becomes prot allows = record {
    holding = λ k. (record r { may_write = prot.write }, alone (record r { may_write = prot.write }) k, record { cache = refl; page = refl; allowed = λ w may. allows k w });
    other = λ k. none (record r { may_write = prot.write }) k;
  }

  -- it keeps its first pages, and another region has those behind them
  module _ (pages number : ℕ) (some : 1 ≤ b) (fewer : pages < r.pages) where
    abbrev front : Region
    front = record r { pages = pages }

    abbrev back : Region
    back = back_of b pages number r

    both : b * pages + b * (r.pages - pages) ≡ b * r.pages
    both = sym (mul-add b pages (r.pages - pages)) ∙ ap (λ (k : ℕ). b * k) (omega (arith, fewer))

    behind : holds b address front ≡ false → region_at b address (front ∷ back ∷ []) ≡ one back
    behind k = ap (λ (c : Bool). cond c (Some front) (one back)) k

    pages_behind : r.start + b * pages ≤ address → r.offset + pages + (address - (r.start + b * pages)) / b ≡ r.offset + (address - r.start) / b
    pages_behind low =
        let rest : ℕ = address - (r.start + b * pages) in
        let far : address - r.start ≡ b * pages + rest = omega (arith, low) in
        let parts : (b * pages + rest) / b ≡ pages + rest / b = mul-add-div (omega (arith, some)) pages rest in
        omega (arith, ap (λ (k : ℕ). k / b) far, parts)

    pub split_becomes : Becomes b address writable r (split_at b pages number r)
    split_becomes = record { holding = held_in_one; other = held_in_none }
      where
        held_in_one : holds b address r ≡ true → (q : Region) × (region_at b address (front ∷ back ∷ []) ≡ Some q) × Shows b address writable r q
        held_in_one k =
            let held = held_parts b address r k in
            elim (cases_lt address (r.start + b * pages)) [
              | inl low ↦ (front, ap (λ (c : Bool). cond c (Some front) (one back)) (held_from b address front held.0 low), record { cache = refl; page = refl; allowed = λ w may. may })
              | inr high ↦ (
                back,
                behind (held_not b address front (λ x y. omega (arith, high, y))) ∙ alone back (held_from b address back high (omega (arith, held, both))),
                record { cache = refl; page = pages_behind high; allowed = λ w may. may },
              )
            ]

        held_in_none : holds b address r ≡ false → region_at b address (front ∷ back ∷ []) ≡ None
        held_in_none k =
            behind (held_not b address front (λ x y. clash (held_from b address r x (omega (arith, y, both)))))
            ∙ none back (held_not b address back (λ x y. clash (held_from b address r (omega (arith, x)) (omega (arith, y, both)))))
          where
            clash : holds b address r ≡ true → ⊥
            clash held = absurd (cc (held, k))
