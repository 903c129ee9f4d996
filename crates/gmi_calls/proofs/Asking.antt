-- A mapper is asked for write access, page after page.
use Rattle.std.proofs.Common.{◌≡◌, ℕ, ◌+◌, ◌<◌, ◌≤◌, Bool, true, false, Option, Some, None, refl, sym, ap, ◌∙◌, arith, inl, inr}
use Rattle.std.specs.Prelude.{IfSome, not}
use Rattle.std.specs.List.{list_any, range_with_len}
use Rattle.std.proofs.lemmas.Bool.{cases_eq}
use Rattle.std.proofs.lemmas.List.FromFn.{get_or-range_with_len, length-range_with_len}
use Rattle.std.proofs.lemmas.List.Folds.{list_any_at, list_any_none}
use Rattle.vm_ids.specs.Denying.{denies}
use Rattle.vm_ids.specs.Held.{Held}

-- the mapper denies none of these pages of the segment
abbrev pub NoneDenied : Option Held → ℕ → ℕ → ℕ → Type 0
NoneDenied told seg first past = IfSome told (λ h. (q : ℕ) → first ≤ q → q < past → denies h.denied seg q ≡ false)

pub none_yet : (told : Option Held) (seg first past : ℕ) → past ≤ first → NoneDenied told seg first past
none_yet None seg first past ends = tt
none_yet (Some h) seg first past ends = λ q from below. absurd (omega (arith, ends, from, below))

pub granted_is : (may denied : Bool) → may ≡ true → may ≡ not denied → denied ≡ false
granted_is true true t e = absurd (cc e)
granted_is true false t e = refl
granted_is false denied t e = absurd (cc t)

pub denied_is : (may denied : Bool) → may ≡ false → may ≡ not denied → denied ≡ true
denied_is false true f e = refl
denied_is false false f e = absurd (cc e)
denied_is true denied f e = absurd (cc f)

-- one more
pub none_more : (told now : Option Held) (seg first page next : ℕ) (may : Bool) → now ≡ told → next ≡ page + 1 → may ≡ true → IfSome now (λ h. may ≡ not (denies h.denied seg page)) → NoneDenied told seg first page → NoneDenied told seg first next
none_more None now seg first page next may same step granted asked before = tt
none_more (Some h) None seg first page next may same step granted asked before = absurd (cc same)
none_more (Some h) (Some k) seg first page next may same step granted asked before = λ q from below. elim (cases_eq q page) [
  | inl this ↦ ap (denies h.denied seg) this ∙ (let e : k ≡ h = cc same in ap (λ (x : Held). denies x.denied seg page) (sym e)) ∙ granted_is may (denies k.denied seg page) granted asked
  | inr other ↦ before q from (omega (arith, below, other, step))
]

-- so many were asked for
pub may_all : (told : Option Held) (seg first pages : ℕ) → NoneDenied told seg first (first + pages) → IfSome told (λ h. true ≡ not (list_any (denies h.denied seg) (range_with_len first pages)))
may_all None seg first pages none = tt
may_all (Some h) seg first pages none =
    ap not (sym (list_any_none (denies h.denied seg) (range_with_len first pages) (λ i d less.
    let small : i < pages = omega (arith, less, length-range_with_len first pages) in
    ap (denies h.denied seg) (get_or-range_with_len first pages i d small) ∙ none (first + i) (omega arith) (omega (arith, small)))))

pub denies_one : (told now : Option Held) (seg first pages i : ℕ) (may : Bool) → now ≡ told → i < pages → may ≡ false → IfSome now (λ h. may ≡ not (denies h.denied seg (first + i)))
    → IfSome told (λ h. false ≡ not (list_any (denies h.denied seg) (range_with_len first pages)))
denies_one None now seg first pages i may same small denied asked = tt
denies_one (Some h) None seg first pages i may same small denied asked = absurd (cc same)
denies_one (Some h) (Some k) seg first pages i may same small denied asked =
    let e : k ≡ h = cc same in
    ap not (sym (list_any_at (denies h.denied seg) (range_with_len first pages) i 0 (omega (arith, small, length-range_with_len first pages))
    (ap (denies h.denied seg) (get_or-range_with_len first pages i 0 small) ∙ ap (λ (x : Held). denies x.denied seg (first + i)) (sym e) ∙ denied_is may (denies k.denied seg (first + i)) denied asked)))

-- where all were asked for
pub all_asked : (told : Option Held) (seg first pages asked : ℕ) → pages ≤ asked → NoneDenied told seg first (first + asked) → NoneDenied told seg first (first + pages)
all_asked None seg first pages asked past none = tt
all_asked (Some h) seg first pages asked past none = λ q from below. none q from (omega (arith, below, past))
