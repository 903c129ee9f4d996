-- The first stretch behind a number that is in none.
use Rattle.std.proofs.Common.{◌≡◌, ℕ, ◌+◌, ◌<◌, ◌≤◌, true, false, List, length, get_or, Some, None, sym, ap, subst, ◌∙◌, inl, inr, arith}
use Rattle.std.proofs.lemmas.Bool.{cases_Bool, cases_lt, false≢true}
use Rattle.stretches.specs.declared.says.Says.{Ghosts}
use Rattle.stretches.specs.declared.stretch.Stretch.{Stretch}
use Rattle.stretches.specs.Places.{IsFirstBehind}
use Rattle.stretches.specs.Stretch.{IsFit, is_in, value_at}
use Rattle.stretches.specs.Stretches.{AreInOrder, IsNextFrom, said}
use Rattle.stretches.proofs.Reading.Numbers.{any_default, none≢some, out_before, out_behind, within}
use Rattle.stretches.proofs.Reading.Order.{first_rises, fit_at}
use Rattle.stretches.proofs.Reading.Sayings.{said_at, said_none}

module _ {V : Type 0} (S : Ghosts V) (rs : List (Stretch V)) (order : AreInOrder S 0 rs) (n at : ℕ) (place : IsFirstBehind rs n at) (none : said S rs n ≡ None) where
  -- no stretch has the number
  out_of_all : (k : ℕ) (d : Stretch V) → k < length rs → is_in (get_or rs k d) n ≡ false
  out_of_all k d less = elim (cases_Bool (is_in (get_or rs k d) n)) [
    | inl has ↦ absurd (none≢some _ (sym none ∙ said_at S 0 rs order k d n less has))
    | inr out ↦ out
  ]

  -- so those that begin before it end there or before it
  ends_before : (k : ℕ) (d : Stretch V) → k < at → (get_or rs k d).first + (get_or rs k d).count ≤ n
  ends_before k d less = elim (cases_lt n ((get_or rs k d).first + (get_or rs k d).count)) [
    | inl inside ↦ absurd (false≢true (sym (out_of_all k d (omega (arith, less, place.within))) ∙ within (get_or rs k d) n (place.before k d less) inside))
    | inr past ↦ past
  ]

  -- nothing is said from the number up to the next stretch
  none_between : (m : ℕ) → n ≤ m → ((k : ℕ) (d : Stretch V) → at ≤ k → k < length rs → m < (get_or rs k d).first) → said S rs m ≡ None
  none_between m from to = said_none S rs m (λ k d less. elim (cases_lt k at) [
    | inl before ↦ out_behind (get_or rs k d) m (omega (arith, ends_before k d before, from))
    | inr behind ↦ out_before (get_or rs k d) m (to k d behind less)
  ])

  pub next_behind : (r : Stretch V) → at < length rs → r ≡ get_or rs at r → IsNextFrom S rs n r
  next_behind r less is =
      let here : n < r.first = subst (λ (q : Stretch V). n < q.first) (sym is) (place.behind at r (omega arith) less) in
      record {
        from = omega (arith, here);
        none = λ m from to. none_between m from (λ k d le within.
            let rises : (get_or rs at d).first ≤ (get_or rs k d).first = first_rises S 0 rs order at k d le within in
            let first : r.first ≡ (get_or rs at d).first = ap (λ (q : Stretch V). q.first) (is ∙ any_default rs at r d less) in
            omega (arith, rises, first, to));
        fit = subst (IsFit S) (sym is) (fit_at S 0 rs order at r less);
        said = λ m h. subst (λ (q : Stretch V). is_in q m ≡ true → said S rs m ≡ Some (value_at S q m)) (sym is) (said_at S 0 rs order at r m less) h;
      }

  pub none_behind : length rs ≤ at → (m : ℕ) → n ≤ m → said S rs m ≡ None
  none_behind all m from = none_between m from (λ k d le less. absurd (omega arith))
