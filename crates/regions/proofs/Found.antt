-- The region with a number.
use Rattle.std.proofs.Common.{◌≡◌, ◌≢◌, ◌==◌, ℕ, zero, suc, ◌+◌, ◌-◌, ◌<◌, ◌≤◌, Bool, true, false, cond, not, List, [], ◌∷◌, ◌++◌, length, get_or, set, map, Option, Some, None, refl, sym, ap, inl, inr, subst, ◌∙◌, arith}
use Rattle.std.specs.Prelude.{insert, IsSome, MatchOption}
use Rattle.std.specs.List.{remove}
use Rattle.std.proofs.lemmas.Bool.{cases_lt}
use Rattle.std.proofs.lemmas.List.{get_or-map, get_or_default, length-map}
use Rattle.std.proofs.lemmas.Bool.Decides.{nat_tests}
use Rattle.vm_model.specs.Machine as model
use Rattle.vm_model.specs.Answering.{without_region}
use Rattle.vm_model.specs.Regions.{region_among, replace_region}
use Rattle.regions.specs.AddressSpace.{AreInOrder, StartsAt, end_of}
use Rattle.regions.specs.Seen.{region_seen, number_at, IsPlaceOf}
use Rattle.regions.specs.declared.region.Region.{Region}
use Rattle.regions.proofs.Ordered.{some_bytes, start_at, start_from, IsCountUpTo}

is_same : (a b : ℕ) → a ≡ b → (a == b) ≡ true
is_same a b e = grind (arith, nat_tests)

is_other : (a b : ℕ) → a ≢ b → (a == b) ≡ false
is_other a b ne = grind (arith, nat_tests)

tail_place : (n : ℕ) (r : Region) (rs : List Region) (k : ℕ) → IsPlaceOf n (r ∷ rs) (suc k) → IsPlaceOf n rs k
tail_place n r rs k p = record {
  within = omega (arith, p.within);
  here = λ d. p.here d;
  others = λ j d w apart. p.others (suc j) d (omega (arith, w)) (λ e. apart (omega (arith, e)));
}

among_hit : (n : ℕ) (r : model.Region) (rs : model.Actor) → r.number ≡ n → region_among n (r ∷ rs) ≡ Some r
among_hit n r rs e = ap (λ (c : Bool). cond c (Some r) (region_among n rs)) (is_same r.number n e)

among_miss : (n : ℕ) (r : model.Region) (rs : model.Actor) → r.number ≢ n → region_among n (r ∷ rs) ≡ region_among n rs
among_miss n r rs ne = ap (λ (c : Bool). cond c (Some r) (region_among n rs)) (is_other r.number n ne)

pub among_found : (n : ℕ) (rs : List Region) (k : ℕ) (d : Region) → IsPlaceOf n rs k → region_among n (map region_seen rs) ≡ Some (region_seen (get_or rs k d))
among_found n [] k d p = absurd (omega (arith, p.within))
among_found n (r ∷ rs) zero d p = among_hit n (region_seen r) (map region_seen rs) (p.here r)
among_found n (r ∷ rs) (suc k) d p =
    among_miss n (region_seen r) (map region_seen rs) (p.others 0 r (omega arith) (λ e. absurd (omega (arith, e)))) ∙ among_found n rs k d (tail_place n r rs k p)

pub among_none : (n : ℕ) (rs : List Region) → ((k : ℕ) (d : Region) → k < length rs → number_at rs k d ≢ n) → region_among n (map region_seen rs) ≡ None
among_none n [] none = refl
among_none n (r ∷ rs) none =
    among_miss n (region_seen r) (map region_seen rs) (none 0 r (omega arith))
    ∙ among_none n rs (λ k d h. none (suc k) d (omega (arith, h)))

module _ (n : ℕ) (by : model.Region → List model.Region) where
  hit : (r : model.Region) (rs : model.Actor) → r.number ≡ n → replace_region n by (r ∷ rs) ≡ by r ++ rs
  hit r rs e = ap (λ (c : Bool). cond c (by r ++ rs) (r ∷ replace_region n by rs)) (is_same r.number n e)

  miss : (r : model.Region) (rs : model.Actor) → r.number ≢ n → replace_region n by (r ∷ rs) ≡ r ∷ replace_region n by rs
  miss r rs ne = ap (λ (c : Bool). cond c (by r ++ rs) (r ∷ replace_region n by rs)) (is_other r.number n ne)

  -- it becomes one
  pub one_instead : (rs : List Region) (k : ℕ) (d x : Region) → IsPlaceOf n rs k → by (region_seen (get_or rs k d)) ≡ region_seen x ∷ []
      → replace_region n by (map region_seen rs) ≡ map region_seen (set rs k x)
  one_instead [] k d x p e = absurd (omega (arith, p.within))
  one_instead (r ∷ rs) zero d x p e =
      hit (region_seen r) (map region_seen rs) (p.here r) ∙ ap (λ (ys : List model.Region). ys ++ map region_seen rs) e
  one_instead (r ∷ rs) (suc k) d x p e =
      miss (region_seen r) (map region_seen rs) (p.others 0 r (omega arith) (λ e. absurd (omega (arith, e))))
      ∙ ap (λ (ys : model.Actor). region_seen r ∷ ys) (one_instead rs k d x (tail_place n r rs k p) e)

  -- it becomes two
  pub two_instead : (rs : List Region) (k : ℕ) (d x y : Region) → IsPlaceOf n rs k → by (region_seen (get_or rs k d)) ≡ region_seen x ∷ region_seen y ∷ []
      → replace_region n by (map region_seen rs) ≡ map region_seen (insert (set rs k x) (suc k) y)
  two_instead [] k d x y p e = absurd (omega (arith, p.within))
  two_instead (r ∷ rs) zero d x y p e =
      hit (region_seen r) (map region_seen rs) (p.here r) ∙ ap (λ (ys : List model.Region). ys ++ map region_seen rs) e
  two_instead (r ∷ rs) (suc k) d x y p e =
      miss (region_seen r) (map region_seen rs) (p.others 0 r (omega arith) (λ e. absurd (omega (arith, e))))
      ∙ ap (λ (ys : model.Actor). region_seen r ∷ ys) (two_instead rs k d x y (tail_place n r rs k p) e)

-- Where it starts

-- each starts behind those in front of it
starts_apart : (b from : ℕ) (rs : List Region) → 1 ≤ b → AreInOrder b from (map region_seen rs) → (j k : ℕ) (d : Region) → j < k → k < length rs → start_at rs j d < start_at rs k d
starts_apart b from [] one o j k d below within = absurd (omega (arith, within))
starts_apart b from (r ∷ rs) one o j zero d below within = absurd (omega (arith, below))
starts_apart b from (r ∷ rs) one o zero (suc k) d below within =
    omega (arith, start_from b (end_of b (region_seen r)) rs o.2 k d (omega (arith, within)), some_bytes b (region_seen r).pages one o.1.some)
starts_apart b from (r ∷ rs) one o (suc j) (suc k) d below within =
    starts_apart b (end_of b (region_seen r)) rs one o.2 j k d (omega (arith, below)) (omega (arith, within))

module _ (b n start : ℕ) (rs : List Region) (count : ℕ) (one : 1 ≤ b) (o : AreInOrder b 0 (map region_seen rs)) (at : StartsAt n start (map region_seen rs)) (c : IsCountUpTo start rs count) where
  starts : (k : ℕ) (d : Region) → k < length rs → number_at rs k d ≡ n → start_at rs k d ≡ start
  starts k d within e =
      let seen : get_or (map region_seen rs) k (region_seen d) ≡ region_seen (get_or rs k d) = get_or-map region_seen rs k d (region_seen d) within in
      subst (λ (x : model.Region). x.number ≡ n → x.start ≡ start) seen (at k (region_seen d) (omega (arith, within, length-map rs region_seen))) e

  -- one that starts there is the last that starts up to there
  is_last : (k : ℕ) (d : Region) → k < length rs → number_at rs k d ≡ n → suc k ≡ count
  is_last k d within e =
      let here = starts k d within e in
      elim (cases_lt k count) [
        | inl below ↦ (
            elim (cases_lt (suc k) count) [
              | inl more ↦ absurd (omega (arith, here, starts_apart b 0 rs one o k (count - 1) d (omega (arith, more)) (omega (arith, c.within, more)), c.before (count - 1) d (omega (arith, more))))
              | inr same ↦ omega (arith, below, same)
            ])
        | inr past ↦ absurd (omega (arith, here, c.behind k d past within))
      ]

  -- where none starts up to there, none has the number
  pub none_starts : count ≡ 0 → (k : ℕ) (d : Region) → k < length rs → number_at rs k d ≢ n
  none_starts none k d within = λ e. absurd (omega (arith, none, is_last k d within e))

  -- nor where the last of these has another
  pub last_other : (l : ℕ) (d : Region) → l + 1 ≡ count → number_at rs l d ≢ n → (k : ℕ) (e : Region) → k < length rs → number_at rs k e ≢ n
  last_other l d next other k e within = λ is.
      let place : k ≡ l = omega (arith, is_last k e within is, next) in
      absurd (other (ap (λ (j : ℕ). number_at rs j d) (sym place) ∙ ap (λ (r : Region). r.number.0) (get_or_default rs k d e within) ∙ is))

  -- else it is the one
  pub last_is : (l : ℕ) (d : Region) → l + 1 ≡ count → number_at rs l d ≡ n → IsPlaceOf n rs l
  last_is l d next is = record {
    within = omega (arith, c.within, next);
    here = λ e. ap (λ (r : Region). r.number.0) (get_or_default rs l e d (omega (arith, c.within, next))) ∙ is;
    others = λ k e within apart. λ same. absurd (apart (omega (arith, is_last k e within same, next)));
  }

keeps : (n : ℕ) (x : model.Region) (xs : model.Actor) → x.number ≢ n → without_region n (x ∷ xs) ≡ x ∷ without_region n xs
keeps n x xs ne = ap (λ (c : Bool). cond (not c) (x ∷ without_region n xs) (without_region n xs)) (is_other x.number n ne)

-- where none has the number, none goes
pub stays : (n : ℕ) (rs : List Region) → ((k : ℕ) (d : Region) → k < length rs → number_at rs k d ≢ n) → without_region n (map region_seen rs) ≡ map region_seen rs
stays n [] none = refl
stays n (r ∷ rs) none =
    keeps n (region_seen r) (map region_seen rs) (none 0 r (omega arith))
    ∙ ap (λ (xs : model.Actor). region_seen r ∷ xs) (stays n rs (λ k d within. none (suc k) d (omega (arith, within))))

-- it goes, and no other
pub removed : (n : ℕ) (rs : List Region) (k : ℕ) → IsPlaceOf n rs k → map region_seen (remove rs k) ≡ without_region n (map region_seen rs)
removed n [] k p = absurd (omega (arith, p.within))
removed n (r ∷ rs) zero p =
    sym (drops (region_seen r) (map region_seen rs) (p.here r) ∙ stays n rs (λ k d within. p.others (suc k) d (omega (arith, within)) (λ e. absurd (omega (arith, e)))))
  where
    drops : (x : model.Region) (xs : model.Actor) → x.number ≡ n → without_region n (x ∷ xs) ≡ without_region n xs
    drops x xs e = ap (λ (c : Bool). cond (not c) (x ∷ without_region n xs) (without_region n xs)) (is_same x.number n e)
removed n (r ∷ rs) (suc k) p =
    ap (λ (xs : model.Actor). region_seen r ∷ xs) (removed n rs k (tail_place n r rs k p))
    ∙ sym (keeps n (region_seen r) (map region_seen rs) (p.others 0 r (omega arith) (λ e. absurd (omega (arith, e)))))

-- a search for the place of a region that is there finds one
pub some_found : {S : Type 0} (n : ℕ) (rs : List Region) (o : Option S) (P : S → Type 0) → MatchOption o ((k : ℕ) (d : Region) → k < length rs → number_at rs k d ≢ n) P
    → IsSome (region_among n (map region_seen rs)) → IsSome o
some_found n rs None P none h = subst (λ (r : Option model.Region). IsSome r) (among_none n rs none) h
some_found n rs (Some s) P p h = refl
