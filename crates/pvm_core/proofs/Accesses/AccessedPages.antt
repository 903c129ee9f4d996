-- The place of an access, and that of the page that it is in.
use Rattle.std.proofs.Common.{◌≡◌, ℕ, ◌+◌, ◌-◌, ◌*◌, ◌/◌, ◌%◌, ◌<◌, ◌≤◌, Bool, true, false, cond, [], ◌∷◌, Option, Some, None, refl, sym, ap, subst, ◌∙◌, arith, inl, inr}
use Rattle.std.specs.Prelude.{Ok, Err, nat_le, nat_lt, ◌&&◌}
use Rattle.std.specs.List.{All}
use Rattle.std.proofs.Math.Nat.{add-mul, mod-lt, mul-le-mul_right}
use Rattle.std.proofs.lemmas.Bool.{cases_lt}
use Rattle.std.proofs.lemmas.Bool.Decides.{nat_tests}
use Rattle.std.proofs.lemmas.List.Elements.{All-head, All-tail}
use Rattle.std.proofs.lemmas.Nat.{div-add-mod', div-mul-add, mod-mul-add}
use Rattle.vm_ids.specs.declared.refusal.Refusal.TheVariants as refusals
use Rattle.vm_model.specs.Machine as model
use Rattle.vm_model.specs.Place.{Place, holds, place_in, place_of_actor, placed, region_at}
use Rattle.contexts.specs.Placed.{EachRegion, IsAligned}
use Rattle.contexts.proofs.Placing.{held_in}

-- a test that passes exactly where the other one does
same_tests : (x y : Bool) → (x ≡ true → y ≡ true) → (y ≡ true → x ≡ true) → x ≡ y
same_tests true y f g = sym (f refl)
same_tests false true f g = g refl
same_tests false false f g = refl

le_from : (x y : ℕ) → nat_le x y ≡ true → x ≤ y
le_from x y e = grind (arith, nat_tests)

le_test : (x y : ℕ) → x ≤ y → nat_le x y ≡ true
le_test x y e = grind (arith, nat_tests)

lt_from : (x y : ℕ) → nat_lt x y ≡ true → x < y
lt_from x y e = grind (arith, nat_tests)

lt_test : (x y : ℕ) → x < y → nat_lt x y ≡ true
lt_test x y e = grind (arith, nat_tests)

pub lt_none : (x y : ℕ) → y ≤ x → nat_lt x y ≡ false
lt_none x y e = grind (arith, nat_tests)

-- a region that was found holds the address
found_region : (P : model.Region → Type 0) (b address : ℕ) (rs : model.Actor) (r : model.Region) → All P rs → region_at b address rs ≡ Some r → (holds b address r ≡ true) × P r
found_region P b address [] r h e = absurd (cc e)
found_region P b address (x ∷ rs) r h e = go (found_region P b address rs r (All-tail P x rs h)) (holds b address x) refl e
  where
    go : (region_at b address rs ≡ Some r → (holds b address r ≡ true) × P r) → (c : Bool) → holds b address x ≡ c → cond c (Some x) (region_at b address rs) ≡ Some r → (holds b address r ≡ true) × P r
    go rest true k f = let same : x ≡ r = cc f in (subst (λ (y : model.Region). holds b address y ≡ true) same k, subst P same (All-head P x rs h))
    go rest false k f = rest f

module _ (b k p : ℕ) (small : k < b) where
  -- pages from a whole one on hold each byte of a page, or none
  pub from_page : (q : ℕ) → nat_le (q * b) (p * b + k) ≡ nat_le (q * b) (p * b)
  from_page q = same_tests (nat_le (q * b) (p * b + k)) (nat_le (q * b) (p * b)) there (λ e. le_test (q * b) (p * b + k) (let low = le_from (q * b) (p * b) e in omega (arith, low)))
    where
      there : nat_le (q * b) (p * b + k) ≡ true → nat_le (q * b) (p * b) ≡ true
      there e = elim (cases_lt p q) [
        | inl past ↦ (
            let low = le_from (q * b) (p * b + k) e in
            let more : (p + 1) * b ≤ q * b = mul-le-mul_right b (let s : p + 1 ≤ q = omega (arith, past) in s) in
            let one : 1 * b ≡ b = omega arith in
            absurd (omega (arith, low, more, small, add-mul p 1 b, one)))
        | inr within ↦ le_test (q * b) (p * b) (mul-le-mul_right b within)
      ]

  pub before_page : (q : ℕ) → nat_lt (p * b + k) (q * b) ≡ nat_lt (p * b) (q * b)
  before_page q = same_tests (nat_lt (p * b + k) (q * b)) (nat_lt (p * b) (q * b)) (λ e. lt_test (p * b) (q * b) (let low = lt_from (p * b + k) (q * b) e in omega (arith, low))) there
    where
      there : nat_lt (p * b) (q * b) ≡ true → nat_lt (p * b + k) (q * b) ≡ true
      there e = elim (cases_lt p q) [
        | inl less ↦ (
            let more : (p + 1) * b ≤ q * b = mul-le-mul_right b (let s : p + 1 ≤ q = omega (arith, less) in s) in
            let one : 1 * b ≡ b = omega arith in
            lt_test (p * b + k) (q * b) (omega (arith, more, small, add-mul p 1 b, one)))
        | inr past ↦ (
            let low = lt_from (p * b) (q * b) e in
            let more : q * b ≤ p * b = mul-le-mul_right b past in
            absurd (omega (arith, low, more)))
      ]

  -- the page of a byte, counted from a page before it
  pub page_from : (q : ℕ) → q ≤ p → (p * b + k - q * b) / b ≡ p - q
  page_from q low =
      let apart : p ≡ (p - q) + q = omega (arith, low) in
      let far : p * b ≡ (p - q) * b + q * b = ap (λ x. x * b) apart ∙ add-mul (p - q) q b in
      let same : p * b + k - q * b ≡ (p - q) * b + k = omega (arith, far) in
      ap (λ x. x / b) same ∙ div-mul-add (p - q) b k small

module _ (b address : ℕ) (some : 1 ≤ b) where
  small : address % b < b
  small = mod-lt address some

  whole : address / b * b + address % b ≡ address
  whole = div-add-mod' address b

  module _ (r : model.Region) (aligned : IsAligned b r) where
    start : r.start / b * b ≡ r.start
    start = omega (arith, div-add-mod' r.start b, aligned)

    end : (r.start / b + r.pages) * b ≡ r.start + b * r.pages
    end = add-mul (r.start / b) r.pages b ∙ (let turned : r.pages * b ≡ b * r.pages = omega arith in omega (arith, start, turned))

    -- a region of whole pages holds each byte of a page, or none
    pub alike_held : holds b address r ≡ holds b (address / b * b) r
    alike_held = λ i. from i && before i
      where
        from : nat_le r.start address ≡ nat_le r.start (address / b * b)
        from = (λ i. nat_le (sym start i) (sym whole i)) ∙ from_page b (address % b) (address / b) small (r.start / b) ∙ (λ i. nat_le (start i) (address / b * b))

        before : nat_lt address (r.start + b * r.pages) ≡ nat_lt (address / b * b) (r.start + b * r.pages)
        before = (λ i. nat_lt (sym whole i) (sym end i)) ∙ before_page b (address % b) (address / b) small (r.start / b + r.pages) ∙ (λ i. nat_lt (address / b * b) (end i))

    -- and shows it at one page of its cache
    pub alike_page : holds b address r ≡ true → (place_in b (address / b * b) r).page ≡ (place_in b address r).page
    alike_page held =
        let from = (held_in b (address / b * b) r (sym alike_held ∙ held)).0 in
        let low : r.start / b ≤ address / b = elim (cases_lt (address / b) (r.start / b)) [
          | inl past ↦ (
              let more : (address / b + 1) * b ≤ r.start / b * b = mul-le-mul_right b (let s : address / b + 1 ≤ r.start / b = omega (arith, past) in s) in
              let one : 1 * b ≡ b = omega arith in
              absurd (omega (arith, more, from, start, some, add-mul (address / b) 1 b, one)))
          | inr within ↦ within
        ] in
        let here : (address - r.start) / b ≡ address / b - r.start / b = (λ i. (sym whole i - sym start i) / b) ∙ page_from b (address % b) (address / b) small (r.start / b) low in
        let first : (address / b * b - r.start) / b ≡ address / b - r.start / b
        = (λ i. ((let e : address / b * b ≡ address / b * b + 0 = omega arith in e i) - sym start i) / b) ∙ page_from b 0 (address / b) some (r.start / b) low in
        ap (λ x. r.offset + x) (first ∙ sym here)

  pub alike_region : (rs : model.Actor) → All (IsAligned b) rs → region_at b address rs ≡ region_at b (address / b * b) rs
  alike_region [] h = refl
  alike_region (r ∷ rs) h = λ i. cond (alike_held r (All-head (IsAligned b) r rs h) i) (Some r) (alike_region rs (All-tail (IsAligned b) r rs h) i)

  first_byte : (address / b * b) % b ≡ 0
  first_byte = ap (λ x. x % b) (let e : address / b * b ≡ address / b * b + 0 = omega arith in e) ∙ mod-mul-add (address / b) b 0 some

  module _ (rs : model.Actor) (aligned : All (IsAligned b) rs) where
    access_row : (n : ℕ) (r : model.Region) → nat_lt b (address % b + n) ≡ false → region_at b address rs ≡ Some r → place_of_actor b (Some rs) address n ≡ Ok (place_in b address r)
    access_row n r short at = rw (short, at) refl

    page_row : (o : Option model.Region) → region_at b address rs ≡ o → place_of_actor b (Some rs) (address / b * b) 1 ≡ placed b (address / b * b) o
    page_row o at =
        let first : (address / b * b) % b + 1 ≡ 1 = ap (λ x. x + 1) first_byte in
        let short : nat_lt b ((address / b * b) % b + 1) ≡ false = ap (nat_lt b) first ∙ lt_none b 1 some in
        let there : region_at b (address / b * b) rs ≡ o = sym (alike_region rs aligned) ∙ at in
        rw (short, there) refl

    page_is : (r : model.Region) → region_at b address rs ≡ Some r → (place_in b (address / b * b) r).page ≡ (place_in b address r).page
    page_is r at = let f = found_region (IsAligned b) b address rs r aligned at in alike_page r f.1 f.0

  -- the page under an access
  pub page_of_access : (n : ℕ) (o : Option model.Actor) (at : Place) → EachRegion (IsAligned b) o → place_of_actor b o address n ≡ Ok at → place_of_actor b o (address / b * b) 1 ≡ Ok (record at { byte = 0 })
  page_of_access n None at h e = absurd (cc e)
  page_of_access n (Some rs) at h e = go (nat_lt b (address % b + n)) (region_at b address rs) refl refl e
    where
      go : (c : Bool) (o : Option model.Region) → nat_lt b (address % b + n) ≡ c → region_at b address rs ≡ o → cond c (Err refusals.Crosses) (placed b address o) ≡ Ok at
          → place_of_actor b (Some rs) (address / b * b) 1 ≡ Ok (record at { byte = 0 })
      go true o k l f = absurd (cc f)
      go false None k l f = absurd (cc f)
      go false (Some r) k l f =
          let told : place_in b address r ≡ at = cc f in
          page_row rs h (Some r) l ∙ (λ i. Ok (record { region = r; page = page_is rs h r l i; byte = first_byte i })) ∙ ap (λ (p : Place). Ok (record p { byte = 0 })) told

  -- an access that ends within its page
  pub access_of_page : (n : ℕ) (o : Option model.Actor) (at : Place) → EachRegion (IsAligned b) o → nat_lt b (address % b + n) ≡ false → place_of_actor b o (address / b * b) 1 ≡ Ok at
      → place_of_actor b o address n ≡ Ok (record at { byte = address % b })
  access_of_page n None at h short e = absurd (cc e)
  access_of_page n (Some rs) at h short e = go (region_at b address rs) refl
    where
      go : (o : Option model.Region) → region_at b address rs ≡ o → place_of_actor b (Some rs) address n ≡ Ok (record at { byte = address % b })
      go None l = absurd (let f : Err refusals.BadAddress ≡ Ok at = sym (page_row rs h None l) ∙ e in cc f)
      go (Some r) l =
          let f : Ok (place_in b (address / b * b) r) ≡ Ok at = sym (page_row rs h (Some r) l) ∙ e in
          let told : place_in b (address / b * b) r ≡ at = cc f in
          access_row rs h n r short l ∙ (λ i. Ok (record { region = r; page = sym (page_is rs h r l) i; byte = address % b })) ∙ ap (λ (p : Place). Ok (record p { byte = address % b })) told

-- an access that has a place ends within its page
pub ends_within : (b address n : ℕ) (o : Option model.Actor) (at : Place) → place_of_actor b o address n ≡ Ok at → nat_lt b (address % b + n) ≡ false
ends_within b address n None at e = absurd (cc e)
ends_within b address n (Some rs) at e = go (nat_lt b (address % b + n)) refl e
  where
    go : (c : Bool) → nat_lt b (address % b + n) ≡ c → cond c (Err refusals.Crosses) (placed b address (region_at b address rs)) ≡ Ok at → nat_lt b (address % b + n) ≡ false
    go true k f = absurd (cc f)
    go false k f = k
