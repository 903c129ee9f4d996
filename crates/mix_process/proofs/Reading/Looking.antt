-- Which region of an actor holds an address, and so which part of its process.
use Rattle.std.proofs.Common.{◌≡◌, ◌⊎◌, inl, inr, ℕ, ◌+◌, ◌*◌, ◌<◌, ◌≤◌, Bool, true, false, cond, List, [], ◌∷◌, ◌++◌, Option, Some, None, refl, ap, ◌∙◌, arith, append_assoc}
use Rattle.std.specs.Prelude.{◌&&◌, nat_lt}
use Rattle.std.specs.List.{list_any}
use Rattle.std.proofs.lemmas.Bool.{cases_lt}
use Rattle.std.proofs.lemmas.Bool.Decides.{nat_tests}
use Rattle.vm_model.specs.Regions.{mapping_of}
use Rattle.vm_model.proofs.Outcomes.Lying.{or_parts}
use Rattle.interface_callers.proofs.Words.{Actor, Mapping, Region, holds, insert_region, overlaps, region_at}
use Rattle.mix_process.specs.ProcessMachine.{area_start}
use Rattle.mix_process.specs.Seen.{mapping_behind, pages_in, same_area}
use Rattle.mix_process.specs.Tying.{AreMapped, IsRegionOf}
use Rattle.mix_process.specs.Tying.AreMapped.{none, more}
use Rattle.mix_process.specs.declared.area.Area.{Area}
use Rattle.mix_process.specs.declared.area.Area.TheVariants.{Data, Stack, Text}
use Rattle.mix_process.specs.declared.process.Part.{Part}

-- One of two that don't overlap holds the address.
swapped : (h x : Bool) (r s : Region) (o : Option Region) → (h ≡ true → x ≡ true → ⊥) → cond x (Some s) (cond h (Some r) o) ≡ cond h (Some r) (cond x (Some s) o)
swapped true true r s o apart = absurd (apart refl refl)
swapped true false r s o apart = refl
swapped false true r s o apart = refl
swapped false false r s o apart = refl

pub held_within : (address : ℕ) (r : Region) → holds 4096 address r ≡ true → (r.start ≤ address) × (address < r.start + 4096 * r.pages)
held_within address r h = (grind (arith, nat_tests), grind (arith, nat_tests))

pub not_held : (address : ℕ) (r : Region) → holds 4096 address r ≡ false → r.start ≤ address → address < r.start + 4096 * r.pages → ⊥
not_held address r h a b = grind (arith, nat_tests)

apart_both : (address : ℕ) (r s : Region) → overlaps 4096 r.start r.pages s ≡ false → holds 4096 address r ≡ true → holds 4096 address s ≡ true → ⊥
apart_both address r s apart h x =
    let a = held_within address r h in
    let b = held_within address s x in
    let c : nat_lt r.start (s.start + 4096 * s.pages) ≡ true = grind (arith, nat_tests) in
    let d : nat_lt s.start (r.start + 4096 * r.pages) ≡ true = grind (arith, nat_tests) in
    let both : overlaps 4096 r.start r.pages s ≡ true = λ i. c i && d i in
    absurd (cc (both, apart))

inserted_by : (address : ℕ) (r x : Region) (xs : Actor) → overlaps 4096 r.start r.pages x ≡ false → region_at 4096 address (insert_region r xs) ≡ cond (holds 4096 address r) (Some r) (region_at 4096 address xs)
    → (b : Bool) → region_at 4096 address (cond b (r ∷ x ∷ xs) (x ∷ insert_region r xs)) ≡ cond (holds 4096 address r) (Some r) (region_at 4096 address (x ∷ xs))
inserted_by address r x xs apart rest true = refl
inserted_by address r x xs apart rest false = ap (cond (holds 4096 address x) (Some x)) rest ∙ swapped (holds 4096 address r) (holds 4096 address x) r x (region_at 4096 address xs) (apart_both address r x apart)

-- which region holds an address after one more was put in
pub inserted_at : (address : ℕ) (r : Region) (rs : Actor) → list_any (overlaps 4096 r.start r.pages) rs ≡ false → region_at 4096 address (insert_region r rs) ≡ cond (holds 4096 address r) (Some r) (region_at 4096 address rs)
inserted_at address r [] apart = refl
inserted_at address r (x ∷ xs) apart =
    let parts : (overlaps 4096 r.start r.pages x ≡ false) × (list_any (overlaps 4096 r.start r.pages) xs ≡ false) = or_parts (overlaps 4096 r.start r.pages x) (list_any (overlaps 4096 r.start r.pages) xs) apart in
    inserted_by address r x xs parts.0 (inserted_at address r xs parts.1) (nat_lt r.start x.start)

-- The part whose region holds an address.
pub record IsFound (parts : List Part) (regions : Actor) (address : ℕ) : Type 0 where
  pub before : List Part
  pub part : Part
  pub behind : List Part
  pub region : Region
  pub is : parts ≡ before ++ part ∷ behind
  pub at : region_at 4096 address regions ≡ Some region
  pub mapping : mapping_of region ≡ mapping_behind before part
  pub holds : (region.start ≤ address) × (address < region.start + 4096 * region.pages)

-- No area of these parts holds it, and no region does.
pub record IsNowhere (parts : List Part) (regions : Actor) (address : ℕ) : Type 0 where
  pub at : region_at 4096 address regions ≡ None
  pub outside : (area : Area) → area_start area ≤ address → address < area_start area + 4096 * pages_in area parts → ⊥

pub pages-append : (area : Area) (xs ys : List Part) → pages_in area (xs ++ ys) ≡ pages_in area xs + pages_in area ys
pages-append area [] ys = omega arith
pages-append area (x ∷ xs) ys = omega (arith, pages-append area xs ys)

pub area_same : (a b : Area) → same_area a b ≡ true → a ≡ b
area_same Text Text e = refl
area_same Text Data e = absurd (cc e)
area_same Text Stack e = absurd (cc e)
area_same Data Text e = absurd (cc e)
area_same Data Data e = refl
area_same Data Stack e = absurd (cc e)
area_same Stack Text e = absurd (cc e)
area_same Stack Data e = absurd (cc e)
area_same Stack Stack e = refl

pub same_self : (a : Area) → same_area a a ≡ true
same_self Text = refl
same_self Data = refl
same_self Stack = refl

-- an address that neither the parts before nor a new one hold
still_outside : (before : List Part) (p : Part) (r : Region) (address : ℕ) → mapping_of r ≡ mapping_behind before p → holds 4096 address r ≡ false
    → ((area : Area) → area_start area ≤ address → address < area_start area + 4096 * pages_in area before → ⊥)
    → (area : Area) → area_start area ≤ address → address < area_start area + 4096 * pages_in area (before ++ p ∷ []) → ⊥
still_outside before p r address is free outside area from to = go (same_area p.area area) refl
  where
    many : (b : Bool) → same_area p.area area ≡ b → pages_in area (before ++ p ∷ []) ≡ pages_in area before + cond b p.pages 0
    many b e = pages-append area before (p ∷ []) ∙ ap (λ (c : Bool). pages_in area before + (cond c p.pages 0 + 0)) e ∙ (let same : pages_in area before + (cond b p.pages 0 + 0) ≡ pages_in area before + cond b p.pages 0 = omega arith in same)

    go : (b : Bool) → same_area p.area area ≡ b → ⊥
    go false e = outside area from (omega (arith, to, many false e))
    go true e =
        let area_is : p.area ≡ area = area_same p.area area e in
        let start : r.start ≡ area_start area + 4096 * pages_in area before = ap (λ (q : Mapping). q.address) is ∙ ap (λ (a : Area). area_start a + 4096 * pages_in a before) area_is in
        let size : r.pages ≡ p.pages = ap (λ (q : Mapping). q.extent.pages) is in
        not_held address r free
        (elim (cases_lt address (area_start area + 4096 * pages_in area before)) [ inl below ↦ absurd (outside area from below) | inr above ↦ omega (arith, above, start) ])
        (omega (arith, to, many true e, start, size))

abbrev Looked : List Part → Actor → ℕ → Type 0
Looked parts regions address = IsFound parts regions address ⊎ IsNowhere parts regions address

-- one more part was mapped
looked_more : (address : ℕ) (before : List Part) (regions : Actor) (p : Part) (r : Region) → IsRegionOf before regions p r → (b : Bool) → holds 4096 address r ≡ b → Looked before regions address → Looked (before ++ p ∷ []) (insert_region r regions) address
looked_more address before regions p r is true e inner = inl (record {
  before = before;
  part = p;
  behind = [];
  region = r;
  is = refl;
  at = inserted_at address r regions is.apart ∙ ap (λ (b : Bool). cond b (Some r) (region_at 4096 address regions)) e;
  mapping = is.mapping;
  holds = held_within address r e;
})
looked_more address before regions p r is false e (inl f) = inl (record {
  before = f.before;
  part = f.part;
  behind = f.behind ++ p ∷ [];
  region = f.region;
  is = ap (λ (xs : List Part). xs ++ p ∷ []) f.is ∙ append_assoc f.before (f.part ∷ f.behind) (p ∷ []);
  at = inserted_at address r regions is.apart ∙ ap (λ (b : Bool). cond b (Some r) (region_at 4096 address regions)) e ∙ f.at;
  mapping = f.mapping;
  holds = f.holds;
})
looked_more address before regions p r is false e (inr n) = inr (record {
  at = inserted_at address r regions is.apart ∙ ap (λ (b : Bool). cond b (Some r) (region_at 4096 address regions)) e ∙ n.at;
  outside = still_outside before p r address is.mapping e n.outside;
})

pub lookup : (address : ℕ) {parts : List Part} {regions : Actor} → AreMapped parts regions → Looked parts regions address
lookup address none = inr (record { at = refl; outside = λ area from to. omega arith })
lookup address (more before rs p r rest is) = looked_more address before rs p r is (holds 4096 address r) refl (lookup address rest)
