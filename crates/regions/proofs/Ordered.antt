-- Regions in order: which one holds an address, where a new one goes, and whether it fits.
use Rattle.std.proofs.Common.{◌≡◌, ◌≢◌, ℕ, zero, suc, ◌+◌, ◌-◌, ◌*◌, ◌%◌, ◌==◌, ◌<◌, ◌≤◌, Bool, true, false, cond, not, List, [], ◌∷◌, ◌++◌, length, get_or, map, Option, Some, None, refl, sym, ap, inl, inr, ◌∙◌, subst, arith, rules}
use Rattle.std.specs.Prelude.{nat_lt, insert, ◌||◌}
use Rattle.std.specs.List.{list_any}
use Rattle.std.specs.List.Sorted.{IsNonDecreasingBy}
use Rattle.std.proofs.Math.Nat.{add-mul-mod_self_left, mul-add, mul-le-mul_left}
use borrow.Author.Tests.{ltb-true, ltb-false}
use Rattle.std.proofs.lemmas.Bool.{cases_lt, false≢true}
use Rattle.std.proofs.lemmas.Bool.Decides.{nat_tests}
use Rattle.stretches.specs.Parted.{IsParted}
use Rattle.vm_ids.specs.declared.command.Prot.{Prot}
use Rattle.vm_model.specs.Machine as model
use Rattle.vm_model.specs.Answering.{insert_region, overlaps, shares, without_region}
use Rattle.vm_model.specs.Regions.{region_among, back_of, replace_region, split_at, with_lock, with_prot}
use Rattle.vm_model.specs.Place.{holds, region_at}
use Rattle.regions.specs.AddressSpace.{AreInOrder, IsWellFormed, end_of}
use Rattle.regions.specs.Seen.{region_seen}
use Rattle.regions.specs.declared.region.Region.{Region}

abbrev pub start_at : List Region → ℕ → Region → ℕ
start_at rs k d = (region_seen (get_or rs k d)).start

-- so many regions start at the address or before it, and the others behind it
abbrev pub IsCountUpTo : ℕ → List Region → ℕ → Type 0
IsCountUpTo address rs count = IsParted (λ (r : Region). r.address) rs address count

-- Starts rise

-- each region starts at or behind the address that the order begins at
pub start_from : (b from : ℕ) (rs : List Region) → AreInOrder b from (map region_seen rs) → (k : ℕ) (d : Region) → k < length rs → from ≤ start_at rs k d
start_from b from [] o k d within = absurd (omega (arith, within))
start_from b from (r ∷ rs) o zero d within = o.0
start_from b from (r ∷ rs) o (suc k) d within =
    let next = start_from b (end_of b (region_seen r)) rs o.2 k d (omega (arith, within)) in
    let here = o.0 in
    omega (arith, next, here)

pub starts_rise : (b from : ℕ) (rs : List Region) → AreInOrder b from (map region_seen rs) → IsNonDecreasingBy (λ (r : Region). (region_seen r).start) rs
starts_rise b from [] o i j d le within = absurd (omega (arith, within))
starts_rise b from (r ∷ rs) o zero zero d le within = omega arith
starts_rise b from (r ∷ rs) o zero (suc j) d le within =
    omega (arith, start_from b (end_of b (region_seen r)) rs o.2 j d (omega (arith, within)))
starts_rise b from (r ∷ rs) o (suc i) zero d le within = absurd (omega (arith, le))
starts_rise b from (r ∷ rs) o (suc i) (suc j) d le within =
    starts_rise b (end_of b (region_seen r)) rs o.2 i j d (omega (arith, le)) (omega (arith, within))

-- Which one holds an address

not_yet : (b a : ℕ) (r : model.Region) → a < r.start → holds b a r ≡ false
not_yet b a r below = grind (arith, nat_tests)

passed : (b a : ℕ) (r : model.Region) → end_of b r ≤ a → holds b a r ≡ false
passed b a r above = grind (arith, nat_tests)

held : (b a : ℕ) (r : model.Region) → r.start ≤ a → a < end_of b r → holds b a r ≡ true
held b a r from below = grind (arith, nat_tests)

tail_count : (a : ℕ) (r : Region) (rs : List Region) (k : ℕ) → IsCountUpTo a (r ∷ rs) (suc k) → IsCountUpTo a rs k
tail_count a r rs k c = record {
  within = omega (arith, c.within);
  before = λ j d h. c.before (suc j) d (omega (arith, h));
  behind = λ j d h w. c.behind (suc j) d (omega (arith, h)) (omega (arith, w));
}

tail_none : (a : ℕ) (r : Region) (rs : List Region) → IsCountUpTo a (r ∷ rs) 0 → IsCountUpTo a rs 0
tail_none a r rs c = record {
  within = omega arith;
  before = λ j d h. absurd (omega (arith, h));
  behind = λ j d h w. c.behind (suc j) d (omega arith) (omega (arith, w));
}

goes_on : (b a : ℕ) (r : model.Region) (rs : model.Actor) → holds b a r ≡ false → region_at b a (r ∷ rs) ≡ region_at b a rs
goes_on b a r rs e = ap (λ (c : Bool). cond c (Some r) (region_at b a rs)) e

-- where each starts behind the address, none holds it
pub none_holds : (b a : ℕ) (rs : List Region) → IsCountUpTo a rs 0 → region_at b a (map region_seen rs) ≡ None
none_holds b a [] c = refl
none_holds b a (r ∷ rs) c =
    goes_on b a (region_seen r) (map region_seen rs) (not_yet b a (region_seen r) (c.behind 0 r (omega arith) (omega arith)))
    ∙ none_holds b a rs (tail_none a r rs c)

-- else the last that doesn't start behind it holds it, or none
pub last_holds : (b a from : ℕ) (rs : List Region) (k : ℕ) (d : Region) → AreInOrder b from (map region_seen rs) → IsCountUpTo a rs (suc k)
    → region_at b a (map region_seen rs) ≡ cond (holds b a (region_seen (get_or rs k d))) (Some (region_seen (get_or rs k d))) None
last_holds b a from [] k d o c = absurd (omega (arith, c.within))
last_holds b a from (r ∷ rs) zero d o c =
    ap (λ (x : Option model.Region). cond (holds b a (region_seen r)) (Some (region_seen r)) x) (none_holds b a rs (tail_count a r rs 0 c))
last_holds b a from (r ∷ []) (suc k) d o c = absurd (omega (arith, c.within))
last_holds b a from (r ∷ s ∷ rs) (suc k) d o c =
    let behind : end_of b (region_seen r) ≤ (region_seen s).start = o.2.0 in
    let before : (region_seen s).start ≤ a = c.before 1 s (omega arith) in
    goes_on b a (region_seen r) (map region_seen (s ∷ rs)) (passed b a (region_seen r) (omega (arith, behind, before)))
    ∙ last_holds b a (end_of b (region_seen r)) (s ∷ rs) k d o.2 (tail_count a r (s ∷ rs) (suc k) c)

-- one that starts at the address or before it and ends behind it holds it, and no other does
pub held_there : (b a from : ℕ) (rs : List Region) (k : ℕ) (d : Region) → AreInOrder b from (map region_seen rs) → k < length rs → start_at rs k d ≤ a
    → a < end_of b (region_seen (get_or rs k d)) → region_at b a (map region_seen rs) ≡ Some (region_seen (get_or rs k d))
held_there b a from [] k d o within started below = absurd (omega (arith, within))
held_there b a from (r ∷ rs) zero d o within started below =
    ap (λ (c : Bool). cond c (Some (region_seen r)) (region_at b a (map region_seen rs))) (held b a (region_seen r) started below)
held_there b a from (r ∷ rs) (suc k) d o within started below =
    let behind = start_from b (end_of b (region_seen r)) rs o.2 k d (omega (arith, within)) in
    goes_on b a (region_seen r) (map region_seen rs) (passed b a (region_seen r) (omega (arith, behind, started)))
    ∙ held_there b a (end_of b (region_seen r)) rs k d o.2 (omega (arith, within)) started below

-- each is well-formed
pub formed_at : (b from : ℕ) (rs : List Region) (k : ℕ) (d : Region) → AreInOrder b from (map region_seen rs) → k < length rs → IsWellFormed b (region_seen (get_or rs k d))
formed_at b from [] k d o within = absurd (omega (arith, within))
formed_at b from (r ∷ rs) zero d o within = o.1
formed_at b from (r ∷ rs) (suc k) d o within = formed_at b (end_of b (region_seen r)) rs k d o.2 (omega (arith, within))

-- of the region that was read at a place
module _ (b a : ℕ) (rs : List Region) (k : ℕ) (x : Region) (o : AreInOrder b 0 (map region_seen rs)) (within : k < length rs) (read : x ≡ get_or rs k x) where
  pub formed_read : IsWellFormed b (region_seen x)
  formed_read = subst (λ (r : Region). IsWellFormed b (region_seen r)) (sym read) (formed_at b 0 rs k x o within)

  pub found_read : (region_seen x).start ≤ a → a < end_of b (region_seen x) → Some (region_seen x) ≡ region_at b a (map region_seen rs)
  found_read started below =
      ap (λ (r : Region). Some (region_seen r)) read
      ∙ sym (held_there b a 0 rs k x o within (subst (λ (r : Region). (region_seen r).start ≤ a) read started) (subst (λ (r : Region). a < end_of b (region_seen r)) read below))

  -- where it is the last that starts up to the address
  module _ (n : ℕ) (c : IsCountUpTo a rs n) (last : k + 1 ≡ n) where
    pub started_read : (region_seen x).start ≤ a
    started_read = subst (λ (r : Region). (region_seen r).start ≤ a) (sym read) (c.before k x (omega (arith, last)))

    pub missed_read : end_of b (region_seen x) ≤ a → region_at b a (map region_seen rs) ≡ None
    missed_read above =
        let r = region_seen (get_or rs k x) in
        let next : n ≡ suc k = omega (arith, last) in
        last_holds b a 0 rs k x o (subst (IsCountUpTo a rs) next c)
        ∙ ap (λ (y : Bool). cond y (Some r) None) (passed b a r (subst (λ (q : Region). end_of b (region_seen q) ≤ a) read above))

-- Where a new one goes

step : (b : Bool) (r x : model.Region) (xs : model.Actor) → b ≡ false → cond b (r ∷ x ∷ xs) (x ∷ insert_region r xs) ≡ x ∷ insert_region r xs
step b r x xs e = ap (λ (c : Bool). cond c (r ∷ x ∷ xs) (x ∷ insert_region r xs)) e

stop : (b : Bool) (r x : model.Region) (xs : model.Actor) → b ≡ true → cond b (r ∷ x ∷ xs) (x ∷ insert_region r xs) ≡ r ∷ x ∷ xs
stop b r x xs e = ap (λ (c : Bool). cond c (r ∷ x ∷ xs) (x ∷ insert_region r xs)) e

less : (x y : ℕ) → x < y → nat_lt x y ≡ true
less x y h = grind (arith, nat_tests)

pub not_less : (x y : ℕ) → y ≤ x → nat_lt x y ≡ false
not_less x y h = grind (arith, nat_tests)

pub goes_there : (r : Region) (rs : List Region) (k : ℕ) → IsCountUpTo (region_seen r).start rs k → insert_region (region_seen r) (map region_seen rs) ≡ map region_seen (insert rs k r)
goes_there r [] zero c = refl
goes_there r [] (suc k) c = absurd (omega (arith, c.within))
goes_there r (x ∷ rs) zero c =
    stop (nat_lt (region_seen r).start (region_seen x).start) (region_seen r) (region_seen x) (map region_seen rs)
    (less _ _ (c.behind 0 x (omega arith) (omega arith)))
goes_there r (x ∷ rs) (suc k) c =
    step (nat_lt (region_seen r).start (region_seen x).start) (region_seen r) (region_seen x) (map region_seen rs)
    (not_less _ _ (c.before 0 x (omega arith)))
    ∙ ap (λ (ys : model.Actor). region_seen x ∷ ys) (goes_there r rs k (tail_count (region_seen r).start x rs k c))

neither : (a b : Bool) → (a || b) ≡ false → (a ≡ false) × (b ≡ false)
neither true b e = absurd (search rules)
neither false b e = (refl, e)

before_it : (s z o q : ℕ) → shares s z o q ≡ false → s < o → s + z ≤ o
before_it s z o q e below = grind (arith, nat_tests)

behind_it : (s z o q : ℕ) → shares s z o q ≡ false → o ≤ s → 1 ≤ z → o + q ≤ s
behind_it s z o q e above some = grind (arith, nat_tests)

pub some_bytes : (b p : ℕ) → 1 ≤ b → 1 ≤ p → 1 ≤ b * p
some_bytes b p h some = omega (arith, mul-le-mul_left b some)

insert_here : (b from : ℕ) (c : Bool) (r x : model.Region) (xs ys : model.Actor) → nat_lt r.start x.start ≡ c → 1 ≤ b → from ≤ r.start → IsWellFormed b r
    → overlaps b r.start r.pages x ≡ false → AreInOrder b from (x ∷ xs) → (end_of b x ≤ r.start → AreInOrder b (end_of b x) ys)
    → AreInOrder b from (cond c (r ∷ x ∷ xs) (x ∷ ys))
insert_here b from true r x xs ys e one low f apart o next =
    let below : r.start < x.start = ltb-true _ _ e in
    (low, f, (before_it r.start (b * r.pages) x.start (b * x.pages) apart below, o.1, o.2))
insert_here b from false r x xs ys e one low f apart o next =
    let above : x.start ≤ r.start = ltb-false _ _ e in
    (o.0, o.1, next (behind_it r.start (b * r.pages) x.start (b * x.pages) apart above (some_bytes b r.pages one f.some)))

pub insert_keeps : (b from : ℕ) (r : model.Region) (rs : model.Actor) → 1 ≤ b → from ≤ r.start → IsWellFormed b r
    → list_any (overlaps b r.start r.pages) rs ≡ false → AreInOrder b from rs → AreInOrder b from (insert_region r rs)
insert_keeps b from r [] one low f apart o = (low, f, tt)
insert_keeps b from r (x ∷ xs) one low f apart o =
    let each = neither (overlaps b r.start r.pages x) (list_any (overlaps b r.start r.pages) xs) apart in
    insert_here b from (nat_lt r.start x.start) r x xs (insert_region r xs) refl one low f each.0 o
    (λ above. insert_keeps b (end_of b x) r xs one above f each.1 o.2)

-- a region is put in its place
pub put_there : (r : Region) (x : model.Region) (rs : List Region) (k : ℕ) → region_seen r ≡ x → IsCountUpTo x.start rs k
    → map region_seen (insert rs k r) ≡ insert_region x (map region_seen rs)
put_there r x rs k is count =
    sym (goes_there r rs k (subst (λ (y : model.Region). IsCountUpTo y.start rs k) (sym is) count))
    ∙ ap (λ (y : model.Region). insert_region y (map region_seen rs)) is

-- and where it fits, the order stays
pub created : (b : ℕ) (r : Region) (x : model.Region) (rs : List Region) (k : ℕ) → 1 ≤ b → region_seen r ≡ x → IsCountUpTo x.start rs k → IsWellFormed b x
    → list_any (overlaps b x.start x.pages) (map region_seen rs) ≡ false → AreInOrder b 0 (map region_seen rs)
    → AreInOrder b 0 (map region_seen (insert rs k r))
created b r x rs k one is count formed fits o =
    subst (AreInOrder b 0) (sym (put_there r x rs k is count)) (insert_keeps b 0 x (map region_seen rs) one (omega arith) formed fits o)

-- Which ones share an address with so many pages

is_before : (b a p : ℕ) (r : model.Region) → end_of b r ≤ a → overlaps b a p r ≡ false
is_before b a p r above = grind (arith, nat_tests)

is_behind : (b a p : ℕ) (r : model.Region) → a + b * p ≤ r.start → overlaps b a p r ≡ false
is_behind b a p r far = grind (arith, nat_tests)

any_behind : (x y : Bool) → y ≡ true → (x || y) ≡ true
any_behind true y e = refl
any_behind false y e = e

pub any_at : (p : model.Region → Bool) (rs : List Region) (k : ℕ) (d : Region) → k < length rs → p (region_seen (get_or rs k d)) ≡ true → list_any p (map region_seen rs) ≡ true
any_at p [] k d within e = absurd (omega (arith, within))
any_at p (r ∷ rs) zero d within e = ap (λ (x : Bool). x || list_any p (map region_seen rs)) e
any_at p (r ∷ rs) (suc k) d within e =
    any_behind (p (region_seen r)) (list_any p (map region_seen rs)) (any_at p rs k d (omega (arith, within)) e)

goes_by : (p : model.Region → Bool) (r : model.Region) (rs : model.Actor) → p r ≡ false → list_any p (r ∷ rs) ≡ list_any p rs
goes_by p r rs e = ap (λ (x : Bool). x || list_any p rs) e

none_far : (b a p from : ℕ) (rs : model.Actor) → AreInOrder b from rs → a + b * p ≤ from → list_any (overlaps b a p) rs ≡ false
none_far b a p from [] o far = refl
none_far b a p from (r ∷ rs) o far =
    let low = o.0 in
    goes_by (overlaps b a p) r rs (is_behind b a p r (omega (arith, low, far)))
    ∙ none_far b a p (end_of b r) rs o.2 (omega (arith, low, far))

-- where each starts behind the address and the first doesn't, none does
none_behind : (b a p from : ℕ) (rs : List Region) (d : Region) → AreInOrder b from (map region_seen rs) → IsCountUpTo a rs 0
    → (0 < length rs → overlaps b a p (region_seen (get_or rs 0 d)) ≡ false) → list_any (overlaps b a p) (map region_seen rs) ≡ false
none_behind b a p from [] d o c first = refl
none_behind b a p from (r ∷ rs) d o c first =
    let x = region_seen r in
    let apart : overlaps b a p x ≡ false = first (omega arith) in
    let far : a + b * p ≤ x.start = before_it a (b * p) x.start (b * x.pages) apart (c.behind 0 r (omega arith) (omega arith)) in
    goes_by (overlaps b a p) x (map region_seen rs) apart
    ∙ none_far b a p (end_of b x) (map region_seen rs) o.2 (omega (arith, far))

none_around : (b a p from : ℕ) (rs : List Region) (k : ℕ) (d : Region) → AreInOrder b from (map region_seen rs) → IsCountUpTo a rs (suc k)
    → overlaps b a p (region_seen (get_or rs k d)) ≡ false → (suc k < length rs → overlaps b a p (region_seen (get_or rs (suc k) d)) ≡ false)
    → list_any (overlaps b a p) (map region_seen rs) ≡ false
none_around b a p from [] k d o c last next = absurd (omega (arith, c.within))
none_around b a p from (r ∷ rs) zero d o c last next =
    goes_by (overlaps b a p) (region_seen r) (map region_seen rs) last
    ∙ none_behind b a p (end_of b (region_seen r)) rs d o.2 (tail_count a r rs 0 c) (λ w. next (omega (arith, w)))
none_around b a p from (r ∷ []) (suc k) d o c last next = absurd (omega (arith, c.within))
none_around b a p from (r ∷ s ∷ rs) (suc k) d o c last next =
    let behind : end_of b (region_seen r) ≤ (region_seen s).start = o.2.0 in
    let before : (region_seen s).start ≤ a = c.before 1 s (omega arith) in
    goes_by (overlaps b a p) (region_seen r) (map region_seen (s ∷ rs)) (is_before b a p (region_seen r) (omega (arith, behind, before)))
    ∙ none_around b a p (end_of b (region_seen r)) (s ∷ rs) k d o.2 (tail_count a r (s ∷ rs) (suc k) c) last (λ w. next (omega (arith, w)))

-- where neither the last that starts up to the address nor the first behind it does, none does
pub none_overlaps : (b a p : ℕ) (rs : List Region) (n : ℕ) (d : Region) → AreInOrder b 0 (map region_seen rs) → IsCountUpTo a rs n
    → (n ≢ 0 → overlaps b a p (region_seen (get_or rs (n - 1) d)) ≡ false) → (n < length rs → overlaps b a p (region_seen (get_or rs n d)) ≡ false)
    → list_any (overlaps b a p) (map region_seen rs) ≡ false
none_overlaps b a p rs zero d o c last next = none_behind b a p 0 rs d o c next
none_overlaps b a p rs (suc k) d o c last next =
    let one_less : suc k - 1 ≡ k = omega arith in
    let apart = subst (λ (j : ℕ). overlaps b a p (region_seen (get_or rs j d)) ≡ false) one_less (last (omega arith)) in
    none_around b a p 0 rs k d o c apart next

as_one : (x y : Bool) → (x ≡ true → y ≡ true) → (x ≡ false → y ≡ false) → x ≡ y
as_one true y hit miss = sym (hit refl)
as_one false y hit miss = sym (miss refl)

-- where the last that starts up to the address doesn't, the first behind it decides
pub next_decides : (b a p : ℕ) (rs : List Region) (n : ℕ) (d : Region) → AreInOrder b 0 (map region_seen rs) → IsCountUpTo a rs n
    → (n ≢ 0 → overlaps b a p (region_seen (get_or rs (n - 1) d)) ≡ false) → n < length rs
    → overlaps b a p (region_seen (get_or rs n d)) ≡ list_any (overlaps b a p) (map region_seen rs)
next_decides b a p rs n d o c last within =
    as_one (overlaps b a p (region_seen (get_or rs n d))) (list_any (overlaps b a p) (map region_seen rs))
    (any_at (overlaps b a p) rs n d within) (λ apart. none_overlaps b a p rs n d o c last (λ w. apart))

-- where the last that starts up to the address overlaps, one does
pub last_any : (b a p : ℕ) (rs : List Region) (n : ℕ) (last : Bool) → IsCountUpTo a rs n → (n ≡ 0 → last ≡ false)
    → ((k : ℕ) (d : Region) → k + 1 ≡ n → last ≡ overlaps b a p (region_seen (get_or rs k d))) → last ≡ true → list_any (overlaps b a p) (map region_seen rs) ≡ true
last_any b a p [] n last c none here is = absurd (false≢true (sym (none (omega (arith, c.within))) ∙ is))
last_any b a p (r ∷ rs) zero last c none here is = absurd (false≢true (sym (none refl) ∙ is))
last_any b a p (r ∷ rs) (suc k) last c none here is =
    any_at (overlaps b a p) (r ∷ rs) k r (omega (arith, c.within)) (sym (here k r (omega arith)) ∙ is)

-- where it doesn't, one does exactly where the next one does
pub next_any : (b a p : ℕ) (rs : List Region) (n : ℕ) (last next : Bool) → AreInOrder b 0 (map region_seen rs) → IsCountUpTo a rs n
    → ((k : ℕ) (d : Region) → k + 1 ≡ n → last ≡ overlaps b a p (region_seen (get_or rs k d))) → (n ≡ length rs → next ≡ false)
    → ((d : Region) → n < length rs → next ≡ overlaps b a p (region_seen (get_or rs n d))) → last ≡ false → next ≡ list_any (overlaps b a p) (map region_seen rs)
next_any b a p [] n last next o c here none there apart = none (omega (arith, c.within))
next_any b a p (r ∷ rs) n last next o c here none there apart =
    let before : n ≢ 0 → overlaps b a p (region_seen (get_or (r ∷ rs) (n - 1) r)) ≡ false = λ some. sym (here (n - 1) r (omega (arith, some))) ∙ apart in
    elim (cases_lt n (length (r ∷ rs))) [
      | inl within ↦ there r within ∙ next_decides b a p (r ∷ rs) n r o c before within
      | inr past ↦ none (omega (arith, past, c.within)) ∙ sym (none_overlaps b a p (r ∷ rs) n r o c before (λ w. absurd (omega (arith, w, past))))
    ]

-- What goes, and what becomes something else

lower : (b from low : ℕ) (rs : model.Actor) → low ≤ from → AreInOrder b from rs → AreInOrder b low rs
lower b from low [] le o = tt
lower b from low (r ∷ rs) le o = let h = o.0 in (omega (arith, h), o.1, o.2)

drop_here : (b from : ℕ) (c : Bool) (r : model.Region) (rs : model.Actor) → from ≤ r.start → IsWellFormed b r → AreInOrder b (end_of b r) rs
    → AreInOrder b from (cond c (r ∷ rs) rs)
drop_here b from true r rs low f o = (low, f, o)
drop_here b from false r rs low f o = lower b (end_of b r) from rs (omega (arith, low)) o

pub without_keeps : (n b from : ℕ) (rs : model.Actor) → AreInOrder b from rs → AreInOrder b from (without_region n rs)
without_keeps n b from [] o = tt
without_keeps n b from (r ∷ rs) o = drop_here b from (not (r.number == n)) r (without_region n rs) o.0 o.1 (without_keeps n b (end_of b r) rs o.2)

-- where a region is in order, so are those that it becomes
abbrev pub KeepsOrder : ℕ → model.Region → List model.Region → Type 0
KeepsOrder b x xs = (from : ℕ) (rest : model.Actor) → AreInOrder b from (x ∷ rest) → AreInOrder b from (xs ++ rest)

replace_here : (n b from : ℕ) (by : model.Region → List model.Region) (c : Bool) (r x : model.Region) (rs ys : model.Actor) → cond c (Some r) (region_among n rs) ≡ Some x
    → KeepsOrder b x (by x) → AreInOrder b from (r ∷ rs) → (region_among n rs ≡ Some x → AreInOrder b (end_of b r) ys)
    → AreInOrder b from (cond c (by r ++ rs) (r ∷ ys))
replace_here n b from by true r x rs ys e k o next =
    let same : x ≡ r = cc in
    subst (λ (y : model.Region). AreInOrder b from (by y ++ rs)) same (k from rs (subst (λ (y : model.Region). AreInOrder b from (y ∷ rs)) (sym same) o))
replace_here n b from by false r x rs ys e k o next = (o.0, o.1, next e)

pub replace_keeps : (n b from : ℕ) (by : model.Region → List model.Region) (x : model.Region) (rs : model.Actor) → region_among n rs ≡ Some x
    → KeepsOrder b x (by x) → AreInOrder b from rs → AreInOrder b from (replace_region n by rs)
replace_keeps n b from by x [] e k o = tt
replace_keeps n b from by x (r ∷ rs) e k o =
    replace_here n b from by (r.number == n) r x rs (replace_region n by rs) e k o
    (λ found. replace_keeps n b (end_of b r) by x rs found k o.2)

pub prot_keeps : (b : ℕ) (prot : Prot) (x : model.Region) → KeepsOrder b x (with_prot prot x)
prot_keeps b prot x from rest o =
    let f = o.1 in
    (o.0, record { aligned = f.aligned; some = f.some; ends = f.ends; numbered = f.numbered }, o.2)

pub lock_keeps : (b : ℕ) (locked : Bool) (x : model.Region) → KeepsOrder b x (with_lock locked x)
lock_keeps b locked x from rest o =
    let f = o.1 in
    (o.0, record { aligned = f.aligned; some = f.some; ends = f.ends; numbered = f.numbered }, o.2)

-- the bytes of the first pages and those of the others are those of all
cut_bytes : (b p q : ℕ) → p ≤ q → b * p + b * (q - p) ≡ b * q
cut_bytes b p q le = let e : p + (q - p) ≡ q = omega arith in sym (mul-add b p (q - p)) ∙ ap (λ (k : ℕ). b * k) e

still_aligned : (b s p : ℕ) → s % b ≡ 0 → (s + b * p) % b ≡ 0
still_aligned b s p e = add-mul-mod_self_left s b p ∙ e

pub split_keeps : (b pages number : ℕ) (x : model.Region) → 1 ≤ pages → pages < x.pages → KeepsOrder b x (split_at b pages number x)
split_keeps b pages number x some fewer from rest o =
    let f = o.1 in
    let whole = cut_bytes b pages x.pages (omega arith) in
    let ends = f.ends in
    let numbered = f.numbered in
    let same : end_of b (back_of b pages number x) ≡ end_of b x = omega (arith, whole) in (
      o.0,
      record { aligned = f.aligned; some = some; ends = omega (arith, whole, ends); numbered = omega (arith, numbered) },
      (
        omega arith,
        record {
          aligned = still_aligned b x.start pages f.aligned;
          some = omega arith;
          ends = omega (arith, whole, ends);
          numbered = omega (arith, numbered);
        },
        subst (λ (e : ℕ). AreInOrder b e rest) (sym same) o.2,
      ),
    )
