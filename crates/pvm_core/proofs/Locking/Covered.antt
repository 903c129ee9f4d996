-- How many locked regions cover a page: after a region is locked or unlocked, and after its actor
-- ends.
use Rattle.std.proofs.Common.{◌≡◌, ℕ, zero, suc, ◌+◌, ◌<◌, ◌≤◌, ◌||◌, ◌&&◌, ◌==◌, Bool, true, false, cond, List, [], ◌∷◌, get_or, length, set, count_by, Option, Some, None, is_some, refl, sym, ap, ◌∙◌, arith, subst}
use Rattle.std.specs.Prelude.{nat_le, nat_lt}
use Rattle.std.specs.List.{All, list_any}
use Rattle.std.specs.Option.{option_or}
use Rattle.std.proofs.lemmas.Bool.{eqb-true, leb-true, ltb-true}
use Rattle.std.proofs.lemmas.List.Elements.{All-head, All-tail}
use Rattle.std.proofs.lemmas.List.Sums.{sum_by-cons, sum_by-set}
use Rattle.vm_ids.proofs.Places.{bit}
use Rattle.local_cache.specs.Arena.{is_locked}
use Rattle.vm_model.specs.Machine.{Actor, Machine, Region, is_locked_page, locks, locks_any}
use Rattle.vm_model.specs.Regions.{region_among, region_with, replace_in, replace_region, with_lock}
use Rattle.pvm_core.specs.Locks.{locks_by, locks_over}
use Rattle.pvm_core.proofs.Locking.Extents.{and_left, and_right}
use Rattle.contexts.specs.Placed.{ArePlaced, HasItsPages}

-- Whether a page is locked

pub locked_sum : (m n : ℕ) → is_locked (m + n) ≡ (is_locked m || is_locked n)
locked_sum zero n = ap is_locked (omega arith)
locked_sum (suc m) n = let e : suc m + n ≡ suc (m + n) = omega arith in ap is_locked e

locked_bit : (b : Bool) → is_locked (bit b) ≡ b
locked_bit true = refl
locked_bit false = refl

any_counted : {X : Type 0} (p : X → Bool) (xs : List X) → list_any p xs ≡ is_locked (count_by p xs)
any_counted p [] = refl
any_counted p (x ∷ xs) =
    let both : is_locked (count_by p (x ∷ xs)) ≡ (is_locked (bit (p x)) || is_locked (count_by p xs)) = ap is_locked (sum_by-cons (λ y. bit (p y)) x xs) ∙ locked_sum (bit (p x)) (count_by p xs) in
    (λ i. sym (locked_bit (p x)) i || any_counted p xs i) ∙ sym both

actor_counted : (cache page : ℕ) (o : Option Actor) → locks_any cache page o ≡ is_locked (locks_by cache page o)
actor_counted cache page None = refl
actor_counted cache page (Some rs) = any_counted (locks cache page) rs

actors_counted : (cache page : ℕ) (xs : List (Option Actor)) → list_any (locks_any cache page) xs ≡ is_locked (locks_over xs cache page)
actors_counted cache page [] = refl
actors_counted cache page (x ∷ xs) =
    let both : is_locked (locks_over (x ∷ xs) cache page) ≡ (is_locked (locks_by cache page x) || is_locked (locks_over xs cache page)) = ap is_locked (sum_by-cons (locks_by cache page) x xs) ∙ locked_sum (locks_by cache page x) (locks_over xs cache page) in
    (λ i. actor_counted cache page x i || actors_counted cache page xs i) ∙ sym both

-- a page of the machine is locked exactly where locked regions cover it
pub page_locked : (m : Machine) (cache page : ℕ) → is_locked_page m cache page ≡ is_locked (locks_over m.actors cache page)
page_locked m cache page = actors_counted cache page m.actors

-- A region is locked or unlocked

abbrev pub as_locked : Bool → Region → Region
as_locked b r = record r { locked = b }

module _ (cache page n : ℕ) (b : Bool) (r : Region) where
  replaced_among : (rs : List Region) → region_among n rs ≡ Some r → count_by (locks cache page) (replace_region n (with_lock b) rs) + bit (locks cache page r) ≡ count_by (locks cache page) rs + bit (locks cache page (as_locked b r))
  replaced_among [] e = absurd (cc e)
  replaced_among (x ∷ xs) e = go (x.number == n) e (λ f. replaced_among xs f)
    where
      go : (t : Bool) → cond t (Some x) (region_among n xs) ≡ Some r → (region_among n xs ≡ Some r → count_by (locks cache page) (replace_region n (with_lock b) xs) + bit (locks cache page r) ≡ count_by (locks cache page) xs + bit (locks cache page (as_locked b r)))
          → count_by (locks cache page) (cond t (as_locked b x ∷ xs) (x ∷ replace_region n (with_lock b) xs)) + bit (locks cache page r) ≡ count_by (locks cache page) (x ∷ xs) + bit (locks cache page (as_locked b r))
      go true e rest =
          let same : x ≡ r = cc e in
          omega (arith, sum_by-cons (λ y. bit (locks cache page y)) (as_locked b x) xs, sum_by-cons (λ y. bit (locks cache page y)) x xs, ap (λ y. bit (locks cache page y)) same, ap (λ y. bit (locks cache page (as_locked b y))) same)
      go false e rest = omega (arith, sum_by-cons (λ y. bit (locks cache page y)) x (replace_region n (with_lock b) xs), sum_by-cons (λ y. bit (locks cache page y)) x xs, rest e)

  pub replaced_over : (xs : List (Option Actor)) → region_with n xs ≡ Some r → locks_over (replace_in n (with_lock b) xs) cache page + bit (locks cache page r) ≡ locks_over xs cache page + bit (locks cache page (as_locked b r))
  replaced_over [] e = absurd (cc e)
  replaced_over (None ∷ xs) e = omega (arith, sum_by-cons (locks_by cache page) None (replace_in n (with_lock b) xs), sum_by-cons (locks_by cache page) None xs, replaced_over xs e)
  replaced_over (Some rs ∷ xs) e = go (region_among n rs) refl e (λ f. replaced_over xs f)
    where
      go : (o : Option Region) → region_among n rs ≡ o → option_or o (region_with n xs) ≡ Some r → (region_with n xs ≡ Some r → locks_over (replace_in n (with_lock b) xs) cache page + bit (locks cache page r) ≡ locks_over xs cache page + bit (locks cache page (as_locked b r)))
          → locks_over (cond (is_some o) (Some (replace_region n (with_lock b) rs) ∷ xs) (Some rs ∷ replace_in n (with_lock b) xs)) cache page + bit (locks cache page r) ≡ locks_over (Some rs ∷ xs) cache page + bit (locks cache page (as_locked b r))
      go None among e rest = omega (arith, sum_by-cons (locks_by cache page) (Some rs) (replace_in n (with_lock b) xs), sum_by-cons (locks_by cache page) (Some rs) xs, rest e)
      go (Some x) among e rest =
          let same : x ≡ r = cc e in
          let one = replaced_among rs (among ∙ ap (λ (y : Region). Some y) same) in
          omega (arith, sum_by-cons (locks_by cache page) (Some (replace_region n (with_lock b) rs)) xs, sum_by-cons (locks_by cache page) (Some rs) xs, one)

-- An actor ends

pub gone_over : (cache page i : ℕ) (rs : Actor) (xs : List (Option Actor)) → i < length xs → get_or xs i None ≡ Some rs → locks_over (set xs i None) cache page + count_by (locks cache page) rs ≡ locks_over xs cache page
gone_over cache page i rs xs less here = omega (arith, sum_by-set (locks_by cache page) xs i None None less, ap (locks_by cache page) here)

-- Regions lie in caches

-- a locked region that covers a page
pub record IsCovered (cache page : ℕ) (r : Region) : Type 0 where
  pub locked : r.locked ≡ true
  pub same : r.cache ≡ cache
  pub from : r.offset ≤ page
  pub past : page < r.offset + r.pages

pub covered : (cache page : ℕ) (r : Region) → locks cache page r ≡ true → IsCovered cache page r
covered cache page r e =
    let three = and_left (r.locked && r.cache == cache && nat_le r.offset page) (nat_lt page (r.offset + r.pages)) e in
    let two = and_left (r.locked && r.cache == cache) (nat_le r.offset page) three in
    let d : (r.cache == cache) ≡ true = and_right r.locked (r.cache == cache) two in
    let from' : nat_le r.offset page ≡ true = and_right (r.locked && r.cache == cache) (nat_le r.offset page) three in
    let past' : nat_lt page (r.offset + r.pages) ≡ true = and_right (r.locked && r.cache == cache && nat_le r.offset page) (nat_lt page (r.offset + r.pages)) e in
    record {
      locked = and_left r.locked (r.cache == cache) two;
      same = eqb-true r.cache cache d;
      from = leb-true r.offset page from';
      past = ltb-true page (r.offset + r.pages) past';
    }

-- a page that no cache has is covered by none
module _ (sizes : ℕ → Option ℕ) (cache page : ℕ) (out : (count : ℕ) → sizes cache ≡ Some count → count ≤ page) where
  one_out : (r : Region) → HasItsPages sizes r → (b : Bool) → locks cache page r ≡ b → locks cache page r ≡ false
  one_out r p false e = e
  one_out r p true e =
      let k = covered cache page r e in
      let there : sizes cache ≡ Some p.count = ap sizes (sym k.same) ∙ p.there in
      absurd (omega (arith, out p.count there, k.past, p.within))

  among_out : (rs : List Region) → All (HasItsPages sizes) rs → count_by (locks cache page) rs ≡ 0
  among_out [] h = refl
  among_out (r ∷ rs) h = omega (arith, sum_by-cons (λ y. bit (locks cache page y)) r rs, ap bit (one_out r (All-head (HasItsPages sizes) r rs h) (locks cache page r) refl), among_out rs (All-tail (HasItsPages sizes) r rs h))

  actor_out : (o : Option Actor) → ArePlaced sizes o → locks_by cache page o ≡ 0
  actor_out None h = refl
  actor_out (Some rs) h = among_out rs h

  pub over_out : (xs : List (Option Actor)) → All (ArePlaced sizes) xs → locks_over xs cache page ≡ 0
  over_out [] h = refl
  over_out (x ∷ xs) h = omega (arith, sum_by-cons (locks_by cache page) x xs, actor_out x (All-head (ArePlaced sizes) x xs h), over_out xs (All-tail (ArePlaced sizes) x xs h))

-- the region with a number lies where it is placed
module _ (sizes : ℕ → Option ℕ) (n : ℕ) (r : Region) where
  placed_among : (rs : List Region) → All (HasItsPages sizes) rs → region_among n rs ≡ Some r → HasItsPages sizes r
  placed_among [] h e = absurd (cc e)
  placed_among (x ∷ xs) h e = go (x.number == n) e (λ f. placed_among xs (All-tail (HasItsPages sizes) x xs h) f)
    where
      go : (t : Bool) → cond t (Some x) (region_among n xs) ≡ Some r → (region_among n xs ≡ Some r → HasItsPages sizes r) → HasItsPages sizes r
      go true e rest = let same : x ≡ r = cc e in subst (HasItsPages sizes) same (All-head (HasItsPages sizes) x xs h)
      go false e rest = rest e

  pub placed_with : (xs : List (Option Actor)) → All (ArePlaced sizes) xs → region_with n xs ≡ Some r → HasItsPages sizes r
  placed_with [] h e = absurd (cc e)
  placed_with (None ∷ xs) h e = placed_with xs (All-tail (ArePlaced sizes) None xs h) e
  placed_with (Some rs ∷ xs) h e = go (region_among n rs) refl e (λ f. placed_with xs (All-tail (ArePlaced sizes) (Some rs) xs h) f)
    where
      go : (o : Option Region) → region_among n rs ≡ o → option_or o (region_with n xs) ≡ Some r → (region_with n xs ≡ Some r → HasItsPages sizes r) → HasItsPages sizes r
      go None among e rest = rest e
      go (Some x) among e rest = placed_among rs (All-head (ArePlaced sizes) (Some rs) xs h) (among ∙ e)
