-- The locked pages of the machine are those that the caches count.
use Rattle.std.proofs.Common.{◌≡◌, ◌==◌, ℕ, zero, suc, ◌+◌, ◌<◌, ◌≤◌, Bool, true, false, List, [], ◌∷◌, Option, Some, None, refl, sym, ap, ◌∙◌, arith}
use Rattle.std.specs.Prelude.{◌||◌, ◌&&◌, count_by, nat_le, nat_lt, All}
use Rattle.std.specs.List.{list_any, range_with_len}
use Rattle.std.proofs.lemmas.Bool.Decides.{nat_tests}
use Rattle.std.proofs.lemmas.List.Elements.{All-head, All-tail}
use Rattle.std.proofs.lemmas.List.Sums.{sum_by-cons}
use Rattle.vm_ids.specs.declared.command.Extent.{Extent}
use Rattle.vm_ids.specs.Forest.Nodes.{no_forest}
use Rattle.vm_ids.proofs.Places.{bit, count_cons}
use Rattle.local_cache.specs.Arena.{is_locked, locks_of}
use Rattle.vm_model.specs.Answering.{is_any_locked}
use Rattle.vm_model.specs.Machine.{Actor, Machine, Region, is_locked_page, locks, locks_any}
use Rattle.vm_model.specs.PageForest.{PageForest}
use Rattle.pvm_core.specs.Locks.{any_locked, locks_by, locks_over}
use Rattle.pvm_core.specs.Manager.{Manager, machine_by}
use Rattle.contexts.specs.Placed.{ArePlaced, HasItsPages}

pub some_locked : (n : ℕ) → 1 ≤ n → is_locked n ≡ true
some_locked zero some = absurd (omega (arith, some))
some_locked (suc k) some = refl

pub locked_some : (n : ℕ) → is_locked n ≡ true → 1 ≤ n
locked_some zero e = absurd (cc e)
locked_some (suc k) e = omega arith

either : (a b : ℕ) → (is_locked a || is_locked b) ≡ is_locked (a + b)
either zero b = ap is_locked (let e : b ≡ 0 + b = omega arith in e)
either (suc a) b = sym (some_locked (suc a + b) (omega arith))

of_bit : (b : Bool) → b ≡ is_locked (bit b)
of_bit true = refl
of_bit false = refl

pub any_counted : (p : Region → Bool) (rs : Actor) → list_any p rs ≡ is_locked (count_by p rs)
any_counted p [] = refl
any_counted p (r ∷ rs) = (λ i. of_bit (p r) i || any_counted p rs i) ∙ either (bit (p r)) (count_by p rs) ∙ sym (ap is_locked (count_cons p r rs))

module _ (cache page : ℕ) where
  any_by : (o : Option Actor) → locks_any cache page o ≡ is_locked (locks_by cache page o)
  any_by None = refl
  any_by (Some rs) = any_counted (locks cache page) rs

  pub any_over : (xs : List (Option Actor)) → list_any (locks_any cache page) xs ≡ is_locked (locks_over xs cache page)
  any_over [] = refl
  any_over (x ∷ xs) = (λ i. any_by x i || any_over xs i) ∙ either (locks_by cache page x) (locks_over xs cache page) ∙ sym (ap is_locked (sum_by-cons (locks_by cache page) x xs))

module _ (p : Manager) (f : PageForest) (counted : (cache page : ℕ) → locks_of p.caches cache page ≡ locks_over p.actors cache page) where
  pub locked_same : (cache page : ℕ) → is_locked_page (machine_by p f) cache page ≡ is_locked (locks_of p.caches cache page)
  locked_same cache page = any_over cache page p.actors ∙ ap is_locked (sym (counted cache page))

  pub any_same : (e : Extent) → is_any_locked (machine_by p f) e.cache e.first.0 e.pages ≡ any_locked p.caches e
  any_same e = λ i. list_any (λ n. locked_same e.cache.0 n i) (range_with_len e.first.0 e.pages)

-- the same pages of two managers are locked that stand for the same machine
pub same_locked : (p q : Manager) → ((cache page : ℕ) → locks_of p.caches cache page ≡ locks_over p.actors cache page) → ((cache page : ℕ) → locks_of q.caches cache page ≡ locks_over q.actors cache page) → ((f : PageForest) → machine_by q f ≡ machine_by p f)
    → (e : Extent) → any_locked q.caches e ≡ any_locked p.caches e
same_locked p q before after by e =
    sym (any_same q no_forest after e) ∙ ap (λ (m : Machine). is_any_locked m e.cache e.first.0 e.pages) (by no_forest) ∙ any_same p no_forest before e

-- A page that is locked

-- a cache has this page
abbrev pub HasSize : (ℕ → Option ℕ) → ℕ → ℕ → Type 0
HasSize sizes cache page = (count : ℕ) × (sizes cache ≡ Some count) × (page < count)

all_three : (a b c d : Bool) → (a && b && c && d) ≡ true → (b ≡ true) × (d ≡ true)
all_three true true true true e = (refl, refl)
all_three false b c d e = absurd (cc e)
all_three true false c d e = absurd (cc e)
all_three true true false d e = absurd (cc e)
all_three true true true false e = absurd (cc e)

or_cases : (T : Type 0) (a b : Bool) → (a ≡ true → T) → (b ≡ true → T) → (a || b) ≡ true → T
or_cases T true b one two e = one refl
or_cases T false b one two e = two e

module _ (sizes : ℕ → Option ℕ) (cache page : ℕ) where
  in_region : (r : Region) → HasItsPages sizes r → locks cache page r ≡ true → HasSize sizes cache page
  in_region r placed e =
      let both = all_three r.locked (r.cache == cache) (nat_le r.offset page) (nat_lt page (r.offset + r.pages)) e in
      let same_test : (r.cache == cache) ≡ true = both.0 in
      let low_test : nat_lt page (r.offset + r.pages) ≡ true = both.1 in
      let same : r.cache ≡ cache = grind (arith, nat_tests) in
      let low : page < r.offset + r.pages = grind (arith, nat_tests) in
      let within = placed.within in
      (placed.count, ap sizes (sym same) ∙ placed.there, omega (arith, low, within))

  in_regions : (rs : Actor) → All (HasItsPages sizes) rs → list_any (locks cache page) rs ≡ true → HasSize sizes cache page
  in_regions [] h e = absurd (cc e)
  in_regions (r ∷ rs) h e = or_cases (HasSize sizes cache page) (locks cache page r) (list_any (locks cache page) rs) (in_region r (All-head (HasItsPages sizes) r rs h)) (in_regions rs (All-tail (HasItsPages sizes) r rs h)) e

  in_actor : (o : Option Actor) → ArePlaced sizes o → locks_any cache page o ≡ true → HasSize sizes cache page
  in_actor None h e = absurd (cc e)
  in_actor (Some rs) h e = in_regions rs h e

  in_actors : (xs : List (Option Actor)) → All (ArePlaced sizes) xs → list_any (locks_any cache page) xs ≡ true → HasSize sizes cache page
  in_actors [] h e = absurd (cc e)
  in_actors (x ∷ xs) h e = or_cases (HasSize sizes cache page) (locks_any cache page x) (list_any (locks_any cache page) xs) (in_actor x (All-head (ArePlaced sizes) x xs h)) (in_actors xs (All-tail (ArePlaced sizes) x xs h)) e

  -- is one of a live cache
  pub locked_there : (xs : List (Option Actor)) → All (ArePlaced sizes) xs → is_locked (locks_over xs cache page) ≡ true → HasSize sizes cache page
  locked_there xs h e = in_actors xs h (any_over cache page xs ∙ e)
