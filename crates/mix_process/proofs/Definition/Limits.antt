-- What would pass a limit, and rows that end where it does.
use Rattle.std.proofs.Common.{◌≡◌, ℕ, ◌+◌, Bool, true, false, Option, Some, None, refl, ap, arith}
use Rattle.std.specs.Prelude.{◌||◌, nat_le, nat_lt}
use Rattle.std.specs.Bool.{IsTrue}
use Rattle.std.proofs.lemmas.Bool.Decides.{nat_tests}
use Rattle.interface_callers.proofs.Words.{Answered, LIVE_PAGES, LIVING_ACTORS, Machine, MOST_MADE, Refusal, refuse, unless, with_some}
use Rattle.mix_process.specs.Outcome.{Usage, would_pass}

-- One of five tests

abbrev any_of : Bool → Bool → Bool → Bool → Bool → Bool
any_of a b c d e = a || b || c || d || e

by_first : (a b c d e : Bool) → a ≡ true → any_of a b c d e ≡ true
by_first a b c d e h = ap (λ (x : Bool). any_of x b c d e) h

by_second : (a b c d e : Bool) → b ≡ true → any_of a b c d e ≡ true
by_second true b c d e h = refl
by_second false b c d e h = ap (λ (x : Bool). any_of false x c d e) h

by_third : (a b c d e : Bool) → c ≡ true → any_of a b c d e ≡ true
by_third true b c d e h = refl
by_third false true c d e h = refl
by_third false false c d e h = ap (λ (x : Bool). any_of false false x d e) h

by_fifth : (a b c d e : Bool) → e ≡ true → any_of a b c d e ≡ true
by_fifth true b c d e h = refl
by_fifth false true c d e h = refl
by_fifth false false true d e h = refl
by_fifth false false false true e h = refl
by_fifth false false false false e h = h

pub passed_next : (limit n : ℕ) → nat_le limit n ≡ true → nat_lt limit (n + 1) ≡ true
passed_next limit n e = grind (arith, nat_tests)

-- the tests for each limit
abbrev living : Usage → Usage → Bool
living u more = nat_lt LIVING_ACTORS (u.living + more.living)

abbrev actors : Usage → Usage → Bool
actors u more = nat_lt MOST_MADE (u.actors + more.actors)

abbrev caches : Usage → Usage → Bool
caches u more = nat_lt MOST_MADE (u.caches + more.caches)

abbrev regions : Usage → Usage → Bool
regions u more = nat_lt MOST_MADE (u.regions + more.regions)

abbrev pages : Usage → Usage → Bool
pages u more = nat_lt LIVE_PAGES (u.pages + more.pages)

pub living_past : (u more : Usage) → living u more ≡ true → IsTrue (would_pass u more)
living_past u more e = by_first (living u more) (actors u more) (caches u more) (regions u more) (pages u more) e

pub actors_past : (u more : Usage) → actors u more ≡ true → IsTrue (would_pass u more)
actors_past u more e = by_second (living u more) (actors u more) (caches u more) (regions u more) (pages u more) e

pub caches_past : (u more : Usage) → caches u more ≡ true → IsTrue (would_pass u more)
caches_past u more e = by_third (living u more) (actors u more) (caches u more) (regions u more) (pages u more) e

pub pages_past : (u more : Usage) → pages u more ≡ true → IsTrue (would_pass u more)
pages_past u more e = by_fifth (living u more) (actors u more) (caches u more) (regions u more) (pages u more) e

-- Rows

unless_at : (P : Answered → Type 0) (b bad : Bool) (r : Refusal) (m : Machine) (go : Answered) → bad ≡ b → (bad ≡ true → P (refuse m r)) → (bad ≡ false → P go) → P (unless b r m go)
unfolding unless
unless_at P true bad r m go e refused goes = refused e
unless_at P false bad r m go e refused goes = goes e

pub each_unless : (P : Answered → Type 0) (bad : Bool) (r : Refusal) (m : Machine) (go : Answered) → (bad ≡ true → P (refuse m r)) → (bad ≡ false → P go) → P (unless bad r m go)
each_unless P bad r m go refused goes = unless_at P bad bad r m go refl refused goes

some_at : {A : Type 0} (P : Answered → Type 0) (o found : Option A) (r : Refusal) (m : Machine) (go : A → Answered) → o ≡ found → (o ≡ None → P (refuse m r)) → ((x : A) → o ≡ Some x → P (go x)) → P (with_some found r m go)
unfolding with_some
some_at P o None r m go e refused goes = refused e
some_at P o (Some x) r m go e refused goes = goes x e

pub each_some : {A : Type 0} (P : Answered → Type 0) (o : Option A) (r : Refusal) (m : Machine) (go : A → Answered) → (o ≡ None → P (refuse m r)) → ((x : A) → o ≡ Some x → P (go x)) → P (with_some o r m go)
each_some P o r m go refused goes = some_at P o o r m go refl refused goes
