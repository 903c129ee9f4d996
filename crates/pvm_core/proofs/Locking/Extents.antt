-- Locks on the pages of an extent: one page more of it, and how many pages are locked then.
use Rattle.std.proofs.Common.{◌≡◌, ℕ, ◌+◌, ◌-◌, ◌<◌, ◌≤◌, ◌&&◌, ◌==◌, Bool, true, false, refl, sym, ap, ◌∙◌, subst, arith, inl, inr}
use Rattle.std.specs.Prelude.{nat_le, nat_lt}
use Rattle.std.proofs.lemmas.Bool.{cases_eq, eq-eqb, eqb-true, le-leb, leb-true, lt-ltb, ltb-true}
use Rattle.vm_ids.specs.declared.command.Extent.{Extent}
use Rattle.vm_ids.specs.declared.numbers.CacheId.{CacheId}
use Rattle.vm_ids.proofs.Places.{bit}
use Rattle.local_cache.specs.Arena.{Arena}
use Rattle.pvm_core.specs.Holding.{LocksMore, covers, one_page}

-- Which pages are covered

pub record IsIn (e : Extent) (cache page : ℕ) : Type 0 where
  pub same : e.cache.0 ≡ cache
  pub from : e.first.0 ≤ page
  pub past : page < e.first.0 + e.pages

pub and_left : (a b : Bool) → (a && b) ≡ true → a ≡ true
and_left true b e = refl
and_left false b e = absurd (cc e)

pub and_right : (a b : Bool) → (a && b) ≡ true → b ≡ true
and_right true b e = e
and_right false b e = absurd (cc e)

pub covers_is : (e : Extent) (cache page : ℕ) → covers e cache page ≡ true → IsIn e cache page
covers_is e cache page is =
    let two = and_left (e.cache.0 == cache && nat_le e.first.0 page) (nat_lt page (e.first.0 + e.pages)) is in
    let d : (e.cache.0 == cache) ≡ true = and_left (e.cache.0 == cache) (nat_le e.first.0 page) two in
    let low : nat_le e.first.0 page ≡ true = and_right (e.cache.0 == cache) (nat_le e.first.0 page) two in
    let high : nat_lt page (e.first.0 + e.pages) ≡ true = and_right (e.cache.0 == cache && nat_le e.first.0 page) (nat_lt page (e.first.0 + e.pages)) is in
    record { same = eqb-true e.cache.0 cache d; from = leb-true e.first.0 page low; past = ltb-true page (e.first.0 + e.pages) high }

pub covers_yes : (e : Extent) (cache page : ℕ) → IsIn e cache page → covers e cache page ≡ true
covers_yes e cache page k =
    let d : (e.cache.0 == cache) ≡ true = eq-eqb e.cache.0 cache k.same in
    let l : nat_le e.first.0 page ≡ true = le-leb e.first.0 page k.from in
    let h : nat_lt page (e.first.0 + e.pages) ≡ true = lt-ltb page (e.first.0 + e.pages) k.past in
    (λ i. d i && l i && h i)

pub covers_no : (e : Extent) (cache page : ℕ) → (IsIn e cache page → ⊥) → covers e cache page ≡ false
covers_no e cache page out = go (covers e cache page) refl
  where
    go : (b : Bool) → covers e cache page ≡ b → covers e cache page ≡ false
    go false is = is
    go true is = absurd (out (covers_is e cache page is))

abbrev pub extent : CacheId → ℕ → ℕ → Extent
extent cache first pages = record { cache = cache; first = record { 0 = first }; pages = pages }

-- a page more is covered
pub covers_next : (cache : CacheId) (first n c p : ℕ) → bit (covers (extent cache first (n + 1)) c p) ≡ bit (covers (extent cache first n) c p) + bit (covers (one_page cache (first + n)) c p)
covers_next cache first n c p = go (covers (extent cache first (n + 1)) c p) refl
  where
    go : (b : Bool) → covers (extent cache first (n + 1)) c p ≡ b → bit (covers (extent cache first (n + 1)) c p) ≡ bit (covers (extent cache first n) c p) + bit (covers (one_page cache (first + n)) c p)
    go true is =
        let k = covers_is (extent cache first (n + 1)) c p is in
        elim (cases_eq p (first + n)) [
          | inl q ↦ (
              let no = covers_no (extent cache first n) c p (λ j. absurd (omega (arith, j.past, q))) in
              let yes = covers_yes (one_page cache (first + n)) c p (record { same = k.same; from = omega (arith, q); past = omega (arith, q) }) in
              omega (arith, ap bit is, ap bit no, ap bit yes))
          | inr d ↦ (
              let low : p < first + n = omega (arith, k.past, d) in
              let yes = covers_yes (extent cache first n) c p (record { same = k.same; from = k.from; past = low }) in
              let no = covers_no (one_page cache (first + n)) c p (λ j. absurd (omega (arith, j.from, low))) in
              omega (arith, ap bit is, ap bit no, ap bit yes))
        ]
    go false is =
        let out : IsIn (extent cache first (n + 1)) c p → ⊥ = λ k. (let yes = covers_yes (extent cache first (n + 1)) c p k in let f : false ≡ true = sym is ∙ yes in cc f) in
        let no = covers_no (extent cache first n) c p (λ j. out (record { same = j.same; from = j.from; past = omega (arith, j.past) })) in
        let none = covers_no (one_page cache (first + n)) c p (λ j. out (record { same = j.same; from = omega (arith, j.from); past = omega (arith, j.past) })) in
        omega (arith, ap bit is, ap bit no, ap bit none)

-- Locks, one page after the other

pub more_then : (cache : CacheId) (first n : ℕ) (a b d : Arena) → LocksMore (extent cache first n) a b → LocksMore (one_page cache (first + n)) b d → LocksMore (extent cache first (n + 1)) a d
more_then cache first n a b d one two c p = omega (arith, one c p, two c p, covers_next cache first n c p)

-- the same where locks are dropped
pub less_then : (cache : CacheId) (first n : ℕ) (a b d : Arena) → LocksMore (extent cache first n) b a → LocksMore (one_page cache (first + n)) d b → LocksMore (extent cache first (n + 1)) d a
less_then cache first n a b d one two c p = omega (arith, one c p, two c p, covers_next cache first n c p)

-- from a page on, up to another
pub more_upto : (cache : CacheId) (first page : ℕ) → first ≤ page → (a b d : Arena) → LocksMore (extent cache first (page - first)) a b → LocksMore (one_page cache page) b d → LocksMore (extent cache first (page + 1 - first)) a d
more_upto cache first page low a b d one two =
    let next : page - first + 1 ≡ page + 1 - first = omega (arith, low) in
    let here : page ≡ first + (page - first) = omega (arith, low) in
    subst (λ n. LocksMore (extent cache first n) a d) next (more_then cache first (page - first) a b d one (subst (λ p. LocksMore (one_page cache p) b d) here two))

pub less_upto : (cache : CacheId) (first page : ℕ) → first ≤ page → (a b d : Arena) → LocksMore (extent cache first (page - first)) b a → LocksMore (one_page cache page) d b → LocksMore (extent cache first (page + 1 - first)) d a
less_upto cache first page low a b d one two =
    let next : page - first + 1 ≡ page + 1 - first = omega (arith, low) in
    let here : page ≡ first + (page - first) = omega (arith, low) in
    subst (λ n. LocksMore (extent cache first n) d a) next (less_then cache first (page - first) a b d one (subst (λ p. LocksMore (one_page cache p) d b) here two))
