-- By how much counts rise in calls one after the other.
use Rattle.std.proofs.Common.{◌≡◌, ℕ, ◌+◌, ◌<◌, refl, ◌∙◌, arith}
use Rattle.std.specs.Prelude.{Result, Ok, Err, OnErr}
use Rattle.vm_ids.specs.Counting.{Counted, MapperCounts, Rise, counts_sum, no_counts}
use Rattle.vm_port.specs.declared.traits.mapper.Mapper.{Ghosts as GhostsOfMapper}
use Rattle.gmi_calls.specs.Calling.{NoTraffic}
use Rattle.gmi_calls.specs.Reaching.{Asked, NoPages, Reached}

pub rise_none : (a : MapperCounts) → Rise a a no_counts
rise_none a = record {
  faults_later = omega arith;
  pulls_later = omega arith;
  pushes_later = omega arith;
  faults = λ h. omega arith;
  pulls = λ h. omega arith;
  pushes = λ h. omega arith;
}

pub rise_then : (a b c x y : MapperCounts) → Rise a b x → Rise b c y → Rise a c (counts_sum x y)
rise_then a b c x y p q = record {
  faults_later = omega (arith, p.faults_later, q.faults_later);
  pulls_later = omega (arith, p.pulls_later, q.pulls_later);
  pushes_later = omega (arith, p.pushes_later, q.pushes_later);
  faults = λ h. omega (arith, p.faults, q.faults, q.faults_later, h);
  pulls = λ h. omega (arith, p.pulls, q.pulls, q.pulls_later, h);
  pushes = λ h. omega (arith, p.pushes, q.pushes, q.pushes_later, h);
}

-- one call with so many pulls and pushes
abbrev pub one_call : {T E : Type 0} → ℕ → ℕ → Result T E → MapperCounts
one_call pulls pushes (Ok x) = record { faults = 0; pulls = pulls; pushes = pushes }
one_call pulls pushes (Err e) = record { faults = 1; pulls = pulls; pushes = pushes }

pub counted : {T E : Type 0} (pulls pushes : ℕ) (before now : MapperCounts) (r : Result T E) → Counted pulls pushes before now r → Rise before now (one_call pulls pushes r)
counted pulls pushes before now (Ok x) c = record {
  faults_later = c.faults.later;
  pulls_later = c.pulls_later;
  pushes_later = c.pushes_later;
  faults = λ h. omega (arith, c.faults.later);
  pulls = c.pulled;
  pushes = c.pushed;
}
counted pulls pushes before now (Err e) c = record {
  faults_later = c.faults.later;
  pulls_later = c.pulls_later;
  pushes_later = c.pushes_later;
  faults = λ h. omega (arith, c.faults.failed h);
  pulls = c.pulled;
  pushes = c.pushed;
}

one_pulls : {T E : Type 0} (pulls pushes : ℕ) (r : Result T E) → (one_call pulls pushes r).pulls ≡ pulls
one_pulls pulls pushes (Ok x) = refl
one_pulls pulls pushes (Err e) = refl

one_pushes : {T E : Type 0} (pulls pushes : ℕ) (r : Result T E) → (one_call pulls pushes r).pushes ≡ pushes
one_pushes pulls pushes (Ok x) = refl
one_pushes pulls pushes (Err e) = refl

-- no page came or went in either of two calls
pub no_pages_sum : (x y : MapperCounts) → NoPages x → NoPages y → NoPages (counts_sum x y)
no_pages_sum x y p q = record { pulled = omega (arith, p.pulled, q.pulled); pushed = omega (arith, p.pushed, q.pushed) }

pub one_failed : {T E : Type 0} (pulls pushes : ℕ) (r : Result T E) → OnErr r (0 < (one_call pulls pushes r).faults)
one_failed pulls pushes (Ok x) = tt
one_failed pulls pushes (Err e) = omega arith

-- nothing was reached yet, and all went well
abbrev pub reached_none : {T E : Type 0} (a : MapperCounts) (x : T) → Reached a a (let r : Result T E = Ok x in r)
reached_none a x = record { rises = no_counts; rose = rise_none a; failed = tt }

pub failed_more : {T E : Type 0} (x y : ℕ) (r : Result T E) → OnErr r (0 < y) → OnErr r (0 < x + y)
failed_more x y (Ok u) h = tt
failed_more x y (Err e) h = omega (arith, h)

-- one call more, after which all is said
abbrev pub reached_then : {T U E F : Type 0} (a b c : MapperCounts) (r : Result T E) (s : Result U F) → Reached a b r → (y : MapperCounts) → Rise b c y → OnErr s (0 < y.faults) → Reached a c s
reached_then a b c r s R y rose failed = record { rises = counts_sum R.rises y; rose = rise_then a b c R.rises y R.rose rose; failed = failed_more R.rises.faults y.faults s failed }

-- a call that failed
pub fault_counted : {T E : Type 0} (pulls pushes : ℕ) (r : Result T E) (e : E) → r ≡ Err e → 0 < (one_call pulls pushes r).faults
fault_counted pulls pushes (Ok x) e was = absurd (cc was)
fault_counted pulls pushes (Err x) e was = omega arith

pub on_err : {T E : Type 0} (r : Result T E) (P : Type 0) → P → OnErr r P
on_err (Ok x) P h = tt
on_err (Err e) P h = h

-- one call
abbrev pub reached_one : {T E : Type 0} (pulls pushes : ℕ) (before now : MapperCounts) (r : Result T E) → Counted pulls pushes before now r → Reached before now r
reached_one pulls pushes before now r c = record { rises = one_call pulls pushes r; rose = counted pulls pushes before now r c; failed = one_failed pulls pushes r }

-- nothing was pulled or pushed
pub quiet_none : (a : MapperCounts) → NoTraffic a a
quiet_none a = record { pulled = λ h. omega arith; pushed = λ h. omega arith }

pub quiet_then : {T E : Type 0} (a b c : MapperCounts) (r : Result T E) → NoTraffic a b → Counted 0 0 b c r → NoTraffic a c
quiet_then a b c r q k = record {
  pulled = λ h. let e : c.pulls ≡ b.pulls + 0 = k.pulled h in omega (arith, e, q.pulled, h);
  pushed = λ h. let e : c.pushes ≡ b.pushes + 0 = k.pushed h in omega (arith, e, q.pushed, h);
}

module _ {X : Type 0} (M : GhostsOfMapper X) where
  -- the mapper wasn't asked yet
  pub asked_none : {T E : Type 0} (a : X) (x : T) → Asked M a a (let r : Result T E = Ok x in r)
  asked_none a x = record { held = refl; reached = reached_none (M.counts a) x; no_pages = record { pulled = refl; pushed = refl }; quiet = quiet_none (M.counts a); page = refl }

  -- it was asked once more, after which all is said
  pub asked_then : {T U V E F : Type 0} (a b c : X) (r : Result T F) (s : Result U V) → Asked M a b (let o : Result (Unit {0}) E = Ok tt in o) → M.held c ≡ M.held b → Counted 0 0 (M.counts b) (M.counts c) r → M.page_bytes c ≡ M.page_bytes b
      → OnErr s (0 < (one_call 0 0 r).faults) → Asked M a c s
  asked_then a b c r s A held k page failed = record {
    held = held ∙ A.held;
    reached = reached_then (M.counts a) (M.counts b) (M.counts c) _ s A.reached (one_call 0 0 r) (counted 0 0 (M.counts b) (M.counts c) r k) failed;
    no_pages = no_pages_sum A.reached.rises (one_call 0 0 r) A.no_pages (record { pulled = one_pulls 0 0 r; pushed = one_pushes 0 0 r });
    quiet = quiet_then (M.counts a) (M.counts b) (M.counts c) r A.quiet k;
    page = page ∙ A.page;
  }

  -- whatever it tells then
  pub asked_alike : {T U E : Type 0} {r : Result T E} (a b : X) (x : U) → Asked M a b r → Asked M a b (let o : Result U E = Ok x in o)
  asked_alike a b x A = record { held = A.held; reached = record { rises = A.reached.rises; rose = A.reached.rose; failed = tt }; no_pages = A.no_pages; quiet = A.quiet; page = A.page }
