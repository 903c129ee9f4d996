-- A tally, and one answer more.
use Rattle.std.proofs.Common.{◌≡◌, ◌+◌, ◌%◌, ◌^◌, ℕ, Bool, true, false, cond, [], ◌∷◌, ◌++◌, length, sym, ap, ◌∙◌, arith}
use Rattle.std.proofs.Math.Nat.{mod-add-mod}
use Rattle.std.proofs.lemmas.List.{length-append}
use Rattle.std.proofs.lemmas.List.Sums.{sum_by_push}
use Rattle.vm_model.specs.Answering.{Answer}
use Rattle.actor_script.specs.Summary.{is_ok, loaded_in, tally_of, Tallies}
use Rattle.actor_script.specs.declared.tally.Tally.{Tally}

abbrev one_if : Bool → ℕ
one_if b = cond b 1 0

pub tally_more : (t u : Tally) (a : Answer) → u.lines ≡ t.lines + 1 → u.ok ≡ t.ok + cond (is_ok a) 1 0 → u.loaded ≡ (t.loaded + loaded_in a) % 2 ^ 64 → Tallies t a u
tally_more t u a lines ok loaded answers e =
    let m : ℕ = 2 ^ 64 in
    let all = answers ++ a ∷ [] in
    let lines_are : u.lines ≡ length all = omega (arith, lines, ap (λ (x : Tally). x.lines) e, length-append answers (a ∷ [])) in
    let ok_is : u.ok ≡ (tally_of all).ok = ok ∙ ap (λ (n : ℕ). n + one_if (is_ok a)) (ap (λ (x : Tally). x.ok) e) ∙ sym (sum_by_push (λ (x : Answer). cond (is_ok x) 1 0) answers a) in
    let loaded_is : u.loaded ≡ (tally_of all).loaded = loaded ∙ ap (λ (n : ℕ). (n + loaded_in a) % m) (ap (λ (x : Tally). x.loaded) e) ∙ mod-add-mod _ m (loaded_in a) ∙ ap (λ (n : ℕ). n % m) (sym (sum_by_push loaded_in answers a)) in
    λ i. record { lines = lines_are i; ok = ok_is i; loaded = loaded_is i }

-- the same, from what the code has counted
pub tally_then : (t s : Tally) (a : Answer) (is : Bool) (bytes : ℕ) → is ≡ is_ok a → bytes ≡ loaded_in a → s.lines ≡ t.lines + 1 → s.ok ≡ t.ok + cond is 1 0 → s.loaded ≡ t.loaded
    → Tallies t a (record { lines = s.lines; ok = s.ok; loaded = (s.loaded + bytes) % 2 ^ 64 })
tally_then t s a is bytes is_it bytes_are lines ok loaded =
    let m : ℕ = 2 ^ 64 in
    tally_more t _ a lines (ok ∙ ap (λ (b : Bool). t.ok + cond b 1 0) is_it) (ap (λ (n : ℕ). (n + bytes) % m) loaded ∙ ap (λ (n : ℕ). (t.loaded + n) % m) bytes_are)

-- the answer begins with `ok`, or doesn't
pub ok_more : (b : Bool) (n k : ℕ) → b ≡ true → k ≡ n + 1 → k ≡ n + cond b 1 0
ok_more true n k t e = e
ok_more false n k t e = absurd (cc)

pub ok_same : (b : Bool) (n k : ℕ) → b ≡ false → k ≡ n → k ≡ n + cond b 1 0
ok_same true n k t e = absurd (cc)
ok_same false n k t e = omega (arith, e)
