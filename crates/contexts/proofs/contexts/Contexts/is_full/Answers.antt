use Rattle.std.proofs.Common.{◌≡◌, ◌<◌, ◌≤◌, ℕ, Bool, true, false, length, sym, ap, ◌∙◌, arith}
use Rattle.std.specs.Prelude.{◌||◌, nat_le}
use Rattle.std.proofs.lemmas.Bool.Decides.{nat_tests}
use Rattle.vm_model.specs.declared.limits.TheConstants.{LIVING_ACTORS, MOST_MADE}
use Rattle.contexts.specs.Actors.{is_full}
use Rattle.contexts.proofs.Living.{full_by}
use Rattle.contexts.proofs.contexts.Contexts.is_full.Goals as goal

full_if : (living made : ℕ) → LIVING_ACTORS ≤ living → (nat_le LIVING_ACTORS living || nat_le MOST_MADE made) ≡ true
full_if living made h = let e : nat_le LIVING_ACTORS living ≡ true = grind (arith, nat_tests) in ap (λ (b : Bool). b || nat_le MOST_MADE made) e

full_or : (living made : ℕ) → living < LIVING_ACTORS → (nat_le LIVING_ACTORS living || nat_le MOST_MADE made) ≡ nat_le MOST_MADE made
full_or living made h = let e : nat_le LIVING_ACTORS living ≡ false = grind (arith, nat_tests) in ap (λ (b : Bool). b || nat_le MOST_MADE made) e

pub returns-then-self-ge-LIVING_ACTORS : goal.returns-then-self-ge-LIVING_ACTORS
returns-then-self-ge-LIVING_ACTORS c =
    let i = c.self.inside in
    let here : nat_le 256 i.living ≡ true = (let most = c.if-self-ge-LIVING_ACTORS.true in grind (arith, nat_tests)) in
    here ∙ sym (full_if i.living (length i.actors.items) c.if-self-ge-LIVING_ACTORS.true)
    ∙ sym (full_by i.page i.living i.actors.items (length i.owners.items) c.self.invariant.living) ∙ ap is_full c.self.view_is

pub returns-else-self-ge-LIVING_ACTORS : goal.returns-else-self-ge-LIVING_ACTORS
returns-else-self-ge-LIVING_ACTORS c =
    let i = c.self.inside in
    let made : c.len.result ≡ length i.actors.items = omega (arith, c.len.ensures) in
    ap (λ (n : ℕ). nat_le MOST_MADE n) made ∙ sym (full_or i.living (length i.actors.items) c.if-self-ge-LIVING_ACTORS.false)
    ∙ sym (full_by i.page i.living i.actors.items (length i.owners.items) c.self.invariant.living) ∙ ap is_full c.self.view_is
