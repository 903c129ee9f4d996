use Rattle.std.proofs.Common.{◌≡◌, ℕ, Option, Some, None, true, false, sym, subst, ◌∙◌}
use Rattle.std.specs.Prelude.{MatchOption}
use Rattle.vm_ids.specs.declared.numbers.ActorId.{ActorId}
use Rattle.vm_model.specs.Machine.{numbered}
use Rattle.contexts.specs.Actors.{has_region}
use Rattle.contexts.proofs.Told.{told_has}
use Rattle.contexts.proofs.contexts.Contexts.actor_of.Goals as goal

pub returns : goal.returns
returns c = told_has c.args.region.0 c.args.self.now.actors (Some c.in_ok-status.field-0) (sym c.status.ensures ∙ c.in_ok-status.was)

pub returns-in_err-status : goal.returns-in_err-status
returns-in_err-status c =
    let n = c.args.region.0 in
    let actors = c.args.self.now.actors in
    subst (λ (o : Option ActorId). MatchOption o ((a : ℕ) → has_region n (numbered actors a) ≡ false) (λ a. has_region n (numbered actors a.0) ≡ true))
    (sym c.from_residual.ensures) (told_has n actors None (sym c.status.ensures ∙ c.in_err-status.was))
