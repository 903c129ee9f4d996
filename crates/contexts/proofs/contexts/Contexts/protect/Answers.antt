use Rattle.std.proofs.Common.{◌≡◌, Some, refl, sym, ap, ◌∙◌, arith}
use Rattle.std.specs.Prelude.{is_some}
use Rattle.vm_model.specs.Machine.{Region}
use Rattle.vm_model.specs.Regions.{status_with}
use Rattle.contexts.proofs.Changing.{inside_alive, inside_seen, inside_sound, inside_starts, inside_there}
use Rattle.contexts.proofs.Told.{told_some}
use Rattle.contexts.proofs.contexts.Contexts.protect.Goals.{In-Some}
use Rattle.contexts.proofs.contexts.Contexts.protect.Goals as goal

pub returns-in_default-clause-found : goal.returns-in_default-clause-found
returns-in_default-clause-found c = ap is_some (sym c.in_default.is ∙ c.status.ensures) ∙ told_some c.args.region.0 1 c.args.self.now.actors

-- the region is told
told : (c : In-Some) → status_with c.args.region.0 1 c.args.self.now.actors ≡ Some c.in-Some.status
told c = sym c.status.ensures ∙ c.in-Some.is

pub protect_region-requires-clause-alive : goal.protect_region-requires-clause-alive
protect_region-requires-clause-alive c = inside_alive c.self.inside c.args.self.now c.self.view_is c.args.region.0 c.in-Some.status (told (goal.at.protect_region-requires-clause-alive c).In-Some) _ c.deref_mut.ensures.value

pub protect_region-requires-clause-there : goal.protect_region-requires-clause-there
protect_region-requires-clause-there c = inside_there c.self.inside c.args.self.now c.self.view_is c.args.region.0 c.in-Some.status (told (goal.at.protect_region-requires-clause-there c).In-Some) _ c.deref_mut.ensures.value

pub protect_region-requires-clause-start : goal.protect_region-requires-clause-start
protect_region-requires-clause-start c = inside_starts c.self.inside c.args.self.now c.self.view_is c.args.region.0 c.in-Some.status (told (goal.at.protect_region-requires-clause-start c).In-Some) _ c.deref_mut.ensures.value c.self.invariant

pub invariant_of-self : goal.invariant_of-self
invariant_of-self c =
    inside_sound c.self.inside c.args.self.now c.self.view_is c.args.region.0 c.in-Some.status (told (goal.at.invariant_of-self c).In-Some) _ c.deref_mut.ensures.value (λ (r : Region). record r { may_write = c.args.prot.write })
    c.protect_region.new.spaces (omega (arith, c.protect_region.auto.spaces, c.deref_mut.ensures.len)) c.protect_region.ensures (λ r. refl) (λ r. refl) (λ r. refl) c.self.invariant

pub returns-clause-found : goal.returns-clause-found
returns-clause-found c = ap is_some (sym c.in-Some.is ∙ c.status.ensures) ∙ told_some c.args.region.0 1 c.args.self.now.actors

pub returns-clause-changed : goal.returns-clause-changed
returns-clause-changed c = λ _.
    inside_seen c.self.inside c.args.self.now c.self.view_is c.args.region.0 c.in-Some.status (told (goal.at.returns-clause-changed c).In-Some) _ c.deref_mut.ensures.value (λ (r : Region). record r { may_write = c.args.prot.write })
    c.protect_region.new.spaces (omega (arith, c.protect_region.auto.spaces, c.deref_mut.ensures.len)) c.protect_region.ensures
