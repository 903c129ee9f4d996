use Rattle.std.proofs.Common.{◌≡◌, subst}
use Rattle.std.specs.Prelude.{IfErr, IfOk, Err}
use Rattle.vm_model.specs.Machine.{numbered}
use Rattle.vm_model.specs.Place.{place, place_of_actor}
use Rattle.flat_mm.specs.Accessing.{IsPlacedAt}
use Rattle.flat_mm.specs.Manager.{Manager, machine_in}
use Rattle.flat_mm.proofs.Accesses.{found_of, refused_of}
use Rattle.flat_mm.proofs.manager.FlatMm.locate.Goals as goal

pub returns-clause-refused : goal.returns-clause-refused
returns-clause-refused c =
    let t = c.self.inside.contexts in
    subst (λ (p : Manager). IfErr c.locate.result (λ e. place (machine_in p) c.args.actor.0 c.args.address c.args.bytes ≡ Err e)) c.self.view_is
    (refused_of (place_of_actor t.page_bytes (numbered t.actors c.args.actor.0) c.args.address c.args.bytes) c.locate.result c.locate.ensures)

pub returns-clause-found : goal.returns-clause-found
returns-clause-found c =
    let i = c.self.inside in
    subst (λ (p : Manager). IfOk c.locate.result (λ at. IsPlacedAt p c.args.actor.0 c.args.address c.args.bytes at)) c.self.view_is
    (found_of i.store i.contexts i.actors c.self.invariant c.args.actor.0 c.args.address c.args.bytes c.locate.result c.locate.ensures)
