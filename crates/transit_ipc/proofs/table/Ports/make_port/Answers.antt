use Rattle.std.proofs.Common.{List, [], ◌∷◌, ◌++◌, refl, ap, ◌∙◌, arith}
use Rattle.std.proofs.lemmas.Result.{err_from_is_err_and}
use Rattle.transit_ipc.specs.declared.port.Port.{Port}
use Rattle.transit_ipc.proofs.Commands.PortMade.{made_port, no_memory, refused_port}
use Rattle.transit_ipc.proofs.table.Ports.make_port.Goals as goal

pub returns-then-made : goal.returns-then-made
returns-then-made g c = refused_port c.args.self.now c.args.depth (omega (arith, c.len-made.ensures, c.if-made.true))

pub returns-in_err-lengthen : goal.returns-in_err-lengthen
returns-in_err-lengthen g c =
    let p = err_from_is_err_and c.from_residual.result c.from_residual.ensures.1 in
    rw (p.1, p.2) (no_memory c.args.self.now _ c.args.depth (omega (arith, c.len-made.ensures, c.if-made.false)) refl refl)

pub returns-in_err-messages : goal.returns-in_err-messages
returns-in_err-messages g c =
    let p = err_from_is_err_and c.from_residual-in_err-messages.result c.from_residual-in_err-messages.ensures.1 in
    rw (p.1, p.2) (no_memory c.args.self.now _ c.args.depth (omega (arith, c.len-made.ensures, c.if-made.false)) refl refl)

pub returns-in_err-reserve : goal.returns-in_err-reserve
returns-in_err-reserve g c =
    let p = err_from_is_err_and c.from_residual-in_err-reserve.result c.from_residual-in_err-reserve.ensures.1 in
    rw (p.1, p.2) (no_memory c.args.self.now _ c.args.depth (omega (arith, c.len-made.ensures, c.if-made.false)) refl c.reserve.ensures.items)

pub returns : goal.returns
returns g c =
    let fresh : Port = record { depth = c.args.depth; messages = c.in_ok-messages.messages } in
    made_port c.args.self.now.ports.items fresh c.in_ok-messages.ensures.items c.in_ok-messages.ensures.capacity c.args.self.now _ c.len-made.result (omega (arith, c.len-made.ensures)) (omega (arith, c.len-made.ensures, c.if-made.false)) refl refl
    (c.push_reserved.ensures.items ∙ ap (λ (xs : List Port). xs ++ fresh ∷ []) c.reserve.ensures.items)
