use Rattle.std.proofs.Common.{ap, ◌∙◌, ◌<◌, List, Bool, false, length, slice_set, arith, refl}
use Rattle.vm_ids.proofs.Places.{back}
use Rattle.residency.proofs.Worlds.Composed.{others_then_but}
use Rattle.residency.proofs.Translations.Lost.{lost_filled, tables_same, tables_to}
use Rattle.residency.proofs.store.Store.bring_in.Goals as goal

pub returns-in-Some-clause-tables : goal.returns-in-Some-clause-tables
returns-in-Some-clause-tables g c = tables_same c.args.self.now c.args.self.now refl refl

pub returns-in-Ok-clause-others : goal.returns-in-Ok-clause-others
returns-in-Ok-clause-others g c = others_then_but c.args.node _ _ _ c.make_free.ensures.free.still.stays.caches c.make_free.ensures.free.others c.fill.ensures.fills.others

pub returns-in-Ok-clause-tables : goal.returns-in-Ok-clause-tables
returns-in-Ok-clause-tables g c =
    let within : c.in-Ok.frame.0 < length c.make_free.new.self.map = omega (arith, c.in-Ok.ensures.free.done.within, c.make_free.ensures.free.still.stays.frames, c.make_free.ensures.free.still.stays.right.tied.fitted.map_frames) in
    tables_to c.args.self.now c.make_free.new.self c.fill.new.self
    (lost_filled c.fill.result c.args.self.now.map c.make_free.new.self.map c.fill.new.self.map c.in-Ok.frame.0 c.args.node c.fill.ensures.fills.bound c.fill.ensures.fills.unbound c.in-None.ensures.found c.in-Ok.ensures.free.done.unbound within)
    c.fill.ensures.tables c.make_free.ensures.tables

pub returns-in-Ok-clause-pinned : goal.returns-in-Ok-clause-pinned
returns-in-Ok-clause-pinned g c =
    c.fill.ensures.fills.pinned ∙ ap (λ (xs : List Bool). slice_set xs c.in-Ok.frame.0 false) c.in-Ok.ensures.free.done.pinned ∙ back c.args.self.now.frames.pinned c.in-Ok.frame.0 c.in-Ok.ensures.free.done.loose
