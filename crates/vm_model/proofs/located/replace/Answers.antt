use Rattle.std.proofs.Common.{◌∷◌, []}
use Rattle.std.specs.Vec.{with_item}
use Rattle.vm_model.proofs.Locating.{one_instead, replaced}
use Rattle.vm_model.proofs.located.replace.Goals as goal

pub returns : goal.returns
returns c =
    let l = c.args.located.now in
    let n = l.region.number.0 in
    let xs = c.args.actors.now.items in
    let found = c.index_mut.result.now in
    let x = c.in-Some.actor in
    let r = c.args.region in
    let items = one_instead n xs l c.requires found x c.index_mut.ensures.value c.in-Some.is r in
    replaced n xs l c.requires found x (record { regions = with_item x.regions l.place r }) (r ∷ []) c.index_mut.ensures.value c.in-Some.is items
