use Rattle.std.proofs.Common.{ap, ◌∙◌, arith}
use Rattle.std.proofs.lemmas.List.{get_or_read}
use Rattle.std.specs.FinMap as map
use Rattle.linear_index.specs.Chains.{free, key_in}
use Rattle.linear_index.proofs.Placed.{known}
use Rattle.linear_index.proofs.Reading.{below, key_is}
use Rattle.linear_index.proofs.index.Index.key.Goals as goal

pub index-requires : goal.index-requires
index-requires c =
    let m = known c.self.inside.cells.items c.self.inside.room c.args.self.now c.self.invariant.hashed.once c.self.view_is in
    omega (arith, below c.self.inside.cells.items c.args.place c.requires.0 (m.found c.requires.0 c.args.place c.requires.1))

pub returns : goal.returns
returns c =
    let m = known c.self.inside.cells.items c.self.inside.room c.args.self.now c.self.invariant.hashed.once c.self.view_is in
    let at = m.found c.requires.0 c.args.place c.requires.1 in
    let cell = get_or_read c.self.inside.cells.items c.args.place c.index.result.now (below c.self.inside.cells.items c.args.place c.requires.0 at) c.index.ensures free in
    let same = key_is c.index.result.now.link c.index.result.now.key c.requires.0 (ap key_in cell ∙ at) in
    ap (map.get c.args.self.now.places) same ∙ c.requires.1
