use Rattle.std.proofs.Common.{◌≡◌, ◌+◌, ◌≤◌, ℕ, Some, None, refl, sym, ap, ◌∙◌, arith}
use Rattle.std.specs.FinMap as map
use Rattle.own_states.specs.Blocks.{state_at}
use Rattle.own_states.specs.Kinds.{is_among}
use Rattle.own_states.specs.Keys.{place_of}
use Rattle.own_states.proofs.Blocks.{place_small, seen_at}
use Rattle.own_states.proofs.Kept.{said_here}
use Rattle.own_states.proofs.block_map.BlockMap.prefix.Goals as goal

pub returns-in-Some-clause-alike : goal.returns-in-Some-clause-alike
returns-in-Some-clause-alike c k less =
    let fits : c.place_of.result + c.prefix.result ≤ 32 = omega (arith, c.prefix.ensures.within, c.rest_of_block.ensures, c.place_of.ensures.place) in
    ap (is_among c.args.kinds) (sym (said_here c.self.inside.blocks c.args.self.now c.self.view_is c.self.invariant c.args.number c.key_of.result c.place_of.result c.prefix.result c.key_of.ensures c.place_of.ensures.place fits c.in-Some.block.now (sym c.in-Some.ensures) k less))
    ∙ c.prefix.ensures.alike k less

pub returns-in-Some-clause-none : goal.returns-in-Some-clause-none
returns-in-Some-clause-none c zero =
    let at : c.place_of.result ≡ c.place_of.result + c.prefix.result = omega (arith, zero) in
    ap (is_among c.args.kinds) (seen_at c.self.inside.blocks c.args.self.now c.self.view_is c.args.number c.key_of.result c.place_of.result c.key_of.ensures c.place_of.ensures.place (Some c.in-Some.block.now) c.in-Some.ensures
    ∙ ap (state_at c.in-Some.block.now.codes) at)
    ∙ c.prefix.ensures.ends (let small = place_small c.args.number in omega (arith, zero, c.requires, c.rest_of_block.ensures, small))

pub returns-in-None-clause-together : goal.returns-in-None-clause-together
returns-in-None-clause-together c = (let small = place_small c.args.number in omega (arith, small))

pub returns-in-None-clause-none : goal.returns-in-None-clause-none
returns-in-None-clause-none c _ = ap (is_among c.args.kinds) (seen_at c.self.inside.blocks c.args.self.now c.self.view_is c.args.number c.key_of.result (place_of c.args.number) c.key_of.ensures refl None c.in-None.ensures)
