use Rattle.std.proofs.Common.{◌≡◌, ◌≤◌, false, true, List, length, Some, None, sym, ap, subst, ◌∙◌}
use Rattle.linear_index.specs.declared.cell.Cell.{Cell}
use Rattle.linear_index.specs.Chains.{cell_at, free, key_at, key_in}
use Rattle.linear_index.proofs.Placed.{known}
use Rattle.linear_index.proofs.Reading.{past}
use Rattle.linear_index.proofs.index.Index.is_at.Goals as goal

pub returns-in-Some : goal.returns-in-Some
returns-in-Some c =
    let cells = c.self.inside.cells.items in
    let m = known cells c.self.inside.room c.args.self.now c.self.invariant.hashed.once c.self.view_is in
    let at = subst (λ (l : List Cell). c.in-Some.cell.now ≡ cell_at l c.args.place) c.deref.ensures.value (c.in-Some.ensures.lookup.3.1 free) in
    let key : key_at cells c.args.place ≡ key_in c.in-Some.cell.now = ap key_in (sym at) in
    ((λ t. m.there c.args.key c.args.place (key ∙ c.has.ensures.0 t)), (λ e. c.has.ensures.1 (sym key ∙ m.found c.args.key c.args.place e)))

pub returns-in-None : goal.returns-in-None
returns-in-None c =
    let cells = c.self.inside.cells.items in
    let m = known cells c.self.inside.room c.args.self.now c.self.invariant.hashed.once c.self.view_is in
    let none = past cells c.args.place (subst (λ (l : List Cell). length l ≤ c.args.place) c.deref.ensures.value c.in-None.ensures.lookup.3) in
    ((λ t. let never : false ≡ true = t in absurd (cc)), (λ e. let never : Some c.args.key ≡ None = sym (m.found c.args.key c.args.place e) ∙ none in absurd (cc)))
