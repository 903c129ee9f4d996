use Rattle.std.proofs.Common.{◌≡◌, ◌+◌, ◌-◌, ℕ, sym, ap, subst, ◌∙◌, arith}
use Rattle.stretches.specs.declared.stretch.Stretch.{Stretch}
use Rattle.stretches.proofs.Reading.Numbers.{high, low}
use Rattle.local_cache.specs.NodeKeys.{key_at}
use Rattle.local_cache.specs.NodeTable.{AreSaidBy, Table}
use Rattle.local_cache.specs.Thin.{thin_number}
use Rattle.local_cache.specs.declared.runs.run.Run.{Run}
use Rattle.local_cache.proofs.TableRight.Together.{page_not_thin, table_gathered}
use Rattle.local_cache.proofs.runs.node_table.NodeTable.gather.Goals as goal

pub invariant_of-self : goal.invariant_of-self
invariant_of-self c =
    let r : Stretch Run = record { first = c.args.node; count = c.args.count; value = c.args.run } in
    let P : Table → Type 0 = λ t. AreSaidBy t c.args.node c.args.run c.args.count in
    let said = subst P (sym c.self.view_is) c.requires.said in
    table_gathered c.self.inside.nodes c.gather.new.self c.self.inside.thin r c.self.invariant
    (λ n h.
    let from = low r n h in
    let to = high r n h in
    let far : c.args.node + (n - c.args.node) ≡ n = omega (arith, from) in
    let one = said (n - c.args.node) (omega (arith, from, to)) in
    ap (λ (k : ℕ). key_at thin_number c.self.inside.nodes.cells k) (sym far) ∙ page_not_thin c.self.inside.nodes.cells (c.args.node + (n - c.args.node)) _ one.said one.page)
    c.gather.ensures.cells (c.gather.ensures.gone c.requires.more) c.gather.ensures.count c.gather.ensures.room
