use Rattle.std.proofs.Common.{◌≡◌, ◌≢◌, ◌<◌, ℕ, ap, subst, arith, None, Some, length}
use Rattle.std.specs.Prelude.{MatchOption}
use Rattle.page_tables.specs.Membership.{Membership, list_of}
use Rattle.page_tables.proofs.LinkReads.{read_as, first_listed}
use Rattle.page_tables.proofs.lists.EntryLists.first.Goals as goal

pub returns : goal.returns
returns c =
    let below : c.args.list < length c.self.inside.heads.items = omega (arith, c.requires, ap (λ (m : Membership). m.lists) c.self.view_is) in
    subst (λ (m : Membership). MatchOption c.index.result.now ((entry : ℕ) → list_of m entry ≢ Some c.args.list) (λ entry. list_of m entry ≡ Some c.args.list)) c.self.view_is
    (first_listed c.self.inside.heads.items c.self.inside.counts.items c.self.inside.links c.args.list c.self.invariant c.index.result.now (read_as c.self.inside.heads.items c.args.list c.index.result.now None below c.index.ensures))
