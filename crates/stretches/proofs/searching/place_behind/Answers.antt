use Rattle.std.proofs.Common.{leb, leb-false, leb-true, arith, rules}
use Rattle.std.proofs.lemmas.List.Sorted.{IsPartitionPoint-from_clause, IsPartitionedBy-leb}
use Rattle.stretches.proofs.searching.place_behind.Goals as goal

-- the tests are true in front and false behind, since the numbers don't fall
pub returns : goal.returns
returns g c =
    let n = c.args.number in
    let parted = IsPartitionedBy-leb g.T.Keyed.key c.args.leaf.now n c.requires in
    let point = IsPartitionPoint-from_clause (λ x. leb (g.T.Keyed.key x) n) _ _ c.partition_point.ensures.partitioned parted (λ a r f called. search rules) in
    record {
      within = c.partition_point.ensures.bound;
      before = λ k d less. leb-true _ _ (point.0 k d (omega arith) less);
      behind = λ k d from within. leb-false _ _ (point.1 k d from within);
    }
