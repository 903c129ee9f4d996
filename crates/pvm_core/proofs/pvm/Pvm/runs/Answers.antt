use Rattle.std.proofs.Common.{◌+◌, ap, arith}
use Rattle.std.proofs.Math.Nat.{min-le_right}
use Rattle.std.proofs.lemmas.List.{length-map}
use Rattle.vm_ids.specs.declared.reply.Counts.{Counts}
use Rattle.vm_ids.specs.Forest.NameMap.{keys}
use Rattle.vm_ids.specs.Forest.Nodes.{is_live}
use Rattle.vm_ids.proofs.Forest.Bound.{split_length}
use Rattle.local_cache.specs.Reading.{forest_of}
use Rattle.pvm_core.proofs.pvm.Pvm.runs.Goals as goal

pub overflow_add-nodes : goal.overflow_add-nodes
overflow_add-nodes c =
    let e = c.counts-counts.ensures in
    let nodes = (forest_of c.self.inside.caches).nodes in
    omega (arith, ap (λ (k : Counts). k.live) e.counts, ap (λ (k : Counts). k.working) e.counts, split_length is_live (keys nodes), length-map nodes.list (λ n. n.0), e.few)

pub overflow_cast-result : goal.overflow_cast-result
overflow_cast-result c =
    let e = c.counts-counts.ensures in
    let nodes = (forest_of c.self.inside.caches).nodes in
    omega (arith, c.min.ensures, min-le_right c.runs.result (c.counts-counts.result.live + c.counts-counts.result.working), ap (λ (k : Counts). k.live) e.counts, ap (λ (k : Counts). k.working) e.counts, split_length is_live (keys nodes), length-map nodes.list (λ n. n.0), e.few)
