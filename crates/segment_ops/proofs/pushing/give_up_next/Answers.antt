use Rattle.std.proofs.Common.{◌≡◌, Some, is_some, sym, ap, ◌∙◌, arith}
use Rattle.vm_ids.specs.declared.numbers.NodeId.{NodeId}
use Rattle.local_cache.specs.Arena.{node_at}
use Rattle.local_cache.specs.Own.{is_resident, own_of}
use Rattle.fault_path.specs.Translating.{Nobody}
use Rattle.residency.specs.Between.{world_at}
use Rattle.residency.specs.World.{World}
use Rattle.residency.proofs.Forests.StillForest.{still_like}
use Rattle.residency.proofs.Translations.Kept.{same_drops}
use Rattle.segment_ops.proofs.AlikePages.{alike_out}
use Rattle.segment_ops.proofs.Granting.{range_home}
use Rattle.segment_ops.proofs.SyncedPages.{same_node}
use Rattle.segment_ops.proofs.pushing.give_up_next.Goals as goal

pub frameless_nodes-out-requires : goal.frameless_nodes-out-requires
frameless_nodes-out-requires g c = (c.requires.sound.kept.listed.nodes c.args.range.cache.0 c.args.range.first.0 c.node_of-node.result c.node_of-node.ensures).0

pub returns-then-out-gt0-clause-out : goal.returns-then-out-gt0-clause-out
returns-then-out-gt0-clause-out g c =
    let e = c.frameless_nodes-out.ensures in
    alike_out c.args.caches.now c.requires.sound c.args.range c.node_of-node.result c.node_of-node.ensures c.frameless_nodes-out.result e.alike (e.out c.if-out-gt0.true)

pub returns-then-out-gt0-clause-drops : goal.returns-then-out-gt0-clause-drops
returns-then-out-gt0-clause-drops g c = same_drops Nobody c.args.caches.now c.args.store.now c.requires.right.tied.placed

pub let_go-requires-clause-home : goal.let_go-requires-clause-home
let_go-requires-clause-home g c =
    let named = c.requires.named in
    ap is_some (range_home c.args.caches.now c.requires.sound c.args.range.cache c.args.range.first.0 c.node_of-node.result named.0 c.node_of-node.ensures named.1)

pub let_go-requires-clause-settled : goal.let_go-requires-clause-settled
let_go-requires-clause-settled g c = (c.requires.synced c.args.range.first.0 c.node_of-node.result (omega arith) (omega (arith, c.requires.some)) c.node_of-node.ensures).settled

pub let_go-requires-clause-loose : goal.let_go-requires-clause-loose
let_go-requires-clause-loose g c = λ f at. c.requires.loose c.args.range.first.0 c.node_of-node.result f (omega arith, omega (arith, c.requires.some)) c.node_of-node.ensures at

pub returns-clause-out : goal.returns-clause-out
returns-clause-out g c page n is at =
    let M = g.M.Mapper in
    let w : World = world_at M c.args.mapper.now c.args.caches.now c.args.store.now in
    let v : World = world_at M c.let_go.new.mapper c.let_go.new.caches c.let_go.new.store in
    let e = c.let_go.ensures in
    let place : page ≡ c.args.range.first.0 = omega (arith, is.0, is.1) in
    let here : node_at w.caches c.args.range.cache.0 c.args.range.first.0 ≡ Some n =
    ap (node_at w.caches c.args.range.cache.0) (sym place) ∙ sym (same_node w.caches v.caches (still_like w.caches v.caches e.still.stays.caches) c.args.range.cache.0 page) ∙ at in
    let same : c.node_of-node.result ≡ n = cc (c.node_of-node.ensures, here) in
    ap (λ (k : NodeId). is_resident (own_of v.caches k)) (sym same) ∙ e.out
