use Rattle.std.proofs.Common.{◌≡◌, Some, sym, ap, ◌∙◌, subst}
use Rattle.vm_ids.specs.declared.numbers.NodeId.{NodeId}
use Rattle.vm_ids.specs.Forest.Nodes.{is_live}
use Rattle.local_cache.specs.Arena.{Arena, node_at}
use Rattle.vm_ids.specs.declared.node_name.NodeName.TheVariants.{Live}
use Rattle.vm_ids.specs.declared.numbers.CacheId.{CacheId}
use Rattle.vm_ids.specs.declared.numbers.PageNo.{PageNo}
use Rattle.local_cache.specs.declared.own_state.OwnState.{OwnState}
use Rattle.tree_merge.specs.declared.released.Released.{Released}
use Rattle.tree_merge.specs.Releasing.{IsDetached, IsRetired}
use Rattle.tree_merge.specs.Stepping.{IsDetachedAlone}
use Rattle.tree_merge.proofs.Leaving.Detached.{page_held, page_name}
use Rattle.tree_merge.proofs.detaching.detach.Goals as goal

detached : (a b : Arena) (cache : CacheId) (page : PageNo) (s : OwnState) (r : Released) → IsDetachedAlone a b cache page s r → (n : NodeId) → node_at a cache.0 page.0 ≡ Some n → IsDetached a b n (Live cache page) s r
detached a b cache page s r alone n is =
    let two : Some alone.retired.node ≡ Some n = sym alone.retired.at ∙ is in
    let same : alone.retired.node ≡ n = cc two in
    record {
      between = alone.between;
      fresh = alone.fresh;
      retired = subst (λ k. IsRetired a alone.between k r) same alone.retired.retired;
      free = alone.free;
      is = alone.is;
    }

pub renew_node-requires-clause-held : goal.renew_node-requires-clause-held
renew_node-requires-clause-held c = page_held c.args.caches.now c.requires.sound c.args.cache c.args.page _ c.node_of-node.ensures

pub renew_node-requires-clause-live : goal.renew_node-requires-clause-live
renew_node-requires-clause-live c = ap is_live (page_name c.args.caches.now c.requires.sound c.args.cache c.args.page _ c.node_of-node.ensures)

pub returns-clause-alone : goal.returns-clause-alone
returns-clause-alone c = c.renew_node.ensures.alone c.args.cache c.args.page (page_name c.args.caches.now c.requires.sound c.args.cache c.args.page _ c.node_of-node.ensures)

pub returns-clause-forest : goal.returns-clause-forest
returns-clause-forest c = (returns-clause-alone c).forest

pub returns-clause-sound : goal.returns-clause-sound
returns-clause-sound c = (returns-clause-alone c).sound

pub returns-clause-detached : goal.returns-clause-detached
returns-clause-detached c = detached c.args.caches.now _ c.args.cache c.args.page c.args.state _ (returns-clause-alone c)
