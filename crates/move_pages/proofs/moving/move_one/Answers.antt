use Rattle.std.proofs.Common.{sym, ap, subst}
use Rattle.vm_ids.specs.Forest.Nodes.{is_live}
use Rattle.local_cache.specs.Arena.{Arena}
use Rattle.local_cache.proofs.Whole.LivePages.{page_there}
use Rattle.tree_merge.proofs.Leaving.Detached.{page_held, page_name}
use Rattle.move_pages.specs.Moved.{IsMovedAlone}
use Rattle.move_pages.proofs.MovedPages.Exchanged.{fresh_named, fresh_source, moved_node, source_named}
use Rattle.move_pages.proofs.moving.move_one.Goals as goal

pub node_of-node-requires : goal.node_of-node-requires
node_of-node-requires c = page_there c.args.caches.now c.requires.sound c.args.to c.args.to_page c.requires.pages.destination

pub node_of-source-requires : goal.node_of-source-requires
node_of-source-requires c = page_there c.args.caches.now c.requires.sound c.args.from c.args.from_page c.requires.pages.source

pub renew_node-released-requires-clause-held : goal.renew_node-released-requires-clause-held
renew_node-released-requires-clause-held c = page_held c.args.caches.now c.requires.sound c.args.to c.args.to_page c.node_of-node.result c.node_of-node.ensures

pub renew_node-released-requires-clause-live : goal.renew_node-released-requires-clause-live
renew_node-released-requires-clause-live c = ap is_live (page_name c.args.caches.now c.requires.sound c.args.to c.args.to_page c.node_of-node.result c.node_of-node.ensures)

pub exchange_names-requires-clause-nodes : goal.exchange_names-requires-clause-nodes
exchange_names-requires-clause-nodes c =
    fresh_named c.args.caches.now c.renew_node-released.new.caches c.requires.sound c.requires.consistent c.args.to c.args.to_page c.args.from c.args.from_page c.renew_node-released.result.0
    (c.renew_node-released.ensures.alone c.args.to c.args.to_page (page_name c.args.caches.now c.requires.sound c.args.to c.args.to_page c.node_of-node.result c.node_of-node.ensures))
    c.node_of-source.result (page_held c.args.caches.now c.requires.sound c.args.from c.args.from_page c.node_of-source.result c.node_of-source.ensures) (page_name c.args.caches.now c.requires.sound c.args.from c.args.from_page c.node_of-source.result c.node_of-source.ensures) c.requires.pages
    c.renew_node-released.result.1 (c.renew_node-released.ensures.page c.args.to c.args.to_page (page_name c.args.caches.now c.requires.sound c.args.to c.args.to_page c.node_of-node.result c.node_of-node.ensures))

pub exchange_names-requires-clause-others : goal.exchange_names-requires-clause-others
exchange_names-requires-clause-others c =
    source_named c.args.caches.now c.renew_node-released.new.caches c.requires.sound c.requires.consistent c.args.to c.args.to_page c.args.from c.args.from_page c.renew_node-released.result.0
    (c.renew_node-released.ensures.alone c.args.to c.args.to_page (page_name c.args.caches.now c.requires.sound c.args.to c.args.to_page c.node_of-node.result c.node_of-node.ensures))
    c.node_of-source.result (page_held c.args.caches.now c.requires.sound c.args.from c.args.from_page c.node_of-source.result c.node_of-source.ensures) (page_name c.args.caches.now c.requires.sound c.args.from c.args.from_page c.node_of-source.result c.node_of-source.ensures) c.requires.pages
    c.renew_node-released.result.1 (c.renew_node-released.ensures.page c.args.to c.args.to_page (page_name c.args.caches.now c.requires.sound c.args.to c.args.to_page c.node_of-node.result c.node_of-node.ensures))

pub exchange_names-requires-clause-apart : goal.exchange_names-requires-clause-apart
exchange_names-requires-clause-apart c =
    fresh_source c.args.caches.now c.renew_node-released.new.caches c.requires.sound c.requires.consistent c.args.to c.args.to_page c.args.from c.args.from_page c.renew_node-released.result.0
    (c.renew_node-released.ensures.alone c.args.to c.args.to_page (page_name c.args.caches.now c.requires.sound c.args.to c.args.to_page c.node_of-node.result c.node_of-node.ensures))
    c.node_of-source.result (page_held c.args.caches.now c.requires.sound c.args.from c.args.from_page c.node_of-source.result c.node_of-source.ensures) (page_name c.args.caches.now c.requires.sound c.args.from c.args.from_page c.node_of-source.result c.node_of-source.ensures) c.requires.pages
    c.renew_node-released.result.1 (c.renew_node-released.ensures.page c.args.to c.args.to_page (page_name c.args.caches.now c.requires.sound c.args.to c.args.to_page c.node_of-node.result c.node_of-node.ensures))

pub returns : goal.returns
returns c =
    let one = subst (λ (x : Arena). IsMovedAlone c.args.caches.now x c.args.from c.args.from_page c.args.to c.args.to_page c.renew_node-released.result.0) (sym c.exchange_names.ensures.changed)
    (moved_node c.args.caches.now c.renew_node-released.new.caches c.requires.sound c.requires.consistent c.args.to c.args.to_page c.args.from c.args.from_page c.renew_node-released.result.0
    (c.renew_node-released.ensures.alone c.args.to c.args.to_page (page_name c.args.caches.now c.requires.sound c.args.to c.args.to_page c.node_of-node.result c.node_of-node.ensures))
    c.node_of-source.result (page_held c.args.caches.now c.requires.sound c.args.from c.args.from_page c.node_of-source.result c.node_of-source.ensures) (page_name c.args.caches.now c.requires.sound c.args.from c.args.from_page c.node_of-source.result c.node_of-source.ensures) c.requires.pages
    c.renew_node-released.result.1 (c.renew_node-released.ensures.page c.args.to c.args.to_page (page_name c.args.caches.now c.requires.sound c.args.to c.args.to_page c.node_of-node.result c.node_of-node.ensures))) in
    record {
      forest = one.forest;
      sound = one.sound;
      consistent = one.consistent;
      moved = one.moved;
      sizes = one.sizes;
      room = one.room;
    }
