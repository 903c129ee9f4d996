use Rattle.local_cache.proofs.Whole.LivePages.{page_there}
use Rattle.pvm_core.proofs.nodes.node_of.Goals as goal

pub node_of-requires : goal.node_of-requires
node_of-requires c =
    let i = c.requires.nodes in
    let p = c.requires.page in
    page_there c.args.caches.now i.sound c.args.cache c.args.page (i.pages c.args.cache c.args.page.0 p.0 p.1 p.2)
