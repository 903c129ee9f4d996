use Rattle.tree_merge.proofs.CopiedPages.Rows.{fewer_parents, fewer_sources}
use Rattle.tree_merge.proofs.copying.free_count.Goals as goal

pub returns-clause-free : goal.returns-clause-free
returns-clause-free c =
    let p = c.free_parents-parents in
    let h = c.free_histories in
    record {
      sources = fewer_sources c.args.parent c.args.source p.result h.result h.ensures.most p.ensures.sources;
      parents = fewer_parents c.args.parent c.args.history p.result h.result h.ensures.most p.ensures.histories;
      histories = h.ensures.apart;
      short = h.ensures.short;
    }
