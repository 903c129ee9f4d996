use Rattle.std.proofs.Common.{[], sym, refl, ap, ◌∙◌, subst, arith}
use Rattle.vm_ids.proofs.Forest.Laws.Settling.{settled_is_bounded}
use Rattle.vm_ids.specs.declared.node_name.NodeName.TheVariants.{Working}
use Rattle.vm_ids.specs.Forest.Shape.{IsBounded}
use Rattle.local_cache.specs.Reading.{forest_of}
use Rattle.residency.specs.Seeing.{frame_forest}
use Rattle.residency.specs.StoreForest.{store_forest}
use Rattle.residency.specs.World.{world}
use Rattle.residency.specs.declared.store.Store.{Store}
use Rattle.page_commands.proofs.TiedStores.Kept.{kept_both, kept_none, unpinned_kept}
use Rattle.page_commands.proofs.CommandSteps.Steps.{end_forest, end_frames, end_nodes}
use Rattle.page_commands.proofs.settling.settle.Goals as goal

pub loop-init : goal.loop-init
loop-init c = record {
  nodes = refl;
  forest = λ told size fit. refl;
  frames = refl;
  kept = kept_none [] c.args.store.now c.args.caches.now c.requires.sound c.requires.tied;
  consistent = c.requires.consistent;
  unpinned = c.requires.unpinned;
  made = refl;
  copies = refl;
  room = omega arith;
  fewer = omega arith;
}

pub loop-smaller : goal.loop-smaller
loop-smaller c = (c.settle_some.ensures.steps c.loop-test.true).fewer

pub loop-preserved : goal.loop-preserved
loop-preserved c =
    let i = c.loop.invariant in
    let s = c.args.store.now in
    let a = c.args.caches.now in
    let t = c.loop.store in
    let b = c.loop.caches in
    let u = c.settle_some.new.store in
    let d = c.settle_some.new.caches in
    let e = c.settle_some.ensures in
    let steps = e.steps c.loop-test.true in
    record {
      nodes = steps.nodes ∙ i.nodes;
      forest = λ told size fit. steps.forest told size (i.kept.gives_back told size fit).tied ∙ i.forest told size fit;
      frames = steps.frames ∙ i.frames;
      kept = kept_both s a t b u d c.requires.tied i.kept e.kept;
      consistent = steps.consistent;
      unpinned = λ k. unpinned_kept [] t b u d i.kept.tied e.kept (Working k) (i.unpinned k);
      made = steps.counters.0 ∙ i.made;
      copies = steps.counters.1 ∙ i.copies;
      room = omega (arith, i.room, steps.room);
      fewer = omega (arith, i.fewer, e.fewer);
    }

pub returns-clause-rule : goal.returns-clause-rule
returns-clause-rule c =
    let i = c.loop.invariant in
    let t = c.loop.store in
    let b = c.loop.caches in
    let u = c.settle_some.new.store in
    let e = c.settle_some.ensures.idle c.loop-test.false in
    record {
      nodes = ap forest_of e.1 ∙ sym (end_nodes t b i.kept.sound e.0) ∙ i.nodes;
      forest = λ told size fit.
          ap (λ k. store_forest (world told size k u)) e.1 ∙ ap (λ k. store_forest (world told size b k)) e.2
          ∙ sym (end_forest t b i.kept.sound e.0 told size) ∙ i.forest told size fit;
      frames = ap (λ k. frame_forest k u.map) e.1 ∙ ap (λ (k : Store). frame_forest b k.map) e.2 ∙ sym (end_frames t b i.kept.sound e.0) ∙ i.frames;
    }

pub returns-clause-kept : goal.returns-clause-kept
returns-clause-kept c = kept_both c.args.store.now c.args.caches.now c.loop.store c.loop.caches c.settle_some.new.store c.settle_some.new.caches c.requires.tied c.loop.invariant.kept c.settle_some.ensures.kept

pub returns-clause-bounded : goal.returns-clause-bounded
returns-clause-bounded c =
    let i = c.loop.invariant in
    let e = c.settle_some.ensures.idle c.loop-test.false in
    subst (λ k. IsBounded (forest_of k)) (sym e.1) (settled_is_bounded (forest_of c.loop.caches) i.consistent.shaped e.0)

pub returns-clause-fewer : goal.returns-clause-fewer
returns-clause-fewer c = omega (arith, c.loop.invariant.fewer, c.settle_some.ensures.fewer)
