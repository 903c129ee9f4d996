use Rattle.std.proofs.Common.{◌+◌, ◌-◌, sym, ap, subst, arith, ◌∙◌}
use Rattle.vm_ids.specs.Forest.Commands.{page_name}
use Rattle.vm_ids.specs.Forest.Laws.Linking.{ArePages}
use Rattle.vm_ids.specs.Forest.Shape.{IsConsistent}
use Rattle.vm_ids.proofs.Forest.Pairs.{pages_now}
use Rattle.local_cache.specs.Arena.{Arena, HasNode}
use Rattle.local_cache.specs.Reading.{forest_of, name_of}
use Rattle.local_cache.specs.Sound.{IsSound}
use Rattle.tree_merge.specs.Copyable.{AreCopyable}
use Rattle.tree_merge.specs.Copying.{page_after}
use Rattle.tree_merge.specs.Stepping.{AreCopied, IsCopiedAlone}
use Rattle.tree_merge.proofs.CopiedPages.AtOnce.{destination_there, source_there}
use Rattle.tree_merge.proofs.PagesAlone.Steps.{copied_all, copied_one}
use Rattle.tree_merge.proofs.stepping.copy_step.Goals as goal

pub node_of-node-requires : goal.node_of-node-requires
node_of-node-requires c =
    let s = c.args.span in
    let r = c.requires in
    destination_there c.args.caches.now r.sound s.to s.from (s.to_page.0 + c.args.done) (s.from_page.0 + c.args.done) (s.pages - c.args.done) r.can (omega (arith, r.done))

pub node_of-source-requires : goal.node_of-source-requires
node_of-source-requires c =
    let s = c.args.span in
    let r = c.requires in
    source_there c.args.caches.now r.sound s.to s.from (s.to_page.0 + c.args.done) (s.from_page.0 + c.args.done) (s.pages - c.args.done) r.can (omega (arith, r.done))

pub copied_at_once-pages-requires-clause-node : goal.copied_at_once-pages-requires-clause-node
copied_at_once-pages-requires-clause-node c =
    (c.requires.sound.kept.listed.nodes c.args.span.to.0 (c.args.span.to_page.0 + c.args.done) c.node_of-node.result c.node_of-node.ensures).0

pub copied_at_once-pages-requires-clause-source : goal.copied_at_once-pages-requires-clause-source
copied_at_once-pages-requires-clause-source c =
    (c.requires.sound.kept.listed.nodes c.args.span.from.0 (c.args.span.from_page.0 + c.args.done) c.node_of-source.result c.node_of-source.ensures).0

-- Many are copied at once.

pub copy_ready-requires-clause-sound : goal.copy_ready-requires-clause-sound
copy_ready-requires-clause-sound c = subst IsSound (sym c.copied_at_once-pages.ensures.same) c.requires.sound

pub copy_ready-requires-clause-copyable : goal.copy_ready-requires-clause-copyable
copy_ready-requires-clause-copyable c =
    let many = c.copied_at_once-pages in
    subst (λ (x : Arena). AreCopyable x c.node_of-node.result c.node_of-source.result many.result) (sym many.ensures.same) (many.ensures.copyable (omega (arith, c.if-pages-gt1.true)))

pub copy_ready-requires-clause-source : goal.copy_ready-requires-clause-source
copy_ready-requires-clause-source c =
    let s = c.args.span in
    let named = (c.requires.sound.kept.listed.nodes s.from.0 (s.from_page.0 + c.args.done) c.node_of-source.result c.node_of-source.ensures).1 in
    (s.from, page_after s.from_page c.args.done, ap (λ (x : Arena). name_of x c.node_of-source.result) c.copied_at_once-pages.ensures.same ∙ named)

pub copy_ready-requires-clause-room : goal.copy_ready-requires-clause-room
copy_ready-requires-clause-room c =
    let many = c.copied_at_once-pages in
    omega (arith, ap (λ (x : Arena). x.room.nodes) many.ensures.same, many.ensures.most, c.requires.room)

pub copy_ready-requires-clause-made : goal.copy_ready-requires-clause-made
copy_ready-requires-clause-made c =
    let many = c.copied_at_once-pages in
    omega (arith, ap (λ (x : Arena). x.made) many.ensures.same, many.ensures.most, c.requires.made)

pub returns-then-pages-gt1-clause-step : goal.returns-then-pages-gt1-clause-step
returns-then-pages-gt1-clause-step c =
    let s = c.args.span in
    let k = c.args.done in
    let a = c.args.caches.now in
    let many = c.copied_at_once-pages in
    let d = c.node_of-node.result in
    let o = c.node_of-source.result in
    let named_d = (c.requires.sound.kept.listed.nodes s.to.0 (s.to_page.0 + k) d c.node_of-node.ensures).1 in
    let named_o = (c.requires.sound.kept.listed.nodes s.from.0 (s.from_page.0 + k) o c.node_of-source.ensures).1 in
    let large = sym c.is_small-is_small.ensures ∙ many.ensures.small (omega (arith, c.if-pages-gt1.true)) in
    copied_all a c.copy_ready.new.caches s k many.result large
    (subst (λ (x : Arena). AreCopied x c.copy_ready.new.caches s.to (page_after s.to_page k) s.from (page_after s.from_page k) many.result) many.ensures.same
    (c.copy_ready.ensures s.to (page_after s.to_page k) s.from (page_after s.from_page k)
    (ap (λ (x : Arena). name_of x d) many.ensures.same ∙ named_d) (ap (λ (x : Arena). name_of x o) many.ensures.same ∙ named_o)))

-- One is copied alone.

pub copy_alone-released-requires-clause-sound : goal.copy_alone-released-requires-clause-sound
copy_alone-released-requires-clause-sound c = subst IsSound (sym c.copied_at_once-pages.ensures.same) c.requires.sound

pub copy_alone-released-requires-clause-consistent : goal.copy_alone-released-requires-clause-consistent
copy_alone-released-requires-clause-consistent c = subst (λ (x : Arena). IsConsistent (forest_of x)) (sym c.copied_at_once-pages.ensures.same) c.requires.consistent

pub copy_alone-released-requires-clause-node : goal.copy_alone-released-requires-clause-node
copy_alone-released-requires-clause-node c =
    subst (λ (x : Arena). HasNode x c.node_of-node.result) (sym c.copied_at_once-pages.ensures.same)
    (c.requires.sound.kept.listed.nodes c.args.span.to.0 (c.args.span.to_page.0 + c.args.done) c.node_of-node.result c.node_of-node.ensures).0

pub copy_alone-released-requires-clause-source : goal.copy_alone-released-requires-clause-source
copy_alone-released-requires-clause-source c =
    subst (λ (x : Arena). HasNode x c.node_of-source.result) (sym c.copied_at_once-pages.ensures.same)
    (c.requires.sound.kept.listed.nodes c.args.span.from.0 (c.args.span.from_page.0 + c.args.done) c.node_of-source.result c.node_of-source.ensures).0

pub copy_alone-released-requires-clause-pages : goal.copy_alone-released-requires-clause-pages
copy_alone-released-requires-clause-pages c =
    let s = c.args.span in
    let k = c.args.done in
    let a = c.args.caches.now in
    let d = c.node_of-node.result in
    let o = c.node_of-source.result in
    let named_d = (c.requires.sound.kept.listed.nodes s.to.0 (s.to_page.0 + k) d c.node_of-node.ensures).1 in
    let named_o = (c.requires.sound.kept.listed.nodes s.from.0 (s.from_page.0 + k) o c.node_of-source.ensures).1 in
    let pages : ArePages (forest_of a) (page_name s.to (s.to_page.0 + k)) (page_name s.from (s.from_page.0 + k)) =
    pages_now (forest_of a) c.requires.consistent c.is_small-is_small.result s.from s.from_page.0 s.to s.to_page.0 s.pages k c.requires.done c.requires.can in
    subst (λ (x : Arena). ArePages (forest_of x) (name_of x d) (name_of x o)) (sym c.copied_at_once-pages.ensures.same)
    (subst (ArePages (forest_of a) (name_of a d)) (sym named_o) (subst (λ x. ArePages (forest_of a) x (page_name s.from (s.from_page.0 + k))) (sym named_d) pages))

pub copy_alone-released-requires-clause-room : goal.copy_alone-released-requires-clause-room
copy_alone-released-requires-clause-room c =
    omega (arith, ap (λ (x : Arena). x.room.nodes) c.copied_at_once-pages.ensures.same, c.requires.room, c.requires.done)

pub copy_alone-released-requires-clause-made : goal.copy_alone-released-requires-clause-made
copy_alone-released-requires-clause-made c =
    omega (arith, ap (λ (x : Arena). x.made) c.copied_at_once-pages.ensures.same, c.requires.made, c.requires.done)

pub returns-else-pages-gt1-clause-step : goal.returns-else-pages-gt1-clause-step
returns-else-pages-gt1-clause-step c =
    let s = c.args.span in
    let k = c.args.done in
    let a = c.args.caches.now in
    let same = c.copied_at_once-pages.ensures.same in
    let one = c.copy_alone-released in
    let d = c.node_of-node.result in
    let o = c.node_of-source.result in
    let named_d = (c.requires.sound.kept.listed.nodes s.to.0 (s.to_page.0 + k) d c.node_of-node.ensures).1 in
    let named_o = (c.requires.sound.kept.listed.nodes s.from.0 (s.from_page.0 + k) o c.node_of-source.ensures).1 in
    copied_one a one.new.caches s k one.result
    (subst (λ t. IsCopiedAlone t a one.new.caches s.to (page_after s.to_page k) s.from (page_after s.from_page k) one.result) c.is_small-is_small.ensures
    (subst (λ (x : Arena). IsCopiedAlone c.is_small-is_small.result x one.new.caches s.to (page_after s.to_page k) s.from (page_after s.from_page k) one.result) same
    (one.ensures s.to (page_after s.to_page k) s.from (page_after s.from_page k)
    (ap (λ (x : Arena). name_of x d) same ∙ named_d) (ap (λ (x : Arena). name_of x o) same ∙ named_o))))
