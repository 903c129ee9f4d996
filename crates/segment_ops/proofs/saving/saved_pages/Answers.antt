use Rattle.std.proofs.Common.{◌<◌, ◌+◌, ap, ◌∙◌, arith, inl, inr}
use Rattle.std.proofs.lemmas.Bool.{cases_eq}
use Rattle.vm_ids.specs.Forest.Commands.{page_name}
use Rattle.vm_ids.specs.Forest.Saving.{is_unsaved}
use Rattle.local_cache.specs.Reading.{forest_of}
use Rattle.segment_ops.proofs.AlikePages.{alike_saved}
use Rattle.segment_ops.proofs.saving.saved_pages.Goals as goal

pub heirless_nodes-requires : goal.heirless_nodes-requires
heirless_nodes-requires c = (c.requires.sound.kept.listed.nodes c.args.range.cache.0 c.args.range.first.0 c.args.node c.requires.node).0

pub returns-clause-saved : goal.returns-clause-saved
returns-clause-saved c p from below = elim (cases_eq p c.args.range.first.0) [
  | inl e ↦ ap (λ q. is_unsaved (forest_of c.args.caches.now) (page_name c.args.range.cache q)) e ∙ c.requires.saved
  | inr d ↦ (
      let e = c.heirless_nodes.ensures in
      let more : p < c.args.range.first.0 + c.heirless_nodes.result = omega (arith, from, below, d) in
      alike_saved c.args.caches.now c.requires.sound c.args.range.cache c.args.range.first.0 c.args.node c.requires.node c.heirless_nodes.result e.alike (e.none (omega (arith, more, from))) p from more)
]
