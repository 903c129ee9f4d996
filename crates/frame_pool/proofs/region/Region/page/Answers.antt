use Rattle.std.proofs.Common.{rules, ap, sym, ◌∙◌}
use Rattle.frame_pool.specs.Region.{Pages, page_of}
use Rattle.frame_pool.proofs.Views.{page_below, part_seen}
use Rattle.frame_pool.proofs.WrittenPages.{zeros_at}
use Rattle.frame_pool.proofs.region.Region.page.Goals as goal

pub returns-then-at-self-clause-bytes : goal.returns-then-at-self-clause-bytes
returns-then-at-self-clause-bytes c =
    rw c.deref.ensures.value
    (part_seen c.self.inside.page c.self.inside.count c.self.inside.there c.args.at c.self.inside.bytes.items (search rules)
    ∙ ap (λ (p : Pages). page_of p c.args.at) c.self.view_is)

pub returns-else-at-self-clause-bytes : goal.returns-else-at-self-clause-bytes
returns-else-at-self-clause-bytes c =
    let below = page_below c.self.inside c.args.self.now c.args.at c.self.view_is c.self.invariant c.requires in
    c.as_slice.ensures.value ∙ c.self.invariant.zeros
    ∙ sym (zeros_at c.self.inside.page c.self.inside.count c.self.inside.there c.args.at c.self.inside.bytes.items (search rules) below)
    ∙ ap (λ (p : Pages). page_of p c.args.at) c.self.view_is
