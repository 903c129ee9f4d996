use Rattle.std.proofs.Common.{◌≡◌, ◌∙◌, ◌+◌, None, length, refl, sym}
use Rattle.vm_ids.specs.declared.command.Command.TheVariants as commands
use Rattle.vm_ids.specs.declared.reply.Reply.TheVariants as replies
use Rattle.vm_model.specs.Answering.{answer_by}
use Rattle.contexts.specs.Actors.{Actors, split_refusal, with_split}
use Rattle.contexts.proofs.Placing.{after_either, right_cut}
use Rattle.contexts.proofs.RegionRows.{split_outcome}
use Rattle.flat_mm.specs.Manager.{caches_in, sizes_in}
use Rattle.flat_mm.proofs.Acting.{acted, acted_sound, length_replaced}
use Rattle.vm_model.specs.Regions.{split_at}
use Rattle.flat_mm.proofs.manager.FlatMm.split.Goals.{After-split}
use Rattle.flat_mm.proofs.manager.FlatMm.split.Goals as goal

page : (c : After-split) → c.split.new.self.page_bytes ≡ c.self.inside.contexts.page_bytes
page c =
    let t = c.self.inside.contexts in
    after_either (λ (u : Actors). u.page_bytes ≡ t.page_bytes) t c.split.new.self (with_split t c.args.region.0 c.args.pages) c.split.result c.split.ensures.ok c.split.ensures.err refl refl

pub invariant_of-self : goal.invariant_of-self
invariant_of-self c =
    let i = c.self.inside in
    let t = i.contexts in
    let e = c.split.ensures in
    let k = c.self.invariant in
    acted_sound i.store t c.split.new.self i.actors i.actors k (page c)
    (after_either (λ (u : Actors). i.actors ≡ length u.actors) t c.split.new.self (with_split t c.args.region.0 c.args.pages) c.split.result e.ok e.err (k.counted ∙ sym (length_replaced c.args.region.0 (split_at t.page_bytes c.args.pages (t.regions_made + 1)) t.actors)) k.counted)
    (right_cut (sizes_in i.store) t c.split.new.self c.args.region c.args.pages (split_refusal t c.args.region.0 c.args.pages) c.split.result refl e.refused e.ok e.err k.placed)

pub returns : goal.returns
returns c =
    let i = c.self.inside in
    let e = c.split.ensures in
    acted i.store i.contexts i.actors c.self.invariant c.args.self.now c.self.view_is (commands.Split c.args.region c.args.pages) (record { reaches = refl; needs = λ m next. refl; said = λ m h a. tt }) (answer_by replies.Region c.split.result) c.split.new.self (page c)
    (λ h. split_outcome i.contexts c.split.new.self c.args.region c.args.pages (caches_in i.store) i.store.frames None h (split_refusal i.contexts c.args.region.0 c.args.pages) c.split.result refl e.refused e.made e.ok e.err)
