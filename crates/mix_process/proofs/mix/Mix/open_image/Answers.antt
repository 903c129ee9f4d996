use Rattle.std.proofs.Common.{◌++◌, ◌∷◌, [], List, ap, ◌∙◌}
use Rattle.std.specs.Prelude.{option_map}
use Rattle.std.proofs.lemmas.Result.{err_from_is_err_and}
use Rattle.vm_ids.specs.declared.reply.Reply.TheVariants as replies
use Rattle.interface_callers.proofs.Words.{answer_by}
use Rattle.mix_process.specs.Starting.{image_for}
use Rattle.mix_process.specs.declared.mix.Image.{Image}
use Rattle.mix_process.proofs.Starts.ImageOpened.{found, is_none, no_entry, not_opened, was_opened}
use Rattle.mix_process.proofs.mix.Mix.open_image.Goals as goal

pub returns-in-Some : goal.returns-in-Some
returns-in-Some g c = found g.M.Mapper g.G.Gmi c.args.self.now c.args.mapper.now c.requires.can c.args.seg c.in-Some.cache
    (c.in-Some.ensures ∙ ap (λ (xs : List Image). option_map (λ (i : Image). i.cache) (image_for xs c.args.seg.0)) c.deref.ensures.value)

pub returns-in_err-reserve : goal.returns-in_err-reserve
returns-in_err-reserve g c =
    let none = is_none c.args.self.now.images.items c.args.seg.0 (c.in-None.ensures ∙ ap (λ (xs : List Image). option_map (λ (i : Image). i.cache) (image_for xs c.args.seg.0)) c.deref.ensures.value) in
    let made = no_entry g.M.Mapper g.G.Gmi c.args.self.now c.args.mapper.now c.requires.can c.args.seg none c.reserve.new.self c.reserve.ensures.items in
    let p = err_from_is_err_and c.from_residual.result c.from_residual.ensures.1 in
    rw (p.1, p.2) made

pub returns-in_err-cache : goal.returns-in_err-cache
returns-in_err-cache g c =
    let none = is_none c.args.self.now.images.items c.args.seg.0 (c.in-None.ensures ∙ ap (λ (xs : List Image). option_map (λ (i : Image). i.cache) (image_for xs c.args.seg.0)) c.deref.ensures.value) in
    let made = not_opened g.M.Mapper g.G.Gmi c.args.self.now c.args.mapper.now c.requires.can c.args.seg _ _ _ c.open_segment.ensures none _ (ap (answer_by replies.Cache) c.in_err-cache.was) c.reserve.new.self c.reserve.ensures.items in
    let p = err_from_is_err_and c.from_residual-in_err-cache.result c.from_residual-in_err-cache.ensures.1 in
    rw (p.1, p.2) made

pub returns : goal.returns
returns g c =
    let none = is_none c.args.self.now.images.items c.args.seg.0 (c.in-None.ensures ∙ ap (λ (xs : List Image). option_map (λ (i : Image). i.cache) (image_for xs c.args.seg.0)) c.deref.ensures.value) in
    was_opened g.M.Mapper g.G.Gmi c.args.self.now c.args.mapper.now c.requires.can c.args.seg _ _ _ c.open_segment.ensures none _ (ap (answer_by replies.Cache) c.in_ok-cache.was) c.push_reserved.new.self
    (c.push_reserved.ensures.items ∙ ap (λ (xs : List Image). xs ++ (record { seg = c.args.seg; cache = c.in_ok-cache.cache }) ∷ []) c.reserve.ensures.items)
