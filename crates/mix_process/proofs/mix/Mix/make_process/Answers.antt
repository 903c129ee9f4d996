use Rattle.std.proofs.Common.{◌++◌, ◌∷◌, [], List, Option, Some, ap, ◌∙◌}
use Rattle.std.proofs.lemmas.Result.{err_from_is_err_and}
use Rattle.vm_ids.specs.declared.reply.Reply.TheVariants as replies
use Rattle.interface_callers.proofs.Words.{answer_by}
use Rattle.mix_process.specs.declared.process.Process.{Process}
use Rattle.mix_process.proofs.Starts.ActorBegun.{begun, no_room, not_begun}
use Rattle.mix_process.proofs.mix.Mix.make_process.Goals as goal

pub returns-in_err-reserve : goal.returns-in_err-reserve
returns-in_err-reserve g c = λ told page_bytes can.
    let made = no_room g.G.Gmi c.args.self.now told page_bytes can c.reserve.new.self c.reserve.ensures.items in
    let p = err_from_is_err_and c.from_residual.result c.from_residual.ensures.1 in
    rw (p.1, p.2) made

pub returns-in_err-actor : goal.returns-in_err-actor
returns-in_err-actor g c = λ told page_bytes can.
    let made = not_begun g.G.Gmi c.args.self.now told page_bytes can _ _ c.make_actor.ensures _ (ap (answer_by replies.Actor) c.in_err-actor.was) c.reserve.new.self c.reserve.ensures.items in
    let p = err_from_is_err_and c.from_residual-in_err-actor.result c.from_residual-in_err-actor.ensures.1 in
    rw (p.1, p.2) made

pub returns : goal.returns
returns g c = λ told page_bytes can.
    begun g.G.Gmi c.args.self.now told page_bytes can _ _ c.make_actor.ensures (record { actor = c.in_ok-actor.actor; parts = c.new-parts.result }) (ap (answer_by replies.Actor) c.in_ok-actor.was) c.new-parts.ensures.items c.push_reserved.new.self
    (c.push_reserved.ensures.items ∙ ap (λ (xs : List (Option Process)). xs ++ Some (record { actor = c.in_ok-actor.actor; parts = c.new-parts.result }) ∷ []) c.reserve.ensures.items)
