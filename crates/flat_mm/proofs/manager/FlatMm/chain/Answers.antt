use Rattle.std.proofs.result.Match.{err_is}
use Rattle.std.proofs.Common.{◌≡◌, Ok, Err, Some, ap, List, arith, length, refl, subst, sym, ◌∙◌}
use Rattle.vm_ids.specs.declared.chain.ChainItem.{ChainItem}
use Rattle.vm_ids.specs.declared.command.Command.TheVariants as commands
use Rattle.vm_ids.specs.declared.refusal.Refusal.TheVariants as refusals
use Rattle.vm_ids.specs.declared.reply.Reply.TheVariants as replies
use Rattle.vm_ids.specs.declared.reply.Trouble.TheVariants as troubles
use Rattle.vm_model.specs.Answering.{Answered, reply}
use Rattle.vm_model.specs.Machine.{Cache, numbered}
use Rattle.vm_model.specs.Outcome.{IsNotRefused}
use Rattle.flat_mm.specs.Manager.{Manager, caches_in, machine_in}
use Rattle.flat_mm.proofs.Acting.{sizes_plain, told}
use Rattle.contexts.proofs.RegionRows.{sized, unsized}
use Rattle.flat_mm.proofs.Telling.{chain_none, chain_past, chain_row}
use Rattle.flat_mm.proofs.manager.FlatMm.chain.Goals.{In-Some}
use Rattle.flat_mm.proofs.manager.FlatMm.chain.Goals as goal

pub returns-in_default : goal.returns-in_default
returns-in_default c =
    let i = c.self.inside in
    let old : Manager = record { store = i.store; actors = i.contexts } in
    told i.store i.contexts i.actors c.self.invariant c.args.self.now c.self.view_is (commands.Chain c.args.cache c.args.page) (record { reaches = refl; needs = λ m next. refl; said = λ m h a. tt }) (Err (troubles.Refused refusals.NoCache))
    (λ h. chain_none (machine_in old) c.args.cache c.args.page.0 (unsized (numbered (caches_in i.store) c.args.cache.0) (sizes_plain i.store c.args.cache.0 ∙ sym c.size.ensures.size ∙ c.in_default.is)))

-- the cache, and how many pages it has
there : (c : In-Some) → (x : Cache) × (numbered (caches_in c.self.inside.store) c.args.cache.0 ≡ Some x) × (length x.pages ≡ c.in-Some.size)
there c = sized (numbered (caches_in c.self.inside.store) c.args.cache.0) c.in-Some.size (sizes_plain c.self.inside.store c.args.cache.0 ∙ sym c.size.ensures.size ∙ c.in-Some.is)

pub returns-then-is_past : goal.returns-then-is_past
returns-then-is_past c =
    let i = c.self.inside in
    let old : Manager = record { store = i.store; actors = i.contexts } in
    let at = there (goal.at.returns-then-is_past c).In-Some in
    told i.store i.contexts i.actors c.self.invariant c.args.self.now c.self.view_is (commands.Chain c.args.cache c.args.page) (record { reaches = refl; needs = λ m next. refl; said = λ m h a. tt }) (Err (troubles.Refused refusals.OutOfCache))
    (λ h. chain_past (machine_in old) c.args.cache c.args.page.0 at.0 at.1 (omega (arith, at.2, c.if-is_past.true)))

pub returns : goal.returns
returns c =
    let i = c.self.inside in
    let old : Manager = record { store = i.store; actors = i.contexts } in
    let at = there (goal.at.returns c).In-Some in
    told i.store i.contexts i.actors c.self.invariant c.args.self.now c.self.view_is (commands.Chain c.args.cache c.args.page) (record { reaches = refl; needs = λ m next. refl; said = λ m h a. tt }) (Ok (replies.Chain c.in_ok-own_chain.field-0))
    (λ h. chain_row (machine_in old) c.args.cache c.args.page.0 at.0 at.1 (omega (arith, at.2, c.if-is_past.false)) ∙ ap (λ (k : List ChainItem). reply (replies.Chain k) (machine_in old)) (sym c.in_ok-own_chain.ensures))

pub returns-in_err-own_chain : goal.returns-in_err-own_chain
returns-in_err-own_chain c =
    let i = c.self.inside in
    let old : Manager = record { store = i.store; actors = i.contexts } in
    let at = there (goal.at.returns-in_err-own_chain c).In-Some in
    let row = chain_row (machine_in old) c.args.cache c.args.page.0 at.0 at.1 (omega (arith, at.2, c.if-is_past.false)) in
    rw (err_is c.from_residual.result _ c.from_residual.ensures.1)
    (told i.store i.contexts i.actors c.self.invariant c.args.self.now c.self.view_is (commands.Chain c.args.cache c.args.page) (record { reaches = refl; needs = λ m next. refl; said = λ m h a. tt }) (Err troubles.Memory)
    (λ h. (refl, tt, subst (λ (a : Answered). IsNotRefused a.answer) (sym row) tt)))
