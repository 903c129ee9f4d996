use Rattle.std.proofs.result.Match.{err_is}
use Rattle.std.proofs.Common.{◌+◌, ◌≤◌, List, length, refl, sym, ap, subst, ◌∙◌, arith}
use Rattle.std.specs.Prelude.{Ok, Err}
use Rattle.pvm_core.proofs.Answering.Kept.{valid_seen, answer_still}
use Rattle.vm_ids.specs.declared.chain.ChainItem.{ChainItem}
use Rattle.vm_ids.specs.declared.command.Command.TheVariants as commands
use Rattle.vm_ids.specs.declared.reply.Reply.TheVariants as replies
use Rattle.vm_ids.specs.declared.reply.Trouble.TheVariants as troubles
use Rattle.vm_ids.specs.declared.refusal.Refusal.TheVariants as refusals
use Rattle.vm_ids.specs.Forest.Reading.{chain_of, live_count, working_count}
use Rattle.local_cache.specs.Reading as arena
use Rattle.vm_model.specs.Answering.{reply}
use Rattle.vm_ids.proofs.Forest.Laws.Reading.{chains_are_short}
use Rattle.local_cache.specs.Reading.{name_of}
use Rattle.pvm_core.specs.Manager.{nodes_of, Manager, forest_of, machine_by}
use Rattle.pvm_core.specs.contracts.pvm.Pvm.{the_view}
use Rattle.pvm_core.proofs.Answering.Answered.{seated}
use Rattle.pvm_core.proofs.Answering.Chains.{chain_no_cache, chain_out, chain_row, chains_of}
use Rattle.contexts.proofs.RegionRows.{sized, unsized}
use Rattle.pvm_core.proofs.Meaning.Shown.{shown_size}
use Rattle.pvm_core.proofs.pvm.Pvm.chain.Goals as goal

pub returns-in_default-clause-answers : goal.returns-in_default-clause-answers
returns-in_default-clause-answers c = λ h v.
    let p : Manager = the_view c.self.inside in
    answer_still h c.self.view_is (seated p p h (commands.Chain c.args.cache c.args.page) (Err (troubles.Refused refusals.NoCache)) c.self.invariant.sound.nodes c.self.invariant.sound.nodes (valid_seen c.self.view_is v) refl (λ done m f s none. none) refl tt (λ f. refl) (λ page. refl)
    (λ f s. chain_no_cache (machine_by p f) (forest_of p h) c.args.cache c.args.page.0 (unsized _ (shown_size f p.caches.caches c.args.cache.0 ∙ sym c.pages.ensures ∙ c.in_default.is))))

pub returns-then-page-count-clause-answers : goal.returns-then-page-count-clause-answers
returns-then-page-count-clause-answers c = λ h v.
    let p : Manager = the_view c.self.inside in
    answer_still h c.self.view_is (seated p p h (commands.Chain c.args.cache c.args.page) (Err (troubles.Refused refusals.OutOfCache)) c.self.invariant.sound.nodes c.self.invariant.sound.nodes (valid_seen c.self.view_is v) refl (λ done m f s none. none) refl tt (λ f. refl) (λ page. refl)
    (λ f s. let k = sized _ c.in-Some.count (shown_size f p.caches.caches c.args.cache.0 ∙ sym c.pages.ensures ∙ c.in-Some.is) in
    chain_out (machine_by p f) (forest_of p h) c.args.cache c.args.page.0 k.0 k.1 (omega (arith, k.2, c.if-page-count.true))))

pub returns-clause-answers : goal.returns-clause-answers
returns-clause-answers c = λ h v.
    let p : Manager = the_view c.self.inside in
    answer_still h c.self.view_is (seated p p h (commands.Chain c.args.cache c.args.page) (Ok (replies.Chain c.in_ok-chain.field-0)) c.self.invariant.sound.nodes c.self.invariant.sound.nodes (valid_seen c.self.view_is v) refl (λ done m f s none. none) refl tt (λ f. refl) (λ page. refl)
    (λ f s. let k = sized _ c.in-Some.count (shown_size f p.caches.caches c.args.cache.0 ∙ sym c.pages.ensures ∙ c.in-Some.is) in
    chain_row (machine_by p f) (forest_of p h) c.args.cache c.args.page.0 k.0 k.1 (omega (arith, k.2, c.if-page-count.false))
    ∙ ap (λ (items : List ChainItem). reply (replies.Chain items) (machine_by p f)) (chains_of p h c.self.invariant.sound.nodes _ ∙ ap (chain_of (arena.forest_of p.caches)) (sym c.node_of-node.ensures.name) ∙ sym c.in_ok-chain.ensures)))

pub returns-in_err-chain-clause-answers : goal.returns-in_err-chain-clause-answers
returns-in_err-chain-clause-answers c = λ h v.
    let p : Manager = the_view c.self.inside in
    rw (err_is c.from_residual.result _ c.from_residual.ensures.1)
    (answer_still h c.self.view_is (seated p p h (commands.Chain c.args.cache c.args.page) (Err troubles.Memory) c.self.invariant.sound.nodes c.self.invariant.sound.nodes (valid_seen c.self.view_is v) refl (λ done m f s none. none) refl tt (λ f. refl) (λ page. refl)
    (λ f s. let k = sized _ c.in-Some.count (shown_size f p.caches.caches c.args.cache.0 ∙ sym c.pages.ensures ∙ c.in-Some.is) in
    let row = chain_row (machine_by p f) (forest_of p h) c.args.cache c.args.page.0 k.0 k.1 (omega (arith, k.2, c.if-page-count.false)) in
    (refl, tt, rw row tt))))

pub returns-clause-short : goal.returns-clause-short
returns-clause-short c =
    let f = arena.forest_of c.self.inside.caches in
    subst (λ (p : Manager). length c.in_ok-chain.field-0 ≤ live_count (nodes_of p) + working_count (nodes_of p)) c.self.view_is
    (subst (λ (xs : List ChainItem). length xs ≤ live_count f + working_count f) (sym c.in_ok-chain.ensures) (chains_are_short f (name_of c.self.inside.caches c.node_of-node.result)))
