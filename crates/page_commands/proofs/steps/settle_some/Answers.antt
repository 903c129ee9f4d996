use Rattle.std.proofs.Common.{[], subst, sym}
use Rattle.page_commands.specs.Steps.{Releases}
use Rattle.page_commands.proofs.CommandSteps.Merges.{Merges, step_can, step_merges}
use Rattle.page_commands.proofs.TiedStores.Kept.{kept_none}
use Rattle.page_commands.proofs.steps.settle_some.Goals.{After-follow}
use Rattle.page_commands.proofs.steps.settle_some.Goals as goal

pub follow-requires : goal.follow-requires
follow-requires c = step_can c.args.store.now c.args.caches.now c.settle_some.new.caches c.in-Some.step c.in-Some.ensures.step c.requires.sound c.requires.tied c.requires.unpinned

-- the steps that were done, and the store behind them
merges : (c : After-follow) → Merges c.args.store.now c.args.caches.now c.follow.new.store c.settle_some.new.caches
merges c =
    step_merges c.args.store.now c.args.caches.now c.settle_some.new.caches c.in-Some.step c.in-Some.ensures.step c.requires.sound c.requires.tied c.requires.unpinned c.settle_some.ensures.sound c.requires.consistent
    c.follow.new.store c.follow.ensures.store c.follow.ensures.tables c.follow.ensures.nothing

pub returns-in-Some-clause-steps : goal.returns-in-Some-clause-steps
returns-in-Some-clause-steps c _ = (merges (goal.at.returns-in-Some-clause-steps c).After-follow).steps

pub returns-in-Some-clause-kept : goal.returns-in-Some-clause-kept
returns-in-Some-clause-kept c = (merges (goal.at.returns-in-Some-clause-kept c).After-follow).kept

pub returns-in-Some-clause-fewer : goal.returns-in-Some-clause-fewer
returns-in-Some-clause-fewer c = (merges (goal.at.returns-in-Some-clause-fewer c).After-follow).fewer

pub returns-in-None-clause-kept : goal.returns-in-None-clause-kept
returns-in-None-clause-kept c = subst (λ k. Releases [] c.args.store.now c.args.caches.now c.args.store.now k) (sym c.in-None.ensures.step.1) (kept_none [] c.args.store.now c.args.caches.now c.requires.sound c.requires.tied)
