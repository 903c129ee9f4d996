use Rattle.std.proofs.Common.{rules, ◌+◌, leb}
use Rattle.vm_ids.specs.Forest.Commands.{page_name, small_copy}
use Rattle.vm_ids.proofs.Forest.Pairs.{pages_now}
use Rattle.local_cache.specs.Reading.{forest_of}
use Rattle.page_commands.proofs.CopiedPages.Steps.{step_can, step_copies}
use Rattle.page_commands.proofs.CommandSteps.Ranges.{is_destination}
use Rattle.page_commands.proofs.copying.copy_next.Goals as goal

pub follow-requires : goal.follow-requires
follow-requires c =
    let s = c.args.span in
    let k = c.args.done in
    let step = c.copy_step-step in
    let x = page_name s.to (s.to_page.0 + k) in
    let here = is_destination s k c.requires.done in
    step_can c.args.store.now c.args.caches.now step.new.caches s k step.result step.ensures.step c.requires.sound c.requires.tied (c.requires.unpinned x here) (c.requires.unclean x here)

pub returns : goal.returns
returns c =
    let s = c.args.span in
    let k = c.args.done in
    let a = c.args.caches.now in
    let step = c.copy_step-step in
    let x = page_name s.to (s.to_page.0 + k) in
    let here = is_destination s k c.requires.done in
    let pages = pages_now (forest_of a) c.requires.consistent (leb s.pages small_copy) s.from s.from_page.0 s.to s.to_page.0 s.pages k c.requires.done c.requires.can in
    record {
      some = search rules;
      few = search rules;
      rule = ((step_copies c.args.store.now a step.new.caches s k step.result step.ensures.step c.requires.sound c.requires.tied (c.requires.unpinned x here) (c.requires.unclean x here)
          c.follow.new.store c.follow.ensures.store c.follow.ensures.tables c.follow.ensures.nothing c.requires.consistent pages).rule);
      kept = ((step_copies c.args.store.now a step.new.caches s k step.result step.ensures.step c.requires.sound c.requires.tied (c.requires.unpinned x here) (c.requires.unclean x here)
          c.follow.new.store c.follow.ensures.store c.follow.ensures.tables c.follow.ensures.nothing c.requires.consistent pages).kept);
      grows = ((step_copies c.args.store.now a step.new.caches s k step.result step.ensures.step c.requires.sound c.requires.tied (c.requires.unpinned x here) (c.requires.unclean x here)
          c.follow.new.store c.follow.ensures.store c.follow.ensures.tables c.follow.ensures.nothing c.requires.consistent pages).grows);
    }
