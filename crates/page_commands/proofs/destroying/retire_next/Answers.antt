use Rattle.std.proofs.Common.{rules, ◌≡◌, ◌+◌, IsSome, sym, subst, arith}
use Rattle.vm_ids.specs.declared.numbers.PageNo.{PageNo}
use Rattle.local_cache.specs.Arena.{Arena, node_at}
use Rattle.page_commands.proofs.PassedOver.Retiring.{untouched_go}
use Rattle.page_commands.proofs.RetiredPages.Parts.{RetiresPages}
use Rattle.page_commands.proofs.RetiredPages.Steps.{cache_can, cache_retires}
use Rattle.page_commands.proofs.destroying.retire_next.Goals.{After-free_many}
use Rattle.page_commands.proofs.destroying.retire_next.Goals as goal

pub untouched_nodes-untouched-requires : goal.untouched_nodes-untouched-requires
untouched_nodes-untouched-requires c = (c.requires.sound.kept.listed.nodes c.args.cache.0 c.args.done c.node_of-node.result c.node_of-node.ensures).0

pub free_many-requires : goal.free_many-requires
free_many-requires c = λ k low. (c.untouched_nodes-untouched.ensures.untouched.alike k low).held

-- untouched pages are retired at once
at_once : (c : After-free_many) → RetiresPages c.args.cache c.args.done c.untouched_nodes-untouched.result c.args.store.now c.args.caches.now c.args.store.now c.free_many.new.self
at_once c =
    let page : PageNo = record { 0 = c.args.done } in
    subst (λ (b : Arena). RetiresPages c.args.cache c.args.done c.untouched_nodes-untouched.result c.args.store.now c.args.caches.now c.args.store.now b) (sym c.free_many.ensures)
    (untouched_go c.args.store.now c.args.caches.now c.requires.sound c.requires.tied c.args.cache page c.node_of-node.result c.node_of-node.ensures c.untouched_nodes-untouched.result c.untouched_nodes-untouched.ensures.untouched)

pub returns-then-untouched-gt0-clause-rule : goal.returns-then-untouched-gt0-clause-rule
returns-then-untouched-gt0-clause-rule c = (at_once (goal.at.returns-then-untouched-gt0-clause-rule c).After-free_many).rule

pub returns-then-untouched-gt0-clause-kept : goal.returns-then-untouched-gt0-clause-kept
returns-then-untouched-gt0-clause-kept c = (at_once (goal.at.returns-then-untouched-gt0-clause-kept c).After-free_many).kept

pub returns-then-untouched-gt0-clause-room : goal.returns-then-untouched-gt0-clause-room
returns-then-untouched-gt0-clause-room c = (at_once (goal.at.returns-then-untouched-gt0-clause-room c).After-free_many).room

pub returns-then-untouched-gt0-clause-fewer : goal.returns-then-untouched-gt0-clause-fewer
returns-then-untouched-gt0-clause-fewer c = (at_once (goal.at.returns-then-untouched-gt0-clause-fewer c).After-free_many).fewer

pub retire_step-step-requires-clause-node : goal.retire_step-step-requires-clause-node
retire_step-step-requires-clause-node c =
    let number : 0 + c.args.done ≡ c.args.done = omega arith in
    subst (λ k. IsSome (node_at c.args.caches.now c.args.cache.0 k)) (sym number) c.requires.node

pub follow-requires : goal.follow-requires
follow-requires c =
    let step = c.retire_step-step in
    cache_can c.args.store.now c.args.caches.now step.new.caches c.args.cache c.args.pages c.args.done step.result step.ensures.step c.requires.sound c.requires.tied c.requires.unpinned c.requires.may

pub returns : goal.returns
returns c =
    let step = c.retire_step-step in
    record {
      some = search rules;
      few = search rules;
      rule = ((cache_retires c.args.store.now c.args.caches.now step.new.caches c.args.cache c.args.pages c.args.done step.result step.ensures.step c.requires.sound c.requires.tied c.requires.unpinned c.requires.may
          c.follow.new.store c.follow.ensures.store c.follow.ensures.tables c.follow.ensures.nothing).rule);
      kept = ((cache_retires c.args.store.now c.args.caches.now step.new.caches c.args.cache c.args.pages c.args.done step.result step.ensures.step c.requires.sound c.requires.tied c.requires.unpinned c.requires.may
          c.follow.new.store c.follow.ensures.store c.follow.ensures.tables c.follow.ensures.nothing).kept);
      room = ((cache_retires c.args.store.now c.args.caches.now step.new.caches c.args.cache c.args.pages c.args.done step.result step.ensures.step c.requires.sound c.requires.tied c.requires.unpinned c.requires.may
          c.follow.new.store c.follow.ensures.store c.follow.ensures.tables c.follow.ensures.nothing).room);
      fewer = ((cache_retires c.args.store.now c.args.caches.now step.new.caches c.args.cache c.args.pages c.args.done step.result step.ensures.step c.requires.sound c.requires.tied c.requires.unpinned c.requires.may
          c.follow.new.store c.follow.ensures.store c.follow.ensures.tables c.follow.ensures.nothing).fewer);
    }
