use Rattle.std.proofs.Common.{Some, refl, sym, ap, subst, inl, inr, arith}
use Rattle.vm_ids.specs.Forest.Commands.{page_name}
use Rattle.vm_ids.specs.Forest.NameMap.{len}
use Rattle.vm_ids.specs.Forest.Nodes.{Forest, IsNode}
use Rattle.vm_ids.specs.Forest.Shape.{IsConsistent}
use Rattle.vm_ids.proofs.Forest.Lengths.{detach_len}
use Rattle.vm_ids.proofs.Forest.Made.{detach-made}
use Rattle.vm_ids.proofs.Forest.OneDetached.{detach-consistent}
use Rattle.local_cache.specs.declared.own_state.OwnState.{OwnState}
use Rattle.local_cache.specs.declared.own_state.OwnState.TheVariants.{OnSegment}
use Rattle.local_cache.specs.Reading.{forest_of}
use Rattle.local_cache.proofs.Changes.SameNodes.{forest_of-made}
use Rattle.local_cache.proofs.Forest.Reading.{IsNode-forest_of}
use Rattle.page_commands.specs.Homes.{IsClean}
use Rattle.page_commands.proofs.PassedOver.Replacing.{ReplacesPages, untouched_replaces}
use Rattle.page_commands.proofs.TiedStores.Named.{named_home}
use Rattle.page_commands.proofs.CommandSteps.Replacing.{detach_stays, detached_clean}
use Rattle.page_commands.proofs.invalidating.replace_next.Goals.{After-untouched_nodes-untouched}
use Rattle.page_commands.proofs.invalidating.replace_next.Goals as goal

pub untouched_nodes-untouched-requires : goal.untouched_nodes-untouched-requires
untouched_nodes-untouched-requires c = (c.requires.sound.kept.listed.nodes c.args.cache.0 c.args.page.0 c.node_of-node.result c.node_of-node.ensures).0

-- untouched pages are what their segment holds
passed : (c : After-untouched_nodes-untouched) → ReplacesPages c.args.cache c.args.page.0 c.untouched_nodes-untouched.result c.args.store.now c.args.caches.now c.args.store.now c.args.caches.now
passed c =
    untouched_replaces c.args.store.now c.args.caches.now c.requires.sound c.args.cache c.args.page c.node_of-node.result c.node_of-node.ensures c.untouched_nodes-untouched.result c.untouched_nodes-untouched.ensures.untouched
    c.requires.consistent c.requires.tied

pub returns-then-untouched-gt0-clause-rule : goal.returns-then-untouched-gt0-clause-rule
returns-then-untouched-gt0-clause-rule c = (passed (goal.at.returns-then-untouched-gt0-clause-rule c).After-untouched_nodes-untouched).rule

pub returns-then-untouched-gt0-clause-kept : goal.returns-then-untouched-gt0-clause-kept
returns-then-untouched-gt0-clause-kept c = (passed (goal.at.returns-then-untouched-gt0-clause-kept c).After-untouched_nodes-untouched).kept

pub returns-then-untouched-gt0-clause-clean : goal.returns-then-untouched-gt0-clause-clean
returns-then-untouched-gt0-clause-clean c = (passed (goal.at.returns-then-untouched-gt0-clause-clean c).After-untouched_nodes-untouched).clean

pub returns-then-untouched-gt0-clause-grows : goal.returns-then-untouched-gt0-clause-grows
returns-then-untouched-gt0-clause-grows c = (passed (goal.at.returns-then-untouched-gt0-clause-grows c).After-untouched_nodes-untouched).grows

pub detach_page-requires-clause-unclean : goal.detach_page-requires-clause-unclean
detach_page-requires-clause-unclean c = λ e. absurd (cc e)

pub detach_page-requires-clause-fresh : goal.detach_page-requires-clause-fresh
detach_page-requires-clause-fresh c = named_home c.args.caches.now c.args.cache c.requires.named c.args.page

pub returns-clause-rule : goal.returns-clause-rule
returns-clause-rule c = let e = c.detach_page.ensures in record { nodes = e.nodes; forest = e.forest; frames = e.frames }

pub returns-clause-clean : goal.returns-clause-clean
returns-clause-clean c x i =
    let e = c.detach_page.ensures in
    let d = e.detached c.node_of-node.result c.node_of-node.ensures in
    elim i [
      | inl same ↦ subst (IsClean c.detach_page.new.caches) (sym same) (detached_clean c.args.caches.now c.detach_page.new.caches e.kept.sound c.node_of-node.result c.args.cache c.args.page d.0 d.1)
      | inr none ↦ absurd none
    ]

pub returns-clause-grows : goal.returns-clause-grows
returns-clause-grows c =
    let e = c.detach_page.ensures in
    let a = c.args.caches.now in
    let b = c.detach_page.new.caches in
    let f = forest_of a in
    let x = page_name c.args.cache c.args.page.0 in
    let at = c.requires.sound.kept.listed.nodes c.args.cache.0 c.args.page.0 c.node_of-node.result c.node_of-node.ensures in
    let is : IsNode f x = subst (IsNode f) at.1 (IsNode-forest_of a c.requires.sound.kept.named c.node_of-node.result at.0) in
    record {
      consistent = subst IsConsistent (sym e.nodes) (detach-consistent f c.requires.consistent x is refl OnSegment);
      stays = λ y there. subst (λ g. IsNode g y) (sym e.nodes) (detach_stays f c.requires.consistent x is refl OnSegment y there);
      made = omega (arith, detach-made f x (Some OnSegment), forest_of-made b, forest_of-made a, ap (λ (g : Forest OwnState). g.made) e.nodes);
      room = e.room;
      few = omega (arith, detach_len f c.requires.consistent x is refl (Some OnSegment), ap (λ (g : Forest OwnState). len g.nodes) e.nodes);
    }
