use Rattle.std.proofs.Common.{sym, subst, inl, inr}
use Rattle.vm_ids.specs.declared.node_name.NodeName.TheVariants.{Live}
use Rattle.vm_ids.specs.Forest.Commands.{page_names}
use Rattle.residency.proofs.Worlds.Nodes.{same}
use Rattle.page_commands.specs.Homes.{MayGo}
use Rattle.page_commands.proofs.PassedOver.Forgetting.{forgets_none, forgets_one}
use Rattle.page_commands.proofs.PassedOver.Nodes.{untouched_may}
use Rattle.page_commands.proofs.TiedStores.Kept.{kept_none}
use Rattle.page_commands.proofs.forgetting.forget_next.Goals as goal

pub untouched_nodes-untouched-requires : goal.untouched_nodes-untouched-requires
untouched_nodes-untouched-requires c = (c.requires.sound.kept.listed.nodes c.args.cache.0 c.args.page.0 c.node_of-node.result c.node_of-node.ensures).0

pub returns-then-untouched-gt0-clause-rule : goal.returns-then-untouched-gt0-clause-rule
returns-then-untouched-gt0-clause-rule c = forgets_none c.args.cache (page_names c.args.cache c.args.page.0 c.untouched_nodes-untouched.result) c.args.store.now c.args.caches.now

pub returns-then-untouched-gt0-clause-kept : goal.returns-then-untouched-gt0-clause-kept
returns-then-untouched-gt0-clause-kept c = kept_none (page_names c.args.cache c.args.page.0 c.untouched_nodes-untouched.result) c.args.store.now c.args.caches.now c.requires.sound c.requires.tied

pub returns-then-untouched-gt0-clause-same : goal.returns-then-untouched-gt0-clause-same
returns-then-untouched-gt0-clause-same c = same c.args.caches.now

pub returns-then-untouched-gt0-clause-may : goal.returns-then-untouched-gt0-clause-may
returns-then-untouched-gt0-clause-may c =
    untouched_may c.args.caches.now c.requires.sound c.args.cache c.args.page c.node_of-node.result c.node_of-node.ensures c.untouched_nodes-untouched.result c.untouched_nodes-untouched.ensures.untouched

pub returns-clause-rule : goal.returns-clause-rule
returns-clause-rule c = forgets_one c.args.cache (Live c.args.cache c.args.page) c.args.store.now c.args.caches.now c.forget_page.new.store c.forget_page.new.caches c.requires.named c.forget_page.ensures.rule

pub returns-clause-may : goal.returns-clause-may
returns-clause-may c x i = elim i [
  | inl e ↦ subst (MayGo c.forget_page.new.caches) (sym e) (inl c.forget_page.ensures.unclean)
  | inr none ↦ absurd none
]
