use Rattle.std.proofs.Common.{◌≡◌, ◌+◌, IsSome, sym, ap, ◌∙◌, subst, arith}
use Rattle.local_cache.specs.Arena.{Arena, HasNode, node_at}
use Rattle.local_cache.specs.Reading.{name_of}
use Rattle.local_cache.specs.Sound.{IsSound}
use Rattle.tree_merge.specs.declared.released.Released.TheVariants.{Nothing}
use Rattle.tree_merge.specs.Copying.{page_after}
use Rattle.tree_merge.specs.Stepping.{IsRetireStep}
use Rattle.tree_merge.proofs.Leaving.Detached.{page_held, page_name}
use Rattle.tree_merge.proofs.PagesAlone.Steps.{retired_one}
use Rattle.tree_merge.proofs.RetiredPages.InTurn.{retired_step}
use Rattle.tree_merge.proofs.stepping.retire_step.Goals as goal

pub gather-requires : goal.gather-requires
gather-requires c =
    let x = c.args.extent in
    page_held c.args.caches.now c.requires.sound x.cache (page_after x.first c.args.done) c.node_of-node.result c.node_of-node.ensures

-- Gathering changes nothing.

pub retire_many-many-requires-clause-sound : goal.retire_many-many-requires-clause-sound
retire_many-many-requires-clause-sound c = subst IsSound (sym c.gather.ensures) c.requires.sound

pub retire_many-many-requires-clause-held : goal.retire_many-many-requires-clause-held
retire_many-many-requires-clause-held c =
    let x = c.args.extent in
    subst (λ (b : Arena). HasNode b c.node_of-node.result) (sym c.gather.ensures)
    (page_held c.args.caches.now c.requires.sound x.cache (page_after x.first c.args.done) c.node_of-node.result c.node_of-node.ensures)

pub returns-then-many-gt0-clause-step : goal.returns-then-many-gt0-clause-step
returns-then-many-gt0-clause-step c =
    let x = c.args.extent in
    let n = c.node_of-node.result in
    let many = c.retire_many-many in
    let named = ap (λ (b : Arena). name_of b n) c.gather.ensures ∙ page_name c.args.caches.now c.requires.sound x.cache (page_after x.first c.args.done) n c.node_of-node.ensures in
    subst (λ (b : Arena). IsRetireStep b many.new.caches x c.args.done (record { pages = many.result; released = Nothing })) c.gather.ensures
    (retired_step c.gather.new.caches many.new.caches x c.args.done many.result (many.ensures.retired x.cache (page_after x.first c.args.done) named))

-- None were retired at once: the caches are as they were.

pub retire-released-requires-clause-sound : goal.retire-released-requires-clause-sound
retire-released-requires-clause-sound c = subst IsSound (sym (c.retire_many-many.ensures.none (omega arith) ∙ c.gather.ensures)) c.requires.sound

pub retire-released-requires-clause-node : goal.retire-released-requires-clause-node
retire-released-requires-clause-node c =
    let x = c.args.extent in
    subst (λ (b : Arena). IsSome (node_at b x.cache.0 (x.first.0 + c.args.done))) (sym (c.retire_many-many.ensures.none (omega arith) ∙ c.gather.ensures)) c.requires.node

pub returns-else-many-gt0-clause-step : goal.returns-else-many-gt0-clause-step
returns-else-many-gt0-clause-step c =
    let x = c.args.extent in
    let one = c.retire-released in
    let same : c.retire_many-many.new.caches ≡ c.args.caches.now = c.retire_many-many.ensures.none (omega arith) ∙ c.gather.ensures in
    subst (λ (b : Arena). IsRetireStep b one.new.caches x c.args.done (record { pages = 1; released = one.result })) same
    (retired_one c.retire_many-many.new.caches one.new.caches x c.args.done one.result one.ensures.alone)
