use Rattle.std.proofs.Common.{◌≡◌, ◌+◌, Bool, true, false, List, None, is_some, sym, ap, ◌∙◌, subst}
use Rattle.vm_ids.specs.declared.node_name.NodeName.{NodeName}
use Rattle.vm_ids.specs.Forest.Commands.{extent_names}
use Rattle.vm_ids.specs.Forest.Forgetting.{forgotten}
use Rattle.vm_ids.specs.Forest.Nodes.{Forest}
use Rattle.vm_ids.proofs.Forest.Laws.Ranges.{ranges_hold_their_pages}
use Rattle.local_cache.specs.declared.own_state.OwnState.TheVariants.{Zero}
use Rattle.local_cache.specs.Reading.{forest_of}
use Rattle.residency.specs.Seeing.{frame_forest}
use Rattle.residency.specs.StoreForest.{store_forest}
use Rattle.residency.specs.World.{world}
use Rattle.page_commands.specs.Homes.{IsUnclean, is_named}
use Rattle.page_commands.specs.Steps.{forgotten_where, zeros_told}
use Rattle.page_commands.proofs.Forgotten.Law.{forgotten_whole}
use Rattle.page_commands.proofs.TiedStores.Kept.{kept_none}
use Rattle.page_commands.proofs.TiedStores.Named.{temporary_unclean}
use Rattle.page_commands.proofs.forgetting.forget_named.Goals as goal

pub returns-then-is_some-clause-whole : goal.returns-then-is_some-clause-whole
returns-then-is_some-clause-whole c =
    let e = c.forget_pages.ensures in
    forgotten_whole c.args.caches.now c.forget_pages.new.caches (extent_names c.args.extent) c.requires.whole e.same e.kept.sound e.rule.nodes

-- a named cache's pages are forgotten, and those of a temporary one stay
where_named : {P : Type 0} (named : Bool) (names : List NodeName) (p : P) (f : Forest P) → named ≡ true → forgotten names p f ≡ forgotten_where named names p f
where_named named names p f is = ap (λ b. forgotten_where b names p f) (sym is)

where_temporary : {P : Type 0} (named : Bool) (names : List NodeName) (p : P) (f : Forest P) → named ≡ false → f ≡ forgotten_where named names p f
where_temporary named names p f is = ap (λ b. forgotten_where b names p f) (sym is)

pub returns-then-is_some-clause-rule : goal.returns-then-is_some-clause-rule
returns-then-is_some-clause-rule c =
    let a = c.args.caches.now in
    let s = c.args.store.now in
    let names = extent_names c.args.extent in
    let e = c.forget_pages.ensures.rule in
    let named : is_named a c.args.extent.cache ≡ true = sym (ap is_some c.segment.ensures) ∙ sym c.is_some.ensures ∙ c.if-is_some.true in
    record {
      nodes = e.nodes ∙ where_named (is_named a c.args.extent.cache) names Zero (forest_of a) named;
      forest = λ told size fit. let w = world told size a s in e.forest told size fit ∙ where_named (is_named a c.args.extent.cache) names (zeros_told w) (store_forest w) named;
      frames = e.frames ∙ where_named (is_named a c.args.extent.cache) names None (frame_forest a s.map) named;
    }

pub returns-else-is_some-clause-rule : goal.returns-else-is_some-clause-rule
returns-else-is_some-clause-rule c =
    let a = c.args.caches.now in
    let s = c.args.store.now in
    let names = extent_names c.args.extent in
    let temporary : is_named a c.args.extent.cache ≡ false = sym (ap is_some c.segment.ensures) ∙ sym c.is_some.ensures ∙ c.if-is_some.false in
    record {
      nodes = where_temporary (is_named a c.args.extent.cache) names Zero (forest_of a) temporary;
      forest = λ told size fit. let w = world told size a s in where_temporary (is_named a c.args.extent.cache) names (zeros_told w) (store_forest w) temporary;
      frames = where_temporary (is_named a c.args.extent.cache) names None (frame_forest a s.map) temporary;
    }

pub returns-else-is_some-clause-unclean : goal.returns-else-is_some-clause-unclean
returns-else-is_some-clause-unclean c x i =
    let at = (ranges_hold_their_pages c.args.extent.cache c.args.extent.first.0 c.args.extent.pages x).0 i in
    subst (IsUnclean c.args.caches.now) (sym at.2) (temporary_unclean c.args.caches.now c.args.extent.cache c.args.store.now c.requires.tied (sym (ap is_some c.segment.ensures) ∙ sym c.is_some.ensures ∙ c.if-is_some.false) (record { 0 = c.args.extent.first.0 + at.0 }))

pub returns-else-is_some-clause-kept : goal.returns-else-is_some-clause-kept
returns-else-is_some-clause-kept c = kept_none (extent_names c.args.extent) c.args.store.now c.args.caches.now c.requires.whole.sound c.requires.tied
