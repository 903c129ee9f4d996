use Rattle.std.proofs.Common.{rules, ◌≡◌, ℕ, ◌+◌, Option, Some, None, IsTrue, false, true, ap, ◌∙◌, sym}
use Rattle.std.specs.Prelude.{MatchOption, ◌↔◌}
use Rattle.vm_ids.specs.declared.node_name.NodeName.{NodeName}
use Rattle.vm_ids.specs.declared.numbers.NodeId.{NodeId}
use Rattle.vm_ids.specs.Forest.Commands.{extent_names}
use Rattle.vm_ids.specs.Forest.NameLists.{◌∈◌}
use Rattle.vm_ids.proofs.Forest.Laws.Ranges.{ranges_hold_their_pages}
use Rattle.global_map.specs.Pairs.{node_of}
use Rattle.page_tables.specs.Translations.{is_written}
use Rattle.page_tables.proofs.Narrowing.{narrowed_where}
use Rattle.local_cache.specs.Arena.{HasNode}
use Rattle.local_cache.specs.Reading.{name_of}
use Rattle.local_cache.proofs.NewCache.FoundPages.{some_of}
use Rattle.local_cache.proofs.Whole.LivePages.{page_there}
use Rattle.page_commands.specs.Translating.{is_owned}
use Rattle.page_commands.proofs.StaleTranslations.Owned.{held_there, owned_is}
use Rattle.page_commands.proofs.StaleTranslations.Ranges.{with_tables}
use Rattle.page_commands.proofs.translations.narrow_written.Goals as goal

-- each page of the range has a node
there : (c : goal.After-narrow_picked) → (x : NodeName) → x ∈ extent_names c.args.extent → (n : NodeId) × HasNode c.args.caches.now n × (name_of c.args.caches.now n ≡ x)
there c x i =
    let e = c.args.extent in
    let a = c.args.caches.now in
    let sound = c.requires.whole.sound in
    let page = (ranges_hold_their_pages e.cache e.first.0 e.pages x).0 i in
    let node = some_of _ (page_there a sound e.cache (record { 0 = e.first.0 + page.0 }) (c.requires.nodes page.0 page.1)) in
    let at = sound.kept.listed.nodes e.cache.0 (e.first.0 + page.0) node.0 node.1 in
    (node.0, at.0, at.1 ∙ sym page.2)

-- what is answered of the node in a frame, if there is one
each : (P : Type 0) {Q R : NodeId → Type 0} (o : Option NodeId) → ((n : NodeId) → Q n → R n) → MatchOption o P Q → MatchOption o P R
each P None h m = m
each P (Some n) h m = h n m

pub narrow_picked-requires-clause-callable : goal.narrow_picked-requires-clause-callable
narrow_picked-requires-clause-callable c = λ frame node at. (let held = held_there c.args.store.now c.args.caches.now c.requires.tied frame node at in search rules)

pub returns : goal.returns
returns c =
    let s = c.args.store.now in
    let a = c.args.caches.now in
    let names = extent_names c.args.extent in
    let n = c.narrow_picked.ensures.narrowed in
    let answered : (f : ℕ) → is_written s.tables f ≡ true → MatchOption (node_of s.map f) (n.frames f ≡ false) (λ m. IsTrue (n.frames f) ↔ (name_of a m ∈ names)) =
    λ f w. each (n.frames f ≡ false) (node_of s.map f) (λ m q. search rules) (n.answered f w) in
    c.narrow_picked.ensures.same
    ∙ ap (with_tables s) (n.tables ∙ narrowed_where n.frames (is_owned a s.map names) s.tables (λ f w. owned_is s a c.requires.tied c.requires.whole.sound names (there c) f (n.frames f) (answered f w)))
