use Rattle.std.proofs.Common.{rules, ◌≡◌, ◌+◌, ◌≤◌, ℕ, [], Some, refl, sym, ap, ◌∙◌, subst, inl, inr, arith}
use Rattle.vm_ids.specs.declared.numbers.CacheId.{CacheId}
use Rattle.vm_ids.specs.Forest.Commands.{page_name, page_names}
use Rattle.vm_ids.specs.Forest.NameLists.{◌∈◌}
use Rattle.vm_ids.specs.Forest.Nodes.{IsNode, child_count}
use Rattle.vm_ids.proofs.Forest.Laws.Ranges.{ranges_hold_their_pages}
use Rattle.local_cache.specs.Arena.{Arena}
use Rattle.local_cache.specs.Reading.{forest_of}
use Rattle.local_cache.specs.Whole.{IsWhole, size_of}
use Rattle.local_cache.proofs.Changes.SameNodes.{forest_of-made}
use Rattle.local_cache.proofs.Whole.LivePages.{page_there, pages_once}
use Rattle.residency.specs.declared.store.Store.{Store}
use Rattle.page_commands.proofs.Forgotten.Range.{in_range, same_place}
use Rattle.page_commands.proofs.PassedOver.Childless.{retired_childless}
use Rattle.page_commands.proofs.RetiredPages.Parts.{PagesLeft, RetiresPages, next_there, pages_left, retires_none, retires_then}
use Rattle.page_commands.proofs.TiedStores.Kept.{unclean_kept, unpinned_kept}
use Rattle.page_commands.proofs.destroying.retire_pages.Goals as goal

-- the pages that are left when so many are retired
left : (s : Store) (a : Arena) (t : Store) (b : Arena) → IsWhole a → (cache : CacheId) (pages k : ℕ) → size_of a cache.0 ≡ Some pages → k ≤ pages → RetiresPages cache 0 k s a t b
    → PagesLeft (forest_of a) (forest_of b) cache 0 pages k
left s a t b whole cache pages k size few so_far =
    subst (λ g. PagesLeft (forest_of a) g cache 0 pages k) (sym so_far.rule.nodes)
    (pages_left (forest_of a) whole.consistent cache 0 pages k few (pages_once a whole cache pages size))

pub loop-done-init : goal.loop-done-init
loop-done-init c =
    let retire = c.requires.retire in
    record { retired = retires_none c.args.cache 0 c.args.store.now c.args.caches.now retire.whole.sound retire.tied; few = omega arith }

pub retire_next-done-requires-clause-node : goal.retire_next-done-requires-clause-node
retire_next-done-requires-clause-node c =
    let i = c.loop-done.invariant in
    let k = c.loop-done.done in
    let a = c.args.caches.now in
    let b = c.loop-done.caches in
    let number : 0 + k ≡ k = omega arith in
    let still = left c.args.store.now a c.loop-done.store b c.requires.retire.whole c.args.cache c.args.pages k c.requires.pages i.few i.retired in
    page_there b i.retired.kept.sound c.args.cache (record { 0 = k })
    (subst (λ p. IsNode (forest_of b) (page_name c.args.cache p)) number (next_there (forest_of a) (forest_of b) c.args.cache 0 c.args.pages k (omega (arith, c.loop-done-test.true)) still))

pub retire_next-done-requires-clause-made : goal.retire_next-done-requires-clause-made
retire_next-done-requires-clause-made c =
    let i = c.loop-done.invariant in
    let a = c.args.caches.now in
    let b = c.loop-done.caches in
    let still = left c.args.store.now a c.loop-done.store b c.requires.retire.whole c.args.cache c.args.pages c.loop-done.done c.requires.pages i.few i.retired in
    omega (arith, i.few, still.made, forest_of-made a, forest_of-made b, c.requires.retire.made)

pub retire_next-done-requires-clause-unpinned : goal.retire_next-done-requires-clause-unpinned
retire_next-done-requires-clause-unpinned c =
    let k = c.loop-done.done in
    let x = page_name c.args.cache k in
    let number : 0 + k ≡ k = omega arith in
    let here = subst (λ p. page_name c.args.cache p ∈ page_names c.args.cache 0 c.args.pages) number (in_range c.args.cache 0 c.args.pages k (omega (arith, c.loop-done-test.true))) in
    unpinned_kept [] c.args.store.now c.args.caches.now c.loop-done.store c.loop-done.caches c.requires.retire.tied c.loop-done.invariant.retired.kept x (c.requires.retire.unpinned x here)

pub retire_next-done-requires-clause-may : goal.retire_next-done-requires-clause-may
retire_next-done-requires-clause-may c =
    let k = c.loop-done.done in
    let x = page_name c.args.cache k in
    let number : 0 + k ≡ k = omega arith in
    let i = c.loop-done.invariant.retired in
    let here = subst (λ p. page_name c.args.cache p ∈ page_names c.args.cache 0 c.args.pages) number (in_range c.args.cache 0 c.args.pages k (omega (arith, c.loop-done-test.true))) in
    elim (c.requires.may x here) [
      | inl unclean ↦ inl (unclean_kept [] c.args.store.now c.args.caches.now c.loop-done.store c.loop-done.caches c.requires.retire.tied i.kept x (λ j. j) unclean)
      | inr none ↦ inr (ap (λ g. child_count g x) i.rule.nodes ∙ retired_childless (page_names c.args.cache 0 k) (forest_of c.args.caches.now) x refl (λ j.
          let at = (ranges_hold_their_pages c.args.cache 0 k x).0 j in
          let place = same_place c.args.cache 0 k at.0 (ap (page_name c.args.cache) number ∙ at.2) in omega (arith, place, at.1)) none)
    ]

pub loop-done-preserved : goal.loop-done-preserved
loop-done-preserved c =
    let i = c.loop-done.invariant in
    let e = c.retire_next-done.ensures in
    let k = c.loop-done.done in
    let number : k ≡ 0 + k = omega arith in
    let more : RetiresPages c.args.cache k c.retire_next-done.result c.loop-done.store c.loop-done.caches c.retire_next-done.new.store c.retire_next-done.new.caches =
    record { rule = e.rule; kept = e.kept; room = e.room; fewer = e.fewer } in
    record {
      retired =
          retires_then c.args.cache 0 k c.retire_next-done.result c.args.store.now c.args.caches.now c.loop-done.store c.loop-done.caches c.retire_next-done.new.store c.retire_next-done.new.caches
          c.requires.retire.tied i.retired
          (subst (λ p. RetiresPages c.args.cache p c.retire_next-done.result c.loop-done.store c.loop-done.caches c.retire_next-done.new.store c.retire_next-done.new.caches) number more);
      few = e.few;
    }

pub returns : goal.returns
returns c =
    let i = c.loop-done.invariant in
    let all : c.loop-done.done ≡ c.args.pages = omega (arith, c.loop-done-test.false, i.few) in
    let a = c.args.caches.now in
    let b = c.loop-done.caches in
    let still = left c.args.store.now a c.loop-done.store b c.requires.retire.whole c.args.cache c.args.pages c.loop-done.done c.requires.pages i.few i.retired in
    record {
      rule = (subst (λ k. RetiresPages c.args.cache 0 k c.args.store.now c.args.caches.now c.loop-done.store c.loop-done.caches) all i.retired).rule;
      kept = search rules;
      consistent = (left c.args.store.now c.args.caches.now c.loop-done.store c.loop-done.caches c.requires.retire.whole c.args.cache c.args.pages c.loop-done.done c.requires.pages i.few i.retired).consistent;
      made = omega (arith, i.few, still.made, forest_of-made a, forest_of-made b);
      few = (left c.args.store.now c.args.caches.now c.loop-done.store c.loop-done.caches c.requires.retire.whole c.args.cache c.args.pages c.loop-done.done c.requires.pages i.few i.retired).few;
      room = search rules;
      fewer = search rules;
    }
