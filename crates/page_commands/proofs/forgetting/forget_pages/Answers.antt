use Rattle.std.proofs.Common.{ℕ, ◌+◌, [], ◌∷◌, None, refl, sym, ap, ◌∙◌, subst, inl, inr, arith}
use Rattle.std.specs.Prelude.{option_map, replicate}
use Rattle.vm_ids.specs.Forest.Commands.{extent_names, page_name, page_names}
use Rattle.vm_ids.specs.Forest.Forgetting.{forget, forgotten}
use Rattle.vm_ids.specs.Forest.NameLists.{◌∈◌}
use Rattle.std.proofs.lemmas.Bool.{cases_eq}
use Rattle.vm_ids.proofs.Forest.Laws.Ranges.{ranges_hold_their_pages}
use Rattle.local_cache.specs.declared.own_state.OwnState.TheVariants.{Zero}
use Rattle.local_cache.specs.Reading.{forest_of}
use Rattle.residency.specs.Seeing.{frame_forest}
use Rattle.residency.specs.StoreForest.{store_forest}
use Rattle.residency.specs.World.{world}
use Rattle.residency.proofs.Worlds.Nodes.{same, same_then}
use Rattle.page_commands.specs.Homes.{IsUnclean}
use Rattle.page_commands.specs.Steps.{zeros_told}
use Rattle.page_commands.proofs.Forgotten.Range.{forgotten_by, in_range, names_end, names_start, range_stays, same_place}
use Rattle.page_commands.proofs.TiedStores.Kept.{kept_none, kept_then, unclean_kept, unpinned_kept}
use Rattle.page_commands.proofs.forgetting.forget_pages.Goals as goal

pub loop-page-init : goal.loop-page-init
loop-page-init c =
    let a = c.args.caches.now in
    let s = c.args.store.now in
    let start = names_start c.args.extent.cache c.args.extent.first.0 c.args.extent.pages in
    record {
      nodes = ap (λ xs. forgotten xs Zero (forest_of a)) (sym start);
      forest = λ told size fit. let w = world told size a s in ap (λ xs. forgotten xs (zeros_told w) (store_forest w)) (sym start);
      frames = ap (λ xs. forgotten xs None (frame_forest a s.map)) (sym start);
      kept = kept_none (extent_names c.args.extent) s a c.requires.sound c.requires.tied;
      same = same a;
      unclean = λ i low. absurd (omega (arith, low));
      count = refl;
    }

pub forget_page-requires-clause-node : goal.forget_page-requires-clause-node
forget_page-requires-clause-node c = range_stays c.args.caches.now c.loop-page.caches c.loop-page.invariant.same c.requires.sound c.args.extent.cache c.args.extent.first.0 c.args.extent.pages c.loop-page.page c.requires.nodes c.loop-page-test.true

pub forget_page-requires-clause-unpinned : goal.forget_page-requires-clause-unpinned
forget_page-requires-clause-unpinned c =
    let x = page_name c.args.extent.cache (c.args.extent.first.0 + c.loop-page.page) in
    unpinned_kept (extent_names c.args.extent) c.args.store.now c.args.caches.now c.loop-page.store c.loop-page.caches c.requires.tied c.loop-page.invariant.kept x
    (c.requires.unpinned x (in_range c.args.extent.cache c.args.extent.first.0 c.args.extent.pages c.loop-page.page c.loop-page-test.true))

pub loop-page-preserved : goal.loop-page-preserved
loop-page-preserved c =
    let i = c.loop-page.invariant in
    let k = c.loop-page.page in
    let low = c.loop-page-test.true in
    let cache = c.args.extent.cache in
    let p = c.args.extent.first.0 in
    let n = c.args.extent.pages in
    let s = c.args.store.now in
    let o = c.args.caches.now in
    let t = c.loop-page.store in
    let a = c.loop-page.caches in
    let u = c.forget_page.new.store in
    let b = c.forget_page.new.caches in
    let e = c.forget_page.ensures in
    let x = page_name cache (p + k) in
    let all = page_names cache p n in
    record {
      nodes = forgotten_by (forest_of a) (forest_of b) cache p n k low Zero e.rule.nodes ∙ i.nodes;
      forest = λ told size fit.
          let one = i.kept.gives_back told size fit in
          forgotten_by (store_forest (world told size a t)) (store_forest (world told size b u)) cache p n k low (zeros_told (world told size o s))
          (e.rule.forest told size one.tied ∙ ap (λ (m : ℕ). forget (store_forest (world told size a t)) x (option_map (λ _. replicate m 0) told)) one.page)
          ∙ i.forest told size fit;
      frames = forgotten_by (frame_forest a t.map) (frame_forest b u.map) cache p n k low None e.rule.frames ∙ i.frames;
      kept = kept_then all (x ∷ []) all s o t a u b c.requires.tied (λ y j. j) (λ y j. elim j [ inl is ↦ subst (λ z. z ∈ all) (sym is) (in_range cache p n k low) | inr none ↦ absurd none ]) i.kept e.kept;
      same = same_then o a b i.same e.same;
      unclean = λ j below. elim (cases_eq j k) [
        | inl is ↦ subst (λ m. IsUnclean b (page_name cache (p + m))) (sym is) e.unclean
        | inr apart ↦ unclean_kept (x ∷ []) t a u b i.kept.tied e.kept (page_name cache (p + j)) (λ in_it. elim in_it [ inl is ↦ apart (same_place cache p j k is) | inr none ↦ none ]) (i.unclean j (omega (arith, below, apart)))
      ];
      count = e.count ∙ i.count;
    }

pub returns-clause-rule : goal.returns-clause-rule
returns-clause-rule c =
    let i = c.loop-page.invariant in
    let a = c.loop-page.caches in
    let t = c.loop-page.store in
    let none = names_end c.args.extent.cache (c.args.extent.first.0 + c.loop-page.page) c.args.extent.pages c.loop-page.page (omega (arith, c.loop-page-test.false)) in
    record {
      nodes = ap (λ xs. forgotten xs Zero (forest_of a)) (sym none) ∙ i.nodes;
      forest = λ told size fit. ap (λ xs. forgotten xs (zeros_told (world told size c.args.caches.now c.args.store.now)) (store_forest (world told size a t))) (sym none) ∙ i.forest told size fit;
      frames = ap (λ xs. forgotten xs None (frame_forest a t.map)) (sym none) ∙ i.frames;
    }

pub returns-clause-unclean : goal.returns-clause-unclean
returns-clause-unclean c x j =
    let at = (ranges_hold_their_pages c.args.extent.cache c.args.extent.first.0 c.args.extent.pages x).0 j in
    subst (IsUnclean c.loop-page.caches) (sym at.2) (c.loop-page.invariant.unclean at.0 (omega (arith, at.1, c.loop-page-test.false)))
