use Rattle.std.proofs.Common.{true, ◌≡◌, inl, sym, ap, subst, ◌∙◌, refl, arith, rules}
use Rattle.local_cache.specs.Arena.{with_own, Arena}
use Rattle.local_cache.specs.Own.{own_of}
use Rattle.local_cache.proofs.Nodes.OwnStates.{own_other, own_same}
use Rattle.local_cache.specs.declared.own_state.OwnState.TheVariants.{Resident}
use Rattle.residency.specs.Between.{world_at}
use Rattle.residency.specs.StoreForest.{store_forest}
use Rattle.residency.specs.World.{Still, World}
use Rattle.residency.proofs.Worlds.Composed.{still_then}
use Rattle.residency.proofs.Forests.StillForest.{still_forest, still_like}
use Rattle.fault_path.specs.Faults.{Kept}
use Rattle.fault_path.proofs.OnePage.DirtyPage.{bound_dirty, dirtied}
use Rattle.fault_path.proofs.Calls.Kept.{still_kept}
use Rattle.fault_path.proofs.Rules.ReadyForest.{kept_ready}
use Rattle.local_cache.proofs.Changes.SameNodes.{copies-put}
use Rattle.residency.proofs.Forests.StillForest.{still_copies}
use Rattle.local_cache.specs.declared.own_state.OwnState.{OwnState}
use Rattle.fault_path.proofs.Calls.Costs.{bring_most, brought_traffic, failed_most, most_more, pulls_most}
use Rattle.fault_path.proofs.Frames.GatheredFrames.{brought_home}
use Rattle.residency.specs.declared.store.Store.{Store}
use Rattle.fault_path.proofs.Calls.Answered.{miss_by}
use Rattle.residency.proofs.Pushes.PushedPages.{tells_as}
use Rattle.residency.proofs.Translations.Kept.{drops_more, drops_trans, still_drops_but}
use Rattle.residency.specs.Translating.{Drops}
use Rattle.fault_path.specs.Translating.{MayCome, without_homes}
use Rattle.fault_path.proofs.Translations.Given.{failed_leaves, forgot_drops}
use Rattle.fault_path.proofs.Translations.Whole.{dirtied_drops}
use Rattle.fault_path.specs.Coming.{IsOfWrite, OnlyCome}
use Rattle.fault_path.proofs.Frames.ComingFrames.{come_owned, more_come, one_comes}
use Rattle.fault_path.proofs.write_faults.bring_dirty.Given.{Over}
use Rattle.fault_path.proofs.write_faults.bring_dirty.Goals.{After-bring_in}
use Rattle.fault_path.proofs.write_faults.bring_dirty.Goals as goal

pub returns-in_err-frame-clause-ready : goal.returns-in_err-frame-clause-ready
returns-in_err-frame-clause-ready g c =
    let old : World = world_at g.M.Mapper c.args.mapper.now c.args.caches.now c.args.store.now in
    let w : World = world_at g.M.Mapper c.bring_in.new.mapper c.bring_in.new.caches c.bring_in.new.self in
    let e = c.in_err-frame.ensures in
    miss_by old w e.still (g.M.Mapper.counts c.args.mapper.now) _ c.requires.right.sound c.requires.right.shaped e.pinned e.later e.told _ c.from_residual.result c.from_residual.ensures.1 (search rules)

pub returns-in_err-frame-clause-most : goal.returns-in_err-frame-clause-most
returns-in_err-frame-clause-most g c =
    let own : OwnState = own_of c.args.caches.now c.args.node in
    let e = c.in_err-frame.ensures in
    most_more _ _ _ _ _ _ (failed_most own c.args.store.now.frames _ _ _ _ e.traffic e.few) (omega arith) (omega (arith, bring_most own))

pub returns-in_err-frame-clause-drops : goal.returns-in_err-frame-clause-drops
returns-in_err-frame-clause-drops g c =
    failed_leaves _ c.from_residual.result _ _ _ _ _ _ c.from_residual.ensures.1
    (drops_more (λ n. n ≡ c.args.node) (MayCome c.args.caches.now c.args.node) c.args.caches.now c.bring_in.new.caches c.args.store.now c.bring_in.new.self (λ n e. inl e)
    (still_drops_but _ _ _ _ c.args.caches.now c.bring_in.new.caches c.args.store.now c.bring_in.new.self c.requires.right.store.tied c.bring_in.ensures.still.stays c.bring_in.ensures.tables c.args.node c.bring_in.ensures.others))

-- the page is brought in
brought : (g : Over) (c : After-bring_in g) → OnlyCome (IsOfWrite c.args.caches.now c.args.node c.args.node) (world_at g.M.Mapper c.args.mapper.now c.args.caches.now c.args.store.now) (world_at g.M.Mapper c.bring_in.new.mapper c.bring_in.new.caches c.bring_in.new.self)
brought g c = more_come (λ m. m ≡ c.args.node) (IsOfWrite c.args.caches.now c.args.node c.args.node) _ _ (λ m e. inl e) (one_comes c.args.node _ _ c.bring_in.ensures.others)

pub returns-in_err-frame-clause-frames : goal.returns-in_err-frame-clause-frames
returns-in_err-frame-clause-frames g c = brought g (goal.at.returns-in_err-frame-clause-frames g c).After-bring_in

pub returns : goal.returns
returns g c =
    let told = g.M.Mapper.held c.bring_in.new.mapper in
    let old : World = world_at g.M.Mapper c.args.mapper.now c.args.caches.now c.args.store.now in
    let w : World = world_at g.M.Mapper c.bring_in.new.mapper c.bring_in.new.caches c.bring_in.new.self in
    let b = c.in_ok-frame.ensures in
    let first = b.still in
    let whole : Still old (dirtied w c.args.node) = still_then old w (dirtied w c.args.node) first (bound_dirty old w c.in_ok-frame.frame.0 c.args.node first.stays.right (still_like old.caches w.caches first.stays.caches) c.requires.own.node c.requires.granted b.home.0 b.home.1) in
    let kept : Kept old (dirtied w c.args.node) = still_kept old (dirtied w c.args.node) whole c.requires.right.sound c.requires.right.shaped b.pinned in
    let own : OwnState = own_of c.args.caches.now c.args.node in
    let size = g.M.Mapper.page_bytes c.bring_in.new.mapper in
    let dirty : Still w (dirtied w c.args.node) = bound_dirty old w c.in_ok-frame.frame.0 c.args.node first.stays.right (still_like old.caches w.caches first.stays.caches) c.requires.own.node c.requires.granted b.home.0 b.home.1 in
    let may = MayCome c.args.caches.now c.args.node in
    let left = subst (λ (a : Arena). Drops may c.args.caches.now c.args.store.now a (without_homes c.args.node c.args.node c.bring_in.new.self)) (sym c.set_state.ensures.changed)
    (drops_trans may may may c.args.caches.now c.bring_in.new.caches (dirtied w c.args.node).caches c.args.store.now c.bring_in.new.self (without_homes c.args.node c.args.node c.bring_in.new.self) (λ n e. e) (λ n e. e)
    (drops_more (λ n. n ≡ c.args.node) (MayCome c.args.caches.now c.args.node) c.args.caches.now c.bring_in.new.caches c.args.store.now c.bring_in.new.self (λ n e. inl e)
    (still_drops_but _ _ _ _ c.args.caches.now c.bring_in.new.caches c.args.store.now c.bring_in.new.self c.requires.right.store.tied c.bring_in.ensures.still.stays c.bring_in.ensures.tables c.args.node c.bring_in.ensures.others))
    (drops_trans may may may c.bring_in.new.caches c.bring_in.new.caches (dirtied w c.args.node).caches c.bring_in.new.self (without_homes c.args.node c.args.node c.bring_in.new.self) (without_homes c.args.node c.args.node c.bring_in.new.self) (λ n e. e) (λ n e. e)
    (forgot_drops may c.bring_in.new.caches c.bring_in.new.self c.args.node c.args.node first.stays.right.tied.placed (inl refl) (inl refl))
    (dirtied_drops may told size c.bring_in.new.caches c.bring_in.new.self c.args.node c.args.node c.args.node first.stays.right dirty))) in
    record {
      ready = (record {
        answered = record { kept = subst (λ (a : Arena). Kept old (world_at g.M.Mapper c.bring_in.new.mapper a c.bring_in.new.self)) (sym c.set_state.ensures.changed) kept; later = b.later; told = tells_as _ _ _ _ _ refl b.told };
        done = record {
          forest = ap (λ (a : Arena). store_forest (world_at g.M.Mapper c.bring_in.new.mapper a c.bring_in.new.self)) c.set_state.ensures.changed
              ∙ still_forest old (dirtied w c.args.node) whole ∙ kept_ready old c.requires.right.sound c.requires.right.shaped c.args.node c.requires.own.node c.requires.own c.requires.none;
          bound = b.home;
          resident = ap (λ (a : Arena). own_of a c.args.node) c.set_state.ensures.changed ∙ own_same c.bring_in.new.caches c.args.node (Resident _);
        };
        missed = tt;
      });
      drops = record { left = left; home = λ f at. inl (brought_home old w c.args.node c.requires.right.store (λ here. ap (λ (s : Store). s.map) (b.idle here).1) f at); failed = tt };
      frames = (let may = IsOfWrite c.args.caches.now c.args.node c.args.node in
          subst (λ (a : Arena). OnlyCome may old (world_at g.M.Mapper c.bring_in.new.mapper a c.bring_in.new.self)) (sym c.set_state.ensures.changed)
          (come_owned may old w (with_own w.caches c.args.node (Resident true)) c.args.node (inl refl) (λ m d. own_other w.caches c.args.node m (Resident true) d) (brought g (goal.at.returns g c).After-bring_in)));
      copies = (let b = c.in_ok-frame.ensures in let first = b.still in ap (λ (a : Arena). a.copies) c.set_state.ensures.changed ∙ copies-put c.bring_in.new.caches c.args.node _ ∙ still_copies c.args.caches.now c.bring_in.new.caches first.stays.caches);
      traffic = brought_traffic (own_of c.args.caches.now c.args.node) c.args.store.now.frames c.bring_in.new.self.frames _ _ b.still.stays.frames b.held _ b.traffic b.few;
      most = pulls_most _ _ _ _ _ _ (brought_traffic own c.args.store.now.frames c.bring_in.new.self.frames _ _ b.still.stays.frames b.held _ b.traffic b.few) (omega arith) (omega (arith, bring_most own));
      victim = search rules;
    }
