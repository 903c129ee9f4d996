use Rattle.std.proofs.Common.{true, inr, sym, ap, subst, ◌∙◌, ◌≡◌, ◌+◌, arith, Some, inl, refl, rules}
use Rattle.local_cache.specs.Arena.{with_own, Arena}
use Rattle.local_cache.specs.Own.{own_of}
use Rattle.local_cache.proofs.Nodes.OwnStates.{own_other, own_same}
use Rattle.local_cache.specs.declared.own_state.OwnState.TheVariants.{Resident}
use Rattle.residency.specs.Between.{world_at}
use Rattle.residency.specs.StoreForest.{store_forest}
use Rattle.residency.specs.World.{Still, World}
use Rattle.residency.proofs.Worlds.Homes.{home}
use Rattle.residency.proofs.Forests.StillForest.{still_caches_sound, still_forest, still_like}
use Rattle.vm_ids.specs.Forest.Rules.{heir, heir_gets}
use Rattle.global_map.specs.Pairs.{node_of}
use Rattle.local_cache.specs.Reading.{forest_of, name_of}
use Rattle.fault_path.specs.Faults.{Kept}
use Rattle.fault_path.proofs.OnePage.DirtyPage.{bound_dirty, dirtied}
use Rattle.fault_path.proofs.Calls.Kept.{still_kept, still_shaped}
use Rattle.fault_path.proofs.Rules.ReadyForest.{handed_ready}
use Rattle.fault_path.proofs.Frames.GatheredFrames.{bound_below, brought_home}
use Rattle.residency.specs.declared.store.Store.{Store}
use Rattle.fault_path.proofs.Rules.Heirs.{same_heir, still_heir}
use Rattle.fault_path.proofs.Frames.TwoFrames.{kept_then}
use Rattle.local_cache.proofs.Changes.SameNodes.{copies-put, like_then}
use Rattle.residency.proofs.Forests.StillForest.{still_copies}
use Rattle.local_cache.specs.declared.own_state.OwnState.{OwnState}
use Rattle.residency.specs.Causes.{HasMissCause, frames_to_bring}
use Rattle.fault_path.proofs.Calls.Costs.{bring_most, brought_traffic, brought_more, brought_taken, failed_most, most_more, most_then, pulls_most, pushes_then, resident_copies, resident_takes}
use Rattle.residency.proofs.Worlds.Composed.{still_then}
use Rattle.fault_path.proofs.Calls.Answered.{cause_then, later_then, miss_by}
use Rattle.residency.proofs.Pushes.PushedPages.{tells_as}
use Rattle.residency.proofs.Pushes.Told.{tells_then}
use Rattle.residency.specs.Translating.{Drops}
use Rattle.residency.proofs.Translations.Kept.{drops_more, drops_trans, still_drops_but}
use Rattle.fault_path.specs.Translating.{MayCome, without_homes}
use Rattle.fault_path.proofs.Translations.Given.{failed_leaves}
use Rattle.fault_path.proofs.Translations.Whole.{dirtied_drops, may_before}
use Rattle.fault_path.specs.Coming.{IsOfSave, IsOfWrite, OnlyCome}
use Rattle.fault_path.proofs.Frames.ComingFrames.{come_owned, come_then, more_come, one_comes}
use Rattle.fault_path.proofs.write_faults.hand_own.Given.{Over}
use Rattle.fault_path.proofs.write_faults.hand_own.Goals.{After-bring_in, After-hand_over}
use Rattle.fault_path.proofs.write_faults.hand_own.Goals as goal

pub returns-in_err-frame-clause-ready : goal.returns-in_err-frame-clause-ready
returns-in_err-frame-clause-ready g c =
    let old : World = world_at g.M.Mapper c.args.mapper.now c.args.caches.now c.args.store.now in
    let w : World = world_at g.M.Mapper c.bring_in.new.mapper c.bring_in.new.caches c.bring_in.new.self in
    let e = c.in_err-frame.ensures in
    miss_by old w e.still (g.M.Mapper.counts c.args.mapper.now) _ c.requires.right.sound c.requires.right.shaped e.pinned e.later e.told _ c.from_residual.result c.from_residual.ensures.1 (search rules)

pub hand_over-requires-clause-right : goal.hand_over-requires-clause-right
hand_over-requires-clause-right g c =
    let first = c.in_ok-frame.ensures.still in
    record { store = first.stays.right; sound = still_caches_sound _ _ first c.requires.right.sound; shaped = still_shaped _ _ first c.requires.right.sound c.requires.right.shaped }

pub hand_over-requires-clause-next : goal.hand_over-requires-clause-next
hand_over-requires-clause-next g c = still_heir _ _ c.in_ok-frame.ensures.still c.requires.right.sound c.args.node c.args.next c.requires.next

pub returns-in_err-frame-clause-most : goal.returns-in_err-frame-clause-most
returns-in_err-frame-clause-most g c =
    let own : OwnState = own_of c.args.caches.now c.args.node in
    let e = c.in_err-frame.ensures in
    most_more _ _ _ _ _ _ (failed_most own c.args.store.now.frames _ _ _ _ e.traffic e.few) (omega arith) (omega (arith, bring_most own))

pub returns-in_err-frame-clause-drops : goal.returns-in_err-frame-clause-drops
returns-in_err-frame-clause-drops g c =
    failed_leaves _ c.from_residual.result _ _ _ _ _ _ c.from_residual.ensures.1
    (drops_more (λ n. n ≡ c.args.node) (MayCome c.args.caches.now c.args.node) c.args.caches.now c.bring_in.new.caches c.args.store.now c.bring_in.new.self (λ n e. inl e)
    (still_drops_but _ _ _ _ c.args.caches.now c.bring_in.new.caches c.args.store.now c.bring_in.new.self c.requires.right.store.tied c.bring_in.ensures.still.stays c.bring_in.ensures.tables c.args.node c.bring_in.ensures.others))

-- the page is brought in
brought : (g : Over) (c : After-bring_in g) → OnlyCome (IsOfWrite c.args.caches.now c.args.node c.args.node) (world_at g.M.Mapper c.args.mapper.now c.args.caches.now c.args.store.now) (world_at g.M.Mapper c.bring_in.new.mapper c.bring_in.new.caches c.bring_in.new.self)
brought g c = more_come (λ m. m ≡ c.args.node) (IsOfWrite c.args.caches.now c.args.node c.args.node) _ _ (λ m e. inl e) (one_comes c.args.node _ _ c.bring_in.ensures.others)

-- and handed to the heir, or isn't
then_handed : (g : Over) (c : After-hand_over g) → OnlyCome (IsOfWrite c.args.caches.now c.args.node c.args.node) (world_at g.M.Mapper c.args.mapper.now c.args.caches.now c.args.store.now) (world_at g.M.Mapper c.hand_over.new.mapper c.hand_over.new.caches c.hand_over.new.store)
then_handed g c =
    let old : World = world_at g.M.Mapper c.args.mapper.now c.args.caches.now c.args.store.now in
    let w : World = world_at g.M.Mapper c.bring_in.new.mapper c.bring_in.new.caches c.bring_in.new.self in
    let v : World = world_at g.M.Mapper c.hand_over.new.mapper c.hand_over.new.caches c.hand_over.new.store in
    let may = IsOfWrite c.args.caches.now c.args.node c.args.node in
    let first = c.bring_in.ensures.still in
    let like = still_like old.caches w.caches first.stays.caches in
    come_then may old w v like (brought g (goal.at.After-hand_over g c).After-bring_in)
    (more_come (IsOfSave w.caches c.args.node) may w v (λ m s. elim s.one [
      | inl e ↦ inl e
      | inr named ↦ inr (inl (sym (same_heir old w first c.requires.right.sound (name_of old.caches c.args.node)) ∙ ap (heir (forest_of w.caches)) (sym (like.name c.args.node)) ∙ s.is_heir ∙ ap Some (sym named ∙ like.name m)))
    ]) c.hand_over.ensures.frames)

pub returns-in_err-frame-clause-frames : goal.returns-in_err-frame-clause-frames
returns-in_err-frame-clause-frames g c = brought g (goal.at.returns-in_err-frame-clause-frames g c).After-bring_in

pub returns-in_err-hand_over : goal.returns-in_err-hand_over
returns-in_err-hand_over g c =
    let old : World = world_at g.M.Mapper c.args.mapper.now c.args.caches.now c.args.store.now in
    let w : World = world_at g.M.Mapper c.bring_in.new.mapper c.bring_in.new.caches c.bring_in.new.self in
    let v : World = world_at g.M.Mapper c.hand_over.new.mapper c.hand_over.new.caches c.hand_over.new.store in
    let b = c.in_ok-frame.ensures in
    let e = c.in_err-hand_over.ensures.handed in
    let before = g.M.Mapper.counts c.args.mapper.now in
    let now = g.M.Mapper.counts c.hand_over.new.mapper in
    let later = later_then _ _ _ b.later e.answered.later in
    let told_on = tells_then old w b.still.stays v _ _ _ e.answered.later b.told e.answered.told in
    let cause : HasMissCause before now c.in_err-hand_over.field-0.0 = cause_then _ _ _ _ b.later e.missed.cause in
    let own : OwnState = own_of c.args.caches.now c.args.node in
    let then : OwnState = own_of c.bring_in.new.caches c.args.node in
    let first = b.still in
    let at = home w c.in_ok-frame.frame.0 c.args.node first.stays.right b.home.0 b.home.1 in
    let one = resident_copies then at.resident in
    let taken = brought_taken own c.args.store.now.frames c.bring_in.new.self.frames _ _ first.stays.frames b.held _ b.traffic b.few in
    let brought = brought_traffic own c.args.store.now.frames c.bring_in.new.self.frames _ _ first.stays.frames b.held _ b.traffic b.few in
    let may = MayCome c.args.caches.now c.args.node in
    let may' = MayCome c.bring_in.new.caches c.args.node in
    record {
      ready = miss_by old v (still_then old w v b.still e.missed.still) before now c.requires.right.sound c.requires.right.shaped (e.answered.kept.pins ∙ b.pinned) later told_on _ c.from_residual-in_err-hand_over.result c.from_residual-in_err-hand_over.ensures.1 (search rules);
      drops = (failed_leaves _ c.from_residual-in_err-hand_over.result _ _ _ _ _ _ c.from_residual-in_err-hand_over.ensures.1
          (drops_trans may may' may c.args.caches.now c.bring_in.new.caches c.hand_over.new.caches c.args.store.now c.bring_in.new.self c.hand_over.new.store (λ n e. e) (may_before old w c.bring_in.ensures.still c.args.node)
          (drops_more (λ n. n ≡ c.args.node) (MayCome c.args.caches.now c.args.node) c.args.caches.now c.bring_in.new.caches c.args.store.now c.bring_in.new.self (λ n e. inl e)
          (still_drops_but _ _ _ _ c.args.caches.now c.bring_in.new.caches c.args.store.now c.bring_in.new.self c.requires.right.store.tied c.bring_in.ensures.still.stays c.bring_in.ensures.tables c.args.node c.bring_in.ensures.others))
          c.in_err-hand_over.ensures.drops.failed));
      frames = then_handed g (goal.at.returns-in_err-hand_over g c).After-hand_over;
      copies = search rules;
      traffic = search rules;
      most = (let e = c.in_err-hand_over.ensures in
          most_then _ _ _ _ _ _ _ _ _ brought e.most e.handed.answered.later (omega (arith, one.0)) (omega (arith, one.1, bring_most own, pushes_then (frames_to_bring own) c.args.store.now.frames.held c.bring_in.new.self.frames.held first.stays.frames taken)));
      victim = search rules;
    }

pub returns : goal.returns
returns g c =
    let told = g.M.Mapper.held c.bring_in.new.mapper in
    let old : World = world_at g.M.Mapper c.args.mapper.now c.args.caches.now c.args.store.now in
    let w : World = world_at g.M.Mapper c.bring_in.new.mapper c.bring_in.new.caches c.bring_in.new.self in
    let v : World = world_at g.M.Mapper c.hand_over.new.mapper c.hand_over.new.caches c.hand_over.new.store in
    let b = c.in_ok-frame.ensures in
    let first = b.still in
    let h = c.in_ok-hand_over.ensures in
    let k = h.handed.answered.kept in
    let bound : node_of v.map c.in_ok-frame.frame.0 ≡ Some c.args.node = h.home c.in_ok-frame.frame.0 b.home.1 in
    let below = bound_below v.map c.in_ok-frame.frame.0 c.args.node bound in
    let like = still_like old.caches w.caches first.stays.caches in
    let dirty : Still v (dirtied v c.args.node) = bound_dirty old v c.in_ok-frame.frame.0 c.args.node k.right (like_then old.caches w.caches v.caches like k.nodes) c.requires.own.node c.requires.granted below bound in
    let kept : Kept old (dirtied v c.args.node) = kept_then old w (dirtied v c.args.node) (still_kept old w first c.requires.right.sound c.requires.right.shaped b.pinned)
    (kept_then w v (dirtied v c.args.node) k (still_kept v (dirtied v c.args.node) dirty k.sound k.shaped refl)) in
    let own : OwnState = own_of c.args.caches.now c.args.node in
    let then : OwnState = own_of c.bring_in.new.caches c.args.node in
    let at = home w c.in_ok-frame.frame.0 c.args.node first.stays.right b.home.0 b.home.1 in
    let over = resident_takes then c.bring_in.new.self.frames _ _ at.resident h.traffic in
    let told2 = g.M.Mapper.held c.hand_over.new.mapper in
    let size2 = g.M.Mapper.page_bytes c.hand_over.new.mapper in
    let may = MayCome c.args.caches.now c.args.node in
    let may' = MayCome c.bring_in.new.caches c.args.node in
    let left = subst (λ (a : Arena). Drops may c.args.caches.now c.args.store.now a (without_homes c.args.node c.args.node c.hand_over.new.store)) (sym c.set_state.ensures.changed)
    (drops_trans may may may c.args.caches.now c.bring_in.new.caches (dirtied v c.args.node).caches c.args.store.now c.bring_in.new.self (without_homes c.args.node c.args.node c.hand_over.new.store) (λ n e. e) (λ n e. e)
    (drops_more (λ n. n ≡ c.args.node) (MayCome c.args.caches.now c.args.node) c.args.caches.now c.bring_in.new.caches c.args.store.now c.bring_in.new.self (λ n e. inl e)
    (still_drops_but _ _ _ _ c.args.caches.now c.bring_in.new.caches c.args.store.now c.bring_in.new.self c.requires.right.store.tied c.bring_in.ensures.still.stays c.bring_in.ensures.tables c.args.node c.bring_in.ensures.others))
    (drops_trans may' may may c.bring_in.new.caches c.hand_over.new.caches (dirtied v c.args.node).caches c.bring_in.new.self (without_homes c.args.node c.args.node c.hand_over.new.store) (without_homes c.args.node c.args.node c.hand_over.new.store) (may_before old w c.bring_in.ensures.still c.args.node) (λ n e. e)
    h.drops.left
    (dirtied_drops may told2 size2 c.hand_over.new.caches c.hand_over.new.store c.args.node c.args.node c.args.node k.right dirty))) in
    record {
      ready = (record {
        answered = record {
          kept = subst (λ (a : Arena). Kept old (world_at g.M.Mapper c.hand_over.new.mapper a c.hand_over.new.store)) (sym c.set_state.ensures.changed) kept;
          later = later_then _ _ _ b.later h.handed.answered.later;
          told = tells_as _ _ _ _ _ refl (tells_then old w first.stays v _ _ _ h.handed.answered.later b.told h.handed.answered.told);
        };
        done = record {
          forest = ap (λ (a : Arena). store_forest (world_at g.M.Mapper c.hand_over.new.mapper a c.hand_over.new.store)) c.set_state.ensures.changed
              ∙ still_forest v (dirtied v c.args.node) dirty ∙ h.handed.done
              ∙ ap (λ f. heir_gets f (name_of w.caches c.args.node)) (still_forest old w first) ∙ ap (heir_gets (store_forest old)) (like.name c.args.node)
              ∙ handed_ready old c.requires.right.sound c.requires.right.shaped c.args.node c.requires.own.node c.requires.own;
          bound = (below, bound);
          resident = ap (λ (a : Arena). own_of a c.args.node) c.set_state.ensures.changed ∙ own_same c.hand_over.new.caches c.args.node (Resident _);
        };
        missed = tt;
      });
      drops = record { left = left; home = λ f at. h.drops.home f (brought_home old w c.args.node c.requires.right.store (λ here. ap (λ (s : Store). s.map) (b.idle here).1) f at); failed = tt };
      frames = (let may = IsOfWrite c.args.caches.now c.args.node c.args.node in
          subst (λ (a : Arena). OnlyCome may old (world_at g.M.Mapper c.hand_over.new.mapper a c.hand_over.new.store)) (sym c.set_state.ensures.changed)
          (come_owned may old v (with_own v.caches c.args.node (Resident true)) c.args.node (inl refl) (λ m d. own_other v.caches c.args.node m (Resident true) d) (then_handed g (goal.at.returns g c).After-hand_over)));
      copies = ap (λ (a : Arena). a.copies) c.set_state.ensures.changed ∙ copies-put c.hand_over.new.caches c.args.node _ ∙ h.copies ∙ ap (λ k. k + 1) (still_copies c.args.caches.now c.bring_in.new.caches first.stays.caches);
      traffic = brought_more own c.args.store.now.frames c.bring_in.new.self.frames _ _ first.stays.frames b.held _ b.traffic b.few _ over h.handed.answered.later;
      most = pulls_most _ _ _ _ _ _ (brought_more own c.args.store.now.frames c.bring_in.new.self.frames _ _ first.stays.frames b.held _ b.traffic b.few _ over h.handed.answered.later) (omega arith) (omega (arith, bring_most own));
      victim = search rules;
    }
