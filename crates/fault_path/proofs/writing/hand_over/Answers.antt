use Rattle.std.proofs.Common.{◌≡◌, List, Option, inl, inr, refl, sym, ap, subst, ◌∙◌, rules, ◌<◌, length, arith}
use Rattle.residency.specs.Between.{world_at}
use Rattle.residency.specs.declared.store.Store.{Store}
use Rattle.residency.specs.StoreForest.{store_forest}
use Rattle.residency.specs.World.{World}
use Rattle.residency.proofs.Forests.StillForest.{still_caches_sound}
use Rattle.fault_path.specs.Faults.{Kept}
use Rattle.fault_path.proofs.Calls.Kept.{still_absent}
use Rattle.fault_path.proofs.Rules.Heirs.{has_own, heir_absent, still_heir, unbound}
use Rattle.fault_path.proofs.Rules.OneFrameForest.{hand_forest, hand_kept}
use Rattle.fault_path.proofs.Rules.OneFrameForest.{hand_copies, hand_gives}
use Rattle.fault_path.proofs.Calls.Answered.{miss_by}
use Rattle.residency.proofs.Pushes.PushedPages.{tells_as}
use Rattle.global_map.specs.Pairs.{node_of}
use Rattle.local_cache.specs.Own.{is_absent}
use Rattle.vm_ids.specs.declared.numbers.NodeId.{NodeId}
use Rattle.residency.proofs.Translations.Kept.{drops_more}
use Rattle.fault_path.specs.Answers.{IsAnswered}
use Rattle.fault_path.specs.Translating.{MayCome}
use Rattle.fault_path.proofs.OnePage.FoundPage.{itself_owner}
use Rattle.fault_path.proofs.Translations.Given.{failed_leaves, may_come, settled_comes, settled_stays}
use Rattle.fault_path.proofs.Translations.Whole.{heir_drops}
use Rattle.local_cache.specs.Reading.{name_of}
use Rattle.fault_path.specs.Coming.{IsBroughtIn, IsOfSave}
use Rattle.fault_path.proofs.Frames.ComingFrames.{come_settled, more_come}
use Rattle.fault_path.proofs.writing.hand_over.Goals as goal

pub returns-in_err-frame-clause-handed : goal.returns-in_err-frame-clause-handed
returns-in_err-frame-clause-handed g c =
    let old : World = world_at g.M.Mapper c.args.mapper.now c.args.caches.now c.args.store.now in
    let w : World = world_at g.M.Mapper c.copy_out.new.mapper c.copy_out.new.caches c.copy_out.new.store in
    let n = c.in_err-frame.ensures.copied.none in
    miss_by old w n.still (g.M.Mapper.counts c.args.mapper.now) _ c.requires.right.sound c.requires.right.shaped n.pinned c.in_err-frame.ensures.copied.later c.in_err-frame.ensures.copied.told _ c.from_residual.result c.from_residual.ensures.1 (search rules)

pub hand_page-requires-clause-sound : goal.hand_page-requires-clause-sound
hand_page-requires-clause-sound g c = let k = c.in_ok-frame.ensures.copied.done.gathered in still_caches_sound _ _ k.still c.requires.right.sound

pub hand_page-requires-clause-heir : goal.hand_page-requires-clause-heir
hand_page-requires-clause-heir g c =
    let k = c.in_ok-frame.ensures.copied.done.gathered in
    still_heir _ _ k.still c.requires.right.sound c.args.node c.args.next c.requires.next

pub settle_in-requires-clause-away : goal.settle_in-requires-clause-away
settle_in-requires-clause-away g c =
    let old : World = world_at g.M.Mapper c.args.mapper.now c.args.caches.now c.args.store.now in
    let w : World = world_at g.M.Mapper c.copy_out.new.mapper c.copy_out.new.caches c.copy_out.new.store in
    let k = c.in_ok-frame.ensures.copied.done.gathered in
    unbound w k.still.stays.right c.args.next (still_absent old w k.still c.requires.right.sound c.args.next (heir_absent c.args.caches.now c.requires.right.sound _ c.args.next c.requires.next.held c.requires.next.name))

pub returns-clause-handed : goal.returns-clause-handed
returns-clause-handed g c =
    let told = g.M.Mapper.held c.copy_out.new.mapper in
    let old : World = world_at g.M.Mapper c.args.mapper.now c.args.caches.now c.args.store.now in
    let w : World = world_at g.M.Mapper c.copy_out.new.mapper c.copy_out.new.caches c.copy_out.new.store in
    let k = c.in_ok-frame.ensures.copied.done.gathered in
    record {
      answered = record {
        kept = subst (Kept old) (sym (ap (λ (s : Store). world_at g.M.Mapper c.copy_out.new.mapper c.hand_page.new.caches s) c.settle_in.ensures)) (hand_kept old w c.in_ok-frame.frame.0 k.still k.taken c.requires.right.sound c.requires.right.shaped c.args.node c.args.next c.requires.own.node (has_own old c.args.node c.requires.own.own_page) c.requires.next.held c.requires.next.name
            (heir_absent c.args.caches.now c.requires.right.sound _ c.args.next c.requires.next.held c.requires.next.name) c.in_ok-frame.ensures.copied.done.page c.hand_page.new.caches c.hand_page.ensures k);
        later = c.in_ok-frame.ensures.copied.later;
        told = tells_as _ _ _ _ _ refl c.in_ok-frame.ensures.copied.told;
      };
      done = ap (λ (s : Store). store_forest (world_at g.M.Mapper c.copy_out.new.mapper c.hand_page.new.caches s)) c.settle_in.ensures ∙ (hand_forest old w c.in_ok-frame.frame.0 k.still k.taken c.requires.right.sound c.requires.right.shaped c.args.node c.args.next c.requires.own.node (has_own old c.args.node c.requires.own.own_page) c.requires.next.held c.requires.next.name
          (heir_absent c.args.caches.now c.requires.right.sound _ c.args.next c.requires.next.held c.requires.next.name) c.in_ok-frame.ensures.copied.done.page c.hand_page.new.caches c.hand_page.ensures);
      missed = tt;
    }

pub returns-clause-copies : goal.returns-clause-copies
returns-clause-copies g c =
    let old : World = world_at g.M.Mapper c.args.mapper.now c.args.caches.now c.args.store.now in
    let w : World = world_at g.M.Mapper c.copy_out.new.mapper c.copy_out.new.caches c.copy_out.new.store in
    let k = c.in_ok-frame.ensures.copied.done.gathered in
    hand_copies old w c.in_ok-frame.frame.0 k.still k.taken c.requires.right.sound c.requires.right.shaped c.args.node c.args.next c.requires.own.node (has_own old c.args.node c.requires.own.own_page) c.requires.next.held c.requires.next.name
    (heir_absent c.args.caches.now c.requires.right.sound _ c.args.next c.requires.next.held c.requires.next.name) c.in_ok-frame.ensures.copied.done.page c.hand_page.new.caches c.hand_page.ensures

pub returns-in_err-frame-clause-drops : goal.returns-in_err-frame-clause-drops
returns-in_err-frame-clause-drops g c =
    failed_leaves _ c.from_residual.result _ _ _ _ _ _ c.from_residual.ensures.1
    (drops_more (λ n. n ≡ c.args.node) (MayCome c.args.caches.now c.args.node) c.args.caches.now c.copy_out.new.caches c.args.store.now c.copy_out.new.store (λ n e. inl e) c.copy_out.ensures.drops)

pub returns-clause-drops : goal.returns-clause-drops
returns-clause-drops g c =
    let old : World = world_at g.M.Mapper c.args.mapper.now c.args.caches.now c.args.store.now in
    let v : World = world_at g.M.Mapper c.copy_out.new.mapper c.hand_page.new.caches c.settle_in.new.store in
    let k = c.in_ok-frame.ensures.copied.done.gathered in
    let all = returns-clause-handed g c in
    let answered : IsAnswered old v (g.M.Mapper.counts c.args.mapper.now) (g.M.Mapper.counts c.copy_out.new.mapper) = all.answered in
    let within : c.in_ok-frame.frame.0 < length c.copy_out.new.store.map = omega (arith, k.taken.within, k.still.stays.right.tied.fitted.map_frames) in
    let map = ap (λ (s : Store). s.map) c.settle_in.ensures in
    let absent = ap is_absent (heir_absent c.args.caches.now c.requires.right.sound _ c.args.next c.requires.next.held c.requires.next.name) in
    let whole = heir_drops c.args.caches.now c.copy_out.new.caches c.hand_page.new.caches c.args.store.now c.copy_out.new.store c.settle_in.new.store c.requires.right k.still answered.kept c.args.node c.args.node c.requires.own.node
    (itself_owner c.args.caches.now c.requires.right.sound c.requires.right.shaped c.args.node c.requires.own) c.copy_out.ensures.drops
    (λ f p at. ap (λ (m : List (Option NodeId)). node_of m f) map ∙ settled_stays c.copy_out.new.store.map c.in_ok-frame.frame.0 c.args.next k.taken.unbound f p at)
    (λ f p at. may_come c.args.caches.now c.args.node c.args.next p absent (settled_comes c.copy_out.new.store.map c.in_ok-frame.frame.0 c.args.next within f p (ap (λ (m : List (Option NodeId)). node_of m f) (sym map) ∙ at)))
    (inl refl) (ap (λ (s : Store). s.tables) c.settle_in.ensures) c.requires.own.own_page refl all.done in
    record {
      left = whole;
      home = λ f at. inl (ap (λ (m : List (Option NodeId)). node_of m f) map ∙ settled_stays c.copy_out.new.store.map c.in_ok-frame.frame.0 c.args.next k.taken.unbound f c.args.node (c.in_ok-frame.ensures.copied.done.home f at));
      failed = tt;
    }

pub returns-in_err-frame-clause-frames : goal.returns-in_err-frame-clause-frames
returns-in_err-frame-clause-frames g c =
    more_come (IsBroughtIn c.args.caches.now c.args.node) (IsOfSave c.args.caches.now c.args.node) _ _ (λ m e. record { heir_name = name_of c.args.caches.now c.args.next; is_heir = c.requires.next.name; one = inl e.0 }) c.copy_out.ensures.frames

pub returns-clause-frames : goal.returns-clause-frames
returns-clause-frames g c =
    let old : World = world_at g.M.Mapper c.args.mapper.now c.args.caches.now c.args.store.now in
    let w : World = world_at g.M.Mapper c.copy_out.new.mapper c.copy_out.new.caches c.copy_out.new.store in
    let v : World = world_at g.M.Mapper c.copy_out.new.mapper c.hand_page.new.caches c.settle_in.new.store in
    let may = IsOfSave c.args.caches.now c.args.node in
    let k = c.in_ok-frame.ensures.copied.done.gathered in
    let within : c.in_ok-frame.frame.0 < length c.copy_out.new.store.map = omega (arith, k.taken.within, k.still.stays.right.tied.fitted.map_frames) in
    let heir = name_of c.args.caches.now c.args.next in
    let gives = hand_gives old w c.in_ok-frame.frame.0 k.still k.taken c.requires.right.sound c.requires.right.shaped c.args.node c.args.next c.requires.own.node (has_own old c.args.node c.requires.own.own_page) c.requires.next.held c.requires.next.name
    (heir_absent c.args.caches.now c.requires.right.sound _ c.args.next c.requires.next.held c.requires.next.name) c.in_ok-frame.ensures.copied.done.page c.hand_page.new.caches c.hand_page.ensures in
    come_settled may old w v c.in_ok-frame.frame.0 c.args.next within (record { heir_name = heir; is_heir = c.requires.next.name; one = inr refl }) (ap (λ (s : Store). s.map) c.settle_in.ensures) (ap (λ (s : Store). s.frames.bytes) c.settle_in.ensures) gives.others
    (more_come (IsBroughtIn c.args.caches.now c.args.node) may old w (λ m e. record { heir_name = heir; is_heir = c.requires.next.name; one = inl e.0 }) c.copy_out.ensures.frames)
