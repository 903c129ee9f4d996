use Rattle.std.proofs.Common.{◌≡◌, List, Option, inl, inr, refl, sym, ap, subst, ◌∙◌, ◌-◌, rules, ◌<◌, length, arith}
use Rattle.residency.specs.Between.{world_at}
use Rattle.residency.specs.declared.store.Store.{Store}
use Rattle.residency.specs.StoreForest.{store_forest}
use Rattle.residency.specs.World.{World}
use Rattle.residency.proofs.Forests.StillForest.{still_caches_sound}
use Rattle.fault_path.specs.Faults.{Kept}
use Rattle.fault_path.proofs.Calls.Answered.{miss_by}
use Rattle.residency.proofs.Pushes.PushedPages.{tells_as}
use Rattle.fault_path.proofs.Rules.OneFrameForest.{own_copies, own_forest, own_gives, own_kept}
use Rattle.vm_ids.specs.declared.numbers.NodeId.{NodeId}
use Rattle.vm_ids.specs.Forest.Rules as forest
use Rattle.global_map.specs.Pairs.{node_of}
use Rattle.local_cache.specs.Own.{is_absent, own_of}
use Rattle.fault_path.specs.Costs.{Pulls, TakesAtMost, frames_to_copy, free_count, pulls_to_copy}
use Rattle.fault_path.proofs.Calls.Costs.{copy_most, most_more}
use Rattle.fault_path.proofs.OnePage.FoundPage.{each_owner, owner_same}
use Rattle.residency.specs.Translating.{Drops}
use Rattle.residency.proofs.Translations.Kept.{drops_more}
use Rattle.fault_path.specs.Answers.{IsAnswered, IsFramed}
use Rattle.fault_path.specs.Translating.{MayCome, StaysOrUnseen, without_homes}
use Rattle.fault_path.proofs.Translations.Given.{failed_leaves, may_come, settled_comes, settled_stays}
use Rattle.fault_path.proofs.Translations.Whole.{own_drops}
use Rattle.fault_path.specs.Coming.{IsBroughtIn, IsOfWrite, OnlyCome}
use Rattle.fault_path.proofs.Frames.ComingFrames.{come_settled, more_come}
use Rattle.fault_path.proofs.Calls.Answered.{victim_from}
use Rattle.fault_path.specs.Faults.{is_at_hand}
use Rattle.fault_path.proofs.writing.own_framed.Goals as goal

pub returns-in_err-frame-clause-owned : goal.returns-in_err-frame-clause-owned
returns-in_err-frame-clause-owned g c =
    let old : World = world_at g.M.Mapper c.args.mapper.now c.args.caches.now c.args.store.now in
    let w : World = world_at g.M.Mapper c.copy_out.new.mapper c.copy_out.new.caches c.copy_out.new.store in
    let n = c.in_err-frame.ensures.copied.none in
    miss_by old w n.still (g.M.Mapper.counts c.args.mapper.now) _ c.requires.right.sound c.requires.right.shaped n.pinned c.in_err-frame.ensures.copied.later c.in_err-frame.ensures.copied.told _ c.from_residual.result c.from_residual.ensures.1 (search rules)

pub own_page-requires-clause-sound : goal.own_page-requires-clause-sound
own_page-requires-clause-sound g c = let k = c.in_ok-frame.ensures.copied.done.gathered in still_caches_sound _ _ k.still c.requires.right.sound

pub returns-clause-owned : goal.returns-clause-owned
returns-clause-owned g c =
    let told = g.M.Mapper.held c.copy_out.new.mapper in
    let old : World = world_at g.M.Mapper c.args.mapper.now c.args.caches.now c.args.store.now in
    let w : World = world_at g.M.Mapper c.copy_out.new.mapper c.copy_out.new.caches c.copy_out.new.store in
    let k = c.in_ok-frame.ensures.copied.done.gathered in
    let gives = own_gives old w c.in_ok-frame.frame.0 k.still k.taken c.requires.right.sound c.requires.right.shaped c.args.node c.args.owner c.requires.node c.requires.bare c.requires.owner c.in_ok-frame.ensures.copied.done.page c.own_page.new.caches c.own_page.ensures in
    record {
      answered = record {
        kept = subst (Kept old) (sym (ap (λ (s : Store). world_at g.M.Mapper c.copy_out.new.mapper c.own_page.new.caches s) c.settle_in.ensures)) (own_kept old w c.in_ok-frame.frame.0 k.still k.taken c.requires.right.sound c.requires.right.shaped c.args.node c.args.owner c.requires.node c.requires.bare c.requires.owner c.in_ok-frame.ensures.copied.done.page c.own_page.new.caches c.own_page.ensures k);
        later = c.in_ok-frame.ensures.copied.later;
        told = tells_as _ _ _ _ _ refl c.in_ok-frame.ensures.copied.told;
      };
      done = record {
        forest = ap (λ (s : Store). store_forest (world_at g.M.Mapper c.copy_out.new.mapper c.own_page.new.caches s)) c.settle_in.ensures ∙ own_forest old w c.in_ok-frame.frame.0 k.still k.taken c.requires.right.sound c.requires.right.shaped c.args.node c.args.owner c.requires.node c.requires.bare c.requires.owner c.in_ok-frame.ensures.copied.done.page c.own_page.new.caches c.own_page.ensures;
        bound = search rules;
        resident = gives.resident;
      };
      missed = tt;
    }

pub returns-clause-copies : goal.returns-clause-copies
returns-clause-copies g c =
    let old : World = world_at g.M.Mapper c.args.mapper.now c.args.caches.now c.args.store.now in
    let w : World = world_at g.M.Mapper c.copy_out.new.mapper c.copy_out.new.caches c.copy_out.new.store in
    let k = c.in_ok-frame.ensures.copied.done.gathered in
    own_copies old w c.in_ok-frame.frame.0 k.still k.taken c.requires.right.sound c.requires.right.shaped c.args.node c.args.owner c.requires.node c.requires.bare c.requires.owner c.in_ok-frame.ensures.copied.done.page c.own_page.new.caches c.own_page.ensures

pub returns-clause-traffic : goal.returns-clause-traffic
returns-clause-traffic g c = λ o is. (
    subst (λ (m : NodeId). Pulls (pulls_to_copy (own_of c.args.caches.now m)) (frames_to_copy (own_of c.args.caches.now m) - free_count c.args.store.now.frames) (g.M.Mapper.counts c.args.mapper.now) (g.M.Mapper.counts c.copy_out.new.mapper)) (sym (owner_same c.args.caches.now c.requires.right.sound c.args.node o c.args.owner is c.requires.owner)) c.in_ok-frame.ensures.copied.traffic)

pub returns-in_err-frame-clause-drops : goal.returns-in_err-frame-clause-drops
returns-in_err-frame-clause-drops g c =
    λ o is. failed_leaves _ c.from_residual.result _ _ _ _ _ _ c.from_residual.ensures.1 (drops_more (λ n. n ≡ c.args.owner) (MayCome c.args.caches.now o) c.args.caches.now c.copy_out.new.caches c.args.store.now c.copy_out.new.store (λ n e. inl (e ∙ sym (owner_same c.args.caches.now c.requires.right.sound c.args.node o c.args.owner is c.requires.owner))) c.copy_out.ensures.drops)

pub returns-clause-drops : goal.returns-clause-drops
returns-clause-drops g c =
    let old : World = world_at g.M.Mapper c.args.mapper.now c.args.caches.now c.args.store.now in
    let v : World = world_at g.M.Mapper c.copy_out.new.mapper c.own_page.new.caches c.settle_in.new.store in
    let k = c.in_ok-frame.ensures.copied.done.gathered in
    let all = returns-clause-owned g c in
    let answered : IsAnswered old v (g.M.Mapper.counts c.args.mapper.now) (g.M.Mapper.counts c.copy_out.new.mapper) = all.answered in
    let framed : IsFramed forest.own c.args.node c.in_ok-frame.frame.0 old v = all.done in
    let within : c.in_ok-frame.frame.0 < length c.copy_out.new.store.map = omega (arith, k.taken.within, k.still.stays.right.tied.fitted.map_frames) in
    let map = ap (λ (s : Store). s.map) c.settle_in.ensures in
    let whole : Drops (MayCome c.args.caches.now c.args.owner) c.args.caches.now c.args.store.now c.own_page.new.caches (without_homes c.args.owner c.args.node c.settle_in.new.store) =
    own_drops c.args.caches.now c.copy_out.new.caches c.own_page.new.caches c.args.store.now c.copy_out.new.store c.settle_in.new.store c.requires.right k.still answered.kept c.args.node c.args.owner c.requires.node c.requires.owner c.copy_out.ensures.drops
    (λ f p at. ap (λ (m : List (Option NodeId)). node_of m f) map ∙ settled_stays c.copy_out.new.store.map c.in_ok-frame.frame.0 c.args.node k.taken.unbound f p at)
    (λ f p at. may_come c.args.caches.now c.args.owner c.args.node p (ap is_absent c.requires.bare) (settled_comes c.copy_out.new.store.map c.in_ok-frame.frame.0 c.args.node within f p (ap (λ (m : List (Option NodeId)). node_of m f) (sym map) ∙ at)))
    (inr (ap is_absent c.requires.bare)) (ap (λ (s : Store). s.tables) c.settle_in.ensures) framed.forest in
    λ o is. record {
      left = each_owner (λ (m : NodeId). Drops (MayCome c.args.caches.now m) c.args.caches.now c.args.store.now c.own_page.new.caches (without_homes m c.args.node c.settle_in.new.store)) c.args.caches.now c.requires.right.sound c.args.node c.args.owner c.requires.owner whole o is;
      home = each_owner (λ (m : NodeId). StaysOrUnseen m c.args.store.now c.settle_in.new.store) c.args.caches.now c.requires.right.sound c.args.node c.args.owner c.requires.owner
          (λ f at. inl (ap (λ (m : List (Option NodeId)). node_of m f) map ∙ settled_stays c.copy_out.new.store.map c.in_ok-frame.frame.0 c.args.node k.taken.unbound f c.args.owner (c.in_ok-frame.ensures.copied.done.home f at))) o is;
      failed = tt;
    }

pub returns-clause-most : goal.returns-clause-most
returns-clause-most g c =
    each_owner (λ (m : NodeId). TakesAtMost (pulls_to_copy (own_of c.args.caches.now m)) 2 c.args.store.now.frames (g.M.Mapper.counts c.args.mapper.now) (g.M.Mapper.counts c.copy_out.new.mapper)) c.args.caches.now c.requires.right.sound c.args.node c.args.owner c.requires.owner
    (let bounds = copy_most (own_of c.args.caches.now c.args.owner) in most_more _ _ _ _ _ _ c.copy_out.ensures.copied.most (omega arith) (omega (arith, bounds.1)))

pub returns-in_err-frame-clause-most : goal.returns-in_err-frame-clause-most
returns-in_err-frame-clause-most g c =
    each_owner (λ (m : NodeId). TakesAtMost (pulls_to_copy (own_of c.args.caches.now m)) 2 c.args.store.now.frames (g.M.Mapper.counts c.args.mapper.now) (g.M.Mapper.counts c.copy_out.new.mapper)) c.args.caches.now c.requires.right.sound c.args.node c.args.owner c.requires.owner
    (let bounds = copy_most (own_of c.args.caches.now c.args.owner) in most_more _ _ _ _ _ _ c.copy_out.ensures.copied.most (omega arith) (omega (arith, bounds.1)))

pub returns-in_err-frame-clause-frames : goal.returns-in_err-frame-clause-frames
returns-in_err-frame-clause-frames g c =
    let old : World = world_at g.M.Mapper c.args.mapper.now c.args.caches.now c.args.store.now in
    let w : World = world_at g.M.Mapper c.copy_out.new.mapper c.copy_out.new.caches c.copy_out.new.store in
    each_owner (λ (m : NodeId). OnlyCome (IsOfWrite c.args.caches.now c.args.node m) old w) c.args.caches.now c.requires.right.sound c.args.node c.args.owner c.requires.owner
    (more_come (IsBroughtIn c.args.caches.now c.args.owner) (IsOfWrite c.args.caches.now c.args.node c.args.owner) old w (λ m e. inr (inr e)) c.copy_out.ensures.frames)

pub returns-clause-frames : goal.returns-clause-frames
returns-clause-frames g c =
    let old : World = world_at g.M.Mapper c.args.mapper.now c.args.caches.now c.args.store.now in
    let w : World = world_at g.M.Mapper c.copy_out.new.mapper c.copy_out.new.caches c.copy_out.new.store in
    let v : World = world_at g.M.Mapper c.copy_out.new.mapper c.own_page.new.caches c.settle_in.new.store in
    let k = c.in_ok-frame.ensures.copied.done.gathered in
    let within : c.in_ok-frame.frame.0 < length c.copy_out.new.store.map = omega (arith, k.taken.within, k.still.stays.right.tied.fitted.map_frames) in
    let may = IsOfWrite c.args.caches.now c.args.node c.args.owner in
    let gives = own_gives old w c.in_ok-frame.frame.0 k.still k.taken c.requires.right.sound c.requires.right.shaped c.args.node c.args.owner c.requires.node c.requires.bare c.requires.owner c.in_ok-frame.ensures.copied.done.page c.own_page.new.caches c.own_page.ensures in
    each_owner (λ (m : NodeId). OnlyCome (IsOfWrite c.args.caches.now c.args.node m) old v) c.args.caches.now c.requires.right.sound c.args.node c.args.owner c.requires.owner
    (come_settled may old w v c.in_ok-frame.frame.0 c.args.node within (inl refl) (ap (λ (s : Store). s.map) c.settle_in.ensures) (ap (λ (s : Store). s.frames.bytes) c.settle_in.ensures) gives.others
    (more_come (IsBroughtIn c.args.caches.now c.args.owner) may old w (λ m e. inr (inr e)) c.copy_out.ensures.frames))

pub returns-in_err-frame-clause-victim : goal.returns-in_err-frame-clause-victim
returns-in_err-frame-clause-victim g c = λ o is hand.
    let same : o ≡ c.args.owner = owner_same c.args.caches.now c.requires.right.sound c.args.node o c.args.owner is c.requires.owner in
    victim_from c.from_residual.result c.in_err-frame.field-0.0 c.from_residual.ensures.1 (c.in_err-frame.ensures.victim (ap (λ (m : NodeId). is_at_hand (own_of c.args.caches.now m)) (sym same) ∙ hand))
