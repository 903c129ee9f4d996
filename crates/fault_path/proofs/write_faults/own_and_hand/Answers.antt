use Rattle.vm_ids.specs.declared.numbers.FrameId.{FrameId}
use Rattle.std.proofs.Common.{Err, refl, sym, ap, subst, ◌∙◌, ◌≡◌, arith, Some, set, false, ◌+◌, ◌-◌, rules, ℕ, ◌<◌, List, inl, inr, length, length-set, None, Option}
use Rattle.vm_ids.proofs.Forest.Owning.{apart_of_heir}
use Rattle.global_map.specs.Pairs.{bound_times, node_of}
use Rattle.local_cache.specs.Reading.{forest_of, name_of}
use Rattle.residency.specs.Between.{world_at}
use Rattle.residency.specs.declared.store.Store.{Store}
use Rattle.residency.specs.StoreForest.{store_forest}
use Rattle.residency.specs.World.{Still, World}
use Rattle.residency.proofs.Worlds.Composed.{still_then}
use Rattle.residency.proofs.Forests.StillForest.{still_caches_sound, still_like}
use Rattle.fault_path.specs.Faults.{Kept}
use Rattle.fault_path.proofs.Rules.Heirs.{heir_absent, unbound}
use Rattle.fault_path.proofs.Frames.TwoFrames.{hands, released_pins, released_still, step_copies, step_gives, step_heir, step_there, two_bound, two_copies, two_forest, two_kept, two_resident}
use Rattle.fault_path.specs.Answers.{IsAnswered, IsDoneOrMissed}
use Rattle.residency.specs.declared.miss.Miss.TheVariants.{Victim}
use Rattle.fault_path.proofs.Calls.Answered.{cause_then, later_then, miss_by, miss_with}
use Rattle.residency.proofs.Pushes.PushedPages.{tells_as}
use Rattle.residency.proofs.Pushes.Told.{tells_then}
use Rattle.vm_ids.specs.declared.numbers.NodeId.{NodeId}
use Rattle.local_cache.specs.Own.{own_of}
use Rattle.fault_path.specs.Costs.{Pulls, TakesAtMost, frames_to_copy, free_count, pulls_to_copy}
use Rattle.fault_path.proofs.OnePage.FoundPage.{each_owner, owner_same}
use Rattle.local_cache.specs.declared.own_state.OwnState.{OwnState}
use Rattle.fault_path.proofs.Calls.Costs.{copy_most, most_more, most_then, pulls_more, pulls_most, pushes_then}
use Rattle.std.proofs.lemmas.List.{get_or-set_other}
use Rattle.local_cache.specs.Own.{is_absent}
use Rattle.residency.specs.Translating.{Drops}
use Rattle.residency.proofs.Translations.Kept.{drops_by, drops_more, drops_trans}
use Rattle.fault_path.specs.Answers.{IsFramed}
use Rattle.fault_path.specs.Faults.{readied}
use Rattle.fault_path.specs.Translating.{MayCome, Nobody, NoneLeadTo, StaysOrUnseen, without_homes}
use Rattle.fault_path.proofs.Calls.Kept.{store_page}
use Rattle.fault_path.proofs.Frames.TwoFrames.{absent_none, readied_bare}
use Rattle.fault_path.proofs.Translations.Given.{failed_leaves, may_come, settled_comes, settled_stays}
use Rattle.fault_path.proofs.Translations.Homes.{stays_or_unseen}
use Rattle.fault_path.proofs.Translations.Whole.{both_drops}
use Rattle.fault_path.specs.Coming.{IsBroughtIn, IsOfWrite, OnlyCome}
use Rattle.fault_path.proofs.Frames.ComingFrames.{come_by, come_settled, come_then, more_come}
use Rattle.fault_path.proofs.write_faults.own_and_hand.Given.{Over}
use Rattle.fault_path.proofs.write_faults.own_and_hand.Goals.{After-double}
use Rattle.fault_path.proofs.Calls.Answered.{victim_from}
use Rattle.fault_path.specs.Faults.{is_at_hand}
use Rattle.fault_path.proofs.write_faults.own_and_hand.Goals as goal

pub returns-in_err-frame-clause-ready : goal.returns-in_err-frame-clause-ready
returns-in_err-frame-clause-ready g c =
    let old : World = world_at g.M.Mapper c.args.mapper.now c.args.caches.now c.args.store.now in
    let w : World = world_at g.M.Mapper c.copy_out.new.mapper c.copy_out.new.caches c.copy_out.new.store in
    let n = c.in_err-frame.ensures.copied.none in
    miss_by old w n.still (g.M.Mapper.counts c.args.mapper.now) _ c.requires.right.sound c.requires.right.shaped n.pinned c.in_err-frame.ensures.copied.later c.in_err-frame.ensures.copied.told _ c.from_residual.result c.from_residual.ensures.1 (search rules)

pub own_page-requires-clause-sound : goal.own_page-requires-clause-sound
own_page-requires-clause-sound g c =
    let one = c.in_ok-frame.ensures.copied.done in
    let two = c.in-Ok.ensures.doubled.done in
    still_caches_sound _ _ (still_then _ _ _ one.gathered.still two.gathered.still) c.requires.right.sound

pub hand_page-requires-clause-node : goal.hand_page-requires-clause-node
hand_page-requires-clause-node g c =
    step_there c.requires.right c.in_ok-frame.ensures.copied.done c.in-Ok.ensures.doubled.done c.requires.node c.requires.bare c.requires.owner c.own_page.ensures c.args.node c.requires.node

pub hand_page-requires-clause-heir : goal.hand_page-requires-clause-heir
hand_page-requires-clause-heir g c =
    record {
      held = step_there c.requires.right c.in_ok-frame.ensures.copied.done c.in-Ok.ensures.doubled.done c.requires.node c.requires.bare c.requires.owner c.own_page.ensures c.args.next c.requires.next.held;
      name = step_heir c.requires.right c.in_ok-frame.ensures.copied.done c.in-Ok.ensures.doubled.done c.requires.node c.requires.bare c.requires.owner c.own_page.ensures c.args.next c.requires.next.name;
    }

pub hand_page-requires-clause-copies : goal.hand_page-requires-clause-copies
hand_page-requires-clause-copies g c =
    let more = step_copies c.requires.right c.in_ok-frame.ensures.copied.done c.in-Ok.ensures.doubled.done c.requires.node c.requires.bare c.requires.owner c.own_page.ensures in
    omega (arith, more, c.requires.copies)

pub settle_in-requires-2-clause-away : goal.settle_in-requires-2-clause-away
settle_in-requires-2-clause-away g c =
    let step = step_gives c.requires.right c.in_ok-frame.ensures.copied.done c.in-Ok.ensures.doubled.done c.requires.node c.requires.bare c.requires.owner c.own_page.ensures in
    let next_there = step_there c.requires.right c.in_ok-frame.ensures.copied.done c.in-Ok.ensures.doubled.done c.requires.node c.requires.bare c.requires.owner c.own_page.ensures c.args.next c.requires.next.held in
    let next_is = step_heir c.requires.right c.in_ok-frame.ensures.copied.done c.in-Ok.ensures.doubled.done c.requires.node c.requires.bare c.requires.owner c.own_page.ensures c.args.next c.requires.next.name in
    ap (λ (s : Store). bound_times s.map c.args.next.0) c.settle_in.ensures ∙ unbound _ step.right c.args.next (heir_absent c.own_page.new.caches step.sound _ c.args.next next_there next_is)

pub returns-clause-ready : goal.returns-clause-ready
returns-clause-ready g c =
    let told = g.M.Mapper.held c.double.new.mapper in
    let old : World = world_at g.M.Mapper c.args.mapper.now c.args.caches.now c.args.store.now in
    record {
      answered = let store : c.settle_in-2.new.store ≡ record c.double.new.store { frames = record c.double.new.store.frames { pinned = set (set c.double.new.store.frames.pinned c.in_ok-frame.frame.0 false) c.in-Ok.second.0 false }; map = set (set c.double.new.store.map c.in_ok-frame.frame.0 (Some c.args.node)) c.in-Ok.second.0 (Some c.args.next) }
          = c.settle_in-2.ensures ∙ ap (λ (s : Store). record s { frames = record s.frames { pinned = set s.frames.pinned c.in-Ok.second.0 false }; map = set s.map c.in-Ok.second.0 (Some c.args.next) }) c.settle_in.ensures in
          let kept = two_kept c.requires.right c.in_ok-frame.ensures.copied.done c.in-Ok.ensures.doubled.done c.requires.node c.requires.bare c.requires.owner c.own_page.ensures c.requires.next.held c.requires.next.name c.hand_page.ensures in
          record {
            kept = subst (λ (s : Store). Kept old (world_at g.M.Mapper c.double.new.mapper c.hand_page.new.caches s)) (sym store) kept;
            later = later_then _ _ _ c.in_ok-frame.ensures.copied.later c.in-Ok.ensures.doubled.later;
            told = tells_as _ _ _ _ _ refl (tells_then _ _ (c.in_ok-frame.ensures.copied.done.gathered).still.stays _ _ _ _ c.in-Ok.ensures.doubled.later c.in_ok-frame.ensures.copied.told c.in-Ok.ensures.doubled.told);
          };
      done = let store : c.settle_in-2.new.store ≡ record c.double.new.store { frames = record c.double.new.store.frames { pinned = set (set c.double.new.store.frames.pinned c.in_ok-frame.frame.0 false) c.in-Ok.second.0 false }; map = set (set c.double.new.store.map c.in_ok-frame.frame.0 (Some c.args.node)) c.in-Ok.second.0 (Some c.args.next) }
          = c.settle_in-2.ensures ∙ ap (λ (s : Store). record s { frames = record s.frames { pinned = set s.frames.pinned c.in-Ok.second.0 false }; map = set s.map c.in-Ok.second.0 (Some c.args.next) }) c.settle_in.ensures in
          let bound = two_bound c.requires.right c.in_ok-frame.ensures.copied.done c.in-Ok.ensures.doubled.done c.requires.node c.requires.bare c.requires.owner c.own_page.ensures c.requires.next.held c.requires.next.name c.hand_page.ensures in
          record {
            forest = ap (λ (s : Store). store_forest (world_at g.M.Mapper c.double.new.mapper c.hand_page.new.caches s)) store ∙ two_forest c.requires.right c.in_ok-frame.ensures.copied.done c.in-Ok.ensures.doubled.done c.requires.node c.requires.bare c.requires.owner c.own_page.ensures c.requires.next.held c.requires.next.name c.hand_page.ensures;
            bound = search rules;
            resident = two_resident c.requires.right c.in_ok-frame.ensures.copied.done c.in-Ok.ensures.doubled.done c.requires.node c.requires.bare c.requires.owner c.own_page.ensures c.requires.next.held c.requires.next.name c.hand_page.ensures (λ e. apart_of_heir (forest_of c.args.caches.now) c.requires.right.sound.linked (name_of c.args.caches.now c.args.node) (name_of c.args.caches.now c.args.next) c.requires.next.name (ap (name_of c.args.caches.now) (sym e)));
          };
      missed = tt;
    }

pub returns-clause-copies : goal.returns-clause-copies
returns-clause-copies g c =
    two_copies c.requires.right c.in_ok-frame.ensures.copied.done c.in-Ok.ensures.doubled.done c.requires.node c.requires.bare c.requires.owner c.own_page.ensures c.requires.next.held c.requires.next.name c.hand_page.ensures

pub returns-clause-traffic : goal.returns-clause-traffic
returns-clause-traffic g c = λ o is. (
    let own : OwnState = own_of c.args.caches.now c.args.owner in
    let first = c.in_ok-frame.ensures in
    let gathered = first.copied.done.gathered in
    let whole = gathered.still in
    let sum : Pulls (pulls_to_copy own) (frames_to_copy own + 1 - free_count c.args.store.now.frames) (g.M.Mapper.counts c.args.mapper.now) (g.M.Mapper.counts c.double.new.mapper) = pulls_more (frames_to_copy own) (pulls_to_copy own) c.args.store.now.frames.held c.copy_out.new.store.frames.held _ _ _ whole.stays.frames first.copied.held first.copied.traffic c.in-Ok.ensures.doubled.traffic c.double.ensures.doubled.later in
    subst (λ (m : NodeId). Pulls (pulls_to_copy (own_of c.args.caches.now m)) (frames_to_copy (own_of c.args.caches.now m) + 1 - free_count c.args.store.now.frames) (g.M.Mapper.counts c.args.mapper.now) (g.M.Mapper.counts c.double.new.mapper)) (sym (owner_same c.args.caches.now c.requires.right.sound c.args.node o c.args.owner is c.requires.owner)) sum)

pub returns-clause-most : goal.returns-clause-most
returns-clause-most g c =
    let own : OwnState = own_of c.args.caches.now c.args.owner in
    let first = c.in_ok-frame.ensures in
    let gathered = first.copied.done.gathered in
    let whole = gathered.still in
    let sum : Pulls (pulls_to_copy own) (frames_to_copy own + 1 - free_count c.args.store.now.frames) (g.M.Mapper.counts c.args.mapper.now) (g.M.Mapper.counts c.double.new.mapper) = pulls_more (frames_to_copy own) (pulls_to_copy own) c.args.store.now.frames.held c.copy_out.new.store.frames.held _ _ _ whole.stays.frames first.copied.held first.copied.traffic c.in-Ok.ensures.doubled.traffic c.double.ensures.doubled.later in
    let bounds = copy_most own in
    each_owner (λ (m : NodeId). TakesAtMost (pulls_to_copy (own_of c.args.caches.now m)) 3 c.args.store.now.frames (g.M.Mapper.counts c.args.mapper.now) (g.M.Mapper.counts c.double.new.mapper)) c.args.caches.now c.requires.right.sound c.args.node c.args.owner c.requires.owner
    (pulls_most _ _ _ _ _ _ sum (omega arith) (omega (arith, bounds.1)))

pub returns-in_err-frame-clause-most : goal.returns-in_err-frame-clause-most
returns-in_err-frame-clause-most g c =
    each_owner (λ (m : NodeId). TakesAtMost (pulls_to_copy (own_of c.args.caches.now m)) 3 c.args.store.now.frames (g.M.Mapper.counts c.args.mapper.now) (g.M.Mapper.counts c.copy_out.new.mapper)) c.args.caches.now c.requires.right.sound c.args.node c.args.owner c.requires.owner
    (let bounds = copy_most (own_of c.args.caches.now c.args.owner) in most_more _ _ _ _ _ _ c.copy_out.ensures.copied.most (omega arith) (omega (arith, bounds.1)))

pub returns-in_err-frame-clause-drops : goal.returns-in_err-frame-clause-drops
returns-in_err-frame-clause-drops g c =
    λ o is. failed_leaves _ c.from_residual.result _ _ _ _ _ _ c.from_residual.ensures.1 (drops_more (λ n. n ≡ c.args.owner) (MayCome c.args.caches.now o) c.args.caches.now c.copy_out.new.caches c.args.store.now c.copy_out.new.store (λ n e. inl (e ∙ sym (owner_same c.args.caches.now c.requires.right.sound c.args.node o c.args.owner is c.requires.owner))) c.copy_out.ensures.drops)

pub returns-clause-drops : goal.returns-clause-drops
returns-clause-drops g c =
    let old : World = world_at g.M.Mapper c.args.mapper.now c.args.caches.now c.args.store.now in
    let v : World = world_at g.M.Mapper c.double.new.mapper c.hand_page.new.caches c.settle_in-2.new.store in
    let one = c.in_ok-frame.ensures.copied.done.gathered in
    let two = c.in-Ok.ensures.doubled.done in
    let gathered = two.gathered in
    let whole = still_then _ _ _ one.still gathered.still in
    let f1 : ℕ = c.in_ok-frame.frame.0 in
    let f2 : ℕ = c.in-Ok.second.0 in
    let free1 : node_of c.double.new.store.map f1 ≡ None = two.stays.node ∙ one.taken.unbound in
    let within1 : f1 < length c.double.new.store.map = omega (arith, one.taken.within, gathered.still.stays.frames, gathered.still.stays.right.tied.fitted.map_frames) in
    let map1 : c.settle_in.new.store.map ≡ set c.double.new.store.map f1 (Some c.args.node) = ap (λ (s : Store). s.map) c.settle_in.ensures in
    let free2 : node_of c.settle_in.new.store.map f2 ≡ None = ap (λ (m : List (Option NodeId)). node_of m f2) map1 ∙ get_or-set_other c.double.new.store.map f1 f2 (Some c.args.node) None two.apart ∙ gathered.taken.unbound in
    let within2 : f2 < length c.settle_in.new.store.map = omega (arith, gathered.taken.within, gathered.still.stays.right.tied.fitted.map_frames, ap (λ (m : List (Option NodeId)). length m) map1, length-set c.double.new.store.map f1 (Some c.args.node)) in
    let map2 : c.settle_in-2.new.store.map ≡ set c.settle_in.new.store.map f2 (Some c.args.next) = ap (λ (s : Store). s.map) c.settle_in-2.ensures in
    let absent = ap is_absent (heir_absent c.args.caches.now c.requires.right.sound _ c.args.next c.requires.next.held c.requires.next.name) in
    let stays : (f : ℕ) (p : NodeId) → node_of c.double.new.store.map f ≡ Some p → node_of c.settle_in-2.new.store.map f ≡ Some p = λ f p at. ap (λ (m : List (Option NodeId)). node_of m f) map2 ∙ settled_stays c.settle_in.new.store.map f2 c.args.next free2 f p
    (ap (λ (m : List (Option NodeId)). node_of m f) map1 ∙ settled_stays c.double.new.store.map f1 c.args.node free1 f p at) in
    let tables : c.settle_in-2.new.store.tables ≡ c.double.new.store.tables = ap (λ (s : Store). s.tables) c.settle_in-2.ensures ∙ ap (λ (s : Store). s.tables) c.settle_in.ensures in
    let both = returns-clause-ready g c in
    let answered : IsAnswered old v (g.M.Mapper.counts c.args.mapper.now) (g.M.Mapper.counts c.double.new.mapper) = both.answered in
    let framed : IsFramed readied c.args.node f1 old v = both.done in
    let all : Drops (MayCome c.args.caches.now c.args.owner) c.args.caches.now c.args.store.now c.hand_page.new.caches (without_homes c.args.owner c.args.node c.settle_in-2.new.store) =
    both_drops c.args.caches.now c.double.new.caches c.hand_page.new.caches c.args.store.now c.double.new.store c.settle_in-2.new.store c.requires.right whole answered.kept c.args.node c.args.owner c.requires.node c.requires.owner
    (drops_trans (λ n. n ≡ c.args.owner) Nobody (λ n. n ≡ c.args.owner) c.args.caches.now c.copy_out.new.caches c.double.new.caches c.args.store.now c.copy_out.new.store c.double.new.store (λ n e. e) (λ n e. absurd e) c.copy_out.ensures.drops c.double.ensures.drops)
    stays
    (λ f p at. elim (settled_comes c.settle_in.new.store.map f2 c.args.next within2 f p (ap (λ (m : List (Option NodeId)). node_of m f) (sym map2) ∙ at)) [
      | inl there ↦ may_come c.args.caches.now c.args.owner c.args.node p (ap is_absent c.requires.bare) (settled_comes c.double.new.store.map f1 c.args.node within1 f p (ap (λ (m : List (Option NodeId)). node_of m f) (sym map1) ∙ there))
      | inr e ↦ may_come c.args.caches.now c.args.owner c.args.next p absent (inr e)
    ])
    (inr (ap is_absent c.requires.bare)) tables
    (framed.forest ∙ sym (readied_bare (store_forest old) (name_of c.args.caches.now c.args.node) (store_page old c.requires.right.sound c.args.node c.requires.node ∙ absent_none old c.args.node c.requires.bare))) in
    λ o is. record {
      left = each_owner (λ (m : NodeId). Drops (MayCome c.args.caches.now m) c.args.caches.now c.args.store.now c.hand_page.new.caches (without_homes m c.args.node c.settle_in-2.new.store)) c.args.caches.now c.requires.right.sound c.args.node c.args.owner c.requires.owner all o is;
      home = each_owner (λ (m : NodeId). StaysOrUnseen m c.args.store.now c.settle_in-2.new.store) c.args.caches.now c.requires.right.sound c.args.node c.args.owner c.requires.owner
          (λ f at. elim (stays_or_unseen c.args.owner c.copy_out.new.store c.double.new.store c.double.ensures.tables f (c.in_ok-frame.ensures.copied.done.home f at)) [
            | inl there ↦ inl (stays f c.args.owner there)
            | inr none ↦ inr (subst (NoneLeadTo f) (sym tables) none)
          ]) o is;
      failed = tt;
    }

-- the page of the owner was copied out, and doubled or not
both_come : (g : Over) (c : After-double g) (still : Still (world_at g.M.Mapper c.args.mapper.now c.args.caches.now c.args.store.now) (world_at g.M.Mapper c.copy_out.new.mapper c.copy_out.new.caches c.copy_out.new.store))
    → OnlyCome (IsOfWrite c.args.caches.now c.args.node c.args.owner) (world_at g.M.Mapper c.args.mapper.now c.args.caches.now c.args.store.now) (world_at g.M.Mapper c.double.new.mapper c.double.new.caches c.double.new.store)
both_come g c still =
    let may = IsOfWrite c.args.caches.now c.args.node c.args.owner in
    come_then may _ _ _ (still_like c.args.caches.now c.copy_out.new.caches still.stays.caches) (more_come (IsBroughtIn c.args.caches.now c.args.owner) may _ _ (λ m e. inr (inr e)) c.copy_out.ensures.frames)
    (more_come Nobody may _ _ (λ m e. absurd e) c.double.ensures.frames)

pub returns-in_err-frame-clause-frames : goal.returns-in_err-frame-clause-frames
returns-in_err-frame-clause-frames g c =
    let old : World = world_at g.M.Mapper c.args.mapper.now c.args.caches.now c.args.store.now in
    let w : World = world_at g.M.Mapper c.copy_out.new.mapper c.copy_out.new.caches c.copy_out.new.store in
    each_owner (λ (m : NodeId). OnlyCome (IsOfWrite c.args.caches.now c.args.node m) old w) c.args.caches.now c.requires.right.sound c.args.node c.args.owner c.requires.owner
    (more_come (IsBroughtIn c.args.caches.now c.args.owner) (IsOfWrite c.args.caches.now c.args.node c.args.owner) old w (λ m e. inr (inr e)) c.copy_out.ensures.frames)

pub returns-in_default : goal.returns-in_default
returns-in_default g c =
    let before = g.M.Mapper.counts c.args.mapper.now in
    let now = g.M.Mapper.counts c.double.new.mapper in
    let old : World = world_at g.M.Mapper c.args.mapper.now c.args.caches.now c.args.store.now in
    let w : World = world_at g.M.Mapper c.copy_out.new.mapper c.copy_out.new.caches c.copy_out.new.store in
    let v : World = world_at g.M.Mapper c.double.new.mapper c.double.new.caches c.double.new.store in
    let one = c.in_ok-frame.ensures.copied.done.gathered in
    let first = c.in_ok-frame.ensures.copied in
    let then = c.in_default.ensures.doubled in
    let own : OwnState = own_of c.args.caches.now c.args.owner in
    let bounds = copy_most own in
    let gathered : Drops (λ n. n ≡ c.args.owner) c.args.caches.now c.args.store.now c.double.new.caches c.double.new.store = drops_trans (λ n. n ≡ c.args.owner) Nobody (λ n. n ≡ c.args.owner) c.args.caches.now c.copy_out.new.caches c.double.new.caches c.args.store.now c.copy_out.new.store c.double.new.store (λ n e. e) (λ n e. absurd e) c.copy_out.ensures.drops c.double.ensures.drops in
    let u : World = world_at g.M.Mapper c.double.new.mapper c.double.new.caches c.release.new.store in
    record {
      ready = (subst (λ (s : Store). IsDoneOrMissed (Err Victim) (λ (f : FrameId). IsFramed readied c.args.node f.0) old (world_at g.M.Mapper c.double.new.mapper c.double.new.caches s) before now) (sym c.release.ensures)
          (miss_with old _ (released_still old w v c.in_ok-frame.frame.0 one then.none) before now c.requires.right.sound c.requires.right.shaped (released_pins old w v c.in_ok-frame.frame.0 one then.none) (later_then _ _ _ first.later then.later)
          (tells_as _ _ _ _ _ refl (tells_then old w one.still.stays v _ _ _ then.later first.told then.told)) Victim (cause_then _ _ _ Victim first.later c.in_default.ensures.cause)));
      drops = (λ o is. record {
        left = tt;
        home = tt;
        failed = drops_by (MayCome c.args.caches.now o) c.args.caches.now c.double.new.caches c.args.store.now c.double.new.store c.args.store.now c.release.new.store refl refl (ap (λ (s : Store). s.map) c.release.ensures) (ap (λ (s : Store). s.tables) c.release.ensures)
            (drops_more (λ n. n ≡ c.args.owner) (MayCome c.args.caches.now o) c.args.caches.now c.double.new.caches c.args.store.now c.double.new.store (λ n e. inl (e ∙ sym (owner_same c.args.caches.now c.requires.right.sound c.args.node o c.args.owner is c.requires.owner))) gathered);
      });
      frames = (each_owner (λ (m : NodeId). OnlyCome (IsOfWrite c.args.caches.now c.args.node m) old u) c.args.caches.now c.requires.right.sound c.args.node c.args.owner c.requires.owner
          (come_by (IsOfWrite c.args.caches.now c.args.node c.args.owner) old v old u refl refl refl (ap (λ (s : Store). s.map) c.release.ensures) (ap (λ (s : Store). s.frames.bytes) c.release.ensures) refl
          (both_come g (goal.at.returns-in_default g c).After-double one.still)));
      copies = search rules;
      traffic = search rules;
      most = (each_owner (λ (m : NodeId). TakesAtMost (pulls_to_copy (own_of c.args.caches.now m)) 3 c.args.store.now.frames (g.M.Mapper.counts c.args.mapper.now) (g.M.Mapper.counts c.double.new.mapper)) c.args.caches.now c.requires.right.sound c.args.node c.args.owner c.requires.owner
          (most_then _ _ _ _ _ _ _ _ _ first.traffic then.most then.later (omega arith)
          (omega (arith, bounds.1, pushes_then (frames_to_copy own) c.args.store.now.frames.held c.copy_out.new.store.frames.held one.still.stays.frames first.held))));
      victim = search rules;
    }

pub returns-clause-frames : goal.returns-clause-frames
returns-clause-frames g c =
    let old : World = world_at g.M.Mapper c.args.mapper.now c.args.caches.now c.args.store.now in
    let v : World = world_at g.M.Mapper c.double.new.mapper c.double.new.caches c.double.new.store in
    let u : World = world_at g.M.Mapper c.double.new.mapper c.own_page.new.caches c.settle_in.new.store in
    let x : World = world_at g.M.Mapper c.double.new.mapper c.hand_page.new.caches c.settle_in-2.new.store in
    let one = c.in_ok-frame.ensures.copied.done.gathered in
    let two = c.in-Ok.ensures.doubled.done in
    let gathered = two.gathered in
    let f1 : ℕ = c.in_ok-frame.frame.0 in
    let f2 : ℕ = c.in-Ok.second.0 in
    let within1 : f1 < length c.double.new.store.map = omega (arith, one.taken.within, gathered.still.stays.frames, gathered.still.stays.right.tied.fitted.map_frames) in
    let map1 : c.settle_in.new.store.map ≡ set c.double.new.store.map f1 (Some c.args.node) = ap (λ (s : Store). s.map) c.settle_in.ensures in
    let within2 : f2 < length c.settle_in.new.store.map = omega (arith, gathered.taken.within, gathered.still.stays.right.tied.fitted.map_frames, ap (λ (m : List (Option NodeId)). length m) map1, length-set c.double.new.store.map f1 (Some c.args.node)) in
    let may = IsOfWrite c.args.caches.now c.args.node c.args.owner in
    let gives = step_gives c.requires.right c.in_ok-frame.ensures.copied.done c.in-Ok.ensures.doubled.done c.requires.node c.requires.bare c.requires.owner c.own_page.ensures in
    let handed = hands c.requires.right c.in_ok-frame.ensures.copied.done c.in-Ok.ensures.doubled.done c.requires.node c.requires.bare c.requires.owner c.own_page.ensures c.requires.next.held c.requires.next.name c.hand_page.ensures in
    each_owner (λ (m : NodeId). OnlyCome (IsOfWrite c.args.caches.now c.args.node m) old x) c.args.caches.now c.requires.right.sound c.args.node c.args.owner c.requires.owner
    (come_settled may old u x f2 c.args.next within2 (inr (inl c.requires.next.name)) (ap (λ (s : Store). s.map) c.settle_in-2.ensures) (ap (λ (s : Store). s.frames.bytes) c.settle_in-2.ensures) handed.others
    (come_settled may old v u f1 c.args.node within1 (inl refl) map1 (ap (λ (s : Store). s.frames.bytes) c.settle_in.ensures) gives.others
    (both_come g (goal.at.returns-clause-frames g c).After-double one.still)))

pub returns-in_err-frame-clause-victim : goal.returns-in_err-frame-clause-victim
returns-in_err-frame-clause-victim g c = λ o is hand.
    let same : o ≡ c.args.owner = owner_same c.args.caches.now c.requires.right.sound c.args.node o c.args.owner is c.requires.owner in
    victim_from c.from_residual.result c.in_err-frame.field-0.0 c.from_residual.ensures.1 (c.in_err-frame.ensures.victim (ap (λ (m : NodeId). is_at_hand (own_of c.args.caches.now m)) (sym same) ∙ hand))
