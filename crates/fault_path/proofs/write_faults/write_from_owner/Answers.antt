use Rattle.std.proofs.Common.{◌∙◌, ap, sym, subst, arith}
use Rattle.fault_path.specs.Answers.{IsAnswered}
use Rattle.residency.specs.Between.{world_at}
use Rattle.residency.specs.World.{World}
use Rattle.residency.specs.declared.store.Store.{Store}
use Rattle.vm_ids.specs.declared.numbers.NodeId.{NodeId}
use Rattle.fault_path.proofs.OnePage.FoundPage.{each_owner, owner_same}
use Rattle.local_cache.specs.Own.{own_of}
use Rattle.fault_path.proofs.Calls.Costs.{at_hand_pulls, copy_most, most_more}
use Rattle.fault_path.proofs.Translations.Homes.{drops_homes}
use Rattle.fault_path.specs.Answers.{IsFramed}
use Rattle.fault_path.specs.Faults.{readied}
use Rattle.residency.specs.Translating.{Drops}
use Rattle.fault_path.specs.Translating.{DropsHomes, MayCome, without_homes}
use Rattle.fault_path.proofs.Rules.ReadyForest.{ready_alone}
use Rattle.fault_path.proofs.Translations.Given.{forgot_world}
use Rattle.fault_path.specs.Coming.{IsOfWrite, OnlyCome}
use Rattle.fault_path.proofs.write_faults.write_from_owner.Goals as goal

pub drop_translations-requires : goal.drop_translations-requires
drop_translations-requires g c =
    let fitted = c.make_ready.ensures.ready.answered.kept.right.tied.fitted in
    omega (arith, fitted.places_frames, fitted.map_frames)

pub returns-clause-answered : goal.returns-clause-answered
returns-clause-answered g c =
    let old : World = world_at g.M.Mapper c.args.mapper.now c.args.caches.now c.args.store.now in
    let same = forgot_world (g.M.Mapper.held c.make_ready.new.mapper) (g.M.Mapper.page_bytes c.make_ready.new.mapper) c.make_ready.new.caches c.make_ready.new.store c.drop_translations.new.store c.args.owner c.args.node c.drop_translations.ensures in
    subst (λ (w : World). IsAnswered old w (g.M.Mapper.counts c.args.mapper.now) (g.M.Mapper.counts c.make_ready.new.mapper)) (sym same) c.make_ready.ensures.ready.answered

pub returns-clause-ready : goal.returns-clause-ready
returns-clause-ready g c =
    let old : World = world_at g.M.Mapper c.args.mapper.now c.args.caches.now c.args.store.now in
    let same = forgot_world (g.M.Mapper.held c.make_ready.new.mapper) (g.M.Mapper.page_bytes c.make_ready.new.mapper) c.make_ready.new.caches c.make_ready.new.store c.drop_translations.new.store c.args.owner c.args.node c.drop_translations.ensures in
    subst (λ (w : World). IsFramed readied c.args.node c.in_ok-frame.frame.0 old w) (sym same) c.in_ok-frame.ensures.ready.done

pub returns-clause-drops : goal.returns-clause-drops
returns-clause-drops g c =
    λ o is. subst (λ (s : Store). Drops (MayCome c.args.caches.now o) c.args.caches.now c.args.store.now c.make_ready.new.caches s)
    (ap (λ (m : NodeId). without_homes m c.args.node c.make_ready.new.store) (owner_same c.args.caches.now c.requires.right.sound c.args.node o c.args.owner is c.requires.owner) ∙ sym c.drop_translations.ensures)
    (let e = c.in_ok-frame.ensures.drops o is in e.left)

pub returns-in_err-frame-clause-drops : goal.returns-in_err-frame-clause-drops
returns-in_err-frame-clause-drops g c = λ o is. (let e = c.in_err-frame.ensures.drops o is in e.failed)

pub returns-clause-alone : goal.returns-clause-alone
returns-clause-alone g c =
    let old : World = world_at g.M.Mapper c.args.mapper.now c.args.caches.now c.args.store.now in
    let w : World = world_at g.M.Mapper c.make_ready.new.mapper c.make_ready.new.caches c.make_ready.new.store in
    ready_alone old w c.requires.right.sound c.requires.right.shaped c.in_ok-frame.ensures.ready.answered.kept c.args.node c.requires.node c.requires.live c.in_ok-frame.frame.0 c.in_ok-frame.ensures.ready.done

pub returns-clause-homes : goal.returns-clause-homes
returns-clause-homes g c =
    each_owner (λ (o : NodeId). DropsHomes o c.args.node c.args.store.now c.drop_translations.new.store) c.args.caches.now c.requires.right.sound c.args.node c.args.owner c.requires.owner
    (let e = c.in_ok-frame.ensures.drops c.args.owner c.requires.owner in drops_homes c.args.owner c.args.node c.args.store.now c.make_ready.new.store c.drop_translations.new.store e.home c.drop_translations.ensures)

pub returns-clause-most : goal.returns-clause-most
returns-clause-most g c =
    let bounds = copy_most (own_of c.args.caches.now c.args.owner) in
    most_more _ _ _ _ _ _ (c.make_ready.ensures.most c.args.owner c.requires.owner) bounds.0 (omega arith)

pub returns-in_err-frame-clause-most : goal.returns-in_err-frame-clause-most
returns-in_err-frame-clause-most g c =
    let bounds = copy_most (own_of c.args.caches.now c.args.owner) in
    most_more _ _ _ _ _ _ (c.make_ready.ensures.most c.args.owner c.requires.owner) bounds.0 (omega arith)

pub returns-clause-no_pull : goal.returns-clause-no_pull
returns-clause-no_pull g c = λ o is. at_hand_pulls (own_of c.args.caches.now o) _ _ _ (c.make_ready.ensures.most o is) c.make_ready.ensures.ready.answered.later

pub returns-in_err-frame-clause-no_pull : goal.returns-in_err-frame-clause-no_pull
returns-in_err-frame-clause-no_pull g c = λ o is. at_hand_pulls (own_of c.args.caches.now o) _ _ _ (c.make_ready.ensures.most o is) c.make_ready.ensures.ready.answered.later

pub returns-clause-frames : goal.returns-clause-frames
returns-clause-frames g c =
    let old : World = world_at g.M.Mapper c.args.mapper.now c.args.caches.now c.args.store.now in
    let same = forgot_world (g.M.Mapper.held c.make_ready.new.mapper) (g.M.Mapper.page_bytes c.make_ready.new.mapper) c.make_ready.new.caches c.make_ready.new.store c.drop_translations.new.store c.args.owner c.args.node c.drop_translations.ensures in
    λ o is. subst (OnlyCome (IsOfWrite c.args.caches.now c.args.node o) old) (sym same) (c.make_ready.ensures.frames o is)
