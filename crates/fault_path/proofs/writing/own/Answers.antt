use Rattle.std.proofs.Common.{◌∙◌, ap, sym, subst, arith}
use Rattle.fault_path.specs.Answers.{IsAnswered}
use Rattle.residency.specs.Between.{world_at}
use Rattle.residency.specs.World.{World}
use Rattle.residency.specs.declared.store.Store.{Store}
use Rattle.vm_ids.specs.declared.numbers.NodeId.{NodeId}
use Rattle.fault_path.specs.Faults.{IsOwner}
use Rattle.fault_path.proofs.OnePage.FoundPage.{each_owner, owner_same}
use Rattle.local_cache.specs.Own.{own_of}
use Rattle.fault_path.proofs.Calls.Costs.{at_hand_pulls, copy_most, most_more}
use Rattle.fault_path.proofs.Translations.Homes.{drops_homes}
use Rattle.residency.specs.StoreForest.{store_forest}
use Rattle.residency.specs.Translating.{Drops}
use Rattle.fault_path.specs.Translating.{DropsHomes, MayCome, without_homes}
use Rattle.fault_path.proofs.Translations.Given.{forgot_world}
use Rattle.fault_path.proofs.writing.own.Goals as goal

pub drop_translations-requires : goal.drop_translations-requires
drop_translations-requires g c =
    let fitted = c.own_framed.ensures.owned.answered.kept.right.tied.fitted in
    omega (arith, fitted.places_frames, fitted.map_frames)

pub returns-clause-answered : goal.returns-clause-answered
returns-clause-answered g c =
    let old : World = world_at g.M.Mapper c.args.mapper.now c.args.caches.now c.args.store.now in
    let same = forgot_world (g.M.Mapper.held c.own_framed.new.mapper) (g.M.Mapper.page_bytes c.own_framed.new.mapper) c.own_framed.new.caches c.own_framed.new.store c.drop_translations.new.store c.owner_of-owner.result c.args.node c.drop_translations.ensures in
    subst (λ (w : World). IsAnswered old w (g.M.Mapper.counts c.args.mapper.now) (g.M.Mapper.counts c.own_framed.new.mapper)) (sym same) c.own_framed.ensures.owned.answered

pub returns-clause-forest : goal.returns-clause-forest
returns-clause-forest g c =
    let old : World = world_at g.M.Mapper c.args.mapper.now c.args.caches.now c.args.store.now in
    let same = forgot_world (g.M.Mapper.held c.own_framed.new.mapper) (g.M.Mapper.page_bytes c.own_framed.new.mapper) c.own_framed.new.caches c.own_framed.new.store c.drop_translations.new.store c.owner_of-owner.result c.args.node c.drop_translations.ensures in
    ap store_forest same ∙ c.in_ok-own_framed.ensures.owned.done.forest

pub returns-clause-drops : goal.returns-clause-drops
returns-clause-drops g c =
    let it : NodeId = c.owner_of-owner.result in
    let owner : IsOwner c.args.caches.now c.args.node it = record { held = c.owner_of-owner.ensures.held; name = c.owner_of-owner.ensures.owner } in
    λ o is. subst (λ (s : Store). Drops (MayCome c.args.caches.now o) c.args.caches.now c.args.store.now c.own_framed.new.caches s)
    (ap (λ (m : NodeId). without_homes m c.args.node c.own_framed.new.store) (owner_same c.args.caches.now c.requires.right.sound c.args.node o it is owner) ∙ sym c.drop_translations.ensures)
    (let e = c.in_ok-own_framed.ensures.drops o is in e.left)

pub returns-clause-homes : goal.returns-clause-homes
returns-clause-homes g c =
    let it : NodeId = c.owner_of-owner.result in
    let owner : IsOwner c.args.caches.now c.args.node it = record { held = c.owner_of-owner.ensures.held; name = c.owner_of-owner.ensures.owner } in
    each_owner (λ (o : NodeId). DropsHomes o c.args.node c.args.store.now c.drop_translations.new.store) c.args.caches.now c.requires.right.sound c.args.node it owner
    (let e = c.in_ok-own_framed.ensures.drops it owner in drops_homes it c.args.node c.args.store.now c.own_framed.new.store c.drop_translations.new.store e.home c.drop_translations.ensures)

pub returns-clause-most : goal.returns-clause-most
returns-clause-most g c =
    let it : NodeId = c.owner_of-owner.result in
    let owner : IsOwner c.args.caches.now c.args.node it = record { held = c.owner_of-owner.ensures.held; name = c.owner_of-owner.ensures.owner } in
    let bounds = copy_most (own_of c.args.caches.now it) in
    most_more _ _ _ _ _ _ (c.own_framed.ensures.most it owner) bounds.0 (omega arith)

pub returns-in_err-own_framed-clause-most : goal.returns-in_err-own_framed-clause-most
returns-in_err-own_framed-clause-most g c =
    let it : NodeId = c.owner_of-owner.result in
    let owner : IsOwner c.args.caches.now c.args.node it = record { held = c.owner_of-owner.ensures.held; name = c.owner_of-owner.ensures.owner } in
    let bounds = copy_most (own_of c.args.caches.now it) in
    most_more _ _ _ _ _ _ (c.own_framed.ensures.most it owner) bounds.0 (omega arith)

pub returns-clause-no_pull : goal.returns-clause-no_pull
returns-clause-no_pull g c = λ o is. at_hand_pulls (own_of c.args.caches.now o) _ _ _ (c.own_framed.ensures.most o is) c.own_framed.ensures.owned.answered.later

pub returns-in_err-own_framed-clause-no_pull : goal.returns-in_err-own_framed-clause-no_pull
returns-in_err-own_framed-clause-no_pull g c = λ o is. at_hand_pulls (own_of c.args.caches.now o) _ _ _ (c.own_framed.ensures.most o is) c.own_framed.ensures.owned.answered.later
