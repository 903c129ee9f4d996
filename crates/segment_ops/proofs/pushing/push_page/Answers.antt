use Rattle.std.proofs.Common.{rules, ap, ◌≡◌, false, refl, sym, subst}
use Rattle.local_cache.specs.declared.own_state.OwnState.TheVariants.{Resident}
use Rattle.local_cache.specs.Arena.{Arena, with_own}
use Rattle.local_cache.specs.Own.{is_absent, own_of}
use Rattle.residency.specs.Between.{world_at}
use Rattle.residency.specs.World.{Still, World}
use Rattle.residency.proofs.Worlds.Arms.{on_err}
use Rattle.residency.specs.Translating.{Drops}
use Rattle.residency.proofs.Pushes.PushedPages.{tells_as}
use Rattle.fault_path.specs.Faults.{IsOwner}
use Rattle.segment_ops.specs.Synced.{CleanStays, IsSynced}
use Rattle.segment_ops.proofs.Dropped.{failed_drops, owner_drops}
use Rattle.segment_ops.proofs.PushedPage.{IsReadIn, at_b, inherited_synced, others_clean, others_clean_but, own_clean, own_still, own_synced, page_still, page_told, push_failed, pushed_is, pushed_later, there_b}
use Rattle.segment_ops.proofs.Values.{held_home, tells_values, values_failed}
use Rattle.segment_ops.proofs.pushing.push_page.Given.{Over}
use Rattle.segment_ops.proofs.pushing.push_page.Goals.{After-owner_of-owner, In-Ok}
use Rattle.segment_ops.proofs.pushing.push_page.Goals as goal

pub owner_of-owner-requires-clause-node : goal.owner_of-owner-requires-clause-node
owner_of-owner-requires-clause-node g c =
    let old : World = world_at g.M.Mapper c.args.mapper.now c.args.caches.now c.args.store.now in
    held_home old c.requires.right.sound c.requires.right.shaped c.args.node c.args.home c.requires.home

pub returns-in_default-clause-told : goal.returns-in_default-clause-told
returns-in_default-clause-told g c = tells_values _ c.requires.right.sound c.requires.right.shaped _ _ _ c.bring_in.ensures.told

pub returns-in_default-clause-clean : goal.returns-in_default-clause-clean
returns-in_default-clause-clean g c = others_clean _ _ c.requires.right.store c.in_default.ensures.failed

-- the owner of the node
owns : (g : Over) (c : After-owner_of-owner g) → IsOwner c.args.caches.now c.args.node c.owner_of-owner.result
owns g c = record { held = c.owner_of-owner.ensures.held; name = c.owner_of-owner.ensures.owner }

-- its page is in a frame
read_in : (g : Over) (c : In-Ok g)
    → IsReadIn c.args.node c.args.home c.owner_of-owner.result c.in-Ok.frame.0 (world_at g.M.Mapper c.args.mapper.now c.args.caches.now c.args.store.now) (world_at g.M.Mapper c.bring_in.new.mapper c.bring_in.new.caches c.bring_in.new.self)
read_in g c =
    let e = c.in-Ok.ensures in
    record { right = c.requires.right; at = c.requires.home; unclean = c.requires.unclean; owner = owns g (goal.at.In-Ok g c).After-owner_of-owner; still = e.still; bound = e.home; state = e.state }

pub push_out-requires-clause-there : goal.push_out-requires-clause-there
push_out-requires-clause-there g c = c.in-Ok.ensures.still.stays.right.tied.backed.lies c.args.node c.args.home (at_b (read_in g (goal.at.push_out-requires-clause-there g c).In-Ok))

pub returns-in_err-push_out-clause-told : goal.returns-in_err-push_out-clause-told
returns-in_err-push_out-clause-told g c =
    let p = c.in_err-push_out.ensures in
    values_failed _ _ _ _ _ _ p.err (tells_values _ c.requires.right.sound c.requires.right.shaped _ _ _ c.in-Ok.ensures.told) p.counts.pushes_later refl

pub returns-in_err-push_out-clause-clean : goal.returns-in_err-push_out-clause-clean
returns-in_err-push_out-clause-clean g c = others_clean_but _ _ c.owner_of-owner.result c.requires.right.store c.in-Ok.ensures.others c.in-Ok.ensures.state

pub returns-in_err-push_out-clause-cause : goal.returns-in_err-push_out-clause-cause
returns-in_err-push_out-clause-cause g c = on_err _ c.from_residual.result (push_failed _ _ _ c.bring_in.ensures.later c.in_err-push_out.ensures.counts)

pub own_state-requires : goal.own_state-requires
own_state-requires g c = there_b (read_in g (goal.at.own_state-requires g c).In-Ok)

pub set_state-requires : goal.set_state-requires
set_state-requires g c = there_b (read_in g (goal.at.set_state-requires g c).In-Ok)

pub returns-else-not-is_absent-clause-still : goal.returns-else-not-is_absent-clause-still
returns-else-not-is_absent-clause-still g c = subst (Still _) (sym (pushed_is _ _ _ _ c.bring_in.new.caches _ _ c.bring_in.new.self c.args.home c.in-Ok.frame.0 _ _ c.in_ok-push_out.ensures.ok c.bytes.ensures.bytes c.frames.ensures c.in_ok-push_out.ensures.page refl)) (page_still (read_in g (goal.at.returns-else-not-is_absent-clause-still g c).In-Ok))

pub returns-else-not-is_absent-clause-told : goal.returns-else-not-is_absent-clause-told
returns-else-not-is_absent-clause-told g c = tells_as _ _ _ _ _ (ap (λ (w : World). w.told) (pushed_is _ _ _ _ c.bring_in.new.caches _ c.bring_in.new.caches c.bring_in.new.self c.args.home c.in-Ok.frame.0 _ _ c.in_ok-push_out.ensures.ok c.bytes.ensures.bytes c.frames.ensures c.in_ok-push_out.ensures.page refl)) (page_told (read_in g (goal.at.returns-else-not-is_absent-clause-told g c).In-Ok) _ _ _ c.in-Ok.ensures.told (pushed_later _ _ c.in_ok-push_out.ensures.counts) c.in_ok-push_out.ensures.counts.pushed)

pub returns-else-not-is_absent-clause-clean : goal.returns-else-not-is_absent-clause-clean
returns-else-not-is_absent-clause-clean g c = others_clean_but _ _ c.owner_of-owner.result c.requires.right.store c.in-Ok.ensures.others c.in-Ok.ensures.state

pub returns-else-not-is_absent-clause-synced : goal.returns-else-not-is_absent-clause-synced
returns-else-not-is_absent-clause-synced g c = subst (λ w. IsSynced w c.args.node) (sym (pushed_is _ _ _ _ c.bring_in.new.caches _ _ c.bring_in.new.self c.args.home c.in-Ok.frame.0 _ _ c.in_ok-push_out.ensures.ok c.bytes.ensures.bytes c.frames.ensures c.in_ok-push_out.ensures.page refl)) (inherited_synced (read_in g (goal.at.returns-else-not-is_absent-clause-synced g c).In-Ok) (search rules))

pub returns-then-not-is_absent-clause-still : goal.returns-then-not-is_absent-clause-still
returns-then-not-is_absent-clause-still g c =
    let some : is_absent (own_of c.bring_in.new.caches c.args.node) ≡ false = search rules in
    subst (Still _) (sym (pushed_is _ _ _ _ c.bring_in.new.caches _ _ c.bring_in.new.self c.args.home c.in-Ok.frame.0 _ _ c.in_ok-push_out.ensures.ok c.bytes.ensures.bytes c.frames.ensures c.in_ok-push_out.ensures.page c.set_state.ensures.changed)) (own_still (read_in g (goal.at.returns-then-not-is_absent-clause-still g c).In-Ok) some)

pub returns-then-not-is_absent-clause-told : goal.returns-then-not-is_absent-clause-told
returns-then-not-is_absent-clause-told g c = tells_as _ _ _ _ _ (ap (λ (w : World). w.told) (pushed_is _ _ _ _ c.bring_in.new.caches _ _ c.bring_in.new.self c.args.home c.in-Ok.frame.0 _ _ c.in_ok-push_out.ensures.ok c.bytes.ensures.bytes c.frames.ensures c.in_ok-push_out.ensures.page c.set_state.ensures.changed)) (page_told (read_in g (goal.at.returns-then-not-is_absent-clause-told g c).In-Ok) _ _ _ c.in-Ok.ensures.told (pushed_later _ _ c.in_ok-push_out.ensures.counts) c.in_ok-push_out.ensures.counts.pushed)

pub returns-then-not-is_absent-clause-clean : goal.returns-then-not-is_absent-clause-clean
returns-then-not-is_absent-clause-clean g c =
    let some : is_absent (own_of c.bring_in.new.caches c.args.node) ≡ false = search rules in
    let first = others_clean_but _ _ c.owner_of-owner.result c.requires.right.store c.in-Ok.ensures.others c.in-Ok.ensures.state in
    subst (CleanStays c.args.caches.now) (sym c.set_state.ensures.changed) (λ m clean. own_clean (read_in g (goal.at.returns-then-not-is_absent-clause-clean g c).In-Ok) some m (first m clean))

pub returns-then-not-is_absent-clause-synced : goal.returns-then-not-is_absent-clause-synced
returns-then-not-is_absent-clause-synced g c =
    let some : is_absent (own_of c.bring_in.new.caches c.args.node) ≡ false = search rules in
    subst (λ w. IsSynced w c.args.node) (sym (pushed_is _ _ _ _ c.bring_in.new.caches _ _ c.bring_in.new.self c.args.home c.in-Ok.frame.0 _ _ c.in_ok-push_out.ensures.ok c.bytes.ensures.bytes c.frames.ensures c.in_ok-push_out.ensures.page c.set_state.ensures.changed)) (own_synced (read_in g (goal.at.returns-then-not-is_absent-clause-synced g c).In-Ok) some)

pub returns-in_default-clause-drops : goal.returns-in_default-clause-drops
returns-in_default-clause-drops g c =
    let owner = owns g (goal.at.returns-in_default-clause-drops g c).After-owner_of-owner in
    failed_drops _ _ _ _ c.args.caches.now c.bring_in.new.caches c.args.store.now c.bring_in.new.self c.args.node c.owner_of-owner.result owner c.requires.right.store c.bring_in.ensures.still c.bring_in.ensures.tables c.in_default.ensures.failed

pub returns-in_err-push_out-clause-drops : goal.returns-in_err-push_out-clause-drops
returns-in_err-push_out-clause-drops g c =
    let owner = owns g (goal.at.returns-in_err-push_out-clause-drops g c).After-owner_of-owner in
    owner_drops _ _ _ _ c.args.caches.now c.bring_in.new.caches c.args.store.now c.bring_in.new.self c.args.node c.owner_of-owner.result owner c.requires.right.store c.in-Ok.ensures.still c.in-Ok.ensures.tables _ _ c.bring_in.new.caches c.in-Ok.ensures.others

pub returns-else-not-is_absent-clause-drops : goal.returns-else-not-is_absent-clause-drops
returns-else-not-is_absent-clause-drops g c =
    let owner = owns g (goal.at.returns-else-not-is_absent-clause-drops g c).After-owner_of-owner in
    owner_drops _ _ _ _ c.args.caches.now c.bring_in.new.caches c.args.store.now c.bring_in.new.self c.args.node c.owner_of-owner.result owner c.requires.right.store c.in-Ok.ensures.still c.in-Ok.ensures.tables _ _ c.bring_in.new.caches c.in-Ok.ensures.others

pub returns-then-not-is_absent-clause-drops : goal.returns-then-not-is_absent-clause-drops
returns-then-not-is_absent-clause-drops g c =
    let some : is_absent (own_of c.bring_in.new.caches c.args.node) ≡ false = search rules in
    let owner = owns g (goal.at.returns-then-not-is_absent-clause-drops g c).After-owner_of-owner in
    let clean : Arena = with_own c.bring_in.new.caches c.args.node (Resident false) in
    subst (λ (x : Arena). Drops (IsOwner c.args.caches.now c.args.node) c.args.caches.now c.args.store.now x c.bring_in.new.self) (sym c.set_state.ensures.changed)
    (owner_drops _ _ _ _ c.args.caches.now clean c.args.store.now c.bring_in.new.self c.args.node c.owner_of-owner.result owner c.requires.right.store (own_still (read_in g (goal.at.returns-then-not-is_absent-clause-drops g c).In-Ok) some) c.in-Ok.ensures.tables _ _ c.bring_in.new.caches c.in-Ok.ensures.others)
