use Rattle.std.proofs.Common.{◌≡◌, ◌+◌, false, rules, sym, ap, ◌∙◌, subst, arith}
use Rattle.std.specs.Option.{IfSome}
use Rattle.vm_ids.specs.Denying.{denies}
use Rattle.local_cache.specs.Arena.{Arena}
use Rattle.local_cache.specs.Reading.{forest_of}
use Rattle.local_cache.specs.Whole.{IsWhole, SameCaches}
use Rattle.local_cache.proofs.Tables.Sizes.{sizes_granted, sizes_then}
use Rattle.residency.specs.Between.{world_at}
use Rattle.residency.specs.Causes.{Later, Traffic}
use Rattle.residency.specs.StoreForest.{store_forest}
use Rattle.residency.specs.declared.store.Store.{Store}
use Rattle.residency.specs.World.{IsStoreRight, World, world}
use Rattle.segment_ops.specs.Access.{GrantsBefore}
use Rattle.segment_ops.proofs.Granting.{allowed_by, allows_then, asked_later, asked_traffic, asked_once, granted_allowed, granted_on, granted_pages, granted_right, granted_then, granted_whole, range_lies, range_place, segment_is}
use Rattle.segment_ops.proofs.Unsaved.{range_fits, range_node, sized_range}
use Rattle.segment_ops.proofs.access.write_access.Goals.{then-not-granted+in-Ok-true, else-not-granted}
use Rattle.segment_ops.proofs.access.write_access.Goals as goal

pub overflow_add-number-end : goal.overflow_add-number-end
overflow_add-number-end g c = omega (arith, range_fits c.args.caches.now c.requires.whole c.args.range c.requires.range)

pub granted-requires : goal.granted-requires
granted-requires g c =
    let i = c.loop-number.invariant in
    range_place c.loop-number.caches c.args.range.cache _ (range_node c.loop-number.caches i.whole c.args.range (sized_range c.args.caches.now c.loop-number.caches i.sizes c.args.range c.requires.range) c.loop-number.number c.loop-number-test.true)

pub get_write_access-requires : goal.get_write_access-requires
get_write_access-requires g c =
    let M = g.M.Mapper in
    let i = c.loop-number.invariant in
    let w : World = world_at M c.loop-number.mapper c.loop-number.caches c.requires.right.0 in
    let named = segment_is c.args.caches.now c.args.range.cache c.unwrap-segment.result c.requires.named (sym c.unwrap-segment.ensures ∙ c.segment.ensures) in
    range_lies w (i.right c.requires.right.0 c.requires.right.1) i.whole.sound c.args.range.cache c.loop-number.number c.unwrap-segment.result (range_node c.loop-number.caches i.whole c.args.range (sized_range c.args.caches.now c.loop-number.caches i.sizes c.args.range c.requires.range) c.loop-number.number c.loop-number-test.true)
    (i.sizes.segments c.args.range.cache.0 ∙ named)

pub grant-requires : goal.grant-requires
grant-requires g c =
    let i = c.loop-number.invariant in
    range_place c.loop-number.caches c.args.range.cache _ (range_node c.loop-number.caches i.whole c.args.range (sized_range c.args.caches.now c.loop-number.caches i.sizes c.args.range c.requires.range) c.loop-number.number c.loop-number-test.true)

pub loop-number-preserved : goal.loop-number-preserved
loop-number-preserved g c =
    let M = g.M.Mapper in
    let i = c.loop-number.invariant in
    let s : Store = c.requires.right.0 in
    let beside = i.right s c.requires.right.1 in
    let beside_store : Store → World = world_at M c.loop-number.mapper c.loop-number.caches in
    let w : World = beside_store s in
    let cache = c.args.range.cache in
    let segment = c.unwrap-segment.result in
    let named = i.sizes.segments cache.0 ∙ segment_is c.args.caches.now cache segment c.requires.named (sym c.unwrap-segment.ensures ∙ c.segment.ensures) in
    let some = range_node c.loop-number.caches i.whole c.args.range (sized_range c.args.caches.now c.loop-number.caches i.sizes c.args.range c.requires.range) c.loop-number.number c.loop-number-test.true in
    elim c.if-not-granted.branch [
      | then-not-granted+in-Ok-true b ↦ (
          let m = b.get_write_access.new.self in
          let k = b.in-Ok-true.ensures in
          let e = b.grant.ensures in
          let a = b.grant.new.self in
          let allowed : IfSome w.told (λ h. denies h.denied segment.0 c.loop-number.number ≡ false) = allowed_by w.told b.in-Ok-true.field-0 segment.0 c.loop-number.number b.in-Ok-true.field-0-test k.granted in
          record {
            right = λ s was. subst (λ (x : Arena). IsStoreRight (world_at M c.if-not-granted.mapper x s)) (sym b.caches-is)
                (subst (λ t. IsStoreRight (world t (M.page_bytes c.if-not-granted.mapper) a s)) (sym (ap M.held b.mapper-is ∙ k.held))
                (subst (λ z. IsStoreRight (world w.told z a s)) (sym (ap M.page_bytes b.mapper-is ∙ k.page)) (granted_right (beside_store s) a cache c.loop-number.number segment (i.right s was) e.changed e.granted named allowed)));
            whole = subst IsWhole (sym b.caches-is) (granted_whole w a cache c.loop-number.number segment beside e.changed e.granted named allowed i.whole);
            sizes = subst (SameCaches c.args.caches.now) (sym b.caches-is) (sizes_then c.args.caches.now c.loop-number.caches a i.sizes (sizes_granted c.loop-number.caches a cache.0 c.loop-number.number e.changed));
            grants = subst (GrantsBefore c.args.range (c.loop-number.number + 1) c.args.caches.now) (sym b.caches-is) (granted_then c.args.range c.loop-number.number c.args.caches.now c.loop-number.caches a (search rules) i.grants e.changed e.granted);
            allows = allows_then c.args.range c.loop-number.number _ segment i.allows (subst (λ t. IfSome t (λ h. denies h.denied segment.0 c.loop-number.number ≡ false)) i.held allowed);
            nodes = ap forest_of b.caches-is ∙ e.forest ∙ i.nodes;
            forest = λ s was. ap (λ (x : Arena). store_forest (world_at M c.if-not-granted.mapper x s)) b.caches-is
                ∙ ap (λ t. store_forest (world t (M.page_bytes c.if-not-granted.mapper) a s)) (ap M.held b.mapper-is ∙ k.held)
                ∙ ap (λ z. store_forest (world w.told z a s)) (ap M.page_bytes b.mapper-is ∙ k.page)
                ∙ granted_pages (beside_store s) a cache c.loop-number.number segment (i.right s was) e.changed e.granted named allowed i.whole.sound ∙ i.forest s was;
            held = ap M.held b.mapper-is ∙ k.held ∙ i.held;
            given = ap M.given b.mapper-is ∙ k.given ∙ i.given;
            page_bytes = ap M.page_bytes b.mapper-is ∙ k.page ∙ i.page_bytes;
            later = subst (λ m. Later (M.counts c.args.mapper.now) (M.counts m)) (sym b.mapper-is) (asked_later _ _ _ i.later k.counts);
            traffic = subst (λ m. Traffic 0 0 (M.counts c.args.mapper.now) (M.counts m)) (sym b.mapper-is) (asked_traffic _ _ _ i.traffic k.counts);
            idle = λ all. absurd (asked_once c.args.caches.now c.loop-number.caches c.args.range c.loop-number.number all (i.idle all).0 (search rules) c.loop-number-test.true (search rules));
          })
      | else-not-granted b ↦ record {
        right = λ s was. subst (λ (x : Arena). IsStoreRight (world_at M c.if-not-granted.mapper x s)) (sym b.caches-is)
            (subst (λ m. IsStoreRight (world_at M m c.loop-number.caches s)) (sym b.mapper-is) (i.right s was));
        whole = subst IsWhole (sym b.caches-is) i.whole;
        sizes = subst (SameCaches c.args.caches.now) (sym b.caches-is) i.sizes;
        grants = subst (GrantsBefore c.args.range (c.loop-number.number + 1) c.args.caches.now) (sym b.caches-is) (granted_on c.args.range c.loop-number.number c.args.caches.now c.loop-number.caches (search rules) i.grants (search rules));
        allows = allows_then c.args.range c.loop-number.number _ segment i.allows (subst (λ t. IfSome t (λ h. denies h.denied segment.0 c.loop-number.number ≡ false)) i.held (granted_allowed w beside i.whole.sound cache c.loop-number.number segment some named (search rules)));
        nodes = ap forest_of b.caches-is ∙ i.nodes;
        forest = λ s was. ap (λ (x : Arena). store_forest (world_at M c.if-not-granted.mapper x s)) b.caches-is
            ∙ ap (λ m. store_forest (world_at M m c.loop-number.caches s)) b.mapper-is ∙ i.forest s was;
        held = ap M.held b.mapper-is ∙ i.held;
        given = ap M.given b.mapper-is ∙ i.given;
        page_bytes = ap M.page_bytes b.mapper-is ∙ i.page_bytes;
        later = subst (λ m. Later (M.counts c.args.mapper.now) (M.counts m)) (sym b.mapper-is) i.later;
        traffic = subst (λ m. Traffic 0 0 (M.counts c.args.mapper.now) (M.counts m)) (sym b.mapper-is) i.traffic;
        idle = λ all. (let was = i.idle all in (b.caches-is ∙ was.0, b.mapper-is ∙ was.1));
      }
    ]
