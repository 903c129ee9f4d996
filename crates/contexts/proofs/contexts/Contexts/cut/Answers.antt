use Rattle.std.proofs.Common.{◌≡◌, ◌==◌, ℕ, ◌+◌, ◌*◌, ◌<◌, [], ◌∷◌, ◌++◌, List, Option, Some, length, refl, sym, ap, subst, ◌∙◌, arith}
use Rattle.std.specs.Prelude.{IsSomeAnd}
use Rattle.std.specs.List.{All}
use Rattle.std.proofs.lemmas.List.{length-append, with_items_is}
use Rattle.std.proofs.lemmas.List.Elements.{All-cons, All-nil}
use Rattle.vm_ids.specs.declared.numbers.ActorId.{ActorId}
use Rattle.vm_ids.specs.declared.reply.RegionStatus.{RegionStatus}
use Rattle.vm_model.specs.Machine.{Actor, Region, numbered}
use Rattle.vm_model.specs.Regions.{back_of, region_among, replace_in, replace_region, split_at}
use Rattle.vm_model.specs.declared.limits.TheConstants.{MOST_MADE}
use Rattle.regions.specs.AddressSpace.{AddressSpace}
use Rattle.contexts.specs.Actors.{Actors, with_split}
use Rattle.contexts.specs.Counting.{count_of, one_for}
use Rattle.contexts.specs.Layout.{IsChanged, regions_in}
use Rattle.contexts.proofs.Changing.{inside_alive, inside_starts, told_counted, told_inside}
use Rattle.contexts.proofs.Counted.{counted_within}
use Rattle.contexts.proofs.Kept.{changed_same, err_all}
use Rattle.contexts.proofs.Once.{is_numbered, times_split}
use Rattle.contexts.proofs.Replaced.{all_replaced}
use Rattle.contexts.proofs.Sound.{sound_few, sound_more, sound_same, sound_still}
use Rattle.contexts.proofs.Told.{told_among, told_back, told_becomes, told_page}
use Rattle.contexts.proofs.contexts.Contexts.cut.Goals as goal

pub split_region-requires-clause-alive : goal.split_region-requires-clause-alive
split_region-requires-clause-alive c = inside_alive c.self.inside c.args.self.now c.self.view_is c.args.region.0 c.args.status c.requires.told _ c.deref_mut.ensures.value

pub split_region-requires-clause-fewer : goal.split_region-requires-clause-fewer
split_region-requires-clause-fewer c =
    let n = c.args.region.0 in
    let s : RegionStatus = c.args.status in
    let xs = c.self.inside.actors.items in
    let t = told_inside c.self.inside c.args.self.now c.self.view_is n s c.requires.told in
    let fewer : c.args.pages < t.region.pages = subst (λ (u : RegionStatus). c.args.pages < u.mapping.extent.pages) t.told c.requires.fewer in
    subst (λ (ys : List (Option AddressSpace)). (u : AddressSpace) → numbered ys s.actor.0 ≡ Some u → IsSomeAnd (region_among n u.regions) (λ r. c.args.pages < r.pages)) (sym c.deref_mut.ensures.value)
    (λ u here. subst (λ (o : Option Region). IsSomeAnd o (λ r. c.args.pages < r.pages)) (sym (told_among n xs s t u here)) fewer)

pub split_region-requires-clause-start : goal.split_region-requires-clause-start
split_region-requires-clause-start c = inside_starts c.self.inside c.args.self.now c.self.view_is c.args.region.0 c.args.status c.requires.told _ c.deref_mut.ensures.value c.self.invariant

pub invariant_of-self-in_err-start : goal.invariant_of-self-in_err-start
invariant_of-self-in_err-start c =
    let i = c.self.inside in
    let a = c.args.status.actor.0 in
    let ys = c.split_region.new.spaces in
    let e : IsChanged a (λ rs. rs) i.actors.items ys =
    subst (λ (xs : List (Option AddressSpace)). IsChanged a (λ rs. rs) xs ys) c.deref_mut.ensures.value c.in_err-start.ensures.err in
    let items = with_items_is i.actors ys (omega (arith, c.split_region.auto.spaces, c.deref_mut.ensures.len)) in
    sound_same i _ c.self.invariant refl refl a (λ rs. rs) (subst (IsChanged a (λ rs. rs) i.actors.items) (sym items) e) c.reserve.ensures.items c.reserve-2.ensures.items (λ h. h) (λ h. h) (λ n. refl) (λ h. h)

-- the cache of the region is counted, and no number is too large
pub add-requires-clause-place : goal.add-requires-clause-place
add-requires-clause-place c =
    let i = c.self.inside in
    let s : RegionStatus = c.args.status in
    let n = s.mapping.extent.cache.0 in
    counted_within i.mapped n (omega (arith, c.self.invariant.mapped n, told_counted i c.args.self.now c.self.view_is c.args.region.0 s c.requires.told))

pub add-requires-clause-few : goal.add-requires-clause-few
add-requires-clause-few c = omega (arith, sound_few c.self.inside c.self.invariant c.args.status.mapping.extent.cache.0)

pub returns-in_err-start-clause-err : goal.returns-in_err-start-clause-err
returns-in_err-start-clause-err c =
    let i = c.self.inside in
    let a = c.args.status.actor.0 in
    let ys = c.split_region.new.spaces in
    let e : IsChanged a (λ rs. rs) i.actors.items ys =
    subst (λ (xs : List (Option AddressSpace)). IsChanged a (λ rs. rs) xs ys) c.deref_mut.ensures.value c.in_err-start.ensures.err in
    let items = with_items_is i.actors ys (omega (arith, c.split_region.auto.spaces, c.deref_mut.ensures.len)) in
    let seen = ap regions_in items ∙ changed_same a i.actors.items ys e in
    let made = ap length c.reserve.ensures.items in
    err_all c.from_residual-in_err-start.result
    (subst (λ (t : Actors). (record { page_bytes = i.page; actors = regions_in (Rattle.std.specs.Vec.with_items i.actors ys).items; regions_made = length c.reserve.new.self.items }) ≡ t) c.self.view_is
    (λ j. record { page_bytes = i.page; actors = seen j; regions_made = made j }))

pub invariant_of-self-2 : goal.invariant_of-self-2
invariant_of-self-2 c =
    let i = c.self.inside in
    let n = c.args.region.0 in
    let s : RegionStatus = c.args.status in
    let xs = i.actors.items in
    let ys = c.split_region.new.spaces in
    let fresh : ℕ = c.next_region-fresh.result.0 in
    let cut : ℕ → Region → List Region = λ page. split_at page c.args.pages fresh in
    let by : ℕ → Actor → Actor = λ page. replace_region n (cut page) in
    let t = told_inside c.self.inside c.args.self.now c.self.view_is n s c.requires.told in
    let items = with_items_is i.actors ys (omega (arith, c.split_region.auto.spaces, c.deref_mut.ensures.len)) in
    let change = subst (λ (zs : List (Option AddressSpace)). (u : AddressSpace) → numbered zs s.actor.0 ≡ Some u → IsChanged s.actor.0 (by u.page_bytes) zs ys) c.deref_mut.ensures.value c.in_ok-start.ensures.ok in
    let e : IsChanged s.actor.0 (by i.page) xs (Rattle.std.specs.Vec.with_items i.actors ys).items =
    subst (IsChanged s.actor.0 (by i.page) xs) (sym items) (told_page n xs s t i.page i.owners.items by ys c.self.invariant.kept change) in
    let after : c.push_reserved.new.self.items ≡ i.owners.items ++ s.actor ∷ [] = c.push_reserved.ensures.items ∙ ap (λ (os : List ActorId). os ++ s.actor ∷ []) c.reserve.ensures.items in
    let start : c.in_ok-start.start ≡ t.region.start + i.page * c.args.pages =
    told_back n xs s t i.page i.owners.items c.args.pages c.in_ok-start.start c.self.invariant.kept
    (subst (λ (zs : List (Option AddressSpace)). (u : AddressSpace) → numbered zs s.actor.0 ≡ Some u → IsSomeAnd (region_among n u.regions) (λ r. c.in_ok-start.start ≡ r.start + u.page_bytes * c.args.pages)) c.deref_mut.ensures.value c.in_ok-start.ensures.address) in
    let starts : c.push_reserved-2.new.self.items ≡ i.starts.items ++ (t.region.start + i.page * c.args.pages) ∷ [] =
    c.push_reserved-2.ensures.items ∙ (λ j. c.reserve-2.ensures.items j ++ start j ∷ []) in
    let number : fresh ≡ length i.owners.items + 1 = subst (λ (a : Actors). fresh ≡ a.regions_made + 1) (sym c.self.view_is) c.next_region-fresh.ensures in
    let few : length i.owners.items < MOST_MADE = subst (λ (a : Actors). a.regions_made < MOST_MADE) (sym c.self.view_is) c.requires.few in
    sound_more i _ c.self.invariant refl refl s.actor (back_of i.page c.args.pages fresh t.region) (by i.page) e after starts few number
    (λ P new h. all_replaced (λ r. P r.number r.start) n (cut i.page) t.region e.space.regions (told_among n xs s t e.space e.here) (both P t.region i.page fresh new) h)
    (λ k. times_split (is_numbered k) n i.page c.args.pages fresh t.region e.space.regions refl (told_among n xs s t e.space e.here))
    (λ k. times_split (λ (x : Region). x.cache == k) n i.page c.args.pages fresh t.region e.space.regions refl (told_among n xs s t e.space e.here))
    (λ k. c.add.ensures k ∙ ap (λ (u : RegionStatus). count_of i.mapped k + one_for u.mapping.extent.cache.0 k) t.told)
  where
    both : (P : ℕ → ℕ → Type 0) (r : Region) (page fresh : ℕ) → P fresh (r.start + page * c.args.pages) → P r.number r.start → All (λ (x : Region). P x.number x.start) (split_at page c.args.pages fresh r)
    both P r page fresh new old =
        let back = back_of page c.args.pages fresh r in
        let Q : Region → Type 0 = λ x. P x.number x.start in
        All-cons Q (record r { pages = c.args.pages }) (back ∷ []) old (All-cons Q back [] new (All-nil Q))

pub returns-clause-ok : goal.returns-clause-ok
returns-clause-ok c =
    let i = c.self.inside in
    let n = c.args.region.0 in
    let s : RegionStatus = c.args.status in
    let xs = i.actors.items in
    let ys = c.split_region.new.spaces in
    let fresh : ℕ = c.next_region-fresh.result.0 in
    let by : ℕ → Actor → Actor = λ page. replace_region n (split_at page c.args.pages fresh) in
    let t = told_inside c.self.inside c.args.self.now c.self.view_is n s c.requires.told in
    let items = with_items_is i.actors ys (omega (arith, c.split_region.auto.spaces, c.deref_mut.ensures.len)) in
    let change = subst (λ (zs : List (Option AddressSpace)). (u : AddressSpace) → numbered zs s.actor.0 ≡ Some u → IsChanged s.actor.0 (by u.page_bytes) zs ys) c.deref_mut.ensures.value c.in_ok-start.ensures.ok in
    let e : IsChanged s.actor.0 (by i.page) xs ys = told_page n xs s t i.page i.owners.items by ys c.self.invariant.kept change in
    let after : c.push_reserved.new.self.items ≡ i.owners.items ++ s.actor ∷ [] = c.push_reserved.ensures.items ∙ ap (λ (os : List ActorId). os ++ s.actor ∷ []) c.reserve.ensures.items in
    let number : fresh ≡ length i.owners.items + 1 = subst (λ (a : Actors). fresh ≡ a.regions_made + 1) (sym c.self.view_is) c.next_region-fresh.ensures in
    let made : length c.push_reserved.new.self.items ≡ length i.owners.items + 1 = omega (arith, ap length after, length-append i.owners.items (s.actor ∷ [])) in
    let seen = ap regions_in items ∙ told_becomes n xs s t (split_at i.page c.args.pages fresh) ys e
    ∙ ap (λ (k : ℕ). replace_in n (split_at i.page c.args.pages k) (regions_in xs)) number in
    subst (λ (a : Actors). (record { page_bytes = i.page; actors = regions_in (Rattle.std.specs.Vec.with_items i.actors ys).items; regions_made = length c.push_reserved.new.self.items }) ≡ with_split a n c.args.pages) c.self.view_is
    (λ j. record { page_bytes = i.page; actors = seen j; regions_made = made j })

pub invariant_of-self : goal.invariant_of-self
invariant_of-self c = sound_still c.self.inside _ c.self.invariant refl refl refl c.reserve.ensures.items refl (λ n. refl)

pub invariant_of-self-in_err-reserve-2 : goal.invariant_of-self-in_err-reserve-2
invariant_of-self-in_err-reserve-2 c = sound_still c.self.inside _ c.self.invariant refl refl refl c.reserve.ensures.items c.reserve-2.ensures.items (λ n. refl)
