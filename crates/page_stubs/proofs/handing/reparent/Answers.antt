use Rattle.std.proofs.Common.{◌≡◌, ◌<◌, ◌+◌, ℕ, take, drop, true, Option, Some, None, IsSome, refl, sym, subst, ◌∙◌, add-one}
use Rattle.vm_ids.specs.declared.numbers.NodeId.{NodeId}
use Rattle.local_cache.specs.declared.links.Ends.{Ends}
use Rattle.local_cache.specs.declared.links.Neighbours.{Neighbours}
use Rattle.local_cache.specs.Arena.{Arena, cell, HasNode, with_links}
use Rattle.local_cache.specs.NodeCells.{ends_of, neighbours_of}
use Rattle.local_cache.specs.Reading.{stubs_of}
use Rattle.local_cache.specs.Threads.{head_or}
use Rattle.local_cache.specs.Sound.{IsKept}
use Rattle.local_cache.specs.Changes.{Once}
use Rattle.page_stubs.specs.Handing.{Handed}
use Rattle.page_stubs.proofs.Lists.Handing.{next_is, held_y, turn}
use Rattle.page_stubs.proofs.handing.reparent.Goals as goal

module _ (a b : Arena) (from to : NodeId) (ends : Ends) (i : ℕ) (o : Option NodeId) (kept : IsKept a) (hf : HasNode a from) (once : Once (stubs_of a from)) (e : ends ≡ ends_of (cell a from).links) (within : i < ends.stubs)
    (h : Handed a b (take i (stubs_of a from)) to) (next : o ≡ head_or (drop i (stubs_of a from)) None) where
  inside : i < (cell a from).links.stubs
  inside = subst (λ (l : Ends). i < l.stubs) e within

  there_is : IsSome o
  there_is = subst IsSome (sym (next ∙ next_is a b kept from to hf once i inside h)) refl

  held_at : (k : NodeId) → o ≡ Some k → HasNode b k
  held_at k is =
      let n = next_is a b kept from to hf once i inside h in
      let two : Some _ ≡ Some k = sym n ∙ sym next ∙ is in
      subst (HasNode b) (cc two) (held_y a b kept from to hf once i inside h)

  kept_on : (c : Arena) (k : NodeId) (m : Neighbours) → o ≡ Some k → m ≡ neighbours_of (cell b k).links
      → c ≡ with_links b k (record (cell b k).links { parent = Some to; by_stub = true; before = m.before; behind = m.behind })
      → Handed a c (take (i + 1) (stubs_of a from)) to × (m.behind ≡ head_or (drop (i + 1) (stubs_of a from)) None)
  kept_on c k m is m_is c_is =
      let t = turn a b kept from to hf once i inside h c k m o next is m_is c_is in
      rw add-one t

pub neighbours-beside-requires : goal.neighbours-beside-requires
neighbours-beside-requires c = let r = c.requires in held_at c.args.caches.now c.loop-i.caches c.args.from c.args.to _ c.loop-i.i c.loop-i.at r.kept r.from r.once c.ends-ends.ensures c.loop-i-test.true c.loop-i.invariant.handed c.loop-i.invariant.next c.unwrap-y.result c.unwrap-y.ensures

pub set_place-requires : goal.set_place-requires
set_place-requires c = let r = c.requires in held_at c.args.caches.now c.loop-i.caches c.args.from c.args.to _ c.loop-i.i c.loop-i.at r.kept r.from r.once c.ends-ends.ensures c.loop-i-test.true c.loop-i.invariant.handed c.loop-i.invariant.next c.unwrap-y.result c.unwrap-y.ensures

pub unwrap-y-requires : goal.unwrap-y-requires
unwrap-y-requires c = let r = c.requires in there_is c.args.caches.now c.loop-i.caches c.args.from c.args.to _ c.loop-i.i c.loop-i.at r.kept r.from r.once c.ends-ends.ensures c.loop-i-test.true c.loop-i.invariant.handed c.loop-i.invariant.next

pub loop-i-preserved : goal.loop-i-preserved
loop-i-preserved c =
    let r = c.requires in
    let t = kept_on c.args.caches.now c.loop-i.caches c.args.from c.args.to _ c.loop-i.i c.loop-i.at r.kept r.from r.once c.ends-ends.ensures c.loop-i-test.true c.loop-i.invariant.handed c.loop-i.invariant.next _ c.unwrap-y.result _ c.unwrap-y.ensures c.neighbours-beside.ensures c.set_place.ensures.changed in
    record { handed = t.0; next = t.1 }
