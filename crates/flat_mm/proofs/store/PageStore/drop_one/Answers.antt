use Rattle.std.proofs.Common.{◌∙◌, ◌+◌, ◌-◌, ap, length, sym, subst, take}
use Rattle.frame_pool.specs.Pool.{Frames}
use Rattle.flat_mm.specs.Layout.{IsFramed, store_shown}
use Rattle.flat_mm.specs.Store.{Store}
use Rattle.flat_mm.proofs.Loosening.{gave_seen, gave_sound}
use Rattle.flat_mm.proofs.store.PageStore.drop_one.Goals as goal

pub invariant_of-self : goal.invariant_of-self
invariant_of-self c =
    let i = c.self.inside in
    subst (λ (f : Frames). IsFramed f i.caches.items c.pop.new.self.items) (sym c.give_back.ensures) (gave_sound i.frames i.caches.items i.loose.items c.self.invariant c.pop.new.self.items c.in-Some.page c.in-Some.ensures.items)

pub returns : goal.returns
returns c =
    let i = c.self.inside in
    ap (λ (f : Frames). store_shown f i.caches.items c.pop.new.self.items) c.give_back.ensures
    ∙ gave_seen i.frames i.caches.items i.loose.items c.self.invariant c.pop.new.self.items c.in-Some.page c.in-Some.ensures.items
    ∙ ap (λ (s : Store). record s { free = s.free + 1; loose = take (length s.loose - 1) s.loose }) c.self.view_is
