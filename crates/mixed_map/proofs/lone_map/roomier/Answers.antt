use Rattle.std.proofs.Common.{◌≡◌, ap, ◌∙◌, arith}
use Rattle.slab.specs.Slab.{slab_len}
use Rattle.mixed_map.proofs.Clones.{same_slots}
use Rattle.mixed_map.proofs.lone_map.roomier.Goals as goal

pub returns : goal.returns
returns g c =
    let clone = c.in_ok-more.ensures.cases in
    let slots = same_slots g.S.Clone.is_clone g.met.S.Same.same c.args.slots.now c.in_ok-more.more clone in
    let rest = c.in_ok-reserve_exact.ensures.rest_kept in
    let many = ap slab_len rest in
    let exact : c.reserve_exact.new.self.capacity ≡ c.args.room = omega (arith, many, c.len.ensures, c.saturating_sub.ensures, c.in_ok-reserve_exact.ensures.room, c.capacity.ensures.value, c.if-capacity-total.false) in
    rest ∙ (λ i. record { slots = slots i; vacant_key = clone.vacant_key i; capacity = exact i })
