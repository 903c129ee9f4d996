use Rattle.std.proofs.Common.{◌≡◌, None, sym, ap, ◌∙◌}
use Rattle.std.specs.FinMap as map
use Rattle.mixed_map.specs.Lone.{Lone, slot_at}
use Rattle.mixed_map.proofs.Filling.{get_seen}
use Rattle.mixed_map.proofs.lone_map.LoneMap.search.Goals as goal

pub returns-in_err-slot-clause-none : goal.returns-in_err-slot-clause-none
returns-in_err-slot-clause-none g c =
    let none : map.get c.self.inside.index.places c.args.number ≡ None = sym c.find.ensures ∙ c.in_err-slot.was in
    rw c.from_residual.ensures (
      sym (ap (λ (l : Lone _). map.get l.slots c.args.number) c.self.view_is) ∙ none,
      get_seen c.self.inside.slots c.self.inside.index.places c.args.self.now _ c.self.view_is c.args.number ∙ ap (slot_at c.self.inside.slots) none,
    )
