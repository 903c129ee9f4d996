use Rattle.std.proofs.Common.{◌≡◌, ◌∙◌, ◌≤◌, ◌^◌, ap, arith, length, sym, List, Option, Some}
use Rattle.std.specs.Prelude.{option_map}
use Rattle.vm_model.specs.Machine.{numbered}
use Rattle.flat_mm.specs.Frames.{Framed}
use Rattle.flat_mm.specs.Store.{Cache, Store}
use Rattle.flat_mm.proofs.Framing.{size_few, size_seen}
use Rattle.flat_mm.proofs.store.PageStore.size.Goals.{After-size}
use Rattle.flat_mm.proofs.store.PageStore.size.Goals as goal

-- the cache that was found
found : (c : After-size) → numbered c.self.inside.caches.items c.args.cache.0 ≡ Some c.in_ok-numbered.field-0.now
found c = let e = c.in_ok-numbered.ensures in sym (e ∙ ap (λ (cs : List (Option Framed)). numbered cs c.args.cache.0) c.deref.ensures.value)

few : (c : After-size) → c.size.result ≤ 2 ^ 16
few c = omega (arith, c.size.ensures, size_few c.self.inside.frames c.self.inside.caches.items c.self.inside.loose.items c.self.invariant c.args.cache.0 c.in_ok-numbered.field-0.now (found c))

pub overflow_cast-result : goal.overflow_cast-result
overflow_cast-result c = omega (arith, few c)

pub returns-clause-size : goal.returns-clause-size
returns-clause-size c =
    ap (λ n. Some n) c.size.ensures
    ∙ sym (ap (λ (s : Store). option_map (λ (c : Cache). length c.pages) (numbered s.caches c.args.cache.0)) (sym c.self.view_is) ∙ size_seen c.self.inside.frames c.self.inside.caches.items c.args.cache.0 ∙ ap (option_map (λ (c : Framed). length c.pages)) (found c))

pub returns-clause-few : goal.returns-clause-few
returns-clause-few c = few c
