use Rattle.std.proofs.Common.{◌≡◌, true, not, ℕ, List, Ok, Err, ap, arith, length, subst, sym, ◌∙◌}
use Rattle.std.proofs.result.Match.{err_is}
use Rattle.std.specs.Prelude.{IfSome, IsSome}
use Rattle.std.specs.List.{list_any, range_with_len}
use Rattle.vm_ids.specs.Held.{segments_in}
use Rattle.vm_model.specs.Place.{place}
use Rattle.std.proofs.lemmas.Bool.{not-false, not-true}
use Rattle.vm_ids.specs.declared.command.Command.TheVariants as commands
use Rattle.vm_ids.specs.declared.refusal.Refusal.TheVariants as refusals
use Rattle.vm_ids.specs.declared.reply.Reply.TheVariants as replies
use Rattle.gmi_calls.specs.Parking.{AccessCall}
use Rattle.gmi_calls.specs.Reaching.{NoPages}
use Rattle.flat_mm.specs.Accessing.{IsPlacedAt, place_at}
use Rattle.flat_mm.specs.Manager.{IsValid, Manager, flat, machine_in}
use Rattle.flat_mm.specs.Store.{Page, Store, with_page}
use Rattle.flat_mm.specs.Store as store
use Rattle.vm_model.specs.Answering.{is_denied_page, overwrite}
use Rattle.flat_mm.proofs.Accesses.{IsPageAt, page_is, page_there, page_within, sound_put, store_protected, store_refused}
use Rattle.flat_mm.proofs.Storing.{store_denied, store_failed, store_granted, store_quiet}
use Rattle.flat_mm.proofs.manager.FlatMm.store.Given.{Over}
use Rattle.flat_mm.proofs.manager.FlatMm.store.Goals.{After-write, In_ok-at}
use Rattle.flat_mm.proofs.manager.FlatMm.store.Goals as goal

pub returns-in_err-at : goal.returns-in_err-at
returns-in_err-at g c =
    rw (err_is c.from_residual.result _ c.from_residual.ensures.1)
    (store_quiet g.M.Mapper c.args.actor c.args.address c.args.piece.now c.args.mapper.now c.args.self.now c.in_err-at.field-0.0 c.requires.valid
    (λ h. store_refused (machine_in c.args.self.now) c.args.actor.0 c.args.address c.args.piece.now h c.in_err-at.field-0.0 (subst (λ (b : List ℕ). place (machine_in c.args.self.now) c.args.actor.0 c.args.address (length b) ≡ Err c.in_err-at.field-0.0) c.as_slice-bytes.ensures.bytes c.in_err-at.ensures.refused)))

-- the place that was found
found : (g : Over) (c : In_ok-at g) → IsPlacedAt c.args.self.now c.args.actor.0 c.args.address (length c.args.piece.now) c.in_ok-at.at
found g c = subst (λ (b : List ℕ). IsPlacedAt c.args.self.now c.args.actor.0 c.args.address (length b) c.in_ok-at.at) c.as_slice-bytes.ensures.bytes c.in_ok-at.ensures.found

pub returns-then-not-at : goal.returns-then-not-at
returns-then-not-at g c =
    let F = found g (goal.at.returns-then-not-at g c).In_ok-at in
    store_quiet g.M.Mapper c.args.actor c.args.address c.args.piece.now c.args.mapper.now c.args.self.now refusals.Protection c.requires.valid
    (λ h. store_protected (machine_in c.args.self.now) c.args.actor.0 c.args.address c.args.piece.now h (place_at F.region c.in_ok-at.at) F.is (not-true c.in_ok-at.at.prot.write c.if-not-at.true))

pub may_change-requires-clause-within : goal.may_change-requires-clause-within
may_change-requires-clause-within g c = page_within c.args.self.now.store c.in_ok-at.at.cache.0 c.in_ok-at.at.page.0 (found g (goal.at.may_change-requires-clause-within g c).In_ok-at).there

pub returns-in-Ok-false : goal.returns-in-Ok-false
returns-in-Ok-false g c =
    let F = found g (goal.at.returns-in-Ok-false g c).In_ok-at in
    let E = c.in-Ok-false.ensures in
    store_denied g.M.Mapper c.args.actor c.args.address c.args.piece.now _ _ c.args.self.now _ c.in_ok-at.at F (not-false c.in_ok-at.at.prot.write c.if-not-at.false) E.asked c.requires.valid c.in-Ok-false.field-0 c.in-Ok-false.field-0-test E.named E.answer

pub returns-in-Err : goal.returns-in-Err
returns-in-Err g c =
    let F = found g (goal.at.returns-in-Err g c).In_ok-at in
    let E = c.in-Err.ensures in
    store_failed g.M.Mapper c.args.actor c.args.address c.args.piece.now _ _ c.args.self.now _ c.in_ok-at.at F (not-false c.in_ok-at.at.prot.write c.if-not-at.false) E.asked c.requires.valid E.asked.reached.failed E.fault.0

pub write-requires-clause-there : goal.write-requires-clause-there
write-requires-clause-there g c = subst (λ (p : Manager). IsSome (store.page_at p.store.caches c.in_ok-at.at.cache.0 c.in_ok-at.at.page.0)) (sym c.self.view_is) c.in_ok-at.ensures.found.there

pub write-requires-clause-within : goal.write-requires-clause-within
write-requires-clause-within g c = omega (arith, c.in_ok-at.ensures.found.within, ap (λ (p : Manager). p.store.page_bytes) c.self.view_is)

-- the page that is written
page : (g : Over) (c : After-write g) → (p : Page) × IsPageAt c.self.inside.store.caches c.in_ok-at.at.cache.0 c.in_ok-at.at.page.0 p
page g c =
    page_there c.self.inside.store.caches c.in_ok-at.at.cache.0 c.in_ok-at.at.page.0
    (subst (λ (p : Manager). IsSome (store.page_at p.store.caches c.in_ok-at.at.cache.0 c.in_ok-at.at.page.0)) (sym c.self.view_is) c.in_ok-at.ensures.found.there)

pub invariant_of-self : goal.invariant_of-self
invariant_of-self g c =
    let i = c.self.inside in
    let P = page g c in
    sound_put i.store i.contexts i.actors c.self.invariant c.in_ok-at.at.cache.0 c.in_ok-at.at.page.0 P.0 _ P.1 c.write.new.self (c.write.ensures.written P.0 (page_is i.store c.in_ok-at.at.cache.0 c.in_ok-at.at.page.0 P.0 P.1)) c.write.ensures.whole

pub returns : goal.returns
returns g c =
    let i = c.self.inside in
    let at = c.in_ok-at.at in
    let E = c.in-Ok-true.ensures in
    let old : Manager = record { store = i.store; actors = i.contexts } in
    let held = g.M.Mapper.held c.args.mapper.now in
    let F = subst (λ (p : Manager). IsPlacedAt p c.args.actor.0 c.args.address (length c.args.piece.now) at) (sym c.self.view_is) (found g (goal.at.returns g c).In_ok-at) in
    let valid = subst (λ (p : Manager). IsValid p held) (sym c.self.view_is) c.requires.valid in
    let answer = subst (λ (p : Manager). IfSome held (λ h. c.in-Ok-true.field-0 ≡ not (list_any (is_denied_page (machine_in p) (segments_in h) at.cache.0) (range_with_len at.page.0 1)))) (sym c.self.view_is) E.answer in
    let P = page g c in
    let is = c.write.ensures.written P.0 (page_is i.store at.cache.0 at.page.0 P.0 P.1) ∙ ap (λ (b : List ℕ). with_page at.cache.0 at.page.0 (record { bytes = overwrite at.at b P.0.bytes; changed = true }) i.store) c.as_slice-bytes.ensures.bytes in
    subst (λ (p : Manager). AccessCall g.M.Mapper flat NoPages c.args.mapper.now p (commands.Store c.args.actor c.args.address c.args.piece.now) (Ok replies.Done) c.may_change.new.mapper (record { store = c.write.new.self; actors = i.contexts })) c.self.view_is
    (store_granted g.M.Mapper c.args.actor c.args.address c.args.piece.now _ _ old _ at F (not-false at.prot.write c.if-not-at.false) E.asked valid i.actors c.self.invariant c.in-Ok-true.field-0 c.in-Ok-true.field-0-test answer P.0 P.1 c.write.new.self is c.write.ensures.whole)
