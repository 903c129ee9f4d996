use Rattle.std.proofs.Common.{◌≡◌, List, ℕ, Some, Ok, Err, ap, arith, drop, refl, subst, sym, take, ◌∙◌}
use Rattle.std.proofs.result.Match.{err_is}
use Rattle.std.specs.Prelude.{IsSome, option_map}
use Rattle.vm_ids.specs.declared.command.Command.TheVariants as commands
use Rattle.vm_ids.specs.declared.reply.Reply.TheVariants as replies
use Rattle.vm_ids.specs.declared.reply.Trouble.TheVariants as troubles
use Rattle.vm_model.specs.Answering.{page_at, reply}
use Rattle.gmi_calls.proofs.Called.{eager_quiet}
use Rattle.flat_mm.specs.Accessing.{place_at}
use Rattle.flat_mm.specs.Manager.{Manager, machine_in}
use Rattle.flat_mm.specs.Store.{Page}
use Rattle.flat_mm.specs.Store as store
use Rattle.flat_mm.proofs.Accesses.{load_refused, load_row, page_is, page_seen, page_there}
use Rattle.flat_mm.proofs.Acting.{fits_less}
use Rattle.flat_mm.proofs.Calls.{flat_access}
use Rattle.flat_mm.proofs.manager.FlatMm.load.Goals as goal

pub bytes-page-requires : goal.bytes-page-requires
bytes-page-requires g c = subst (λ (p : Manager). IsSome (store.page_at p.store.caches c.in_ok-at.at.cache.0 c.in_ok-at.at.page.0)) (sym c.self.view_is) c.in_ok-at.ensures.found.there

pub part-requires-clause-within : goal.part-requires-clause-within
part-requires-clause-within g c = omega (arith, c.in_ok-at.ensures.found.within, ap (λ (p : Manager). p.store.page_bytes) c.self.view_is, c.bytes-page.ensures.length)

pub returns-in_err-at-clause-call : goal.returns-in_err-at-clause-call
returns-in_err-at-clause-call g c =
    let p = c.args.self.now in
    let m = machine_in p in
    let command = commands.Load c.args.actor c.args.address c.args.bytes in
    let answer = Err (troubles.Refused c.in_err-at.field-0.0) in
    rw (err_is c.from_residual.result _ c.from_residual.ensures.1)
    (flat_access g.M.Mapper c.args.mapper.now c.args.mapper.now p p command answer (fits_less p p command answer (λ m next. refl) (omega arith)) c.requires.valid.kept
    (eager_quiet g.M.Mapper c.args.mapper.now m m command answer tt c.requires.valid.ready c.requires.valid.ready.whole (λ h. load_refused m c.args.actor.0 c.args.address c.args.bytes c.in_err-at.field-0.0 c.in_err-at.ensures.refused) tt))

pub returns-clause-call : goal.returns-clause-call
returns-clause-call g c =
    let p = c.args.self.now in
    let m = machine_in p in
    let at = c.in_ok-at.at in
    let F = c.in_ok-at.ensures.found in
    let command = commands.Load c.args.actor c.args.address c.args.bytes in
    let P = page_there p.store.caches at.cache.0 at.page.0 F.there in
    let bytes : Some P.0.bytes ≡ Some c.bytes-page.result.now =
    ap (option_map (λ (x : Page). x.bytes)) (sym (page_is p.store at.cache.0 at.page.0 P.0 P.1) ∙ ap (λ (q : Manager). store.page_at q.store.caches at.cache.0 at.page.0) (sym c.self.view_is)) ∙ c.bytes-page.ensures.bytes in
    let same : P.0.bytes ≡ c.bytes-page.result.now = cc bytes in
    let seen = page_seen p.store at.cache.0 at.page.0 P.0 P.1 m (place_at F.region at) refl refl refl in
    let piece : take c.args.bytes (drop at.at (page_at m (place_at F.region at))) ≡ c.part.result = ap (λ (b : List ℕ). take c.args.bytes (drop at.at b)) (seen ∙ same) ∙ sym c.part.ensures.part in
    flat_access g.M.Mapper c.args.mapper.now c.args.mapper.now p p command (Ok (replies.Bytes c.part.result)) (fits_less p p command (Ok (replies.Bytes c.part.result)) (λ m next. refl) (omega arith)) c.requires.valid.kept
    (eager_quiet g.M.Mapper c.args.mapper.now m m command (Ok (replies.Bytes c.part.result)) tt c.requires.valid.ready c.requires.valid.ready.whole
    (λ h. load_row m c.args.actor.0 c.args.address c.args.bytes (place_at F.region at) F.is ∙ ap (λ b. reply (replies.Bytes b) m) piece) tt)
