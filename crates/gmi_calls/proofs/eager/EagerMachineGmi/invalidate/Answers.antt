use Rattle.std.proofs.Common.{◌≡◌, ℕ, List, Vec, Global, Ok, Err, length, map, refl, sym, ap, subst, ◌∙◌, arith}
use Rattle.std.proofs.result.Match.{err_is}
use Rattle.std.proofs.lemmas.List.{length-map, with_items_is}
use Rattle.std.specs.Prelude.{All, IfSome}
use Rattle.std.specs.Vec.{with_items}
use Rattle.vm_ids.specs.Counting.{MapperCounts}
use Rattle.vm_ids.specs.declared.command.Command.TheVariants as commands
use Rattle.vm_ids.specs.declared.reply.FaultAt.TheVariants as faults
use Rattle.vm_ids.specs.declared.reply.Reply.TheVariants.{Done}
use Rattle.vm_ids.specs.declared.reply.Trouble.TheVariants as troubles
use Rattle.vm_model.proofs.Parts.Naming.{segment_names}
use Rattle.gmi_calls.specs.Backing.{IsReady}
use Rattle.gmi_calls.specs.Reaching.{ArePagesOf}
use Rattle.gmi_calls.proofs.Accessing.{asked_pages}
use Rattle.gmi_calls.proofs.Called.{OutcomeFor, call_reached, eager_call, eager_left, fault_for, ready_after}
use Rattle.gmi_calls.proofs.Opening.{fit_pages, seen_fits, taken_for, zeros_many, zeros_whole}
use Rattle.gmi_calls.proofs.eager.EagerMachineGmi.invalidate.Given.{Over}
use Rattle.gmi_calls.proofs.eager.EagerMachineGmi.invalidate.Goals.{After-invalidate, After-pull_pages}
use Rattle.gmi_calls.proofs.eager.EagerMachineGmi.invalidate.Goals as goal

pub returns-in_err-seg : goal.returns-in_err-seg
returns-in_err-seg g c =
    let m = c.args.self.now in
    rw (err_is c.from_residual.result _ c.from_residual.ensures.1)
    (eager_left g.M.Mapper _ m m (commands.Invalidate c.args.extent) (Err c.in_err-seg.field-0.0) tt c.requires.valid c.requires.valid.whole c.in_err-seg.ensures.refused tt)

pub returns-in_err-pages : goal.returns-in_err-pages
returns-in_err-pages g c =
    let m = c.args.self.now in
    let command = commands.Invalidate c.args.extent in
    rw (err_is c.from_residual-in_err-pages.result _ c.from_residual-in_err-pages.ensures.1)
    (eager_left g.M.Mapper _ m m command (Err troubles.Memory) tt c.requires.valid c.requires.valid.whole (λ s. (refl, tt, c.in_ok-seg.ensures.awaits.allowed s refl)) tt)

pub pull_pages-requires-clause-room : goal.pull_pages-requires-clause-room
pull_pages-requires-clause-room g c =
    let m = c.args.self.now in
    let room = c.in_ok-pages.pages in
    fit_pages (g.M.Mapper.page_bytes c.args.mapper.now) m c.deref_mut.result.now (seen_fits (g.M.Mapper.page_bytes c.args.mapper.now) (g.M.Mapper.held c.args.mapper.now) m c.requires.fits)
    (subst (λ (vs : List (Vec ℕ Global)). All (λ (p : Vec ℕ Global). length p.items ≡ m.page_bytes) vs) (sym c.deref_mut.ensures.value) (zeros_whole room.items c.args.extent.pages m.page_bytes c.in_ok-pages.ensures))

pub pull_pages-requires-clause-there : goal.pull_pages-requires-clause-there
pull_pages-requires-clause-there g c =
    let m = c.args.self.now in
    let e = c.args.extent in
    let many : length c.deref_mut.result.now ≡ e.pages = ap length c.deref_mut.ensures.value ∙ zeros_many c.in_ok-pages.pages.items e.pages m.page_bytes c.in_ok-pages.ensures in
    asked_pages m e.cache.0 c.in_ok-seg.seg.0 e.first.0 (length c.deref_mut.result.now) _ c.in_ok-seg.ensures.segment (omega (arith, c.in_ok-seg.ensures.within, many)) c.requires.valid

-- the pages, after they were pulled
pulled : (g : Over) (c : After-pull_pages g) → (with_items c.in_ok-pages.pages c.pull_pages.new.pages).items ≡ c.pull_pages.new.pages
pulled g c = with_items_is c.in_ok-pages.pages c.pull_pages.new.pages (c.pull_pages.ensures.many ∙ ap length c.deref_mut.ensures.value ∙ sym c.in_ok-pages.pages.ok.0)

pub invalidate-requires-clause-whole : goal.invalidate-requires-clause-whole
invalidate-requires-clause-whole g c =
    let bytes = c.args.self.now.page_bytes in
    let whole : All (λ (p : Vec ℕ Global). length p.items ≡ bytes) c.pull_pages.new.pages =
    c.pull_pages.ensures.whole bytes (subst (λ (vs : List (Vec ℕ Global)). All (λ (p : Vec ℕ Global). length p.items ≡ bytes) vs) (sym c.deref_mut.ensures.value) (zeros_whole c.in_ok-pages.pages.items c.args.extent.pages bytes c.in_ok-pages.ensures)) in
    subst (λ (vs : List (Vec ℕ Global)). All (λ (p : Vec ℕ Global). length p.items ≡ bytes) vs) (sym (pulled g (goal.at.invalidate-requires-clause-whole g c).After-pull_pages)) whole

-- are taken
taken : (g : Over) (c : After-invalidate g) (rises : MapperCounts) → OutcomeFor (g.M.Mapper.held c.args.mapper.now) c.args.self.now (commands.Invalidate c.args.extent) (Ok Done) c.invalidate.new.self rises
taken g c rises =
    let m = c.args.self.now in
    let e = c.args.extent in
    let told = g.M.Mapper.held c.args.mapper.now in
    let room = c.in_ok-pages.pages in
    let new = c.pull_pages.new.pages in
    let is = pulled g (goal.at.After-invalidate g c).After-pull_pages in
    let pages : List (List ℕ) = map (λ p. p.items) (with_items room new).items in
    let count : length pages ≡ e.pages = length-map (with_items room new).items (λ p. p.items) ∙ ap length is ∙ c.pull_pages.ensures.many ∙ ap length c.deref_mut.ensures.value ∙ zeros_many room.items e.pages m.page_bytes c.in_ok-pages.ensures in
    let are = subst (λ (vs : List (Vec ℕ Global)). IfSome told (ArePagesOf c.in_ok-seg.seg.0 e.first.0 (map (λ p. p.items) vs))) (sym is) c.in-Ok.ensures.pulled in
    taken_for told told m c.invalidate.new.self (commands.Invalidate e) (Ok Done) e.cache.0 c.in_ok-seg.seg.0 e.first.0 e.pages pages rises refl c.requires.valid c.in_ok-seg.ensures.segment c.in_ok-seg.ensures.within count are c.invalidate.ensures.outcome

pub returns-in-Ok : goal.returns-in-Ok
returns-in-Ok g c =
    let told = g.M.Mapper.held c.args.mapper.now in
    let m = c.args.self.now in
    let next = c.invalidate.new.self in
    let command = commands.Invalidate c.args.extent in
    let E = c.in-Ok.ensures in
    let o = taken g (goal.at.returns-in-Ok g c).After-invalidate E.reached.rises in
    eager_call g.M.Mapper _ _ m next command (Ok Done) (subst (IsReady next) (sym E.held) (ready_after told m next command (Ok Done) E.reached.rises c.requires.valid c.invalidate.ensures.whole o))
    (call_reached told _ _ _ m next command (Ok Done) _ E.held E.reached c.requires.valid.whole c.invalidate.ensures.whole tt o tt) tt E.page

pub returns-in-Err : goal.returns-in-Err
returns-in-Err g c =
    let m = c.args.self.now in
    let command = commands.Invalidate c.args.extent in
    let told = g.M.Mapper.held c.args.mapper.now in
    let E = c.in-Err.ensures in
    let named = segment_names m c.args.extent.cache.0 c.in_ok-seg.seg.0 c.in_ok-seg.ensures.segment in
    eager_call g.M.Mapper _ _ m m command (Err (troubles.Mapper (faults.Save 0))) (subst (IsReady m) (sym E.held) c.requires.valid)
    (call_reached told _ _ _ m m command (Err (troubles.Mapper (faults.Save 0))) _ E.held E.reached c.requires.valid.whole c.requires.valid.whole tt
    (fault_for told m command (faults.Save 0) E.reached.rises E.reached.failed (λ s. (named, refl)) (λ s. c.in_ok-seg.ensures.awaits.allowed s refl)) tt) tt E.page
