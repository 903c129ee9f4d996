use Rattle.std.proofs.result.Match.{err_is}
use Rattle.std.proofs.Common.{◌≡◌, ◌+◌, ◌<◌, ◌≤◌, Err, ap, arith, length, refl, sym, ◌∙◌, false}
use Rattle.std.specs.Prelude.{nat_le, nat_lt}
use Rattle.std.proofs.lemmas.Bool.Decides.{nat_tests}
use Rattle.vm_ids.specs.declared.command.Command.TheVariants as commands
use Rattle.vm_ids.specs.declared.refusal.Refusal.TheVariants as refusals
use Rattle.vm_ids.specs.declared.reply.Trouble.TheVariants as troubles
use Rattle.vm_model.specs.declared.limits.TheConstants.{LIVE_PAGES, MOST_MADE}
use Rattle.vm_model.specs.Machine.{live_pages}
use Rattle.flat_mm.specs.Manager.{Manager, machine_in, room_of}
use Rattle.flat_mm.proofs.Acting.{stayed}
use Rattle.flat_mm.proofs.Making.{few_made, made_call, made_sound, temp_full, temp_large, temp_lacks, temp_many}
use Rattle.flat_mm.proofs.manager.FlatMm.make_temp.Goals.{Else-has_made_all, Else-lacks_room, Else-passes_live_pages}
use Rattle.flat_mm.proofs.manager.FlatMm.make_temp.Goals as goal

pub returns-then-has_made_all : goal.returns-then-has_made_all
returns-then-has_made_all c =
    let i = c.self.inside in
    let old : Manager = record { store = i.store; actors = i.contexts } in
    stayed i.store i.contexts i.actors c.self.invariant c.args.self.now c.self.view_is (commands.MakeTemp c.args.pages) (record { reaches = refl; needs = λ m next. refl; said = λ m h a. tt }) (Err (troubles.Refused refusals.TooMany))
    (λ h. temp_many (machine_in old) c.args.pages (ap (λ (p : Manager). nat_le MOST_MADE (length (machine_in p).caches)) c.self.view_is ∙ sym c.if-has_made_all.ensures))

few : (c : Else-has_made_all) → nat_le MOST_MADE (length (machine_in c.args.self.now).caches) ≡ false
few c = sym c.if-has_made_all.ensures

small : (c : Else-passes_live_pages) → nat_lt LIVE_PAGES (live_pages (machine_in c.args.self.now) + c.args.pages) ≡ false
small c = sym c.if-passes_live_pages.ensures

pub returns-then-passes_live_pages : goal.returns-then-passes_live_pages
returns-then-passes_live_pages c =
    let i = c.self.inside in
    let old : Manager = record { store = i.store; actors = i.contexts } in
    stayed i.store i.contexts i.actors c.self.invariant c.args.self.now c.self.view_is (commands.MakeTemp c.args.pages) (record { reaches = refl; needs = λ m next. refl; said = λ m h a. tt }) (Err (troubles.Refused refusals.TooMany))
    (λ h. temp_large (machine_in old) c.args.pages (ap (λ (p : Manager). nat_le MOST_MADE (length (machine_in p).caches)) c.self.view_is ∙ few (goal.at.returns-then-passes_live_pages c).Else-has_made_all)
    (ap (λ (p : Manager). nat_lt LIVE_PAGES (live_pages (machine_in p) + c.args.pages)) c.self.view_is ∙ sym c.if-passes_live_pages.ensures))

pub returns-then-lacks_room : goal.returns-then-lacks_room
returns-then-lacks_room c =
    let i = c.self.inside in
    let more : room_of c.args.self.now < c.args.pages = (let e = c.if-lacks_room.ensures.room in grind (arith, nat_tests)) in
    temp_full i.store i.contexts i.actors c.self.invariant c.args.self.now c.self.view_is c.args.pages (few (goal.at.returns-then-lacks_room c).Else-has_made_all) (small (goal.at.returns-then-lacks_room c).Else-passes_live_pages)
    more

roomy : (c : Else-lacks_room) → c.args.pages ≤ c.self.inside.store.free
roomy c =
    let less : c.args.pages ≤ c.args.self.now.store.free = (let e = c.if-lacks_room.ensures.free in grind (arith, nat_tests)) in
    omega (arith, less, ap (λ (p : Manager). p.store.free) c.self.view_is)

-- and there is room for the pages
enough : (c : Else-lacks_room) → c.args.pages ≤ room_of (record { store = c.self.inside.store; actors = c.self.inside.contexts })
enough c =
    let less : c.args.pages ≤ room_of c.args.self.now = (let e = c.if-lacks_room.ensures.room in grind (arith, nat_tests)) in
    omega (arith, less, ap room_of c.self.view_is)

pub make-requires-clause-few : goal.make-requires-clause-few
make-requires-clause-few c =
    let i = c.self.inside in
    omega (arith, few_made i.store (ap (λ (p : Manager). nat_le MOST_MADE (length (machine_in p).caches)) c.self.view_is ∙ few (goal.at.make-requires-clause-few c).Else-has_made_all))

pub make-requires-clause-none : goal.make-requires-clause-none
make-requires-clause-none c = c.self.invariant.settled

pub make-requires-clause-room : goal.make-requires-clause-room
make-requires-clause-room c = roomy (goal.at.make-requires-clause-room c).Else-lacks_room

pub invariant_of-self : goal.invariant_of-self
invariant_of-self c =
    let i = c.self.inside in
    let e = c.make.ensures in
    made_sound i.store c.make.new.self i.contexts i.actors c.self.invariant c.args.pages c.make.result e.ok e.err e.whole
    (few_made i.store (ap (λ (p : Manager). nat_le MOST_MADE (length (machine_in p).caches)) c.self.view_is ∙ few (goal.at.invariant_of-self c).Else-has_made_all))

pub invariant_of-self-2 : goal.invariant_of-self-2
invariant_of-self-2 c =
    let i = c.self.inside in
    let e = c.make.ensures in
    made_sound i.store c.make.new.self i.contexts i.actors c.self.invariant c.args.pages c.make.result e.ok e.err e.whole
    (few_made i.store (ap (λ (p : Manager). nat_le MOST_MADE (length (machine_in p).caches)) c.self.view_is ∙ few (goal.at.invariant_of-self-2 c).Else-has_made_all))

pub returns : goal.returns
returns c =
    let i = c.self.inside in
    let many = few (goal.at.returns c).Else-has_made_all in
    let large = small (goal.at.returns c).Else-passes_live_pages in
    made_call i.store c.make.new.self i.contexts i.actors c.self.invariant c.args.self.now c.self.view_is c.args.pages c.in_ok-make.field-0 c.in_ok-make.ensures.number c.in_ok-make.ensures.ok c.in_ok-make.ensures.whole many large (enough (goal.at.returns c).Else-lacks_room)

pub returns-in_err-make : goal.returns-in_err-make
returns-in_err-make c =
    let i = c.self.inside in
    let many = few (goal.at.returns-in_err-make c).Else-has_made_all in
    let large = small (goal.at.returns-in_err-make c).Else-passes_live_pages in
    rw (err_is c.from_residual.result _ c.from_residual.ensures.1)
    (temp_lacks i.store c.make.new.self i.contexts i.actors c.self.invariant c.args.self.now c.self.view_is c.args.pages c.in_err-make.ensures.err many large)
