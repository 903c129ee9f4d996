use Rattle.std.proofs.result.Match.{err_is}
use Rattle.std.proofs.Common.{◌≡◌, ◌+◌, ◌-◌, ◌++◌, ◌∷◌, ◌∙◌, ◌<◌, ◌≤◌, [], Bool, Err, Ok, Option, Some, ap, arith, false, length, subst, sym, true}
use Rattle.std.specs.FinMap.{get}
use Rattle.std.specs.List.{list_any}
use Rattle.std.specs.Prelude.{Result, is_some, nat_le, nat_lt}
use Rattle.std.proofs.lemmas.Bool.Decides.{nat_tests}
use Rattle.std.proofs.lemmas.List.{length-replicate}
use Rattle.vm_ids.specs.Held.{Held}
use Rattle.vm_ids.specs.declared.command.Command.TheVariants as commands
use Rattle.vm_ids.specs.declared.numbers.SegId.{SegId}
use Rattle.vm_ids.specs.declared.refusal.Refusal.TheVariants as refusals
use Rattle.vm_ids.specs.declared.reply.FaultAt.TheVariants as faults
use Rattle.vm_ids.specs.declared.reply.Reply.TheVariants as replies
use Rattle.vm_ids.specs.declared.reply.Trouble.TheVariants as troubles
use Rattle.vm_model.specs.declared.limits.TheConstants.{LIVE_PAGES, MOST_MADE}
use Rattle.vm_model.specs.Machine.{cache_named, live_pages}
use Rattle.vm_port.specs.declared.traits.failed.Failed.{Failed}
use Rattle.gmi_calls.specs.Calling.{MapperCall}
use Rattle.gmi_calls.specs.Reaching.{Asked, Reached}
use Rattle.gmi_calls.proofs.Opening.{sized_pages}
use Rattle.gmi_calls.proofs.Rising.{asked_none, asked_then, fault_counted, one_failed, reached_one, reached_then}
use Rattle.flat_mm.specs.Extents.{ArePulled}
use Rattle.flat_mm.specs.Manager.{IsManagerSound, IsValid, Manager, flat, machine_in, room_of}
use Rattle.flat_mm.specs.Store.{Cache, Store, is_of, zeros}
use Rattle.flat_mm.proofs.Extents.{refused_call}
use Rattle.flat_mm.proofs.Filling.{IsReloosed, filled, given_up}
use Rattle.flat_mm.proofs.Opening.{adopt_call, adopt_lacks, adopt_sound, has_named, open_absent, open_failed, open_full, open_lacks, open_many, open_passes, open_used}
use Rattle.flat_mm.proofs.manager.FlatMm.open_segment.Given.{Over}
use Rattle.flat_mm.proofs.manager.FlatMm.open_segment.Goals.{Else-has, In-Err, In-Ok, In-Ok-pull_loose, In_ok-take_loose}
use Rattle.flat_mm.proofs.manager.FlatMm.open_segment.Goals as goal

named_is : (p q : Manager) → p ≡ q → (seg : SegId) (b : Bool) → b ≡ list_any (is_of seg) p.store.caches → is_some (cache_named (machine_in q).caches seg.0) ≡ b
named_is p q view seg b e = has_named seg q.store.caches ∙ ap (λ (x : Manager). list_any (is_of seg) x.store.caches) (sym view) ∙ sym e

pub returns-then-has : goal.returns-then-has
returns-then-has g c =
    let p = c.args.self.now in
    refused_call g.M.Mapper c.args.mapper.now p (commands.OpenSegment c.args.seg) refusals.SegmentInUse c.requires.valid
    (λ h. open_used (machine_in p) c.args.seg.0 (get h.pages c.args.seg.0) (named_is _ p c.self.view_is c.args.seg true c.if-has.ensures)) tt tt

pub returns-then-has_made_all : goal.returns-then-has_made_all
returns-then-has_made_all g c =
    let p = c.args.self.now in
    refused_call g.M.Mapper c.args.mapper.now p (commands.OpenSegment c.args.seg) refusals.TooMany c.requires.valid
    (λ h. open_many (machine_in p) c.args.seg.0 (get h.pages c.args.seg.0) (named_is _ p c.self.view_is c.args.seg false c.if-has.ensures) (sym c.if-has_made_all.ensures)) tt tt

pub returns-in_default : goal.returns-in_default
returns-in_default g c =
    let p = c.args.self.now in
    let E = c.size.ensures in
    let R = reached_one 0 0 _ _ c.size.result E.counts in
    open_failed g.M.Mapper c.args.mapper.now c.size.new.self p c.args.seg c.requires.valid (named_is _ p c.self.view_is c.args.seg false c.if-has.ensures) (sym c.if-has_made_all.ensures)
    c.size.result E.held R E.page (fault_counted 0 0 c.size.result c.in_default.field-0 c.in_default.is)

-- the mapper was asked for the size
asked : (g : Over) (c : In-Ok g) → Asked g.M.Mapper c.args.mapper.now c.size.new.self c.size.result
asked g c =
    let E = c.size.ensures in
    let none : Asked {E = Failed} g.M.Mapper c.args.mapper.now c.args.mapper.now (Ok (tt {0})) = asked_none g.M.Mapper c.args.mapper.now tt in
    asked_then g.M.Mapper c.args.mapper.now c.args.mapper.now c.size.new.self c.size.result c.size.result none E.held E.counts E.page (one_failed 0 0 c.size.result)

pub returns-in_default-size : goal.returns-in_default-size
returns-in_default-size g c =
    let p = c.args.self.now in
    open_absent g.M.Mapper c.args.mapper.now c.size.new.self p c.args.seg c.requires.valid (named_is _ p c.self.view_is c.args.seg false c.if-has.ensures) (sym c.if-has_made_all.ensures)
    c.in-Ok.size c.in-Ok.ensures.pages c.size.result (asked g (goal.at.returns-in_default-size g c).In-Ok) c.in_default-size.is

pub returns-then-passes_live_pages : goal.returns-then-passes_live_pages
returns-then-passes_live_pages g c =
    let p = c.args.self.now in
    open_passes g.M.Mapper c.args.mapper.now c.size.new.self p c.args.seg c.requires.valid (named_is _ p c.self.view_is c.args.seg false c.if-has.ensures) (sym c.if-has_made_all.ensures)
    c.in-Ok.size c.in-Ok.ensures.pages c.size.result (asked g (goal.at.returns-then-passes_live_pages g c).In-Ok) c.in-Some.size c.in-Some.is (sym c.if-passes_live_pages.ensures)

pub returns-then-lacks_room : goal.returns-then-lacks_room
returns-then-lacks_room g c =
    let p = c.args.self.now in
    let less : room_of p < c.in-Some.size = (let e = c.if-lacks_room.ensures.room in grind (arith, nat_tests)) in
    open_full g.M.Mapper c.args.mapper.now c.size.new.self p c.args.seg c.requires.valid (named_is _ p c.self.view_is c.args.seg false c.if-has.ensures) (sym c.if-has_made_all.ensures)
    c.in-Ok.size c.in-Ok.ensures.pages c.size.result (asked g (goal.at.returns-then-lacks_room g c).In-Ok) c.in-Some.size c.in-Some.is (sym c.if-passes_live_pages.ensures) less

pub returns-in_err-take_loose : goal.returns-in_err-take_loose
returns-in_err-take_loose g c =
    let i = c.self.inside in
    let p = c.args.self.now in
    let same : (let q : Manager = record { store = c.take_loose.new.self; actors = i.contexts } in q) ≡ p = ap (λ (s : Store). let q : Manager = record { store = s; actors = i.contexts } in q) c.in_err-take_loose.ensures.err ∙ c.self.view_is in
    rw (err_is c.from_residual.result _ c.from_residual.ensures.1)
    (subst (λ (q : Manager). MapperCall g.M.Mapper flat c.args.mapper.now p (commands.OpenSegment c.args.seg) (Err troubles.Memory) c.size.new.self q) (sym same)
    (open_lacks g.M.Mapper c.args.mapper.now c.size.new.self p c.args.seg c.requires.valid (named_is _ p c.self.view_is c.args.seg false c.if-has.ensures) (sym c.if-has_made_all.ensures)
    c.in-Ok.size c.in-Ok.ensures.pages c.size.result (asked g (goal.at.returns-in_err-take_loose g c).In-Ok) c.in-Some.size c.in-Some.is (sym c.if-passes_live_pages.ensures)))

-- as many frames were taken as the segment has pages
taken_many : (g : Over) (c : In_ok-take_loose g) → length c.take_loose.new.self.loose ≡ c.in-Some.size
taken_many g c = ap (λ (s : Store). length s.loose) c.in_ok-take_loose.ensures.ok ∙ length-replicate c.in-Some.size (zeros c.self.inside.store.page_bytes)

room : (g : Over) (c : In_ok-take_loose g) → c.in-Some.size ≤ c.self.inside.store.free
room g c =
    let less : c.in-Some.size ≤ c.args.self.now.store.free = (let e = c.if-lacks_room.ensures.free in grind (arith, nat_tests)) in
    omega (arith, less, ap (λ (p : Manager). p.store.free) c.self.view_is)

enough : (g : Over) (c : In_ok-take_loose g) → c.in-Some.size ≤ room_of (record { store = c.self.inside.store; actors = c.self.inside.contexts })
enough g c =
    let less : c.in-Some.size ≤ room_of c.args.self.now = (let e = c.if-lacks_room.ensures.room in grind (arith, nat_tests)) in
    omega (arith, less, ap room_of c.self.view_is)

pub pull_loose-requires-clause-there : goal.pull_loose-requires-clause-there
pull_loose-requires-clause-there g c =
    sized_pages (g.M.Mapper.held c.args.mapper.now) (g.M.Mapper.held c.size.new.self) c.args.seg.0 (length c.take_loose.new.self.loose) c.in-Ok.size c.size.ensures.held
    (ap (λ n. Some n) (taken_many g (goal.at.pull_loose-requires-clause-there g c).In_ok-take_loose) ∙ sym c.in-Some.is) c.in-Ok.ensures.pages

-- What is known of the manager as it was, when all pages were pulled
record IsFilled (g : Over) (c : In-Ok-pull_loose g) : Type 0 where
  free : is_some (cache_named (machine_in (record { store = c.self.inside.store; actors = c.self.inside.contexts })).caches c.args.seg.0) ≡ false
  few : nat_le MOST_MADE (length (machine_in (record { store = c.self.inside.store; actors = c.self.inside.contexts })).caches) ≡ false
  small : nat_lt LIVE_PAGES (live_pages (machine_in (record { store = c.self.inside.store; actors = c.self.inside.contexts })) + c.in-Some.size) ≡ false
  valid : IsValid (record { store = c.self.inside.store; actors = c.self.inside.contexts }) (g.M.Mapper.held c.args.mapper.now)
  reached : Reached {E = Failed} (g.M.Mapper.counts c.args.mapper.now) (g.M.Mapper.counts c.pull_loose.new.mapper) (Ok (tt {0}))
  pulled : ArePulled (g.M.Mapper.held c.args.mapper.now) c.args.seg.0 0 c.pull_loose.new.store.loose
  many : length c.pull_loose.new.store.loose ≡ c.in-Some.size
  store : c.pull_loose.new.store ≡ record c.self.inside.store { free = c.self.inside.store.free - c.in-Some.size; loose = c.pull_loose.new.store.loose }

reloosed : (g : Over) (c : In-Ok-pull_loose g) → IsReloosed c.take_loose.new.self c.pull_loose.new.store
reloosed g c = let E = c.in-Ok-pull_loose.ensures in record { many = E.many; loose = E.loose; whole = E.whole }

all_filled : (g : Over) (c : In-Ok-pull_loose g) → IsFilled g c
all_filled g c =
    let i = c.self.inside in
    let E = c.in-Ok-pull_loose.ensures in
    let taken = (goal.at.In-Ok-pull_loose g c).In_ok-take_loose in
    let r : Result (Unit {0}) Failed = Ok tt in
    record {
      free = has_named c.args.seg i.store.caches ∙ sym c.if-has.ensures;
      few = ap (λ (p : Manager). nat_le MOST_MADE (length (machine_in p).caches)) c.self.view_is ∙ sym c.if-has_made_all.ensures;
      small = ap (λ (p : Manager). nat_lt LIVE_PAGES (live_pages (machine_in p) + c.in-Some.size)) c.self.view_is ∙ sym c.if-passes_live_pages.ensures;
      valid = subst (λ (p : Manager). IsValid p (g.M.Mapper.held c.args.mapper.now)) (sym c.self.view_is) c.requires.valid;
      reached = reached_then _ _ _ c.size.result r (reached_one 0 0 _ _ c.size.result c.size.ensures.counts) E.reached.rises E.reached.rose tt;
      pulled = subst (λ (o : Option Held). ArePulled o c.args.seg.0 0 c.pull_loose.new.store.loose) c.size.ensures.held E.pulled;
      many = E.many ∙ taken_many g taken;
      store = filled i.store c.take_loose.new.self c.pull_loose.new.store c.in-Some.size (room g taken) c.self.invariant.settled c.in_ok-take_loose.ensures.ok (reloosed g c);
    }

-- no memory was found for the cache, and all is as before
adopted_back : (g : Over) (c : In-Ok-pull_loose g) (u : Store) → u ≡ record c.pull_loose.new.store { free = c.pull_loose.new.store.free + length c.pull_loose.new.store.loose; loose = [] } → u ≡ c.self.inside.store
adopted_back g c u is =
    let taken = (goal.at.In-Ok-pull_loose g c).In_ok-take_loose in
    given_up c.self.inside.store c.take_loose.new.self c.pull_loose.new.store c.in-Some.size (room g taken) c.self.invariant.settled c.in_ok-take_loose.ensures.ok (reloosed g c) u is

abbrev made : (g : Over) (c : In-Ok-pull_loose g) → Cache
made g c = record { segment = Some c.args.seg; pages = c.pull_loose.new.store.loose }

-- the caches when it was made
adopted_caches : (g : Over) (c : In-Ok-pull_loose g) (u : Store) → u ≡ record c.pull_loose.new.store { caches = c.pull_loose.new.store.caches ++ Some (made g c) ∷ []; loose = [] } → u.caches ≡ c.self.inside.store.caches ++ Some (made g c) ∷ []
adopted_caches g c u is = ap (λ (s : Store). s.caches) is ∙ ap (λ (s : Store). s.caches ++ Some (made g c) ∷ []) (all_filled g c).store

pub invariant_of-self-in-Ok-pull_loose : goal.invariant_of-self-in-Ok-pull_loose
invariant_of-self-in-Ok-pull_loose g c =
    let i = c.self.inside in
    let x = (goal.at.invariant_of-self-in-Ok-pull_loose g c).In-Ok-pull_loose in
    let taken = (goal.at.invariant_of-self-in-Ok-pull_loose g c).In_ok-take_loose in
    let F = all_filled g x in
    let E = c.in-Ok-pull_loose.ensures in
    let r : Result (Unit {0}) Failed = Ok tt in
    let is = c.in_ok-adopt-in-Ok-pull_loose.ensures.ok in
    adopt_sound g.M.Mapper c.args.mapper.now c.pull_loose.new.mapper (record { store = i.store; actors = i.contexts }) c.args.seg F.valid F.free F.few i.actors c.self.invariant
    c.in-Ok.size c.in-Ok.ensures.pages c.in-Some.size c.in-Some.is F.small (enough g taken) r (E.held ∙ c.size.ensures.held) F.reached (E.page ∙ c.size.ensures.page) c.pull_loose.new.store.loose F.many F.pulled
    c.adopt.new.self (adopted_caches g x c.adopt.new.self is) (ap (λ (s : Store). s.frames) is ∙ ap (λ (s : Store). s.frames) F.store) (ap (λ (s : Store). s.page_bytes) is ∙ ap (λ (s : Store). s.page_bytes) F.store) (ap (λ (s : Store). s.loose) is) c.in_ok-adopt-in-Ok-pull_loose.ensures.whole

pub invariant_of-self-in_err-adopt-in-Ok-pull_loose : goal.invariant_of-self-in_err-adopt-in-Ok-pull_loose
invariant_of-self-in_err-adopt-in-Ok-pull_loose g c =
    let i = c.self.inside in
    let x = (goal.at.invariant_of-self-in_err-adopt-in-Ok-pull_loose g c).In-Ok-pull_loose in
    subst (λ (s : Store). IsManagerSound s i.contexts i.actors) (sym (adopted_back g x c.adopt.new.self c.in_err-adopt-in-Ok-pull_loose.ensures.err)) c.self.invariant

pub returns-in_ok-adopt-in-Ok-pull_loose : goal.returns-in_ok-adopt-in-Ok-pull_loose
returns-in_ok-adopt-in-Ok-pull_loose g c =
    let i = c.self.inside in
    let x = (goal.at.returns-in_ok-adopt-in-Ok-pull_loose g c).In-Ok-pull_loose in
    let taken = (goal.at.returns-in_ok-adopt-in-Ok-pull_loose g c).In_ok-take_loose in
    let F = all_filled g x in
    let E = c.in-Ok-pull_loose.ensures in
    let r : Result (Unit {0}) Failed = Ok tt in
    let old : Manager = record { store = i.store; actors = i.contexts } in
    let new : Manager = record { store = c.adopt.new.self; actors = i.contexts } in
    let is = c.in_ok-adopt-in-Ok-pull_loose.ensures.ok in
    let cache = c.in_ok-adopt-in-Ok-pull_loose.field-0 in
    subst (λ (q : Manager). MapperCall g.M.Mapper flat c.args.mapper.now q (commands.OpenSegment c.args.seg) (Ok (replies.Cache cache)) c.pull_loose.new.mapper new) c.self.view_is
    (adopt_call g.M.Mapper c.args.mapper.now c.pull_loose.new.mapper old c.args.seg F.valid F.free F.few i.actors c.self.invariant
    c.in-Ok.size c.in-Ok.ensures.pages c.in-Some.size c.in-Some.is F.small (enough g taken) r (E.held ∙ c.size.ensures.held) F.reached (E.page ∙ c.size.ensures.page) c.pull_loose.new.store.loose F.many F.pulled
    c.adopt.new.self (adopted_caches g x c.adopt.new.self is) (ap (λ (s : Store). s.frames) is ∙ ap (λ (s : Store). s.frames) F.store) (ap (λ (s : Store). s.page_bytes) is ∙ ap (λ (s : Store). s.page_bytes) F.store) (ap (λ (s : Store). s.loose) is) c.in_ok-adopt-in-Ok-pull_loose.ensures.whole
    cache (c.in_ok-adopt-in-Ok-pull_loose.ensures.number ∙ ap (λ (s : Store). length s.caches + 1) F.store))

pub returns-in_err-adopt-in-Ok-pull_loose : goal.returns-in_err-adopt-in-Ok-pull_loose
returns-in_err-adopt-in-Ok-pull_loose g c =
    let i = c.self.inside in
    let x = (goal.at.returns-in_err-adopt-in-Ok-pull_loose g c).In-Ok-pull_loose in
    let taken = (goal.at.returns-in_err-adopt-in-Ok-pull_loose g c).In_ok-take_loose in
    let F = all_filled g x in
    let E = c.in-Ok-pull_loose.ensures in
    let r : Result (Unit {0}) Failed = Ok tt in
    let p = c.args.self.now in
    let old : Manager = record { store = i.store; actors = i.contexts } in
    let back = adopted_back g x c.adopt.new.self c.in_err-adopt-in-Ok-pull_loose.ensures.err in
    rw (err_is c.from_residual-in_err-adopt-in-Ok-pull_loose.result _ c.from_residual-in_err-adopt-in-Ok-pull_loose.ensures.1)
    (subst (λ (s : Store). MapperCall g.M.Mapper flat c.args.mapper.now p (commands.OpenSegment c.args.seg) (Err troubles.Memory) c.pull_loose.new.mapper (record { store = s; actors = i.contexts })) (sym back)
    (subst (λ (q : Manager). MapperCall g.M.Mapper flat c.args.mapper.now q (commands.OpenSegment c.args.seg) (Err troubles.Memory) c.pull_loose.new.mapper old) c.self.view_is
    (adopt_lacks g.M.Mapper c.args.mapper.now c.pull_loose.new.mapper old c.args.seg F.valid F.free F.few i.actors c.self.invariant
    c.in-Ok.size c.in-Ok.ensures.pages c.in-Some.size c.in-Some.is F.small (enough g taken) r (E.held ∙ c.size.ensures.held) F.reached (E.page ∙ c.size.ensures.page) c.pull_loose.new.store.loose F.many F.pulled)))

-- where the mapper failed all is as before
failed_back : (g : Over) (c : In-Err g) (u : Store) → u ≡ record c.pull_loose.new.store { free = c.pull_loose.new.store.free + length c.pull_loose.new.store.loose; loose = [] } → u ≡ c.self.inside.store
failed_back g c u is =
    let taken = (goal.at.In-Err g c).In_ok-take_loose in
    let E = c.in-Err.ensures in
    let R : IsReloosed c.take_loose.new.self c.pull_loose.new.store = record { many = E.many; loose = E.loose; whole = E.whole } in
    given_up c.self.inside.store c.take_loose.new.self c.pull_loose.new.store c.in-Some.size (room g taken) c.self.invariant.settled c.in_ok-take_loose.ensures.ok R u is

pub invariant_of-self-in-Err : goal.invariant_of-self-in-Err
invariant_of-self-in-Err g c =
    let i = c.self.inside in
    let x = (goal.at.invariant_of-self-in-Err g c).In-Err in
    subst (λ (s : Store). IsManagerSound s i.contexts i.actors) (sym (failed_back g x c.drop_loose.new.self c.drop_loose.ensures)) c.self.invariant

pub returns-in-Err : goal.returns-in-Err
returns-in-Err g c =
    let i = c.self.inside in
    let p = c.args.self.now in
    let E = c.in-Err.ensures in
    let back = failed_back g (goal.at.returns-in-Err g c).In-Err c.drop_loose.new.self c.drop_loose.ensures in
    let same : (let q : Manager = record { store = c.drop_loose.new.self; actors = i.contexts } in q) ≡ p = ap (λ (s : Store). let q : Manager = record { store = s; actors = i.contexts } in q) back ∙ c.self.view_is in
    let r : Result (Unit {0}) Failed = Err c.in-Err.field-0 in
    let R = reached_then _ _ _ c.size.result r (reached_one 0 0 _ _ c.size.result c.size.ensures.counts) E.reached.rises E.reached.rose E.reached.failed in
    subst (λ (q : Manager). MapperCall g.M.Mapper flat c.args.mapper.now p (commands.OpenSegment c.args.seg) (Err (troubles.Mapper faults.Opening)) c.pull_loose.new.mapper q) (sym same)
    (open_failed g.M.Mapper c.args.mapper.now c.pull_loose.new.mapper p c.args.seg c.requires.valid (named_is _ p c.self.view_is c.args.seg false c.if-has.ensures) (sym c.if-has_made_all.ensures)
    r (E.held ∙ c.size.ensures.held) R (E.page ∙ c.size.ensures.page) R.failed)
