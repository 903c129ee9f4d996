use Rattle.std.proofs.Common.{rules, ◌≡◌, ℕ, List, Bool, true, false, length, refl, sym, ap, subst, ◌∙◌, arith, inl, inr}
use Rattle.std.specs.Prelude.{Result, Ok, Err, IfErr, not}
use Rattle.std.proofs.result.Match.{err_is}
use Rattle.gmi_calls.specs.Calling.{RaisesMade}
use Rattle.vm_ids.specs.Denying.{denies}
use Rattle.vm_ids.specs.Held.{segments_of}
use Rattle.vm_ids.specs.declared.command.Command.TheVariants as commands
use Rattle.vm_ids.specs.declared.command.Extent.{Extent}
use Rattle.vm_ids.specs.declared.refusal.Refusal.TheVariants as refusals
use Rattle.vm_ids.specs.declared.reply.FaultAt.TheVariants as faults
use Rattle.vm_ids.specs.declared.reply.Trouble.{Trouble}
use Rattle.vm_ids.specs.declared.reply.Trouble.TheVariants as troubles
use Rattle.local_cache.specs.Arena.{is_granted}
use Rattle.local_cache.specs.Whole.{size_of}
use Rattle.vm_model.specs.Answering.{refuse}
use Rattle.vm_model.specs.Machine.{Machine, numbered as has_number}
use Rattle.vm_model.specs.PageForest.{PageForest}
use Rattle.vm_model.specs.Place.{Place, place, place_of_actor}
use Rattle.vm_model.specs.Run.{CallIs, State}
use Rattle.regions.specs.AddressSpace.{place_told}
use Rattle.pvm_core.specs.Access.{AskedInVain}
use Rattle.pvm_core.specs.Manager.{IsManagerSound, IsValid, Manager, forest_of, machine_by, machine_of, numbered, state_at}
use Rattle.pvm_core.specs.Writes.{IsNotGranted}
use Rattle.pvm_core.proofs.Answering.Answered.{failed, failed_at, made_stays}
use Rattle.pvm_core.proofs.Readiness.Denied.{denied_cases, denied_there, told_denied, denies_one, one_denied}
use Rattle.pvm_core.proofs.Readiness.Granted.{granted_forest, granted_sound, granted_state, granted_valid, granted_by}
use Rattle.pvm_core.proofs.Answering.Kept.{seen, valid_seen, call_seen}
use Rattle.contexts.proofs.Placing.{IsFoundAt, found_at, spot}
use Rattle.pvm_core.proofs.Accesses.Asked.{on_no_access}
use Rattle.pvm_core.proofs.Translating.Cells.{granted_right}
use Rattle.pvm_core.proofs.Answering.Reaching.{reach_quiet}
use Rattle.pvm_core.proofs.Accesses.Storing.{store_denied}
use Rattle.pvm_core.proofs.Accesses.Stored.{access_fault, named_in}
use Rattle.pvm_core.proofs.Answering.Recorded.{asks_quiet, quiet_traffic}
use Rattle.gmi_calls.specs.Calling.{MapperCall}
use Rattle.pvm_core.specs.Access.{IsReadyToWrite, OnNoAccess}
use Rattle.pvm_core.specs.Manager.{meaning}
use Rattle.pvm_core.proofs.pvm.Pvm.place_to_write.Given.{Over}
use Rattle.pvm_core.proofs.pvm.Pvm.place_to_write.Goals.{After-from_residual-in_err-grant_range, After-grant_range, After-self, In_err-grant_range, In_ok-place}
use Rattle.vm_model.specs.Run.{IsUnrefused}
use Rattle.pvm_core.proofs.Accesses.Stored.{store_unrefused, undenied}
use Rattle.pvm_core.proofs.pvm.Pvm.place_to_write.Goals as goal

granted : (b : Bool) → not b ≡ false → b ≡ true
granted true e = refl
granted false e = absurd (cc e)

valid_before : (g : Over) (c : After-self g) → IsValid (seen c.self.inside.caches c.self.inside.store c.self.inside.contexts) (g.M.Mapper.held c.args.mapper.now)
valid_before g c = valid_seen c.self.view_is c.requires.valid

-- the access is in a region
told : (g : Over) (c : In_ok-place g) → Ok c.in_ok-place.place ≡ place_told (place_of_actor c.self.inside.contexts.page_bytes (has_number c.self.inside.contexts.actors c.args.actor.0) c.args.address (length c.args.piece.now))
told g c =
    subst (λ (p : Manager). Ok c.in_ok-place.place ≡ place_told (place_of_actor p.page_bytes (has_number p.actors c.args.actor.0) c.args.address (length c.args.piece.now))) (sym c.self.view_is)
    (sym c.in_ok-place.was ∙ c.locate.ensures.place ∙ ap (λ (xs : List ℕ). place_told (place_of_actor c.args.self.now.page_bytes (has_number c.args.self.now.actors c.args.actor.0) c.args.address (length xs))) c.as_slice-bytes.ensures.bytes)

found : (g : Over) (c : In_ok-place g) → IsFoundAt (size_of c.self.inside.caches) c.self.inside.contexts.page_bytes (has_number c.self.inside.contexts.actors c.args.actor.0) c.args.address (length c.args.piece.now) c.in_ok-place.place
found g c =
    let i = c.self.inside in
    spot (size_of i.caches) i.contexts c.args.actor.0 c.args.address (length c.args.piece.now) c.in_ok-place.place c.self.invariant.sound.actors (told g c)

pub grant_range-requires-clause-range : goal.grant_range-requires-clause-range
grant_range-requires-clause-range g c =
    let r = found g (goal.at.grant_range-requires-clause-range g c).In_ok-place in
    record { pages = r.count; size = r.there; within = omega (arith, r.less) }

-- the write was asked for: the manager stands for the same
asked : (g : Over) (c : After-grant_range g) → IsManagerSound c.grant_range.new.caches c.self.inside.store c.self.inside.contexts c.self.inside.live × IsValid (seen c.grant_range.new.caches c.self.inside.store c.self.inside.contexts) (g.M.Mapper.held c.grant_range.new.mapper)
asked g c =
    let i = c.self.inside in
    let e = c.grant_range.ensures in
    let a = c.grant_range.new.caches in (
      granted_sound i.caches a i.store i.contexts i.live e.nodes c.self.invariant.sound,
      granted_valid i.caches a i.store i.contexts i.live e.nodes c.self.invariant.sound (g.M.Mapper.held c.args.mapper.now) (g.M.Mapper.held c.grant_range.new.mapper) (g.M.Mapper.page_bytes c.args.mapper.now) (g.M.Mapper.page_bytes c.grant_range.new.mapper) e.held e.forest e.right (valid_before g (goal.at.After-grant_range g c).After-self),
    )

pub invariant_of-self : goal.invariant_of-self
invariant_of-self g c = record {
  sound = (asked g (goal.at.invariant_of-self g c).After-grant_range).0;
  translated = granted_right c.self.inside.caches c.grant_range.new.caches c.self.inside.store c.grant_range.ensures.nodes c.self.inside.contexts c.self.invariant.translated;
}

-- why it isn't granted
not_granted : (g : Over) (c : In_err-grant_range g) → IsNotGranted (record { cache = c.in_ok-place.place.cache; first = c.in_ok-place.place.page; pages = 1 }) (g.M.Mapper.held c.args.mapper.now) c.self.inside.caches c.grant_range.new.caches c.in_err-grant_range.field-0.0
not_granted g c = subst (λ (x : Result _ Trouble). IfErr x (IsNotGranted (record { cache = c.in_ok-place.place.cache; first = c.in_ok-place.place.page; pages = 1 }) (g.M.Mapper.held c.args.mapper.now) c.self.inside.caches c.grant_range.new.caches)) c.in_err-grant_range.was c.grant_range.ensures.refused

-- the trouble is handed on
handed_on : (g : Over) (c : After-from_residual-in_err-grant_range g) → c.from_residual-in_err-grant_range.result ≡ Err c.in_err-grant_range.field-0.0
handed_on g c = err_is c.from_residual-in_err-grant_range.result _ c.from_residual-in_err-grant_range.ensures.1

pub returns-in_err-grant_range-clause-call : goal.returns-in_err-grant_range-clause-call
returns-in_err-grant_range-clause-call g c = subst (λ (x : Result _ Trouble). IfErr x (λ trouble. MapperCall g.M.Mapper meaning c.args.mapper.now c.args.self.now (commands.Store c.args.actor c.args.address c.args.piece.now) (Err trouble) c.grant_range.new.mapper (seen c.grant_range.new.caches c.self.inside.store c.self.inside.contexts)))
    (sym (handed_on g (goal.at.returns-in_err-grant_range-clause-call g c).After-from_residual-in_err-grant_range)) (record {
      valid = (asked g (goal.at.returns-in_err-grant_range-clause-call g c).After-grant_range).1;
      answers = (
          let places = goal.at.returns-in_err-grant_range-clause-call g c in
          let i = c.self.inside in
          let e = c.grant_range.ensures in
          let a = c.grant_range.new.caches in
          let h0 = g.M.Mapper.held c.args.mapper.now in
          let h = g.M.Mapper.held c.grant_range.new.mapper in
          let begun = g.M.Mapper.counts c.args.mapper.now in
          let before = g.M.Mapper.counts c.grant_range.new.mapper in
          let k = asked g places.After-grant_range in
          let pl = c.in_ok-place.place in
          let r = found g places.In_ok-place in
          let trouble = c.in_err-grant_range.field-0.0 in
          let out = not_granted g places.In_err-grant_range in
          let range : Extent = record { cache = pl.cache; first = pl.page; pages = 1 } in
          let at : Place = found_at r.region pl in
          let p : Manager = seen i.caches i.store i.contexts in
          let q : Manager = seen a i.store i.contexts in
          let is_at : (f : PageForest) → Ok at ≡ place (machine_by p f) c.args.actor.0 c.args.address (length c.args.piece.now) = λ f. r.is in
          let may = granted c.in_ok-place.place.prot.write c.if-not-place.false in
          let reach = reach_quiet (machine_of p h0) h0 h begun before (ap segments_of e.held) e.later in
          let forest = granted_forest i.caches a i.store i.contexts i.live e.nodes c.self.invariant.sound h0 h (g.M.Mapper.page_bytes c.args.mapper.now) (g.M.Mapper.page_bytes c.grant_range.new.mapper) e.held e.forest in
          let by = granted_by i.caches a i.store i.contexts i.live e.nodes c.self.invariant.sound in
          call_seen h0 c.self.view_is (elim (denied_cases range h0 out.segment i.caches a trouble out.denied) [
            | inl w ↦ (
                let page : pl.page.0 ≡ w.1.page = omega (arith, w.1.asked.page_of.0, w.1.asked.page_of.1) in
                subst (λ (t : Trouble). CallIs begun before (state_at p h0) (commands.Store c.args.actor c.args.address c.args.piece.now) (Err t) (state_at q h)) (sym w.0)
                (failed_at begun before p q h0 h (commands.Store c.args.actor c.args.address c.args.piece.now) (Err (troubles.Refused refusals.WriteDenied)) (one_denied out.segment.0 pl.page.0) reach c.self.invariant.sound.nodes k.0.nodes k.1 forest refl tt tt
                (λ f. store_denied (machine_by p f) c.args.actor.0 c.args.address c.args.piece.now (one_denied out.segment.0 pl.page.0) at (is_at f) may (denied_there p f (one_denied out.segment.0 pl.page.0) pl.cache.0 pl.page.0 out.segment out.named (denies_one out.segment.0 pl.page.0))
                ∙ ap (λ (n : Machine). refuse n refusals.WriteDenied) (sym (by f)))
                (λ f s told. store_denied (machine_by p f) c.args.actor.0 c.args.address c.args.piece.now s at (is_at f) may
                (denied_there p f s pl.cache.0 pl.page.0 out.segment out.named (ap (denies s.denied out.segment.0) page ∙ told_denied h0 out.segment.0 w.1.page w.1.denied s (sym (ap segments_of e.held) ∙ told)))
                ∙ ap (λ (n : Machine). refuse n refusals.WriteDenied) (sym (by f)))))
            | inr w ↦ (
                let page : pl.page.0 ≡ w.0.0 = omega (arith, w.2.page_of.0, w.2.page_of.1) in
                subst (λ (t : Trouble). CallIs begun before (state_at p h0) (commands.Store c.args.actor c.args.address c.args.piece.now) (Err t) (state_at q h)) (sym w.1)
                (failed begun before p q h0 h (commands.Store c.args.actor c.args.address c.args.piece.now) (Err (troubles.Mapper (faults.Access w.0))) reach c.self.invariant.sound.nodes k.0.nodes k.1 forest refl tt tt
                (λ f s. access_fault (length reach.pushes) (machine_by p f) (machine_by q f) (forest_of p h0) c.args.actor c.args.address c.args.piece.now s begun before w.0 at (by f) (is_at f) may page (named_in p f pl.cache.0 out.segment out.named)
                (e.cause (faults.Access w.0) (c.in_err-grant_range.was ∙ ap (λ t. Err t) w.1)))))
          ])
          );
      asks_first = asks_quiet (commands.Store c.args.actor c.args.address c.args.piece.now) (Err c.in_err-grant_range.field-0.0) (g.M.Mapper.counts c.args.mapper.now) (g.M.Mapper.counts c.grant_range.new.mapper) (quiet_traffic c.grant_range.ensures.traffic);
      made = (
          let i = c.self.inside in
          let nodes = c.grant_range.ensures.nodes in
          let q : Manager = seen c.grant_range.new.caches i.store i.contexts in
          subst (λ (p : Manager). RaisesMade (machine_of p (g.M.Mapper.held c.args.mapper.now)) (commands.Store c.args.actor c.args.address c.args.piece.now) (Err c.in_err-grant_range.field-0.0) (machine_of q (g.M.Mapper.held c.grant_range.new.mapper)) (numbered p) (numbered q)) c.self.view_is
          (made_stays (machine_of (seen i.caches i.store i.contexts) (g.M.Mapper.held c.args.mapper.now)) (commands.Store c.args.actor c.args.address c.args.piece.now) (Err c.in_err-grant_range.field-0.0) (machine_of q (g.M.Mapper.held c.grant_range.new.mapper)) (numbered (seen i.caches i.store i.contexts)) (numbered q) (omega (arith, nodes.made, nodes.copies)))
          );
      room = refl;
      page = search rules;
    })

-- the page may not be written: nothing changed, and it wasn't granted
in_vain : (g : Over) (c : In_err-grant_range g) → AskedInVain c.args.self.now (seen c.grant_range.new.caches c.self.inside.store c.self.inside.contexts) c.args.actor.0 c.args.address (length c.args.piece.now)
in_vain g c =
    let i = c.self.inside in
    let a = c.grant_range.new.caches in
    let pl = c.in_ok-place.place in
    let range : Extent = record { cache = pl.cache; first = pl.page; pages = 1 } in
    let out = not_granted g c in
    let r = found g (goal.at.In_err-grant_range g c).In_ok-place in
    let at : ℕ → Type 0 = λ page. is_granted i.caches pl.cache.0 page ≡ false in
    let both : (a ≡ i.caches) × at pl.page.0 = elim (denied_cases range (g.M.Mapper.held c.args.mapper.now) out.segment i.caches a c.in_err-grant_range.field-0.0 out.denied) [
      | inl w ↦ (
        w.1.asked.grants.none (omega (arith, w.1.asked.page_of.0, w.1.asked.page_of.1)),
        subst at (let e : w.1.page ≡ pl.page.0 = omega (arith, w.1.asked.page_of.0, w.1.asked.page_of.1) in e) w.1.asked.ungranted,
      )
      | inr w ↦ (
        w.2.grants.none (omega (arith, w.2.page_of.0, w.2.page_of.1)),
        subst at (let e : w.0.0 ≡ pl.page.0 = omega (arith, w.2.page_of.0, w.2.page_of.1) in e) w.2.ungranted,
      )
    ] in
    subst (λ (p : Manager). AskedInVain p (seen a i.store i.contexts) c.args.actor.0 c.args.address (length c.args.piece.now)) c.self.view_is (record {
      same = λ j. seen (both.0 j) i.store i.contexts;
      at = found_at r.region pl;
      place = sym r.is;
      not_granted = both.1;
    })

pub returns-in_err-grant_range-clause-asked : goal.returns-in_err-grant_range-clause-asked
returns-in_err-grant_range-clause-asked g c =
    let at = goal.at.returns-in_err-grant_range-clause-asked g c in
    let P = AskedInVain c.args.self.now (seen c.grant_range.new.caches c.self.inside.store c.self.inside.contexts) c.args.actor.0 c.args.address (length c.args.piece.now) in
    subst (λ (x : Result _ Trouble). IfErr x (λ trouble. OnNoAccess (Err trouble) P)) (sym (handed_on g at.After-from_residual-in_err-grant_range)) (on_no_access (Err c.in_err-grant_range.field-0.0) P (in_vain g at.In_err-grant_range))

pub invariant_of-self-2 : goal.invariant_of-self-2
invariant_of-self-2 g c = record {
  sound = (asked g (goal.at.invariant_of-self-2 g c).After-grant_range).0;
  translated = granted_right c.self.inside.caches c.grant_range.new.caches c.self.inside.store c.grant_range.ensures.nodes c.self.inside.contexts c.self.invariant.translated;
}

pub returns-clause-ready : goal.returns-clause-ready
returns-clause-ready g c =
    let at = goal.at.returns-clause-ready g c in
    let i = c.self.inside in
    let e = c.grant_range.ensures in
    let a = c.grant_range.new.caches in
    let m = c.args.mapper.now in
    let n = c.grant_range.new.mapper in
    let pl = c.in_ok-place.place in
    subst (λ (p : Manager). IsReadyToWrite g.M.Mapper m p pl n (seen a i.store i.contexts)) c.self.view_is (record {
      may_write = granted pl.prot.write c.if-not-place.false;
      writable = c.in_ok-grant_range.ensures.granted pl.page.0 (omega arith, omega arith);
      same = refl;
      nodes = e.nodes;
      valid = (asked g at.After-grant_range).1;
      state = granted_state i.caches a i.store i.contexts i.live e.nodes c.self.invariant.sound (g.M.Mapper.held m) (g.M.Mapper.held n) (g.M.Mapper.page_bytes m) (g.M.Mapper.page_bytes n) e.held e.forest;
      asked = record { traffic = e.traffic; held = e.held; given = e.given };
      later = e.later;
      page = e.page_bytes;
    })

pub returns-clause-unrefused : goal.returns-clause-unrefused
returns-clause-unrefused g c =
    let at = goal.at.returns-clause-unrefused g c in
    let i = c.self.inside in
    let e = c.grant_range.ensures in
    let a = c.grant_range.new.caches in
    let h0 = g.M.Mapper.held c.args.mapper.now in
    let h = g.M.Mapper.held c.grant_range.new.mapper in
    let pl = c.in_ok-place.place in
    let p : Manager = seen a i.store i.contexts in
    let k = asked g at.After-grant_range in
    let r = found g at.In_ok-place in
    let command = commands.Store c.args.actor c.args.address c.args.piece.now in
    let state = granted_state i.caches a i.store i.contexts i.live e.nodes c.self.invariant.sound h0 h (g.M.Mapper.page_bytes c.args.mapper.now) (g.M.Mapper.page_bytes c.grant_range.new.mapper) e.held e.forest in
    let writable = c.in_ok-grant_range.ensures.granted pl.page.0 (omega arith, omega arith) in
    subst (λ (p : Manager). IsUnrefused (state_at p h0) command) c.self.view_is (subst (λ (s : State). IsUnrefused s command) state
    (store_unrefused p h k.0.nodes c.args.actor c.args.address c.args.piece.now (found_at r.region pl) (λ f. r.is) (granted pl.prot.write c.if-not-place.false)
    (λ f s told. undenied p h k.0.nodes k.1.right pl.cache pl.page.0 r.count (e.nodes.same.sizes pl.cache.0 ∙ r.there) r.less writable f h s refl told)))
