use Rattle.std.proofs.Common.{◌≡◌, ◌+◌, Some, false, true, sym, ap, subst, ◌∙◌}
use Rattle.std.proofs.result.Match.{err_is}
use Rattle.std.specs.Prelude.{Err, Ok, option_map}
use Rattle.vm_ids.specs.Held.{segments_of, with_page}
use Rattle.vm_model.specs.Machine.{segment_of}
use Rattle.vm_model.specs.Synchronised.{ArePushed}
use Rattle.vm_port.specs.declared.traits.failed.Failed.{Failed}
use Rattle.gmi_calls.proofs.Pushing.{held_page}
use Rattle.flat_mm.specs.Extents.{IsPushed}
use Rattle.flat_mm.specs.Manager.{IsValid, Manager, machine_in}
use Rattle.flat_mm.specs.Store.{Page}
use Rattle.flat_mm.proofs.Accesses.{page_is, sound_put}
use Rattle.flat_mm.proofs.Pushes.{machine_page, none_pushed, page_of, push_done, push_failed, push_kept, push_there, read_is, unchanged_there}
use Rattle.flat_mm.proofs.manager.FlatMm.push_page.Goals as goal

pub returns-then-not-is_changed-clause-pushed : goal.returns-then-not-is_changed-clause-pushed
returns-then-not-is_changed-clause-pushed g c = none_pushed g.M.Mapper c.args.mapper.now c.args.self.now tt c.requires.valid

pub returns-then-not-is_changed-clause-there : goal.returns-then-not-is_changed-clause-there
returns-then-not-is_changed-clause-there g c =
    let i = c.self.inside in
    let n = c.args.cache.0 in
    let k = c.args.page.0 in
    let told = g.M.Mapper.held c.args.mapper.now in
    let old : Manager = record { store = i.store; actors = i.contexts } in
    let P = page_of old c.args.self.now c.self.view_is n k c.requires.within in
    let named = subst (λ (p : Manager). segment_of (machine_in p) n ≡ Some c.args.seg.0) (sym c.self.view_is) c.requires.named in
    let valid = subst (λ (p : Manager). IsValid p told) (sym c.self.view_is) c.requires.valid in
    subst (λ (p : Manager). ArePushed (machine_in p) (segments_of told) n k (k + 1)) c.self.view_is
    (unchanged_there i.store i.contexts n k P.0 P.1 c.args.seg named told valid.kept (read_is (λ (p : Page). p.changed) i.store n k P.0 P.1 false c.if-not-is_changed.ensures))

pub push_out-requires-clause-there : goal.push_out-requires-clause-there
push_out-requires-clause-there g c =
    let i = c.self.inside in
    let n = c.args.cache.0 in
    let k = c.args.page.0 in
    let told = g.M.Mapper.held c.args.mapper.now in
    let old : Manager = record { store = i.store; actors = i.contexts } in
    let P = page_of old c.args.self.now c.self.view_is n k c.requires.within in
    let named = subst (λ (p : Manager). segment_of (machine_in p) n ≡ Some c.args.seg.0) (sym c.self.view_is) c.requires.named in
    let valid = subst (λ (p : Manager). IsValid p told) (sym c.self.view_is) c.requires.valid in
    held_page (machine_in old) n c.args.seg.0 k told (machine_page i.store i.contexts n k P.0 P.1 c.args.seg named) valid.ready

pub invariant_of-self : goal.invariant_of-self
invariant_of-self g c =
    let i = c.self.inside in
    let n = c.args.cache.0 in
    let k = c.args.page.0 in
    let old : Manager = record { store = i.store; actors = i.contexts } in
    let P = page_of old c.args.self.now c.self.view_is n k c.requires.within in
    sound_put i.store i.contexts i.actors c.self.invariant n k P.0 (record { bytes = P.0.bytes; changed = false }) P.1 c.settle.new.self (c.settle.ensures.settled P.0 (page_is i.store n k P.0 P.1)) c.settle.ensures.whole

pub returns : goal.returns
returns g c =
    let i = c.self.inside in
    let n = c.args.cache.0 in
    let k = c.args.page.0 in
    let told = g.M.Mapper.held c.args.mapper.now in
    let old : Manager = record { store = i.store; actors = i.contexts } in
    let P = page_of old c.args.self.now c.self.view_is n k c.requires.within in
    let named = subst (λ (p : Manager). segment_of (machine_in p) n ≡ Some c.args.seg.0) (sym c.self.view_is) c.requires.named in
    let valid = subst (λ (p : Manager). IsValid p told) (sym c.self.view_is) c.requires.valid in
    let changed = read_is (λ (p : Page). p.changed) i.store n k P.0 P.1 true c.if-not-is_changed.ensures in
    let bytes = read_is (λ (p : Page). p.bytes) i.store n k P.0 P.1 c.bytes.result.now c.bytes.ensures.bytes in
    let E = c.in_ok-push_out.ensures in
    record {
      pushed = (subst (λ (p : Manager). IsPushed {E = Failed} g.M.Mapper c.args.mapper.now p c.push_out.new.self (record { store = c.settle.new.self; actors = i.contexts }) (Ok tt)) c.self.view_is
          (push_done g.M.Mapper c.args.mapper.now c.push_out.new.self i.store i.contexts n k P.0 P.1 c.args.seg named valid changed E.page
          (E.ok ∙ ap (λ w. option_map (with_page c.args.seg.0 k w) told) (sym bytes)) E.counts c.settle.new.self (c.settle.ensures.settled P.0 (page_is i.store n k P.0 P.1))));
      there = (subst (λ (p : Manager). ArePushed (machine_in p) (segments_of (g.M.Mapper.held c.push_out.new.self)) n k (k + 1)) c.self.view_is
          (push_there g.M.Mapper c.args.mapper.now c.push_out.new.self i.store i.contexts n k P.0 P.1 c.args.seg named valid changed E.page
          (E.ok ∙ ap (λ w. option_map (with_page c.args.seg.0 k w) told) (sym bytes))));
      kept = (λ first before.
          let i = c.self.inside in
          let n = c.args.cache.0 in
          let k = c.args.page.0 in
          let told = g.M.Mapper.held c.args.mapper.now in
          let old : Manager = record { store = i.store; actors = i.contexts } in
          let P = page_of old c.args.self.now c.self.view_is n k c.requires.within in
          let named = subst (λ (p : Manager). segment_of (machine_in p) n ≡ Some c.args.seg.0) (sym c.self.view_is) c.requires.named in
          let valid = subst (λ (p : Manager). IsValid p told) (sym c.self.view_is) c.requires.valid in
          let changed = read_is (λ (p : Page). p.changed) i.store n k P.0 P.1 true c.if-not-is_changed.ensures in
          let bytes = read_is (λ (p : Page). p.bytes) i.store n k P.0 P.1 c.bytes.result.now c.bytes.ensures.bytes in
          let E = c.in_ok-push_out.ensures in
          subst (λ (p : Manager). ArePushed (machine_in p) (segments_of (g.M.Mapper.held c.push_out.new.self)) n first k) c.self.view_is
          (push_kept g.M.Mapper c.args.mapper.now c.push_out.new.self i.store i.contexts n k P.0 P.1 c.args.seg named valid changed E.page
          (E.ok ∙ ap (λ w. option_map (with_page c.args.seg.0 k w) told) (sym bytes)) first
          (subst (λ (p : Manager). ArePushed (machine_in p) (segments_of told) n first k) (sym c.self.view_is) before)));
    }

pub returns-in_err-push_out-clause-pushed : goal.returns-in_err-push_out-clause-pushed
returns-in_err-push_out-clause-pushed g c =
    let i = c.self.inside in
    let n = c.args.cache.0 in
    let k = c.args.page.0 in
    let told = g.M.Mapper.held c.args.mapper.now in
    let old : Manager = record { store = i.store; actors = i.contexts } in
    let P = page_of old c.args.self.now c.self.view_is n k c.requires.within in
    let named = subst (λ (p : Manager). segment_of (machine_in p) n ≡ Some c.args.seg.0) (sym c.self.view_is) c.requires.named in
    let valid = subst (λ (p : Manager). IsValid p told) (sym c.self.view_is) c.requires.valid in
    let changed = read_is (λ (p : Page). p.changed) i.store n k P.0 P.1 true c.if-not-is_changed.ensures in
    let E = c.in_err-push_out.ensures in
    rw (err_is c.from_residual.result _ c.from_residual.ensures.1)
    (subst (λ (p : Manager). IsPushed {E = Failed} g.M.Mapper c.args.mapper.now p c.push_out.new.self p (Err c.in_err-push_out.field-0.0)) c.self.view_is
    (push_failed g.M.Mapper c.args.mapper.now c.push_out.new.self i.store i.contexts n k P.0 P.1 c.args.seg named valid changed E.page c.in_err-push_out.field-0.0 E.err E.counts))
