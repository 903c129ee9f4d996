-- After a call of the manager below its caller can call it again.
use Rattle.std.proofs.Common.{◌≡◌, ℕ, ◌+◌, ◌*◌, ◌≤◌, List, length, Option, Some, None, refl, sym, ap, subst, ◌∙◌}
use Rattle.std.specs.Prelude.{option_map, IfSome}
use Rattle.vm_model.specs.Run.{CallIs}
use Rattle.vm_model.specs.Run as vm_run
use Rattle.gmi_calls.proofs.Backing.{backed_after}
use Rattle.interface_callers.proofs.Words.{Answer, AreBacked, Command, GhostsOfGmi, GhostsOfMapper, LIVE_PAGES, Machine, MapperCall, MapperCounts, MOST_MADE, OutcomeAt, PageForest, Segments, meanings_of, segments_of}
use Rattle.interface_callers.proofs.Calls as calls
use Rattle.seg_manager.specs.Seen.{references_seen}
use Rattle.seg_manager.specs.Tying.{AreTied, CanCall}
use Rattle.seg_manager.specs.Thinning.{denied_by}
use Rattle.seg_manager.specs.declared.manager.SegManager.{SegManager}
use Rattle.seg_manager.specs.declared.tables.Named.{Named}
use Rattle.seg_manager.proofs.Calling.OneGone.{seen_pushed}
use Rattle.seg_manager.proofs.Calling.Pushed.{Told, told_pushed}

-- The segments back the caches then.
backed_then : (m n : Machine) (f : Option PageForest) (c : Command) (a : Answer) (rises : MapperCounts) (before now : Option Segments) → Told m before now → IfSome before (λ s. AreBacked m.caches s) → OutcomeAt now m f c a n rises
    → IfSome now (λ t. AreBacked m.caches t) × IfSome now (λ t. AreBacked n.caches t)
backed_then m n f c a rises before None told B o = (tt, tt)
backed_then m n f c a rises None (Some t) told B o = absurd (let wrong : Some t ≡ None = told.none refl in cc wrong)
backed_then m n f c a rises (Some s) (Some t) told B o =
    let u = told.some s refl in
    let same : t ≡ u.0 = (let e : Some t ≡ Some u.0 = u.1 in cc e) in
    let now : AreBacked m.caches t = subst (λ (x : Segments). AreBacked m.caches x) (sym same) u.2.backed in
    (now, backed_after m n f c t a rises now o)

denied_then : (m : Machine) (before now : Option Segments) → Told m before now → option_map (λ (h : Segments). h.denied) now ≡ option_map (λ (h : Segments). h.denied) before
denied_then m None now told = ap (λ (o : Option Segments). option_map (λ (h : Segments). h.denied) o) (told.none refl)
denied_then m (Some s) now told =
    let u = told.some s refl in
    ap (λ (o : Option Segments). option_map (λ (h : Segments). h.denied) o) u.1 ∙ ap (λ (d : List (ℕ × ℕ)). Some d) u.2.denied

module _ {Manager X Chooser : Type 0} (M : GhostsOfMapper X) (G : GhostsOfGmi Manager X Chooser) (manager : SegManager Manager) (gmi : Manager) (before after : X) (c : Command) (a : Answer)
    (can : CanCall G manager (M.held before) (M.page_bytes before)) (call : MapperCall M (meanings_of G) before manager.gmi c a after gmi) where
  abbrev pub m : Machine
  m = G.machine manager.gmi (M.held before)

  abbrev pub n : Machine
  n = G.machine gmi (M.held after)

  abbrev pub forest : Option PageForest
  forest = G.forest manager.gmi (M.held before)

  abbrev pub call_is : CallIs (M.counts before) (M.counts after) (vm_run.state_of G.machine G.forest manager.gmi (M.held before)) c a (vm_run.state_of G.machine G.forest gmi (M.held after))
  call_is = calls.call_is M G manager.gmi gmi before after c a can.unlimited call

  pub made_after : G.made gmi ≤ G.made manager.gmi + 32 * LIVE_PAGES + 8
  made_after = calls.made_after M G manager.gmi gmi before after c a can.unlimited call can.live

  pub told_after : Told m (segments_of (M.held before)) (segments_of (M.held after))
  told_after = told_pushed m (segments_of (M.held before)) (segments_of (M.held after)) call_is.pushes call_is.is.pushed can.tied.backed

  backed : IfSome (segments_of (M.held after)) (λ t. AreBacked m.caches t) × IfSome (segments_of (M.held after)) (λ t. AreBacked n.caches t)
  backed = backed_then m n forest c a call_is.rises (segments_of (M.held before)) (segments_of (M.held after)) told_after can.tied.backed call_is.is.outcome

  -- of the machine before, and of the one after
  pub backed_before : IfSome (segments_of (M.held after)) (λ t. AreBacked m.caches t)
  backed_before = backed.0

  pub backed_next : IfSome (segments_of (M.held after)) (λ t. AreBacked n.caches t)
  backed_next = backed.1

  pub denied_after : denied_by M G after ≡ denied_by M G before
  denied_after = denied_then m (segments_of (M.held before)) (segments_of (M.held after)) told_after

  -- what is seen where only pages were pushed
  pub seen_after : (caches : List Named) → references_seen m (segments_of (M.held after)) caches ≡ references_seen m (segments_of (M.held before)) caches
  seen_after caches = seen_pushed m (segments_of (M.held before)) (segments_of (M.held after)) caches told_after

  -- Whoever is tied to the manager as it is then can call it.
  pub able_after : (later : SegManager Manager) → length n.caches ≤ MOST_MADE → AreTied n (segments_of (M.held after)) later.caches.items later.kept.items later.kept.room later.regions.items
      → CanCall G (record later { gmi = gmi }) (M.held after) (M.page_bytes after)
  able_after later few tied = record {
    valid = call.valid;
    unlimited = calls.unlimited_after M G manager.gmi gmi before after c a can.unlimited call;
    fits = calls.fits_after M G manager.gmi gmi before after c a can.unlimited call can.fits;
    live = (calls.keeps M G manager.gmi gmi before after c a can.unlimited call).live can.live;
    few = few;
    tied = tied;
    blank = calls.blank_then M G manager.gmi gmi before after c a can.unlimited call;
  }
