-- Calls of the processes that are one call of the manager each.
use Rattle.std.proofs.Common.{◌≡◌, ℕ, ◌+◌, ◌≤◌, List, length, take, drop, Option, Some, None, refl, sym, ap, subst, ◌∙◌, arith}
use Rattle.std.specs.Prelude.{Ok, Err, Result, not, option_map, slice_get}
use Rattle.vm_ids.specs.declared.command.Command.TheVariants as vm_commands
use Rattle.vm_ids.specs.declared.command.MixCommand.{MixCommand}
use Rattle.vm_ids.specs.declared.command.MixCommand.TheVariants as commands
use Rattle.vm_ids.specs.declared.reply.FaultAt.TheVariants as faults
use Rattle.vm_ids.specs.declared.reply.Reply.TheVariants as replies
use Rattle.vm_ids.specs.declared.refusal.Refusal.TheVariants as refusals
use Rattle.vm_ids.specs.declared.reply.Trouble.TheVariants as troubles
use Rattle.vm_model.specs.Answering as vm
use Rattle.vm_model.specs.Run.{CallIs}
use Rattle.vm_model.specs.Run as vm_run
use Rattle.vm_model.proofs.Outcomes.Rows.{each_ok}
use Rattle.vm_model.proofs.Parts.Lists.{numbered-map}
use Rattle.gmi_calls.proofs.Rising.{rise_none}
use Rattle.interface_callers.proofs.Words.{Answer, Command, GhostsOfGmi, GhostsOfMapper, LIVE_PAGES, Machine, MapperCall, MapperCounts, Outcome, OutcomeAt, PageForest, ProcId, RaisesMade, Refusal, Segments, answer_of, blank, forest_shown, live_pages, meanings_of, no_counts, numbered, pages_touched, segments_of}
use Rattle.interface_callers.proofs.Alike.{HasShape, shape_self, whole_shape}
use Rattle.interface_callers.proofs.Blanks.{as_untold}
use Rattle.interface_callers.proofs.Calls as calls
use Rattle.mix_process.specs.Answering as mix
use Rattle.mix_process.specs.ProcessMachine as model
use Rattle.mix_process.specs.ProcessMachine.{ProcessMachine, place_of, process_of}
use Rattle.mix_process.specs.Calling.{MixCall, call_budget}
use Rattle.mix_process.specs.Stepping.{StepAt}
use Rattle.mix_process.specs.Outcome as mix_outcome
use Rattle.mix_process.specs.Outcome.{RaisedBy, Usage, makes_by, usage_of}
use Rattle.mix_process.specs.Seen.{cache_pages, process_seen, processes_seen, state_of}
use Rattle.mix_process.specs.Tying.{AreTied, CanCall, none_spare}
use Rattle.mix_process.specs.declared.mix.Image.{Image}
use Rattle.mix_process.specs.declared.mix.Mix.{Mix}
use Rattle.mix_process.specs.declared.process.Process.{Process}
use Rattle.mix_process.proofs.Calling.CallAgain.{able_after, sync_after}
use Rattle.mix_process.proofs.Ties.Having.{had}
use Rattle.mix_process.proofs.Reading.Loading.{IsLiving, load_outcome}
use Rattle.mix_process.proofs.Ties.Pushes.{segments_stay}
use Rattle.mix_process.proofs.Ties.Alike.{run_like, tied_like}
use Rattle.mix_process.proofs.Reading.Storing.{IsPut, store_outcome, store_put}
use Rattle.mix_process.proofs.Calling.UntoldSteps.{AreLike, filled_up, like_filled, like_self, seen_filled, step_blank, step_filled}

-- Commands that leave the machine

abbrev pub IsSteady : Command → Type 0
IsSteady c = (m : Machine) (f : PageForest) (h : Segments) → (answer_of m f c h).next ≡ m

pub load_steady : (actor address : ℕ) (m : Machine) (length : ℕ) → (vm.load_of m actor address length).next ≡ m
unfolding vm.load_of
load_steady actor address m length = each_ok (λ (a : vm.Answered). a.next ≡ m) _ m _ (λ r. refl) (λ at is. refl)

row_steady : (c : Command) → IsSteady c → (m : Machine) (f : PageForest) (h : Segments) (a : vm.Answered) → answer_of m f c h ≡ a → a.next ≡ m
row_steady c steady m f h a e = subst (λ (a : vm.Answered). a.next ≡ m) e (steady m f h)

outcome_steady : (c : Command) → IsSteady c → (m : Machine) (f : Option PageForest) (h : Segments) (a : Answer) (next : Machine) (rises : MapperCounts) → Outcome m f c h a next rises → next ≡ m
outcome_steady c steady m f h (Ok r) next rises o = row_steady c steady m (forest_shown f m) h _ o
outcome_steady c steady m f h (Err (troubles.Refused r)) next rises o = row_steady c steady m (forest_shown f m) h _ o
outcome_steady c steady m f h (Err (troubles.Mapper at)) next rises o = o.0
outcome_steady c steady m f h (Err troubles.Memory) next rises o = o.0

pub steady_at : (told : Option Segments) (c : Command) → IsSteady c → (m : Machine) (f : Option PageForest) (a : Answer) (next : Machine) (rises : MapperCounts) → OutcomeAt told m f c a next rises → next ≡ m
steady_at (Some h) c steady m f a next rises o = outcome_steady c steady m f h a next rises o
steady_at None c steady m f a next rises o = o.is_next ∙ ap blank (outcome_steady c steady o.whole f o.segments o.whole_answer o.whole_next rises o.outcome) ∙ sym o.is

-- a command that touches one page at most, and takes none
pub raises_little : (m next : Machine) (c : Command) (a : Answer) (before now : ℕ) → pages_touched m c ≤ 1 → live_pages next ≤ LIVE_PAGES → RaisesMade m c a next before now → now ≤ before + call_budget
raises_little m next c (Ok r) before now one live made = omega (arith, made, one, live)
raises_little m next c (Err (troubles.Refused r)) before now one live made = omega (arith, made)
raises_little m next c (Err (troubles.Mapper at)) before now one live made = omega (arith, made, one, live)
raises_little m next c (Err troubles.Memory) before now one live made = omega (arith, made, one, live)

raised_none : (more u : Usage) → RaisedBy more u u
raised_none more u = record { actors = omega arith; caches = omega arith; regions = omega arith }

-- One call of the manager

module _ {Manager X Chooser : Type 0} (M : GhostsOfMapper X) (G : GhostsOfGmi Manager X Chooser) (old : Mix Manager) (gmi : Manager) (before after : X) (c : Command) (a : Answer)
    (can : CanCall G old (M.held before) (M.page_bytes before)) (call : MapperCall M (meanings_of G) before old.gmi c a after gmi) where
  abbrev pub m : Machine
  m = G.machine old.gmi (M.held before)

  abbrev pub n : Machine
  n = G.machine gmi (M.held after)

  -- the processes over the manager as it is then
  abbrev pub with_manager : Mix Manager
  with_manager = record old { gmi = gmi }

  abbrev pub call_is : CallIs (M.counts before) (M.counts after) (vm_run.state_of G.machine G.forest old.gmi (M.held before)) c a (vm_run.state_of G.machine G.forest gmi (M.held after))
  call_is = calls.call_is M G old.gmi gmi before after c a can.unlimited call

  -- they can be called again, where the machine has the shape that it had, and the images
  pub can_after : HasShape m n → ((i : ℕ) (image : Image) → slice_get old.images.items i ≡ Some image → cache_pages n image.cache.0 ≡ cache_pages m image.cache.0) → CanCall G with_manager (M.held after) (M.page_bytes after)
  can_after shape alike = able_after M G old.gmi gmi before after c a old.images.items (length old.processes.items) (numbered old.processes.items) none_spare can call
      old.images.items (length old.processes.items) (numbered old.processes.items) none_spare (omega (arith, can.few, ap length shape.actors)) (omega (arith, can.most, ap length shape.actors))
      (tied_like m n shape (numbered old.processes.items) none_spare old.images.items can.tied) (sync_after M G old.gmi gmi before after c a old.images.items (length old.processes.items) (numbered old.processes.items) none_spare can call alike)

  abbrev pub table : List (Option Process)
  table = old.processes.items

  abbrev pub images : List Image
  images = old.images.items

  -- The call, where it touches one page at most and an outcome of the one is an outcome of the
  -- other, whatever bytes the machine has.
  pub called : (command : MixCommand) → pages_touched m c ≤ 1 → HasShape m n
      → ((i : ℕ) (image : Image) → slice_get old.images.items i ≡ Some image → cache_pages n image.cache.0 ≡ cache_pages m image.cache.0)
      → ((x y : Machine) → HasShape m x → (h : Segments) (b : Answer) → Outcome x (G.forest old.gmi (M.held before)) c h b y call_is.rises
      → mix_outcome.Outcome (processes_seen x table images) (usage_of x) command h b (processes_seen y table images) call_is.rises
      × RaisedBy (makes_by (processes_seen x table images) command h b) (usage_of x) (usage_of y))
      → MixCall M G before old command a after with_manager
  called command one shape alike step = record {
    can = can_after shape alike;
    made = raises_little m n c a (G.made old.gmi) (G.made gmi) one ((calls.keeps M G old.gmi gmi before after c a can.unlimited call).live can.live) call.made;
    rises = call_is.rises;
    rose = call_is.rose;
    is = record {
      step = go (segments_of (M.held after)) call_is.is.outcome;
      has = had G with_manager (M.held after) (M.page_bytes after) (can_after shape alike);
      segments = segments_stay m (numbered old.processes.items) none_spare old.images.items can.tied (M.held before) (segments_of (M.held after)) call_is.pushes call_is.is.pushed can.synchronised;
    };
  }
    where
      go : (told : Option Segments) → OutcomeAt told m (G.forest old.gmi (M.held before)) c a n call_is.rises → StepAt told (state_of G old (M.held before)) command a call_is.rises (state_of G with_manager (M.held after))
      go None o = step_blank (segments_of (M.held before)) (segments_of (M.held after)) m n (G.forest old.gmi (M.held before)) c a call_is.rises command table images o
          (let x = step o.whole o.whole_next (whole_shape m o.whole o.is) o.segments o.whole_answer o.outcome in record { outcome = x.0; raised = x.1 })
      go (Some h) o = let x = step m n (shape_self m) h a o in record { outcome = x.0; raised = x.1 }

  -- a call that leaves the machine
  pub called_steady : (command : MixCommand) → pages_touched m c ≤ 1 → IsSteady c
      → ((x y : Machine) → HasShape m x → (h : Segments) (b : Answer) → Outcome x (G.forest old.gmi (M.held before)) c h b y call_is.rises
      → mix_outcome.Outcome (processes_seen x table images) (usage_of x) command h b (processes_seen x table images) call_is.rises)
      → MixCall M G before old command a after with_manager
  called_steady command one steady outcome =
      let same : n ≡ m = steady_at (segments_of (M.held after)) c steady m (G.forest old.gmi (M.held before)) a n call_is.rises call_is.is.outcome in
      called command one (subst (HasShape m) (sym same) (shape_self m)) (λ i image e. ap (λ (x : Machine). cache_pages x image.cache.0) same)
      (λ x y shape h b o. (let still : y ≡ x = outcome_steady c steady x (G.forest old.gmi (M.held before)) h b y call_is.rises o in (
        subst (λ (z : Machine). mix_outcome.Outcome (processes_seen x table images) (usage_of x) command h b (processes_seen z table images) call_is.rises) (sym still) (outcome x y shape h b o),
        subst (λ (z : Machine). RaisedBy (makes_by (processes_seen x table images) command h b) (usage_of x) (usage_of z)) (sym still) (raised_none _ (usage_of x)),
      )))

-- The calls

paged : (m next : Machine) (s : Answer) → vm.reply replies.Done m ≡ record { answer = s; next = next } → s ≡ Ok replies.Done
paged m next s h = sym (ap (λ (a : vm.Answered). a.answer) h)

pub page_out_outcome : (m next : Machine) (f : Option PageForest) (s : ProcessMachine) (u : Usage) (h : Segments) (count : ℕ) (a : Answer) (rises : MapperCounts)
    → Outcome m f (vm_commands.PageOut count) h a next rises → mix_outcome.Outcome s u (commands.PageOut count) h a s rises
page_out_outcome m next f s u h count (Ok r) rises o = ap (λ (r : Answer). let x : mix.Answered = record { answer = r; next = s } in x) (sym (paged m next (Ok r) o))
page_out_outcome m next f s u h count (Err (troubles.Refused r)) rises o = absurd (cc (paged m next (Err (troubles.Refused r)) o))
page_out_outcome m next f s u h count (Err (troubles.Mapper faults.Victim)) rises o = (refl, o.1, o.2, tt)
page_out_outcome m next f s u h count (Err (troubles.Mapper at)) rises o = absurd o.2
page_out_outcome m next f s u h count (Err troubles.Memory) rises o = absurd o.1

module _ {Manager X Chooser : Type 0} (M : GhostsOfMapper X) (G : GhostsOfGmi Manager X Chooser) (old : Mix Manager) (before : X) (can : CanCall G old (M.held before) (M.page_bytes before)) where
  abbrev s : ProcessMachine
  s = processes_seen (G.machine old.gmi (M.held before)) old.processes.items old.images.items

  abbrev u : Usage
  u = usage_of (G.machine old.gmi (M.held before))

  -- a call that is refused before the manager is called
  pub refused_called : (command : MixCommand) (answer : Answer) → ((x : ProcessMachine) → AreLike s x → (h : Segments) → mix_outcome.Outcome x u command h answer x no_counts) → MixCall M G before old command answer before old
  refused_called command answer outcome = record {
    can = can;
    made = omega arith;
    rises = no_counts;
    rose = rise_none (M.counts before);
    is = record { step = go (segments_of (M.held before)) refl; has = had G old (M.held before) (M.page_bytes before) can; segments = refl };
  }
    where
      go : (told : Option Segments) → segments_of (M.held before) ≡ told → StepAt told (state_of G old (M.held before)) command answer no_counts (state_of G old (M.held before))
      go None e =
          let blank_is = seen_filled (G.machine old.gmi (M.held before)) old.processes.items old.images.items (as_untold (M.held before) e can.blank) in
          step_filled (segments_of (M.held before)) (segments_of (M.held before)) s s u u command answer no_counts can.tied.page blank_is blank_is
          (λ h. record { outcome = outcome (filled_up s) (like_filled s) h; raised = raised_none (makes_by (filled_up s) command h answer) u })
      go (Some h) e = record { outcome = outcome s (like_self s) h; raised = raised_none (makes_by s command h answer) u }

  module _ (gmi : Manager) (after : X) where
    pub page_out_called : (count : ℕ) (a : Answer) → MapperCall M (meanings_of G) before old.gmi (vm_commands.PageOut count) a after gmi → MixCall M G before old (commands.PageOut count) a after (record old { gmi = gmi })
    page_out_called count a call =
        called_steady M G old gmi before after (vm_commands.PageOut count) a can call (commands.PageOut count) (omega arith) (λ m f h. refl)
        (λ x y shape h b o. page_out_outcome x y (G.forest old.gmi (M.held before)) (processes_seen x old.processes.items old.images.items) (usage_of x) h count b _ o)

    pub load_called : (of : ProcId) (p : Process) → numbered old.processes.items of.0 ≡ Some p → (address length : ℕ) (a : Answer)
        → MapperCall M (meanings_of G) before old.gmi (vm_commands.Load p.actor address length) a after gmi → MixCall M G before old (commands.Load of address length) a after (record old { gmi = gmi })
    load_called of p there address length a call =
        called_steady M G old gmi before after (vm_commands.Load p.actor address length) a can call (commands.Load of address length) (omega arith) (λ m f h. load_steady p.actor.0 address m length)
        (λ x y shape h b o.
        let live : IsLiving x old.processes.items of.0 p = record { page = shape.page ∙ can.tied.page; there = there; run = run_like (G.machine old.gmi (M.held before)) x shape p (can.tied.run of.0 p there) } in
        (load_outcome x old.processes.items old.images.items of p live (G.forest old.gmi (M.held before)) (usage_of x) h address length b y _ o).0)

    pub store_called : (of : ProcId) (p : Process) → numbered old.processes.items of.0 ≡ Some p → (address : ℕ) (piece : List ℕ) (a : Answer)
        → MapperCall M (meanings_of G) before old.gmi (vm_commands.Store p.actor address piece) a after gmi → MixCall M G before old (commands.Store of address piece) a after (record old { gmi = gmi })
    store_called of p there address piece a call =
        let m : Machine = G.machine old.gmi (M.held before) in
        let it = call_is M G old gmi before after (vm_commands.Store p.actor address piece) a can call in
        let put : IsPut m (G.machine gmi (M.held after)) old.images.items = store_put (segments_of (M.held after)) m old.processes.items none_spare old.images.items can.tied of p there (G.forest old.gmi (M.held before)) address piece a (G.machine gmi (M.held after)) it.rises it.is.outcome in
        called M G old gmi before after (vm_commands.Store p.actor address piece) a can call (commands.Store of address piece) (omega arith) put.shape put.alike
        (λ x y shape h b o.
        let tied : AreTied x (numbered old.processes.items) none_spare old.images.items = tied_like m x shape (numbered old.processes.items) none_spare old.images.items can.tied in
        let live : IsLiving x old.processes.items of.0 p = record { page = tied.page; there = there; run = tied.run of.0 p there } in
        let stored = store_outcome x old.processes.items none_spare old.images.items tied of p live (G.forest old.gmi (M.held before)) (usage_of x) h address piece b y it.rises o in
        (stored.0, record { actors = omega (arith, ap length stored.1.shape.actors); caches = omega (arith, stored.1.caches); regions = omega (arith, stored.1.regions) }))

  -- no living process has the number
  pub none_here : (n : ℕ) → numbered old.processes.items n ≡ None → process_of s n ≡ None
  none_here n none = numbered-map (process_seen (G.machine old.gmi (M.held before))) old.processes.items n ∙ ap (option_map (process_seen (G.machine old.gmi (M.held before)))) none

  nobody : (length : ℕ) (b : ℕ) (address : ℕ) (o : Option model.Process) → o ≡ None → place_of b o address length ≡ Err refusals.NoProcess
  nobody length b address o e = ap (λ (o : Option model.Process). place_of b o address length) e

  module _ (x : ProcessMachine) (like : AreLike s x) (of : ProcId) (none : numbered old.processes.items of.0 ≡ None) where
    none_there : process_of x of.0 ≡ None
    none_there = like.nobody of.0 (none_here of.0 none)

    load_row_nobody : (address length : ℕ) → mix.load_of x of.0 address length ≡ record { answer = Err (troubles.Refused refusals.NoProcess); next = x }
    unfolding mix.load_of mix.with_ok
    load_row_nobody address length = ap (λ (o : Result model.Place Refusal). mix.with_ok o x (λ at. mix.reply (replies.Bytes (take length (drop at.byte (mix.page_at at)))) x)) (nobody length x.page_bytes address (process_of x of.0) none_there)

    store_row_nobody : (address : ℕ) (piece : List ℕ) → mix.store_of x of.0 address piece ≡ record { answer = Err (troubles.Refused refusals.NoProcess); next = x }
    unfolding mix.store_of mix.with_ok
    store_row_nobody address piece = ap (λ (o : Result model.Place Refusal). mix.with_ok o x (λ at. mix.unless (not (model.may_write at.area)) refusals.Protection x (mix.reply replies.Done (mix.put_process x of.0 (Some (mix.written_at at piece)))))) (nobody (length piece) x.page_bytes address (process_of x of.0) none_there)

  pub load_nobody : (of : ProcId) (address length : ℕ) → numbered old.processes.items of.0 ≡ None → MixCall M G before old (commands.Load of address length) (Err (troubles.Refused refusals.NoProcess)) before old
  load_nobody of address length none = refused_called (commands.Load of address length) (Err (troubles.Refused refusals.NoProcess)) (λ x like h. load_row_nobody x like of none address length)

  pub store_nobody : (of : ProcId) (address : ℕ) (piece : List ℕ) → numbered old.processes.items of.0 ≡ None → MixCall M G before old (commands.Store of address piece) (Err (troubles.Refused refusals.NoProcess)) before old
  store_nobody of address piece none = refused_called (commands.Store of address piece) (Err (troubles.Refused refusals.NoProcess)) (λ x like h. store_row_nobody x like of none address piece)
