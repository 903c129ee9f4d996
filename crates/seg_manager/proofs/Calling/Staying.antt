-- A command that leaves what is seen: what such a call of the manager of segments comes to.
use Rattle.std.proofs.Common.{◌≡◌, ◌+◌, ◌≤◌, List, length, Option, Some, None, refl, sym, ap, subst, ◌∙◌, arith}
use Rattle.std.specs.Prelude.{IfNone, Err, option_map}
use Rattle.vm_ids.specs.declared.command.KeepCommand.{KeepCommand}
use Rattle.vm_ids.specs.declared.refusal.Refusal.TheVariants.{TooMany}
use Rattle.vm_ids.specs.declared.reply.Trouble.TheVariants.{Refused}
use Rattle.vm_model.specs.Answering as plain
use Rattle.interface_callers.proofs.Words.{Answer, Command, GhostsOfGmi, GhostsOfMapper, Machine, MapperCounts, Outcome, OutcomeAt, PageForest, Rise, Segments, Trouble, blank, forest_shown, no_counts, segments_of}
use Rattle.interface_callers.proofs.Answers.{alike_err}
use Rattle.seg_manager.specs.Calling.{SegmentCall, call_budget}
use Rattle.seg_manager.specs.Outcome as keep
use Rattle.seg_manager.specs.ReferenceMachine.{ReferenceMachine}
use Rattle.seg_manager.specs.Seen.{references_seen, state_of}
use Rattle.seg_manager.specs.Stepping.{IsWholeFor, State, blank_references}
use Rattle.seg_manager.specs.Thinning.{Pushes, denied_by, machine_at, seen_with}
use Rattle.seg_manager.specs.Tying.{CanCall}
use Rattle.seg_manager.specs.declared.manager.SegManager.{SegManager}
use Rattle.seg_manager.specs.declared.tables.Named.{Named}
use Rattle.seg_manager.proofs.Seeing.LivePages.{live_seen}
use Rattle.seg_manager.proofs.Calling.Pushing.{pushed_by}
use Rattle.seg_manager.proofs.Leaves.CloseCall.{blank_told}
use Rattle.seg_manager.proofs.Seeing.Steps.{AreSeen, seen_blank, step_whole}

-- without bytes, where nothing is told
pub blank_seen : (told : Option Segments) (m : Machine) (cs : List Named) → IfNone told (m ≡ blank m) → IfNone told (references_seen m told cs ≡ blank_references (references_seen m told cs))
blank_seen None m cs bare = seen_blank m cs bare
blank_seen (Some h) m cs bare = tt

pub same_seen : (was now : Option Segments) → option_map (λ (h : Segments). h.denied) now ≡ option_map (λ (h : Segments). h.denied) was → (before after : State) (r : ReferenceMachine) → before.references ≡ r → after.references ≡ r
    → IfNone was (r ≡ blank_references r) → AreSeen now before after r r
same_seen None None e before after r x y bare = (x ∙ bare, y ∙ bare)
same_seen None (Some h) e before after r x y bare = absurd (cc e)
same_seen (Some h) None e before after r x y bare = absurd (cc e)
same_seen (Some h) (Some g) e before after r x y bare = (x, y)

-- refused, it would be refused again
pub refused_again : (told : Option Segments) (m n : Machine) (f g : Option PageForest) (c : Command) → ((x : Machine) (f g : PageForest) (h : Segments) → plain.answer_of x f c h ≡ plain.answer_of x g c h) → (t : Trouble) (rises : MapperCounts) → n ≡ m
    → OutcomeAt told m f c (Err t) n rises → t ≡ Refused TooMany → OutcomeAt told n g c (Err (Refused TooMany)) n no_counts
refused_again (Some h) m n f g c same_for t rises same o e =
    same_for n (forest_shown g n) (forest_shown f n) h
    ∙ subst (λ (x : Machine). plain.answer_of x (forest_shown f x) c h ≡ record { answer = Err (Refused TooMany); next = n }) (sym same) (subst (λ (x : Trouble). Outcome m f c h (Err x) n rises) e o)
refused_again None m n f g c same_for t rises same o e = record {
  whole = o.whole;
  whole_next = o.whole_next;
  segments = o.segments;
  whole_answer = Err (Refused TooMany);
  is = same ∙ o.is;
  is_next = o.is_next;
  pages = o.pages;
  alike = refl;
  outcome = same_for o.whole (forest_shown g o.whole) (forest_shown f o.whole) o.segments
      ∙ subst (λ (a : Answer). Outcome o.whole f c o.segments a o.whole_next rises) (alike_err t o.whole_answer o.alike ∙ ap (λ (x : Trouble). Err x) e) o.outcome;
}

module _ {Manager X Chooser : Type 0} (M : GhostsOfMapper X) (G : GhostsOfGmi Manager X Chooser) (before : X) (old : SegManager Manager) (able : CanCall G old (M.held before) (M.page_bytes before)) where
  -- The same caches are seen then.
  pub record Stays (after : X) (new : SegManager Manager) (rises : MapperCounts) : Type 0 where
    pub can : CanCall G new (M.held after) (M.page_bytes after)
    pub made : G.made new.gmi ≤ G.made old.gmi + call_budget
    pub limit : new.limit ≡ old.limit
    pub many : length (machine_at M G new after).caches ≡ length (machine_at M G old before).caches
    pub rose : Rise (M.counts before) (M.counts after) rises
    pub pushed : Pushes M G before old after rises
    pub seen : seen_with M G new after ≡ seen_with M G old before
    pub denied : denied_by M G after ≡ denied_by M G before

  -- The answer is that of a machine, of which they are what is seen.
  pub stays_by : (after : X) (new : SegManager Manager) (command : KeepCommand) (t : Trouble) (rises : MapperCounts) → Stays after new rises
      → (whole : ReferenceMachine) (f : Option PageForest) → ((r : ReferenceMachine) → IsWholeFor command r) → AreSeen (segments_of (M.held after)) (state_of G old (M.held before)) (state_of G new (M.held after)) whole whole → ((h : Segments) → keep.Outcome whole f command h 0 (Err t) whole rises) → SegmentCall M G before old command (Err t) after new
  stays_by after new command t rises s whole f any seen outcome = record {
    can = s.can;
    made = s.made;
    limit = s.limit;
    one = omega (arith, s.many);
    rises = rises;
    rose = s.rose;
    is = record {
      step = step_whole (state_of G old (M.held before)) (state_of G new (M.held after)) command (Err t) rises whole whole f any (λ h. (0, outcome h)) seen;
      pushed = pushed_by (segments_of (M.held before)) (segments_of (M.held after)) (machine_at M G old before) old.caches.items s.pushed.pushes rises s.pushed.few s.pushed.rule (state_of G old (M.held before)) (state_of G new (M.held after)) refl refl refl;
      live = live_seen M G new after s.can;
      denied = s.denied;
    };
  }

  pub stays_call : (after : X) (new : SegManager Manager) (command : KeepCommand) (t : Trouble) (rises : MapperCounts) → Stays after new rises
      → ((r : ReferenceMachine) → IsWholeFor command r) → ((h : Segments) → keep.Outcome (seen_with M G old before) None command h 0 (Err t) (seen_with M G old before) rises) → SegmentCall M G before old command (Err t) after new
  stays_call after new command t rises s any outcome =
      stays_by after new command t rises s (seen_with M G old before) None any
      (same_seen (segments_of (M.held before)) (segments_of (M.held after)) s.denied (state_of G old (M.held before)) (state_of G new (M.held after)) (seen_with M G old before) refl s.seen
      (blank_seen (segments_of (M.held before)) (machine_at M G old before) old.caches.items (blank_told (M.held before) (machine_at M G old before) able.blank)))
      outcome
