-- A command that the machine below answers as that of segments does: what such a call comes to.
use Rattle.std.proofs.Common.{◌≡◌, ℕ, ◌+◌, Bool, true, false, cond, List, [], ◌∷◌, length, Option, Some, None, refl, sym, ap, subst, ◌∙◌, arith}
use Rattle.std.specs.Prelude.{All, option_map}
use Rattle.std.specs.FinMap.{get}
use Rattle.std.specs.Option.{option_map_or}
use Rattle.std.proofs.lemmas.List.{length-map}
use Rattle.std.proofs.lemmas.List.Elements.{All-cons, All-head, All-tail}
use Rattle.vm_ids.specs.declared.command.Command.TheVariants.{Copy, Load, MakeActor, PageOut, Store}
use Rattle.vm_ids.specs.declared.command.KeepCommand.TheVariants.{Plain}
use Rattle.vm_model.specs.Answering as plain
use Rattle.vm_model.proofs.Parts.Lists.{numbered-map}
use Rattle.interface_callers.proofs.Words.{Answer, Cache, Command, GhostsOfGmi, GhostsOfMapper, HasWholePages, IsWhole, Machine, MapperCall, MapperCounts, OutcomeAt, PageForest, Segments, Span, blank, blank_cache, cache_of, forest_shown, meanings_of, segments_of}
use Rattle.interface_callers.proofs.Rows.{outcome_next}
use Rattle.seg_manager.specs.Calling.{AnswersKept, IsPassed, SegmentCall, Serves}
use Rattle.seg_manager.specs.Inner.{span_shown}
use Rattle.seg_manager.specs.Outcome.{Outcome}
use Rattle.seg_manager.specs.ReferenceMachine.{ReferenceMachine, Stored, goes, stored_from, used, used_at}
use Rattle.seg_manager.specs.Seen.{openings_in, references_seen, state_of, stored_beside, whole_of}
use Rattle.seg_manager.specs.Stepping.{IsWholeFor, State, StepAt, blank_references}
use Rattle.seg_manager.specs.Tying.{AreTied, CanCall, noted_regions}
use Rattle.seg_manager.specs.declared.manager.SegManager.{SegManager}
use Rattle.seg_manager.specs.declared.tables.Kept.{Kept}
use Rattle.seg_manager.specs.declared.tables.Named.{Named}
use Rattle.seg_manager.proofs.Calling.CallAgain.{able_after, backed_next, call_is, denied_after, forest, m, made_after, n, told_after}
use Rattle.seg_manager.proofs.Calling.OneGone.{beside_told}
use Rattle.seg_manager.proofs.Lookup.Entries.{fun_same}
use Rattle.seg_manager.proofs.Seeing.LivePages.{live_seen}
use Rattle.seg_manager.proofs.Seeing.WhichGo.{used_same}
use Rattle.seg_manager.proofs.Seeing.View.{is_hidden, references}
use Rattle.seg_manager.proofs.Calling.PassedOn.{IsAnswered, IsHiding, IsQuiet, SameRegions, copy_answered, copy_regions, outcome_answered, over, passed_answered, passed_regions, quiet_self, storing}
use Rattle.seg_manager.proofs.Calling.Pushed.{Follow, Told}
use Rattle.seg_manager.proofs.Calling.Pushing.{pushed_by}
use Rattle.seg_manager.proofs.Seeing.SameSegments.{has_same, segments_blank, segments_in, tied_alike}
use Rattle.seg_manager.proofs.Seeing.Steps.{blank_used}

-- What is seen of a machine, with what is stored beside it

module _ (cs : List Named) where
  abbrev pub openings : ℕ → ℕ
  openings = openings_in cs

  abbrev stored_told : Machine → Segments → Stored
  stored_told x s = stored_from (whole_of x (Some s) cs) 1 x.caches

  seen_told : (x : Machine) (s : Segments) → references_seen x (Some s) cs ≡ over openings x (stored_told x s)
  seen_told x s = λ i. record {
    memory = record x { caches = used_same (references openings x) (whole_of x (Some s) cs) refl refl 1 x.caches i };
    stored = stored_told x s;
    openings = openings;
  }

  -- where the caches are quiet, the same is stored then
  stored_quiet : (x y : Machine) (s u : Segments) → IsQuiet openings x y → Follow x s u → stored_told y u ≡ stored_told x s
  stored_quiet x y s u q f = q.stored (stored_beside y (Some u)) ∙ ap (λ (st : Stored). stored_from (storing openings x st) 1 x.caches) (beside ∙ beside_told x s u f)
    where
      beside : stored_beside y (Some u) ≡ stored_beside x (Some u)
      beside = fun_same (stored_beside y (Some u)) (stored_beside x (Some u)) (λ seg. (λ i. cond (has_same seg x.caches y.caches q.segments i) None (get u.pages seg)))

  seen_blank : (x : Machine) → references_seen (blank x) None cs ≡ blank_references (over openings x (λ seg. None))
  seen_blank x = λ i. record {
    memory = record x { caches = (used_same (references openings x) (whole_of (blank x) None cs) refl refl 1 (blank x).caches ∙ sym (blank_used (references openings x) 1 x.caches)) i };
    stored = λ seg. None;
    openings = openings;
  }

  -- where pages are whole, those that are seen are
  whole_used : (b : ℕ) (r : ReferenceMachine) (k : ℕ) (xs : List (Option Cache)) → All (IsWhole b) xs → All (IsWhole b) (used r k xs)
  whole_used b r k [] h = h
  whole_used b r k (x ∷ xs) h =
      All-cons (IsWhole b) (used_at r k x) (used r (k + 1) xs) (at x (All-head (IsWhole b) x xs h)) (whole_used b r (k + 1) xs (All-tail (IsWhole b) x xs h))
    where
      by : (c : Cache) (go : Bool) → IsWhole b (Some c) → IsWhole b (cond go None (Some c))
      by c true w = tt
      by c false w = w

      at : (o : Option Cache) → IsWhole b o → IsWhole b (used_at r k o)
      at None w = tt
      at (Some c) w = by c (goes r k c) w

  whole_for : (command : Command) (w : Machine) → HasWholePages w → IsWholeFor (Plain command) (over openings w (λ seg. None))
  whole_for (Load actor address bytes) w h = whole_used w.page_bytes (references openings w) 1 w.caches h
  whole_for command w h = tt

  -- what is kept is hidden in a machine with bytes too
  hiding_whole : (ks : List Kept) (x w : Machine) → x ≡ blank w → IsHiding openings x ks → IsHiding openings w ks
  hiding_whole ks x w is hiding = λ n. hiding n ∙ ap (λ (z : Machine). is_hidden openings z n) is ∙ ap (λ (o : Option Cache). option_map_or (goes (references openings (blank w)) n) o false) (numbered-map blank_cache w.caches n) ∙ by n (cache_of w n)
    where
      by : (n : ℕ) (o : Option Cache) → option_map_or (goes (references openings (blank w)) n) (option_map blank_cache o) false ≡ option_map_or (goes (references openings w) n) o false
      by n None = refl
      by n (Some c) = refl

  module _ (ks : List Kept) (c command : Command) (answered : (x : Machine) → IsHiding openings x ks → IsAnswered openings x c command) where
    -- One call of the manager below that is the whole step
    pub step_answered : (before now : Option Segments) (x y : Machine) (f : Option PageForest) (a : Answer) (rises : MapperCounts) → Told x before now → IsHiding openings x ks → OutcomeAt now x f c a y rises
        → (was then : State) → was.references ≡ references_seen x before cs → then.references ≡ references_seen y now cs → StepAt now was (Plain command) a rises then
    step_answered None None x y f a rises told hiding o was then e g = record {
      whole = record { references = over openings o.whole (λ seg. None); segments = was.segments };
      whole_next = record { references = over openings o.whole_next (λ seg. None); segments = then.segments };
      segments = o.segments;
      whole_answer = o.whole_answer;
      is = λ i. record { references = (e ∙ ap (λ (z : Machine). references_seen z None cs) o.is ∙ seen_blank o.whole) i; segments = was.segments };
      is_next = λ i. record { references = (g ∙ ap (λ (z : Machine). references_seen z None cs) o.is_next ∙ seen_blank o.whole_next) i; segments = then.segments };
      alike = o.alike;
      leads = (whole_for command o.whole o.pages, (0, f, outcome_answered openings o.whole o.whole_next c command f o.segments o.whole_answer rises (λ seg. None) (answered o.whole (hiding_whole ks x o.whole o.is hiding)) o.outcome));
    }
    step_answered None (Some u) x y f a rises told hiding o was then e g = absurd (let wrong : Some u ≡ None = told.none refl in cc wrong)
    step_answered (Some s) None x y f a rises told hiding o was then e g = absurd (let u = told.some s refl in cc u.1)
    step_answered (Some s) (Some u) x y f a rises told hiding o was then e g =
        let v = told.some s refl in
        let same : v.0 ≡ u = (let r : Some u ≡ Some v.0 = v.1 in let is : u ≡ v.0 = cc r in sym is) in
        let it = answered x hiding in
        let quiet : IsQuiet openings x y = outcome_next (IsQuiet openings x) x y c f u a rises (quiet_self openings x) (it.quiet (forest_shown f x) u) o in (
          0,
          f,
          subst (λ (r : ReferenceMachine). Outcome r f (Plain command) u 0 a then.references rises) (sym (e ∙ seen_told x s))
              (subst (λ (r : ReferenceMachine). Outcome (over openings x (stored_told x s)) f (Plain command) u 0 a r rises)
              (sym (g ∙ seen_told y u ∙ ap (over openings y) (stored_quiet x y s u quiet (subst (λ (z : Segments). Follow x s z) same v.2))))
              (outcome_answered openings x y c command f u a rises (stored_told x s) it o)),
        )

    -- the caches have their segments then
    pub segments_then : (now : Option Segments) (x y : Machine) (f : Option PageForest) (a : Answer) (rises : MapperCounts) → IsHiding openings x ks → OutcomeAt now x f c a y rises → segments_in y.caches ≡ segments_in x.caches
    segments_then (Some u) x y f a rises hiding o =
        (outcome_next (IsQuiet openings x) x y c f u a rises (quiet_self openings x) ((answered x hiding).quiet (forest_shown f x) u) o).segments
    segments_then None x y f a rises hiding o =
        let w : Machine = o.whole in
        let quiet : IsQuiet openings w o.whole_next = outcome_next (IsQuiet openings w) w o.whole_next c f o.segments o.whole_answer rises (quiet_self openings w)
        ((answered w (hiding_whole ks x w o.is hiding)).quiet (forest_shown f w) o.segments) o.outcome in
        ap (λ (z : Machine). segments_in z.caches) o.is_next ∙ segments_blank o.whole_next.caches ∙ quiet.segments ∙ sym (segments_blank w.caches) ∙ sym (ap (λ (z : Machine). segments_in z.caches) o.is)

    -- and the regions are the same, where they are with bytes
    pub regions_then : ((x : Machine) → IsHiding openings x ks → (f : PageForest) (h : Segments) → SameRegions openings x (plain.answer_of x f c h).next)
        → (now : Option Segments) (x y : Machine) (f : Option PageForest) (a : Answer) (rises : MapperCounts) → IsHiding openings x ks → OutcomeAt now x f c a y rises → SameRegions openings x y
    regions_then same (Some u) x y f a rises hiding o = outcome_next (SameRegions openings x) x y c f u a rises refl (same x hiding (forest_shown f x) u) o
    regions_then same None x y f a rises hiding o =
        let w : Machine = o.whole in
        ap (λ (z : Machine). noted_regions 1 z.actors) o.is_next
        ∙ outcome_next (SameRegions openings w) w o.whole_next c f o.segments o.whole_answer rises refl (same w (hiding_whole ks x w o.is hiding) (forest_shown f w) o.segments) o.outcome
        ∙ sym (ap (λ (z : Machine). noted_regions 1 z.actors) o.is)

-- The call

module _ {Manager X Chooser : Type 0} (M : GhostsOfMapper X) (G : GhostsOfGmi Manager X Chooser) (old : SegManager Manager) (gmi : Manager) (before after : X) (c : Command) (a : Answer)
    (able : CanCall G old (M.held before) (M.page_bytes before)) (call : MapperCall M (meanings_of G) before old.gmi c a after gmi) (command : Command)
    (answered : (x : Machine) → IsHiding (openings_in old.caches.items) x old.kept.items → IsAnswered (openings_in old.caches.items) x c command) where
  abbrev x : Machine
  x = m M G old gmi before after c a able call

  abbrev y : Machine
  y = n M G old gmi before after c a able call

  segments : segments_in y.caches ≡ segments_in x.caches
  segments = segments_then old.caches.items old.kept.items c command answered (segments_of (M.held after)) x y (forest M G old gmi before after c a able call) a (call_is M G old gmi before after c a able call).rises able.tied.kept
      (call_is M G old gmi before after c a able call).is.outcome

  as_many : length y.caches ≡ length x.caches
  as_many = sym (length-map y.caches (option_map (λ (d : Cache). d.segment))) ∙ ap length segments ∙ length-map x.caches (option_map (λ (d : Cache). d.segment))

  -- whoever notes the regions as they are then
  pub answered_call : (later : SegManager Manager) → later.caches ≡ old.caches → later.limit ≡ old.limit
      → (segments_in y.caches ≡ segments_in x.caches → AreTied y (segments_of (M.held after)) old.caches.items later.kept.items later.kept.room later.regions.items) → SegmentCall M G before old (Plain command) a after (record later { gmi = gmi })
  answered_call later same limit tied = record {
    can = can_then;
    made = omega (arith, made_after M G old gmi before after c a able call);
    limit = limit;
    one = omega (arith, as_many);
    rises = (call_is M G old gmi before after c a able call).rises;
    rose = (call_is M G old gmi before after c a able call).rose;
    is = record {
      step = step_answered old.caches.items old.kept.items c command answered (segments_of (M.held before)) (segments_of (M.held after)) x y (forest M G old gmi before after c a able call) a
          (call_is M G old gmi before after c a able call).rises (told_after M G old gmi before after c a able call) able.tied.kept (call_is M G old gmi before after c a able call).is.outcome
          (state_of G old (M.held before)) (state_of G (record later { gmi = gmi }) (M.held after)) refl (ap (λ v. references_seen y (segments_of (M.held after)) v.items) same);
      pushed = pushed_by (segments_of (M.held before)) (segments_of (M.held after)) x old.caches.items (call_is M G old gmi before after c a able call).pushes (call_is M G old gmi before after c a able call).rises (call_is M G old gmi before after c a able call).is.few (call_is M G old gmi before after c a able call).is.pushed
          (state_of G old (M.held before)) (state_of G (record later { gmi = gmi }) (M.held after)) refl refl refl;
      live = live_seen M G (record later { gmi = gmi }) after can_then;
      denied = denied_after M G old gmi before after c a able call;
    };
  }
    where
      can_then : CanCall G (record later { gmi = gmi }) (M.held after) (M.page_bytes after)
      can_then = able_after M G old gmi before after c a able call later (omega (arith, as_many, able.few))
          (subst (λ (cs : List Named). AreTied y (segments_of (M.held after)) cs later.kept.items later.kept.room later.regions.items) (sym (ap (λ v. v.items) same)) (tied segments))

  -- the regions are the same
  pub answered_same : ((x : Machine) → IsHiding (openings_in old.caches.items) x old.kept.items → (f : PageForest) (h : Segments) → SameRegions (openings_in old.caches.items) x (plain.answer_of x f c h).next)
      → SegmentCall M G before old (Plain command) a after (record old { gmi = gmi })
  answered_same same = answered_call old refl refl (λ e.
      tied_alike x y (segments_of (M.held before)) (segments_of (M.held after)) old.caches.items old.kept.items old.kept.room old.regions.items old.regions.items able.tied e
      (able.tied.regions ∙ sym (regions_then old.caches.items old.kept.items c command answered same (segments_of (M.held after)) x y (forest M G old gmi before after c a able call) a
      (call_is M G old gmi before after c a able call).rises able.tied.kept (call_is M G old gmi before after c a able call).is.outcome))
      (λ q. refl) (backed_next M G old gmi before after c a able call))

-- The same are kept

module _ {Manager X Chooser : Type 0} (M : GhostsOfMapper X) (G : GhostsOfGmi Manager X Chooser) (old : SegManager Manager) (before : X) (able : CanCall G old (M.held before) (M.page_bytes before)) (gmi : Manager) (after : X) (a : Answer) where
  passed_kept : (command : Command) → IsPassed command → AnswersKept M G before old command a after (record old { gmi = gmi })
  passed_kept MakeActor passed = refl
  passed_kept (Load actor address length) passed = refl
  passed_kept (Store actor address piece) passed = refl
  passed_kept (PageOut count) passed = refl
  passed_kept command passed = absurd passed

  pub passed_served : (command : Command) → IsPassed command → MapperCall M (meanings_of G) before old.gmi command a after gmi → Serves M G before old command a after (record old { gmi = gmi })
  passed_served command passed call = record {
    call = answered_same M G old gmi before after command a able call command (λ x hiding. passed_answered (openings_in old.caches.items) x command passed) (λ x hiding f h. passed_regions (openings_in old.caches.items) x command f h passed);
    kept = passed_kept command passed;
  }

  pub copy_served : (s found : Span) → found ≡ span_shown old.kept.items s → MapperCall M (meanings_of G) before old.gmi (Copy found) a after gmi → Serves M G before old (Copy s) a after (record old { gmi = gmi })
  copy_served s found is done = record {
    call = answered_same M G old gmi before after (Copy (span_shown old.kept.items s)) a able (subst (λ (x : Span). MapperCall M (meanings_of G) before old.gmi (Copy x) a after gmi) is done) (Copy s)
        (λ x hiding. copy_answered (openings_in old.caches.items) x old.kept.items hiding s)
        (λ x hiding f h. copy_regions (openings_in old.caches.items) x old.kept.items hiding s f h);
    kept = (refl, subst (λ (x : Span). MapperCall M (meanings_of G) before old.gmi (Copy x) a after gmi) is done);
  }
