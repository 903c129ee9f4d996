-- A segment that has no cache is opened: what that call of the manager of segments comes to.
use Rattle.std.proofs.Common.{◌≡◌, ◌==◌, inl, inr, ℕ, ◌+◌, ◌^◌, ◌≤◌, List, [], ◌∷◌, ◌++◌, length, drop, take, Option, Some, None, refl, sym, ap, subst, ◌∙◌, arith}
use Rattle.std.specs.Prelude.{IfSome, Ok, Err, option_map}
use Rattle.std.specs.List.{list_any, position_from}
use Rattle.std.proofs.lemmas.List.{drop-map, length-append, length-map}
use Rattle.vm_ids.specs.declared.command.Command.TheVariants.{Destroy, OpenSegment}
use Rattle.vm_ids.specs.declared.command.KeepCommand.TheVariants as commands
use Rattle.vm_ids.specs.declared.refusal.Refusal.TheVariants as refusals
use Rattle.vm_ids.specs.declared.reply.FaultAt.TheVariants as faults
use Rattle.vm_ids.specs.declared.reply.Reply.TheVariants as replies
use Rattle.vm_ids.specs.declared.reply.Trouble.TheVariants as troubles
use Rattle.vm_model.proofs.Parts.ListParts.{numbered_past}
use Rattle.gmi_calls.proofs.Rising.{rise_none, rise_then}
use Rattle.interface_callers.proofs.Words.{AreBacked, CacheId, FaultAt, GhostsOfGmi, GhostsOfMapper, Machine, MapperCall, MapperCounts, OutcomeAt, SegId, Segments, Trouble, counts_sum, meanings_of, no_counts, opened, segments_of}
use Rattle.seg_manager.specs.Answering.{Answered, reply_cache}
use Rattle.seg_manager.specs.Calling.{Acquires, FailsBelow, HasNoRoomWithout, SegmentCall}
use Rattle.seg_manager.specs.Inner.{first_of}
use Rattle.seg_manager.specs.Keeping.{AreBehind, without}
use Rattle.seg_manager.specs.Outcome.{Outcome}
use Rattle.seg_manager.specs.ReferenceMachine.{ReferenceMachine, number_in, used}
use Rattle.seg_manager.specs.Seen.{kept_segments, references_seen, state_of, whole_of}
use Rattle.seg_manager.specs.Thinning.{Fails, IsTried, Pushes, Thins, Tries, credit, seen_with, Trying}
use Rattle.seg_manager.specs.Tying.{AreTied, CanCall}
use Rattle.seg_manager.specs.declared.manager.SegManager.{SegManager}
use Rattle.seg_manager.specs.Names.{AreNamed}
use Rattle.seg_manager.specs.declared.tables.Kept.{Kept}
use Rattle.seg_manager.specs.declared.tables.Named.{Named}
use Rattle.seg_manager.proofs.Opens.AgainCall.{anew_row, caches_seen, none_gone}
use Rattle.seg_manager.proofs.Opens.FirstSeen.{opened_next, tied_anew}
use Rattle.seg_manager.proofs.Calling.CallAgain.{able_after, backed_next, call_is, denied_after, forest, made_after, told_after}
use Rattle.seg_manager.proofs.Room.Failing.{IsFailing, failing, number_blank, open_may, open_none}
use Rattle.seg_manager.proofs.Seeing.LivePages.{live_seen}
use Rattle.seg_manager.proofs.Room.Lacking.{IsLacking, open_lacks}
use Rattle.seg_manager.proofs.Seeing.WhichGo.{Caches, length_used}
use Rattle.seg_manager.proofs.Leaves.ReferencesGone.{credit_few, seen_length}
use Rattle.seg_manager.proofs.Lookup.Named.{tied_named}
use Rattle.seg_manager.proofs.Opens.Outcome.{Ends, IsOpen, appended, failed, lacks, made, many, nowhere, number_next}
use Rattle.seg_manager.proofs.Calling.Pushing.{HasPages, pages_of, pushed_by, pushes_call, pushes_none, pushes_then}
use Rattle.seg_manager.proofs.Leaves.CloseCall.{blank_told}
use Rattle.seg_manager.proofs.Calling.Staying.{Stays, refused_again, stays_by, stays_call}
use Rattle.seg_manager.proofs.Seeing.Steps.{AreSeen, step_whole}
use Rattle.seg_manager.proofs.Room.Tried.{can_same, none_noted, noted_none, open_ended, open_leaves, seen_same}
use Rattle.seg_manager.proofs.Opens.FirstBefore.{behind_not, goes_on_by, not_kept, nowhere_row, number_below, number_unseen, opened_of, seen_opened, stored_as, stored_nothing, whole_caches, whole_for, whole_stored}

module _ {Manager X Chooser : Type 0} (M : GhostsOfMapper X) (G : GhostsOfGmi Manager X Chooser) (before : X) (old s1 : SegManager Manager) (seg : SegId) (can : CanCall G old (M.held before) (M.page_bytes before))
    (anew : None ≡ position_from (first_of seg.0) 0 old.caches.items) (caches : s1.caches.items ≡ old.caches.items) (kept : s1.kept.items ≡ old.kept.items) (less : old.kept.room ≤ s1.kept.room) where
  abbrev pub start : SegManager Manager
  start = record old { caches = s1.caches; kept = s1.kept }

  abbrev m0 : Machine
  m0 = G.machine old.gmi (M.held before)

  abbrev told0 : Option Segments
  told0 = segments_of (M.held before)

  pub start_can : CanCall G start (M.held before) (M.page_bytes before)
  start_can = record {
    valid = can.valid;
    unlimited = can.unlimited;
    fits = can.fits;
    live = can.live;
    few = can.few;
    tied = subst (λ (cs : List Named). AreTied m0 told0 cs s1.kept.items s1.kept.room old.regions.items) (sym caches)
        (subst (λ (ks : List Kept). AreTied m0 told0 old.caches.items ks s1.kept.room old.regions.items) (sym kept) (record {
          caches = can.tied.caches;
          regions = can.tied.regions;
          apart = can.tied.apart;
          kept = can.tied.kept;
          named = can.tied.named;
          once = can.tied.once;
          fits = omega (arith, can.tied.fits, less);
          backed = can.tied.backed;
        }));
    blank = can.blank;
  }

  pub start_credit : G.made old.gmi ≤ 2 ^ 61 → credit M G start before ≤ 2 ^ 61 + 2 ^ 32
  start_credit h = omega (arith, h, credit_few M G start before start_can)

  pub start_anew : None ≡ position_from (first_of seg.0) 0 start.caches.items
  start_anew = anew ∙ ap (position_from (first_of seg.0) 0) (sym caches)

  module _ (middle : X) (by : SegManager Manager) (trying : Trying M G (OpenSegment seg) before start middle by) where
    abbrev thins : Thins M G before start middle by
    thins = trying.thins

    abbrev m : Machine
    m = G.machine by.gmi (M.held middle)

    abbrev told : Option Segments
    told = segments_of (M.held middle)

    abbrev R : ReferenceMachine
    R = seen_with M G by middle

    anew_by : None ≡ position_from (first_of seg.0) 0 by.caches.items
    anew_by = noted_none seg.0 0 by.caches.items (thins.among (first_of seg.0) (none_noted seg.0 0 start.caches.items start_anew))

    seen_by : R ≡ seen_with M G old before
    seen_by = thins.seen ∙ ap (references_seen m0 told0) caches

    number_R : number_in 1 R.memory.caches seg.0 ≡ None
    number_R = ap (λ (xs : Caches). number_in 1 xs seg.0) (caches_seen told m by.caches.items) ∙ number_unseen m told by.caches.items by.kept.items by.kept.room by.regions.items thins.can.tied seg anew_by

    as_many : length m.caches ≡ length m0.caches
    as_many = sym (seen_length told m by.caches.items) ∙ ap (λ (r : ReferenceMachine). length r.memory.caches) thins.seen ∙ seen_length told0 m0 start.caches.items

    pushes_by : Pushes M G before old middle thins.rises
    pushes_by = record { pushes = thins.pushed.pushes; few = thins.pushed.few; rule = thins.pushed.rule }

    machine_by : m ≡ without (take thins.gone (kept_segments old.kept.items)) m0
    machine_by = thins.machine ∙ ap (λ (ks : List Kept). without (take thins.gone (kept_segments ks)) m0) kept

    has_pages : HasPages m0 m
    has_pages = pages_of M G before middle old by (take thins.gone (kept_segments old.kept.items)) machine_by

    abbrev Cause : List ℕ → Type 0
    Cause = HasNoRoomWithout G old.gmi (M.held before) (OpenSegment seg)

    kept_behind : AreBehind Cause (kept_segments old.kept.items) (kept_segments by.kept.items)
    kept_behind = record {
      gone = thins.gone;
      is = ap kept_segments (thins.kept ∙ ap (drop thins.gone) kept) ∙ sym (drop-map (λ (k : Kept). k.seg.0) thins.gone old.kept.items);
      few = omega (arith, thins.gone_few, ap length kept, length-map old.kept.items (λ (k : Kept). k.seg.0));
      cause = λ i less. subst (λ (ks : List Kept). Cause (take i (kept_segments ks))) kept (trying.cause i less);
    }

    no_cache : (n : ℕ) → number_in 1 m0.caches seg.0 ≡ Some n → ⊥
    no_cache n e = (let wrong : None ≡ Some n = sym (number_below m0 told0 old.caches.items old.kept.items old.kept.room old.regions.items can.tied seg anew) ∙ e in cc wrong)

    -- Another cache couldn't make room.
    module _ (after : X) (gmi : Manager) (call : MapperCall M (meanings_of G) middle by.gmi (OpenSegment seg) (Err (troubles.Refused refusals.TooMany)) after gmi) where
      abbrev tried : SegManager Manager
      tried = record by { gmi = gmi }

      tried_same : G.machine gmi (M.held after) ≡ m
      tried_same = open_leaves M G by middle thins.can seg anew_by (troubles.Refused refusals.TooMany) after gmi call

      module _ (t : Trouble) (later : X) (new : SegManager Manager) (f : Fails M G after tried t later new) where
        abbrev vain_rises : MapperCounts
        vain_rises = counts_sum (counts_sum thins.rises (call_is M G by gmi middle after (OpenSegment seg) (Err (troubles.Refused refusals.TooMany)) thins.can call).rises) f.rises

        tried_seen : seen_with M G tried after ≡ R
        tried_seen = seen_same M G by gmi middle after (OpenSegment seg) (Err (troubles.Refused refusals.TooMany)) thins.can call tried_same

        vain_seen : seen_with M G new later ≡ R
        vain_seen = f.seen ∙ tried_seen

        vain_denied : option_map (λ (h : Segments). h.denied) (segments_of (M.held later)) ≡ option_map (λ (h : Segments). h.denied) told
        vain_denied = f.denied ∙ denied_after M G by gmi middle after (OpenSegment seg) (Err (troubles.Refused refusals.TooMany)) thins.can call

        -- the machine below, as it was asked
        abbrev asked_at : Machine
        asked_at = G.machine gmi (M.held after)

        none_there : OutcomeAt (segments_of (M.held after)) asked_at (G.forest by.gmi (M.held middle)) (OpenSegment seg) (Err (troubles.Refused refusals.TooMany)) asked_at
            (call_is M G by gmi middle after (OpenSegment seg) (Err (troubles.Refused refusals.TooMany)) thins.can call).rises
        none_there =
            subst (λ (x : Machine). OutcomeAt (segments_of (M.held after)) x (G.forest by.gmi (M.held middle)) (OpenSegment seg) (Err (troubles.Refused refusals.TooMany)) asked_at
            (call_is M G by gmi middle after (OpenSegment seg) (Err (troubles.Refused refusals.TooMany)) thins.can call).rises)
            (sym tried_same) (call_is M G by gmi middle after (OpenSegment seg) (Err (troubles.Refused refusals.TooMany)) thins.can call).is.outcome

        tried_tied : AreTied asked_at (segments_of (M.held after)) by.caches.items by.kept.items by.kept.room by.regions.items
        tried_tied = (can_same M G by gmi middle after (OpenSegment seg) (Err (troubles.Refused refusals.TooMany)) thins.can call tried_same).tied

        fails : IsFailing (segments_of (M.held later)) (state_of G old (M.held before)) (state_of G new (M.held later)) (commands.Plain (OpenSegment seg)) f.at vain_rises
        fails =
            failing asked_at by.caches.items by.kept.items by.kept.room by.regions.items f.first f.rest f.kept (G.forest gmi (M.held after)) (G.machine new.gmi (M.held later)) f.at f.rises vain_rises (commands.Plain (OpenSegment seg)) (state_of G old (M.held before)) (state_of G new (M.held later))
            (segments_of (M.held after)) (segments_of (M.held later)) f.denied tried_tied (sym seen_by ∙ sym tried_seen) f.seen f.fault
            (open_none asked_at by.caches.items by.kept.items by.kept.room by.regions.items (segments_of (M.held after)) tried_tied (G.forest by.gmi (M.held middle)) asked_at
            (call_is M G by gmi middle after (OpenSegment seg) (Err (troubles.Refused refusals.TooMany)) thins.can call).rises seg anew_by none_there)

        -- the definition's machine has no cache of the segment
        number_fails : number_in 1 fails.whole.memory.caches seg.0 ≡ None
        number_fails = of_seen (segments_of (M.held later)) fails.seen
          where
            of_seen : (now : Option Segments) → AreSeen now (state_of G old (M.held before)) (state_of G new (M.held later)) fails.whole fails.whole → number_in 1 fails.whole.memory.caches seg.0 ≡ None
            of_seen (Some h) seen = ap (λ (r : ReferenceMachine). number_in 1 r.memory.caches seg.0) (sym seen.0 ∙ sym seen_by) ∙ number_R
            of_seen None seen = sym (number_blank seg.0 1 fails.whole.memory.caches) ∙ ap (λ (r : ReferenceMachine). number_in 1 r.memory.caches seg.0) (sym seen.0 ∙ sym seen_by) ∙ number_R

        vain_outcome : (h : Segments) → Outcome fails.whole fails.forest (commands.Plain (OpenSegment seg)) h 0 (Err t) fails.whole vain_rises
        vain_outcome h =
            subst (λ (x : Trouble). Outcome fails.whole fails.forest (commands.Plain (OpenSegment seg)) h 0 (Err x) fails.whole vain_rises) (sym f.is)
            (refl, omega (arith, f.failed), open_may fails.whole fails.forest seg h f.at vain_rises (fails.fails h), goes_on_by fails.whole seg 0 f.at number_fails (fails.whole.stored seg.0) refl)

        never_many : t ≡ troubles.Refused refusals.TooMany → ⊥
        never_many e = (let wrong : troubles.Mapper f.at ≡ troubles.Refused refusals.TooMany = sym f.is ∙ e in cc wrong)

        fails_below : FailsBelow M G before old (OpenSegment seg) f.at later new
        fails_below = record {
          gone = thins.gone;
          middle = after;
          by = gmi;
          machine = tried_same ∙ machine_by;
          failing = Destroy f.first.cache;
          is = inr (f.first, f.rest, (ap (drop thins.gone) (sym kept) ∙ sym thins.kept ∙ f.kept), refl);
          call = f.call;
        }

        pub in_vain : Acquires M G before old seg (Err t) later new
        in_vain = record {
          call = stays_by M G before old can later new (commands.Plain (OpenSegment seg)) t vain_rises (record {
            can = f.can;
            made = omega (arith, f.made, made_after M G by gmi middle after (OpenSegment seg) (Err (troubles.Refused refusals.TooMany)) thins.can call, thins.credit, credit_few M G start before start_can);
            limit = ap (λ (x : SegManager Manager). x.limit) f.same ∙ thins.limit;
            many = f.caches ∙ ap (λ (x : Machine). length x.caches) tried_same ∙ as_many;
            rose = rise_then (M.counts before) (M.counts after) (M.counts later) (counts_sum thins.rises (call_is M G by gmi middle after (OpenSegment seg) (Err (troubles.Refused refusals.TooMany)) thins.can call).rises) f.rises
                (rise_then (M.counts before) (M.counts middle) (M.counts after) thins.rises (call_is M G by gmi middle after (OpenSegment seg) (Err (troubles.Refused refusals.TooMany)) thins.can call).rises thins.rose (call_is M G by gmi middle after (OpenSegment seg) (Err (troubles.Refused refusals.TooMany)) thins.can call).rose) f.rose;
            pushed = pushes_then M G before after later old tried (counts_sum thins.rises (call_is M G by gmi middle after (OpenSegment seg) (Err (troubles.Refused refusals.TooMany)) thins.can call).rises) f.rises (subst (HasPages m0) (sym tried_same) has_pages)
                (pushes_then M G before middle after old by thins.rises (call_is M G by gmi middle after (OpenSegment seg) (Err (troubles.Refused refusals.TooMany)) thins.can call).rises has_pages pushes_by
                (pushes_call M G by gmi middle after (OpenSegment seg) (Err (troubles.Refused refusals.TooMany)) thins.can call)) f.pushed;
            seen = vain_seen ∙ seen_by;
            denied = vain_denied ∙ thins.denied;
          }) fails.whole fails.forest (λ r. tt) fails.seen vain_outcome;
          kept = behind_not (HasNoRoomWithout G old.gmi (M.held before) (OpenSegment seg)) (list_any (λ s. s == seg.0) (kept_segments old.kept.items)) seg.0 (kept_segments old.kept.items) (kept_segments new.kept.items) (Err t)
              (not_kept m0 told0 old.caches.items old.kept.items old.kept.room old.regions.items can.tied seg anew)
              (subst (AreBehind Cause (kept_segments old.kept.items)) (sym (ap (λ (x : SegManager Manager). kept_segments x.kept.items) f.same)) kept_behind);
          again = λ k e. absurd (no_cache k e);
          too_many = λ e. absurd (never_many (let s : t ≡ troubles.Refused refusals.TooMany = cc e in s));
          fault = λ at e. (let s : t ≡ troubles.Mapper at = cc e in let both : troubles.Mapper f.at ≡ troubles.Mapper at = sym f.is ∙ s in let is : f.at ≡ at = cc both in
              subst (λ (x : FaultAt). FailsBelow M G before old (OpenSegment seg) x later new) is fails_below);
        }

    -- It was asked, and wasn't opened.
    module _ (t : Trouble) (after : X) (gmi : Manager) (call : MapperCall M (meanings_of G) middle by.gmi (OpenSegment seg) (Err t) after gmi) where
      abbrev left : SegManager Manager
      left = record by { gmi = gmi }

      abbrev n : Machine
      n = G.machine gmi (M.held after)

      abbrev then_told : Option Segments
      then_told = segments_of (M.held after)

      same : n ≡ m
      same = open_leaves M G by middle thins.can seg anew_by t after gmi call

      abbrev its_rises : MapperCounts
      its_rises = (call_is M G by gmi middle after (OpenSegment seg) (Err t) thins.can call).rises

      abbrev rises : MapperCounts
      rises = counts_sum thins.rises its_rises

      abbrev Says : ReferenceMachine → Trouble → Segments → Type 0
      Says r x h = Outcome r None (commands.Plain (OpenSegment seg)) h 0 (Err x) r rises

      asked_for : OutcomeAt then_told m (forest M G by gmi middle after (OpenSegment seg) (Err t) thins.can call) (OpenSegment seg) (Err t) n its_rises
      asked_for = (call_is M G by gmi middle after (OpenSegment seg) (Err t) thins.can call).is.outcome

      seen_then : seen_with M G left after ≡ R
      seen_then = seen_same M G by gmi middle after (OpenSegment seg) (Err t) thins.can call same

      lacking : left.kept.items ≡ [] → t ≡ troubles.Refused refusals.TooMany → IsLacking then_told (state_of G old (M.held before)) (state_of G left (M.held after)) (commands.Plain (OpenSegment seg))
      lacking none e =
          open_lacks m by.caches.items by.kept.items by.kept.room by.regions.items none (forest M G by gmi middle after (OpenSegment seg) (Err t) thins.can call) n its_rises (state_of G old (M.held before)) (state_of G left (M.held after))
          told then_told thins.can.tied (told_after M G by gmi middle after (OpenSegment seg) (Err t) thins.can call) (sym seen_by) seen_then seg anew_by
          (subst (λ (x : Trouble). OutcomeAt then_told m (forest M G by gmi middle after (OpenSegment seg) (Err t) thins.can call) (OpenSegment seg) (Err x) n its_rises) e asked_for)

      denied_then : option_map (λ (h : Segments). h.denied) then_told ≡ option_map (λ (h : Segments). h.denied) told
      denied_then = denied_after M G by gmi middle after (OpenSegment seg) (Err t) thins.can call

      stays : Stays M G before old can after left rises
      stays = record {
        can = can_same M G by gmi middle after (OpenSegment seg) (Err t) thins.can call same;
        made = omega (arith, made_after M G by gmi middle after (OpenSegment seg) (Err t) thins.can call, thins.credit, credit_few M G start before start_can);
        limit = thins.limit;
        many = ap (λ (x : Machine). length x.caches) same ∙ as_many;
        rose = rise_then (M.counts before) (M.counts middle) (M.counts after) thins.rises its_rises thins.rose (call_is M G by gmi middle after (OpenSegment seg) (Err t) thins.can call).rose;
        pushed = pushes_then M G before middle after old by thins.rises its_rises has_pages pushes_by (pushes_call M G by gmi middle after (OpenSegment seg) (Err t) thins.can call);
        seen = seen_then ∙ seen_by;
        denied = denied_then ∙ thins.denied;
      }

      -- of what is seen
      so : ((h : Segments) → Says R t h) → SegmentCall M G before old (commands.Plain (OpenSegment seg)) (Err t) after left
      so says = stays_call M G before old can after left (commands.Plain (OpenSegment seg)) t rises stays (λ r. tt) (λ h. subst (λ (r : ReferenceMachine). Says r t h) seen_by (says h))

      said : (t ≡ troubles.Refused refusals.TooMany → left.kept.items ≡ []) → Ends then_told m seg.0 (Err t) n its_rises → SegmentCall M G before old (commands.Plain (OpenSegment seg)) (Err t) after left
      said kept (made p) = absurd (let wrong : Err t ≡ Ok (replies.Cache (record { 0 = number_next m })) = p.answer in cc wrong)
      said kept (many e s) =
          let is : t ≡ troubles.Refused refusals.TooMany = cc e in
          let L = lacking (kept is) is in
          stays_by M G before old can after left (commands.Plain (OpenSegment seg)) t rises stays L.whole None (λ r. tt) L.seen (λ h. subst (λ (x : Trouble). Says L.whole x h) (sym is) (inl (refl, L.lacks)))
      said kept (nowhere e s none) =
          so (λ h. subst (λ (x : Trouble). Says R x h) (let is : troubles.Refused refusals.NoSegment ≡ t = cc e in is)
          (nowhere_row R seg.0 0 number_R (stored_nothing told m by.caches.items seg.0
          (stored_as m told then_told by.caches.items by.kept.items by.kept.room by.regions.items thins.can.tied seg anew_by (told_after M G by gmi middle after (OpenSegment seg) (Err t) thins.can call) None none))))
      said kept (failed e s some few) =
          so (λ h. subst (λ (x : Trouble). Says R x h) (let is : troubles.Mapper faults.Opening ≡ t = cc e in is)
          (refl, omega (arith, some), (number_R, omega (arith, few, seen_length told m by.caches.items)), goes_on_by R seg 0 faults.Opening number_R (R.stored seg.0) refl))
      said kept (lacks e s) = so (λ h. subst (λ (x : Trouble). Says R x h) (let is : troubles.Memory ≡ t = cc e in is) (refl, tt, tt))

      pub not_opened : (t ≡ troubles.Refused refusals.TooMany → left.kept.items ≡ []) → Acquires M G before old seg (Err t) after left
      not_opened none = record {
        call = said none (open_ended M G by middle thins.can seg anew_by (Err t) after gmi call);
        kept = behind_not (HasNoRoomWithout G old.gmi (M.held before) (OpenSegment seg)) (list_any (λ s. s == seg.0) (kept_segments old.kept.items)) seg.0 (kept_segments old.kept.items) (kept_segments left.kept.items) (Err t)
            (not_kept m0 told0 old.caches.items old.kept.items old.kept.room old.regions.items can.tied seg anew) kept_behind;
        again = λ k e. absurd (no_cache k e);
        too_many = λ e. (let is : t ≡ troubles.Refused refusals.TooMany = cc e in (
          none is,
          refused_again then_told m n (forest M G by gmi middle after (OpenSegment seg) (Err t) thins.can call) (G.forest gmi (M.held after)) (OpenSegment seg) (λ x f g h. refl) t its_rises same asked_for is,
        ));
        fault = λ at e. record {
          gone = thins.gone;
          middle = middle;
          by = by.gmi;
          machine = machine_by;
          failing = OpenSegment seg;
          is = inl refl;
          call = subst (λ (x : Trouble). MapperCall M (meanings_of G) middle by.gmi (OpenSegment seg) (Err x) after gmi) (let s : t ≡ troubles.Mapper at = cc e in s) call;
        };
      }

    -- It was opened, and is noted.
    module _ (cache : CacheId) (after : X) (gmi : Manager) (call : MapperCall M (meanings_of G) middle by.gmi (OpenSegment seg) (Ok (replies.Cache cache)) after gmi) (later : SegManager Manager)
        (pushed : later.caches.items ≡ by.caches.items ++ (record { seg = seg; cache = cache; openings = 1 }) ∷ []) (roomy : length by.caches.items + 1 ≤ by.kept.room) where
      abbrev d : Named
      d = record { seg = seg; cache = cache; openings = 1 }

      abbrev then_caches : SegManager Manager
      then_caches = record by { caches = later.caches }

      abbrev final : SegManager Manager
      final = record then_caches { gmi = gmi }

      abbrev told_then : Option Segments
      told_then = segments_of (M.held after)

      abbrev n' : Machine
      n' = G.machine gmi (M.held after)

      abbrev open_rises : MapperCounts
      open_rises = (call_is M G by gmi middle after (OpenSegment seg) (Ok (replies.Cache cache)) thins.can call).rises

      p : IsOpen told_then m seg.0 (Ok (replies.Cache cache)) n'
      p = opened_of told_then m seg.0 cache n' open_rises (open_ended M G by middle thins.can seg anew_by (Ok (replies.Cache cache)) after gmi call)

      number_is : cache.0 ≡ number_next m
      number_is = let same : cache ≡ (let x : CacheId = record { 0 = number_next m } in x) = cc p.answer in ap (λ (x : CacheId). x.0) same

      tied_final : AreTied n' told_then later.caches.items by.kept.items by.kept.room by.regions.items
      tied_final =
          subst (λ (x : Machine). AreTied x told_then later.caches.items by.kept.items by.kept.room by.regions.items) (sym p.next)
          (subst (λ (cs : List Named). AreTied (appended m (opened seg.0 p.pages)) told_then cs by.kept.items by.kept.room by.regions.items) (sym pushed)
          (tied_anew m told by.caches.items by.kept.items by.kept.room by.regions.items thins.can.tied seg (sym anew_by) p.pages d refl number_is refl told_then roomy
          (subst (λ (x : Machine). IfSome told_then (λ t. AreBacked x.caches t)) p.next (backed_next M G by gmi middle after (OpenSegment seg) (Ok (replies.Cache cache)) thins.can call))))

      -- the numbers rise still
      named_final : AreNamed later.caches.items
      named_final = tied_named n' told_then later.caches.items by.kept.items by.kept.room by.regions.items tied_final

      one_more : length n'.caches ≡ length m.caches + 1
      one_more = omega (arith, ap (λ (x : Machine). length x.caches) p.next, length-append m.caches (Some (opened seg.0 p.pages) ∷ []))

      final_can : CanCall G final (M.held after) (M.page_bytes after)
      final_can = able_after M G by gmi middle after (OpenSegment seg) (Ok (replies.Cache cache)) thins.can call then_caches (omega (arith, one_more, p.few)) tied_final

      abbrev whole : ReferenceMachine
      whole = whole_for told R p.pages

      abbrev next : ReferenceMachine
      next = opened_next whole (number_next m) seg p.pages

      whole_memory : whole.memory.caches ≡ used (whole_of m told by.caches.items) 1 m.caches
      whole_memory = whole_caches told R p.pages ∙ caches_seen told m by.caches.items

      leads : (h : Segments) (rises : MapperCounts) → (number : ℕ) × Outcome whole None (commands.Plain (OpenSegment seg)) h number (Ok (replies.Cache cache)) next rises
      leads h rises = (
        number_next m,
        (
          (
            omega arith,
            numbered_past whole.memory.caches (number_next m) (omega (arith, ap length whole_memory, length_used (whole_of m told by.caches.items) 1 m.caches)),
          ),
          anew_row whole seg.0 (number_next m) p.pages
              (ap (λ (xs : Caches). number_in 1 xs seg.0) whole_memory ∙ number_unseen m told by.caches.items by.kept.items by.kept.room by.regions.items thins.can.tied seg anew_by)
              (whole_stored told m by.caches.items seg.0 p.pages (stored_as m told told_then by.caches.items by.kept.items by.kept.room by.regions.items thins.can.tied seg anew_by
              (told_after M G by gmi middle after (OpenSegment seg) (Ok (replies.Cache cache)) thins.can call) (Some p.pages) p.held))
              ∙ ap (λ (x : Answered). x) (λ i. reply_cache (sym number_is i) next),
        ),
      )

      open_denied : option_map (λ (h : Segments). h.denied) told_then ≡ option_map (λ (h : Segments). h.denied) told
      open_denied = denied_after M G by gmi middle after (OpenSegment seg) (Ok (replies.Cache cache)) thins.can call

      all_pushed : Pushes M G before old after (counts_sum thins.rises open_rises)
      all_pushed = pushes_then M G before middle after old by thins.rises open_rises has_pages pushes_by (pushes_call M G by gmi middle after (OpenSegment seg) (Ok (replies.Cache cache)) thins.can call)

      pub was_opened : Acquires M G before old seg (Ok cache) after final
      was_opened = record {
        call = record {
          can = final_can;
          made = omega (arith, made_after M G by gmi middle after (OpenSegment seg) (Ok (replies.Cache cache)) thins.can call, thins.credit, credit_few M G start before start_can);
          limit = thins.limit;
          one = omega (arith, one_more, as_many);
          rises = counts_sum thins.rises open_rises;
          rose = rise_then (M.counts before) (M.counts middle) (M.counts after) thins.rises open_rises thins.rose (call_is M G by gmi middle after (OpenSegment seg) (Ok (replies.Cache cache)) thins.can call).rose;
          is = record {
            step = step_whole (state_of G old (M.held before)) (state_of G final (M.held after)) (commands.Plain (OpenSegment seg)) (Ok (replies.Cache cache)) (counts_sum thins.rises open_rises) whole next None (λ r. tt)
                (λ h. leads h (counts_sum thins.rises open_rises))
                (seen_opened told told_then m n' by.caches.items by.kept.items by.kept.room by.regions.items thins.can.tied seg anew_by p.pages d refl number_is refl
                (told_after M G by gmi middle after (OpenSegment seg) (Ok (replies.Cache cache)) thins.can call) p.next (blank_told (M.held middle) m thins.can.blank) (blank_told (M.held after) n' final_can.blank)
                (state_of G old (M.held before)) (state_of G final (M.held after)) (sym seen_by) (ap (references_seen n' told_then) pushed));
            pushed = pushed_by told0 told_then m0 old.caches.items all_pushed.pushes (counts_sum thins.rises open_rises) all_pushed.few all_pushed.rule (state_of G old (M.held before)) (state_of G final (M.held after)) refl refl refl;
            live = live_seen M G final after final_can;
            denied = open_denied ∙ thins.denied;
          };
        };
        kept = behind_not (HasNoRoomWithout G old.gmi (M.held before) (OpenSegment seg)) (list_any (λ s. s == seg.0) (kept_segments old.kept.items)) seg.0 (kept_segments old.kept.items) (kept_segments final.kept.items) (Ok cache)
            (not_kept m0 told0 old.caches.items old.kept.items old.kept.room old.regions.items can.tied seg anew) kept_behind;
        again = λ k e. absurd (no_cache k e);
        too_many = λ e. absurd (cc e);
        fault = λ at e. absurd (cc e);
      }

  -- There was no memory to note it.
  pub lacks_start : Acquires M G before old seg (Err troubles.Memory) before start
  lacks_start = record {
    call = stays_call M G before old can before start (commands.Plain (OpenSegment seg)) troubles.Memory no_counts (record {
      can = start_can;
      made = omega arith;
      limit = refl;
      many = refl;
      rose = rise_none (M.counts before);
      pushed = pushes_none M G before old no_counts;
      seen = ap (references_seen m0 told0) caches;
      denied = refl;
    }) (λ r. tt) (λ h. (refl, tt, tt));
    kept = behind_not (HasNoRoomWithout G old.gmi (M.held before) (OpenSegment seg)) (list_any (λ s. s == seg.0) (kept_segments old.kept.items)) seg.0 (kept_segments old.kept.items) (kept_segments start.kept.items) (Err troubles.Memory)
        (not_kept m0 told0 old.caches.items old.kept.items old.kept.room old.regions.items can.tied seg anew) (none_gone (HasNoRoomWithout G old.gmi (M.held before) (OpenSegment seg)) (kept_segments old.kept.items) (kept_segments start.kept.items) (ap kept_segments kept));
    again = λ k e. absurd (let wrong : None ≡ Some k = sym (number_below m0 told0 old.caches.items old.kept.items old.kept.room old.regions.items can.tied seg anew) ∙ e in cc wrong);
    too_many = λ e. absurd (cc e);
    fault = λ at e. absurd (cc e);
  }

  -- What the tries came to
  pub tried_not : (t : Trouble) (after : X) (s2 : SegManager Manager) → IsTried M G (OpenSegment seg) before start (Err t) after s2 → Acquires M G before old seg (Err t) after s2
  tried_not t after s2 (inl r) =
      let tr : Tries M G (OpenSegment seg) before start (Err t) after s2 = r.0 in
      subst (λ (x : SegManager Manager). Acquires M G before old seg (Err t) after x) (sym tr.same)
      (not_opened tr.middle tr.by tr.trying t after s2.gmi tr.call (λ e. sym (ap (λ (x : SegManager Manager). x.kept.items) tr.same) ∙ r.1 e))
  tried_not t after s2 (inr v) =
      in_vain v.tries.middle v.tries.by v.tries.trying v.middle v.by.gmi v.tries.call t after s2
      (subst (λ (x : SegManager Manager). Fails M G v.middle x t after s2) v.tries.same v.fails)

  pub tried_ok : (cache : CacheId) (after : X) (s2 new : SegManager Manager) → length s1.caches.items + 1 ≤ s1.kept.room → IsTried M G (OpenSegment seg) before start (Ok cache) after s2
      → new.caches.items ≡ s2.caches.items ++ (record { seg = seg; cache = cache; openings = 1 }) ∷ [] → new ≡ record s2 { caches = new.caches } → Acquires M G before old seg (Ok cache) after new
  tried_ok cache after s2 new all tr pushed same =
      subst (λ (x : SegManager Manager). Acquires M G before old seg (Ok cache) after x) (sym (same ∙ (λ i. record (tr.same i) { caches = new.caches })))
      (was_opened tr.middle tr.by tr.trying cache after s2.gmi tr.call new
      (pushed ∙ ap (λ (x : SegManager Manager). x.caches.items ++ (record { seg = seg; cache = cache; openings = 1 }) ∷ []) tr.same)
      (omega (arith, all, tr.trying.thins.few, tr.trying.thins.fits)))

  pub tried_named : (cache : CacheId) (after : X) (s2 : SegManager Manager) → length s1.caches.items + 1 ≤ s1.kept.room → IsTried M G (OpenSegment seg) before start (Ok cache) after s2
      → AreNamed (s2.caches.items ++ (record { seg = seg; cache = cache; openings = 1 }) ∷ [])
  tried_named cache after s2 all tr =
      subst (λ (x : SegManager Manager). AreNamed (x.caches.items ++ (record { seg = seg; cache = cache; openings = 1 }) ∷ [])) (sym tr.same)
      (named_final tr.middle tr.by tr.trying cache after s2.gmi tr.call (record tr.by { caches = record tr.by.caches { items = tr.by.caches.items ++ (record { seg = seg; cache = cache; openings = 1 }) ∷ [] } }) refl
      (omega (arith, all, tr.trying.thins.few, tr.trying.thins.fits)))

  pub tried_spare : (cache : CacheId) (after : X) (s2 : SegManager Manager) → 1 ≤ s1.caches.spare → IsTried M G (OpenSegment seg) before start (Ok cache) after s2 → 1 ≤ s2.caches.spare
  tried_spare cache after s2 some tr = omega (arith, some, tr.trying.thins.spare, ap (λ (x : SegManager Manager). x.caches.spare) tr.same)

  -- The same by the calls that it makes
  module _ (is : s1 ≡ start) where
    pub lacks_by : Acquires M G before old seg (Err troubles.Memory) before s1
    lacks_by = subst (λ (x : SegManager Manager). Acquires M G before old seg (Err troubles.Memory) before x) (sym is) lacks_start

    pub can_by : CanCall G s1 (M.held before) (M.page_bytes before)
    can_by = subst (λ (x : SegManager Manager). CanCall G x (M.held before) (M.page_bytes before)) (sym is) start_can

    pub credit_by : G.made old.gmi ≤ 2 ^ 61 → credit M G s1 before ≤ 2 ^ 61 + 2 ^ 32
    credit_by h = subst (λ (x : SegManager Manager). credit M G x before ≤ 2 ^ 61 + 2 ^ 32) (sym is) (start_credit h)

    pub not_by : (t : Trouble) (after : X) (s2 : SegManager Manager) → IsTried M G (OpenSegment seg) before s1 (Err t) after s2 → Acquires M G before old seg (Err t) after s2
    not_by t after s2 tried = tried_not t after s2 (subst (λ (x : SegManager Manager). IsTried M G (OpenSegment seg) before x (Err t) after s2) is tried)

    pub named_by : (cache : CacheId) (after : X) (s2 : SegManager Manager) → length s1.caches.items + 1 ≤ s1.kept.room → IsTried M G (OpenSegment seg) before s1 (Ok cache) after s2
        → AreNamed (s2.caches.items ++ (record { seg = seg; cache = cache; openings = 1 }) ∷ [])
    named_by cache after s2 all tried = tried_named cache after s2 all (subst (λ (x : SegManager Manager). IsTried M G (OpenSegment seg) before x (Ok cache) after s2) is tried)

    pub spare_by : (cache : CacheId) (after : X) (s2 : SegManager Manager) → 1 ≤ s1.caches.spare → IsTried M G (OpenSegment seg) before s1 (Ok cache) after s2 → 1 ≤ s2.caches.spare
    spare_by cache after s2 some tried = tried_spare cache after s2 some (subst (λ (x : SegManager Manager). IsTried M G (OpenSegment seg) before x (Ok cache) after s2) is tried)

    pub ok_by : (cache : CacheId) (after : X) (s2 new : SegManager Manager) → length s1.caches.items + 1 ≤ s1.kept.room → IsTried M G (OpenSegment seg) before s1 (Ok cache) after s2
        → new.caches.items ≡ s2.caches.items ++ (record { seg = seg; cache = cache; openings = 1 }) ∷ [] → new ≡ record s2 { caches = new.caches } → Acquires M G before old seg (Ok cache) after new
    ok_by cache after s2 new all tried pushed same = tried_ok cache after s2 new all (subst (λ (x : SegManager Manager). IsTried M G (OpenSegment seg) before x (Ok cache) after s2) is tried) pushed same
