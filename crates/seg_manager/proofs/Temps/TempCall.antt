-- A temporary cache is made: what that call of the manager of segments comes to.
use Rattle.std.proofs.Common.{◌≡◌, ◌⊎◌, inl, inr, ℕ, ◌+◌, ◌^◌, ◌≤◌, List, [], ◌∷◌, length, take, Option, Some, None, refl, sym, ap, subst, ◌∙◌, arith}
use Rattle.std.specs.Prelude.{IfNone, IfSome, Ok, Err, Result}
use Rattle.std.proofs.lemmas.List.{drop-map, length-append, length-map}
use Rattle.vm_ids.specs.declared.command.Command.TheVariants.{Destroy, MakeTemp}
use Rattle.vm_ids.specs.declared.command.KeepCommand.TheVariants as commands
use Rattle.vm_ids.specs.declared.refusal.Refusal.TheVariants as refusals
use Rattle.vm_ids.specs.declared.reply.Reply.TheVariants as replies
use Rattle.vm_ids.specs.declared.reply.Trouble.TheVariants as troubles
use Rattle.gmi_calls.proofs.Rising.{rise_then}
use Rattle.interface_callers.proofs.Words.{Answer, AreBacked, CacheId, FaultAt, GhostsOfGmi, GhostsOfMapper, Machine, MapperCall, MapperCounts, OutcomeAt, Page, PageForest, Segments, Trouble, answer_by, blank, counts_sum, meanings_of, seen_at, segments_of, temporary}
use Rattle.interface_callers.proofs.Making.{IsMade, few_caches, fresh_cache, made_at, seen_made, unmade_at}
use Rattle.seg_manager.specs.Answering.{make_temp_of, reply_cache}
use Rattle.seg_manager.specs.Calling.{FailsBelow, HasNoRoomWithout, SegmentCall, Serves}
use Rattle.seg_manager.specs.Keeping.{AreBehind}
use Rattle.seg_manager.specs.Outcome.{FailsToMakeRoom, IsWanted, Outcome}
use Rattle.seg_manager.specs.ReferenceMachine.{ReferenceMachine, add_cache}
use Rattle.seg_manager.specs.Seen.{kept_segments, references_seen, state_of}
use Rattle.seg_manager.specs.Thinning.{Fails, IsTried, Pushes, Thins, Tries, credit, machine_at, seen_with, Trying}
use Rattle.seg_manager.specs.Tying.{AreTied, CanCall}
use Rattle.seg_manager.specs.declared.manager.SegManager.{SegManager}
use Rattle.seg_manager.specs.declared.tables.Kept.{Kept}
use Rattle.seg_manager.specs.declared.tables.Named.{Named}
use Rattle.seg_manager.proofs.Calling.CallAgain.{able_after, backed_next, call_is, denied_after, forest, made_after, told_after}
use Rattle.seg_manager.proofs.Room.Failing.{IsFailing, failing, temp_none}
use Rattle.seg_manager.proofs.Room.Lacking.{IsLacking, temp_lacks}
use Rattle.seg_manager.proofs.Leaves.ReferencesGone.{credit_few, seen_length}
use Rattle.seg_manager.proofs.Seeing.LivePages.{live_seen}
use Rattle.seg_manager.proofs.Opens.Outcome.{appended, number_next}
use Rattle.seg_manager.proofs.Calling.Pushed.{Told}
use Rattle.seg_manager.proofs.Calling.Pushing.{HasPages, pages_of, pushed_by, pushes_call, pushes_then}
use Rattle.seg_manager.proofs.Leaves.CloseCall.{blank_told}
use Rattle.seg_manager.proofs.Calling.Staying.{Stays, refused_again, stays_by, stays_call}
use Rattle.seg_manager.proofs.Seeing.Steps.{AreSeen, step_whole}
use Rattle.seg_manager.proofs.Temps.TempLeaves.{temp_leaves}
use Rattle.seg_manager.proofs.Temps.TempSeen.{nameless, seen_temp, tied_temp}
use Rattle.seg_manager.proofs.Room.Tried.{can_same, seen_same}

-- The rows of the definition

temp_row : (r : ReferenceMachine) (pages number : ℕ) → make_temp_of r pages number ≡ reply_cache number (add_cache r number (temporary r.memory.page_bytes pages))
unfolding make_temp_of
temp_row r pages number = refl

lacks_row : (r : ReferenceMachine) (pages number : ℕ) → IsWanted (commands.Plain (MakeTemp pages)) (make_temp_of r pages number).answer
unfolding make_temp_of
lacks_row r pages number = tt

seen_bytes : (told : Option Segments) (m : Machine) (cs : List Named) → (references_seen m told cs).memory.page_bytes ≡ m.page_bytes
seen_bytes None m cs = refl
seen_bytes (Some h) m cs = refl

-- which trouble it is
abbrev IsTempTrouble : Trouble → Type 0
IsTempTrouble t = (t ≡ troubles.Refused refusals.TooMany) ⊎ (t ≡ troubles.Memory)

which_at : (told : Option Segments) (m n : Machine) (f : Option PageForest) (pages : ℕ) (t : Trouble) (rises : MapperCounts) → OutcomeAt told m f (MakeTemp pages) (Err t) n rises → IsTempTrouble t
which_at told m n f pages t rises o = elim (unmade_at told m f pages t n rises o).why [
  | inl e ↦ inr (let both : Err t ≡ Err troubles.Memory = e.0 in cc both)
  | inr e ↦ inl (let both : Err t ≡ Err (troubles.Refused refusals.TooMany) = e.0 in cc both)
]

module _ {Manager X Chooser : Type 0} (M : GhostsOfMapper X) (G : GhostsOfGmi Manager X Chooser) (before : X) (old : SegManager Manager) (pages : ℕ) (can : CanCall G old (M.held before) (M.page_bytes before)) where
  pub temp_credit : G.made old.gmi ≤ 2 ^ 61 → credit M G old before ≤ 2 ^ 61 + 2 ^ 32
  temp_credit h = omega (arith, h, credit_few M G old before can)

  module _ (middle : X) (by : SegManager Manager) (trying : Trying M G (MakeTemp pages) before old middle by) where
    abbrev thins : Thins M G before old middle by
    thins = trying.thins

    abbrev m : Machine
    m = machine_at M G by middle

    abbrev told : Option Segments
    told = segments_of (M.held middle)

    abbrev R : ReferenceMachine
    R = seen_with M G old before

    as_many : length m.caches ≡ length (machine_at M G old before).caches
    as_many = sym (seen_length told m by.caches.items) ∙ ap (λ (r : ReferenceMachine). length r.memory.caches) thins.seen ∙ seen_length (segments_of (M.held before)) (machine_at M G old before) old.caches.items

    has_pages : HasPages (machine_at M G old before) m
    has_pages = pages_of M G before middle old by (take thins.gone (kept_segments old.kept.items)) thins.machine

    abbrev Cause : List ℕ → Type 0
    Cause = HasNoRoomWithout G old.gmi (M.held before) (MakeTemp pages)

    kept_behind : AreBehind Cause (kept_segments old.kept.items) (kept_segments by.kept.items)
    kept_behind = record {
      gone = thins.gone;
      is = ap kept_segments thins.kept ∙ sym (drop-map (λ (k : Kept). k.seg.0) thins.gone old.kept.items);
      few = omega (arith, thins.gone_few, length-map old.kept.items (λ (k : Kept). k.seg.0));
      cause = trying.cause;
    }

    -- It was asked, and made none.
    module _ (t : Trouble) (after : X) (gmi : Manager) (call : MapperCall M (meanings_of G) middle by.gmi (MakeTemp pages) (Err t) after gmi) where
      abbrev left : SegManager Manager
      left = record by { gmi = gmi }

      same : machine_at M G left after ≡ m
      same = temp_leaves M G by middle thins.can pages t after gmi call

      abbrev its_rises : MapperCounts
      its_rises = (call_is M G by gmi middle after (MakeTemp pages) (Err t) thins.can call).rises

      abbrev rises : MapperCounts
      rises = counts_sum thins.rises its_rises

      stays : Stays M G before old can after left rises
      stays = record {
        can = can_same M G by gmi middle after (MakeTemp pages) (Err t) thins.can call same;
        made = omega (arith, made_after M G by gmi middle after (MakeTemp pages) (Err t) thins.can call, thins.credit, credit_few M G old before can);
        limit = thins.limit;
        many = ap (λ (x : Machine). length x.caches) same ∙ as_many;
        rose = rise_then (M.counts before) (M.counts middle) (M.counts after) thins.rises its_rises thins.rose (call_is M G by gmi middle after (MakeTemp pages) (Err t) thins.can call).rose;
        pushed = pushes_then M G before middle after old by thins.rises its_rises has_pages thins.pushed (pushes_call M G by gmi middle after (MakeTemp pages) (Err t) thins.can call);
        seen = seen_same M G by gmi middle after (MakeTemp pages) (Err t) thins.can call same ∙ thins.seen;
        denied = denied_after M G by gmi middle after (MakeTemp pages) (Err t) thins.can call ∙ thins.denied;
      }

      asked_for : OutcomeAt (segments_of (M.held after)) m (forest M G by gmi middle after (MakeTemp pages) (Err t) thins.can call) (MakeTemp pages) (Err t) (machine_at M G left after) its_rises
      asked_for = (call_is M G by gmi middle after (MakeTemp pages) (Err t) thins.can call).is.outcome

      lacking : left.kept.items ≡ [] → t ≡ troubles.Refused refusals.TooMany → IsLacking (segments_of (M.held after)) (state_of G old (M.held before)) (state_of G left (M.held after)) (commands.Plain (MakeTemp pages))
      lacking none e =
          temp_lacks m by.caches.items by.kept.items by.kept.room by.regions.items none (forest M G by gmi middle after (MakeTemp pages) (Err t) thins.can call) (machine_at M G left after) its_rises (state_of G old (M.held before)) (state_of G left (M.held after))
          told (segments_of (M.held after)) thins.can.tied (told_after M G by gmi middle after (MakeTemp pages) (Err t) thins.can call) (sym thins.seen) (seen_same M G by gmi middle after (MakeTemp pages) (Err t) thins.can call same) pages
          (subst (λ (x : Trouble). OutcomeAt (segments_of (M.held after)) m (forest M G by gmi middle after (MakeTemp pages) (Err t) thins.can call) (MakeTemp pages) (Err x) (machine_at M G left after) its_rises) e asked_for)

      says : (t ≡ troubles.Refused refusals.TooMany → left.kept.items ≡ []) → IsTempTrouble t → SegmentCall M G before old (commands.Plain (MakeTemp pages)) (Err t) after left
      says none (inl e) =
          let L = lacking (none e) e in
          stays_by M G before old can after left (commands.Plain (MakeTemp pages)) t rises stays L.whole None (λ r. tt) L.seen
          (λ h. subst (λ (x : Trouble). Outcome L.whole None (commands.Plain (MakeTemp pages)) h 0 (Err x) L.whole rises) (sym e) (inl (refl, L.lacks)))
      says none (inr e) =
          stays_call M G before old can after left (commands.Plain (MakeTemp pages)) t rises stays (λ r. tt)
          (λ h. subst (λ (x : Trouble). Outcome R None (commands.Plain (MakeTemp pages)) h 0 (Err x) R rises) (sym e) (refl, tt, lacks_row R pages 0))

      pub not_made : (t ≡ troubles.Refused refusals.TooMany → left.kept.items ≡ []) → Serves M G before old (MakeTemp pages) (Err t) after left
      not_made none = record {
        call = says none (which_at (segments_of (M.held after)) m (machine_at M G left after) (forest M G by gmi middle after (MakeTemp pages) (Err t) thins.can call) pages t its_rises asked_for);
        kept = (
          kept_behind,
          (λ e. (let is : t ≡ troubles.Refused refusals.TooMany = cc e in (
            none is,
            refused_again (segments_of (M.held after)) m (machine_at M G left after) (forest M G by gmi middle after (MakeTemp pages) (Err t) thins.can call) (G.forest gmi (M.held after)) (MakeTemp pages) (λ x f g h. refl) t its_rises same asked_for is,
          ))),
          (λ at e. record {
            gone = thins.gone;
            middle = middle;
            by = by.gmi;
            machine = thins.machine;
            failing = MakeTemp pages;
            is = inl refl;
            call = subst (λ (a : Answer). MapperCall M (meanings_of G) middle by.gmi (MakeTemp pages) a after gmi) e call;
          }),
        );
      }

    -- Another cache couldn't make room.
    module _ (after : X) (gmi : Manager) (call : MapperCall M (meanings_of G) middle by.gmi (MakeTemp pages) (Err (troubles.Refused refusals.TooMany)) after gmi) (t : Trouble) (later : X) (new : SegManager Manager)
        (f : Fails M G after (record by { gmi = gmi }) t later new) where
      abbrev vain_rises : MapperCounts
      vain_rises = counts_sum (rises (troubles.Refused refusals.TooMany) after gmi call) f.rises

      abbrev asked : Stays M G before old can after (record by { gmi = gmi }) (rises (troubles.Refused refusals.TooMany) after gmi call)
      asked = stays (troubles.Refused refusals.TooMany) after gmi call

      vain : Stays M G before old can later new vain_rises
      vain = record {
        can = f.can;
        made = omega (arith, f.made, made_after M G by gmi middle after (MakeTemp pages) (Err (troubles.Refused refusals.TooMany)) thins.can call, thins.credit, credit_few M G old before can);
        limit = ap (λ (x : SegManager Manager). x.limit) f.same ∙ thins.limit;
        many = f.caches ∙ asked.many;
        rose = rise_then (M.counts before) (M.counts after) (M.counts later) (rises (troubles.Refused refusals.TooMany) after gmi call) f.rises asked.rose f.rose;
        pushed = pushes_then M G before after later old (record by { gmi = gmi }) (rises (troubles.Refused refusals.TooMany) after gmi call) f.rises
            (subst (HasPages (machine_at M G old before)) (sym (same (troubles.Refused refusals.TooMany) after gmi call)) has_pages) asked.pushed f.pushed;
        seen = f.seen ∙ asked.seen;
        denied = f.denied ∙ asked.denied;
      }

      -- the machine below, as it was asked
      abbrev asked_at : Machine
      asked_at = G.machine gmi (M.held after)

      none_there : OutcomeAt (segments_of (M.held after)) asked_at (G.forest by.gmi (M.held middle)) (MakeTemp pages) (Err (troubles.Refused refusals.TooMany)) asked_at (its_rises (troubles.Refused refusals.TooMany) after gmi call)
      none_there =
          subst (λ (x : Machine). OutcomeAt (segments_of (M.held after)) x (G.forest by.gmi (M.held middle)) (MakeTemp pages) (Err (troubles.Refused refusals.TooMany)) asked_at (its_rises (troubles.Refused refusals.TooMany) after gmi call))
          (sym (same (troubles.Refused refusals.TooMany) after gmi call)) (asked_for (troubles.Refused refusals.TooMany) after gmi call)

      fails : IsFailing (segments_of (M.held later)) (state_of G old (M.held before)) (state_of G new (M.held later)) (commands.Plain (MakeTemp pages)) f.at vain_rises
      fails =
          failing asked_at by.caches.items by.kept.items by.kept.room by.regions.items f.first f.rest f.kept (G.forest gmi (M.held after)) (machine_at M G new later) f.at f.rises vain_rises (commands.Plain (MakeTemp pages)) (state_of G old (M.held before)) (state_of G new (M.held later))
          (segments_of (M.held after)) (segments_of (M.held later)) f.denied asked.can.tied (sym asked.seen) f.seen f.fault
          (temp_none asked_at by.caches.items (segments_of (M.held after)) (G.forest by.gmi (M.held middle)) asked_at (its_rises (troubles.Refused refusals.TooMany) after gmi call) pages none_there)

      vain_says : (r : ReferenceMachine) (g : Option PageForest) (h : Segments) → FailsToMakeRoom r g (commands.Plain (MakeTemp pages)) h f.at vain_rises → Outcome r g (commands.Plain (MakeTemp pages)) h 0 (Err (troubles.Mapper f.at)) r vain_rises
      unfolding make_temp_of
      vain_says r g h fault = (refl, omega (arith, f.failed), fault, tt)

      never_many : t ≡ troubles.Refused refusals.TooMany → ⊥
      never_many e = (let wrong : troubles.Mapper f.at ≡ troubles.Refused refusals.TooMany = sym f.is ∙ e in cc wrong)

      fails_below : FailsBelow M G before old (MakeTemp pages) f.at later new
      fails_below = record {
        gone = thins.gone;
        middle = after;
        by = gmi;
        machine = same (troubles.Refused refusals.TooMany) after gmi call ∙ thins.machine;
        failing = Destroy f.first.cache;
        is = inr (f.first, f.rest, (sym thins.kept ∙ f.kept), refl);
        call = f.call;
      }

      pub in_vain : Serves M G before old (MakeTemp pages) (Err t) later new
      in_vain = record {
        call = stays_by M G before old can later new (commands.Plain (MakeTemp pages)) t vain_rises vain fails.whole fails.forest (λ r. tt) fails.seen
            (λ h. subst (λ (x : Trouble). Outcome fails.whole fails.forest (commands.Plain (MakeTemp pages)) h 0 (Err x) fails.whole vain_rises) (sym f.is) (vain_says fails.whole fails.forest h (fails.fails h)));
        kept = (
          subst (AreBehind Cause (kept_segments old.kept.items)) (sym (ap (λ (x : SegManager Manager). kept_segments x.kept.items) f.same)) kept_behind,
          (λ e. absurd (never_many (let s : t ≡ troubles.Refused refusals.TooMany = cc e in s))),
          (λ at e. (let s : t ≡ troubles.Mapper at = cc e in let both : troubles.Mapper f.at ≡ troubles.Mapper at = sym f.is ∙ s in let is : f.at ≡ at = cc both in
              subst (λ (x : FaultAt). FailsBelow M G before old (MakeTemp pages) x later new) is fails_below)),
        );
      }

    -- It was made.
    module _ (cache : CacheId) (after : X) (gmi : Manager) (call : MapperCall M (meanings_of G) middle by.gmi (MakeTemp pages) (Ok (replies.Cache cache)) after gmi) where
      abbrev final : SegManager Manager
      final = record by { gmi = gmi }

      abbrev told_then : Option Segments
      told_then = segments_of (M.held after)

      abbrev n : Machine
      n = machine_at M G final after

      abbrev temp_rises : MapperCounts
      temp_rises = (call_is M G by gmi middle after (MakeTemp pages) (Ok (replies.Cache cache)) thins.can call).rises

      made : IsMade told_then m pages (Ok (replies.Cache cache)) n
      made = made_at told_then m (forest M G by gmi middle after (MakeTemp pages) (Ok (replies.Cache cache)) thins.can call) pages (replies.Cache cache) n temp_rises (call_is M G by gmi middle after (MakeTemp pages) (Ok (replies.Cache cache)) thins.can call).is.outcome

      abbrev zeros : List Page
      zeros = (temporary m.page_bytes pages).pages

      abbrev pages_then : List Page
      pages_then = (fresh_cache told_then m.page_bytes pages).pages

      seen_then : n ≡ seen_at told_then (appended m (nameless zeros))
      seen_then = seen_made told_then m n pages (bare told_then (told_after M G by gmi middle after (MakeTemp pages) (Ok (replies.Cache cache)) thins.can call)) made.next
        where
          bare : (now : Option Segments) → Told m told now → IfNone now (m ≡ blank m)
          bare None f = by_told told (blank_told (M.held middle) m thins.can.blank) f
            where
              by_told : (was : Option Segments) → IfNone was (m ≡ blank m) → Told m was None → m ≡ blank m
              by_told None b f = b
              by_told (Some s) b f = absurd (let u = f.some s refl in cc u.1)
          bare (Some h) f = tt

      abbrev next : ReferenceMachine
      next = add_cache R (number_next m) (temporary m.page_bytes pages)

      all_pushed : Pushes M G before old after (counts_sum thins.rises temp_rises)
      all_pushed = pushes_then M G before middle after old by thins.rises temp_rises has_pages thins.pushed (pushes_call M G by gmi middle after (MakeTemp pages) (Ok (replies.Cache cache)) thins.can call)

      gives : (h : Segments) → Outcome R None (commands.Plain (MakeTemp pages)) h (number_next m) (Ok (replies.Cache cache)) next (counts_sum thins.rises temp_rises)
      gives h = (
        omega (arith, ap (λ (r : ReferenceMachine). length r.memory.caches) (sym thins.seen), seen_length told m by.caches.items),
        temp_row R pages (number_next m)
            ∙ (λ i. reply_cache (number_next m) (add_cache R (number_next m) (temporary ((ap (λ (r : ReferenceMachine). r.memory.page_bytes) (sym thins.seen) ∙ seen_bytes told m by.caches.items) i) pages)))
            ∙ (λ i. record { answer = sym made.answer i; next = next }),
      )

      pub was_made : Serves M G before old (MakeTemp pages) (Ok (replies.Cache cache)) after final
      was_made = record {
        call = record {
          can = can_then;
          made = omega (arith, made_after M G by gmi middle after (MakeTemp pages) (Ok (replies.Cache cache)) thins.can call, thins.credit, credit_few M G old before can);
          limit = thins.limit;
          one = omega (arith, one_more, as_many);
          rises = counts_sum thins.rises temp_rises;
          rose = rise_then (M.counts before) (M.counts middle) (M.counts after) thins.rises temp_rises thins.rose (call_is M G by gmi middle after (MakeTemp pages) (Ok (replies.Cache cache)) thins.can call).rose;
          is = record {
            step = step_whole (state_of G old (M.held before)) (state_of G final (M.held after)) (commands.Plain (MakeTemp pages)) (Ok (replies.Cache cache)) (counts_sum thins.rises temp_rises) R next None (λ r. tt)
                (λ h. (number_next m, gives h))
                (subst (λ (r : ReferenceMachine). AreSeen told_then (state_of G old (M.held before)) (state_of G final (M.held after)) r (add_cache r (number_next m) (temporary m.page_bytes pages))) thins.seen
                (seen_temp m zeros told told_then n by.caches.items by.kept.items by.kept.room by.regions.items thins.can.tied
                (told_after M G by gmi middle after (MakeTemp pages) (Ok (replies.Cache cache)) thins.can call) seen_then (blank_told (M.held middle) m thins.can.blank)
                (state_of G old (M.held before)) (state_of G final (M.held after)) (sym thins.seen) refl));
            pushed = pushed_by (segments_of (M.held before)) told_then (machine_at M G old before) old.caches.items all_pushed.pushes (counts_sum thins.rises temp_rises) all_pushed.few all_pushed.rule (state_of G old (M.held before)) (state_of G final (M.held after)) refl refl refl;
            live = live_seen M G final after can_then;
            denied = denied_after M G by gmi middle after (MakeTemp pages) (Ok (replies.Cache cache)) thins.can call ∙ thins.denied;
          };
        };
        kept = (kept_behind, (λ e. absurd (cc e)), (λ at e. absurd (cc e)));
      }
        where
          one_more : length n.caches ≡ length m.caches + 1
          one_more = omega (arith, ap (λ (x : Machine). length x.caches) made.next, length-append m.caches (Some (nameless pages_then) ∷ []))

          tied : AreTied n told_then by.caches.items by.kept.items by.kept.room by.regions.items
          tied =
              subst (λ (x : Machine). AreTied x told_then by.caches.items by.kept.items by.kept.room by.regions.items) (sym made.next)
              (tied_temp m pages_then told told_then by.caches.items by.kept.items by.kept.room by.regions.items thins.can.tied
              (subst (λ (x : Machine). IfSome told_then (λ t. AreBacked x.caches t)) made.next (backed_next M G by gmi middle after (MakeTemp pages) (Ok (replies.Cache cache)) thins.can call)))

          can_then : CanCall G final (M.held after) (M.page_bytes after)
          can_then = able_after M G by gmi middle after (MakeTemp pages) (Ok (replies.Cache cache)) thins.can call by (omega (arith, one_more, few_caches m pages made.room)) tied

  -- What the tries came to
  pub temp_served : (result : Result CacheId Trouble) (after : X) (new : SegManager Manager) → IsTried M G (MakeTemp pages) before old result after new → Serves M G before old (MakeTemp pages) (answer_by replies.Cache result) after new
  temp_served (Ok cache) after new tr =
      subst (λ (x : SegManager Manager). Serves M G before old (MakeTemp pages) (Ok (replies.Cache cache)) after x) (sym tr.same) (was_made tr.middle tr.by tr.trying cache after new.gmi tr.call)
  temp_served (Err t) after new (inl r) =
      let tr : Tries M G (MakeTemp pages) before old (Err t) after new = r.0 in
      subst (λ (x : SegManager Manager). Serves M G before old (MakeTemp pages) (Err t) after x) (sym tr.same)
      (not_made tr.middle tr.by tr.trying t after new.gmi tr.call (λ e. sym (ap (λ (x : SegManager Manager). x.kept.items) tr.same) ∙ r.1 e))
  temp_served (Err t) after new (inr v) =
      in_vain v.tries.middle v.tries.by v.tries.trying v.middle v.by.gmi v.tries.call t after new
      (subst (λ (x : SegManager Manager). Fails M G v.middle x t after new) v.tries.same v.fails)
