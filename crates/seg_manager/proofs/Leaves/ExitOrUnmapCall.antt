-- An actor ends, or a region is taken away: what such a call of the manager of segments comes to.
use Rattle.std.proofs.Common.{◌≡◌, ◌⊎◌, ℕ, ◌+◌, ◌*◌, ◌^◌, ◌≤◌, Bool, true, false, cond, List, [], ◌∷◌, ◌++◌, filter, length, map, Option, Some, None, refl, sym, ap, subst, ◌∙◌, arith, inl, inr}
use Rattle.std.specs.Prelude.{◌||◌, IfNone, Ok, Err, nat_lt, not}
use Rattle.std.specs.List.{list_any}
use Rattle.std.specs.Option.{option_map_or}
use Rattle.std.proofs.lemmas.List.{map-append}
use Rattle.std.proofs.lemmas.List.Folds.{list_any-append}
use Rattle.vm_ids.specs.declared.command.KeepCommand.TheVariants as commands
use Rattle.vm_ids.specs.declared.refusal.Refusal.TheVariants as refusals
use Rattle.vm_ids.specs.declared.reply.Reply.TheVariants as replies
use Rattle.vm_ids.specs.declared.reply.Trouble.TheVariants as troubles
use Rattle.gmi_calls.proofs.Rising.{rise_none}
use Rattle.gmi_calls.proofs.Still.{without_mapper}
use Rattle.interface_callers.proofs.Words.{Actor, Answer, CallDone, GhostsOfGmi, GhostsOfMapper, LIVE_PAGES, Machine, MapperCall, Refusal, Segments, Trouble, blank, is_mapped, meanings_of, no_counts, segment_of, segments_of}
use Rattle.seg_manager.specs.Answering.{leaving_by, plain_of, with_memory}
use Rattle.seg_manager.specs.Calling.{KeepsLastBy, SegmentCall, Serves, below}
use Rattle.seg_manager.specs.Inner.{leaves, staying, unused_then}
use Rattle.seg_manager.specs.Keeping.{AreLast, left_by, left_one, referred}
use Rattle.seg_manager.specs.Outcome.{Gives, Outcome}
use Rattle.seg_manager.specs.ReferenceMachine.{ReferenceMachine, let_go}
use Rattle.seg_manager.specs.Seen.{kept_segments, maps, openings_in, references_seen, state_of, whole_of}
use Rattle.seg_manager.specs.Thinning.{Trims, credit}
use Rattle.seg_manager.specs.Tying.{AreOnce, AreTied, CanCall, noted_of, noted_regions}
use Rattle.seg_manager.specs.declared.manager.SegManager.{SegManager}
use Rattle.seg_manager.specs.declared.tables.Kept.{Kept}
use Rattle.seg_manager.specs.declared.tables.Leaving.{Leaving}
use Rattle.seg_manager.specs.declared.tables.Leaving.TheVariants as leavings
use Rattle.seg_manager.specs.declared.tables.Mapped.{Mapped}
use Rattle.seg_manager.specs.declared.tables.Named.{Named}
use Rattle.seg_manager.proofs.Calling.CallAgain.{able_after, call_is, made_after}
use Rattle.seg_manager.proofs.Leaves.RegionsGone.{any_parted, noted_then, noted_tied, room_then, segments_left, tied_noted}
use Rattle.seg_manager.proofs.Seeing.LivePages.{live_seen}
use Rattle.seg_manager.proofs.Leaves.ReferencesGone.{as_many, credit_few, left_same, seen_actors, told_both}
use Rattle.seg_manager.proofs.Leaves.CloseCall.{blank_told, seen_same}
use Rattle.seg_manager.proofs.Seeing.Stated.{state_over}
use Rattle.seg_manager.proofs.Calling.Pushing.{HasPages, pushed_by, rule_then, same_pages}
use Rattle.seg_manager.proofs.Seeing.Steps.{IsSeen, seen_blank, seen_gone, step_by}
use Rattle.seg_manager.proofs.Seeing.StoredPages.{GoesToo, absorbed, apart_by}
use Rattle.seg_manager.proofs.Seeing.Unused.{is_unreferenced_by, left_unreferenced, mapped_is}
use Rattle.seg_manager.proofs.Leaves.LeavingRows.{IsDone, IsRefused, Then, actors_then, answered, answered_so, caches_of, command_of, may_have, segment_row, whole_for}
use Rattle.seg_manager.proofs.Leaves.RegionsLeft.{mapped_left, stay_noted}

-- What is seen then

module _ (told : Option Segments) (m : Machine) (cs : List Named) (rs : List Mapped) (regions : map noted_of rs ≡ noted_regions 1 m.actors) (l : Leaving) (now : List (Option Actor)) (by : actors_then l m.actors ≡ Ok now) where
  abbrev seen : ReferenceMachine
  seen = references_seen m told cs

  -- what is seen, with the actors as they are then
  abbrev later : ReferenceMachine
  later = with_memory seen (record seen.memory { actors = now })

  less_mapped : (q : ℕ) → is_mapped m q ≡ false → is_mapped (record m { actors = now }) q ≡ false
  less_mapped q e =
      sym (mapped_is (record m { actors = now }) (staying l rs) (stay_noted l m.actors now rs by regions) q)
      ∙ last (list_any (maps q) (filter (leaves l) rs)) (list_any (maps q) (staying l rs))
      (sym (list_any-append (maps q) (filter (leaves l) rs) (staying l rs)) ∙ any_parted (leaves l) (maps q) rs ∙ mapped_is m rs regions q ∙ e)
    where
      last : (a b : Bool) → (a || b) ≡ false → b ≡ false
      last true b e = absurd (cc e)
      last false b e = e

  goes_less : (k : ℕ) (openings : ℕ) → not (nat_lt 0 openings || is_mapped m k) ≡ true → not (nat_lt 0 openings || is_mapped (record m { actors = now }) k) ≡ true
  goes_less k openings h = at (nat_lt 0 openings) (is_mapped m k) refl h
    where
      at : (a b : Bool) → is_mapped m k ≡ b → not (a || b) ≡ true → not (a || is_mapped (record m { actors = now }) k) ≡ true
      at true b e h = absurd (cc h)
      at false true e h = absurd (cc h)
      at false false e h = ap not (less_mapped k e)

  goes_later : (r : ReferenceMachine) → r.openings ≡ openings_in cs → r.memory.actors ≡ now → GoesToo (whole_of m told cs) r
  goes_later r o a k c g =
      (λ i. option_map_or (λ s. not (nat_lt 0 (o i s) || is_mapped (record m { actors = a i }) k)) c.segment false) ∙ at c.segment g
    where
      at : (s : Option ℕ) → option_map_or (λ s. not (nat_lt 0 (openings_in cs s) || is_mapped m k)) s false ≡ true → option_map_or (λ s. not (nat_lt 0 (openings_in cs s) || is_mapped (record m { actors = now }) k)) s false ≡ true
      at None h = absurd (cc h)
      at (Some s) h = goes_less k (openings_in cs s) h

  -- the row over what is seen
  done_row : (h : Segments) → plain_of seen (command_of l) h 0 ≡ record { answer = Ok replies.Done; next = let_go later }
  done_row h = segment_row l seen h 0 ∙ ap (λ (x : Then). leaving_by seen (answered_so seen.memory x)) (ap (actors_then l) (seen_actors told m cs) ∙ by)

pub left_seen : (told : Option Segments) (m : Machine) (cs : List Named) (rs : List Mapped) (regions : map noted_of rs ≡ noted_regions 1 m.actors) (l : Leaving) (now : List (Option Actor)) (by : actors_then l m.actors ≡ Ok now)
    → ((i j seg : ℕ) → segment_of m i ≡ Some seg → segment_of m j ≡ Some seg → i ≡ j) → IfNone told (m ≡ blank m)
    → IsSeen told (state_over told m cs) (state_over told (record m { actors = now }) cs) (let_go (later told m cs rs regions l now by))
left_seen None m cs rs regions l now by apart bare =
    let n : ReferenceMachine = later None m cs rs regions l now by in
    (seen_blank m cs bare, seen_gone m now n cs cs bare (goes_later None m cs rs regions l now by n refl refl) refl refl)
left_seen (Some h) m cs rs regions l now by apart bare =
    let n : ReferenceMachine = later (Some h) m cs rs regions l now by in
    sym (absorbed (whole_of m (Some h) cs) n (goes_later (Some h) m cs rs regions l now by n refl refl) m.caches refl refl (apart_by m apart))

-- The call

serves_by : {Manager X Chooser : Type 0} (M : GhostsOfMapper X) (G : GhostsOfGmi Manager X Chooser) (before : X) (old : SegManager Manager) (l : Leaving) (a : Answer) (after : X) (new : SegManager Manager)
    → SegmentCall M G before old (commands.Plain (command_of l)) a after new → KeepsLastBy M G before old (caches_of l (G.machine old.gmi (M.held before))) a after new → Serves M G before old (command_of l) a after new
serves_by M G before old (leavings.Actor actor) a after new call kept = record { call = call; kept = kept }
serves_by M G before old (leavings.Region region) a after new call kept = record { call = call; kept = kept }

module _ {Manager X Chooser : Type 0} (M : GhostsOfMapper X) (G : GhostsOfGmi Manager X Chooser) (before : X) (old : SegManager Manager) (l : Leaving) (can : CanCall G old (M.held before) (M.page_bytes before)) where
  abbrev m : Machine
  m = G.machine old.gmi (M.held before)

  abbrev told : Option Segments
  told = segments_of (M.held before)

  abbrev cs : List Named
  cs = old.caches.items

  abbrev rs : List Mapped
  rs = old.regions.items

  -- there is room to keep all
  pub drop_room : length old.kept.items + length (unused_then cs l rs) ≤ old.kept.room
  drop_room = room_then m cs old.kept.items old.kept.room rs l (tied_noted m told cs old.kept.items old.kept.room rs can.tied)

  -- and none is kept twice
  pub drop_once : AreOnce (old.kept.items ++ unused_then cs l rs)
  drop_once =
      let t = noted_then m cs old.kept.items old.kept.room rs l (tied_noted m told cs old.kept.items old.kept.room rs can.tied) in
      t.once

  module _ (gmi : Manager) where
    abbrev n : Machine
    n = G.machine gmi (M.held before)

    abbrev with_mapper : (a : Answer) → CallDone (meanings_of G) old.gmi (command_of l) a gmi → MapperCall M (meanings_of G) before old.gmi (command_of l) a before gmi
    with_mapper a call = without_mapper M (meanings_of G) before old.gmi can.valid (command_of l) a gmi call

    answered_here : (a : Answer) → CallDone (meanings_of G) old.gmi (command_of l) a gmi → IsDone l m a n ⊎ IsRefused l m a n
    answered_here a call =
        let it = call_is M G old gmi before before (command_of l) a can (with_mapper a call) in
        answered told l m (G.forest old.gmi (M.held before)) a n it.rises it.is.outcome

    -- Done
    module _ (call : CallDone (meanings_of G) old.gmi (command_of l) (Ok replies.Done) gmi) (kept : SegManager Manager) (regions_are : kept.regions.items ≡ staying l rs)
        (kept_are : kept.kept.items ≡ old.kept.items ++ unused_then cs l rs) (capacity : kept.kept.room ≡ old.kept.room) (same : kept ≡ record old { gmi = gmi; kept = kept.kept; regions = kept.regions }) where
      done : IsDone l m (Ok replies.Done) n
      done = elim (answered_here (Ok replies.Done) call) [
        | inl d ↦ d
        | inr r ↦ absurd (let wrong : Ok replies.Done ≡ Err (troubles.Refused r.refusal) = r.answer in cc wrong)
      ]

      abbrev mid : SegManager Manager
      mid = record old { gmi = gmi; kept = kept.kept; regions = kept.regions }

      stay_are : map noted_of (staying l rs) ≡ noted_regions 1 done.actors
      stay_are = stay_noted l m.actors done.actors rs done.by can.tied.regions

      tied_then : AreTied n told cs kept.kept.items kept.kept.room kept.regions.items
      tied_then =
          subst (λ (x : Machine). AreTied x told cs kept.kept.items kept.kept.room kept.regions.items) (sym done.next)
          (subst (λ (k : ℕ). AreTied (record m { actors = done.actors }) told cs kept.kept.items k kept.regions.items) (sym capacity)
          (subst (λ (ks : List Kept). AreTied (record m { actors = done.actors }) told cs ks old.kept.room kept.regions.items) (sym kept_are)
          (subst (λ (xs : List Mapped). AreTied (record m { actors = done.actors }) told cs (old.kept.items ++ unused_then cs l rs) old.kept.room xs) (sym regions_are)
          (noted_tied m done.actors told cs (old.kept.items ++ unused_then cs l rs) old.kept.room (staying l rs)
          (noted_then m cs old.kept.items old.kept.room rs l (tied_noted m told cs old.kept.items old.kept.room rs can.tied)) stay_are can.tied.backed))))

      caches_same : m.caches ≡ n.caches
      caches_same = ap (λ (x : Machine). x.caches) (sym done.next)

      mid_can : CanCall G mid (M.held before) (M.page_bytes before)
      mid_can = able_after M G old gmi before before (command_of l) (Ok replies.Done) can (with_mapper (Ok replies.Done) call) mid (omega (arith, can.few, ap length caches_same)) tied_then

      made_less : G.made gmi ≤ G.made old.gmi + 32 * LIVE_PAGES + 8
      made_less = made_after M G old gmi before before (command_of l) (Ok replies.Done) can (with_mapper (Ok replies.Done) call)

      mid_credit : G.made old.gmi ≤ 2 ^ 61 → credit M G mid before ≤ 2 ^ 62
      mid_credit made = omega (arith, made, made_less, credit_few M G mid before mid_can)

      pub trim_can : CanCall G kept (M.held before) (M.page_bytes before)
      trim_can = subst (λ (x : SegManager Manager). CanCall G x (M.held before) (M.page_bytes before)) (sym same) mid_can

      pub trim_made : G.made old.gmi ≤ 2 ^ 61 → credit M G kept before ≤ 2 ^ 62
      trim_made made = subst (λ (x : SegManager Manager). credit M G x before ≤ 2 ^ 62) (sym same) (mid_credit made)

      module _ (after : X) (new : SegManager Manager) (trims : Trims M G before mid after new) where
        abbrev next : ReferenceMachine
        next = let_go (later told m cs rs can.tied.regions l done.actors done.by)

        seen_then : IsSeen told (state_of G old (M.held before)) (state_of G mid (M.held before)) next
        seen_then =
            subst (λ (x : Machine). IsSeen told (state_over told m cs) (state_over told x cs) next) (sym done.next)
            (left_seen told m cs rs can.tied.regions l done.actors done.by can.tied.apart (blank_told (M.held before) m can.blank))

        done_call : SegmentCall M G before old (commands.Plain (command_of l)) (Ok replies.Done) after new
        done_call = record {
          can = trims.can;
          made = omega (arith, trims.made, credit_few M G mid before mid_can, made_less);
          limit = trims.limit;
          one = omega (arith, as_many M G before old mid before after new trims mid_can, ap length caches_same);
          rises = trims.rises;
          rose = trims.rose;
          is = record {
            step = step_by (state_of G old (M.held before)) (state_of G new (M.held after)) (commands.Plain (command_of l)) (Ok replies.Done) trims.rises next (whole_for l)
                (λ h. (0, (may_have l (references_seen m told cs) 0, done_row told m cs rs can.tied.regions l done.actors done.by h)))
                (told_both told (segments_of (M.held after)) trims.denied (state_of G old (M.held before)) (state_of G mid (M.held before)) (state_of G new (M.held after)) next trims.seen seen_then);
            pushed = pushed_by told (segments_of (M.held after)) m cs trims.pushed.pushes trims.rises trims.pushed.few
                (rule_then m n (subst (HasPages m) (sym done.next) (same_pages m)) told told (segments_of (M.held after)) [] trims.pushed.pushes (record { may = tt; pushed = refl }) trims.pushed.rule) (state_of G old (M.held before)) (state_of G new (M.held after)) refl refl refl;
            live = live_seen M G new after trims.can;
            denied = trims.denied;
          };
        }

        abbrev then_referred : ReferenceMachine
        then_referred = referred (below G old (M.held before)) (below G new (M.held after))

        left_then : (q : ℕ) → left_one then_referred q ≡ cond (is_unreferenced_by m cs (staying l rs) q) (option_map_or (λ seg. seg ∷ []) (segment_of m q) []) []
        left_then q =
            left_same M G before old mid before after new trims mid_can caches_same q
            ∙ ap (λ (x : Machine). left_one (whole_of x told cs) q) done.next
            ∙ left_unreferenced (record m { actors = done.actors }) told cs (staying l rs) stay_are q

        all : kept_segments kept.kept.items ≡ kept_segments old.kept.items ++ left_by then_referred (caches_of l m)
        all =
            ap kept_segments kept_are
            ∙ map-append (λ (k : Kept). k.seg.0) old.kept.items (unused_then cs l rs)
            ∙ ap (λ (xs : List ℕ). kept_segments old.kept.items ++ xs)
            (segments_left m cs can.tied.caches can.tied.apart (staying l rs) then_referred left_then (filter (leaves l) rs)
            ∙ ap (left_by then_referred) (mapped_left l m rs can.tied.regions))

        done_kept : KeepsLastBy M G before old (caches_of l m) (Ok replies.Done) after new
        done_kept = subst (λ (xs : List ℕ). AreLast old.limit (M.counts before).faults (M.counts after).faults xs (kept_segments new.kept.items)) all trims.kept

      pub done_serves : (after : X) (new : SegManager Manager) → Trims M G before kept after new → Serves M G before old (command_of l) (Ok replies.Done) after new
      done_serves after new trims =
          let by = subst (λ (x : SegManager Manager). Trims M G before x after new) same trims in
          serves_by M G before old l (Ok replies.Done) after new (done_call after new by) (done_kept after new by)

    -- Refused
    module _ (trouble : Trouble) (call : CallDone (meanings_of G) old.gmi (command_of l) (Err trouble) gmi) where
      not_done : IsRefused l m (Err trouble) n
      not_done = elim (answered_here (Err trouble) call) [
        | inl d ↦ absurd (let wrong : Err trouble ≡ Ok replies.Done = d.answer in cc wrong)
        | inr r ↦ r
      ]

      gives : (r : Refusal) (is : ReferenceMachine) (h : Segments) → Gives is (commands.Plain (command_of l)) h 0 (Err (troubles.Refused r)) is → Outcome is None (commands.Plain (command_of l)) h 0 (Err (troubles.Refused r)) is no_counts
      gives refusals.TooMany is h g = inr g
      gives r is h g = g

      refused_row : (h : Segments) → plain_of (references_seen m told cs) (command_of l) h 0 ≡ record { answer = Err (troubles.Refused not_done.refusal); next = references_seen m told cs }
      refused_row h =
          segment_row l (references_seen m told cs) h 0
          ∙ ap (λ (x : Then). leaving_by (references_seen m told cs) (answered_so (references_seen m told cs).memory x)) (ap (actors_then l) (seen_actors told m cs) ∙ not_done.by)

      refused_can : CanCall G (record old { gmi = gmi }) (M.held before) (M.page_bytes before)
      refused_can = able_after M G old gmi before before (command_of l) (Err trouble) can (with_mapper (Err trouble) call) old (omega (arith, can.few, ap (λ (x : Machine). length x.caches) not_done.next))
          (subst (λ (x : Machine). AreTied x told cs old.kept.items old.kept.room rs) (sym not_done.next) can.tied)

      refused_call : SegmentCall M G before old (commands.Plain (command_of l)) (Err trouble) before (record old { gmi = gmi })
      refused_call = subst (λ (t : Answer). SegmentCall M G before old (commands.Plain (command_of l)) t before (record old { gmi = gmi })) (sym not_done.answer) (record {
        can = refused_can;
        made = omega (arith, made_after M G old gmi before before (command_of l) (Err trouble) can (with_mapper (Err trouble) call));
        limit = refl;
        one = omega (arith, ap (λ (x : Machine). length x.caches) not_done.next);
        rises = no_counts;
        rose = rise_none (M.counts before);
        is = record {
          step = step_by (state_of G old (M.held before)) (state_of G (record old { gmi = gmi }) (M.held before)) (commands.Plain (command_of l)) (Err (troubles.Refused not_done.refusal)) no_counts (references_seen m told cs) (whole_for l)
              (λ h. (0, gives not_done.refusal (references_seen m told cs) h (refused_row h)))
              (subst (λ (x : Machine). IsSeen told (state_over told m cs) (state_over told x cs) (references_seen m told cs)) (sym not_done.next) (seen_same told m cs (blank_told (M.held before) m can.blank)));
          pushed = pushed_by told told m cs [] no_counts (omega arith) (record { may = tt; pushed = refl }) (state_of G old (M.held before)) (state_of G (record old { gmi = gmi }) (M.held before)) refl refl refl;
          live = live_seen M G (record old { gmi = gmi }) before refused_can;
          denied = refl;
        };
      })

      pub refused_serves : Serves M G before old (command_of l) (Err trouble) before (record old { gmi = gmi })
      refused_serves = serves_by M G before old l (Err trouble) before (record old { gmi = gmi }) refused_call refl
