-- A segment that has a cache is opened once more: what that call of the manager of segments comes
-- to.
use Rattle.std.proofs.Common.{◌≡◌, ◌==◌, ℕ, ◌+◌, ◌-◌, ◌≤◌, Bool, true, false, cond, List, [], ◌∷◌, ◌++◌, length, set, map, filter, Option, Some, None, refl, sym, ap, subst, ◌∙◌, arith, inl, inr}
use Rattle.std.specs.Prelude.{◌||◌, IfNone, Ok, Err, Result, is_some, nat_le, not, option_map, replicate, slice_get, slice_set}
use Rattle.std.specs.FinMap.{get}
use Rattle.std.specs.List.{AllByRecursion, list_any, position_from}
use Rattle.std.proofs.lemmas.Bool.{cases_eq, eq-eqb, ne_eqb}
use Rattle.std.proofs.lemmas.Bool.Decides.{nat_tests}
use Rattle.std.proofs.lemmas.Option.{slice_get_within}
use Rattle.vm_ids.specs.declared.command.Command.TheVariants.{OpenSegment}
use Rattle.vm_ids.specs.declared.command.KeepCommand.TheVariants as commands
use Rattle.vm_ids.specs.declared.reply.Reply.TheVariants as replies
use Rattle.vm_ids.specs.declared.reply.Trouble.TheVariants as troubles
use Rattle.vm_model.proofs.Parts.ListParts.{numbered_past}
use Rattle.vm_model.proofs.Parts.Naming.{only_named}
use Rattle.vm_model.proofs.Parts.Pairs.{each_by}
use Rattle.gmi_calls.proofs.Rising.{rise_none}
use Rattle.interface_callers.proofs.Words.{Cache, CacheId, GhostsOfGmi, GhostsOfMapper, Machine, MapperCounts, Page, SegId, Segments, Trouble, blank, blank_cache, cache_of, no_counts, numbered, opened, segment_of, segments_of}
use Rattle.seg_manager.specs.Answering.{open_anew, open_by, open_of, reply_cache}
use Rattle.seg_manager.specs.Calling.{Acquires, HasNoRoomWithout}
use Rattle.seg_manager.specs.Inner.{IsOpenedAgain, OpensAgain, first_of}
use Rattle.seg_manager.specs.Keeping.{AreBehind, IsAcquired}
use Rattle.seg_manager.specs.Outcome.{Outcome}
use Rattle.seg_manager.specs.ReferenceMachine.{ReferenceMachine, add_cache, number_in, open_one, take_stored, used, with_cache}
use Rattle.seg_manager.specs.Seen.{is_kept, kept_segments, references_seen, state_of, stored_beside, whole_of}
use Rattle.seg_manager.specs.Stepping.{StepAt}
use Rattle.seg_manager.specs.Tying.{AreTied, CanCall, is_unreferenced}
use Rattle.seg_manager.specs.declared.manager.SegManager.{SegManager}
use Rattle.seg_manager.specs.declared.tables.Kept.{Kept}
use Rattle.seg_manager.specs.declared.tables.Mapped.{Mapped}
use Rattle.seg_manager.specs.declared.tables.Named.{Named}
use Rattle.seg_manager.proofs.Seeing.ReferenceComes.{stored_all, stored_turn, used_all, used_turn}
use Rattle.seg_manager.proofs.Seeing.WhichGo.{Caches, length_used}
use Rattle.seg_manager.proofs.Seeing.LivePages.{live_seen}
use Rattle.seg_manager.proofs.Opens.AgainSeen.{alike, alike_but, at, it, mine, n, nothing_there, number, number_hidden, number_seen, of, openings_fun, others_kept, stays_there, stored_there, tied_again}
use Rattle.seg_manager.proofs.Calling.Pushing.{pushed_by}
use Rattle.seg_manager.proofs.Leaves.CloseCall.{blank_told, number_is}
use Rattle.seg_manager.proofs.Seeing.Stated.{state_over}
use Rattle.seg_manager.proofs.Seeing.Steps.{AreSeen, blank_used, seen_blank, step_whole}
use Rattle.seg_manager.proofs.Seeing.StoredPages.{apart_by}

-- none has gone
pub none_gone : (Cause : List ℕ → Type 0) (before now : List ℕ) → now ≡ before → AreBehind Cause before now
none_gone Cause before now e = record { gone = 0; is = e; few = omega arith; cause = λ i less. absurd (omega (arith, less)) }

pub caches_seen : (told : Option Segments) (m : Machine) (cs : List Named) → (references_seen m told cs).memory.caches ≡ used (whole_of m told cs) 1 m.caches
caches_seen None m cs = refl
caches_seen (Some h) m cs = refl

-- What the step leads from and to
pub record Opens (told : Option Segments) (m : Machine) (cs now : List Named) (seg : SegId) (cache : CacheId) : Type 0 where
  pub whole : ReferenceMachine
  pub next : ReferenceMachine
  pub leads : (h : Segments) (rises : MapperCounts) → (number : ℕ) × Outcome whole None (commands.Plain (OpenSegment seg)) h number (Ok (replies.Cache cache)) next rises
  pub seen : AreSeen told (state_over told m cs) (state_over told m now) whole next

again_row : (r : ReferenceMachine) (seg number n : ℕ) → number_in 1 r.memory.caches seg ≡ Some n → open_of r seg number ≡ reply_cache n (open_one seg r)
unfolding open_of
again_row r seg number n e = ap (open_by r seg number) e

pub anew_row : (r : ReferenceMachine) (seg number : ℕ) (pages : List Page) → number_in 1 r.memory.caches seg ≡ None → r.stored seg ≡ Some pages → open_of r seg number ≡ reply_cache number (open_one seg (add_cache (take_stored seg r) number (opened seg pages)))
unfolding open_of
anew_row r seg number pages e f = ap (open_by r seg number) e ∙ ap (open_anew r seg number) f

module _ (m : Machine) (cs : List Named) (ks : List Kept) (room : ℕ) (rs : List Mapped) (seg : SegId) (place : ℕ) (named : Named)
    (first : position_from (first_of seg.0) 0 cs ≡ Some place) (place_is : slice_get cs place ≡ Some named) (now : List Named) (is : now ≡ set cs place (record named { openings = named.openings + 1 })) where
  -- Something referred to it: a reference more.
  referred_leads : (told : Option Segments) (t : AreTied m told cs ks room rs) → is_unreferenced (whole_of m told cs) named.cache.0 ≡ false → (h : Segments) (rises : MapperCounts)
      → (number : ℕ) × Outcome (references_seen m told cs) None (commands.Plain (OpenSegment seg)) h number (Ok (replies.Cache named.cache)) (open_one seg.0 (references_seen m told cs)) rises
  referred_leads told t referred h rises =
      let R : ReferenceMachine = references_seen m told cs in
      let k : ℕ = length R.memory.caches + 1 in (
        k,
        (
          (omega arith, numbered_past R.memory.caches k refl),
          again_row R seg.0 k named.cache.0 (ap (λ (xs : Caches). number_in 1 xs seg.0) (caches_seen told m cs) ∙ number_seen m told cs ks room rs t seg place named first place_is now is referred),
        ),
      )

  opens_referred : (told : Option Segments) (t : AreTied m told cs ks room rs) → IfNone told (m ≡ blank m) → is_unreferenced (whole_of m told cs) named.cache.0 ≡ false → Opens told m cs now seg named.cache
  opens_referred None t bare referred =
      let R : ReferenceMachine = references_seen m None cs in
      let W = whole_of m None cs in
      let V = whole_of m None now in
      let all = alike m None cs ks room rs t seg place named first place_is now is referred in
      let fun = openings_fun m None cs ks room rs t seg place named first place_is now is in
      record {
        whole = R;
        next = open_one seg.0 R;
        leads = referred_leads None t referred;
        seen = (
          seen_blank m cs bare,
          (λ i. record { memory = record m { caches = used_all W V 1 m.caches all i }; stored = λ x. None; openings = fun i })
              ∙ ap (λ (r : ReferenceMachine). open_one seg.0 r) (seen_blank m cs bare),
        );
      }
  opens_referred (Some s) t bare referred =
      let R : ReferenceMachine = references_seen m (Some s) cs in
      let W = whole_of m (Some s) cs in
      let V = whole_of m (Some s) now in
      let all = alike m (Some s) cs ks room rs t seg place named first place_is now is referred in
      let fun = openings_fun m (Some s) cs ks room rs t seg place named first place_is now is in
      record {
        whole = R;
        next = open_one seg.0 R;
        leads = referred_leads (Some s) t referred;
        seen = (refl, λ i. record { memory = record m { caches = used_all W V 1 m.caches all i }; stored = stored_all W V m.caches (apart_by m t.apart) refl all i; openings = fun i });
      }

  -- It was kept: it comes back with what it has.
  module _ (told : Option Segments) (t : AreTied m told cs ks room rs) (free : is_unreferenced (whole_of m told cs) named.cache.0 ≡ true) where
    abbrev n' : ℕ
    n' = named.cache.0

    abbrev found : (c : Cache) × (cache_of m n' ≡ Some c) × (c.segment ≡ Some seg.0)
    found = it m told cs ks room rs t seg place named first place_is now is

    abbrev pages : List Page
    pages = found.0.pages

    abbrev back : Cache
    back = opened seg.0 pages

    back_is : found.0 ≡ back
    back_is = λ i. record { segment = found.2 i; pages = pages }

    place_at : (1 ≤ n') × (slice_get m.caches (n' - 1) ≡ Some (Some found.0))
    place_at = at m told cs ks room rs t seg place named first place_is now is

    within : nat_le n' (length (used (whole_of m told cs) 1 m.caches)) ≡ true
    within = let h : n' ≤ length (used (whole_of m told cs) 1 m.caches) = omega (arith, length_used (whole_of m told cs) 1 m.caches, slice_get_within m.caches (n' - 1) (Some found.0) place_at.1, place_at.0) in grind (arith, nat_tests)

    caches_back : used (whole_of m told now) 1 m.caches ≡ with_cache (used (whole_of m told cs) 1 m.caches) n' back
    caches_back =
        used_turn (whole_of m told cs) (whole_of m told now) 1 m.caches (n' - 1) found.0 place_at.1 (stays_there m told cs ks room rs t seg place named first place_is now is) (alike_but m told cs ks room rs t seg place named first place_is now is)
        ∙ ap (λ (x : Cache). set (used (whole_of m told cs) 1 m.caches) (n' - 1) (Some x)) back_is
        ∙ sym (ap (λ (b : Bool). cond b (slice_set (used (whole_of m told cs) 1 m.caches) (n' - 1) (Some back)) (used (whole_of m told cs) 1 m.caches ++ (replicate (n' - 1 - length (used (whole_of m told cs) 1 m.caches)) None ++ Some back ∷ []))) within)

    -- the machine that has what is stored, and the one to which it leads
    abbrev next_of : ReferenceMachine → ReferenceMachine
    next_of r = open_one seg.0 (add_cache (take_stored seg.0 r) n' back)

    leads_back : (r : ReferenceMachine) → r.memory.caches ≡ used (whole_of m told cs) 1 m.caches → r.stored seg.0 ≡ Some pages → (h : Segments) (rises : MapperCounts)
        → (number : ℕ) × Outcome r None (commands.Plain (OpenSegment seg)) h number (Ok (replies.Cache named.cache)) (next_of r) rises
    leads_back r caches stored h rises = (
      n',
      (
        (place_at.0, ap (λ (xs : Caches). numbered xs n') caches ∙ nothing_there m told cs ks room rs t seg place named first place_is now is free),
        anew_row r seg.0 n' pages (ap (λ (xs : Caches). number_in 1 xs seg.0) caches ∙ number_hidden m told cs ks room rs t seg place named first place_is now is free) stored,
      ),
    )

  opens_kept : (told : Option Segments) (t : AreTied m told cs ks room rs) → IfNone told (m ≡ blank m) → is_unreferenced (whole_of m told cs) named.cache.0 ≡ true → Opens told m cs now seg named.cache
  opens_kept None t bare free =
      let R : ReferenceMachine = record (references_seen m None cs) { stored = λ x. Some (pages None t free) } in
      let V = whole_of m None now in
      record {
        whole = R;
        next = next_of None t free R;
        leads = leads_back None t free R refl refl;
        seen = (
          seen_blank m cs bare,
          λ i. record {
            memory = record m { caches = (ap (used V 1) (ap (λ (x : Machine). x.caches) bare) ∙ sym (blank_used V 1 m.caches) ∙ ap (map (option_map blank_cache)) (caches_back None t free)) i };
            stored = λ x. None;
            openings = openings_fun m None cs ks room rs t seg place named first place_is now is i;
          },
        );
      }
  opens_kept (Some s) t bare free =
      let R : ReferenceMachine = references_seen m (Some s) cs in
      let W = whole_of m (Some s) cs in
      let V = whole_of m (Some s) now in
      let f = found (Some s) t free in
      let nothing : stored_beside m (Some s) seg.0 ≡ None =
      ap (λ (o : Option Cache). cond (is_some o) None (get s.pages seg.0)) (only_named m named.cache.0 seg.0 f.0 f.1 f.2 (λ k e. t.apart k named.cache.0 seg.0 e (of m (Some s) cs ks room rs t seg place named first place_is now is))) in
      record {
        whole = R;
        next = next_of (Some s) t free R;
        leads = leads_back (Some s) t free R refl (stored_there m (Some s) cs ks room rs t seg place named first place_is now is free);
        seen = (
          refl,
          λ i. record {
            memory = record m { caches = caches_back (Some s) t free i };
            stored = stored_turn W V m.caches (apart_by m t.apart) refl seg.0 (named.cache.0 - 1) f.0 (place_at (Some s) t free).1 (mine m (Some s) cs ks room rs t seg place named first place_is now is)
                (stays_there m (Some s) cs ks room rs t seg place named first place_is now is) nothing (alike_but m (Some s) cs ks room rs t seg place named first place_is now is) i;
            openings = openings_fun m (Some s) cs ks room rs t seg place named first place_is now is i;
          },
        );
      }

  pub opens_again : (told : Option Segments) (t : AreTied m told cs ks room rs) → IfNone told (m ≡ blank m) → Opens told m cs now seg named.cache
  opens_again told t bare = by (is_unreferenced (whole_of m told cs) named.cache.0) refl
    where
      by : (b : Bool) → is_unreferenced (whole_of m told cs) named.cache.0 ≡ b → Opens told m cs now seg named.cache
      by true e = opens_kept told t bare e
      by false e = opens_referred told t bare e

  -- Which segments are kept then

  module _ (told : Option Segments) (t : AreTied m told cs ks room rs) where
    abbrev IsMine : Kept → Type 0
    IsMine k = (k.cache.0 == named.cache.0) ≡ (k.seg.0 == seg.0)

    ones : AllByRecursion IsMine ks
    ones = each_by (λ (k : Kept). segment_of m k.cache.0 ≡ Some k.seg.0) IsMine by ks t.named
      where
        mine_of : segment_of m named.cache.0 ≡ Some seg.0
        mine_of = of m told cs ks room rs t seg place named first place_is now is

        by : (k : Kept) → segment_of m k.cache.0 ≡ Some k.seg.0 → IsMine k
        by k f = elim (cases_eq k.cache.0 named.cache.0) [
          | inl same ↦ (let both : Some k.seg.0 ≡ Some seg.0 = sym f ∙ ap (segment_of m) same ∙ mine_of in let is : k.seg.0 ≡ seg.0 = cc both in eq-eqb k.cache.0 named.cache.0 same ∙ sym (eq-eqb k.seg.0 seg.0 is))
          | inr other ↦ ne_eqb k.cache.0 named.cache.0 other ∙ sym (ne_eqb k.seg.0 seg.0 (λ is. other (t.apart k.cache.0 named.cache.0 seg.0 (f ∙ ap (λ (x : ℕ). Some x) is) mine_of)))
        ]

    any_same : (ls : List Kept) → AllByRecursion IsMine ls → list_any (λ s. s == seg.0) (kept_segments ls) ≡ is_kept ls named.cache.0
    any_same [] h = refl
    any_same (l ∷ ls) h = λ i. sym h.0 i || any_same ls h.1 i

    filter_same_ : (ls : List Kept) → AllByRecursion IsMine ls → kept_segments (others_kept named.cache.0 ls) ≡ filter (λ s. not (s == seg.0)) (kept_segments ls)
    filter_same_ [] h = refl
    filter_same_ (l ∷ ls) h = by (l.cache.0 == named.cache.0) refl (filter_same_ ls h.1)
      where
        by : (b : Bool) → (l.cache.0 == named.cache.0) ≡ b → kept_segments (others_kept named.cache.0 ls) ≡ filter (λ s. not (s == seg.0)) (kept_segments ls)
            → kept_segments (cond (not b) (l ∷ others_kept named.cache.0 ls) (others_kept named.cache.0 ls)) ≡ cond (not (l.seg.0 == seg.0)) (l.seg.0 ∷ filter (λ s. not (s == seg.0)) (kept_segments ls)) (filter (λ s. not (s == seg.0)) (kept_segments ls))
        by true e rest = rest ∙ sym (ap (λ (b : Bool). cond (not b) (l.seg.0 ∷ filter (λ s. not (s == seg.0)) (kept_segments ls)) (filter (λ s. not (s == seg.0)) (kept_segments ls))) (sym h.0 ∙ e))
        by false e rest = ap (λ xs. l.seg.0 ∷ xs) rest ∙ sym (ap (λ (b : Bool). cond (not b) (l.seg.0 ∷ filter (λ s. not (s == seg.0)) (kept_segments ls)) (filter (λ s. not (s == seg.0)) (kept_segments ls))) (sym h.0 ∙ e))

    none_mine : (ls : List Kept) → is_kept ls named.cache.0 ≡ false → others_kept named.cache.0 ls ≡ ls
    none_mine [] e = refl
    none_mine (l ∷ ls) e =
        let parts = or_parts (l.cache.0 == named.cache.0) (is_kept ls named.cache.0) e in
        ap (λ (b : Bool). cond (not b) (l ∷ others_kept named.cache.0 ls) (others_kept named.cache.0 ls)) parts.0 ∙ ap (λ xs. l ∷ xs) (none_mine ls parts.1)
      where
        or_parts : (a b : Bool) → (a || b) ≡ false → (a ≡ false) × (b ≡ false)
        or_parts true b e = absurd (cc e)
        or_parts false b e = (refl, e)

    pub acquired_kept : (Cause : List ℕ → Type 0) (cache : CacheId) → IsAcquired Cause (list_any (λ s. s == seg.0) (kept_segments ks)) seg.0 (kept_segments ks) (Ok cache) (kept_segments (others_kept named.cache.0 ks))
    acquired_kept Cause cache = subst (λ (b : Bool). IsAcquired Cause b seg.0 (kept_segments ks) (Ok cache) (kept_segments (others_kept named.cache.0 ks))) (sym (any_same ks ones)) (by (is_kept ks named.cache.0) refl)
      where
        by : (b : Bool) → is_kept ks named.cache.0 ≡ b → IsAcquired Cause b seg.0 (kept_segments ks) (Ok cache) (kept_segments (others_kept named.cache.0 ks))
        by true e = filter_same_ ks ones
        by false e = none_gone Cause (kept_segments ks) (kept_segments (others_kept named.cache.0 ks)) (ap kept_segments (none_mine ks e))

module _ {Manager X Chooser : Type 0} (M : GhostsOfMapper X) (G : GhostsOfGmi Manager X Chooser) (before : X) (old : SegManager Manager) (seg : SegId) (place : ℕ) (can : CanCall G old (M.held before) (M.page_bytes before))
    (first : Some place ≡ position_from (first_of seg.0) 0 old.caches.items) where
  abbrev m : Machine
  m = G.machine old.gmi (M.held before)

  abbrev told : Option Segments
  told = segments_of (M.held before)

  -- the step and what else a call is where only what is noted changes
  module _ (cache : CacheId) (new : SegManager Manager) (o : OpensAgain old place cache new) where
    abbrev later : SegManager Manager
    later = record old { caches = new.caches; kept = new.kept }

    tied : AreTied m told new.caches.items new.kept.items new.kept.room old.regions.items
    tied =
        subst (λ (ks : List Kept). AreTied m told new.caches.items ks new.kept.room old.regions.items) (sym o.kept)
        (subst (λ (k : ℕ). AreTied m told new.caches.items (others_kept o.named.cache.0 old.kept.items) k old.regions.items) (sym o.capacity)
        (tied_again m told old.caches.items old.kept.items old.kept.room old.regions.items can.tied seg place o.named (sym first) o.there new.caches.items o.caches))

    opens : Opens told m old.caches.items new.caches.items seg o.named.cache
    opens = opens_again m old.caches.items old.kept.items old.kept.room old.regions.items seg place o.named (sym first) o.there new.caches.items o.caches told can.tied (blank_told (M.held before) m can.blank)

    step : StepAt told (state_of G old (M.held before)) (commands.Plain (OpenSegment seg)) (Ok (replies.Cache o.named.cache)) no_counts (state_of G later (M.held before))
    step = step_whole (state_of G old (M.held before)) (state_of G later (M.held before)) (commands.Plain (OpenSegment seg)) (Ok (replies.Cache o.named.cache)) no_counts opens.whole opens.next None (λ r. tt) (λ h. opens.leads h no_counts) opens.seen

    can_then : CanCall G later (M.held before) (M.page_bytes before)
    can_then = record {
      valid = can.valid;
      unlimited = can.unlimited;
      fits = can.fits;
      live = can.live;
      few = can.few;
      tied = tied;
      blank = can.blank;
    }

    acquired : Acquires M G before old seg (Ok o.named.cache) before later
    acquired = record {
      call = record {
        can = can_then;
        made = omega arith;
        limit = refl;
        one = omega arith;
        rises = no_counts;
        rose = rise_none (M.counts before);
        is = record {
          step = step;
          pushed = pushed_by (segments_of (M.held before)) (segments_of (M.held before)) (G.machine old.gmi (M.held before)) old.caches.items [] no_counts (omega arith) (record { may = tt; pushed = refl }) (state_of G old (M.held before)) (state_of G later (M.held before)) refl refl refl;
          live = live_seen M G later before can_then;
          denied = refl;
        };
      };
      kept = subst (λ (ks : List Kept). IsAcquired (HasNoRoomWithout G old.gmi (M.held before) (OpenSegment seg)) (list_any (λ s. s == seg.0) (kept_segments old.kept.items)) seg.0 (kept_segments old.kept.items) (Ok o.named.cache) (kept_segments ks)) (sym o.kept)
          (acquired_kept m old.caches.items old.kept.items old.kept.room old.regions.items seg place o.named (sym first) o.there new.caches.items o.caches told can.tied (HasNoRoomWithout G old.gmi (M.held before) (OpenSegment seg)) o.named.cache);
      again = λ k e. (
        refl,
        (let both : Some o.named.cache.0 ≡ Some k =
            sym (number_is m can.tied.apart o.named.cache.0 seg.0 (of m told old.caches.items old.kept.items old.kept.room old.regions.items can.tied seg place o.named (sym first) o.there new.caches.items o.caches)) ∙ e in cc both),
      );
      too_many = λ e. absurd (cc e);
      fault = λ at e. absurd (cc e);
    }

    pub acquired_again : Acquires M G before old seg (Ok cache) before new
    acquired_again =
        subst (λ (x : CacheId). Acquires M G before old seg (Ok x) before new) (sym o.is)
        (subst (λ (x : SegManager Manager). Acquires M G before old seg (Ok o.named.cache) before x) (sym o.same) acquired)

-- Where it isn't opened for want of memory, all is as before.

as_before : (told : Option Segments) (m : Machine) (cs : List Named) → IfNone told (m ≡ blank m) → AreSeen told (state_over told m cs) (state_over told m cs) (references_seen m told cs) (references_seen m told cs)
as_before None m cs bare = (seen_blank m cs bare, seen_blank m cs bare)
as_before (Some h) m cs bare = (refl, refl)

not_acquired : (Cause : List ℕ → Type 0) (b : Bool) (seg : ℕ) (kept : List ℕ) (t : Trouble) → IsAcquired Cause b seg kept (Err t) kept
not_acquired Cause true seg kept t = refl
not_acquired Cause false seg kept t = none_gone Cause kept kept refl

pub lacks_memory : {Manager X Chooser : Type 0} (M : GhostsOfMapper X) (G : GhostsOfGmi Manager X Chooser) (before : X) (old : SegManager Manager) (seg : SegId) → CanCall G old (M.held before) (M.page_bytes before) → Acquires M G before old seg (Err troubles.Memory) before old
lacks_memory M G before old seg can = record {
  call = record {
    can = can;
    made = omega arith;
    limit = refl;
    one = omega arith;
    rises = no_counts;
    rose = rise_none (M.counts before);
    is = record {
      step = step_whole (state_of G old (M.held before)) (state_of G old (M.held before)) (commands.Plain (OpenSegment seg)) (Err troubles.Memory) no_counts (references_seen (G.machine old.gmi (M.held before)) (segments_of (M.held before)) old.caches.items)
          (references_seen (G.machine old.gmi (M.held before)) (segments_of (M.held before)) old.caches.items) None (λ r. tt) (λ h. (0, (refl, tt, tt)))
          (as_before (segments_of (M.held before)) (G.machine old.gmi (M.held before)) old.caches.items (blank_told (M.held before) (G.machine old.gmi (M.held before)) can.blank));
      pushed = pushed_by (segments_of (M.held before)) (segments_of (M.held before)) (G.machine old.gmi (M.held before)) old.caches.items [] no_counts (omega arith) (record { may = tt; pushed = refl }) (state_of G old (M.held before)) (state_of G old (M.held before)) refl refl refl;
      live = live_seen M G old before can;
      denied = refl;
    };
  };
  kept = not_acquired (HasNoRoomWithout G old.gmi (M.held before) (OpenSegment seg)) (list_any (λ s. s == seg.0) (kept_segments old.kept.items)) seg.0 (kept_segments old.kept.items) troubles.Memory;
  again = λ k e. (refl, refl);
  too_many = λ e. absurd (cc e);
  fault = λ at e. absurd (cc e);
}

pub acquired_by : {Manager X Chooser : Type 0} (M : GhostsOfMapper X) (G : GhostsOfGmi Manager X Chooser) (before : X) (old : SegManager Manager) (seg : SegId) (place : ℕ) → CanCall G old (M.held before) (M.page_bytes before)
    → Some place ≡ position_from (first_of seg.0) 0 old.caches.items → (result : Result CacheId Trouble) (new : SegManager Manager) → IsOpenedAgain old place result new → Acquires M G before old seg result before new
acquired_by M G before old seg place can first (Ok cache) new o = acquired_again M G before old seg place can first cache new o
acquired_by {Manager} M G before old seg place can first (Err troubles.Memory) new o = subst (λ (x : SegManager Manager). Acquires M G before old seg (Err troubles.Memory) before x) (sym o) (lacks_memory M G before old seg can)
acquired_by M G before old seg place can first (Err t) new o = absurd o
