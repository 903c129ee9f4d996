-- A segment is closed: what that call of the manager of segments comes to.
use Rattle.std.proofs.Common.{◌≡◌, ℕ, zero, suc, ◌+◌, ◌-◌, ◌^◌, ◌≤◌, Bool, true, false, cond, List, [], ◌∷◌, ◌++◌, length, Option, Some, None, refl, sym, ap, subst, ◌∙◌, arith}
use Rattle.std.specs.Prelude.{IfNone, nat_lt, Ok, Err, slice_get}
use Rattle.std.specs.Option.{option_map_or}
use Rattle.std.proofs.lemmas.List.{append-nil, length-append, map-append}
use Rattle.vm_ids.specs.declared.command.KeepCommand.TheVariants as commands
use Rattle.vm_ids.specs.declared.refusal.Refusal.TheVariants as refusals
use Rattle.vm_ids.specs.declared.reply.Reply.TheVariants as replies
use Rattle.vm_ids.specs.declared.reply.Trouble.TheVariants as troubles
use Rattle.vm_model.proofs.Parts.Lists.{numbered_place}
use Rattle.vm_model.proofs.Parts.Naming.{segment_cache}
use Rattle.gmi_calls.proofs.Rising.{rise_none}
use Rattle.interface_callers.proofs.Words.{Cache, CacheId, GhostsOfGmi, GhostsOfMapper, Held, Machine, Refusal, SegId, Segments, blank, is_named_by, no_counts, segment_of, segments_of}
use Rattle.seg_manager.specs.Answering.{close_of, refuse, reply}
use Rattle.seg_manager.specs.Calling.{Releases, below}
use Rattle.seg_manager.specs.Inner.{Closes, IsClosed, unused_in}
use Rattle.seg_manager.specs.Keeping.{AreLast, cache_for, left_by, left_one, referred}
use Rattle.seg_manager.specs.ReferenceMachine.{ReferenceMachine, close_one, is_open, let_go, number_in}
use Rattle.seg_manager.specs.Seen.{kept_segments, openings_in, references_seen, state_of, stored_beside, whole_of}
use Rattle.seg_manager.specs.Thinning.{Trims, credit}
use Rattle.seg_manager.specs.Tying.{AreOnce, AreTied, CanCall, IsUntoldBlank}
use Rattle.seg_manager.specs.declared.manager.SegManager.{SegManager}
use Rattle.seg_manager.specs.declared.tables.Kept.{Kept}
use Rattle.seg_manager.specs.declared.tables.Mapped.{Mapped}
use Rattle.seg_manager.specs.declared.tables.Named.{Named}
use Rattle.seg_manager.proofs.Leaves.OpeningTakenBack.{closed, closed_few, closed_openings, goes_too, noted, of, tied_closed, was_open}
use Rattle.seg_manager.proofs.Seeing.WhichGo.{Caches}
use Rattle.seg_manager.proofs.Seeing.LivePages.{live_seen}
use Rattle.seg_manager.proofs.Leaves.ReferencesGone.{as_many, credit_few, left_same, seen_openings, told_both}
use Rattle.seg_manager.proofs.Seeing.Stated.{state_over}
use Rattle.seg_manager.proofs.Calling.Pushing.{pushed_by}
use Rattle.seg_manager.proofs.Seeing.Steps.{IsSeen, seen_blank, seen_gone, step_by}
use Rattle.seg_manager.proofs.Seeing.StoredPages.{absorbed, apart_by, named_self}
use Rattle.seg_manager.proofs.Seeing.Unused.{left_is}

-- where nothing is told, a machine has no bytes
pub blank_told : (held : Option Held) (m : Machine) → IsUntoldBlank held m → IfNone (segments_of held) (m ≡ blank m)
blank_told None m h = h
blank_told (Some g) m h = tt

-- The number of the one cache of a segment
pub number_found : (seg k : ℕ) (cs : Caches) (i : ℕ) (c : Cache) → slice_get cs i ≡ Some (Some c) → is_named_by seg (Some c) ≡ true → ((j : ℕ) (d : Cache) → slice_get cs j ≡ Some (Some d) → is_named_by seg (Some d) ≡ true → j ≡ i) → number_in k cs seg ≡ Some (k + i)
number_found seg k [] i c there named only = absurd (cc there)
number_found seg k (o ∷ cs) zero c there named only =
    let is : o ≡ Some c = cc there in
    ap (λ (b : Bool). cond b (Some k) (number_in (k + 1) cs seg)) (ap (is_named_by seg) is ∙ named) ∙ ap (λ (n : ℕ). Some n) (let e : k ≡ k + 0 = omega arith in e)
number_found seg k (o ∷ cs) (suc i) c there named only =
    ap (λ (b : Bool). cond b (Some k) (number_in (k + 1) cs seg)) (not_here o (λ d e n. (let wrong : 0 ≡ suc i = only 0 d e n in absurd (omega (arith, wrong)))))
    ∙ number_found seg (k + 1) cs i c there named (λ j d e n. (let s : suc j ≡ suc i = only (suc j) d e n in omega (arith, s)))
    ∙ ap (λ (n : ℕ). Some n) (let e : k + 1 + i ≡ k + suc i = omega arith in e)
  where
    by : (d : Cache) (b : Bool) → is_named_by seg (Some d) ≡ b → (is_named_by seg (Some d) ≡ true → ⊥) → b ≡ false
    by d true e none = absurd (none e)
    by d false e none = refl

    not_here : (o : Option Cache) → ((d : Cache) → Some o ≡ Some (Some d) → is_named_by seg (Some d) ≡ true → ⊥) → is_named_by seg o ≡ false
    not_here None none = refl
    not_here (Some d) none = by d (is_named_by seg (Some d)) refl (none d refl)

pub number_is : (m : Machine) → ((i j seg : ℕ) → segment_of m i ≡ Some seg → segment_of m j ≡ Some seg → i ≡ j) → (n seg : ℕ) → segment_of m n ≡ Some seg → number_in 1 m.caches seg ≡ Some n
number_is m apart n seg e =
    let c = segment_cache m n seg e in
    let at = numbered_place m.caches n c.0 c.1 in
    number_found seg 1 m.caches (n - 1) c.0 at.1 (named_self seg c.0 c.2)
    (λ j d f named. apart_by m apart j (n - 1) seg d c.0 f at.1 named (named_self seg c.0 c.2))
    ∙ ap (λ (k : ℕ). Some k) (let s : 1 + (n - 1) ≡ n = omega (arith, at.0) in s)

-- What is seen once an opening was taken back
pub closed_seen : (told : Option Segments) (m : Machine) (cs : List Named) (ks : List Kept) (room : ℕ) (rs : List Mapped) (t : AreTied m told cs ks room rs) (seg : SegId) (cache : CacheId) (now : List Named) (c : Closes cs seg cache now)
    → IfNone told (m ≡ blank m) → IsSeen told (state_over told m cs) (state_over told m now) (let_go (closed m told cs ks room rs t seg cache now c))
closed_seen None m cs ks room rs t seg cache now c bare =
    let n : ReferenceMachine = closed m None cs ks room rs t seg cache now c in
    let openings = closed_openings m None cs ks room rs t seg cache now c in
    (seen_blank m cs bare, seen_gone m m.actors n cs now bare (goes_too m None cs ks room rs t seg cache now c n openings refl) refl openings)
closed_seen (Some h) m cs ks room rs t seg cache now c bare =
    let n : ReferenceMachine = closed m (Some h) cs ks room rs t seg cache now c in
    let openings = closed_openings m (Some h) cs ks room rs t seg cache now c in
    sym (absorbed (whole_of m (Some h) cs) n (goes_too m (Some h) cs ks room rs t seg cache now c n openings refl) m.caches refl refl (apart_by m t.apart)
    ∙ (λ i. let_go (record { memory = m; stored = stored_beside m (Some h); openings = openings i })))

-- What is seen where the machine stays
pub seen_same : (told : Option Segments) (m : Machine) (cs : List Named) → IfNone told (m ≡ blank m) → IsSeen told (state_over told m cs) (state_over told m cs) (references_seen m told cs)
seen_same None m cs bare = (seen_blank m cs bare, seen_blank m cs bare)
seen_same (Some h) m cs bare = refl

-- the row of the table
close_row : (r : ReferenceMachine) (seg : ℕ) → is_open r seg ≡ true → close_of r seg ≡ reply replies.Done (let_go (close_one seg r))
unfolding close_of
close_row r seg e = ap (λ (b : Bool). cond b (reply replies.Done (let_go (close_one seg r))) (refuse r refusals.NotOpen)) e

not_open_row : (r : ReferenceMachine) (seg : ℕ) → is_open r seg ≡ false → close_of r seg ≡ refuse r refusals.NotOpen
unfolding close_of
not_open_row r seg e = ap (λ (b : Bool). cond b (reply replies.Done (let_go (close_one seg r))) (refuse r refusals.NotOpen)) e

module _ {Manager X Chooser : Type 0} (M : GhostsOfMapper X) (G : GhostsOfGmi Manager X Chooser) (before : X) (old later : SegManager Manager) (seg : SegId) (cache : CacheId) (can : CanCall G old (M.held before) (M.page_bytes before))
    (c : Closes old.caches.items seg cache later.caches.items) where
  abbrev m : Machine
  m = G.machine old.gmi (M.held before)

  abbrev told : Option Segments
  told = segments_of (M.held before)

  -- there is room to keep the cache
  pub keep_room : length old.kept.items + length (unused_in later.caches.items old.regions.items cache) ≤ old.kept.room
  keep_room =
      let t : AreTied m told later.caches.items (old.kept.items ++ unused_in later.caches.items old.regions.items cache) old.kept.room old.regions.items = tied_closed m told old.caches.items old.kept.items old.kept.room old.regions.items can.tied seg cache later.caches.items c in
      omega (arith, t.fits, length-append old.kept.items (unused_in later.caches.items old.regions.items cache), closed_few m told old.caches.items old.kept.items old.kept.room old.regions.items can.tied seg cache later.caches.items c)

  -- and none is kept twice
  pub keep_once : AreOnce (old.kept.items ++ unused_in later.caches.items old.regions.items cache)
  keep_once =
      let t : AreTied m told later.caches.items (old.kept.items ++ unused_in later.caches.items old.regions.items cache) old.kept.room old.regions.items = tied_closed m told old.caches.items old.kept.items old.kept.room old.regions.items can.tied seg cache later.caches.items c in
      t.once

  module _ (kept : later.kept.items ≡ old.kept.items ++ unused_in later.caches.items old.regions.items cache) (capacity : later.kept.room ≡ old.kept.room) where
    abbrev mid : SegManager Manager
    mid = record old { caches = later.caches; kept = later.kept }

    pub mid_can : CanCall G mid (M.held before) (M.page_bytes before)
    mid_can = record {
      valid = can.valid;
      unlimited = can.unlimited;
      fits = can.fits;
      live = can.live;
      few = can.few;
      tied = subst (λ (ks : List Kept). AreTied m told later.caches.items ks later.kept.room old.regions.items) (sym kept)
          (subst (λ (k : ℕ). AreTied m told later.caches.items (old.kept.items ++ unused_in later.caches.items old.regions.items cache) k old.regions.items) (sym capacity)
          (tied_closed m told old.caches.items old.kept.items old.kept.room old.regions.items can.tied seg cache later.caches.items c));
      blank = can.blank;
    }

    pub mid_credit : G.made old.gmi ≤ 2 ^ 61 → credit M G mid before ≤ 2 ^ 62
    mid_credit made = omega (arith, made, credit_few M G mid before mid_can)

    module _ (after : X) (new : SegManager Manager) (trims : Trims M G before mid after new) where
      abbrev next : ReferenceMachine
      next = let_go (closed m told old.caches.items old.kept.items old.kept.room old.regions.items can.tied seg cache later.caches.items c)

      abbrev seen : ReferenceMachine
      seen = references_seen m told old.caches.items

      row : close_of seen seg.0 ≡ reply replies.Done next
      row = close_row seen seg.0 (ap (λ (f : ℕ → ℕ). nat_lt 0 (f seg.0)) (seen_openings told m old.caches.items) ∙ was_open m told old.caches.items old.kept.items old.kept.room old.regions.items can.tied seg cache later.caches.items c)

      left : kept_segments (unused_in later.caches.items old.regions.items cache) ≡ left_by (referred (below G old (M.held before)) (below G new (M.held after))) (cache_for m seg.0)
      left =
          left_is m told later.caches.items old.regions.items (noted m told old.caches.items old.kept.items old.kept.room old.regions.items can.tied seg cache later.caches.items c) can.tied.regions can.tied.apart cache
          ∙ sym (left_same M G before old mid before after new trims mid_can refl cache.0)
          ∙ sym (append-nil (left_one (referred (below G old (M.held before)) (below G new (M.held after))) cache.0))
          ∙ sym (ap (λ (o : Option ℕ). left_by (referred (below G old (M.held before)) (below G new (M.held after))) (option_map_or (λ n. n ∷ []) o []))
          (number_is m can.tied.apart cache.0 seg.0 (of m told old.caches.items old.kept.items old.kept.room old.regions.items can.tied seg cache later.caches.items c)))

      all : kept_segments later.kept.items ≡ kept_segments old.kept.items ++ left_by (referred (below G old (M.held before)) (below G new (M.held after))) (cache_for m seg.0)
      all = ap kept_segments kept ∙ map-append (λ (k : Kept). k.seg.0) old.kept.items (unused_in later.caches.items old.regions.items cache) ∙ ap (λ (xs : List ℕ). kept_segments old.kept.items ++ xs) left

      pub released : Releases M G before old seg (Ok tt) after new
      released = record {
        call = record {
          can = trims.can;
          made = omega (arith, trims.made, credit_few M G mid before mid_can);
          limit = trims.limit;
          one = omega (arith, as_many M G before old mid before after new trims mid_can);
          rises = trims.rises;
          rose = trims.rose;
          is = record {
            step = step_by (state_of G old (M.held before)) (state_of G new (M.held after)) (commands.Close seg) (Ok replies.Done) trims.rises next (λ r. tt) (λ h. (0, (tt, row)))
                (told_both told (segments_of (M.held after)) trims.denied (state_of G old (M.held before)) (state_of G mid (M.held before)) (state_of G new (M.held after)) next trims.seen
                (closed_seen told m old.caches.items old.kept.items old.kept.room old.regions.items can.tied seg cache later.caches.items c (blank_told (M.held before) m can.blank)));
            pushed = pushed_by told (segments_of (M.held after)) m old.caches.items trims.pushed.pushes trims.rises trims.pushed.few trims.pushed.rule (state_of G old (M.held before)) (state_of G new (M.held after)) refl refl refl;
            live = live_seen M G new after trims.can;
            denied = trims.denied;
          };
        };
        kept = subst (λ (xs : List ℕ). AreLast old.limit (M.counts before).faults (M.counts after).faults xs (kept_segments new.kept.items)) all trims.kept;
      }

-- No opening was left.
pub not_released : {Manager X Chooser : Type 0} (M : GhostsOfMapper X) (G : GhostsOfGmi Manager X Chooser) (before : X) (old : SegManager Manager) (seg : SegId) → CanCall G old (M.held before) (M.page_bytes before) → openings_in old.caches.items seg.0 ≡ 0
    → Releases M G before old seg (Err (troubles.Refused refusals.NotOpen)) before old
not_released M G before old seg can none = record {
  call = record {
    can = can;
    made = omega arith;
    limit = refl;
    one = omega arith;
    rises = no_counts;
    rose = rise_none (M.counts before);
    is = record {
      step = step_by (state_of G old (M.held before)) (state_of G old (M.held before)) (commands.Close seg) (Err (troubles.Refused refusals.NotOpen)) no_counts seen (λ r. tt) (λ h. (0, row)) (seen_same (segments_of (M.held before)) m old.caches.items (blank_told (M.held before) m can.blank));
      pushed = pushed_by (segments_of (M.held before)) (segments_of (M.held before)) (G.machine old.gmi (M.held before)) old.caches.items [] no_counts (omega arith) (record { may = tt; pushed = refl }) (state_of G old (M.held before)) (state_of G old (M.held before)) refl refl refl;
      live = live_seen M G old before can;
      denied = refl;
    };
  };
  kept = refl;
}
  where
    m : Machine
    m = G.machine old.gmi (M.held before)

    seen : ReferenceMachine
    seen = references_seen m (segments_of (M.held before)) old.caches.items

    row : close_of seen seg.0 ≡ refuse seen refusals.NotOpen
    row = not_open_row seen seg.0 (ap (λ (f : ℕ → ℕ). nat_lt 0 (f seg.0)) (seen_openings (segments_of (M.held before)) m old.caches.items) ∙ ap (nat_lt 0) none)

-- The same by the calls that it makes
module _ {Manager X Chooser : Type 0} (M : GhostsOfMapper X) (G : GhostsOfGmi Manager X Chooser) (before : X) (old then_closed : SegManager Manager) (seg : SegId) (cache : CacheId) (can : CanCall G old (M.held before) (M.page_bytes before))
    (c : Closes old.caches.items seg cache then_closed.caches.items) (same : then_closed ≡ record old { caches = then_closed.caches }) where
  pub keep_may : length then_closed.kept.items + length (unused_in then_closed.caches.items then_closed.regions.items cache) ≤ then_closed.kept.room
  keep_may =
      subst (λ (x : SegManager Manager). length x.kept.items + length (unused_in then_closed.caches.items x.regions.items cache) ≤ x.kept.room) (sym same)
      (keep_room M G before old then_closed seg cache can c)

  pub keep_once_may : AreOnce (then_closed.kept.items ++ unused_in then_closed.caches.items then_closed.regions.items cache)
  keep_once_may =
      subst (λ (x : SegManager Manager). AreOnce (x.kept.items ++ unused_in then_closed.caches.items x.regions.items cache)) (sym same)
      (keep_once M G before old then_closed seg cache can c)

  module _ (then_kept : SegManager Manager) (kept : then_kept.kept.items ≡ then_closed.kept.items ++ unused_in then_closed.caches.items then_closed.regions.items cache) (capacity : then_kept.kept.room ≡ then_closed.kept.room)
      (same_kept : then_kept ≡ record then_closed { kept = then_kept.kept }) where
    abbrev later : SegManager Manager
    later = record old { caches = then_closed.caches; kept = then_kept.kept }

    is : then_kept ≡ later
    is = same_kept ∙ (λ i. record (same i) { kept = then_kept.kept })

    kept_is : later.kept.items ≡ old.kept.items ++ unused_in later.caches.items old.regions.items cache
    kept_is = kept ∙ (λ i. (same i).kept.items ++ unused_in then_closed.caches.items (same i).regions.items cache)

    capacity_is : later.kept.room ≡ old.kept.room
    capacity_is = capacity ∙ (λ i. (same i).kept.room)

    pub trim_can : CanCall G then_kept (M.held before) (M.page_bytes before)
    trim_can = subst (λ (x : SegManager Manager). CanCall G x (M.held before) (M.page_bytes before)) (sym is) (mid_can M G before old later seg cache can c kept_is capacity_is)

    pub trim_made : G.made old.gmi ≤ 2 ^ 61 → credit M G then_kept before ≤ 2 ^ 62
    trim_made made = subst (λ (x : SegManager Manager). credit M G x before ≤ 2 ^ 62) (sym is) (mid_credit M G before old later seg cache can c kept_is capacity_is made)

    pub release_done : (after : X) (new : SegManager Manager) → Trims M G before then_kept after new → Releases M G before old seg (Ok tt) after new
    release_done after new trims = released M G before old later seg cache can c kept_is capacity_is after new (subst (λ (x : SegManager Manager). Trims M G before x after new) is trims)

-- the close was refused
pub release_refused : {Manager X Chooser : Type 0} (M : GhostsOfMapper X) (G : GhostsOfGmi Manager X Chooser) (before : X) (old new : SegManager Manager) (seg : SegId) (r : Refusal) → CanCall G old (M.held before) (M.page_bytes before)
    → IsClosed old.caches.items seg (Err r) new.caches.items → new ≡ old → Releases M G before old seg (Err (troubles.Refused r)) before new
release_refused {Manager} M G before old new seg refusals.NotOpen can closed is =
    subst (λ (x : SegManager Manager). Releases M G before old seg (Err (troubles.Refused refusals.NotOpen)) before x) (sym is) (not_released M G before old seg can closed.1)
release_refused M G before old new seg r can closed same = absurd closed
