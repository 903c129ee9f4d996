-- Pages of a cache that a segment names: how a sync, a flush and an invalidation are refused, and
-- what they come to.
use Rattle.std.proofs.Common.{◌≡◌, ℕ, ◌+◌, ◌<◌, ◌≤◌, true, false, List, length, Option, Some, None, refl, sym, ap, subst, ◌∙◌, arith}
use Rattle.std.specs.Prelude.{Result, Ok, Err, nat_lt, option_and_then, option_map}
use Rattle.std.proofs.lemmas.Bool.Decides.{nat_tests}
use Rattle.std.proofs.lemmas.List.{length-map}
use Rattle.vm_ids.specs.Counting.{MapperCounts, no_counts}
use Rattle.vm_ids.specs.Held.{Segments, segments_of}
use Rattle.vm_ids.specs.declared.command.Command.{Command}
use Rattle.vm_ids.specs.declared.command.Extent.{Extent}
use Rattle.vm_ids.specs.declared.numbers.PageNo.{PageNo}
use Rattle.vm_ids.specs.declared.numbers.SegId.{SegId}
use Rattle.vm_ids.specs.declared.refusal.Refusal.{Refusal}
use Rattle.vm_ids.specs.declared.refusal.Refusal.TheVariants as refusals
use Rattle.vm_ids.specs.declared.reply.FaultAt.TheVariants as faults
use Rattle.vm_ids.specs.declared.reply.Reply.TheVariants as replies
use Rattle.vm_ids.specs.declared.reply.Trouble.TheVariants as troubles
use Rattle.vm_model.specs.Answering as answering
use Rattle.vm_model.specs.Answering.{Answer, Answered, answer_of, flush_of, held_part, invalidate_of, is_any_locked, put_cache, refuse, reply, sync_of, unless, with_some}
use Rattle.vm_model.specs.Asking.{ReachesMapper}
use Rattle.vm_model.specs.Machine as model
use Rattle.vm_model.specs.Machine.{Machine, cache_of, live_pages, numbered, pages_in, segment_of}
use Rattle.vm_model.specs.Outcome.{IsNotRefused, IsPageIn, MayFault, PlainOutcome}
use Rattle.vm_model.specs.PageForest.{plain_forest}
use Rattle.vm_model.specs.Synchronised.{ArePushed, IsExtentPushed, IsSynchronised}
use Rattle.vm_model.proofs.Parts.Lists.{numbered-map}
use Rattle.vm_port.specs.declared.traits.mapper.Mapper.{Ghosts as GhostsOfMapper}
use Rattle.gmi_calls.specs.Backing.{IsReady, eager}
use Rattle.gmi_calls.specs.Calling.{MapperCall}
use Rattle.gmi_calls.proofs.Called.{call_is, eager_call, eager_left, fault_for, plain_for}
use Rattle.flat_mm.specs.Extents.{IsExtent, IsPushed, RefusesFlush, RefusesSync}
use Rattle.flat_mm.specs.Manager.{IsValid, Manager, flat, machine_in, plain}
use Rattle.flat_mm.specs.Store.{Cache, Page}
use Rattle.flat_mm.proofs.Acting.{NeedsMade, fits_less}
use Rattle.flat_mm.proofs.Calls.{flat_call}

-- The cache

pub alive_sized : (o : Option Cache) (n : ℕ) → option_map (λ (c : Cache). length c.pages) o ≡ Some n → (c : Cache) × (o ≡ Some c) × (length c.pages ≡ n)
alive_sized None n e = absurd (cc e)
alive_sized (Some c) n e = (c, refl, cc e)

pub not_alive : (o : Option Cache) → option_map (λ (c : Cache). length c.pages) o ≡ None → o ≡ None
not_alive None e = refl
not_alive (Some c) e = absurd (cc e)

pub segment_there : (o : Option Cache) (c : Cache) → o ≡ Some c → c.segment ≡ option_and_then (λ (x : Cache). x.segment) o
segment_there o c e = ap (option_and_then (λ (x : Cache). x.segment)) (sym e)

pub segment_number : (o : Option SegId) (seg : SegId) → option_map (λ (s : SegId). s.0) o ≡ Some seg.0 → o ≡ Some seg
segment_number None seg e = absurd (cc e)
segment_number (Some s) seg e = let same : s.0 ≡ seg.0 = cc e in (λ i. Some (record { 0 = same i }))

-- The rows

module _ (m : Machine) (e : Extent) where
  sync_none : cache_of m e.cache.0 ≡ None → RefusesSync m e refusals.NoCache
  unfolding sync_of flush_of invalidate_of with_some
  sync_none x = record { sync = rw x refl; others = record { flush = rw x refl; invalidate = λ held. rw x refl } }

  module _ (c : model.Cache) (alive : cache_of m e.cache.0 ≡ Some c) where
    sync_unnamed : c.segment ≡ None → RefusesSync m e refusals.NotNamed
    unfolding sync_of flush_of invalidate_of with_some
    sync_unnamed x = record { sync = rw (alive, x) refl; others = record { flush = rw (alive, x) refl; invalidate = λ held. rw (alive, x) refl } }

    module _ (seg : ℕ) (named : c.segment ≡ Some seg) where
      sync_past : nat_lt (length c.pages) (e.first.0 + e.pages) ≡ true → RefusesSync m e refusals.OutOfCache
      unfolding sync_of flush_of invalidate_of with_some unless
      sync_past x = record { sync = rw (alive, named, x) refl; others = record { flush = rw (alive, named, x) refl; invalidate = λ held. rw (alive, named, x) refl } }

      module _ (within : nat_lt (length c.pages) (e.first.0 + e.pages) ≡ false) where
        synced : sync_of m e ≡ reply replies.Done m
        unfolding sync_of with_some unless
        synced = rw (alive, named, within) refl

        flush_locked : is_any_locked m e.cache e.first.0 e.pages ≡ true → RefusesFlush m e refusals.Locked
        unfolding flush_of invalidate_of with_some unless
        flush_locked x = record { flush = rw (alive, named, within, x) refl; invalidate = λ held. rw (alive, named, within, x) refl }

        module _ (unlocked : is_any_locked m e.cache e.first.0 e.pages ≡ false) where
          flushed : flush_of m e ≡ reply replies.Done m
          unfolding flush_of with_some unless
          flushed = rw (alive, named, within, unlocked) refl

          invalidated : (held : Option (List model.Page)) → invalidate_of m e held ≡ reply replies.Done (put_cache m e.cache.0 (answering.put_pages e.first.0 (held_part held e.first.0 e.pages) c))
          unfolding invalidate_of with_some unless
          invalidated held = rw (alive, named, within, unlocked) refl

passes : (a b : ℕ) → a < b → nat_lt a b ≡ true
passes a b less = grind (arith, nat_tests)

stays : (a b : ℕ) → b ≤ a → nat_lt a b ≡ false
stays a b less = grind (arith, nat_tests)

module _ (p : Manager) (e : Extent) where
  plain_at : (o : Option Cache) → numbered p.store.caches e.cache.0 ≡ o → cache_of (machine_in p) e.cache.0 ≡ option_map plain o
  plain_at o x = numbered-map plain p.store.caches e.cache.0 ∙ ap (option_map plain) x

  pub extent_none : numbered p.store.caches e.cache.0 ≡ None → RefusesSync (machine_in p) e refusals.NoCache
  extent_none x = sync_none (machine_in p) e (plain_at None x)

  module _ (c : Cache) (alive : numbered p.store.caches e.cache.0 ≡ Some c) where
    many : length (plain c).pages ≡ length c.pages
    many = length-map c.pages (λ (x : Page). x.bytes)

    pub extent_unnamed : c.segment ≡ None → RefusesSync (machine_in p) e refusals.NotNamed
    extent_unnamed x = sync_unnamed (machine_in p) e (plain c) (plain_at (Some c) alive) (ap (option_map (λ (s : SegId). s.0)) x)

    pub extent_past : (seg : SegId) → c.segment ≡ Some seg → length c.pages < e.first.0 + e.pages → RefusesSync (machine_in p) e refusals.OutOfCache
    extent_past seg named less =
        sync_past (machine_in p) e (plain c) (plain_at (Some c) alive) seg.0 (ap (option_map (λ (s : SegId). s.0)) named)
        (passes (length (plain c).pages) (e.first.0 + e.pages) (omega (arith, many, less)))

  module _ (seg : SegId) (E : IsExtent p.store e seg) where
    pub extent_alive : cache_of (machine_in p) e.cache.0 ≡ Some (plain E.cache)
    extent_alive = plain_at (Some E.cache) E.alive

    named_so : (plain E.cache).segment ≡ Some seg.0
    named_so = ap (option_map (λ (s : SegId). s.0)) E.named

    pub extent_named : segment_of (machine_in p) e.cache.0 ≡ Some seg.0
    extent_named = ap (option_and_then (λ (c : model.Cache). c.segment)) extent_alive ∙ named_so

    pub extent_within : e.first.0 + e.pages ≤ pages_in (cache_of (machine_in p) e.cache.0)
    extent_within = omega (arith, ap pages_in extent_alive, many E.cache E.alive, E.within)

    inside : nat_lt (length (plain E.cache).pages) (e.first.0 + e.pages) ≡ false
    inside = stays (length (plain E.cache).pages) (e.first.0 + e.pages) (omega (arith, many E.cache E.alive, E.within))

    pub sync_row : sync_of (machine_in p) e ≡ reply replies.Done (machine_in p)
    sync_row = synced (machine_in p) e (plain E.cache) extent_alive seg.0 named_so inside

    pub extent_locked : is_any_locked (machine_in p) e.cache e.first.0 e.pages ≡ true → RefusesFlush (machine_in p) e refusals.Locked
    extent_locked = flush_locked (machine_in p) e (plain E.cache) extent_alive seg.0 named_so inside

    pub flush_row : is_any_locked (machine_in p) e.cache e.first.0 e.pages ≡ false → flush_of (machine_in p) e ≡ reply replies.Done (machine_in p)
    flush_row = flushed (machine_in p) e (plain E.cache) extent_alive seg.0 named_so inside

    -- the machine in which these pages stand in the cache
    abbrev pub with_pages : List model.Page → Machine
    with_pages pages = put_cache (machine_in p) e.cache.0 (answering.put_pages e.first.0 pages (plain E.cache))

    pub invalidate_row : is_any_locked (machine_in p) e.cache e.first.0 e.pages ≡ false → (held : Option (List model.Page)) → invalidate_of (machine_in p) e held ≡ reply replies.Done (with_pages (held_part held e.first.0 e.pages))
    invalidate_row = invalidated (machine_in p) e (plain E.cache) extent_alive seg.0 named_so inside

-- A call that is refused

pub refused_call : {X : Type 0} (M : GhostsOfMapper X) (x : X) (p : Manager) (command : Command) (r : Refusal) → IsValid p (M.held x) → ((h : Segments) → answer_of (machine_in p) (plain_forest (machine_in p)) command h ≡ refuse (machine_in p) r)
    → ReachesMapper command no_counts → IsSynchronised (machine_in p) (segments_of (M.held x)) command (Err (troubles.Refused r)) → MapperCall M flat x p command (Err (troubles.Refused r)) x p
refused_call M x p command r valid row reaches said =
    let a : Answer = Err (troubles.Refused r) in
    flat_call M x x p p command a (λ told now. tt) valid.kept
    (eager_left M x (machine_in p) (machine_in p) command a reaches valid.ready valid.ready.whole row said)

-- Pages of an extent were pushed

-- a sync or a flush of it
pub record IsPushing (e : Extent) (command : Command) : Type 0 where
  pub needs : NeedsMade command
  pub reaches : (rises : MapperCounts) → ReachesMapper command rises
  pub said : (m : Machine) (h : Option Segments) (a : Answer) → IsExtentPushed m h e a → IsSynchronised m h command a
  pub may : (m : Machine) (h : Segments) (page : PageNo) (rises : MapperCounts) → IsPageIn e page.0 → MayFault m None command h (faults.Page page) rises

module _ {X : Type 0} (M : GhostsOfMapper X) (before after : X) (p q : Manager) (e : Extent) (command : Command) (of : IsPushing e command) (valid : IsValid p (M.held before)) (row : PlainOutcome (machine_in p) command (Ok replies.Done) (machine_in p)) where
  m : Machine
  m = machine_in p

  -- the call of the machine is one of the manager
  flattened : {T E : Type 0} (r : Result T E) → IsPushed M before p after q r → (a : Answer) → MapperCall M eager before (machine_in p) command a after (machine_in p) → MapperCall M flat before p command a after q
  flattened r P a call =
      flat_call M before after p q command a (fits_less p q command a of.needs (omega (arith, ap live_pages P.machine))) P.valid.kept
      (subst (λ (x : Machine). MapperCall M eager before (machine_in p) command a after x) (sym P.machine) call)

  ready : {T E : Type 0} (r : Result T E) → IsPushed M before p after q r → IsReady (machine_in p) (M.held after)
  ready r P = subst (λ (x : Machine). IsReady x (M.held after)) P.machine P.valid.ready

  pub all_pushed : {T E : Type 0} (r : Result T E) → IsPushed M before p after q r → ArePushed (machine_in p) (segments_of (M.held after)) e.cache.0 e.first.0 (e.first.0 + e.pages) → MapperCall M flat before p command (Ok replies.Done) after q
  all_pushed r P there =
      flattened r P (Ok replies.Done)
      (eager_call M before after (machine_in p) (machine_in p) command (Ok replies.Done) (ready r P)
      (call_is (M.held before) (M.held after) _ _ (machine_in p) (machine_in p) command (Ok replies.Done) r P.pushed valid.ready.whole valid.ready.whole (of.reaches P.pushed.rises)
      (plain_for (M.held after) (machine_in p) (machine_in p) command (Ok replies.Done) P.pushed.rises row) (of.said (machine_in p) (segments_of (M.held after)) (Ok replies.Done) there)) tt P.page)

  pub pushing_failed : {T E : Type 0} (x : E) (P : IsPushed M before p after q (let r : Result T E = Err x in r)) (page : PageNo) → ArePushed (machine_in p) (segments_of (M.held after)) e.cache.0 e.first.0 page.0 → IsPageIn e page.0
      → MapperCall M flat before p command (Err (troubles.Mapper (faults.Page page))) after q
  pushing_failed x P page there at =
      let a : Answer = Err (troubles.Mapper (faults.Page page)) in
      flattened (Err x) P a
      (eager_call M before after (machine_in p) (machine_in p) command a (ready (Err x) P)
      (call_is (M.held before) (M.held after) _ _ (machine_in p) (machine_in p) command a (Err x) P.pushed valid.ready.whole valid.ready.whole (of.reaches P.pushed.rises)
      (fault_for (M.held after) (machine_in p) command (faults.Page page) P.pushed.rises P.pushed.failed (λ s. of.may (machine_in p) s page P.pushed.rises at) (λ s. subst (λ (y : Answered). IsNotRefused y.answer) (sym (row s)) tt))
      (of.said (machine_in p) (segments_of (M.held after)) a there)) tt P.page)
