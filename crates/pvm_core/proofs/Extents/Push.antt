-- The answers of a sync and a flush.
use Rattle.std.proofs.Common.{◌≡◌, ℕ, ◌+◌, false, length, Option, Some, None, refl, sym, ap, ◌∙◌, subst, arith}
use Rattle.std.specs.Prelude.{Result, Ok, Err, IfErr, OnErr, OnOk}
use Rattle.vm_ids.specs.Counting.{MapperCounts, Rose}
use Rattle.vm_ids.specs.Held.{Held, Segments, segments_of}
use Rattle.vm_ids.specs.declared.command.Command.TheVariants as commands
use Rattle.vm_ids.specs.declared.command.Extent.{Extent}
use Rattle.vm_ids.specs.declared.numbers.PageNo.{PageNo}
use Rattle.vm_ids.specs.declared.refusal.Refusal.{Refusal}
use Rattle.vm_ids.specs.declared.reply.FaultAt.TheVariants as faults
use Rattle.vm_ids.specs.declared.reply.Reply.TheVariants as replies
use Rattle.vm_ids.specs.declared.reply.Trouble.{Trouble}
use Rattle.vm_ids.specs.declared.reply.Trouble.TheVariants as troubles
use Rattle.local_cache.specs.Arena.{Arena}
use Rattle.residency.specs.Causes.{HasMissCause}
use Rattle.residency.specs.declared.miss.Miss.{Miss}
use Rattle.residency.specs.declared.miss.Miss.TheVariants.{Pull, Victim}
use Rattle.residency.specs.declared.store.Store.{Store}
use Rattle.residency.specs.World.{world}
use Rattle.segment_ops.specs.Ranges as ranges
use Rattle.segment_ops.specs.Saving.{HasFailed}
use Rattle.segment_ops.specs.Synced.{AreSynced}
use Rattle.vm_model.specs.Answering.{is_any_locked, reply}
use Rattle.vm_model.specs.Outcome.{NotRefusedButFor, Outcome}
use Rattle.vm_model.specs.PageForest.{PageForest}
use Rattle.vm_model.specs.Run.{CallIs}
use Rattle.vm_model.specs.Synchronised.{IsExtentPushed}
use Rattle.gmi_calls.specs.Calling.{done_by}
use Rattle.pvm_core.specs.Manager.{IsValid, Manager, forest_of, machine_by, machine_of, state_at}
use Rattle.local_cache.specs.Whole.{IsWhole}
use Rattle.pvm_core.proofs.Answering.Answered.{called}
use Rattle.pvm_core.proofs.Extents.Rows.{IsExtent, flush_row, sync_row}
use Rattle.pvm_core.proofs.Extents.Synced.{are_pushed, synced_unsized}
use Rattle.pvm_core.specs.Reaching.{Reach}
use Rattle.pvm_core.proofs.Answering.Rising.{grown_some, rises_between}

-- a page at which the mapper failed, as a fault
abbrev pub failing : Result (Unit {0}) PageNo → Result (Unit {0}) Trouble
failing (Ok x) = Ok x
failing (Err page) = Err (troubles.Mapper (faults.Page page))

pub failing_ok : (P : Type 0) (r : Result (Unit {0}) PageNo) → OnOk r P → OnOk (failing r) P
failing_ok P (Ok x) p = p
failing_ok P (Err page) p = tt

-- which is no refusal
pub never_refused : (r : Result (Unit {0}) PageNo) (x : Refusal) → failing r ≡ Err (troubles.Refused x) → ⊥
never_refused (Ok u) x e = cc e
never_refused (Err page) x e = cc e

pub fault_rose : (c d : MapperCounts) (miss : Miss) → HasMissCause c d miss → Rose c.faults d.faults
fault_rose c d Pull cause = cause.faults
fault_rose c d Victim cause = cause.faults

-- what is said of a range doesn't depend on the size of the mapper's pages
pub all_unsized : (g : Option Held) (j : Option ℕ) (b : Arena) (t : Store) (e : Extent) (r : Result (Unit {0}) PageNo) → OnOk r (AreSynced e (e.first.0 + e.pages) (world g j b t)) → OnOk r (AreSynced e (e.first.0 + e.pages) (world g None b t))
all_unsized g j b t e (Ok x) synced = synced_unsized g j b t e (e.first.0 + e.pages) synced
all_unsized g j b t e (Err page) synced = tt

pub stop_unsized : (g : Option Held) (j : Option ℕ) (b : Arena) (t : Store) (e : Extent) (r : Result (Unit {0}) PageNo) → IfErr r (λ page. ranges.IsPageOf e page.0 × AreSynced e page.0 (world g j b t)) → IfErr r (λ page. ranges.IsPageOf e page.0 × AreSynced e page.0 (world g None b t))
stop_unsized g j b t e (Ok x) stopped = tt
stop_unsized g j b t e (Err page) stopped = (stopped.0, synced_unsized g j b t e page.0 stopped.1)

module _ (p q : Manager) (h g : Option Held) (e : Extent) (x : IsExtent p.caches e) (apart : Rattle.pvm_core.specs.Manager.AreApart p.caches) (c d : MapperCounts) (reach : Reach (machine_of p h) h g c d)
    (nodes : IsWhole p.caches) (then : IsWhole q.caches) (valid : IsValid q g) (tables : q.caches.caches ≡ p.caches.caches) (forest : forest_of q g ≡ forest_of p h) (by : (f : PageForest) → machine_by q f ≡ machine_by p f)
    (r : Result (Unit {0}) PageNo) (synced : OnOk r (AreSynced e (e.first.0 + e.pages) (world g None q.caches q.store))) (stopped : IfErr r (λ page. ranges.IsPageOf e page.0 × AreSynced e page.0 (world g None q.caches q.store))) (cause : OnErr r (HasFailed c d)) where
  pushed : IsExtentPushed (machine_of p h) (segments_of g) e (done_by (failing r))
  pushed = go r synced stopped
    where
      go : (r : Result (Unit {0}) PageNo) → OnOk r (AreSynced e (e.first.0 + e.pages) (world g None q.caches q.store)) → IfErr r (λ page. ranges.IsPageOf e page.0 × AreSynced e page.0 (world g None q.caches q.store)) → IsExtentPushed (machine_of p h) (segments_of g) e (done_by (failing r))
      go (Ok z) synced stopped = are_pushed p h apart e x q.caches q.store g then valid.right tables forest (e.first.0 + e.pages) (omega arith) synced
      go (Err page) synced stopped = are_pushed p h apart e x q.caches q.store g then valid.right tables forest page.0 (let low = stopped.0.1 in omega (arith, low)) stopped.1

  sync_outcome : (n : ℕ) (f : PageForest) (s : Segments) → Outcome (machine_by p f) (Some (forest_of p h)) (commands.Sync e) s (done_by (failing r)) (machine_by q f) (rises_between n c d)
  sync_outcome n f s = go r stopped cause
    where
      go : (r : Result (Unit {0}) PageNo) → IfErr r (λ page. ranges.IsPageOf e page.0 × AreSynced e page.0 (world g None q.caches q.store)) → OnErr r (HasFailed c d) → Outcome (machine_by p f) (Some (forest_of p h)) (commands.Sync e) s (done_by (failing r)) (machine_by q f) (rises_between n c d)
      go (Ok z) stopped cause = sync_row p f e x ∙ ap (reply replies.Done) (sym (by f))
      go (Err page) stopped cause = (by f, grown_some n c.faults d.faults (fault_rose c d cause.miss cause.cause), stopped.0, subst (λ a. NotRefusedButFor (faults.Page page) a.answer) (sym (sync_row p f e x)) tt)

  flush_outcome : ((f : PageForest) → is_any_locked (machine_by p f) e.cache e.first.0 e.pages ≡ false) → (n : ℕ) (f : PageForest) (s : Segments) → Outcome (machine_by p f) (Some (forest_of p h)) (commands.Flush e) s (done_by (failing r)) (machine_by q f) (rises_between n c d)
  flush_outcome lock n f s = go r stopped cause
    where
      go : (r : Result (Unit {0}) PageNo) → IfErr r (λ page. ranges.IsPageOf e page.0 × AreSynced e page.0 (world g None q.caches q.store)) → OnErr r (HasFailed c d) → Outcome (machine_by p f) (Some (forest_of p h)) (commands.Flush e) s (done_by (failing r)) (machine_by q f) (rises_between n c d)
      go (Ok z) stopped cause = flush_row p f e x (lock f) ∙ ap (reply replies.Done) (sym (by f))
      go (Err page) stopped cause = (by f, grown_some n c.faults d.faults (fault_rose c d cause.miss cause.cause), stopped.0, subst (λ a. NotRefusedButFor (faults.Page page) a.answer) (sym (flush_row p f e x (lock f))) tt)

  pub sync_is : CallIs c d (state_at p h) (commands.Sync e) (done_by (failing r)) (state_at q g)
  sync_is = called c d p q h g (commands.Sync e) (done_by (failing r)) reach nodes then valid forest (λ done m f s none. none) tt pushed (λ f. refl) (λ page. refl) (sync_outcome (length reach.pushes))

  pub flush_is : ((f : PageForest) → is_any_locked (machine_by p f) e.cache e.first.0 e.pages ≡ false) → CallIs c d (state_at p h) (commands.Flush e) (done_by (failing r)) (state_at q g)
  flush_is lock = called c d p q h g (commands.Flush e) (done_by (failing r)) reach nodes then valid forest (λ done m f s none. none) tt pushed (λ f. refl) (λ page. refl) (flush_outcome lock (length reach.pushes))
