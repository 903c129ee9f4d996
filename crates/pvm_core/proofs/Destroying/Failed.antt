-- A cache doesn't go, since the mapper failed: the answers.
use Rattle.std.proofs.Common.{◌≡◌, ◌⊎◌, ℕ, ◌+◌, false, length, Option, Some, option_map, refl, sym, ap, ◌∙◌, subst, arith, inl, inr}
use Rattle.std.specs.Prelude.{Err, Result, unwrap_or}
use Rattle.vm_ids.specs.Counting.{MapperCounts, Rose}
use Rattle.vm_ids.specs.Held.{Held, Segments, segments_of}
use Rattle.vm_ids.specs.declared.command.Command.TheVariants as commands
use Rattle.vm_ids.specs.declared.command.Extent.{Extent}
use Rattle.vm_ids.specs.declared.numbers.CacheId.{CacheId}
use Rattle.vm_ids.specs.declared.numbers.PageNo.{PageNo}
use Rattle.vm_ids.specs.declared.refusal.Refusal.{Refusal}
use Rattle.vm_ids.specs.declared.refusal.Refusal.TheVariants as refusals
use Rattle.vm_ids.specs.declared.reply.FaultAt.TheVariants as faults
use Rattle.vm_ids.specs.declared.reply.Trouble.{Trouble}
use Rattle.vm_ids.specs.declared.reply.Trouble.TheVariants as troubles
use Rattle.vm_ids.specs.Forest.Commands.{page_names}
use Rattle.vm_ids.specs.Forest.Saving.{saves}
use Rattle.local_cache.specs.Arena.{Table, table_of}
use Rattle.local_cache.specs.Whole.{IsWhole, size_of}
use Rattle.gmi_calls.specs.Calling.{AsksFirst, RaisesMade, done_by}
use Rattle.vm_model.specs.Answering.{is_mapped}
use Rattle.vm_model.specs.Machine.{cache_of, pages_in}
use Rattle.vm_model.specs.Outcome.{CanFailAtSave, NotRefusedButFor, Outcome}
use Rattle.vm_model.specs.PageForest.{PageForest}
use Rattle.vm_model.specs.Run.{CallIs}
use Rattle.vm_model.specs.Synchronised.{ArePushed}
use Rattle.pvm_core.specs.Manager.{IsValid, Manager, cache_shown, forest_of, machine_by, machine_of, numbered, state_at}
use Rattle.pvm_core.specs.Saving.{CopiesSaved, FailedToPush, FailedToSave, IsNotWrittenBack, IsPushed, KeepsMachine, all_of}
use Rattle.pvm_core.proofs.Answering.Answered.{call_is, failed, no_segments, outcome_by}
use Rattle.pvm_core.proofs.Readiness.Copies.{saves_copied}
use Rattle.pvm_core.proofs.Destroying.Rows.{destroy_row}
use Rattle.pvm_core.proofs.Readiness.Granted.{named_of}
use Rattle.pvm_core.proofs.Answering.Reaching.{reach_told}
use Rattle.pvm_core.proofs.Answering.Rising.{grown_some, rises_between}
use Rattle.pvm_core.proofs.Meaning.Shown.{length-pages, numbered-caches}
use Rattle.pvm_core.proofs.Accesses.Loading.{sized_table}
use Rattle.pvm_core.proofs.Accesses.Stored.{named_in}

-- all pages of the cache
abbrev pub of_cache : CacheId → ℕ → Extent
of_cache cache pages = record { cache = cache; first = record { 0 = 0 }; pages = pages }

-- What failed where the pages weren't written back: the push of a page, or a save.
pub record WentWrong (e : Extent) (p q : Manager) (h g : Option Held) (trouble : Trouble) : Type 0 where
  pub is : ((page : PageNo) × (trouble ≡ troubles.Mapper (faults.Page page)) × FailedToPush e page.0 p q h g)
      ⊎ ((done : ℕ) × (trouble ≡ troubles.Mapper (faults.Save done)) × FailedToSave e done p q h g × IsPushed e p h g)

pub not_written_cases : (e : Extent) (p q : Manager) (h g : Option Held) (trouble : Trouble) → IsNotWrittenBack e p h q g trouble → WentWrong e p q h g trouble
not_written_cases e p q h g (troubles.Mapper (faults.Page page)) d = record { is = inl (page, refl, d) }
not_written_cases e p q h g (troubles.Mapper (faults.Save done)) d = record { is = inr (done, refl, d.0, d.1) }
not_written_cases e p q h g troubles.Memory d = absurd d
not_written_cases e p q h g (troubles.Mapper faults.Opening) d = absurd d
not_written_cases e p q h g (troubles.Mapper (faults.Access page)) d = absurd d
not_written_cases e p q h g (troubles.Mapper faults.Victim) d = absurd d
not_written_cases e p q h g (troubles.Refused refusals.BadLine) d = absurd d
not_written_cases e p q h g (troubles.Refused refusals.NoActor) d = absurd d
not_written_cases e p q h g (troubles.Refused refusals.NoCache) d = absurd d
not_written_cases e p q h g (troubles.Refused refusals.NoRegion) d = absurd d
not_written_cases e p q h g (troubles.Refused refusals.NoSegment) d = absurd d
not_written_cases e p q h g (troubles.Refused refusals.SegmentInUse) d = absurd d
not_written_cases e p q h g (troubles.Refused refusals.OutOfCache) d = absurd d
not_written_cases e p q h g (troubles.Refused refusals.BadAddress) d = absurd d
not_written_cases e p q h g (troubles.Refused refusals.Protection) d = absurd d
not_written_cases e p q h g (troubles.Refused refusals.Overlap) d = absurd d
not_written_cases e p q h g (troubles.Refused refusals.Unaligned) d = absurd d
not_written_cases e p q h g (troubles.Refused refusals.Crosses) d = absurd d
not_written_cases e p q h g (troubles.Refused refusals.Locked) d = absurd d
not_written_cases e p q h g (troubles.Refused refusals.LockLimit) d = absurd d
not_written_cases e p q h g (troubles.Refused refusals.InUse) d = absurd d
not_written_cases e p q h g (troubles.Refused refusals.TooMany) d = absurd d
not_written_cases e p q h g (troubles.Refused refusals.NotTemp) d = absurd d
not_written_cases e p q h g (troubles.Refused refusals.NotNamed) d = absurd d
not_written_cases e p q h g (troubles.Refused refusals.NotLocked) d = absurd d
not_written_cases e p q h g (troubles.Refused refusals.Full) d = absurd d
not_written_cases e p q h g (troubles.Refused refusals.NoProcess) d = absurd d
not_written_cases e p q h g (troubles.Refused refusals.BadImage) d = absurd d
not_written_cases e p q h g (troubles.Refused refusals.TooLarge) d = absurd d
not_written_cases e p q h g (troubles.Refused refusals.NoPort) d = absurd d
not_written_cases e p q h g (troubles.Refused refusals.PortFull) d = absurd d
not_written_cases e p q h g (troubles.Refused refusals.PortEmpty) d = absurd d
not_written_cases e p q h g (troubles.Refused refusals.NotOpen) d = absurd d
not_written_cases e p q h g (troubles.Refused refusals.WriteDenied) d = absurd d

module _ (p q : Manager) (h g : Option Held) (c d : MapperCounts) (cache : CacheId) (pages : ℕ) (keeps : KeepsMachine p q h g c d) (nodes : IsWhole p.caches) (then : IsWhole q.caches) (now : IsValid q g)
    (table : Table) (there : table_of p.caches cache.0 ≡ Some table) (long : length table.pages ≡ pages) (free : (f : PageForest) → is_mapped (machine_by p f) cache.0 ≡ false) where
  abbrev n : ℕ
  n = length keeps.reach.pushes

  here : (f : PageForest) → cache_of (machine_by p f) cache.0 ≡ Some (cache_shown f cache.0 table)
  here f = numbered-caches f p.caches.caches cache.0 ∙ ap (option_map (cache_shown f cache.0)) there

  pub touched : (f : PageForest) → pages_in (cache_of (machine_by p f) cache.0) ≡ pages
  touched f = ap pages_in (here f) ∙ length-pages f cache.0 0 (length table.pages) ∙ long

  -- the machine would have refused nothing
  not_refused : (f : PageForest) (at : Rattle.vm_ids.specs.declared.reply.FaultAt.FaultAt) → NotRefusedButFor at (Rattle.vm_model.specs.Answering.destroy_of (machine_by p f) cache.0).answer
  not_refused f at = subst (λ a. NotRefusedButFor at a.answer) (sym (destroy_row (machine_by p f) cache.0 (cache_shown f cache.0 table) (here f) (free f))) tt

  page_call : (page : PageNo) → FailedToPush (of_cache cache pages) page.0 p q h g → Rose c.faults d.faults → CallIs c d (state_at p h) (commands.Destroy cache) (Err (troubles.Mapper (faults.Page page))) (state_at q g)
  page_call page out rose =
      let seg = named_of (table_of p.caches cache.0) out.named in
      failed c d p q h g (commands.Destroy cache) (Err (troubles.Mapper (faults.Page page))) keeps.reach nodes then now out.kept.forest refl tt out.pushed
      (λ f s. (keeps.by f, grown_some n c.faults d.faults rose, (named_in p f cache.0 seg.0 seg.1, omega (arith, touched f, out.stop.1)), not_refused f (faults.Page page)))

  save_call : (done : ℕ) → FailedToSave (of_cache cache pages) done p q h g → IsPushed (of_cache cache pages) p h g → Rose c.faults d.faults → CallIs c d (state_at p h) (commands.Destroy cache) (Err (troubles.Mapper (faults.Save done))) (state_at q g)
  save_call done out pushed rose =
      let seg = named_of (table_of p.caches cache.0) out.named in
      let same : forest_of q g ≡ saves done (page_names cache 0 (pages_in (cache_of (machine_of p h) cache.0))) (forest_of p h) = out.forest ∙ ap (λ (k : ℕ). saves done (page_names cache 0 k) (forest_of p h)) (sym (touched (forest_of p h))) in
      let told : (f : PageForest) (s : Segments) → Outcome (machine_by p f) (Some (forest_of p h)) (commands.Destroy cache) s (Err (troubles.Mapper (faults.Save done))) (machine_by q f) (rises_between n c d)
      = λ f s. (
        keeps.by f,
        grown_some n c.faults d.faults rose,
        (named_in p f cache.0 seg.0 seg.1, subst (λ (k : ℕ). CanFailAtSave (Some (forest_of p h)) (page_names cache 0 k) done) (sym (touched f)) out.left),
        not_refused f (faults.Save done),
      ) in
      call_is c d p q h g (commands.Destroy cache) (Err (troubles.Mapper (faults.Save done))) keeps.reach now tt
      (subst (λ (k : ℕ). ArePushed (machine_of p h) (segments_of g) cache.0 0 k) (let e : 0 + pages ≡ pages = omega arith in e ∙ sym (touched (forest_of p h))) pushed) same
      (outcome_by p q h g (commands.Destroy cache) (Err (troubles.Mapper (faults.Save done))) (rises_between n c d) no_segments nodes then (reach_told (machine_of p h) h g c d keeps.reach) keeps.machine
      (λ e f. told f no_segments) (λ s e. told (forest_of p h) s) keeps.by)

  destroy_failed : (trouble : Trouble) → IsNotWrittenBack (of_cache cache pages) p h q g trouble → Rose c.faults d.faults → CallIs c d (state_at p h) (commands.Destroy cache) (Err trouble) (state_at q g)
  destroy_failed trouble out rose = elim (not_written_cases (of_cache cache pages) p q h g trouble out).is [
    | inl w ↦ subst (λ (t : Trouble). CallIs c d (state_at p h) (commands.Destroy cache) (Err t) (state_at q g)) (sym w.1) (page_call w.0 w.2 rose)
    | inr w ↦ subst (λ (t : Trouble). CallIs c d (state_at p h) (commands.Destroy cache) (Err t) (state_at q g)) (sym w.1) (save_call w.0 w.2 w.3 rose)
  ]

  destroy_made : (trouble : Trouble) → IsNotWrittenBack (of_cache cache pages) p h q g trouble → RaisesMade (machine_of p h) (commands.Destroy cache) (Err trouble) (machine_of q g) (numbered p) (numbered q)
  destroy_made trouble out = elim (not_written_cases (of_cache cache pages) p q h g trouble out).is [
    | inl w ↦ subst (λ (t : Trouble). RaisesMade (machine_of p h) (commands.Destroy cache) (Err t) (machine_of q g) (numbered p) (numbered q)) (sym w.1) (omega (arith, keeps.made, w.2.kept.copies))
    | inr w ↦ subst (λ (t : Trouble). RaisesMade (machine_of p h) (commands.Destroy cache) (Err t) (machine_of q g) (numbered p) (numbered q)) (sym w.1) (omega (arith, keeps.made, saves_copied p q h g (of_cache cache pages) nodes w.0 w.2.forest, touched (forest_of p h)))
  ]

-- no memory was wanted then
destroy_asks : (e : Extent) (p q : Manager) (h g : Option Held) (c d : MapperCounts) (cache : CacheId) (trouble : Trouble) → IsNotWrittenBack e p h q g trouble → AsksFirst (commands.Destroy cache) (Err trouble) c d
destroy_asks e p q h g c d cache trouble out = elim (not_written_cases e p q h g trouble out).is [
  | inl w ↦ subst (λ (t : Trouble). AsksFirst (commands.Destroy cache) (Err t) c d) (sym w.1) tt
  | inr w ↦ subst (λ (t : Trouble). AsksFirst (commands.Destroy cache) (Err t) c d) (sym w.1) tt
]

-- the pages copied are those of the saves that were done
destroy_copied : (e : Extent) (p q : Manager) (h g : Option Held) (trouble : Trouble) → IsNotWrittenBack e p h q g trouble → CopiesSaved e p h q (Err trouble)
destroy_copied e p q h g trouble out = elim (not_written_cases e p q h g trouble out).is [
  | inl w ↦ subst (λ (t : Trouble). CopiesSaved e p h q (Err t)) (sym w.1) w.2.kept.copies
  | inr w ↦ subst (λ (t : Trouble). CopiesSaved e p h q (Err t)) (sym w.1) w.2.copies
]

-- none of this is a refusal
destroy_refused : (e : Extent) (p q : Manager) (h g : Option Held) (trouble : Trouble) → IsNotWrittenBack e p h q g trouble → (r : Refusal) → trouble ≡ troubles.Refused r → ⊥
destroy_refused e p q h g trouble out r is = elim (not_written_cases e p q h g trouble out).is [
  | inl w ↦ (let k : troubles.Refused r ≡ troubles.Mapper (faults.Page w.0) = sym is ∙ w.1 in cc k)
  | inr w ↦ (let k : troubles.Refused r ≡ troubles.Mapper (faults.Save w.0) = sym is ∙ w.1 in cc k)
]

-- how a call ends whose pages aren't written back
pub record IsNotDestroyed (p q : Manager) (h g : Option Held) (c d : MapperCounts) (cache : CacheId) (result : Result (Unit {0}) Trouble) : Type 0 where
  pub answers : CallIs c d (state_at p h) (commands.Destroy cache) (done_by result) (state_at q g)
  pub asks_first : AsksFirst (commands.Destroy cache) (done_by result) c d
  pub made : RaisesMade (machine_of p h) (commands.Destroy cache) (done_by result) (machine_of q g) (numbered p) (numbered q)
  pub copies : CopiesSaved (all_of p.caches cache) p h q result
  pub refused : (r : Refusal) → result ≡ Err (troubles.Refused r) → ⊥

pub not_destroyed : (p q : Manager) (h g : Option Held) (c d : MapperCounts) (cache : CacheId) (pages : ℕ) → KeepsMachine p q h g c d → IsWhole p.caches → IsWhole q.caches → IsValid q g → size_of p.caches cache.0 ≡ Some pages → ((f : PageForest) → is_mapped (machine_by p f) cache.0 ≡ false)
    → (trouble : Trouble) → IsNotWrittenBack (of_cache cache pages) p h q g trouble → Rose c.faults d.faults → IsNotDestroyed p q h g c d cache (Err trouble)
not_destroyed p q h g c d cache pages keeps nodes then now size free trouble out rose =
    let t = sized_table (table_of p.caches cache.0) pages size in
    let all : all_of p.caches cache ≡ of_cache cache pages = ap (λ (o : Option ℕ). of_cache cache (unwrap_or o 0)) size in
    record {
      answers = destroy_failed p q h g c d cache pages keeps nodes then now t.0 t.1 t.2 free trouble out rose;
      asks_first = destroy_asks (of_cache cache pages) p q h g c d cache trouble out;
      made = destroy_made p q h g c d cache pages keeps nodes then now t.0 t.1 t.2 free trouble out;
      copies = subst (λ (e : Extent). CopiesSaved e p h q (Err trouble)) (sym all) (destroy_copied (of_cache cache pages) p q h g trouble out);
      refused = λ r e. destroy_refused (of_cache cache pages) p q h g trouble out r (let k : trouble ≡ troubles.Refused r = cc e in k);
    }
