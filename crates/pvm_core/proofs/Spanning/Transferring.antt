-- A copy or a move that isn't carried out, though nothing refuses it but the mapper: a write that
-- is denied, a fault, or want of memory.
use Rattle.std.proofs.Common.{◌≡◌, ◌≢◌, ◌⊎◌, ℕ, ◌+◌, ◌-◌, ◌<◌, ◌≤◌, Bool, true, false, length, Option, Some, None, refl, sym, ap, ◌∙◌, subst, arith, inl, inr}
use Rattle.std.specs.Prelude.{Err, option_map}
use Rattle.std.specs.List.{list_any, range_with_len}
use Rattle.std.proofs.lemmas.List.Folds.{list_any_at, list_any_none}
use Rattle.std.proofs.lemmas.List.FromFn.{get_or-range_with_len, length-range_with_len}
use Rattle.vm_ids.specs.Counting.{MapperCounts, Rose}
use Rattle.vm_ids.specs.Held.{Held, Segments, segments_of}
use Rattle.vm_ids.specs.declared.command.Command.{Command}
use Rattle.vm_ids.specs.declared.command.Span.{Span}
use Rattle.vm_ids.specs.declared.command.Extent.{Extent}
use Rattle.vm_ids.specs.declared.numbers.PageNo.{PageNo}
use Rattle.vm_ids.specs.declared.refusal.Refusal.TheVariants as refusals
use Rattle.vm_ids.specs.declared.reply.Reply.TheVariants as replies
use Rattle.vm_ids.specs.declared.reply.FaultAt.{FaultAt}
use Rattle.vm_ids.specs.declared.reply.FaultAt.TheVariants as faults
use Rattle.vm_ids.specs.declared.reply.Trouble.{Trouble}
use Rattle.vm_ids.specs.declared.reply.Trouble.TheVariants as troubles
use Rattle.vm_ids.specs.declared.node_name.NodeName.{NodeName}
use Rattle.vm_ids.specs.Forest.Commands.{extent_names, firsts, span_pairs}
use Rattle.vm_ids.specs.Forest.Saving.{saves}
use Rattle.local_cache.specs.Whole.{IsWhole, size_of}
use Rattle.residency.specs.declared.store.Store.{Store}
use Rattle.residency.specs.World.{IsStoreRight, world}
use Rattle.page_commands.specs.Steps.{GivesBack}
use Rattle.contexts.specs.Actors.{Actors}
use Rattle.segment_ops.specs.Access.{IsAskedFor, OneDenied}
use Rattle.vm_model.specs.Answering.{Answer, answer_of, is_any_denied, is_denied_page, refuse, reply}
use Rattle.vm_model.specs.Asking.{ReachesMapper, pages_touched}
use Rattle.vm_model.specs.Following.{pages_saved}
use Rattle.vm_model.specs.Machine.{Machine}
use Rattle.vm_model.specs.Outcome.{CanFailAtSave, IsFirstAsked, IsNamed, MayFault, MayLackMemory, NotRefusedButFor, Outcome}
use Rattle.vm_model.specs.PageForest.{PageForest, forest_shown}
use Rattle.vm_model.specs.Run.{CallIs}
use Rattle.vm_model.specs.Synchronised.{IsSynchronised}
use Rattle.pvm_core.specs.Manager.{IsValid, Manager, forest_of, machine_by, machine_of, numbered, state_at, world_of}
use Rattle.pvm_core.specs.Saving.{CopiesSaved, FailedToSave, IsNotReady, KeepsForest, KeepsMachine}
use Rattle.local_cache.specs.Arena.{Arena, table_of}
use Rattle.pvm_core.proofs.Answering.Kept.{seen}
use Rattle.page_commands.specs.Homes.{IsWritable}
use Rattle.page_commands.proofs.CommandSteps.Ranges.{destination_names}
use Rattle.vm_ids.proofs.Forest.Laws.Ranges.{ranges_hold_their_pages}
use Rattle.pvm_core.specs.Keeping.{CopiesNothing}
use Rattle.pvm_core.proofs.Readiness.Copies.{saves_copied}
use Rattle.gmi_calls.specs.Calling.{RaisesMade}
use Rattle.vm_ids.specs.declared.refusal.Refusal.{Refusal}
use Rattle.vm_ids.specs.Forest.NameLists.{◌∈◌}
use Rattle.pvm_core.specs.Spans.{replaced}
use Rattle.pvm_core.specs.Writes.{AreWritable, IsNotGranted}
use Rattle.pvm_core.proofs.Answering.Answered.{call_is, failed_at, no_segments, outcome_by}
use Rattle.pvm_core.proofs.Readiness.Denied.{allowed_later, allowed_there, denied_later, denied_there, denies_one, one_denied}
use Rattle.pvm_core.proofs.Readiness.Granted.{named_of}
use Rattle.pvm_core.proofs.Answering.Reaching.{reach_denied, reach_told}
use Rattle.pvm_core.proofs.Answering.Rising.{grown_some, rises_between}
use Rattle.pvm_core.proofs.Accesses.Stored.{denied_by, named_in, undenied, undenied_blank}

-- the command of a copy or a move of the span, which nothing refuses for this manager but the
-- mapper
pub record IsTransfer (p : Manager) (span : Span) (command : Command) : Type 0 where
  pub next : PageForest → Machine
  pub row : (f g : PageForest) (s : Segments) → is_any_denied (machine_by p f) s span ≡ false → answer_of (machine_by p f) g command s ≡ reply replies.Done (next f)
  pub shut : (f g : PageForest) (s : Segments) → is_any_denied (machine_by p f) s span ≡ true → answer_of (machine_by p f) g command s ≡ refuse (machine_by p f) refusals.WriteDenied
  pub saved : (m : Machine) → pages_saved m command ≡ extent_names (replaced span)
  pub access : (m : Machine) (f : Option PageForest) (s : Segments) (page : PageNo) (rises : MapperCounts) → IsNamed m span.to.0 → IsFirstAsked m s span page.0 → MayFault m f command s (faults.Access page) rises
  pub save : (m : Machine) (f : Option PageForest) (s : Segments) (done : ℕ) (rises : MapperCounts) → IsNamed m span.to.0 → CanFailAtSave f (extent_names (replaced span)) done → MayFault m f command s (faults.Save done) rises
  pub memory : MayLackMemory command
  pub reaches : (rises : MapperCounts) → ReachesMapper command rises
  pub touched : (m : Machine) → span.pages ≤ pages_touched m command
  pub quiet : (m : Machine) (h : Option Segments) (answer : Answer) → IsSynchronised m h command answer

-- Which pages are denied

pub one_of : (test : ℕ → Bool) (first pages q : ℕ) → first ≤ q → q < first + pages → test q ≡ true → list_any test (range_with_len first pages) ≡ true
one_of test first pages q from below is =
    let i = q - first in
    let small : i < pages = omega (arith, from, below) in
    list_any_at test (range_with_len first pages) i 0 (omega (arith, small, length-range_with_len first pages))
    (ap test (get_or-range_with_len first pages i 0 small) ∙ ap test (let e : first + i ≡ q = omega (arith, from) in e) ∙ is)

pub none_of : (test : ℕ → Bool) (first pages : ℕ) → ((q : ℕ) → first ≤ q → q < first + pages → test q ≡ false) → list_any test (range_with_len first pages) ≡ false
none_of test first pages none = list_any_none test (range_with_len first pages) (λ i d less.
    let small : i < pages = omega (arith, less, length-range_with_len first pages) in
    ap test (get_or-range_with_len first pages i d small) ∙ none (first + i) (omega arith) (omega (arith, small)))

-- where each page of the range may be written, none is denied
pub undenied_range : (p : Manager) (h : Option Held) → IsWhole p.caches → IsStoreRight (world_of p h) → (span : Span) (count : ℕ) → size_of p.caches span.to.0 ≡ Some count → span.to_page.0 + span.pages ≤ count → AreWritable (replaced span) p.caches
    → (f : PageForest) (g : Option Held) (s : Segments) → option_map (λ (s : Segments). s.denied) (segments_of g) ≡ option_map (λ (s : Segments). s.denied) (segments_of h) → segments_of g ≡ Some s → is_any_denied (machine_by p f) s span ≡ false
undenied_range p h nodes right span count size within writable f g s denied is = none_of (is_denied_page (machine_by p f) s span.to.0) span.to_page.0 span.pages
    (λ q from below. undenied p h nodes right span.to q count size (omega (arith, below, within)) (writable q (from, below)) f g s denied is)

pub undenied_any : (p : Manager) (f : PageForest) (span : Span) → is_any_denied (machine_by p f) no_segments span ≡ false
undenied_any p f span = none_of (is_denied_page (machine_by p f) no_segments span.to.0) span.to_page.0 span.pages (λ q from below. undenied_blank p f span.to.0 q)

-- What can go wrong

-- why the pages weren't ready
pub record WentWrong (range : Extent) (p q : Manager) (h g : Option Held) (trouble : Trouble) : Type 0 where
  pub is : ((trouble ≡ troubles.Refused refusals.WriteDenied) × KeepsForest p q h g × IsNotGranted range h p.caches q.caches (troubles.Refused refusals.WriteDenied))
      ⊎ (((page : PageNo) × (trouble ≡ troubles.Mapper (faults.Access page)) × KeepsForest p q h g × IsNotGranted range h p.caches q.caches (troubles.Mapper (faults.Access page)))
      ⊎ (((trouble ≡ troubles.Memory) × KeepsForest p q h g × AreWritable range q.caches)
      ⊎ ((done : ℕ) × (trouble ≡ troubles.Mapper (faults.Save done)) × FailedToSave range done p q h g × AreWritable range q.caches)))

module _ (range : Extent) (p q : Manager) (h g : Option Held) where
  pub not_ready_cases : (trouble : Trouble) → IsNotReady range p h q g trouble → WentWrong range p q h g trouble
  not_ready_cases (troubles.Refused refusals.WriteDenied) d = record { is = inl (refl, d.0, d.1) }
  not_ready_cases (troubles.Mapper (faults.Access page)) d = record { is = inr (inl (page, refl, d.0, d.1)) }
  not_ready_cases troubles.Memory d = record { is = inr (inr (inl (refl, d.0, d.1))) }
  not_ready_cases (troubles.Mapper (faults.Save done)) d = record { is = inr (inr (inr (done, refl, d.0, d.1))) }
  not_ready_cases (troubles.Mapper faults.Opening) d = absurd d
  not_ready_cases (troubles.Mapper (faults.Page page)) d = absurd d
  not_ready_cases (troubles.Mapper faults.Victim) d = absurd d
  not_ready_cases (troubles.Refused refusals.BadLine) d = absurd d
  not_ready_cases (troubles.Refused refusals.NoActor) d = absurd d
  not_ready_cases (troubles.Refused refusals.NoCache) d = absurd d
  not_ready_cases (troubles.Refused refusals.NoRegion) d = absurd d
  not_ready_cases (troubles.Refused refusals.NoSegment) d = absurd d
  not_ready_cases (troubles.Refused refusals.SegmentInUse) d = absurd d
  not_ready_cases (troubles.Refused refusals.OutOfCache) d = absurd d
  not_ready_cases (troubles.Refused refusals.BadAddress) d = absurd d
  not_ready_cases (troubles.Refused refusals.Protection) d = absurd d
  not_ready_cases (troubles.Refused refusals.Overlap) d = absurd d
  not_ready_cases (troubles.Refused refusals.Unaligned) d = absurd d
  not_ready_cases (troubles.Refused refusals.Crosses) d = absurd d
  not_ready_cases (troubles.Refused refusals.Locked) d = absurd d
  not_ready_cases (troubles.Refused refusals.LockLimit) d = absurd d
  not_ready_cases (troubles.Refused refusals.InUse) d = absurd d
  not_ready_cases (troubles.Refused refusals.TooMany) d = absurd d
  not_ready_cases (troubles.Refused refusals.NotTemp) d = absurd d
  not_ready_cases (troubles.Refused refusals.NotNamed) d = absurd d
  not_ready_cases (troubles.Refused refusals.NotLocked) d = absurd d
  not_ready_cases (troubles.Refused refusals.Full) d = absurd d
  not_ready_cases (troubles.Refused refusals.NoProcess) d = absurd d
  not_ready_cases (troubles.Refused refusals.BadImage) d = absurd d
  not_ready_cases (troubles.Refused refusals.TooLarge) d = absurd d
  not_ready_cases (troubles.Refused refusals.NoPort) d = absurd d
  not_ready_cases (troubles.Refused refusals.PortFull) d = absurd d
  not_ready_cases (troubles.Refused refusals.PortEmpty) d = absurd d
  not_ready_cases (troubles.Refused refusals.NotOpen) d = absurd d

-- The answers

module _ (p q : Manager) (h g : Option Held) (c d : MapperCounts) (span : Span) (command : Command) (T : IsTransfer p span command) (keeps : KeepsMachine p q h g c d) (nodes : IsWhole p.caches) (then : IsWhole q.caches) (valid : IsValid p h) (now : IsValid q g)
    (count : ℕ) (size : size_of p.caches span.to.0 ≡ Some count) (within : span.to_page.0 + span.pages ≤ count) where
  abbrev n : ℕ
  n = length keeps.reach.pushes

  -- the write of a page is denied
  pub denied_call : KeepsForest p q h g → IsNotGranted (replaced span) h p.caches q.caches (troubles.Refused refusals.WriteDenied) → CallIs c d (state_at p h) command (Err (troubles.Refused refusals.WriteDenied)) (state_at q g)
  denied_call forest out =
      let one : OneDenied (replaced span) h out.segment p.caches q.caches = out.denied in
      failed_at c d p q h g command (Err (troubles.Refused refusals.WriteDenied)) (one_denied out.segment.0 one.page) keeps.reach nodes then now forest.forest refl (T.reaches _) (T.quiet (machine_of p h) (segments_of g) _)
      (λ f. T.shut f (forest_shown (Some (forest_of p h)) (machine_by p f)) (one_denied out.segment.0 one.page)
      (one_of (is_denied_page (machine_by p f) (one_denied out.segment.0 one.page) span.to.0) span.to_page.0 span.pages one.page one.asked.page_of.0 one.asked.page_of.1
      (denied_there p f (one_denied out.segment.0 one.page) span.to.0 one.page out.segment out.named (denies_one out.segment.0 one.page)))
      ∙ ap (λ (m : Machine). refuse m refusals.WriteDenied) (sym (keeps.by f)))
      (λ f s told. T.shut f (forest_shown (Some (forest_of p h)) (machine_by p f)) s
      (one_of (is_denied_page (machine_by p f) s span.to.0) span.to_page.0 span.pages one.page one.asked.page_of.0 one.asked.page_of.1
      (denied_there p f s span.to.0 one.page out.segment out.named (denied_later h out.segment.0 one.page one.denied g s (reach_denied (machine_of p h) h g c d keeps.reach) told)))
      ∙ ap (λ (m : Machine). refuse m refusals.WriteDenied) (sym (keeps.by f)))

  -- with a fault, the machine would have refused nothing else
  else_open : (f g' : PageForest) (s : Segments) (page : PageNo) (b : Bool) → is_any_denied (machine_by p f) s span ≡ b → NotRefusedButFor (faults.Access page) (answer_of (machine_by p f) g' command s).answer
  else_open f g' s page true e = let line = T.shut f g' s e in rw line tt
  else_open f g' s page false e = let line = T.row f g' s e in rw line tt

  -- the mapper failed when it was asked for the write of a page
  pub access_call : (page : PageNo) → KeepsForest p q h g → IsNotGranted (replaced span) h p.caches q.caches (troubles.Mapper (faults.Access page)) → Rose c.faults d.faults → CallIs c d (state_at p h) command (Err (troubles.Mapper (faults.Access page))) (state_at q g)
  access_call page forest out rose =
      let asked : IsAskedFor (replaced span) page.0 h out.segment p.caches q.caches = out.denied in
      failed_at c d p q h g command (Err (troubles.Mapper (faults.Access page))) no_segments keeps.reach nodes then now forest.forest refl (T.reaches _) (T.quiet (machine_of p h) (segments_of g) _)
      (λ f. (
        keeps.by f,
        grown_some n c.faults d.faults rose,
        T.access (machine_by p f) (Some (forest_of p h)) no_segments page (rises_between n c d) (named_in p f span.to.0 out.segment out.named) (asked.page_of.0, asked.page_of.1, λ r from below. undenied_blank p f span.to.0 r),
        else_open f (forest_shown (Some (forest_of p h)) (machine_by p f)) no_segments page (is_any_denied (machine_by p f) no_segments span) refl,
      ))
      (λ f s told. (
        keeps.by f,
        grown_some n c.faults d.faults rose,
        T.access (machine_by p f) (Some (forest_of p h)) s page (rises_between n c d) (named_in p f span.to.0 out.segment out.named) (
          asked.page_of.0,
          asked.page_of.1,
          λ r from below. denied_by p f s span.to.0 r ∙ allowed_there p span.to.0 out.segment out.named s r (allowed_later h out.segment.0 r (asked.allows r from below) g s (reach_denied (machine_of p h) h g c d keeps.reach) told),
        ),
        else_open f (forest_shown (Some (forest_of p h)) (machine_by p f)) s page (is_any_denied (machine_by p f) s span) refl,
      ))

  -- where the pages may be written, the machine would have refused nothing
  open_now : AreWritable (replaced span) q.caches → (f : PageForest) (s : Segments) → segments_of g ≡ Some s → is_any_denied (machine_by p f) s span ≡ false
  open_now writable f s told = ap (λ (m : Machine). is_any_denied m s span) (sym (keeps.by f))
      ∙ undenied_range q g then now.right span count (keeps.same.sizes span.to.0 ∙ size) within writable f g s refl told

  -- memory is wanting
  pub memory_call : KeepsForest p q h g → AreWritable (replaced span) q.caches → CallIs c d (state_at p h) command (Err troubles.Memory) (state_at q g)
  memory_call forest writable =
      failed_at c d p q h g command (Err troubles.Memory) no_segments keeps.reach nodes then now forest.forest refl (T.reaches _) (T.quiet (machine_of p h) (segments_of g) _)
      (λ f. (keeps.by f, T.memory, (let line = T.row f (forest_shown (Some (forest_of p h)) (machine_by p f)) no_segments (undenied_any p f span) in rw line tt)))
      (λ f s told. (keeps.by f, T.memory, (let line = T.row f (forest_shown (Some (forest_of p h)) (machine_by p f)) s (open_now writable f s told) in rw line tt)))

  -- a save failed
  pub save_call : (done : ℕ) → FailedToSave (replaced span) done p q h g → AreWritable (replaced span) q.caches → Rose c.faults d.faults → CallIs c d (state_at p h) command (Err (troubles.Mapper (faults.Save done))) (state_at q g)
  save_call done failed writable rose =
      let seg = named_of (table_of p.caches span.to.0) failed.named in
      let same : forest_of q g ≡ saves done (pages_saved (machine_of p h) command) (forest_of p h) = failed.forest ∙ ap (λ xs. saves done xs (forest_of p h)) (sym (T.saved (machine_of p h))) in
      let told : (f : PageForest) (s : Segments) → is_any_denied (machine_by p f) s span ≡ false → Outcome (machine_by p f) (Some (forest_of p h)) command s (Err (troubles.Mapper (faults.Save done))) (machine_by q f) (rises_between n c d)
      = λ f s free. (keeps.by f, grown_some n c.faults d.faults rose, T.save (machine_by p f) (Some (forest_of p h)) s done (rises_between n c d) (named_in p f span.to.0 seg.0 seg.1) failed.left, (let line = T.row f (forest_shown (Some (forest_of p h)) (machine_by p f)) s free in rw line tt)) in
      call_is c d p q h g command (Err (troubles.Mapper (faults.Save done))) keeps.reach now (T.reaches _) (T.quiet (machine_of p h) (segments_of g) _) same
      (outcome_by p q h g command (Err (troubles.Mapper (faults.Save done))) (rises_between n c d) no_segments nodes then (reach_told (machine_of p h) h g c d keeps.reach) keeps.machine
      (λ e f. told f no_segments (undenied_any p f span)) (λ s e. told (forest_of p h) s (open_now writable (forest_of p h) s e)) keeps.by)

  -- any of these
  pub transfer_failed : (trouble : Trouble) → IsNotReady (replaced span) p h q g trouble → ((at : FaultAt) → trouble ≡ troubles.Mapper at → Rose c.faults d.faults) → CallIs c d (state_at p h) command (Err trouble) (state_at q g)
  transfer_failed trouble out rose = elim (not_ready_cases (replaced span) p q h g trouble out).is [
    | inl w ↦ subst (λ (t : Trouble). CallIs c d (state_at p h) command (Err t) (state_at q g)) (sym w.0) (denied_call w.1 w.2)
    | inr w ↦ elim w [
      | inl w ↦ subst (λ (t : Trouble). CallIs c d (state_at p h) command (Err t) (state_at q g)) (sym w.1) (access_call w.0 w.2 w.3 (rose (faults.Access w.0) w.1))
      | inr w ↦ elim w [
        | inl w ↦ subst (λ (t : Trouble). CallIs c d (state_at p h) command (Err t) (state_at q g)) (sym w.0) (memory_call w.1 w.2)
        | inr w ↦ subst (λ (t : Trouble). CallIs c d (state_at p h) command (Err t) (state_at q g)) (sym w.1) (save_call w.0 w.2 w.3 (rose (faults.Save w.0) w.1))
      ]
    ]
  ]

-- What was numbered and copied

module _ (p q : Manager) (h g : Option Held) (c d : MapperCounts) (span : Span) (command : Command) (T : IsTransfer p span command) (keeps : KeepsMachine p q h g c d) (nodes : IsWhole p.caches) where
  pub failed_made : (trouble : Trouble) → IsNotReady (replaced span) p h q g trouble → RaisesMade (machine_of p h) command (Err trouble) (machine_of q g) (numbered p) (numbered q)
  failed_made trouble out = elim (not_ready_cases (replaced span) p q h g trouble out).is [
    | inl w ↦ subst (λ (t : Trouble). RaisesMade (machine_of p h) command (Err t) (machine_of q g) (numbered p) (numbered q)) (sym w.0) (let e : numbered q ≡ numbered p = omega (arith, keeps.made, w.1.copies) in e)
    | inr w ↦ elim w [
      | inl w ↦ subst (λ (t : Trouble). RaisesMade (machine_of p h) command (Err t) (machine_of q g) (numbered p) (numbered q)) (sym w.1) (omega (arith, keeps.made, w.2.copies))
      | inr w ↦ elim w [
        | inl w ↦ subst (λ (t : Trouble). RaisesMade (machine_of p h) command (Err t) (machine_of q g) (numbered p) (numbered q)) (sym w.0) (omega (arith, keeps.made, w.1.copies))
        | inr w ↦ subst (λ (t : Trouble). RaisesMade (machine_of p h) command (Err t) (machine_of q g) (numbered p) (numbered q)) (sym w.1) (omega (arith, keeps.made, saves_copied p q h g (replaced span) nodes w.0 w.2.forest, T.touched (machine_of p h)))
      ]
    ]
  ]

  pub failed_copied : (trouble : Trouble) → IsNotReady (replaced span) p h q g trouble → CopiesSaved (replaced span) p h q (Err trouble)
  failed_copied trouble out = elim (not_ready_cases (replaced span) p q h g trouble out).is [
    | inl w ↦ subst (λ (t : Trouble). CopiesSaved (replaced span) p h q (Err t)) (sym w.0) w.1.copies
    | inr w ↦ elim w [
      | inl w ↦ subst (λ (t : Trouble). CopiesSaved (replaced span) p h q (Err t)) (sym w.1) w.2.copies
      | inr w ↦ elim w [
        | inl w ↦ subst (λ (t : Trouble). CopiesSaved (replaced span) p h q (Err t)) (sym w.0) w.1.copies
        | inr w ↦ subst (λ (t : Trouble). CopiesSaved (replaced span) p h q (Err t)) (sym w.1) w.2.copies
      ]
    ]
  ]

  -- of what is refused then, `WriteDenied` is all
  pub failed_refused : (trouble : Trouble) → IsNotReady (replaced span) p h q g trouble → (r : Refusal) → trouble ≡ troubles.Refused r → r ≢ refusals.WriteDenied → ⊥
  failed_refused trouble out r e other = elim (not_ready_cases (replaced span) p q h g trouble out).is [
    | inl w ↦ other (let k : troubles.Refused r ≡ troubles.Refused refusals.WriteDenied = sym e ∙ w.0 in cc k)
    | inr w ↦ elim w [
      | inl w ↦ (let k : troubles.Refused r ≡ troubles.Mapper (faults.Access w.0) = sym e ∙ w.1 in cc k)
      | inr w ↦ elim w [
        | inl w ↦ (let k : troubles.Refused r ≡ troubles.Memory = sym e ∙ w.0 in cc k)
        | inr w ↦ (let k : troubles.Refused r ≡ troubles.Mapper (faults.Save w.0) = sym e ∙ w.1 in cc k)
      ]
    ]
  ]

-- each page that is replaced may be written
pub names_written : (a : Arena) (span : Span) → AreWritable (replaced span) a → (x : NodeName) → x ∈ firsts (span_pairs span) → IsWritable a x
names_written a span writable x i =
    let at = (ranges_hold_their_pages span.to span.to_page.0 span.pages x).0 (subst (λ xs. x ∈ xs) (destination_names span) i) in
    subst (IsWritable a) (sym at.2) (writable (span.to_page.0 + at.0) (omega arith, omega (arith, at.1)))

pub copies_itself : (p : Manager) → CopiesNothing p p
copies_itself p = record { copies = refl; held = λ f on. on; bytes = refl }

-- where nothing was copied and frames fell free, nothing was copied
pub nothing_given_back : (p : Manager) (a b : Arena) (s u : Store) (t : Actors) → CopiesNothing p (seen a s t) → b.copies ≡ a.copies → GivesBack (world None None a s) (world None None b u) → CopiesNothing p (seen b u t)
nothing_given_back p a b s u t was copies gives = record {
  copies = copies ∙ was.copies;
  held = λ f on. was.held f (gives.held f on);
  bytes = gives.bytes ∙ was.bytes;
}
