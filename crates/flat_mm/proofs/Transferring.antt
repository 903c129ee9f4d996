-- A copy or a move, after the mapper was asked.
use Rattle.std.proofs.Common.{◌≡◌, ℕ, ◌+◌, ◌<◌, ◌≤◌, Bool, true, false, length, Option, None, refl, sym, ap, subst, ◌∙◌, arith}
use Rattle.std.specs.Prelude.{IfSome, Ok, Err, Result, not, option_map}
use Rattle.std.specs.List.{list_any, range_with_len}
use Rattle.std.proofs.lemmas.List.{length-map}
use Rattle.vm_ids.specs.Counting.{MapperCounts, no_counts}
use Rattle.vm_ids.specs.Held.{Held, Segments, segments_in, segments_of}
use Rattle.vm_ids.specs.declared.command.Command.{Command}
use Rattle.vm_ids.specs.declared.command.Command.TheVariants as commands
use Rattle.vm_ids.specs.declared.command.Span.{Span}
use Rattle.vm_ids.specs.declared.numbers.PageNo.{PageNo}
use Rattle.vm_ids.specs.declared.numbers.SegId.{SegId}
use Rattle.vm_ids.specs.declared.refusal.Refusal.{Refusal}
use Rattle.vm_ids.specs.declared.refusal.Refusal.TheVariants as refusals
use Rattle.vm_ids.specs.declared.reply.FaultAt.TheVariants as faults
use Rattle.vm_ids.specs.declared.reply.Reply.TheVariants as replies
use Rattle.vm_ids.specs.declared.reply.Trouble.TheVariants as troubles
use Rattle.vm_model.specs.Allowed.{AllowedOutcome, AwaitsAccess, is_denied}
use Rattle.vm_model.specs.Answering.{Answer, answer_of, is_any_denied, is_denied_page, put_span, refuse, reply, unless, zero_source}
use Rattle.vm_model.specs.Asking.{ReachesMapper}
use Rattle.vm_model.specs.Machine as model
use Rattle.vm_model.specs.Machine.{Machine, live_pages, numbered, pages_in}
use Rattle.vm_model.specs.Outcome.{IsFirstAsked, IsNamed, MayFault}
use Rattle.vm_model.specs.PageForest.{plain_forest}
use Rattle.vm_model.specs.Synchronised.{IsSynchronised}
use Rattle.vm_model.proofs.Machines.Awaiting.{awaits, copy_unless, inside_end, move_unless, unless_false}
use Rattle.vm_port.specs.declared.traits.mapper.Mapper.{Ghosts as GhostsOfMapper}
use Rattle.contexts.specs.Actors.{Actors}
use Rattle.gmi_calls.specs.Calling.{MapperCall}
use Rattle.gmi_calls.specs.Reaching.{Asked}
use Rattle.gmi_calls.proofs.Accessing.{denied_call, failed_call, granted_call, none_before, range_allowed, range_denied, segments_for}
use Rattle.gmi_calls.proofs.Called.{eager_left}
use Rattle.flat_mm.specs.Manager.{AreKept, IsManagerSound, IsValid, Manager, caches_in, flat, machine_in, machine_with, plain}
use Rattle.flat_mm.specs.Spans.{CanCopy, CanMove, IsSpanned}
use Rattle.flat_mm.specs.Store.{AreWhole, Cache, Page, Store, cleared, copied, live_in}
use Rattle.flat_mm.proofs.Acting.{NeedsMade, fits_less, whole_machine}
use Rattle.flat_mm.proofs.Calls.{flat_call}
use Rattle.flat_mm.proofs.Copying.{cleared_machine, copied_machine, filled_spanned, kept_cleared, kept_copied, live_cleared, live_copied, plain_there, sound_cleared, sound_copied, spanned_still}
use Rattle.flat_mm.proofs.Making.{plain_live}

-- A command that fills the pages of a span leads the machine here, unless the mapper denies one.
pub record Fills (m : Machine) (span : Span) (command : Command) (next : Machine) : Type 0 where
  pub row : (h : Segments) → answer_of m (plain_forest m) command h ≡ unless (is_any_denied m h span) refusals.WriteDenied m (reply replies.Done next)
  pub denied : (h : Segments) → is_denied m h command ≡ is_any_denied m h span
  pub fault : (h : Segments) (page : PageNo) (rises : MapperCounts) → IsNamed m span.to.0 → IsFirstAsked m h span page.0 → MayFault m None command h (faults.Access page) rises
  pub reaches : (rises : MapperCounts) → ReachesMapper command rises
  pub needs : NeedsMade command
  pub said : (h : Option Segments) (a : Answer) → IsSynchronised m h command a

-- What a copy or a move is

pub plain_end : (c : Cache) (first pages : ℕ) → first + pages ≤ length c.pages → first + pages ≤ length (plain c).pages
plain_end c first pages within = omega (arith, within, length-map c.pages (λ (p : Page). p.bytes))

module _ (p : Manager) (span : Span) where
  abbrev m : Machine
  m = machine_in p

  -- the pages that are filled are there
  pub pages_there : IsSpanned p.store span → span.to_page.0 + span.pages ≤ pages_in (numbered (caches_in p.store) span.to.0)
  pages_there S = subst (λ (o : Option model.Cache). span.to_page.0 + span.pages ≤ pages_in o) (sym (plain_there p.store span.to.0 S.destination S.to)) (plain_end S.destination span.to_page.0 span.pages S.within)

  pub copy_fills : (C : CanCopy p span) → Fills m span (commands.Copy span) (put_span m span (plain C.spanned.source) (plain C.spanned.destination))
  copy_fills C =
      let S = C.spanned in
      record {
        row = λ h. copy_unless m span h (plain S.source) (plain S.destination) (plain_there p.store span.from.0 S.source S.from) (plain_there p.store span.to.0 S.destination S.to)
            (inside_end span.from_page.0 span.pages (plain S.source) (plain_end S.source span.from_page.0 span.pages S.inside)) (inside_end span.to_page.0 span.pages (plain S.destination) (plain_end S.destination span.to_page.0 span.pages S.within)) C.apart C.unlocked;
        denied = λ h. refl;
        fault = λ h page rises named first. (named, first);
        reaches = λ rises. tt;
        needs = λ old next. refl;
        said = λ h a. tt;
      }

  pub move_fills : (C : CanMove p span) → Fills m span (commands.Move span) (zero_source (put_span m span (plain C.copy.spanned.source) (plain C.copy.spanned.destination)) span)
  move_fills C =
      let S = C.copy.spanned in
      record {
        row = λ h. move_unless m span h (plain S.source) (plain S.destination) (plain_there p.store span.from.0 S.source S.from) (plain_there p.store span.to.0 S.destination S.to)
            (inside_end span.from_page.0 span.pages (plain S.source) (plain_end S.source span.from_page.0 span.pages S.inside)) (inside_end span.to_page.0 span.pages (plain S.destination) (plain_end S.destination span.to_page.0 span.pages S.within))
            (ap (option_map (λ (x : SegId). x.0)) C.temporary) C.copy.apart C.left C.copy.unlocked;
        denied = λ h. refl;
        fault = λ h page rises named first. (named, first);
        reaches = λ rises. tt;
        needs = λ old next. refl;
        said = λ h a. tt;
      }

-- The calls

module _ {X : Type 0} (M : GhostsOfMapper X) (before : X) (p : Manager) (command : Command) where
  -- it is refused before
  pub refused_call : NeedsMade command → ReachesMapper command no_counts → ((h : Option Segments) (a : Answer) → IsSynchronised (machine_in p) h command a) → (r : Refusal) → IsValid p (M.held before)
      → ((h : Segments) → answer_of (machine_in p) (plain_forest (machine_in p)) command h ≡ refuse (machine_in p) r)
      → MapperCall M flat before p command (Err (troubles.Refused r)) before p
  refused_call needs reaches said r valid row =
      let a : Answer = Err (troubles.Refused r) in
      flat_call M before before p p command a (fits_less p p command a needs (omega arith)) valid.kept
      (eager_left M before (machine_in p) (machine_in p) command a reaches valid.ready valid.ready.whole row (said (segments_of (M.held before)) a))

  module _ {E : Type 0} (after : X) (r : Result Bool E) (span : Span) (next : Machine) (F : Fills (machine_in p) span command next) (asked : Asked M before after r) (valid : IsValid p (M.held before)) (some : 1 ≤ span.pages) where
    waits : AwaitsAccess (machine_in p) command
    waits = awaits (machine_in p) command (reply replies.Done next) (λ h. F.row h ∙ ap (λ (b : Bool). unless b refusals.WriteDenied (machine_in p) (reply replies.Done next)) (sym (F.denied h))) tt

    stays : IfSome (M.held after) (λ h. AreKept (segments_in h) p.store.caches)
    stays = subst (λ (o : Option Held). IfSome o (λ h. AreKept (segments_in h) p.store.caches)) (sym asked.held) valid.kept

    -- the mapper denies a page
    pub denied_fill : (may : Bool) → may ≡ false → (may ≡ false → IsNamed (machine_in p) span.to.0) → IfSome (M.held before) (λ h. may ≡ not (list_any (is_denied_page (machine_in p) (segments_in h) span.to.0) (range_with_len span.to_page.0 span.pages)))
        → MapperCall M flat before p command (Err (troubles.Refused refusals.WriteDenied)) after p
    denied_fill may f named answer =
        let a : Answer = Err (troubles.Refused refusals.WriteDenied) in
        let D = range_denied (machine_in p) span.to.0 span.to_page.0 span.pages (M.held before) may f some named answer in
        flat_call M before after p p command a (fits_less p p command a F.needs (omega arith)) stays
        (denied_call M before after (machine_in p) command r asked valid.ready (F.reaches asked.reached.rises) waits (D.0, D.1, F.denied D.0 ∙ D.2) (F.said (segments_of (M.held after)) a)).call

    -- it fails at a page
    pub failed_fill : (page : PageNo) → 0 < asked.reached.rises.faults → IsNamed (machine_in p) span.to.0 → span.to_page.0 ≤ page.0 → page.0 < span.to_page.0 + span.pages
        → IfSome (M.held before) (λ h. (q : ℕ) → span.to_page.0 ≤ q → q < page.0 → is_denied_page (machine_in p) (segments_in h) span.to.0 q ≡ false)
        → MapperCall M flat before p command (Err (troubles.Mapper (faults.Access page))) after p
    failed_fill page failed named from below none =
        let a : Answer = Err (troubles.Mapper (faults.Access page)) in
        flat_call M before after p p command a (fits_less p p command a F.needs (omega arith)) stays
        (failed_call M before after (machine_in p) command r asked valid.ready (F.reaches asked.reached.rises) waits page failed
        (F.fault (segments_for (M.held before)) page asked.reached.rises named (from, below, none_before (machine_in p) span.to.0 span.to_page.0 page.0 (M.held before) none)) (F.said (segments_of (M.held after)) a)).call

    -- it is carried out
    pub granted_fill : (u : Store) → (let q : Manager = record { store = u; actors = p.actors } in machine_in q) ≡ next → live_in u.caches ≡ live_in p.store.caches → p.actors.page_bytes ≡ u.page_bytes → AreWhole u
        → (list_any (is_denied_page (machine_in p) (segments_for (M.held before)) span.to.0) (range_with_len span.to_page.0 span.pages) ≡ false)
        → IfSome (M.held before) (λ h. AreKept (segments_in h) u.caches)
        → MapperCall M flat before p command (Ok replies.Done) after (record { store = u; actors = p.actors })
    granted_fill u is live page whole free kept =
        let q : Manager = record { store = u; actors = p.actors } in
        let a : Answer = Ok replies.Done in
        let f : AllowedOutcome (machine_in p) command a (machine_in q) = λ h d. F.row h ∙ ap (λ (b : Bool). unless b refusals.WriteDenied (machine_in p) (reply replies.Done next)) (sym (F.denied h) ∙ d) ∙ unless_false refusals.WriteDenied (machine_in p) (reply replies.Done next) ∙ ap (reply replies.Done) (sym is) in
        let same : live_pages (machine_in q) ≤ live_pages (machine_in p) = omega (arith, plain_live u.caches, plain_live p.store.caches, live) in
        flat_call M before after p q command a (fits_less p q command a F.needs same)
        (subst (λ (o : Option Held). IfSome o (λ h. AreKept (segments_in h) u.caches)) (sym asked.held) kept)
        (granted_call M before after (machine_in p) command r asked valid.ready (F.reaches asked.reached.rises) (machine_in q) a (whole_machine u p.actors page whole) f (F.denied (segments_for (M.held before)) ∙ free) (F.said (segments_of (M.held after)) a)).call

-- After the pages were filled, and the source was cleared

module _ {X E : Type 0} (M : GhostsOfMapper X) (before after : X) (r : Result Bool E) (p : Manager) (n : ℕ) (k : IsManagerSound p.store p.actors n) (span : Span) (asked : Asked M before after r) (valid : IsValid p (M.held before)) (some : 1 ≤ span.pages) (may : Bool) (t : may ≡ true)
    (answer : IfSome (M.held before) (λ h. may ≡ not (list_any (is_denied_page (machine_in p) (segments_in h) span.to.0) (range_with_len span.to_page.0 span.pages)))) where
  free : list_any (is_denied_page (machine_in p) (segments_for (M.held before)) span.to.0) (range_with_len span.to_page.0 span.pages) ≡ false
  free = range_allowed (machine_in p) span.to.0 span.to_page.0 span.pages (M.held before) may t answer

  abbrev with_store : Store → Machine
  with_store s = machine_with (caches_in s) s.frames p.actors

  -- what the caches hold agrees with the mapper
  abbrev Agree : Store → Type 0
  Agree s = IfSome (M.held before) (λ h. AreKept (segments_in h) s.caches)

  pub copy_done : (C : CanCopy p span) (u : Store) → u ≡ copied p.store span span.pages → AreWhole u
      → MapperCall M flat before p (commands.Copy span) (Ok replies.Done) after (record { store = u; actors = p.actors })
  copy_done C u is whole =
      let S = C.spanned in
      granted_fill M before p (commands.Copy span) after r span _ (copy_fills p span C) asked valid some u
      (ap with_store is ∙ copied_machine p.store span S p.actors)
      (ap (λ (s : Store). live_in s.caches) is ∙ live_copied p.store span S)
      (k.page ∙ sym (ap (λ (s : Store). s.page_bytes) is)) whole free
      (subst Agree (sym is) (kept_copied p.store span S (M.held before) (machine_in p) refl free valid.kept))

  pub move_done : (C : CanMove p span) (v u : Store) → v ≡ copied p.store span span.pages → u ≡ cleared v span span.pages → AreWhole u
      → MapperCall M flat before p (commands.Move span) (Ok replies.Done) after (record { store = u; actors = p.actors })
  move_done C v u filled is whole =
      let S = C.copy.spanned in
      let full = copied p.store span span.pages in
      let T = spanned_still p.store span S in
      let all : u ≡ cleared full span span.pages = is ∙ ap (λ (s : Store). cleared s span span.pages) filled in
      granted_fill M before p (commands.Move span) after r span _ (move_fills p span C) asked valid some u
      (ap with_store all ∙ cleared_machine full span T.0 p.actors k.page ∙ ap (λ (m : Machine). zero_source m span) (copied_machine p.store span S p.actors))
      (ap (λ (s : Store). live_in s.caches) all ∙ live_cleared full span T.0 ∙ live_copied p.store span S)
      (k.page ∙ sym (ap (λ (s : Store). s.page_bytes) all)) whole free
      (subst Agree (sym all) (kept_cleared full span T.0 (M.held before) (T.1 ∙ C.temporary) (kept_copied p.store span S (M.held before) (machine_in p) refl free valid.kept)))

-- the manager stays sound
pub sound_moved : (s : Store) (span : Span) (S : IsSpanned s span) (t : Actors) (n : ℕ) (v u : Store) → IsManagerSound s t n → AreWhole v → v ≡ copied s span span.pages → AreWhole u → u ≡ cleared v span span.pages → IsManagerSound u t n
sound_moved s span S t n v u k filled is whole done = sound_cleared v span (filled_spanned s span S v is) t n u (sound_copied s span S t n v k filled is) whole done
