-- Pages of named caches are changed where the mapper lets them be written.
use Rattle.std.proofs.Common.{◌≡◌, ◌==◌, ℕ, ◌+◌, ◌<◌, ◌≤◌, Bool, true, false, List, [], ◌∷◌, length, get_or, Option, Some, None, refl, sym, ap, subst, ◌∙◌, arith}
use Rattle.std.specs.Prelude.{◌&&◌, ◌||◌, is_some, IfOk, IfSome, IsSome, Result, Ok, Err, not, option_and_then, slice_get}
use Rattle.std.specs.Bool.{IsTrue}
use Rattle.std.specs.FinMap.{empty}
use Rattle.std.specs.List.{list_any, range_with_len}
use Rattle.std.specs.Option.{option_map_or}
use Rattle.std.proofs.lemmas.Bool.Decides.{nat_tests}
use Rattle.std.proofs.lemmas.List.FromFn.{get_or-range_with_len, length-range_with_len}
use Rattle.std.proofs.lemmas.List.Folds.{list_any_at, list_any_none}
use Rattle.std.proofs.lemmas.Option.{slice_get-get_or}
use Rattle.vm_ids.specs.Counting.{MapperCounts}
use Rattle.vm_ids.specs.Denying.{denies}
use Rattle.vm_ids.specs.Held.{Held, Segments, segments_in, segments_of}
use Rattle.vm_ids.specs.declared.command.Command.{Command}
use Rattle.vm_ids.specs.declared.refusal.Refusal.TheVariants as refusals
use Rattle.vm_ids.specs.declared.numbers.PageNo.{PageNo}
use Rattle.vm_ids.specs.declared.reply.FaultAt.TheVariants as faults
use Rattle.vm_ids.specs.declared.reply.Trouble.TheVariants as troubles
use Rattle.vm_model.specs.Machine.{Machine, Cache, cache_of, pages_in, segment_of}
use Rattle.vm_model.specs.PageForest.{plain_forest}
use Rattle.vm_model.specs.Allowed.{AwaitsAccess, AllowedOutcome, is_denied}
use Rattle.vm_model.specs.Answering.{Answer, Answered, answer_of, is_denied_page}
use Rattle.vm_model.specs.Asking.{ReachesMapper}
use Rattle.vm_model.specs.Outcome.{HasWholePages, IsNamed, IsNotRefused, MayFault, NotRefusedButFor, Outcome}
use Rattle.vm_model.specs.Synchronised.{IsSynchronised}
use Rattle.vm_model.proofs.Parts.Naming.{segment_cache}
use Rattle.gmi_calls.specs.Backing.{IsReady, eager}
use Rattle.vm_port.specs.declared.traits.mapper.Mapper.{Ghosts as GhostsOfMapper}
use Rattle.gmi_calls.specs.Parking.{AccessCall}
use Rattle.gmi_calls.specs.Reaching.{Asked, HasPages, NoPages}
use Rattle.gmi_calls.proofs.Asking.{denied_is, granted_is}
use Rattle.gmi_calls.proofs.Called.{OutcomeFor, any_rises, call_reached, eager_call, no_segments, ready_after}
use Rattle.gmi_calls.proofs.Still.{asks_quiet}

-- the pages of a cache that a segment names are the segment's
pub asked_pages : (m : Machine) (n seg first pages : ℕ) (told : Option Held) → segment_of m n ≡ Some seg → first + pages ≤ pages_in (cache_of m n) → IsReady m told → IfSome told (HasPages seg first pages)
asked_pages m n seg first pages None named within R = tt
asked_pages m n seg first pages (Some h) named within R = λ page from below.
    let c = segment_cache m n seg named in
    let K = R.backed.backed n seg c.0 c.1 c.2 in
    let less : page < length K.pages = omega (arith, below, within, ap pages_in c.1, K.many) in
    subst IsSome (sym (ap (option_and_then (λ (ps : List (List ℕ)). slice_get ps page)) K.there ∙ slice_get-get_or K.pages page [] less)) refl

-- Whether a page may be written, as of the segment and as of the cache

denied_any : (m : Machine) (s : Segments) (n : ℕ) (o : Option ℕ) (range : List ℕ) → segment_of m n ≡ o → list_any (is_denied_page m s n) range ≡ list_any (λ page. option_map_or (λ seg. denies s.denied seg page) o false) range
denied_any m s n o range e = ap (λ (x : Option ℕ). list_any (λ page. option_map_or (λ seg. denies s.denied seg page) x false) range) e

never : (range : List ℕ) → list_any (λ (page : ℕ). false) range ≡ false
never range = list_any_none (λ (page : ℕ). false) range (λ i d less. refl)

named_answer : (m : Machine) (n seg first pages : ℕ) (told : Option Held) (may : Bool) → segment_of m n ≡ Some seg → IfSome told (λ h. may ≡ not (list_any (denies h.denied seg) (range_with_len first pages)))
    → IfSome told (λ h. may ≡ not (list_any (is_denied_page m (segments_in h) n) (range_with_len first pages)))
named_answer m n seg first pages None may named answer = tt
named_answer m n seg first pages (Some h) may named answer = answer ∙ ap not (sym (denied_any m (segments_in h) n (Some seg) (range_with_len first pages) named))

pub may_named : {E : Type 0} (m : Machine) (n seg first pages : ℕ) (told : Option Held) (r : Result Bool E) → segment_of m n ≡ Some seg
    → IfOk r (λ may. IfSome told (λ h. may ≡ not (list_any (denies h.denied seg) (range_with_len first pages))))
    → IfOk r (λ may. IfSome told (λ h. may ≡ not (list_any (is_denied_page m (segments_in h) n) (range_with_len first pages))))
may_named m n seg first pages told (Ok may) named answer = named_answer m n seg first pages told may named answer
may_named m n seg first pages told (Err e) named answer = tt

pub may_unnamed : (m : Machine) (n first pages : ℕ) (told : Option Held) → segment_of m n ≡ None → IfSome told (λ h. true ≡ not (list_any (is_denied_page m (segments_in h) n) (range_with_len first pages)))
may_unnamed m n first pages None unnamed = tt
may_unnamed m n first pages (Some h) unnamed = ap not (sym (denied_any m (segments_in h) n None (range_with_len first pages) unnamed ∙ never (range_with_len first pages)))

-- the segments that are told, or none
abbrev pub segments_for : Option Held → Segments
segments_for (Some h) = segments_in h
segments_for None = no_segments

by_segments : (told : Option Held) (m next : Machine) (c : Command) (a : Answer) (rises : MapperCounts) → Outcome m None c (segments_for told) a next rises → OutcomeFor told m c a next rises
by_segments (Some h) m next c a rises o = o
by_segments None m next c a rises o = (no_segments, o)

pub allows : (o : Option ℕ) (page : ℕ) → option_map_or (λ seg. denies [] seg page) o false ≡ false
allows None page = refl
allows (Some seg) page = refl

-- no page of a range is denied
pub range_allowed : (m : Machine) (n first pages : ℕ) (told : Option Held) (may : Bool) → may ≡ true → IfSome told (λ h. may ≡ not (list_any (is_denied_page m (segments_in h) n) (range_with_len first pages)))
    → list_any (is_denied_page m (segments_for told) n) (range_with_len first pages) ≡ false
range_allowed m n first pages None may t answer = list_any_none (is_denied_page m no_segments n) (range_with_len first pages) (λ i d less. allows (segment_of m n) (get_or (range_with_len first pages) i d))
range_allowed m n first pages (Some h) may t answer = granted_is may (list_any (is_denied_page m (segments_in h) n) (range_with_len first pages)) t answer

-- none before this one
pub none_before : (m : Machine) (n first past : ℕ) (told : Option Held) → IfSome told (λ h. (q : ℕ) → first ≤ q → q < past → is_denied_page m (segments_in h) n q ≡ false)
    → (q : ℕ) → first ≤ q → q < past → is_denied_page m (segments_for told) n q ≡ false
none_before m n first past None before q from below = allows (segment_of m n) q
none_before m n first past (Some h) before q from below = before q from below

-- Segments of which the mapper denies a page of the range: those that are told, or some.
abbrev pub DeniedRange : Machine → ℕ → ℕ → ℕ → Option Held → Type 0
DeniedRange m n first pages told = (s : Segments) × (IfSome told (λ h. s ≡ segments_in h)) × (list_any (is_denied_page m s n) (range_with_len first pages) ≡ true)

has_segment : (o : Option Cache) → IsTrue (option_map_or (λ (c : Cache). is_some c.segment) o false) → (seg : ℕ) × (option_and_then (λ (c : Cache). c.segment) o ≡ Some seg)
has_segment None h = absurd (cc h)
has_segment (Some c) h = go c.segment h
  where
    go : (o : Option ℕ) → IsTrue (is_some o) → (seg : ℕ) × (o ≡ Some seg)
    go None h = absurd (cc h)
    go (Some seg) h = (seg, refl)

pub denies_that : (seg page : ℕ) → denies ((seg, page) ∷ []) seg page ≡ true
denies_that seg page =
    let s : (seg == seg) ≡ true = grind (arith, nat_tests) in
    let p : (page == page) ≡ true = grind (arith, nat_tests) in
    ap (λ (b : Bool). (b && page == page) || false) s ∙ ap (λ (b : Bool). (true && b) || false) p

pub range_denied : (m : Machine) (n first pages : ℕ) (told : Option Held) (may : Bool) → may ≡ false → 1 ≤ pages → (may ≡ false → IsNamed m n)
    → IfSome told (λ h. may ≡ not (list_any (is_denied_page m (segments_in h) n) (range_with_len first pages))) → DeniedRange m n first pages told
range_denied m n first pages (Some h) may f some named answer = (segments_in h, refl, denied_is may (list_any (is_denied_page m (segments_in h) n) (range_with_len first pages)) f answer)
range_denied m n first pages None may f some named answer =
    let seg = has_segment (cache_of m n) (named f) in
    let s : Segments = record { pages = empty; denied = (seg.0, first) ∷ [] } in (
      s,
      tt,
      list_any_at (is_denied_page m s n) (range_with_len first pages) 0 0 (omega (arith, some, length-range_with_len first pages))
          (ap (λ (o : Option ℕ). option_map_or (λ x. denies s.denied x (get_or (range_with_len first pages) 0 0)) o false) seg.1
          ∙ ap (denies s.denied seg.0) (get_or-range_with_len first pages 0 0 some ∙ (let e : first + 0 ≡ first = omega arith in e))
          ∙ denies_that seg.0 first),
    )

-- What a command that awaits write access answers

-- the page may be written
granted_for : (told : Option Held) (m next : Machine) (c : Command) (a : Answer) (rises : MapperCounts) → AllowedOutcome m c a next → is_denied m (segments_for told) c ≡ false → OutcomeFor told m c a next rises
granted_for told m next c a rises f allowed = by_segments told m next c a rises (any_rises m next c (segments_for told) a rises (f (segments_for told) allowed))

-- it is denied
denied_for : (told : Option Held) (m : Machine) (c : Command) (rises : MapperCounts) → AwaitsAccess m c → (s : Segments) → IfSome told (λ h. s ≡ segments_in h) → is_denied m s c ≡ true → OutcomeFor told m c (Err (troubles.Refused refusals.WriteDenied)) m rises
denied_for None m c rises A s same denied = (s, A.denied s denied)
denied_for (Some h) m c rises A s same denied = subst (λ (x : Segments). Outcome m None c x (Err (troubles.Refused refusals.WriteDenied)) m rises) same (A.denied s denied)

hidden : (p : PageNo) (a : Answer) → IsNotRefused a → NotRefusedButFor (faults.Access p) a
hidden p (Ok r) h = tt
hidden p (Err e) h = absurd h

-- the mapper fails
failed_for : (told : Option Held) (m : Machine) (c : Command) (p : PageNo) (rises : MapperCounts) → AwaitsAccess m c → 0 < rises.faults → MayFault m None c (segments_for told) (faults.Access p) rises
    → OutcomeFor told m c (Err (troubles.Mapper (faults.Access p))) m rises
failed_for told m c p rises A failed may = by_segments told m m c (Err (troubles.Mapper (faults.Access p))) rises (refl, failed, may, go (is_denied m (segments_for told) c) refl)
  where
    go : (b : Bool) → is_denied m (segments_for told) c ≡ b → NotRefusedButFor (faults.Access p) (answer_of m (plain_forest m) c (segments_for told)).answer
    go true e = subst (λ (x : Answered). NotRefusedButFor (faults.Access p) x.answer) (sym (A.denied (segments_for told) e)) tt
    go false e = hidden p (answer_of m (plain_forest m) c (segments_for told)).answer (A.allowed (segments_for told) e)

-- The call of such a command, after the mapper was asked.
module _ {X T E : Type 0} (M : GhostsOfMapper X) (before after : X) (m : Machine) (c : Command) (r : Result T E) (asked : Asked M before after r) (ready : IsReady m (M.held before)) (reaches : ReachesMapper c asked.reached.rises) where
  ended : (next : Machine) (a : Answer) → HasWholePages next → OutcomeFor (M.held before) m c a next asked.reached.rises → IsSynchronised m (segments_of (M.held after)) c a → AccessCall M eager NoPages before m c a after next
  ended next a whole o said =
      record {
        so = asked.no_pages;
        call = eager_call M before after m next c a (subst (IsReady next) (sym asked.held) (ready_after (M.held before) m next c a asked.reached.rises ready whole o))
            (call_reached (M.held before) (M.held after) _ _ m next c a r asked.held asked.reached ready.whole whole reaches o said) (asks_quiet c a _ _ asked.quiet) asked.page;
      }

  -- the page may be written
  pub granted_call : (next : Machine) (a : Answer) → HasWholePages next → AllowedOutcome m c a next → is_denied m (segments_for (M.held before)) c ≡ false → IsSynchronised m (segments_of (M.held after)) c a → AccessCall M eager NoPages before m c a after next
  granted_call next a whole f allowed = ended next a whole (granted_for (M.held before) m next c a asked.reached.rises f allowed)

  module _ (A : AwaitsAccess m c) where
    -- it is denied
    pub denied_call : (s : Segments) × (IfSome (M.held before) (λ h. s ≡ segments_in h)) × (is_denied m s c ≡ true) → IsSynchronised m (segments_of (M.held after)) c (Err (troubles.Refused refusals.WriteDenied))
        → AccessCall M eager NoPages before m c (Err (troubles.Refused refusals.WriteDenied)) after m
    denied_call D = ended m (Err (troubles.Refused refusals.WriteDenied)) ready.whole (denied_for (M.held before) m c asked.reached.rises A D.0 D.1 D.2)

    -- the mapper fails
    pub failed_call : (p : PageNo) → 0 < asked.reached.rises.faults → MayFault m None c (segments_for (M.held before)) (faults.Access p) asked.reached.rises → IsSynchronised m (segments_of (M.held after)) c (Err (troubles.Mapper (faults.Access p)))
        → AccessCall M eager NoPages before m c (Err (troubles.Mapper (faults.Access p))) after m
    failed_call p failed may = ended m (Err (troubles.Mapper (faults.Access p))) ready.whole (failed_for (M.held before) m c p asked.reached.rises A failed may)
