-- Writes that weren't granted.
use Rattle.std.proofs.Common.{◌≡◌, ◌==◌, ◌⊎◌, ℕ, true, false, List, [], ◌∷◌, Option, Some, None, refl, sym, ap, ◌∙◌, arith, inl, inr}
use Rattle.std.specs.Prelude.{IfSome, option_and_then, option_map}
use Rattle.std.specs.Option.{option_map_or}
use Rattle.std.specs.FinMap.{empty}
use Rattle.std.proofs.lemmas.Bool.Decides.{nat_tests}
use Rattle.vm_ids.specs.Denying.{denies}
use Rattle.vm_ids.specs.Held.{Held, Segments, segments_in, segments_of}
use Rattle.vm_ids.specs.declared.command.Extent.{Extent}
use Rattle.vm_ids.specs.declared.numbers.PageNo.{PageNo}
use Rattle.vm_ids.specs.declared.numbers.SegId.{SegId}
use Rattle.vm_ids.specs.declared.refusal.Refusal.TheVariants as refusals
use Rattle.vm_ids.specs.declared.reply.FaultAt.TheVariants as faults
use Rattle.vm_ids.specs.declared.reply.Trouble.{Trouble}
use Rattle.vm_ids.specs.declared.reply.Trouble.TheVariants.{Mapper, Memory, Refused}
use Rattle.local_cache.specs.Arena.{Arena, Table, table_of}
use Rattle.local_cache.specs.Whole.{segment_of}
use Rattle.segment_ops.specs.Access.{IsAskedFor, OneDenied}
use Rattle.vm_model.specs.Answering.{is_denied_page}
use Rattle.vm_model.specs.PageForest.{PageForest}
use Rattle.pvm_core.specs.Manager.{Manager, machine_by}
use Rattle.pvm_core.specs.Writes.{IsDenied}
use Rattle.pvm_core.proofs.Accesses.Stored.{denied_by}

module _ (range : Extent) (told : Option Held) (s : SegId) (a b : Arena) where
  -- a page is denied, or the mapper failed
  pub denied_cases : (trouble : Trouble) → IsDenied range told s a b trouble
      → ((trouble ≡ Refused refusals.WriteDenied) × OneDenied range told s a b) ⊎ ((page : PageNo) × (trouble ≡ Mapper (faults.Access page)) × IsAskedFor range page.0 told s a b)
  denied_cases (Refused refusals.WriteDenied) d = inl (refl, d)
  denied_cases (Mapper (faults.Access page)) d = inr (page, refl, d)
  denied_cases Memory d = absurd d
  denied_cases (Mapper faults.Opening) d = absurd d
  denied_cases (Mapper (faults.Save done)) d = absurd d
  denied_cases (Mapper (faults.Page page)) d = absurd d
  denied_cases (Mapper faults.Victim) d = absurd d
  denied_cases (Refused refusals.BadLine) d = absurd d
  denied_cases (Refused refusals.NoActor) d = absurd d
  denied_cases (Refused refusals.NoCache) d = absurd d
  denied_cases (Refused refusals.NoRegion) d = absurd d
  denied_cases (Refused refusals.NoSegment) d = absurd d
  denied_cases (Refused refusals.SegmentInUse) d = absurd d
  denied_cases (Refused refusals.OutOfCache) d = absurd d
  denied_cases (Refused refusals.BadAddress) d = absurd d
  denied_cases (Refused refusals.Protection) d = absurd d
  denied_cases (Refused refusals.Overlap) d = absurd d
  denied_cases (Refused refusals.Unaligned) d = absurd d
  denied_cases (Refused refusals.Crosses) d = absurd d
  denied_cases (Refused refusals.Locked) d = absurd d
  denied_cases (Refused refusals.LockLimit) d = absurd d
  denied_cases (Refused refusals.InUse) d = absurd d
  denied_cases (Refused refusals.TooMany) d = absurd d
  denied_cases (Refused refusals.NotTemp) d = absurd d
  denied_cases (Refused refusals.NotNamed) d = absurd d
  denied_cases (Refused refusals.NotLocked) d = absurd d
  denied_cases (Refused refusals.Full) d = absurd d
  denied_cases (Refused refusals.NoProcess) d = absurd d
  denied_cases (Refused refusals.BadImage) d = absurd d
  denied_cases (Refused refusals.TooLarge) d = absurd d
  denied_cases (Refused refusals.NoPort) d = absurd d
  denied_cases (Refused refusals.PortFull) d = absurd d
  denied_cases (Refused refusals.PortEmpty) d = absurd d
  denied_cases (Refused refusals.NotOpen) d = absurd d

-- segments of which this page alone is denied
abbrev pub one_denied : ℕ → ℕ → Segments
one_denied segment page = record { pages = empty; denied = (segment, page) ∷ [] }

pub denies_one : (segment page : ℕ) → denies ((segment, page) ∷ []) segment page ≡ true
denies_one segment page =
    let s : (segment == segment) ≡ true = grind (arith, nat_tests) in
    let p : (page == page) ≡ true = grind (arith, nat_tests) in
    rw (s, p) refl

-- what the mapper told is denied
pub told_denied : (h : Option Held) (segment page : ℕ) → IfSome h (λ h. denies h.denied segment page ≡ true) → (s : Segments) → segments_of h ≡ Some s → denies s.denied segment page ≡ true
told_denied None segment page d s e = absurd (cc e)
told_denied (Some h) segment page d s e = (let same : segments_in h ≡ s = cc e in ap (λ (s : Segments). denies s.denied segment page) (sym same) ∙ d)

-- and so it is in the machine
pub denied_there : (p : Manager) (f : PageForest) (s : Segments) (cache page : ℕ) (segment : SegId) → segment_of p.caches cache ≡ Some (Some segment) → denies s.denied segment.0 page ≡ true → is_denied_page (machine_by p f) s cache page ≡ true
denied_there p f s cache page segment named d = denied_by p f s cache page ∙ by_table (table_of p.caches cache) named
  where
    by_table : (o : Option Table) → option_map (λ (t : Table). t.segment) o ≡ Some (Some segment) → option_map_or (λ (z : SegId). denies s.denied z.0 page) (option_and_then (λ (t : Table). t.segment) o) false ≡ true
    by_table None e = absurd (cc e)
    by_table (Some t) e = (let z : t.segment ≡ Some segment = cc e in ap (λ (o : Option SegId). option_map_or (λ (z : SegId). denies s.denied z.0 page) o false) z ∙ d)

-- what is denied is denied still
pub denied_later : (h : Option Held) (segment page : ℕ) → IfSome h (λ h. denies h.denied segment page ≡ true) → (g : Option Held) (s : Segments) → option_map (λ (s : Segments). s.denied) (segments_of g) ≡ option_map (λ (s : Segments). s.denied) (segments_of h)
    → segments_of g ≡ Some s → denies s.denied segment page ≡ true
denied_later None segment page d g s same e = absurd (let q : Some s.denied ≡ None = ap (option_map (λ (s : Segments). s.denied)) (sym e) ∙ same in cc q)
denied_later (Some h) segment page d g s same e =
    let q : Some s.denied ≡ Some h.denied = ap (option_map (λ (s : Segments). s.denied)) (sym e) ∙ same in
    let l : s.denied ≡ h.denied = cc q in
    ap (λ (x : List (ℕ × ℕ)). denies x segment page) l ∙ d

pub allowed_later : (h : Option Held) (segment page : ℕ) → IfSome h (λ h. denies h.denied segment page ≡ false) → (g : Option Held) (s : Segments) → option_map (λ (s : Segments). s.denied) (segments_of g) ≡ option_map (λ (s : Segments). s.denied) (segments_of h)
    → segments_of g ≡ Some s → denies s.denied segment page ≡ false
allowed_later None segment page d g s same e = absurd (let q : Some s.denied ≡ None = ap (option_map (λ (s : Segments). s.denied)) (sym e) ∙ same in cc q)
allowed_later (Some h) segment page d g s same e =
    let q : Some s.denied ≡ Some h.denied = ap (option_map (λ (s : Segments). s.denied)) (sym e) ∙ same in
    let l : s.denied ≡ h.denied = cc q in
    ap (λ (x : List (ℕ × ℕ)). denies x segment page) l ∙ d

-- a page of a segment that isn't denied
pub allowed_there : (p : Manager) (cache : ℕ) (segment : SegId) → segment_of p.caches cache ≡ Some (Some segment) → (s : Segments) (page : ℕ) → denies s.denied segment.0 page ≡ false
    → option_map_or (λ (z : SegId). denies s.denied z.0 page) (option_and_then (λ (t : Table). t.segment) (table_of p.caches cache)) false ≡ false
allowed_there p cache segment named s page d = by_table (table_of p.caches cache) named
  where
    by_table : (o : Option Table) → option_map (λ (t : Table). t.segment) o ≡ Some (Some segment) → option_map_or (λ (z : SegId). denies s.denied z.0 page) (option_and_then (λ (t : Table). t.segment) o) false ≡ false
    by_table None e = refl
    by_table (Some t) e = (let z : t.segment ≡ Some segment = cc e in ap (λ (o : Option SegId). option_map_or (λ (z : SegId). denies s.denied z.0 page) o false) z ∙ d)
