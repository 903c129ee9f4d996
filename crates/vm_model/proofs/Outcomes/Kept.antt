-- What an outcome leaves of the page size, and how many pages it leaves and touches, with a record
-- and without one.
use Rattle.std.proofs.Common.{◌≡◌, ◌⊎◌, inl, inr, ℕ, ◌*◌, ◌≤◌, List, [], ◌∷◌, map, Option, Some, None, refl, sym, ap, subst, ◌∙◌, arith}
use Rattle.std.specs.Prelude.{Ok, Err, min, option_map, sum_by}
use Rattle.std.specs.Option.{option_map_or}
use Rattle.std.proofs.lemmas.List.{length-map}
use Rattle.std.proofs.lemmas.List.Sums.{sum_by-cons}
use Rattle.vm_ids.specs.Counting.{MapperCounts}
use Rattle.vm_ids.specs.Held.{Segments}
use Rattle.vm_ids.specs.declared.command.Command.{Command}
use Rattle.vm_ids.specs.declared.command.Command.TheVariants as commands
use Rattle.vm_ids.specs.declared.command.Span.{Span}
use Rattle.vm_ids.specs.declared.reply.FaultAt.{FaultAt}
use Rattle.vm_ids.specs.declared.reply.FaultAt.TheVariants as faults
use Rattle.vm_ids.specs.declared.reply.Trouble.TheVariants as troubles
use Rattle.vm_ids.specs.declared.refusal.Refusal.TheVariants as refusals
use Rattle.vm_model.specs.declared.limits.TheConstants.{LIVE_PAGES}
use Rattle.vm_model.specs.Machine.{Machine, Cache, Region, cache_of, live_pages, pages_in}
use Rattle.vm_model.specs.Regions.{region_with}
use Rattle.vm_model.specs.PageForest.{PageForest, forest_shown}
use Rattle.vm_model.specs.Answering.{Answer, Answered, answer_of}
use Rattle.vm_model.specs.Asking.{pages_of_region, pages_of_span, pages_touched}
use Rattle.vm_model.specs.Outcome.{MayFault, NotRefusedButFor, IsNotRefused, Outcome, BlankOutcome, OutcomeAt, IsAlike, blank, blank_cache}
use Rattle.vm_model.proofs.Parts.Lists.{numbered-map}
use Rattle.vm_model.proofs.Outcomes.Sizes.{HasSizes, sizes}

abbrev pub IsNoRefusal : Answer → Type 0
IsNoRefusal (Err (troubles.Refused r)) = ⊥
IsNoRefusal a = Unit {0}

-- The page size stays; live pages stay within their limit; and what isn't refused touches few
-- pages.
pub record IsKept (m : Machine) (c : Command) (a : Answer) (next : Machine) : Type 0 where
  pub page : next.page_bytes ≡ m.page_bytes
  pub live : live_pages m ≤ LIVE_PAGES → live_pages next ≤ LIVE_PAGES
  pub touched : live_pages m ≤ LIVE_PAGES → IsNoRefusal a → pages_touched m c ≤ 3 * LIVE_PAGES

-- what the machine refuses under a fault; only an open can fail at the question for a size
by_fault : (at : FaultAt) (a : Answer) → NotRefusedButFor at a → (at ≡ faults.Opening) ⊎ NotRefusedButFor (faults.Access (record { 0 = 0 })) a
by_fault at (Ok r) n = inr tt
by_fault faults.Opening a n = inl refl
by_fault (faults.Access p) (Err (troubles.Refused refusals.WriteDenied)) n = inr tt
by_fault at (Err e) n = absurd n

opening_touches : (m : Machine) (f : Option PageForest) (c : Command) (h : Segments) (rises : MapperCounts) → MayFault m f c h faults.Opening rises → pages_touched m c ≡ 0
opening_touches m f commands.MakeActor h rises may = refl
opening_touches m f (commands.OpenSegment seg) h rises may = refl
opening_touches m f (commands.Unmap region) h rises may = refl
opening_touches m f c h rises may = absurd may

fault_touches : (m : Machine) (f : Option PageForest) (c : Command) (h : Segments) (at : FaultAt) (rises : MapperCounts) → MayFault m f c h at rises → NotRefusedButFor at (answer_of m (forest_shown f m) c h).answer → live_pages m ≤ LIVE_PAGES → pages_touched m c ≤ 3 * LIVE_PAGES
fault_touches m f c h at rises may n few = elim (by_fault at (answer_of m (forest_shown f m) c h).answer n) [
  | inl e ↦ omega (arith, opening_touches m f c h rises (subst (λ (at : FaultAt). MayFault m f c h at rises) e may))
  | inr k ↦ (sizes m (forest_shown f m) c h).touched few k
]

by_memory : (a : Answer) → IsNotRefused a → NotRefusedButFor (faults.Access (record { 0 = 0 })) a
by_memory (Ok r) n = tt
by_memory (Err e) n = absurd n

stays : (m next : Machine) (c : Command) (a : Answer) → next ≡ m → (live_pages m ≤ LIVE_PAGES → pages_touched m c ≤ 3 * LIVE_PAGES) → IsKept m c a next
stays m next c a e touches = record {
  page = ap (λ (x : Machine). x.page_bytes) e;
  live = λ few. omega (arith, ap live_pages e);
  touched = λ few r. touches few;
}

changes : (m : Machine) (c : Command) (a : Answered) → HasSizes m c a → (IsNoRefusal a.answer → NotRefusedButFor (faults.Access (record { 0 = 0 })) a.answer) → IsKept m c a.answer a.next
changes m c a s n = record { page = s.page; live = s.live; touched = λ few r. s.touched few (n r) }

outcome_kept : (m next : Machine) (f : Option PageForest) (c : Command) (h : Segments) (a : Answer) (rises : MapperCounts) → Outcome m f c h a next rises → IsKept m c a next
outcome_kept m next f c h (Ok r) rises o = changes m c (record { answer = Ok r; next = next }) (subst (HasSizes m c) o (sizes m (forest_shown f m) c h)) (λ n. tt)
outcome_kept m next f c h (Err (troubles.Refused r)) rises o = changes m c (record { answer = Err (troubles.Refused r); next = next }) (subst (HasSizes m c) o (sizes m (forest_shown f m) c h)) (λ n. absurd n)
outcome_kept m next f c h (Err (troubles.Mapper at)) rises o = stays m next c (Err (troubles.Mapper at)) o.0 (fault_touches m f c h at rises o.2 o.3)
outcome_kept m next f c h (Err troubles.Memory) rises o = stays m next c (Err troubles.Memory) o.0 (λ few. (sizes m (forest_shown f m) c h).touched few (by_memory (answer_of m (forest_shown f m) c h).answer o.2))

-- without its bytes a machine has as many pages
same_pages : (o : Option Cache) → pages_in (option_map blank_cache o) ≡ pages_in o
same_pages None = refl
same_pages (Some c) = length-map c.pages (λ _. [])

blank_sum : (cs : List (Option Cache)) → sum_by pages_in (map (option_map blank_cache) cs) ≡ sum_by pages_in cs
blank_sum [] = refl
blank_sum (c ∷ cs) = omega (arith, sum_by-cons pages_in (option_map blank_cache c) (map (option_map blank_cache) cs), sum_by-cons pages_in c cs, same_pages c, blank_sum cs)

blank_live : (m : Machine) → live_pages (blank m) ≡ live_pages m
blank_live m = blank_sum m.caches

blank_pages : (m : Machine) (n : ℕ) → pages_in (cache_of (blank m) n) ≡ pages_in (cache_of m n)
blank_pages m n = ap pages_in (numbered-map blank_cache m.caches n) ∙ same_pages (cache_of m n)

blank_span : (m : Machine) (s : Span) → pages_of_span (blank m) s ≡ pages_of_span m s
blank_span m s = omega (arith, blank_pages m s.from.0, blank_pages m s.to.0)

blank_region : (m : Machine) (n : ℕ) → pages_of_region (blank m) n ≡ pages_of_region m n
blank_region m n = go (region_with n m.actors)
  where
    go : (o : Option Region)
        → option_map_or (λ (r : Region). min r.pages (pages_in (cache_of (blank m) r.cache))) o 0
        ≡ option_map_or (λ (r : Region). min r.pages (pages_in (cache_of m r.cache))) o 0
    go None = refl
    go (Some r) = ap (min r.pages) (blank_pages m r.cache)

blank_touched : (m : Machine) (c : Command) → pages_touched (blank m) c ≡ pages_touched m c
blank_touched m (commands.MakeTemp pages) = refl
blank_touched m (commands.Destroy cache) = blank_pages m cache.0
blank_touched m (commands.Copy span) = blank_span m span
blank_touched m (commands.Move span) = blank_span m span
blank_touched m (commands.Map actor mapping) = omega (arith, blank_pages m mapping.extent.cache.0)
blank_touched m (commands.Lock region) = blank_region m region.0
blank_touched m (commands.Load actor address bytes) = refl
blank_touched m (commands.Store actor address piece) = refl
blank_touched m (commands.Invalidate extent) = omega (arith, blank_pages m extent.cache.0)
blank_touched m c = refl

alike_refusal : (a b : Answer) → IsAlike a b → IsNoRefusal b → IsNoRefusal a
alike_refusal (Err (troubles.Refused r)) b e n = absurd (subst IsNoRefusal (sym e) n)
alike_refusal a b e n = tt

blank_kept : (m next : Machine) (f : Option PageForest) (c : Command) (a : Answer) (rises : MapperCounts) → BlankOutcome m f c a next rises → IsKept m c a next
blank_kept m next f c a rises o =
    let k = outcome_kept o.whole o.whole_next f c o.segments o.whole_answer rises o.outcome in
    record {
      page = ap (λ (x : Machine). x.page_bytes) o.is_next ∙ k.page ∙ sym (ap (λ (x : Machine). x.page_bytes) o.is);
      live = λ few. omega (arith, ap live_pages o.is_next, blank_live o.whole_next, k.live (omega (arith, ap live_pages o.is, blank_live o.whole)));
      touched = λ few r. omega (arith, ap (λ (x : Machine). pages_touched x c) o.is, blank_touched o.whole c, k.touched (omega (arith, ap live_pages o.is, blank_live o.whole)) (alike_refusal o.whole_answer a o.alike r));
    }

pub kept : (told : Option Segments) (m next : Machine) (f : Option PageForest) (c : Command) (a : Answer) (rises : MapperCounts) → OutcomeAt told m f c a next rises → IsKept m c a next
kept (Some h) m next f c a rises o = outcome_kept m next f c h a rises o
kept None m next f c a rises o = blank_kept m next f c a rises o
