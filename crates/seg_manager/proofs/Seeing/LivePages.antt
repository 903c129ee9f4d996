-- No more pages are live than may be, of what is referred to either.
use Rattle.std.proofs.Common.{◌+◌, ◌≤◌, ℕ, Bool, true, false, cond, List, [], ◌∷◌, Option, Some, None, arith}
use Rattle.std.specs.Prelude.{sum_by}
use Rattle.std.proofs.lemmas.List.Sums.{sum_by-cons}
use Rattle.interface_callers.proofs.Words.{Cache, GhostsOfGmi, GhostsOfMapper, LIVE_PAGES, Machine, Segments, live_pages, pages_in, segments_of}
use Rattle.seg_manager.specs.ReferenceMachine.{ReferenceMachine, goes, used, used_at}
use Rattle.seg_manager.specs.Seen.{references_seen, whole_of}
use Rattle.seg_manager.specs.Thinning.{seen_with}
use Rattle.seg_manager.specs.Tying.{CanCall}
use Rattle.seg_manager.specs.declared.manager.SegManager.{SegManager}
use Rattle.seg_manager.specs.declared.tables.Named.{Named}
use Rattle.seg_manager.proofs.Seeing.WhichGo.{Caches}

at_less : (r : ReferenceMachine) (k : ℕ) (o : Option Cache) → pages_in (used_at r k o) ≤ pages_in o
at_less r k None = omega arith
at_less r k (Some c) = by (goes r k c)
  where
    by : (b : Bool) → pages_in (cond b None (Some c)) ≤ pages_in (Some c)
    by true = omega arith
    by false = omega arith

used_less : (r : ReferenceMachine) (k : ℕ) (xs : Caches) → sum_by pages_in (used r k xs) ≤ sum_by pages_in xs
used_less r k [] = omega arith
used_less r k (x ∷ xs) = omega (arith, sum_by-cons pages_in (used_at r k x) (used r (k + 1) xs), sum_by-cons pages_in x xs, at_less r k x, used_less r (k + 1) xs)

seen_less : (told : Option Segments) (m : Machine) (cs : List Named) → live_pages (references_seen m told cs).memory ≤ live_pages m
seen_less None m cs = used_less (whole_of m None cs) 1 m.caches
seen_less (Some h) m cs = used_less (whole_of m (Some h) cs) 1 m.caches

pub live_seen : {Manager X Chooser : Type 0} (M : GhostsOfMapper X) (G : GhostsOfGmi Manager X Chooser) (manager : SegManager Manager) (mapper : X) → CanCall G manager (M.held mapper) (M.page_bytes mapper) → live_pages (seen_with M G manager mapper).memory ≤ LIVE_PAGES
live_seen M G manager mapper can = omega (arith, can.live, seen_less (segments_of (M.held mapper)) (G.machine manager.gmi (M.held mapper)) manager.caches.items)
