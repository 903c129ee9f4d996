-- Calls that change actors alone, or nothing.
use Rattle.std.proofs.Common.{◌≡◌, ℕ, suc, ◌≤◌, Bool, true, false, cond, List, [], ◌∷◌, length, Option, Some, None, refl, sym, ap, subst, ◌∙◌, arith}
use Rattle.std.specs.Prelude.{is_some, option_map, Ok, Err}
use Rattle.std.specs.List.{All}
use Rattle.std.proofs.lemmas.List.{length-map}
use Rattle.std.proofs.lemmas.List.Elements.{All-map, All-weaker}
use Rattle.vm_ids.specs.Counting.{no_counts}
use Rattle.vm_ids.specs.Held.{Segments}
use Rattle.vm_ids.specs.declared.command.Command.{Command}
use Rattle.vm_model.specs.Answering.{Answer}
use Rattle.vm_model.specs.Asking.{ReachesMapper, pages_made}
use Rattle.vm_model.specs.Machine as model
use Rattle.vm_model.specs.Machine.{Machine, live_pages, numbered}
use Rattle.vm_model.specs.Outcome as outcomes
use Rattle.vm_model.specs.Outcome.{Outcome, seen_at}
use Rattle.vm_model.specs.Regions.{region_among, replace_in, replace_region}
use Rattle.vm_model.specs.Synchronised.{IsSynchronised}
use Rattle.vm_model.proofs.Parts.Lists.{numbered-map}
use Rattle.contexts.specs.Actors.{Actors, machine_with}
use Rattle.contexts.specs.Placed.{AreRight}
use Rattle.contexts.proofs.RegionRows.{size_in}
use Rattle.gmi_calls.specs.Calling.{AnswersWithin, CallDone}
use Rattle.gmi_calls.specs.Room.{pages_needed}
use Rattle.gmi_calls.proofs.Called.{eager_done}
use Rattle.flat_mm.specs.Manager.{IsManagerSound, Manager, caches_in, flat, machine_in, plain, room_of, sizes_in}
use Rattle.flat_mm.specs.Store.{AreWhole, Cache, HasWholePages, Page, Store}
use Rattle.flat_mm.proofs.Calls.{FitsCall, FitsRoom, flat_done, none_made}

-- The machine's pages

cache_plain : (b : ℕ) (o : Option Cache) → HasWholePages b o → outcomes.IsWhole b (option_map plain o)
cache_plain b None h = tt
cache_plain b (Some c) h = All-map (λ (p : List ℕ). length p ≡ b) (λ (p : Page). p.bytes) c.pages h

pub whole_machine : (s : Store) (t : Actors) → t.page_bytes ≡ s.page_bytes → AreWhole s → outcomes.HasWholePages (machine_with (caches_in s) s.frames t)
whole_machine s t page w =
    subst (λ b. All (outcomes.IsWhole b) (caches_in s)) (sym page)
    (All-map (outcomes.IsWhole s.page_bytes) (option_map plain) s.caches (All-weaker (HasWholePages s.page_bytes) (λ o. outcomes.IsWhole s.page_bytes (option_map plain o)) (cache_plain s.page_bytes) s.caches w.caches))

-- how many pages a cache has
pub sizes_plain : (s : Store) (n : ℕ) → size_in (numbered (caches_in s) n) ≡ sizes_in s n
sizes_plain s n = ap size_in (numbered-map plain s.caches n) ∙ go (numbered s.caches n)
  where
    go : (o : Option Cache) → size_in (option_map plain o) ≡ option_map (λ (c : Cache). length c.pages) o
    go None = refl
    go (Some c) = ap (λ n. Some n) (length-map c.pages (λ (p : Page). p.bytes))

-- Room

-- a command for which there is room where no page is made
abbrev pub NeedsMade : Command → Type 0
NeedsMade command = (m next : Machine) → pages_needed m command next ≡ pages_made m next

fits_room : (room : ℕ) (m next : Machine) (command : Command) (a : Answer) → pages_needed m command next ≤ room → FitsRoom room m command a next
fits_room room m next command (Ok r) h = h
fits_room room m next command (Err e) h = tt

pub fits_less : (p q : Manager) (command : Command) (a : Answer) → NeedsMade command → live_pages (machine_in q) ≤ live_pages (machine_in p) → FitsCall p command a q
fits_less p q command a needs less = λ told now. fits_room (room_of p) (seen_at told (machine_in p)) (seen_at now (machine_in q)) command a
    (omega (arith, needs (seen_at told (machine_in p)) (seen_at now (machine_in q)), none_made told now (machine_in p) (machine_in q) less))

-- Calls

pub acted_sound : (s : Store) (t u : Actors) (n m : ℕ) → IsManagerSound s t n → u.page_bytes ≡ t.page_bytes → m ≡ length u.actors → AreRight (sizes_in s) u → IsManagerSound s u m
acted_sound s t u n m k page counted right = record { whole = k.whole; settled = k.settled; page = page ∙ k.page; made = k.made; counted = counted; placed = right }

-- a command that reaches no mapper, and of which nothing is said of segments
pub record IsOfActors (command : Command) : Type 0 where
  pub reaches : ReachesMapper command no_counts
  pub needs : NeedsMade command
  pub said : (m : Machine) (h : Option Segments) (a : Answer) → IsSynchronised m h command a

module _ (s : Store) (t : Actors) (n : ℕ) (k : IsManagerSound s t n) (p : Manager) (view : (let q : Manager = record { store = s; actors = t } in q) ≡ p) (command : Command) (of : IsOfActors command) (a : Answer) where
  -- a call that changes actors
  pub acted : (u : Actors) → u.page_bytes ≡ t.page_bytes → ((h : Segments) → Outcome (machine_with (caches_in s) s.frames t) None command h a (machine_with (caches_in s) s.frames u) no_counts)
      → CallDone flat p command a (record { store = s; actors = u })
  acted u page outcome =
      let old : Manager = record { store = s; actors = t } in
      let new : Manager = record { store = s; actors = u } in
      subst (λ (x : Manager). CallDone flat x command a new) view
      (flat_done old new command a (fits_less old new command a of.needs (omega arith)) (λ h kept. kept)
      (eager_done (machine_in old) (machine_in new) command a of.reaches (whole_machine s u (page ∙ k.page) k.whole) outcome (λ h. of.said (machine_in old) h a)))

  -- one that changes nothing
  pub stayed : ((h : Segments) → Outcome (machine_with (caches_in s) s.frames t) None command h a (machine_with (caches_in s) s.frames t) no_counts) → CallDone flat p command a p
  stayed outcome = subst (λ (x : Manager). CallDone flat p command a x) view (acted t refl outcome)

  pub told : ((h : Segments) → Outcome (machine_with (caches_in s) s.frames t) None command h a (machine_with (caches_in s) s.frames t) no_counts) → AnswersWithin flat p command a p
  told outcome = (stayed outcome).answers

-- How many actors there are

pub length_replaced : (n : ℕ) (by : model.Region → List model.Region) (xs : List (Option model.Actor)) → length (replace_in n by xs) ≡ length xs
length_replaced n by [] = refl
length_replaced n by (None ∷ xs) = ap suc (length_replaced n by xs)
length_replaced n by (Some rs ∷ xs) = go (is_some (region_among n rs)) (length_replaced n by xs)
  where
    go : (b : Bool) → length (replace_in n by xs) ≡ length xs → length (cond b (Some (replace_region n by rs) ∷ xs) (Some rs ∷ replace_in n by xs)) ≡ suc (length xs)
    go true rest = refl
    go false rest = ap suc rest

-- what was found is there, or isn't
pub mapped_some : {A B : Type 0} (f : A → B) (r : Option A) (o : Option B) (b : Bool) → option_map f r ≡ o → is_some r ≡ b → is_some o ≡ b
mapped_some f None o b e is = ap is_some (sym e) ∙ is
mapped_some f (Some x) o b e is = ap is_some (sym e) ∙ is

-- how many pages the machine's cache has
pub pages_sized : (s : Store) (n count : ℕ) → sizes_in s n ≡ Some count → model.pages_in (numbered (caches_in s) n) ≡ count
pages_sized s n count e = go (numbered (caches_in s) n) (sizes_plain s n ∙ e)
  where
    go : (o : Option model.Cache) → size_in o ≡ Some count → model.pages_in o ≡ count
    go None e = absurd (cc e)
    go (Some c) e = cc e

pub pages_unsized : (s : Store) (n : ℕ) → sizes_in s n ≡ None → model.pages_in (numbered (caches_in s) n) ≡ 0
pages_unsized s n e = go (numbered (caches_in s) n) (sizes_plain s n ∙ e)
  where
    go : (o : Option model.Cache) → size_in o ≡ None → model.pages_in o ≡ 0
    go None e = refl
    go (Some c) e = absurd (cc e)
