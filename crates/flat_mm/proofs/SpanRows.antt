-- Which copies and moves are refused.
use Rattle.std.proofs.Common.{◌≡◌, ℕ, ◌+◌, ◌<◌, ◌≤◌, true, false, length, Option, Some, None, refl, sym, ap, ◌∙◌, arith}
use Rattle.std.specs.Prelude.{◌||◌, is_some, option_and_then, option_map}
use Rattle.std.proofs.lemmas.Bool.Decides.{nat_tests}
use Rattle.std.proofs.lemmas.List.{length-map}
use Rattle.vm_ids.specs.Held.{Segments}
use Rattle.vm_ids.specs.declared.command.Span.{Span}
use Rattle.vm_ids.specs.declared.numbers.SegId.{SegId}
use Rattle.vm_ids.specs.declared.refusal.Refusal.{Refusal}
use Rattle.vm_ids.specs.declared.refusal.Refusal.TheVariants.{Locked, NotTemp, OutOfCache, Overlap}
use Rattle.vm_model.specs.Answering.{copy_of, is_any_locked, move_of, overlaps_itself, passes_end, refuse, unless, with_some}
use Rattle.vm_model.specs.Machine as model
use Rattle.vm_model.specs.Machine.{Machine, cache_of, numbered}
use Rattle.vm_model.proofs.Machines.Awaiting.{copy_locked, copy_overlaps, inside_end, move_locked, move_named, move_overlaps}
use Rattle.flat_mm.specs.Manager.{Manager, machine_in, plain, sizes_in}
use Rattle.flat_mm.specs.Spans.{IsSpanned}
use Rattle.flat_mm.specs.Store.{Cache, Page, Store}
use Rattle.flat_mm.proofs.Copying.{plain_there}
use Rattle.flat_mm.proofs.Transferring.{plain_end}

-- Caches and how many pages they have

cache_sized : (s : Store) (n count : ℕ) → sizes_in s n ≡ Some count → (c : Cache) × (numbered s.caches n ≡ Some c) × (length c.pages ≡ count)
cache_sized s n count e = go (numbered s.caches n) refl e
  where
    go : (o : Option Cache) → numbered s.caches n ≡ o → option_map (λ (c : Cache). length c.pages) o ≡ Some count → (c : Cache) × (numbered s.caches n ≡ Some c) × (length c.pages ≡ count)
    go None there e = absurd (cc e)
    go (Some c) there e = (c, there, (let many : length c.pages ≡ count = cc e in many))

pub none_is : {A : Type 0} (o : Option A) → is_some o ≡ false → o ≡ None
none_is None e = refl
none_is (Some x) e = absurd (cc e)

-- Both are refused

pub record AreRefused (m : Machine) (span : Span) (r : Refusal) : Type 0 where
  pub copy : (h : Segments) → copy_of m span h ≡ refuse m r
  pub move : (h : Segments) → move_of m span h ≡ refuse m r

destination_ends : (m : Machine) (span : Span) (source destination : model.Cache) → cache_of m span.from.0 ≡ Some source → cache_of m span.to.0 ≡ Some destination
    → passes_end source span.from_page.0 span.pages ≡ false → passes_end destination span.to_page.0 span.pages ≡ true → AreRefused m span OutOfCache
unfolding copy_of move_of with_some unless
destination_ends m span source destination from to inside past = record { copy = λ h. rw (from, to, inside, past) refl; move = λ h. rw (from, to, inside, past) refl }

past_end : (c : Cache) (first pages count : ℕ) → length c.pages ≡ count → count < first + pages → passes_end (plain c) first pages ≡ true
past_end c first pages count many past =
    let long = length-map c.pages (λ (p : Page). p.bytes) in
    let less : length (plain c).pages < first + pages = omega (arith, many, past, long) in
    grind (arith, nat_tests)

not_past : (c : Cache) (first pages count : ℕ) → length c.pages ≡ count → first + pages ≤ count → passes_end (plain c) first pages ≡ false
not_past c first pages count many within = inside_end first pages (plain c) (plain_end c first pages (omega (arith, many, within)))

module _ (p : Manager) (span : Span) where
  -- the pages pass the end of the destination
  pub passes_destination : (from to : ℕ) → sizes_in p.store span.from.0 ≡ Some from → sizes_in p.store span.to.0 ≡ Some to → span.from_page.0 + span.pages ≤ from → to < span.to_page.0 + span.pages → AreRefused (machine_in p) span OutOfCache
  passes_destination from to has had inside past =
      let x = cache_sized p.store span.from.0 from has in
      let y = cache_sized p.store span.to.0 to had in
      destination_ends (machine_in p) span (plain x.0) (plain y.0) (plain_there p.store span.from.0 x.0 x.1) (plain_there p.store span.to.0 y.0 y.1) (not_past x.0 span.from_page.0 span.pages from x.2 inside) (past_end y.0 span.to_page.0 span.pages to y.2 past)

  -- the segment that names the source, if one does
  pub source_named : (S : IsSpanned p.store span) (o : Option SegId) → o ≡ option_and_then (λ (c : Cache). c.segment) (numbered p.store.caches span.from.0) → S.source.segment ≡ o
  source_named S o e = sym (e ∙ ap (option_and_then (λ (c : Cache). c.segment)) S.from)

  -- One of both is refused

  module _ (S : IsSpanned p.store span) (h : Segments) where
    here : cache_of (machine_in p) span.from.0 ≡ Some (plain S.source)
    here = plain_there p.store span.from.0 S.source S.from

    there : cache_of (machine_in p) span.to.0 ≡ Some (plain S.destination)
    there = plain_there p.store span.to.0 S.destination S.to

    inside : passes_end (plain S.source) span.from_page.0 span.pages ≡ false
    inside = not_past S.source span.from_page.0 span.pages (length S.source.pages) refl S.inside

    within : passes_end (plain S.destination) span.to_page.0 span.pages ≡ false
    within = not_past S.destination span.to_page.0 span.pages (length S.destination.pages) refl S.within

    pub copy_meets : overlaps_itself span ≡ true → copy_of (machine_in p) span h ≡ refuse (machine_in p) Overlap
    copy_meets = copy_overlaps (machine_in p) span h (plain S.source) (plain S.destination) here there inside within

    pub copy_held : overlaps_itself span ≡ false → is_any_locked (machine_in p) span.to span.to_page.0 span.pages ≡ true → copy_of (machine_in p) span h ≡ refuse (machine_in p) Locked
    copy_held = copy_locked (machine_in p) span h (plain S.source) (plain S.destination) here there inside within

    pub move_owned : is_some S.source.segment ≡ true → move_of (machine_in p) span h ≡ refuse (machine_in p) NotTemp
    move_owned named = move_named (machine_in p) span h (plain S.source) (plain S.destination) here there inside within (go S.source.segment named)
      where
        go : (o : Option SegId) → is_some o ≡ true → is_some (option_map (λ (s : SegId). s.0) o) ≡ true
        go None e = absurd (cc e)
        go (Some x) e = refl

    module _ (temporary : S.source.segment ≡ None) where
      pub move_meets : overlaps_itself span ≡ true → move_of (machine_in p) span h ≡ refuse (machine_in p) Overlap
      move_meets = move_overlaps (machine_in p) span h (plain S.source) (plain S.destination) here there inside within (ap (option_map (λ (s : SegId). s.0)) temporary)

      pub move_held : overlaps_itself span ≡ false → (is_any_locked (machine_in p) span.from span.from_page.0 span.pages || is_any_locked (machine_in p) span.to span.to_page.0 span.pages) ≡ true
          → move_of (machine_in p) span h ≡ refuse (machine_in p) Locked
      move_held = move_locked (machine_in p) span h (plain S.source) (plain S.destination) here there inside within (ap (option_map (λ (s : SegId). s.0)) temporary)
