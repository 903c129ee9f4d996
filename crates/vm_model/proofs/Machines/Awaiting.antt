-- Rows in which nothing but the mapper's denial can refuse the command.
use Rattle.std.proofs.Common.{◌≡◌, Bool, true, false, ℕ, List, length, Option, Some, None, refl, sym, ap, subst, ◌∙◌, ◌+◌, ◌≤◌, arith}
use Rattle.std.specs.Prelude.{is_some, nat_le, IsSome, option_map, option_and_then, Ok, ◌||◌}
use Rattle.std.specs.FinMap.{get}
use Rattle.std.proofs.lemmas.Bool.Decides.{nat_tests}
use Rattle.vm_ids.specs.Held.{Segments}
use Rattle.vm_ids.specs.declared.command.Command.{Command}
use Rattle.vm_ids.specs.declared.command.Command.TheVariants as commands
use Rattle.vm_ids.specs.declared.command.Extent.{Extent}
use Rattle.vm_ids.specs.declared.command.Span.{Span}
use Rattle.vm_ids.specs.declared.numbers.SegId.{SegId}
use Rattle.vm_ids.specs.declared.refusal.Refusal.{Refusal}
use Rattle.vm_ids.specs.declared.refusal.Refusal.TheVariants.{Locked, NotTemp, Overlap, WriteDenied}
use Rattle.vm_ids.specs.declared.reply.FaultAt.TheVariants.{Opening}
use Rattle.vm_ids.specs.declared.reply.Reply.TheVariants as replies
use Rattle.vm_model.specs.declared.limits.TheConstants.{MOST_MADE}
use Rattle.vm_model.specs.Allowed.{AwaitsAccess, CanOpen, MayFailToOpen, is_denied, is_denied_place}
use Rattle.vm_model.specs.Machine.{Machine, Cache, Page, cache_of, numbered, pages_in, segment_of}
use Rattle.vm_model.specs.Place.{Place, place}
use Rattle.vm_model.specs.PageForest.{plain_forest}
use Rattle.vm_model.specs.Answering.{Answered, answer_of, copy_of, flush_of, held_for, held_part, invalidate_of, is_any_denied, is_any_locked, move_of, open_of, overlaps_itself, passes_end, put_cache, put_pages, put_span, refuse, reply, store_of, unless, with_ok, with_some, write_at, zero_source}
use Rattle.vm_model.specs.Outcome.{IsNotRefused, NotRefusedButFor}
use Rattle.vm_model.specs.Seen.{cache_seen, machine_seen}
use Rattle.vm_model.specs.declared.tables.Cache as tables
use Rattle.vm_model.specs.declared.tables.Tables.{Tables}
use Rattle.vm_model.proofs.Parts.Lists.{is_there, numbered-map}
use Rattle.vm_model.proofs.Outcomes.Rows.{each_some, each_unless}

pub unless_true : (r : Refusal) (m : Machine) (go : Answered) → unless true r m go ≡ refuse m r
unfolding unless
unless_true r m go = refl

pub unless_false : (r : Refusal) (m : Machine) (go : Answered) → unless false r m go ≡ go
unfolding unless
unless_false r m go = refl

-- what isn't refused here
unless_with : (P : Answered → Type 0) (bad : Bool) (r : Refusal) (m : Machine) (go : Answered) → bad ≡ false → P go → P (unless bad r m go)
unless_with P bad r m go e goes = subst P (sym (ap (λ (b : Bool). unless b r m go) e ∙ unless_false r m go)) goes

pub awaits : (m : Machine) (c : Command) (go : Answered) → ((h : Segments) → answer_of m (plain_forest m) c h ≡ unless (is_denied m h c) WriteDenied m go) → IsNotRefused go.answer → AwaitsAccess m c
awaits m c go row goes = record {
  denied = λ h e. row h ∙ ap (λ (b : Bool). unless b WriteDenied m go) e ∙ unless_true WriteDenied m go;
  allowed = λ h e. subst (λ (a : Answered). IsNotRefused a.answer) (sym (row h ∙ ap (λ (b : Bool). unless b WriteDenied m go) e ∙ unless_false WriteDenied m go)) goes;
}

pub store_unless : (m : Machine) (actor address : ℕ) (bytes : List ℕ) (h : Segments) (at : Place) → place m actor address (length bytes) ≡ Ok at → at.region.may_write ≡ true
    → store_of m actor address bytes h ≡ unless (is_denied_place m h (place m actor address (length bytes))) WriteDenied m (reply replies.Done (write_at m at bytes))
unfolding store_of with_ok unless
store_unless m actor address bytes h at found writes = rw (found, writes) refl

pub copy_unless : (m : Machine) (s : Span) (h : Segments) (source destination : Cache) → cache_of m s.from.0 ≡ Some source → cache_of m s.to.0 ≡ Some destination
    → passes_end source s.from_page.0 s.pages ≡ false → passes_end destination s.to_page.0 s.pages ≡ false → overlaps_itself s ≡ false → is_any_locked m s.to s.to_page.0 s.pages ≡ false
    → copy_of m s h ≡ unless (is_any_denied m h s) WriteDenied m (reply replies.Done (put_span m s source destination))
unfolding copy_of with_some unless
copy_unless m s h source destination from to inside within apart unlocked = rw (from, to, inside, within, apart, unlocked) refl

pub move_unless : (m : Machine) (s : Span) (h : Segments) (source destination : Cache) → cache_of m s.from.0 ≡ Some source → cache_of m s.to.0 ≡ Some destination
    → passes_end source s.from_page.0 s.pages ≡ false → passes_end destination s.to_page.0 s.pages ≡ false → source.segment ≡ None → overlaps_itself s ≡ false
    → is_any_locked m s.from s.from_page.0 s.pages ≡ false → is_any_locked m s.to s.to_page.0 s.pages ≡ false
    → move_of m s h ≡ unless (is_any_denied m h s) WriteDenied m (reply replies.Done (zero_source (put_span m s source destination) s))
unfolding move_of with_some unless
move_unless m s h source destination from to inside within temporary apart left unlocked = rw (from, to, inside, within, temporary, apart, left, unlocked) refl

pub invalidate_unless : (m : Machine) (e : Extent) (held : Option (List Page)) (c : Cache) (seg : ℕ) → cache_of m e.cache.0 ≡ Some c → c.segment ≡ Some seg
    → passes_end c e.first.0 e.pages ≡ false → is_any_locked m e.cache e.first.0 e.pages ≡ false
    → invalidate_of m e held ≡ reply replies.Done (put_cache m e.cache.0 (put_pages e.first.0 (held_part held e.first.0 e.pages) c))
unfolding invalidate_of with_some unless
invalidate_unless m e held c seg there named inside unlocked = rw (there, named, inside, unlocked) refl

pub invalidate_awaits : (m : Machine) (e : Extent) (c : Cache) (seg : ℕ) → cache_of m e.cache.0 ≡ Some c → c.segment ≡ Some seg
    → passes_end c e.first.0 e.pages ≡ false → is_any_locked m e.cache e.first.0 e.pages ≡ false
    → AwaitsAccess m (commands.Invalidate e)
invalidate_awaits m e c seg there named inside unlocked = record {
  denied = λ h never. absurd (cc never);
  allowed = λ h free. subst (λ (a : Answered). IsNotRefused a.answer) (sym (invalidate_unless m e (held_for m h e.cache.0) c seg there named inside unlocked)) tt;
}

pub copy_overlaps : (m : Machine) (s : Span) (h : Segments) (source destination : Cache) → cache_of m s.from.0 ≡ Some source → cache_of m s.to.0 ≡ Some destination
    → passes_end source s.from_page.0 s.pages ≡ false → passes_end destination s.to_page.0 s.pages ≡ false → overlaps_itself s ≡ true
    → copy_of m s h ≡ refuse m Overlap
unfolding copy_of with_some unless
copy_overlaps m s h source destination from to inside within shared = rw (from, to, inside, within, shared) refl

pub move_named : (m : Machine) (s : Span) (h : Segments) (source destination : Cache) → cache_of m s.from.0 ≡ Some source → cache_of m s.to.0 ≡ Some destination
    → passes_end source s.from_page.0 s.pages ≡ false → passes_end destination s.to_page.0 s.pages ≡ false → is_some source.segment ≡ true
    → move_of m s h ≡ refuse m NotTemp
unfolding move_of with_some unless
move_named m s h source destination from to inside within named = rw (from, to, inside, within, named) refl

pub move_overlaps : (m : Machine) (s : Span) (h : Segments) (source destination : Cache) → cache_of m s.from.0 ≡ Some source → cache_of m s.to.0 ≡ Some destination
    → passes_end source s.from_page.0 s.pages ≡ false → passes_end destination s.to_page.0 s.pages ≡ false → source.segment ≡ None → overlaps_itself s ≡ true
    → move_of m s h ≡ refuse m Overlap
unfolding move_of with_some unless
move_overlaps m s h source destination from to inside within temporary shared = rw (from, to, inside, within, temporary, shared) refl

pub copy_locked : (m : Machine) (s : Span) (h : Segments) (source destination : Cache) → cache_of m s.from.0 ≡ Some source → cache_of m s.to.0 ≡ Some destination
    → passes_end source s.from_page.0 s.pages ≡ false → passes_end destination s.to_page.0 s.pages ≡ false → overlaps_itself s ≡ false → is_any_locked m s.to s.to_page.0 s.pages ≡ true
    → copy_of m s h ≡ refuse m Locked
unfolding copy_of with_some unless
copy_locked m s h source destination from to inside within apart locked = rw (from, to, inside, within, apart, locked) refl

pub move_locked : (m : Machine) (s : Span) (h : Segments) (source destination : Cache) → cache_of m s.from.0 ≡ Some source → cache_of m s.to.0 ≡ Some destination
    → passes_end source s.from_page.0 s.pages ≡ false → passes_end destination s.to_page.0 s.pages ≡ false → source.segment ≡ None → overlaps_itself s ≡ false
    → (is_any_locked m s.from s.from_page.0 s.pages || is_any_locked m s.to s.to_page.0 s.pages) ≡ true
    → move_of m s h ≡ refuse m Locked
unfolding move_of with_some unless
move_locked m s h source destination from to inside within temporary apart locked = rw (from, to, inside, within, temporary, apart, locked) refl

pub flush_locked : (m : Machine) (e : Extent) (c : Cache) (seg : ℕ) → cache_of m e.cache.0 ≡ Some c → c.segment ≡ Some seg
    → passes_end c e.first.0 e.pages ≡ false → is_any_locked m e.cache e.first.0 e.pages ≡ true
    → flush_of m e ≡ refuse m Locked
unfolding flush_of with_some unless
flush_locked m e c seg there named inside locked = rw (there, named, inside, locked) refl

pub invalidate_locked : (m : Machine) (e : Extent) (held : Option (List Page)) (c : Cache) (seg : ℕ) → cache_of m e.cache.0 ≡ Some c → c.segment ≡ Some seg
    → passes_end c e.first.0 e.pages ≡ false → is_any_locked m e.cache e.first.0 e.pages ≡ true
    → invalidate_of m e held ≡ refuse m Locked
unfolding invalidate_of with_some unless
invalidate_locked m e held c seg there named inside locked = rw (there, named, inside, locked) refl

pub flush_row : (m : Machine) (e : Extent) (c : Cache) (seg : ℕ) → cache_of m e.cache.0 ≡ Some c → c.segment ≡ Some seg
    → passes_end c e.first.0 e.pages ≡ false → is_any_locked m e.cache e.first.0 e.pages ≡ false
    → flush_of m e ≡ reply replies.Done m
unfolding flush_of with_some unless
flush_row m e c seg there named inside unlocked = rw (there, named, inside, unlocked) refl

pub open_fails : (m : Machine) (seg : SegId) → CanOpen m seg → MayFailToOpen m seg
unfolding open_of
open_fails m seg can h rises rose =
    let P : Answered → Type 0 = λ a. NotRefusedButFor Opening a.answer in
    let some : (nat_le MOST_MADE (length m.caches)) ≡ false = (let few = can.few in grind (arith, nat_tests)) in (
      refl,
      rose,
      can.few,
      unless_with P _ _ m _ can.free
          (unless_with P _ _ m _ some
          (each_some P (get h.pages seg.0) _ m _ tt (λ pages holds.
          each_unless P _ _ m _ tt (λ room. tt)))),
    )

pub inside_end : (first pages : ℕ) (c : Cache) → first + pages ≤ length c.pages → passes_end c first pages ≡ false
inside_end first pages c h = grind (arith, nat_tests)

-- the cache of an extent whose pages are there, and the segment that names it
pub extent_there : (m : Machine) (e : Extent) (seg : ℕ) → segment_of m e.cache.0 ≡ Some seg → e.first.0 + e.pages ≤ pages_in (cache_of m e.cache.0)
    → (c : Cache) × (cache_of m e.cache.0 ≡ Some c) × (c.segment ≡ Some seg) × (passes_end c e.first.0 e.pages ≡ false)
extent_there m e seg = go (cache_of m e.cache.0) refl
  where
    go : (o : Option Cache) → cache_of m e.cache.0 ≡ o → option_and_then (λ (c : Cache). c.segment) o ≡ Some seg → e.first.0 + e.pages ≤ pages_in o
        → (c : Cache) × (cache_of m e.cache.0 ≡ Some c) × (c.segment ≡ Some seg) × (passes_end c e.first.0 e.pages ≡ false)
    go None there named within = absurd (cc named)
    go (Some c) there named within = (c, there, named, inside_end e.first.0 e.pages c within)

-- In the tables

-- a cache of the tables is that of the machine
pub seen_there : (t : Tables) (n : ℕ) (c : tables.Cache) → numbered t.caches.items n ≡ Some c → cache_of (machine_seen t) n ≡ Some (cache_seen c)
seen_there t n c there = numbered-map cache_seen t.caches.items n ∙ ap (option_map cache_seen) there

pub segment_there : (t : Tables) (n : ℕ) (c : tables.Cache) → numbered t.caches.items n ≡ Some c → segment_of (machine_seen t) n ≡ (cache_seen c).segment
segment_there t n c there = ap (option_and_then (λ (c : Cache). c.segment)) (seen_there t n c there)

pub is_some-numbers : (o : Option SegId) → is_some (option_map (λ (s : SegId). s.0) o) ≡ is_some o
is_some-numbers None = refl
is_some-numbers (Some s) = refl

-- a cache of which was found that no segment names it
pub none_named : (t : Tables) (n : ℕ) (c : tables.Cache) (found : Option SegId) → numbered t.caches.items n ≡ Some c → option_map (λ (s : SegId). s.0) found ≡ segment_of (machine_seen t) n → is_some found ≡ false → (cache_seen c).segment ≡ None
none_named t n c None there e none = sym (segment_there t n c there) ∙ sym e
none_named t n c (Some s) there e none = absurd (cc none)

-- a cache that a segment names
pub named_there : (t : Tables) (n : ℕ) → IsSome (segment_of (machine_seen t) n) → (c : tables.Cache) × (numbered t.caches.items n ≡ Some c) × (seg : ℕ) × ((cache_seen c).segment ≡ Some seg)
named_there t n some = go (numbered t.caches.items n) refl
  where
    go : (o : Option tables.Cache) → numbered t.caches.items n ≡ o → (c : tables.Cache) × (numbered t.caches.items n ≡ Some c) × (seg : ℕ) × ((cache_seen c).segment ≡ Some seg)
    go None e = absurd (let none : segment_of (machine_seen t) n ≡ None = ap (option_and_then (λ (c : Cache). c.segment)) (numbered-map cache_seen t.caches.items n ∙ ap (option_map cache_seen) e) in cc (none, some))
    go (Some c) e = let s = is_there ((cache_seen c).segment) (subst IsSome (segment_there t n c e) some) in (c, e, s.0, s.1)
