-- What the manager below may answer where a segment is opened that has no cache.
use Rattle.std.proofs.Common.{◌≡◌, ℕ, ◌+◌, ◌<◌, Bool, true, false, List, [], ◌∷◌, ◌++◌, length, map, Option, Some, None, refl, sym, ap, subst, ◌∙◌, arith}
use Rattle.std.specs.Prelude.{IfSome, Ok, Err, is_some, nat_le, nat_lt, option_map}
use Rattle.std.specs.FinMap.{get}
use Rattle.std.proofs.lemmas.Bool.Decides.{nat_tests}
use Rattle.std.proofs.lemmas.List.{length-map, map-append}
use Rattle.vm_ids.specs.declared.command.Command.TheVariants as commands
use Rattle.vm_ids.specs.declared.refusal.Refusal.TheVariants as refusals
use Rattle.vm_ids.specs.declared.reply.FaultAt.TheVariants as faults
use Rattle.vm_ids.specs.declared.reply.Reply.TheVariants as replies
use Rattle.vm_ids.specs.declared.reply.Trouble.TheVariants as troubles
use Rattle.interface_callers.proofs.Words.{Answer, Answered, Cache, FaultAt, IsAlike, LIVE_PAGES, Machine, MapperCounts, MayFault, MOST_MADE, Outcome, OutcomeAt, Page, PageForest, SegId, Segments, blank, blank_cache, cache_named, live_pages, open_of, opened, refuse, reply, unless, with_some}
use Rattle.interface_callers.proofs.Naming.{named_blank}
use Rattle.interface_callers.proofs.Answers.{still_err}

-- one cache more
abbrev pub appended : Machine → Cache → Machine
appended m c = record m { caches = m.caches ++ Some c ∷ [] }

abbrev pub number_next : Machine → ℕ
number_next m = length m.caches + 1

-- A cache was made with the segment's pages.
pub record IsOpen (told : Option Segments) (m : Machine) (seg : ℕ) (a : Answer) (n : Machine) : Type 0 where
  pub pages : List Page
  pub answer : a ≡ Ok (replies.Cache (record { 0 = number_next m }))
  pub next : n ≡ appended m (opened seg pages)
  pub few : length m.caches < MOST_MADE
  pub held : IfSome told (λ h. get h.pages seg ≡ Some pages)

-- or there is no room, or no such segment, or the mapper failed, or there is no memory
pub data Ends (told : Option Segments) (m : Machine) (seg : ℕ) (a : Answer) (n : Machine) (rises : MapperCounts) : Type 0 where
  made : IsOpen told m seg a n → Ends told m seg a n rises
  many : a ≡ Err (troubles.Refused refusals.TooMany) → n ≡ m → Ends told m seg a n rises
  nowhere : a ≡ Err (troubles.Refused refusals.NoSegment) → n ≡ m → IfSome told (λ h. get h.pages seg ≡ None) → Ends told m seg a n rises
  failed : a ≡ Err (troubles.Mapper faults.Opening) → n ≡ m → 0 < rises.faults → length m.caches < MOST_MADE → Ends told m seg a n rises
  lacks : a ≡ Err troubles.Memory → n ≡ m → Ends told m seg a n rises

-- by the row of the table
data RowEnds (m : Machine) (seg : ℕ) (held : Option (List Page)) (x : Answered) : Type 0 where
  row_made : (pages : List Page) → held ≡ Some pages → length m.caches < MOST_MADE → x ≡ reply (replies.Cache (record { 0 = number_next m })) (appended m (opened seg pages)) → RowEnds m seg held x
  row_many : x ≡ refuse m refusals.TooMany → RowEnds m seg held x
  row_nowhere : held ≡ None → x ≡ refuse m refusals.NoSegment → RowEnds m seg held x

module _ (m : Machine) (seg : ℕ) (held : Option (List Page)) where
  by_room : (pages : List Page) → held ≡ Some pages → length m.caches < MOST_MADE → (b : Bool) → RowEnds m seg held (unless b refusals.TooMany m (reply (replies.Cache (record { 0 = number_next m })) (appended m (opened seg pages))))
  unfolding unless
  by_room pages e few true = row_many refl
  by_room pages e few false = row_made pages e few refl

  by_held : (o : Option (List Page)) → held ≡ o → length m.caches < MOST_MADE → RowEnds m seg held (with_some o refusals.NoSegment m (λ pages.
      unless (nat_lt LIVE_PAGES (live_pages m + length pages)) refusals.TooMany m (reply (replies.Cache (record { 0 = number_next m })) (appended m (opened seg pages)))))
  unfolding with_some
  by_held None e few = row_nowhere e refl
  by_held (Some pages) e few = by_room pages e few (nat_lt LIVE_PAGES (live_pages m + length pages))

  by_count : (b : Bool) → nat_le MOST_MADE (length m.caches) ≡ b → RowEnds m seg held (unless b refusals.TooMany m (with_some held refusals.NoSegment m (λ pages.
      unless (nat_lt LIVE_PAGES (live_pages m + length pages)) refusals.TooMany m (reply (replies.Cache (record { 0 = number_next m })) (appended m (opened seg pages))))))
  unfolding unless
  by_count true e = row_many refl
  by_count false e = by_held held refl (let few : length m.caches < MOST_MADE = grind (arith, nat_tests) in few)

  by_name : (b : Bool) → b ≡ false → RowEnds m seg held (unless b refusals.SegmentInUse m (unless (nat_le MOST_MADE (length m.caches)) refusals.TooMany m (with_some held refusals.NoSegment m (λ pages.
      unless (nat_lt LIVE_PAGES (live_pages m + length pages)) refusals.TooMany m (reply (replies.Cache (record { 0 = number_next m })) (appended m (opened seg pages)))))))
  unfolding unless
  by_name true e = absurd (cc e)
  by_name false e = by_count (nat_le MOST_MADE (length m.caches)) refl

  row_ends : is_some (cache_named m.caches seg) ≡ false → RowEnds m seg held (open_of m seg held)
  unfolding open_of
  row_ends free = by_name (is_some (cache_named m.caches seg)) free

at_opening : (m : Machine) (f : Option PageForest) (h : Segments) (seg : SegId) (at : FaultAt) (rises : MapperCounts) → MayFault m f (commands.OpenSegment seg) h at rises → at ≡ faults.Opening
at_opening m f h seg faults.Opening rises may = refl
at_opening m f h seg at rises may = absurd may

opening_few : (m : Machine) (f : Option PageForest) (h : Segments) (seg : SegId) (at : FaultAt) (rises : MapperCounts) → MayFault m f (commands.OpenSegment seg) h at rises → length m.caches < MOST_MADE
opening_few m f h seg faults.Opening rises may = may
opening_few m f h seg at rises may = absurd may

by_outcome : (m : Machine) (f : Option PageForest) (h : Segments) (seg : SegId) (a : Answer) (n : Machine) (rises : MapperCounts) → is_some (cache_named m.caches seg.0) ≡ false → Outcome m f (commands.OpenSegment seg) h a n rises → Ends (Some h) m seg.0 a n rises
by_outcome m f h seg (Ok r) n rises free o = by (open_of m seg.0 (get h.pages seg.0)) o (row_ends m seg.0 (get h.pages seg.0) free)
  where
    by : (x : Answered) → x ≡ record { answer = Ok r; next = n } → RowEnds m seg.0 (get h.pages seg.0) x → Ends (Some h) m seg.0 (Ok r) n rises
    by x o (row_made pages held few e) =
        let is : record { answer = Ok r; next = n } ≡ reply (replies.Cache (record { 0 = number_next m })) (appended m (opened seg.0 pages)) = sym o ∙ e in
        made (record { pages = pages; answer = ap (λ (y : Answered). y.answer) is; next = ap (λ (y : Answered). y.next) is; few = few; held = held })
    by x o (row_many e) = absurd (let wrong : Ok r ≡ Err (troubles.Refused refusals.TooMany) = ap (λ (y : Answered). y.answer) (sym o ∙ e) in cc wrong)
    by x o (row_nowhere none e) = absurd (let wrong : Ok r ≡ Err (troubles.Refused refusals.NoSegment) = ap (λ (y : Answered). y.answer) (sym o ∙ e) in cc wrong)
by_outcome m f h seg (Err (troubles.Refused r)) n rises free o = by (open_of m seg.0 (get h.pages seg.0)) o (row_ends m seg.0 (get h.pages seg.0) free)
  where
    by : (x : Answered) → x ≡ record { answer = Err (troubles.Refused r); next = n } → RowEnds m seg.0 (get h.pages seg.0) x → Ends (Some h) m seg.0 (Err (troubles.Refused r)) n rises
    by x o (row_made pages held few e) = absurd (let wrong : Err (troubles.Refused r) ≡ Ok (replies.Cache (record { 0 = number_next m })) = ap (λ (y : Answered). y.answer) (sym o ∙ e) in cc wrong)
    by x o (row_many e) = many (ap (λ (y : Answered). y.answer) (sym o ∙ e)) (ap (λ (y : Answered). y.next) (sym o ∙ e))
    by x o (row_nowhere none e) = nowhere (ap (λ (y : Answered). y.answer) (sym o ∙ e)) (ap (λ (y : Answered). y.next) (sym o ∙ e)) none
by_outcome m f h seg (Err (troubles.Mapper at)) n rises free o = failed (ap (λ (x : FaultAt). Err (troubles.Mapper x)) (at_opening m f h seg at rises o.2)) o.0 o.1 (opening_few m f h seg at rises o.2)
by_outcome m f h seg (Err troubles.Memory) n rises free o = lacks refl o.0

-- without bytes

alike_cache : (k : ℕ) (a b : Answer) → a ≡ Ok (replies.Cache (record { 0 = k })) → IsAlike a b → b ≡ Ok (replies.Cache (record { 0 = k }))
alike_cache k a b e h = sym (subst (λ (a : Answer). IsAlike a b) e h)

pub open_ends : (told : Option Segments) (m : Machine) (f : Option PageForest) (seg : SegId) (a : Answer) (n : Machine) (rises : MapperCounts) → is_some (cache_named m.caches seg.0) ≡ false → OutcomeAt told m f (commands.OpenSegment seg) a n rises → Ends told m seg.0 a n rises
open_ends (Some h) m f seg a n rises free o = by_outcome m f h seg a n rises free o
open_ends None m f seg a n rises free o = by (by_outcome w f o.segments seg o.whole_answer o.whole_next rises free_whole o.outcome)
  where
    w : Machine
    w = o.whole

    free_whole : is_some (cache_named w.caches seg.0) ≡ false
    free_whole = sym (named_blank seg.0 w.caches) ∙ ap (λ (x : Machine). is_some (cache_named x.caches seg.0)) (sym o.is) ∙ free

    many_whole : length w.caches ≡ length m.caches
    many_whole = sym (length-map w.caches (option_map blank_cache)) ∙ ap (λ (x : Machine). length x.caches) (sym o.is)

    stays : o.whole_next ≡ w → n ≡ m
    stays e = o.is_next ∙ ap blank e ∙ sym o.is

    by : Ends (Some o.segments) w seg.0 o.whole_answer o.whole_next rises → Ends None m seg.0 a n rises
    by (made p) = made (record {
      pages = map (λ (q : Page). let e : Page = [] in e) p.pages;
      answer = alike_cache (number_next m) o.whole_answer a (p.answer ∙ ap (λ (k : ℕ). Ok (replies.Cache (record { 0 = k + 1 }))) many_whole) o.alike;
      next = o.is_next ∙ ap blank p.next
          ∙ (λ i. record (blank w) { caches = map-append (option_map blank_cache) w.caches (Some (opened seg.0 p.pages) ∷ []) i })
          ∙ ap (λ (x : Machine). appended x (opened seg.0 (map (λ (q : Page). let e : Page = [] in e) p.pages))) (sym o.is);
      few = omega (arith, p.few, many_whole);
      held = tt;
    })
    by (many e s) = many (still_err (troubles.Refused refusals.TooMany) o.whole_answer a e o.alike) (stays s)
    by (nowhere e s h) = nowhere (still_err (troubles.Refused refusals.NoSegment) o.whole_answer a e o.alike) (stays s) tt
    by (failed e s h few) = failed (still_err (troubles.Mapper faults.Opening) o.whole_answer a e o.alike) (stays s) h (omega (arith, few, many_whole))
    by (lacks e s) = lacks (still_err troubles.Memory o.whole_answer a e o.alike) (stays s)
