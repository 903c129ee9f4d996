-- What a copy into a temporary cache comes to: what its row says, or there is no memory for it.
use Rattle.std.proofs.Common.{◌≡◌, ◌≢◌, ◌⊎◌, inl, inr, ℕ, ◌+◌, ◌≤◌, Bool, true, false, length, Option, Some, None, refl, sym, ap, subst, ◌∙◌, arith}
use Rattle.std.specs.Prelude.{◌&&◌, Ok, Err, Result, nat_lt, option_map}
use Rattle.std.specs.List.{range_with_len}
use Rattle.std.specs.Option.{option_map_or}
use Rattle.std.proofs.lemmas.Bool.{ne_eqb}
use Rattle.std.proofs.lemmas.Bool.Decides.{nat_tests}
use Rattle.std.proofs.lemmas.List.{length-map}
use Rattle.vm_ids.specs.declared.command.Command.TheVariants as commands
use Rattle.vm_ids.specs.declared.refusal.Refusal.TheVariants as refusals
use Rattle.vm_ids.specs.declared.reply.FaultAt.TheVariants as faults
use Rattle.vm_ids.specs.declared.reply.Reply.TheVariants as replies
use Rattle.vm_ids.specs.declared.reply.Trouble.TheVariants as troubles
use Rattle.interface_callers.proofs.Words.{Answer, Answered, Cache, FaultAt, Machine, MapperCounts, MayFault, OutcomeAt, PageForest, Segments, Span, Trouble, blank, blank_cache, cache_of, copy_of, denies, done_by, is_any_denied, is_any_locked, is_denied_page, is_locked_page, overlaps_itself, passes_an_end, passes_end, put_span, reply, segment_of, shares, unless, with_some}
use Rattle.interface_callers.proofs.Answers.{alike_done}
use Rattle.interface_callers.proofs.Blanks.{as_many, blank_at, blank_span, emptied, whole_cache}
use Rattle.interface_callers.proofs.Lists.{none_any, or_false}
use Rattle.interface_callers.proofs.Rows.{RowIs, blanked, by_row, is_done, row_blank}
use Rattle.interface_callers.proofs.Temporary.{nameless, no_name}

-- What refuses it not

pub undenied : (m : Machine) (h : Segments) (s : Span) → segment_of m s.to.0 ≡ None → is_any_denied m h s ≡ false
undenied m h s none = none_any (is_denied_page m h s.to.0) (range_with_len s.to_page.0 s.pages) (λ i page e. ap (λ (o : Option ℕ). option_map_or (λ seg. denies h.denied seg page) o false) none)

pub inside : (n k : ℕ) → k ≤ n → nat_lt n k ≡ false
inside n k h = grind (arith, nat_tests)

pub no_overlap : (s : Span) → s.from.0 ≢ s.to.0 → overlaps_itself s ≡ false
no_overlap s apart = ap (λ (b : Bool). b && shares s.from_page.0 s.pages s.to_page.0 s.pages) (ne_eqb s.from.0 s.to.0 apart)

pub unlocked_all : (m : Machine) (s : Span) (first : ℕ) (cache : ℕ) → ((page : ℕ) → is_locked_page m cache page ≡ false) → is_any_locked m (record { 0 = cache }) first s.pages ≡ false
unlocked_all m s first cache free = none_any (is_locked_page m cache) (range_with_len first s.pages) (λ i page e. free page)

no_fault_copy : (m : Machine) (f : Option PageForest) (h : Segments) (s : Span) → segment_of m s.to.0 ≡ None → (at : FaultAt) (rises : MapperCounts) → MayFault m f (commands.Copy s) h at rises → ⊥
no_fault_copy m f h s none (faults.Access p) rises may = no_name m s.to.0 none may.0
no_fault_copy m f h s none (faults.Save done) rises may = no_name m s.to.0 none may.0
no_fault_copy m f h s none at rises may = may

pub no_fault_move : (m : Machine) (f : Option PageForest) (h : Segments) (s : Span) → segment_of m s.to.0 ≡ None → (at : FaultAt) (rises : MapperCounts) → MayFault m f (commands.Move s) h at rises → ⊥
no_fault_move m f h s none (faults.Access p) rises may = no_name m s.to.0 none may.0
no_fault_move m f h s none (faults.Save done) rises may = no_name m s.to.0 none may.0
no_fault_move m f h s none at rises may = may

-- Its row

-- what a copy from there into this cache comes to
abbrev pub copied : Machine → Span → Cache → Option Cache → Answered
copied m s d o = with_some o refusals.NoCache m (λ c. unless (passes_end c s.from_page.0 s.pages) refusals.OutOfCache m (reply replies.Done (put_span m s c d)))

abbrev pub copy_row : Machine → Span → Cache → Answered
copy_row m s d = with_some (cache_of m s.from.0) refusals.NoCache m (λ c. unless (passes_end c s.from_page.0 s.pages) refusals.OutOfCache m (reply replies.Done (put_span m s c d)))

-- the destination is temporary and has the pages, is another cache than the source, and isn't locked
pub record MayCopy (m : Machine) (s : Span) (d : Cache) : Type 0 where
  pub to : cache_of m s.to.0 ≡ Some d
  pub temporary : d.segment ≡ None
  pub fits : s.to_page.0 + s.pages ≤ length d.pages
  pub apart : s.from.0 ≢ s.to.0
  pub unlocked : (page : ℕ) → is_locked_page m s.to.0 page ≡ false

module _ (m : Machine) (s : Span) (d : Cache) (may : MayCopy m s d) (h : Segments) where
  abbrev none : segment_of m s.to.0 ≡ None
  none = nameless m s.to.0 d may.to may.temporary

  fits_in : (c : Cache) → passes_an_end s c d ≡ passes_end c s.from_page.0 s.pages
  fits_in c = or_false (passes_end c s.from_page.0 s.pages) (passes_end d s.to_page.0 s.pages) (inside (length d.pages) (s.to_page.0 + s.pages) may.fits)

  copy_is_row : copy_of m s h ≡ copy_row m s d
  unfolding copy_of with_some unless
  copy_is_row =
      (λ i. with_some (cache_of m s.from.0) refusals.NoCache m (λ c. with_some (may.to i) refusals.NoCache m (λ destination.
      unless (passes_an_end s c destination) refusals.OutOfCache m (unless (overlaps_itself s) refusals.Overlap m (unless (is_any_locked m s.to s.to_page.0 s.pages) refusals.Locked m
      (unless (is_any_denied m h s) refusals.WriteDenied m (reply replies.Done (put_span m s c destination))))))))
      ∙ (λ i. with_some (cache_of m s.from.0) refusals.NoCache m (λ c.
      unless (fits_in c i) refusals.OutOfCache m (unless (no_overlap s may.apart i) refusals.Overlap m (unless (unlocked_all m s s.to_page.0 s.to.0 may.unlocked i) refusals.Locked m
      (unless (undenied m h s none i) refusals.WriteDenied m (reply replies.Done (put_span m s c d)))))))

copied_blank : (w : Machine) (s : Span) (y : Cache) (o : Option Cache) → copied (blank w) s (blank_cache y) (option_map blank_cache o) ≡ blanked (copied w s y o)
unfolding with_some unless
copied_blank w s y None = refl
copied_blank w s y (Some c) =
    (λ i. unless (nat_lt (length-map c.pages emptied i) (s.from_page.0 + s.pages)) refusals.OutOfCache (blank w) (reply replies.Done (put_span (blank w) s (blank_cache c) (blank_cache y))))
    ∙ by (passes_end c s.from_page.0 s.pages)
  where
    by : (b : Bool) → unless b refusals.OutOfCache (blank w) (reply replies.Done (put_span (blank w) s (blank_cache c) (blank_cache y))) ≡ blanked (unless b refusals.OutOfCache w (reply replies.Done (put_span w s c y)))
    by true = refl
    by false = λ i. reply replies.Done (sym (blank_span w s c y) i)

copy_blank : (w : Machine) (s : Span) (y : Cache) → copy_row (blank w) s (blank_cache y) ≡ blanked (copy_row w s y)
copy_blank w s y = ap (copied (blank w) s (blank_cache y)) (blank_at w s.from.0) ∙ copied_blank w s y (cache_of w s.from.0)

pub copied_at : (told : Option Segments) (m : Machine) (s : Span) (d : Cache) → MayCopy m s d → (f : Option PageForest) (result : Result (Unit {0}) Trouble) (n : Machine) (rises : MapperCounts) → OutcomeAt told m f (commands.Copy s) (done_by result) n rises
    → RowIs (copy_row m s d) m (done_by result) n
copied_at (Some h) m s d may f result n rises o = by_row m f (commands.Copy s) h (copy_row m s d) (copy_is_row m s d may h) (no_fault_copy m f h s (none m s d may h)) (done_by result) n rises o
copied_at None m s d may f result n rises o =
    let w : Machine = o.whole in
    let y = whole_cache m w o.is s.to.0 d may.to in
    let may_w : MayCopy w s y.0 = record {
      to = y.1;
      temporary = ap (λ (c : Cache). c.segment) y.2 ∙ may.temporary;
      fits = omega (arith, may.fits, as_many y.0 d y.2);
      apart = may.apart;
      unlocked = λ page. ap (λ (x : Machine). is_locked_page x s.to.0 page) (sym o.is) ∙ may.unlocked page;
    } in
    let r = by_row w f (commands.Copy s) o.segments (copy_row w s y.0) (copy_is_row w s y.0 may_w o.segments) (no_fault_copy w f o.segments s (none w s y.0 may_w o.segments)) o.whole_answer o.whole_next rises o.outcome in
    subst (λ (x : Machine). RowIs (copy_row x s d) x (done_by result) n) (sym o.is)
    (subst (λ (x : Machine). RowIs (copy_row (blank w) s d) (blank w) (done_by result) x) (sym o.is_next)
    (subst (λ (x : Cache). RowIs (copy_row (blank w) s x) (blank w) (done_by result) (blank o.whole_next)) y.2
    (subst (λ (x : Answer). RowIs (copy_row (blank w) s (blank_cache y.0)) (blank w) x (blank o.whole_next)) (alike_done o.whole_answer result o.alike)
    (subst (λ (x : Answered). RowIs x (blank w) o.whole_answer (blank o.whole_next)) (sym (copy_blank w s y.0)) (row_blank (copy_row w s y.0) w o.whole_answer o.whole_next r)))))

-- From a cache that has the pages it is done, or there is no memory for it.

abbrev pub Copies : Machine → Span → Cache → Cache → Answer → Machine → Type 0
Copies m s c d answer next =
    ((answer ≡ Ok replies.Done) × (next ≡ put_span m s c d)) ⊎ ((answer ≡ Err troubles.Memory) × (next ≡ m))

row_there : (m : Machine) (s : Span) (c d : Cache) → cache_of m s.from.0 ≡ Some c → s.from_page.0 + s.pages ≤ length c.pages → copy_row m s d ≡ reply replies.Done (put_span m s c d)
unfolding with_some unless
row_there m s c d from within =
    ap (copied m s d) from ∙ ap (λ (b : Bool). unless b refusals.OutOfCache m (reply replies.Done (put_span m s c d))) (inside (length c.pages) (s.from_page.0 + s.pages) within)

pub copies_there : (m : Machine) (s : Span) (c d : Cache) → cache_of m s.from.0 ≡ Some c → s.from_page.0 + s.pages ≤ length c.pages → (a : Answer) (n : Machine) → RowIs (copy_row m s d) m a n → Copies m s c d a n
copies_there m s c d from within a n (inl e) = let x = is_done (put_span m s c d) a n (sym (row_there m s c d from within) ∙ e) in inl (x.done, x.next)
copies_there m s c d from within a n (inr l) = inr (l.is, l.same)
