-- What a move of all pages out of a temporary cache comes to that is destroyed behind it.
use Rattle.std.proofs.Common.{◌≡◌, ◌≢◌, inl, inr, ℕ, ◌+◌, ◌-◌, ◌≤◌, Bool, true, false, List, length, take, drop, replicate, Option, Some, None, refl, sym, ap, subst, ◌∙◌, arith}
use Rattle.std.specs.Prelude.{◌||◌, Ok, Err, Result, is_some, nat_lt, option_map}
use Rattle.std.specs.Option.{option_map_or}
use Rattle.std.proofs.lemmas.List.{length-drop, length-map, length-replicate, length-take-le, set-set}
use Rattle.vm_ids.specs.declared.command.Command.TheVariants as commands
use Rattle.vm_ids.specs.declared.refusal.Refusal.TheVariants as refusals
use Rattle.vm_ids.specs.declared.reply.Reply.TheVariants as replies
use Rattle.vm_model.proofs.Parts.Lists.{length-overwrite}
use Rattle.vm_model.proofs.Outcomes.Lying.{not_past}
use Rattle.interface_callers.proofs.Words.{Answer, Answered, Cache, IsNotRefused, Machine, MapperCounts, OutcomeAt, Page, PageForest, Segments, Span, Trouble, blank, blank_cache, cache_of, done_by, is_any_denied, is_any_locked, is_locked_page, move_of, overlaps_itself, passes_an_end, passes_end, put_cache, put_pages, put_span, reply, unless, with_some, zero_page, zero_source}
use Rattle.interface_callers.proofs.Alike.{AllTemporary, HasShape, IsLike, blank_shape, shape_back, shape_cache, shape_put, shape_self, shape_then, still_temporary, whole_shape}
use Rattle.interface_callers.proofs.Blanks.{as_many, blank_at, blank_span, blank_without, emptied, whole_cache, without}
use Rattle.interface_callers.proofs.Answers.{alike_done}
use Rattle.interface_callers.proofs.Rows.{RowIs, blanked, by_row, row_blank}
use Rattle.interface_callers.proofs.Copies.{inside, no_fault_move, no_overlap, undenied, unlocked_all}
use Rattle.interface_callers.proofs.Temporary.{unnamed}

-- the source has the pages, is another cache than the destination, and isn't locked
pub record MayMove (m : Machine) (s : Span) (c : Cache) : Type 0 where
  pub from : cache_of m s.from.0 ≡ Some c
  pub all : AllTemporary m
  pub inside : s.from_page.0 + s.pages ≤ length c.pages
  pub apart : s.from.0 ≢ s.to.0
  pub unlocked : (page : ℕ) → is_locked_page m s.from.0 page ≡ false

-- the rows of a move into what there is, up to an end
abbrev pub moved : Machine → Span → (Cache → Machine) → Option Cache → Answered
moved m s ending o = with_some o refusals.NoCache m (λ d. unless (passes_end d s.to_page.0 s.pages) refusals.OutOfCache m (unless (is_any_locked m s.to s.to_page.0 s.pages) refusals.Locked m (reply replies.Done (ending d))))

abbrev move_row : Machine → Span → Cache → Answered
move_row m s c = moved m s (λ d. zero_source (put_span m s c d) s) (cache_of m s.to.0)

-- the same, after which the source is destroyed
abbrev pub received_row : Machine → Span → Cache → Answered
received_row m s c = with_some (cache_of m s.to.0) refusals.NoCache m (λ d. unless (passes_end d s.to_page.0 s.pages) refusals.OutOfCache m (unless (is_any_locked m s.to s.to_page.0 s.pages) refusals.Locked m (reply replies.Done (without (put_span m s c d) s.from.0))))

-- a cache is destroyed where all went well
abbrev pub finished : Answer → Machine → ℕ → Machine
finished (Ok r) n k = without n k
finished (Err t) n k = n

abbrev finishing : ℕ → Answered → Answered
finishing k a = record { answer = a.answer; next = finished a.answer a.next k }

module _ (m : Machine) (s : Span) (c : Cache) (may : MayMove m s c) (h : Segments) where
  passes : (d : Cache) → passes_an_end s c d ≡ passes_end d s.to_page.0 s.pages
  passes d = ap (λ (b : Bool). b || passes_end d s.to_page.0 s.pages) (inside (length c.pages) (s.from_page.0 + s.pages) may.inside)

  locked : (is_any_locked m s.from s.from_page.0 s.pages || is_any_locked m s.to s.to_page.0 s.pages) ≡ is_any_locked m s.to s.to_page.0 s.pages
  locked = ap (λ (b : Bool). b || is_any_locked m s.to s.to_page.0 s.pages) (unlocked_all m s s.from_page.0 s.from.0 may.unlocked)

  move_is_row : move_of m s h ≡ move_row m s c
  unfolding move_of with_some unless
  move_is_row =
      (λ i. with_some (may.from i) refusals.NoCache m (λ source. with_some (cache_of m s.to.0) refusals.NoCache m (λ d.
      unless (passes_an_end s source d) refusals.OutOfCache m (unless (is_some source.segment) refusals.NotTemp m (unless (overlaps_itself s) refusals.Overlap m
      (unless (is_any_locked m s.from s.from_page.0 s.pages || is_any_locked m s.to s.to_page.0 s.pages) refusals.Locked m
      (unless (is_any_denied m h s) refusals.WriteDenied m (reply replies.Done (zero_source (put_span m s source d) s)))))))))
      ∙ (λ i. with_some (cache_of m s.to.0) refusals.NoCache m (λ d.
      unless (passes d i) refusals.OutOfCache m (unless (is_some (may.all s.from.0 c may.from i)) refusals.NotTemp m (unless (no_overlap s may.apart i) refusals.Overlap m
      (unless (locked i) refusals.Locked m
      (unless (undenied m h s (unnamed m may.all s.to.0) i) refusals.WriteDenied m (reply replies.Done (zero_source (put_span m s c d) s))))))))

-- What is destroyed had zeros, or what it had

without_put : (m : Machine) (k : ℕ) (change : Cache → Cache) (o : Option Cache) → without (option_map_or (λ (c : Cache). put_cache m k (change c)) o m) k ≡ without m k
without_put m k change None = refl
without_put m k change (Some c) = λ i. record m { caches = set-set m.caches (k - 1) (Some (change c)) None i }

without_zeros : (m : Machine) (s : Span) → without (zero_source m s) s.from.0 ≡ without m s.from.0
without_zeros m s = without_put m s.from.0 (put_pages s.from_page.0 (replicate s.pages (zero_page m.page_bytes))) (cache_of m s.from.0)

finish_row : (m : Machine) (s : Span) (c : Cache) → finishing s.from.0 (move_row m s c) ≡ received_row m s c
unfolding with_some unless
finish_row m s c = by (cache_of m s.to.0)
  where
    at : (d : Cache) (x y : Bool) → finishing s.from.0 (unless x refusals.OutOfCache m (unless y refusals.Locked m (reply replies.Done (zero_source (put_span m s c d) s)))) ≡ unless x refusals.OutOfCache m (unless y refusals.Locked m (reply replies.Done (without (put_span m s c d) s.from.0)))
    at d true y = refl
    at d false true = refl
    at d false false = λ i. reply replies.Done (without_zeros (put_span m s c d) s i)

    by : (o : Option Cache) → finishing s.from.0 (moved m s (λ d. zero_source (put_span m s c d) s) o) ≡ moved m s (λ d. without (put_span m s c d) s.from.0) o
    by None = refl
    by (Some d) = at d (passes_end d s.to_page.0 s.pages) (is_any_locked m s.to s.to_page.0 s.pages)

-- as many pages stay

put_like : (first : ℕ) (pages : List Page) (d : Cache) → first + length pages ≤ length d.pages → IsLike d (put_pages first pages d)
put_like first pages d h = record { segment = refl; many = length-overwrite first pages d.pages h }

module _ (m : Machine) (s : Span) (c : Cache) (may : MayMove m s c) where
  many : length (take s.pages (drop s.from_page.0 c.pages)) ≡ s.pages
  many = length-take-le s.pages (drop s.from_page.0 c.pages) (omega (arith, may.inside, length-drop s.from_page.0 c.pages))

  pub span_like : (d : Cache) → cache_of m s.to.0 ≡ Some d → passes_end d s.to_page.0 s.pages ≡ false → HasShape m (put_span m s c d)
  span_like d to fits = shape_put m s.to.0 d (put_pages s.to_page.0 (take s.pages (drop s.from_page.0 c.pages)) d) to
      (put_like s.to_page.0 (take s.pages (drop s.from_page.0 c.pages)) d (omega (arith, many, not_past (length d.pages) (s.to_page.0 + s.pages) fits)))

  zeros_like : (x : Machine) → HasShape m x → HasShape m (zero_source x s)
  zeros_like x l =
      let e = shape_cache m x l s.from.0 c may.from in
      let zeros : List Page = replicate s.pages (zero_page x.page_bytes) in
      let long : s.from_page.0 + length zeros ≤ length e.0.pages = omega (arith, may.inside, length-replicate s.pages (zero_page x.page_bytes), e.2.many) in
      shape_then m x (zero_source x s) l
      (subst (λ (o : Option Cache). HasShape x (option_map_or (λ (d : Cache). put_cache x s.from.0 (put_pages s.from_page.0 zeros d)) o x)) (sym e.1)
      (shape_put x s.from.0 e.0 (put_pages s.from_page.0 zeros e.0) e.1 (put_like s.from_page.0 zeros e.0 long)))

  row_like : HasShape m (move_row m s c).next
  unfolding with_some unless
  row_like = by (cache_of m s.to.0) refl
    where
      at : (d : Cache) (x y : Bool) → cache_of m s.to.0 ≡ Some d → passes_end d s.to_page.0 s.pages ≡ x → HasShape m (unless x refusals.OutOfCache m (unless y refusals.Locked m (reply replies.Done (zero_source (put_span m s c d) s)))).next
      at d true y to e = shape_self m
      at d false true to e = shape_self m
      at d false false to e = zeros_like (put_span m s c d) (span_like d to e)

      by : (o : Option Cache) → cache_of m s.to.0 ≡ o → HasShape m (moved m s (λ d. zero_source (put_span m s c d) s) o).next
      by None e = shape_self m
      by (Some d) e = at d (passes_end d s.to_page.0 s.pages) (is_any_locked m s.to s.to_page.0 s.pages) e refl

-- What it comes to: as many pages stay, and what there is without the source is as the row says.
pub record Moves (m : Machine) (s : Span) (c : Cache) (a : Answer) (n : Machine) : Type 0 where
  pub like : HasShape m n
  pub row : RowIs (received_row m s c) m a (finished a n s.from.0)

moves : (m : Machine) (s : Span) (c : Cache) → MayMove m s c → (a : Answer) (n : Machine) → RowIs (move_row m s c) m a n → Moves m s c a n
moves m s c may a n (inl e) = record {
  like = subst (λ (x : Answered). HasShape m x.next) e (row_like m s c may);
  row = inl (sym (finish_row m s c) ∙ ap (finishing s.from.0) e);
}
moves m s c may a n (inr l) = record {
  like = subst (HasShape m) (sym l.same) (shape_self m);
  row = inr (record {
    is = l.is;
    same = ap (λ (x : Answer). finished x n s.from.0) l.is ∙ l.same;
    on = subst (λ (x : Answered). IsNotRefused x.answer) (finish_row m s c) l.on;
  });
}

received_blank : (w : Machine) (s : Span) (c : Cache) → received_row (blank w) s (blank_cache c) ≡ blanked (received_row w s c)
unfolding with_some unless
received_blank w s c = ap (moved (blank w) s (λ d. without (put_span (blank w) s (blank_cache c) d) s.from.0)) (blank_at w s.to.0) ∙ by (cache_of w s.to.0)
  where
    at : (d : Cache) (x y : Bool) → unless x refusals.OutOfCache (blank w) (unless y refusals.Locked (blank w) (reply replies.Done (without (put_span (blank w) s (blank_cache c) (blank_cache d)) s.from.0)))
        ≡ blanked (unless x refusals.OutOfCache w (unless y refusals.Locked w (reply replies.Done (without (put_span w s c d) s.from.0))))
    at d true y = refl
    at d false true = refl
    at d false false = λ i. reply replies.Done (sym (blank_without (put_span w s c d) s.from.0 ∙ ap (λ (x : Machine). without x s.from.0) (blank_span w s c d)) i)

    by : (o : Option Cache) → moved (blank w) s (λ d. without (put_span (blank w) s (blank_cache c) d) s.from.0) (option_map blank_cache o) ≡ blanked (moved w s (λ d. without (put_span w s c d) s.from.0) o)
    by None = refl
    by (Some d) =
        (λ i. unless (nat_lt (length-map d.pages emptied i) (s.to_page.0 + s.pages)) refusals.OutOfCache (blank w) (unless (is_any_locked w s.to s.to_page.0 s.pages) refusals.Locked (blank w) (reply replies.Done (without (put_span (blank w) s (blank_cache c) (blank_cache d)) s.from.0))))
        ∙ at d (passes_end d s.to_page.0 s.pages) (is_any_locked w s.to s.to_page.0 s.pages)

finished_blank : (a : Answer) (w : Machine) (k : ℕ) → blank (finished a w k) ≡ finished a (blank w) k
finished_blank (Ok r) w k = blank_without w k
finished_blank (Err t) w k = refl

moves_blank : (w : Machine) (s : Span) (c : Cache) (a : Answer) (n : Machine) → Moves w s c a n → Moves (blank w) s (blank_cache c) a (blank n)
moves_blank w s c a n r = record {
  like = shape_then (blank w) w (blank n) (shape_back w (blank w) (blank_shape w)) (shape_then w n (blank n) r.like (blank_shape n));
  row = subst (λ (x : Answered). RowIs x (blank w) a (finished a (blank n) s.from.0)) (sym (received_blank w s c))
      (subst (RowIs (blanked (received_row w s c)) (blank w) a) (finished_blank a n s.from.0) (row_blank (received_row w s c) w a (finished a n s.from.0) r.row));
}

pub moved_at : (told : Option Segments) (m : Machine) (s : Span) (c : Cache) → MayMove m s c → (f : Option PageForest) (result : Result (Unit {0}) Trouble) (n : Machine) (rises : MapperCounts) → OutcomeAt told m f (commands.Move s) (done_by result) n rises
    → Moves m s c (done_by result) n
moved_at (Some h) m s c may f result n rises o = moves m s c may (done_by result) n (by_row m f (commands.Move s) h (move_row m s c) (move_is_row m s c may h) (no_fault_move m f h s (unnamed m may.all s.to.0)) (done_by result) n rises o)
moved_at None m s c may f result n rises o =
    let w : Machine = o.whole in
    let y = whole_cache m w o.is s.from.0 c may.from in
    let may_w : MayMove w s y.0 = record {
      from = y.1;
      all = still_temporary m w (whole_shape m w o.is) may.all;
      inside = omega (arith, may.inside, as_many y.0 c y.2);
      apart = may.apart;
      unlocked = λ page. ap (λ (x : Machine). is_locked_page x s.from.0 page) (sym o.is) ∙ may.unlocked page;
    } in
    let r = moves w s y.0 may_w o.whole_answer o.whole_next (by_row w f (commands.Move s) o.segments (move_row w s y.0) (move_is_row w s y.0 may_w o.segments) (no_fault_move w f o.segments s (unnamed w may_w.all s.to.0)) o.whole_answer o.whole_next rises o.outcome) in
    subst (λ (x : Machine). Moves x s c (done_by result) n) (sym o.is)
    (subst (λ (x : Machine). Moves (blank w) s c (done_by result) x) (sym o.is_next)
    (subst (λ (x : Cache). Moves (blank w) s x (done_by result) (blank o.whole_next)) y.2
    (subst (λ (x : Answer). Moves (blank w) s (blank_cache y.0) x (blank o.whole_next)) (alike_done o.whole_answer result o.alike)
    (moves_blank w s y.0 o.whole_answer o.whole_next r))))
