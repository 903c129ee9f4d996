-- Pages are copied and moved: what the machine answers, and what it is then.
use Rattle.std.proofs.Common.{◌≡◌, ℕ, zero, suc, ◌+◌, ◌-◌, ◌<◌, ◌≤◌, Bool, true, false, List, [], ◌∷◌, length, drop, map, set, take, replicate, Option, Some, None, refl, sym, ap, subst, ◌∙◌, arith, inl, inr}
use Rattle.std.specs.Prelude.{IfSome, option_and_then, option_map, slice_get}
use Rattle.std.specs.Option.{option_map_or}
use Rattle.std.specs.List.{list_any, range_with_len}
use Rattle.std.proofs.lemmas.Bool.{cases_eq}
use Rattle.std.proofs.lemmas.List.{drop-map, length-replicate, take-map}
use Rattle.std.proofs.lemmas.List.FromFn.{get_or-range_with_len, length-range_with_len}
use Rattle.std.proofs.lemmas.List.Folds.{list_any_at}
use Rattle.std.proofs.lemmas.Option.{slice_get_within}
use Rattle.vm_ids.specs.Denying.{denies}
use Rattle.vm_ids.specs.Held.{Held, Segments, segments_in}
use Rattle.vm_ids.specs.declared.command.Span.{Span}
use Rattle.vm_ids.specs.declared.numbers.SegId.{SegId}
use Rattle.vm_model.specs.Answering as answering
use Rattle.vm_model.specs.Answering.{is_denied_page, put_span, zero_source}
use Rattle.vm_model.specs.Machine as model
use Rattle.vm_model.specs.Machine.{Machine, numbered, segment_of, zero_page}
use Rattle.vm_model.proofs.Parts.Lists.{at_number, length-overwrite, numbered-map, sum_by_same}
use Rattle.contexts.specs.Actors.{Actors}
use Rattle.gmi_calls.proofs.Accessing.{segments_for}
use Rattle.flat_mm.specs.Manager.{AreKept, IsManagerSound, caches_in, machine_with, plain}
use Rattle.flat_mm.specs.Spans.{IsSpanned}
use Rattle.flat_mm.specs.Store.{AreWhole, Cache, Page, Store, cleared, copied, live_in, size_of, source_of, touched, zeros}
use Rattle.flat_mm.proofs.Accesses.{segment_plain}
use Rattle.flat_mm.proofs.Putting.{kept_puts, plain_puts, puts, puts_alive, puts_other, sound_puts}
use Rattle.flat_mm.proofs.Spanning.{from_here, part_length}

-- Lists

bytes_touched : (ps : List Page) → map (λ (p : Page). p.bytes) (map touched ps) ≡ map (λ (p : Page). p.bytes) ps
bytes_touched [] = refl
bytes_touched (p ∷ ps) = ap (λ bs. p.bytes ∷ bs) (bytes_touched ps)

bytes_blank : (n page_bytes : ℕ) → map (λ (p : Page). p.bytes) (replicate n (touched (zeros page_bytes))) ≡ replicate n (zero_page page_bytes)
bytes_blank zero b = refl
bytes_blank (suc n) b = ap (λ bs. zero_page b ∷ bs) (bytes_blank n b)

touched_changed : (ps : List Page) (i : ℕ) (q : Page) → slice_get (map touched ps) i ≡ Some q → q.changed ≡ true
touched_changed [] i q e = absurd (cc e)
touched_changed (p ∷ ps) zero q e = (let is : touched p ≡ q = cc e in ap (λ (x : Page). x.changed) (sym is))
touched_changed (p ∷ ps) (suc i) q e = touched_changed ps i q e

-- none of a range
none_in : (test : ℕ → Bool) (first pages i : ℕ) → list_any test (range_with_len first pages) ≡ false → i < pages → test (first + i) ≡ false
none_in test first pages i none less = go (test (first + i)) refl
  where
    go : (b : Bool) → test (first + i) ≡ b → test (first + i) ≡ false
    go false e = e
    go true e =
        let on : list_any test (range_with_len first pages) ≡ true = list_any_at test (range_with_len first pages) i 0 (omega (arith, less, length-range_with_len first pages)) (ap test (get_or-range_with_len first pages i 0 less) ∙ e) in
        let clash : true ≡ false = sym on ∙ none in
        absurd (cc clash)

-- A cache that is alive still

-- it has as many pages, and is of the same segment
pub record IsStill (caches : List (Option Cache)) (n : ℕ) (c : Cache) : Type 0 where
  pub cache : Cache
  pub alive : numbered caches n ≡ Some cache
  pub many : length cache.pages ≡ length c.pages
  pub segment : cache.segment ≡ c.segment

module _ (s : Store) (n : ℕ) (c : Cache) (alive : numbered s.caches n ≡ Some c) (first : ℕ) (part : List Page) (within : first + length part ≤ length c.pages) where
  still : (m : ℕ) (d : Cache) → numbered s.caches m ≡ Some d → IsStill (puts s n first part).caches m d
  still m d there = elim (cases_eq m n) [
    | inl same ↦ (
        let e : Some c ≡ Some d = sym alive ∙ ap (numbered s.caches) (sym same) ∙ there in
        let is : c ≡ d = cc e in
        subst (IsStill (puts s n first part).caches m) is
        (record { cache = record c { pages = answering.overwrite first part c.pages }; alive = ap (numbered (puts s n first part).caches) same ∙ puts_alive s n c alive first part; many = length-overwrite first part c.pages within; segment = refl }))
    | inr other ↦ record { cache = d; alive = puts_other s n c alive first part m other ∙ there; many = refl; segment = refl }
  ]

  live_puts : live_in (puts s n first part).caches ≡ live_in s.caches
  live_puts =
      ap (λ (o : Option Cache). live_in (set s.caches (n - 1) (option_map (λ (d : Cache). record d { pages = answering.overwrite first part d.pages }) o))) alive
      ∙ sum_by_same size_of s.caches (n - 1) (Some c) (Some (record c { pages = answering.overwrite first part c.pages })) (at_number s.caches n c alive) (length-overwrite first part c.pages within)

pub plain_there : (s : Store) (n : ℕ) (c : Cache) → numbered s.caches n ≡ Some c → numbered (caches_in s) n ≡ Some (plain c)
plain_there s n c there = numbered-map plain s.caches n ∙ ap (option_map plain) there

-- After the copy, and after the source was cleared

module _ (s : Store) (span : Span) (S : IsSpanned s span) where
  abbrev filled : List Page
  filled = map touched (source_of s span span.pages)

  abbrev blank : List Page
  blank = replicate span.pages (touched (zeros s.page_bytes))

  fills : span.to_page.0 + length filled ≤ length S.destination.pages
  fills = omega (arith, part_length s span S span.pages (omega arith), S.within)

  blanks_in : span.from_page.0 + length blank ≤ length S.source.pages
  blanks_in = omega (arith, length-replicate span.pages (touched (zeros s.page_bytes)), S.inside)

  -- the pages are there still
  pub spanned_still : (T : IsSpanned (copied s span span.pages) span) × (T.source.segment ≡ S.source.segment)
  spanned_still =
      let from = still s span.to.0 S.destination S.to span.to_page.0 filled fills span.from.0 S.source S.from in
      let to = still s span.to.0 S.destination S.to span.to_page.0 filled fills span.to.0 S.destination S.to in (
        record {
          source = from.cache;
          destination = to.cache;
          from = from.alive;
          to = to.alive;
          inside = omega (arith, from.many, S.inside);
          within = omega (arith, to.many, S.within);
          small = omega (arith, from.many, S.small);
          few = omega (arith, to.many, S.few);
        },
        from.segment,
      )

  pub live_copied : live_in (copied s span span.pages).caches ≡ live_in s.caches
  live_copied = live_puts s span.to.0 S.destination S.to span.to_page.0 filled fills

  pub live_cleared : live_in (cleared s span span.pages).caches ≡ live_in s.caches
  live_cleared = live_puts s span.from.0 S.source S.from span.from_page.0 blank blanks_in

  pub sound_copied : (t : Actors) (m : ℕ) (u : Store) → IsManagerSound s t m → AreWhole u → u ≡ copied s span span.pages → IsManagerSound u t m
  sound_copied t m u k whole is = sound_puts s span.to.0 S.destination S.to span.to_page.0 filled fills t m u k whole (ap (λ (x : Store). x.loose) is ∙ k.settled) (ap (λ (x : Store). x.page_bytes) is) (ap (λ (x : Store). x.caches) is)

  pub sound_cleared : (t : Actors) (m : ℕ) (u : Store) → IsManagerSound s t m → AreWhole u → u ≡ cleared s span span.pages → IsManagerSound u t m
  sound_cleared t m u k whole is = sound_puts s span.from.0 S.source S.from span.from_page.0 blank blanks_in t m u k whole (ap (λ (x : Store). x.loose) is ∙ k.settled) (ap (λ (x : Store). x.page_bytes) is) (ap (λ (x : Store). x.caches) is)

  pub filled_spanned : (v : Store) → v ≡ copied s span span.pages → IsSpanned v span
  filled_spanned v is = subst (λ (x : Store). IsSpanned x span) (sym is) spanned_still.0

  -- The machine then

  bytes_filled : map (λ (p : Page). p.bytes) filled ≡ take span.pages (drop span.from_page.0 (plain S.source).pages)
  bytes_filled =
      bytes_touched (source_of s span span.pages) ∙ ap (map (λ (p : Page). p.bytes)) (from_here s span S span.pages)
      ∙ sym (take-map (λ (p : Page). p.bytes) span.pages (drop span.from_page.0 S.source.pages))
      ∙ ap (take span.pages) (sym (drop-map (λ (p : Page). p.bytes) span.from_page.0 S.source.pages))

  pub copied_machine : (t : Actors) → machine_with (caches_in (copied s span span.pages)) s.frames t ≡ put_span (machine_with (caches_in s) s.frames t) span (plain S.source) (plain S.destination)
  copied_machine t = ap (λ (cs : List (Option model.Cache)). machine_with cs s.frames t)
      (plain_puts s span.to.0 S.destination S.to span.to_page.0 filled
      ∙ ap (λ (bs : List model.Page). set (caches_in s) (span.to.0 - 1) (Some (answering.put_pages span.to_page.0 bs (plain S.destination)))) bytes_filled)

  pub cleared_machine : (t : Actors) → t.page_bytes ≡ s.page_bytes → machine_with (caches_in (cleared s span span.pages)) s.frames t ≡ zero_source (machine_with (caches_in s) s.frames t) span
  cleared_machine t page =
      let m = machine_with (caches_in s) s.frames t in
      ap (λ (cs : List (Option model.Cache)). machine_with cs s.frames t)
      (plain_puts s span.from.0 S.source S.from span.from_page.0 blank
      ∙ ap (λ (bs : List model.Page). set (caches_in s) (span.from.0 - 1) (Some (answering.put_pages span.from_page.0 bs (plain S.source)))) (bytes_blank span.pages s.page_bytes ∙ ap (λ b. replicate span.pages (zero_page b)) (sym page)))
      ∙ sym (ap (λ (o : Option model.Cache). option_map_or (λ c. answering.put_cache m span.from.0 (answering.put_pages span.from_page.0 (replicate span.pages (zero_page m.page_bytes)) c)) o m) (plain_there s span.from.0 S.source S.from))

  -- What is kept

  granted_here : (h : Segments) (m : Machine) → m.caches ≡ caches_in s → (seg : SegId) (k : ℕ) → S.destination.segment ≡ Some seg → is_denied_page m h span.to.0 k ≡ false → denies h.denied seg.0 k ≡ false
  granted_here h m caches seg k named free =
      let here : segment_of m span.to.0 ≡ Some seg.0 = segment_plain s m span.to.0 caches ∙ ap (λ (o : Option Cache). option_map (λ (x : SegId). x.0) (option_and_then (λ (c : Cache). c.segment) o)) S.to ∙ ap (option_map (λ (x : SegId). x.0)) named in
      sym (ap (λ (o : Option ℕ). option_map_or (λ x. denies h.denied x k) o false) here) ∙ free

  pub kept_copied : (told : Option Held) (m : Machine) → m.caches ≡ caches_in s → list_any (is_denied_page m (segments_for told) span.to.0) (range_with_len span.to_page.0 span.pages) ≡ false
      → IfSome told (λ h. AreKept (segments_in h) s.caches) → IfSome told (λ h. AreKept (segments_in h) (copied s span span.pages).caches)
  kept_copied None m caches free kept = tt
  kept_copied (Some h) m caches free kept = kept_puts s span.to.0 S.destination S.to span.to_page.0 filled fills (segments_in h) kept
      (λ seg i q named at.
      let less : i < span.pages = omega (arith, slice_get_within filled i q at, part_length s span S span.pages (omega arith)) in
      let on : q.changed ≡ true = touched_changed (source_of s span span.pages) i q at in
      record {
        granted = λ _. granted_here (segments_in h) m caches seg (span.to_page.0 + i) named (none_in (is_denied_page m (segments_in h) span.to.0) span.to_page.0 span.pages i free less);
        same = λ e. absurd (let clash : true ≡ false = sym on ∙ e in cc clash);
      })

  -- a temporary source keeps nothing for a segment
  pub kept_cleared : (told : Option Held) → S.source.segment ≡ None → IfSome told (λ h. AreKept (segments_in h) s.caches) → IfSome told (λ h. AreKept (segments_in h) (cleared s span span.pages).caches)
  kept_cleared None temporary kept = tt
  kept_cleared (Some h) temporary kept = kept_puts s span.from.0 S.source S.from span.from_page.0 blank blanks_in (segments_in h) kept
      (λ seg i q named at. absurd (let clash : None ≡ Some seg = sym temporary ∙ named in cc clash))
