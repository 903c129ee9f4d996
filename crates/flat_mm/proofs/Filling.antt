-- Loose pages are taken, filled from a segment, and given up.
use Rattle.std.proofs.Common.{◌≡◌, ℕ, zero, suc, ◌+◌, ◌-◌, ◌<◌, ◌≤◌, true, false, List, [], ◌∷◌, length, map, replicate, set, Option, Some, None, refl, sym, ap, subst, ◌∙◌, arith, inl, inr}
use Rattle.std.specs.Prelude.{IfSome, slice_get, option_map}
use Rattle.std.proofs.lemmas.Bool.{cases_eq}
use Rattle.std.proofs.lemmas.List.{length-map, length-replicate, length-set}
use Rattle.std.proofs.lemmas.List.Elements.{All-replicate}
use Rattle.std.proofs.lemmas.Option.{slice_get-get_or, slice_get-map, slice_get_within}
use Rattle.vm_ids.specs.Held.{Held, page_of, segments_in}
use Rattle.vm_model.proofs.Parts.Lists.{get_set_other, get_set_same}
use Rattle.gmi_calls.specs.Reaching.{ArePagesOf}
use Rattle.flat_mm.specs.Extents.{ArePulled, IsPulled}
use Rattle.flat_mm.specs.Manager.{IsKept}
use Rattle.flat_mm.specs.Store.{AreWhole, IsWhole, Page, Store, with_loose, zeros}

-- the loose pages may be others, as many as before
pub record IsReloosed (old now : Store) : Type 0 where
  pub many : length now.loose ≡ length old.loose
  pub loose : now ≡ with_loose now.loose old
  pub whole : AreWhole old → AreWhole now

-- and the first so many of them were pulled
pub record IsPulling (told : Option Held) (seg first filled : ℕ) (old now : Store) : Type 0 where
  pub pulled : (i : ℕ) (p : Page) → i < filled → slice_get now.loose i ≡ Some p → IsPulled told seg (first + i) p
  pub rest : IsReloosed old now

pub pulling_none : (told : Option Held) (seg first : ℕ) (s : Store) → IsPulling told seg first 0 s s
pulling_none told seg first s = record { pulled = λ i p less at. absurd (omega (arith, less)); rest = record { many = refl; loose = refl; whole = λ w. w } }

pub reloosed : (old now next : Store) (i : ℕ) (p : Page) → IsReloosed old now → next ≡ with_loose (set now.loose i p) now → AreWhole next → IsReloosed old next
reloosed old now next i p R is whole = record {
  many = ap (λ (s : Store). length s.loose) is ∙ length-set now.loose i p ∙ R.many;
  loose = is ∙ ap (with_loose (set now.loose i p)) R.loose ∙ ap (λ (ps : List Page). with_loose ps old) (sym (ap (λ (s : Store). s.loose) is));
  whole = λ w. whole;
}

pub pulling_more : (told : Option Held) (seg first i : ℕ) (old now next : Store) (w : List ℕ) → IsPulling told seg first i old now → i < length now.loose → next ≡ with_loose (set now.loose i (record { bytes = w; changed = false })) now → AreWhole next
    → IfSome told (λ h. page_of h seg (first + i) ≡ Some w) → IsPulling told seg first (i + 1) old next
pulling_more told seg first i old now next w N less is whole same = let new : Page = record { bytes = w; changed = false } in record {
  pulled = λ j q small at.
      let here : slice_get (set now.loose i new) j ≡ Some q = ap (λ (s : Store). slice_get s.loose j) (sym is) ∙ at in
      elim (cases_eq j i) [
        | inl one ↦ (
            let e : Some new ≡ Some q = sym (get_set_same now.loose i new less) ∙ ap (slice_get (set now.loose i new)) (sym one) ∙ here in
            let q_is : new ≡ q = cc e in
            subst (λ k. IsPulled told seg (first + k) q) (sym one) (subst (λ (x : Page). IsPulled told seg (first + i) x) q_is (record { unchanged = refl; same = same })))
        | inr other ↦ N.pulled j q (omega (arith, small, other)) (sym (get_set_other now.loose i j new other) ∙ here)
      ];
  rest = reloosed old now next i new N.rest is whole;
}

pub pulled_all : (told : Option Held) (seg first filled : ℕ) (old now : Store) → length now.loose ≤ filled → IsPulling told seg first filled old now → ArePulled told seg first now.loose
pulled_all told seg first filled old now past N = λ i p at. N.pulled i p (omega (arith, slice_get_within now.loose i p at, past)) at

-- what was pulled is kept
pub pulled_kept : (h : Held) (seg page : ℕ) (p : Page) → IsPulled (Some h) seg page p → IsKept (segments_in h) seg page p
pulled_kept h seg page p P = record { granted = λ e. absurd (let no : false ≡ true = sym P.unchanged ∙ e in cc no); same = λ e. P.same }

-- the bytes are those of the segment
pub pulled_bytes : (told : Option Held) (seg first : ℕ) (pages : List Page) → ArePulled told seg first pages → IfSome told (ArePagesOf seg first (map (λ (p : Page). p.bytes) pages))
pulled_bytes None seg first pages P = tt
pulled_bytes (Some h) seg first pages P = λ i less.
    let none : Page = record { bytes = []; changed = false } in
    let at = slice_get-get_or pages i none (omega (arith, less, length-map pages (λ (p : Page). p.bytes))) in
    slice_get-map (λ (p : Page). p.bytes) pages i ∙ ap (option_map (λ (p : Page). p.bytes)) at ∙ sym (P i (Rattle.std.proofs.Common.get_or pages i none) at).same

-- Frames for so many pages

abbrev pub roomed : Store → ℕ → Store
roomed s pages = record s { free = s.free - pages; loose = replicate pages (zeros s.page_bytes) }

-- they were taken and filled
module _ (s a b : Store) (pages : ℕ) (room : pages ≤ s.free) (settled : s.loose ≡ []) (taken : a ≡ roomed s pages) (R : IsReloosed a b) where
  pub filled_many : length b.loose ≡ pages
  filled_many = R.many ∙ ap (λ (x : Store). length x.loose) taken ∙ length-replicate pages (zeros s.page_bytes)

  pub filled : b ≡ record s { free = s.free - pages; loose = b.loose }
  filled = R.loose ∙ ap (with_loose b.loose) taken

  -- and given up again
  pub given_up : (c : Store) → c ≡ record b { free = b.free + length b.loose; loose = [] } → c ≡ s
  given_up c dropped =
      dropped ∙ ap (λ (x : Store). let y : Store = record x { free = x.free + length b.loose; loose = [] } in y) filled
      ∙ (λ i. let y : Store = record s { free = (let e : s.free - pages + length b.loose ≡ s.free = omega (arith, room, filled_many) in e) i; loose = sym settled i } in y)
