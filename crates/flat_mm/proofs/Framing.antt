-- How page frames stand behind the pages of caches.
use Rattle.std.proofs.Common.{◌≡◌, ◌≢◌, ◌==◌, ℕ, zero, suc, ◌+◌, ◌-◌, ◌^◌, ◌<◌, ◌≤◌, Bool, true, false, cond, List, [], ◌∷◌, length, get_or, set, map, Option, Some, None, refl, sym, ap, subst, ◌∙◌, arith, inl, inr}
use Rattle.std.specs.Prelude.{◌||◌, IsSome, option_and_then, option_map, slice_get, sum_by}
use Rattle.std.specs.List.{All, list_any}
use Rattle.std.specs.Option.{option_map_or}
use Rattle.std.proofs.lemmas.Bool.{cases_eq}
use Rattle.std.proofs.lemmas.Bool.Decides.{nat_tests}
use Rattle.std.proofs.lemmas.List.{get_or-set_same, length-map, length-set}
use Rattle.std.proofs.lemmas.List.Elements.{All-cons, All-get_or, All-nil, All-set}
use Rattle.std.proofs.lemmas.List.Sums.{sum_by-cons}
use Rattle.std.proofs.lemmas.Option.{slice_get-map}
use Rattle.vm_ids.specs.declared.numbers.FrameId.{FrameId}
use Rattle.vm_ids.specs.declared.numbers.SegId.{SegId}
use Rattle.vm_model.specs.Machine.{numbered}
use Rattle.vm_model.proofs.Parts.Lists.{at_number, numbered-map, numbered_place, sum_by_part, sum_by_same}
use Rattle.std.proofs.lemmas.Grind.{common_steps}
use Rattle.frame_pool.specs.Lending.{refill}
use Rattle.frame_pool.specs.Pool.{Frames, bytes_of, is_held, with_bytes}
use Rattle.flat_mm.specs.Frames.{Framed, framed_at, is_framed_of, put_framed, with_framed}
use Rattle.flat_mm.specs.Store.{AreWhole, Cache, HasWholePages, IsWhole, Page, is_of, page_at, put_page, size_of, with_page}
use Rattle.flat_mm.specs.Layout.{AreFramesSound, IsFramed, cache_shown, caches_shown, free_frames, page_shown, page_total, pages_in, store_shown, times_used, uses}
use Rattle.flat_mm.specs.declared.framed.FramedPage.{FramedPage}

-- a page in this frame counts once
abbrev pub bit : ℕ → FramedPage → ℕ
bit g p = cond (p.frame.0 == g) 1 0

pub bit_same : (g : ℕ) (p : FramedPage) → p.frame.0 ≡ g → bit g p ≡ 1
bit_same g p e = let t : (p.frame.0 == g) ≡ true = grind (arith, nat_tests) in ap (λ (b : Bool). cond b 1 0) t

pub uses-cons : (g : ℕ) (p : FramedPage) (ps : List FramedPage) → uses g (p ∷ ps) ≡ bit g p + uses g ps
uses-cons g p ps = sum_by-cons (bit g) p ps

-- a page of a list is in its frame
pub uses_some : (ps : List FramedPage) (k : ℕ) (p : FramedPage) → slice_get ps k ≡ Some p → 1 ≤ uses p.frame.0 ps
uses_some ps k p e = omega (arith, sum_by_part (bit p.frame.0) ps k p e, bit_same p.frame.0 p refl)

-- Bytes of a frame change

module _ (f : Frames) (g : ℕ) (w : List ℕ) where
  abbrev after : Frames
  after = with_bytes f g w

  bytes_else : (i : ℕ) → i ≢ g → bytes_of after i ≡ bytes_of f i
  bytes_else i other = go f.bytes g i other
    where
      go : (xs : List (List ℕ)) (k j : ℕ) → j ≢ k → get_or (set xs k w) j [] ≡ get_or xs j []
      go [] k j h = refl
      go (x ∷ xs) zero zero h = absurd (h refl)
      go (x ∷ xs) zero (suc j) h = refl
      go (x ∷ xs) (suc k) zero h = refl
      go (x ∷ xs) (suc k) (suc j) h = go xs k j (λ e. h (ap suc e))

  -- pages that aren't in the frame
  pub shown_else : (ps : List FramedPage) → uses g ps ≡ 0 → map (page_shown after) ps ≡ map (page_shown f) ps
  shown_else [] none = refl
  shown_else (p ∷ ps) none = elim (cases_eq p.frame.0 g) [
    | inl same ↦ absurd (omega (arith, uses-cons g p ps, bit_same g p same, none))
    | inr other ↦ (λ i. record { bytes = bytes_else p.frame.0 other i; changed = p.changed } ∷ shown_else ps (omega (arith, uses-cons g p ps, none)) i)
  ]

  cache_else : (o : Option Framed) → uses g (pages_in o) ≡ 0 → option_map (cache_shown after) o ≡ option_map (cache_shown f) o
  cache_else None none = refl
  cache_else (Some c) none = ap (λ (ps : List Page). Some (let d : Cache = record { segment = c.segment; pages = ps } in d)) (shown_else c.pages none)

  abbrev pub cache_uses : Option Framed → ℕ
  cache_uses o = uses g (pages_in o)

  pub caches_else : (cs : List (Option Framed)) → sum_by cache_uses cs ≡ 0 → caches_shown after cs ≡ caches_shown f cs
  caches_else [] none = refl
  caches_else (o ∷ cs) none =
      let sum = sum_by-cons cache_uses o cs in
      (λ i. cache_else o (omega (arith, sum, none)) i ∷ caches_else cs (omega (arith, sum, none)) i)

  module _ (there : g < length f.bytes) (changed : Bool) where
    abbrev marked : FramedPage → FramedPage
    marked p = record { frame = p.frame; changed = changed }

    abbrev written : Page
    written = record { bytes = w; changed = changed }

    here : (p : FramedPage) → p.frame.0 ≡ g → page_shown after (marked p) ≡ written
    here p e = ap (λ (b : List ℕ). let x : Page = record { bytes = b; changed = changed } in x) (ap (bytes_of after) e ∙ get_or-set_same f.bytes g w [] there)

    -- one of these pages is in it, and no other
    pub pages_set : (ps : List FramedPage) (k : ℕ) (p : FramedPage) → slice_get ps k ≡ Some p → p.frame.0 ≡ g → uses g ps ≤ 1 → map (page_shown after) (set ps k (marked p)) ≡ set (map (page_shown f) ps) k written
    pages_set [] k p e is once = absurd (cc e)
    pages_set (x ∷ ps) zero p e is once =
        let same : x ≡ p = cc e in
        let one : bit g x ≡ 1 = ap (bit g) same ∙ bit_same g p is in
        (λ i. here p is i ∷ shown_else ps (omega (arith, uses-cons g x ps, one, once)) i)
    pages_set (x ∷ ps) (suc k) p e is once =
        let later : 1 ≤ uses g ps = subst (λ (n : ℕ). 1 ≤ uses n ps) is (uses_some ps k p e) in
        let none : bit g x ≡ 0 = omega (arith, uses-cons g x ps, later, once) in
        elim (cases_eq x.frame.0 g) [
          | inl same ↦ absurd (omega (arith, bit_same g x same, none))
          | inr other ↦ (λ i. record { bytes = bytes_else x.frame.0 other i; changed = x.changed } ∷ pages_set ps k p e is (omega (arith, uses-cons g x ps, none, once)) i)
        ]

    cache_uses_some : (cs : List (Option Framed)) (i k : ℕ) (c : Framed) (p : FramedPage) → slice_get cs i ≡ Some (Some c) → slice_get c.pages k ≡ Some p → p.frame.0 ≡ g → 1 ≤ sum_by cache_uses cs
    cache_uses_some cs i k c p at e is = omega (arith, sum_by_part cache_uses cs i (Some c) at, subst (λ (n : ℕ). 1 ≤ uses n c.pages) is (uses_some c.pages k p e))

    -- one of the pages of these caches is
    caches_set : (cs : List (Option Framed)) (i k : ℕ) (c : Framed) (p : FramedPage) → slice_get cs i ≡ Some (Some c) → slice_get c.pages k ≡ Some p → p.frame.0 ≡ g → sum_by cache_uses cs ≤ 1
        → caches_shown after (set cs i (Some (put_framed k (marked p) c))) ≡ set (caches_shown f cs) i (Some (put_page k written (cache_shown f c)))
    caches_set [] i k c p at e is once = absurd (cc at)
    caches_set (o ∷ cs) zero k c p at e is once =
        let same : o ≡ Some c = cc at in
        let sum = sum_by-cons cache_uses o cs in
        let one : 1 ≤ cache_uses o = subst (λ (x : Option Framed). 1 ≤ cache_uses x) (sym same) (subst (λ (n : ℕ). 1 ≤ uses n c.pages) is (uses_some c.pages k p e)) in
        let few : uses g c.pages ≤ 1 = omega (arith, sum, once, ap cache_uses same) in
        (λ j. Some (let d : Cache = record { segment = c.segment; pages = pages_set c.pages k p e is few j } in d) ∷ caches_else cs (omega (arith, sum, once, one)) j)
    caches_set (o ∷ cs) (suc i) k c p at e is once =
        let sum = sum_by-cons cache_uses o cs in
        let later = cache_uses_some cs i k c p at e is in
        (λ j. cache_else o (omega (arith, sum, once, later)) j ∷ caches_set cs i k c p at e is (omega (arith, sum, once)) j)

-- The page that is there

-- a page of a live cache, with its cache
pub record IsFramedAt (caches : List (Option Framed)) (n k : ℕ) (p : FramedPage) : Type 0 where
  pub cache : Framed
  pub alive : numbered caches n ≡ Some cache
  pub there : slice_get cache.pages k ≡ Some p

pub framed_there : (caches : List (Option Framed)) (n k : ℕ) (p : FramedPage) → framed_at caches n k ≡ Some p → IsFramedAt caches n k p
framed_there caches n k p = go (numbered caches n) refl
  where
    go : (o : Option Framed) → numbered caches n ≡ o → option_and_then (λ (c : Framed). slice_get c.pages k) o ≡ Some p → IsFramedAt caches n k p
    go None alive e = absurd (cc e)
    go (Some c) alive e = record { cache = c; alive = alive; there = e }

-- it is seen with the bytes of its frame
pub page_seen : (f : Frames) (caches : List (Option Framed)) (n k : ℕ) → page_at (caches_shown f caches) n k ≡ option_map (page_shown f) (framed_at caches n k)
page_seen f caches n k = ap (option_and_then (λ (c : Cache). slice_get c.pages k)) (numbered-map (cache_shown f) caches n) ∙ go (numbered caches n)
  where
    go : (o : Option Framed) → option_and_then (λ (c : Cache). slice_get c.pages k) (option_map (cache_shown f) o) ≡ option_map (page_shown f) (option_and_then (λ (c : Framed). slice_get c.pages k) o)
    go None = refl
    go (Some c) = slice_get-map (page_shown f) c.pages k

module _ (f : Frames) (caches : List (Option Framed)) (loose : List FramedPage) (S : IsFramed f caches loose) where
  -- what is used is held, and has its bytes
  held_if : (g : ℕ) (b : Bool) → is_held f g ≡ b → 1 ≤ times_used caches loose g → is_held f g ≡ true
  held_if g true e some = e
  held_if g false e some = absurd (omega (arith, some, S.used g, ap {B = ℕ} (λ (b : Bool). cond b 1 0) e))

  within_if : (xs : List Bool) (g : ℕ) → get_or xs g false ≡ true → g < length xs
  within_if [] g e = absurd (cc e)
  within_if (x ∷ xs) zero e = omega arith
  within_if (x ∷ xs) (suc g) e = omega (arith, within_if xs g e)

  pub used_held : (g : ℕ) → 1 ≤ times_used caches loose g → is_held f g ≡ true
  used_held g some = held_if g (is_held f g) refl some

  pub used_within : (g : ℕ) → 1 ≤ times_used caches loose g → g < length f.held
  used_within g some = within_if f.held g (used_held g some)

  module _ (n k : ℕ) (p : FramedPage) (at : IsFramedAt caches n k p) where
    place : slice_get caches (n - 1) ≡ Some (Some at.cache)
    place = at_number caches n at.cache at.alive

    in_caches : 1 ≤ sum_by (λ c. uses p.frame.0 (pages_in c)) caches
    in_caches = omega (arith, sum_by_part (λ c. uses p.frame.0 (pages_in c)) caches (n - 1) (Some at.cache) place, uses_some at.cache.pages k p at.there)

    pub frame_held : is_held f p.frame.0 ≡ true
    frame_held = used_held p.frame.0 (omega (arith, in_caches))

    pub frame_within : p.frame.0 < length f.held
    frame_within = used_within p.frame.0 (omega (arith, in_caches))

    pub once : times_used caches loose p.frame.0 ≡ 1
    once = S.used p.frame.0 ∙ ap {B = ℕ} (λ (b : Bool). cond b 1 0) frame_held

    module _ (w : List ℕ) (changed : Bool) where
      abbrev page : FramedPage
      page = record { frame = p.frame; changed = changed }

      -- the page is written
      pub written_seen : store_shown (with_bytes f p.frame.0 w) (with_framed caches n k page) loose ≡ with_page n k (record { bytes = w; changed = changed }) (store_shown f caches loose)
      written_seen =
          let seen = caches_set f p.frame.0 w (omega (arith, frame_within, S.frames.listed)) changed caches (n - 1) k at.cache p place at.there refl (omega (arith, once)) in
          let here = ap (λ (o : Option Framed). caches_shown (with_bytes f p.frame.0 w) (set caches (n - 1) (option_map (put_framed k page) o))) at.alive in
          let there = ap (λ (o : Option Cache). set (caches_shown f caches) (n - 1) (option_map (put_page k (record { bytes = w; changed = changed })) o)) (numbered-map (cache_shown f) caches n ∙ ap (option_map (cache_shown f)) at.alive) in
          (λ i. record (store_shown f caches loose) {
            caches = (here ∙ seen ∙ sym there) i;
            loose = shown_else f p.frame.0 w loose (omega (arith, once, in_caches)) i;
          })

      pub written_sound : length w ≡ f.page → IsFramed (with_bytes f p.frame.0 w) (with_framed caches n k page) loose
      written_sound full =
          let e : with_framed caches n k page ≡ set caches (n - 1) (Some (put_framed k page at.cache)) = ap (λ (o : Option Framed). set caches (n - 1) (option_map (put_framed k page) o)) at.alive in
          record {
            frames = record {
              few = S.frames.few;
              listed = omega (arith, S.frames.listed, length-set f.bytes p.frame.0 w);
              whole = All-set (λ b. length b ≡ f.page) f.bytes p.frame.0 w full S.frames.whole;
              unpinned = S.frames.unpinned;
            };
            used = λ g. ap (λ (cs : List (Option Framed)). times_used cs loose g) e
                ∙ ap (λ (m : ℕ). m + uses g loose) (sum_by_same (λ c. uses g (pages_in c)) caches (n - 1) (Some at.cache) (Some (put_framed k page at.cache)) place (sum_by_same (bit g) at.cache.pages k p page at.there refl))
                ∙ S.used g;
            counted = ap (λ (cs : List (Option Framed)). page_total cs loose + free_frames f) e
                ∙ ap (λ (m : ℕ). m + length loose + free_frames f) (sum_by_same (λ c. length (pages_in c)) caches (n - 1) (Some at.cache) (Some (put_framed k page at.cache)) place (length-set at.cache.pages k page))
                ∙ S.counted;
          }

-- Each page has all its bytes

module _ (f : Frames) (A : AreFramesSound f) where
  abbrev Reached : (ℕ → ℕ) → Type 0
  Reached uses = (g : ℕ) → 1 ≤ uses g → g < length f.held

  pages_whole : (ps : List FramedPage) → Reached (λ g. uses g ps) → All (IsWhole f.page) (map (page_shown f) ps)
  pages_whole [] within = All-nil (IsWhole f.page)
  pages_whole (p ∷ ps) within =
      let here : p.frame.0 < length f.bytes = omega (arith, A.listed, within p.frame.0 (omega (arith, uses-cons p.frame.0 p ps, bit_same p.frame.0 p refl))) in
      All-cons (IsWhole f.page) (page_shown f p) (map (page_shown f) ps) (All-get_or (λ b. length b ≡ f.page) f.bytes p.frame.0 [] here A.whole)
      (pages_whole ps (λ g some. within g (omega (arith, uses-cons g p ps, some))))

  cache_whole : (o : Option Framed) → Reached (λ g. uses g (pages_in o)) → HasWholePages f.page (option_map (cache_shown f) o)
  cache_whole None within = tt
  cache_whole (Some c) within = pages_whole c.pages within

  caches_whole : (cs : List (Option Framed)) → Reached (λ g. sum_by (λ c. uses g (pages_in c)) cs) → All (HasWholePages f.page) (caches_shown f cs)
  caches_whole [] within = All-nil (HasWholePages f.page)
  caches_whole (o ∷ cs) within =
      All-cons (HasWholePages f.page) (option_map (cache_shown f) o) (caches_shown f cs) (cache_whole o (λ g some. within g (omega (arith, sum_by-cons (λ c. uses g (pages_in c)) o cs, some))))
      (caches_whole cs (λ g some. within g (omega (arith, sum_by-cons (λ c. uses g (pages_in c)) o cs, some))))

pub whole_seen : (f : Frames) (caches : List (Option Framed)) (loose : List FramedPage) → IsFramed f caches loose → AreWhole (store_shown f caches loose)
whole_seen f caches loose S = record {
  caches = caches_whole f S.frames caches (λ g some. used_within f caches loose S g (omega (arith, some)));
  loose = pages_whole f S.frames loose (λ g some. used_within f caches loose S g (omega (arith, some)));
}

-- A page that was marked, and the bytes of its frame

-- What there is then, where the frame has these bytes.
pub record IsWritten (f g : Frames) (caches items : List (Option Framed)) (loose : List FramedPage) (n k : ℕ) (p : Page) : Type 0 where
  pub sound : IsFramed g items loose
  pub seen : store_shown g items loose ≡ with_page n k p (store_shown f caches loose)

module _ (f : Frames) (caches : List (Option Framed)) (loose : List FramedPage) (S : IsFramed f caches loose) (n k : ℕ) where
  -- the page whose frame was told
  pub told_page : (frame : FrameId) → option_map (λ (p : FramedPage). p.frame) (framed_at caches n k) ≡ Some frame → (p : FramedPage) × (framed_at caches n k ≡ Some p) × (p.frame ≡ frame)
  told_page frame = go (framed_at caches n k)
    where
      go : (o : Option FramedPage) → option_map (λ (p : FramedPage). p.frame) o ≡ Some frame → (p : FramedPage) × (o ≡ Some p) × (p.frame ≡ frame)
      go None e = absurd (cc e)
      go (Some p) e = (p, refl, (let same : p.frame ≡ frame = cc e in same))

  module _ (old : List (Option Framed)) (frame : FrameId) (before : old ≡ caches) (told : option_map (λ (p : FramedPage). p.frame) (framed_at old n k) ≡ Some frame) where
    pub told_there : (p : FramedPage) × (framed_at caches n k ≡ Some p) × (p.frame ≡ frame)
    told_there = told_page frame (subst (λ (cs : List (Option Framed)). option_map (λ (p : FramedPage). p.frame) (framed_at cs n k) ≡ Some frame) before told)

    pub marked_within : frame.0 < length f.held
    marked_within =
        let p = told_there in
        subst (λ (x : FrameId). x.0 < length f.held) p.2 (frame_within f caches loose S n k p.0 (framed_there caches n k p.0 p.1))

    pub marked_seen : (q : Page) → page_at (caches_shown f caches) n k ≡ Some q → q.bytes ≡ bytes_of f frame.0
    marked_seen q is =
        let p = told_there in
        let e : Some q ≡ Some (page_shown f p.0) = sym is ∙ page_seen f caches n k ∙ ap (option_map (page_shown f)) p.1 in
        let same : q ≡ page_shown f p.0 = cc e in
        ap (λ (x : Page). x.bytes) same ∙ ap (λ (x : FrameId). bytes_of f x.0) p.2

    pub wrote : (new items : List (Option Framed)) (changed : Bool) (g : Frames) (w : List ℕ) → new ≡ with_framed old n k (record { frame = frame; changed = changed }) → items ≡ new → g ≡ with_bytes f frame.0 w → length w ≡ f.page
        → IsWritten f g caches items loose n k (record { bytes = w; changed = changed })
    wrote new items changed g w marked is written full =
        let p = told_there in
        let at = framed_there caches n k p.0 p.1 in
        let page : FramedPage = record { frame = p.0.frame; changed = changed } in
        let now : items ≡ with_framed caches n k page = is ∙ marked ∙ ap (λ (cs : List (Option Framed)). with_framed cs n k (record { frame = frame; changed = changed })) before ∙ ap (λ (x : FrameId). with_framed caches n k (record { frame = x; changed = changed })) (sym p.2) in
        let bytes : g ≡ with_bytes f p.0.frame.0 w = written ∙ ap (λ (x : FrameId). with_bytes f x.0 w) (sym p.2) in
        record {
          sound = subst (λ (h : Frames). IsFramed h items loose) (sym bytes) (subst (λ (cs : List (Option Framed)). IsFramed (with_bytes f p.0.frame.0 w) cs loose) (sym now) (written_sound f caches loose S n k p.0 at w changed full));
          seen = ap (λ (h : Frames). store_shown h items loose) bytes ∙ ap (λ (cs : List (Option Framed)). store_shown (with_bytes f p.0.frame.0 w) cs loose) now ∙ written_seen f caches loose S n k p.0 at w changed;
        }

    -- where the bytes of the frame stay
    pub remarked : (new items : List (Option Framed)) (changed : Bool) → new ≡ with_framed old n k (record { frame = frame; changed = changed }) → items ≡ new
        → IsWritten f f caches items loose n k (record { bytes = bytes_of f frame.0; changed = changed })
    remarked new items changed marked is =
        let within : frame.0 < length f.bytes = omega (arith, marked_within, S.frames.listed) in
        wrote new items changed f (bytes_of f frame.0) marked is (ap (λ (bs : List (List ℕ)). record f { bytes = bs }) (sym (set_same f.bytes frame.0 within))) (All-get_or (λ b. length b ≡ f.page) f.bytes frame.0 [] within S.frames.whole)
      where
        set_same : (xs : List (List ℕ)) (i : ℕ) → i < length xs → set xs i (get_or xs i []) ≡ xs
        set_same [] i h = refl
        set_same (x ∷ xs) zero h = refl
        set_same (x ∷ xs) (suc i) h = ap (λ ys. x ∷ ys) (set_same xs i (omega (arith, h)))

-- A page that was looked up

module _ (f : Frames) (caches : List (Option Framed)) where
  pub found_seen : (n k : ℕ) (p : FramedPage) → framed_at caches n k ≡ Some p → (q : Page) → page_at (caches_shown f caches) n k ≡ Some q → q.bytes ≡ bytes_of f p.frame.0
  found_seen n k p at q is =
      let e : Some q ≡ Some (page_shown f p) = sym is ∙ page_seen f caches n k ∙ ap (option_map (page_shown f)) at in
      let same : q ≡ page_shown f p = cc e in
      ap (λ (x : Page). x.bytes) same

  pub size_seen : (n : ℕ) → option_map (λ (c : Cache). length c.pages) (numbered (caches_shown f caches) n) ≡ option_map (λ (c : Framed). length c.pages) (numbered caches n)
  size_seen n = ap (option_map (λ (c : Cache). length c.pages)) (numbered-map (cache_shown f) caches n) ∙ go (numbered caches n)
    where
      go : (o : Option Framed) → option_map (λ (c : Cache). length c.pages) (option_map (cache_shown f) o) ≡ option_map (λ (c : Framed). length c.pages) o
      go None = refl
      go (Some c) = ap (λ n. Some n) (length-map c.pages (page_shown f))

  module _ (loose : List FramedPage) (S : IsFramed f caches loose) where
    pub found_within : (n k : ℕ) (p : FramedPage) → framed_at caches n k ≡ Some p → p.frame.0 < length f.held
    found_within n k p at = frame_within f caches loose S n k p (framed_there caches n k p at)

    pub bytes_long : (n k : ℕ) (p : FramedPage) → framed_at caches n k ≡ Some p → length (bytes_of f p.frame.0) ≡ f.page
    bytes_long n k p at = All-get_or (λ b. length b ≡ f.page) f.bytes p.frame.0 [] (omega (arith, found_within n k p at, S.frames.listed)) S.frames.whole

    pub size_few : (n : ℕ) (c : Framed) → numbered caches n ≡ Some c → length c.pages ≤ 2 ^ 16
    size_few n c at = omega (arith, sum_by_part (λ o. length (pages_in o)) caches (n - 1) (Some c) (at_number caches n c at), S.counted, S.frames.few)

    -- Two pages are in two frames

    two_uses : (ps : List FramedPage) (i j : ℕ) (p q : FramedPage) → i ≢ j → slice_get ps i ≡ Some p → slice_get ps j ≡ Some q → p.frame.0 ≡ q.frame.0 → 2 ≤ uses q.frame.0 ps
    two_uses [] i j p q other a b same = absurd (cc a)
    two_uses (x ∷ ps) zero zero p q other a b same = absurd (other refl)
    two_uses (x ∷ ps) zero (suc j) p q other a b same =
        let is : x ≡ p = cc a in
        omega (arith, uses-cons q.frame.0 x ps, bit_same q.frame.0 x (ap (λ (y : FramedPage). y.frame.0) is ∙ same), uses_some ps j q b)
    two_uses (x ∷ ps) (suc i) zero p q other a b same =
        let is : x ≡ q = cc b in
        omega (arith, uses-cons q.frame.0 x ps, bit_same q.frame.0 x (ap (λ (y : FramedPage). y.frame.0) is), subst (λ (n : ℕ). 1 ≤ uses n ps) same (uses_some ps i p a))
    two_uses (x ∷ ps) (suc i) (suc j) p q other a b same = omega (arith, uses-cons q.frame.0 x ps, two_uses ps i j p q (λ e. other (ap suc e)) a b same)

    two_caches : (cs : List (Option Framed)) (i j k l : ℕ) (c d : Framed) (p q : FramedPage) → i ≢ j → slice_get cs i ≡ Some (Some c) → slice_get cs j ≡ Some (Some d) → slice_get c.pages k ≡ Some p → slice_get d.pages l ≡ Some q
        → p.frame.0 ≡ q.frame.0 → 2 ≤ sum_by (λ o. uses q.frame.0 (pages_in o)) cs
    two_caches [] i j k l c d p q other a b x y same = absurd (cc a)
    two_caches (o ∷ cs) zero zero k l c d p q other a b x y same = absurd (other refl)
    two_caches (o ∷ cs) zero (suc j) k l c d p q other a b x y same =
        let is : o ≡ Some c = cc a in
        let here : 1 ≤ uses q.frame.0 (pages_in o) = subst (λ (n : ℕ). 1 ≤ uses n (pages_in o)) same (subst (λ (z : Option Framed). 1 ≤ uses p.frame.0 (pages_in z)) (sym is) (uses_some c.pages k p x)) in
        omega (arith, sum_by-cons (λ o. uses q.frame.0 (pages_in o)) o cs, here, sum_by_part (λ o. uses q.frame.0 (pages_in o)) cs j (Some d) b, uses_some d.pages l q y)
    two_caches (o ∷ cs) (suc i) zero k l c d p q other a b x y same =
        let is : o ≡ Some d = cc b in
        let here : 1 ≤ uses q.frame.0 (pages_in o) = subst (λ (z : Option Framed). 1 ≤ uses q.frame.0 (pages_in z)) (sym is) (uses_some d.pages l q y) in
        omega (arith, sum_by-cons (λ o. uses q.frame.0 (pages_in o)) o cs, here, sum_by_part (λ o. uses q.frame.0 (pages_in o)) cs i (Some c) a, subst (λ (n : ℕ). 1 ≤ uses n c.pages) same (uses_some c.pages k p x))
    two_caches (o ∷ cs) (suc i) (suc j) k l c d p q other a b x y same = omega (arith, sum_by-cons (λ o. uses q.frame.0 (pages_in o)) o cs, two_caches cs i j k l c d p q (λ e. other (ap suc e)) a b x y same)

    pub apart_frames : (n k m l : ℕ) (p q : FramedPage) → framed_at caches n k ≡ Some p → framed_at caches m l ≡ Some q → (n ≡ m → k ≢ l) → p.frame.0 ≡ q.frame.0 → ⊥
    apart_frames n k m l p q a b apart same =
        let x = framed_there caches n k p a in
        let y = framed_there caches m l q b in
        let one = once f caches loose S m l q y in
        elim (cases_eq n m) [
          | inl e ↦ (
              let d : Some x.cache ≡ Some y.cache = sym x.alive ∙ ap (numbered caches) e ∙ y.alive in
              let c : x.cache ≡ y.cache = cc d in
              omega (arith, one, sum_by_part (λ o. uses q.frame.0 (pages_in o)) caches (m - 1) (Some y.cache) (at_number caches m y.cache y.alive), two_uses y.cache.pages k l p q (apart e) (subst (λ (z : Framed). slice_get z.pages k ≡ Some p) c x.there) y.there same))
          | inr other ↦ (
              let i = numbered_place caches n x.cache x.alive in
              let j = numbered_place caches m y.cache y.alive in
              omega (arith, one, two_caches caches (n - 1) (m - 1) k l x.cache y.cache p q (λ e. other (omega (arith, e, i.0, j.0))) i.1 j.1 x.there y.there same))
        ]

-- what is lent as a slice comes back as long
pub refilled : (old w : List ℕ) → length w ≡ length old → refill old w ≡ w
refilled old w same = grind (arith, common_steps)

-- a live cache is one of the frames' caches
pub alive_some : (f : Frames) (caches : List (Option Framed)) (n : ℕ) → IsSome (numbered (caches_shown f caches) n) → (c : Framed) × (numbered caches n ≡ Some c)
alive_some f caches n some = go (numbered caches n) refl (subst IsSome (numbered-map (cache_shown f) caches n) some)
  where
    go : (o : Option Framed) → numbered caches n ≡ o → IsSome (option_map (cache_shown f) o) → (c : Framed) × (numbered caches n ≡ Some c)
    go None e h = absurd (cc h)
    go (Some c) e h = (c, e)

pub size_some : (o : Option Cache) → 1 ≤ size_of o → IsSome o
size_some None h = absurd (omega (arith, h))
size_some (Some c) h = refl

pub no_loose : (f : Frames) (ps : List FramedPage) → map (page_shown f) ps ≡ [] → ps ≡ []
no_loose f [] e = refl
no_loose f (p ∷ ps) e = absurd (cc e)

-- whether a segment names one of the caches
pub any_seen : (f : Frames) (seg : SegId) (cs : List (Option Framed)) → list_any (is_of seg) (caches_shown f cs) ≡ list_any (is_framed_of seg) cs
any_seen f seg [] = refl
any_seen f seg (None ∷ cs) = any_seen f seg cs
any_seen f seg (Some c ∷ cs) = ap (λ b. option_map_or (λ (s : SegId). s.0 == seg.0) c.segment false || b) (any_seen f seg cs)
