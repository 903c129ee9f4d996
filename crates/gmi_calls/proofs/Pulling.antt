-- Pages are filled from a segment, one after the other.
use Rattle.std.proofs.Common.{◌≡◌, ℕ, ◌+◌, ◌<◌, ◌≤◌, List, length, map, set, get_or, Vec, Global, Option, Some, None, sym, ap, subst, ◌∙◌, arith, inl, inr}
use Rattle.std.specs.Prelude.{All, IfSome, IsSome, slice_get, option_map}
use Rattle.std.proofs.lemmas.Bool.{cases_eq}
use Rattle.std.proofs.lemmas.List.{length-map}
use Rattle.std.proofs.lemmas.List.Elements.{All-set, All-get_or}
use Rattle.std.proofs.lemmas.Option.{slice_get-map}
use Rattle.vm_ids.specs.Held.{Held, page_of}
use Rattle.vm_model.proofs.Parts.Lists.{get_set_same, get_set_other}
use Rattle.gmi_calls.specs.Reaching.{ArePagesOf, HasPages}

-- The first so many of the pages are the segment's, and each has as many bytes as before.
pub record IsFilled (told : Option Held) (seg first filled : ℕ) (old pages : List (Vec ℕ Global)) : Type 0 where
  pub pulled : IfSome told (λ h. (i : ℕ) → i < filled → slice_get (map (λ p. p.items) pages) i ≡ page_of h seg (first + i))
  pub whole : (bytes : ℕ) → All (λ p. length p.items ≡ bytes) old → All (λ p. length p.items ≡ bytes) pages

module _ (told : Option Held) (seg first : ℕ) (old : List (Vec ℕ Global)) where
  none_pulled : (o : Option Held) → IfSome o (λ h. (i : ℕ) → i < 0 → slice_get (map (λ (p : Vec ℕ Global). p.items) old) i ≡ page_of h seg (first + i))
  none_pulled None = tt
  none_pulled (Some h) = λ i less. absurd (omega (arith, less))

  pub filled_none : IsFilled told seg first 0 old old
  filled_none = record { pulled = none_pulled told; whole = λ bytes h. h }

  -- what is put in place of a page has as many bytes
  pub put_whole : (filled : ℕ) (pages : List (Vec ℕ Global)) (d v : Vec ℕ Global) → IsFilled told seg first filled old pages → filled < length pages → length v.items ≡ length (get_or pages filled d).items
      → (bytes : ℕ) → All (λ p. length p.items ≡ bytes) old → All (λ p. length p.items ≡ bytes) (set pages filled v)
  put_whole filled pages d v F less same bytes h =
      let P : Vec ℕ Global → Type 0 = λ p. length p.items ≡ bytes in
      All-set P pages filled v (same ∙ All-get_or P pages filled d less (F.whole bytes h)) (F.whole bytes h)

  more_pulled : (o : Option Held) (filled : ℕ) (pages : List (Vec ℕ Global)) (v : Vec ℕ Global) → filled < length pages
      → IfSome o (λ h. (i : ℕ) → i < filled → slice_get (map (λ (p : Vec ℕ Global). p.items) pages) i ≡ page_of h seg (first + i))
      → IfSome o (λ h. page_of h seg (first + filled) ≡ Some v.items)
      → IfSome o (λ h. (i : ℕ) → i < filled + 1 → slice_get (map (λ (p : Vec ℕ Global). p.items) (set pages filled v)) i ≡ page_of h seg (first + i))
  more_pulled None filled pages v less before new = tt
  more_pulled (Some h) filled pages v less before new = λ i small. elim (cases_eq i filled) [
    | inl same ↦
        slice_get-map (λ (p : Vec ℕ Global). p.items) (set pages filled v) i
        ∙ ap (option_map (λ (p : Vec ℕ Global). p.items)) (ap (slice_get (set pages filled v)) same ∙ get_set_same pages filled v less)
        ∙ sym (ap (λ (k : ℕ). page_of h seg (first + k)) same ∙ new)
    | inr other ↦
        slice_get-map (λ (p : Vec ℕ Global). p.items) (set pages filled v) i
        ∙ ap (option_map (λ (p : Vec ℕ Global). p.items)) (get_set_other pages filled i v other)
        ∙ sym (slice_get-map (λ (p : Vec ℕ Global). p.items) pages i)
        ∙ before i (omega (arith, small, other))
  ]

  pub filled_more : (filled : ℕ) (pages : List (Vec ℕ Global)) (d v : Vec ℕ Global) → IsFilled told seg first filled old pages → filled < length pages → length v.items ≡ length (get_or pages filled d).items
      → IfSome told (λ h. page_of h seg (first + filled) ≡ Some v.items) → IsFilled told seg first (filled + 1) old (set pages filled v)
  filled_more filled pages d v F less same new = record {
    pulled = more_pulled told filled pages v less F.pulled new;
    whole = put_whole filled pages d v F less same;
  }

-- all are filled
pub all_filled : (told : Option Held) (seg first filled : ℕ) (old pages : List (Vec ℕ Global)) → length pages ≤ filled → IsFilled told seg first filled old pages → IfSome told (ArePagesOf seg first (map (λ p. p.items) pages))
all_filled None seg first filled old pages past F = tt
all_filled (Some h) seg first filled old pages past F = λ i less. F.pulled i (omega (arith, less, past, length-map pages (λ (p : Vec ℕ Global). p.items)))

-- a page of a range is there
pub page_there : (told now : Option Held) (seg first pages page : ℕ) → now ≡ told → IfSome told (HasPages seg first pages) → first ≤ page → page < first + pages → IfSome now (λ h. IsSome (page_of h seg page))
page_there told None seg first pages page same has from below = tt
page_there None (Some h) seg first pages page same has from below = absurd (cc same)
page_there (Some k) (Some h) seg first pages page same has from below = subst (λ (h : Held). IsSome (page_of h seg page)) (let e : k ≡ h = cc same in e) (has page from below)

-- a page that is to be filled has the mapper's page size
pub page_room : (told now : Option ℕ) (pages old : List (Vec ℕ Global)) (i : ℕ) (d : Vec ℕ Global) → now ≡ told → IfSome told (λ n. All (λ p. length p.items ≡ n) old)
    → ((bytes : ℕ) → All (λ p. length p.items ≡ bytes) old → All (λ p. length p.items ≡ bytes) pages) → i < length pages → IfSome now (λ n. length (get_or pages i d).items ≡ n)
page_room told None pages old i d same room whole less = tt
page_room None (Some n) pages old i d same room whole less = absurd (cc same)
page_room (Some k) (Some n) pages old i d same room whole less = let e : n ≡ k = cc same in All-get_or (λ p. length p.items ≡ k) pages i d less (whole k room) ∙ sym e
