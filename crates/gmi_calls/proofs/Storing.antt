-- A store to a named cache, where the mapper lets the page be written.
use Rattle.std.proofs.Common.{◌≡◌, ℕ, ◌<◌, Bool, true, false, [], ◌∷◌, Option, Some, None, refl, sym, ap, subst, ◌∙◌, arith}
use Rattle.std.specs.Prelude.{IfSome, IsOkAnd, IsSome, IsSomeAnd, Result, Ok, Err, not, option_map}
use Rattle.std.specs.FinMap.{empty}
use Rattle.std.specs.Option.{option_map_or}
use Rattle.vm_ids.specs.Denying.{denies}
use Rattle.vm_ids.specs.Held.{Held, Segments, segments_in}
use Rattle.vm_ids.specs.declared.numbers.PageNo.{PageNo}
use Rattle.vm_ids.specs.declared.numbers.SegId.{SegId}
use Rattle.vm_ids.specs.declared.refusal.Refusal.{Refusal}
use Rattle.vm_model.specs.Machine.{Machine, cache_of, pages_in, segment_of}
use Rattle.vm_model.specs.Place.{Place, place}
use Rattle.vm_model.specs.Allowed.{is_denied_place, numbers_of, segment_place}
use Rattle.vm_model.specs.Outcome.{IsAccessed, IsNamed, IsNamedAccess}
use Rattle.vm_model.proofs.Parts.Naming.{segment_names}
use Rattle.gmi_calls.specs.Backing.{IsReady}
use Rattle.gmi_calls.specs.Reaching.{HasPages}
use Rattle.gmi_calls.proofs.Accessing.{allows, asked_pages, denies_that, segments_for}
use Rattle.gmi_calls.proofs.Asking.{denied_is, granted_is}

-- What is known of the place of a store.
pub record IsStored (m : Machine) (actor address bytes : ℕ) (page : Option (SegId × PageNo)) : Type 0 where
  pub at : Place
  pub is : place m actor address bytes ≡ Ok at
  pub segment : option_map numbers_of page ≡ segment_place m at
  pub there : at.page < pages_in (cache_of m at.region.cache)

pub stored : (m : Machine) (actor address bytes : ℕ) (page : Option (SegId × PageNo)) → IsOkAnd (place m actor address bytes) (λ at. option_map numbers_of page ≡ segment_place m at)
    → IsOkAnd (place m actor address bytes) (λ at. at.page < pages_in (cache_of m at.region.cache)) → IsStored m actor address bytes page
stored m actor address bytes page segment there = go (place m actor address bytes) refl segment there
  where
    go : (r : Result Place Refusal) → place m actor address bytes ≡ r → IsOkAnd r (λ at. option_map numbers_of page ≡ segment_place m at) → IsOkAnd r (λ at. at.page < pages_in (cache_of m at.region.cache)) → IsStored m actor address bytes page
    go (Ok at) e s t = record { at = at; is = e; segment = s; there = t }
    go (Err r) e s t = absurd s

-- the segment that names its cache, and its page
in_segment : (o : Option ℕ) (x : ℕ × ℕ) (q : ℕ) → Some x ≡ option_map (λ s. (s, q)) o → (o ≡ Some x.0) × (x.1 ≡ q)
in_segment None x q e = absurd (cc e)
in_segment (Some s) x q e =
    let y : ℕ × ℕ = (s, q) in
    let f : x ≡ y = cc e in
    (ap (λ (z : ℕ × ℕ). Some z.0) (sym f), ap (λ (z : ℕ × ℕ). z.1) f)

in_none : (o : Option ℕ) (q : ℕ) → ◌≡◌ {A = Option (ℕ × ℕ)} None (option_map (λ s. (s, q)) o) → o ≡ None
in_none None q e = refl
in_none (Some s) q e = absurd (cc e)

module _ (m : Machine) (actor address bytes : ℕ) where
  -- whether the place is denied, as of its segment
  denied_place : (h : Segments) (at : Place) (o : Option ℕ) → place m actor address bytes ≡ Ok at → segment_of m at.region.cache ≡ o → is_denied_place m h (place m actor address bytes) ≡ option_map_or (λ seg. denies h.denied seg at.page) o false
  denied_place h at o is e = ap (is_denied_place m h) is ∙ ap (λ (x : Option ℕ). option_map_or (λ seg. denies h.denied seg at.page) x false) e

  -- the page that is asked for is one of the segment's
  pub stored_there : (page : Option (SegId × PageNo)) (told : Option Held) → IsStored m actor address bytes page → IsReady m told → IfSome page (λ p. IfSome told (HasPages p.0.0 p.1.0 1))
  stored_there None told S R = tt
  stored_there (Some p) told S R =
      let i = in_segment (segment_of m S.at.region.cache) (numbers_of p) S.at.page S.segment in
      asked_pages m S.at.region.cache p.0.0 p.1.0 1 told i.0 (omega (arith, S.there, i.1)) R

  -- it may be written
  pub stored_allowed : (page : Option (SegId × PageNo)) (told : Option Held) (may : Bool) → may ≡ true → IsStored m actor address bytes page → IfSome page (λ p. IfSome told (λ h. may ≡ not (denies h.denied p.0.0 p.1.0)))
      → is_denied_place m (segments_for told) (place m actor address bytes) ≡ false
  stored_allowed None told may t S answer = denied_place (segments_for told) S.at None S.is (in_none (segment_of m S.at.region.cache) S.at.page S.segment)
  stored_allowed (Some p) None may t S answer = denied_place (segments_for None) S.at (segment_of m S.at.region.cache) S.is refl ∙ allows (segment_of m S.at.region.cache) S.at.page
  stored_allowed (Some p) (Some h) may t S answer =
      let i = in_segment (segment_of m S.at.region.cache) (numbers_of p) S.at.page S.segment in
      denied_place (segments_in h) S.at (Some p.0.0) S.is i.0
      ∙ ap (denies h.denied p.0.0) (sym i.1)
      ∙ granted_is may (denies h.denied p.0.0 p.1.0) t answer

  -- it is denied
  pub stored_denied : (page : Option (SegId × PageNo)) (told : Option Held) (may : Bool) → may ≡ false → IsStored m actor address bytes page → (may ≡ false → IsSome page) → IfSome page (λ p. IfSome told (λ h. may ≡ not (denies h.denied p.0.0 p.1.0)))
      → (s : Segments) × (IfSome told (λ h. s ≡ segments_in h)) × (is_denied_place m s (place m actor address bytes) ≡ true)
  stored_denied None told may f S some answer = absurd (cc (some f))
  stored_denied (Some p) None may f S some answer =
      let i = in_segment (segment_of m S.at.region.cache) (numbers_of p) S.at.page S.segment in
      let s : Segments = record { pages = empty; denied = (p.0.0, p.1.0) ∷ [] } in
      (s, tt, denied_place s S.at (Some p.0.0) S.is i.0 ∙ ap (denies s.denied p.0.0) (sym i.1) ∙ denies_that p.0.0 p.1.0)
  stored_denied (Some p) (Some h) may f S some answer =
      let i = in_segment (segment_of m S.at.region.cache) (numbers_of p) S.at.page S.segment in
      (segments_in h, refl, denied_place (segments_in h) S.at (Some p.0.0) S.is i.0 ∙ ap (denies h.denied p.0.0) (sym i.1) ∙ denied_is may (denies h.denied p.0.0 p.1.0) f answer)

  -- the mapper fails at it
  pub stored_fault : (page : Option (SegId × PageNo)) (p : PageNo) → IsStored m actor address bytes page → IsSomeAnd page (λ x. x.1 ≡ p) → IsAccessed m actor address bytes p.0 × IsNamedAccess m actor address bytes
  stored_fault None p S same = absurd same
  stored_fault (Some x) p S same =
      let i = in_segment (segment_of m S.at.region.cache) (numbers_of x) S.at.page S.segment in (
        subst (λ (r : Result Place Refusal). IsOkAnd r (λ (at : Place). at.page ≡ p.0)) (sym S.is) (sym i.1 ∙ ap (λ (q : PageNo). q.0) same),
        subst (λ (r : Result Place Refusal). IsOkAnd r (λ (at : Place). IsNamed m at.region.cache)) (sym S.is) (segment_names m S.at.region.cache x.0.0 i.0),
      )
