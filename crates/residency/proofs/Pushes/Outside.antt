-- What a mapper holds after a push, of the slots and of the pages of segments.
use Rattle.std.proofs.Common.{◌≡◌, ◌≢◌, ℕ, Bool, cond, List, [], Option, Some, None, unwrap_or, slice_get, slice_set, ◌==◌, ◌⊎◌, false, refl, sym, ap, ◌∙◌, inl, inr, arith}
use Rattle.std.specs.Option.{IfSome, IsSome}
use Rattle.std.specs.Prelude.{is_some, option_map, option_and_then}
use Rattle.std.specs.FinMap.{get, get-insert}
use Rattle.std.specs.Cmp.{nat_cmp_total, unsigned_tied}
use Rattle.std.proofs.lemmas.Bool.{cases_eq}
use Rattle.std.proofs.lemmas.Option.{slice_get_past, slice_get_within}
use Rattle.vm_ids.specs.Denying.{denies}
use Rattle.vm_ids.specs.Held.{Held, slot_of, with_page, with_slot}
use Rattle.vm_ids.proofs.Places.{same_number, other_number}
use Rattle.vm_port.proofs.Finding.{get_set_other, get_set_same}
use Rattle.local_cache.specs.declared.home.Home.{Home}
use Rattle.residency.specs.World.{page_at}

-- a slot
pub pushed_here : (h : Held) (s : ℕ) (bytes : List ℕ) → slot_of (with_slot s bytes h) s ≡ Some bytes
pushed_here h s bytes = get-insert nat_cmp_total h.slots s bytes s ∙ ap (λ (b : Bool). cond b (Some bytes) (slot_of h s)) (unsigned_tied s s ∙ same_number s)

pub pushed_elsewhere : (h : Held) (s k : ℕ) (bytes : List ℕ) → k ≢ s → slot_of (with_slot s bytes h) k ≡ slot_of h k
pushed_elsewhere h s k bytes d = get-insert nat_cmp_total h.slots s bytes k ∙ ap (λ (b : Bool). cond b (Some bytes) (slot_of h k)) (unsigned_tied k s ∙ other_number k s d)

-- a page of a segment
abbrev pub put_at : Home → List ℕ → Held → Held
put_at home bytes h = with_page home.segment.0 home.page.0 bytes h

among : (o : Option (List (List ℕ))) (page : ℕ) → slice_get (unwrap_or o []) page ≡ option_and_then (λ pages. slice_get pages page) o
among None page = slice_get_past [] page (omega arith)
among (Some pages) page = refl

-- the pages of the segment after a push to it
pages_after : (h : Held) (home : Home) (bytes : List ℕ) (seg : ℕ) → seg ≡ home.segment.0
    → get (put_at home bytes h).segments seg ≡ Some (slice_set (unwrap_or (get h.segments home.segment.0) []) home.page.0 bytes)
pages_after h home bytes seg e =
    let pages : List (List ℕ) = slice_set (unwrap_or (get h.segments home.segment.0) []) home.page.0 bytes in
    get-insert nat_cmp_total h.segments home.segment.0 pages seg ∙ ap (λ (b : Bool). cond b (Some pages) (get h.segments seg)) (unsigned_tied seg home.segment.0 ∙ ap (λ (k : ℕ). k == home.segment.0) e ∙ same_number home.segment.0)

some_of : (o : Option (List ℕ)) → IsSome o → (x : List ℕ) × (o ≡ Some x)
some_of None h = absurd (cc)
some_of (Some x) h = (x, refl)

pub home_here : (h : Held) (home : Home) (bytes : List ℕ) → IsSome (page_at h home) → page_at (put_at home bytes h) home ≡ Some bytes
home_here h home bytes there =
    let pages : List (List ℕ) = unwrap_or (get h.segments home.segment.0) [] in
    let was = some_of (slice_get pages home.page.0) (ap is_some (among (get h.segments home.segment.0) home.page.0) ∙ there) in
    ap (λ (o : Option (List (List ℕ))). option_and_then (λ xs. slice_get xs home.page.0) o) (pages_after h home bytes home.segment.0 refl)
    ∙ sym (get_set_same pages home.page.0 bytes (slice_get_within pages home.page.0 was.0 was.1))

pub home_elsewhere : (h : Held) (home other : Home) (bytes : List ℕ) → other ≢ home → page_at (put_at home bytes h) other ≡ page_at h other
home_elsewhere h home other bytes d =
    let pages : List (List ℕ) = unwrap_or (get h.segments home.segment.0) [] in
    let after : List (List ℕ) = slice_set pages home.page.0 bytes in
    let read : Option (List (List ℕ)) → Option (List ℕ) = λ o. option_and_then (λ xs. slice_get xs other.page.0) o in
    elim (cases_eq other.segment.0 home.segment.0) [
      | inl e ↦ elim (cases_eq other.page.0 home.page.0) [
        | inl q ↦ absurd (d (λ i. record { segment = record { 0 = e i }; page = record { 0 = q i } }))
        | inr apart ↦ ap read (pages_after h home bytes other.segment.0 e)
            ∙ sym (get_set_other pages home.page.0 other.page.0 bytes (λ q. apart (sym q)))
            ∙ among (get h.segments home.segment.0) other.page.0 ∙ ap (λ (k : ℕ). read (get h.segments k)) (sym e)
      ]
      | inr apart ↦ ap read (get-insert nat_cmp_total h.segments home.segment.0 after other.segment.0
          ∙ ap (λ (b : Bool). cond b (Some after) (get h.segments other.segment.0)) (unsigned_tied other.segment.0 home.segment.0 ∙ other_number other.segment.0 home.segment.0 apart))
    ]

-- what is held there still, where the mapper tells
pub there_slot : (told : Option Held) (s : ℕ) (bytes : List ℕ) → IfSome (option_map (with_slot s bytes) told) (λ h. IsSome (slot_of h s))
there_slot None s bytes = tt
there_slot (Some h) s bytes = ap is_some (pushed_here h s bytes)

pub there_slots : (told : Option Held) (s k : ℕ) (bytes : List ℕ) → k ≢ s → IfSome told (λ h. IsSome (slot_of h k)) → IfSome (option_map (with_slot s bytes) told) (λ h. IsSome (slot_of h k))
there_slots None s k bytes d t = tt
there_slots (Some h) s k bytes d t = ap is_some (pushed_elsewhere h s k bytes d) ∙ t

pub slots_elsewhere : (told : Option Held) (s k : ℕ) (bytes : List ℕ) → k ≢ s → option_and_then (λ h. slot_of h k) (option_map (with_slot s bytes) told) ≡ option_and_then (λ h. slot_of h k) told
slots_elsewhere None s k bytes d = refl
slots_elsewhere (Some h) s k bytes d = pushed_elsewhere h s k bytes d

pub slot_told : (told : Option Held) (s : ℕ) (bytes : List ℕ) → option_and_then (λ h. slot_of h s) (option_map (with_slot s bytes) told) ≡ option_map (λ _. bytes) told
slot_told None s bytes = refl
slot_told (Some h) s bytes = pushed_here h s bytes

pub homes_elsewhere : (told : Option Held) (home other : Home) (bytes : List ℕ) → other ≢ home → option_and_then (λ h. page_at h other) (option_map (put_at home bytes) told) ≡ option_and_then (λ h. page_at h other) told
homes_elsewhere None home other bytes d = refl
homes_elsewhere (Some h) home other bytes d = home_elsewhere h home other bytes d

pub home_told : (told : Option Held) (home : Home) (bytes : List ℕ) → IfSome told (λ h. IsSome (page_at h home)) → option_and_then (λ h. page_at h home) (option_map (put_at home bytes) told) ≡ option_map (λ _. bytes) told
home_told None home bytes there = refl
home_told (Some h) home bytes there = home_here h home bytes there

home_cases : (a b : Home) → (a ≡ b) ⊎ (a ≢ b)
home_cases a b = elim (cases_eq a.segment.0 b.segment.0) [
  | inl e ↦ elim (cases_eq a.page.0 b.page.0) [
    | inl q ↦ inl (λ i. record { segment = record { 0 = e i }; page = record { 0 = q i } })
    | inr d ↦ inr (λ e. d (ap (λ (h : Home). h.page.0) e))
  ]
  | inr d ↦ inr (λ e. d (ap (λ (h : Home). h.segment.0) e))
]

pub there_homes : (told : Option Held) (home other : Home) (bytes : List ℕ) → IfSome told (λ h. IsSome (page_at h other)) → IfSome (option_map (put_at home bytes) told) (λ h. IsSome (page_at h other))
there_homes None home other bytes t = tt
there_homes (Some h) home other bytes t = elim (home_cases other home) [
  | inl e ↦ ap is_some (ap (page_at (put_at home bytes h)) e ∙ home_here h home bytes (ap (λ (o : Home). is_some (page_at h o)) (sym e) ∙ t))
  | inr d ↦ ap is_some (home_elsewhere h home other bytes d) ∙ t
]

-- a push of either kind leaves whether the mapper tells, and what it denies
pub same_told : (told : Option Held) (push : Held → Held) (x : List ℕ) → option_map (λ _. x) (option_map push told) ≡ option_map (λ _. x) told
same_told None push x = refl
same_told (Some h) push x = refl

pub same_denied : (told : Option Held) (push : Held → Held) → ((h : Held) → (push h).denied ≡ h.denied) → option_map (λ (h : Held). h.denied) (option_map push told) ≡ option_map (λ (h : Held). h.denied) told
same_denied None push e = refl
same_denied (Some h) push e = ap Some (e h)

pub none_denied : (told now : Option Held) (seg page : ℕ) → option_map (λ (h : Held). h.denied) now ≡ option_map (λ (h : Held). h.denied) told → IfSome told (λ h. denies h.denied seg page ≡ false) → IfSome now (λ h. denies h.denied seg page ≡ false)
none_denied told None seg page e t = tt
none_denied None (Some g) seg page e t = absurd (cc)
none_denied (Some h) (Some g) seg page e t =
    let same : g.denied ≡ h.denied = cc in
    ap (λ (d : List (ℕ × ℕ)). denies d seg page) same ∙ t
