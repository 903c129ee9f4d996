-- A region that goes from the actor that has it goes from all.
use Rattle.std.proofs.Common.{◌≡◌, ◌==◌, ℕ, zero, suc, ◌+◌, ◌-◌, ◌≤◌, Bool, true, false, cond, not, List, [], ◌∷◌, set, map, Option, Some, None, refl, sym, ap, subst, ◌∙◌, arith}
use Rattle.std.specs.Prelude.{IsSome, is_some, option_map, slice_get}
use Rattle.std.specs.Option.{option_or}
use Rattle.vm_ids.specs.declared.numbers.ActorId.{ActorId}
use Rattle.vm_model.specs.Answering.{without_region}
use Rattle.vm_model.specs.Regions.{region_among, region_with}
use Rattle.vm_model.specs.Machine as model
use Rattle.vm_model.specs.Machine.{numbered}
use Rattle.vm_model.proofs.Parts.Lists.{at_number, numbered_place}
use Rattle.regions.specs.AddressSpace.{AddressSpace}
use Rattle.contexts.specs.Actors.{has_region}
use Rattle.contexts.specs.Layout.{IsChanged, IsKept, owner_of, regions_in}
use Rattle.contexts.proofs.Places.{Numbered, number_at}
use Rattle.contexts.proofs.Owners.{had_by}
use Rattle.contexts.proofs.Kept.{changed_seen}

miss : (c : Bool) (r : model.Region) (o : Option model.Region) → is_some (cond c (Some r) o) ≡ false → (c ≡ false) × (is_some o ≡ false)
miss true r o e = absurd (cc e)
miss false r o e = (refl, e)

keep : (c : Bool) (r : model.Region) (xs ys : model.Actor) → c ≡ false → ys ≡ xs → cond (not c) (r ∷ ys) ys ≡ r ∷ xs
keep true r xs ys e f = absurd (cc e)
keep false r xs ys e f = ap (λ (zs : model.Actor). r ∷ zs) f

without_none : (n : ℕ) (rs : model.Actor) → is_some (region_among n rs) ≡ false → without_region n rs ≡ rs
without_none n [] e = refl
without_none n (r ∷ rs) e =
    let parts = miss (r.number == n) r (region_among n rs) e in
    keep (r.number == n) r rs (without_region n rs) parts.0 (without_none n rs parts.1)

-- none of these actors has it, but for one
abbrev HaveNot : ℕ → List (Option model.Actor) → (ℕ → Type 0) → Type 0
HaveNot n xs but = (j : ℕ) (rs : model.Actor) → slice_get xs j ≡ Some (Some rs) → (but j → ⊥) → is_some (region_among n rs) ≡ false

stays_out : (n : ℕ) (o : Option model.Actor) → ((rs : model.Actor) → o ≡ Some rs → is_some (region_among n rs) ≡ false) → option_map (without_region n) o ≡ o
stays_out n None f = refl
stays_out n (Some rs) f = ap Some (without_none n rs (f rs refl))

none_go : (n : ℕ) (xs : List (Option model.Actor)) → HaveNot n xs (λ _. ⊥) → map (option_map (without_region n)) xs ≡ xs
none_go n [] f = refl
none_go n (x ∷ xs) f =
    let head = stays_out n x (λ rs e. f 0 rs (ap Some e) (λ off. off)) in
    let tail = none_go n xs (λ j rs e off. f (suc j) rs e off) in
    λ i. head i ∷ tail i

one_goes : (n : ℕ) (xs : List (Option model.Actor)) (i : ℕ) (rs : model.Actor) → slice_get xs i ≡ Some (Some rs) → HaveNot n xs (λ j. j ≡ i)
    → map (option_map (without_region n)) xs ≡ set xs i (Some (without_region n rs))
one_goes n [] i rs e f = absurd (cc e)
one_goes n (x ∷ xs) zero rs e f =
    let here : x ≡ Some rs = cc e in
    let tail = none_go n xs (λ j qs g off. f (suc j) qs g (λ same. absurd (omega (arith, same)))) in
    λ k. option_map (without_region n) (here k) ∷ tail k
one_goes n (x ∷ xs) (suc i) rs e f =
    let head = stays_out n x (λ qs g. f 0 qs (ap Some g) (λ same. absurd (omega (arith, same)))) in
    let tail = one_goes n xs i rs e (λ j qs g off. f (suc j) qs g (λ same. off (omega (arith, same)))) in
    λ k. head k ∷ tail k

left : (o p : Option model.Region) → is_some o ≡ true → is_some (option_or o p) ≡ true
left None p e = absurd (cc e)
left (Some r) p e = refl

right : (o p : Option model.Region) → is_some p ≡ true → is_some (option_or o p) ≡ true
right None p e = e
right (Some r) p e = refl

neither : (o p : Option model.Region) → is_some o ≡ false → is_some p ≡ false → is_some (option_or o p) ≡ false
neither None p e f = f
neither (Some r) p e f = absurd (cc e)

pub with_one : (n : ℕ) (xs : List (Option model.Actor)) (i : ℕ) (rs : model.Actor) → slice_get xs i ≡ Some (Some rs) → is_some (region_among n rs) ≡ true → is_some (region_with n xs) ≡ true
with_one n [] i rs e h = absurd (cc e)
with_one n (None ∷ xs) zero rs e h = absurd (cc e)
with_one n (Some qs ∷ xs) zero rs e h = let same : rs ≡ qs = cc e in left (region_among n qs) (region_with n xs) (subst (λ (ps : model.Actor). is_some (region_among n ps) ≡ true) same h)
with_one n (None ∷ xs) (suc i) rs e h = with_one n xs i rs e h
with_one n (Some qs ∷ xs) (suc i) rs e h = right (region_among n qs) (region_with n xs) (with_one n xs i rs e h)

pub with_none : (n : ℕ) (xs : List (Option model.Actor)) → HaveNot n xs (λ _. ⊥) → is_some (region_with n xs) ≡ false
with_none n [] f = refl
with_none n (None ∷ xs) f = with_none n xs (λ j rs e off. f (suc j) rs e off)
with_none n (Some rs ∷ xs) f = neither (region_among n rs) (region_with n xs) (f 0 rs refl (λ off. off)) (with_none n xs (λ j qs e off. f (suc j) qs e off))

pub not_at : (n : ℕ) (xs : List (Option model.Actor)) → ((a : ℕ) → has_region n (numbered xs a) ≡ false) → HaveNot n xs (λ _. ⊥)
not_at n xs none j rs e off = sym (ap (has_region n) (number_at xs j rs e)) ∙ none (j + 1)

alive_with : (n : ℕ) (o : Option model.Actor) → has_region n o ≡ true → (rs : model.Actor) × (o ≡ Some rs) × (is_some (region_among n rs) ≡ true)
alive_with n None h = absurd (cc h)
alive_with n (Some rs) h = (rs, refl, h)

pub with_actor : (n : ℕ) (xs : List (Option model.Actor)) (a : ℕ) → has_region n (numbered xs a) ≡ true → is_some (region_with n xs) ≡ true
with_actor n xs a h =
    let found = alive_with n (numbered xs a) h in
    with_one n xs (a - 1) found.0 (at_number xs a found.0 found.1) found.2

abbrev one_id : ℕ → ActorId
one_id n = record { 0 = n }

-- where one has it and it goes from that one, it goes from all
pub goes : (page : ℕ) (owners : List ActorId) (n a : ℕ) (xs ys : List (Option AddressSpace)) (e : IsChanged a (without_region n) xs ys) → Numbered (IsKept page owners) xs
    → has_region n (numbered (regions_in xs) a) ≡ true → regions_in ys ≡ map (option_map (without_region n)) (regions_in xs)
goes page owners n a xs ys e kept h =
    let found = alive_with n (numbered (regions_in xs) a) h in
    let some = (numbered_place (regions_in xs) a found.0 found.1).0 in
    let owner = had_by page owners xs kept n a h in
    changed_seen a (without_region n) xs ys e
    ∙ ap (λ (o : Option model.Actor). set (regions_in xs) (a - 1) (option_map (without_region n) o)) found.1
    ∙ sym (one_goes n (regions_in xs) (a - 1) found.0 (at_number (regions_in xs) a found.0 found.1) (λ j rs at off. apart owner some j rs at off (is_some (region_among n rs)) refl))
  where
    apart : owner_of owners n ≡ Some (record { 0 = a }) → 1 ≤ a → (j : ℕ) (rs : model.Actor) → slice_get (regions_in xs) j ≡ Some (Some rs) → (j ≡ a - 1 → ⊥) → (c : Bool) → is_some (region_among n rs) ≡ c → c ≡ false
    apart owner some j rs at off false k = refl
    apart owner some j rs at off true k =
        let other = had_by page owners xs kept n (j + 1) (ap (has_region n) (number_at (regions_in xs) j rs at) ∙ k) in
        let both = sym owner ∙ other in
        let ids : one_id a ≡ one_id (j + 1) = cc both in
        let same : a ≡ j + 1 = ap (λ (o : ActorId). o.0) ids in
        absurd (off (omega (arith, same)))
