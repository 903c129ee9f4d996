-- Each region of a living actor was made for that actor.
use Rattle.std.proofs.Common.{◌≡◌, ◌==◌, ℕ, ◌+◌, ◌-◌, Bool, true, false, cond, List, [], ◌∷◌, ◌++◌, length, Option, Some, None, refl, sym, ap, subst, ◌∙◌, arith, rules}
use Rattle.std.specs.Prelude.{MatchOption, is_some, nat_lt, option_map, slice_get}
use Rattle.std.specs.List.{All}
use Rattle.std.proofs.lemmas.Bool.Decides.{nat_tests}
use Rattle.std.proofs.lemmas.List.Elements.{All-cons, All-head, All-tail, All-weaker}
use Rattle.vm_ids.specs.declared.numbers.ActorId.{ActorId}
use Rattle.vm_model.specs.Answering.{insert_region}
use Rattle.vm_model.specs.Regions.{region_among}
use Rattle.vm_model.specs.Machine as model
use Rattle.vm_model.specs.Machine.{numbered}
use Rattle.vm_model.proofs.Parts.Lists.{numbered-map}
use Rattle.regions.specs.AddressSpace.{AddressSpace}
use Rattle.contexts.specs.Actors.{has_region}
use Rattle.contexts.specs.Layout.{IsKept, owner_of, regions_in}
use Rattle.contexts.proofs.Living.{regions_of}
use Rattle.contexts.proofs.Places.{Numbered, get_before, get_last}

pub owner_before : (owners : List ActorId) (a : ActorId) (region : ℕ) (x : ActorId) → owner_of owners region ≡ Some x → owner_of (owners ++ a ∷ []) region ≡ Some x
owner_before owners a region x e = go (region == 0) e
  where
    go : (zeroth : Bool) → cond zeroth None (slice_get owners (region - 1)) ≡ Some x → cond zeroth None (slice_get (owners ++ a ∷ []) (region - 1)) ≡ Some x
    go true f = f
    go false f = get_before owners (region - 1) x a f

pub owner_next : (owners : List ActorId) (a : ActorId) → owner_of (owners ++ a ∷ []) (length owners + 1) ≡ Some a
owner_next owners a =
    let other : (length owners + 1 == 0) ≡ false = grind (arith, nat_tests) in
    let place : length owners + 1 - 1 ≡ length owners = omega arith in
    ap (λ (c : Bool). cond c None (slice_get (owners ++ a ∷ []) (length owners + 1 - 1))) other ∙ ap (slice_get (owners ++ a ∷ [])) place ∙ get_last owners a

abbrev pub IsFor : List ActorId → ℕ → model.Region → Type 0
IsFor owners actor r = owner_of owners r.number ≡ Some (record { 0 = actor })

pub kept_before : (page : ℕ) (owners : List ActorId) (a : ActorId) (actor : ℕ) (s : AddressSpace) → IsKept page owners actor s → IsKept page (owners ++ a ∷ []) actor s
kept_before page owners a actor s k = record {
  page_bytes = k.page_bytes;
  owned = All-weaker (IsFor owners actor) (IsFor (owners ++ a ∷ []) actor) (λ r e. owner_before owners a r.number (record { 0 = actor }) e) s.regions k.owned;
  once = k.once;
}

insert_here : (P : model.Region → Type 0) (c : Bool) (r x : model.Region) (xs ys : model.Actor) → P r → P x → All P xs → All P ys → All P (cond c (r ∷ x ∷ xs) (x ∷ ys))
insert_here P true r x xs ys p q h k = All-cons P r (x ∷ xs) p (All-cons P x xs q h)
insert_here P false r x xs ys p q h k = All-cons P x ys q k

pub all_insert : (P : model.Region → Type 0) (r : model.Region) (rs : model.Actor) → P r → All P rs → All P (insert_region r rs)
all_insert P r [] p h = All-cons P r [] p h
all_insert P r (x ∷ xs) p h = insert_here P (nat_lt r.start x.start) r x xs (insert_region r xs) p (All-head P x xs h) (All-tail P x xs h) (all_insert P r xs p (All-tail P x xs h))

-- Who has a region

same_number : (a b : ℕ) → (a == b) ≡ true → a ≡ b
same_number a b e = grind (arith, nat_tests)

owner_here : (owners : List ActorId) (actor region : ℕ) (c : Bool) (r : model.Region) (rs : List model.Region) → (r.number == region) ≡ c → IsFor owners actor r
    → is_some (cond c (Some r) (region_among region rs)) ≡ true → (is_some (region_among region rs) ≡ true → owner_of owners region ≡ Some (record { 0 = actor }))
    → owner_of owners region ≡ Some (record { 0 = actor })
owner_here owners actor region true r rs e for h next = subst (λ (n : ℕ). owner_of owners n ≡ Some (record { 0 = actor })) (same_number r.number region e) for
owner_here owners actor region false r rs e for h next = next h

owned : (owners : List ActorId) (actor region : ℕ) (rs : List model.Region) → All (IsFor owners actor) rs → is_some (region_among region rs) ≡ true
    → owner_of owners region ≡ Some (record { 0 = actor })
owned owners actor region [] all h = absurd (search rules)
owned owners actor region (r ∷ rs) all h =
    owner_here owners actor region (r.number == region) r rs refl (All-head (IsFor owners actor) r rs all) h
    (λ more. owned owners actor region rs (All-tail (IsFor owners actor) r rs all) more)

module _ (page : ℕ) (owners : List ActorId) (xs : List (Option AddressSpace)) (kept : Numbered (IsKept page owners) xs) (region : ℕ) where
  has_of : (o : Option AddressSpace) (actor : ℕ) → numbered xs actor ≡ o → has_region region (option_map regions_of o) ≡ true → owner_of owners region ≡ Some (record { 0 = actor })
  has_of None actor e h = absurd (cc h)
  has_of (Some s) actor e h = owned owners actor region s.regions (kept actor s e).owned h

  -- the region of an actor was made for it
  pub had_by : (actor : ℕ) → has_region region (numbered (regions_in xs) actor) ≡ true → owner_of owners region ≡ Some (record { 0 = actor })
  had_by actor h = has_of (numbered xs actor) actor refl (ap (has_region region) (sym (numbered-map regions_of xs actor)) ∙ h)

  -- where the actor for which it was made hasn't it, none has it
  pub nobody : (o : Option ActorId) → owner_of owners region ≡ o → MatchOption o (Unit {0}) (λ w. has_region region (numbered (regions_in xs) w.0) ≡ false)
      → (actor : ℕ) → has_region region (numbered (regions_in xs) actor) ≡ false
  nobody o e none actor = go (has_region region (numbered (regions_in xs) actor)) refl
    where
      go : (c : Bool) → has_region region (numbered (regions_in xs) actor) ≡ c → c ≡ false
      go false h = refl
      go true h = subst (λ (p : Option ActorId). MatchOption p (Unit {0}) (λ w. has_region region (numbered (regions_in xs) w.0) ≡ false) → true ≡ false) (sym (had_by actor h) ∙ e) (λ f. sym h ∙ f) none

-- The answer to who has a region

pub among_of : {T : Type 0} (o : Option model.Region) (f : model.Region → T) → None ≡ option_map f o → is_some o ≡ false
among_of None f e = refl
among_of (Some r) f e = absurd (cc e)
