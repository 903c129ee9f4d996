-- What is told of the region with a number, and what becomes of it.
use Rattle.std.proofs.Common.{◌≡◌, ℕ, suc, ◌+◌, ◌-◌, ◌*◌, ◌<◌, ◌≤◌, Bool, true, false, cond, List, [], ◌∷◌, set, Option, Some, None, refl, sym, ap, subst, ◌∙◌, arith}
use Rattle.std.specs.Prelude.{IsSome, IsSomeAnd, MatchOption, is_some, nat_le, option_map, slice_get}
use Rattle.std.specs.Option.{option_or}
use Rattle.std.proofs.lemmas.Bool.Decides.{nat_tests}
use Rattle.vm_ids.specs.declared.numbers.ActorId.{ActorId}
use Rattle.vm_ids.specs.declared.refusal.Refusal.TheVariants.{BadAddress, NoRegion, TooMany}
use Rattle.vm_ids.specs.declared.reply.RegionStatus.{RegionStatus}
use Rattle.vm_model.specs.Machine as model
use Rattle.vm_model.specs.Machine.{numbered}
use Rattle.vm_model.specs.Regions.{region_among, region_with, replace_in, replace_region, status_in, status_with}
use Rattle.vm_model.specs.declared.limits.TheConstants.{MOST_MADE}
use Rattle.vm_model.proofs.Parts.Lists.{is_there, numbered-map}
use Rattle.regions.specs.AddressSpace.{AddressSpace, view_of}
use Rattle.regions.specs.declared.region.RegionView.{RegionView}
use Rattle.contexts.specs.Actors.{Actors, cut_refusal, has_region, split_refusal}
use Rattle.contexts.specs.Layout.{IsChanged, IsKept, owner_of, regions_in}
use Rattle.contexts.proofs.Living.{regions_of}
use Rattle.contexts.proofs.Places.{Numbered, number_at}
use Rattle.contexts.proofs.Owners.{had_by, nobody}
use Rattle.contexts.proofs.Kept.{alive_in, changed_seen}
use Rattle.contexts.proofs.Gone.{not_at, with_actor, with_none}

-- something is told where some actor has the region
pub told_some : (n first : ℕ) (xs : List (Option model.Actor)) → is_some (status_with n first xs) ≡ is_some (region_with n xs)
told_some n first [] = refl
told_some n first (None ∷ xs) = told_some n (first + 1) xs
told_some n first (Some rs ∷ xs) = go (region_among n rs) (told_some n (first + 1) xs)
  where
    go : (o : Option model.Region) → is_some (status_with n (first + 1) xs) ≡ is_some (region_with n xs)
        → is_some (option_or (option_map (status_in first) o) (status_with n (first + 1) xs)) ≡ is_some (option_or o (region_with n xs))
    go None rest = rest
    go (Some r) rest = refl

pub none_is : {A : Type 0} (o : Option A) → is_some o ≡ false → o ≡ None
none_is None e = refl
none_is (Some x) e = absurd (cc e)

-- where no actor has it, nothing is told
pub untold : (n : ℕ) (xs : List (Option model.Actor)) → ((a : ℕ) → has_region n (numbered xs a) ≡ false) → status_with n 1 xs ≡ None
untold n xs none = none_is (status_with n 1 xs) (told_some n 1 xs ∙ with_none n xs (not_at n xs none))

-- This is told of the region of the first actor that has it, which stands at this place. It is the
-- one that is found and that becomes others.
pub record IsTold (n first : ℕ) (xs : List (Option model.Actor)) (s : RegionStatus) : Type 0 where
  pub place : ℕ
  pub regions : model.Actor
  pub region : model.Region
  pub here : slice_get xs place ≡ Some (Some regions)
  pub there : region_among n regions ≡ Some region
  pub told : s ≡ status_in (first + place) region
  pub found : region_with n xs ≡ Some region
  pub becomes : (by : model.Region → List model.Region) → replace_in n by xs ≡ set xs place (Some (replace_region n by regions))

behind : (n first : ℕ) (x : Option model.Actor) (xs : List (Option model.Actor)) (s : RegionStatus) → region_with n (x ∷ xs) ≡ region_with n xs
    → ((by : model.Region → List model.Region) → replace_in n by (x ∷ xs) ≡ x ∷ replace_in n by xs) → IsTold n (first + 1) xs s → IsTold n first (x ∷ xs) s
behind n first x xs s same goes_on t = record {
  place = suc t.place;
  regions = t.regions;
  region = t.region;
  here = t.here;
  there = t.there;
  told = t.told ∙ ap (λ (k : ℕ). status_in k t.region) (omega arith);
  found = same ∙ t.found;
  becomes = λ by. goes_on by ∙ ap (λ (ys : List (Option model.Actor)). x ∷ ys) (t.becomes by);
}

pub is_told : (n first : ℕ) (xs : List (Option model.Actor)) (s : RegionStatus) → status_with n first xs ≡ Some s → IsTold n first xs s
is_told n first [] s e = absurd (cc e)
is_told n first (None ∷ xs) s e = behind n first None xs s refl (λ by. refl) (is_told n (first + 1) xs s e)
is_told n first (Some rs ∷ xs) s e = go (region_among n rs) refl e (λ f. is_told n (first + 1) xs s f)
  where
    changes : (by : model.Region → List model.Region) (o : Option model.Region) → region_among n rs ≡ o
        → replace_in n by (Some rs ∷ xs) ≡ cond (is_some o) (Some (replace_region n by rs) ∷ xs) (Some rs ∷ replace_in n by xs)
    changes by o among = ap (λ (p : Option model.Region). cond (is_some p) (Some (replace_region n by rs) ∷ xs) (Some rs ∷ replace_in n by xs)) among

    go : (o : Option model.Region) → region_among n rs ≡ o → option_or (option_map (status_in first) o) (status_with n (first + 1) xs) ≡ Some s
        → (status_with n (first + 1) xs ≡ Some s → IsTold n (first + 1) xs s) → IsTold n first (Some rs ∷ xs) s
    go None among f rest =
        behind n first (Some rs) xs s (ap (λ (p : Option model.Region). option_or p (region_with n xs)) among) (λ by. changes by None among) (rest f)
    go (Some r) among f rest =
        let same : status_in first r ≡ s = cc f in
        record {
          place = 0;
          regions = rs;
          region = r;
          here = refl;
          there = among;
          told = sym same ∙ ap (λ (k : ℕ). status_in k r) (omega arith);
          found = ap (λ (p : Option model.Region). option_or p (region_with n xs)) among;
          becomes = λ by. changes by (Some r) among;
        }

-- what a list of regions tells of one
pub view_told : (o : Option model.Region) (v : RegionView) → Some v ≡ option_map view_of o → (r : model.Region) × (o ≡ Some r) × (v ≡ view_of r)
view_told None v e = absurd (cc e)
view_told (Some r) v e = (r, refl, cc e)

-- the actor that is told has the region
pub told_actor : (n : ℕ) (xs : List (Option model.Actor)) (s : RegionStatus) (t : IsTold n 1 xs s) → numbered xs s.actor.0 ≡ Some t.regions
told_actor n xs s t =
    let at : s.actor.0 ≡ t.place + 1 = ap (λ (u : RegionStatus). u.actor.0) t.told ∙ omega arith in
    ap (numbered xs) at ∙ number_at xs t.place t.regions t.here

-- who has a region, by what is told
pub told_has : (n : ℕ) (xs : List (Option model.Actor)) (o : Option RegionStatus) → status_with n 1 xs ≡ o
    → MatchOption o ((a : ℕ) → has_region n (numbered xs a) ≡ false) (λ s. has_region n (numbered xs s.actor.0) ≡ true)
told_has n xs None e = λ a. go a (has_region n (numbered xs a)) refl
  where
    go : (a : ℕ) (c : Bool) → has_region n (numbered xs a) ≡ c → c ≡ false
    go a false h = refl
    go a true h = sym (with_actor n xs a h) ∙ sym (told_some n 1 xs) ∙ ap is_some e
told_has n xs (Some s) e =
    let t : IsTold n 1 xs s = is_told n 1 xs s e in
    ap (has_region n) (told_actor n xs s t) ∙ ap is_some t.there

-- What the fields tell

-- where the actor for which a region was made hasn't it, nothing is told
pub nothing_told : (page : ℕ) (owners : List ActorId) (n : ℕ) (xs : List (Option AddressSpace)) (o : Option ActorId) → Numbered (IsKept page owners) xs
    → owner_of owners n ≡ o → MatchOption o (Unit {0}) (λ w. has_region n (numbered (regions_in xs) w.0) ≡ false) → status_with n 1 (regions_in xs) ≡ None
nothing_told page owners n xs o kept is none = untold n (regions_in xs) (nobody page owners xs kept n o is none)

abbrev one_id : ℕ → ActorId
one_id n = record { 0 = n }

-- the region of the actor for which it was made is the one that is told
pub told_here : (page : ℕ) (owners : List ActorId) (n a : ℕ) (xs : List (Option AddressSpace)) (rs : model.Actor) (r : model.Region) → Numbered (IsKept page owners) xs
    → numbered (regions_in xs) a ≡ Some rs → region_among n rs ≡ Some r → status_with n 1 (regions_in xs) ≡ Some (status_in a r)
told_here page owners n a xs rs r kept alive among =
    let has : has_region n (numbered (regions_in xs) a) ≡ true = ap (has_region n) alive ∙ ap is_some among in
    let some : IsSome (status_with n 1 (regions_in xs)) = told_some n 1 (regions_in xs) ∙ with_actor n (regions_in xs) a has in
    let found = is_there (status_with n 1 (regions_in xs)) some in
    let s : RegionStatus = found.0 in
    let t : IsTold n 1 (regions_in xs) s = is_told n 1 (regions_in xs) s found.1 in
    let actor = told_actor n (regions_in xs) s t in
    let other = had_by page owners xs kept n s.actor.0 (ap (has_region n) actor ∙ ap is_some t.there) in
    let both = sym (had_by page owners xs kept n a has) ∙ other in
    let ids : one_id a ≡ one_id s.actor.0 = cc both in
    let same : a ≡ s.actor.0 = ap (λ (o : ActorId). o.0) ids in
    let lists = sym alive ∙ ap (numbered (regions_in xs)) same ∙ actor in
    let regions : rs ≡ t.regions = cc in
    let one = sym among ∙ ap (region_among n) regions ∙ t.there in
    let region : r ≡ t.region = cc in
    let place : 1 + t.place ≡ a = sym (ap (λ (u : RegionStatus). u.actor.0) t.told) ∙ sym same in
    found.1 ∙ ap Some (t.told ∙ (λ i. status_in (place i) (sym region i)))

module _ (n : ℕ) (xs : List (Option AddressSpace)) (s : RegionStatus) (t : IsTold n 1 (regions_in xs) s) where
  -- the actor has a space, with that region
  pub told_alive : IsSome (numbered xs s.actor.0)
  told_alive = alive_in xs s.actor.0 (ap is_some (told_actor n (regions_in xs) s t))

  pub told_among : (space : AddressSpace) → numbered xs s.actor.0 ≡ Some space → region_among n space.regions ≡ Some t.region
  told_among space here =
      let lists = sym (told_actor n (regions_in xs) s t) ∙ numbered-map regions_of xs s.actor.0 ∙ ap (option_map regions_of) here in
      let regions : t.regions ≡ space.regions = cc lists in
      ap (region_among n) (sym regions) ∙ t.there

  -- what becomes of it there becomes of it among all
  pub told_becomes : (by : model.Region → List model.Region) (ys : List (Option AddressSpace)) → IsChanged s.actor.0 (replace_region n by) xs ys
      → regions_in ys ≡ replace_in n by (regions_in xs)
  told_becomes by ys e =
      let place : s.actor.0 - 1 ≡ t.place = (let at = ap (λ (u : RegionStatus). u.actor.0) t.told in omega (arith, at)) in
      changed_seen s.actor.0 (replace_region n by) xs ys e
      ∙ ap (λ (o : Option model.Actor). set (regions_in xs) (s.actor.0 - 1) (option_map (replace_region n by) o)) (told_actor n (regions_in xs) s t)
      ∙ ap (λ (k : ℕ). set (regions_in xs) k (Some (replace_region n by t.regions))) place
      ∙ sym (t.becomes by)

  -- where its space says with what bytes of a page it changed, they are those of all
  pub told_page : (page : ℕ) (owners : List ActorId) (by : ℕ → model.Actor → model.Actor) (ys : List (Option AddressSpace)) → Numbered (IsKept page owners) xs
      → ((space : AddressSpace) → numbered xs s.actor.0 ≡ Some space → IsChanged s.actor.0 (by space.page_bytes) xs ys) → IsChanged s.actor.0 (by page) xs ys
  told_page page owners by ys kept change =
      let space = is_there (numbered xs s.actor.0) told_alive in
      subst (λ (b : ℕ). IsChanged s.actor.0 (by b) xs ys) (kept s.actor.0 space.0 space.1).page_bytes (change space.0 space.1)

  -- where the others start that are cut off, by the bytes of a page of its space
  pub told_back : (page : ℕ) (owners : List ActorId) (pages start : ℕ) → Numbered (IsKept page owners) xs
      → ((space : AddressSpace) → numbered xs s.actor.0 ≡ Some space → IsSomeAnd (region_among n space.regions) (λ r. start ≡ r.start + space.page_bytes * pages)) → start ≡ t.region.start + page * pages
  told_back page owners pages start kept back =
      let space = is_there (numbered xs s.actor.0) told_alive in
      subst (λ (b : ℕ). start ≡ t.region.start + b * pages) (kept s.actor.0 space.0 space.1).page_bytes
      (subst (λ (o : Option model.Region). IsSomeAnd o (λ r. start ≡ r.start + space.0.page_bytes * pages)) (told_among space.0 space.1) (back space.0 space.1))

-- How a cut is refused

module _ (a : Actors) (n pages : ℕ) where
  pub no_region : status_with n 1 a.actors ≡ None → split_refusal a n pages ≡ Some NoRegion
  no_region e = ap (cut_refusal a.regions_made pages) (none_is (region_with n a.actors) (sym (told_some n 1 a.actors) ∙ ap is_some e))

  module _ (s : RegionStatus) (e : status_with n 1 a.actors ≡ Some s) where
    refusal_at : (b c : Bool) → nat_le s.mapping.extent.pages pages ≡ b → nat_le MOST_MADE a.regions_made ≡ c
        → split_refusal a n pages ≡ cond b (Some BadAddress) (cond c (Some TooMany) None)
    refusal_at b c f g =
        let t : IsTold n 1 a.actors s = is_told n 1 a.actors s e in
        let count : t.region.pages ≡ s.mapping.extent.pages = sym (ap (λ (u : RegionStatus). u.mapping.extent.pages) t.told) in
        let past : nat_le t.region.pages pages ≡ b = ap (λ (k : ℕ). nat_le k pages) count ∙ f in
        ap (cut_refusal a.regions_made pages) t.found ∙ (λ i. cond (past i) (Some BadAddress) (cond (g i) (Some TooMany) None))

    pub bad_address : s.mapping.extent.pages ≤ pages → split_refusal a n pages ≡ Some BadAddress
    bad_address h = refusal_at true (nat_le MOST_MADE a.regions_made) (grind (arith, nat_tests)) refl

    pub too_many : pages < s.mapping.extent.pages → MOST_MADE ≤ a.regions_made → split_refusal a n pages ≡ Some TooMany
    too_many h k = refusal_at false true (grind (arith, nat_tests)) (grind (arith, nat_tests))

    pub no_refusal : pages < s.mapping.extent.pages → a.regions_made < MOST_MADE → split_refusal a n pages ≡ None
    no_refusal h k = refusal_at false false (grind (arith, nat_tests)) (grind (arith, nat_tests))
