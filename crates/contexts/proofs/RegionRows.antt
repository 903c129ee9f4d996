-- The rows of the commands on actors and their regions.
use Rattle.std.proofs.Common.{◌≡◌, ◌==◌, ℕ, ◌+◌, ◌-◌, ◌*◌, ◌%◌, ◌^◌, Bool, true, false, cond, List, [], ◌∷◌, ◌++◌, length, map, Option, Some, None, refl, sym, ap, subst, ◌∙◌, rules}
use Rattle.std.specs.Prelude.{option_map, is_some, IfSome, MatchResult, OnErr, OnOk, Result, Ok, Err, nat_le, nat_lt, ok_or, slice_set}
use Rattle.std.specs.List.{list_any}
use Rattle.vm_ids.specs.Counting.{no_counts}
use Rattle.vm_ids.specs.Held.{Segments}
use Rattle.vm_ids.specs.declared.command.Command.TheVariants as commands
use Rattle.vm_ids.specs.declared.command.Mapping.{Mapping}
use Rattle.vm_ids.specs.declared.command.Prot.{Prot}
use Rattle.vm_ids.specs.declared.numbers.ActorId.{ActorId}
use Rattle.vm_ids.specs.declared.numbers.RegionId.{RegionId}
use Rattle.vm_ids.specs.declared.refusal.Refusal.{Refusal}
use Rattle.vm_ids.specs.declared.refusal.Refusal.TheVariants as refusals
use Rattle.vm_ids.specs.declared.reply.RegionStatus.{RegionStatus}
use Rattle.vm_ids.specs.declared.reply.Reply.TheVariants as replies
use Rattle.vm_ids.specs.declared.reply.Trouble.{Trouble}
use Rattle.vm_ids.specs.declared.reply.Trouble.TheVariants as troubles
use Rattle.vm_model.specs.declared.limits.TheConstants.{MOST_MADE}
use Rattle.vm_model.specs.Machine as model
use Rattle.vm_model.specs.Machine.{numbered}
use Rattle.vm_model.specs.Answering.{answer_by, exit_actor_of, find_of, lock_of, make_actor_of, map_of, overlaps, passes_end, passes_lock_limit, protect_of, refuse, reply, split_of, status_of, unless, unlock_of, unmap_of, with_some, without_region}
use Rattle.vm_model.specs.Outcome.{Outcome}
use Rattle.vm_model.specs.PageForest.{PageForest}
use Rattle.vm_model.specs.Place.{region_at}
use Rattle.vm_model.specs.Regions.{mapping_of, region_with, replace_in, status_with, with_lock, with_prot}
use Rattle.regions.specs.AddressSpace.{id_of}
use Rattle.contexts.specs.Actors.{Actors, cut_refusal, holder_of, is_full, machine_with, split_refusal, with_region, with_split}
use Rattle.contexts.specs.Maps.{map_refusal}
use Rattle.contexts.proofs.Told.{is_told, none_is, told_some}

-- a cache with so many pages
pub sized : (o : Option model.Cache) (n : ℕ) → option_map (λ (c : model.Cache). length c.pages) o ≡ Some n → (c : model.Cache) × (o ≡ Some c) × (length c.pages ≡ n)
sized None n e = absurd (search rules)
sized (Some c) n e = let same : length c.pages ≡ n = cc in (c, refl, same)

pub unsized : (o : Option model.Cache) → option_map (λ (c : model.Cache). length c.pages) o ≡ None → o ≡ None
unsized None e = refl
unsized (Some c) e = absurd (search rules)

abbrev pub size_in : Option model.Cache → Option ℕ
size_in o = option_map (λ (c : model.Cache). length c.pages) o

-- A mapping

-- nothing refuses it
pub record IsMappable (t : Actors) (o : Option model.Actor) (q : Option ℕ) (p : Mapping) : Type 0 where
  pub regions : model.Actor
  pub count : ℕ
  pub here : o ≡ Some regions
  pub there : q ≡ Some count
  pub aligned : (p.address % t.page_bytes == 0) ≡ true
  pub low : nat_lt (2 ^ 48) (p.address + t.page_bytes * p.extent.pages) ≡ false
  pub inside : nat_lt count (p.extent.first.0 + p.extent.pages) ≡ false
  pub apart : list_any (overlaps t.page_bytes p.address p.extent.pages) regions ≡ false
  pub few : nat_le MOST_MADE t.regions_made ≡ false

module _ (t : Actors) (p : Mapping) where
  abbrev aligned_at : Bool
  aligned_at = p.address % t.page_bytes == 0

  abbrev high : Bool
  high = nat_lt (2 ^ 48) (p.address + t.page_bytes * p.extent.pages)

  abbrev past : ℕ → Bool
  past n = nat_lt n (p.extent.first.0 + p.extent.pages)

  abbrev meets : model.Actor → Bool
  meets regions = list_any (overlaps t.page_bytes p.address p.extent.pages) regions

  abbrev many : Bool
  many = nat_le MOST_MADE t.regions_made

  pub is_mappable : (o : Option model.Actor) (q : Option ℕ) → map_refusal t o q p ≡ None → IsMappable t o q p
  is_mappable None q e = absurd (cc e)
  is_mappable (Some rs) None e = absurd (cc e)
  is_mappable (Some rs) (Some n) e = go aligned_at high (past n) (meets rs) many refl refl refl refl refl
    where
      go : (v w x y z : Bool) → aligned_at ≡ v → high ≡ w → past n ≡ x → meets rs ≡ y → many ≡ z → IsMappable t (Some rs) (Some n) p
      go false w x y z a b c d f = absurd (cc (e, a))
      go true true x y z a b c d f = absurd (cc (e, a, b))
      go true false true y z a b c d f = absurd (cc (e, a, b, c))
      go true false false true z a b c d f = absurd (cc (e, a, b, c, d))
      go true false false false true a b c d f = absurd (cc (e, a, b, c, d, f))
      go true false false false false a b c d f = record { regions = rs; count = n; here = refl; there = refl; aligned = a; low = b; inside = c; apart = d; few = f }

  module _ (caches : List (Option model.Cache)) (frames : ℕ) (actor : ℕ) where
    abbrev m : model.Machine
    m = machine_with caches frames t

    pub map_refused : (r : Refusal) (o : Option model.Actor) (q : Option model.Cache) → numbered t.actors actor ≡ o → numbered caches p.extent.cache.0 ≡ q → map_refusal t o (size_in q) p ≡ Some r
        → map_of (machine_with caches frames t) actor p ≡ refuse (machine_with caches frames t) r
    unfolding map_of with_some unless
    map_refused r None q here there is = let e : refusals.NoActor ≡ r = cc is in rw here (ap (refuse m) e)
    map_refused r (Some rs) None here there is = let e : refusals.NoCache ≡ r = cc is in rw (here, there) (ap (refuse m) e)
    map_refused r (Some rs) (Some c) here there is = go aligned_at high (past (length c.pages)) (meets rs) many refl refl refl refl refl
      where
        go : (v w x y z : Bool) → aligned_at ≡ v → high ≡ w → past (length c.pages) ≡ x → meets rs ≡ y → many ≡ z → map_of (machine_with caches frames t) actor p ≡ refuse (machine_with caches frames t) r
        go false w x y z a b d e f = let same : refusals.Unaligned ≡ r = cc (is, a) in rw (here, there, a) (ap (refuse m) same)
        go true true x y z a b d e f = let same : refusals.BadAddress ≡ r = cc (is, a, b) in rw (here, there, a, b) (ap (refuse m) same)
        go true false true y z a b d e f = let same : refusals.OutOfCache ≡ r = cc (is, a, b, d) in rw (here, there, a, b, d) (ap (refuse m) same)
        go true false false true z a b d e f = let same : refusals.Overlap ≡ r = cc (is, a, b, d, e) in rw (here, there, a, b, d, e) (ap (refuse m) same)
        go true false false false true a b d e f = let same : refusals.TooMany ≡ r = cc (is, a, b, d, e, f) in rw (here, there, a, b, d, e, f) (ap (refuse m) same)
        go true false false false false a b d e f = absurd (cc (is, a, b, d, e, f))

    -- the row of a mapping that nothing refuses, and the machine after it
    pub map_row : (k : IsMappable t (numbered t.actors actor) (size_in (numbered caches p.extent.cache.0)) p)
        → map_of (machine_with caches frames t) actor p ≡ reply (replies.Region (record { 0 = t.regions_made + 1 })) (machine_with caches frames (with_region t actor p))
    unfolding map_of with_some unless
    map_row k =
        let c = sized (numbered caches p.extent.cache.0) k.count k.there in
        let here = k.here in
        let there = c.1 in
        let aligned = k.aligned in
        let low = k.low in
        let inside : passes_end c.0 p.extent.first.0 p.extent.pages ≡ false = ap (λ (n : ℕ). nat_lt n (p.extent.first.0 + p.extent.pages)) c.2 ∙ k.inside in
        let apart = k.apart in
        let few = k.few in
        row c.0 k.regions here there aligned low inside apart few
      where
        row : (c : model.Cache) (rs : model.Actor) → numbered t.actors actor ≡ Some rs → numbered caches p.extent.cache.0 ≡ Some c → aligned_at ≡ true → high ≡ false → passes_end c p.extent.first.0 p.extent.pages ≡ false → meets rs ≡ false → many ≡ false
            → map_of (machine_with caches frames t) actor p ≡ reply (replies.Region (record { 0 = t.regions_made + 1 })) (machine_with caches frames (with_region t actor p))
        row c rs here there aligned low inside apart few = rw (here, there, aligned, low, inside, apart, few) refl

module _ (caches : List (Option model.Cache)) (frames : ℕ) (t : Actors) (n : ℕ) where
  module _ (r : model.Region) (found : region_with n t.actors ≡ Some r) where
    pub unmap_row : r.locked ≡ false → unmap_of (machine_with caches frames t) n ≡ reply replies.Done (machine_with caches frames (record t { actors = map (option_map (without_region n)) t.actors }))
    unfolding unmap_of with_some unless
    unmap_row free = rw (found, free) refl

    pub unmap_locked : r.locked ≡ true → unmap_of (machine_with caches frames t) n ≡ refuse (machine_with caches frames t) refusals.Locked
    unfolding unmap_of with_some unless
    unmap_locked locked = rw (found, locked) refl

  no_region : (o : Option model.Region) → region_with n t.actors ≡ o → is_some o ≡ false → unmap_of (machine_with caches frames t) n ≡ refuse (machine_with caches frames t) refusals.NoRegion
  unfolding unmap_of with_some
  no_region None e none = rw e refl
  no_region (Some r) e none = absurd (search rules)

  pub unmap_none : is_some (region_with n t.actors) ≡ false → unmap_of (machine_with caches frames t) n ≡ refuse (machine_with caches frames t) refusals.NoRegion
  unmap_none none = no_region (region_with n t.actors) refl none

-- A new actor

module _ (caches : List (Option model.Cache)) (frames : ℕ) (t u : Actors) (f : Option PageForest) (h : Segments) where
  actor_row : is_full t ≡ false → make_actor_of (machine_with caches frames t) ≡ reply (replies.Actor (record { 0 = length t.actors + 1 })) (machine_with caches frames (record t { actors = t.actors ++ Some [] ∷ [] }))
  unfolding make_actor_of unless
  actor_row e = rw e refl

  actor_refused : is_full t ≡ true → make_actor_of (machine_with caches frames t) ≡ refuse (machine_with caches frames t) refusals.TooMany
  unfolding make_actor_of unless
  actor_refused e = rw e refl

  pub actor_outcome : (b : Bool) (result : Result ActorId Trouble) → is_full t ≡ b → (is_full t ≡ true → result ≡ Err (troubles.Refused refusals.TooMany))
      → (is_full t ≡ false → MatchResult result (λ a. a.0 ≡ length t.actors + 1) (λ e. e ≡ troubles.Memory)) → OnOk result (u ≡ record t { actors = t.actors ++ Some [] ∷ [] }) → OnErr result (u ≡ t)
      → Outcome (machine_with caches frames t) f commands.MakeActor h (answer_by replies.Actor result) (machine_with caches frames u) no_counts
  actor_outcome false (Ok a) full refused made ok err =
      let number : a.0 ≡ length t.actors + 1 = made full in
      actor_row full ∙ (λ j. reply (replies.Actor (record { 0 = sym number j })) (machine_with caches frames (sym ok j)))
  actor_outcome false (Err (troubles.Refused r)) full refused made ok err = absurd (cc (made full))
  actor_outcome false (Err (troubles.Mapper at)) full refused made ok err = absurd (cc (made full))
  actor_outcome false (Err troubles.Memory) full refused made ok err = (ap (machine_with caches frames) err, tt, (let row = actor_row full in rw row tt))
  actor_outcome true (Ok a) full refused made ok err = absurd (cc (refused full))
  actor_outcome true (Err (troubles.Refused r)) full refused made ok err =
      let e = refused full in
      let same : refusals.TooMany ≡ r = cc e in
      actor_refused full ∙ (λ j. record { answer = Err (troubles.Refused (same j)); next = machine_with caches frames (sym err j) })
  actor_outcome true (Err (troubles.Mapper at)) full refused made ok err = absurd (cc (refused full))
  actor_outcome true (Err troubles.Memory) full refused made ok err = absurd (cc (refused full))

-- the actors without one of them
abbrev pub without_actor : ℕ → Actors → Actors
without_actor actor t = record t { actors = slice_set t.actors (actor - 1) None }

-- the actors with a region that allows this
abbrev pub with_allowed : ℕ → Prot → Actors → Actors
with_allowed n prot t = record t { actors = replace_in n (with_prot prot) t.actors }

-- A region that is cut

-- nothing refuses it
pub record IsCut (t : Actors) (n pages : ℕ) : Type 0 where
  pub region : model.Region
  pub found : region_with n t.actors ≡ Some region
  pub fewer : nat_le region.pages pages ≡ false
  pub few : nat_le MOST_MADE t.regions_made ≡ false

module _ (t : Actors) (n pages : ℕ) where
  pub is_cut : split_refusal t n pages ≡ None → IsCut t n pages
  is_cut e = go (region_with n t.actors) refl e
    where
      go : (o : Option model.Region) → region_with n t.actors ≡ o → cut_refusal t.regions_made pages o ≡ None → IsCut t n pages
      go None found e = absurd (cc e)
      go (Some r) found e = at (nat_le r.pages pages) (nat_le MOST_MADE t.regions_made) refl refl e
        where
          at : (b c : Bool) → nat_le r.pages pages ≡ b → nat_le MOST_MADE t.regions_made ≡ c → cond b (Some refusals.BadAddress) (cond c (Some refusals.TooMany) None) ≡ None → IsCut t n pages
          at true c p q e = absurd (cc e)
          at false true p q e = absurd (cc e)
          at false false p q e = record { region = r; found = found; fewer = p; few = q }

  module _ (caches : List (Option model.Cache)) (frames : ℕ) where
    split_row : IsCut t n pages → split_of (machine_with caches frames t) n pages ≡ reply (replies.Region (record { 0 = t.regions_made + 1 })) (machine_with caches frames (with_split t n pages))
    unfolding split_of with_some unless
    split_row c = let found = c.found in let fewer = c.fewer in let few = c.few in rw (found, fewer, few) refl

    split_refused : (r : Refusal) → split_refusal t n pages ≡ Some r → split_of (machine_with caches frames t) n pages ≡ refuse (machine_with caches frames t) r
    unfolding split_of with_some unless
    split_refused r e = go (region_with n t.actors) refl e
      where
        go : (o : Option model.Region) → region_with n t.actors ≡ o → cut_refusal t.regions_made pages o ≡ Some r → split_of (machine_with caches frames t) n pages ≡ refuse (machine_with caches frames t) r
        go None found e = let same : refusals.NoRegion ≡ r = cc e in rw found (ap (refuse (machine_with caches frames t)) same)
        go (Some x) found e = at (nat_le x.pages pages) (nat_le MOST_MADE t.regions_made) refl refl e
          where
            at : (b c : Bool) → nat_le x.pages pages ≡ b → nat_le MOST_MADE t.regions_made ≡ c → cond b (Some refusals.BadAddress) (cond c (Some refusals.TooMany) None) ≡ Some r
                → split_of (machine_with caches frames t) n pages ≡ refuse (machine_with caches frames t) r
            at true c p q e = let same : refusals.BadAddress ≡ r = cc e in rw (found, p) (ap (refuse (machine_with caches frames t)) same)
            at false true p q e = let same : refusals.TooMany ≡ r = cc e in rw (found, p, q) (ap (refuse (machine_with caches frames t)) same)
            at false false p q e = absurd (cc e)

-- what a cut gives, by how it is refused
module _ (t u : Actors) (region : RegionId) (pages : ℕ) where
  module _ (caches : List (Option model.Cache)) (frames : ℕ) (f : Option PageForest) (h : Segments) where
    pub split_outcome : (o : Option Refusal) (result : Result RegionId Trouble) → split_refusal t region.0 pages ≡ o → IfSome o (λ r. result ≡ Err (troubles.Refused r))
        → (o ≡ None → MatchResult result (λ fresh. fresh.0 ≡ t.regions_made + 1) (λ e. e ≡ troubles.Memory)) → OnOk result (u ≡ with_split t region.0 pages) → OnErr result (u ≡ t)
        → Outcome (machine_with caches frames t) f (commands.Split region pages) h (answer_by replies.Region result) (machine_with caches frames u) no_counts
    split_outcome None (Ok fresh) is refused made ok err =
        let number : fresh.0 ≡ t.regions_made + 1 = made refl in
        split_row t region.0 pages caches frames (is_cut t region.0 pages is) ∙ (λ j. reply (replies.Region (record { 0 = sym number j })) (machine_with caches frames (sym ok j)))
    split_outcome None (Err e) is refused made ok err =
        let row = split_row t region.0 pages caches frames (is_cut t region.0 pages is) in
        subst (λ (e : Trouble). Outcome (machine_with caches frames t) f (commands.Split region pages) h (Err e) (machine_with caches frames u) no_counts) (sym (made refl))
        (ap (machine_with caches frames) err, tt, rw row tt)
    split_outcome (Some r) (Ok fresh) is refused made ok err = absurd (cc refused)
    split_outcome (Some r) (Err e) is refused made ok err =
        let same : e ≡ troubles.Refused r = cc refused in
        subst (λ (e : Trouble). Outcome (machine_with caches frames t) f (commands.Split region pages) h (Err e) (machine_with caches frames u) no_counts) (sym same)
        (split_refused t region.0 pages caches frames r is ∙ ap (λ (w : Actors). refuse (machine_with caches frames w) r) (sym err))

-- The other rows

module _ (caches : List (Option model.Cache)) (frames : ℕ) (t : Actors) where
  pub exit_row : (actor : ℕ) → is_some (numbered t.actors actor) ≡ true → exit_actor_of (machine_with caches frames t) actor ≡ reply replies.Done (machine_with caches frames (without_actor actor t))
  unfolding exit_actor_of with_some
  exit_row actor some = go (numbered t.actors actor) refl some
    where
      go : (o : Option model.Actor) → numbered t.actors actor ≡ o → is_some o ≡ true → exit_actor_of (machine_with caches frames t) actor ≡ reply replies.Done (machine_with caches frames (without_actor actor t))
      go None here e = absurd (cc e)
      go (Some rs) here e = rw here refl

  pub exit_none : (actor : ℕ) → is_some (numbered t.actors actor) ≡ false → exit_actor_of (machine_with caches frames t) actor ≡ refuse (machine_with caches frames t) refusals.NoActor
  unfolding exit_actor_of with_some
  exit_none actor none = go (numbered t.actors actor) refl none
    where
      go : (o : Option model.Actor) → numbered t.actors actor ≡ o → is_some o ≡ false → exit_actor_of (machine_with caches frames t) actor ≡ refuse (machine_with caches frames t) refusals.NoActor
      go None here e = rw here refl
      go (Some rs) here e = absurd (cc e)

  pub protect_row : (n : ℕ) (prot : Prot) → is_some (region_with n t.actors) ≡ true → protect_of (machine_with caches frames t) n prot ≡ reply replies.Done (machine_with caches frames (with_allowed n prot t))
  unfolding protect_of with_some
  protect_row n prot some = go (region_with n t.actors) refl some
    where
      go : (o : Option model.Region) → region_with n t.actors ≡ o → is_some o ≡ true → protect_of (machine_with caches frames t) n prot ≡ reply replies.Done (machine_with caches frames (with_allowed n prot t))
      go None here e = absurd (cc e)
      go (Some r) here e = rw here refl

  pub protect_none : (n : ℕ) (prot : Prot) → is_some (region_with n t.actors) ≡ false → protect_of (machine_with caches frames t) n prot ≡ refuse (machine_with caches frames t) refusals.NoRegion
  unfolding protect_of with_some
  protect_none n prot none = go (region_with n t.actors) refl none
    where
      go : (o : Option model.Region) → region_with n t.actors ≡ o → is_some o ≡ false → protect_of (machine_with caches frames t) n prot ≡ refuse (machine_with caches frames t) refusals.NoRegion
      go None here e = rw here refl
      go (Some r) here e = absurd (cc e)

  module _ (f : Option PageForest) (h : Segments) where
    pub status_outcome : (region : RegionId) (o : Option RegionStatus) (result : Result RegionStatus Trouble) → o ≡ status_with region.0 1 t.actors → result ≡ ok_or o (troubles.Refused refusals.NoRegion)
        → Outcome (machine_with caches frames t) f (commands.Status region) h (answer_by replies.Status result) (machine_with caches frames t) no_counts
    unfolding status_of with_some
    status_outcome region o result told is =
        subst (λ (r : Result RegionStatus Trouble). Outcome (machine_with caches frames t) f (commands.Status region) h (answer_by replies.Status r) (machine_with caches frames t) no_counts) (sym is) (go o told)
      where
        go : (o : Option RegionStatus) → o ≡ status_with region.0 1 t.actors
            → Outcome (machine_with caches frames t) f (commands.Status region) h (answer_by replies.Status (ok_or o (troubles.Refused refusals.NoRegion))) (machine_with caches frames t) no_counts
        go None told = let e = sym told in rw e refl
        go (Some status) told = let e = sym told in rw e refl

    pub find_ok : (actor : ActorId) (address : ℕ) (region : RegionId) → Ok region ≡ holder_of t.page_bytes (numbered t.actors actor.0) address
        → Outcome (machine_with caches frames t) f (commands.Find actor address) h (Ok (replies.Region region)) (machine_with caches frames t) no_counts
    unfolding find_of with_some
    find_ok actor address region e = go (numbered t.actors actor.0) refl e
      where
        go : (o : Option model.Actor) → numbered t.actors actor.0 ≡ o → Ok region ≡ holder_of t.page_bytes o address → find_of (machine_with caches frames t) actor.0 address ≡ reply (replies.Region region) (machine_with caches frames t)
        go None here e = absurd (cc e)
        go (Some rs) here e = at (region_at t.page_bytes address rs) refl e
          where
            at : (o : Option model.Region) → region_at t.page_bytes address rs ≡ o → Ok region ≡ ok_or (option_map id_of o) refusals.BadAddress → find_of (machine_with caches frames t) actor.0 address ≡ reply (replies.Region region) (machine_with caches frames t)
            at None there e = absurd (cc e)
            at (Some r) there e = let same : id_of r ≡ region = cc e in rw (here, there) (ap (λ (x : RegionId). reply (replies.Region x) (machine_with caches frames t)) same)

    pub find_err : (actor : ActorId) (address : ℕ) (refusal : Refusal) (result : Result RegionId Trouble) → Err refusal ≡ holder_of t.page_bytes (numbered t.actors actor.0) address → result ≡ Err (troubles.Refused refusal)
        → Outcome (machine_with caches frames t) f (commands.Find actor address) h (answer_by replies.Region result) (machine_with caches frames t) no_counts
    unfolding find_of with_some
    find_err actor address refusal result e is =
        subst (λ (r : Result RegionId Trouble). Outcome (machine_with caches frames t) f (commands.Find actor address) h (answer_by replies.Region r) (machine_with caches frames t) no_counts) (sym is) (go (numbered t.actors actor.0) refl e)
      where
        go : (o : Option model.Actor) → numbered t.actors actor.0 ≡ o → Err refusal ≡ holder_of t.page_bytes o address → find_of (machine_with caches frames t) actor.0 address ≡ refuse (machine_with caches frames t) refusal
        go None here e = let same : refusals.NoActor ≡ refusal = cc e in rw here (ap (refuse (machine_with caches frames t)) same)
        go (Some rs) here e = at (region_at t.page_bytes address rs) refl e
          where
            at : (o : Option model.Region) → region_at t.page_bytes address rs ≡ o → Err refusal ≡ ok_or (option_map id_of o) refusals.BadAddress → find_of (machine_with caches frames t) actor.0 address ≡ refuse (machine_with caches frames t) refusal
            at None there e = let same : refusals.BadAddress ≡ refusal = cc e in rw (here, there) (ap (refuse (machine_with caches frames t)) same)
            at (Some r) there e = absurd (cc e)

-- Locks

-- the actors, of whom a region is locked or unlocked
abbrev pub with_locked : ℕ → Bool → Actors → Actors
with_locked n b t = record t { actors = replace_in n (with_lock b) t.actors }

-- the region of which this is told
pub record IsToldOf (n : ℕ) (t : Actors) (status : RegionStatus) : Type 0 where
  pub region : model.Region
  pub found : region_with n t.actors ≡ Some region
  pub mapping : status.mapping ≡ mapping_of region
  pub locked : status.locked ≡ region.locked

pub told_of : (n : ℕ) (t : Actors) (status : RegionStatus) → status_with n 1 t.actors ≡ Some status → IsToldOf n t status
told_of n t status e =
    let told = is_told n 1 t.actors status e in
    record { region = told.region; found = told.found; mapping = ap (λ (s : RegionStatus). s.mapping) told.told; locked = ap (λ (s : RegionStatus). s.locked) told.told }

pub untold_of : (n : ℕ) (t : Actors) → status_with n 1 t.actors ≡ None → region_with n t.actors ≡ None
untold_of n t e = none_is (region_with n t.actors) (sym (told_some n 1 t.actors) ∙ ap is_some e)

module _ (caches : List (Option model.Cache)) (frames : ℕ) (t : Actors) (n : ℕ) where
  pub lock_none : region_with n t.actors ≡ None → lock_of (machine_with caches frames t) n ≡ refuse (machine_with caches frames t) refusals.NoRegion
  unfolding lock_of with_some
  lock_none found = rw found refl

  pub unlock_none : region_with n t.actors ≡ None → unlock_of (machine_with caches frames t) n ≡ refuse (machine_with caches frames t) refusals.NoRegion
  unfolding unlock_of with_some
  unlock_none found = rw found refl

  module _ (r : model.Region) (found : region_with n t.actors ≡ Some r) where
    pub lock_locked : r.locked ≡ true → lock_of (machine_with caches frames t) n ≡ refuse (machine_with caches frames t) refusals.Locked
    unfolding lock_of with_some unless
    lock_locked locked = rw (found, locked) refl

    -- where it isn't locked, the number of locked pages decides
    lock_by : r.locked ≡ false → lock_of (machine_with caches frames t) n
        ≡ cond (passes_lock_limit (machine_with caches frames (with_locked n true t))) (refuse (machine_with caches frames t) refusals.LockLimit) (reply replies.Done (machine_with caches frames (with_locked n true t)))
    unfolding lock_of with_some unless
    lock_by free = rw (found, free) refl

    pub lock_limit : r.locked ≡ false → passes_lock_limit (machine_with caches frames (with_locked n true t)) ≡ true → lock_of (machine_with caches frames t) n ≡ refuse (machine_with caches frames t) refusals.LockLimit
    lock_limit free passes = lock_by free ∙ ap (λ b. cond b (refuse (machine_with caches frames t) refusals.LockLimit) (reply replies.Done (machine_with caches frames (with_locked n true t)))) passes

    pub lock_row : r.locked ≡ false → passes_lock_limit (machine_with caches frames (with_locked n true t)) ≡ false → lock_of (machine_with caches frames t) n ≡ reply replies.Done (machine_with caches frames (with_locked n true t))
    lock_row free passes = lock_by free ∙ ap (λ b. cond b (refuse (machine_with caches frames t) refusals.LockLimit) (reply replies.Done (machine_with caches frames (with_locked n true t)))) passes

    pub unlock_not : r.locked ≡ false → unlock_of (machine_with caches frames t) n ≡ refuse (machine_with caches frames t) refusals.NotLocked
    unfolding unlock_of with_some unless
    unlock_not free = rw (found, free) refl

    pub unlock_row : r.locked ≡ true → unlock_of (machine_with caches frames t) n ≡ reply replies.Done (machine_with caches frames (with_locked n false t))
    unfolding unlock_of with_some unless
    unlock_row locked = rw (found, locked) refl
