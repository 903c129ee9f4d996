-- One actor has other regions.
use Rattle.std.proofs.Common.{◌≡◌, ◌==◌, ℕ, ◌-◌, not, List, set, Option, Some, None, refl, sym, ap, subst, ◌∙◌}
use Rattle.std.specs.Prelude.{IsSome, IsSomeAnd, OnErr, Result, Ok, Err, count_by, is_some, option_map}
use Rattle.std.specs.List.{All}
use Rattle.std.proofs.lemmas.List.{map-set}
use Rattle.std.proofs.Math.Seq.{map-set_same}
use Rattle.std.proofs.lemmas.Option.{get_or_from_slice_get}
use Rattle.std.proofs.lemmas.List.Elements.{All-filter}
use Rattle.vm_ids.specs.declared.numbers.ActorId.{ActorId}
use Rattle.vm_model.specs.Answering.{without_region}
use Rattle.vm_model.specs.Machine as model
use Rattle.vm_model.specs.Machine.{numbered}
use Rattle.vm_model.proofs.Parts.Lists.{at_number, numbered-map, numbered_place}
use Rattle.regions.specs.AddressSpace.{AddressSpace}
use Rattle.contexts.specs.Layout.{IsChanged, IsKept, regions_in}
use Rattle.contexts.proofs.Living.{regions_of, stays}
use Rattle.contexts.proofs.Places.{Numbered, numbered_replaced}
use Rattle.contexts.proofs.Owners.{IsFor}
use Rattle.contexts.proofs.Once.{AreOnce}

pub some_space : (o : Option AddressSpace) → IsSome (option_map regions_of o) → IsSome o
some_space None h = h
some_space (Some s) h = refl

-- an actor that is seen alive has a space
pub alive_in : (xs : List (Option AddressSpace)) (n : ℕ) → IsSome (numbered (regions_in xs) n) → IsSome (numbered xs n)
alive_in xs n h = some_space (numbered xs n) (subst IsSome (numbered-map regions_of xs n) h)

some_and : (P : model.Actor → Type 0) (o : Option AddressSpace) → IsSomeAnd (option_map regions_of o) P → IsSome o × ((s : AddressSpace) → o ≡ Some s → P s.regions)
some_and P None h = absurd h
some_and P (Some s) h = (refl, λ t e. let same : s ≡ t = cc e in subst (λ (u : AddressSpace). P u.regions) same h)

-- what is so of the regions of a living actor is so of its space's
pub seen_and : (P : model.Actor → Type 0) (xs : List (Option AddressSpace)) (n : ℕ) → IsSomeAnd (numbered (regions_in xs) n) P → IsSome (numbered xs n) × ((s : AddressSpace) → numbered xs n ≡ Some s → P s.regions)
seen_and P xs n h = some_and P (numbered xs n) (subst (λ (o : Option model.Actor). IsSomeAnd o P) (numbered-map regions_of xs n) h)

module _ (n : ℕ) (by : model.Actor → model.Actor) (xs ys : List (Option AddressSpace)) (e : IsChanged n by xs ys) where
  abbrev then : AddressSpace
  then = record e.space { regions = by e.space.regions; spare = e.spare }

  pub changed_living : count_by is_some ys ≡ count_by is_some xs
  changed_living = ap (count_by is_some) e.there ∙ stays xs n then (subst IsSome (sym e.here) refl)

  pub changed_kept : (page : ℕ) (owners more : List ActorId) → ((k : ℕ) (s : AddressSpace) → IsKept page owners k s → IsKept page more k s) → (All (IsFor owners n) e.space.regions → All (IsFor more n) (by e.space.regions))
      → (All (IsFor owners n) e.space.regions → AreOnce e.space.regions → AreOnce (by e.space.regions)) → Numbered (IsKept page owners) xs → Numbered (IsKept page more) ys
  changed_kept page owners more weaker this once kept =
      let here = kept n e.space e.here in
      let new : IsKept page more n then = record { page_bytes = here.page_bytes; owned = this here.owned; once = once here.owned here.once } in
      subst (Numbered (IsKept page more)) (sym e.there)
      (numbered_replaced (IsKept page more) xs n (Some then) (numbered_place xs n e.space e.here).0
      (λ s is. let same : then ≡ s = cc is in subst (IsKept page more n) same new)
      (λ k s is. weaker k s (kept k s is)))

  pub changed_seen : regions_in ys ≡ set (regions_in xs) (n - 1) (option_map by (numbered (regions_in xs) n))
  changed_seen =
      let was : numbered (regions_in xs) n ≡ Some e.space.regions = numbered-map regions_of xs n ∙ ap (option_map regions_of) e.here in
      ap regions_in e.there ∙ map-set (option_map regions_of) xs (n - 1) (Some then)
      ∙ ap (λ (o : Option model.Actor). set (regions_in xs) (n - 1) (option_map by o)) (sym was)

pub all_without : (P : model.Region → Type 0) (n : ℕ) (rs : model.Actor) → All P rs → All P (without_region n rs)
all_without P n rs h = All-filter (λ (r : model.Region). not (r.number == n)) P rs h

-- an actor of the same regions
pub changed_same : (a : ℕ) (xs ys : List (Option AddressSpace)) (e : IsChanged a (λ rs. rs) xs ys) → regions_in ys ≡ regions_in xs
changed_same a xs ys e =
    ap regions_in e.there
    ∙ map-set_same (option_map regions_of) xs (a - 1) (Some (record e.space { spare = e.spare })) (Some e.space)
    (sym (ap (option_map regions_of) (get_or_from_slice_get xs (a - 1) (Some e.space) (Some e.space) (at_number xs a e.space e.here))))

pub err_all : {T E P : Type 0} (r : Result T E) → P → OnErr r P
err_all (Ok x) p = tt
err_all (Err e) p = p
