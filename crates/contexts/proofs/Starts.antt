-- Where regions start.
use Rattle.std.proofs.Common.{◌≡◌, ◌==◌, ℕ, ◌+◌, ◌-◌, Bool, true, false, cond, List, [], ◌∷◌, ◌++◌, length, Option, Some, refl, sym, ap, subst, ◌∙◌, arith}
use Rattle.std.specs.Prelude.{slice_get}
use Rattle.std.specs.List.{All}
use Rattle.std.proofs.lemmas.Bool.Decides.{nat_tests}
use Rattle.std.proofs.lemmas.List.Elements.{All-head, All-tail, All-weaker}
use Rattle.vm_ids.specs.declared.reply.RegionStatus.{RegionStatus}
use Rattle.vm_model.specs.Machine as model
use Rattle.vm_model.specs.Machine.{numbered}
use Rattle.vm_model.specs.Regions.{region_among}
use Rattle.vm_model.proofs.Machines.Taking.{from_some}
use Rattle.vm_model.proofs.Parts.Lists.{numbered-map, numbered_place}
use Rattle.regions.specs.AddressSpace.{AddressSpace, StartsAt}
use Rattle.contexts.specs.Layout.{AllStartAs, IsChanged, StartsAs, regions_in}
use Rattle.contexts.proofs.Living.{regions_of}
use Rattle.contexts.proofs.Places.{Numbered, get_before, get_last, numbered_replaced}
use Rattle.contexts.proofs.Told.{IsTold, told_among}

-- what is kept of a number is so of each region that has it
pub starts_at : (starts : List ℕ) (n start : ℕ) (rs : model.Actor) → All (StartsAs starts) rs → slice_get starts (n - 1) ≡ Some start → StartsAt n start rs
starts_at starts n start rs all is =
    All-weaker (StartsAs starts) (λ (r : model.Region). r.number ≡ n → r.start ≡ start)
    (λ r e number. (let both : Some r.start ≡ Some start = sym e ∙ ap (λ (k : ℕ). slice_get starts (k - 1)) number ∙ is in cc both)) rs all

-- what is seen of a living actor starts so
pub seen_starts : (starts : List ℕ) (xs : List (Option AddressSpace)) → AllStartAs starts xs → (n : ℕ) (rs : model.Actor) → numbered (regions_in xs) n ≡ Some rs → All (StartsAs starts) rs
seen_starts starts xs all n rs e =
    let space = from_some regions_of (numbered xs n) rs (sym (numbered-map regions_of xs n) ∙ e) in
    subst (All (StartsAs starts)) space.2 (all n space.0 space.1)

-- the region that is found has the number, and starts where it is kept
among_starts : (starts : List ℕ) (n : ℕ) (r : model.Region) (rs : model.Actor) → region_among n rs ≡ Some r → All (StartsAs starts) rs → slice_get starts (n - 1) ≡ Some r.start
among_starts starts n r [] e all = absurd (cc e)
among_starts starts n r (x ∷ xs) e all = go (x.number == n) refl e (λ f. among_starts starts n r xs f (All-tail (StartsAs starts) x xs all))
  where
    go : (c : Bool) → (x.number == n) ≡ c → cond c (Some x) (region_among n xs) ≡ Some r → (region_among n xs ≡ Some r → slice_get starts (n - 1) ≡ Some r.start) → slice_get starts (n - 1) ≡ Some r.start
    go true is found rest =
        let same : x ≡ r = cc found in
        let number : x.number ≡ n = grind (arith, nat_tests) in
        ap (λ (k : ℕ). slice_get starts (k - 1)) (sym number) ∙ All-head (StartsAs starts) x xs all ∙ ap (λ (y : model.Region). Some y.start) same
    go false is found rest = rest found

-- where a region starts that is told
pub told_starts : (starts : List ℕ) (n : ℕ) (xs : List (Option AddressSpace)) (s : RegionStatus) (t : IsTold n 1 (regions_in xs) s) → AllStartAs starts xs
    → (space : AddressSpace) → numbered xs s.actor.0 ≡ Some space → StartsAt n s.mapping.address space.regions
told_starts starts n xs s t all space here =
    let kept = all s.actor.0 space here in
    subst (λ (u : RegionStatus). StartsAt n u.mapping.address space.regions) (sym t.told)
    (starts_at starts n t.region.start space.regions kept (among_starts starts n t.region space.regions (told_among n xs s t space here) kept))

-- one actor has other regions
pub started_changed : (a : ℕ) (by : model.Actor → model.Actor) (xs ys : List (Option AddressSpace)) (e : IsChanged a by xs ys) (starts more : List ℕ)
    → ((r : model.Region) → StartsAs starts r → StartsAs more r) → (All (StartsAs starts) e.space.regions → All (StartsAs more) (by e.space.regions)) → AllStartAs starts xs → AllStartAs more ys
started_changed a by xs ys e starts more weaker this all =
    let then : AddressSpace = record e.space { regions = by e.space.regions; spare = e.spare } in
    let P : ℕ → AddressSpace → Type 0 = λ _ s. All (StartsAs more) s.regions in
    subst (Numbered P) (sym e.there)
    (numbered_replaced P xs a (Some then) (numbered_place xs a e.space e.here).0
    (λ s is. let same : then ≡ s = cc is in subst (P a) same (this (all a e.space e.here)))
    (λ k s is. All-weaker (StartsAs starts) (StartsAs more) weaker s.regions (all k s is)))

-- one more start is kept
pub starts_before : (starts : List ℕ) (start : ℕ) (r : model.Region) → StartsAs starts r → StartsAs (starts ++ start ∷ []) r
starts_before starts start r e = get_before starts (r.number - 1) r.start start e

pub starts_next : (starts : List ℕ) (start n : ℕ) → n ≡ length starts + 1 → slice_get (starts ++ start ∷ []) (n - 1) ≡ Some start
starts_next starts start n e =
    let place : n - 1 ≡ length starts = omega (arith, e) in
    ap (slice_get (starts ++ start ∷ [])) place ∙ get_last starts start
