-- What is so of every region is so after one became others.
use Rattle.std.proofs.Common.{◌≡◌, ◌==◌, ℕ, Bool, true, false, cond, List, [], ◌∷◌, ◌++◌, Option, Some, None, refl, sym, ap, subst, ◌∙◌}
use Rattle.std.specs.Prelude.{is_some}
use Rattle.std.specs.List.{All}
use Rattle.std.specs.Option.{option_or}
use Rattle.std.proofs.lemmas.List.Elements.{All-append, All-cons, All-head, All-tail}
use Rattle.vm_model.specs.Machine as model
use Rattle.vm_model.specs.Regions.{region_among, region_with, replace_in, replace_region}

-- of the regions of an actor
pub all_replaced : (P : model.Region → Type 0) (n : ℕ) (by : model.Region → List model.Region) (r : model.Region) (rs : model.Actor) → region_among n rs ≡ Some r → (P r → All P (by r))
    → All P rs → All P (replace_region n by rs)
all_replaced P n by r [] e new h = absurd (cc e)
all_replaced P n by r (x ∷ xs) e new h = go (x.number == n) e (λ found. all_replaced P n by r xs found new (All-tail P x xs h))
  where
    go : (c : Bool) → cond c (Some x) (region_among n xs) ≡ Some r → (region_among n xs ≡ Some r → All P (replace_region n by xs)) → All P (cond c (by x ++ xs) (x ∷ replace_region n by xs))
    go true found rest =
        let same : x ≡ r = cc found in
        All-append P (by x) xs (subst (λ (y : model.Region). All P (by y)) (sym same) (new (subst P same (All-head P x xs h)))) (All-tail P x xs h)
    go false found rest = All-cons P x (replace_region n by xs) (All-head P x xs h) (rest found)

-- of the actors, where it is so of one that has the region after that region became others
pub all_replaced_in : (Q : Option model.Actor → Type 0) (n : ℕ) (by : model.Region → List model.Region) (r : model.Region) (xs : List (Option model.Actor)) → region_with n xs ≡ Some r
    → ((rs : model.Actor) → region_among n rs ≡ Some r → Q (Some rs) → Q (Some (replace_region n by rs))) → All Q xs → All Q (replace_in n by xs)
all_replaced_in Q n by r [] e step h = h
all_replaced_in Q n by r (None ∷ xs) e step h = All-cons Q None (replace_in n by xs) (All-head Q None xs h) (all_replaced_in Q n by r xs e step (All-tail Q None xs h))
all_replaced_in Q n by r (Some rs ∷ xs) e step h = go (region_among n rs) refl e (λ found. all_replaced_in Q n by r xs found step (All-tail Q (Some rs) xs h))
  where
    go : (o : Option model.Region) → region_among n rs ≡ o → option_or o (region_with n xs) ≡ Some r → (region_with n xs ≡ Some r → All Q (replace_in n by xs))
        → All Q (cond (is_some o) (Some (replace_region n by rs) ∷ xs) (Some rs ∷ replace_in n by xs))
    go None among found rest = All-cons Q (Some rs) (replace_in n by xs) (All-head Q (Some rs) xs h) (rest found)
    go (Some x) among found rest =
        let same : x ≡ r = cc found in
        All-cons Q (Some (replace_region n by rs)) xs (step rs (among ∙ ap (λ (y : model.Region). Some y) same) (All-head Q (Some rs) xs h)) (All-tail Q (Some rs) xs h)
