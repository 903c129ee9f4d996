-- Tables without the translations that lead to some frames.
use Rattle.std.proofs.Common.{◌≡◌, ℕ, ◌||◌, Bool, true, false, cond, List, [], ◌∷◌, Option, Some, None, refl}
use Rattle.page_tables.specs.Translations.{unless}
use Rattle.page_tables.specs.declared.entry.Entry.{Entry}
use Rattle.residency.specs.Translating.{without}

-- the same frames, whichever words tell them
pub without_as : (p q : ℕ → Bool) (tables : List (Option Entry)) → ((f : ℕ) → p f ≡ q f) → without p tables ≡ without q tables
without_as p q tables same = λ i. without (λ f. same f i) tables

none_at : (x : Option Entry) → unless (λ e. false) x ≡ x
none_at None = refl
none_at (Some e) = refl

pub without_none : (tables : List (Option Entry)) → without (λ f. false) tables ≡ tables
without_none [] = refl
without_none (x ∷ xs) = λ i. none_at x i ∷ without_none xs i

both : (test : Entry → Bool) (b : Bool) (e : Entry) → unless test (cond b None (Some e)) ≡ cond (b || test e) None (Some e)
both test true e = refl
both test false e = refl

twice_at : (p q : ℕ → Bool) (x : Option Entry) → unless (λ e. q e.to.frame.0) (unless (λ e. p e.to.frame.0) x) ≡ unless (λ e. p e.to.frame.0 || q e.to.frame.0) x
twice_at p q None = refl
twice_at p q (Some e) = both (λ e. q e.to.frame.0) (p e.to.frame.0) e

-- some frames' are dropped, and then others'
pub twice : (p q : ℕ → Bool) (tables : List (Option Entry)) → without q (without p tables) ≡ without (λ f. p f || q f) tables
twice p q [] = refl
twice p q (x ∷ xs) = λ i. twice_at p q x i ∷ twice p q xs i
