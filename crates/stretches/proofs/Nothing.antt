-- An answer that is none.
use Rattle.std.proofs.Common.{◌≡◌, Option, None, sym, subst}
use Rattle.std.specs.Prelude.{MatchOption}

-- what holds where there is none holds of it
pub match_none : {X : Type 0} {A : Type 0} (B : X → Type 0) (o : Option X) → o ≡ None → A → MatchOption o A B
match_none {A = A} B o is none = subst (λ p. MatchOption p A B) (sym is) none
