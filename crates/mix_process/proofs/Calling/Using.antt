-- What a manager lacks in the course of a call it lacks for the whole call.
use Rattle.std.proofs.Common.{◌≡◌, ℕ, ◌≤◌, Bool, true, false, refl, ap, arith}
use Rattle.std.specs.Prelude.{◌||◌, nat_lt}
use Rattle.std.specs.Bool.{IsTrue}
use Rattle.std.proofs.lemmas.Bool.Decides.{nat_tests}
use Rattle.vm_ids.specs.declared.refusal.Refusal.TheVariants.{TooMany}
use Rattle.vm_ids.specs.declared.reply.Trouble.TheVariants.{Memory, Refused}
use Rattle.interface_callers.proofs.Words.{LIVE_PAGES, LIVING_ACTORS, MOST_MADE, Trouble}
use Rattle.mix_process.specs.Outcome.{Usage, would_pass}
use Rattle.mix_process.specs.Use.{IsLack, IsWithin, usage_sum}

-- One of five

either_more : (a b c d : Bool) → (a ≡ true → c ≡ true) → (b ≡ true → d ≡ true) → (a || b) ≡ true → (c || d) ≡ true
either_more true b c d f g e = ap (λ (x : Bool). x || d) (f refl)
either_more false b true d f g e = refl
either_more false b false d f g e = g e

less_still : (limit a b : ℕ) → a ≤ b → nat_lt limit a ≡ true → nat_lt limit b ≡ true
less_still limit a b more e = grind (arith, nat_tests)

-- what passes a limit still does where there is more
pub passes_still : (used more now others : Usage) → IsWithin (usage_sum now others) (usage_sum used more) → IsTrue (would_pass now others) → IsTrue (would_pass used more)
passes_still used more now others w p =
    either_more _ _ _ _
    (either_more _ _ _ _
    (either_more _ _ _ _
    (either_more _ _ _ _
    (less_still LIVING_ACTORS _ _ w.living)
    (less_still MOST_MADE _ _ w.actors))
    (less_still MOST_MADE _ _ w.caches))
    (less_still MOST_MADE _ _ w.regions))
    (less_still LIVE_PAGES _ _ w.pages)
    p

-- and so does the lack of a part of a call
pub lack_still : (used more now others : Usage) → IsWithin (usage_sum now others) (usage_sum used more) → (t : Trouble) → IsLack now others t → IsLack used more t
lack_still used more now others w Memory l = tt
lack_still used more now others w (Refused TooMany) l = passes_still used more now others w l
lack_still used more now others w t l = absurd l
