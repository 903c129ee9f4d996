-- Accesses that wait for their page.
use Rattle.std.specs.Prelude.{◌≢◌, ◌==◌, ℕ, List, Option, position}
use Rattle.std.specs.List.{AllPairs}
use Rattle.vm_ids.specs.declared.access.Parked.{Parked}

-- the place of this actor's access, where one is parked
abbrev pub place_of : List Parked → ℕ → Option ℕ
place_of parked actor = position (λ (p : Parked). p.actor.0 == actor) parked

-- no two are of one actor
abbrev pub IsOneOfEach : List Parked → Type 0
IsOneOfEach parked = AllPairs (λ (p : Parked) (q : Parked). p.actor.0 ≢ q.actor.0) parked
