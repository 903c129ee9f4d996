use Rattle.std.proofs.Common.{◌≡◌, ℕ, ◌*◌, ◌<◌, List, Option, None, Some, length, set, ap, sym, ◌∙◌, subst, arith}
use Rattle.std.proofs.lemmas.List.{set-get_or}
use Rattle.probe_table.specs.Probing.{IsProbing, IsPassed}
use Rattle.probe_table.proofs.Standing.{is_room}
use Rattle.probe_table.proofs.Growing.{hashes_below, next_below, not_below, size_below}
use Rattle.probe_table.proofs.growth.refill.Goals as goal
use Rattle.probe_table.proofs.growth.refill.Goals.{in-Some, in_default}

pub put-requires-clause-room : goal.put-requires-clause-room
put-requires-clause-room c = λ passed.
    let hashes : List (Option ℕ) = c.args.hashes.now in
    let buckets : List (Option ℕ) = c.loop-number.buckets in
    let number : ℕ = c.loop-number.number in
    let below : number < length hashes = c.loop-number-test.true in
    let size : length (hashes_below hashes number) ≡ length hashes = size_below hashes number below in
    is_room (hashes_below hashes number) buckets number c.loop-number.invariant (omega arith) (not_below hashes number below)
    (subst (λ (n : ℕ). IsPassed buckets (2 * n) (length buckets) None) (sym size) passed)

pub loop-number-preserved : goal.loop-number-preserved
loop-number-preserved c =
    let hashes : List (Option ℕ) = c.args.hashes.now in
    let number : ℕ = c.loop-number.number in
    let below : number < length hashes = c.loop-number-test.true in
    let before : List (Option ℕ) = hashes_below hashes number in
    let size : length before ≡ length hashes = size_below hashes number below in
    let On : List (Option ℕ) → Type 0 = λ xs. IsProbing xs c.match-hashes-number.buckets (length c.match-hashes-number.buckets) in
    let In : List (Option ℕ) → List (Option ℕ) → Type 0 = λ xs buckets. IsProbing xs buckets (length buckets) in
    elim c.match-hashes-number.branch [
      | in-Some w ↦ subst On (sym (next_below hashes number below ∙ ap (set before number) w.in-Some.is))
          (subst (In (set before number (Some w.in-Some.hash))) (sym w.buckets-is)
          (w.put.ensures before c.loop-number.invariant size (omega arith) (not_below hashes number below)))
      | in_default w ↦ subst On (sym (next_below hashes number below ∙ ap (set before number) (w.in_default.is ∙ sym (not_below hashes number below)) ∙ set-get_or before number None))
          (subst (In before) (sym w.buckets-is) c.loop-number.invariant)
    ]
