use Rattle.std.proofs.Common.{◌≡◌, ℕ, Bool, false, length, None, Some, List, Option, sym, subst, ◌∙◌, arith, inl, inr}
use Rattle.std.specs.Option.{IfNone}
use Rattle.std.proofs.lemmas.Bool.{cases_eq}
use Rattle.std.proofs.lemmas.Grind.{common_steps}
use Rattle.probe_table.specs.Entries.{hash_of}
use Rattle.probe_table.specs.Probing.{bucket}
use Rattle.probe_table.proofs.Standing.{its_below, on_the_walk, same_hash}
use Rattle.probe_table.proofs.Growing.{hash_in}
use Rattle.probe_table.proofs.table.ProbeTable.find.Goals as goal
use Rattle.probe_table.proofs.table.ProbeTable.find.Goals.{else-eq-via-then-eq+else-passes, else-eq-via-else-eq}

pub returns-in_err-number-clause-absent : goal.returns-in_err-number-clause-absent
returns-in_err-number-clause-absent g c =
    let buckets : List (Option ℕ) = c.self.inside.buckets.items in
    let hashes : List (Option ℕ) = c.self.inside.hashes.items in
    let empty : bucket buckets c.loop-at.at ≡ None = grind (arith, common_steps) in
    let size : c.len.result ≡ length hashes = omega arith in
    let P : Option ℕ → Type 0 = λ o. IfNone o ((number : ℕ) → hash_of c.args.self.now number ≡ Some c.args.hash → goal.F-post g c.args.passes number false) in
    subst P (sym c.from_residual.ensures) (λ number under.
    (let its : hash_of hashes number ≡ Some c.args.hash = hash_in c.self.inside.count hashes c.args.self.now number c.self.view_is ∙ under in
    let walk = on_the_walk hashes buckets number c.args.hash c.len.result c.home_of-home.result c.loop-at.at c.self.invariant.probing its size c.home_of-home.ensures.value (omega arith) empty in
    c.loop-at.invariant walk.0 number walk.1 walk.2 walk.3 its))

pub index-requires-in-loop-at : goal.index-requires-in-loop-at
index-requires-in-loop-at g c = grind (arith, common_steps, its_below c.self.inside.hashes.items c.self.inside.buckets.items (length c.self.inside.buckets.items) c.loop-at.at c.in_ok-number.number c.self.invariant.probing)

pub returns-then-passes-clause-below : goal.returns-then-passes-clause-below
returns-then-passes-clause-below g c = grind (arith, common_steps, its_below c.self.inside.hashes.items c.self.inside.buckets.items (length c.self.inside.buckets.items) c.loop-at.at c.in_ok-number.number c.self.invariant.probing)

pub loop-at-preserved : goal.loop-at-preserved
loop-at-preserved g c = λ k number low high there under. elim (cases_eq k c.loop-at.at) [
  | inr other ↦ c.loop-at.invariant k number low (omega arith) there under
  | inl same ↦
      (let this : c.in_ok-number.number ≡ number = grind (arith, common_steps) in
      elim c.else-eq.branch [
        | else-eq-via-then-eq+else-passes w ↦
            (let here = subst (λ (b : Bool). goal.F-post g c.args.passes c.in_ok-number.number b) w.if-passes.false w.passes.ensures in
            subst (λ (n : ℕ). goal.F-post g c.args.passes n false) this here)
        | else-eq-via-else-eq w ↦
            (let read : c.index-in-loop-at.result.now ≡ Some c.args.hash = grind (arith, common_steps) in
            let fails = sym (same_hash c.index-in-loop-at.result.now c.args.hash read) ∙ sym c.eq.ensures ∙ w.if-eq.false in
            absurd (cc fails))
      ])
]

pub returns-clause-absent : goal.returns-clause-absent
returns-clause-absent g c =
    let buckets : List (Option ℕ) = c.self.inside.buckets.items in
    let hashes : List (Option ℕ) = c.self.inside.hashes.items in
    let empty : bucket buckets c.loop-at.at ≡ None = grind (arith, common_steps) in
    let size : c.len.result ≡ length hashes = omega arith in
    λ number under.
    (let its : hash_of hashes number ≡ Some c.args.hash = hash_in c.self.inside.count hashes c.args.self.now number c.self.view_is ∙ under in
    let walk = on_the_walk hashes buckets number c.args.hash c.len.result c.home_of-home.result c.loop-at.at c.self.invariant.probing its size c.home_of-home.ensures.value (omega arith) empty in
    c.loop-at.invariant walk.0 number walk.1 walk.2 walk.3 its)
