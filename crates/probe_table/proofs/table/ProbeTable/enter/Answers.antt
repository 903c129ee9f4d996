use Rattle.std.proofs.Common.{◌≡◌, ℕ, ◌*◌, List, Option, None, Some, length, set, sym, subst, ◌∙◌, arith, length-set}
use Rattle.std.proofs.lemmas.List.{with_items_is}
use Rattle.probe_table.specs.Probing.{IsPassed, IsProbing}
use Rattle.probe_table.proofs.Standing.{is_room}
use Rattle.probe_table.proofs.Growing.{hash_in, set_in}
use Rattle.probe_table.proofs.table.ProbeTable.enter.Goals as goal

pub put-requires-clause-room : goal.put-requires-clause-room
put-requires-clause-room c = λ passed.
    let hashes : List (Option ℕ) = c.bring.new.hashes.items in
    let buckets : List (Option ℕ) = c.bring.new.buckets.items in
    let size : c.len.result ≡ length hashes = omega arith in
    is_room hashes buckets c.args.number c.bring.ensures.kept.probing c.bring.ensures.at
    (hash_in c.self.inside.count hashes c.args.self.now c.args.number (c.bring.ensures.same ∙ c.self.view_is) ∙ c.requires.absent)
    (subst (λ (n : ℕ). IsPassed buckets (2 * n) (length buckets) None) size
    (subst (λ (xs : List (Option ℕ)). IsPassed xs (2 * c.len.result) (length xs) None) c.deref_mut.ensures.value passed))

pub invariant_of-self : goal.invariant_of-self
invariant_of-self c =
    let hashes : List (Option ℕ) = c.bring.new.hashes.items in
    let kept = c.bring.ensures.kept in
    let size : length hashes ≡ c.len.result = omega arith in
    let In : List (Option ℕ) → List (Option ℕ) → Type 0 = λ xs buckets. IsProbing xs buckets (length buckets) in
    let written = with_items_is c.bring.new.buckets c.put.new.buckets (omega (arith, c.put.auto.buckets, c.deref_mut.ensures.len)) in
    record {
      probing = subst (In (set hashes c.args.number (Some c.args.hash))) (sym written)
          (c.put.ensures hashes (subst (In hashes) (sym c.deref_mut.ensures.value) kept.probing) size c.bring.ensures.at
          (hash_in c.self.inside.count hashes c.args.self.now c.args.number (c.bring.ensures.same ∙ c.self.view_is) ∙ c.requires.absent));
      few = kept.few;
      within = omega (arith, kept.within, length-set hashes c.args.number (Some c.args.hash));
      hashes_room = kept.hashes_room;
      buckets_room = kept.buckets_room;
    }

pub returns : goal.returns
returns c = set_in c.self.inside.count c.bring.new.hashes.items c.args.self.now c.args.number (Some c.args.hash) (c.bring.ensures.same ∙ c.self.view_is) c.bring.ensures.at
