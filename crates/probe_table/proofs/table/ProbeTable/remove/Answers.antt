use Rattle.std.proofs.Common.{◌≡◌, ℕ, ◌<◌, length, None, Some, List, Option, sym, subst, arith, set}
use Rattle.std.proofs.lemmas.Grind.{common_steps}
use Rattle.probe_table.specs.Entries.{hash_of}
use Rattle.probe_table.specs.Probing.{bucket, IsProbing}
use Rattle.probe_table.proofs.Writes.{read_is}
use Rattle.probe_table.proofs.Standing.{place_of}
use Rattle.probe_table.proofs.Growing.{set_in, there_in}
use Rattle.probe_table.proofs.Removing.{removed}
use Rattle.probe_table.proofs.table.ProbeTable.remove.Goals as goal

pub first_with-at-requires : goal.first_with-at-requires
first_with-at-requires c = λ passed.
    let buckets : List (Option ℕ) = c.self.inside.buckets.items in
    let hashes : List (Option ℕ) = c.self.inside.hashes.items in
    let below : c.args.number < length hashes = there_in c.self.inside.count hashes c.args.self.now c.args.number c.self.view_is c.requires in
    let under : hash_of hashes c.args.number ≡ Some c.unwrap-hash.result = read_is hashes c.args.number _ _ below c.index.ensures c.unwrap-hash.ensures in
    let size : c.len.result ≡ length hashes = omega arith in
    let place = place_of hashes buckets (length buckets) c.args.number c.unwrap-hash.result c.self.invariant.probing under in
    let behind = c.self.invariant.probing.behind place.0 c.args.number c.unwrap-hash.result place.1 under in
    grind (arith, common_steps, passed place.0, place.1, c.home_of-home.ensures.value, c.deref.ensures.value)

pub close_gap-requires-clause-probing : goal.close_gap-requires-clause-probing
close_gap-requires-clause-probing c =
    let buckets : List (Option ℕ) = c.self.inside.buckets.items in
    let hashes : List (Option ℕ) = c.self.inside.hashes.items in
    let below : c.args.number < length hashes = there_in c.self.inside.count hashes c.args.self.now c.args.number c.self.view_is c.requires in
    let under : hash_of hashes c.args.number ≡ Some c.unwrap-hash.result = read_is hashes c.args.number _ _ below c.index.ensures c.unwrap-hash.ensures in
    let stands : bucket buckets c.first_with-at.result ≡ Some c.args.number = grind arith in
    let is : IsProbing (set hashes c.args.number None) (set buckets c.first_with-at.result None) c.first_with-at.result
    = removed hashes buckets c.args.number c.unwrap-hash.result c.first_with-at.result c.self.invariant.probing under stands in
    subst (λ (xs : List (Option ℕ)). IsProbing xs c.deref_mut.result.now c.first_with-at.result) (sym c.deref-2.ensures.value)
    (subst (λ (xs : List (Option ℕ)). IsProbing (set hashes c.args.number None) xs c.first_with-at.result) (sym c.deref_mut.ensures.value) is)

pub returns : goal.returns
returns c =
    let hashes : List (Option ℕ) = c.self.inside.hashes.items in
    set_in c.self.inside.count hashes c.args.self.now c.args.number None c.self.view_is (there_in c.self.inside.count hashes c.args.self.now c.args.number c.self.view_is c.requires)
