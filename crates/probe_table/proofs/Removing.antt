-- A number is removed: its bucket is a gap then.
use Rattle.std.proofs.Common.{◌≡◌, ℕ, ◌<◌, List, length, set, Option, Some, None, arith}
use Rattle.std.proofs.lemmas.Grind.{common_steps}
use Rattle.probe_table.specs.Entries.{hash_of}
use Rattle.probe_table.specs.Probing.{bucket, IsProbing}
use Rattle.probe_table.proofs.Writes.{some_below}

pub removed : (hashes buckets : List (Option ℕ)) (number hash at : ℕ) → IsProbing hashes buckets (length buckets) → hash_of hashes number ≡ Some hash → bucket buckets at ≡ Some number → IsProbing (set hashes number None) (set buckets at None) at
removed hashes buckets number hash at is under stands =
    let below : number < length hashes = some_below hashes number hash under in
    let within : at < length buckets = some_below buckets at number stands in
    record {
      few = grind (arith, common_steps, is.few);
      room = grind (arith, common_steps, is.room);
      once = λ n. grind (arith, common_steps, is.once n);
      taken = grind (arith, common_steps, is.taken);
      behind = λ j n h there its. grind (arith, common_steps, is.behind j n h);
      reached = λ j n h there its k low high off. grind (arith, common_steps, is.reached j n h, some_below buckets j n);
    }
