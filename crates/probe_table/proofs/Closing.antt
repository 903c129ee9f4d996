-- A gap is closed from behind: as far as the walk has come, nothing misses the bucket that is empty
-- now.
use Rattle.std.proofs.Common.{◌≡◌, ◌≢◌, ℕ, ◌+◌, ◌<◌, ◌≤◌, List, length, set, Option, Some, None, arith}
use Rattle.std.proofs.lemmas.Bool.Decides.{nat_tests}
use Rattle.std.proofs.lemmas.Grind.{common_steps, get_or-set_at}
use Rattle.std.proofs.lemmas.List.{get_or-set_other, length-set}
use Rattle.std.proofs.lemmas.List.Sums.{sum_by-set}
use Rattle.probe_table.specs.Entries.{hash_of}
use Rattle.probe_table.specs.Probing.{bucket, home_of, IsProbing}
use Rattle.probe_table.proofs.Writes.{some_below}

pub record IsClosing (hashes buckets : List (Option ℕ)) (gap at : ℕ) : Type 0 where
  pub before : gap < at
  pub within : gap < length buckets
  pub empty : bucket buckets gap ≡ None
  pub probing : IsProbing hashes buckets gap
  pub between : (k : ℕ) → gap < k → k < at → bucket buckets k ≢ None
  pub settled : (j number hash : ℕ) → gap < j → j < at → bucket buckets j ≡ Some number → hash_of hashes number ≡ Some hash → gap < home_of (length hashes) hash

pub closing_starts : (hashes buckets : List (Option ℕ)) (gap : ℕ) → gap < length buckets → bucket buckets gap ≡ None → IsProbing hashes buckets gap → IsClosing hashes buckets gap (gap + 1)
closing_starts hashes buckets gap within empty is = record {
  before = omega arith;
  within = within;
  empty = empty;
  probing = is;
  between = λ k low high. absurd (omega arith);
  settled = λ j n h low high. absurd (omega arith);
}

-- the number here doesn't miss the gap
pub closing_stays : (hashes buckets : List (Option ℕ)) (gap at number hash : ℕ) → IsClosing hashes buckets gap at → bucket buckets at ≡ Some number → hash_of hashes number ≡ Some hash → gap < home_of (length hashes) hash → IsClosing hashes buckets gap (at + 1)
closing_stays hashes buckets gap at number hash is stands under past = record {
  before = omega (arith, is.before);
  within = is.within;
  empty = is.empty;
  probing = is.probing;
  between = λ k low high. grind (arith, common_steps, is.between k);
  settled = λ j n h low high there its. grind (arith, common_steps, is.settled j n h);
}

-- the number here moves into the gap, and leaves one here
pub closing_moves : (hashes buckets : List (Option ℕ)) (gap at number hash : ℕ) → IsClosing hashes buckets gap at → bucket buckets at ≡ Some number → hash_of hashes number ≡ Some hash → home_of (length hashes) hash ≤ gap → IsClosing hashes (set (set buckets gap (Some number)) at None) at (at + 1)
closing_moves hashes buckets gap at number hash is stands under low =
    let inside : at < length buckets = some_below buckets at number stands in
    let before : gap < at = is.before in
    let within : gap < length buckets = is.within in
    let empty : bucket buckets gap ≡ None = is.empty in
    record {
      before = omega arith;
      within = grind (arith, common_steps);
      empty = grind (arith, common_steps);
      between = λ k from to. absurd (omega arith);
      settled = λ j n h from to. absurd (omega arith);
      probing = record {
        few = is.probing.few;
        room = grind (arith, common_steps, is.probing.room);
        once = λ n. grind (arith, nat_tests, sum_by-set, get_or-set_other, length-set, is.probing.once n);
        taken = grind (arith, sum_by-set, get_or-set_other, length-set, is.probing.taken);
        behind = λ j n h there its. grind (arith, common_steps, is.probing.behind j n h);
        reached = λ j n h there its k from to off. grind (arith, get_or-set_at, get_or-set_other, length-set, is.probing.reached j n h, is.probing.reached at number hash stands under k);
      };
    }

-- at an empty bucket, or behind the last, no number behind it can miss the gap
pub closing_ends : (hashes buckets : List (Option ℕ)) (gap at end : ℕ) → IsClosing hashes buckets gap at → bucket buckets at ≡ None → IsProbing hashes buckets end
closing_ends hashes buckets gap at end is none = record {
  few = is.probing.few;
  room = is.probing.room;
  once = is.probing.once;
  taken = is.probing.taken;
  behind = is.probing.behind;
  reached = λ j n h there its k from to off. grind (arith, common_steps, is.before, is.settled j n h, is.probing.reached j n h there its k, is.probing.reached j n h there its at);
}
