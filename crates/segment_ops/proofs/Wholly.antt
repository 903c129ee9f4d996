-- Saves change nothing that a node reads; and one fault after another.
use Rattle.std.proofs.Common.{List, ℕ, ap, ◌≡◌, ◌∙◌}
use Rattle.vm_ids.specs.declared.node_name.NodeName.{NodeName}
use Rattle.vm_ids.specs.Forest.Shape.{IsWellShaped}
use Rattle.local_cache.specs.Changes.{Like}
use Rattle.vm_ids.specs.Counting.{MapperCounts}
use Rattle.vm_ids.specs.Forest.Reading.{value_of}
use Rattle.vm_ids.specs.Forest.Saving.{saves}
use Rattle.vm_ids.proofs.Forest.Saving.{saves_keep_values}
use Rattle.local_cache.specs.Reading.{name_of}
use Rattle.local_cache.proofs.Names.Homes.{home-like}
use Rattle.local_cache.proofs.Whole.Like.{like_whole}
use Rattle.residency.specs.StoreForest.{store_forest}
use Rattle.residency.specs.World.{World}
use Rattle.fault_path.specs.Answers.{IsAnswered}
use Rattle.fault_path.proofs.Calls.Answered.{later_then}
use Rattle.fault_path.proofs.Frames.TwoFrames.{kept_then}
use Rattle.segment_ops.specs.Keeping.{StaysWhole}
use Rattle.segment_ops.proofs.Values.{ReadsOn, tells_values, values_then}

-- saves change nothing that a node reads
pub saves_read : (a b : World) (done : ℕ) (names : List NodeName) → store_forest b ≡ saves done names (store_forest a) → Like a.caches b.caches → IsWellShaped (store_forest a) → ReadsOn a b
saves_read a b done names forest like shaped = record {
  values = λ n. ap (value_of (store_forest b)) (like.name n) ∙ ap (λ f. value_of f (name_of a.caches n)) forest ∙ saves_keep_values done names (store_forest a) shaped (name_of a.caches n);
  homes = λ n. home-like a.caches b.caches like n;
}

-- a fault after what was done before
pub stays_then : (a b v : World) (c d e : MapperCounts) → StaysWhole a b c d → IsAnswered b v d e → ReadsOn a b → StaysWhole a v c e
stays_then a b v c d e first next reads = record {
  kept = kept_then a b v first.kept next.kept;
  whole = like_whole b.caches v.caches first.whole next.kept.nodes next.kept.sound next.kept.shaped;
  later = later_then c d e first.later next.later;
  told = values_then a b reads v c d e next.later first.told (tells_values b first.kept.sound first.kept.shaped v d e next.told);
}
