-- What reads alike from one moment to the next.
use Rattle.std.proofs.Common.{◌≡◌, length, is_some, refl, ap, ◌∙◌, arith}
use Rattle.vm_ids.specs.Counting.{MapperCounts}
use Rattle.vm_ids.specs.Held.{segments_of}
use Rattle.vm_ids.specs.declared.node_name.NodeName.{NodeName}
use Rattle.vm_ids.specs.declared.numbers.NodeId.{NodeId}
use Rattle.vm_ids.specs.Forest.Reading.{value_of}
use Rattle.local_cache.specs.Arena.{find}
use Rattle.local_cache.specs.Reading.{name_of}
use Rattle.local_cache.specs.Whole.{IsWhole, SameCaches}
use Rattle.local_cache.proofs.Names.Homes.{home_kept}
use Rattle.local_cache.proofs.Tables.Sizes.{sizes_same, sizes_then}
use Rattle.local_cache.proofs.Whole.Like.{like_whole}
use Rattle.residency.specs.StoreForest.{store_forest}
use Rattle.residency.specs.World.{IsStoreRight, World}
use Rattle.fault_path.specs.Answers.{IsAnswered}
use Rattle.fault_path.proofs.Calls.Answered.{later_then}
use Rattle.residency.specs.Causes.{Later}
use Rattle.residency.proofs.Pushes.PushedPages.{tells_none}
use Rattle.segment_ops.proofs.Values.{ReadsOn, tells_values, values_then}
use Rattle.pvm_core.specs.Holding.{ReadsAlike}

no_later : (c : MapperCounts) → Later c c
no_later c = record { faults = omega arith; pulls = omega arith; pushes = omega arith }

-- the forest stays, and nothing is pushed
pub alike_still : (w v : World) (c : MapperCounts) → IsStoreRight v → IsWhole v.caches → SameCaches w.caches v.caches → ((n : NodeId) → is_some (find v.caches n) ≡ is_some (find w.caches n)) → ((n : NodeId) → name_of v.caches n ≡ name_of w.caches n)
    → store_forest v ≡ store_forest w → v.caches.made ≡ w.caches.made → length v.frames.held ≡ length w.frames.held → v.frames.page ≡ w.frames.page → v.page_bytes ≡ w.page_bytes → length v.slots ≡ length w.slots → v.told ≡ w.told → ReadsAlike w v c c
alike_still w v c right whole same held names forest made frames page page_bytes slots told = record {
  right = right;
  whole = whole;
  same = same;
  held = held;
  names = names;
  values = λ x. ap (λ f. value_of f x) forest;
  made = made;
  frames = frames;
  page = page;
  page_bytes = page_bytes;
  slots = slots;
  later = no_later c;
  told = tells_none w v c c (ap segments_of told) (omega arith);
}

-- after a fault that left what each page reads
pub alike_answered : (w v : World) (c d : MapperCounts) → IsWhole w.caches → IsAnswered w v c d → ((x : NodeName) → value_of (store_forest v) x ≡ value_of (store_forest w) x) → ReadsAlike w v c d
alike_answered w v c d whole answered values = record {
  right = answered.kept.right;
  whole = like_whole w.caches v.caches whole answered.kept.nodes answered.kept.sound answered.kept.shaped;
  same = sizes_same w.caches v.caches answered.kept.nodes.caches;
  held = answered.kept.nodes.held;
  names = answered.kept.nodes.name;
  values = values;
  made = answered.kept.made;
  frames = answered.kept.frames;
  page = answered.kept.page;
  page_bytes = answered.kept.page_bytes;
  slots = answered.kept.slots;
  later = answered.later;
  told = tells_values w whole.sound whole.consistent.shaped v c d answered.told;
}

reads_on : (a b : World) (c d : MapperCounts) → ReadsAlike a b c d → ReadsOn a b
reads_on a b c d k = record {
  values = λ n. ap (value_of (store_forest b)) (k.names n) ∙ k.values (name_of a.caches n);
  homes = λ n. home_kept a.caches b.caches k.same n (k.names n);
}

pub alike_then : (a b v : World) (c d e : MapperCounts) → ReadsAlike a b c d → ReadsAlike b v d e → ReadsAlike a v c e
alike_then a b v c d e one two = record {
  right = two.right;
  whole = two.whole;
  same = sizes_then a.caches b.caches v.caches one.same two.same;
  held = λ n. two.held n ∙ one.held n;
  names = λ n. two.names n ∙ one.names n;
  values = λ x. two.values x ∙ one.values x;
  made = two.made ∙ one.made;
  frames = two.frames ∙ one.frames;
  page = two.page ∙ one.page;
  page_bytes = two.page_bytes ∙ one.page_bytes;
  slots = two.slots ∙ one.slots;
  later = later_then c d e one.later two.later;
  told = values_then a b (reads_on a b c d one) v c d e two.later one.told two.told;
}
