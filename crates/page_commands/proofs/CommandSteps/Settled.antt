-- A command settled, and each page has a node still.
use Rattle.std.proofs.Common.{◌≡◌, ◌∙◌, ℕ, ◌≤◌, false, true, List, IsSome, sym, ap, arith}
use Rattle.vm_ids.specs.declared.node_name.NodeName.{NodeName}
use Rattle.vm_ids.specs.declared.numbers.NodeId.{NodeId}
use Rattle.vm_ids.specs.Forest.Laws.Settling.{IsSettled}
use Rattle.vm_ids.specs.Forest.NameLists.{◌∈◌}
use Rattle.vm_ids.specs.Forest.Settling.{settle}
use Rattle.vm_ids.specs.Forest.Shape.{IsBounded}
use Rattle.local_cache.specs.Arena.{Arena}
use Rattle.local_cache.specs.Home.{home_of}
use Rattle.local_cache.specs.Own.{own_of}
use Rattle.local_cache.specs.Reading.{forest_of, name_of}
use Rattle.local_cache.specs.Sound.{IsSound}
use Rattle.local_cache.specs.Whole.{IsWhole, SameCaches}
use Rattle.local_cache.proofs.Changes.SameNodes.{forest_of-copies}
use Rattle.local_cache.proofs.Whole.Commands.{whole_copied}
use Rattle.residency.specs.declared.store.Store.{Store}
use Rattle.residency.specs.World.{SameNodes, is_clean, is_name_granted}
use Rattle.page_commands.specs.Commands.{Grows, HasRoom, KeepsPages}
use Rattle.page_commands.specs.Steps.{Releases}
use Rattle.page_commands.proofs.TiedStores.Sized.{bounded_capacity, right_after, same_live}
use Rattle.page_commands.proofs.CommandSteps.Forgetting.{room_kept}

-- From a to b its pages were forgotten, from b to e nodes were made for them, and from e to d all
-- settled.
module _ (nodes : ℕ) (xs : List NodeName) (s : Store) (a b e : Arena) (t : Store) (d : Arena)
    (kept : Releases xs s a t d) (whole : IsWhole a) (room : HasRoom nodes a) (same : SameNodes a b) where
  pub pages_kept : IsWhole b → Grows nodes b e → SameCaches b e → forest_of d ≡ settle (forest_of e) → IsSound d → SameCaches e d → IsSettled (forest_of d) → IsBounded (forest_of d) → d.made ≡ e.made → e.room.nodes ≤ d.room.nodes
      → ((n : NodeId) → IsSome (home_of d n) → name_of d n ∈ xs → is_clean (own_of d n) ≡ false → is_name_granted a (name_of d n) ≡ true)
      → (forest_of d).copies ≡ (forest_of a).copies → KeepsPages nodes s a t d
  pages_kept between grows sizes is sound still settled bounded counted more listed copies =
      let now = whole_copied b e d between nodes (room_kept a b same nodes whole.sound room).few grows.consistent grows.stays grows.few sizes is sound still in
      let live = same_live a d whole now kept.sizes in
      record {
        settles = record {
          settled = settled;
          bounded = bounded;
          made = let made = ap (λ (k : Arena). k.made) same.rest in omega (arith, made, counted, grows.made);
          copies = sym (forest_of-copies d) ∙ copies ∙ forest_of-copies a;
        };
        whole = now;
        live = live;
        right = λ enough. right_after xs s a t d kept listed (λ _. bounded_capacity d _ kept.sound.kept.named bounded (omega (arith, enough, live)));
        room = let spare = ap (λ (k : Arena). k.room.nodes) same.rest in omega (arith, spare, more, grows.room);
      }
