-- What becomes of translations by whole commands.
use Rattle.std.proofs.Common.{◌≡◌, ◌≢◌, ◌⊎◌, ℕ, false, List, Option, None, ap, ◌∙◌, subst, sym, inl, inr}
use Rattle.std.specs.Prelude.{option_and_then}
use Rattle.vm_ids.specs.declared.node_name.NodeName.{NodeName}
use Rattle.vm_ids.specs.Forest.Commands.{copy, destroy, firsts, move_, replace_pages, seconds}
use Rattle.vm_ids.specs.Forest.Laws.Commands.{ArePagesOnce, CanCopy}
use Rattle.vm_ids.specs.Forest.NameLists.{◌∈◌}
use Rattle.vm_ids.specs.Forest.Reading.{value_of}
use Rattle.vm_ids.specs.Forest.Settling.{settle}
use Rattle.vm_ids.specs.Forest.Shape.{IsConsistent}
use Rattle.local_cache.specs.declared.own_state.OwnState.TheVariants.{Absent, Zero, OnSegment}
use Rattle.local_cache.specs.Arena.{Arena}
use Rattle.local_cache.specs.Reading.{forest_of}
use Rattle.local_cache.specs.Sound.{IsSound}
use Rattle.residency.specs.Seeing.{IsAlone, frame_forest, seen_in}
use Rattle.residency.specs.declared.store.Store.{Store}
use Rattle.page_commands.specs.Readings.{held_pages, new_frames, new_states}
use Rattle.page_commands.specs.Translating.{DropsFreed, Replaces}
use Rattle.page_commands.proofs.Alone.Commands.{copy-alone, destroy-alone, move-alone, replace-alone}
use Rattle.page_commands.proofs.Alone.Marked.{HasAlone}
use Rattle.page_commands.proofs.Alone.Outside.{copy_outside, destroy_outside, move_outside, replace_outside}
use Rattle.page_commands.proofs.SeenFrames.Shape.{frame_can, frame_consistent, frame_pages}
use Rattle.page_commands.proofs.CommandSteps.Replacing.{first_names}

module _ (a : Arena) (s : Store) (b : Arena) (t : Store) (sound : IsSound a) (c : IsConsistent (forest_of a)) (tables : DropsFreed s t) where
  was_alone : (x : NodeName) → IsAlone a x → HasAlone (forest_of a) x
  was_alone x is = record { owned = is.owned; last = is.last }

  is_alone : (x : NodeName) → HasAlone (forest_of b) x → IsAlone b x
  is_alone x is = record { owned = is.owned; last = is.last }

  seen_by : (x : NodeName) → value_of (frame_forest b t.map) x ≡ value_of (frame_forest a s.map) x → seen_in b t.map x ≡ seen_in a s.map x
  seen_by x same = ap (λ (o : Option (Option ℕ)). option_and_then (λ frame. frame) o) same

  two_states : Absent ≢ Zero
  two_states e = cc e

  pub copy_replaces : (pairs : List (NodeName × NodeName)) → CanCopy (forest_of a) pairs → forest_of b ≡ copy false pairs (forest_of a) → frame_forest b t.map ≡ copy false pairs (frame_forest a s.map) → Replaces (λ x. x ∈ firsts pairs) (λ x. x ∈ seconds pairs) a s b t
  copy_replaces pairs can nodes frames = record {
    tables = tables;
    seen = λ x live out. seen_by x (ap (λ f. value_of f x) frames ∙ copy_outside x live pairs (frame_forest a s.map) (frame_consistent a s.map sound c) (frame_can a s.map sound pairs can) out);
    alone = λ x live out none is. is_alone x (subst (λ f. HasAlone f x) (sym nodes) (copy-alone (forest_of a) c x live (was_alone x is) Absent Zero two_states pairs can out none));
  }

  pub move_replaces : (pairs : List (NodeName × NodeName)) → CanCopy (forest_of a) pairs → forest_of b ≡ move_ false Zero pairs (forest_of a) → frame_forest b t.map ≡ move_ false None pairs (frame_forest a s.map) → Replaces (λ x. (x ∈ firsts pairs) ⊎ (x ∈ seconds pairs)) (λ x. ⊥) a s b t
  move_replaces pairs can nodes frames = record {
    tables = tables;
    seen = λ x live out. seen_by x (ap (λ f. value_of f x) frames
        ∙ move_outside x live None pairs (frame_forest a s.map) (frame_consistent a s.map sound c) (frame_can a s.map sound pairs can) (λ i. out (inl i)) (λ i. out (inr i)));
    alone = λ x live out none is. is_alone x (subst (λ f. HasAlone f x) (sym nodes) (move-alone (forest_of a) c x live (was_alone x is) Absent Zero two_states Zero pairs can (λ i. out (inl i)) (λ i. out (inr i))));
  }

  pub destroy_replaces : (xs : List NodeName) → ArePagesOnce (forest_of a) xs → forest_of b ≡ destroy false xs (forest_of a) → frame_forest b t.map ≡ destroy false xs (frame_forest a s.map) → Replaces (λ x. x ∈ xs) (λ x. ⊥) a s b t
  destroy_replaces xs are nodes frames = record {
    tables = tables;
    seen = λ x live out. seen_by x (ap (λ f. value_of f x) frames ∙ destroy_outside x live xs (frame_forest a s.map) (frame_consistent a s.map sound c) (frame_pages a s.map sound xs are) out);
    alone = λ x live out none is. is_alone x (subst (λ f. HasAlone f x) (sym nodes) (destroy-alone (forest_of a) c x live (was_alone x is) Absent Zero two_states xs are out));
  }

  pub replace_replaces : (xs : List NodeName) → ArePagesOnce (forest_of a) xs → forest_of b ≡ settle (replace_pages (held_pages new_states xs) (forest_of a)) → frame_forest b t.map ≡ settle (replace_pages (held_pages new_frames xs) (frame_forest a s.map)) → Replaces (λ x. x ∈ xs) (λ x. ⊥) a s b t
  replace_replaces xs are nodes frames =
      let states : firsts (held_pages new_states xs) ≡ xs = first_names (λ x. OnSegment) xs in
      let nones : firsts (held_pages new_frames xs) ≡ xs = first_names (λ x. None) xs in
      record {
        tables = tables;
        seen = λ x live out. seen_by x (ap (λ f. value_of f x) frames
            ∙ replace_outside x live (held_pages new_frames xs) (frame_forest a s.map) (frame_consistent a s.map sound c) (subst (ArePagesOnce (frame_forest a s.map)) (sym nones) (frame_pages a s.map sound xs are)) (λ i. out (subst (λ ys. x ∈ ys) nones i)));
        alone = λ x live out none is. is_alone x (subst (λ f. HasAlone f x) (sym nodes)
            (replace-alone (forest_of a) c x live (was_alone x is) Absent Zero two_states (held_pages new_states xs) (subst (ArePagesOnce (forest_of a)) (sym states) are) (λ i. out (subst (λ ys. x ∈ ys) states i))));
      }
