-- One page of a move: which nodes there are then.
use Rattle.std.proofs.Common.{◌≡◌, ◌≢◌, ◌+◌, ◌≤◌, Bool, cond, [], ◌∷◌, Some, sym, ap, ◌∙◌, subst, arith, inl, inr}
use Rattle.vm_ids.specs.declared.node_name.NodeName.{NodeName}
use Rattle.vm_ids.specs.Forest.NameLists.{swapped}
use Rattle.vm_ids.specs.Forest.NameMap.{contains_key, len, remove}
use Rattle.vm_ids.specs.Forest.Changes.{free, rename}
use Rattle.vm_ids.specs.Forest.Nodes.{Forest, IsNode, childless}
use Rattle.vm_ids.specs.Forest.Nodes.Hang.{Root}
use Rattle.vm_ids.specs.Forest.Rules.{move_page, retire}
use Rattle.vm_ids.specs.Forest.Shape.{IsConsistent}
use Rattle.vm_ids.specs.Forest.Laws.Linking.{ArePages}
use Rattle.vm_ids.proofs.Forest.Detaching.{rename-names, swapped_a, swapped_b, swapped_other}
use Rattle.vm_ids.proofs.Forest.NameMap.{len-remove}
use Rattle.vm_ids.proofs.Forest.Names.{name_cases}
use Rattle.vm_ids.proofs.Forest.NodesAfter.{IsNode-put, free-IsNode, put-IsNode}
use Rattle.vm_ids.proofs.Forest.OneDetached.{gone, retired}
use Rattle.vm_ids.proofs.Forest.Lengths.{more_names, put_len, retire_len}

module _ {P : Type 0} (f : Forest P) (c : IsConsistent f) (d s : NodeName) (pages : ArePages f d s) (zeros : P) where
  abbrev bare : Forest P
  bare = retire f d

  source_apart : s ≢ d
  source_apart e = pages.apart (sym e)

  pub source_stays : IsNode (retire f d) s
  source_stays = (retired f c d pages.destination pages.live_destination).stays s pages.source source_apart

  destination_gone : IsNode (retire f d) d → ⊥
  destination_gone = gone f c d pages.destination pages.live_destination

  moved_there : (z : NodeName) → IsNode f z → z ≢ s → IsNode (rename (retire f d) s d) z
  moved_there z is apart = rename-names bare s d z ∙ elim (name_cases z d) [
    | inl e ↦ ap (λ y. contains_key bare.nodes (swapped s d y)) e ∙ ap (contains_key bare.nodes) (swapped_b s d pages.apart) ∙ source_stays
    | inr other ↦ ap (contains_key bare.nodes) (swapped_other s d z apart other) ∙ (retired f c d pages.destination pages.live_destination).stays z is other
  ]

  -- no page goes
  pub move_page_stays : (z : NodeName) → IsNode f z → IsNode (move_page f d s zeros) z
  move_page_stays z is = elim (name_cases z s) [
    | inl e ↦ subst (IsNode (move_page f d s zeros)) (sym e) (IsNode-put (rename bare s d) s (childless (Some zeros) Root))
    | inr apart ↦ put-IsNode (rename bare s d) s z (childless (Some zeros) Root) (moved_there z is apart)
  ]

  without_len : 1 + len (free (retire f d) s).nodes ≡ len (retire f d).nodes
  unfolding free
  without_len = ap (λ (b : Bool). cond b 1 0 + len (remove bare.nodes s)) (sym source_stays) ∙ len-remove bare.nodes s

  moved_len : len (rename (retire f d) s d).nodes ≤ len f.nodes
  moved_len =
      let most = more_names (free bare s) (rename bare s d) (d ∷ []) (λ z there. elim (name_cases z d) [
        | inl e ↦ inl (inl e)
        | inr other ↦
            let was : IsNode bare (swapped s d z) = sym (rename-names bare s d z) ∙ there in
            elim (name_cases z s) [
              | inl e ↦ absurd (destination_gone (subst (IsNode bare) (ap (swapped s d) e ∙ swapped_a s d) was))
              | inr apart ↦ inr (free-IsNode bare s z apart (subst (IsNode bare) (swapped_other s d z apart other) was))
            ]
      ]) in
      omega (arith, most, without_len, retire_len f c d pages.destination pages.live_destination)

  pub move_page_len : len (move_page f d s zeros).nodes ≤ len f.nodes + 1
  move_page_len = omega (arith, moved_len, put_len (rename bare s d) s (childless (Some zeros) Root))
