-- A node is cut off, whichever link it hangs by.
use Rattle.std.proofs.Common.{◌≡◌, true, cond, is_some, unwrap_or, Option, Some, None, refl, sym, ap, ◌∙◌, inl, inr}
use Rattle.std.proofs.lemmas.Bool.{false≢true}
use Rattle.vm_ids.specs.declared.node_name.NodeName.{NodeName}
use Rattle.vm_ids.specs.Forest.Names.{same}
use Rattle.vm_ids.proofs.Forest.Names.{name_cases, same_itself, same_apart}
use Rattle.vm_ids.specs.Forest.NameMap.{insert, get}
use Rattle.vm_ids.proofs.Forest.NameMap.{get-insert, same_map}
use Rattle.vm_ids.specs.Forest.Nodes.{Forest, Node, node, IsNode, childless, is_stub}
use Rattle.vm_ids.specs.Forest.Nodes.Hang.{Root, StubOf}
use Rattle.vm_ids.specs.Forest.NameLists.{without}
use Rattle.vm_ids.specs.Forest.Shape.{IsLinked}
use Rattle.vm_ids.specs.Forest.Changes.{put, edit, cut, cut_stub, relist, with_hang, with_own}
use Rattle.vm_ids.proofs.Forest.NodesAfter.{keeps, node-put, node-put_other}
use Rattle.vm_ids.proofs.Forest.Cutting.{linked_by_columns}
use Rattle.vm_ids.specs.declared.numbers.NodeId.{NodeId}
use Rattle.local_cache.specs.Arena.{Arena, cell, HasNode}
use Rattle.local_cache.specs.Changes.{Relinked}
use Rattle.local_cache.specs.Reading.{name_of, node_of, forest_of, hang_by}
use Rattle.local_cache.specs.Sound.{IsSound}
use Rattle.local_cache.proofs.Changes.SameNodes.{rehung_itself}
use Rattle.local_cache.proofs.Forest.Reading.{node-forest_of, IsNode-forest_of}
use Rattle.tree_merge.proofs.Place.Step.{Step}

module _ {P : Type 0} where
  -- a node put where it is
  pub put_same : (f : Forest P) (x : NodeName) (n : Node P) → IsNode f x → n ≡ node f x → put f x n ≡ f
  unfolding put node
  put_same f x n is e =
      let nodes : insert f.nodes x n ≡ f.nodes =
      same_map (insert f.nodes x n) f.nodes (λ q. get-insert f.nodes x n q ∙ elim (name_cases q x) [
        | inl same_name ↦ ap (λ c. cond c (Some n) (get f.nodes q)) (ap (λ k. same k x) same_name ∙ same_itself x) ∙ ap Some e ∙ whole (get f.nodes x) is ∙ ap (get f.nodes) (sym same_name)
        | inr apart ↦ ap (λ c. cond c (Some n) (get f.nodes q)) (same_apart q x apart)
      ]) in
      λ i. record { nodes = nodes i; made = f.made; copies = f.copies }
    where
      whole : (o : Option (Node P)) → is_some o ≡ true → Some (unwrap_or o (childless None Root)) ≡ o
      whole (Some v) e = refl
      whole None e = absurd (false≢true e)

  -- a node without a parent stays as it is
  pub cut_root : (f : Forest P) (x : NodeName) → IsNode f x → (node f x).hang ≡ Root → cut f x ≡ f
  unfolding cut relist
  cut_root f x is root = ap (λ h. edit (relist f h (without x)) x (with_hang Root)) root ∙ put_same f x (with_hang Root (node f x)) is (λ i. record (node f x) { hang = sym root i })

  pub cut_by_stub : (f : Forest P) (x : NodeName) → is_stub (node f x).hang ≡ true → cut_stub f x ≡ cut f x
  unfolding cut_stub
  cut_by_stub f x e = ap (λ b. cond b (cut f x) f) e

  -- a stub that has no own page may lose it
  pub bare-linked : (f : Forest P) → IsLinked f → (x p : NodeName) → (node f x).hang ≡ StubOf p → IsLinked (edit f x (with_own None))
  bare-linked f linked x p hang_is = linked_by_columns f _ linked (keeps (λ n. n.hang) f x _ refl) (keeps (λ n. n.tree) f x _ refl) (keeps (λ n. n.stubs) f x _ refl)
      (λ y q u. elim (name_cases y x) [
        | inl e ↦ ap (λ z. (node (put f x (with_own None (node f x))) z).own) e ∙ ap (λ n. n.own) (node-put f x (with_own None (node f x)))
        | inr apart ↦ ap (λ n. n.own) (node-put_other f x y _ apart) ∙ linked.stub_bare y q u
      ])

-- what cutting a stub needs and gives
module _ (a : Arena) (sound : IsSound a) (n p : NodeId) (hn : HasNode a n) (up : (cell a n).links.parent ≡ Some p) (by_stub : (cell a n).links.by_stub ≡ true) where
  pub hang_stub : (node_of a n).hang ≡ StubOf (name_of a p)
  hang_stub = ap (λ o. hang_by a o (cell a n).links.by_stub) up ∙ ap (hang_by a (Some p)) by_stub

  pub hang_stub_named : (node (forest_of a) (name_of a n)).hang ≡ StubOf (name_of a p)
  hang_stub_named = ap (λ m. m.hang) (node-forest_of a sound.kept.named n hn) ∙ hang_stub

  pub cut_linked : IsLinked (edit (forest_of a) (name_of a n) (with_own None))
  cut_linked = bare-linked (forest_of a) sound.linked (name_of a n) (name_of a p) hang_stub_named

  pub is_a_stub : is_stub (node_of a n).hang ≡ true
  is_a_stub = ap is_stub hang_stub

  pub cut_stub-Step : (b : Arena) → forest_of b ≡ cut_stub (forest_of a) (name_of a n) → IsSound b → Relinked a b → b.room ≡ a.room → Step a b (cut (forest_of a) (name_of a n))
  cut_stub-Step b forest is_sound links room = record {
    forest = forest ∙ cut_by_stub (forest_of a) (name_of a n) (ap is_stub hang_stub_named);
    sound = is_sound;
    rehung = record { like = links.like; own = links.own; made = sym links.made; copies = sym links.copies; room = room };
  }

-- a node without a parent
pub no_parent-Step : (a : Arena) → IsSound a → (n : NodeId) → HasNode a n → (cell a n).links.parent ≡ None → Step a a (cut (forest_of a) (name_of a n))
no_parent-Step a sound n hn none = record {
  forest = sym (cut_root (forest_of a) (name_of a n) (IsNode-forest_of a sound.kept.named n hn) (ap (λ m. m.hang) (node-forest_of a sound.kept.named n hn) ∙ ap (λ o. hang_by a o (cell a n).links.by_stub) none));
  sound = sound;
  rehung = rehung_itself a;
}
