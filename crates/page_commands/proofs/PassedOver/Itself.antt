-- A page to which nothing is linked is replaced by what it has, and nothing changes.
use Rattle.std.proofs.Common.{◌≡◌, ◌+◌, cond, List, [], ◌∷◌, length, Option, Some, None, unwrap_or, refl, sym, ap, ◌∙◌, inl, inr}
use Rattle.vm_ids.specs.declared.node_name.NodeName.{NodeName}
use Rattle.vm_ids.specs.Forest.Changes.{cut, edit, free, put, relist, with_hang}
use Rattle.vm_ids.specs.Forest.Commands.{replace_pages}
use Rattle.vm_ids.specs.Forest.NameLists.{◌∈◌, without}
use Rattle.vm_ids.specs.Forest.NameMap.{get}
use Rattle.vm_ids.specs.Forest.Names.{same}
use Rattle.vm_ids.specs.Forest.Nodes.{Forest, Node, childless, node}
use Rattle.vm_ids.specs.Forest.Nodes.Hang.{Root}
use Rattle.vm_ids.specs.Forest.Rules.{detach}
use Rattle.vm_ids.proofs.Forest.Counters.{free-counters, put-counters}
use Rattle.vm_ids.proofs.Forest.Names.{name_cases, same_apart, same_itself}
use Rattle.vm_ids.proofs.Forest.PageMap.{get-free, get-put, same_forest}
use Rattle.tree_merge.proofs.Leaving.Retired.{retire_none}
use Rattle.page_commands.proofs.CommandSteps.Replacing.{with_page}

module _ {P : Type 0} where
  module _ (f : Forest P) (x : NodeName) (v : P) (is : node f x ≡ childless (Some v) Root) where
    here : get f.nodes x ≡ Some (childless (Some v) Root)
    unfolding node
    here = go (get f.nodes x) is
      where
        go : (o : Option (Node P)) → unwrap_or o (childless None Root) ≡ childless (Some v) Root → o ≡ Some (childless (Some v) Root)
        go None e = absurd (let clash : None ≡ Some v = ap (λ n. n.own) e in cc clash)
        go (Some n) e = ap Some e

    cut_root : cut f x ≡ put f x (with_hang Root (node f x))
    unfolding cut relist
    cut_root = ap (λ h. edit (relist f h (without x)) x (with_hang Root)) (ap (λ n. n.hang) is)

    -- what is retired and made again
    abbrev emptied : Forest P
    emptied = free (put f x (with_hang Root (node f x))) x

    detached : detach f x (Some v) ≡ put (free (put f x (with_hang Root (node f x))) x) x (childless (Some v) Root)
    unfolding detach
    detached = ap (λ g. put g x (childless (Some v) Root)) (retire_none f x (ap (λ n. length n.tree + length n.stubs) is) ∙ ap (λ g. free g x) cut_root)

    pub detach_itself : detach f x (Some v) ≡ f
    detach_itself =
        let c = put-counters emptied x (childless (Some v) Root) in
        let d = free-counters (put f x (with_hang Root (node f x))) x in
        let e = put-counters f x (with_hang Root (node f x)) in
        detached ∙ same_forest _ f (λ y. get-put emptied x (childless (Some v) Root) y ∙ elim (name_cases y x) [
          | inl q ↦ ap (λ b. cond b (Some (childless (Some v) Root)) (get emptied.nodes y)) (ap (λ z. same z x) q ∙ same_itself x) ∙ sym here ∙ ap (get f.nodes) (sym q)
          | inr apart ↦
              let out = same_apart y x apart in
              ap (λ b. cond b (Some (childless (Some v) Root)) (get emptied.nodes y)) out
              ∙ get-free (put f x (with_hang Root (node f x))) x y ∙ ap (λ b. cond b None (get (put f x (with_hang Root (node f x))).nodes y)) out
              ∙ get-put f x (with_hang Root (node f x)) y ∙ ap (λ b. cond b (Some (with_hang Root (node f x))) (get f.nodes y)) out
        ]) (c.made ∙ d.made ∙ e.made) (c.copies ∙ d.copies ∙ e.copies)

  -- so are many
  pub replaced_itself : (page : NodeName → P) (xs : List NodeName) (f : Forest P) → ((x : NodeName) → x ∈ xs → node f x ≡ childless (Some (page x)) Root) → f ≡ replace_pages (with_page page xs) f
  replaced_itself page [] f are = refl
  replaced_itself page (x ∷ xs) f are = replaced_itself page xs f (λ y i. are y (inr i)) ∙ ap (replace_pages (with_page page xs)) (sym (detach_itself f x (page x) (are x (inl refl))))
