-- One page copied or moved.
use Rattle.std.proofs.Common.{◌≡◌, ◌≢◌, ℕ, ◌+◌, ◌≤◌, length, Bool, true, false, cond, Some, None, refl, sym, ap, subst, ◌∙◌, inl, inr, arith}
use Rattle.vm_ids.specs.declared.node_name.NodeName.{NodeName}
use Rattle.vm_ids.specs.Forest.Names.{Working, same}
use Rattle.vm_ids.proofs.Forest.Names.{name_cases, same_itself, same_apart}
use Rattle.vm_ids.specs.Forest.NameLists.{swapped}
use Rattle.vm_ids.specs.Forest.Nodes.{Forest, node, IsNode, is_live, most_tree_children}
use Rattle.vm_ids.specs.Forest.Shape.{IsLinked, IsConsistent}
use Rattle.vm_ids.specs.Forest.Reading.{value_of}
use Rattle.vm_ids.specs.Forest.Changes.{rename}
use Rattle.vm_ids.specs.Forest.Rules.{retire, detach, copy_page, move_page}
use Rattle.vm_ids.specs.Forest.Values.{IsValue}
use Rattle.vm_ids.specs.Forest.Laws.Linking.{IsShapedBut, ArePages}
use Rattle.vm_ids.proofs.Forest.NodesAfter.{IsNode-put_cases}
use Rattle.vm_ids.proofs.Forest.Owning.{has_value}
use Rattle.vm_ids.proofs.Forest.LinkingOver.{node-none}
use Rattle.vm_ids.proofs.Forest.Renaming.{rename-values, rename-linked, back}
use Rattle.vm_ids.proofs.Forest.Detaching.{fresh-values, live_most, rename-names, swapped_a, swapped_b, swapped_other}
use Rattle.vm_ids.proofs.Forest.Counters.{rename-counters}
use Rattle.vm_ids.proofs.Forest.Agreeing.{value_equal}
use Rattle.vm_ids.proofs.Forest.OneDetached.{not_live, by_name, reads, value_by, fresh-consistent, fresh-value, retired, gone, retire-consistent, retire-value, detach-kept, detach-shaped_but, detach-stays, link-consistent, link-kept, link-of_source, link-names, stub-kept, stub-of_source, stub-names_back, stub-consistent}

module _ {P : Type 0} where
  -- one page of a copy, from s to d
  module _ (f : Forest P) (c : IsConsistent f) (d s : NodeName) (pages : ArePages f d s) where
    g : Forest P
    g = detach f d None

    but : IsShapedBut g d
    unfolding g
    but = detach-shaped_but f c d pages.destination pages.live_destination

    source_stays : s ≢ d
    source_stays e = pages.apart (sym e)

    still : ArePages g d s
    unfolding g
    still = record {
      destination = but.there;
      source = detach-stays f c d pages.destination pages.live_destination s source_stays pages.source;
      apart = pages.apart;
      live_destination = pages.live_destination;
      live_source = pages.live_source;
    }

    kept : (y : NodeName) (v : P) → y ≢ d → IsValue f y v → IsValue g y v
    unfolding g
    kept y v apart r = detach-kept f c d pages.destination pages.live_destination None y v apart r

    -- a live node is one of f
    old : (y : NodeName) → y ≢ d → is_live y ≡ true → IsNode g y → IsNode f y
    unfolding g detach
    old y apart live is = elim (IsNode-put_cases (retire f d) d y _ is) [
      | inl e ↦ absurd (apart e)
      | inr k ↦ elim ((retired f c d pages.destination pages.live_destination).names y k).1 [ inl m ↦ m | inr e ↦ absurd (not_live (f.made + 1) y live (sym e)) ]
    ]

    pub copy_page-consistent : (is_small : Bool) → IsConsistent (copy_page is_small f d s)
    unfolding g
    copy_page-consistent true = stub-consistent g d s but still
    copy_page-consistent false = link-consistent g d s but still

    pub copy_page-kept : (is_small : Bool) (y : NodeName) (v : P) → y ≢ d → IsValue f y v → IsValue (copy_page is_small f d s) y v
    unfolding g
    copy_page-kept true y v apart r = stub-kept g d s but still y v (kept y v apart r)
    copy_page-kept false y v apart r = link-kept g d s but still y v (kept y v apart r)

    copy_page-of_source : (is_small : Bool) (v : P) → IsValue f s v → IsValue (copy_page is_small f d s) d v
    unfolding g
    copy_page-of_source true v r = stub-of_source g d s but still v (kept s v source_stays r)
    copy_page-of_source false v r = link-of_source g d s but still v (kept s v source_stays r)

    copy_page-names : (is_small : Bool) (y : NodeName) → y ≢ d → is_live y ≡ true → IsNode (copy_page is_small f d s) y → IsNode f y
    unfolding g
    copy_page-names true y apart live is = old y apart live (stub-names_back g d s but still y is)
    copy_page-names false y apart live is = old y apart live (link-names g d s but still y live is)

    pub copy_page-gives : (is_small : Bool) → value_of (copy_page is_small f d s) d ≡ value_of f s
    copy_page-gives is_small =
        let r = has_value f c.shaped s pages.source in
        value_by f (copy_page is_small f d s) s d r.0 c.shaped.linked (copy_page-consistent is_small).shaped.linked r.1 (copy_page-of_source is_small r.0 r.1)

    pub copy_page-value : (is_small : Bool) (y : NodeName) → is_live y ≡ true → value_of (copy_page is_small f d s) y ≡ cond (same y d) (value_of f s) (value_of f y)
    copy_page-value is_small y live = by_name y d (value_of (copy_page is_small f d s) y) (value_of f s) (value_of f y)
        (λ e. ap (value_of (copy_page is_small f d s)) e ∙ copy_page-gives is_small)
        (λ apart. value_equal f (copy_page is_small f d s) c.shaped (copy_page-consistent is_small).shaped.linked y y (copy_page-names is_small y apart live) (λ v r. copy_page-kept is_small y v apart r))

  -- one page of a move, from s to d
  module _ (f : Forest P) (c : IsConsistent f) (d s : NodeName) (pages : ArePages f d s) (zeros : P) where
    bare : Forest P
    bare = retire f d

    bare-consistent : IsConsistent bare
    unfolding bare
    bare-consistent = retire-consistent f c d pages.destination pages.live_destination

    bare_d : IsNode bare d → ⊥
    unfolding bare
    bare_d = gone f c d pages.destination pages.live_destination

    moved : Forest P
    moved = rename bare s d

    -- what the names of the two change to
    s_to_d : swapped s d s ≡ d
    s_to_d = swapped_a s d

    d_to_s : swapped s d d ≡ s
    d_to_s = swapped_b s d pages.apart

    moved-few : (y : NodeName) → length (node bare (swapped s d y)).tree ≤ most_tree_children y
    moved-few y = elim (name_cases y s) [
      | inl e ↦ subst (λ z. length (node bare z).tree ≤ most_tree_children y) (sym (ap (swapped s d) e ∙ s_to_d)) (subst (λ n. length n.tree ≤ most_tree_children y) (sym (node-none bare d bare_d)) (omega arith))
      | inr a ↦ elim (name_cases y d) [
        | inl e ↦
            let few = bare-consistent.shaped.linked.few s in
            let one = live_most s pages.live_source in
            let one_d = ap most_tree_children e ∙ live_most d pages.live_destination in
            subst (λ z. length (node bare z).tree ≤ most_tree_children y) (sym (ap (swapped s d) e ∙ d_to_s)) (omega arith)
        | inr b ↦ subst (λ z. length (node bare z).tree ≤ most_tree_children y) (sym (swapped_other s d y a b)) (bare-consistent.shaped.linked.few y)
      ]
    ]

    moved-linked : IsLinked moved
    unfolding moved
    moved-linked = rename-linked s d bare bare-consistent.shaped.linked moved-few

    moved-names : (z : NodeName) → IsNode moved z → IsNode bare (swapped s d z)
    unfolding moved
    moved-names z is = sym (rename-names bare s d z) ∙ is

    moved_s : IsNode moved s → ⊥
    moved_s is = bare_d (subst (IsNode bare) s_to_d (moved-names s is))

    moved-value : (z : NodeName) (v : P) → IsValue bare z v → IsValue moved (swapped s d z) v
    unfolding moved
    moved-value z v r = rename-values s d bare r

    moved-made : moved.made ≡ bare.made
    unfolding moved
    moved-made = (rename-counters bare s d).made

    moved-consistent : IsConsistent moved
    moved-consistent = record {
      shaped = record {
        linked = moved-linked;
        inherits = λ z is.
            let r = has_value bare bare-consistent.shaped (swapped s d z) (moved-names z is) in
            reads moved z r.0 (subst (λ w. IsValue moved w r.0) (back s d z) (moved-value (swapped s d z) r.0 r.1));
      };
      counted = λ k is. subst (λ m. k ≤ m) (sym moved-made) (bare-consistent.counted k
          (subst (IsNode bare) (swapped_other s d (Working k) (not_live k s pages.live_source) (not_live k d pages.live_destination)) (moved-names (Working k) is)));
    }

    pub move_page-consistent : IsConsistent (move_page f d s zeros)
    unfolding bare moved
    move_page-consistent = fresh-consistent moved moved-consistent s moved_s pages.live_source zeros

    from_bare : (y z : NodeName) → swapped s d z ≡ y → value_of moved y ≡ value_of bare z
    from_bare y z e = value_equal bare moved bare-consistent.shaped moved-linked z y
        (λ is. subst (IsNode bare) (ap (swapped s d) (sym e) ∙ back s d z) (moved-names y is))
        (λ v r. subst (λ w. IsValue moved w v) e (moved-value z v r))

    -- a node of the forest, a working one too, but for the two
    pub move_page-keeps : (y : NodeName) → y ≢ d → y ≢ s → IsNode f y → value_of (move_page f d s zeros) y ≡ value_of f y
    unfolding bare moved
    move_page-keeps y a b is =
        let r = has_value f c.shaped y is in
        let kept : IsValue bare y r.0 = (retired f c d pages.destination pages.live_destination).kept y r.0 a r.1 in
        value_by f (move_page f d s zeros) y y r.0 c.shaped.linked move_page-consistent.shaped.linked r.1
        (fresh-values moved s moved_s _ (subst (λ w. IsValue moved w r.0) (swapped_other s d y b a) (moved-value y r.0 kept)))

    pub move_page-value : (y : NodeName) → is_live y ≡ true → value_of (move_page f d s zeros) y ≡ cond (same y s) (Some zeros) (cond (same y d) (value_of f s) (value_of f y))
    unfolding bare moved
    move_page-value y live = fresh-value moved moved-consistent s moved_s pages.live_source zeros y ∙ under (same y s) refl
      where
        retired_value : (z : NodeName) → is_live z ≡ true → value_of bare z ≡ cond (same z d) None (value_of f z)
        retired_value z live_z = retire-value f c d pages.destination pages.live_destination z live_z

        at_d : y ≡ d → value_of moved y ≡ value_of f s
        at_d e = from_bare y s (s_to_d ∙ sym e) ∙ retired_value s pages.live_source ∙ ap (λ (t : Bool). cond t None (value_of f s)) (same_apart s d (λ q. pages.apart (sym q)))

        at_other : y ≢ s → y ≢ d → value_of moved y ≡ value_of f y
        at_other a b = from_bare y y (swapped_other s d y a b) ∙ retired_value y live ∙ ap (λ (t : Bool). cond t None (value_of f y)) (same_apart y d b)

        under : (b : Bool) → same y s ≡ b → cond b (Some zeros) (value_of moved y) ≡ cond b (Some zeros) (cond (same y d) (value_of f s) (value_of f y))
        under true e = refl
        under false e = by_name y d (value_of moved y) (value_of f s) (value_of f y) at_d (at_other (λ q. absurd (cc (e, ap (λ z. same z s) q, same_itself s))))
