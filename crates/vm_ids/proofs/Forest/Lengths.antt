-- How many nodes a forest has after a rule, and which ones stay.
use Rattle.std.proofs.Common.{◌≡◌, ◌+◌, ◌≤◌, List, [], ◌∷◌, ◌++◌, length, ◌⊎◌, Bool, true, false, Option, None, sym, ap, ◌∙◌, subst, inl, inr, arith, cond}
use Rattle.std.proofs.lemmas.List.{length-append, length-map}
use Rattle.vm_ids.specs.declared.node_name.NodeName.{NodeName}
use Rattle.vm_ids.specs.declared.node_name.NodeName.TheVariants.{Working}
use Rattle.vm_ids.specs.Forest.NameLists.{◌∈◌}
use Rattle.vm_ids.specs.Forest.NameMap.{contains_key, insert, keys, len, remove}
use Rattle.vm_ids.specs.Forest.Nodes.{Forest, Node, IsNode, childless, is_live}
use Rattle.vm_ids.specs.Forest.Nodes.Hang.{Root}
use Rattle.vm_ids.specs.Forest.Changes.{free, put}
use Rattle.vm_ids.specs.Forest.Rules.{copy_page, detach, link, retire, stub}
use Rattle.vm_ids.specs.Forest.Settling.{settle}
use Rattle.vm_ids.specs.Forest.Shape.{IsConsistent}
use Rattle.vm_ids.specs.Forest.Laws.Linking.{ArePages, IsShapedBut}
use Rattle.vm_ids.proofs.Forest.Agreeing.{subset_le}
use Rattle.vm_ids.proofs.Forest.Bound.{IsNode-key, Once-keys, key-IsNode}
use Rattle.vm_ids.proofs.Forest.Detaching.{live_most, stub-names}
use Rattle.vm_ids.proofs.Forest.Fitting.{IsNode-IsValue}
use Rattle.vm_ids.proofs.Forest.Linking.{Links, link-Links}
use Rattle.vm_ids.proofs.Forest.NameLists.{append_in}
use Rattle.vm_ids.proofs.Forest.Names.{name_cases}
use Rattle.vm_ids.proofs.Forest.NameMap.{len-insert, len-remove}
use Rattle.vm_ids.proofs.Forest.NodesAfter.{free-IsNode}
use Rattle.vm_ids.proofs.Forest.Owning.{has_value}
use Rattle.vm_ids.proofs.Forest.OneDetached.{next_free, detach-shaped_but, detach-stays, retired, stub-names_back}
use Rattle.vm_ids.proofs.Forest.Settling.{settle-Rests}

module _ {P : Type 0} where
  -- A forest whose names are those of another one, and a few more.
  pub more_names : (f g : Forest P) (more : List NodeName) → ((z : NodeName) → IsNode g z → (z ∈ more) ⊎ IsNode f z) → len g.nodes ≤ length more + len f.nodes
  more_names f g more all =
      let most : length (keys g.nodes) ≤ length (more ++ keys f.nodes) = subset_le (keys g.nodes) (more ++ keys f.nodes) (Once-keys g.nodes.list g.nodes.sorted) (λ z i. append_in more (keys f.nodes) z (elim (all z (key-IsNode g z i)) [
        | inl j ↦ inl j
        | inr is ↦ inr (IsNode-key f z is)
      ])) in
      let left : length (keys g.nodes) ≡ len g.nodes = length-map g.nodes.list _ in
      let right : length (keys f.nodes) ≡ len f.nodes = length-map f.nodes.list _ in
      omega (arith, most, left, right, length-append more (keys f.nodes))

  pub put_len : (f : Forest P) (x : NodeName) (n : Node P) → len (put f x n).nodes ≤ len f.nodes + 1
  unfolding put
  put_len f x n = go (contains_key f.nodes x) (len-insert f.nodes x n)
    where
      go : (b : Bool) → len (insert f.nodes x n) ≡ cond b (len f.nodes) (len f.nodes + 1) → len (insert f.nodes x n) ≤ len f.nodes + 1
      go true e = omega (arith, e)
      go false e = omega (arith, e)

  free_len : (f : Forest P) (x : NodeName) → IsNode f x → 1 + len (free f x).nodes ≡ len f.nodes
  unfolding free
  free_len f x is = ap (λ (b : Bool). cond b 1 0 + len (remove f.nodes x)) (sym is) ∙ len-remove f.nodes x

  module _ (f : Forest P) (c : IsConsistent f) (x : NodeName) (is : IsNode f x) (live : is_live x ≡ true) where
    -- x goes, and one working node may come
    pub retire_len : len (retire f x).nodes ≤ len f.nodes
    retire_len =
        let gone = retired f c x is live in
        let most = more_names (free f x) (retire f x) (Working (f.made + 1) ∷ []) (λ z there. let n = gone.names z there in elim n.1 [
          | inl old ↦ inr (free-IsNode f x z n.0 old)
          | inr e ↦ inl (inl e)
        ]) in
        omega (arith, most, free_len f x is)

    pub detach_len : (page : Option P) → len (detach f x page).nodes ≤ len f.nodes + 1
    unfolding detach
    detach_len page = omega (arith, put_len (retire f x) x (childless page Root), retire_len)

  module _ (g : Forest P) (d s : NodeName) (but : IsShapedBut g d) (pages : ArePages g d s) where
    links : Links g (link g d s) d s
    links = link-Links g but.linked d s but.fresh but.there pages.apart pages.source (next_free g but.counted) (live_most s pages.live_source)

    link_len : len (link g d s).nodes ≤ len g.nodes + 1
    link_len =
        let most = more_names g (link g d s) (Working (g.made + 1) ∷ []) (λ z is. elim (links.new z is) [ inl old ↦ inr old | inr e ↦ inl (inl e) ]) in
        omega (arith, most)

    stub_len : len (stub g d s).nodes ≤ len g.nodes
    stub_len = let most = more_names g (stub g d s) [] (λ z is. inr (stub-names_back g d s but pages z is)) in omega (arith, most)

    -- no node goes
    pub linked_stays : (is_small : Bool) (z : NodeName) → IsNode g z → IsNode (cond is_small (stub g d s) (link g d s)) z
    linked_stays true z is = stub-names g but.linked d s but.fresh pages.apart but.there pages.source z ∙ is
    linked_stays false z is = links.stays z is

    pub linked_len : (is_small : Bool) → len (cond is_small (stub g d s) (link g d s)).nodes ≤ len g.nodes + 1
    linked_len true = let most = stub_len in omega (arith, most)
    linked_len false = link_len

  module _ (f : Forest P) (c : IsConsistent f) (d s : NodeName) (pages : ArePages f d s) where
    -- the pages are those of two nodes still, when the first one was detached
    pub detached_pages : ArePages (detach f d None) d s
    detached_pages = record {
      destination = (detach-shaped_but f c d pages.destination pages.live_destination).there;
      source = detach-stays f c d pages.destination pages.live_destination s (λ e. pages.apart (sym e)) pages.source;
      apart = pages.apart;
      live_destination = pages.live_destination;
      live_source = pages.live_source;
    }

    pub copy_page_len : (is_small : Bool) → len (copy_page is_small f d s).nodes ≤ len f.nodes + 2
    copy_page_len is_small =
        let first = detach_len f c d pages.destination pages.live_destination None in
        let second = linked_len (detach f d None) d s (detach-shaped_but f c d pages.destination pages.live_destination) detached_pages is_small in
        omega (arith, first, second)

    pub copy_page_stays : (is_small : Bool) (z : NodeName) → IsNode f z → IsNode (copy_page is_small f d s) z
    copy_page_stays is_small z is = linked_stays (detach f d None) d s but detached_pages is_small z (elim (name_cases z d) [
      | inl e ↦ subst (IsNode (detach f d None)) (sym e) but.there
      | inr apart ↦ detach-stays f c d pages.destination pages.live_destination z apart is
    ])
      where
        but : IsShapedBut (detach f d None) d
        but = detach-shaped_but f c d pages.destination pages.live_destination

  -- settle keeps live nodes, and makes none
  pub settle_stays : (f : Forest P) → IsConsistent f → (x : NodeName) → is_live x ≡ true → IsNode f x → IsNode (settle f) x
  settle_stays f c x live is = let v = has_value f c.shaped x is in IsNode-IsValue (settle f) ((settle-Rests f c.shaped).lives x v.0 live v.1)

  pub settle_len : (f : Forest P) → IsConsistent f → len (settle f).nodes ≤ len f.nodes
  settle_len f c = let most = more_names f (settle f) [] (λ z is. inr ((settle-Rests f c.shaped).names z is)) in omega (arith, most)
