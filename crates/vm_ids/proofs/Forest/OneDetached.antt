-- One page retired, detached or linked.
use Rattle.std.proofs.Common.{◌≡◌, ◌≢◌, ℕ, suc, zero, ◌+◌, ◌<◌, ◌≤◌, Bool, true, false, cond, Option, Some, None, is_some, refl, sym, ap, subst, ◌∙◌, inl, inr, arith}
use Rattle.std.specs.Option.{IsSome}
use Rattle.vm_ids.specs.declared.node_name.NodeName.{NodeName}
use Rattle.vm_ids.specs.Forest.Names.{Working, same}
use Rattle.vm_ids.proofs.Forest.Names.{name_cases, same_itself, same_apart}
use Rattle.vm_ids.specs.Forest.NameLists.{◌∈◌}
use Rattle.vm_ids.specs.Forest.Nodes.{Forest, node, parent, childless, child_count, IsNode, is_live}
use Rattle.vm_ids.specs.Forest.Nodes.Hang.{Root}
use Rattle.vm_ids.specs.Forest.NameMap.{contains_key}
use Rattle.vm_ids.specs.Forest.Shape.{IsLinked, HasPageOrParent, IsCounted, IsConsistent}
use Rattle.vm_ids.specs.Forest.Reading.{value_of}
use Rattle.vm_ids.specs.Forest.Changes.{put, free, cut, rename, count_working}
use Rattle.vm_ids.specs.Forest.Rules.{retire, detach, link, stub}
use Rattle.vm_ids.specs.Forest.Values.{IsValue}
use Rattle.vm_ids.specs.Forest.Values.IsValue.{itself, above}
use Rattle.vm_ids.specs.Forest.Laws.Linking.{IsShapedBut, ArePages}
use Rattle.vm_ids.proofs.Forest.NodesAfter.{node-put, IsNode-put, IsNode-put_cases, put-IsNode}
use Rattle.vm_ids.proofs.Forest.Fitting.{parent-IsNode, parent_cases}
use Rattle.vm_ids.proofs.Forest.Reading.{value-IsValue}
use Rattle.vm_ids.proofs.Forest.Owning.{has_value}
use Rattle.vm_ids.proofs.Forest.Linking.{Links, link-Links}
use Rattle.vm_ids.proofs.Forest.Detaching.{Freed, retire-Freed, fresh-linked, fresh-values, stub-linked, stub-values, stub-value_d, stub-names, stub-made, live_most, rename-names, swapped_b}
use Rattle.vm_ids.proofs.Forest.Counters.{put-counters}
use Rattle.vm_ids.proofs.Forest.Agreeing.{value_equal, value_none}

pub not_live : (k : ℕ) (x : NodeName) → is_live x ≡ true → Working k ≡ x → ⊥
not_live k x live e = cc (ap is_live e, live)

-- the page that y has, where that of x is replaced
pub by_name : {A : Type 0} (y x : NodeName) (a b c : A) → (y ≡ x → a ≡ b) → (y ≢ x → a ≡ c) → a ≡ cond (same y x) b c
by_name y x a b c at other = elim (name_cases y x) [
  | inl e ↦ at e ∙ sym (ap (λ (t : Bool). cond t b c) (ap (λ z. same z x) e ∙ same_itself x))
  | inr apart ↦ other apart ∙ sym (ap (λ (t : Bool). cond t b c) (same_apart y x apart))
]

module _ {P : Type 0} where
  -- the next working node's number is free
  pub next_free : (f : Forest P) → IsCounted f → IsNode f (Working (f.made + 1)) → ⊥
  next_free f counted is = let low = counted (f.made + 1) is in absurd (omega arith)

  -- what has a value has a page or a parent
  pub reads : (f : Forest P) (x : NodeName) (v : P) → IsValue f x v → HasPageOrParent f x
  reads f x v (itself e) none = absurd (cc (none, e))
  reads f x v (above n up r) none = ap is_some up

  -- x and y have one value
  pub value_by : (f g : Forest P) (x y : NodeName) (v : P) → IsLinked f → IsLinked g → IsValue f x v → IsValue g y v → value_of g y ≡ value_of f x
  value_by f g x y v lf lg r s = value-IsValue g lg s ∙ sym (value-IsValue f lf r)

  -- a node with a page and without parent, that is put where none was
  pub fresh-consistent : (f : Forest P) → IsConsistent f → (x : NodeName) → (IsNode f x → ⊥) → is_live x ≡ true → (v : P) → IsConsistent (put f x (childless (Some v) Root))
  fresh-consistent f c x out live v =
      let g = put f x (childless (Some v) Root) in record {
        shaped = record {
          linked = fresh-linked f c.shaped.linked x out (Some v);
          inherits = λ z is. elim (IsNode-put_cases f x z _ is) [
            | inl e ↦ λ none. absurd (cc (none, ap (λ z. (node g z).own) e, ap (λ n. n.own) (node-put f x (childless (Some v) Root))))
            | inr old ↦ let r = has_value f c.shaped z old in reads g z r.0 (fresh-values f x out _ r.1)
          ];
        };
        counted = λ k is. subst (λ m. k ≤ m) (sym (put-counters f x (childless (Some v) Root)).made) (elim (IsNode-put_cases f x (Working k) _ is) [
          | inl e ↦ absurd (not_live k x live e)
          | inr old ↦ c.counted k old
        ]);
      }

  pub fresh-value : (f : Forest P) → IsConsistent f → (x : NodeName) → (IsNode f x → ⊥) → is_live x ≡ true → (v : P) (y : NodeName) → value_of (put f x (childless (Some v) Root)) y ≡ cond (same y x) (Some v) (value_of f y)
  fresh-value f c x out live v y =
      let g = put f x (childless (Some v) Root) in
      let linked : IsLinked g = (fresh-consistent f c x out live v).shaped.linked in
      by_name y x (value_of g y) (Some v) (value_of f y)
      (λ e. ap (value_of g) e ∙ value-IsValue g linked (itself (ap (λ n. n.own) (node-put f x (childless (Some v) Root)))))
      (λ apart. value_equal f g c.shaped linked y y (λ is. elim (IsNode-put_cases f x y _ is) [ inl e ↦ absurd (apart e) | inr old ↦ old ]) (λ w r. fresh-values f x out _ r))

  -- retire and detach
  module _ (f : Forest P) (c : IsConsistent f) (x : NodeName) (is : IsNode f x) (live : is_live x ≡ true) where
    pub retired : Freed f (retire f x) x
    retired = retire-Freed f c.shaped.linked x is live (next_free f c.counted)

    pub gone : IsNode (retire f x) x → ⊥
    gone k = (retired.names x k).0 refl

    pub retire-consistent : IsConsistent (retire f x)
    retire-consistent = record {
      shaped = record {
        linked = retired.shape;
        inherits = λ z is_z.
            let n = retired.names z is_z in
            elim n.1 [
              | inl old ↦ let r = has_value f c.shaped z old in reads (retire f x) z r.0 (retired.kept z r.0 n.0 r.1)
              | inr e ↦ let r = has_value f c.shaped x is in reads (retire f x) z r.0 (subst (λ w. IsValue (retire f x) w r.0) (sym e) (retired.moved r.0 r.1 (subst (IsNode (retire f x)) e is_z)))
            ];
      };
      counted = retired.counted c.counted;
    }

    pub retire-value : (y : NodeName) → is_live y ≡ true → value_of (retire f x) y ≡ cond (same y x) None (value_of f y)
    retire-value y live_y = by_name y x (value_of (retire f x) y) None (value_of f y)
        (λ e. value_none (retire f x) y (λ k. gone (subst (IsNode (retire f x)) e k)))
        (λ apart. value_equal f (retire f x) c.shaped retired.shape y y (λ k. elim (retired.names y k).1 [ inl old ↦ old | inr e ↦ absurd (not_live (f.made + 1) y live_y (sym e)) ]) (λ v r. retired.kept y v apart r))

    pub detach-linked : (page : Option P) → IsLinked (detach f x page)
    unfolding detach
    detach-linked page = fresh-linked (retire f x) retired.shape x gone page

    pub detach-kept : (page : Option P) (y : NodeName) (v : P) → y ≢ x → IsValue f y v → IsValue (detach f x page) y v
    unfolding detach
    detach-kept page y v apart r = fresh-values (retire f x) x gone _ (retired.kept y v apart r)

    -- the working node that takes over the page of x
    pub detach-handed : (page : Option P) (v : P) → 0 < child_count f x → IsValue f x v → IsValue (detach f x page) (Working (f.made + 1)) v
    unfolding detach retire
    detach-handed page v children r = fresh-values (retire f x) x gone _ (retired.moved v r (named (child_count f x) refl children))
      where
        w_x : Working (f.made + 1) ≢ x
        w_x e = not_live (f.made + 1) x live e

        named : (n : ℕ) → child_count f x ≡ n → 0 < n → IsNode (elim n [ zero ↦ free (cut f x) x | suc n ↦ count_working (rename f x (Working (f.made + 1))) ]) (Working (f.made + 1))
        named zero e low = absurd (omega arith)
        named (suc n) e low = rename-names f x (Working (f.made + 1)) (Working (f.made + 1)) ∙ ap (λ z. contains_key f.nodes z) (swapped_b x (Working (f.made + 1)) w_x) ∙ is

    pub detach-shaped_but : IsShapedBut (detach f x None) x
    unfolding detach
    detach-shaped_but = record {
      linked = detach-linked None;
      there = IsNode-put (retire f x) x _;
      fresh = node-put (retire f x) x _;
      inherits = λ z apart is_z. elim (IsNode-put_cases (retire f x) x z _ is_z) [
        | inl e ↦ absurd (apart e)
        | inr old ↦ let r = has_value (retire f x) retire-consistent.shaped z old in reads (detach f x None) z r.0 (fresh-values (retire f x) x gone _ r.1)
      ];
      counted = λ k is_k. subst (λ m. k ≤ m) (sym (put-counters (retire f x) x _).made) (elim (IsNode-put_cases (retire f x) x (Working k) _ is_k) [
        | inl e ↦ absurd (not_live k x live e)
        | inr old ↦ retire-consistent.counted k old
      ]);
    }

    pub detach-consistent : (v : P) → IsConsistent (detach f x (Some v))
    unfolding detach
    detach-consistent v = fresh-consistent (retire f x) retire-consistent x gone live v

    pub detach-value : (v : P) (y : NodeName) → is_live y ≡ true → value_of (detach f x (Some v)) y ≡ cond (same y x) (Some v) (value_of f y)
    unfolding detach
    detach-value v y live_y = fresh-value (retire f x) retire-consistent x gone live v y ∙ twice (same y x) (retire-value y live_y)
      where
        twice : (b : Bool) → value_of (retire f x) y ≡ cond b None (value_of f y) → cond b (Some v) (value_of (retire f x) y) ≡ cond b (Some v) (value_of f y)
        twice true e = refl
        twice false e = e

    -- every node of f but x has a node of its name and value still
    pub detach-stays : (y : NodeName) → y ≢ x → IsNode f y → IsNode (detach f x None) y
    unfolding detach
    detach-stays y apart is_y = put-IsNode (retire f x) x y _ (retired.stays y is_y apart)

  -- link and stub, of the fresh node d to s
  module _ (f : Forest P) (d s : NodeName) (but : IsShapedBut f d) (pages : ArePages f d s) where
    value_below : (n : ℕ) (z : NodeName) → z ≢ d → IsNode f z → but.linked.order.0 z < n → (v : P) × IsValue f z v
    value_below zero z apart is low = absurd (omega arith)
    value_below (suc n) z apart is low = go (node f z).own (parent f z) refl refl (λ p up. value_below n p (not_d p up) (parent-IsNode f but.linked z p up) (let lower = but.linked.order.1 z p up in omega arith))
      where
        not_d : (p : NodeName) → parent f z ≡ Some p → p ≢ d
        not_d p up e = elim (parent_cases f but.linked z d (up ∙ ap Some e)) [
          | inl t ↦ let i = (but.linked.tree_links z d).1 t in subst (λ n. z ∈ n.tree) but.fresh i
          | inr t ↦ let i = (but.linked.stub_links z d).1 t in subst (λ n. z ∈ n.stubs) but.fresh i
        ]

        up_from : IsSome (parent f z) → (u : Option NodeName) → parent f z ≡ u → (node f z).own ≡ None → ((p : NodeName) → parent f z ≡ Some p → (v : P) × IsValue f p v) → (v : P) × IsValue f z v
        up_from some None up none more = absurd (cc (some, ap is_some up))
        up_from some (Some p) up none more = let r = more p up in (r.0, above none up r.1)

        go : (o : Option P) (u : Option NodeName) → (node f z).own ≡ o → parent f z ≡ u → ((p : NodeName) → parent f z ≡ Some p → (v : P) × IsValue f p v) → (v : P) × IsValue f z v
        go (Some v) u own_is up more = (v, itself own_is)
        go None u none up more = up_from (but.inherits z apart is none) u up none more

    has_value_but : (z : NodeName) → z ≢ d → IsNode f z → (v : P) × IsValue f z v
    has_value_but z apart is = value_below (suc (but.linked.order.0 z)) z apart is (omega arith)

    s_d : s ≢ d
    s_d e = pages.apart (sym e)

    links : Links f (link f d s) d s
    links = link-Links f but.linked d s but.fresh but.there pages.apart pages.source (next_free f but.counted) (live_most s pages.live_source)

    pub link-consistent : IsConsistent (link f d s)
    link-consistent =
        let r = has_value_but s s_d pages.source in record {
          shaped = record {
            linked = links.shape;
            inherits = λ z is. elim (links.names z is) [
              | inl old ↦ elim (name_cases z d) [
                | inl e ↦ reads (link f d s) z r.0 (subst (λ w. IsValue (link f d s) w r.0) (sym e) (links.of_source r.0 r.1))
                | inr apart ↦ let v = has_value_but z apart old in reads (link f d s) z v.0 (links.kept z v.0 v.1)
              ]
              | inr new ↦ reads (link f d s) z r.0 (new r.0 r.1)
            ];
          };
          counted = links.counted but.counted;
        }

    pub link-gives : value_of (link f d s) d ≡ value_of f s
    link-gives = let r = has_value_but s s_d pages.source in value_by f (link f d s) s d r.0 but.linked links.shape r.1 (links.of_source r.0 r.1)

    pub link-keeps : (y : NodeName) → y ≢ d → IsNode f y → value_of (link f d s) y ≡ value_of f y
    link-keeps y apart is = let r = has_value_but y apart is in value_by f (link f d s) y y r.0 but.linked links.shape r.1 (links.kept y r.0 r.1)

    pub link-kept : (y : NodeName) (v : P) → IsValue f y v → IsValue (link f d s) y v
    link-kept y v r = links.kept y v r

    pub link-of_source : (v : P) → IsValue f s v → IsValue (link f d s) d v
    link-of_source v r = links.of_source v r

    pub link-names : (y : NodeName) → is_live y ≡ true → IsNode (link f d s) y → IsNode f y
    link-names y live is = elim (links.new y is) [ inl old ↦ old | inr e ↦ absurd (not_live (f.made + 1) y live (sym e)) ]

    pub stub-kept : (y : NodeName) (v : P) → IsValue f y v → IsValue (stub f d s) y v
    stub-kept y v r = stub-values f but.linked d s but.fresh pages.apart r

    pub stub-of_source : (v : P) → IsValue f s v → IsValue (stub f d s) d v
    stub-of_source v r = stub-value_d f but.linked d s but.fresh pages.apart v r

    pub stub-names_back : (y : NodeName) → IsNode (stub f d s) y → IsNode f y
    stub-names_back y is = sym (stub-names f but.linked d s but.fresh pages.apart but.there pages.source y) ∙ is

    pub stub-consistent : IsConsistent (stub f d s)
    stub-consistent =
        let r = has_value_but s s_d pages.source in record {
          shaped = record {
            linked = stub-linked f but.linked d s but.fresh pages.apart;
            inherits = λ z is. elim (name_cases z d) [
              | inl e ↦ reads (stub f d s) z r.0 (subst (λ w. IsValue (stub f d s) w r.0) (sym e) (stub-of_source r.0 r.1))
              | inr apart ↦ let v = has_value_but z apart (stub-names_back z is) in reads (stub f d s) z v.0 (stub-kept z v.0 v.1)
            ];
          };
          counted = λ k is. subst (λ m. k ≤ m) (sym (stub-made f but.linked d s but.fresh pages.apart)) (but.counted k (stub-names_back (Working k) is));
        }

    pub stub-gives : value_of (stub f d s) d ≡ value_of f s
    stub-gives = let r = has_value_but s s_d pages.source in value_by f (stub f d s) s d r.0 but.linked stub-consistent.shaped.linked r.1 (stub-of_source r.0 r.1)

    pub stub-keeps : (y : NodeName) → y ≢ d → IsNode f y → value_of (stub f d s) y ≡ value_of f y
    stub-keeps y apart is = let r = has_value_but y apart is in value_by f (stub f d s) y y r.0 but.linked stub-consistent.shaped.linked r.1 (stub-kept y r.0 r.1)
