-- The whole of settle.
use Rattle.std.proofs.Common.{◌≡◌, ℕ, suc, zero, ◌<◌, ◌≤◌, [], ◌∷◌, ◌++◌, map, ◌≢◌, Bool, true, false, cond, ◌&&◌, Option, Some, None, is_some, refl, sym, ap, subst, ◌∙◌, inl, inr, arith}
use Rattle.std.specs.Option.{IsSome}
use Rattle.std.proofs.lemmas.List.{length-map}
use Rattle.vm_ids.specs.declared.node_name.NodeName.{NodeName}
use Rattle.vm_ids.specs.Forest.NameLists.{first, without, renamed}
use Rattle.vm_ids.specs.Forest.NameMap.{len, keys}
use Rattle.vm_ids.specs.Forest.Nodes.{Forest, node, parent, is_stub, IsNode, is_live}
use Rattle.vm_ids.specs.Forest.Shape.{IsLinked, IsWellShaped}
use Rattle.vm_ids.specs.Forest.Changes.{put, free, cut, relist}
use Rattle.vm_ids.specs.Forest.Settling.{take_place, pass_page, give_way, settle_step, settle_within, settle, thin}
use Rattle.vm_ids.specs.Forest.Values.{IsValue}
use Rattle.vm_ids.proofs.Forest.NodesAfter.{has-put, IsNode-free}
use Rattle.vm_ids.proofs.Forest.NameLists.{first_in}
use Rattle.vm_ids.proofs.Forest.Fitting.{names_fit, parent-IsNode, IsNode-parent}
use Rattle.vm_ids.proofs.Forest.NamesAfter.{SameNames, relist-names}
use Rattle.vm_ids.specs.Forest.Values.IsValue.{itself, above}
use Rattle.vm_ids.proofs.Forest.Owning.{has_value}
use Rattle.vm_ids.proofs.Forest.SettleStep.{Settled, settle_step-Settled}
use Rattle.vm_ids.proofs.Forest.Bound.{Once-keys, key-IsNode, thin-some, child_up}
use Rattle.vm_ids.proofs.Forest.Cutting.{cut-linked, put_page-linked, cut-hang}

module _ {P : Type 0} where
  pub cut-names : (f : Forest P) → IsLinked f → (x : NodeName) → IsNode f x → SameNames (cut f x) f
  unfolding cut
  cut-names f linked x is y =
      let old : SameNames (relist f (node f x).hang (without x)) f = relist-names f (node f x).hang (without x) (λ p up. parent-IsNode f linked x p up) in
      has-put _ x _ (old x ∙ is) y ∙ old y

  take_place-names : (f : Forest P) → IsLinked f → (w y : NodeName) → IsNode f w → IsNode f y → SameNames (take_place f w y) f
  unfolding take_place
  take_place-names f linked w y is_w is_y z =
      let old : SameNames (relist f (node f w).hang (map (renamed w y))) f = relist-names f (node f w).hang (map (renamed w y)) (λ p up. parent-IsNode f linked w p up) in
      let more : SameNames (put (relist f (node f w).hang (map (renamed w y))) y _) f = λ v. has-put _ y _ (old y ∙ is_y) v ∙ old v in
      has-put _ w _ (more w ∙ is_w) z ∙ more z

  -- no new node, and w is gone
  abbrev pub Fewer : Forest P → Forest P → NodeName → Type 0
  Fewer g f w = (z : NodeName) → IsNode g z → (z ≢ w) × IsNode f z

  give_way-names : (f : Forest P) → IsLinked f → (w y : NodeName) → IsNode f w → IsNode f y → Fewer (give_way f w y) f w
  unfolding give_way
  give_way-names f linked w y is_w is_y z is = go (is_stub (node f w).hang && is_some (node f y).own) is
    where
      go : (b : Bool) → IsNode (free (cond b (cut f w) (take_place f w y)) w) z → (z ≢ w) × IsNode f z
      go true is = let r = IsNode-free (cut f w) w z is in (r.0, sym (cut-names f linked w is_w z) ∙ r.1)
      go false is = let r = IsNode-free (take_place f w y) w z is in (r.0, sym (take_place-names f linked w y is_w is_y z) ∙ r.1)

  pub settle_step-names : (f : Forest P) → IsLinked f → (w : NodeName) → IsNode f w → Fewer (settle_step f w) f w
  unfolding settle_step pass_page
  settle_step-names f linked w is = go (first ((node f w).tree ++ (node f w).stubs)) refl
    where
      go : (o : Option NodeName) → first ((node f w).tree ++ (node f w).stubs) ≡ o → Fewer (elim o [ None ↦ free (cut f w) w | Some y ↦ give_way (pass_page (cut f y) w y) w y ]) f w
      go None e z is_z = let r = IsNode-free (cut f w) w z is_z in (r.0, sym (cut-names f linked w is z) ∙ r.1)
      go (Some y) e z is_z =
          let up = child_up f linked w y (first_in _ y e) in
          let is_y = IsNode-parent f y w up in
          let f1 = cut f y in
          let n1 : SameNames f1 f = cut-names f linked y is_y in
          let f2 = pass_page f1 w y in
          let n2 : SameNames f2 f = λ v. has-put f1 y _ (n1 y ∙ is_y) v ∙ n1 v in
          let l2 : IsLinked f2 = put_page-linked f1 (cut-linked f y linked) y _ (λ p u. cc (u, cut-hang f y)) in
          let r = give_way-names f2 l2 w y (n2 w ∙ is) (n2 y ∙ is_y) z is_z in
          (r.0, sym (n2 z) ∙ r.1)

  pub fewer_len : (g f : Forest P) (w : NodeName) → IsNode f w → Fewer g f w → len g.nodes < len f.nodes
  fewer_len g f w is fewer = subst (λ n. n < len f.nodes) (length-map g.nodes.list _) (names_fit f (w ∷ keys g.nodes)
      ((λ i. (fewer w (key-IsNode g w i)).0 refl), Once-keys g.nodes.list g.nodes.sorted)
      (λ z i. elim i [ inl e ↦ subst (IsNode f) (sym e) is | inr j ↦ (fewer z (key-IsNode g z j)).1 ]))

  -- what stays has a page or a parent, since it has a value
  pub settled-shaped : (f g : Forest P) (w : NodeName) → IsWellShaped f → Settled f g w → Fewer g f w → IsWellShaped g
  settled-shaped f g w shaped s fewer = record {
    linked = s.shape;
    inherits = λ z is none.
        let old = fewer z is in
        let v = has_value f shaped z old.1 in
        reads g z v.0 none (s.kept z v.0 old.0 v.1);
  }
    where
      reads : (g : Forest P) (z : NodeName) (v : P) → (node g z).own ≡ None → IsValue g z v → IsSome (parent g z)
      reads g z v none (itself e) = absurd (cc (none, e))
      reads g z v none (above n up r) = ap is_some up

  -- what g has of f, when settle went from f to g
  pub record Rests (f g : Forest P) : Type 0 where
    pub shaped : IsWellShaped g
    pub names : (z : NodeName) → IsNode g z → IsNode f z
    pub kept : (z : NodeName) (v : P) → IsNode g z → IsValue f z v → IsValue g z v
    pub lives : (z : NodeName) (v : P) → is_live z ≡ true → IsValue f z v → IsValue g z v
    pub no_thin : thin g ≡ None

  pub no_keys : (f : Forest P) → len f.nodes ≤ 0 → thin f ≡ None
  unfolding thin
  no_keys f low = go (thin f) refl
    where
      go : (o : Option NodeName) → thin f ≡ o → o ≡ None
      go None e = refl
      go (Some w) e = absurd (let fits = names_fit f (w ∷ []) ((λ k. k), tt) (λ z i. elim i [ inl q ↦ subst (IsNode f) (sym q) (thin-some f w e).0 | inr k ↦ absurd k ]) in omega arith)

  within : (n : ℕ) (f : Forest P) → IsWellShaped f → len f.nodes ≤ n → Rests f (settle_within n f)
  unfolding settle_within
  within zero f shaped low = record { shaped = shaped; names = λ z is. is; kept = λ z v is r. r; lives = λ z v live r. r; no_thin = no_keys f low }
  within (suc n) f shaped low = go (thin f) refl (λ g. within n g)
    where
      go : (o : Option NodeName) → thin f ≡ o → ((g : Forest P) → IsWellShaped g → len g.nodes ≤ n → Rests g (settle_within n g)) → Rests f (elim o [ None ↦ f | Some w ↦ settle_within n (settle_step f w) ])
      go None e more = record { shaped = shaped; names = λ z is. is; kept = λ z v is r. r; lives = λ z v live r. r; no_thin = e }
      go (Some w) e more =
          let t = thin-some f w e in
          let g = settle_step f w in
          let s = settle_step-Settled f shaped.linked w t.2 in
          let fewer = settle_step-names f shaped.linked w t.0 in
          let shorter = fewer_len g f w t.0 fewer in
          let rest = more g (settled-shaped f g w shaped s fewer) (omega arith) in
          record {
            shaped = rest.shaped;
            names = λ z is. (fewer z (rest.names z is)).1;
            kept = λ z v is r. rest.kept z v is (s.kept z v (fewer z (rest.names z is)).0 r);
            lives = λ z v live r. rest.lives z v live (s.kept z v (λ q. cc (live, ap is_live q, t.1)) r);
            no_thin = rest.no_thin;
          }

  pub settle-Rests : (f : Forest P) → IsWellShaped f → Rests f (settle f)
  unfolding settle
  settle-Rests f shaped = within (len f.nodes) f shaped (omega arith)
