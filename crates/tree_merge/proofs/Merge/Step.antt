-- One step of settle: the node goes, and its only child takes its page and its place.
use Rattle.std.proofs.Common.{◌≡◌, ◌≢◌, ◌<◌, ◌==◌, ◌++◌, cond, not, ◌&&◌, Some, None, refl, sym, ap, ap₂, ◌∙◌, subst, inl, inr, arith, ltb-true}
use Rattle.vm_ids.specs.declared.node_name.NodeName.{NodeName}
use Rattle.vm_ids.proofs.Forest.Names.{name_cases}
use Rattle.vm_ids.specs.Forest.NameLists.{first}
use Rattle.vm_ids.specs.Forest.Nodes.{Forest, node, child_count, parent, parent_of}
use Rattle.vm_ids.specs.Forest.Nodes.Hang.{Root}
use Rattle.vm_ids.specs.Forest.Shape.{IsLinked}
use Rattle.vm_ids.specs.Forest.Changes.{free, cut}
use Rattle.vm_ids.specs.Forest.Settling.{give_way, pass_page, settle_step}
use Rattle.vm_ids.proofs.Forest.Cutting.{cut-hang, cut-hang_other, cut-ranked}
use Rattle.vm_ids.proofs.Forest.Laws.Settling.{nothing_is_thin}
use Rattle.vm_ids.proofs.Forest.NodesAfter.{keeps}
use Rattle.vm_ids.specs.Forest.Laws.Settling.{IsSettled}
use Rattle.vm_ids.specs.declared.numbers.NodeId.{NodeId}
use Rattle.local_cache.specs.Arena.{Arena}
use Rattle.local_cache.specs.Changes.{Like, Rehung}
use Rattle.local_cache.specs.Own.{is_absent, own_of}
use Rattle.local_cache.specs.Reading.{name_of, forest_of}
use Rattle.local_cache.specs.Sound.{IsSound}
use Rattle.local_cache.specs.Thin.{IsLeastThin}
use Rattle.local_cache.proofs.Forest.ThinForest.{child_count-is, thin-forest}
use Rattle.tree_merge.specs.declared.released.Released.{Released}
use Rattle.tree_merge.specs.declared.released.Released.TheVariants.{Nothing, Dropped, Moved}
use Rattle.tree_merge.specs.Releasing.{IsMerged, OwnsAfter, first_child, own_after, released_to}
use Rattle.tree_merge.specs.Staying.{HasNoChild, IsBelow, IsGone}
use Rattle.tree_merge.proofs.ChildLists.Names.{only_child}
use Rattle.tree_merge.proofs.Leaving.Freed.{gone-like}

-- In a forest

module _ {P : Type 0} (f : Forest P) (linked : IsLinked f) (w y : NodeName) (up : parent f y ≡ Some w) where
  pub below-cut : IsBelow (cut f y) w y
  below-cut = (linked.order.0, cut-ranked f y linked.order.0 linked.order.1, linked.order.1 y w up)

  pub none-cut_only : child_count f w < 2 → HasNoChild (cut f y) w
  none-cut_only few z z_up = elim (name_cases z y) [
    | inl e ↦ (let clash : Some w ≡ None = sym z_up ∙ ap (λ v. parent (cut f y) v) e ∙ ap parent_of (cut-hang f y) in cc clash)
    | inr a ↦ a (only_child f linked w y z few up (sym (ap parent_of (cut-hang_other f y z a)) ∙ z_up))
  ]

module _ {P : Type 0} (f : Forest P) (w y : NodeName) where
  pub pass-hang : (z : NodeName) → (node (pass_page f w y) z).hang ≡ (node f z).hang
  unfolding pass_page
  pass-hang z = keeps (λ n. n.hang) f y _ refl z

  pub below-pass : IsBelow f w y → IsBelow (pass_page f w y) w y
  below-pass below = (below.0, λ z p up. below.1 z p (ap parent_of (sym (pass-hang z)) ∙ up), below.2)

  pub none-pass : HasNoChild f w → HasNoChild (pass_page f w y) w
  none-pass none z up = none z (ap parent_of (sym (pass-hang z)) ∙ up)

  pub settle_none : first ((node f w).tree ++ (node f w).stubs) ≡ None → settle_step f w ≡ free (cut f w) w
  unfolding settle_step
  settle_none e = ap (λ o. elim o [ None ↦ free (cut f w) w | Some z ↦ give_way (pass_page (cut f z) w z) w z ]) e

  pub settle_some : first ((node f w).tree ++ (node f w).stubs) ≡ Some y → settle_step f w ≡ give_way (pass_page (cut f y) w y) w y
  unfolding settle_step
  settle_some e = ap (λ o. elim o [ None ↦ free (cut f w) w | Some z ↦ give_way (pass_page (cut f z) w z) w z ]) e

-- Of the caches

own_after-like : (a b : Arena) (released : Released) → ((m : NodeId) → own_of b m ≡ own_of a m) → (m : NodeId) → own_after b released m ≡ own_after a released m
own_after-like a b Nothing same m = same m
own_after-like a b (Dropped n s) same m = same m
own_after-like a b (Moved from to) same m = ap₂ (λ s t. cond (m.0 == to.0) s t) (same from) (same m)

released-like : (a b : Arena) (w y : NodeId) → ((m : NodeId) → own_of b m ≡ own_of a m) → released_to b w (Some y) ≡ released_to a w (Some y)
released-like a b w y same = ap₂ (λ s t. cond (not (is_absent s) && is_absent t) (Moved w y) (Dropped w s)) (same w) (same y)

-- what the steps before the last one need
module _ (a : Arena) (is_sound : IsSound a) (w y : NodeId) (up : parent (forest_of a) (name_of a y) ≡ Some (name_of a w)) (few : child_count (forest_of a) (name_of a w) < 2)
    (b : Arena) (forest_b : forest_of b ≡ cut (forest_of a) (name_of a y)) (r : Rehung a b) where
  pub cut_root : (node (forest_of b) (name_of b y)).hang ≡ Root
  cut_root = ap (λ x. (node (forest_of b) x).hang) (r.like.name y) ∙ ap (λ g. (node g (name_of a y)).hang) forest_b ∙ cut-hang (forest_of a) (name_of a y)

  module _ (c : Arena) (forest_c : forest_of c ≡ pass_page (forest_of b) (name_of b w) (name_of b y)) (like : Like b c) where
    pub passed_forest : forest_of c ≡ pass_page (cut (forest_of a) (name_of a y)) (name_of a w) (name_of a y)
    passed_forest = forest_c ∙ ap₂ (pass_page (forest_of b)) (r.like.name w) (r.like.name y) ∙ ap (λ g. pass_page g (name_of a w) (name_of a y)) forest_b

    pub passed_name : (m : NodeId) → name_of c m ≡ name_of a m
    passed_name m = like.name m ∙ r.like.name m

    pub passed_root : (node (forest_of c) (name_of c y)).hang ≡ Root
    passed_root = ap₂ (λ g x. (node g x).hang) passed_forest (passed_name y) ∙ pass-hang (cut (forest_of a) (name_of a y)) (name_of a w) (name_of a y) (name_of a y) ∙ cut-hang (forest_of a) (name_of a y)

    pub passed_below : IsBelow (forest_of c) (name_of c w) (name_of c y)
    passed_below =
        subst (λ x. IsBelow (forest_of c) x (name_of c y)) (sym (passed_name w)) (subst (λ x. IsBelow (forest_of c) (name_of a w) x) (sym (passed_name y)) (subst (λ g. IsBelow g (name_of a w) (name_of a y)) (sym passed_forest)
        (below-pass (cut (forest_of a) (name_of a y)) (name_of a w) (name_of a y) (below-cut (forest_of a) is_sound.linked (name_of a w) (name_of a y) up))))

    pub passed_none : HasNoChild (forest_of c) (name_of c w)
    passed_none = subst (λ x. HasNoChild (forest_of c) x) (sym (passed_name w)) (subst (λ g. HasNoChild g (name_of a w)) (sym passed_forest)
        (none-pass (cut (forest_of a) (name_of a y)) (name_of a w) (name_of a y) (none-cut_only (forest_of a) is_sound.linked (name_of a w) (name_of a y) up few)))

    pub given_forest : (d : Arena) → forest_of d ≡ give_way (forest_of c) (name_of c w) (name_of c y) → forest_of d ≡ give_way (pass_page (cut (forest_of a) (name_of a y)) (name_of a w) (name_of a y)) (name_of a w) (name_of a y)
    given_forest d forest_d = forest_d ∙ ap₂ (give_way (forest_of c)) (passed_name w) (passed_name y) ∙ ap (λ g. give_way g (name_of a w) (name_of a y)) passed_forest

    pub given_gone : (d : Arena) → (c.made ≡ b.made) × (c.copies ≡ b.copies) → c.room ≡ b.room → IsGone c d w → IsGone a d w
    given_gone d counters room g = gone-like a b d w r.like r.made r.copies r.room (gone-like b c d w like counters.0 counters.1 room g)

pub given_released : (a b : Arena) (w y : NodeId) (released : Released) → Rehung a b → released ≡ released_to b w (Some y) → released ≡ released_to a w (Some y)
given_released a b w y released r e = e ∙ released-like a b w y r.own

pub given_owns : (a b c d : Arena) (w : NodeId) (released : Released) → Rehung a b → ((m : NodeId) → own_of c m ≡ own_after b released m) → ((m : NodeId) → m ≢ w → own_of d m ≡ own_of c m) → OwnsAfter a d w released
given_owns a b c d w released r passed went m ne = went m ne ∙ passed m ∙ own_after-like a b released r.own m

-- At the thin node

pub few_children : (a : Arena) → IsSound a → (w : NodeId) → IsLeastThin a (Some w) → child_count (forest_of a) (name_of a w) < 2
few_children a sound w least =
    let few = ltb-true _ _ least.1.few in
    omega (arith, child_count-is a sound.kept w least.1.held)

pub merged : (a b : Arena) → IsSound a → (w : NodeId) (released : Released) → IsLeastThin a (Some w)
    → forest_of b ≡ settle_step (forest_of a) (name_of a w) → released ≡ released_to a w (first_child a w) → IsGone a b w → OwnsAfter a b w released → IsMerged a b released
merged a b sound w released least forest is gone owns = record {
  node = w;
  held = least.1.held;
  least = thin-forest a sound.kept (Some w) least;
  forest = forest;
  told = is;
  gone = gone;
  owns = owns;
}

pub none_thin : (a : Arena) → IsSound a → IsLeastThin a None → IsSettled (forest_of a)
none_thin a sound least = nothing_is_thin (forest_of a) (thin-forest a sound.kept None least)
