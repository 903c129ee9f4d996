-- A child gets the own page of a node, where the node has one and the child has none.
use Rattle.std.proofs.Common.{◌≡◌, Bool, true, false, cond, not, ◌&&◌, ◌≢◌, Some, None, is_some, refl, sym, ap, ap₂, ◌∙◌, subst, inl, inr}
use Rattle.std.specs.Option.{option_or}
use Rattle.std.proofs.lemmas.Bool.{false≢true}
use Rattle.vm_ids.specs.Forest.Nodes.{Forest, node}
use Rattle.vm_ids.specs.Forest.Nodes.Hang.{Root}
use Rattle.vm_ids.specs.Forest.Shape.{IsLinked}
use Rattle.vm_ids.specs.Forest.Changes as forest
use Rattle.vm_ids.specs.Forest.Changes.{edit}
use Rattle.vm_ids.specs.Forest.Settling.{pass_page}
use Rattle.vm_ids.proofs.Forest.Cutting.{put_page-linked}
use Rattle.vm_ids.specs.declared.numbers.NodeId.{NodeId}
use Rattle.local_cache.specs.declared.own_state.OwnState.{OwnState}
use Rattle.local_cache.specs.declared.own_state.OwnState.TheVariants.{Absent, Zero, Resident, Slot, OnSegment}
use Rattle.local_cache.specs.Arena.{Arena, Cell, cell, HasNode, with_own}
use Rattle.local_cache.specs.Own.{is_absent, own_of}
use Rattle.local_cache.specs.Reading.{name_of, forest_of, page_of}
use Rattle.local_cache.specs.Sound.{IsSound}
use Rattle.local_cache.proofs.Nodes.Cells.{cell-put, cell-put_other}
use Rattle.local_cache.proofs.Changes.SameNodes.{Like, like-put, id_cases, made-put, copies-put, room-put}
use Rattle.local_cache.proofs.Changes.OneNode.{own-forest, own-kept}
use Rattle.local_cache.proofs.Forest.Reading.{node-forest_of}
use Rattle.tree_merge.specs.declared.released.Released.{Released}
use Rattle.tree_merge.specs.declared.released.Released.TheVariants.{Dropped, Moved}
use Rattle.tree_merge.specs.Releasing.{given, own_after, released_to}
use Rattle.tree_merge.proofs.ChildLists.TreeLists.{equal, unequal}

pub page_none : (s : OwnState) → is_absent s ≡ true → page_of s ≡ None
page_none Absent e = refl
page_none Zero e = absurd (false≢true e)
page_none (Resident d) e = absurd (false≢true e)
page_none (Slot k) e = absurd (false≢true e)
page_none OnSegment e = absurd (false≢true e)

pub page_some : (s : OwnState) → is_some (page_of s) ≡ not (is_absent s)
page_some Absent = refl
page_some Zero = refl
page_some (Resident d) = refl
page_some (Slot k) = refl
page_some OnSegment = refl

-- the page that is given is the child's own, or else the node's
given_page : (from to : OwnState) → page_of (given from to) ≡ option_or (page_of to) (page_of from)
given_page from Absent = refl
given_page from Zero = refl
given_page from (Resident d) = refl
given_page from (Slot k) = refl
given_page from OnSegment = refl

kept_back : (b : Bool) (from to : OwnState) → to ≡ cond (b && false) from to
kept_back true from to = refl
kept_back false from to = refl

-- the node's own page is given where the node has one and the child has none
given_state : (from to : OwnState)
    → given from to ≡ cond (not (is_absent from) && is_absent to) from to
given_state Absent Absent = refl
given_state Zero Absent = refl
given_state (Resident d) Absent = refl
given_state (Slot k) Absent = refl
given_state OnSegment Absent = refl
given_state from Zero = kept_back (not (is_absent from)) from Zero
given_state from (Resident d) = kept_back (not (is_absent from)) from (Resident d)
given_state from (Slot k) = kept_back (not (is_absent from)) from (Slot k)
given_state from OnSegment = kept_back (not (is_absent from)) from OnSegment

pub record Passed (a b : Arena) (g : Forest OwnState) (released : Released) : Type 0 where
  pub forest : forest_of b ≡ g
  pub sound : IsSound b
  pub like : Like a b
  pub owns : (m : NodeId) → own_of b m ≡ own_after a released m
  pub counters : (b.made ≡ a.made) × (b.copies ≡ a.copies)
  pub room : b.room ≡ a.room

module _ (a : Arena) (is_sound : IsSound a) (w y : NodeId) (hw : HasNode a w) (hy : HasNode a y) (root : (node (forest_of a) (name_of a y)).hang ≡ Root) where
  own_w : (node (forest_of a) (name_of a w)).own ≡ page_of (own_of a w)
  own_w = ap (λ m. m.own) (node-forest_of a is_sound.kept.named w hw)

  own_y : (node (forest_of a) (name_of a y)).own ≡ page_of (own_of a y)
  own_y = ap (λ m. m.own) (node-forest_of a is_sound.kept.named y hy)

  abbrev state : OwnState
  state = given (own_of a w) (own_of a y)

  abbrev after : Arena
  after = with_own a y state

  abbrev written : Cell
  written = record (cell a y) { own = state }

  after_forest : forest_of after ≡ pass_page (forest_of a) (name_of a w) (name_of a y)
  unfolding pass_page
  after_forest =
      own-forest a is_sound.kept y hy state
      ∙ ap (λ o. edit (forest_of a) (name_of a y) (forest.with_own o)) (given_page (own_of a w) (own_of a y) ∙ sym (ap₂ option_or own_y own_w))

  after_linked : IsLinked (edit (forest_of a) (name_of a y) (forest.with_own (page_of state)))
  after_linked = put_page-linked (forest_of a) is_sound.linked (name_of a y) (page_of state) (λ p e. cc (e, root))

  -- the child has its state, and all others theirs
  owns_here : (b : Bool) → cond b (own_of a w) (own_of a y) ≡ own_after a (cond b (Moved w y) (Dropped w (own_of a w))) y
  owns_here true = sym (ap (λ t. cond t (own_of a w) (own_of a y)) (equal y.0 y.0 refl))
  owns_here false = refl

  owns_other : (b : Bool) (m : NodeId) → m ≢ y → own_of a m ≡ own_after a (cond b (Moved w y) (Dropped w (own_of a w))) m
  owns_other true m ne = sym (ap (λ t. cond t (own_of a w) (own_of a m)) (unequal m.0 y.0 (λ e. ne (λ i. record { 0 = e i }))))
  owns_other false m ne = refl

  after_owns : (m : NodeId) → own_of after m ≡ own_after a (released_to a w (Some y)) m
  after_owns m =
      let passes : Bool = not (is_absent (own_of a w)) && is_absent (own_of a y) in
      elim (id_cases m y) [
        | inl e ↦
            ap (own_of after) e ∙ ap (λ c. c.own) (cell-put a y written) ∙ given_state (own_of a w) (own_of a y)
            ∙ owns_here passes ∙ ap (own_after a (released_to a w (Some y))) (sym e)
        | inr ne ↦ ap (λ c. c.own) (cell-put_other a y m written ne) ∙ owns_other passes m ne
      ]

  passed_after : Passed a after (pass_page (forest_of a) (name_of a w) (name_of a y)) (released_to a w (Some y))
  passed_after = record {
    forest = after_forest;
    sound = record { kept = own-kept a is_sound.kept y hy state; linked = subst IsLinked (sym (own-forest a is_sound.kept y hy state)) after_linked };
    like = like-put a y written hy refl;
    owns = after_owns;
    counters = (made-put a y written, copies-put a y written);
    room = room-put a y written;
  }

  pub passed : (s : OwnState) → s ≡ given (own_of a w) (own_of a y) → (b : Arena) → b ≡ with_own a y s → (r : Released) → r ≡ released_to a w (Some y)
      → Passed a b (pass_page (forest_of a) (name_of a w) (name_of a y)) r
  passed s s_is b b_is r r_is =
      subst (Passed a b (pass_page (forest_of a) (name_of a w) (name_of a y))) (sym r_is)
      (subst (λ k. Passed a k (pass_page (forest_of a) (name_of a w) (name_of a y)) (released_to a w (Some y))) (sym (b_is ∙ ap (with_own a y) s_is)) passed_after)
