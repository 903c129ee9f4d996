-- The kinds of a copy: nodes leave their parents, are as new, and are linked to their sources.
use Rattle.std.proofs.Common.{◌≡◌, ℕ, List, [], ◌∷◌, Option, Some, None, refl, ◌∙◌}
use Rattle.vm_ids.specs.declared.numbers.NodeId.{NodeId}
use Rattle.local_cache.specs.declared.own_state.OwnState.{OwnState}
use Rattle.local_cache.specs.declared.own_state.OwnState.TheVariants.{Absent}
use Rattle.local_cache.specs.Arena.{Arena, Cell}
use Rattle.local_cache.specs.ManyNodes.{each, next_node}
use Rattle.local_cache.specs.NodeCells.{hanging, over, renewed, with_child}
use Rattle.tree_merge.specs.Copying.{copied_many}
use Rattle.tree_merge.proofs.CopiedPages.Kinds.{Kind, each_kind, kind_by, on, on_on, on_work, page_by, work, work_on}
use Rattle.tree_merge.proofs.CopiedPages.Kinds as kinds
use Rattle.tree_merge.proofs.CopiedPages.Rows.{Pass, pass_back, pass_itself}
use Rattle.tree_merge.proofs.CopiedPages.Rows as rows

-- What is done to cells

abbrev pub left_by : NodeId → ℕ → Cell → Cell
left_by d i = with_child (next_node d i) None

abbrev pub as_new : OwnState → ℕ → Cell → Cell
as_new state i = renewed state

abbrev pub over_one : NodeId → ℕ → Cell → Cell
over_one child i = over (next_node child i ∷ [])

abbrev pub over_two : (older newer : NodeId) → ℕ → Cell → Cell
over_two older newer i = over (next_node older i ∷ next_node newer i ∷ [])

abbrev pub hung_on : NodeId → ℕ → Cell → Cell
hung_on parent i = hanging (Some (next_node parent i))

-- The kinds

abbrev pub linking : (history : Option NodeId) → (d s w : NodeId) → List Kind
linking None d s w = on s (over_one d) ∷ on d (hung_on s) ∷ []
linking (Some h) d s w =
    work w ∷ on w (over_two h d) ∷ on w (hung_on s) ∷ on s (over_one w) ∷ on d (hung_on w) ∷ on h (hung_on w) ∷ []

abbrev pub copying : (parent history : Option NodeId) → (d s w : NodeId) → List Kind
copying None history d s w = on d (as_new Absent) ∷ linking history d s w
copying (Some p) history d s w = on p (left_by d) ∷ on d (as_new Absent) ∷ linking history d s w

-- The rows

abbrev pub linked_rows : (history : Option NodeId) → (d s w : NodeId) → List NodeId
linked_rows None d s w = d ∷ s ∷ []
linked_rows (Some h) d s w = d ∷ s ∷ w ∷ h ∷ []

abbrev pub all_rows : (parent history : Option NodeId) → (d s w : NodeId) → List NodeId
all_rows None history d s w = linked_rows history d s w
all_rows (Some p) history d s w = p ∷ linked_rows history d s w

-- Each kind may be done for all pages before the next one

module _ (d s w : NodeId) (count : ℕ) where
  -- of nodes that become their sources' only tree children
  module _ (ds : Pass d s count) where
    first_pass : kinds.AllPass (on d (as_new Absent) ∷ linking None d s w) count
    first_pass = (
      (on_on d s count ds (as_new Absent) (over_one d), (on_on d d count (pass_itself d count) (as_new Absent) (hung_on s), tt)),
      ((on_on s d count (pass_back d s count ds) (over_one d) (hung_on s), tt), (tt, tt)),
    )

  -- and of those that get working nodes
  module _ (h : NodeId) (ds : Pass d s count) (dw : Pass d w count) (dh : Pass d h count) (sw : Pass s w count) (sh : Pass s h count) (wh : Pass w h count) where
    dd : Pass d d count
    dd = pass_itself d count

    ww : Pass w w count
    ww = pass_itself w count

    sd : Pass s d count
    sd = pass_back d s count ds

    wd : Pass w d count
    wd = pass_back d w count dw

    ws : Pass w s count
    ws = pass_back s w count sw

    new_past : kinds.PassesEach (on d (as_new Absent)) (linking (Some h) d s w) count
    new_past = (
      on_work d w count dw (as_new Absent),
      (
        on_on d w count dw (as_new Absent) (over_two h d),
        (
          on_on d w count dw (as_new Absent) (hung_on s),
          (on_on d s count ds (as_new Absent) (over_one w), (on_on d d count dd (as_new Absent) (hung_on w), (on_on d h count dh (as_new Absent) (hung_on w), tt))),
        ),
      ),
    )

    work_past : kinds.PassesEach (work w) (on w (over_two h d) ∷ on w (hung_on s) ∷ on s (over_one w) ∷ on d (hung_on w) ∷ on h (hung_on w) ∷ []) count
    work_past = (
      work_on w w count ww (over_two h d),
      (
        work_on w w count ww (hung_on s),
        (
          work_on w s count ws (over_one w),
          (work_on w d count wd (hung_on w), (work_on w h count wh (hung_on w), tt)),
        ),
      ),
    )

    two_past : kinds.PassesEach (on w (over_two h d)) (on w (hung_on s) ∷ on s (over_one w) ∷ on d (hung_on w) ∷ on h (hung_on w) ∷ []) count
    two_past = (
      on_on w w count ww (over_two h d) (hung_on s),
      (
        on_on w s count ws (over_two h d) (over_one w),
        (on_on w d count wd (over_two h d) (hung_on w), (on_on w h count wh (over_two h d) (hung_on w), tt)),
      ),
    )

    up_past : kinds.PassesEach (on w (hung_on s)) (on s (over_one w) ∷ on d (hung_on w) ∷ on h (hung_on w) ∷ []) count
    up_past = (on_on w s count ws (hung_on s) (over_one w), (on_on w d count wd (hung_on s) (hung_on w), (on_on w h count wh (hung_on s) (hung_on w), tt)))

    one_past : kinds.PassesEach (on s (over_one w)) (on d (hung_on w) ∷ on h (hung_on w) ∷ []) count
    one_past = (on_on s d count sd (over_one w) (hung_on w), (on_on s h count sh (over_one w) (hung_on w), tt))

    more_pass : kinds.AllPass (on d (as_new Absent) ∷ linking (Some h) d s w) count
    more_pass = (new_past, (work_past, (two_past, (up_past, (one_past, ((on_on d h count dh (hung_on w) (hung_on w), tt), (tt, tt)))))))

  linked_pass : (history : Option NodeId) → rows.AllPass (linked_rows history d s w) count → kinds.AllPass (on d (as_new Absent) ∷ linking history d s w) count
  linked_pass None all = first_pass all.0.0
  linked_pass (Some h) all = more_pass h all.0.0 all.0.1.0 all.0.1.1.0 all.1.0.0 all.1.0.1.0 all.1.1.0.0

  left_pass : (history : Option NodeId) (p : NodeId) → rows.EachPass p (linked_rows history d s w) count → kinds.PassesEach (on p (left_by d)) (on d (as_new Absent) ∷ linking history d s w) count
  left_pass None p all =
      (on_on p d count all.0 (left_by d) (as_new Absent), (on_on p s count all.1.0 (left_by d) (over_one d), (on_on p d count all.0 (left_by d) (hung_on s), tt)))
  left_pass (Some h) p all =
      let pd : Pass p d count = all.0 in
      let ps : Pass p s count = all.1.0 in
      let pw : Pass p w count = all.1.1.0 in
      let ph : Pass p h count = all.1.1.1.0 in (
        on_on p d count pd (left_by d) (as_new Absent),
        (
          on_work p w count pw (left_by d),
          (
            on_on p w count pw (left_by d) (over_two h d),
            (
              on_on p w count pw (left_by d) (hung_on s),
              (on_on p s count ps (left_by d) (over_one w), (on_on p d count pd (left_by d) (hung_on w), (on_on p h count ph (left_by d) (hung_on w), tt))),
            ),
          ),
        ),
      )

  copying_pass : (parent history : Option NodeId) → rows.AllPass (all_rows parent history d s w) count → kinds.AllPass (copying parent history d s w) count
  copying_pass None history all = linked_pass history all
  copying_pass (Some p) history all = (left_pass history p all.0, linked_pass history all.1)

  copied_by : (a : Arena) (parent history : Option NodeId) → kind_by (copying parent history d s w) count a ≡ copied_many a parent history d s w count
  copied_by a None None = refl
  copied_by a None (Some h) = refl
  copied_by a (Some p) None = refl
  copied_by a (Some p) (Some h) = refl

  pub each_copied : (a : Arena) (parent history : Option NodeId) → rows.AllPass (all_rows parent history d s w) count
      → each (page_by (copying parent history d s w)) count a ≡ copied_many a parent history d s w count
  each_copied a parent history all = each_kind (copying parent history d s w) count (copying_pass parent history all) a ∙ copied_by a parent history
