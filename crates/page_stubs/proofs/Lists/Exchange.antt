-- A node in the place of a stub: what it does to the links and to the list.
use Rattle.std.proofs.Common.{◌≡◌, ◌≢◌, ℕ, Bool, true, false, List, [], ◌∷◌, ◌++◌, length, Option, Some, None, refl, sym, ap, ◌∙◌, subst, inl, inr, arith, length-append}
use Rattle.vm_ids.specs.declared.numbers.NodeId.{NodeId}
use Rattle.local_cache.specs.declared.links.Links.{Links}
use Rattle.local_cache.specs.Arena.{Arena, cell, HasNode}
use Rattle.local_cache.specs.Threads.{head_or, last_or, Row, IsThreaded}
use Rattle.local_cache.specs.Sound.{◌∈◌}
use Rattle.local_cache.specs.Changes.{Relinked, Once}
use Rattle.local_cache.proofs.Forest.StubRows.{row-front, row-rear, row-join, row-each, threaded-kept, ends, last_or-end, last_or-append, last_in}
use Rattle.local_cache.proofs.Forest.StubRows.Ends.{IsNone, EndsBy}
use Rattle.local_cache.proofs.Changes.SameNodes.{relinked, relinked_then, links-with_links, links-with_links_other}
use Rattle.page_stubs.specs.Threading.{IsHeldIf, with_behind, with_before, with_ends, with_place, end_with, replaced}
use Rattle.page_stubs.proofs.Lists.Cut.{once-apart, once-front, once-rear, in_left, in_right}
use Rattle.page_stubs.proofs.Lists.Joining.{Moved, row-moved, head_in, last_some}
use Rattle.page_stubs.proofs.Lists.Links.{held_if, behind_relinked, before_relinked, links-col, behind-col, before-col, behind_at, behind_other, before_at, before_other}

-- The steps of the code

-- what they leave, where l and r were the neighbours of w
pub record Exchanged (a c : Arena) (w y p : NodeId) (l r : Option NodeId) : Type 0 where
  pub links : Relinked a c
  pub w_parent : (cell c w).links.parent ≡ None
  pub w_by_stub : (cell c w).links.by_stub ≡ false
  pub y_parent : (cell c y).links.parent ≡ Some p
  pub y_by_stub : (cell c y).links.by_stub ≡ true
  pub y_before : (cell c y).links.before ≡ l
  pub y_behind : (cell c y).links.behind ≡ r
  pub parent : (m : NodeId) → m ≢ w → m ≢ y → (cell c m).links.parent ≡ (cell a m).links.parent
  pub by_stub : (m : NodeId) → m ≢ w → m ≢ y → (cell c m).links.by_stub ≡ (cell a m).links.by_stub
  pub behind_at : (m : NodeId) → m ≢ w → m ≢ y → l ≡ Some m → (cell c m).links.behind ≡ Some y
  pub behind_other : (m : NodeId) → m ≢ w → m ≢ y → (l ≡ Some m → ⊥) → (cell c m).links.behind ≡ (cell a m).links.behind
  pub before_at : (m : NodeId) → m ≢ w → m ≢ y → r ≡ Some m → (cell c m).links.before ≡ Some y
  pub before_other : (m : NodeId) → m ≢ w → m ≢ y → (r ≡ Some m → ⊥) → (cell c m).links.before ≡ (cell a m).links.before
  pub p_first : (cell c p).links.first ≡ end_with l y (cell a p).links.first
  pub p_last : (cell c p).links.last ≡ end_with r y (cell a p).links.last
  pub p_count : (cell c p).links.stubs ≡ (cell a p).links.stubs
  pub other_first : (m : NodeId) → m ≢ p → (cell c m).links.first ≡ (cell a m).links.first
  pub other_last : (m : NodeId) → m ≢ p → (cell c m).links.last ≡ (cell a m).links.last
  pub other_count : (m : NodeId) → m ≢ p → (cell c m).links.stubs ≡ (cell a m).links.stubs

module _ (a : Arena) (w y p : NodeId) (apart : y ≢ w) (hw : HasNode a w) (hy : HasNode a y) (hp : HasNode a p) (hl : IsHeldIf a (cell a w).links.before) (hr : IsHeldIf a (cell a w).links.behind) where
  abbrev l : Option NodeId
  l = (cell a w).links.before

  abbrev r : Option NodeId
  r = (cell a w).links.behind

  abbrev b1 : Arena
  b1 = with_behind a l (Some y)

  abbrev b2 : Arena
  b2 = with_before b1 r (Some y)

  abbrev b3 : Arena
  b3 = with_ends b2 p (end_with l y (cell a p).links.first) (end_with r y (cell a p).links.last) (cell a p).links.stubs

  abbrev b4 : Arena
  b4 = with_place b3 y (Some p) true l r

  abbrev c : Arena
  c = with_place b4 w None false None None

  -- a column of the place of a node that is neither w nor y
  early : {A : Type 0} (col : Links → A) → (m : NodeId) → m ≢ w → m ≢ y → ((l : Links) (f g : Option NodeId) (k : ℕ) → col (record l { first = f; last = g; stubs = k }) ≡ col l)
      → col (cell (replaced a w y p) m).links ≡ col (cell (with_before (with_behind a (cell a w).links.before (Some y)) (cell a w).links.behind (Some y)) m).links
  early col m nw ny same = ap col (links-with_links_other b4 w m _ nw) ∙ ap col (links-with_links_other b3 y m _ ny) ∙ links-col col b2 p _ m (same _ _ _ _)

  -- a column of the ends of the lists
  late : {A : Type 0} (col : Links → A) → (m : NodeId) → ((l : Links) (u : Option NodeId) (t : Bool) (f g : Option NodeId) → col (record l { parent = u; by_stub = t; before = f; behind = g }) ≡ col l)
      → col (cell (replaced a w y p) m).links ≡ col (cell (with_ends (with_before (with_behind a (cell a w).links.before (Some y)) (cell a w).links.behind (Some y)) p (end_with (cell a w).links.before y (cell a p).links.first) (end_with (cell a w).links.behind y (cell a p).links.last) (cell a p).links.stubs) m).links
  late col m same = links-col col b4 w _ m (same _ _ _ _ _) ∙ links-col col b3 y _ m (same _ _ _ _ _)

  ends_other : {A : Type 0} (col : Links → A) → (m : NodeId) → m ≢ p → ((l : Links) (u : Option NodeId) (t : Bool) (f g : Option NodeId) → col (record l { parent = u; by_stub = t; before = f; behind = g }) ≡ col l)
      → ((l : Links) (o : Option NodeId) → col (record l { behind = o }) ≡ col l) → ((l : Links) (o : Option NodeId) → col (record l { before = o }) ≡ col l) → col (cell (replaced a w y p) m).links ≡ col (cell a m).links
  ends_other col m np same one two = late col m same ∙ ap col (links-with_links_other b2 p m _ np) ∙ before-col col two b1 r (Some y) m ∙ behind-col col one a l (Some y) m

  all_links : Relinked a (replaced a w y p)
  all_links =
      let r1 = behind_relinked a l (Some y) hl in
      let r2 = relinked_then a b1 b2 r1 (before_relinked b1 r (Some y) (held_if a b1 r r1.like hr)) in
      let r3 = relinked_then a b2 b3 r2 (relinked b2 p _ (r2.like.held p ∙ hp)) in
      let r4 = relinked_then a b3 b4 r3 (relinked b3 y _ (r3.like.held y ∙ hy)) in
      relinked_then a b4 c r4 (relinked b4 w _ (r4.like.held w ∙ hw))

  y_links : (cell (replaced a w y p) y).links ≡ record (cell b3 y).links { parent = Some p; by_stub = true; before = l; behind = r }
  y_links = links-with_links_other b4 w y _ apart ∙ links-with_links b3 y _

  pub exchanges : Exchanged a (replaced a w y p) w y p (cell a w).links.before (cell a w).links.behind
  exchanges = record {
    links = all_links;
    w_parent = ap (λ l. l.parent) (links-with_links b4 w _);
    w_by_stub = ap (λ l. l.by_stub) (links-with_links b4 w _);
    y_parent = ap (λ l. l.parent) y_links;
    y_by_stub = ap (λ l. l.by_stub) y_links;
    y_before = ap (λ l. l.before) y_links;
    y_behind = ap (λ l. l.behind) y_links;
    parent = λ m nw ny. early (λ l. l.parent) m nw ny (λ l f g k. refl) ∙ before-col (λ l. l.parent) (λ l o. refl) b1 r (Some y) m ∙ behind-col (λ l. l.parent) (λ l o. refl) a l (Some y) m;
    by_stub = λ m nw ny. early (λ l. l.by_stub) m nw ny (λ l f g k. refl) ∙ before-col (λ l. l.by_stub) (λ l o. refl) b1 r (Some y) m ∙ behind-col (λ l. l.by_stub) (λ l o. refl) a l (Some y) m;
    behind_at = λ m nw ny e. early (λ l. l.behind) m nw ny (λ l f g k. refl) ∙ before-col (λ l. l.behind) (λ l o. refl) b1 r (Some y) m ∙ behind_at a l (Some y) m e;
    behind_other = λ m nw ny ne. early (λ l. l.behind) m nw ny (λ l f g k. refl) ∙ before-col (λ l. l.behind) (λ l o. refl) b1 r (Some y) m ∙ behind_other a l (Some y) m ne;
    before_at = λ m nw ny e. early (λ l. l.before) m nw ny (λ l f g k. refl) ∙ before_at b1 r (Some y) m e;
    before_other = λ m nw ny ne. early (λ l. l.before) m nw ny (λ l f g k. refl) ∙ before_other b1 r (Some y) m ne ∙ behind-col (λ l. l.before) (λ l o. refl) a l (Some y) m;
    p_first = late (λ l. l.first) p (λ l u t f g. refl) ∙ ap (λ l. l.first) (links-with_links b2 p _);
    p_last = late (λ l. l.last) p (λ l u t f g. refl) ∙ ap (λ l. l.last) (links-with_links b2 p _);
    p_count = late (λ l. l.stubs) p (λ l u t f g. refl) ∙ ap (λ l. l.stubs) (links-with_links b2 p _);
    other_first = λ m np. ends_other (λ l. l.first) m np (λ l u t f g. refl) (λ l o. refl) (λ l o. refl);
    other_last = λ m np. ends_other (λ l. l.last) m np (λ l u t f g. refl) (λ l o. refl) (λ l o. refl);
    other_count = λ m np. ends_other (λ l. l.stubs) m np (λ l u t f g. refl) (λ l o. refl) (λ l o. refl);
  }

-- The list

first_with : (us vs : List NodeId) (w y : NodeId) → end_with (last_or us None) y (head_or (us ++ w ∷ vs) None) ≡ head_or (us ++ y ∷ vs) None
first_with [] vs w y = refl
first_with (u ∷ us) vs w y = let l = last_some us u in ap (λ o. end_with o y (Some u)) l.1

last_with : (us vs : List NodeId) (w y : NodeId) → end_with (head_or vs None) y (last_or (us ++ w ∷ vs) None) ≡ last_or (us ++ y ∷ vs) None
last_with us [] w y = sym (last_or-end us y None)
last_with us (v ∷ vs) w y = last_or-append us (w ∷ v ∷ vs) None ∙ sym (last_or-append us (y ∷ v ∷ vs) None)

module _ (a c : Arena) (w y p : NodeId) (us vs : List NodeId) (hy : HasNode a y) (root : (cell a y).links.parent ≡ None) (t : IsThreaded a p (us ++ w ∷ vs)) (once : Once (us ++ w ∷ vs))
    (swap : Exchanged a c w y p (last_or us None) (head_or vs None)) where
  held : (m : NodeId) → HasNode a m → HasNode c m
  held m h = swap.links.like.held m ∙ h

  each : (m : NodeId) → m ∈ (us ++ w ∷ vs) → HasNode a m × ((cell a m).links.parent ≡ Some p) × ((cell a m).links.by_stub ≡ true)
  each m i = row-each a p None (us ++ w ∷ vs) None t.row m i

  in_us : (m : NodeId) → m ∈ us → m ∈ (us ++ w ∷ vs)
  in_us m i = in_left us (w ∷ vs) m i

  in_vs : (m : NodeId) → m ∈ vs → m ∈ (us ++ w ∷ vs)
  in_vs m i = in_right us (w ∷ vs) m (inr i)

  not_y : (m : NodeId) → (x : NodeId) → (cell a m).links.parent ≡ Some x → m ≢ y
  not_y m x up e = (let clash : Some x ≡ None = sym up ∙ ap (λ k. (cell a k).links.parent) e ∙ root in cc clash)

  us_not_w : (m : NodeId) → m ∈ us → m ≢ w
  us_not_w m i e = once-apart us (w ∷ vs) once m i (inl e)

  vs_not_w : (m : NodeId) → m ∈ vs → m ≢ w
  vs_not_w m i e = (once-rear us (w ∷ vs) once).0 (subst (λ k. k ∈ vs) e i)

  both : (m : NodeId) → m ∈ us → m ∈ vs → ⊥
  both m i j = once-apart us (w ∷ vs) once m i (inr j)

  front : Row c p None us (Some y)
  front = elim (ends us) [
    | IsNone e ↦ subst (λ zs. Row c p None zs (Some y)) (sym e) tt
    | EndsBy ws l e ↦
        let was : Row a p None (ws ++ l ∷ []) (Some w) = subst (λ zs. Row a p None zs (Some w)) e (row-front a p None us (w ∷ vs) None t.row) in
        let at_l = (row-rear a p None ws (l ∷ []) (Some w) was).0 in
        let last_l : last_or us None ≡ Some l = ap (λ zs. last_or zs None) e ∙ last_or-end ws l None in
        let l_in = last_in us l last_l in
        let ny : l ≢ y = not_y l p at_l.parent in
        let inside : (z : NodeId) → z ∈ ws → z ∈ us = λ z i. subst (λ zs. z ∈ zs) (sym e) (in_left ws (l ∷ []) z i) in
        let kept : (z : NodeId) → z ∈ ws → Moved a c z p = λ z i.
        let z_in = inside z i in
        let up = each z (in_us z z_in) in
        let nw = us_not_w z z_in in
        let nz = not_y z p up.1 in
        record {
          held = held z up.0;
          parent = swap.parent z nw nz ∙ up.1;
          by_stub = swap.by_stub z nw nz;
          before = swap.before_other z nw nz (λ q. both z z_in (head_in vs z q));
          behind = swap.behind_other z nw nz (λ q. (let two : Some l ≡ Some z = sym last_l ∙ q in let same : l ≡ z = cc two in once-apart ws (l ∷ []) (subst Once e (once-front us (w ∷ vs) once)) z i (inl (sym same))));
        } in
        subst (λ zs. Row c p None zs (Some y)) (sym e)
        (row-join c p None ws (l ∷ []) (Some y)
        (row-moved a c p p None ws (Some l) kept (row-front a p None ws (l ∷ []) (Some w) was)) (
          record {
            held = held l at_l.held;
            parent = swap.parent l (us_not_w l l_in) ny ∙ at_l.parent;
            by_stub = swap.by_stub l (us_not_w l l_in) ny ∙ at_l.by_stub;
            has_before = swap.before_other l (us_not_w l l_in) ny (λ q. both l l_in (head_in vs l q)) ∙ at_l.has_before;
            has_behind = swap.behind_at l (us_not_w l l_in) ny last_l;
          },
          tt,
        ))
  ]

  rear : (zs : List NodeId) → vs ≡ zs → Row c p (Some y) zs None
  rear [] e = tt
  rear (r ∷ rs) e =
      let was : Row a p (Some w) (r ∷ rs) None = subst (λ zs. Row a p (Some w) zs None) e (row-rear a p None us (w ∷ vs) None t.row).1 in
      let once_vs : Once (r ∷ rs) = subst Once e (once-rear us (w ∷ vs) once).1 in
      let inside : (z : NodeId) → z ∈ (r ∷ rs) → z ∈ vs = λ z i. subst (λ zs. z ∈ zs) (sym e) i in
      let r_in = inside r (inl refl) in
      let ny : r ≢ y = not_y r p was.0.parent in
      let kept : (z : NodeId) → z ∈ rs → Moved a c z p = λ z i.
      let z_in = inside z (inr i) in
      let up = each z (in_vs z z_in) in
      let nw = vs_not_w z z_in in
      let nz = not_y z p up.1 in
      record {
        held = held z up.0;
        parent = swap.parent z nw nz ∙ up.1;
        by_stub = swap.by_stub z nw nz;
        before = swap.before_other z nw nz (λ q. (let two : Some r ≡ Some z = sym (ap (λ zs. head_or zs None) e) ∙ q in let same : r ≡ z = cc two in once_vs.0 (subst (λ k. k ∈ rs) (sym same) i)));
        behind = swap.behind_other z nw nz (λ q. both z (last_in us z q) z_in);
      } in (
        record {
          held = held r was.0.held;
          parent = swap.parent r (vs_not_w r r_in) ny ∙ was.0.parent;
          by_stub = swap.by_stub r (vs_not_w r r_in) ny ∙ was.0.by_stub;
          has_before = swap.before_at r (vs_not_w r r_in) ny (ap (λ zs. head_or zs None) e);
          has_behind = swap.behind_other r (vs_not_w r r_in) ny (λ q. both r (last_in us r q) r_in) ∙ was.0.has_behind;
        },
        row-moved a c p p (Some r) rs None kept was.1,
      )

  same_length : length (us ++ w ∷ vs) ≡ length (us ++ y ∷ vs)
  same_length = omega (arith, length-append us (w ∷ vs), length-append us (y ∷ vs))

  pub threaded_with : IsThreaded c p (us ++ y ∷ vs)
  threaded_with = record {
    row = row-join c p None us (y ∷ vs) None front (record { held = held y hy; parent = swap.y_parent; by_stub = swap.y_by_stub; has_before = swap.y_before; has_behind = swap.y_behind }, rear vs refl);
    first = swap.p_first ∙ ap (end_with (last_or us None) y) t.first ∙ first_with us vs w y;
    last = swap.p_last ∙ ap (end_with (head_or vs None) y) t.last ∙ last_with us vs w y;
    count = swap.p_count ∙ t.count ∙ same_length;
  }

  pub threaded_beside : (x : NodeId) (zs : List NodeId) → x ≢ p → IsThreaded a x zs → IsThreaded c x zs
  threaded_beside x zs np s = threaded-kept a c x zs
      (λ z i.
      let up = (row-each a x None zs None s.row z i).1 in
      let out : z ∈ (us ++ w ∷ vs) → ⊥ = λ j. np (let two : Some x ≡ Some p = sym up ∙ (each z j).1 in cc two) in
      let nw : z ≢ w = λ e. out (in_right us (w ∷ vs) z (inl e)) in
      let nz = not_y z x up in
      record {
        held = held z;
        parent = swap.parent z nw nz;
        by_stub = swap.by_stub z nw nz;
        before = swap.before_other z nw nz (λ q. out (in_vs z (head_in vs z q)));
        behind = swap.behind_other z nw nz (λ q. out (in_us z (last_in us z q)));
      })
      (swap.other_first x np) (swap.other_last x np) (swap.other_count x np) s
