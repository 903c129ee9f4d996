-- Working nodes that are alike give way at once: one after the other, each as the thin node with
-- the least number.
use Rattle.std.proofs.Common.{◌≡◌, ◌≢◌, ℕ, zero, suc, ◌+◌, ◌<◌, ◌≤◌, Bool, true, false, cond, List, [], ◌∷◌, length, map, Option, Some, None, is_some, refl, sym, ap, ◌∙◌, subst, arith, inl, ltb}
use Rattle.std.specs.Prelude.{IfSome, slice_get, ◌==◌}
use Rattle.std.specs.List.{cons_option}
use Rattle.vm_ids.specs.declared.node_name.NodeName.TheVariants.{Working}
use Rattle.vm_ids.specs.declared.numbers.NodeId.{NodeId}
use Rattle.local_cache.specs.declared.own_state.OwnState.{OwnState}
use Rattle.local_cache.specs.Arena.{Arena, Cell, HasNode, cell, find, no_links, without}
use Rattle.local_cache.specs.Many.{HaveNodes, IsPlain, without_many}
use Rattle.local_cache.specs.ManyNodes.{each, next_if, next_node}
use Rattle.local_cache.specs.NodeCells.{exchanged, inheriting, with_child}
use Rattle.local_cache.specs.OnCells.{cut_from, given_way, on_cell, on_cells}
use Rattle.local_cache.specs.Own.{own_of}
use Rattle.local_cache.specs.Reading.{name_of}
use Rattle.local_cache.specs.Sound.{IsSound, ◌∈◌}
use Rattle.local_cache.specs.Thin.{IsLeastThin, IsThin, has_few}
use Rattle.local_cache.proofs.Forest.ThinForest.{thin-forest}
use Rattle.local_cache.proofs.Nodes.Cells.{find-put_other}
use Rattle.history_tree.proofs.OnCells.{here, on_keeps}
use Rattle.tree_merge.specs.declared.released.Released.{Released}
use Rattle.tree_merge.specs.Copying.{AreApart}
use Rattle.tree_merge.specs.Releasing.{IsMerged, released_to}
use Rattle.tree_merge.specs.Settling.{AreMergedPlain, CanGiveMany, exchanged_many, given_many}
use Rattle.tree_merge.specs.Staying.{IsGone}
use Rattle.tree_merge.proofs.CopiedPages.Changes.{cell_by, find-without_other}
use Rattle.tree_merge.proofs.CopiedPages.Kinds.{Kind, each_kind, on, on_on}
use Rattle.tree_merge.proofs.CopiedPages.Rows.{pass_apart}
use Rattle.tree_merge.proofs.Merge.Once.{once_merged, once_sound}
use Rattle.tree_merge.proofs.RetiredPages.Leaves.{gone, on_gone}

-- Among children

same_length : (n y : NodeId) (ts : List NodeId) → length (exchanged n (Some y) ts) ≡ length ts
same_length n y [] = refl
same_length n y (t ∷ ts) = one (t.0 == n.0) (exchanged n (Some y) ts) ∙ ap suc (same_length n y ts)
  where
    one : (b : Bool) (rest : List NodeId) → length (cons_option (cond b (Some y) (Some t)) rest) ≡ suc (length rest)
    one true rest = refl
    one false rest = refl

-- how many children a node has
abbrev children : Cell → ℕ
children c = length c.tree + c.links.stubs

children_instead : (x : Arena) (o : Option NodeId) (n y m : NodeId) → children (cell (cut_from x o n (Some y)) m) ≡ children (cell x m)
children_instead x None n y m = refl
children_instead x (Some p) n y m = on_keeps children x p (with_child n (Some y)) m (λ c. ap (λ (k : ℕ). k + c.links.stubs) (same_length n y c.tree))

found_instead : (x : Arena) (o : Option NodeId) (n y m : NodeId) → ((q : NodeId) → o ≡ Some q → m ≢ q) → find (cut_from x o n (Some y)) m ≡ find x m
found_instead x None n y m apart = refl
found_instead x (Some q) n y m apart = find-put_other x q m _ (apart q refl)

-- the calls, one after the other
pub given_is : (a : Arena) (w y : NodeId) (count : ℕ) (o : Option NodeId) (s : OwnState) (x z b : Arena) → o ≡ (cell a w).links.parent → s ≡ own_of a w → x ≡ exchanged_many a o w y count
    → z ≡ on_cells x y (λ k. inheriting s (next_if o k)) count → b ≡ without_many z w count → b ≡ given_many a (cell a w).links.parent w y count
given_is a w y count o s x z b o_is s_is x_is z_is b_is =
    b_is ∙ ap (λ (q : Arena). without_many q w count) (
    z_is ∙ ap (λ (q : Arena). on_cells q y (λ k. inheriting s (next_if o k)) count) x_is
    ∙ (λ i. on_cells (exchanged_many a (o_is i) w y count) y (λ k. inheriting (s_is i) (next_if (o_is i) k)) count))

-- Rows

row_apart : (o : Option NodeId) (m : NodeId) (count : ℕ) → IfSome o (λ p. AreApart p m count) → (i j : ℕ) → i < count → j < count → (q : NodeId) → next_if o i ≡ Some q → next_node m j ≢ q
row_apart None m count apart i j low high q e = absurd (cc e)
row_apart (Some p) m count apart i j low high q e = let same : next_node p i ≡ q = cc e in λ f. apart i low j high (same ∙ sym f)

nodes_apart : (n : NodeId) (i j : ℕ) → i ≢ j → next_node n i ≢ next_node n j
nodes_apart n i j other e = let same : n.0 + i ≡ n.0 + j = ap (λ (k : NodeId). k.0) e in other (omega (arith, same))

-- One kind after the other

-- a node gives way, with this own page, to its child, under its parent
abbrev gives : Option NodeId → (w y : NodeId) → OwnState → Kind
gives o w y s k x =
    without
    (on_cell (cut_from x (next_if o k) (next_node w k) (Some (next_node y k))) (next_node y k) (inheriting s (next_if o k)))
    (next_node w k)

module _ (a : Arena) (w y : NodeId) (count : ℕ) (children_pass : AreApart y w count) where
  in_kinds : (o : Option NodeId) → IfSome o (λ p. AreApart p w count) → IfSome o (λ p. AreApart p y count) → each (gives o w y (own_of a w)) count a ≡ given_many a o w y count
  in_kinds None over beside =
      each_kind (on y (λ k. inheriting (own_of a w) None) ∷ gone w ∷ []) count
      ((on_gone y w count (pass_apart y w count children_pass) (λ k. inheriting (own_of a w) None), tt), (tt, tt)) a
  in_kinds (Some p) over beside =
      let put : ℕ → Cell → Cell = λ k. with_child (next_node w k) (Some (next_node y k)) in
      let up : ℕ → Cell → Cell = λ k. inheriting (own_of a w) (Some (next_node p k)) in
      each_kind (on p put ∷ on y up ∷ gone w ∷ []) count (
        (on_on p y count (pass_apart p y count beside) put up, (on_gone p w count (pass_apart p w count over) put, tt)),
        ((on_gone y w count (pass_apart y w count children_pass) up, tt), (tt, tt)),
      ) a

-- The next thin node

-- the least thin node gave way, and the next number is that of a thin node
module _ (x c : Arena) (sound : IsSound x) (w n : NodeId) (least : IsLeastThin x (Some w)) (went : IsGone x c w) (few : (m : NodeId) → m ≢ w → has_few (cell c m) ≡ has_few (cell x m))
    (held : HasNode x n) (named : name_of x n ≡ Working (least.0 + 1)) (thin_n : has_few (cell x n) ≡ true) where
  other : n ≢ w
  other e =
      let same : Working (least.0 + 1) ≡ Working least.0 = sym named ∙ ap (name_of x) e ∙ least.1.name in
      let number : least.0 + 1 ≡ least.0 = cc same in
      let bad : ⊥ = omega (arith, number) in
      bad

  not_gone : (m : NodeId) → HasNode c m → m ≢ w
  not_gone m there e = none_there (find c w) went.gone (ap (λ k. is_some (find c k)) (sym e) ∙ there)
    where
      none_there : (o : Option Cell) → o ≡ None → is_some o ≡ true → ⊥
      none_there None e h = absurd (cc h)
      none_there (Some d) e h = absurd (cc e)

  before : (m : NodeId) (number : ℕ) → IsThin c m number → IsThin x m number
  before m number t =
      let ne = not_gone m t.held in
      record { held = sym (went.held m ne) ∙ t.held; name = sym (went.name m ne) ∙ t.name; few = sym (few m ne) ∙ t.few }

  least_of : (m : NodeId) (number : ℕ) → IsThin c m number → least.0 + 1 ≤ number
  least_of m number t =
      let was = before m number t in
      let most : least.0 ≤ number = least.2 m number was in
      let apart : least.0 ≢ number = λ e. not_gone m t.held (sound.kept.named.apart m w was.held least.1.held (was.name ∙ ap Working (sym e) ∙ sym least.1.name)) in
      omega (arith, most, apart)

  pub next_least : IsLeastThin c (Some n)
  next_least = (
    least.0 + 1,
    record { held = went.held n other ∙ held; name = went.name n other ∙ named; few = few n other ∙ thin_n },
    least_of,
  )

-- the node of a step is the least thin one
the_thin : (x c : Arena) (r : Released) → IsSound x → (w : NodeId) → IsLeastThin x (Some w) → (m : IsMerged x c r) → m.node ≡ w
the_thin x c r sound w least m =
    let two : Some (name_of x m.node) ≡ Some (name_of x w) = sym m.least ∙ thin-forest x sound.kept (Some w) least in
    let same : name_of x m.node ≡ name_of x w = cc two in
    sound.kept.named.apart m.node w m.held least.1.held same

-- All of them

module _ (a : Arena) (w y : NodeId) (count : ℕ) (can : CanGiveMany a w y count) where
  abbrev done : ℕ → Arena
  done k = each (gives (cell a w).links.parent w y (own_of a w)) k a

  -- a node that is none of those of the first steps
  record IsBesides (m : NodeId) (k : ℕ) : Type 0 where
    nodes : (i : ℕ) → i < k → m ≢ next_node w i
    under : (i : ℕ) → i < k → m ≢ next_node y i
    over : (i : ℕ) → i < k → (q : NodeId) → next_if (cell a w).links.parent i ≡ Some q → m ≢ q

  found : (k : ℕ) (m : NodeId) → IsBesides m k → find (done k) m ≡ find a m
  found zero m clear = refl
  found (suc k) m clear =
      let b = done k in
      let x = cut_from b (next_if (cell a w).links.parent k) (next_node w k) (Some (next_node y k)) in
      let z = on_cell x (next_node y k) (inheriting (own_of a w) (next_if (cell a w).links.parent k)) in
      find-without_other z (next_node w k) m (clear.nodes k (omega arith))
      ∙ find-put_other x (next_node y k) m _ (clear.under k (omega arith))
      ∙ found_instead b (next_if (cell a w).links.parent k) (next_node w k) (next_node y k) m (clear.over k (omega arith))
      ∙ found k m (record { nodes = λ i less. clear.nodes i (omega (arith, less)); under = λ i less. clear.under i (omega (arith, less)); over = λ i less. clear.over i (omega (arith, less)) })

  -- the next nodes are as they were
  later : (k j : ℕ) → k ≤ j → j < count → find (done k) (next_node w j) ≡ find a (next_node w j)
  later k j le high = found k (next_node w j) (record {
    nodes = λ i less. nodes_apart w j i (λ e. (let bad : ⊥ = omega (arith, e, le, less) in bad));
    under = λ i less e. can.different.children i (omega (arith, less, le, high)) j high (sym e);
    over = λ i less. row_apart (cell a w).links.parent w count can.different.parents i j (omega (arith, less, le, high)) high;
  })

  cell_later : (k j : ℕ) → k ≤ j → j < count → cell (done k) (next_node w j) ≡ cell a (next_node w j)
  cell_later k j le high = cell_by a (done k) (next_node w j) (later k j le high)

  -- of a node

  tree_of_it : (k : ℕ) → k < count → (cell a (next_node w k)).tree ≡ next_node y k ∷ []
  tree_of_it k less = (can.alike k less).tree ∙ ap (map (λ m. next_node m k)) can.child

  name_of_it : (k : ℕ) → k < count → name_of a (next_node w k) ≡ Working (can.least.0 + k)
  name_of_it k less = (can.alike k less).working can.least.0 can.least.1.name

  few_of_it : (k : ℕ) → k < count → has_few (cell a (next_node w k)) ≡ true
  few_of_it k less =
      let one : length (cell a (next_node w k)).tree + (cell a (next_node w k)).links.stubs ≡ 1 = omega (arith, ap length (tree_of_it k less), ap (λ l. l.stubs) (can.alike k less).links) in
      ap (λ (n : ℕ). ltb n 2) one

  -- What the calls need

  pub parents_there : IfSome (cell a w).links.parent (λ p. HaveNodes a p count)
  parents_there = go (cell a w).links.parent (λ k less. ap (λ l. l.parent) (can.alike k less).links)
    where
      go : (o : Option NodeId) → ((k : ℕ) → k < count → (cell a (next_node w k)).links.parent ≡ next_if o k) → IfSome o (λ p. HaveNodes a p count)
      go None links = tt
      go (Some p) links = λ k less. can.sound.kept.parents (next_node w k) (next_node p k) (can.alike k less).held (links k less)

  pub children_there : HaveNodes a y count
  children_there k less = can.sound.kept.children (next_node w k) (next_node y k) (can.alike k less).held (subst (λ ts. next_node y k ∈ ts) (sym (tree_of_it k less)) (inl refl))

  -- The steps

  record Far (k : ℕ) : Type 0 where
    merged : AreMergedPlain a (done k) k
    sound : IsSound (done k)
    least : k < count → IsLeastThin (done k) (Some (next_node w k))

  module _ (k : ℕ) (less : k < count) (far : Far k) where
    cell_is : cell (done k) (next_node w k) ≡ cell a (next_node w k)
    cell_is = cell_later k k (omega arith) less

    first : slice_get (cell (done k) (next_node w k)).tree 0 ≡ Some (next_node y k)
    first = ap (λ (c : Cell). slice_get c.tree 0) cell_is ∙ ap (λ ts. slice_get ts 0) (tree_of_it k less)

    links : (cell (done k) (next_node w k)).links ≡ record no_links { parent = next_if (cell a w).links.parent k }
    links = ap (λ (c : Cell). c.links) cell_is ∙ (can.alike k less).links

    own : own_of (done k) (next_node w k) ≡ own_of a w
    own = ap (λ (c : Cell). c.own) cell_is ∙ (can.alike k less).own

    by_link : (cell (done k) (next_node w k)).links.by_stub ≡ false
    by_link = ap (λ l. l.by_stub) links

    is : done (suc k) ≡ given_way (done k) (next_node w k) (next_node y k)
    is =
        ap (λ s. without (on_cell (cut_from (done k) (next_if (cell a w).links.parent k) (next_node w k) (Some (next_node y k))) (next_node y k) (inheriting s (next_if (cell a w).links.parent k))) (next_node w k)) (sym own)
        ∙ ap (λ o. without (on_cell (cut_from (done k) o (next_node w k) (Some (next_node y k))) (next_node y k) (inheriting (own_of (done k) (next_node w k)) o)) (next_node w k)) (sym (ap (λ l. l.parent) links))

    step_merged : IsMerged (done k) (done (suc k)) (released_to (done k) (next_node w k) (Some (next_node y k)))
    step_merged = once_merged (done k) far.sound (next_node w k) (next_node y k) (far.least less) first by_link (done (suc k)) is

    plain : IsPlain (own_of (done k) step_merged.node)
    plain =
        let same = the_thin (done k) (done (suc k)) _ far.sound (next_node w k) (far.least less) step_merged in
        subst (λ m. IsPlain (own_of (done k) m)) (sym same) (subst IsPlain (sym own) (can.alike k less).plain)

    went : IsGone (done k) (done (suc k)) (next_node w k)
    went =
        let same = the_thin (done k) (done (suc k)) _ far.sound (next_node w k) (far.least less) step_merged in
        subst (IsGone (done k) (done (suc k))) same step_merged.gone

    few_kept : (m : NodeId) → m ≢ next_node w k → has_few (cell (done (suc k)) m) ≡ has_few (cell (done k) m)
    few_kept m ne =
        let b = done k in
        let x = cut_from b (next_if (cell a w).links.parent k) (next_node w k) (Some (next_node y k)) in
        let z = on_cell x (next_node y k) (inheriting (own_of a w) (next_if (cell a w).links.parent k)) in
        ap has_few (cell_by z (done (suc k)) m (find-without_other z (next_node w k) m ne))
        ∙ ap (λ (j : ℕ). ltb j 2) (on_keeps children x (next_node y k) (inheriting (own_of a w) (next_if (cell a w).links.parent k)) m (λ c. refl))
        ∙ ap (λ (j : ℕ). ltb j 2) (children_instead b (next_if (cell a w).links.parent k) (next_node w k) (next_node y k) m)

    next : suc k < count → IsLeastThin (done (suc k)) (Some (next_node w (suc k)))
    next more =
        let b = done k in
        let least = far.least less in
        let cell_next = cell_later k (suc k) (omega arith) more in
        let number : Working least.0 ≡ Working (can.least.0 + k) = sym least.1.name ∙ ap (λ (c : Cell). c.name) cell_is ∙ name_of_it k less in
        let same : least.0 ≡ can.least.0 + k = cc number in
        let on : can.least.0 + suc k ≡ least.0 + 1 = omega (arith, same) in
        next_least b (done (suc k)) far.sound (next_node w k) (next_node w (suc k)) least went few_kept
        (ap is_some (later k (suc k) (omega arith) more) ∙ (can.alike (suc k) more).held)
        (ap (λ (c : Cell). c.name) cell_next ∙ name_of_it (suc k) more ∙ ap Working on)
        (ap has_few cell_next ∙ few_of_it (suc k) more)

    farther : Far (suc k)
    farther = record {
      merged = (done k, far.merged, record { released = released_to (done k) (next_node w k) (Some (next_node y k)); sound = far.sound; merged = step_merged; plain = plain });
      sound = once_sound (done k) far.sound (next_node w k) (next_node y k) (far.least less) first by_link (done (suc k)) is;
      least = next;
    }

  far : (k : ℕ) → k ≤ count → Far k
  far zero le = record { merged = refl; sound = can.sound; least = λ less. subst (λ n. IsLeastThin a (Some n)) (sym (here w)) can.least }
  far (suc k) le = farther k (omega (arith, le)) (far k (omega (arith, le)))

  all_kinds : done count ≡ given_many a (cell a w).links.parent w y count
  all_kinds = in_kinds a w y count can.different.children (cell a w).links.parent can.different.parents can.different.beside

  pub many_merged : (b : Arena) → b ≡ given_many a (cell a w).links.parent w y count → AreMergedPlain a b count
  many_merged b is = subst (λ x. AreMergedPlain a x count) (all_kinds ∙ sym is) (far count (omega arith)).merged

  pub many_sound : (b : Arena) → b ≡ given_many a (cell a w).links.parent w y count → IsSound b
  many_sound b is = subst IsSound (all_kinds ∙ sym is) (far count (omega arith)).sound
