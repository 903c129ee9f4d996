-- The steps of `link`, on the forest.
use Rattle.std.proofs.Common.{◌≡◌, ◌≢◌, ◌≤◌, ◌+◌, ◌-◌, List, [], ◌∷◌, map, Bool, true, false, cond, Option, Some, None, refl, sym, ap, ◌∙◌, subst, inl, inr, arith}
use Rattle.vm_ids.specs.declared.node_name.NodeName.{NodeName}
use Rattle.vm_ids.specs.declared.node_name.NodeName.TheVariants.{Working}
use Rattle.vm_ids.specs.Forest.Names.{same}
use Rattle.vm_ids.specs.Forest.NameMap.{NameMap, insert, get}
use Rattle.vm_ids.proofs.Forest.NameMap.{get-insert, same_map}
use Rattle.vm_ids.proofs.Forest.NodesAfter.{node-put, node-put_other}
use Rattle.vm_ids.proofs.Forest.LinkingOver.{node-count_working, node-none}
use Rattle.vm_ids.proofs.Forest.Linking.{link-Links}
use Rattle.vm_ids.specs.Forest.Changes as forest
use Rattle.vm_ids.specs.Forest.Rules as rules
use Rattle.vm_ids.specs.Forest.NameLists as names
use Rattle.vm_ids.specs.Forest.Nodes.{Forest, Node, node, IsNode, childless, is_live}
use Rattle.vm_ids.specs.Forest.Shape.{IsLinked}
use Rattle.vm_ids.specs.Forest.Changes.{edit, with_hang, set_tree, count_working}
use Rattle.vm_ids.specs.Forest.Nodes.Hang.{Root, TreeOf}
use Rattle.vm_ids.specs.declared.numbers.NodeId.{NodeId}
use Rattle.local_cache.specs.declared.own_state.OwnState.{OwnState}
use Rattle.local_cache.specs.Arena.{Arena, cell, find, HasNode, hung, with_tree, with_new, with_working}
use Rattle.local_cache.specs.Reading.{name_of, forest_of, hang_by}
use Rattle.local_cache.specs.Sound.{IsSound, IsKept, ◌∈◌}
use Rattle.local_cache.proofs.Changes.SameNodes.{Like, rehung_then, hang_root, forest_of-made}
use Rattle.local_cache.proofs.Forest.Reading.{node-forest_of, IsNode-forest_of, forest_of-IsNode}
use Rattle.local_cache.proofs.NewNode.FreshNode.{sound-fresh, forest-fresh, held_new, held_old, not_w, new_name, old_name, cell-new, cell-old}
use Rattle.local_cache.proofs.Changes.OneNode.{Edited, IsNoStub, tree-edited, hang-edited, no_stub-tree, no_stub-hung, root_no_stub}
use Rattle.history_tree.proofs.Inheriting.{most_one}
use Rattle.history_tree.proofs.OwnPages.{states-link}
use Rattle.history_tree.specs.Hanging.{set_one, set_two, IsGrown}

held : (a b : Arena) → Like a b → (n : NodeId) → HasNode a n → HasNode b n
held a b like n h = like.held n ∙ h

all_one : (a : Arena) (x : NodeId) → HasNode a x → (m : NodeId) → m ∈ (x ∷ []) → HasNode a m
all_one a x hx m (inl e) = subst (HasNode a) (sym e) hx
all_one a x hx m (inr i) = absurd i

all_two : (a : Arena) (x y : NodeId) → HasNode a x → HasNode a y → (m : NodeId) → m ∈ (x ∷ y ∷ []) → HasNode a m
all_two a x y hx hy m (inl e) = subst (HasNode a) (sym e) hx
all_two a x y hx hy m (inr i) = all_one a y hy m i

hang-step : (a : Arena) → IsKept a → (n p : NodeId) → HasNode a n → HasNode a p → IsNoStub a n
    → Edited a (hung a n (Some p)) (edit (forest_of a) (name_of a n) (with_hang (TreeOf (name_of a p))))
hang-step a kept n p hn hp none = hang-edited a kept n hn none (Some p) (λ q e. subst (HasNode a) (cc e) hp)

pub one-step : (a : Arena) → IsKept a → (p x : NodeId) → HasNode a p → HasNode a x → IsNoStub a x
    → Edited a (set_one a p x) (set_tree (forest_of a) (name_of a p) (name_of a x ∷ []))
unfolding set_tree forest.hang_all
one-step a kept p x hp hx none =
    let ts : List NodeId = x ∷ [] in
    let a1 : Arena = with_tree a p ts in
    let s1 = tree-edited a kept p hp ts (all_one a x hx) in
    let s2 = hang-step a1 s1.kept x p (held a a1 s1.rehung.like x hx) (held a a1 s1.rehung.like p hp) (no_stub-tree a p ts x none) in
    record {
      rehung = rehung_then a a1 (hung a1 x (Some p)) s1.rehung s2.rehung;
      kept = s2.kept;
      forest = s2.forest
          ∙ ap (λ k. edit (forest_of a1) k (with_hang (TreeOf (name_of a1 p)))) (s1.rehung.like.name x)
          ∙ ap (λ k. edit (forest_of a1) (name_of a x) (with_hang (TreeOf k))) (s1.rehung.like.name p)
          ∙ ap (λ (f : Forest OwnState). edit f (name_of a x) (with_hang (TreeOf (name_of a p)))) s1.forest;
    }

pub two-step : (a : Arena) → IsKept a → (p x y : NodeId) → HasNode a p → HasNode a x → HasNode a y → IsNoStub a x → IsNoStub a y → y ≢ x
    → Edited a (set_two a p x y) (set_tree (forest_of a) (name_of a p) (name_of a x ∷ name_of a y ∷ []))
unfolding set_tree forest.hang_all
two-step a kept p x y hp hx hy none_x none_y y_x =
    let ts : List NodeId = x ∷ y ∷ [] in
    let a1 : Arena = with_tree a p ts in
    let s1 = tree-edited a kept p hp ts (all_two a x y hx hy) in
    let s2 = hang-step a1 s1.kept y p (held a a1 s1.rehung.like y hy) (held a a1 s1.rehung.like p hp) (no_stub-tree a p ts y none_y) in
    let a2 : Arena = hung a1 y (Some p) in
    let rehung2 = rehung_then a a1 a2 s1.rehung s2.rehung in
    let like2 = rehung2.like in
    let s3 = hang-step a2 s2.kept x p (held a a2 like2 x hx) (held a a2 like2 p hp) (no_stub-hung a1 y (Some p) x (λ e. y_x (sym e)) (no_stub-tree a p ts x none_x)) in
    record {
      rehung = rehung_then a a2 (hung a2 x (Some p)) rehung2 s3.rehung;
      kept = s3.kept;
      forest = s3.forest
          ∙ ap (λ k. edit (forest_of a2) k (with_hang (TreeOf (name_of a2 p)))) (like2.name x)
          ∙ ap (λ k. edit (forest_of a2) (name_of a x) (with_hang (TreeOf k))) (like2.name p)
          ∙ ap (λ (f : Forest OwnState). edit f (name_of a x) (with_hang (TreeOf (name_of a p))))
          (s2.forest
          ∙ ap (λ k. edit (forest_of a1) k (with_hang (TreeOf (name_of a1 p)))) (s1.rehung.like.name y)
          ∙ ap (λ k. edit (forest_of a1) (name_of a y) (with_hang (TreeOf k))) (s1.rehung.like.name p)
          ∙ ap (λ (f : Forest OwnState). edit f (name_of a y) (with_hang (TreeOf (name_of a p)))) s1.forest);
    }

-- The rule

again : {X : Type 0} (m : NameMap X) (w s : NodeName) (b x y : X) → insert (insert (insert m w b) s x) w y ≡ insert (insert m s x) w y
again m w s b x y = same_map _ _ (λ q. get-insert (insert (insert m w b) s x) w y q
    ∙ ap (cond (same q w) (Some y)) (get-insert (insert m w b) s x q ∙ ap (cond (same q s) (Some x)) (get-insert m w b q))
    ∙ by_test (same q w) (same q s) (get m q)
    ∙ sym (get-insert (insert m s x) w y q ∙ ap (cond (same q w) (Some y)) (get-insert m s x q)))
  where
    by_test : (t u : Bool) (o : Option _) → cond t (Some y) (cond u (Some x) (cond t (Some b) o)) ≡ cond t (Some y) (cond u (Some x) o)
    by_test true u o = refl
    by_test false u o = refl

between : {P : Type 0} (f : Forest P) (w s : NodeName) → (IsNode f w → ⊥) → s ≢ w → set_tree (forest.put (count_working f) w (childless None Root)) s (w ∷ []) ≡ count_working (set_tree f s (w ∷ []))
unfolding set_tree forest.hang_all forest.put
between {P} f w s not s_w =
    let f1 : Forest P = forest.put (count_working f) w (childless None Root) in
    let bare : Node P = childless None Root in
    let at_s : node f1 s ≡ node f s = node-put_other (count_working f) w s bare s_w ∙ node-count_working f s in
    let x1 : Node P = forest.with_tree (w ∷ []) (node f1 s) in
    let x2 : Node P = forest.with_tree (w ∷ []) (node f s) in
    let w_s : w ≢ s = λ e. s_w (sym e) in
    let at_w : node (forest.put f1 s x1) w ≡ node (forest.put f s x2) w =
    node-put_other f1 s w x1 w_s ∙ node-put (count_working f) w bare ∙ sym (node-none f w not) ∙ sym (node-put_other f s w x2 w_s) in
    let y : Node P → Node P = with_hang (TreeOf s) in
    let e1 : ◌≡◌ {A = NameMap (Node P)} (insert (insert (insert f.nodes w bare) s x1) w (y (node (forest.put f1 s x1) w))) (insert (insert f.nodes s x2) w (y (node (forest.put f s x2) w))) =
    again f.nodes w s bare x1 (y (node (forest.put f1 s x1) w))
    ∙ ap (λ n. insert (insert f.nodes s (forest.with_tree (w ∷ []) n)) w (y (node (forest.put f1 s x1) w))) at_s
    ∙ ap (λ n. insert (insert f.nodes s x2) w (y n)) at_w in
    λ i. record { nodes = e1 i; made = f.made + 1; copies = f.copies }

after_count : {P : Type 0} (g : Forest P) (w h d : NodeName) → set_tree (count_working g) w (h ∷ d ∷ []) ≡ count_working (set_tree g w (h ∷ d ∷ []))
unfolding set_tree forest.hang_all forest.put node
after_count g w h d = refl

link_none : {P : Type 0} (f : Forest P) (d s : NodeName) → (node f s).tree ≡ [] → rules.link f d s ≡ set_tree f s (d ∷ [])
unfolding rules.link
link_none f d s e = ap (λ ts. elim ts [
  | [] ↦ set_tree f s (d ∷ [])
  | h ∷ _ ↦ let w = Working (f.made + 1) in count_working (set_tree (set_tree f s (w ∷ [])) w (h ∷ d ∷ []))
]) e

link_some : {P : Type 0} (f : Forest P) (d s h : NodeName) (rest : List NodeName) → (node f s).tree ≡ h ∷ rest → rules.link f d s ≡ (let w = Working (f.made + 1) in count_working (set_tree (set_tree f s (w ∷ [])) w (h ∷ d ∷ [])))
unfolding rules.link
link_some f d s h rest e = ap (λ ts. elim ts [
  | [] ↦ set_tree f s (d ∷ [])
  | h ∷ _ ↦ let w = Working (f.made + 1) in count_working (set_tree (set_tree f s (w ∷ [])) w (h ∷ d ∷ []))
]) e

pub record CanLink (a : Arena) (d s : NodeId) : Type 0 where
  pub sound : IsSound a
  pub held_d : HasNode a d
  pub held_s : HasNode a s
  pub bare : node (forest_of a) (name_of a d) ≡ childless None Root
  pub live : is_live (name_of a s) ≡ true
  pub apart : d ≢ s

not_counted : (a : Arena) → IsSound a → IsNode (forest_of a) (Working (a.made + 1)) → ⊥
not_counted a sound is = let f = forest_of-IsNode a (Working (a.made + 1)) is in (let low = sound.kept.named.counted f.0 (a.made + 1) f.1 f.2 in omega arith)

bare_parent : (a : Arena) → IsSound a → (d : NodeId) → HasNode a d → node (forest_of a) (name_of a d) ≡ childless None Root → (cell a d).links.parent ≡ None
bare_parent a sound d hd bare = hang_root a (cell a d).links.parent (cell a d).links.by_stub (ap (λ n. n.hang) (sym (node-forest_of a sound.kept.named d hd) ∙ bare))

rule-linked : (a : Arena) (d s : NodeId) → CanLink a d s → IsLinked (rules.link (forest_of a) (name_of a d) (name_of a s))
rule-linked a d s can =
    let sound = can.sound in
    (link-Links (forest_of a) sound.linked (name_of a d) (name_of a s) can.bare (IsNode-forest_of a sound.kept.named d can.held_d)
    (λ e. can.apart (sound.kept.named.apart d s can.held_d can.held_s e)) (IsNode-forest_of a sound.kept.named s can.held_s)
    (subst (λ k. IsNode (forest_of a) (Working (k + 1)) → ⊥) (sym (forest_of-made a)) (not_counted a sound))
    (most_one (name_of a s) can.live)).shape

pub record Linked (a b : Arena) (d s : NodeId) : Type 0 where
  pub forest : forest_of b ≡ rules.link (forest_of a) (name_of a d) (name_of a s)
  pub sound : IsSound b
  pub grown : IsGrown a b

counters-fresh : (a : Arena) (w : NodeId) → ((with_working a w).made ≡ a.made + 1) × ((with_working a w).copies ≡ a.copies)
unfolding with_new
counters-fresh a w = (refl, refl)

room-fresh : (a : Arena) (w : NodeId) → (with_working a w).room ≡ record a.room { nodes = a.room.nodes - 1 }
unfolding with_new
room-fresh a w = refl

tables-fresh : (a : Arena) (w : NodeId) → (with_working a w).caches ≡ a.caches
unfolding with_new
tables-fresh a w = refl

pub links-first : (a : Arena) (d s : NodeId) → CanLink a d s → (cell a s).tree ≡ [] → Linked a (set_one a s d) d s
links-first a d s can none =
    let sound = can.sound in
    let step = one-step a sound.kept s d can.held_s can.held_d (root_no_stub a d (bare_parent a sound d can.held_d can.bare)) in
    let tree_is : (node (forest_of a) (name_of a s)).tree ≡ [] = ap (λ n. n.tree) (node-forest_of a sound.kept.named s can.held_s) ∙ ap (map (name_of a)) none in
    let is : forest_of (set_one a s d) ≡ rules.link (forest_of a) (name_of a d) (name_of a s) = step.forest ∙ sym (link_none (forest_of a) (name_of a d) (name_of a s) tree_is) in
    record {
      forest = is;
      sound = record { kept = step.kept; linked = subst IsLinked (sym is) (rule-linked a d s can) };
      grown = (let room = step.rehung.room in let nodes : (set_one a s d).room.nodes ≡ a.room.nodes = ap (λ r. r.nodes) room in record {
        held = λ n h. step.rehung.like.held n ∙ h;
        names = λ n h. step.rehung.like.name n;
        own = λ n h. states-link a (set_one a s d) sound.kept.named step.kept.named (name_of a d) (name_of a s) is n h (step.rehung.like.held n ∙ h) (step.rehung.like.name n);
        tables = step.rehung.like.caches;
        made = (let same = step.rehung.made in omega arith, let same = step.rehung.made in omega arith);
        copies = step.rehung.copies;
        nodes = omega arith;
        caches = ap (λ r. r.caches) room;
        entries = ap (λ r. r.entries) room;
      });
    }

pub links-more : (a : Arena) (d s w h : NodeId) (rest : List NodeId) → CanLink a d s → (cell a s).tree ≡ h ∷ rest → find a w ≡ None → 1 ≤ a.room.nodes → Linked a (set_two (set_one (with_working a w) s w) w h d) d s
links-more a d s w h rest can tree free roomy =
    let sound = can.sound in
    let f : Forest OwnState = forest_of a in
    let hh : HasNode a h = sound.kept.children s h can.held_s (subst (λ ts. h ∈ ts) (sym tree) (inl refl)) in
    let a1 : Arena = with_working a w in
    let sound1 = sound-fresh a sound w free in
    let w1 = held_new a sound w free in
    let s1 = held_old a sound w free s can.held_s in
    let no_w : IsNoStub a1 w = root_no_stub a1 w (ap (λ c. c.links.parent) (cell-new a w free)) in
    let step1 = one-step a1 sound1.kept s w s1 w1 no_w in
    let a2 : Arena = set_one a1 s w in
    let h_w : h ≢ w = not_w a sound w free h hh in
    let d_w : d ≢ w = not_w a sound w free d can.held_d in
    let tree_is : (node f (name_of a s)).tree ≡ name_of a h ∷ map (name_of a) rest = ap (λ n. n.tree) (node-forest_of a sound.kept.named s can.held_s) ∙ ap (map (name_of a)) tree in
    let h_hangs : (node f (name_of a h)).hang ≡ TreeOf (name_of a s) = (sound.linked.tree_links (name_of a h) (name_of a s)).0 (subst (λ xs. names.◌∈◌ (name_of a h) xs) (sym tree_is) (inl refl)) in
    let h_tree : IsNoStub a h = tree_no_stub a h (name_of a s) (sym (ap (λ n. n.hang) (node-forest_of a sound.kept.named h hh)) ∙ h_hangs) in
    let d_root : IsNoStub a d = root_no_stub a d (bare_parent a sound d can.held_d can.bare) in
    let later : (n : NodeId) → n ≢ w → HasNode a n → IsNoStub a n → IsNoStub a2 n = λ n ne hn none. no_stub-hung (with_tree a1 s (w ∷ [])) w (Some s) n ne (no_stub-tree a1 s (w ∷ []) n (no_stub-old a w free n ne none)) in
    let d_h : d ≢ h = λ e. (let up : (node f (name_of a d)).hang ≡ TreeOf (name_of a s) = ap (λ n. (node f (name_of a n)).hang) e ∙ h_hangs in let root = ap (λ n. n.hang) can.bare in cc (up, root)) in
    let step2 = two-step a2 step1.kept w h d (held a1 a2 step1.rehung.like w w1) (held a1 a2 step1.rehung.like h (held_old a sound w free h hh)) (held a1 a2 step1.rehung.like d (held_old a sound w free d can.held_d)) (later h h_w hh h_tree) (later d d_w can.held_d d_root) d_h in
    let wn : NodeName = Working (a.made + 1) in
    let name_w : name_of a1 w ≡ wn = new_name a sound w free in
    let name2 : (n : NodeId) → HasNode a n → name_of a2 n ≡ name_of a n = λ n hn. step1.rehung.like.name n ∙ old_name a sound w free n hn in
    let first : forest_of a2 ≡ count_working (set_tree f (name_of a s) (wn ∷ [])) =
    step1.forest
    ∙ ap (λ k. set_tree (forest_of a1) k (name_of a1 w ∷ [])) (old_name a sound w free s can.held_s)
    ∙ ap (λ k. set_tree (forest_of a1) (name_of a s) (k ∷ [])) name_w
    ∙ ap (λ (g : Forest OwnState). set_tree g (name_of a s) (wn ∷ [])) (forest-fresh a sound w free)
    ∙ between f wn (name_of a s) (not_counted a sound) (λ e. not_counted a sound (subst (IsNode f) e (IsNode-forest_of a sound.kept.named s can.held_s))) in
    let all : forest_of (set_two a2 w h d) ≡ count_working (set_tree (set_tree f (name_of a s) (wn ∷ [])) wn (name_of a h ∷ name_of a d ∷ [])) =
    step2.forest
    ∙ ap (λ k. set_tree (forest_of a2) k (name_of a2 h ∷ name_of a2 d ∷ [])) (step1.rehung.like.name w ∙ name_w)
    ∙ ap (λ k. set_tree (forest_of a2) wn (k ∷ name_of a2 d ∷ [])) (name2 h hh)
    ∙ ap (λ k. set_tree (forest_of a2) wn (name_of a h ∷ k ∷ [])) (name2 d can.held_d)
    ∙ ap (λ (g : Forest OwnState). set_tree g wn (name_of a h ∷ name_of a d ∷ [])) first
    ∙ after_count (set_tree f (name_of a s) (wn ∷ [])) wn (name_of a h) (name_of a d) in
    let rule : rules.link f (name_of a d) (name_of a s) ≡ count_working (set_tree (set_tree f (name_of a s) (wn ∷ [])) wn (name_of a h ∷ name_of a d ∷ [])) =
    link_some f (name_of a d) (name_of a s) (name_of a h) (map (name_of a) rest) tree_is
    ∙ ap (λ k. count_working (set_tree (set_tree f (name_of a s) (Working (k + 1) ∷ [])) (Working (k + 1)) (name_of a h ∷ name_of a d ∷ []))) (forest_of-made a) in
    let is : forest_of (set_two a2 w h d) ≡ rules.link f (name_of a d) (name_of a s) = all ∙ sym rule in
    record {
      forest = is;
      sound = record { kept = step2.kept; linked = subst IsLinked (sym is) (rule-linked a d s can) };
      grown = (let room = step2.rehung.room ∙ step1.rehung.room ∙ room-fresh a w in let nodes : (set_two a2 w h d).room.nodes ≡ a.room.nodes - 1 = ap (λ r. r.nodes) room in
          let made : (set_two a2 w h d).made ≡ a.made + 1 = step2.rehung.made ∙ step1.rehung.made ∙ (counters-fresh a w).0 in
          let there : (n : NodeId) → HasNode a n → HasNode (set_two a2 w h d) n = λ n hn. step2.rehung.like.held n ∙ step1.rehung.like.held n ∙ held_old a sound w free n hn in
          let called : (n : NodeId) → HasNode a n → name_of (set_two a2 w h d) n ≡ name_of a n = λ n hn. step2.rehung.like.name n ∙ name2 n hn in record {
            held = there;
            names = called;
            own = λ n hn. states-link a (set_two a2 w h d) sound.kept.named step2.kept.named (name_of a d) (name_of a s) is n hn (there n hn) (called n hn);
            made = (omega arith, omega arith);
            copies = step2.rehung.copies ∙ step1.rehung.copies ∙ (counters-fresh a w).1;
            tables = step2.rehung.like.caches ∙ step1.rehung.like.caches ∙ tables-fresh a w;
            nodes = omega arith;
            caches = ap (λ r. r.caches) room;
            entries = ap (λ r. r.entries) room;
          });
    }
  where
    tree_no_stub : (a : Arena) (n : NodeId) (x : NodeName) → hang_by a (cell a n).links.parent (cell a n).links.by_stub ≡ TreeOf x → IsNoStub a n
    tree_no_stub a n x e p up = go (cell a n).links.by_stub (sym (ap (λ o. hang_by a o (cell a n).links.by_stub) up) ∙ e)
      where
        go : (t : Bool) → hang_by a (Some p) t ≡ TreeOf x → t ≡ false
        go true e = absurd (cc e)
        go false e = refl

    no_stub-old : (a : Arena) (w : NodeId) → find a w ≡ None → (n : NodeId) → n ≢ w → IsNoStub a n → IsNoStub (with_working a w) n
    no_stub-old a w free n ne none q e = let c = cell-old a w free n ne in ap (λ d. d.links.by_stub) c ∙ none q (sym (ap (λ d. d.links.parent) c) ∙ e)
