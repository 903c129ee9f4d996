-- The heir, read off the caches.
use Rattle.std.proofs.Common.{◌≡◌, ◌≤◌, List, [], ◌∷◌, ◌++◌, map, filter, length, true, false, cond, Some, None, is_none, option_map, refl, sym, ap, ◌∙◌, subst, inl, arith, slice_get}
use Rattle.std.proofs.lemmas.Bool.{false≢true}
use Rattle.std.proofs.lemmas.List.{length-map}
use Rattle.vm_ids.specs.declared.node_name.NodeName.TheVariants.{Live, Working}
use Rattle.vm_ids.specs.declared.node_name.NodeName.{NodeName}
use Rattle.vm_ids.specs.declared.numbers.NodeId.{NodeId}
use Rattle.vm_ids.specs.Forest.NameLists.{first}
use Rattle.vm_ids.specs.Forest.Nodes.{node, is_live, most_tree_children}
use Rattle.vm_ids.specs.Forest.Rules.{heir}
use Rattle.local_cache.specs.Arena.{Arena, cell, HasNode}
use Rattle.local_cache.specs.Reading.{name_of, page_of, forest_of, stubs_of}
use Rattle.local_cache.specs.Threads.{head_or}
use Rattle.local_cache.specs.Sound.{IsSound, ◌∈◌}
use Rattle.local_cache.proofs.Forest.Reading.{node-forest_of}

-- a live node has at most one tree child
pub most_one : (x : NodeName) → is_live x ≡ true → most_tree_children x ≡ 1
most_one (Live c p) live = refl
most_one (Working k) live = absurd (false≢true live)

first_name : (a : Arena) (ys : List NodeId) → first (map (name_of a) ys) ≡ option_map (name_of a) (head_or ys None)
first_name a [] = refl
first_name a (y ∷ ys) = refl

none_there : (ts : List NodeId) → None ≡ slice_get ts 0 → ts ≡ []
none_there [] e = refl
none_there (t ∷ ts) e = absurd (cc e)

only_child : (ts : List NodeId) (t : NodeId) → length ts ≤ 1 → Some t ≡ slice_get ts 0 → ts ≡ t ∷ []
only_child [] t few e = absurd (cc e)
only_child (u ∷ []) t few e = let same : t ≡ u = cc e in ap (λ k. k ∷ []) (sym same)
only_child (u ∷ v ∷ ts) t few e = absurd (omega arith)

module _ (a : Arena) (sound : IsSound a) (n : NodeId) (h : HasNode a n) where
  stub_is : first (node (forest_of a) (name_of a n)).stubs ≡ option_map (name_of a) (cell a n).links.first
  stub_is = ap (λ m. first m.stubs) (node-forest_of a sound.kept.named n h) ∙ first_name a (stubs_of a n) ∙ ap (option_map (name_of a)) (sym (sound.kept.threaded n h).first)

  tree_is : (node (forest_of a) (name_of a n)).tree ≡ map (name_of a) (cell a n).tree
  tree_is = ap (λ m. m.tree) (node-forest_of a sound.kept.named n h)

  heir_is : (ts : List NodeName) → (node (forest_of a) (name_of a n)).tree ≡ ts → heir (forest_of a) (name_of a n) ≡ first (filter (λ t. is_none (node (forest_of a) t).own) ts ++ (node (forest_of a) (name_of a n)).stubs)
  unfolding heir
  heir_is ts e = ap (λ xs. first (filter (λ t. is_none (node (forest_of a) t).own) xs ++ (node (forest_of a) (name_of a n)).stubs)) e

  pub heir_stub : None ≡ slice_get (cell a n).tree 0 → heir (forest_of a) (name_of a n) ≡ option_map (name_of a) (cell a n).links.first
  heir_stub none = heir_is [] (tree_is ∙ ap (map (name_of a)) (none_there _ none)) ∙ stub_is

  module _ (live : is_live (name_of a n) ≡ true) (t : NodeId) (there : Some t ≡ slice_get (cell a n).tree 0) where
    few : length (cell a n).tree ≤ 1
    few = let most = sound.linked.few (name_of a n) in omega (arith, ap length tree_is, length-map (cell a n).tree (name_of a), most_one (name_of a n) live)

    ids : (cell a n).tree ≡ t ∷ []
    ids = only_child _ t few there

    pub child_held : HasNode a t
    child_held = sound.kept.children n t h (subst (λ ts. t ∈ ts) (sym ids) (inl refl))

    by_child : heir (forest_of a) (name_of a n) ≡ first (cond (is_none (page_of (cell a t).own)) (name_of a t ∷ []) [] ++ (node (forest_of a) (name_of a n)).stubs)
    by_child = heir_is (name_of a t ∷ []) (tree_is ∙ ap (map (name_of a)) ids)
        ∙ ap (λ m. first (cond (is_none m.own) (name_of a t ∷ []) [] ++ (node (forest_of a) (name_of a n)).stubs)) (node-forest_of a sound.kept.named t child_held)

    pub heir_child : is_none (page_of (cell a t).own) ≡ true → heir (forest_of a) (name_of a n) ≡ Some (name_of a t)
    heir_child e = by_child ∙ ap (λ b. first (cond b (name_of a t ∷ []) [] ++ (node (forest_of a) (name_of a n)).stubs)) e

    pub heir_past : is_none (page_of (cell a t).own) ≡ false → heir (forest_of a) (name_of a n) ≡ option_map (name_of a) (cell a n).links.first
    heir_past e = by_child ∙ ap (λ b. first (cond b (name_of a t ∷ []) [] ++ (node (forest_of a) (name_of a n)).stubs)) e ∙ stub_is
