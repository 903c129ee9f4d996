-- The rules go with a change of pages: a rule of the forest with other pages is the rule, with
-- other pages then.
use Rattle.std.proofs.Common.{◌≡◌, ℕ, suc, zero, ◌+◌, List, [], ◌∷◌, ◌++◌, length, map, Bool, true, false, cond, ◌&&◌, Option, Some, None, is_none, is_some, option_map, unwrap_or, refl, sym, ap, ◌∙◌, filter, ltb}
use Rattle.std.specs.Option.{option_or}
use Rattle.std.specs.Ordering.{eq_by_cmp}
use Rattle.std.specs.FinMap.Entries.{find}
use Rattle.std.proofs.lemmas.List.{length-map}
use Rattle.vm_ids.specs.declared.node_name.NodeName.{NodeName}
use Rattle.vm_ids.specs.Forest.Names.{Working, name_cmp, same}
use Rattle.vm_ids.specs.Forest.NameLists.{first, last_or, without, swapped, renamed}
use Rattle.vm_ids.specs.Forest.NameMap.{get, keys, len}
use Rattle.vm_ids.specs.Forest.Nodes.{Hang, Node, Forest, childless, child_count, is_live, is_stub, node, parent, parent_of}
use Rattle.vm_ids.specs.Forest.Nodes.Hang.{Root, TreeOf, StubOf}
use Rattle.vm_ids.specs.Forest.PageMap.{map_entries, map_node, map_pages, map_values, bare, no_page}
use Rattle.vm_ids.specs.Forest.Reading.{page_or, value_within, value_of, names_above, path_within, path_of, owner_of}
use Rattle.vm_ids.specs.Forest.Changes.{put, free, edit, with_own, with_hang, with_tree, with_stubs, swapped_node, count_copy, count_working, relist, cut, cut_stub, hang_all, set_tree, rename}
use Rattle.vm_ids.specs.Forest.Rules.{gets, own, heir, hand_stubs, heir_gets, retire, detach, link, stub}
use Rattle.vm_ids.specs.Forest.Forgetting.{forget, forgotten}
use Rattle.vm_ids.specs.Forest.Settling.{is_thin, take_place, pass_page, give_way, settle_step, thin}
use Rattle.vm_ids.proofs.Forest.NameMap.{get-insert, get-remove, get-from_entries, same_map}
use Rattle.vm_ids.proofs.Forest.Renaming.{find_across}
use Rattle.vm_ids.proofs.Forest.Counters.{SameCounters, put-counters, free-counters, rename-counters}

-- forests that have the same nodes and counters are equal
pub same_forest : {P : Type 0} (f g : Forest P) → ((x : NodeName) → get f.nodes x ≡ get g.nodes x) → f.made ≡ g.made → f.copies ≡ g.copies → f ≡ g
same_forest f g alike made copies = let nodes : f.nodes ≡ g.nodes = same_map f.nodes g.nodes alike in λ i. record { nodes = nodes i; made = made i; copies = copies i }

option_map-cond : {A B : Type 0} (h : A → B) (b : Bool) (o p : Option A) → option_map h (cond b o p) ≡ cond b (option_map h o) (option_map h p)
option_map-cond h true o p = refl
option_map-cond h false o p = refl

module _ {P : Type 0} where
  pub get-put : (f : Forest P) (x : NodeName) (n : Node P) (y : NodeName) → get (put f x n).nodes y ≡ cond (same y x) (Some n) (get f.nodes y)
  unfolding put
  get-put f x n y = get-insert f.nodes x n y

  pub get-free : (f : Forest P) (x y : NodeName) → get (free f x).nodes y ≡ cond (same y x) None (get f.nodes y)
  unfolding free
  get-free f x y = get-remove f.nodes x y

  pub get-rename : (f : Forest P) (a b y : NodeName) → get (rename f a b).nodes y ≡ option_map (swapped_node a b) (get f.nodes (swapped a b y))
  unfolding rename get
  get-rename f a b y = get-from_entries _ y ∙ find_across a b y f.nodes.list

  -- what link does where y is the tree child of s
  abbrev between : Forest P → NodeName → NodeName → NodeName → NodeName → Forest P
  between f d s w y = count_working (set_tree (set_tree f s (w ∷ [])) w (y ∷ d ∷ []))

module _ {X Y : Type 0} (h : X → Y) where
  find-mapped : (x : NodeName) (es : List (NodeName × X)) → find name_cmp x (map_entries h es) ≡ option_map h (find name_cmp x es)
  find-mapped x [] = refl
  find-mapped x (e ∷ es) = go (eq_by_cmp name_cmp x e.0) (find-mapped x es)
    where
      go : (b : Bool) → find name_cmp x (map_entries h es) ≡ option_map h (find name_cmp x es) → cond b (Some (h e.1)) (find name_cmp x (map_entries h es)) ≡ option_map h (cond b (Some e.1) (find name_cmp x es))
      go true k = refl
      go false k = k

module _ {P Q : Type 0} (h : P → Q) where
  pub get-map : (f : Forest P) (x : NodeName) → get (map_pages h f).nodes x ≡ option_map (map_node h) (get f.nodes x)
  unfolding map_pages map_values get
  get-map f x = find-mapped (map_node h) x f.nodes.list

  pub len-map : (f : Forest P) → len (map_pages h f).nodes ≡ len f.nodes
  unfolding map_pages map_values
  len-map f = length-map f.nodes.list (λ e. (e.0, map_node h e.1))

  pub made-map : (f : Forest P) → (map_pages h f).made ≡ f.made
  unfolding map_pages
  made-map f = refl

  pub copies-map : (f : Forest P) → (map_pages h f).copies ≡ f.copies
  unfolding map_pages
  copies-map f = refl

  pub node-map : (f : Forest P) (x : NodeName) → node (map_pages h f) x ≡ map_node h (node f x)
  unfolding node
  node-map f x = ap (λ o. unwrap_or o (childless None Root)) (get-map f x) ∙ out (get f.nodes x)
    where
      out : (o : Option (Node P)) → unwrap_or (option_map (map_node h) o) (childless None Root) ≡ map_node h (unwrap_or o (childless None Root))
      out None = refl
      out (Some n) = refl

  -- what was changed has the counters that it had
  alike : {f g : Forest P} {k l : Forest Q} → SameCounters g f → SameCounters l k → SameCounters k (map_pages h f) → SameCounters (map_pages h g) l
  alike {f} {g} c d e = record { made = made-map g ∙ c.made ∙ sym (made-map f) ∙ sym e.made ∙ sym d.made; copies = copies-map g ∙ c.copies ∙ sym (copies-map f) ∙ sym e.copies ∙ sym d.copies }

  pub put-map : (f : Forest P) (x : NodeName) (n : Node P) → map_pages h (put f x n) ≡ put (map_pages h f) x (map_node h n)
  put-map f x n =
      let c = alike {f = f} {g = put f x n} (put-counters f x n) (put-counters (map_pages h f) x (map_node h n)) (record { made = refl; copies = refl }) in
      same_forest _ _ (λ y. get-map (put f x n) y ∙ ap (option_map (map_node h)) (get-put f x n y) ∙ option_map-cond (map_node h) (same y x) (Some n) (get f.nodes y)
      ∙ ap (cond (same y x) (Some (map_node h n))) (sym (get-map f y)) ∙ sym (get-put (map_pages h f) x (map_node h n) y)) c.made c.copies

  pub free-map : (f : Forest P) (x : NodeName) → map_pages h (free f x) ≡ free (map_pages h f) x
  free-map f x =
      let c = alike {f = f} {g = free f x} (free-counters f x) (free-counters (map_pages h f) x) (record { made = refl; copies = refl }) in
      same_forest _ _ (λ y. get-map (free f x) y ∙ ap (option_map (map_node h)) (get-free f x y) ∙ option_map-cond (map_node h) (same y x) None (get f.nodes y)
      ∙ ap (cond (same y x) None) (sym (get-map f y)) ∙ sym (get-free (map_pages h f) x y)) c.made c.copies

  pub rename-map : (f : Forest P) (a b : NodeName) → map_pages h (rename f a b) ≡ rename (map_pages h f) a b
  rename-map f a b =
      let c = alike {f = f} {g = rename f a b} (rename-counters f a b) (rename-counters (map_pages h f) a b) (record { made = refl; copies = refl }) in
      same_forest _ _ (λ y. get-map (rename f a b) y ∙ ap (option_map (map_node h)) (get-rename f a b y) ∙ out (get f.nodes (swapped a b y))
      ∙ ap (option_map (swapped_node a b)) (sym (get-map f (swapped a b y))) ∙ sym (get-rename (map_pages h f) a b y)) c.made c.copies
    where
      out : (o : Option (Node P)) → option_map (map_node h) (option_map (swapped_node a b) o) ≡ option_map (swapped_node a b) (option_map (map_node h) o)
      out None = refl
      out (Some n) = refl

  pub count_copy-map : (f : Forest P) → map_pages h (count_copy f) ≡ count_copy (map_pages h f)
  unfolding map_pages
  count_copy-map f = refl

  pub count_working-map : (f : Forest P) → map_pages h (count_working f) ≡ count_working (map_pages h f)
  unfolding map_pages
  count_working-map f = refl

  pub edit-map : (f : Forest P) (x : NodeName) (c : Node P → Node P) (d : Node Q → Node Q) → ((n : Node P) → map_node h (c n) ≡ d (map_node h n)) → map_pages h (edit f x c) ≡ edit (map_pages h f) x d
  edit-map f x c d same = put-map f x _ ∙ ap (put (map_pages h f) x) (same (node f x)) ∙ ap (λ n. put (map_pages h f) x (d n)) (sym (node-map f x))

  pub hang-map : (f : Forest P) (x : NodeName) → (node (map_pages h f) x).hang ≡ (node f x).hang
  hang-map f x = ap (λ n. n.hang) (node-map f x)

  pub tree-map : (f : Forest P) (x : NodeName) → (node (map_pages h f) x).tree ≡ (node f x).tree
  tree-map f x = ap (λ n. n.tree) (node-map f x)

  pub stubs-map : (f : Forest P) (x : NodeName) → (node (map_pages h f) x).stubs ≡ (node f x).stubs
  stubs-map f x = ap (λ n. n.stubs) (node-map f x)

  pub own-map : (f : Forest P) (x : NodeName) → (node (map_pages h f) x).own ≡ option_map h (node f x).own
  own-map f x = ap (λ n. n.own) (node-map f x)

  pub is_none-map : (o : Option P) → is_none (option_map h o) ≡ is_none o
  is_none-map None = refl
  is_none-map (Some v) = refl

  pub is_some-map : (o : Option P) → is_some (option_map h o) ≡ is_some o
  is_some-map None = refl
  is_some-map (Some v) = refl

  pub relist-map : (f : Forest P) (k : Hang) (change : List NodeName → List NodeName) → map_pages h (relist f k change) ≡ relist (map_pages h f) k change
  unfolding relist
  relist-map f Root change = refl
  relist-map f (TreeOf p) change = edit-map f p _ (λ n. with_tree (change n.tree) n) (λ n. refl)
  relist-map f (StubOf p) change = edit-map f p _ (λ n. with_stubs (change n.stubs) n) (λ n. refl)

  pub cut-map : (f : Forest P) (x : NodeName) → map_pages h (cut f x) ≡ cut (map_pages h f) x
  unfolding cut
  cut-map f x = edit-map _ x _ (with_hang Root) (λ n. refl)
      ∙ ap (λ g. edit g x (with_hang Root)) (relist-map f _ (without x) ∙ ap (λ k. relist (map_pages h f) k (without x)) (sym (hang-map f x)))

  pub cond-map : (b : Bool) (f g : Forest P) → map_pages h (cond b f g) ≡ cond b (map_pages h f) (map_pages h g)
  cond-map true f g = refl
  cond-map false f g = refl

  pub cut_stub-map : (f : Forest P) (x : NodeName) → map_pages h (cut_stub f x) ≡ cut_stub (map_pages h f) x
  unfolding cut_stub
  cut_stub-map f x = cond-map (is_stub (node f x).hang) (cut f x) f ∙ ap (λ g. cond (is_stub (node f x).hang) g (map_pages h f)) (cut-map f x)
      ∙ ap (λ k. cond (is_stub k) (cut (map_pages h f) x) (map_pages h f)) (sym (hang-map f x))

  pub hang_all-map : (f : Forest P) (xs : List NodeName) (k : Hang) → map_pages h (hang_all f xs k) ≡ hang_all (map_pages h f) xs k
  unfolding hang_all
  hang_all-map f [] k = refl
  hang_all-map f (x ∷ xs) k = edit-map _ x _ (with_hang k) (λ n. refl) ∙ ap (λ g. edit g x (with_hang k)) (hang_all-map f xs k)

  pub set_tree-map : (f : Forest P) (p : NodeName) (xs : List NodeName) → map_pages h (set_tree f p xs) ≡ set_tree (map_pages h f) p xs
  unfolding set_tree
  set_tree-map f p xs = hang_all-map _ xs (TreeOf p) ∙ ap (λ g. hang_all g xs (TreeOf p)) (edit-map f p _ (with_tree xs) (λ n. refl))

  -- What is read of a forest

  pub value_within-map : (n : ℕ) (f : Forest P) (x : NodeName) → value_within n (map_pages h f) x ≡ option_map h (value_within n f x)
  unfolding value_within
  value_within-map zero f x = refl
  value_within-map (suc n) f x = ap (λ k. page_or k.own (parent_of k.hang) (value_within n (map_pages h f))) (node-map f x) ∙ go (node f x).own (parent f x) (value_within-map n f)
    where
      go : (o : Option P) (u : Option NodeName) → ((p : NodeName) → value_within n (map_pages h f) p ≡ option_map h (value_within n f p)) → page_or (option_map h o) u (value_within n (map_pages h f)) ≡ option_map h (page_or o u (value_within n f))
      go (Some v) u more = refl
      go None (Some p) more = more p
      go None None more = refl

  pub value_of-map : (f : Forest P) (x : NodeName) → value_of (map_pages h f) x ≡ option_map h (value_of f x)
  unfolding value_of
  value_of-map f x = ap (λ n. value_within n (map_pages h f) x) (len-map f) ∙ value_within-map (len f.nodes) f x

  path_within-map : (n : ℕ) (f : Forest P) (x : NodeName) → path_within n (map_pages h f) x ≡ path_within n f x
  unfolding path_within
  path_within-map zero f x = refl
  path_within-map (suc n) f x = ap (λ xs. x ∷ xs) (ap (λ k. names_above k.own (parent_of k.hang) (path_within n (map_pages h f))) (node-map f x) ∙ go (node f x).own (parent f x) (path_within-map n f))
    where
      go : (o : Option P) (u : Option NodeName) → ((p : NodeName) → path_within n (map_pages h f) p ≡ path_within n f p) → names_above (option_map h o) u (path_within n (map_pages h f)) ≡ names_above o u (path_within n f)
      go (Some v) u more = refl
      go None (Some p) more = more p
      go None None more = refl

  pub path_of-map : (f : Forest P) (x : NodeName) → path_of (map_pages h f) x ≡ path_of f x
  unfolding path_of
  path_of-map f x = ap (λ n. path_within n (map_pages h f) x) (len-map f) ∙ path_within-map (len f.nodes) f x

  pub owner_of-map : (f : Forest P) (x : NodeName) → owner_of (map_pages h f) x ≡ owner_of f x
  unfolding owner_of
  owner_of-map f x = ap (last_or x) (path_of-map f x)

  filter-none : (f : Forest P) (xs : List NodeName) → filter (λ t. is_none (node (map_pages h f) t).own) xs ≡ filter (λ t. is_none (node f t).own) xs
  filter-none f [] = refl
  filter-none f (t ∷ ts) = ap (λ o. cond (is_none o) (t ∷ filter (λ t. is_none (node (map_pages h f) t).own) ts) (filter (λ t. is_none (node (map_pages h f) t).own) ts)) (own-map f t)
      ∙ ap (λ b. cond b (t ∷ filter (λ t. is_none (node (map_pages h f) t).own) ts) (filter (λ t. is_none (node (map_pages h f) t).own) ts)) (is_none-map (node f t).own)
      ∙ ap (λ xs. cond (is_none (node f t).own) (t ∷ xs) xs) (filter-none f ts)

  pub heir-map : (f : Forest P) (x : NodeName) → heir (map_pages h f) x ≡ heir f x
  unfolding heir
  heir-map f x = ap (λ k. first (filter (λ t. is_none (node (map_pages h f) t).own) k.tree ++ k.stubs)) (node-map f x) ∙ ap (λ ts. first (ts ++ (node f x).stubs)) (filter-none f (node f x).tree)

  -- The rules

  pub gets-map : (f : Forest P) (x : NodeName) (v : Option P) → map_pages h (gets f x v) ≡ gets (map_pages h f) x (option_map h v)
  unfolding gets
  gets-map f x v = cut_stub-map _ x ∙ ap (λ g. cut_stub g x) (edit-map f x _ (with_own (option_map h v)) (λ n. refl))

  pub own-rule-map : (f : Forest P) (x : NodeName) → map_pages h (own f x) ≡ own (map_pages h f) x
  unfolding own
  own-rule-map f x = count_copy-map _ ∙ ap count_copy (gets-map f x _ ∙ ap (gets (map_pages h f) x) (sym (value_of-map f x)))

  pub hand_stubs-map : (f : Forest P) (x y : NodeName) → map_pages h (hand_stubs f x y) ≡ hand_stubs (map_pages h f) x y
  unfolding hand_stubs
  hand_stubs-map f x y = given (node f x).stubs ∙ ap (λ left. edit (edit (hang_all (map_pages h f) left (StubOf y)) y (λ n. with_stubs (n.stubs ++ left) n)) x (with_stubs [])) (sym (stubs-map f x))
    where
      given : (left : List NodeName) → map_pages h (edit (edit (hang_all f left (StubOf y)) y (λ n. with_stubs (n.stubs ++ left) n)) x (with_stubs [])) ≡ edit (edit (hang_all (map_pages h f) left (StubOf y)) y (λ n. with_stubs (n.stubs ++ left) n)) x (with_stubs [])
      given left = edit-map _ x _ (with_stubs []) (λ n. refl) ∙ ap (λ g. edit g x (with_stubs []))
          (edit-map _ y _ (λ n. with_stubs (n.stubs ++ left) n) (λ n. refl) ∙ ap (λ g. edit g y (λ n. with_stubs (n.stubs ++ left) n)) (hang_all-map f left (StubOf y)))

  pub heir_gets-map : (f : Forest P) (x : NodeName) → map_pages h (heir_gets f x) ≡ heir_gets (map_pages h f) x
  unfolding heir_gets
  heir_gets-map f x = go (heir f x) ∙ ap (λ o. elim o [ None ↦ map_pages h f | Some y ↦ count_copy (hand_stubs (gets (map_pages h f) y (value_of (map_pages h f) x)) x y) ]) (sym (heir-map f x))
    where
      go : (o : Option NodeName) → map_pages h (elim o [ None ↦ f | Some y ↦ count_copy (hand_stubs (gets f y (value_of f x)) x y) ])
          ≡ elim o [ None ↦ map_pages h f | Some y ↦ count_copy (hand_stubs (gets (map_pages h f) y (value_of (map_pages h f) x)) x y) ]
      go None = refl
      go (Some y) = count_copy-map _ ∙ ap count_copy (hand_stubs-map _ x y ∙ ap (λ g. hand_stubs g x y) (gets-map f y _ ∙ ap (gets (map_pages h f) y) (sym (value_of-map f x))))

  pub retire-map : (f : Forest P) (x : NodeName) → map_pages h (retire f x) ≡ retire (map_pages h f) x
  unfolding retire
  retire-map f x = go (child_count f x) ∙ ap (λ (k : Node Q). elim (length k.tree + length k.stubs) [ zero ↦ free (cut (map_pages h f) x) x | suc n ↦ count_working (rename (map_pages h f) x (Working ((map_pages h f).made + 1))) ]) (sym (node-map f x))
    where
      go : (n : ℕ) → map_pages h (elim n [ zero ↦ free (cut f x) x | suc n ↦ count_working (rename f x (Working (f.made + 1))) ])
          ≡ elim n [ zero ↦ free (cut (map_pages h f) x) x | suc n ↦ count_working (rename (map_pages h f) x (Working ((map_pages h f).made + 1))) ]
      go zero = free-map _ x ∙ ap (λ g. free g x) (cut-map f x)
      go (suc n) = count_working-map _ ∙ ap count_working (rename-map f x _ ∙ ap (λ k. rename (map_pages h f) x (Working (k + 1))) (sym (made-map f)))

  pub detach-map : (f : Forest P) (x : NodeName) (v : Option P) → map_pages h (detach f x v) ≡ detach (map_pages h f) x (option_map h v)
  unfolding detach
  detach-map f x v = put-map _ x _ ∙ ap (λ g. put g x (childless (option_map h v) Root)) (retire-map f x)

  pub link-map : (f : Forest P) (d s : NodeName) → map_pages h (link f d s) ≡ link (map_pages h f) d s
  unfolding link
  link-map f d s = go (node f s).tree ∙ ap (λ ts. elim ts [ [] ↦ set_tree (map_pages h f) s (d ∷ []) | y ∷ _ ↦ between (map_pages h f) d s (Working ((map_pages h f).made + 1)) y ]) (sym (tree-map f s))
    where
      go : (ts : List NodeName) → map_pages h (elim ts [ [] ↦ set_tree f s (d ∷ []) | y ∷ _ ↦ between f d s (Working (f.made + 1)) y ])
          ≡ elim ts [ [] ↦ set_tree (map_pages h f) s (d ∷ []) | y ∷ _ ↦ between (map_pages h f) d s (Working ((map_pages h f).made + 1)) y ]
      go [] = set_tree-map f s _
      go (y ∷ ys) = count_working-map _ ∙ ap count_working (set_tree-map _ _ _ ∙ ap (λ g. set_tree g (Working (f.made + 1)) (y ∷ d ∷ [])) (set_tree-map f s _))
          ∙ ap (λ k. between (map_pages h f) d s (Working (k + 1)) y) (sym (made-map f))

  pub stub-map : (f : Forest P) (d s : NodeName) → map_pages h (stub f d s) ≡ stub (map_pages h f) d s
  unfolding stub
  stub-map f d s = edit-map _ d _ (with_hang (StubOf s)) (λ n. refl) ∙ ap (λ g. edit g d (with_hang (StubOf s))) (edit-map f s _ (λ n. with_stubs (n.stubs ++ d ∷ []) n) (λ n. refl))

  -- A step of settle

  option_or-map : (o p : Option P) → option_map h (option_or o p) ≡ option_or (option_map h o) (option_map h p)
  option_or-map None p = refl
  option_or-map (Some v) p = refl

  pub take_place-map : (f : Forest P) (w y : NodeName) → map_pages h (take_place f w y) ≡ take_place (map_pages h f) w y
  unfolding take_place
  take_place-map f w y = given (node f w).hang ∙ ap (λ k. edit (edit (relist (map_pages h f) k (map (renamed w y))) y (with_hang k)) w (with_hang Root)) (sym (hang-map f w))
    where
      given : (k : Hang) → map_pages h (edit (edit (relist f k (map (renamed w y))) y (with_hang k)) w (with_hang Root)) ≡ edit (edit (relist (map_pages h f) k (map (renamed w y))) y (with_hang k)) w (with_hang Root)
      given k = edit-map _ w _ (with_hang Root) (λ n. refl) ∙ ap (λ g. edit g w (with_hang Root)) (edit-map _ y _ (with_hang k) (λ n. refl) ∙ ap (λ g. edit g y (with_hang k)) (relist-map f k _))

  pub pass_page-map : (f : Forest P) (w y : NodeName) → map_pages h (pass_page f w y) ≡ pass_page (map_pages h f) w y
  unfolding pass_page
  pass_page-map f w y = edit-map f y _ (λ n. with_own (option_or n.own (option_map h (node f w).own)) n) (λ n. ap (λ o. with_own o (map_node h n)) (option_or-map n.own (node f w).own))
      ∙ ap (λ o. edit (map_pages h f) y (λ n. with_own (option_or n.own o) n)) (sym (own-map f w))

  pub give_way-map : (f : Forest P) (w y : NodeName) → map_pages h (give_way f w y) ≡ give_way (map_pages h f) w y
  unfolding give_way
  give_way-map f w y = free-map _ w ∙ ap (λ g. free g w) (cond-map (is_stub (node f w).hang && is_some (node f y).own) (cut f w) (take_place f w y)
      ∙ ap (λ g. cond (is_stub (node f w).hang && is_some (node f y).own) g (map_pages h (take_place f w y))) (cut-map f w)
      ∙ ap (cond (is_stub (node f w).hang && is_some (node f y).own) (cut (map_pages h f) w)) (take_place-map f w y)
      ∙ ap (λ b. cond (is_stub (node f w).hang && b) (cut (map_pages h f) w) (take_place (map_pages h f) w y)) (sym (ap is_some (own-map f y) ∙ is_some-map (node f y).own))
      ∙ ap (λ k. cond (is_stub k && is_some (node (map_pages h f) y).own) (cut (map_pages h f) w) (take_place (map_pages h f) w y)) (sym (hang-map f w)))

  pub settle_step-map : (f : Forest P) (w : NodeName) → map_pages h (settle_step f w) ≡ settle_step (map_pages h f) w
  unfolding settle_step
  settle_step-map f w = go (first ((node f w).tree ++ (node f w).stubs)) ∙ ap (λ (k : Node Q). elim (first (k.tree ++ k.stubs)) [ None ↦ free (cut (map_pages h f) w) w | Some y ↦ give_way (pass_page (cut (map_pages h f) y) w y) w y ]) (sym (node-map f w))
    where
      go : (o : Option NodeName) → map_pages h (elim o [ None ↦ free (cut f w) w | Some y ↦ give_way (pass_page (cut f y) w y) w y ])
          ≡ elim o [ None ↦ free (cut (map_pages h f) w) w | Some y ↦ give_way (pass_page (cut (map_pages h f) y) w y) w y ]
      go None = free-map _ w ∙ ap (λ g. free g w) (cut-map f w)
      go (Some y) = give_way-map _ w y ∙ ap (λ g. give_way g w y) (pass_page-map _ w y ∙ ap (λ g. pass_page g w y) (cut-map f y))

-- What is said of two forests by their bare forms

pub node_at : {P : Type 0} (k : Forest P) (x : NodeName) (n : Node P) → get k.nodes x ≡ Some n → node k x ≡ n
unfolding node
node_at k x n e = ap (λ o. unwrap_or o (childless None Root)) e

module _ {P : Type 0} where
  -- Forests that are the same without their pages are equal, where each name has the same own page
  -- in both.
  pub equal_by_pages : (f g : Forest P) → bare f ≡ bare g → ((x : NodeName) → (node f x).own ≡ (node g x).own) → f ≡ g
  equal_by_pages f g alike pages = same_forest f g (λ x. go x (get f.nodes x) (get g.nodes x) refl refl)
      (sym (made-map no_page f) ∙ ap (λ k. k.made) alike ∙ made-map no_page g) (sym (copies-map no_page f) ∙ ap (λ k. k.copies) alike ∙ copies-map no_page g)
    where
      at : (x : NodeName) → option_map (map_node no_page) (get f.nodes x) ≡ option_map (map_node no_page) (get g.nodes x)
      at x = sym (get-map no_page f x) ∙ ap (λ k. get k.nodes x) alike ∙ get-map no_page g x

      go : (x : NodeName) (o p : Option (Node P)) → get f.nodes x ≡ o → get g.nodes x ≡ p → get f.nodes x ≡ get g.nodes x
      go x None None e k = e ∙ sym k
      go x None (Some n) e k = absurd (cc (ap (option_map (map_node no_page)) e, ap (option_map (map_node no_page)) k, at x))
      go x (Some m) None e k = absurd (cc (ap (option_map (map_node no_page)) e, ap (option_map (map_node no_page)) k, at x))
      go x (Some m) (Some n) e k =
          let bare_is : Some (map_node no_page m) ≡ Some (map_node no_page n) = sym (ap (option_map (map_node no_page)) e) ∙ at x ∙ ap (option_map (map_node no_page)) k in
          let nodes : map_node no_page m ≡ map_node no_page n = cc in
          let owns : m.own ≡ n.own = ap (λ j. j.own) (sym (node_at f x m e)) ∙ pages x ∙ ap (λ j. j.own) (node_at g x n k) in
          e ∙ (λ i. Some (record { own = owns i; hang = (nodes i).hang; tree = (nodes i).tree; stubs = (nodes i).stubs })) ∙ sym k

-- Which working nodes are thin

module _ {P Q : Type 0} (h : P → Q) where
  keys_mapped : (es : List (NodeName × Node P)) → map (λ e. e.0) (map_entries (map_node h) es) ≡ map (λ e. e.0) es
  keys_mapped [] = refl
  keys_mapped (e ∷ es) = ap (λ ks. e.0 ∷ ks) (keys_mapped es)

  pub keys-map : (f : Forest P) → keys (map_pages h f).nodes ≡ keys f.nodes
  unfolding map_pages map_values
  keys-map f = keys_mapped f.nodes.list

  pub child_count-map : (f : Forest P) (x : NodeName) → child_count (map_pages h f) x ≡ child_count f x
  child_count-map f x = ap (λ k. length k.tree + length k.stubs) (node-map h f x)

  filter-thin : (f : Forest P) (xs : List NodeName) → filter (is_thin (map_pages h f)) xs ≡ filter (is_thin f) xs
  filter-thin f [] = refl
  filter-thin f (x ∷ xs) = ap (λ k. cond (cond (is_live x) false (ltb k 2)) (x ∷ filter (is_thin (map_pages h f)) xs) (filter (is_thin (map_pages h f)) xs)) (child_count-map f x)
      ∙ ap (λ ys. cond (is_thin f x) (x ∷ ys) ys) (filter-thin f xs)

  pub thin-map : (f : Forest P) → thin (map_pages h f) ≡ thin f
  unfolding thin
  thin-map f = ap (λ xs. first (filter (is_thin (map_pages h f)) xs)) (keys-map f) ∙ ap first (filter-thin f (keys f.nodes))
