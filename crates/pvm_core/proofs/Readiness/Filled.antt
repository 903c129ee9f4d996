-- Pages of a range were saved: a page that is seen in a frame then, and that wasn't read off a page
-- of the range, was seen there.
use Rattle.std.proofs.Common.{◌≡◌, ◌≢◌, ◌⊎◌, ℕ, zero, suc, true, List, [], Option, Some, None, is_some, option_map, refl, sym, ap, ◌∙◌, subst, inl, inr}
use Rattle.vm_ids.specs.declared.node_name.NodeName.{NodeName}
use Rattle.vm_ids.specs.declared.numbers.NodeId.{NodeId}
use Rattle.vm_ids.specs.Forest.NameLists.{◌∈◌}
use Rattle.vm_ids.specs.Forest.Nodes.{Forest, node}
use Rattle.vm_ids.specs.Forest.PageMap.{bare, no_page}
use Rattle.vm_ids.specs.Forest.Reading.{owner_of, value_of}
use Rattle.vm_ids.specs.Forest.Rules.{heir_gets}
use Rattle.vm_ids.specs.Forest.Saving.{saves, unsaved}
use Rattle.vm_ids.specs.Forest.Shape.{IsWellShaped}
use Rattle.vm_ids.specs.Forest.Values.IsValue.{itself}
use Rattle.vm_ids.proofs.Forest.Laws.Owning.{with_heir}
use Rattle.vm_ids.proofs.Forest.Names.{name_cases}
use Rattle.vm_ids.proofs.Forest.Owning.{heir_gets-shaped}
use Rattle.vm_ids.proofs.Forest.Reading.{value-IsValue}
use Rattle.vm_ids.proofs.Forest.Saving.{saves_keep_values, unsaved-Unsaved}
use Rattle.vm_ids.proofs.Forest.Values.{heir_hangs, heir_own, node-count_copy, own_kept}
use Rattle.vm_ids.specs.declared.command.Extent.{Extent}
use Rattle.vm_ids.specs.Forest.Commands.{extent_names}
use Rattle.vm_ids.proofs.Forest.Laws.PageMap.{saves_go_with_pages}
use Rattle.vm_ids.proofs.Forest.Laws.Reading.{owners_own_values}
use Rattle.vm_ids.proofs.Forest.Paths.{IsNode-value}
use Rattle.vm_ids.proofs.Forest.PageMap.{is_some-map, own-map, owner_of-map, value_of-map}
use Rattle.frame_pool.specs.Pool.{bytes_of}
use Rattle.local_cache.specs.Arena.{Arena}
use Rattle.local_cache.specs.Changes.{Like}
use Rattle.local_cache.specs.Reading.{forest_of, name_of}
use Rattle.local_cache.specs.Sound.{IsSound}
use Rattle.residency.specs.Seeing.{seen_in}
use Rattle.residency.specs.StoreForest.{store_forest}
use Rattle.residency.specs.World.{ArePlaced, World, world}
use Rattle.residency.specs.declared.store.Store.{Store}
use Rattle.page_commands.specs.Steps.{GivesBack}
use Rattle.page_commands.specs.Translating.{Leaves}
use Rattle.contexts.specs.Actors.{Actors}
use Rattle.pvm_core.specs.Keeping.{FillsOnly}
use Rattle.pvm_core.specs.Manager.{Manager}
use Rattle.pvm_core.proofs.Answering.Kept.{seen}
use Rattle.pvm_core.proofs.Translating.Cells.{cells_seen}
use Rattle.std.specs.Prelude.{Result, slice_index_or}
use Rattle.residency.proofs.Translations.Owners.{owner_named, owner_seen, owners, owners_bare, owners_shaped, seen_owner}
use Rattle.fault_path.proofs.Calls.Kept.{store_bare, store_shaped}
use Rattle.segment_ops.specs.Saving.{IsOfSaves, OnlySavedCome}

-- what each save keeps, all keep
by_saves : {P : Type 0} (A : Forest P → Type 0) (n : ℕ) (xs : List NodeName) (f : Forest P) → A f → ((f : Forest P) (x : NodeName) → unsaved f xs ≡ Some x → A f → A (heir_gets f x)) → A (saves n xs f)
unfolding saves
by_saves A zero xs f start step = start
by_saves {P = P} A (suc n) xs f start step = go (unsaved f xs) refl (λ g is. by_saves A n xs g is step)
  where
    go : (o : Option NodeName) → unsaved f xs ≡ o → ((g : Forest P) → A g → A (saves n xs g)) → A (elim o [ None ↦ f | Some x ↦ saves n xs (heir_gets f x) ])
    go None e more = start
    go (Some x) e more = more (heir_gets f x) (step f x e start)

module _ {P : Type 0} (f : Forest P) (xs : List NodeName) where
  -- what saves of pages leave: own pages stay, and each that is new is one of these pages
  record Gives (g : Forest P) : Type 0 where
    shaped : IsWellShaped g
    keeps : (y : NodeName) (v : P) → (node f y).own ≡ Some v → (node g y).own ≡ Some v
    gives : (y : NodeName) (v : P) → (node g y).own ≡ Some v → ((node f y).own ≡ Some v) ⊎ ((x : NodeName) × (x ∈ xs) × ((node f x).own ≡ Some v))

  saves_give : (n : ℕ) → IsWellShaped f → Gives (saves n xs f)
  saves_give n shaped = by_saves Gives n xs f (record { shaped = shaped; keeps = λ y v e. e; gives = λ y v e. inl e }) (λ g x e k.
      let u = unsaved-Unsaved g xs x e in
      let value_is = value-IsValue g k.shaped.linked (itself u.own_is) in
      let same : (y : NodeName) → y ≢ u.next → (node (heir_gets g x) y).own ≡ (node g y).own = λ y apart. ap (λ h. (node h y).own) (with_heir g x u.next u.heir_is) ∙ ap (λ n. n.own) (node-count_copy _ y) ∙ own_kept g k.shaped.linked x u.next u.page u.heir_is u.own_is value_is y apart in
      let gets : (node (heir_gets g x) u.next).own ≡ Some u.page = ap (λ h. (node h u.next).own) (with_heir g x u.next u.heir_is) ∙ ap (λ n. n.own) (node-count_copy _ u.next) ∙ heir_own g k.shaped.linked x u.next u.page u.heir_is u.own_is value_is in
      record {
        shaped = heir_gets-shaped g k.shaped x u.page u.own_is;
        keeps = λ y v own. same y (λ is. let clash : None ≡ Some v = sym (heir_hangs g k.shaped.linked x u.next u.heir_is).0 ∙ ap (λ z. (node g z).own) (sym is) ∙ k.keeps y v own in cc clash) ∙ k.keeps y v own;
        gives = λ y v own. elim (name_cases y u.next) [
          | inr apart ↦ k.gives y v (sym (same y apart) ∙ own)
          | inl is ↦
              let v_is : Some u.page ≡ Some v = sym gets ∙ ap (λ z. (node (heir_gets g x) z).own) (sym is) ∙ own in
              elim (k.gives x v (u.own_is ∙ v_is)) [
                | inl here ↦ inr (x, u.there, here)
                | inr other ↦ inr other
              ]
        ];
      })

own_there : {P : Type 0} (o : Option P) → is_some o ≡ true → (v : P) × (o ≡ Some v)
own_there None e = absurd (cc e)
own_there (Some v) e = (v, refl)

some_of : {P Q : Type 0} (h : P → Q) (o : Option P) (q : Q) → option_map h o ≡ Some q → (p : P) × (o ≡ Some p)
some_of h None q e = absurd (cc e)
some_of h (Some p) q e = (p, refl)

owned : {P : Type 0} (f : Forest P) → IsWellShaped f → (x : NodeName) (v : P) → value_of f x ≡ Some v → (node f (owner_of f x)).own ≡ Some v
owned f shaped x v e = owners_own_values f shaped x ((IsNode-value f shaped x).1 (ap is_some e)) ∙ e

module _ (w v : World) (sound : IsSound w.caches) (shaped : IsWellShaped (forest_of w.caches)) (sound' : IsSound v.caches) (shaped' : IsWellShaped (forest_of v.caches)) (like : Like w.caches v.caches) (n : ℕ) (xs : List NodeName) (follows : store_forest v ≡ saves n xs (store_forest w)) where
  abbrev f : Forest NodeId
  f = owners w.caches

  abbrev h : Forest NodeId
  h = owners v.caches

  abbrev g : Forest NodeId
  g = saves n xs (owners w.caches)

  same : bare (saves n xs (owners w.caches)) ≡ bare (owners v.caches)
  same = saves_go_with_pages no_page n xs f ∙ ap (saves n xs) (owners_bare w.caches sound.kept.named ∙ sym (store_bare w sound)) ∙ sym (saves_go_with_pages no_page n xs (store_forest w)) ∙ ap bare (sym follows) ∙ store_bare v sound' ∙ sym (owners_bare v.caches sound'.kept.named)

  f_shaped : IsWellShaped (owners w.caches)
  f_shaped = owners_shaped w.caches sound.kept.named shaped

  -- the name of the owner, read off the nodes
  owner_is : (x : NodeName) (p : NodeId) → value_of (owners w.caches) x ≡ Some p → name_of w.caches p ≡ owner_of (forest_of w.caches) x
  owner_is x p e = (owner_named w.caches sound.kept.named (owner_of f x) p (owned f f_shaped x p e)).1 ∙ sym (owner_of-map no_page f x) ∙ ap (λ k. owner_of k x) (owners_bare w.caches sound.kept.named) ∙ owner_of-map no_page (forest_of w.caches) x

  -- the node whose page x reads is the one whose page it read, or x read a page of the range
  owner_before : (x : NodeName) (o : NodeId) → value_of (owners v.caches) x ≡ Some o → (value_of (owners w.caches) x ≡ Some o) ⊎ (owner_of (forest_of w.caches) x ∈ xs)
  owner_before x o e =
      let k = saves_give f xs n f_shaped in
      let at = owner_named v.caches sound'.kept.named (owner_of h x) o (owned h (owners_shaped v.caches sound'.kept.named shaped') x o e) in
      let p = some_of no_page (value_of g x) tt (sym (value_of-map no_page g x) ∙ ap (λ z. value_of z x) same ∙ value_of-map no_page h x ∙ ap (option_map no_page) e) in
      let before : value_of f x ≡ Some p.0 = sym (saves_keep_values n xs f f_shaped x) ∙ p.1 in
      let name : owner_of g x ≡ name_of w.caches o = sym (owner_of-map no_page g x) ∙ ap (λ z. owner_of z x) same ∙ owner_of-map no_page h x ∙ sym at.1 ∙ like.name o in
      elim (k.gives (name_of w.caches o) p.0 (ap (λ y. (node g y).own) (sym name) ∙ owned g k.shaped x p.0 p.1)) [
        | inl here ↦ inl (before ∙ ap (λ q. Some q) (let mine = owner_named w.caches sound.kept.named (name_of w.caches o) p.0 here in sound.kept.named.apart p.0 o mine.0 (sym (like.held o) ∙ at.0) mine.1))
        | inr z ↦ inr (subst (λ y. y ∈ xs) (sym (owner_named w.caches sound.kept.named z.0 p.0 z.2).1 ∙ owner_is x p.0 before) z.1)
      ]

  f_bare : bare (owners w.caches) ≡ bare (store_forest w)
  f_bare = owners_bare w.caches sound.kept.named ∙ sym (store_bare w sound)

  -- a node that owns the page of x, which isn't of the range, is of none of the saves
  none_saved : {T : Type 0} (r : Result T ℕ) (x : NodeName) (o : NodeId) → value_of (owners w.caches) x ≡ Some o → IsOfSaves r xs w o → owner_of (forest_of w.caches) x ∈ xs
  none_saved r x o was k =
      let y : NodeName = owner_of f x in
      let name = owner_named w.caches sound.kept.named y o (owned f f_shaped x o was) in
      let there : (v : _) × ((node (store_forest w) y).own ≡ Some v) = own_there (node (store_forest w) y).own (sym (is_some-map no_page (node (store_forest w) y).own) ∙ ap is_some (sym (own-map no_page (store_forest w) y)) ∙ ap (λ z. is_some (node z y).own) (sym f_bare) ∙ ap is_some (own-map no_page f y) ∙ is_some-map no_page (node f y).own ∙ ap is_some (owned f f_shaped x o was)) in
      let shape = store_shaped w sound shaped in
      elim k.one [
        | inl page ↦ subst (λ z. z ∈ xs) (sym page ∙ owner_is x o was) (unsaved-Unsaved (saves k.step xs (store_forest w)) xs k.page k.next).there
        | inr heir ↦ absurd (
            let g = saves_give (store_forest w) xs k.step shape in
            let bare_there : (node (saves k.step xs (store_forest w)) (name_of w.caches o)).own ≡ None = (heir_hangs (saves k.step xs (store_forest w)) g.shaped.linked k.page (name_of w.caches o) heir).0 in
            let clash : None ≡ Some there.0 = sym bare_there ∙ ap (λ z. (node (saves k.step xs (store_forest w)) z).own) name.1 ∙ g.keeps y there.0 there.1 in
            cc clash)
      ]

  module _ {T : Type 0} (r : Result T ℕ) (placed : ArePlaced w.caches w.frames w.slots w.map) (placed' : ArePlaced v.caches v.frames v.slots v.map) (fills : OnlySavedCome r xs w v) where
    -- a page that is seen in a frame, and wasn't read off a page of the range, was seen there, and
    -- the frame has its bytes
    pub seen_before : (x : NodeName) (frame : ℕ) → (owner_of (forest_of w.caches) x ∈ xs → ⊥) → seen_in v.caches v.map x ≡ Some frame → (seen_in w.caches w.map x ≡ Some frame) × (bytes_of v.frames frame ≡ bytes_of w.frames frame)
    seen_before x frame apart seen =
        let o = seen_owner v.caches v.frames v.slots v.map placed' x frame seen in
        elim (owner_before x o.owner o.owns) [
          | inr out ↦ absurd (apart out)
          | inl was ↦ elim (fills.frames frame o.owner o.at) [
            | inl stays ↦ (owner_seen w.caches w.frames w.slots w.map placed x frame (record { owner = o.owner; owns = was; at = sym stays.node ∙ o.at }), stays.bytes)
            | inr came ↦ absurd (apart (none_saved r x o.owner was came))
          ]
        ]

-- From one manager to the next

pub fills_itself : (range : Extent) (replaced : NodeName → Type 0) (p : Manager) → FillsOnly range replaced p p
fills_itself range replaced p x frame live out apart shown = (shown, refl)

pub fills_but : (range : Extent) (replaced : NodeName → Type 0) (p q : Manager) → FillsOnly range (λ x. ⊥) p q → FillsOnly range replaced p q
fills_but range replaced p q fills x frame live out apart shown = fills x frame live (λ no. no) apart shown

-- where nodes and frames stay first
pub fills_later : (range : Extent) (a b : Arena) (s : Store) (t : Actors) (q : Manager) → b.cells ≡ a.cells → b.made ≡ a.made → b.copies ≡ a.copies → forest_of b ≡ forest_of a → FillsOnly range (λ x. ⊥) (seen b s t) q → FillsOnly range (λ x. ⊥) (seen a s t) q
fills_later range a b s t q cells made copies same fills x frame live out apart shown =
    let k = fills x frame live out (λ i. apart (subst (λ f. owner_of f x ∈ extent_names range) same i)) shown in
    (sym (cells_seen a b cells made copies s.map x) ∙ k.0, k.1)

-- where pages are replaced then, and frames fall free
pub fills_then : (range : Extent) (replaced gone sought shared : NodeName → Type 0) (p : Manager) (a b : Arena) (s u : Store) (t : Actors) → ((x : NodeName) → gone x → replaced x) → FillsOnly range (λ x. ⊥) p (seen a s t) → Leaves gone sought shared a s b u → GivesBack (world None None a s) (world None None b u) → FillsOnly range replaced p (seen b u t)
fills_then range replaced gone sought shared p a b s u t each fills leaves gives x frame live out apart shown =
    let k = fills x frame live (λ no. no) apart (sym (leaves.seen x live (λ g. out (each x g))) ∙ shown) in
    (k.0, ap (λ (bytes : List (List ℕ)). slice_index_or bytes frame []) gives.bytes ∙ k.1)
