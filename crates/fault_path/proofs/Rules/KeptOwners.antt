-- Where a rule of the forest gives a page to another node, other pages keep their owners, and who
-- has a page alone keeps it.
use Rattle.std.proofs.Common.{◌≡◌, ◌≢◌, ◌⊎◌, true, Option, Some, None, is_some, IsSome, option_map, refl, sym, ap, ◌∙◌, subst, inl, inr}
use Rattle.std.proofs.lemmas.Bool.{false≢true}
use Rattle.vm_ids.specs.declared.node_name.NodeName.{NodeName}
use Rattle.vm_ids.specs.declared.numbers.NodeId.{NodeId}
use Rattle.vm_ids.specs.Forest.Nodes.{Forest, IsNode, node, parent, parent_of}
use Rattle.vm_ids.specs.Forest.PageMap.{bare, no_page}
use Rattle.vm_ids.specs.Forest.Reading.{value_of}
use Rattle.vm_ids.specs.Forest.Rules.{gets, heir, heir_gets, own}
use Rattle.vm_ids.specs.Forest.Shape.{IsLinked, IsWellShaped}
use Rattle.vm_ids.specs.Forest.Values.{IsValue}
use Rattle.vm_ids.specs.Forest.Values.IsValue.{itself, above}
use Rattle.vm_ids.proofs.Forest.BareShape.{bare-linked}
use Rattle.vm_ids.proofs.Forest.Columns.{gets-hang_other, gets-own, gets-own_other}
use Rattle.vm_ids.proofs.Forest.Laws.Owning.{heir_gets_keeps_values, no_heir, own_keeps_values, with_heir}
use Rattle.vm_ids.proofs.Forest.Names.{name_cases}
use Rattle.vm_ids.proofs.Forest.Owning.{own-shaped}
use Rattle.vm_ids.proofs.Forest.PageMap.{hang-map, heir_gets-map, is_some-map, own-map, own-rule-map}
use Rattle.vm_ids.proofs.Forest.Reading.{IsValue-value, value-IsValue}
use Rattle.vm_ids.proofs.Forest.Values.{handed, handed_hang, heir_hangs, heir_own, node-count_copy, own_kept}
use Rattle.vm_ids.proofs.Forest.Writing.{ReadsNot, ReadsNot-no_heir}
use Rattle.local_cache.specs.Arena.{Arena, HasNode}
use Rattle.local_cache.specs.Changes.{Like}
use Rattle.local_cache.specs.Reading.{AreNamesApart, forest_of, name_of}
use Rattle.local_cache.specs.ReadingBy.{state_page}
use Rattle.residency.specs.Seeing.{IsAlone}
use Rattle.local_cache.specs.Sound.{IsSound}
use Rattle.residency.specs.StoreForest.{store_forest}
use Rattle.residency.specs.World.{World}
use Rattle.residency.proofs.Translations.Owners.{number_page, owner_named, owner_value, owners, owners_bare, owners_node, owners_page, owners_shaped}
use Rattle.fault_path.specs.Faults.{Follows, IsOwner}
use Rattle.fault_path.proofs.Calls.Kept.{store_bare}
use Rattle.fault_path.proofs.Rules.OwningRules.{without_heir}

none_or_some : {A : Type 0} (o : Option A) → (o ≡ None) ⊎ ((v : A) × (o ≡ Some v))
none_or_some None = inl refl
none_or_some (Some v) = inr (v, refl)

-- the node owns its page, and no other node reads it
pub record HasAlone {P : Type 0} (f : Forest P) (y : NodeName) : Type 0 where
  pub owned : IsSome (node f y).own
  pub nobody : ReadsNot f y

module _ {P : Type 0} (f : Forest P) (x : NodeName) where
  own_there : (y : NodeName) → y ≡ x → (node (own f x) y).own ≡ value_of f x
  unfolding own
  own_there y is = ap (λ n. n.own) (node-count_copy (gets f x (value_of f x)) y) ∙ ap (λ z. (node (gets f x (value_of f x)) z).own) is ∙ gets-own f x (value_of f x)

  own_elsewhere : (y : NodeName) → y ≢ x → (node (own f x) y).own ≡ (node f y).own
  unfolding own
  own_elsewhere y apart = ap (λ n. n.own) (node-count_copy (gets f x (value_of f x)) y) ∙ gets-own_other f x y (value_of f x) apart

  own_parent : (y : NodeName) → y ≢ x → parent (own f x) y ≡ parent f y
  unfolding own
  own_parent y apart = ap (λ n. parent_of n.hang) (node-count_copy (gets f x (value_of f x)) y) ∙ ap parent_of (gets-hang_other f x y (value_of f x) apart)

  -- each own page was one before, or is the page that x reads
  pub own_page_from : (y : NodeName) (w : P) → (node (own f x) y).own ≡ Some w → ((node f y).own ≡ Some w) ⊎ (value_of f x ≡ Some w)
  own_page_from y w e = elim (name_cases y x) [
    | inl is ↦ inr (sym (own_there y is) ∙ e)
    | inr apart ↦ inl (sym (own_elsewhere y apart) ∙ e)
  ]

  pub own_alone : (v : P) → value_of f x ≡ Some v → (y : NodeName) → HasAlone f y → HasAlone (own f x) y
  own_alone v value y p = record {
    owned = elim (name_cases y x) [
      | inl is ↦ ap is_some (own_there y is ∙ value)
      | inr apart ↦ ap is_some (own_elsewhere y apart) ∙ p.owned
    ];
    nobody = λ z up none. elim (name_cases z x) [
      | inl is ↦ (let no : None ≡ Some v = sym none ∙ own_there z is ∙ value in cc no)
      | inr apart ↦ p.nobody z (sym (own_parent z apart) ∙ up) (sym (own_elsewhere z apart) ∙ none)
    ];
  }

module _ {P : Type 0} (f : Forest P) (linked : IsLinked f) (x : NodeName) (v : P) (is_own : (node f x).own ≡ Some v) where
  the_value : value_of f x ≡ Some v
  the_value = value-IsValue f linked (itself is_own)

  module _ (h : NodeName) (is : heir f x ≡ Some h) where
    handed_is : (y : NodeName) → node (heir_gets f x) y ≡ node (handed f x h) y
    handed_is y = ap (λ g. node g y) (with_heir f x h is) ∙ node-count_copy (handed f x h) y

    heir_there : (y : NodeName) → y ≡ h → (node (heir_gets f x) y).own ≡ Some v
    heir_there y at = ap (λ n. n.own) (handed_is y) ∙ ap (λ z. (node (handed f x h) z).own) at ∙ heir_own f linked x h v is is_own the_value

    heir_elsewhere : (y : NodeName) → y ≢ h → (node (heir_gets f x) y).own ≡ (node f y).own
    heir_elsewhere y apart = ap (λ n. n.own) (handed_is y) ∙ own_kept f linked x h v is is_own the_value y apart

    handed_alone : (y : NodeName) → HasAlone f y → HasAlone (heir_gets f x) y
    handed_alone y p = record {
      owned = elim (name_cases y h) [
        | inl at ↦ ap is_some (heir_there y at)
        | inr apart ↦ ap is_some (heir_elsewhere y apart) ∙ p.owned
      ];
      nobody = λ z up none. elim (name_cases z h) [
        | inl at ↦ (let no : None ≡ Some v = sym none ∙ heir_there z at in cc no)
        | inr apart ↦
            let old : (node f z).own ≡ None = sym (heir_elsewhere z apart) ∙ none in
            elim (handed_hang f linked x h v is is_own the_value z apart) [
              | inl same ↦ p.nobody z (sym (ap parent_of same) ∙ sym (ap (λ n. parent_of n.hang) (handed_is z)) ∙ up) old
              | inr moved ↦
                  let to : Some y ≡ Some h = sym up ∙ ap (λ n. parent_of n.hang) (handed_is z) ∙ ap parent_of moved.1 in
                  let at : y ≡ h = cc to in
                  false≢true (sym (ap is_some (ap (λ z. (node f z).own) at ∙ (heir_hangs f linked x h is).0)) ∙ p.owned)
            ]
      ];
    }

  pub heir_page_from : (y : NodeName) (w : P) → (node (heir_gets f x) y).own ≡ Some w → ((node f y).own ≡ Some w) ⊎ (v ≡ w)
  heir_page_from y w e = elim (none_or_some (heir f x)) [
    | inl none ↦ inl (ap (λ g. (node g y).own) (without_heir f x none) ∙ e)
    | inr k ↦ elim (name_cases y k.0) [
      | inl at ↦ inr (let same : Some v ≡ Some w = sym (heir_there k.0 k.1 y at) ∙ e in cc same)
      | inr apart ↦ inl (sym (heir_elsewhere k.0 k.1 y apart) ∙ e)
    ]
  ]

  pub heir_alone : (y : NodeName) → HasAlone f y → HasAlone (heir_gets f x) y
  heir_alone y p = elim (none_or_some (heir f x)) [
    | inl none ↦ subst (λ g. HasAlone g y) (without_heir f x none) p
    | inr k ↦ handed_alone k.0 k.1 y p
  ]

-- forests that are the same but for their pages
module _ {P Q : Type 0} (f : Forest P) (g : Forest Q) (same : bare f ≡ bare g) where
  some_same : (y : NodeName) → is_some (node f y).own ≡ is_some (node g y).own
  some_same y = sym (is_some-map no_page (node f y).own) ∙ ap is_some (sym (own-map no_page f y)) ∙ ap (λ k. is_some (node k y).own) same ∙ ap is_some (own-map no_page g y) ∙ is_some-map no_page (node g y).own

  parent_same : (y : NodeName) → parent f y ≡ parent g y
  parent_same y = ap parent_of (sym (hang-map no_page f y)) ∙ ap (λ k. parent k y) same ∙ ap parent_of (hang-map no_page g y)

  none_same : (y : NodeName) → (node f y).own ≡ None → (node g y).own ≡ None
  none_same y none = elim (none_or_some (node g y).own) [
    | inl e ↦ e
    | inr k ↦ absurd (false≢true (sym (ap is_some none) ∙ some_same y ∙ ap is_some k.1))
  ]

  back_none : (y : NodeName) → (node g y).own ≡ None → (node f y).own ≡ None
  back_none y none = elim (none_or_some (node f y).own) [
    | inl e ↦ e
    | inr k ↦ absurd (false≢true (sym (ap is_some none) ∙ sym (some_same y) ∙ ap is_some k.1))
  ]

  pub alone_same : (y : NodeName) → HasAlone f y → HasAlone g y
  alone_same y p = record {
    owned = sym (some_same y) ∙ p.owned;
    nobody = λ z up none. p.nobody z (parent_same z ∙ up) (back_none z none);
  }

-- as the caches tell it
pub alone_of : (a : Arena) → IsLinked (forest_of a) → (y : NodeName) → IsAlone a y → HasAlone (forest_of a) y
alone_of a linked y p = record { owned = p.owned; nobody = ReadsNot-no_heir (forest_of a) linked y p.last }

pub alone_is : (a : Arena) → IsLinked (forest_of a) → (y : NodeName) → HasAlone (forest_of a) y → IsAlone a y
alone_is a linked y p = record { owned = p.owned; last = no_heir (forest_of a) linked y p.nobody }

-- A page keeps its owner where it keeps its value in a forest of owners, of which each own page is
-- one from before or that of node o, whose pages are left out.
module _ (a b : Arena) (like : Like a b) (was : AreNamesApart a) (named : AreNamesApart b) (linked : IsLinked (forest_of b)) (o : NodeId) (g : Forest NodeId) (same : bare g ≡ bare (forest_of b))
    (values : (y : NodeName) → value_of g y ≡ value_of (owners a) y) (pages : (y : NodeName) (w : NodeId) → (node g y).own ≡ Some w → ((node (owners a) y).own ≡ Some w) ⊎ (w ≡ o)) where
  same_owners : bare g ≡ bare (owners b)
  same_owners = same ∙ sym (owners_bare b named)

  own_stays : (y : NodeName) (w : NodeId) → (node g y).own ≡ Some w → w ≢ o → (node (owners b) y).own ≡ Some w
  own_stays y w e apart = elim (pages y w e) [
    | inr is ↦ absurd (apart is)
    | inl old ↦
        let at = owner_named a was y w old in
        let name : name_of b w ≡ y = like.name w ∙ at.1 in
        let page : (node (owners b) y).own ≡ number_page b w = ap (λ z. (node (owners b) z).own) (sym name) ∙ owners_page b named w (like.held w ∙ at.0) in
        let some : is_some (number_page b w) ≡ true = ap is_some (sym page) ∙ sym (some_same g (owners b) same_owners y) ∙ ap is_some e in
        page ∙ numbered (state_page b w) some
  ]
    where
      numbered : {X : Type 0} (s : Option X) → is_some (option_map (λ _. w) s) ≡ true → option_map (λ _. w) s ≡ Some w
      numbered None h = absurd (false≢true h)
      numbered (Some v) h = refl

  value_stays : {y : NodeName} {w : NodeId} → IsValue g y w → w ≢ o → IsValue (owners b) y w
  value_stays {y} {w} (itself e) apart = itself (own_stays y w e apart)
  value_stays {y} (above {p = p} none up r) apart = above (none_same g (owners b) same_owners y none) (sym (parent_same g (owners b) same_owners y) ∙ up) (value_stays r apart)

  pub owner_stays : (y : NodeName) (w : NodeId) → value_of (owners a) y ≡ Some w → w ≢ o → value_of (owners b) y ≡ Some w
  owner_stays y w e apart = value-IsValue (owners b) (bare-linked (forest_of b) (owners b) (sym (owners_bare b named)) linked) (value_stays (IsValue-value g y w (values y ∙ e)) apart)

-- From a to b pages that another node than o owns keep their owners, and who had a page alone has
-- it alone.
pub record Passes (a b : Arena) (o : NodeId) : Type 0 where
  pub keeps : (y : NodeName) (w : NodeId) → value_of (owners a) y ≡ Some w → w ≢ o → value_of (owners b) y ≡ Some w
  pub alone : (y : NodeName) → IsAlone a y → IsAlone b y

module _ (w v : World) (sound : IsSound w.caches) (shaped : IsWellShaped (forest_of w.caches)) (sound' : IsSound v.caches) (like : Like w.caches v.caches) (n o : NodeId) (there : HasNode w.caches n) (owner : IsOwner w.caches n o) where
  abbrev x : NodeName
  x = name_of w.caches n

  abbrev f : Forest NodeId
  f = owners w.caches

  f_bare : bare (owners w.caches) ≡ bare (store_forest w)
  f_bare = owners_bare w.caches sound.kept.named ∙ sym (store_bare w sound)

  f_shaped : IsWellShaped (owners w.caches)
  f_shaped = owners_shaped w.caches sound.kept.named shaped

  x_there : IsNode (owners w.caches) (name_of w.caches n)
  x_there = owners_node w.caches sound.kept.named n there

  owner_is : value_of (owners w.caches) (name_of w.caches n) ≡ Some o
  owner_is = owner_value w.caches sound.kept.named shaped n o there owner.held owner.name

  passes_by : (g : Forest NodeId) → bare g ≡ bare (forest_of v.caches) → ((y : NodeName) → value_of g y ≡ value_of (owners w.caches) y) → ((y : NodeName) (p : NodeId) → (node g y).own ≡ Some p → ((node (owners w.caches) y).own ≡ Some p) ⊎ (p ≡ o))
      → ((y : NodeName) → HasAlone (owners w.caches) y → HasAlone g y) → Passes w.caches v.caches o
  passes_by g same values pages alone = record {
    keeps = owner_stays w.caches v.caches like sound.kept.named sound'.kept.named sound'.linked o g same values pages;
    alone = λ y p. alone_is v.caches sound'.linked y (alone_same g (forest_of v.caches) same y (alone y (alone_same (forest_of w.caches) f (sym (owners_bare w.caches sound.kept.named)) y (alone_of w.caches sound.linked y p))));
  }

  pub passes_own : Follows own (name_of w.caches n) w v → Passes w.caches v.caches o
  passes_own follows = passes_by (own f x)
      (own-rule-map no_page f x ∙ ap (λ k. own k x) f_bare ∙ sym (own-rule-map no_page (store_forest w) x) ∙ ap bare (sym follows) ∙ store_bare v sound')
      (own_keeps_values f f_shaped x x_there)
      (λ y p e. elim (own_page_from f x y p e) [
        | inl old ↦ inl old
        | inr new ↦ inr (let same : Some p ≡ Some o = sym new ∙ owner_is in cc same)
      ])
      (own_alone f x o owner_is)

  pub passes_heir : (node (owners w.caches) (name_of w.caches n)).own ≡ Some o → Follows heir_gets (name_of w.caches n) w v → Passes w.caches v.caches o
  passes_heir is_own follows = passes_by (heir_gets f x)
      (heir_gets-map no_page f x ∙ ap (λ k. heir_gets k x) f_bare ∙ sym (heir_gets-map no_page (store_forest w) x) ∙ ap bare (sym follows) ∙ store_bare v sound')
      (heir_gets_keeps_values f f_shaped x o is_own)
      (λ y p e. elim (heir_page_from f f_shaped.linked x o is_own y p e) [
        | inl old ↦ inl old
        | inr new ↦ inr (sym new)
      ])
      (heir_alone f f_shaped.linked x o is_own)

  -- own, and then heir_gets
  pub passes_both : store_forest v ≡ heir_gets (own (store_forest w) (name_of w.caches n)) (name_of w.caches n) → Passes w.caches v.caches o
  passes_both follows =
      let g : Forest NodeId = own f x in
      let g_shaped = own-shaped f f_shaped x x_there in
      let is_own : (node g x).own ≡ Some o = own_there f x x refl ∙ owner_is in
      passes_by (heir_gets g x)
      (heir_gets-map no_page g x ∙ ap (λ k. heir_gets k x) (own-rule-map no_page f x ∙ ap (λ k. own k x) f_bare ∙ sym (own-rule-map no_page (store_forest w) x))
      ∙ sym (heir_gets-map no_page (own (store_forest w) x) x) ∙ ap bare (sym follows) ∙ store_bare v sound')
      (λ y. heir_gets_keeps_values g g_shaped x o is_own y ∙ own_keeps_values f f_shaped x x_there y)
      (λ y p e. elim (heir_page_from g g_shaped.linked x o is_own y p e) [
        | inr new ↦ inr (sym new)
        | inl old ↦ elim (own_page_from f x y p old) [
          | inl first ↦ inl first
          | inr second ↦ inr (let same : Some p ≡ Some o = sym second ∙ owner_is in cc same)
        ]
      ])
      (λ y p. heir_alone g g_shaped.linked x o is_own y (own_alone f x o owner_is y p))
