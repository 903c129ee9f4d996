-- Saves over a range, of page forests alone: which page is saved next, and how many saves there
-- are.
use Rattle.std.proofs.Common.{◌≡◌, ◌≢◌, ℕ, suc, zero, ◌+◌, ◌-◌, ◌<◌, ◌≤◌, List, [], ◌∷◌, ◌++◌, filter, Bool, true, false, cond, ◌&&◌, ◌⊎◌, Option, Some, None, is_some, is_none, refl, sym, ap, ap₂, ◌∙◌, inl, inr, arith, subst}
use Rattle.std.specs.Option.{IsSome}
use Rattle.std.proofs.lemmas.Bool.{cases_lt}
use Rattle.vm_ids.specs.declared.node_name.NodeName.{NodeName}
use Rattle.vm_ids.specs.declared.numbers.CacheId.{CacheId}
use Rattle.vm_ids.specs.Forest.Changes.{count_copy}
use Rattle.vm_ids.specs.Forest.Commands.{page_name, page_names}
use Rattle.vm_ids.specs.Forest.NameLists.{◌∈◌, first, without}
use Rattle.vm_ids.specs.Forest.NameMap.{len}
use Rattle.vm_ids.specs.Forest.Nodes.{Forest, Hang, is_live, node}
use Rattle.vm_ids.specs.Forest.Nodes.Hang.{Root, TreeOf, StubOf}
use Rattle.vm_ids.specs.Forest.Reading.{value_of}
use Rattle.vm_ids.specs.Forest.Rules.{heir, heir_gets}
use Rattle.vm_ids.specs.Forest.Saving.{is_unsaved, save_range, saves, unsaved}
use Rattle.vm_ids.specs.Forest.Shape.{IsWellShaped}
use Rattle.vm_ids.specs.Forest.Values.IsValue.{itself}
use Rattle.vm_ids.proofs.Forest.Columns.{gets-stubs, gets-tree, hand_stubs-stubs_other, hand_stubs-tree, left_stubs}
use Rattle.vm_ids.proofs.Forest.Laws.Owning.{heir_gets_leaves_no_heir, with_heir}
use Rattle.vm_ids.proofs.Forest.Names.{name_cases, same_apart}
use Rattle.vm_ids.proofs.Forest.Reading.{value-IsValue}
use Rattle.vm_ids.proofs.Forest.Saving.{no_more_saves, save_range_ends}
use Rattle.vm_ids.proofs.Forest.Values.{handed, heir_hangs, heir_own, node-count_copy, own_kept}

pub both_false : (a : Bool) → (a && false) ≡ false
both_false true = refl
both_false false = refl

same_filter : {p q : NodeName → Bool} (xs : List NodeName) → ((t : NodeName) → t ∈ xs → p t ≡ q t) → filter p xs ≡ filter q xs
same_filter [] e = refl
same_filter {p = p} {q = q} (x ∷ xs) e = ap (λ b. cond b (x ∷ filter p xs) (filter p xs)) (e x (inl refl)) ∙ ap (λ ys. cond (q x) (x ∷ ys) ys) (same_filter {p = p} {q = q} xs (λ t i. e t (inr i)))

module _ {P : Type 0} where
  -- The page of x, which has the heir h, was saved.
  module _ (f : Forest P) (shaped : IsWellShaped f) (x h : NodeName) (v : P) (own_is : (node f x).own ≡ Some v) (is_heir : heir f x ≡ Some h) where
    value_is : value_of f x ≡ Some v
    value_is = value-IsValue f shaped.linked (itself own_is)

    after : heir_gets f x ≡ count_copy (handed f x h)
    after = with_heir f x h is_heir

    -- another node than the heir has its page, or none
    own_stays : (y : NodeName) → y ≢ h → (node (heir_gets f x) y).own ≡ (node f y).own
    own_stays y apart = ap (λ g. (node g y).own) after ∙ ap (λ n. n.own) (node-count_copy (handed f x h) y) ∙ own_kept f shaped.linked x h v is_heir own_is value_is y apart

    -- and who has none had none
    pub owned_stays : (y : NodeName) → (node (heir_gets f x) y).own ≡ None → (node f y).own ≡ None
    owned_stays y none = elim (name_cases y h) [
      | inl e ↦ absurd (
          let has : (node (heir_gets f x) h).own ≡ Some v = ap (λ g. (node g h).own) after ∙ ap (λ n. n.own) (node-count_copy (handed f x h) h) ∙ heir_own f shaped.linked x h v is_heir own_is value_is in
          let gone : (node (heir_gets f x) h).own ≡ None = ap (λ z. (node (heir_gets f x) z).own) (sym e) ∙ none in
          cc (has, gone))
      | inr apart ↦ sym (own_stays y apart) ∙ none
    ]

    tree_stays : (y : NodeName) → (node (heir_gets f x) y).tree ≡ (node f y).tree
    unfolding handed
    tree_stays y = ap (λ g. (node g y).tree) after ∙ ap (λ n. n.tree) (node-count_copy (handed f x h) y) ∙ hand_stubs-tree _ x h y ∙ gets-tree f h y _

    not_left : (k : Hang) → ((k ≡ TreeOf x) ⊎ (k ≡ StubOf x)) → (y : NodeName) → y ≢ x → (ys : List NodeName) → left_stubs h k y ys ≡ ys
    not_left Root e y apart ys = refl
    not_left (TreeOf p) e y apart ys = refl
    not_left (StubOf p) (inl e) y apart ys = absurd (cc e)
    not_left (StubOf p) (inr e) y apart ys = ap (λ b. cond b (without h ys) ys) (same_apart p y (λ q. let is : p ≡ x = cc e in apart (sym q ∙ is)))

    stubs_stay : (y : NodeName) → y ≢ x → y ≢ h → (node (heir_gets f x) y).stubs ≡ (node f y).stubs
    unfolding handed
    stubs_stay y other apart =
        ap (λ g. (node g y).stubs) after ∙ ap (λ n. n.stubs) (node-count_copy (handed f x h) y) ∙ hand_stubs-stubs_other _ x h y other apart ∙ gets-stubs f h y _
        ∙ not_left (node f h).hang (heir_hangs f shaped.linked x h is_heir).1 y other (node f y).stubs

    -- the heir is no tree child of another node
    not_child : (y : NodeName) → y ≢ x → h ∈ (node f y).tree → ⊥
    not_child y other i =
        let hangs : (node f h).hang ≡ TreeOf y = (shaped.linked.tree_links h y).0 i in
        elim (heir_hangs f shaped.linked x h is_heir).1 [ inl e ↦ other (cc (hangs, e)) | inr e ↦ absurd (cc (hangs, e)) ]

    heir_stays : (y : NodeName) → y ≢ x → y ≢ h → heir (heir_gets f x) y ≡ heir f y
    unfolding heir
    heir_stays y other apart =
        ap₂ (λ ts ss. first (filter (λ t. is_none (node (heir_gets f x) t).own) ts ++ ss)) (tree_stays y) (stubs_stay y other apart)
        ∙ ap (λ ts. first (ts ++ (node f y).stubs)) (same_filter (node f y).tree (λ t i. ap is_none (own_stays t (λ e. not_child y other (subst (λ z. z ∈ (node f y).tree) e i)))))

    -- whoever isn't the heir is saved where it was, and x is saved
    pub saved_stays : (y : NodeName) → y ≢ x → y ≢ h → is_unsaved (heir_gets f x) y ≡ is_unsaved f y
    saved_stays y other apart = ap₂ (λ o k. is_some o && is_some k) (own_stays y apart) (heir_stays y other apart)

    pub saved_now : is_live x ≡ true → is_unsaved (heir_gets f x) x ≡ false
    saved_now live = ap (λ o. is_some (node (heir_gets f x) x).own && is_some o) (heir_gets_leaves_no_heir f shaped x v live own_is) ∙ both_false (is_some (node (heir_gets f x) x).own)

  -- the same of a page that isn't saved yet
  pub unowned_before : (f : Forest P) → IsWellShaped f → (x h : NodeName) → is_unsaved f x ≡ true → heir f x ≡ Some h → (y : NodeName) → (node (heir_gets f x) y).own ≡ None → (node f y).own ≡ None
  unowned_before f shaped x h is is_heir y none = go (node f x).own refl is
    where
      go : (o : Option P) → (node f x).own ≡ o → (is_some (node f x).own && is_some (heir f x)) ≡ true → (node f y).own ≡ None
      go None e t = absurd (let u : false ≡ true = sym (ap (λ p. is_some p && is_some (heir f x)) e) ∙ t in cc u)
      go (Some v) e t = owned_stays f shaped x h v e is_heir y none

  -- Which one is next

  pub none_unsaved : (f : Forest P) (xs : List NodeName) → ((x : NodeName) → x ∈ xs → is_unsaved f x ≡ false) → unsaved f xs ≡ None
  unfolding unsaved
  none_unsaved f [] all = refl
  none_unsaved f (x ∷ xs) all = ap (λ b. first (cond b (x ∷ filter (is_unsaved f) xs) (filter (is_unsaved f) xs))) (all x (inl refl)) ∙ none_unsaved f xs (λ y i. all y (inr i))

  -- the first page of a range that isn't saved
  pub first_unsaved : (f : Forest P) (cache : CacheId) (from n at : ℕ) → at < n → is_unsaved f (page_name cache (from + at)) ≡ true → ((i : ℕ) → i < at → is_unsaved f (page_name cache (from + i)) ≡ false)
      → unsaved f (page_names cache from n) ≡ Some (page_name cache (from + at))
  unfolding unsaved
  first_unsaved f cache from zero at low is before = absurd (omega arith)
  first_unsaved f cache from (suc n) zero low is before =
      let same : from + 0 ≡ from = omega arith in
      ap (λ b. first (cond b (page_name cache from ∷ filter (is_unsaved f) (page_names cache (from + 1) n)) (filter (is_unsaved f) (page_names cache (from + 1) n)))) (ap (λ k. is_unsaved f (page_name cache k)) (sym same) ∙ is)
      ∙ ap (λ k. Some (page_name cache k)) (sym same)
  first_unsaved f cache from (suc n) (suc at) low is before =
      let same : from + 0 ≡ from = omega arith in
      let next : (i : ℕ) → from + suc i ≡ from + 1 + i = λ i. omega arith in
      ap (λ b. first (cond b (page_name cache from ∷ filter (is_unsaved f) (page_names cache (from + 1) n)) (filter (is_unsaved f) (page_names cache (from + 1) n)))) (ap (λ k. is_unsaved f (page_name cache k)) (sym same) ∙ before 0 (omega arith))
      ∙ first_unsaved f cache (from + 1) n at (omega arith) (ap (λ k. is_unsaved f (page_name cache k)) (sym (next at)) ∙ is) (λ i less. ap (λ k. is_unsaved f (page_name cache k)) (sym (next i)) ∙ before (suc i) (omega arith))
      ∙ ap (λ k. Some (page_name cache k)) (sym (next at))

  -- How many there are

  more_saves : (n k : ℕ) (xs : List NodeName) (f : Forest P) → unsaved (saves n xs f) xs ≡ None → saves (k + n) xs f ≡ saves n xs f
  more_saves n zero xs f e = let none : 0 + n ≡ n = omega arith in ap (λ m. saves m xs f) none
  more_saves n (suc k) xs f e =
      let same = more_saves n k xs f e in
      let next : suc k + n ≡ suc (k + n) = omega arith in
      ap (λ m. saves m xs f) next ∙ no_more_saves (k + n) xs f (ap (λ g. unsaved g xs) same ∙ e) ∙ same

  ends : (xs : List NodeName) (f : Forest P) → IsWellShaped f → unsaved (save_range xs f) xs ≡ None
  ends xs f shaped = none_unsaved (save_range xs f) xs (save_range_ends xs f shaped)

  -- where no save is left, all were done
  pub all_saved : (n : ℕ) (xs : List NodeName) (f : Forest P) → IsWellShaped f → unsaved (saves n xs f) xs ≡ None → saves n xs f ≡ save_range xs f
  unfolding save_range
  all_saved n xs f shaped e = elim (cases_lt n (len f.nodes)) [
    | inl low ↦ (
        let k : (len f.nodes - n) + n ≡ len f.nodes = omega arith in
        sym (more_saves n (len f.nodes - n) xs f e) ∙ ap (λ m. saves m xs f) k)
    | inr high ↦ (
        let k : (n - len f.nodes) + len f.nodes ≡ n = omega arith in
        ap (λ m. saves m xs f) (sym k) ∙ more_saves (len f.nodes) (n - len f.nodes) xs f (ends xs f shaped))
  ]

  -- where one is left, fewer were done than there are nodes
  pub saves_left : (n : ℕ) (xs : List NodeName) (f : Forest P) → IsWellShaped f → IsSome (unsaved (saves n xs f) xs) → n < len f.nodes
  unfolding save_range
  saves_left n xs f shaped some = elim (cases_lt n (len f.nodes)) [
    | inl low ↦ low
    | inr high ↦ (
        let k : (n - len f.nodes) + len f.nodes ≡ n = omega arith in
        let same : saves n xs f ≡ saves (len f.nodes) xs f = ap (λ m. saves m xs f) (sym k) ∙ more_saves (len f.nodes) (n - len f.nodes) xs f (ends xs f shaped) in
        let none : unsaved (saves n xs f) xs ≡ None = ap (λ g. unsaved g xs) same ∙ ends xs f shaped in
        absurd (let t : is_some (unsaved (saves n xs f) xs) ≡ false = ap is_some none in cc))
  ]

  -- and one was left at each of them
  pub saves_before : (n done : ℕ) (xs : List NodeName) (f : Forest P) → n ≤ done → IsSome (unsaved (saves done xs f) xs) → IsSome (unsaved (saves n xs f) xs)
  saves_before n done xs f low some = go (unsaved (saves n xs f) xs) refl
    where
      go : (o : Option NodeName) → unsaved (saves n xs f) xs ≡ o → IsSome (unsaved (saves n xs f) xs)
      go (Some x) e = ap is_some e
      go None e = absurd (
          let k : (done - n) + n ≡ done = omega (arith, low) in
          let same : saves done xs f ≡ saves n xs f = ap (λ m. saves m xs f) (sym k) ∙ more_saves n (done - n) xs f e in
          let none : is_some (unsaved (saves done xs f) xs) ≡ false = ap (λ g. is_some (unsaved g xs)) same ∙ ap is_some e in
          cc (none, some))
