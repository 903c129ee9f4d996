-- A rule that the forest of own states followed is followed by the forest of any pages that are
-- told by number.
use Rattle.std.proofs.Common.{◌≡◌, ◌≢◌, ℕ, ◌+◌, ◌⊎◌, Bool, true, false, Option, Some, None, is_some, option_map, unwrap_or, refl, sym, ap, ◌∙◌, subst, inl, inr}
use Rattle.std.proofs.lemmas.Bool.{false≢true}
use Rattle.vm_ids.specs.declared.node_name.NodeName.{NodeName}
use Rattle.vm_ids.specs.Forest.Changes.{count_copy, edit, with_own as with_page}
use Rattle.vm_ids.specs.Forest.NameMap as names
use Rattle.vm_ids.specs.Forest.Nodes.{Forest, childless, node}
use Rattle.vm_ids.specs.Forest.Nodes.Hang.{Root}
use Rattle.vm_ids.specs.Forest.PageMap.{bare, map_node, no_page}
use Rattle.vm_ids.proofs.Forest.NodesAfter.{node-put, node-put_other}
use Rattle.vm_ids.proofs.Forest.PageMap.{copies-map, count_copy-map, edit-map, equal_by_pages, get-map, made-map, own-map, same_forest}
use Rattle.vm_ids.proofs.Forest.Values.{node-count_copy}
use Rattle.vm_ids.specs.declared.numbers.NodeId.{NodeId}
use Rattle.local_cache.specs.declared.own_state.OwnState.{OwnState}
use Rattle.local_cache.specs.declared.own_state.OwnState.TheVariants.{Absent, Zero, Resident, Slot, OnSegment}
use Rattle.local_cache.specs.Arena.{Arena, HasNode, cell, find, with_own}
use Rattle.local_cache.specs.Changes.{Like, Relinked}
use Rattle.local_cache.specs.Reading.{AreNamesApart, forest_of, name_of, page_of}
use Rattle.local_cache.specs.ReadingBy.{Tells, forest_by, node_with, state_page}
use Rattle.local_cache.specs.Sound.{IsKept}
use Rattle.local_cache.proofs.Changes.SameCells.{copied_forest}
use Rattle.local_cache.proofs.Changes.SameNodes.{id_cases, like-put, named-like, made-put}
use Rattle.local_cache.proofs.Changes.OneNode.{own-forest}
use Rattle.local_cache.proofs.Forest.Reading.{forest_of-by, get-forest_by, get-forest_by_none, held_or_not, node-forest_by, node-forest_of}

pub forest_by-made : {P : Type 0} (page : NodeId → Option P) (a : Arena) → (forest_by page a).made ≡ a.made
unfolding forest_by
forest_by-made page a = refl

pub forest_by-copies : {P : Type 0} (page : NodeId → Option P) (a : Arena) → (forest_by page a).copies ≡ a.copies
unfolding forest_by
forest_by-copies page a = refl

pub same_bare : {P Q : Type 0} (o : Option P) (p : Option Q) → is_some o ≡ is_some p → option_map no_page o ≡ option_map no_page p
same_bare None None e = refl
same_bare (Some v) (Some w) e = refl
same_bare None (Some w) e = absurd (cc e)
same_bare (Some v) None e = absurd (cc e)

bare_None : {P : Type 0} (o : Option P) → option_map no_page o ≡ None → o ≡ None
bare_None None e = refl
bare_None (Some v) e = absurd (cc e)

node_none : {P : Type 0} (f : Forest P) (x : NodeName) → names.get f.nodes x ≡ None → node f x ≡ childless None Root
unfolding node
node_none f x e = ap (λ o. unwrap_or o (childless None Root)) e

module _ {P Q : Type 0} (page : NodeId → Option P) (other : NodeId → Option Q) (a : Arena) (named : AreNamesApart a) (alike : (n : NodeId) → is_some (page n) ≡ is_some (other n)) where
  -- without its pages the forest is the same, whatever tells them
  pub bare-by : bare (forest_by page a) ≡ bare (forest_by other a)
  bare-by = same_forest _ _ (λ x. get-map no_page (forest_by page a) x ∙ at x (held_or_not a x) ∙ sym (get-map no_page (forest_by other a) x))
      (made-map no_page (forest_by page a) ∙ forest_by-made page a ∙ sym (made-map no_page (forest_by other a) ∙ forest_by-made other a))
      (copies-map no_page (forest_by page a) ∙ forest_by-copies page a ∙ sym (copies-map no_page (forest_by other a) ∙ forest_by-copies other a))
    where
      at : (x : NodeName) → ((n : NodeId) × HasNode a n × (name_of a n ≡ x)) ⊎ ((n : NodeId) → HasNode a n → name_of a n ≢ x)
          → option_map (map_node no_page) (names.get (forest_by page a).nodes x) ≡ option_map (map_node no_page) (names.get (forest_by other a).nodes x)
      at x (inl f) = subst (λ y. option_map (map_node no_page) (names.get (forest_by page a).nodes y) ≡ option_map (map_node no_page) (names.get (forest_by other a).nodes y)) f.2
          (ap (option_map (map_node no_page)) (get-forest_by a page named f.0 f.1) ∙ ap (λ o. Some (node_with a f.0 o)) (same_bare (page f.0) (other f.0) (alike f.0)) ∙ sym (ap (option_map (map_node no_page)) (get-forest_by a other named f.0 f.1)))
      at x (inr none) = ap (option_map (map_node no_page)) (get-forest_by_none a page x none) ∙ sym (ap (option_map (map_node no_page)) (get-forest_by_none a other x none))

module _ {P : Type 0} (page : NodeId → Option P) where
  pub bare-of : (a : Arena) → AreNamesApart a → Tells page a → bare (forest_by page a) ≡ bare (forest_of a)
  bare-of a named tells = bare-by page (state_page a) a named tells ∙ sym (ap bare (forest_of-by a))

  pub page-at : (a : Arena) → AreNamesApart a → (n : NodeId) → HasNode a n → (node (forest_by page a) (name_of a n)).own ≡ page n
  page-at a named n h = ap (λ k. k.own) (node-forest_by a page named n h)

  -- The forest that is read with these pages is g, where the forest of own states is like g but for
  -- its pages, and g has each node's page.
  pub lifted : (a : Arena) → AreNamesApart a → Tells page a → (g : Forest P) → bare (forest_of a) ≡ bare g → ((n : NodeId) → HasNode a n → page n ≡ (node g (name_of a n)).own) → forest_by page a ≡ g
  lifted a named tells g alike pages = equal_by_pages (forest_by page a) g (bare-of a named tells ∙ alike) (λ x. at x (held_or_not a x))
    where
      at : (x : NodeName) → ((n : NodeId) × HasNode a n × (name_of a n ≡ x)) ⊎ ((n : NodeId) → HasNode a n → name_of a n ≢ x) → (node (forest_by page a) x).own ≡ (node g x).own
      at x (inl f) = subst (λ y. (node (forest_by page a) y).own ≡ (node g y).own) f.2 (page-at a named f.0 f.1 ∙ pages f.0 f.1)
      at x (inr none) =
          let gone : (node (forest_by page a) x).own ≡ None = ap (λ k. k.own) (node_none (forest_by page a) x (get-forest_by_none a page x none)) in
          gone ∙ sym (bare_None (node g x).own (sym (own-map no_page g x) ∙ ap (λ k. (node k x).own) (sym (bare-of a named tells ∙ alike)) ∙ own-map no_page (forest_by page a) x ∙ ap (option_map no_page) gone))

  -- A rule that goes with a change of pages makes forests that are the same without their pages.
  pub bare-rule : (a : Arena) → AreNamesApart a → Tells page a → (r : Forest OwnState → Forest OwnState) (u : Forest (Unit {0}) → Forest (Unit {0})) (s : Forest P → Forest P)
      → ((f : Forest OwnState) → bare (r f) ≡ u (bare f)) → ((f : Forest P) → bare (s f) ≡ u (bare f)) → bare (r (forest_of a)) ≡ bare (s (forest_by page a))
  bare-rule a named tells r u s rs ss = rs (forest_of a) ∙ ap u (sym (bare-of a named tells)) ∙ sym (ss (forest_by page a))

-- From a to b all nodes stay under their names, and each has its page still. Nodes may have been
-- made.
pub record PagesStay {P : Type 0} (page now : NodeId → Option P) (a b : Arena) : Type 0 where
  pub held : (n : NodeId) → HasNode a n → HasNode b n
  pub name : (n : NodeId) → HasNode a n → name_of b n ≡ name_of a n
  pub same : (n : NodeId) → HasNode a n → now n ≡ page n

module _ {P : Type 0} (page now : NodeId → Option P) (a b : Arena) (was : AreNamesApart a) (is : AreNamesApart b) (stay : PagesStay page now a b) (told : Tells now b) where
  -- Where a rule keeps each own page, it is followed with any pages.
  pub lifted-kept : (g : Forest P) → bare (forest_of b) ≡ bare g → ((x : NodeName) → (node g x).own ≡ (node (forest_by page a) x).own) → forest_by now b ≡ g
  lifted-kept g alike kept = lifted now b is told g alike (λ n h. old_or_new n h (is_some (find a n)) refl)
    where
      none_at : (n : NodeId) → (HasNode a n → ⊥) → HasNode b n → (node (forest_by page a) (name_of b n)).own ≡ None
      none_at n out h = ap (λ k. k.own) (node_none (forest_by page a) (name_of b n) (get-forest_by_none a page (name_of b n) (λ m k e.
          out (subst (HasNode a) (is.apart m n (stay.held m k) h (stay.name m k ∙ e)) k))))

      old_or_new : (n : NodeId) → HasNode b n → (t : Bool) → is_some (find a n) ≡ t → now n ≡ (node g (name_of b n)).own
      old_or_new n h true e = stay.same n e ∙ sym (page-at page a was n e) ∙ sym (kept (name_of a n)) ∙ ap (λ x. (node g x).own) (sym (stay.name n e))
      old_or_new n h false e =
          let gone : (node g (name_of b n)).own ≡ None = kept (name_of b n) ∙ none_at n (λ k. false≢true (sym e ∙ k)) h in
          bare_None (now n) (same_bare (now n) (state_page b n) (told n) ∙ sym (ap (option_map no_page) (ap (λ k. k.own) (node-forest_of b is n h)))
          ∙ sym (own-map no_page (forest_of b) (name_of b n)) ∙ ap (λ k. (node k (name_of b n)).own) alike ∙ own-map no_page g (name_of b n) ∙ ap (option_map no_page) gone) ∙ sym gone

-- where links alone were changed
module _ {P : Type 0} (page : NodeId → Option P) (a b : Arena) (named : AreNamesApart a) (tells : Tells page a) (links : Relinked a b) where
  relinked-named : AreNamesApart b
  relinked-named = named-like a b named links.like links.made

  pub lifted-relinked : (r : Forest OwnState → Forest OwnState) (u : Forest (Unit {0}) → Forest (Unit {0})) (s : Forest P → Forest P)
      → ((f : Forest OwnState) → bare (r f) ≡ u (bare f)) → ((f : Forest P) → bare (s f) ≡ u (bare f)) → ((f : Forest P) (x : NodeName) → (node (s f) x).own ≡ (node f x).own)
      → forest_of b ≡ r (forest_of a) → forest_by page b ≡ s (forest_by page a)
  lifted-relinked r u s rs ss kept forest = lifted-kept page page a b named relinked-named
      (record { held = λ n h. links.like.held n ∙ h; name = λ n h. links.like.name n; same = λ n h. refl })
      (λ n. tells n ∙ ap (λ o. is_some (page_of o)) (sym (links.own n)))
      (s (forest_by page a)) (ap bare forest ∙ bare-rule page a named tells r u s rs ss) (kept (forest_by page a))

module _ {P : Type 0} (page now : NodeId → Option P) (a : Arena) (kept : IsKept a) (n : NodeId) (h : HasNode a n) (s : OwnState) where
  -- another own state at a node is another page at its name
  pub own-forest_by : Tells page a → is_some (now n) ≡ is_some (page_of s) → ((m : NodeId) → m ≢ n → now m ≡ page m) → Tells now (with_own a n s)
      → forest_by now (with_own a n s) ≡ edit (forest_by page a) (name_of a n) (with_page (now n))
  own-forest_by tells some others told = lifted now b named told g
      (ap bare (own-forest a kept n h s) ∙ edit-map no_page (forest_of a) x _ (with_page (option_map no_page (now n))) (λ k. ap (λ o. with_page o (map_node no_page k)) (sym (same_bare (now n) (page_of s) some)))
      ∙ ap (λ f. edit f x (with_page (option_map no_page (now n)))) (sym (bare-of page a kept.named tells))
      ∙ sym (edit-map no_page (forest_by page a) x _ (with_page (option_map no_page (now n))) (λ k. refl)))
      (λ m k. elim (id_cases m n) [
        | inl e ↦ ap now e ∙ sym (ap (λ k. k.own) (node-put (forest_by page a) x (with_page (now n) (node (forest_by page a) x)))) ∙ ap (λ y. (node g y).own) (sym (like.name n) ∙ ap (name_of b) (sym e))
        | inr ne ↦
            let was : HasNode a m = sym (like.held m) ∙ k in
            others m ne ∙ sym (page-at page a kept.named m was) ∙ sym (ap (λ k. k.own) (node-put_other (forest_by page a) x (name_of a m) _ (λ e. ne (kept.named.apart m n was h e)))) ∙ ap (λ y. (node g y).own) (sym (like.name m))
      ])
    where
      x : NodeName
      x = name_of a n

      b : Arena
      b = with_own a n s

      g : Forest P
      g = edit (forest_by page a) (name_of a n) (with_page (now n))

      like : Like a (with_own a n s)
      like = like-put a n _ h refl

      named : AreNamesApart (with_own a n s)
      named = named-like a (with_own a n s) kept.named (like-put a n _ h refl) (sym (made-put a n _))

-- a copy that is counted changes no node
pub counted-cell : (a : Arena) (n : ℕ) (m : NodeId) → cell (record a { copies = n }) m ≡ cell a m
unfolding cell
counted-cell a n m = refl

module _ {P : Type 0} (page : NodeId → Option P) (a b : Arena) (named : AreNamesApart a) (tells : Tells page a) (is : b ≡ record a { copies = a.copies + 1 }) where
  pub like_counted : Like a b
  unfolding cell
  like_counted = subst (Like a) (sym is) (record { held = λ m. refl; name = λ m. refl; caches = refl })

  pub counted-by : forest_by page b ≡ count_copy (forest_by page a)
  counted-by = lifted-kept page page a b named
      (named-like a b named like_counted (sym (ap (λ k. k.made) is)))
      (record { held = λ n h. like_counted.held n ∙ h; name = λ n h. like_counted.name n; same = λ n h. refl })
      (λ n. tells n ∙ ap (λ c. is_some (page_of c.own)) (sym (ap (λ k. cell k n) is ∙ counted-cell a (a.copies + 1) n)))
      (count_copy (forest_by page a))
      (ap bare (copied_forest a b is) ∙ bare-rule page a named tells count_copy count_copy count_copy (count_copy-map no_page) (count_copy-map no_page))
      (λ x. ap (λ k. k.own) (node-count_copy (forest_by page a) x))

-- own states that are the same pages are the same
pub same_own : (x y : OwnState) → page_of x ≡ page_of y → x ≡ y
same_own Absent Absent e = refl
same_own Zero Zero e = refl
same_own OnSegment OnSegment e = refl
same_own (Resident c) (Resident d) e = cc e
same_own (Slot s) (Slot t) e = cc e
same_own Absent Zero e = absurd (cc e)
same_own Absent (Resident d) e = absurd (cc e)
same_own Absent (Slot t) e = absurd (cc e)
same_own Absent OnSegment e = absurd (cc e)
same_own Zero Absent e = absurd (cc e)
same_own Zero (Resident d) e = absurd (cc e)
same_own Zero (Slot t) e = absurd (cc e)
same_own Zero OnSegment e = absurd (cc e)
same_own (Resident c) Absent e = absurd (cc e)
same_own (Resident c) Zero e = absurd (cc e)
same_own (Resident c) (Slot t) e = absurd (cc e)
same_own (Resident c) OnSegment e = absurd (cc e)
same_own (Slot s) Absent e = absurd (cc e)
same_own (Slot s) Zero e = absurd (cc e)
same_own (Slot s) (Resident d) e = absurd (cc e)
same_own (Slot s) OnSegment e = absurd (cc e)
same_own OnSegment Absent e = absurd (cc e)
same_own OnSegment Zero e = absurd (cc e)
same_own OnSegment (Resident d) e = absurd (cc e)
same_own OnSegment (Slot t) e = absurd (cc e)
