-- Nodes that go, one after the other, and settle then: their lost pages stay unseen, and at the end
-- there is none.
use Rattle.std.proofs.Common.{◌≡◌, ◌≢◌, ℕ, suc, zero, ◌+◌, ◌⊎◌, List, [], ◌∷◌, length, Bool, true, false, cond, Option, Some, None, is_some, refl, ap, subst, ◌∙◌, inl, inr, arith}
use Rattle.std.specs.Option.{IsSome}
use Rattle.vm_ids.specs.declared.node_name.NodeName.{NodeName}
use Rattle.vm_ids.specs.Forest.Names.{Live, Working, same}
use Rattle.vm_ids.specs.Forest.NameLists.{◌∈◌, swapped}
use Rattle.vm_ids.specs.Forest.NameMap.{len}
use Rattle.vm_ids.specs.Forest.Nodes.{Forest, node, parent_of, child_count, is_live, IsNode}
use Rattle.vm_ids.specs.Forest.Shape.{IsConsistent, IsLinked}
use Rattle.vm_ids.specs.Forest.PageMap.{map_entries}
use Rattle.vm_ids.specs.Forest.Changes.{free, cut, set_tree, rename, count_working}
use Rattle.vm_ids.specs.Forest.Rules.{retire, detach, link, copy_page, move_page}
use Rattle.vm_ids.specs.Forest.Settling.{thin, settle_step, settle_within, settle}
use Rattle.vm_ids.specs.Forest.Commands.{firsts, copy_pages, move_pages, replace_pages, retire_all}
use Rattle.vm_ids.specs.Forest.Laws.Commands.{ArePagesOnce, CanCopy}
use Rattle.vm_ids.specs.Forest.Laws.Linking.{ArePages}
use Rattle.vm_ids.proofs.Forest.Names.{name_cases}
use Rattle.vm_ids.proofs.Forest.NodesAfter.{put-IsNode}
use Rattle.vm_ids.proofs.Forest.Fitting.{IsNode-own}
use Rattle.vm_ids.proofs.Forest.LinkingOver.{node-none}
use Rattle.vm_ids.proofs.Forest.Detaching.{swapped_a, swapped_b, swapped_other}
use Rattle.vm_ids.proofs.Forest.OneDetached.{next_free, gone, retired, retire-consistent, detach-shaped_but, detach-consistent}
use Rattle.vm_ids.proofs.Forest.OnePage.{copy_page-consistent, copy_page-value, move_page-consistent}
use Rattle.vm_ids.proofs.Forest.SettleStep.{none_in}
use Rattle.vm_ids.proofs.Forest.Laws.Settling.{step_keeps_consistency, settle_keeps_consistency, settle_settles}
use Rattle.vm_ids.proofs.Forest.Laws.Copying.{first_pages, later_can, still_can, still_pages}
use Rattle.vm_ids.proofs.Forest.Laws.Commands.{later_pages}
use Rattle.vm_ids.proofs.Forest.Moving.{move_page_stays}
use Rattle.vm_ids.proofs.Forest.Paths.{IsNode-value}
use Rattle.vm_ids.specs.Forest.Reading.{value_of}
use Rattle.vm_ids.proofs.Forest.LostPages.{is_lost, IsLost, not_lost}
use Rattle.vm_ids.proofs.Forest.Unseen.{IsUnseen, covered, covers_on, count_working-covers, cut-covers, free-covers, fresh-covers, rename-unseen, set_tree-covers, settle_step-unseen, stub-covers}

-- a node of the list, or a working node
abbrev pub IsGoing : List NodeName → NodeName → Type 0
IsGoing xs x = (x ∈ xs) ⊎ (is_live x ≡ false)

module _ {P : Type 0} where
  nothing_lost : (f : Forest (P × Bool)) (x : NodeName) → (IsNode f x → ⊥) → IsLost f x → ⊥
  nothing_lost f x out l = cc (l, ap (λ n. is_lost n.own) (node-none f x out))

  -- a node that is gone needn't go
  gone-unseen : (f : Forest (P × Bool)) (x : NodeName) (xs : List NodeName) → (IsNode f x → ⊥) → IsUnseen f (IsGoing (x ∷ xs)) → IsUnseen f (IsGoing xs)
  gone-unseen f x xs out u = record {
    place = λ y l. elim (u.place y l) [
      | inl i ↦ elim i [ inl e ↦ absurd (nothing_lost f x out (subst (IsLost f) e l)) | inr j ↦ inl j ]
      | inr w ↦ inr w
    ];
    few = u.few;
    owned = u.owned;
  }

  module _ (f : Forest (P × Bool)) (c : IsConsistent f) (x : NodeName) (is : IsNode f x) (live : is_live x ≡ true) (xs : List NodeName) (u : IsUnseen f (IsGoing (x ∷ xs))) where
    renamed-unseen : IsUnseen (rename f x (Working (f.made + 1))) (IsGoing (x ∷ xs))
    renamed-unseen = rename-unseen f x (Working (f.made + 1)) u (λ y l going. elim (name_cases y x) [
      | inl e ↦ inl (inl e)
      | inr a ↦ elim (name_cases y (Working (f.made + 1))) [
        | inl e ↦ inr (ap is_live e)
        | inr b ↦ subst (IsGoing (x ∷ xs)) (swapped_other x (Working (f.made + 1)) y a b) going
      ]
    ])

    still-unseen : IsUnseen (retire f x) (IsGoing (x ∷ xs))
    unfolding retire
    still-unseen = go (child_count f x)
      where
        go : (n : ℕ) → IsUnseen (elim n [ zero ↦ free (cut f x) x | suc n ↦ count_working (rename f x (Working (f.made + 1))) ]) (IsGoing (x ∷ xs))
        go zero = covered f _ (covers_on f (cut f x) _ (cut-covers f x) (free-covers (cut f x) x)) u
        go (suc n) = covered _ _ (count_working-covers (rename f x (Working (f.made + 1)))) renamed-unseen

    pub retire-unseen : IsUnseen (retire f x) (IsGoing xs)
    retire-unseen = gone-unseen (retire f x) x xs (gone f c x is live) still-unseen

  detach-unseen : (f : Forest (P × Bool)) (c : IsConsistent f) (x : NodeName) (is : IsNode f x) (live : is_live x ≡ true) (xs : List NodeName) → IsUnseen f (IsGoing (x ∷ xs))
      → (o : Option (P × Bool)) → is_lost o ≡ false → IsUnseen (detach f x o) (IsGoing xs)
  unfolding detach
  detach-unseen f c x is live xs u o kept = covered (retire f x) _ (fresh-covers (retire f x) x o kept) (retire-unseen f c x is live xs u)

  detach_stays : (f : Forest (P × Bool)) (c : IsConsistent f) (x : NodeName) (is : IsNode f x) (live : is_live x ≡ true) (o : Option (P × Bool)) (y : NodeName) → y ≢ x → IsNode f y → IsNode (detach f x o) y
  unfolding detach
  detach_stays f c x is live o y apart is_y = put-IsNode (retire f x) x y _ ((retired f c x is live).stays y is_y apart)

  -- the page of a live node that doesn't go isn't lost
  source_kept : (f : Forest (P × Bool)) (xs : List NodeName) (s : NodeName) → IsUnseen f (IsGoing xs) → is_live s ≡ true → (s ∈ xs → ⊥) → IsLost f s → ⊥
  source_kept f xs s u live out l = elim (u.place s l) [ inl i ↦ out i | inr working ↦ cc (live, working) ]

  link-unseen : (f : Forest (P × Bool)) (xs : List NodeName) (d s : NodeName) → IsUnseen f (IsGoing xs) → (IsLost f s → ⊥) → (IsNode f (Working (f.made + 1)) → ⊥) → IsUnseen (link f d s) (IsGoing xs)
  unfolding link
  link-unseen f xs d s u kept fresh = go (node f s).tree
    where
      go : (ts : List NodeName) → IsUnseen (elim ts [
        | [] ↦ set_tree f s (d ∷ [])
        | h ∷ _ ↦ let w = Working (f.made + 1) in count_working (set_tree (set_tree f s (w ∷ [])) w (h ∷ d ∷ []))
      ]) (IsGoing xs)
      go [] = covered f _ (set_tree-covers f s (d ∷ []) kept) u
      go (h ∷ rest) =
          let w = Working (f.made + 1) in
          let f1 = set_tree f s (w ∷ []) in
          let f2 = set_tree f1 w (h ∷ d ∷ []) in
          let k1 = set_tree-covers f s (w ∷ []) kept in
          let k2 = set_tree-covers f1 w (h ∷ d ∷ []) (λ l. nothing_lost f w fresh (k1.lost w l)) in
          covered f _ (covers_on f f1 _ k1 (covers_on f1 f2 _ k2 (count_working-covers f2))) u

  either_some : (b : Bool) (o p : Option (P × Bool)) → IsSome o → IsSome p → IsSome (cond b o p)
  either_some true o p some other = some
  either_some false o p some other = other

  -- one page of a copy or a move, from s to d
  module _ (f : Forest (P × Bool)) (c : IsConsistent f) (d s : NodeName) (pages : ArePages f d s) where
    copy_page_stays : (is_small : Bool) (y : NodeName) → is_live y ≡ true → IsNode f y → IsNode (copy_page is_small f d s) y
    copy_page_stays is_small y live is =
        let has : (z : NodeName) → IsNode f z → IsSome (value_of f z) = λ z is_z. (IsNode-value f c.shaped z).0 is_z in
        (IsNode-value (copy_page is_small f d s) (copy_page-consistent f c d s pages is_small).shaped y).1
        (ap is_some (copy_page-value f c d s pages is_small y live) ∙ either_some (same y d) (value_of f s) (value_of f y) (has s pages.source) (has y is))

    module _ (xs : List NodeName) (u : IsUnseen f (IsGoing (d ∷ xs))) (out : s ∈ xs → ⊥) where
      detached : IsUnseen (detach f d None) (IsGoing xs)
      detached = detach-unseen f c d pages.destination pages.live_destination xs u None refl

      copy_page-unseen : (is_small : Bool) → IsUnseen (copy_page is_small f d s) (IsGoing xs)
      copy_page-unseen true = covered (detach f d None) _ (stub-covers (detach f d None) d s (source_kept (detach f d None) xs s detached pages.live_source out)) detached
      copy_page-unseen false = link-unseen (detach f d None) xs d s detached (source_kept (detach f d None) xs s detached pages.live_source out)
          (next_free (detach f d None) (detach-shaped_but f c d pages.destination pages.live_destination).counted)

      move_page-unseen : (zeros : P) → IsUnseen (move_page f d s (not_lost zeros)) (IsGoing xs)
      move_page-unseen zeros = covered moved _ (fresh-covers moved s (Some (not_lost zeros)) refl) (rename-unseen bare s d bare_unseen (λ y l going. elim (name_cases y s) [
        | inl e ↦ absurd (nothing_lost bare d (gone f c d pages.destination pages.live_destination) (subst (IsLost bare) (ap (swapped s d) e ∙ swapped_a s d) l))
        | inr a ↦ elim (name_cases y d) [
          | inl e ↦ absurd (source_kept bare xs s bare_unseen pages.live_source out (subst (IsLost bare) (ap (swapped s d) e ∙ swapped_b s d pages.apart) l))
          | inr b ↦ subst (IsGoing xs) (swapped_other s d y a b) going
        ]
      ]))
        where
          bare : Forest (P × Bool)
          bare = retire f d

          moved : Forest (P × Bool)
          moved = rename bare s d

          bare_unseen : IsUnseen bare (IsGoing xs)
          bare_unseen = retire-unseen f c d pages.destination pages.live_destination xs u

  pub retire_all-unseen : (xs : List NodeName) (f : Forest (P × Bool)) → IsConsistent f → ArePagesOnce f xs → IsUnseen f (IsGoing xs) → IsConsistent (retire_all xs f) × IsUnseen (retire_all xs f) (IsGoing [])
  retire_all-unseen [] f c are u = (c, u)
  retire_all-unseen (x ∷ xs) f c are u =
      let at = are.live x (inl refl) in
      let stays : (y : NodeName) → y ∈ xs → IsNode f y → IsNode (retire f x) y = λ y i is. (retired f c x at.0 at.1).stays y is (λ q. are.once.0 (subst (λ z. z ∈ xs) q i)) in
      retire_all-unseen xs (retire f x) (retire-consistent f c x at.0 at.1) (still_pages f (retire f x) xs stays (later_pages f x xs are)) (retire-unseen f c x at.0 at.1 xs u)

  pub copy_pages-unseen : (is_small : Bool) (pairs : List (NodeName × NodeName)) (f : Forest (P × Bool)) → IsConsistent f → CanCopy f pairs → IsUnseen f (IsGoing (firsts pairs))
      → IsConsistent (copy_pages is_small pairs f) × IsUnseen (copy_pages is_small pairs f) (IsGoing [])
  copy_pages-unseen is_small [] f c can u = (c, u)
  copy_pages-unseen is_small (e ∷ es) f c can u =
      let pages = first_pages f e es can in
      let g = copy_page is_small f e.0 e.1 in
      copy_pages-unseen is_small es g (copy_page-consistent f c e.0 e.1 pages is_small) (still_can f g es (copy_page_stays f c e.0 e.1 pages is_small) (later_can f e es can))
      (copy_page-unseen f c e.0 e.1 pages (firsts es) u (λ i. (can.sources e.1 (inl refl)).2 (inr i)) is_small)

  pub move_pages-unseen : (zeros : P) (pairs : List (NodeName × NodeName)) (f : Forest (P × Bool)) → IsConsistent f → CanCopy f pairs → IsUnseen f (IsGoing (firsts pairs))
      → IsConsistent (move_pages (not_lost zeros) pairs f) × IsUnseen (move_pages (not_lost zeros) pairs f) (IsGoing [])
  move_pages-unseen zeros [] f c can u = (c, u)
  move_pages-unseen zeros (e ∷ es) f c can u =
      let pages = first_pages f e es can in
      let g = move_page f e.0 e.1 (not_lost zeros) in
      move_pages-unseen zeros es g (move_page-consistent f c e.0 e.1 pages (not_lost zeros)) (still_can f g es (λ y live is. move_page_stays f c e.0 e.1 pages (not_lost zeros) y is) (later_can f e es can))
      (move_page-unseen f c e.0 e.1 pages (firsts es) u (λ i. (can.sources e.1 (inl refl)).2 (inr i)) zeros)

  pub replace_pages-unseen : (pages : List (NodeName × P)) (f : Forest (P × Bool)) → IsConsistent f → ArePagesOnce f (firsts pages) → IsUnseen f (IsGoing (firsts pages))
      → IsConsistent (replace_pages (map_entries not_lost pages) f) × IsUnseen (replace_pages (map_entries not_lost pages) f) (IsGoing [])
  replace_pages-unseen [] f c are u = (c, u)
  replace_pages-unseen (e ∷ es) f c are u =
      let at = are.live e.0 (inl refl) in
      let new = Some (not_lost e.1) in
      let g = detach f e.0 new in
      let stays : (y : NodeName) → y ∈ firsts es → IsNode f y → IsNode g y = λ y i is. detach_stays f c e.0 at.0 at.1 new y (λ q. are.once.0 (subst (λ z. z ∈ firsts es) q i)) is in
      replace_pages-unseen es g (detach-consistent f c e.0 at.0 at.1 (not_lost e.1)) (still_pages f g (firsts es) stays (later_pages f e.0 (firsts es) are)) (detach-unseen f c e.0 at.0 at.1 (firsts es) u new refl)

  -- Settle

  within-unseen : {May : NodeName → Type 0} (n : ℕ) (f : Forest (P × Bool)) → IsConsistent f → IsUnseen f May → IsUnseen (settle_within n f) May
  unfolding settle_within
  within-unseen zero f c u = u
  within-unseen {May} (suc n) f c u = go (thin f) refl (λ g k v. within-unseen n g k v)
    where
      go : (o : Option NodeName) → thin f ≡ o → ((g : Forest (P × Bool)) → IsConsistent g → IsUnseen g May → IsUnseen (settle_within n g) May) → IsUnseen (elim o [ None ↦ f | Some w ↦ settle_within n (settle_step f w) ]) May
      go None e more = u
      go (Some w) e more = more (settle_step f w) (step_keeps_consistency f w c e) (settle_step-unseen f c.shaped.linked w u)

  settle-unseen : {May : NodeName → Type 0} (f : Forest (P × Bool)) → IsConsistent f → IsUnseen f May → IsUnseen (settle f) May
  unfolding settle
  settle-unseen f c u = within-unseen (len f.nodes) f c u

  -- A working node that settle leaves has two children, and so either a stub, which has no own
  -- page, or two tree children.
  pub all_seen : (f : Forest (P × Bool)) → IsConsistent f × IsUnseen f (IsGoing []) → (x : NodeName) → IsLost (settle f) x → ⊥
  all_seen f k x l = elim (u.place x l) [ inl i ↦ i | inr working ↦ two x l working ]
    where
      u : IsUnseen (settle f) (IsGoing [])
      u = settle-unseen f k.0 k.1

      linked : IsLinked (settle f)
      linked = (settle_keeps_consistency f k.0).shaped.linked

      no_stub : (x : NodeName) → IsLost (settle f) x → (z : NodeName) → z ∈ (node (settle f) x).stubs → ⊥
      no_stub x l z i =
          let up = (linked.stub_links z x).0 i in
          cc (u.owned x z l (ap parent_of up), ap is_some (linked.stub_bare z x up))

      is_node : (x : NodeName) (o : Option (P × Bool)) → (node (settle f) x).own ≡ o → is_lost o ≡ true → IsNode (settle f) x
      is_node x None e l = absurd (cc l)
      is_node x (Some v) e l = IsNode-own (settle f) x v e

      two : (x : NodeName) → IsLost (settle f) x → is_live x ≡ false → ⊥
      two (Live c p) l working = cc working
      two (Working n) l working =
          let many = settle_settles f k.0 n (is_node (Working n) _ refl l) in
          let few = u.few (Working n) l in
          let none = ap length (none_in (node (settle f) (Working n)).stubs (no_stub (Working n) l)) in
          absurd (omega arith)
