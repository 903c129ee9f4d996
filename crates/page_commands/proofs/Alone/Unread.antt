-- A page that nobody reads through, marked, and what the rules leave of it: no page but that of x
-- is marked, and nobody reads through x.
use Rattle.std.proofs.Common.{◌≡◌, ◌≢◌, ℕ, suc, zero, ◌+◌, List, [], ◌∷◌, Bool, true, false, Option, Some, None, refl, sym, ap, ◌∙◌, inl, inr}
use Rattle.vm_ids.specs.declared.node_name.NodeName.{NodeName}
use Rattle.vm_ids.specs.declared.node_name.NodeName.TheVariants.{Working}
use Rattle.vm_ids.specs.Forest.NameLists.{◌∈◌, swapped}
use Rattle.vm_ids.specs.Forest.NameMap.{len}
use Rattle.vm_ids.specs.Forest.Nodes.{Forest, child_count, is_live, node}
use Rattle.vm_ids.specs.Forest.Shape.{IsConsistent}
use Rattle.vm_ids.specs.Forest.PageMap.{map_entries}
use Rattle.vm_ids.specs.Forest.Changes.{count_working, cut, free, rename, set_tree}
use Rattle.vm_ids.specs.Forest.Rules.{copy_page, detach, link, move_page, retire}
use Rattle.vm_ids.specs.Forest.Settling.{settle, settle_step, settle_within, thin}
use Rattle.vm_ids.specs.Forest.Commands.{copy_pages, firsts, move_pages, replace_pages, retire_all, seconds}
use Rattle.vm_ids.proofs.Forest.Detaching.{swapped_other}
use Rattle.vm_ids.proofs.Forest.Renaming.{back}
use Rattle.vm_ids.proofs.Forest.Laws.Settling.{step_keeps_consistency}
use Rattle.vm_ids.proofs.Forest.LostPages.{IsLost, is_lost, not_lost}
use Rattle.vm_ids.proofs.Forest.Unseen.{IsUnseen, count_working-covers, covered, covers_on, cut-covers, free-covers, fresh-covers, rename-unseen, set_tree-covers, settle_step-unseen, stub-covers}

-- x stays, where two other names change places
swapped_only : (x a b y : NodeName) → a ≢ x → b ≢ x → swapped a b y ≡ x → y ≡ x
swapped_only x a b y p q e = sym (back a b y) ∙ ap (swapped a b) e ∙ swapped_other a b x (λ r. p (sym r)) (λ r. q (sym r))

no_working : (x : NodeName) → is_live x ≡ true → (k : ℕ) → Working k ≢ x
no_working x live k e = cc (live, ap is_live e)

module _ {P : Type 0} (x : NodeName) (live : is_live x ≡ true) where
  -- the page of another node isn't marked
  other_kept : (f : Forest (P × Bool)) → IsUnseen f (λ y. y ≡ x) → (y : NodeName) → y ≢ x → IsLost f y → ⊥
  other_kept f u y apart l = apart (u.place y l)

  -- The rules for one page of another name

  retire-unread : (f : Forest (P × Bool)) (y : NodeName) → y ≢ x → IsUnseen f (λ z. z ≡ x) → IsUnseen (retire f y) (λ z. z ≡ x)
  unfolding retire
  retire-unread f y apart u = go (child_count f y)
    where
      go : (n : ℕ) → IsUnseen (elim n [ zero ↦ free (cut f y) y | suc n ↦ count_working (rename f y (Working (f.made + 1))) ]) (λ z. z ≡ x)
      go zero = covered f _ (covers_on f (cut f y) _ (cut-covers f y) (free-covers (cut f y) y)) u
      go (suc n) = covered _ _ (count_working-covers (rename f y (Working (f.made + 1))))
          (rename-unseen f y (Working (f.made + 1)) u (λ z l going. swapped_only x y (Working (f.made + 1)) z apart (no_working x live (f.made + 1)) going))

  detach-unread : (f : Forest (P × Bool)) (y : NodeName) (o : Option (P × Bool)) → is_lost o ≡ false → y ≢ x → IsUnseen f (λ z. z ≡ x) → IsUnseen (detach f y o) (λ z. z ≡ x)
  unfolding detach
  detach-unread f y o kept apart u = covered (retire f y) _ (fresh-covers (retire f y) y o kept) (retire-unread f y apart u)

  link-unread : (f : Forest (P × Bool)) (d s : NodeName) → s ≢ x → IsUnseen f (λ z. z ≡ x) → IsUnseen (link f d s) (λ z. z ≡ x)
  unfolding link
  link-unread f d s apart u = go (node f s).tree
    where
      go : (ts : List NodeName) → IsUnseen (elim ts [
        | [] ↦ set_tree f s (d ∷ [])
        | h ∷ _ ↦ let w = Working (f.made + 1) in count_working (set_tree (set_tree f s (w ∷ [])) w (h ∷ d ∷ []))
      ]) (λ z. z ≡ x)
      go [] = covered f _ (set_tree-covers f s (d ∷ []) (other_kept f u s apart)) u
      go (h ∷ rest) =
          let w = Working (f.made + 1) in
          let f1 = set_tree f s (w ∷ []) in
          let f2 = set_tree f1 w (h ∷ d ∷ []) in
          let k1 = set_tree-covers f s (w ∷ []) (other_kept f u s apart) in
          let k2 = set_tree-covers f1 w (h ∷ d ∷ []) (λ l. other_kept f u w (no_working x live (f.made + 1)) (k1.lost w l)) in
          covered f _ (covers_on f f1 _ k1 (covers_on f1 f2 _ k2 (count_working-covers f2))) u

  copy_page-unread : (f : Forest (P × Bool)) (d s : NodeName) → d ≢ x → s ≢ x → IsUnseen f (λ z. z ≡ x) → (is_small : Bool) → IsUnseen (copy_page is_small f d s) (λ z. z ≡ x)
  copy_page-unread f d s apart other u true = let v = detach-unread f d None refl apart u in covered (detach f d None) _ (stub-covers (detach f d None) d s (other_kept (detach f d None) v s other)) v
  copy_page-unread f d s apart other u false = link-unread (detach f d None) d s other (detach-unread f d None refl apart u)

  move_page-unread : (f : Forest (P × Bool)) (d s : NodeName) → d ≢ x → s ≢ x → IsUnseen f (λ z. z ≡ x) → (zeros : P) → IsUnseen (move_page f d s (not_lost zeros)) (λ z. z ≡ x)
  move_page-unread f d s apart other u zeros =
      covered (rename (retire f d) s d) _ (fresh-covers (rename (retire f d) s d) s (Some (not_lost zeros)) refl)
      (rename-unseen (retire f d) s d (retire-unread f d apart u) (λ z l going. swapped_only x s d z other apart going))

  -- The rules for many pages

  pub retire_all-unread : (xs : List NodeName) (f : Forest (P × Bool)) → (x ∈ xs → ⊥) → IsUnseen f (λ z. z ≡ x) → IsUnseen (retire_all xs f) (λ z. z ≡ x)
  retire_all-unread [] f out u = u
  retire_all-unread (y ∷ ys) f out u = retire_all-unread ys (retire f y) (λ i. out (inr i)) (retire-unread f y (λ e. out (inl (sym e))) u)

  pub copy_pages-unread : (is_small : Bool) (pairs : List (NodeName × NodeName)) (f : Forest (P × Bool)) → (x ∈ firsts pairs → ⊥) → (x ∈ seconds pairs → ⊥) → IsUnseen f (λ z. z ≡ x) → IsUnseen (copy_pages is_small pairs f) (λ z. z ≡ x)
  copy_pages-unread is_small [] f out none u = u
  copy_pages-unread is_small (e ∷ es) f out none u =
      copy_pages-unread is_small es (copy_page is_small f e.0 e.1) (λ i. out (inr i)) (λ i. none (inr i)) (copy_page-unread f e.0 e.1 (λ q. out (inl (sym q))) (λ q. none (inl (sym q))) u is_small)

  pub move_pages-unread : (zeros : P) (pairs : List (NodeName × NodeName)) (f : Forest (P × Bool)) → (x ∈ firsts pairs → ⊥) → (x ∈ seconds pairs → ⊥) → IsUnseen f (λ z. z ≡ x) → IsUnseen (move_pages (not_lost zeros) pairs f) (λ z. z ≡ x)
  move_pages-unread zeros [] f out none u = u
  move_pages-unread zeros (e ∷ es) f out none u =
      move_pages-unread zeros es (move_page f e.0 e.1 (not_lost zeros)) (λ i. out (inr i)) (λ i. none (inr i)) (move_page-unread f e.0 e.1 (λ q. out (inl (sym q))) (λ q. none (inl (sym q))) u zeros)

  pub replace_pages-unread : (pages : List (NodeName × P)) (f : Forest (P × Bool)) → (x ∈ firsts pages → ⊥) → IsUnseen f (λ z. z ≡ x) → IsUnseen (replace_pages (map_entries not_lost pages) f) (λ z. z ≡ x)
  replace_pages-unread [] f out u = u
  replace_pages-unread (e ∷ es) f out u =
      replace_pages-unread es (detach f e.0 (Some (not_lost e.1))) (λ i. out (inr i)) (detach-unread f e.0 (Some (not_lost e.1)) refl (λ q. out (inl (sym q))) u)

  -- Settle

  within-unread : (n : ℕ) (f : Forest (P × Bool)) → IsConsistent f → IsUnseen f (λ z. z ≡ x) → IsUnseen (settle_within n f) (λ z. z ≡ x)
  unfolding settle_within
  within-unread zero f c u = u
  within-unread (suc n) f c u = go (thin f) refl (λ g k v. within-unread n g k v)
    where
      go : (o : Option NodeName) → thin f ≡ o → ((g : Forest (P × Bool)) → IsConsistent g → IsUnseen g (λ z. z ≡ x) → IsUnseen (settle_within n g) (λ z. z ≡ x)) → IsUnseen (elim o [ None ↦ f | Some w ↦ settle_within n (settle_step f w) ]) (λ z. z ≡ x)
      go None e more = u
      go (Some w) e more = more (settle_step f w) (step_keeps_consistency f w c e) (settle_step-unseen f c.shaped.linked w u)

  pub settle-unread : (f : Forest (P × Bool)) → IsConsistent f → IsUnseen f (λ z. z ≡ x) → IsUnseen (settle f) (λ z. z ≡ x)
  unfolding settle
  settle-unread f c u = within-unread (len f.nodes) f c u
