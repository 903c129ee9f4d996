-- A page that is its node's alone stays so through whole commands that neither replace it nor give
-- it an heir.
use Rattle.std.proofs.Common.{◌≡◌, ◌≢◌, List, [], ◌∷◌, length, Bool, true, false, leb, refl, sym, ap, subst, ◌∙◌}
use Rattle.vm_ids.specs.declared.node_name.NodeName.{NodeName}
use Rattle.vm_ids.specs.Forest.NameLists.{◌∈◌}
use Rattle.vm_ids.specs.Forest.Nodes.{Forest, is_live}
use Rattle.vm_ids.specs.Forest.Shape.{IsConsistent}
use Rattle.vm_ids.specs.Forest.PageMap.{map_entries, map_pages}
use Rattle.vm_ids.specs.Forest.Settling.{settle}
use Rattle.vm_ids.specs.Forest.Commands.{copy, copy_pages, destroy, firsts, move_, move_pages, replace_pages, retire_all, seconds, small_copy}
use Rattle.vm_ids.specs.Forest.Laws.Commands.{ArePagesOnce, CanCopy}
use Rattle.vm_ids.proofs.Forest.Laws.Copying.{copy_pages-facts}
use Rattle.vm_ids.proofs.Forest.Laws.Commands.{retire_all-facts}
use Rattle.vm_ids.proofs.Forest.Laws.PageMap.{copy_goes_with_pages, destroy_goes_with_pages, move_goes_with_pages, replace_pages-map, settle_goes_with_pages}
use Rattle.vm_ids.proofs.Forest.Laws.Settling.{settle_keeps_consistency}
use Rattle.vm_ids.proofs.Forest.LostPages.{as_it_was, not_lost}
use Rattle.page_commands.proofs.Alone.Marked.{HasAlone, found-alone, told, told-IsNode, told-as_it_was, told-consistent, told-pages, told-unread}
use Rattle.page_commands.proofs.Alone.Outside.{copy_outside, destroy_outside, move_outside, moved_outside, replace_outside, replaced_outside}
use Rattle.page_commands.proofs.Alone.Unread.{copy_pages-unread, move_pages-unread, replace_pages-unread, retire_all-unread, settle-unread}

module _ {P : Type 0} (f : Forest P) (c : IsConsistent f) (x : NodeName) (live : is_live x ≡ true) (alone : HasAlone f x) (p q : P) (apart : p ≢ q) where
  abbrev marks : Forest (P × Bool)
  marks = told f c x live alone p q apart

  consistent : IsConsistent (told f c x live alone p q apart)
  consistent = told-consistent f c x live alone p q apart

  marks_are : map_pages as_it_was (told f c x live alone p q apart) ≡ f
  marks_are = told-as_it_was f c x live alone p q apart

  marks_can : (pairs : List (NodeName × NodeName)) → CanCopy f pairs → CanCopy (told f c x live alone p q apart) pairs
  marks_can pairs can = record {
    destinations = told-pages f c x live alone p q apart (firsts pairs) can.destinations;
    sources = λ s i. let k = can.sources s i in (told-IsNode f c x live alone p q apart s ∙ k.0, k.1, k.2);
  }

  pub copy-alone : (pairs : List (NodeName × NodeName)) → CanCopy f pairs → (x ∈ firsts pairs → ⊥) → (x ∈ seconds pairs → ⊥) → HasAlone (copy false pairs f) x
  copy-alone pairs can out none =
      let small = leb (length pairs) small_copy in
      let done = copy_pages-facts small pairs marks consistent (marks_can pairs can) in
      found-alone f c x live alone p q apart (copy false pairs marks) (settle_keeps_consistency (copy_pages small pairs marks) done.0).shaped.linked
      (settle-unread x live (copy_pages small pairs marks) done.0 (copy_pages-unread x live small pairs marks out none (told-unread f c x live alone p q apart)))
      (copy_outside x live pairs marks consistent (marks_can pairs can) out) (copy false pairs f) (copy_goes_with_pages as_it_was false pairs marks ∙ ap (copy false pairs) marks_are)

  pub move-alone : (zeros : P) (pairs : List (NodeName × NodeName)) → CanCopy f pairs → (x ∈ firsts pairs → ⊥) → (x ∈ seconds pairs → ⊥) → HasAlone (move_ false zeros pairs f) x
  move-alone zeros pairs can out none =
      let done = moved_outside x live (not_lost zeros) pairs marks consistent (marks_can pairs can) out none in
      found-alone f c x live alone p q apart (move_ false (not_lost zeros) pairs marks) (settle_keeps_consistency (move_pages (not_lost zeros) pairs marks) done.0).shaped.linked
      (settle-unread x live (move_pages (not_lost zeros) pairs marks) done.0 (move_pages-unread x live zeros pairs marks out none (told-unread f c x live alone p q apart)))
      (move_outside x live (not_lost zeros) pairs marks consistent (marks_can pairs can) out none) (move_ false zeros pairs f) (move_goes_with_pages as_it_was false (not_lost zeros) pairs marks ∙ ap (move_ false zeros pairs) marks_are)

  pub destroy-alone : (xs : List NodeName) → ArePagesOnce f xs → (x ∈ xs → ⊥) → HasAlone (destroy false xs f) x
  destroy-alone xs are out =
      let pages = told-pages f c x live alone p q apart xs are in
      let done = retire_all-facts xs marks consistent pages in
      found-alone f c x live alone p q apart (destroy false xs marks) (settle_keeps_consistency (retire_all xs marks) done.0).shaped.linked
      (settle-unread x live (retire_all xs marks) done.0 (retire_all-unread x live xs marks out (told-unread f c x live alone p q apart)))
      (destroy_outside x live xs marks consistent pages out) (destroy false xs f) (destroy_goes_with_pages as_it_was false xs marks ∙ ap (destroy false xs) marks_are)

  again : (pages : List (NodeName × P)) → map_entries as_it_was (map_entries not_lost pages) ≡ pages
  again [] = refl
  again (e ∷ es) = ap (λ xs. e ∷ xs) (again es)

  marked_names : (pages : List (NodeName × P)) → firsts (map_entries not_lost pages) ≡ firsts pages
  marked_names [] = refl
  marked_names (e ∷ es) = ap (λ xs. e.0 ∷ xs) (marked_names es)

  pub replace-alone : (pages : List (NodeName × P)) → ArePagesOnce f (firsts pages) → (x ∈ firsts pages → ⊥) → HasAlone (settle (replace_pages pages f)) x
  replace-alone pages are out =
      let names = marked_names pages in
      let on = map_entries not_lost pages in
      let there = subst (ArePagesOnce marks) (sym names) (told-pages f c x live alone p q apart (firsts pages) are) in
      let away = λ (i : x ∈ firsts on). out (subst (λ xs. x ∈ xs) names i) in
      let done = replaced_outside x live on marks consistent there away in
      found-alone f c x live alone p q apart (settle (replace_pages on marks)) (settle_keeps_consistency (replace_pages on marks) done.0).shaped.linked
      (settle-unread x live (replace_pages on marks) done.0 (replace_pages-unread x live pages marks out (told-unread f c x live alone p q apart)))
      (replace_outside x live on marks consistent there away) (settle (replace_pages pages f))
      (settle_goes_with_pages as_it_was (replace_pages on marks) ∙ ap settle (replace_pages-map as_it_was on marks ∙ ap (λ es. replace_pages es (map_pages as_it_was marks)) (again pages) ∙ ap (replace_pages pages) marks_are))
