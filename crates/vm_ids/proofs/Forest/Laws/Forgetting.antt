-- What a page holds that is about to go isn't seen.
use Rattle.std.proofs.Common.{◌≡◌, ◌≤◌, List, [], ◌∷◌, length, Bool, true, false, ◌&&◌, Option, Some, None, is_some, leb, refl, sym, ap, subst, ◌∙◌, inl, inr, arith}
use Rattle.std.specs.Option.{IsSome}
use Rattle.vm_ids.specs.declared.node_name.NodeName.{NodeName}
use Rattle.vm_ids.specs.Forest.Names.{Working}
use Rattle.vm_ids.specs.Forest.NameLists.{◌∈◌}
use Rattle.vm_ids.specs.Forest.NameMap.{contains_key}
use Rattle.vm_ids.specs.Forest.Nodes.{Forest, node, parent}
use Rattle.vm_ids.specs.Forest.Shape.{IsConsistent, IsWellShaped}
use Rattle.vm_ids.specs.Forest.PageMap.{map_entries, map_pages}
use Rattle.vm_ids.specs.Forest.Rules.{heir}
use Rattle.vm_ids.specs.Forest.Settling.{settle}
use Rattle.vm_ids.specs.Forest.Saving.{is_unsaved, save_range}
use Rattle.vm_ids.specs.Forest.Forgetting.{forgotten}
use Rattle.vm_ids.specs.Forest.Commands.{copy, copy_pages, destroy, firsts, move_, move_pages, replace_pages, retire_all, small_copy}
use Rattle.vm_ids.specs.Forest.Laws.Commands.{ArePagesOnce, CanCopy}
use Rattle.vm_ids.specs.Forest.Laws.Forgetting.{CopyForgets, DestroyForgets, InvalidateForgets, MoveForgets}
use Rattle.vm_ids.proofs.Forest.BareShape.{IsNode-map, map-shaped}
use Rattle.vm_ids.proofs.Forest.PageMap.{made-map}
use Rattle.vm_ids.proofs.Forest.Detaching.{live_most}
use Rattle.vm_ids.proofs.Forest.Writing.{ReadsNot-no_heir}
use Rattle.vm_ids.proofs.Forest.Saving.{saved-consistent, save_range_ends}
use Rattle.vm_ids.proofs.Forest.Laws.Copying.{saved_stays, still_can, still_pages}
use Rattle.vm_ids.proofs.Forest.Laws.PageMap.{copy_goes_with_pages, destroy_goes_with_pages, is_unsaved-map, move_goes_with_pages, replace_pages-map, settle_goes_with_pages}
use Rattle.vm_ids.proofs.Forest.Going.{IsGoing, all_seen, copy_pages-unseen, move_pages-unseen, replace_pages-unseen, retire_all-unseen}
use Rattle.vm_ids.proofs.Forest.LostPages.{lost_is_there, IsLost, not_lost, as_it_was, or_else, marked, marked-as_it_was, marked-or_else, marked-lost, told_again, none_lost, seen_alike}
use Rattle.vm_ids.proofs.Forest.Unseen.{IsUnseen}

module _ {P : Type 0} where
  module _ (xs : List NodeName) (f : Forest P) (c : IsConsistent f) (are : ArePagesOnce f xs) (saved : (x : NodeName) → x ∈ xs → is_unsaved f x ≡ false) where
    told : Forest (P × Bool)
    told = marked xs (map_pages not_lost f)

    told-as_it_was : map_pages as_it_was told ≡ f
    unfolding told
    told-as_it_was = marked-as_it_was xs (map_pages not_lost f) ∙ told_again as_it_was (λ v. refl) f

    told-or_else : (p : P) → map_pages (or_else p) told ≡ forgotten xs p f
    unfolding told
    told-or_else p = marked-or_else p xs (map_pages not_lost f) ∙ ap (forgotten xs p) (told_again (or_else p) (λ v. refl) f)

    told-lost : (x : NodeName) → IsLost told x → x ∈ xs
    unfolding told
    told-lost x l = elim (marked-lost xs (map_pages not_lost f) x l) [ inl k ↦ absurd (none_lost f x k) | inr i ↦ i ]

    told-IsNode : (x : NodeName) → contains_key told.nodes x ≡ contains_key f.nodes x
    told-IsNode x = sym (IsNode-map as_it_was told x) ∙ ap (λ g. contains_key g.nodes x) told-as_it_was

    told-consistent : IsConsistent told
    told-consistent = record {
      shaped = map-shaped as_it_was told (subst IsWellShaped (sym told-as_it_was) c.shaped);
      counted = λ k is. subst (λ n. k ≤ n) (ap (λ g. g.made) (sym told-as_it_was) ∙ made-map as_it_was told) (c.counted k (sym (told-IsNode (Working k)) ∙ is));
    }

    told-pages : ArePagesOnce told xs
    told-pages = record { once = are.once; live = λ x i. let k = are.live x i in (told-IsNode x ∙ k.0, k.1) }

    told-unseen : IsUnseen told (IsGoing xs)
    told-unseen = record {
      place = λ x l. inl (told-lost x l);
      few = λ x l. let few = told-consistent.shaped.linked.few x in let one = live_most x (are.live x (told-lost x l)).1 in omega arith;
      owned = λ x y l up. has_own x y l up (node told y).own refl;
    }
      where
        no_heir : (b : Bool) (o : Option NodeName) → b ≡ true → (b && is_some o) ≡ false → o ≡ None
        no_heir true None t e = refl
        no_heir true (Some h) t e = absurd (cc e)
        no_heir false o t e = absurd (cc t)

        unsaved_none : (x : NodeName) → IsLost told x → heir told x ≡ None
        unsaved_none x l = no_heir (is_some (node told x).own) (heir told x) (lost_is_there (node told x).own l) (sym (is_unsaved-map as_it_was told x) ∙ ap (λ g. is_unsaved g x) told-as_it_was ∙ saved x (told-lost x l))

        has_own : (x y : NodeName) → IsLost told x → parent told y ≡ Some x → (o : Option (P × Bool)) → (node told y).own ≡ o → IsSome o
        has_own x y l up None e = absurd (ReadsNot-no_heir told told-consistent.shaped.linked x (unsaved_none x l) y up e)
        has_own x y l up (Some v) e = refl

    -- a rule that goes with the pages, and leaves no lost page
    forgets : (p : P) (rule : Forest P → Forest P) (told_rule : Forest (P × Bool)) → map_pages (or_else p) told_rule ≡ rule (map_pages (or_else p) told) → map_pages as_it_was told_rule ≡ rule (map_pages as_it_was told)
        → ((x : NodeName) → IsLost told_rule x → ⊥) → rule (forgotten xs p f) ≡ rule f
    forgets p rule told_rule forgotten_is was_is seen = ap rule (sym (told-or_else p)) ∙ sym forgotten_is ∙ seen_alike p told_rule seen ∙ was_is ∙ ap rule told-as_it_was

    pub destroy-forgets : (p : P) → destroy false xs (forgotten xs p f) ≡ destroy false xs f
    destroy-forgets p = forgets p (destroy false xs) (destroy false xs told) (destroy_goes_with_pages (or_else p) false xs told) (destroy_goes_with_pages as_it_was false xs told)
        (all_seen (retire_all xs told) (retire_all-unseen xs told told-consistent told-pages told-unseen))

  -- the range, when it has been saved
  saved_range : (xs : List NodeName) (f : Forest P) → IsConsistent f → ArePagesOnce f xs → ArePagesOnce (save_range xs f) xs
  saved_range xs f c are = still_pages f (save_range xs f) xs (λ x i is. saved_stays true xs f c x is) are

  pub destroy_forgets : DestroyForgets P
  destroy_forgets xs p f c are = destroy-forgets xs (save_range xs f) (saved-consistent true xs f c) (saved_range xs f c are) (save_range_ends xs f c.shaped) p

  module _ (pairs : List (NodeName × NodeName)) (f : Forest P) (c : IsConsistent f) (can : CanCopy f pairs) (saved : (x : NodeName) → x ∈ firsts pairs → is_unsaved f x ≡ false) where
    marks : Forest (P × Bool)
    marks = told (firsts pairs) f c can.destinations saved

    marks-can : CanCopy marks pairs
    unfolding marks
    marks-can = record {
      destinations = told-pages (firsts pairs) f c can.destinations saved;
      sources = λ s i. let k = can.sources s i in (told-IsNode (firsts pairs) f c can.destinations saved s ∙ k.0, k.1, k.2);
    }

    pub copy-forgets : (p : P) → copy false pairs (forgotten (firsts pairs) p f) ≡ copy false pairs f
    unfolding marks
    copy-forgets p = forgets (firsts pairs) f c can.destinations saved p (copy false pairs) (copy false pairs marks) (copy_goes_with_pages (or_else p) false pairs marks) (copy_goes_with_pages as_it_was false pairs marks)
        (all_seen (copy_pages (leb (length pairs) small_copy) pairs marks)
        (copy_pages-unseen (leb (length pairs) small_copy) pairs marks (told-consistent (firsts pairs) f c can.destinations saved) marks-can (told-unseen (firsts pairs) f c can.destinations saved)))

    pub move-forgets : (zeros p : P) → move_ false zeros pairs (forgotten (firsts pairs) p f) ≡ move_ false zeros pairs f
    unfolding marks
    move-forgets zeros p = forgets (firsts pairs) f c can.destinations saved p (move_ false zeros pairs) (move_ false (not_lost zeros) pairs marks)
        (move_goes_with_pages (or_else p) false (not_lost zeros) pairs marks) (move_goes_with_pages as_it_was false (not_lost zeros) pairs marks)
        (all_seen (move_pages (not_lost zeros) pairs marks)
        (move_pages-unseen zeros pairs marks (told-consistent (firsts pairs) f c can.destinations saved) marks-can (told-unseen (firsts pairs) f c can.destinations saved)))

  -- the pairs, when their destinations have been saved
  saved_pairs : (pairs : List (NodeName × NodeName)) (f : Forest P) → IsConsistent f → CanCopy f pairs → CanCopy (save_range (firsts pairs) f) pairs
  saved_pairs pairs f c can = still_can f (save_range (firsts pairs) f) pairs (λ x live is. saved_stays true (firsts pairs) f c x is) can

  pub copy_forgets : CopyForgets P
  copy_forgets pairs p f c can = copy-forgets pairs (save_range (firsts pairs) f) (saved-consistent true (firsts pairs) f c) (saved_pairs pairs f c can) (save_range_ends (firsts pairs) f c.shaped) p

  pub move_forgets : MoveForgets P
  move_forgets zeros pairs p f c can = move-forgets pairs (save_range (firsts pairs) f) (saved-consistent true (firsts pairs) f c) (saved_pairs pairs f c can) (save_range_ends (firsts pairs) f c.shaped) zeros p

  again : (h : P × Bool → P) → ((v : P) → h (not_lost v) ≡ v) → (pages : List (NodeName × P)) → map_entries h (map_entries not_lost pages) ≡ pages
  again h reads [] = refl
  again h reads (e ∷ es) = λ i. (e.0, reads e.1 i) ∷ again h reads es i

  replace-goes : (h : P × Bool → P) → ((v : P) → h (not_lost v) ≡ v) → (pages : List (NodeName × P)) (f : Forest (P × Bool)) → map_pages h (settle (replace_pages (map_entries not_lost pages) f)) ≡ settle (replace_pages pages (map_pages h f))
  replace-goes h reads pages f = settle_goes_with_pages h (replace_pages (map_entries not_lost pages) f)
      ∙ ap settle (replace_pages-map h (map_entries not_lost pages) f ∙ ap (λ es. replace_pages es (map_pages h f)) (again h reads pages))

  module _ (pages : List (NodeName × P)) (f : Forest P) (c : IsConsistent f) (are : ArePagesOnce f (firsts pages)) (saved : (x : NodeName) → x ∈ firsts pages → is_unsaved f x ≡ false) where
    pub replace-forgets : (p : P) → settle (replace_pages pages (forgotten (firsts pages) p f)) ≡ settle (replace_pages pages f)
    replace-forgets p =
        let marks = told (firsts pages) f c are saved in
        forgets (firsts pages) f c are saved p (λ g. settle (replace_pages pages g)) (settle (replace_pages (map_entries not_lost pages) marks))
        (replace-goes (or_else p) (λ v. refl) pages marks) (replace-goes as_it_was (λ v. refl) pages marks)
        (all_seen (replace_pages (map_entries not_lost pages) marks) (replace_pages-unseen pages marks (told-consistent (firsts pages) f c are saved) (told-pages (firsts pages) f c are saved) (told-unseen (firsts pages) f c are saved)))

  pub invalidate_forgets : InvalidateForgets P
  invalidate_forgets pages p f c are = replace-forgets pages (save_range (firsts pages) f) (saved-consistent true (firsts pages) f c) (saved_range (firsts pages) f c are) (save_range_ends (firsts pages) f c.shaped) p
