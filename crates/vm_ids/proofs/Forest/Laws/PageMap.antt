-- The rules go with a change of pages.
use Rattle.std.proofs.Common.{◌≡◌, ℕ, suc, zero, List, [], ◌∷◌, map, length, filter, not, leb, Bool, true, false, cond, ◌&&◌, Option, Some, None, is_none, is_some, option_map, refl, sym, ap, ◌∙◌}
use Rattle.vm_ids.specs.declared.node_name.NodeName.{NodeName}
use Rattle.vm_ids.specs.declared.chain.ChainItem.{ChainItem}
use Rattle.vm_ids.specs.Forest.NameLists.{first}
use Rattle.vm_ids.specs.Forest.NameMap.{len}
use Rattle.vm_ids.specs.Forest.Nodes.{Forest, child_count, childless, is_live, node}
use Rattle.vm_ids.specs.Forest.Nodes.Hang.{Root}
use Rattle.vm_ids.specs.Forest.PageMap.{map_entries, map_node, map_pages}
use Rattle.vm_ids.specs.Forest.Reading.{chain_of, path_of}
use Rattle.vm_ids.specs.Forest.Changes.{edit, put, rename, with_own}
use Rattle.vm_ids.specs.Forest.Rules.{copy_page, detach, heir, heir_gets, link, move_page, own, owned, retire, stub, write}
use Rattle.vm_ids.specs.Forest.Settling.{settle, settle_step, settle_within, thin}
use Rattle.vm_ids.specs.Forest.Saving.{is_unsaved, saved, saves, save_range, unsaved}
use Rattle.vm_ids.specs.Forest.Commands.{copy_pages, firsts, lock, make, move_pages, replace_pages, retire_all, small_copy}
use Rattle.vm_ids.specs.Forest.Laws.PageMap.{ValuesGoWithPages, OwnersStay, ChainsStay, CountsStay, OwnGoesWithPages, HeirGetsGoesWithPages, WriteGoesWithPages, DetachGoesWithPages, LinkGoesWithPages, StubGoesWithPages, CopyPageGoesWithPages, MovePageGoesWithPages, StepGoesWithPages, SettleGoesWithPages, SavesGoWithPages, MakeGoesWithPages, CopyGoesWithPages, MoveGoesWithPages, InvalidateGoesWithPages, DestroyGoesWithPages, LockGoesWithPages}
use Rattle.vm_ids.proofs.Forest.PageMap.{child_count-map, cond-map, copies-map, detach-map, edit-map, heir-map, heir_gets-map, is_none-map, is_some-map, keys-map, len-map, link-map, own-map, own-rule-map, owner_of-map, path_of-map, put-map, rename-map, retire-map, settle_step-map, stub-map, thin-map, value_of-map}

module _ {P Q : Type 0} where
  pub values_go_with_pages : ValuesGoWithPages P Q
  values_go_with_pages h f x = value_of-map h f x

  pub owners_stay : OwnersStay P Q
  owners_stay h f x = owner_of-map h f x

  items-map : (h : P → Q) (f : Forest P) (ys : List NodeName) → map (λ y. record { name = y; children = child_count (map_pages h f) y }) ys ≡ map {B = ChainItem} (λ y. record { name = y; children = child_count f y }) ys
  items-map h f [] = refl
  items-map h f (y ∷ ys) = λ i. record { name = y; children = child_count-map h f y i } ∷ items-map h f ys i

  pub chains_stay : ChainsStay P Q
  unfolding chain_of
  chains_stay h f x = items-map h f (path_of (map_pages h f) x) ∙ ap (λ ys. map {B = ChainItem} (λ y. record { name = y; children = child_count f y }) ys) (path_of-map h f x)

  pub counts_stay : CountsStay P Q
  counts_stay h f = λ i. record { live = length (filter is_live (keys-map h f i)); working = length (filter (λ x. not (is_live x)) (keys-map h f i)); copies = copies-map h f i }

  pub own_goes_with_pages : OwnGoesWithPages P Q
  own_goes_with_pages h f x = own-rule-map h f x

  pub heir_gets_goes_with_pages : HeirGetsGoesWithPages P Q
  heir_gets_goes_with_pages h f x = heir_gets-map h f x

  owned-map : (h : P → Q) (f : Forest P) (x : NodeName) → map_pages h (owned f x) ≡ owned (map_pages h f) x
  owned-map h f x =
      let b = is_none (node f x).own in
      let bare : is_none (node (map_pages h f) x).own ≡ b = ap is_none (own-map h f x) ∙ is_none-map h (node f x).own in
      cond-map h b (own f x) f ∙ ap (λ g. cond b g (map_pages h f)) (own-rule-map h f x) ∙ ap (λ t. cond t (own (map_pages h f) x) (map_pages h f)) (sym bare)

  changed : (h : P → Q) (change : P → P) (then : Q → Q) → ((v : P) → h (change v) ≡ then (h v)) → (o : Option P) → option_map h (option_map change o) ≡ option_map then (option_map h o)
  changed h change then goes None = refl
  changed h change then goes (Some v) = ap Some (goes v)

  pub write_goes_with_pages : WriteGoesWithPages P Q
  unfolding write
  write_goes_with_pages h f x change then goes =
      edit-map h (heir_gets (owned f x) x) x _ (λ n. with_own (option_map then n.own) n) (λ n. ap (λ o. with_own o (map_node h n)) (changed h change then goes n.own))
      ∙ ap (λ g. edit g x (λ n. with_own (option_map then n.own) n)) (heir_gets-map h (owned f x) x ∙ ap (λ g. heir_gets g x) (owned-map h f x))

  pub detach_goes_with_pages : DetachGoesWithPages P Q
  detach_goes_with_pages h f x page = detach-map h f x page

  pub link_goes_with_pages : LinkGoesWithPages P Q
  link_goes_with_pages h f d s = link-map h f d s

  pub stub_goes_with_pages : StubGoesWithPages P Q
  stub_goes_with_pages h f d s = stub-map h f d s

  pub copy_page_goes_with_pages : CopyPageGoesWithPages P Q
  copy_page_goes_with_pages h true f d s = stub-map h (detach f d None) d s ∙ ap (λ g. stub g d s) (detach-map h f d None)
  copy_page_goes_with_pages h false f d s = link-map h (detach f d None) d s ∙ ap (λ g. link g d s) (detach-map h f d None)

  pub move_page_goes_with_pages : MovePageGoesWithPages P Q
  move_page_goes_with_pages h f d s zeros =
      put-map h (rename (retire f d) s d) s (childless (Some zeros) Root)
      ∙ ap (λ g. put g s (childless (Some (h zeros)) Root)) (rename-map h (retire f d) s d ∙ ap (λ g. rename g s d) (retire-map h f d))

  pub step_goes_with_pages : StepGoesWithPages P Q
  step_goes_with_pages h f w = settle_step-map h f w

  settle_within-map : (h : P → Q) (n : ℕ) (f : Forest P) → map_pages h (settle_within n f) ≡ settle_within n (map_pages h f)
  unfolding settle_within
  settle_within-map h zero f = refl
  settle_within-map h (suc n) f = go (thin f) (λ g. settle_within-map h n g) ∙ ap (λ o. elim o [ None ↦ map_pages h f | Some w ↦ settle_within n (settle_step (map_pages h f) w) ]) (sym (thin-map h f))
    where
      go : (o : Option NodeName) → ((g : Forest P) → map_pages h (settle_within n g) ≡ settle_within n (map_pages h g))
          → map_pages h (elim o [ None ↦ f | Some w ↦ settle_within n (settle_step f w) ]) ≡ elim o [ None ↦ map_pages h f | Some w ↦ settle_within n (settle_step (map_pages h f) w) ]
      go None more = refl
      go (Some w) more = more (settle_step f w) ∙ ap (settle_within n) (settle_step-map h f w)

  pub settle_goes_with_pages : SettleGoesWithPages P Q
  unfolding settle
  settle_goes_with_pages h f = settle_within-map h (len f.nodes) f ∙ ap (λ n. settle_within n (map_pages h f)) (sym (len-map h f))

  -- Saves

  pub is_unsaved-map : (h : P → Q) (f : Forest P) (x : NodeName) → is_unsaved (map_pages h f) x ≡ is_unsaved f x
  is_unsaved-map h f x = ap (λ o. is_some o && is_some (heir (map_pages h f) x)) (own-map h f x) ∙ ap (λ b. b && is_some (heir (map_pages h f) x)) (is_some-map h (node f x).own) ∙ ap (λ o. is_some (node f x).own && is_some o) (heir-map h f x)

  unsaved-map : (h : P → Q) (f : Forest P) (xs : List NodeName) → unsaved (map_pages h f) xs ≡ unsaved f xs
  unfolding unsaved
  unsaved-map h f xs = λ i. first (filter (λ x. is_unsaved-map h f x i) xs)

  pub saves_go_with_pages : SavesGoWithPages P Q
  unfolding saves
  saves_go_with_pages h zero xs f = refl
  saves_go_with_pages h (suc n) xs f = go (unsaved f xs) (λ g. saves_go_with_pages h n xs g) ∙ ap (λ o. elim o [ None ↦ map_pages h f | Some x ↦ saves n xs (heir_gets (map_pages h f) x) ]) (sym (unsaved-map h f xs))
    where
      go : (o : Option NodeName) → ((g : Forest P) → map_pages h (saves n xs g) ≡ saves n xs (map_pages h g))
          → map_pages h (elim o [ None ↦ f | Some x ↦ saves n xs (heir_gets f x) ]) ≡ elim o [ None ↦ map_pages h f | Some x ↦ saves n xs (heir_gets (map_pages h f) x) ]
      go None more = refl
      go (Some x) more = more (heir_gets f x) ∙ ap (saves n xs) (heir_gets-map h f x)

  saved-map : (h : P → Q) (named : Bool) (xs : List NodeName) (f : Forest P) → map_pages h (saved named xs f) ≡ saved named xs (map_pages h f)
  unfolding save_range
  saved-map h true xs f = saves_go_with_pages h (len f.nodes) xs f ∙ ap (λ n. saves n xs (map_pages h f)) (sym (len-map h f))
  saved-map h false xs f = refl

  -- Whole commands

  pub make_goes_with_pages : MakeGoesWithPages P Q
  make_goes_with_pages h [] f = refl
  make_goes_with_pages h (e ∷ es) f = put-map h (make es f) e.0 (childless (Some e.1) Root) ∙ ap (λ g. put g e.0 (childless (Some (h e.1)) Root)) (make_goes_with_pages h es f)

  copy_pages-map : (h : P → Q) (is_small : Bool) (pairs : List (NodeName × NodeName)) (f : Forest P) → map_pages h (copy_pages is_small pairs f) ≡ copy_pages is_small pairs (map_pages h f)
  copy_pages-map h is_small [] f = refl
  copy_pages-map h is_small (e ∷ es) f = copy_pages-map h is_small es (copy_page is_small f e.0 e.1) ∙ ap (copy_pages is_small es) (copy_page_goes_with_pages h is_small f e.0 e.1)

  pub copy_goes_with_pages : CopyGoesWithPages P Q
  copy_goes_with_pages h named pairs f =
      let small = leb (length pairs) small_copy in
      settle_goes_with_pages h (copy_pages small pairs (saved named (firsts pairs) f)) ∙ ap settle (copy_pages-map h small pairs (saved named (firsts pairs) f) ∙ ap (copy_pages small pairs) (saved-map h named (firsts pairs) f))

  move_pages-map : (h : P → Q) (zeros : P) (pairs : List (NodeName × NodeName)) (f : Forest P) → map_pages h (move_pages zeros pairs f) ≡ move_pages (h zeros) pairs (map_pages h f)
  move_pages-map h zeros [] f = refl
  move_pages-map h zeros (e ∷ es) f = move_pages-map h zeros es (move_page f e.0 e.1 zeros) ∙ ap (move_pages (h zeros) es) (move_page_goes_with_pages h f e.0 e.1 zeros)

  pub move_goes_with_pages : MoveGoesWithPages P Q
  move_goes_with_pages h named zeros pairs f =
      settle_goes_with_pages h (move_pages zeros pairs (saved named (firsts pairs) f)) ∙ ap settle (move_pages-map h zeros pairs (saved named (firsts pairs) f) ∙ ap (move_pages (h zeros) pairs) (saved-map h named (firsts pairs) f))

  pub replace_pages-map : (h : P → Q) (pages : List (NodeName × P)) (f : Forest P) → map_pages h (replace_pages pages f) ≡ replace_pages (map_entries h pages) (map_pages h f)
  replace_pages-map h [] f = refl
  replace_pages-map h (e ∷ es) f = replace_pages-map h es (detach f e.0 (Some e.1)) ∙ ap (replace_pages (map_entries h es)) (detach-map h f e.0 (Some e.1))

  firsts_mapped : (h : P → Q) (pages : List (NodeName × P)) → firsts (map_entries h pages) ≡ firsts pages
  firsts_mapped h [] = refl
  firsts_mapped h (e ∷ es) = ap (λ xs. e.0 ∷ xs) (firsts_mapped h es)

  pub invalidate_goes_with_pages : InvalidateGoesWithPages P Q
  invalidate_goes_with_pages h pages f =
      settle_goes_with_pages h (replace_pages pages (saved true (firsts pages) f))
      ∙ ap settle (replace_pages-map h pages (saved true (firsts pages) f) ∙ ap (replace_pages (map_entries h pages)) (saved-map h true (firsts pages) f ∙ ap (λ xs. saved true xs (map_pages h f)) (sym (firsts_mapped h pages))))

  retire_all-map : (h : P → Q) (xs : List NodeName) (f : Forest P) → map_pages h (retire_all xs f) ≡ retire_all xs (map_pages h f)
  retire_all-map h [] f = refl
  retire_all-map h (x ∷ xs) f = retire_all-map h xs (retire f x) ∙ ap (retire_all xs) (retire-map h f x)

  pub destroy_goes_with_pages : DestroyGoesWithPages P Q
  destroy_goes_with_pages h named xs f =
      settle_goes_with_pages h (retire_all xs (saved named xs f)) ∙ ap settle (retire_all-map h xs (saved named xs f) ∙ ap (retire_all xs) (saved-map h named xs f))

  pub lock_goes_with_pages : LockGoesWithPages P Q
  lock_goes_with_pages h [] f = refl
  lock_goes_with_pages h (x ∷ xs) f = lock_goes_with_pages h xs (owned f x) ∙ ap (lock xs) (owned-map h f x)
