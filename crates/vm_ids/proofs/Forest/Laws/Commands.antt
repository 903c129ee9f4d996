-- The laws of whole commands, but for those that make pages and copy them.
use Rattle.std.proofs.Common.{◌+◌, ap₂, length, filter, ◌≡◌, ◌≢◌, List, [], ◌∷◌, Bool, true, false, cond, ◌||◌, Option, Some, None, is_some, is_none, refl, sym, ap, subst, ◌∙◌, inl, inr, arith}
use Rattle.std.specs.Option.{option_or, IsSome}
use Rattle.vm_ids.specs.declared.node_name.NodeName.{NodeName}
use Rattle.vm_ids.specs.Forest.Names.{same}
use Rattle.vm_ids.proofs.Forest.Names.{name_cases, same_itself, same_apart}
use Rattle.vm_ids.specs.Forest.NameLists.{◌∈◌, Once}
use Rattle.vm_ids.specs.Forest.Nodes.{Forest, node, IsNode, is_live}
use Rattle.vm_ids.specs.Forest.Shape.{IsWellShaped, IsConsistent, IsBounded}
use Rattle.vm_ids.specs.Forest.Reading.{value_of}
use Rattle.vm_ids.specs.Forest.Rules.{own, owned, retire, detach, move_page}
use Rattle.vm_ids.specs.Forest.Saving.{saved}
use Rattle.vm_ids.specs.Forest.Commands.{firsts, seconds, move_pages, replace_pages, retire_all, lock}
use Rattle.vm_ids.specs.Forest.Laws.Commands.{source_of, given, is_in, ArePagesOnce, CanCopy, MoveKeepsConsistency, MoveMoves, MoveBounds, MoveSettles, MoveCountsSaves, InvalidateKeepsConsistency, InvalidateGivesPages, InvalidateBounds, InvalidateSettles, InvalidateCountsSaves, DestroyKeepsConsistency, DestroyDestroys, DestroyBounds, DestroySettles, DestroyCountsSaves, LockKeepsConsistency, LockKeepsBound, LockKeepsValues, LockOwnsPages, LockCountsItsPages}
use Rattle.vm_ids.proofs.Forest.Values.{node-count_copy}
use Rattle.vm_ids.proofs.Forest.Columns.{gets-own_other}
use Rattle.vm_ids.proofs.Forest.Paths.{IsNode-value}
use Rattle.vm_ids.proofs.Forest.Owning.{own-shaped}
use Rattle.vm_ids.proofs.Forest.Writing.{owned-Owned}
use Rattle.vm_ids.proofs.Forest.Counters.{own-copies, settle-counters, move_pages-copies, replace_pages-copies, retire_all-copies}
use Rattle.vm_ids.proofs.Forest.Agreeing.{IsNode-equal}
use Rattle.vm_ids.proofs.Forest.OnePage.{move_page-consistent, move_page-value}
use Rattle.vm_ids.proofs.Forest.OneDetached.{retired, retire-consistent, retire-value, detach-consistent, detach-value}
use Rattle.vm_ids.proofs.Forest.Saving.{saved-consistent, saved-values}
use Rattle.vm_ids.proofs.Forest.Laws.Owning.{own_keeps_consistency, own_keeps_bound, own_keeps_values}
use Rattle.vm_ids.proofs.Forest.Laws.Settling.{settle_keeps_consistency, settle_keeps_live_values, settle_settles, settled_is_bounded}
use Rattle.vm_ids.proofs.Forest.Laws.Copying.{first_pages, given_outside, later_can, none, outside_is_in, page-source, saved_stays, source_apart, source_cases, source_live, source_outside, still_can, still_pages}

module _ {P : Type 0} where
  -- move
  move_pages-facts : (zeros : P) (pairs : List (NodeName × NodeName)) (f : Forest P) → IsConsistent f → CanCopy f pairs → Once (seconds pairs)
      → IsConsistent (move_pages zeros pairs f) × ((y : NodeName) → is_live y ≡ true → value_of (move_pages zeros pairs f) y ≡ cond (is_in y (seconds pairs)) (Some zeros) (value_of f (source_of pairs y)))
  move_pages-facts zeros [] f c can once = (c, λ y live. refl)
  move_pages-facts zeros (e ∷ es) f c can once =
      let pages = first_pages f e es can in
      let g = move_page f e.0 e.1 zeros in
      let value : (y : NodeName) → is_live y ≡ true → value_of g y ≡ cond (same y e.1) (Some zeros) (cond (same y e.0) (value_of f e.1) (value_of f y)) = λ y live. move_page-value f c e.0 e.1 pages zeros y live in
      let consistent = move_page-consistent f c e.0 e.1 pages zeros in
      let stays : (y : NodeName) → is_live y ≡ true → IsNode f y → IsNode g y = λ y live is. (IsNode-value g consistent.shaped y).1 (ap is_some (value y live) ∙ has (same y e.1) (same y e.0) (value_of f e.1) (value_of f y) ((IsNode-value f c.shaped e.1).0 pages.source) ((IsNode-value f c.shaped y).0 is)) in
      let rest = move_pages-facts zeros es g consistent (still_can f g es stays (later_can f e es can)) once.1 in (
        rest.0,
        λ y live. rest.1 y live ∙ go y live value,
      )
    where
      has : (a b : Bool) (u v : Option P) → IsSome u → IsSome v → IsSome (cond a (Some zeros) (cond b u v))
      has true b u v hu hv = refl
      has false true u v hu hv = hu
      has false false u v hu hv = hv

      at_source : (y : NodeName) → (y ≡ e.1) → (v : Option P) → cond (is_in y (seconds es)) (Some zeros) v ≡ v
      at_source y q v = ap (λ (t : Bool). cond t (Some zeros) v) (outside_is_in (seconds es) y (λ i. once.0 (subst (λ z. z ∈ seconds es) q i)))

      go : (y : NodeName) → is_live y ≡ true → ((y : NodeName) → is_live y ≡ true → value_of (move_page f e.0 e.1 zeros) y ≡ cond (same y e.1) (Some zeros) (cond (same y e.0) (value_of f e.1) (value_of f y)))
          → cond (is_in y (seconds es)) (Some zeros) (value_of (move_page f e.0 e.1 zeros) (source_of es y)) ≡ cond (is_in y (e.1 ∷ seconds es)) (Some zeros) (value_of f (source_of (e ∷ es) y))
      go y live value = elim (name_cases y e.1) [
        | inl q ↦
            let alone : source_of es y ≡ y = source_outside es y (λ i. (can.sources e.1 (inl refl)).2 (inr (subst (λ z. z ∈ firsts es) q i))) in
            let true_is : same y e.1 ≡ true = ap (λ z. same z e.1) q ∙ same_itself e.1 in
            at_source y q _ ∙ ap (value_of (move_page f e.0 e.1 zeros)) alone ∙ value y live ∙ ap (λ (t : Bool). cond t (Some zeros) (cond (same y e.0) (value_of f e.1) (value_of f y))) true_is
            ∙ sym (ap (λ (t : Bool). cond (t || is_in y (seconds es)) (Some zeros) (value_of f (source_of (e ∷ es) y))) true_is)
        | inr apart ↦
            ap (λ (o : Option P). cond (is_in y (seconds es)) (Some zeros) o) (elsewhere y live value apart)
            ∙ sym (ap (λ (t : Bool). cond (t || is_in y (seconds es)) (Some zeros) (value_of f (source_of (e ∷ es) y))) (same_apart y e.1 apart))
      ]
        where
          elsewhere : (y : NodeName) → is_live y ≡ true → ((y : NodeName) → is_live y ≡ true → value_of (move_page f e.0 e.1 zeros) y ≡ cond (same y e.1) (Some zeros) (cond (same y e.0) (value_of f e.1) (value_of f y)))
              → y ≢ e.1 → value_of (move_page f e.0 e.1 zeros) (source_of es y) ≡ value_of f (source_of (e ∷ es) y)
          elsewhere y live value apart =
              let z = source_of es y in
              let not_source : z ≢ e.1 = λ q. elim (source_cases es y) [ inl r ↦ apart (sym r ∙ q) | inr i ↦ once.0 (subst (λ x. x ∈ seconds es) q i) ] in
              let step = value z (source_live f es y (later_can f e es can) live) ∙ ap (λ (t : Bool). cond t (Some zeros) (cond (same z e.0) (value_of f e.1) (value_of f z))) (same_apart z e.1 not_source) in
              step ∙ page-source (same z e.0) f e.1 z ∙ ap (value_of f) (elim (name_cases y e.0) [
                | inl q ↦ ap (λ x. cond (same x e.0) e.1 z) (source_outside es y (λ i. can.destinations.once.0 (subst (λ x. x ∈ firsts es) q i)))
                | inr other ↦ ap (λ (t : Bool). cond t e.1 z) (same_apart z e.0 (source_apart f e es can y other) ∙ sym (same_apart y e.0 other))
              ])

  module _ (named : Bool) (zeros : P) (pairs : List (NodeName × NodeName)) (f : Forest P) (c : IsConsistent f) (can : CanCopy f pairs) (once : Once (seconds pairs)) where
    moved : Forest P
    moved = move_pages zeros pairs (saved named (firsts pairs) f)

    moved-facts : IsConsistent moved × ((y : NodeName) → is_live y ≡ true → value_of moved y ≡ cond (is_in y (seconds pairs)) (Some zeros) (value_of (saved named (firsts pairs) f) (source_of pairs y)))
    unfolding moved
    moved-facts = move_pages-facts zeros pairs (saved named (firsts pairs) f) (saved-consistent named (firsts pairs) f c) (still_can f _ pairs (λ x live is. saved_stays named (firsts pairs) f c x is) can) once

  pub move_keeps_consistency : MoveKeepsConsistency P
  unfolding moved
  move_keeps_consistency named zeros pairs f c can once = settle_keeps_consistency _ (moved-facts named zeros pairs f c can once).0

  pub move_moves : MoveMoves P
  unfolding moved
  move_moves named zeros pairs f c can once y live =
      let facts = moved-facts named zeros pairs f c can once in
      settle_keeps_live_values _ facts.0 y live ∙ facts.1 y live ∙ ap (λ (o : Option P). cond (is_in y (seconds pairs)) (Some zeros) o) (saved-values named (firsts pairs) f c (source_of pairs y))

  pub move_settles : MoveSettles P
  unfolding moved
  move_settles named zeros pairs f c can once = settle_settles _ (moved-facts named zeros pairs f c can once).0

  pub move_bounds : MoveBounds P
  move_bounds named zeros pairs f c can once = settled_is_bounded _ (move_keeps_consistency named zeros pairs f c can once).shaped (move_settles named zeros pairs f c can once)

  pub move_counts_saves : MoveCountsSaves P
  move_counts_saves named zeros pairs f = (settle-counters _).copies ∙ move_pages-copies zeros pairs _

  -- invalidate
  pub later_pages : (f : Forest P) (x : NodeName) (xs : List NodeName) → ArePagesOnce f (x ∷ xs) → ArePagesOnce f xs
  later_pages f x xs are = record { once = are.once.1; live = λ y i. are.live y (inr i) }

  replace_pages-facts : (pages : List (NodeName × P)) (f : Forest P) → IsConsistent f → ArePagesOnce f (firsts pages)
      → IsConsistent (replace_pages pages f) × ((y : NodeName) → is_live y ≡ true → value_of (replace_pages pages f) y ≡ option_or (given pages y) (value_of f y))
  replace_pages-facts [] f c are = (c, λ y live. refl)
  replace_pages-facts (e ∷ es) f c are =
      let at = are.live e.0 (inl refl) in
      let g = detach f e.0 (Some e.1) in
      let consistent = detach-consistent f c e.0 at.0 at.1 e.1 in
      let value : (y : NodeName) → is_live y ≡ true → value_of g y ≡ cond (same y e.0) (Some e.1) (value_of f y) = λ y live. detach-value f c e.0 at.0 at.1 e.1 y live in
      let stays : (y : NodeName) → y ∈ firsts es → IsNode f y → IsNode g y = λ y i is. (IsNode-value g consistent.shaped y).1 (ap is_some (value y (are.live y (inr i)).1) ∙ has (same y e.0) (value_of f y) ((IsNode-value f c.shaped y).0 is)) in
      let rest = replace_pages-facts es g consistent (still_pages f g (firsts es) stays (later_pages f e.0 (firsts es) are)) in (
        rest.0,
        λ y live. rest.1 y live ∙ ap (option_or (given es y)) (value y live) ∙ elim (name_cases y e.0) [
          | inl q ↦ rw (given_outside es y (λ i. are.once.0 (subst (λ z. z ∈ firsts es) q i)), ap (λ z. same z e.0) q ∙ same_itself e.0) refl
          | inr apart ↦ rw (same_apart y e.0 apart) refl
        ],
      )
    where
      has : (b : Bool) (v : Option P) → IsSome v → IsSome (cond b (Some e.1) v)
      has true v h = refl
      has false v h = h

  module _ (pages : List (NodeName × P)) (f : Forest P) (c : IsConsistent f) (are : ArePagesOnce f (firsts pages)) where
    replaced : Forest P
    replaced = replace_pages pages (saved true (firsts pages) f)

    replaced-facts : IsConsistent replaced × ((y : NodeName) → is_live y ≡ true → value_of replaced y ≡ option_or (given pages y) (value_of (saved true (firsts pages) f) y))
    unfolding replaced
    replaced-facts = replace_pages-facts pages (saved true (firsts pages) f) (saved-consistent true (firsts pages) f c) (still_pages f _ (firsts pages) (λ x i is. saved_stays true (firsts pages) f c x is) are)

  pub invalidate_keeps_consistency : InvalidateKeepsConsistency P
  unfolding replaced
  invalidate_keeps_consistency pages f c are = settle_keeps_consistency _ (replaced-facts pages f c are).0

  pub invalidate_gives_pages : InvalidateGivesPages P
  unfolding replaced
  invalidate_gives_pages pages f c are y live =
      let facts = replaced-facts pages f c are in
      settle_keeps_live_values _ facts.0 y live ∙ facts.1 y live ∙ ap (option_or (given pages y)) (saved-values true (firsts pages) f c y)

  pub invalidate_settles : InvalidateSettles P
  unfolding replaced
  invalidate_settles pages f c are = settle_settles _ (replaced-facts pages f c are).0

  pub invalidate_bounds : InvalidateBounds P
  invalidate_bounds pages f c are = settled_is_bounded _ (invalidate_keeps_consistency pages f c are).shaped (invalidate_settles pages f c are)

  pub invalidate_counts_saves : InvalidateCountsSaves P
  invalidate_counts_saves pages f = (settle-counters _).copies ∙ replace_pages-copies pages _

  -- destroy
  pub retire_all-facts : (xs : List NodeName) (f : Forest P) → IsConsistent f → ArePagesOnce f xs
      → IsConsistent (retire_all xs f) × ((y : NodeName) → is_live y ≡ true → value_of (retire_all xs f) y ≡ cond (is_in y xs) None (value_of f y))
  retire_all-facts [] f c are = (c, λ y live. refl)
  retire_all-facts (x ∷ xs) f c are =
      let at = are.live x (inl refl) in
      let stays : (y : NodeName) → y ∈ xs → IsNode f y → IsNode (retire f x) y = λ y i is. (retired f c x at.0 at.1).stays y is (λ q. are.once.0 (subst (λ z. z ∈ xs) q i)) in
      let rest = retire_all-facts xs (retire f x) (retire-consistent f c x at.0 at.1) (still_pages f (retire f x) xs stays (later_pages f x xs are)) in (
        rest.0,
        λ y live. rest.1 y live ∙ ap (λ (o : Option P). cond (is_in y xs) None o) (retire-value f c x at.0 at.1 y live) ∙ twice (same y x) (is_in y xs) (value_of f y),
      )
    where
      twice : (a b : Bool) (v : Option P) → cond b None (cond a None v) ≡ cond (a || b) None v
      twice true true v = refl
      twice true false v = refl
      twice false b v = refl

  module _ (named : Bool) (xs : List NodeName) (f : Forest P) (c : IsConsistent f) (are : ArePagesOnce f xs) where
    emptied : Forest P
    emptied = retire_all xs (saved named xs f)

    emptied-facts : IsConsistent emptied × ((y : NodeName) → is_live y ≡ true → value_of emptied y ≡ cond (is_in y xs) None (value_of (saved named xs f) y))
    unfolding emptied
    emptied-facts = retire_all-facts xs (saved named xs f) (saved-consistent named xs f c) (still_pages f _ xs (λ x i is. saved_stays named xs f c x is) are)

  pub destroy_keeps_consistency : DestroyKeepsConsistency P
  unfolding emptied
  destroy_keeps_consistency named xs f c are = settle_keeps_consistency _ (emptied-facts named xs f c are).0

  pub destroy_destroys : DestroyDestroys P
  unfolding emptied
  destroy_destroys named xs f c are y live =
      let facts = emptied-facts named xs f c are in
      settle_keeps_live_values _ facts.0 y live ∙ facts.1 y live ∙ ap (λ (o : Option P). cond (is_in y xs) None o) (saved-values named xs f c y)

  pub destroy_settles : DestroySettles P
  unfolding emptied
  destroy_settles named xs f c are = settle_settles _ (emptied-facts named xs f c are).0

  pub destroy_bounds : DestroyBounds P
  destroy_bounds named xs f c are = settled_is_bounded _ (destroy_keeps_consistency named xs f c are).shaped (destroy_settles named xs f c are)

  pub destroy_counts_saves : DestroyCountsSaves P
  destroy_counts_saves named xs f = (settle-counters _).copies ∙ retire_all-copies xs _

  -- lock
  record Locked (f g : Forest P) : Type 0 where
    shaped : IsWellShaped g
    consistent : IsConsistent f → IsConsistent g
    bound : IsBounded f → IsBounded g
    values : (y : NodeName) → value_of g y ≡ value_of f y
    own_stays : (y : NodeName) → IsSome (node f y).own → IsSome (node g y).own

  own-own_other : (f : Forest P) (x y : NodeName) → (node f x).own ≡ None → IsSome (node f y).own → (node (own f x) y).own ≡ (node f y).own
  unfolding own
  own-own_other f x y none some = ap (λ n. n.own) (node-count_copy _ y) ∙ gets-own_other f x y _ (λ q. cc (some, ap (λ z. is_some (node f z).own) q, ap is_some none))

  owned-Locked : (f : Forest P) → IsWellShaped f → (x : NodeName) → IsNode f x → Locked f (owned f x)
  owned-Locked f shaped x is = go (node f x).own refl
    where
      go : (o : Option P) → (node f x).own ≡ o → Locked f (cond (is_none o) (own f x) f)
      go (Some v) e = record { shaped = shaped; consistent = λ c. c; bound = λ b. b; values = λ y. refl; own_stays = λ y some. some }
      go None e = record {
        shaped = own-shaped f shaped x is;
        consistent = λ c. own_keeps_consistency f c x is;
        bound = λ b. own_keeps_bound f shaped x is b;
        values = own_keeps_values f shaped x is;
        own_stays = λ y some. ap is_some (own-own_other f x y e some) ∙ some;
      }

  lock-Locked : (xs : List NodeName) (f : Forest P) → IsWellShaped f → ((x : NodeName) → x ∈ xs → IsNode f x) → Locked f (lock xs f)
  lock-Locked [] f shaped are = record { shaped = shaped; consistent = λ c. c; bound = λ b. b; values = λ y. refl; own_stays = λ y some. some }
  lock-Locked (x ∷ xs) f shaped are =
      let first = owned-Locked f shaped x (are x (inl refl)) in
      let rest = lock-Locked xs (owned f x) first.shaped (λ y i. IsNode-equal f (owned f x) shaped y y (first.values y) (are y (inr i))) in
      record {
        shaped = rest.shaped;
        consistent = λ c. rest.consistent (first.consistent c);
        bound = λ b. rest.bound (first.bound b);
        values = λ y. rest.values y ∙ first.values y;
        own_stays = λ y some. rest.own_stays y (first.own_stays y some);
      }

  pub lock_keeps_consistency : LockKeepsConsistency P
  lock_keeps_consistency xs f c are = (lock-Locked xs f c.shaped are).consistent c

  pub lock_keeps_bound : LockKeepsBound P
  lock_keeps_bound xs f shaped are bound = (lock-Locked xs f shaped are).bound bound

  pub lock_keeps_values : LockKeepsValues P
  lock_keeps_values xs f shaped are y = (lock-Locked xs f shaped are).values y

  pub lock_owns_pages : LockOwnsPages P
  lock_owns_pages [] f shaped are x i = absurd i
  lock_owns_pages (y ∷ ys) f shaped are x i =
      let first = owned-Locked f shaped y (are y (inl refl)) in
      let later : (z : NodeName) → z ∈ ys → IsNode (owned f y) z = λ z j. IsNode-equal f (owned f y) shaped z z (first.values z) (are z (inr j)) in
      elim i [
        | inl q ↦ (lock-Locked ys (owned f y) first.shaped later).own_stays x (ap (λ z. is_some (node (owned f y) z).own) q ∙ ap is_some (owned-Owned f shaped y (are y (inl refl))).own_is)
        | inr j ↦ lock_owns_pages ys (owned f y) first.shaped later x j
      ]

  -- the pages of the list that have no own page
  bare_in : Forest P → List NodeName → List NodeName
  bare_in f xs = filter (λ x. is_none (node f x).own) xs

  same_bare : (f g : Forest P) (xs : List NodeName) → ((x : NodeName) → x ∈ xs → (node g x).own ≡ (node f x).own) → bare_in g xs ≡ bare_in f xs
  unfolding bare_in
  same_bare f g [] own_is = refl
  same_bare f g (x ∷ xs) own_is = ap₂ (λ (b : Bool) ys. cond b (x ∷ ys) ys) (ap is_none (own_is x (inl refl))) (same_bare f g xs (λ y i. own_is y (inr i)))

  owned-own_other : (f : Forest P) (x y : NodeName) → y ≢ x → (node (owned f x) y).own ≡ (node f y).own
  unfolding own
  owned-own_other f x y apart = go (is_none (node f x).own)
    where
      go : (b : Bool) → (node (cond b (own f x) f) y).own ≡ (node f y).own
      go true = ap (λ n. n.own) (node-count_copy _ y) ∙ gets-own_other f x y _ apart
      go false = refl

  owned-counts : (f : Forest P) (x : NodeName) → (owned f x).copies ≡ f.copies + cond (is_none (node f x).own) 1 0
  owned-counts f x = go (is_none (node f x).own)
    where
      go : (b : Bool) → (cond b (own f x) f).copies ≡ f.copies + cond b 1 0
      go true = own-copies f x
      go false = omega arith

  pub lock_counts_its_pages : LockCountsItsPages P
  unfolding bare_in
  lock_counts_its_pages [] f shaped once are = omega arith
  lock_counts_its_pages (x ∷ xs) f shaped once are =
      let first = owned-Locked f shaped x (are x (inl refl)) in
      let rest = lock_counts_its_pages xs (owned f x) first.shaped once.1 (λ y i. IsNode-equal f (owned f x) shaped y y (first.values y) (are y (inr i))) in
      let bare = ap length (same_bare f (owned f x) xs (λ y i. owned-own_other f x y (λ q. once.0 (subst (λ z. z ∈ xs) q i)))) in
      let one = owned-counts f x in
      rest ∙ ap₂ (λ m n. m + n) one bare ∙ count (is_none (node f x).own)
    where
      count : (b : Bool) → (f.copies + cond b 1 0) + length (bare_in f xs) ≡ f.copies + length (cond b (x ∷ bare_in f xs) (bare_in f xs))
      count true = omega arith
      count false = omega arith
