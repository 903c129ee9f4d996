-- Which caches go: those that segments name and to which nothing refers.
use Rattle.std.proofs.Common.{◌≡◌, ◌==◌, ℕ, zero, suc, ◌+◌, ◌-◌, Bool, true, false, cond, List, [], ◌∷◌, ◌++◌, length, set, Option, Some, None, refl, sym, ap, ◌∙◌, arith, inl, inr}
use Rattle.std.specs.Prelude.{◌||◌, nat_lt, not, option_and_then, option_map, slice_get}
use Rattle.std.specs.List.{list_any}
use Rattle.std.specs.Option.{option_map_or}
use Rattle.vm_model.proofs.Parts.ListParts.{at_some, at_zero, zero_or}
use Rattle.interface_callers.proofs.Words.{Cache, Page, is_named_by, maps_in, numbered}
use Rattle.seg_manager.specs.ReferenceMachine.{ReferenceMachine, Stored, goes, put_stored, stored_at, stored_from, used, used_at}
use Rattle.seg_manager.proofs.Seeing.Naming.{put_other}

abbrev pub Caches : Type 0
Caches = List (Option Cache)

next : (k i : ℕ) → k + 1 + i ≡ k + suc i
next k i = omega arith

-- what goes depends on the references alone
pub goes_same : (m n : ReferenceMachine) → n.openings ≡ m.openings → n.memory.actors ≡ m.memory.actors → (k : ℕ) (c : Cache) → goes n k c ≡ goes m k c
goes_same m n o a k c = λ i. option_map_or (λ seg. not (nat_lt 0 (o i seg) || list_any (maps_in k) (a i))) c.segment false

pub used_same : (m n : ReferenceMachine) → n.openings ≡ m.openings → n.memory.actors ≡ m.memory.actors → (k : ℕ) (xs : Caches) → used n k xs ≡ used m k xs
used_same m n o a k [] = refl
used_same m n o a k (None ∷ xs) = λ i. None ∷ used_same m n o a (k + 1) xs i
used_same m n o a k (Some c ∷ xs) = λ i. cond (goes_same m n o a k c i) None (Some c) ∷ used_same m n o a (k + 1) xs i

module _ (m : ReferenceMachine) where
  pub length_used : (k : ℕ) (xs : Caches) → length (used m k xs) ≡ length xs
  length_used k [] = refl
  length_used k (x ∷ xs) = ap suc (length_used (k + 1) xs)

  pub get_used : (k : ℕ) (xs : Caches) (i : ℕ) → slice_get (used m k xs) i ≡ option_map (used_at m (k + i)) (slice_get xs i)
  get_used k [] i = refl
  get_used k (x ∷ xs) zero = ap (λ (n : ℕ). Some (used_at m n x)) (let e : k ≡ k + 0 = omega arith in e)
  get_used k (x ∷ xs) (suc i) = get_used (k + 1) xs i ∙ ap (λ (n : ℕ). option_map (used_at m n) (slice_get xs i)) (next k i)

  pub set_used : (k : ℕ) (xs : Caches) (i : ℕ) (v : Option Cache) → used m k (set xs i v) ≡ set (used m k xs) i (used_at m (k + i) v)
  set_used k [] i v = refl
  set_used k (x ∷ xs) zero v = ap (λ (n : ℕ). used_at m n v ∷ used m (k + 1) xs) (let e : k ≡ k + 0 = omega arith in e)
  set_used k (x ∷ xs) (suc i) v = ap (λ (ys : Caches). used_at m k x ∷ ys) (set_used (k + 1) xs i v ∙ ap (λ (n : ℕ). set (used m (k + 1) xs) i (used_at m n v)) (next k i))

  pub push_used : (k : ℕ) (xs : Caches) (v : Option Cache) → used m k (xs ++ v ∷ []) ≡ used m k xs ++ used_at m (k + length xs) v ∷ []
  push_used k [] v = ap (λ (n : ℕ). used_at m n v ∷ []) (let e : k ≡ k + 0 = omega arith in e)
  push_used k (x ∷ xs) v =
      ap (λ (ys : Caches). used_at m k x ∷ ys)
      (push_used (k + 1) xs v ∙ ap (λ (n : ℕ). used m (k + 1) xs ++ used_at m n v ∷ []) (next k (length xs)))

  flat : (k : ℕ) (o : Option (Option Cache)) → option_and_then (λ (c : Option Cache). c) (option_map (used_at m k) o) ≡ used_at m k (option_and_then (λ (c : Option Cache). c) o)
  flat k None = refl
  flat k (Some None) = refl
  flat k (Some (Some c)) = refl

  pub numbered_used : (xs : Caches) (n : ℕ) → numbered (used m 1 xs) n ≡ used_at m n (numbered xs n)
  numbered_used xs n = elim (zero_or n) [
    | inl e ↦ at_zero (used m 1 xs) n e ∙ sym (ap (used_at m n) (at_zero xs n e))
    | inr some ↦ at_some (used m 1 xs) n some
        ∙ ap (option_and_then (λ (c : Option Cache). c)) (get_used 1 xs (n - 1))
        ∙ flat (1 + (n - 1)) (slice_get xs (n - 1))
        ∙ ap (λ (k : ℕ). used_at m k (option_and_then (λ (c : Option Cache). c) (slice_get xs (n - 1)))) (let s : 1 + (n - 1) ≡ n = omega (arith, some) in s)
        ∙ ap (used_at m n) (sym (at_some xs n some))
  ]

  -- one that goes anyhow
  pub gone_used : (k : ℕ) (xs : Caches) (i : ℕ) (c : Cache) → slice_get xs i ≡ Some (Some c) → goes m (k + i) c ≡ true → used m k (set xs i None) ≡ used m k xs
  gone_used k [] i c there g = refl
  gone_used k (x ∷ xs) zero c there g =
      let is : x ≡ Some c = cc there in
      let here : k + 0 ≡ k = omega arith in
      ap (λ (o : Option Cache). o ∷ used m (k + 1) xs)
      (sym (ap (used_at m k) is ∙ ap (λ (b : Bool). cond b None (Some c)) (ap (λ (n : ℕ). goes m n c) (sym here) ∙ g)))
  gone_used k (x ∷ xs) (suc i) c there g = ap (λ (ys : Caches). used_at m k x ∷ ys) (gone_used (k + 1) xs i c there (ap (λ (n : ℕ). goes m n c) (next k i) ∙ g))

-- What is stored for a segment that names neither of two caches is the same, where one stands in
-- place of the other.
module _ (m n : ReferenceMachine) (o : n.openings ≡ m.openings) (a : n.memory.actors ≡ m.memory.actors) (seg : ℕ) (same : n.stored seg ≡ m.stored seg) where
  put_same : (b : Bool) (s : Option ℕ) (pages : List Page) (x y : Stored) → x seg ≡ y seg → cond b (put_stored s pages x) x seg ≡ cond b (put_stored s pages y) y seg
  put_same false s pages x y e = e
  put_same true None pages x y e = e
  put_same true (Some s) pages x y e = ap (cond (seg == s) (Some pages)) e

  at_same : (k : ℕ) (c : Option Cache) (x y : Stored) → x seg ≡ y seg → stored_at n k c x seg ≡ stored_at m k c y seg
  at_same k None x y e = e
  at_same k (Some c) x y e = ap (λ (b : Bool). cond b (put_stored c.segment c.pages x) x seg) (goes_same m n o a k c) ∙ put_same (goes m k c) c.segment c.pages x y e

  pub stored_same : (k : ℕ) (xs : Caches) → stored_from n k xs seg ≡ stored_from m k xs seg
  stored_same k [] = same
  stored_same k (x ∷ xs) = at_same k x (stored_from n (k + 1) xs) (stored_from m (k + 1) xs) (stored_same (k + 1) xs)

  past_one : (r : ReferenceMachine) (k : ℕ) (c : Option Cache) (x : Stored) → is_named_by seg c ≡ false → stored_at r k c x seg ≡ x seg
  past_one r k None x e = refl
  past_one r k (Some c) x e = by (goes r k c)
    where
      by : (b : Bool) → cond b (put_stored c.segment c.pages x) x seg ≡ x seg
      by true = put_other seg c.segment c.pages x e
      by false = refl

  pub stored_set : (k : ℕ) (xs : Caches) (i : ℕ) (c v : Option Cache) → slice_get xs i ≡ Some c → is_named_by seg c ≡ false → is_named_by seg v ≡ false → stored_from n k (set xs i v) seg ≡ stored_from m k xs seg
  stored_set k [] i c v there e f = absurd (cc there)
  stored_set k (x ∷ xs) zero c v there e f =
      let is : x ≡ c = cc there in
      past_one n k v (stored_from n (k + 1) xs) f ∙ stored_same (k + 1) xs ∙ sym (past_one m k x (stored_from m (k + 1) xs) (ap (is_named_by seg) is ∙ e))
  stored_set k (x ∷ xs) (suc i) c v there e f = at_same k x (stored_from n (k + 1) (set xs i v)) (stored_from m (k + 1) xs) (stored_set (k + 1) xs i c v there e f)

  pub stored_push : (k : ℕ) (xs : Caches) (v : Option Cache) → is_named_by seg v ≡ false → stored_from n k (xs ++ v ∷ []) seg ≡ stored_from m k xs seg
  stored_push k [] v f = past_one n k v n.stored f ∙ same
  stored_push k (x ∷ xs) v f = at_same k x (stored_from n (k + 1) (xs ++ v ∷ [])) (stored_from m (k + 1) xs) (stored_push (k + 1) xs v f)
