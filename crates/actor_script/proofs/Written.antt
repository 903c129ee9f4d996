-- One write after another.
use Rattle.std.proofs.Common.{◌≡◌, ◌<◌, ℕ, ◌+◌, List, [], ◌∷◌, ◌++◌, length, get_or, take, drop, Option, Some, None, refl, sym, ap, subst, ◌∙◌, append_assoc, arith}
use Rattle.std.specs.Prelude.{option_map, Result, Ok, Err}
use Rattle.std.specs.List.{flat_map}
use Rattle.std.proofs.lemmas.List.{append-nil, drop_more, take-take, drop-take, take-append-drop}
use Rattle.std.proofs.lemmas.List.Concat.{flat_map-append}
use Rattle.actor_script.specs.Writing.{Writes, WritesFront, Wrote}

pub writes_none : (w : Option (List ℕ)) → Writes w w []
writes_none None = refl
writes_none (Some w) = ap Some (sym (append-nil w))

pub writes_then : (w v z : Option (List ℕ)) (a b : List ℕ) → Writes w v a → Writes v z b → Writes w z (a ++ b)
writes_then None v z a b p q = q ∙ ap (option_map (λ (x : List ℕ). x ++ b)) p
writes_then (Some w) v z a b p q = q ∙ ap (option_map (λ (x : List ℕ). x ++ b)) p ∙ ap Some (append_assoc w a b)

-- a front of more bytes
pub front_more : (w v : Option (List ℕ)) (a b : List ℕ) → WritesFront w v a → WritesFront w v (a ++ b)
front_more w v a b p = record {
  front = p.front;
  back = p.back ++ b;
  parts = ap (λ (x : List ℕ). x ++ b) p.parts ∙ append_assoc p.front p.back b;
  writes = p.writes;
}

-- some bytes, and a front of the bytes behind them
pub front_then : (w v z : Option (List ℕ)) (a b : List ℕ) → Writes w v a → WritesFront v z b → WritesFront w z (a ++ b)
front_then w v z a b p q = record {
  front = a ++ q.front;
  back = q.back;
  parts = ap (λ (x : List ℕ). a ++ x) q.parts ∙ sym (append_assoc a q.front q.back);
  writes = writes_then w v z a q.front p q.writes;
}

take_add : (a n : ℕ) (xs : List ℕ) → take a xs ++ take n (drop a xs) ≡ take (a + n) xs
take_add a n xs = ap (λ (x : List ℕ). take a xs ++ x) (sym (drop-take a n xs)) ∙ ap (λ (x : List ℕ). x ++ drop a (take (a + n) xs)) (sym (take-take a (a + n) xs (omega arith))) ∙ take-append-drop a (take (a + n) xs)

pub writes_more : (w v z : Option (List ℕ)) (xs : List ℕ) (a n : ℕ) → Writes w v (take a xs) → Writes v z (take n (drop a xs)) → Writes w z (take (a + n) xs)
writes_more w v z xs a n p q = subst (λ (x : List ℕ). Writes w z x) (take_add a n xs) (writes_then w v z (take a xs) (take n (drop a xs)) p q)

pub front_of_take : (w v z : Option (List ℕ)) (xs : List ℕ) (a : ℕ) → Writes w v (take a xs) → z ≡ v → WritesFront w z xs
front_of_take w v z xs a p e = record { front = take a xs; back = drop a xs; parts = sym (take-append-drop a xs); writes = e ∙ p }

-- some bytes, and what a call wrote of more
pub wrote_then : {T E : Type 0} (r : Result T E) (w v z : Option (List ℕ)) (a b : List ℕ) → Writes w v a → Wrote r v z b → Wrote r w z (a ++ b)
wrote_then (Ok x) w v z a b p q = writes_then w v z a b p q
wrote_then (Err e) w v z a b p q = front_then w v z a b p q

-- the texts of some items, and a front of the next one's
items_parts : {A : Type 0} (text : A → List ℕ) (xs : List A) (i : ℕ) (d : A) → i < length xs → (flat_map text (take i xs) ++ text (get_or xs i d)) ++ flat_map text (drop (i + 1) xs) ≡ flat_map text xs
items_parts {A} text xs i d less =
    append_assoc (flat_map text (take i xs)) (text (get_or xs i d)) (flat_map text (drop (i + 1) xs))
    ∙ sym (flat_map-append text (take i xs) (get_or xs i d ∷ drop (i + 1) xs))
    ∙ ap (λ (ys : List A). flat_map text (take i xs ++ ys)) (sym (drop_more xs i d less))
    ∙ ap (flat_map text) (take-append-drop i xs)

pub items_front : {A : Type 0} (text : A → List ℕ) (w v z : Option (List ℕ)) (xs : List A) (i : ℕ) (d : A) → i < length xs → Writes w v (flat_map text (take i xs)) → WritesFront v z (text (get_or xs i d)) → WritesFront w z (flat_map text xs)
items_front {A} text w v z xs i d less p q =
    subst (WritesFront w z) (items_parts text xs i d less)
    (front_more w z (flat_map text (take i xs) ++ text (get_or xs i d)) (flat_map text (drop (i + 1) xs)) (front_then w v z (flat_map text (take i xs)) (text (get_or xs i d)) p q))
