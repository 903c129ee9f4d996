-- The caches to which something refers are those that are seen, beside these openings.
use Rattle.std.proofs.Common.{◌≡◌, ℕ, ◌+◌, ◌-◌, Bool, true, false, cond, [], ◌∷◌, ◌++◌, set, Option, Some, None, refl, sym, ap, ◌∙◌, arith}
use Rattle.std.specs.Prelude.{◌||◌, nat_lt, not}
use Rattle.std.specs.Option.{option_map_or}
use Rattle.vm_model.proofs.Parts.Lists.{numbered_place}
use Rattle.interface_callers.proofs.Words.{Cache, Machine, cache_of, is_mapped, put_cache}
use Rattle.interface_callers.proofs.Hiding.{IsView}
use Rattle.interface_callers.proofs.Mapped.{actor_mapped}
use Rattle.seg_manager.specs.ReferenceMachine.{ReferenceMachine, goes, used, used_at}
use Rattle.seg_manager.proofs.Seeing.WhichGo.{Caches, numbered_used, set_used, used_same}

module _ (openings : ℕ → ℕ) where
  abbrev pub references : Machine → ReferenceMachine
  references m = record { memory = m; stored = λ seg. None; openings = openings }

  abbrev pub seen : Machine → Machine
  seen m = record m { caches = used (references m) 1 m.caches }

  -- nothing refers to the cache
  abbrev pub is_hidden : Machine → ℕ → Bool
  is_hidden m n = option_map_or (goes (references m) n) (cache_of m n) false

  pub mapped_stays : (m : Machine) (n : ℕ) (s : Option ℕ) → is_mapped m n ≡ true → option_map_or (λ seg. not (nat_lt 0 (openings seg) || is_mapped m n)) s false ≡ false
  mapped_stays m n None e = refl
  mapped_stays m n (Some seg) e = ap (λ (b : Bool). not (nat_lt 0 (openings seg) || b)) e ∙ by (nat_lt 0 (openings seg))
    where
      by : (b : Bool) → not (b || true) ≡ false
      by true = refl
      by false = refl

  seen_cache : (m : Machine) (n : ℕ) → is_hidden m n ≡ false → cache_of (seen m) n ≡ cache_of m n
  seen_cache m n e = numbered_used (references m) m.caches n ∙ by (cache_of m n) e
    where
      by : (o : Option Cache) → option_map_or (goes (references m) n) o false ≡ false → used_at (references m) n o ≡ o
      by None e = refl
      by (Some c) e = ap (λ (b : Bool). cond b None (Some c)) e

  hidden_cache : (m : Machine) (n : ℕ) → is_hidden m n ≡ true → cache_of (seen m) n ≡ None
  hidden_cache m n e = numbered_used (references m) m.caches n ∙ by (cache_of m n) e
    where
      by : (o : Option Cache) → option_map_or (goes (references m) n) o false ≡ true → used_at (references m) n o ≡ None
      by None e = refl
      by (Some c) e = ap (λ (b : Bool). cond b None (Some c)) e

  -- one is put in place of one that is seen
  put_used : (m : Machine) (n : ℕ) (c d : Cache) → cache_of m n ≡ Some c → d.segment ≡ c.segment → is_hidden m n ≡ false → used (references (put_cache m n d)) 1 (set m.caches (n - 1) (Some d)) ≡ set (used (references m) 1 m.caches) (n - 1) (Some d)
  put_used m n c d there same e =
      let some = (numbered_place m.caches n c there).0 in
      let stays : goes (references m) n c ≡ false = sym (ap (λ (o : Option Cache). option_map_or (goes (references m) n) o false) there) ∙ e in
      let number : 1 + (n - 1) ≡ n = omega (arith, some) in
      used_same (references m) (references (put_cache m n d)) refl refl 1 (set m.caches (n - 1) (Some d))
      ∙ set_used (references m) 1 m.caches (n - 1) (Some d)
      ∙ ap (λ (o : Option Cache). set (used (references m) 1 m.caches) (n - 1) o)
      (ap (λ (b : Bool). cond b None (Some d)) (ap (λ (k : ℕ). goes (references m) k d) number ∙ ap (λ (s : Option ℕ). option_map_or (λ seg. not (nat_lt 0 (openings seg) || is_mapped m n)) s false) same ∙ stays))

  used_goes : (m n : ReferenceMachine) → ((k : ℕ) (c : Cache) → goes n k c ≡ goes m k c) → (k : ℕ) (xs : Caches) → used n k xs ≡ used m k xs
  used_goes m n same k [] = refl
  used_goes m n same k (None ∷ xs) = λ i. None ∷ used_goes m n same (k + 1) xs i
  used_goes m n same k (Some c ∷ xs) = λ i. cond (same k c i) None (Some c) ∷ used_goes m n same (k + 1) xs i

  mapped_seen : (m : Machine) (n : ℕ) → is_mapped m n ≡ true → is_hidden m n ≡ false
  mapped_seen m n mapped = by (cache_of m n)
    where
      by : (o : Option Cache) → option_map_or (goes (references m) n) o false ≡ false
      by None = refl
      by (Some c) = mapped_stays m n c.segment mapped

  pub view : IsView (λ m. used (references m) 1 m.caches) is_hidden (λ m. Unit {0})
  view = record {
    shown = seen_cache;
    none = hidden_cache;
    put = put_used;
    mapped = λ m fit n is. mapped_seen m n is;
    actor = λ m. used_goes (references m) (references (record m { actors = m.actors ++ Some [] ∷ [] })) (λ k c j. option_map_or (λ seg. not (nat_lt 0 (openings seg) || actor_mapped m.actors k j)) c.segment false) 1 m.caches;
  }
