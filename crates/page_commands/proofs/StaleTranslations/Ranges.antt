-- The translations of a range, some pages after others.
use Rattle.std.proofs.Common.{◌≡◌, ℕ, zero, suc, ◌+◌, ◌-◌, ◌<◌, ◌≤◌, ◌||◌, Bool, true, false, List, [], ◌∷◌, ◌++◌, length, map, Option, Some, None, refl, sym, ap, ◌∙◌, subst, arith}
use Rattle.std.specs.List.{list_any}
use Rattle.std.proofs.lemmas.List.{length-map}
use Rattle.std.proofs.lemmas.List.Folds.{list_any-append}
use Rattle.vm_ids.specs.Held.{Held}
use Rattle.vm_ids.specs.declared.node_name.NodeName.{NodeName}
use Rattle.vm_ids.specs.declared.numbers.CacheId.{CacheId}
use Rattle.vm_ids.specs.Forest.Commands.{page_name, page_names}
use Rattle.local_cache.specs.Arena.{Arena}
use Rattle.page_tables.specs.Entries.{is_in_frame}
use Rattle.page_tables.specs.Translations.{narrowed, unless}
use Rattle.page_tables.specs.declared.entry.Entry.{Entry}
use Rattle.page_tables.proofs.Narrowing.{narrowed_as, narrowed_none, narrowed_twice}
use Rattle.residency.specs.declared.store.Store.{Store}
use Rattle.residency.specs.Translating.{without}
use Rattle.residency.specs.World.{IsTied, world}
use Rattle.residency.proofs.Translations.Dropped.{twice, without_as, without_none}
use Rattle.page_commands.specs.Steps.{IsStoreTied}
use Rattle.page_commands.specs.Translating.{is_frame, with_narrowed}
use Rattle.page_commands.proofs.Forgotten.Range.{names_end}

-- the names of so many pages, and of those behind them
names_apart : (c : CacheId) (p m r : ℕ) → page_names c p (m + r) ≡ page_names c p m ++ page_names c (p + m) r
names_apart c p zero r =
    let all : 0 + r ≡ r = omega arith in
    let from : p ≡ p + 0 = omega arith in
    λ k. page_names c (from k) (all k)
names_apart c p (suc m) r =
    let all : suc m + r ≡ suc (m + r) = omega arith in
    let from : p + 1 + m ≡ p + suc m = omega arith in
    ap (page_names c p) all ∙ ap (λ xs. page_name c p ∷ xs) (names_apart c (p + 1) m r ∙ ap (λ q. page_names c (p + 1) m ++ page_names c q r) from)

or_false : (b : Bool) → (b || false) ≡ b
or_false true = refl
or_false false = refl

-- The frames of some pages, where `at` tells the frame of each
module _ (at : NodeName → Option ℕ) where
  abbrev any_at : List NodeName → ℕ → Bool
  any_at names frame = list_any (λ x. is_frame (at x) frame) names

  one_at : (x : NodeName) (o : Option ℕ) → at x ≡ o → (f : ℕ) → is_frame o f ≡ any_at (x ∷ []) f
  one_at x o is f = ap (λ (p : Option ℕ). is_frame p f) (sym is) ∙ sym (or_false (is_frame (at x) f))

  any_both : (xs ys : List NodeName) (f : ℕ) → (any_at xs f || any_at ys f) ≡ any_at (xs ++ ys) f
  any_both xs ys f = sym (list_any-append (λ x. is_frame (at x) f) xs ys)

  -- pages of a range that are in no frame
  abbrev AreFrameless : CacheId → ℕ → ℕ → Type 0
  AreFrameless c p n = (k : ℕ) → k < n → at (page_name c (p + k)) ≡ None

  none_at : (c : CacheId) (p n : ℕ) → AreFrameless c p n → (f : ℕ) → false ≡ any_at (page_names c p n) f
  none_at c p zero none f = refl
  none_at c p (suc n) none f =
      let here : p + 0 ≡ p = omega arith in
      let first = ap (λ q. at (page_name c q)) (sym here) ∙ none 0 (omega arith) in
      none_at c (p + 1) n (λ k low. let next : p + 1 + k ≡ p + (k + 1) = omega arith in ap (λ q. at (page_name c q)) next ∙ none (k + 1) (omega arith)) f
      ∙ ap (λ (o : Option ℕ). is_frame o f || any_at (page_names c (p + 1) n) f) (sym first)

  module _ (tables : List (Option Entry)) where
    pub drop_nothing : (x : NodeName) → at x ≡ None → tables ≡ without (any_at (x ∷ [])) tables
    drop_nothing x is = sym (without_none tables) ∙ without_as (is_frame None) (any_at (x ∷ [])) tables (one_at x None is)

    pub drop_frame : (x : NodeName) (f : ℕ) → at x ≡ Some f → map (unless (is_in_frame f)) tables ≡ without (any_at (x ∷ [])) tables
    drop_frame x f is = without_as (is_frame (Some f)) (any_at (x ∷ [])) tables (one_at x (Some f) is)

    pub narrow_nothing : (x : NodeName) → at x ≡ None → tables ≡ with_narrowed (any_at (x ∷ [])) tables
    narrow_nothing x is = sym (narrowed_none tables) ∙ narrowed_as (is_frame None) (any_at (x ∷ [])) tables (one_at x None is)

    pub narrow_frame : (x : NodeName) (f : ℕ) → at x ≡ Some f → map (narrowed f) tables ≡ with_narrowed (any_at (x ∷ [])) tables
    narrow_frame x f is = narrowed_as (is_frame (Some f)) (any_at (x ∷ [])) tables (one_at x (Some f) is)

    pub drop_frameless : (c : CacheId) (p n : ℕ) → AreFrameless c p n → tables ≡ without (any_at (page_names c p n)) tables
    drop_frameless c p n none = sym (without_none tables) ∙ without_as (λ f. false) (any_at (page_names c p n)) tables (none_at c p n none)

    pub narrow_frameless : (c : CacheId) (p n : ℕ) → AreFrameless c p n → tables ≡ with_narrowed (any_at (page_names c p n)) tables
    narrow_frameless c p n none = sym (narrowed_none tables) ∙ narrowed_as (λ f. false) (any_at (page_names c p n)) tables (none_at c p n none)

    drop_then : (xs ys : List NodeName) → without (any_at ys) (without (any_at xs) tables) ≡ without (any_at (xs ++ ys)) tables
    drop_then xs ys = twice (any_at xs) (any_at ys) tables ∙ without_as (λ f. any_at xs f || any_at ys f) (any_at (xs ++ ys)) tables (any_both xs ys)

    narrow_then : (xs ys : List NodeName) → with_narrowed (any_at ys) (with_narrowed (any_at xs) tables) ≡ with_narrowed (any_at (xs ++ ys)) tables
    narrow_then xs ys = narrowed_twice (any_at xs) (any_at ys) tables ∙ narrowed_as (λ f. any_at xs f || any_at ys f) (any_at (xs ++ ys)) tables (any_both xs ys)

    module _ (c : CacheId) (p n i : ℕ) where
      abbrev left : List NodeName
      left = page_names c (p + i) (n - i)

      abbrev next : ℕ → List NodeName
      next m = page_names c (p + (i + m)) (n - (i + m))

      abbrev first : ℕ → List NodeName
      first m = page_names c (p + i) m

      first_and : (m : ℕ) → i + m ≤ n → first m ++ next m ≡ left
      first_and m low =
          let all : m + (n - (i + m)) ≡ n - i = omega arith in
          let from : p + (i + m) ≡ p + i + m = omega arith in
          ap (λ q. first m ++ page_names c q (n - (i + m))) from ∙ sym (names_apart c (p + i) m (n - (i + m))) ∙ ap (page_names c (p + i)) all

      pub drop_step : (m : ℕ) → i + m ≤ n → without (any_at (next m)) (without (any_at (first m)) tables) ≡ without (any_at left) tables
      drop_step m low = drop_then (first m) (next m) ∙ ap (λ (xs : List NodeName). without (any_at xs) tables) (first_and m low)

      pub narrow_step : (m : ℕ) → i + m ≤ n → with_narrowed (any_at (next m)) (with_narrowed (any_at (first m)) tables) ≡ with_narrowed (any_at left) tables
      narrow_step m low = narrow_then (first m) (next m) ∙ ap (λ (xs : List NodeName). with_narrowed (any_at xs) tables) (first_and m low)

      pub drop_end : n ≤ i → tables ≡ without (any_at left) tables
      drop_end over = sym (without_none tables) ∙ ap (λ (xs : List NodeName). without (any_at xs) tables) (sym (names_end c (p + i) n i over))

      pub narrow_end : n ≤ i → tables ≡ with_narrowed (any_at left) tables
      narrow_end over = sym (narrowed_none tables) ∙ ap (λ (xs : List NodeName). with_narrowed (any_at xs) tables) (sym (names_end c (p + i) n i over))

-- A store of which the translations alone changed
abbrev pub with_tables : Store → List (Option Entry) → Store
with_tables s tables = record s { tables = tables }

pub record OnlyTables (s t : Store) : Type 0 where
  pub is : t ≡ record s { tables = t.tables }
  pub places : length t.tables ≡ length s.tables

pub tables_mapped : (s t : Store) (h : Option Entry → Option Entry) → t ≡ record s { tables = map h s.tables } → OnlyTables s t
tables_mapped s t h e = record {
  is = e ∙ ap (λ (l : List (Option Entry)). record s { tables = l }) (sym (ap (λ (r : Store). r.tables) e));
  places = ap (λ (r : Store). length r.tables) e ∙ length-map s.tables h;
}

pub tables_then : (s t u : Store) → OnlyTables s t → OnlyTables t u → OnlyTables s u
tables_then s t u p q = record {
  is = q.is ∙ ap (λ (r : Store). record r { tables = u.tables }) p.is;
  places = q.places ∙ p.places;
}

-- the entries were changed one by one, and then again
pub tables_twice : (s t u : Store) (h k : Option Entry → Option Entry) → t ≡ record s { tables = map h s.tables } → u ≡ record t { tables = map k t.tables } → OnlyTables s u
tables_twice s t u h k one two = tables_then s t u (tables_mapped s t h one) (tables_mapped t u k two)

module _ (s t : Store) (only : OnlyTables s t) where
  pub same_map : t.map ≡ s.map
  same_map = ap (λ (r : Store). r.map) only.is

  -- it shows no other world
  pub same_world : (told : Option Held) (size : Option ℕ) (a : Arena) → world told size a t ≡ world told size a s
  same_world told size a = ap (λ (r : Store). world told size a r) only.is ∙ ap (λ (n : ℕ). record (world told size a s) { places = n }) only.places

  pub tied_still : (a : Arena) → IsStoreTied s a → IsStoreTied t a
  tied_still a tied = subst IsTied (sym (same_world None None a)) tied
