-- The entries of numbers, read through their places.
use Rattle.std.proofs.Common.{◌≡◌, ◌≢◌, ℕ, List, [], ◌∷◌, Option, Some, None, cond, Bool, true, false, refl, sym, ap, ◌∙◌, inl, inr}
use Rattle.std.proofs.lemmas.Bool.{cases_eq, cond-true, cond-false}
use Rattle.std.specs.Ordering.{nat_cmp, eq_by_cmp}
use Rattle.std.specs.Cmp.{nat_cmp_total}
use Rattle.std.specs.FinMap.{FinMap, get-empty, get-entries, get-insert, get-remove}
use Rattle.std.specs.FinMap.Entries.{find}
use Rattle.std.specs.FinMap as map
use Rattle.slab.specs.Slab.{Slab, get, ContainsKey, Updates}
use Rattle.mixed_map.specs.Lone.{filled, Lone, slot_at, written}
use Rattle.mixed_map.proofs.Maps.{insert_other, insert_same, is_not_none, remove_other, remove_same, same, tied, untied}

module _ {S : Type 0} where
  get_written : (m : FinMap nat_cmp S) (n : ℕ) (o : Option S) (q : ℕ) → map.get (written m n o) q ≡ cond (eq_by_cmp nat_cmp q n) o (map.get m q)
  get_written m n None q = get-remove nat_cmp_total m n q
  get_written m n (Some x) q = get-insert nat_cmp_total m n x q

  by_test : (slots : Slab S) (p : ℕ) (o : Option ℕ) (here : Option S) (b : Bool) → here ≡ slot_at slots o → cond b (get slots p) here ≡ slot_at slots (cond b (Some p) o)
  by_test slots p o here true e = refl
  by_test slots p o here false e = e

  found_filled : (slots : Slab S) (es : List (ℕ × ℕ)) (q : ℕ) → map.get (filled slots es) q ≡ slot_at slots (find nat_cmp q es)
  unfolding filled
  found_filled slots [] q = get-empty nat_cmp q
  found_filled slots (e ∷ es) q =
      get_written (filled slots es) e.0 (get slots e.1) q
      ∙ by_test slots e.1 (find nat_cmp q es) (map.get (filled slots es) q) (eq_by_cmp nat_cmp q e.0) (found_filled slots es q)

  -- what stands at the place of a number
  get_filled : (slots : Slab S) (places : FinMap nat_cmp ℕ) (q : ℕ) → map.get (filled slots (map.entries places)) q ≡ slot_at slots (map.get places q)
  get_filled slots places q = found_filled slots (map.entries places) q ∙ ap (slot_at slots) (sym (get-entries places q))

  -- what a contract sees
  abbrev pub the_lone : FinMap nat_cmp S → FinMap nat_cmp ℕ → ℕ → Lone S
  the_lone m at room = record { entries = m; slots = at; room = room }

  pub seen : (m n : FinMap nat_cmp S) (a b : FinMap nat_cmp ℕ) (r s : ℕ) → m ≡ n → a ≡ b → r ≡ s → the_lone m a r ≡ the_lone n b s
  seen m n a b r s e f g = λ i. record { entries = e i; slots = f i; room = g i }

  module _ (slots : Slab S) (places : FinMap nat_cmp ℕ) (l : Lone S) (room : ℕ) (view : the_lone (filled slots (map.entries places)) places room ≡ l) where
    -- the entry that a contract sees of a number
    pub get_seen : (n : ℕ) → map.get l.entries n ≡ slot_at slots (map.get places n)
    get_seen n = ap (λ (m : Lone S). map.get m.entries n) (sym view) ∙ get_filled slots places n

    -- the place of a number that has this one, by what a contract sees
    pub placed : (n p : ℕ) → map.get l.slots n ≡ Some p → map.get places n ≡ Some p
    placed n p at = ap (λ (m : Lone S). map.get m.slots n) view ∙ at

    -- the entry at a place
    pub entry_at : (n p : ℕ) → map.get l.slots n ≡ Some p → map.get l.entries n ≡ get slots p
    entry_at n p at = get_seen n ∙ ap (slot_at slots) (placed n p at)

    no_place : (o : Option ℕ) → ((p : ℕ) → o ≡ Some p → ContainsKey slots p) → slot_at slots o ≡ None → o ≡ None
    no_place None within e = refl
    no_place (Some p) within e = absurd (is_not_none (get slots p) (within p refl) e)

    -- a number without an entry has no place
    pub unplaced : (n : ℕ) → ((p : ℕ) → map.get places n ≡ Some p → ContainsKey slots p) → map.get l.entries n ≡ None → map.get places n ≡ None
    unplaced n within none = no_place (map.get places n) within (sym (get_seen n) ∙ none)

  -- the entry of one number changes
  refilled : (slots new : Slab S) (places others : FinMap nat_cmp ℕ) (n : ℕ) (o : Option S) → slot_at new (map.get others n) ≡ o → ((q : ℕ) → q ≢ n → slot_at new (map.get others q) ≡ slot_at slots (map.get places q)) → filled new (map.entries others) ≡ written (filled slots (map.entries places)) n o
  refilled slots new places others n o here rest = same _ _ (λ q.
      get_filled new others q ∙ elim (cases_eq q n) [
        | inl at ↦ ap (λ (k : ℕ). slot_at new (map.get others k)) at ∙ here ∙ sym (get_written _ n o q ∙ cond-true _ _ _ (tied q n at))
        | inr other ↦ rest q other ∙ sym (get_filled slots places q) ∙ sym (get_written _ n o q ∙ cond-false _ _ _ (untied q n other))
      ])

  -- the same slots, with other room
  pub filled_alike : (slots new : Slab S) (places : FinMap nat_cmp ℕ) → new.slots ≡ slots.slots → filled new (map.entries places) ≡ filled slots (map.entries places)
  filled_alike slots new places alike = same _ _ (λ q. get_filled new places q ∙ same_slot (map.get places q) ∙ sym (get_filled slots places q))
    where
      same_slot : (o : Option ℕ) → slot_at new o ≡ slot_at slots o
      same_slot None = refl
      same_slot (Some p) = ap (λ (l : List (Option S)). get (record slots { slots = l }) p) alike

  -- no number
  pub filled_none : (slots : Slab S) (places : FinMap nat_cmp ℕ) → places ≡ map.empty → filled slots (map.entries places) ≡ map.empty
  filled_none slots places none = same _ _ (λ q. get_filled slots places q ∙ ap (slot_at slots) (ap (λ (m : FinMap nat_cmp ℕ). map.get m q) none ∙ get-empty nat_cmp q) ∙ sym (get-empty nat_cmp q))

  module _ (slots new : Slab S) (places : FinMap nat_cmp ℕ) (n p : ℕ) (apart : (q r : ℕ) → q ≢ n → map.get places q ≡ Some r → r ≢ p) where
    other_slot : (x : Option S) → Updates slots new p x → (o : Option ℕ) → ((r : ℕ) → o ≡ Some r → r ≢ p) → slot_at new o ≡ slot_at slots o
    other_slot x updates None h = refl
    other_slot x updates (Some r) h = updates.others r (h r refl)

    -- a number more, at a place of its own
    pub filled_more : (x : S) → Updates slots new p (Some x) → filled new (map.entries (map.insert places n p)) ≡ map.insert (filled slots (map.entries places)) n x
    filled_more x updates =
        refilled slots new places (map.insert places n p) n (Some x) (ap (slot_at new) (insert_same places n p n refl) ∙ updates.changed)
        (λ q other. ap (slot_at new) (insert_other places n p q other) ∙ other_slot (Some x) updates (map.get places q) (λ r. apart q r other))

    -- another entry at the place of a number
    pub filled_set : (x : S) → map.get places n ≡ Some p → Updates slots new p (Some x) → filled new (map.entries places) ≡ map.insert (filled slots (map.entries places)) n x
    filled_set x at updates =
        refilled slots new places places n (Some x) (ap (slot_at new) at ∙ updates.changed)
        (λ q other. other_slot (Some x) updates (map.get places q) (λ r. apart q r other))

    -- a number less
    pub filled_less : Updates slots new p None → filled new (map.entries (map.remove places n)) ≡ map.remove (filled slots (map.entries places)) n
    filled_less updates =
        refilled slots new places (map.remove places n) n None (ap (slot_at new) (remove_same places n n refl))
        (λ q other. ap (slot_at new) (remove_other places n q other) ∙ other_slot None updates (map.get places q) (λ r. apart q r other))
