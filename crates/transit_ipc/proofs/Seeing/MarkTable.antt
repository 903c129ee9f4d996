-- The table of the caches in which messages wait, as ports and messages come and go.
use Rattle.std.proofs.Common.{◌≡◌, ◌≢◌, inl, inr, ℕ, zero, suc, ◌<◌, ◌≤◌, Bool, true, false, List, [], ◌∷◌, ◌++◌, length, set, drop, replicate, Option, Some, refl, sym, ap, ◌∙◌, arith}
use Rattle.std.specs.Prelude.{◌==◌, ◌||◌, slice_get}
use Rattle.std.specs.List.{list_any}
use Rattle.std.specs.Option.{option_map_or}
use Rattle.std.proofs.lemmas.Bool.{cases_eq, or_right}
use Rattle.std.proofs.lemmas.Bool.Decides.{nat_tests}
use Rattle.std.proofs.lemmas.List.{length-set}
use Rattle.std.proofs.lemmas.List.Folds.{list_any-append}
use Rattle.vm_model.proofs.Parts.Lists.{get_set_other, get_set_same}
use Rattle.interface_callers.proofs.Words.{MOST_MADE}
use Rattle.interface_callers.proofs.Lists.{or_false}
use Rattle.transit_ipc.specs.Transit.{IsTable, is_marked, is_transit, waits_in}
use Rattle.transit_ipc.specs.Tying.{AreApart}
use Rattle.transit_ipc.specs.declared.port.Message.{Message}
use Rattle.transit_ipc.specs.declared.port.Port.{Port}
use Rattle.transit_ipc.proofs.Commands.PortMade.{transit_same}
use Rattle.transit_ipc.proofs.Seeing.Messages.{has_number, waiting_hides}
use Rattle.transit_ipc.proofs.Seeing.OnePort.{hidden_as, hidden_by}
use Rattle.transit_ipc.proofs.Seeing.FirstTaken.{hidden_still, none_left}

-- Marks

blank : (k n : ℕ) → is_marked (replicate k false) n ≡ false
blank zero n = refl
blank (suc k) zero = refl
blank (suc k) (suc n) = blank k n

pub marked_longer : (table : List Bool) (k n : ℕ) → is_marked (table ++ replicate k false) n ≡ is_marked table n
marked_longer [] k n = blank k n
marked_longer (b ∷ table) k zero = refl
marked_longer (b ∷ table) k (suc n) = marked_longer table k n

pub marked_within : (table : List Bool) (n : ℕ) → is_marked table n ≡ true → n < length table
marked_within [] n e = absurd (cc e)
marked_within (b ∷ table) zero e = omega arith
marked_within (b ∷ table) (suc n) e = omega (arith, marked_within table n e)

marked_at : (table : List Bool) (n : ℕ) (b : Bool) → n < length table → is_marked (set table n b) n ≡ b
marked_at table n b within = ap (λ (o : Option Bool). option_map_or (λ (x : Bool). x) o false) (get_set_same table n b within)

marked_other : (table : List Bool) (n k : ℕ) (b : Bool) → k ≢ n → is_marked (set table n b) k ≡ is_marked table k
marked_other table n k b apart = ap (λ (o : Option Bool). option_map_or (λ (x : Bool). x) o false) (get_set_other table n k b apart)

-- The table

pub table_longer : (ports : List Port) (was now : List Bool) → IsTable ports was → ((n : ℕ) → is_marked now n ≡ is_marked was n) → length was ≤ length now → IsTable ports now
table_longer ports was now t same more = record {
  tells = λ n. same n ∙ t.tells n;
  covers = λ some. omega (arith, t.covers some, more);
}

pub table_more : (ports : List Port) (table : List Bool) (fresh : Port) → fresh.messages.items ≡ [] → IsTable ports table → MOST_MADE < length table → IsTable (ports ++ fresh ∷ []) table
table_more ports table fresh bare t many = record {
  tells = λ n. t.tells n ∙ ap (λ (hidden : ℕ → Bool). hidden n) (sym (transit_same ports fresh bare));
  covers = λ some. many;
}

module _ (ports : List Port) (table : List Bool) (t : IsTable ports table) (place : ℕ) (p q : Port) (there : slice_get ports place ≡ Some p) where
  -- the messages stay
  pub table_same : q.messages.items ≡ p.messages.items → IsTable (set ports place q) table
  table_same same = record {
    tells = λ n. t.tells n ∙ sym (hidden_as ports place p q there n (ap (λ (ms : List Message). list_any (has_number n) ms) same));
    covers = λ some. t.covers (omega (arith, some, length-set ports place q));
  }

  -- a message comes
  pub table_sent : (x : Message) → q.messages.items ≡ p.messages.items ++ x ∷ [] → x.cache.0 < length table → IsTable (set ports place q) (set table x.cache.0 true)
  table_sent x pushed within = record {
    tells = λ n. elim (cases_eq n x.cache.0) [
      | inl e ↦ ap (is_marked (set table x.cache.0 true)) e ∙ marked_at table x.cache.0 true within ∙ sym (hidden_by ports place p q there n (waits_now n ∙ last n (sym e)))
      | inr apart ↦ marked_other table x.cache.0 n true apart ∙ t.tells n ∙ sym (hidden_as ports place p q there n (waits_now n ∙ other n apart))
    ];
    covers = λ some. omega (arith, t.covers (let s : 1 ≤ length ports = omega (arith, some, length-set ports place q) in s), length-set table x.cache.0 true);
  }
    where
      waits_now : (n : ℕ) → waits_in n q ≡ (waits_in n p || ((x.cache.0 == n) || false))
      waits_now n = ap (λ (ms : List Message). list_any (has_number n) ms) pushed ∙ list_any-append (has_number n) p.messages.items (x ∷ [])

      or_last : (b c : Bool) → c ≡ true → (b || (c || false)) ≡ true
      or_last b true e = or_right b true refl
      or_last b false e = absurd (cc e)

      last : (n : ℕ) → x.cache.0 ≡ n → (waits_in n p || ((x.cache.0 == n) || false)) ≡ true
      last n e = or_last (waits_in n p) (x.cache.0 == n) (grind (arith, nat_tests))

      other : (n : ℕ) → n ≢ x.cache.0 → (waits_in n p || ((x.cache.0 == n) || false)) ≡ waits_in n p
      other n apart = ap (λ (b : Bool). waits_in n p || (b || false)) (let e : (x.cache.0 == n) ≡ false = grind (arith, nat_tests) in e) ∙ or_false (waits_in n p) false refl

  module _ (x : Message) (first : slice_get p.messages.items 0 ≡ Some x) where
    -- the first message is in the table
    pub first_within : x.cache.0 < length table
    first_within = marked_within table x.cache.0 (t.tells x.cache.0 ∙ waiting_hides ports place 0 x (record { port = p; there = there; has = first }))

    -- the first message goes
    pub table_taken : AreApart ports → q.messages.items ≡ drop 1 p.messages.items → IsTable (set ports place q) (set table x.cache.0 false)
    table_taken apart rest = record {
      tells = λ n. elim (cases_eq n x.cache.0) [
        | inl e ↦ ap (is_marked (set table x.cache.0 false)) e ∙ marked_at table x.cache.0 false first_within ∙ sym (ap (is_transit (set ports place q)) e ∙ none_left ports place p q there x first rest apart)
        | inr other ↦ marked_other table x.cache.0 n false other ∙ t.tells n ∙ sym (hidden_still ports place p q there x first rest n other)
      ];
      covers = λ some. omega (arith, t.covers (let s : 1 ≤ length ports = omega (arith, some, length-set ports place q) in s), length-set table x.cache.0 false);
    }
