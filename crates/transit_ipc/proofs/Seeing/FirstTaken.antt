-- The first message of a port is taken out: which messages are left.
use Rattle.std.proofs.Common.{◌≡◌, ◌≢◌, ◌⊎◌, inl, inr, ◌==◌, ℕ, suc, Bool, false, List, [], ◌∷◌, set, drop, Some, refl, sym, ap, ◌∙◌, arith}
use Rattle.std.specs.List.{list_any}
use Rattle.std.specs.Prelude.{◌||◌, slice_get}
use Rattle.vm_model.proofs.Parts.ListParts.{get_drop}
use Rattle.interface_callers.proofs.Lists.{either}
use Rattle.transit_ipc.specs.Transit.{is_transit}
use Rattle.transit_ipc.specs.Tying.{AreApart, Waits}
use Rattle.transit_ipc.specs.declared.port.Message.{Message}
use Rattle.transit_ipc.specs.declared.port.Port.{Port}
use Rattle.transit_ipc.proofs.Seeing.PageCounts.{other_number}
use Rattle.transit_ipc.proofs.Seeing.Messages.{has_number, hidden_waits}
use Rattle.transit_ipc.proofs.Seeing.OnePort.{hidden_as, waits_or}

-- without its first message a list has the same others
any_rest : (n : ℕ) (x : Message) (ms : List Message) → slice_get ms 0 ≡ Some x → (x.cache.0 == n) ≡ false → list_any (has_number n) (drop 1 ms) ≡ list_any (has_number n) ms
any_rest n x [] first other = refl
any_rest n x (y ∷ ms) first other = let same : y ≡ x = cc first in ap (λ (b : Bool). b || list_any (has_number n) ms) (sym (ap (has_number n) same ∙ other))

module _ (ports : List Port) (place : ℕ) (p q : Port) (there : slice_get ports place ≡ Some p) (x : Message) (first : slice_get p.messages.items 0 ≡ Some x) (rest : q.messages.items ≡ drop 1 p.messages.items) where
  abbrev later : List Port
  later = set ports place q

  -- where it waited before
  abbrev pub Left : ℕ → ℕ → Message → Type 0
  Left i j y = ((i ≡ place) × Waits ports place (suc j) y) ⊎ ((i ≢ place) × Waits ports i j y)

  pub left : (i j : ℕ) (y : Message) → Waits later i j y → Left i j y
  left i j y w = elim (waits_or ports place p q there i j y w) [
    | inl h ↦ inl (
      h.0,
      record {
        port = p;
        there = there;
        has = sym (get_drop 1 p.messages.items j (suc j) (omega arith)) ∙ ap (λ (ms : List Message). slice_get ms j) (sym rest) ∙ h.1;
      },
    )
    | inr h ↦ inr h
  ]

  pub hidden_still : (l : ℕ) → l ≢ x.cache.0 → is_transit later l ≡ is_transit ports l
  hidden_still l a = hidden_as ports place p q there l (ap (λ (ms : List Message). list_any (has_number l) ms) rest ∙ any_rest l x p.messages.items first (other_number x.cache.0 l a))

  module _ (apart : AreApart ports) where
    pub another : (i j : ℕ) (y : Message) → Left i j y → y.cache.0 ≢ x.cache.0
    another i j y (inl h) same = let wrong : suc j ≡ 0 = (apart place (suc j) place 0 y x h.1 (record { port = p; there = there; has = first }) same).1 in absurd (omega (arith, wrong))
    another i j y (inr h) same = h.0 (apart i j place 0 y x h.1 (record { port = p; there = there; has = first }) same).0

    -- no message waits in its cache any more
    pub none_left : is_transit later x.cache.0 ≡ false
    none_left = elim (either (is_transit later x.cache.0)) [
      | inl e ↦ (let w = hidden_waits later x.cache.0 e in absurd (another w.place w.turn w.message (left w.place w.turn w.message w.waits) w.number))
      | inr e ↦ e
    ]
