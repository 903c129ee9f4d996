-- One port becomes another: which messages wait, and which caches they hide.
use Rattle.std.proofs.Common.{◌≡◌, ◌≢◌, ◌⊎◌, inl, inr, ℕ, zero, suc, ◌+◌, ◌<◌, ◌≤◌, Bool, true, false, cond, List, [], ◌∷◌, length, set, Option, Some, None, refl, sym, ap, ◌∙◌, arith}
use Rattle.std.specs.Prelude.{slice_get}
use Rattle.std.proofs.lemmas.Bool.{cases_eq}
use Rattle.std.proofs.lemmas.Option.{slice_get_within}
use Rattle.vm_model.proofs.Parts.Lists.{get_set_other, get_set_same}
use Rattle.interface_callers.proofs.Words.{Cache}
use Rattle.interface_callers.proofs.Lists.{any_at}
use Rattle.interface_callers.proofs.Mapped.{any_set}
use Rattle.transit_ipc.specs.Seen.{but_for}
use Rattle.transit_ipc.specs.Transit.{is_transit, waits_in}
use Rattle.transit_ipc.specs.Tying.{Waits}
use Rattle.transit_ipc.specs.declared.port.Message.{Message}
use Rattle.transit_ipc.specs.declared.port.Port.{Port}

-- The ports

module _ (ports : List Port) (place : ℕ) (p q : Port) (there : slice_get ports place ≡ Some p) where
  abbrev pub replaced : List Port
  replaced = set ports place q

  within : place < length ports
  within = slice_get_within ports place p there

  -- a message of the new port, or of another
  pub waits_or : (i j : ℕ) (x : Message) → Waits replaced i j x → ((i ≡ place) × (slice_get q.messages.items j ≡ Some x)) ⊎ ((i ≢ place) × Waits ports i j x)
  waits_or i j x w = elim (cases_eq i place) [
    | inl e ↦ inl (e, (let both : Some w.port ≡ Some q = sym w.there ∙ ap (slice_get replaced) e ∙ get_set_same ports place q within in let same : w.port ≡ q = cc both in ap (λ (r : Port). slice_get r.messages.items j) (sym same) ∙ w.has))
    | inr other ↦ inr (other, record { port = w.port; there = sym (get_set_other ports place i q other) ∙ w.there; has = w.has })
  ]

  -- the new port, or another
  pub port_or : (i : ℕ) (r : Port) → slice_get replaced i ≡ Some r → (r ≡ q) ⊎ (slice_get ports i ≡ Some r)
  port_or i r e = elim (cases_eq i place) [
    | inl at ↦ inl (let both : Some r ≡ Some q = sym e ∙ ap (slice_get replaced) at ∙ get_set_same ports place q within in cc both)
    | inr other ↦ inr (sym (get_set_other ports place i q other) ∙ e)
  ]

  -- a cache that the new port hides as the old one did
  pub hidden_as : (n : ℕ) → waits_in n q ≡ waits_in n p → is_transit replaced n ≡ is_transit ports n
  hidden_as n same = any_set (waits_in n) false ports place p q there same

  pub hidden_by : (n : ℕ) → waits_in n q ≡ true → is_transit replaced n ≡ true
  hidden_by n is = any_at (waits_in n) replaced place q (get_set_same ports place q within) is

-- Which caches are seen

abbrev shown : Bool → Option Cache → Option Cache
shown hidden c = cond hidden None c

-- the same are hidden
pub same_hidden : (h g : ℕ → Bool) (k : ℕ) (xs : List (Option Cache)) → ((n : ℕ) → k ≤ n → n < k + length xs → g n ≡ h n) → but_for g k xs ≡ but_for h k xs
same_hidden h g k [] s = refl
same_hidden h g k (x ∷ xs) s = λ i. shown (s k (omega arith) (omega arith) i) x ∷ same_hidden h g (k + 1) xs (λ n more less. s n (omega (arith, more)) (omega (arith, less))) i

gone : (b c : Bool) (x : Option Cache) → b ≡ true → shown c None ≡ shown b x
gone true true x e = refl
gone true false x e = refl
gone false c x e = absurd (cc e)

-- one that was hidden is gone, and needs no hiding any more
pub gone_hidden : (h g : ℕ → Bool) (k i : ℕ) (xs : List (Option Cache)) → h (k + i) ≡ true → ((n : ℕ) → n ≢ k + i → g n ≡ h n) → but_for g k (set xs i None) ≡ but_for h k xs
gone_hidden h g k i [] was s = refl
gone_hidden h g k zero (x ∷ xs) was s =
    λ j. gone (h k) (g k) x (ap h (let e : k ≡ k + 0 = omega arith in e) ∙ was) j ∷ same_hidden h g (k + 1) xs (λ n more less. s n (λ e. let same : n ≡ k + 0 = e in absurd (omega (arith, same, more)))) j
gone_hidden h g k (suc i) (x ∷ xs) was s =
    λ j. shown (s k (λ e. let same : k ≡ k + suc i = e in absurd (omega (arith, same))) j) x
    ∷ gone_hidden h g (k + 1) i xs (ap h (let e : k + 1 + i ≡ k + suc i = omega arith in e) ∙ was) (λ n other. s n (λ e. let same : n ≡ k + suc i = e in other (omega (arith, same)))) j
