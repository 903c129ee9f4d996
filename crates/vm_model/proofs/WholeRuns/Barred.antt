-- What the worked script of two pages in transit bars.
use Rattle.std.proofs.Common.{◌≡◌, ◌≢◌, ◌⊎◌, ◌∙◌, ◌<◌, ℕ, Bool, true, false, List, [], ◌∷◌, Option, None, Some, refl, sym, ap, arith, inl, inr}
use Rattle.std.specs.Prelude.{Ok}
use Rattle.vm_ids.specs.Counting.{no_counts}
use Rattle.vm_ids.specs.declared.command.Command.TheVariants as commands
use Rattle.vm_ids.specs.declared.reply.Reply.{Reply}
use Rattle.vm_model.specs.Answering.{Answer}
use Rattle.vm_model.specs.Run.{Read, State, command_semantics}
use Rattle.vm_model.specs.Steps.{Step}
use Rattle.vm_model.specs.Events.{IsDelivery, IsLine, IsOver, IsParted, IsPause, Stand}
use Rattle.vm_model.specs.Events.IsParted.{taken, left}
use Rattle.vm_model.specs.InOrder.{AreApart}
use Rattle.vm_model.specs.Rows.{store}
use Rattle.vm_model.specs.Transit.{DeliveriesGoByTurns, LinesWait, OthersAreOutOfOrder, both_wait, load_by, one_pull, one_waits, step_at, two_loads}

-- What may not be

-- what a test can't say

no_free : true ≡ false → ⊥
no_free e = cc e

no_ask : false ≡ true → ⊥
no_ask e = cc e

no_turn : (place : ℕ) → (let none : Option ℕ = None in none) ≡ Some place → ⊥
no_turn place e = cc e

not_empty : (x : ℕ × Read) (xs : List (ℕ × Read)) → x ∷ xs ≡ [] → ⊥
not_empty x xs e = cc e

other_waits : (asking : Bool) (s : State) (x : Step Read) (after : Stand command_semantics) → IsLine command_semantics two_loads (both_wait asking s) x after → ⊥
other_waits true s x after h = no_free h.free
other_waits false s x after h = no_free h.free

not_over : (asking : Bool) (s : State) → IsOver command_semantics two_loads (both_wait asking s) → ⊥
not_over asking s h = not_empty _ _ h.parked

pub lines_wait : LinesWait
lines_wait = record {
  other = other_waits;
  end = not_over;
  unasked = λ s x after h. no_free h.free;
  unasked_park = λ s number read after h. no_free h.free;
  own = λ s x after h. no_free h.free;
  own_park = λ s number read after h. no_free h.free;
}

not_named : (s : State) (x : Step Read) (others : List (Step Read)) (after : Stand command_semantics) → IsDelivery command_semantics two_loads (both_wait false s) (Some 1) 0 x others after → ⊥
not_named s x others after h = let same : 1 ≡ 0 = h.place_is in omega (arith, same)

not_oldest : (s : State) (x : Step Read) (others : List (Step Read)) (after : Stand command_semantics) → IsDelivery command_semantics two_loads (both_wait false s) None 1 x others after → ⊥
not_oldest s x others after h = let same : 0 ≡ 1 = h.place_is in omega (arith, same)

not_yet : (s : State) (place : ℕ) (x : Step Read) (others : List (Step Read)) (after : Stand command_semantics) → IsDelivery command_semantics two_loads (both_wait true s) None place x others after → ⊥
not_yet s place x others after h = no_turn place h.place_is

not_idle : (s : State) (asking : Bool) (after : Stand command_semantics) → IsPause command_semantics two_loads (record (both_wait asking s) { parked = [] }) after → ⊥
not_idle s true after h = no_ask h.asked
not_idle s false after h = no_ask h.asked

nothing_came : (s : State) (asking : Bool) (turn : Option ℕ) (place : ℕ) (reply : Reply) (others : List (Step Read)) (after : Stand command_semantics)
    → IsDelivery command_semantics two_loads (both_wait asking s) turn place (step_at 9 (load_by 1 65536) (Ok reply) no_counts) others after → ⊥
nothing_came s asking turn place reply others after h = by h.came
  where
    by : (0 < 0) ⊎ ⊥ → ⊥
    by (inl l) = omega arith
    by (inr n) = n

pulled_at_issue : (s : State) (answer : Answer) (after : Stand command_semantics) → IsLine command_semantics two_loads (one_waits false s) (step_at 10 (load_by 2 65538) answer one_pull) after → ⊥
pulled_at_issue s answer after h = let same : 1 ≡ 0 = h.no_pull refl in omega (arith, same)

-- the first element is taken, or left
parted_first : {A : Type 0} {x t : A} {xs ts ls : List A} → IsParted (x ∷ xs) (t ∷ ts) ls → ((x ≡ t) × IsParted xs ts ls) ⊎ ((ms : List A) × IsParted xs (t ∷ ts) ms)
parted_first (taken p) = inl (refl, p)
parted_first (left {ls = ms} p) = inr (ms, p)

none_taken : {A : Type 0} {t : A} {ts ls : List A} → IsParted [] (t ∷ ts) ls → ⊥
none_taken p = elim p [ ]

-- the last of three isn't taken before the second
out_of_order : {A : Type 0} (p q r : A) → p ≢ r → q ≢ r → (rest : List A) → IsParted (p ∷ q ∷ r ∷ []) (r ∷ q ∷ []) rest → ⊥
out_of_order p q r first second rest h = elim (parted_first h) [
  | inl e ↦ first e.0
  | inr e ↦ elim (parted_first e.1) [
    | inl f ↦ second f.0
    | inr f ↦ elim (parted_first f.1) [ inl g ↦ none_taken g.1 | inr g ↦ none_taken g.1 ]
  ]
]

out_of_turn : (a b c : Read) (rest : List (ℕ × Read)) → IsParted ((9, a) ∷ (10, b) ∷ (11, c) ∷ []) ((11, c) ∷ (10, b) ∷ []) rest → ⊥
out_of_turn a b c rest h = out_of_order (9, a) (10, b) (11, c) one other rest h
  where
    one : (let p : ℕ × Read = (9, a) in p) ≡ (11, c) → ⊥
    one e = let same : 9 ≡ 11 = ap (λ (p : ℕ × Read). p.0) e in omega (arith, same)

    other : (let p : ℕ × Read = (10, b) in p) ≡ (11, c) → ⊥
    other e = let same : 10 ≡ 11 = ap (λ (p : ℕ × Read). p.0) e in omega (arith, same)

pub deliveries_go_by_turns : DeliveriesGoByTurns
deliveries_go_by_turns = record {
  named = not_named;
  oldest = not_oldest;
  none = not_yet;
  again = λ s after h. no_ask h.first;
  idle = not_idle;
  pulled = nothing_came;
  at_issue = pulled_at_issue;
  in_turn = out_of_turn;
}

-- Lines out of order.

too_soon : (11 < 10) ⊎ AreApart command_semantics (Ok commands.Stat) (Ok (load_by 2 65538)) → ⊥
too_soon (inl l) = omega (arith, l)
too_soon (inr a) = no_turn a.one a.one_is

crosswise : (7 < 6) ⊎ AreApart command_semantics (Ok (store 65538 2)) (Ok (store 65536 1)) → ⊥
crosswise (inl l) = omega (arith, l)
crosswise (inr a) =
    let one : 1 ≡ a.one = same_actor 1 a.one a.one_is in
    let other : 1 ≡ a.other = same_actor 1 a.other a.other_is in
    a.apart (sym one ∙ other)
  where
    same_actor : (m n : ℕ) → Some m ≡ Some n → m ≡ n
    same_actor m n e = cc e

pub others_are_out_of_order : OthersAreOutOfOrder
others_are_out_of_order = record {
  other = λ h. too_soon (h.order 9 10 (0, Ok commands.Stat) (omega arith) (omega arith));
  own = λ h. crosswise (h.order 5 6 (0, Ok commands.Stat) (omega arith) (omega arith));
}
