-- Lines of scripts of message ports: which are none of their own.
use Rattle.std.proofs.Common.{◌≡◌, ◌<◌, ◌⊎◌, ℕ, Bool, true, false, List, [], ◌∷◌, length, Option, None, Some, Err, refl, arith}
use Rattle.std.specs.Prelude.{option_and_then, bytes_eq, codes, if◌then◌else◌}
use Rattle.vm_ids.specs.declared.command.PortCommand.{PortCommand}
use Rattle.vm_ids.specs.declared.refusal.Refusal.TheVariants.{BadLine}
use Rattle.actor_script.specs.Words.{words_of}
use Rattle.actor_script.specs.Forms.{asked_by, extent_of}
use Rattle.actor_script.specs.PortForms.{port_of, port_form, send_form, receive_form, port_verb_form, own_form_of}
use Rattle.actor_script.proofs.Forms.{not_asked}

-- none of the forms has more than six operands

no_port : (xs : List (List ℕ)) → 6 < length xs → port_form xs ≡ None
unfolding port_form
no_port [] h = refl
no_port (a ∷ []) h = absurd (omega arith)
no_port (a ∷ b ∷ xs) h = refl

then_none : {A B : Type 0} (o : Option A) (f : A → Option B) → ((x : A) → f x ≡ None) → option_and_then f o ≡ None
then_none None f none = refl
then_none (Some x) f none = none x

no_send : (xs : List (List ℕ)) → 6 < length xs → send_form xs ≡ None
unfolding send_form extent_of
no_send [] h = refl
no_send (a ∷ []) h = absurd (omega arith)
no_send (a ∷ b ∷ []) h = absurd (omega arith)
no_send (a ∷ b ∷ c ∷ []) h = absurd (omega arith)
no_send (a ∷ b ∷ c ∷ d ∷ []) h = absurd (omega arith)
no_send (a ∷ b ∷ c ∷ d ∷ e ∷ xs) h = then_none (port_of a) _ (λ q. refl)

no_receive : (xs : List (List ℕ)) → 6 < length xs → receive_form xs ≡ None
unfolding receive_form
no_receive [] h = refl
no_receive (a ∷ []) h = absurd (omega arith)
no_receive (a ∷ b ∷ []) h = absurd (omega arith)
no_receive (a ∷ b ∷ c ∷ []) h = absurd (omega arith)
no_receive (a ∷ b ∷ c ∷ d ∷ xs) h = refl

neither : (b : Bool) (o p : Option PortCommand) → o ≡ None → p ≡ None → (if b then o else p) ≡ None
neither true o p e f = e
neither false o p e f = f

no_verb : (verb : List ℕ) (xs : List (List ℕ)) → 6 < length xs → port_verb_form verb xs ≡ None
unfolding port_verb_form
no_verb verb xs h =
    neither (bytes_eq verb (codes "port")) _ _ (no_port xs h) (
    neither (bytes_eq verb (codes "send")) _ _ (no_send xs h) (
    neither (bytes_eq verb (codes "receive")) _ _ (no_receive xs h) refl))

no_longer : (words : List (List ℕ)) → 7 < length words → own_form_of words ≡ None
no_longer [] h = refl
no_longer (verb ∷ operands) h = no_verb verb operands (omega arith)

pub not_own : (line : List ℕ) → (256 < length line) ⊎ (7 < length (words_of line)) → asked_by own_form_of line ≡ Err BadLine
not_own line h = not_asked own_form_of no_longer line h
