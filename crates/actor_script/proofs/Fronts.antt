-- The front of a line is read as the line.
use Rattle.std.proofs.Common.{◌≡◌, ◌<◌, ℕ, List, Option, length, take, Err, sym, ap, ◌∙◌, arith, inl, inr}
use Rattle.std.specs.Prelude.{ok_or}
use Rattle.std.proofs.lemmas.Bool.{cases_lt, cond_below}
use Rattle.std.proofs.lemmas.List.{take_all, length-take}
use Rattle.vm_ids.specs.declared.refusal.Refusal.TheVariants.{BadLine}
use Rattle.actor_script.specs.Words.{words_of}
use Rattle.actor_script.specs.Forms.{asked_by, command_of, form_of}
use Rattle.actor_script.specs.KeepForms.{keep_command_of, keep_form_of}
use Rattle.actor_script.specs.MixForms.{mix_command_of, mix_form_of}
use Rattle.actor_script.specs.PortForms.{port_command_of, port_form_of}

module _ {C : Type 0} (form : List (List ℕ) → Option C) (line : List ℕ) where
  long_line : 257 < length line → asked_by form (take 257 line) ≡ asked_by form line
  long_line h =
      sym (cond_below 256 (length (take 257 line)) (Err BadLine) (ok_or (form (words_of (take 257 line))) BadLine) (omega (arith, length-take 257 line)))
      ∙ cond_below 256 (length line) (Err BadLine) (ok_or (form (words_of line)) BadLine) (omega arith)

  asked_by-front : asked_by form (take 257 line) ≡ asked_by form line
  asked_by-front = elim (cases_lt 257 (length line)) [
    | inl h ↦ long_line h
    | inr h ↦ ap (asked_by form) (take_all 257 line h)
  ]

pub command_of-front : (line : List ℕ) → command_of (take 257 line) ≡ command_of line
unfolding command_of
command_of-front line = asked_by-front form_of line

pub mix_command_of-front : (line : List ℕ) → mix_command_of (take 257 line) ≡ mix_command_of line
unfolding mix_command_of
mix_command_of-front line = asked_by-front mix_form_of line

pub port_command_of-front : (line : List ℕ) → port_command_of (take 257 line) ≡ port_command_of line
unfolding port_command_of
port_command_of-front line = asked_by-front port_form_of line

pub keep_command_of-front : (line : List ℕ) → keep_command_of (take 257 line) ≡ keep_command_of line
unfolding keep_command_of
keep_command_of-front line = asked_by-front keep_form_of line
