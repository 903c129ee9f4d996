-- Lines of scripts of segments that are opened again: which are none of their own.
use Rattle.std.proofs.Common.{◌≡◌, ◌<◌, ◌⊎◌, ℕ, Bool, true, false, List, [], ◌∷◌, length, Option, None, Err, refl, arith}
use Rattle.std.specs.Prelude.{bytes_eq, codes, if◌then◌else◌}
use Rattle.vm_ids.specs.declared.command.KeepCommand.{KeepCommand}
use Rattle.vm_ids.specs.declared.refusal.Refusal.TheVariants.{BadLine}
use Rattle.actor_script.specs.Words.{words_of}
use Rattle.actor_script.specs.Forms.{asked_by}
use Rattle.actor_script.specs.KeepForms.{close_form, own_form_of}
use Rattle.actor_script.proofs.Forms.{not_asked}

no_close : (xs : List (List ℕ)) → 6 < length xs → close_form xs ≡ None
unfolding close_form
no_close [] h = refl
no_close (a ∷ []) h = absurd (omega arith)
no_close (a ∷ b ∷ xs) h = refl

none_if : (b : Bool) (o : Option KeepCommand) → o ≡ None → (if b then o else None) ≡ None
none_if true o e = e
none_if false o e = refl

no_longer : (words : List (List ℕ)) → 7 < length words → own_form_of words ≡ None
no_longer [] h = refl
no_longer (verb ∷ operands) h = none_if (bytes_eq verb (codes "close")) _ (no_close operands (omega arith))

pub not_own : (line : List ℕ) → (256 < length line) ⊎ (7 < length (words_of line)) → asked_by own_form_of line ≡ Err BadLine
not_own line h = not_asked own_form_of no_longer line h
