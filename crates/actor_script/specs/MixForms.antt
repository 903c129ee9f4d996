-- The command of a line of a script of processes.
use Rattle.std.specs.Prelude.{ℕ, List, [], ◌∷◌, bytes_eq, codes, Option, Some, None, Result, if◌then◌else◌}
use Rattle.vm_ids.specs.declared.command.MixCommand.{MixCommand}
use Rattle.vm_ids.specs.declared.command.MixCommand.TheVariants as commands
use Rattle.vm_ids.specs.declared.numbers.ProcId.{ProcId}
use Rattle.vm_ids.specs.declared.refusal.Refusal.{Refusal}
use Rattle.actor_script.specs.Forms.{◌>>=◌, asked_by}
use Rattle.actor_script.specs.Operands.{number_of, count_of, length_of, lettered, address_of, bytes_of}

-- `p` and a number
abbrev pub process_of : List ℕ → Option ProcId
process_of word = do
  p ← lettered 112 word
  Some (record { 0 = p })

-- Each form stands by its verb, and says what the operands behind it ask. No other words are one of
-- the forms.

-- `exec S T D K`
unfoldable pub exec_form : List (List ℕ) → Option MixCommand
exec_form (segment ∷ text_pages ∷ data_pages ∷ stack_pages ∷ []) = do
  s ← number_of segment
  t ← count_of text_pages
  d ← count_of data_pages
  k ← count_of stack_pages
  Some (commands.Exec (record { 0 = s }) t d k)
exec_form _ = None

-- `fork P`
unfoldable pub fork_form : List (List ℕ) → Option MixCommand
fork_form (process ∷ []) = do
  p ← process_of process
  Some (commands.Fork p)
fork_form _ = None

-- `exit P`
unfoldable pub exit_form : List (List ℕ) → Option MixCommand
exit_form (process ∷ []) = do
  p ← process_of process
  Some (commands.Exit p)
exit_form _ = None

-- `grow P N`
unfoldable pub grow_form : List (List ℕ) → Option MixCommand
grow_form (process ∷ pages ∷ []) = do
  p ← process_of process
  n ← count_of pages
  Some (commands.Grow p n)
grow_form _ = None

-- `load P ADDR LEN`
unfoldable pub load_form : List (List ℕ) → Option MixCommand
load_form (process ∷ address ∷ count ∷ []) = do
  p ← process_of process
  at ← address_of address
  n ← length_of count
  Some (commands.Load p at n)
load_form _ = None

-- `store P ADDR BYTES`
unfoldable pub store_form : List (List ℕ) → Option MixCommand
store_form (process ∷ address ∷ bytes ∷ []) = do
  p ← process_of process
  at ← address_of address
  piece ← bytes_of bytes
  Some (commands.Store p at piece)
store_form _ = None

-- `pageout N`
unfoldable pub pageout_form : List (List ℕ) → Option MixCommand
pageout_form (pages ∷ []) = do
  n ← count_of pages
  Some (commands.PageOut n)
pageout_form _ = None

-- the form of a verb
unfoldable pub mix_verb_form : List ℕ → List (List ℕ) → Option MixCommand
mix_verb_form verb operands =
    if bytes_eq verb (codes "exec") then exec_form operands
    else if bytes_eq verb (codes "fork") then fork_form operands
    else if bytes_eq verb (codes "exit") then exit_form operands
    else if bytes_eq verb (codes "grow") then grow_form operands
    else if bytes_eq verb (codes "load") then load_form operands
    else if bytes_eq verb (codes "store") then store_form operands
    else if bytes_eq verb (codes "pageout") then pageout_form operands
    else None

-- What some words ask. The first is the verb.
abbrev pub mix_form_of : List (List ℕ) → Option MixCommand
mix_form_of [] = None
mix_form_of (verb ∷ operands) = mix_verb_form verb operands

-- The command of a line, which has at most 256 bytes and one of the forms.
unfoldable pub mix_command_of : List ℕ → Result MixCommand Refusal
mix_command_of line = asked_by mix_form_of line
