-- The command of a line.
use Rattle.std.specs.Prelude.{ℕ, Bool, List, [], ◌∷◌, length, nat_lt, bytes_eq, codes, Option, Some, None, option_map, option_and_then, ok_or, Result, Err, if◌then◌else◌}
use Rattle.std.specs.Option.{option_or}
use Rattle.vm_ids.specs.declared.command.Command.{Command}
use Rattle.vm_ids.specs.declared.command.Command.TheVariants as commands
use Rattle.vm_ids.specs.declared.command.Extent.{Extent}
use Rattle.vm_ids.specs.declared.command.Span.{Span}
use Rattle.vm_ids.specs.declared.refusal.Refusal.{Refusal}
use Rattle.vm_ids.specs.declared.refusal.Refusal.TheVariants.{BadLine}
use Rattle.vm_model.specs.Run.{Read}
use Rattle.actor_script.specs.Words.{words_of}
use Rattle.actor_script.specs.Operands.{number_of, count_of, length_of, lettered, address_of, bytes_of, mode_of}

-- The `?` of the definitions: goes on with what was found.
infixl 10 ◌>>=◌
abbrev pub ◌>>=◌ : {A B : Type 0} → Option A → (A → Option B) → Option B
o >>= f = option_and_then f o

-- Each form stands by its verb, and says what the operands behind it ask. No other words are one of
-- the forms.

-- `actor`
unfoldable pub actor_form : List (List ℕ) → Option Command
actor_form [] = Some commands.MakeActor
actor_form _ = None

-- `exit A`
unfoldable pub exit_form : List (List ℕ) → Option Command
exit_form (actor ∷ []) = do
  a ← lettered 97 actor
  Some (commands.ExitActor (record { 0 = a }))
exit_form _ = None

-- `temp N`
unfoldable pub temp_form : List (List ℕ) → Option Command
temp_form (pages ∷ []) = do
  n ← count_of pages
  Some (commands.MakeTemp n)
temp_form _ = None

-- `open S`
unfoldable pub open_form : List (List ℕ) → Option Command
open_form (segment ∷ []) = do
  s ← number_of segment
  Some (commands.OpenSegment (record { 0 = s }))
open_form _ = None

-- `destroy C`
unfoldable pub destroy_form : List (List ℕ) → Option Command
destroy_form (cache ∷ []) = do
  c ← lettered 99 cache
  Some (commands.Destroy (record { 0 = c }))
destroy_form _ = None

-- `C O D Q N`
unfoldable pub span_of : List (List ℕ) → Option Span
span_of (from ∷ from_page ∷ to ∷ to_page ∷ pages ∷ []) = do
  c ← lettered 99 from
  o ← number_of from_page
  d ← lettered 99 to
  q ← number_of to_page
  n ← count_of pages
  Some (record {
    from = record { 0 = c };
    from_page = record { 0 = o };
    to = record { 0 = d };
    to_page = record { 0 = q };
    pages = n;
  })
span_of _ = None

-- `copy C O D Q N`
unfoldable pub copy_form : List (List ℕ) → Option Command
copy_form operands = option_map commands.Copy (span_of operands)

-- `move C O D Q N`
unfoldable pub move_form : List (List ℕ) → Option Command
move_form operands = option_map commands.Move (span_of operands)

-- `map A C O N ADDR MODE`
unfoldable pub map_form : List (List ℕ) → Option Command
map_form (actor ∷ cache ∷ first ∷ pages ∷ address ∷ mode ∷ []) = do
  a ← lettered 97 actor
  c ← lettered 99 cache
  o ← number_of first
  n ← count_of pages
  at ← address_of address
  prot ← mode_of mode
  Some (commands.Map (record { 0 = a }) (record {
    extent = record { cache = record { 0 = c }; first = record { 0 = o }; pages = n };
    address = at;
    prot = prot;
  }))
map_form _ = None

-- `split R N`
unfoldable pub split_form : List (List ℕ) → Option Command
split_form (region ∷ pages ∷ []) = do
  r ← lettered 114 region
  n ← count_of pages
  Some (commands.Split (record { 0 = r }) n)
split_form _ = None

-- `protect R MODE`
unfoldable pub protect_form : List (List ℕ) → Option Command
protect_form (region ∷ mode ∷ []) = do
  r ← lettered 114 region
  prot ← mode_of mode
  Some (commands.Protect (record { 0 = r }) prot)
protect_form _ = None

-- `lock R`
unfoldable pub lock_form : List (List ℕ) → Option Command
lock_form (region ∷ []) = do
  r ← lettered 114 region
  Some (commands.Lock (record { 0 = r }))
lock_form _ = None

-- `unlock R`
unfoldable pub unlock_form : List (List ℕ) → Option Command
unlock_form (region ∷ []) = do
  r ← lettered 114 region
  Some (commands.Unlock (record { 0 = r }))
unlock_form _ = None

-- `unmap R`
unfoldable pub unmap_form : List (List ℕ) → Option Command
unmap_form (region ∷ []) = do
  r ← lettered 114 region
  Some (commands.Unmap (record { 0 = r }))
unmap_form _ = None

-- `status R`
unfoldable pub status_form : List (List ℕ) → Option Command
status_form (region ∷ []) = do
  r ← lettered 114 region
  Some (commands.Status (record { 0 = r }))
status_form _ = None

-- `find A ADDR`
unfoldable pub find_form : List (List ℕ) → Option Command
find_form (actor ∷ address ∷ []) = do
  a ← lettered 97 actor
  at ← address_of address
  Some (commands.Find (record { 0 = a }) at)
find_form _ = None

-- `load A ADDR LEN`
unfoldable pub load_form : List (List ℕ) → Option Command
load_form (actor ∷ address ∷ count ∷ []) = do
  a ← lettered 97 actor
  at ← address_of address
  n ← length_of count
  Some (commands.Load (record { 0 = a }) at n)
load_form _ = None

-- `store A ADDR BYTES`
unfoldable pub store_form : List (List ℕ) → Option Command
store_form (actor ∷ address ∷ bytes ∷ []) = do
  a ← lettered 97 actor
  at ← address_of address
  piece ← bytes_of bytes
  Some (commands.Store (record { 0 = a }) at piece)
store_form _ = None

-- `C O N`
unfoldable pub extent_of : List (List ℕ) → Option Extent
extent_of (cache ∷ first ∷ pages ∷ []) = do
  c ← lettered 99 cache
  o ← number_of first
  n ← count_of pages
  Some (record { cache = record { 0 = c }; first = record { 0 = o }; pages = n })
extent_of _ = None

-- `sync C O N`
unfoldable pub sync_form : List (List ℕ) → Option Command
sync_form operands = option_map commands.Sync (extent_of operands)

-- `flush C O N`
unfoldable pub flush_form : List (List ℕ) → Option Command
flush_form operands = option_map commands.Flush (extent_of operands)

-- `invalidate C O N`
unfoldable pub invalidate_form : List (List ℕ) → Option Command
invalidate_form operands = option_map commands.Invalidate (extent_of operands)

-- `pageout N`
unfoldable pub pageout_form : List (List ℕ) → Option Command
pageout_form (pages ∷ []) = do
  n ← count_of pages
  Some (commands.PageOut n)
pageout_form _ = None

-- `chain C P`
unfoldable pub chain_form : List (List ℕ) → Option Command
chain_form (cache ∷ page ∷ []) = do
  c ← lettered 99 cache
  p ← number_of page
  Some (commands.Chain (record { 0 = c }) (record { 0 = p }))
chain_form _ = None

-- `stat`
unfoldable pub stat_form : List (List ℕ) → Option Command
stat_form [] = Some commands.Stat
stat_form _ = None

-- the form of a verb
unfoldable pub verb_form : List ℕ → List (List ℕ) → Option Command
verb_form verb operands =
    if bytes_eq verb (codes "actor") then actor_form operands
    else if bytes_eq verb (codes "exit") then exit_form operands
    else if bytes_eq verb (codes "temp") then temp_form operands
    else if bytes_eq verb (codes "open") then open_form operands
    else if bytes_eq verb (codes "destroy") then destroy_form operands
    else if bytes_eq verb (codes "copy") then copy_form operands
    else if bytes_eq verb (codes "move") then move_form operands
    else if bytes_eq verb (codes "map") then map_form operands
    else if bytes_eq verb (codes "split") then split_form operands
    else if bytes_eq verb (codes "protect") then protect_form operands
    else if bytes_eq verb (codes "lock") then lock_form operands
    else if bytes_eq verb (codes "unlock") then unlock_form operands
    else if bytes_eq verb (codes "unmap") then unmap_form operands
    else if bytes_eq verb (codes "status") then status_form operands
    else if bytes_eq verb (codes "find") then find_form operands
    else if bytes_eq verb (codes "load") then load_form operands
    else if bytes_eq verb (codes "store") then store_form operands
    else if bytes_eq verb (codes "sync") then sync_form operands
    else if bytes_eq verb (codes "flush") then flush_form operands
    else if bytes_eq verb (codes "invalidate") then invalidate_form operands
    else if bytes_eq verb (codes "pageout") then pageout_form operands
    else if bytes_eq verb (codes "chain") then chain_form operands
    else if bytes_eq verb (codes "stat") then stat_form operands
    else None

-- What some words ask. The first is the verb.
abbrev pub form_of : List (List ℕ) → Option Command
form_of [] = None
form_of (verb ∷ operands) = verb_form verb operands

-- a command of actors, where a script of other commands has such commands too
abbrev pub shared_by : {C : Type 0} → (Command → Bool) → (Command → C) → Command → Option C
shared_by has plain command = if has command then Some (plain command) else None

-- What some words ask in such a script: a command of actors that it has, or else one of its own.
-- No other words are one of the forms.
abbrev pub form_with : {C : Type 0} → (Command → Bool) → (Command → C)
    → (List (List ℕ) → Option C) → List (List ℕ) → Option C
form_with has plain own words =
    option_or (option_and_then (shared_by has plain) (form_of words)) (own words)

-- What a line asks that has at most 256 bytes, and whose words have one of some forms.
abbrev pub asked_by : {C : Type 0} → (List (List ℕ) → Option C) → List ℕ → Result C Refusal
asked_by form line =
    if nat_lt 256 (length line) then Err BadLine else ok_or (form (words_of line)) BadLine

-- The command of a line, which has at most 256 bytes and one of the forms.
unfoldable pub command_of : List ℕ → Read
command_of line = asked_by form_of line
