-- The forms of verbs that ask neither a load nor a store.
use Rattle.std.specs.Prelude.{ℕ, List, Option, None, ◌||◌, bytes_eq, codes, if◌then◌else◌}
use Rattle.vm_ids.specs.declared.command.Command.{Command}
use Rattle.actor_script.specs.Forms.{actor_form, chain_form, copy_form, destroy_form, exit_form, find_form, flush_form, invalidate_form, lock_form, map_form, move_form, open_form, pageout_form, protect_form, split_form, stat_form, status_form, sync_form, temp_form, unlock_form, unmap_form, verb_form}
use Rattle.actor_script.specs.declared.reading.verbs.Verb.{Verb}
use Rattle.actor_script.specs.declared.reading.verbs.Verb.TheVariants as verbs

-- the form of a word, where it is such a verb
abbrev pub other_form : List ℕ → List (List ℕ) → Option Command
other_form word operands =
    if bytes_eq word (codes "load") || bytes_eq word (codes "store") then None
    else verb_form word operands

-- the form of a verb
abbrev pub form_for : Verb → List (List ℕ) → Option Command
form_for verbs.Actor operands = actor_form operands
form_for verbs.Exit operands = exit_form operands
form_for verbs.Temp operands = temp_form operands
form_for verbs.Open operands = open_form operands
form_for verbs.Destroy operands = destroy_form operands
form_for verbs.Copy operands = copy_form operands
form_for verbs.Move operands = move_form operands
form_for verbs.Map operands = map_form operands
form_for verbs.Split operands = split_form operands
form_for verbs.Protect operands = protect_form operands
form_for verbs.Lock operands = lock_form operands
form_for verbs.Unlock operands = unlock_form operands
form_for verbs.Unmap operands = unmap_form operands
form_for verbs.Status operands = status_form operands
form_for verbs.Find operands = find_form operands
form_for verbs.Sync operands = sync_form operands
form_for verbs.Flush operands = flush_form operands
form_for verbs.Invalidate operands = invalidate_form operands
form_for verbs.PageOut operands = pageout_form operands
form_for verbs.Chain operands = chain_form operands
form_for verbs.Stat operands = stat_form operands
