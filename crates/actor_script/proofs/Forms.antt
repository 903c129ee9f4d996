-- Lines that are too long, or of too many words.
use Rattle.std.proofs.Common.{◌≡◌, ◌<◌, ◌⊎◌, ℕ, List, [], ◌∷◌, length, Option, None, Bool, true, false, nat_lt, refl, ap, arith, inl, inr}
use Rattle.actor_script.specs.Verbs.{other_form}
use Rattle.std.specs.Prelude.{◌||◌, bytes_eq, codes, if◌then◌else◌, option_map, ok_or, Result, Err}
use Rattle.std.proofs.lemmas.Bool.{lt-ltb}
use Rattle.vm_ids.specs.declared.refusal.Refusal.{Refusal}
use Rattle.vm_ids.specs.declared.refusal.Refusal.TheVariants.{BadLine}
use Rattle.actor_script.specs.Words.{words_of}
use Rattle.vm_ids.specs.declared.command.Command.{Command}
use Rattle.vm_ids.specs.declared.command.Command.TheVariants as commands
use Rattle.actor_script.specs.Forms.{asked_by, command_of, form_of, verb_form, actor_form, exit_form, temp_form, open_form, destroy_form, span_of, copy_form, move_form, map_form, split_form, protect_form, lock_form, unlock_form, unmap_form, status_form, find_form, load_form, store_form, extent_of, sync_form, flush_form, invalidate_form, pageout_form, chain_form, stat_form}

neither : (b : Bool) (o p : Option Command) → o ≡ None → p ≡ None → (if b then o else p) ≡ None
neither true o p e f = e
neither false o p e f = f

no_actor : (xs : List (List ℕ)) → 6 < length xs → actor_form xs ≡ None
unfolding actor_form
no_actor [] h = absurd (omega arith)
no_actor (a ∷ xs) h = refl

no_exit : (xs : List (List ℕ)) → 6 < length xs → exit_form xs ≡ None
unfolding exit_form
no_exit [] h = absurd (omega arith)
no_exit (a ∷ []) h = absurd (omega arith)
no_exit (a ∷ b ∷ xs) h = refl

no_temp : (xs : List (List ℕ)) → 6 < length xs → temp_form xs ≡ None
unfolding temp_form
no_temp [] h = absurd (omega arith)
no_temp (a ∷ []) h = absurd (omega arith)
no_temp (a ∷ b ∷ xs) h = refl

no_open : (xs : List (List ℕ)) → 6 < length xs → open_form xs ≡ None
unfolding open_form
no_open [] h = absurd (omega arith)
no_open (a ∷ []) h = absurd (omega arith)
no_open (a ∷ b ∷ xs) h = refl

no_destroy : (xs : List (List ℕ)) → 6 < length xs → destroy_form xs ≡ None
unfolding destroy_form
no_destroy [] h = absurd (omega arith)
no_destroy (a ∷ []) h = absurd (omega arith)
no_destroy (a ∷ b ∷ xs) h = refl

no_span : (xs : List (List ℕ)) → 6 < length xs → span_of xs ≡ None
unfolding span_of
no_span [] h = absurd (omega arith)
no_span (a ∷ []) h = absurd (omega arith)
no_span (a ∷ b ∷ []) h = absurd (omega arith)
no_span (a ∷ b ∷ c ∷ []) h = absurd (omega arith)
no_span (a ∷ b ∷ c ∷ d ∷ []) h = absurd (omega arith)
no_span (a ∷ b ∷ c ∷ d ∷ e ∷ []) h = absurd (omega arith)
no_span (a ∷ b ∷ c ∷ d ∷ e ∷ f ∷ xs) h = refl

no_copy : (xs : List (List ℕ)) → 6 < length xs → copy_form xs ≡ None
unfolding copy_form
no_copy xs h = ap (option_map commands.Copy) (no_span xs h)

no_move : (xs : List (List ℕ)) → 6 < length xs → move_form xs ≡ None
unfolding move_form
no_move xs h = ap (option_map commands.Move) (no_span xs h)

no_map : (xs : List (List ℕ)) → 6 < length xs → map_form xs ≡ None
unfolding map_form
no_map [] h = absurd (omega arith)
no_map (a ∷ []) h = absurd (omega arith)
no_map (a ∷ b ∷ []) h = absurd (omega arith)
no_map (a ∷ b ∷ c ∷ []) h = absurd (omega arith)
no_map (a ∷ b ∷ c ∷ d ∷ []) h = absurd (omega arith)
no_map (a ∷ b ∷ c ∷ d ∷ e ∷ []) h = absurd (omega arith)
no_map (a ∷ b ∷ c ∷ d ∷ e ∷ f ∷ []) h = absurd (omega arith)
no_map (a ∷ b ∷ c ∷ d ∷ e ∷ f ∷ g ∷ xs) h = refl

no_split : (xs : List (List ℕ)) → 6 < length xs → split_form xs ≡ None
unfolding split_form
no_split [] h = absurd (omega arith)
no_split (a ∷ []) h = absurd (omega arith)
no_split (a ∷ b ∷ []) h = absurd (omega arith)
no_split (a ∷ b ∷ c ∷ xs) h = refl

no_protect : (xs : List (List ℕ)) → 6 < length xs → protect_form xs ≡ None
unfolding protect_form
no_protect [] h = absurd (omega arith)
no_protect (a ∷ []) h = absurd (omega arith)
no_protect (a ∷ b ∷ []) h = absurd (omega arith)
no_protect (a ∷ b ∷ c ∷ xs) h = refl

no_lock : (xs : List (List ℕ)) → 6 < length xs → lock_form xs ≡ None
unfolding lock_form
no_lock [] h = absurd (omega arith)
no_lock (a ∷ []) h = absurd (omega arith)
no_lock (a ∷ b ∷ xs) h = refl

no_unlock : (xs : List (List ℕ)) → 6 < length xs → unlock_form xs ≡ None
unfolding unlock_form
no_unlock [] h = absurd (omega arith)
no_unlock (a ∷ []) h = absurd (omega arith)
no_unlock (a ∷ b ∷ xs) h = refl

no_unmap : (xs : List (List ℕ)) → 6 < length xs → unmap_form xs ≡ None
unfolding unmap_form
no_unmap [] h = absurd (omega arith)
no_unmap (a ∷ []) h = absurd (omega arith)
no_unmap (a ∷ b ∷ xs) h = refl

no_status : (xs : List (List ℕ)) → 6 < length xs → status_form xs ≡ None
unfolding status_form
no_status [] h = absurd (omega arith)
no_status (a ∷ []) h = absurd (omega arith)
no_status (a ∷ b ∷ xs) h = refl

no_find : (xs : List (List ℕ)) → 6 < length xs → find_form xs ≡ None
unfolding find_form
no_find [] h = absurd (omega arith)
no_find (a ∷ []) h = absurd (omega arith)
no_find (a ∷ b ∷ []) h = absurd (omega arith)
no_find (a ∷ b ∷ c ∷ xs) h = refl

no_load : (xs : List (List ℕ)) → 6 < length xs → load_form xs ≡ None
unfolding load_form
no_load [] h = absurd (omega arith)
no_load (a ∷ []) h = absurd (omega arith)
no_load (a ∷ b ∷ []) h = absurd (omega arith)
no_load (a ∷ b ∷ c ∷ []) h = absurd (omega arith)
no_load (a ∷ b ∷ c ∷ d ∷ xs) h = refl

no_store : (xs : List (List ℕ)) → 6 < length xs → store_form xs ≡ None
unfolding store_form
no_store [] h = absurd (omega arith)
no_store (a ∷ []) h = absurd (omega arith)
no_store (a ∷ b ∷ []) h = absurd (omega arith)
no_store (a ∷ b ∷ c ∷ []) h = absurd (omega arith)
no_store (a ∷ b ∷ c ∷ d ∷ xs) h = refl

no_extent : (xs : List (List ℕ)) → 6 < length xs → extent_of xs ≡ None
unfolding extent_of
no_extent [] h = absurd (omega arith)
no_extent (a ∷ []) h = absurd (omega arith)
no_extent (a ∷ b ∷ []) h = absurd (omega arith)
no_extent (a ∷ b ∷ c ∷ []) h = absurd (omega arith)
no_extent (a ∷ b ∷ c ∷ d ∷ xs) h = refl

no_sync : (xs : List (List ℕ)) → 6 < length xs → sync_form xs ≡ None
unfolding sync_form
no_sync xs h = ap (option_map commands.Sync) (no_extent xs h)

no_flush : (xs : List (List ℕ)) → 6 < length xs → flush_form xs ≡ None
unfolding flush_form
no_flush xs h = ap (option_map commands.Flush) (no_extent xs h)

no_invalidate : (xs : List (List ℕ)) → 6 < length xs → invalidate_form xs ≡ None
unfolding invalidate_form
no_invalidate xs h = ap (option_map commands.Invalidate) (no_extent xs h)

no_pageout : (xs : List (List ℕ)) → 6 < length xs → pageout_form xs ≡ None
unfolding pageout_form
no_pageout [] h = absurd (omega arith)
no_pageout (a ∷ []) h = absurd (omega arith)
no_pageout (a ∷ b ∷ xs) h = refl

no_chain : (xs : List (List ℕ)) → 6 < length xs → chain_form xs ≡ None
unfolding chain_form
no_chain [] h = absurd (omega arith)
no_chain (a ∷ []) h = absurd (omega arith)
no_chain (a ∷ b ∷ []) h = absurd (omega arith)
no_chain (a ∷ b ∷ c ∷ xs) h = refl

no_stat : (xs : List (List ℕ)) → 6 < length xs → stat_form xs ≡ None
unfolding stat_form
no_stat [] h = absurd (omega arith)
no_stat (a ∷ xs) h = refl

-- No form has more than six operands.
no_verb : (verb : List ℕ) (xs : List (List ℕ)) → 6 < length xs → verb_form verb xs ≡ None
unfolding verb_form
no_verb verb xs h =
    neither (bytes_eq verb (codes "actor")) _ _ (no_actor xs h) (
    neither (bytes_eq verb (codes "exit")) _ _ (no_exit xs h) (
    neither (bytes_eq verb (codes "temp")) _ _ (no_temp xs h) (
    neither (bytes_eq verb (codes "open")) _ _ (no_open xs h) (
    neither (bytes_eq verb (codes "destroy")) _ _ (no_destroy xs h) (
    neither (bytes_eq verb (codes "copy")) _ _ (no_copy xs h) (
    neither (bytes_eq verb (codes "move")) _ _ (no_move xs h) (
    neither (bytes_eq verb (codes "map")) _ _ (no_map xs h) (
    neither (bytes_eq verb (codes "split")) _ _ (no_split xs h) (
    neither (bytes_eq verb (codes "protect")) _ _ (no_protect xs h) (
    neither (bytes_eq verb (codes "lock")) _ _ (no_lock xs h) (
    neither (bytes_eq verb (codes "unlock")) _ _ (no_unlock xs h) (
    neither (bytes_eq verb (codes "unmap")) _ _ (no_unmap xs h) (
    neither (bytes_eq verb (codes "status")) _ _ (no_status xs h) (
    neither (bytes_eq verb (codes "find")) _ _ (no_find xs h) (
    neither (bytes_eq verb (codes "load")) _ _ (no_load xs h) (
    neither (bytes_eq verb (codes "store")) _ _ (no_store xs h) (
    neither (bytes_eq verb (codes "sync")) _ _ (no_sync xs h) (
    neither (bytes_eq verb (codes "flush")) _ _ (no_flush xs h) (
    neither (bytes_eq verb (codes "invalidate")) _ _ (no_invalidate xs h) (
    neither (bytes_eq verb (codes "pageout")) _ _ (no_pageout xs h) (
    neither (bytes_eq verb (codes "chain")) _ _ (no_chain xs h) (
    neither (bytes_eq verb (codes "stat")) _ _ (no_stat xs h) refl))))))))))))))))))))))

pub no_other : (word : List ℕ) (operands : List (List ℕ)) → 7 < length operands → other_form word operands ≡ None
no_other word xs h = neither (bytes_eq word (codes "load") || bytes_eq word (codes "store")) _ _ refl (no_verb word xs (omega arith))

no_longer_form : (words : List (List ℕ)) → 7 < length words → form_of words ≡ None
no_longer_form [] h = absurd (omega arith)
no_longer_form (v ∷ xs) h = no_verb v xs (omega arith)

module _ {C : Type 0} (form : List (List ℕ) → Option C) (no_longer : (words : List (List ℕ)) → 7 < length words → form words ≡ None) (line : List ℕ) where
  bad : (b : Bool) (o : Option C) → (b ≡ true) ⊎ (o ≡ None) → (let r : Result C Refusal = if b then Err BadLine else ok_or o BadLine in r) ≡ Err BadLine
  bad true o e = refl
  bad false o (inl e) = absurd (cc e)
  bad false o (inr e) = ap (λ (x : Option C). ok_or x BadLine) e

  pub not_asked : (256 < length line) ⊎ (7 < length (words_of line)) → asked_by form line ≡ Err BadLine
  not_asked (inl h) = bad (nat_lt 256 (length line)) (form (words_of line)) (inl (lt-ltb 256 (length line) h))
  not_asked (inr h) = bad (nat_lt 256 (length line)) (form (words_of line)) (inr (no_longer (words_of line) h))

pub no_command : (line : List ℕ) → (256 < length line) ⊎ (7 < length (words_of line)) → command_of line ≡ Err BadLine
unfolding command_of
no_command line h = not_asked form_of no_longer_form line h
