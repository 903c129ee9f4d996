-- Lines ask only well-formed commands, and accesses only by their verbs.
use Rattle.std.proofs.Common.{◌≡◌, ◌==◌, ◌≤◌, ◌⊎◌, ◌∙◌, ℕ, Bool, true, false, List, [], ◌∷◌, Option, Some, None, Ok, Err, ap, inl, inr, refl, arith, nat_le, nat_lt, length}
use Rattle.std.specs.Prelude.{option_and_then, option_map, IfSome, IfOk, bytes_eq, codes, if◌then◌else◌}
use Rattle.std.specs.Option.{ok_or}
use Rattle.vm_ids.specs.declared.command.Command.{Command}
use Rattle.vm_ids.specs.declared.command.Command.TheVariants as commands
use Rattle.vm_ids.specs.declared.command.Extent.{Extent}
use Rattle.vm_ids.specs.declared.command.Span.{Span}
use Rattle.vm_ids.specs.declared.refusal.Refusal.TheVariants.{BadLine}
use Rattle.vm_model.specs.Asking.{IsWellFormed}
use Rattle.vm_model.specs.Run.{actor_of_line}
use Rattle.std.proofs.lemmas.Bool.{leb-true, eqb-false}
use Rattle.actor_script.specs.Words.{words_of}
use Rattle.actor_script.specs.Operands.{number_of, count_of, unless_zero, length_of, if_few, lettered, address_of, bytes_of, mode_of}
use Rattle.actor_script.specs.Forms.{form_of, command_of, verb_form, actor_form, exit_form, temp_form, open_form, destroy_form, span_of, copy_form, move_form, map_form, split_form, protect_form, lock_form, unlock_form, unmap_form, status_form, find_form, load_form, store_form, extent_of, sync_form, flush_form, invalidate_form, pageout_form, chain_form, stat_form}

-- what holds of all that a step gives, whatever it is given
pub any_then : {A B : Type 0} (o : Option A) (f : A → Option B) (P : B → Type 0) → ((x : A) → IfSome (f x) P) → IfSome (option_and_then f o) P
any_then None f P h = tt
any_then (Some x) f P h = h x

-- or where it is given something that Q holds of
pub such_then : {A B : Type 0} (o : Option A) (f : A → Option B) (Q : A → Type 0) (P : B → Type 0) → IfSome o Q → ((x : A) → Q x → IfSome (f x) P) → IfSome (option_and_then f o) P
such_then None f Q P q h = tt
such_then (Some x) f Q P q h = h x q

if_true : {A : Type 0} (b : Bool) (o p : Option A) (P : A → Type 0) → (b ≡ true → IfSome o P) → (b ≡ false → IfSome p P) → IfSome (if b then o else p) P
if_true true o p P h k = h refl
if_true false o p P h k = k refl

pub counts : (word : List ℕ) → IfSome (count_of word) (λ n. 1 ≤ n)
unfolding count_of
counts word = any_then (number_of word) unless_zero (λ n. 1 ≤ n) (λ n. if_true (n == 0) None (Some n) (λ n. 1 ≤ n) (λ e. tt) (λ e. grind (arith, eqb-false n 0 e)))

pub lengths : (word : List ℕ) → IfSome (length_of word) (λ n. (1 ≤ n) × (n ≤ 64))
unfolding length_of
lengths word = such_then (count_of word) if_few (λ n. 1 ≤ n) (λ n. (1 ≤ n) × (n ≤ 64)) (counts word)
    (λ n some. if_true (nat_le n 64) (Some n) None (λ n. (1 ≤ n) × (n ≤ 64)) (λ e. (some, leb-true n 64 e)) (λ e. tt))

-- The command is well formed, and no access.
abbrev IsPlain : Command → Type 0
IsPlain c = IsWellFormed c × (actor_of_line (Ok c) ≡ None)

actor_is : (xs : List (List ℕ)) → IfSome (actor_form xs) IsPlain
unfolding actor_form
actor_is [] = (tt, refl)
actor_is (a ∷ xs) = tt

exit_is : (xs : List (List ℕ)) → IfSome (exit_form xs) IsPlain
unfolding exit_form
exit_is [] = tt
exit_is (a ∷ []) = any_then (lettered 97 a) _ IsPlain (λ n. (tt, refl))
exit_is (a ∷ b ∷ xs) = tt

temp_is : (xs : List (List ℕ)) → IfSome (temp_form xs) IsPlain
unfolding temp_form
temp_is [] = tt
temp_is (a ∷ []) = such_then (count_of a) _ (λ n. 1 ≤ n) IsPlain (counts a) (λ n some. (some, refl))
temp_is (a ∷ b ∷ xs) = tt

open_is : (xs : List (List ℕ)) → IfSome (open_form xs) IsPlain
unfolding open_form
open_is [] = tt
open_is (a ∷ []) = any_then (number_of a) _ IsPlain (λ n. (tt, refl))
open_is (a ∷ b ∷ xs) = tt

destroy_is : (xs : List (List ℕ)) → IfSome (destroy_form xs) IsPlain
unfolding destroy_form
destroy_is [] = tt
destroy_is (a ∷ []) = any_then (lettered 99 a) _ IsPlain (λ n. (tt, refl))
destroy_is (a ∷ b ∷ xs) = tt

span_is : (xs : List (List ℕ)) → IfSome (span_of xs) (λ s. 1 ≤ s.pages)
unfolding span_of
span_is [] = tt
span_is (a ∷ []) = tt
span_is (a ∷ b ∷ []) = tt
span_is (a ∷ b ∷ c ∷ []) = tt
span_is (a ∷ b ∷ c ∷ d ∷ []) = tt
span_is (a ∷ b ∷ c ∷ d ∷ e ∷ []) =
    let P : Span → Type 0 = λ s. 1 ≤ s.pages in
    any_then (lettered 99 a) _ P (λ n.
    any_then (number_of b) _ P (λ n.
    any_then (lettered 99 c) _ P (λ n.
    any_then (number_of d) _ P (λ n.
    such_then (count_of e) _ (λ n. 1 ≤ n) P (counts e) (λ n some. some)))))
span_is (a ∷ b ∷ c ∷ d ∷ e ∷ f ∷ xs) = tt

as_command : {A : Type 0} (o : Option A) (f : A → Command) (P : A → Type 0) → ((x : A) → P x → IsPlain (f x)) → IfSome o P → IfSome (option_map f o) IsPlain
as_command None f P h some = tt
as_command (Some x) f P h some = h x some

copy_is : (xs : List (List ℕ)) → IfSome (copy_form xs) IsPlain
unfolding copy_form
copy_is xs = as_command (span_of xs) commands.Copy (λ s. 1 ≤ s.pages) (λ s some. (some, refl)) (span_is xs)

move_is : (xs : List (List ℕ)) → IfSome (move_form xs) IsPlain
unfolding move_form
move_is xs = as_command (span_of xs) commands.Move (λ s. 1 ≤ s.pages) (λ s some. (some, refl)) (span_is xs)

map_is : (xs : List (List ℕ)) → IfSome (map_form xs) IsPlain
unfolding map_form
map_is [] = tt
map_is (a ∷ []) = tt
map_is (a ∷ b ∷ []) = tt
map_is (a ∷ b ∷ c ∷ []) = tt
map_is (a ∷ b ∷ c ∷ d ∷ []) = tt
map_is (a ∷ b ∷ c ∷ d ∷ e ∷ []) = tt
map_is (a ∷ b ∷ c ∷ d ∷ e ∷ f ∷ []) =
    any_then (lettered 97 a) _ IsPlain (λ n.
    any_then (lettered 99 b) _ IsPlain (λ n.
    any_then (number_of c) _ IsPlain (λ n.
    such_then (count_of d) _ (λ n. 1 ≤ n) IsPlain (counts d) (λ n some.
    any_then (address_of e) _ IsPlain (λ n.
    any_then (mode_of f) _ IsPlain (λ n. (some, refl)))))))
map_is (a ∷ b ∷ c ∷ d ∷ e ∷ f ∷ g ∷ xs) = tt

split_is : (xs : List (List ℕ)) → IfSome (split_form xs) IsPlain
unfolding split_form
split_is [] = tt
split_is (a ∷ []) = tt
split_is (a ∷ b ∷ []) =
    any_then (lettered 114 a) _ IsPlain (λ n.
    such_then (count_of b) _ (λ n. 1 ≤ n) IsPlain (counts b) (λ n some. (some, refl)))
split_is (a ∷ b ∷ c ∷ xs) = tt

protect_is : (xs : List (List ℕ)) → IfSome (protect_form xs) IsPlain
unfolding protect_form
protect_is [] = tt
protect_is (a ∷ []) = tt
protect_is (a ∷ b ∷ []) = any_then (lettered 114 a) _ IsPlain (λ n. any_then (mode_of b) _ IsPlain (λ n. (tt, refl)))
protect_is (a ∷ b ∷ c ∷ xs) = tt

lock_is : (xs : List (List ℕ)) → IfSome (lock_form xs) IsPlain
unfolding lock_form
lock_is [] = tt
lock_is (a ∷ []) = any_then (lettered 114 a) _ IsPlain (λ n. (tt, refl))
lock_is (a ∷ b ∷ xs) = tt

unlock_is : (xs : List (List ℕ)) → IfSome (unlock_form xs) IsPlain
unfolding unlock_form
unlock_is [] = tt
unlock_is (a ∷ []) = any_then (lettered 114 a) _ IsPlain (λ n. (tt, refl))
unlock_is (a ∷ b ∷ xs) = tt

unmap_is : (xs : List (List ℕ)) → IfSome (unmap_form xs) IsPlain
unfolding unmap_form
unmap_is [] = tt
unmap_is (a ∷ []) = any_then (lettered 114 a) _ IsPlain (λ n. (tt, refl))
unmap_is (a ∷ b ∷ xs) = tt

status_is : (xs : List (List ℕ)) → IfSome (status_form xs) IsPlain
unfolding status_form
status_is [] = tt
status_is (a ∷ []) = any_then (lettered 114 a) _ IsPlain (λ n. (tt, refl))
status_is (a ∷ b ∷ xs) = tt

find_is : (xs : List (List ℕ)) → IfSome (find_form xs) IsPlain
unfolding find_form
find_is [] = tt
find_is (a ∷ []) = tt
find_is (a ∷ b ∷ []) = any_then (lettered 97 a) _ IsPlain (λ n. any_then (address_of b) _ IsPlain (λ n. (tt, refl)))
find_is (a ∷ b ∷ c ∷ xs) = tt

-- The command is well formed, and an access.
abbrev pub IsAccess : Command → Type 0
IsAccess c = IsWellFormed c × ((a : ℕ) × (actor_of_line (Ok c) ≡ Some a))

pub load_is : (xs : List (List ℕ)) → IfSome (load_form xs) IsAccess
unfolding load_form
load_is [] = tt
load_is (a ∷ []) = tt
load_is (a ∷ b ∷ []) = tt
load_is (a ∷ b ∷ c ∷ []) =
    any_then (lettered 97 a) _ IsAccess (λ actor.
    any_then (address_of b) _ IsAccess (λ n.
    such_then (length_of c) _ (λ n. (1 ≤ n) × (n ≤ 64)) IsAccess (lengths c) (λ n few. (few, (actor, refl)))))
load_is (a ∷ b ∷ c ∷ d ∷ xs) = tt

pub store_is : (xs : List (List ℕ)) → IfSome (store_form xs) IsAccess
unfolding store_form
store_is [] = tt
store_is (a ∷ []) = tt
store_is (a ∷ b ∷ []) = tt
store_is (a ∷ b ∷ c ∷ []) =
    any_then (lettered 97 a) _ IsAccess (λ actor.
    any_then (address_of b) _ IsAccess (λ n.
    any_then (bytes_of c) _ IsAccess (λ n. (tt, (actor, refl)))))
store_is (a ∷ b ∷ c ∷ d ∷ xs) = tt

extent_is : (xs : List (List ℕ)) → IfSome (extent_of xs) (λ e. 1 ≤ e.pages)
unfolding extent_of
extent_is [] = tt
extent_is (a ∷ []) = tt
extent_is (a ∷ b ∷ []) = tt
extent_is (a ∷ b ∷ c ∷ []) =
    let P : Extent → Type 0 = λ e. 1 ≤ e.pages in
    any_then (lettered 99 a) _ P (λ n.
    any_then (number_of b) _ P (λ n.
    such_then (count_of c) _ (λ n. 1 ≤ n) P (counts c) (λ n some. some)))
extent_is (a ∷ b ∷ c ∷ d ∷ xs) = tt

sync_is : (xs : List (List ℕ)) → IfSome (sync_form xs) IsPlain
unfolding sync_form
sync_is xs = as_command (extent_of xs) commands.Sync (λ e. 1 ≤ e.pages) (λ e some. (some, refl)) (extent_is xs)

flush_is : (xs : List (List ℕ)) → IfSome (flush_form xs) IsPlain
unfolding flush_form
flush_is xs = as_command (extent_of xs) commands.Flush (λ e. 1 ≤ e.pages) (λ e some. (some, refl)) (extent_is xs)

invalidate_is : (xs : List (List ℕ)) → IfSome (invalidate_form xs) IsPlain
unfolding invalidate_form
invalidate_is xs = as_command (extent_of xs) commands.Invalidate (λ e. 1 ≤ e.pages) (λ e some. (some, refl)) (extent_is xs)

pageout_is : (xs : List (List ℕ)) → IfSome (pageout_form xs) IsPlain
unfolding pageout_form
pageout_is [] = tt
pageout_is (a ∷ []) = such_then (count_of a) _ (λ n. 1 ≤ n) IsPlain (counts a) (λ n some. (some, refl))
pageout_is (a ∷ b ∷ xs) = tt

chain_is : (xs : List (List ℕ)) → IfSome (chain_form xs) IsPlain
unfolding chain_form
chain_is [] = tt
chain_is (a ∷ []) = tt
chain_is (a ∷ b ∷ []) = any_then (lettered 99 a) _ IsPlain (λ n. any_then (number_of b) _ IsPlain (λ n. (tt, refl)))
chain_is (a ∷ b ∷ c ∷ xs) = tt

stat_is : (xs : List (List ℕ)) → IfSome (stat_form xs) IsPlain
unfolding stat_form
stat_is [] = (tt, refl)
stat_is (a ∷ xs) = tt

-- A verb's command is well formed, and an access where the verb is that of one.
pub record IsOfVerb (verb : List ℕ) (c : Command) : Type 0 where
  pub formed : IsWellFormed c
  pub other : bytes_eq verb (codes "load") ≡ false → bytes_eq verb (codes "store") ≡ false
      → actor_of_line (Ok c) ≡ None

plain : (verb : List ℕ) (o : Option Command) → IfSome o IsPlain → IfSome o (IsOfVerb verb)
plain verb None h = tt
plain verb (Some c) h = record { formed = h.0; other = λ e f. h.1 }

access : (verb : List ℕ) (o : Option Command) → (bytes_eq verb (codes "load") ≡ true) ⊎ (bytes_eq verb (codes "store") ≡ true) → IfSome o IsAccess → IfSome o (IsOfVerb verb)
access verb None is h = tt
access verb (Some c) is h = record { formed = h.0; other = λ e f. elim is [ inl l ↦ absurd (cc) | inr s ↦ absurd (cc) ] }

verb_is : (verb : List ℕ) (xs : List (List ℕ)) → IfSome (verb_form verb xs) (IsOfVerb verb)
unfolding verb_form
verb_is verb xs =
    if_true (bytes_eq verb (codes "actor")) _ _ (IsOfVerb verb) (λ e. plain verb _ (actor_is xs)) (λ e.
    if_true (bytes_eq verb (codes "exit")) _ _ (IsOfVerb verb) (λ e. plain verb _ (exit_is xs)) (λ e.
    if_true (bytes_eq verb (codes "temp")) _ _ (IsOfVerb verb) (λ e. plain verb _ (temp_is xs)) (λ e.
    if_true (bytes_eq verb (codes "open")) _ _ (IsOfVerb verb) (λ e. plain verb _ (open_is xs)) (λ e.
    if_true (bytes_eq verb (codes "destroy")) _ _ (IsOfVerb verb) (λ e. plain verb _ (destroy_is xs)) (λ e.
    if_true (bytes_eq verb (codes "copy")) _ _ (IsOfVerb verb) (λ e. plain verb _ (copy_is xs)) (λ e.
    if_true (bytes_eq verb (codes "move")) _ _ (IsOfVerb verb) (λ e. plain verb _ (move_is xs)) (λ e.
    if_true (bytes_eq verb (codes "map")) _ _ (IsOfVerb verb) (λ e. plain verb _ (map_is xs)) (λ e.
    if_true (bytes_eq verb (codes "split")) _ _ (IsOfVerb verb) (λ e. plain verb _ (split_is xs)) (λ e.
    if_true (bytes_eq verb (codes "protect")) _ _ (IsOfVerb verb) (λ e. plain verb _ (protect_is xs)) (λ e.
    if_true (bytes_eq verb (codes "lock")) _ _ (IsOfVerb verb) (λ e. plain verb _ (lock_is xs)) (λ e.
    if_true (bytes_eq verb (codes "unlock")) _ _ (IsOfVerb verb) (λ e. plain verb _ (unlock_is xs)) (λ e.
    if_true (bytes_eq verb (codes "unmap")) _ _ (IsOfVerb verb) (λ e. plain verb _ (unmap_is xs)) (λ e.
    if_true (bytes_eq verb (codes "status")) _ _ (IsOfVerb verb) (λ e. plain verb _ (status_is xs)) (λ e.
    if_true (bytes_eq verb (codes "find")) _ _ (IsOfVerb verb) (λ e. plain verb _ (find_is xs)) (λ e.
    if_true (bytes_eq verb (codes "load")) _ _ (IsOfVerb verb) (λ e. access verb _ (inl e) (load_is xs)) (λ e.
    if_true (bytes_eq verb (codes "store")) _ _ (IsOfVerb verb) (λ e. access verb _ (inr e) (store_is xs)) (λ e.
    if_true (bytes_eq verb (codes "sync")) _ _ (IsOfVerb verb) (λ e. plain verb _ (sync_is xs)) (λ e.
    if_true (bytes_eq verb (codes "flush")) _ _ (IsOfVerb verb) (λ e. plain verb _ (flush_is xs)) (λ e.
    if_true (bytes_eq verb (codes "invalidate")) _ _ (IsOfVerb verb) (λ e. plain verb _ (invalidate_is xs)) (λ e.
    if_true (bytes_eq verb (codes "pageout")) _ _ (IsOfVerb verb) (λ e. plain verb _ (pageout_is xs)) (λ e.
    if_true (bytes_eq verb (codes "chain")) _ _ (IsOfVerb verb) (λ e. plain verb _ (chain_is xs)) (λ e.
    if_true (bytes_eq verb (codes "stat")) _ _ (IsOfVerb verb) (λ e. plain verb _ (stat_is xs)) (λ e. tt)))))))))))))))))))))))

well : (verb : List ℕ) (o : Option Command) → IfSome o (IsOfVerb verb) → IfSome o IsWellFormed
well verb None h = tt
well verb (Some c) h = h.formed

pub form : (words : List (List ℕ)) → IfSome (form_of words) IsWellFormed
form [] = tt
form (verb ∷ operands) = well verb (verb_form verb operands) (verb_is verb operands)

pub read_form : {C : Type 0} (P : C → Type 0) (o : Option C) → IfSome o P → IfOk (ok_or o BadLine) P
read_form P None h = tt
read_form P (Some command) h = h

read_long : (b : Bool) (o : Option Command) → IfSome o IsWellFormed → IfOk (if b then ok_or None BadLine else ok_or o BadLine) IsWellFormed
read_long true o h = tt
read_long false o h = read_form IsWellFormed o h

pub well_formed : (line : List ℕ) → IfOk (command_of line) IsWellFormed
unfolding command_of
well_formed line = read_long (nat_lt 256 (length line)) (form_of (words_of line)) (form (words_of line))

-- lines of other verbs are no accesses

other_read : (verb : List ℕ) (o : Option Command) → IfSome o (IsOfVerb verb) → bytes_eq verb (codes "load") ≡ false → bytes_eq verb (codes "store") ≡ false → actor_of_line (ok_or o BadLine) ≡ None
other_read verb None h e f = refl
other_read verb (Some c) h e f = h.other e f

other_long : (b : Bool) (o : Option Command) → actor_of_line (ok_or o BadLine) ≡ None → actor_of_line (if b then Err BadLine else ok_or o BadLine) ≡ None
other_long true o h = refl
other_long false o h = h

pub no_access : (line verb : List ℕ) (operands : List (List ℕ)) → words_of line ≡ verb ∷ operands → bytes_eq verb (codes "load") ≡ false → bytes_eq verb (codes "store") ≡ false → actor_of_line (command_of line) ≡ None
unfolding command_of
no_access line verb operands words e f =
    other_long (nat_lt 256 (length line)) (form_of (words_of line))
    (ap (λ (ws : List (List ℕ)). actor_of_line (ok_or (form_of ws) BadLine)) words ∙ other_read verb (verb_form verb operands) (verb_is verb operands) e f)
