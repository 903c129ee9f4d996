-- Lines that are accesses.
use Rattle.std.proofs.Common.{◌≡◌, ◌<◌, ◌≤◌, ◌∙◌, ℕ, Bool, true, false, List, [], ◌∷◌, length, Option, Some, None, Ok, Err, nat_lt, refl, sym, ap, subst, arith, inl, inr}
use Rattle.std.specs.Prelude.{MatchOption, IfSome, bytes_eq, codes, if◌then◌else◌}
use Rattle.std.specs.Option.{ok_or}
use Rattle.std.proofs.lemmas.Bool.{cases_Bool}
use Rattle.vm_ids.specs.Accessing.{command_for}
use Rattle.vm_ids.specs.declared.access.Access.{Access}
use Rattle.vm_ids.specs.declared.command.Command.{Command}
use Rattle.vm_ids.specs.declared.numbers.ActorId.{ActorId}
use Rattle.vm_ids.specs.declared.refusal.Refusal.TheVariants.{BadLine}
use Rattle.vm_model.specs.Run.{Read, actor_of_line}
use Rattle.actor_script.specs.Forms.{command_of, form_of, verb_form, load_form, store_form}
use Rattle.actor_script.specs.Verbs.{other_form}
use Rattle.actor_script.specs.Words.{words_of}
use Rattle.actor_script.proofs.Verbs.{is_load, is_store}
use Rattle.actor_script.proofs.Operands.{load_short, store_short}
use Rattle.actor_script.proofs.WellFormed.{IsAccess, load_is, store_is, no_access}

-- no access is read
abbrev NoAccess : List ℕ → Type 0
NoAccess line = actor_of_line (command_of line) ≡ None

-- this access of this actor is read
abbrev IsRead : List ℕ → ActorId × Access → Type 0
IsRead line found = command_of line ≡ Ok (command_for found.0 found.1)

pub too_long : (line : List ℕ) → 256 < length line → NoAccess line
unfolding command_of
too_long line long = ap (λ (b : Bool). actor_of_line (if b then Err BadLine else ok_or (form_of (words_of line)) BadLine)) (let is : nat_lt 256 (length line) ≡ true = grind (arith) in is)

module _ (line verb : List ℕ) (operands : List (List ℕ)) (words : words_of line ≡ verb ∷ operands) (few : length line ≤ 256) where
  within : command_of line ≡ ok_or (verb_form verb operands) BadLine
  unfolding command_of
  within =
      ap (λ (b : Bool). (let r : Read = if b then Err BadLine else ok_or (form_of (words_of line)) BadLine in r)) (let is : nat_lt 256 (length line) ≡ false = grind (arith) in is)
      ∙ ap (λ (ws : List (List ℕ)). ok_or (form_of ws) BadLine) words

  of_form : (form : Option Command) (r : Option (ActorId × Access)) → verb_form verb operands ≡ form
      → MatchOption r (form ≡ None) (λ found. form ≡ Some (command_for found.0 found.1)) → MatchOption r (NoAccess line) (IsRead line)
  of_form form None is h = ap actor_of_line (within ∙ ap (λ (o : Option Command). ok_or o BadLine) (is ∙ h))
  of_form form (Some found) is h = within ∙ ap (λ (o : Option Command). ok_or o BadLine) (is ∙ h)

  of_other : (r : Option (ActorId × Access)) → bytes_eq verb (codes "load") ≡ false → bytes_eq verb (codes "store") ≡ false
      → (let none : Option Command = None in MatchOption r (none ≡ None) (λ found. none ≡ Some (command_for found.0 found.1))) → MatchOption r (NoAccess line) (IsRead line)
  of_other None l s h = no_access line verb operands words l s
  of_other (Some found) l s h = absurd (cc h)

  -- what the verb's form reads is what the line does
  pub of_verb : (r : Option (ActorId × Access))
      → (let form = (if bytes_eq verb (codes "load") then load_form operands else if bytes_eq verb (codes "store") then store_form operands else None) in
      MatchOption r (form ≡ None) (λ found. form ≡ Some (command_for found.0 found.1)))
      → MatchOption r (NoAccess line) (IsRead line)
  of_verb r h = elim (cases_Bool (bytes_eq verb (codes "load"))) [
    | inl l ↦ of_form (load_form operands) r (is_load verb operands l) (rw l at h)
    | inr l ↦ elim (cases_Bool (bytes_eq verb (codes "store"))) [
      | inl s ↦ of_form (store_form operands) r (is_store verb operands s) (rw (l, s) at h)
      | inr s ↦ of_other r l s (rw (l, s) at h)
    ]
  ]

-- one word is no access
pub one_word : (line : List ℕ) → words_of line ≡ line ∷ [] → length line ≤ 256 → NoAccess line
one_word line one few = elim (cases_Bool (bytes_eq line (codes "load"))) [
  | inl l ↦ of_form line line [] one few (load_form []) None (is_load line [] l) (load_short [] (omega arith))
  | inr l ↦ elim (cases_Bool (bytes_eq line (codes "store"))) [
    | inl s ↦ of_form line line [] one few (store_form []) None (is_store line [] s) (store_short [] (omega arith))
    | inr s ↦ no_access line line [] one l s
  ]
]

-- Where no access is asked, the form of any verb but `load` and `store` is that of the verb.

none_asked : (o : Option Command) → IfSome o IsAccess → actor_of_line (ok_or o BadLine) ≡ None → o ≡ None
none_asked None is none = refl
none_asked (Some c) is none = absurd (cc (is.1.1, none))

is_other : (verb : List ℕ) (operands : List (List ℕ)) → actor_of_line (ok_or (verb_form verb operands) BadLine) ≡ None
    → other_form verb operands ≡ verb_form verb operands
is_other verb operands none = elim (cases_Bool (bytes_eq verb (codes "load"))) [
  | inl l ↦
      let is = is_load verb operands l in
      rw l (sym (is ∙ none_asked (load_form operands) (load_is operands) (rw is at none)))
  | inr l ↦ elim (cases_Bool (bytes_eq verb (codes "store"))) [
    | inl s ↦
        let is = is_store verb operands s in
        rw (l, s) (sym (is ∙ none_asked (store_form operands) (store_is operands) (rw is at none)))
    | inr s ↦ rw (l, s) refl
  ]
]

pub other_words : (line verb : List ℕ) (operands : List (List ℕ)) → words_of line ≡ verb ∷ operands
    → actor_of_line (ok_or (form_of (words_of line)) BadLine) ≡ None → other_form verb operands ≡ form_of (words_of line)
other_words line verb operands words none =
    is_other verb operands (subst (λ (ws : List (List ℕ)). actor_of_line (ok_or (form_of ws) BadLine) ≡ None) words none)
    ∙ sym (ap form_of words)
