-- Operands that have a space in them are no numbers and no bytes.
use Rattle.std.proofs.Common.{◌≡◌, ◌==◌, ◌≤◌, ◌⊎◌, ◌∙◌, ℕ, Bool, true, false, List, [], ◌∷◌, length, Option, Some, None, Result, Ok, Err, refl, sym, ap, arith, inl, inr}
use Rattle.std.specs.Prelude.{option_and_then, if◌then◌else◌}
use Rattle.std.specs.Char.{is_digit}
use Rattle.std.specs.List.{list_all, slice_split}
use Rattle.std.specs.Result.{result_ok}
use Rattle.std.proofs.lemmas.Bool.{and_parts, eqb-true, cases_Bool}
use Rattle.std.proofs.lemmas.List.Sums.{list_all-from_AllPass}
use Rattle.hex.specs.Hex.{decode_of, is_hex_digit}
use Rattle.hex.specs.declared.error.FromHexError.{FromHexError}
use Rattle.hex.proofs.HexLemmas.{decode_of-ok}
use Rattle.vm_ids.specs.declared.command.Command.{Command}
use Rattle.vm_ids.specs.declared.command.Command.TheVariants as commands
use Rattle.actor_script.specs.Words.{words_of}
use Rattle.actor_script.specs.Operands.{count_of, unless_zero, length_of, if_few, bytes_of, lettered, address_of}
use Rattle.actor_script.specs.Forms.{load_form, store_form}
use Rattle.actor_script.proofs.Numbers.{no_number}

-- A text has two words or more.
record HasSpace (text : List ℕ) : Type 0 where
  first : List ℕ
  second : List ℕ
  others : List (List ℕ)
  are : words_of text ≡ first ∷ second ∷ others

abbrev is_space : ℕ → Bool
is_space b = b == 32

at_space : (xs : List ℕ) → (slice_split is_space xs ≡ xs ∷ []) ⊎ HasSpace xs → HasSpace (32 ∷ xs)
unfolding words_of
at_space xs (inl one) = record { first = []; second = xs; others = []; are = ap (λ (ws : List (List ℕ)). [] ∷ ws) one }
at_space xs (inr many) = record { first = []; second = many.first; others = many.second ∷ many.others; are = ap (λ (ws : List (List ℕ)). [] ∷ ws) many.are }

one_or_many : (text : List ℕ) → (slice_split is_space text ≡ text ∷ []) ⊎ HasSpace text
unfolding words_of
one_or_many [] = inl refl
one_or_many (x ∷ xs) = elim (cases_Bool (x == 32)) [
  | inl t ↦ let space : x ≡ 32 = eqb-true x 32 t in inr (rw space (at_space xs (one_or_many xs)))
  | inr f ↦ elim (one_or_many xs) [
    | inl one ↦ inl (rw (f, one) refl)
    | inr many ↦ inr (record { first = x ∷ many.first; second = many.second; others = many.others; are = rw (f, many.are) refl })
  ]
]

-- a text of digits has one word
module _ (is : ℕ → Bool) (space : is 32 ≡ false) where
  one_word : (text : List ℕ) → list_all is text ≡ true → words_of text ≡ text ∷ []
  unfolding words_of
  one_word [] all = refl
  one_word (x ∷ xs) all =
      let parts = and_parts (is x) (list_all is xs) all in
      elim (cases_Bool (x == 32)) [
        | inl t ↦ let e : x ≡ 32 = eqb-true x 32 t in absurd (cc (ap is e, parts.0, space))
        | inr f ↦ rw (f, one_word xs parts.1) refl
      ]

  not_all : (text : List ℕ) → HasSpace text → list_all is text ≡ true → ⊥
  not_all text many all = cc (one_word text all, many.are)

no_length : (text : List ℕ) → HasSpace text → length_of text ≡ None
unfolding length_of count_of
no_length text many = ap (λ (o : Option ℕ). option_and_then if_few (option_and_then unless_zero o)) (no_number text (λ s. not_all (λ c. is_digit c 10) refl text many s.digits))

not_decoded : (b : Bool) (r : Result (List ℕ) FromHexError) → ((bytes : List ℕ) → r ≡ Ok bytes → ⊥) → (if b then result_ok r else None) ≡ None
not_decoded true (Ok bytes) never = absurd (never bytes refl)
not_decoded true (Err e) never = refl
not_decoded false r never = refl

no_bytes : (text : List ℕ) → HasSpace text → bytes_of text ≡ None
unfolding bytes_of
no_bytes text many = not_decoded _ (decode_of text) (λ bytes ok. not_all is_hex_digit refl text many (list_all-from_AllPass is_hex_digit text (decode_of-ok text bytes ok).1))

third_none : {A B C : Type 0} (o : Option A) (p : Option B) (q : Option C) (f : A → B → C → Option Command) → q ≡ None → option_and_then (λ a. option_and_then (λ b. option_and_then (f a b) q) p) o ≡ None
third_none None p q f none = refl
third_none (Some a) None q f none = refl
third_none (Some a) (Some b) q f none = ap (option_and_then (f a b)) none

-- so the last operand may be taken whole

load_words : (actor address text : List ℕ) → (words_of text ≡ text ∷ []) ⊎ HasSpace text → load_form (actor ∷ address ∷ words_of text) ≡ load_form (actor ∷ address ∷ text ∷ [])
unfolding load_form
load_words actor address text (inl one) = ap (λ (ws : List (List ℕ)). load_form (actor ∷ address ∷ ws)) one
load_words actor address text (inr many) = rw many.are (sym (third_none (lettered 97 actor) (address_of address) (length_of text) _ (no_length text many)))

store_words : (actor address text : List ℕ) → (words_of text ≡ text ∷ []) ⊎ HasSpace text → store_form (actor ∷ address ∷ words_of text) ≡ store_form (actor ∷ address ∷ text ∷ [])
unfolding store_form
store_words actor address text (inl one) = ap (λ (ws : List (List ℕ)). store_form (actor ∷ address ∷ ws)) one
store_words actor address text (inr many) = rw many.are (sym (third_none (lettered 97 actor) (address_of address) (bytes_of text) _ (no_bytes text many)))

pub load_whole : (operands actor address text : List ℕ) → words_of operands ≡ actor ∷ address ∷ words_of text → load_form (words_of operands) ≡ load_form (actor ∷ address ∷ text ∷ [])
unfolding words_of
load_whole operands actor address text words = ap load_form words ∙ load_words actor address text (one_or_many text)

pub store_whole : (operands actor address text : List ℕ) → words_of operands ≡ actor ∷ address ∷ words_of text → store_form (words_of operands) ≡ store_form (actor ∷ address ∷ text ∷ [])
unfolding words_of
store_whole operands actor address text words = ap store_form words ∙ store_words actor address text (one_or_many text)

-- what is read of three operands

pub load_read : (actor address text : List ℕ) (a at n : ℕ) → lettered 97 actor ≡ Some a → address_of address ≡ Some at → length_of text ≡ Some n → load_form (actor ∷ address ∷ text ∷ []) ≡ Some (commands.Load (record { 0 = a }) at n)
unfolding load_form
load_read actor address text a at n of from long = rw (of, from, long) refl

pub load_none : (actor address text : List ℕ) → length_of text ≡ None → load_form (actor ∷ address ∷ text ∷ []) ≡ None
unfolding load_form
load_none actor address text none = third_none (lettered 97 actor) (address_of address) (length_of text) _ none

pub store_read : (actor address text : List ℕ) (a at : ℕ) (piece : List ℕ) → lettered 97 actor ≡ Some a → address_of address ≡ Some at → bytes_of text ≡ Some piece → store_form (actor ∷ address ∷ text ∷ []) ≡ Some (commands.Store (record { 0 = a }) at piece)
unfolding store_form
store_read actor address text a at piece of from bytes = rw (of, from, bytes) refl

pub store_none : (actor address text : List ℕ) → bytes_of text ≡ None → store_form (actor ∷ address ∷ text ∷ []) ≡ None
unfolding store_form
store_none actor address text none = third_none (lettered 97 actor) (address_of address) (bytes_of text) _ none

-- fewer than three are too few

pub load_short : (words : List (List ℕ)) → length words ≤ 2 → load_form words ≡ None
unfolding load_form
load_short [] few = refl
load_short (a ∷ []) few = refl
load_short (a ∷ b ∷ []) few = refl
load_short (a ∷ b ∷ c ∷ ws) few = absurd (omega arith)

pub store_short : (words : List (List ℕ)) → length words ≤ 2 → store_form words ≡ None
unfolding store_form
store_short [] few = refl
store_short (a ∷ []) few = refl
store_short (a ∷ b ∷ []) few = refl
store_short (a ∷ b ∷ c ∷ ws) few = absurd (omega arith)

pub ruleset loads = (load_whole, load_short)

pub ruleset stores = (store_whole, store_short)
