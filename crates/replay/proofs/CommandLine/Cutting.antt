-- Words that are cut into options, one option after another.
use Rattle.std.proofs.Common.{◌≡◌, Bool, true, false, List, ℕ, [], ◌∷◌, Option, Some, None, refl, ap, subst, ◌∙◌, option_map}
use Rattle.std.specs.List.{AllByRecursion, list_any}
use Rattle.std.proofs.lemmas.Bool.{or_from}
use Rattle.std.specs.Option.{option_map_or}
use Rattle.replay.specs.Commanding.{CommandOption, is_value, option_in, options_of}
use Rattle.replay.proofs.CommandLine.Spelling.{spelled}

abbrev in_front : CommandOption → Option (List CommandOption) → Option (List CommandOption)
in_front o = option_map (λ (options : List CommandOption). o ∷ options)

pub cut_joined : (word : List ℕ) (words : List (List ℕ)) (o : CommandOption) (options : List CommandOption) → option_in word ≡ Some o → options_of words ≡ Some options → options_of (word ∷ words) ≡ Some (o ∷ options)
unfolding options_of
cut_joined word [] o options is e = ap (option_map (λ (x : CommandOption). x ∷ [])) is ∙ ap (in_front o) e
cut_joined word (next ∷ words) o options is e =
    ap (λ (x : Option CommandOption). option_map_or (λ (o : CommandOption). in_front o (options_of (next ∷ words))) x (in_front (spelled word next) (options_of words))) is ∙ ap (in_front o) e

pub cut_apart : (word value : List ℕ) (words : List (List ℕ)) (options : List CommandOption) → option_in word ≡ None → options_of words ≡ Some options → options_of (word ∷ value ∷ words) ≡ Some (spelled word value ∷ options)
unfolding options_of
cut_apart word value words options is e =
    ap (λ (x : Option CommandOption). option_map_or (λ (o : CommandOption). in_front o (options_of (value ∷ words))) x (in_front (spelled word value) (options_of words))) is ∙ ap (in_front (spelled word value)) e

-- What holds of no words and of one option more in either spelling holds of all words that are cut.
module _ (P : List (List ℕ) → List CommandOption → Type 0) (none : P [] [])
    (joined : (word : List ℕ) (words : List (List ℕ)) (o : CommandOption) (options : List CommandOption) → option_in word ≡ Some o → P words options → P (word ∷ words) (o ∷ options))
    (apart : (word value : List ℕ) (words : List (List ℕ)) (options : List CommandOption) → option_in word ≡ None → P words options → P (word ∷ value ∷ words) (spelled word value ∷ options)) where
  abbrev Holds : List (List ℕ) → Type 0
  Holds words = (options : List CommandOption) → options_of words ≡ Some options → P words options

  none_cut : (options : List CommandOption) → Some [] ≡ Some options → P [] options
  none_cut [] e = none
  none_cut (o ∷ options) e = absurd (cc)

  one_joined : (word : List ℕ) (words : List (List ℕ)) (options : List CommandOption) (o : CommandOption) (rest : Option (List CommandOption)) → option_in word ≡ Some o → options_of words ≡ rest → Holds words → in_front o rest ≡ Some options → P (word ∷ words) options
  one_joined word words options o None is cut holds e = absurd (cc)
  one_joined word words options o (Some rest) is cut holds e =
      let same : o ∷ rest ≡ options = cc in
      subst (P (word ∷ words)) same (joined word words o rest is (holds rest cut))

  one_apart : (word value : List ℕ) (words : List (List ℕ)) (options : List CommandOption) (rest : Option (List CommandOption)) → option_in word ≡ None → options_of words ≡ rest → Holds words → in_front (spelled word value) rest ≡ Some options → P (word ∷ value ∷ words) options
  one_apart word value words options None is cut holds e = absurd (cc)
  one_apart word value words options (Some rest) is cut holds e =
      let same : spelled word value ∷ rest ≡ options = cc in
      subst (P (word ∷ value ∷ words)) same (apart word value words rest is (holds rest cut))

  pub by_cut : (words : List (List ℕ)) → Holds words
  unfolding options_of
  by_cut [] options e = none_cut options e
  by_cut (word ∷ []) options e = by (option_in word) refl e
    where
      by : (o : Option CommandOption) → option_in word ≡ o → option_map (λ (x : CommandOption). x ∷ []) o ≡ Some options → P (word ∷ []) options
      by None is e = absurd (cc)
      by (Some o) is e = one_joined word [] options o (Some []) is refl none_cut e
  by_cut (word ∷ value ∷ words) options e = by (option_in word) refl (by_cut (value ∷ words)) (by_cut words) e
    where
      by : (o : Option CommandOption) → option_in word ≡ o → Holds (value ∷ words) → Holds words
          → option_map_or (λ (o : CommandOption). in_front o (options_of (value ∷ words))) o (in_front (spelled word value) (options_of words)) ≡ Some options → P (word ∷ value ∷ words) options
      by None is more less e = one_apart word value words options (options_of words) is refl less e
      by (Some o) is more less e = one_joined word (value ∷ words) options o (options_of (value ∷ words)) is refl more e

-- no hyphen begins a value
abbrev pub ArePlain : List CommandOption → Type 0
ArePlain options = AllByRecursion (λ (o : CommandOption). is_value o.value ≡ true) options

-- A test that fails at an option in one word, at its name and at a plain value fails at each word.
module _ (test : List ℕ → Bool) (Q : CommandOption → Type 0)
    (joined : (word : List ℕ) (o : CommandOption) → option_in word ≡ Some o → Q o → test word ≡ false)
    (alone : (word value : List ℕ) → option_in word ≡ None → Q (spelled word value) → test word ≡ false)
    (plain : (word : List ℕ) → is_value word ≡ true → test word ≡ false) where
  abbrev Fails : List (List ℕ) → List CommandOption → Type 0
  Fails words options = AllByRecursion Q options → ArePlain options → list_any test words ≡ false

  pub fails : (words : List (List ℕ)) (options : List CommandOption) → options_of words ≡ Some options → Fails words options
  fails = by_cut Fails (λ qs plains. refl)
      (λ word words o options is rest qs plains. or_from _ _ (joined word o is qs.0) (rest qs.1 plains.1))
      (λ word value words options is rest qs plains. or_from _ _ (alone word value is qs.0) (or_from _ _ (plain value plains.0) (rest qs.1 plains.1)))
