-- Words that are parted into those of options and the others.
use Rattle.std.proofs.Common.{◌≡◌, ◌<◌, ◌≤◌, ◌+◌, ◌||◌, ◌&&◌, ℕ, Bool, true, false, not, cond, List, [], ◌∷◌, ◌++◌, length, get_or, drop, drop_of_length-le, map, refl, sym, ap, ◌∙◌, append-nil, append_assoc, arith}
use Rattle.std.specs.List.{list_any}
use Rattle.std.specs.Borrow.{Bor}
use Rattle.std.proofs.lemmas.List.{drop_more, get_or-map, length-map, map-append}
use Rattle.replay.specs.Commanding.{is_equals, is_hyphened, options_among, others_among}

abbrev Words : Type 0
Words = List (List ℕ)

-- So many words are parted; the flag says that the next one is a value.
pub record Parting (all : Words) (i : ℕ) (flag : Bool) (options others : Words) : Type 0 where
  pub options_are : options_among false all ≡ options ++ options_among flag (drop i all)
  pub others_are : others_among false all ≡ others ++ others_among flag (drop i all)

pub parting_none : (all : Words) → Parting all 0 false [] []
parting_none all = record { options_are = refl; others_are = refl }

-- the value of an option is the next word
abbrev pub awaits : Bool → List ℕ → Bool
awaits flag word = not flag && not (list_any is_equals word)

-- one word

option_first : (flag : Bool) (word : List ℕ) (words : Words) → (flag || is_hyphened word) ≡ true
    → (options_among flag (word ∷ words) ≡ word ∷ options_among (awaits flag word) words) × (others_among flag (word ∷ words) ≡ others_among (awaits flag word) words)
unfolding options_among others_among
option_first true word words e = (refl, refl)
option_first false word words e = (
  ap (λ (b : Bool). cond b (word ∷ options_among (awaits false word) words) (options_among false words)) e,
  ap (λ (b : Bool). cond b (others_among (awaits false word) words) (word ∷ others_among false words)) e,
)

other_first : (flag : Bool) (word : List ℕ) (words : Words) → (flag || is_hyphened word) ≡ false
    → (options_among flag (word ∷ words) ≡ options_among flag words) × (others_among flag (word ∷ words) ≡ word ∷ others_among flag words)
unfolding options_among others_among
other_first true word words e = absurd (cc)
other_first false word words e = (
  ap (λ (b : Bool). cond b (word ∷ options_among (awaits false word) words) (options_among false words)) e,
  ap (λ (b : Bool). cond b (others_among (awaits false word) words) (word ∷ others_among false words)) e,
)

none_options : (flag : Bool) → options_among flag [] ≡ []
unfolding options_among
none_options true = refl
none_options false = refl

none_others : (flag : Bool) → others_among flag [] ≡ []
unfolding others_among
none_others true = refl
none_others false = refl

-- all words are parted
pub parted : (all : Words) (i : ℕ) (flag : Bool) (options others : Words) → length all ≤ i → Parting all i flag options others → (options ≡ options_among false all) × (others ≡ others_among false all)
parted all i flag options others past h =
    let none : drop i all ≡ [] = drop_of_length-le all {i = i} past in (
      sym (h.options_are ∙ ap (λ (words : Words). options ++ options_among flag words) none ∙ ap (λ (words : Words). options ++ words) (none_options flag) ∙ append-nil options),
      sym (h.others_are ∙ ap (λ (words : Words). others ++ others_among flag words) none ∙ ap (λ (words : Words). others ++ words) (none_others flag) ∙ append-nil others),
    )

-- the same of words as the code has them

abbrev pub texts : List (Bor (List ℕ)) → Words
texts = map (λ w. w.now)

word_at : (words : List (Bor (List ℕ))) (i : ℕ) (d : Bor (List ℕ)) → i < length words → drop i (texts words) ≡ (get_or words i d).now ∷ drop (i + 1) (texts words)
word_at words i d less =
    let now : Bor (List ℕ) → List ℕ = λ w. w.now in
    drop_more (texts words) i [] (omega (arith, less, length-map words now)) ∙ ap (λ (x : List ℕ). x ∷ drop (i + 1) (texts words)) (get_or-map now words i d [] less)

pushed : (front : List (Bor (List ℕ))) (word : Bor (List ℕ)) (rest : Words) → texts front ++ word.now ∷ rest ≡ texts (front ++ word ∷ []) ++ rest
pushed front word rest = sym (append_assoc (texts front) (word.now ∷ []) rest) ∙ ap (λ (words : Words). words ++ rest) (sym (map-append (λ (w : Bor (List ℕ)). w.now) front (word ∷ [])))

module _ (words : List (Bor (List ℕ))) (i : ℕ) (flag : Bool) (options others : List (Bor (List ℕ))) (d : Bor (List ℕ)) (less : i < length words) (h : Parting (texts words) i flag (texts options) (texts others)) where
  abbrev word : Bor (List ℕ)
  word = get_or words i d

  pub put_option : (flag || is_hyphened word.now) ≡ true → Parting (texts words) (i + 1) (awaits flag word.now) (texts (options ++ word ∷ [])) (texts others)
  put_option e =
      let rest = drop (i + 1) (texts words) in
      let first = option_first flag word.now rest e in
      let is = word_at words i d less in
      record {
        options_are = h.options_are ∙ ap (λ (ws : Words). texts options ++ options_among flag ws) is ∙ ap (λ (ws : Words). texts options ++ ws) first.0 ∙ pushed options word (options_among (awaits flag word.now) rest);
        others_are = h.others_are ∙ ap (λ (ws : Words). texts others ++ others_among flag ws) is ∙ ap (λ (ws : Words). texts others ++ ws) first.1;
      }

  pub put_other : (flag || is_hyphened word.now) ≡ false → Parting (texts words) (i + 1) flag (texts options) (texts (others ++ word ∷ []))
  put_other e =
      let rest = drop (i + 1) (texts words) in
      let first = other_first flag word.now rest e in
      let is = word_at words i d less in
      record {
        options_are = h.options_are ∙ ap (λ (ws : Words). texts options ++ options_among flag ws) is ∙ ap (λ (ws : Words). texts options ++ ws) first.0;
        others_are = h.others_are ∙ ap (λ (ws : Words). texts others ++ others_among flag ws) is ∙ ap (λ (ws : Words). texts others ++ ws) first.1 ∙ pushed others word (others_among flag rest);
      }

pub at_values : (all : Words) (i : ℕ) (next flag : Bool) (more options rest others : List (Bor (List ℕ))) → next ≡ flag → more ≡ options → rest ≡ others → Parting all i flag (texts options) (texts others) → Parting all i next (texts more) (texts rest)
at_values all i next flag more options rest others e f g h = rw (e, f, g) h
