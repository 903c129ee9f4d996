-- How words spell options, as the definition cuts them and as clap does.
use Rattle.std.proofs.Common.{◌≡◌, ◌==◌, ◌||◌, ◌&&◌, ◌+◌, ℕ, suc, Bool, true, false, cond, not, List, [], ◌∷◌, take, drop, Option, Some, None, refl, sym, ap, ◌∙◌, arith, one-add, eqb-true, bytes_eq}
use Rattle.std.specs.List.{after_first, before_first, list_any, position_or_len}
use Rattle.std.specs.Prelude.{option_and_then, option_map}
use Rattle.std.proofs.lemmas.Bool.{false_from_ne_true}
use Rattle.std.proofs.lemmas.Slice.Eq.{bytes_eq-Decides}
use Rattle.clap.specs.Lexer.{long_of, long_of_rest, name_and_value, short_of, short_of_rest, strip_byte}
use Rattle.replay.specs.Commanding.{CommandOption, hyphened, is_equals, is_value, option_in}

-- cutting at the first element that passes

abbrev Test : Type 0
Test = ℕ → Bool

place_past : (p : Test) (x : ℕ) (xs : List ℕ) → p x ≡ false → position_or_len p (x ∷ xs) ≡ suc (position_or_len p xs)
place_past p x xs e = ap (λ (b : Bool). cond (not b) (1 + position_or_len p xs) 0) e ∙ one-add (position_or_len p xs)

before_past : (p : Test) (x : ℕ) (xs : List ℕ) → p x ≡ false → before_first p (x ∷ xs) ≡ x ∷ before_first p xs
before_past p x xs e = ap (λ (n : ℕ). take n (x ∷ xs)) (place_past p x xs e)

after_past : (p : Test) (x : ℕ) (xs : List ℕ) → p x ≡ false → after_first p (x ∷ xs) ≡ after_first p xs
after_past p x xs e = ap (λ (n : ℕ). drop (n + 1) (x ∷ xs)) (place_past p x xs e) ∙ ap (λ (n : ℕ). drop n (x ∷ xs)) (one_more (position_or_len p xs))
  where
    one_more : (n : ℕ) → suc n + 1 ≡ suc (n + 1)
    one_more n = omega arith

before_at : (p : Test) (x : ℕ) (xs : List ℕ) → p x ≡ true → before_first p (x ∷ xs) ≡ []
before_at p x xs e = ap (λ (b : Bool). take (cond (not b) (1 + position_or_len p xs) 0) (x ∷ xs)) e

none_past : (p : Test) (x : ℕ) (xs : List ℕ) (b : Bool) → p x ≡ b → list_any p (x ∷ xs) ≡ false → (b ≡ false) × (list_any p xs ≡ false)
none_past p x xs true t e = let yes : list_any p (x ∷ xs) ≡ true = ap (λ (b : Bool). b || list_any p xs) t in absurd (cc)
none_past p x xs false t e = (refl, sym (ap (λ (b : Bool). b || list_any p xs) t) ∙ e)

before_none : (p : Test) (xs : List ℕ) → list_any p xs ≡ false → before_first p xs ≡ xs
before_none p [] e = refl
before_none p (x ∷ xs) e =
    let past = none_past p x xs (p x) refl e in
    before_past p x xs past.0 ∙ ap (λ (l : List ℕ). x ∷ l) (before_none p xs past.1)

-- a list that is cut behind an element
pub record Begins (p : Test) (word : List ℕ) (b : ℕ) (bs : List ℕ) : Type 0 where
  pub rest : List ℕ
  pub word_is : word ≡ b ∷ rest
  pub before : before_first p rest ≡ bs

pub begins : (p : Test) (word : List ℕ) (b : ℕ) (bs : List ℕ) → before_first p word ≡ b ∷ bs → Begins p word b bs
begins p [] b bs e = absurd (cc)
begins p (a ∷ word) b bs e = by (p a) refl
  where
    by : (t : Bool) → p a ≡ t → Begins p (a ∷ word) b bs
    by true t = let none : [] ≡ b ∷ bs = sym (before_at p a word t) ∙ e in absurd (cc)
    by false t =
        let both : a ∷ before_first p word ≡ b ∷ bs = sym (before_past p a word t) ∙ e in
        let same : a ≡ b = cc in
        record { rest = word; word_is = ap (λ (x : ℕ). x ∷ word) same; before = cc }

-- a word with two hyphens in front

abbrev pub spelled : List ℕ → List ℕ → CommandOption
spelled name value = record { name = name; value = value }

hyphened_name : (rest : List ℕ) → before_first is_equals (hyphened rest) ≡ hyphened (before_first is_equals rest)
hyphened_name rest = before_past is_equals 45 (45 ∷ rest) refl ∙ ap (λ (l : List ℕ). 45 ∷ l) (before_past is_equals 45 rest refl)

hyphened_value : (rest : List ℕ) → after_first is_equals (hyphened rest) ≡ after_first is_equals rest
hyphened_value rest = after_past is_equals 45 (45 ∷ rest) refl ∙ after_past is_equals 45 rest refl

-- a name, and its value where it has one
abbrev Cut : Type 0
Cut = List ℕ × Option (List ℕ)

abbrev cut_where : Bool → List ℕ → Cut
cut_where b rest = (before_first is_equals rest, cond b (Some (after_first is_equals rest)) None)

-- the option that they make
abbrev as_option : Cut → Option CommandOption
as_option cut = option_map (λ (value : List ℕ). spelled (hyphened cut.0) value) cut.1

-- the definition cuts a word with two hyphens in front where clap does
option_cut : (rest : List ℕ) → option_in (hyphened rest) ≡ as_option (name_and_value rest)
option_cut rest = (λ i. cond (list_any is_equals rest) (Some (spelled (hyphened_name rest i) (hyphened_value rest i))) None) ∙ by (list_any is_equals rest)
  where
    by : (b : Bool) → cond b (Some (spelled (hyphened (before_first is_equals rest)) (after_first is_equals rest))) None ≡ as_option (cut_where b rest)
    by true = refl
    by false = refl

-- it is its own name where it has no value
whole_name : (rest : List ℕ) → as_option (name_and_value rest) ≡ None → name_and_value rest ≡ (rest, None)
whole_name rest e = by (list_any is_equals rest) refl e
  where
    by : (b : Bool) → list_any is_equals rest ≡ b → as_option (cut_where b rest) ≡ None → cut_where b rest ≡ (rest, None)
    by true t e = absurd (cc)
    by false t e = ap (λ (l : List ℕ). (l, None)) (before_none is_equals rest t)

with_value : (cut : Cut) (name value : List ℕ) → as_option cut ≡ Some (spelled (hyphened name) value) → cut ≡ (name, Some value)
with_value (n, None) name value e = absurd (cc)
with_value (n, Some v) name value e =
    let both : spelled (hyphened n) v ≡ spelled (hyphened name) value = cc in
    λ i. (drop 2 (both i).name, Some (both i).value)

-- what clap reads as a long option

-- The word is a long option: what follows its two hyphens has this name, and this value behind `=`.
pub record IsLong (word name : List ℕ) (value : Option (List ℕ)) : Type 0 where
  pub rest : List ℕ
  pub word_is : word ≡ hyphened rest
  pub cut : name_and_value rest ≡ (name, value)

stripped : (word rest : List ℕ) → strip_byte 45 word ≡ Some rest → word ≡ 45 ∷ rest
stripped [] rest e = absurd (cc)
stripped (a ∷ word) rest e = by (a == 45) refl
  where
    by : (t : Bool) → (a == 45) ≡ t → a ∷ word ≡ 45 ∷ rest
    by true t =
        let same : Some word ≡ Some rest = sym (ap (λ (b : Bool). cond b (Some word) None) t) ∙ e in
        let is : word ≡ rest = cc in
        ap (λ (x : ℕ). x ∷ word) (eqb-true a 45 t) ∙ ap (λ (l : List ℕ). 45 ∷ l) is
    by false t = let none : None ≡ Some rest = sym (ap (λ (b : Bool). cond b (Some word) None) t) ∙ e in absurd (cc)

pub long_seen : (word name : List ℕ) (value : Option (List ℕ)) → long_of word ≡ Some (name, value) → IsLong word name value
long_seen word name value e = first (strip_byte 45 word) refl
  where
    third : (rest : List ℕ) → long_of_rest rest ≡ Some (name, value) → name_and_value rest ≡ (name, value)
    third [] e = absurd (cc)
    third (x ∷ xs) e = cc

    second : (rest : List ℕ) (o : Option (List ℕ)) → word ≡ 45 ∷ rest → strip_byte 45 rest ≡ o → option_and_then long_of_rest o ≡ Some (name, value) → IsLong word name value
    second rest None is s h = absurd (cc)
    second rest (Some r) is s h = record { rest = r; word_is = is ∙ ap (λ (l : List ℕ). 45 ∷ l) (stripped rest r s); cut = third r h }

    first : (o : Option (List ℕ)) → strip_byte 45 word ≡ o → IsLong word name value
    first None s = let none : None ≡ Some (name, value) = sym (ap (λ (o : Option (List ℕ)). option_and_then long_of_rest (option_and_then (strip_byte 45) o)) s) ∙ e in absurd (cc)
    first (Some r) s = second r (strip_byte 45 r) (stripped word r s) refl (sym (ap (λ (o : Option (List ℕ)). option_and_then long_of_rest (option_and_then (strip_byte 45) o)) s) ∙ e)

-- a long option with its value is an option of the definition, and one without is its name

pub long_joined : (word name value : List ℕ) → long_of word ≡ Some (name, Some value) → option_in word ≡ Some (spelled (hyphened name) value)
long_joined word name value e =
    let seen = long_seen word name (Some value) e in
    ap option_in seen.word_is ∙ option_cut seen.rest ∙ ap as_option seen.cut

pub long_alone : (word name : List ℕ) → long_of word ≡ Some (name, None) → (option_in word ≡ None) × (word ≡ hyphened name)
long_alone word name e =
    let seen = long_seen word name None e in
    let whole = whole_name seen.rest (ap as_option seen.cut) in
    let name_is : seen.rest ≡ name = ap (λ (cut : Cut). cut.0) (sym whole ∙ seen.cut) in
    (ap option_in seen.word_is ∙ option_cut seen.rest ∙ ap as_option seen.cut, seen.word_is ∙ ap hyphened name_is)

-- an option of the definition is what clap reads as one, where its name isn't empty

joined_at : (word : List ℕ) (x : ℕ) (xs name value : List ℕ) → word ≡ hyphened (x ∷ xs) → option_in word ≡ Some (spelled (hyphened name) value) → long_of word ≡ Some (name, Some value)
joined_at word x xs name value is e = ap long_of is ∙ ap Some (with_value (name_and_value (x ∷ xs)) name value (sym (option_cut (x ∷ xs)) ∙ sym (ap option_in is) ∙ e))

pub joined_long : (word name value : List ℕ) → (name ≡ [] → ⊥) → option_in word ≡ Some (spelled (hyphened name) value) → long_of word ≡ Some (name, Some value)
joined_long word [] value some e = absurd (some refl)
joined_long word (x ∷ xs) value some e = by (list_any is_equals word) e
  where
    by : (b : Bool) → cond b (Some (spelled (before_first is_equals word) (after_first is_equals word))) None ≡ Some (spelled (hyphened (x ∷ xs)) value) → long_of word ≡ Some (x ∷ xs, Some value)
    by true t =
        let both : spelled (before_first is_equals word) (after_first is_equals word) ≡ spelled (hyphened (x ∷ xs)) value = cc in
        let first = begins is_equals word 45 (45 ∷ x ∷ xs) (ap (λ (o : CommandOption). o.name) both) in
        let second = begins is_equals first.rest 45 (x ∷ xs) first.before in
        let third = begins is_equals second.rest x xs second.before in
        joined_at word x third.rest (x ∷ xs) value (first.word_is ∙ ap (λ (l : List ℕ). 45 ∷ l) second.word_is ∙ ap hyphened third.word_is) e
    by false t = absurd (cc)

pub alone_long : (name : List ℕ) → (name ≡ [] → ⊥) → option_in (hyphened name) ≡ None → long_of (hyphened name) ≡ Some (name, None)
alone_long [] some e = absurd (some refl)
alone_long (x ∷ xs) some e = ap Some (whole_name (x ∷ xs) (sym (option_cut (x ∷ xs)) ∙ e))

-- a word that no hyphen begins is a value for clap

pub record IsPlain (word : List ℕ) : Type 0 where
  pub long : long_of word ≡ None
  pub short : short_of word ≡ None
  pub escape : bytes_eq word (hyphened []) ≡ false

pub plain_word : (word : List ℕ) → is_value word ≡ true → IsPlain word
plain_word [] e = absurd (cc)
plain_word (b ∷ word) e = by (b == 45) refl
  where
    by : (t : Bool) → (b == 45) ≡ t → IsPlain (b ∷ word)
    by true t = let no : false ≡ true = sym (ap not t) ∙ e in absurd (cc)
    by false t =
        let none : strip_byte 45 (b ∷ word) ≡ None = ap (λ (s : Bool). cond s (Some word) None) t in
        record {
          long = ap (λ (o : Option (List ℕ)). option_and_then long_of_rest (option_and_then (strip_byte 45) o)) none;
          short = ap (option_and_then short_of_rest) none;
          escape = ap (λ (s : Bool). s && bytes_eq word (45 ∷ [])) t;
        }

pub differs : (a b : List ℕ) → (a ≡ b → ⊥) → bytes_eq a b ≡ false
differs a b other = false_from_ne_true (bytes_eq a b) (λ t. other ((bytes_eq-Decides a b).0 t))

-- what clap reads as a long option isn't `--`
pub long_no_escape : (word name : List ℕ) (value : Option (List ℕ)) → long_of word ≡ Some (name, value) → bytes_eq word (hyphened []) ≡ false
long_no_escape word name value e = differs word (hyphened []) (λ same. let none : None ≡ Some (name, value) = sym (ap long_of same) ∙ e in cc)
