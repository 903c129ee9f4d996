-- The first value of a name in words that ask for something is that of the option of this name.
use Rattle.std.proofs.Common.{◌≡◌, ◌==◌, ◌||◌, ℕ, Bool, true, false, cond, not, List, [], ◌∷◌, find, Option, Some, None, refl, sym, ap, ◌∙◌, codes, bytes_eq, option_map, option_and_then, is_some, slice_get, unwrap_or}
use Rattle.std.specs.List.{AllByRecursion, after_first, before_first, list_any}
use Rattle.std.proofs.lemmas.Bool.{not-true, or_from, or_parts}
use Rattle.std.specs.Option.{option_map_or, option_or}
use Rattle.vm_ids.specs.declared.numbers.TheConstants.{PAGE}
use Rattle.replay.specs.declared.asked.Size.{Size}
use Rattle.replay.specs.Commanding.{CommandOption, Values, size_behind, first_value, is_equals, is_hyphened, is_known, is_value, option_in, options_among, options_of, page_of, value_in, value_named, values_behind}
use Rattle.replay.proofs.CommandLine.Spelling.{begins, differs, spelled}
use Rattle.replay.proofs.CommandLine.Cutting.{ArePlain, by_cut, fails}
use Rattle.replay.proofs.CommandLine.Values.{AreOwn}
use Rattle.replay.proofs.CommandLine.Right.{right, sized}

-- a name that a hyphen begins, without the sign
module _ (rest : List ℕ) (alone : option_in (45 ∷ rest) ≡ None) where
  abbrev name : List ℕ
  name = 45 ∷ rest

  -- a word that no hyphen begins is no such name, and gives it no value

  other_differs : (word : List ℕ) → is_hyphened word ≡ false → bytes_eq word name ≡ false
  other_differs word other = differs word name (λ same. let yes : true ≡ false = sym (ap is_hyphened same) ∙ other in cc)

  other_gives_none : (word : List ℕ) → is_hyphened word ≡ false → value_in name word ≡ None
  other_gives_none word other = by (list_any is_equals word)
    where
      first : bytes_eq (before_first is_equals word) name ≡ false
      first = differs (before_first is_equals word) name (λ same. let yes : true ≡ false = sym (ap is_hyphened (begins is_equals word 45 rest same).word_is) ∙ other in cc)

      by : (b : Bool) → option_and_then (λ (o : CommandOption). cond (bytes_eq o.name name) (Some o.value) None) (cond b (Some (record { name = before_first is_equals word; value = after_first is_equals word })) None) ≡ None
      by true = ap (λ (b : Bool). cond b (Some (after_first is_equals word)) None) first
      by false = refl

  -- and so is a value

  value_other : (word : List ℕ) → is_value word ≡ true → is_hyphened word ≡ false
  value_other [] plain = refl
  value_other (b ∷ bs) plain = not-true (b == 45) plain

  plain_differs : (word : List ℕ) → is_value word ≡ true → bytes_eq word name ≡ false
  plain_differs word plain = other_differs word (value_other word plain)

  plain_gives_none : (word : List ℕ) → is_value word ≡ true → value_in name word ≡ None
  plain_gives_none word plain = other_gives_none word (value_other word plain)

  joined_differs : (word : List ℕ) (o : CommandOption) → option_in word ≡ Some o → bytes_eq word name ≡ false
  joined_differs word o is = differs word name (λ same. let none : None ≡ Some o = sym (ap option_in same ∙ alone) ∙ is in cc)

  -- one option after another

  abbrev Finds : List (List ℕ) → List CommandOption → Type 0
  Finds words options = ArePlain options → first_value name words ≡ value_named name options

  abbrev named : Bool → CommandOption → List CommandOption → Option (List ℕ)
  named b o options = option_map (λ (x : CommandOption). x.value) (cond b (Some o) (find (λ (x : CommandOption). bytes_eq x.name name) options))

  joined_finds : (word : List ℕ) (words : List (List ℕ)) (o : CommandOption) (options : List CommandOption) → option_in word ≡ Some o → Finds words options → Finds (word ∷ words) (o ∷ options)
  joined_finds word words o options is finds plain =
      ap (λ (b : Bool). cond b (slice_get words 0) (option_or (value_in name word) (first_value name words))) (joined_differs word o is)
      ∙ ap (λ (x : Option CommandOption). option_or (option_and_then (λ (o : CommandOption). cond (bytes_eq o.name name) (Some o.value) None) x) (first_value name words)) is
      ∙ by (bytes_eq o.name name) refl (finds plain.1)
    where
      by : (b : Bool) → bytes_eq o.name name ≡ b → first_value name words ≡ value_named name options → option_or (cond (bytes_eq o.name name) (Some o.value) None) (first_value name words) ≡ named (bytes_eq o.name name) o options
      by true t rest = ap (λ (b : Bool). option_or (cond b (Some o.value) None) (first_value name words)) t ∙ sym (ap (λ (b : Bool). named b o options) t)
      by false t rest = ap (λ (b : Bool). option_or (cond b (Some o.value) None) (first_value name words)) t ∙ rest ∙ sym (ap (λ (b : Bool). named b o options) t)

  apart_finds : (word value : List ℕ) (words : List (List ℕ)) (options : List CommandOption) → option_in word ≡ None → Finds words options → Finds (word ∷ value ∷ words) (spelled word value ∷ options)
  apart_finds word value words options is finds plain = by (bytes_eq word name) refl (finds plain.1)
    where
      none_here : value_in name word ≡ None
      none_here = ap (option_and_then (λ (o : CommandOption). cond (bytes_eq o.name name) (Some o.value) None)) is

      past_value : first_value name (value ∷ words) ≡ first_value name words
      past_value = ap (λ (b : Bool). cond b (slice_get words 0) (option_or (value_in name value) (first_value name words))) (plain_differs value plain.0)
          ∙ ap (λ (x : Option (List ℕ)). option_or x (first_value name words)) (plain_gives_none value plain.0)

      by : (b : Bool) → bytes_eq word name ≡ b → first_value name words ≡ value_named name options → cond (bytes_eq word name) (Some value) (option_or (value_in name word) (first_value name (value ∷ words))) ≡ named (bytes_eq word name) (spelled word value) options
      by true t rest = ap (λ (b : Bool). cond b (Some value) (option_or (value_in name word) (first_value name (value ∷ words)))) t ∙ sym (ap (λ (b : Bool). named b (spelled word value) options) t)
      by false t rest =
          ap (λ (b : Bool). cond b (Some value) (option_or (value_in name word) (first_value name (value ∷ words)))) t
          ∙ ap (λ (x : Option (List ℕ)). option_or x (first_value name (value ∷ words))) none_here
          ∙ past_value ∙ rest ∙ sym (ap (λ (b : Bool). named b (spelled word value) options) t)

  pub finds : (words : List (List ℕ)) (options : List CommandOption) → options_of words ≡ Some options → Finds words options
  finds = by_cut Finds (λ plain. refl) joined_finds apart_finds

  -- Where no option has the name, none of the words is it or gives it a value.

  abbrev gives : List ℕ → Bool
  gives word = bytes_eq word name || is_some (value_in name word)

  abbrev Lacks : List (List ℕ) → Type 0
  Lacks words = list_any gives words ≡ false

  pub lacking : (words : List (List ℕ)) → Lacks words → first_value name words ≡ None
  lacking [] lacks = refl
  lacking (word ∷ words) lacks =
      let first = or_parts (gives word) (list_any gives words) lacks in
      let parts = or_parts (bytes_eq word name) (is_some (value_in name word)) first.0 in
      ap (λ (b : Bool). cond b (slice_get words 0) (option_or (value_in name word) (first_value name words))) parts.0
      ∙ ap (λ (o : Option (List ℕ)). option_or o (first_value name words)) (none_of (value_in name word) parts.1) ∙ lacking words first.1
    where
      none_of : (o : Option (List ℕ)) → is_some o ≡ false → o ≡ None
      none_of None e = refl
      none_of (Some x) e = absurd (cc)

  own_other : (known : List (List ℕ)) (options : List CommandOption) → AreOwn known options → is_known known name ≡ false → AllByRecursion (λ (o : CommandOption). bytes_eq o.name name ≡ false) options
  own_other known [] own none = tt
  own_other known (o ∷ options) own none = (differs o.name name (λ same. let yes : true ≡ false = sym own.0 ∙ ap (is_known known) same ∙ none in cc), own_other known options own.2 none)

  pub unknown_lacks : (known words : List (List ℕ)) (values : Values) → values_behind known words ≡ Some values → is_known known name ≡ false → Lacks words
  unknown_lacks known words values e none =
      let r = right known words values e in
      fails gives (λ (o : CommandOption). bytes_eq o.name name ≡ false)
      (λ word o is other. or_from _ _ (joined_differs word o is) (ap is_some (ap (option_and_then (λ (o : CommandOption). cond (bytes_eq o.name name) (Some o.value) None)) is ∙ ap (λ (b : Bool). cond b (Some o.value) None) other)))
      (λ word value is other. or_from _ _ other (ap (λ (x : Option CommandOption). is_some (option_and_then (λ (o : CommandOption). cond (bytes_eq o.name name) (Some o.value) None) x)) is))
      (λ word plain. or_from _ _ (plain_differs word plain) (ap is_some (plain_gives_none word plain)))
      words r.options r.cut (own_other known r.options r.own none) r.plain

  -- nor is any of the words among which these options are
  pub among_lacks : (flag : Bool) (words : List (List ℕ)) → Lacks (options_among flag words) → Lacks words
  unfolding options_among
  among_lacks flag [] lacks = refl
  among_lacks true (word ∷ words) lacks =
      let parts = or_parts (gives word) (list_any gives (options_among false words)) lacks in
      ap (λ (b : Bool). b || list_any gives words) parts.0 ∙ among_lacks false words parts.1
  among_lacks false (word ∷ words) lacks = by (is_hyphened word) refl lacks (among_lacks (not (list_any is_equals word)) words) (among_lacks false words)
    where
      by : (b : Bool) → is_hyphened word ≡ b → Lacks (cond b (word ∷ options_among (not (list_any is_equals word)) words) (options_among false words))
          → (Lacks (options_among (not (list_any is_equals word)) words) → Lacks words) → (Lacks (options_among false words) → Lacks words) → Lacks (word ∷ words)
      by true t lacks option rest =
          let parts = or_parts (gives word) (list_any gives (options_among (not (list_any is_equals word)) words)) lacks in
          ap (λ (b : Bool). b || list_any gives words) parts.0 ∙ option parts.1
      by false t lacks option rest = or_from _ _ (or_from _ _ (other_differs word t) (ap is_some (other_gives_none word t))) (rest lacks)

-- the page size that words name is the one that they ask for

abbrev pub page_or : Option (List ℕ) → ℕ
page_or word = unwrap_or (option_and_then page_of word) PAGE

pub page_behind : (known words : List (List ℕ)) (size : Size) → size_behind known words ≡ Some size → page_or (first_value (codes "--page") words) ≡ size.page_bytes
page_behind known words size e =
    let s = sized known words size e in
    let r = right known words s.values s.values_are in
    ap page_or (finds (45 ∷ codes "page") refl words r.options r.cut r.plain ∙ ap (λ (v : Values). v (codes "page")) r.values_are) ∙ by (s.values (codes "page")) s.forms.page_is
  where
    by : (o : Option (List ℕ)) → option_map_or page_of o (Some PAGE) ≡ Some size.page_bytes → page_or o ≡ size.page_bytes
    by None e = cc
    by (Some word) e = ap (λ (p : Option ℕ). unwrap_or p PAGE) e

-- Where no option of a word has pages, its words name none, and neither do words with others among
-- them.
module _ (known : List (List ℕ)) (unpaged : is_known known (codes "--page") ≡ false) where
  pub no_page : (words : List (List ℕ)) (values : Values) → values_behind known words ≡ Some values → first_value (codes "--page") words ≡ None
  no_page words values e = lacking (45 ∷ codes "page") refl words (unknown_lacks (45 ∷ codes "page") refl known words values e unpaged)

  pub no_page_among : (words : List (List ℕ)) (values : Values) → values_behind known (options_among false words) ≡ Some values → first_value (codes "--page") words ≡ None
  no_page_among words values e =
      let rest = 45 ∷ codes "page" in
      lacking rest refl words (among_lacks rest refl false words (unknown_lacks rest refl known (options_among false words) values e unpaged))
