-- The options that a word knows: which are proper, and what their values are.
use Rattle.std.proofs.Common.{◌≡◌, ◌||◌, ◌&&◌, ◌⊎◌, ℕ, Bool, true, false, cond, not, List, [], ◌∷◌, ◌++◌, drop, find, map, Option, Some, None, refl, sym, ap, ap₂, subst, ◌∙◌, inl, inr, bytes_eq, slice_get, option_map, option_and_then}
use Rattle.std.specs.List.{AllByRecursion, list_any}
use Rattle.std.specs.Option.{option_map_or}
use Rattle.std.proofs.lemmas.Bool.{and_parts, not-true, or_from, or_parts, or_right, true_from_ne_false}
use Rattle.std.proofs.lemmas.List.Folds.{list_any-append}
use Rattle.std.proofs.lemmas.Slice.Eq.{bytes_eq-Decides}
use Rattle.clap.specs.Walk.{Row, Rule, Text, arg_by_id, arg_by_index, arg_by_long, arg_by_short, first_of, has_row}
use Rattle.replay.specs.Commanding.{CommandOption, are_proper, hyphened, is_known, is_value, value_named}
use Rattle.replay.specs.Reading.{are_named, have_values}
use Rattle.replay.proofs.CommandLine.Cutting.{ArePlain}
use Rattle.replay.proofs.CommandLine.Turns.{IsOption, IsOptions, opt, same_bytes}
use Rattle.replay.proofs.CommandLine.Walks.{Fits, Known, id_of, row_of}

pub same_text : (a b : Text) → bytes_eq a b ≡ true → a ≡ b
same_text a b e = (bytes_eq-Decides a b).0 e

same_truth : (a b : Bool) → (a ≡ true → b ≡ true) → (b ≡ true → a ≡ true) → a ≡ b
same_truth true b h k = sym (h refl)
same_truth false true h k = k refl
same_truth false false h k = refl

-- the rules of options with these names, as the built command has them
abbrev pub rules_of : List Text → List Rule
rules_of known = map opt known

-- a name is known where it finds a rule, which is its own

long_is_id : (known : List Text) (name : Text) → arg_by_long (rules_of known) name ≡ arg_by_id (rules_of known) name
long_is_id [] name = refl
long_is_id (own ∷ known) name = by (bytes_eq own name) (long_is_id known name)
  where
    by : (b : Bool) → arg_by_long (rules_of known) name ≡ arg_by_id (rules_of known) name → cond (b || false) (Some (opt own)) (arg_by_long (rules_of known) name) ≡ cond b (Some (opt own)) (arg_by_id (rules_of known) name)
    by true rest = refl
    by false rest = rest

rule_found : (known : List Text) (name : Text) → arg_by_id (rules_of known) name ≡ cond (is_known known (hyphened name)) (Some (opt name)) None
rule_found [] name = refl
rule_found (own ∷ known) name = by (bytes_eq own name) refl (rule_found known name)
  where
    by : (b : Bool) → bytes_eq own name ≡ b → arg_by_id (rules_of known) name ≡ cond (is_known known (hyphened name)) (Some (opt name)) None
        → cond b (Some (opt own)) (arg_by_id (rules_of known) name) ≡ cond (b || is_known known (hyphened name)) (Some (opt name)) None
    by true t rest = ap (λ (n : Text). Some (opt n)) (same_text own name t)
    by false t rest = rest

unnamed : (known : List Text) → are_named known ≡ true → is_known known (hyphened []) ≡ false
unnamed [] named = refl
unnamed ([] ∷ known) named = absurd (cc)
unnamed ((x ∷ xs) ∷ known) named = unnamed known (and_parts _ _ named).1

pub known_option : (known : List Text) → are_named known ≡ true → (name : Text) → is_known known (hyphened name) ≡ true → IsOption (rules_of known) name
known_option known named name e =
    let id : arg_by_id (rules_of known) name ≡ Some (opt name) = rule_found known name ∙ ap (λ (b : Bool). cond b (Some (opt name)) None) e in
    record {
      some = λ none. (let bad : true ≡ false = sym e ∙ ap (λ (n : Text). is_known known (hyphened n)) none ∙ unnamed known named in cc);
      long = long_is_id known name ∙ id;
      id = id;
    }

unknown_none : (known : List Text) (name : Text) → is_known known (hyphened name) ≡ false → arg_by_long (rules_of known) name ≡ None
unknown_none known name e = long_is_id known name ∙ rule_found known name ∙ ap (λ (b : Bool). cond b (Some (opt name)) None) e

option_known : (known : List Text) (name : Text) → IsOption (rules_of known) name → is_known known (hyphened name) ≡ true
option_known known name o = true_from_ne_false (is_known known (hyphened name)) (λ f. let none : None ≡ Some (opt name) = sym (unknown_none known name f) ∙ o.long in cc)

none_short : (known : List Text) (x : ℕ) → arg_by_short (rules_of known) x ≡ None
none_short [] x = refl
none_short (own ∷ known) x = none_short known x

none_placed : (known : List Text) → arg_by_index (rules_of known) 1 ≡ None
none_placed [] = refl
none_placed (own ∷ known) = none_placed known

pub options_alone : (known : List Text) → are_named known ≡ true → IsOptions (rules_of known)
options_alone known named = record { long = λ name. by name (is_known known (hyphened name)) refl; short = none_short known; position = none_placed known }
  where
    by : (name : Text) (b : Bool) → is_known known (hyphened name) ≡ b → IsOption (rules_of known) name ⊎ (arg_by_long (rules_of known) name ≡ None)
    by name true t = inl (known_option known named name t)
    by name false t = inr (unknown_none known name t)

-- a known name has its hyphens
known_name : (known : List Text) (name : Text) → is_known known name ≡ true → name ≡ hyphened (drop 2 name)
known_name [] name e = absurd (cc)
known_name (own ∷ known) name e = by (bytes_eq (hyphened own) name) refl e (known_name known name)
  where
    by : (b : Bool) → bytes_eq (hyphened own) name ≡ b → (b || is_known known name) ≡ true → (is_known known name ≡ true → name ≡ hyphened (drop 2 name)) → name ≡ hyphened (drop 2 name)
    by true t e rest = subst (λ (n : Text). n ≡ hyphened (drop 2 n)) (same_text (hyphened own) name t) refl
    by false t e rest = rest e

-- options with known names

abbrev pub AreKnown : List Rule → List CommandOption → Type 0
AreKnown c options = AllByRecursion (Known c) options

-- a later option has the name
abbrev pub is_again : Text → List CommandOption → Bool
is_again name options = list_any (λ (later : CommandOption). bytes_eq name later.name) options

-- The options have known names, and no two have the same.
abbrev pub AreOwn : List Text → List CommandOption → Type 0
AreOwn known [] = Unit {0}
AreOwn known (o ∷ options) = (is_known known o.name ≡ true) × (is_again o.name options ≡ false) × AreOwn known options

pub own_known : (known : List Text) → are_named known ≡ true → (options : List CommandOption) → AreOwn known options → AreKnown (rules_of known) options
own_known known named [] own = tt
own_known known named (o ∷ options) own =
    let name = known_name known o.name own.0 in
    (record { name_is = name; option = known_option known named (id_of o) (sym (ap (is_known known) name) ∙ own.0) }, own_known known named options own.2)

-- proper options are such that have values

pub proper_parts : (known : List Text) (options : List CommandOption) → are_proper known options ≡ true → AreOwn known options × ArePlain options
proper_parts known [] e = (tt, tt)
proper_parts known (o ∷ options) e =
    let parts = and_parts _ _ e in
    let first = and_parts _ _ parts.0 in
    let later = and_parts _ _ parts.1 in
    let rest = proper_parts known options later.1 in
    ((first.0, not-true _ later.0, rest.0), (first.1, rest.1))

proper_whole : (known : List Text) (options : List CommandOption) → AreOwn known options → ArePlain options → are_proper known options ≡ true
proper_whole known [] own plain = refl
proper_whole known (o ∷ options) own plain =
    ap (λ (b : Bool). (b && is_value o.value) && (not (is_again o.name options) && are_proper known options)) own.0
    ∙ ap (λ (b : Bool). b && (not (is_again o.name options) && are_proper known options)) plain.0
    ∙ ap (λ (b : Bool). not b && are_proper known options) own.1 ∙ proper_whole known options own.2 plain.1

-- the value that a name finds

plain_named : (name : Text) (options : List CommandOption) → ArePlain options → option_map_or is_value (value_named name options) true ≡ true
plain_named name [] plain = refl
plain_named name (o ∷ options) plain = by (bytes_eq o.name name) (plain_named name options plain.1)
  where
    by : (b : Bool) → option_map_or is_value (value_named name options) true ≡ true → option_map_or is_value (option_map (λ (x : CommandOption). x.value) (cond b (Some o) (find (λ (x : CommandOption). bytes_eq x.name name) options))) true ≡ true
    by true rest = plain.0
    by false rest = rest

all_named : (known : List Text) (options : List CommandOption) → ArePlain options → have_values (λ name. value_named (hyphened name) options) known ≡ true
all_named [] options plain = refl
all_named (own ∷ known) options plain =
    ap (λ (b : Bool). b && have_values (λ name. value_named (hyphened name) options) known) (plain_named (hyphened own) options plain) ∙ all_named known options plain

-- what holds of what every known name finds
one_named : (found : Text → Option Text) (known : List Text) (name : Text) → have_values found known ≡ true → is_known known (hyphened name) ≡ true → option_map_or is_value (found name) true ≡ true
one_named found [] name all e = absurd (cc)
one_named found (own ∷ known) name all e = by (bytes_eq own name) refl e (one_named found known name (and_parts _ _ all).1)
  where
    by : (b : Bool) → bytes_eq own name ≡ b → (b || is_known known (hyphened name)) ≡ true → (is_known known (hyphened name) ≡ true → option_map_or is_value (found name) true ≡ true) → option_map_or is_value (found name) true ≡ true
    by true t e rest = subst (λ (n : Text). option_map_or is_value (found n) true ≡ true) (same_text own name t) (and_parts _ _ all).0
    by false t e rest = rest e

-- each option is the one that its name finds

found_again : (name : Text) (options : List CommandOption) (x : Text) → value_named name options ≡ Some x → is_again name options ≡ true
found_again name [] x e = absurd (cc)
found_again name (o ∷ options) x e = by (bytes_eq o.name name) refl e (found_again name options x)
  where
    by : (b : Bool) → bytes_eq o.name name ≡ b → option_map (λ (o : CommandOption). o.value) (cond b (Some o) (find (λ (o : CommandOption). bytes_eq o.name name) options)) ≡ Some x
        → (value_named name options ≡ Some x → is_again name options ≡ true) → is_again name (o ∷ options) ≡ true
    by true t e later = ap (λ (b : Bool). b || is_again name options) (ap (bytes_eq name) (same_text o.name name t) ∙ same_bytes name)
    by false t e later = or_right (bytes_eq name o.name) (is_again name options) (later e)

each_plain : (known : List Text) (options : List CommandOption) → AreOwn known options → ((name x : Text) → is_known known name ≡ true → value_named name options ≡ Some x → is_value x ≡ true) → ArePlain options
each_plain known [] own h = tt
each_plain known (o ∷ options) own h = (
  h o.name o.value own.0 (ap (λ (b : Bool). option_map (λ (x : CommandOption). x.value) (cond b (Some o) (find (λ (x : CommandOption). bytes_eq x.name o.name) options))) (same_bytes o.name)),
  each_plain known options own.2 (λ name x is found. h name x is (passed name x found (bytes_eq o.name name) refl)),
)
  where
    passed : (name x : Text) → value_named name options ≡ Some x → (b : Bool) → bytes_eq o.name name ≡ b → value_named name (o ∷ options) ≡ Some x
    passed name x found true t =
        let yes : is_again o.name options ≡ true = found_again o.name options x (ap (λ (n : Text). value_named n options) (same_text o.name name t) ∙ found) in
        let no : is_again o.name options ≡ false = own.1 in
        absurd (cc)
    passed name x found false t = ap (λ (b : Bool). option_map (λ (x : CommandOption). x.value) (cond b (Some o) (find (λ (x : CommandOption). bytes_eq x.name name) options))) t ∙ found

all_plain : (known : List Text) (options : List CommandOption) → AreOwn known options → have_values (λ name. value_named (hyphened name) options) known ≡ true → ArePlain options
all_plain known options own all = each_plain known options own (λ name x is found.
    let hyphens = known_name known name is in
    sym (ap (λ (o : Option Text). option_map_or is_value o true) (sym (ap (λ (n : Text). value_named n options) hyphens) ∙ found))
    ∙ one_named (λ name. value_named (hyphened name) options) known (drop 2 name) all (sym (ap (is_known known) hyphens) ∙ is))

pub proper_is : (known : List Text) (options : List CommandOption) → AreOwn known options → are_proper known options ≡ have_values (λ name. value_named (hyphened name) options) known
proper_is known options own = same_truth _ _ (λ e. all_named known options (proper_parts known options e).1) (λ e. proper_whole known options own (all_plain known options own e))

-- options that fit are the known ones

-- some option has the id of one of the rows
abbrev meet : List Row → List CommandOption → Bool
meet rows options = list_any (λ (o : CommandOption). has_row (id_of o) rows) options

meet_none : (options : List CommandOption) → meet [] options ≡ false
meet_none [] = refl
meet_none (o ∷ options) = meet_none options

module _ (c : List Rule) where
  -- with one row more it may have its name, too
  meet_last : (rows : List Row) (o : CommandOption) (options : List CommandOption) → Known c o → AreKnown c options → meet (rows ++ row_of o ∷ []) options ≡ (meet rows options || is_again o.name options)
  meet_last rows o [] k ks = refl
  meet_last rows o (later ∷ options) k ks =
      ap₂ ◌||◌ (list_any-append (λ (r : Row). bytes_eq r.id (id_of later)) rows (row_of o ∷ []) ∙ ap (λ (b : Bool). has_row (id_of later) rows || (b || false)) (sym same_names)) (meet_last rows o options k ks.1)
      ∙ by (has_row (id_of later) rows) (bytes_eq o.name later.name) (meet rows options) (is_again o.name options)
    where
      same_names : bytes_eq o.name later.name ≡ bytes_eq (id_of o) (id_of later)
      same_names = ap (λ (n : Text). bytes_eq n later.name) k.name_is ∙ ap (bytes_eq (hyphened (id_of o))) ks.0.name_is

      by : (h e m g : Bool) → ((h || (e || false)) || (m || g)) ≡ ((h || m) || (e || g))
      by true e m g = refl
      by false false m g = refl
      by false true true g = refl
      by false true false g = refl

  fits_known : (rows : List Row) (options : List CommandOption) → Fits c rows options → AreKnown c options
  fits_known rows [] fits = tt
  fits_known rows (o ∷ options) fits = (fits.0, fits_known (rows ++ row_of o ∷ []) options fits.2)

fits_apart : (known : List Text) (rows : List Row) (options : List CommandOption) → Fits (rules_of known) rows options → AreOwn known options × (meet rows options ≡ false)
fits_apart known rows [] fits = (tt, refl)
fits_apart known rows (o ∷ options) fits =
    let more = rows ++ row_of o ∷ [] in
    let rest = fits_apart known more options fits.2 in
    let parts = or_parts _ _ (sym (meet_last (rules_of known) rows o options fits.0 (fits_known (rules_of known) more options fits.2)) ∙ rest.1) in
    let name : is_known known o.name ≡ true = ap (is_known known) fits.0.name_is ∙ option_known known (id_of o) fits.0.option in
    ((name, parts.1, rest.0), or_from _ _ fits.1 parts.0)

pub fits_own : (known : List Text) (options : List CommandOption) → Fits (rules_of known) [] options → AreOwn known options
fits_own known options fits = (fits_apart known [] options fits).0

module _ (known : List Text) (named : are_named known ≡ true) where
  own_apart : (rows : List Row) (options : List CommandOption) → AreOwn known options → meet rows options ≡ false → Fits (rules_of known) rows options
  own_apart rows [] own apart = tt
  own_apart rows (o ∷ options) own apart =
      let all = own_known known named (o ∷ options) own in
      let parts = or_parts _ _ apart in
      (all.0, parts.0, own_apart (rows ++ row_of o ∷ []) options own.2 (meet_last (rules_of known) rows o options all.0 all.1 ∙ or_from _ _ parts.1 own.1))

  pub own_fits : (options : List CommandOption) → AreOwn known options → Fits (rules_of known) [] options
  own_fits options own = own_apart [] options own (meet_none options)

-- the values that clap finds are those of the options

pub value_found : (id : Text) (c : List Rule) (options : List CommandOption) → AreKnown c options → first_of id (map row_of options) ≡ value_named (hyphened id) options
value_found id c [] ks = refl
value_found id c (o ∷ options) ks =
    by (bytes_eq (id_of o) id) (value_found id c options ks.1)
    ∙ sym (ap (λ (n : Text). option_map (λ (x : CommandOption). x.value) (cond (bytes_eq n (hyphened id)) (Some o) (find (λ (x : CommandOption). bytes_eq x.name (hyphened id)) options))) ks.0.name_is)
  where
    by : (b : Bool) → first_of id (map row_of options) ≡ value_named (hyphened id) options
        → option_and_then (λ (r : Row). slice_get r.values 0) (cond b (Some (row_of o)) (find (λ (r : Row). bytes_eq r.id id) (map row_of options)))
        ≡ option_map (λ (x : CommandOption). x.value) (cond b (Some o) (find (λ (x : CommandOption). bytes_eq x.name (hyphened id)) options))
    by true rest = refl
    by false rest = rest
