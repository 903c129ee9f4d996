-- The command that clap is given, and what a parse of it says.
use Rattle.std.proofs.Common.{◌≡◌, ◌||◌, ◌&&◌, ℕ, Bool, true, false, cond, not, List, [], ◌∷◌, ◌++◌, append_assoc, append-nil, map, fold, Option, Some, None, refl, sym, ap, subst, ◌∙◌, inl, inr, option_and_then}
use Rattle.std.proofs.lemmas.Bool.{and_from, cond_both}
use Rattle.std.specs.Prelude.{IfErr, IfOk, IsSome, Result, Ok, Err}
use Rattle.std.specs.List.{list_all, list_any}
use Rattle.clap.specs.Walk.{Held, Row, Rule, Text, finished, first_of, has_row, is_early_multiple, rows_after, rows_of, settled, walked, with_default}
use Rattle.clap.specs.Simple.{App, HasMatchesOf, built, filled_from, is_simple, matches_of, on_top, with_rule}
use Rattle.clap.specs.Takes.{is_given}
use Rattle.clap.specs.Kinds.{FailsBy, Kinds, or_else}
use Rattle.clap.specs.Faults.{check_fault, defaults_fault, fault_of, given_default_fault, is_simple_and_free, level_fault, settle_fault, walk_fault}
use Rattle.clap.proofs.FaultLemmas.{leaf_fault}
use Rattle.clap.proofs.WalkLemmas.{first_value-rows}
use Rattle.clap.specs.declared.error.ErrorKind.TheVariants as kind
use Rattle.clap.specs.Matches.{found_of}
use Rattle.clap.specs.Values.{kind_of}
use Rattle.clap.specs.declared.error.Error.{Error}
use Rattle.clap.specs.declared.parser.matches.ArgMatches.{ArgMatches}
use Rattle.replay.specs.Commanding.{Values, hyphened, value_named, values_behind, values_of}
use Rattle.replay.specs.Reading.{are_named, bare_command, has_escape, told_rule, values_in, values_with, with_options}
use Rattle.replay.proofs.CommandLine.Turns.{held, none_both, none_first, none_then, opt, shape_with, standing}
use Rattle.replay.proofs.CommandLine.Walks.{reads, row_of, takes}
use Rattle.replay.proofs.CommandLine.Values.{fits_own, options_alone, own_fits, own_known, proper_is, rules_of, value_found}
use Rattle.replay.proofs.CommandLine.Right.{right}

-- the command with the rules of some options

abbrev pub told_rules : List Text → List Rule
told_rules known = map told_rule known

abbrev pub with_rules : App → List Rule → App
with_rules a rules = on_top (λ s. record s { rules = s.rules ++ rules }) a

pub options_told : (a : App) (known : List Text) → with_options a known ≡ with_rules a (told_rules known)
options_told a [] = ap (λ (rules : List Rule). on_top (λ s. record s { rules = rules }) a) (sym (append-nil a.top.rules))
options_told a (name ∷ known) =
    options_told (with_rule a (told_rule name)) known
    ∙ ap (λ (rules : List Rule). on_top (λ s. record s { rules = rules }) a) (append_assoc a.top.rules (told_rule name ∷ []) (told_rules known))

abbrev pub told : List Text → App
told known = with_rules bare_command (told_rules known)

-- what holds of the rule of each option holds of all

filled_rules : (known : List Text) → filled_from 1 (told_rules known) ≡ rules_of known
filled_rules [] = refl
filled_rules (name ∷ known) = ap (λ (rules : List Rule). opt name ∷ rules) (filled_rules known)

simple_told : (known : List Text) → list_all (λ (a : Rule). a.is_simple) (told_rules known) ≡ true
simple_told [] = refl
simple_told (name ∷ known) = simple_told known

simple_rules : (known : List Text) → list_all (λ (a : Rule). a.is_simple) (rules_of known) ≡ true
simple_rules [] = refl
simple_rules (name ∷ known) = simple_rules known

free_rules : (known : List Text) → list_all (λ (a : Rule). a.is_free) (rules_of known) ≡ true
free_rules [] = refl
free_rules (name ∷ known) = free_rules known

in_order : (n : ℕ) (known : List Text) → list_any (is_early_multiple n) (rules_of known) ≡ false
in_order n [] = refl
in_order n (name ∷ known) = in_order n known

none_required : (known : List Text) (rows : List Row) → list_any (λ (a : Rule). a.required && not (is_given a.id rows)) (rules_of known) ≡ false
none_required [] rows = refl
none_required (name ∷ known) rows = none_required known rows

abbrev IsFree : List Rule → Type 0
IsFree c = (list_all (λ (a : Rule). a.is_simple) c ≡ true) × ((n : ℕ) → list_any (is_early_multiple n) c ≡ false) × (list_all (λ (a : Rule). a.is_free) c ≡ true)

built_free : (known : List Text) → IsFree (filled_from 1 (told_rules known))
built_free known = subst IsFree (sym (filled_rules known)) (simple_rules known, (λ n. in_order n known), free_rules known)

pub told_simple : (known : List Text) → is_simple (told known) ≡ true
told_simple known =
    let free = built_free known in
    and_from _ _ (and_from _ _ (simple_told known) refl) (and_from _ _ (and_from _ _ free.0 (ap not (free.1 _))) refl)

pub told_free : (known : List Text) → is_simple_and_free (told known) ≡ true
told_free known = and_from _ _ (told_simple known) (and_from _ _ (built_free known).2 refl)

-- where a walk over the words ends
abbrev end_of : List Text → List Text → Held
end_of known words = (fold (walked (rules_of known) []) (standing [] None) words).held

module _ (known words : List Text) where
  abbrev c : List Rule
  c = rules_of known

  abbrev end : Held
  end = end_of known words

  level : fault_of (told known) words ≡ or_else (walk_fault (shape_with c) [] (standing [] None) words)
      (or_else (settle_fault c false end) (or_else (defaults_fault (settled c end).rows c) (check_fault (shape_with c) (finished c end) false)))
  level = leaf_fault (built (told known)) (held [] None) words refl ∙ ap (λ (rules : List Rule). level_fault (shape_with rules) [] (held [] None) words false []) (filled_rules known)

  matches_are : matches_of (told known) words ≡ finished c end
  matches_are = ap (λ (rules : List Rule). rows_after rules [] words) (filled_rules known)

no_default : (name : Text) (rows : List Row) → with_default rows (opt name) ≡ rows
no_default name rows = cond_both (has_row name rows) rows rows (λ (l : List Row). l ≡ rows) (λ t. refl) (λ f. refl)

no_defaults : (known : List Text) (rows : List Row) → fold with_default rows (rules_of known) ≡ rows
no_defaults [] rows = refl
no_defaults (name ∷ known) rows = ap (λ (l : List Row). fold with_default l (rules_of known)) (no_default name rows) ∙ no_defaults known rows

-- no option has a default that could be wrong
defaults_pass : (known : List Text) (rows : List Row) → defaults_fault rows (rules_of known) ≡ []
unfolding defaults_fault
defaults_pass [] rows = refl
defaults_pass (name ∷ known) rows = none_both _ _ (by (has_row name rows)) (defaults_pass known (with_default rows (opt name)))
  where
    by : (b : Bool) → cond (b || true) [] (given_default_fault (opt name) []) ≡ []
    by true = refl
    by false = refl

check_passes : (known : List Text) (rows : List Row) → check_fault (shape_with (rules_of known)) rows false ≡ []
check_passes known rows = ap (λ (b : Bool). cond b (kind.MissingRequiredArgument ∷ []) []) (none_required known rows)

-- clap takes what the definition takes

pub taken : (known words : List Text) (values : Values) → are_named known ≡ true → values_behind known words ≡ Some values → fault_of (told known) words ≡ []
taken known words values named e =
    let c = rules_of known in
    let r = right known words values e in
    let go = takes c (options_alone known named) words r.options r.cut [] None refl (own_fits known named r.options r.own) r.plain in
    level known words
    ∙ none_both _ _ go.no_fault (none_both _ _ go.settles (none_both _ _ (defaults_pass known (settled c (end_of known words)).rows) (check_passes known (finished c (end_of known words)))))

-- the definition takes what clap takes, with the values that clap finds

pub found : (known words : List Text) → are_named known ≡ true → has_escape words ≡ false → fault_of (told known) words ≡ [] → values_behind known words ≡ values_with known (λ name. first_of name (matches_of (told known) words))
found known words named escape none =
    let c = rules_of known in
    let faults = sym (level known words) ∙ none in
    let rest = none_then (walk_fault (shape_with c) [] (standing [] None) words) _ faults in
    let r = reads c (options_alone known named) words [] None escape (none_first _ _ faults) (none_first _ _ rest) in
    let own = fits_own known r.options r.fits in
    let rows : matches_of (told known) words ≡ map row_of r.options = matches_are known words ∙ no_defaults known (settled c (end_of known words)).rows ∙ r.ends in
    ap (option_and_then (values_of known)) r.cut
    ∙ ap (λ (b : Bool). cond b (Some (λ (name : Text). value_named (hyphened name) r.options)) None) (proper_is known r.options own)
    ∙ sym (ap (λ (l : List Row). values_with known (λ name. first_of name l)) rows ∙ (λ i. values_with known (λ name. value_found name c r.options (own_known known named r.options own) i)))

-- a parse by the command says what the words ask for

abbrev Fails : App → List Text → Result ArgMatches Error → Type 0
Fails a words r = is_simple_and_free a ≡ true → FailsBy (fault_of a words) r

module _ (known words : List Text) (named : are_named known ≡ true) (a : App) (is : a ≡ told known) where
  found_values : (m : ArgMatches) (rows : List Row) → rows_of (found_of m) ≡ rows → values_with known (λ name. first_of name rows) ≡ values_in known m
  found_values m rows e = ap (λ (l : List Row). values_with known (λ name. first_of name l)) (sym e) ∙ sym (λ i. values_with known (λ name. first_value-rows (found_of m) name i))

  pub parse_read : (r : Result ArgMatches Error) → IfOk r (HasMatchesOf a words) → Fails a words r → IfOk r (λ (m : ArgMatches). has_escape words ≡ false → values_behind known words ≡ values_in known m)
  parse_read (Ok m) matches fails = λ escape.
      let none : fault_of (told known) words ≡ [] = subst (λ (x : App). is_simple_and_free x ≡ true → fault_of x words ≡ []) is fails (told_free known) in
      let rows : rows_of (found_of m) ≡ matches_of (told known) words = (subst (λ (x : App). HasMatchesOf x words m) is matches (told_simple known)).0 in
      found known words named escape none ∙ found_values m (matches_of (told known) words) rows
  parse_read (Err e) matches fails = tt

  pub parse_refused : (r : Result ArgMatches Error) → Fails a words r → IfErr r (λ (e : Error). IsSome (values_behind known words) → kind_of e ≡ kind.OutOfMemory)
  parse_refused (Ok m) fails = tt
  parse_refused (Err e) fails = λ some. by (values_behind known words) refl some (subst (λ (x : App). Fails x words (Err e)) is fails (told_free known))
    where
      memory : (kinds : Kinds) → kinds ≡ [] → FailsBy {T = ArgMatches} kinds (Err e) → kind_of e ≡ kind.OutOfMemory
      memory [] none h = elim h [
        | inl m ↦ m
        | inr other ↦ absurd other
      ]
      memory (k ∷ ks) none h = absurd (cc)

      by : (o : Option Values) → values_behind known words ≡ o → IsSome o → FailsBy {T = ArgMatches} (fault_of (told known) words) (Err e) → kind_of e ≡ kind.OutOfMemory
      by None is some h = absurd (cc)
      by (Some values) is some h = memory (fault_of (told known) words) (taken known words values named is) h
