-- What clap's walk does at a word, over long options that take a value each.
use Rattle.std.proofs.Common.{◌≡◌, ◌||◌, ◌&&◌, ◌⊎◌, ℕ, zero, suc, Bool, true, false, cond, not, List, [], ◌∷◌, ◌++◌, length, drop, Option, Some, None, refl, sym, ap, ap₂, append-nil, subst, ◌∙◌, codes, bytes_eq, encode_utf8, chars, slice_get, inl, inr, nat_lt}
use Rattle.std.specs.Option.{option_map_or}
use Rattle.clap.specs.Lexer.{long_of, short_of}
use Rattle.std.proofs.lemmas.Slice.Eq.{bytes_eq-Decides}
use Rattle.clap.specs.declared.error.ErrorKind.TheVariants as kind
use Rattle.clap.specs.Walk.{at_row, more_values, positional, subcommand_met, subcommand_or_other, trailing, with_values, Held, Outcome, Row, Rule, Step, Text, Waiting, Walk, after_flag, after_step, arg_by_id, arg_by_index, arg_by_long, arg_by_short, bundle_met, bundle_step, has_row, idle, long_met, long_or_other, option_word, option, plain, plain_word, settled_rows, short_or_plain, used, value as goes_to_position, walked, word_met}
use Rattle.clap.specs.Simple.{Shape, new_rule, new_shape}
use Rattle.clap.specs.Kinds.{Kinds, or_else}
use Rattle.clap.specs.Faults.{bundle_fault, bundle_step_fault, flag_word_fault, flags_fault, long_fault, option_fault, positional_fault, short_fault, step_fault, other_fault, settle_fault, turn_fault, use_fault, word_fault}
use Rattle.clap.specs.declared.builder.ArgAction.TheVariants.{Set}
use Rattle.clap.specs.declared.builder.value_parser.ValueParser.TheVariants as vp
use Rattle.clap.specs.declared.parser.matches.ValueSource.TheVariants.{CommandLine}
use Rattle.clap.specs.declared.builder.value_parser.Reading.TheVariants as reading
use Rattle.replay.specs.Commanding.{hyphened}
use Rattle.replay.proofs.CommandLine.Spelling.{IsPlain, long_no_escape}

-- the rule of an option that takes a value, as a built command has it
abbrev pub opt : Text → Rule
opt id = record (new_rule id) {
  long = Some id;
  action = Some Set;
  range = Some (record { start_inclusive = 1; end_inclusive = 1 });
  parser = Some vp.String;
}

-- a built command with these rules
abbrev pub shape_with : List Rule → Shape
shape_with c = record (new_shape (codes "options")) {
  rules = c;
  no_binary_name = true;
  disable_help_flag = true;
  disable_help_subcommand = true;
  disable_version_flag = true;
  is_built = true;
}

-- what was found for an option
abbrev pub row : Text → Text → Row
row id value = record { id = id; values = value ∷ []; count = None; source = Some CommandLine; reading = reading.AsWritten }

-- The rules have an option of this name.
pub record IsOption (c : List Rule) (name : Text) : Type 0 where
  pub some : name ≡ [] → ⊥
  pub long : arg_by_long c name ≡ Some (opt name)
  pub id : arg_by_id c name ≡ Some (opt name)

-- The rules have long options alone.
pub record IsOptions (c : List Rule) : Type 0 where
  pub long : (name : Text) → IsOption c name ⊎ (arg_by_long c name ≡ None)
  pub short : (x : ℕ) → arg_by_short c x ≡ None
  pub position : arg_by_index c 1 ≡ None

-- where a walk stands

abbrev pub held : List Row → Option (Text × List Text) → Held
held rows pending = record { rows = rows; pending = pending; skip = 0 }

-- between options; the last one may have its value still to be used
abbrev pub standing : List Row → Option (Text × List Text) → Walk
standing rows pending = record { held = held rows pending; waiting = idle; position = 1; is_trailing = false; stopped = None }

-- behind the name of an option
abbrev pub awaiting : List Row → Text → Walk
awaiting rows id = record { held = held rows (Some (id, [])); waiting = option id; position = 1; is_trailing = false; stopped = None }

-- kinds of faults

pub none_first : (a b : Kinds) → or_else a b ≡ [] → a ≡ []
none_first [] b e = refl
none_first (k ∷ ks) b e = absurd (cc)

pub none_then : (a b : Kinds) → or_else a b ≡ [] → b ≡ []
none_then [] b e = e
none_then (k ∷ ks) b e = absurd (cc)

pub none_both : (a b : Kinds) → a ≡ [] → b ≡ [] → or_else a b ≡ []
none_both [] b e f = f
none_both (k ∷ ks) b e f = absurd (cc)

-- one use of an option

abbrev once_fault : Bool → Kinds
once_fault again = or_else (cond (again && not false) (kind.ArgumentConflict ∷ []) []) []

pub use_of_one : (id : Text) (value : Text) (rows : List Row) → has_row id rows ≡ false → use_fault false (opt id) (value ∷ []) rows ≡ []
use_of_one id value rows e = ap once_fault e

pub use_of_none : (id : Text) (rows : List Row) → use_fault false (opt id) [] rows ≡ [] → ⊥
use_of_none id rows e = let bad : kind.InvalidValue ∷ [] ≡ [] = e in cc

pub used_twice : (id : Text) (value : Text) (rows : List Row) → use_fault false (opt id) (value ∷ []) rows ≡ [] → has_row id rows ≡ false
used_twice id value rows e = by (has_row id rows) refl
  where
    by : (b : Bool) → has_row id rows ≡ b → b ≡ false
    by true t = let bad : kind.ArgumentConflict ∷ [] ≡ [] = sym (ap once_fault t) ∙ e in absurd (cc)
    by false t = refl

first_row : (id : Text) (r : Row) (rows : List Row) (b : Bool) → bytes_eq r.id id ≡ b → has_row id (r ∷ rows) ≡ false → (b ≡ false) × (has_row id rows ≡ false)
first_row id r rows true t e = let yes : has_row id (r ∷ rows) ≡ true = ap (λ (b : Bool). b || has_row id rows) t in absurd (cc)
first_row id r rows false t e = (refl, sym (ap (λ (b : Bool). b || has_row id rows) t) ∙ e)

row_missing : (id : Text) (change : Row → List Row) (missing rows : List Row) → has_row id rows ≡ false → at_row id change missing rows ≡ rows ++ missing
row_missing id change missing [] e = refl
row_missing id change missing (r ∷ rows) e =
    let past = first_row id r rows (bytes_eq r.id id) refl e in
    ap (λ (b : Bool). cond b (change r ++ rows) (r ∷ at_row id change missing rows)) past.0 ∙ ap (λ (l : List Row). r ∷ l) (row_missing id change missing rows past.1)

pub used_once : (id : Text) (value : Text) (rows : List Row) → has_row id rows ≡ false → used (opt id) (value ∷ []) rows ≡ rows ++ row id value ∷ []
used_once id value rows e =
    ap (with_values id reading.AsWritten CommandLine (value ∷ [])) (row_missing id (λ _. []) [] rows e ∙ append-nil rows)
    ∙ row_missing id (more_values CommandLine (value ∷ [])) (row id value ∷ []) rows e

pub same_bytes : (xs : List ℕ) → bytes_eq xs xs ≡ true
same_bytes xs = (bytes_eq-Decides xs xs).1 refl

-- a word of the walk, by what kind of word it is

module _ (c : List Rule) (ready : IsOptions c) where
  -- no command below: a word is no subcommand
  no_subcommand : (waiting : Waiting) (word : Text) → subcommand_met [] waiting word ≡ None
  no_subcommand idle word = refl
  no_subcommand (option id) word = refl
  no_subcommand positional word = refl

  met : (waiting : Waiting) (word : Text) (h : Held) (l : Option (Text × Option Text)) → bytes_eq word (hyphened []) ≡ false → long_of word ≡ l
      → word_met c [] false waiting 1 word h ≡ long_or_other c waiting word l h
  met waiting word h l e f =
      ap (λ (name : Option Text). subcommand_or_other c name waiting 1 word h) (no_subcommand waiting word)
      ∙ ap (λ (b : Bool). cond b (h, trailing 1) (long_or_other c waiting word (long_of word) h)) e
      ∙ ap (λ (o : Option (Text × Option Text)). long_or_other c waiting word o h) f

  fault_met : (waiting : Waiting) (word : Text) (h : Held) (l : Option (Text × Option Text)) → bytes_eq word (hyphened []) ≡ false → long_of word ≡ l
      → word_fault (shape_with c) [] false waiting word h ≡ flag_word_fault c false l word h
  fault_met waiting word h l e f =
      ap (λ (name : Option Text). other_fault (shape_with c) name word h) (no_subcommand waiting word)
      ∙ ap (λ (b : Bool). cond b [] (flag_word_fault c false (long_of word) word h)) e
      ∙ ap (λ (o : Option (Text × Option Text)). flag_word_fault c false o word h) f

  -- a long option

  abbrev pub option_after : Text → Option Text → List Row → Option (Text × List Text) → Walk
  option_after name (Some v) rows pending = standing (used (opt name) (v ∷ []) (settled_rows c pending rows)) None
  option_after name None rows pending = awaiting (settled_rows c pending rows) name

  pub walked_long : (word name : Text) (v : Option Text) (rows : List Row) (pending : Option (Text × List Text)) → IsOption c name → long_of word ≡ Some (name, v)
      → walked c [] (standing rows pending) word ≡ option_after name v rows pending
  unfolding walked
  walked_long word name v rows pending o e =
      ap (λ (m : Held × Step). after_step c word (standing rows pending) m.0 m.1)
      (met idle word (held rows pending) (Some (name, v)) (long_no_escape word name v e) e
      ∙ ap (λ (r : Option Rule). after_flag c idle word (long_met c r v (held rows pending)).0 (long_met c r v (held rows pending)).1) o.long)
      ∙ by v
    where
      by : (v : Option Text) → after_step c word (standing rows pending) (after_flag c idle word (long_met c (Some (opt name)) v (held rows pending)).0 (long_met c (Some (opt name)) v (held rows pending)).1).0
          (after_flag c idle word (long_met c (Some (opt name)) v (held rows pending)).0 (long_met c (Some (opt name)) v (held rows pending)).1).1 ≡ option_after name v rows pending
      by (Some v) = refl
      by None = refl

  -- its fault is that of what it settles, and of its use where it has its value
  pub fault_long : (word name : Text) (v : Option Text) (rows : List Row) (pending : Option (Text × List Text)) (o : IsOption c name) → long_of word ≡ Some (name, v)
      → turn_fault (shape_with c) [] (standing rows pending) word ≡ option_fault c false (opt name) v (held rows pending)
  fault_long word name v rows pending o e =
      let h = held rows pending in
      let escape = long_no_escape word name v e in
      let first : word_fault (shape_with c) [] false idle word h ≡ option_fault c false (opt name) v h = fault_met idle word h (Some (name, v)) escape e ∙ ap (λ (r : Option Rule). long_fault c false r v h) o.long in
      let then : word_met c [] false idle 1 word h ≡ after_flag c idle word (long_met c (Some (opt name)) v h).0 (long_met c (Some (opt name)) v h).1 =
      met idle word h (Some (name, v)) escape e ∙ ap (λ (r : Option Rule). after_flag c idle word (long_met c r v h).0 (long_met c r v h).1) o.long in
      ap₂ (λ (f : Kinds) (m : Held × Step). or_else f (step_fault (shape_with c) 1 m.0 m.1)) first then
      ∙ last v
    where
      alone : (f : Kinds) → or_else f [] ≡ f
      alone [] = refl
      alone (k ∷ ks) = refl

      last : (v : Option Text) → or_else (option_fault c false (opt name) v (held rows pending))
          (step_fault (shape_with c) 1 (after_flag c idle word (long_met c (Some (opt name)) v (held rows pending)).0 (long_met c (Some (opt name)) v (held rows pending)).1).0
          (after_flag c idle word (long_met c (Some (opt name)) v (held rows pending)).0 (long_met c (Some (opt name)) v (held rows pending)).1).1) ≡ option_fault c false (opt name) v (held rows pending)
      last (Some v) = alone _
      last None = alone _

  -- a long word that names no option
  pub fault_unknown : (word name : Text) (v : Option Text) (rows : List Row) (pending : Option (Text × List Text)) → arg_by_long c name ≡ None → long_of word ≡ Some (name, v) → turn_fault (shape_with c) [] (standing rows pending) word ≡ [] → ⊥
  fault_unknown word name v rows pending unknown e none =
      let h = held rows pending in
      let first : word_fault (shape_with c) [] false idle word h ≡ kind.UnknownArgument ∷ [] = fault_met idle word h (Some (name, v)) (long_no_escape word name v e) e ∙ ap (λ (r : Option Rule). long_fault c false r v h) unknown in
      let bad : kind.UnknownArgument ∷ [] ≡ [] = sym first ∙ none_first _ _ none in
      cc

  -- a word that is no long option

  plain_bundle : (k : ℕ) (flags : Text) (h : Held) → flags_fault c false k flags 0 h ≡ [] → bundle_met c k flags 0 plain h ≡ (h, plain)
  unfolding bundle_met flags_fault
  plain_bundle zero flags h e = refl
  plain_bundle (suc k) flags h e = by (slice_get (chars flags) 0) e
    where
      by : (o : Option ℕ) → bundle_step_fault c false o flags 0 h (flags_fault c false k) ≡ [] → bundle_step c o flags 0 plain h (bundle_met c k) ≡ (h, plain)
      by None e = refl
      by (Some x) e =
          let rest = drop (length (encode_utf8 x)) flags in
          let bad : kind.UnknownArgument ∷ [] ≡ [] = sym (ap (λ (r : Option Rule). short_fault c false r rest h (flags_fault c false k rest 0)) (ready.short x)) ∙ e in
          absurd (cc)

  plain_met : (waiting : Waiting) (word : Text) (rows : List Row) (pending : Option (Text × List Text)) → flag_word_fault c false None word (held rows pending) ≡ [] → long_or_other c waiting word None (held rows pending) ≡ plain_word c waiting word (held rows pending)
  plain_met waiting word rows pending e = by (short_of word) e
    where
      by : (o : Option Text) → option_map_or (λ flags. bundle_fault c false flags (held rows pending)) o [] ≡ [] → short_or_plain c waiting word o (held rows pending) ≡ plain_word c waiting word (held rows pending)
      by None e = refl
      by (Some flags) e = ap (λ (m : Held × Outcome). after_flag c waiting word m.0 m.1) (plain_bundle (length flags) flags (held rows pending) e)

  -- where no option waits it is refused
  pub fault_stray : (word : Text) (rows : List Row) (pending : Option (Text × List Text)) → bytes_eq word (hyphened []) ≡ false → long_of word ≡ None → turn_fault (shape_with c) [] (standing rows pending) word ≡ [] → ⊥
  fault_stray word rows pending e f none =
      let h = held rows pending in
      let flag : flag_word_fault c false None word h ≡ [] = sym (fault_met idle word h None e f) ∙ none_first _ _ none in
      let m : word_met c [] false idle 1 word h ≡ (h, goes_to_position) = met idle word h None e f ∙ plain_met idle word rows pending flag in
      let step : step_fault (shape_with c) 1 h goes_to_position ≡ [] = subst (λ (m : Held × Step). step_fault (shape_with c) 1 m.0 m.1 ≡ []) m (none_then _ _ none) in
      let bad : kind.UnknownArgument ∷ [] ≡ [] = sym (ap (λ (r : Option Rule). option_map_or (λ a. positional_fault c false a h) r (kind.UnknownArgument ∷ [])) ready.position) ∙ step in
      cc

  -- where one waits it is the value
  took_value : (id word : Text) (rows : List Row) → IsOption c id → after_step c word (awaiting rows id) (plain_word c (option id) word (held rows (Some (id, [])))).0 (plain_word c (option id) word (held rows (Some (id, [])))).1 ≡ standing rows (Some (id, word ∷ []))
  took_value id word rows o =
      let h = held rows (Some (id, [])) in
      ap (λ (r : Option Rule). record (standing rows None) { held = (option_word r id word h).0; waiting = (option_word r id word h).1 }) o.id
      ∙ ap (λ (b : Bool). record (standing rows (Some (id, word ∷ []))) { waiting = cond (nat_lt (cond b 1 0) 1) (option id) idle }) (same_bytes id)

  pub walked_value : (id word : Text) (rows : List Row) → IsOption c id → bytes_eq word (hyphened []) ≡ false → long_of word ≡ None → turn_fault (shape_with c) [] (awaiting rows id) word ≡ [] → walked c [] (awaiting rows id) word ≡ standing rows (Some (id, word ∷ []))
  unfolding walked
  walked_value id word rows o e f none =
      let h = held rows (Some (id, [])) in
      let flag : flag_word_fault c false None word h ≡ [] = sym (fault_met (option id) word h None e f) ∙ none_first _ _ none in
      ap (λ (m : Held × Step). after_step c word (awaiting rows id) m.0 m.1) (met (option id) word h None e f ∙ plain_met (option id) word rows (Some (id, [])) flag)
      ∙ took_value id word rows o

  pub fault_value : (id word : Text) (rows : List Row) → IsPlain word → turn_fault (shape_with c) [] (awaiting rows id) word ≡ []
  fault_value id word rows p =
      let h = held rows (Some (id, [])) in
      let first : word_fault (shape_with c) [] false (option id) word h ≡ [] = fault_met (option id) word h None p.escape p.long ∙ ap (λ (o : Option Text). option_map_or (λ flags. bundle_fault c false flags h) o []) p.short in
      let then : word_met c [] false (option id) 1 word h ≡ plain_word c (option id) word h = met (option id) word h None p.escape p.long ∙ ap (λ (o : Option Text). short_or_plain c (option id) word o h) p.short in
      ap₂ (λ (f : Kinds) (m : Held × Step). or_else f (step_fault (shape_with c) 1 m.0 m.1)) first then

  -- another option where one waits
  pub fault_no_value : (id word name : Text) (v : Option Text) (rows : List Row) → IsOption c id → long_of word ≡ Some (name, v) → turn_fault (shape_with c) [] (awaiting rows id) word ≡ [] → ⊥
  fault_no_value id word name v rows o e none =
      let h = held rows (Some (id, [])) in
      let first : long_fault c false (arg_by_long c name) v h ≡ [] = sym (fault_met (option id) word h (Some (name, v)) (long_no_escape word name v e) e) ∙ none_first _ _ none in
      elim (ready.long name) [
        | inl other ↦ unsettled (settles (opt name) v (sym (ap (λ (r : Option Rule). long_fault c false r v h) other.long) ∙ first))
        | inr unknown ↦ (let bad : kind.UnknownArgument ∷ [] ≡ [] = sym (ap (λ (r : Option Rule). long_fault c false r v h) unknown) ∙ first in cc)
      ]
    where
      settles : (a : Rule) (v : Option Text) → option_fault c false a v (held rows (Some (id, []))) ≡ [] → settle_fault c false (held rows (Some (id, []))) ≡ []
      settles a (Some v) e = none_first _ _ e
      settles a None e = e

      unsettled : settle_fault c false (held rows (Some (id, []))) ≡ [] → ⊥
      unsettled e = use_of_none id rows (sym (ap (λ (r : Option Rule). option_map_or (λ a. use_fault false a [] rows) r []) o.id) ∙ e)
