-- What clap reads of a command line.
use Rattle.std.specs.Prelude.{Bool, true, List, [], ◌∷◌, length, nat_le, ℕ, Option, Some, None, bytes_eq, codes, if◌then◌else◌}
use Rattle.std.specs.List.{list_all, list_any}
use Rattle.std.specs.Option.{option_map_or}
use Rattle.clap.specs.Simple.{App, new_app, new_rule, on_top, with_rule}
use Rattle.clap.specs.Walk.{Rule}
use Rattle.clap.specs.Words.{first_value, found_of}
use Rattle.clap.specs.declared.parser.matches.ArgMatches.{ArgMatches}
use Rattle.replay.specs.Commanding.{Values, is_value}

-- a word is `--`, which clap takes where no word is behind it
abbrev pub has_escape : List (List ℕ) → Bool
has_escape words = list_any (λ word. bytes_eq word (codes "--")) words

-- an option as clap is told it, by its name
abbrev pub told_rule : List ℕ → Rule
told_rule name = record (new_rule name) { long = Some name }

-- a command that takes no program's name and knows no option, and it with options of these names
abbrev pub bare_command : App
bare_command = on_top (λ s. record s {
  no_binary_name = true;
  disable_help_flag = true;
  disable_version_flag = true;
}) (new_app (codes "options"))

abbrev pub with_options : App → List (List ℕ) → App
with_options command [] = command
with_options command (name ∷ names) = with_options (with_rule command (told_rule name)) names

-- options have names, which aren't empty
abbrev pub are_named : List (List ℕ) → Bool
are_named names = list_all (λ name. nat_le 1 (length name)) names

-- what was found for each of these options is a value
abbrev pub have_values : Values → List (List ℕ) → Bool
have_values found known = list_all (λ name. option_map_or is_value (found name) true) known

-- the values that were found for known options, where each is one
abbrev pub values_with : List (List ℕ) → Values → Option Values
values_with known found = if have_values found known then Some found else None

-- and that clap found
abbrev pub values_in : List (List ℕ) → ArgMatches → Option Values
values_in known m = values_with known (first_value (found_of m))
