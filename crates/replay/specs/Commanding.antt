-- The words of a command line, and the exit statuses.
use Rattle.std.specs.Prelude.{◌==◌, ◌&&◌, ◌*◌, ℕ, Bool, true, false, not, nat_le, List, [], ◌∷◌, find, slice_get, bytes_eq, codes, Option, Some, None, option_map, option_and_then, unwrap_or, if◌then◌else◌}
use Rattle.std.specs.List.{after_first, before_first, list_any}
use Rattle.std.specs.Option.{option_map_or, option_or}
use Rattle.vm_ids.specs.declared.numbers.TheConstants.{PAGE}
use Rattle.actor_script.specs.Operands.{number_of}
use Rattle.replay.specs.declared.status.Status.{Status}
use Rattle.replay.specs.declared.status.Status.TheVariants as statuses
use Rattle.replay.specs.declared.asked.Asked.{Asked}
use Rattle.replay.specs.declared.asked.Asked.TheVariants as asks
use Rattle.replay.specs.declared.asked.Generated.{Generated}
use Rattle.replay.specs.declared.asked.Size.{Size}

-- An option of a command line: its name, with the two hyphens, and its value.
pub record CommandOption : Type 0 where
  pub name : List ℕ
  pub value : List ℕ

-- the sign that joins a name and its value to one word
abbrev pub is_equals : ℕ → Bool
is_equals b = b == 61

-- the option that one word gives, as `--page=512` does
abbrev pub option_in : List ℕ → Option CommandOption
option_in word =
    if list_any is_equals word
    then Some (record { name = before_first is_equals word; value = after_first is_equals word })
    else None

-- The options that words give, each by one such word or by two, its name and its value. None where
-- a name has no value behind it.
unfoldable pub options_of : List (List ℕ) → Option (List CommandOption)
options_of [] = Some []
options_of (word ∷ []) = option_map (λ o. o ∷ []) (option_in word)
options_of (word ∷ next ∷ words) = option_map_or
    (λ o. option_map (λ options. o ∷ options) (options_of (next ∷ words)))
    (option_in word)
    (option_map (λ options. record { name = word; value = next } ∷ options) (options_of words))

-- the value of the first option of this name
abbrev pub value_named : List ℕ → List CommandOption → Option (List ℕ)
value_named name options = option_map (λ o. o.value) (find (λ o. bytes_eq o.name name) options)

-- the names of the options of `run`, without the hyphens
abbrev pub run_options : List (List ℕ)
run_options = codes "frames" ∷ codes "page" ∷ codes "segments" ∷ []

-- and of each word whose pages have 4,096 bytes
abbrev pub plain_options : List (List ℕ)
plain_options = codes "frames" ∷ codes "segments" ∷ []

-- and of `keep`
abbrev pub keep_options : List (List ℕ)
keep_options = codes "frames" ∷ codes "limit" ∷ codes "segments" ∷ []

-- a name, with the hyphens
abbrev pub hyphened : List ℕ → List ℕ
hyphened name = 45 ∷ 45 ∷ name

-- it is one of these names
abbrev pub is_known : List (List ℕ) → List ℕ → Bool
is_known known name = list_any (λ own. bytes_eq (hyphened own) name) known

-- a value isn't empty, and no hyphen begins it
abbrev pub is_value : List ℕ → Bool
is_value [] = false
is_value (b ∷ bs) = not (b == 45)

-- each option has one of these names and a value, and no two have the same name
abbrev pub are_proper : List (List ℕ) → List CommandOption → Bool
are_proper known [] = true
are_proper known (o ∷ options) = (is_known known o.name && is_value o.value)
    && (not (list_any (λ later. bytes_eq o.name later.name) options) && are_proper known options)

-- what a name finds, without the hyphens
abbrev pub Values : Type 0
Values = List ℕ → Option (List ℕ)

-- the values of options, where these are proper
abbrev pub values_of : List (List ℕ) → List CommandOption → Option Values
values_of known options = if are_proper known options
    then Some (λ name. value_named (hyphened name) options)
    else None

-- The values that words give to options of these names: each word is an option, or its name or its
-- value. None for other words.
abbrev pub values_behind : List (List ℕ) → List (List ℕ) → Option Values
values_behind known words = option_and_then (values_of known) (options_of words)

-- a number of page frames, 3 to 65,536
abbrev pub if_frames : ℕ → Option ℕ
if_frames n = if nat_le 3 n && nat_le n 65536 then Some n else None

-- the number of page frames that a word spells
abbrev pub frames_of : List ℕ → Option ℕ
frames_of word = option_and_then if_frames (number_of word)

-- the sizes that a page may have
abbrev pub page_sizes : List ℕ
page_sizes = 512 ∷ 1024 ∷ 2048 ∷ 4096 ∷ 8192 ∷ 16384 ∷ 32768 ∷ 65536 ∷ []

-- the bytes of a page, one of these sizes
abbrev pub if_page : ℕ → Option ℕ
if_page n = if list_any (λ size. size == n) page_sizes then Some n else None

-- the size of a page that a word spells
abbrev pub page_of : List ℕ → Option ℕ
page_of word = option_and_then if_page (number_of word)

-- all page frames together have at most so many bytes
abbrev pub most_frame_bytes : ℕ
most_frame_bytes = 268435456

-- so many page frames of so many bytes, where they are few enough
abbrev pub if_fitting : ℕ → ℕ → Option Size
if_fitting frames page = if nat_le (frames * page) most_frame_bytes
    then Some (record { frames = frames; page_bytes = page })
    else None

-- the size that the values of `--frames` and `--page` ask for
abbrev pub asked_for : Option (List ℕ) → Option (List ℕ) → Option Size
asked_for frames page =
    option_and_then (λ f. option_and_then (if_fitting f) (option_map_or page_of page (Some PAGE)))
    (option_and_then frames_of frames)

-- the size that values ask for
abbrev pub size_of : Values → Option Size
size_of values = asked_for (values (codes "frames")) (values (codes "page"))

-- and that words ask for which are options of these names
abbrev pub size_behind : List (List ℕ) → List (List ℕ) → Option Size
size_behind known words = option_and_then size_of (values_behind known words)

-- the number of page frames that words ask for whose pages have 4,096 bytes
abbrev pub frames_behind : List (List ℕ) → Option ℕ
frames_behind words =
    option_map (λ (size : Size). size.frames) (size_behind plain_options words)

-- the value in one word, where its option has this name
abbrev pub value_in : List ℕ → List ℕ → Option (List ℕ)
value_in name word =
    option_and_then (λ o. if bytes_eq o.name name then Some o.value else None) (option_in word)

-- the value of the first option of this name, whatever else the words are
abbrev pub first_value : List ℕ → List (List ℕ) → Option (List ℕ)
first_value name [] = None
first_value name (word ∷ words) = if bytes_eq word name
    then slice_get words 0
    else option_or (value_in name word) (first_value name words)

-- a script that a number makes has 1 to 1,000,000 lines
abbrev pub if_lines : ℕ → Option ℕ
if_lines n = if nat_le 1 n && nat_le n 1000000 then Some n else None

-- the number of lines that a word spells
abbrev pub line_count_of : List ℕ → Option ℕ
line_count_of word = option_and_then if_lines (number_of word)

-- the script that two words name: its number, and how many lines it has
abbrev pub script_of : List (List ℕ) → Option Generated
script_of (number ∷ lines ∷ []) = option_and_then
    (λ n. option_map (λ l. record { number = n; lines = l }) (line_count_of lines))
    (number_of number)
script_of words = None

-- a hyphen begins the word
abbrev pub is_hyphened : List ℕ → Bool
is_hyphened [] = false
is_hyphened (b ∷ bs) = b == 45

-- Those of some words that are options, or their names and values: a hyphen begins an option, and
-- its value is the next word unless it has one itself. The flag says that the first is a value.
unfoldable pub options_among : Bool → List (List ℕ) → List (List ℕ)
options_among flag [] = []
options_among true (word ∷ words) = word ∷ options_among false words
options_among false (word ∷ words) = if is_hyphened word
    then word ∷ options_among (not (list_any is_equals word)) words
    else options_among false words

-- the other words
unfoldable pub others_among : Bool → List (List ℕ) → List (List ℕ)
others_among flag [] = []
others_among true (word ∷ words) = others_among false words
others_among false (word ∷ words) = if is_hyphened word
    then others_among (not (list_any is_equals word)) words
    else word ∷ others_among false words

-- what the words of a script and those of options ask for
abbrev pub trial_of : List (List ℕ) → List (List ℕ) → Option Asked
trial_of words options = option_and_then
    (λ script. option_map (asks.Trial script) (frames_behind options))
    (script_of words)

-- What the words behind `trial` ask for: a script, and options before, between or behind its two
-- words.
abbrev pub trial_behind : List (List ℕ) → Option Asked
trial_behind words = trial_of (others_among false words) (options_among false words)

-- how many caches to which nothing refers may be kept, 0 to 1,024
abbrev pub if_limit : ℕ → Option ℕ
if_limit n = if nat_le n 1024 then Some n else None

-- and as a word spells it
abbrev pub limit_of : List ℕ → Option ℕ
limit_of word = option_and_then if_limit (number_of word)

-- What a size and the value of `--limit` ask for.
abbrev pub keep_with : Values → Size → Option Asked
keep_with values size = option_map (λ limit. asks.Keep limit size.frames)
    (option_and_then limit_of (values (codes "limit")))

-- what the values of the options of `keep` ask for
abbrev pub keep_of : Values → Option Asked
keep_of values = option_and_then (keep_with values) (size_of values)

-- and what words ask for that are its options
abbrev pub keep_behind : List (List ℕ) → Option Asked
keep_behind words = option_and_then keep_of (values_behind keep_options words)

-- What the words of a command line ask for: they are `run` and its options, `generate` and a
-- script, `trial`, a script and options, or `mix`, `ipc`, `keep` or `flat` and options. None for
-- other words.
unfoldable pub asked_by : List (List ℕ) → Option Asked
asked_by [] = None
asked_by (command ∷ words) =
    if bytes_eq command (codes "run") then option_map asks.Run (size_behind run_options words)
    else if bytes_eq command (codes "generate") then option_map asks.Generate (script_of words)
    else if bytes_eq command (codes "trial") then trial_behind words
    else if bytes_eq command (codes "mix") then option_map asks.Mix (frames_behind words)
    else if bytes_eq command (codes "ipc") then option_map asks.Ipc (frames_behind words)
    else if bytes_eq command (codes "keep") then keep_behind words
    else if bytes_eq command (codes "flat") then option_map asks.Flat (frames_behind words)
    else None

-- the folder that words name, or the working folder
abbrev pub folder_of : List (List ℕ) → List ℕ
folder_of words = unwrap_or (first_value (codes "--segments") words) (codes ".")

-- the bytes of a page that words name, where they are a size that a page may have, or 4,096
abbrev pub page_size_of : List (List ℕ) → ℕ
page_size_of words =
    unwrap_or (option_and_then page_of (first_value (codes "--page") words)) PAGE

-- the exit status of the program
abbrev pub status_code : Status → ℕ
status_code statuses.Done = 0
status_code statuses.Usage = 1
status_code statuses.SourceFault = 2
status_code statuses.SinkFault = 3
status_code statuses.NoMemory = 4
status_code statuses.TooLong = 5
