-- What words are that ask for something.
use Rattle.std.proofs.Common.{◌≡◌, ◌≤◌, ℕ, Bool, true, false, cond, List, [], ◌∷◌, Option, Some, refl, sym, ap, ◌∙◌, subst, codes, bytes_eq, arith, nat_le, option_and_then, option_map}
use Rattle.std.specs.Prelude.{◌&&◌, IfOk, IfSome, None, Result, Ok, Err}
use Rattle.std.proofs.lemmas.Bool.{and_parts, leb-true}
use Rattle.vm_ids.specs.declared.numbers.TheConstants.{PAGE}
use Rattle.actor_script.specs.Operands.{number_of}
use Rattle.replay.specs.declared.asked.Asked.{Asked}
use Rattle.replay.specs.declared.asked.Asked.TheVariants as asks
use Rattle.replay.specs.declared.asked.Generated.{Generated}
use Rattle.replay.specs.declared.asked.Size.{Size}
use Rattle.replay.specs.Commanding.{asked_by, first_value, frames_behind, if_lines, keep_behind, keep_of, keep_options, keep_with, limit_of, line_count_of, options_among, others_among, page_size_of, plain_options, run_options, script_of, size_behind, size_of, trial_behind, trial_of, values_behind}
use Rattle.replay.specs.Replaying.{CanBegin}
use Rattle.replay.proofs.CommandLine.First.{no_page, no_page_among, page_behind, page_or}
use Rattle.replay.proofs.CommandLine.Right.{Made, few_frames, made_by_map, made_by_test, made_by_then, sized, small_page}
use Rattle.replay.proofs.CommandLine.Values.{same_text}

-- a word, and what is so of the words behind it
pub record IsWord (name : List ℕ) (P : List (List ℕ) → Type 0) (words : List (List ℕ)) : Type 0 where
  pub rest : List (List ℕ)
  pub words_are : words ≡ name ∷ rest
  pub holds : P rest

-- a script, and options before, between and behind its words
pub record IsTrial (script : Generated) (frames : ℕ) (rest : List (List ℕ)) : Type 0 where
  pub script_is : script_of (others_among false rest) ≡ Some script
  pub frames_are : frames_behind (options_among false rest) ≡ Some frames

abbrev IsKind : List (List ℕ) → Asked → Type 0
IsKind words (asks.Run size) = IsWord (codes "run") (λ rest. size_behind run_options rest ≡ Some size) words
IsKind words (asks.Generate script) = IsWord (codes "generate") (λ rest. script_of rest ≡ Some script) words
IsKind words (asks.Trial script frames) = IsWord (codes "trial") (IsTrial script frames) words
IsKind words (asks.Mix frames) = IsWord (codes "mix") (λ rest. frames_behind rest ≡ Some frames) words
IsKind words (asks.Ipc frames) = IsWord (codes "ipc") (λ rest. frames_behind rest ≡ Some frames) words
IsKind words (asks.Flat frames) = IsWord (codes "flat") (λ rest. frames_behind rest ≡ Some frames) words
IsKind words (asks.Keep limit frames) = IsWord (codes "keep") (λ rest. Made (size_behind keep_options rest) (λ size. size.frames ≡ frames)) words

-- what a word asks for is made of what its words are
mapped : {A : Type 0} (name : List ℕ) (rest : List (List ℕ)) (make : A → Asked) (o : Option A) (asked : Asked) → ((x : A) → o ≡ Some x → IsKind (name ∷ rest) (make x)) → option_map make o ≡ Some asked → IsKind (name ∷ rest) asked
mapped name rest make o asked h e =
    let made = made_by_map make o asked e in
    subst (IsKind (name ∷ rest)) made.holds (h made.value made.is)

trial_is : (rest : List (List ℕ)) (asked : Asked) → trial_behind rest ≡ Some asked → IsKind (codes "trial" ∷ rest) asked
trial_is rest asked e =
    let script = made_by_then (λ (script : Generated). option_map (asks.Trial script) (frames_behind (options_among false rest))) (script_of (others_among false rest)) asked e in
    mapped (codes "trial") rest (asks.Trial script.value) (frames_behind (options_among false rest)) asked
    (λ frames is. record { rest = rest; words_are = refl; holds = record { script_is = script.is; frames_are = is } }) script.holds

keep_is : (rest : List (List ℕ)) (asked : Asked) → keep_behind rest ≡ Some asked → IsKind (codes "keep" ∷ rest) asked
keep_is rest asked e =
    let values = made_by_then keep_of (values_behind keep_options rest) asked e in
    let size = made_by_then (keep_with values.value) (size_of values.value) asked values.holds in
    mapped (codes "keep") rest (λ limit. asks.Keep limit size.value.frames) (option_and_then limit_of (values.value (codes "limit"))) asked
    (λ limit is. record { rest = rest; words_are = refl; holds = record { value = size.value; is = ap (option_and_then size_of) values.is ∙ size.is; holds = refl } }) size.holds

-- a word is this one, or one of the others
this_or : (name command : List ℕ) (rest : List (List ℕ)) (asked : Asked) (this others : Option Asked) → cond (bytes_eq command name) this others ≡ Some asked
    → (this ≡ Some asked → IsKind (name ∷ rest) asked) → (others ≡ Some asked → IsKind (command ∷ rest) asked) → IsKind (command ∷ rest) asked
this_or name command rest asked this others e f g = by (bytes_eq command name) refl e
  where
    by : (b : Bool) → bytes_eq command name ≡ b → cond b this others ≡ Some asked → IsKind (command ∷ rest) asked
    by true t e = subst (λ (word : List ℕ). IsKind (word ∷ rest) asked) (sym (same_text command name t)) (f e)
    by false t e = g e

kind_of_words : (words : List (List ℕ)) (asked : Asked) → asked_by words ≡ Some asked → IsKind words asked
unfolding asked_by
kind_of_words [] asked e = absurd (cc)
kind_of_words (command ∷ rest) asked e =
    this_or (codes "run") command rest asked _ _ e (mapped (codes "run") rest asks.Run _ asked (λ size is. record { rest = rest; words_are = refl; holds = is }))
    (λ e. this_or (codes "generate") command rest asked _ _ e (mapped (codes "generate") rest asks.Generate _ asked (λ script is. record { rest = rest; words_are = refl; holds = is }))
    (λ e. this_or (codes "trial") command rest asked _ _ e (trial_is rest asked)
    (λ e. this_or (codes "mix") command rest asked _ _ e (mapped (codes "mix") rest asks.Mix _ asked (λ frames is. record { rest = rest; words_are = refl; holds = is }))
    (λ e. this_or (codes "ipc") command rest asked _ _ e (mapped (codes "ipc") rest asks.Ipc _ asked (λ frames is. record { rest = rest; words_are = refl; holds = is }))
    (λ e. this_or (codes "keep") command rest asked _ _ e (keep_is rest asked)
    (λ e. this_or (codes "flat") command rest asked _ _ e (mapped (codes "flat") rest asks.Flat _ asked (λ frames is. record { rest = rest; words_are = refl; holds = is }))
    (λ e. absurd (cc))))))))

-- words whose pages have 4,096 bytes ask for a size, too
plain_size : (words : List (List ℕ)) (frames : ℕ) → frames_behind words ≡ Some frames → Made (size_behind plain_options words) (λ size. size.frames ≡ frames)
plain_size words frames e = made_by_map (λ (size : Size). size.frames) (size_behind plain_options words) frames e

plain_page : (words : List (List ℕ)) (frames : ℕ) → frames_behind words ≡ Some frames → page_or (first_value (codes "--page") words) ≡ PAGE
plain_page words frames e =
    let size = plain_size words frames e in
    let s = sized plain_options words size.value size.is in
    ap page_or (no_page plain_options refl words s.values s.values_are)

-- the bounds of a size, whatever the mapper tells

size_begins : (known words : List (List ℕ)) (size : Size) → size_behind known words ≡ Some size → CanBegin size.frames size.page_bytes None
size_begins known words size e =
    let s = sized known words size e in
    let frames = few_frames _ size.frames s.forms.frames_are in
    let page = small_page _ size.page_bytes s.forms.page_is in
    record { few = frames.0; most = omega (arith, frames.1); some = page.0; small = page.1; page = tt }

of_size : (known words : List (List ℕ)) (frames : ℕ) → Made (size_behind known words) (λ size. size.frames ≡ frames) → CanBegin frames PAGE None
of_size known words frames size =
    let h = size_begins known words size.value size.is in
    record { few = omega (arith, h.few, size.holds); most = omega (arith, h.most, size.holds); some = omega arith; small = omega arith; page = tt }

plain_begins : (words : List (List ℕ)) (frames : ℕ) → frames_behind words ≡ Some frames → CanBegin frames PAGE None
plain_begins words frames e = of_size plain_options words frames (plain_size words frames e)

-- a script has 1 to 1,000,000 lines

abbrev HasFewLines : ℕ → Type 0
HasFewLines n = (1 ≤ n) × (n ≤ 1000000)

few_if : (n lines : ℕ) → if_lines n ≡ Some lines → HasFewLines lines
few_if n lines e =
    let test = made_by_test (nat_le 1 n && nat_le n 1000000) n lines e in
    let both = and_parts _ _ test.0 in
    subst HasFewLines test.1 (leb-true 1 n both.0, leb-true n 1000000 both.1)

script_few : (words : List (List ℕ)) (script : Generated) → script_of words ≡ Some script → HasFewLines script.lines
script_few [] script e = absurd (cc)
script_few (number ∷ []) script e = absurd (cc)
script_few (number ∷ lines ∷ []) script e =
    let n = made_by_then (λ (n : ℕ). option_map (λ (l : ℕ). (let s : Generated = record { number = n; lines = l } in s)) (line_count_of lines)) (number_of number) script e in
    let l = made_by_map (λ (l : ℕ). (let s : Generated = record { number = n.value; lines = l } in s)) (line_count_of lines) script n.holds in
    let counted = made_by_then if_lines (number_of lines) l.value l.is in
    subst (λ (s : Generated). HasFewLines s.lines) l.holds (few_if counted.value l.value counted.holds)
script_few (number ∷ lines ∷ word ∷ words) script e = absurd (cc)

-- and where the mapper's pages have the size that the words name

module _ (told : Option ℕ) (words : List (List ℕ)) (pages : IfSome told (λ n. n ≡ page_size_of words)) where
  over : (frames bytes : ℕ) → CanBegin frames bytes None → page_size_of words ≡ bytes → CanBegin frames bytes told
  over frames bytes h same = record { few = h.few; most = h.most; some = h.some; small = h.small; page = subst (λ (b : ℕ). IfSome told (λ n. n ≡ b)) same pages }

  plain_over : (rest : List (List ℕ)) (frames : ℕ) → frames_behind rest ≡ Some frames → page_size_of words ≡ page_or (first_value (codes "--page") rest) → CanBegin frames PAGE told
  plain_over rest frames e same = over frames PAGE (plain_begins rest frames e) (same ∙ plain_page rest frames e)

  -- a manager may begin with what is asked for
  abbrev pub Begins : Asked → Type 0
  Begins (asks.Run size) = CanBegin size.frames size.page_bytes told
  Begins (asks.Generate script) = Unit {0}
  Begins (asks.Trial script frames) = (script.lines ≤ 1000000) × CanBegin frames PAGE told
  Begins (asks.Mix frames) = CanBegin frames PAGE told
  Begins (asks.Ipc frames) = CanBegin frames PAGE told
  Begins (asks.Keep limit frames) = CanBegin frames PAGE told
  Begins (asks.Flat frames) = CanBegin frames PAGE told

  begins_as : (asked : Asked) → IsKind words asked → Begins asked
  begins_as (asks.Run size) run = over size.frames size.page_bytes (size_begins run_options run.rest size run.holds) (ap page_size_of run.words_are ∙ page_behind run_options run.rest size run.holds)
  begins_as (asks.Generate script) word = tt
  begins_as (asks.Trial script frames) trial =
      let size = plain_size (options_among false trial.rest) frames trial.holds.frames_are in
      let s = sized plain_options (options_among false trial.rest) size.value size.is in (
        (script_few (others_among false trial.rest) script trial.holds.script_is).1,
        over frames PAGE (plain_begins (options_among false trial.rest) frames trial.holds.frames_are) (ap page_size_of trial.words_are ∙ ap page_or (no_page_among plain_options refl trial.rest s.values s.values_are)),
      )
  begins_as (asks.Mix frames) mix = plain_over mix.rest frames mix.holds (ap page_size_of mix.words_are)
  begins_as (asks.Ipc frames) ipc = plain_over ipc.rest frames ipc.holds (ap page_size_of ipc.words_are)
  begins_as (asks.Flat frames) flat = plain_over flat.rest frames flat.holds (ap page_size_of flat.words_are)
  begins_as (asks.Keep limit frames) keep =
      let s = sized keep_options keep.rest keep.holds.value keep.holds.is in
      over frames PAGE (of_size keep_options keep.rest frames keep.holds) (ap page_size_of keep.words_are ∙ ap page_or (no_page keep_options refl keep.rest s.values s.values_are))

  pub begins : (asked : Asked) → asked_by words ≡ Some asked → Begins asked
  begins asked e = begins_as asked (kind_of_words words asked e)

-- what the code finds in the words of a trial
pub trial_asks : {E : Type 0} (r : Result (Option Asked) E) (words others options : List (List ℕ)) → others ≡ others_among false words → options ≡ options_among false words
    → IfOk r (λ asked. asked ≡ trial_of others options) → IfOk r (λ asked. asked ≡ trial_behind words)
trial_asks (Err e) words others options script rest h = tt
trial_asks (Ok asked) words others options script rest h = h ∙ ap (λ (x : List (List ℕ)). trial_of x options) script ∙ ap (trial_of (others_among false words)) rest
