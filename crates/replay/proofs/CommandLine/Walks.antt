-- What clap's walk makes of words, beside the options that the definition cuts them into.
use Rattle.std.proofs.Common.{◌≡◌, ◌||◌, ℕ, Bool, true, false, List, [], ◌∷◌, ◌++◌, drop, map, fold, Option, Some, None, refl, sym, ap, subst, ◌∙◌, append-nil, append_assoc, inl, inr, bytes_eq}
use Rattle.std.specs.Option.{option_map_or}
use Rattle.clap.specs.Lexer.{long_of}
use Rattle.clap.specs.Walk.{Row, Rule, Text, Walk, has_row, settled, settled_rows, used_by_id, walked}
use Rattle.clap.specs.Faults.{option_fault, settle_fault, turn_fault, use_fault, walk_fault}
use Rattle.replay.specs.Commanding.{CommandOption, hyphened, option_in, options_of}
use Rattle.replay.specs.Reading.{has_escape}
use Rattle.replay.proofs.CommandLine.Spelling.{alone_long, joined_long, long_alone, long_joined, plain_word as plain_value, spelled}
use Rattle.replay.proofs.CommandLine.Cutting.{ArePlain, by_cut, cut_apart, cut_joined}
use Rattle.replay.proofs.CommandLine.Turns.{IsOption, IsOptions, awaiting, fault_long, fault_no_value, fault_stray, fault_unknown, fault_value, held, none_both, none_first, none_then, opt, row, shape_with, standing, use_of_none, use_of_one, used_once, used_twice, walked_long, walked_value}

-- what clap finds for an option
abbrev pub id_of : CommandOption → Text
id_of o = drop 2 o.name

abbrev pub row_of : CommandOption → Row
row_of o = row (id_of o) o.value

pub record Known (c : List Rule) (o : CommandOption) : Type 0 where
  pub name_is : o.name ≡ hyphened (id_of o)
  pub option : IsOption c (id_of o)

-- The options are known, and none has a name that was used before.
abbrev pub Fits : List Rule → List Row → List CommandOption → Type 0
Fits c rows [] = Unit {0}
Fits c rows (o ∷ options) = Known c o × (has_row (id_of o) rows ≡ false) × Fits c (rows ++ row_of o ∷ []) options

-- The walk over the words has no fault, and these rows at its end.
pub record Passes (c : List Rule) (w : Walk) (words : List Text) (rows : List Row) : Type 0 where
  pub no_fault : walk_fault (shape_with c) [] w words ≡ []
  pub settles : settle_fault c false (fold (walked c []) w words).held ≡ []
  pub ends : (settled c (fold (walked c []) w words).held).rows ≡ rows

module _ (c : List Rule) (ready : IsOptions c) where
  -- definition to clap

  pass_more : (w v : Walk) (word : Text) (words : List Text) (rows : List Row) → turn_fault (shape_with c) [] w word ≡ [] → walked c [] w word ≡ v → Passes c v words rows → Passes c w (word ∷ words) rows
  unfolding walk_fault
  pass_more w v word words rows none e p =
      let now = subst (λ (x : Walk). Passes c x words rows) (sym e) p in
      record { no_fault = none_both _ _ none now.no_fault; settles = now.settles; ends = now.ends }

  settled_one : (id value : Text) (rows : List Row) → IsOption c id → has_row id rows ≡ false → (settle_fault c false (held rows (Some (id, value ∷ []))) ≡ []) × (settled_rows c (Some (id, value ∷ [])) rows ≡ rows ++ row id value ∷ [])
  settled_one id value rows o new = (
    ap (λ (r : Option Rule). option_map_or (λ a. use_fault false a (value ∷ []) rows) r []) o.id ∙ use_of_one id value rows new,
    ap (λ (r : Option Rule). used_by_id r (value ∷ []) rows) o.id ∙ used_once id value rows new,
  )

  abbrev Goes : List Text → List CommandOption → Type 0
  Goes words options = (rows : List Row) (pending : Option (Text × List Text)) → settle_fault c false (held rows pending) ≡ [] → Fits c (settled_rows c pending rows) options → ArePlain options
      → Passes c (standing rows pending) words (settled_rows c pending rows ++ map row_of options)

  go_joined : (word : Text) (words : List Text) (o : CommandOption) (options : List CommandOption) → option_in word ≡ Some o → Goes words options → Goes (word ∷ words) (o ∷ options)
  go_joined word words o options e go rows pending settles fits plains =
      let id = id_of o in
      let before = settled_rows c pending rows in
      let after = before ++ row_of o ∷ [] in
      let known = fits.0 in
      let long : long_of word ≡ Some (id, Some o.value) = joined_long word id o.value known.option.some (e ∙ ap (λ (n : List ℕ). Some (spelled n o.value)) known.name_is) in
      let once : use_fault false (opt id) (o.value ∷ []) before ≡ [] = use_of_one id o.value before fits.1 in
      let none : turn_fault (shape_with c) [] (standing rows pending) word ≡ [] = fault_long c ready word id (Some o.value) rows pending known.option long ∙ none_both _ _ settles once in
      let next : walked c [] (standing rows pending) word ≡ standing after None = walked_long c ready word id (Some o.value) rows pending known.option long ∙ ap (λ (l : List Row). standing l None) (used_once id o.value before fits.1) in
      let rest : Passes c (standing after None) words (after ++ map row_of options) = go after None refl fits.2 plains.1 in
      pass_more (standing rows pending) (standing after None) word words _ none next
      (subst (Passes c (standing after None) words) (append_assoc before (row_of o ∷ []) (map row_of options)) rest)

  go_apart : (word value : Text) (words : List Text) (options : List CommandOption) → option_in word ≡ None → Goes words options → Goes (word ∷ value ∷ words) (spelled word value ∷ options)
  go_apart word value words options e go rows pending settles fits plains =
      let o = spelled word value in
      let id = id_of o in
      let before = settled_rows c pending rows in
      let after = before ++ row_of o ∷ [] in
      let known = fits.0 in
      let plain = plain_value value plains.0 in
      let long : long_of word ≡ Some (id, None) = ap long_of known.name_is ∙ alone_long id known.option.some (sym (ap option_in known.name_is) ∙ e) in
      let none : turn_fault (shape_with c) [] (standing rows pending) word ≡ [] = fault_long c ready word id None rows pending known.option long ∙ settles in
      let next : walked c [] (standing rows pending) word ≡ awaiting before id = walked_long c ready word id None rows pending known.option long in
      let none_too : turn_fault (shape_with c) [] (awaiting before id) value ≡ [] = fault_value c ready id value before plain in
      let next_too : walked c [] (awaiting before id) value ≡ standing before (Some (id, value ∷ [])) = walked_value c ready id value before known.option plain.escape plain.long none_too in
      let one = settled_one id value before known.option fits.1 in
      let rest : Passes c (standing before (Some (id, value ∷ []))) words (settled_rows c (Some (id, value ∷ [])) before ++ map row_of options) =
      go before (Some (id, value ∷ [])) one.0 (subst (λ (l : List Row). Fits c l options) (sym one.1) fits.2) plains.1 in
      pass_more _ _ word (value ∷ words) _ none next
      (pass_more _ _ value words _ none_too next_too
      (subst (Passes c (standing before (Some (id, value ∷ []))) words) (ap (λ (l : List Row). l ++ map row_of options) one.1 ∙ append_assoc before (row_of o ∷ []) (map row_of options)) rest))

  none_goes : Goes [] []
  unfolding walk_fault
  none_goes rows pending settles fits plains = record { no_fault = refl; settles = settles; ends = sym (append-nil (settled_rows c pending rows)) }

  -- the walk takes the words that the definition cuts into known options
  pub takes : (words : List Text) (options : List CommandOption) → options_of words ≡ Some options → Goes words options
  takes = by_cut Goes none_goes go_joined go_apart

-- Clap to the definition: the words are cut into known options, and the rows are theirs.
pub record Reads (c : List Rule) (words : List Text) (rows : List Row) (pending : Option (Text × List Text)) (end : List Row) : Type 0 where
  pub settles : settle_fault c false (held rows pending) ≡ []
  pub options : List CommandOption
  pub cut : options_of words ≡ Some options
  pub fits : Fits c (settled_rows c pending rows) options
  pub ends : end ≡ settled_rows c pending rows ++ map row_of options

no_escape : (word : Text) (words : List Text) → has_escape (word ∷ words) ≡ false → (bytes_eq word (hyphened []) ≡ false) × (has_escape words ≡ false)
no_escape word words e = by (bytes_eq word (hyphened [])) refl
  where
    by : (b : Bool) → bytes_eq word (hyphened []) ≡ b → (b ≡ false) × (has_escape words ≡ false)
    by true t = let yes : has_escape (word ∷ words) ≡ true = ap (λ (b : Bool). b || has_escape words) t in absurd (cc)
    by false t = (refl, sym (ap (λ (b : Bool). b || has_escape words) t) ∙ e)

module _ (c : List Rule) (ready : IsOptions c) where
  abbrev end_rows : Walk → List Text → List Row
  end_rows w words = (settled c (fold (walked c []) w words).held).rows

  abbrev Came : List Text → Type 0
  Came words = (rows : List Row) (pending : Option (Text × List Text)) → has_escape words ≡ false → walk_fault (shape_with c) [] (standing rows pending) words ≡ []
      → settle_fault c false (fold (walked c []) (standing rows pending) words).held ≡ [] → Reads c words rows pending (end_rows (standing rows pending) words)

  -- what is so of the walk behind the first word
  behind : (w v : Walk) (word : Text) (words : List Text) → walked c [] w word ≡ v → walk_fault (shape_with c) [] w (word ∷ words) ≡ [] → settle_fault c false (fold (walked c []) w (word ∷ words)).held ≡ []
      → (turn_fault (shape_with c) [] w word ≡ []) × (walk_fault (shape_with c) [] v words ≡ []) × (settle_fault c false (fold (walked c []) v words).held ≡ [])
  unfolding walk_fault
  behind w v word words e none settles = (
    none_first _ _ none,
    subst (λ (x : Walk). walk_fault (shape_with c) [] x words ≡ []) e (none_then _ _ none),
    subst (λ (x : Walk). settle_fault c false (fold (walked c []) x words).held ≡ []) e settles,
  )

  first_turn : (w : Walk) (word : Text) (words : List Text) → walk_fault (shape_with c) [] w (word ∷ words) ≡ [] → turn_fault (shape_with c) [] w word ≡ []
  unfolding walk_fault
  first_turn w word words none = none_first _ _ none

  came_joined : (word name value : Text) (words : List Text) → IsOption c name → long_of word ≡ Some (name, Some value) → Came words → Came (word ∷ words)
  came_joined word name value words o long came rows pending escape none settles =
      let before = settled_rows c pending rows in
      let after = before ++ row name value ∷ [] in
      let turn : option_fault c false (opt name) (Some value) (held rows pending) ≡ [] = sym (fault_long c ready word name (Some value) rows pending o long) ∙ first_turn (standing rows pending) word words none in
      let new : has_row name before ≡ false = used_twice name value before (none_then _ _ turn) in
      let e : walked c [] (standing rows pending) word ≡ standing after None = walked_long c ready word name (Some value) rows pending o long ∙ ap (λ (l : List Row). standing l None) (used_once name value before new) in
      let b = behind (standing rows pending) (standing after None) word words e none settles in
      let rest = came after None (no_escape word words escape).1 b.1 b.2 in
      record {
        settles = none_first _ _ turn;
        options = spelled (hyphened name) value ∷ rest.options;
        cut = cut_joined word words (spelled (hyphened name) value) rest.options (long_joined word name value long) rest.cut;
        fits = (record { name_is = refl; option = o }, new, rest.fits);
        ends = ap (λ (w : Walk). end_rows w words) e ∙ rest.ends ∙ append_assoc before (row name value ∷ []) (map row_of rest.options);
      }

  came_value : (word name value : Text) (words : List Text) → IsOption c name → long_of word ≡ Some (name, None) → long_of value ≡ None → Came words → Came (word ∷ value ∷ words)
  came_value word name value words o long plain came rows pending escape none settles =
      let before = settled_rows c pending rows in
      let waits = Some (name, value ∷ []) in
      let escape_too = no_escape value words (no_escape word (value ∷ words) escape).1 in
      let turn : option_fault c false (opt name) None (held rows pending) ≡ [] = sym (fault_long c ready word name None rows pending o long) ∙ first_turn (standing rows pending) word (value ∷ words) none in
      let e : walked c [] (standing rows pending) word ≡ awaiting before name = walked_long c ready word name None rows pending o long in
      let b = behind (standing rows pending) (awaiting before name) word (value ∷ words) e none settles in
      let e_too : walked c [] (awaiting before name) value ≡ standing before waits = walked_value c ready name value before o escape_too.0 plain (first_turn (awaiting before name) value words b.1) in
      let b_too = behind (awaiting before name) (standing before waits) value words e_too b.1 b.2 in
      let rest = came before waits escape_too.1 b_too.1 b_too.2 in
      let new : has_row name before ≡ false = used_twice name value before (sym (ap (λ (r : Option Rule). option_map_or (λ a. use_fault false a (value ∷ []) before) r []) o.id) ∙ rest.settles) in
      let one = settled_one c ready name value before o new in
      let alone = long_alone word name long in
      record {
        settles = turn;
        options = spelled (hyphened name) value ∷ rest.options;
        cut = cut_apart word value words rest.options alone.0 rest.cut ∙ ap (λ (w : Text). Some (spelled w value ∷ rest.options)) alone.1;
        fits = (record { name_is = refl; option = o }, new, subst (λ (l : List Row). Fits c l rest.options) one.1 rest.fits);
        ends = ap (λ (w : Walk). end_rows w (value ∷ words)) e ∙ ap (λ (w : Walk). end_rows w words) e_too ∙ rest.ends
            ∙ ap (λ (l : List Row). l ++ map row_of rest.options) one.1 ∙ append_assoc before (row name value ∷ []) (map row_of rest.options);
      }

  came_apart : (word name value : Text) (words : List Text) → IsOption c name → long_of word ≡ Some (name, None) → Came words → Came (word ∷ value ∷ words)
  came_apart word name value words o long came rows pending escape none settles = by (long_of value) refl
    where
      by : (l : Option (Text × Option Text)) → long_of value ≡ l → Reads c (word ∷ value ∷ words) rows pending (end_rows (standing rows pending) (word ∷ value ∷ words))
      by None plain = came_value word name value words o long plain came rows pending escape none settles
      by (Some (n, v)) other =
          let before = settled_rows c pending rows in
          let b = behind (standing rows pending) (awaiting before name) word (value ∷ words) (walked_long c ready word name None rows pending o long) none settles in
          absurd (fault_no_value c ready name value n v before o other (first_turn (awaiting before name) value words b.1))

  came_alone : (word name : Text) → IsOption c name → long_of word ≡ Some (name, None) → Came (word ∷ [])
  came_alone word name o long rows pending escape none settles =
      let before = settled_rows c pending rows in
      let b = behind (standing rows pending) (awaiting before name) word [] (walked_long c ready word name None rows pending o long) none settles in
      absurd (use_of_none name before (sym (ap (λ (r : Option Rule). option_map_or (λ a. use_fault false a [] before) r []) o.id) ∙ b.2))

  came_first : (word : Text) (words : List Text) → ((name : Text) → IsOption c name → long_of word ≡ Some (name, None) → Came (word ∷ words)) → Came words → Came (word ∷ words)
  came_first word words apart came rows pending escape none settles = by (long_of word) refl
    where
      known : (name : Text) (v : Option Text) → long_of word ≡ Some (name, v) → IsOption c name → Reads c (word ∷ words) rows pending (end_rows (standing rows pending) (word ∷ words))
      known name None long o = apart name o long rows pending escape none settles
      known name (Some value) long o = came_joined word name value words o long came rows pending escape none settles

      by : (l : Option (Text × Option Text)) → long_of word ≡ l → Reads c (word ∷ words) rows pending (end_rows (standing rows pending) (word ∷ words))
      by None plain = absurd (fault_stray c ready word rows pending (no_escape word words escape).0 plain (first_turn (standing rows pending) word words none))
      by (Some (name, v)) long = elim (ready.long name) [
        | inl o ↦ known name v long o
        | inr unknown ↦ absurd (fault_unknown c ready word name v rows pending unknown long (first_turn (standing rows pending) word words none))
      ]

  came_end : Came []
  unfolding options_of
  came_end rows pending escape none settles = record { settles = settles; options = []; cut = refl; fits = tt; ends = sym (append-nil (settled_rows c pending rows)) }

  -- the words that the walk takes are cut into known options
  pub reads : (words : List Text) → Came words
  reads [] = came_end
  reads (word ∷ []) = came_first word [] (came_alone word) came_end
  reads (word ∷ value ∷ words) = came_first word (value ∷ words) (λ name o long. came_apart word name value words o long (reads words)) (reads (value ∷ words))
