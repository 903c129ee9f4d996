use Rattle.std.proofs.Common.{◌≡◌, ◌∙◌, Bool, List, None, Option, Some, ap, bytes_eq, codes, cond, map, refl, sym, true, ℕ}
use Rattle.std.specs.Borrow.{Bor}
use Rattle.std.specs.List.{list_any}
use Rattle.std.specs.Option.{IsSome}
use Rattle.clap.proofs.WalkLemmas.{list_any-map}
use Rattle.clap.specs.contracts.error.kind.ErrorKind.{the_type}
use Rattle.clap.specs.declared.error.ErrorKind.{ErrorKind}
use Rattle.clap.specs.declared.error.ErrorKind.TheVariants as kind
use Rattle.clap.specs.Matches.{first_value, found_of}
use Rattle.clap.specs.Values.{kind_of}
use Rattle.replay.specs.Commanding.{Values, values_behind}
use Rattle.replay.specs.Reading.{has_escape, have_values, values_with}
use Rattle.replay.proofs.CommandLine.Escapes.{escape_gives_nothing}
use Rattle.replay.proofs.words.values_behind.Goals as goal
use denote.Enum.Bare.{sameb}

-- the words have `--` where the code finds it
escapes : (words : List (Bor (List ℕ))) (b : Bool) → b ≡ list_any (λ w. bytes_eq w.now (codes "--")) words → has_escape (map (λ w. w.now) words) ≡ b
escapes words b e = sym (list_any-map (λ word. bytes_eq word (codes "--")) (λ w. w.now) words) ∙ sym e

-- what was found is a value each, or nothing was
given : (known : List (List ℕ)) (found : Values) (b : Bool) → b ≡ have_values found known → cond b (Some found) None ≡ values_with known found
given known found b e = ap (λ (b : Bool). cond b (Some found) None) e

pub returns-then-contains : goal.returns-then-contains
returns-then-contains c = escape_gives_nothing (map (λ w. w.now) c.args.known.now) (map (λ w. w.now) c.args.words.now) c.requires (escapes c.args.words.now c.contains.result c.contains.ensures.value ∙ c.if-contains.true)

pub returns-then-have_values : goal.returns-then-have_values
returns-then-have_values c =
    let found = first_value (found_of c.in-Ok.matches) in
    ap (λ (b : Bool). cond b (Some found) None) (sym c.if-have_values.true) ∙ given _ found c.have_values.result c.have_values.ensures
    ∙ sym (c.in-Ok.ensures.read (escapes c.args.words.now c.contains.result c.contains.ensures.value ∙ c.if-contains.false))

pub returns-in-Ok : goal.returns-in-Ok
returns-in-Ok c =
    let found = first_value (found_of c.in-Ok.matches) in
    ap (λ (b : Bool). cond b (Some found) None) (sym c.if-have_values.false) ∙ given _ found c.have_values.result c.have_values.ensures
    ∙ sym (c.in-Ok.ensures.read (escapes c.args.words.now c.contains.result c.contains.ensures.value ∙ c.if-contains.false))

pub returns : goal.returns
returns c = by (values_behind (map (λ w. w.now) c.args.known.now) (map (λ w. w.now) c.args.words.now)) c.in-Err.ensures.refused
  where
    by : (o : Option Values) → (IsSome o → kind_of c.in-Err.error ≡ kind.OutOfMemory) → None ≡ o
    by None refused = refl
    by (Some values) refused =
        let same : sameb the_type c.kind.result kind.OutOfMemory ≡ true = ap (λ (k : ErrorKind). sameb the_type k kind.OutOfMemory) (c.kind.ensures ∙ refused refl) in
        absurd (cc)
