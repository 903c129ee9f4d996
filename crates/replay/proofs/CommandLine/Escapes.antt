-- Words that give values have no `--` among them.
use Rattle.std.proofs.Common.{◌≡◌, ℕ, true, false, List, [], drop, Option, Some, None, refl, sym, ap, ◌∙◌, bytes_eq}
use Rattle.clap.specs.Walk.{Rule}
use Rattle.replay.specs.Commanding.{CommandOption, Values, hyphened, option_in, options_of, values_behind}
use Rattle.replay.specs.Reading.{are_named, has_escape}
use Rattle.replay.proofs.CommandLine.Spelling.{differs, plain_word}
use Rattle.replay.proofs.CommandLine.Cutting.{ArePlain, fails}
use Rattle.replay.proofs.CommandLine.Walks.{Known}
use Rattle.replay.proofs.CommandLine.Values.{AreKnown, own_known, rules_of}
use Rattle.replay.proofs.CommandLine.Right.{right}

-- words that are cut into known options have no `--` among them
pub without : (c : List Rule) (words : List (List ℕ)) (options : List CommandOption) → options_of words ≡ Some options → AreKnown c options → ArePlain options → has_escape words ≡ false
without c = fails (λ word. bytes_eq word (hyphened [])) (Known c)
    (λ word o is k. differs word (hyphened []) (λ same. let none : None ≡ Some o = sym (ap option_in same) ∙ is in cc))
    (λ word value is k. differs word (hyphened []) (λ same. k.option.some (ap (drop 2) same)))
    (λ word plain. (plain_word word plain).escape)

-- words among which is `--` give none
pub escape_gives_nothing : (known words : List (List ℕ)) → are_named known ≡ true → has_escape words ≡ true → None ≡ values_behind known words
escape_gives_nothing known words named e = by (values_behind known words) refl
  where
    by : (o : Option Values) → values_behind known words ≡ o → None ≡ o
    by None t = refl
    by (Some values) t =
        let r = right known words values t in
        let none : has_escape words ≡ false = without (rules_of known) words r.options r.cut (own_known known named r.options r.own) r.plain in
        absurd (cc)
