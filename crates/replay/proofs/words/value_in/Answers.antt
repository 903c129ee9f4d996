use Rattle.std.proofs.Common.{◌≡◌, ◌∙◌, Bool, List, None, Some, ap, arith, cond, option_and_then, option_map, sym, ℕ}
use Rattle.std.specs.List.{after_first, before_first}
use Rattle.std.proofs.lemmas.Str.Pattern.{split_parts}
use Rattle.clap.proofs.CutLemmas.{Lacks, list_any-Lacks}
use Rattle.replay.specs.Commanding.{CommandOption, is_equals, option_in, value_in}
use Rattle.replay.proofs.words.value_in.Goals as goal

no_option : (name word : List ℕ) → Lacks 61 word → value_in name word ≡ None
no_option name word lacks =
    let none : option_in word ≡ None = ap (λ (b : Bool). cond b (Some (record { name = before_first is_equals word; value = after_first is_equals word })) None) (list_any-Lacks 61 word lacks) in
    ap (option_and_then (λ (o : CommandOption). cond _ (Some o.value) None)) none

pub returns-in_err-before : goal.returns-in_err-before
returns-in_err-before c =
    ap (option_map _) c.from_residual.ensures
    ∙ sym (no_option c.args.name.now c.args.word.now (split_parts 61 c.args.word.now None c.in_err-before.ensures.cases (omega arith)))
