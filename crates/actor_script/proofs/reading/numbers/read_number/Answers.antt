use Rattle.std.proofs.Common.{sym, arith}
use Rattle.std.proofs.lemmas.Grind.{common_steps}
use Rattle.actor_script.proofs.Numbers.{IsSpelled, no_number, not_digits, are_digits, number_small, number_large}
use Rattle.actor_script.proofs.reading.numbers.read_number.Goals as goal

pub returns-then-is_empty : goal.returns-then-is_empty
returns-then-is_empty c = sym (no_number c.args.word.now (λ s. grind (arith, common_steps, s.some)))

pub returns-then-word-gt-MOST_DIGITS : goal.returns-then-word-gt-MOST_DIGITS
returns-then-word-gt-MOST_DIGITS c = sym (no_number c.args.word.now (λ s. omega (arith, s.few)))

pub returns-then-word-eq48 : goal.returns-then-word-eq48
returns-then-word-eq48 c = sym (no_number c.args.word.now (λ s. grind (arith, s.lead)))

pub returns-in_err-number : goal.returns-in_err-number
returns-in_err-number c = cc (c.from_residual.ensures, not_digits c.args.word.now c.read_decimal.result c.read_decimal.ensures c.in_err-number.was)

pub returns-then-number-lt-TOO_LARGE : goal.returns-then-number-lt-TOO_LARGE
returns-then-number-lt-TOO_LARGE c =
    let word = c.args.word.now in
    let parts = are_digits word c.read_decimal.result c.in_ok-number.number c.read_decimal.ensures c.in_ok-number.was in
    let spelled : IsSpelled word = record { some = grind (arith, common_steps); few = omega arith; lead = λ e. grind (arith, common_steps); digits = parts.0 } in
    sym (number_small word c.in_ok-number.number spelled parts.1 (omega arith))

pub returns-else-number-lt-TOO_LARGE : goal.returns-else-number-lt-TOO_LARGE
returns-else-number-lt-TOO_LARGE c =
    let word = c.args.word.now in
    let parts = are_digits word c.read_decimal.result c.in_ok-number.number c.read_decimal.ensures c.in_ok-number.was in
    let spelled : IsSpelled word = record { some = grind (arith, common_steps); few = omega arith; lead = λ e. grind (arith, common_steps); digits = parts.0 } in
    sym (number_large word c.in_ok-number.number spelled parts.1 (omega arith))
