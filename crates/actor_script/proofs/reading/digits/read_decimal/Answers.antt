use Rattle.std.proofs.Common.{◌≡◌, true, get_or, arith}
use Rattle.std.specs.Char.{digit_value, is_digit}
use Rattle.std.proofs.lemmas.Bool.Decides.{nat_tests}
use Rattle.actor_script.proofs.Digits.{shifted_below, one_more}
use Rattle.actor_script.proofs.reading.digits.read_decimal.Goals as goal

pub overflow_mul-number : goal.overflow_mul-number
overflow_mul-number c =
    let l = c.loop-byte in
    omega (arith, shifted_below 10 l.byte-index l.number (omega arith) (omega arith) l.invariant.small)

pub overflow_add-number : goal.overflow_add-number
overflow_add-number c =
    let l = c.loop-byte in
    omega (arith, shifted_below 10 l.byte-index l.number (omega arith) (omega arith) l.invariant.small)

pub loop-byte-preserved : goal.loop-byte-preserved
loop-byte-preserved c =
    let l = c.loop-byte in
    let byte = get_or c.args.word.now l.byte-index 0 in
    let digit : is_digit byte 10 ≡ true = grind (arith, nat_tests) in
    let value : c.from.result ≡ digit_value byte = grind (arith, nat_tests) in
    one_more 10 c.args.word.now l.byte-index l.number c.from.result l.invariant (omega arith) digit value (omega arith)
