use Rattle.std.proofs.Common.{get_or, arith, sym, ◌∙◌}
use Rattle.actor_script.proofs.Digits.{shifted_below, one_more, is_read}
use Rattle.actor_script.proofs.reading.digits.read_hexadecimal.Goals as goal

pub overflow_mul-number : goal.overflow_mul-number
overflow_mul-number c =
    let l = c.loop-byte in
    omega (arith, shifted_below 16 l.byte-index l.number (omega arith) (omega arith) l.invariant.small)

pub overflow_add-number : goal.overflow_add-number
overflow_add-number c =
    let l = c.loop-byte in
    let digit = is_read (get_or c.args.word.now l.byte-index 0) c.in_ok-digit_of.field-0 (sym c.digit_of.ensures ∙ c.in_ok-digit_of.was) in
    omega (arith, shifted_below 16 l.byte-index l.number (omega arith) (omega arith) l.invariant.small, digit.2)

pub loop-byte-preserved : goal.loop-byte-preserved
loop-byte-preserved c =
    let l = c.loop-byte in
    let digit = is_read (get_or c.args.word.now l.byte-index 0) c.in_ok-digit_of.field-0 (sym c.digit_of.ensures ∙ c.in_ok-digit_of.was) in
    one_more 16 c.args.word.now l.byte-index l.number c.from.result l.invariant (omega arith) digit.0 (c.from.ensures ∙ digit.1) (omega (arith, digit.2))
