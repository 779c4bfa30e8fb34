use Rattle.std.proofs.Common.{sym, ◌∙◌}
use Rattle.std.proofs.lemmas.List.{take_more}
use Rattle.covread.proofs.GcovNumbers.{digits_more, digits_large, digits_all}
use Rattle.covread.proofs.gcov.text.number.Goals as goal

pub loop-digit-preserved : goal.loop-digit-preserved
loop-digit-preserved c =
    digits_more c.args.digits.now c.loop-digit.digit-index _ c.loop-digit.number c.in_ok-number.number (take_more c.args.digits.now c.loop-digit.digit-index 0 c.loop-digit-test.true) c.loop-digit.invariant (sym c.push_digit.ensures ∙ c.in_ok-number.was)

pub returns-in_err-number : goal.returns-in_err-number
returns-in_err-number c =
    c.from_residual.ensures ∙ sym (digits_large c.args.digits.now c.loop-digit.digit-index _ c.loop-digit.number (take_more c.args.digits.now c.loop-digit.digit-index 0 c.loop-digit-test.true) c.loop-digit.invariant (sym c.push_digit.ensures ∙ c.in_err-number.was))

pub returns : goal.returns
returns c = digits_all c.args.digits.now c.loop-digit.digit-index c.loop-digit.number c.loop-digit-test.false c.loop-digit.invariant
