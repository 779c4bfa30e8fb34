use Rattle.std.proofs.Common.{refl, inl, inr, sym, ◌∙◌, Err}
use Rattle.covdata.specs.declared.fault.ReadFault.TheVariants as faults
use Rattle.std.proofs.lemmas.Result.{err_from_is_err_and}
use Rattle.covread.specs.GcovSteps.{held_data}
use Rattle.covread.proofs.GcovText.{answer_is}
use Rattle.covread.proofs.GcovBegun.{late_err, late_own}
use Rattle.covread.proofs.GcovLoop.{answer_fault, answer_own, lawful_end}
use Rattle.covread.proofs.gcov.read.read_gcov_packed.Goals as goal

pub returns-in_err-read_lines-clause-answers : goal.returns-in_err-read_lines-clause-answers
returns-in_err-read_lines-clause-answers g c =
    let p = err_from_is_err_and c.from_residual.result c.from_residual.ensures.1 in
    rw (p.1, p.2) (answer_fault c.args.test.now c.args.text.now c.in_err-read_lines.field-0.0 c.if-text-gt-MAX_BYTES.false (c.good_test.ensures.0 c.if-not-good_test.false) c.in_err-read_lines.ensures)

pub returns-in_err-read_lines-clause-only : goal.returns-in_err-read_lines-clause-only
returns-in_err-read_lines-clause-only g c = λ outcome k.
    let p = err_from_is_err_and c.from_residual.result c.from_residual.ensures.1 in
    answer_is c.args.test.now c.args.text.now c.from_residual.result outcome
    (rw (p.1, p.2) (answer_fault c.args.test.now c.args.text.now c.in_err-read_lines.field-0.0 c.if-text-gt-MAX_BYTES.false (c.good_test.ensures.0 c.if-not-good_test.false) c.in_err-read_lines.ensures)) k

pub finish-requires : goal.finish-requires
finish-requires g c =
    lawful_end c.args.test.now c.in_ok-read_lines.field-0.test.now c.args.text.now (held_data c.in_ok-read_lines.field-0) c.in_ok-read_lines.ensures.1 c.if-text-gt-MAX_BYTES.false (c.good_test.ensures.0 c.if-not-good_test.false) c.in_ok-read_lines.ensures.0

pub returns-clause-answers : goal.returns-clause-answers
returns-clause-answers g c =
    answer_own c.args.test.now c.in_ok-read_lines.field-0.test.now c.args.text.now (held_data c.in_ok-read_lines.field-0) c.finish.result c.in_ok-read_lines.ensures.1 c.if-text-gt-MAX_BYTES.false (c.good_test.ensures.0 c.if-not-good_test.false) c.in_ok-read_lines.ensures.0 c.finish.ensures

pub returns-clause-only : goal.returns-clause-only
returns-clause-only g c = λ outcome k.
    answer_is c.args.test.now c.args.text.now c.finish.result outcome
    (answer_own c.args.test.now c.in_ok-read_lines.field-0.test.now c.args.text.now (held_data c.in_ok-read_lines.field-0) c.finish.result c.in_ok-read_lines.ensures.1 c.if-text-gt-MAX_BYTES.false (c.good_test.ensures.0 c.if-not-good_test.false) c.in_ok-read_lines.ensures.0 c.finish.ensures) k

pub returns-in_err-read_lines-clause-memory : goal.returns-in_err-read_lines-clause-memory
returns-in_err-read_lines-clause-memory g c =
    let p = err_from_is_err_and c.from_residual.result c.from_residual.ensures.1 in
    rw (p.1, p.2) (late_err c.args.test.now c.args.text.now c.in_err-read_lines.field-0.0 c.in_err-read_lines.ensures)

pub returns-clause-memory : goal.returns-clause-memory
returns-clause-memory g c =
    late_own c.args.test.now c.in_ok-read_lines.field-0.test.now c.args.text.now (held_data c.in_ok-read_lines.field-0) c.finish.result c.in_ok-read_lines.ensures.1 c.in_ok-read_lines.ensures.0 c.finish.ensures

pub returns-then-text-gt-MAX_BYTES-clause-answers : goal.returns-then-text-gt-MAX_BYTES-clause-answers
returns-then-text-gt-MAX_BYTES-clause-answers g c = inr (inl (c.if-text-gt-MAX_BYTES.true, refl))

pub returns-then-text-gt-MAX_BYTES-clause-only : goal.returns-then-text-gt-MAX_BYTES-clause-only
returns-then-text-gt-MAX_BYTES-clause-only g c = λ outcome k. answer_is c.args.test.now c.args.text.now (Err faults.TooLong) outcome (inr (inl (c.if-text-gt-MAX_BYTES.true, refl))) k

pub returns-then-text-gt-MAX_BYTES-clause-memory : goal.returns-then-text-gt-MAX_BYTES-clause-memory
returns-then-text-gt-MAX_BYTES-clause-memory g c = λ e. absurd cc

pub returns-then-not-good_test-clause-answers : goal.returns-then-not-good_test-clause-answers
returns-then-not-good_test-clause-answers g c = inr (inr (inl (c.if-text-gt-MAX_BYTES.false, (λ good. let e = sym (c.good_test.ensures.1 good) ∙ c.if-not-good_test.true in absurd cc), refl)))

pub returns-then-not-good_test-clause-only : goal.returns-then-not-good_test-clause-only
returns-then-not-good_test-clause-only g c = λ outcome k.
    answer_is c.args.test.now c.args.text.now (Err faults.BadTest) outcome (inr (inr (inl (c.if-text-gt-MAX_BYTES.false, (λ good. let e = sym (c.good_test.ensures.1 good) ∙ c.if-not-good_test.true in absurd cc), refl)))) k

pub returns-then-not-good_test-clause-memory : goal.returns-then-not-good_test-clause-memory
returns-then-not-good_test-clause-memory g c = λ e. absurd cc

pub read_lines-requires : goal.read_lines-requires
read_lines-requires g c = c.if-text-gt-MAX_BYTES.false
