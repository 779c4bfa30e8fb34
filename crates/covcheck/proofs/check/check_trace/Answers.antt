use Rattle.std.proofs.Common.{Ok, Err, refl}
use Rattle.std.proofs.lemmas.Result.{err_from_is_err_and}
use Rattle.covcheck.specs.Skipped.{IsSkippedRecord}
use Rattle.covcheck.proofs.Answered.{fault_told, summary_told}
use Rattle.covcheck.proofs.check.check_trace.Goals as goal

pub returns-in_err-submission-clause-answers : goal.returns-in_err-submission-clause-answers
returns-in_err-submission-clause-answers g c =
    let p = err_from_is_err_and c.from_residual.result c.from_residual.ensures.1 in
    rw (p.1, p.2) (Err c.in_err-submission.field-0.0, c.in_err-submission.ensures.answers, c.in_err-submission.ensures.memory, refl)

pub returns-in_err-submission-clause-only : goal.returns-in_err-submission-clause-only
returns-in_err-submission-clause-only g c = λ outcome is.
    let p = err_from_is_err_and c.from_residual.result c.from_residual.ensures.1 in
    rw (p.1, p.2) (fault_told IsSkippedRecord c.args.text.now c.in_err-submission.field-0.0 outcome (c.in_err-submission.ensures.only outcome is))

pub returns-clause-answers : goal.returns-clause-answers
returns-clause-answers g c =
    (Ok c.in_ok-submission.submission, c.in_ok-submission.ensures.answers, c.in_ok-submission.ensures.memory, c.summary_of.ensures)

pub returns-clause-only : goal.returns-clause-only
returns-clause-only g c = λ outcome is.
    summary_told IsSkippedRecord c.args.text.now _ c.summary_of.result outcome (c.in_ok-submission.ensures.only outcome is) c.summary_of.ensures
