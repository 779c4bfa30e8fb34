use Rattle.std.proofs.Common.{inl}
use Rattle.std.proofs.lemmas.Result.{err_from_is_err_and}
use Rattle.covbook.specs.Step.{ops_in}
use Rattle.covsession.proofs.SessionBreaks.{memory_unsaid}
use Rattle.covsession.proofs.SessionBroken.{err_read}
use Rattle.covsession.proofs.session.submit.submit.Goals as goal

pub returns-in_err-of-in-Ok-clause-fails : goal.returns-in_err-of-in-Ok-clause-fails
returns-in_err-of-in-Ok-clause-fails g c =
    let p = err_from_is_err_and c.from_residual.result c.from_residual.ensures.1 in
    rw p.1 (inl (memory_unsaid c.args.output.now p.0 p.2))

pub returns-in_err-check_answerable-in-Err-clause-fails : goal.returns-in_err-check_answerable-in-Err-clause-fails
returns-in_err-check_answerable-in-Err-clause-fails g c =
    let p = err_from_is_err_and c.from_residual-in_err-check_answerable-in-Err.result c.from_residual-in_err-check_answerable-in-Err.ensures.1 in
    rw (p.1, p.2) (inl (memory_unsaid c.args.output.now c.in_err-check_answerable-in-Err.field-0.0 c.in_err-check_answerable-in-Err.ensures.fault.1))

pub returns-in_ok-of-in-Ok-clause-fails : goal.returns-in_ok-of-in-Ok-clause-fails
returns-in_ok-of-in-Ok-clause-fails g c =
    err_read c.args.output.now c.step.new.output (ops_in c.args.book.now.entries) c.args.read c.in_ok-of-in-Ok.field-0 c.in-Ok.submission c.step.result c.in-Ok.is
    c.in_ok-of-in-Ok.ensures c.step.ensures.breaks
