use Rattle.std.proofs.Common.{Result, [], sym, subst}
use Rattle.std.proofs.lemmas.Result.{err_from_is_err_and}
use Rattle.covdata.specs.Row.{SubmissionData}
use Rattle.covdata.specs.declared.fault.ReadFault.{ReadFault}
use Rattle.covread.specs.Outcome.{Answers, GrowsLate}
use Rattle.covread.specs.TraceSteps.{held_data}
use Rattle.covread.proofs.TraceLoop.{ends_late}
use Rattle.covread.proofs.TraceGrammar.{LineLaw}
use Rattle.covread.proofs.TraceLaw.{answer_is}
use Rattle.covread.proofs.trace.read.read_trace_packed.Goals as goal

pub returns-in_err-read_lines-clause-only : goal.returns-in_err-read_lines-clause-only
returns-in_err-read_lines-clause-only g c = λ outcome k.
    let law : LineLaw = record {
      meaning = c.each_line_has_one_meaning.ensures.one_meaning;
      fault = c.each_line_has_one_meaning.ensures.one_fault;
      never_both = c.each_line_has_one_meaning.ensures.no_fault_beside;
      one_of = c.each_line_has_one_meaning.ensures.some;
    } in
    let p = err_from_is_err_and c.from_residual.result c.from_residual.ensures.1 in
    answer_is law c.args.text.now c.from_residual.result outcome (rw (p.1, p.2) c.in_err-read_lines.ensures.0) k

pub returns-clause-only : goal.returns-clause-only
returns-clause-only g c = λ outcome k.
    let law : LineLaw = record {
      meaning = c.each_line_has_one_meaning.ensures.one_meaning;
      fault = c.each_line_has_one_meaning.ensures.one_fault;
      never_both = c.each_line_has_one_meaning.ensures.no_fault_beside;
      one_of = c.each_line_has_one_meaning.ensures.some;
    } in
    answer_is law c.args.text.now c.finish.result outcome (subst (λ (r : Result SubmissionData ReadFault). Answers c.args.text.now r) (sym c.finish.ensures) c.in_ok-read_lines.ensures.0) k

pub returns-in_err-read_lines-clause-memory : goal.returns-in_err-read_lines-clause-memory
returns-in_err-read_lines-clause-memory g c =
    let p = err_from_is_err_and c.from_residual.result c.from_residual.ensures.1 in
    rw (p.1, p.2) c.in_err-read_lines.ensures.1

pub returns-clause-memory : goal.returns-clause-memory
returns-clause-memory g c =
    subst (λ (r : Result SubmissionData ReadFault). GrowsLate c.args.text.now r) (sym c.finish.ensures) (ends_late c.args.text.now _ (held_data c.in_ok-read_lines.field-0 []))
