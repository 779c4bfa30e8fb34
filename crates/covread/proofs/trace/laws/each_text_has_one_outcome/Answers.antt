use Rattle.covread.proofs.TraceGrammar.{LineLaw}
use Rattle.covread.proofs.TraceLaw.{some_outcome, no_other_outcome}
use Rattle.covread.proofs.trace.laws.each_text_has_one_outcome.Goals as goal

pub returns-clause-some : goal.returns-clause-some
returns-clause-some c =
    let law : LineLaw = record {
      meaning = c.each_line_has_one_meaning.ensures.one_meaning;
      fault = c.each_line_has_one_meaning.ensures.one_fault;
      never_both = c.each_line_has_one_meaning.ensures.no_fault_beside;
      one_of = c.each_line_has_one_meaning.ensures.some;
    } in
    some_outcome law

pub returns-clause-one : goal.returns-clause-one
returns-clause-one c =
    let law : LineLaw = record {
      meaning = c.each_line_has_one_meaning.ensures.one_meaning;
      fault = c.each_line_has_one_meaning.ensures.one_fault;
      never_both = c.each_line_has_one_meaning.ensures.no_fault_beside;
      one_of = c.each_line_has_one_meaning.ensures.some;
    } in
    no_other_outcome law
