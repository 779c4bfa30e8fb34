use Rattle.covlcov2.specs.LineLaws.{Lcov2LineLaw}
use Rattle.covread.proofs.TraceGrammar.{LineLaw}
use Rattle.covpieces.proofs.Lcov2Format as lcov2
use Rattle.covpieces.proofs.TraceFormat as trace
use Rattle.covpieces.proofs.laws.two_parts_are_read_as_one.Goals as goal

pub returns-clause-trace : goal.returns-clause-trace
returns-clause-trace c =
    let law : LineLaw = record {
      meaning = c.each_line_has_one_meaning.ensures.one_meaning;
      fault = c.each_line_has_one_meaning.ensures.one_fault;
      never_both = c.each_line_has_one_meaning.ensures.no_fault_beside;
      one_of = c.each_line_has_one_meaning.ensures.some;
    } in
    trace.two_pieces law c.what_is_read_is_lawful.ensures.trace

pub returns-clause-lcov2 : goal.returns-clause-lcov2
returns-clause-lcov2 c =
    let law : Lcov2LineLaw = record {
      meaning = c.each_lcov2_line_has_one_meaning.ensures.one_meaning;
      fault = c.each_lcov2_line_has_one_meaning.ensures.one_fault;
      never_both = c.each_lcov2_line_has_one_meaning.ensures.no_fault_beside;
      one_of = c.each_lcov2_line_has_one_meaning.ensures.some;
    } in
    lcov2.two_pieces law c.what_is_read_as_lcov2_is_lawful.ensures
