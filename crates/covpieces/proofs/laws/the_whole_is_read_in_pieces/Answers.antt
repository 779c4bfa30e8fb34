use Rattle.covlcov2.specs.LineLaws.{Lcov2LineLaw}
use Rattle.covlcov2.specs.Outcome.{IsOutcome as IsLcov2Outcome}
use Rattle.covread.proofs.TraceGrammar.{LineLaw}
use Rattle.covread.specs.Outcome.{IsOutcome}
use Rattle.covpieces.specs.Pieces.{carried_after, lcov2_carried_after}
use Rattle.covpieces.specs.Whole.{IsWholeOutcome, IsWholeLcov2Outcome}
use Rattle.covpieces.proofs.SomeResult.{back, one_whole, one_whole_lcov2}
use Rattle.covpieces.proofs.laws.the_whole_is_read_in_pieces.Goals as goal

pub returns-clause-trace : goal.returns-clause-trace
returns-clause-trace c =
    let law : LineLaw = record {
      meaning = c.each_line_has_one_meaning.ensures.one_meaning;
      fault = c.each_line_has_one_meaning.ensures.one_fault;
      never_both = c.each_line_has_one_meaning.ensures.no_fault_beside;
      one_of = c.each_line_has_one_meaning.ensures.some;
    } in
    back IsOutcome carried_after c.each_text_has_one_outcome.ensures.some IsWholeOutcome c.pieces_are_read_as_the_whole.ensures.trace (one_whole law)

pub returns-clause-lcov2 : goal.returns-clause-lcov2
returns-clause-lcov2 c =
    let law : Lcov2LineLaw = record {
      meaning = c.each_lcov2_line_has_one_meaning.ensures.one_meaning;
      fault = c.each_lcov2_line_has_one_meaning.ensures.one_fault;
      never_both = c.each_lcov2_line_has_one_meaning.ensures.no_fault_beside;
      one_of = c.each_lcov2_line_has_one_meaning.ensures.some;
    } in
    back IsLcov2Outcome lcov2_carried_after c.each_lcov2_text_has_one_outcome.ensures.some IsWholeLcov2Outcome c.pieces_are_read_as_the_whole.ensures.lcov2 (one_whole_lcov2 law)
