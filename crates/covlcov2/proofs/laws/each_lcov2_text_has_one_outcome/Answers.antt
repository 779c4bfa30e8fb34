use Rattle.covlcov2.specs.LineLaws.{Lcov2LineLaw}
use Rattle.covlcov2.proofs.Holds.{Laws}
use Rattle.covlcov2.proofs.OneOutcome.{one_outcome}
use Rattle.covlcov2.proofs.Walk.{some_outcome}
use Rattle.covlcov2.proofs.laws.each_lcov2_text_has_one_outcome.Goals as goal

pub returns-clause-some : goal.returns-clause-some
returns-clause-some c =
    let laws : Laws = record {
      plain = record {
        meaning = c.each_line_has_one_meaning.ensures.one_meaning;
        fault = c.each_line_has_one_meaning.ensures.one_fault;
        never_both = c.each_line_has_one_meaning.ensures.no_fault_beside;
        one_of = c.each_line_has_one_meaning.ensures.some;
      };
      lcov2 = record {
        meaning = c.each_lcov2_line_has_one_meaning.ensures.one_meaning;
        fault = c.each_lcov2_line_has_one_meaning.ensures.one_fault;
        never_both = c.each_lcov2_line_has_one_meaning.ensures.no_fault_beside;
        one_of = c.each_lcov2_line_has_one_meaning.ensures.some;
      };
      printed = c.printed_records_spell.ensures;
      good_lines = c.lines_are_the_text.ensures.good_lines;
      good_rest = c.lines_are_the_text.ensures.good_rest;
      few_lines = c.lines_are_the_text.ensures.few_lines;
      few_bytes = c.lines_are_the_text.ensures.few_bytes;
    } in
    some_outcome laws

pub returns-clause-one : goal.returns-clause-one
returns-clause-one c =
    let law : Lcov2LineLaw = record {
      meaning = c.each_lcov2_line_has_one_meaning.ensures.one_meaning;
      fault = c.each_lcov2_line_has_one_meaning.ensures.one_fault;
      never_both = c.each_lcov2_line_has_one_meaning.ensures.no_fault_beside;
      one_of = c.each_lcov2_line_has_one_meaning.ensures.some;
    } in
    one_outcome law
