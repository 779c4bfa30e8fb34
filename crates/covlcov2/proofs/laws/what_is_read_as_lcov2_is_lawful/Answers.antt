use Rattle.covlcov2.proofs.Holds.{Laws}
use Rattle.covlcov2.proofs.Walk.{lawful_outcome}
use Rattle.covlcov2.proofs.laws.what_is_read_as_lcov2_is_lawful.Goals as goal

pub returns : goal.returns
returns c =
    let laws : Laws = record {
      plain = record {
        meaning = c.each_line_has_one_meaning.ensures.one_meaning;
        fault = c.each_line_has_one_meaning.ensures.one_fault;
        never_both = c.each_line_has_one_meaning.ensures.no_fault_beside;
        one_of = c.each_line_has_one_meaning.ensures.some;
      };
      lcov2 = record {
        meaning = c.each_lcov2_line_has_one_meaning.ensures.one_meaning;
        fault = c.each_lcov2_line_has_one_meaning.ensures.one_fault;
        never_both = c.each_lcov2_line_has_one_meaning.ensures.no_fault_beside;
        one_of = c.each_lcov2_line_has_one_meaning.ensures.some;
      };
      printed = c.printed_records_spell.ensures;
      good_lines = c.lines_are_the_text.ensures.good_lines;
      good_rest = c.lines_are_the_text.ensures.good_rest;
      few_lines = c.lines_are_the_text.ensures.few_lines;
      few_bytes = c.lines_are_the_text.ensures.few_bytes;
    } in
    lawful_outcome laws
