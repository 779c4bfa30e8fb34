use Rattle.covread.proofs.TraceGrammar.{LineLaw}
use Rattle.covlcov2.specs.LineLaws.{Lcov2LineLaw}
use Rattle.covlaws.proofs.Version1.{accepted_alike, refused_alike}
use Rattle.covlaws.proofs.version_1_is_read_the_same.Goals as goal

pub returns : goal.returns
returns c =
    let law : LineLaw = record {
      meaning = c.each_line_has_one_meaning.ensures.one_meaning;
      fault = c.each_line_has_one_meaning.ensures.one_fault;
      never_both = c.each_line_has_one_meaning.ensures.no_fault_beside;
      one_of = c.each_line_has_one_meaning.ensures.some;
    } in
    let lcov2 : Lcov2LineLaw = record {
      meaning = c.each_lcov2_line_has_one_meaning.ensures.one_meaning;
      fault = c.each_lcov2_line_has_one_meaning.ensures.one_fault;
      never_both = c.each_lcov2_line_has_one_meaning.ensures.no_fault_beside;
      one_of = c.each_lcov2_line_has_one_meaning.ensures.some;
    } in
    record { accepted = accepted_alike; refused = refused_alike law lcov2 }
