use Rattle.covlcov2.proofs.LineReading as laws
use Rattle.covlcov2.proofs.laws.each_lcov2_line_has_one_meaning.Goals as goal

pub returns : goal.returns
returns c = record {
  one_meaning = laws.one_meaning;
  no_fault_beside = laws.no_fault_beside;
  one_fault = laws.one_fault;
  some = laws.some_meaning;
}
