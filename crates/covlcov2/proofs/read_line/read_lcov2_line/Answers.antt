use Rattle.covlcov2.proofs.LineReading.{ok_spells, err_has_fault, only_spelled, only_fault}
use Rattle.covlcov2.proofs.read_line.read_lcov2_line.Goals as goal

pub returns : goal.returns
returns c = record {
  ok = ok_spells c.args.line.now c.read_any_lcov2.result c.read_any_lcov2.ensures;
  err = err_has_fault c.args.line.now c.read_any_lcov2.result c.read_any_lcov2.ensures;
  only = only_spelled c.args.line.now c.read_any_lcov2.result c.read_any_lcov2.ensures;
  only_fault = only_fault c.args.line.now c.read_any_lcov2.result c.read_any_lcov2.ensures;
}
