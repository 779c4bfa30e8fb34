use Rattle.covline.proofs.ReadLaws.{ok_spells, err_has_fault, only_spelled, only_fault}
use Rattle.covline.proofs.reader.read_line.Goals as goal

pub returns : goal.returns
returns c = record {
  ok = ok_spells c.args.line.now c.read_any.result c.read_any.ensures;
  err = err_has_fault c.args.line.now c.read_any.result c.read_any.ensures;
  only = only_spelled c.args.line.now c.read_any.result c.read_any.ensures;
  only_fault = only_fault c.args.line.now c.read_any.result c.read_any.ensures;
}
