use Rattle.std.proofs.Common.{◌≡◌}
use Rattle.covread.specs.GcovSteps.{held_data}
use Rattle.covread.proofs.GcovLoop.{Reading}
use Rattle.covread.proofs.gcov.read.read_lines.Given as goal

abbrev pub invariant-loop-line : goal.invariant-loop-line
invariant-loop-line g l = record {
  reading : Reading l.test l.text l.line-iterator (held_data l.reader) l.at;
  test : l.reader.test.now ≡ l.test;
}
