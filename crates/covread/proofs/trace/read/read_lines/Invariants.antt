use Rattle.std.proofs.Common.{List, length}
use Rattle.covline.specs.Lines.{lines_of}
use Rattle.covdata.specs.Records.{LineData}
use Rattle.covread.specs.TraceSteps.{held_data, IsOpen}
use Rattle.covread.proofs.TraceLoop.{Reading}
use Rattle.covread.proofs.trace.read.read_lines.Given as goal

abbrev pub invariant-loop-rest : goal.invariant-loop-rest
invariant-loop-rest g l = (inside : List LineData) × IsOpen l.reader inside × Reading l.text l.rest (held_data l.reader inside) l.at

abbrev pub decreases-loop-rest : goal.decreases-loop-rest
decreases-loop-rest g l = length (lines_of l.rest)
