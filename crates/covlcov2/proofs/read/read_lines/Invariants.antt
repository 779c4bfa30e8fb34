use Rattle.std.proofs.Common.{List, length}
use Rattle.covline.specs.Lines.{lines_of}
use Rattle.covdata.specs.Records.{LineData}
use Rattle.covread.specs.TraceSteps.{held_data}
use Rattle.covlcov2.specs.Spells.{Lcov2Data}
use Rattle.covlcov2.specs.Steps.{IsHeld}
use Rattle.covlcov2.proofs.Loop.{Lcov2Reading}
use Rattle.covlcov2.proofs.read.read_lines.Given as goal

abbrev pub invariant-loop-rest : goal.invariant-loop-rest
invariant-loop-rest g l = (above : List Lcov2Data) × (inside : List LineData) × IsHeld l.reader above inside × Lcov2Reading l.text l.rest above (held_data l.reader.plain inside) l.at

abbrev pub decreases-loop-rest : goal.decreases-loop-rest
decreases-loop-rest g l = length (lines_of l.rest)
