use Rattle.std.proofs.Common.{take}
use Rattle.covlcov2.specs.Numbers.{ArePut}
use Rattle.covlcov2.proofs.numbers.put_runs.Given as goal

-- the runs so far are added
abbrev pub invariant-loop-run : goal.invariant-loop-run
invariant-loop-run g l = ArePut (take l.run-index l.runs) l.initial.numberings l.numberings
