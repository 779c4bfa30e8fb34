use Rattle.covline.specs.Lines.{lines_of}
use Rattle.covuses.proofs.Counted.{ArePrinted}
use Rattle.covuses.proofs.records.counted_lines.Given as goal

abbrev pub invariant-loop-line : goal.invariant-loop-line
invariant-loop-line l = ArePrinted (lines_of l.text) l.printed (lines_of l.line-iterator)
