use Rattle.std.proofs.Common.{◌≡◌, ◌+◌, length}
use Rattle.covline.specs.Lines.{lines_of}
use Rattle.covpages.proofs.source_text.count_lines.Given as goal

abbrev pub invariant-loop-line : goal.invariant-loop-line
invariant-loop-line l = l.count + length (lines_of l._line-iterator) ≡ length (lines_of l.text)
