use Rattle.std.proofs.Common.{◌≡◌, ◌+◌, ◌≤◌, length}
use Rattle.std.specs.List.{enumerate_from}
use Rattle.covline.specs.Lines.{lines_of}
use Rattle.covcheck.specs.Skipped.{IsSkippedIn}
use Rattle.covcheck.proofs.Passing.{Line, Passing}
use Rattle.covcheck.proofs.skipped_lines.skipped_lines_in.Given as goal

abbrev pub invariant-loop-line : goal.invariant-loop-line
invariant-loop-line l = record {
  passing : Passing (λ (x : Line). IsSkippedIn l.format x.1) (enumerate_from 1 (lines_of l.text)) (enumerate_from (l.at + 1) (lines_of l.line-iterator)) l.count l.first;
  lines : l.at + length (lines_of l.line-iterator) ≡ length (lines_of l.text);
  counted : l.count ≤ l.at;
}
