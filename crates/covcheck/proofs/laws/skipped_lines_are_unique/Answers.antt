use Rattle.std.proofs.Common.{ℕ, List}
use Rattle.std.specs.List.{enumerate_from}
use Rattle.covline.specs.Lines.{lines_of}
use Rattle.covcheck.specs.Skipped.{IsSkippedGcov, IsSkippedLcov2, IsSkippedRecord}
use Rattle.covcheck.proofs.AllThat.{those_are_one}
use Rattle.covcheck.proofs.laws.skipped_lines_are_unique.Goals as goal

pub returns : goal.returns
returns c = record {
  trace = λ text x y is also. those_are_one (λ (l : ℕ × List ℕ). IsSkippedRecord l.1) (enumerate_from 1 (lines_of text)) x y is also;
  lcov2 = λ text x y is also. those_are_one (λ (l : ℕ × List ℕ). IsSkippedLcov2 l.1) (enumerate_from 1 (lines_of text)) x y is also;
  gcov = λ text x y is also. those_are_one (λ (l : ℕ × List ℕ). IsSkippedGcov l.1) (enumerate_from 1 (lines_of text)) x y is also;
}
