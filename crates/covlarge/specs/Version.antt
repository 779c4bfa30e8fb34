-- The two versions of tracefiles: what a text is read as, and which of its lines aren't read.
use Rattle.std.specs.Prelude.{ℕ, List, Result}
use Rattle.covcheck.specs.Skipped.{IsSkippedLcov2, IsSkippedRecord}
use Rattle.covdata.specs.declared.version.LcovVersion.{LcovVersion}
use Rattle.covdata.specs.declared.version.LcovVersion.TheVariants.{One, Two}
use Rattle.covlcov2.specs.Outcome as lcov2
use Rattle.covdata.specs.Row.{SectData, SubmissionData}
use Rattle.covpieces.specs.Pieces.{CarriedData, carried_after, lcov2_carried_after}
use Rattle.covpieces.specs.Whole.{IsWholeLcov2Outcome, IsWholeOutcome}
use Rattle.covread.specs.Outcome as trace
use Rattle.covdata.specs.declared.fault.ReadFault.{ReadFault}

-- what a text is read as that isn't too long
abbrev pub IsOutcomeOf : LcovVersion → List ℕ → Result SubmissionData ReadFault → Type 0
IsOutcomeOf One = trace.IsOutcome
IsOutcomeOf Two = lcov2.IsOutcome

-- what a text is read as, whatever its length
abbrev pub IsWholeOf : LcovVersion → List ℕ → Result SubmissionData ReadFault → Type 0
IsWholeOf One = IsWholeOutcome
IsWholeOf Two = IsWholeLcov2Outcome

-- what goes over after a piece that is read as these sections
abbrev pub carried_over : LcovVersion → CarriedData → List ℕ → List SectData → CarriedData
carried_over One = carried_after
carried_over Two = lcov2_carried_after

-- a line that isn't read
abbrev pub IsSkippedOf : LcovVersion → List ℕ → Type 0
IsSkippedOf One = IsSkippedRecord
IsSkippedOf Two = IsSkippedLcov2
