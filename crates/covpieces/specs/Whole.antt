-- What a tracefile of any length is read as: as `IsOutcome` of covread and of covlcov2 has it, without a limit on the length.
use Rattle.std.specs.Prelude.{ℕ, List, Result, Ok, Err}
use Rattle.covdata.specs.Row.{SubmissionData}
use Rattle.covline.specs.Lines.{lines_of}
use Rattle.covdata.specs.declared.fault.ReadFault.{ReadFault}
use Rattle.covread.specs.Reads.{Reads}
use Rattle.covread.specs.Outcome.{IsFirstFault}
use Rattle.covlcov2.specs.Reads as lcov2
use Rattle.covlcov2.specs.Outcome as lcov2_outcome

-- what a tracefile of version 1 is read as, whatever its length: its lines say this submission, or they have this first fault
abbrev pub IsWholeOutcome : List ℕ → Result SubmissionData ReadFault → Type 0
IsWholeOutcome text (Ok submission) = Reads (lines_of text) submission
IsWholeOutcome text (Err fault) = IsFirstFault (lines_of text) fault

-- what a tracefile of LCOV 2 is read as, whatever its length
abbrev pub IsWholeLcov2Outcome : List ℕ → Result SubmissionData ReadFault → Type 0
IsWholeLcov2Outcome text (Ok submission) = lcov2.Reads (lines_of text) submission
IsWholeLcov2Outcome text (Err fault) = lcov2_outcome.IsFirstFault (lines_of text) fault
