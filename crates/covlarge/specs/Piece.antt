-- Private steps: how one piece is read after others.
use Rattle.std.specs.Prelude.{◌≡◌, ℕ, List, ◌++◌, Option, Result, Ok, Err}
use Rattle.covdata.specs.declared.version.LcovVersion.{LcovVersion}
use Rattle.covdata.specs.declared.version.LcovVersion.TheVariants.{One, Two}
use Rattle.covlarge.specs.Summary.{HoldsOnIfTold, SummaryData}
use Rattle.covlarge.specs.Version.{IsOutcomeOf, IsSkippedOf}
use Rattle.covlarge.specs.declared.fault.PieceFault.{PieceFault}
use Rattle.covlarge.specs.declared.fault.PieceFault.TheVariants.{Refused, Unreadable, Memory}
use Rattle.covlcov2.specs.Outcome as lcov2
use Rattle.covdata.specs.Row.{SubmissionData}
use Rattle.covpieces.specs.Pieces.{CarriedData, told}
use Rattle.covread.specs.Outcome as trace
use Rattle.covdata.specs.declared.fault.ReadFault.{ReadFault}
use Rattle.covdata.specs.declared.fault.ReadFault.TheVariants as faults
use Rattle.covstream.specs.declared.fault.BlockFault.{BlockFault}
use Rattle.covstream.specs.declared.fault.BlockFault.TheVariants as blocks

-- the answer of a reader is what the text is read as, or memory ran out
abbrev pub AnswersOf : LcovVersion → List ℕ → Result SubmissionData ReadFault → Type 0
AnswersOf One text answer = trace.Answers text answer
AnswersOf Two text answer = lcov2.Answers text answer

-- a fault of reading blocks, as that of the whole tracefile
abbrev pub of_block : BlockFault → PieceFault
of_block blocks.Unreadable = Unreadable
of_block blocks.Memory = Memory

-- a reader's fault in a piece, as that of the whole tracefile
abbrev pub IsFaultOf : CarriedData → ReadFault → PieceFault → Type 0
IsFaultOf carried fault (Refused all) = (fault ≡ faults.Memory → ⊥) × (all ≡ told carried fault)
IsFaultOf carried fault Unreadable = ⊥
IsFaultOf carried fault Memory = fault ≡ faults.Memory

-- the text of a piece is refused for this fault
pub record IsRefused (version : LcovVersion) (carried : CarriedData) (text : List ℕ) (fault : ReadFault) : Type 0 where
  pub found : ReadFault
  pub isnt_long : found ≡ faults.TooLong → ⊥
  pub outcome : IsOutcomeOf version text (Err found)
  pub is : fault ≡ told carried found

-- why the text of a piece isn't read
abbrev pub IsUnread : LcovVersion → CarriedData → (text : List ℕ) → PieceFault → Type 0
IsUnread version carried text (Refused fault) = IsRefused version carried text fault
IsUnread version carried text Unreadable = ⊥
IsUnread version carried text Memory = Unit {0}

-- what the text of a piece is read as
abbrev pub IsReadAs : LcovVersion → CarriedData → (text : List ℕ) → Result SubmissionData PieceFault → Type 0
IsReadAs version carried text (Ok submission) = IsOutcomeOf version text (Ok submission)
IsReadAs version carried text (Err fault) = IsUnread version carried text fault

-- what a piece behind its front is read as, and what the pieces hold with it
abbrev pub IsPieceRead : LcovVersion → CarriedData → (held : Option SummaryData) → (front piece : List ℕ) → (after : Option SummaryData) → Result SubmissionData PieceFault → Type 0
IsPieceRead version carried held front piece after (Ok submission) =
    IsOutcomeOf version (front ++ piece) (Ok submission) × HoldsOnIfTold (IsSkippedOf version) carried.lines held piece submission after
IsPieceRead version carried held front piece after (Err fault) = IsUnread version carried (front ++ piece) fault

-- the same for the last piece
abbrev pub IsLastPiece : LcovVersion → CarriedData → (held : Option SummaryData) → (front piece : List ℕ) → Result (SubmissionData × Option SummaryData) PieceFault → Type 0
IsLastPiece version carried held front piece (Ok read) =
    IsOutcomeOf version (front ++ piece) (Ok read.0) × HoldsOnIfTold (IsSkippedOf version) carried.lines held piece read.0 read.1
IsLastPiece version carried held front piece (Err fault) = IsUnread version carried (front ++ piece) fault
