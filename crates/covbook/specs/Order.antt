-- When the order of submissions doesn't matter: their checksums agree, and no operation but a submission changes the table.
use Rattle.std.specs.Prelude.{List, [], ◌∷◌}
use Rattle.std.specs.List.{AllByRecursion, flat_map}
use Rattle.std.specs.List.Sorted.{IsPermutation}
use Rattle.covdata.specs.Row.{SubmissionData, rows_of}
use Rattle.covtable.specs.Clash.{Agree, checksums_in}
use Rattle.covbook.specs.Op.{OpData, SubmitOp, DropTestOp, RenameOp, ReportOp, ExtractOp, RemoveOp, SummaryOp}

-- the submission that an operation adds, if it adds one
abbrev pub submission_of : OpData → List SubmissionData
submission_of (SubmitOp submission) = submission ∷ []
submission_of (DropTestOp test) = []
submission_of (RenameOp old new) = []
submission_of ReportOp = []
submission_of (ExtractOp patterns) = []
submission_of (RemoveOp patterns) = []
submission_of SummaryOp = []

-- the submissions that the operations add, in the order of the operations
abbrev pub submissions_in : List OpData → List SubmissionData
submissions_in ops = flat_map submission_of ops

-- the same submissions, each as often as in the other list, in any order
abbrev pub AreTheSame : List SubmissionData → List SubmissionData → Type 0
AreTheSame some others = IsPermutation some others

-- any two rows with checksums of the same line of the same file have the same checksum, no matter which submissions they are of
abbrev pub AreAgreeing : List SubmissionData → Type 0
AreAgreeing submissions = Agree (checksums_in (flat_map rows_of submissions))

-- the operation adds a submission or asks for a text
abbrev pub SubmitsOrAsks : OpData → Type 0
SubmitsOrAsks (SubmitOp submission) = Unit {0}
SubmitsOrAsks (DropTestOp test) = ⊥
SubmitsOrAsks (RenameOp old new) = ⊥
SubmitsOrAsks ReportOp = Unit {0}
SubmitsOrAsks (ExtractOp patterns) = Unit {0}
SubmitsOrAsks (RemoveOp patterns) = Unit {0}
SubmitsOrAsks SummaryOp = Unit {0}

abbrev pub OnlySubmitsAndAsks : List OpData → Type 0
OnlySubmitsAndAsks ops = AllByRecursion SubmitsOrAsks ops
