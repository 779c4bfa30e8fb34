-- What it means that a printed text reads back, and that submissions are merges of others.
use Rattle.std.specs.Prelude.{◌≡◌, ℕ, List, [], ◌∷◌, Ok, map}
use Rattle.covdata.specs.Row.{SubmissionData, items_in}
use Rattle.covdata.specs.Lawful.{IsLawful}
use Rattle.covread.specs.Outcome.{IsOutcome}
use Rattle.covbook.specs.Op.{OpData, SubmitOp, DropTestOp, RenameOp, ReportOp, ExtractOp, RemoveOp, SummaryOp, AcceptedAnswer, TextAnswer}
use Rattle.covbook.specs.Step.{answer_of, table_of}

-- the text is read as this submission
abbrev pub IsReadAs : List ℕ → SubmissionData → Type 0
IsReadAs text submission = IsOutcome text (Ok submission)

-- the operation is one that is answered with a tracefile
abbrev pub IsReport : OpData → Type 0
IsReport ReportOp = Unit {0}
IsReport (ExtractOp patterns) = Unit {0}
IsReport (RemoveOp patterns) = Unit {0}
IsReport (SubmitOp submission) = ⊥
IsReport (DropTestOp test) = ⊥
IsReport (RenameOp old new) = ⊥
IsReport SummaryOp = ⊥

-- the text is read as a lawful submission without odd lines. An empty book accepts this submission with all its items, and then
-- reports the same text. The text is read as no other submission, by covread's law each_text_has_one_outcome
pub record ReadsBack (text : List ℕ) : Type 0 where
  pub submission : SubmissionData
  pub read : IsReadAs text submission
  pub lawful : IsLawful submission
  pub nothing_odd : submission.odd ≡ 0
  pub accepted : answer_of [] (SubmitOp submission) ≡ AcceptedAnswer 1 (items_in submission.sects) 0
  pub same : answer_of (table_of (SubmitOp submission ∷ [])) ReportOp ≡ TextAnswer text

-- `merge` is the submission that the report of the submissions `part` is read as
pub record IsMergeOf (part : List SubmissionData) (merge : SubmissionData) : Type 0 where
  pub text : List ℕ
  pub told : answer_of (table_of (map SubmitOp part)) ReportOp ≡ TextAnswer text
  pub read : IsReadAs text merge

-- there are as many merges as parts, and each is the merge of the part at the same index
abbrev pub AreMergesOf : List (List SubmissionData) → List SubmissionData → Type 0
AreMergesOf [] [] = Unit {0}
AreMergesOf [] (merge ∷ merges) = ⊥
AreMergesOf (part ∷ parts) [] = ⊥
AreMergesOf (part ∷ parts) (merge ∷ merges) = IsMergeOf part merge × AreMergesOf parts merges
