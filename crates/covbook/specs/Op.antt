-- Operations, answers, entries of a history and receipts, as plain data.
use Rattle.std.specs.Prelude.{ℕ, List}
use Rattle.std.specs.List.{AllByRecursion}
use Rattle.covdata.specs.Lawful.{IsGoodTest, IsLawful}
use Rattle.covdata.specs.Row.{SubmissionData}
use Rattle.covtable.specs.declared.totals.Totals.{Totals}
use Rattle.covtable.specs.Clash.{ClashData}

pub data OpData : Type 0 where
  SubmitOp : (submission : SubmissionData) → OpData
  DropTestOp : (test : List ℕ) → OpData
  RenameOp : (old new : List ℕ) → OpData
  ReportOp : OpData
  ExtractOp : (patterns : List (List ℕ)) → OpData
  RemoveOp : (patterns : List (List ℕ)) → OpData
  SummaryOp : OpData

-- the operation is lawful: if it adds a submission, the submission is lawful. Every other operation is lawful: a rename may
-- have any new name
abbrev pub IsLawfulOp : OpData → Type 0
IsLawfulOp (SubmitOp submission) = IsLawful submission
IsLawfulOp (DropTestOp test) = Unit {0}
IsLawfulOp (RenameOp old new) = Unit {0}
IsLawfulOp ReportOp = Unit {0}
IsLawfulOp (ExtractOp patterns) = Unit {0}
IsLawfulOp (RemoveOp patterns) = Unit {0}
IsLawfulOp SummaryOp = Unit {0}

abbrev pub AreLawfulOps : List OpData → Type 0
AreLawfulOps ops = AllByRecursion IsLawfulOp ops

-- if the operation is a rename, the new name is one that a tracefile can have, so the renamed counts can be printed and read
-- back
abbrev pub HasGoodName : OpData → Type 0
HasGoodName (RenameOp old new) = IsGoodTest new
HasGoodName (SubmitOp submission) = Unit {0}
HasGoodName (DropTestOp test) = Unit {0}
HasGoodName ReportOp = Unit {0}
HasGoodName (ExtractOp patterns) = Unit {0}
HasGoodName (RemoveOp patterns) = Unit {0}
HasGoodName SummaryOp = Unit {0}

abbrev pub HaveGoodNames : List OpData → Type 0
HaveGoodNames ops = AllByRecursion HasGoodName ops

pub data AnswerData : Type 0 where
  AcceptedAnswer : (number items odd : ℕ) → AnswerData
  ClashAnswer : (clash : ClashData) → AnswerData
  DroppedAnswer : (sections : ℕ) → AnswerData
  RenamedAnswer : (sections : ℕ) → AnswerData
  NoSuchTestAnswer : AnswerData
  TextAnswer : (text : List ℕ) → AnswerData

-- one operation of a job, the answer to it, and the totals after it
pub record EntryData : Type 0 where
  pub job : ℕ
  pub op : OpData
  pub answer : AnswerData
  pub after : Totals

-- what a job gets back for an operation: the place of its entry in the history, counted from 0, the operation, and the answer
pub record ReceiptData : Type 0 where
  pub place : ℕ
  pub op : OpData
  pub answer : AnswerData
