-- When a call of this crate may run out of memory. A call that allocates nothing never does.
use Rattle.std.specs.Prelude.{◌≢◌, ◌<◌, List, []}
use Rattle.covtable.specs.Content.{SectionData}
use Rattle.covreport.specs.Choice.{AllFiles}
use Rattle.covreport.specs.Report.{report_text}
use Rattle.covreport.specs.Room.{most_functions}
use Rattle.covbook.specs.Op.{OpData, SubmitOp, DropTestOp, RenameOp, ReportOp, ExtractOp, RemoveOp, SummaryOp, AnswerData, AcceptedAnswer, ClashAnswer, DroppedAnswer, RenamedAnswer, NoSuchTestAnswer, TextAnswer}

-- a copy of the operation may fail
abbrev pub CopyMayFail : OpData → Type 0
CopyMayFail (SubmitOp submission) = Unit {0}
CopyMayFail (DropTestOp test) = Unit {0}
CopyMayFail (RenameOp old new) = Unit {0}
CopyMayFail ReportOp = ⊥
CopyMayFail (ExtractOp patterns) = Unit {0}
CopyMayFail (RemoveOp patterns) = Unit {0}
CopyMayFail SummaryOp = ⊥

-- a copy of the answer may fail
abbrev pub AnswerCopyMayFail : AnswerData → Type 0
AnswerCopyMayFail (AcceptedAnswer number items odd) = ⊥
AnswerCopyMayFail (ClashAnswer clash) = Unit {0}
AnswerCopyMayFail (DroppedAnswer sections) = ⊥
AnswerCopyMayFail (RenamedAnswer sections) = ⊥
AnswerCopyMayFail NoSuchTestAnswer = ⊥
AnswerCopyMayFail (TextAnswer text) = Unit {0}

-- making the text that the operation asks for may fail: that of a report if the text isn't empty
abbrev pub TextMayFail : OpData → List SectionData → Type 0
TextMayFail (SubmitOp submission) sections = Unit {0}
TextMayFail (DropTestOp test) sections = Unit {0}
TextMayFail (RenameOp old new) sections = Unit {0}
TextMayFail ReportOp sections = report_text AllFiles sections ≢ []
TextMayFail (ExtractOp patterns) sections = Unit {0}
TextMayFail (RemoveOp patterns) sections = Unit {0}
TextMayFail SummaryOp sections = Unit {0}

-- preparing to print that text may fail: that of a report if a section has functions
abbrev pub PrintingMayFail : OpData → List SectionData → Type 0
PrintingMayFail (SubmitOp submission) sections = Unit {0}
PrintingMayFail (DropTestOp test) sections = Unit {0}
PrintingMayFail (RenameOp old new) sections = Unit {0}
PrintingMayFail ReportOp sections = 0 < most_functions AllFiles sections
PrintingMayFail (ExtractOp patterns) sections = Unit {0}
PrintingMayFail (RemoveOp patterns) sections = Unit {0}
PrintingMayFail SummaryOp sections = Unit {0}
