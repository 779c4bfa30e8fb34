-- Operations and answers of the program, seen as plain data.
use Rattle.covbook.specs.declared.op.Op.{Op}
use Rattle.covbook.specs.declared.op.Op.TheVariants as ops
use Rattle.covbook.specs.declared.op.Answer.{Answer}
use Rattle.covbook.specs.declared.op.Answer.TheVariants as answers
use Rattle.covbook.specs.Op.{OpData, SubmitOp, DropTestOp, RenameOp, ReportOp, ExtractOp, RemoveOp, SummaryOp, AnswerData, AcceptedAnswer, ClashAnswer, DroppedAnswer, RenamedAnswer, NoSuchTestAnswer, TextAnswer}

abbrev pub op_data : {A : Type 0} → Op A → OpData
op_data (ops.Submit submission) = SubmitOp submission
op_data (ops.SubmitPacked submission) = SubmitOp submission
op_data (ops.DropTest test) = DropTestOp test
op_data (ops.Rename old new) = RenameOp old new
op_data ops.Report = ReportOp
op_data (ops.Extract patterns) = ExtractOp patterns
op_data (ops.Remove patterns) = RemoveOp patterns
op_data ops.Summary = SummaryOp

abbrev pub answer_data : {A : Type 0} → Answer A → AnswerData
answer_data (answers.Accepted number items odd) = AcceptedAnswer number items odd
answer_data (answers.Clash file line held given) = ClashAnswer (record { file = file; line = line; held = held; given = given })
answer_data (answers.Dropped sections) = DroppedAnswer sections
answer_data (answers.Renamed sections) = RenamedAnswer sections
answer_data answers.NoSuchTest = NoSuchTestAnswer
answer_data (answers.Text text) = TextAnswer text
