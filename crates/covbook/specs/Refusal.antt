-- What a book answers if its store can't hold a submission.
use Rattle.std.specs.Prelude.{Option, Some, None}
use Rattle.covtable.specs.Refuse.{RefuseData, ClashRefuse, MemoryRefuse}
use Rattle.covbook.specs.Op.{AnswerData, ClashAnswer}

-- the answer to a clash; `None` if memory was refused, since that isn't answered
abbrev pub refusal_answer : RefuseData → Option AnswerData
refusal_answer (ClashRefuse clash) = Some (ClashAnswer clash)
refusal_answer MemoryRefuse = None
