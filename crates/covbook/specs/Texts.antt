-- The operations that are answered by a text.
use Rattle.covbook.specs.Op.{OpData, SubmitOp, DropTestOp, RenameOp, ReportOp, ExtractOp, RemoveOp, SummaryOp}

abbrev pub IsText : OpData → Type 0
IsText ReportOp = Unit {0}
IsText (ExtractOp patterns) = Unit {0}
IsText (RemoveOp patterns) = Unit {0}
IsText SummaryOp = Unit {0}
IsText (SubmitOp submission) = ⊥
IsText (DropTestOp test) = ⊥
IsText (RenameOp old new) = ⊥
