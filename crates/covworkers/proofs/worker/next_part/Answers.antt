use Rattle.std.proofs.Common.{◌∙◌, sym}
use Rattle.covworkers.proofs.Parts.{refused_part}
use Rattle.covworkers.proofs.worker.next_part.Goals as goal

-- the text was refused
pub returns-in_ok-refused_text-in-Err-clause-part : goal.returns-in_ok-refused_text-in-Err-clause-part
returns-in_ok-refused_text-in-Err-clause-part g c =
    refused_part g.row.A.Denot g.T.LateInput.may_give g.T.LateInput.may_fail g.T.LateInput.most c.args.input c.args.index c.args.first c.in-Err.fault c.in_ok-refused_text-in-Err.field-0 c.in-Err.ensures.next
    (sym c.refused_text.ensures ∙ c.in_ok-refused_text-in-Err.was)
