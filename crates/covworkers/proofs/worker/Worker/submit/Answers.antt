use Rattle.std.proofs.Common.{◌∙◌, List, [], ◌∷◌, ◌++◌, ap}
use Rattle.covbook.specs.Op.{OpData, ReceiptData}
use Rattle.covbook.specs.View.{op_data}
use Rattle.covworkers.specs.Collect.{ops_in}
use Rattle.covworkers.proofs.ReadAfter.{submitted_read}
use Rattle.covworkers.proofs.Submitted.{asked_more}
use Rattle.covworkers.proofs.worker.Worker.submit.Goals as goal

pub returns-clause-read : goal.returns-clause-read
returns-clause-read g c =
    submitted_read c.args.self.now c.ask-kept.new.self c.read-2.new.self c.in_ok-kept.field-0 c.in_ok-kept.ensures.asked c.in_ok-kept.ensures.news c.ask-kept.ensures.reader c.ask-kept.ensures.readings c.in_ok-read.ensures.read
    c.read-2.ensures.reader c.read-2.ensures.receipts

-- the submit comes after all operations that were asked before
pub returns-clause-asked : goal.returns-clause-asked
returns-clause-asked g c =
    ap (λ (rs : List ReceiptData). ops_in rs) c.read-2.ensures.receipts
    ∙ asked_more c.args.self.now.receipts c.ask-kept.new.self.receipts c.ask-kept.new.self.seat.seen (op_data c.into_op.result) c.in_ok-kept.ensures.asked
    ∙ ap (λ (op : OpData). ops_in c.args.self.now.receipts ++ op ∷ []) c.into_op.ensures
