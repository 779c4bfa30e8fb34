use Rattle.std.proofs.Common.{List, Ok, Err, map, sym, subst}
use Rattle.std.proofs.lemmas.List.{drop_all}
use Rattle.std.proofs.lemmas.Result.{err_from_is_err_and}
use Rattle.covbook.specs.declared.entry.Receipt.{Receipt}
use Rattle.covbook.specs.Op.{ReceiptData}
use Rattle.covbook.specs.EntryView.{entry_data, receipt_data}
use Rattle.covbook.specs.Gather.{AllHold, FirstFails, receipt_claims}
use Rattle.covbook.proofs.Checked.{receipt_on, receipt_stops}
use Rattle.covbook.proofs.gathering.check_receipts.Goals as goal

pub returns-in_err-least : goal.returns-in_err-least
returns-in_err-least g c =
    let p = err_from_is_err_and c.from_residual.result c.from_residual.ensures.1 in
    let f = c.in_err-least.field-0.0 in
    let entries = map (entry_data {A = g.row.A.Denot}) c.args.entries.now in
    rw (p.1, p.2)
    (subst (λ (rs : List ReceiptData). FirstFails (receipt_claims entries c.args.log.now.job c.args.number 0 0 rs) f) c.get-receipts.ensures
    (c.loop-index.invariant (Err f)
    (receipt_stops entries c.args.log.now.job c.args.number c.loop-index.least c.get-receipts.result.now c.loop-index.index c.index-receipts-index.result f
    c.loop-index-test.true c.index-receipts-index.is c.in_err-least.ensures.told)))

pub returns : goal.returns
returns g c =
    let receipts = c.get-receipts.result.now in
    let i = c.loop-index.index in
    let entries = map (entry_data {A = g.row.A.Denot}) c.args.entries.now in
    let job = c.args.log.now.job in
    subst (λ (rs : List ReceiptData). AllHold (receipt_claims entries job c.args.number 0 0 rs)) c.get-receipts.ensures
    (c.loop-index.invariant (Ok tt)
    (subst (λ (rs : List (Receipt g.row.A.Denot)). AllHold (receipt_claims entries job c.args.number i c.loop-index.least (map receipt_data rs))) (sym (drop_all i receipts c.loop-index-test.false)) tt))

pub loop-index-preserved : goal.loop-index-preserved
loop-index-preserved g c = λ r told.
    c.loop-index.invariant r
    (receipt_on (map (entry_data {A = g.row.A.Denot}) c.args.entries.now) c.args.log.now.job c.args.number c.loop-index.least c.in_ok-least.least c.get-receipts.result.now c.loop-index.index
    c.index-receipts-index.result c.loop-index-test.true c.index-receipts-index.is c.in_ok-least.ensures.told c.in_ok-least.ensures.next r told)
