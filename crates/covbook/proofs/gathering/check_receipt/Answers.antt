use Rattle.std.proofs.Common.{◌<◌, ◌∙◌, length, refl, sym, true≢false}
use Rattle.std.proofs.lemmas.Bool.{ltb-true}
use Rattle.covbook.specs.EntryView.{entry_data, receipt_data}
use Rattle.covbook.proofs.Checked.{found_at, other_job, other_receipt, place_before, receipt_is}
use Rattle.covbook.proofs.gathering.check_receipt.Goals as goal

pub returns-clause-told : goal.returns-clause-told
returns-clause-told g c =
    let receipt = receipt_data {A = g.row.A.Denot} c.args.receipt.now in
    let within : c.args.receipt.now.place < length c.args.entries.now = ltb-true c.args.receipt.now.place (length c.args.entries.now) (sym c.in-Some.ensures.lookup.0) in
    receipt_is (entry_data {A = g.row.A.Denot}) c.args.entries.now c.in-Some.entry.now c.args.job c.args.log c.args.index c.args.least receipt
    (found_at c.args.entries.now c.args.receipt.now.place c.in-Some.entry.now within c.in-Some.ensures.lookup.1) c.if-entry-job.false (c.is_receipt_of.ensures.0 c.if-not-is_receipt_of.false) c.if-receipt-least.false

pub returns-then-entry-job-clause-told : goal.returns-then-entry-job-clause-told
returns-then-entry-job-clause-told g c =
    let receipt = receipt_data {A = g.row.A.Denot} c.args.receipt.now in
    let within : c.args.receipt.now.place < length c.args.entries.now = ltb-true c.args.receipt.now.place (length c.args.entries.now) (sym c.in-Some.ensures.lookup.0) in
    other_job (entry_data {A = g.row.A.Denot}) c.args.entries.now c.in-Some.entry.now c.args.job c.args.log c.args.index c.args.least receipt
    (found_at c.args.entries.now c.args.receipt.now.place c.in-Some.entry.now within c.in-Some.ensures.lookup.1) c.if-entry-job.true

pub returns-then-not-is_receipt_of-clause-told : goal.returns-then-not-is_receipt_of-clause-told
returns-then-not-is_receipt_of-clause-told g c =
    let receipt = receipt_data {A = g.row.A.Denot} c.args.receipt.now in
    let within : c.args.receipt.now.place < length c.args.entries.now = ltb-true c.args.receipt.now.place (length c.args.entries.now) (sym c.in-Some.ensures.lookup.0) in
    other_receipt (entry_data {A = g.row.A.Denot}) c.args.entries.now c.in-Some.entry.now c.args.job c.args.log c.args.index c.args.least receipt
    (found_at c.args.entries.now c.args.receipt.now.place c.in-Some.entry.now within c.in-Some.ensures.lookup.1) c.if-entry-job.false (λ same. true≢false (sym (c.is_receipt_of.ensures.1 same) ∙ c.if-not-is_receipt_of.true))

pub returns-then-receipt-least-clause-told : goal.returns-then-receipt-least-clause-told
returns-then-receipt-least-clause-told g c =
    let receipt = receipt_data {A = g.row.A.Denot} c.args.receipt.now in
    let within : c.args.receipt.now.place < length c.args.entries.now = ltb-true c.args.receipt.now.place (length c.args.entries.now) (sym c.in-Some.ensures.lookup.0) in
    place_before (entry_data {A = g.row.A.Denot}) c.args.entries.now c.in-Some.entry.now c.args.job c.args.log c.args.index c.args.least receipt
    (found_at c.args.entries.now c.args.receipt.now.place c.in-Some.entry.now within c.in-Some.ensures.lookup.1) c.if-entry-job.false (c.is_receipt_of.ensures.0 c.if-not-is_receipt_of.false) c.if-receipt-least.true

pub returns-clause-next : goal.returns-clause-next
returns-clause-next g c = refl
