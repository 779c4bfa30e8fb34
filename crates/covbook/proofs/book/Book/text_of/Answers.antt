use Rattle.std.proofs.Common.{sym, ap, ◌∙◌}
use Rattle.covreport.specs.Choice.{AllFiles, Extracted, Removed}
use Rattle.covreport.specs.Report.{report_text}
use Rattle.covreport.specs.Summary.{summary_of}
use Rattle.covbook.specs.Held.{BookData}
use Rattle.covbook.specs.MayFail.{TextMayFail}
use Rattle.covbook.specs.Op.{ReportOp, ExtractOp, RemoveOp, SummaryOp}
use Rattle.covbook.specs.Step.{table_of, ops_in}
use Rattle.covbook.specs.View.{op_data}
use Rattle.covbook.proofs.Told.{always, refused, report_is, summary_is, told}
use Rattle.covbook.proofs.book.Book.text_of.Goals as goal

pub returns-in-Report-clause-text : goal.returns-in-Report-clause-text
returns-in-Report-clause-text g c =
    let book = c.self.inside in
    told c.trace_text.result (report_text AllFiles (g.T.Table.shown book.store).sections) book.history.entries c.args.self.now ReportOp (op_data c.args.op.now) (ap (λ (b : BookData g.row.T.Denot). b.entries) c.self.view_is) (ap op_data c.in-Report.is)
    (report_is AllFiles (g.T.Table.shown book.store) (table_of (ops_in book.history.entries)) c.self.invariant.stands) c.trace_text.ensures.text

pub returns-in_ok-copy-in-Extract-clause-text : goal.returns-in_ok-copy-in-Extract-clause-text
returns-in_ok-copy-in-Extract-clause-text g c =
    let book = c.self.inside in
    let patterns = c.in_ok-copy-in-Extract.field-0 in
    told c.trace_text-in-Extract.result (report_text (Extracted patterns) (g.T.Table.shown book.store).sections) book.history.entries c.args.self.now (ExtractOp patterns) (op_data c.args.op.now) (ap (λ (b : BookData g.row.T.Denot). b.entries) c.self.view_is)
    (ap op_data c.in-Extract.is ∙ sym (ap ExtractOp c.in_ok-copy-in-Extract.ensures.copied))
    (report_is (Extracted patterns) (g.T.Table.shown book.store) (table_of (ops_in book.history.entries)) c.self.invariant.stands) c.trace_text-in-Extract.ensures.text

pub returns-in_ok-copy-in-Remove-clause-text : goal.returns-in_ok-copy-in-Remove-clause-text
returns-in_ok-copy-in-Remove-clause-text g c =
    let book = c.self.inside in
    let patterns = c.in_ok-copy-in-Remove.field-0 in
    told c.trace_text-in-Remove.result (report_text (Removed patterns) (g.T.Table.shown book.store).sections) book.history.entries c.args.self.now (RemoveOp patterns) (op_data c.args.op.now) (ap (λ (b : BookData g.row.T.Denot). b.entries) c.self.view_is)
    (ap op_data c.in-Remove.is ∙ sym (ap RemoveOp c.in_ok-copy-in-Remove.ensures.copied))
    (report_is (Removed patterns) (g.T.Table.shown book.store) (table_of (ops_in book.history.entries)) c.self.invariant.stands) c.trace_text-in-Remove.ensures.text

pub returns-in-Summary-clause-text : goal.returns-in-Summary-clause-text
returns-in-Summary-clause-text g c =
    let book = c.self.inside in
    told c.summary_text.result (summary_of c.totals.result) book.history.entries c.args.self.now SummaryOp (op_data c.args.op.now) (ap (λ (b : BookData g.row.T.Denot). b.entries) c.self.view_is) (ap op_data c.in-Summary.is)
    (summary_is c.totals.result (g.T.Table.shown book.store) (table_of (ops_in book.history.entries)) c.totals.ensures.value c.self.invariant.stands) c.summary_text.ensures

pub returns-in-Report-clause-refused : goal.returns-in-Report-clause-refused
returns-in-Report-clause-refused g c =
    refused TextMayFail c.trace_text.result c.args.self.now (g.T.Table.shown c.self.inside.store) ReportOp (op_data c.args.op.now) (ap (λ (b : BookData g.row.T.Denot). b.store) c.self.view_is) (ap op_data c.in-Report.is) c.trace_text.ensures.refused

pub returns-in_ok-copy-in-Extract-clause-refused : goal.returns-in_ok-copy-in-Extract-clause-refused
returns-in_ok-copy-in-Extract-clause-refused g c =
    refused TextMayFail c.trace_text-in-Extract.result c.args.self.now (g.T.Table.shown c.self.inside.store) (ExtractOp c.in_ok-copy-in-Extract.field-0) (op_data c.args.op.now) (ap (λ (b : BookData g.row.T.Denot). b.store) c.self.view_is)
    (ap op_data c.in-Extract.is ∙ sym (ap ExtractOp c.in_ok-copy-in-Extract.ensures.copied)) (always c.trace_text-in-Extract.result)

pub returns-in_ok-copy-in-Remove-clause-refused : goal.returns-in_ok-copy-in-Remove-clause-refused
returns-in_ok-copy-in-Remove-clause-refused g c =
    refused TextMayFail c.trace_text-in-Remove.result c.args.self.now (g.T.Table.shown c.self.inside.store) (RemoveOp c.in_ok-copy-in-Remove.field-0) (op_data c.args.op.now) (ap (λ (b : BookData g.row.T.Denot). b.store) c.self.view_is)
    (ap op_data c.in-Remove.is ∙ sym (ap RemoveOp c.in_ok-copy-in-Remove.ensures.copied)) (always c.trace_text-in-Remove.result)

pub returns-in-Summary-clause-refused : goal.returns-in-Summary-clause-refused
returns-in-Summary-clause-refused g c =
    refused TextMayFail c.summary_text.result c.args.self.now (g.T.Table.shown c.self.inside.store) SummaryOp (op_data c.args.op.now) (ap (λ (b : BookData g.row.T.Denot). b.store) c.self.view_is) (ap op_data c.in-Summary.is) (always c.summary_text.result)
