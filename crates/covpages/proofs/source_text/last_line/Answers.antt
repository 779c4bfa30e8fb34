use Rattle.covhtml.specs.RowView.{row_data}
use Rattle.covpages.proofs.SourceTexts.{last_seen}
use Rattle.covpages.proofs.source_text.last_line.Goals as goal

pub returns-in-Some : goal.returns-in-Some
returns-in-Some c = last_seen row_data c.args.rows.now c.in-Some.field-0-1.now c.in-Some.row.now c.in-Some.ensures.cases.0
