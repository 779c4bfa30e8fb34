use Rattle.std.proofs.Common.{None, Option, ℕ, List, ◌++◌, map, ap, ◌∙◌}
use Rattle.covhtml.specs.Frame.{head, heading}
use Rattle.covhtml.specs.PagesView.{source_page_data}
use Rattle.covhtml.specs.Rates.{cards}
use Rattle.covhtml.specs.RowView.{row_data}
use Rattle.covhtml.specs.Rows.{RowData, first_missed, last_missed}
use Rattle.covhtml.specs.SourcePage.{missed_links, tables}
use Rattle.covhtml.specs.declared.markup.TheConstants.{BACK}
use Rattle.covhtml.proofs.Texts.{six}
use Rattle.covhtml.proofs.source_page.put_front.Goals as goal

pub returns : goal.returns
returns g c =
    let page = c.args.page.now in
    let rows : List RowData = map row_data page.rows.now in
    let text = g.P.Printer.text in
    let t : List ℕ = text c.put_tables.new.out in
    six (text c.args.out.now) (text c.put_head.new.out) (text c.put.new.self) (text c.put_heading.new.out) (text c.put_cards.new.out) t (text c.put_missed_links.new.out)
    (head page.path.now) BACK.now (heading page.path.now) (cards page.totals) (tables (source_page_data page)) (missed_links (first_missed rows) (last_missed None rows))
    c.put_head.ensures c.put.ensures c.put_heading.ensures c.put_cards.ensures c.put_tables.ensures
    (c.put_missed_links.ensures
    ∙ ap (λ (first : Option ℕ). t ++ missed_links first c.last_missed.result) c.first_missed.ensures
    ∙ ap (λ (last : Option ℕ). t ++ missed_links (first_missed rows) last) c.last_missed.ensures)
