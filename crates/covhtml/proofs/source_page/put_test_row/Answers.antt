use Rattle.std.specs.Prelude.{codes}
use Rattle.covhtml.specs.Rates.{totals_cells}
use Rattle.covhtml.specs.SourcePage.{test_name}
use Rattle.covhtml.proofs.Texts.{three}
use Rattle.covhtml.proofs.source_page.put_test_row.Goals as goal

pub returns : goal.returns
returns g c =
    let text = g.P.Printer.text in
    let test = c.args.test.now in
    three (text c.args.out.now) (text c.put.new.self) (text c.put_test_name.new.out) (text c.put_totals_cells.new.out)
    (codes "<tr><th scope=\"row\">") (test_name test.test.now) (totals_cells test.totals)
    c.put.ensures c.put_test_name.ensures c.put_totals_cells.ensures
