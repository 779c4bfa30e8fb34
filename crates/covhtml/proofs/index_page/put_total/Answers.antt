use Rattle.std.specs.Prelude.{codes}
use Rattle.covhtml.specs.Rates.{totals_cells}
use Rattle.covhtml.proofs.Texts.{two}
use Rattle.covhtml.proofs.index_page.put_total.Goals as goal

pub returns : goal.returns
returns g c =
    let text = g.P.Printer.text in
    two (text c.args.out.now) (text c.put.new.self) (text c.put_totals_cells.new.out) (codes "<tr class=\"t\"><th scope=\"row\">Total") (totals_cells c.args.totals.now)
    c.put.ensures c.put_totals_cells.ensures
