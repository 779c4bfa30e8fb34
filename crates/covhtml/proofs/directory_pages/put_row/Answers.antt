use Rattle.std.proofs.Common.{codes}
use Rattle.covhtml.specs.Rates.{totals_cells}
use Rattle.covhtml.specs.Shown.{shown}
use Rattle.covhtml.proofs.Texts.{six}
use Rattle.covhtml.proofs.directory_pages.put_row.Goals as goal

pub returns : goal.returns
returns g c =
    let text = g.P.Printer.text in
    let directory = c.args.directory.now in
    six (text c.args.out.now) (text c.put.new.self) (text c.put_shown.new.out) (text c.put-2.new.self) (text c.put_shown-2.new.out) (text c.put-3.new.self) (text c.put_totals_cells.new.out)
    (codes "<tr><th scope=\"row\"><a href=\"") (shown directory.page.now) (codes "\">") (shown directory.path.now) (codes "</a>") (totals_cells directory.totals)
    c.put.ensures c.put_shown.ensures c.put-2.ensures c.put_shown-2.ensures c.put-3.ensures c.put_totals_cells.ensures
