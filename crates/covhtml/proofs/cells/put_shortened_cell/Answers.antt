use Rattle.std.specs.Prelude.{codes}
use Rattle.covhtml.specs.Rows.{shortened}
use Rattle.covhtml.proofs.Texts.{four}
use Rattle.covhtml.proofs.cells.put_shortened_cell.Goals as goal

pub returns : goal.returns
returns g c =
    let text = g.P.Printer.text in
    four (text c.args.out.now) (text c.put.new.self) (text c.put-2.new.self) (text c.put-3.new.self) (text c.put_shortened.new.out)
    (codes "<td title=\"") (c.args.digits.now) (codes "\">") (shortened c.args.digits.now)
    c.put.ensures c.put-2.ensures c.put-3.ensures c.put_shortened.ensures
