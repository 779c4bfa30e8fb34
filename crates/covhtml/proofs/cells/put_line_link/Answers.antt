use Rattle.std.specs.Prelude.{codes, decimal}
use Rattle.covhtml.proofs.Texts.{five}
use Rattle.covhtml.proofs.cells.put_line_link.Goals as goal

pub returns : goal.returns
returns g c =
    let text = g.P.Printer.text in
    five (text c.args.out.now) (text c.put.new.self) (text c.put_number.new.out) (text c.put-2.new.self) (text c.put_number-2.new.out) (text c.put-3.new.self)
    (codes "<a href=\"#L") (decimal c.args.line) (codes "\">") (decimal c.args.line) (codes "</a>")
    c.put.ensures c.put_number.ensures c.put-2.ensures c.put_number-2.ensures c.put-3.ensures
