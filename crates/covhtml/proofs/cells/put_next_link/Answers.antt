use Rattle.std.proofs.Common.{ℕ, Option, ◌++◌, ap, sym, ◌∙◌}
use Rattle.std.specs.Prelude.{codes, decimal}
use Rattle.covhtml.specs.Rows.{next_link}
use Rattle.covhtml.proofs.Texts.{five}
use Rattle.covhtml.proofs.cells.put_next_link.Goals as goal

pub returns : goal.returns
returns g c =
    let text = g.P.Printer.text in
    five (text c.args.out.now) (text c.put.new.self) (text c.put_number.new.out) (text c.put-2.new.self) (text c.put_number-2.new.out) (text c.put-3.new.self)
    (codes " <a href=\"#L") (decimal c.in-Some.line) (codes "\" title=\"next line not run\">&darr;") (decimal c.in-Some.line) (codes "</a>")
    c.put.ensures c.put_number.ensures c.put-2.ensures c.put_number-2.ensures c.put-3.ensures
    ∙ ap (λ (next : Option ℕ). text c.args.out.now ++ next_link next) (sym c.in-Some.is)
