use Rattle.std.proofs.Common.{ℕ, List, ◌++◌, codes, ap, ◌∙◌}
use Rattle.covhtml.specs.IndexPage.{name_of}
use Rattle.covhtml.specs.Rates.{totals_cells}
use Rattle.covhtml.specs.Shown.{shown}
use Rattle.covhtml.proofs.Texts.{six}
use Rattle.covhtml.proofs.index_page.put_file.Goals as goal

pub returns : goal.returns
returns g c =
    let text = g.P.Printer.text in
    let file = c.args.file.now in
    six (text c.args.out.now) (text c.put.new.self) (text c.put_shown.new.out) (text c.put-2.new.self) (text c.put_shown-2.new.out) (text c.put-3.new.self) (text c.put_totals_cells.new.out)
    (codes "<tr><th scope=\"row\"><a href=\"") (shown file.page.now) (codes "\">") (shown (name_of file.path.now)) (codes "</a>") (totals_cells file.totals)
    c.put.ensures c.put_shown.ensures c.put-2.ensures (c.put_shown-2.ensures ∙ ap (λ (name : List ℕ). text c.put-2.new.self ++ shown name) c.name_of.ensures) c.put-3.ensures c.put_totals_cells.ensures
