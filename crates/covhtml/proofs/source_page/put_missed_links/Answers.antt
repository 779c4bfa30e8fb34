use Rattle.std.proofs.Common.{ℕ, Option, ◌++◌, codes, ap₂, sym, ◌∙◌}
use Rattle.covhtml.specs.Rows.{line_link}
use Rattle.covhtml.specs.SourcePage.{missed_links}
use Rattle.covhtml.proofs.Texts.{five}
use Rattle.covhtml.proofs.source_page.put_missed_links.Goals as goal

pub returns : goal.returns
returns g c =
    let text = g.P.Printer.text in
    five (text c.args.out.now) (text c.put.new.self) (text c.put_line_link.new.out) (text c.put-2.new.self) (text c.put_line_link-2.new.out) (text c.put-3.new.self)
    (codes "<p>Not run: first line ") (line_link c.in-Some.first) (codes ", last line ") (line_link c.in-Some-last.last) (codes "</p>\n")
    c.put.ensures c.put_line_link.ensures c.put-2.ensures c.put_line_link-2.ensures c.put-3.ensures
    ∙ ap₂ (λ (first last : Option ℕ). text c.args.out.now ++ missed_links first last) (sym c.in-Some.is) (sym c.in-Some-last.is)
