use Rattle.std.proofs.Common.{◌++◌, ℕ, List, map, ap, ◌∙◌}
use Rattle.covhtml.specs.RowView.{row_data}
use Rattle.covhtml.proofs.LaterRows.{cells_of_blank, cells_of_none, cells_of_row, none_seen}
use Rattle.covhtml.proofs.source_rows.put_cells.Goals as goal

pub returns-in_default : goal.returns-in_default
returns-in_default g c =
    c.put_blank_cells.ensures
    ∙ ap (λ (x : List ℕ). g.P.Printer.text c.args.out.now ++ x) (cells_of_none c.args.line (map row_data c.args.rows.now) (none_seen row_data c.args.rows.now c.in_default.ensures.cases))

pub returns-then-row-line : goal.returns-then-row-line
returns-then-row-line g c =
    c.put_row_cells.ensures
    ∙ ap (λ (x : List ℕ). g.P.Printer.text c.args.out.now ++ x)
    (cells_of_row c.args.line (row_data c.in-Some.row.now) (map row_data c.args.rows.now) (map row_data c.in-Some.later.now) (ap (map row_data) c.in-Some.ensures.cases.0) c.if-row-line.true)

pub returns-else-row-line : goal.returns-else-row-line
returns-else-row-line g c =
    c.put_blank_cells-else-row-line.ensures
    ∙ ap (λ (x : List ℕ). g.P.Printer.text c.args.out.now ++ x)
    (cells_of_blank c.args.line (row_data c.in-Some.row.now) (map row_data c.args.rows.now) (map row_data c.in-Some.later.now) (ap (map row_data) c.in-Some.ensures.cases.0) c.if-row-line.false)
