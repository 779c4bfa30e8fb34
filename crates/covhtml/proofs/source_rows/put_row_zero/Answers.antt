use Rattle.std.proofs.Common.{◌++◌, ℕ, List, map, sym, ap, ◌∙◌}
use Rattle.std.proofs.lemmas.List.{append-nil}
use Rattle.covhtml.specs.RowView.{row_data}
use Rattle.covhtml.proofs.LaterRows.{none_seen, zero_is_first, zero_is_not_first, zero_of_none}
use Rattle.covhtml.proofs.source_rows.put_row_zero.Goals as goal

pub returns-in_default : goal.returns-in_default
returns-in_default g c =
    let t : List ℕ = g.P.Printer.text c.args.out.now in
    sym (append-nil t) ∙ ap (λ (x : List ℕ). t ++ x) (sym (zero_of_none (map row_data c.args.rows.now) (none_seen row_data c.args.rows.now c.in_default.ensures.cases)))

pub returns-then-row-eq0 : goal.returns-then-row-eq0
returns-then-row-eq0 g c =
    c.put_other_row.ensures
    ∙ ap (λ (x : List ℕ). g.P.Printer.text c.args.out.now ++ x)
    (zero_is_first (row_data c.in-Some.row.now) (map row_data c.args.rows.now) (map row_data c.in-Some.later.now) (ap (map row_data) c.in-Some.ensures.cases.0) c.if-row-eq0.true)

pub returns-else-row-eq0 : goal.returns-else-row-eq0
returns-else-row-eq0 g c =
    let t : List ℕ = g.P.Printer.text c.args.out.now in
    sym (append-nil t)
    ∙ ap (λ (x : List ℕ). t ++ x) (sym (zero_is_not_first (row_data c.in-Some.row.now) (map row_data c.args.rows.now) (map row_data c.in-Some.later.now) (ap (map row_data) c.in-Some.ensures.cases.0) c.if-row-eq0.false))
