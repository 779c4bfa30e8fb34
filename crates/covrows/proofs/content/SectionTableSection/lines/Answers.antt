use Rattle.std.proofs.Common.{length, map, ap, arith}
use Rattle.std.specs.Ordering.{nat_cmp}
use Rattle.std.proofs.lemmas.List.{length-map}
use Rattle.covdata.specs.Points.{line_points}
use Rattle.covtable.specs.Content.{line_at}
use Rattle.covtable.specs.Value.{items_at}
use Rattle.covtable.proofs.Contents.{points_few}
use Rattle.covrows.specs.Data.{key_data, row_data}
use Rattle.covrows.proofs.Least.{left_whole}
use Rattle.covrows.proofs.content.SectionTableSection.lines.Goals as goal

pub returns-clause-value : goal.returns-clause-value
returns-clause-value g c =
    let items = items_at (key_data c.args.self.now.key) (map row_data c.args.self.now.rows.now) in
    ap (map (line_at items)) (left_whole nat_cmp (line_points items))

pub returns-clause-few : goal.returns-clause-few
returns-clause-few g c =
    let rows = map row_data c.args.self.now.rows.now in
    let items = items_at (key_data c.args.self.now.key) rows in
    let whole = ap (λ points. length (map (line_at items) points)) (left_whole nat_cmp (line_points items)) in
    omega (arith, whole, (points_few rows (key_data c.args.self.now.key)).2, length-map c.args.self.now.rows.now row_data, c.args.self.now.few)
