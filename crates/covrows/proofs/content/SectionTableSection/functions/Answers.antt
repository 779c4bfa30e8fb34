use Rattle.std.proofs.Common.{length, map, ap, arith}
use Rattle.std.specs.Cmp.Lexicographic.{slice_cmp}
use Rattle.std.specs.Ordering.{nat_cmp}
use Rattle.std.proofs.lemmas.List.{length-map}
use Rattle.covdata.specs.Points.{func_points}
use Rattle.covtable.specs.Content.{function_at}
use Rattle.covtable.specs.Value.{items_at}
use Rattle.covtable.proofs.Contents.{points_few}
use Rattle.covrows.specs.Data.{key_data, row_data}
use Rattle.covrows.proofs.Least.{left_whole}
use Rattle.covrows.proofs.content.SectionTableSection.functions.Goals as goal

pub returns-clause-value : goal.returns-clause-value
returns-clause-value g c =
    let items = items_at (key_data c.args.self.now.key) (map row_data c.args.self.now.rows.now) in
    ap (map (function_at items)) (left_whole (slice_cmp nat_cmp) (func_points items))

pub returns-clause-few : goal.returns-clause-few
returns-clause-few g c =
    let rows = map row_data c.args.self.now.rows.now in
    let items = items_at (key_data c.args.self.now.key) rows in
    let whole = ap (λ points. length (map (function_at items) points)) (left_whole (slice_cmp nat_cmp) (func_points items)) in
    omega (arith, whole, (points_few rows (key_data c.args.self.now.key)).0, length-map c.args.self.now.rows.now row_data, c.args.self.now.few)
