use Rattle.std.proofs.Common.{◌∙◌, ap, map, None, Some}
use Rattle.std.specs.Prelude.{option_map, slice_get}
use Rattle.covmap.proofs.StagedTouch.{seen_item, tells_number, tells_none}
use Rattle.covmap.proofs.slots.staged.StagedColumns.has.Goals as goal

pub returns-in-Some-clause-there : goal.returns-in-Some-clause-there
returns-in-Some-clause-there g c =
    let view = ap (map (λ column. (column.0, column.1.items))) c.deref.ensures.value ∙ c.self.view_is in
    tells_number c.in-Some.column.now.0 c.args.page (option_map (λ column. column.0) (slice_get c.args.self.now c.args.index))
    (ap (option_map (λ column. column.0)) (seen_item (λ column. (column.0, column.1.items)) c.deref.result.now c.args.self.now c.args.index (Some c.in-Some.column) view c.in-Some.ensures.lookup))

pub returns-in-None-clause-there : goal.returns-in-None-clause-there
returns-in-None-clause-there g c =
    let view = ap (map (λ column. (column.0, column.1.items))) c.deref.ensures.value ∙ c.self.view_is in
    tells_none c.args.page (option_map (λ column. column.0) (slice_get c.args.self.now c.args.index))
    (ap (option_map (λ column. column.0)) (seen_item (λ column. (column.0, column.1.items)) c.deref.result.now c.args.self.now c.args.index None view c.in-None.ensures.lookup))
