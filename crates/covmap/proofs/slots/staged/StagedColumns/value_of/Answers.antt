use Rattle.std.proofs.Common.{◌∙◌, ap, map, None, Some}
use Rattle.std.specs.Prelude.{slice_get}
use Rattle.covmap.proofs.SlotSearch.{item_at}
use Rattle.covmap.proofs.StagedTouch.{seen_item}
use Rattle.covmap.proofs.StagedReads.{value_read, none_read}
use Rattle.covmap.proofs.slots.staged.StagedColumns.value_of.Goals as goal

pub returns-in-Some-get : goal.returns-in-Some-get
returns-in-Some-get g c column e =
    let view = ap (map (λ column. (column.0, column.1.items))) c.deref.ensures.value ∙ c.self.view_is in
    let here = seen_item (λ column. (column.0, column.1.items)) c.deref.result.now c.args.self.now c.args.index (Some c.in-Some.column) view c.in-Some.ensures.lookup in
    c.copy_of.ensures
    ∙ value_read c.args.self.now c.args.index c.args.at (c.in-Some.column.now.0, c.in-Some.column.now.1.items) (Some c.in-Some-get.value.now) c.deref-in-Some.result.now here c.deref-in-Some.ensures.value
    (item_at c.deref-in-Some.result.now c.args.at (Some c.in-Some-get.value) c.in-Some-get.ensures.lookup) column e

pub returns-in-None-get : goal.returns-in-None-get
returns-in-None-get g c column e =
    let view = ap (map (λ column. (column.0, column.1.items))) c.deref.ensures.value ∙ c.self.view_is in
    let here = seen_item (λ column. (column.0, column.1.items)) c.deref.result.now c.args.self.now c.args.index (Some c.in-Some.column) view c.in-Some.ensures.lookup in
    value_read c.args.self.now c.args.index c.args.at (c.in-Some.column.now.0, c.in-Some.column.now.1.items) None c.deref-in-Some.result.now here c.deref-in-Some.ensures.value
    (item_at c.deref-in-Some.result.now c.args.at None c.in-None-get.ensures.lookup) column e

pub returns-in-None : goal.returns-in-None
returns-in-None g c column e =
    let view = ap (map (λ column. (column.0, column.1.items))) c.deref.ensures.value ∙ c.self.view_is in
    none_read (slice_get c.args.self.now c.args.index) column (seen_item (λ column. (column.0, column.1.items)) c.deref.result.now c.args.self.now c.args.index None view c.in-None.ensures.lookup) e
