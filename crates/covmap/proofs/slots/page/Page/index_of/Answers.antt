use Rattle.std.proofs.Common.{◌+◌, ◌-◌, ◌/◌, ◌<◌, ◌∙◌, List, Option, None, ap, sym, length, get_or, arith}
use Rattle.std.specs.Ordering.{is_lt}
use Rattle.covmap.specs.Query.{query_by_order}
use Rattle.covmap.specs.Slots.{is_before}
use Rattle.covmap.proofs.Leads.{lead_le, lead_le_failed, lead_above_passed}
use Rattle.covmap.proofs.PageParts.{beside_length, beside_read}
use Rattle.covmap.proofs.SlotSearch.{slots_fall}
use Rattle.covmap.proofs.slots.page.Page.index_of.Goals as goal

pub loop-low-init : goal.loop-low-init
loop-low-init g c =
    let keys = c.self.inside.keys in
    let long = sym (beside_length keys.items c.self.inside.values.items) ∙ ap length c.self.view_is in
    let most = lead_le (is_before (λ (key : g.row.K.Denot). g.K.Key.cmp key (g.Q.Query.named c.args.query))) c.args.self.now in
    (omega arith, omega (arith, most, long, c.len-high.ensures, keys.ok.0), omega (arith, long, c.len-high.ensures, keys.ok.0))

pub index-requires : goal.index-requires
index-requires g c =
    let keys = c.self.inside.keys in
    let long = sym (beside_length keys.items c.self.inside.values.items) ∙ ap length c.self.view_is in
    omega (arith, long, keys.ok.0, c.loop-low.invariant.2)

pub loop-low-preserved-then-is_lt : goal.loop-low-preserved-then-is_lt
loop-low-preserved-then-is_lt g c =
    let order = λ (key : g.row.K.Denot). g.K.Key.cmp key (g.Q.Query.named c.args.query) in
    let keys = c.self.inside.keys.items in
    let values = c.self.inside.values.items in
    let middle = c.loop-low.low + (c.loop-low.high - c.loop-low.low) / 2 in
    let long = sym (beside_length keys values) ∙ ap length c.self.view_is in
    let there : middle < length c.args.self.now = omega (arith, c.loop-low.invariant.2) in
    let key = c.index.result.now in
    let read = ap (λ (slots : List (g.row.K.Denot × Option g.row.V.Denot)). (get_or slots middle (key, None)).0) (sym c.self.view_is) ∙ beside_read keys values middle (key, None) (omega (arith, there, long)) ∙ sym c.index.ensures in
    let passed = ap (λ key. is_lt (order key)) read ∙ sym (c.is_lt.ensures ∙ ap is_lt c.compare.ensures) ∙ c.if-is_lt.true in
    let above = lead_above_passed (is_before order) c.args.self.now middle (key, None) (slots_fall (query_by_order g.K.Key.total (g.Q.Query.named c.args.query)) c.args.self.now c.requires) there passed in
    (omega (arith, above), c.loop-low.invariant.1, c.loop-low.invariant.2)

pub loop-low-preserved : goal.loop-low-preserved
loop-low-preserved g c =
    let order = λ (key : g.row.K.Denot). g.K.Key.cmp key (g.Q.Query.named c.args.query) in
    let keys = c.self.inside.keys.items in
    let values = c.self.inside.values.items in
    let middle = c.loop-low.low + (c.loop-low.high - c.loop-low.low) / 2 in
    let long = sym (beside_length keys values) ∙ ap length c.self.view_is in
    let there : middle < length c.args.self.now = omega (arith, c.loop-low.invariant.2) in
    let key = c.index.result.now in
    let read = ap (λ (slots : List (g.row.K.Denot × Option g.row.V.Denot)). (get_or slots middle (key, None)).0) (sym c.self.view_is) ∙ beside_read keys values middle (key, None) (omega (arith, there, long)) ∙ sym c.index.ensures in
    let failed = ap (λ key. is_lt (order key)) read ∙ sym (c.is_lt.ensures ∙ ap is_lt c.compare.ensures) ∙ c.if-is_lt.false in
    (c.loop-low.invariant.0, lead_le_failed (is_before order) c.args.self.now middle (key, None) there failed, omega (arith, there))
