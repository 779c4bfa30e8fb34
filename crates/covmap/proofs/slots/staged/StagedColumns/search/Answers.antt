use Rattle.std.proofs.Common.{arith, ◌≡◌, ◌+◌, ◌-◌, ◌/◌, ◌<◌, sym, ◌∙◌, ap, length}
use Rattle.std.specs.Prelude.{nat_lt}
use Rattle.covmap.proofs.Leads.{lead_le}
use Rattle.covmap.proofs.SlotSearch.{length_map}
use Rattle.covmap.proofs.StagedSearch.{index_low, index_high}
use Rattle.covmap.proofs.slots.staged.StagedColumns.search.Goals as goal

pub loop-low-init : goal.loop-low-init
loop-low-init g c =
    let columns = c.self.inside.columns in
    let same : length c.args.self.now ≡ length columns.items = ap length (sym c.self.view_is) ∙ length_map (λ column. (column.0, column.1.items)) columns.items in
    let len : c.len-high.result ≡ length columns.items = c.len-high.ensures ∙ columns.ok.0 in
    (omega arith, rw (len, ← same) (lead_le (λ column. nat_lt column.0 c.args.page) c.args.self.now), rw (len, same) (omega arith))

pub loop-low-preserved-then-index-page : goal.loop-low-preserved-then-index-page
loop-low-preserved-then-index-page g c =
    let middle = c.loop-low.low + (c.loop-low.high - c.loop-low.low) / 2 in
    let there : middle < length c.args.self.now = omega (arith, c.loop-low.invariant.2) in
    let above = index_low (λ column. (column.0, column.1.items)) c.self.inside.columns.items c.args.self.now c.args.page middle c.index.result.now c.self.view_is c.self.invariant there c.index.ensures c.if-index-page.true in
    (omega (arith, above), c.loop-low.invariant.1, c.loop-low.invariant.2)

pub loop-low-preserved : goal.loop-low-preserved
loop-low-preserved g c =
    let middle = c.loop-low.low + (c.loop-low.high - c.loop-low.low) / 2 in
    let there : middle < length c.args.self.now = omega (arith, c.loop-low.invariant.2) in
    let below = index_high (λ column. (column.0, column.1.items)) c.self.inside.columns.items c.args.self.now c.args.page middle c.index.result.now c.self.view_is there c.index.ensures c.if-index-page.false in
    (c.loop-low.invariant.0, below, omega (arith, there))
