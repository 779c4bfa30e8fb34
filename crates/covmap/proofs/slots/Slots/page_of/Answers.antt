use Rattle.std.proofs.Common.{◌≡◌, [], ◌+◌, ◌-◌, ◌/◌, ◌<◌, ◌∙◌, ap, sym, length, arith}
use Rattle.covmap.specs.Query.{query_by_order}
use Rattle.covmap.specs.Slots.{ends_before, page_at}
use Rattle.covmap.proofs.Leads.{lead_le, lead_le_failed, lead_above_passed}
use Rattle.covmap.proofs.PageParts.{page_here}
use Rattle.covmap.proofs.SlotSearch.{pages_fall}
use Rattle.covmap.proofs.slots.Slots.page_of.Goals as goal

pub loop-low-init : goal.loop-low-init
loop-low-init g c =
    let same = ap length c.self.view_is in
    let most = lead_le (ends_before (λ (key : g.row.K.Denot). g.K.Key.cmp key (g.Q.Query.named c.args.query))) c.args.self.now in
    (omega arith, omega (arith, most, same, c.len-high.ensures, c.self.inside.pages.ok.0), omega (arith, same, c.len-high.ensures, c.self.inside.pages.ok.0))

pub loop-low-preserved-then-ends_before : goal.loop-low-preserved-then-ends_before
loop-low-preserved-then-ends_before g c =
    let test = ends_before (λ (key : g.row.K.Denot). g.K.Key.cmp key (g.Q.Query.named c.args.query)) in
    let middle = c.loop-low.low + (c.loop-low.high - c.loop-low.low) / 2 in
    let there : middle < length c.args.self.now = omega (arith, c.loop-low.invariant.2) in
    let read : page_at c.args.self.now middle ≡ c.index.result.now = ap (λ pages. page_at pages middle) (sym c.self.view_is) ∙ page_here c.self.inside.pages.items middle c.index.result.now (omega (arith, there, ap length c.self.view_is)) c.index.ensures in
    let passed = ap test read ∙ sym c.ends_before.ensures ∙ c.if-ends_before.true in
    let fall = pages_fall (query_by_order g.K.Key.total (g.Q.Query.named c.args.query)) _ c.self.invariant.pages_fit c.self.invariant.ascending in
    let above = lead_above_passed test c.args.self.now middle [] (rw c.self.view_is at fall) there passed in
    (omega (arith, above), c.loop-low.invariant.1, c.loop-low.invariant.2)

pub loop-low-preserved : goal.loop-low-preserved
loop-low-preserved g c =
    let test = ends_before (λ (key : g.row.K.Denot). g.K.Key.cmp key (g.Q.Query.named c.args.query)) in
    let middle = c.loop-low.low + (c.loop-low.high - c.loop-low.low) / 2 in
    let there : middle < length c.args.self.now = omega (arith, c.loop-low.invariant.2) in
    let read : page_at c.args.self.now middle ≡ c.index.result.now = ap (λ pages. page_at pages middle) (sym c.self.view_is) ∙ page_here c.self.inside.pages.items middle c.index.result.now (omega (arith, there, ap length c.self.view_is)) c.index.ensures in
    let failed = ap test read ∙ sym c.ends_before.ensures ∙ c.if-ends_before.false in
    (c.loop-low.invariant.0, lead_le_failed test c.args.self.now middle [] there failed, omega (arith, there))
