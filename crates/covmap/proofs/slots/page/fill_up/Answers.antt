use Rattle.std.proofs.Common.{◌≡◌, ◌+◌, ◌-◌, ◌<◌, ◌++◌, [], None, ◌∷◌, ◌∙◌, ap, length, arith}
use Rattle.std.proofs.lemmas.List.{length-append}
use Rattle.covmap.specs.Slots.{empty}
use Rattle.covmap.proofs.PageParts.{filled_more, filled_none}
use Rattle.covmap.proofs.slots.page.fill_up.Goals as goal

pub loop-column-init : goal.loop-column-init
loop-column-init g c = (filled_none c.reserve_exact.new.self.items, omega arith, omega arith)

pub loop-column-preserved : goal.loop-column-preserved
loop-column-preserved g c =
    let old = c.reserve_exact.new.self.items in
    let now = c.loop-column.column.items in
    let more = c.push.new.self.items in
    let pushed = c.in_ok-push.ensures.items in
    let long : length more ≡ length now + 1 = ap length pushed ∙ length-append now (None ∷ []) in
    let below : length now < c.args.len = omega (arith, c.loop-column-test.true, c.len-in-loop-column.ensures, c.loop-column.column.ok.0) in (
      filled_more old now more c.loop-column.invariant.0 c.loop-column.invariant.1 pushed,
      omega (arith, long, c.loop-column.invariant.1),
      omega (arith, long, below, c.loop-column.invariant.1),
    )

pub loop-column-smaller : goal.loop-column-smaller
loop-column-smaller g c =
    let long : length c.push.new.self.items ≡ length c.loop-column.column.items + 1 = ap length c.in_ok-push.ensures.items ∙ length-append c.loop-column.column.items (None ∷ []) in
    let below : length c.loop-column.column.items < c.args.len = omega (arith, c.loop-column-test.true, c.len-in-loop-column.ensures, c.loop-column.column.ok.0) in
    omega (arith, long, below)

pub returns : goal.returns
returns g c =
    let old = c.reserve_exact.new.self.items in
    let now = c.loop-column.column.items in
    let count : length now - length old ≡ c.args.len - length old = omega (arith, c.loop-column-test.false, c.len-in-loop-column.ensures, c.loop-column.column.ok.0, c.loop-column.invariant.1, c.loop-column.invariant.2) in
    c.loop-column.invariant.0 ∙ ap (λ n. old ++ empty n) count ∙ ap (λ old. old ++ empty (c.args.len - length old)) c.in_ok-reserve_exact.ensures.items
