use Rattle.std.proofs.Common.{◌≡◌, ℕ, suc, ◌+◌, ◌-◌, ◌/◌, ◌<◌, map, sym, ◌∙◌, subst, arith}
use Rattle.covbook.specs.Gather.{places_in}
use Rattle.covbook.specs.GatherSteps.{below}
use Rattle.covbook.specs.LogView.{log_data}
use Rattle.covbook.proofs.PlaceCounts.{all_told, below_most, below_none, less_from, not_told}
use Rattle.covbook.proofs.places.least_missing.Goals as goal

pub returns-then-receipts_below-count : goal.returns-then-receipts_below-count
returns-then-receipts_below-count g c = λ p lt.
    all_told (places_in (map (log_data {A = g.row.A.Denot}) c.args.logs.now)) c.requires.once c.args.count (sym c.receipts_below.ensures ∙ c.if-receipts_below-count.true) p lt

pub loop-told-init : goal.loop-told-init
loop-told-init g c =
    let all = places_in (map (log_data {A = g.row.A.Denot}) c.args.logs.now) in
    let fewer : below c.args.count all < c.args.count =
    less_from (below c.args.count all) c.args.count (below_most all c.requires.once c.args.count) (λ full. c.if-receipts_below-count.false (c.receipts_below.ensures ∙ full)) in
    (omega (arith, fewer), omega arith, below_none all, fewer)

pub loop-told-preserved : goal.loop-told-preserved
loop-told-preserved g c =
    let all = places_in (map (log_data {A = g.row.A.Denot}) c.args.logs.now) in
    let l = c.loop-told in
    let middle : ℕ = l.told + (l.beyond - l.told) / 2 in
    let fewer : below middle all < middle =
    less_from (below middle all) middle (below_most all c.requires.once middle) (λ full. c.if-receipts_below-middle.false (c.receipts_below-in-loop-told.ensures ∙ full)) in
    (omega (arith, c.loop-told-test.true), omega (arith, c.loop-told-test.true, l.invariant.1), l.invariant.2, fewer)

-- the two numbers are next to each other
pub returns : goal.returns
returns g c =
    let all = places_in (map (log_data {A = g.row.A.Denot}) c.args.logs.now) in
    let l = c.loop-told in
    let next : l.beyond ≡ suc l.told = omega (arith, c.loop-told-test.false, l.invariant.0) in
    let fewer : below (suc l.told) all < suc l.told = subst (λ (n : ℕ). below n all < n) next l.invariant.3 in
    (omega (arith, l.invariant.0, l.invariant.1), not_told all l.told l.invariant.2 fewer, λ p lt. all_told all c.requires.once l.told l.invariant.2 p lt)
