use Rattle.std.proofs.Common.{◌≡◌, ◌≤◌, ◌∙◌, map, length, ap, arith}
use Rattle.std.proofs.lemmas.Bool.{false≢true}
use Rattle.std.proofs.lemmas.List.{length-map, take_all}
use Rattle.covdata.specs.Row.{item_data, items_in}
use Rattle.covdata.specs.SectView.{sect_data}
use Rattle.covdata.specs.Lawful.{AllFit}
use Rattle.covdata.proofs.SectLaws.{IsAt, items_more, items_within, All-one_more, All-taken}
use Rattle.covdata.proofs.checks.count_items.Goals as goal

pub returns-then-more-items-clause-count : goal.returns-then-more-items-clause-count
returns-then-more-items-clause-count g c =
    let here : IsAt c.args.sects.now c.loop-sect.sect-index c.sect-item.result = record { within = c.loop-sect-test.true; is = c.sect-item.is } in
    let more : length c.get.result.now ≡ length c.sect-item.result.items = omega (arith, length-map c.get.result.now item_data, ap length c.get.ensures.items) in
    omega (arith, items_within c.args.sects.now c.loop-sect.sect-index c.sect-item.result here)

pub loop-sect-preserved : goal.loop-sect-preserved
loop-sect-preserved g c =
    let here : IsAt c.args.sects.now c.loop-sect.sect-index c.sect-item.result = record { within = c.loop-sect-test.true; is = c.sect-item.is } in
    let more : length c.get.result.now ≡ length c.sect-item.result.items = omega (arith, length-map c.get.result.now item_data, ap length c.get.ensures.items) in
    record {
      counted = omega (arith, items_more c.args.sects.now c.loop-sect.sect-index c.sect-item.result here);
      few = omega arith;
      fit = All-one_more (λ s. AllFit s.items) c.args.sects.now c.loop-sect.sect-index c.sect-item.result here c.loop-sect.invariant.fit c.get.ensures.fit;
    }

pub returns-clause-fit : goal.returns-clause-fit
returns-clause-fit g c some =
    let all = map sect_data c.args.sects.now in
    let long : length all ≤ c.loop-sect.sect-index = omega (arith, length-map c.args.sects.now sect_data) in
    All-taken (λ s. AllFit s.items) all c.loop-sect.sect-index long c.loop-sect.invariant.fit

pub returns-then-more-items-clause-fit : goal.returns-then-more-items-clause-fit
returns-then-more-items-clause-fit g c some = absurd (false≢true some)

pub returns-clause-count : goal.returns-clause-count
returns-clause-count g c =
    let all = map sect_data c.args.sects.now in
    let long : length all ≤ c.loop-sect.sect-index = omega (arith, length-map c.args.sects.now sect_data) in
    (c.loop-sect.invariant.counted ∙ ap items_in (take_all c.loop-sect.sect-index all long), c.loop-sect.invariant.few)
