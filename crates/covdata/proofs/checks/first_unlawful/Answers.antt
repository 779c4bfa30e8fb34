use Rattle.std.proofs.Common.{◌≤◌, length, map, sym, ◌∙◌, arith}
use Rattle.std.proofs.lemmas.Bool.{false≢true}
use Rattle.std.proofs.lemmas.List.{length-map}
use Rattle.covdata.specs.SectView.{sect_data}
use Rattle.covdata.specs.Lawful.{IsLawfulSect}
use Rattle.covdata.proofs.SectLaws.{IsAt, All-one_more, All-all, unlawful_at}
use Rattle.covdata.proofs.checks.first_unlawful.Goals as goal

pub returns-then-not-is_lawful : goal.returns-then-not-is_lawful
returns-then-not-is_lawful g c =
    let here : IsAt c.args.sects.now c.loop-at.at c.index-sects-at.result = record { within = omega arith; is = c.index-sects-at.is } in
    unlawful_at c.args.sects.now c.loop-at.at c.index-sects-at.result here c.loop-at.invariant
    (λ lawful. false≢true (sym c.if-not-is_lawful.true ∙ c.is_lawful.ensures.1 lawful))

pub loop-at-preserved : goal.loop-at-preserved
loop-at-preserved g c =
    let here : IsAt c.args.sects.now c.loop-at.at c.index-sects-at.result = record { within = omega arith; is = c.index-sects-at.is } in
    All-one_more IsLawfulSect c.args.sects.now c.loop-at.at c.index-sects-at.result here c.loop-at.invariant
    (c.is_lawful.ensures.0 c.if-not-is_lawful.false)

pub returns : goal.returns
returns g c =
    let all = map sect_data c.args.sects.now in
    let long : length all ≤ c.loop-at.at = omega (arith, length-map c.args.sects.now sect_data) in
    All-all IsLawfulSect all c.loop-at.at long c.loop-at.invariant
