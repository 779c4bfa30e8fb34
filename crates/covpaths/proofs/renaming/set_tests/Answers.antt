use Rattle.std.proofs.Common.{◌≡◌, List, ℕ, suc, ◌+◌, length, ap, ◌∙◌, arith}
use Rattle.covdata.specs.Row.{SectData}
use Rattle.covpacked.specs.NewNames.{test_set}
use Rattle.covpaths.proofs.Partly.{partly, partly_all, partly_length, tested_next}
use Rattle.covpaths.specs.Steps.{tested_sect}
use Rattle.covpaths.proofs.renaming.set_tests.Goals as goal

pub set_test-requires : goal.set_test-requires
set_test-requires c =
    let same = ap (λ (sects : List SectData). length sects) c.loop-index.invariant ∙ partly_length (tested_sect c.args.test.now) c.loop-index.index c.args.sects.now.sects in
    omega (arith, same)

pub loop-index-preserved : goal.loop-index-preserved
loop-index-preserved c =
    let more : suc c.loop-index.index ≡ c.loop-index.index + 1 = omega arith in
    c.in_ok-set_test.ensures.sects
    ∙ ap (λ (sects : List SectData). test_set c.loop-index.index c.args.test.now sects) c.loop-index.invariant
    ∙ tested_next c.args.test.now c.loop-index.index c.args.sects.now.sects (omega arith)
    ∙ ap (λ (n : ℕ). partly (tested_sect c.args.test.now) n c.args.sects.now.sects) more

pub returns : goal.returns
returns c =
    let all : c.loop-index.index ≡ length c.args.sects.now.sects = omega arith in
    c.loop-index.invariant
    ∙ ap (λ (n : ℕ). partly (tested_sect c.args.test.now) n c.args.sects.now.sects) all
    ∙ partly_all (tested_sect c.args.test.now) c.args.sects.now.sects
