use Rattle.std.proofs.Common.{◌≡◌, ◌<◌, IsTrue, length, map, arith, ◌∙◌, sym}
use Rattle.std.proofs.lemmas.Bool.{false≢true}
use Rattle.covdata.specs.SectView.{sect_data}
use Rattle.covdata.proofs.Alike.{alike_more, alike_at}
use Rattle.covdata.proofs.sect.Sects.is_same.Goals as goal

pub loop-index-preserved : goal.loop-index-preserved
loop-index-preserved g c =
    let within : c.loop-index.index < length c.get-others.result.now = omega (arith, c.loop-index-test.true, c.if-sects-others.false) in
    alike_more (sect_data {A = g.row.A.Denot}) c.get-sects.result.now c.get-others.result.now c.loop-index.index c.index-sects-index.result c.index-others-index.result
    c.loop-index-test.true c.index-sects-index.is within c.index-others-index.is c.loop-index.invariant (c.is_same.ensures.0 c.if-not-is_same.false)

-- lists that differ at a place aren't equal
pub returns-then-not-is_same : goal.returns-then-not-is_same
returns-then-not-is_same g c =
    let within : c.loop-index.index < length c.get-others.result.now = omega (arith, c.loop-index-test.true, c.if-sects-others.false) in
    let f = sect_data {A = g.row.A.Denot} in (
      (λ wrong. absurd (false≢true wrong)),
      λ same.
          let both : map f c.get-sects.result.now ≡ map f c.get-others.result.now = c.get-sects.ensures ∙ same ∙ sym c.get-others.ensures in
          let yes : IsTrue c.is_same.result = c.is_same.ensures.1 (alike_at f c.get-sects.result.now c.get-others.result.now c.loop-index.index c.index-sects-index.result c.index-others-index.result c.loop-index-test.true c.index-sects-index.is within c.index-others-index.is both) in
          sym c.if-not-is_same.true ∙ yes,
    )
