use Rattle.std.proofs.Common.{subst}
use Rattle.covdata.specs.Records.{Skip}
use Rattle.covlcov2.specs.Spells.{Lcov2Data, Lcov2Spells, Plain}
use Rattle.covcheck.proofs.format.says_nothing_in_lcov2.Goals as goal

pub returns-in-Ok : goal.returns-in-Ok
returns-in-Ok c = (
  λ is. subst (λ (says : Lcov2Data). Lcov2Spells c.args.line.now says) (c.is_plain_skip.ensures.0 is) c.in-Ok.ensures.ok,
  λ spells. c.is_plain_skip.ensures.1 (c.in-Ok.ensures.only (Plain Skip) spells),
)

pub returns-in-Err : goal.returns-in-Err
returns-in-Err c = (λ e. absurd cc, λ spells. absurd (c.in-Err.ensures.only (Plain Skip) spells))
