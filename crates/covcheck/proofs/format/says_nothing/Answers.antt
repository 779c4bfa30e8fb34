use Rattle.std.proofs.Common.{subst}
use Rattle.covdata.specs.Records.{Skip, LineData}
use Rattle.covline.specs.Spells.{Spells}
use Rattle.covcheck.proofs.format.says_nothing.Goals as goal

pub returns-in-Ok : goal.returns-in-Ok
returns-in-Ok c = (
  λ is. subst (λ (says : LineData). Spells c.args.line.now says) (c.is_skip.ensures.0 is) c.in-Ok.ensures.ok,
  λ spells. c.is_skip.ensures.1 (c.in-Ok.ensures.only Skip spells),
)

pub returns-in-Err : goal.returns-in-Err
returns-in-Err c = (λ e. absurd cc, λ spells. absurd (c.in-Err.ensures.only Skip spells))
