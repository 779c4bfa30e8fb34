use Rattle.std.proofs.Common.{◌+◌, arith, refl}
use Rattle.covstore.proofs.TextsAscend.{ascend_one}
use Rattle.covstore.proofs.held_checksums.line_after.Goals as goal

pub returns : goal.returns
returns c = ascend_one c.args.line c.args.least (c.args.line + 1) (omega (arith, c.if-line-least.false)) refl
