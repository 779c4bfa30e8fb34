use Rattle.std.proofs.Common.{refl}
use Rattle.covstore.proofs.plan.Plan.new.Goals as goal

pub returns : goal.returns
returns c = refl
