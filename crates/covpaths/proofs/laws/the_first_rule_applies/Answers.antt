use Rattle.covpaths.proofs.Related.{related}
use Rattle.covpaths.proofs.laws.the_first_rule_applies.Goals as goal

pub returns : goal.returns
returns c = related
