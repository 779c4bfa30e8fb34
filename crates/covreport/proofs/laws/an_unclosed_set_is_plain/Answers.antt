use Rattle.covreport.proofs.Sets.{unclosed_set, unclosed_none}
use Rattle.covreport.proofs.laws.an_unclosed_set_is_plain.Goals as goal

pub returns-clause-set : goal.returns-clause-set
returns-clause-set c = unclosed_set

pub returns-clause-none : goal.returns-clause-none
returns-clause-none c = unclosed_none
