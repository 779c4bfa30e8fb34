use Rattle.covreport.proofs.Sets.{set_takes, set_takes_none}
use Rattle.covreport.proofs.laws.a_set_takes_its_bytes.Goals as goal

pub returns : goal.returns
returns c = record { set = set_takes; none = set_takes_none }
