use Rattle.covreport.specs.Pattern.{parts_of}
use Rattle.covreport.proofs.Stars.{end_found, end_fits}
use Rattle.covreport.proofs.laws.a_star_takes_any_run.Goals as goal

pub returns : goal.returns
returns c = λ rest path. (end_found (parts_of rest) path, end_fits (parts_of rest) path)
