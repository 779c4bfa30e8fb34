use Rattle.covlist.proofs.Apart.{told_apart}
use Rattle.covlist.proofs.laws.different_names_are_shown_differently.Goals as goal

pub returns : goal.returns
returns c = told_apart
