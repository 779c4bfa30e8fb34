use Rattle.covhtml.proofs.SafeNames.{names_safe}
use Rattle.covhtml.proofs.laws.page_names_are_safe.Goals as goal

pub returns : goal.returns
returns c = names_safe
