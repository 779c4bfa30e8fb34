use Rattle.covpaths.proofs.Meets.{items_apart}
use Rattle.covpaths.proofs.laws.files_apart_stay_apart.Goals as goal

pub returns : goal.returns
returns c = items_apart
