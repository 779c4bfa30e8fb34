use Rattle.covpaths.proofs.Meets.{rows_joined}
use Rattle.covpaths.proofs.NewRows.{rows_named}
use Rattle.covpaths.proofs.laws.rows_get_new_names.Goals as goal

pub returns-clause-one : goal.returns-clause-one
returns-clause-one c = λ names s. rows_named names s.sects

pub returns-clause-joined : goal.returns-clause-joined
returns-clause-joined c = rows_joined
