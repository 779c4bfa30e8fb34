use Rattle.covtable.specs.Content.{content_of}
use Rattle.covtable.proofs.TotalsDifferent.{are_totals}
use Rattle.covtable.proofs.laws.no_more_are_hit_than_found.Goals as goal

pub returns-clause-sections : goal.returns-clause-sections
returns-clause-sections c = are_totals

pub returns-clause-rows : goal.returns-clause-rows
returns-clause-rows c = λ rows. are_totals (content_of rows)
