use Rattle.covtable.specs.ValuesView.{branch_data}
use Rattle.covtable.proofs.Walks.{in_turn}
use Rattle.covstore.proofs.as_table.SectionTableSection.branches.Goals as goal

pub returns-clause-steps : goal.returns-clause-steps
returns-clause-steps g c = in_turn branch_data (λ left. left)
