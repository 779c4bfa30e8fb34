use Rattle.covtable.specs.ValuesView.{line_data}
use Rattle.covtable.proofs.Walks.{in_turn}
use Rattle.covstore.proofs.as_table.SectionTableSection.lines.Goals as goal

pub returns-clause-steps : goal.returns-clause-steps
returns-clause-steps g c = in_turn line_data (λ left. left)
