use Rattle.std.proofs.Common.{◌≡◌, ◌++◌, map}
use Rattle.covtable.specs.Totals.{own_sections}
use Rattle.covhtml.specs.PointsView.{section_data}
use Rattle.covstore.proofs.as_table.StorePointsTable.sections_of.Given as goal

abbrev pub invariant-loop-section : goal.invariant-loop-section
invariant-loop-section g l = map section_data l.sections.items ++ l.section-iterator ≡ own_sections l.file l.self.sections
