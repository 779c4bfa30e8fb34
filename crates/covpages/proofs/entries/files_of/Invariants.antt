use Rattle.std.proofs.Common.{◌≡◌, map, take}
use Rattle.covhtml.specs.PagesView.{indexed_file_data}
use Rattle.covpages.specs.View.{entry_data}
use Rattle.covpages.proofs.entries.files_of.Given as goal

abbrev pub invariant-loop-entry : goal.invariant-loop-entry
invariant-loop-entry l = map indexed_file_data l.files.items ≡ map entry_data (take l.entry-index l.entries)
