use Rattle.std.proofs.Common.{◌≡◌, map, take}
use Rattle.covhtml.specs.PagesView.{indexed_directory_data}
use Rattle.covpages.specs.View.{linked_data}
use Rattle.covpages.proofs.entries.indexed_directories.Given as goal

abbrev pub invariant-loop-directory : goal.invariant-loop-directory
invariant-loop-directory l = map indexed_directory_data l.directories.items ≡ map linked_data (take l.directory-index l.linked)
