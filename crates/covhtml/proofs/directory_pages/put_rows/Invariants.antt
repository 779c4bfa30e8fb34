use Rattle.std.proofs.Common.{◌≡◌, ◌++◌, drop, map}
use Rattle.std.specs.List.{flat_map}
use Rattle.covhtml.specs.DirectoryPages.{directory_row}
use Rattle.covhtml.specs.PagesView.{indexed_directory_data}
use Rattle.covhtml.proofs.directory_pages.put_rows.Given as goal

abbrev pub invariant-loop-directory : goal.invariant-loop-directory
invariant-loop-directory g l =
    g.P.Printer.text l.out ++ flat_map directory_row (map indexed_directory_data (drop l.directory-index l.directories)) ≡ g.P.Printer.text l.fn.out ++ flat_map directory_row (map indexed_directory_data l.directories)
