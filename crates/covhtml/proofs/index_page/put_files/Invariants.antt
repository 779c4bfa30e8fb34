use Rattle.std.proofs.Common.{◌≡◌, ◌++◌, drop, map}
use Rattle.std.specs.List.{flat_map}
use Rattle.covhtml.specs.IndexPage.{file_row}
use Rattle.covhtml.specs.PagesView.{indexed_file_data}
use Rattle.covhtml.proofs.index_page.put_files.Given as goal

abbrev pub invariant-loop-file : goal.invariant-loop-file
invariant-loop-file g l =
    g.P.Printer.text l.out ++ flat_map file_row (map indexed_file_data (drop l.file-index l.files)) ≡ g.P.Printer.text l.fn.out ++ flat_map file_row (map indexed_file_data l.files)
