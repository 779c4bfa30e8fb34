use Rattle.std.proofs.Common.{◌≡◌, ◌++◌, drop, map}
use Rattle.std.specs.List.{flat_map}
use Rattle.covhtml.specs.IndexPage.{directory_part}
use Rattle.covhtml.specs.PagesView.{directory_data}
use Rattle.covhtml.proofs.index_page.put_directories.Given as goal

abbrev pub invariant-loop-directory : goal.invariant-loop-directory
invariant-loop-directory g l =
    g.P.Printer.text l.out ++ flat_map directory_part (map directory_data (drop l.directory-index l.directories)) ≡ g.P.Printer.text l.fn.out ++ flat_map directory_part (map directory_data l.directories)
