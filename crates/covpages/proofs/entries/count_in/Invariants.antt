use Rattle.std.proofs.Common.{◌≡◌, ◌+◌, drop, map}
use Rattle.covhtml.specs.PagesView.{indexed_file_data}
use Rattle.covpages.specs.Directories.{count_in}
use Rattle.covpages.proofs.entries.count_in.Given as goal

abbrev pub invariant-loop-place : goal.invariant-loop-place
invariant-loop-place l =
    l.place + count_in l.directory (map indexed_file_data (drop l.place l.files)) ≡ count_in l.directory (map indexed_file_data l.files)
