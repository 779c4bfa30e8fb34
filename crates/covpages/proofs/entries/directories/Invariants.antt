use Rattle.std.proofs.Common.{◌≡◌, ◌++◌, length, map}
use Rattle.covhtml.specs.PagesView.{directory_data, indexed_file_data}
use Rattle.covpages.specs.Directories.{runs_of, totals_together}
use Rattle.covtable.specs.TotalsExchanged.{FitTotals}
use Rattle.covpages.proofs.entries.directories.Given as goal

abbrev pub invariant-loop-rest : goal.invariant-loop-rest
invariant-loop-rest l = record {
  so_far : map directory_data l.directories.items ++ runs_of (map indexed_file_data l.rest) ≡ runs_of (map indexed_file_data l.files);
  fits : FitTotals (totals_together (map indexed_file_data l.rest));
}

abbrev pub decreases-loop-rest : goal.decreases-loop-rest
decreases-loop-rest l = length l.rest
