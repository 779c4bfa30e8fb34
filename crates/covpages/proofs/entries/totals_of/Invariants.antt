use Rattle.std.proofs.Common.{◌≡◌, drop, map}
use Rattle.covhtml.specs.PagesView.{indexed_file_data}
use Rattle.covpages.specs.Directories.{totals_together}
use Rattle.covtable.specs.Totals.{AreTotals}
use Rattle.covtable.specs.TotalsExchanged.{together}
use Rattle.covpages.proofs.entries.totals_of.Given as goal

abbrev pub invariant-loop-file : goal.invariant-loop-file
invariant-loop-file l = record {
  sum : together l.totals (totals_together (map indexed_file_data (drop l.file-index l.files))) ≡ totals_together (map indexed_file_data l.files);
  bounds : AreTotals l.totals;
}
