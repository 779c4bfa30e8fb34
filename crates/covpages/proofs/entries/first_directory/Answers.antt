use Rattle.std.proofs.Common.{List, map, take, sym, subst}
use Rattle.std.proofs.lemmas.List.{take-map}
use Rattle.covhtml.specs.IndexPage.{IndexedFileData}
use Rattle.covhtml.specs.PagesView.{indexed_file_data}
use Rattle.covpages.specs.Directories.{totals_together}
use Rattle.covpages.proofs.Runs.{run_is}
use Rattle.covtable.specs.TotalsExchanged.{FitTotals}
use Rattle.covpages.proofs.entries.first_directory.Goals as goal

pub totals_of-requires : goal.totals_of-requires
totals_of-requires c =
    subst (λ (files : List IndexedFileData). FitTotals (totals_together files)) (take-map indexed_file_data c.args.count c.args.files.now) c.requires.fits

pub returns : goal.returns
returns c =
    run_is c.first_path.result.now _ c.totals_of.result (map indexed_file_data (take c.args.count c.args.files.now)) _
    c.first_path.ensures c.totals_of.ensures.sum (sym (take-map indexed_file_data c.args.count c.args.files.now))
