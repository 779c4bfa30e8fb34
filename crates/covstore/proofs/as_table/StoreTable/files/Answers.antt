use Rattle.std.proofs.Common.{◌≡◌, List, IfOk, map, subst}
use Rattle.covtable.specs.Files.{FileTotalsData}
use Rattle.covtable.specs.ValuesView.{file_totals_data}
use Rattle.covstore.proofs.as_table.StoreTable.files.Goals as goal

pub returns-clause-files : goal.returns-clause-files
returns-clause-files g c =
    subst (λ (files : List FileTotalsData). IfOk c.list_files.result (λ list. map file_totals_data list.items ≡ files)) c.files.ensures c.list_files.ensures.files
