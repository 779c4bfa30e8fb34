use Rattle.std.proofs.Common.{◌≡◌, ◌++◌, map}
use Rattle.std.specs.List.{flat_map}
use Rattle.covtable.specs.ValuesView.{file_totals_data}
use Rattle.covreport.specs.ChoiceView.{choice_data}
use Rattle.covlist.specs.Chosen.{chosen_among, chosen_files}
use Rattle.covlist.specs.Table.{file_row}
use Rattle.covlist.proofs.Files.{AreAllTotals}
use Rattle.covlist.proofs.table.put_rows.Given as goal

abbrev pub invariant-loop-file : goal.invariant-loop-file
invariant-loop-file g l =
    let choice = choice_data l.choice in
    let left = map file_totals_data l.file-iterator.rest.items in
    record {
      written : l.text ++ flat_map (file_row l.all) (chosen_among choice left) ≡ l.fn.text ++ flat_map (file_row l.all) (chosen_files choice (g.T.Table.shown l.store).sections);
      totals : AreAllTotals left;
    }
