use Rattle.std.proofs.Common.{◌≡◌, ◌++◌, map}
use Rattle.covtable.specs.ValuesView.{file_totals_data}
use Rattle.covreport.specs.ChoiceView.{choice_data}
use Rattle.covlist.specs.Chosen.{chosen_among, chosen_files}
use Rattle.covlist.specs.Json.{objects}
use Rattle.covlist.proofs.Files.{objects_left}
use Rattle.covlist.proofs.json_text.put_objects.Given as goal

abbrev pub invariant-loop-file : goal.invariant-loop-file
invariant-loop-file g l =
    let choice = choice_data l.choice in
    l.text ++ objects_left l.is_first (chosen_among choice (map file_totals_data l.file-iterator.rest.items)) ≡ l.fn.text ++ objects (chosen_files choice (g.T.Table.shown l.store).sections)
