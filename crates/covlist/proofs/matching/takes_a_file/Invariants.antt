use Rattle.std.specs.Prelude.{◌≡◌, drop, map}
use Rattle.covtable.specs.ValuesView.{file_totals_data}
use Rattle.covreport.specs.ChoiceView.{choice_data}
use Rattle.covlist.specs.Chosen.{chooses_any}
use Rattle.covlist.proofs.matching.takes_a_file.Given as goal

-- none of the files so far is chosen, so the further files decide the result
abbrev pub invariant-loop-file : goal.invariant-loop-file
invariant-loop-file g l = chooses_any (choice_data l.choice) (map file_totals_data (drop l.file-index l.files)) ≡ chooses_any (choice_data l.choice) (map file_totals_data l.files)
