use Rattle.std.specs.Prelude.{◌≡◌, drop, map}
use Rattle.covtable.specs.ValuesView.{file_totals_data}
use Rattle.covlist.specs.Chosen.{is_matched}
use Rattle.covlist.proofs.matching.matches_a_file.Given as goal

-- none of the files so far is matched, so the further files decide the result
abbrev pub invariant-loop-file : goal.invariant-loop-file
invariant-loop-file l = is_matched (map file_totals_data (drop l.file-index l.files)) l.pattern ≡ is_matched (map file_totals_data l.files) l.pattern
