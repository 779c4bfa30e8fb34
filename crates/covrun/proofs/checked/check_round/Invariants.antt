use Rattle.std.specs.Prelude.{Ok, map, take}
use Rattle.std.specs.String.{string_bytes}
use Rattle.covrun.specs.Checked.{TellsEach}
use Rattle.covworld.specs.Folder.{folder_data}
use Rattle.covrun.proofs.checked.check_round.Given as goal

-- the first files of the round are reported, and `worst` is the worst of their verdicts
abbrev pub invariant-loop-report : goal.invariant-loop-report
invariant-loop-report g l =
    TellsEach (folder_data g.F.Folder g.F.File.Source l.folder) l.options.format l.options.strictness (take l.report-index (map string_bytes l.files)) (Ok l.worst)
    l.initial.sinks l.sinks
