use Rattle.std.proofs.Common.{◌≡◌, ◌++◌, drop, map}
use Rattle.std.specs.String.{string_bytes}
use Rattle.covcommand.specs.Spelling.{spelled_from, spelled_out}
use Rattle.covcommand.proofs.spelling.spelled_out.Given as goal

abbrev pub invariant-loop-word : goal.invariant-loop-word
invariant-loop-word l =
    map string_bytes l.spelled.items ++ spelled_from l.are_names (map string_bytes (drop l.word-index l.words)) ≡ spelled_out (map string_bytes l.words)
