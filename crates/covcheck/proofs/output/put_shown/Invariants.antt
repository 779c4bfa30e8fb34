use Rattle.std.proofs.Common.{◌≡◌, ◌++◌, map, take}
use Rattle.covcheck.specs.SummaryLine.{shown}
use Rattle.covcheck.proofs.output.put_shown.Given as goal

abbrev pub invariant-loop-byte : goal.invariant-loop-byte
invariant-loop-byte g l = l.line.items ≡ l.initial.line.items ++ map shown (take l.byte-index l.text)
