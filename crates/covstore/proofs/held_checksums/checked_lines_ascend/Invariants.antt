use Rattle.covstore.proofs.TextsAscend.{AscendWith}
use Rattle.covstore.proofs.held_checksums.checked_lines_ascend.Given as goal

abbrev pub invariant-loop-item : goal.invariant-loop-item
invariant-loop-item l = AscendWith l.items l.item-iterator l.least
