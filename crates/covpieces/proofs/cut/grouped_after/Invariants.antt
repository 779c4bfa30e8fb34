use Rattle.std.proofs.Common.{◌≡◌, length}
use Rattle.covline.specs.Lines.{lines_of}
use Rattle.covpieces.specs.LastLines.{HasWholeLines}
use Rattle.covpieces.specs.Sections.{grouped_after}
use Rattle.covpieces.proofs.cut.grouped_after.Given as goal

abbrev pub invariant-loop-rest : goal.invariant-loop-rest
invariant-loop-rest l = record {
  whole : HasWholeLines l.rest;
  same : grouped_after l.is_grouped (lines_of l.text) ≡ grouped_after l.is_grouped (lines_of l.rest);
}

abbrev pub decreases-loop-rest : goal.decreases-loop-rest
decreases-loop-rest l = length l.rest
