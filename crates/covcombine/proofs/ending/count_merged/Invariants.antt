use Rattle.std.specs.Prelude.{◌≡◌, ◌≤◌, take}
use Rattle.covcombine.specs.Combine.{merged_in}
use Rattle.covcombine.proofs.ending.count_merged.Given as goal

-- the merged files so far are counted
abbrev pub invariant-loop-note : goal.invariant-loop-note
invariant-loop-note l = (l.merged ≡ merged_in (take l.note-index l.notes)) × (l.merged ≤ l.note-index)
