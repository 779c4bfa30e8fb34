use Rattle.std.specs.Prelude.{◌≡◌, ◌++◌, map, take}
use Rattle.covbook.specs.EntryView.{entry_data}
use Rattle.covcombine.specs.Combine.{clash_lines}
use Rattle.covcombine.proofs.ending.put_clashes.Given as goal

-- the lines about the clashes among the answers so far are appended
abbrev pub invariant-loop-answered : goal.invariant-loop-answered
invariant-loop-answered l = l.lines ≡ l.initial.lines ++ clash_lines (map (λ k. entry_data (record k.entry.value { answer = k.answer })) (take l.answered-index l.answers))
