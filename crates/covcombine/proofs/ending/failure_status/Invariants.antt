use Rattle.std.specs.Prelude.{◌≡◌, [], map, take}
use Rattle.covbook.specs.EntryView.{entry_data}
use Rattle.covcombine.specs.Combine.{failure_status}
use Rattle.covcombine.proofs.ending.failure_status.Given as goal

-- the least status for the files so far
abbrev pub invariant-loop-note : goal.invariant-loop-note
invariant-loop-note l = l.status ≡ failure_status [] (take l.note-index l.notes)

-- the least status for all files, and for the answers so far
abbrev pub invariant-loop-answered : goal.invariant-loop-answered
invariant-loop-answered l = l.status ≡ failure_status (map (λ k. entry_data (record k.entry.value { answer = k.answer })) (take l.answered-index l.answers)) l.notes
