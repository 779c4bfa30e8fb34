use Rattle.std.specs.Prelude.{◌≡◌, ◌++◌, map, take}
use Rattle.std.specs.List.{flat_map}
use Rattle.covbook.specs.EntryView.{entry_data}
use Rattle.covbook.specs.Op.{EntryData}
use Rattle.covsession.specs.Session.{clash_text}
use Rattle.covrun.specs.Naming.{told_lines}
use Rattle.covrun.proofs.collecting.add_clashes.Given as goal

-- the lines of the clashes among the answers so far are appended
abbrev pub invariant-loop-answered : goal.invariant-loop-answered
invariant-loop-answered l = l.lines ≡ l.initial.lines ++ flat_map (λ (e : EntryData). told_lines l.naming (clash_text e.answer)) (map (λ k. entry_data (record k.entry.value { answer = k.answer })) (take l.answered-index l.answers))
