use Rattle.std.specs.Prelude.{◌≡◌, drop, map, not}
use Rattle.std.specs.List.{list_all}
use Rattle.covbook.specs.EntryView.{entry_data}
use Rattle.covbook.specs.Op.{EntryData}
use Rattle.covcombine.specs.Combine.{is_clash}
use Rattle.covcombine.proofs.ending.have_no_clash.Given as goal

-- no answer so far is a clash, so the further answers decide the result
abbrev pub invariant-loop-answered : goal.invariant-loop-answered
invariant-loop-answered l =
    list_all (λ (e : EntryData). not (is_clash e.answer)) (map (λ k. entry_data (record k.entry.value { answer = k.answer })) (drop l.answered-index l.answers))
    ≡ list_all (λ (e : EntryData). not (is_clash e.answer)) (map (λ k. entry_data (record k.entry.value { answer = k.answer })) l.answers)
