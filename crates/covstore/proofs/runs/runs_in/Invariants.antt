use Rattle.covstore.proofs.Words.{◌≡◌, ◌++◌, List, ItemData, runs_of}
use Rattle.covstore.specs.RunsView.{runs_seen}
use Rattle.covstore.proofs.runs.runs_in.Given as goal

-- the runs are those of the items in front of those that are left
abbrev pub invariant-loop-item : goal.invariant-loop-item
invariant-loop-item g l = (taken : List ItemData) × (runs_seen l.runs ≡ runs_of taken) × (taken ++ l.item-iterator ≡ l.items)
