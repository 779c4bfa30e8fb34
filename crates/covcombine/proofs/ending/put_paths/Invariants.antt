use Rattle.std.specs.Prelude.{◌≡◌, ◌++◌, drop}
use Rattle.covcombine.specs.Combine.{unused_from}
use Rattle.covcombine.proofs.ending.put_paths.Given as goal

-- with the lines about the further rules, the lines are those about all rules
abbrev pub invariant-loop-place : goal.invariant-loop-place
invariant-loop-place l = record {
  lines : l.lines ++ unused_from l.front l.notes l.place (drop l.place l.rules) ≡ l.initial.lines ++ unused_from l.front l.notes 0 l.rules;
}
