use Rattle.std.specs.Prelude.{◌≡◌, drop}
use Rattle.covcombine.specs.Combine.{is_used}
use Rattle.covcombine.proofs.ending.is_used.Given as goal

-- no file so far has the rule, so the further files decide the result
abbrev pub invariant-loop-note : goal.invariant-loop-note
invariant-loop-note l = is_used (drop l.note-index l.notes) l.rule ≡ is_used l.notes l.rule
