use Rattle.std.specs.Prelude.{option_map}
use Rattle.covcombine.proofs.Cuts.{IsCut, cuts_left}
use Rattle.covcombine.proofs.file_names.push_listed.Given as goal

abbrev pub decreases-loop-rest : goal.decreases-loop-rest
decreases-loop-rest l = cuts_left (option_map (λ r. r.now) l.rest)

-- the names so far are appended
abbrev pub invariant-loop-rest : goal.invariant-loop-rest
invariant-loop-rest l = IsCut l.end l.text l.number (option_map (λ r. r.now) l.rest) l.initial.names l.names
