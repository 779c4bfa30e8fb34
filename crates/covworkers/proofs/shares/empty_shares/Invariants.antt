use Rattle.std.specs.Prelude.{◌≡◌, [], map, replicate}
use Rattle.covworkers.proofs.shares.empty_shares.Given as goal

-- there is an empty share for each job so far
abbrev pub invariant-loop : goal.invariant-loop
invariant-loop g l = map (λ share. share.items) l.shares.items ≡ replicate l.counter []
