use Rattle.std.specs.Prelude.{◌≡◌, drop}
use Rattle.covrun.specs.Ending.{ran_out}
use Rattle.covrun.proofs.collecting.has_run_out.Given as goal

-- memory ran out for none of the inputs so far, so the further inputs decide the result
abbrev pub invariant-loop-input : goal.invariant-loop-input
invariant-loop-input l = ran_out (drop l.input-index l.refused) ≡ ran_out l.refused
