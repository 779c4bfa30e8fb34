use Rattle.std.proofs.Common.{◌≡◌}
use Rattle.covmap.specs.Staged.{number_after}
use Rattle.covmap.proofs.StagedGrowth.{changed_front}
use Rattle.covmap.proofs.slots.staged.renumber.Given as goal

-- the columns so far have moved
abbrev pub invariant-loop-index : goal.invariant-loop-index
invariant-loop-index g l = l.columns ≡ changed_front (λ column. (number_after l.page column.0, column.1)) l.index l.fn.columns
