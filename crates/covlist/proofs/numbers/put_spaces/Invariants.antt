use Rattle.std.proofs.Common.{◌≡◌, ◌++◌, replicate}
use Rattle.covlist.proofs.numbers.put_spaces.Given as goal

abbrev pub invariant-loop-space : goal.invariant-loop-space
invariant-loop-space g l = l.text ≡ l.fn.text ++ replicate l._space 32
