use Rattle.std.proofs.Common.{arith}
use Rattle.covworld.proofs.PrintedSteps.{writes_no_more, writes_part}
use Rattle.covworld.proofs.block_printer.write_on.Goals as goal

pub returns-then-had_failed-clause-written : goal.returns-then-had_failed-clause-written
returns-then-had_failed-clause-written g c = writes_no_more c.args.had_failed c.args.bytes.now _ c.if-had_failed.true

pub returns-in-Err-clause-written : goal.returns-in-Err-clause-written
returns-in-Err-clause-written g c = writes_part c.args.had_failed c.args.bytes.now _ _ c.if-had_failed.false c.in-Err.ensures.begun (omega (arith, c.in-Err.ensures.one))
