use Rattle.std.proofs.Common.{◌≡◌, length, ap, ◌∙◌, arith}
use Rattle.covreport.proofs.tracefile.room.count_functions.Goals as goal

pub overflow_add-count : goal.overflow_add-count
overflow_add-count g c =
    omega (arith, ap length (c.functions-function-items.ensures.steps.some _ _ _ c.in-Some.ensures.steps), c.loop-function.invariant, ap length c.functions-function-items.ensures.value, c.functions-function-items.ensures.few)

pub returns : goal.returns
returns g c = omega (arith, ap length (c.functions-function-items.ensures.steps.none _ _ c.in-None.ensures.steps), c.loop-function.invariant)
