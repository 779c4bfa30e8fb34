use Rattle.std.proofs.Common.{refl}
use Rattle.covread.proofs.gcov.shape.any_shape.Goals as goal

pub returns-in-Some : goal.returns-in-Some
returns-in-Some c = rw (← c.in-Some.ensures) refl

pub returns-in-Some-strip_key : goal.returns-in-Some-strip_key
returns-in-Some-strip_key c = rw (← c.in_default.ensures, ← c.in-Some-strip_key.ensures) c.function_shape.ensures

pub returns : goal.returns
returns c = rw (← c.in_default.ensures, ← c.in_default-strip_key.ensures) c.other_shape.ensures
