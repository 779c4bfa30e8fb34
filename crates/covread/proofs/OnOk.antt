-- What follows from a successful result.
use Rattle.std.specs.Prelude.{OnOk, Result, Ok, Err}

pub on_ok_then : {X E P Q : Type 0} (r : Result X E) → (P → Q) → OnOk r P → OnOk r Q
on_ok_then (Ok x) f p = f p
on_ok_then (Err e) f p = p
