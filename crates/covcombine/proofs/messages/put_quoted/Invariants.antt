use Rattle.std.specs.Prelude.{◌≡◌, ◌++◌, take}
use Rattle.std.specs.List.{flat_map}
use Rattle.covcombine.specs.Messages.{quoted_byte}
use Rattle.covcombine.proofs.messages.put_quoted.Given as goal

-- the bytes so far are appended
abbrev pub invariant-loop-byte : goal.invariant-loop-byte
invariant-loop-byte l = l.lines ≡ l.initial.lines ++ flat_map quoted_byte (take l.byte-index l.name)
