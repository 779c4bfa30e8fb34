use Rattle.std.specs.Prelude.{◌≡◌, map, take}
use Rattle.std.specs.String.{string_bytes}
use Rattle.covcombine.proofs.file_names.copies_of.Given as goal

-- the names so far are copied
abbrev pub invariant-loop-name : goal.invariant-loop-name
invariant-loop-name l = l.copies ≡ map string_bytes (take l.name-index l.names)
