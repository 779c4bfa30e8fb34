use Rattle.std.specs.Prelude.{◌≡◌, ◌++◌, map, take}
use Rattle.std.specs.String.{string_bytes}
use Rattle.covcombine.specs.Combine.{lines_by, refusal_of}
use Rattle.covcombine.proofs.ending.put_refusals.Given as goal

-- the lines about the files so far are appended
abbrev pub invariant-loop-note : goal.invariant-loop-note
invariant-loop-note l = l.lines ≡ l.initial.lines ++ lines_by (refusal_of l.strictness) (map string_bytes l.files) (take l.note-index l.notes)
