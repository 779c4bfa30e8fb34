use Rattle.std.proofs.Common.{◌≡◌, ◌++◌, map, take}
use Rattle.std.specs.String.{string_bytes}
use Rattle.covcommand.specs.Word.{shown}
use Rattle.covcommand.proofs.word.push_shown.Given as goal

-- so far the bytes that were passed are appended as they are shown
abbrev pub invariant-loop-byte : goal.invariant-loop-byte
invariant-loop-byte l = string_bytes l.text ≡ string_bytes l.initial.text ++ map shown (take l.byte-index l.bytes)
