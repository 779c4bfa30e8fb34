use Rattle.std.specs.Prelude.{◌≡◌, map, take}
use Rattle.std.specs.String.{string_bytes}
use Rattle.covcombine.specs.Steps.{ArePatterns}
use Rattle.covcombine.proofs.work.patterns_of.Given as goal

-- the words so far are in the list
abbrev pub invariant-loop-word : goal.invariant-loop-word
invariant-loop-word l = (l.patterns ≡ map string_bytes (take l.word-index l.words)) × ArePatterns l.patterns
