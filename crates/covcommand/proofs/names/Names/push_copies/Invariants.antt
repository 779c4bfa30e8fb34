use Rattle.std.proofs.Common.{◌≡◌, ◌++◌, map, take}
use Rattle.covcommand.proofs.names.Names.push_copies.Given as goal

-- so far the words that were passed are appended
abbrev pub invariant-loop-word : goal.invariant-loop-word
invariant-loop-word l = l.self ≡ l.initial.self ++ map (λ w. w.now) (take l.word-index l.words)
