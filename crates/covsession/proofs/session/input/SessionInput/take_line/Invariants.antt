use Rattle.std.proofs.Common.{◌≡◌, ℕ, ◌≤◌, List, [], ◌++◌}
use Rattle.covline.specs.Lines.{before_feed}
use Rattle.covsession.specs.Streams.{turns, moment, Moves}
use Rattle.covsession.specs.Text.{HasCollected}
use Rattle.covsession.proofs.session.input.SessionInput.take_line.Given as goal

abbrev pub invariant-loop-self : goal.invariant-loop-self
invariant-loop-self g l =
    (line : List ℕ) × (before_feed line ≡ line)
    × Moves (moment l.initial.self l.initial.output)
    (moment l.self l.output) line []
    × (turns l.self ≤ turns l.initial.self)
    × ((before : List ℕ) → (now : List ℕ) → HasCollected l.initial.text before now → HasCollected l.text before (now ++ line))
    × (l.text.limit ≡ l.initial.text.limit)

abbrev pub decreases-loop-self : goal.decreases-loop-self
decreases-loop-self g l = turns l.self
