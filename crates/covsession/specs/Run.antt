-- How a session goes on from one command to the next.
use Rattle.std.specs.Io.KnownBytes.{IsAtEnd}
use Rattle.std.specs.Prelude.{◌≡◌, ◌≤◌, ℕ, List, [], ◌∷◌, ◌++◌}
use Rattle.covbook.specs.Op.{OpData}
use Rattle.covbook.specs.Step.{table_of}
use Rattle.covline.specs.Lines.{pieces_of, line_of}
use Rattle.covsession.specs.Command.{Command, AreCommands, ops_of}
use Rattle.covsession.specs.Session.{text_after, Asks}
use Rattle.covsession.specs.Streams.{Moment, unread, turns, Says, Moves, AreCut, TakesPieces}
use Rattle.covsession.specs.declared.session.text.LineEnd.{LineEnd}
use Rattle.covsession.specs.declared.session.text.LineEnd.TheVariants.{Feed, Input}

-- the pieces are these commands. If the last line ended with a line feed, this holds whatever commands follow; if it ended with
-- the input, nothing follows
abbrev pub GoOn : LineEnd → List (List ℕ) → List Command → Type 0
GoOn Feed pieces commands = (rest : List (List ℕ)) (more : List Command) → AreCommands rest more → AreCommands (pieces ++ rest) (commands ++ more)
GoOn Input pieces commands = AreCommands pieces commands

-- the pieces are no other commands than these, under the same condition
abbrev pub GoOnOnly : LineEnd → List (List ℕ) → List Command → Type 0
GoOnOnly Feed pieces commands =
    (rest : List (List ℕ)) (others : List Command) → AreCommands (pieces ++ rest) others
    → (more : List Command) × (others ≡ commands ++ more) × AreCommands rest more
GoOnOnly Input pieces commands = (others : List Command) → AreCommands pieces others → others ≡ commands

-- the pieces are exactly these commands, under the same condition
pub record IsRun (ending : LineEnd) (pieces : List (List ℕ)) (commands : List Command) : Type 0 where
  pub are : GoOn ending pieces commands
  pub only : GoOnOnly ending pieces commands

-- the lines that belong to a line of this kind were taken, and the command was answered
pub record TakesAfter (IsSuch : List ℕ → Type 0) (m n : Moment) (before after : List OpData) (ending : LineEnd) : Type 0 where
  pub pieces : List (List ℕ)
  pub commands : List Command
  pub taken : TakesPieces m n pieces ending (text_after (table_of before) commands)
  pub asks : Asks commands before after
  pub run : (first : List ℕ) → IsSuch (line_of first) → IsRun ending (first ∷ pieces) commands

-- the next command was taken and answered, or there was none since the input had ended
pub record TakesCommand (m n : Moment) (before after : List OpData) (ending : LineEnd) : Type 0 where
  pub pieces : List (List ℕ)
  pub commands : List Command
  pub taken : TakesPieces m n pieces ending (text_after (table_of before) commands)
  pub asks : Asks commands before after
  pub run : IsRun ending pieces commands

-- between two moments some whole commands were taken and answered, and this history is what they asked the book for
pub record IsSoFar (m n : Moment) (history : List OpData) : Type 0 where
  pub bytes : List ℕ
  pub pieces : List (List ℕ)
  pub commands : List Command
  pub moves : Moves m n bytes (text_after [] commands)
  pub cut : AreCut Feed bytes pieces
  pub run : IsRun Feed pieces commands
  pub asked : history ≡ ops_of commands
  pub fewer : turns n.input ≤ turns m.input

-- all commands of the input were taken and answered
pub record IsDone (m n : Moment) : Type 0 where
  pub bytes : List ℕ
  pub commands : List Command
  pub moves : Moves m n bytes (text_after [] commands)
  pub run : IsRun Input (pieces_of bytes) commands
  pub ended : IsAtEnd (unread n.input)

-- all commands were answered, and nothing waits to be written or is held back
pub record IsSentOn (m n : Moment) : Type 0 where
  pub done_at : Moment
  pub done : IsDone m done_at
  pub same_input : n.input ≡ done_at.input
  pub says : Says done_at.output n.output []
  pub emptied : n.output.waiting ≡ []
  pub sent : n.output.held ≡ 0
