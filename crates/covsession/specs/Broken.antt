-- What holds after a fault in the middle of a session.
use Rattle.std.specs.Io.KnownBytes.{Consumes, Appends, IsAtEnd, append_known}
use Rattle.std.specs.Prelude.{◌≡◌, ◌≢◌, ◌⊎◌, ◌<◌, ◌≤◌, ℕ, ◌+◌, List, [], ◌∷◌, ◌++◌, length}
use Rattle.covbook.specs.Op.{OpData}
use Rattle.covbook.specs.Step.{max_entries, table_of}
use Rattle.covline.specs.Lines.{before_feed, line_of}
use Rattle.covsession.specs.Command.{Command, AreCommands, ops_of}
use Rattle.covsession.specs.Run.{IsRun}
use Rattle.covsession.specs.Session.{text_after}
use Rattle.covsession.specs.Streams.{InputData, OutputData, Moment, AreCut, Grows, Says, TakesPieces, unread, said_so_far}
use Rattle.covsession.specs.Text.{IsAnsweredAs}
use Rattle.covsession.specs.Command.{Format}
use Rattle.covsession.specs.declared.session.fault.SessionFault.{SessionFault}
use Rattle.covsession.specs.declared.session.fault.SessionFault.TheVariants.{Read, Write, Memory, Full}
use Rattle.covsession.specs.declared.session.text.LineEnd.{LineEnd}
use Rattle.covsession.specs.declared.session.text.LineEnd.TheVariants.{Feed, Input}
use Rattle.covsession.specs.declared.session.text.CollectedText.{CollectedText}

-- how many writes failed before and after an output stopped with this fault: one more after `Write`, and as many after `Memory`
-- and `Full`. An output never stops with `Read`
abbrev pub CountsWrites : SessionFault → (before after : ℕ) → Type 0
CountsWrites Read before after = ⊥
CountsWrites Write before after = after ≡ before + 1
CountsWrites Memory before after = after ≡ before
CountsWrites Full before after = after ≡ before

-- nothing waits to be written, and nothing is held back
abbrev pub IsIdle : OutputData → Type 0
IsIdle o = (o.waiting ≡ []) × (o.held ≡ 0)

-- an output stopped with this fault while this text was said. Of what was said before and this text together, a beginning is
-- written, and the rest is lost. Unless a write failed, the output stopped before any byte of this text was said
pub record Breaks (o p : OutputData) (fault : SessionFault) (text : List ℕ) : Type 0 where
  pub lost : List ℕ
  pub says : Appends (said_so_far o) (append_known p.written lost) text
  pub grows : Grows o.written p.written
  pub failed : CountsWrites fault o.failed_writes p.failed_writes
  pub same_sink : p.sink ≡ o.sink
  pub before : fault ≢ Write → Appends (said_so_far o) (said_so_far p) []

-- how an output stops after a fault, and with which fault the session ends. After `Memory` or `Full`, what was said is sent on,
-- and the session ends with the same fault; or a write fails then, and the session ends with `Write`. After `Read` or `Write`
-- nothing more is written
abbrev pub StopsAs : (o p : OutputData) → (fault ended : SessionFault) → Type 0
StopsAs o p Read ended = (p ≡ o) × (ended ≡ Read)
StopsAs o p Write ended = (p ≡ o) × (ended ≡ Write)
StopsAs o p Memory ended = (Says o p [] × IsIdle p × (ended ≡ Memory)) ⊎ (Breaks o p Write [] × (ended ≡ Write))
StopsAs o p Full ended = (Says o p [] × IsIdle p × (ended ≡ Full)) ⊎ (Breaks o p Write [] × (ended ≡ Write))

-- an input stopped, since a read failed or none was left: no byte was taken, and none is pending
pub record Stalls (i j : InputData) : Type 0 where
  pub took : Consumes (unread i) (unread j) []
  pub counted : j.reads + j.reads_left ≡ i.reads + i.reads_left
  pub failed : (j.failed_reads ≡ i.failed_reads + 1) ⊎ ((j.failed_reads ≡ i.failed_reads) × (j.reads_left ≡ 0))
  pub same_source : j.source ≡ i.source
  pub drained : j.pending ≡ []

-- which call failed between two moments, if a fault came between them. At `Read`, a read failed, or none failed and no read is
-- left. At `Write`, a write failed. At `Memory` and `Full`, no call failed
abbrev pub IsCausedBy : SessionFault → Moment → Moment → Type 0
IsCausedBy Read m n =
    (n.output.failed_writes ≡ m.output.failed_writes)
    × ((n.input.failed_reads ≡ m.input.failed_reads + 1) ⊎ ((n.input.failed_reads ≡ m.input.failed_reads) × (n.input.reads_left ≡ 0)))
IsCausedBy Write m n = (n.input.failed_reads ≡ m.input.failed_reads) × (n.output.failed_writes ≡ m.output.failed_writes + 1)
IsCausedBy Memory m n = (n.input.failed_reads ≡ m.input.failed_reads) × (n.output.failed_writes ≡ m.output.failed_writes)
IsCausedBy Full m n = (n.input.failed_reads ≡ m.input.failed_reads) × (n.output.failed_writes ≡ m.output.failed_writes)

-- a fault came between two moments. Some bytes were taken between them, and this text was to be said: these answers, and then
-- what the fault cut short (`cut`). Unless a write failed, all of these answers were said, and nothing of what was cut short
pub record Fails (m n : Moment) (fault : SessionFault) (answers text : List ℕ) : Type 0 where
  pub bytes : List ℕ
  pub took : Consumes (unread m.input) (unread n.input) bytes
  pub counted : n.input.reads + n.input.reads_left ≡ m.input.reads + m.input.reads_left
  pub same_source : n.input.source ≡ m.input.source
  pub lost : List ℕ
  pub says : Appends (said_so_far m.output) (append_known n.output.written lost) text
  pub grows : Grows m.output.written n.output.written
  pub same_sink : n.output.sink ≡ m.output.sink
  pub cause : IsCausedBy fault m n
  pub cut : List ℕ
  pub whole : text ≡ answers ++ cut
  pub before : fault ≢ Write → Appends (said_so_far m.output) (said_so_far n.output) answers
  pub idle : fault ≡ Read → IsIdle n.output × (n.input.pending ≡ [])

-- the bytes are a part of one line, before its line feed
abbrev pub IsLinePart : List ℕ → Type 0
IsLinePart bytes = before_feed bytes ≡ bytes

-- the bytes are whole lines, for whose pieces `Such` holds, and then a part of one more line, or nothing
pub record IsPart (Such : List (List ℕ) → Type 0) (bytes : List ℕ) : Type 0 where
  pub pieces : List (List ℕ)
  pub done : List ℕ
  pub line : List ℕ
  pub is : bytes ≡ done ++ line
  pub cut : AreCut Feed done pieces
  pub one_line : IsLinePart line
  pub such : Such pieces

-- these pieces, followed by at most one more piece, are at most one command
abbrev pub IsOpen : List (List ℕ) → Type 0
IsOpen pieces =
    (tail : List (List ℕ)) → length tail < 2 → (commands : List Command) → AreCommands (pieces ++ tail) commands → length commands ≤ 1

-- a fault came before the whole of a command was taken, or before it was known what the command asks for. If a read failed,
-- `Such` holds of the bytes of the command that were taken
pub record FailsTaking (Such : List ℕ → Type 0) (m n : Moment) (fault : SessionFault) : Type 0 where
  pub fails : Fails m n fault [] []
  pub not_full : fault ≢ Full
  pub part : fault ≡ Read → Such fails.bytes

-- a fault cut the answer to these commands short. It is `Full` only if they ask the book for an operation
pub record FailsSaying (o p : OutputData) (before : List OpData) (commands : List Command) (fault : SessionFault) : Type 0 where
  pub breaks : Breaks o p fault (text_after (table_of before) commands)
  pub full : fault ≡ Full → 0 < length (ops_of commands)

-- what was taken of a text of this format was answered in part, or not at all
abbrev pub FailsGiven : {A : Type 0} → Format → CollectedText A → (o p : OutputData) → (before : List OpData) → SessionFault → Type 0
FailsGiven format taken o p before fault =
    (Breaks o p fault [] × (fault ≢ Full))
    ⊎ ((commands : List Command) × IsAnsweredAs format taken commands × FailsSaying o p before commands fault)

-- the lines that belong to a line of this kind were taken, and the answer to the command was cut short
pub record FailsAfter (IsSuch : List ℕ → Type 0) (m n : Moment) (before : List OpData) (fault : SessionFault) : Type 0 where
  pub pieces : List (List ℕ)
  pub commands : List Command
  pub ending : LineEnd
  pub taken_at : Moment
  pub taken : TakesPieces m taken_at pieces ending []
  pub same_input : n.input ≡ taken_at.input
  pub says : FailsSaying taken_at.output n.output before commands fault
  pub run : (first : List ℕ) → IsSuch (line_of first) → IsRun ending (first ∷ pieces) commands

-- a whole command was taken, and the answer to it was cut short
pub record FailsAnswering (m n : Moment) (before : List OpData) (fault : SessionFault) : Type 0 where
  pub pieces : List (List ℕ)
  pub commands : List Command
  pub ending : LineEnd
  pub taken_at : Moment
  pub taken : TakesPieces m taken_at pieces ending []
  pub same_input : n.input ≡ taken_at.input
  pub says : FailsSaying taken_at.output n.output before commands fault
  pub run : IsRun ending pieces commands

-- a session ended in this fault between two moments. The bytes that were taken are these commands, and perhaps a part of one
-- more. Unless a write failed, the answers to `answered` were said, and nothing of an answer to `last`. If a write failed, a
-- beginning of the answers to all commands was written
pub record IsBroken (m n : Moment) (fault : SessionFault) : Type 0 where
  pub pieces : List (List ℕ)
  pub commands : List Command
  pub answered : List Command
  pub last : List Command
  pub are : commands ≡ answered ++ last
  pub ending : LineEnd
  pub whole : List ℕ
  pub more : List ℕ
  pub took : Consumes (unread m.input) (unread n.input) (whole ++ more)
  pub fails : Fails m n fault (text_after [] answered) (text_after [] commands)
  pub cut : AreCut ending whole pieces
  pub run : IsRun ending pieces commands
  pub ended : ending ≡ Input → (more ≡ []) × IsAtEnd (unread n.input)
  pub full : fault ≡ Full → max_entries < length (ops_of commands)
  pub filled : fault ≡ Full → length (ops_of answered) ≡ max_entries
  pub stalled : fault ≡ Read → (ending ≡ Feed) × (last ≡ []) × IsPart IsOpen more
