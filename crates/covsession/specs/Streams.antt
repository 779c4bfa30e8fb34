-- What a session has taken from its input and said to its output at a moment, and what happens between two moments.
use Rattle.std.specs.Borrow.{GName}
use Rattle.std.specs.Io.KnownBytes.{Consumes, Appends, IsAtEnd, prepend_known, append_known}
use Rattle.std.specs.Prelude.{◌≡◌, ◌<◌, ℕ, length, List, [], ◌∷◌, ◌++◌, ◌+◌, ◌*◌, ◌^◌, Bool, true, false, Option}
use Rattle.covdata.specs.Delimiters.{line_feed}
use Rattle.covline.specs.Lines.{pieces_of, before_feed}
use Rattle.covsession.specs.declared.session.text.LineEnd.{LineEnd}
use Rattle.covsession.specs.declared.session.text.LineEnd.TheVariants.{Feed, Input}

-- an input: the bytes that were read and are still to be taken, those that its source still has, how many reads may
-- follow and how many were made, and how many failed; and which source it was lent
pub record InputData : Type 0 where
  pub pending : List ℕ
  pub left : Option (List ℕ)
  pub reads_left : ℕ
  pub reads : ℕ
  pub failed_reads : ℕ
  pub source : GName

-- an output: the bytes that wait to be written, those that its sink took, how many of them it may hold back, and how many of
-- its calls failed; and which sink it was lent
pub record OutputData : Type 0 where
  pub waiting : List ℕ
  pub written : Option (List ℕ)
  pub held : ℕ
  pub failed_writes : ℕ
  pub sink : GName

-- a moment of a session
pub record Moment : Type 0 where
  pub input : InputData
  pub output : OutputData

abbrev pub moment : InputData → OutputData → Moment
moment input output = record { input = input; output = output }

-- what is still to be taken: the pending bytes, and then those of the source
abbrev pub unread : InputData → Option (List ℕ)
unread input = prepend_known input.pending input.left

-- a number that gets smaller with each byte that is taken and with each read. A read counts for more than all bytes of a block
abbrev pub turns : InputData → ℕ
turns input = 65537 * input.reads_left + length input.pending

-- all that was said: the written bytes, and then those that wait
abbrev pub said_so_far : OutputData → Option (List ℕ)
said_so_far output = append_known output.written output.waiting

-- the source's counts of its calls can't overflow
pub record CanRead (i : InputData) : Type 0 where
  pub few_reads : i.reads + i.reads_left < 2 ^ 63
  pub few_failed_reads : i.failed_reads < 2 ^ 63

-- no count of calls can overflow
pub record CanCall (m : Moment) : Type 0 where
  pub read : CanRead m.input
  pub few_failed_writes : m.output.failed_writes < 2 ^ 63

-- between two moments these bytes were taken, and no read failed
pub record Takes (i j : InputData) (bytes : List ℕ) : Type 0 where
  pub took : Consumes (unread i) (unread j) bytes
  pub counted : j.reads + j.reads_left ≡ i.reads + i.reads_left
  pub failed : j.failed_reads ≡ i.failed_reads
  pub same_source : j.source ≡ i.source

-- a sink took some more bytes, or none
abbrev pub Grows : Option (List ℕ) → Option (List ℕ) → Type 0
Grows old new = (part : List ℕ) × Appends old new part

-- between two moments this was said, and no write failed
pub record Says (o p : OutputData) (text : List ℕ) : Type 0 where
  pub says : Appends (said_so_far o) (said_so_far p) text
  pub grows : Grows o.written p.written
  pub failed : p.failed_writes ≡ o.failed_writes
  pub same_sink : p.sink ≡ o.sink

-- between two moments these bytes were taken and this was said, and no call failed
pub record Moves (m n : Moment) (bytes text : List ℕ) : Type 0 where
  pub takes : Takes m.input n.input bytes
  pub says : Says m.output n.output text

-- a part of a line was taken from the pending bytes. `true`: the rest of the line, and its line feed too. `false`: all of them
abbrev pub TakesPart : Bool → List ℕ → List ℕ → List ℕ → Type 0
TakesPart true old part new = old ≡ part ++ line_feed ∷ new
TakesPart false old part new = (old ≡ part) × (new ≡ [])

-- the bytes of a line and of its ending
abbrev pub line_bytes : LineEnd → List ℕ → List ℕ
line_bytes Feed line = line ++ line_feed ∷ []
line_bytes Input line = line

-- the pieces that a line with this ending is: one, or none if the input ended before the line's first byte
abbrev pub line_pieces : LineEnd → List ℕ → List (List ℕ)
line_pieces Feed line = (line ++ line_feed ∷ []) ∷ []
line_pieces Input [] = []
line_pieces Input (b ∷ bs) = (b ∷ bs) ∷ []

-- if a line ended with a line feed, `turns` got smaller; if it ended with the input, nothing is left to be taken
abbrev pub EndsAs : LineEnd → InputData → InputData → Type 0
EndsAs Feed i j = turns j < turns i
EndsAs Input i j = IsAtEnd (unread j)

-- these bytes are cut into these pieces. If the last line ended with a line feed, this holds whatever bytes follow; if it ended
-- with the input, nothing follows
abbrev pub AreCut : LineEnd → List ℕ → List (List ℕ) → Type 0
AreCut Feed bytes pieces = (more : List ℕ) → pieces_of (bytes ++ more) ≡ pieces ++ pieces_of more
AreCut Input bytes pieces = pieces_of bytes ≡ pieces

-- one line was taken
pub record TakesLine (m n : Moment) (line : List ℕ) (ending : LineEnd) : Type 0 where
  pub one_line : before_feed line ≡ line
  pub moves : Moves m n (line_bytes ending line) []
  pub ended : EndsAs ending m.input n.input

-- these pieces were taken, and this was said
pub record TakesPieces (m n : Moment) (pieces : List (List ℕ)) (ending : LineEnd) (text : List ℕ) : Type 0 where
  pub bytes : List ℕ
  pub moves : Moves m n bytes text
  pub cut : AreCut ending bytes pieces
  pub ended : EndsAs ending m.input n.input
