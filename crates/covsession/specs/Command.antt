-- What the lines of an input ask for: the commands that they are, the texts in them, and what the book is asked for.
use Rattle.std.specs.List.{concat, flat_map, AllByRecursion}
use Rattle.std.specs.Prelude.{◌≡◌, ◌≢◌, ◌⊎◌, ◌<◌, ◌≤◌, ℕ, length, List, [], ◌∷◌, ◌++◌, codes, Ok, Err, ◌==◌, if◌then◌else◌, Result, Option, Some, None, option_map, nat_le}
use Rattle.covbook.specs.Op.{OpData, SubmitOp, DropTestOp, RenameOp, ReportOp, ExtractOp, RemoveOp, SummaryOp}
use Rattle.covline.specs.Lines.{line_of}
use Rattle.covdata.specs.Row.{SubmissionData}
use Rattle.covread.specs.Outcome.{IsOutcome}
use Rattle.covread.specs.GcovOutcome as gcov
use Rattle.covdata.specs.declared.fault.ReadFault.{ReadFault}
use Rattle.covreport.specs.Choice.{max_pattern_bytes}
use Rattle.covsession.specs.declared.session.command.word.Format.{Format as TextFormat}
use Rattle.covsession.specs.declared.session.command.word.Format.TheVariants as formats
use Rattle.covsession.specs.declared.session.command.word.Pick.{Pick}
use Rattle.covsession.specs.declared.session.command.word.Pick.TheVariants as picks
use Rattle.covsession.specs.declared.session.command.word.Word.{Word}
use Rattle.covsession.specs.declared.session.command.word.Word.TheVariants as words

-- the byte between a command's word and its argument
abbrev pub space : ℕ
space = 32

-- a command of an input. `Ask`: the book is asked for an operation that isn't a submission. `RefusePattern`: the pattern is too
-- long. `Submit` and `Refuse`: a text that is read, and one that is refused. `Unfinished`: the input ends within the command
pub data Command : Type 0 where
  Blank : Command
  Ask : (op : OpData) → Command
  RefusePattern : Command
  Submit : (submission : SubmissionData) → Command
  Refuse : (fault : ReadFault) → Command
  Unknown : Command
  Unfinished : Command

-- the pieces are one piece, and it is this line
abbrev pub IsLine : List (List ℕ) → List ℕ → Type 0
IsLine pieces line = (piece : List ℕ) × (pieces ≡ piece ∷ []) × (line_of piece ≡ line)

-- the line is this word alone, and there are no patterns; or it is this word, a space and one pattern. The pattern may be empty,
-- and isn't too long
abbrev pub IsChoice : List ℕ → List (List ℕ) → List ℕ → Type 0
IsChoice word [] line = line ≡ word
IsChoice word (pattern ∷ []) line = (line ≡ word ++ space ∷ pattern) × (length pattern ≤ max_pattern_bytes)
IsChoice word (pattern ∷ other ∷ more) line = ⊥

-- the line is this word, a space and the name of this test, which may be empty; or it is the word alone, and the name is empty
abbrev pub IsNaming : List ℕ → List ℕ → List ℕ → Type 0
IsNaming word test line = ((line ≡ word) × (test ≡ [])) ⊎ (line ≡ word ++ space ∷ test)

-- the line asks the book for this operation, and no further lines belong to it: a text is asked for, or a test is dropped
abbrev pub AsksFor : OpData → List ℕ → Type 0
AsksFor (SubmitOp submission) line = ⊥
AsksFor (DropTestOp test) line = IsNaming (codes "drop") test line
AsksFor (RenameOp old new) line = ⊥
AsksFor ReportOp line = line ≡ codes "report"
AsksFor SummaryOp line = line ≡ codes "summary"
AsksFor (ExtractOp patterns) line = IsChoice (codes "extract") patterns line
AsksFor (RemoveOp patterns) line = IsChoice (codes "remove") patterns line

-- the line is a choice of files whose pattern is too long
abbrev pub IsTooLong : List ℕ → Type 0
IsTooLong line =
    (pattern : List ℕ) × (max_pattern_bytes < length pattern)
    × ((line ≡ codes "extract" ++ space ∷ pattern) ⊎ (line ≡ codes "remove" ++ space ∷ pattern))

-- the pieces are a line `rename` and two lines after it. Whatever these two lines are, they are the old name and the new one
abbrev pub IsRename : List (List ℕ) → List ℕ → List ℕ → Type 0
IsRename pieces old new =
    (first : List ℕ) × (second : List ℕ) × (third : List ℕ) × (pieces ≡ first ∷ second ∷ third ∷ [])
    × (line_of first ≡ codes "rename") × (line_of second ≡ old) × (line_of third ≡ new)

-- the pieces are one line that asks the book for this
abbrev pub IsAskingLine : List (List ℕ) → OpData → Type 0
IsAskingLine pieces op = (line : List ℕ) × IsLine pieces line × AsksFor op line

-- the pieces ask the book for this
abbrev pub IsAsked : List (List ℕ) → OpData → Type 0
IsAsked pieces (RenameOp old new) = IsRename pieces old new
IsAsked pieces (SubmitOp submission) = IsAskingLine pieces (SubmitOp submission)
IsAsked pieces (DropTestOp test) = IsAskingLine pieces (DropTestOp test)
IsAsked pieces ReportOp = IsAskingLine pieces ReportOp
IsAsked pieces SummaryOp = IsAskingLine pieces SummaryOp
IsAsked pieces (ExtractOp patterns) = IsAskingLine pieces (ExtractOp patterns)
IsAsked pieces (RemoveOp patterns) = IsAskingLine pieces (RemoveOp patterns)

-- the format of a text: a tracefile, or gcov's annotated source, whose counts are of this test
pub data Format : Type 0 where
  Tracefile : Format
  Annotated : (test : List ℕ) → Format

-- the line announces a text of this format
abbrev pub Announces : Format → List ℕ → Type 0
Announces Tracefile line = line ≡ codes "trace"
Announces (Annotated test) line = IsNaming (codes "gcov") test line

-- what a text of this format is read as
abbrev pub IsReadAs : Format → List ℕ → Result SubmissionData ReadFault → Type 0
IsReadAs Tracefile text outcome = IsOutcome text outcome
IsReadAs (Annotated test) text outcome = gcov.IsOutcome test text outcome

-- the line isn't blank, is no command of its own, and announces no text and no rename
pub record IsUnknown (line : List ℕ) : Type 0 where
  pub some : line ≢ []
  pub no_text : (format : Format) → Announces format line → ⊥
  pub no_op : (op : OpData) → AsksFor op line → ⊥
  pub no_rename : line ≢ codes "rename"
  pub short : IsTooLong line → ⊥

-- no piece is the line that ends a text
abbrev pub IsBody : List (List ℕ) → Type 0
IsBody body = AllByRecursion (λ piece. line_of piece ≢ codes ".") body

-- the pieces are a line that announces a text, the text's lines, and a line `.`. The text is all bytes between the first line and
-- the last, with the line feeds
abbrev pub IsText : List (List ℕ) → Format → List ℕ → Type 0
IsText pieces format text =
    (first : List ℕ) × (body : List (List ℕ)) × (last : List ℕ) × (pieces ≡ first ∷ (body ++ last ∷ []))
    × Announces format (line_of first) × IsBody body × (line_of last ≡ codes ".") × (text ≡ concat body)

-- the pieces are a line that announces a text, and lines after it, none of which is `.`
abbrev pub IsOpenText : List (List ℕ) → Type 0
IsOpenText pieces =
    (format : Format) × (first : List ℕ) × (body : List (List ℕ)) × (pieces ≡ first ∷ body)
    × Announces format (line_of first) × IsBody body

-- the pieces are a line `rename`, and fewer than two lines after it
abbrev pub IsOpenRename : List (List ℕ) → Type 0
IsOpenRename pieces =
    (first : List ℕ) × (rest : List (List ℕ)) × (pieces ≡ first ∷ rest) × (line_of first ≡ codes "rename") × (length rest < 2)

-- the pieces are a text without its last line, or a rename without both of its names
abbrev pub IsUnfinished : List (List ℕ) → Type 0
IsUnfinished pieces = IsOpenText pieces ⊎ IsOpenRename pieces

-- the pieces are this command
abbrev pub IsCommand : List (List ℕ) → Command → Type 0
IsCommand pieces Blank = IsLine pieces []
IsCommand pieces (Ask op) = IsAsked pieces op
IsCommand pieces RefusePattern = (line : List ℕ) × IsLine pieces line × IsTooLong line
IsCommand pieces (Submit submission) =
    (format : Format) × (text : List ℕ) × IsText pieces format text × IsReadAs format text (Ok submission)
IsCommand pieces (Refuse fault) =
    (format : Format) × (text : List ℕ) × IsText pieces format text × IsReadAs format text (Err fault)
IsCommand pieces Unknown = (line : List ℕ) × IsLine pieces line × IsUnknown line
IsCommand pieces Unfinished = IsUnfinished pieces

-- if this command is unfinished, it is the last of the input: no pieces follow it
abbrev pub EndsInput : Command → List (List ℕ) → Type 0
EndsInput Unfinished rest = rest ≡ []
EndsInput Blank rest = Unit {0}
EndsInput (Ask op) rest = Unit {0}
EndsInput RefusePattern rest = Unit {0}
EndsInput (Submit submission) rest = Unit {0}
EndsInput (Refuse fault) rest = Unit {0}
EndsInput Unknown rest = Unit {0}

-- the pieces of an input are these commands, one after another
abbrev pub AreCommands : List (List ℕ) → List Command → Type 0
AreCommands pieces [] = pieces ≡ []
AreCommands pieces (command ∷ commands) =
    (these : List (List ℕ)) × (rest : List (List ℕ)) × (pieces ≡ these ++ rest)
    × IsCommand these command × EndsInput command rest × AreCommands rest commands

-- the operation that a command asks the book for, if it asks for one
abbrev pub ops_asked : Command → List OpData
ops_asked (Submit submission) = SubmitOp submission ∷ []
ops_asked (Ask op) = op ∷ []
ops_asked RefusePattern = []
ops_asked Blank = []
ops_asked (Refuse fault) = []
ops_asked Unknown = []
ops_asked Unfinished = []

abbrev pub ops_of : List Command → List OpData
ops_of commands = flat_map ops_asked commands

-- the word of a choice of files
abbrev pub pick_name : Pick → List ℕ
pick_name picks.Extract = codes "extract"
pick_name picks.Remove = codes "remove"

-- the operation of a choice of files by these patterns
abbrev pub pick_op : Pick → List (List ℕ) → OpData
pick_op picks.Extract patterns = ExtractOp patterns
pick_op picks.Remove patterns = RemoveOp patterns

-- the bytes before the first space
abbrev pub before_space : List ℕ → List ℕ
before_space [] = []
before_space (b ∷ bs) = if b == space then [] else b ∷ before_space bs

-- the line is this word alone; or, with an argument, it is this word, a space and the argument
abbrev pub IsWordWith : List ℕ → List ℕ → Option (List ℕ) → Type 0
IsWordWith line word None = line ≡ word
IsWordWith line word (Some pattern) = line ≡ word ++ space ∷ pattern

-- a format of the code, as plain data
abbrev pub format_of : TextFormat → Format
format_of formats.Tracefile = Tracefile
format_of (formats.Annotated test) = Annotated test.now

-- the line asks for this. The carriage returns at the line's end are already removed
abbrev pub IsWord : List ℕ → Word → Type 0
IsWord line words.Blank = line ≡ []
IsWord line words.Report = line ≡ codes "report"
IsWord line words.Summary = line ≡ codes "summary"
IsWord line (words.Choose pick pattern) = IsWordWith line (pick_name pick) (option_map (λ p. p.now) pattern)
IsWord line (words.Drop test) = IsNaming (codes "drop") test.now line
IsWord line words.Rename = line ≡ codes "rename"
IsWord line (words.Text format) = Announces (format_of format) line
IsWord line words.Other = IsUnknown line

-- the command that chooses files by a pattern, or without one. A pattern that is too long is refused
abbrev pub chosen_by : (List (List ℕ) → OpData) → Option (List ℕ) → List Command
chosen_by op None = Ask (op []) ∷ []
chosen_by op (Some pattern) = if nat_le (length pattern) max_pattern_bytes then Ask (op (pattern ∷ [])) ∷ [] else RefusePattern ∷ []

-- the list holds only the pattern, or nothing if there is no pattern. If the pattern is too long, the list is `None`
abbrev pub IsListOf : Option (List ℕ) → Option (List (List ℕ)) → Type 0
IsListOf None (Some patterns) = patterns ≡ []
IsListOf None None = ⊥
IsListOf (Some pattern) (Some patterns) = (patterns ≡ pattern ∷ []) × (length pattern ≤ max_pattern_bytes)
IsListOf (Some pattern) None = max_pattern_bytes < length pattern

-- the command that a line is if no further lines belong to it. A line that announces a text or a rename is then unfinished
abbrev pub asked_by : Word → List Command
asked_by words.Blank = Blank ∷ []
asked_by words.Report = Ask ReportOp ∷ []
asked_by words.Summary = Ask SummaryOp ∷ []
asked_by (words.Choose pick pattern) = chosen_by (pick_op pick) (option_map (λ p. p.now) pattern)
asked_by (words.Drop test) = Ask (DropTestOp test.now) ∷ []
asked_by words.Rename = Unfinished ∷ []
asked_by (words.Text format) = Unfinished ∷ []
asked_by words.Other = Unknown ∷ []
