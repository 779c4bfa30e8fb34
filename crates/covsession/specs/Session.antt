-- What a session reads and writes: commands, and the answers to them.
use Rattle.std.specs.Io.KnownBytes.{Consumes, Appends, IsAtEnd}
use Rattle.std.specs.Prelude.{◌≡◌, ℕ, List, [], ◌∷◌, ◌++◌, codes, decimal, Option}
use Rattle.covbook.specs.Op.{OpData, AnswerData, AcceptedAnswer, ClashAnswer, DroppedAnswer, RenamedAnswer, NoSuchTestAnswer, TextAnswer}
use Rattle.covbook.specs.Step.{answers_to, answers_from}
use Rattle.covdata.specs.Delimiters.{line_feed}
use Rattle.covline.specs.Lines.{pieces_of}
use Rattle.covdata.specs.Records.{fault_name}
use Rattle.covdata.specs.declared.fault.ReadFault.{ReadFault}
use Rattle.covdata.specs.declared.fault.ReadFault.TheVariants as faults
use Rattle.covtable.specs.Table.{Table}
use Rattle.covsession.specs.Command.{Command, AreCommands, ops_of, Blank, Ask, RefusePattern, Submit, Refuse, Unknown, Unfinished}

-- this line with its line feed
abbrev pub said : List ℕ → List ℕ
said line = line ++ line_feed ∷ []

abbrev pub answer_text : AnswerData → List ℕ
answer_text (AcceptedAnswer number items odd) =
    said (codes "accepted " ++ decimal number ++ codes " items " ++ decimal items ++ codes " odd " ++ decimal odd)
answer_text (ClashAnswer clash) =
    said (codes "clash " ++ clash.file ++ codes " " ++ decimal clash.line ++ codes " " ++ clash.held ++ codes " " ++ clash.given)
answer_text (DroppedAnswer sections) = said (codes "dropped " ++ decimal sections)
answer_text (RenamedAnswer sections) = said (codes "renamed " ++ decimal sections)
answer_text NoSuchTestAnswer = said (codes "no such test")
answer_text (TextAnswer text) = text ++ said (codes ".")

-- the line that reports a clash; nothing for any other answer
abbrev pub clash_text : AnswerData → List ℕ
clash_text (AcceptedAnswer number items odd) = []
clash_text (ClashAnswer clash) = answer_text (ClashAnswer clash)
clash_text (DroppedAnswer sections) = []
clash_text (RenamedAnswer sections) = []
clash_text NoSuchTestAnswer = []
clash_text (TextAnswer text) = []

-- a fault's name, and its line if it has one
abbrev pub fault_text : ReadFault → List ℕ
fault_text faults.TooLong = codes "TooLong"
fault_text (faults.Line at fault) = fault_name fault ++ codes " at " ++ decimal at
fault_text (faults.Outside at) = codes "Outside at " ++ decimal at
fault_text (faults.Inside at) = codes "Inside at " ++ decimal at
fault_text faults.OpenEnd = codes "OpenEnd"
fault_text (faults.BadMark at) = codes "BadMark at " ++ decimal at
fault_text (faults.NoSource at) = codes "NoSource at " ++ decimal at
fault_text (faults.Percent at) = codes "Percent at " ++ decimal at
fault_text (faults.Instances at) = codes "Instances at " ++ decimal at
fault_text (faults.Misplaced at) = codes "Misplaced at " ++ decimal at
fault_text faults.LostFunction = codes "LostFunction"
fault_text faults.BadTest = codes "BadTest"
fault_text faults.Memory = codes "Memory"

abbrev pub refused_pattern_text : List ℕ
refused_pattern_text = said (codes "refused TooLong")

abbrev pub refused_text : ReadFault → List ℕ
refused_text fault = said (codes "refused " ++ fault_text fault)

-- what is written for these commands, one after another. Each command that asks the book has the next of these answers of the
-- book, and any other command has its own line. A blank line has no answer
abbrev pub output_of : List Command → List AnswerData → List ℕ
output_of [] answers = []
output_of (Blank ∷ commands) answers = output_of commands answers
output_of (Refuse fault ∷ commands) answers = refused_text fault ++ output_of commands answers
output_of (Unknown ∷ commands) answers = said (codes "unknown") ++ output_of commands answers
output_of (Unfinished ∷ commands) answers = said (codes "unfinished") ++ output_of commands answers
output_of (Submit submission ∷ commands) [] = []
output_of (Submit submission ∷ commands) (answer ∷ answers) = answer_text answer ++ output_of commands answers
output_of (RefusePattern ∷ commands) answers = refused_pattern_text ++ output_of commands answers
output_of (Ask op ∷ commands) [] = []
output_of (Ask op ∷ commands) (answer ∷ answers) = answer_text answer ++ output_of commands answers

-- what a session of these commands writes. The book's answers are those of a run of the operations that the commands ask for
abbrev pub session_text : List Command → List ℕ
session_text commands = output_of commands (answers_to (ops_of commands))

-- the input asks for some commands, and the output is the answers to them
abbrev pub IsSession : List ℕ → List ℕ → Type 0
IsSession input output = (commands : List Command) × AreCommands (pieces_of input) commands × (output ≡ session_text commands)

-- a whole input was read. Its session text was written, and nothing else
abbrev pub IsWholeSession : Option (List ℕ) → Option (List ℕ) → Option (List ℕ) → Option (List ℕ) → Type 0
IsWholeSession left left_after written written_after =
    (input : List ℕ) × (output : List ℕ) × Consumes left left_after input × IsAtEnd left_after
    × IsSession input output × Appends written written_after output

-- what is written for these commands if the book's table is this one before the first of them
abbrev pub text_after : Table → List Command → List ℕ
text_after table commands = output_of commands (answers_from table (ops_of commands))

-- the history grows by these commands' operations
abbrev pub Asks : List Command → List OpData → List OpData → Type 0
Asks commands before after = after ≡ before ++ ops_of commands
