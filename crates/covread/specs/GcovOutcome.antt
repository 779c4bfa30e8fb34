-- What gcov's output is read as: a submission with one section for each path, or the first fault.
use Rattle.std.specs.Prelude.{◌⊎◌, ◌≡◌, ℕ, ◌+◌, ◌<◌, ◌≤◌, true, false, List, [], ◌∷◌, ◌++◌, length, Some, None, Result, Ok, Err}
use Rattle.std.specs.List.{list_any}
use Rattle.covdata.specs.Row.{SubmissionData}
use Rattle.covline.specs.Lines.{lines_of}
use Rattle.covdata.specs.Lawful.{IsGoodTest}
use Rattle.covdata.specs.declared.trace_line.LineFault.TheVariants as line_faults
use Rattle.covdata.specs.declared.fault.ReadFault.{ReadFault}
use Rattle.covdata.specs.declared.fault.ReadFault.TheVariants as faults
use Rattle.covread.specs.declared.gcov.line.OwnFault.{OwnFault}
use Rattle.covread.specs.declared.gcov.line.OwnFault.TheVariants as own
use Rattle.covread.specs.Gcov.{GcovLine, LineSays}
use Rattle.covread.specs.Outcome.{max_bytes}
use Rattle.covread.specs.GcovItems.{begins_keeping, place_fault, waiting, sects_from, is_empty}

-- each of these lines says what the last list has at its place, and none has a fault of its place. The first list, `above`, is
-- what the lines above them say
abbrev pub AllSay : List GcovLine → List (List ℕ) → List GcovLine → Type 0
AllSay above [] [] = Unit {0}
AllSay above [] (says ∷ more) = ⊥
AllSay above (line ∷ lines) [] = ⊥
AllSay above (line ∷ lines) (says ∷ more) =
    LineSays line (Ok says) × (place_fault (length above + 1) above says ≡ None) × AllSay (above ++ says ∷ []) lines more

-- a line's own fault, with the line's number
abbrev pub own_fault : ℕ → OwnFault → ReadFault
own_fault at own.Instances = faults.Instances at
own_fault at own.Percent = faults.Percent at
own_fault at own.BadMark = faults.BadMark at
own_fault at own.NumberTooLarge = faults.Line at line_faults.NumberTooLarge

-- the fault of a line: its own, or else that of its place
abbrev pub IsFaultAt : ℕ → List GcovLine → List ℕ → ReadFault → Type 0
IsFaultAt at above line fault =
    ((why : OwnFault) × LineSays line (Err why) × (fault ≡ own_fault at why))
    ⊎ ((says : GcovLine) × LineSays line (Ok says) × (place_fault at above says ≡ Some fault))

-- the first faulty line has this fault
pub record IsFirstFault (lines : List (List ℕ)) (fault : ReadFault) : Type 0 where
  pub before : List (List ℕ)
  pub line : List ℕ
  pub after : List (List ℕ)
  pub place : lines ≡ before ++ line ∷ after
  pub above : List GcovLine
  pub said : AllSay [] before above
  pub faulty : IsFaultAt (length before + 1) above line fault

-- this is the first fault, and nothing is kept before the faulty line
pub record FaultsEarly (lines : List (List ℕ)) (fault : ReadFault) : Type 0 where
  pub first : IsFirstFault lines fault
  pub none_kept : list_any begins_keeping first.above ≡ false

-- no line is faulty, but functions wait at the end
pub record LosesFunction (lines : List (List ℕ)) : Type 0 where
  pub all : List GcovLine
  pub said : AllSay [] lines all
  pub left : is_empty (waiting all) ≡ false

-- no line is faulty, no function waits at the end, and the submission has the sections of the lines, with this test's name
pub record Reads (test : List ℕ) (lines : List (List ℕ)) (submission : SubmissionData) : Type 0 where
  pub all : List GcovLine
  pub said : AllSay [] lines all
  pub none_left : is_empty (waiting all) ≡ true
  pub is : submission ≡ record { sects = sects_from test [] all; odd = 0 }

-- what the text is read as; its length is tested first, then the test's name
abbrev pub IsOutcome : List ℕ → List ℕ → Result SubmissionData ReadFault → Type 0
IsOutcome test text (Ok submission) = (length text ≤ max_bytes) × IsGoodTest test × Reads test (lines_of text) submission
IsOutcome test text (Err fault) =
    ((max_bytes < length text) × (fault ≡ faults.TooLong))
    ⊎ (((length text ≤ max_bytes) × ¬ IsGoodTest test × (fault ≡ faults.BadTest))
    ⊎ (((length text ≤ max_bytes) × IsGoodTest test × IsFirstFault (lines_of text) fault)
    ⊎ ((length text ≤ max_bytes) × IsGoodTest test × LosesFunction (lines_of text) × (fault ≡ faults.LostFunction))))

-- the answer of a reader is what the text is read as, or memory ran out. Memory can run out only after length and name were
-- tested
abbrev pub Answers : List ℕ → List ℕ → Result SubmissionData ReadFault → Type 0
Answers test text answer = ((length text ≤ max_bytes) × IsGoodTest test × (answer ≡ Err faults.Memory)) ⊎ IsOutcome test text answer

-- keeping began: some first lines have no fault, and one of them begins it
pub record HasBegun (lines : List (List ℕ)) : Type 0 where
  pub before : List (List ℕ)
  pub after : List (List ℕ)
  pub place : lines ≡ before ++ after
  pub above : List GcovLine
  pub said : AllSay [] before above
  pub begun : list_any begins_keeping above ≡ true

-- memory ran out only after keeping began
abbrev pub GrowsLate : List ℕ → Result SubmissionData ReadFault → Type 0
GrowsLate text answer = answer ≡ Err faults.Memory → HasBegun (lines_of text)
