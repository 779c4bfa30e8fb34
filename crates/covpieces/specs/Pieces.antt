-- A tracefile that is read in pieces: what a piece is, what goes over into the next piece, and what the pieces say together.
use Rattle.std.specs.Prelude.{◌≡◌, ◌⊎◌, ℕ, ◌+◌, ◌-◌, ◌^◌, min, Bool, false, if◌then◌else◌, List, [], ◌∷◌, ◌++◌, length, Result, Ok, Err, codes}
use Rattle.std.specs.List.{concat}
use Rattle.covdata.specs.Row.{SectData, SubmissionData}
use Rattle.covdata.specs.Delimiters.{line_feed}
use Rattle.covline.specs.Lines.{lines_of}
use Rattle.covdata.specs.declared.fault.ReadFault.{ReadFault}
use Rattle.covdata.specs.declared.fault.ReadFault.TheVariants.{TooLong, Line, Outside, Inside, Misplaced}
use Rattle.covpieces.specs.Sections.{EndsSection, grouped_after}

-- each piece but the last ends with the last line of a section
abbrev pub EndSections : List (List ℕ) → Type 0
EndSections [] = Unit {0}
EndSections (piece ∷ []) = Unit {0}
EndSections (piece ∷ next ∷ pieces) = EndsSection piece × EndSections (next ∷ pieces)

-- the text is cut into these pieces
pub record IsCut (text : List ℕ) (pieces : List (List ℕ)) : Type 0 where
  pub together : text ≡ concat pieces
  pub ends : EndSections pieces

-- what a piece takes over from the pieces before it: the test's name, whether totals of functions say nothing there (LCOV 2, below
-- an `FNL:` line), and how many lines these pieces have
pub record CarriedData : Type 0 where
  pub test : List ℕ
  pub is_grouped : Bool
  pub lines : ℕ

-- before the first piece
abbrev pub nothing_carried : CarriedData
nothing_carried = record { test = []; is_grouped = false; lines = 0 }

-- the line that begins to group functions: an `FNL:` line outside of sections says nothing else
abbrev pub group_line : List ℕ
group_line = codes "FNL:0,0"

-- these lines behind the line of the test's name. An empty name has no line, as the name is empty at the beginning of a text
abbrev pub with_name : List ℕ → List (List ℕ) → List (List ℕ)
with_name [] lines = lines
with_name (b ∷ bs) lines = (codes "TN:" ++ (b ∷ bs)) ∷ lines

-- the lines that are put before a piece
abbrev pub front_lines : CarriedData → List (List ℕ)
front_lines c = with_name c.test (if c.is_grouped then group_line ∷ [] else [])

-- this text behind the line of the test's name, likewise
abbrev pub name_text : List ℕ → List ℕ → List ℕ
name_text [] text = text
name_text (b ∷ bs) text = (codes "TN:" ++ (b ∷ bs)) ++ line_feed ∷ text

-- the text that is put before a piece: these lines, each with a line feed
abbrev pub front_text : CarriedData → List ℕ
front_text c = name_text c.test (if c.is_grouped then group_line ++ line_feed ∷ [] else [])

-- the fault of a tracefile with other line numbers. Only these four of its faults have one, and gcov's own don't come here. A new fault
-- with a line can't be forgotten: then pieces wouldn't be read as the whole (`OneByOne`)
abbrev pub renumbered : (ℕ → ℕ) → ReadFault → ReadFault
renumbered number (Line at fault) = Line (number at) fault
renumbered number (Outside at) = Outside (number at)
renumbered number (Inside at) = Inside (number at)
renumbered number (Misplaced at) = Misplaced (number at)
renumbered number other = other

-- the number in the whole text of a line that has this number in a piece with its front
abbrev pub moved_number : CarriedData → ℕ → ℕ
moved_number c at = c.lines + (at - length (front_lines c))

-- the fault of a piece with its front, as a fault of the whole text
abbrev pub moved : CarriedData → ReadFault → ReadFault
moved c fault = renumbered (moved_number c) fault

-- the same with numbers of 64 bits: a larger number is told as the largest of them
abbrev pub told : CarriedData → ReadFault → ReadFault
told c fault = renumbered (λ at. min (moved_number c at) (2 ^ 64 - 1)) fault

-- the test's name after these sections: the name of the last one's test, or `test` if there are no sections
abbrev pub last_test : List ℕ → List SectData → List ℕ
last_test test [] = test
last_test test (sect ∷ sects) = last_test sect.test sects

-- what goes over after a piece of version 1 that is read as these sections, and after one of LCOV 2
abbrev pub carried_after : CarriedData → List ℕ → List SectData → CarriedData
carried_after c piece sects = record { test = last_test c.test sects; is_grouped = false; lines = c.lines + length (lines_of piece) }

abbrev pub lcov2_carried_after : CarriedData → List ℕ → List SectData → CarriedData
lcov2_carried_after c piece sects =
    record { test = last_test c.test sects; is_grouped = grouped_after c.is_grouped (lines_of piece); lines = c.lines + length (lines_of piece) }

-- sections one after another, and all their odd lines
abbrev pub joined : SubmissionData → SubmissionData → SubmissionData
joined first rest = record { sects = first.sects ++ rest.sects; odd = first.odd + rest.odd }

abbrev pub no_sections : SubmissionData
no_sections = record { sects = []; odd = 0 }

-- what a text is read as whose first part says this submission, and whose rest, behind its front, is read as this
abbrev pub with_first : SubmissionData → CarriedData → Result SubmissionData ReadFault → Result SubmissionData ReadFault
with_first first c (Ok rest) = Ok (joined first rest)
with_first first c (Err fault) = Err (moved c fault)

-- the pieces from a first one on, with what goes over to it, and what they say together: the sections of all in order, or the
-- first fault with its number in the whole text. Each piece is read by itself, behind its front
abbrev pub ReadsInPieces : (List ℕ → Result SubmissionData ReadFault → Type 0) → (CarriedData → List ℕ → List SectData → CarriedData)
    → CarriedData → List (List ℕ) → Result SubmissionData ReadFault → Type 0
ReadsInPieces IsOutcome next c [] (Ok whole) = whole ≡ no_sections
ReadsInPieces IsOutcome next c [] (Err fault) = ⊥
ReadsInPieces IsOutcome next c (piece ∷ pieces) (Ok whole) =
    (first : SubmissionData) × (rest : SubmissionData) × IsOutcome (front_text c ++ piece) (Ok first)
    × ReadsInPieces IsOutcome next (next c piece first.sects) pieces (Ok rest) × (whole ≡ joined first rest)
ReadsInPieces IsOutcome next c (piece ∷ pieces) (Err fault) =
    ((told : ReadFault) × IsOutcome (front_text c ++ piece) (Err told) × (fault ≡ moved c told))
    ⊎ ((first : SubmissionData) × IsOutcome (front_text c ++ piece) (Ok first) × ReadsInPieces IsOutcome next (next c piece first.sects) pieces (Err fault))

-- ---- reading one piece after another

-- all sections of these submissions in order, and all their odd lines
abbrev pub all_of : List SubmissionData → SubmissionData
all_of [] = no_sections
all_of (submission ∷ submissions) = joined submission (all_of submissions)

-- from `c` on, these pieces were read as these submissions, and `last` goes over to the next piece. Each piece ends with a section
abbrev pub HaveBeenRead : (List ℕ → Result SubmissionData ReadFault → Type 0) → (CarriedData → List ℕ → List SectData → CarriedData)
    → CarriedData → List (List ℕ) → List SubmissionData → CarriedData → Type 0
HaveBeenRead IsOutcome next c [] [] last = last ≡ c
HaveBeenRead IsOutcome next c [] (submission ∷ submissions) last = ⊥
HaveBeenRead IsOutcome next c (piece ∷ pieces) [] last = ⊥
HaveBeenRead IsOutcome next c (piece ∷ pieces) (submission ∷ submissions) last =
    EndsSection piece × IsOutcome (front_text c ++ piece) (Ok submission) × HaveBeenRead IsOutcome next (next c piece submission.sects) pieces submissions last

-- what a reader in pieces relies on, if this is the outcome of a piece, what goes over, and what a whole text is read as
pub record OneByOne (IsOutcome IsWhole : List ℕ → Result SubmissionData ReadFault → Type 0) (next : CarriedData → List ℕ → List SectData → CarriedData) : Type 0 where
  -- one more piece
  pub more : (pieces : List (List ℕ)) (submissions : List SubmissionData) (c : CarriedData) (piece : List ℕ) (submission : SubmissionData)
      → HaveBeenRead IsOutcome next nothing_carried pieces submissions c → EndsSection piece → IsOutcome (front_text c ++ piece) (Ok submission)
      → HaveBeenRead IsOutcome next nothing_carried (pieces ++ piece ∷ []) (submissions ++ submission ∷ []) (next c piece submission.sects)
  -- the last piece
  pub last : (pieces : List (List ℕ)) (submissions : List SubmissionData) (c : CarriedData) (piece : List ℕ) (outcome : Result SubmissionData ReadFault)
      → HaveBeenRead IsOutcome next nothing_carried pieces submissions c → IsOutcome (front_text c ++ piece) outcome
      → (outcome ≡ Err TooLong) ⊎ IsWhole (concat pieces ++ piece) (with_first (all_of submissions) c outcome)
  -- a faulty piece, after which the text goes on
  pub fault : (pieces : List (List ℕ)) (submissions : List SubmissionData) (c : CarriedData) (piece rest : List ℕ) (fault : ReadFault)
      → HaveBeenRead IsOutcome next nothing_carried pieces submissions c → EndsSection piece → IsOutcome (front_text c ++ piece) (Err fault)
      → (fault ≡ TooLong) ⊎ IsWhole (concat pieces ++ piece ++ rest) (Err (moved c fault))
