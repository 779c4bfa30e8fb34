-- A text after a line `trace` or `gcov`: how it is collected, taken, read and answered.
use Rattle.std.specs.List.{concat}
use Rattle.std.specs.Prelude.{◌≡◌, ◌⊎◌, ◌<◌, ◌≤◌, ℕ, Bool, false, length, List, [], ◌∷◌, ◌++◌, codes, Ok, Err, ◌-◌, ◌^◌, ◌==◌, min, if◌then◌else◌, take, Result}
use Rattle.covdata.specs.Delimiters.{carriage_return}
use Rattle.covline.specs.Lines.{line_of}
use Rattle.covdata.specs.Row.{SubmissionData}
use Rattle.covdata.specs.Fault.{is_memory}
use Rattle.covread.specs.Outcome.{max_bytes}
use Rattle.covdata.specs.declared.fault.ReadFault.{ReadFault}
use Rattle.covdata.specs.declared.fault.ReadFault.TheVariants as faults
use Rattle.covsession.specs.Command.{Command, Format, IsBody, IsReadAs, Submit, Refuse, Unfinished}
use Rattle.covsession.specs.Streams.{AreCut}
use Rattle.covsession.specs.declared.session.text.LineEnd.{LineEnd}
use Rattle.covsession.specs.declared.session.text.LineEnd.TheVariants.{Feed, Input}
use Rattle.covsession.specs.declared.session.text.LineSoFar.{LineSoFar}
use Rattle.covsession.specs.declared.session.text.LineSoFar.TheVariants.{Nothing, Dot, Other}
use Rattle.covsession.specs.declared.session.text.CollectedText.{CollectedText}
use Rattle.covsession.specs.declared.session.text.CollectedText.TheVariants as taken
use Rattle.covsession.specs.declared.session.text.CollectedText.TheVariants.{Whole, TooLong}
use Rattle.covsession.specs.declared.session.text.Text.{Text}

-- what a line that was begun is after one more byte: this decides whether it can be the line that ends a text
abbrev pub line_with : LineSoFar → ℕ → LineSoFar
line_with Nothing b = if b == 46 then Dot else Other
line_with Dot b = if b == carriage_return then Dot else Other
line_with Other b = Other

-- the same after some more bytes
abbrev pub line_after : LineSoFar → List ℕ → LineSoFar
line_after so_far [] = so_far
line_after so_far (b ∷ bs) = line_after (line_with so_far b) bs

-- these values hold a text that is being collected: its whole lines are `before`, and the line that was begun is `now`. At most
-- `limit` bytes are kept, and no count goes above 2^64 - 1
pub record IsCollected (limit : ℕ) (kept : List ℕ) (total begins : ℕ) (line : LineSoFar) (before now : List ℕ) : Type 0 where
  pub keeps : kept ≡ take limit (before ++ now)
  pub all : total ≡ min (length (before ++ now)) (2 ^ 64 - 1)
  pub start : begins ≡ min (length before) (2 ^ 64 - 1)
  pub so_far : line ≡ line_after Nothing now

-- this `Text` has collected the whole lines `before`, and `now` of the line that was begun
abbrev pub HasCollected : {A : Type 0} → Text A → List ℕ → List ℕ → Type 0
HasCollected text before now = IsCollected text.limit text.kept.items text.total text.begins text.line before now

-- the first byte is a dot
abbrev pub starts_with_dot : List ℕ → Bool
starts_with_dot [] = false
starts_with_dot (b ∷ bs) = b == 46

-- these bytes are whole lines, whatever follows, and none of them is the line that ends a text
pub record AreLines (bytes : List ℕ) : Type 0 where
  pub body : List (List ℕ)
  pub joined : concat body ≡ bytes
  pub none_last : IsBody body
  pub cut : AreCut Feed bytes body

-- what was taken is this whole text. It is kept unless it is too long
abbrev pub IsTextOf : {A : Type 0} → List ℕ → CollectedText A → Type 0
IsTextOf text (Whole kept) = (kept.items ≡ text) × (length text ≤ max_bytes)
IsTextOf text TooLong = max_bytes < length text
IsTextOf text taken.Unfinished = ⊥

-- the pieces are the lines of the text that was taken, and the line `.` that ends it
abbrev pub IsTextTaken : {A : Type 0} → List (List ℕ) → CollectedText A → Type 0
IsTextTaken pieces taken =
    (body : List (List ℕ)) × (last : List ℕ) × (pieces ≡ body ++ last ∷ []) × IsBody body × (line_of last ≡ codes ".")
    × IsTextOf (concat body) taken

-- the pieces are the lines of the text that was taken, and the line `.` that ends it. If the text is unfinished, they are all the
-- rest of the input, and none of them is a line `.`
abbrev pub IsTaken : {A : Type 0} → List (List ℕ) → LineEnd → CollectedText A → Type 0
IsTaken pieces ending (Whole kept) = IsTextTaken pieces (Whole kept)
IsTaken pieces ending TooLong = (body : List (List ℕ)) × (last : List ℕ) × (pieces ≡ body ++ last ∷ []) × IsBody body × (line_of last ≡ codes ".")
    × (max_bytes < length (concat body))
IsTaken pieces ending taken.Unfinished = IsBody pieces × (ending ≡ Input)

-- the command that a text is, by what it is read as
abbrev pub asked_for : Result SubmissionData ReadFault → List Command
asked_for (Ok submission) = Submit submission ∷ []
asked_for (Err fault) = Refuse fault ∷ []

-- the fault isn't that memory ran out, so it is answered
abbrev pub IsNotMemory : ReadFault → Type 0
IsNotMemory fault = is_memory fault ≡ false

-- a reader's result is what the text is read as, or that memory ran out
abbrev pub AnswersAs : Format → List ℕ → Result SubmissionData ReadFault → Type 0
AnswersAs format text answer = (answer ≡ Err faults.Memory) ⊎ IsReadAs format text answer

-- a reader's result isn't that memory ran out, so it is answered
abbrev pub IsReported : Result SubmissionData ReadFault → Type 0
IsReported (Ok submission) = Unit {0}
IsReported (Err fault) = IsNotMemory fault

-- what was taken of a text of this format is these commands
abbrev pub IsAnsweredAs : {A : Type 0} → Format → CollectedText A → List Command → Type 0
IsAnsweredAs format (Whole kept) commands =
    (outcome : Result SubmissionData ReadFault) × (commands ≡ asked_for outcome) × IsReadAs format kept.items outcome
    × ((other : Result SubmissionData ReadFault) → IsReadAs format kept.items other → other ≡ outcome)
IsAnsweredAs format TooLong commands = commands ≡ Refuse faults.TooLong ∷ []
IsAnsweredAs format taken.Unfinished commands = commands ≡ Unfinished ∷ []
