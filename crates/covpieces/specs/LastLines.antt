-- The last line of a text: for the private steps that go over the lines from the end.
use Rattle.std.specs.Prelude.{◌≡◌, ◌≢◌, ◌⊎◌, ℕ, Bool, true, false, ◌==◌, if◌then◌else◌, List, [], ◌∷◌, ◌++◌, All, Option, None, Some, codes}
use Rattle.covdata.specs.Delimiters.{line_feed}
use Rattle.covline.specs.Lines.{strip}
use Rattle.covline.specs.Spells.{Begins}
use Rattle.covpieces.specs.Sections.{EndsSection, has_key}

-- the text ends in a line feed
abbrev pub EndsInFeed : List ℕ → Type 0
EndsInFeed text = (front : List ℕ) × (text ≡ front ++ line_feed ∷ [])

-- the text is empty or ends in a line feed
abbrev pub HasWholeLines : List ℕ → Type 0
HasWholeLines text = (text ≡ []) ⊎ EndsInFeed text

-- none of the bytes is a line feed
abbrev pub HasNoFeed : List ℕ → Type 0
HasNoFeed text = All (λ b. b ≢ line_feed) text

-- the text is cut before its last line, and `line` is that line without its line feed
pub record IsLastCut (text front line : List ℕ) : Type 0 where
  pub parts : text ≡ front ++ (line ++ line_feed ∷ [])
  pub whole : HasWholeLines front
  pub one : HasNoFeed line

-- whether functions are grouped after this line, if the line decides it
abbrev pub grouping_of : List ℕ → Option Bool
grouping_of line = if has_key (codes "SF:") line then Some false else (if has_key (codes "FNL:") line then Some true else None)

-- the text without its last line, if that line doesn't end a section; `None` if it does, or if there is no line
abbrev pub IsShorter : List ℕ → Option (List ℕ) → Type 0
IsShorter text None = (text ≡ []) ⊎ EndsSection text
IsShorter text (Some front) = (line : List ℕ) × IsLastCut text front line × ¬ Begins (strip line) (codes "end_of_record")

abbrev pub is_feed : ℕ → Bool
is_feed b = b == line_feed
