-- The two lines after a line `rename`, while they are taken.
use Rattle.std.specs.Prelude.{◌≡◌, ◌<◌, ℕ, Bool, true, false, length, List, [], ◌∷◌, Option, Some, None}
use Rattle.covline.specs.Lines.{line_of}
use Rattle.covsession.specs.Streams.{Moment, TakesPieces, line_bytes, line_pieces}
use Rattle.covsession.specs.declared.session.rename.Names.{Names}
use Rattle.covsession.specs.declared.session.text.LineEnd.{LineEnd}
use Rattle.covsession.specs.declared.session.text.LineEnd.TheVariants.{Input}

-- whether these bytes with this ending are a line: they are none if the input ended before the line's first byte
abbrev pub IsThere : Bool → LineEnd → List ℕ → Type 0
IsThere true ending line = line_pieces ending line ≡ line_bytes ending line ∷ []
IsThere false ending line = (line ≡ []) × (ending ≡ Input)

-- a line was taken as a name, or the input ended before the line
abbrev pub TakesName : (m n : Moment) → Option (List ℕ × LineEnd) → Type 0
TakesName m n (Some (name, ending)) = (piece : List ℕ) × TakesPieces m n (piece ∷ []) ending [] × (line_of piece ≡ name)
TakesName m n None = TakesPieces m n [] Input []

-- two lines were taken as the old and the new name, or the input ended before both were there
abbrev pub TakesNames : {A : Type 0} → (m n : Moment) → Option (Names A) → Type 0
TakesNames m n (Some names) =
    (second : List ℕ) × (third : List ℕ) × TakesPieces m n (second ∷ third ∷ []) names.ending []
    × (line_of second ≡ names.old) × (line_of third ≡ names.new)
TakesNames m n None = (pieces : List (List ℕ)) × TakesPieces m n pieces Input [] × (length pieces < 2)

-- of the two names, at most the first is there
abbrev pub LacksName : List (List ℕ) → Type 0
LacksName pieces = length pieces < 2
