-- The lines of a text. A text is cut after each line feed. The last line may have no line feed. Line feeds, and the carriage
-- returns at the end of a line, don't belong to the line.
use Rattle.std.specs.Prelude.{◌≡◌, ℕ, List, [], ◌∷◌, ◌++◌, ◌==◌, map, if◌then◌else◌}
use Rattle.covdata.specs.Delimiters.{line_feed, carriage_return}

-- puts a byte at the beginning of the first piece
abbrev pub onto_first : ℕ → List (List ℕ) → List (List ℕ)
onto_first b [] = (b ∷ []) ∷ []
onto_first b (piece ∷ pieces) = (b ∷ piece) ∷ pieces

-- a text cut after each line feed: joined again, the pieces make up the text
abbrev pub pieces_of : List ℕ → List (List ℕ)
pieces_of [] = []
pieces_of (b ∷ bs) = if b == line_feed then (b ∷ []) ∷ pieces_of bs else onto_first b (pieces_of bs)

-- the bytes before the first line feed
abbrev pub before_feed : List ℕ → List ℕ
before_feed [] = []
before_feed (b ∷ bs) = if b == line_feed then [] else b ∷ before_feed bs

-- puts a byte before a line that has no carriage returns at its end. A carriage return before an empty line is left out
abbrev pub before_stripped : ℕ → List ℕ → List ℕ
before_stripped b [] = if b == carriage_return then [] else b ∷ []
before_stripped b (c ∷ cs) = b ∷ c ∷ cs

-- the text without the carriage returns at its end
abbrev pub strip : List ℕ → List ℕ
strip [] = []
strip (b ∷ bs) = before_stripped b (strip bs)

-- the line of a piece: without its line feed, and without the carriage returns before that
abbrev pub line_of : List ℕ → List ℕ
line_of piece = strip (before_feed piece)

-- the lines of a text, blank ones too
abbrev pub lines_of : List ℕ → List (List ℕ)
lines_of text = map line_of (pieces_of text)

-- the text is cut after its first piece: `line` is the line of this piece, and `rest` is what follows the piece
pub record IsFirstCut (text line rest : List ℕ) : Type 0 where
  pub piece : List ℕ
  pub first : pieces_of text ≡ piece ∷ pieces_of rest
  pub line_is : line ≡ line_of piece
  pub after : text ≡ piece ++ rest
