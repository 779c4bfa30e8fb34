-- Where the numbers and the texts of items lie in their lists: those of one item after those of the item before it.
use Rattle.std.specs.Prelude.{◌≡◌, ℕ, zero, suc, ◌+◌, ◌-◌, ◌≤◌, ◌%◌, nat_lt, List, [], ◌∷◌, ◌++◌, length, if◌then◌else◌, slice_set}
use Rattle.covpacked.specs.declared.parts.Kind.{Kind}
use Rattle.covpacked.specs.declared.parts.Kind.TheVariants.{Line, Checked, Taken, Untaken, Function}
use Rattle.covpacked.specs.declared.parts.Parts.{Parts}
use Rattle.covpacked.specs.Words.{kind_of, long_word, number_at, parts_of, upper_in}

-- how many numbers a short word of this kind has
abbrev pub short_room : Kind → ℕ
short_room Line = 0
short_room Checked = 2
short_room Taken = 1
short_room Untaken = 1
short_room Function = 0

-- how many numbers a word has
abbrev pub room_of : ℕ → ℕ
room_of word = if nat_lt word long_word then short_room (kind_of (word % 4)) else 6

-- where its numbers begin, if it has some
abbrev pub place_of : ℕ → ℕ
place_of word = if nat_lt word long_word then upper_in word else word - long_word

-- `from` if there is no room for a number, else `place`
abbrev pub begin_at : ℕ → ℕ → ℕ → ℕ
begin_at zero from place = from
begin_at (suc room) from place = place

-- the index of the word's first number; `from` if it has none
abbrev pub begin_of : ℕ → ℕ → ℕ
begin_of from word = begin_at (room_of word) from (place_of word)

-- the numbers of these words lie one after another, the first at `from` or later, and the last before `end`
abbrev pub LieBetween : ℕ → ℕ → List ℕ → Type 0
LieBetween end from [] = from ≤ end
LieBetween end from (word ∷ words) = (from ≤ begin_of from word) × LieBetween end (begin_of from word + room_of word) words

-- the index after the last byte of an item's text; 0 if it has none
abbrev pub text_end : Parts → Kind → ℕ
text_end p Line = 0
text_end p Checked = p.first + p.second
text_end p Taken = 0
text_end p Untaken = 0
text_end p Function = p.first + p.second

-- the text of the word's item is in the list of texts
abbrev pub HasText : List ℕ → List ℕ → ℕ → Type 0
HasText numbers texts word = text_end (parts_of numbers word) (parts_of numbers word).kind ≤ length texts

-- the numbers after the line of the item whose numbers begin at this index was replaced, if the item is a function
abbrev pub with_line_of : Kind → ℕ → ℕ → List ℕ → List ℕ
with_line_of Line begin line numbers = numbers
with_line_of Checked begin line numbers = numbers
with_line_of Taken begin line numbers = numbers
with_line_of Untaken begin line numbers = numbers
with_line_of Function begin line numbers = slice_set numbers (begin + 1) line

-- the same for the item of a word
abbrev pub with_line : ℕ → ℕ → List ℕ → List ℕ
with_line word line numbers = if nat_lt word long_word then numbers else with_line_of (kind_of (number_at numbers (word - long_word))) (word - long_word) line numbers

-- a branch's kind
abbrev pub IsBranch : Kind → Type 0
IsBranch Line = ⊥
IsBranch Checked = ⊥
IsBranch Taken = Unit {0}
IsBranch Untaken = Unit {0}
IsBranch Function = ⊥

-- the parts are packed into this word and into the numbers that follow those before
pub record IsPackedAs (parts : Parts) (word : ℕ) (before after : List ℕ) : Type 0 where
  pub more : List ℕ
  pub appended : after ≡ before ++ more
  pub read : parts_of after word ≡ parts
  pub lies : LieBetween (length after) (length before) (word ∷ [])

-- the parts were packed into one more word
pub record IsAppended (parts : Parts) (words words_after numbers numbers_after : List ℕ) : Type 0 where
  pub word : ℕ
  pub appended : words_after ≡ words ++ word ∷ []
  pub packed : IsPackedAs parts word numbers numbers_after

-- these numbers begin with those
pub record BeginWith (numbers_after numbers : List ℕ) : Type 0 where
  pub more : List ℕ
  pub appended : numbers_after ≡ numbers ++ more
