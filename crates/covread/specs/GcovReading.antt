-- How the code finds the shape of a line: it looks at the line from its front on. Proofs show that this is the first shape that
-- fits.
use Rattle.std.specs.Prelude.{ℕ, ◌+◌, ◌-◌, ◌^◌, Bool, true, false, not, ◌&&◌, ◌==◌, nat_lt, if◌then◌else◌, List, [], ◌∷◌, length, take, Option, Some, None, codes, option_map}
use Rattle.std.specs.Option.{option_or}
use Rattle.covline.specs.Spells.{digits_value}
use Rattle.covline.specs.Reading.{is_digit, after_key}
use Rattle.covread.specs.Gcov.{Shape, Instances, Function, Never, Taken, Block, Numbered, Other, is_space, is_mark_byte, is_word_byte}
use Rattle.covread.specs.declared.gcov.text.Class.{Class}
use Rattle.covread.specs.declared.gcov.text.Class.TheVariants as classes

-- whether a byte is of the class
abbrev pub in_class : Class → ℕ → Bool
in_class classes.Digit b = is_digit b
in_class classes.Space b = is_space b
in_class classes.Mark b = is_mark_byte b
in_class classes.Word b = is_word_byte b

-- the bytes of a kind at the front
abbrev pub front_of : (ℕ → Bool) → List ℕ → List ℕ
front_of kind [] = []
front_of kind (b ∷ bs) = if kind b then b ∷ front_of kind bs else []

-- what follows these bytes
abbrev pub rest_of : (ℕ → Bool) → List ℕ → List ℕ
rest_of kind [] = []
rest_of kind (b ∷ bs) = if kind b then rest_of kind bs else b ∷ bs

-- the bytes of a kind at the front, with what follows them; `None` if there is no such byte
abbrev pub some_front : (ℕ → Bool) → List ℕ → Option (List ℕ × List ℕ)
some_front kind [] = None
some_front kind (b ∷ bs) = if kind b then Some (front_of kind (b ∷ bs), rest_of kind (b ∷ bs)) else None

abbrev pub if_some : {A B : Type 0} → Option A → (A → Option B) → Option B
if_some None next = None
if_some (Some a) next = next a

-- what follows the spaces at the front; `None` if there is no space
abbrev pub after_spaces : List ℕ → Option (List ℕ)
after_spaces text = option_map (λ parts. parts.1) (some_front is_space text)

-- the number, if it is below 2^64
abbrev pub fitting : ℕ → Option ℕ
fitting n = if nat_lt n (2 ^ 64) then Some n else None

abbrev pub number_of : List ℕ → Option ℕ
number_of digits = fitting (digits_value digits)

-- what follows a word: it is empty, or begins with a space
abbrev pub ends_word : List ℕ → Bool
ends_word [] = true
ends_word (b ∷ bs) = b == 32

-- the name isn't empty and doesn't end in a carriage return
abbrev pub is_name : List ℕ → Bool
is_name [] = false
is_name (b ∷ []) = not (b == 13)
is_name (b ∷ d ∷ ds) = is_name (d ∷ ds)

-- what follows the last ` called `
abbrev pub last_called : List ℕ → Option (List ℕ)
last_called [] = None
last_called (b ∷ bs) = option_or (last_called bs) (after_key (codes " called ") (b ∷ bs))

abbrev pub before_called : List ℕ → List ℕ → List ℕ
before_called text following = take (length text - (length following + 8)) text

abbrev pub function_of : List ℕ → List ℕ → List ℕ → Option Shape
function_of name count rest = if is_name name && ends_word rest then Some (Function name count) else None

abbrev pub function_shape : List ℕ → Option Shape
function_shape text =
    if_some (last_called text) (λ following. if_some (some_front is_digit following) (λ count. function_of (before_called text following) count.0 count.1))

-- a branch's number, and what follows the spaces after it
abbrev pub branch_front : List ℕ → Option (List ℕ × List ℕ)
branch_front text =
    if_some (after_spaces text) (λ a. if_some (some_front is_digit a) (λ digits. if_some (after_spaces digits.1) (λ rest. Some (digits.0, rest))))

abbrev pub never_of : List ℕ → List ℕ → Option Shape
never_of branch rest = if ends_word rest then Some (Never branch) else None

abbrev pub taken_of : List ℕ → List ℕ → Option Shape
taken_of branch text = if_some (after_spaces text) (λ a. if_some (some_front is_word_byte a) (λ word. Some (Taken branch word.0)))

abbrev pub if_key : {A : Type 0} → Option (List ℕ) → (List ℕ → Option A) → Option A → Option A
if_key None next otherwise = otherwise
if_key (Some rest) next otherwise = next rest

abbrev pub branch_rest : List ℕ → List ℕ → Option Shape
branch_rest branch text =
    if_key (after_key (codes "never executed") text) (never_of branch)
    (if_key (after_key (codes "taken") text) (taken_of branch) None)

abbrev pub branch_shape : List ℕ → Option Shape
branch_shape text = if_some (branch_front text) (λ front. branch_rest front.0 front.1)

-- the shape of a block line, from the source line's number and what follows `-block`
abbrev pub block_of : List ℕ → List ℕ → Option Shape
block_of line text = if_some (after_spaces text) (λ a. if_some (some_front is_digit a) (λ block. Some (Block line block.0)))

-- the shape of a line with a mark, a colon and a number, from what follows the number
abbrev pub numbered_rest : List ℕ → List ℕ → List ℕ → Option Shape
numbered_rest mark line text =
    if_key (after_key (codes "-block") text) (block_of line)
    (if_key (after_key (codes ":") text) (λ rest. Some (Numbered mark line rest)) None)

-- the same, from what follows the mark
abbrev pub after_mark : List ℕ → List ℕ → Option Shape
after_mark mark text =
    if_some (after_key (codes ":") text) (λ a. if_some (some_front is_digit (rest_of is_space a)) (λ line. numbered_rest mark line.0 line.1))

abbrev pub numbered_shape : List ℕ → Option Shape
numbered_shape text = if_some (some_front is_mark_byte (rest_of is_space text)) (λ mark. after_mark mark.0 mark.1)

abbrev pub or_other : Option Shape → Shape
or_other None = Other
or_other (Some shape) = shape

-- the shape of a line that doesn't begin with `-----` or `function `. If it begins with `branch` and isn't a branch line, it may
-- still be a numbered line: a mark may begin with `branch` too
abbrev pub other_shape : List ℕ → Option Shape
other_shape line = option_or (if_key (after_key (codes "branch") line) branch_shape None) (numbered_shape line)

-- the shape of the line; `None` if it has none of the first six
abbrev pub any_shape : List ℕ → Option Shape
any_shape line =
    if_key (after_key (codes "-----") line) (λ rest. Some Instances)
    (if_key (after_key (codes "function ") line) function_shape
    (other_shape line))

unfoldable pub shape_of : List ℕ → Shape
shape_of line = or_other (any_shape line)
