-- What one line of gcov's annotated source says (gcov(1), and the GCC manual's chapter on gcov). A line has the first
-- of seven shapes that fits it. The forms of function, block and branch lines are this project's profile of what gcov
-- writes with `-b -c`, with or without `-a`.
use Rattle.std.specs.Prelude.{◌≡◌, ◌≢◌, ℕ, ◌<◌, ◌^◌, Bool, true, false, not, ◌&&◌, ◌||◌, ◌==◌, nat_lt, if◌then◌else◌, List, [], ◌∷◌, ◌++◌, length, Option, Some, None, Result, Ok, Err, codes}
use Rattle.std.specs.List.{AllByRecursion, list_all}
use Rattle.std.specs.Str.{bytes_eq}
use Rattle.covdata.specs.Delimiters.{carriage_return}
use Rattle.covline.specs.Spells.{Begins, digits_value}
use Rattle.covline.specs.Reading.{is_digit, after_key}
use Rattle.covread.specs.declared.gcov.line.OwnFault.{OwnFault}
use Rattle.covread.specs.declared.gcov.line.OwnFault.TheVariants as own

-- ---- the seven shapes

-- the shapes in their order, each with the bytes of its parts
pub data Shape : Type 0 where
  Instances : Shape
  Function : (name count : List ℕ) → Shape
  Never : (branch : List ℕ) → Shape
  Taken : (branch word : List ℕ) → Shape
  Block : (line block : List ℕ) → Shape
  Numbered : (mark line text : List ℕ) → Shape
  Other : Shape

abbrev pub place_of : Shape → ℕ
place_of Instances = 1
place_of (Function name count) = 2
place_of (Never branch) = 3
place_of (Taken branch word) = 4
place_of (Block line block) = 5
place_of (Numbered mark line text) = 6
place_of Other = 7

abbrev pub space : ℕ
space = 32

abbrev pub colon : ℕ
colon = 58

abbrev pub is_space : ℕ → Bool
is_space b = b == space

-- a mark has neither spaces nor colons, a word has no spaces
abbrev pub is_mark_byte : ℕ → Bool
is_mark_byte b = not (b == space) && not (b == colon)

abbrev pub is_word_byte : ℕ → Bool
is_word_byte b = not (b == space)

-- all bytes are of this kind; there may be none
abbrev pub AreAll : (ℕ → Bool) → List ℕ → Type 0
AreAll kind bytes = AllByRecursion (λ b. kind b ≡ true) bytes

-- the same, and there is at least one byte
pub record AreSome (kind : ℕ → Bool) (bytes : List ℕ) : Type 0 where
  pub some : 0 < length bytes
  pub each : AreAll kind bytes

-- what follows a word: it is empty, or begins with a space
abbrev pub EndsWord : List ℕ → Type 0
EndsWord [] = Unit {0}
EndsWord (b ∷ bs) = b ≡ space

-- what follows a number: it doesn't begin with a digit
abbrev pub EndsDigits : List ℕ → Type 0
EndsDigits [] = Unit {0}
EndsDigits (b ∷ bs) = is_digit b ≡ false

-- the name of a function: it isn't empty, and doesn't end in a carriage return, so that it fits into a tracefile
pub record IsName (name : List ℕ) : Type 0 where
  pub some : 0 < length name
  pub no_return : (front : List ℕ) → name ≢ front ++ carriage_return ∷ []

-- the second list of bytes doesn't contain the first
abbrev pub Lacks : List ℕ → List ℕ → Type 0
Lacks words text = (before after : List ℕ) → text ≢ before ++ (words ++ after)

-- the line has the form of this shape. The values of its numbers don't matter here
abbrev pub HasShape : List ℕ → Shape → Type 0
HasShape line Instances = Begins line (codes "-----")
-- the ` called ` is the one that begins last
HasShape line (Function name count) =
    (rest : List ℕ) × (line ≡ codes "function " ++ (name ++ (codes " called " ++ (count ++ rest))))
    × IsName name × AreSome is_digit count × EndsWord rest × Lacks (codes " called ") (codes "called " ++ (count ++ rest))
HasShape line (Never branch) =
    (gap wide rest : List ℕ) × (line ≡ codes "branch" ++ (gap ++ (branch ++ (wide ++ (codes "never executed" ++ rest)))))
    × AreSome is_space gap × AreSome is_digit branch × AreSome is_space wide × EndsWord rest
HasShape line (Taken branch word) =
    (gap wide last rest : List ℕ) × (line ≡ codes "branch" ++ (gap ++ (branch ++ (wide ++ (codes "taken" ++ (last ++ (word ++ rest)))))))
    × AreSome is_space gap × AreSome is_digit branch × AreSome is_space wide × AreSome is_space last × AreSome is_word_byte word × EndsWord rest
HasShape line (Block number block) =
    (indent mark pad gap rest : List ℕ) × (line ≡ indent ++ (mark ++ colon ∷ (pad ++ (number ++ (codes "-block" ++ (gap ++ (block ++ rest)))))))
    × AreAll is_space indent × AreSome is_mark_byte mark × AreAll is_space pad × AreSome is_digit number
    × AreSome is_space gap × AreSome is_digit block × EndsDigits rest
HasShape line (Numbered mark number text) =
    (indent pad : List ℕ) × (line ≡ indent ++ (mark ++ colon ∷ (pad ++ (number ++ colon ∷ text))))
    × AreAll is_space indent × AreSome is_mark_byte mark × AreAll is_space pad × AreSome is_digit number
HasShape line Other = Unit {0}

-- the line has this shape, and none of those before it
pub record IsShapeOf (line : List ℕ) (shape : Shape) : Type 0 where
  pub fits : HasShape line shape
  pub first : (other : Shape) → place_of other < place_of shape → ¬ HasShape line other

-- ---- what a shape says

-- what a line says: the path of a source file; the count of a source line (`None` if it has no code), of a function, or
-- of a branch (`None` if it was never executed); the number of a block; or nothing that is read
pub data GcovLine : Type 0 where
  Path : (path : List ℕ) → GcovLine
  SourceLine : (line : ℕ) (count : Option ℕ) → GcovLine
  FuncCount : (name : List ℕ) (count : ℕ) → GcovLine
  BranchCount : (branch : ℕ) (taken : Option ℕ) → GcovLine
  BlockNumber : (block : ℕ) → GcovLine
  Nothing : GcovLine

abbrev pub Says : Type 0
Says = Result GcovLine OwnFault

-- the number that digits say, if it is below 2^64
abbrev pub fit : List ℕ → Result ℕ OwnFault
fit digits = if nat_lt (digits_value digits) (2 ^ 64) then Ok (digits_value digits) else Err own.NumberTooLarge

abbrev pub if_ok : Result ℕ OwnFault → (ℕ → Says) → Says
if_ok (Err fault) says = Err fault
if_ok (Ok n) says = says n

abbrev pub with_number : List ℕ → (ℕ → Says) → Says
with_number digits says = if_ok (fit digits) says

abbrev pub are_digits : List ℕ → Bool
are_digits text = nat_lt 0 (length text) && list_all is_digit text

-- the bytes without the last one, if that is this byte; otherwise all bytes
abbrev pub without_last : ℕ → List ℕ → List ℕ
without_last c [] = []
without_last c (b ∷ []) = if b == c then [] else b ∷ []
without_last c (b ∷ d ∷ ds) = b ∷ without_last c (d ∷ ds)

abbrev pub percent : ℕ
percent = 37

-- what a line says of how often a branch was taken. Only a number is accepted. If the word is a percentage or of another form,
-- this is the fault, even if the branch's number is too large
abbrev pub branch_says : List ℕ → List ℕ → Says
branch_says branch word =
    if are_digits word then with_number branch (λ b. with_number word (λ n. Ok (BranchCount b (Some n))))
    else (if are_digits (without_last percent word) then Err own.Percent else Err own.BadMark)

abbrev pub star : ℕ
star = 42

-- what the line of a source line without code says
abbrev pub bare_says : List ℕ → Says
bare_says line = with_number line (λ l. Ok (SourceLine l None))

-- what the line of a source line says, by its mark. `-`: it has no code. `#####` or `=====`: it wasn't executed. Otherwise the
-- mark is a count, with a `*` at its end if the line has a block that wasn't executed
abbrev pub source_says : List ℕ → List ℕ → Says
source_says mark line =
    if bytes_eq mark (codes "-") then bare_says line
    else (if bytes_eq mark (codes "#####") || bytes_eq mark (codes "=====") then with_number line (λ l. Ok (SourceLine l (Some 0)))
    else (if are_digits (without_last star mark) then with_number line (λ l. with_number (without_last star mark) (λ n. Ok (SourceLine l (Some n))))
    else Err own.BadMark))

-- a line with the number 0 is about the source file as a whole; only the file's path matters
abbrev pub path_says : Option (List ℕ) → Says
path_says None = Ok Nothing
path_says (Some path) = Ok (Path path)

-- what a line of this shape says, or its own fault
abbrev pub says_of : Shape → Says
says_of Instances = Err own.Instances
says_of (Function name count) = with_number count (λ n. Ok (FuncCount name n))
says_of (Never branch) = with_number branch (λ b. Ok (BranchCount b None))
says_of (Taken branch word) = branch_says branch word
says_of (Block line block) = with_number line (λ _. with_number block (λ b. Ok (BlockNumber b)))
says_of (Numbered mark line text) = if digits_value line == 0 then path_says (after_key (codes "Source:") text) else source_says mark line
says_of Other = Ok Nothing

-- what the line says, or its own fault
abbrev pub LineSays : List ℕ → Says → Type 0
LineSays line says = (shape : Shape) × IsShapeOf line shape × (says ≡ says_of shape)
