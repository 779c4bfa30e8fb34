-- How a line is read: first its key, and then the key's fields from left to right. `proofs/ReadLaws.antt` proves that this
-- agrees with `Spells` and `HasFault`.
use Rattle.std.specs.Prelude.{ℕ, ◌+◌, ◌-◌, ◌*◌, ◌^◌, ◌≡◌, Bool, true, false, not, ◌&&◌, ◌==◌, nat_lt, nat_le, if◌then◌else◌, List, [], ◌∷◌, Option, Some, None, Result, Ok, Err, codes, option_map}
use Rattle.covline.specs.declared.reader.Number.{Number}
use Rattle.covline.specs.declared.reader.Number.TheVariants.{Value, U128, TooLarge}
use Rattle.covdata.specs.declared.trace_line.TraceLine.{TraceLine}
use Rattle.covdata.specs.declared.trace_line.TotalKind.{TotalKind}
use Rattle.covdata.specs.declared.trace_line.TotalKind.TheVariants.{FuncFound, FuncHit, BranchFound, BranchHit, LineFound, LineHit}
use Rattle.covdata.specs.declared.trace_line.LineFault.{LineFault}
use Rattle.covdata.specs.declared.trace_line.LineFault.TheVariants.{BadLine, NumberTooLarge, EmptyPath}
use Rattle.covdata.specs.Records.{LineData, Test, Path, FuncStart, FuncCount, Branch, Line, Total, End, Skip, line_data, minus}
use Rattle.covdata.specs.Delimiters.{comma}

-- the result of a function, as plain data, is this one
abbrev pub Gives : Result TraceLine LineFault → Result LineData LineFault → Type 0
Gives (Ok line) read = read ≡ Ok (line_data line)
Gives (Err fault) read = read ≡ Err fault

-- whether the byte is a digit
abbrev pub is_digit : ℕ → Bool
is_digit b = nat_le 48 b && nat_le b 57

-- the number, in the variant of its size: below 2^64, below 2^128, or larger
abbrev pub sized_number : ℕ → Number
sized_number n = if nat_lt n (2 ^ 64) then Value n else (if nat_lt n (2 ^ 128) then U128 n else TooLarge)

-- a number followed by one more digit
abbrev pub with_digit : Number → ℕ → Number
with_digit TooLarge b = TooLarge
with_digit (Value n) b = sized_number (n * 10 + (b - 48))
with_digit (U128 n) b = sized_number (n * 10 + (b - 48))

-- the number with the digits at the front of the text appended to it, and what follows these digits
abbrev pub digits_from : Number → List ℕ → Number × List ℕ
digits_from value [] = (value, [])
digits_from value (b ∷ bs) = if is_digit b then digits_from (with_digit value b) bs else (value, b ∷ bs)

-- the number at the front, and what follows it; `None` if the text doesn't begin with a digit
abbrev pub number_at : List ℕ → Option (Number × List ℕ)
number_at [] = None
number_at (b ∷ bs) = if is_digit b then Some (digits_from (Value 0) (b ∷ bs)) else None

-- the number, if nothing follows it
abbrev pub if_last : Number → List ℕ → Option Number
if_last value [] = Some value
if_last value (b ∷ bs) = None

abbrev pub whole : Option (Number × List ℕ) → Option Number
whole None = None
whole (Some front) = if_last front.0 front.1

-- the number that the text is, or `None` if the text isn't one or more digits
abbrev pub number_of : List ℕ → Option Number
number_of text = whole (number_at text)

-- 0 in place of the number that was read, and what follows it: a count below 0 counts as 0
abbrev pub as_zero : Number × List ℕ → Number × List ℕ
as_zero front = (Value 0, front.1)

-- the execution count at the front, and what follows it
abbrev pub count_at : List ℕ → Option (Number × List ℕ)
count_at [] = None
count_at (b ∷ bs) = if b == minus then option_map as_zero (number_at bs) else number_at (b ∷ bs)

-- the number, and what follows the comma at the front of the text; `None` if the text doesn't begin with a comma
abbrev pub before_comma : Number → List ℕ → Option (Number × List ℕ)
before_comma number [] = None
before_comma number (b ∷ bs) = if b == comma then Some (number, bs) else None

abbrev pub field_of : Option (Number × List ℕ) → Option (Number × List ℕ)
field_of None = None
field_of (Some front) = before_comma front.0 front.1

-- the number at the front, and what follows the comma after it
abbrev pub field_at : List ℕ → Option (Number × List ℕ)
field_at text = field_of (number_at text)

-- how often a branch was taken: `Some None` for `-`, and `None` if the text is neither `-` nor a number
abbrev pub taken_of : List ℕ → Option (Option Number)
taken_of [] = None
taken_of (b ∷ []) = if b == minus then Some None else option_map Some (number_of (b ∷ []))
taken_of (b ∷ c ∷ cs) = option_map Some (number_of (b ∷ c ∷ cs))

-- whether a checksum may have the byte: all but comma, space, tab, carriage return and line feed
abbrev pub is_checksum_byte : ℕ → Bool
is_checksum_byte b = not (b == 44) && (not (b == 32) && (not (b == 9) && (not (b == 13) && not (b == 10))))

abbrev pub all_checksum_bytes : List ℕ → Bool
all_checksum_bytes [] = true
all_checksum_bytes (b ∷ bs) = is_checksum_byte b && all_checksum_bytes bs

abbrev pub is_checksum : List ℕ → Bool
is_checksum [] = false
is_checksum (b ∷ bs) = all_checksum_bytes (b ∷ bs)

-- the text, if it is a checksum
abbrev pub only_checksum : List ℕ → Option (List ℕ)
only_checksum text = if is_checksum text then Some text else None

-- the checksum in the text after a count: `Some None` if the text is empty, and `None` if it is anything else than a comma and a
-- checksum
abbrev pub checksum_of : List ℕ → Option (Option (List ℕ))
checksum_of [] = Some None
checksum_of (b ∷ bs) = if b == comma then option_map Some (only_checksum bs) else None

-- a reader of the fields after a key
abbrev pub Fields : Type 0
Fields = List ℕ → Result LineData LineFault

-- what is read with this part of the line, or `BadLine` if the line doesn't have the part
abbrev pub with_part : {A : Type 0} → Option A → (A → Result LineData LineFault) → Result LineData LineFault
with_part None says = Err BadLine
with_part (Some part) says = says part

-- the number if it fits 64 bits, else `NumberTooLarge`
abbrev pub fit : Number → Result ℕ LineFault
fit TooLarge = Err NumberTooLarge
fit (U128 n) = Err NumberTooLarge
fit (Value n) = Ok n

-- the count if it fits 128 bits, else `NumberTooLarge`
abbrev pub fit_count : Number → Result ℕ LineFault
fit_count TooLarge = Err NumberTooLarge
fit_count (U128 n) = Ok n
fit_count (Value n) = Ok n

abbrev pub if_ok : Result ℕ LineFault → (ℕ → Result LineData LineFault) → Result LineData LineFault
if_ok (Err fault) says = Err fault
if_ok (Ok n) says = says n

abbrev pub with_fit : Number → (ℕ → Result LineData LineFault) → Result LineData LineFault
with_fit number says = if_ok (fit number) says

abbrev pub with_count : Number → (ℕ → Result LineData LineFault) → Result LineData LineFault
with_count count says = if_ok (fit_count count) says

-- what is read with this name, or `BadLine` if the name is empty
abbrev pub with_name : List ℕ → Result LineData LineFault → Result LineData LineFault
with_name [] says = Err BadLine
with_name (b ∷ bs) says = says

-- what `FN:` says with this start line and this name
abbrev pub start_of : Number → List ℕ → Result LineData LineFault
start_of line name = with_fit line (λ n. Ok (FuncStart n name))

abbrev pub start_fields : Fields
start_fields fields = with_part (field_at fields) (λ line. with_name line.1 (start_of line.0 line.1))

-- what `FNDA:` says with this count and this name
abbrev pub func_count_of : Number → List ℕ → Result LineData LineFault
func_count_of count name = with_count count (λ n. Ok (FuncCount n name))

abbrev pub func_count_fields : Fields
func_count_fields fields = with_part (field_of (count_at fields)) (λ count. with_name count.1 (func_count_of count.0 count.1))

-- what `BRDA:` says of the branch with these three numbers, if it was taken this often
abbrev pub with_taken : ℕ → ℕ → ℕ → Option Number → Result LineData LineFault
with_taken line block branch None = Ok (Branch line block branch None)
with_taken line block branch (Some taken) = with_count taken (λ n. Ok (Branch line block branch (Some n)))

abbrev pub branch_of : Number → Number → Number → Option Number → Result LineData LineFault
branch_of line block branch taken = with_fit line (λ l. with_fit block (λ k. with_fit branch (λ b. with_taken l k b taken)))

abbrev pub branch_fields : Fields
branch_fields fields =
    with_part (field_at fields) (λ line. with_part (field_at line.1) (λ block. with_part (field_at block.1) (λ branch.
    with_part (taken_of branch.1) (λ taken. branch_of line.0 block.0 branch.0 taken))))

-- what `DA:` says with this line, this count and this checksum
abbrev pub count_of : Number → Number → Option (List ℕ) → Result LineData LineFault
count_of line count checksum = with_fit line (λ l. with_count count (λ n. Ok (Line l n checksum)))

abbrev pub line_fields : Fields
line_fields fields =
    with_part (field_at fields) (λ line. with_part (count_at line.1) (λ count. with_part (checksum_of count.1) (λ checksum. count_of line.0 count.0 checksum)))

abbrev pub total_of : TotalKind → Number → Result LineData LineFault
total_of kind value = with_fit value (λ n. Ok (Total kind n))

abbrev pub total_fields : TotalKind → Fields
total_fields kind fields = with_part (number_of fields) (λ value. total_of kind value)

abbrev pub test_fields : Fields
test_fields name = Ok (Test name)

abbrev pub path_fields : Fields
path_fields [] = Err EmptyPath
path_fields (b ∷ bs) = Ok (Path (b ∷ bs))

-- what follows the key, if the line begins with it
abbrev pub after_key : List ℕ → List ℕ → Option (List ℕ)
after_key [] line = Some line
after_key (k ∷ ks) [] = None
after_key (k ∷ ks) (b ∷ bs) = if k == b then after_key ks bs else None

abbrev pub keyed : Option (List ℕ) → Fields → Result LineData LineFault → Result LineData LineFault
keyed None fields otherwise = otherwise
keyed (Some rest) fields otherwise = fields rest

-- each key with the reader of its fields
abbrev pub forms : List (List ℕ × Fields)
forms =
    (codes "TN:", test_fields) ∷ (codes "SF:", path_fields) ∷ (codes "FN:", start_fields) ∷ (codes "FNDA:", func_count_fields) ∷ (codes "FNF:", total_fields FuncFound)
    ∷ (codes "FNH:", total_fields FuncHit) ∷ (codes "BRDA:", branch_fields) ∷ (codes "BRF:", total_fields BranchFound) ∷ (codes "BRH:", total_fields BranchHit)
    ∷ (codes "DA:", line_fields) ∷ (codes "LF:", total_fields LineFound) ∷ (codes "LH:", total_fields LineHit) ∷ []

abbrev pub read_by : List (List ℕ × Fields) → List ℕ → Result LineData LineFault
read_by [] line = keyed (after_key (codes "end_of_record") line) (λ rest. Ok End) (Ok Skip)
read_by (form ∷ others) line = keyed (after_key form.0 line) form.1 (read_by others line)

-- what the line says, or its fault
unfoldable pub read_of : List ℕ → Result LineData LineFault
read_of line = read_by forms line
