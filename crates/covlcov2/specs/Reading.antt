-- How a line of LCOV 2 is read: first its key, and then the key's fields from left to right. `proofs/LineReading.antt` proves
-- that this agrees with `Spells`.
use Rattle.std.specs.Prelude.{ℕ, ◌≡◌, ◌==◌, ◌||◌, Bool, false, if◌then◌else◌, List, [], ◌∷◌, Option, Some, None, Result, Ok, Err, codes, option_map}
use Rattle.covline.specs.declared.reader.Number.{Number}
use Rattle.covdata.specs.declared.trace_line.LineFault.{LineFault}
use Rattle.covdata.specs.declared.trace_line.LineFault.TheVariants.{BadLine}
use Rattle.covdata.specs.Records.{LineData}
use Rattle.covdata.specs.Delimiters.{comma}
use Rattle.covline.specs.Reading.{after_key, number_at, number_of, count_at, field_of, field_at, taken_of, fit, fit_count, start_of, read_of}
use Rattle.covlcov2.specs.declared.line.Lcov2Line.{Lcov2Line}
use Rattle.covlcov2.specs.Spells.{Lcov2Data, Plain, Leader, Alias, Edge, lcov2_data, is_mark, is_exclusion}

-- the result of a function, as plain data, is this one
abbrev pub GivesLcov2 : Result Lcov2Line LineFault → Result Lcov2Data LineFault → Type 0
GivesLcov2 (Ok line) read = read ≡ Ok (lcov2_data line)
GivesLcov2 (Err fault) read = read ≡ Err fault

abbrev pub plain : Result LineData LineFault → Result Lcov2Data LineFault
plain (Err fault) = Err fault
plain (Ok says) = Ok (Plain says)

-- what is read with this part of the line, or `BadLine` if the line doesn't have the part
abbrev pub if_part : {A : Type 0} → Option A → (A → Result Lcov2Data LineFault) → Result Lcov2Data LineFault
if_part None says = Err BadLine
if_part (Some part) says = says part

-- what is read with this number, or why it doesn't fit
abbrev pub if_fits : {A : Type 0} → Result A LineFault → (A → Result Lcov2Data LineFault) → Result Lcov2Data LineFault
if_fits (Err fault) says = Err fault
if_fits (Ok n) says = says n

-- what is read with this name, or `BadLine` if the name is empty
abbrev pub if_named : List ℕ → Result Lcov2Data LineFault → Result Lcov2Data LineFault
if_named [] says = Err BadLine
if_named (b ∷ bs) says = says

-- ---- `FN:`

-- the name, if it isn't empty, or else the text that it was cut from
abbrev pub name_or : List ℕ → List ℕ → List ℕ
name_or text [] = text
name_or text (b ∷ bs) = b ∷ bs

abbrev pub name_from : List ℕ → Option (Number × List ℕ) → List ℕ
name_from text None = text
name_from text (Some end) = name_or text end.1

-- the name in the text after a start line, which may begin with an end line
abbrev pub name_in : List ℕ → List ℕ
name_in text = name_from text (field_at text)

abbrev pub start_fields : List ℕ → Result Lcov2Data LineFault
start_fields fields = if_part (field_at fields) (λ line. if_named (name_in line.1) (plain (start_of line.0 (name_in line.1))))

-- ---- `FNL:` and `FNA:`

-- the end line after a start line, if there is one; `None` if something else follows
abbrev pub end_of : List ℕ → Option (Option Number)
end_of [] = Some None
end_of (b ∷ bs) = if b == comma then option_map Some (number_of bs) else None

abbrev pub leader_of : Number → Number → Result Lcov2Data LineFault
leader_of index line = if_fits (fit index) (λ i. if_fits (fit line) (λ l. Ok (Leader i l)))

abbrev pub leader_fields : List ℕ → Result Lcov2Data LineFault
leader_fields fields =
    if_part (field_at fields) (λ index. if_part (number_at index.1) (λ line. if_part (end_of line.1) (λ end. leader_of index.0 line.0)))

abbrev pub alias_of : Number → Number → List ℕ → Result Lcov2Data LineFault
alias_of index count name = if_fits (fit index) (λ i. if_fits (fit_count count) (λ n. Ok (Alias i n name)))

abbrev pub alias_fields : List ℕ → Result Lcov2Data LineFault
alias_fields fields =
    if_part (field_at fields) (λ index. if_part (field_of (count_at index.1)) (λ count. if_named count.1 (alias_of index.0 count.0 count.1)))

-- ---- `BRDA:`

-- whether `U` is among the marks at the front of the text, or was before it, and what follows the marks
abbrev pub marks_from : Bool → List ℕ → Bool × List ℕ
marks_from is_excluded [] = (is_excluded, [])
marks_from is_excluded (b ∷ bs) = if is_mark b then marks_from (is_excluded || is_exclusion b) bs else (is_excluded, b ∷ bs)

-- puts a byte before the first of two texts
abbrev pub onto_front : ℕ → List ℕ × List ℕ → List ℕ × List ℕ
onto_front b parts = (b ∷ parts.0, parts.1)

-- a cut of the text after this byte, if there is one, or else at this byte, if it is a comma
abbrev pub cut_later : ℕ → List ℕ → Option (List ℕ × List ℕ) → Option (List ℕ × List ℕ)
cut_later b bs (Some parts) = Some (onto_front b parts)
cut_later b bs None = if b == comma then Some ([], bs) else None

-- what is before the last comma, and what follows it; `None` if there is no comma
abbrev pub last_cut : List ℕ → Option (List ℕ × List ℕ)
last_cut [] = None
last_cut (b ∷ bs) = cut_later b bs (last_cut bs)

-- the number of a branch, or `Some None` for an expression; `None` if the text is empty
abbrev pub branch_name : List ℕ → Option (Option Number)
branch_name [] = None
branch_name (b ∷ bs) = Some (number_of (b ∷ bs))

-- `Some` of a number that fits
abbrev pub some_fits : Result ℕ LineFault → Result (Option ℕ) LineFault
some_fits (Err fault) = Err fault
some_fits (Ok n) = Ok (Some n)

-- the number, if there is one, if it fits
abbrev pub fit_any : Option Number → Result (Option ℕ) LineFault
fit_any None = Ok None
fit_any (Some number) = some_fits (fit number)

-- the count, if there is one, if it fits
abbrev pub fit_any_count : Option Number → Result (Option ℕ) LineFault
fit_any_count None = Ok None
fit_any_count (Some count) = some_fits (fit_count count)

-- what `BRDA:` says of the branch with these numbers
abbrev pub edge_of : Bool → Number → Number → Option Number → Option Number → Result Lcov2Data LineFault
edge_of is_excluded line block branch taken =
    if_fits (fit line) (λ l. if_fits (fit block) (λ k. if_fits (fit_any branch) (λ b. if_fits (fit_any_count taken) (λ t. Ok (Edge is_excluded l k b t)))))

-- what follows the block, cut at the last comma: before it stands the branch, and after it how often the branch was taken
abbrev pub edge_end : Bool → Number → Number → List ℕ × List ℕ → Result Lcov2Data LineFault
edge_end is_excluded line block cut =
    if_part (branch_name cut.0) (λ branch. if_part (taken_of cut.1) (λ taken. edge_of is_excluded line block branch taken))

-- what follows the marks: the block, the branch and how often the branch was taken
abbrev pub edge_rest : Bool → Number → List ℕ → Result Lcov2Data LineFault
edge_rest is_excluded line text = if_part (field_at text) (λ block. if_part (last_cut block.1) (λ cut. edge_end is_excluded line block.0 cut))

abbrev pub marked_rest : Number → Bool × List ℕ → Result Lcov2Data LineFault
marked_rest line marked = edge_rest marked.0 line marked.1

abbrev pub edge_fields : List ℕ → Result Lcov2Data LineFault
edge_fields fields = if_part (field_at fields) (λ line. marked_rest line.0 (marks_from false line.1))

-- ---- a line

abbrev pub by_key : Option (List ℕ) → (List ℕ → Result Lcov2Data LineFault) → Result Lcov2Data LineFault → Result Lcov2Data LineFault
by_key None fields otherwise = otherwise
by_key (Some rest) fields otherwise = fields rest

-- what the line says, or its fault
unfoldable pub read_of_lcov2 : List ℕ → Result Lcov2Data LineFault
read_of_lcov2 line =
    by_key (after_key (codes "BRDA:") line) edge_fields (by_key (after_key (codes "FN:") line) start_fields (by_key (after_key (codes "FNL:") line) leader_fields
    (by_key (after_key (codes "FNA:") line) alias_fields (plain (read_of line)))))
