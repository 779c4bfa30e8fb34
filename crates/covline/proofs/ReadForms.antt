-- The fields after each key. Fields that have the key's form are read as what they say, if their numbers are small enough.
-- Fields that don't have the form are refused.
use Rattle.std.proofs.Common.{◌≡◌, ℕ, ◌^◌, ◌<◌, ◌⊎◌, inl, inr, List, [], ◌∷◌, ◌++◌, length, Option, Some, None, option_map, Result, Ok, Err, refl, ap, ◌∙◌, arith}
use Rattle.std.specs.Prelude.{codes}
use Rattle.std.proofs.lemmas.Bool.{cases_lt}
use Rattle.std.proofs.lemmas.List.{append-nil}
use Rattle.covdata.specs.declared.trace_line.LineFault.{LineFault}
use Rattle.covdata.specs.declared.trace_line.LineFault.TheVariants.{BadLine, NumberTooLarge}
use Rattle.covdata.specs.Records.{LineData, Test, Path, FuncStart, FuncCount, Branch, Line, Total, End, Skip, HasSmallNumbers}
use Rattle.covdata.specs.Delimiters.{comma}
use Rattle.covline.specs.Spells.{IsNumeral, IsCount, IsTaken, HasForm}
use Rattle.covline.specs.Reading.{Fields, sized_number, with_fit, with_count, with_name, start_of, start_fields, func_count_of, func_count_fields, with_taken, branch_of, branch_fields, count_of, line_fields, total_of}
use Rattle.covline.proofs.ReadNumbers.{Stops, fit_small, fit_large, count_small, count_large, field_is, BeginsWithField, field_or_none, field_read, count_is, BeginsWithCount, count_or_none, count_read, comma_or_none, taken_is, taken_or_none}
use Rattle.covline.proofs.Checksums.{IsAfterCount, checksum_read, checksum_or_none}

-- what a line of this record's form is read as: the record, or `NumberTooLarge` if its numbers aren't small
abbrev pub sized : LineData → Result LineData LineFault
sized (Test name) = Ok (Test name)
sized (Path path) = Ok (Path path)
sized (FuncStart number name) = start_of (sized_number number) name
sized (FuncCount count name) = func_count_of (sized_number count) name
sized (Branch number block branch taken) = branch_of (sized_number number) (sized_number block) (sized_number branch) (option_map sized_number taken)
sized (Line number count checksum) = count_of (sized_number number) (sized_number count) checksum
sized (Total kind value) = total_of kind (sized_number value)
sized End = Ok End
sized Skip = Ok Skip

pub sized_small : (says : LineData) → HasSmallNumbers says → sized says ≡ Ok says
sized_small (Test name) small = refl
sized_small (Path path) small = refl
sized_small (FuncStart number name) small = rw (fit_small number small) refl
sized_small (FuncCount count name) small = rw (count_small count small) refl
sized_small (Branch number block branch None) small =
    rw (fit_small number small.0, fit_small block small.1, fit_small branch small.2) refl
sized_small (Branch number block branch (Some taken)) small =
    rw (fit_small number small.0, fit_small block small.1, fit_small branch small.2, count_small taken small.3) refl
sized_small (Line number count checksum) small = rw (fit_small number small.0, count_small count small.1) refl
sized_small (Total kind value) small = rw (fit_small value small) refl
sized_small End small = refl
sized_small Skip small = refl

-- `small` holds, or it doesn't and `NumberTooLarge` is read
abbrev IsSized : Type 0 → Result LineData LineFault → Type 0
IsSized small read = small ⊎ ((¬ small) × (read ≡ Err NumberTooLarge))

-- the last number of a record, if it isn't a count
last_sized : (n : ℕ) (says : ℕ → Result LineData LineFault) → IsSized (n < 2 ^ 64) (with_fit (sized_number n) says)
last_sized n says =
    elim (cases_lt n (2 ^ 64)) [
      | inl lt ↦ inl lt
      | inr le ↦ inr (λ lt. omega (arith, lt), rw (fit_large n le) refl)
    ]

-- the last number of a record, if it is a count
last_counted : (n : ℕ) (says : ℕ → Result LineData LineFault) → IsSized (n < 2 ^ 128) (with_count (sized_number n) says)
last_counted n says =
    elim (cases_lt n (2 ^ 128)) [
      | inl lt ↦ inl lt
      | inr le ↦ inr (λ lt. omega (arith, lt), rw (count_large n le) refl)
    ]

-- a number with others after it
more_sized : (n : ℕ) (says : ℕ → Result LineData LineFault) (small : Type 0) → IsSized small (says n) → IsSized ((n < 2 ^ 64) × small) (with_fit (sized_number n) says)
more_sized n says small others =
    elim (cases_lt n (2 ^ 64)) [
      | inl lt ↦ elim others [
        | inl all ↦ inl (lt, all)
        | inr large ↦ inr (λ all. large.0 all.1, rw (fit_small n lt) large.1)
      ]
      | inr le ↦ inr (λ all. omega (arith, all.0), rw (fit_large n le) refl)
    ]

-- what a branch is read as once its line, block and number are known to be small
abbrev after_branch : Option ℕ → ℕ → ℕ → ℕ → Result LineData LineFault
after_branch taken number block b = with_taken number block b (option_map sized_number taken)

-- what a branch is read as once its line and block are known to be small
abbrev after_block : ℕ → Option ℕ → ℕ → ℕ → Result LineData LineFault
after_block branch taken number k = with_fit (sized_number branch) (after_branch taken number k)

-- what a branch is read as once its line is known to be small
abbrev after_number : ℕ → ℕ → Option ℕ → ℕ → Result LineData LineFault
after_number block branch taken l = with_fit (sized_number block) (after_block branch taken l)

-- if `IsSized` holds with a condition, it holds with any equivalent one
resized : {P Q : Type 0} (read : Result LineData LineFault) → (P → Q) → (Q → P) → IsSized P read → IsSized Q read
resized read there back (inl small) = inl (there small)
resized read there back (inr large) = inr (λ small. large.0 (back small), large.1)

-- a branch's numbers are small, or it is read as too large: its numbers are looked at one by one
branch_sized : (number block branch : ℕ) (taken : Option ℕ) → IsSized (HasSmallNumbers (Branch number block branch taken)) (sized (Branch number block branch taken))
branch_sized number block branch None =
    resized (sized (Branch number block branch None)) (λ small. (small.0, small.1.0, small.1.1)) (λ small. (small.0, (small.1, small.2)))
    (more_sized number (after_number block branch None) ((block < 2 ^ 64) × (branch < 2 ^ 64))
    (more_sized block (after_block branch None number) (branch < 2 ^ 64) (last_sized branch (after_branch None number block))))
branch_sized number block branch (Some taken) =
    resized (sized (Branch number block branch (Some taken))) (λ small. (small.0, small.1.0, small.1.1.0, small.1.1.1)) (λ small. (small.0, (small.1, (small.2, small.3))))
    (more_sized number (after_number block branch (Some taken)) ((block < 2 ^ 64) × ((branch < 2 ^ 64) × (taken < 2 ^ 128)))
    (more_sized block (after_block branch (Some taken) number) ((branch < 2 ^ 64) × (taken < 2 ^ 128))
    (more_sized branch (after_branch (Some taken) number block) (taken < 2 ^ 128) (last_counted taken (λ t. Ok (Branch number block branch (Some t)))))))

-- the numbers of a record are small, or `NumberTooLarge` is read
pub small_or_large : (says : LineData) → IsSized (HasSmallNumbers says) (sized says)
small_or_large (Test name) = inl tt
small_or_large (Path path) = inl tt
small_or_large (FuncStart number name) = last_sized number (λ n. Ok (FuncStart n name))
small_or_large (FuncCount count name) = last_counted count (λ n. Ok (FuncCount n name))
small_or_large (Branch number block branch taken) = branch_sized number block branch taken
small_or_large (Line number count checksum) = more_sized number (λ l. with_count (sized_number count) (λ n. Ok (Line l n checksum))) (count < 2 ^ 128) (last_counted count (λ n. Ok (Line number n checksum)))
small_or_large (Total kind value) = last_sized value (λ n. Ok (Total kind n))
small_or_large End = inl tt
small_or_large Skip = inl tt

-- ---- what has a form is read as what it says

named : (name : List ℕ) (says : Result LineData LineFault) → 0 < length name → with_name name says ≡ says
named [] says some = absurd (omega (arith, some))
named (b ∷ bs) says some = refl

pub start_read : (digits name : List ℕ) (number : ℕ) → IsNumeral digits number → 0 < length name → start_fields (digits ++ comma ∷ name) ≡ sized (FuncStart number name)
start_read digits name number numeral some = rw (field_is digits name number numeral) (named name (sized (FuncStart number name)) some)

pub calls_read : (text name : List ℕ) (count : ℕ) → IsCount text count → 0 < length name → func_count_fields (text ++ comma ∷ name) ≡ sized (FuncCount count name)
calls_read text name count counts some = rw (count_is text (comma ∷ name) count counts refl) (named name (sized (FuncCount count name)) some)

pub branch_read : (digits blocks branches text : List ℕ) (number block branch : ℕ) (taken : Option ℕ) → IsNumeral digits number → IsNumeral blocks block → IsNumeral branches branch → IsTaken text taken → branch_fields (digits ++ comma ∷ (blocks ++ comma ∷ (branches ++ comma ∷ text))) ≡ sized (Branch number block branch taken)
branch_read digits blocks branches text number block branch taken numbers block_is branch_is taken_so =
    rw (
      field_is digits (blocks ++ comma ∷ (branches ++ comma ∷ text)) number numbers,
      field_is blocks (branches ++ comma ∷ text) block block_is,
      field_is branches text branch branch_is,
      taken_is text taken taken_so,
    ) refl

-- what follows a line's count doesn't begin with a digit
after_stops : (rest : List ℕ) (checksum : Option (List ℕ)) → IsAfterCount rest checksum → Stops rest
after_stops [] checksum after = tt
after_stops (b ∷ bs) None after = absurd cc
after_stops (b ∷ bs) (Some checksum) after = let e : b ≡ comma = cc in rw e refl

pub line_read : (digits text rest : List ℕ) (number count : ℕ) (checksum : Option (List ℕ)) → IsNumeral digits number → IsCount text count → IsAfterCount rest checksum → line_fields (digits ++ comma ∷ (text ++ rest)) ≡ sized (Line number count checksum)
line_read digits text rest number count checksum numeral counts after =
    rw (
      field_is digits (text ++ rest) number numeral,
      count_is text rest count counts (after_stops rest checksum after),
      checksum_read rest checksum after,
    ) refl

-- ---- fields have their key's form, or are refused

-- the line of this key and these fields has a form, or its fields are refused
abbrev pub IsFormed : List ℕ → Fields → List ℕ → Type 0
IsFormed key reader fields = ((says : LineData) × HasForm (key ++ fields) says) ⊎ (reader fields ≡ Err BadLine)

name_or_none : (name : List ℕ) (says : Result LineData LineFault) → (0 < length name) ⊎ (with_name name says ≡ Err BadLine)
name_or_none [] says = inr refl
name_or_none (b ∷ bs) says = inl (omega arith)

pub start_formed : (fields : List ℕ) → IsFormed (codes "FN:") start_fields fields
start_formed fields =
    elim (field_or_none fields) [
      | inl line ↦ elim (name_or_none line.rest (start_of (sized_number line.number) line.rest)) [
        | inl some ↦ inl (FuncStart line.number line.rest, (line.digits, ap (λ (t : List ℕ). codes "FN:" ++ t) line.parts, line.numeral, some))
        | inr none ↦ inr (rw (field_read fields line) none)
      ]
      | inr none ↦ inr (rw none refl)
    ]

calls_from : (fields : List ℕ) (front : BeginsWithCount fields) (name : List ℕ) → front.rest ≡ comma ∷ name → IsFormed (codes "FNDA:") func_count_fields fields
calls_from fields front name after =
    let parts : fields ≡ front.counted ++ comma ∷ name = front.parts ∙ ap (λ (t : List ℕ). front.counted ++ t) after in
    elim (name_or_none name (func_count_of (sized_number front.count) name)) [
      | inl some ↦ inl (FuncCount front.count name, (front.counted, ap (λ (t : List ℕ). codes "FNDA:" ++ t) parts, front.counts, some))
      | inr none ↦ inr (rw (count_read fields front, after) none)
    ]

pub calls_formed : (fields : List ℕ) → IsFormed (codes "FNDA:") func_count_fields fields
calls_formed fields =
    elim (count_or_none fields) [
      | inl front ↦ elim (comma_or_none (sized_number front.count) front.rest) [
        | inl found ↦ calls_from fields front found.0 found.1
        | inr none ↦ inr (rw (count_read fields front, none) refl)
      ]
      | inr none ↦ inr (rw none refl)
    ]

branch_parts : (fields : List ℕ) (line : BeginsWithField fields) (block : BeginsWithField line.rest) (branch : BeginsWithField block.rest) → codes "BRDA:" ++ fields ≡ codes "BRDA:" ++ line.digits ++ comma ∷ (block.digits ++ comma ∷ (branch.digits ++ comma ∷ branch.rest))
branch_parts fields line block branch =
    ap (λ (t : List ℕ). codes "BRDA:" ++ t) (
    line.parts
    ∙ ap (λ (t : List ℕ). line.digits ++ comma ∷ t) (block.parts ∙ ap (λ (t : List ℕ). block.digits ++ comma ∷ t) branch.parts)
    )

branch_from : (fields : List ℕ) (line : BeginsWithField fields) (block : BeginsWithField line.rest) (branch : BeginsWithField block.rest) → IsFormed (codes "BRDA:") branch_fields fields
branch_from fields line block branch =
    elim (taken_or_none branch.rest) [
      | inl taken ↦ inl (
        Branch line.number block.number branch.number taken.0,
        (line.digits, block.digits, branch.digits, branch.rest, branch_parts fields line block branch, line.numeral, block.numeral, branch.numeral, taken.1),
      )
      | inr none ↦ inr (rw (field_read fields line, field_read line.rest block, field_read block.rest branch, none) refl)
    ]

pub branch_formed : (fields : List ℕ) → IsFormed (codes "BRDA:") branch_fields fields
branch_formed fields =
    elim (field_or_none fields) [
      | inl line ↦ elim (field_or_none line.rest) [
        | inl block ↦ elim (field_or_none block.rest) [
          | inl branch ↦ branch_from fields line block branch
          | inr none ↦ inr (rw (field_read fields line, field_read line.rest block, none) refl)
        ]
        | inr none ↦ inr (rw (field_read fields line, none) refl)
      ]
      | inr none ↦ inr (rw none refl)
    ]

line_form : (fields : List ℕ) (line : BeginsWithField fields) (front : BeginsWithCount line.rest) (checksum : Option (List ℕ)) → IsAfterCount front.rest checksum → HasForm (codes "DA:" ++ fields) (Line line.number front.count checksum)
line_form fields line front None after = (
  line.digits,
  front.counted,
  ap (λ (t : List ℕ). codes "DA:" ++ t) (line.parts ∙ ap (λ (t : List ℕ). line.digits ++ comma ∷ t) (front.parts ∙ ap (λ (t : List ℕ). front.counted ++ t) after ∙ append-nil front.counted)),
  line.numeral,
  front.counts,
)
line_form fields line front (Some checksum) after = (
  line.digits,
  front.counted,
  ap (λ (t : List ℕ). codes "DA:" ++ t) (line.parts ∙ ap (λ (t : List ℕ). line.digits ++ comma ∷ t) (front.parts ∙ ap (λ (t : List ℕ). front.counted ++ t) after.0)),
  line.numeral,
  front.counts,
  after.1,
)

line_from : (fields : List ℕ) (line : BeginsWithField fields) (front : BeginsWithCount line.rest) → IsFormed (codes "DA:") line_fields fields
line_from fields line front =
    elim (checksum_or_none front.rest) [
      | inl found ↦ inl (Line line.number front.count found.0, line_form fields line front found.0 found.1)
      | inr none ↦ inr (rw (field_read fields line, count_read line.rest front, none) refl)
    ]

pub line_formed : (fields : List ℕ) → IsFormed (codes "DA:") line_fields fields
line_formed fields =
    elim (field_or_none fields) [
      | inl line ↦ elim (count_or_none line.rest) [
        | inl front ↦ line_from fields line front
        | inr none ↦ inr (rw (field_read fields line, none) refl)
      ]
      | inr none ↦ inr (rw none refl)
    ]
