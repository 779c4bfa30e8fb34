-- The laws of reading a line. A line that has some form is read as what the form says, if its numbers are small enough. A line
-- that has no form is refused with the fault of `HasFault`. So each line has one meaning or one fault.
use Rattle.std.proofs.Common.{◌≡◌, ◌≢◌, ℕ, ◌<◌, ◌⊎◌, inl, inr, Bool, true, false, List, [], ◌∷◌, ◌++◌, length, Option, Some, None, Result, Ok, Err, refl, sym, ap, subst, ◌∙◌, arith}
use Rattle.std.proofs.lemmas.List.{append-nil}
use Rattle.std.proofs.lemmas.Option.{none-some}
use Rattle.std.specs.Prelude.{codes, map, MatchResult, IfOk, IfErr}
use Rattle.std.specs.List.{AllByRecursion}
use Rattle.std.proofs.lemmas.Bool.{false≢true}
use Rattle.covline.specs.declared.reader.Number.{Number}
use Rattle.covdata.specs.declared.trace_line.TraceLine.{TraceLine}
use Rattle.covdata.specs.declared.trace_line.TotalKind.{TotalKind}
use Rattle.covdata.specs.declared.trace_line.TotalKind.TheVariants.{FuncFound, FuncHit, BranchFound, BranchHit, LineFound, LineHit}
use Rattle.covdata.specs.declared.trace_line.LineFault.{LineFault}
use Rattle.covdata.specs.declared.trace_line.LineFault.TheVariants.{BadLine, NumberTooLarge, EmptyPath}
use Rattle.covdata.specs.Records.{LineData, Test, Path, FuncStart, FuncCount, Branch, Line, Total, End, Skip, line_data, key_of, HasSmallNumbers}
use Rattle.covdata.specs.Delimiters.{comma}
use Rattle.covline.specs.Spells.{Begins, BeginsWithOneOf, HasKey, IsNumeral, HasForm, Spells, HasFault}
use Rattle.covline.specs.Reading.{Gives, Fields, after_key, keyed, read_by, forms, read_of, with_part, start_fields, func_count_fields, branch_fields, line_fields, total_of, total_fields, path_fields}
use Rattle.covline.proofs.ReadKeys.{begins_or_not, after_key-none, after_key-same}
use Rattle.covline.proofs.ReadNumbers.{whole_is, whole_or_none}
use Rattle.covline.proofs.ReadForms.{sized, sized_small, small_or_large, start_read, calls_read, branch_read, line_read, IsFormed, start_formed, calls_formed, branch_formed, line_formed}

abbrev keys_in : List (List ℕ × Fields) → List (List ℕ)
keys_in table = map (λ form. form.0) table

-- ---- a line of some form is read as what the form says

skip_read : (table : List (List ℕ × Fields)) (line : List ℕ) → ¬ BeginsWithOneOf (keys_in table) line → ¬ Begins line (codes "end_of_record") → read_by table line ≡ Ok Skip
skip_read [] line no_key no_end = ap (λ (o : Option (List ℕ)). keyed o (λ rest. Ok End) (Ok Skip)) (after_key-none (codes "end_of_record") line no_end)
skip_read (form ∷ others) line no_key no_end =
    ap (λ (o : Option (List ℕ)). keyed o form.1 (read_by others line)) (after_key-none form.0 line (λ begins. no_key (inl begins)))
    ∙ skip_read others line (λ begins. no_key (inr begins)) no_end

path_read : (path : List ℕ) → 0 < length path → path_fields path ≡ Ok (Path path)
path_read [] some = absurd (omega (arith, some))
path_read (b ∷ bs) some = refl

whole_read : (kind : TotalKind) (digits : List ℕ) (value : ℕ) → IsNumeral digits value → total_fields kind digits ≡ sized (Total kind value)
whole_read kind digits value numeral = ap (λ (n : Option Number). with_part n (total_of kind)) (whole_is digits value numeral)

total_read : (kind : TotalKind) (digits : List ℕ) (value : ℕ) → IsNumeral digits value → read_of (key_of kind ++ digits) ≡ sized (Total kind value)
unfolding read_of
total_read FuncFound digits value numeral = whole_read FuncFound digits value numeral
total_read FuncHit digits value numeral = whole_read FuncHit digits value numeral
total_read BranchFound digits value numeral = whole_read BranchFound digits value numeral
total_read BranchHit digits value numeral = whole_read BranchHit digits value numeral
total_read LineFound digits value numeral = whole_read LineFound digits value numeral
total_read LineHit digits value numeral = whole_read LineHit digits value numeral

pub form_read : (line : List ℕ) (says : LineData) → HasForm line says → read_of line ≡ sized says
unfolding read_of
form_read line (Test name) form = ap read_of form
form_read line (Path path) form = ap read_of form.0 ∙ path_read path form.1
form_read line (FuncStart number name) form = ap read_of form.1 ∙ start_read form.0 name number form.2 form.3
form_read line (FuncCount count name) form = ap read_of form.1 ∙ calls_read form.0 name count form.2 form.3
form_read line (Branch number block branch taken) form =
    ap read_of form.4 ∙ branch_read form.0 form.1 form.2 form.3 number block branch taken form.5 form.6 form.7 form.8
form_read line (Line number count None) form =
    ap read_of (form.2 ∙ ap (λ (t : List ℕ). codes "DA:" ++ form.0 ++ comma ∷ t) (sym (append-nil form.1))) ∙ line_read form.0 form.1 [] number count None form.3 form.4 refl
form_read line (Line number count (Some checksum)) form =
    ap read_of form.2 ∙ line_read form.0 form.1 (comma ∷ checksum) number count (Some checksum) form.3 form.4 (refl, form.5)
form_read line (Total kind value) form = ap read_of form.1 ∙ total_read kind form.0 value form.2
form_read line End form = ap read_of form.1
form_read line Skip form = skip_read forms line form.0 form.1

-- ---- each line has a form, or is refused

abbrev SaysSomething : List ℕ → Type 0
SaysSomething line = (says : LineData) × HasForm line says

-- the line has a form, or it is read as `BadLine`, or it is `SF:` without a path
abbrev HasFormOrFault : List ℕ → Result LineData LineFault → Type 0
HasFormOrFault line read = SaysSomething line ⊎ (((read ≡ Err BadLine) × (line ≢ codes "SF:")) ⊎ (line ≡ codes "SF:"))

-- each line that begins with the key is as `HasFormOrFault` says, with what the key's reader reads
abbrev ReaderIsRight : List ℕ × Fields → Type 0
ReaderIsRight form = (rest : List ℕ) → HasFormOrFault (form.0 ++ rest) (form.1 rest)

-- the same for a line that is read by a table of keys. Beside the cases of `HasFormOrFault`, the line may begin neither with one of
-- the keys nor with `end_of_record`
abbrev HasFormOrFaultBy : List (List ℕ × Fields) → List ℕ → Type 0
HasFormOrFaultBy table line =
    SaysSomething line ⊎ (((read_by table line ≡ Err BadLine) × (line ≢ codes "SF:") × BeginsWithOneOf (keys_in table) line) ⊎ ((line ≡ codes "SF:") ⊎ (¬ BeginsWithOneOf (keys_in table) line × ¬ Begins line (codes "end_of_record"))))

judged_here : (form : List ℕ × Fields) (others : List (List ℕ × Fields)) (line rest : List ℕ) → line ≡ form.0 ++ rest → HasFormOrFault (form.0 ++ rest) (form.1 rest) → HasFormOrFaultBy (form ∷ others) line
judged_here form others line rest same (inl says) = inl (says.0, let P : List ℕ → Type 0 = λ l. HasForm l says.0 in subst P (sym same) says.1)
judged_here form others line rest same (inr (inl bad)) =
    let read : read_by (form ∷ others) line ≡ form.1 rest = ap (λ (o : Option (List ℕ)). keyed o form.1 (read_by others line)) (ap (after_key form.0) same ∙ after_key-same form.0 rest) in
    inr (inl (read ∙ bad.0, λ e. bad.1 (sym same ∙ e), inl (rest, same)))
judged_here form others line rest same (inr (inr path)) = inr (inr (inl (same ∙ path)))

judged_later : (form : List ℕ × Fields) (others : List (List ℕ × Fields)) (line : List ℕ) → ¬ Begins line form.0 → HasFormOrFaultBy others line → HasFormOrFaultBy (form ∷ others) line
judged_later form others line other (inl says) = inl says
judged_later form others line other (inr (inl bad)) =
    let read : read_by (form ∷ others) line ≡ read_by others line = ap (λ (o : Option (List ℕ)). keyed o form.1 (read_by others line)) (after_key-none form.0 line other) in
    inr (inl (read ∙ bad.0, bad.1, inr bad.2))
judged_later form others line other (inr (inr (inl path))) = inr (inr (inl path))
judged_later form others line other (inr (inr (inr none))) =
    inr (inr (inr (λ begins. elim begins [ inl here ↦ other here | inr there ↦ none.0 there ], none.1)))

judged : (table : List (List ℕ × Fields)) → AllByRecursion ReaderIsRight table → (line : List ℕ) → HasFormOrFaultBy table line
judged [] each line =
    elim (begins_or_not (codes "end_of_record") line) [
      | inl begins ↦ inl (End, begins)
      | inr other ↦ inr (inr (inr (λ none. none, other)))
    ]
judged (form ∷ others) each line =
    elim (begins_or_not form.0 line) [
      | inl begins ↦ judged_here form others line begins.0 begins.1 (each.0 begins.0)
      | inr other ↦ judged_later form others line other (judged others each.1 line)
    ]

-- ---- the readers of all keys are as `ReaderIsRight` says

not_path : (line : List ℕ) → after_key (codes "SF:") line ≡ None → line ≢ codes "SF:"
not_path line other e = none-some [] (sym other ∙ ap (after_key (codes "SF:")) e)

path_judged : (rest : List ℕ) → HasFormOrFault (codes "SF:" ++ rest) (path_fields rest)
path_judged [] = inr (inr refl)
path_judged (b ∷ bs) = inl (Path (b ∷ bs), (refl, omega arith))

formed_judged : (key : List ℕ) (reader : Fields) (rest : List ℕ) → after_key (codes "SF:") (key ++ rest) ≡ None → IsFormed key reader rest → HasFormOrFault (key ++ rest) (reader rest)
formed_judged key reader rest other (inl says) = inl says
formed_judged key reader rest other (inr bad) = inr (inl (bad, not_path (key ++ rest) other))

total_judged : (kind : TotalKind) (rest : List ℕ) → after_key (codes "SF:") (key_of kind ++ rest) ≡ None → HasFormOrFault (key_of kind ++ rest) (total_fields kind rest)
total_judged kind rest other =
    elim (whole_or_none rest) [
      | inl found ↦ inl (Total kind found.0, (rest, refl, found.1))
      | inr none ↦ inr (inl (rw none refl, not_path (key_of kind ++ rest) other))
    ]

forms_judge : AllByRecursion ReaderIsRight forms
forms_judge = (
  λ rest. inl (Test rest, refl),
  (
    path_judged,
    (
      λ rest. formed_judged (codes "FN:") start_fields rest refl (start_formed rest),
      (
        λ rest. formed_judged (codes "FNDA:") func_count_fields rest refl (calls_formed rest),
        (
          λ rest. total_judged FuncFound rest refl,
          (
            λ rest. total_judged FuncHit rest refl,
            (
              λ rest. formed_judged (codes "BRDA:") branch_fields rest refl (branch_formed rest),
              (
                λ rest. total_judged BranchFound rest refl,
                (
                  λ rest. total_judged BranchHit rest refl,
                  (
                    λ rest. formed_judged (codes "DA:") line_fields rest refl (line_formed rest),
                    (
                      λ rest. total_judged LineFound rest refl,
                      (λ rest. total_judged LineHit rest refl, tt),
                    ),
                  ),
                ),
              ),
            ),
          ),
        ),
      ),
    ),
  ),
)

-- each line has a form, or it has a key and is read as `BadLine`, or it is `SF:` without a path
pub form_or_fault : (line : List ℕ) → SaysSomething line ⊎ (((read_of line ≡ Err BadLine) × (line ≢ codes "SF:") × HasKey line) ⊎ (line ≡ codes "SF:"))
unfolding read_of
form_or_fault line =
    elim (judged forms forms_judge line) [
      | inl says ↦ inl says
      | inr (inl bad) ↦ inr (inl bad)
      | inr (inr (inl path)) ↦ inr (inr path)
      | inr (inr (inr none)) ↦ inl (Skip, none)
    ]

-- ---- the laws

-- the result is what the line says, or the line's fault
abbrev pub HasMeaning : List ℕ → Result LineData LineFault → Type 0
HasMeaning line (Ok says) = Spells line says
HasMeaning line (Err fault) = HasFault line fault

path_missing : read_of (codes "SF:") ≡ Err EmptyPath
unfolding read_of
path_missing = refl

meaning_at : (line : List ℕ) (meaning : Result LineData LineFault) → read_of line ≡ meaning → HasMeaning line meaning → HasMeaning line (read_of line)
meaning_at line meaning same means = let P : Result LineData LineFault → Type 0 = λ m. HasMeaning line m in subst P (sym same) means

form_means : (line : List ℕ) (says : LineData) → HasForm line says → HasMeaning line (read_of line)
form_means line says form =
    elim (small_or_large says) [
      | inl small ↦ meaning_at line (Ok says) (form_read line says form ∙ sized_small says small) (record { form = form; small = small })
      | inr large ↦ meaning_at line (Err NumberTooLarge) (form_read line says form ∙ large.1) (says, form, large.0)
    ]

-- whether the result is the fault `BadLine`
abbrev is_bad : Result LineData LineFault → Bool
is_bad (Ok says) = false
is_bad (Err BadLine) = true
is_bad (Err NumberTooLarge) = false
is_bad (Err EmptyPath) = false

sized_isnt_bad : (says : LineData) → sized says ≢ Err BadLine
sized_isnt_bad says e =
    elim (small_or_large says) [
      | inl small ↦ false≢true (ap is_bad (sym (sized_small says small) ∙ e))
      | inr large ↦ false≢true (ap is_bad (sym large.1 ∙ e))
    ]

bad_has_no_form : (line : List ℕ) (says : LineData) → read_of line ≡ Err BadLine → ¬ HasForm line says
bad_has_no_form line says bad form = sized_isnt_bad says (sym (form_read line says form) ∙ bad)

-- what `read_of` gives is what the line says, or the line's fault
pub meaning_of : (line : List ℕ) → HasMeaning line (read_of line)
meaning_of line =
    elim (form_or_fault line) [
      | inl says ↦ form_means line says.0 says.1
      | inr (inl bad) ↦ meaning_at line (Err BadLine) bad.0 (bad.2, bad.1, λ says form. bad_has_no_form line says bad.0 form)
      | inr (inr path) ↦ meaning_at line (Err EmptyPath) (ap read_of path ∙ path_missing) path
    ]

-- if a line spells a record, `read_of` gives this record
pub spelled_read : (line : List ℕ) (says : LineData) → Spells line says → read_of line ≡ Ok says
spelled_read line says spelled = form_read line says spelled.form ∙ sized_small says spelled.small

large_read : (line : List ℕ) (says : LineData) → HasForm line says → ¬ HasSmallNumbers says → read_of line ≡ Err NumberTooLarge
large_read line says form large =
    elim (small_or_large says) [
      | inl small ↦ absurd (large small)
      | inr too ↦ form_read line says form ∙ too.1
    ]

-- if a line has a fault, `read_of` gives this fault
pub fault_read : (line : List ℕ) (fault : LineFault) → HasFault line fault → read_of line ≡ Err fault
fault_read line EmptyPath fault = ap read_of fault ∙ path_missing
fault_read line NumberTooLarge fault = large_read line fault.0 fault.1 fault.2
fault_read line BadLine fault =
    elim (form_or_fault line) [
      | inl says ↦ absurd (fault.2 says.0 says.1)
      | inr (inl bad) ↦ bad.0
      | inr (inr path) ↦ absurd (fault.1 path)
    ]

-- ---- the contract of a function whose result is that of `read_of`

pub ok_spells : (line : List ℕ) (r : Result TraceLine LineFault) → Gives r (read_of line) → IfOk r (λ t. Spells line (line_data t))
ok_spells line (Ok t) gives = let P : Result LineData LineFault → Type 0 = λ m. HasMeaning line m in subst P gives (meaning_of line)
ok_spells line (Err f) gives = tt

pub err_has_fault : (line : List ℕ) (r : Result TraceLine LineFault) → Gives r (read_of line) → IfErr r (λ f. HasFault line f)
err_has_fault line (Ok t) gives = tt
err_has_fault line (Err f) gives = let P : Result LineData LineFault → Type 0 = λ m. HasMeaning line m in subst P gives (meaning_of line)

abbrev ok_of : LineData → Result LineData LineFault
ok_of says = Ok says

abbrev err_of : LineFault → Result LineData LineFault
err_of fault = Err fault

same_ok : (x y : LineData) → ok_of x ≡ ok_of y → x ≡ y
same_ok x y e = cc

same_err : (x y : LineFault) → err_of x ≡ err_of y → x ≡ y
same_err x y e = cc

ok_isnt_err : (x : LineData) (y : LineFault) → ok_of x ≢ err_of y
ok_isnt_err x y e = cc

pub only_spelled : (line : List ℕ) (r : Result TraceLine LineFault) → Gives r (read_of line) → (says : LineData) → Spells line says → MatchResult r (λ t. line_data t ≡ says) (λ f. ⊥)
only_spelled line (Ok t) gives says spelled = same_ok (line_data t) says (sym gives ∙ spelled_read line says spelled)
only_spelled line (Err f) gives says spelled = ok_isnt_err says f (sym (spelled_read line says spelled) ∙ gives)

pub only_fault : (line : List ℕ) (r : Result TraceLine LineFault) → Gives r (read_of line) → (fault : LineFault) → HasFault line fault → r ≡ Err fault
only_fault line (Ok t) gives fault has = absurd (ok_isnt_err (line_data t) fault (sym gives ∙ fault_read line fault has))
only_fault line (Err f) gives fault has = ap (λ (x : LineFault). Err x) (same_err f fault (sym gives ∙ fault_read line fault has))

-- ---- each line has one meaning

pub one_meaning : (line : List ℕ) (x y : LineData) → Spells line x → Spells line y → x ≡ y
one_meaning line x y p q = same_ok x y (sym (spelled_read line x p) ∙ spelled_read line y q)

pub no_fault_beside : (line : List ℕ) (x : LineData) (fault : LineFault) → Spells line x → ¬ HasFault line fault
no_fault_beside line x fault p has = ok_isnt_err x fault (sym (spelled_read line x p) ∙ fault_read line fault has)

pub one_fault : (line : List ℕ) (x y : LineFault) → HasFault line x → HasFault line y → x ≡ y
one_fault line x y p q = same_err x y (sym (fault_read line x p) ∙ fault_read line y q)

found_meaning : (line : List ℕ) (r : Result LineData LineFault) → HasMeaning line r → ((says : LineData) × Spells line says) ⊎ ((fault : LineFault) × HasFault line fault)
found_meaning line (Ok says) means = inl (says, means)
found_meaning line (Err fault) means = inr (fault, means)

pub some_meaning : (line : List ℕ) → ((says : LineData) × Spells line says) ⊎ ((fault : LineFault) × HasFault line fault)
some_meaning line = found_meaning line (read_of line) (meaning_of line)
