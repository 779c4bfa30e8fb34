-- A line is read as it says: what has a form is read as the form's record, and each line has a form or a fault.
use Rattle.std.proofs.Common.{◌≡◌, ◌≢◌, ℕ, ◌<◌, ◌^◌, ◌⊎◌, inl, inr, Bool, true, false, eqb, List, [], ◌∷◌, ◌++◌, length, Option, Some, None, option_map, Result, Ok, Err, refl, sym, ap, subst, ◌∙◌, arith}
use Rattle.std.proofs.lemmas.Option.{none-some}
use Rattle.std.proofs.lemmas.Bool.{false≢true, cases_lt, cases_eq, eq-eqb, ne_eqb}
use Rattle.std.specs.Prelude.{codes, MatchResult, IfOk, IfErr}
use Rattle.covline.specs.declared.reader.Number.{Number}
use Rattle.covdata.specs.declared.trace_line.TotalKind.{TotalKind}
use Rattle.covdata.specs.declared.trace_line.TotalKind.TheVariants.{FuncFound, FuncHit, BranchFound, BranchHit, LineFound, LineHit}
use Rattle.covdata.specs.declared.trace_line.LineFault.{LineFault}
use Rattle.covdata.specs.declared.trace_line.LineFault.TheVariants.{BadLine, NumberTooLarge, EmptyPath}
use Rattle.covdata.specs.Records.{LineData, Test, Path, FuncStart, FuncCount, Branch, Line, Total, End, Skip}
use Rattle.covdata.specs.Delimiters.{comma}
use Rattle.covline.specs.Spells.{digits_value, Begins, IsNumeral, IsCount, HasForm}
use Rattle.covline.specs.Reading.{after_key, number_at, field_at, fit, sized_number, start_of, read_of}
use Rattle.covline.proofs.ReadKeys.{begins_or_not, after_key-none}
use Rattle.covline.proofs.ReadNumbers.{Stops, fit_small, fit_large, count_small, count_large, number_is, numeral_or_none, whole_is, whole_or_none, field_is, BeginsWithField, field_or_none, field_read, count_is, BeginsWithCount, count_or_none, count_read, comma_or_none, taken_is, taken_or_none}
use Rattle.covline.proofs.ReadForms.{sized, sized_small, small_or_large}
use Rattle.covline.proofs.ReadLaws.{form_read, form_or_fault}
use Rattle.covline.proofs.ReadLaws as one
use Rattle.covlcov2.specs.declared.line.Lcov2Line.{Lcov2Line}
use Rattle.covlcov2.specs.Spells.{Lcov2Data, Plain, Leader, Alias, Edge, lcov2_data, HasLcov2Key, IsEndAndName, IsNameIn, IsEnd, IsEdgeLine, IsBelow, HasLcov2Form, HasSmallLcov2Numbers, Lcov2Spells, HasLcov2Fault}
use Rattle.covlcov2.specs.Reading.{GivesLcov2, plain, if_part, if_named, name_or, name_from, name_in, start_fields, end_of, leader_of, leader_fields, alias_of, alias_fields, last_cut, fit_any, fit_any_count, edge_of, edge_end, edge_fields, read_of_lcov2}
use Rattle.covlcov2.proofs.EdgeParts.{MarksAt, marks_at, marks_are, blocks_unmarked, has_no_comma, cut_is, CutAt, cut_found, name_read, name_named}

-- ---- sizes

-- what a line of this record's form is read as: the record, or `NumberTooLarge` if its numbers aren't small
abbrev sized_lcov2 : Lcov2Data → Result Lcov2Data LineFault
sized_lcov2 (Plain says) = plain (sized says)
sized_lcov2 (Leader index number) = leader_of (sized_number index) (sized_number number)
sized_lcov2 (Alias index count name) = alias_of (sized_number index) (sized_number count) name
sized_lcov2 (Edge is_excluded number block branch taken) =
    edge_of is_excluded (sized_number number) (sized_number block) (option_map sized_number branch) (option_map sized_number taken)

any_small : (n : Option ℕ) → IsBelow (2 ^ 64) n → fit_any (option_map sized_number n) ≡ Ok n
any_small None small = refl
any_small (Some n) small = rw (fit_small n small) refl

any_count_small : (n : Option ℕ) → IsBelow (2 ^ 128) n → fit_any_count (option_map sized_number n) ≡ Ok n
any_count_small None small = refl
any_count_small (Some n) small = rw (count_small n small) refl

-- the number fits, or it doesn't
abbrev Fits : Type 0 → {A : Type 0} → Result A LineFault → Type 0
Fits small read = small ⊎ ((¬ small) × (read ≡ Err NumberTooLarge))

number_fits : (n : ℕ) → Fits (n < 2 ^ 64) (fit (sized_number n))
number_fits n =
    elim (cases_lt n (2 ^ 64)) [
      | inl lt ↦ inl lt
      | inr le ↦ inr (λ small. omega (arith, small), fit_large n le)
    ]

any_fits : (n : Option ℕ) → Fits (IsBelow (2 ^ 64) n) (fit_any (option_map sized_number n))
any_fits None = inl tt
any_fits (Some n) =
    elim (cases_lt n (2 ^ 64)) [
      | inl lt ↦ inl lt
      | inr le ↦ inr (λ small. omega (arith, small), rw (fit_large n le) refl)
    ]

any_count_fits : (n : Option ℕ) → Fits (IsBelow (2 ^ 128) n) (fit_any_count (option_map sized_number n))
any_count_fits None = inl tt
any_count_fits (Some n) =
    elim (cases_lt n (2 ^ 128)) [
      | inl lt ↦ inl lt
      | inr le ↦ inr (λ small. omega (arith, small), rw (count_large n le) refl)
    ]

fits_small : (says : Lcov2Data) → HasSmallLcov2Numbers says → sized_lcov2 says ≡ Ok says
fits_small (Plain says) small = ap plain (sized_small says small)
fits_small (Leader index number) small = rw (fit_small index small.0, fit_small number small.1) refl
fits_small (Alias index count name) small = rw (fit_small index small.0, count_small count small.1) refl
fits_small (Edge is_excluded number block branch taken) small =
    rw (fit_small number small.0, fit_small block small.1, any_small branch small.2, any_count_small taken small.3) refl

edge_sizes : (is_excluded : Bool) (number block : ℕ) (branch taken : Option ℕ)
    → Fits (HasSmallLcov2Numbers (Edge is_excluded number block branch taken)) (sized_lcov2 (Edge is_excluded number block branch taken))
edge_sizes is_excluded number block branch taken =
    elim (number_fits number) [
      | inr large ↦ inr (λ small. large.0 small.0, rw large.1 refl)
      | inl number_small ↦ elim (number_fits block) [
        | inr large ↦ inr (λ small. large.0 small.1, rw (fit_small number number_small, large.1) refl)
        | inl block_small ↦ elim (any_fits branch) [
          | inr large ↦ inr (λ small. large.0 small.2, rw (fit_small number number_small, fit_small block block_small, large.1) refl)
          | inl branch_small ↦ elim (any_count_fits taken) [
            | inr large ↦ inr (λ small. large.0 small.3, rw (fit_small number number_small, fit_small block block_small, any_small branch branch_small, large.1) refl)
            | inl taken_small ↦ inl (number_small, block_small, branch_small, taken_small)
          ]
        ]
      ]
    ]

small_or_large_lcov2 : (says : Lcov2Data) → HasSmallLcov2Numbers says ⊎ ((¬ HasSmallLcov2Numbers says) × (sized_lcov2 says ≡ Err NumberTooLarge))
small_or_large_lcov2 (Plain says) =
    elim (small_or_large says) [
      | inl small ↦ inl small
      | inr large ↦ inr (large.0, ap plain large.1)
    ]
small_or_large_lcov2 (Leader index number) =
    elim (cases_lt index (2 ^ 64)) [
      | inl lt ↦ elim (cases_lt number (2 ^ 64)) [
        | inl less ↦ inl (lt, less)
        | inr le ↦ inr (λ small. omega (arith, small.1), rw (fit_small index lt, fit_large number le) refl)
      ]
      | inr le ↦ inr (λ small. omega (arith, small.0), rw (fit_large index le) refl)
    ]
small_or_large_lcov2 (Alias index count name) =
    elim (cases_lt index (2 ^ 64)) [
      | inl lt ↦ elim (cases_lt count (2 ^ 128)) [
        | inl less ↦ inl (lt, less)
        | inr le ↦ inr (λ small. omega (arith, small.1), rw (fit_small index lt, count_large count le) refl)
      ]
      | inr le ↦ inr (λ small. omega (arith, small.0), rw (fit_large index le) refl)
    ]
small_or_large_lcov2 (Edge is_excluded number block branch taken) = edge_sizes is_excluded number block branch taken

-- ---- names

named : (name : List ℕ) (says : Result Lcov2Data LineFault) → 0 < length name → if_named name says ≡ says
named [] says some = absurd (omega (arith, some))
named (b ∷ bs) says some = refl

nameless : (name : List ℕ) (says : Result Lcov2Data LineFault) → (0 < length name) ⊎ (if_named name says ≡ Err BadLine)
nameless [] says = inr refl
nameless (b ∷ bs) says = inl (omega arith)

some_name : (text name : List ℕ) → 0 < length name → name_or text name ≡ name
some_name text [] some = absurd (omega (arith, some))
some_name text (b ∷ bs) some = refl

no_name : (text name : List ℕ) → ¬ (0 < length name) → name_or text name ≡ text
no_name text [] none = refl
no_name text (b ∷ bs) none = absurd (none (omega arith))

name_is : (text name : List ℕ) → IsNameIn text name → name_in text ≡ name
name_is text name (inl cut) = ap (name_from text) (ap field_at cut.2 ∙ field_is cut.0 name cut.1 cut.3) ∙ some_name text name cut.4
name_is text name (inr is) =
    elim (field_or_none text) [
      | inl end ↦ ap (name_from text) (field_read text end) ∙ no_name text end.rest (λ some. is.2 end.rest (end.digits, end.number, end.parts, end.numeral, some)) ∙ is.0
      | inr none ↦ ap (name_from text) none ∙ is.0
    ]

name_some : (text name : List ℕ) → IsNameIn text name → 0 < length name
name_some text name (inl cut) = cut.4
name_some text name (inr is) = is.1

abbrev rest_of : Option (Number × List ℕ) → List ℕ
rest_of None = []
rest_of (Some front) = front.1

whole_name : (text : List ℕ) → name_in text ≡ text → ((other : List ℕ) → ¬ IsEndAndName text other) → ((name : List ℕ) × IsNameIn text name) ⊎ (name_in text ≡ [])
whole_name [] same none = inr same
whole_name (b ∷ bs) same none = inl (b ∷ bs, inr (refl, omega arith, none))

cut_name : (text digits rest : List ℕ) (end : ℕ) → text ≡ digits ++ comma ∷ rest → IsNumeral digits end → ((name : List ℕ) × IsNameIn text name) ⊎ (name_in text ≡ [])
cut_name text digits [] end parts numeral =
    let read : field_at text ≡ Some (sized_number end, []) = ap field_at parts ∙ field_is digits [] end numeral in
    whole_name text (ap (name_from text) read) (λ other cut.
    let k : rest_of (field_at text) ≡ other = ap rest_of (ap field_at cut.2 ∙ field_is cut.0 other cut.1 cut.3) in
    let e : other ≡ [] = sym k ∙ ap rest_of read in
    omega (arith, ap length e, cut.4))
cut_name text digits (b ∷ bs) end parts numeral = inl (b ∷ bs, inl (digits, end, parts, numeral, omega arith))

-- the text after a start line has a name, or it is empty
name_found : (text : List ℕ) → ((name : List ℕ) × IsNameIn text name) ⊎ (name_in text ≡ [])
name_found text =
    elim (field_or_none text) [
      | inl end ↦ cut_name text end.digits end.rest end.number end.parts end.numeral
      | inr none ↦ whole_name text (ap (name_from text) none) (λ other cut. let end : Number × List ℕ = (sized_number cut.1, other) in none-some end (sym none ∙ ap field_at cut.2 ∙ field_is cut.0 other cut.1 cut.3))
    ]

-- ---- a line of some form is read as what the form says

start_read : (digits rest name : List ℕ) (number : ℕ) → IsNumeral digits number → IsNameIn rest name → start_fields (digits ++ comma ∷ rest) ≡ sized_lcov2 (Plain (FuncStart number name))
start_read digits rest name number numeral is =
    rw (field_is digits rest number numeral) (
    ap (λ (n : List ℕ). if_named n (plain (start_of (sized_number number) n))) (name_is rest name is)
    ∙ named name (plain (start_of (sized_number number) name)) (name_some rest name is)
    )

end_stops : (end : List ℕ) → IsEnd end → Stops end
end_stops [] is = tt
end_stops (b ∷ bs) is = let e : b ≡ comma = is.1 in rw e refl

end_is : (end : List ℕ) → IsEnd end → (line : Option Number) × (end_of end ≡ Some line)
end_is [] is = (None, refl)
end_is (b ∷ bs) is =
    let test : eqb b comma ≡ true = eq-eqb b comma is.1 in
    (Some (sized_number is.0), rw test (ap (option_map (λ (v : Number). Some v)) (whole_is bs is.0 is.2)))

end_found : (end : List ℕ) → IsEnd end ⊎ (end_of end ≡ None)
end_found [] = inl tt
end_found (b ∷ bs) =
    elim (cases_eq b comma) [
      | inl same ↦ let test : eqb b comma ≡ true = eq-eqb b comma same in
          elim (whole_or_none bs) [
            | inl found ↦ inl (found.0, same, found.1)
            | inr none ↦ inr (rw (test, none) refl)
          ]
      | inr differ ↦ let test : eqb b comma ≡ false = ne_eqb b comma differ in inr (rw test refl)
    ]

leader_read : (digits numbers end : List ℕ) (index number : ℕ) → IsNumeral digits index → IsNumeral numbers number → IsEnd end → leader_fields (digits ++ comma ∷ (numbers ++ end)) ≡ sized_lcov2 (Leader index number)
leader_read digits numbers end index number index_is number_numeral is =
    let e = end_is end is in
    rw (field_is digits (numbers ++ end) index index_is, number_is numbers end number number_numeral (end_stops end is), e.1) refl

alias_read : (digits text name : List ℕ) (index count : ℕ) → IsNumeral digits index → IsCount text count → 0 < length name → alias_fields (digits ++ comma ∷ (text ++ comma ∷ name)) ≡ sized_lcov2 (Alias index count name)
alias_read digits text name index count index_is counts some =
    rw (field_is digits (text ++ comma ∷ name) index index_is, count_is text (comma ∷ name) count counts refl)
    (named name (alias_of (sized_number index) (sized_number count) name) some)

edge_read : (line : List ℕ) (is_excluded : Bool) (number block : ℕ) (branch taken : Option ℕ) (e : IsEdgeLine line is_excluded number block branch taken)
    → edge_fields (e.digits ++ comma ∷ (e.marks ++ (e.blocks ++ comma ∷ (e.words ++ comma ∷ e.text)))) ≡ sized_lcov2 (Edge is_excluded number block branch taken)
edge_read line is_excluded number block branch taken e =
    rw (
      field_is e.digits (e.marks ++ (e.blocks ++ comma ∷ (e.words ++ comma ∷ e.text))) number e.number_is,
      marks_are e.marks (e.blocks ++ comma ∷ (e.words ++ comma ∷ e.text)) e.each (blocks_unmarked e.blocks (comma ∷ (e.words ++ comma ∷ e.text)) block e.block_is),
      e.excluded_is,
      field_is e.blocks (e.words ++ comma ∷ e.text) block e.block_is,
      cut_is e.words e.text (has_no_comma e.text taken e.taken_is),
      name_read e.words branch e.branch_is,
      taken_is e.text taken e.taken_is,
    ) refl

-- a line without one of the four keys is read as in version 1
plain_read : (line : List ℕ) → after_key (codes "BRDA:") line ≡ None → after_key (codes "FN:") line ≡ None → after_key (codes "FNL:") line ≡ None → after_key (codes "FNA:") line ≡ None → read_of_lcov2 line ≡ plain (read_of line)
unfolding read_of_lcov2
plain_read line no_branch no_start no_leader no_alias = rw (no_branch, no_start, no_leader, no_alias) refl

other_read : (line front : List ℕ) (says : LineData) → line ≡ front → after_key (codes "BRDA:") front ≡ None → after_key (codes "FN:") front ≡ None → after_key (codes "FNL:") front ≡ None → after_key (codes "FNA:") front ≡ None → HasForm line says
    → read_of_lcov2 line ≡ plain (sized says)
other_read line front says e z a b c form =
    plain_read line (ap (after_key (codes "BRDA:")) e ∙ z) (ap (after_key (codes "FN:")) e ∙ a) (ap (after_key (codes "FNL:")) e ∙ b) (ap (after_key (codes "FNA:")) e ∙ c) ∙ ap plain (form_read line says form)

total_read : (line : List ℕ) (kind : TotalKind) (value : ℕ) → HasForm line (Total kind value) → read_of_lcov2 line ≡ plain (sized (Total kind value))
total_read line FuncFound value form = other_read line (codes "FNF:" ++ form.0) (Total FuncFound value) form.1 refl refl refl refl form
total_read line FuncHit value form = other_read line (codes "FNH:" ++ form.0) (Total FuncHit value) form.1 refl refl refl refl form
total_read line BranchFound value form = other_read line (codes "BRF:" ++ form.0) (Total BranchFound value) form.1 refl refl refl refl form
total_read line BranchHit value form = other_read line (codes "BRH:" ++ form.0) (Total BranchHit value) form.1 refl refl refl refl form
total_read line LineFound value form = other_read line (codes "LF:" ++ form.0) (Total LineFound value) form.1 refl refl refl refl form
total_read line LineHit value form = other_read line (codes "LH:" ++ form.0) (Total LineHit value) form.1 refl refl refl refl form

start_line_read : (fields : List ℕ) → read_of_lcov2 (codes "FN:" ++ fields) ≡ start_fields fields
unfolding read_of_lcov2
start_line_read fields = refl

edge_line_read : (fields : List ℕ) → read_of_lcov2 (codes "BRDA:" ++ fields) ≡ edge_fields fields
unfolding read_of_lcov2
edge_line_read fields = refl

leader_line_read : (fields : List ℕ) → read_of_lcov2 (codes "FNL:" ++ fields) ≡ leader_fields fields
unfolding read_of_lcov2
leader_line_read fields = refl

alias_line_read : (fields : List ℕ) → read_of_lcov2 (codes "FNA:" ++ fields) ≡ alias_fields fields
unfolding read_of_lcov2
alias_line_read fields = refl

form_read_lcov2 : (line : List ℕ) (says : Lcov2Data) → HasLcov2Form line says → read_of_lcov2 line ≡ sized_lcov2 says
form_read_lcov2 line (Plain (FuncStart number name)) form =
    ap read_of_lcov2 form.2 ∙ start_line_read (form.0 ++ comma ∷ form.1) ∙ start_read form.0 form.1 name number form.3 form.4
form_read_lcov2 line (Plain Skip) form =
    plain_read line (after_key-none (codes "BRDA:") line (λ begins. form.0.0 (inr (inr (inr (inr (inr (inr (inl begins))))))))) (after_key-none (codes "FN:") line (λ begins. form.0.0 (inr (inr (inl begins))))) (after_key-none (codes "FNL:") line form.1) (after_key-none (codes "FNA:") line form.2)
    ∙ ap plain (form_read line Skip form.0)
form_read_lcov2 line (Plain (Test name)) form = other_read line (codes "TN:" ++ name) (Test name) form refl refl refl refl form
form_read_lcov2 line (Plain (Path path)) form = other_read line (codes "SF:" ++ path) (Path path) form.0 refl refl refl refl form
form_read_lcov2 line (Plain (FuncCount count name)) form = other_read line (codes "FNDA:" ++ form.0 ++ comma ∷ name) (FuncCount count name) form.1 refl refl refl refl form
form_read_lcov2 line (Plain (Branch number block branch taken)) form = absurd form
form_read_lcov2 line (Plain (Line number count None)) form = other_read line (codes "DA:" ++ form.0 ++ comma ∷ form.1) (Line number count None) form.2 refl refl refl refl form
form_read_lcov2 line (Plain (Line number count (Some checksum))) form =
    other_read line (codes "DA:" ++ form.0 ++ comma ∷ (form.1 ++ comma ∷ checksum)) (Line number count (Some checksum)) form.2 refl refl refl refl form
form_read_lcov2 line (Plain (Total kind value)) form = total_read line kind value form
form_read_lcov2 line (Plain End) form = other_read line (codes "end_of_record" ++ form.0) End form.1 refl refl refl refl form
form_read_lcov2 line (Leader index number) form =
    ap read_of_lcov2 form.3 ∙ leader_line_read (form.0 ++ comma ∷ (form.1 ++ form.2)) ∙ leader_read form.0 form.1 form.2 index number form.4 form.5 form.6
form_read_lcov2 line (Alias index count name) form =
    ap read_of_lcov2 form.2 ∙ alias_line_read (form.0 ++ comma ∷ (form.1 ++ comma ∷ name)) ∙ alias_read form.0 form.1 name index count form.3 form.4 form.5
form_read_lcov2 line (Edge is_excluded number block branch taken) form =
    ap read_of_lcov2 form.parts ∙ edge_line_read (form.digits ++ comma ∷ (form.marks ++ (form.blocks ++ comma ∷ (form.words ++ comma ∷ form.text))))
    ∙ edge_read line is_excluded number block branch taken form

-- ---- each line has a form, or is refused

abbrev HasFormOrFault : List ℕ → Type 0
HasFormOrFault line =
    ((says : Lcov2Data) × HasLcov2Form line says) ⊎ (((read_of_lcov2 line ≡ Err BadLine) × (line ≢ codes "SF:") × HasLcov2Key line) ⊎ (line ≡ codes "SF:"))

isnt_path : (line front : List ℕ) → line ≡ front → after_key (codes "SF:") front ≡ None → line ≢ codes "SF:"
isnt_path line front e other path = none-some [] (sym other ∙ ap (after_key (codes "SF:")) (sym e ∙ path))

bad_start : (line fields : List ℕ) → line ≡ codes "FN:" ++ fields → start_fields fields ≡ Err BadLine → HasFormOrFault line
bad_start line fields e bad =
    inr (inl (ap read_of_lcov2 e ∙ start_line_read fields ∙ bad, isnt_path line (codes "FN:" ++ fields) e refl, inr (inr (inr (inr (inl (fields, e)))))))

start_judged : (line fields : List ℕ) → line ≡ codes "FN:" ++ fields → HasFormOrFault line
start_judged line fields e =
    elim (field_or_none fields) [
      | inl field ↦ elim (name_found field.rest) [
        | inl name ↦ inl (
          Plain (FuncStart field.number name.0),
          (field.digits, field.rest, e ∙ ap (λ (t : List ℕ). codes "FN:" ++ t) field.parts, field.numeral, name.1),
        )
        | inr none ↦ bad_start line fields e
            (rw (field_read fields field) (ap (λ (n : List ℕ). if_named n (plain (start_of (sized_number field.number) n))) none))
      ]
      | inr none ↦ bad_start line fields e (rw none refl)
    ]

bad_leader : (line fields : List ℕ) → line ≡ codes "FNL:" ++ fields → leader_fields fields ≡ Err BadLine → HasFormOrFault line
bad_leader line fields e bad =
    inr (inl (ap read_of_lcov2 e ∙ leader_line_read fields ∙ bad, isnt_path line (codes "FNL:" ++ fields) e refl, inl (fields, e)))

leader_judged : (line fields : List ℕ) → line ≡ codes "FNL:" ++ fields → HasFormOrFault line
leader_judged line fields e =
    elim (field_or_none fields) [
      | inl index ↦ elim (numeral_or_none index.rest) [
        | inl front ↦ elim (end_found front.rest) [
          | inl end ↦ inl (
            Leader index.number (digits_value front.digits),
            (index.digits, front.digits, front.rest, e ∙ ap (λ (t : List ℕ). codes "FNL:" ++ t) (index.parts ∙ ap (λ (t : List ℕ). index.digits ++ comma ∷ t) front.parts), index.numeral, front.numeral, end),
          )
          | inr none ↦ bad_leader line fields e (rw (field_read fields index, ap number_at front.parts ∙ number_is front.digits front.rest (digits_value front.digits) front.numeral front.stops, none) refl)
        ]
        | inr none ↦ bad_leader line fields e (rw (field_read fields index, none) refl)
      ]
      | inr none ↦ bad_leader line fields e (rw none refl)
    ]

bad_alias : (line fields : List ℕ) → line ≡ codes "FNA:" ++ fields → alias_fields fields ≡ Err BadLine → HasFormOrFault line
bad_alias line fields e bad =
    inr (inl (ap read_of_lcov2 e ∙ alias_line_read fields ∙ bad, isnt_path line (codes "FNA:" ++ fields) e refl, inr (inl (fields, e))))

alias_from : (line fields : List ℕ) → line ≡ codes "FNA:" ++ fields → (index : BeginsWithField fields) (front : BeginsWithCount index.rest) (name : List ℕ) → front.rest ≡ comma ∷ name → HasFormOrFault line
alias_from line fields e index front name after =
    let parts : index.rest ≡ front.counted ++ comma ∷ name = front.parts ∙ ap (λ (t : List ℕ). front.counted ++ t) after in
    elim (nameless name (alias_of (sized_number index.number) (sized_number front.count) name)) [
      | inl some ↦ inl (
        Alias index.number front.count name,
        (index.digits, front.counted, e ∙ ap (λ (t : List ℕ). codes "FNA:" ++ t) (index.parts ∙ ap (λ (t : List ℕ). index.digits ++ comma ∷ t) parts), index.numeral, front.counts, some),
      )
      | inr none ↦ bad_alias line fields e (rw (field_read fields index, count_read index.rest front, after) none)
    ]

alias_judged : (line fields : List ℕ) → line ≡ codes "FNA:" ++ fields → HasFormOrFault line
alias_judged line fields e =
    elim (field_or_none fields) [
      | inl index ↦ elim (count_or_none index.rest) [
        | inl front ↦ elim (comma_or_none (sized_number front.count) front.rest) [
          | inl found ↦ alias_from line fields e index front found.0 found.1
          | inr none ↦ bad_alias line fields e (rw (field_read fields index, count_read index.rest front, none) refl)
        ]
        | inr none ↦ bad_alias line fields e (rw (field_read fields index, none) refl)
      ]
      | inr none ↦ bad_alias line fields e (rw none refl)
    ]

bad_edge : (line fields : List ℕ) → line ≡ codes "BRDA:" ++ fields → edge_fields fields ≡ Err BadLine → HasFormOrFault line
bad_edge line fields e bad =
    inr (inl (ap read_of_lcov2 e ∙ edge_line_read fields ∙ bad, isnt_path line (codes "BRDA:" ++ fields) e refl, inr (inr (inr (inr (inr (inr (inr (inr (inl (fields, e)))))))))))

module _ (line fields : List ℕ) (e : line ≡ codes "BRDA:" ++ fields) (number : BeginsWithField fields) (marks : MarksAt number.rest) (block : BeginsWithField marks.rest) where
  edge_read_so : edge_fields fields ≡ if_part (last_cut block.rest) (edge_end marks.is_excluded (sized_number number.number) (sized_number block.number))
  edge_read_so = rw (field_read fields number, marks.read, field_read marks.rest block) refl

  edge_parts : (cut : CutAt block.rest) → line ≡ codes "BRDA:" ++ (number.digits ++ comma ∷ (marks.marks ++ (block.digits ++ comma ∷ (cut.front ++ comma ∷ cut.back))))
  edge_parts cut =
      e ∙ ap (λ (t : List ℕ). codes "BRDA:" ++ t) (
      number.parts ∙ ap (λ (t : List ℕ). number.digits ++ comma ∷ t) (
      marks.parts ∙ ap (λ (t : List ℕ). marks.marks ++ t) (block.parts ∙ ap (λ (t : List ℕ). block.digits ++ comma ∷ t) cut.parts)))

  edge_cut : (cut : CutAt block.rest) → HasFormOrFault line
  edge_cut cut =
      elim (name_named cut.front) [
        | inl name ↦ elim (taken_or_none cut.back) [
          | inl taken ↦ inl (
            Edge marks.is_excluded number.number block.number name.0 taken.0,
            record {
              digits = number.digits;
              marks = marks.marks;
              blocks = block.digits;
              words = cut.front;
              text = cut.back;
              parts = edge_parts cut;
              number_is = number.numeral;
              each = marks.each;
              excluded_is = marks.excluded_is;
              block_is = block.numeral;
              branch_is = name.1;
              taken_is = taken.1;
            },
          )
          | inr none ↦ bad_edge line fields e (edge_read_so ∙ (rw (cut.read, name_read cut.front name.0 name.1, none) refl))
        ]
        | inr none ↦ bad_edge line fields e (edge_read_so ∙ (rw (cut.read, none) refl))
      ]

  edge_from : HasFormOrFault line
  edge_from =
      elim (cut_found block.rest) [
        | inl cut ↦ edge_cut cut
        | inr none ↦ bad_edge line fields e (edge_read_so ∙ (rw none refl))
      ]

edge_judged : (line fields : List ℕ) → line ≡ codes "BRDA:" ++ fields → HasFormOrFault line
edge_judged line fields e =
    elim (field_or_none fields) [
      | inl number ↦ let marks = marks_at number.rest in
          elim (field_or_none marks.rest) [
            | inl block ↦ edge_from line fields e number marks block
            | inr none ↦ bad_edge line fields e (rw (field_read fields number, marks.read, none) refl)
          ]
      | inr none ↦ bad_edge line fields e (rw none refl)
    ]

plain_form : (line : List ℕ) (says : LineData) → ¬ Begins line (codes "BRDA:") → ¬ Begins line (codes "FN:") → ¬ Begins line (codes "FNL:") → ¬ Begins line (codes "FNA:") → HasForm line says → HasLcov2Form line (Plain says)
plain_form line (Branch number block branch taken) no_branch no_start no_leader no_alias form =
    absurd (no_branch (form.0 ++ comma ∷ (form.1 ++ comma ∷ (form.2 ++ comma ∷ form.3)), form.4))
plain_form line (FuncStart number name) no_branch no_start no_leader no_alias form = absurd (no_start (form.0 ++ comma ∷ name, form.1))
plain_form line Skip no_branch no_start no_leader no_alias form = (form, no_leader, no_alias)
plain_form line says no_branch no_start no_leader no_alias form = form

plain_judged : (line : List ℕ) → ¬ Begins line (codes "BRDA:") → ¬ Begins line (codes "FN:") → ¬ Begins line (codes "FNL:") → ¬ Begins line (codes "FNA:") → HasFormOrFault line
plain_judged line no_branch no_start no_leader no_alias =
    let read = plain_read line (after_key-none (codes "BRDA:") line no_branch) (after_key-none (codes "FN:") line no_start) (after_key-none (codes "FNL:") line no_leader) (after_key-none (codes "FNA:") line no_alias) in
    elim (form_or_fault line) [
      | inl says ↦ inl (Plain says.0, plain_form line says.0 no_branch no_start no_leader no_alias says.1)
      | inr (inl bad) ↦ inr (inl (read ∙ ap plain bad.0, bad.1, inr (inr bad.2)))
      | inr (inr path) ↦ inr (inr path)
    ]

form_or_fault_lcov2 : (line : List ℕ) → HasFormOrFault line
form_or_fault_lcov2 line =
    elim (begins_or_not (codes "BRDA:") line) [
      | inl begins ↦ edge_judged line begins.0 begins.1
      | inr no_branch ↦ elim (begins_or_not (codes "FN:") line) [
        | inl begins ↦ start_judged line begins.0 begins.1
        | inr no_start ↦ elim (begins_or_not (codes "FNL:") line) [
          | inl begins ↦ leader_judged line begins.0 begins.1
          | inr no_leader ↦ elim (begins_or_not (codes "FNA:") line) [
            | inl begins ↦ alias_judged line begins.0 begins.1
            | inr no_alias ↦ plain_judged line no_branch no_start no_leader no_alias
          ]
        ]
      ]
    ]

-- ---- the laws

abbrev HasMeaning : List ℕ → Result Lcov2Data LineFault → Type 0
HasMeaning line (Ok says) = Lcov2Spells line says
HasMeaning line (Err fault) = HasLcov2Fault line fault

path_missing : read_of_lcov2 (codes "SF:") ≡ Err EmptyPath
path_missing = plain_read (codes "SF:") refl refl refl refl ∙ ap plain (one.fault_read (codes "SF:") EmptyPath refl)

meaning_at : (line : List ℕ) (meaning : Result Lcov2Data LineFault) → read_of_lcov2 line ≡ meaning → HasMeaning line meaning → HasMeaning line (read_of_lcov2 line)
meaning_at line meaning same means = let P : Result Lcov2Data LineFault → Type 0 = λ m. HasMeaning line m in subst P (sym same) means

form_means : (line : List ℕ) (says : Lcov2Data) → HasLcov2Form line says → HasMeaning line (read_of_lcov2 line)
form_means line says form =
    elim (small_or_large_lcov2 says) [
      | inl small ↦ meaning_at line (Ok says) (form_read_lcov2 line says form ∙ fits_small says small) (record { form = form; small = small })
      | inr large ↦ meaning_at line (Err NumberTooLarge) (form_read_lcov2 line says form ∙ large.1) (says, form, large.0)
    ]

abbrev is_bad : Result Lcov2Data LineFault → Bool
is_bad (Ok says) = false
is_bad (Err BadLine) = true
is_bad (Err NumberTooLarge) = false
is_bad (Err EmptyPath) = false

bad_has_no_form : (line : List ℕ) (says : Lcov2Data) → read_of_lcov2 line ≡ Err BadLine → ¬ HasLcov2Form line says
bad_has_no_form line says bad form =
    elim (small_or_large_lcov2 says) [
      | inl small ↦ false≢true (ap is_bad (sym (form_read_lcov2 line says form ∙ fits_small says small) ∙ bad))
      | inr large ↦ false≢true (ap is_bad (sym (form_read_lcov2 line says form ∙ large.1) ∙ bad))
    ]

meaning_of : (line : List ℕ) → HasMeaning line (read_of_lcov2 line)
meaning_of line =
    elim (form_or_fault_lcov2 line) [
      | inl says ↦ form_means line says.0 says.1
      | inr (inl bad) ↦ meaning_at line (Err BadLine) bad.0 (bad.2, bad.1, λ says form. bad_has_no_form line says bad.0 form)
      | inr (inr path) ↦ meaning_at line (Err EmptyPath) (ap read_of_lcov2 path ∙ path_missing) path
    ]

pub spelled_read : (line : List ℕ) (says : Lcov2Data) → Lcov2Spells line says → read_of_lcov2 line ≡ Ok says
spelled_read line says spelled = form_read_lcov2 line says spelled.form ∙ fits_small says spelled.small

large_read : (line : List ℕ) (says : Lcov2Data) → HasLcov2Form line says → ¬ HasSmallLcov2Numbers says → read_of_lcov2 line ≡ Err NumberTooLarge
large_read line says form large =
    elim (small_or_large_lcov2 says) [
      | inl small ↦ absurd (large small)
      | inr too ↦ form_read_lcov2 line says form ∙ too.1
    ]

pub fault_read : (line : List ℕ) (fault : LineFault) → HasLcov2Fault line fault → read_of_lcov2 line ≡ Err fault
fault_read line EmptyPath fault = ap read_of_lcov2 fault ∙ path_missing
fault_read line NumberTooLarge fault = large_read line fault.0 fault.1 fault.2
fault_read line BadLine fault =
    elim (form_or_fault_lcov2 line) [
      | inl says ↦ absurd (fault.2 says.0 says.1)
      | inr (inl bad) ↦ bad.0
      | inr (inr path) ↦ absurd (fault.1 path)
    ]

pub ok_spells : (line : List ℕ) (r : Result Lcov2Line LineFault) → GivesLcov2 r (read_of_lcov2 line) → IfOk r (λ t. Lcov2Spells line (lcov2_data t))
ok_spells line (Ok t) gives = let P : Result Lcov2Data LineFault → Type 0 = λ m. HasMeaning line m in subst P gives (meaning_of line)
ok_spells line (Err f) gives = tt

pub err_has_fault : (line : List ℕ) (r : Result Lcov2Line LineFault) → GivesLcov2 r (read_of_lcov2 line) → IfErr r (λ f. HasLcov2Fault line f)
err_has_fault line (Ok t) gives = tt
err_has_fault line (Err f) gives = let P : Result Lcov2Data LineFault → Type 0 = λ m. HasMeaning line m in subst P gives (meaning_of line)

abbrev ok_of : Lcov2Data → Result Lcov2Data LineFault
ok_of says = Ok says

abbrev err_of : LineFault → Result Lcov2Data LineFault
err_of fault = Err fault

same_ok : (x y : Lcov2Data) → ok_of x ≡ ok_of y → x ≡ y
same_ok x y e = cc

same_err : (x y : LineFault) → err_of x ≡ err_of y → x ≡ y
same_err x y e = cc

ok_isnt_err : (x : Lcov2Data) (y : LineFault) → ok_of x ≢ err_of y
ok_isnt_err x y e = cc

pub only_spelled : (line : List ℕ) (r : Result Lcov2Line LineFault) → GivesLcov2 r (read_of_lcov2 line) → (says : Lcov2Data) → Lcov2Spells line says → MatchResult r (λ t. lcov2_data t ≡ says) (λ f. ⊥)
only_spelled line (Ok t) gives says spelled = same_ok (lcov2_data t) says (sym gives ∙ spelled_read line says spelled)
only_spelled line (Err f) gives says spelled = ok_isnt_err says f (sym (spelled_read line says spelled) ∙ gives)

pub only_fault : (line : List ℕ) (r : Result Lcov2Line LineFault) → GivesLcov2 r (read_of_lcov2 line) → (fault : LineFault) → HasLcov2Fault line fault → r ≡ Err fault
only_fault line (Ok t) gives fault has = absurd (ok_isnt_err (lcov2_data t) fault (sym gives ∙ fault_read line fault has))
only_fault line (Err f) gives fault has = ap (λ (x : LineFault). Err x) (same_err f fault (sym gives ∙ fault_read line fault has))

pub one_meaning : (line : List ℕ) (x y : Lcov2Data) → Lcov2Spells line x → Lcov2Spells line y → x ≡ y
one_meaning line x y p q = same_ok x y (sym (spelled_read line x p) ∙ spelled_read line y q)

pub no_fault_beside : (line : List ℕ) (x : Lcov2Data) (fault : LineFault) → Lcov2Spells line x → ¬ HasLcov2Fault line fault
no_fault_beside line x fault p has = ok_isnt_err x fault (sym (spelled_read line x p) ∙ fault_read line fault has)

pub one_fault : (line : List ℕ) (x y : LineFault) → HasLcov2Fault line x → HasLcov2Fault line y → x ≡ y
one_fault line x y p q = same_err x y (sym (fault_read line x p) ∙ fault_read line y q)

found_meaning : (line : List ℕ) (r : Result Lcov2Data LineFault) → HasMeaning line r → ((says : Lcov2Data) × Lcov2Spells line says) ⊎ ((fault : LineFault) × HasLcov2Fault line fault)
found_meaning line (Ok says) means = inl (says, means)
found_meaning line (Err fault) means = inr (fault, means)

pub some_meaning : (line : List ℕ) → ((says : Lcov2Data) × Lcov2Spells line says) ⊎ ((fault : LineFault) × HasLcov2Fault line fault)
some_meaning line = found_meaning line (read_of_lcov2 line) (meaning_of line)
