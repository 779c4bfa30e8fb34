-- What stands under a test and a file after new names were given.
use Rattle.std.proofs.Common.{◌≡◌, ◌⊎◌, inl, inr, ⊎_elim, ℕ, ◌+◌, Bool, true, false, cond, ◌&&◌, List, [], ◌∷◌, ◌++◌, map, Decides, refl, sym, ap, ap₂, ◌∙◌, arith}
use Rattle.std.specs.Prelude.{◌↔◌, filter, flat_map}
use Rattle.std.specs.List.{sum_by}
use Rattle.std.specs.Str.{bytes_eq}
use Rattle.std.proofs.lemmas.Bool.{false≢true}
use Rattle.std.proofs.lemmas.List.{map-append}
use Rattle.std.proofs.lemmas.List.Sums.{sum_by-cons}
use Rattle.std.proofs.lemmas.Slice.Eq.{bytes_eq-Decides}
use Rattle.covdata.specs.Row.{ItemData, Row, SubmissionData, rows_of}
use Rattle.covpaths.specs.Meeting.{IsApart, Meet, is_of, items_of, paths_alone, with_new_paths}
use Rattle.covpaths.specs.Names.{NamesData, named, named_row}
use Rattle.covpaths.specs.Paths.{RuleData, mapped_path}
use Rattle.covpaths.proofs.NewRows.{rows_named}

-- ---- several submissions

pub rows_joined : (names : NamesData) (submissions : List SubmissionData)
    → flat_map rows_of (map (named names) submissions) ≡ map (named_row names) (flat_map rows_of submissions)
rows_joined names [] = refl
rows_joined names (s ∷ submissions) =
    ap₂ (λ (first rest : List Row). first ++ rest) (rows_named names s.sects) (rows_joined names submissions)
    ∙ sym (map-append (named_row names) (rows_of s) (flat_map rows_of submissions))

-- ---- the items of a test and a file

abbrev items_if : Bool → Row → List Row → List ItemData
items_if is row rows = map (λ (row : Row). row.item) (cond is (row ∷ rows) rows)

same_if : (is : Bool) (row other : Row) (rows others : List Row) → row.item ≡ other.item → map (λ (row : Row). row.item) rows ≡ map (λ (row : Row). row.item) others
    → items_if is row rows ≡ items_if is other others
same_if true row other rows others same more = ap₂ (λ (item : ItemData) (items : List ItemData). item ∷ items) same more
same_if false row other rows others same more = more

-- they are those of the rows whose names become these, in order
pub items_under : (names : NamesData) (test file : List ℕ) (rows : List Row)
    → items_of test file (map (named_row names) rows) ≡ map (λ (row : Row). row.item) (filter (λ (row : Row). is_of test file (named_row names row)) rows)
items_under names test file [] = refl
items_under names test file (row ∷ rows) =
    same_if (is_of test file (named_row names row)) (named_row names row) row (filter (is_of test file) (map (named_row names) rows))
    (filter (λ (row : Row). is_of test file (named_row names row)) rows) refl (items_under names test file rows)

-- ---- files that meet

sum_if : (f : ItemData → ℕ) (is : Bool) (row : Row) (rows : List Row)
    → sum_by f (items_if is row rows) ≡ cond is (f row.item) 0 + sum_by f (map (λ (row : Row). row.item) rows)
sum_if f true row rows = sum_by-cons f row.item (map (λ (row : Row). row.item) rows)
sum_if f false row rows = omega arith

sum_more : (f : ItemData → ℕ) (test file : List ℕ) (row : Row) (rows : List Row)
    → sum_by f (items_of test file (row ∷ rows)) ≡ cond (is_of test file row) (f row.item) 0 + sum_by f (items_of test file rows)
sum_more f test file row rows = sum_if f (is_of test file row) row (filter (is_of test file) rows)

-- what counts under the path counted under one of both files, and never under both
adds : {P A B : Type 0} (p a b t : Bool) (n : ℕ) → Decides p P → Decides a A → Decides b B → P ↔ (A ⊎ B) → (A → B → ⊥)
    → cond (p && t) n 0 ≡ cond (a && t) n 0 + cond (b && t) n 0
adds true true true t n dp da db iff both = absurd (both (da.0 refl) (db.0 refl))
adds true true false t n dp da db iff both = omega arith
adds true false true t n dp da db iff both = omega arith
adds true false false t n dp da db iff both = absurd (⊎_elim (λ is. false≢true (da.1 is)) (λ is. false≢true (db.1 is)) (iff.0 (dp.0 refl)))
adds false true b t n dp da db iff both = absurd (false≢true (dp.1 (iff.1 (inl (da.0 refl)))))
adds false false true t n dp da db iff both = absurd (false≢true (dp.1 (iff.1 (inr (db.0 refl)))))
adds false false false t n dp da db iff both = refl

pub sums_meet : (rules : List RuleData) (f : ItemData → ℕ) (test one other path : List ℕ) → (one ≡ other → ⊥) → (rows : List Row) → Meet rules rows one other path
    → sum_by f (items_of test path (with_new_paths rules rows)) ≡ sum_by f (items_of test one rows) + sum_by f (items_of test other rows)
sums_meet rules f test one other path differ [] meet = refl
sums_meet rules f test one other path differ (row ∷ rows) (here, more) =
    let rest = sums_meet rules f test one other path differ rows more in
    let new = sum_more f test path (named_row (paths_alone rules) row) (with_new_paths rules rows) in
    let left = sum_more f test one row rows in
    let right = sum_more f test other row rows in
    let sum = adds (bytes_eq (mapped_path rules row.file) path) (bytes_eq row.file one) (bytes_eq row.file other) (bytes_eq row.test test) (f row.item)
    (bytes_eq-Decides (mapped_path rules row.file) path) (bytes_eq-Decides row.file one) (bytes_eq-Decides row.file other) here
    (λ is also. differ (sym is ∙ also)) in
    omega (arith, rest, new, left, right, sum)

-- ---- files that stay apart

same_test : {P A : Type 0} (p a : Bool) → Decides p P → Decides a A → (P → A) → (A → P) → p ≡ a
same_test true true dp da to from = refl
same_test true false dp da to from = absurd (false≢true (da.1 (to (dp.0 refl))))
same_test false true dp da to from = absurd (false≢true (dp.1 (from (da.0 refl))))
same_test false false dp da to from = refl

pub items_apart : (rules : List RuleData) (test file : List ℕ) (rows : List Row) → IsApart rules rows file
    → items_of test (mapped_path rules file) (with_new_paths rules rows) ≡ items_of test file rows
items_apart rules test file [] apart = refl
items_apart rules test file (row ∷ rows) (here, more) =
    let same = same_test (bytes_eq (mapped_path rules row.file) (mapped_path rules file)) (bytes_eq row.file file)
    (bytes_eq-Decides (mapped_path rules row.file) (mapped_path rules file)) (bytes_eq-Decides row.file file) here (λ is. ap (mapped_path rules) is) in
    ap (λ (is : Bool). items_if (is && bytes_eq row.test test) (named_row (paths_alone rules) row) (filter (is_of test (mapped_path rules file)) (with_new_paths rules rows))) same
    ∙ same_if (is_of test file row) (named_row (paths_alone rules) row) row (filter (is_of test (mapped_path rules file)) (with_new_paths rules rows))
    (filter (is_of test file) rows) refl (items_apart rules test file rows more)
