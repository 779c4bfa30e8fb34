-- Rows that are printed one after another.
use Rattle.std.proofs.Common.{◌≡◌, ℕ, ◌+◌, ◌≤◌, ◌<◌, nat_lt, false, List, [], ◌∷◌, ◌++◌, length, map, refl, sym, ap, ◌∙◌, append_assoc, arith, inl, inr}
use Rattle.std.specs.List.{AllByRecursion}
use Rattle.std.proofs.lemmas.Bool.{cases_Bool, eq-eqb, le-ltb, lt-ltb, ltb-false, ne_eqb}
use Rattle.std.proofs.lemmas.List.{append-nil}
use Rattle.covhtml.specs.Rows.{RowData, blank_cells, cells_of, other_row, other_rows, row_cells, row_zero, rows_after, rows_below, source_row}

-- no elements are seen of an empty list
pub none_seen : {X Y : Type 0} (f : X → Y) (xs : List X) → length xs ≡ 0 → map f xs ≡ []
none_seen f [] none = refl
none_seen f (x ∷ xs) none = absurd (omega (arith, none))

-- ---- rows after a line

-- a row that isn't after the line is passed
pub row_passed : (line : ℕ) (row : RowData) (rest after : List RowData) → rest ≡ row ∷ after → row.number ≤ line → rows_after line rest ≡ rows_after line after
row_passed line row rest after is passed =
    let here : rows_after line (row ∷ after) ≡ rows_after line after = rw (le-ltb line row.number passed) refl in
    ap (rows_after line) is ∙ here

-- the first row that is after the line, and all rows behind it
pub row_reached : (line : ℕ) (row : RowData) (rest after : List RowData) → rest ≡ row ∷ after → line < row.number → rows_after line rest ≡ rest
row_reached line row rest after is reached =
    let here : rows_after line (row ∷ after) ≡ row ∷ after = rw (lt-ltb line row.number reached) refl in
    ap (rows_after line) is ∙ here ∙ sym is

pub none_reached : (line : ℕ) (rest : List RowData) → rest ≡ [] → rows_after line rest ≡ rest
none_reached line rest none = ap (rows_after line) none ∙ sym none

-- rows after an earlier line have the same rows after this line
after_after : (m n : ℕ) (rows : List RowData) → m ≤ n → rows_after n (rows_after m rows) ≡ rows_after n rows
after_after m n [] later = refl
after_after m n (row ∷ rows) later =
    elim (cases_Bool (nat_lt m row.number)) [
      | inl reached ↦ rw reached refl
      | inr passed ↦
          let over : nat_lt n row.number ≡ false = le-ltb n row.number (omega (arith, ltb-false m row.number passed, later)) in
          rw (passed, over) (after_after m n rows later)
    ]

-- ---- the rows of a source's lines

later_same : (m n : ℕ) (rows : List RowData) (texts : List (List ℕ)) → m ≤ n → rows_below n (rows_after m rows) texts ≡ rows_below n rows texts
later_same m n rows [] later = ap other_rows (after_after m n rows later)
later_same m n rows (text ∷ texts) later =
    ap (λ (here : List RowData). source_row (n + 1) here text ++ rows_below (n + 1) (rows_after m rows) texts) (after_after m n rows later)
    ∙ ap (λ (below : List ℕ). source_row (n + 1) (rows_after n rows) text ++ below) (later_same m (n + 1) rows texts (omega (arith, later)))

-- one more row is printed. The rows before its line aren't needed any more
pub source_row_put : (line : ℕ) (rest now : List RowData) (text : List ℕ) (left more : List (List ℕ)) (t t1 whole : List ℕ) → left ≡ text ∷ more → now ≡ rows_after line rest
    → t1 ≡ t ++ source_row (line + 1) now text → t ++ rows_below line rest left ≡ whole → t1 ++ rows_below (line + 1) now more ≡ whole
source_row_put line rest now text left more t t1 whole next is put so_far =
    ap (λ (x : List ℕ). x ++ rows_below (line + 1) now more) put
    ∙ append_assoc t (source_row (line + 1) now text) (rows_below (line + 1) now more)
    ∙ ap (λ (rows : List RowData). t ++ (source_row (line + 1) rows text ++ rows_below (line + 1) rows more)) is
    ∙ ap (λ (below : List ℕ). t ++ (source_row (line + 1) (rows_after line rest) text ++ below)) (later_same line (line + 1) rest more (omega arith))
    ∙ ap (λ (texts : List (List ℕ)). t ++ rows_below line rest texts) (sym next)
    ∙ so_far

-- the rows that are left are printed after those of the source's lines
pub rows_put : (line : ℕ) (rest now : List RowData) (left : List (List ℕ)) (t t1 whole : List ℕ) → left ≡ [] → now ≡ rows_after line rest
    → t1 ≡ t ++ other_rows now → t ++ rows_below line rest left ≡ whole → t1 ≡ whole
rows_put line rest now left t t1 whole none is put so_far =
    put
    ∙ ap (λ (rows : List RowData). t ++ other_rows rows) is
    ∙ ap (λ (texts : List (List ℕ)). t ++ rows_below line rest texts) (sym none)
    ∙ so_far

-- ---- rows that the source doesn't have

pub other_row_put : (row : RowData) (rest later : List RowData) (t t1 whole : List ℕ) → rest ≡ row ∷ later → t1 ≡ t ++ other_row row later → t ++ other_rows rest ≡ whole
    → t1 ++ other_rows later ≡ whole
other_row_put row rest later t t1 whole next put so_far =
    ap (λ (x : List ℕ). x ++ other_rows later) put
    ∙ append_assoc t (other_row row later) (other_rows later)
    ∙ ap (λ (rows : List RowData). t ++ other_rows rows) (sym next)
    ∙ so_far

pub other_rows_end : (rest : List RowData) (t whole : List ℕ) → rest ≡ [] → t ++ other_rows rest ≡ whole → t ≡ whole
other_rows_end rest t whole none so_far = sym (append-nil t) ∙ ap (λ (rows : List RowData). t ++ other_rows rows) (sym none) ∙ so_far

-- ---- the cells of a line

pub cells_of_row : (line : ℕ) (row : RowData) (rows later : List RowData) → rows ≡ row ∷ later → row.number ≡ line → row_cells row later ≡ cells_of line rows
cells_of_row line row rows later is here =
    let first : row_cells row later ≡ cells_of line (row ∷ later) = rw (eq-eqb row.number line here) refl in
    first ∙ ap (cells_of line) (sym is)

pub cells_of_blank : (line : ℕ) (row : RowData) (rows later : List RowData) → rows ≡ row ∷ later → (row.number ≡ line → ⊥) → blank_cells line ≡ cells_of line rows
cells_of_blank line row rows later is other =
    let first : blank_cells line ≡ cells_of line (row ∷ later) = rw (ne_eqb row.number line other) refl in
    first ∙ ap (cells_of line) (sym is)

pub cells_of_none : (line : ℕ) (rows : List RowData) → rows ≡ [] → blank_cells line ≡ cells_of line rows
cells_of_none line rows none = ap (cells_of line) (sym none)

-- ---- the row of line 0

pub zero_is_first : (row : RowData) (rows later : List RowData) → rows ≡ row ∷ later → row.number ≡ 0 → other_row row later ≡ row_zero rows
zero_is_first row rows later is here =
    let first : other_row row later ≡ row_zero (row ∷ later) = rw (eq-eqb row.number 0 here) refl in
    first ∙ ap row_zero (sym is)

pub zero_is_not_first : (row : RowData) (rows later : List RowData) → rows ≡ row ∷ later → (row.number ≡ 0 → ⊥) → row_zero rows ≡ []
zero_is_not_first row rows later is other =
    let first : row_zero (row ∷ later) ≡ [] = rw (ne_eqb row.number 0 other) refl in
    ap row_zero is ∙ first

pub zero_of_none : (rows : List RowData) → rows ≡ [] → row_zero rows ≡ []
zero_of_none rows none = ap row_zero none

-- ---- ascending rows

front_passed : (line : ℕ) (front rest : List RowData) → AllByRecursion (λ r. r.number ≤ line) front → rows_after line (front ++ rest) ≡ rows_after line rest
front_passed line [] rest front_are = refl
front_passed line (row ∷ front) rest front_are = rw (le-ltb line row.number front_are.0) (front_passed line front rest front_are.1)

-- a line shows its own row, if the rows before it are of earlier lines
pub own_row : (line : ℕ) (front later : List RowData) (row : RowData) → AllByRecursion (λ r. r.number ≤ line) front → row.number ≡ line + 1
    → cells_of (line + 1) (rows_after line (front ++ row ∷ later)) ≡ row_cells row later
own_row line front later row front_are here =
    let reached : rows_after line (row ∷ later) ≡ row ∷ later = row_reached line row (row ∷ later) later refl (omega (arith, here)) in
    ap (cells_of (line + 1)) (front_passed line front (row ∷ later) front_are ∙ reached)
    ∙ sym (cells_of_row (line + 1) row (row ∷ later) later refl here)

-- a line shows no row if there is none of it
pub no_row : (line : ℕ) (front later : List RowData) → AllByRecursion (λ r. r.number ≤ line) front → AllByRecursion (λ r. line + 1 < r.number) later
    → cells_of (line + 1) (rows_after line (front ++ later)) ≡ blank_cells (line + 1)
no_row line front [] front_are later_are = ap (cells_of (line + 1)) (front_passed line front [] front_are)
no_row line front (row ∷ later) front_are later_are =
    let reached : rows_after line (row ∷ later) ≡ row ∷ later = row_reached line row (row ∷ later) later refl (omega (arith, later_are.0)) in
    ap (cells_of (line + 1)) (front_passed line front (row ∷ later) front_are ∙ reached)
    ∙ sym (cells_of_blank (line + 1) row (row ∷ later) later refl (λ (e : row.number ≡ line + 1). omega (arith, e, later_are.0)))
