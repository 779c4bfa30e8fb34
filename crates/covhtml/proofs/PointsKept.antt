-- The rows of a section have all of its lines and branches, and no others.
use Rattle.std.proofs.Common.{◌≡◌, ℕ, Some, List, [], ◌∷◌, ◌++◌, map, refl, ap, ◌∙◌, append_assoc, inl, inr}
use Rattle.std.specs.List.{AllByRecursion}
use Rattle.std.proofs.lemmas.Bool.{cases_Bool, eqb-true}
use Rattle.std.proofs.lemmas.List.{append-nil}
use Rattle.std.proofs.lemmas.List.Concat.{flat_map-append}
use Rattle.covtable.specs.Content.{BranchValueData, LineValueData}
use Rattle.covhtml.specs.Rows.{RowData}
use Rattle.covhtml.specs.SectionRows.{HasOwnBranches, branch_rows, branches_after, branches_from, branches_in, counted_line, counts_in, front, is_before, is_of, line_count, line_rows, onto_rows, section_rows}
use Rattle.covhtml.proofs.Fronts.{parts}

-- the row of a line with its count
abbrev pub own_row : LineValueData → List BranchValueData → RowData
own_row l branches = record { number = l.line; count = Some l.count; branches = front (is_of l.line) (branches_from l.line branches) }

-- ---- branches

onto_keeps : (b : BranchValueData) (rows : List RowData) → branches_in (onto_rows b rows) ≡ b ∷ branches_in rows
onto_keeps b [] = refl
onto_keeps b (row ∷ rows) =
    elim (cases_Bool (is_of row.number b)) [
      | inl same ↦ rw same refl
      | inr other ↦ rw other refl
    ]

alone_kept : (branches : List BranchValueData) → branches_in (branch_rows branches) ≡ branches
alone_kept [] = refl
alone_kept (b ∷ branches) = onto_keeps b (branch_rows branches) ∙ ap (λ (bs : List BranchValueData). b ∷ bs) (alone_kept branches)

line_kept : (l : LineValueData) (branches : List BranchValueData)
    → branches_in (line_rows l branches) ≡ front (is_before l.line) branches ++ front (is_of l.line) (branches_from l.line branches)
line_kept l branches =
    flat_map-append (λ (row : RowData). row.branches) (branch_rows (front (is_before l.line) branches)) (own_row l branches ∷ [])
    ∙ ap (λ (bs : List BranchValueData). bs ++ (front (is_of l.line) (branches_from l.line branches) ++ [])) (alone_kept (front (is_before l.line) branches))
    ∙ ap (λ (bs : List BranchValueData). front (is_before l.line) branches ++ bs) (append-nil (front (is_of l.line) (branches_from l.line branches)))

pub branches_kept : (lines : List LineValueData) (branches : List BranchValueData) → branches_in (section_rows lines branches) ≡ branches
branches_kept [] branches = alone_kept branches
branches_kept (l ∷ lines) branches =
    flat_map-append (λ (row : RowData). row.branches) (line_rows l branches) (section_rows lines (branches_after l.line branches))
    ∙ ap (λ (bs : List BranchValueData). bs ++ branches_in (section_rows lines (branches_after l.line branches))) (line_kept l branches)
    ∙ ap (λ (bs : List BranchValueData). (front (is_before l.line) branches ++ front (is_of l.line) (branches_from l.line branches)) ++ bs) (branches_kept lines (branches_after l.line branches))
    ∙ append_assoc (front (is_before l.line) branches) (front (is_of l.line) (branches_from l.line branches)) (branches_after l.line branches)
    ∙ ap (λ (bs : List BranchValueData). front (is_before l.line) branches ++ bs) (parts (is_of l.line) (branches_from l.line branches))
    ∙ parts (is_before l.line) branches

-- ---- counts

onto_counts : (b : BranchValueData) (rows : List RowData) → counts_in (onto_rows b rows) ≡ counts_in rows
onto_counts b [] = refl
onto_counts b (row ∷ rows) =
    elim (cases_Bool (is_of row.number b)) [
      | inl same ↦ rw same refl
      | inr other ↦ rw other refl
    ]

alone_counts : (branches : List BranchValueData) → counts_in (branch_rows branches) ≡ []
alone_counts [] = refl
alone_counts (b ∷ branches) = onto_counts b (branch_rows branches) ∙ alone_counts branches

line_counts : (l : LineValueData) (branches : List BranchValueData) → counts_in (line_rows l branches) ≡ (l.line, l.count) ∷ []
line_counts l branches =
    flat_map-append (λ (row : RowData). counted_line row.number row.count) (branch_rows (front (is_before l.line) branches)) (own_row l branches ∷ [])
    ∙ ap (λ (cs : List (ℕ × ℕ)). cs ++ ((l.line, l.count) ∷ [])) (alone_counts (front (is_before l.line) branches))

pub counts_kept : (lines : List LineValueData) (branches : List BranchValueData) → counts_in (section_rows lines branches) ≡ map line_count lines
counts_kept [] branches = alone_counts branches
counts_kept (l ∷ lines) branches =
    flat_map-append (λ (row : RowData). counted_line row.number row.count) (line_rows l branches) (section_rows lines (branches_after l.line branches))
    ∙ ap (λ (cs : List (ℕ × ℕ)). cs ++ counts_in (section_rows lines (branches_after l.line branches))) (line_counts l branches)
    ∙ ap (λ (cs : List (ℕ × ℕ)). (l.line, l.count) ∷ cs) (counts_kept lines (branches_after l.line branches))

-- ---- each branch in the row of its line

front_own : (line : ℕ) (branches : List BranchValueData) → AllByRecursion (λ b. b.point.line ≡ line) (front (is_of line) branches)
front_own line [] = tt
front_own line (b ∷ branches) =
    elim (cases_Bool (is_of line b)) [
      | inl same ↦ rw same (eqb-true b.point.line line same, front_own line branches)
      | inr other ↦ rw other tt
    ]

onto_own : (b : BranchValueData) (rows : List RowData) → AllByRecursion HasOwnBranches rows → AllByRecursion HasOwnBranches (onto_rows b rows)
onto_own b [] own = ((refl, tt), tt)
onto_own b (row ∷ rows) own =
    elim (cases_Bool (is_of row.number b)) [
      | inl same ↦ rw same ((eqb-true b.point.line row.number same, own.0), own.1)
      | inr other ↦ rw other ((refl, tt), own)
    ]

alone_own : (branches : List BranchValueData) → AllByRecursion HasOwnBranches (branch_rows branches)
alone_own [] = tt
alone_own (b ∷ branches) = onto_own b (branch_rows branches) (alone_own branches)

both_own : (rows others : List RowData) → AllByRecursion HasOwnBranches rows → AllByRecursion HasOwnBranches others → AllByRecursion HasOwnBranches (rows ++ others)
both_own [] others own more = more
both_own (row ∷ rows) others own more = (own.0, both_own rows others own.1 more)

pub places_kept : (lines : List LineValueData) (branches : List BranchValueData) → AllByRecursion HasOwnBranches (section_rows lines branches)
places_kept [] branches = alone_own branches
places_kept (l ∷ lines) branches =
    both_own (line_rows l branches) (section_rows lines (branches_after l.line branches))
    (both_own (branch_rows (front (is_before l.line) branches)) (own_row l branches ∷ []) (alone_own (front (is_before l.line) branches)) (front_own l.line (branches_from l.line branches), tt))
    (places_kept lines (branches_after l.line branches))
