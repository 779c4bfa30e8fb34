-- The rows of a section rise by line, if its lines rise and its branches never fall.
use Rattle.std.proofs.Common.{◌≡◌, ℕ, ◌+◌, ◌≤◌, ◌<◌, List, [], ◌∷◌, ◌++◌, map, sym, ap, ◌∙◌, append_assoc, subst, arith, inl, inr}
use Rattle.std.specs.List.{AllByRecursion}
use Rattle.std.proofs.lemmas.Bool.{cases_Bool, eqb-false, eqb-true, ltb-false, ltb-true}
use Rattle.std.proofs.lemmas.List.{map-append}
use Rattle.covtable.specs.Content.{BranchValueData, LineValueData}
use Rattle.covhtml.specs.Rows.{RowData}
use Rattle.covhtml.specs.SectionRows.{NeverFalls, Rises, behind, branch_rows, branches_after, branches_from, front, is_before, is_of, line_rows, onto_rows, section_rows}
use Rattle.covhtml.proofs.PointsKept.{own_row}

abbrev numbers : List RowData → List ℕ
numbers rows = map (λ (row : RowData). row.number) rows

abbrev lines_in : List BranchValueData → List ℕ
lines_in branches = map (λ (b : BranchValueData). b.point.line) branches

abbrev AreBelow : ℕ → List ℕ → Type 0
AreBelow most all = AllByRecursion (λ (n : ℕ). n < most) all

-- ---- numbers

weaker : (m n : ℕ) (all : List ℕ) → m ≤ n → Rises n all → Rises m all
weaker m n [] less up = tt
weaker m n (x ∷ all) less up = (omega (arith, less, up.0), up.1)

joined : (least m : ℕ) (low high : List ℕ) → least ≤ m → Rises least low → AreBelow m low → Rises m high → Rises least (low ++ high)
joined least m [] high less up below more = weaker least m high less more
joined least m (x ∷ low) high less up below more = (up.0, joined (x + 1) m low high (omega (arith, below.0)) up.1 below.1 more)

-- ---- rows of branches alone

onto_rises : (least : ℕ) (b : BranchValueData) (rows : List RowData) → least ≤ b.point.line → Rises b.point.line (numbers rows) → Rises least (numbers (onto_rows b rows))
onto_rises least b [] less up = (less, tt)
onto_rises least b (row ∷ rows) less up =
    elim (cases_Bool (is_of row.number b)) [
      | inl same ↦ rw same (omega (arith, less, up.0), up.1)
      | inr other ↦ rw other (less, (omega (arith, up.0, eqb-false b.point.line row.number other), up.1))
    ]

alone_rise : (least : ℕ) (branches : List BranchValueData) → NeverFalls least (lines_in branches) → Rises least (numbers (branch_rows branches))
alone_rise least [] up = tt
alone_rise least (b ∷ branches) up = onto_rises least b (branch_rows branches) up.0 (alone_rise b.point.line branches up.1)

onto_below : (most : ℕ) (b : BranchValueData) (rows : List RowData) → b.point.line < most → AreBelow most (numbers rows) → AreBelow most (numbers (onto_rows b rows))
onto_below most b [] less below = (less, tt)
onto_below most b (row ∷ rows) less below =
    elim (cases_Bool (is_of row.number b)) [
      | inl same ↦ rw same below
      | inr other ↦ rw other (less, below)
    ]

alone_below : (most : ℕ) (branches : List BranchValueData) → AreBelow most (lines_in branches) → AreBelow most (numbers (branch_rows branches))
alone_below most [] below = tt
alone_below most (b ∷ branches) below = onto_below most b (branch_rows branches) below.0 (alone_below most branches below.1)

-- ---- branches before a line, from it on, and after it

front_below : (line : ℕ) (branches : List BranchValueData) → AreBelow line (lines_in (front (is_before line) branches))
front_below line [] = tt
front_below line (b ∷ branches) =
    elim (cases_Bool (is_before line b)) [
      | inl holds ↦ rw holds (ltb-true b.point.line line holds, front_below line branches)
      | inr stops ↦ rw stops tt
    ]

front_rises : (line least : ℕ) (branches : List BranchValueData) → NeverFalls least (lines_in branches) → NeverFalls least (lines_in (front (is_before line) branches))
front_rises line least [] up = tt
front_rises line least (b ∷ branches) up =
    elim (cases_Bool (is_before line b)) [
      | inl holds ↦ rw holds (up.0, front_rises line b.point.line branches up.1)
      | inr stops ↦ rw stops tt
    ]

from_rises : (line least : ℕ) (branches : List BranchValueData) → NeverFalls least (lines_in branches) → NeverFalls line (lines_in (branches_from line branches))
from_rises line least [] up = tt
from_rises line least (b ∷ branches) up =
    elim (cases_Bool (is_before line b)) [
      | inl holds ↦ rw holds (from_rises line b.point.line branches up.1)
      | inr stops ↦ rw stops (ltb-false b.point.line line stops, up.1)
    ]

after_rises : (line : ℕ) (branches : List BranchValueData) → NeverFalls line (lines_in branches) → NeverFalls (line + 1) (lines_in (behind (is_of line) branches))
after_rises line [] up = tt
after_rises line (b ∷ branches) up =
    elim (cases_Bool (is_of line b)) [
      | inl same ↦ rw same (after_rises line branches (subst (λ (n : ℕ). NeverFalls n (lines_in branches)) (eqb-true b.point.line line same) up.1))
      | inr other ↦ rw other (omega (arith, up.0, eqb-false b.point.line line other), up.1)
    ]

-- ---- the rows of a section

rows_are : (l : LineValueData) (branches : List BranchValueData) (others : List RowData)
    → numbers (line_rows l branches ++ others) ≡ numbers (branch_rows (front (is_before l.line) branches)) ++ (l.line ∷ numbers others)
rows_are l branches others =
    map-append (λ (row : RowData). row.number) (line_rows l branches) others
    ∙ ap (λ (ns : List ℕ). ns ++ numbers others) (map-append (λ (row : RowData). row.number) (branch_rows (front (is_before l.line) branches)) (own_row l branches ∷ []))
    ∙ append_assoc (numbers (branch_rows (front (is_before l.line) branches))) (l.line ∷ []) (numbers others)

section_rises : (least : ℕ) (lines : List LineValueData) (branches : List BranchValueData) → Rises least (map (λ (l : LineValueData). l.line) lines) → NeverFalls least (lines_in branches)
    → Rises least (numbers (section_rows lines branches))
section_rises least [] branches up never = alone_rise least branches never
section_rises least (l ∷ lines) branches up never =
    let earlier = front (is_before l.line) branches in
    subst (Rises least) (sym (rows_are l branches (section_rows lines (branches_after l.line branches))))
    (joined least l.line (numbers (branch_rows earlier)) (l.line ∷ numbers (section_rows lines (branches_after l.line branches))) up.0
    (alone_rise least earlier (front_rises l.line least branches never))
    (alone_below l.line earlier (front_below l.line branches))
    (omega arith, section_rises (l.line + 1) lines (branches_after l.line branches) up.1 (after_rises l.line (branches_from l.line branches) (from_rises l.line least branches never))))

pub rows_rise : (lines : List LineValueData) (branches : List BranchValueData) → Rises 0 (map (λ l. l.line) lines) → NeverFalls 0 (map (λ b. b.point.line) branches)
    → Rises 0 (map (λ r. r.number) (section_rows lines branches))
rows_rise lines branches up never = section_rises 0 lines branches up never
