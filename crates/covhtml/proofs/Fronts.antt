-- Lists that are cut where the first element doesn't pass, and branches by line.
use Rattle.std.proofs.Common.{◌≡◌, ℕ, ◌-◌, ◌≤◌, ◌<◌, Bool, true, false, ◌==◌, Some, List, [], ◌∷◌, ◌++◌, length, map, take, refl, sym, ap, ◌∙◌, append_assoc, arith, inl, inr}
use Rattle.std.proofs.lemmas.Bool.{cases_Bool, eq-eqb, eqb-false, eqb-true, ne_eqb}
use Rattle.std.proofs.lemmas.List.{append-nil, length-append, length-map, map-append, take-map, take_at}
use Rattle.covtable.specs.Content.{BranchValueData, LineValueData}
use Rattle.covhtml.specs.Rows.{RowData}
use Rattle.covhtml.specs.SectionRows.{behind, branch_row, branch_rows, branches_after, branches_from, front, is_before, is_of, line_rows, onto_rows, section_rows}

-- ---- what is cut

module _ {X : Type 0} (p : X → Bool) where
  pub passed : (x : X) (rest others : List X) → rest ≡ x ∷ others → p x ≡ true → behind p rest ≡ behind p others
  passed x rest others is holds = let here : behind p (x ∷ others) ≡ behind p others = rw holds refl in ap (behind p) is ∙ here

  pub stopped : (x : X) (rest others : List X) → rest ≡ x ∷ others → p x ≡ false → behind p rest ≡ rest
  stopped x rest others is stops = let here : behind p (x ∷ others) ≡ x ∷ others = rw stops refl in ap (behind p) is ∙ here ∙ sym is

  pub ended : (rest : List X) → rest ≡ [] → behind p rest ≡ rest
  ended rest none = ap (behind p) none ∙ sym none

  -- both parts together
  pub parts : (xs : List X) → front p xs ++ behind p xs ≡ xs
  parts [] = refl
  parts (x ∷ xs) =
      elim (cases_Bool (p x)) [
        | inl holds ↦ rw holds (ap (λ (ys : List X). x ∷ ys) (parts xs))
        | inr stops ↦ rw stops refl
      ]

  pub behind_fits : (xs : List X) → length (behind p xs) ≤ length xs
  behind_fits xs = omega (arith, length-append (front p xs) (behind p xs), ap length (parts xs))

  -- what is behind is cut off the end
  front_taken : (xs : List X) → take (length xs - length (behind p xs)) xs ≡ front p xs
  front_taken xs =
      let count : length (front p xs) ≡ length xs - length (behind p xs) = omega (arith, length-append (front p xs) (behind p xs), ap length (parts xs)) in
      ap (λ (ys : List X). take (length xs - length (behind p xs)) ys) (sym (parts xs))
      ∙ take_at (front p xs) (behind p xs) (length xs - length (behind p xs)) count

-- ---- slices, seen as plain data

module _ {X Y : Type 0} (f : X → Y) (p : Y → Bool) (xs rest : List X) (is : map f rest ≡ behind p (map f xs)) where
  pub rest_fits : length rest ≤ length xs
  rest_fits = omega (arith, length-map rest f, length-map xs f, ap length is, behind_fits p (map f xs))

  pub front_seen : map f (take (length xs - length rest) xs) ≡ front p (map f xs)
  front_seen =
      let count : length xs - length rest ≡ length (map f xs) - length (behind p (map f xs)) = omega (arith, length-map rest f, length-map xs f, ap length is) in
      sym (take-map f (length xs - length rest) xs) ∙ ap (λ (n : ℕ). take n (map f xs)) count ∙ front_taken p (map f xs)

-- ---- collecting

-- what is seen of a list with one more element
pub pushed : {X Y : Type 0} (f : X → Y) (xs new : List X) (x : X) → new ≡ xs ++ x ∷ [] → map f new ≡ map f xs ++ f x ∷ []
pushed f xs new x is = ap (map f) is ∙ map-append f xs (x ∷ [])

module _ {X Y : Type 0} (f : X → Y) (given : List Y) where
  pub collects : (xs new : List X) (x : X) (left more : List Y) → left ≡ f x ∷ more → map f xs ++ left ≡ given → new ≡ xs ++ x ∷ [] → map f new ++ more ≡ given
  collects xs new x left more next so_far push =
      ap (λ (ys : List Y). ys ++ more) (pushed f xs new x push)
      ∙ append_assoc (map f xs) (f x ∷ []) more
      ∙ ap (λ (ys : List Y). map f xs ++ ys) (sym next)
      ∙ so_far

  pub collected : (xs : List X) (left : List Y) → left ≡ [] → map f xs ++ left ≡ given → map f xs ≡ given
  collected xs left none so_far = sym (append-nil (map f xs)) ∙ ap (λ (ys : List Y). map f xs ++ ys) (sym none) ∙ so_far

-- ---- rows of branches alone

-- the row of the branches of a line, and the rows of the branches behind them
abbrev line_first : (line : ℕ) → List BranchValueData → List RowData
line_first line branches = branch_row line (front (is_of line) branches) ∷ branch_rows (behind (is_of line) branches)

-- the first branch is of its own line
own_first : (b : BranchValueData) (branches : List BranchValueData)
    → line_first b.point.line (b ∷ branches) ≡ branch_row b.point.line (b ∷ front (is_of b.point.line) branches) ∷ branch_rows (behind (is_of b.point.line) branches)
own_first b branches = rw (eq-eqb b.point.line b.point.line refl) refl

same_line : (b c : BranchValueData) (branches : List BranchValueData) → is_of c.point.line b ≡ true → onto_rows b (line_first c.point.line (c ∷ branches)) ≡ line_first b.point.line (b ∷ c ∷ branches)
same_line b c branches same =
    let put : onto_rows b (line_first c.point.line (c ∷ branches)) ≡ branch_row c.point.line (b ∷ front (is_of c.point.line) (c ∷ branches)) ∷ branch_rows (behind (is_of c.point.line) (c ∷ branches)) = rw same refl in
    put
    ∙ ap (λ (n : ℕ). branch_row n (b ∷ front (is_of n) (c ∷ branches)) ∷ branch_rows (behind (is_of n) (c ∷ branches))) (sym (eqb-true b.point.line c.point.line same))
    ∙ sym (own_first b (c ∷ branches))

other_way : (m n : ℕ) → (m == n) ≡ false → (n == m) ≡ false
other_way m n differ = ne_eqb n m (λ (same : n ≡ m). eqb-false m n differ (sym same))

other_line : (b c : BranchValueData) (branches : List BranchValueData) → is_of c.point.line b ≡ false → branch_rows (c ∷ branches) ≡ line_first c.point.line (c ∷ branches)
    → onto_rows b (line_first c.point.line (c ∷ branches)) ≡ line_first b.point.line (b ∷ c ∷ branches)
other_line b c branches other those =
    let put : onto_rows b (line_first c.point.line (c ∷ branches)) ≡ branch_row b.point.line (b ∷ []) ∷ line_first c.point.line (c ∷ branches) = rw other refl in
    let alone : branch_row b.point.line (b ∷ front (is_of b.point.line) (c ∷ branches)) ∷ branch_rows (behind (is_of b.point.line) (c ∷ branches)) ≡ branch_row b.point.line (b ∷ []) ∷ branch_rows (c ∷ branches) =
    rw (other_way b.point.line c.point.line other) refl in
    put
    ∙ ap (λ (rows : List RowData). branch_row b.point.line (b ∷ []) ∷ rows) (sym those)
    ∙ sym alone
    ∙ sym (own_first b (c ∷ branches))

-- the branches of the first line, and the other branches
first_line : (b : BranchValueData) (branches : List BranchValueData) → branch_rows (b ∷ branches) ≡ line_first b.point.line (b ∷ branches)
first_line b [] = sym (own_first b [])
first_line b (c ∷ branches) =
    elim (cases_Bool (is_of c.point.line b)) [
      | inl same ↦ ap (onto_rows b) (first_line c branches) ∙ same_line b c branches same
      | inr other ↦ ap (onto_rows b) (first_line c branches) ∙ other_line b c branches other (first_line c branches)
    ]

-- one more row is appended
pub branch_row_put : (b : BranchValueData) (rest more later : List BranchValueData) (rows new whole : List RowData) → rest ≡ b ∷ more → later ≡ behind (is_of b.point.line) rest
    → new ≡ rows ++ branch_row b.point.line (front (is_of b.point.line) rest) ∷ [] → rows ++ branch_rows rest ≡ whole → new ++ branch_rows later ≡ whole
branch_row_put b rest more later rows new whole next is put so_far =
    ap (λ (x : List RowData). x ++ branch_rows later) put
    ∙ append_assoc rows (branch_row b.point.line (front (is_of b.point.line) rest) ∷ []) (branch_rows later)
    ∙ ap (λ (bs : List BranchValueData). rows ++ (branch_row b.point.line (front (is_of b.point.line) rest) ∷ branch_rows bs)) is
    ∙ ap (λ (bs : List BranchValueData). rows ++ (branch_row b.point.line (front (is_of b.point.line) bs) ∷ branch_rows (behind (is_of b.point.line) bs))) next
    ∙ ap (λ (x : List RowData). rows ++ x) (sym (first_line b more))
    ∙ ap (λ (bs : List BranchValueData). rows ++ branch_rows bs) (sym next)
    ∙ so_far

pub branch_rows_end : (rest : List BranchValueData) (rows whole : List RowData) → rest ≡ [] → rows ++ branch_rows rest ≡ whole → rows ≡ whole
branch_rows_end rest rows whole none so_far = sym (append-nil rows) ∙ ap (λ (bs : List BranchValueData). rows ++ branch_rows bs) (sym none) ∙ so_far

-- fewer branches are left without those of the first line
pub fewer : (b : BranchValueData) (rest more : List BranchValueData) → rest ≡ b ∷ more → length (behind (is_of b.point.line) rest) < length rest
fewer b rest more next =
    let here : behind (is_of b.point.line) (b ∷ more) ≡ behind (is_of b.point.line) more = rw (eq-eqb b.point.line b.point.line refl) refl in
    omega (arith, ap length next, ap (λ (bs : List BranchValueData). length (behind (is_of b.point.line) bs)) next, ap length here, behind_fits (is_of b.point.line) more)

-- ---- rows of lines

pub line_put : (l : LineValueData) (left more : List LineValueData) (rest later : List BranchValueData) (rows new whole : List RowData) → left ≡ l ∷ more → later ≡ branches_after l.line rest
    → new ≡ rows ++ line_rows l rest → rows ++ section_rows left rest ≡ whole → new ++ section_rows more later ≡ whole
line_put l left more rest later rows new whole next is put so_far =
    ap (λ (x : List RowData). x ++ section_rows more later) put
    ∙ append_assoc rows (line_rows l rest) (section_rows more later)
    ∙ ap (λ (bs : List BranchValueData). rows ++ (line_rows l rest ++ section_rows more bs)) is
    ∙ ap (λ (ls : List LineValueData). rows ++ section_rows ls rest) (sym next)
    ∙ so_far

-- no lines are left: the rows of the branches that are left come last
pub lines_end : (left : List LineValueData) (rest : List BranchValueData) (rows whole : List RowData) → left ≡ [] → rows ++ section_rows left rest ≡ whole → rows ++ branch_rows rest ≡ whole
lines_end left rest rows whole none so_far = ap (λ (ls : List LineValueData). rows ++ section_rows ls rest) (sym none) ∙ so_far

-- the rows before a line, and the line's own row
pub line_is : (l : LineValueData) (branches earlier own rest : List BranchValueData) (rows between new : List RowData) (row : RowData) → rest ≡ branches_from l.line branches
    → earlier ≡ front (is_before l.line) branches → own ≡ front (is_of l.line) rest → row ≡ record { number = l.line; count = Some l.count; branches = own }
    → between ≡ rows ++ branch_rows earlier → new ≡ between ++ row ∷ [] → new ≡ rows ++ line_rows l branches
line_is l branches earlier own rest rows between new row rest_is earlier_is own_is row_is first second =
    second
    ∙ ap (λ (x : List RowData). x ++ row ∷ []) (first ∙ ap (λ (bs : List BranchValueData). rows ++ branch_rows bs) earlier_is)
    ∙ append_assoc rows (branch_rows (front (is_before l.line) branches)) (row ∷ [])
    ∙ ap (λ (r : RowData). rows ++ (branch_rows (front (is_before l.line) branches) ++ r ∷ [])) row_is
    ∙ ap (λ (bs : List BranchValueData). rows ++ (branch_rows (front (is_before l.line) branches) ++ record { number = l.line; count = Some l.count; branches = bs } ∷ []))
    (own_is ∙ ap (front (is_of l.line)) rest_is)
